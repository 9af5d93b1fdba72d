use Rattle.std.proofs.Common.{rules, ◌<◌, ◌∙◌, ap}
use Rattle.std.specs.Prelude.{◌==◌}
use Rattle.std.specs.FinMap.{get}
use Rattle.std.specs.HashMap.{spare}
use Rattle.settle.specs.Abstraction.{spid_of, lrn_of, code_of, block_of, block_row_of}
use Rattle.settle.specs.Changes.{put_row}
use Rattle.version.specs.Abstraction.{windows_of}
use Rattle.store.specs.Maps.{number_map}
use Rattle.store.proofs.Numbers.{number-written, seen-row, seen-set, if-mapped}
use Rattle.store.proofs.commit.write_rare_rows.Goals as goal

pub write_row-requires : goal.write_row-requires
write_row-requires c =
    if-mapped (0 < spare c.args.lrns.now) (λ e. (lrn_of e.0, e.1)) c.args.changes.now.lrn
    c.map-lrn.result (search rules) c.requires.lrns

pub write_row-requires-2 : goal.write_row-requires-2
write_row-requires-2 c =
    if-mapped (0 < spare c.args.codes.now) (λ e. (code_of e.0, e.1)) c.args.changes.now.code
    c.map-code.result (search rules) c.requires.codes

pub write_row-requires-3 : goal.write_row-requires-3
write_row-requires-3 c =
    if-mapped (0 < spare c.args.blocks.now) (λ e. (block_of e.0, e.1)) c.args.changes.now.block
    c.map-block.result (search rules) c.requires.blocks

pub write_row-requires-4 : goal.write_row-requires-4
write_row-requires-4 c =
    if-mapped (0 < spare c.args.sets.now) (λ s. (s.number, s.windows)) c.args.changes.now.set
    c.map-set.result (search rules) c.requires.sets

pub returns-clause-lrns : goal.returns-clause-lrns
returns-clause-lrns c k =
    number-written spid_of c.args.lrns.now c.write_row.new.table c.map-lrn.result
    c.write_row.ensures k
    ∙ ap (λ o. put_row ◌==◌ o k (get (number_map spid_of c.args.lrns.now) k))
    (seen-row lrn_of spid_of c.args.changes.now.lrn c.map-lrn.result (search rules))

pub returns-clause-codes : goal.returns-clause-codes
returns-clause-codes c k =
    number-written spid_of c.args.codes.now c.write_row-2.new.table c.map-code.result
    c.write_row-2.ensures k
    ∙ ap (λ o. put_row ◌==◌ o k (get (number_map spid_of c.args.codes.now) k))
    (seen-row code_of spid_of c.args.changes.now.code c.map-code.result (search rules))

pub returns-clause-blocks : goal.returns-clause-blocks
returns-clause-blocks c k =
    number-written block_row_of c.args.blocks.now c.write_row-3.new.table c.map-block.result
    c.write_row-3.ensures k
    ∙ ap (λ o. put_row ◌==◌ o k (get (number_map block_row_of c.args.blocks.now) k))
    (seen-row block_of block_row_of c.args.changes.now.block c.map-block.result (search rules))

pub returns-clause-sets : goal.returns-clause-sets
returns-clause-sets c k =
    number-written windows_of c.args.sets.now c.write_row-4.new.table c.map-set.result
    c.write_row-4.ensures k
    ∙ ap (λ o. put_row ◌==◌ o k (get (number_map windows_of c.args.sets.now) k))
    (seen-set c.args.changes.now.set c.map-set.result (search rules))
