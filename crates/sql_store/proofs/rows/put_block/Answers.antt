use Rattle.std.proofs.Common.{pos, ap, ◌∙◌, refl, ◌∷◌, [], IsTrue, rules}
use Rattle.sqlite.specs.declared.types.Value.TheVariants.{Int}
use Rattle.sqlite.specs.Held.{state}
use Rattle.sql_rows.specs.declared.statement.Table.TheVariants.{Block}
use Rattle.sql_rows.specs.Content.{block_params}
use Rattle.sql_rows.proofs.PutLemmas.{put_block}
use Rattle.sql_store.specs.Changes.{with_block}
use Rattle.sql_rows.proofs.Backs.{block_back}
use Rattle.sql_rows.proofs.BoundLemmas.{bound_block}
use Rattle.settle.specs.Abstraction.{block_row_of}
use Rattle.sql_store.proofs.LookupLemmas.{one_bound}
use Rattle.sql_store.proofs.MadeLemmas.{keyed_as, put_made}
use Rattle.sql_rows.proofs.RowKeys.{block_keyed}
use Rattle.sql_store.proofs.rows.put_block.Goals as goal

pub returns : goal.returns
returns g c =
    let old = state g.S.Store c.args.conn.now in
    let new = state g.S.Store c.replace.new.conn in
    let n = c.args.block.number in
    let row = c.args.row.now in
    let fit : IsTrue c.fits_block.result = search rules in
    put_made old new Block (Int (pos n) ∷ []) _ (block_params n (block_row_of row)) _
    (with_block n (block_row_of row)) (one_bound c.number.result (Int (pos n)) refl
    (c.number.ensures ∙ ap (λ k. Int (pos k)) c.from-key.ensures))
    (bound_block _ n (block_row_of row) (c.block_params-params.ensures
    ∙ ap (λ k. block_params k (block_row_of row)) c.from-key.ensures))
    c.in_ok-replace.ensures
    (λ shaped did. put_block old.now new.now shaped n (block_row_of row)
    (block_back c.args.block row (c.fits_block.ensures fit)) did)

pub replace-requires : goal.replace-requires
replace-requires g c =
    let n = c.args.block.number in
    let row = block_row_of c.args.row.now in
    keyed_as Block (Int (pos n) ∷ []) _ (block_params n row) _
    (one_bound c.number.result (Int (pos n)) refl (c.number.ensures
    ∙ ap (λ k. Int (pos k)) c.from-key.ensures))
    (bound_block _ n row (c.block_params-params.ensures
    ∙ ap (λ k. block_params k row) c.from-key.ensures)) (block_keyed n row)
