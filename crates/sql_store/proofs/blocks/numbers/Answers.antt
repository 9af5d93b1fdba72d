use Rattle.std.proofs.Common.{◌≡◌, ◌∷◌, [], ◌+◌, ◌*◌, pos, arith, ap, subst, ◌∙◌, map, refl}
use Rattle.std.specs.List.{filter_map}
use Rattle.settle.specs.declared.rows.NumberedRow.{NumberedRow}
use Rattle.sqlite.specs.Held.{state}
use Rattle.sqlite.specs.declared.types.Value.TheVariants.{Int}
use Rattle.sql_rows.specs.Found.{IsListAnswer}
use Rattle.sql_rows.specs.Versions.{version_in}
use Rattle.sql_rows.proofs.QueriesListed.{version_seen}
use Rattle.sqlite.specs.Values.{bound}
use Rattle.sql_store.specs.Blocks.{number_by, query_by}
use Rattle.sql_rows.specs.Content.{bare_in}
use Rattle.sql_store.proofs.LookupLemmas.{two_bound}
use Rattle.sql_store.proofs.BlockLemmas.{numbers_are, numbers_whole, standing_picked}
use Rattle.sql_store.proofs.blocks.numbers.Goals as goal

pub returns-clause-value : goal.returns-clause-value
returns-clause-value g c up =
    let old = state g.S.Store c.args.db.now.conn in
    let found = c.in_ok-found.found.items in
    let block = c.args.block.number in
    let was = (c.in_ok-found.ensures.queried.same refl up).was_open in
    let same : c.from-first.result ≡ block = omega arith in
    let params = two_bound c.number.result c.number-2.result (block * 1000) (block * 1000 + 999)
    (c.number.ensures ∙ ap (λ k. Int (pos (k * 1000))) same) (c.number-2.ensures
    ∙ ap (λ k. Int (pos (k * 1000 + 999))) same) in
    let asked =
    subst (λ q. IsListAnswer q version_in old.now.trees
    (bound (c.number.result ∷ c.number-2.result ∷ [])) (map version_seen found)) c.query.ensures
    (c.in_ok-found.ensures.value up) in
    let answer =
    subst (λ p. IsListAnswer (query_by c.args.role) version_in old.now.trees p
    (map version_seen found)) params asked in
    let are = c.in_ok-tns.ensures
    ∙ ap (filter_map (λ (v : NumberedRow). number_by c.args.role v.row))
    c.as_slice.ensures.value in
    numbers_whole old.now.trees c.args.role block _ (numbers_are (bare_in old.now.trees)
    c.args.role block found _ (standing_picked old.now.trees (c.args.db.now.ours was).shaped
    c.args.role (block * 1000) (block * 1000 + 999) found answer) are)
