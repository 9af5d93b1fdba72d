use Rattle.std.proofs.Common.{sym, subst, ◌∙◌, refl, rules, ◌≡◌, true, false, is_ok}
use Rattle.sqlite.specs.Held.{state}
use Rattle.sqlite.specs.Effect.{Database}
use Rattle.sql_rows.specs.Content.{block_row_in, code_row_in, lrn_row_in}
use Rattle.sql_rows.specs.declared.statement.Table.TheVariants.{Lrn, Code, Block}
use Rattle.sql_store.specs.Store.{HasQueried}
use Rattle.sql_store.specs.Whole.{IsRead, ReadsRegistry}
use Rattle.sql_store.proofs.CallLemmas.{looked_then}
use Rattle.sql_store.proofs.WholeLemmas.{registry_told}
use Rattle.sql_store.proofs.whole.read_registry.Goals as goal

pub returns-clause-value : goal.returns-clause-value
returns-clause-value g c up =
    let db = (state g.S.Store c.args.db.now.conn).now.trees in
    let fourth = c.in_ok-blocks.ensures.queried.same refl up in
    let third = c.in_ok-codes.ensures.queried.same refl fourth.was_open in
    let second = c.in_ok-lrns.ensures.queried.same refl third.was_open in
    let first = c.in_ok-carriers.ensures.queried.same refl second.was_open in
    let two = second.now ∙ first.now in
    let three = third.now ∙ two in
    subst (ReadsRegistry db) (sym c.are_blank.ensures)
    (registry_told db c.in_ok-carriers.carriers c.in_ok-lrns.lrns c.in_ok-codes.codes
    c.in_ok-blocks.blocks (c.in_ok-carriers.ensures.value second.was_open)
    (subst (λ (d : Database). IsRead Lrn lrn_row_in d.trees c.in_ok-lrns.lrns) first.now
    (c.in_ok-lrns.ensures.value third.was_open))
    (subst (λ (d : Database). IsRead Code code_row_in d.trees c.in_ok-codes.codes) two
    (c.in_ok-codes.ensures.value fourth.was_open))
    (subst (λ (d : Database). IsRead Block block_row_in d.trees c.in_ok-blocks.blocks) three
    (c.in_ok-blocks.ensures.value up)))

pub returns-in_err-blocks-clause-queried : goal.returns-in_err-blocks-clause-queried
returns-in_err-blocks-clause-queried g c =
    let fails : is_ok c.from_residual-in_err-blocks.result ≡ false = search rules in
    let two = looked_then _ _ _ true c.in_ok-carriers.ensures.queried
    c.in_ok-lrns.ensures.queried in
    let three = looked_then _ _ _ true two c.in_ok-codes.ensures.queried in
    subst (HasQueried _ _) (sym fails)
    (looked_then _ _ _ false three c.in_err-blocks.ensures.queried)

pub returns-clause-queried : goal.returns-clause-queried
returns-clause-queried g c =
    let two = looked_then _ _ _ true c.in_ok-carriers.ensures.queried
    c.in_ok-lrns.ensures.queried in
    let three = looked_then _ _ _ true two c.in_ok-codes.ensures.queried in
    looked_then _ _ _ true three c.in_ok-blocks.ensures.queried
