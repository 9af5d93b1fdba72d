use Rattle.std.proofs.Common.{◌++◌, sym, ap, subst, ◌∙◌, map, refl}
use Rattle.sqlite.specs.Held.{state}
use Rattle.sqlite.specs.Effect.{Database}
use Rattle.sqlite_rules.specs.Lists.{Has}
use Rattle.settle.specs.Reads.{AreInBlock}
use Rattle.sql_rows.specs.Content.{content_in}
use Rattle.sql_store.specs.Blocks.{AreNumbers, number_in_use}
use Rattle.sql_store.specs.Store.{content_at}
use Rattle.sql_store.specs.declared.blocks.Role.TheVariants.{Open}
use Rattle.sql_store.proofs.BlockLemmas.{block_is}
use Rattle.sql_store.proofs.blocks.in_block.Goals as goal

pub returns-clause-value : goal.returns-clause-value
returns-clause-value g c up =
    let old = state g.S.Store c.args.db.now.conn in
    let block = c.args.block.number in
    let in_force = c.in_ok-in_force.in_force.items in
    let opened = c.in_ok-opened.opened.items in
    let mid_up = (c.in_ok-opened.ensures.queried.same refl up).was_open in
    let same = (c.in_ok-in_force.ensures.queried.same refl mid_up).now in
    let two = subst (λ (d : Database). AreNumbers (content_in d.trees) Open block opened) same
    (c.in_ok-opened.ensures.value up) in
    let listed =
    c.in_ok-tns.ensures ∙ ap (λ l. l ++ c.as_slice-2.result.now) c.as_slice.ensures.value
    ∙ ap (λ l. in_force ++ l) c.as_slice-2.ensures.value in
    let are = c.in_ok-numbers.ensures
    ∙ ap (λ l. map (number_in_use l c.as_slice-5.result.now) c.as_slice-3.result.now)
    c.as_slice-4.ensures.value
    ∙ ap (λ l. map (number_in_use in_force l) c.as_slice-3.result.now) c.as_slice-5.ensures.value
    ∙ ap (map (number_in_use in_force opened)) c.as_slice-3.ensures.value in
    subst (AreInBlock (content_at old) block) (sym are)
    (block_is (content_at old) block in_force opened _ (c.in_ok-in_force.ensures.value mid_up) two
    c.put_in_order.ensures.rises
    (λ x at. subst (λ l. Has l x) listed (c.put_in_order.ensures.only x at))
    (λ x at. c.put_in_order.ensures.each x (subst (λ l. Has l x) (sym listed) at)))
