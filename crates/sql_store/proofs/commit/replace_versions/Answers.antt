use Rattle.std.proofs.Common.{◌≡◌, ◌<◌, ◌≤◌, List, [], ◌∷◌, ap, arith, is_ok, length, slice_index_or, sym, ◌∙◌}
use Rattle.sqlite.specs.Held.{state}
use Rattle.sql_store.specs.Changes.{replaced}
use Rattle.sql_store.proofs.CallLemmas.{alike, makes_then}
use Rattle.sql_store.proofs.Changed.{one_replaced}
use Rattle.sql_store.proofs.commit.replace_versions.Goals as goal

sole_item : {X : Type 0} (xs : List X) (x : X) → 1 ≤ length xs → length xs < 2
    → x ≡ slice_index_or xs 0 x → xs ≡ x ∷ []
sole_item [] x least most is = absurd (omega (arith, least))
sole_item (y ∷ []) x least most is = ap (λ z. z ∷ []) (sym is)
sole_item (y ∷ z ∷ zs) x least most is = absurd (omega (arith, most))

pub returns-in-len1 : goal.returns-in-len1
returns-in-len1 g c =
    let rows = c.args.rows.now in
    let row = c.row-item.result in
    alike (state g.S.Store c.args.conn.now) (state g.S.Store c.put_version.new.conn)
    (is_ok c.put_version.result) _ (replaced rows)
    (λ m. one_replaced row m ∙ ap (λ l. replaced l m) (sym (sole_item rows row
    c.in-len1.len_at_least c.in-len1.len_below c.row-item.is)))
    c.put_version.ensures

pub returns : goal.returns
returns g c =
    makes_then (state g.S.Store c.args.conn.now) (state g.S.Store c.clear_versions.new.conn)
    (state g.S.Store c.put_versions.new.conn) (is_ok c.put_versions.result) _ _
    c.in_ok-clear_versions.ensures c.put_versions.ensures
