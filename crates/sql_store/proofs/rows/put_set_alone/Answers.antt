use Rattle.std.proofs.Common.{pos, refl, rules, ap, ◌∙◌, ◌<◌, ◌≤◌, ◌∷◌, []}
use Rattle.std.specs.FinMap.{get, insert}
use Rattle.sqlite.specs.declared.types.Value.TheVariants.{Int}
use Rattle.sqlite.specs.Held.{state}
use Rattle.version.specs.Abstraction.{windows_of}
use Rattle.sql_rows.specs.declared.statement.Table.TheVariants.{WindowSet}
use Rattle.sql_rows.specs.Content.{clocks_in, content_in, set_params}
use Rattle.sql_rows.proofs.PutLemmas.{put_set}
use Rattle.sql_rows.proofs.Backs.{set_back}
use Rattle.sql_rows.proofs.BoundLemmas.{bound_set}
use Rattle.sql_store.specs.Changes.{with_set_alone}
use Rattle.sql_store.proofs.Changed.{set_alone}
use Rattle.sql_store.proofs.LookupLemmas.{one_bound}
use Rattle.sql_store.proofs.MadeLemmas.{keyed_as, put_made}
use Rattle.sql_rows.proofs.RowKeys.{set_keyed}
use Rattle.sql_store.proofs.rows.put_set_alone.Goals as goal

pub returns : goal.returns
returns g c =
    let old = state g.S.Store c.args.conn.now in
    let new = state g.S.Store c.replace.new.conn in
    let set = c.args.set in
    let windows = windows_of set.windows in
    let least : 0 < set.number = search rules in
    let most : set.number ≤ 1000 = search rules in
    put_made old new WindowSet (Int (pos set.number) ∷ []) _ (set_params set.number windows) _
    (with_set_alone set.number windows)
    (one_bound c.number-key.result (Int (pos set.number)) refl (c.number-key.ensures
    ∙ ap (λ k. Int (pos k)) c.from.ensures)) (bound_set _ set.number windows c.set_params.ensures)
    c.in_ok-replace.ensures
    (λ shaped did. let b = put_set old.now new.now shaped set.number windows (set_back set least
    most) did in record {
      schema = b.schema;
      shaped = b.shaped;
      is = b.is ∙ ap (λ clock. record (content_in old.now.trees) {
        sets = insert (content_in old.now.trees).sets set.number windows;
        clock = clock;
      }) (set_alone set.number windows (content_in old.now.trees).sets
          (get (clocks_in (old.now.trees 21)) 0));
    })

pub replace-requires : goal.replace-requires
replace-requires g c =
    let n = c.args.set.number in
    let windows = windows_of c.args.set.windows in
    keyed_as WindowSet (Int (pos n) ∷ []) _ (set_params n windows) _
    (one_bound c.number-key.result (Int (pos n)) refl (c.number-key.ensures
    ∙ ap (λ k. Int (pos k)) c.from.ensures)) (bound_set _ n windows c.set_params.ensures)
    (set_keyed n windows)
