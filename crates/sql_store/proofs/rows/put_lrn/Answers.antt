use Rattle.std.proofs.Common.{pos, ap, ◌∙◌, refl, ◌∷◌, []}
use Rattle.sqlite.specs.declared.types.Value.TheVariants.{Int, Text}
use Rattle.sqlite.specs.Held.{state}
use Rattle.sql_rows.specs.declared.statement.Table.TheVariants.{Lrn}
use Rattle.sql_rows.specs.Content.{owner_params}
use Rattle.sql_rows.proofs.PutLemmas.{put_lrn}
use Rattle.sql_store.specs.Changes.{with_lrn}
use Rattle.sql_rows.proofs.Backs.{lrn_back}
use Rattle.sql_store.proofs.LookupLemmas.{one_bound}
use Rattle.sql_store.proofs.MadeLemmas.{keyed_as, put_made, two_bound}
use Rattle.sql_rows.proofs.RowKeys.{lrn_keyed}
use Rattle.sql_store.proofs.rows.put_lrn.Goals as goal

pub returns : goal.returns
returns g c =
    let old = state g.S.Store c.args.conn.now in
    let new = state g.S.Store c.replace.new.conn in
    let n = c.args.lrn.number in
    let m = c.args.owner.number in
    put_made old new Lrn (Int (pos n) ∷ []) _ (owner_params n m) _ (with_lrn n m)
    (one_bound c.number-key.result (Int (pos n)) refl c.number-key.ensures)
    (two_bound c.number-key.result c.text.result (Int (pos n)) (Text _) refl refl
    c.number-key.ensures (c.text.ensures ∙ ap Text c.spid_bytes-bytes.ensures))
    c.in_ok-replace.ensures
    (λ shaped did. put_lrn old.now new.now shaped n m (lrn_back c.args.lrn c.args.owner) did)

pub replace-requires : goal.replace-requires
replace-requires g c =
    let n = c.args.lrn.number in
    let m = c.args.owner.number in
    keyed_as Lrn (Int (pos n) ∷ []) _ (owner_params n m) _
    (one_bound c.number-key.result (Int (pos n)) refl c.number-key.ensures)
    (two_bound c.number-key.result c.text.result (Int (pos n)) (Text _) refl refl
    c.number-key.ensures (c.text.ensures ∙ ap Text c.spid_bytes-bytes.ensures)) (lrn_keyed n m)
