use Rattle.std.proofs.Common.{pos, ap, ◌∙◌, refl, ◌∷◌, []}
use Rattle.sqlite.specs.declared.types.Value.TheVariants.{Int, Text}
use Rattle.sqlite.specs.Held.{state}
use Rattle.sql_rows.specs.declared.statement.Table.TheVariants.{Code}
use Rattle.sql_rows.specs.Content.{owner_params}
use Rattle.sql_rows.proofs.PutLemmas.{put_code}
use Rattle.sql_store.specs.Changes.{with_code}
use Rattle.sql_rows.proofs.Backs.{code_back}
use Rattle.sql_store.proofs.LookupLemmas.{one_bound}
use Rattle.sql_store.proofs.MadeLemmas.{keyed_as, put_made, two_bound}
use Rattle.sql_rows.proofs.RowKeys.{code_keyed}
use Rattle.sql_store.proofs.rows.put_code.Goals as goal

pub returns : goal.returns
returns g c =
    let old = state g.S.Store c.args.conn.now in
    let new = state g.S.Store c.replace.new.conn in
    let n = c.args.code.number in
    let m = c.args.owner.number in
    put_made old new Code (Int (pos n) ∷ []) _ (owner_params n m) _ (with_code n m)
    (one_bound c.number-key.result (Int (pos n)) refl (c.number-key.ensures
    ∙ ap (λ k. Int (pos k)) c.from.ensures))
    (two_bound c.number-key.result c.text.result (Int (pos n)) (Text _) refl refl
    (c.number-key.ensures ∙ ap (λ k. Int (pos k)) c.from.ensures) (c.text.ensures
    ∙ ap Text c.spid_bytes-bytes.ensures)) c.in_ok-replace.ensures
    (λ shaped did. put_code old.now new.now shaped n m (code_back c.args.code c.args.owner) did)

pub replace-requires : goal.replace-requires
replace-requires g c =
    let n = c.args.code.number in
    let m = c.args.owner.number in
    keyed_as Code (Int (pos n) ∷ []) _ (owner_params n m) _
    (one_bound c.number-key.result (Int (pos n)) refl (c.number-key.ensures
    ∙ ap (λ k. Int (pos k)) c.from.ensures))
    (two_bound c.number-key.result c.text.result (Int (pos n)) (Text _) refl refl
    (c.number-key.ensures ∙ ap (λ k. Int (pos k)) c.from.ensures) (c.text.ensures
    ∙ ap Text c.spid_bytes-bytes.ensures)) (code_keyed n m)
