use Rattle.std.proofs.Common.{ap, ◌∙◌, refl}
use Rattle.sqlite.specs.declared.types.Value.TheVariants.{Text}
use Rattle.sqlite.specs.Held.{state}
use Rattle.sql_rows.specs.declared.statement.Table.TheVariants.{Carrier}
use Rattle.sql_rows.specs.Content.{carrier_params}
use Rattle.sql_rows.proofs.PutLemmas.{put_carrier}
use Rattle.sql_store.specs.Changes.{with_carrier}
use Rattle.sql_store.proofs.LookupLemmas.{one_bound}
use Rattle.sql_store.proofs.MadeLemmas.{keyed_as, put_made}
use Rattle.sql_rows.proofs.RowKeys.{carrier_keyed}
use Rattle.sql_store.proofs.rows.put_carrier.Goals as goal

pub returns : goal.returns
returns g c =
    let old = state g.S.Store c.args.conn.now in
    let new = state g.S.Store c.replace.new.conn in
    let n = c.args.spid.number in
    put_made old new Carrier (carrier_params n) _ (carrier_params n) _ (with_carrier n)
    (one_bound c.text.result (Text _) refl (c.text.ensures ∙ ap Text c.spid_bytes-bytes.ensures))
    (one_bound c.text-2.result (Text _) refl (c.text-2.ensures
    ∙ ap Text c.spid_bytes-bytes.ensures)) c.in_ok-replace.ensures
    (λ shaped did. put_carrier old.now new.now shaped c.args.spid did)

pub replace-requires : goal.replace-requires
replace-requires g c =
    let n = c.args.spid.number in
    keyed_as Carrier (carrier_params n) _ (carrier_params n) _
    (one_bound c.text.result (Text _) refl (c.text.ensures ∙ ap Text c.spid_bytes-bytes.ensures))
    (one_bound c.text-2.result (Text _) refl (c.text-2.ensures
    ∙ ap Text c.spid_bytes-bytes.ensures)) (carrier_keyed n)
