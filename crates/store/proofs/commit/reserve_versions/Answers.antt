use Rattle.std.proofs.Common.{◌≡◌, ◌<◌, ◌≤◌, refl, ap, sym, ◌∙◌, subst, length}
use Rattle.std.proofs.lemmas.List.{drop_all}
use Rattle.settle.proofs.Rest.{rest_at}
use Rattle.store.specs.Batch.{AreReserved}
use Rattle.store.specs.declared.versions.Versions.{Versions}
use Rattle.store.proofs.Reserved.{KeepRoom, room-kept, room-then, reserved-later, places-same, places-indexed}
use Rattle.store.proofs.VersionKeys.{indexed-kept}
use Rattle.store.proofs.commit.reserve_versions.Goals as goal

pub loop-id-init : goal.loop-id-init
loop-id-init c = record {
  same = refl;
  indexed = c.requires;
  reserved = λ last keeps rest. rest;
}

pub returns-in_err-reserve-clause-same : goal.returns-in_err-reserve-clause-same
returns-in_err-reserve-clause-same c =
    places-same c.loop-id.tables c.reserve.new.self c.reserve.ensures.same
    ∙ c.loop-id.invariant.same

pub returns-in_err-reserve-clause-indexed : goal.returns-in_err-reserve-clause-indexed
returns-in_err-reserve-clause-indexed c =
    places-indexed c.loop-id.tables c.reserve.new.self c.reserve.ensures.same
    c.loop-id.invariant.indexed

pub put_row_keys-requires : goal.put_row_keys-requires
put_row_keys-requires c =
    places-indexed c.loop-id.tables c.reserve.new.self c.reserve.ensures.same
    c.loop-id.invariant.indexed

pub returns-in_err-put_row_keys-clause-same : goal.returns-in_err-put_row_keys-clause-same
returns-in_err-put_row_keys-clause-same c =
    c.put_row_keys.ensures.same
    ∙ places-same c.loop-id.tables c.reserve.new.self c.reserve.ensures.same
    ∙ c.loop-id.invariant.same

pub returns-in_err-put_row_keys-clause-indexed : goal.returns-in_err-put_row_keys-clause-indexed
returns-in_err-put_row_keys-clause-indexed c =
    indexed-kept (record c.loop-id.tables { versions = c.reserve.new.self })
    c.put_row_keys.new.tables (ap (λ m. m.versions) c.put_row_keys.ensures.same)
    c.put_row_keys.ensures.keeps
    (places-indexed c.loop-id.tables c.reserve.new.self c.reserve.ensures.same
    c.loop-id.invariant.indexed)

pub loop-id-preserved : goal.loop-id-preserved
loop-id-preserved c =
    let e = c.loop-id-item.result in
    let new = c.put_row_keys.new.tables in
    let versions : new.versions ≡ c.reserve.new.self = c.put_row_keys.ensures.versions in
    let step : KeepRoom c.loop-id.tables new = record {
      places = subst (λ (v : Versions). length c.loop-id.tables.versions.rows.items
          ≤ length v.rows.items) (sym versions) c.reserve.ensures.keeps;
      keys = c.put_row_keys.ensures.keeps;
    } in
    let inside : e.0 < length new.versions.rows.items =
    subst (λ (v : Versions). e.0 < length v.rows.items) (sym versions)
    c.in_ok-reserve.ensures.there in
    record {
      same = c.put_row_keys.ensures.same
          ∙ places-same c.loop-id.tables c.reserve.new.self c.reserve.ensures.same
          ∙ c.loop-id.invariant.same;
      indexed = indexed-kept (record c.loop-id.tables { versions = c.reserve.new.self }) new
          (ap (λ m. m.versions) c.put_row_keys.ensures.same) c.put_row_keys.ensures.keeps
          (places-indexed c.loop-id.tables c.reserve.new.self c.reserve.ensures.same
          c.loop-id.invariant.indexed);
      reserved = λ last keeps rest. c.loop-id.invariant.reserved last
          (room-then c.loop-id.tables new last step keeps)
          (subst (λ vs. AreReserved vs last) (sym (rest_at c.args.versions.now c.loop-id.id-index e
          c.loop-id-test.true c.loop-id-item.is))
          (reserved-later e new last keeps (inside, c.in_ok-put_row_keys.ensures.there), rest));
    }

pub returns-clause-reserved : goal.returns-clause-reserved
returns-clause-reserved c =
    c.loop-id.invariant.reserved c.loop-id.tables (room-kept c.loop-id.tables)
    (subst (λ vs. AreReserved vs c.loop-id.tables)
    (sym (drop_all c.loop-id.id-index c.args.versions.now c.loop-id-test.false)) tt)
