use Rattle.std.proofs.Common.{rules, ◌<◌, ap, sym, ◌∙◌, subst, length}
use Rattle.model.specs.Content.{Content}
use Rattle.store.specs.Tables.{content_of}
use Rattle.store.specs.declared.versions.Versions.{Versions}
use Rattle.store.proofs.VersionKeys.{spare-left, none-spare, no_keys, others-kept, row-keys-kept, indexed-written}
use Rattle.store.proofs.commit.write_version.Goals as goal

pub returns-then-is_only-clause-written : goal.returns-then-is_only-clause-written
returns-then-is_only-clause-written c =
    c.delete_version_keys.ensures.same
    ∙ ap (λ m. record (content_of c.args.tables.now) { versions = m }) c.write.ensures.written

pub returns-then-is_only-clause-indexed : goal.returns-then-is_only-clause-indexed
returns-then-is_only-clause-indexed c =
    let small : c.args.id < 18446744073709551616 = search rules in
    let present = c.needed_keys-present_keys in
    let spare = spare-left (content_of c.args.tables.now) c.args.id c.args.row.now present.result
    c.version_keys.result c.unneeded_keys.result present.ensures.own present.ensures.without
    c.version_keys.ensures c.unneeded_keys.ensures in
    indexed-written c.args.tables.now c.delete_version_keys.new.tables c.args.id c.args.row.now
    c.unneeded_keys.result spare c.delete_version_keys.ensures.keeps
    (ap (λ (m : Content). m.versions) c.delete_version_keys.ensures.same ∙ c.write.ensures.written)
    small c.requires.reserved.1 c.requires.indexed

pub returns-then-is_only-clause-others : goal.returns-then-is_only-clause-others
returns-then-is_only-clause-others c v other was =
    let present = c.needed_keys-present_keys in
    let spare = spare-left (content_of c.args.tables.now) c.args.id c.args.row.now present.result
    c.version_keys.result c.unneeded_keys.result present.ensures.own present.ensures.without
    c.version_keys.ensures c.unneeded_keys.ensures in (
      subst (λ n. v.0 < n) (sym (ap (λ (x : Versions). length x.rows.items)
          c.delete_version_keys.ensures.versions ∙ c.write.ensures.places)) was.0,
      row-keys-kept c.args.tables.now c.delete_version_keys.new.tables c.args.id c.args.row.now
          c.unneeded_keys.result spare c.delete_version_keys.ensures.keeps v.0 v.1
          (other c.if-is_only.true) was.1,
    )

pub returns-else-is_only-clause-written : goal.returns-else-is_only-clause-written
returns-else-is_only-clause-written c =
    ap (λ m. record (content_of c.args.tables.now) { versions = m }) c.write.ensures.written

pub returns-else-is_only-clause-indexed : goal.returns-else-is_only-clause-indexed
returns-else-is_only-clause-indexed c =
    let small : c.args.id < 18446744073709551616 = search rules in
    indexed-written c.args.tables.now (record c.args.tables.now { versions = c.write.new.self })
    c.args.id c.args.row.now no_keys (none-spare c.args.id c.args.row.now)
    (others-kept c.args.tables.now) c.write.ensures.written small c.requires.reserved.1
    c.requires.indexed

pub returns-else-is_only-clause-others : goal.returns-else-is_only-clause-others
returns-else-is_only-clause-others c v other was =
    (subst (λ n. v.0 < n) (sym c.write.ensures.places) was.0, was.1)
