use Rattle.std.proofs.Common.{rules, ◌≡◌, Some, None, ◌∙◌, [], ap, sym, subst}
use Rattle.std.specs.FinMap.{FinMap}
use Rattle.numbers.specs.Subjects.{Subject}
use Rattle.numbers.specs.Abstraction.{subject_of, key_of}
use Rattle.model.specs.Content.{wait_cmp, empty_content}
use Rattle.settle.specs.Lists.{items_of}
use Rattle.settle.specs.Reads.{AreWaitsAbout}
use Rattle.settle.specs.Abstraction.{spid_of}
use Rattle.store.specs.About.{broadcasts_of}
use Rattle.store.proofs.AboutListed.{about-are, none-about}
use Rattle.store.proofs.SubjectsListed.{if_ok}
use Rattle.store.proofs.waits.Waits.about.Goals as goal

pub returns-in-None : goal.returns-in-None
returns-in-None c =
    let none : broadcasts_of c.self.inside.about.entries (key_of c.args.subject) ≡ None =
    ap (broadcasts_of c.self.inside.about.entries) (sym c.rank_of.ensures) ∙ search rules in
    subst (λ (m : FinMap wait_cmp Subject). AreWaitsAbout (record empty_content { waits = m })
    (spid_of c.args.carrier) (subject_of c.args.subject) []) c.self.view_is
    (none-about c.self.inside.rows.entries c.args.carrier c.args.subject
    c.self.inside.about.entries c.self.invariant.0.0 none)

pub returns-in-Some : goal.returns-in-Some
returns-in-Some c =
    let there : broadcasts_of c.self.inside.about.entries (key_of c.args.subject)
    ≡ Some c.in-Some.broadcasts.now =
    ap (broadcasts_of c.self.inside.about.entries) (sym c.rank_of.ensures) ∙ search rules in
    if_ok (λ found is. subst (λ (m : FinMap wait_cmp Subject).
    AreWaitsAbout (record empty_content { waits = m }) (spid_of c.args.carrier)
    (subject_of c.args.subject) (items_of found)) c.self.view_is
    (about-are c.self.inside.rows.entries c.args.carrier c.args.subject
    c.self.inside.about.entries c.self.invariant.0.0 c.in-Some.broadcasts.now there is.1
    (items_of found) is.0))
    c.pending_among.result c.pending_among.ensures
