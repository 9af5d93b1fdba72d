use Rattle.std.proofs.Common.{rules, ◌≡◌, true, false, cond, Some, None, ap, sym, ◌∙◌}
use Rattle.std.specs.Prelude.{◌==◌}
use Rattle.std.specs.List.{list_any}
use Rattle.numbers.specs.declared.spid.Spid.{Spid}
use Rattle.store.specs.WaitRows.{subject_of_row, spids_of}
use Rattle.store.proofs.OneRow.{any-seen}
use Rattle.store.proofs.waiting.Waiting.subject_for.Goals as goal

pub returns-then-is_among : goal.returns-then-is_among
returns-then-is_among c =
    let among : list_any (λ (k : Spid). c.args.carrier.number == k.number)
    (spids_of c.args.self.now) ≡ true = search rules in
    ap (λ s. Some s) c.subject.ensures
    ∙ ap (λ b. cond b (Some (subject_of_row c.args.self.now)) None)
    (sym (any-seen c.args.carrier.number (spids_of c.args.self.now) ∙ among))

pub returns-else-is_among : goal.returns-else-is_among
returns-else-is_among c =
    let among : list_any (λ (k : Spid). c.args.carrier.number == k.number)
    (spids_of c.args.self.now) ≡ false = search rules in
    ap (λ b. cond b (Some (subject_of_row c.args.self.now)) None)
    (sym (any-seen c.args.carrier.number (spids_of c.args.self.now) ∙ among))
