use Rattle.std.proofs.Common.{◌≡◌, ◌<◌, ◌≤◌, ◌∙◌, get_or, ap, arith, inl, inr, length, subst, sym}
use Rattle.std.proofs.Math.Nat.{eq-or-lt_of_le}
use Rattle.std.proofs.lemmas.List.{get_or-map}
use Rattle.repair.specs.Entries.{WindowSet, entry_of}
use Rattle.repair.specs.Contents.{entries_of}
use Rattle.repair.proofs.Present.{is_set, same_number}
use Rattle.repair.proofs.row.RegisterRows.present_set.Goals as goal
use Rattle.repair.proofs.row.RegisterRows.present_set.Goals.{in-WindowSet+else-set-self, in_default}

pub loop-row-preserved : goal.loop-row-preserved
loop-row-preserved c k d w below is =
    let rows = c.args.self.now.rows.items in
    let at = c.loop-row.row-index in
    let most : k ≤ at = omega (arith, below) in
    elim (eq-or-lt_of_le most) [
      | inl same ↦
          let one : c.row-item.result ≡ get_or rows at c.row-item.result =
          c.row-item.is ∙ ap (λ rs. get_or rs at c.row-item.result)
          c.deref-row-items.ensures.value in
          let own : entry_of c.row-item.result ≡ WindowSet c.args.self.now.present w =
          ap entry_of one
          ∙ sym (get_or-map entry_of rows at c.row-item.result d (omega (
            arith,
            subst (λ rs. at < length rs) c.deref-row-items.ensures.value c.loop-row-test.true,
          )))
          ∙ ap (λ n. get_or (entries_of rows) n d) (sym same) ∙ is in
          let set = is_set c.row-item.result c.args.self.now.present w own in
          elim c.match-row.branch [
            | in-WindowSet+else-set-self arm ↦ arm.if-set-self.false
                (same_number arm.in-WindowSet.set set.0 (sym arm.in-WindowSet.is ∙ set.1) ∙ set.2)
            | in_default arm ↦ arm.in_default.not-WindowSet set.0 set.1
          ]
      | inr before ↦ c.loop-row.invariant k d w before is
    ]
