-- Assignments: their effects and refusals.
use Rattle.std.specs.Prelude.{ℕ, ◌+◌, ◌≡◌, Bool, not, ◌==◌, nat_lt, List, [], ◌∷◌, Option, is_none, option_map}
use Rattle.numbers.specs.Subjects.{Block}
use Rattle.numbers.specs.Abstraction.{subject_of}
use Rattle.numbers.specs.declared.cic.Cic.{Cic}
use Rattle.version.specs.declared.version.Version.{Version as VersionImpl}
use Rattle.version.specs.Abstraction.{HasModel, model_of}
use Rattle.model.specs.Commands.{Command, Assign}
use Rattle.model.specs.Conditions.{limit, holds_of, takes_block}
use Rattle.model.specs.History.{CommandRequest, made_version}
use Rattle.model.specs.Refusals.{npac, first_refusal}
use Rattle.pool.specs.declared.assignment.Assignment.{Assignment}
use Rattle.pool.specs.declared.facts.BlockFacts.{BlockFacts}
use Rattle.pool.specs.Facts.{has_open_port}
use Rattle.model.specs.Windows.{WindowSet}

abbrev pub command_of : Assignment → Command
command_of a =
    Assign a.block.number a.holder.number a.routing.lrn.number (option_map (λ (c : Cic). c.number)
    a.routing.cic)

-- The tests of an assignment to a registered carrier, ascending by number.
abbrev pub assignment_tests : (caller : ℕ) → BlockFacts → List (ℕ × Bool)
assignment_tests caller facts =
    (2, not (caller == npac)) ∷ (3, is_none facts.code_holder) ∷ (7, not facts.is_lrn_good)
    ∷ (10, is_none facts.donor) ∷ (23, has_open_port facts.numbers.now)
    ∷ (24, holds_of (λ v. takes_block (model_of v).status) facts.last)
    ∷ (28, nat_lt limit (facts.next_id + 1)) ∷ []

abbrev pub assignment_refusal : (caller : ℕ) → BlockFacts → Option ℕ
assignment_refusal caller facts = first_refusal (assignment_tests caller facts)

-- Holds if v is the block's version that the assignment makes. Its only broadcast is its create.
pub record IsAssigned (present : WindowSet) (minute : ℕ) (a : Assignment) (donor : Option ℕ)
    (v : VersionImpl) : Type 0 where
  pub subject : subject_of v.subject ≡ Block a.block.number
  pub version : (id caller : ℕ) (all_carriers : List ℕ) →
      let made = made_version present id caller minute all_carriers donor
      (CommandRequest (command_of a)) in
      HasModel v made
