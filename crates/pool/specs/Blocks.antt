-- The facts of a block in a state.
use Rattle.std.specs.Prelude.{ℕ, ◌≡◌, ◌<◌, false, not, ◌&&◌, List, map, filter, length, is_some}
use Rattle.std.specs.List.{list_any}
use Rattle.numbers.specs.Digits.{block_code_of, number_in}
use Rattle.numbers.specs.Subjects.{Subject, Number, Block, subject_eq}
use Rattle.version.specs.declared.in_use.NumberInUse.{NumberInUse}
use Rattle.version.specs.Facts.{HasModelIfAny}
use Rattle.model.specs.Commands.{Command}
use Rattle.model.specs.Versions.{in_force, last_version, version_in_force}
use Rattle.model.specs.History.{code_holder, donor_of, next_id}
use Rattle.model.specs.State.{State, SubjectVersion, all_versions, record_now, next_of}
use Rattle.model.specs.Refusals.{holds_at, own_tests, is_in_block, has_open_port as has_open_port_in}
use Rattle.model.specs.Laws.{IsReachable}
use Rattle.pool.specs.declared.facts.BlockFacts.{BlockFacts}
use Rattle.pool.specs.Facts.{carrier_number, has_open_port, in_force_numbers}
use Rattle.pool.specs.Donations.{unnamed}

-- Holds if the facts are those of a block in the state, for this command of the caller.
pub record BlockFactsMatch (st : State) (caller block : ℕ) (c : Command)
    (facts : BlockFacts) : Type 0 where
  pub code : carrier_number facts.code_holder ≡ code_holder (block_code_of block) st.history
  pub lrn : facts.is_lrn_good ≡ not (holds_at 7 (own_tests st caller c))
  pub donor : carrier_number facts.donor ≡ donor_of block st.history
  pub last : HasModelIfAny facts.last (last_version (record_now st (Block block)))
  pub ports : has_open_port facts.numbers.now ≡ has_open_port_in st block
  pub next_id : facts.next_id ≡ next_of st

-- Holds if the numbers with a version in force are the block's in the state: the same lines, and as
-- many besides any used ones.
pub record NumbersMatch (st : State) (block : ℕ) (numbers : List NumberInUse) : Type 0 where
  pub lines : (line : ℕ) → line < 1000 →
      list_any (subject_eq (Number (number_in block line))) (in_force_numbers numbers)
      ≡ is_some (version_in_force (record_now st (Number (number_in block line))))
  pub others : (used : List Subject) →
      length (unnamed used (in_force_numbers numbers))
      ≡ length (filter (λ s. is_in_block block s && not (list_any (subject_eq s) used))
      (map (λ (e : SubjectVersion). e.subject) (filter (λ e. in_force e.version)
      (all_versions st))))

-- Holds if the command has the facts of a block in a reachable state, and names no unknown carrier.
pub record IsBlockCommandIn (st : State) (caller block : ℕ) (c : Command)
    (facts : BlockFacts) : Type 0 where
  pub reached : IsReachable st
  pub known : holds_at 1 (own_tests st caller c) ≡ false
  pub facts_match : BlockFactsMatch st caller block c facts
