-- The refusals of donations, assignments and releases are those of the table, and a donation makes
-- the versions that the model makes.
use Rattle.std.proofs.Common.{◌≡◌, ℕ, ◌+◌, ◌<◌, Bool, true, false, cond, not, ◌&&◌, ◌||◌, List, [], ◌∷◌, length, map, Option, Some, None, refl, ap, sym, ◌∙◌}
use Rattle.std.specs.Prelude.{◌==◌, nat_lt, filter, is_none, is_some, if◌then◌else◌}
use Rattle.std.specs.List.{list_any}
use Rattle.std.proofs.lemmas.List.{length-append}
use Rattle.numbers.specs.Subjects.{Subject, Number, Block, subject_eq}
use Rattle.numbers.specs.declared.line.Line.{Line}
use Rattle.version.specs.declared.in_use.NumberInUse.{NumberInUse}
use Rattle.numbers.specs.declared.spid.Spid.{Spid}
use Rattle.version.specs.declared.version.Version.{Version as VersionImpl}
use Rattle.version.specs.Abstraction.{version_of, model_of}
use Rattle.version.specs.Facts.{HasModelIfAny}
use Rattle.model.specs.Commands.{Release}
use Rattle.model.specs.Versions.{Version, Broadcast, last_version, version_in_force, with_number}
use Rattle.model.specs.History.{CommandRequest, next_id, code_holder, donor_of, subjects_made_by, rising, AreLines}
use Rattle.model.specs.State.{State, record_now, next_of}
use Rattle.model.specs.Conditions.{limit, holds_of, is_the, is_active, takes_block, has_no_attempt_left}
use Rattle.model.specs.Refusals.{RequestFrom, tests, refusal, npac, first_refusal, holds_at, own_tests, contaminated_numbers as contaminated_in, has_open_port as has_open_port_in}
use Rattle.numbers.specs.Digits.{block_code_of, number_in}
use Rattle.pool.specs.declared.facts.BlockFacts.{BlockFacts}
use Rattle.pool.specs.declared.assignment.Assignment.{Assignment}
use Rattle.pool.specs.Facts.{carrier_number, in_force_numbers}
use Rattle.pool.specs.Blocks.{BlockFactsMatch, IsBlockCommandIn, NumbersMatch}
use Rattle.pool.specs.declared.donation.Donation.{Donation}
use Rattle.pool.specs.Donations.{command_of as donated, lines_of, used_by, unnamed, made_numbers, contaminated_numbers, donation_refusal}
use Rattle.pool.specs.Assignments.{command_of, assignment_refusal}
use Rattle.pool.specs.Releases.{is_others, release_refusal}
use Rattle.model.specs.Windows.{Windows}
use Rattle.model.proofs.Donated.{with_number-lines, rising-lines}
use Rattle.numbers.proofs.Small.{not_not}

none_carrier : (o : Option Spid) (p : Option ℕ) → carrier_number o ≡ p → is_none p ≡ is_none o
none_carrier None p is = ap is_none (sym is)
none_carrier (Some s) p is = ap is_none (sym is)

none_seen : (o : Option VersionImpl) (p : Option Version) → HasModelIfAny o p
    → is_none p ≡ is_none o
none_seen None None sees = refl
none_seen (Some u) (Some v) sees = refl
none_seen None (Some v) sees = absurd sees
none_seen (Some u) None sees = absurd sees

-- A test that depends on neither the id, the broadcasts nor the windows gives the same in code and
-- model.
holds_seen : (test : Version → Bool)
    → ((u : VersionImpl) (id : ℕ) (bs : List Broadcast) (ws : Windows)
    → test (version_of id bs ws u) ≡ test (model_of u))
    → (o : Option VersionImpl) (p : Option Version)
    → HasModelIfAny o p →
    holds_of test p ≡ holds_of (λ u. test (model_of u)) o
holds_seen test same None None sees = refl
holds_seen test same (Some u) (Some v) sees =
    ap test (sym sees) ∙ same u v.id v.broadcasts v.held.windows
holds_seen test same None (Some v) sees = absurd sees
holds_seen test same (Some u) None sees = absurd sees

others_seen : (caller : ℕ) (o : Option VersionImpl) (p : Option Version) → HasModelIfAny o p →
    (not (caller == npac) && holds_of (λ (v : Version). not (caller == v.new_provider)) p)
    ≡ holds_of (is_others caller) o
others_seen caller None None sees = by_cases (not (caller == npac))
  where
    by_cases : (b : Bool) → (b && false) ≡ false
    by_cases true = refl
    by_cases false = refl
others_seen caller (Some u) (Some v) sees =
    ap (λ (w : Version). not (caller == npac) && not (caller == w.new_provider)) (sym sees)
others_seen caller None (Some v) sees = absurd sees
others_seen caller (Some u) None sees = absurd sees

release_by_table : (st : State) (caller block : ℕ)
    → refusal st (RequestFrom caller (CommandRequest (Release block)))
    ≡ first_refusal ((1, holds_at 1 (own_tests st caller (Release block)))
    ∷ (3, is_none (code_holder (block_code_of block) st.history))
    ∷ (
      10,
      is_none (donor_of block st.history) || is_none (last_version (record_now st (Block block))),
    )
    ∷ (
      11,
      not (caller == npac) && holds_of (λ (v : Version). not (caller == v.new_provider))
          (last_version (record_now st (Block block))),
    )
    ∷ (
      13,
      holds_of (λ (v : Version). not (is_active v.status))
          (last_version (record_now st (Block block))),
    ) ∷ (23, has_open_port_in st block)
    ∷ (
      28,
      holds_of (λ (v : Version). has_no_attempt_left v.attempt)
          (last_version (record_now st (Block block))),
    ) ∷ [])
unfolding tests
release_by_table st caller block = refl

assign_by_table : (st : State) (caller : ℕ) (a : Assignment)
    → refusal st (RequestFrom caller (CommandRequest (command_of a)))
    ≡ first_refusal ((1, holds_at 1 (own_tests st caller (command_of a)))
    ∷ (2, not (caller == npac))
    ∷ (3, is_none (code_holder (block_code_of a.block.number) st.history))
    ∷ (7, holds_at 7 (own_tests st caller (command_of a)))
    ∷ (10, is_none (donor_of a.block.number st.history))
    ∷ (23, has_open_port_in st a.block.number)
    ∷ (
      24,
      holds_of (λ (v : Version). takes_block v.status)
          (last_version (record_now st (Block a.block.number))),
    ) ∷ (28, nat_lt limit (next_of st + 1)) ∷ [])
unfolding tests
assign_by_table st caller a = refl

donate_by_table : (st : State) (caller : ℕ) (d : Donation)
    → refusal st (RequestFrom caller (CommandRequest (donated d)))
    ≡ first_refusal ((1, holds_at 1 (own_tests st caller (donated d)))
    ∷ (3, is_none (code_holder (block_code_of d.block.number) st.history))
    ∷ (7, holds_at 7 (own_tests st caller (donated d))) ∷ (
      11,
      not (is_the caller (code_holder (block_code_of d.block.number) st.history)),
    )
    ∷ (
      22,
      nat_lt 100 (length (contaminated_in st d.block.number (lines_of d.used.now))),
    ) ∷ (23, has_open_port_in st d.block.number)
    ∷ (24, is_some (donor_of d.block.number st.history))
    ∷ (
      28,
      nat_lt limit (next_of st + length
          (subjects_made_by (CommandRequest (donated d)) (record_now st))),
    ) ∷ [])
unfolding tests
donate_by_table st caller d = refl

-- ---- lines

pub are_lines : (ls : List Line) → AreLines (lines_of ls)
are_lines [] = tt
are_lines (l ∷ ls) = (l.valid, are_lines ls)

none_or_some : {A : Type 0} (o : Option A) (b : Bool) → b ≡ is_some o → is_none o ≡ not b
none_or_some None true is = cc
none_or_some None false is = refl
none_or_some (Some x) true is = refl
none_or_some (Some x) false is = cc

picked_in : (st : State) (block : ℕ) (numbers : List NumberInUse) → NumbersMatch st block numbers
    → (ns : List ℕ) → AreLines ns →
    filter (λ s. is_none (version_in_force (record_now st s)))
    (map (λ line. Number (number_in block line)) ns)
    ≡ made_numbers (map (λ line. Number (number_in block line)) ns) (in_force_numbers numbers)
picked_in st block numbers are [] lines = refl
picked_in st block numbers are (n ∷ ns) lines =
    by_cases (picked_in st block numbers are ns lines.1)
    (is_none (version_in_force (record_now st (Number (number_in block n)))))
    (not (list_any (subject_eq (Number (number_in block n))) (in_force_numbers numbers)))
    (none_or_some (version_in_force (record_now st (Number (number_in block n))))
    (list_any (subject_eq (Number (number_in block n))) (in_force_numbers numbers))
    (are.lines n lines.0))
  where
    all : List Subject
    all = map (λ line. Number (number_in block line)) ns

    by_cases : filter (λ s. is_none (version_in_force (record_now st s))) all ≡ made_numbers all
        (in_force_numbers numbers) → (b c : Bool) → b ≡ c →
        cond b (Number (number_in block n) ∷ filter
        (λ s. is_none (version_in_force (record_now st s))) all)
        (filter (λ s. is_none (version_in_force (record_now st s))) all)
        ≡ cond c (Number (number_in block n) ∷ made_numbers all (in_force_numbers numbers))
        (made_numbers all (in_force_numbers numbers))
    by_cases later true true e = ap (λ ss. Number (number_in block n) ∷ ss) later
    by_cases later false false e = later
    by_cases later true false e = cc
    by_cases later false true e = cc

-- The numbers that get a version by the facts are those of the state.
pub donation_makes : (st : State) (d : Donation) (facts : BlockFacts)
    → NumbersMatch st d.block.number facts.numbers.now →
    subjects_made_by (CommandRequest (donated d)) (record_now st) ≡ made_numbers (used_by d)
    (in_force_numbers facts.numbers.now)
donation_makes st d facts are =
    picked_in st d.block.number facts.numbers.now are (rising (lines_of d.used.now))
    (rising-lines (lines_of d.used.now) (are_lines d.used.now))

donation_contaminates : (st : State) (caller : ℕ) (d : Donation) (facts : BlockFacts)
    → NumbersMatch st d.block.number facts.numbers.now →
    length (contaminated_in st d.block.number (lines_of d.used.now))
    ≡ length (contaminated_numbers (used_by d) (in_force_numbers facts.numbers.now))
donation_contaminates st caller d facts are =
    length-append (used_by d) _ ∙ ap (λ n. length (used_by d) + n) (sym (are.others (used_by d)))
    ∙ sym (length-append (used_by d) (unnamed (used_by d) (in_force_numbers facts.numbers.now)))

some_carrier : (o : Option Spid) (p : Option ℕ) → carrier_number o ≡ p → is_some p ≡ is_some o
some_carrier None p is = ap is_some (sym is)
some_carrier (Some s) p is = ap is_some (sym is)

module _ (st : State) (caller : ℕ) (facts : BlockFacts) where
  -- A release by an unregistered caller is refused with number 1; the facts of the state decide any
  -- other.
  pub release_refused : (block : ℕ) → BlockFactsMatch st caller block (Release block) facts →
      refusal st (RequestFrom caller (CommandRequest (Release block)))
      ≡ (if holds_at 1 (own_tests st caller (Release block)) then Some 1
      else release_refusal caller facts)
  release_refused block are =
      let last = last_version (record_now st (Block block)) in
      let code = none_carrier facts.code_holder (code_holder (block_code_of block) st.history)
      are.code in
      let donor = none_carrier facts.donor (donor_of block st.history) are.donor in
      let made = none_seen facts.last last are.last in
      let others = others_seen caller facts.last last are.last in
      let active = holds_seen (λ (v : Version). not (is_active v.status)) (λ u id bs ws. refl)
      facts.last last are.last in
      let attempts =
      holds_seen (λ (v : Version). has_no_attempt_left v.attempt) (λ u id bs ws. refl) facts.last
      last are.last in
      release_by_table st caller block
      ∙ (λ i. first_refusal ((1, holds_at 1 (own_tests st caller (Release block)))
      ∷ (3, code i) ∷ (10, donor i || made i) ∷ (11, others i) ∷ (13, active i)
      ∷ (23, sym are.ports i) ∷ (28, attempts i) ∷ []))

  -- The same for an assignment, whose holder must be registered too.
  pub assignment_refused : (a : Assignment)
      → BlockFactsMatch st caller a.block.number (command_of a)
      facts →
      refusal st (RequestFrom caller (CommandRequest (command_of a)))
      ≡ (if holds_at 1 (own_tests st caller (command_of a)) then Some 1
      else assignment_refusal caller facts)
  assignment_refused a are =
      let last = last_version (record_now st (Block a.block.number)) in
      let code = none_carrier facts.code_holder (code_holder (block_code_of a.block.number)
      st.history) are.code in
      let donor = none_carrier facts.donor (donor_of a.block.number st.history) are.donor in
      let lrn : holds_at 7 (own_tests st caller (command_of a)) ≡ not facts.is_lrn_good =
      sym (not_not (holds_at 7 (own_tests st caller (command_of a)))) ∙ ap not (sym are.lrn) in
      let taken = holds_seen (λ (v : Version). takes_block v.status) (λ u id bs ws. refl) facts.last
      last are.last in
      assign_by_table st caller a
      ∙ (λ i. first_refusal ((1, holds_at 1 (own_tests st caller (command_of a)))
      ∷ (2, not (caller == npac)) ∷ (3, code i) ∷ (7, lrn i) ∷ (10, donor i)
      ∷ (23, sym are.ports i) ∷ (24, taken i) ∷ (28, nat_lt limit (sym are.next_id i + 1)) ∷ []))

  -- The same for a donation.
  pub donation_refused : (d : Donation) → BlockFactsMatch st caller d.block.number (donated d) facts
      → NumbersMatch st d.block.number facts.numbers.now →
      refusal st (RequestFrom caller (CommandRequest (donated d)))
      ≡ (if holds_at 1 (own_tests st caller (donated d)) then Some 1
      else donation_refusal caller d facts)
  donation_refused d are numbers =
      let code = none_carrier facts.code_holder (code_holder (block_code_of d.block.number)
      st.history) are.code in
      let holder : is_the caller (code_holder (block_code_of d.block.number) st.history)
      ≡ is_the caller (carrier_number facts.code_holder) = ap (is_the caller) (sym are.code) in
      let donor = some_carrier facts.donor (donor_of d.block.number st.history) are.donor in
      let lrn : holds_at 7 (own_tests st caller (donated d)) ≡ not facts.is_lrn_good =
      sym (not_not (holds_at 7 (own_tests st caller (donated d)))) ∙ ap not (sym are.lrn) in
      let many = donation_contaminates st caller d facts numbers in
      let made = donation_makes st d facts numbers in
      donate_by_table st caller d
      ∙ (λ i. first_refusal ((1, holds_at 1 (own_tests st caller (donated d)))
      ∷ (3, code i) ∷ (7, lrn i) ∷ (11, not (holder i)) ∷ (22, nat_lt 100 (many i))
      ∷ (23, sym are.ports i) ∷ (24, donor i)
      ∷ (28, nat_lt limit (sym are.next_id i + length (made i))) ∷ []))

-- If the facts are those of a block in a state, a refusal by them is the state's.
module _ (st : State) (caller : ℕ) (facts : BlockFacts) where
  pub release_refused_in : (block : ℕ) → IsBlockCommandIn st caller block (Release block) facts
      → (refused : Option ℕ) →
      refused ≡ release_refusal caller facts
      → refused ≡ refusal st (RequestFrom caller (CommandRequest (Release block)))
  release_refused_in block is refused by_facts =
      by_facts ∙ sym (release_refused st caller facts block is.facts_match
      ∙ ap (λ b. if b then Some 1 else release_refusal caller facts) is.known)

  pub assignment_refused_in : (a : Assignment)
      → IsBlockCommandIn st caller a.block.number (command_of a) facts → (refused : Option ℕ) →
      refused ≡ assignment_refusal caller facts
      → refused ≡ refusal st (RequestFrom caller (CommandRequest (command_of a)))
  assignment_refused_in a is refused by_facts =
      by_facts ∙ sym (assignment_refused st caller facts a is.facts_match
      ∙ ap (λ b. if b then Some 1 else assignment_refusal caller facts) is.known)

  pub donation_refused_in : (d : Donation) → IsBlockCommandIn st caller d.block.number (donated d)
      facts → NumbersMatch st d.block.number facts.numbers.now →
      refusal st (RequestFrom caller (CommandRequest (donated d))) ≡ donation_refusal caller d facts
  donation_refused_in d is numbers =
      donation_refused st caller facts d is.facts_match numbers ∙ ap (λ b. if b then Some 1
      else donation_refusal caller d facts) is.known
