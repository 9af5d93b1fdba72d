-- The answer to a donation and the content after it.
use Rattle.std.proofs.Common.{◌≡◌, ℕ, suc, ◌+◌, ◌≤◌, ◌<◌, Bool, true, false, List, [], ◌∷◌, ◌++◌, map, length, Some, None, refl, ap, sym, ◌∙◌, subst, inl, inr, ◌&&◌}
use Rattle.std.specs.Prelude.{◌||◌, ◌==◌, ◌≢◌, nat_lt, filter, is_none, Result, Err, if◌then◌else◌}
use Rattle.std.specs.List.{list_any}
use Rattle.std.specs.FinMap.{get, keys}
use Rattle.numbers.specs.Digits.{block_of, number_in}
use Rattle.numbers.specs.Subjects.{Subject, Number, Block, subject_eq}
use Rattle.model.specs.declared.refusal.Refusal.{Refusal}
use Rattle.model.specs.declared.refusal.Refusal.TheVariants.{NoMemory, Storage}
use Rattle.model.specs.Statuses.{Create}
use Rattle.model.specs.Conditions.{limit}
use Rattle.model.specs.Content.{ClockRow, Content, stored_block}
use Rattle.model.specs.History.{AreLines, CommandRequest, rising, used_numbers}
use Rattle.model.specs.Machine.{Donated, Reply, accepted, ids_from}
use Rattle.model.specs.State.{State, record_now, set_now, next_of}
use Rattle.model.specs.RefusalNumbers.{number_of}
use Rattle.model.specs.Refusals.{RequestFrom, is_in_block, refusal}
use Rattle.model.specs.Versions.{version_in_force}
use Rattle.model.proofs.Accepted.{accepted_command}
use Rattle.model.proofs.Ids.{same_subject}
use Rattle.model.proofs.Lists.{Among, any_there, filtered-from, mapped-from}
use Rattle.numbers.proofs.Small.{same_number, or_right, neither, impossible}
use Rattle.version.specs.declared.version.Version.{Version as VersionImpl}
use Rattle.settle.specs.Changes.{ClockMove, AppliesChanges}
use Rattle.settle.specs.Sending.{SendingVersion, begun_of, sends_changes}
use Rattle.pool.specs.declared.donation.Donation.{Donation}
use Rattle.pool.specs.declared.facts.BlockFacts.{BlockFacts}
use Rattle.pool.specs.Donations.{AreProtective, IsPlanned, block_tests, command_of as donated, donation_refusal, donor_tests, lines_of, made_numbers, used_by}
use Rattle.pool.specs.Facts.{in_force_numbers}
use Rattle.pool.proofs.BlockRefused.{are_lines, donation_makes, donation_refused}
use Rattle.requests.specs.Calls.{replied}
use Rattle.register.specs.declared.blocks.BlockRead.{BlockRead}
use Rattle.register.specs.Refinement.{Refines}
use Rattle.register.specs.Pooling.{block_changes}
use Rattle.register.specs.Settling.{SimulatesSettledStep, AreSettled, FramesUnchanged, is_of_block}
use Rattle.register.proofs.OnBlocks.BlockCalled.{HasFound, answers_or_no_memory, not_past}
use Rattle.register.proofs.OnBlocks.BlockCommands.{donated_row, donation-blocks, donation-makes, protective, to_protect}
use Rattle.register.proofs.OnBlocks.BlockFacts.{block_facts_are, facts_numbers_are}
use Rattle.register.proofs.OnBlocks.BlockNumbers.{in_this_block}
use Rattle.register.proofs.EveryCall.Composed.{answers_accepted}
use Rattle.register.proofs.EveryCall.Unfailing.{never_storage}
use Rattle.register.proofs.OnVersions.OnVersion.{clock_is_of, clock_of}
use Rattle.register.proofs.OnBlocks.Planned.{Once, cic_of, once-apart, planned-begun, planned-subjects, used_once}
use Rattle.register.proofs.Records.Pooled.{pooled-stands}
use Rattle.model.proofs.Donated.{rising-lines}
use Rattle.model.specs.Windows.{WindowSet}

-- A donation is not refused with `Storage`.
pub donation_never : (caller : ℕ) (d : Donation) (facts : BlockFacts) (r : Refusal)
    → (r ≢ NoMemory → donation_refusal caller d facts ≡ Some (number_of r)) → r ≡ Storage → ⊥
donation_never caller d facts r says storage =
    never_storage (donor_tests caller facts ++ block_tests (used_by d) facts)
    (refl, (refl, (refl, (refl, (refl, (refl, (refl, tt)))))))
    (says (λ none. let clash : Storage ≡ NoMemory = sym storage ∙ none in cc)
    ∙ ap (λ x. Some (number_of x)) storage)

-- ---- the used numbers are of the block

each_line : (ns : List ℕ) → AreLines ns → (n : ℕ) → Among n ns → n < 1000
each_line [] lines n there = absurd there
each_line (m ∷ ms) lines n (inl is) = subst (λ k. k < 1000) (sym is) lines.0
each_line (m ∷ ms) lines n (inr there) = each_line ms lines.1 n there

used-inside : (block : ℕ) (test : Subject → Bool) (used : List ℕ) → AreLines used
    → (t : Subject) → list_any (subject_eq t) (filter test (used_numbers block used)) ≡ true
    → is_in_block block t ≡ true
used-inside block test used lines t named =
    let s = any_there (subject_eq t) (filter test (used_numbers block used)) named in
    let inner = filtered-from test (used_numbers block used) s.0 s.1 in
    let line = mapped-from (λ n. Number (number_in block n)) (rising used) s.0 inner.0 in
    let own : block_of (number_in block line.0) ≡ block =
    in_this_block block line.0 (each_line (rising used) (rising-lines used lines) line.0 line.1) in
    let is : t ≡ Number (number_in block line.0) = sym (same_subject t s.0 s.2) ∙ line.2 in
    subst (λ x. is_in_block block x ≡ true) (sym is) (ap (λ b. b == block) own ∙ same_number block)

-- ---- their ids

planned-ids : (w : WindowSet) (caller minute : ℕ) (d : Donation) (from : ℕ) (ss : List Subject)
    (es : List (ℕ × VersionImpl)) → AreProtective w caller minute d from ss es
    → map (λ e. e.0) es ≡ ids_from from (length ss)
planned-ids w caller minute d from [] [] are = refl
planned-ids w caller minute d from (s ∷ ss) (e ∷ es) are =
    ap (λ k. k ∷ map (λ x. x.0) es) are.0
    ∙ ap (λ ks. from ∷ ks) (planned-ids w caller minute d (suc from) ss es are.2)
planned-ids w caller minute d from [] (e ∷ es) are = absurd are
planned-ids w caller minute d from (s ∷ ss) [] are = absurd are

so_many : (w : WindowSet) (caller minute : ℕ) (d : Donation) (from : ℕ) (ss : List Subject)
    (es : List (ℕ × VersionImpl)) → AreProtective w caller minute d from ss es
    → length es ≡ length ss
so_many w caller minute d from [] [] are = refl
so_many w caller minute d from (s ∷ ss) (e ∷ es) are =
    ap suc (so_many w caller minute d (suc from) ss es are.2)
so_many w caller minute d from [] (e ∷ es) are = absurd are
so_many w caller minute d from (s ∷ ss) [] are = absurd are

-- ---- the donation

module _ (old new : Content) (caller : ℕ) (d : Donation) (clock : ClockRow) (read : BlockRead)
    (facts : BlockFacts) (has : HasFound old caller d.block.number (donated d) clock read
    facts) where
  refused_read : (st : State) → Refines old st
      → AreSettled old st (RequestFrom caller (CommandRequest (donated d)))
      → refusal st (RequestFrom caller (CommandRequest (donated d))) ≡ donation_refusal caller d
      facts
  refused_read st refines settled =
      donation_refused st caller facts d
      (block_facts_are st old refines d.block.number settled read has.is_read clock has.clock_is
      caller (donated d) facts has.are refl)
      (facts_numbers_are st old refines d.block.number settled read has.is_read clock has.clock_is
      caller (donated d) facts has.are refl)
      ∙ ap (λ b. if b then Some 1 else donation_refusal caller d facts) (has.known st refines)

  pub answers_donation_refused : {A : Type 0} (seen : A → Reply) (result : Result A Refusal)
      (r : Refusal) → result ≡ Err r → new ≡ old →
      (r ≢ NoMemory → donation_refusal caller d facts ≡ Some (number_of r))
      → SimulatesSettledStep old new (RequestFrom caller (CommandRequest (donated d)))
      (replied seen result)
  answers_donation_refused seen result r is same says =
      answers_or_no_memory old new caller (donated d) seen result r
      (donation_refusal caller d facts) is same says refused_read

  module _ (versions : List (ℕ × VersionImpl)) (ids all_carriers : List ℕ)
      (accepts : donation_refusal caller d facts ≡ None) (plan : IsPlanned clock.present caller
      clock.minute d facts versions)
      (ids_are : ids ≡ map (λ e. e.0) versions) (are_all : all_carriers ≡ keys old.carriers)
      (changed : clock.next_id + length versions ≤ limit
      → AppliesChanges (block_changes (sends_changes clock.minute Create
      (map (begun_of clock.present.windows) versions) all_carriers)
      (donated_row d.block.number caller)
      (record { minute = clock.minute; next_id = clock.next_id + length versions })) old new) where
    module _ (st : State) (refines : Refines old st)
        (settled : AreSettled old st (RequestFrom caller (CommandRequest (donated d)))) where
      abbrev used : List ℕ
      used = lines_of d.used.now

      abbrev news : List Subject
      news = to_protect st d.block.number (lines_of d.used.now)

      abbrev begun : List SendingVersion
      begun = map (begun_of (set_now st).windows) versions

      none : refusal st (RequestFrom caller (CommandRequest (donated d))) ≡ None
      none = refused_read st refines settled ∙ accepts

      lines : AreLines (lines_of d.used.now)
      lines = are_lines d.used.now

      same_clock : clock ≡ clock_of st
      same_clock = clock_is_of old st clock refines.represents has.clock_is

      news_are : made_numbers (used_by d) (in_force_numbers facts.numbers.now) ≡ news
      news_are = sym (donation_makes st d facts (facts_numbers_are st old refines d.block.number
          settled read has.is_read clock has.clock_is caller (donated d) facts has.are refl))

      first_is : facts.next_id ≡ next_of st
      first_is = has.are.next_id ∙ ap (λ (k : ClockRow). k.next_id) same_clock

      planned : AreProtective (set_now st) caller st.now d (next_of st) news
          versions
      planned = subst (λ ss. AreProtective (set_now st) caller st.now d
          (next_of st) ss versions) news_are
          (subst (λ k. AreProtective (set_now st) caller st.now d k
          (made_numbers (used_by d) (in_force_numbers facts.numbers.now)) versions) first_is
          (subst (λ (k : ClockRow). AreProtective k.present caller k.minute d facts.next_id
          (made_numbers (used_by d) (in_force_numbers facts.numbers.now)) versions) same_clock
          plan))

      subjects : map (λ (b : SendingVersion). b.subject) begun ≡ news
      subjects = planned-subjects (set_now st) caller st.now d (next_of st) news
          versions planned

      ids_from_first : ids ≡ ids_from (next_of st) (length news)
      ids_from_first =
          ids_are ∙ planned-ids (set_now st) caller st.now d (next_of st) news
          versions planned

      many : length versions ≡ length news
      many = so_many (set_now st) caller st.now d (next_of st) news versions
          planned

      room : clock.next_id + length versions ≤ limit
      room =
          let test : nat_lt limit (next_of st + length news) ≡ false =
          accepted_command st caller (donated d) none 28 in
          subst (λ n. clock.next_id + n ≤ limit) (sym many) (subst (λ k. k + length news ≤ limit)
          (ap (λ (k : ClockRow). k.next_id) (sym same_clock))
          (not_past (next_of st + length news) test))

      abbrev next : ClockMove
      next = record {
        minute = st.now;
        next_id =
            next_of st + length
            (to_protect st d.block.number (lines_of d.used.now));
      }

      put : AppliesChanges (block_changes (sends_changes st.now Create begun all_carriers)
          (donated_row d.block.number caller) next) old new
      put = subst (λ n. let row : ClockMove =
          record { minute = st.now; next_id = next_of st + n } in
          AppliesChanges (block_changes (sends_changes st.now Create begun all_carriers)
          (donated_row d.block.number caller) row) old new) many
          (subst (λ (k : ClockRow). AppliesChanges
          (block_changes (sends_changes k.minute Create (map (begun_of k.present.windows) versions)
          all_carriers) (donated_row d.block.number caller)
          (record { minute = k.minute; next_id = k.next_id + length versions })) old new) same_clock
          (changed room))

      blocks : (k : ℕ)
          → get new.blocks k ≡ stored_block
          (accepted st (RequestFrom caller (CommandRequest (donated d)))) k
      blocks k = put.blocks k ∙ donation-blocks st old caller d.block.number (lines_of d.used.now)
          d.routing.lrn.number (cic_of d) lines refines none k

      inside : (t : Subject) → list_any (subject_eq t) news ≡ true
          → is_in_block d.block.number t ≡ true
      inside t named =
          used-inside d.block.number (λ s. is_none (version_in_force (record_now st s)))
          (lines_of d.used.now) lines t named

      is_due : (t : Subject) → list_any (subject_eq t) news ≡ true
          → is_of_block d.block.number st t ≡ true
      is_due t named = or_right (subject_eq t (Block d.block.number)) (is_in_block d.block.number t)
          (inside t named)

      within : (t : Subject) → (subject_eq t (Block d.block.number)
          || (is_in_block d.block.number t && list_any (subject_eq t) news)) ≡ false
          → list_any (subject_eq t) news ≡ false
      within t other = by_cases (list_any (subject_eq t) news) refl
          (neither (subject_eq t (Block d.block.number)) _ other).1
        where
          by_cases : (b : Bool) → list_any (subject_eq t) news ≡ b
              → (is_in_block d.block.number t && b) ≡ false → b ≡ false
          by_cases false e apart = refl
          by_cases true e apart =
              impossible (sym (ap (λ b. b && true) (inside t e)) ∙ apart)

      donated-stands : Refines new (accepted st (RequestFrom caller (CommandRequest (donated d))))
          × FramesUnchanged old new st (RequestFrom caller (CommandRequest (donated d)))
      donated-stands =
          pooled-stands st caller (CommandRequest (donated d)) news (protective (set_now st) caller
          st.now
          d.routing.lrn.number (cic_of d))
          (donation-makes st caller d.block.number (lines_of d.used.now) d.routing.lrn.number
          (cic_of d) lines)
          old new begun all_carriers (donated_row d.block.number caller) next refines none
          (planned-begun (set_now st) all_carriers caller st.now d (next_of st) news
          versions planned)
          (once-apart (set_now st) st.now all_carriers (protective (set_now st) caller st.now
          d.routing.lrn.number (cic_of d)) (λ id. refl) (λ id. refl) (λ id. refl) begun
          (subst Once (sym subjects)
          (used_once d.block.number (λ s. is_none (version_in_force (record_now st s)))
          (lines_of d.used.now))))
          subjects are_all put (λ t named. settled t (is_due t named)) blocks refl within

    pub answers_donated : SimulatesSettledStep old new
        (RequestFrom caller (CommandRequest (donated d)))
        (Some (Donated d.block.number ids))
    answers_donated =
        answers_accepted old new (RequestFrom caller (CommandRequest (donated d)))
        (Donated d.block.number ids) (λ st refines settled. (
          none st refines settled,
          ap (Donated d.block.number) (ids_from_first st refines settled),
          (donated-stands st refines settled).0,
          (donated-stands st refines settled).1,
        ))
