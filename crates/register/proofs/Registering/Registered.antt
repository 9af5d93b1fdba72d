-- The answer to a carrier's registration and the content after it.
use Rattle.std.proofs.Common.{◌≡◌, ℕ, Bool, true, false, not, ◌||◌, List, [], ◌∷◌, map, length, Option, Some, None, refl, ap, sym, ◌∙◌, subst}
use Rattle.std.specs.Prelude.{◌==◌, nat_le, filter, is_some, option_map, if◌then◌else◌}
use Rattle.std.specs.FinMap.{get, keys, entries, entries_sorted}
use Rattle.numbers.specs.Subjects.{Subject, Block}
use Rattle.model.specs.Commands.{RegisterCarrier}
use Rattle.model.specs.Laws.{IsQuiet}
use Rattle.model.specs.Versions.{Record, Version, Broadcast, is_among, last_version}
use Rattle.model.specs.History.{CommandRequest, carriers, donor_of}
use Rattle.model.specs.State.{State, InForce, record_now, is_carrier, all_in_force, set_now}
use Rattle.model.specs.Refusals.{RequestFrom, refusal, tests, first_refusal, npac}
use Rattle.model.specs.Machine.{Registered, accepted}
use Rattle.model.specs.Changes.{joined_by}
use Rattle.model.specs.Content.{Content, BlockRow, ClockRow, RowsMatch, Represents, ClockRowMatches, broadcast_with}
use Rattle.model.proofs.Entered.{next_id-same}
use Rattle.model.proofs.Recipients.{broadcast_known}
use Rattle.model.proofs.Rising.{among-with_number, same_numbers, carriers-rise, keys-rise}
use Rattle.settle.specs.Changes.{AppliesChanges}
use Rattle.settle.specs.Settling.{IsSettled}
use Rattle.register.specs.Refinement.{Refines}
use Rattle.register.specs.Settling.{SimulatesSettledStep}
use Rattle.register.specs.Joining.{registration_changes}
use Rattle.register.proofs.EveryCall.Composed.{answers_accepted}
use Rattle.register.proofs.Registering.Joined.{joined_record, registered-record, joined-quiet, joined-shows}
use Rattle.register.proofs.Records.Touched.{RegistryShows, touched-stands}
use Rattle.settle.proofs.Among.{among_keys}
use Rattle.numbers.proofs.Small.{or_second}

-- ---- carriers

-- The rows of carriers are those of the registered carriers.
pub carriers_are : (c : Content) (st : State) → Represents c st
    → keys c.carriers ≡ carriers st.history
carriers_are c st rep =
    same_numbers (keys c.carriers) (carriers st.history) (keys-rise (entries c.carriers)
    (entries_sorted c.carriers)) (carriers-rise st.history)
    (λ k. among_keys c.carriers k ∙ rep.carriers k)

-- ---- refusals

abbrev carrier_refusal : (is_admin taken full : Bool) → Option ℕ
carrier_refusal is_admin taken full =
    first_refusal ((2, not is_admin) ∷ (4, taken) ∷ (28, full) ∷ [])

carrier_tests : (st : State) (caller spid : ℕ)
    → refusal st (RequestFrom caller (CommandRequest (RegisterCarrier spid)))
    ≡ carrier_refusal (caller == npac) (is_carrier st spid || (spid == npac))
    (nat_le 100 (length (carriers st.history)))
unfolding tests
carrier_tests st caller spid = refl

turned : (a b : Bool) → (a || b) ≡ (b || a)
turned true true = refl
turned true false = refl
turned false true = refl
turned false false = refl

module _ (old : Content) (caller spid : ℕ) where
  pub carrier_not_admin : (caller == npac) ≡ false → (st : State) → Refines old st
      → refusal st (RequestFrom caller (CommandRequest (RegisterCarrier spid))) ≡ Some 2
  carrier_not_admin other st refines =
      carrier_tests st caller spid
      ∙ ap (λ b. carrier_refusal b (is_carrier st spid || (spid == npac))
      (nat_le 100 (length (carriers st.history)))) other

  by_taken : (caller == npac) ≡ true → (known : Bool)
      → (spid == npac || is_some (get old.carriers spid)) ≡ known → (st : State) → Refines old st →
      refusal st (RequestFrom caller (CommandRequest (RegisterCarrier spid))) ≡ carrier_refusal true
      known
      (nat_le 100 (length (keys old.carriers)))
  by_taken admin known is st refines =
      carrier_tests st caller spid
      ∙ ap (λ b. carrier_refusal b (is_carrier st spid || (spid == npac))
      (nat_le 100 (length (carriers st.history)))) admin
      ∙ ap (λ b. carrier_refusal true b (nat_le 100 (length (carriers st.history))))
      (turned (is_carrier st spid) (spid == npac) ∙ ap (λ b. (spid == npac) || b)
      (sym (refines.represents.carriers spid)) ∙ is)
      ∙ ap (λ ns. carrier_refusal true known (nat_le 100 (length ns)))
      (sym (carriers_are old st refines.represents))

  pub carrier_is_taken : (caller == npac) ≡ true → (spid == npac || is_some (get old.carriers spid))
      ≡ true → (st : State) → Refines old st →
      refusal st (RequestFrom caller (CommandRequest (RegisterCarrier spid))) ≡ Some 4
  carrier_is_taken admin taken st refines = by_taken admin true taken st refines

  pub carriers_full : (caller == npac) ≡ true → (spid == npac || is_some (get old.carriers spid))
      ≡ false → nat_le 100 (length (keys old.carriers)) ≡ true → (st : State) → Refines old st →
      refusal st (RequestFrom caller (CommandRequest (RegisterCarrier spid))) ≡ Some 28
  carriers_full admin free full st refines =
      by_taken admin false free st refines ∙ ap (carrier_refusal true false) full

  carrier_accepted : (caller == npac) ≡ true → (spid == npac || is_some (get old.carriers spid))
      ≡ false → nat_le 100 (length (keys old.carriers)) ≡ false → (st : State) → Refines old st →
      refusal st (RequestFrom caller (CommandRequest (RegisterCarrier spid))) ≡ None
  carrier_accepted admin free room st refines =
      by_taken admin false free st refines ∙ ap (carrier_refusal true false) room

-- ---- the content after it

module _ (old new : Content) (caller spid : ℕ)
    (changed : AppliesChanges
    (registration_changes spid (filter (λ e. e.1.is_open) (entries old.broadcasts))) old
    new)
    (admin : (caller == npac) ≡ true) (free : (spid == npac || is_some (get old.carriers spid))
    ≡ false) (room : nat_le 100 (length (keys old.carriers)) ≡ false)
    (st : State) (refines : Refines old st) (settled : (s : Subject) → IsSettled old st s) where
  abbrev after_it : State
  after_it = accepted st (RequestFrom caller (CommandRequest (RegisterCarrier spid)))

  accepts : refusal st (RequestFrom caller (CommandRequest (RegisterCarrier spid))) ≡ None
  accepts = carrier_accepted old caller spid admin free room st refines

  newcomer : is_among spid (carriers st.history) ≡ false
  newcomer = sym (refines.represents.carriers spid)
      ∙ or_second (spid == npac) (is_some (get old.carriers spid)) free

  not_yet : (s : Subject) (id attempt : ℕ) (b : Broadcast)
      → broadcast_with id attempt (record_now st s) ≡ Some b → is_among spid b.acknowledged ≡ false
  not_yet s id attempt b found = by_cases (is_among spid b.acknowledged) refl
    where
      by_cases : (t : Bool) → is_among spid b.acknowledged ≡ t → t ≡ false
      by_cases false e = refl
      by_cases true e = let known : is_among spid (carriers st.history) ≡ true =
          (broadcast_known st refines.represents.history s id attempt b found).acknowledged spid
          e in
          let never : true ≡ false = sym known ∙ newcomer in cc

  the_record : (s : Subject) → record_now after_it s ≡ joined_record spid (record_now st s)
  the_record s = registered-record st caller spid s

  shows : (s : Subject) → RowsMatch new s (joined_record spid (record_now st s))
  shows s = joined-shows (set_now st) s spid old new (record_now st s) changed (not_yet s)
      (settled s).rows_match

  quiet : (s : Subject) → IsQuiet st.now (joined_record spid (record_now st s)).versions
  quiet s = joined-quiet (set_now st) spid st.now (record_now st s).versions (settled s).quiet

  carrier_at : (k : ℕ) → is_some (get new.carriers k) ≡ is_among k (carriers after_it.history)
  carrier_at k = ap is_some (changed.carriers k) ∙ by_cases (spid == k) refl
      ∙ sym (among-with_number k spid (carriers st.history))
    where
      by_cases : (t : Bool) → (spid == k) ≡ t → is_some (if t then Some tt else get old.carriers k)
          ≡ ((spid == k) || is_among k (carriers st.history))
      by_cases true e = sym (ap (λ t. t || is_among k (carriers st.history)) e)
      by_cases false e =
          refines.represents.carriers k ∙ sym (ap (λ t. t || is_among k (carriers st.history)) e)

  last_is : (vs : List Version)
      → option_map (λ (v : Version). v.id) (last_version (record {
        carriers = carriers st.history;
        versions = vs;
      })) ≡ option_map (λ (v : Version). v.id) (last_version (record {
        carriers = carriers st.history;
        versions = map (joined_by spid) vs;
      }))
  last_is [] = refl
  last_is (v ∷ vs) = refl

  -- The minute, the windows and the next id stay.
  clock_after : (o : Option ClockRow) → is_some o ≡ true → ClockRowMatches o st
      → ClockRowMatches o after_it
  clock_after (Some row) e is = is ∙ ap (λ k. record {
    minute = st.now;
    next_id = k;
    present = set_now st;
  }) (sym (next_id-same st caller (CommandRequest (RegisterCarrier spid)) refl))
  clock_after None e is = cc

  registry : RegistryShows new after_it
  registry = record {
    clock = subst (λ o. ClockRowMatches o after_it) (sym changed.clock)
        (clock_after old.clock refines.written refines.represents.clock);
    written = ap is_some changed.clock ∙ refines.written;
    carriers = carrier_at;
    lrns = λ k. changed.lrns k ∙ refines.represents.lrns k;
    codes = λ k. changed.codes k ∙ refines.represents.codes k;
    blocks = λ b. changed.blocks b ∙ refines.represents.blocks b
        ∙ ap (λ o. option_map (λ donor. let row : BlockRow = record { donor = donor; last = o } in
        row) (donor_of b st.history)) (last_is (record_now st (Block b)).versions)
        ∙ sym (ap (λ r. option_map (λ donor. let row : BlockRow = record {
          donor = donor;
          last = option_map (λ (u : Version). u.id) (last_version r);
        } in row) (donor_of b st.history)) (the_record (Block b)));
  }

  settled_after : (t : Subject) → IsSettled new after_it t
  settled_after t = record {
    rows_match = subst (RowsMatch new t) (sym (the_record t)) (shows t);
    quiet = subst (λ (r : Record). IsQuiet st.now r.versions) (sym (the_record t)) (quiet t);
  }

  -- Every subject is touched.
  pub registered_stands : Refines new after_it
  registered_stands =
      touched-stands st old new caller (CommandRequest (RegisterCarrier spid)) (λ t. true) refines
      accepts
      tt refl changed.sets registry (λ t never. let x : ⊥ = cc in
      absurd x) (λ t is. settled_after t)

pub answers_registered : (old new : Content) (caller spid : ℕ) (rows : List InForce) →
    AppliesChanges (registration_changes spid (filter (λ e. e.1.is_open) (entries old.broadcasts)))
    old new →
    (caller == npac) ≡ true → (spid == npac || is_some (get old.carriers spid)) ≡ false
    → nat_le 100 (length (keys old.carriers)) ≡ false →
    ((st : State) → Refines old st → ((s : Subject) → IsSettled old st s) → rows ≡ all_in_force st)
    → SimulatesSettledStep old new (RequestFrom caller (CommandRequest (RegisterCarrier spid)))
    (Some (Registered spid rows))
answers_registered old new caller spid rows changed admin free room listed =
    answers_accepted old new (RequestFrom caller (CommandRequest (RegisterCarrier spid)))
    (Registered spid rows) (λ st refines settled. (
      carrier_accepted old caller spid admin free room st refines,
      ap (λ xs. Registered spid xs) (listed st refines (λ s. settled s refl)),
      registered_stands old new caller spid changed admin free room st refines
          (λ s. settled s refl),
      λ t other. let never : true ≡ false = other in cc,
    ))
