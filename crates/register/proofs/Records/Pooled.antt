-- A request that makes versions which begin to send, and changes no other version.
use Rattle.std.proofs.Common.{◌≡◌, ◌≤◌, ℕ, suc, ◌+◌, Bool, true, false, ◌||◌, List, [], ◌∷◌, ◌++◌, map, length, Option, Some, None, refl, ap, sym, ◌∙◌, subst, arith}
use Rattle.std.specs.Prelude.{⊤, nat_le, flat_map, is_some, if◌then◌else◌}
use Rattle.std.specs.List.{list_any}
use Rattle.std.specs.FinMap.{get, keys}
use Rattle.std.proofs.lemmas.Bool.Decides.{nat_tests}
use Rattle.numbers.specs.Subjects.{Subject, subject_eq}
use Rattle.model.specs.Statuses.{Create}
use Rattle.model.specs.Versions.{Version, Record, in_force, is_among, version_with}
use Rattle.model.specs.Changes.{next_attempt}
use Rattle.model.specs.Laws.{IsQuiet}
use Rattle.model.specs.Content.{BlockRow, BroadcastKey, BroadcastRow, Content, SameRows, RowsMatch, VersionRow, WaitKey, stored_block}
use Rattle.model.specs.History.{HasValues, Request, assigned_block, carrier_added, carrier_named, carriers, code_holder, code_named, version_after_request, donor_of, id_among, lrn_named, lrn_owner, made_version, subjects_made_by, or_else, with_made, windows_named}
use Rattle.model.specs.Machine.{accepted, HasHistory}
use Rattle.model.specs.State.{State, record_now, set_now, next_of, made_now}
use Rattle.model.specs.Refusals.{RequestFrom, refusal}
use Rattle.model.proofs.Entered.{given_now, entered-record, entered-ids, subject_eq-refl}
use Rattle.model.proofs.Ids.{fresh}
use Rattle.model.proofs.Lists.{everywhere}
use Rattle.model.proofs.Minutes.{changed_at-same}
use Rattle.model.proofs.Settling.{newborn}
use Rattle.numbers.proofs.Small.{or_first, or_second, or_right, at_most}
use Rattle.settle.specs.Changes.{AppliesChanges, wait_put, ClockMove}
use Rattle.settle.specs.Sending.{SendingVersion, begun_version, begun_broadcast, begun_waits, sends_changes}
use Rattle.settle.specs.Settling.{IsSettled}
use Rattle.settle.proofs.Aside.{AreAmong, ArePutsAmong, among_lagging}
use Rattle.settle.proofs.Applied.{Puts, same_shows, sent_in_turn, sent_puts}
use Rattle.register.specs.Refinement.{Refines}
use Rattle.register.specs.Pooling.{block_changes}
use Rattle.register.specs.Settling.{FramesUnchanged, changes_then}
use Rattle.register.proofs.OnVersions.FirstCreate.{none_with_id}
use Rattle.register.proofs.Records.MadeSent.{AreApart, AreBegun, each_shown}
use Rattle.register.proofs.Records.Sent.{carriers_agree}
use Rattle.register.proofs.Records.Touched.{RegistryShows, clock-moves, clock-written, touched-stands}
use Rattle.register.proofs.EveryCall.HeldSets.{windows-now}

-- Holds if the request makes versions of these subjects, `blank` before they are sent, and changes
-- nothing else but a block's row.
pub record MakesSent (st : State) (caller : ℕ) (request : Request) (news : List Subject) (blank : ℕ
    → Version) : Type 0 where
  pub carrier : carrier_named request ≡ None
  pub lrn : (k : ℕ) → lrn_named k caller request ≡ None
  pub code : (k : ℕ) → code_named k request ≡ None
  pub lines : HasValues request
  pub unset : windows_named request ≡ None
  pub makes : subjects_made_by request (record_now st) ≡ news
  pub does : (s : Subject) (all_carriers : List ℕ) (v : Version)
      → version_after_request (set_now st) s caller st.now all_carriers request v ≡ v
  pub made : (id : ℕ) (all_carriers : List ℕ)
      → made_version (set_now st) id caller st.now all_carriers
      (donor_of (assigned_block request) st.history) request ≡ next_attempt (set_now st) Create
      all_carriers
      st.now (blank id)
  pub is_id : (id : ℕ) → (blank id).id ≡ id
  pub unsent : (id : ℕ) → (blank id).broadcasts ≡ []
  pub quiet_before : (id : ℕ) → in_force (blank id) ≡ false

-- Holds if each version is of a touched subject.
abbrev AllTouched : (Subject → Bool) → List SendingVersion → Type 0
AllTouched touched [] = ⊤
AllTouched touched (b ∷ bs) = (touched b.subject ≡ true) × AllTouched touched bs

all_within : (whole rest : List SendingVersion)
    → ((t : Subject) → list_any (subject_eq t) (map (λ (b : SendingVersion). b.subject) rest) ≡ true
    → list_any (subject_eq t) (map (λ (b : SendingVersion). b.subject) whole) ≡ true) →
    AllTouched (λ t. list_any (subject_eq t) (map (λ (b : SendingVersion). b.subject) whole)) rest
all_within whole [] within = tt
all_within whole (b ∷ bs) within = (
  within b.subject
      (ap (λ x. x || list_any (subject_eq b.subject) (map (λ (y : SendingVersion). y.subject) bs))
      (subject_eq-refl b.subject)),
  all_within whole bs
      (λ t there. within t (or_right (subject_eq t b.subject)
      (list_any (subject_eq t) (map (λ (y : SendingVersion). y.subject) bs)) there)),
)

all_named : (bs : List SendingVersion) (ss : List Subject)
    → map (λ (b : SendingVersion). b.subject) bs ≡ ss
    → AllTouched (λ t. list_any (subject_eq t) ss) bs
all_named bs ss is =
    subst (λ xs. AllTouched (λ t. list_any (subject_eq t) xs) bs) is
    (all_within bs bs (λ t there. there))

puts_joined : {K R : Type 0} (key : K → ℕ) (subject : R → Subject) (mine : ℕ
    → Bool) (touched : Subject → Bool) (ps qs : List (K × R)) →
    ArePutsAmong key subject mine touched ps → ArePutsAmong key subject mine touched qs
    → ArePutsAmong key subject mine touched (ps ++ qs)
puts_joined key subject mine touched [] qs first second = second
puts_joined key subject mine touched (p ∷ ps) qs first second = (
  first.0,
  first.1,
  puts_joined key subject mine touched ps qs first.2 second,
)

module _ (st : State) (caller : ℕ) (request : Request) (news : List Subject) (blank : ℕ
    → Version) (sends : MakesSent st caller request news blank) where
  abbrev after_it : State
  after_it = accepted st (RequestFrom caller request)

  abbrev first : ℕ
  first = next_of st

  -- The record of each subject with its new version, if it has one, as its newest.
  abbrev record_after : Subject → Record
  record_after t = record {
    carriers = (record_now st t).carriers;
    versions = with_made (id_among t (next_of st) news)
        (λ id. next_attempt (set_now st) Create (record_now st t).carriers st.now (blank id))
        (record_now st t).versions;
  }

  same_made : (cs : List ℕ) (o : Option ℕ) (vs : List Version) →
      with_made o (λ id. made_version (set_now st) id caller st.now cs
      (donor_of (assigned_block request) st.history) request) vs ≡ with_made o
      (λ id. next_attempt (set_now st) Create cs st.now (blank id)) vs
  same_made cs None vs = refl
  same_made cs (Some id) vs = ap (λ v. v ∷ vs) (sends.made id cs)

  pub made-records : (t : Subject) → record_now after_it t ≡ record_after t
  made-records t =
      entered-record st caller request t news sends.makes sends.carrier
      ∙ ap (λ vs. record {
        carriers = (record_now st t).carriers;
        versions = with_made (id_among t (next_of st) news)
            (λ id. made_version (set_now st) id caller st.now (record_now st t).carriers
            (donor_of (assigned_block request) st.history) request) vs;
      }) (changed_at-same (set_now st) st.now (version_after_request (set_now st) t caller st.now
      (record_now st t).carriers request) (record_now st t).versions
      (everywhere (sends.does t (record_now st t).carriers) (record_now st t).versions))
      ∙ ap (λ vs. record { carriers = (record_now st t).carriers; versions = vs })
      (same_made (record_now st t).carriers (id_among t (next_of st)
      news) (record_now st t).versions)

  unmade : (t : Subject) (k : ℕ) (ss : List Subject) → list_any (subject_eq t) ss ≡ false
      → id_among t k ss ≡ None
  unmade t k [] none = refl
  unmade t k (s ∷ ss) none =
      ap (λ b. if b then Some k else id_among t (suc k) ss)
      (or_first (subject_eq t s) (list_any (subject_eq t) ss) none)
      ∙ unmade t (suc k) ss (or_second (subject_eq t s) (list_any (subject_eq t) ss) none)

  -- A subject without a new version keeps its record.
  pub unmade-same : (t : Subject) → list_any (subject_eq t) news ≡ false
      → record_now after_it t ≡ record_now st t
  unmade-same t none =
      made-records t
      ∙ ap (λ o. record {
        carriers = (record_now st t).carriers;
        versions = with_made o (λ id. next_attempt (set_now st) Create (record_now st t).carriers
            st.now
            (blank id)) (record_now st t).versions;
      }) (unmade t first news none)

  -- The new ids are free.
  pub above_free : HasHistory st → (t : Subject) (k : ℕ)
      → next_of st ≤ k → version_with k (record_now st t) ≡ None
  above_free history t k above =
      none_with_id k (record_now st t).versions (fresh (made_now st) t
      (record_now st t).versions k (given_now st history t) above)

  -- ---- rows

  module _ (old new : Content) (begun : List SendingVersion) (all_carriers : List ℕ)
      (block : Option (ℕ × BlockRow)) (clock : ClockMove)
      (refines : Refines old st) (none : refusal st (RequestFrom caller request) ≡ None)
      (are : AreBegun (set_now st) st.now all_carriers blank sends.is_id sends.unsent
      sends.quiet_before
      first begun) (apart : AreApart (set_now st) st.now all_carriers blank sends.is_id sends.unsent
      sends.quiet_before begun)
      (subjects : map (λ (b : SendingVersion). b.subject) begun ≡ news) (are_all : all_carriers
      ≡ keys old.carriers)
      (changed : AppliesChanges (block_changes (sends_changes st.now Create begun all_carriers)
      block clock) old
      new) where
    puts : Puts (sends_changes st.now Create begun all_carriers) old new
    puts = record {
      versions = changed.versions;
      broadcasts = changed.broadcasts;
      waits = changed.waits;
    }

    -- The rows of a settled subject match its record after the request.
    pub pooled-shows : (t : Subject) → IsSettled old st t → RowsMatch new t (record_now after_it t)
    pooled-shows t settled =
        subst (RowsMatch new t) (ap (λ ss. record {
          carriers = (record_now st t).carriers;
          versions = with_made (id_among t first ss) (λ id. next_attempt (set_now st) Create
              (record_now st t).carriers st.now (blank id)) (record_now st t).versions;
        }) subjects ∙ sym (made-records t))
        (same_shows (sends_changes st.now Create begun all_carriers) old
        (sent_in_turn (set_now st) st.now Create all_carriers begun old) new
        (sent_puts (set_now st) st.now Create all_carriers begun old) puts (set_now st) t _
        (each_shown (set_now st) st.now all_carriers blank sends.is_id sends.unsent
        sends.quiet_before
        begun first old t (record_now st t) are apart (above_free refines.represents.history t)
        (λ k. carriers_agree old st all_carriers refines.represents are_all t k)
        settled.rows_match))

    -- No timer of that record has expired.
    pub pooled-quiet : (t : Subject) → IsSettled old st t
        → IsQuiet st.now (record_now after_it t).versions
    pooled-quiet t settled =
        subst (λ (r : Record). IsQuiet st.now r.versions) (sym (made-records t))
        (by_cases (id_among t first news))
      where
        by_cases : (o : Option ℕ)
            → IsQuiet st.now
            (with_made o (λ id. next_attempt (set_now st) Create (record_now st t).carriers
            st.now (blank id)) (record_now st t).versions)
        by_cases None = settled.quiet
        by_cases (Some id) = (
          newborn (set_now st).windows.broadcast st.now
              (windows-now old st refines.represents).broadcast,
          settled.quiet,
        )

    pub pooled-settled : (t : Subject) → IsSettled old st t → IsSettled new after_it t
    pooled-settled t settled = record {
      rows_match = pooled-shows t settled;
      quiet = pooled-quiet t settled;
    }

    -- ---- the rows of all others

    abbrev is_new : Subject → Bool
    is_new t = list_any (subject_eq t) news

    abbrev mine : ℕ → Bool
    mine k = nat_le (next_of st) k

    puts_among : {K R : Type 0} (key : K → ℕ) (subject : R → Subject) (row : SendingVersion → K × R)
        → ((b : SendingVersion) → key (row b).0 ≡ b.id)
        → ((b : SendingVersion) → subject (row b).1 ≡ b.subject) →
        (bs : List SendingVersion) (touched : Subject → Bool) → AllTouched touched bs → (from : ℕ)
        → next_of st ≤ from →
        AreBegun (set_now st) st.now all_carriers blank sends.is_id sends.unsent sends.quiet_before
        from
        bs → ArePutsAmong key subject mine touched (map row bs)
    puts_among key subject row its_key its_subject [] touched all from above are_begun = tt
    puts_among key subject row its_key its_subject (b ∷ bs) touched all from above are_begun = (
      ap mine (its_key b ∙ are_begun.0) ∙ at_most (next_of st) from above,
      ap touched (its_subject b) ∙ all.0,
      puts_among key subject row its_key its_subject bs touched all.1 (suc from) (omega arith)
          are_begun.2,
    )

    waits_one : (b : SendingVersion) (touched : Subject → Bool) → touched b.subject ≡ true
        → mine b.id ≡ true
        → (cs : List ℕ) →
        ArePutsAmong (λ (k : WaitKey). k.id) (λ (t : Subject). t) mine touched
        (map (wait_put st.now b.id b.version.attempt b.subject) cs)
    waits_one b touched is its [] = tt
    waits_one b touched is its (c ∷ cs) = (its, is, waits_one b touched is its cs)

    waits_among : (bs : List SendingVersion) (touched : Subject → Bool) → AllTouched touched bs
        → (from : ℕ)
        → next_of st ≤ from →
        AreBegun (set_now st) st.now all_carriers blank sends.is_id sends.unsent sends.quiet_before
        from
        bs →
        ArePutsAmong (λ (k : WaitKey). k.id) (λ (t : Subject). t) mine touched
        (flat_map (begun_waits st.now all_carriers) bs)
    waits_among [] touched all from above are_begun = tt
    waits_among (b ∷ bs) touched all from above are_begun =
        puts_joined (λ (k : WaitKey). k.id) (λ (t : Subject). t) mine touched
        (begun_waits st.now all_carriers b) (flat_map (begun_waits st.now all_carriers) bs)
        (waits_one b touched all.0 (ap mine are_begun.0 ∙ at_most (next_of st)
        from above) all_carriers)
        (waits_among bs touched all.1 (suc from) (omega arith) are_begun.2)

    are_among : AreAmong mine is_new (block_changes (sends_changes st.now Create begun all_carriers)
        block
        clock)
    are_among =
        let all = all_named begun news subjects in
        record {
          versions = puts_among (λ (k : ℕ). k) (λ (v : VersionRow). v.subject) (begun_version)
              (λ b. refl) (λ b. refl) begun is_new all first (omega arith) are;
          broadcasts = puts_among (λ (k : BroadcastKey). k.id) (λ (x : BroadcastRow). x.subject)
              (begun_broadcast st.now Create) (λ b. refl) (λ b. refl) begun is_new all first
              (omega arith) are;
          waits = waits_among begun is_new all first (omega arith) are;
          deleted_broadcasts = tt;
          deleted_waits = tt;
        }

    not_below : (k : ℕ) → nat_le (next_of st) k ≡ true
        → next_of st ≤ k
    not_below k is = grind (arith, nat_tests)

    elsewhere : (t : Subject) → is_new t ≡ false → (record_now after_it t ≡ record_now st t)
        × SameRows t old new
    elsewhere t other = (
      unmade-same t other,
      among_lagging st old new (block_changes (sends_changes st.now Create begun all_carriers) block
          clock)
          mine is_new are_among changed t (refines.represents.subjects t) other
          (λ k is. above_free refines.represents.history t k (not_below k is)),
    )

    -- ---- the state after it

    -- What is left to prove: the subjects of the new versions were settled, the block's row, and
    -- the clock's row.
    module _ (due : (t : Subject) → is_new t ≡ true → IsSettled old st t) (blocks : (k : ℕ)
        → get new.blocks k ≡ stored_block after_it k)
        (next_is : clock ≡ record {
          minute = st.now;
          next_id = next_of st + length news;
        }) where
      registry : RegistryShows new after_it
      registry = record {
        clock = clock-moves st caller request sends.unset old new refines clock changed.clock
            (next_is ∙ ap (λ k. let m : ClockMove = record { minute = st.now; next_id = k } in m)
            (sym (entered-ids st caller request news sends.makes)));
        written = ap is_some changed.clock ∙ clock-written (Some clock) None old.clock
            refines.written;
        carriers = λ k. ap is_some (changed.carriers k) ∙ refines.represents.carriers k
            ∙ sym (ap (λ o. is_among k (carrier_added o (carriers st.history))) sends.carrier);
        lrns = λ k. changed.lrns k ∙ refines.represents.lrns k
            ∙ sym (ap (λ o. or_else o (lrn_owner k st.history)) (sends.lrn k));
        codes = λ k. changed.codes k ∙ refines.represents.codes k
            ∙ sym (ap (λ o. or_else o (code_holder k st.history)) (sends.code k));
        blocks = blocks;
      }

      -- The new content refines the next state, and the rows of other subjects stay.
      pub pooled-stands : ((t : Subject) → changes_then st (RequestFrom caller request) t ≡ false
          → is_new t ≡ false)
          → Refines new after_it × FramesUnchanged old new st (RequestFrom caller request)
      pooled-stands within = (
        touched-stands st old new caller request is_new refines none sends.lines sends.unset
            changed.sets registry elsewhere (λ t is. pooled-settled t (due t is)),
        λ t other. (elsewhere t (within t other)).1,
      )
