-- No number of a block with a version in force has a protective open version.
use Rattle.std.proofs.Common.{◌≡◌, ℕ, zero, suc, ◌+◌, ◌-◌, inl, inr, Bool, true, false, cond, not, ◌&&◌, ◌||◌, List, [], ◌∷◌, map, Option, Some, None, refl, ap, sym, ◌∙◌, subst}
use Rattle.std.specs.Prelude.{⊤, ◌⊎◌, ◌==◌, if◌then◌else◌, find, filter, is_none, is_some}
use Rattle.std.specs.List.{list_any, AllByRecursion}
use Rattle.numbers.specs.Digits.{block_of, number_in}
use Rattle.numbers.specs.Subjects.{Subject, Number, Block}
use Rattle.model.specs.Commands.{OldProviderCreate, NewProviderCreate, Donate, Assign}
use Rattle.model.specs.Statuses.{Old}
use Rattle.model.specs.Windows.{Windows, WindowSet}
use Rattle.model.specs.Versions.{Version, Record, in_force, is_open, version_in_force, open_version, version_with}
use Rattle.model.specs.Changes.{with_status, changed_at, retired}
use Rattle.model.specs.Judge.{judge, judged_for, judged_version}
use Rattle.model.specs.Conditions.{holds_of}
use Rattle.model.specs.History.{Request, Entry, CommandRequest, HasValues, subjects_made_by, subjects_made, made_version, with_made, version_after_request, next_after, id_among, donor_named, donor_of, assigned_block, or_else, effect, replay_step, replay_of, replay, rising, present_set}
use Rattle.model.specs.Laws.{NoPortUnderBlock}
use Rattle.model.specs.Machine.{IsHistory, HasHistory}
use Rattle.model.specs.State.{State, record_now, set_now, made_now}
use Rattle.model.specs.Refusals.{RequestFrom, refusal, is_in_block, has_open_port}
use Rattle.model.specs.Sound.{NoneInForce, NoneOpen, AreSound}
use Rattle.model.proofs.Accepted.{accepted_command}
use Rattle.model.proofs.Donated.{donate-unforced, donate-inside, open_port-none}
use Rattle.model.proofs.Entered.{given_now, sound_now}
use Rattle.model.proofs.Entries.{entry-respects}
use Rattle.model.proofs.Ids.{AreGiven}
use Rattle.model.proofs.Kept.{kept, record_after}
use Rattle.model.proofs.Lists.{everywhere, each, found-among, there_any}
use Rattle.model.proofs.Made.{none_in_force-found}
use Rattle.model.proofs.Minutes.{changed_at-same}
use Rattle.numbers.proofs.Small.{true-false, and_first, and_second, or_true, same_number, equal_number, or_right, none_there}
use Rattle.model.proofs.Sound.{version_after_request-same, judged_version-same}
use Rattle.model.proofs.Unique.{Respects, RespectsEach, by_status, judged_version-respects, changed-none, retired-none, open_not_in_force}

-- ---- a block that nobody donated

-- A block is not among the numbers.
numbers_none : (b k block : ℕ) (test : Subject → Bool) (lines : List ℕ)
    → id_among (Block b) k (filter test (map (λ line. Number (number_in block line)) lines)) ≡ None
numbers_none b k block test [] = refl
numbers_none b k block test (line ∷ lines) =
    by_cases (λ j. numbers_none b j block test lines) (test (Number (number_in block line)))
  where
    by_cases : ((j : ℕ)
        → id_among (Block b) j (filter test (map (λ l. Number (number_in block l)) lines))
        ≡ None) → (c : Bool)
        → id_among (Block b) k
        (cond c (Number (number_in block line) ∷ filter test (map (λ l. Number (number_in block l))
        lines)) (filter test (map (λ l. Number (number_in block l)) lines))) ≡ None
    by_cases later true = later (suc k)
    by_cases later false = later k

one_number : (b k tn : ℕ) (c : Bool) → id_among (Block b) k (if c then [] else Number tn ∷ [])
    ≡ None
one_number b k tn true = refl
one_number b k tn false = refl

-- Holds if the request is an assignment of the block; only that makes a version of it.
abbrev IsAssigned : ℕ → Request → Type 0
IsAssigned b (CommandRequest (Assign block holder lrn cic)) = block ≡ b
IsAssigned b _ = ⊥

made_of_block : (st : State) (b k id : ℕ) (request : Request)
    → id_among (Block b) k (subjects_made_by request (record_now st)) ≡ Some id
    → IsAssigned b request
made_of_block st b k id (CommandRequest (OldProviderCreate tn old_provider new_provider due
    authorized))
    made =
    let none = one_number b k tn (list_any _ (record_now st (Number tn)).versions) in
    let never : None ≡ Some id = sym none ∙ made in cc
made_of_block st b k id (CommandRequest (NewProviderCreate tn old_provider new_provider due lrn
    cic))
    made =
    let none = one_number b k tn (list_any _ (record_now st (Number tn)).versions) in
    let never : None ≡ Some id = sym none ∙ made in cc
made_of_block st b k id (CommandRequest (Donate block used lrn cic)) made =
    let never : None ≡ Some id =
    sym (numbers_none b k block (λ s. is_none (version_in_force (record_now st s))) (rising used))
    ∙ made in cc
made_of_block st b k id (CommandRequest (Assign block holder lrn cic)) made =
    by_cases (b == block) refl made
  where
    by_cases : (c : Bool) → (b == block) ≡ c → (if c then Some k else None) ≡ Some id → block ≡ b
    by_cases true e f = sym (equal_number b block e)
    by_cases false e f = cc
made_of_block st b k id _ made = cc

not_made : (st : State) (b k : ℕ) (request : Request) → (IsAssigned b request → ⊥)
    → id_among (Block b) k (subjects_made_by request (record_now st)) ≡ None
not_made st b k request never =
    by_cases (id_among (Block b) k (subjects_made_by request (record_now st))) refl
  where
    by_cases : (o : Option ℕ) → id_among (Block b) k (subjects_made_by request (record_now st)) ≡ o
        → o ≡ None
    by_cases None e = refl
    by_cases (Some id) e = absurd (never (made_of_block st b k id request e))

-- So a block that nobody donated has no version.
no_donor : (st : State) (caller b : ℕ) (request : Request)
    → refusal st (RequestFrom caller request) ≡ None → donor_of b st.history ≡ None
    → IsAssigned b request → ⊥
no_donor st caller b (CommandRequest (Assign block holder lrn cic)) ok none is =
    let known : is_none (donor_of block st.history) ≡ false =
    (accepted_command st caller (Assign block holder lrn cic) ok 10) in
    let never : true ≡ false = sym (ap (λ k. is_none (donor_of k st.history)) is ∙ ap is_none none)
    ∙ known in cc
no_donor st caller b _ ok none is = absurd is

donor_before : (first rest : Option ℕ) → or_else first rest ≡ None → rest ≡ None
donor_before None rest e = e
donor_before (Some x) rest e = cc

pub undonated : (w : Windows) (b : ℕ) (h : List Entry) (m : ℕ) → IsHistory w h m
    → donor_of b h ≡ None → (replay w (Block b) h m).versions ≡ []
unfolding judge effect
undonated w b = kept w (Block b) (λ h m r. donor_of b h ≡ None → r.versions ≡ []) (record {
  first = λ m none. refl;
  minute = λ h m is before none. ap (changed_at (present_set w h) (suc m)
      (judged_version (present_set w h) (replay w (Block b) h m).carriers (suc m))) (before none);
  entry = λ h e is before none.
      let st : State = record { windows = w; history = h; now = e.minute } in
      let earlier : donor_of b h ≡ None =
      donor_before (donor_named b e.caller e.request) (donor_of b h) none in
      ap (λ o. with_made o (λ id. made_version (present_set w h) id e.caller e.minute
      (replay w (Block b) h e.minute).carriers (donor_of (assigned_block e.request) h) e.request)
      (changed_at (present_set w h) e.minute (version_after_request (present_set w h) (Block b)
      e.caller e.minute
      (replay w (Block b) h e.minute).carriers e.request) (replay w (Block b) h e.minute).versions))
      (not_made st b (next_after (subjects_made w h)) e.request (no_donor st e.caller b e.request
      is.2
      earlier))
      ∙ ap (changed_at (present_set w h) e.minute (version_after_request (present_set w h) (Block b)
      e.caller
      e.minute (replay w (Block b) h e.minute).carriers e.request)) (before earlier);
})

-- ---- a protective open version is the only version of its number

-- Whether the version is open and protective.
abbrev pub is_port : ℕ → Version → Bool
is_port n v = is_open (Number n) v && v.protective

abbrev PortIsAlone : ℕ → List Version → Type 0
PortIsAlone n [] = ⊤
PortIsAlone n (v ∷ vs) = is_port n v ≡ true → NoneInForce vs

port_before : (n : ℕ) (old new : Version) → Respects (Number n) old new
    → new.protective ≡ old.protective → is_port n new ≡ true → is_port n old ≡ true
port_before n old new respects same is =
    ap (λ b. b && old.protective) (respects.opens (and_first (is_open (Number n) new) new.protective
    is)) ∙ sym same ∙ and_second (is_open (Number n) new) new.protective is

changed_alone : (w : WindowSet) (n minute : ℕ) (change : Version → Version) (vs : List Version)
    → RespectsEach (Number n) change vs → ((v : Version) → (change v).protective ≡ v.protective) →
    AreSound (Number n) vs → PortIsAlone n vs → PortIsAlone n (changed_at w minute change vs)
changed_alone w n minute change [] each same sound alone = tt
changed_alone w n minute change (v ∷ vs) each same sound alone = λ is.
    retired-none w (not (in_force v) && in_force (change v)) minute (changed_at w minute change vs)
    (changed-none w (Number n) minute change vs each.1 sound.0
    (alone (port_before n v (change v) each.0 (same v) is)))

-- Holds if the request is a donation of the number's block; only that makes a protective version.
abbrev IsDonated : ℕ → Request → Type 0
IsDonated n (CommandRequest (Donate block used lrn cic)) = block_of n ≡ block
IsDonated n _ = ⊥

module _ (st : State) (is : HasHistory st) (n : ℕ) where
  respected : (caller : ℕ) (all_carriers : List ℕ) (request : Request)
      → refusal st (RequestFrom caller request) ≡ None →
      RespectsEach (Number n) (version_after_request (set_now st) (Number n) caller st.now
      all_carriers request)
      (record_now st (Number n)).versions
  respected = entry-respects st (Number n) (given_now st is (Number n))

  made_port : (caller id : ℕ) (all_carriers : List ℕ) (donor : Option ℕ) (k : ℕ) (request : Request)
      → HasValues request → refusal st (RequestFrom caller request) ≡ None →
      id_among (Number n) k (subjects_made_by request (record_now st)) ≡ Some id
      → is_port n (made_version (set_now st) id caller st.now all_carriers donor request) ≡ true
      → IsDonated n request
  made_port caller id all_carriers donor k (CommandRequest (Donate block used lrn cic)) lines ok
      made port =
      equal_number (block_of n) block (donate-inside st (Number n) k id block used lrn cic lines
      made)
  made_port caller id all_carriers donor k
      (CommandRequest (OldProviderCreate tn old_provider new_provider due true)) lines ok made
      port = cc
  made_port caller id all_carriers donor k
      (CommandRequest (OldProviderCreate tn old_provider new_provider due false)) lines ok made
      port = cc
  made_port caller id all_carriers donor k _ lines ok made port = cc

  made_alone : (caller id : ℕ) (all_carriers : List ℕ) (donor : Option ℕ) (k : ℕ)
      (request : Request)
      → HasValues request → refusal st (RequestFrom caller request) ≡ None →
      id_among (Number n) k (subjects_made_by request (record_now st)) ≡ Some id
      → IsDonated n request
      → NoneInForce (changed_at (set_now st) st.now (version_after_request (set_now st) (Number n)
      caller st.now
      all_carriers request) (record_now st (Number n)).versions)
  made_alone caller id all_carriers donor k (CommandRequest (Donate block used lrn cic)) lines ok
      made
      donated =
      subst NoneInForce
      (sym (changed_at-same (set_now st) st.now (λ v. v) (record_now st (Number n)).versions
      (everywhere (λ v. refl) (record_now st (Number n)).versions)))
      (none_in_force-found (record_now st (Number n)).versions (donate-unforced st (Number n) k id
      block used lrn cic lines made))
  made_alone caller id all_carriers donor k _ lines ok made donated = absurd donated

  entered_alone : (caller : ℕ) (all_carriers : List ℕ) (donor : Option ℕ) (k : ℕ)
      (request : Request)
      → HasValues request → refusal st (RequestFrom caller request) ≡ None
      → PortIsAlone n (record_now st (Number n)).versions →
      (o : Option ℕ) → id_among (Number n) k (subjects_made_by request (record_now st)) ≡ o →
      PortIsAlone n (with_made o (λ id. made_version (set_now st) id caller st.now all_carriers
      donor
      request) (changed_at (set_now st) st.now (version_after_request (set_now st) (Number n) caller
      st.now
      all_carriers request) (record_now st (Number n)).versions))
  entered_alone caller all_carriers donor k request lines ok alone None unmade =
      changed_alone (set_now st) n st.now (version_after_request (set_now st) (Number n) caller
      st.now all_carriers
      request) (record_now st (Number n)).versions (respected caller all_carriers request ok)
      (λ v. (version_after_request-same (set_now st) (Number n) caller st.now all_carriers request
      v).protective)
      (sound_now st is (Number n)) alone
  entered_alone caller all_carriers donor k request lines ok alone (Some id) made = λ port.
      made_alone caller id all_carriers donor k request lines ok made
      (made_port caller id all_carriers donor k request lines ok made port)

pub ports_alone : (w : Windows) (n : ℕ) (h : List Entry) (m : ℕ) → IsHistory w h m
    → PortIsAlone n (replay w (Number n) h m).versions
unfolding judge effect
ports_alone w n = kept w (Number n) (λ h m r. PortIsAlone n r.versions) (record {
  first = λ m. tt;
  minute = λ h m is before.
      changed_alone (present_set w h) n (suc m) (judged_version (present_set w h)
      (replay w (Number n) h m).carriers (suc m)) (replay w (Number n) h m).versions
      (everywhere (λ v. by_status (Number n) v (judged_version (present_set w h)
      (replay w (Number n) h m).carriers (suc m) v) (judged_version-respects (Number n)
      (present_set w h) (replay w (Number n) h m).carriers (suc m) v))
      (replay w (Number n) h m).versions)
      (λ v. (judged_version-same (present_set w h) (replay w (Number n) h m).carriers (suc m)
      v).protective)
      (sound_now (record { windows = w; history = h; now = m }) is (Number n)) before;
  entry = λ h e is before.
      entered_alone (record { windows = w; history = h; now = e.minute }) is.3 n e.caller
      (replay w (Number n) h e.minute).carriers (donor_of (assigned_block e.request) h)
      (next_after (subjects_made w h)) e.request is.1 is.2 before
      (id_among (Number n) (next_after (subjects_made w h))
      (subjects_made_by e.request (λ t. replay w t h e.minute))) refl;
})

-- ---- the state of a block

-- Whether the version is in force or open.
abbrev stands : Subject → Version → Bool
stands s v = in_force v || is_open s v

abbrev is_taken : ℕ → List Version → Bool
is_taken b vs = list_any (stands (Block b)) vs

abbrev has_port : ℕ → List Version → Bool
has_port n vs = list_any (is_port n) vs

-- If a change gives no version the property, some version has it afterwards only if one had it
-- before. An old version must not have it.
module _ (w : WindowSet) (p : Version → Bool) (minute : ℕ) (fails : (v : Version)
    → p (with_status w Old minute v) ≡ false) where
  retired_before : (c : Bool) (vs : List Version) → list_any p (map (retired w c minute) vs) ≡ true
      → list_any p vs ≡ true
  retired_before c [] is = cc
  retired_before c (v ∷ vs) is = by_cases (retired_before c vs) (c && in_force v) is
    where
      by_cases : (list_any p (map (retired w c minute) vs) ≡ true → list_any p vs ≡ true)
          → (x : Bool)
          → (p (if x then with_status w Old minute v
          else v) || list_any p (map (retired w c minute) vs))
          ≡ true → (p v || list_any p vs) ≡ true
      by_cases later true e =
          or_right (p v) (list_any p vs)
          (later (ap (λ a. a || list_any p (map (retired w c minute) vs)) (sym (fails v)) ∙ e))
      by_cases later false e =
          or_either (p v) (list_any p (map (retired w c minute) vs)) (list_any p vs)
          later e
        where
          or_either : (a x y : Bool) → (x ≡ true → y ≡ true) → (a || x) ≡ true → (a || y) ≡ true
          or_either true x y f g = refl
          or_either false x y f g = f g

  any_before : (change : Version → Version) (vs : List Version)
      → AllByRecursion (λ v. p (change v) ≡ true → p v ≡ true) vs
      → list_any p (changed_at w minute change vs) ≡ true → list_any p vs ≡ true
  any_before change [] each is = cc
  any_before change (v ∷ vs) each is =
      or_both (p (change v))
      (list_any p (map (retired w (not (in_force v) && in_force (change v)) minute)
      (changed_at w minute change vs))) (p v) (list_any p vs) each.0
      (λ rest. any_before change vs each.1 (retired_before (not (in_force v) && in_force (change v))
      (changed_at w minute change vs) rest)) is
    where
      or_both : (a x c y : Bool) → (a ≡ true → c ≡ true) → (x ≡ true → y ≡ true) → (a || x) ≡ true
          → (c || y) ≡ true
      or_both true x c y f g e = ap (λ k. k || y) (f refl)
      or_both false x true y f g e = refl
      or_both false x false y f g e = g e

-- The version that is made, or another one, has the property.
any_made : (p : Version → Bool) (o : Option ℕ) (made : ℕ → Version) (vs : List Version)
    → list_any p (with_made o made vs) ≡ true → (list_any p vs ≡ true)
    ⊎ ((id : ℕ) × (o ≡ Some id) × (p (made id) ≡ true))
any_made p None made vs is = inl is
any_made p (Some id) made vs is = by_cases (p (made id)) refl is
  where
    by_cases : (a : Bool) → p (made id) ≡ a → (a || list_any p vs) ≡ true → (list_any p vs ≡ true)
        ⊎ ((j : ℕ) × (Some id ≡ Some j) × (p (made j) ≡ true))
    by_cases true e f = inr (id, refl, e)
    by_cases false e f = inl f

old_stands_not : (w : WindowSet) (b minute : ℕ) (v : Version)
    → stands (Block b) (with_status w Old minute v) ≡ false
old_stands_not w b minute v = refl

old_port_not : (w : WindowSet) (n minute : ℕ) (v : Version)
    → is_port n (with_status w Old minute v) ≡ false
old_port_not w n minute v = refl

stood_before : (b : ℕ) (old new : Version) → Respects (Block b) old new
    → stands (Block b) new ≡ true → stands (Block b) old ≡ true
stood_before b old new respects is = by_cases (is_open (Block b) old) refl (in_force new) refl is
  where
    by_cases : (o : Bool) → is_open (Block b) old ≡ o → (f : Bool) → in_force new ≡ f
        → (f || is_open (Block b) new) ≡ true → (in_force old || o) ≡ true
    by_cases true e f g h = or_true (in_force old)
    by_cases false e true g h = ap (λ a. a || false) (respects.forces e g)
    by_cases false e false g h = true-false (is_open (Block b) old) (respects.opens h) e

-- A minute gives no version the property.
module _ (w : WindowSet) (s : Subject) (p : Version → Bool) (fails : (minute : ℕ) (v : Version)
    → p (with_status w Old minute v) ≡ false)
    (before : (old new : Version) → Respects s old new → new.protective ≡ old.protective
    → p new ≡ true → p old ≡ true) where
  judged_before : (j : ℕ) (r : Record) → list_any p (judge w j r).versions ≡ true
      → list_any p r.versions ≡ true
  unfolding judge
  judged_before j r is = any_before w p j (fails j) (judged_version w r.carriers j) r.versions
      (everywhere (λ v. before v (judged_version w r.carriers j v)
      (by_status s v (judged_version w r.carriers j v) (judged_version-respects s w r.carriers j v))
      (judged_version-same w r.carriers j v).protective) r.versions) is

  minutes_before : (from n : ℕ) (r : Record) → list_any p (judged_for w from n r).versions ≡ true
      → list_any p r.versions ≡ true
  unfolding judged_for
  minutes_before from zero r is = is
  minutes_before from (suc n) r is =
      minutes_before from n r (judged_before (suc (from + n)) (judged_for w from n r) is)

-- ---- an entry

module _ (st : State) (is : HasHistory st) (n : ℕ) where
  abbrev block_now : List Version
  block_now = (record_now st (Block (block_of n))).versions

  abbrev number_now : List Version
  number_now = (record_now st (Number n)).versions

  port_head : (v : Version) (vs : List Version) → AreSound (Number n) (v ∷ vs)
      → has_port n (v ∷ vs) ≡ true → is_port n v ≡ true
  port_head v vs sound has = by_cases (is_port n v) has
    where
      closed : (us : List Version) → NoneOpen (Number n) us → has_port n us ≡ false
      closed [] none = refl
      closed (u ∷ us) none = ap (λ a. (a && u.protective) || has_port n us) none.0
          ∙ closed us none.1

      by_cases : (a : Bool) → (a || has_port n vs) ≡ true → a ≡ true
      by_cases true e = refl
      by_cases false e = true-false (has_port n vs) e (closed vs sound.0)

  -- A number with a protective open version is an open port of its block.
  port_is_open : (vs : List Version) → number_now ≡ vs → has_port n vs ≡ true
      → has_open_port st (block_of n) ≡ false → ⊥
  port_is_open [] e has none = cc
  port_is_open (v ∷ vs) e has none =
      let sound : AreSound (Number n) (v ∷ vs) =
      subst (AreSound (Number n)) e (sound_now st is (Number n)) in
      let port : is_port n v ≡ true = port_head v vs sound has in
      let open_now : is_open (Number n) v ≡ true =
      and_first (is_open (Number n) v) v.protective port in
      let rest : NoneInForce vs =
      subst (PortIsAlone n) e (ports_alone st.windows n st.history st.now is) port in
      let unforced : version_in_force (record_now st (Number n)) ≡ None =
      ap (find in_force) e ∙ ap (λ b. cond b (Some v) (find in_force vs))
      (open_not_in_force (Number n) v.status open_now) ∙ none_found vs rest in
      let given : AreGiven (made_now st) (Number n) (v ∷ vs) =
      subst (AreGiven (made_now st) (Number n)) e (given_now st is (Number n)) in
      let found : version_with v.id (record_now st (Number n)) ≡ Some v =
      ap (find (λ u. u.id == v.id)) e ∙ ap (λ b. cond b (Some v) (find (λ u. u.id == v.id) vs))
      (same_number v.id) in
      let shut : (is_in_block (block_of n) (Number n) && is_open (Number n) v && is_none
      (version_in_force (record_now st (Number n)))) ≡ false =
      open_port-none st (block_of n) none (Number n) v.id v given.0 found in
      let never : true ≡ false =
      sym (three (is_in_block (block_of n) (Number n)) (is_open (Number n) v)
      (is_none (version_in_force (record_now st (Number n)))) (same_number (block_of n)) open_now
      (ap is_none unforced)) ∙ shut in cc
    where
      three : (a b c : Bool) → a ≡ true → b ≡ true → c ≡ true → (a && b && c) ≡ true
      three true true true e f g = refl
      three false b c e f g = cc
      three true false c e f g = cc
      three true true false e f g = cc

      none_found : (us : List Version) → NoneInForce us → find in_force us ≡ None
      none_found [] none = refl
      none_found (u ∷ us) none = ap (λ b. cond b (Some u) (find in_force us)) none.0
          ∙ none_found us none.1

  assigned_never : (caller : ℕ) (request : Request) → refusal st (RequestFrom caller request) ≡ None
      → IsAssigned (block_of n) request → has_port n number_now ≡ true → ⊥
  assigned_never caller (CommandRequest (Assign block holder lrn cic)) ok assigned has =
      port_is_open number_now refl has (subst (λ b. has_open_port st b ≡ false)
      assigned (accepted_command st caller (Assign block holder lrn cic) ok 23))
  assigned_never caller _ ok assigned has = absurd assigned

  donated_never : (caller : ℕ) (request : Request) → refusal st (RequestFrom caller request) ≡ None
      → IsDonated n request → is_taken (block_of n) block_now ≡ true → ⊥
  donated_never caller (CommandRequest (Donate block used lrn cic)) ok donated taken =
      let free : donor_of block st.history ≡ None =
      none_there (donor_of block st.history)
      (accepted_command st caller (Donate block used lrn cic) ok 24) in
      let none : block_now ≡ [] =
      undonated st.windows (block_of n) st.history st.now is (ap (λ b. donor_of b st.history)
      donated ∙ free) in
      let never : true ≡ false = sym taken ∙ ap (is_taken (block_of n)) none in cc
  donated_never caller _ ok donated taken = absurd donated

  both_never : (request : Request) → IsAssigned (block_of n) request → IsDonated n request → ⊥
  both_never (CommandRequest (Assign block holder lrn cic)) assigned donated = absurd donated
  both_never _ assigned donated = absurd assigned

  -- An accepted entry does not make the block taken while the number's protective version is open.
  entered_apart : (is_taken (block_of n) block_now ≡ true → has_port n number_now ≡ true → ⊥)
      → (caller : ℕ) (a c : List ℕ) (donor : Option ℕ) (k : ℕ) (request : Request)
      → HasValues request →
      refusal st (RequestFrom caller request) ≡ None →
      is_taken (block_of n)
      (with_made (id_among (Block (block_of n)) k (subjects_made_by request (record_now st)))
      (λ id. made_version (set_now st) id caller st.now a donor request)
      (changed_at (set_now st) st.now (version_after_request (set_now st) (Block (block_of n))
      caller st.now a
      request) block_now)) ≡ true →
      has_port n (with_made (id_among (Number n) k (subjects_made_by request (record_now st)))
      (λ id. made_version (set_now st) id caller st.now c donor request)
      (changed_at (set_now st) st.now (version_after_request (set_now st) (Number n) caller st.now c
      request)
      number_now)) ≡ true → ⊥
  entered_apart apart caller a c donor k request lines ok taken has =
      by_cases (any_made (stands (Block (block_of n))) (id_among (Block (block_of n)) k
      (subjects_made_by request (record_now st))) (λ id. made_version (set_now st) id caller st.now
      a donor
      request)
      (changed_at (set_now st) st.now (version_after_request (set_now st) (Block (block_of n))
      caller st.now a
      request) block_now) taken)
      (any_made (is_port n) (id_among (Number n) k (subjects_made_by request (record_now st)))
      (λ id. made_version (set_now st) id caller st.now c donor request)
      (changed_at (set_now st) st.now (version_after_request (set_now st) (Number n) caller st.now c
      request)
      number_now) has)
    where
      taken_before : is_taken (block_of n) (changed_at (set_now st) st.now
          (version_after_request (set_now st) (Block (block_of n)) caller st.now a request)
          block_now) ≡ true
          → is_taken (block_of n) block_now ≡ true
      taken_before =
          any_before (set_now st) (stands (Block (block_of n))) st.now
          (old_stands_not (set_now st) (block_of n) st.now)
          (version_after_request (set_now st) (Block (block_of n)) caller st.now a request)
          block_now
          (each (λ v r. stood_before (block_of n) v (version_after_request (set_now st)
          (Block (block_of n))
          caller st.now a request v) r) block_now (entry-respects st (Block (block_of n))
          (given_now st is (Block (block_of n))) caller a request ok))

      had_before : has_port n (changed_at (set_now st) st.now (version_after_request (set_now st)
          (Number n)
          caller st.now c request) number_now) ≡ true → has_port n number_now ≡ true
      had_before = any_before (set_now st) (is_port n) st.now (old_port_not (set_now st) n st.now)
          (version_after_request (set_now st) (Number n) caller st.now c request) number_now
          (each (λ v r. port_before n v (version_after_request (set_now st) (Number n) caller st.now
          c request v)
          r (version_after_request-same (set_now st) (Number n) caller st.now c request
          v).protective) number_now
          (respected st is n caller c request ok))

      by_cases : (is_taken (block_of n) (changed_at (set_now st) st.now
          (version_after_request (set_now st) (Block (block_of n)) caller st.now a request)
          block_now) ≡ true)
          ⊎ ((id : ℕ) × (id_among (Block (block_of n)) k (subjects_made_by request (record_now st))
          ≡ Some id)
          × (stands (Block (block_of n)) (made_version (set_now st) id caller st.now a donor
          request) ≡ true)) →
          (has_port n (changed_at (set_now st) st.now (version_after_request (set_now st) (Number n)
          caller st.now
          c request) number_now) ≡ true)
          ⊎ ((id : ℕ) × (id_among (Number n) k (subjects_made_by request (record_now st)) ≡ Some id)
          × (is_port n (made_version (set_now st) id caller st.now c donor request) ≡ true)) → ⊥
      by_cases (inl x) (inl y) = apart (taken_before x) (had_before y)
      by_cases (inl x) (inr y) =
          donated_never caller request ok (made_port st is n caller y.0 c donor k request lines ok
          y.1 y.2) (taken_before x)
      by_cases (inr x) (inl y) =
          assigned_never caller request ok (made_of_block st (block_of n) k x.0 request x.1)
          (had_before y)
      by_cases (inr x) (inr y) =
          both_never request (made_of_block st (block_of n) k x.0 request x.1)
          (made_port st is n caller y.0 c donor k request lines ok y.1 y.2)

-- ---- every history

stay_apart : (w : Windows) (n : ℕ) (h : List Entry) (m : ℕ) → IsHistory w h m
    → is_taken (block_of n) (replay w (Block (block_of n)) h m).versions ≡ true
    → has_port n (replay w (Number n) h m).versions ≡ true → ⊥
unfolding replay_of replay_step effect
stay_apart w n [] m is taken has = cc
stay_apart w n (e ∷ h) m is taken has =
    entered_apart (record { windows = w; history = h; now = e.minute }) is.3 n
    (stay_apart w n h e.minute is.3) e.caller (replay w (Block (block_of n)) h e.minute).carriers
    (replay w (Number n) h e.minute).carriers
    (donor_of (assigned_block e.request) h) (next_after (subjects_made w h)) e.request is.1 is.2
    (minutes_before (present_set w (e ∷ h)) (Block (block_of n)) (stands (Block (block_of n)))
    (old_stands_not (present_set w (e ∷ h)) (block_of n)) (λ old new r same. stood_before
    (block_of n) old new r) e.minute (m - e.minute) (record_after w (Block (block_of n)) h e) taken)
    (minutes_before (present_set w (e ∷ h)) (Number n) (is_port n)
    (old_port_not (present_set w (e ∷ h)) n) (port_before n) e.minute (m - e.minute)
    (record_after w (Number n) h e) has)

-- This holds in every reachable state.
pub no_port_under_block : NoPortUnderBlock
no_port_under_block st is n forced =
    by_open (open_version (Number n) (record_now st (Number n))) refl
  where
    taken : (o : Option Version) → version_in_force (record_now st (Block (block_of n))) ≡ o
        → is_some o ≡ true → is_taken (block_of n) (record_now st (Block (block_of n))).versions
        ≡ true
    taken None e some = cc
    taken (Some u) e some =
        let found = found-among in_force (record_now st (Block (block_of n))).versions u e in
        there_any (stands (Block (block_of n))) u (record_now st (Block (block_of n))).versions
        found.0 (ap (λ b. b || is_open (Block (block_of n)) u) found.1)

    by_open : (o : Option Version) → open_version (Number n) (record_now st (Number n)) ≡ o
        → holds_of (λ (v : Version). v.protective) o ≡ false
    by_open None e = refl
    by_open (Some v) e = by_mark v.protective refl
      where
        by_mark : (b : Bool) → v.protective ≡ b → b ≡ false
        by_mark false f = refl
        by_mark true f =
            let found = found-among (is_open (Number n)) (record_now st (Number n)).versions v e in
            let port : has_port n (record_now st (Number n)).versions ≡ true =
            there_any (is_port n) v (record_now st (Number n)).versions found.0
            (ap (λ b. b && v.protective) found.1 ∙ f) in
            absurd (stay_apart st.windows n st.history st.now is.history
            (taken (version_in_force (record_now st (Block (block_of n)))) refl forced) port)
