-- Of a subject's versions at most one has a running timer, so a minute ends one status at most.
use Rattle.std.proofs.Common.{◌≡◌, ℕ, Bool, true, false, cond, not, ◌&&◌, ◌||◌, List, [], ◌∷◌, map, Some, refl, ap, sym, ◌∙◌, subst}
use Rattle.std.specs.Prelude.{⊤, ◌==◌, find, if◌then◌else◌}
use Rattle.numbers.specs.Subjects.{Subject, Number, Block}
use Rattle.model.specs.Statuses.{Delete, Modify}
use Rattle.model.specs.Statuses.{Status, Sending, Active, DisconnectPending}
use Rattle.model.specs.Windows.{Windows, WindowSet}
use Rattle.model.specs.Sound.{NoneInForce, OneInForce, NoneOpen, InForceIsActive, HaveBlockStatus, block_status, is_block, AreSound}
use Rattle.model.specs.Versions.{Version, Record, in_force, in_force_status, is_open, open_by, version_with}
use Rattle.model.specs.Changes.{changed_at, of_id, retired}
use Rattle.model.specs.Concerns.{has_id}
use Rattle.model.specs.Content.{IsReachableRecord}
use Rattle.model.specs.Judge.{is_expired, version_on_expiry, judged_version, judge}
use Rattle.model.specs.Laws.{IsQuiet}
use Rattle.numbers.proofs.Small.{true-false, equal_number}
use Rattle.model.proofs.Due.{AreApart}
use Rattle.model.proofs.Sound.{replay-sound}
use Rattle.model.proofs.Reached.{reached_as}
use Rattle.model.proofs.Unique.{judge-sound}

-- ---- a reachable record is sound

pub reached-sound : (w : Windows) (present : WindowSet) (s : Subject) (r : Record)
    → IsReachableRecord w present s r → AreSound s r.versions
reached-sound w present s r reached =
    reached_as (λ (x : Record). AreSound s x.versions) w present s r reached
    (λ j x sound. judge-sound s present j x sound)
    (replay-sound w s reached.entries reached.until reached.are_entries).0

-- ---- a version with a timer is open, or in force and not active

module _ (w : WindowSet) (j : ℕ) where
  pub over_status : (s : Subject) (status : Status) (v : Version)
      → (is_block s ≡ true → block_status status ≡ true) → is_expired j v status ≡ true
      → open_by s status ≡ false →
      (in_force_status status ≡ true) × (status ≡ Active → ⊥)
  over_status (Number n) (Sending Delete) v block over closed = (refl, λ e. cc)
  over_status (Number n) (Sending (Modify routing)) v block over closed = (refl, λ e. cc)
  over_status (Number n) (DisconnectPending release) v block over closed = (refl, λ e. cc)
  over_status (Number n) _ v block over closed = cc
  over_status (Block b) (Sending Delete) v block over closed = (refl, λ e. cc)
  over_status (Block b) (Sending (Modify routing)) v block over closed = (refl, λ e. cc)
  over_status (Block b) _ v block over closed = let fits = block refl in cc

  -- ---- versions that are not open

  abbrev Over : Version → Bool
  Over v = is_expired j v v.status

  -- If none of them is in force, no timer has expired.
  none_over : (s : Subject) (vs : List Version) → (is_block s ≡ true → HaveBlockStatus vs)
      → NoneOpen s vs → NoneInForce vs → IsQuiet j vs
  none_over s [] block closed out = tt
  none_over s (v ∷ vs) block closed out =
      (by_cases (Over v) refl, none_over s vs (λ is. (block is).1) closed.1 out.1)
    where
      by_cases : (b : Bool) → Over v ≡ b → b ≡ false
      by_cases false e = refl
      by_cases true e =
          true-false (in_force v) (over_status s v.status v (λ is. (block is).0) e closed.0).0 out.0

  -- If only an active one is in force, no timer has expired.
  active_over : (s : Subject) (vs : List Version) → (is_block s ≡ true → HaveBlockStatus vs)
      → NoneOpen s vs → InForceIsActive vs → IsQuiet j vs
  active_over s [] block closed active = tt
  active_over s (v ∷ vs) block closed active = (
    by_cases (Over v) refl,
    active_over s vs (λ is. (block is).1) closed.1 active.1,
  )
    where
      by_cases : (b : Bool) → Over v ≡ b → b ≡ false
      by_cases false e = refl
      by_cases true e =
          let waits = over_status s v.status v (λ is. (block is).0) e closed.0 in
          absurd (waits.1 (active.0 waits.0))

  -- ---- only the timer of the version with the id has expired

  abbrev pub OnlyOver : ℕ → List Version → Type 0
  OnlyOver id [] = ⊤
  OnlyOver id (v ∷ vs) = ((v.id == id) ≡ false → Over v ≡ false) × OnlyOver id vs

  quiet_only : (id : ℕ) (vs : List Version) → IsQuiet j vs → OnlyOver id vs
  quiet_only id [] quiet = tt
  quiet_only id (v ∷ vs) quiet = (λ other. quiet.0, quiet_only id vs quiet.1)

  abbrev Finds : ℕ → List Version → Version → Type 0
  Finds id vs x = find (λ v. v.id == id) vs ≡ Some x

  same_found : (x y : Version) → Some x ≡ Some y → x ≡ y
  same_found x y e = cc

  -- A version whose timer has expired, among versions that are not open, is in force and not
  -- active.
  found_waits : (s : Subject) (id : ℕ) (vs : List Version) (x : Version)
      → (is_block s ≡ true → HaveBlockStatus vs) → NoneOpen s vs → Finds id vs x → Over x ≡ true →
      (in_force x ≡ true) × (x.status ≡ Active → ⊥)
  found_waits s id [] x block closed found over = cc
  found_waits s id (v ∷ vs) x block closed found over =
      by_cases (v.id == id) found (λ f. found_waits s id vs x (λ is. (block is).1) closed.1 f over)
    where
      by_cases : (b : Bool) → cond b (Some v) (find (λ u. u.id == id) vs) ≡ Some x
          → (Finds id vs x → (in_force x ≡ true) × (x.status ≡ Active → ⊥)) → (in_force x ≡ true)
          × (x.status ≡ Active → ⊥)
      by_cases false f later = later f
      by_cases true f later =
          let same : v ≡ x = same_found v x f in
          subst (λ (u : Version). (in_force u ≡ true) × (u.status ≡ Active → ⊥)) same
          (over_status s v.status v (λ is. (block is).0) (subst (λ (u : Version). Over u ≡ true)
          (sym same) over) closed.0)

  found_in_force : (id : ℕ) (vs : List Version) (x : Version) → NoneInForce vs → Finds id vs x
      → in_force x ≡ false
  found_in_force id [] x out found = cc
  found_in_force id (v ∷ vs) x out found =
      by_cases (v.id == id) found (λ f. found_in_force id vs x out.1 f)
    where
      by_cases : (b : Bool) → cond b (Some v) (find (λ u. u.id == id) vs) ≡ Some x
          → (Finds id vs x → in_force x ≡ false) → in_force x ≡ false
      by_cases false f later = later f
      by_cases true f later = subst (λ (u : Version). in_force u ≡ false) (same_found v x f) out.0

  found_active : (id : ℕ) (vs : List Version) (x : Version) → InForceIsActive vs → Finds id vs x
      → in_force x ≡ true → x.status ≡ Active
  found_active id [] x active found now = cc
  found_active id (v ∷ vs) x active found now =
      by_cases (v.id == id) found (λ f. found_active id vs x active.1 f now)
    where
      by_cases : (b : Bool) → cond b (Some v) (find (λ u. u.id == id) vs) ≡ Some x
          → (Finds id vs x → x.status ≡ Active) → x.status ≡ Active
      by_cases false f later = later f
      by_cases true f later =
          let same : v ≡ x = same_found v x f in
          subst (λ (u : Version). in_force u ≡ true → u.status ≡ Active) same active.0 now

  -- Among versions that are not open, only the timer of the one with the id has expired.
  closed_only : (s : Subject) (id : ℕ) (vs : List Version) (x : Version)
      → (is_block s ≡ true → HaveBlockStatus vs) → NoneOpen s vs → OneInForce vs → Finds id vs x
      → Over x ≡ true → OnlyOver id vs
  closed_only s id [] x block closed one found over = tt
  closed_only s id (v ∷ vs) x block closed one found over =
      by_cases (v.id == id) refl found (λ f. closed_only s id vs x (λ is. (block is).1) closed.1
      one.1 f
      over)
    where
      head_waits : Over v ≡ true → NoneInForce vs
      head_waits e = one.0 (over_status s v.status v (λ is. (block is).0) e closed.0).0

      by_cases : (b : Bool) → (v.id == id) ≡ b → cond b (Some v) (find (λ u. u.id == id) vs)
          ≡ Some x
          → (Finds id vs x → OnlyOver id vs) → OnlyOver id (v ∷ vs)
      by_cases true e f later =
          let same : v ≡ x = same_found v x f in (
            λ other. true-false (v.id == id) e other,
            quiet_only id vs (none_over s vs (λ is. (block is).1) closed.1
                (head_waits (subst (λ (u : Version). Over u ≡ true) (sym same) over))),
          )
      by_cases false e f later = (λ other. quiet_head (Over v) refl, later f)
        where
          quiet_head : (o : Bool) → Over v ≡ o → o ≡ false
          quiet_head false q = refl
          quiet_head true q =
              true-false (in_force x) (found_waits s id vs x (λ is. (block is).1) closed.1 f over).0
              (found_in_force id vs x (head_waits q) f)

  pub only_over : (s : Subject) (id : ℕ) (vs : List Version) (x : Version) → AreSound s vs
      → Finds id vs x → Over x ≡ true → OnlyOver id vs
  only_over s id [] x sound found over = tt
  only_over s id (v ∷ vs) x sound found over = by_cases (v.id == id) refl found
    where
      behind : is_block s ≡ true → HaveBlockStatus vs
      behind is = (sound.3 is).0.1

      -- If the timer of the newest version has expired, no older one's has.
      quiet_behind : Over v ≡ true → (b : Bool) → is_open s v ≡ b → IsQuiet j vs
      quiet_behind o true e = active_over s vs behind sound.0 (sound.2 e)
      quiet_behind o false e =
          none_over s vs behind sound.0
          (sound.1.0 (over_status s v.status v (λ is. (sound.3 is).0.0) o e).0)

      quiet_head : cond false (Some v) (find (λ u. u.id == id) vs) ≡ Some x → (o : Bool)
          → Over v ≡ o → (b : Bool) → is_open s v ≡ b → o ≡ false
      quiet_head f false q b e = refl
      quiet_head f true q true e =
          let waits = found_waits s id vs x behind sound.0 f over in
          absurd (waits.1 (found_active id vs x (sound.2 e) f waits.0))
      quiet_head f true q false e =
          true-false (in_force x) (found_waits s id vs x behind sound.0 f over).0
          (found_in_force id vs x (sound.1.0 (over_status s v.status v (λ is. (sound.3 is).0.0) q
          e).0) f)

      by_cases : (b : Bool) → (v.id == id) ≡ b → cond b (Some v) (find (λ u. u.id == id) vs)
          ≡ Some x
          → OnlyOver id (v ∷ vs)
      by_cases true e f =
          let same : v ≡ x = same_found v x f in (
            λ other. true-false (v.id == id) e other,
            quiet_only id vs (quiet_behind (subst (λ (u : Version). Over u ≡ true) (sym same) over)
                (is_open s v) refl),
          )
      by_cases false e f = (
        λ other. quiet_head f (Over v) refl (is_open s v) refl,
        closed_only s id vs x behind sound.0 sound.1.1 f over,
      )

  -- ---- judging a minute

  -- Holds if the timer of each version with the id has expired.
  abbrev AllOver : ℕ → List Version → Type 0
  AllOver id [] = ⊤
  AllOver id (v ∷ vs) = ((v.id == id) ≡ true → Over v ≡ true) × AllOver id vs

  none_there : (id : ℕ) (vs : List Version) → has_id id vs ≡ false → AllOver id vs
  none_there id [] none = tt
  none_there id (v ∷ vs) none = by_cases (v.id == id) refl none (λ rest. none_there id vs rest)
    where
      by_cases : (b : Bool) → (v.id == id) ≡ b → (b || has_id id vs) ≡ false
          → (has_id id vs ≡ false → AllOver id vs) → AllOver id (v ∷ vs)
      by_cases true e f later = cc
      by_cases false e f later = (λ is. true-false (v.id == id) is e, later f)

  all_over : (id : ℕ) (vs : List Version) (x : Version) → AreApart vs → Finds id vs x
      → Over x ≡ true → AllOver id vs
  all_over id [] x apart found over = tt
  all_over id (v ∷ vs) x apart found over =
      by_cases (v.id == id) refl found (λ f. all_over id vs x apart.1 f over)
    where
      by_cases : (b : Bool) → (v.id == id) ≡ b → cond b (Some v) (find (λ u. u.id == id) vs)
          ≡ Some x
          → (Finds id vs x → AllOver id vs) → AllOver id (v ∷ vs)
      by_cases true e f later = (
        λ is. subst (λ (u : Version). Over u ≡ true) (sym (same_found v x f)) over,
        none_there id vs (ap (λ k. has_id k vs) (sym (equal_number v.id id e)) ∙ apart.0),
      )
      by_cases false e f later = (λ is. true-false (v.id == id) is e, later f)

  -- The version after its timer expired.
  abbrev pub ended_at : List ℕ → Version → Version
  ended_at all_carriers v = version_on_expiry w all_carriers j v v.status

  same_version : (all_carriers : List ℕ) (id : ℕ) (v : Version)
      → ((v.id == id) ≡ false → Over v ≡ false) → ((v.id == id) ≡ true → Over v ≡ true) →
      judged_version w all_carriers j v ≡ of_id id (ended_at all_carriers) v
  unfolding judged_version
  same_version all_carriers id v others its = by_cases (v.id == id) refl
    where
      by_cases : (b : Bool) → (v.id == id) ≡ b → (if Over v then ended_at all_carriers v
          else v) ≡ (if b
          then ended_at all_carriers v else v)
      by_cases true e = ap (λ o. if o then ended_at all_carriers v else v) (its e)
      by_cases false e = ap (λ o. if o then ended_at all_carriers v else v) (others e)

  same_change : (all_carriers : List ℕ) (id : ℕ) (vs : List Version) → OnlyOver id vs
      → AllOver id vs
      → changed_at w j (judged_version w all_carriers j) vs ≡ changed_at w j
      (of_id id (ended_at all_carriers)) vs
  same_change all_carriers id [] others its = refl
  same_change all_carriers id (v ∷ vs) others its =
      ap (λ u. u ∷ map (retired w (not (in_force v) && in_force u) j)
      (changed_at w j (judged_version w all_carriers j) vs)) (same_version all_carriers id v
      others.0 its.0)
      ∙ ap (λ us. of_id id (ended_at all_carriers) v ∷ map
      (retired w (not (in_force v) && in_force (of_id id (ended_at all_carriers) v)) j) us)
      (same_change all_carriers id vs others.1 its.1)

  -- The minute when a version's timer expires ends that version's status. It changes no other
  -- version except one that this one supersedes.
  pub judge-one : (s : Subject) (r : Record) (id : ℕ) (v : Version) → AreSound s r.versions
      → AreApart r.versions → version_with id r ≡ Some v → is_expired j v v.status ≡ true →
      judge w j r ≡ record r {
        versions = changed_at w j (of_id id (ended_at r.carriers)) r.versions;
      }
  unfolding judge
  judge-one s r id v sound apart found over =
      ap (λ vs. record r { versions = vs }) (same_change r.carriers id r.versions
      (only_over s id r.versions v sound found over) (all_over id r.versions v apart found over))
