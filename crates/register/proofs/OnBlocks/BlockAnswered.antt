-- The answers to commands on a block and the contents after them.
use Rattle.std.proofs.Common.{◌≡◌, ℕ, true, cond, not, List, [], ◌∷◌, Some, None, ap, sym, ◌∙◌, subst}
use Rattle.std.specs.Prelude.{◌==◌, find, option_map}
use Rattle.std.specs.FinMap.{keys}
use Rattle.numbers.specs.Subjects.{Block}
use Rattle.numbers.specs.Abstraction.{subject_of}
use Rattle.model.specs.Statuses.{Delete}
use Rattle.model.specs.Commands.{Release}
use Rattle.model.specs.Conditions.{holds_of, is_active}
use Rattle.model.specs.Versions.{Version, first_of_versions, in_force_status, last_version, version_with}
use Rattle.model.specs.Changes.{next_attempt}
use Rattle.model.specs.Content.{ClockRow, Content}
use Rattle.model.specs.History.{CommandRequest, Request}
use Rattle.model.specs.Machine.{Shown, accepted, answer_of, shown_found}
use Rattle.model.specs.State.{State, View, record_now, view_of, set_now}
use Rattle.model.specs.Refusals.{RequestFrom, refusal}
use Rattle.model.proofs.Accepted.{accepted_command}
use Rattle.model.proofs.Entries.{is_active-is}
use Rattle.numbers.proofs.Small.{same_number, some_is}
use Rattle.version.specs.declared.version.Version.{Version as VersionImpl}
use Rattle.version.specs.Abstraction.{Becomes, HasModel, model_with_windows, version_of}
use Rattle.settle.specs.Changes.{AppliesChanges}
use Rattle.settle.specs.Settling.{IsSettled}
use Rattle.settle.specs.Transition.{transition_changes}
use Rattle.register.specs.Refinement.{Refines}
use Rattle.register.specs.Settling.{FramesUnchanged}
use Rattle.register.proofs.OnBlocks.BlockCommands.{release-steps}
use Rattle.register.proofs.EveryCall.Composed.{Views}
use Rattle.register.proofs.OnVersions.OnVersion.{clock_is_of, clock_of}
use Rattle.register.proofs.Records.Stepped.{StepsOne, stepped-answer, stepped-leaves, stepped-stands}

-- ---- releases

first_has_id : (vs : List Version) (v : Version) → first_of_versions vs ≡ Some v
    → find (λ u. u.id == v.id) vs ≡ Some v
first_has_id [] v is = cc
first_has_id (u ∷ us) v is =
    let same : u ≡ v = some_is u v is in
    ap (λ b. cond b (Some u) (find (λ x. x.id == v.id) us)) (ap (λ (x : Version). x.id == v.id) same
    ∙ same_number v.id) ∙ is

-- `u` is the block's last version as read, and `next` the version after the release.
module _ (st : State) (old new : Content) (caller block : ℕ) (v : Version) (u next : VersionImpl)
    (id : ℕ) (clock : ClockRow) (all_carriers : List ℕ) (view : View)
    (refines : Refines old st) (due : IsSettled old st (Block block))
    (none : refusal st (RequestFrom caller (CommandRequest (Release block))) ≡ None)
    (last : last_version (record_now st (Block block)) ≡ Some v) (sees : HasModel u v)
    (its : id ≡ v.id) (subject : subject_of u.subject ≡ Block block)
    (clock_is : old.clock ≡ Some clock) (are_all : all_carriers ≡ keys old.carriers)
    (becomes : (cs : List ℕ) → Becomes (next_attempt clock.present Delete cs clock.minute) u next)
    (changed : AppliesChanges (transition_changes id clock.minute (Some Delete)
    (subject_of next.subject)
    (model_with_windows clock.present.windows next) all_carriers) old new)
    (views : Views clock.present.windows clock id next view) where
  abbrev request : Request
  request = CommandRequest (Release block)

  abbrev after_it : State
  after_it = accepted st (RequestFrom caller (CommandRequest (Release block)))

  abbrev cs : List ℕ
  cs = (record_now st (Block block)).carriers

  found : version_with v.id (record_now st (Block block)) ≡ Some v
  found = first_has_id (record_now st (Block block)).versions v last

  forced : in_force_status v.status ≡ true
  forced = ap in_force_status (is_active-is v.status
      (ap (holds_of (λ (x : Version). not (is_active x.status))) (sym last)
      ∙ accepted_command st caller (Release block) none 13))

  one : StepsOne st caller (CommandRequest (Release block)) (Block block) v.id
      (next_attempt (set_now st) Delete (record_now st (Block block)).carriers st.now) (Some Delete)
      v
  one = release-steps st old caller block v refines found forced

  same_clock : clock ≡ clock_of st
  same_clock = clock_is_of old st clock refines.represents clock_is

  now : clock.minute ≡ st.now
  now = ap (λ (k : ClockRow). k.minute) same_clock

  becomes_now : (cs : List ℕ) → Becomes (next_attempt (set_now st) Delete cs st.now) u next
  becomes_now cs =
      subst (λ (k : ClockRow). Becomes (next_attempt k.present Delete cs k.minute) u next)
      same_clock (becomes cs)

  after_is : version_of v.id (next_attempt (set_now st) Delete
      (record_now st (Block block)).carriers st.now
      v).broadcasts (set_now st).windows next
      ≡ next_attempt (set_now st) Delete (record_now st (Block block)).carriers st.now v
  after_is = subst (λ (x : Version). HasModel next
      (next_attempt (set_now st) Delete (record_now st (Block block)).carriers st.now x)) sees
      ((becomes_now (record_now st (Block block)).carriers).version v.id v.broadcasts
      v.held.windows)

  its_subject : subject_of next.subject ≡ Block block
  its_subject = ap subject_of (becomes []).subject ∙ subject

  put : AppliesChanges (transition_changes v.id st.now (Some Delete) (Block block)
      (next_attempt (set_now st) Delete (record_now st (Block block)).carriers st.now v)
      all_carriers) old new
  put = subst (λ (x : Version). AppliesChanges (transition_changes v.id st.now (Some Delete)
      (Block block) x
      all_carriers) old new) after_is
      (subst (λ k. AppliesChanges (transition_changes k st.now (Some Delete) (Block block)
      (model_with_windows (set_now st).windows next) all_carriers) old new) its
      (subst (λ t. AppliesChanges (transition_changes id st.now (Some Delete) t
      (model_with_windows (set_now st).windows next)
      all_carriers) old new) its_subject
      (subst (λ (k : ClockRow). AppliesChanges (transition_changes id k.minute (Some Delete)
      (subject_of next.subject) (model_with_windows k.present.windows next) all_carriers) old new)
      same_clock
      changed)))

  seen_as : view ≡ view_of after_it (record {
    subject = Block block;
    version = next_attempt (set_now st) Delete (record_now st (Block block)).carriers st.now v;
  })
  seen_as =
      views after_it (next_attempt (set_now st) Delete (record_now st (Block block)).carriers st.now
      v).broadcasts (sym now)
      ∙ ap (λ (k : ClockRow). view_of after_it
      (record {
        subject = subject_of next.subject;
        version =
            version_of id (next_attempt (set_now st) Delete (record_now st (Block block)).carriers
            st.now
            v).broadcasts k.present.windows next;
      })) same_clock
      ∙ ap (λ t. view_of after_it (record {
        subject = t;
        version = version_of id (next_attempt (set_now st) Delete
            (record_now st (Block block)).carriers
            st.now v).broadcasts (set_now st).windows next;
      })) its_subject
      ∙ ap (λ k. view_of after_it (record {
        subject = Block block;
        version = version_of k (next_attempt (set_now st) Delete
            (record_now st (Block block)).carriers
            st.now v).broadcasts (set_now st).windows next;
      })) its
      ∙ ap (λ x. view_of after_it (record { subject = Block block; version = x })) after_is

  pub released-stands : Refines new after_it
  released-stands = stepped-stands st old new caller (CommandRequest (Release block)) (Block block)
      v.id
      (next_attempt (set_now st) Delete (record_now st (Block block)).carriers st.now) (Some Delete)
      v
      all_carriers clock one refines due found clock_is none are_all put

  pub released-leaves : FramesUnchanged old new st
      (RequestFrom caller (CommandRequest (Release block)))
  released-leaves = stepped-leaves st old new caller (CommandRequest (Release block)) (Block block)
      v.id
      (next_attempt (set_now st) Delete (record_now st (Block block)).carriers st.now) (Some Delete)
      v
      all_carriers clock one refines due found clock_is none are_all put

  pub released-answer : Shown (Some view) ≡ answer_of st after_it
      (RequestFrom caller (CommandRequest (Release block)))
  released-answer =
      stepped-answer st old new caller (CommandRequest (Release block)) (Block block) v.id
      (next_attempt (set_now st) Delete (record_now st (Block block)).carriers st.now) (Some Delete)
      v
      all_carriers clock one refines due found clock_is none are_all put view seen_as
      ∙ sym (ap (λ o. shown_found after_it (option_map (λ (x : Version). x.id) o)) last)
