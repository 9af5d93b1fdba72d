-- The answer to a create and the content after it.
use Rattle.std.proofs.Common.{◌≡◌, ℕ, ◌+◌, ◌≤◌, Bool, true, false, cond, List, [], ◌∷◌, Option, Some, None, refl, ap, sym, ◌∙◌, subst, arith}
use Rattle.std.specs.Prelude.{◌^◌, ◌-◌, min, find, option_map, if◌then◌else◌}
use Rattle.numbers.specs.Digits.{block_of}
use Rattle.numbers.specs.Subjects.{Subject, Number, Block}
use Rattle.model.specs.Windows.{Windows, WindowSet}
use Rattle.model.specs.Versions.{Version, Broadcast}
use Rattle.model.specs.Judge.{is_expired}
use Rattle.model.specs.Laws.{IsQuiet}
use Rattle.model.specs.History.{CommandRequest}
use Rattle.model.specs.State.{State, record_now, next_of}
use Rattle.model.specs.Conditions.{limit, holds_of}
use Rattle.model.specs.Refusals.{RequestFrom, refusal}
use Rattle.model.specs.Machine.{shown, reply_of}
use Rattle.model.specs.Content.{Content, ClockRow}
use Rattle.model.proofs.Creates.{if_holds}
use Rattle.model.proofs.Shown.{some_is}
use Rattle.version.specs.declared.version.Version.{Version as VersionImpl}
use Rattle.version.specs.declared.create.Create.{Create as CreateImpl}
use Rattle.version.specs.declared.create.CreateFacts.{CreateFacts}
use Rattle.version.specs.declared.create.Creator.{Creator}
use Rattle.version.specs.declared.create.Creator.TheVariants.{OldProvider, NewProvider}
use Rattle.version.specs.declared.create.Created.TheVariants.{First, Second}
use Rattle.version.specs.Abstraction.{version_of, model_of, Becomes, HasModel}
use Rattle.version.specs.Creates.{command_by, command_of, create_refusal, lacks, is_lacked, with_create, answered_by, IsMade, IsCreated}
use Rattle.version.specs.Facts.{HasModelIfAny}
use Rattle.settle.specs.Settling.{IsSettled}
use Rattle.register.specs.Refinement.{Refines}
use Rattle.register.specs.Settling.{SimulatesSettledStep, AreSettled, is_of_number, settles_for, changes_for}
use Rattle.requests.specs.Calls.{refused_with}
use Rattle.register.specs.Serving.{AreCreateFacts, IsVersionInForce, HasReadFacts, IsOpened, are_known}
use Rattle.register.proofs.EveryCall.Composed.{answers_refused_same, first_refusal}
use Rattle.register.proofs.OnVersions.OnVersion.{LeavesRegistry}
use Rattle.register.proofs.EveryCall.Settled.{number_of_number}
use Rattle.register.proofs.OnVersions.FactsRead.{unknown_is, refused_by_facts}

-- ---- the subjects that a create settles

create_settles : (creator : Creator) (tn old_provider new_provider due : ℕ) (st : State)
    (s : Subject) →
    settles_for (command_by creator tn old_provider new_provider due) st s ≡ is_of_number tn st s
create_settles (OldProvider authorized) tn old_provider new_provider due st s = refl
create_settles (NewProvider routing) tn old_provider new_provider due st s = refl

pub create_settled : (old : Content) (st : State) (caller : ℕ) (c : CreateImpl)
    → AreSettled old st (RequestFrom caller (CommandRequest (command_of c))) →
    (s : Subject) → is_of_number c.tn.number st s ≡ true → IsSettled old st s
create_settled old st caller c settled s is =
    settled s (create_settles c.creator c.tn.number c.old_provider.number c.new_provider.number
    c.due.number st s ∙ is)

create_changes : (creator : Creator) (tn old_provider new_provider due : ℕ) (st : State)
    (s : Subject) →
    changes_for (command_by creator tn old_provider new_provider due) st s ≡ is_of_number tn st s
create_changes (OldProvider authorized) tn old_provider new_provider due st s = refl
create_changes (NewProvider routing) tn old_provider new_provider due st s = refl

pub changes_number : (st : State) (c : CreateImpl)
    → changes_for (command_of c) st (Number c.tn.number) ≡ true
changes_number st c =
    create_changes c.creator c.tn.number c.old_provider.number c.new_provider.number c.due.number st
    (Number c.tn.number) ∙ number_of_number st c.tn.number

-- ---- the contents that were read, and refusals

-- The number's rows were read of one content and the rest of another, both equal to the first.
pub facts_read : (old first second : Content) (caller : ℕ) (c : CreateImpl) (clock : ClockRow)
    (held : Option VersionImpl) (opened : Option (ℕ × VersionImpl)) (block : Option VersionImpl)
    (facts : CreateFacts) → first ≡ old → second ≡ old → are_known old c caller ≡ true
    → old.clock ≡ Some clock → IsVersionInForce first (Number c.tn.number) held
    → IsOpened first (Number c.tn.number) opened
    → IsVersionInForce first (Block (block_of c.tn.number)) block
    → AreCreateFacts second c clock.next_id held opened block facts
    → HasReadFacts old caller c clock facts
facts_read old first second caller c clock held opened block facts one two known clock_is is_held
    is_opened is_block read = record {
      known = known;
      clock_is = clock_is;
      held = held;
      opened = opened;
      block = block;
      is_held = subst (λ (m : Content). IsVersionInForce m (Number c.tn.number) held) one is_held;
      is_opened = subst (λ (m : Content). IsOpened m (Number c.tn.number) opened) one is_opened;
      is_block = subst (λ (m : Content). IsVersionInForce m (Block (block_of c.tn.number)) block)
          one
          is_block;
      read = subst (λ (m : Content). AreCreateFacts m c clock.next_id held opened block facts) two
          read;
    }

pub refused_as : (st : State) (old : Content) (caller : ℕ) (c : CreateImpl) (clock : ClockRow)
    (facts : CreateFacts) → HasReadFacts old caller c clock facts → Refines old st
    → AreSettled old st (RequestFrom caller (CommandRequest (command_of c)))
    → refusal st (RequestFrom caller (CommandRequest (command_of c))) ≡ create_refusal
    clock.present.windows
    clock.minute caller c facts
refused_as st old caller c clock facts has refines settled =
    refused_by_facts st old caller c clock facts refines (create_settled old st caller c settled)
    has

pub answers_create_refused : (old new : Content) (caller : ℕ) (c : CreateImpl) (clock : ClockRow)
    (facts : CreateFacts) (k : ℕ) → new ≡ old → HasReadFacts old caller c clock facts
    → Some k ≡ create_refusal clock.present.windows clock.minute caller c facts →
    SimulatesSettledStep old new (RequestFrom caller (CommandRequest (command_of c)))
    (refused_with k)
answers_create_refused old new caller c clock facts k same has refused =
    answers_refused_same old new (RequestFrom caller (CommandRequest (command_of c))) k same
    (λ st refines settled. refused_as st old caller c clock facts has refines settled ∙ sym refused)

pub answers_create_unknown : (old new : Content) (caller : ℕ) (c : CreateImpl) → new ≡ old
    → are_known old c caller ≡ false
    → SimulatesSettledStep old new (RequestFrom caller (CommandRequest (command_of c)))
    (refused_with 1)
answers_create_unknown old new caller c same unknown =
    answers_refused_same old new (RequestFrom caller (CommandRequest (command_of c))) 1 same
    (λ st refines settled. first_refusal st caller (command_of c)
    (unknown_is st old c caller refines
    unknown))

-- ---- a version's row written

-- ---- the request of a create

pub create-registry : (creator : Creator) (caller tn old_provider new_provider due : ℕ)
    → LeavesRegistry caller (CommandRequest (command_by creator tn old_provider new_provider due))
create-registry (OldProvider authorized) caller tn old_provider new_provider due = record {
  carrier = refl;
  lrn = λ k. refl;
  code = λ k. refl;
  donor = λ k. refl;
  lines = tt;
  unset = refl;
}
create-registry (NewProvider routing) caller tn old_provider new_provider due = record {
  carrier = refl;
  lrn = λ k. refl;
  code = λ k. refl;
  donor = λ k. refl;
  lines = tt;
  unset = refl;
}

abbrev pub id_or : Option Version → ℕ → ℕ
id_or o next = elim o [ Some v ↦ v.id | None ↦ next ]

pub reply_by : (creator : Creator) (st new : State) (caller tn old_provider new_provider due : ℕ) →
    reply_of st new caller (command_by creator tn old_provider new_provider due)
    ≡ shown new
    (id_or (find (lacks creator old_provider new_provider) (record_now st (Number tn)).versions)
    (next_of st))
reply_by (OldProvider authorized) st new caller tn old_provider new_provider due = refl
reply_by (NewProvider routing) st new caller tn old_provider new_provider due = refl

-- Whether a version lacks a create does not depend on its id, its broadcasts and its windows.
pub lacks_seen : (w : Windows) (creator : Creator) (old_provider new_provider id : ℕ)
    (broadcasts : List Broadcast) (u : VersionImpl) →
    lacks creator old_provider new_provider (version_of id broadcasts w u)
    ≡ lacks creator old_provider new_provider (model_of u)
lacks_seen w (OldProvider authorized) old_provider new_provider id broadcasts u = refl
lacks_seen w (NewProvider routing) old_provider new_provider id broadcasts u = refl

pub lacks_as : (c : CreateImpl) (u : VersionImpl) (v : Version) → HasModel u v →
    lacks c.creator c.old_provider.number c.new_provider.number v ≡ is_lacked c (model_of u)
lacks_as c u v is = ap (lacks c.creator c.old_provider.number c.new_provider.number) (sym is)
    ∙ lacks_seen v.held.windows c.creator c.old_provider.number c.new_provider.number v.id
    v.broadcasts u

pub none_answers : (c : CreateImpl) (o : Option (ℕ × VersionImpl)) (p : Option Version) →
    HasModelIfAny (option_map (λ e. e.1) o) p → answered_by c o ≡ None →
    holds_of (lacks c.creator c.old_provider.number c.new_provider.number) p ≡ false
none_answers c None None sees none = refl
none_answers c (Some e) (Some v) sees none = lacks_as c e.1 v sees
    ∙ by_cases (is_lacked c (model_of e.1)) none
  where
    by_cases : (b : Bool) → (if b then Some e else None) ≡ None → b ≡ false
    by_cases true is = cc
    by_cases false is = refl
none_answers c None (Some v) sees none = absurd sees
none_answers c (Some e) None sees none = absurd sees

pub if_holds-none : (test : Version → Bool) (p : Option Version) → holds_of test p ≡ false
    → if_holds test p ≡ None
if_holds-none test None none = refl
if_holds-none test (Some v) none = ap (λ b. if b then Some v else None) none

pub first_created : (w : WindowSet) (minute : ℕ) (c : CreateImpl) (o : Option (ℕ × VersionImpl))
    (m : VersionImpl) → IsCreated w minute c o (First m) → (o ≡ None) × IsMade w minute c m
first_created w minute c None m is = (refl, is)
first_created w minute c (Some e) m is = absurd is

-- The id of a second create is the open version's, which lacks the create.
pub second_created : (w : WindowSet) (minute : ℕ) (c : CreateImpl) (o : Option (ℕ × VersionImpl))
    (id : ℕ) (m : VersionImpl) → IsCreated w minute c (answered_by c o) (Second id m) →
    (u : VersionImpl) × (o ≡ Some (id, u)) × (is_lacked c (model_of u) ≡ true)
    × Becomes (with_create w c.creator minute) u m
second_created w minute c None id m is = absurd is
second_created w minute c (Some e) id m is = by_cases (is_lacked c (model_of e.1)) refl is
  where
    by_cases : (b : Bool) → is_lacked c (model_of e.1) ≡ b → IsCreated w minute c (if b then Some e
        else None) (Second id m) →
        (u : VersionImpl) × (Some e ≡ Some (id, u)) × (is_lacked c (model_of u) ≡ true)
        × Becomes (with_create w c.creator minute) u m
    by_cases true lacking made = (e.1, ap (λ k. Some (k, e.1)) (sym made.0), lacking, made.1)
    by_cases false lacking made = absurd made

pub found_quiet : (w : WindowSet) (now : ℕ) (f : Version → Bool) (vs : List Version) (v : Version)
    → find f vs ≡ Some v → IsQuiet now vs → is_expired now v v.status ≡ false
found_quiet w now f [] v found quiet = cc
found_quiet w now f (u ∷ us) v found quiet =
    by_cases (λ g. found_quiet w now f us v g quiet.1) (f u) found
  where
    by_cases : (find f us ≡ Some v → is_expired now v v.status ≡ false) → (b : Bool)
        → cond b (Some u) (find f us) ≡ Some v → is_expired now v v.status ≡ false
    by_cases later true g =
        subst (λ (x : Version). is_expired now x x.status ≡ false) (some_is u v g)
        quiet.0
    by_cases later false g = later g

-- The next id is below its greatest value.
pub one_more : (n more : ℕ) → n ≤ limit → more ≡ min (n + 1) (2 ^ 64 - 1) → more ≡ n + 1
one_more n more below is = omega arith
