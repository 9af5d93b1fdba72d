-- The facts that a create reads are those of the state.
use Rattle.std.proofs.Common.{◌≡◌, ℕ, Bool, true, false, not, ◌&&◌, ◌||◌, Option, Some, None, refl, ap, sym, ◌∙◌, subst}
use Rattle.std.specs.Prelude.{find, is_some, is_none, option_map, if◌then◌else◌}
use Rattle.std.specs.FinMap.{get}
use Rattle.numbers.specs.Digits.{code_of, block_of}
use Rattle.numbers.specs.Subjects.{Subject, Number, Block}
use Rattle.model.specs.Versions.{Version, in_force, version_in_force, open_version, is_open}
use Rattle.model.specs.History.{CommandRequest, donor_of, lrn_owner}
use Rattle.model.specs.State.{State, Server, ByVersion, ByBlock, InPool, ByCode, record_now, serving, served_by_block, protected_by, is_served_by, is_carrier, set_now}
use Rattle.model.specs.Conditions.{holds_of, is_the, is_delete_sent}
use Rattle.model.specs.Refusals.{RequestFrom, holds_at, own_tests, is_in_pool, refusal}
use Rattle.model.specs.Content.{Content, ClockRow}
use Rattle.version.specs.declared.version.Version.{Version as VersionImpl}
use Rattle.version.specs.declared.create.Create.{Create as CreateImpl}
use Rattle.version.specs.declared.create.CreateFacts.{CreateFacts}
use Rattle.version.specs.declared.create.Creator.{Creator}
use Rattle.version.specs.declared.create.Creator.TheVariants.{OldProvider, NewProvider}
use Rattle.version.specs.Creates.{command_by, command_of, create_refusal}
use Rattle.version.specs.Facts.{CreateFactsMatch, HasModelIfAny}
use Rattle.version.proofs.CreateRefused.{create_refused}
use Rattle.settle.specs.Settling.{IsSettled}
use Rattle.numbers.specs.declared.spid.Spid.{Spid}
use Rattle.version.specs.Abstraction.{model_of}
use Rattle.pool.specs.Facts.{carrier_number}
use Rattle.pool.specs.Serving.{ServingFactsMatch, carrier_of, served_by_code, served_by_version}
use Rattle.pool.proofs.Served.{serving-is}
use Rattle.register.specs.Refinement.{Refines}
use Rattle.register.specs.Serving.{IsVersionInForce, HasReadFacts, IsOpened, are_known, is_lrn_good, is_released}
use Rattle.register.proofs.OnVersions.OnVersion.{clock_is_of}
use Rattle.register.specs.Settling.{is_of_number}
use Rattle.register.proofs.EveryCall.Settled.{number_of_number, block_of_number}
use Rattle.register.proofs.Asking.Columns.{IsFound, opened_is, held_is}
use Rattle.numbers.proofs.Small.{mapped_there}

-- ---- the versions that were read

sees_found : (st : State) (s : Subject) (f : Version → Bool) (e : Option (ℕ × VersionImpl))
    → IsFound st s f e → HasModelIfAny (option_map (λ p. p.1) e) (find f (record_now st s).versions)
sees_found st s f None is = subst (HasModelIfAny None) (sym is) tt
sees_found st s f (Some e) is = subst (HasModelIfAny (Some e.1)) (sym is.1) is.3

sees_held : (st : State) (c : Content) (s : Subject) (o : Option VersionImpl) → Refines c st
    → IsSettled c st s → IsVersionInForce c s o
    → HasModelIfAny o (version_in_force (record_now st s))
sees_held st c s o refines due held =
    subst (λ x. HasModelIfAny x (version_in_force (record_now st s))) held.2
    (sees_found st s in_force held.0
    (held_is st c s o refines due held))

sees_opened : (st : State) (c : Content) (s : Subject) (o : Option (ℕ × VersionImpl)) → Refines c st
    → IsSettled c st s → IsOpened c s o
    → HasModelIfAny (option_map (λ p. p.1) o) (open_version s (record_now st s))
sees_opened st c s o refines due is =
    sees_found st s (is_open s) o (opened_is st c s o refines due is)

-- ---- carriers

known_by : (st : State) (creator : Creator) (caller tn old_provider new_provider due : ℕ) →
    holds_at 1 (own_tests st caller (command_by creator tn old_provider new_provider due))
    ≡ (not (is_carrier st old_provider) || (not (is_carrier st new_provider)
    || (not (is_carrier st caller) || false)))
known_by st (OldProvider authorized) caller tn old_provider new_provider due = refl
known_by st (NewProvider routing) caller tn old_provider new_provider due = refl

-- One of three carriers is unknown if not all are registered.
carriers_unknown : (a b c : Bool) → (a && (b && c)) ≡ false
    → (not a || (not b || (not c || false))) ≡ true
carriers_unknown true true true e = cc
carriers_unknown true true false e = refl
carriers_unknown true false c e = refl
carriers_unknown false b c e = refl

carriers_known : (a b c : Bool) → (a && (b && c)) ≡ true
    → (not a || (not b || (not c || false))) ≡ false
carriers_known true true true e = refl
carriers_known true true false e = cc
carriers_known true false c e = cc
carriers_known false b c e = cc

known_are : (st : State) (old : Content) (c : CreateImpl) (caller : ℕ) (b : Bool) → Refines old st
    → are_known old c caller ≡ b →
    (is_carrier st c.old_provider.number && (is_carrier st c.new_provider.number && is_carrier st
    caller)) ≡ b
known_are st old c caller b refines known =
    ap (λ x. x && (is_carrier st c.new_provider.number && is_carrier st caller))
    (sym (refines.represents.carriers c.old_provider.number))
    ∙ ap (λ x. is_some (get old.carriers c.old_provider.number) && (x && is_carrier st caller))
    (sym (refines.represents.carriers c.new_provider.number))
    ∙ ap (λ x. is_some (get old.carriers c.old_provider.number)
    && (is_some (get old.carriers c.new_provider.number) && x))
    (sym (refines.represents.carriers caller))
    ∙ known

pub unknown_is : (st : State) (old : Content) (c : CreateImpl) (caller : ℕ) → Refines old st
    → are_known old c caller ≡ false
    → holds_at 1 (own_tests st caller (command_of c)) ≡ true
unknown_is st old c caller refines known =
    known_by st c.creator caller c.tn.number c.old_provider.number c.new_provider.number
    c.due.number
    ∙ carriers_unknown (is_carrier st c.old_provider.number) (is_carrier st c.new_provider.number)
    (is_carrier st caller) (known_are st old c caller false refines known)

known_is : (st : State) (old : Content) (c : CreateImpl) (caller : ℕ) → Refines old st
    → are_known old c caller ≡ true → holds_at 1 (own_tests st caller (command_of c))
    ≡ false
known_is st old c caller refines known =
    known_by st c.creator caller c.tn.number c.old_provider.number c.new_provider.number
    c.due.number
    ∙ carriers_known (is_carrier st c.old_provider.number) (is_carrier st c.new_provider.number)
    (is_carrier st caller) (known_are st old c caller true refines known)

-- ---- the routing number

not_not : (b : Bool) → b ≡ not (not b)
not_not true = refl
not_not false = refl

lrn_by : (st : State) (old : Content) → ((k : ℕ) → get old.lrns k ≡ lrn_owner k st.history)
    → (creator : Creator) (caller tn old_provider new_provider due : ℕ) →
    is_lrn_good old creator new_provider
    ≡ not (holds_at 7 (own_tests st caller (command_by creator tn old_provider new_provider due)))
lrn_by st old lrns (OldProvider authorized) caller tn old_provider new_provider due = refl
lrn_by st old lrns (NewProvider routing) caller tn old_provider new_provider due =
    ap (is_the new_provider) (lrns routing.lrn.number)
    ∙ not_not (is_the new_provider (lrn_owner routing.lrn.number st.history))

-- ---- who serves

is_none_mapped : {A B : Type 0} (f : A → B) (o : Option A) → is_none o ≡ is_none (option_map f o)
is_none_mapped f None = refl
is_none_mapped f (Some x) = refl

-- If a number's code is open, nobody serves it exactly if it is in the pool.
by_code_is : (block : Option Version) (donated : Bool) (code : Option ℕ) → is_some code ≡ true →
    is_none (carrier_of (if donated then served_by_block block else ByCode code))
    ≡ is_in_pool (if donated then served_by_block block else ByCode code)
by_code_is (Some v) true code is = refl
by_code_is None true code is = refl
by_code_is block false (Some k) is = refl
by_code_is block false None is = cc

in_pool_is : (held opened : Option Version) (other : Server)
    → is_none (carrier_of other) ≡ is_in_pool other →
    is_none (carrier_of (served_by_version held (protected_by opened other)))
    ≡ is_in_pool (served_by_version held (protected_by opened other))
in_pool_is (Some v) opened other same = refl
in_pool_is None None other same = same
in_pool_is None (Some v) other same = by_cases v.protective
  where
    by_cases : (b : Bool) → is_none (carrier_of (if b then ByVersion v.new_provider else other))
        ≡ is_in_pool (if b then ByVersion v.new_provider else other)
    by_cases true = refl
    by_cases false = same

served_is : (k : ℕ) (server : Server) → is_the k (carrier_of server) ≡ is_served_by k server
served_is k (ByVersion c) = refl
served_is k (ByBlock c) = refl
served_is k InPool = refl
served_is k (ByCode None) = refl
served_is k (ByCode (Some c)) = refl

-- ---- the block

released_is : (o : Option VersionImpl) (p : Option Version) → HasModelIfAny o p
    → is_released o ≡ holds_of is_delete_sent (option_map (λ (v : Version). v.status) p)
released_is None None sees = refl
released_is (Some u) (Some v) sees = ap (λ (x : Version). is_delete_sent x.status) sees
released_is None (Some v) sees = absurd sees
released_is (Some u) None sees = absurd sees

-- ---- all facts

module _ (st : State) (old : Content) (caller : ℕ) (c : CreateImpl) (clock : ClockRow)
    (facts : CreateFacts) (refines : Refines old st)
    (settled : (s : Subject) → is_of_number c.tn.number st s ≡ true → IsSettled old st s)
    (has : HasReadFacts old caller c clock facts) where
  -- The facts that decide who serves the number match the state.
  they_serve : ServingFactsMatch st c.tn.number has.read.server.0
  they_serve =
      let row = has.read.server.1 in
      record {
        in_force = subst
            (λ o. HasModelIfAny o (version_in_force (record_now st (Number c.tn.number))))
            (sym row.in_force)
            (sees_held st old (Number c.tn.number) has.held refines
            (settled (Number c.tn.number) (number_of_number st c.tn.number)) has.is_held);
        opened = subst
            (λ o. HasModelIfAny o (open_version (Number c.tn.number)
            (record_now st (Number c.tn.number))))
            (sym row.opened)
            (sees_opened st old (Number c.tn.number) has.opened refines
            (settled (Number c.tn.number) (number_of_number st c.tn.number)) has.is_opened);
        donated = row.donated ∙ ap is_some (refines.represents.blocks (block_of c.tn.number))
            ∙ mapped_there _ (donor_of (block_of c.tn.number) st.history);
        block = subst
            (λ o. HasModelIfAny o (version_in_force (record_now st (Block (block_of c.tn.number)))))
            (sym row.block)
            (sees_held st old (Block (block_of c.tn.number)) has.block refines
            (settled (Block (block_of c.tn.number)) (block_of_number st c.tn.number)) has.is_block);
        code = row.code ∙ refines.represents.codes (code_of c.tn.number);
      }

  server_is : carrier_number facts.server ≡ carrier_of (serving st c.tn.number)
  server_is =
      has.read.server.2 ∙ ap carrier_of (serving-is st c.tn.number has.read.server.0 they_serve)

  nobody_is : facts.is_code_open ≡ true → is_none facts.server ≡ is_in_pool (serving st c.tn.number)
  nobody_is is =
      is_none_mapped (λ (s : Spid). s.number) facts.server ∙ ap is_none has.read.server.2
      ∙ in_pool_is (option_map model_of has.read.server.0.in_force)
      (option_map model_of has.read.server.0.opened)
      (served_by_code has.read.server.0)
      (by_code_is (option_map model_of has.read.server.0.block_in_force)
      has.read.server.0.is_donated
      (carrier_number has.read.server.0.code_holder) (ap is_some has.read.server.1.code
      ∙ sym has.read.code
      ∙ is))
      ∙ ap is_in_pool (serving-is st c.tn.number has.read.server.0 they_serve)

  pub facts_are : CreateFactsMatch st caller c facts
  facts_are = record {
    code = has.read.code ∙ ap is_some (refines.represents.codes (code_of c.tn.number));
    lrn = has.read.lrn ∙ lrn_by st old refines.represents.lrns c.creator caller c.tn.number
        c.old_provider.number c.new_provider.number c.due.number;
    pool = nobody_is;
    server = λ is. ap (is_the c.old_provider.number) server_is ∙ served_is c.old_provider.number
        (serving st c.tn.number);
    opened = subst (λ o. HasModelIfAny (option_map (λ e. e.1) o) (open_version (Number c.tn.number)
        (record_now st (Number c.tn.number)))) (sym has.read.opened)
        (sees_opened st old (Number c.tn.number) has.opened refines
        (settled (Number c.tn.number) (number_of_number st c.tn.number)) has.is_opened);
    in_force = subst (λ o. HasModelIfAny o (version_in_force (record_now st (Number c.tn.number))))
        (sym has.read.in_force) (sees_held st old (Number c.tn.number) has.held refines
        (settled (Number c.tn.number) (number_of_number st c.tn.number)) has.is_held);
    block = has.read.block
        ∙ released_is has.block (version_in_force (record_now st (Block (block_of c.tn.number))))
        (sees_held st old (Block (block_of c.tn.number)) has.block refines
        (settled (Block (block_of c.tn.number)) (block_of_number st c.tn.number)) has.is_block);
    next_id = has.read.next_id ∙ ap (λ (k : ClockRow). k.next_id)
        (clock_is_of old st clock refines.represents has.clock_is);
  }

  -- A create is refused by these facts.
  pub refused_by_facts : refusal st (RequestFrom caller (CommandRequest (command_of c)))
      ≡ create_refusal
      clock.present.windows clock.minute caller c facts
  refused_by_facts = create_refused st caller c facts facts_are refines.represents.history
      ∙ ap (λ b. if b then Some 1 else create_refusal (set_now st).windows st.now caller c facts)
      (known_is st old c caller refines has.known)
      ∙ ap (λ (k : ClockRow). create_refusal k.present.windows k.minute caller c facts)
      (sym (clock_is_of old st clock refines.represents has.clock_is))
