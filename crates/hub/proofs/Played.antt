-- One turn more of a schedule.
use Rattle.std.proofs.Common.{◌≡◌, ◌≢◌, ◌⊎◌, inl, inr, ℕ, zero, suc, ◌<◌, List, [], ◌∷◌, ◌++◌, length, Option, Some, Bool, true, false, refl, sym, ap, ◌∙◌, subst, append_assoc, append-nil, arith, slice_get}
use Rattle.std.specs.Prelude.{◌+◌, ◌-◌, OnOk, Result, Ok, Err, drop, min, nat_eq, slice_range, slice_set, take, if◌then◌else◌}
use Rattle.std.proofs.Math.ListN.{get_or}
use Rattle.std.proofs.Math.Seq.{take-add}
use Rattle.std.proofs.lemmas.List.{drop_more}
use Rattle.std.proofs.lemmas.Bool.Decides.{eqb_tells}
use Rattle.std.proofs.lemmas.Grind.{flat_map-append}
use Rattle.model.specs.Content.{Content}
use Rattle.model.specs.State.{State}
use Rattle.register.specs.Refinement.{Refines}
use Rattle.api.specs.Run.{Exchange}
use Rattle.hub.specs.Connections.{with_input}
use Rattle.hub.specs.Schedules.{AnswersTo, AreAnswered, ClientModel, HappensAt, IsAnswered, Plays, TakesSteps, TakesTurns, Turn, all_exchanges, arrived_after, client_of, exchanges_at, with_arrived, with_ended, with_received}
use Rattle.hub.specs.declared.client.Client.{Client}
use Rattle.hub.specs.declared.schedule.ScheduledEvent.{ScheduledEvent}
use Rattle.hub.proofs.Chains.{chain_then, supplied_none, supplied_then}
use Rattle.hub.proofs.Turns.{arrives, ends, sends}

got_set : {X : Type 0} (xs : List X) (place : ℕ) (v x : X)
    → slice_get (slice_set xs place v) place ≡ Some x → x ≡ v
got_set [] place v x e = cc
got_set (y ∷ ys) zero v x e = cc
got_set (y ∷ ys) (suc place) v x e = got_set ys place v x e

got_other : {X : Type 0} (xs : List X) (place k : ℕ) (v x : X) → place ≢ k
    → slice_get (slice_set xs place v) k ≡ Some x → slice_get xs k ≡ Some x
got_other [] place k v x apart e = e
got_other (y ∷ ys) zero zero v x apart e = absurd (apart refl)
got_other (y ∷ ys) zero (suc k) v x apart e = e
got_other (y ∷ ys) (suc place) zero v x apart e = e
got_other (y ∷ ys) (suc place) (suc k) v x apart e =
    got_other ys place k v x (λ same. apart (ap suc same)) e

-- Nothing was executed.
pub no_steps : (offered : Bool) (n : ℕ) (st : State) (c : Content)
    (before : Option (List (Option ℕ))) (Holds : List Exchange → Type 0) → Refines c st → Holds []
    → TakesSteps offered n n st c before before Holds
no_steps offered n st c before Holds refines holds = record {
  exchanges = [];
  end = st;
  chain = (refl, refl);
  refines = refines;
  supplied = supplied_none before;
  holds = holds;
}

-- A client without a message that was executed.
pub unturned : (offered : Bool) (n : ℕ) (st : State) (c : Content)
    (before : Option (List (Option ℕ))) (m d : ClientModel) (xs : List Exchange) → Refines c st
    → m ≡ d → IsAnswered d xs
    → TakesSteps offered n n st c before before (λ ys. IsAnswered m (xs ++ ys))
unturned offered n st c before m d xs refines e is =
    no_steps offered n st c before (λ ys. IsAnswered m (xs ++ ys)) refines
    (subst (λ ys. IsAnswered m ys) (sym (append-nil xs))
    (subst (λ x. IsAnswered x xs) (sym e) is))

take_range : (xs : List ℕ) (i n : ℕ) → take i xs ++ slice_range xs i (i + n) ≡ take (i + n) xs
take_range xs i n =
    let same : i + n - i ≡ n = omega arith in
    ap (λ (k : ℕ). take i xs ++ take k (drop i xs)) same ∙ sym (take-add i n xs)

arrived_if : (m : ClientModel) (count : ℕ) (xs : List Exchange) (b : Bool)
    → m.connection.has_ended ≡ b → IsAnswered m xs
    → IsAnswered (if b then m else record m {
      connection = with_input m.connection (slice_range m.stream m.arrived (arrived_after m count));
      arrived = arrived_after m count;
    }) xs
arrived_if m count xs true e is = is
arrived_if m count xs false e is =
    subst (λ (t : List ℕ). AnswersTo
    (with_input m.connection (slice_range m.stream m.arrived (arrived_after m count))) t m.received
    xs)
    (take_range m.stream m.arrived (min count (length m.stream - m.arrived)))
    (arrives (take m.arrived m.stream) (slice_range m.stream m.arrived (arrived_after m count)) xs
    m.connection m.received e is)

pub arrived_client : (m : ClientModel) (count : ℕ) (xs : List Exchange) → IsAnswered m xs
    → IsAnswered (with_arrived m count) xs
arrived_client m count xs is = arrived_if m count xs m.connection.has_ended refl is

pub ended_client : (m : ClientModel) (xs : List Exchange) → IsAnswered m xs
    → IsAnswered (with_ended m) xs
ended_client m xs is = ends (take m.arrived m.stream) xs m.connection m.received is

pub received_client : (m : ClientModel) (count : ℕ) (xs : List Exchange) → IsAnswered m xs
    → IsAnswered (with_received m count) xs
received_client m count xs is =
    sends (take m.arrived m.stream) xs m.connection m.received
    (min count (length m.connection.unsent)) is

-- ---- turns

-- One turn, of the client at a place.
abbrev turn_at : ℕ → List Exchange → List Turn
turn_at place ys = record { place = place; exchanges = ys } ∷ []

module _ (clients : List Client) (place : ℕ) (client : Client) (earlier : ℕ → List Exchange)
    (ys : List Exchange) (were : AreAnswered clients earlier)
    (is : IsAnswered (client_of client) (earlier place ++ ys)) where
  here : (k : ℕ) (other : Client) → nat_eq place k ≡ true → place ≡ k → other ≡ client
      → IsAnswered (client_of other) (earlier k ++ exchanges_at k (turn_at place ys))
  here k other equal same found =
      subst (λ (o : Client). IsAnswered (client_of o)
      (earlier k ++ exchanges_at k (turn_at place ys))) (sym found)
      (subst (λ (b : Bool). IsAnswered (client_of client)
      (earlier k ++ ((if b then ys else []) ++ []))) (sym equal)
      (subst (λ zs. IsAnswered (client_of client) (earlier k ++ zs)) (sym (append-nil ys))
      (subst (λ n. IsAnswered (client_of client) (earlier n ++ ys)) same is)))

  elsewhere : (k : ℕ) (other : Client) → nat_eq place k ≡ false
      → IsAnswered (client_of other) (earlier k)
      → IsAnswered (client_of other) (earlier k ++ exchanges_at k (turn_at place ys))
  elsewhere k other apart was =
      subst (λ (b : Bool). IsAnswered (client_of other)
      (earlier k ++ ((if b then ys else []) ++ []))) (sym apart)
      (subst (λ zs. IsAnswered (client_of other) zs) (sym (append-nil (earlier k))) was)

  placed : (k : ℕ) (other : Client) → ((nat_eq place k ≡ true) × (place ≡ k))
      ⊎ ((nat_eq place k ≡ false) × (place ≢ k))
      → slice_get (slice_set clients place client) k ≡ Some other
      → IsAnswered (client_of other) (earlier k ++ exchanges_at k (turn_at place ys))
  placed k other (inl same) found = here k other same.0 same.1
      (got_set clients place client other
      (subst (λ n. slice_get (slice_set clients place client) n ≡ Some other) (sym same.1) found))
  placed k other (inr apart) found =
      elsewhere k other apart.0
      (were k other (got_other clients place k client other apart.1 found))

  pub all_placed : AreAnswered (slice_set clients place client)
      (λ k. earlier k ++ exchanges_at k (turn_at place ys))
  all_placed k other found = placed k other (eqb_tells place k) found

-- A client's steps are one turn.
pub one_turn : (offered : Bool) (from to : ℕ) (st : State) (new : Content)
    (before after : Option (List (Option ℕ))) (clients : List Client) (place : ℕ)
    (client : Client) (earlier : ℕ → List Exchange) → AreAnswered clients earlier
    → TakesSteps offered from to st new before after
    (λ ys. IsAnswered (client_of client) (earlier place ++ ys))
    → TakesTurns offered from to st new before after
    (λ turns. AreAnswered (slice_set clients place client)
    (λ k. earlier k ++ exchanges_at k turns))
one_turn offered from to st new before after clients place client earlier were is = record {
  exchanges = is.exchanges;
  end = is.end;
  chain = is.chain;
  refines = is.refines;
  supplied = is.supplied;
  holds = (
    turn_at place is.exchanges,
    sym (append-nil is.exchanges),
    all_placed clients place client earlier is.exchanges were is.holds,
  );
}

-- No turn.
pub no_turns : (offered : Bool) (n : ℕ) (st : State) (c : Content)
    (before : Option (List (Option ℕ))) (clients : List Client) (earlier : ℕ → List Exchange)
    → Refines c st → AreAnswered clients earlier
    → TakesTurns offered n n st c before before
    (λ turns. AreAnswered clients (λ k. earlier k ++ exchanges_at k turns))
no_turns offered n st c before clients earlier refines are =
    no_steps offered n st c before _ refines (
      [],
      refl,
      (λ k client found. subst (λ ys. IsAnswered (client_of client) ys)
          (sym (append-nil (earlier k))) (are k client found)),
    )

-- Some turns, and then others.
pub turns_then : (offered : Bool) (from between to : ℕ) (st : State) (mid new : Content)
    (before meanwhile after : Option (List (Option ℕ))) (clients clients' : List Client)
    (earlier : ℕ → List Exchange)
    → (is : TakesTurns offered from between st mid before meanwhile
    (λ turns. AreAnswered clients (λ k. earlier k ++ exchanges_at k turns)))
    → ((later : State) → Refines mid later → (messages : ℕ → List Exchange)
    → AreAnswered clients messages
    → TakesTurns offered between to later new meanwhile after
    (λ turns. AreAnswered clients' (λ k. messages k ++ exchanges_at k turns)))
    → TakesTurns offered from to st new before after
    (λ turns. AreAnswered clients' (λ k. earlier k ++ exchanges_at k turns))
turns_then offered from between to st mid new before meanwhile after clients clients' earlier is
    on =
    let more = on is.end is.refines (λ k. earlier k ++ exchanges_at k is.holds.0) is.holds.2 in
    record {
      exchanges = is.exchanges ++ more.exchanges;
      end = more.end;
      chain = chain_then offered from between to st is.end more.end is.exchanges more.exchanges
          is.chain more.chain;
      refines = more.refines;
      supplied = supplied_then before meanwhile after is.exchanges more.exchanges is.supplied
          more.supplied;
      holds = (
        is.holds.0 ++ more.holds.0,
        ap (λ zs. zs ++ more.exchanges) is.holds.1
            ∙ ap (λ zs. all_exchanges is.holds.0 ++ zs) more.holds.1
            ∙ sym (flat_map-append (λ (t : Turn). t.exchanges) is.holds.0 more.holds.0),
        (λ k client found. subst (λ zs. IsAnswered (client_of client) zs)
            (append_assoc (earlier k) (exchanges_at k is.holds.0) (exchanges_at k more.holds.0)
            ∙ ap (λ zs. earlier k ++ zs)
            (sym (flat_map-append (λ (t : Turn). if nat_eq t.place k then t.exchanges else [])
            is.holds.0 more.holds.0)))
            (more.holds.2 k client found)),
      );
    }

-- ---- the events

pub on_ok : {A E : Type 0} (r : Result A E) (P Q : Type 0) → (P → Q) → OnOk r P → OnOk r Q
on_ok (Ok a) P Q f p = f p
on_ok (Err e) P Q f p = tt

-- One event more is the next of the schedule.
pub next_played : (schedule : List ScheduledEvent) (i : ℕ) (d : ScheduledEvent)
    (old mid new : List Client) → i < length schedule
    → HappensAt (get_or schedule i d).place (get_or schedule i d).event old mid
    → Plays (drop (i + 1) schedule) mid new → Plays (drop i schedule) old new
next_played schedule i d old mid new within happens plays =
    subst (λ es. Plays es old new) (sym (drop_more schedule i d within)) (mid, happens, plays)
