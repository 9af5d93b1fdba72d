-- One round of many connections after another.
use Rattle.std.proofs.Common.{◌≡◌, ◌≢◌, ◌⊎◌, ◌≤◌, inl, inr, ℕ, List, [], ◌∷◌, ◌++◌, Option, Some, None, Ok, Err, Bool, true, false, refl, sym, ap, ◌∙◌, subst, append_assoc, append-nil}
use Rattle.std.specs.Prelude.{nat_eq, if◌then◌else◌, ⊤}
use Rattle.std.proofs.Math.Nat.{le_refl, le_trans}
use Rattle.std.proofs.lemmas.Bool.Decides.{eqb_tells}
use Rattle.std.proofs.lemmas.Grind.{flat_map-append}
use Rattle.model.specs.Content.{Content}
use Rattle.model.specs.State.{State}
use Rattle.register.specs.Refinement.{Refines}
use Rattle.settle.specs.StoreContract.{BeginsGroup, BeginsNoGroup, EndsGroup, EndsNoGroup}
use Rattle.settle.specs.declared.store.StoreFault.{StoreFault}
use Rattle.settle.specs.declared.store_model.StoreModel.{Ghosts}
use Rattle.api.specs.Run.{Exchange}
use Rattle.hub.specs.Connections.{ConnectionModel}
use Rattle.hub.specs.Feeding.{GoesOn, IsFed}
use Rattle.hub.specs.Hub.{AreFed, Connections, ConnectionsGoOn, History, with_turns}
use Rattle.hub.specs.Rows.{RowsFollow}
use Rattle.hub.specs.Schedules.{TakesTurns, Turn, all_exchanges, exchanges_at}
use Rattle.hub.proofs.Chains.{chain_then}
use Rattle.hub.proofs.Played.{no_steps}
use Rattle.hub.proofs.RowsLemmas.{same_as_begun}
use Rattle.hub.proofs.Since.{steps_since}

is_some : {A : Type 0} (a b : A) (o : Option A) → o ≡ Some a → o ≡ Some b → a ≡ b
is_some a b o e f = cc

-- The histories after no turn.
fed_still : (before after : Connections) (histories : ℕ → History)
    → ((key : ℕ) → after key ≡ before key) → AreFed before histories
    → AreFed after (with_turns histories [])
fed_still before after histories same fed = λ key c found.
    subst (λ xs. IsFed c (histories key).input (histories key).sent xs)
    (sym (append-nil (histories key).messages)) (fed key c (sym (same key) ∙ found))

-- The histories after some turns, and then others.
fed_on : (after : Connections) (histories : ℕ → History) (turns more : List Turn)
    → AreFed after (with_turns (with_turns histories turns) more)
    → AreFed after (with_turns histories (turns ++ more))
fed_on after histories turns more fed = λ key c found.
    subst (λ xs. IsFed c (histories key).input (histories key).sent xs)
    (append_assoc (histories key).messages (exchanges_at key turns) (exchanges_at key more)
    ∙ ap (λ xs. (histories key).messages ++ xs)
    (sym (flat_map-append (λ (t : Turn). if nat_eq t.place key then t.exchanges else []) turns
    more))) (fed key c found)

module _ {S : Type 0} (store : Ghosts S) where
  -- Nothing was executed.
  pub all_same : (old new : S) (before after : Connections) → store.failed old ≤ store.failed new
      → (store.IsUsable new → store.content new ≡ store.content old)
      → ((key : ℕ) → after key ≡ before key) → ConnectionsGoOn store old new before after
  all_same old new before after rises is same = λ usable st refines histories fed. (
    store.failed old,
    rises,
    no_steps false (store.failed old) st (store.content new) None _
        (subst (λ (c : Content). Refines c st) (sym (is usable)) refines) (
          [],
          refl,
          fed_still before after histories same fed,
        ),
  )

  -- The same connections, however they are named.
  pub all_to : (old new : S) (before after named : Connections)
      → ((key : ℕ) → named key ≡ after key) → ConnectionsGoOn store old new before after
      → ConnectionsGoOn store old new before named
  all_to old new before after named same goes = λ usable st refines histories fed.
      let (last, within, on) = goes usable st refines histories fed in (
        last,
        within,
        record {
          exchanges = on.exchanges;
          end = on.end;
          chain = on.chain;
          refines = on.refines;
          supplied = on.supplied;
          holds = (
            on.holds.0,
            on.holds.1,
            (λ key c found. on.holds.2 key c (sym (same key) ∙ found)),
          );
        },
      )

  pub all_then : (old mid new : S) (before middle after : Connections)
      → (store.IsUsable new → store.IsUsable mid)
      → ConnectionsGoOn store old mid before middle → ConnectionsGoOn store mid new middle after
      → ConnectionsGoOn store old new before after
  all_then old mid new before middle after usable_then first second =
      λ usable st refines histories fed.
      let (past, at_most, was) = first (usable_then usable) st refines histories fed in
      let (late, within, on) =
      second usable was.end was.refines (with_turns histories was.holds.0) was.holds.2 in
      let (last, at, more) = steps_since false None None past (store.failed mid) late was.end
      (store.content new) _ at_most on in (
        last,
        le_trans at within,
        record {
          exchanges = was.exchanges ++ more.exchanges;
          end = more.end;
          chain = chain_then false (store.failed old) past last st was.end more.end was.exchanges
              more.exchanges was.chain more.chain;
          refines = more.refines;
          supplied = tt;
          holds = (
            was.holds.0 ++ more.holds.0,
            ap (λ zs. zs ++ more.exchanges) was.holds.1
                ∙ ap (λ zs. all_exchanges was.holds.0 ++ zs) more.holds.1
                ∙ sym (flat_map-append (λ (t : Turn). t.exchanges) was.holds.0 more.holds.0),
            fed_on after histories was.holds.0 more.holds.0 more.holds.2,
          );
        },
      )

  -- One connection had a turn.
  pub one_goes : (old new : S) (before after : Connections) (place : ℕ) (c d : ConnectionModel)
      → before place ≡ Some c → after place ≡ Some d
      → ((key : ℕ) → key ≢ place → after key ≡ before key)
      → GoesOn false None store old new c d → ConnectionsGoOn store old new before after
  one_goes old new before after place c d was is others goes =
      λ usable st refines histories fed.
      let (last, within, steps) = goes.steps usable st refines (histories place).input
      (histories place).sent (histories place).messages (fed place c was) in (
        last,
        within,
        record {
          exchanges = steps.exchanges;
          end = steps.end;
          chain = steps.chain;
          refines = steps.refines;
          supplied = tt;
          holds = (
            turn_of steps.exchanges,
            sym (append-nil steps.exchanges),
            fed_here histories steps.exchanges fed steps.holds,
          );
        },
      )
    where
      turn_of : List Exchange → List Turn
      turn_of xs = record { place = place; exchanges = xs } ∷ []

      fed_here : (histories : ℕ → History) (xs : List Exchange) → AreFed before histories
          → IsFed d (histories place).input (histories place).sent
          ((histories place).messages ++ xs) → AreFed after (with_turns histories (turn_of xs))
      fed_here histories xs fed held key e found = by_cases (eqb_tells place key)
        where
          by_cases : ((nat_eq place key ≡ true) × (place ≡ key))
              ⊎ ((nat_eq place key ≡ false) × (place ≢ key))
              → IsFed e (histories key).input (histories key).sent
              ((histories key).messages ++ exchanges_at key (turn_of xs))
          by_cases (inl same) =
              subst (λ (b : Bool). IsFed e (histories key).input (histories key).sent
              ((histories key).messages ++ ((if b then xs else []) ++ []))) (sym same.0)
              (subst (λ zs. IsFed e (histories key).input (histories key).sent
              ((histories key).messages ++ zs)) (sym (append-nil xs))
              (subst (λ (n : ℕ). IsFed e (histories n).input (histories n).sent
              ((histories n).messages ++ xs)) same.1
              (subst (λ (m : ConnectionModel). IsFed m (histories place).input
              (histories place).sent ((histories place).messages ++ xs))
              (is_some d e (after place) is
              (subst (λ (n : ℕ). after n ≡ Some e) (sym same.1) found)) held)))
          by_cases (inr apart) =
              subst (λ (b : Bool). IsFed e (histories key).input (histories key).sent
              ((histories key).messages ++ ((if b then xs else []) ++ []))) (sym apart.0)
              (subst (λ zs. IsFed e (histories key).input (histories key).sent zs)
              (sym (append-nil (histories key).messages))
              (fed key e (sym (others key (λ same. apart.1 (sym same))) ∙ found)))

-- ---- groups of commits

module _ {S : Type 0} (store : Ghosts S) (old begun ran ended : S) (before after : Connections)
    (begins : BeginsGroup store old begun (Ok true)) (runs : RowsFollow store begun ran) where
  -- A group that lasts.
  pub all_grouped : (done : ⊤) → EndsGroup store ran ended (Ok done)
      → ConnectionsGoOn store begun ran before after → ConnectionsGoOn store old ended before after
  all_grouped done ends goes = λ usable st refines histories fed.
      let at_end = ends.content usable in
      let at_begin = begins.same (runs.usable at_end.0) in
      let (last, within, on) = goes at_end.0 st
      (subst (λ (m : Content). Refines m st) (sym at_begin.1) refines) histories fed in
      let (at, under, more) = steps_since false None None (store.failed old) (store.failed begun)
      last st (store.content ran) _ begins.rises on in (
        at,
        le_trans under (le_trans within ends.leaves.rises),
        subst (λ (m : Content). TakesTurns false (store.failed old) at st m None None
            (λ turns. AreFed after (with_turns histories turns))) (sym at_end.1) more,
      )

  -- A group that does not last: its messages had no step.
  pub all_undone : (fault : StoreFault) → EndsGroup store ran ended (Err fault)
      → BeginsNoGroup store begun ran → EndsNoGroup store begun ran
      → ConnectionsGoOn store old ended before before
  all_undone fault ends begins_none ends_none = all_same store old ended before before
      (le_trans begins.rises (le_trans runs.rises ends.leaves.rises)) (λ usable.
      (same_as_begun store old begun ran ended begins runs begins_none ends_none ends.content
      usable).1) (λ key. refl)
