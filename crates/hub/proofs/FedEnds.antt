-- What feeding promises after each of its calls.
use Rattle.std.proofs.Common.{◌≡◌, ◌≤◌, inl, inr, ℕ, List, [], length, Option, Some, None, Result, Ok, Err, true, refl, sym, ap, ◌∙◌, subst}
use Rattle.std.specs.Prelude.{IfErr, IfSome, OnErr}
use Rattle.std.specs.Io.KnownBytes.{Keeps}
use Rattle.std.proofs.KnownBytes.{Consumes-kept}
use Rattle.std.proofs.Math.Nat.{le_refl}
use Rattle.std.proofs.lemmas.List.{drop_all}
use Rattle.numbers.proofs.Small.{impossible}
use Rattle.model.specs.Content.{Content}
use Rattle.model.specs.State.{State}
use Rattle.register.specs.Refinement.{Refines}
use Rattle.settle.specs.declared.store_model.StoreModel.{Ghosts}
use Rattle.http_messages.specs.Sending.{AppendsPrefix}
use Rattle.api.specs.declared.serving.End.{End}
use Rattle.hub.specs.Connections.{ConnectionModel, new_connection, wants_input, with_input}
use Rattle.hub.specs.Feeding.{FeedsAs, FeedsTo, GoesOn, IsSent, Receives, io_of}
use Rattle.hub.specs.Rows.{RowsFollow}
use Rattle.hub.specs.declared.connection.Phase.TheVariants.{Open, Ended}
use Rattle.hub.specs.declared.feeding.FeedFault.{FeedFault}
use Rattle.hub.specs.declared.feeding.FeedFault.TheVariants as fault
use Rattle.hub.proofs.Fed.{HasFed, fed_more, fed_new, fed_received, fed_sent, fed_went, no_message, takes_input_of, writes_all, writes_part}
use Rattle.hub.proofs.FedRuns.{feeds_end, feeds_unread}

pub if_some : (all : Option (List ℕ)) (P Q : List ℕ → Type 0)
    → ((input : List ℕ) → P input → Q input)
    → IfSome all P → IfSome all Q
if_some None P Q on is = tt
if_some (Some input) P Q on is = on input is

-- What is unsent after a read, and after a write.
pub unsent_received : (had has : Option (List ℕ)) (c d : ConnectionModel)
    → Receives (Ok tt) had has c d → c.unsent ≡ [] → d.unsent ≡ []
unsent_received had has c d (inl (more, consumes, e)) none =
    ap (λ (m : ConnectionModel). m.unsent) e ∙ none
unsent_received had has c d (inr (consumes, at_end, e)) none =
    ap (λ (m : ConnectionModel). m.unsent) e ∙ none

pub unsent_sent : (had has : Option (List ℕ)) (c d : ConnectionModel) → IsSent c d had has
    → d.unsent ≡ []
unsent_sent had has c d sent =
    ap (λ (m : ConnectionModel). m.unsent) sent.0
    ∙ drop_all (length c.unsent) c.unsent (le_refl (length c.unsent))

-- What was fed, and how feeding ended: the count of failures is `from` before, and at most `to`
-- after the last message.
module _ (from to : ℕ) (st : State) (had : Option (List ℕ)) (all : Option (List ℕ)) where
  abbrev pub Fed : Content → (unread has : Option (List ℕ)) → ConnectionModel → Type 0
  Fed new unread has c = IfSome all (λ input. (last : ℕ) × (last ≤ to)
      × HasFed from last st new (io_of input unread had has) c)

  abbrev pub Feeds : Content → (unread has : Option (List ℕ)) → Result End FeedFault → Type 0
  Feeds new unread has r = IfSome all (λ input. FeedsTo r from to st new
      (io_of input unread had has))

  module _ (new : Content) (unread has : Option (List ℕ)) (c : ConnectionModel)
      (fed : Fed new unread has c) where
    pub received : (unread' : Option (List ℕ)) (d : ConnectionModel) → wants_input c ≡ true
        → Receives (Ok tt) unread unread' c d → Fed new unread' has d
    received unread' d wants receives = if_some all _ _ (λ input (last, within, is). (
      last,
      within,
      fed_received from last st had new input unread unread' has c wants is d receives,
    )) fed

    pub sent : (has' : Option (List ℕ)) (d : ConnectionModel) → IsSent c d has has'
        → Fed new unread has' d
    sent has' d sends = if_some all _ _ (λ input (last, within, is). (
      last,
      within,
      fed_sent from last st had new input unread has has' c d is sends,
    )) fed

    pub at_end : (end : End) → c.phase ≡ Ended end → c.unsent ≡ [] → Feeds new unread has (Ok end)
    at_end end at none = if_some all _ _ (λ input (last, within, is). (
      last,
      within,
      feeds_end from last st new input had has unread end c.unread
          (writes_all from last st new (io_of input unread had has) c is (Ended end) at none),
    )) fed

    pub at_break : c.unsent ≡ [] → Feeds new unread has (Err fault.NoMemory)
    at_break none = if_some all _ _ (λ input (last, within, is). (
      last,
      within,
      (
        c.phase,
        c.unread,
        writes_all from last st new (io_of input unread had has) c is c.phase refl none,
      ),
    )) fed

    pub not_sent : (has' : Option (List ℕ)) (r : Result (Unit {0}) FeedFault) (f : FeedFault)
        → r ≡ Err f → OnErr r (AppendsPrefix has has' c.unsent)
        → IfErr r (λ failed. failed ≡ fault.Write) → Feeds new unread has' (Err f)
    not_sent has' r f e part is_write =
        let of_part = subst (λ (x : Result (Unit {0}) FeedFault).
        OnErr x (AppendsPrefix has has' c.unsent)) e part in
        let writes : f ≡ fault.Write = subst (λ (x : Result (Unit {0}) FeedFault).
        IfErr x (λ failed. failed ≡ fault.Write)) e is_write in
        subst (λ (x : FeedFault). Feeds new unread has' (Err x)) (sym writes)
        (if_some all _ _ (λ input (last, within, is). (
          last,
          within,
          writes_part from last st new (io_of input unread had has) c is has' of_part,
        )) fed)

module _ (from last : ℕ) (st : State) (had : Option (List ℕ)) (new : Content) (input : List ℕ)
    (unread unread' has : Option (List ℕ)) (c d : ConnectionModel) (wants : wants_input c ≡ true)
    (none : c.unsent ≡ []) (fed : HasFed from last st new (io_of input unread had has) c) where
  kept : Keeps unread unread' → HasFed from last st new (io_of input unread' had has) c
  kept keeps = record {
    arrived = fed.arrived;
    output = fed.output;
    read = Consumes-kept (Some input) unread unread' fed.arrived fed.read keeps;
    ended = λ ended. impossible (sym ended ∙ (takes_input_of c wants).1);
    written = fed.written;
    steps = fed.steps;
  }

  unreceived : (f : FeedFault) → Receives (Err f) unread unread' c d
      → FeedsAs (Err f) from last st new (io_of input unread' had has)
  unreceived fault.Read receives =
      feeds_unread from last st new input had has unread' c.unread
      (writes_all from last st new (io_of input unread' had has) c (kept receives.0) Open
      (takes_input_of c wants).0 none)
      (no_message from last st new (io_of input unread had has) c fed wants)
  unreceived fault.Write receives = absurd receives
  unreceived fault.NoMemory (more, consumes, same) = (
    c.phase,
    (with_input c more).unread,
    writes_all from last st new (io_of input unread' had has) (with_input c more)
        (fed_more from last st had new input unread unread' has c wants fed more consumes) c.phase
        refl none,
  )

pub not_received : (from to : ℕ) (st : State) (had all : Option (List ℕ)) (new : Content)
    (unread unread' has : Option (List ℕ)) (c d : ConnectionModel)
    (r : Result (Unit {0}) FeedFault) (f : FeedFault) → r ≡ Err f
    → Receives r unread unread' c d → wants_input c ≡ true → c.unsent ≡ []
    → Fed from to st had all new unread has c → Feeds from to st had all new unread' has (Err f)
not_received from to st had all new unread unread' has c d r f e receives wants none fed =
    if_some all _ _ (λ input (last, within, is). (
      last,
      within,
      unreceived from last st had new input unread unread' has c d wants none is f
          (subst (λ (x : Result (Unit {0}) FeedFault). Receives x unread unread' c d) e receives),
    )) fed

pub went : {S : Type 0} (store : Ghosts S) (from : ℕ) (st : State) (had all : Option (List ℕ))
    (mid new : S) (c d : ConnectionModel) (unread has : Option (List ℕ))
    → RowsFollow store mid new → GoesOn true (Some []) store mid new c d → store.IsUsable new
    → (store.IsUsable mid → Fed from (store.failed mid) st had all (store.content mid) unread has c)
    → Fed from (store.failed new) st had all (store.content new) unread has d
went store from st had all mid new c d unread has behind goes usable fed =
    if_some all _ _ (λ input (past, at_most, is). fed_went store from past st had mid new c d input
    unread has at_most goes usable is) (fed (behind.usable usable))

-- What is so of some values is so of the same values, however they are named.
pub moved : {A B C D : Type 0} (P : A → B → C → D → Type 0) (a a' : A) (b b' : B) (c c' : C)
    (d d' : D) → a' ≡ a → b' ≡ b → c' ≡ c → d' ≡ d → P a b c d → P a' b' c' d'
moved P a a' b b' c c' d d' e f g h is =
    subst (λ x. P x b' c' d') (sym e) (subst (λ x. P a x c' d') (sym f)
    (subst (λ x. P a b x d') (sym g) (subst (λ x. P a b c x) (sym h) is)))

-- Nothing was fed.
pub fed_nothing : (from : ℕ) (st : State) (had all : Option (List ℕ)) (new : Content)
    (c : ConnectionModel) → c ≡ new_connection → Refines new st
    → Fed from from st had all new all had c
fed_nothing from st had all new c e refines =
    if_some all _ _ (λ input is. (from, le_refl from, is)) (fed_new from st had new all c e refines)

pub not_begun : (from : ℕ) (st : State) (new : Content) (unread had : Option (List ℕ))
    → Refines new st → Feeds from from st had unread new unread had (Err fault.NoMemory)
not_begun from st new unread had refines =
    at_break from from st had unread new unread had new_connection
    (fed_nothing from st had unread new new_connection refl refines) refl
