-- What was executed ahead, under each key.
use Rattle.std.proofs.Common.{◌≡◌, ◌≢◌, ◌⊎◌, ◌<◌, ◌≤◌, inl, inr, ℕ, ◌+◌, List, [], ◌∷◌, length, drop, Option, Some, None, true, false, refl, sym, ap, ◌∙◌, subst, arith, Contains}
use Rattle.std.specs.Prelude.{nat_eq, option_map}
use Rattle.std.proofs.Math.ListN.{get_or}
use Rattle.std.proofs.lemmas.Bool.Decides.{eqb_tells}
use Rattle.std.proofs.lemmas.List.{drop_all, drop_more}
use Rattle.slab.specs.Slab.{Slab, get}
use Rattle.slab.proofs.SlabLemmas.{Contains-cons_cases}
use Rattle.hub.specs.Connections.{HasNothingAhead, connection_of, kept_of}
use Rattle.hub.specs.Hub.{IsSettled, IsSettledAt, IsSettledBut, connections_of, kept_connections}
use Rattle.hub.specs.declared.member.Member.{Member}
use Rattle.hub.proofs.Ahead.{kept_nothing}

module _ {P : Type 0} where
  kept_so : (o : Option (Member P))
      → ((m : Member P) → o ≡ Some m → HasNothingAhead m.connection)
      → option_map (λ (m : Member P). kept_of m.connection) o
      ≡ option_map (λ (m : Member P). connection_of m.connection) o
  kept_so None settled = refl
  kept_so (Some m) settled = ap Some (kept_nothing m.connection (settled m refl))

  -- Nothing was executed ahead, so the connections are those with it.
  pub kept_same : (members : Slab (Member P)) → IsSettled members → (place : ℕ)
      → kept_connections members place ≡ connections_of members place
  kept_same members settled place = kept_so (get members place) (settled place)

  pub settled_but : (members : Slab (Member P)) (keys : List ℕ) → IsSettled members
      → IsSettledBut keys members
  settled_but members keys settled = λ key m found. inl (settled key m found)

  settled_all : (members : Slab (Member P)) → IsSettledBut [] members → IsSettled members
  settled_all members settled = λ key m found. by_cases key m (settled key m found)
    where
      by_cases : (key : ℕ) (m : Member P) → HasNothingAhead m.connection ⊎ Contains [] key
          → HasNothingAhead m.connection
      by_cases key m (inl is) = is
      by_cases key m (inr at) = absurd (omega (arith, at.1))

  -- All keys were visited.
  pub settled_then : (members : Slab (Member P)) (keys : List ℕ) (i : ℕ) → length keys ≤ i
      → IsSettledBut (drop i keys) members → IsSettled members
  settled_then members keys i all left = settled_all members
      (subst (λ (rest : List ℕ). IsSettledBut rest members) (drop_all i keys all) left)

  module _ (old new : Slab (Member P)) (key : ℕ)
      (others : (place : ℕ) → place ≢ key → get new place ≡ get old place) where
    -- The connection under a key had a turn.
    pub but_turned : (keys : List ℕ) → Contains keys key → IsSettledBut keys old
        → IsSettledBut keys new
    but_turned keys within was place m found = by_cases (eqb_tells key place)
      where
        by_cases : ((nat_eq key place ≡ true) × (key ≡ place))
            ⊎ ((nat_eq key place ≡ false) × (key ≢ place))
            → HasNothingAhead m.connection ⊎ Contains keys place
        by_cases (inl same) = inr (subst (Contains keys) same.1 within)
        by_cases (inr apart) =
            was place m (sym (others place (λ e. apart.1 (sym e))) ∙ found)

    -- What was executed ahead under a key was kept or dropped.
    pub but_settled : (keys : List ℕ) (i d : ℕ) → i < length keys → get_or keys i d ≡ key
        → IsSettledAt key new → IsSettledBut (drop i keys) old → IsSettledBut (drop (i + 1) keys)
        new
    but_settled keys i d within is at was place m found = by_cases (eqb_tells key place)
      where
        left : IsSettledBut (key ∷ drop (i + 1) keys) old
        left = subst (λ (rest : List ℕ). IsSettledBut rest old)
            (drop_more keys i d within ∙ ap (λ (k : ℕ). k ∷ drop (i + 1) keys) is) was

        further : key ≢ place → HasNothingAhead m.connection ⊎ Contains (key ∷ drop (i + 1) keys)
            place
            → HasNothingAhead m.connection ⊎ Contains (drop (i + 1) keys) place
        further apart (inl s) = inl s
        further apart (inr among) =
            elim (Contains-cons_cases key place (drop (i + 1) keys) among) [
              | inl same ↦ absurd (apart same)
              | inr rest ↦ inr rest
            ]

        by_cases : ((nat_eq key place ≡ true) × (key ≡ place))
            ⊎ ((nat_eq key place ≡ false) × (key ≢ place))
            → HasNothingAhead m.connection ⊎ Contains (drop (i + 1) keys) place
        by_cases (inl same) =
            inl (subst (λ (k : ℕ). IsSettledAt k new) same.1 at m found)
        by_cases (inr apart) = further apart.1
            (left place m (sym (others place (λ e. apart.1 (sym e))) ∙ found))

    -- What was executed ahead under a key was dropped.
    pub dropped_on : connections_of new key ≡ connections_of old key → (place : ℕ)
        → connections_of new place ≡ connections_of old place
    dropped_on same place = by_cases (eqb_tells key place)
      where
        by_cases : ((nat_eq key place ≡ true) × (key ≡ place))
            ⊎ ((nat_eq key place ≡ false) × (key ≢ place))
            → connections_of new place ≡ connections_of old place
        by_cases (inl at) =
            subst (λ (k : ℕ). connections_of new k ≡ connections_of old k) at.1 same
        by_cases (inr apart) = ap (option_map (λ (m : Member P). connection_of m.connection))
            (others place (λ e. apart.1 (sym e)))

    -- What was executed ahead under a key was kept.
    pub kept_on : IsSettledAt key new → connections_of new key ≡ kept_connections old key
        → (place : ℕ) → kept_connections new place ≡ kept_connections old place
    kept_on at same place = by_cases (eqb_tells key place)
      where
        by_cases : ((nat_eq key place ≡ true) × (key ≡ place))
            ⊎ ((nat_eq key place ≡ false) × (key ≢ place))
            → kept_connections new place ≡ kept_connections old place
        by_cases (inl here) =
            subst (λ (k : ℕ). kept_connections new k ≡ kept_connections old k) here.1
            (kept_so (get new key) at ∙ same)
        by_cases (inr apart) = ap (option_map (λ (m : Member P). kept_of m.connection))
            (others place (λ e. apart.1 (sym e)))
