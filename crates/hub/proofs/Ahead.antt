-- What was executed ahead.
use Rattle.std.proofs.Common.{◌≡◌, ◌≢◌, ◌⊎◌, inl, inr, ℕ, List, [], ◌∷◌, length, Option, Result, Ok, Err, Bool, true, false, ◌&&◌, refl, sym, ap, ◌∙◌, subst, arith}
use Rattle.std.specs.Prelude.{nat_eq}
use Rattle.std.proofs.lemmas.Bool.Decides.{eqb_tells}
use Rattle.numbers.proofs.Small.{impossible}
use Rattle.api.specs.declared.executor.Executed.{Executed}
use Rattle.api.specs.declared.executor.Lost.{Lost}
use Rattle.hub.specs.Connections.{ConnectionModel, HasNothingAhead, connection_of, has_work, is_open, kept_of, may_go_on, queued, with_ahead, with_executed}
use Rattle.hub.specs.declared.connection.Connection.{Connection}

second_of : (a b : Bool) → a && b ≡ true → b ≡ true
second_of true b e = e
second_of false b e = impossible (sym e)

none_in : (xs : List ℕ) → length xs ≡ 0 → xs ≡ []
none_in [] e = refl
none_in (x ∷ xs) e = absurd (omega (arith, e))

is_empty : (xs : List ℕ) → nat_eq (length xs) 0 ≡ true → xs ≡ []
is_empty xs e = by_cases (eqb_tells (length xs) 0)
  where
    by_cases : ((nat_eq (length xs) 0 ≡ true) × (length xs ≡ 0))
        ⊎ ((nat_eq (length xs) 0 ≡ false) × (length xs ≢ 0)) → xs ≡ []
    by_cases (inl same) = none_in xs same.1
    by_cases (inr apart) = impossible (sym e ∙ apart.0)

-- A connection with work has nothing to send.
unsent_none : (c : ConnectionModel) → has_work c ≡ true → c.unsent ≡ []
unsent_none c work = is_empty c.unsent
    (second_of (is_open c.phase && may_go_on c) (nat_eq (length c.unsent) 0) work)

pub nothing_unsent : (c : ConnectionModel) → has_work c ≡ true → (bytes : List ℕ) → bytes ≡ []
    → bytes ≡ c.unsent
nothing_unsent c work bytes none = none ∙ sym (unsent_none c work)

pub ahead_of : (c : ConnectionModel) → has_work c ≡ true → record c { unsent = [] } ≡ c
ahead_of c work = ap (λ (u : List ℕ). record c { unsent = u }) (sym (unsent_none c work))

-- What is unsent with what was executed ahead.
pub unsent_ahead : (c : ConnectionModel) (result : Result Executed Lost) (responses : List ℕ)
    (P : List ℕ → Type 0) → P responses
    → P (with_executed (record c { unsent = [] }) result responses).unsent
unsent_ahead c (Ok done) responses P is = is
unsent_ahead c (Err lost) responses P is = is

pub executed_from : (c : ConnectionModel) (result : Result Executed Lost) (responses : List ℕ)
    → with_executed (record c { unsent = [] }) result responses
    ≡ with_executed c result
    (with_executed (record c { unsent = [] }) result responses).unsent
executed_from c (Ok done) responses = refl
executed_from c (Err lost) responses = refl

-- What was executed ahead is kept.
pub kept_then : (c kept d : ConnectionModel) (result : Result Executed Lost) → d ≡ kept
    → kept ≡ with_executed c result kept.unsent → d ≡ with_executed c result d.unsent
kept_then c kept d result same is =
    subst (λ (m : ConnectionModel). m ≡ with_executed c result m.unsent) (sym same) is

pub kept_nothing : (c : Connection) → HasNothingAhead c → kept_of c ≡ connection_of c
kept_nothing c none =
    ap (λ (ahead : Option (Result Executed Lost)). with_ahead ahead (connection_of c)
    (queued c.output)) none
