-- The server of a number by its facts is the server in the state.
use Rattle.std.proofs.Common.{◌≡◌, ℕ, Bool, true, false, Option, Some, None, refl, ap, ◌∙◌}
use Rattle.std.specs.Prelude.{is_some, option_map, if◌then◌else◌}
use Rattle.numbers.specs.Digits.{code_of, block_of}
use Rattle.numbers.specs.Subjects.{Number, Block}
use Rattle.version.specs.declared.version.Version.{Version as VersionImpl}
use Rattle.version.specs.Abstraction.{model_of}
use Rattle.version.specs.Facts.{HasModelIfAny}
use Rattle.model.specs.Versions.{Version, open_version, version_in_force}
use Rattle.model.specs.History.{code_holder, donor_of}
use Rattle.model.specs.State.{State, Server, ByVersion, ByBlock, ByCode, record_now, serving, served_by_code as served_in, served_by_block, protected_by}
use Rattle.pool.specs.declared.service.ServingFacts.{ServingFacts}
use Rattle.pool.specs.Facts.{carrier_number}
use Rattle.pool.specs.Serving.{served_by_version, served_by_code, serving_of, ServingFactsMatch}

by-version : (o : Option VersionImpl) (u : Option Version) (a b : Server) → HasModelIfAny o u
    → a ≡ b
    → served_by_version (option_map model_of o) a ≡ elim u [
      | Some v ↦ ByVersion v.new_provider
      | None ↦ b
    ]
by-version None None a b sees same = same
by-version (Some v) (Some u) a b sees same = ap (λ (w : Version). ByVersion w.new_provider) sees
by-version None (Some u) a b sees same = absurd sees
by-version (Some v) None a b sees same = absurd sees

by-open : (o : Option VersionImpl) (u : Option Version) (a b : Server) → HasModelIfAny o u → a ≡ b
    → protected_by (option_map model_of o) a ≡ protected_by u b
by-open None None a b sees same = same
by-open (Some v) (Some u) a b sees same =
    ap (λ (s : Server). if v.is_protective then ByVersion v.new_provider.number else s) same
    ∙ ap (λ (w : Version). protected_by (Some w) b) sees
by-open None (Some u) a b sees same = absurd sees
by-open (Some v) None a b sees same = absurd sees

by-block : (o : Option VersionImpl) (u : Option Version) → HasModelIfAny o u
    → served_by_block (option_map model_of o) ≡ served_by_block u
by-block None None sees = refl
by-block (Some v) (Some u) sees = ap (λ (w : Version). ByBlock w.new_provider) sees
by-block None (Some u) sees = absurd sees
by-block (Some v) None sees = absurd sees

by-donor : (donated : Bool) (donor : Option ℕ) (a b : Server) (c d : Option ℕ)
    → donated ≡ is_some donor → a ≡ b → c ≡ d →
    (if donated then a else ByCode c) ≡ elim donor [ Some s ↦ b | None ↦ ByCode d ]
by-donor true (Some s) a b c d is same code = same
by-donor false None a b c d is same code = ap (λ (o : Option ℕ). ByCode o) code
by-donor true None a b c d is same code = cc
by-donor false (Some s) a b c d is same code = cc

pub serving-is : (st : State) (n : ℕ) (f : ServingFacts) → ServingFactsMatch st n f
    → serving_of f ≡ serving st n
serving-is st n f are =
    let code : served_by_code f ≡ served_in st n =
    by-donor f.is_donated (donor_of (block_of n) st.history)
    (served_by_block (option_map model_of f.block_in_force))
    (served_by_block (version_in_force (record_now st (Block (block_of n)))))
    (carrier_number f.code_holder) (code_holder (code_of n) st.history) are.donated
    (by-block f.block_in_force (version_in_force (record_now st (Block (block_of n)))) are.block)
    are.code in
    by-version f.in_force (version_in_force (record_now st (Number n)))
    (protected_by (option_map model_of f.opened) (served_by_code f))
    (protected_by (open_version (Number n) (record_now st (Number n))) (served_in st n))
    are.in_force
    (by-open f.opened (open_version (Number n) (record_now st (Number n))) (served_by_code f)
    (served_in st n) are.opened code)
