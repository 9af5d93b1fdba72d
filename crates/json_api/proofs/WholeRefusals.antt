-- The whole text of a refusal.
use Rattle.std.proofs.Common.{◌≡◌, ℕ, List, [], ◌++◌, ap, ◌∙◌, arith, string_bytes, string_len}
use Rattle.std.specs.Prelude.{String}
use Rattle.json_api.specs.Response.{response}
use Rattle.json_api.specs.Failures.{failure_text, failure_body, failure_status}
use Rattle.json_api.specs.declared.fault.Failure.{Failure}
use Rattle.numbers.proofs.Small.{no_members}

pub no_bytes : {Z : Type 0} (s : String Z) → string_len s ≡ 0 → string_bytes s ≡ []
no_bytes s e = no_members (string_bytes s) (omega (arith, e, s.bytes.ok.0))

pub refusal_is : (failure : Failure) (body text empty empty_body : List ℕ) (status : ℕ) → empty ≡ []
    → empty_body ≡ [] → status ≡ failure_status failure
    → body ≡ empty_body ++ failure_body failure → text ≡ empty ++ response status body
    → text ≡ failure_text failure
unfolding failure_text
refusal_is failure body text empty empty_body status e f s b t =
    let whole : body ≡ failure_body failure =
    b ∙ ap (λ (x : List ℕ). x ++ failure_body failure) f in
    t ∙ ap (λ (x : List ℕ). x ++ response status body) e ∙ ap (λ (x : List ℕ). response status x)
    whole
    ∙ ap (λ (n : ℕ). response n (failure_body failure)) s
