-- The reason phrases of the statuses that responses have are short.
use Rattle.std.proofs.Common.{◌≤◌, ℕ, length, inl, inr, arith}
use Rattle.json_api.specs.Response.{phrase, IsAnswered}

pub short_phrase : (code : ℕ) → IsAnswered code → length (phrase code) ≤ 31
unfolding phrase
short_phrase code (inl e) = rw e (omega arith)
short_phrase code (inr (inl e)) = rw e (omega arith)
short_phrase code (inr (inr (inl e))) = rw e (omega arith)
short_phrase code (inr (inr (inr (inl e)))) = rw e (omega arith)
short_phrase code (inr (inr (inr (inr (inl e))))) = rw e (omega arith)
short_phrase code (inr (inr (inr (inr (inr (inl e)))))) = rw e (omega arith)
short_phrase code (inr (inr (inr (inr (inr (inr (inl e))))))) = rw e (omega arith)
short_phrase code (inr (inr (inr (inr (inr (inr (inr e))))))) = rw e (omega arith)
