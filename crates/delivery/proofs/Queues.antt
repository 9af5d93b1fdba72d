-- Keys of pending downloads, beside the downloads.
use Rattle.std.proofs.Common.{◌≡◌, ℕ, Bool, true, false, not, cond, ◌&&◌, ◌||◌, List, [], ◌∷◌, Some, None, refl, ap, sym, ◌∙◌}
use Rattle.std.specs.Prelude.{find, is_some, if◌then◌else◌, ◌==◌, nat_lt}
use Rattle.std.specs.List.{list_any}
use Rattle.numbers.specs.Subjects.{Subject, subject_eq}
use Rattle.model.specs.State.{Download, is_before}
use Rattle.model.specs.Refusals.{is_download, is_not_among, is_preceded}
use Rattle.model.proofs.Entered.{subject_eq-refl}
use Rattle.delivery.specs.declared.download.DownloadKey.{DownloadKey}
use Rattle.delivery.specs.Queues.{IsKeyOf, is_key, is_earlier, has_earlier, is_missing, is_behind, key_refusal, AreKeysOf, queue_refusal}

pub any_found : {A : Type 0} (test : A → Bool) (xs : List A)
    → list_any test xs ≡ is_some (find test xs)
any_found test [] = refl
any_found test (x ∷ xs) = by_cases (any_found test xs) (test x)
  where
    by_cases : list_any test xs ≡ is_some (find test xs) → (b : Bool)
        → (b || list_any test xs) ≡ is_some (cond b (Some x) (find test xs))
    by_cases later true = refl
    by_cases later false = later

-- ---- keys agree with downloads

module _ (s : Subject) (P : Download → Bool) (Q : DownloadKey
    → Bool) (same : (k : DownloadKey) (d : Download) → IsKeyOf s k d → P d ≡ Q k) where
  any_same : (ks : List DownloadKey) (ds : List Download) → AreKeysOf s ks ds
      → list_any P ds ≡ list_any Q ks
  any_same [] [] are = refl
  any_same (k ∷ ks) (d ∷ ds) are = ap (λ b. b || list_any P ds) (same k d are.0)
      ∙ ap (λ b. Q k || b) (any_same ks ds are.1)
  any_same [] (d ∷ ds) are = absurd are
  any_same (k ∷ ks) [] are = absurd are

pub key_same : (s : Subject) (id attempt : ℕ) (k : DownloadKey) (d : Download) → IsKeyOf s k d
    → is_download id attempt d ≡ is_key id attempt k
key_same s id attempt k d is = ap (λ n. (n == id) && (d.attempt == attempt)) is.id
    ∙ ap (λ n. (k.id == id) && (n == attempt)) is.attempt

one_subject : (s t u : Subject) → t ≡ s → u ≡ s → subject_eq t u ≡ true
one_subject s t u e f = ap (λ x. subject_eq x u) e ∙ ap (λ x. subject_eq s x) f ∙ subject_eq-refl s

pub before_same : (s : Subject) (k l : DownloadKey) (e d : Download) → IsKeyOf s k e → IsKeyOf s l d
    → (subject_eq e.subject d.subject && is_before e d) ≡ is_earlier k l
before_same s k l e d is js =
    ap (λ b. b && is_before e d) (one_subject s e.subject d.subject is.subject js.subject)
    ∙ ap (λ m. nat_lt m d.minute
    || ((m == d.minute) && (nat_lt e.id d.id || ((e.id == d.id) && nat_lt e.attempt d.attempt))))
    is.minute
    ∙ ap (λ m. nat_lt k.minute.number m
    || ((k.minute.number == m)
    && (nat_lt e.id d.id || ((e.id == d.id) && nat_lt e.attempt d.attempt)))) js.minute
    ∙ ap (λ m. nat_lt k.minute.number l.minute.number || ((k.minute.number == l.minute.number)
    && (nat_lt m d.id || ((m == d.id) && nat_lt e.attempt d.attempt)))) is.id
    ∙ ap (λ m. nat_lt k.minute.number l.minute.number || ((k.minute.number == l.minute.number)
    && (nat_lt k.id m || ((k.id == m) && nat_lt e.attempt d.attempt)))) js.id
    ∙ ap (λ m. nat_lt k.minute.number l.minute.number || ((k.minute.number == l.minute.number)
    && (nat_lt k.id l.id || ((k.id == l.id) && nat_lt m d.attempt)))) is.attempt
    ∙ ap (λ m. nat_lt k.minute.number l.minute.number || ((k.minute.number == l.minute.number)
    && (nat_lt k.id l.id || ((k.id == l.id) && nat_lt k.attempt m)))) js.attempt

module _ (s : Subject) (ks : List DownloadKey) (ds : List Download) (are : AreKeysOf s ks ds)
    (id attempt : ℕ) where
  earlier_same : (k : DownloadKey) (d : Download) → IsKeyOf s k d →
      list_any (λ e. subject_eq e.subject d.subject && is_before e d) ds ≡ has_earlier ks k
  earlier_same k d is =
      any_same s (λ e. subject_eq e.subject d.subject && is_before e d) (λ l. is_earlier l k)
      (λ l e js. before_same s l k e d js is) ks ds are

  behind_same : is_preceded ds id attempt ≡ is_behind ks id attempt
  behind_same = any_same s
      (λ d. is_download id attempt d && list_any (λ e. subject_eq e.subject d.subject && is_before e
      d) ds)
      (λ k. is_key id attempt k && has_earlier ks k)
      (λ k d is. ap (λ b. b && list_any (λ e. subject_eq e.subject d.subject && is_before e d) ds)
      (key_same s id attempt k d is) ∙ ap (λ b. is_key id attempt k && b) (earlier_same k d is))
      ks ds are

  missing_same : is_not_among ds id attempt ≡ is_missing ks id attempt
  missing_same =
      ap not (any_same s (is_download id attempt) (is_key id attempt) (key_same s id attempt) ks ds
      are)

  -- The keys and the downloads lead to the same refusal.
  pub refused_alike : key_refusal ks id attempt ≡ queue_refusal ds id attempt
  refused_alike =
      sym (ap (λ b. if b then Some 25 else (if is_preceded ds id attempt then Some 26 else None))
      missing_same
      ∙ ap (λ b. if is_missing ks id attempt then Some 25 else (if b then Some 26 else None))
      behind_same)
