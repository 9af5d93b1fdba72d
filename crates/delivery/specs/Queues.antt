-- Downloads of one subject that are pending for a carrier, by key.
use Rattle.std.specs.Prelude.{ℕ, Bool, not, ◌&&◌, ◌||◌, ◌==◌, ◌≡◌, nat_lt, List, [], ◌∷◌, Option, ⊤}
use Rattle.std.specs.List.{list_any}
use Rattle.numbers.specs.Subjects.{Subject}
use Rattle.delivery.specs.declared.download.DownloadKey.{DownloadKey}
use Rattle.model.specs.State.{Download}
use Rattle.model.specs.Refusals.{first_refusal, is_not_among, is_preceded}

-- Whether the key is that of this attempt of this version.
abbrev pub is_key : (id attempt : ℕ) → DownloadKey → Bool
is_key id attempt k = (k.id == id) && (k.attempt == attempt)

-- Whether the first key is earlier: by minute, then id, then attempt.
abbrev pub is_earlier : DownloadKey → DownloadKey → Bool
is_earlier a b =
    nat_lt a.minute.number b.minute.number
    || ((a.minute.number == b.minute.number)
    && (nat_lt a.id b.id || ((a.id == b.id) && nat_lt a.attempt b.attempt)))

-- Whether an earlier key is among them.
abbrev pub has_earlier : List DownloadKey → DownloadKey → Bool
has_earlier keys k = list_any (λ e. is_earlier e k) keys

-- Whether no key of this attempt is among them (refusal 25).
abbrev pub is_missing : List DownloadKey → (id attempt : ℕ) → Bool
is_missing keys id attempt = not (list_any (is_key id attempt) keys)

-- Whether a key earlier than that of this attempt is among them (refusal 26).
abbrev pub is_behind : List DownloadKey → (id attempt : ℕ) → Bool
is_behind keys id attempt = list_any (λ k. is_key id attempt k && has_earlier keys k) keys

-- The refusal of an acknowledgement of an attempt, by the pending keys.
abbrev pub key_refusal : List DownloadKey → (id attempt : ℕ) → Option ℕ
key_refusal keys id attempt =
    first_refusal ((25, is_missing keys id attempt) ∷ (26, is_behind keys id attempt) ∷ [])

-- Holds if the key is that of a download of the subject.
pub record IsKeyOf (s : Subject) (k : DownloadKey) (d : Download) : Type 0 where
  pub subject : d.subject ≡ s
  pub minute : d.minute ≡ k.minute.number
  pub id : d.id ≡ k.id
  pub attempt : d.attempt ≡ k.attempt

-- Holds if the keys are those of downloads of the subject, one by one.
abbrev pub AreKeysOf : Subject → List DownloadKey → List Download → Type 0
AreKeysOf s [] [] = ⊤
AreKeysOf s (k ∷ ks) (d ∷ ds) = IsKeyOf s k d × AreKeysOf s ks ds
AreKeysOf s [] (d ∷ ds) = ⊥
AreKeysOf s (k ∷ ks) [] = ⊥

-- The refusal of an acknowledgement of an attempt, by the pending downloads.
abbrev pub queue_refusal : List Download → (id attempt : ℕ) → Option ℕ
queue_refusal downloads id attempt =
    first_refusal ((25, is_not_among downloads id attempt) ∷ (
      26,
      is_preceded downloads id
          attempt,
    ) ∷ [])
