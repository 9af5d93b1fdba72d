-- What a content has after the changes of one row.
use Rattle.std.proofs.Common.{◌≡◌, ◌∙◌, ℕ, Some, ap, sym, inl, inr}
use Rattle.std.specs.Prelude.{◌≢◌, ◌⊎◌}
use Rattle.std.specs.FinMap.{get}
use Rattle.numbers.specs.Subjects.{Subject}
use Rattle.model.specs.Windows.{Windows}
use Rattle.model.specs.Content.{BlockRow, BroadcastKey, BroadcastRow, Content, VersionRow, WaitKey}
use Rattle.settle.specs.Changes.{AppliesChanges}
use Rattle.repair.specs.Entries.{Entry, Carrier, Lrn, Code, Block, WindowSet, Version, Broadcast, Wait, IsEntry, changes_with, place}
use Rattle.repair.proofs.Puts.{put_here, put_kept, put_only, same_numbers, same_broadcasts, same_waits}

-- Holds if the new content has the row, besides those of the old one at other places.
pub record Adds (e : Entry) (old new : Content) : Type 0 where
  pub put : IsEntry new e
  pub kept : (x : Entry) → place x ≢ place e → IsEntry old x → IsEntry new x
  pub only : (x : Entry) → IsEntry new x → IsEntry old x ⊎ (e ≡ x)

module _ (old new : Content) where
  put_entry : (e : Entry) → AppliesChanges (changes_with e) old new → IsEntry new e
  put_entry (Carrier k) a = put_here same_numbers k tt _ _ (a.carriers k)
  put_entry (Lrn k v) a = put_here same_numbers k v _ _ (a.lrns k)
  put_entry (Code k v) a = put_here same_numbers k v _ _ (a.codes k)
  put_entry (Block k v) a = put_here same_numbers k v _ _ (a.blocks k)
  put_entry (WindowSet k v) a = put_here same_numbers k v _ _ (a.sets k)
  put_entry (Version k v) a = put_here same_numbers k v _ _ (a.versions k)
  put_entry (Broadcast k v) a = put_here same_broadcasts k v _ _ (a.broadcasts k)
  put_entry (Wait k v) a = put_here same_waits k v _ _ (a.waits k)

  kept_carrier : (e : Entry) → AppliesChanges (changes_with e) old new → (k : ℕ)
      → place (Carrier k) ≢ place e → get old.carriers k ≡ Some tt → get new.carriers k ≡ Some tt
  kept_carrier (Carrier j) a k apart h =
      put_kept same_numbers j tt k tt _ _ (a.carriers k)
      (λ same. apart (ap (λ n. place (Carrier n)) same)) h
  kept_carrier e a k apart h = a.carriers k ∙ h

  kept_lrn : (e : Entry) → AppliesChanges (changes_with e) old new → (k v : ℕ)
      → place (Lrn k v) ≢ place e → get old.lrns k ≡ Some v → get new.lrns k ≡ Some v
  kept_lrn (Lrn j u) a k v apart h =
      put_kept same_numbers j u k v _ _ (a.lrns k)
      (λ same. apart (ap (λ n. place (Lrn n v)) same)) h
  kept_lrn e a k v apart h = a.lrns k ∙ h

  kept_code : (e : Entry) → AppliesChanges (changes_with e) old new → (k v : ℕ)
      → place (Code k v) ≢ place e → get old.codes k ≡ Some v → get new.codes k ≡ Some v
  kept_code (Code j u) a k v apart h =
      put_kept same_numbers j u k v _ _ (a.codes k)
      (λ same. apart (ap (λ n. place (Code n v)) same)) h
  kept_code e a k v apart h = a.codes k ∙ h

  kept_block : (e : Entry) → AppliesChanges (changes_with e) old new → (k : ℕ) (v : BlockRow)
      → place (Block k v) ≢ place e → get old.blocks k ≡ Some v → get new.blocks k ≡ Some v
  kept_block (Block j u) a k v apart h =
      put_kept same_numbers j u k v _ _ (a.blocks k)
      (λ same. apart (ap (λ n. place (Block n v)) same)) h
  kept_block e a k v apart h = a.blocks k ∙ h

  kept_set : (e : Entry) → AppliesChanges (changes_with e) old new → (k : ℕ) (v : Windows)
      → place (WindowSet k v) ≢ place e → get old.sets k ≡ Some v → get new.sets k ≡ Some v
  kept_set (WindowSet j u) a k v apart h =
      put_kept same_numbers j u k v _ _ (a.sets k)
      (λ same. apart (ap (λ n. place (WindowSet n v)) same)) h
  kept_set e a k v apart h = a.sets k ∙ h

  kept_version : (e : Entry) → AppliesChanges (changes_with e) old new → (k : ℕ) (v : VersionRow)
      → place (Version k v) ≢ place e → get old.versions k ≡ Some v
      → get new.versions k ≡ Some v
  kept_version (Version j u) a k v apart h =
      put_kept same_numbers j u k v _ _ (a.versions k)
      (λ same. apart (ap (λ n. place (Version n v)) same)) h
  kept_version e a k v apart h = a.versions k ∙ h

  kept_broadcast : (e : Entry) → AppliesChanges (changes_with e) old new → (k : BroadcastKey)
      (v : BroadcastRow) → place (Broadcast k v) ≢ place e → get old.broadcasts k ≡ Some v
      → get new.broadcasts k ≡ Some v
  kept_broadcast (Broadcast j u) a k v apart h =
      put_kept same_broadcasts j u k v _ _ (a.broadcasts k)
      (λ same. apart (ap (λ n. place (Broadcast n v)) same)) h
  kept_broadcast e a k v apart h = a.broadcasts k ∙ h

  kept_wait : (e : Entry) → AppliesChanges (changes_with e) old new → (k : WaitKey) (v : Subject)
      → place (Wait k v) ≢ place e → get old.waits k ≡ Some v → get new.waits k ≡ Some v
  kept_wait (Wait j u) a k v apart h =
      put_kept same_waits j u k v _ _ (a.waits k)
      (λ same. apart (ap (λ n. place (Wait n v)) same)) h
  kept_wait e a k v apart h = a.waits k ∙ h

  only_carrier : (e : Entry) → AppliesChanges (changes_with e) old new → (k : ℕ)
      → get new.carriers k ≡ Some tt → (get old.carriers k ≡ Some tt) ⊎ (e ≡ Carrier k)
  only_carrier (Carrier j) a k h = elim (put_only same_numbers j tt k tt _ _ (a.carriers k) h) [
    | inl before ↦ inl before
    | inr same ↦ inr (ap Carrier same.0)
  ]
  only_carrier e a k h = inl (sym (a.carriers k) ∙ h)

  only_lrn : (e : Entry) → AppliesChanges (changes_with e) old new → (k v : ℕ)
      → get new.lrns k ≡ Some v → (get old.lrns k ≡ Some v) ⊎ (e ≡ Lrn k v)
  only_lrn (Lrn j u) a k v h = elim (put_only same_numbers j u k v _ _ (a.lrns k) h) [
    | inl before ↦ inl before
    | inr same ↦ inr (let key = same.0 in let value = same.1 in cc)
  ]
  only_lrn e a k v h = inl (sym (a.lrns k) ∙ h)

  only_code : (e : Entry) → AppliesChanges (changes_with e) old new → (k v : ℕ)
      → get new.codes k ≡ Some v → (get old.codes k ≡ Some v) ⊎ (e ≡ Code k v)
  only_code (Code j u) a k v h = elim (put_only same_numbers j u k v _ _ (a.codes k) h) [
    | inl before ↦ inl before
    | inr same ↦ inr (let key = same.0 in let value = same.1 in cc)
  ]
  only_code e a k v h = inl (sym (a.codes k) ∙ h)

  only_block : (e : Entry) → AppliesChanges (changes_with e) old new → (k : ℕ) (v : BlockRow)
      → get new.blocks k ≡ Some v → (get old.blocks k ≡ Some v) ⊎ (e ≡ Block k v)
  only_block (Block j u) a k v h = elim (put_only same_numbers j u k v _ _ (a.blocks k) h) [
    | inl before ↦ inl before
    | inr same ↦ inr (let key = same.0 in let value = same.1 in cc)
  ]
  only_block e a k v h = inl (sym (a.blocks k) ∙ h)

  only_set : (e : Entry) → AppliesChanges (changes_with e) old new → (k : ℕ) (v : Windows)
      → get new.sets k ≡ Some v → (get old.sets k ≡ Some v) ⊎ (e ≡ WindowSet k v)
  only_set (WindowSet j u) a k v h = elim (put_only same_numbers j u k v _ _ (a.sets k) h) [
    | inl before ↦ inl before
    | inr same ↦ inr (let key = same.0 in let value = same.1 in cc)
  ]
  only_set e a k v h = inl (sym (a.sets k) ∙ h)

  only_version : (e : Entry) → AppliesChanges (changes_with e) old new → (k : ℕ) (v : VersionRow)
      → get new.versions k ≡ Some v → (get old.versions k ≡ Some v) ⊎ (e ≡ Version k v)
  only_version (Version j u) a k v h = elim (put_only same_numbers j u k v _ _ (a.versions k) h) [
    | inl before ↦ inl before
    | inr same ↦ inr (let key = same.0 in let value = same.1 in cc)
  ]
  only_version e a k v h = inl (sym (a.versions k) ∙ h)

  only_broadcast : (e : Entry) → AppliesChanges (changes_with e) old new → (k : BroadcastKey)
      (v : BroadcastRow) → get new.broadcasts k ≡ Some v
      → (get old.broadcasts k ≡ Some v) ⊎ (e ≡ Broadcast k v)
  only_broadcast (Broadcast j u) a k v h =
      elim (put_only same_broadcasts j u k v _ _ (a.broadcasts k) h) [
        | inl before ↦ inl before
        | inr same ↦ inr (let key = same.0 in let value = same.1 in cc)
      ]
  only_broadcast e a k v h = inl (sym (a.broadcasts k) ∙ h)

  only_wait : (e : Entry) → AppliesChanges (changes_with e) old new → (k : WaitKey) (v : Subject)
      → get new.waits k ≡ Some v → (get old.waits k ≡ Some v) ⊎ (e ≡ Wait k v)
  only_wait (Wait j u) a k v h = elim (put_only same_waits j u k v _ _ (a.waits k) h) [
    | inl before ↦ inl before
    | inr same ↦ inr (let key = same.0 in let value = same.1 in cc)
  ]
  only_wait e a k v h = inl (sym (a.waits k) ∙ h)

  kept_entry : (e x : Entry) → AppliesChanges (changes_with e) old new → place x ≢ place e
      → IsEntry old x → IsEntry new x
  kept_entry e (Carrier k) a apart h = kept_carrier e a k apart h
  kept_entry e (Lrn k v) a apart h = kept_lrn e a k v apart h
  kept_entry e (Code k v) a apart h = kept_code e a k v apart h
  kept_entry e (Block k v) a apart h = kept_block e a k v apart h
  kept_entry e (WindowSet k v) a apart h = kept_set e a k v apart h
  kept_entry e (Version k v) a apart h = kept_version e a k v apart h
  kept_entry e (Broadcast k v) a apart h = kept_broadcast e a k v apart h
  kept_entry e (Wait k v) a apart h = kept_wait e a k v apart h

  only_entry : (e x : Entry) → AppliesChanges (changes_with e) old new → IsEntry new x
      → IsEntry old x ⊎ (e ≡ x)
  only_entry e (Carrier k) a h = only_carrier e a k h
  only_entry e (Lrn k v) a h = only_lrn e a k v h
  only_entry e (Code k v) a h = only_code e a k v h
  only_entry e (Block k v) a h = only_block e a k v h
  only_entry e (WindowSet k v) a h = only_set e a k v h
  only_entry e (Version k v) a h = only_version e a k v h
  only_entry e (Broadcast k v) a h = only_broadcast e a k v h
  only_entry e (Wait k v) a h = only_wait e a k v h

  pub adds : (e : Entry) → AppliesChanges (changes_with e) old new → Adds e old new
  adds e a = record {
    put = put_entry e a;
    kept = λ x. kept_entry e x a;
    only = λ x. only_entry e x a;
  }
