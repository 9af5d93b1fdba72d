-- The register's answers to questions.
use Rattle.std.proofs.Common.{◌≡◌, ℕ, Option, Some, None}
use Rattle.std.specs.Prelude.{⊤}
use Rattle.model.specs.Content.{Content}
use Rattle.model.specs.Machine.{Found, out, refused_or}
use Rattle.model.specs.State.{State}
use Rattle.model.specs.Refusals.{QuestionFrom, Ids, refusal}
use Rattle.register.specs.Refinement.{Refines}
use Rattle.bulk.specs.Report.{in_force_id, open_id}
use Rattle.settle.specs.StoreContract.{PreservesStore, ReportsStorage}
use Rattle.settle.specs.declared.store_model.StoreModel.{Ghosts}
use Rattle.std.proofs.Math.Nat.{le_refl, le_trans}
use Rattle.settle.proofs.Risen.{risen-since}

-- The ids of a number's versions.
same_ids : (r : Option ℕ) (a b c d : Option ℕ) → Found a b ≡ refused_or r (Found c d)
    → (a ≡ c) × (b ≡ d)
same_ids None a b c d e = (cc, cc)
same_ids (Some k) a b c d e = let x : ⊥ = cc in absurd x

pub ids_are : (st : State) (tn : ℕ) (a b : Option ℕ) → Found a b ≡ out st (QuestionFrom 0 (Ids tn))
    → (a ≡ in_force_id st tn) × (b ≡ open_id st tn)
unfolding out
ids_are st tn a b e =
    same_ids (refusal st (QuestionFrom 0 (Ids tn))) a b (in_force_id st tn) (open_id st tn) e

-- Two calls in order preserve the store, if the content between them refines a later state.
pub owes_on :
    {S First Settles Answers Says : Type 0} {store : Ghosts S} {before mid after : S}
    {old between : Content} →
    PreservesStore store before mid Settles First → Settles
    → PreservesStore store mid after Answers
    (ReportsStorage (store.IsUsable after) between Says)
    → (store.IsUsable mid → (st : State) → Refines old st → (later : State) × Refines between later)
    →
    PreservesStore store before after Answers (ReportsStorage (store.IsUsable after)
    old Says)
owes_on {store = store} {before = before} {mid = mid} {after = after} first settles second on =
    record {
      usable = λ u. first.usable (second.usable u);
      honest = λ h. first.honest (second.honest h);
      begins = λ m inside. first.begins m (second.begins m inside);
      ends = λ u m inside. second.ends u m (first.ends (second.usable u) m inside);
      stays = λ answers usable honest.
          second.stays answers (first.stays settles usable (second.honest honest)) honest;
      rises = le_trans first.rises second.rises;
      storage = λ s.
          let at = on (second.usable s.usable) s.st (record {
            represents = s.represents;
            written =
                s.written;
          }) in
          risen-since (store.failed before) (store.failed mid) (store.failed after) first.rises
          second.rises
          (second.storage (record {
            usable = s.usable;
            st = at.0;
            represents = at.1.represents;
            written = at.1.written;
            says = s.says;
          }));
    }

-- Two calls in order preserve the store, if the content between them refines the same state.
pub owes_then :
    {S First Settles Answers Says : Type 0} {store : Ghosts S} {before mid after : S}
    {old between : Content} →
    PreservesStore store before mid Settles First → Settles
    → PreservesStore store mid after Answers
    (ReportsStorage (store.IsUsable after) between Says)
    → (store.IsUsable mid → (st : State) → Refines old st → Refines between st) →
    PreservesStore store before after Answers (ReportsStorage (store.IsUsable after)
    old Says)
owes_then first settles second kept = owes_on first settles second (λ u st s. (st, kept u st s))

-- No call preserves the store.
pub owes_none : {S : Type 0} (store : Ghosts S) (s : S)
    → PreservesStore store s s ⊤ ⊥
owes_none store s = record {
  usable = λ u. u;
  honest = λ h. h;
  begins = λ m inside. inside;
  ends = λ u m inside. inside;
  stays = λ settles usable honest. usable;
  rises = le_refl (store.failed s);
  storage = λ x. absurd x;
}
