-- Downloads that are added, and taken back.
use Rattle.std.proofs.Common.{◌≡◌, List, [], ◌∷◌, ◌++◌, map, Some, None, ap, sym, ◌∙◌, subst}
use Rattle.std.specs.FinMap.{FinMap, get}
use Rattle.numbers.specs.Subjects.{Subject}
use Rattle.numbers.specs.Abstraction.{subject_of}
use Rattle.numbers.specs.declared.ported.Subject.{Subject as SubjectImpl}
use Rattle.model.specs.Content.{WaitKey, wait_cmp}
use Rattle.model.proofs.KeyOrders.{wait_total, wait_exact}
use Rattle.settle.specs.Abstraction.{wait_key_of}
use Rattle.settle.specs.Changes.{put_rows, same_wait}
use Rattle.settle.specs.declared.rows.WaitKey.{WaitKey as WaitKeyImpl}
use Rattle.store.specs.Maps.{set}
use Rattle.store.specs.Batch.{AreNew}
use Rattle.store.proofs.Maps.{set-back}
use Rattle.store.proofs.Changed.{set_wait}

-- More downloads.
pub new-then : (es more : List (WaitKeyImpl × SubjectImpl)) (old mid new : FinMap wait_cmp Subject)
    → AreNew es old mid → AreNew more mid new → AreNew (es ++ more) old new
new-then [] more old mid new same later = subst (λ m. AreNew more m new) same later
new-then (e ∷ es) more old mid new first later =
    (first.0, new-then es more _ mid new first.1 later)

-- The last download deleted again.
pub new-less : (es : List (WaitKeyImpl × SubjectImpl)) (e : WaitKeyImpl × SubjectImpl)
    (old new : FinMap wait_cmp Subject) → AreNew (es ++ e ∷ []) old new
    → AreNew es old (set new (wait_key_of e.0) None)
new-less [] e old new put =
    ap (λ m. set m (wait_key_of e.0) None) put.1
    ∙ ap (set (set old (wait_key_of e.0) (Some (subject_of e.1))) (wait_key_of e.0)) (sym put.0)
    ∙ set-back wait_total wait_exact old (wait_key_of e.0) (Some (subject_of e.1))
new-less (d ∷ ds) e old new put = (put.0, new-less ds e _ new put.1)

-- The downloads are those of the changes.
pub new-rows : (es : List (WaitKeyImpl × SubjectImpl)) (old new : FinMap wait_cmp Subject)
    → AreNew es old new → (k : WaitKey) → get new k ≡ put_rows same_wait
    (map (λ e. (wait_key_of e.0, subject_of e.1)) es) k (get old k)
new-rows [] old new same k = ap (λ m. get m k) same
new-rows (e ∷ es) old new put k =
    new-rows es (set old (wait_key_of e.0) (Some (subject_of e.1))) new put.1 k
    ∙ ap (put_rows same_wait (map (λ x. (wait_key_of x.0, subject_of x.1)) es) k)
    (set_wait old (wait_key_of e.0) (Some (subject_of e.1)) k)
