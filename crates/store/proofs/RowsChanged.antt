-- One broadcast's row changed: the downloads after it, and the agreement of the index by subjects.
use Rattle.std.proofs.Common.{◌≡◌, ℕ, Bool, true, false, cond, Option, Some, None, refl, ap, sym, ◌∙◌, ◌&&◌}
use Rattle.std.specs.Prelude.{◌==◌, option_map}
use Rattle.std.specs.Ordering.{eq_by_cmp}
use Rattle.std.specs.FinMap.{FinMap, get, same_map}
use Rattle.numbers.specs.Subjects.{Subject, subject_key}
use Rattle.numbers.proofs.SubjectKeys.{subject_key-exact}
use Rattle.model.specs.Content.{WaitKey}
use Rattle.store.specs.Maps.{set}
use Rattle.store.specs.WaitRows.{Download, download_cmp, download_of, Waiting, waits_of, awaited, Index, AreAbout, AboutIsNeeded}
use Rattle.store.specs.About.{IsKey, IsSameIndex}
use Rattle.store.proofs.Maps.{get-set}
use Rattle.model.proofs.KeyOrders.{wait_total, wait_exact}
use Rattle.store.proofs.RowsFlat.{download_exact, wait-ties, get-waits_of}
use Rattle.numbers.proofs.Small.{impossible, tied, numbers_turned, equal_number, number_equal, true_both, and_second, false_first, false_second}

-- Holds if only the broadcast's row changes, to `w`.
abbrev pub IsRow : FinMap download_cmp Waiting → FinMap download_cmp Waiting → Download
    → Option Waiting → Type 0
IsRow old new d w = (q : Download) → get new q ≡ cond (eq_by_cmp download_cmp d q) w (get old q)

-- If the row changes for one carrier only, one download is set.
pub row-changed : (old new : FinMap download_cmp Waiting) (k : WaitKey) (w : Option Waiting)
    (v : Option Subject) → IsRow old new (download_of k) w →
    ((c : ℕ) → awaited w c ≡ cond (c == k.carrier) v (awaited (get old (download_of k)) c))
    → waits_of new ≡ set (waits_of old) k v
row-changed old new k w v row each =
    same_map wait_total wait_exact (waits_of new) (set (waits_of old) k v) (λ q.
    get-waits_of new q ∙ ap (λ o. awaited o q.carrier) (row (download_of q))
    ∙ by_cases q (eq_by_cmp download_cmp (download_of k) (download_of q)) refl
    ∙ (λ i. cond (sym (wait-ties k (download_of q) q.carrier) i) v (sym (get-waits_of old q) i))
    ∙ sym (get-set wait_total wait_exact (waits_of old) k v q))
  where
    by_cases : (q : WaitKey) (b : Bool) → eq_by_cmp download_cmp (download_of k) (download_of q) ≡ b
        →
        awaited (cond b w (get old (download_of q))) q.carrier
        ≡ cond ((k.carrier == q.carrier) && b) v (awaited (get old (download_of q)) q.carrier)
    by_cases q true t =
        let d : download_of k ≡ download_of q =
        download_exact (download_of k) (download_of q) (tied _ t) in
        each q.carrier
        ∙ (λ i. cond (numbers_turned q.carrier k.carrier i) v (awaited (get old (d i)) q.carrier))
        ∙ last (k.carrier == q.carrier) (awaited (get old (download_of q)) q.carrier)
      where
        last : (b : Bool) (x : Option Subject) → cond b v x ≡ cond (b && true) v x
        last true x = refl
        last false x = refl
    by_cases q false t = rest (k.carrier == q.carrier) (awaited (get old (download_of q)) q.carrier)
      where
        rest : (b : Bool) (x : Option Subject) → x ≡ cond (b && false) v x
        rest true x = refl
        rest false x = refl

-- If the row does not change, neither do the downloads.
pub row-same : (old new : FinMap download_cmp Waiting) (d : Download) (w : Option Waiting)
    → IsRow old new d w → w ≡ get old d → waits_of new ≡ waits_of old
row-same old new d w row same = same_map wait_total wait_exact (waits_of new) (waits_of old) (λ q.
    get-waits_of new q ∙ ap (λ o. awaited o q.carrier) (row (download_of q)
    ∙ by_cases q (eq_by_cmp download_cmp d (download_of q)) refl) ∙ sym (get-waits_of old q))
  where
    by_cases : (q : WaitKey) (b : Bool) → eq_by_cmp download_cmp d (download_of q) ≡ b
        → cond b w (get old (download_of q)) ≡ get old (download_of q)
    by_cases q true t = same ∙ ap (get old) (download_exact d (download_of q) (tied _ t))
    by_cases q false t = refl

-- ---- the index

-- Holds if the index agrees with the rows.
abbrev pub Agrees : FinMap download_cmp Waiting → Index → Type 0
Agrees rows about = AreAbout rows about × AboutIsNeeded rows about

-- The agreement stays while the index has the same broadcasts.
pub agrees-same : (rows : FinMap download_cmp Waiting) (about next : Index) → IsSameIndex about next
    → Agrees rows about → Agrees rows next
agrees-same rows about next same agrees = (
  λ q w at. same w.0 q ∙ agrees.0 q w at,
  λ s q has. agrees.1 s q (sym (same s q) ∙ has),
)

-- The agreement stays when a row changes and its subject stays.
pub agrees-kept : (old new : FinMap download_cmp Waiting) (about : Index) (d : Download)
    (was now : Waiting) → IsRow old new d (Some now) → get old d ≡ Some was → now.0 ≡ was.0
    → Agrees old about → Agrees new about
agrees-kept old new about d was now row there same agrees = (
  λ q w at. first q w (eq_by_cmp download_cmp d q) refl (sym (row q) ∙ at),
  λ s q has. ap (option_map (λ (x : Waiting). x.0)) (row q)
      ∙ second q (eq_by_cmp download_cmp d q) refl ∙ agrees.1 s q has,
)
  where
    first : (q : Download) (w : Waiting) (b : Bool) → eq_by_cmp download_cmp d q ≡ b
        → cond b (Some now) (get old q) ≡ Some w → about w.0 q ≡ true
    first q w true t at =
        let own : now ≡ w = (let f : Some now ≡ Some w = at in cc) in
        ap (λ s. about s q) (sym (ap (λ (x : Waiting). x.0) own) ∙ same)
        ∙ agrees.0 q was (ap (get old) (sym (download_exact d q (tied _ t))) ∙ there)
    first q w false t at = agrees.0 q w at

    second : (q : Download) (b : Bool) → eq_by_cmp download_cmp d q ≡ b
        → option_map (λ (x : Waiting). x.0) (cond b (Some now) (get old q))
        ≡ option_map (λ (x : Waiting). x.0) (get old q)
    second q true t = ap (λ s. Some s) same ∙ ap (option_map (λ (x : Waiting). x.0)) (sym there
        ∙ ap (get old) (download_exact d q (tied _ t)))
    second q false t = refl

module _ (rows : FinMap download_cmp Waiting) (about next : Index) (d : Download)
    (agrees : Agrees rows about) where
  -- Another broadcast is in the index as before.
  apart : (s t : Subject) (q : Download) (b : Bool) → IsKey about next s d b
      → eq_by_cmp download_cmp d q ≡ false → next t q ≡ about t q
  apart s t q b key other = key t q
      ∙ ap (λ x. cond x b (about t q)) (false_second (subject_key s == subject_key t) _ other)

  -- The agreement stays when a row and its key are added.
  pub agrees-new : (new : FinMap download_cmp Waiting) (now : Waiting) → IsRow rows new d (Some now)
      → get rows d ≡ None → IsKey about next now.0 d true → Agrees new next
  agrees-new new now row none key = (
    λ q w at. first q w (eq_by_cmp download_cmp d q) refl (sym (row q) ∙ at),
    λ s q has. ap (option_map (λ (x : Waiting). x.0)) (row q)
        ∙ second s q (eq_by_cmp download_cmp d q) refl (subject_key now.0 == subject_key s) refl
        has,
  )
    where
      first : (q : Download) (w : Waiting) (b : Bool) → eq_by_cmp download_cmp d q ≡ b
          → cond b (Some now) (get rows q) ≡ Some w → next w.0 q ≡ true
      first q w true t at =
          let own : now ≡ w = (let f : Some now ≡ Some w = at in cc) in
          key w.0 q ∙ ap (λ x. cond x true (about w.0 q))
          (true_both _ _ (number_equal (subject_key now.0) (subject_key w.0)
          (ap (λ (x : Waiting). subject_key x.0) own)) t)
      first q w false t at = apart now.0 w.0 q true key t ∙ agrees.0 q w at

      second : (s : Subject) (q : Download) (b : Bool) → eq_by_cmp download_cmp d q ≡ b → (x : Bool)
          → (subject_key now.0 == subject_key s) ≡ x → next s q ≡ true
          → option_map (λ (w : Waiting). w.0) (cond b (Some now) (get rows q)) ≡ Some s
      second s q true t true e has =
          ap (λ y. Some y) (subject_key-exact now.0 s (equal_number _ _ e))
      second s q true t false e has =
          let f : None ≡ Some s =
          ap (option_map (λ (w : Waiting). w.0)) (sym none ∙ ap (get rows) (download_exact d q
          (tied _ t)))
          ∙ agrees.1 s q (sym (key s q ∙ ap (λ y. cond y true (about s q))
          (false_first _ _ e)) ∙ has) in
          cc
      second s q false t x e has = agrees.1 s q (sym (apart now.0 s q true key t) ∙ has)

  -- The agreement stays when a row and its key are deleted.
  pub agrees-gone : (new : FinMap download_cmp Waiting) (was : Waiting) → IsRow rows new d None
      → get rows d ≡ Some was → IsKey about next was.0 d false → Agrees new next
  agrees-gone new was row there key = (
    λ q w at. first q w (eq_by_cmp download_cmp d q) refl (sym (row q) ∙ at),
    λ s q has. ap (option_map (λ (x : Waiting). x.0)) (row q)
        ∙ second s q (eq_by_cmp download_cmp d q) refl (subject_key was.0 == subject_key s) refl
        has,
  )
    where
      first : (q : Download) (w : Waiting) (b : Bool) → eq_by_cmp download_cmp d q ≡ b
          → cond b None (get rows q) ≡ Some w → next w.0 q ≡ true
      first q w true t at = let f : None ≡ Some w = at in cc
      first q w false t at = apart was.0 w.0 q false key t ∙ agrees.0 q w at

      second : (s : Subject) (q : Download) (b : Bool) → eq_by_cmp download_cmp d q ≡ b → (x : Bool)
          → (subject_key was.0 == subject_key s) ≡ x → next s q ≡ true
          → option_map (λ (w : Waiting). w.0) (cond b None (get rows q)) ≡ Some s
      second s q true t true e has =
          impossible (sym has ∙ key s q ∙ ap (λ y. cond y false (about s q)) (true_both _ _ e t))
      second s q true t false e has =
          let f : Some was.0 ≡ Some s =
          ap (option_map (λ (w : Waiting). w.0)) (sym there ∙ ap (get rows) (download_exact d q
          (tied _ t)))
          ∙ agrees.1 s q (sym (key s q ∙ ap (λ y. cond y false (about s q))
          (false_first _ _ e)) ∙ has) in
          let same : was.0 ≡ s = cc in
          impossible (sym (number_equal _ _ (ap subject_key same)) ∙ e)
      second s q false t x e has = agrees.1 s q (sym (apart was.0 s q false key t) ∙ has)

-- The agreement stays when a key without a row is added and deleted.
pub agrees-back : (rows : FinMap download_cmp Waiting) (about mid next : Index) (d : Download)
    (s : Subject) → get rows d ≡ None → IsKey about mid s d true → IsKey mid next s d false
    → Agrees rows about → Agrees rows next
agrees-back rows about mid next d s none put taken agrees =
    agrees-same rows about next (λ t q. by_cases t q
    ((subject_key s == subject_key t) && eq_by_cmp download_cmp d q) refl (about t q) refl) agrees
  where
    by_cases : (t : Subject) (q : Download) (b : Bool)
        → ((subject_key s == subject_key t) && eq_by_cmp download_cmp d q) ≡ b → (x : Bool)
        → about t q ≡ x → next t q ≡ about t q
    by_cases t q false e x at =
        taken t q ∙ ap (λ y. cond y false (mid t q)) e ∙ put t q
        ∙ ap (λ y. cond y true (about t q)) e
    by_cases t q true e false at =
        taken t q ∙ ap (λ y. cond y false (mid t q)) e ∙ sym at
    by_cases t q true e true at =
        let f : None ≡ Some t =
        ap (option_map (λ (w : Waiting). w.0)) (sym none ∙ ap (get rows) (download_exact d q
        (tied (download_cmp d q) (and_second (subject_key s == subject_key t)
        (eq_by_cmp download_cmp d q) e)))) ∙ agrees.1 t q at in
        cc
