-- Versions that begin to send as they are made: the rows that match them.
use Rattle.std.proofs.Common.{◌≡◌, ◌≤◌, ℕ, suc, ◌+◌, Bool, true, false, cond, not, ◌&&◌, List, [], ◌∷◌, map, Some, None, refl, ap, sym, ◌∙◌, subst, arith}
use Rattle.std.specs.Prelude.{⊤, ◌==◌, find, if◌then◌else◌}
use Rattle.std.specs.List.{list_any}
use Rattle.std.specs.FinMap.{get}
use Rattle.std.proofs.lemmas.Bool.Decides.{nat_tests}
use Rattle.numbers.specs.Subjects.{Subject, subject_eq}
use Rattle.model.specs.Statuses.{Create}
use Rattle.model.specs.Windows.{WindowSet}
use Rattle.model.specs.Versions.{Version, Record, in_force, is_among, version_with}
use Rattle.model.specs.Changes.{next_attempt, of_id, routing_sent}
use Rattle.model.specs.Concerns.{has_id}
use Rattle.model.specs.Content.{Content, RowsMatch, row_of}
use Rattle.model.specs.History.{id_among, with_made}
use Rattle.model.proofs.Entered.{none_with}
use Rattle.model.proofs.Ids.{other_subject, same_subject}
use Rattle.model.proofs.Represented.{same_rows_show}
use Rattle.numbers.proofs.Small.{or_first, or_second, same_number}
use Rattle.settle.specs.Changes.{AppliesChanges}
use Rattle.settle.specs.Sending.{SendingVersion, version_changes, send_changes}
use Rattle.settle.proofs.Applied.{applied, applied_puts, sending_one, sent_in_turn, one_changed}
use Rattle.settle.proofs.Aside.{stays_aside}
use Rattle.register.proofs.OnVersions.FirstCreate.{made-shows}
use Rattle.register.proofs.Records.Sent.{send_changes-are}
use Rattle.register.proofs.Records.Stepped.{stepped-shows}

-- ---- one version

-- If no version has the id, a change of it leaves all.
others_left : (id : ℕ) (f : Version → Version) (vs : List Version) → has_id id vs ≡ false
    → map (of_id id f) vs ≡ vs
others_left id f [] none = refl
others_left id f (v ∷ vs) none =
    ap (λ b. (if b then f v else v) ∷ map (of_id id f) vs) (or_first (v.id == id) (has_id id vs)
    none) ∙ ap (λ us. v ∷ us) (others_left id f vs (or_second (v.id == id) (has_id id vs) none))

module _ (w : WindowSet) (s : Subject) (now id : ℕ) (blank : Version) (all_carriers : List ℕ)
    (r : Record) (old new : Content)
    (is_id : blank.id ≡ id) (unsent : blank.broadcasts ≡ []) (quiet_before : in_force blank ≡ false)
    (free : version_with id r ≡ None) (shows : RowsMatch old s r)
    (agree : (k : ℕ) → is_among k all_carriers ≡ is_among k r.carriers)
    (changed : AppliesChanges (send_changes id now Create s (next_attempt w Create r.carriers now
    blank)
    (routing_sent Create (next_attempt w Create r.carriers now blank)) all_carriers) old new) where
  -- The content as if the version were written before it is sent.
  abbrev between : Content
  between = applied (version_changes id s blank None) old

  put_before : AppliesChanges (version_changes id s blank None) old between
  put_before =
      let puts = applied_puts (version_changes id s blank None) old in
      record {
        carriers = λ k. refl;
        lrns = λ k. refl;
        codes = λ k. refl;
        blocks = λ k. refl;
        sets = λ k. refl;
        versions = puts.versions;
        broadcasts = puts.broadcasts;
        waits = puts.waits;
        clock = refl;
      }

  over : {A : Type 0} (b : Bool) (x y z : A) → (if b then x else z) ≡ (if b then x
      else (if b then y else z))
  over true x y z = refl
  over false x y z = refl

  sent_then : AppliesChanges (send_changes id now Create s (next_attempt w Create r.carriers now
      blank)
      (routing_sent Create (next_attempt w Create r.carriers now blank)) all_carriers) between new
  sent_then = record {
    carriers = changed.carriers;
    lrns = changed.lrns;
    codes = changed.codes;
    blocks = changed.blocks;
    sets = changed.sets;
    versions = λ k. changed.versions k
        ∙ over (id == k) (Some (row_of s (next_attempt w Create r.carriers now blank)))
        (Some (row_of s blank)) (get old.versions k)
        ∙ sym (ap (λ o. if id == k then Some (row_of s (next_attempt w Create r.carriers now blank))
        else o) (put_before.versions k));
    broadcasts = changed.broadcasts;
    waits = changed.waits;
    clock = changed.clock;
  }

  keeps_id : (u : Version) → (next_attempt w Create r.carriers now u).id ≡ u.id
  keeps_id u = refl

  pub made_sent-shows : RowsMatch new s (record {
    carriers = r.carriers;
    versions = next_attempt w Create r.carriers now blank ∷ r.versions;
  })
  made_sent-shows =
      subst (λ vs. RowsMatch new s (record { carriers = r.carriers; versions = vs })) whole
      (stepped-shows w s now id (next_attempt w Create r.carriers now) keeps_id all_carriers blank
      (record {
        carriers = r.carriers;
        versions = blank ∷ r.versions;
      }) between new
      (ap (λ b. cond b (Some blank) (version_with id r)) (ap (λ k. k == id) is_id ∙ same_number id))
      (made-shows w s id blank r None old between put_before is_id unsent free shows)
      (Some Create) (refl, ap (λ b. not b && false) quiet_before) sent_then
      (ap (find (λ b. b.attempt == blank.attempt + 1)) unsent) agree)
    where
      whole : map (of_id id (next_attempt w Create r.carriers now)) (blank ∷ r.versions)
          ≡ next_attempt w Create
          r.carriers now blank ∷ r.versions
      whole =
          ap (λ b. (if b then next_attempt w Create r.carriers now blank
          else blank) ∷ map (of_id id (next_attempt w Create r.carriers now)) r.versions)
          (ap (λ k. k == id) is_id ∙ same_number id)
          ∙ ap (λ vs. next_attempt w Create r.carriers now blank ∷ vs)
          (others_left id (next_attempt w Create r.carriers now) r.versions
          (none_with id r.versions free))

-- ---- many versions, one after the other

-- The version without its id and its broadcasts, which its row does not have.
abbrev pub bare : Version → Version
bare v = record v { id = 0; broadcasts = [] }

module _ (w : WindowSet) (now : ℕ) (all_carriers : List ℕ) (blank : ℕ → Version)
    (is_id : (id : ℕ) → (blank id).id ≡ id) (unsent : (id : ℕ) → (blank id).broadcasts ≡ [])
    (quiet_before : (id : ℕ) → in_force (blank id) ≡ false) where
  -- Holds if the versions take ids one after the other, and begin to send as they are made.
  abbrev pub AreBegun : ℕ → List SendingVersion → Type 0
  AreBegun from [] = ⊤
  AreBegun from (b ∷ bs) =
      (b.id ≡ from) × (b.version ≡ bare (next_attempt w Create [] now (blank from)))
      × AreBegun (suc from) bs

  -- Holds if each version is of a subject of its own.
  abbrev pub AreApart : List SendingVersion → Type 0
  AreApart [] = ⊤
  AreApart (b ∷ bs) = (list_any (λ (x : SendingVersion). subject_eq b.subject x.subject) bs ≡ false)
      × AreApart bs

  abbrev begins : Subject → List SendingVersion → Bool
  begins t bs = list_any (λ (x : SendingVersion). subject_eq t x.subject) bs

  changed_as : (b : SendingVersion) (from : ℕ) (cs : List ℕ) (c : Content) → b.id ≡ from
      → b.version ≡ bare (next_attempt w Create [] now (blank from)) →
      AppliesChanges (send_changes from now Create b.subject
      (next_attempt w Create cs now (blank from))
      (routing_sent Create (next_attempt w Create cs now (blank from))) all_carriers) c
      (applied (sending_one w now Create all_carriers b) c)
  changed_as b from cs c is is_version =
      subst (λ (v : Version). AppliesChanges (send_changes from now Create b.subject v
      (routing_sent Create v)
      all_carriers) c (applied (sending_one w now Create all_carriers b) c)) is_version
      (subst (λ k. AppliesChanges (send_changes k now Create b.subject b.version
      (routing_sent Create b.version) all_carriers) c
      (applied (sending_one w now Create all_carriers b) c))
      is
      (one_changed w now Create all_carriers b c))

  -- Versions of other subjects leave the subject's rows.
  one_aside : (b : SendingVersion) (from : ℕ) (c : Content) (t : Subject) (r : Record) → b.id ≡ from
      → subject_eq t b.subject ≡ false → version_with from r ≡ None → RowsMatch c t r
      → RowsMatch (applied (sending_one w now Create all_carriers b) c) t r
  one_aside b from c t r is apart free shows =
      same_rows_show t c (applied (sending_one w now Create all_carriers b) c) r
      (stays_aside c (applied (sending_one w now Create all_carriers b) c)
      (sending_one w now Create all_carriers b) b.subject b.id
      (send_changes-are b.id w now Create b.subject b.version (routing_sent Create b.version)
      all_carriers)
      (one_changed w now Create all_carriers b c) t r shows (other_subject t b.subject apart)
      (ap (λ k. version_with k r) is ∙ free)) shows

  aside : (bs : List SendingVersion) (from : ℕ) (c : Content) (t : Subject) (r : Record)
      → AreBegun from bs
      → begins t bs ≡ false → ((k : ℕ) → from ≤ k → version_with k r ≡ None) →
      RowsMatch c t r → RowsMatch (sent_in_turn w now Create all_carriers bs c) t r
  aside [] from c t r are apart free shows = shows
  aside (b ∷ bs) from c t r are apart free shows =
      aside bs (suc from) (applied (sending_one w now Create all_carriers b) c) t r are.2
      (or_second (subject_eq t b.subject) (begins t bs) apart) (λ k above. free k (omega arith))
      (one_aside b from c t r are.0 (or_first (subject_eq t b.subject) (begins t bs) apart)
      (free from (omega arith)) shows)

  -- The subject's own version is its newest.
  pub each_shown : (bs : List SendingVersion) (from : ℕ) (c : Content) (t : Subject) (r : Record)
      → AreBegun from bs → AreApart bs → ((k : ℕ) → from ≤ k → version_with k r ≡ None) →
      ((k : ℕ) → is_among k all_carriers ≡ is_among k r.carriers) → RowsMatch c t r →
      RowsMatch (sent_in_turn w now Create all_carriers bs c) t (record {
        carriers = r.carriers;
        versions = with_made (id_among t from (map (λ (b : SendingVersion). b.subject) bs))
            (λ id. next_attempt w Create r.carriers now (blank id)) r.versions;
      })
  each_shown [] from c t r are apart free agree shows = shows
  each_shown (b ∷ bs) from c t r are apart free agree shows =
      by_cases (subject_eq t b.subject) refl
      (each_shown bs (suc from) (applied (sending_one w now Create all_carriers b) c) t r are.2
      apart.1
      (λ k above. free k (omega arith)) agree)
    where
      own : b.subject ≡ t → RowsMatch (applied (sending_one w now Create all_carriers b) c) t
          (record {
            carriers = r.carriers;
            versions = next_attempt w Create r.carriers now (blank from) ∷ r.versions;
          })
      own same = made_sent-shows w t now from (blank from) all_carriers r c
          (applied (sending_one w now Create all_carriers b) c) (is_id from) (unsent from)
          (quiet_before from) (free from (omega arith)) shows agree
          (subst (λ s. AppliesChanges
          (send_changes from now Create s (next_attempt w Create r.carriers now (blank from))
          (routing_sent Create (next_attempt w Create r.carriers now (blank from))) all_carriers) c
          (applied (sending_one w now Create all_carriers b) c)) same
          (changed_as b from r.carriers c are.0 are.1))

      behind : (k : ℕ) → suc from ≤ k → version_with k (record {
        carriers = r.carriers;
        versions = next_attempt w Create r.carriers now (blank from) ∷ r.versions;
      }) ≡ None
      behind k above =
          let apart_ids : (from == k) ≡ false = grind (arith, nat_tests) in
          ap (λ x. cond x (Some (next_attempt w Create r.carriers now (blank from)))
          (version_with k r))
          (ap (λ j. j == k) (is_id from) ∙ apart_ids) ∙ free k (omega arith)

      by_cases : (x : Bool) → subject_eq t b.subject ≡ x →
          (RowsMatch (applied (sending_one w now Create all_carriers b) c) t r →
          RowsMatch (sent_in_turn w now Create all_carriers bs
          (applied (sending_one w now Create all_carriers b) c)) t (record {
            carriers = r.carriers;
            versions = with_made (id_among t (suc from) (map (λ (y : SendingVersion). y.subject)
                bs))
                (λ id. next_attempt w Create r.carriers now (blank id)) r.versions;
          })) →
          RowsMatch (sent_in_turn w now Create all_carriers bs
          (applied (sending_one w now Create all_carriers b) c)) t
          (record {
            carriers = r.carriers;
            versions = with_made (if x then Some from
                else id_among t (suc from) (map (λ (y : SendingVersion). y.subject) bs))
                (λ id. next_attempt w Create r.carriers now (blank id)) r.versions;
          })
      by_cases true e later =
          aside bs (suc from) (applied (sending_one w now Create all_carriers b) c) t (record {
            carriers = r.carriers;
            versions = next_attempt w Create r.carriers now (blank from) ∷ r.versions;
          }) are.2
          (ap (λ s. begins s bs) (sym (same_subject t b.subject e)) ∙ apart.0) behind
          (own (same_subject t b.subject e))
      by_cases false e later =
          later (one_aside b from c t r are.0 e (free from (omega arith)) shows)
