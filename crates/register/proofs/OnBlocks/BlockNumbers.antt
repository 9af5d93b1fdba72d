-- The numbers of a block that a store lists are those of the state.
use Rattle.std.proofs.Common.{◌≡◌, ℕ, ◌<◌, inl, inr, Bool, true, false, not, ◌&&◌, List, length, map, Option, Some, None, refl, ap, sym, ◌∙◌, subst, arith}
use Rattle.std.specs.Prelude.{◌==◌, ◌⊎◌, filter, is_some, is_none}
use Rattle.std.specs.List.{list_any}
use Rattle.numbers.specs.Digits.{block_of, number_in}
use Rattle.numbers.specs.Subjects.{Subject, Number, Block, subject_eq, subject_key}
use Rattle.version.specs.declared.in_use.NumberInUse.{NumberInUse}
use Rattle.model.specs.Versions.{Version, in_force, is_open, version_in_force, version_with}
use Rattle.model.specs.Laws.{IsReachable}
use Rattle.model.specs.State.{State, SubjectVersion, InForce, record_now, all_versions, all_in_force, set_now, made_now}
use Rattle.model.specs.Refusals.{is_in_block, has_open_port as has_open_port_in}
use Rattle.model.specs.Content.{Content, VersionRow, row_of, subject_if}
use Rattle.numbers.proofs.Small.{and_first, and_second, same_number, or_right, true_both, some_there, equal_number, negated, same_truth, is_none_there}
use Rattle.model.proofs.Lists.{Among, any_there, there_any, contains-among, mapped-from, mapped-to, filtered-from, filtered-to, found-among}
use Rattle.model.proofs.Ascending as ascending
use Rattle.model.proofs.Entered.{sound_now, subject_eq-refl}
use Rattle.model.proofs.Ids.{same_subject}
use Rattle.model.proofs.Listed.{rows_rise, row_is, row_there as row_listed}
use Rattle.model.proofs.Copies.Queue.{found_by_id, is_listed, listed-from}
use Rattle.settle.specs.Reads.{AreInBlock, IsInBlock, Reflects, HasRowInForce, HasOpenRow}
use Rattle.settle.specs.Settling.{IsSettled}
use Rattle.settle.proofs.KeptRows.{row_there}
use Rattle.settle.proofs.Passing.{sound_open}
use Rattle.pool.specs.Blocks.{NumbersMatch}
use Rattle.pool.specs.Donations.{unnamed}
use Rattle.pool.specs.Facts.{has_open_port, in_force_numbers, is_open_port}
use Rattle.register.specs.Refinement.{Refines}
use Rattle.register.specs.Settling.{is_of_block}
use Rattle.register.proofs.Asking.Alone.{row_is_held, one_in_force}
use Rattle.settle.proofs.Among.{all-among}
use Rattle.register.proofs.OnBlocks.ForceCounted.{filtered-rise, rekeyed-rise, passing_rows, length-rows}

-- ---- keys of numbers

told_is : {So : Type 0} (b : Bool) → Reflects b So → b ≡ true → So
told_is true told e = told
told_is false told e = cc

told_not : {So : Type 0} (b : Bool) → Reflects b So → b ≡ false → So → ⊥
told_not false told e = told
told_not true told e = cc

is_told : {So : Type 0} (b : Bool) → Reflects b So → So → b ≡ true
is_told true told so = refl
is_told false told so = absurd (told so)

not_told : {So : Type 0} (b : Bool) → Reflects b So → (So → ⊥) → b ≡ false
not_told false told never = refl
not_told true told never = absurd (never told)

not_is : (b : Bool) → b ≡ false → not b ≡ true
not_is b e = ap not e

-- A greater number has a greater key.
grows : (n m : ℕ) → n < m → subject_key (Number n) < subject_key (Number m)
grows n m less = omega (arith, less)

pub in_this_block : (block line : ℕ) → line < 1000 → block_of (number_in block line) ≡ block
in_this_block block line small = omega (arith, small)

module _ (st : State) (c : Content) (refines : Refines c st) where
  -- ---- a subject

  module _ (s : Subject) (due : IsSettled c st s) where
    pub holds-force : HasRowInForce c s → (v : Version)
        × (version_in_force (record_now st s) ≡ Some v)
    holds-force held =
        let is = row_is_held st c refines s due (λ t v. in_force v)
        (λ (row : VersionRow). row.holds)
        (λ t v. refl) (one_in_force st c refines s) held.0 held.1 held.2 held.3 in
        (is.0, is.1)

    pub force-holds : (v : Version) → version_in_force (record_now st s) ≡ Some v
        → HasRowInForce c s
    force-holds v found =
        let among = found-among in_force (record_now st s).versions v found in (
          v.id,
          row_of s v,
          row_there (set_now st) s c (record_now st s) due.rows_match v.id v
              (found_by_id st refines.represents.history s v among.0),
          ap (λ b. subject_if b s) among.1,
        )

    pub opens-open : HasOpenRow c s → (v : Version) × Among v (record_now st s).versions
        × (is_open s v ≡ true)
    opens-open opened =
        let is = row_is_held st c refines s due (λ t v. is_open t v)
        (λ (row : VersionRow). row.opens) (λ t v. refl) (sound_open s (record_now st s).versions
        (sound_now st refines.represents.history s))
        opened.0 opened.1 opened.2 opened.3 in
        let among = found-among (is_open s) (record_now st s).versions is.0 is.1 in
        (is.0, among.0, among.1)

    pub open-opens : (id : ℕ) (v : Version) → version_with id (record_now st s) ≡ Some v
        → is_open s v ≡ true → HasOpenRow c s
    open-opens id v found passes = (
      id,
      row_of s v,
      row_there (set_now st) s c (record_now st s) due.rows_match id v found,
      ap (λ b. subject_if b s) passes,
    )

    none-force : (HasRowInForce c s → ⊥) → is_none (version_in_force (record_now st s)) ≡ true
    none-force never = by_cases (version_in_force (record_now st s)) refl
      where
        by_cases : (o : Option Version) → version_in_force (record_now st s) ≡ o → is_none o ≡ true
        by_cases None e = refl
        by_cases (Some v) e = absurd (never (force-holds v e))

    force-none : is_none (version_in_force (record_now st s)) ≡ true → HasRowInForce c s → ⊥
    force-none none held =
        let v = holds-force held in
        let never : None ≡ Some v.0 = sym (is_none_there (version_in_force (record_now st s)) none)
        ∙ v.1 in cc

  -- ---- the numbers of a block

  module _ (block : ℕ) (settled : (s : Subject) → is_of_block block st s ≡ true
      → IsSettled c st s) (numbers : List NumberInUse) (are : AreInBlock c block numbers) where
    number_settled : (n : ℕ) → block_of n ≡ block → IsSettled c st (Number n)
    number_settled n own =
        settled (Number n) (or_right (subject_eq (Number n) (Block block))
        (is_in_block block (Number n)) (ap (λ b. b == block) own ∙ same_number block))

    its : (x : NumberInUse) → Among x numbers → IsInBlock c block x
    its x there = all-among (IsInBlock c block) numbers are.only x there

    -- A number with a version in force or an open one is listed.
    the_number : (n : ℕ) → block_of n ≡ block → HasRowInForce c (Number n) ⊎ HasOpenRow c (Number n)
        → (x : NumberInUse) × Among x numbers × (x.tn.number ≡ n)
    the_number n own stood = let x = are.each n own stood in
        (x.0, contains-among numbers x.0 x.1, x.2)

    -- ---- numbers that are being ported

    abbrev is_port : SubjectVersion → Bool
    is_port e = is_in_block block e.subject && is_open e.subject e.version && is_none
        (version_in_force (record_now st e.subject))

    ported : has_open_port numbers ≡ true → list_any is_port (all_versions st) ≡ true
    ported has =
        let x = any_there is_open_port numbers has in
        let s : Subject = Number x.0.tn.number in
        let is = its x.0 x.1 in
        let due : IsSettled c st s = number_settled x.0.tn.number is.own in
        let opened : x.0.is_open ≡ true = and_first x.0.is_open (not x.0.is_in_force) x.2 in
        let free : x.0.is_in_force ≡ false =
        negated x.0.is_in_force (and_second x.0.is_open (not x.0.is_in_force) x.2) in
        let v = opens-open s due (told_is x.0.is_open is.is_open opened) in
        let none : is_none (version_in_force (record_now st s)) ≡ true =
        none-force s due (told_not x.0.is_in_force is.is_in_force free) in
        let inside : is_in_block block s ≡ true = ap (λ b. b == block) is.own ∙ same_number block in
        there_any is_port (record { subject = s; version = v.0 }) (all_versions st)
        (is_listed st refines.represents.history s v.0 v.1)
        (true_both (is_in_block block s && is_open s v.0)
        (is_none (version_in_force (record_now st s))) (true_both (is_in_block block s)
        (is_open s v.0) inside v.2) none)

    open_number : (n : ℕ) (id : ℕ) (v : Version) → version_with id (record_now st (Number n))
        ≡ Some v →
        (is_in_block block (Number n) && is_open (Number n) v && is_none
        (version_in_force (record_now st (Number n)))) ≡ true → has_open_port numbers ≡ true
    open_number n id v found test =
        let first =
        and_first (is_in_block block (Number n) && is_open (Number n) v)
        (is_none (version_in_force (record_now st (Number n)))) test in
        let none = and_second (is_in_block block (Number n) && is_open (Number n) v)
        (is_none (version_in_force (record_now st (Number n)))) test in
        let inside = and_first (is_in_block block (Number n)) (is_open (Number n) v) first in
        let own : block_of n ≡ block = equal_number (block_of n) block inside in
        let due : IsSettled c st (Number n) = number_settled n own in
        let opens : HasOpenRow c (Number n) =
        open-opens (Number n) due id v found (and_second (is_in_block block (Number n))
        (is_open (Number n) v) first) in
        let free : HasRowInForce c (Number n) → ⊥ = force-none (Number n) due none in
        let x = the_number n own (inr opens) in
        let is = its x.0 x.1 in
        there_any is_open_port x.0 numbers x.1 (true_both x.0.is_open (not x.0.is_in_force)
        (is_told x.0.is_open is.is_open (subst (λ k. HasOpenRow c (Number k)) (sym x.2) opens))
        (not_is x.0.is_in_force (not_told x.0.is_in_force is.is_in_force
        (λ held. free (subst (λ k. HasRowInForce c (Number k)) x.2 held)))))

    ports_back : list_any is_port (all_versions st) ≡ true → has_open_port numbers ≡ true
    ports_back has =
        let e = any_there is_port (all_versions st) has in
        let found = listed-from (record_now st) 1 (made_now st) e.0 e.1 in
        by_cases e.0.subject e.0.version found.0 found.1 e.2
      where
        by_cases : (s : Subject) (v : Version) (id : ℕ) → version_with id (record_now st s) ≡ Some v
            →
            (is_in_block block s && is_open s v && is_none (version_in_force (record_now st s)))
            ≡ true → has_open_port numbers ≡ true
        by_cases (Number n) v id found test = open_number n id v found test
        by_cases (Block b) v id found test = cc

    pub ports_are : has_open_port numbers ≡ has_open_port_in st block
    ports_are = same_truth (has_open_port numbers) (has_open_port_in st block) ported
        ports_back

    -- ---- numbers with a version in force

    abbrev is_held : NumberInUse → Bool
    is_held x = x.is_in_force

    abbrev its_subject : NumberInUse → Subject
    its_subject x = Number x.tn.number

    -- A subject listed as in force.
    told_force : (s : Subject) → Among s (in_force_numbers numbers) → (x : NumberInUse)
        × (s ≡ Number x.tn.number) × (block_of x.tn.number ≡ block)
        × HasRowInForce c (Number x.tn.number)
    told_force s there =
        let x = mapped-from its_subject (filter is_held numbers) s there in
        let inner = filtered-from is_held numbers x.0 x.1 in (
          x.0,
          x.2,
          (its x.0 inner.0).own,
          told_is x.0.is_in_force (its x.0 inner.0).is_in_force inner.1,
        )

    force_told : (n : ℕ) → block_of n ≡ block → HasRowInForce c (Number n)
        → Among (Number n) (in_force_numbers numbers)
    force_told n own held =
        let x = the_number n own (inl held) in
        let told : x.0.is_in_force ≡ true =
        is_told x.0.is_in_force (its x.0 x.1).is_in_force (subst (λ k. HasRowInForce c (Number k))
        (sym x.2)
        held) in
        subst (λ k. Among (Number k) (in_force_numbers numbers)) x.2
        (mapped-to its_subject (filter is_held numbers) x.0 (filtered-to is_held numbers x.0 x.1
        told))

    line_told : (n : ℕ) → block_of n ≡ block
        → list_any (subject_eq (Number n)) (in_force_numbers numbers) ≡ true
        → is_some (version_in_force (record_now st (Number n))) ≡ true
    line_told n own has =
        let s = any_there (subject_eq (Number n)) (in_force_numbers numbers) has in
        let x = told_force s.0 s.1 in
        let same : s.0 ≡ Number n = same_subject (Number n) s.0 s.2 in
        let held : HasRowInForce c (Number n) = subst (HasRowInForce c) (sym x.1 ∙ same) x.3 in
        let v = holds-force (Number n) (number_settled n own) held in
        ap is_some v.1

    line_back : (n : ℕ) → block_of n ≡ block → is_some (version_in_force (record_now st (Number n)))
        ≡ true → list_any (subject_eq (Number n)) (in_force_numbers numbers) ≡ true
    line_back n own has =
        let v = some_there (version_in_force (record_now st (Number n))) has in
        there_any (subject_eq (Number n)) (Number n) (in_force_numbers numbers)
        (force_told n own (force-holds (Number n) (number_settled n own) v.0 v.1))
        (subject_eq-refl (Number n))

    lines_are : (line : ℕ) → line < 1000 →
        list_any (subject_eq (Number (number_in block line))) (in_force_numbers numbers)
        ≡ is_some (version_in_force (record_now st (Number (number_in block line))))
    lines_are line small =
        let own : block_of (number_in block line) ≡ block = in_this_block block line small in
        same_truth (list_any (subject_eq (Number (number_in block line)))
        (in_force_numbers numbers))
        (is_some (version_in_force (record_now st (Number (number_in block line)))))
        (line_told (number_in block line) own) (line_back (number_in block line) own)

    -- ---- equally many beside the named ones

    module _ (used : List Subject) where
      abbrev is_other : Subject → Bool
      is_other s = not (list_any (subject_eq s) used)

      abbrev is_other_inside : Subject → Bool
      is_other_inside s = is_in_block block s && is_other s

      is : IsReachable st
      is = record { windows = refines.represents.windows; history = refines.represents.history }

      numbers_rise : ascending.Rise subject_key (in_force_numbers numbers)
      numbers_rise =
          ascending.mapped-rise subject_key its_subject (filter is_held numbers)
          (filtered-rise (λ x. subject_key (its_subject x)) is_held numbers
          (rekeyed-rise (λ x. x.tn.number) (λ x. subject_key (its_subject x))
          (λ x y less. grows x.tn.number y.tn.number less) numbers
          (ascending.sorted-rise (λ (x : NumberInUse). x.tn.number) numbers are.rises)))

      subjects_rise : ascending.Rise subject_key (map (λ (r : InForce). r.subject)
          (all_in_force st))
      subjects_rise =
          ascending.mapped-rise subject_key (λ (r : InForce). r.subject) (all_in_force st)
          (rows_rise st is)

      there : (s : Subject) → Among s (unnamed used (in_force_numbers numbers))
          → Among s (passing_rows is_other_inside (all_in_force st))
      there s listed =
          let inner = filtered-from is_other (in_force_numbers numbers) s listed in
          let x = told_force s inner.0 in
          let v = holds-force (Number x.0.tn.number) (number_settled x.0.tn.number x.2) x.3 in
          let row = mapped-to (λ (r : InForce). r.subject) (all_in_force st) (record {
            subject = Number x.0.tn.number;
            routing = v.0.routing;
          }) (row_listed st is (Number x.0.tn.number) v.0 v.1) in
          let inside : is_in_block block s ≡ true =
          ap (is_in_block block) x.1 ∙ ap (λ b. b == block) x.2 ∙ same_number block in
          filtered-to is_other_inside (map (λ (r : InForce). r.subject) (all_in_force st)) s
          (subst (λ t. Among t (map (λ (r : InForce). r.subject) (all_in_force st))) (sym x.1) row)
          (true_both (is_in_block block s) (is_other s) inside inner.1)

      back : (s : Subject) → Among s (passing_rows is_other_inside (all_in_force st))
          → Among s (unnamed used (in_force_numbers numbers))
      back s listed =
          let inner =
          filtered-from is_other_inside (map (λ (r : InForce). r.subject) (all_in_force st)) s
          listed in
          let r = mapped-from (λ (r : InForce). r.subject) (all_in_force st) s inner.0 in
          let row = row_is st is r.0 r.1 in
          let stood : version_in_force (record_now st s) ≡ Some row.version =
          ap (λ t. version_in_force (record_now st t)) r.2 ∙ row.stands in
          filtered-to is_other (in_force_numbers numbers) s
          (by_cases s row.version stood (and_first (is_in_block block s) (is_other s) inner.1))
          (and_second (is_in_block block s) (is_other s) inner.1)
        where
          by_cases : (t : Subject) (v : Version) → version_in_force (record_now st t) ≡ Some v
              → is_in_block block t ≡ true → Among t (in_force_numbers numbers)
          by_cases (Block b) v found inside = cc
          by_cases (Number n) v found inside =
              let own : block_of n ≡ block = equal_number (block_of n) block inside in
              force_told n own (force-holds (Number n) (number_settled n own) v found)

      others_are : length (unnamed used (in_force_numbers numbers))
          ≡ length (filter (λ s. is_in_block block s && not (list_any (subject_eq s) used))
          (map (λ (e : SubjectVersion). e.subject) (filter (λ e. in_force e.version)
          (all_versions st))))
      others_are =
          ap length (ascending.same_rising subject_key (unnamed used (in_force_numbers numbers))
          (passing_rows is_other_inside (all_in_force st))
          (filtered-rise subject_key is_other (in_force_numbers numbers) numbers_rise)
          (filtered-rise subject_key is_other_inside (map (λ (r : InForce). r.subject)
          (all_in_force st)) subjects_rise) there back)
          ∙ sym (length-rows is_other_inside (all_versions st))

    pub numbers_are : NumbersMatch st block numbers
    numbers_are = record { lines = lines_are; others = others_are }
