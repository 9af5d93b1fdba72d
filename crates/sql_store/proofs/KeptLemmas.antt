-- What is kept over a call.
use Rattle.std.proofs.Common.{rules, ◌≡◌, ℕ, List, [], ◌∷◌, map, Bool, ◌||◌, Option, Some, None, IsTrue, true, false, inl, refl, sym, ap, ◌∙◌, subst, arith, ◌<◌}
use Rattle.std.specs.Prelude.{◌==◌, if◌then◌else◌, is_some, nat_le, option_map}
use Rattle.std.specs.Cmp.{nat_cmp_total}
use Rattle.std.specs.FinMap.{get, keys, same_map, nat_cmp-IsAntisymmetric}
use Rattle.std.specs.Global.{Vec}
use Rattle.std.specs.List.{list_any}
use Rattle.std.proofs.lemmas.Bool.Decides.{nat_tests}
use Rattle.sqlite.specs.Effect.{Database}
use Rattle.sqlite.specs.State.{HasCleanDisk, Shows, State}
use Rattle.numbers.specs.declared.minute.Minute.{Minute}
use Rattle.numbers.specs.declared.spid.Spid.{Spid}
use Rattle.numbers.proofs.Small.{impossible, neither, some_is}
use Rattle.model.specs.Content.{Content, VersionRow}
use Rattle.model.specs.Due.{NoRowIsDue}
use Rattle.model.specs.Versions.{is_among}
use Rattle.settle.specs.Abstraction.{clock_row_of, spid_of}
use Rattle.settle.specs.Changes.{AppliesChanges, Changes, clock_after, put_row, put_rows}
use Rattle.settle.specs.Reads.{AreCarriers}
use Rattle.settle.specs.Settling.{has_come}
use Rattle.settle.specs.declared.rows.ClockRow.{ClockRow}
use Rattle.settle.proofs.Among.{among_keys}
use Rattle.sql_rows.specs.Content.{content_in}
use Rattle.sql_store.specs.Kept.{AreAllCarriers, AreKept, IsClock, IsKeptIfSome, IsKnownAfter, IsQuietAt, nothing}
use Rattle.sql_store.specs.Store.{HasQueried, HasWrittenOver, content_at}
use Rattle.sql_store.specs.declared.kept.Kept.{Kept}

no_value : {A P : Type 0} (o : Option A) (value : A) → o ≡ None → o ≡ Some value → P
no_value o value none is = impossible (sym (ap is_some is) ∙ ap is_some none)

pub nothing_kept : (s : State) (kept : Kept) → kept ≡ nothing → AreKept s kept
nothing_kept s kept none = record {
  clock = λ value is. no_value kept.clock value (ap (λ (k : Kept). k.clock) none) is;
  carriers = λ value is. no_value kept.carriers value (ap (λ (k : Kept). k.carriers) none) is;
  quiet = λ value is. no_value kept.quiet value (ap (λ (k : Kept). k.quiet) none) is;
}

module _ {A : Type 0} (Is : A → Content → Type 0) where
  -- A call that only read keeps what was kept.
  queried_keeps : (old new : State) (kept : Option A) → IsKeptIfSome Is old kept
      → HasQueried old new true → IsKeptIfSome Is new kept
  queried_keeps old new kept was queried value it = record {
    answers = queried.stays refl;
    is = λ up.
        let same = queried.same refl up in
        subst (λ (d : Database). Is value (content_in d.trees)) (sym same.now)
        ((was value it).is same.was_open);
  }

  -- A commit that succeeds keeps what was kept.
  commit_keeps : (old new : State) (kept : Option A) → IsKeptIfSome Is old kept
      → (IsTrue new.is_open → HasCleanDisk new)
      → (HasCleanDisk new → Shows old new old.now old.now false) → IsKeptIfSome Is new kept
  commit_keeps old new kept was clean_of shows value it = record {
    answers = λ clean. (shows clean).is_open;
    is = λ up.
        let s = shows (clean_of up) in
        subst (λ (d : Database). Is value (content_in d.trees)) (sym s.now_is)
        ((was value it).is s.was_open);
  }

  -- What was read is kept.
  pub kept_as_read : (old new : State) (found : Option A) → HasQueried old new true
      → ((value : A) → found ≡ Some value → IsTrue new.is_open → Is value (content_at old))
      → IsKeptIfSome Is new found
  kept_as_read old new found queried is value it = record {
    answers = queried.stays refl;
    is = λ up.
        subst (λ (d : Database). Is value (content_in d.trees)) (sym (queried.same refl up).now)
        (is value it up);
  }

  -- A kept value answers a look-up.
  pub kept_queried : (s : State) (kept : Option A) (value : A) → kept ≡ Some value
      → IsKeptIfSome Is s kept → HasQueried s s true
  kept_queried s kept value it is = record {
    same = λ _ up. record { was_open = up; now = refl; committed = refl };
    undone = λ up. record { was_open = up; now = inl refl; committed = refl };
    mode = λ up idle. idle;
    honest = λ clean. clean;
    stays = λ _ clean. (is value it).answers clean;
    survives = search rules;
  }

pub kept_by_query : (old new : State) (before kept : Kept) → kept ≡ before → AreKept old before
    → HasQueried old new true → AreKept new kept
kept_by_query old new before kept same was queried = subst (AreKept new) (sym same) (record {
  clock = queried_keeps IsClock old new before.clock was.clock queried;
  carriers = queried_keeps AreAllCarriers old new before.carriers was.carriers queried;
  quiet = queried_keeps IsQuietAt old new before.quiet was.quiet queried;
})

pub kept_by_commit : (old new : State) (before kept : Kept) → kept ≡ before → AreKept old before
    → (IsTrue new.is_open → HasCleanDisk new)
    → (HasCleanDisk new → Shows old new old.now old.now false) → AreKept new kept
kept_by_commit old new before kept same was clean_of shows =
    subst (AreKept new) (sym same) (record {
      clock = commit_keeps IsClock old new before.clock was.clock clean_of shows;
      carriers = commit_keeps AreAllCarriers old new before.carriers was.carriers clean_of shows;
      quiet = commit_keeps IsQuietAt old new before.quiet was.quiet clean_of shows;
    })

-- ---- what changes keep

-- Changes without a carrier keep the carriers.
same_carriers : (ch : Changes) (c d : Content) (all : Vec Spid) → AppliesChanges ch c d
    → ch.carrier ≡ None → AreAllCarriers all c → AreAllCarriers all d
same_carriers ch c d all applies none are =
    are ∙ ap keys (same_map nat_cmp_total nat_cmp-IsAntisymmetric c.carriers d.carriers
    (λ k. sym (subst (λ o. get d.carriers k ≡ put_row ◌==◌ (option_map (λ c. (c, tt)) o) k
    (get c.carriers k)) none (applies.carriers k))))

-- If no deadline has come in a row before, nor in those that are written, none has in the row
-- after.
none_come : (now k : ℕ) (ps : List (ℕ × VersionRow)) (before : Option VersionRow)
    → list_any (λ p. has_come p.1.deadline now) ps ≡ false
    → ((row : VersionRow) → before ≡ Some row → has_come row.deadline now ≡ false)
    → (row : VersionRow) → put_rows ◌==◌ ps k before ≡ Some row → has_come row.deadline now ≡ false
none_come now k [] before late was = was
none_come now k (p ∷ ps) before late was =
    let both = neither (has_come p.1.deadline now) (list_any (λ p. has_come p.1.deadline now) ps)
    late in
    none_come now k ps (if p.0 == k then Some p.1 else before) both.1 (by_cases (p.0 == k) both.0)
  where
    by_cases : (b : Bool) → has_come p.1.deadline now ≡ false → (row : VersionRow)
        → (if b then Some p.1 else before) ≡ Some row → has_come row.deadline now ≡ false
    by_cases true first row is =
        subst (λ (r : VersionRow). has_come r.deadline now ≡ false) (some_is p.1 row is) first
    by_cases false first row is = was row is

still_quiet : (ch : Changes) (c d : Content) (minute : Minute) → AppliesChanges ch c d
    → list_any (λ p. has_come p.1.deadline minute.number) ch.versions ≡ false → IsQuietAt minute c
    → IsQuietAt minute d
still_quiet ch c d minute applies late quiet id row is =
    none_come minute.number id ch.versions (get c.versions id) late (quiet id) row
    (sym (applies.versions id) ∙ is)

pub kept_by_write : (mid new : State) (ch : Changes) (row : Option ClockRow) (before kept : Kept)
    → (HasCleanDisk new → IsTrue new.is_open) → (IsTrue new.is_open → IsTrue mid.is_open)
    → (IsTrue new.is_open → AppliesChanges ch (content_at mid) (content_at new))
    → (IsTrue mid.is_open → option_map clock_row_of row ≡ (content_at mid).clock)
    → AreKept mid before → IsKnownAfter ch row before kept → AreKept new kept
kept_by_write mid new ch row before kept stays opened applies read was known = record {
  clock = λ r it. record {
    answers = stays;
    is = λ up.
        (applies up).clock ∙ ap (clock_after ch.clock ch.set) (sym (read (opened up)))
        ∙ sym known.clock ∙ ap (option_map clock_row_of) it;
  };
  carriers = λ all it.
      let known = known.carriers all it in
      record {
        answers = stays;
        is = λ up.
            same_carriers ch (content_at mid) (content_at new) all (applies up) known.1
            ((was.carriers all known.0).is (opened up));
      };
  quiet = λ minute it.
      let known = known.quiet minute it in
      record {
        answers = stays;
        is = λ up.
            still_quiet ch (content_at mid) (content_at new) minute (applies up) known.1
            ((was.quiet minute known.0).is (opened up));
      };
}

-- A call that wrote a change applied it.
pub written_as : (mid new : State) (change : Content → Content) (Becomes : Content → Content
    → Type 0) → (IsTrue new.is_open → HasCleanDisk new)
    → (IsTrue mid.is_open → Becomes (content_at mid) (change (content_at mid)))
    → HasWrittenOver mid new true change → IsTrue new.is_open
    → Becomes (content_at mid) (content_at new)
written_as mid new change Becomes clean_of means both up =
    let was = (both.kept up).was_open in
    subst (Becomes (content_at mid)) (sym (both.made refl (clean_of up) was).is) (means was)

-- ---- what is kept answers

-- A carrier is registered if it is among all.
pub among_carriers : (c : Content) (carriers : List Spid) (spid : Spid) → AreCarriers c carriers
    → list_any (λ (x : Spid). x.number == spid.number) carriers
    ≡ is_some (get c.carriers (spid_of spid))
among_carriers c carriers spid are =
    numbered carriers ∙ ap (is_among spid.number) are ∙ among_keys c.carriers spid.number
  where
    numbered : (xs : List Spid) → list_any (λ (x : Spid). x.number == spid.number) xs
        ≡ is_among spid.number (map spid_of xs)
    numbered [] = refl
    numbered (x ∷ xs) = ap (λ b. (x.number == spid.number) || b) (numbered xs)

later : (o : Option ℕ) (now d : ℕ) → has_come o now ≡ false → o ≡ Some d → now < d
later None now d e is = cc
later (Some f) now d e is =
    let past : nat_le d now ≡ false = subst (λ k. nat_le k now ≡ false) (some_is f d is) e in
    grind (arith, nat_tests)

-- If no deadline has come at a minute, none has at an earlier one.
pub none_due : (c : Content) (now : ℕ) (quiet : Minute) → nat_le now quiet.number ≡ true
    → IsQuietAt quiet c → NoRowIsDue c now
none_due c now quiet most is id row there d deadline =
    let late = later row.deadline quiet.number d (is id row there) deadline in
    grind (arith, nat_tests)

-- If no row is due, no deadline has come.
pub quiet_if_none : (c : Content) (now : Minute) → NoRowIsDue c now.number → IsQuietAt now c
quiet_if_none c now none id row there = by_cases row.deadline refl
  where
    by_cases : (o : Option ℕ) → row.deadline ≡ o → has_come o now.number ≡ false
    by_cases None is = refl
    by_cases (Some d) is = let late = none id row there d is in grind (arith, nat_tests)
