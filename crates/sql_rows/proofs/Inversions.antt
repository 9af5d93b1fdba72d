-- The columns of a row that reads.
use Rattle.std.proofs.Common.{◌≡◌, ℕ, ℤ, pos, negsuc, Option, Some, None, Bool, true, false, cond, nat_lt, refl, sym, ap, subst, ◌∙◌, true≢false}
use Rattle.std.specs.Prelude.{option_and_then, option_map}
use Rattle.std.specs.Cmp.{signed_Decides}
use Rattle.sqlite.specs.declared.types.Value.{Value}
use Rattle.sqlite.specs.declared.types.Value.TheVariants.{Null, Int, Real, Text, Blob}
use Rattle.sqlite.specs.Order.{Row, column}
use Rattle.numbers.specs.Routings.{Routing}
use Rattle.numbers.specs.Subjects.{Subject, Number, Block}
use Rattle.model.specs.Content.{VersionRow, subject_if}
use Rattle.sql_rows.specs.Values.{number_in, lrn_in, code_from, code_in, block_from, block_in, minute_in, subject_in, subject_from, below, or_null_in, spid_in, routing_in, status_in, bool_in, subject_number, found_in, is_int, only_in, set_from, set_number_in}
use Rattle.numbers.specs.Texts.{spid_text}
use Rattle.model.specs.Content.{BlockRow, BroadcastRow, BroadcastKey, WaitKey}
use Rattle.model.specs.Windows.{Windows}
use Rattle.sql_rows.specs.Clocks.{StoredClock}
use Rattle.sql_rows.specs.Versions.{version_with, version_in, version_entry, shown_of}
use Rattle.sql_rows.specs.Values.{action_in}
use Rattle.sql_rows.specs.Content.{next_entry, carrier_entry, lrn_entry, code_entry, block_entry, clock_entry, set_entry, set_shown, windows_in, broadcast_entry, wait_entry}
use Rattle.sql_rows.proofs.SpidLemmas.{spelt}

pub bind_some : {A B : Type 0} (f : A → Option B) (o : Option A) (b : B)
    → option_and_then f o ≡ Some b → (a : A) × (o ≡ Some a) × (f a ≡ Some b)
bind_some f None b h = absurd cc
bind_some f (Some a) b h = (a, refl, h)

pub map_some : {A B : Type 0} (f : A → B) (o : Option A) (b : B) → option_map f o ≡ Some b
    → (a : A) × (o ≡ Some a) × (f a ≡ b)
map_some f None b h = absurd cc
map_some f (Some a) b h = (a, refl, cc)

-- The columns that statements test.
pub record Reads (r : Row) (e : ℕ × VersionRow) : Type 0 where
  pub id : number_in (column r 0) ≡ Some e.0
  pub deadline : or_null_in minute_in (column r 17) ≡ Some e.1.deadline
  pub subject : subject_in (column r 1) ≡ Some e.1.subject
  pub status : status_in e.1.routing (column r 9) (column r 10) (column r 13) (column r 16)
      ≡ Some e.1.status
  pub is_in_force : Bool
  pub is_open : Bool
  pub found_in_force : found_in e.0 e.1.subject (column r 18) ≡ Some is_in_force
  pub found_open : found_in e.0 e.1.subject (column r 19) ≡ Some is_open
  pub holds : e.1.holds ≡ subject_if is_in_force e.1.subject
  pub opens : e.1.opens ≡ subject_if is_open e.1.subject

pub reads_with : (held : Option ℕ) (r : Row) (e : ℕ × VersionRow) → version_with held r ≡ Some e
    → Reads r e
reads_with held r e h =
    let a = bind_some _ (number_in (column r 0)) e h in
    let b = bind_some _ (subject_in (column r 1)) e a.2 in
    let c = bind_some _ (spid_in (column r 2)) e b.2 in
    let d = bind_some _ (spid_in (column r 3)) e c.2 in
    let f = bind_some _ (minute_in (column r 4)) e d.2 in
    let g = bind_some _ (routing_in (column r 5) (column r 6)) e f.2 in
    let i = bind_some _ (or_null_in minute_in (column r 7)) e g.2 in
    let j = bind_some _ (or_null_in minute_in (column r 8)) e i.2 in
    let k = bind_some _ (status_in g.0 (column r 9) (column r 10) (column r 13) (column r 16)) e
    j.2 in
    let l = bind_some _ (minute_in (column r 11)) e k.2 in
    let w = bind_some _ held e l.2 in
    let m = bind_some _ (number_in (column r 12)) e w.2 in
    let n = bind_some _ (bool_in (column r 14)) e m.2 in
    let o = bind_some _ (bool_in (column r 15)) e n.2 in
    let p = bind_some _ (or_null_in minute_in (column r 17)) e o.2 in
    let q = bind_some _ (found_in a.0 b.0 (column r 18)) e p.2 in
    let s = map_some _ (found_in a.0 b.0 (column r 19)) e q.2 in
    subst (Reads r) s.2 (record {
      id = a.1;
      deadline = p.1;
      subject = b.1;
      status = k.1;
      is_in_force = q.0;
      is_open = s.0;
      found_in_force = q.1;
      found_open = s.1;
      holds = refl;
      opens = refl;
    })

pub reads : (r : Row) (e : ℕ × VersionRow) → version_in r ≡ Some e → Reads r e
reads r e h = reads_with (set_number_in (column r 20)) r e h

pub number_read : (v : Value) (n : ℕ) → number_in v ≡ Some n → v ≡ Int (pos n)
number_read (Int (pos m)) n h = by_cases (nat_lt m 9223372036854775808) h
  where
    by_cases : (b : Bool) → cond b (Some m) None ≡ Some n → Int (pos m) ≡ Int (pos n)
    by_cases true h = cc
    by_cases false h = absurd cc
number_read (Int (negsuc m)) n h = absurd cc
number_read Null n h = absurd cc
number_read (Real x) n h = absurd cc
number_read (Text t) n h = absurd cc
number_read (Blob b) n h = absurd cc

pub number_small : (v : Value) (n : ℕ) → number_in v ≡ Some n → nat_lt n 9223372036854775808 ≡ true
number_small (Int (pos m)) n h = by_cases (nat_lt m 9223372036854775808) refl h
  where
    by_cases : (b : Bool) → nat_lt m 9223372036854775808 ≡ b → cond b (Some m) None ≡ Some n
        → nat_lt n 9223372036854775808 ≡ true
    by_cases true e h = let same : m ≡ n = cc in ap (λ k. nat_lt k 9223372036854775808) (sym same)
        ∙ e
    by_cases false e h = absurd cc
number_small (Int (negsuc m)) n h = absurd cc
number_small Null n h = absurd cc
number_small (Real x) n h = absurd cc
number_small (Text t) n h = absurd cc
number_small (Blob b) n h = absurd cc

-- A value that passes a test is the value tested.
some_kept : {m n : ℕ} (b : Bool) → cond b (Some m) None ≡ Some n → m ≡ n
some_kept true h = cc
some_kept false h = absurd cc

pub below_same : (limit m n : ℕ) → below limit m ≡ Some n → m ≡ n
below_same limit m n h = some_kept (nat_lt m limit) h

pub minute_read : (v : Value) (n : ℕ) → minute_in v ≡ Some n → v ≡ Int (pos n)
minute_read v n h = let a = bind_some _ (number_in v) n h in
    number_read v a.0 a.1 ∙ ap (λ k. Int (pos k)) (below_same 1099511627776 a.0 n a.2)

pub subject_same : (n : ℕ) (s : Subject) → subject_from n ≡ Some s → n ≡ subject_number s
subject_same n s h = by_cases (nat_lt n 10000000) _ _ h
  where
    by_cases : (b c d : Bool)
        → cond b (cond c (Some (Block n)) None) (cond d (Some (Number n)) None)
        ≡ Some s → n ≡ subject_number s
    by_cases true true d h = let same : Block n ≡ s = cc in ap subject_number same
    by_cases true false d h = absurd cc
    by_cases false c true h = let same : Number n ≡ s = cc in ap subject_number same
    by_cases false c false h = absurd cc

pub subject_read : (v : Value) (s : Subject) → subject_in v ≡ Some s
    → v ≡ Int (pos (subject_number s))
subject_read v s h = let a = bind_some _ (number_in v) s h in
    number_read v a.0 a.1 ∙ ap (λ k. Int (pos k)) (subject_same a.0 s a.2)

pub some_read : {X : Type 0} (read : Value → Option X) (v : Value) (x : X)
    → or_null_in read v ≡ Some (Some x) → read v ≡ Some x
some_read read Null x h = absurd cc
some_read read (Int n) x h = let a = map_some Some (read (Int n)) (Some x) h in
    a.1 ∙ (let same : ◌≡◌ {A = Option _} (Some a.0) (Some x) = a.2 in same)
some_read read (Real y) x h = let a = map_some Some (read (Real y)) (Some x) h in
    a.1 ∙ (let same : ◌≡◌ {A = Option _} (Some a.0) (Some x) = a.2 in same)
some_read read (Text t) x h = let a = map_some Some (read (Text t)) (Some x) h in
    a.1 ∙ (let same : ◌≡◌ {A = Option _} (Some a.0) (Some x) = a.2 in same)
some_read read (Blob b) x h = let a = map_some Some (read (Blob b)) (Some x) h in
    a.1 ∙ (let same : ◌≡◌ {A = Option _} (Some a.0) (Some x) = a.2 in same)

no_some : {X : Type 0} (o : Option X) → option_map Some o ≡ Some None → ⊥
no_some None h = absurd cc
no_some (Some x) h = absurd cc

pub none_read : {X : Type 0} (read : Value → Option X) (v : Value) → or_null_in read v ≡ Some None
    → v ≡ Null
none_read read Null h = refl
none_read read (Int n) h = absurd (no_some _ h)
none_read read (Real y) h = absurd (no_some _ h)
none_read read (Text t) h = absurd (no_some _ h)
none_read read (Blob b) h = absurd (no_some _ h)

is_int_read : (n : ℤ) (v : Value) → is_int n v ≡ true → v ≡ Int n
is_int_read n (Int m) h = ap Int ((signed_Decides m n).0 h)
is_int_read n Null h = absurd (true≢false (sym h))
is_int_read n (Real x) h = absurd (true≢false (sym h))
is_int_read n (Text t) h = absurd (true≢false (sym h))
is_int_read n (Blob b) h = absurd (true≢false (sym h))

-- A subject column that finds its row holds the subject's number.
pub found_read : (id : ℕ) (s : Subject) (v : Value) → found_in id s v ≡ Some true
    → v ≡ Int (pos (subject_number s))
found_read id s v h = by_cases (is_int (negsuc id) v) (is_int (pos (subject_number s)) v) refl h
  where
    by_cases : (b c : Bool) → is_int (pos (subject_number s)) v ≡ c
        → cond b (Some false) (cond c (Some true) None) ≡ Some true
        → v ≡ Int (pos (subject_number s))
    by_cases true c e h = absurd (let f : false ≡ true = cc in true≢false (sym f))
    by_cases false true e h = is_int_read (pos (subject_number s)) v e
    by_cases false false e h = absurd cc

-- A subject column that does not find its row holds -1 - id.
pub unfound_read : (id : ℕ) (s : Subject) (v : Value) → found_in id s v ≡ Some false
    → v ≡ Int (negsuc id)
unfound_read id s v h = by_cases (is_int (negsuc id) v) (is_int (pos (subject_number s)) v) refl h
  where
    by_cases : (b c : Bool) → is_int (negsuc id) v ≡ b
        → cond b (Some false) (cond c (Some true) None)
        ≡ Some false → v ≡ Int (negsuc id)
    by_cases true c e h = is_int_read (negsuc id) v e
    by_cases false true e h = absurd (let f : true ≡ false = cc in true≢false f)
    by_cases false false e h = absurd cc

-- ---- keys of the other tables

pub carrier_key : (r : Row) (e : ℕ × Unit {0}) → carrier_entry r ≡ Some e
    → spid_in (column r 1) ≡ Some e.0
carrier_key r e h = let a = map_some _ (spid_in (column r 1)) e h in
    a.1 ∙ ap (λ (x : ℕ × Unit {0}). Some x.0) a.2

-- A number that passes the test of a key is the one in the column.
tested_read : (test : ℕ → Option ℕ) → ((m n : ℕ) → test m ≡ Some n → m ≡ n) → (v : Value) (n : ℕ)
    → option_and_then test (number_in v) ≡ Some n → number_in v ≡ Some n
tested_read test same v n h = let a = bind_some test (number_in v) n h in
    a.1 ∙ ap Some (same a.0 n a.2)

code_same : (m n : ℕ) → code_from m ≡ Some n → m ≡ n
code_same m n h = some_kept _ h

block_same : (m n : ℕ) → block_from m ≡ Some n → m ≡ n
block_same m n h = some_kept _ h

pub lrn_key : (r : Row) (e : ℕ × ℕ) → lrn_entry r ≡ Some e → number_in (column r 0) ≡ Some e.0
lrn_key r e h =
    let a = bind_some _ (lrn_in (column r 0)) e h in
    let b = map_some _ (spid_in (column r 2)) e a.2 in
    tested_read (below 10000000000) (below_same 10000000000) (column r 0) a.0 a.1
    ∙ ap (λ (x : ℕ × ℕ). Some x.0) b.2

pub code_key : (r : Row) (e : ℕ × ℕ) → code_entry r ≡ Some e → number_in (column r 0) ≡ Some e.0
code_key r e h =
    let a = bind_some _ (code_in (column r 0)) e h in
    let b = map_some _ (spid_in (column r 2)) e a.2 in
    tested_read code_from code_same (column r 0) a.0 a.1 ∙ ap (λ (x : ℕ × ℕ). Some x.0) b.2

pub block_key : (r : Row) (e : ℕ × BlockRow) → block_entry r ≡ Some e
    → number_in (column r 0) ≡ Some e.0
block_key r e h =
    let a = bind_some _ (block_in (column r 0)) e h in
    let b = bind_some _ (spid_in (column r 2)) e a.2 in
    let c = map_some _ (or_null_in number_in (column r 3)) e b.2 in
    tested_read block_from block_same (column r 0) a.0 a.1 ∙ ap (λ (x : ℕ × BlockRow). Some x.0) c.2

only_read : (v : Value) (n : ℕ) → only_in v ≡ Some n → number_in v ≡ Some n
only_read v n h = by_cases (is_int (pos 0) v) refl h
  where
    by_cases : (b : Bool) → is_int (pos 0) v ≡ b → cond b (Some 0) None ≡ Some n
        → number_in v ≡ Some n
    by_cases true e h = ap number_in (is_int_read (pos 0) v e) ∙ h
    by_cases false e h = absurd cc

pub next_key : (r : Row) (e : ℕ × Routing) → next_entry r ≡ Some e
    → number_in (column r 0) ≡ Some e.0
next_key r e h =
    let a = bind_some _ (number_in (column r 0)) e h in
    let b = bind_some _ (routing_in (column r 2) (column r 3)) e a.2 in
    let c = map_some _ b.0 e b.2 in
    a.1 ∙ ap (λ (x : ℕ × Routing). Some x.0) c.2

set_same : (m n : ℕ) → set_from m ≡ Some n → m ≡ n
set_same m n h = some_kept _ h

pub set_key : (r : Row) (e : ℕ × Windows) → set_entry r ≡ Some e → number_in (column r 0) ≡ Some e.0
set_key r e h =
    let a = bind_some _ (set_number_in (column r 0)) e h in
    let b = map_some _ (windows_in 1 (set_shown r)) e a.2 in
    tested_read set_from set_same (column r 0) a.0 a.1 ∙ ap (λ (x : ℕ × Windows). Some x.0) b.2

pub clock_key : (r : Row) (e : ℕ × StoredClock) → clock_entry r ≡ Some e
    → number_in (column r 0) ≡ Some e.0
clock_key r e h =
    let a = bind_some _ (only_in (column r 0)) e h in
    let b = bind_some _ (minute_in (column r 2)) e a.2 in
    let c = bind_some _ (number_in (column r 3)) e b.2 in
    let d = map_some _ (set_number_in (column r 4)) e c.2 in
    only_read (column r 0) a.0 a.1 ∙ ap (λ (x : ℕ × StoredClock). Some x.0) d.2

pub version_key : (r : Row) (e : ℕ × VersionRow) → version_entry r ≡ Some e
    → number_in (column r 0) ≡ Some e.0
version_key r e h = (reads (shown_of r) e h).id

pub record ReadsBroadcast (r : Row) (e : BroadcastKey × BroadcastRow) : Type 0 where
  pub id : number_in (column r 1) ≡ Some e.0.id
  pub attempt : number_in (column r 2) ≡ Some e.0.attempt
  pub is_open : bool_in (column r 8) ≡ Some e.1.is_open

pub broadcast_reads : (r : Row) (e : BroadcastKey × BroadcastRow) → broadcast_entry r ≡ Some e
    → ReadsBroadcast r e
broadcast_reads r e h =
    let a = bind_some _ (number_in (column r 1)) e h in
    let b = bind_some _ (number_in (column r 2)) e a.2 in
    let c = bind_some _ (minute_in (column r 3)) e b.2 in
    let d = bind_some _ (subject_in (column r 4)) e c.2 in
    let f = bind_some _ (action_in (column r 5)) e d.2 in
    let g = bind_some _ (routing_in (column r 6) (column r 7)) e f.2 in
    let i = bind_some _ (bool_in (column r 8)) e g.2 in
    let j = map_some _ (bool_in (column r 9)) e i.2 in
    subst (ReadsBroadcast r) j.2 (record { id = a.1; attempt = b.1; is_open = i.1 })

pub record ReadsWait (r : Row) (e : WaitKey × Subject) : Type 0 where
  pub carrier : spid_in (column r 1) ≡ Some e.0.carrier
  pub minute : minute_in (column r 2) ≡ Some e.0.minute
  pub id : number_in (column r 3) ≡ Some e.0.id
  pub attempt : number_in (column r 4) ≡ Some e.0.attempt
  pub subject : subject_in (column r 5) ≡ Some e.1

pub wait_reads : (r : Row) (e : WaitKey × Subject) → wait_entry r ≡ Some e → ReadsWait r e
wait_reads r e h =
    let a = bind_some _ (spid_in (column r 1)) e h in
    let b = bind_some _ (minute_in (column r 2)) e a.2 in
    let c = bind_some _ (number_in (column r 3)) e b.2 in
    let d = bind_some _ (number_in (column r 4)) e c.2 in
    let f = map_some _ (subject_in (column r 5)) e d.2 in
    subst (ReadsWait r) f.2 (record {
      carrier = a.1;
      minute = b.1;
      id = c.1;
      attempt = d.1;
      subject = f.1;
    })

pub spid_read : (v : Value) (n : ℕ) → spid_in v ≡ Some n → v ≡ Text (spid_text n)
spid_read (Text t) n h = ap Text (spelt t n h)
spid_read Null n h = absurd cc
spid_read (Int m) n h = absurd cc
spid_read (Real x) n h = absurd cc
spid_read (Blob b) n h = absurd cc
