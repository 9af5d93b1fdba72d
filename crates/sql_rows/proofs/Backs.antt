-- A version that is stored reads as it was.
use Rattle.std.proofs.Common.{◌≡◌, ℕ, pos, negsuc, ◌∷◌, Option, Some, None, Bool, true, false, cond, nat_lt, ◌<◌, ◌≤◌, ◌/◌, ◌%◌, ◌*◌, ◌+◌, refl, ap, arith, IsTrue, IfSome}
use Rattle.std.specs.Prelude.{option_map, ◌&&◌}
use Rattle.std.specs.Cmp.{signed_Decides}
use Rattle.sqlite.specs.declared.types.Value.{Value}
use Rattle.sqlite.specs.declared.types.Value.TheVariants.{Int, Text}
use Rattle.sqlite.specs.Values.{or_null}
use Rattle.numbers.specs.Digits.{IsTn, IsBlock, IsCode}
use Rattle.numbers.specs.Spids.{IsSpid, is_spid_character}
use Rattle.numbers.specs.Abstraction.{subject_of, routing_of, minute_of}
use Rattle.numbers.specs.declared.ported.Subject.{Subject as SubjectImpl}
use Rattle.numbers.specs.declared.ported.Subject.TheVariants.{Number as NumberImpl, Block as BlockImpl}
use Rattle.numbers.specs.declared.ported.Routing.{Routing as RoutingImpl}
use Rattle.numbers.specs.declared.minute.Minute.{Minute}
use Rattle.numbers.specs.declared.spid.Spid.{Spid}
use Rattle.numbers.specs.declared.cic.Cic.{Cic}
use Rattle.numbers.specs.declared.lrn.Lrn.{Lrn}
use Rattle.numbers.specs.declared.code_id.CodeId.{CodeId}
use Rattle.numbers.specs.declared.block_id.BlockId.{BlockId}
use Rattle.model.specs.declared.words.Status.{Status as StatusImpl}
use Rattle.model.specs.declared.words.Status.TheVariants as code
use Rattle.numbers.specs.Routings.{Routing}
use Rattle.model.specs.declared.words.Action.TheVariants.{Create, Delete, Modify}
use Rattle.sql_rows.specs.Versions.{bare, bare_status, is_routed_while_modified}
use Rattle.model.specs.declared.words.Side.TheVariants.{OldProvider, NewProvider}
use Rattle.model.specs.Abstraction.{status_of}
use Rattle.model.specs.Content.{subject_if}
use Rattle.settle.specs.Abstraction.{version_row_of, block_row_of, broadcast_row_of, broadcast_key_of, wait_key_of}
use Rattle.settle.specs.declared.rows.BlockRow.{BlockRow as BlockRowImpl}
use Rattle.sql_rows.specs.declared.keyed.StoredClock.{StoredClock as ClockImpl}
use Rattle.sql_rows.specs.Clocks.{clock_of}
use Rattle.version.specs.Abstraction.{windows_of}
use Rattle.windows.specs.declared.window.WindowSet.{WindowSet as SetImpl}
use Rattle.settle.specs.declared.rows.BroadcastKey.{BroadcastKey as KeyImpl}
use Rattle.settle.specs.declared.rows.WaitKey.{WaitKey as WaitImpl}
use Rattle.delivery.specs.declared.broadcast.Broadcast.{Broadcast as BroadcastImpl}
use Rattle.windows.specs.declared.window.Window.{Window}
use Rattle.model.specs.declared.words.Action.{Action}
use Rattle.sql_rows.specs.Content.{next_entry, next_params, carrier_entry, lrn_entry, code_entry, block_entry, broadcast_entry, wait_entry, set_entry, clock_entry, carrier_params, owner_params, block_params, broadcast_params, wait_params, set_params, clock_params, stored}
use Rattle.settle.specs.declared.rows.VersionRow.TheInside.{Inside}
use Rattle.sql_rows.specs.Values.{number_in, minute_in, lrn_in, cic_in, bool_in, subject_in, spid_in, or_null_in, status_in, routing_in, number_value, spid_value, bool_value, subject_value, lrn_value, cic_value, status_word, sends_word, release_value, by_value, found_in, found_value, subject_number, window_in, set_number_in, action_in, action_word}
use Rattle.sql_rows.specs.Versions.{version_entry, version_row}
use Rattle.numbers.proofs.Small.{is_less, at_most}

pub number_back : (n : ℕ) → n < 9223372036854775808 → number_in (Int (pos n)) ≡ Some n
number_back n h = rw (is_less n 9223372036854775808 h) refl

pub minute_back : (m : Minute) → minute_in (Int (pos m.number)) ≡ Some m.number
minute_back m = let small : m.number < 1099511627776 = m.valid in
    rw (is_less m.number 9223372036854775808 (omega arith))
    (rw (is_less m.number 1099511627776 small) refl)

pub minutes_back : (o : Option Minute)
    → or_null_in minute_in (or_null number_value (option_map minute_of o))
    ≡ Some (option_map minute_of o)
minutes_back None = refl
minutes_back (Some m) = ap (option_map Some) (minute_back m)

pub subject_back : (s : SubjectImpl) → subject_in (subject_value (subject_of s))
    ≡ Some (subject_of s)
subject_back (NumberImpl tn) =
    let n = tn.number in
    let v : IsTn n = tn.valid in
    let low : nat_lt n 10000000 ≡ false = grind (arith, v.1) in
    rw (is_less n 9223372036854775808 (omega (arith, v.0))) (rw low (rw (
      is_less n 10000000000 v.0,
      at_most 2 (n / 1000000000) v.1,
      at_most 2 (n / 1000000 % 10) v.2,
    ) refl))
subject_back (BlockImpl block) =
    let n = block.number in
    let v : IsBlock n = block.valid in
    rw (is_less n 9223372036854775808 (omega (arith, v.0))) (rw (
      is_less n 10000000 v.0,
      at_most 2 (n / 1000000) v.1,
      at_most 2 (n / 1000 % 10) v.2,
    ) refl)

pub found_back : (id : ℕ) (s : SubjectImpl) (b : Bool)
    → found_in id (subject_of s) (found_value id (subject_if b (subject_of s))) ≡ Some b
found_back id s false = rw ((signed_Decides (negsuc id) (negsuc id)).1 refl) refl
found_back id s true =
    rw ((signed_Decides (pos (subject_number (subject_of s)))
    (pos (subject_number (subject_of s)))).1 refl) refl

pub spid_back : (s : Spid) → spid_in (spid_value s.number) ≡ Some s.number
spid_back s =
    let n = s.number in
    let v : IsSpid n = s.valid in
    by_cases n (is_spid_character (n / 16777216)) (is_spid_character (n / 65536 % 256))
    (is_spid_character (n / 256 % 256)) (is_spid_character (n % 256)) v
  where
    by_cases : (n : ℕ) (a b c d : Bool) → IsTrue (a && (b && (c && (d && true))))
        → cond (a && (b && (c && d))) (Some (n / 16777216 * 16777216 + n / 65536 % 256 * 65536 + n /
        256 % 256 * 256 + n % 256)) None ≡ Some n
    by_cases n true true true true h = ap Some (omega arith)
    by_cases n true true true false h = absurd cc
    by_cases n true true false d h = absurd cc
    by_cases n true false c d h = absurd cc
    by_cases n false b c d h = absurd cc

pub bool_back : (b : Bool) → bool_in (bool_value b) ≡ Some b
bool_back true = refl
bool_back false = refl

routed_back : (l : Lrn) → lrn_in (Int (pos l.number)) ≡ Some l.number
routed_back l = let small : l.number < 10000000000 = l.valid in
    rw (is_less l.number 9223372036854775808 (omega arith)) (rw (is_less l.number 10000000000 small)
    refl)

pub routing_back : (o : Option RoutingImpl)
    → routing_in (lrn_value (option_map routing_of o)) (cic_value (option_map routing_of o))
    ≡ Some (option_map routing_of o)
routing_back None = refl
routing_back (Some r) = by_cases r.cic
  where
    cic_back : (c : Cic) → cic_in (Int (pos c.number)) ≡ Some c.number
    cic_back c = let small : c.number < 10000 = c.valid in
        rw (is_less c.number 9223372036854775808 (omega arith)) (rw (is_less c.number 10000 small)
        refl)

    by_cases : (o : Option Cic) → routing_in (lrn_value (Some (record {
      lrn = r.lrn.number;
      cic = option_map (λ (c : Cic). c.number) o;
    }))) (cic_value (Some (record {
      lrn = r.lrn.number;
      cic = option_map (λ (c : Cic). c.number) o;
    })))
        ≡ Some (Some (record { lrn = r.lrn.number; cic = option_map (λ (c : Cic). c.number) o }))
    by_cases None = rw (routed_back r.lrn) refl
    by_cases (Some c) = rw (routed_back r.lrn, cic_back c) refl

pub status_back : (own : Option Routing) (s : StatusImpl)
    → is_routed_while_modified own (status_of s) ≡ true →
    status_in own (Text (status_word (status_of s))) (Text (sends_word (status_of s)))
    (release_value (status_of s)) (by_value (status_of s)) ≡ Some (bare_status own (status_of s))
status_back own code.Pending fits = refl
status_back own code.Conflict fits = refl
status_back own (code.CancelPending OldProvider) fits = refl
status_back own (code.CancelPending NewProvider) fits = refl
status_back own code.SendingCreate fits = refl
status_back own code.SendingDelete fits = refl
status_back (Some own) (code.SendingModify cic lrn) fits = refl
status_back None (code.SendingModify cic lrn) fits = cc
status_back own code.Active fits = refl
status_back own code.PartialFailure fits = refl
status_back own code.Failed fits = refl
status_back own (code.DisconnectPending m) fits = rw (minute_back m) refl
status_back own code.Old fits = refl
status_back own code.Canceled fits = refl

pub set_number_back : (n : ℕ) → 0 < n → n ≤ 1000 → set_number_in (Int (pos n)) ≡ Some n
set_number_back n least most =
    rw (is_less n 9223372036854775808 (omega arith)) (rw (is_less 0 n least, at_most n 1000 most)
    refl)

pub reads_back : (id : ℕ) (v : Inside) → id < 9223372036854775808
    → v.version.attempt < 9223372036854775808 → 0 < v.version.held → v.version.held ≤ 1000
    → is_routed_while_modified (option_map routing_of v.version.routing)
    (status_of v.version.status) ≡ true →
    version_entry (version_row id (version_row_of v)) ≡ Some (id, bare (version_row_of v))
reads_back id v low few least most fits =
    rw (
      number_back id low,
      subject_back v.version.subject,
      spid_back v.version.old_provider,
      spid_back v.version.new_provider,
      minute_back v.version.due,
      routing_back v.version.routing,
      minutes_back v.version.old_at,
      minutes_back v.version.new_at,
      status_back (option_map routing_of v.version.routing) v.version.status fits,
      minute_back v.version.since,
      set_number_back v.version.held least most,
      number_back v.version.attempt few,
      bool_back v.version.is_conflict_spent,
      bool_back v.version.is_protective,
      minutes_back v.deadline,
      found_back id v.version.subject v.is_in_force,
      found_back id v.version.subject v.is_open,
    ) refl

-- ---- rows of the other tables

pub carrier_back : (id : Value) (c : Spid) → carrier_entry (id ∷ carrier_params c.number)
    ≡ Some (c.number, tt)
carrier_back id c = rw (spid_back c) refl

pub lrn_back : (l : Lrn) (c : Spid) → lrn_entry (stored (owner_params l.number c.number))
    ≡ Some (l.number, c.number)
lrn_back l c = rw (routed_back l, spid_back c) refl

pub code_back : (k : CodeId) (c : Spid) → code_entry (stored (owner_params k.number c.number))
    ≡ Some (k.number, c.number)
code_back k c =
    let n = k.number in
    let v : IsCode n = k.valid in
    rw (is_less n 9223372036854775808 (omega (arith, v.0)), spid_back c) (rw (
      is_less n 1000000 v.0,
      at_most 2 (n / 100000) v.1,
      at_most 2 (n / 100 % 10) v.2,
    ) refl)

pub next_back : (id : ℕ) (r : RoutingImpl) → id < 9223372036854775808
    → next_entry (stored (next_params id (routing_of r))) ≡ Some (id, routing_of r)
next_back id r low = rw (number_back id low, routing_back (Some r)) refl

last_back : (o : Option ℕ) → IfSome o (λ n. n < 9223372036854775808)
    → or_null_in number_in (or_null number_value o) ≡ Some o
last_back None low = refl
last_back (Some n) low = ap (option_map Some) (number_back n low)

pub block_back : (k : BlockId) (b : BlockRowImpl) → IfSome b.last (λ id. id < 9223372036854775808)
    → block_entry (stored (block_params k.number (block_row_of b)))
    ≡ Some (k.number, block_row_of b)
block_back k b last =
    let n = k.number in
    let v : IsBlock n = k.valid in
    rw (
      is_less n 9223372036854775808 (omega (arith, v.0)),
      spid_back b.donor,
      last_back b.last last,
    ) (rw (
      is_less n 10000000 v.0,
      at_most 2 (n / 1000000) v.1,
      at_most 2 (n / 1000 % 10) v.2,
    ) refl)

action_back : (a : Action) → action_in (Text (action_word a)) ≡ Some a
action_back Create = refl
action_back Delete = refl
action_back Modify = refl

pub broadcast_back : (rowid : Value) (k : KeyImpl) (b : BroadcastImpl) → k.id < 9223372036854775808
    → k.attempt < 9223372036854775808
    → broadcast_entry (rowid ∷ broadcast_params (broadcast_key_of k) (broadcast_row_of b))
    ≡ Some (broadcast_key_of k, broadcast_row_of b)
broadcast_back rowid k b low few =
    rw (
      number_back k.id low,
      number_back k.attempt few,
      minute_back b.minute,
      subject_back b.subject,
      action_back b.action,
      routing_back b.routing,
      bool_back b.is_open,
      bool_back b.is_acknowledged,
    ) refl

pub wait_back : (rowid : Value) (k : WaitImpl) (s : SubjectImpl) → k.id < 9223372036854775808
    → k.attempt < 9223372036854775808
    → wait_entry (rowid ∷ wait_params (wait_key_of k) (subject_of s))
    ≡ Some (wait_key_of k, subject_of s)
wait_back rowid k s low few = rw (
  spid_back k.carrier,
  minute_back k.minute,
  number_back k.id low,
  number_back k.attempt few,
  subject_back s,
) refl

window_back : (w : Window) → window_in (Int (pos w.minutes)) ≡ Some w.minutes
window_back w =
    let least : 0 < w.minutes = w.in_range.0 in
    let most : w.minutes ≤ 525600 = w.in_range.1 in
    rw (is_less w.minutes 9223372036854775808 (omega arith))
    (rw (is_less 0 w.minutes least, at_most w.minutes 525600 most) refl)

pub set_back : (set : SetImpl) → 0 < set.number → set.number ≤ 1000
    → set_entry (stored (set_params set.number (windows_of set.windows)))
    ≡ Some (set.number, windows_of set.windows)
set_back set least most =
    let w = set.windows in
    rw (
      set_number_back set.number least most,
      window_back w.initial_concurrence,
      window_back w.final_concurrence,
      window_back w.conflict_restriction,
      window_back w.conflict_resolution,
      window_back w.conflict_expiration,
      window_back w.cancellation_initial,
      window_back w.cancellation_final,
      window_back w.pending_retention,
      window_back w.broadcast,
    ) refl

pub clock_back : (c : ClockImpl) → c.next_id < 9223372036854775808 → 0 < c.present
    → c.present ≤ 1000 → clock_entry (stored (clock_params 0 (clock_of c))) ≡ Some (0, clock_of c)
clock_back c few least most = rw (
  minute_back c.minute,
  number_back c.next_id few,
  set_number_back c.present least most,
) refl
