use Rattle.std.proofs.Common.{rules, ◌≡◌, true, false, Some, None, ap, sym, ◌∙◌}
use Rattle.std.specs.Ordering.{is_le, is_lt}
use Rattle.settle.specs.Abstraction.{wait_key_of}
use Rattle.store.specs.QueueRows.{cursor_in, queue_key_of}
use Rattle.store.specs.WaitRows.{download_cmp}
use Rattle.store.proofs.QueueOrder.{IsCursorSet, up-to-set, up-to-at, before-both, moved-back, not-after, not-after-itself, less-before}
use Rattle.store.proofs.queues.move_back.Goals as goal

pub returns-then-lt-clause-cursors : goal.returns-then-lt-clause-cursors
returns-then-lt-clause-cursors c = λ waits s are.
    let is : IsCursorSet c.args.cursors.now.entries
    (c.get_mut.follows.lender c.queue_key-own.result).entries c.args.key.carrier.number
    (Some c.queue_key-own.result) = search rules in
    let there : cursor_in c.args.cursors.now.entries c.args.key.carrier.number
    ≡ Some c.in-Some.cursor.now = search rules in
    let less : is_lt (download_cmp (queue_key_of c.queue_key-own.result)
    (queue_key_of c.in-Some.cursor.now)) ≡ true = search rules in
    moved-back c.args.cursors.now.entries (c.get_mut.follows.lender c.queue_key-own.result).entries
    (wait_key_of c.args.key) (Some c.queue_key-own.result) waits s is (
      ap (λ d. is_le (download_cmp (queue_key_of c.queue_key-own.result) d))
          (sym c.queue_key-own.ensures)
          ∙ not-after-itself (queue_key_of c.queue_key-own.result),
      c.in-Some.cursor.now,
      there,
      less-before (queue_key_of c.queue_key-own.result) (queue_key_of c.in-Some.cursor.now) less,
    ) are

pub returns-else-lt-clause-cursors : goal.returns-else-lt-clause-cursors
returns-else-lt-clause-cursors c = λ waits s are.
    let is : IsCursorSet c.args.cursors.now.entries
    (c.get_mut.follows.lender c.in-Some.cursor.now).entries c.args.key.carrier.number
    (Some c.in-Some.cursor.now) = search rules in
    let there : cursor_in c.args.cursors.now.entries c.args.key.carrier.number
    ≡ Some c.in-Some.cursor.now = search rules in
    let less : is_lt (download_cmp (queue_key_of c.queue_key-own.result)
    (queue_key_of c.in-Some.cursor.now)) ≡ false = search rules in
    moved-back c.args.cursors.now.entries (c.get_mut.follows.lender c.in-Some.cursor.now).entries
    (wait_key_of c.args.key) (Some c.in-Some.cursor.now) waits s is (
      ap (λ d. is_le (download_cmp (queue_key_of c.in-Some.cursor.now) d))
          (sym c.queue_key-own.ensures)
          ∙ not-after (queue_key_of c.queue_key-own.result) (queue_key_of c.in-Some.cursor.now)
          less,
      c.in-Some.cursor.now,
      there,
      not-after-itself (queue_key_of c.in-Some.cursor.now),
    ) are

pub returns-in_default-clause-cursors : goal.returns-in_default-clause-cursors
returns-in_default-clause-cursors c = λ waits s are.
    let is : IsCursorSet c.args.cursors.now.entries c.get_mut.follows.lender-at-none.entries
    c.args.key.carrier.number None = search rules in
    moved-back c.args.cursors.now.entries c.get_mut.follows.lender-at-none.entries
    (wait_key_of c.args.key) None waits s is tt are

-- ---- the latest cursor

pub returns-then-lt-clause-latest : goal.returns-then-lt-clause-latest
returns-then-lt-clause-latest c = λ latest are.
    let is : IsCursorSet c.args.cursors.now.entries
    (c.get_mut.follows.lender c.queue_key-own.result).entries c.args.key.carrier.number
    (Some c.queue_key-own.result) = search rules in
    let there : cursor_in c.args.cursors.now.entries c.args.key.carrier.number
    ≡ Some c.in-Some.cursor.now = search rules in
    let less : is_lt (download_cmp (queue_key_of c.queue_key-own.result)
    (queue_key_of c.in-Some.cursor.now)) ≡ true = search rules in
    up-to-set c.args.cursors.now.entries (c.get_mut.follows.lender c.queue_key-own.result).entries
    c.args.key.carrier.number (Some c.queue_key-own.result) latest is
    (before-both (queue_key_of c.queue_key-own.result) (queue_key_of c.in-Some.cursor.now) latest
    (less-before (queue_key_of c.queue_key-own.result) (queue_key_of c.in-Some.cursor.now) less)
    (up-to-at c.args.cursors.now.entries c.args.key.carrier.number c.in-Some.cursor.now latest there
    are))
    are

pub returns-else-lt-clause-latest : goal.returns-else-lt-clause-latest
returns-else-lt-clause-latest c = λ latest are.
    let is : IsCursorSet c.args.cursors.now.entries
    (c.get_mut.follows.lender c.in-Some.cursor.now).entries c.args.key.carrier.number
    (Some c.in-Some.cursor.now) = search rules in
    let there : cursor_in c.args.cursors.now.entries c.args.key.carrier.number
    ≡ Some c.in-Some.cursor.now = search rules in
    up-to-set c.args.cursors.now.entries (c.get_mut.follows.lender c.in-Some.cursor.now).entries
    c.args.key.carrier.number (Some c.in-Some.cursor.now) latest is
    (up-to-at c.args.cursors.now.entries c.args.key.carrier.number c.in-Some.cursor.now latest there
    are)
    are

pub returns-in_default-clause-latest : goal.returns-in_default-clause-latest
returns-in_default-clause-latest c = λ latest are.
    let is : IsCursorSet c.args.cursors.now.entries c.get_mut.follows.lender-at-none.entries
    c.args.key.carrier.number None = search rules in
    up-to-set c.args.cursors.now.entries c.get_mut.follows.lender-at-none.entries
    c.args.key.carrier.number None latest is tt are
