-- A version's row, as stored and as read.
use Rattle.std.specs.Prelude.{ℕ, pos, Bool, true, [], ◌∷◌, Some, None, is_some, Option, option_map, option_and_then}
use Rattle.sqlite.specs.declared.types.Value.TheVariants.{Null, Int, Text}
use Rattle.sqlite.specs.Order.{Row, column}
use Rattle.sqlite.specs.Values.{or_null}
use Rattle.numbers.specs.Routings.{Routing}
use Rattle.model.specs.Statuses.{Send, Create, Delete, Modify, Status, Pending, Conflict, CancelPending, Sending, Active, PartialFailure, Failed, DisconnectPending, Old, Canceled}
use Rattle.model.specs.Content.{VersionRow, subject_if}
use Rattle.sql_rows.specs.Values.{number_in, subject_in, spid_in, minute_in, found_in, routing_in, or_null_in, status_in, bool_in, set_number_in, number_value, subject_value, spid_value, bool_value, lrn_value, cic_value, status_word, sends_word, release_value, by_value, found_value}

-- The id and the row of a version that a query shows. `held` is the number of the set that it
-- holds.
abbrev pub version_with : (held : Option ℕ) → Row → Option (ℕ × VersionRow)
version_with held r =
    option_and_then
    (λ id. option_and_then
    (λ subject. option_and_then (λ old_provider. option_and_then (λ new_provider. option_and_then
    (λ due.
    option_and_then
    (λ routing. option_and_then
    (λ old_at. option_and_then
    (λ new_at. option_and_then (λ status. option_and_then (λ since. option_and_then (λ held.
    option_and_then
    (λ attempt. option_and_then
    (λ spent. option_and_then
    (λ protective. option_and_then
    (λ deadline. option_and_then (λ is_in_force. option_map (λ is_open. (
      id,
      record {
        subject = subject;
        old_provider = old_provider;
        new_provider = new_provider;
        due = due;
        routing = routing;
        old_at = old_at;
        new_at = new_at;
        status = status;
        since = since;
        held = held;
        attempt = attempt;
        spent = spent;
        protective = protective;
        deadline = deadline;
        holds = subject_if is_in_force subject;
        opens = subject_if is_open subject;
      },
    ))
    (found_in id subject (column r 19))) (found_in id subject (column r 18)))
    (or_null_in minute_in (column r 17))) (bool_in (column r 15))) (bool_in (column r 14)))
    (number_in (column r 12))) held)
    (minute_in (column r 11))) (status_in routing (column r 9) (column r 10) (column r 13)
    (column r 16))) (or_null_in minute_in (column r 8))) (or_null_in minute_in (column r 7)))
    (routing_in (column r 5) (column r 6)))
    (minute_in (column r 4))) (spid_in (column r 3))) (spid_in (column r 2)))
    (subject_in (column r 1))) (number_in (column r 0))

abbrev pub version_in : Row → Option (ℕ × VersionRow)
version_in r = version_with (set_number_in (column r 20)) r

-- A version of an earlier schema: it holds set 1.
abbrev pub old_version_in : Row → Option (ℕ × VersionRow)
old_version_in r = version_with (Some 1) r

-- A stored row as a query shows it.
abbrev pub shown_of : Row → Row
shown_of r =
    column r 0 ∷ column r 2 ∷ column r 3 ∷ column r 4 ∷ column r 5 ∷ column r 6 ∷ column r 7
    ∷ column r 8 ∷ column r 9 ∷ column r 10
    ∷ column r 11 ∷ column r 12 ∷ column r 13 ∷ column r 14 ∷ column r 15 ∷ column r 16 ∷ column r
    17 ∷ column r 18 ∷ column r 19 ∷ column r 20 ∷ column r 21 ∷ []

abbrev pub version_entry : Row → Option (ℕ × VersionRow)
version_entry r = version_in (shown_of r)

abbrev pub old_shown_of : Row → Row
old_shown_of r =
    column r 0 ∷ column r 2 ∷ column r 3 ∷ column r 4 ∷ column r 5 ∷ column r 6 ∷ column r 7
    ∷ column r 8 ∷ column r 9 ∷ column r 10
    ∷ column r 11 ∷ column r 12 ∷ column r 13 ∷ column r 14 ∷ column r 15 ∷ column r 16 ∷ column r
    17 ∷ column r 18 ∷ column r 19 ∷ column r 20 ∷ []

abbrev pub old_version_entry : Row → Option (ℕ × VersionRow)
old_version_entry r = old_version_in (old_shown_of r)

-- A row as its table has it, without the routing that it sends.
abbrev pub bare_send : Option Routing → Send → Send
bare_send own Create = Create
bare_send own Delete = Delete
bare_send None (Modify put) = Modify put
bare_send (Some own) (Modify put) = Modify own

abbrev pub bare_status : Option Routing → Status → Status
bare_status own (Sending action) = Sending (bare_send own action)
bare_status own Pending = Pending
bare_status own Conflict = Conflict
bare_status own (CancelPending by) = CancelPending by
bare_status own Active = Active
bare_status own PartialFailure = PartialFailure
bare_status own Failed = Failed
bare_status own (DisconnectPending release) = DisconnectPending release
bare_status own Old = Old
bare_status own Canceled = Canceled

abbrev pub bare : VersionRow → VersionRow
bare v = record v { status = bare_status v.routing v.status }

-- The routing that a version sends, which has a table of its own, and a bare row with it.
abbrev pub next_of : Status → Option Routing
next_of (Sending (Modify put)) = Some put
next_of _ = None

abbrev pub rerouted_send : Option Routing → Send → Send
rerouted_send (Some put) (Modify own) = Modify put
rerouted_send None (Modify own) = Modify own
rerouted_send next Create = Create
rerouted_send next Delete = Delete

abbrev pub rerouted_status : Option Routing → Status → Status
rerouted_status next (Sending action) = Sending (rerouted_send next action)
rerouted_status next Pending = Pending
rerouted_status next Conflict = Conflict
rerouted_status next (CancelPending by) = CancelPending by
rerouted_status next Active = Active
rerouted_status next PartialFailure = PartialFailure
rerouted_status next Failed = Failed
rerouted_status next (DisconnectPending release) = DisconnectPending release
rerouted_status next Old = Old
rerouted_status next Canceled = Canceled

abbrev pub rerouted : Option Routing → VersionRow → VersionRow
rerouted next v = record v { status = rerouted_status next v.status }

-- The row sending a modify to this routing.
abbrev pub modified_to : Routing → VersionRow → VersionRow
modified_to put v = record v { status = Sending (Modify put) }

-- Whether the version has a routing if it is sending a modify.
abbrev pub is_routed_while_modified : Option Routing → Status → Bool
is_routed_while_modified own (Sending (Modify put)) = is_some own
is_routed_while_modified own _ = true

-- The parameters after the id of the statement that inserts the version.
abbrev pub version_values : ℕ → VersionRow → Row
version_values id v =
    subject_value v.subject ∷ spid_value v.old_provider ∷ spid_value v.new_provider ∷ number_value
    v.due ∷ lrn_value v.routing ∷ cic_value v.routing
    ∷ or_null number_value v.old_at ∷ or_null number_value v.new_at ∷ Text (status_word v.status)
    ∷ Text (sends_word v.status) ∷ number_value v.since
    ∷ number_value v.attempt ∷ release_value v.status ∷ bool_value v.spent ∷ bool_value v.protective
    ∷ by_value v.status
    ∷ or_null number_value v.deadline ∷ found_value id v.holds ∷ found_value id v.opens
    ∷ number_value v.held ∷ []

abbrev pub version_params : ℕ → VersionRow → Row
version_params id v = Int (pos id) ∷ version_values id v

-- The row as stored.
abbrev pub version_row : ℕ → VersionRow → Row
version_row id v = Int (pos id) ∷ Null ∷ version_values id v
