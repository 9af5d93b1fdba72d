-- The response `storage` is neither an answer of the machine nor the response to a refused message.
use Rattle.std.proofs.Common.{◌≡◌, ◌⊎◌, ◌≤◌, ◌<◌, ℕ, List, [], ◌∷◌, ◌++◌, length, get_or, decimal, codes, Bool, true, false, Option, Some, None, inl, inr, refl, ap, sym, subst, ◌∙◌, arith}
use Rattle.std.specs.List.{list_any}
use Rattle.std.specs.Prelude.{◌==◌, ◌&&◌, ◌||◌, if◌then◌else◌, ⊤}
use Rattle.itoa.proofs.Decimal.{decimal_two, pair}
use Rattle.numbers.proofs.Small.{and_first, and_second, equal_number, some_is}
use Rattle.numbers.specs.declared.spid.Spid.{Spid}
use Rattle.settle.specs.Reads.{HasDeviceFailed}
use Rattle.model.specs.Commands.{VersionCommand, Activate, Command, RegisterCarrier, RegisterRoutingNumber, OpenCode, OldProviderCreate, NewProviderCreate, OnVersion, Donate, Assign, Release, SetWindows}
use Rattle.model.specs.History.{CommandRequest, AcknowledgementRequest}
use Rattle.model.specs.Machine.{Reply, Refused, Moved, Registered, LrnAdded, CodeOpened, Shown, Donated, Known, Fetched, Answered, Rows, Awaited, Found, WindowsSet, out, accepted, refused_or, reply_of, answer_of}
use Rattle.model.specs.State.{State}
use Rattle.model.specs.Refusals.{Input, ClockMoment, RequestFrom, QuestionFrom, Question, Knows, Fetch, ShowVersion, Query, AllInForce, Waiting, Ids, npac, refusal, tests, own_tests, first_refusal}
use Rattle.json_api.specs.Response.{response, refusal_body, phrase}
use Rattle.json_api.specs.Failures.{failure_text}
use Rattle.requests.specs.Calls.{ModelCall, RequestCall, QuestionCall, MomentCall, input_of}
use Rattle.json_api.specs.Forms.{ApiCall, RegisterCall, UriQuery}
use Rattle.json_api.specs.RefusalTexts.{refusal_text}
use Rattle.api.specs.Step.{Step, Dispatches, DispatchesPath, DispatchesCall, RespondsTo, RespondsToAdmitted, caller_refusal, RespondsToQuery, RespondsToUri, IsUnavailable, IsTickUnavailable, RespondsAsMachine, ticked, success, reply_text, routed_text}
use Rattle.json_api.specs.Texts.{registered_text, donated_text, routing_number_text, opened_code_text, ids_text, now_text, windows_set_text, view_text, looked_up, uri_text, downloads_text}
use Rattle.json_api.specs.declared.fault.Failure.TheVariants.{Uri, Message}
use Rattle.http_messages.specs.declared.fault.MessageFault.TheVariants.{BadRequest, NoPath, BadMethod}
use Rattle.telnp.specs.declared.fault.TelFault.{TelFault}
use Rattle.telnp.specs.Answer.{Uri as TelUri}
use Rattle.http_messages.specs.declared.message.Request.{Request}
use Rattle.http_messages.specs.declared.paths.Method.{Method}
use Rattle.http_messages.specs.declared.paths.Route.{Route}
use Rattle.http_messages.specs.Table.{allows_method, offered_route}

-- Holds if the text is not the response `storage`.
abbrev Differs : List ℕ → Type 0
Differs text = ¬ (text ≡ refusal_text 29)

-- ---- texts differ in the first digit of the status, after `HTTP/1.1 `

abbrev class_of : List ℕ → ℕ
class_of text = get_or text 9 0

class_of_storage : class_of (refusal_text 29) ≡ 53
unfolding refusal_text failure_text
class_of_storage = refl

by_class : (text : List ℕ) (digit : ℕ) → class_of text ≡ digit → digit < 53 → Differs text
by_class text digit is below e =
    let same : digit ≡ 53 = sym is ∙ ap class_of e ∙ class_of_storage in
    omega (arith, same, below)

succeeds : (body : List ℕ) → Differs (success body)
unfolding success
succeeds body = by_class (success body) 50 refl (omega arith)

nothing : Differs []
nothing = by_class [] 0 refl (omega arith)

no_path : Differs (failure_text (Message NoPath))
unfolding failure_text
no_path = by_class (failure_text (Message NoPath)) 52 refl (omega arith)

bad_method : Differs (failure_text (Message BadMethod))
unfolding failure_text
bad_method = by_class (failure_text (Message BadMethod)) 52 refl (omega arith)

bad_request : Differs (failure_text (Message BadRequest))
unfolding failure_text
bad_request = by_class (failure_text (Message BadRequest)) 52 refl (omega arith)

bad_uri : (fault : TelFault) → Differs (failure_text (Uri fault))
unfolding failure_text
bad_uri fault = by_class (failure_text (Uri fault)) 52 refl (omega arith)

-- ---- texts of status 503 differ in the second digit of the body's length

abbrev digit_of : List ℕ → ℕ
digit_of text = get_or text 83 0

-- The body of a refusal, with its number as digits.
abbrev with_digits : (name digits : List ℕ) → List ℕ
with_digits name digits = codes "{\"error\":\"" ++ name ++ codes "\",\"number\":" ++ digits ++ codes
    "}"

body_is : (name : List ℕ) (n : ℕ) → 10 ≤ n → n < 100
    → refusal_body name n ≡ with_digits name (pair n)
body_is name n low high = ap (with_digits name) (decimal_two n low high)

digit_is : (body : List ℕ) (n : ℕ) → length body ≡ n → 10 ≤ n → n < 100
    → digit_of (response 503 body) ≡ get_or (pair n) 1 0
unfolding phrase
digit_is body n is low high =
    ap (λ (digits : List ℕ). get_or ((digits ++ codes "\r\n\r\n") ++ body) 1 0) (ap decimal is
    ∙ decimal_two n low high)

digit_told : (name : List ℕ) (number n : ℕ) → 10 ≤ number → number < 100
    → length (with_digits name (pair number)) ≡ n → 10 ≤ n → n < 100
    → digit_of (response 503 (refusal_body name number)) ≡ get_or (pair n) 1 0
digit_told name number n low high is from to =
    digit_is (refusal_body name number) n (ap length (body_is name number low high) ∙ is) from to

full_digit : digit_of (refusal_text 28) ≡ 56
unfolding refusal_text failure_text
full_digit = digit_told (codes "full") 28 28 (omega arith) (omega arith) refl (omega arith)
    (omega arith)

storage_digit : digit_of (refusal_text 29) ≡ 49
unfolding refusal_text failure_text
storage_digit = digit_told (codes "storage") 29 31 (omega arith) (omega arith) refl (omega arith)
    (omega arith)

memory_digit : digit_of (refusal_text 30) ≡ 51
unfolding refusal_text failure_text
memory_digit = digit_told (codes "no_memory") 30 33 (omega arith) (omega arith) refl (omega arith)
    (omega arith)

by_digit : (text : List ℕ) (digit : ℕ) → digit_of text ≡ digit → 49 < digit → Differs text
by_digit text digit is above e =
    let same : digit ≡ 49 = sym is ∙ ap digit_of e ∙ storage_digit in
    omega (arith, same, above)

full : Differs (refusal_text 28)
full = by_digit (refusal_text 28) 56 full_digit (omega arith)

memory : Differs (refusal_text 30)
memory = by_digit (refusal_text 30) 51 memory_digit (omega arith)

-- ---- the machine's refusals

-- Holds if no test's number has the response `storage`.
abbrev AllDiffer : List (ℕ × Bool) → Type 0
AllDiffer [] = ⊤
AllDiffer (t ∷ ts) = Differs (refusal_text t.0) × AllDiffer ts

none_is : (k : ℕ) → ¬ (None ≡ Some k)
none_is k e = cc

pick : (n k : ℕ) (holds : Bool) (rest : Option ℕ) → Differs (refusal_text n)
    → (rest ≡ Some k → Differs (refusal_text k)) → (if holds then Some n else rest) ≡ Some k
    → Differs (refusal_text k)
pick n k true rest differs later e =
    subst (λ (m : ℕ). Differs (refusal_text m)) (some_is n k e) differs
pick n k false rest differs later e = later e

first_differs : (ts : List (ℕ × Bool)) → AllDiffer ts → (k : ℕ) → first_refusal ts ≡ Some k
    → Differs (refusal_text k)
first_differs [] all k e = absurd (none_is k e)
first_differs (t ∷ ts) all k e =
    pick t.0 k t.1 (first_refusal ts) all.0 (first_differs ts all.1 k) e

by_number : (k : ℕ) → class_of (refusal_text k) ≡ 52 → Differs (refusal_text k)
by_number k is = by_class (refusal_text k) 52 is (omega arith)

-- The numbers of the refusals of commands.
abbrev command_numbers : List ℕ
command_numbers =
    1 ∷ 2 ∷ 3 ∷ 4 ∷ 5 ∷ 6 ∷ 7 ∷ 8 ∷ 9 ∷ 10 ∷ 11 ∷ 12 ∷ 13 ∷ 14 ∷ 15 ∷ 16 ∷ 17 ∷ 18 ∷ 19 ∷ 20
    ∷ 21 ∷ 22 ∷ 23 ∷ 24 ∷ 28 ∷ []

abbrev EachDiffers : List ℕ → Type 0
EachDiffers [] = ⊤
EachDiffers (n ∷ ns) = Differs (refusal_text n) × EachDiffers ns

numbers_differ : EachDiffers command_numbers
unfolding refusal_text failure_text
numbers_differ = (
  by_number 1 refl,
  (
    by_number 2 refl,
    (
      by_number 3 refl,
      (
        by_number 4 refl,
        (
          by_number 5 refl,
          (
            by_number 6 refl,
            (
              by_number 7 refl,
              (
                by_number 8 refl,
                (
                  by_number 9 refl,
                  (
                    by_number 10 refl,
                    (
                      by_number 11 refl,
                      (
                        by_number 12 refl,
                        (
                          by_number 13 refl,
                          (
                            by_number 14 refl,
                            (
                              by_number 15 refl,
                              (
                                by_number 16 refl,
                                (
                                  by_number 17 refl,
                                  (
                                    by_number 18 refl,
                                    (
                                      by_number 19 refl,
                                      (
                                        by_number 20 refl,
                                        (
                                          by_number 21 refl,
                                          (
                                            by_number 22 refl,
                                            (by_number 23 refl, (by_number 24 refl, (full, tt))),
                                          ),
                                        ),
                                      ),
                                    ),
                                  ),
                                ),
                              ),
                            ),
                          ),
                        ),
                      ),
                    ),
                  ),
                ),
              ),
            ),
          ),
        ),
      ),
    ),
  ),
)

differs_among : (ns : List ℕ) → EachDiffers ns → (k : ℕ) → list_any (λ n. n == k) ns ≡ true
    → Differs (refusal_text k)
differs_among [] each k is = cc
differs_among (n ∷ ns) each k is = by_cases (differs_among ns each.1 k) (n == k) refl is
  where
    by_cases : (list_any (λ m. m == k) ns ≡ true → Differs (refusal_text k)) → (b : Bool)
        → (n == k) ≡ b → (b || list_any (λ m. m == k) ns) ≡ true → Differs (refusal_text k)
    by_cases later true e f =
        subst (λ (m : ℕ). Differs (refusal_text m)) (equal_number n k e) each.0
    by_cases later false e f = later f

-- Whether the tests have such numbers.
abbrev have_numbers : List (ℕ × Bool) → Bool
have_numbers [] = true
have_numbers (t ∷ ts) = list_any (λ n. n == t.0) command_numbers && have_numbers ts

each_test_differs : (ts : List (ℕ × Bool)) → have_numbers ts ≡ true → AllDiffer ts
each_test_differs [] have = tt
each_test_differs (t ∷ ts) have = (
  differs_among command_numbers numbers_differ t.0
      (and_first (list_any (λ n. n == t.0) command_numbers) (have_numbers ts) have),
  each_test_differs ts
      (and_second (list_any (λ n. n == t.0) command_numbers) (have_numbers ts) have),
)

changes_differ : (st : State) (caller id : ℕ) (c : VersionCommand)
    → AllDiffer (own_tests st caller (OnVersion id c))
changes_differ st caller id Activate =
    each_test_differs (own_tests st caller (OnVersion id Activate)) refl
changes_differ st caller id c = each_test_differs (own_tests st caller (OnVersion id c)) refl

commands_differ : (st : State) (caller : ℕ) (c : Command) → AllDiffer (own_tests st caller c)
commands_differ st caller (OnVersion id c) = changes_differ st caller id c
commands_differ st caller c = each_test_differs (own_tests st caller c) refl

acknowledgements_differ : (st : State) (caller id attempt : ℕ)
    → AllDiffer (tests st (RequestFrom caller (AcknowledgementRequest id attempt)))
unfolding tests refusal_text failure_text
acknowledgements_differ st caller id attempt = (
  by_number 1 refl,
  (by_number 10 refl, (by_number 25 refl, (by_number 26 refl, tt))),
)

moments_differ : (st : State) (minute : ℕ) → AllDiffer (tests st (ClockMoment minute))
unfolding tests refusal_text failure_text
moments_differ st minute = (by_number 27 refl, tt)

questions_differ : (st : State) (caller : ℕ) (q : Question)
    → AllDiffer (tests st (QuestionFrom caller q))
unfolding tests refusal_text failure_text
questions_differ st caller Knows = (by_number 1 refl, tt)
questions_differ st caller (Fetch n) = (by_number 1 refl, tt)
questions_differ st caller (ShowVersion id) = (by_number 1 refl, (by_number 10 refl, tt))
questions_differ st caller (Query tn) = (by_number 1 refl, tt)
questions_differ st caller AllInForce = tt
questions_differ st caller Waiting = (by_number 1 refl, tt)
questions_differ st caller (Ids tn) = tt

all_differ : (st : State) (caller : ℕ) (c : Command)
    → AllDiffer (tests st (RequestFrom caller (CommandRequest c)))
unfolding tests
all_differ st caller c = commands_differ st caller c

-- ---- the machine's replies

-- Holds if the reply is to an accepted input.
abbrev Accepts : Reply → Type 0
Accepts reply = (k : ℕ) → ¬ (reply ≡ Refused k)

refused_by : (o : Option ℕ) (reply : Reply) (k : ℕ) → Accepts reply → refused_or o reply ≡ Refused k
    → o ≡ Some k
refused_by None reply k accepts e = absurd (accepts k e)
refused_by (Some n) reply k accepts e = cc

reply_accepts : (st new : State) (caller : ℕ) (c : Command) → Accepts (reply_of st new caller c)
reply_accepts st new caller (RegisterCarrier spid) k e = cc
reply_accepts st new caller (RegisterRoutingNumber lrn) k e = cc
reply_accepts st new caller (OpenCode code holder) k e = cc
reply_accepts st new caller (SetWindows windows) k e = cc
reply_accepts st new caller (OldProviderCreate tn old_provider new_provider due authorized) k e = cc
reply_accepts st new caller (NewProviderCreate tn old_provider new_provider due lrn cic) k e = cc
reply_accepts st new caller (OnVersion id command) k e = cc
reply_accepts st new caller (Donate block used lrn cic) k e = cc
reply_accepts st new caller (Assign block holder lrn cic) k e = cc
reply_accepts st new caller (Release block) k e = cc

machine_differs : (st : State) (input : Input) (k : ℕ)
    → Accepts (answer_of st (accepted st input) input) → AllDiffer (tests st input)
    → out st input ≡ Refused k → Differs (refusal_text k)
unfolding out
machine_differs st input k accepts all e =
    first_differs (tests st input) all k
    (refused_by (refusal st input) (answer_of st (accepted st input) input) k accepts e)

reply_differs : (reply : Reply) → ((k : ℕ) → reply ≡ Refused k → Differs (refusal_text k))
    → Differs (reply_text reply)
reply_differs (Refused number) machine = machine number refl
reply_differs (Shown (Some view)) machine = succeeds (view_text view)
reply_differs (Shown None) machine = nothing
reply_differs (Registered spid rows) machine = succeeds (registered_text spid rows)
reply_differs (LrnAdded lrn spid) machine = succeeds (routing_number_text lrn spid)
reply_differs (CodeOpened code spid) machine = succeeds (opened_code_text code spid)
reply_differs (Moved now) machine = succeeds (now_text now)
reply_differs (Donated block ids) machine = succeeds (donated_text block ids)
reply_differs Known machine = nothing
reply_differs (Fetched downloads) machine = succeeds (downloads_text downloads)
reply_differs (Answered answered) machine = nothing
reply_differs (Rows rows) machine = nothing
reply_differs (Awaited subjects) machine = nothing
reply_differs (Found in_force opened) machine = succeeds (ids_text in_force opened)
reply_differs (WindowsSet now number) machine = succeeds (windows_set_text now number)

routed_differs : (uri : TelUri) (reply : Reply)
    → ((k : ℕ) → reply ≡ Refused k → Differs (refusal_text k)) → Differs (routed_text uri reply)
routed_differs uri (Refused number) machine = machine number refl
routed_differs uri (Answered answered) machine = succeeds (uri_text (looked_up uri answered))
routed_differs uri (Shown view) machine = nothing
routed_differs uri (Registered spid rows) machine = nothing
routed_differs uri (LrnAdded lrn spid) machine = nothing
routed_differs uri (CodeOpened code spid) machine = nothing
routed_differs uri (Moved now) machine = nothing
routed_differs uri (Donated block ids) machine = nothing
routed_differs uri Known machine = nothing
routed_differs uri (Fetched downloads) machine = nothing
routed_differs uri (Rows rows) machine = nothing
routed_differs uri (Awaited subjects) machine = nothing
routed_differs uri (Found in_force opened) machine = nothing
routed_differs uri (WindowsSet now number) machine = nothing

takes_differs : (st : State) (input : Input) (after : State) → ((k : ℕ) → out st input ≡ Refused k
    → Differs (refusal_text k)) → ¬ (RespondsAsMachine st input (refusal_text 29) after)
takes_differs st input after machine x = reply_differs (out st input) machine (sym x.0)

question_accepts : (st new : State) (caller : ℕ) (q : Question)
    → Accepts (answer_of st new (QuestionFrom caller q))
question_accepts st new caller Knows k e = cc
question_accepts st new caller (Fetch n) k e = cc
question_accepts st new caller (ShowVersion id) k e = cc
question_accepts st new caller (Query tn) k e = cc
question_accepts st new caller AllInForce k e = cc
question_accepts st new caller Waiting k e = cc
question_accepts st new caller (Ids tn) k e = cc

call_accepts : (st new : State) (caller : ℕ) (called : ModelCall)
    → Accepts (answer_of st new (input_of caller called))
call_accepts st new caller (RequestCall (CommandRequest c)) k e = reply_accepts st new caller c k e
call_accepts st new caller (RequestCall (AcknowledgementRequest id attempt)) k e = cc
call_accepts st new caller (QuestionCall q) k e = question_accepts st new caller q k e
call_accepts st new caller (MomentCall minute) k e = cc

calls_differ : (st : State) (caller : ℕ) (called : ModelCall)
    → AllDiffer (tests st (input_of caller called))
calls_differ st caller (RequestCall (CommandRequest c)) = all_differ st caller c
calls_differ st caller (RequestCall (AcknowledgementRequest id attempt)) =
    acknowledgements_differ st caller id attempt
calls_differ st caller (QuestionCall q) = questions_differ st caller q
calls_differ st caller (MomentCall minute) = moments_differ st minute

call_differs : (st : State) (caller : ℕ) (called : ModelCall) (k : ℕ)
    → out st (input_of caller called) ≡ Refused k → Differs (refusal_text k)
call_differs st caller called k =
    machine_differs st (input_of caller called) k
    (call_accepts st (accepted st (input_of caller called)) caller called)
    (calls_differ st caller called)

not_admin : Differs (refusal_text 2)
unfolding refusal_text failure_text
not_admin = by_number 2 refl

stranger_differs : (b : Bool) (k : ℕ) → (if b then None else Some 2) ≡ Some k
    → Differs (refusal_text k)
stranger_differs true k e = absurd (none_is k e)
stranger_differs false k e =
    subst (λ (m : ℕ). Differs (refusal_text m)) (some_is 2 k e) not_admin

caller_refusal_differs : (st : State) (caller : ℕ) (called : ModelCall) (k : ℕ)
    → caller_refusal st caller called ≡ Some k → Differs (refusal_text k)
caller_refusal_differs st caller (MomentCall minute) k e = stranger_differs (caller == npac) k e
caller_refusal_differs st caller (QuestionCall (Ids tn)) k e =
    first_differs (tests st (QuestionFrom caller Knows)) (questions_differ st caller Knows) k e
caller_refusal_differs st caller (QuestionCall Knows) k e = absurd (none_is k e)
caller_refusal_differs st caller (QuestionCall (Fetch n)) k e = absurd (none_is k e)
caller_refusal_differs st caller (QuestionCall (ShowVersion id)) k e = absurd (none_is k e)
caller_refusal_differs st caller (QuestionCall (Query tn)) k e = absurd (none_is k e)
caller_refusal_differs st caller (QuestionCall AllInForce) k e = absurd (none_is k e)
caller_refusal_differs st caller (QuestionCall Waiting) k e = absurd (none_is k e)
caller_refusal_differs st caller (RequestCall request) k e = absurd (none_is k e)

admitted_differs : (st : State) (caller_refused : Option ℕ) (input : Input) (after : State)
    → ((k : ℕ) → caller_refused ≡ Some k → Differs (refusal_text k))
    → ((k : ℕ) → out st input ≡ Refused k
    → Differs (refusal_text k)) →
    ¬ (RespondsToAdmitted st caller_refused input (refusal_text 29) after)
admitted_differs st (Some number) input after refused machine x = refused number refl (sym x.0)
admitted_differs st None input after refused machine x = takes_differs st input after machine x

uri_differs : (st : State) (caller : ℕ) (uri : TelUri)
    → ¬ (RespondsToUri st caller uri (refusal_text 29))
uri_differs st caller uri (inl x) = succeeds (uri_text uri.text) (sym x.1)
uri_differs st caller uri (inr x) =
    routed_differs uri (out st (QuestionFrom caller (Query x.0)))
    (λ k. call_differs st caller (QuestionCall (Query x.0)) k) (sym x.2)

query_differs : (st : State) (caller : ℕ) (uri : List ℕ)
    → ¬ (RespondsToQuery st caller uri (refusal_text 29))
query_differs st caller uri (inl x) = call_differs st caller (QuestionCall Knows) x.0 x.1 (sym x.2)
query_differs st caller uri (inr (inl x)) = bad_uri x.1.0 (sym x.1.2)
query_differs st caller uri (inr (inr x)) = uri_differs st caller x.1.0 x.1.2

-- ---- messages

-- Holds if the device failed, and the state stays.
abbrev Tells : (from to : ℕ) → (st after : State) → Type 0
Tells from to st after = HasDeviceFailed from to × (after ≡ st)

withheld_tells : (from to : ℕ) (st after : State) → IsUnavailable from to st (refusal_text 29) after
    → Tells from to st after
withheld_tells from to st after (inl x, e) = (x.1, e)
withheld_tells from to st after (inr x, e) = absurd (memory (sym x))

answers_tell : (from to : ℕ) (st : State) (caller : ℕ) (asked : ApiCall) (after : State)
    → RespondsTo from to st caller asked (refusal_text 29) after → Tells from to st after
answers_tell from to st caller (RegisterCall called) after (inl x) =
    withheld_tells from to st after x
answers_tell from to st caller (RegisterCall called) after (inr x) =
    absurd (admitted_differs st (caller_refusal st caller called) (input_of caller called) after
    (caller_refusal_differs st caller called) (call_differs st caller called) x)
answers_tell from to st caller (UriQuery uri) after (inl x) = withheld_tells from to st after x
answers_tell from to st caller (UriQuery uri) after (inr x) =
    absurd (query_differs st caller uri x.0)

calls_tell : (from to : ℕ) (st : State) (IsAsked : ApiCall → Type 0) (caller : ℕ) (after : State)
    → DispatchesCall from to st IsAsked caller (refusal_text 29) after → Tells from to st after
calls_tell from to st IsAsked caller after (inl x) = withheld_tells from to st after x
calls_tell from to st IsAsked caller after (inr (inl x)) = absurd (bad_request (sym x.1.0))
calls_tell from to st IsAsked caller after (inr (inr x)) =
    answers_tell from to st caller x.0 after x.2

path_tells : (from to : ℕ) (st : State) (route : Route) (has_method : Bool) (caller : Option Spid)
    (body : List ℕ) (after : State) →
    DispatchesPath from to st route has_method caller body (refusal_text 29) after
    → Tells from to st after
path_tells from to st route false caller body after x = absurd (bad_method (sym x.0))
path_tells from to st route true None body after x = absurd (bad_request (sym x.0))
path_tells from to st route true (Some caller) body after x =
    calls_tell from to st _ caller.number after x

meets_tell : (from to : ℕ) (st : State) (route : Option Route) (method : Method)
    (caller : Option Spid) (body : List ℕ) (after : State) →
    Dispatches from to st route method caller body (refusal_text 29) after → Tells from to st after
meets_tell from to st None method caller body after x = absurd (no_path (sym x.0))
meets_tell from to st (Some route) method caller body after x =
    path_tells from to st route (allows_method route method) caller body after x

-- The response `storage` implies a failure of the device, whether the clock's move failed or a
-- later step.
step_tells : (tick : Option ℕ) (from to : ℕ) (st : State) (route : Option Route) (method : Method)
    (caller : Option Spid) (body : List ℕ) (after : State) →
    IsTickUnavailable from to st tick (refusal_text 29) after
    ⊎ Dispatches from to (ticked st tick) route method caller body (refusal_text 29) after
    → HasDeviceFailed from to × ((after ≡ st) ⊎ (after ≡ ticked st tick))
step_tells None from to st route method caller body after (inl x) = absurd x
step_tells (Some minute) from to st route method caller body after (inl x) = let told =
    withheld_tells from to st after x in (told.0, inl told.1)
step_tells tick from to st route method caller body after (inr x) = let told =
    meets_tell from to (ticked st tick) route method caller body after x in (told.0, inr told.1)

pub storage_tells : (offered : Bool) (tick : Option ℕ) (from to : ℕ) (st : State)
    (request : Request) (body : List ℕ) (after : State) →
    Step offered tick from to st request body (refusal_text 29) after → HasDeviceFailed from to
    × ((after ≡ st) ⊎ (after ≡ ticked st tick))
storage_tells offered tick from to st request body after x =
    step_tells tick from to st (offered_route offered request.route) request.method request.caller
    body after x.outcome
