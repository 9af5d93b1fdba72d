-- What the bytes that have arrived begin with, by their first 8,192.
use Rattle.std.proofs.Common.{◌≡◌, ℕ, ◌+◌, ◌<◌, ◌≤◌, Bool, true, false, List, [], ◌++◌, length, take, drop, min, refl, sym, ap, ◌∙◌, subst, arith, length-append, append-nil, append_assoc}
use Rattle.std.proofs.lemmas.List.{take-append-drop, drop-drop, length-drop, length-take-le}
use Rattle.std.proofs.Math.Seq.{drop-append_seam}
use Rattle.httparse.specs.Grammar.{RequestHead, ReadsRequest, HasNoRequest, print_request}
use Rattle.httparse.specs.Spans.{RequestOverflows}
use Rattle.httparse.proofs.GrammarLemmas.{ReadsRequest-append}
use Rattle.http_messages.specs.Arrived.{HasArrived, IsStart, IsWholeAt, WaitsForBody, WantsMore}
use Rattle.http_messages.specs.Blank.{is_blank}
use Rattle.http_messages.specs.Fields.{body_length}
use Rattle.http_messages.specs.Head.{HasHead, IsBad, IsBlank}
use Rattle.http_messages.specs.Parsing.{IsCutShort, IsRequestOf, ParsesAs, RefusedMessage, RefusesHead}
use Rattle.http_messages.specs.declared.arrived.Arrived.TheVariants.{Nothing, Refused}
use Rattle.http_messages.specs.declared.fault.MessageFault.{MessageFault}
use Rattle.http_messages.specs.declared.fault.MessageFault.TheVariants.{BadRequest, NoPath, BadMethod, TooLarge, BadHead, CutBody}
use Rattle.http_messages.specs.declared.message.Request.{Request}
use Rattle.http_messages.proofs.BlankLemmas.{lines, not_lines}
use Rattle.http_messages.proofs.UniqueHeads.{full_no_head, head_more, head_not_blank, one_head, overflow_not_lines}
use Rattle.numbers.proofs.Small.{no_members, some_is}

-- ---- bytes that begin with a head

-- Holds if the bytes begin with a head of this length.
pub record BeginsWith (input : List ℕ) (len : ℕ) (h : RequestHead) : Type 0 where
  pub has : HasHead input h (drop len input)
  pub fits : len ≤ length input

-- A head that is found in the first bytes.
pub begins_with : (n : ℕ) (input : List ℕ) (len : ℕ) (h : RequestHead)
    → n ≡ min (length input) 8192 → ReadsRequest (take n input) h (drop len (take n input))
    → len ≡ length (print_request h) → length h.fields ≤ 64 → BeginsWith input len h
begins_with n input len h n_is reads len_is few =
    let most : n ≤ 8192 = omega (arith, n_is) in
    let there : n ≤ length input = omega (arith, n_is) in
    let rest : List ℕ = drop len (take n input) ++ drop n input in
    let whole : ReadsRequest input h rest =
    subst (λ (t : List ℕ). ReadsRequest t h rest) (take-append-drop n input)
    (ReadsRequest-append (take n input) h (drop len (take n input)) (drop n input) reads) in
    let after_head : drop len input ≡ rest = ap (drop len) whole.1
    ∙ ap (λ k. drop k (print_request h ++ rest)) len_is ∙ drop-append_seam (print_request h) rest in
    record {
      has = record {
        reads = subst (ReadsRequest input h) (sym after_head) whole;
        short = omega (
          arith,
          most,
          length-take-le n input there,
          ap length reads.1,
          length-append (print_request h) (drop len (take n input)),
        );
        few = few;
      };
      fits = omega (arith, len_is, ap length whole.1, length-append (print_request h) rest);
    }

refused_here : (input rest : List ℕ) (h : RequestHead) (fault : MessageFault)
    → HasHead input h rest → RefusesHead h fault
    → ParsesAs input (RefusedMessage fault)
refused_here input rest h BadHead x refuses =
    record {
      not_blank = head_not_blank input h rest x;
      none = λ k q y. ap body_length (one_head input k h q rest y x).0 ∙ refuses;
    }
refused_here input rest h TooLarge x refuses = record {
  head = h;
  rest = rest;
  front = x;
  large = refuses;
}
refused_here input rest h CutBody x refuses = absurd refuses
refused_here input rest h BadRequest x refuses = absurd refuses
refused_here input rest h NoPath x refuses = absurd refuses
refused_here input rest h BadMethod x refuses = absurd refuses

module _ (input : List ℕ) (len : ℕ) (h : RequestHead) (begins : BeginsWith input len h) where
  pub head_refused : (fault : MessageFault) → RefusesHead h fault → (more : List ℕ)
      → ParsesAs (input ++ more) (RefusedMessage fault)
  head_refused fault refuses more =
      refused_here (input ++ more) (drop len input ++ more) h fault
      (head_more input h (drop len input) more begins.has) refuses

  module _ (request : Request) (asks : IsRequestOf h request)
      (small : request.length ≤ 1048576) where
    pub whole_at : len + request.length ≤ length input → IsWholeAt input request len
    whole_at fits =
        let body : List ℕ = take request.length (drop len input) in
        let rest : List ℕ = drop (len + request.length) input in
        let after_head : drop len input ≡ body ++ rest =
        sym (take-append-drop request.length (drop len input))
        ∙ ap (λ (t : List ℕ). body ++ t) (drop-drop request.length len input) in
        let enough : request.length ≤ length (drop len input) =
        omega (arith, fits, length-drop len input) in
        let size : length body ≡ request.length =
        length-take-le request.length (drop len input) enough in record {
          fits = fits;
          parses = record {
            head = h;
            front = subst (HasHead input h) after_head begins.has;
            asks = asks;
            whole = size;
            small = omega (arith, size, small);
          };
        }

    pub body_cut : length input < len + request.length → (more : List ℕ) → more ≡ []
        → IsCutShort (input ++ more)
    body_cut short more none = record {
      head = h;
      rest = drop len input ++ more;
      front = head_more input h (drop len input) more begins.has;
      size = request.length;
      has_size = asks.length;
      small = small;
      short = omega (
        arith,
        short,
        begins.fits,
        length-append (drop len input) more,
        length-drop len input,
        ap length none,
      );
    }

    pub body_missing : length input < len + request.length
        → WaitsForBody input (len + request.length)
    body_missing short = record {
      head = h;
      rest = drop len input;
      front = begins.has;
      size = request.length;
      has_size = asks.length;
      small = small;
      missing = omega (arith, short, begins.fits, length-drop len input);
      ends = omega (arith, begins.fits, length-drop len input);
    }

    pub body_wanted : WantsMore input (len + request.length)
    body_wanted more short other body rest parses =
        let heads = one_head (input ++ more) h parses.head (drop len input ++ more) (body ++ rest)
        (head_more input h (drop len input) more begins.has) parses.front in
        let size : request.length ≡ other.length = some_is request.length other.length
        (sym asks.length ∙ ap body_length heads.0 ∙ parses.asks.length) in
        absurd (omega (
          arith,
          short,
          begins.fits,
          size,
          parses.whole,
          ap length heads.1,
          length-append (drop len input) more,
          length-append input more,
          length-append body rest,
          length-drop len input,
        ))

-- ---- bytes that do not

overflow_bad : (start more : List ℕ) → RequestOverflows 64 start → IsBad (start ++ more)
overflow_bad start more over = record {
  not_blank = λ blank. overflow_not_lines start more blank.0.0 over blank.0.1;
  none = λ h rest has. absurd (omega (arith, over more h rest has.reads, has.few));
}

full_bad : (start more : List ℕ) → length start ≡ 8192 → HasNoRequest start → IsBad (start ++ more)
full_bad start more long none = record {
  not_blank = λ blank. absurd (omega (arith, blank.1, long, length-append start more));
  none = λ h rest has. absurd (full_no_head start more h rest long none has);
}

ended_bad : (start : List ℕ) → HasNoRequest start → is_blank start ≡ false → IsBad start
ended_bad start none blank = record {
  not_blank = not_lines start blank;
  none = λ h rest has. absurd (none h rest has.reads);
}

pub is_start : (n : ℕ) (input : List ℕ) → n ≡ min (length input) 8192
    → IsStart input (take n input)
is_start n input n_is =
    let there : n ≤ length input = omega (arith, n_is) in record {
      after = drop n input;
      all = sym (take-append-drop n input);
      most = omega (arith, n_is, length-take-le n input there);
      short = λ short. no_members (drop n input)
          (omega (arith, n_is, short, length-drop n input, length-take-le n input there));
    }

module _ (input start : List ℕ) (is : IsStart input start) where
  -- What follows the bytes follows the first of them.
  all_of : (more : List ℕ) → input ++ more ≡ start ++ (is.after ++ more)
  all_of more = ap (λ (t : List ℕ). t ++ more) is.all ∙ append_assoc start is.after more

  alone : length start < 8192 → input ≡ start
  alone short = is.all ∙ ap (λ (t : List ℕ). start ++ t) (is.short short) ∙ append-nil start

  pub overflow_arrived : (has_ended : Bool) → RequestOverflows 64 start
      → HasArrived input has_ended (Refused BadHead)
  overflow_arrived has_ended over more may =
      subst IsBad (sym (all_of more)) (overflow_bad start (is.after ++ more) over)

  pub full_arrived : (has_ended : Bool) → length start ≡ 8192 → HasNoRequest start
      → HasArrived input has_ended (Refused BadHead)
  full_arrived has_ended long none more may =
      subst IsBad (sym (all_of more)) (full_bad start (is.after ++ more) long none)

  pub nothing_arrived : length start < 8192 → is_blank start ≡ true
      → HasArrived input true Nothing
  nothing_arrived short blank =
      (refl, subst IsBlank (sym (alone short)) (lines false start blank, short))

  pub ended_arrived : length start < 8192 → HasNoRequest start → is_blank start ≡ false
      → HasArrived input true (Refused BadHead)
  ended_arrived short none blank more may =
      subst IsBad
      (sym (ap (λ (t : List ℕ). input ++ t) (may refl) ∙ append-nil input ∙ alone short))
      (ended_bad start none blank)
