-- The result of serving, as the outcome of a feed.
use Rattle.std.proofs.Common.{◌≡◌, ◌≤◌, ℕ, List, [], ◌++◌, Option, Some, None, inl, inr, true, refl, ap, ◌∙◌, subst, sym, append-nil}
use Rattle.std.specs.Prelude.{Result, Ok, Err, IfErr, IfSome}
use Rattle.std.proofs.Math.Nat.{le_trans}
use Rattle.std.specs.Io.KnownBytes.{Keeps, append_known}
use Rattle.std.proofs.KnownBytes.{Appends-kept}
use Rattle.model.specs.Content.{Content, empty_content}
use Rattle.model.specs.State.{State, first_state}
use Rattle.model.specs.Windows.{Windows as WindowsModel}
use Rattle.http_messages.specs.declared.fault.MessageFault.{MessageFault}
use Rattle.api.specs.Serving.{AfterClose, AfterPartialResponse, AfterRefusal, AfterExchanges, EndsAt, Serves, IoTrace}
use Rattle.api.specs.declared.serving.End.{End}
use Rattle.api.specs.declared.serving.End.TheVariants.{Input, Closed, Refused}
use Rattle.api.specs.declared.serving.Served.{Served}
use Rattle.api.specs.declared.serving.Fault.{Fault as ServingFault}
use Rattle.api.specs.declared.serving.Fault.TheVariants as serving
use Rattle.cli.specs.declared.fault.Fault.{Fault}
use Rattle.cli.specs.declared.fault.Fault.TheVariants as fault
use Rattle.settle.specs.Reads.{HasDeviceFailed}
use Rattle.register.specs.Opening.{HasOtherWindows}
use Rattle.register.specs.declared.register.OpenFault.{OpenFault}
use Rattle.register.specs.declared.register.OpenFault.TheVariants as opening
use Rattle.hub.specs.Feeding.{FeedsTo}
use Rattle.hub.specs.declared.feeding.FeedFault.{FeedFault}
use Rattle.hub.specs.declared.feeding.FeedFault.TheVariants as feeding
use Rattle.cli.specs.Faults.{IsOfServing}
use Rattle.cli.specs.Feeding.{FedInGroups, Feeds, FeedsInGroups, fault_of_end, io_of_feed, outcome_of, outcome_of_groups}

-- What serving wrote holds of a later content of the writer, if the writer has kept it.
module _ (from to : ℕ) (st : State) (new : Content) (trace : IoTrace) (has : Option (List ℕ))
    (kept : Keeps trace.written_after has) where
  abbrev later : IoTrace
  later = record trace { written_after = has }

  abbrev whole_kept : (k : ℕ) → AfterExchanges true from to st new trace k
      → AfterExchanges true from to st new later k
  whole_kept k x = record {
    exchanges = x.exchanges;
    end = x.end;
    rest = x.rest;
    run = x.run;
    refines = x.refines;
    count = x.count;
    supplied = x.supplied;
    written = Appends-kept trace.written_before trace.written_after has _ x.written kept;
  }

  abbrev close_kept : (k : ℕ) → AfterClose true from to st new trace k
      → AfterClose true from to st new later k
  close_kept k x = record {
    exchanges = x.exchanges;
    between = x.between;
    mid = x.mid;
    rest = x.rest;
    run = x.run;
    last = x.last;
    rest_after = x.rest_after;
    parses = x.parses;
    closes = x.closes;
    end = x.end;
    step = x.step;
    refines = x.refines;
    count = x.count;
    supplied = x.supplied;
    written = Appends-kept trace.written_before trace.written_after has _ x.written kept;
  }

  abbrev refusal_kept : (fault : MessageFault) (k : ℕ)
      → AfterRefusal fault true from to st new trace k
      → AfterRefusal fault true from to st new later k
  refusal_kept fault k x = record {
    exchanges = x.exchanges;
    end = x.end;
    rest = x.rest;
    run = x.run;
    refused = x.refused;
    refines = x.refines;
    count = x.count;
    supplied = x.supplied;
    written = Appends-kept trace.written_before trace.written_after has _ x.written kept;
  }

  part_kept : (k : ℕ) → AfterPartialResponse true from to st new trace k
      → AfterPartialResponse true from to st new later k
  part_kept k x = record {
    exchanges = x.exchanges;
    between = x.between;
    mid = x.mid;
    rest = x.rest;
    run = x.run;
    remaining_ticks = x.remaining_ticks;
    supplied = x.supplied;
    response = x.response;
    end = x.end;
    next = x.next;
    refines = x.refines;
    count = x.count;
    part = x.part;
    written = Appends-kept trace.written_before trace.written_after has _ x.written kept;
  }

  ends_kept : (end : End) (k : ℕ) → EndsAt end true from to st new trace k
      → EndsAt end true from to st new later k
  ends_kept Input k x = (whole_kept k x.0, x.1, x.2)
  ends_kept Closed k x = (close_kept k x.0, x.1)
  ends_kept (Refused fault) k x = (refusal_kept fault k x.0, x.1)

  serves_kept : (r : Result Served ServingFault) → Serves r true from to st new trace
      → Serves r true from to st new later
  serves_kept (Ok served) x = ends_kept served.end served.count x
  serves_kept (Err (serving.Read k)) x = (whole_kept k x.0, x.1)
  serves_kept (Err (serving.Memory k)) x = (whole_kept k x.0, x.1)
  serves_kept (Err (serving.Write k)) x = part_kept k x

-- The device has never failed.
pub at_zero : (w : WindowsModel) (unread had mid all : Option (List ℕ))
    (r : Result Served ServingFault) (new : Content) (from to : ℕ) → from ≡ 0 → to ≡ 0
    → IfSome all (λ input. Serves r true from to (first_state w) new
    (io_of_feed input unread had mid))
    → IfSome all (λ input. Serves r true 0 0 (first_state w) new (io_of_feed input unread had mid))
at_zero w unread had mid all r new from to before after serves =
    let From : ℕ → Type 0 =
    λ k. IfSome all (λ input. Serves r true k to (first_state w) new
    (io_of_feed input unread had mid)) in
    let To : ℕ → Type 0 =
    λ k. IfSome all (λ input. Serves r true 0 k (first_state w) new
    (io_of_feed input unread had mid)) in
    subst To after (subst From before serves)

-- Nothing is unwritten.
all_written : (has : Option (List ℕ)) (unwritten : List ℕ) → unwritten ≡ []
    → append_known has unwritten ≡ has
all_written None unwritten e = refl
all_written (Some xs) unwritten e = ap (λ (t : List ℕ). Some (xs ++ t)) e ∙ ap Some (append-nil xs)

module _ (w : WindowsModel) (unread had mid has : Option (List ℕ)) (unwritten : List ℕ)
    (kept : Keeps mid (append_known has unwritten)) (new : Content) where
  -- Holds if serving the input to the buffer has this result.
  abbrev Served_so : List ℕ → Result Served ServingFault → Type 0
  Served_so input r = Serves r true 0 0 (first_state w) new (io_of_feed input unread had mid)

  abbrev Held_so : List ℕ → Option (List ℕ) → Result Served ServingFault → Type 0
  Held_so input held r = Serves r true 0 0 (first_state w) new (io_of_feed input unread had held)

  held_so : (input : List ℕ) (r : Result Served ServingFault) → Served_so input r
      → Held_so input (append_known has unwritten) r
  held_so input r serves =
      serves_kept 0 0 (first_state w) new (io_of_feed input unread had mid)
      (append_known has unwritten)
      kept r serves

  of_outcome : (input : List ℕ) (r : Result Served ServingFault) → unwritten ≡ []
      → Held_so input (append_known has unwritten) r
      → Feeds w (io_of_feed input unread had has) unwritten (outcome_of r)
  of_outcome input (Err (serving.Write k)) none serves = (Err (serving.Write k), new, serves)
  of_outcome input (Ok served) none serves =
      by_cases served.end (subst (λ h. Held_so input h (Ok served)) (all_written has unwritten none)
      serves)
    where
      by_cases : (end : End)
          → EndsAt end true 0 0 (first_state w) new (io_of_feed input unread had has)
          served.count → Feeds w (io_of_feed input unread had has) unwritten (fault_of_end end)
      by_cases Input ends = inl (new, served.count, ends)
      by_cases Closed ends = inr (new, served.count, ends)
      by_cases (Refused fault) ends = (new, served.count, ends)
  of_outcome input (Err (serving.Read k)) none serves = (
    new,
    k,
    subst (λ h. Held_so input h (Err (serving.Read k))) (all_written has unwritten none) serves,
  )
  of_outcome input (Err (serving.Memory k)) none serves = (
    new,
    k,
    subst (λ h. Held_so input h (Err (serving.Memory k))) (all_written has unwritten none) serves,
  )

  -- The buffer was flushed.
  pub flushed : (all : Option (List ℕ)) (r : Result Served ServingFault)
      (result : Result (Unit {0}) Fault) → unwritten ≡ [] → result ≡ outcome_of r →
      IfSome all (λ input. Served_so input r)
      → IfSome all (λ input. Feeds w (io_of_feed input unread had has) unwritten result)
  flushed None r result none is serves = tt
  flushed (Some input) r result none is serves =
      subst (Feeds w (io_of_feed input unread had has) unwritten) (sym is)
      (of_outcome input r none (held_so input r serves))

  -- The last write failed.
  pub not_flushed : (all : Option (List ℕ)) (r : Result Served ServingFault)
      → IfSome all (λ input. Served_so input r)
      → IfSome all (λ input. Feeds w (io_of_feed input unread had has) unwritten (Err fault.Write))
  not_flushed None r serves = tt
  not_flushed (Some input) r serves = (r, new, held_so input r serves)

-- ---- in groups of commits

module _ (from opened to : ℕ) (before : from ≤ opened) (after : opened ≤ to) (st : State)
    (new : Content) where
  of_groups : (trace : IoTrace) (r : Result End FeedFault) → FeedsTo r opened to st new trace
      → FeedsInGroups from to st new trace (outcome_of_groups r)
  of_groups trace (Ok Input) feeds = inl (opened, before, after, feeds)
  of_groups trace (Ok Closed) feeds = inr (opened, before, after, feeds)
  of_groups trace (Ok (Refused fault)) feeds = (opened, before, after, feeds)
  of_groups trace (Err feeding.Read) feeds = (opened, before, after, feeds)
  of_groups trace (Err feeding.Write) feeds = (opened, before, after, feeds)
  of_groups trace (Err feeding.NoMemory) feeds = (opened, before, after, feeds)

  -- The outcome of feeding.
  pub fed_so : (unread had has all : Option (List ℕ)) (r : Result End FeedFault)
      (result : Result (Unit {0}) Fault) → result ≡ outcome_of_groups r
      → IfSome all (λ input. FeedsTo r opened to st new (io_of_feed input unread had has))
      → IfSome all
      (λ input. FeedsInGroups from to st new (io_of_feed input unread had has) result)
  fed_so unread had has None r result is feeds = tt
  fed_so unread had has (Some input) r result is feeds =
      subst (FeedsInGroups from to st new (io_of_feed input unread had has)) (sym is)
      (of_groups (io_of_feed input unread had has) r feeds)

-- The register was opened, and perhaps failures were counted meanwhile.
module _ (from opened to : ℕ) (before : from ≤ opened) (st : State) (new : Content)
    (trace : IoTrace) where
  abbrev Since : ℕ → Result (Unit {0}) Fault → Type 0
  Since first result = FeedsInGroups first to st new trace result

  since : (ended : Result End FeedFault) → FedInGroups opened to st new trace ended
      → FedInGroups from to st new trace ended
  since ended (at, later, within, feeds) = (at, le_trans before later, within, feeds)

  since_opening : (result : Result (Unit {0}) Fault) → IfErr result IsOfServing
      → Since opened result → Since from result
  since_opening (Ok done) serving (inl feeds) = inl (since (Ok Input) feeds)
  since_opening (Ok done) serving (inr feeds) = inr (since (Ok Closed) feeds)
  since_opening (Err (fault.Message refused)) serving feeds = since (Ok (Refused refused)) feeds
  since_opening (Err fault.Read) serving feeds = since (Err feeding.Read) feeds
  since_opening (Err fault.Write) serving feeds = since (Err feeding.Write) feeds
  since_opening (Err fault.NoMemory) serving feeds = since (Err feeding.NoMemory) feeds
  since_opening (Err (fault.Open opening.NoMemory)) serving feeds = feeds
  since_opening (Err (fault.Open opening.Storage)) serving feeds = absurd serving
  since_opening (Err (fault.Open opening.WindowsDiffer)) serving feeds = feeds
  since_opening (Err (fault.Windows refused)) serving feeds = feeds
  since_opening (Err (fault.File refused)) serving feeds = feeds
  since_opening (Err fault.RowsRefused) serving feeds = feeds
  since_opening (Err fault.Listen) serving feeds = feeds

-- The register was not opened.
pub unopened : (from to : ℕ) (w : WindowsModel) (st : State) (old new : Content)
    (unread had has all : Option (List ℕ)) (refused : OpenFault) → old ≡ empty_content
    → new ≡ old → has ≡ had → (refused ≡ opening.Storage → HasDeviceFailed from to)
    → (refused ≡ opening.WindowsDiffer → HasOtherWindows w old)
    → IfSome all (λ input. FeedsInGroups from to st new (io_of_feed input unread had has)
    (Err (fault.Open refused)))
unopened from to w st old new unread had has None refused empty back kept storage differ = tt
unopened from to w st old new unread had has (Some input) opening.NoMemory empty back kept storage
    differ = (back ∙ empty, kept)
unopened from to w st old new unread had has (Some input) opening.Storage empty back kept storage
    differ = (storage refl, (back ∙ empty, kept))
unopened from to w st old new unread had has (Some input) opening.WindowsDiffer empty back kept
    storage differ = subst (HasOtherWindows w) empty (differ refl)

-- The register was opened.
pub fed_since : (from opened to : ℕ) (st : State) (new : Content)
    (unread had has all : Option (List ℕ)) (result : Result (Unit {0}) Fault) → from ≤ opened
    → IfErr result IsOfServing
    → IfSome all
    (λ input. FeedsInGroups opened to st new (io_of_feed input unread had has) result)
    → IfSome all (λ input. FeedsInGroups from to st new (io_of_feed input unread had has) result)
fed_since from opened to st new unread had has None result before serving feeds = tt
fed_since from opened to st new unread had has (Some input) result before serving feeds =
    since_opening from opened to before st new (io_of_feed input unread had has) result serving
    feeds
