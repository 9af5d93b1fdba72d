-- A carrier that fetches and gets no download has what was published to it.
use Rattle.std.proofs.Common.{◌≡◌, ◌<◌, ℕ, zero, suc, Bool, true, false, List, [], ◌∷◌, map, Option, Some, None, refl, ap, sym, ◌∙◌, arith}
use Rattle.std.specs.Prelude.{take, Result, Ok, Err, IfOk}
use Rattle.std.specs.List.{list_any}
use Rattle.numbers.specs.Subjects.{subject_eq}
use Rattle.model.specs.declared.refusal.Refusal.{Refusal}
use Rattle.model.specs.Content.{Content}
use Rattle.model.specs.Laws.{IsReachable}
use Rattle.model.specs.Machine.{Refused, Fetched, out, refused_or}
use Rattle.model.specs.State.{State, Download, is_carrier, queue}
use Rattle.model.specs.Refusals.{QuestionFrom, Fetch, refusal}
use Rattle.model.proofs.Copies.Law.{copy_is_published}
use Rattle.model.proofs.Copies.InForce.{copy_is_in_force}
use Rattle.delivery.specs.declared.download.Download.{Download as DownloadImpl}
use Rattle.requests.specs.Calls.{download_of, replied}
use Rattle.register.specs.Refinement.{Refines, SimulatesStep}
use Rattle.register.specs.Fetching.{CopyMatchesPublished}
use Rattle.register.proofs.Downloads.Fetched.{may_fetch, fetch_by}

none_taken : (n : ℕ) (ds : List Download) → 0 < n → take n ds ≡ [] → ds ≡ []
none_taken n [] some e = refl
none_taken zero (d ∷ ds) some e = absurd (omega (arith, some))
none_taken (suc n) (d ∷ ds) some e = let f : d ∷ take n ds ≡ [] = e in cc

pub known_by : (known : Bool) → may_fetch known ≡ None → known ≡ true
known_by true e = refl
known_by false e = let f : ◌≡◌ {A = Option ℕ} (Some 1) None = e in cc

-- The machine's downloads, if the answer has downloads.
downloads_answered : (number : Option ℕ) (xs ys : List Download)
    → Fetched xs ≡ refused_or number (Fetched ys)
    → (number ≡ None) × (ys ≡ xs)
downloads_answered None xs ys e = (refl, (let f : Fetched xs ≡ Fetched ys = e in cc))
downloads_answered (Some k) xs ys e = let f : Fetched xs ≡ Refused k = e in cc

pub holds_published : (old new : Content) (caller many : ℕ) (downloads : List DownloadImpl)
    → SimulatesStep old new (QuestionFrom caller (Fetch many))
    (Some (Fetched (map download_of downloads)))
    → downloads ≡ [] → 0 < many →
    (st : State) → Refines old st → CopyMatchesPublished st caller
unfolding out
holds_published old new caller many downloads answers none some st refines =
    let is : IsReachable st = record {
      windows = refines.represents.windows;
      history = refines.represents.history;
    } in
    let reply = downloads_answered (refusal st (QuestionFrom caller (Fetch many)))
    (map download_of downloads)
    (take many (queue st caller)) (answers st refines).0 in
    let empty : queue st caller ≡ [] =
    none_taken many (queue st caller) some (reply.1 ∙ ap (map download_of) none) in
    let known : is_carrier st caller ≡ true =
    known_by (is_carrier st caller) (sym (fetch_by st caller many) ∙ reply.0) in
    record {
      published =
          λ s. copy_is_published st is caller s known
          (ap (list_any (λ (d : Download). subject_eq d.subject s)) empty);
      in_force = λ closed s. copy_is_in_force st is caller known empty closed s;
    }

pub if_published : {V : Type 0} (old new : Content) (caller many : ℕ) (items : V
    → List DownloadImpl) (r : Result V Refusal)
    → SimulatesStep old new (QuestionFrom caller (Fetch many))
    (replied (λ v. Fetched (map download_of (items v))) r) →
    (st : State) → Refines old st → 0 < many
    → IfOk r (λ v. items v ≡ [] → CopyMatchesPublished st caller)
if_published old new caller many items (Ok v) answers st refines some =
    λ none. holds_published old new caller many (items v) answers none some st refines
if_published old new caller many items (Err refusal) answers st refines some = tt
