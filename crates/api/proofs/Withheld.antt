-- What was written once a message was answered with `storage` or `no_memory`.
use Rattle.std.proofs.Common.{◌≡◌, ◌≢◌, ◌⊎◌, ◌==◌, ℕ, List, [], ◌++◌, take, Option, Err, Bool, true, false, true≢false, refl, ap, sym, ◌∙◌, subst, inl, inr, append-nil, append_assoc}
use Rattle.std.specs.Prelude.{⊤, IfSome}
use Rattle.std.specs.Io.KnownBytes.{Appends}
use Rattle.std.proofs.KnownBytes.{Appends-trans}
use Rattle.std.proofs.lemmas.Bool.Decides.{Decides-eqb}
use Rattle.model.specs.Content.{Content}
use Rattle.model.specs.State.{State}
use Rattle.model.specs.RefusalNumbers.{number_of}
use Rattle.model.specs.declared.refusal.Refusal.{Refusal}
use Rattle.model.specs.declared.refusal.Refusal.TheVariants.{Storage, NoMemory}
use Rattle.register.specs.Refinement.{Refines}
use Rattle.http_messages.specs.Parsing.{IsNextMessage}
use Rattle.http_messages.specs.Sending.{AppendsPrefix}
use Rattle.http_messages.specs.declared.message.NextMessage.{NextMessage}
use Rattle.json_api.specs.Failures.{failure_text}
use Rattle.json_api.specs.RefusalTexts.{refusal_text}
use Rattle.json_api.specs.declared.fault.Failure.{Failure}
use Rattle.json_api.specs.declared.fault.Failure.TheVariants.{Refused, Uri, Message}
use Rattle.json_api.proofs.RefusalLemmas.{text_by_number}
use Rattle.api.specs.Run.{responses}
use Rattle.api.specs.Serving.{IsUnavailableResponse, RunUntilUnavailable, WritesUntil}
use Rattle.api.specs.Step.{IsReplyAvailable, IsUnavailableText}
use Rattle.api.proofs.Going.{Going, Progress, at_rest, known}

module _ (offered : Bool) (from : ℕ) (old : Content) (all had : Option (List ℕ))
    (ticks_before : Option (List (Option ℕ))) where
  -- Holds if the response to that message was written in full.
  abbrev pub Past : (has : Option (List ℕ)) → Type 0
  Past has = (st : State) → Refines old st
      → IfSome all (λ input. (until : RunUntilUnavailable offered from st input ticks_before)
      × (more : List ℕ)
      × Appends had has ((responses until.exchanges ++ until.response) ++ more))

  abbrev pub Stops : (has : Option (List ℕ)) → Type 0
  Stops has = (st : State) → Refines old st
      → IfSome all (λ input. WritesUntil offered from st input ticks_before had has)

  pub stops : (has : Option (List ℕ)) → Past has → Stops has
  stops has past st s =
      known all _ (λ input. WritesUntil offered from st input ticks_before had has)
      (λ input p. (p.0, inr (p.1, p.2))) (past st s)

  pub further : (has has' : Option (List ℕ)) (text : List ℕ) → Appends has has' text → Past has
      → Past has'
  further has has' text sent past st s =
      known all _ (λ input. (until : RunUntilUnavailable offered from st input ticks_before)
      × (more : List ℕ)
      × Appends had has' ((responses until.exchanges ++ until.response) ++ more))
      (λ input p. (
        p.0,
        p.1 ++ text,
        subst (Appends had has') (append_assoc (responses p.0.exchanges ++ p.0.response) p.1 text)
            (Appends-trans had has has' ((responses p.0.exchanges ++ p.0.response) ++ p.1) text p.2
            sent),
      )) (past st s)

  pub further_partly : (has has' : Option (List ℕ)) (text : List ℕ) → AppendsPrefix has has' text
      → Past has → Stops has'
  further_partly has has' text sent past =
      stops has' (further has has' (take sent.0 text) sent.2 past)

  -- The messages so far, and then one that was answered so.
  module _ (between : ℕ) (mid : Content) (left has : Option (List ℕ))
      (remaining_ticks : Option (List (Option ℕ))) (k : ℕ) (progress : Progress offered from between
      old mid
      all left had has ticks_before remaining_ticks k)
      (left' : Option (List ℕ)) (body text : List ℕ) where
    until_of : (next : NextMessage) → IfSome left (λ rest. IsNextMessage rest next body left')
        → IsUnavailableResponse next text
        → (st : State) (input : List ℕ) → Going offered from between st mid input left had has
        ticks_before remaining_ticks k → RunUntilUnavailable offered from st input ticks_before
    until_of (NextMessage.Message request) comes is_unavailable st input g =
        let c = at_rest left g.rest (λ i. IsNextMessage i (NextMessage.Message request) body left')
        g.left_is
        comes in
        record {
          exchanges = g.exchanges;
          between = between;
          mid = g.end;
          rest = g.rest;
          run = g.run;
          remaining_ticks = remaining_ticks;
          supplied = g.supplied;
          request = request;
          body = body;
          rest_after = c.0;
          parses = c.2;
          response = text;
          is_unavailable = is_unavailable;
        }
    until_of (NextMessage.Refused fault) comes is_unavailable st input g = absurd is_unavailable

    pub stopped : (has' : Option (List ℕ)) (next : NextMessage)
        → IfSome left (λ rest. IsNextMessage rest next body left') → Appends has has' text
        → IsUnavailableResponse next text → Past has'
    unfolding until_of
    stopped has' next comes sent is_unavailable st s =
        known all _ (λ input. (until : RunUntilUnavailable offered from st input ticks_before)
        × (more : List ℕ)
        × Appends had has' ((responses until.exchanges ++ until.response) ++ more))
        (more_of has' next comes sent is_unavailable st) (progress st s).1
      where
        more_of : (has' : Option (List ℕ)) (next : NextMessage)
            → IfSome left (λ rest. IsNextMessage rest next body left') → Appends has has' text
            → IsUnavailableResponse next text → (st : State) (input : List ℕ)
            → Going offered from between st mid input left had has ticks_before remaining_ticks k
            → (until : RunUntilUnavailable offered from st input ticks_before) × (more : List ℕ)
            × Appends had has' ((responses until.exchanges ++ until.response) ++ more)
        more_of has' (NextMessage.Message request) comes sent is_unavailable st input g = (
          until_of (NextMessage.Message request) comes is_unavailable st input g,
          [],
          subst (Appends had has') (sym (append-nil (responses g.exchanges ++ text)))
              (Appends-trans had has has' (responses g.exchanges) text g.written sent),
        )
        more_of has' (NextMessage.Refused fault) comes sent is_unavailable st input g =
            absurd is_unavailable

    pub stopped_partly : (has' : Option (List ℕ)) (next : NextMessage)
        → IfSome left (λ rest. IsNextMessage rest next body left') → AppendsPrefix has has' text
        → IsUnavailableResponse next text → Stops has'
    unfolding until_of
    stopped_partly has' next comes sent is_unavailable st s =
        known all _ (λ input. WritesUntil offered from st input ticks_before had has')
        (part_of has' next comes sent is_unavailable st) (progress st s).1
      where
        part_of : (has' : Option (List ℕ)) (next : NextMessage)
            → IfSome left (λ rest. IsNextMessage rest next body left') → AppendsPrefix has has' text
            → IsUnavailableResponse next text → (st : State) (input : List ℕ)
            → Going offered from between st mid input left had has ticks_before remaining_ticks k
            → WritesUntil offered from st input ticks_before had has'
        part_of has' (NextMessage.Message request) comes sent is_unavailable st input g = (
          until_of (NextMessage.Message request) comes is_unavailable st input g,
          inl (
            sent.0,
            Appends-trans had has has' (responses g.exchanges) (take sent.0 text) g.written sent.2,
          ),
        )
        part_of has' (NextMessage.Refused fault) comes sent is_unavailable st input g =
            absurd is_unavailable

-- A store usable before the message stays usable, or stops with it, and then `Now` holds.
judged : {Was Is Now Stopped : Type 0} → Was → Stopped ⊎ Is → (Was → Stopped → Now) → Is ⊎ Now
judged was (inl stopped) starts = inr (starts was stopped)
judged was (inr is) starts = inl is

pub still : {Was Is Then Now Stopped : Type 0} → Was ⊎ Then → (Was → Stopped ⊎ Is)
    → (Was → Stopped → Now) → (Then → Now) → Is ⊎ Now
still (inl was) stays starts goes = judged was (stays was) starts
still (inr then) stays starts goes = inr (goes then)

pub already : {Was Then Now : Type 0} → Was ⊎ Then → (Then → Now) → Was ⊎ Now
already (inl was) goes = inl was
already (inr then) goes = inr (goes then)

-- ---- an answer or a reply

by_number : {Is : Type 0} (r : Refusal) (storage memory : Bool) → (number_of r == 29) ≡ storage
    → (number_of r == 30) ≡ memory → ((r ≢ Storage) × (r ≢ NoMemory) → Is)
    → IsUnavailableText (failure_text (Refused r)) ⊎ Is
by_number r true memory x y stays =
    inl (inl (text_by_number r ∙ ap refusal_text ((Decides-eqb (number_of r) 29).0 x)))
by_number r false true x y stays =
    inl (inr (text_by_number r ∙ ap refusal_text ((Decides-eqb (number_of r) 30).0 y)))
by_number r false false x y stays = inr (stays (
  (λ e. let t : (number_of r == 29) ≡ true = ap (λ q. number_of q == 29) e in
      true≢false (sym t ∙ x)),
  (λ e. let t : (number_of r == 30) ≡ true = ap (λ q. number_of q == 30) e in
      true≢false (sym t ∙ y)),
))

pub refused_or : {Is : Type 0} (r : Refusal) → ((r ≢ Storage) × (r ≢ NoMemory) → Is)
    → IsUnavailableText (failure_text (Refused r)) ⊎ Is
refused_or r stays = by_number r (number_of r == 29) (number_of r == 30) refl refl stays

-- A message without a reply was answered with `storage` or `no_memory`.
pub failed_or : {Is : Type 0} (failure : Failure) → (IsReplyAvailable {A = ⊤} (Err failure) → Is)
    → IsUnavailableText (failure_text failure) ⊎ Is
failed_or (Refused r) stays = refused_or r stays
failed_or (Uri fault) stays = inr (stays tt)
failed_or (Message fault) stays = inr (stays tt)
