-- A broadcast has a routing if its action carries one.
use Rattle.std.proofs.Common.{ℕ, Bool, true, false, List, [], ◌∷◌, map, refl, sym, subst}
use Rattle.std.specs.Prelude.{◌==◌, if◌then◌else◌}
use Rattle.std.specs.List.{AllByRecursion}
use Rattle.model.specs.declared.words.Outcome.{Outcome}
use Rattle.model.specs.Windows.{WindowSet}
use Rattle.model.specs.Versions.{Broadcast, Version, with_number, is_open_broadcast}
use Rattle.model.specs.Changes.{on_newest, acknowledged_broadcast, joined_broadcast}
use Rattle.model.specs.State.{State, Download, record_now, queue}
use Rattle.model.specs.Machine.{HasHistory}
use Rattle.model.specs.Laws.{FitsAction, BroadcastsFitActions, DownloadsFitActions}
use Rattle.model.proofs.Moves.{MovesKeep}
use Rattle.model.proofs.Routed.{IsRouted, routed_kept, activated_routed}
use Rattle.model.proofs.KeptVersions.{versions_kept, version_now}
use Rattle.model.proofs.Lists.{Among, each-among, all_of}
use Rattle.model.proofs.Copies.Queue.{queued-from}

abbrev pub Fits : Broadcast → Type 0
Fits b = FitsAction b.action b.routing

abbrev pub AllFit : List Broadcast → Type 0
AllFit bs = AllByRecursion Fits bs

each_fits : (f : Broadcast → Broadcast) → ((b : Broadcast) → Fits b → Fits (f b))
    → (bs : List Broadcast) → AllFit bs → AllFit (map f bs)
each_fits f keeps [] all = tt
each_fits f keeps (b ∷ bs) all = (keeps b all.0, each_fits f keeps bs all.1)

joined_fits : (c : ℕ) (b : Broadcast) → Fits b → Fits (joined_broadcast c b)
joined_fits c b fits = by_cases (is_open_broadcast b)
  where
    by_cases : (t : Bool) → Fits (if t then record b { recipients = with_number c b.recipients }
        else b)
    by_cases true = fits
    by_cases false = fits

answered_fits : (c attempt : ℕ) (b : Broadcast) → Fits b → Fits (acknowledged_broadcast c attempt b)
answered_fits c attempt b fits = by_cases (b.attempt == attempt)
  where
    by_cases : (t : Bool) → Fits (if t then record b {
      acknowledged =
          with_number c b.acknowledged;
    } else b)
    by_cases true = fits
    by_cases false = fits

newest_fits : (outcome : Outcome) (bs : List Broadcast) → AllFit bs
    → AllFit (on_newest (λ b. record b { outcome = outcome }) bs)
newest_fits outcome [] all = tt
newest_fits outcome (b ∷ bs) all = all

-- Every move keeps it: what is activated has a routing.
fits_kept : (w : WindowSet) → MovesKeep w (λ m cs v. IsRouted v × AllFit v.broadcasts)
fits_kept w = record {
  later = λ m n cs v up is. is;
  joined = λ c m cs v is. (is.0, each_fits (joined_broadcast c) (joined_fits c) v.broadcasts is.1);
  made_old = λ m cs id old_provider new_provider due some.
      ((routed_kept w).made_old m cs id old_provider new_provider due some, tt);
  made_new = λ routing m cs id old_provider new_provider due some.
      ((routed_kept w).made_new routing m cs id old_provider new_provider due some, tt);
  made_sent = λ routing protective m cs id old_provider new_provider due some. (
    (routed_kept w).made_sent routing protective m cs id old_provider new_provider due some,
    (refl, tt),
  );
  old_create = λ m cs v awaits is. is;
  new_create = λ routing m cs v awaits is. (
    (routed_kept w).new_create routing m cs v awaits is.0,
    is.1,
  );
  pending = λ m cs v from is. ((routed_kept w).pending m cs v from is.0, is.1);
  conflict = λ spent m cs v from is. ((routed_kept w).conflict spent m cs v from is.0, is.1);
  cancel_pending = λ by m cs v from is. ((routed_kept w).cancel_pending by m cs v from is.0, is.1);
  canceled = λ m cs v from is. ((routed_kept w).canceled m cs v from is.0, is.1);
  active = λ m cs v from is. ((routed_kept w).active m cs v from is.0, is.1);
  planned = λ release m cs v may is. ((routed_kept w).planned release m cs v may is.0, is.1);
  old = λ m cs v force is. ((routed_kept w).old m cs v force is.0, is.1);
  activated = λ m cs v may is.
      ((routed_kept w).activated m cs v may is.0, (activated_routed v may.0 is.0, is.1));
  disconnected = λ m cs v may is. ((routed_kept w).disconnected m cs v may is.0, (refl, is.1));
  released = λ m cs v from is. ((routed_kept w).released m cs v from is.0, (refl, is.1));
  modified = λ routing m cs v may is.
      ((routed_kept w).modified routing m cs v may is.0, (refl, is.1));
  ended = λ action m cs v from is. (
    (routed_kept w).ended action m cs v from is.0,
    newest_fits _ v.broadcasts is.1,
  );
  answered = λ c attempt m cs v may is. (
    is.0,
    each_fits (acknowledged_broadcast c attempt) (answered_fits c attempt) v.broadcasts
        is.1,
  );
  closed = λ c attempt action m cs v may is. (
    (routed_kept w).closed c attempt action m cs v may is.0,
    newest_fits _ (map (acknowledged_broadcast c attempt) v.broadcasts)
        (each_fits (acknowledged_broadcast c attempt) (answered_fits c attempt) v.broadcasts is.1),
  );
  whole = λ c attempt m cs v may is. (
    (routed_kept w).whole c attempt m cs v may is.0,
    each_fits (acknowledged_broadcast c attempt) (answered_fits c attempt) v.broadcasts is.1,
  );
}

pub broadcasts_fit : BroadcastsFitActions
broadcasts_fit st is s =
    all_of _ (record_now st s).versions
    (λ v there. all_of Fits v.broadcasts (λ b sent. each-among Fits v.broadcasts b
    (each-among (λ (u : Version). IsRouted u × AllFit u.broadcasts) (record_now st s).versions v
    (versions_kept fits_kept st.windows s st.history st.now is.history) there).1 sent))

-- Each download in a queue is of a broadcast.
pub queued_fits : (st : State) → HasHistory st → (c : ℕ) (d : Download) → Among d (queue st c)
    → FitsAction d.action d.routing
queued_fits st is c d there =
    let q = queued-from st c d there in
    subst (λ (x : Download). FitsAction x.action x.routing) (sym q.is)
    (each-among Fits q.at.version.broadcasts q.broadcast
    (version_now fits_kept st is q.at.subject q.id q.at.version q.found).1 q.sent)

pub downloads_fit : DownloadsFitActions
downloads_fit st is c = all_of _ (queue st c) (queued_fits st is.history c)
