-- Runs of downloads: of one broadcast and one subject, with ascending carriers.
use Rattle.std.specs.Prelude.{ℕ, ◌+◌, Bool, List, [], ◌∷◌, map, cond, suc, nat_le, ◌==◌, ◌&&◌}
use Rattle.std.specs.Ordering.{eq_by_cmp}
use Rattle.numbers.specs.Subjects.{Subject, subject_key}
use Rattle.numbers.specs.Abstraction.{subject_of}
use Rattle.numbers.specs.declared.ported.Subject.{Subject as SubjectImpl}
use Rattle.numbers.specs.declared.spid.Spid.{Spid}
use Rattle.settle.specs.Abstraction.{wait_key_of}
use Rattle.settle.specs.declared.rows.WaitKey.{WaitKey as WaitKeyImpl}
use Rattle.store.specs.WaitRows.{Download, download_cmp, download_of}

-- The carriers of the downloads in order.
abbrev pub carriers_in : List (WaitKeyImpl × SubjectImpl) → List Spid
carriers_in es = map (λ e. e.0.carrier) es

-- Whether the download is of the broadcast and of the subject, and its carrier's number is `from`
-- or more.
abbrev pub is_next : Download → Subject → (from : ℕ) → WaitKeyImpl × SubjectImpl → Bool
is_next d s from e =
    nat_le from e.0.carrier.number && (eq_by_cmp download_cmp d (download_of (wait_key_of e.0))
    && (subject_key s == subject_key (subject_of e.1)))

-- How many downloads, from the first one on, are of the broadcast and of the subject, while their
-- carriers ascend from `from` on.
abbrev pub run_length : Download → Subject → (from : ℕ) → List (WaitKeyImpl × SubjectImpl) → ℕ
run_length d s from [] = 0
run_length d s from (e ∷ es) =
    cond (is_next d s from e) (suc (run_length d s (e.0.carrier.number + 1) es)) 0
