-- Definitions for sorted lists of rows.
use Rattle.std.specs.Prelude.{ℕ, ◌==◌, Bool, ◌&&◌, List}
use Rattle.std.specs.List.{list_any}
use Rattle.numbers.specs.declared.spid.Spid.{Spid}
use Rattle.delivery.specs.declared.download.DownloadKey.{DownloadKey}
use Rattle.numbers.specs.declared.ported.Subject.{Subject}
use Rattle.settle.specs.declared.rows.WaitKey.{WaitKey}

-- A pending download, and its subject.
abbrev pub WaitRow : Type 0
WaitRow = WaitKey × Subject

-- The download of a row.
abbrev pub download_of : WaitRow → DownloadKey
download_of w = record { minute = w.0.minute; id = w.0.id; attempt = w.0.attempt }

-- Whether a download of that minute for the carrier is among the rows.
abbrev pub is_waiting : List WaitRow → (minute : ℕ) → Spid → Bool
is_waiting waits minute carrier =
    list_any (λ (w : WaitRow). (w.0.minute.number == minute)
    && (w.0.carrier.number == carrier.number)) waits
