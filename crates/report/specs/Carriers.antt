-- What is pending for each carrier.
use Rattle.std.specs.Prelude.{◌≡◌, ℕ, List, [], ◌∷◌, map, length, Option, Some, None, option_map, All}
use Rattle.std.specs.FinMap.{keys}
use Rattle.numbers.specs.Abstraction.{minute_of}
use Rattle.numbers.specs.declared.ported.Subject.{Subject as SubjectImpl}
use Rattle.delivery.specs.declared.download.Download.{Download}
use Rattle.model.specs.Content.{Content}
use Rattle.settle.specs.Reads.{AreFirst, AreWaitingSubjects}
use Rattle.report.specs.declared.carriers.CarrierFigures.{CarrierFigures}

-- The minute of the first download, if there is one.
abbrev pub first_minute : List Download → Option ℕ
first_minute [] = None
first_minute (d ∷ ds) = Some d.minute.number

-- Holds if the figures are those of the carrier's pending downloads: how many subjects they have,
-- and the minute of sending of the first in its queue.
pub record DescribesCarrier (c : Content) (figures : CarrierFigures) : Type 0 where
  pub subjects : List SubjectImpl
  pub are_waiting : AreWaitingSubjects c figures.spid.number subjects
  pub pending : figures.pending ≡ length subjects
  pub downloads : List Download
  pub are_first : AreFirst c figures.spid.number 1 downloads
  pub oldest : option_map minute_of figures.oldest ≡ first_minute downloads

-- Holds if the figures are those of all registered carriers, ascending.
pub record DescribeCarriers (c : Content) (figures : List CarrierFigures) : Type 0 where
  pub all : map (λ (f : CarrierFigures). f.spid.number) figures ≡ keys c.carriers
  pub each : All (DescribesCarrier c) figures
