-- A download that is deleted while its broadcast is pending for another registered carrier too.
use Rattle.std.specs.Prelude.{◌≡◌, false, None}
use Rattle.std.specs.FinMap.{FinMap}
use Rattle.std.specs.Ordering.{nat_cmp}
use Rattle.numbers.specs.Subjects.{Subject}
use Rattle.model.specs.Content.{Content, WaitKey, wait_cmp, empty_content}
use Rattle.settle.specs.Reads.{is_last_wait}
use Rattle.settle.specs.Sharing.{IsOnlyAbout}
use Rattle.store.specs.Maps.{set}

-- The content with these registered carriers and pending downloads only.
abbrev pub waits_content : FinMap nat_cmp (Unit {0}) → FinMap wait_cmp Subject → Content
waits_content registered waits = record empty_content {
  carriers = registered;
  waits = waits;
}

-- Holds if the download is its carrier's only one of the subject, its broadcast is pending for
-- another registered carrier too, and it is deleted.
pub record TakesWait (registered : FinMap nat_cmp (Unit {0})) (old new : FinMap wait_cmp Subject)
    (s : Subject) (wait : WaitKey) : Type 0 where
  pub only : IsOnlyAbout (waits_content registered old) s wait
  pub shared : is_last_wait (waits_content registered old) wait ≡ false
  pub deleted : new ≡ set old wait None
