-- The clock's row, written after all other rows.
use Rattle.std.proofs.Common.{◌≡◌, ◌∙◌, ℕ, List, Some, sym}
use Rattle.std.specs.FinMap.{get}
use Rattle.model.specs.Windows.{Windows}
use Rattle.model.specs.Content.{Content}
use Rattle.settle.specs.Changes.{AppliesChanges, Changes, no_changes}
use Rattle.repair.specs.Entries.{Entry, Carrier, Lrn, Code, Block, WindowSet, Version, Broadcast, Wait, IsEntry}
use Rattle.repair.specs.Contents.{HasExactly, IsContentWith}
use Rattle.repair.proofs.Puts.{put_again, same_numbers}

module _ (minute next_id number : ℕ) (w : Windows) where
  abbrev pub clock_changes : Changes
  clock_changes = record no_changes {
    clock = Some (record { minute = minute; next_id = next_id });
    set = Some (record { number = number; windows = w });
  }

  module _ (old new : Content) (a : AppliesChanges clock_changes old new)
      (there : get old.sets number ≡ Some w) where
    same_set : (k : ℕ) → get new.sets k ≡ get old.sets k
    same_set k = put_again same_numbers (get old.sets) number w there k (get new.sets k) (a.sets k)

    forth : (e : Entry) → IsEntry old e → IsEntry new e
    forth (Carrier k) h = a.carriers k ∙ h
    forth (Lrn k v) h = a.lrns k ∙ h
    forth (Code k v) h = a.codes k ∙ h
    forth (Block k v) h = a.blocks k ∙ h
    forth (WindowSet k v) h = same_set k ∙ h
    forth (Version k v) h = a.versions k ∙ h
    forth (Broadcast k v) h = a.broadcasts k ∙ h
    forth (Wait k v) h = a.waits k ∙ h

    back : (e : Entry) → IsEntry new e → IsEntry old e
    back (Carrier k) h = sym (a.carriers k) ∙ h
    back (Lrn k v) h = sym (a.lrns k) ∙ h
    back (Code k v) h = sym (a.codes k) ∙ h
    back (Block k v) h = sym (a.blocks k) ∙ h
    back (WindowSet k v) h = sym (same_set k) ∙ h
    back (Version k v) h = sym (a.versions k) ∙ h
    back (Broadcast k v) h = sym (a.broadcasts k) ∙ h
    back (Wait k v) h = sym (a.waits k) ∙ h

    pub clock_written : (es : List Entry) → HasExactly es old
        → IsContentWith es minute next_id number new
    clock_written es has = record {
      rows = record {
        each = λ e at. forth e (has.each e at);
        only = λ e h. has.only e (back e h);
      };
      clock = (w, same_set number ∙ there, a.clock);
    }
