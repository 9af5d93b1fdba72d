-- When everything due is settled, a new set of windows leads to the machine's next state.
use Rattle.std.proofs.Common.{◌≡◌, ℕ, ◌+◌, Bool, true, false, Some, None, refl, ap, sym, ◌∙◌, subst}
use Rattle.std.specs.Prelude.{◌==◌, option_map, is_some, if◌then◌else◌}
use Rattle.std.specs.FinMap.{get}
use Rattle.numbers.specs.Subjects.{Subject, Block}
use Rattle.model.specs.Commands.{SetWindows}
use Rattle.model.specs.Windows.{Windows, AreWindows, WindowSet}
use Rattle.model.specs.Versions.{Version, Record, last_version}
use Rattle.model.specs.History.{CommandRequest, set_of_number, next_id, donor_of}
use Rattle.model.specs.State.{State, set_now, record_now, next_of}
use Rattle.model.specs.Refusals.{RequestFrom, refusal}
use Rattle.model.specs.Content.{Content, ClockRow, VersionRow, BroadcastRow, Represents, ClockRowMatches, SameRows, of_subject, stored_set, broadcast_key, wait_key}
use Rattle.model.proofs.Represented.{same_rows_show}
use Rattle.model.proofs.SettingWindows.{after_windows, windows-record, windows-next_id, windows-history, windows-lag}
use Rattle.settle.specs.Changes.{AppliesChanges, no_changes, clock_after}
use Rattle.settle.specs.Settling.{IsSettled}

module _ (st : State) (old new : Content) (caller : ℕ) (windows : Windows) (clock : ClockRow)
    (rep : Represents old st) (is : old.clock ≡ Some clock) (are : AreWindows windows)
    (ok : refusal st (RequestFrom caller (CommandRequest (SetWindows windows))) ≡ None)
    (settled : (s : Subject) → IsSettled old st s)
    (changed : AppliesChanges (record no_changes {
      set = Some (record { number = clock.present.number + 1; windows = windows });
    }) old new) where
  abbrev after : State
  after = after_windows st caller windows

  clock_now : clock ≡ record {
    minute = st.now;
    next_id = next_of st;
    present = set_now st;
  }
  clock_now = subst (λ o. ClockRowMatches o st) is rep.clock

  -- The clock's row has the new set.
  clock_new : new.clock ≡ Some (record {
    minute = st.now;
    next_id = next_id st.windows after.history;
    present = set_now after;
  })
  clock_new =
      changed.clock
      ∙ ap (clock_after None (Some (record {
        number = clock.present.number + 1;
        windows = windows;
      }))) is
      ∙ ap (λ (c : ClockRow). Some (let row : ClockRow = record c {
        present = record { number = c.present.number + 1; windows = windows };
      } in row)) clock_now
      ∙ ap (λ n. Some (let row : ClockRow = record {
        minute = st.now;
        next_id = n;
        present = set_now after;
      } in row)) (sym (windows-next_id st caller windows))

  -- The sets of windows include the new one.
  sets_new : (k : ℕ) → get new.sets k ≡ option_map (λ (x : WindowSet). x.windows)
      (set_of_number k st.windows after.history)
  sets_new k =
      changed.sets k
      ∙ ap (λ (c : ClockRow). if c.present.number + 1 == k then Some windows
      else get old.sets k) clock_now
      ∙ ap (λ o. if (set_now st).number + 1 == k then Some windows
      else o) (rep.sets k ∙ ap (λ o. stored_set o st k) is)
      ∙ by_cases ((set_now st).number + 1 == k)
    where
      by_cases : (b : Bool)
          → (if b then Some windows
          else option_map (λ (x : WindowSet). x.windows) (set_of_number k st.windows st.history))
          ≡ option_map (λ (x : WindowSet). x.windows) (if b then Some (record {
            number = (set_now st).number + 1;
            windows = windows;
          }) else set_of_number k st.windows st.history)
      by_cases true = refl
      by_cases false = refl

  same : (s : Subject) → SameRows s old new
  same s = record {
    versions = λ id. ap (of_subject s (λ (v : VersionRow). v.subject)) (changed.versions id);
    broadcasts =
        λ id attempt. ap (of_subject s (λ (b : BroadcastRow). b.subject))
        (changed.broadcasts (broadcast_key id attempt));
    waits = λ carrier minute id attempt. ap (of_subject s (λ t. t))
        (changed.waits (wait_key carrier minute id attempt));
  }

  pub windows_put-represents : Represents new (after_windows st caller windows)
  windows_put-represents = record {
    windows = rep.windows;
    before_limit = rep.before_limit;
    history = windows-history st caller windows are rep.history ok;
    clock = subst (λ o. ClockRowMatches o (after_windows st caller windows)) (sym clock_new) refl;
    sets = λ k. sets_new k ∙ sym (ap (λ o. stored_set o (after_windows st caller windows) k)
        clock_new);
    carriers = λ k. ap is_some (changed.carriers k) ∙ rep.carriers k;
    lrns = λ k. changed.lrns k ∙ rep.lrns k;
    codes = λ k. changed.codes k ∙ rep.codes k;
    blocks = λ b. changed.blocks b ∙ rep.blocks b
        ∙ ap (λ (r : Record). option_map (λ donor. record {
          donor = donor;
          last = option_map (λ (v : Version). v.id) (last_version r);
        }) (donor_of b st.history)) (sym (windows-record st caller windows (Block b)));
    subjects = λ s. windows-lag st caller windows are rep.history ok new s
        (same_rows_show s old new (record_now st s) (same s) (settled s).rows_match)
        (settled s).quiet;
  }
