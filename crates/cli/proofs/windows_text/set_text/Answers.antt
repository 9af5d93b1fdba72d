use Rattle.std.proofs.Common.{arith}
use Rattle.cli.proofs.WindowsText.{all_lines, text_is_read}
use Rattle.cli.proofs.windows_text.set_text.Goals as goal

pub returns-clause-text : goal.returns-clause-text
returns-clause-text c =
    all_lines c.args.set.now.number c.args.set.now.windows _ _ _ _ _ _ _ _ _ _ c.in_ok-text.ensures
    c.in_ok-push_window.ensures c.in_ok-push_window-2.ensures c.in_ok-push_window-3.ensures
    c.in_ok-push_window-4.ensures c.in_ok-push_window-5.ensures c.in_ok-push_window-6.ensures
    c.in_ok-push_window-7.ensures c.in_ok-push_window-8.ensures c.in_ok-push_window-9.ensures

pub returns-clause-reads : goal.returns-clause-reads
returns-clause-reads c =
    text_is_read _ c.args.set.now.number c.args.set.now.windows (omega arith)
    (returns-clause-text c)
