use Rattle.std.proofs.Common.{◌++◌, ◌∙◌, string_bytes, ap, sym, append_assoc, append-nil}
use Rattle.requests.specs.Calls.{view_of}
use Rattle.json_api.specs.Texts.{view_text, counts_text, parties_text, times_text, state_text}
use Rattle.json_api.proofs.reply.put_version.Goals as goal

pub returns-clause-bytes : goal.returns-clause-bytes
unfolding view_text
returns-clause-bytes c =
    let v = view_of c.args.view.now in
    let state = c.prepend_state.ensures.text ∙ ap (λ ys. state_text v ++ ys) c.new-body.ensures
    ∙ append-nil (state_text v) in
    let times = c.prepend_times.ensures.text ∙ ap (λ ys. times_text v ++ ys) state in
    let parties = c.prepend_parties.ensures.text ∙ ap (λ ys. parties_text v ++ ys) times in
    let counts = c.prepend_counts.ensures.text ∙ ap (λ ys. counts_text v ++ ys) parties in
    let together = append_assoc (counts_text v ++ parties_text v) (times_text v) (state_text v)
    ∙ append_assoc (counts_text v) (parties_text v) (times_text v ++ state_text v) in
    c.put.ensures.bytes ∙ ap (λ text. string_bytes c.args.out.now ++ text)
    (c.as_str.ensures ∙ counts ∙ sym together)
