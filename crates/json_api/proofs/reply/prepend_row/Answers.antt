use Rattle.std.proofs.Common.{◌≡◌, ◌++◌, ◌∙◌, ℕ, List, codes, ap, append_assoc}
use Rattle.numbers.specs.Texts.{subject_text}
use Rattle.requests.specs.Calls.{in_force_of}
use Rattle.json_api.specs.Texts.{cic_in, cic_value, lrn_in, lrn_value}
use Rattle.json_api.proofs.reply.prepend_row.Goals as goal

pub returns-clause-text : goal.returns-clause-text
returns-clause-text c =
    let row = in_force_of c.args.row.now in
    let cic : List ℕ = cic_value (cic_in row.routing) in
    let lrn : List ℕ = lrn_value (lrn_in row.routing) in
    let subject : List ℕ = subject_text row.subject in
    let end = c.prepend_subject.ensures.text ∙ ap (λ ys. subject ++ ys) c.prepend.ensures.text in
    let after = c.prepend-2.ensures.text ∙ ap (λ ys. codes ",\"subject\":\"" ++ ys) end in
    let routed = c.prepend_lrn_or_null.ensures.text ∙ ap (λ ys. lrn ++ ys) after in
    let named = c.prepend-3.ensures.text ∙ ap (λ ys. codes ",\"lrn\":" ++ ys) routed in
    let coded = c.prepend_cic_or_null.ensures.text ∙ ap (λ ys. cic ++ ys) named in
    c.prepend-4.ensures.text ∙ ap (λ ys. codes "{\"cic\":" ++ ys) coded
    ∙ together (codes "{\"cic\":") cic (codes ",\"lrn\":") lrn (codes ",\"subject\":\"") subject
    (codes "\"}") c.args.tail.now
  where
    together : (p q r s t u v w : List ℕ) → p ++ (q ++ (r ++ (s ++ (t ++ (u ++ (v ++ w))))))
        ≡ p ++ q ++ r ++ s ++ t ++ u ++ v ++ w
    together p q r s t u v w = simp (append_assoc)
