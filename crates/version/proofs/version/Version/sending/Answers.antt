use Rattle.std.proofs.Common.{◌≡◌, ◌+◌, ◌∙◌, ap, rules, subst}
use Rattle.model.specs.Changes.{with_status, next_attempt}
use Rattle.model.specs.Versions.{Version}
use Rattle.model.specs.Abstraction.{send_of}
use Rattle.version.specs.Abstraction.{set_of, version_of, Becomes}
use Rattle.version.proofs.version.Version.sending.Goals as goal

pub returns : goal.returns
returns c fits all_carriers =
    let next : c.saturating_add.result ≡ c.args.self.now.attempt + 1 = search rules in
    let entered =
    subst (λ s. Becomes (with_status (set_of c.args.present.now) s c.args.minute.number)
    c.args.self.now
    c.with_status.result) c.from.ensures c.with_status.ensures in
    record {
      subject = entered.subject;
      version = λ id broadcasts windows.
          let after : Version =
          next_attempt (set_of c.args.present.now) (send_of c.args.send) all_carriers
          c.args.minute.number
          (version_of id broadcasts windows c.args.self.now) in
          ap (λ (x : Version). let y : Version = record x {
            attempt = c.saturating_add.result;
            broadcasts = after.broadcasts;
          } in y) (entered.version id broadcasts windows)
          ∙ ap (λ n. let y : Version = record after { attempt = n } in y) next;
    }
