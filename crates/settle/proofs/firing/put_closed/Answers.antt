use Rattle.std.proofs.Common.{map, ap, ◌∙◌, refl}
use Rattle.settle.specs.Changes.{Changes, changes_of as changes_model}
use Rattle.settle.specs.Closing.{close_changes as closing_rows}
use Rattle.settle.specs.Lists.{items_of}
use Rattle.settle.specs.Abstraction.{broadcast_row_of, spid_of, wait_key_of}
use Rattle.settle.proofs.FiredCode.{taken_tables, downloads_seen}
use Rattle.settle.proofs.firing.put_closed.Goals as goal

pub returns : goal.returns
returns c =
    taken_tables (changes_model c.args.changes.now) c.args.key.id c.args.key.attempt
    (items_of c.args.changes.now.versions) (broadcast_row_of c.args.broadcast.now)
    (map spid_of c.args.waiting.now) _ _ c.requires
    refl
    (ap (map wait_key_of) c.in_ok-downloads.ensures ∙ downloads_seen c.args.broadcast.now.minute
    c.args.key.id c.args.key.attempt c.args.waiting.now)
    c.if-broadcast.false
    ∙ ap (λ vs. closing_rows c.args.key.id c.args.key.attempt vs
    (broadcast_row_of c.args.broadcast.now) (map spid_of c.args.waiting.now))
    (ap (λ (n : Changes). n.versions) c.requires)
