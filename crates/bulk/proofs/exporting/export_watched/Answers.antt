use Rattle.std.proofs.Common.{◌∙◌, map, ap}
use Rattle.delivery.specs.Mirrors.{in_force_of}
use Rattle.model.specs.State.{all_in_force}
use Rattle.bulk.specs.Exports.{export_header}
use Rattle.bulk.proofs.Exported.{all_exported, part_exported}
use Rattle.bulk.proofs.exporting.export_watched.Goals as goal

pub returns-in-Ok-clause-exports : goal.returns-in-Ok-clause-exports
unfolding export_header
returns-in-Ok-clause-exports g c = λ u st s.
    all_exported (g.W.Write.contents c.args.writer.now) (g.W.Write.contents c.send_file.new.writer)
    export_header c.deref.result.now (all_in_force st) c.in-Ok.rows
    (ap (map in_force_of) c.deref.ensures.value ∙ c.in-Ok-Ok.ensures'.rows u st s)
    c.in-Ok.ensures.ok

pub returns-clause-exports : goal.returns-clause-exports
unfolding export_header
returns-clause-exports g c = λ u st s.
    part_exported (g.W.Write.contents c.args.writer.now) (g.W.Write.contents c.send_file.new.writer)
    export_header c.deref.result.now (all_in_force st) c.in-Err.rows
    (ap (map in_force_of) c.deref.ensures.value ∙ c.in-Ok-Ok.ensures'.rows u st s)
    c.in-Err.ensures.err
