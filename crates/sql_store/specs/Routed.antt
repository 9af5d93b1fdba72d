-- The versions in force, by the rows of versions.
use Rattle.std.specs.Prelude.{Option, option_and_then, option_map}
use Rattle.numbers.specs.Routings.{Routing}
use Rattle.numbers.specs.Subjects.{Subject}
use Rattle.numbers.specs.Abstraction.{routing_of, subject_of}
use Rattle.delivery.specs.declared.mirror.RoutedRow.{RoutedRow}
use Rattle.model.specs.Content.{VersionRow}

abbrev pub routed_model : RoutedRow → Subject × Routing
routed_model r = (subject_of r.subject, routing_of r.routing)

-- The subject and the routing of a version in force.
abbrev pub routed_in : VersionRow → Option (Subject × Routing)
routed_in v = option_and_then (λ s. option_map (λ r. (s, r)) v.routing) v.holds
