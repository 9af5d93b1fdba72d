-- The models of downloads and of a carrier's copy.
use Rattle.std.specs.Prelude.{Option, Some, option_map}
use Rattle.std.specs.Ordering.{nat_cmp, on}
use Rattle.std.specs.BTreeMap.{BTreeMap, get}
use Rattle.numbers.specs.Routings.{Routing}
use Rattle.numbers.specs.Abstraction.{key_of, subject_of, routing_of}
use Rattle.numbers.specs.declared.ported.Subject.{Subject as SubjectImpl}
use Rattle.numbers.specs.declared.ported.Routing.{Routing as RoutingImpl}
use Rattle.model.specs.State.{Download, InForce}
use Rattle.delivery.specs.declared.download.Download.{Download as DownloadImpl}
use Rattle.delivery.specs.declared.mirror.RoutedRow.{RoutedRow}

-- The model of a download.
abbrev pub download_of : DownloadImpl → Download
download_of d = record {
  id = d.id;
  attempt = d.attempt;
  minute = d.minute.number;
  subject = subject_of d.subject;
  action = d.action;
  routing = option_map routing_of d.routing;
}

-- A subject in force, with its routing.
abbrev pub in_force_of : RoutedRow → InForce
in_force_of r = record { subject = subject_of r.subject; routing = Some (routing_of r.routing) }

-- The routing of a subject in a copy.
abbrev pub routing_in_copy : BTreeMap SubjectImpl RoutingImpl → SubjectImpl → Option Routing
routing_in_copy routings s = option_map routing_of (get (on key_of nat_cmp) routings s)
