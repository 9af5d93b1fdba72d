-- The models of subjects, routings and minutes.
use Rattle.std.specs.Prelude.{ℕ, option_map}
use Rattle.numbers.specs.Subjects.{Subject, Number, Block, subject_key}
use Rattle.numbers.specs.Routings.{Routing}
use Rattle.numbers.specs.declared.ported.Subject.{Subject as SubjectImpl}
use Rattle.numbers.specs.declared.ported.Subject.TheVariants.{Number as NumberImpl, Block as BlockImpl}
use Rattle.numbers.specs.declared.ported.Routing.{Routing as RoutingImpl}
use Rattle.numbers.specs.declared.cic.Cic.{Cic}
use Rattle.numbers.specs.declared.minute.Minute.{Minute}

abbrev pub subject_of : SubjectImpl → Subject
subject_of (NumberImpl tn) = Number tn.number
subject_of (BlockImpl block) = Block block.number

abbrev pub routing_of : RoutingImpl → Routing
routing_of r = record { lrn = r.lrn.number; cic = option_map (λ (c : Cic). c.number) r.cic }

abbrev pub minute_of : Minute → ℕ
minute_of m = m.number

-- The key that orders subjects of the code.
abbrev pub key_of : SubjectImpl → ℕ
key_of s = subject_key (subject_of s)
