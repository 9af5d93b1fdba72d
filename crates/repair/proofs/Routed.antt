-- A version's row with the routing that it sends.
use Rattle.std.proofs.Common.{◌≡◌, ◌∙◌, true, Option, Some, None, ap, refl, sym}
use Rattle.std.specs.Prelude.{is_some}
use Rattle.numbers.specs.Routings.{Routing}
use Rattle.numbers.proofs.Small.{impossible}
use Rattle.model.specs.Content.{VersionRow}
use Rattle.sql_rows.specs.Versions.{modified_to, next_of, rerouted}
use Rattle.sql_rows.proofs.Rerouted.{rerouted-none, rerouted-put}

pub routed_by : (stored : Option Routing) (put : Routing) (v w : VersionRow)
    → is_some (next_of v.status) ≡ true → stored ≡ Some put → w ≡ modified_to put v
    → w ≡ rerouted stored v
routed_by stored put v w sends some made = by_cases (next_of v.status) refl sends
  where
    by_cases : (o : Option Routing) → next_of v.status ≡ o → is_some o ≡ true
        → w ≡ rerouted stored v
    by_cases None e h = impossible (sym h)
    by_cases (Some own) e h =
        made ∙ sym (rerouted-put put own v e) ∙ ap (λ o. rerouted o v) (sym some)

pub unrouted : (stored : Option Routing) (v : VersionRow) → stored ≡ None → v ≡ rerouted stored v
unrouted stored v none = sym (rerouted-none v) ∙ ap (λ o. rerouted o v) (sym none)
