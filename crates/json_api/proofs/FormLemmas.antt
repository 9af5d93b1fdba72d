-- Texts that are no numbers, and values that have no form.
use Rattle.std.proofs.Common.{◌≡◌, ◌≢◌, ℕ, List, Option, Some, None, IfNone, ◌∙◌, refl}
use Rattle.serde_json.specs.Data.{Data}
use Rattle.model.specs.Commands.{VersionCommand, Command}
use Rattle.http_messages.specs.declared.paths.Route.{Route}
use Rattle.http_messages.specs.declared.paths.Route.TheVariants.{Carriers, Clock, RoutingNumbers, Codes, OldProviderCreate as OldProviderPath, NewProviderCreate as NewProviderPath, OnVersion as VersionPaths, OnBlock as BlockPaths, Acknowledge, Query, Windows as WindowsPath, Version, Number, Downloads}
use Rattle.http_messages.specs.declared.paths.VersionPath.TheVariants.{ModifyRouting as ModifyPath}
use Rattle.http_messages.specs.declared.paths.BlockPath.TheVariants.{Assign as AssignPath, Donate as DonatePath}
use Rattle.model.specs.History.{CommandRequest}
use Rattle.requests.specs.Calls.{RequestCall}
use Rattle.json_api.specs.Forms.{HasVersionCommand, IsTextOf, ApiCall, RegisterCall, HasPort, HasLrn, HasCic, HasBlockCommand, HasCommand, HasValues}

pub no_text : (IsOne : ℕ → Type 0) (text_of : ℕ → List ℕ) (given : Option (List ℕ)) → None ≡ given
    → (n : ℕ) → ¬ (IsTextOf IsOne text_of given n)
no_text IsOne text_of given e n w = let h : None ≡ Some (text_of n) = e ∙ w.said in cc

pub other_text : (IsOne : ℕ → Type 0) (text_of : ℕ → List ℕ) (given : Option (List ℕ)) (t : List ℕ)
    → Some t ≡ given → ((n : ℕ) → IsOne n → t ≢ text_of n) → (n : ℕ)
    → ¬ (IsTextOf IsOne text_of given n)
other_text IsOne text_of given t e h n w = h n w.valid (let k : Some t ≡ Some (text_of n) =
    e ∙ w.said in cc)

pub on_none : {X P : Type 0} (o : Option X) → P → IfNone o P
on_none None p = p
on_none (Some x) p = tt

pub no_values : (route : Route) (d : Data) → route ≢ Acknowledge → route ≢ Query → route ≢ Clock
    → ((c : Command) → ¬ (HasCommand route d c)) → (asked : ApiCall) → ¬ (HasValues route d asked)
no_values Carriers d a q k h asked x = h x.0 x.1
no_values RoutingNumbers d a q k h asked x = h x.0 x.1
no_values Codes d a q k h asked x = h x.0 x.1
no_values OldProviderPath d a q k h asked x = h x.0 x.1
no_values NewProviderPath d a q k h asked x = h x.0 x.1
no_values (VersionPaths path) d a q k h asked x = h x.0 x.1
no_values (BlockPaths path) d a q k h asked x = h x.0 x.1
no_values WindowsPath d a q k h asked x = h x.0 x.1
no_values Acknowledge d a q k h asked x = a refl
no_values Query d a q k h asked x = q refl
no_values Clock d a q k h asked x = k refl
no_values (Version id) d a q k h asked x = x
no_values (Number tn) d a q k h asked x = x
no_values (Downloads count) d a q k h asked x = x

pub values_of_command : (route : Route) (d : Data) (c : Command) → route ≢ Acknowledge
    → route ≢ Query → route ≢ Clock → HasCommand route d c
    → HasValues route d (RegisterCall (RequestCall (CommandRequest c)))
values_of_command Carriers d c a q k x = (c, x, refl)
values_of_command RoutingNumbers d c a q k x = (c, x, refl)
values_of_command Codes d c a q k x = (c, x, refl)
values_of_command OldProviderPath d c a q k x = (c, x, refl)
values_of_command NewProviderPath d c a q k x = (c, x, refl)
values_of_command (VersionPaths path) d c a q k x = (c, x, refl)
values_of_command (BlockPaths path) d c a q k x = (c, x, refl)
values_of_command WindowsPath d c a q k x = (c, x, refl)
values_of_command Acknowledge d c a q k x = absurd x
values_of_command Query d c a q k x = absurd x
values_of_command Clock d c a q k x = absurd x
values_of_command (Version id) d c a q k x = absurd x
values_of_command (Number tn) d c a q k x = absurd x
values_of_command (Downloads count) d c a q k x = absurd x

pub no_old_create : (d : Data) → ((tn old_provider new_provider due : ℕ)
    → ¬ (HasPort d tn old_provider new_provider due)) → (c : Command)
    → ¬ (HasCommand OldProviderPath d c)
no_old_create d h c x = h x.0 x.1 x.2 x.3 x.5

pub no_new_create : (d : Data) → ((tn old_provider new_provider due : ℕ)
    → ¬ (HasPort d tn old_provider new_provider due)) → (c : Command)
    → ¬ (HasCommand NewProviderPath d c)
no_new_create d h c x = h x.0 x.1 x.2 x.3 x.6

pub no_routing : (d : Data) → ((lrn : ℕ) (cic : Option ℕ) → HasLrn d lrn → ¬ (HasCic d cic))
    → (c : Command) → ¬ (HasCommand NewProviderPath d c)
no_routing d h c x = h x.4 x.5 x.7 x.8

pub no_assignment : (d : Data) → ((lrn : ℕ) (cic : Option ℕ) → HasLrn d lrn → ¬ (HasCic d cic))
    → (c : Command) → ¬ (HasBlockCommand AssignPath d c)
no_assignment d h c x = h x.2 x.3 x.6 x.7

pub no_donation : (d : Data) → ((lrn : ℕ) (cic : Option ℕ) → HasLrn d lrn → ¬ (HasCic d cic))
    → (c : Command) → ¬ (HasBlockCommand DonatePath d c)
no_donation d h c x = h x.2 x.3 x.6 x.7

pub no_modify : (d : Data) → ((lrn : ℕ) (cic : Option ℕ) → HasLrn d lrn → ¬ (HasCic d cic))
    → (c : VersionCommand) → ¬ (HasVersionCommand ModifyPath d c)
no_modify d h c x = h x.0 x.1 x.2 x.3

-- There is no window, whatever its minutes.
pub no_window : {P : Type 0} (given : Option ℕ) (n : ℕ) → None ≡ given → given ≡ Some n → P
no_window given n e h = let no : None ≡ Some n = e ∙ h in cc
