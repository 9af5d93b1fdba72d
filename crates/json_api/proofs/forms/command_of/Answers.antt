use Rattle.json_api.proofs.forms.command_of.Goals as goal

pub returns-in-Carriers-clause-none : goal.returns-in-Carriers-clause-none
returns-in-Carriers-clause-none g c = rw c.in-Carriers.is c.register_carrier.ensures.none

pub returns-in-RoutingNumbers-clause-none : goal.returns-in-RoutingNumbers-clause-none
returns-in-RoutingNumbers-clause-none g c =
    rw c.in-RoutingNumbers.is c.register_routing_number.ensures.none

pub returns-in-Codes-clause-none : goal.returns-in-Codes-clause-none
returns-in-Codes-clause-none g c = rw c.in-Codes.is c.open_code.ensures.none

pub returns-in-OldProviderCreate-clause-none : goal.returns-in-OldProviderCreate-clause-none
returns-in-OldProviderCreate-clause-none g c =
    rw c.in-OldProviderCreate.is c.old_provider_create.ensures.none

pub returns-in-NewProviderCreate-clause-none : goal.returns-in-NewProviderCreate-clause-none
returns-in-NewProviderCreate-clause-none g c =
    rw c.in-NewProviderCreate.is c.new_provider_create.ensures.none

pub returns-in-OnVersion-clause-none : goal.returns-in-OnVersion-clause-none
returns-in-OnVersion-clause-none g c = rw c.in-OnVersion.is c.on_version.ensures.none

pub returns-in-OnBlock-clause-none : goal.returns-in-OnBlock-clause-none
returns-in-OnBlock-clause-none g c = rw c.in-OnBlock.is c.on_block.ensures.none

pub returns-in-Windows-clause-none : goal.returns-in-Windows-clause-none
returns-in-Windows-clause-none g c = rw c.in-Windows.is c.set_windows.ensures.none
