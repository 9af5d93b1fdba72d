use Rattle.hub.specs.Schedules.{client_of, with_arrived, with_ended, with_received}
use Rattle.hub.proofs.Played.{arrived_client, ended_client, received_client, unturned}
use Rattle.hub.proofs.client.Client.meet.Goals as goal

pub returns-in_err-arrive-in-Arrives-clause-law : goal.returns-in_err-arrive-in-Arrives-clause-law
returns-in_err-arrive-in-Arrives-clause-law g c = λ usable st s earlier is.
    unturned c.args.options.now.clock_route (g.S.StoreModel.failed c.args.register.now.store) st
    (g.S.StoreModel.content c.args.register.now.store) (g.T.Ticks.remaining c.args.ticks.now)
    (client_of c.arrive.new.self) (client_of c.args.self.now) earlier s
    c.in_err-arrive-in-Arrives.ensures.refused is

pub returns-in_err-receive-in-Receives-clause-law :
    goal.returns-in_err-receive-in-Receives-clause-law
returns-in_err-receive-in-Receives-clause-law g c = λ usable st s earlier is.
    unturned c.args.options.now.clock_route (g.S.StoreModel.failed c.args.register.now.store) st
    (g.S.StoreModel.content c.args.register.now.store) (g.T.Ticks.remaining c.args.ticks.now)
    (client_of c.receive.new.self) (client_of c.args.self.now) earlier s
    c.in_err-receive-in-Receives.ensures.refused is

pub returns-in_ok-arrive-in-Arrives-clause-law : goal.returns-in_ok-arrive-in-Arrives-clause-law
returns-in_ok-arrive-in-Arrives-clause-law g c = λ usable st s earlier is.
    unturned c.args.options.now.clock_route (g.S.StoreModel.failed c.args.register.now.store) st
    (g.S.StoreModel.content c.args.register.now.store) (g.T.Ticks.remaining c.args.ticks.now)
    (client_of c.arrive.new.self) (with_arrived (client_of c.args.self.now) c.in-Arrives.count)
    earlier s c.in_ok-arrive-in-Arrives.ensures.arrived
    (arrived_client (client_of c.args.self.now) c.in-Arrives.count earlier is)

pub returns-in-Ends-clause-law : goal.returns-in-Ends-clause-law
returns-in-Ends-clause-law g c = λ usable st s earlier is.
    unturned c.args.options.now.clock_route (g.S.StoreModel.failed c.args.register.now.store) st
    (g.S.StoreModel.content c.args.register.now.store) (g.T.Ticks.remaining c.args.ticks.now)
    (client_of c.end.new.self) (with_ended (client_of c.args.self.now)) earlier s
    c.end.ensures (ended_client (client_of c.args.self.now) earlier is)

pub returns-in_ok-receive-in-Receives-clause-law :
    goal.returns-in_ok-receive-in-Receives-clause-law
returns-in_ok-receive-in-Receives-clause-law g c = λ usable st s earlier is.
    unturned c.args.options.now.clock_route (g.S.StoreModel.failed c.args.register.now.store) st
    (g.S.StoreModel.content c.args.register.now.store) (g.T.Ticks.remaining c.args.ticks.now)
    (client_of c.receive.new.self) (with_received (client_of c.args.self.now) c.in-Receives.count)
    earlier s c.in_ok-receive-in-Receives.ensures.received
    (received_client (client_of c.args.self.now) c.in-Receives.count earlier is)
