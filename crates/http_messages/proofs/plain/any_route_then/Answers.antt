use Rattle.http_messages.proofs.plain.any_route_then.Goals as goal

pub returns : goal.returns
returns c = (c.in_ok-path.path.now, c.in_ok-path.ensures, c.route_of.ensures)
