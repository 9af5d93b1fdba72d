use Rattle.cli.proofs.Endings.{serving_ends}
use Rattle.cli.proofs.running.run_on.Goals as goal

pub returns-in-Serve-clause-new : goal.returns-in-Serve-clause-new
returns-in-Serve-clause-new g c = λ zero.
    serving_ends c.args.line.now c.in-Serve.port c.in-Serve.connections c.in-Serve.limits
    c.in-Serve.log c.in-Serve.is _ _ c.listen_logging.ensures.rises zero c.listen_logging.result
    c.listen_logging.ensures.fault c.listen_logging.ensures.storage
