use Rattle.repo_model.specs.FirstFault.{first_fault}
use Rattle.coinst_run.proofs.Kernels.{index_accepted}
use Rattle.coinst_run.proofs.stages.finished_index.Goals as goal

pub returns-in-Ok-clause-suite : goal.returns-in-Ok-clause-suite
returns-in-Ok-clause-suite c = λ text stands.
    index_accepted c.args.path.now text c.in-Ok.suite.home c.in-Ok.suite.packages (c.in-Ok.ensures.accepted text stands) (c.in-Ok.ensures.packages text stands) (c.in-Ok.ensures.home text stands)

pub returns-in-Ok-clause-named : goal.returns-in-Ok-clause-named
returns-in-Ok-clause-named c = c.in-Ok.ensures.named

pub returns-in-Err-clause-stop : goal.returns-in-Err-clause-stop
returns-in-Err-clause-stop c = λ text stands. c.faulty.ensures text (first_fault text) (c.in-Err.ensures.refused text stands)
