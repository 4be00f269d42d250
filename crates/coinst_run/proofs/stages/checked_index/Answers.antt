use Rattle.repo_model.specs.FirstFault.{first_fault}
use Rattle.coinst_run.proofs.Kernels.{index_accepted}
use Rattle.coinst_run.proofs.stages.checked_index.Goals as goal

pub returns-in-Ok-clause-suite : goal.returns-in-Ok-clause-suite
returns-in-Ok-clause-suite c =
    index_accepted c.args.path.now c.args.text.now c.in-Ok.suite.home c.in-Ok.suite.packages c.in-Ok.ensures.accepted c.in-Ok.ensures.packages c.in-Ok.ensures.home

pub returns-in-Ok-clause-named : goal.returns-in-Ok-clause-named
returns-in-Ok-clause-named c = c.in-Ok.ensures.named

pub returns-in-Err-clause-stop : goal.returns-in-Err-clause-stop
returns-in-Err-clause-stop c = c.faulty.ensures c.args.text.now (first_fault c.args.text.now) c.in-Err.ensures.refused
