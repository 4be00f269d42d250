use Rattle.std.proofs.lemmas.Result.{IfOk-weaker}
use Rattle.repo_model.proofs.{Accepted.{read_named}, Standing.{fault_now}}
use Rattle.repo_model.proofs.feed.SuiteFeed.finish.Goals as goal

pub returns-in-Err-clause-refused : goal.returns-in-Err-clause-refused
returns-in-Err-clause-refused c = λ text stands. fault_now _ text (rw c.in-Err.is at stands)

pub returns-in-Ok-clause-named : goal.returns-in-Ok-clause-named
returns-in-Ok-clause-named c =
    IfOk-weaker c.finish.result _ _
    (λ suite of text stands. let read = of text (rw c.in-Ok.is at stands) in read_named text suite.packages read.fine read.facts)
    c.finish.ensures.suite
