use Rattle.std.proofs.{Common.{◌∙◌, sym}, lemmas.Bool.{both_ways}}
use Rattle.listed.specs.Lists.{has}
use Rattle.listed.proofs.Lists.{In_has}
use Rattle.clause_prune.proofs.filing.file_under.Goals as goal

pub returns-then-not-holds_ascending-clause-filed : goal.returns-then-not-holds_ascending-clause-filed
returns-then-not-holds_ascending-clause-filed c = λ i.
    absurd (both_ways (has c.args.members.now c.args.number) (sym c.holds_ascending.ensures ∙ c.if-not-holds_ascending.true) (In_has i))
