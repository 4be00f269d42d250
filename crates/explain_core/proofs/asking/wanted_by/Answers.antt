use Rattle.std.proofs.Common.{sym, subst, ◌∙◌}
use Rattle.listed.specs.Lists.{Ascending}
use Rattle.suite_compare.proofs.Gathering.{named_ascending}
use Rattle.explain_core.proofs.asking.wanted_by.Goals as goal

pub push-requires-clause-ascending : goal.push-requires-clause-ascending
push-requires-clause-ascending c =
    subst Ascending (sym (c.deref.ensures.value ∙ c.in_ok-chosen.ensures)) (named_ascending c.args.view.now.suite.packages c.index-goals-place.result)
