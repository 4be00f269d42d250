use Rattle.std.proofs.Common.{◌<◌, ◌≤◌, ◌∙◌, length, sym, subst}
use Rattle.repo_model.specs.Repository.{suite_repository}
use Rattle.listed.specs.Lists.{Ascending}
use Rattle.suite_compare.proofs.{Gathering.{image_filled}, SuiteKernels.{classes_ascending}}
use Rattle.explain_core.proofs.Askings.{classes_all, wanted_inside}
use Rattle.explain_core.proofs.asking.classes_of.Goals as goal

pub image_of-requires : goal.image_of-requires
image_of-requires c = wanted_inside c.args.view.now.suite.packages c.args.goals.now c.args.wanted.now c.at.result.now c.loop-place.place c.requires
    (subst (λ n. c.loop-place.place < n) c.count-place-end.ensures.count c.loop-place-test.true) c.at.ensures.clause

pub push-requires-clause-ascending : goal.push-requires-clause-ascending
push-requires-clause-ascending c = subst Ascending (sym (c.deref.ensures.value ∙ c.in_ok-image.ensures))
    (classes_ascending c.args.view.now.limit c.args.view.now.kernel.hold (suite_repository c.args.view.now.suite.home c.args.view.now.suite.packages) c.at.result.now)

pub push-requires-clause-filled : goal.push-requires-clause-filled
push-requires-clause-filled c = subst (λ ns. 0 < length ns) (sym (c.deref.ensures.value ∙ c.in_ok-image.ensures))
    (image_filled c.args.view.now.limit c.args.view.now.kernel.hold c.args.view.now.suite.home c.args.view.now.suite.packages c.at.result.now
    (wanted_inside c.args.view.now.suite.packages c.args.goals.now c.args.wanted.now c.at.result.now c.loop-place.place c.requires
    (subst (λ n. c.loop-place.place < n) c.count-place-end.ensures.count c.loop-place-test.true) c.at.ensures.clause) c.at.ensures.need.filled)

pub returns : goal.returns
returns c = classes_all c.args.view.now.limit c.args.view.now.kernel.hold c.args.view.now.suite.home c.args.view.now.suite.packages c.args.goals.now c.args.wanted.now c.loop-place.classes c.loop-place.place c.requires
    (subst (λ n. n ≤ c.loop-place.place) c.count-place-end.ensures.count c.loop-place-test.false) c.loop-place.invariant
