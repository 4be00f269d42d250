use Rattle.std.{proofs.Common.{◌<◌, length, arith}, proofs.lemmas.Grind.{common_steps}}
use Rattle.repo_model.specs.Repository.{suite_repository}
use Rattle.suite_compare.proofs.{Gathering.{image_filled, named_ascending, named_inside}, SuiteKernels.{classes_ascending}}
use Rattle.suite_compare.proofs.ask.ask.Goals as goal

pub image_of-requires : goal.image_of-requires
image_of-requires c = λ n i. named_inside c.args.view.now.suite.packages c.index-goals-place.result n (rw (c.deref.ensures.value, c.in_ok-chosen.ensures) at i)

pub push-requires-clause-ascending : goal.push-requires-clause-ascending
push-requires-clause-ascending c = rw (c.deref-in-loop-place.ensures.value, c.in_ok-chosen.ensures) (named_ascending c.args.view.now.suite.packages c.index-goals-place.result)

pub push-requires-in-loop-place-clause-ascending : goal.push-requires-in-loop-place-clause-ascending
push-requires-in-loop-place-clause-ascending c =
    let suite = c.args.view.now.suite in
    rw (c.deref-in-loop-place-2.ensures.value, c.in_ok-image.ensures) (classes_ascending c.args.view.now.limit c.args.view.now.kernel.hold (suite_repository suite.home suite.packages) c.deref.result.now)

pub push-requires-in-loop-place-clause-filled : goal.push-requires-in-loop-place-clause-filled
push-requires-in-loop-place-clause-filled c =
    let suite = c.args.view.now.suite in
    let some : 0 < length c.deref.result.now = grind (arith, common_steps) in
    rw (c.deref-in-loop-place-2.ensures.value, c.in_ok-image.ensures) (image_filled c.args.view.now.limit c.args.view.now.kernel.hold suite.home suite.packages c.deref.result.now
    (λ n i. named_inside suite.packages c.index-goals-place.result n (rw (c.deref.ensures.value, c.in_ok-chosen.ensures) at i)) some)
