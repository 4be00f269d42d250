use Rattle.repo_model.proofs.Elements.{at_place}
use Rattle.suite_compare.proofs.ask.each_class.Goals as goal

pub bounds-class_of-number : goal.bounds-class_of-number
bounds-class_of-number c = c.requires _ (at_place c.args.chosen.now c.loop-number.number-index 0 c.loop-number-test.true)
