use Rattle.std.proofs.Common.{◌∙◌, ap, map}
use Rattle.kernel_text.specs.Images.{class_at}
use Rattle.kernel_text.proofs.GoalImages.{classes_named, image_is}
use Rattle.kernel_text.proofs.images.image_of.Goals as goal

pub returns : goal.returns
returns c = λ size inside.
    image_is c.args.members.now size c.args.goal.now c.in_ok-classes.classes.items c.sort_once.new.numbers.items inside
    (classes_named c.args.members.now c.args.goal.now c.in_ok-classes.classes.items (c.in_ok-classes.ensures ∙ ap (map (class_at c.args.members.now)) (c.deref.ensures.value ∙ c.in_ok-chosen.ensures)))
    c.sort_once.ensures.ascending c.sort_once.ensures.same
