use Rattle.std.proofs.Common.{◌≡◌, ◌<◌, length, refl, get_or, arith}
use Rattle.repo_model.proofs.Elements.{at_place}
use Rattle.kernel_text.proofs.Written.{none_taken, one_taken}
use Rattle.kernel_text.proofs.classify.packages_by_class.Goals as goal

pub loop-number-init : goal.loop-number-init
loop-number-init c = none_taken c.args.class_of.now c.args.size c.in_ok-table.table.items c.in_ok-table.ensures.size c.in_ok-table.ensures.empty

-- the class of each package is one of the classes
pub enter-requires : goal.enter-requires
enter-requires c =
    let within : c.loop-number.number < length c.args.class_of.now = omega arith in
    let inside : get_or c.args.class_of.now c.loop-number.number 0 < c.args.size = c.requires.inside _ (at_place c.args.class_of.now c.loop-number.number 0 within) in
    let count : length c.loop-number.table.items ≡ c.args.size = c.loop-number.invariant.count in
    omega arith

pub loop-number-preserved : goal.loop-number-preserved
loop-number-preserved c =
    let within : c.loop-number.number < length c.args.class_of.now = omega arith in
    one_taken c.args.class_of.now c.loop-number.number c.args.size c.loop-number.table.items c.enter.new.table.items (get_or c.args.class_of.now c.loop-number.number 0) refl
    (c.requires.inside _ (at_place c.args.class_of.now c.loop-number.number 0 within)) c.loop-number.invariant c.in_ok-enter.ensures
