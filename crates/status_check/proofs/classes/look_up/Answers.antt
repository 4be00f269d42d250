use Rattle.std.proofs.Common.{◌∙◌, ap, length, not, sym}
use Rattle.suite_compare.proofs.Groups.{map_pushed}
use Rattle.status_check.specs.Report.{line_for}
use Rattle.status_check.proofs.HadGoals.{classes_more, classes_same, found_inside, had_by, image_ascending, image_some, some_numbers}
use Rattle.status_check.proofs.classes.look_up.Goals as goal

pub image_of-requires : goal.image_of-requires
image_of-requires c =
    let view = c.args.view.now in
    found_inside view.limit view.kernel.hold view.suite.home view.suite.packages c.facts-item.result c.as_slice-numbers.result.now (c.as_slice-numbers.ensures.value ∙ c.in_ok-found.ensures)

pub push-requires-in-loop-facts-clause-ascending : goal.push-requires-in-loop-facts-clause-ascending
push-requires-in-loop-facts-clause-ascending c =
    let view = c.args.view.now in
    image_ascending view.limit view.kernel.hold view.suite.home view.suite.packages c.as_slice-numbers.result.now c.deref.result.now (c.deref.ensures.value ∙ c.in_ok-image.ensures)

pub push-requires-in-loop-facts-clause-filled : goal.push-requires-in-loop-facts-clause-filled
push-requires-in-loop-facts-clause-filled c =
    let view = c.args.view.now in
    image_some view.limit view.kernel.hold view.suite.home view.suite.packages c.facts-item.result c.as_slice-numbers.result.now c.deref.result.now (c.as_slice-numbers.ensures.value ∙ c.in_ok-found.ensures) (some_numbers (length c.as_slice-numbers.result.now) (sym c.is_empty-in-loop-facts.ensures ∙ c.if-is_empty.false))
    (c.deref.ensures.value ∙ c.in_ok-image.ensures)

pub loop-facts-preserved : goal.loop-facts-preserved
loop-facts-preserved c =
    let view = c.args.view.now in
    let index = view.suite.packages in
    let found = c.as_slice-numbers.ensures.value ∙ c.in_ok-found.ensures in
    record {
      lines = map_pushed (line_for index) c.args.packages.now c.loop-facts.facts-index c.facts-item.result c.loop-facts.lines c.push.new.self c.in_ok-line.line c.loop-facts-test.true c.in_ok-push.ensures.ok
          (c.in_ok-line.ensures index (ap not c.is_empty.ensures ∙ had_by index c.facts-item.result c.as_slice-numbers.result.now found) ∙ ap (line_for index) c.facts-item.is) c.loop-facts.invariant.lines;
      classes = classes_more view.limit view.kernel.hold view.suite.home index c.args.packages.now c.loop-facts.facts-index c.facts-item.result c.as_slice-numbers.result.now c.deref.result.now c.loop-facts.classes c.push-in-loop-facts.new.self
          c.loop-facts-test.true c.facts-item.is found (sym c.is_empty-in-loop-facts.ensures ∙ c.if-is_empty.false) (c.deref.ensures.value ∙ c.in_ok-image.ensures) c.in_ok-push-2.ensures.ok c.loop-facts.invariant.classes;
    }

pub loop-facts-preserved-then-is_empty : goal.loop-facts-preserved-then-is_empty
loop-facts-preserved-then-is_empty c =
    let view = c.args.view.now in
    let index = view.suite.packages in
    let found = c.as_slice-numbers.ensures.value ∙ c.in_ok-found.ensures in
    record {
      lines = map_pushed (line_for index) c.args.packages.now c.loop-facts.facts-index c.facts-item.result c.loop-facts.lines c.push.new.self c.in_ok-line.line c.loop-facts-test.true c.in_ok-push.ensures.ok
          (c.in_ok-line.ensures index (ap not c.is_empty.ensures ∙ had_by index c.facts-item.result c.as_slice-numbers.result.now found) ∙ ap (line_for index) c.facts-item.is) c.loop-facts.invariant.lines;
      classes = classes_same view.limit view.kernel.hold view.suite.home index c.args.packages.now c.loop-facts.facts-index c.facts-item.result c.as_slice-numbers.result.now c.loop-facts.classes
          c.loop-facts-test.true c.facts-item.is found (sym c.is_empty-in-loop-facts.ensures ∙ c.if-is_empty.true) c.loop-facts.invariant.classes;
    }
