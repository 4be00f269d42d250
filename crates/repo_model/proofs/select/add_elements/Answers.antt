use Rattle.std.proofs.Common.{get_or, refl}
use Rattle.listed.proofs.Lists.{In_at}
use Rattle.relation_fields.specs.Elements.{elements_of}
use Rattle.repo_model.proofs.Selected.{marked_next}
use Rattle.repo_model.proofs.select.add_elements.Goals as goal

pub add_element-requires-clause-mark : goal.add_element-requires-clause-mark
add_element-requires-clause-mark c = c.requires.marks (get_or c.args.marks.now c.loop-mark.mark-index 0) (In_at c.args.marks.now c.loop-mark.mark-index 0 c.loop-mark-test.true)

pub loop-mark-preserved : goal.loop-mark-preserved
loop-mark-preserved c =
    let done = c.in_ok-add_element.ensures in
    record {
      elements = marked_next c.args.distinct.now c.args.marks.now c.loop-mark.mark-index (get_or c.args.marks.now c.loop-mark.mark-index 0) (elements_of c.args.made.now) (elements_of c.loop-mark.made) (elements_of c.add_element.new.made)
          c.loop-mark-test.true refl c.loop-mark.invariant.elements done.elements;
      renamed = done.renamed;
    }
