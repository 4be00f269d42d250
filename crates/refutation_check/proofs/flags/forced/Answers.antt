use Rattle.std.proofs.Common.{◌≡◌, ◌<◌, ◌∙◌, arith, sym, Some, None, length}
use Rattle.std.specs.Prelude.{find}
use Rattle.search_terms.specs.Marks.{is_marked}
use Rattle.search_terms.proofs.Sets.{forced_there, closed_more, is_unmet}
use Rattle.refutation_check.proofs.flags.forced.Goals as goal

pub returns-in-Some-clause-some : goal.returns-in-Some-clause-some
returns-in-Some-clause-some c =
    let lt : c.loop-sentence.sentence-index < length c.args.formula.now = omega arith in
    let e : find (is_unmet (is_marked c.args.flags.now) c.as_slice.result.now) c.as_slice.result.now ≡ Some c.in-Some.l = sym c.forced_in.ensures ∙ c.in-Some.is in
    forced_there c.args.formula.now (is_marked c.args.flags.now) c.sentence-item.result c.in-Some.l
    (c.loop-sentence.sentence-index, lt, sym c.sentence-item.is) (rw c.as_slice.ensures at e)

pub loop-sentence-preserved : goal.loop-sentence-preserved
loop-sentence-preserved c =
    let lt : c.loop-sentence.sentence-index < length c.args.formula.now = omega arith in
    let e : find (is_unmet (is_marked c.args.flags.now) c.as_slice.result.now) c.as_slice.result.now ≡ None = sym c.forced_in.ensures ∙ c.in_default.is in
    closed_more c.args.formula.now (is_marked c.args.flags.now) c.loop-sentence.sentence-index c.sentence-item.result lt c.sentence-item.is
    c.loop-sentence.invariant (rw c.as_slice.ensures at e)
