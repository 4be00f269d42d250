use Rattle.std.proofs.Common.{◌≡◌, ◌<◌, true, length, get_or, arith, [], refl, sym, ◌∙◌, subst}
use Rattle.search_terms.specs.Tree.{is_open_need}
use Rattle.clause_solver.specs.Marking.{set_of_trail}
use Rattle.clause_solver.proofs.{Running.{no_use}, Drains.{item_from}, Openings.{least_take}}
use Rattle.clause_solver.proofs.nodes.lesser_open.Goals as goal

pub loop-entry-preserved : goal.loop-entry-preserved
loop-entry-preserved c =
    let u = get_or c.args.row.now c.loop-entry.entry-index no_use in
    let less : u.sentence < c.loop-entry.least = omega (arith, c.if-k-least.false) in
    let lt : u.sentence < length c.args.own.now = (c.requires c.loop-entry.entry-index no_use c.loop-entry-test.true).within in
    let e : c.as_slice.result.now ≡ get_or c.args.own.now u.sentence [] = item_from c.args.own.now u.sentence u.sentence [] c.as_slice.result.now c.index-own-k.result lt refl c.as_slice.ensures c.index-own-k.is in
    let opens : is_open_need (set_of_trail c.args.trail.now.1) (get_or c.args.own.now u.sentence []) ≡ true =
    subst (λ s. is_open_need (set_of_trail c.args.trail.now.1) s ≡ true) e (sym c.is_open_need.ensures ∙ c.if-not-is_open_need.false) in
    least_take (set_of_trail c.args.trail.now.1) c.args.own.now c.args.row.now c.args.before c.loop-entry.least c.loop-entry.entry-index no_use u c.loop-entry-test.true refl less opens c.loop-entry.invariant
