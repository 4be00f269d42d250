use Rattle.std.proofs.Common.{◌≡◌, ◌+◌, ◌-◌, ◌<◌, ◌≤◌, ◌++◌, ◌∙◌, drop, length, sym, ap, subst, arith}
use Rattle.clause_solver.proofs.AnyConflicts.{fit_clauses}
use Rattle.explain_core.specs.Picking.{picked}
use Rattle.explain_core.proofs.CoreLoop.{classes_long, core_done, core_skip, core_step, images_are_fit, others_fit, places_more, places_wider}
use Rattle.explain_core.proofs.goals.core_of.Goals as goal

pub clash_at_once-requires-clause-fit : goal.clash_at_once-requires-clause-fit
clash_at_once-requires-clause-fit c =
    let v = c.args.view.now in
    images_are_fit v.pool v.suite.home v.suite.packages v.book v.kernel v.limit v.of_suite c.args.goals.now c.args.classes.now c.requires.classes c.args.goals.now c.args.classes.now c.requires.classes

pub clash_at_once-requires-then-count-gt1-clause-fit : goal.clash_at_once-requires-then-count-gt1-clause-fit
clash_at_once-requires-then-count-gt1-clause-fit c =
    let v = c.args.view.now in
    let long : c.count-all.result ≡ length c.args.goals.now = c.count-all.ensures.count ∙ classes_long v.pool v.suite.home v.suite.packages v.book v.kernel v.limit v.of_suite c.args.goals.now c.args.classes.now c.requires.classes in
    let l : c.loop-place.place < c.count-all.result = c.loop-place-test.true in
    let within : c.count_of-count.result ≤ c.count-all.result - c.loop-place.place = c.count_of-count.ensures.left in
    others_fit v.pool v.suite.home v.suite.packages v.book v.kernel v.limit v.of_suite c.args.goals.now c.args.classes.now c.requires.classes c.loop-place.marks c.loop-place.place (c.loop-place.place + c.count_of-count.result) c.in_ok-rest.rest
    (omega (arith, long, l)) (omega (arith, long, l, within)) c.loop-place.invariant.places
    (c.in_ok-rest.ensures ∙ ap (λ ms. picked c.args.classes.now ms ++ drop (c.loop-place.place + c.count_of-count.result) c.args.classes.now) c.as_slice.ensures)

pub loop-place-preserved-then-branch : goal.loop-place-preserved-then-branch
loop-place-preserved-then-branch c =
    let v = c.args.view.now in
    let long : c.count-all.result ≡ length c.args.goals.now = c.count-all.ensures.count ∙ classes_long v.pool v.suite.home v.suite.packages v.book v.kernel v.limit v.of_suite c.args.goals.now c.args.classes.now c.requires.classes in
    let l : c.loop-place.place < c.count-all.result = c.loop-place-test.true in
    let within : c.count_of-count.result ≤ c.count-all.result - c.loop-place.place = c.count_of-count.ensures.left in
    let budget = c.requires.budget.0 in
    record {
      left = core_skip v.pool v.suite.home v.suite.packages v.book v.kernel v.limit v.of_suite c.args.goals.now c.args.classes.now c.requires.classes c.args.budget c.loop-place.marks c.loop-place.place c.count_of-count.result c.in_ok-rest.rest
          budget (omega (arith, long, l, within)) c.loop-place.invariant.places
          (c.in_ok-rest.ensures ∙ ap (λ ms. picked c.args.classes.now ms ++ drop (c.loop-place.place + c.count_of-count.result) c.args.classes.now) c.as_slice.ensures)
          (sym c.in_ok-clash_at_once.ensures ∙ c.if-branch.true) c.loop-place.invariant.left;
      places = places_wider c.loop-place.marks c.loop-place.place (c.loop-place.place + c.count_of-count.result) (omega arith) c.loop-place.invariant.places;
      some = c.twice-block.ensures.some;
    }

pub verdict-requires-clause-goals : goal.verdict-requires-clause-goals
verdict-requires-clause-goals c =
    let v = c.args.view.now in
    let long : c.count-all.result ≡ length c.args.goals.now = c.count-all.ensures.count ∙ classes_long v.pool v.suite.home v.suite.packages v.book v.kernel v.limit v.of_suite c.args.goals.now c.args.classes.now c.requires.classes in
    let l : c.loop-place.place < c.count-all.result = c.loop-place-test.true in
    let within : c.count_of-count.result ≤ c.count-all.result - c.loop-place.place = c.count_of-count.ensures.left in
    fit_clauses v.pool v.kernel.book c.args.solver.now c.in_ok-rest.rest c.requires.solver
    (others_fit v.pool v.suite.home v.suite.packages v.book v.kernel v.limit v.of_suite c.args.goals.now c.args.classes.now c.requires.classes c.loop-place.marks c.loop-place.place (c.loop-place.place + c.count_of-count.result) c.in_ok-rest.rest
    (omega (arith, long, l)) (omega (arith, long, l, within)) c.loop-place.invariant.places
    (c.in_ok-rest.ensures ∙ ap (λ ms. picked c.args.classes.now ms ++ drop (c.loop-place.place + c.count_of-count.result) c.args.classes.now) c.as_slice.ensures))

pub clash_at_once-requires-then-is_no-clause-fit : goal.clash_at_once-requires-then-is_no-clause-fit
clash_at_once-requires-then-is_no-clause-fit c =
    let v = c.args.view.now in
    let long : c.count-all.result ≡ length c.args.goals.now = c.count-all.ensures.count ∙ classes_long v.pool v.suite.home v.suite.packages v.book v.kernel v.limit v.of_suite c.args.goals.now c.args.classes.now c.requires.classes in
    let l : c.loop-place.place < c.count-all.result = c.loop-place-test.true in
    let within : c.count_of-count.result ≤ c.count-all.result - c.loop-place.place = c.count_of-count.ensures.left in
    others_fit v.pool v.suite.home v.suite.packages v.book v.kernel v.limit v.of_suite c.args.goals.now c.args.classes.now c.requires.classes c.loop-place.marks c.loop-place.place (c.loop-place.place + c.count_of-count.result) c.in_ok-rest.rest
    (omega (arith, long, l)) (omega (arith, long, l, within)) c.loop-place.invariant.places
    (c.in_ok-rest.ensures ∙ ap (λ ms. picked c.args.classes.now ms ++ drop (c.loop-place.place + c.count_of-count.result) c.args.classes.now) c.as_slice.ensures)

pub loop-place-preserved : goal.loop-place-preserved
loop-place-preserved c =
    let v = c.args.view.now in
    let long : c.count-all.result ≡ length c.args.goals.now = c.count-all.ensures.count ∙ classes_long v.pool v.suite.home v.suite.packages v.book v.kernel v.limit v.of_suite c.args.goals.now c.args.classes.now c.requires.classes in
    let l : c.loop-place.place < c.count-all.result = c.loop-place-test.true in
    let some = c.count_of-count.ensures.some in
    let one = c.if-count-gt1.false in
    record {
      left = core_step v.pool v.suite.home v.suite.packages v.book v.kernel v.limit v.of_suite c.args.goals.now c.args.classes.now c.requires.classes c.args.budget c.loop-place.marks c.mark_by.new.marks c.loop-place.place
          (c.loop-place.place + c.count_of-count.result) c.in_ok-rest.rest c.in_ok-verdict.verdict (omega (arith, long, l)) (omega (arith, some, one)) c.loop-place.invariant.places
          (c.in_ok-rest.ensures ∙ ap (λ ms. picked c.args.classes.now ms ++ drop (c.loop-place.place + c.count_of-count.result) c.args.classes.now) c.as_slice.ensures) (rw c.requires.solver at c.in_ok-verdict.ensures) c.in_ok-mark_by.ensures c.loop-place.invariant.left;
      places = places_more c.loop-place.marks c.mark_by.new.marks c.loop-place.place c.in_ok-verdict.verdict c.in_ok-mark_by.ensures c.loop-place.invariant.places;
      some = c.block_behind-block.ensures.some;
    }

pub returns : goal.returns
returns c =
    let v = c.args.view.now in
    core_done v.pool v.suite.home v.suite.packages v.book v.kernel v.limit v.of_suite c.args.goals.now c.args.classes.now c.requires.classes c.args.budget c.loop-place.marks c.loop-place.place
    (subst (λ n. n ≤ c.loop-place.place) (c.count-all.ensures.count ∙ classes_long v.pool v.suite.home v.suite.packages v.book v.kernel v.limit v.of_suite c.args.goals.now c.args.classes.now c.requires.classes) c.loop-place-test.false)
    c.loop-place.invariant.left
