use Rattle.std.proofs.Common.{◌≡◌, ◌+◌, ◌∙◌, ℕ, List, [], ap, get_or, refl, subst, sym, arith}
use Rattle.std.specs.Prelude.{length}
use Rattle.row_book.specs.{Book.{PairsFit}, Lent.{repository_in}}
use Rattle.listed.proofs.Lists.{In_at}
use Rattle.explain_core.specs.{Only.{pair}, Deletion.{kept_behind}, Reasons.{clash_pairs, verdict_over}, declared.explanation.Clash.{Clash}}
use Rattle.explain_core.proofs.{Told.{kept_clashes}, ClashLoop.{clash_block, clash_done, clash_step, others_are, others_fit, told_fit}}
use Rattle.explain_core.proofs.clashes.reasons_among.Goals as goal

-- no pairs fit any book
none_fit : (size : ℕ) → PairsFit [] size
none_fit size = record { ordered = λ pair i. elim i [ ]; below = λ pair i. elim i [ ] }

pub loop-place-init : goal.loop-place-init
loop-place-init c =
    let verdict = verdict_over (repository_in c.args.asked.now.book) c.args.budget c.args.goals.now in
    let none : c.new-clashes.result ≡ [] = c.new-clashes.ensures in
    record {
      left = ap (λ (clashes : List Clash). kept_behind verdict (kept_clashes clashes) c.args.pairs.now) (sym none);
      fit = subst (λ (clashes : List Clash). PairsFit (clash_pairs clashes) (length c.args.asked.now.book.book.now.rows)) (sym none) (none_fit (length c.args.asked.now.book.book.now.rows));
      some = omega arith;
    }

pub clash_at_once-requires-then-count-gt1-clause-pairs : goal.clash_at_once-requires-then-count-gt1-clause-pairs
clash_at_once-requires-then-count-gt1-clause-pairs c =
    let are = others_are c.args.pairs.now c.as_slice-rest.result.now c.in_ok-made.made.items c.as_slice.result.now c.loop-place.clashes (c.loop-place.place + c.count_of-count.result) c.as_slice-rest.ensures.value c.in_ok-made.ensures c.as_slice.ensures in
    others_fit (length c.args.asked.now.book.book.now.rows) c.loop-place.clashes c.args.pairs.now c.as_slice-rest.result.now (c.loop-place.place + c.count_of-count.result) are c.loop-place.invariant.fit c.requires.pairs

pub loop-place-preserved-then-branch : goal.loop-place-preserved-then-branch
loop-place-preserved-then-branch c =
    let are = others_are c.args.pairs.now c.as_slice-rest.result.now c.in_ok-made.made.items c.as_slice.result.now c.loop-place.clashes (c.loop-place.place + c.count_of-count.result) c.as_slice-rest.ensures.value c.in_ok-made.ensures c.as_slice.ensures in
    record {
      left = clash_block c.args.asked.now.book.pool.now c.args.asked.now.book.book.now c.args.asked.now.book.sound c.args.budget c.args.goals.now c.requires.goals c.args.pairs.now c.loop-place.clashes c.as_slice-rest.result.now c.loop-place.place c.count_of-count.result
          c.requires.budget.0 c.loop-place.invariant.fit c.requires.pairs are (sym c.in_ok-clash_at_once.ensures ∙ c.if-branch.true) c.loop-place.invariant.left;
      fit = c.loop-place.invariant.fit;
      some = c.twice-block.ensures.some;
    }

pub verdict_over-requires-clause-pairs : goal.verdict_over-requires-clause-pairs
verdict_over-requires-clause-pairs c =
    let are = others_are c.args.pairs.now c.as_slice-rest.result.now c.in_ok-made.made.items c.as_slice.result.now c.loop-place.clashes (c.loop-place.place + c.count_of-count.result) c.as_slice-rest.ensures.value c.in_ok-made.ensures c.as_slice.ensures in
    others_fit (length c.args.asked.now.book.book.now.rows) c.loop-place.clashes c.args.pairs.now c.as_slice-rest.result.now (c.loop-place.place + c.count_of-count.result) are c.loop-place.invariant.fit c.requires.pairs

pub clash_at_once-requires-then-is_no-clause-pairs : goal.clash_at_once-requires-then-is_no-clause-pairs
clash_at_once-requires-then-is_no-clause-pairs c =
    let are = others_are c.args.pairs.now c.as_slice-rest.result.now c.in_ok-made.made.items c.as_slice.result.now c.loop-place.clashes (c.loop-place.place + c.count_of-count.result) c.as_slice-rest.ensures.value c.in_ok-made.ensures c.as_slice.ensures in
    others_fit (length c.args.asked.now.book.book.now.rows) c.loop-place.clashes c.args.pairs.now c.as_slice-rest.result.now (c.loop-place.place + c.count_of-count.result) are c.loop-place.invariant.fit c.requires.pairs

pub loop-place-preserved : goal.loop-place-preserved
loop-place-preserved c =
    let are = others_are c.args.pairs.now c.as_slice-rest.result.now c.in_ok-made.made.items c.as_slice.result.now c.loop-place.clashes (c.loop-place.place + c.count_of-count.result) c.as_slice-rest.ensures.value c.in_ok-made.ensures c.as_slice.ensures in
    let some = c.count_of-count.ensures.some in
    let one = c.if-count-gt1.false in
    record {
      left = clash_step (verdict_over (repository_in c.args.asked.now.book) c.args.budget c.args.goals.now) c.args.pairs.now c.loop-place.clashes c.tell_by.new.clashes c.as_slice-rest.result.now c.loop-place.place
          (c.loop-place.place + c.count_of-count.result) (get_or c.args.pairs.now c.loop-place.place (pair 0 0)) (pair 0 0) c.in_ok-verdict.verdict c.loop-place-test.true (omega (arith, some, one)) refl are
          c.in_ok-verdict.ensures c.in_ok-tell_by.ensures c.loop-place.invariant.left;
      fit = told_fit (length c.args.asked.now.book.book.now.rows) c.loop-place.clashes c.tell_by.new.clashes (get_or c.args.pairs.now c.loop-place.place (pair 0 0)) c.in_ok-verdict.verdict c.in_ok-tell_by.ensures (
        c.requires.pairs.ordered (get_or c.args.pairs.now c.loop-place.place (pair 0 0)) (In_at c.args.pairs.now c.loop-place.place (pair 0 0) c.loop-place-test.true),
        c.requires.pairs.below (get_or c.args.pairs.now c.loop-place.place (pair 0 0)) (In_at c.args.pairs.now c.loop-place.place (pair 0 0) c.loop-place-test.true),
      ) c.loop-place.invariant.fit;
      some = c.block_behind-block.ensures.some;
    }

pub returns : goal.returns
returns c = clash_done (verdict_over (repository_in c.args.asked.now.book) c.args.budget c.args.goals.now) c.args.pairs.now c.loop-place.clashes c.loop-place.place c.loop-place-test.false c.loop-place.invariant.left
