use Rattle.std.proofs.{Common.{◌≡◌, ◌<◌, ◌≤◌, ◌∙◌, ap, arith, length, refl, subst, sym, take, ◌+◌}, lemmas.List.{length-take-le}}
use Rattle.listed.specs.Lists.{Ascending}
use Rattle.clause_families.specs.{Branches.{any_of}, Inclusion.{is_within}}
use Rattle.clause_families.proofs.Walked.{Left, behind_fits, behind_is, ends_here, far_fits, fewer_others, found_below, no_nodes, none_wanted, start_within}
use Rattle.clause_families.proofs.Walked.{step_alone, step_beside, step_behind, step_greater}
use Rattle.clause_families.proofs.family_tree.+has_within.Goals as goal

pub loop-number-init : goal.loop-number-init
loop-number-init t c = record { fewer = omega arith; ascends = c.requires.ascending; still = λ s. record { now = s; same = refl } }

pub returns-in_default-split_last : goal.returns-in_default-split_last
returns-in_default-split_last t c s =
    sym (no_nodes c.args.from (any_of (is_within c.args.wanted.now c.args.size) s.tree) c.loop-number.left.now c.loop-number.ahead.now c.loop-number.room (c.loop-number.invariant.still s)
    (omega (arith, c.in_default-split_last.ensures.cases)))

pub returns-then-left-from : goal.returns-then-left-from
returns-then-left-from t c s =
    sym (no_nodes c.args.from (any_of (is_within c.args.wanted.now c.args.size) s.tree) c.loop-number.left.now c.loop-number.ahead.now c.loop-number.room (c.loop-number.invariant.still s) (omega arith))

pub loop-number-preserved-then-number-node : goal.loop-number-preserved-then-number-node
loop-number-preserved-then-number-node t c = record {
  fewer = c.loop-number.invariant.fewer;
  ascends = (subst Ascending c.in-Some.ensures.cases.0 c.loop-number.invariant.ascends).1;
  still = λ s. step_greater c.args.from (any_of (is_within c.args.wanted.now c.args.size) s.tree) c.loop-number.left.now c.in-Some-split_last.others.now c.in-Some-split_last.node.now c.loop-number.ahead.now c.in-Some.number.now c.in-Some.rest.now c.loop-number.room
      c.in-Some.ensures.cases.0 c.in-Some-split_last.ensures.cases.0 (omega arith) (c.loop-number.invariant.still s)
      (omega arith);
}

pub slice_bounds-left-end : goal.slice_bounds-left-end
slice_bounds-left-end t c =
    let f : c.place_behind.result ≤ c.in-Some-split_last.node.now.start = behind_fits c.args.from (any_of (is_within c.args.wanted.now c.args.size) (c.requires.tree).tree) c.loop-number.left.now c.in-Some-split_last.others.now c.in-Some-split_last.node.now c.loop-number.ahead.now c.in-Some.number.now c.in-Some.rest.now c.loop-number.room
    c.in-Some.ensures.cases.0 c.in-Some-split_last.ensures.cases.0 (omega arith) (c.loop-number.invariant.still (c.requires.tree))
    c.place_behind.result c.place_behind.ensures in
    let g : c.in-Some-split_last.node.now.start < length c.loop-number.left.now = start_within c.args.from (any_of (is_within c.args.wanted.now c.args.size) (c.requires.tree).tree) c.loop-number.left.now c.in-Some-split_last.others.now c.in-Some-split_last.node.now c.loop-number.ahead.now c.in-Some.number.now c.in-Some.rest.now c.loop-number.room
    c.in-Some.ensures.cases.0 c.in-Some-split_last.ensures.cases.0 (omega arith) (c.loop-number.invariant.still (c.requires.tree)) in
    sym (length-take-le c.place_behind.result c.loop-number.left.now (omega arith))

pub slice_bounds-left-end-else-node-from : goal.slice_bounds-left-end-else-node-from
slice_bounds-left-end-else-node-from t c = sym (length-take-le c.in-Some-split_last.node.now.start c.loop-number.left.now (let f : c.in-Some-split_last.node.now.start < length c.loop-number.left.now = start_within c.args.from (any_of (is_within c.args.wanted.now c.args.size) (c.requires.tree).tree) c.loop-number.left.now c.in-Some-split_last.others.now c.in-Some-split_last.node.now c.loop-number.ahead.now c.in-Some.number.now c.in-Some.rest.now c.loop-number.room
    c.in-Some.ensures.cases.0 c.in-Some-split_last.ensures.cases.0 (omega arith) (c.loop-number.invariant.still (c.requires.tree)) in omega arith))

pub loop-number-smaller-then-node-number : goal.loop-number-smaller-then-node-number
loop-number-smaller-then-node-number t c =
    let f : c.place_behind.result ≤ c.in-Some-split_last.node.now.start = behind_fits c.args.from (any_of (is_within c.args.wanted.now c.args.size) (c.requires.tree).tree) c.loop-number.left.now c.in-Some-split_last.others.now c.in-Some-split_last.node.now c.loop-number.ahead.now c.in-Some.number.now c.in-Some.rest.now c.loop-number.room
    c.in-Some.ensures.cases.0 c.in-Some-split_last.ensures.cases.0 (omega arith) (c.loop-number.invariant.still (c.requires.tree))
    c.place_behind.result c.place_behind.ensures in
    let g : c.in-Some-split_last.node.now.start < length c.loop-number.left.now = start_within c.args.from (any_of (is_within c.args.wanted.now c.args.size) (c.requires.tree).tree) c.loop-number.left.now c.in-Some-split_last.others.now c.in-Some-split_last.node.now c.loop-number.ahead.now c.in-Some.number.now c.in-Some.rest.now c.loop-number.room
    c.in-Some.ensures.cases.0 c.in-Some-split_last.ensures.cases.0 (omega arith) (c.loop-number.invariant.still (c.requires.tree)) in
    let size : length (take c.place_behind.result c.loop-number.left.now) ≡ c.place_behind.result = length-take-le c.place_behind.result c.loop-number.left.now (omega arith) in
    omega arith

pub loop-number-preserved-then-node-number : goal.loop-number-preserved-then-node-number
loop-number-preserved-then-node-number t c =
    let f : c.place_behind.result ≤ c.in-Some-split_last.node.now.start = behind_fits c.args.from (any_of (is_within c.args.wanted.now c.args.size) (c.requires.tree).tree) c.loop-number.left.now c.in-Some-split_last.others.now c.in-Some-split_last.node.now c.loop-number.ahead.now c.in-Some.number.now c.in-Some.rest.now c.loop-number.room
    c.in-Some.ensures.cases.0 c.in-Some-split_last.ensures.cases.0 (omega arith) (c.loop-number.invariant.still (c.requires.tree))
    c.place_behind.result c.place_behind.ensures in
    let g : c.in-Some-split_last.node.now.start < length c.loop-number.left.now = start_within c.args.from (any_of (is_within c.args.wanted.now c.args.size) (c.requires.tree).tree) c.loop-number.left.now c.in-Some-split_last.others.now c.in-Some-split_last.node.now c.loop-number.ahead.now c.in-Some.number.now c.in-Some.rest.now c.loop-number.room
    c.in-Some.ensures.cases.0 c.in-Some-split_last.ensures.cases.0 (omega arith) (c.loop-number.invariant.still (c.requires.tree)) in
    let size : length (take c.place_behind.result c.loop-number.left.now) ≡ c.place_behind.result = length-take-le c.place_behind.result c.loop-number.left.now (omega arith) in
    record {
      fewer = omega (arith, c.loop-number.invariant.fewer);
      ascends = c.loop-number.invariant.ascends;
      still = λ s. step_behind c.args.from (any_of (is_within c.args.wanted.now c.args.size) s.tree) c.loop-number.left.now c.in-Some-split_last.others.now c.in-Some-split_last.node.now c.loop-number.ahead.now c.in-Some.number.now c.in-Some.rest.now c.loop-number.room
          c.in-Some.ensures.cases.0 c.in-Some-split_last.ensures.cases.0 (omega arith) (c.loop-number.invariant.still s)
          c.loop-number.invariant.ascends (omega arith) c.place_behind.result c.place_behind.ensures;
    }

pub place_behind-requires : goal.place_behind-requires
place_behind-requires t c =
    let f : c.in-Some-split_last.node.now.far ≤ c.in-Some-split_last.node.now.start = far_fits c.args.from (any_of (is_within c.args.wanted.now c.args.size) (c.requires.tree).tree) c.loop-number.left.now c.in-Some-split_last.others.now c.in-Some-split_last.node.now c.loop-number.ahead.now c.in-Some.number.now c.in-Some.rest.now c.loop-number.room
    c.in-Some.ensures.cases.0 c.in-Some-split_last.ensures.cases.0 (omega arith) (c.loop-number.invariant.still (c.requires.tree)) in
    let g : c.in-Some-split_last.node.now.start < length c.loop-number.left.now = start_within c.args.from (any_of (is_within c.args.wanted.now c.args.size) (c.requires.tree).tree) c.loop-number.left.now c.in-Some-split_last.others.now c.in-Some-split_last.node.now c.loop-number.ahead.now c.in-Some.number.now c.in-Some.rest.now c.loop-number.room
    c.in-Some.ensures.cases.0 c.in-Some-split_last.ensures.cases.0 (omega arith) (c.loop-number.invariant.still (c.requires.tree)) in
    omega arith

pub returns-then-is_end : goal.returns-then-is_end
returns-then-is_end t c s = sym (ends_here c.args.from (any_of (is_within c.args.wanted.now c.args.size) s.tree) c.loop-number.left.now c.in-Some-split_last.others.now c.in-Some-split_last.node.now c.loop-number.ahead.now c.in-Some.number.now c.in-Some.rest.now c.loop-number.room
    c.in-Some.ensures.cases.0 c.in-Some-split_last.ensures.cases.0 (omega arith) (c.loop-number.invariant.still s)
    (omega arith) (sym c.is_end.ensures ∙ c.if-is_end.true))

pub has_within-requires : goal.has_within-requires
has_within-requires t c =
    let k : length c.loop-number.left.now ≡ length c.in-Some-split_last.others.now + 1 = fewer_others c.loop-number.left.now c.in-Some-split_last.others.now c.in-Some-split_last.node.now c.in-Some-split_last.ensures.cases.0 in (
      omega (arith, c.decreases, c.loop-number.invariant.fewer),
      (
        behind_is c.args.from (any_of (is_within c.args.wanted.now c.args.size) (c.requires.tree).tree) c.loop-number.left.now c.in-Some-split_last.others.now c.in-Some-split_last.node.now c.loop-number.ahead.now c.in-Some.number.now c.in-Some.rest.now c.loop-number.room
            c.in-Some.ensures.cases.0 c.in-Some-split_last.ensures.cases.0 (omega arith) (c.loop-number.invariant.still (c.requires.tree)),
        (subst Ascending c.in-Some.ensures.cases.0 c.loop-number.invariant.ascends).1,
      ),
    )

pub returns-then-has_within : goal.returns-then-has_within
returns-then-has_within t c s = sym (found_below c.args.from (any_of (is_within c.args.wanted.now c.args.size) s.tree) c.loop-number.left.now c.in-Some-split_last.others.now c.in-Some-split_last.node.now c.loop-number.ahead.now c.in-Some.number.now c.in-Some.rest.now c.loop-number.room
    c.in-Some.ensures.cases.0 c.in-Some-split_last.ensures.cases.0 (omega arith) (c.loop-number.invariant.still s)
    (omega arith) (sym c.is_end.ensures ∙ c.if-is_end.false)
    (ap (λ z. any_of (is_within c.in-Some.rest.now z) (behind_is c.args.from (any_of (is_within c.args.wanted.now c.args.size) s.tree) c.loop-number.left.now c.in-Some-split_last.others.now c.in-Some-split_last.node.now c.loop-number.ahead.now c.in-Some.number.now c.in-Some.rest.now c.loop-number.room
    c.in-Some.ensures.cases.0 c.in-Some-split_last.ensures.cases.0 (omega arith) (c.loop-number.invariant.still s)).tree) (sym c.saturating_sub.ensures) ∙ sym (c.has_within.ensures (behind_is c.args.from (any_of (is_within c.args.wanted.now c.args.size) s.tree) c.loop-number.left.now c.in-Some-split_last.others.now c.in-Some-split_last.node.now c.loop-number.ahead.now c.in-Some.number.now c.in-Some.rest.now c.loop-number.room
    c.in-Some.ensures.cases.0 c.in-Some-split_last.ensures.cases.0 (omega arith) (c.loop-number.invariant.still s))) ∙ c.if-has_within.true))

pub loop-number-preserved-then-node-from : goal.loop-number-preserved-then-node-from
loop-number-preserved-then-node-from t c =
    let k : length c.loop-number.left.now ≡ length c.in-Some-split_last.others.now + 1 = fewer_others c.loop-number.left.now c.in-Some-split_last.others.now c.in-Some-split_last.node.now c.in-Some-split_last.ensures.cases.0 in
    record {
      fewer = omega (arith, c.loop-number.invariant.fewer);
      ascends = (subst Ascending c.in-Some.ensures.cases.0 c.loop-number.invariant.ascends).1;
      still = λ s. subst (λ z. Left c.args.from (any_of (is_within c.args.wanted.now c.args.size) s.tree) c.in-Some-split_last.others.now c.in-Some.rest.now z) (sym c.saturating_sub-room.ensures)
          (step_alone c.args.from (any_of (is_within c.args.wanted.now c.args.size) s.tree) c.loop-number.left.now c.in-Some-split_last.others.now c.in-Some-split_last.node.now c.loop-number.ahead.now c.in-Some.number.now c.in-Some.rest.now c.loop-number.room
          c.in-Some.ensures.cases.0 c.in-Some-split_last.ensures.cases.0 (omega arith) (c.loop-number.invariant.still s)
          (omega arith) (sym c.is_end.ensures ∙ c.if-is_end.false) (omega arith));
    }

pub loop-number-preserved : goal.loop-number-preserved
loop-number-preserved t c =
    let f : c.in-Some-split_last.node.now.start < length c.loop-number.left.now = start_within c.args.from (any_of (is_within c.args.wanted.now c.args.size) (c.requires.tree).tree) c.loop-number.left.now c.in-Some-split_last.others.now c.in-Some-split_last.node.now c.loop-number.ahead.now c.in-Some.number.now c.in-Some.rest.now c.loop-number.room
    c.in-Some.ensures.cases.0 c.in-Some-split_last.ensures.cases.0 (omega arith) (c.loop-number.invariant.still (c.requires.tree)) in
    let size : length (take c.in-Some-split_last.node.now.start c.loop-number.left.now) ≡ c.in-Some-split_last.node.now.start = length-take-le c.in-Some-split_last.node.now.start c.loop-number.left.now (omega arith) in
    record {
      fewer = omega (arith, c.loop-number.invariant.fewer);
      ascends = (subst Ascending c.in-Some.ensures.cases.0 c.loop-number.invariant.ascends).1;
      still = λ s. step_beside c.args.from (any_of (is_within c.args.wanted.now c.args.size) s.tree) c.loop-number.left.now c.in-Some-split_last.others.now c.in-Some-split_last.node.now c.loop-number.ahead.now c.in-Some.number.now c.in-Some.rest.now c.loop-number.room
          c.in-Some.ensures.cases.0 c.in-Some-split_last.ensures.cases.0 (omega arith) (c.loop-number.invariant.still s)
          (omega arith) (sym c.is_end.ensures ∙ c.if-is_end.false)
          (ap (λ z. any_of (is_within c.in-Some.rest.now z) (behind_is c.args.from (any_of (is_within c.args.wanted.now c.args.size) s.tree) c.loop-number.left.now c.in-Some-split_last.others.now c.in-Some-split_last.node.now c.loop-number.ahead.now c.in-Some.number.now c.in-Some.rest.now c.loop-number.room
          c.in-Some.ensures.cases.0 c.in-Some-split_last.ensures.cases.0 (omega arith) (c.loop-number.invariant.still s)).tree) (sym c.saturating_sub.ensures) ∙ sym (c.has_within.ensures (behind_is c.args.from (any_of (is_within c.args.wanted.now c.args.size) s.tree) c.loop-number.left.now c.in-Some-split_last.others.now c.in-Some-split_last.node.now c.loop-number.ahead.now c.in-Some.number.now c.in-Some.rest.now c.loop-number.room
          c.in-Some.ensures.cases.0 c.in-Some-split_last.ensures.cases.0 (omega arith) (c.loop-number.invariant.still s))) ∙ c.if-has_within.false);
    }

pub returns : goal.returns
returns t c s =
    sym (none_wanted c.args.from (any_of (is_within c.args.wanted.now c.args.size) s.tree) c.loop-number.left.now c.loop-number.ahead.now c.loop-number.room (c.loop-number.invariant.still s)
    c.in_default.ensures.cases)
