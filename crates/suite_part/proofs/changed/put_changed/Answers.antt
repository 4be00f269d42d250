use Rattle.std.proofs.{Common.{◌<◌, ◌∙◌, ap, ℕ, get_or, length, subst, sym}, lemmas.List.{take_more}}
use Rattle.listed.proofs.Lists.{In_at}
use Rattle.suite_part.proofs.Bases.{flags_more, flags_same, one_waits}
use Rattle.suite_part.proofs.changed.put_changed.Goals as goal
use Rattle.suite_part.proofs.changed.put_changed.Goals.{then-not-changed-number+in_ok-push, else-not-changed-number}

pub bounds-changed-number : goal.bounds-changed-number
bounds-changed-number c =
    subst (λ z. get_or c.args.packages.now c.loop-number.number-index 0 < z) (sym c.loop-number.invariant.flags.size) (c.requires _ (In_at c.args.packages.now c.loop-number.number-index 0 c.loop-number-test.true))

pub bounds-changed-number-then-not-changed-number : goal.bounds-changed-number-then-not-changed-number
bounds-changed-number-then-not-changed-number c =
    subst (λ z. get_or c.args.packages.now c.loop-number.number-index 0 < z) (sym c.loop-number.invariant.flags.size) (c.requires _ (In_at c.args.packages.now c.loop-number.number-index 0 c.loop-number-test.true))

pub loop-number-preserved : goal.loop-number-preserved
loop-number-preserved c =
    let x : ℕ = get_or c.args.packages.now c.loop-number.number-index 0 in
    let l : x < length c.loop-number.changed =
    subst (λ z. x < z) (sym c.loop-number.invariant.flags.size) (c.requires _ (In_at c.args.packages.now c.loop-number.number-index 0 c.loop-number-test.true)) in
    let next = take_more c.args.packages.now c.loop-number.number-index 0 c.loop-number-test.true in
    elim c.if-not-changed-number.branch [
      | then-not-changed-number+in_ok-push w ↦
          record {
            flags = flags_more _ _ _ c.loop-number.changed _ c.loop-number.work.items x next c.loop-number.invariant.flags _ _ l w.changed-is (ap (λ v. v.items) w.work-is ∙ w.in_ok-push.ensures.items);
            count = one_waits c.loop-number.changed _ c.loop-number.work.items _ x l w.if-not-changed-number.true w.changed-is (ap (λ v. v.items) w.work-is ∙ w.in_ok-push.ensures.items) ∙ c.loop-number.invariant.count;
          }
      | else-not-changed-number w ↦
          let same_flags = w.changed-is in
          let same_work = ap (λ v. v.items) w.work-is in
          record {
            flags = rw (same_flags, same_work) (flags_same _ _ _ c.loop-number.changed _ c.loop-number.work.items x next c.loop-number.invariant.flags w.if-not-changed-number.false);
            count = rw (same_flags, same_work) c.loop-number.invariant.count;
          }
    ]
