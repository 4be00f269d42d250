use Rattle.std.proofs.Common.{◌<◌, ◌∙◌, ap, get_or, inl, inr, length, subst, sym}
use Rattle.listed.proofs.Lists.{In_at, In_cases, In_none}
use Rattle.suite_part.proofs.Needs.{each_down, each_up}
use Rattle.suite_part.proofs.small.need_each.Goals as goal
use Rattle.suite_part.proofs.small.need_each.Goals.{then-flags-member+in_ok-put_changed, else-flags-member}

pub bounds-flags-member : goal.bounds-flags-member
bounds-flags-member c =
    subst (λ z. get_or c.args.clause.now c.loop-member.member-index 0 < z) (sym c.requires.size) (c.requires.numbers _ (In_at c.args.clause.now c.loop-member.member-index 0 c.loop-member-test.true))

pub put_changed-requires : goal.put_changed-requires
put_changed-requires c = λ n i. elim (In_cases i) [
  | inl e ↦ subst (λ z. z < length c.loop-member.needed) (sym e)
      (subst (λ z. get_or c.args.clause.now c.loop-member.member-index 0 < z) (sym c.loop-member.invariant.flags.size) (c.requires.numbers _ (In_at c.args.clause.now c.loop-member.member-index 0 c.loop-member-test.true)))
  | inr j ↦ absurd (In_none j)
]

pub loop-member-preserved : goal.loop-member-preserved
loop-member-preserved c =
    let flags = c.args.flags.now in
    let clause = c.args.clause.now in
    let i = c.loop-member.member-index in
    elim c.if-flags-member.branch [
      | then-flags-member+in_ok-put_changed w ↦
          let work = ap (λ v. v.items) w.work-is in
          record {
            flags = rw (w.needed-is, work)
                (each_up flags clause i c.loop-member-test.true c.args.needed.now c.loop-member.needed c.args.work.now.items c.loop-member.work.items c.loop-member.invariant.flags _ _ w.if-flags-member.true w.in_ok-put_changed.ensures.flags);
            count = rw (w.needed-is, work) (w.in_ok-put_changed.ensures.count ∙ c.loop-member.invariant.count);
          }
      | else-flags-member w ↦
          let work = ap (λ v. v.items) w.work-is in
          record {
            flags = rw (w.needed-is, work)
                (each_down flags clause i c.loop-member-test.true c.args.needed.now c.loop-member.needed c.args.work.now.items c.loop-member.work.items c.loop-member.invariant.flags w.if-flags-member.false);
            count = rw (w.needed-is, work) c.loop-member.invariant.count;
          }
    ]
