use Rattle.std.proofs.{Common.{◌≡◌, arith, false, subst, true}, lemmas.Option.{same_Some}}
use Rattle.listed.specs.Lists.{In}
use Rattle.listed.proofs.Lists.{In_at, In_place}
use Rattle.row_book.specs.Flags.{flag}
use Rattle.suite_part.proofs.small.first_in.Goals as goal

pub bounds-flags-number : goal.bounds-flags-number
bounds-flags-number c = c.requires _ (In_at c.args.packages.now c.loop-number.number-index 0 c.loop-number-test.true)

pub returns-then-flags-number-clause-some : goal.returns-then-flags-number-clause-some
returns-then-flags-number-clause-some c = λ n e.
    let same = same_Some _ n e in (
      subst (λ z. In z c.args.packages.now) same (In_at c.args.packages.now c.loop-number.number-index 0 c.loop-number-test.true),
      subst (λ z. flag c.args.flags.now z ≡ true) same c.if-flags-number.true,
    )

pub returns-clause-none : goal.returns-clause-none
returns-clause-none c = λ n i.
    let w = In_place c.args.packages.now n 0 i in
    subst (λ z. flag c.args.flags.now z ≡ false) w.2 (c.loop-number.invariant w.0 (omega (arith, w.1, c.loop-number-test.false)))
