use Rattle.std.proofs.Common.{◌≡◌, ◌*◌, sym, subst, arith}
use Rattle.list_table.specs.Index.{IsSize}
use Rattle.list_table.proofs.Index.{IsSize_first, IsSize_twice}
use Rattle.list_table.proofs.hash_index.next_size.Goals as goal

pub returns-then-size-eq0-clause-power : goal.returns-then-size-eq0-clause-power
returns-then-size-eq0-clause-power c = IsSize_first

pub returns-clause-power : goal.returns-clause-power
returns-clause-power c =
    let e : c.in-Some.twice ≡ c.args.size * 2 = omega arith in
    subst (λ n. IsSize n) (sym e) (IsSize_twice c.args.size (omega (arith, c.if-size-eq0.false)) c.requires)
