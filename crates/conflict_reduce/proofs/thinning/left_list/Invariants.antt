use Rattle.std.proofs.Common.{◌≡◌, filter, not, take}
use Rattle.row_book.specs.Facing.{against_in}
use Rattle.conflict_reduce.proofs.thinning.left_list.Given as goal

abbrev pub invariant-loop-other : goal.invariant-loop-other
invariant-loop-other l = l.made ≡ filter (λ q. not (against_in l.gone l.number q)) (take l.other-index l.list)
