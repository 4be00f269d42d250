use Rattle.std.proofs.Common.{◌∙◌, ap, eqb, length, not, sym}
use Rattle.conflict_reduce.specs.Live.{may_face}
use Rattle.conflict_reduce.proofs.live.may_face.Goals as goal

pub returns-in_ok-common-in-Some : goal.returns-in_ok-common-in-Some
returns-in_ok-common-in-Some c =
    ap not (c.is_empty.ensures ∙ ap (λ xs. eqb (length xs) 0) (c.as_slice.ensures.value ∙ c.in_ok-common-in-Some.ensures))
    ∙ ap (may_face c.args.table.now) (sym c.in-Some.ensures.cases.0)
