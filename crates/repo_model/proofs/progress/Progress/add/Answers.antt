use Rattle.std.proofs.{Common.{arith}, lemmas.Result.{err_from_is_err_and}}
use Rattle.repo_model.proofs.Pieces.{fault_in_parts, parts_length, stands_in_parts}
use Rattle.repo_model.proofs.progress.Progress.add.Goals as goal

pub hold-requires-clause-room : goal.hold-requires-clause-room
hold-requires-clause-room c =
    let parts = parts_length c.args.piece.now _ _ c.first_closed-count.result c.split_at.ensures.front c.split_at.ensures.back in
    omega (arith, parts, c.requires.room)

pub returns-in_err-begun-clause-stands : goal.returns-in_err-begun-clause-stands
returns-in_err-begun-clause-stands c =
    let p = err_from_is_err_and c.from_residual.result c.from_residual.ensures.1 in
    rw (p.1, p.2) (λ text stands. fault_in_parts _ text c.args.piece.now _ c.first_closed-count.result c.split_at.ensures.front (c.in_err-begun.ensures.stands text stands))

pub returns-clause-stands : goal.returns-clause-stands
returns-clause-stands c = λ text stands.
    stands_in_parts c.go_on.result text c.args.piece.now _ _ c.first_closed-count.result c.split_at.ensures.front c.split_at.ensures.back
    (c.go_on.ensures.stands _ (c.in_ok-begun.ensures.stands text stands))

pub go_on-requires-clause-room : goal.go_on-requires-clause-room
go_on-requires-clause-room c =
    let parts = parts_length c.args.piece.now _ _ c.first_closed-count.result c.split_at.ensures.front c.split_at.ensures.back in
    omega (arith, parts, c.in_ok-begun.ensures.fits, c.requires.room)
