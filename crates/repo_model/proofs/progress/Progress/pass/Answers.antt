use Rattle.std.proofs.{Common.{ap, length, refl, subst, sym, arith}, lemmas.Result.{err_from_is_err_and}}
use Rattle.stanza_reader.specs.Close.{IsClosed}
use Rattle.repo_model.proofs.Pieces.{fault_in_parts, open_none, parts_length, stands_in_parts}
use Rattle.repo_model.proofs.progress.Progress.pass.Goals as goal

pub closed_length-closed-requires : goal.closed_length-closed-requires
closed_length-closed-requires c = open_none _ refl

pub read-requires-clause-room : goal.read-requires-clause-room
read-requires-clause-room c =
    let parts = parts_length c.args.piece.now _ _ c.closed_length-closed.result c.split_at.ensures.front c.split_at.ensures.back in
    omega (arith, parts, c.requires.room)

pub read-requires-clause-closed : goal.read-requires-clause-closed
read-requires-clause-closed c = subst IsClosed (sym c.split_at.ensures.front) c.closed_length-closed.ensures.closed

pub hold-requires-clause-room : goal.hold-requires-clause-room
hold-requires-clause-room c =
    let parts = parts_length c.args.piece.now _ _ c.closed_length-closed.result c.split_at.ensures.front c.split_at.ensures.back in
    let none = ap length c.in_ok-read.ensures.nothing in
    omega (arith, parts, none, c.in_ok-read.ensures.fits, c.requires.room)

pub hold-requires-clause-unclosed : goal.hold-requires-clause-unclosed
hold-requires-clause-unclosed c = open_none _ c.in_ok-read.ensures.nothing

pub returns-in_err-read-clause-stands : goal.returns-in_err-read-clause-stands
returns-in_err-read-clause-stands c =
    let p = err_from_is_err_and c.from_residual.result c.from_residual.ensures.1 in
    rw (p.1, p.2) (λ text stands. fault_in_parts _ text c.args.piece.now _ c.closed_length-closed.result c.split_at.ensures.front (c.in_err-read.ensures.stands text stands))

pub returns-clause-stands : goal.returns-clause-stands
returns-clause-stands c = λ text stands.
    stands_in_parts c.hold.result text c.args.piece.now _ _ c.closed_length-closed.result c.split_at.ensures.front c.split_at.ensures.back
    (c.hold.ensures.stands _ (c.in_ok-read.ensures.stands text stands))
