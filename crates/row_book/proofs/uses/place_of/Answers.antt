use Rattle.row_book.proofs.Inserts.{place_behind, search_place}
use Rattle.row_book.proofs.uses.place_of.Goals as goal

pub returns-then-list-size-clause-place : goal.returns-then-list-size-clause-place
returns-then-list-size-clause-place c = place_behind c.args.list.now c.args.number c.if-size-gt0.true c.if-list-size.true

pub returns-clause-place : goal.returns-clause-place
returns-clause-place c = search_place c.args.list.now c.args.number c.binary_search.result c.binary_search.ensures.position
