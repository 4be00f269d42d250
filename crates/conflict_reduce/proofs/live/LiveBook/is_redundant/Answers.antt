use Rattle.std.proofs.Common.{◌∷◌, ◌∙◌, [], ap, ap₂, subst, sym}
use Rattle.clause_pool.specs.{Interned.{OfPool, clauses_at, row_at}, Lists.{InOrder}}
use Rattle.row_book.specs.{Book.{listed_for}, Facing.{face}, Uses.{row_id}}
use Rattle.row_book.proofs.Books.{clauses_row}
use Rattle.conflict_reduce.specs.Tests.{conflict_but, left_of}
use Rattle.conflict_reduce.proofs.{Left.{left_own}, Sifted.{live_clauses, live_in_order, live_of_pool, live_same}}
use Rattle.conflict_reduce.proofs.live.LiveBook.is_redundant.Goals as goal

pub sides_face-requires-clause-first : goal.sides_face-requires-clause-first
sides_face-requires-clause-first c =
    subst (OfPool c.args.self.now.pool.now) (sym (c.live_for-first.ensures ∙ ap (λ t. listed_for t c.args.pair.low) c.requires.live.live))
    (live_of_pool c.args.self.now.pool.now c.args.self.now.book.now c.args.pair.low c.requires.live.sound.rows.is_pool c.requires.live.sound c.requires.low)

pub sides_face-requires-clause-second : goal.sides_face-requires-clause-second
sides_face-requires-clause-second c =
    subst (OfPool c.args.self.now.pool.now) (sym (c.live_for-second.ensures ∙ ap (λ t. listed_for t c.args.pair.high) c.requires.live.live))
    (live_of_pool c.args.self.now.pool.now c.args.self.now.book.now c.args.pair.high c.requires.live.sound.rows.is_pool c.requires.live.sound c.requires.high)

pub sides_face-requires-clause-order : goal.sides_face-requires-clause-order
sides_face-requires-clause-order c =
    subst (λ ids. InOrder (clauses_at c.args.self.now.pool.now ids)) (sym (c.live_for-second.ensures ∙ ap (λ t. listed_for t c.args.pair.high) c.requires.live.live))
    (live_in_order c.args.self.now.pool.now c.args.self.now.book.now c.args.pair.high c.requires.live.sound.rows.is_pool c.requires.live.sound c.requires.high)

-- the clauses that cannot take part make no difference
pub returns : goal.returns
returns c =
    c.in_ok-faces.ensures
    ∙ ap (λ t. face (conflict_but (left_of t c.args.gone.now) c.args.pair) ((c.args.pair.low ∷ []) ∷ clauses_at c.args.self.now.pool.now c.live_for-first.result.now) ((c.args.pair.high ∷ []) ∷ clauses_at c.args.self.now.pool.now c.live_for-second.result.now)) c.as_slice.ensures
    ∙ ap₂ (λ x y. face (conflict_but (left_of c.args.self.now.book.now.conflicts c.args.gone.now) c.args.pair) ((c.args.pair.low ∷ []) ∷ x) ((c.args.pair.high ∷ []) ∷ y))
    (ap (clauses_at c.args.self.now.pool.now) (c.live_for-first.ensures ∙ ap (λ t. listed_for t c.args.pair.low) c.requires.live.live) ∙ live_clauses c.args.self.now.pool.now c.args.self.now.book.now c.args.pair.low c.requires.low)
    (ap (clauses_at c.args.self.now.pool.now) (c.live_for-second.ensures ∙ ap (λ t. listed_for t c.args.pair.high) c.requires.live.live) ∙ live_clauses c.args.self.now.pool.now c.args.self.now.book.now c.args.pair.high c.requires.high)
    ∙ live_same c.args.self.now.book.now.conflicts (conflict_but (left_of c.args.self.now.book.now.conflicts c.args.gone.now) c.args.pair) c.requires.live.sound.conflicts.either_way
    (left_own c.args.self.now.book.now.conflicts c.args.gone.now c.args.pair) c.args.pair.low c.args.pair.high (row_at c.args.self.now.pool.now (row_id c.args.self.now.book.now.rows c.args.pair.low)) (row_at c.args.self.now.pool.now (row_id c.args.self.now.book.now.rows c.args.pair.high))
    ∙ ap₂ (λ x y. face (conflict_but (left_of c.args.self.now.book.now.conflicts c.args.gone.now) c.args.pair) ((c.args.pair.low ∷ []) ∷ x) ((c.args.pair.high ∷ []) ∷ y))
    (sym (clauses_row c.args.self.now.pool.now c.args.self.now.book.now c.args.pair.low c.requires.low))
    (sym (clauses_row c.args.self.now.pool.now c.args.self.now.book.now c.args.pair.high c.requires.high))
