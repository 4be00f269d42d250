use Rattle.std.proofs.{Common.{◌≡◌, ◌∙◌, ap, map, subst, sym}, lemmas.Result.{IfOk-weaker}}
use Rattle.clause_pool.specs.{Interned.{clauses_at, OfPool}, Lists.{InOrder}}
use Rattle.clause_pool.proofs.Order.{ordered_order}
use Rattle.clause_families.proofs.Families.{row_interned}
use Rattle.row_book.specs.Parts.{chosen_in, row_in}
use Rattle.suite_part.proofs.{Lefts.{left_kept}, Standing.{whole_row}}
use Rattle.suite_part.proofs.rows.row_in.Goals as goal
use Rattle.suite_part.proofs.rows.row_in.Goals.{Then-are_whole}
use Rattle.listed.proofs.Bools.{on_ok}

-- the ids of a row of which no clause loses a package
ids_whole : (c : Then-are_whole) → clauses_at c.left_ids.new.pool c.as_slice-ids.result.now ≡ row_in c.args.chosen.now.flags.items (clauses_at c.args.from.now c.args.row.now)
ids_whole c =
    whole_row c.args.from.now c.left_ids.new.pool c.args.chosen.now.flags.items _ _ _ c.args.row.now c.as_slice-ids.result.now c.in_ok-left_ids.ensures.known c.as_slice.ensures.value (sym c.are_whole.ensures ∙ c.if-are_whole.true)
    c.requires.order (ap (clauses_at c.left_ids.new.pool) c.as_slice-ids.ensures.value ∙ c.in_ok-left_ids.ensures.ids)

pub are_whole-requires : goal.are_whole-requires
are_whole-requires c = λ id i. rw (c.as_slice.ensures.value, c.in_ok-left_ids.ensures.known.count) (c.requires.row id i)

pub intern_row-requires-clause-of_pool : goal.intern_row-requires-clause-of_pool
intern_row-requires-clause-of_pool c = subst (OfPool c.left_ids.new.pool) (sym c.as_slice-ids.ensures.value) c.in_ok-left_ids.ensures.of_pool

pub intern_row-requires-clause-in_order : goal.intern_row-requires-clause-in_order
intern_row-requires-clause-in_order c =
    subst InOrder (sym (ids_whole (goal.at.intern_row-requires-clause-in_order c).Then-are_whole)) (ordered_order (map (chosen_in c.args.chosen.now.flags.items) (clauses_at c.args.from.now c.args.row.now)))

pub returns-then-are_whole-clause-row : goal.returns-then-are_whole-clause-row
returns-then-are_whole-clause-row c =
    IfOk-weaker c.intern_row.result _ _ (λ id at.
    row_interned c.left_ids.new.pool c.intern_row.new.self c.as_slice-ids.result.now id c.intern_row.ensures.kept (subst (OfPool c.left_ids.new.pool) (sym c.as_slice-ids.ensures.value) c.in_ok-left_ids.ensures.of_pool) at
    ∙ ids_whole (goal.at.returns-then-are_whole-clause-row c).Then-are_whole) c.intern_row.ensures.ok

pub returns-then-are_whole-clause-known : goal.returns-then-are_whole-clause-known
returns-then-are_whole-clause-known c =
    on_ok c.intern_row.result
    (left_kept c.args.from.now c.args.chosen.now.flags.items c.left_ids.new.pool c.intern_row.new.self c.left_ids.new.left.known.items c.left_ids.new.left.whole.items c.intern_row.ensures.kept c.in_ok-left_ids.ensures.known)

pub returns-clause-known : goal.returns-clause-known
returns-clause-known c =
    on_ok c.intern_in_order.result
    (left_kept c.args.from.now c.args.chosen.now.flags.items c.left_ids.new.pool c.intern_in_order.new.pool c.left_ids.new.left.known.items c.left_ids.new.left.whole.items c.intern_in_order.ensures.kept c.in_ok-left_ids.ensures.known)
