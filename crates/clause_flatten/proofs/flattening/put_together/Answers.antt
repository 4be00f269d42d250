use Rattle.std.proofs.{Common.{sym, ◌∙◌, ap, arith, filter, length, map}, lemmas.List.{length-map}}
use Rattle.clause_pool.specs.Interned.{clauses_at, row_at}
use Rattle.row_book.specs.Flags.{flag}
use Rattle.row_book.proofs.Numbers.{numbers_ranged}
use Rattle.clause_flatten.proofs.flattening.put_together.Goals as goal

pub true_numbers-requires : goal.true_numbers-requires
true_numbers-requires c = omega (arith, c.args.book.now.few)

pub with_rows-requires : goal.with_rows-requires
with_rows-requires c =
    ap length c.of.ensures
    ∙ sym (length-map c.in_ok-rows.rows.items (row_at c.put_rows.new.pool))
    ∙ ap length c.in_ok-rows.ensures.rows ∙ length-map c.args.lists.now (clauses_at c.args.pool.now) ∙ c.requires.count

pub returns-clause-rows : goal.returns-clause-rows
returns-clause-rows c = ap (map (row_at c.put_rows.new.pool)) (c.in_ok-made.ensures.rows ∙ c.of.ensures) ∙ c.in_ok-rows.ensures.rows

pub returns-clause-held : goal.returns-clause-held
returns-clause-held c = c.in_ok-held.ensures ∙ ap (filter (flag c.args.flags.now)) (numbers_ranged (length c.args.flags.now) 0)
