use Rattle.std.proofs.Common.{◌<◌, ◌∙◌, ap, subst, sym}
use Rattle.listed.specs.Lists.{In}
use Rattle.clause_pool.specs.Interned.{clauses_at}
use Rattle.row_book.specs.Parts.{row_in}
use Rattle.suite_part.proofs.Lefts.{known_id, rows_left_more}
use Rattle.suite_part.proofs.rows.row_left.Goals as goal

pub returns-in-Some-clause-row : goal.returns-in-Some-clause-row
returns-in-Some-clause-row c =
    c.requires.left.rows.each c.args.id c.in-Some.new
    (known_id c.args.left.now.known.items c.place.result c.args.id c.index.result.now c.in-Some.new c.place.ensures (subst (λ z. c.args.id < z) (sym c.requires.left.rows.size) c.requires.id) c.index.ensures c.in-Some.is)

pub row_in-requires-clause-numbers : goal.row_in-requires-clause-numbers
row_in-requires-clause-numbers c = λ d i n j. c.requires.numbers d (subst (λ z. In d z) (ap (clauses_at c.args.from.now) c.row.ensures.lent) i) n j

pub returns-clause-row : goal.returns-clause-row
returns-clause-row c = record {
  within = c.in_ok-made.ensures.of_pool;
  is = c.in_ok-made.ensures.row ∙ ap (row_in c.args.chosen.now.flags.items) (ap (clauses_at c.args.from.now) c.row.ensures.lent);
}

pub returns-clause-left : goal.returns-clause-left
returns-clause-left c = record {
  rows = rows_left_more c.args.from.now c.args.chosen.now.flags.items c.args.pool.now c.row_in.new.pool c.args.left.now.known.items c.place-2.result c.args.id c.in_ok-made.made c.requires.pool c.row_in.ensures.kept c.place-2.ensures c.requires.id
      (record { within = c.in_ok-made.ensures.of_pool; is = c.in_ok-made.ensures.row ∙ ap (row_in c.args.chosen.now.flags.items) (ap (clauses_at c.args.from.now) c.row.ensures.lent) })
      c.requires.left.rows;
  clauses = c.in_ok-made.ensures.known;
}
