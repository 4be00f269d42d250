use Rattle.std.proofs.Common.{◌∙◌, [], ap, sym}
use Rattle.std.specs.Prelude.{map}
use Rattle.clause_pool.specs.Interned.{row_at}
use Rattle.search_terms.specs.Form.{owned_sentences, clause_sentence}
use Rattle.clause_solver.specs.Engine.{IsTable, IsEngine}
use Rattle.search_terms.proofs.Ranges.{own_ranged, rows_long}
use Rattle.clause_solver.proofs.Preparing.{own_negative, engine_of, apart_of}
use Rattle.clause_solver.proofs.solver.Solver.new.Goals as goal

pub table_of-requires : goal.table_of-requires
table_of-requires c =
    own_ranged c.args.book.now.pool.now c.args.book.now.book.now.rows c.size-classes.result c.deref.result.now c.args.book.now.sound.rows c.size-classes.ensures
    (c.deref.ensures.value ∙ c.in_ok-own.ensures ∙ ap (λ r. owned_sentences clause_sentence 0 (map (row_at c.args.book.now.pool.now) r)) c.as_slice.ensures)

pub first_pass-requires-clause-engine : goal.first_pass-requires-clause-engine
first_pass-requires-clause-engine c =
    let sentences = c.in_ok-own.ensures ∙ ap (λ r. owned_sentences clause_sentence 0 (map (row_at c.args.book.now.pool.now) r)) c.as_slice.ensures in
    let table : IsTable c.size-classes.result c.in_ok-uses.uses.items c.in_ok-own.own.items = rw c.deref.ensures.value at c.in_ok-uses.ensures in
    let engine : IsEngine c.size-classes.result [] c.in_ok-own.own.items c.in_ok-uses.uses.items c.args.book.now.book.now.conflicts =
    engine_of c.args.book.now.pool.now c.args.book.now.book.now.rows c.args.book.now.book.now.conflicts c.size-classes.result c.in_ok-own.own.items c.in_ok-uses.uses.items c.args.book.now.sound.rows c.args.book.now.sound.conflicts c.args.book.now.book.now.paired c.size-classes.ensures sentences table in
    rw (c.deref-2.ensures.value, c.deref-3.ensures.value, c.as_slice-2.ensures, ap (λ w. w.0) c.in_ok-base.ensures) engine

pub first_pass-requires-clause-negative : goal.first_pass-requires-clause-negative
first_pass-requires-clause-negative c =
    own_negative (map (row_at c.args.book.now.pool.now) c.args.book.now.book.now.rows) c.deref-2.result.now
    (c.deref-2.ensures.value ∙ c.in_ok-own.ensures ∙ ap (λ r. owned_sentences clause_sentence 0 (map (row_at c.args.book.now.pool.now) r)) c.as_slice.ensures)

pub first_pass-requires-clause-apart : goal.first_pass-requires-clause-apart
first_pass-requires-clause-apart c = rw c.as_slice-2.ensures (apart_of c.args.book.now.book.now.conflicts c.args.book.now.sound.conflicts)

pub returns : goal.returns
returns c =
    let sentences = c.in_ok-own.ensures ∙ ap (λ r. owned_sentences clause_sentence 0 (map (row_at c.args.book.now.pool.now) r)) c.as_slice.ensures in
    let table : IsTable c.size-classes.result c.in_ok-uses.uses.items c.in_ok-own.own.items = rw c.deref.ensures.value at c.in_ok-uses.ensures in
    record {
      size = c.size-classes.ensures ∙ sym (rows_long c.args.book.now.pool.now c.args.book.now.book.now.rows);
      sentences = sentences;
      engine = engine_of c.args.book.now.pool.now c.args.book.now.book.now.rows c.args.book.now.book.now.conflicts c.size-classes.result c.in_ok-own.own.items c.in_ok-uses.uses.items c.args.book.now.sound.rows c.args.book.now.sound.conflicts c.args.book.now.book.now.paired c.size-classes.ensures sentences table;
      trail = c.in_ok-dead.ensures.classes ∙ ap (λ w. w.0) c.in_ok-base.ensures;
      base = rw (c.deref-2.ensures.value, c.as_slice-2.ensures) at c.in_ok-dead.ensures.at;
    }
