use Rattle.std.proofs.Common.{sym, length}
use Rattle.clause_flatten.specs.{Ready.{table_of}, TakingOut.{is_over}}
use Rattle.clause_flatten.proofs.{Running.{first_passed, found_below}, Runs.{none_over}}
use Rattle.clause_flatten.proofs.flattening.eliminate_all.Goals as goal

pub clauses_in-requires : goal.clauses_in-requires
clauses_in-requires c =
    found_below (is_over (table_of c.args.pool.now c.args.rows.now) c.args.rule.limit) (length c.args.rows.now) c.in-Some.number (sym (c.in-Some.ensures c.args.pool.now))

pub returns-in-Some-clause-passed : goal.returns-in-Some-clause-passed
returns-in-Some-clause-passed c =
    first_passed c.args.pool.now c.args.book.now c.args.rows.now c.args.rule.limit c.args.rule.hold c.in-Some.number c.clauses_in.result
    c.requires.sound.rows.is_pool c.requires.sound c.requires.first (sym (c.in-Some.ensures c.args.pool.now)) (c.clauses_in.ensures.count c.args.pool.now)

pub take_all_out-answer-requires-clause-ready : goal.take_all_out-answer-requires-clause-ready
take_all_out-answer-requires-clause-ready c = record {
  fit = c.requires.fit;
  tidy = c.requires.tidy;
  table = c.in_ok-uses.ensures;
}

pub take_all_out-answer-requires-clause-waiting : goal.take_all_out-answer-requires-clause-waiting
take_all_out-answer-requires-clause-waiting c = c.in_ok-waiting.ensures c.args.pool.now

pub take_all_out-answer-requires-clause-within : goal.take_all_out-answer-requires-clause-within
take_all_out-answer-requires-clause-within c =
    none_over (table_of c.args.pool.now c.args.rows.now) c.args.rule.limit (length c.args.rows.now) (sym (c.in_default.ensures c.args.pool.now))
