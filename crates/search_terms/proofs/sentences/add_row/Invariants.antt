use Rattle.std.proofs.Common.{◌≡◌, ◌++◌, take}
use Rattle.std.specs.Prelude.{map}
use Rattle.clause_pool.specs.Interned.{clauses_at}
use Rattle.search_terms.specs.Form.{clause_sentence}
use Rattle.search_terms.proofs.sentences.add_row.Given as goal

abbrev pub invariant-loop-id : goal.invariant-loop-id
invariant-loop-id l = l.all.items ≡ l.initial.all.items ++ map (clause_sentence l.owner) (clauses_at l.pool (take l.id-index l.ids))
