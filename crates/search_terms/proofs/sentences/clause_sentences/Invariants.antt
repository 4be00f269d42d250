use Rattle.std.proofs.Common.{◌≡◌, take}
use Rattle.std.specs.Prelude.{map}
use Rattle.clause_pool.specs.Interned.{row_at}
use Rattle.search_terms.specs.Form.{clause_sentence, owned_sentences}
use Rattle.search_terms.proofs.sentences.clause_sentences.Given as goal

abbrev pub invariant-loop-owner : goal.invariant-loop-owner
invariant-loop-owner l = l.all.items ≡ owned_sentences clause_sentence 0 (map (row_at l.pool) (take l.owner l.rows))
