use Rattle.std.proofs.Common.{◌≡◌, map, take}
use Rattle.clause_pool.specs.Interned.{clauses_at}
use Rattle.serde_json.specs.View.{view}
use Rattle.kernel_text.specs.JsonData.{numbers_data}
use Rattle.kernel_text.proofs.write_json.push_clauses.Given as goal

abbrev pub invariant-loop-id : goal.invariant-loop-id
invariant-loop-id l = map view l.items.items ≡ map numbers_data (clauses_at l.pool (take l.id-index l.ids))
