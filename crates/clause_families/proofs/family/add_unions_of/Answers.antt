use Rattle.clause_pool.specs.Interned.{clauses_at}
use Rattle.clause_families.specs.Unions.{clause_without, union_of}
use Rattle.clause_families.proofs.Families.{At, at_clause, map_push, of_pool_item}
use Rattle.clause_families.proofs.family.add_unions_of.Goals as goal

pub slice-requires : goal.slice-requires
slice-requires c = of_pool_item c.args.pool.now c.args.others.now c.loop-other.other-index c.other-item.result c.requires.others c.loop-other-test.true c.other-item.is

pub loop-other-preserved : goal.loop-other-preserved
loop-other-preserved c =
    let at : At (clauses_at c.args.pool.now c.args.others.now) c.loop-other.other-index c.slice.result.now =
    at_clause c.args.pool.now c.args.others.now c.loop-other.other-index c.other-item.result c.slice.result.now c.loop-other-test.true c.other-item.is c.slice.ensures.lent in
    map_push (λ other. union_of (clause_without c.args.spent c.args.clause.now) other) (clauses_at c.args.pool.now c.args.others.now) c.loop-other.other-index c.slice.result.now c.in_ok-union.union
    c.args.family.now.items c.loop-other.family.items c.push.new.self.items at c.loop-other.invariant c.in_ok-union.ensures c.in_ok-push.ensures.items
