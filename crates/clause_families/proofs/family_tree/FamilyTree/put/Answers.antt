use Rattle.std.proofs.{Common.{refl, rules}, lemmas.Result.{on_ok_weaker}}
use Rattle.clause_families.proofs.Built.{built_empty, built_more}
use Rattle.clause_families.proofs.family_tree.FamilyTree.put.Goals as goal

pub returns-then-is_empty : goal.returns-then-is_empty
returns-then-is_empty c family b = built_empty c.args.self.now _ family c.args.clause.now c.is_empty.result c.is_empty.ensures c.if-is_empty.true refl refl
    (c.least_of-self.ensures.first) (search rules) b

pub returns : goal.returns
returns c =
    on_ok_weaker c.put_nodes.result
    (λ grows family b. built_more c.args.self.now _ family c.args.clause.now c.is_empty.result c.is_empty.ensures c.if-is_empty.false refl
    (c.least_of-self.ensures.first) (search rules) grows b)
    c.put_nodes.ensures
