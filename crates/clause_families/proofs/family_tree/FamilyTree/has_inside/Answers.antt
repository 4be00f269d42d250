use Rattle.std.proofs.Common.{◌||◌, ◌+◌, ◌∙◌, ap, arith, length, refl, sym, subst, []}
use Rattle.clause_families.specs.{Branches.{any_of, tree_of, Standing}, Inclusion.{is_within}}
use Rattle.clause_families.proofs.Built.{climbs_built, inside_built, none_so_short, standing_built}
use Rattle.clause_families.proofs.family_tree.FamilyTree.has_inside.Goals as goal

pub returns-then-clause-self : goal.returns-then-clause-self
returns-then-clause-self c family t = sym (none_so_short c.args.self.now family c.args.clause.now t c.requires.ascending (omega arith))

pub returns-then-self : goal.returns-then-self
returns-then-self c family t =
    sym (inside_built c.args.self.now family c.args.clause.now t c.requires.ascending
    ∙ ap (λ b. b || any_of (is_within c.args.clause.now (length c.args.clause.now + 1)) (tree_of t.by.leaps family)) c.if-self.true)

pub has_within-requires-clause-tree : goal.has_within-requires-clause-tree
has_within-requires-clause-tree c = subst (Standing 0) (sym c.as_slice.ensures.value) (standing_built c.args.self.now c.requires.tree.family c.requires.tree.tells)

pub returns : goal.returns
returns c family t =
    let there_is : Standing 0 c.as_slice.result.now =
    record {
      tree = tree_of t.by.leaps family;
      climbs = climbs_built t.by.leaps family t.in_order t.rising;
      front = [];
      at = refl;
      is = c.as_slice.ensures.value ∙ t.by.nodes;
    } in
    c.has_within.ensures there_is ∙ sym (inside_built c.args.self.now family c.args.clause.now t c.requires.ascending
    ∙ ap (λ b. b || any_of (is_within c.args.clause.now (length c.args.clause.now + 1)) (tree_of t.by.leaps family)) c.if-self.false)
