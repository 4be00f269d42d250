use Rattle.std.proofs.Common.{◌∙◌, subst, arith}
use Rattle.repo_model.specs.Pairs.{Adds, IsPairWith}
use Rattle.repo_model.proofs.Paired.{against_more}
use Rattle.repo_model.proofs.pairs.push_against.Goals as goal

pub loop-atom-preserved : goal.loop-atom-preserved
loop-atom-preserved c =
    against_more c.args.home.now c.args.packages.now c.args.number c.args.atoms.now c.loop-atom.atom-index c.atom-item.result c.args.pairs.now.items c.loop-atom.pairs.items c.push_pairs.new.pairs.items
    (omega arith) c.atom-item.is c.loop-atom.invariant
    (subst (λ others. Adds (IsPairWith c.args.number others) c.loop-atom.pairs.items c.push_pairs.new.pairs.items) (c.deref.ensures.value ∙ c.in_ok-others.ensures) c.in_ok-push_pairs.ensures)
