use Rattle.listed.proofs.Lists.{In_at}
use Rattle.clause_prune.proofs.pruned_package.PrunedPackage.clauses_of.Goals as goal

pub row-requires : goal.row-requires
row-requires c = c.requires.fits.fit.of_pool _ (In_at c.args.self.now.rows.now c.args.other _ c.requires.other)
