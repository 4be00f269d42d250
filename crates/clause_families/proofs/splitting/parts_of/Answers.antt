use Rattle.clause_families.proofs.splitting.parts_of.Goals as goal
