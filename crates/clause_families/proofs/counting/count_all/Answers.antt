use Rattle.clause_families.proofs.counting.count_all.Goals as goal
