use Rattle.std.proofs.Common.{◌≡◌, filter}
use Rattle.std.specs.List.{range_with_len}
use Rattle.repo_model.specs.{Repository.{meets_any}, Stanzas.{stanza_at}}
use Rattle.repo_model.proofs.plain.clause.Given as goal

abbrev pub invariant-loop-number : goal.invariant-loop-number
invariant-loop-number l = l.clause ≡ filter (λ n. meets_any l.home l.element (stanza_at l.stanzas n)) (range_with_len 0 l.number)
