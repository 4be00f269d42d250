use Rattle.std.proofs.Common.{◌≡◌, map}
use Rattle.std.specs.List.{range_with_len}
use Rattle.repo_model.specs.{Repository.{row_of}, Stanzas.{stanza_at}}
use Rattle.repo_model.proofs.plain.rows.Given as goal

abbrev pub invariant-loop-number : goal.invariant-loop-number
invariant-loop-number l = l.rows ≡ map (λ n. row_of l.home l.stanzas (stanza_at l.stanzas n)) (range_with_len 0 l.number)
