use Rattle.std.proofs.Common.{◌≡◌, get_or, map, take}
use Rattle.repo_model.proofs.ranks.places_at.Given as goal

abbrev pub invariant-loop-id : goal.invariant-loop-id
invariant-loop-id l = l.ranks.items ≡ map (λ id. get_or l.places id 0) (take l.id-index l.ids)
