use Rattle.std.proofs.Common.{◌≡◌, take}
use Rattle.std.specs.Prelude.{map}
use Rattle.search_terms.specs.Form.{goal_sentence}
use Rattle.search_terms.proofs.sentences.goal_sentences.Given as goal

abbrev pub invariant-loop-place : goal.invariant-loop-place
invariant-loop-place l = l.made.items ≡ map goal_sentence (take l.place l.goals)
