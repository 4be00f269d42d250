use Rattle.std.proofs.Common.{◌≡◌, map, take, Some}
use Rattle.coinst_words.specs.Words.{goals_of}
use Rattle.coinst_words.proofs.goals.goals_in.Given as goal

abbrev pub invariant-loop-word : goal.invariant-loop-word
invariant-loop-word l = goals_of (map (λ s. s.now) (take l.word-index l.words)) ≡ Some l.goals
