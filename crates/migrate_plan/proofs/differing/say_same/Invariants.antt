use Rattle.std.proofs.Common.{◌≡◌, true, map, take}
use Rattle.std.specs.Cmp.Lexicographic.{pointwise}
use Rattle.repo_model.specs.Stanzas.{stanza_at}
use Rattle.migrate_plan.specs.Differing.{says_same}
use Rattle.migrate_plan.proofs.differing.say_same.Given as goal

abbrev pub invariant-loop-place : goal.invariant-loop-place
invariant-loop-place l = pointwise says_same (take l.place (map (stanza_at l.old) l.olds)) (take l.place (map (stanza_at l.new) l.news)) ≡ true
