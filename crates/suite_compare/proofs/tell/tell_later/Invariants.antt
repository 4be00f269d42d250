use Rattle.std.{proofs.Common.{◌≡◌, ◌++◌, take, filter, ltb}, specs.List.{flat_map}}
use Rattle.suite_compare.specs.Telling.{told_pair}
use Rattle.suite_compare.proofs.tell.tell_later.Given as goal

abbrev pub invariant-loop-other : goal.invariant-loop-other
invariant-loop-other l = l.lines ≡ l.initial.lines ++ flat_map (told_pair l.names l.partners l.place) (filter (ltb l.place) (take l.other-index l.partners.told))
