use Rattle.std.proofs.Common.{◌≡◌, ℕ, ◌<◌, true, get_or}
use Rattle.relation_fields.specs.Texts.{is_of_kind}
use Rattle.relation_fields.proofs.texts.front_len.Given as goal

abbrev pub invariant-loop-i : goal.invariant-loop-i
invariant-loop-i l = (k : ℕ) → k < l.i → is_of_kind l.kind (get_or l.text k 0) ≡ true
