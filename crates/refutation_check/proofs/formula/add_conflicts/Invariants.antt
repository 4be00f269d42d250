use Rattle.std.proofs.Common.{◌≡◌, ◌++◌, take}
use Rattle.search_terms.specs.Form.{conflict_sentence, owned_sentences}
use Rattle.refutation_check.proofs.formula.add_conflicts.Given as goal

abbrev pub invariant-loop-p : goal.invariant-loop-p
invariant-loop-p l = l.all.items ≡ l.initial.all.items ++ owned_sentences conflict_sentence 0 (take l.p l.conflicts)
