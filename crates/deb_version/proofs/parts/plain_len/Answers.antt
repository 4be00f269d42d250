use Rattle.std.proofs.{Common.{sym, ◌∙◌, ap, not, length, arith}, lemmas.List.Sums.{prefix_len_is}}
use Rattle.deb_version.specs.Order.{is_plain}
use Rattle.deb_version.proofs.parts.plain_len.Goals as goal

pub returns-then-is_ascii_digit-clause-is : goal.returns-then-is_ascii_digit-clause-is
returns-then-is_ascii_digit-clause-is c = sym (prefix_len_is is_plain c.args.part.now c.loop-i.i 0 (omega arith) c.loop-i.invariant (λ _. ap not (sym c.is_ascii_digit.ensures.value ∙ c.if-is_ascii_digit.true)))

pub returns-clause-is : goal.returns-clause-is
returns-clause-is c = sym (prefix_len_is is_plain c.args.part.now (length c.args.part.now) 0 (omega arith) (λ k below. c.loop-i.invariant k (omega arith)) (λ past. absurd (omega arith)))
