use Rattle.std.proofs.{Common.{length, sym, arith, rules}, lemmas.List.Sums.{prefix_len_is}}
use Rattle.relation_fields.specs.Texts.{is_of_kind}
use Rattle.relation_fields.proofs.texts.front_len.Goals as goal

pub returns-then-not-has_kind-clause-is : goal.returns-then-not-has_kind-clause-is
returns-then-not-has_kind-clause-is c = sym (prefix_len_is (is_of_kind c.args.kind) c.args.text.now c.loop-i.i 0 (omega arith) c.loop-i.invariant (λ _. search rules))

pub returns-clause-is : goal.returns-clause-is
returns-clause-is c = sym (prefix_len_is (is_of_kind c.args.kind) c.args.text.now (length c.args.text.now) 0 (omega arith) (λ k h. c.loop-i.invariant k (omega arith)) (λ h. absurd (omega arith)))
