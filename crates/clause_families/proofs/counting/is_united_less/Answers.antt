use Rattle.std.proofs.{Common.{◌≡◌, ◌∙◌, ap, arith, false, get_or, inl, inr, subst, sym}, lemmas.Bool.{cases_eq}}
use Rattle.listed.specs.Lists.{Ascending}
use Rattle.listed.proofs.Lists.{any_from, In_at}
use Rattle.clause_families.specs.{Counting.{unites}, Unions.{clause_without}}
use Rattle.clause_families.proofs.CountedRows.{cut_ascending, none_numbers}
use Rattle.clause_families.proofs.counting.is_united_less.Goals as goal

pub is_united-requires-clause-ascending : goal.is_united-requires-clause-ascending
is_united-requires-clause-ascending c = subst (λ z. Ascending z) (sym (c.as_slice.ensures ∙ c.in_ok-left.ensures)) (cut_ascending _ c.args.clause.now c.requires.ascending)

pub returns-then-is_united : goal.returns-then-is_united
returns-then-is_united c =
    sym (any_from (λ n. unites c.args.parts.now.first.clauses.items c.args.parts.now.second.clauses.items (clause_without n c.args.clause.now)) c.args.clause.now
    (get_or c.args.clause.now c.loop-number.number-index 0) (In_at c.args.clause.now c.loop-number.number-index 0 c.loop-number-test.true)
    (ap (unites c.args.parts.now.first.clauses.items c.args.parts.now.second.clauses.items) (sym (c.as_slice.ensures ∙ c.in_ok-left.ensures)) ∙ sym c.is_united.ensures ∙ c.if-is_united.true))

pub loop-number-preserved : goal.loop-number-preserved
loop-number-preserved c k l =
    elim (cases_eq k c.loop-number.number-index) [
      | inl e ↦
          subst (λ z. unites c.args.parts.now.first.clauses.items c.args.parts.now.second.clauses.items (clause_without (get_or c.args.clause.now z 0) c.args.clause.now) ≡ false) (sym e)
          (ap (unites c.args.parts.now.first.clauses.items c.args.parts.now.second.clauses.items) (sym (c.as_slice.ensures ∙ c.in_ok-left.ensures)) ∙ sym c.is_united.ensures ∙ c.if-is_united.false)
      | inr d ↦ c.loop-number.invariant k (omega arith)
    ]

pub returns : goal.returns
returns c =
    sym (none_numbers (λ n. unites c.args.parts.now.first.clauses.items c.args.parts.now.second.clauses.items (clause_without n c.args.clause.now)) c.args.clause.now
    (λ k l. c.loop-number.invariant k (omega arith)))
