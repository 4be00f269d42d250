use Rattle.std.proofs.Common.{◌≡◌, ◌∙◌, ◌++◌, ◌∷◌, Bool, true, eqb, eqb-true, List, [], length, refl, subst, sym, ap, arith}
use Rattle.repo_model.proofs.relations.read_both.Goals as goal

empty : {A : Type 0} (xs : List A) → length xs ≡ 0 → xs ≡ []
empty [] e = refl
empty (x ∷ xs) e = absurd (omega arith)

pub returns-then-is_empty-clause-reads : goal.returns-then-is_empty-clause-reads
returns-then-is_empty-clause-reads g c =
    let none = empty c.in_ok-said.said (eqb-true (length c.in_ok-said.said) 0 (ap (λ xs. eqb (length xs) 0) (sym c.as_slice.ensures) ∙ sym c.is_empty.ensures ∙ c.if-is_empty.true)) in
    subst (λ xs. g.T.ElementReader.reads c.args.reader.now (xs ++ c.in_ok-more.more) c.read_field-2.new.reader) none
    (g.met.T.ElementReader.reads_on c.args.reader.now c.read_field.new.reader c.read_field-2.new.reader c.in_ok-said.said c.in_ok-more.more c.in_ok-said.ensures.reads c.in_ok-more.ensures.reads)
