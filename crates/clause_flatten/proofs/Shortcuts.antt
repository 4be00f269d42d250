-- Rows that need no work.
use Rattle.std.proofs.Common.{ℕ, List, inl, inr, refl, sym, subst}
use Rattle.listed.specs.Lists.{In}
use Rattle.clause_pool.specs.Clauses.{apart_from, in_row_order}
use Rattle.clause_families.specs.Unions.{all_unions_for, substituted}
use Rattle.clause_flatten.specs.FlatLaws.{UntouchedStays}
use Rattle.clause_pool.proofs.Clauses.{apart_cases, apart_in, minimal_of_from, minimal_of_parts}
use Rattle.clause_pool.proofs.Order.{order_same, ordered_has, ordered_order, ordered_parts}
use Rattle.clause_families.proofs.Unions.{Comes, replaced_cases, replaced_kept}

-- a row that q does not stand in stays as it is
pub untouched_lem : UntouchedStays
untouched_lem R V p q A B r o f =
    let back : (c : List ℕ) → In c (apart_from p (all_unions_for q A B)) → In c A =
    λ c i.
    let w : (T : List ℕ) × In T A × Comes q B T c = replaced_cases q A B c (apart_cases p (all_unions_for q A B) c i).0 in
    elim w.2.how [ inl k ↦ subst (λ z. In z A) (sym k.1) w.1 | inr m ↦ absurd (f w.0 w.1 m.2) ] in
    order_same (in_row_order (substituted p q A B)) A (ordered_order (substituted p q A B)) o
    (λ c i. back c (minimal_of_parts (apart_from p (all_unions_for q A B)) c (ordered_parts (substituted p q A B) c i)).0)
    (λ c i. ordered_has (substituted p q A B) c
    (minimal_of_from (apart_from p (all_unions_for q A B)) c
    (apart_in p (all_unions_for q A B) c (replaced_kept q A B c i (f c i)) (λ j. (r.sound c i).blocks.apart p j refl))
    (λ S j g. (r.sound c i).minimal S (r.sound S (back S j)).blocks g)))
