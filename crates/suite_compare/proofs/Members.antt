-- Which lines stand in a report.
use Rattle.std.proofs.Common.{ℕ, ◌≡◌, List, [], ◌∷◌, inl, inr, refl, ap, subst, Option, Some, None}
use Rattle.std.specs.List.{flat_map}
use Rattle.listed.proofs.Lists.{In_flat_cases, In_flat, In_cases, In_none, In_append_cases, In_append_left, In_append_right}
use Rattle.clause_pool.specs.Lists.{Before, InOrder}
use Rattle.listed.specs.Lists.{In, here, there}
use Rattle.clause_pool.proofs.Order.{before_asym}
use Rattle.suite_compare.specs.{Report.{pair_line, single_line, with_later}, declared.report.Finding.{Finding}}
use Rattle.suite_compare.specs.{declared.report.Finding.TheVariants.{Broken, Open}, declared.report.ReportLine.{ReportLine}}
use Rattle.suite_compare.specs.{declared.report.ReportLine.TheVariants.{Broken1, Broken2, Open1, Open2}, Listing.{names_of}}

-- the lines of pairs
pub later_cases : (f : List ℕ → List ℕ → List ReportLine) (names : List (List ℕ)) → InOrder names → (line : ReportLine) → In line (with_later f names) → (a : List ℕ) × (b : List ℕ) × In a names × In b names × Before a b × In line (f a b)
later_cases f [] o line i = absurd (In_none i)
later_cases f (n ∷ ns) o line i =
    elim (In_append_cases (flat_map (f n) ns) (with_later f ns) line i) [
      | inl l ↦ let w : (b : List ℕ) × In b ns × In line (f n b) = In_flat_cases (f n) ns line l in (n, w.0, here, there w.1, o.0 w.0 w.1, w.2)
      | inr r ↦
          let w : (a : List ℕ) × (b : List ℕ) × In a ns × In b ns × Before a b × In line (f a b) = later_cases f ns o.1 line r in
          (w.0, w.1, there w.2, there w.3, w.4, w.5)
    ]

pub later_from : (f : List ℕ → List ℕ → List ReportLine) (names : List (List ℕ)) → InOrder names → (a b : List ℕ) → In a names → In b names → Before a b → (line : ReportLine) → In line (f a b) → In line (with_later f names)
later_from f [] o a b i j l line k = absurd (In_none i)
later_from f (n ∷ ns) o a b i j l line k =
    elim (In_cases i) [
      | inl e ↦ elim (In_cases j) [
        | inl s ↦ absurd (let m : Before n n = subst (λ z. Before z n) e (subst (λ z. Before a z) s l) in before_asym n n m m)
        | inr q ↦ In_append_left (flat_map (f n) ns) (with_later f ns) line (In_flat (f n) ns b line q (subst (λ z. In line (f z b)) e k))
      ]
      | inr p ↦ elim (In_cases j) [
        | inl s ↦ absurd (before_asym n a (o.0 a p) (subst (λ z. Before a z) s l))
        | inr q ↦ In_append_right (flat_map (f n) ns) (with_later f ns) line (later_from f ns o.1 a b p q l line k)
      ]
    ]

-- the lines of a name and of two
pub single_names : (n : List ℕ) (f : Option Finding) (line : ReportLine) → In line (single_line n f) → names_of line ≡ n ∷ []
single_names n None line i = absurd (In_none i)
single_names n (Some Broken) line i = elim (In_cases i) [ inl e ↦ ap names_of e | inr j ↦ absurd (In_none j) ]
single_names n (Some Open) line i = elim (In_cases i) [ inl e ↦ ap names_of e | inr j ↦ absurd (In_none j) ]

pub pair_names : (a b : List ℕ) (f : Option Finding) (line : ReportLine) → In line (pair_line a b f) → names_of line ≡ a ∷ (b ∷ [])
pair_names a b None line i = absurd (In_none i)
pair_names a b (Some Broken) line i = elim (In_cases i) [ inl e ↦ ap names_of e | inr j ↦ absurd (In_none j) ]
pair_names a b (Some Open) line i = elim (In_cases i) [ inl e ↦ ap names_of e | inr j ↦ absurd (In_none j) ]

pub single_broken : (n name : List ℕ) (f : Option Finding) → In (Broken1 name) (single_line n f) → f ≡ Some Broken
single_broken n name None i = absurd (In_none i)
single_broken n name (Some Broken) i = refl
single_broken n name (Some Open) i = elim (In_cases i) [ inl e ↦ absurd (let k : ⊥ = cc in k) | inr j ↦ absurd (In_none j) ]

pub single_open : (n name : List ℕ) (f : Option Finding) → In (Open1 name) (single_line n f) → f ≡ Some Open
single_open n name None i = absurd (In_none i)
single_open n name (Some Broken) i = elim (In_cases i) [ inl e ↦ absurd (let k : ⊥ = cc in k) | inr j ↦ absurd (In_none j) ]
single_open n name (Some Open) i = refl

pub pair_broken : (a b first second : List ℕ) (f : Option Finding) → In (Broken2 first second) (pair_line a b f) → f ≡ Some Broken
pair_broken a b first second None i = absurd (In_none i)
pair_broken a b first second (Some Broken) i = refl
pair_broken a b first second (Some Open) i = elim (In_cases i) [ inl e ↦ absurd (let k : ⊥ = cc in k) | inr j ↦ absurd (In_none j) ]

pub pair_open : (a b first second : List ℕ) (f : Option Finding) → In (Open2 first second) (pair_line a b f) → f ≡ Some Open
pair_open a b first second None i = absurd (In_none i)
pair_open a b first second (Some Broken) i = elim (In_cases i) [ inl e ↦ absurd (let k : ⊥ = cc in k) | inr j ↦ absurd (In_none j) ]
pair_open a b first second (Some Open) i = refl

-- equal lists of names
pub same_one : (a b : List ℕ) → a ∷ [] ≡ b ∷ [] → a ≡ b
same_one a b e = cc

pub same_first : (a b c d : List ℕ) → a ∷ (b ∷ []) ≡ c ∷ (d ∷ []) → a ≡ c
same_first a b c d e = cc

pub same_second : (a b c d : List ℕ) → a ∷ (b ∷ []) ≡ c ∷ (d ∷ []) → b ≡ d
same_second a b c d e = cc

pub not_both : (a b c : List ℕ) → a ∷ [] ≡ b ∷ (c ∷ []) → ⊥
not_both a b c e = cc
