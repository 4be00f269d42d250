-- The order of the lines of a report.
use Rattle.std.proofs.Common.{ℕ, ◌≡◌, List, [], ◌∷◌, ◌++◌, inl, inr, refl, sym, ◌∙◌, ap₂, subst, Option, Some, None}
use Rattle.std.specs.List.{flat_map}
use Rattle.listed.proofs.Lists.{In_flat_cases, In_cases, In_none, In_append_cases}
use Rattle.clause_pool.specs.Lists.{Before, InOrder}
use Rattle.listed.specs.Lists.{In, here, there}
use Rattle.clause_pool.proofs.Order.{before_asym}
use Rattle.suite_compare.specs.{Report.{pair_line, single_line, with_later}, declared.report.Finding.{Finding}}
use Rattle.suite_compare.specs.{declared.report.Finding.TheVariants.{Broken, Open}, declared.report.ReportLine.{ReportLine}}
use Rattle.suite_compare.specs.Listing.{names_of, AreInOrder, Precedes}
use Rattle.suite_compare.proofs.Members.{later_cases, pair_names, single_names}

no_two_ways : (s t : List (List ℕ)) → Precedes s t → Precedes t s → ⊥
no_two_ways [] t f g = f
no_two_ways (a ∷ []) [] f g = f
no_two_ways (a ∷ []) (b ∷ []) f g = before_asym a b f g
no_two_ways (a ∷ []) (b ∷ (c ∷ [])) f g = g
no_two_ways (a ∷ []) (b ∷ (c ∷ (d ∷ more))) f g = f
no_two_ways (a ∷ (b ∷ [])) [] f g = f
no_two_ways (a ∷ (b ∷ [])) (c ∷ []) f g = f
no_two_ways (a ∷ (b ∷ [])) (c ∷ (d ∷ [])) (inl f) (inl g) = before_asym a c f g
no_two_ways (a ∷ (b ∷ [])) (c ∷ (d ∷ [])) (inl f) (inr g) = before_asym a a (subst (λ z. Before a z) g.0 f) (subst (λ z. Before a z) g.0 f)
no_two_ways (a ∷ (b ∷ [])) (c ∷ (d ∷ [])) (inr f) (inl g) = before_asym c c (subst (λ z. Before c z) f.0 g) (subst (λ z. Before c z) f.0 g)
no_two_ways (a ∷ (b ∷ [])) (c ∷ (d ∷ [])) (inr f) (inr g) = before_asym b d f.1 g.1
no_two_ways (a ∷ (b ∷ [])) (c ∷ (d ∷ (e ∷ more))) f g = f
no_two_ways (a ∷ (b ∷ (c ∷ more))) t f g = f

order_append : (xs ys : List ReportLine) → AreInOrder xs → AreInOrder ys → ((x y : ReportLine) → In x xs → In y ys → Precedes (names_of x) (names_of y)) → AreInOrder (xs ++ ys)
order_append [] ys a b f = b
order_append (x ∷ xs) ys a b f = (
  (λ d i. elim (In_append_cases xs ys d i) [ inl l ↦ a.0 d l | inr r ↦ f x d here r ]),
  order_append xs ys a.1 b (λ u v i j. f u v (there i) j),
)

-- the lines of names in order, where each has no more than one
flat_order : (f : List ℕ → List ReportLine) (g : List ℕ → List (List ℕ)) (names : List (List ℕ)) → InOrder names → ((n : List ℕ) → AreInOrder (f n)) → ((n : List ℕ) (line : ReportLine) → In line (f n) → names_of line ≡ g n)
    → ((n m : List ℕ) → Before n m → Precedes (g n) (g m)) → AreInOrder (flat_map f names)
flat_order f g [] o each about up = tt
flat_order f g (n ∷ ns) o each about up =
    order_append (f n) (flat_map f ns) (each n) (flat_order f g ns o.1 each about up)
    (λ x y i j.
    let w : (m : List ℕ) × In m ns × In y (f m) = In_flat_cases f ns y j in
    subst (λ z. Precedes z (names_of y)) (sym (about n x i)) (subst (λ z. Precedes (g n) z) (sym (about w.0 y w.2)) (up n w.0 (o.0 w.0 w.1))))

single_order : (n : List ℕ) (f : Option Finding) → AreInOrder (single_line n f)
single_order n None = tt
single_order n (Some Broken) = ((λ d i. absurd (In_none i)), tt)
single_order n (Some Open) = ((λ d i. absurd (In_none i)), tt)

pair_order : (a b : List ℕ) (f : Option Finding) → AreInOrder (pair_line a b f)
pair_order a b None = tt
pair_order a b (Some Broken) = ((λ d i. absurd (In_none i)), tt)
pair_order a b (Some Open) = ((λ d i. absurd (In_none i)), tt)

singles_order : (f : List ℕ → Option Finding) (names : List (List ℕ)) → InOrder names → AreInOrder (flat_map (λ n. single_line n (f n)) names)
singles_order f names o = flat_order (λ n. single_line n (f n)) (λ n. n ∷ []) names o (λ n. single_order n (f n)) (λ n line i. single_names n (f n) line i) (λ n m b. b)

pairs_order : (f : List ℕ → List ℕ → Option Finding) (names : List (List ℕ)) → InOrder names → AreInOrder (with_later (λ a b. pair_line a b (f a b)) names)
pairs_order f [] o = tt
pairs_order f (n ∷ ns) o =
    order_append (flat_map (λ b. pair_line n b (f n b)) ns) (with_later (λ a b. pair_line a b (f a b)) ns)
    (flat_order (λ b. pair_line n b (f n b)) (λ b. n ∷ (b ∷ [])) ns o.1 (λ b. pair_order n b (f n b)) (λ b line i. pair_names n b (f n b) line i) (λ b c up. inr (refl, up)))
    (pairs_order f ns o.1)
    (λ x y i j.
    let v : (b : List ℕ) × In b ns × In x (pair_line n b (f n b)) = In_flat_cases (λ b. pair_line n b (f n b)) ns x i in
    let w : (a : List ℕ) × (b : List ℕ) × In a ns × In b ns × Before a b × In y (pair_line a b (f a b)) = later_cases (λ a b. pair_line a b (f a b)) ns o.1 y j in
    subst (λ z. Precedes z (names_of y)) (sym (pair_names n v.0 (f n v.0) x v.2))
    (subst (λ z. Precedes (n ∷ (v.0 ∷ [])) z) (sym (pair_names w.0 w.1 (f w.0 w.1) y w.5)) (inl (o.0 w.0 w.2))))

pub report_order : (f : List ℕ → Option Finding) (g : List ℕ → List ℕ → Option Finding) (names chosen : List (List ℕ)) → InOrder names → InOrder chosen
    → AreInOrder (flat_map (λ n. single_line n (f n)) names ++ with_later (λ a b. pair_line a b (g a b)) chosen)
report_order f g names chosen o p =
    order_append (flat_map (λ n. single_line n (f n)) names) (with_later (λ a b. pair_line a b (g a b)) chosen) (singles_order f names o) (pairs_order g chosen p)
    (λ x y i j.
    let v : (n : List ℕ) × In n names × In x (single_line n (f n)) = In_flat_cases (λ n. single_line n (f n)) names x i in
    let w : (a : List ℕ) × (b : List ℕ) × In a chosen × In b chosen × Before a b × In y (pair_line a b (g a b)) = later_cases (λ a b. pair_line a b (g a b)) chosen p y j in
    subst (λ z. Precedes z (names_of y)) (sym (single_names v.0 (f v.0) x v.2)) (subst (λ z. Precedes (v.0 ∷ []) z) (sym (pair_names w.0 w.1 (g w.0 w.1) y w.5)) tt))

-- lists in order with the same lines are equal
pub order_same : (xs ys : List ReportLine) → AreInOrder xs → AreInOrder ys → ((line : ReportLine) → In line xs → In line ys) → ((line : ReportLine) → In line ys → In line xs) → xs ≡ ys
order_same [] [] a b f g = refl
order_same [] (y ∷ ys) a b f g = absurd (In_none (g y here))
order_same (x ∷ xs) [] a b f g = absurd (In_none (f x here))
order_same (x ∷ xs) (y ∷ ys) a b f g =
    let same : x ≡ y =
    elim (In_cases (f x here)) [
      | inl e ↦ e
      | inr i ↦ elim (In_cases (g y here)) [ inl e ↦ sym e | inr j ↦ absurd (no_two_ways (names_of y) (names_of x) (b.0 x i) (a.0 y j)) ]
    ] in
    let f2 : (line : ReportLine) → In line xs → In line ys = λ c i. elim (In_cases (f c (there i))) [
      | inl e ↦ absurd (let k : Precedes (names_of x) (names_of x) = subst (λ z. Precedes (names_of x) (names_of z)) (e ∙ sym same) (a.0 c i) in no_two_ways (names_of x) (names_of x) k k)
      | inr j ↦ j
    ] in
    let g2 : (line : ReportLine) → In line ys → In line xs = λ c i. elim (In_cases (g c (there i))) [
      | inl e ↦ absurd (let k : Precedes (names_of y) (names_of y) = subst (λ z. Precedes (names_of y) (names_of z)) (e ∙ same) (b.0 c i) in no_two_ways (names_of y) (names_of y) k k)
      | inr j ↦ j
    ] in
    ap₂ (λ z zs. z ∷ zs) same (order_same xs ys a.1 b.1 f2 g2)
