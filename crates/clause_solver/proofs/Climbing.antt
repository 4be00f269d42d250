-- Going on to the next part of the tree.
use Rattle.std.proofs.Common.{◌≡◌, ℕ, zero, suc, ◌+◌, ◌<◌, ◌≤◌, Bool, true, false, List, [], ◌∷◌, ◌++◌, length, take, refl, ap, sym, ◌∙◌, arith, subst}
use Rattle.std.proofs.{lemmas.List.{length_push}, lemmas.List.Elements.{All-contains, All-push, Contains-push}}
use Rattle.std.specs.{Prelude.{All}, Bool.{OnTrue, OnFalse}}
use Rattle.search_terms.specs.{declared.literals.Literal.{Literal}, Closure.{literal, Clashes}, Tree.{is_undecided}, Marks.{classes_left}}
use Rattle.clause_solver.specs.{Marking.{set_of_trail}, Levels.{IsLayered, IsFallen, IsToAssume, CalmAt, IsAt}}
use Rattle.clause_solver.proofs.{Stacking.{snoc_same, range_front}, Calm.{pop_of, undecided_negation, calm_of, ready_level, ready_fallen}}

pub record IsUnder (F : List (List Literal)) (rest : List Literal) (l : Literal) (lower : List ℕ) (h : ℕ) (trail : List Literal) : Type 0 where
  pub within : h ≤ length trail
  pub undecided : is_undecided (set_of_trail (take h trail)) l ≡ true
  pub under : IsLayered F rest lower (take h trail)

pub under_of : (F : List (List Literal)) (ds rest : List Literal) (l : Literal) (hs lower : List ℕ) (h : ℕ) (trail : List Literal) → ds ≡ rest ++ l ∷ [] → hs ≡ lower ++ h ∷ [] → IsFallen F ds hs trail → IsUnder F rest l lower h trail
under_of F ds rest l hs lower h trail cut e fallen =
    let p = pop_of F ds rest l hs trail cut fallen in
    let both = snoc_same p.lower lower p.h h (sym p.height ∙ e) in
    record {
      within = rw both.1 at p.within;
      undecided = subst (λ k. is_undecided (set_of_trail (take k trail)) l ≡ true) both.1 p.undecided;
      under = subst (λ k. IsLayered F rest lower (take k trail)) both.1 (subst (λ x. IsLayered F rest x (take p.h trail)) both.0 p.under);
    }

pub has_height : (F : List (List Literal)) (ds rest : List Literal) (l : Literal) (hs : List ℕ) (trail : List Literal) → ds ≡ rest ++ l ∷ [] → IsFallen F ds hs trail → 0 < length hs
has_height F ds rest l hs trail cut fallen =
    let p = pop_of F ds rest l hs trail cut fallen in
    let e : length hs ≡ length p.lower + 1 = ap length p.height ∙ length_push p.lower p.h in
    omega (arith, e)

length_front : (h : ℕ) (xs : List Literal) → h ≤ length xs → length (take h xs) ≡ h
length_front zero xs le = refl
length_front (suc h) [] le = absurd (omega arith)
length_front (suc h) (x ∷ xs) le = let e = length_front h xs (omega arith) in omega (arith, e)

other_undecided : (set : Literal → Bool) (c : ℕ) (b : Bool) → b ≡ true → is_undecided set (literal c b) ≡ true → is_undecided set (literal c false) ≡ true
other_undecided set c true e u = undecided_negation set (literal c true) u
other_undecided set c false e u = absurd (cc e)

pub ready_of : (F : List (List Literal)) (rest new : List Literal) (l : Literal) (lower hs : List ℕ) (h : ℕ) (trail now : List Literal) → IsUnder F rest l lower h trail → l.positive ≡ true
    → new ≡ rest ++ literal l.class false ∷ [] → hs ≡ lower ++ h ∷ [] → now ≡ take h trail → IsToAssume F new hs now (literal l.class false)
ready_of F rest new l lower hs h trail now under sign e f g = record {
  above = rest;
  lower = lower;
  last = e;
  height = f ∙ ap (λ k. lower ++ k ∷ []) (sym (length_front h trail under.within) ∙ ap length (sym g));
  undecided = rw g (other_undecided (set_of_trail (take h trail)) l.class l.positive sign under.undecided);
  layered = rw g under.under;
}

pub last_class : (n : ℕ) (ds rest : List Literal) (l : Literal) → ds ≡ rest ++ l ∷ [] → All (λ k. k.class < n) ds → l.class < n
last_class n ds rest l cut range = All-contains (λ k. k.class < n) ds l range (rw cut (Contains-push rest l))

pub range_again : (n : ℕ) (ds rest new : List Literal) (l : Literal) → ds ≡ rest ++ l ∷ [] → new ≡ rest ++ literal l.class false ∷ [] → All (λ k. k.class < n) ds → All (λ k. k.class < n) new
range_again n ds rest new l cut e range = rw e (All-push (λ k. k.class < n) rest (literal l.class false) (range_front n ds rest l cut range) (last_class n ds rest l cut range))

pub at_after : (clash : Bool) (F : List (List Literal)) (ds : List Literal) (hs : List ℕ) (old new : List Literal) (l : Literal) → IsToAssume F ds hs old l → (take (length old) new ≡ old) × (length old ≤ length new)
    → OnFalse clash ((xs : List Literal) → CalmAt F xs old → CalmAt F (xs ++ l ∷ []) new) → OnTrue clash ((xs : List Literal) → CalmAt F xs old → Clashes F (xs ++ l ∷ [])) → IsAt clash F ds hs new
at_after true F ds hs old new l r front calm clash = ready_fallen F ds hs old new l r front.0 front.1 clash
at_after false F ds hs old new l r front calm clash = ready_level F ds hs old new l r front.0 front.1 calm

pub ready_split : (F : List (List Literal)) (ds new : List Literal) (hs now : List ℕ) (h : ℕ) (trail : List Literal) (l : Literal) → IsLayered F ds hs trail → new ≡ ds ++ l ∷ [] → now ≡ hs ++ h ∷ [] → h ≡ length trail → is_undecided (set_of_trail trail) l ≡ true
    → IsToAssume F new now trail l
ready_split F ds new hs now h trail l layered e f g u = record { above = ds; lower = hs; last = e; height = f ∙ ap (λ k. hs ++ k ∷ []) g; undecided = u; layered = layered }

pub ready_calm : (F : List (List Literal)) (ds : List Literal) (hs : List ℕ) (trail : List Literal) (l : Literal) → IsToAssume F ds hs trail l → (xs : List Literal) × CalmAt F xs trail
ready_calm F ds hs trail l r = (r.above, calm_of F r.above r.lower trail r.layered)

pub split_less : (a n : ℕ) (new old : List Literal) (l : Literal) → new ≡ old ++ l ∷ [] → classes_left n (old ++ l ∷ []) < classes_left n old → a + classes_left n new < a + classes_left n old
split_less a n new old l e lt = rw e (omega arith)
