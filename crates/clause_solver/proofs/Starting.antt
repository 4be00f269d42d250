-- Where the search for an open need starts, from level to level.
use Rattle.std.proofs.Common.{◌≡◌, ℕ, ◌+◌, ◌<◌, ◌≤◌, List, [], ◌∷◌, ◌++◌, length, take, ap, sym, ◌∙◌, arith, subst}
use Rattle.std.proofs.lemmas.List.{length_push, length-take-le, take-take}
use Rattle.search_terms.specs.declared.literals.Literal.{Literal}
use Rattle.clause_solver.specs.{declared.nodes.Start.{Start}, Starts.{AreStarts, IsStart, IsStarted, NoneBefore}, Starts.AreStarts.{at_root, level}}
use Rattle.clause_solver.proofs.Stacking.{snoc_same}

-- at first nothing is known
pub start_first : (own : List (List Literal)) (trail : List Literal) (start : Start) → start.height ≡ 0 → start.place ≡ 0 → IsStart own trail start
start_first own trail start h p = record { height = omega (arith, h); place = omega (arith, p); none = λ k lt. absurd (omega (arith, lt, p)) }

-- a start holds on when literals are put behind the trail
pub start_on : (own : List (List Literal)) (old new : List Literal) (start : Start) → take (length old) new ≡ old → length old ≤ length new → IsStart own old start → IsStart own new start
start_on own old new start front le known = record {
  height = let x = known.height in omega (arith, x, le);
  place = known.place;
  none = subst (λ xs. NoneBefore own xs start.place) (ap (take start.height) (sym front) ∙ take-take start.height (length old) new known.height) known.none;
}

-- and so do those of the levels
pub starts_on : (own : List (List Literal)) (levels : List ℕ) (starts : List Start) (old new : List Literal) (start : Start) → take (length old) new ≡ old → IsStarted own levels starts old start → AreStarts own levels starts new
starts_on own levels starts old new start front known =
    level known.lower (length old) known.rest start known.height known.last (subst (λ xs. IsStart own xs start) (sym front) known.here) (subst (λ xs. AreStarts own known.lower known.rest xs) (sym front) known.below)

pub record IsLevel (own : List (List Literal)) (lower : List ℕ) (h : ℕ) (starts : List Start) (trail : List Literal) : Type 0 where
  pub rest : List Start
  pub start : Start
  pub last : starts ≡ rest ++ start ∷ []
  pub here : IsStart own (take h trail) start
  pub below : AreStarts own lower rest (take h trail)

-- the last level
pub last_level : (own : List (List Literal)) (levels lower : List ℕ) (h : ℕ) (starts : List Start) (trail : List Literal) → levels ≡ lower ++ h ∷ [] → AreStarts own levels starts trail → IsLevel own lower h starts trail
last_level own levels lower h starts trail e (at_root none n) = absurd (let len : length levels ≡ length lower + 1 = ap length e ∙ length_push lower h in let zero_long : length levels ≡ 0 = ap length none in omega (arith, len, zero_long))
last_level own levels lower h starts trail e (level low k rest start f g here below) =
    let both = snoc_same low lower k h (sym f ∙ e) in
    record {
      rest = rest;
      start = start;
      last = g;
      here = subst (λ n. IsStart own (take n trail) start) both.1 here;
      below = subst (λ xs. AreStarts own xs rest (take h trail)) both.0 (subst (λ n. AreStarts own low rest (take n trail)) both.1 below);
    }

pub has_start : (own : List (List Literal)) (levels lower : List ℕ) (h : ℕ) (starts : List Start) (trail : List Literal) → levels ≡ lower ++ h ∷ [] → AreStarts own levels starts trail → 0 < length starts
has_start own levels lower h starts trail e known =
    let l = last_level own levels lower h starts trail e known in
    let len : length starts ≡ length l.rest + 1 = ap length l.last ∙ length_push l.rest l.start in
    omega (arith, len)

pub record IsPopped (own : List (List Literal)) (lower : List ℕ) (rest : List Start) (trail : List Literal) (start : Start) : Type 0 where
  pub here : IsStart own trail start
  pub below : AreStarts own lower rest trail

-- the last start, at the trail that is taken back to its level
pub popped : (own : List (List Literal)) (levels lower : List ℕ) (h : ℕ) (starts rest : List Start) (start : Start) (trail now : List Literal) → levels ≡ lower ++ h ∷ [] → starts ≡ rest ++ start ∷ [] → now ≡ take h trail
    → AreStarts own levels starts trail → IsPopped own lower rest now start
popped own levels lower h starts rest start trail now e f g known =
    let l = last_level own levels lower h starts trail e known in
    let both = snoc_same l.rest rest l.start start (sym l.last ∙ f) in
    record {
      here = subst (λ xs. IsStart own xs start) (sym g) (subst (λ s. IsStart own (take h trail) s) both.1 l.here);
      below = subst (λ xs. AreStarts own lower rest xs) (sym g) (subst (λ xs. AreStarts own lower xs (take h trail)) both.0 l.below);
    }

-- and so it stands when both are put back
pub started_again : (own : List (List Literal)) (levels lower : List ℕ) (h : ℕ) (starts rest : List Start) (start : Start) (trail now : List Literal) → h ≤ length trail → now ≡ take h trail → levels ≡ lower ++ h ∷ []
    → starts ≡ rest ++ start ∷ [] → IsPopped own lower rest now start → IsStarted own levels starts now start
started_again own levels lower h starts rest start trail now le g e f known = record {
  lower = lower;
  rest = rest;
  height = e ∙ ap (λ k. lower ++ k ∷ []) (sym (length-take-le h trail le) ∙ ap length (sym g));
  last = f;
  here = known.here;
  below = known.below;
}

-- a node's start, when its level is put to the others
pub started_split : (own : List (List Literal)) (lower levels : List ℕ) (h : ℕ) (rest starts : List Start) (start : Start) (trail : List Literal) → h ≡ length trail → levels ≡ lower ++ h ∷ [] → starts ≡ rest ++ start ∷ []
    → IsStart own trail start → AreStarts own lower rest trail → IsStarted own levels starts trail start
started_split own lower levels h rest starts start trail g e f here below = record {
  lower = lower;
  rest = rest;
  height = e ∙ ap (λ k. lower ++ k ∷ []) g;
  last = f;
  here = here;
  below = below;
}
