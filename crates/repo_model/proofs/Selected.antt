-- Packages that are chosen by flags, and their elements.
use Rattle.std.proofs.Common.{◌≡◌, ℕ, ◌+◌, ◌<◌, ◌≤◌, ◌++◌, Bool, true, false, cond, List, [], ◌∷◌, Option, Some, None, length, get_or, drop, take, set, inl}
use Rattle.std.proofs.{Common.{inr, refl, sym, ap, ap₂, subst, ◌∙◌, add-one, append_assoc, length-append, drop-cons, arith}, lemmas.Bool.{cases_eq}}
use Rattle.std.proofs.lemmas.List.{append-nil, drop_all, get_or-set_other, get_or-set_same, get_or_append_left, get_or_push, length-set, map-append, take_more}
use Rattle.std.specs.List.{items_where_true, flat_map}
use Rattle.relation_fields.specs.Shared.{marked}
use Rattle.repo_model.specs.Select.{AreRenamed}

by_flag : {X : Type 0} (b : Bool) (x : X) (bs : List Bool) (xs : List X) → items_where_true (b ∷ bs) (x ∷ xs) ≡ cond b (x ∷ items_where_true bs xs) (items_where_true bs xs)
by_flag true x bs xs = refl
by_flag false x bs xs = refl

module _ {X : Type 0} (bs : List Bool) (xs : List X) (i : ℕ) (x : X) (fits : length bs ≡ length xs) (within : i < length xs) (is : x ≡ get_or xs i x) where
  abbrev flag : Bool
  flag = get_or bs i false

  abbrev rest : List X
  rest = items_where_true (drop (i + 1) bs) (drop (i + 1) xs)

  -- the next package is chosen by its flag
  next_flagged : items_where_true (drop i bs) (drop i xs) ≡ cond flag (x ∷ rest) rest
  next_flagged =
      ap₂ items_where_true
      (drop-cons bs i false (omega arith) ∙ ap (λ n. flag ∷ drop n bs) (sym (add-one i)))
      (drop-cons xs i x within ∙ ap₂ (λ y n. y ∷ drop n xs) (sym is) (sym (add-one i)))
      ∙ by_flag flag x (drop (i + 1) bs) (drop (i + 1) xs)

  next_up : flag ≡ true → items_where_true (drop i bs) (drop i xs) ≡ x ∷ rest
  next_up up = next_flagged ∙ ap (λ b. cond b (x ∷ rest) rest) up

  next_down : flag ≡ false → items_where_true (drop i bs) (drop i xs) ≡ rest
  next_down down = next_flagged ∙ ap (λ b. cond b (x ∷ rest) rest) down

  pub chosen_next : (made more all : List X) (y : X) → flag ≡ true → made ++ items_where_true (drop i bs) (drop i xs) ≡ all → more ≡ made ++ y ∷ [] → y ≡ x → more ++ rest ≡ all
  chosen_next made more all y up so_far grown same =
      ap (λ ys. ys ++ rest) (grown ∙ ap (λ z. made ++ z ∷ []) same) ∙ append_assoc made (x ∷ []) rest ∙ ap (λ ys. made ++ ys) (sym (next_up up)) ∙ so_far

  pub left_out : (made all : List X) → flag ≡ false → made ++ items_where_true (drop i bs) (drop i xs) ≡ all → made ++ rest ≡ all
  left_out made all down so_far = ap (λ ys. made ++ ys) (sym (next_down down)) ∙ so_far

  pub needs_next : {A : Type 0} (needs : X → List A) (made more all own : List A) → flag ≡ true → made ++ flat_map needs (items_where_true (drop i bs) (drop i xs)) ≡ all → more ≡ made ++ own → own ≡ needs x →
      more ++ flat_map needs rest ≡ all
  needs_next needs made more all own up so_far grown same =
      ap (λ ys. ys ++ flat_map needs rest) (grown ∙ ap (λ ys. made ++ ys) same) ∙ append_assoc made (needs x) (flat_map needs rest)
      ∙ ap (λ ys. made ++ flat_map needs ys) (sym (next_up up)) ∙ so_far

  pub needs_left_out : {A : Type 0} (needs : X → List A) (made all : List A) → flag ≡ false → made ++ flat_map needs (items_where_true (drop i bs) (drop i xs)) ≡ all → made ++ flat_map needs rest ≡ all
  needs_left_out needs made all down so_far = ap (λ ys. made ++ flat_map needs ys) (sym (next_down down)) ∙ so_far

-- all packages were looked at
module _ {X : Type 0} (bs : List Bool) (xs : List X) (i : ℕ) (fits : length bs ≡ length xs) (past : length xs ≤ i) where
  no_rest : items_where_true (drop i bs) (drop i xs) ≡ []
  no_rest = ap (λ cs. items_where_true cs (drop i xs)) (drop_all i bs (omega arith))

  pub chosen_all : (made all : List X) → made ++ items_where_true (drop i bs) (drop i xs) ≡ all → made ≡ all
  chosen_all made all so_far = sym (ap (λ ys. made ++ ys) no_rest ∙ append-nil made) ∙ so_far

  pub needs_all : {A : Type 0} (needs : X → List A) (made all : List A) → made ++ flat_map needs (items_where_true (drop i bs) (drop i xs)) ≡ all → made ≡ all
  needs_all needs made all so_far = sym (ap (λ ys. made ++ flat_map needs ys) no_rest ∙ append-nil made) ∙ so_far

-- no more packages are chosen than there are
pub chosen_few : {X : Type 0} (bs : List Bool) (xs : List X) → length (items_where_true bs xs) ≤ length xs
chosen_few [] xs = omega arith
chosen_few (b ∷ bs) [] = omega arith
chosen_few (true ∷ bs) (x ∷ xs) = let few : length (items_where_true bs xs) ≤ length xs = chosen_few bs xs in omega arith
chosen_few (false ∷ bs) (x ∷ xs) = let few : length (items_where_true bs xs) ≤ length xs = chosen_few bs xs in omega arith

-- the packages that are chosen of two lists, where they are few together
pub both_few : {X : Type 0} (most : ℕ) (bs cs : List Bool) (xs ys all : List X) → length (items_where_true bs xs) + length (items_where_true cs ys) ≤ most → all ≡ items_where_true bs xs ++ items_where_true cs ys → length all ≤ most
both_few most bs cs xs ys all few same =
    let size : length all ≡ length (items_where_true bs xs) + length (items_where_true cs ys) = ap length same ∙ length-append (items_where_true bs xs) (items_where_true cs ys) in
    omega arith

-- one more element
pub marked_next : {A : Type 0} (distinct : List (List A)) (marks : List ℕ) (i mark : ℕ) (start made more : List (List A)) → i < length marks → mark ≡ get_or marks i 0 → made ≡ start ++ marked distinct (take i marks) →
    more ≡ made ++ get_or distinct mark [] ∷ [] → more ≡ start ++ marked distinct (take (i + 1) marks)
marked_next distinct marks i mark start made more within is so_far grown =
    grown ∙ ap (λ ys. ys ++ get_or distinct mark [] ∷ []) so_far ∙ append_assoc start (marked distinct (take i marks)) (get_or distinct mark [] ∷ [])
    ∙ ap (λ ys. start ++ ys)
    (ap (λ m. marked distinct (take i marks) ++ get_or distinct m [] ∷ []) is ∙ sym (map-append (λ m. get_or distinct m []) (take i marks) (get_or marks i 0 ∷ [])) ∙ sym (ap (marked distinct) (take_more marks i 0 within)))

-- one more list is among the chosen ones
module _ {A : Type 0} (distinct chosen : List (List A)) (places : List (Option ℕ)) (mark : ℕ) (is : AreRenamed distinct places chosen) (within : mark < length distinct) where
  found : (later : List (Option ℕ)) → later ≡ set places mark (Some (length chosen)) → (other place : ℕ) → get_or later other None ≡ Some place →
      (place < length (chosen ++ get_or distinct mark [] ∷ [])) × (get_or (chosen ++ get_or distinct mark [] ∷ []) place [] ≡ get_or distinct other [])
  found later put other place e = elim (cases_eq other mark) [
    | inl same ↦
        let l : mark < length places = subst (λ n. mark < n) (sym is.sized) within in
        let now : Some place ≡ Some (length chosen) = sym e ∙ ap₂ (λ ps n. get_or ps n None) put same ∙ get_or-set_same places mark (Some (length chosen)) None l in
        let at : place ≡ length chosen = cc in
        let grown : length (chosen ++ get_or distinct mark [] ∷ []) ≡ length chosen + 1 = length-append chosen (get_or distinct mark [] ∷ []) in
        (omega arith, get_or_push chosen (get_or distinct mark []) [] place (sym at) ∙ ap (λ n. get_or distinct n []) (sym same))
    | inr other_one ↦
        let before : get_or places other None ≡ Some place = sym (ap (λ ps. get_or ps other None) put ∙ get_or-set_other places mark other (Some (length chosen)) None other_one) ∙ e in
        let w = is.at other place before in
        let grown : length (chosen ++ get_or distinct mark [] ∷ []) ≡ length chosen + 1 = length-append chosen (get_or distinct mark [] ∷ []) in
        let l : place < length chosen = w.0 in
        (omega arith, get_or_append_left chosen (get_or distinct mark [] ∷ []) [] place l ∙ w.1)
  ]

  pub renamed_more : (later : List (Option ℕ)) (grown : List (List A)) → later ≡ set places mark (Some (length chosen)) → grown ≡ chosen ++ get_or distinct mark [] ∷ [] → AreRenamed distinct later grown
  renamed_more later grown put pushed = record {
    sized = ap length put ∙ length-set places mark (Some (length chosen)) ∙ is.sized;
    at = subst (λ lists. (other place : ℕ) → get_or later other None ≡ Some place → (place < length lists) × (get_or lists place [] ≡ get_or distinct other [])) (sym pushed) (found later put);
  }

pub renamed_none : {A : Type 0} (distinct chosen : List (List A)) (places : List (Option ℕ)) → length places ≡ length distinct → ((mark : ℕ) → get_or places mark None ≡ None) → AreRenamed distinct places chosen
renamed_none distinct chosen places sized none = record {
  sized = sized;
  at = λ mark place e. let differ : None ≡ Some place = sym (none mark) ∙ e in absurd cc;
}
