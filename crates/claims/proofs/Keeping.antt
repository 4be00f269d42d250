-- Items that are kept, one after another, as the code keeps them.
use Rattle.std.proofs.Common.{◌≡◌, Bool, true, false, List, [], ◌∷◌, ◌++◌, map, refl, sym, ap, subst, ◌∙◌, append_assoc, inl, inr}
use Rattle.std.proofs.lemmas.List.{append-nil, map-append}
use Rattle.std.specs.Prelude.{◌↔◌}
use Rattle.clause_solver.specs.{declared.outcomes.Verdict.{Verdict}, declared.outcomes.Verdict.TheVariants.{Yes, No, Spent}}
use Rattle.explain_core.specs.Deletion.{KeptItem, items_of, kept, kept_behind, kept_by, kept_of}
use Rattle.listed.specs.Lists.{In, there}
use Rattle.listed.proofs.Lists.{In_append_cases, In_append_left, In_append_right}
use Rattle.claims.specs.Explained.{AreKept, none, left_out, stays}

-- by the verdict on the others: an item is left out after a no, kept after a yes, and open if the search was spent
module _ {X : Type 0} (f : List X → Verdict) where
  abbrev AreSpent : List X → List X → List (KeptItem X) → Type 0
  AreSpent before after rest = AreKept (λ k. k.item) (λ k. k.unsettled) (λ xs. f xs ≡ Spent) (λ xs. f xs ≡ Yes) before after rest

  abbrev KeptBehind : List (KeptItem X) → List X → Type 0
  KeptBehind before after = (rest : List (KeptItem X)) × (kept_behind f before after ≡ before ++ rest) × AreSpent (items_of before) after rest

  pub kept_rest : (before : List (KeptItem X)) (after : List X) → KeptBehind before after
  unfolding kept_behind
  kept_rest before [] = ([], sym (append-nil before), none)
  kept_rest before (x ∷ after) = go (f (items_of before ++ after)) refl (λ b. kept_rest b after)
    where
      stay : (b : Bool) → ((b ≡ true) ↔ (f (items_of before ++ after) ≡ Spent)) → (b ≡ false → f (items_of before ++ after) ≡ Yes) → KeptBehind (before ++ kept x b ∷ []) after
          → (rest : List (KeptItem X)) × (kept_behind f (before ++ kept x b ∷ []) after ≡ before ++ rest) × AreSpent (items_of before) (x ∷ after) rest
      stay b same could w = (
        kept x b ∷ w.0,
        w.1 ∙ append_assoc before (kept x b ∷ []) w.0,
        stays same could (subst (λ xs. AreSpent xs after w.0) (map-append (λ (k : KeptItem X). k.item) before (kept x b ∷ [])) w.2),
      )

      go : (v : Verdict) → f (items_of before ++ after) ≡ v → ((b : List (KeptItem X)) → KeptBehind b after)
          → (rest : List (KeptItem X)) × (kept_behind f (before ++ kept_by x v) after ≡ before ++ rest) × AreSpent (items_of before) (x ∷ after) rest
      go No e more =
          let w = more (before ++ []) in
          (w.0, w.1 ∙ ap (λ (b : List (KeptItem X)). b ++ w.0) (append-nil before), left_out (λ h. (let wrong : No ≡ Spent = sym e ∙ h in cc)) (λ h. (let wrong : No ≡ Yes = sym e ∙ h in cc)) (subst (λ (b : List (KeptItem X)). AreSpent (items_of b) after w.0) (append-nil before) w.2))
      go Yes e more = stay false ((λ h. absurd (let wrong : ⊥ = cc in wrong)), (λ h. absurd (let wrong : ⊥ = cc in wrong))) (λ h. e) (more (before ++ kept x false ∷ []))
      go Spent e more = stay true ((λ h. e), (λ h. refl)) (λ h. absurd (let wrong : ⊥ = cc in wrong)) (more (before ++ kept x true ∷ []))

  pub kept_all_spent : (items : List X) → AreSpent [] items (kept_of f items)
  kept_all_spent items = let w = kept_rest [] items in subst (AreSpent [] items) (sym w.1) w.2

-- a search for some items and one for them in other words: both are too long, or neither; and in time both can be had, or neither
pub record IsSame {X V : Type 0} (h : X → V) (P : List X → Type 0) (Q : List V → Type 0) (C : List X → Type 0) (D : List V → Type 0) (xs : List X) : Type 0 where
  pub long : P xs ↔ Q (map h xs)
  pub could : C xs → D (map h xs)
  pub cannot : ¬ (P xs) → ¬ (C xs) → ¬ (D (map h xs))

-- items in other words
module _ {X Y V W : Type 0} (h : X → V) (g : Y → W) (item : Y → X) (is_open : Y → Bool) (word : W → V) (is_open_word : W → Bool) (P : List X → Type 0) (Q : List V → Type 0) (C : List X → Type 0) (D : List V → Type 0)
    (items : (y : Y) → h (item y) ≡ word (g y)) (marks : (y : Y) → is_open_word (g y) ≡ is_open y) where
  abbrev AreSame : List X → List X → Type 0
  AreSame before after = (xs : List X) → ((x : X) → In x xs → In x (before ++ after)) → IsSame h P Q C D xs

  less : (before after : List X) (x : X) → AreSame before (x ∷ after) → AreSame before after
  less before after x same xs inside = same xs (λ z i. elim (In_append_cases before after z (inside z i)) [ inl a ↦ In_append_left before (x ∷ after) z a | inr b ↦ In_append_right before (x ∷ after) z (there b) ])

  pub kept_so : (before after : List X) (ys : List Y) → AreSame before after → AreKept item is_open P C before after ys → AreKept word is_open_word Q D (map h before) (map h after) (map g ys)
  kept_so before after ys same none = none
  kept_so before after ys same (left_out {after = more} {x = x} short none_else rest) =
      let all = less before more x same (before ++ more) (λ z i. i) in
      left_out (λ q. short (all.long.1 (subst Q (sym (map-append h before more)) q))) (λ d. all.cannot short none_else (subst D (sym (map-append h before more)) d)) (kept_so before more ys (less before more x same) rest)
  kept_so before after ys same (stays {after = more} {y = y} {kept = ks} open_so could rest) =
      let all = less before more (item y) same (before ++ more) (λ z i. i) in
      let there : AreKept word is_open_word Q D (map h (before ++ item y ∷ [])) (map h more) (map g ks)
      = kept_so (before ++ item y ∷ []) more ks (λ xs inside. same xs (λ z i. subst (In z) (append_assoc before (item y ∷ []) more) (inside z i))) rest in
      let moved : map h (before ++ item y ∷ []) ≡ map h before ++ word (g y) ∷ [] = map-append h before (item y ∷ []) ∙ ap (λ z. map h before ++ z ∷ []) (items y) in
      let split : map h (before ++ more) ≡ map h before ++ map h more = map-append h before more in
      let is_so : (is_open_word (g y) ≡ true) ↔ Q (map h before ++ map h more) = (
        (λ e. subst Q split (all.long.0 (open_so.0 (sym (marks y) ∙ e)))),
        (λ q. marks y ∙ open_so.1 (all.long.1 (subst Q (sym split) q))),
      ) in
      subst (λ z. AreKept word is_open_word Q D (map h before) (z ∷ map h more) (g y ∷ map g ks)) (sym (items y))
      (stays is_so (λ e. subst D split (all.could (could (sym (marks y) ∙ e)))) (subst (λ b. AreKept word is_open_word Q D b (map h more) (map g ks)) moved there))
