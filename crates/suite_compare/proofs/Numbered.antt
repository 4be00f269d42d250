-- Kinds and pairs of kinds, numbered as they came.
use Rattle.std.{proofs.Common.{◌≡◌, ℕ, ◌<◌, ◌+◌, List, [], ◌∷◌, ◌++◌, inl, inr, length, get_or, map, sym, ◌∙◌, ap, ap₂, subst, arith, position, nat_eq, Some}, specs.Cmp.Lexicographic.{pointwise}, proofs.lemmas.List.{length-map, length_push, get_or-map, get_or_push, get_or_append_left, map-append}}
use Rattle.listed.{specs.Lists.{In}, proofs.Lists.{In_at, In_map_cases, In_none}}
use Rattle.row_book.specs.Book.{listed_for}
use Rattle.class_merge.proofs.Places.{place_some}
use Rattle.suite_compare.{specs.Kinds.{kind_pair_key, ArePaired, AreKinds, AreNumbered}, proofs.Groups.{each_more, each_none, each_weaker, In_last}}

pub numbered_none : (key : ℕ → List ℕ) (seen : List (List ℕ)) (firsts of : List ℕ) → seen ≡ [] → firsts ≡ [] → of ≡ [] → AreNumbered key 0 seen firsts of
numbered_none key seen firsts of s f o = record { are = s ∙ sym (ap (map key) f); below = λ i j. absurd (In_none (subst (λ z. In i z) f j)); each = each_none _ 0 of o }

module _ (key : ℕ → List ℕ) (n k : ℕ) (item : List ℕ) (seen : List (List ℕ)) (firsts of new_of : List ℕ) (is : key n ≡ item) (put : new_of ≡ of ++ k ∷ []) (so : AreNumbered key n seen firsts of) where
  abbrev Right : List ℕ → ℕ → ℕ → Type 0
  Right all i v = (v < length all) × (key (get_or all v 0) ≡ key i)

  long : length seen ≡ length firsts
  long = ap length so.are ∙ length-map firsts key

  -- an item whose key was seen
  pub numbered_old : position (pointwise nat_eq item) seen ≡ Some k → AreNumbered key (n + 1) seen firsts new_of
  numbered_old found =
      let at : (k < length seen) × (get_or seen k [] ≡ item) = place_some item seen k found in
      let l : k < length firsts = subst (λ z. k < z) long at.0 in
      let e : key (get_or firsts k 0) ≡ key n = sym (get_or-map key firsts k 0 [] l) ∙ sym (ap (λ z. get_or z k []) so.are) ∙ at.1 ∙ sym is in
      record { are = so.are; below = λ i j. let m : i < n = so.below i j in omega arith; each = each_more (Right firsts) 0 n of new_of k put (l, e) so.each }

  -- and one with a new key
  pub numbered_new : (more : List (List ℕ)) (new_firsts : List ℕ) → k ≡ length seen → more ≡ seen ++ item ∷ [] → new_firsts ≡ firsts ++ n ∷ [] → AreNumbered key (n + 1) more new_firsts new_of
  numbered_new more new_firsts last pushed first =
      let longer : length new_firsts ≡ length firsts + 1 = ap length first ∙ length_push firsts n in
      let e : key (get_or new_firsts k 0) ≡ key n = ap (λ z. key (get_or z k 0)) first ∙ ap key (get_or_push firsts n 0 k (sym (last ∙ long))) in
      let l : k < length new_firsts = omega (arith, last, long, longer) in
      let grows : (i v : ℕ) → Right firsts i v → Right new_firsts i v = λ i v w. (omega (arith, w.0, longer), ap (λ z. key (get_or z v 0)) first ∙ ap key (get_or_append_left firsts (n ∷ []) 0 v w.0) ∙ w.1) in
      record {
        are = pushed ∙ ap₂ (λ xs x. xs ++ x ∷ []) so.are (sym is) ∙ sym (ap (map key) first ∙ map-append key firsts (n ∷ []));
        below = λ i j. elim (In_last firsts new_firsts n i first j) [ inl o ↦ let m : i < n = so.below i o in omega arith | inr same ↦ omega arith ];
        each = each_more (Right new_firsts) 0 n of new_of k put (l, e) (each_weaker (Right firsts) (Right new_firsts) 0 n of grows so.each);
      }

-- the lists that come first are the kinds
pub kinds_from : (lists kinds seen : List (List ℕ)) (firsts of : List ℕ) → kinds ≡ map (listed_for lists) firsts → AreNumbered (listed_for lists) (length lists) seen firsts of → AreKinds lists kinds of
kinds_from lists kinds seen firsts of made so = record {
  long = so.each.long;
  within = λ i l. subst (λ z. get_or of i 0 < z) (sym (ap length made ∙ length-map firsts (listed_for lists))) (so.each.each i l).0;
  each = λ i l. let w = so.each.each i l in ap (λ z. listed_for z (get_or of i 0)) made ∙ get_or-map (listed_for lists) firsts (get_or of i 0) 0 [] w.0 ∙ w.1;
  only = λ c i. let w = In_map_cases (listed_for lists) firsts c (subst (λ z. In c z) made i) in subst (λ z. In z lists) (sym w.2) (In_at lists w.0 [] (so.below w.0 w.1));
}

two_same : (a b c d : ℕ) → a ∷ (b ∷ []) ≡ c ∷ (d ∷ []) → (a ≡ c) × (b ≡ d)
two_same a b c d e = (cc, cc)

-- what is taken where each pair comes first: one side of it
module _ (side taken firsts : List ℕ) (is : taken ≡ map (λ i. get_or side i 0) firsts) where
  taken_long : length taken ≡ length firsts
  taken_long = ap length is ∙ length-map firsts (λ i. get_or side i 0)

  taken_at : (k : ℕ) → k < length firsts → get_or taken k 0 ≡ get_or side (get_or firsts k 0) 0
  taken_at k l = ap (λ z. get_or z k 0) is ∙ get_or-map (λ i. get_or side i 0) firsts k 0 0 l

  taken_only : ((i : ℕ) → In i firsts → i < length side) → (k : ℕ) → In k taken → In k side
  taken_only below k j = let w = In_map_cases (λ i. get_or side i 0) firsts k (subst (λ z. In k z) is j) in subst (λ z. In z side) (sym w.2) (In_at side w.0 0 (below w.0 w.1))

pub paired_from : (old_of new_of olds news : List ℕ) (seen : List (List ℕ)) (firsts of : List ℕ) → length old_of ≡ length new_of → olds ≡ map (λ i. get_or old_of i 0) firsts → news ≡ map (λ i. get_or new_of i 0) firsts
    → AreNumbered (kind_pair_key old_of new_of) (length old_of) seen firsts of → ArePaired old_of new_of olds news of
paired_from old_of new_of olds news seen firsts of same os ns so = record {
  long = so.each.long ∙ same;
  same = taken_long old_of olds firsts os ∙ sym (taken_long new_of news firsts ns);
  within = λ i l. subst (λ z. get_or of i 0 < z) (sym (taken_long new_of news firsts ns)) (at i l).0;
  each_old = λ i l. taken_at old_of olds firsts os (get_or of i 0) (at i l).0 ∙ (two_same _ _ _ _ (at i l).1).0;
  each_new = λ i l. taken_at new_of news firsts ns (get_or of i 0) (at i l).0 ∙ (two_same _ _ _ _ (at i l).1).1;
  only_old = taken_only old_of olds firsts os so.below;
  only_new = taken_only new_of news firsts ns (λ i j. subst (λ z. i < z) same (so.below i j));
}
  where
    at : (i : ℕ) → i < length new_of → (get_or of i 0 < length firsts) × (kind_pair_key old_of new_of (get_or firsts (get_or of i 0) 0) ≡ kind_pair_key old_of new_of i)
    at i l = so.each.each i (subst (λ z. i < z) (sym same) l)
