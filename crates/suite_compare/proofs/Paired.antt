-- The lines of pairs: the names of which something is told beside those of a pair of kinds, and their places.
use Rattle.std.{proofs.Common.{◌≡◌, ℕ, ◌<◌, Bool, true, false, cond, List, [], inl, inr, length, get_or, refl, sym, ◌∙◌, ap, ap₂, subst, Option, Some, None, ◌+◌, ◌∷◌, ◌++◌, map, filter, ltb, arith}, specs.Prelude.{is_some}, specs.List.{flat_map, range_with_len}, proofs.lemmas.Bool.{cases_Bool, both_ways, false≢true, lt-ltb, le-ltb}, proofs.lemmas.List.{flat_map_more}, proofs.lemmas.List.Folds.{flat_map-map}, proofs.lemmas.List.FromFn.{fill_by_all}}
use Rattle.listed.{proofs.Lists.{In_flat_cases, In_flat, In_none, In_has, has_In, flat_same, filter_from, filter_cases, filter_same, In_at}, specs.Lists.{In, has, Ascending, here, there}, proofs.Orders.{ascending_same, ascending_filter}, proofs.Numbers.{number_kept, number_left}}
use Rattle.row_book.specs.Book.{listed_for}
use Rattle.repo_model.proofs.Elements.{range_ascending, range_cases, range_from}
use Rattle.clause_solver.{specs.declared.outcomes.Verdict.{Verdict}, specs.declared.outcomes.Verdict.TheVariants.{Yes, No, Spent}}
use Rattle.suite_compare.{specs.Bad.{AreBad, AreAllBad}, specs.Kinds.{alone_in, together_in, ArePaired}, specs.Partners.{beside, beside_all, is_open, new_kind, old_kind, ArePartners, IsKindPairTable}, specs.Report.{finding, is_yes, pair_line, with_later}, specs.Telling.{found_beside, partners_at, told_after, told_pair}, specs.declared.gather.KindPairTable.{KindPairTable}, specs.declared.gather.Partners.{Partners}, specs.declared.report.Finding.{Finding}, specs.declared.report.Finding.TheVariants.{Broken, Open}, specs.declared.verdicts.Bad.{Bad}, specs.declared.judge.Judge.{Judge}, specs.Comparing.{told_pairs, goes_alone, IsSide, IsTable}, specs.Sided.{AreVerdicts}, specs.declared.report.ReportLine.{ReportLine}, specs.declared.side.Side.{Side}}
use Rattle.clause_pool.proofs.Lists.{In_place}

finding_yes : (v : Verdict) → finding v Yes ≡ None
finding_yes Yes = refl
finding_yes No = refl
finding_yes Spent = refl

-- what is told of two pairs of kinds
abbrev pub pair_finding : Judge → Judge → KindPairTable → ℕ → ℕ → Option Finding
pair_finding old new table a b = finding (together_in old (old_kind table a) (old_kind table b)) (together_in new (new_kind table a) (new_kind table b))

-- whether a pair of kinds goes by itself in the new suite
abbrev pub is_single : Judge → KindPairTable → ℕ → Bool
is_single new table b = is_yes (alone_in new (new_kind table b))

-- the partners, by what is told
pub record PartnersSay (kind_pair_of : List ℕ) (ok : ℕ → Bool) (pair : ℕ → Option Finding) (partners : Partners) : Type 0 where
  pub told_ascending : Ascending partners.told
  pub within : (j : ℕ) → In j partners.told → j < length kind_pair_of
  pub single : (j : ℕ) → In j partners.told → ok (get_or kind_pair_of j 0) ≡ true
  pub found : (j : ℕ) → In j partners.told → pair (get_or kind_pair_of j 0) ≡ Some (found_beside partners j)
  pub all : (j : ℕ) → j < length kind_pair_of → ok (get_or kind_pair_of j 0) ≡ true → (f : Finding) → pair (get_or kind_pair_of j 0) ≡ Some f → In j partners.told

picked_cases : (b : Bool) (names : List ℕ) (j : ℕ) → In j (cond b names []) → (b ≡ true) × In j names
picked_cases true names j i = (refl, i)
picked_cases false names j i = absurd (In_none i)

module _ (old new : Judge) (table : KindPairTable) (a : ℕ) (list : List Bad) (fits : IsKindPairTable table) (bad_of : AreBad new (new_kind table a) list) where
  abbrev kind_pair : ℕ → ℕ
  kind_pair j = get_or table.kind_pairs.pair_of.items j 0

  abbrev gathered : (Option Finding → Bool) → List ℕ
  gathered wanted = flat_map (beside_all wanted old table (old_kind table a)) list

  gathered_cases : (wanted : Option Finding → Bool) (j : ℕ) → In j (gathered wanted) → (j < length table.kind_pairs.pair_of.items) × (is_single new table (kind_pair j) ≡ true) × (wanted (pair_finding old new table a (kind_pair j)) ≡ true)
  gathered_cases wanted j i =
      let w = In_flat_cases (beside_all wanted old table (old_kind table a)) list j i in
      let v = In_flat_cases (beside wanted old table (old_kind table a) w.0.verdict) (listed_for table.by_new.items w.0.kind) j w.2 in
      let t = picked_cases (wanted (finding (together_in old (old_kind table a) (old_kind table v.0)) w.0.verdict)) (listed_for table.members.items v.0) j v.2 in
      let at : (j < length table.kind_pairs.pair_of.items) × (kind_pair j ≡ v.0) = fits.placed.only v.0 j t.1 in
      let e : new_kind table (kind_pair j) ≡ w.0.kind = ap (new_kind table) at.1 ∙ (fits.sorted.only w.0.kind v.0 v.1).1 in (
        at.0,
        subst (λ z. is_yes (alone_in new z) ≡ true) (sym e) (bad_of.single w.0 w.1),
        ap wanted (ap₂ finding (ap (λ z. together_in old (old_kind table a) (old_kind table z)) at.1) (ap (together_in new (new_kind table a)) e ∙ sym (bad_of.verdict w.0 w.1))) ∙ t.0,
      )

  gathered_from : (wanted : Option Finding → Bool) (j : ℕ) → wanted None ≡ false → is_single new table a ≡ true → j < length table.kind_pairs.pair_of.items → kind_pair j < length table.kind_pairs.new.items → new_kind table (kind_pair j) < length new.kinds.items
      → is_single new table (kind_pair j) ≡ true → wanted (pair_finding old new table a (kind_pair j)) ≡ true → In j (gathered wanted)
  gathered_from wanted j none by_itself l below within single t = elim (bad_of.whole by_itself (new_kind table (kind_pair j)) within single) [
    | inl w ↦ In_flat (beside_all wanted old table (old_kind table a)) list w.0 j w.1
        (In_flat (beside wanted old table (old_kind table a) w.0.verdict) (listed_for table.by_new.items w.0.kind) (kind_pair j) j
        (subst (λ z. In (kind_pair j) (listed_for table.by_new.items z)) (sym w.2) (fits.sorted.all (kind_pair j) below))
        (subst (λ b. In j (cond b (listed_for table.members.items (kind_pair j)) []))
        (sym (ap (λ z. wanted (finding (together_in old (old_kind table a) (old_kind table (kind_pair j))) z)) (bad_of.verdict w.0 w.1 ∙ ap (together_in new (new_kind table a)) w.2) ∙ t)) (fits.placed.all j l)))
    | inr y ↦ let o : Verdict = together_in old (old_kind table a) (old_kind table (kind_pair j)) in
        absurd (both_ways (wanted (pair_finding old new table a (kind_pair j))) (ap (λ z. wanted (finding o z)) y ∙ ap wanted (finding_yes o) ∙ none) t)
  ]

  pub partners_say : (partners : Partners) → is_single new table a ≡ true → ((j : ℕ) → j < length table.kind_pairs.pair_of.items → kind_pair j < length table.kind_pairs.new.items)
      → ((b : ℕ) → b < length table.kind_pairs.new.items → new_kind table b < length new.kinds.items) → ArePartners old table (old_kind table a) list partners
      → PartnersSay table.kind_pairs.pair_of.items (is_single new table) (pair_finding old new table a) partners
  partners_say partners by_itself kind_pairs kinds so = record {
    told_ascending = so.told_ascending;
    within = λ j i. (gathered_cases is_some j ((so.told j).0 i)).0;
    single = λ j i. (gathered_cases is_some j ((so.told j).0 i)).1;
    found = λ j i. let w = gathered_cases is_some j ((so.told j).0 i) in is_found j w.0 w.1 (pair_finding old new table a (kind_pair j)) refl w.2;
    all = λ j l single f e. (so.told j).1 (from is_some j refl l single (ap is_some e));
  }
    where
      from : (wanted : Option Finding → Bool) (j : ℕ) → wanted None ≡ false → j < length table.kind_pairs.pair_of.items → is_single new table (kind_pair j) ≡ true → wanted (pair_finding old new table a (kind_pair j)) ≡ true → In j (gathered wanted)
      from wanted j none l single t = gathered_from wanted j none by_itself l (kind_pairs j l) (kinds (kind_pair j) (kind_pairs j l)) single t

      is_found : (j : ℕ) → j < length table.kind_pairs.pair_of.items → is_single new table (kind_pair j) ≡ true → (f : Option Finding) → pair_finding old new table a (kind_pair j) ≡ f → is_some f ≡ true → f ≡ Some (found_beside partners j)
      is_found j l single None e t = absurd (false≢true t)
      is_found j l single (Some Open) e t = rw (In_has ((so.undecided_told j).1 (from is_open j refl l single (ap is_open e)))) refl
      is_found j l single (Some Broken) e t = elim (cases_Bool (has partners.undecided j)) [
        | inl h ↦ absurd (both_ways (is_open (pair_finding old new table a (kind_pair j))) (ap is_open e) (gathered_cases is_open j ((so.undecided_told j).0 (has_In partners.undecided j h))).2)
        | inr n ↦ rw n refl
      ]

  pub partners_within : (partners : Partners) → ArePartners old table (old_kind table a) list partners → (j : ℕ) → In j partners.told → j < length table.kind_pairs.pair_of.items
  partners_within partners so j i = (gathered_cases is_some j ((so.told j).0 i)).0

-- what is listed for one of n items is below what each of theirs is below
pub listed_below : (of : List ℕ) (n size : ℕ) → length of ≡ n → ((i : ℕ) → i < n → get_or of i 0 < size) → (k : ℕ) → In k of → k < size
listed_below of n size long within k j = let p : (i : ℕ) × (i < length of) × (get_or of i 0 ≡ k) = In_place of k 0 j in subst (λ z. z < size) p.2 (within p.0 (subst (λ z. p.0 < z) long p.1))

-- the steps of the loop over names that go by themselves
pub kept_more : {X : Type 0} (f : ℕ → List X) (p : ℕ → Bool) (initial lines new : List X) (n : ℕ) → p n ≡ true → new ≡ lines ++ f n → lines ≡ initial ++ flat_map f (filter p (range_with_len 0 n)) → new ≡ initial ++ flat_map f (filter p (range_with_len 0 (n + 1)))
kept_more f p initial lines new n passes e so =
    e ∙ ap (λ z. z ++ f n) so ∙ flat_map_more f initial (filter p (range_with_len 0 n)) n
    ∙ ap (λ z. initial ++ flat_map f z) (number_kept p n (filter p (range_with_len 0 n)) (filter p (range_with_len 0 n) ++ n ∷ []) passes refl refl)

pub kept_skip : {X : Type 0} (f : ℕ → List X) (p : ℕ → Bool) (initial lines : List X) (n : ℕ) → p n ≡ false → lines ≡ initial ++ flat_map f (filter p (range_with_len 0 n)) → lines ≡ initial ++ flat_map f (filter p (range_with_len 0 (n + 1)))
kept_skip f p initial lines n fails so = so ∙ ap (λ z. initial ++ flat_map f z) (number_left p n (filter p (range_with_len 0 n)) fails refl)

filter_of_map : {A B : Type 0} (p : B → Bool) (g : A → B) (xs : List A) → filter p (map g xs) ≡ map g (filter (λ x. p (g x)) xs)
filter_of_map p g [] = refl
filter_of_map p g (x ∷ xs) = elim (cases_Bool (p (g x))) [
  | inl t ↦ rw t (ap (λ z. g x ∷ z) (filter_of_map p g xs))
  | inr f ↦ rw f (filter_of_map p g xs)
]

later_of_map : {A B : Type 0} (h : B → B → List ReportLine) (g : A → B) (xs : List A) → with_later h (map g xs) ≡ with_later (λ x y. h (g x) (g y)) xs
later_of_map h g [] = refl
later_of_map h g (x ∷ xs) = ap₂ (λ a b. a ++ b) (flat_map-map (h (g x)) g xs) (later_of_map h g xs)

-- items that give nothing may be left out
flat_skip : {A X : Type 0} (f : A → List X) (q : A → Bool) (xs : List A) → ((x : A) → In x xs → q x ≡ false → f x ≡ []) → flat_map f xs ≡ flat_map f (filter q xs)
flat_skip f q [] h = refl
flat_skip f q (x ∷ xs) h = elim (cases_Bool (q x)) [
  | inl t ↦ rw t (ap (λ z. f x ++ z) (flat_skip f q xs (λ y i. h y (there i))))
  | inr n ↦ rw (n, h x here n) (flat_skip f q xs (λ y i. h y (there i)))
]

-- so of an ascending list only those matter that another one has
flat_told : {X : Type 0} (f g : ℕ → List X) (xs ys : List ℕ) → Ascending xs → Ascending ys → ((x : ℕ) → In x xs → has ys x ≡ false → f x ≡ []) → ((y : ℕ) → In y ys → In y xs × (f y ≡ g y)) → flat_map f xs ≡ flat_map g ys
flat_told f g xs ys a b none same =
    flat_skip f (has ys) xs none
    ∙ ap (flat_map f) (ascending_same (filter (has ys) xs) ys (ascending_filter (has ys) xs a) b (λ j k. has_In ys j (filter_cases (has ys) xs j k).1) (λ j k. filter_from (has ys) xs j (same j k).0 (In_has k)))
    ∙ flat_same f g ys (λ j k. (same j k).1)

-- the items behind an item of an ascending list are the greater ones
all_pass : (p : ℕ → Bool) (xs : List ℕ) → ((x : ℕ) → In x xs → p x ≡ true) → filter p xs ≡ xs
all_pass p [] h = refl
all_pass p (x ∷ xs) h = rw (h x here) (ap (λ z. x ∷ z) (all_pass p xs (λ y i. h y (there i))))

later_ascending : (h : ℕ → ℕ → List ReportLine) (xs : List ℕ) → Ascending xs → with_later h xs ≡ flat_map (λ i. flat_map (h i) (filter (ltb i) xs)) xs
later_ascending h [] a = refl
later_ascending h (x ∷ xs) a =
    ap₂ (λ s t. s ++ t)
    (ap (flat_map (h x)) (sym (ap (λ b. cond b (x ∷ filter (ltb x) xs) (filter (ltb x) xs)) (le-ltb x x (omega arith)) ∙ all_pass (ltb x) xs (λ y i. lt-ltb x y (a.0 y i)))))
    (later_ascending h xs a.1
    ∙ flat_same (λ i. flat_map (h i) (filter (ltb i) xs)) (λ i. flat_map (h i) (filter (ltb i) (x ∷ xs))) xs
    (λ i j. ap (flat_map (h i)) (sym (ap (λ b. cond b (x ∷ filter (ltb i) xs) (filter (ltb i) xs)) (le-ltb i x (let l : x < i = a.0 i j in omega arith))))))

-- the lines that are told of pairs of names are those of their verdicts
module _ (names : List (List ℕ)) (old new : Side) (old_of : List ℕ) (table : KindPairTable) (bad : List (List Bad)) (lists : List Partners) (v w : List (List ℕ) → Verdict)
    (old_is : IsSide (length names) old old_of) (new_is : IsSide (length names) new new.kind_of.items) (paired : ArePaired old_of new.kind_of.items table.kind_pairs.old.items table.kind_pairs.new.items table.kind_pairs.pair_of.items) (fits : IsKindPairTable table) (bads : AreAllBad new.judge bad)
    (tabled : IsTable old.judge table bad lists) (old_verdicts : AreVerdicts old old_of names v) (new_verdicts : AreVerdicts new new.kind_of.items names w) where
  abbrev kind_pair_of : List ℕ
  kind_pair_of = table.kind_pairs.pair_of.items

  abbrev ok : ℕ → Bool
  ok = is_single new.judge table

  abbrev pair : ℕ → ℕ → Option Finding
  pair = pair_finding old.judge new.judge table

  long : length kind_pair_of ≡ length names
  long = paired.long ∙ new_is.long

  within_new : (i : ℕ) → i < length names → i < length new.kind_of.items
  within_new i l = subst (λ z. i < z) (sym new_is.long) l

  kind_pair_below : (i : ℕ) → i < length names → get_or kind_pair_of i 0 < length table.kind_pairs.new.items
  kind_pair_below i l = paired.within i (within_new i l)

  news_within : (b : ℕ) → b < length table.kind_pairs.new.items → new_kind table b < length new.judge.kinds.items
  news_within b l = listed_below new.kind_of.items (length names) (length new.judge.kinds.items) new_is.long new_is.within (new_kind table b) (paired.only_new (new_kind table b) (In_at table.kind_pairs.new.items b 0 l))

  oks : (i : ℕ) → i < length names → ok (get_or kind_pair_of i 0) ≡ goes_alone new i
  oks i l = ap (λ k. is_yes (alone_in new.judge k)) (paired.each_new i (within_new i l))

  pairs : (i j : ℕ) → i < length names → j < length names → pair (get_or kind_pair_of i 0) (get_or kind_pair_of j 0) ≡ finding (v (listed_for names i ∷ (listed_for names j ∷ []))) (w (listed_for names i ∷ (listed_for names j ∷ [])))
  pairs i j l m = ap₂ finding
      (ap₂ (together_in old.judge) (paired.each_old i (within_new i l)) (paired.each_old j (within_new j m)) ∙ sym (old_verdicts.pair i j l m))
      (ap₂ (together_in new.judge) (paired.each_new i (within_new i l)) (paired.each_new j (within_new j m)) ∙ sym (new_verdicts.pair i j l m))

  say : (i : ℕ) → i < length names → ok (get_or kind_pair_of i 0) ≡ true → PartnersSay kind_pair_of ok (pair (get_or kind_pair_of i 0)) (partners_at lists (get_or kind_pair_of i 0))
  say i l yes_it =
      let a : ℕ = get_or kind_pair_of i 0 in
      partners_say old.judge new.judge table a (get_or bad (new_kind table a) []) fits (bads.each (new_kind table a) (news_within a (kind_pair_below i l))) (partners_at lists a) yes_it
      (λ j m. kind_pair_below j (subst (λ z. j < z) long m)) news_within (tabled.each a (kind_pair_below i l))

  abbrev line : ℕ → ℕ → List ReportLine
  line i j = pair_line (listed_for names i) (listed_for names j) (finding (v (listed_for names i ∷ (listed_for names j ∷ []))) (w (listed_for names i ∷ (listed_for names j ∷ []))))

  abbrev found : List ℕ
  found = filter (goes_alone new) (range_with_len 0 (length names))

  inside : (i : ℕ) → In i found → (i < length names) × (ok (get_or kind_pair_of i 0) ≡ true)
  inside i h =
      let c = filter_cases (goes_alone new) (range_with_len 0 (length names)) i h in
      let p = range_cases (length names) 0 i c.0 in
      let l : i < length names = omega (arith, p.1) in
      (l, oks i l ∙ c.1)

  found_ascending : Ascending found
  found_ascending = ascending_filter (goes_alone new) (range_with_len 0 (length names)) (range_ascending (length names) 0)

  module _ (i : ℕ) (h : In i found) where
    abbrev partners : Partners
    partners = partners_at lists (get_or kind_pair_of i 0)

    so : PartnersSay kind_pair_of ok (pair (get_or kind_pair_of i 0)) partners
    so = say i (inside i h).0 (inside i h).1

    none_told : (f : Option Finding) (j : ℕ) → j < length names → ok (get_or kind_pair_of j 0) ≡ true → pair (get_or kind_pair_of i 0) (get_or kind_pair_of j 0) ≡ f → (In j partners.told → ⊥) → f ≡ None
    none_told None j l o e n = refl
    none_told (Some g) j l o e n = absurd (n (so.all j (subst (λ z. j < z) (sym long) l) o g e))

    nothing : (j : ℕ) → In j (filter (ltb i) found) → has (filter (ltb i) partners.told) j ≡ false → line i j ≡ []
    nothing j k n =
        let c = filter_cases (ltb i) found j k in
        let s = inside j c.0 in
        ap (pair_line (listed_for names i) (listed_for names j)) (sym (pairs i j (inside i h).0 s.0)
        ∙ none_told (pair (get_or kind_pair_of i 0) (get_or kind_pair_of j 0)) j s.0 s.1 refl (λ t. both_ways (has (filter (ltb i) partners.told) j) n (In_has (filter_from (ltb i) partners.told j t c.1))))

    told : (j : ℕ) → In j (filter (ltb i) partners.told) → In j (filter (ltb i) found) × (line i j ≡ told_pair names partners i j)
    told j k =
        let a = filter_cases (ltb i) partners.told j k in
        let l : j < length names = subst (λ z. j < z) long (so.within j a.0) in (
          filter_from (ltb i) found j (filter_from (goes_alone new) (range_with_len 0 (length names)) j (range_from (length names) 0 j (omega arith) (omega arith)) (sym (oks j l) ∙ so.single j a.0)) a.1,
          ap (pair_line (listed_for names i) (listed_for names j)) (sym (pairs i j (inside i h).0 l) ∙ so.found j a.0),
        )

    after : flat_map (line i) (filter (ltb i) found) ≡ told_after names kind_pair_of lists i
    after = flat_told (line i) (told_pair names partners i) (filter (ltb i) found) (filter (ltb i) partners.told) (ascending_filter (ltb i) found found_ascending) (ascending_filter (ltb i) partners.told so.told_ascending) nothing told

  abbrev later : List (List ℕ) → List ReportLine
  later = with_later (λ a b. pair_line a b (finding (v (a ∷ (b ∷ []))) (w (a ∷ (b ∷ [])))))

  laters : later (filter (λ a. is_yes (w (a ∷ []))) names) ≡ flat_map (told_after names kind_pair_of lists) found
  laters =
      ap (λ z. later (filter (λ a. is_yes (w (a ∷ []))) z)) (fill_by_all (listed_for names) names (length names) [] refl (λ k l. refl))
      ∙ ap later (filter_of_map (λ a. is_yes (w (a ∷ []))) (listed_for names) (range_with_len 0 (length names)))
      ∙ ap (λ z. later (map (listed_for names) z))
      (filter_same (λ i. is_yes (w (listed_for names i ∷ []))) (goes_alone new) (range_with_len 0 (length names))
      (λ i h. let p = range_cases (length names) 0 i h in let l : i < length names = omega (arith, p.1) in ap is_yes (new_verdicts.single i l)))
      ∙ later_of_map (λ a b. pair_line a b (finding (v (a ∷ (b ∷ []))) (w (a ∷ (b ∷ []))))) (listed_for names) found
      ∙ later_ascending line found found_ascending
      ∙ flat_same (λ i. flat_map (line i) (filter (ltb i) found)) (told_after names kind_pair_of lists) found after

  pub pair_lines_are : flat_map (told_after names kind_pair_of lists) found ≡ told_pairs v w names
  pair_lines_are = sym laters

-- the partners of a name are names
pub told_within : (n : ℕ) (old new : Judge) (table : KindPairTable) (bad : List (List Bad)) (partners : List Partners) → length table.kind_pairs.pair_of.items ≡ n → IsKindPairTable table → length table.by_new.items ≡ length new.kinds.items
    → AreAllBad new bad → IsTable old table bad partners → (a j : ℕ) → a < length partners → In j (partners_at partners a).told → j < n
told_within n old new table bad partners long fits count bads tabled a j l i =
    let m : a < length table.kind_pairs.new.items = subst (λ z. a < z) tabled.long l in
    let k : new_kind table a < length new.kinds.items = subst (λ z. new_kind table a < z) count (fits.news a m) in
    subst (λ z. j < z) long (partners_within old new table a (get_or bad (new_kind table a) []) fits (bads.each (new_kind table a) k) (partners_at partners a) (tabled.each a m) j i)
