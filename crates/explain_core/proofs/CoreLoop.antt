-- The core, goal by goal, over a view of the suite.
use Rattle.std.proofs.Common.{◌≡◌, ℕ, zero, suc, ◌+◌, ◌-◌, ◌<◌, ◌≤◌, true, false, List, [], ◌∷◌, ◌++◌, length, drop, map, inl, inr, refl, sym, ap, ◌∙◌, subst}
use Rattle.std.proofs.{Common.{arith}, lemmas.List.{drop-map, map-append, length-map}}
use Rattle.std.specs.List.{range_with_len}
use Rattle.clause_pool.specs.Interned.{Interned}
use Rattle.clause_solver.specs.{Verdicts.{IsSearchVerdict}, declared.outcomes.Verdict.{Verdict}, declared.outcomes.Verdict.TheVariants.{Yes, No, Spent}}
use Rattle.kernel_rounds.specs.declared.extraction.Kernel.{Kernel}
use Rattle.relation_fields.specs.{declared.packages.Home.{Home}, declared.packages.PackageFacts.{PackageFacts}}
use Rattle.repo_model.specs.{Repository.{suite_repository}, declared.goals.Goal.{Goal}}
use Rattle.row_book.specs.{Book.{repository_of}, Needs.{NeedsFit}, Repository.{Repository}, Rounds.{kernel}, declared.book.Book.{Book}}
use Rattle.listed.specs.Lists.{In}
use Rattle.row_book.proofs.BookRepositories.{book_size}
use Rattle.listed.proofs.Lists.{In_append_cases, In_append_left, In_append_right, In_cases, In_none}
use Rattle.suite_compare.specs.{Asking.{image_of, images_of, tree_of, verdict_in, verdict_of}, Views.{IsViewOf}}
use Rattle.suite_compare.proofs.{Deciding.{images_fit}, Judged.{verdict_is}}
use Rattle.explain_core.specs.Core.{goal_core, goal_numbered, goals_numbered, marks_of, verdict_on}
use Rattle.explain_core.specs.{Deletion.{KeptItem, is_no, items_of, kept_behind, kept_by}, Picking.{picked, ArePlacesFrom1}, declared.explanation.Mark.{Mark}}
use Rattle.explain_core.proofs.{AtOnce.{goals_at_once, In_map_more}, Deleted.{block_left_out, no_is}}
use Rattle.explain_core.proofs.Told.{kept_mark, kept_marks, marks_back, marks_items, marks_there, picked_numbered, rest_numbered}

-- one item more
behind_more : {X : Type 0} (f : List X → Verdict) (before : List (KeptItem X)) (x : X) (after : List X) (v : Verdict) → v ≡ f (items_of before ++ after) →
    kept_behind f before (x ∷ after) ≡ kept_behind f (before ++ kept_by x v) after
unfolding kept_behind
behind_more f before x after v e = ap (λ w. kept_behind f (before ++ kept_by x w) after) (sym e)

pub behind_none : {X : Type 0} (f : List X → Verdict) (before : List (KeptItem X)) (after : List X) → after ≡ [] → kept_behind f before after ≡ before
unfolding kept_behind
behind_none f before after e = ap (kept_behind f before) e

pub behind_step : {X : Type 0} (f : List X → Verdict) (all : List (KeptItem X)) (before new : List (KeptItem X)) (x : X) (left after : List X) (v : Verdict) → v ≡ f (items_of before ++ after) →
    left ≡ x ∷ after → new ≡ before ++ kept_by x v → all ≡ kept_behind f before left → all ≡ kept_behind f new after
behind_step f all before new x left after v told cut more e =
    e ∙ ap (kept_behind f before) cut ∙ behind_more f before x after v told ∙ ap (λ b. kept_behind f b after) (sym more)

-- numbers in two parts
range_cut : (a n m : ℕ) → range_with_len a (n + m) ≡ range_with_len a n ++ range_with_len (a + n) m
range_cut a zero m = let e : a ≡ a + 0 = omega arith in let z : 0 + m ≡ m = omega arith in ap (range_with_len a) z ∙ ap (λ k. range_with_len k m) e
range_cut a (suc n) m =
    let e : suc n + m ≡ suc (n + m) = omega arith in
    let at : a + 1 + n ≡ a + suc n = omega arith in
    ap (range_with_len a) e ∙ ap (λ l. a ∷ l) (range_cut (a + 1) n m ∙ ap (λ k. range_with_len (a + 1) n ++ range_with_len k m) at)

-- marks of what one verdict keeps
pub marks_more : (marks new : List Mark) (kept : List (KeptItem ℕ)) → new ≡ marks ++ marks_of kept → kept_marks new ≡ kept_marks marks ++ kept
marks_more marks new kept e = ap kept_marks e ∙ map-append kept_mark marks (marks_of kept) ∙ ap (λ l. kept_marks marks ++ l) (marks_back kept)

pub places_more : (marks new : List Mark) (place : ℕ) (v : Verdict) → new ≡ marks ++ marks_of (kept_by (place + 1) v) → ArePlacesFrom1 place marks → ArePlacesFrom1 (place + 1) new
places_more marks new place v e places m i = elim (In_append_cases marks (marks_of (kept_by (place + 1) v)) m (subst (λ l. In m l) e i)) [
  | inl a ↦ let w = places m a in (w.0, omega (arith, w.1))
  | inr b ↦ last v b
]
  where
    at : (k : Mark) → k.goal ≡ place + 1 → m ≡ k → (0 < m.goal) × (m.goal ≤ place + 1)
    at k goal same = let e : m.goal ≡ place + 1 = ap (λ z. z.goal) same ∙ goal in (omega arith, omega arith)

    last : (v : Verdict) → In m (marks_of (kept_by (place + 1) v)) → (0 < m.goal) × (m.goal ≤ place + 1)
    last No j = absurd (In_none j)
    last Yes j = elim (In_cases j) [ inl same ↦ at (record { goal = place + 1; unsettled = false }) refl same | inr k ↦ absurd (In_none k) ]
    last Spent j = elim (In_cases j) [ inl same ↦ at (record { goal = place + 1; unsettled = true }) refl same | inr k ↦ absurd (In_none k) ]

pub places_wider : (marks : List Mark) (place size : ℕ) → place ≤ size → ArePlacesFrom1 place marks → ArePlacesFrom1 size marks
places_wider marks place size l places m i = let w = places m i in (w.0, omega (arith, w.1))

module _ (pool : Interned) (home : Home) (stanzas : List PackageFacts) (book : Book) (made : Kernel) (limit : ℕ) (view : IsViewOf pool home stanzas book made limit) (goals : List Goal) (classes : List (List ℕ)) (are : classes ≡ images_of limit made.hold home stanzas goals) where
  abbrev K : Repository
  K = repository_of pool made.book

  k_is : K ≡ kernel limit made.hold (suite_repository home stanzas)
  k_is = view.kernel_is.book.repository

  pub classes_long : length classes ≡ length goals
  classes_long = ap length are ∙ length-map goals (image_of limit made.hold home stanzas)

  -- classes of some goals are classes of the kernel
  pub images_are_fit : (some : List Goal) (images : List (List ℕ)) → images ≡ images_of limit made.hold home stanzas some → NeedsFit (length made.book.rows) images
  images_are_fit some images e =
      subst (λ n. NeedsFit n images) (ap (λ S. length S.clauses) (sym k_is) ∙ book_size pool made.book) (subst (NeedsFit (length (kernel limit made.hold (suite_repository home stanzas)).clauses)) (sym e) (images_fit home stanzas limit made.hold some))

  -- a search of the kernel for classes of some goals has the verdict on these
  pub verdict_found : (budget : ℕ) (some : List Goal) (images : List (List ℕ)) (v : Verdict) → images ≡ images_of limit made.hold home stanzas some → IsSearchVerdict K images budget v → v ≡ verdict_in limit made.hold home stanzas budget some
  verdict_found budget some images v e w =
      verdict_is pool made.book images budget v view.kernel_is.book.sound (images_are_fit some images e) w
      ∙ ap (λ S. verdict_of budget (tree_of S images)) k_is ∙ ap (λ cs. verdict_of budget (tree_of (kernel limit made.hold (suite_repository home stanzas)) cs)) e

  -- of classes of some goals, as the search tree of the kernel tells it
  tree_told : (budget : ℕ) (some : List Goal) (images : List (List ℕ)) → images ≡ images_of limit made.hold home stanzas some → verdict_of budget (tree_of K images) ≡ verdict_in limit made.hold home stanzas budget some
  tree_told budget some images e = ap (λ S. verdict_of budget (tree_of S images)) k_is ∙ ap (λ cs. verdict_of budget (tree_of (kernel limit made.hold (suite_repository home stanzas)) cs)) e

  -- the numbers of the goals from a place on
  abbrev numbers_from : ℕ → List ℕ
  numbers_from place = range_with_len (place + 1) (length goals - place)

  pub others_are : (marks : List Mark) (place from : ℕ) (others : List (List ℕ)) → place ≤ length goals → from ≤ length goals → ArePlacesFrom1 place marks → others ≡ picked classes marks ++ drop from classes →
      others ≡ images_of limit made.hold home stanzas (goals_numbered goals (items_of (kept_marks marks) ++ numbers_from from))
  others_are marks place from others l within places e =
      let sum : from + (length goals - from) ≡ length goals = omega arith in
      e ∙ ap (λ cs. picked cs marks ++ drop from cs) are
      ∙ ap (λ front. front ++ drop from (images_of limit made.hold home stanzas goals)) (picked_numbered (image_of limit made.hold home stanzas) goals marks (places_wider marks place (length goals) l places))
      ∙ ap (λ back. map (image_of limit made.hold home stanzas) (goals_numbered goals (map (λ m. m.goal) marks)) ++ back) (drop-map (image_of limit made.hold home stanzas) from goals ∙ ap (map (image_of limit made.hold home stanzas)) (rest_numbered goals from (length goals - from) sum))
      ∙ sym (map-append (image_of limit made.hold home stanzas) (goals_numbered goals (map (λ m. m.goal) marks)) (goals_numbered goals (numbers_from from)))
      ∙ ap (map (image_of limit made.hold home stanzas)) (sym (map-append (goal_numbered goals) (map (λ m. m.goal) marks) (numbers_from from)))
      ∙ ap (λ ns. images_of limit made.hold home stanzas (goals_numbered goals (ns ++ numbers_from from))) (sym (marks_items marks))

  -- the others of a block fit
  pub others_fit : (marks : List Mark) (place from : ℕ) (others : List (List ℕ)) → place ≤ length goals → from ≤ length goals → ArePlacesFrom1 place marks → others ≡ picked classes marks ++ drop from classes → NeedsFit (length made.book.rows) others
  others_fit marks place from others l within places e =
      images_are_fit (goals_numbered goals (items_of (kept_marks marks) ++ numbers_from from)) others (others_are marks place from others l within places e)

  pub core_step : (budget : ℕ) (marks new : List Mark) (place from : ℕ) (others : List (List ℕ)) (v : Verdict) → place < length goals → from ≡ place + 1 → ArePlacesFrom1 place marks →
      others ≡ picked classes marks ++ drop from classes → IsSearchVerdict K others budget v → new ≡ marks ++ marks_of (kept_by (place + 1) v) →
      goal_core limit made.hold home stanzas budget goals ≡ kept_behind (verdict_on limit made.hold home stanzas budget goals) (kept_marks marks) (numbers_from place) →
      goal_core limit made.hold home stanzas budget goals ≡ kept_behind (verdict_on limit made.hold home stanzas budget goals) (kept_marks new) (numbers_from (place + 1))
  core_step budget marks new place from others v l next places made_of searched pushed e =
      let size : length goals - place ≡ suc (length goals - (place + 1)) = omega arith in
      behind_step (verdict_on limit made.hold home stanzas budget goals) (goal_core limit made.hold home stanzas budget goals) (kept_marks marks) (kept_marks new) (place + 1) (numbers_from place) (numbers_from (place + 1)) v
      (verdict_found budget (goals_numbered goals (items_of (kept_marks marks) ++ numbers_from (place + 1))) others v
      (others_are marks place (place + 1) others (omega arith) (omega arith) places (made_of ∙ ap (λ k. picked classes marks ++ drop k classes) next)) searched)
      (ap (range_with_len (place + 1)) size)
      (marks_more marks new (kept_by (place + 1) v) pushed) e

  -- the numbers of the goals that are left where those of a block before the place are left out
  abbrev left_at : List Mark → ℕ → List ℕ
  left_at marks place = items_of (kept_marks marks) ++ numbers_from place

  -- a block of goals, where the others of the whole block clash at once
  pub core_skip : (budget : ℕ) (marks : List Mark) (place count : ℕ) (others : List (List ℕ)) → 0 < budget → place + count ≤ length goals → ArePlacesFrom1 place marks →
      others ≡ picked classes marks ++ drop (place + count) classes → is_no (verdict_of 1 (tree_of K others)) ≡ true →
      goal_core limit made.hold home stanzas budget goals ≡ kept_behind (verdict_on limit made.hold home stanzas budget goals) (kept_marks marks) (numbers_from place) →
      goal_core limit made.hold home stanzas budget goals ≡ kept_behind (verdict_on limit made.hold home stanzas budget goals) (kept_marks marks) (numbers_from (place + count))
  core_skip budget marks place count others some within places made_of clash e =
      e ∙ ap (kept_behind (verdict_on limit made.hold home stanzas budget goals) (kept_marks marks)) cut
      ∙ block_left_out (verdict_on limit made.hold home stanzas budget goals) (kept_marks marks) (range_with_len (place + 1) count) (numbers_from (place + count)) each
    where
      cut : numbers_from place ≡ range_with_len (place + 1) count ++ numbers_from (place + count)
      cut =
          let sum : length goals - place ≡ count + (length goals - (place + count)) = omega arith in
          let at : place + 1 + count ≡ place + count + 1 = omega arith in
          ap (range_with_len (place + 1)) sum ∙ range_cut (place + 1) count (length goals - (place + count)) ∙ ap (λ k. range_with_len (place + 1) count ++ range_with_len k (length goals - (place + count))) at

      told : verdict_in limit made.hold home stanzas 1 (goals_numbered goals (left_at marks (place + count))) ≡ No
      told = sym (tree_told 1 (goals_numbered goals (left_at marks (place + count))) others (others_are marks place (place + count) others (omega arith) within places made_of)) ∙ no_is (verdict_of 1 (tree_of K others)) clash

      wider : (front : List ℕ) (n : ℕ) → In n (left_at marks (place + count)) → In n (items_of (kept_marks marks) ++ (front ++ numbers_from (place + count)))
      wider front n i = elim (In_append_cases (items_of (kept_marks marks)) (numbers_from (place + count)) n i) [
        | inl a ↦ In_append_left (items_of (kept_marks marks)) (front ++ numbers_from (place + count)) n a
        | inr b ↦ In_append_right (items_of (kept_marks marks)) (front ++ numbers_from (place + count)) n (In_append_right front (numbers_from (place + count)) n b)
      ]

      each : (front : List ℕ) → ((n : ℕ) → In n front → In n (range_with_len (place + 1) count)) → verdict_on limit made.hold home stanzas budget goals (items_of (kept_marks marks) ++ (front ++ numbers_from (place + count))) ≡ No
      each front h =
          goals_at_once home stanzas limit made.hold budget (goals_numbered goals (left_at marks (place + count))) (goals_numbered goals (items_of (kept_marks marks) ++ (front ++ numbers_from (place + count))))
          (In_map_more (goal_numbered goals) (left_at marks (place + count)) (items_of (kept_marks marks) ++ (front ++ numbers_from (place + count))) (wider front)) told some

  pub core_done : (budget : ℕ) (marks : List Mark) (place : ℕ) → length goals ≤ place →
      goal_core limit made.hold home stanzas budget goals ≡ kept_behind (verdict_on limit made.hold home stanzas budget goals) (kept_marks marks) (range_with_len (place + 1) (length goals - place)) →
      marks ≡ marks_of (goal_core limit made.hold home stanzas budget goals)
  core_done budget marks place l e =
      let none : length goals - place ≡ 0 = omega arith in
      sym (ap marks_of (e ∙ behind_none (verdict_on limit made.hold home stanzas budget goals) (kept_marks marks) (range_with_len (place + 1) (length goals - place)) (ap (range_with_len (place + 1)) none)) ∙ marks_there marks)
