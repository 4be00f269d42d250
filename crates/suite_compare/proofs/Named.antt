-- The sides of a comparison: the names of the old one, its judge, and what is told of a part of the names.
use Rattle.std.{proofs.Common.{◌≡◌, ℕ, ◌<◌, Bool, true, List, [], ◌∷◌, length, get_or, map, refl, ◌∙◌, ap, subst, sym, ap₂}, specs.Str.{bytes_eq}, proofs.lemmas.Slice.Eq.{bytes_eq-Decides}, proofs.lemmas.List.{get_or-map, length-map}}
use Rattle.clause_pool.proofs.Order.{ordered_parts}
use Rattle.row_book.{specs.Book.{listed_for}, specs.Repository.{Repository}, specs.Rounds.{kernel}}
use Rattle.listed.{specs.Lists.{In}, proofs.Lists.{any_cases, any_from, In_map_cases, In_place}}
use Rattle.relation_fields.{specs.declared.packages.Home.{Home}, specs.declared.packages.PackageFacts.{PackageFacts}}
use Rattle.repo_model.{specs.Goals.{any_version, names_in, packages_named}, specs.Repository.{suite_repository}, specs.Stanzas.{no_stanza}, proofs.Chosen.{named_is, number_from}}
use Rattle.suite_compare.{specs.Asking.{image_of, tree_of, verdict_of}, specs.Names.{stands_in}, specs.Comparing.{IsSide, IsSideBy}, specs.Sided.{named_verdict, AreVerdicts}, specs.Kinds.{kernel_in, AreKinds, alone_in, together_in}, specs.declared.new_side.NewSide.{NewSide}, specs.declared.side.Side.{Side}}
use Rattle.clause_solver.{specs.declared.outcomes.Verdict.{Verdict}}

-- a package that bears the name
pub bearer_of : (stanzas : List PackageFacts) (name : List ℕ) → stands_in stanzas name ≡ true → (n : ℕ) × In n (packages_named stanzas (any_version name))
bearer_of stanzas name h =
    let w : (x : PackageFacts) × In x stanzas × (bytes_eq name x.name ≡ true) = any_cases (λ facts. bytes_eq name facts.name) stanzas h in
    let p : (i : ℕ) × (i < length stanzas) × (get_or stanzas i no_stanza ≡ w.0) = In_place stanzas w.0 no_stanza w.1 in
    (p.0, subst (λ z. In p.0 z) (named_is stanzas name) (number_from (λ facts. bytes_eq name facts.name) stanzas p.0 p.1 (ap (λ z. bytes_eq name z.name) p.2 ∙ w.2)))

-- the names of an index stand in it
pub own_names : (packages : List PackageFacts) (name : List ℕ) → In name (names_in packages) → stands_in packages name ≡ true
own_names packages name i =
    let w : (x : PackageFacts) × In x packages × (name ≡ x.name) = In_map_cases (λ facts. facts.name) packages name (ordered_parts (map (λ facts. facts.name) packages) name i) in
    any_from (λ facts. bytes_eq name facts.name) packages w.0 w.1 (ap (λ z. bytes_eq z w.0.name) w.2 ∙ (bytes_eq-Decides w.0.name w.0.name).1 refl)

-- a side of the classes of names has the verdicts on them
pub verdicts_are : (limit : ℕ) (hold : Bool) (home : Home) (stanzas : List PackageFacts) (budget : ℕ) (K : Repository) (names lists : List (List ℕ)) (side : Side) → K ≡ kernel limit hold (suite_repository home stanzas)
    → lists ≡ map (λ name. image_of limit hold home stanzas (any_version name)) names → IsSideBy K budget lists side → AreVerdicts side side.kind_of.items names (named_verdict limit hold home stanzas budget)
verdicts_are limit hold home stanzas budget K names lists side same made so = record {
  single = λ i l. ap (λ z. verdict_of budget (tree_of R (z ∷ []))) (sym (at i l)) ∙ moved (classes i ∷ []);
  pair = λ i j l m. ap₂ (λ y z. verdict_of budget (tree_of R (y ∷ (z ∷ [])))) (sym (at i l)) (sym (at j m)) ∙ moved (classes i ∷ (classes j ∷ []));
}
  where
    R : Repository
    R = kernel limit hold (suite_repository home stanzas)

    classes : ℕ → List ℕ
    classes i = listed_for side.judge.kinds.items (get_or side.kind_of.items i 0)

    at : (i : ℕ) → i < length names → classes i ≡ image_of limit hold home stanzas (any_version (listed_for names i))
    at i l =
        let image : List ℕ → List ℕ = λ name. image_of limit hold home stanzas (any_version name) in
        so.kinds.each i (subst (λ z. i < z) (sym (ap length made ∙ length-map names image)) l) ∙ ap (λ z. get_or z i []) made ∙ get_or-map image names i [] [] l

    moved : (goals : List (List ℕ)) → verdict_of budget (tree_of R goals) ≡ verdict_of side.judge.budget (tree_of (kernel_in side.judge) goals)
    moved goals = ap₂ (λ y z. verdict_of y (tree_of z goals)) (sym so.spends) (sym (so.asked ∙ same))

-- each of some names stands among all, with its kind
abbrev pub AreAmong : List (List ℕ) → List ℕ → List (List ℕ) → List ℕ → Type 0
AreAmong names of made kinds = (j : ℕ) → j < length made → (i : ℕ) × (i < length names) × (listed_for made j ≡ listed_for names i) × (get_or kinds j 0 ≡ get_or of i 0)

-- and so a kind of the side
pub part_within : (names made : List (List ℕ)) (kinds : List ℕ) (side : Side) → AreAmong names side.kind_of.items made kinds → length side.kind_of.items ≡ length names → (j : ℕ) → j < length made → get_or kinds j 0 < length side.judge.kinds.items
part_within names made kinds side each long j l = let w = each j l in subst (λ z. z < length side.judge.kinds.items) (sym w.3) (side.within w.0 (subst (λ n. w.0 < n) (sym long) w.1))

-- both sides are sides of the names of both
pub both_old : (made : NewSide) → IsSide (length made.common.names.items) made.old.now made.common.kind_of.items
both_old made = record { long = made.old_long; within = made.old_within; told = made.old.now.told }

pub both_new : (made : NewSide) → IsSide (length made.common.names.items) made.side made.side.kind_of.items
both_new made = record { long = made.long; within = λ i l. made.side.within i (subst (λ n. i < n) (sym made.long) l); told = made.side.told }

pub part_verdicts : (names made : List (List ℕ)) (of kinds : List ℕ) (side : Side) (v : List (List ℕ) → Verdict) → AreAmong names of made kinds → AreVerdicts side of names v → AreVerdicts side kinds made v
part_verdicts names made of kinds side v each so = record {
  single = λ j l. let w = each j l in ap (λ z. v (z ∷ [])) w.2 ∙ so.single w.0 w.1 ∙ ap (alone_in side.judge) (sym w.3);
  pair = λ i j l m.
      let a = each i l in
      let b = each j m in
      ap₂ (λ y z. v (y ∷ (z ∷ []))) a.2 b.2 ∙ so.pair a.0 b.0 a.1 b.1 ∙ ap₂ (together_in side.judge) (sym a.3) (sym b.3);
}
