-- What some packages of an index are among themselves, by what they are among all.
use Rattle.std.proofs.Common.{◌≡◌, ℕ, zero, suc, Bool, true, false, not, ◌&&◌, ◌||◌, List, [], ◌∷◌, length, map, refl, sym, ap, ap₂, subst, ◌∙◌}
use Rattle.std.proofs.lemmas.Bool.{false≢true}
use Rattle.row_book.specs.{Parts.{chosen_in, part, place_in, row_in}, Flags.{flag}, Repository.{Repository}}
use Rattle.std.specs.{List.{items_where_true}, Str.{bytes_eq}}
use Rattle.relation_fields.specs.{declared.packages.Home.{Home}, declared.packages.PackageFacts.{PackageFacts}, declared.relations.Atom.{Atom}}
use Rattle.listed.specs.Lists.{In}
use Rattle.listed.proofs.Lists.{In_map, In_map_cases}
use Rattle.clause_pool.specs.Clauses.{in_row_order}
use Rattle.clause_pool.proofs.Order.{order_same, ordered_has, ordered_order, ordered_parts}
use Rattle.repo_model.specs.{Goals.{is_named_by}, Repository.{clause_of, conflicting_with, in_conflict, meets_any, row_of, stands_against, suite_repository}}
use Rattle.repo_model.specs.Stanzas.{stanza_at}
use Rattle.suite_part.specs.Laws.{NamesArePart, PartIsExact}
use Rattle.suite_part.proofs.LawPlaces.{place_apart, table_part, tests_part}

-- the order of the images of clauses does not ask for the order of the clauses
order_of_images : (f : List ℕ → List ℕ) (cs : List (List ℕ)) → in_row_order (map f cs) ≡ in_row_order (map f (in_row_order cs))
order_of_images f cs =
    order_same (in_row_order (map f cs)) (in_row_order (map f (in_row_order cs))) (ordered_order (map f cs)) (ordered_order (map f (in_row_order cs)))
    (λ c i. let w : (d : List ℕ) × In d cs × (c ≡ f d) = In_map_cases f cs c (ordered_parts (map f cs) c i) in
    ordered_has (map f (in_row_order cs)) c (subst (λ z. In z (map f (in_row_order cs))) (sym w.2) (In_map f (in_row_order cs) w.0 (ordered_has cs w.0 w.1))))
    (λ c i. let w : (d : List ℕ) × In d (in_row_order cs) × (c ≡ f d) = In_map_cases f (in_row_order cs) c (ordered_parts (map f (in_row_order cs)) c i) in
    ordered_has (map f cs) c (subst (λ z. In z (map f cs)) (sym w.2) (In_map f cs w.0 (ordered_parts cs w.0 w.1))))

-- a chosen stanza stands at its number among the chosen ones
stanza_part : (flags : List Bool) (all : List PackageFacts) (n : ℕ) → flag flags n ≡ true → stanza_at (items_where_true flags all) (place_in flags n) ≡ stanza_at all n
stanza_part [] all n u = absurd (false≢true u)
stanza_part (b ∷ flags) [] n u = refl
stanza_part (true ∷ flags) (s ∷ all) zero u = refl
stanza_part (false ∷ flags) (s ∷ all) zero u = absurd (false≢true u)
stanza_part (true ∷ flags) (s ∷ all) (suc n) u = stanza_part flags all n u
stanza_part (false ∷ flags) (s ∷ all) (suc n) u = stanza_part flags all n u

pub names_part : (stanzas : List PackageFacts) (flags : List Bool) → length flags ≡ length stanzas → NamesArePart stanzas flags
names_part stanzas flags sized goal =
    tests_part flags stanzas sized (λ n. is_named_by goal (stanza_at (items_where_true flags stanzas) n)) (λ n. is_named_by goal (stanza_at stanzas n))
    (λ n u. ap (is_named_by goal) (stanza_part flags stanzas n u))

module _ (home : Home) (stanzas : List PackageFacts) (flags : List Bool) (sized : length flags ≡ length stanzas) where
  abbrev picked : List PackageFacts
  picked = items_where_true flags stanzas

  clause_part : (element : List Atom) → clause_of home picked element ≡ chosen_in flags (clause_of home stanzas element)
  clause_part element =
      tests_part flags stanzas sized (λ n. meets_any home element (stanza_at picked n)) (λ n. meets_any home element (stanza_at stanzas n))
      (λ n u. ap (meets_any home element) (stanza_part flags stanzas n u))

  clauses_part : (elements : List (List Atom)) → map (clause_of home picked) elements ≡ map (chosen_in flags) (map (clause_of home stanzas) elements)
  clauses_part [] = refl
  clauses_part (element ∷ elements) = ap₂ (λ c cs. c ∷ cs) (clause_part element) (clauses_part elements)

  row_part : (n : ℕ) → flag flags n ≡ true → row_of home picked (stanza_at picked (place_in flags n)) ≡ row_in flags (row_of home stanzas (stanza_at stanzas n))
  row_part n u =
      ap (row_of home picked) (stanza_part flags stanzas n u) ∙ ap in_row_order (clauses_part (stanza_at stanzas n).needs)
      ∙ order_of_images (chosen_in flags) (map (clause_of home stanzas) (stanza_at stanzas n).needs)

  conflict_part : (m n : ℕ) → flag flags m ≡ true → flag flags n ≡ true → in_conflict home picked (place_in flags m) (place_in flags n) ≡ in_conflict home stanzas m n
  conflict_part m n u v =
      let s : stanza_at picked (place_in flags m) ≡ stanza_at stanzas m = stanza_part flags stanzas m u in
      let t : stanza_at picked (place_in flags n) ≡ stanza_at stanzas n = stanza_part flags stanzas n v in
      ap₂ (λ b c. not b && c) (place_apart flags m n u v)
      (ap₂ (λ (s t : PackageFacts). bytes_eq s.name t.name || (stands_against home s t || stands_against home t s)) s t)

  conflicts_part : (m : ℕ) → flag flags m ≡ true → conflicting_with home picked (place_in flags m) ≡ chosen_in flags (conflicting_with home stanzas m)
  conflicts_part m u = tests_part flags stanzas sized (in_conflict home picked (place_in flags m)) (in_conflict home stanzas m) (λ n v. conflict_part m n u v)

  pub repository_part : PartIsExact home stanzas flags
  unfolding suite_repository part
  repository_part =
      let of : List (List (List ℕ)) → List (List ℕ) → Repository = λ clauses conflicts. record { clauses = clauses; conflicts = conflicts } in
      ap₂ of
      (table_part flags stanzas sized (λ n. row_of home picked (stanza_at picked n)) (λ n. row_of home stanzas (stanza_at stanzas n)) (row_in flags) row_part)
      (table_part flags stanzas sized (conflicting_with home picked) (conflicting_with home stanzas) (chosen_in flags) conflicts_part)
