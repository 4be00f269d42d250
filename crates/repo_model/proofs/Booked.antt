-- The book of the rows and pairs of packages is their repository.
use Rattle.std.proofs.Common.{◌≡◌, ℕ, suc, ◌+◌, ◌<◌, List, [], ◌∷◌, length, get_or, map, refl, sym, ap, ap₂, subst, ◌∙◌, add-zero, zero-add, arith}
use Rattle.std.proofs.lemmas.List.{length-map}
use Rattle.std.specs.List.{range_with_len}
use Rattle.clause_pool.specs.Interned.{Interned, row_at}
use Rattle.relation_fields.specs.{declared.packages.Home.{Home}, declared.packages.PackageFacts.{PackageFacts}, declared.relations.Atom.{Atom}}
use Rattle.row_book.specs.{Book.{are_paired, lists_of_pairs, repository_of, NumbersFit, Sound}, Repository.{Repository}, declared.book.Book.{Book}}
use Rattle.row_book.specs.declared.pair.Pair.{Pair}
use Rattle.listed.specs.Lists.{In}
use Rattle.listed.proofs.Lists.{In_map, In_map_cases}
use Rattle.clause_pool.proofs.Order.{ordered_parts}
use Rattle.repo_model.specs.{Interning.{HasRows}, Repository.{clause_of, in_conflict, packages_of, row_of, suite_repository}, Stanzas.{no_stanza, stanza_at}}
use Rattle.repo_model.proofs.{Elements.{at_place}, Packages.{literal_cases}, Paired.{lists_conflict}}

-- the values of the elements are those at their numbers
mapped : {X Y : Type 0} (f : X → Y) (at : ℕ → X) (n : ℕ) (items : List X) (d : X) → ((i : ℕ) → i < length items → at (n + i) ≡ get_or items i d) →
    map f items ≡ map (λ k. f (at k)) (range_with_len n (length items))
mapped f at n [] d same = refl
mapped f at n (x ∷ items) d same =
    let first : x ≡ at n = sym (ap at (sym (add-zero n)) ∙ same 0 (omega arith)) in
    ap₂ (λ y ys. y ∷ ys) (ap f first)
    (mapped f at (n + 1) items d (λ i l. let place : n + 1 + i ≡ n + suc i = omega arith in ap at place ∙ same (suc i) (omega arith)))

module _ (home : Home) (packages : List PackageFacts) where
  rows_numbered : map (row_of home packages) packages ≡ map (λ n. row_of home packages (stanza_at packages n)) (packages_of packages)
  rows_numbered = mapped (row_of home packages) (stanza_at packages) 0 packages no_stanza (λ i l. ap (stanza_at packages) (zero-add i))

  module _ (old new : Interned) (rows : List ℕ) (has : HasRows old new (map (row_of home packages) packages) rows) where
    pub row_count : length rows ≡ length packages
    row_count = sym (length-map rows (row_at new)) ∙ ap length has.clauses ∙ length-map packages (row_of home packages)

    pub numbers_fit : NumbersFit new rows
    numbers_fit id i c j n k =
        let row : In (row_at new id) (map (row_of home packages) packages) = subst (λ t. In (row_at new id) t) has.clauses (In_map (row_at new) rows id i) in
        let w : (s : PackageFacts) × In s packages × (row_at new id ≡ row_of home packages s) = In_map_cases (row_of home packages) packages (row_at new id) row in
        let inside : In c (map (clause_of home packages) w.0.needs) = ordered_parts (map (clause_of home packages) w.0.needs) c (subst (λ cs. In c cs) w.2 j) in
        let v : (element : List Atom) × In element w.0.needs × (c ≡ clause_of home packages element) = In_map_cases (clause_of home packages) w.0.needs c inside in
        subst (λ m. n < m) (sym row_count) (literal_cases home packages v.0 n (subst (λ ns. In n ns) v.2 k)).0

    pub booked : (book : Book) (pairs : List Pair) → book.rows ≡ rows → book.conflicts ≡ lists_of_pairs pairs (length rows) →
        ((p q : ℕ) → p < length packages → q < length packages → are_paired pairs p q ≡ in_conflict home packages p q) → repository_of new book ≡ suite_repository home packages
    unfolding suite_repository
    booked book pairs of_rows of_pairs conflict =
        let R : List (List (List ℕ)) → List (List ℕ) → Repository = λ clauses conflicts. record { clauses = clauses; conflicts = conflicts } in
        ap₂ R (ap (map (row_at new)) of_rows ∙ has.clauses ∙ rows_numbered)
        (of_pairs ∙ ap (lists_of_pairs pairs) row_count ∙ lists_conflict home packages pairs conflict)

-- the row of a package of a sound book is of the pool
pub row_within : (pool : Interned) (book : Book) (n : ℕ) → Sound pool book → n < length book.rows → get_or book.rows n 0 < length pool.rows
row_within pool book n sound l = sound.rows.of_pool (get_or book.rows n 0) (at_place book.rows n 0 l)
