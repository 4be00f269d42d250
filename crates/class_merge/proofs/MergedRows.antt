-- The rows and conflicts that are made from a list of classes are those of the merged repository.
use Rattle.std.proofs.Common.{◌≡◌, ℕ, ◌<◌, true, not, ◌||◌, eqb, List, [], length, sym, ◌∙◌, ap, subst, arith, map, eq-eqb, eqb-true, slice_index_or, ◌↔◌}
use Rattle.std.proofs.lemmas.List.{get_or-map}
use Rattle.std.specs.List.{list_all, list_any}
use Rattle.listed.proofs.{Bools.{same_bool}, Lists.{In_has, any_cases, any_from, filter_same, has_In, map_alike}}
use Rattle.clause_pool.specs.{Interned.{Interned, row_at}, Lists.{InOrder}, Clauses.{apart_from, minimal_of, in_row_order}}
use Rattle.row_book.specs.{Numbers.{numbers}, Uses.{row_id}, Repository.{Repository, Coinst, against, clauses_of, conflicts_of}}
use Rattle.row_book.specs.{Sound.{SoundRepository, TidyRepository}, Keeping.{KeepsImages}, Book.{RowsTidy}}
use Rattle.row_book.specs.Merging.{class_clauses, class_conflicts, class_list, class_of, classes, clause_image, firsts, first_of, image, quotient}
use Rattle.listed.specs.Lists.{In, has, is_inside}
use Rattle.row_book.proofs.{Numbers.{at_numbers, length_numbers}, Repositories.{between, ranged, symmetric}}
use Rattle.clause_pool.proofs.{Clauses.{minimal_of_from, minimal_of_parts}, Order.{order_filter, order_same, ordered_has, ordered_order, ordered_parts}}
use Rattle.clause_families.specs.Families.{SameClauses}
use Rattle.class_merge.specs.Classes.{class_in, clauses_in, image_in}
use Rattle.class_merge.proofs.{Classes.{alike_self, class_alike, first_within, image_from, image_parts, of_classes}, Groups.{class_unique}}
use Rattle.class_merge.proofs.Kept.{merge_keeps_lem}

-- the classes in a list
pub class_at : (R : Repository) (p : ℕ) → p < length R.clauses → class_in (class_list R) p ≡ class_of R p
class_at R p l = at_numbers (class_of R) 0 (length R.clauses) 0 p l ∙ ap (class_of R) (omega arith)

pub list_size : (R : Repository) → length (class_list R) ≡ length R.clauses
list_size R = length_numbers (class_of R) (length R.clauses) 0

-- the image of a clause
pub image_at : (R : Repository) (c : List ℕ) → ((n : ℕ) → In n c → n < length R.clauses) → image_in (length (firsts R)) (class_list R) c ≡ clause_image R c
unfolding image_in
image_at R c range =
    filter_same (λ k. list_any (λ n. eqb (class_in (class_list R) n) k) c) (image R (has c)) (classes R) (λ k i.
    same_bool (list_any (λ n. eqb (class_in (class_list R) n) k) c) (image R (has c) k)
    (λ t.
    let w : (n : ℕ) × In n c × (eqb (class_in (class_list R) n) k ≡ true) = any_cases (λ n. eqb (class_in (class_list R) n) k) c t in
    subst (λ z. image R (has c) z ≡ true) (sym (class_at R w.0 (range w.0 w.1)) ∙ eqb-true (class_in (class_list R) w.0) k w.2)
    (image_from R (has c) w.0 (range w.0 w.1) (In_has w.1)))
    (λ t.
    let w : (p : ℕ) × (p < length R.clauses) × (has c p ≡ true) × (class_of R p ≡ k) = image_parts R (has c) k t in
    any_from (λ n. eqb (class_in (class_list R) n) k) c w.0 (has_In c w.0 w.2) (eq-eqb (class_in (class_list R) w.0) k (class_at R w.0 w.1 ∙ w.3))))

-- the conflicts of a class
pub conflicts_at : (R : Repository) → SoundRepository R → (k : ℕ) → k < length (firsts R) → image_in (length (firsts R)) (class_list R) (conflicts_of R (first_of R k)) ≡ class_conflicts R k
unfolding image_in
conflicts_at R s k l =
    let f : ℕ = first_of R k in
    let own : f < length R.clauses = first_within R k l in
    let range : (n : ℕ) → In n (conflicts_of R f) → n < length R.clauses = λ n i. (between R s f n (In_has i)).1 in
    filter_same (λ m. list_any (λ n. eqb (class_in (class_list R) n) m) (conflicts_of R f)) (λ m. against R f (first_of R m)) (classes R) (λ m i.
    let small : m < length (firsts R) = of_classes R m i in
    same_bool (list_any (λ n. eqb (class_in (class_list R) n) m) (conflicts_of R f)) (against R f (first_of R m))
    (λ t.
    let w : (n : ℕ) × In n (conflicts_of R f) × (eqb (class_in (class_list R) n) m ≡ true) = any_cases (λ n. eqb (class_in (class_list R) n) m) (conflicts_of R f) t in
    let b : w.0 < length R.clauses = range w.0 w.1 in
    let e : class_of R w.0 ≡ m = sym (class_at R w.0 b) ∙ eqb-true (class_in (class_list R) w.0) m w.2 in
    let same : against R w.0 f ≡ against R (first_of R m) f = ap (λ xs. has xs f) (class_alike R w.0 b).conflicts ∙ ap (λ z. against R (first_of R z) f) e in
    symmetric R s f (first_of R m) ∙ (sym same ∙ (symmetric R s w.0 f ∙ In_has w.1)))
    (λ t.
    let b : first_of R m < length R.clauses = first_within R m small in
    any_from (λ n. eqb (class_in (class_list R) n) m) (conflicts_of R f) (first_of R m) (has_In (conflicts_of R f) (first_of R m) t)
    (eq-eqb (class_in (class_list R) (first_of R m)) m (class_at R (first_of R m) b ∙ sym (class_unique R (first_of R m) m b small (alike_self R (first_of R m)))))))

-- the row of a class
pub clauses_at_class : (R : Repository) → SoundRepository R → (k : ℕ) → k < length (firsts R) → clauses_in (length (firsts R)) (class_list R) k (clauses_of R (first_of R k)) ≡ class_clauses R k
clauses_at_class R s k l =
    ap (λ cs. in_row_order (minimal_of (apart_from k cs)))
    (map_alike (image_in (length (firsts R)) (class_list R)) (clause_image R) (clauses_of R (first_of R k)) (λ c i. image_at R c (ranged R s (first_of R k) c i)))

-- a family in order has its minimal clauses in order
pub minimal_ordered : (all family : List (List ℕ)) → SameClauses all family → InOrder family → minimal_of family ≡ in_row_order (minimal_of all)
minimal_ordered all family same order =
    order_same (minimal_of family) (in_row_order (minimal_of all)) (order_filter (λ T. list_all (λ S. not (is_inside S T) || is_inside T S) family) family order) (ordered_order (minimal_of all))
    (λ c i. ordered_has (minimal_of all) c (minimal_of_from all c (same.back c (minimal_of_parts family c i).0) (λ S j f. (minimal_of_parts family c i).1 S (same.there S j) f)))
    (λ c i. let j : In c (minimal_of all) = ordered_parts (minimal_of all) c i in
    minimal_of_from family c (same.there c (minimal_of_parts all c j).0) (λ S u f. (minimal_of_parts all c j).1 S (same.back S u) f))

-- the tables of the merged repository
pub merged_table : (R : Repository) (n : ℕ) → n ≡ length (firsts R) → map (class_clauses R) (numbers n 0) ≡ (quotient R).clauses
unfolding quotient
merged_table R n e = ap (λ z. map (class_clauses R) (numbers z 0)) e

pub merged_lists : (R : Repository) (n : ℕ) → n ≡ length (firsts R) → map (class_conflicts R) (numbers n 0) ≡ (quotient R).conflicts
unfolding quotient
merged_lists R n e = ap (λ z. map (class_conflicts R) (numbers z 0)) e

pub rows_tidy : (new : Interned) (R : Repository) (rows given : List ℕ) → TidyRepository R → map (row_at new) rows ≡ R.clauses → given ≡ rows → RowsTidy new given
rows_tidy new R rows given t e g = subst (RowsTidy new) (sym g) (record {
  apart = λ p l c i j. t.apart p c (at p l c i) j;
  minimal = λ p l c d i j f. t.minimal p c d (at p l c i) (at p l d j) f;
})
  where
    at : (p : ℕ) → p < length rows → (c : List ℕ) → In c (row_at new (row_id rows p)) → In c (clauses_of R p)
    at p l c i = subst (λ cs. In c cs) (sym (get_or-map (row_at new) rows p 0 [] l) ∙ ap (λ t. slice_index_or t p []) e) i

-- a book that is the quotient keeps every set, by images
pub merged_keeps : (R F : Repository) → SoundRepository R → F ≡ quotient R → KeepsImages R F (image R)
merged_keeps R F s same S small = subst (λ M. Coinst R S ↔ Coinst M (image R S)) (sym same) (merge_keeps_lem R S s small)
