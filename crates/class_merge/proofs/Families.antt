-- What is made of the groups of the packages of a mask is the quotient of their part.
use Rattle.std.proofs.Common.{◌≡◌, ℕ, suc, ◌<◌, ◌≤◌, ◌+◌, ◌∷◌, [], ◌++◌, true, false, Bool, List, length, get_or, map, replicate, refl, sym, ◌∙◌, ap, ap₂}
use Rattle.std.proofs.{Common.{subst, arith, Result, Ok, Err, IfOk}, lemmas.List.{get_or-replicate, length-map, length-replicate, map-append}}
use Rattle.std.proofs.lemmas.Simd.{map-map}
use Rattle.clause_pool.specs.{Compacting.{RowsOf}, Interned.{Interned, IsPool, row_at}, Clauses.{apart_from, in_row_order, minimal_of}, Lists.{InOrder}}
use Rattle.clause_pool.proofs.{Clauses.{apart_cases}, Order.{ordered_has, ordered_order, ordered_parts}}
use Rattle.listed.specs.Lists.{Ascending, In}
use Rattle.listed.proofs.Lists.{In_at, In_map_cases, filter_cases, map_alike}
use Rattle.row_book.specs.{declared.book.Book.{Book}, Book.{repository_of, Sound}, Flags.{flag}, Merging.{class_list, class_of, quotient}, Numbers.{numbers}}
use Rattle.row_book.specs.{Parts.{number_in, part, place_in}, Repository.{Repository, clauses_of, conflicts_of}, Sound.{SoundRepository, TidyRepository}}
use Rattle.row_book.specs.Uses.{row_id}
use Rattle.row_book.proofs.{BookRepositories.{book_size, sound_book, sound_repository}, Books.{clauses_row}, Flags.{flag_in}}
use Rattle.row_book.proofs.{Numbers.{numbers_count, numbers_more}, PartSound.{part_sound}, Parts.{part_of_all, place_all}}
use Rattle.row_book.proofs.Repositories.{ranged, repository_same}
use Rattle.class_merge.specs.{Classes.{image_in, HasClasses}, Grouping.{group_family, AreClasses, AreFamilies, FitsBook, IsTidyBook, IsUnpooled}}
use Rattle.class_merge.specs.Masks.{against_in_mask, group_clauses, group_conflicts, masked_repository, AreClassesOfPart, IsMasked, IsMaskOfRows}
use Rattle.class_merge.specs.{Masks.{IsQuotientOfPart}, declared.{grouping.Classes.{Classes}, masked.MaskedRows.{MaskedRows}, merging.Families.{Families}}}
use Rattle.class_merge.proofs.{Groups.{flags_size}, Kept.{merge_is_tidy_lem}, Mapped.{image_ascending}}
use Rattle.class_merge.proofs.{MergedRows.{class_at, list_size, minimal_ordered, rows_tidy}, Quotients.{quotient_of_part_lem}}

module _ (masked : MaskedRows) (is : IsMaskOfRows masked) (classes : Classes) (are : AreClasses masked classes) where
  abbrev R : Repository
  R = masked_repository masked

  abbrev flags : List Bool
  flags = masked.flags.now

  abbrev least : List ℕ
  least = classes.firsts.items

  abbrev group_of : List ℕ
  group_of = classes.class_of.items

  pub least_few : length least < 4294967295
  least_few = let s : length least ≤ length flags = are.short in let f : length masked.rows.now < 4294967295 = is.few in omega (arith, s, f, flags_size masked is)

  least_up : (k : ℕ) → k < length least → flag flags (number_in least k) ≡ true
  least_up k l = are.grouped.there (number_in least k) (In_at least k 0 l)

  pub least_inside : (k : ℕ) → k < length least → number_in least k < length masked.rows.now
  least_inside k l = let f : number_in least k < length flags = flag_in flags (number_in least k) (least_up k l) in omega (arith, f, flags_size masked is)

  -- a package of the list, as it was lent
  pub least_within : (lent : List ℕ) → lent ≡ least → (k : ℕ) → k < length lent → k < length least
  least_within lent e k l = subst (λ xs. k < length xs) e l

  pub least_at : (lent : List ℕ) → lent ≡ least → (k : ℕ) → k < length lent → get_or lent k 0 < length masked.rows.now
  least_at lent e k l = subst (λ p. p < length masked.rows.now) (sym (ap (λ xs. get_or xs k 0) e)) (least_inside k (least_within lent e k l))

  has_classes : (c : List ℕ) → ((n : ℕ) → In n c → flag flags n ≡ true) → HasClasses (length least) group_of c
  has_classes c up n i = record {
    listed = (let f : n < length flags = flag_in flags n (up n i) in omega (arith, f, are.size));
    within = are.grouped.within n (up n i);
  }

  pub least_row : (k : ℕ) → k < length least → (c : List ℕ) → In c (clauses_of R (number_in least k)) → HasClasses (length least) group_of c
  least_row k l c i = has_classes c (is.mask.closed (number_in least k) (least_up k l) c i)

  pub least_list : (k : ℕ) → k < length least → HasClasses (length least) group_of (against_in_mask R flags (number_in least k))
  least_list k l = has_classes (against_in_mask R flags (number_in least k)) (λ n i. (filter_cases (flag flags) (conflicts_of R (number_in least k)) n i).1)

  quotient_is : IsQuotientOfPart R flags least group_of
  quotient_is = quotient_of_part_lem R flags least group_of is.mask are.grouped

  pub classes_are : AreClassesOfPart R flags group_of
  classes_are = quotient_is.classes

  -- the families, and their minimal clauses
  family_ascends : (k : ℕ) (c : List ℕ) → In c (group_family R least group_of k) → Ascending c
  family_ascends k c i =
      let cs : List (List ℕ) = clauses_of R (number_in least k) in
      let images : List (List ℕ) = map (image_in (length least) group_of) cs in
      let j : In c images = (apart_cases k images c (ordered_parts (apart_from k images) c i)).0 in
      let w : (d : List ℕ) × In d cs × (c ≡ image_in (length least) group_of d) = In_map_cases (image_in (length least) group_of) cs c j in
      subst Ascending (sym w.2) (image_ascending (length least) group_of w.0)

  minimal_is : (k : ℕ) → minimal_of (group_family R least group_of k) ≡ group_clauses R least group_of k
  minimal_is k =
      let all : List (List ℕ) = apart_from k (map (image_in (length least) group_of) (clauses_of R (number_in least k))) in
      minimal_ordered all (in_row_order all) (record { there = λ c i. ordered_has all c i; back = λ c i. ordered_parts all c i }) (ordered_order all)

  pub unpooled : (made : Families) → made.clauses.items ≡ map (group_family R least group_of) (numbers (length least) 0) →
      made.conflicts.items ≡ map (group_conflicts R flags least group_of) (numbers (length least) 0) → IsUnpooled (quotient (part flags R)) made
  unpooled made cs ks =
      let tidy : TidyRepository (quotient (part flags R)) = merge_is_tidy_lem (part flags R) (part_sound R flags is.mask.sound is.mask.size) in
      record {
        families = subst AreFamilies (sym cs) (record {
          ascending = λ family i c j.
              let w : (k : ℕ) × In k (numbers (length least) 0) × (family ≡ group_family R least group_of k) = In_map_cases (group_family R least group_of) (numbers (length least) 0) family i in
              family_ascends w.0 c (subst (λ z. In c z) w.2 j);
          in_order = λ family i.
              let w : (k : ℕ) × In k (numbers (length least) 0) × (family ≡ group_family R least group_of k) = In_map_cases (group_family R least group_of) (numbers (length least) 0) family i in
              subst InOrder (sym w.2) (ordered_order (apart_from w.0 (map (image_in (length least) group_of) (clauses_of R (number_in least w.0)))));
        });
        clauses =
            ap (map minimal_of) cs ∙ map-map minimal_of (group_family R least group_of) (numbers (length least) 0)
            ∙ map_alike (λ k. minimal_of (group_family R least group_of k)) (group_clauses R least group_of) (numbers (length least) 0) (λ k i. minimal_is k) ∙ quotient_is.clauses;
        conflicts = ks ∙ quotient_is.conflicts;
        tidy = tidy;
        few =
            let e : length (quotient (part flags R)).clauses ≡ length least = ap length (sym quotient_is.clauses) ∙ length-map (numbers (length least) 0) (group_clauses R least group_of) ∙ numbers_count (length least) 0 in
            omega (arith, e, least_few);
      }

-- families that are put into a pool
module _ (Q : Repository) (made : Families) (are : IsUnpooled Q made) where
  families_count : length made.clauses.items ≡ length Q.clauses
  families_count = sym (length-map made.clauses.items minimal_of) ∙ ap length are.clauses

  pub fits_book : FitsBook made
  fits_book = record {
    families = are.families;
    few = (let f : length Q.clauses < 4294967295 = are.few in omega (arith, families_count, f));
    paired = ap length are.conflicts ∙ are.tidy.sound.count ∙ sym families_count;
  }

  pub tidy_book : (new : Interned) (book : Book) (rows : List ℕ) → IsPool new → map (row_at new) rows ≡ map minimal_of made.clauses.items → ((id : ℕ) → In id rows → id < length new.rows) →
      book.rows ≡ rows → book.conflicts ≡ made.conflicts.items → IsTidyBook new book Q
  tidy_book new book rows now cs of e f =
      let same : repository_of new book ≡ Q = repository_same (repository_of new book) Q (ap (map (row_at new)) e ∙ cs ∙ are.clauses) (f ∙ are.conflicts) in
      record {
        is = same;
        sound = sound_book new book now (λ id i. of id (subst (λ z. In id z) e i)) (subst SoundRepository (sym same) are.tidy.sound);
        tidy = rows_tidy new Q rows book.rows are.tidy (cs ∙ are.clauses) e;
      }

-- a book as rows of which all are in the mask
numbers_same : (xs ys : List ℕ) → length xs ≡ length ys → ((i : ℕ) → i < length xs → get_or xs i 0 ≡ get_or ys i 0) → xs ≡ ys
numbers_same [] [] e f = refl
numbers_same [] (y ∷ ys) e f = absurd (omega (arith, e))
numbers_same (x ∷ xs) [] e f = absurd (omega (arith, e))
numbers_same (x ∷ xs) (y ∷ ys) e f = ap₂ (λ z zs. z ∷ zs) (f 0 (omega arith)) (numbers_same xs ys (omega (arith, e)) (λ i l. f (suc i) (omega arith)))

module _ (pool : Interned) (book : Book) (sound : Sound pool book) (masked : MaskedRows) (pool_is : masked.pool.now ≡ pool) (rows_are : masked.rows.now ≡ book.rows) (lists_are : masked.conflicts.now ≡ book.conflicts)
    (flags_are : masked.flags.now ≡ replicate (length book.rows) true) where
  abbrev B : Repository
  B = repository_of pool book

  whole : SoundRepository B
  whole = sound_repository pool book sound.rows.is_pool sound

  abbrev all : List Bool
  all = replicate (length book.rows) true

  size : length all ≡ length B.clauses
  size = length-replicate (length book.rows) true ∙ sym (book_size pool book)

  order : (p : ℕ) → p < length B.clauses → InOrder (clauses_of B p)
  order p l =
      let m : p < length book.rows = subst (λ z. p < z) (book_size pool book) l in
      subst InOrder (sym (clauses_row pool book p m)) (sound.rows.is_pool.in_order (row_id book.rows p) (sound.rows.of_pool (row_id book.rows p) (In_at book.rows p 0 m)))

  up : (k : ℕ) → k < length all → flag all k ≡ true
  up k l = get_or-replicate (length book.rows) k true false (omega (arith, l, length-replicate (length book.rows) true))

  same : masked_repository masked ≡ B
  same = repository_same (masked_repository masked) B (ap₂ (λ p rows. map (row_at p) rows) pool_is rows_are) lists_are

  all_masked : IsMasked B all
  all_masked = record {
    sound = whole;
    size = size;
    order = λ p u. order p (subst (λ z. p < z) size (flag_in all p u));
    closed = λ p u c i n j. up n (subst (λ z. n < z) (sym size) (ranged B whole p c i n j));
  }

  pub book_masked : IsMaskOfRows masked
  book_masked = record {
    is_pool = subst IsPool (sym pool_is) sound.rows.is_pool;
    of_pool = subst (λ p. RowsOf p masked.rows.now) (sym pool_is) (subst (λ rows. RowsOf pool rows) (sym rows_are) sound.rows.of_pool);
    few = subst (λ rows. length rows < 4294967295) (sym rows_are) book.few;
    mask = subst (λ F. IsMasked F masked.flags.now) (sym same) (subst (λ z. IsMasked B z) (sym flags_are) all_masked);
  }

  pub part_is : part masked.flags.now (masked_repository masked) ≡ B
  part_is = ap₂ part flags_are same ∙ part_of_all B whole order all size up

  pub classes_listed : (classes : List ℕ) → length classes ≡ length masked.flags.now → AreClassesOfPart (masked_repository masked) masked.flags.now classes → classes ≡ class_list B
  classes_listed classes long are =
      let count : length classes ≡ length B.clauses = long ∙ ap length flags_are ∙ size in
      numbers_same classes (class_list B) (count ∙ sym (list_size B)) (λ i l.
      let m : i < length B.clauses = subst (λ z. i < z) count l in
      let k : i < length all = subst (λ z. i < z) (sym size) m in
      are i (subst (λ z. flag z i ≡ true) (sym flags_are) (up i k))
      ∙ ap₂ class_of part_is (ap (λ z. place_in z i) flags_are ∙ place_all all up i k) ∙ sym (class_at B i m))

-- what two promises say of a value that there is
pub if_ok_both : {A E : Type 0} {P Q S : A → Type 0} (r : Result A E) → ((x : A) → P x → Q x → S x) → IfOk r P → IfOk r Q → IfOk r S
if_ok_both (Ok x) f p q = f x p q
if_ok_both (Err e) f p q = tt

-- one more family
pub families_more : (f : ℕ → List (List ℕ)) (n : ℕ) (old new : List (List (List ℕ))) (family : List (List ℕ)) → old ≡ map f (numbers n 0) → family ≡ f n → new ≡ old ++ family ∷ [] → new ≡ map f (numbers (n + 1) 0)
families_more f n old new family e h g = g ∙ ap₂ (λ xs x. xs ++ x ∷ []) e h ∙ sym (ap (map f) (numbers_more n) ∙ map-append f (numbers n 0) (n ∷ []))
