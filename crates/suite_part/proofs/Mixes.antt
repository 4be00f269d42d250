-- The rows of a mix in the numbers of all packages: their part is the flattened part, and their groups are its classes.
use Rattle.std.proofs.Common.{◌≡◌, ℕ, ◌<◌, Bool, true, false, List, [], ◌∷◌, length, map, refl, sym, ◌∙◌, ap, ap₂, subst, arith}
use Rattle.row_book.specs.{Parts.{chosen_in, clause_in, clauses_in, number_in, numbers_up, part, place_in}, declared.book.Book.{Book}, Book.{repository_of}}
use Rattle.row_book.specs.{Flags.{flag}, Flattening.{core_of, flat}, Merging.{class_of, quotient}, Repository.{Repository, clauses_of}, Sound.{SoundRepository}}
use Rattle.row_book.specs.Support.{row}
use Rattle.row_book.proofs.{Numbered.{number_back, up_ascends, up_count}, PartSound.{part_sound}, Placed.{HasPlace, at_place, count_in, place_below}}
use Rattle.row_book.proofs.{Parts.{part_clauses, part_count}, BookRepositories.{book_size}, Repositories.{ranged, repository_same, table_same}}
use Rattle.class_merge.specs.{Masks.{AreGrouped, IsMasked, IsQuotientOfPart, masked_repository, IsMaskOfRows}, declared.masked.MaskedRows.{MaskedRows}}
use Rattle.class_merge.proofs.Quotients.{quotient_of_part_lem}
use Rattle.std.specs.List.{items_where_true}
use Rattle.clause_pool.specs.{Compacting.{RowsOf}, Interned.{Interned, IsPool, row_at}, Lists.{InOrder}}
use Rattle.suite_part.specs.{declared.base.Base.{Base}, Mixes.{repository_in, AreMixRows, AreRowsOfMix, IsMergedMix, MergedMix}}
use Rattle.clause_flatten.proofs.TidyFlat.{flat_conflicts, flat_order, flat_row, flat_size, flat_sound}
use Rattle.listed.specs.Lists.{In, here, there}
use Rattle.listed.proofs.Lists.{In_map_cases}
use Rattle.suite_part.proofs.Backs.{clauses_in_order}

-- a place as a number, and back
module _ (flags : List Bool) where
  abbrev number : ℕ → ℕ
  number = number_in (numbers_up flags)

  number_up : (k : ℕ) → k < count_in flags → flag flags (number k) ≡ true
  number_up k l = let h : HasPlace flags k = at_place flags k l in subst (λ z. flag flags z ≡ true) (sym (ap number (sym h.is) ∙ number_back flags h.number h.up)) h.up

  place_back : (k : ℕ) → k < count_in flags → place_in flags (number k) ≡ k
  place_back k l = let h : HasPlace flags k = at_place flags k l in ap (place_in flags) (ap number (sym h.is) ∙ number_back flags h.number h.up) ∙ h.is

  clause_away : (c : List ℕ) → ((n : ℕ) → In n c → n < count_in flags) → map (place_in flags) (clause_in (numbers_up flags) c) ≡ c
  clause_away [] l = refl
  clause_away (n ∷ c) l = ap₂ (λ x xs. x ∷ xs) (place_back n (l n here)) (clause_away c (λ m i. l m (there i)))

  clauses_away : (cs : List (List ℕ)) → ((c : List ℕ) → In c cs → (n : ℕ) → In n c → n < count_in flags) → map (map (place_in flags)) (clauses_in (numbers_up flags) cs) ≡ cs
  clauses_away [] l = refl
  clauses_away (c ∷ cs) l = ap₂ (λ x xs. x ∷ xs) (clause_away c (l c here)) (clauses_away cs (λ d i. l d (there i)))

part_lists : (flags : List Bool) (R S : Repository) → R.conflicts ≡ S.conflicts → (part flags R).conflicts ≡ (part flags S).conflicts
unfolding part
part_lists flags R S e = ap (λ z. map (chosen_in flags) (items_where_true flags z)) e

module _ (limit : ℕ) (W : Repository) (flags : List Bool) (F : Repository) (are : AreRowsOfMix limit W flags F) where
  abbrev P : Repository
  P = part flags W

  abbrev L : Repository
  L = flat limit false P

  abbrev own_row : ℕ → List (List ℕ)
  own_row k = row P (core_of limit false P) k

  sized : length flags ≡ length F.clauses
  sized = are.size ∙ sym are.count

  sound : SoundRepository P
  sound = part_sound W flags are.whole are.size

  flat_is_sound : SoundRepository L
  flat_is_sound = flat_sound limit false P sound

  count : length P.clauses ≡ count_in flags
  count = part_count W are.whole flags are.size

  flat_count : length L.clauses ≡ count_in flags
  flat_count = flat_size limit false P ∙ count

  row_is : (k : ℕ) → k < count_in flags → clauses_of L k ≡ own_row k
  row_is k l = flat_row limit false P k (subst (λ z. k < z) (sym count) l)

  row_range : (k : ℕ) → k < count_in flags → (c : List ℕ) → In c (own_row k) → (n : ℕ) → In n c → n < count_in flags
  row_range k l c i n j = subst (λ z. n < z) flat_count (ranged L flat_is_sound k c (subst (λ z. In c z) (sym (row_is k l)) i) n j)

  -- the rows in the numbers of all are in order, and name packages of the mix alone
  order : (p : ℕ) → flag flags p ≡ true → InOrder (clauses_of F p)
  order p up =
      let l : place_in flags p < count_in flags = place_below flags p up in
      subst InOrder (sym (are.rows p up))
      (clauses_in_order (numbers_up flags) (own_row (place_in flags p)) (up_ascends flags) (λ c i n j. subst (λ z. n < z) (sym (up_count flags)) (row_range (place_in flags p) l c i n j))
      (subst InOrder (row_is (place_in flags p) l) (flat_order limit false P (place_in flags p))))

  closed : (p : ℕ) → flag flags p ≡ true → (c : List ℕ) → In c (clauses_of F p) → (n : ℕ) → In n c → flag flags n ≡ true
  closed p up c i n j =
      let w : (d : List ℕ) × In d (own_row (place_in flags p)) × (c ≡ clause_in (numbers_up flags) d) =
      In_map_cases (clause_in (numbers_up flags)) (own_row (place_in flags p)) c (subst (λ z. In c z) (are.rows p up) i) in
      let v : (m : ℕ) × In m w.0 × (n ≡ number_in (numbers_up flags) m) = In_map_cases (number_in (numbers_up flags)) w.0 n (subst (λ z. In n z) w.2 j) in
      subst (λ z. flag flags z ≡ true) (sym v.2) (number_up flags v.0 (row_range (place_in flags p) (place_below flags p up) w.0 w.1 v.0 v.1))

  masked : IsMasked F flags
  masked = record { sound = are.sound; size = sized; order = order; closed = closed }

  row_back : (p : ℕ) → flag flags p ≡ true → clauses_of (part flags F) (place_in flags p) ≡ clauses_of L (place_in flags p)
  row_back p up =
      let l : place_in flags p < count_in flags = place_below flags p up in
      part_clauses F are.sound flags sized p up (closed p up) (order p up) ∙ ap (map (map (place_in flags))) (are.rows p up)
      ∙ clauses_away flags (own_row (place_in flags p)) (row_range (place_in flags p) l) ∙ sym (row_is (place_in flags p) l)

  own_count : length (part flags F).clauses ≡ count_in flags
  own_count = part_count F are.sound flags sized

  rows_back : (part flags F).clauses ≡ L.clauses
  rows_back = table_same (part flags F).clauses L.clauses (own_count ∙ sym flat_count) (λ k l.
      let h : HasPlace flags k = at_place flags k (subst (λ z. k < z) own_count l) in
      subst (λ z. clauses_of (part flags F) z ≡ clauses_of L z) h.is (row_back h.number h.up))

  flat_back : part flags F ≡ L
  flat_back = repository_same (part flags F) L rows_back (part_lists flags F W are.conflicts ∙ sym (flat_conflicts limit false P))

  merged : (least group_of : List ℕ) → AreGrouped F flags least group_of → IsMergedMix limit W flags F least group_of
  merged least group_of grouped =
      let q : IsQuotientOfPart F flags least group_of = quotient_of_part_lem F flags least group_of masked grouped in
      record {
        clauses = q.clauses ∙ ap (λ R. (quotient R).clauses) flat_back;
        conflicts = q.conflicts ∙ ap (λ R. (quotient R).conflicts) flat_back;
        classes = λ p up. q.classes p up ∙ ap (λ R. class_of R (place_in flags p)) flat_back;
      }

pub merged_mix_lem : MergedMix
merged_mix_lem limit W flags F least group_of are grouped = merged limit W flags F are least group_of grouped

-- rows in the pool of a base as a mask
module _ (from : Interned) (book : Book) (base : Base) (flags : List Bool) (rows : List ℕ) (are : AreMixRows from book base flags rows)
    (given : MaskedRows) (pool_is : given.pool.now ≡ base.pool) (rows_are : given.rows.now ≡ rows) (lists_are : given.conflicts.now ≡ book.conflicts) (flags_are : given.flags.now ≡ flags) where
  abbrev W : Repository
  W = repository_of from book

  abbrev F : Repository
  F = repository_in base book rows

  same : masked_repository given ≡ F
  same = repository_same (masked_repository given) F (ap₂ (λ p ids. map (row_at p) ids) pool_is rows_are) lists_are

  pub rows_masked : IsMaskOfRows given
  rows_masked = record {
    is_pool = subst IsPool (sym pool_is) are.is_pool;
    of_pool = subst (λ p. RowsOf p given.rows.now) (sym pool_is) (subst (λ ids. RowsOf base.pool ids) (sym rows_are) are.base_rows.of_pool);
    few = subst (λ ids. length ids < 4294967295) (sym rows_are) (let f : length book.rows < 4294967295 = book.few in omega (arith, f, are.base_rows.size, are.are.size, book_size from book));
    mask = subst (λ R. IsMasked R given.flags.now) (sym same) (subst (λ z. IsMasked F z) (sym flags_are) (masked base.limit W flags F are.are));
  }

  pub rows_flat : part flags (masked_repository given) ≡ flat base.limit false (part flags W)
  rows_flat = ap (part flags) same ∙ flat_back base.limit W flags F are.are
