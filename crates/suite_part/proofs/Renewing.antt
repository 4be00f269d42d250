-- The rows of a base that becomes that of another part, one after another, while the pool grows.
use Rattle.std.proofs.Common.{◌≡◌, ℕ, zero, suc, ◌+◌, ◌<◌, List, [], ◌∷◌, ◌++◌, Bool, true, false, length, get_or, map, None, inl, inr, refl, sym, ◌∙◌, ap}
use Rattle.std.proofs.{Common.{subst, arith}, lemmas.Bool.{both_ways, cases_Bool, cases_eq}, lemmas.List.{get_or-map, length-map, length_push}}
use Rattle.std.specs.List.{range_with_len}
use Rattle.clause_pool.specs.Interned.{Interned, clauses_at, ids_at, row_at, IsPool, Kept, OfPool}
use Rattle.clause_pool.proofs.Interned.{clauses_kept, kept_along, kept_of_pool, kept_same}
use Rattle.clause_flatten.proofs.TidyFlat.{flat_row, flat_size}
use Rattle.listed.specs.Lists.{In}
use Rattle.listed.proofs.Lists.{In_at, In_map_cases, In_place, filter_cases}
use Rattle.row_book.specs.{declared.book.Book.{Book}, Book.{repository_of, AreConflicts, Sound}, Flags.{flag}, Flattening.{core_of, flat, passes}}
use Rattle.row_book.specs.{Parts.{clause_in, clauses_in, number_in, numbers_up, part, place_in}, Repository.{Repository, clauses_of}, Sound.{SoundRepository}}
use Rattle.row_book.specs.{Support.{row}, Uses.{row_id}}
use Rattle.row_book.proofs.{BookRepositories.{book_size, sound_repository}, Books.{clauses_row, in_listed}, Flags.{flag_in}, Numbered.{up_count, up_last}}
use Rattle.row_book.proofs.{Parts.{part_count}, Placed.{count_in, place_below, place_rises}}
use Rattle.suite_part.specs.{declared.{base.Base.{Base}, small.SmallBook.{SmallBook}}, BaseRows.{AreBaseRows}, Bases.{row_of_part, AreChanged, IsBase}}
use Rattle.suite_part.specs.{Mixes.{AreMixRows, AreRowsOfMix}, Renewed.{AreRenewed, AreRowsOf, IsNewRow, IsRenewed}}
use Rattle.suite_part.specs.Small.{IsSmallBook, LimitBySmall, RowsBySmall}
use Rattle.suite_part.proofs.Followed.{mix_follows_lem}
use Rattle.clause_families.proofs.Rewritten.{ids_ascend}

-- one more item
at_seam : (xs : List ℕ) (x n : ℕ) → n ≡ length xs → row_id (xs ++ x ∷ []) n ≡ x
at_seam [] x zero e = refl
at_seam [] x (suc n) e = absurd (omega arith)
at_seam (y ∷ xs) x zero e = absurd (omega arith)
at_seam (y ∷ xs) x (suc n) e = at_seam xs x n (omega arith)

at_front : (xs : List ℕ) (x k : ℕ) → k < length xs → row_id (xs ++ x ∷ []) k ≡ row_id xs k
at_front [] x k l = absurd (omega arith)
at_front (y ∷ xs) x zero l = refl
at_front (y ∷ xs) x (suc k) l = at_front xs x k (omega arith)

-- a row of which all clauses are there stays while the pool grows
whole_row : (old new : Interned) → Kept old new → (id : ℕ) → id < length old.rows → OfPool old (ids_at old id) → row_at new id ≡ row_at old id
whole_row old new k id l of = ap (clauses_at new) (k.rows id l).1 ∙ clauses_kept old new k (ids_at old id) of

-- the number at a place is that of a package
number_below : (flags : List Bool) (k : ℕ) → k < length (numbers_up flags) → number_in (numbers_up flags) k < length flags
number_below flags k l = flag_in flags (number_in (numbers_up flags) k) (filter_cases (flag flags) (range_with_len 0 (length flags)) (number_in (numbers_up flags) k) (In_at (numbers_up flags) k 0 l)).1

module _ (start from : Interned) (made : List ℕ) (apart changed : List Bool) (rows : List ℕ) where
  -- the pool has grown
  renewed_kept : (old new : Interned) (n row : ℕ) → Kept old new → IsRenewed from made apart changed old rows n row → IsRenewed from made apart changed new rows n row
  renewed_kept old new n row k r =
      let same : row_at new row ≡ row_at old row = whole_row old new k row r.within r.clauses in
      record {
        within = (k.rows row r.within).0;
        clauses = subst (OfPool new) (sym (k.rows row r.within).1) (kept_of_pool old new k (ids_at old row) r.clauses);
        numbers = λ c i. r.numbers c (subst (λ z. In c z) same i);
        stays = r.stays;
        new = λ id is. same ∙ r.new id is;
      }

  -- the rows of the packages before a number
  pub record RenewedTo (pool : Interned) (more : List ℕ) (n : ℕ) : Type 0 where
    pub count : length more ≡ n
    pub each : (m : ℕ) → m < n → IsRenewed from made apart changed pool rows m (row_id more m)
    pub kept : Kept start pool

  pub renewed_none : (more : List ℕ) → more ≡ [] → RenewedTo start more 0
  renewed_none more e = record { count = ap length e; each = λ m l. absurd (omega arith); kept = kept_same start }

  -- one more row
  pub renewed_more : (old new : Interned) (before after : List ℕ) (n row : ℕ) → Kept old new → after ≡ before ++ row ∷ [] → IsRenewed from made apart changed new rows n row
      → RenewedTo old before n → RenewedTo new after (n + 1)
  renewed_more old new before after n row k pushed one s = record {
    count = ap length pushed ∙ length_push before row ∙ ap (λ z. z + 1) s.count;
    each = λ m l. elim (cases_eq m n) [
      | inl same ↦ subst (λ z. IsRenewed from made apart changed new rows z (row_id after z)) (sym same)
          (subst (λ z. IsRenewed from made apart changed new rows n z) (sym (ap (λ z. row_id z n) pushed ∙ at_seam before row n (sym s.count))) one)
      | inr differs ↦
          let early : m < n = omega (arith, differs) in
          subst (λ z. IsRenewed from made apart changed new rows m z) (sym (ap (λ z. row_id z m) pushed ∙ at_front before row m (subst (λ z. m < z) (sym s.count) early)))
          (renewed_kept old new m (row_id before m) k (s.each m early))
    ];
    kept = kept_along start old new s.kept k;
  }

  pub renewed_all : (pool : Interned) (more : List ℕ) (n : ℕ) → n ≡ length rows → RenewedTo pool more n → AreRenewed from made apart changed pool rows more
  renewed_all pool more n e s = record { count = s.count ∙ e; each = λ m l. s.each m (omega (arith, e)) }

  -- a row that stays, while the pool has grown
  pub renewed_old : (pool : Interned) (n row : ℕ) → AreBaseRows start rows (length rows) → Kept start pool → n < length rows → row ≡ row_id rows n → ((id : ℕ) → IsNewRow made apart changed n id → ⊥)
      → IsRenewed from made apart changed pool rows n row
  renewed_old pool n row are k l same none =
      let i : In row rows = subst (λ z. In z rows) (sym same) (In_at rows n 0 l) in
      renewed_kept start pool n row k (record {
        within = are.of_pool row i;
        clauses = are.clauses row i;
        numbers = λ c j m u. are.numbers row i c j m u;
        stays = λ down. same;
        new = λ id is. absurd (none id is);
      })

  -- the place of a package in the part, and its row there
  pub new_place : (n : ℕ) → AreRowsOf from apart made → flag apart n ≡ true → place_in apart n < length made
  new_place n of up = subst (λ z. place_in apart n < z) (sym of.count) (place_rises apart n (length apart) up (flag_in apart n up))

  pub new_listed : (n id : ℕ) → AreRowsOf from apart made → IsNewRow made apart changed n id → In id made
  new_listed n id of new = subst (λ z. In z made) new.is (In_at made (place_in apart n) 0 (new_place n of new.there))

  -- a row that was taken back
  pub renewed_back : (pool : Interned) (n id row : ℕ) → IsPool pool → length rows ≡ length apart → AreRowsOf from apart made → IsNewRow made apart changed n id → row < length pool.rows
      → row_at pool row ≡ clauses_in (numbers_up apart) (row_at from id) → IsRenewed from made apart changed pool rows n row
  renewed_back pool n id row is size of new l same = record {
    within = l;
    clauses = is.of_pool row l;
    numbers = λ c i m j.
        let w : (d : List ℕ) × In d (row_at from id) × (c ≡ clause_in (numbers_up apart) d) = In_map_cases (clause_in (numbers_up apart)) (row_at from id) c (subst (λ z. In c z) same i) in
        let v : (k : ℕ) × In k w.0 × (m ≡ number_in (numbers_up apart) k) = In_map_cases (number_in (numbers_up apart)) w.0 m (subst (λ z. In m z) w.2 j) in
        let small : v.0 < length (numbers_up apart) = subst (λ z. v.0 < z) (of.count ∙ sym (up_last apart)) (of.numbers id (new_listed n id of new) w.0 w.1 v.0 v.1) in
        subst (λ z. z < length rows) (sym v.2) (subst (λ z. number_in (numbers_up apart) v.0 < z) (sym size) (number_below apart v.0 small));
    stays = λ down. absurd (both_ways (flag changed n) down new.changed_is);
    new = λ other told. same ∙ ap (λ z. clauses_in (numbers_up apart) (row_at from z)) (sym new.is ∙ told.is);
  }

-- the rows of a base stay so while its pool grows, and the new ones are such rows
pub base_rows_kept : (old new : Interned) (rows : List ℕ) (count : ℕ) → Kept old new → AreBaseRows old rows count → AreBaseRows new rows count
base_rows_kept old new rows count k are = record {
  size = are.size;
  of_pool = λ id i. (k.rows id (are.of_pool id i)).0;
  clauses = λ id i. subst (OfPool new) (sym (k.rows id (are.of_pool id i)).1) (kept_of_pool old new k (ids_at old id) (are.clauses id i));
  numbers = λ id i c j. are.numbers id i c (subst (λ z. In c z) (whole_row old new k id (are.of_pool id i) (are.clauses id i)) j);
}

-- one of the new rows, whichever package has it
record IsAmong (from : Interned) (made : List ℕ) (apart changed : List Bool) (pool : Interned) (rows : List ℕ) (id : ℕ) : Type 0 where
  pub place : ℕ
  pub is : IsRenewed from made apart changed pool rows place id

renewed_one : (from : Interned) (made : List ℕ) (apart changed : List Bool) (pool : Interned) (rows more : List ℕ) → AreRenewed from made apart changed pool rows more →
    (id : ℕ) → In id more → IsAmong from made apart changed pool rows id
renewed_one from made apart changed pool rows more are id i =
    let w : (n : ℕ) × (n < length more) × (get_or more n 0 ≡ id) = In_place more id 0 i in
    record { place = w.0; is = subst (λ z. IsRenewed from made apart changed pool rows w.0 z) w.2 (are.each w.0 (subst (λ z. w.0 < z) are.count w.1)) }

pub base_rows_renewed : (from : Interned) (made : List ℕ) (apart changed : List Bool) (pool : Interned) (rows more : List ℕ) (count : ℕ) → length rows ≡ count →
    AreRenewed from made apart changed pool rows more → AreBaseRows pool more count
base_rows_renewed from made apart changed pool rows more count size are = record {
  size = are.count ∙ size;
  of_pool = λ id i. (renewed_one from made apart changed pool rows more are id i).is.within;
  clauses = λ id i. (renewed_one from made apart changed pool rows more are id i).is.clauses;
  numbers = λ id i c j n u. subst (λ z. n < z) size ((renewed_one from made apart changed pool rows more are id i).is.numbers c j n u);
}

-- rows of a base are the rows of a sound repository
rows_sound : (pool : Interned) (rows : List ℕ) {count : ℕ} → IsPool pool → AreBaseRows pool rows count → (conflicts : List (List ℕ)) → length conflicts ≡ length (map (row_at pool) rows) → AreConflicts conflicts
    → length (map (row_at pool) rows) ≡ count → SoundRepository (record { clauses = map (row_at pool) rows; conflicts = conflicts })
rows_sound pool rows {count} is_pool are conflicts paired lists long = record {
  clauses = λ p c i.
      let l : p < length (map (row_at pool) rows) = in_listed (map (row_at pool) rows) p c i in
      let m : p < length rows = subst (λ z. p < z) (length-map rows (row_at pool)) l in
      let id : In (row_id rows p) rows = In_at rows p 0 m in
      let j : In c (row_at pool (row_id rows p)) = subst (λ cs. In c cs) (get_or-map (row_at pool) rows p 0 [] m) i in
      (ids_ascend pool (ids_at pool (row_id rows p)) is_pool (are.clauses (row_id rows p) id) c j, λ n k. subst (λ z. n < z) (sym long) (are.numbers (row_id rows p) id c j n k));
  count = paired;
  conflicts = lists;
}

-- the rows of a flattened part of a book
pub flat_rows_of : (work : Interned) (small : Book) (apart : List Bool) → Sound work small → length small.rows ≡ count_in apart → AreRowsOf work apart small.rows
flat_rows_of work small apart sound count = record {
  count = count ∙ sym (up_count apart) ∙ up_last apart;
  of_pool = sound.rows.of_pool;
  numbers = sound.rows.numbers;
}

-- and those of the flattened small book
pub flat_rows_made : (from : Interned) (book : Book) (flags changed : List Bool) (small : SmallBook) → Sound from book → IsSmallBook from book flags changed small → (limit : ℕ) (work : Interned) (flat_book : Book) →
    Sound work flat_book → repository_of work flat_book ≡ flat limit false (repository_of small.pool small.book) → AreRowsOf work small.apart.flags.items flat_book.rows
flat_rows_made from book flags changed small sound apart_is limit work flat_book flat_sound flat_is =
    flat_rows_of work flat_book small.apart.flags.items flat_sound
    (sym (book_size work flat_book) ∙ ap (λ R. length R.clauses) flat_is ∙ flat_size limit false (repository_of small.pool small.book) ∙ apart_is.small_is.count
    ∙ part_count (repository_of from book) (sound_repository from book sound.rows.is_pool sound) small.apart.flags.items apart_is.apart_are.count)

-- what the small book tells of the limit and the rows of the mix
small_follows : (from : Interned) (book : Book) (base : Base) (flags changed : List Bool) (small : SmallBook) → Sound from book → IsBase from book base → length changed ≡ length flags →
    AreChanged (repository_of from book) base.flags.items flags changed → IsSmallBook from book flags changed small →
    LimitBySmall base.limit (part flags (repository_of from book)) (repository_of small.pool small.book)
    × RowsBySmall from book base flags changed small.apart.flags.items (repository_of small.pool small.book)
small_follows from book base flags changed small sound is long same apart_is =
    mix_follows_lem from book base flags changed apart_is.needed small.apart.flags.items (repository_of small.pool small.book) (record {
      sound = sound;
      base_is = is;
      long = long;
      changed_are = same;
      needed_are = apart_is.needed_are.all;
      apart_are = apart_is.apart_are;
      small_is = apart_is.small_is;
    })

pub passes_there : (from : Interned) (book : Book) (base : Base) (flags changed : List Bool) (small : SmallBook) → Sound from book → IsBase from book base → length changed ≡ length flags →
    AreChanged (repository_of from book) base.flags.items flags changed → IsSmallBook from book flags changed small →
    passes base.limit false (part flags (repository_of from book)) ≡ None → passes base.limit false (repository_of small.pool small.book) ≡ None
passes_there from book base flags changed small sound is long same apart_is none = (small_follows from book base flags changed small sound is long same apart_is).0.there none

-- the rows of the mix, in the pool of the base
module _ (from : Interned) (book : Book) (base : Base) (flags changed : List Bool) (small : SmallBook) (sound : Sound from book) (is : IsBase from book base) (size : length flags ≡ length book.rows)
    (long : length changed ≡ length flags) (same : AreChanged (repository_of from book) base.flags.items flags changed) (apart_is : IsSmallBook from book flags changed small)
    (work : Interned) (flat_book : Book) (flat_sound : Sound work flat_book) (flat_is : repository_of work flat_book ≡ flat base.limit false (repository_of small.pool small.book))
    (own : AreBaseRows base.pool base.rows.items (length base.flags.items)) (pool : Interned) (more : List ℕ) (kept : Kept base.pool pool)
    (renewed : AreRenewed work flat_book.rows small.apart.flags.items changed pool base.rows.items more) where
  abbrev W : Repository
  W = repository_of from book

  abbrev S : Repository
  S = repository_of small.pool small.book

  abbrev apart : List Bool
  apart = small.apart.flags.items

  whole : SoundRepository W
  whole = sound_repository from book sound.rows.is_pool sound

  followed : LimitBySmall base.limit (part flags W) S × RowsBySmall from book base flags changed apart S
  followed = small_follows from book base flags changed small sound is long same apart_is

  many : length base.rows.items ≡ length flags
  many = own.size ∙ is.size ∙ sym size

  flat_count : length flat_book.rows ≡ count_in apart
  flat_count =
      sym (book_size work flat_book) ∙ ap (λ R. length R.clauses) flat_is ∙ flat_size base.limit false S ∙ apart_is.small_is.count ∙ part_count W whole apart apart_is.apart_are.count

  -- a row of the small book
  small_row : (k : ℕ) → k < count_in apart → row_at work (row_id flat_book.rows k) ≡ row S (core_of base.limit false S) k
  small_row k l =
      let m : k < length flat_book.rows = subst (λ z. k < z) (sym flat_count) l in
      let n : k < length S.clauses = subst (λ z. k < z) (sym (apart_is.small_is.count ∙ part_count W whole apart apart_is.apart_are.count)) l in
      sym (clauses_row work flat_book k m) ∙ ap (λ R. clauses_of R k) flat_is ∙ flat_row base.limit false S k n

  row_of_mix : (x : ℕ) → flag flags x ≡ true → row_at pool (row_id more x) ≡ row_of_part base.limit flags W x
  row_of_mix x up =
      let l : x < length base.rows.items = subst (λ z. x < z) (sym many) (flag_in flags x up) in
      let one : IsRenewed work flat_book.rows apart changed pool base.rows.items x (row_id more x) = renewed.each x l in
      let i : In (row_id base.rows.items x) base.rows.items = In_at base.rows.items x 0 l in
      elim (cases_Bool (flag changed x)) [
        | inl gone ↦
            let there : flag apart x ≡ true = apart_is.apart_are.own x (apart_is.needed_are.all x up gone) in
            one.new (row_id flat_book.rows (place_in apart x)) (record { there = there; changed_is = gone; is = refl })
            ∙ ap (clauses_in (numbers_up apart)) (small_row (place_in apart x) (place_below apart x there)) ∙ followed.1.made x up gone
        | inr f ↦
            ap (row_at pool) (one.stays f) ∙ whole_row base.pool pool kept (row_id base.rows.items x) (own.of_pool (row_id base.rows.items x) i) (own.clauses (row_id base.rows.items x) i)
            ∙ followed.1.stays x up f
      ]

  abbrev F : Repository
  F = record { clauses = map (row_at pool) more; conflicts = book.conflicts }

  count : length F.clauses ≡ length W.clauses
  count = length-map more (row_at pool) ∙ renewed.count ∙ own.size ∙ is.size ∙ sym (book_size from book)

  rows_are : AreRowsOfMix base.limit W flags F
  rows_are = record {
    whole = whole;
    sound = rows_sound pool more (kept.sound is.is_pool) (base_rows_renewed work flat_book.rows apart changed pool base.rows.items more (length base.flags.items) own.size renewed) book.conflicts
        (whole.count ∙ sym count) sound.conflicts (count ∙ book_size from book ∙ sym is.size);
    size = size ∙ sym (book_size from book);
    count = count;
    conflicts = refl;
    rows = λ p up. get_or-map (row_at pool) more p 0 [] (subst (λ z. p < z) (sym (renewed.count ∙ many)) (flag_in flags p up)) ∙ row_of_mix p up;
  }

  -- a base with this pool has them
  abbrev rows_by : Interned → Repository
  rows_by p = record { clauses = map (row_at p) more; conflicts = book.conflicts }

  mix_made : (made : Base) → made.pool ≡ pool → made.limit ≡ base.limit → passes base.limit false S ≡ None → AreMixRows from book made flags more
  mix_made made same_pool same_limit none = record {
    is_pool = subst IsPool (sym same_pool) (kept.sound is.is_pool);
    base_rows = subst (λ p. AreBaseRows p more (length flags)) (sym same_pool) (base_rows_renewed work flat_book.rows apart changed pool base.rows.items more (length flags) many renewed);
    are = subst (λ l. AreRowsOfMix l W flags (rows_by made.pool)) (sym same_limit) (subst (λ p. AreRowsOfMix base.limit W flags (rows_by p)) (sym same_pool) rows_are);
    within = subst (λ l. passes l false (part flags W) ≡ None) (sym same_limit) (followed.0.back none);
  }

  pub mix_rows : (made : Base) (rows : List ℕ) → made.pool ≡ pool → made.limit ≡ base.limit → more ≡ rows → passes base.limit false S ≡ None → AreMixRows from book made flags rows
  mix_rows made rows same_pool same_limit same_rows none = subst (λ z. AreMixRows from book made flags z) same_rows (mix_made made same_pool same_limit none)

-- a base whose pool has grown
pub base_kept : (from : Interned) (book : Book) (base made : Base) → IsBase from book base → AreBaseRows base.pool base.rows.items (length base.flags.items) → Kept base.pool made.pool →
    made.flags.items ≡ base.flags.items → made.limit ≡ base.limit → made.rows.items ≡ base.rows.items → made.users ≡ base.users → IsBase from book made
base_kept from book base made is own kept same_flags same_limit same_rows users = record {
  is_pool = kept.sound is.is_pool;
  size = ap length same_flags ∙ is.size;
  rows = rw (same_flags, same_limit, same_rows) (λ n up.
      let l : n < length base.rows.items = subst (λ z. n < z) (sym own.size) (flag_in base.flags.items n up) in
      let i : In (row_id base.rows.items n) base.rows.items = In_at base.rows.items n 0 l in
      whole_row base.pool made.pool kept (row_id base.rows.items n) (own.of_pool (row_id base.rows.items n) i) (own.clauses (row_id base.rows.items n) i) ∙ is.rows n up);
  none_passes = rw (same_flags, same_limit) is.none_passes;
  users_are = users ∙ is.users_are;
}

-- a base that follows a mix
pub base_followed : (from : Interned) (book : Book) (base made : Base) (flags : List Bool) (rows : List ℕ) → IsBase from book base → AreMixRows from book base flags rows →
    made.flags.items ≡ flags → made.limit ≡ base.limit → made.pool ≡ base.pool → made.rows.items ≡ rows → made.users ≡ base.users → IsBase from book made
base_followed from book base made flags rows is mix same_flags same_limit same_pool same_rows users = record {
  is_pool = subst IsPool (sym same_pool) is.is_pool;
  size = ap length same_flags ∙ mix.are.size ∙ book_size from book;
  rows = rw (same_flags, same_limit, same_pool, same_rows) (λ n up.
      let l : n < length rows = subst (λ z. n < z) (sym mix.base_rows.size) (flag_in flags n up) in
      sym (get_or-map (row_at base.pool) rows n 0 [] l) ∙ mix.are.rows n up);
  none_passes = rw (same_flags, same_limit) mix.within;
  users_are = users ∙ is.users_are;
}
