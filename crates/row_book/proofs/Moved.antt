-- Books whose rows come into another pool.
use Rattle.std.proofs.Common.{◌≡◌, ℕ, ◌<◌, ◌+◌, List, [], ◌∷◌, ◌++◌, refl, sym, ◌∙◌, ap, ap₂, subst, length, get_or, take, map, length-append}
use Rattle.std.proofs.lemmas.List.{length-map, map-append}
use Rattle.std.specs.Prelude.{Option, Result, Ok, Err, IfOk}
use Rattle.clause_pool.proofs.Carried.{next_rows, one_more}
use Rattle.clause_pool.specs.{Interned.{Interned, IsPool, row_at}, Compacting.{Compacts, Renames, StandsFor}}
use Rattle.row_book.specs.{declared.book.Book.{Book}, Book.{IsSameBook, RowsFit}, Repository.{Repository}}
use Rattle.listed.specs.Lists.{In}
use Rattle.listed.proofs.Lists.{In_map, In_map_cases, In_none}

-- rows that denote the same clauses in the other pool make the same book
module _ (pool : Interned) (book : Book) (new : Interned) (moved : Book) (is : IsPool new) (same : map (row_at new) moved.rows ≡ map (row_at pool) book.rows)
    (conflicts : moved.conflicts ≡ book.conflicts) (within : (id : ℕ) → In id moved.rows → id < length new.rows) where
  size : length moved.rows ≡ length book.rows
  size = sym (length-map moved.rows (row_at new)) ∙ ap length same ∙ length-map book.rows (row_at pool)

  numbers_fit : RowsFit pool book.rows → (id : ℕ) → In id moved.rows → (c : List ℕ) → In c (row_at new id) → (n : ℕ) → In n c → n < length moved.rows
  numbers_fit fit id i c j n k =
      let w : (old : ℕ) × In old book.rows × (row_at new id ≡ row_at pool old) =
      In_map_cases (row_at pool) book.rows (row_at new id) (subst (λ z. In (row_at new id) z) same (In_map (row_at new) moved.rows id i)) in
      subst (λ z. n < z) (sym size) (fit.numbers w.0 w.1 c (subst (λ z. In c z) w.2 j) n k)

  pub same_book : IsSameBook pool book new moved
  same_book =
      let R : List (List (List ℕ)) → List (List ℕ) → Repository = λ xs ys. record { clauses = xs; conflicts = ys } in
      record {
        repository = ap₂ R same conflicts;
        sound = λ s. record {
          rows = record { is_pool = is; of_pool = within; numbers = numbers_fit s.rows };
          conflicts = rw conflicts s.conflicts;
        };
      }

-- what two clauses say of an answer together
pub ok_both : {B E : Type 0} (P Q R : B → Type 0) (result : Result B E) → ((b : B) → P b → Q b → R b) → IfOk result P → IfOk result Q → IfOk result R
ok_both P Q R (Ok b) f p q = f b p q
ok_both P Q R (Err e) f p q = tt

-- each of these rows was renamed
pub record RenamedTo (remap : List (Option ℕ)) (rows made : List ℕ) (i : ℕ) : Type 0 where
  pub size : length made ≡ i
  pub each : (old new : Interned) (live : List ℕ) → Compacts old live remap new →
      (map (row_at new) made ≡ map (row_at old) (take i rows)) × ((id : ℕ) → In id made → id < length new.rows)

pub renamed_none : (remap : List (Option ℕ)) (rows made : List ℕ) → made ≡ [] → RenamedTo remap rows made 0
renamed_none remap rows made e = record {
  size = ap length e;
  each = λ old new live k. (ap (map (row_at new)) e ∙ sym (ap (map (row_at old)) (take_none rows)), λ id i. absurd (In_none (subst (λ z. In id z) e i)));
}
  where
    take_none : (xs : List ℕ) → take 0 xs ≡ []
    take_none [] = refl
    take_none (x ∷ xs) = refl

pub renamed_more : (remap : List (Option ℕ)) (rows made more : List ℕ) (i row new_row : ℕ) → i < length rows → row ≡ get_or rows i row → Renames remap row new_row → more ≡ made ++ new_row ∷ [] →
    RenamedTo remap rows made i → RenamedTo remap rows more (i + 1)
renamed_more remap rows made more i row new_row l e r is done = record {
  size = ap length is ∙ length-append made (new_row ∷ []) ∙ ap (λ n. n + 1) done.size;
  each = λ old new live k.
      let s : StandsFor old row new new_row = k.same row new_row r in
      let d : (map (row_at new) made ≡ map (row_at old) (take i rows)) × ((id : ℕ) → In id made → id < length new.rows) = done.each old new live k in (
        ap (map (row_at new)) is ∙ map-append (row_at new) made (new_row ∷ []) ∙ ap₂ (λ xs x. xs ++ x ∷ []) d.0 s.same ∙ sym (next_rows old rows i row l e),
        subst (λ z. (id : ℕ) → In id z → id < length new.rows) (sym is) (one_more made new_row (length new.rows) d.1 s.within),
      );
}
