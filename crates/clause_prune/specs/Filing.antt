-- for the bodies of this crate alone
--
-- Which packages, if installed, see to it that a clause is hit: its members, and packages with a
-- clause that lies within it. The first number of such a clause is a member, if it has one. So a
-- package is filed under the first number of its clause, and found by the members.
use Rattle.std.specs.Prelude.{◌≡◌, ◌<◌, ◌%◌, ◌⊎◌, ◌&&◌, ◌||◌, ℕ, Bool, true, eqb, List, [], ◌∷◌}
use Rattle.std.specs.{Prelude.{length, map, slice_index_or}, List.{list_any}, Global.{Vec}}
use Rattle.clause_pool.specs.Interned.{Interned, clause_at}
use Rattle.listed.specs.Lists.{In, has, is_inside}
use Rattle.row_book.specs.{Repository.{Repository, clauses_of}, Pruning.{serves}}
use Rattle.clause_prune.specs.{Tests.{with_ids}, declared.filing.Entry.{Entry}}

-- the packages that are asked about every clause, and lists of packages with clauses that they have
pub record Filed : Type 0 where
  pub always : List ℕ
  pub lists : List (List Entry)

abbrev pub entries_in : List (Vec Entry) → List (List Entry)
entries_in lists = map (λ v. v.items) lists

abbrev pub filed_in : List ℕ → List (Vec Entry) → Filed
filed_in always lists = record { always = always; lists = entries_in lists }

-- the list at a place
abbrev pub entries_at : List (List Entry) → ℕ → List Entry
entries_at lists place = slice_index_or lists place []

-- the list of a number, which other numbers share
abbrev pub under : List (List Entry) → ℕ → List Entry
under lists number = entries_at lists (number % length lists)

-- the list has the package with this clause
pub record Stands (pool : Interned) (entries : List Entry) (n : ℕ) (c : List ℕ) : Type 0 where
  pub entry : Entry
  pub there : In entry entries
  pub holder : entry.holder ≡ n
  pub clause : clause_at pool entry.clause ≡ c

-- the package is filed for its clause: among those that are always asked, or under the first number
-- of the clause if that is one of the members
abbrev pub IsFiled : Interned → List ℕ → Filed → List ℕ → ℕ → Type 0
IsFiled pool members f [] n = In n f.always
IsFiled pool members f (x ∷ c) n = In x members →
    In n f.always ⊎ Stands pool (under f.lists x) n (x ∷ c)

-- whether the entry is of the package, and its clause lies within d
abbrev pub tells_within : Interned → List ℕ → ℕ → Entry → Bool
tells_within pool d n e = eqb n e.holder && is_inside (clause_at pool e.clause) d

-- whether one of the entries is of the package with a clause within d
abbrev pub tell_within : Interned → List Entry → List ℕ → ℕ → Bool
tell_within pool entries d n = list_any (tells_within pool d n) entries

-- whether the package is filed under a member of d with a clause within d
abbrev pub filed_within : Interned → List (List Entry) → List ℕ → ℕ → Bool
filed_within pool lists d n = list_any (λ x. tell_within pool (under lists x) d n) d

-- whether the package is asked about every clause, or filed under a member of d with a clause
-- within d
abbrev pub asks : Interned → Filed → List ℕ → ℕ → Bool
asks pool f d n = has f.always n || filed_within pool f.lists d n

-- Of the members of the clauses, each that sees to it that the clause d is hit is asked. It is a
-- member of d, asked about every clause, or filed with a clause within d.
abbrev pub AsksServing : Interned → Repository → List (List ℕ) → Filed → List ℕ → Type 0
AsksServing pool R cs f d = (c : List ℕ) → In c cs → (n : ℕ) → In n c → serves R d n ≡ true →
    (has d n || asks pool f d n) ≡ true

-- the clause is of the pool, and the package has it whatever is left of the pruned package p
pub record HasClause (pool : Interned) (rows : List ℕ) (p : ℕ) (e : Entry) : Type 0 where
  pub of_pool : e.clause < length pool.clauses
  pub has : (left : List ℕ) →
      In (clause_at pool e.clause) (clauses_of (with_ids pool rows p left []) e.holder)

-- each entry is such a clause, and only packages are always asked
pub record FiledFor (pool : Interned) (rows : List ℕ) (p : ℕ) (f : Filed) : Type 0 where
  pub always : (n : ℕ) → In n f.always → n < length rows
  pub lists : (place : ℕ) (e : Entry) → In e (entries_at f.lists place) → HasClause pool rows p e

-- all clauses of the entries are of the pool
abbrev pub AreOfPool : Interned → List (List Entry) → Type 0
AreOfPool pool lists = (place : ℕ) (e : Entry) → In e (entries_at lists place) →
    e.clause < length pool.clauses

-- the lists keep what they had, and only the entry came
pub record Gains (entry : Entry) (old new : List (List Entry)) : Type 0 where
  pub size : length new ≡ length old
  pub stays : (place : ℕ) (e : Entry) → In e (entries_at old place) → In e (entries_at new place)
  pub came : (place : ℕ) (e : Entry) → In e (entries_at new place) →
      In e (entries_at old place) ⊎ (e ≡ entry)

-- the entry is of the package, which is not p, and has one of these clauses
pub record IsOf (p other : ℕ) (row : List ℕ) (e : Entry) : Type 0 where
  pub holder : e.holder ≡ other
  pub apart : other ≡ p → ⊥
  pub clause : In e.clause row

-- the lists keep what they had, and only the package came, with clauses of the row
pub record Takes (p other : ℕ) (row : List ℕ) (old new : Filed) : Type 0 where
  pub size : length new.lists ≡ length old.lists
  pub always : (n : ℕ) → In n old.always → In n new.always
  pub lists : (place : ℕ) (e : Entry) → In e (entries_at old.lists place) →
      In e (entries_at new.lists place)
  pub always_came : (n : ℕ) → In n new.always → In n old.always ⊎ (n ≡ other)
  pub lists_came : (place : ℕ) (e : Entry) → In e (entries_at new.lists place) →
      In e (entries_at old.lists place) ⊎ IsOf p other row e
