-- Facts on books, needs and repositories have one proof at most, so that a struct may keep them as
-- ghost fields.
use Rattle.std.specs.Prelude.{◌≡◌, ℕ, Bool, List, refl}
use Rattle.std.specs.Coded.{Coded, Coded-set, code_by, coded×, coded_list, coded_ℕ, coded_bool}
use Rattle.std.specs.Coded.{le_prop}
use Rattle.clause_pool.specs.{Interned.{Interned}, Props.{Ascending-prop, IsPool-prop}}
use Rattle.row_book.specs.{Book.{AreConflicts, Sound}, Needs.{AreNeeds, IsNeed}}
use Rattle.row_book.specs.{Repository.{Repository}, declared.book.Book.{Book}}

bool-set : IsSet Bool
bool-set = Coded-set coded_bool

conflicts-prop : (table : List (List ℕ)) → IsProp (AreConflicts table)
conflicts-prop table = hlevel (Ascending-prop, bool-set)

-- a book is sound
pub Sound-prop : (pool : Interned) (book : Book) → IsProp (Sound pool book)
Sound-prop pool book = hlevel (IsPool-prop, conflicts-prop, le_prop)

IsNeed-prop : (clause : List ℕ) → IsProp (IsNeed clause)
IsNeed-prop clause = hlevel (Ascending-prop, le_prop)

-- clauses are needs
pub AreNeeds-prop : (clauses : List (List ℕ)) → IsProp (AreNeeds clauses)
AreNeeds-prop clauses = hlevel IsNeed-prop

abbrev pub repository_code : Coded Repository
repository_code =
    code_by (List (List (List ℕ)) × List (List ℕ))
    (coded× (coded_list (coded_list (coded_list coded_ℕ))) (coded_list (coded_list coded_ℕ)))
    (λ R. (R.clauses, R.conflicts)) (λ p. record { clauses = p.0; conflicts = p.1 }) (λ _. refl)

-- two repositories are the same
pub Same-prop : (R S : Repository) → IsProp (R ≡ S)
Same-prop R S = Coded-set repository_code R S
