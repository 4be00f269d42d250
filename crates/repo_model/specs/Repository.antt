-- The repository of an index has a package for each stanza. It has a clause for each element of its
-- dependencies, equal ones once, in lexicographic order; and the conflicts between packages.
-- Vouillon and Di Cosmo, "On Software Component Co-Installability".
use Rattle.std.specs.Prelude.{ℕ, Bool, not, ◌&&◌, ◌||◌, eqb, List, map, filter, length}
use Rattle.std.specs.{List.{list_any, range_with_len}, Str.{bytes_eq}}
use Rattle.clause_pool.specs.Clauses.{in_row_order}
use Rattle.relation_fields.specs.{Meeting.{meets}, declared.packages.Home.{Home}}
use Rattle.relation_fields.specs.declared.packages.PackageFacts.{PackageFacts}
use Rattle.relation_fields.specs.declared.relations.Atom.{Atom}
use Rattle.repo_model.specs.Stanzas.{stanza_at}
use Rattle.row_book.specs.Repository.{Repository}

-- the numbers of all stanzas
abbrev pub packages_of : List PackageFacts → List ℕ
packages_of stanzas = range_with_len 0 (length stanzas)

-- the stanza meets an alternative of the element
abbrev pub meets_any : Home → List Atom → PackageFacts → Bool
meets_any home element s = list_any (λ atom. meets atom s home) element

-- the clause of an element: all packages that meet one of its alternatives, ascending
abbrev pub clause_of : Home → List PackageFacts → List Atom → List ℕ
clause_of home stanzas element =
    filter (λ n. meets_any home element (stanza_at stanzas n)) (packages_of stanzas)

-- the clauses of a stanza
abbrev pub row_of : Home → List PackageFacts → PackageFacts → List (List ℕ)
row_of home stanzas s = in_row_order (map (clause_of home stanzas) s.needs)

-- the second meets one of the conflicts of the first
abbrev pub stands_against : Home → PackageFacts → PackageFacts → Bool
stands_against home s t = list_any (λ atom. meets atom t home) s.against

-- two distinct packages conflict: they have the same name, or one meets a conflict of the other
abbrev pub in_conflict : Home → List PackageFacts → ℕ → ℕ → Bool
in_conflict home stanzas m n =
    not (eqb m n) &&
    (bytes_eq (stanza_at stanzas m).name (stanza_at stanzas n).name ||
    (stands_against home (stanza_at stanzas m) (stanza_at stanzas n)
    || stands_against home (stanza_at stanzas n) (stanza_at stanzas m)))

-- the packages that conflict with the package, ascending
abbrev pub conflicting_with : Home → List PackageFacts → ℕ → List ℕ
conflicting_with home stanzas m = filter (in_conflict home stanzas m) (packages_of stanzas)

unfoldable pub suite_repository : Home → List PackageFacts → Repository
suite_repository home stanzas = record {
  clauses = map (λ n. row_of home stanzas (stanza_at stanzas n)) (packages_of stanzas);
  conflicts = map (conflicting_with home stanzas) (packages_of stanzas);
}
