-- The packages that bear names, and their classes by the table of a kernel.
use Rattle.std.specs.Prelude.{ℕ, ◌<◌, ◌==◌, ◌↔◌, Bool, not, List, length, map, filter}
use Rattle.std.specs.Prelude.{slice_index_or}
use Rattle.listed.specs.Lists.{Ascending, In}
use Rattle.row_book.specs.{Book.{listed_for}, Numbers.{numbers}}
use Rattle.row_book.specs.declared.lent_book.LentBook.{LentBook}
use Rattle.relation_fields.specs.declared.packages.Home.{Home}
use Rattle.relation_fields.specs.declared.packages.PackageFacts.{PackageFacts}
use Rattle.repo_model.specs.Goals.{any_version, packages_named}
use Rattle.suite_compare.specs.Asking.{image_of}

-- for each name the packages that bear it, of any version
abbrev pub bearers_of : List PackageFacts → List (List ℕ) → List (List ℕ)
bearers_of packages names = map (λ name. packages_named packages (any_version name)) names

-- these are lists of the book's packages, each ascending
pub record FitsKernel (lent : LentBook) (classes : List (List ℕ)) : Type 0 where
  pub ascending : (image : List ℕ) → In image classes → Ascending image
  pub within : (image : List ℕ) → In image classes → (k : ℕ) → In k image →
      k < length lent.book.now.rows

-- for each name the classes of the packages that bear it, of any version, in the kernel of some
-- packages
abbrev pub bearer_classes : ℕ → Bool → Home → List PackageFacts → List (List ℕ) → List (List ℕ)
bearer_classes limit hold home stanzas names =
    map (λ name. image_of limit hold home stanzas (any_version name)) names

-- these are the classes of some packages, ascending, by the class of each package
pub record AreClasses (class_of chosen image : List ℕ) : Type 0 where
  pub ascending : Ascending image
  pub same : (k : ℕ) → In k image ↔ In k (map (λ n. slice_index_or class_of n 0) chosen)

-- the places at which a list has an item
abbrev pub is_borne : List (List ℕ) → ℕ → Bool
is_borne lists place = not (length (listed_for lists place) == 0)

abbrev pub filled_places : List (List ℕ) → List ℕ
filled_places lists = filter (is_borne lists) (numbers (length lists) 0)
