-- for the bodies of this crate alone
-- What the parts of the writer append to a text, and the packages of each class by their numbers.
use Rattle.std.specs.Prelude.{◌≡◌, ℕ, ◌<◌, Bool, eqb, List, ◌++◌, length, filter, slice_index}
use Rattle.std.specs.List.{flat_map}
use Rattle.relation_fields.specs.declared.packages.PackageFacts.{PackageFacts}
use Rattle.row_book.specs.{Book.{listed_for}, Numbers.{numbers}, Flags.{flag}}
use Rattle.row_book.specs.Repository.{Repository, clauses_of}
use Rattle.listed.specs.Lists.{In, has}
use Rattle.repo_model.specs.Stanzas.{stanza_at}
use Rattle.kernel_text.specs.KernelLines.{KernelLine, ClassLine, MemberLine, NeedsLine, AgainstLine}
use Rattle.kernel_text.specs.{KernelLines.{line_text}, KernelText.{greater_conflicts, held_lines}}

-- a line for each element
abbrev pub lines_text : {A : Type 0} → (A → KernelLine) → List A → List ℕ
lines_text line xs = flat_map (λ x. line_text (line x)) xs

abbrev pub line_of_package : PackageFacts → KernelLine
line_of_package facts = MemberLine facts.name facts.version

-- the block of a class; the table has its packages by their numbers, and it is held or not
unfoldable pub block_text : Repository → List PackageFacts → List (List ℕ) → Bool → ℕ → List ℕ
block_text R packages table held n =
    line_text (ClassLine n)
    ++ (lines_text (λ i. line_of_package (stanza_at packages i)) (listed_for table n)
    ++ (flat_map line_text (held_lines held)
    ++ (lines_text NeedsLine (clauses_of R n) ++ lines_text AgainstLine (greater_conflicts R n))))

-- the flags say of each class whether it is one of the held
pub record TellHeld (flags : List Bool) (held : List ℕ) (size : ℕ) : Type 0 where
  pub count : length flags ≡ size
  pub each : (n : ℕ) → n < size → flag flags n ≡ has held n

-- the numbers of the table are of packages
abbrev pub NumbersPackages : List (List ℕ) → List PackageFacts → Type 0
NumbersPackages table packages = (n i : ℕ) → In i (listed_for table n) → i < length packages

-- of the first `count` packages those of a class, ascending
abbrev pub numbers_of_class : List ℕ → ℕ → ℕ → List ℕ
numbers_of_class class_of count n = filter (λ i. eqb (slice_index class_of i) n) (numbers count 0)

-- the table has for each class the numbers of its packages, among the first `taken` ones
pub record IsByClass (class_of : List ℕ) (taken size : ℕ) (table : List (List ℕ)) : Type 0 where
  pub count : length table ≡ size
  pub each : (n : ℕ) → n < size → listed_for table n ≡ numbers_of_class class_of taken n
