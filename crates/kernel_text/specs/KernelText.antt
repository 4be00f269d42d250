-- The text of a kernel. It has the first line, with the number of the format, then a block for each
-- class, ascending, and the end line, with the numbers of classes and members. A block has the
-- class line, the members, that the class is held if it is, the clauses, and the conflicting
-- classes with greater numbers.
use Rattle.std.specs.Prelude.{◌≡◌, ℕ, ◌<◌, Bool, true, false, eqb, ltb, List, [], ◌∷◌, ◌++◌, length}
use Rattle.std.specs.{Prelude.{map, filter}, List.{flat_map}}
use Rattle.listed.specs.Lists.{Ascending, In, has}
use Rattle.clause_pool.specs.Lists.{InOrder}
use Rattle.row_book.specs.{Numbers.{numbers}, Repository.{Repository, clauses_of, conflicts_of}}
use Rattle.row_book.specs.Sound.{SoundRepository}
use Rattle.kernel_text.specs.declared.member.Member.{Member}
use Rattle.kernel_text.specs.KernelLines.{KernelLine, HeadLine, ClassLine, MemberLine, HeldLine}
use Rattle.kernel_text.specs.KernelLines.{NeedsLine, AgainstLine, EndLine, line_text}
use Rattle.kernel_text.specs.Reading.{number_limit, is_same_member, IsFormat, IsNamed}

-- the members of a class
abbrev pub members_of : List Member → ℕ → List Member
members_of members n = filter (λ m. eqb m.class n) members

-- the greater classes that conflict with a class: each conflict is printed once, with its lesser
-- class
abbrev pub greater_conflicts : Repository → ℕ → List ℕ
greater_conflicts R n = filter (λ m. ltb n m) (conflicts_of R n)

abbrev pub line_of_member : Member → KernelLine
line_of_member m = MemberLine m.name m.version

-- a line if a class is held, else none
abbrev pub held_lines : Bool → List KernelLine
held_lines true = HeldLine ∷ []
held_lines false = []

-- the lines of a class
unfoldable pub class_lines : Repository → List Member → List ℕ → ℕ → List KernelLine
class_lines R members held n =
    ClassLine n ∷ (map line_of_member (members_of members n) ++ (held_lines (has held n)
    ++ (map NeedsLine (clauses_of R n) ++ map AgainstLine (greater_conflicts R n))))

unfoldable pub kernel_lines : ℕ → Repository → List Member → List ℕ → List KernelLine
kernel_lines format R members held =
    HeadLine format ∷ (flat_map (class_lines R members held) (numbers (length R.clauses) 0)
    ++ EndLine (length R.clauses) (length members) ∷ [])

unfoldable pub kernel_text : ℕ → Repository → List Member → List ℕ → List ℕ
kernel_text format R members held = flat_map line_text (kernel_lines format R members held)

-- the format of a kernel by whether classes may be held in it
abbrev pub format_of : Bool → ℕ
format_of true = 2
format_of false = 1

-- no member is the package of an earlier one
abbrev pub AreSingle : List Member → Type 0
AreSingle [] = Unit {0}
AreSingle (m ∷ ms) = ((o : Member) → In o ms → is_same_member o m ≡ false) × AreSingle ms

-- the held classes, as a format can write them: ascending, each one below `size`, and in format 1
-- none
pub record FitsFormat (format size : ℕ) (held : List ℕ) : Type 0 where
  pub known : IsFormat format
  pub ascending : Ascending held
  pub inside : (n : ℕ) → In n held → n < size
  pub none_in_first : format ≡ 1 → held ≡ []

-- A kernel with its members and its held classes, as the format can write it. There are fewer than
-- 4,294,967,295 classes and members. The members are in the order of their classes, at least one in
-- each class, each with a package name and a version, and no package twice. The clauses of a class
-- are in order, and none of them holds the class. The repository of the classes is sound. The held
-- classes are such that the format can write them.
pub record IsWritable (format : ℕ) (R : Repository) (members : List Member)
    (held : List ℕ) : Type 0 where
  pub few_classes : length R.clauses < number_limit
  pub few_members : length members < number_limit
  pub by_class : members ≡ flat_map (members_of members) (numbers (length R.clauses) 0)
  pub populated : (n : ℕ) → n < length R.clauses → 0 < length (members_of members n)
  pub named : (m : Member) → In m members → IsNamed m.name m.version
  pub single : AreSingle members
  pub order : (n : ℕ) → InOrder (clauses_of R n)
  pub apart : (n : ℕ) (c : List ℕ) → In c (clauses_of R n) → In n c → ⊥
  pub sound : SoundRepository R
  pub fits : FitsFormat format (length R.clauses) held
