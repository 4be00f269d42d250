-- The lines of a kernel text, formats 1 and 2, and the bytes of each kind of line.
use Rattle.std.specs.{Prelude.{ℕ, ◌==◌, List, [], ◌∷◌, ◌++◌, codes, if◌then◌else◌}, Fmt.{decimal}}
use Rattle.std.specs.List.{flat_map, onto_first}

-- the text cut after each line feed, which stays with its line; what follows the last one is a line
-- without one
abbrev pub lines_of : List ℕ → List (List ℕ)
lines_of [] = []
lines_of (b ∷ bs) = if b == 10 then (b ∷ []) ∷ lines_of bs else onto_first b (lines_of bs)

-- A line of a kernel text by what it says. `HeadLine`: the first line, with the number of the
-- format. `ClassLine`: the number of a class. `MemberLine`: a member by its name and version.
-- `HeldLine`: the class is held. `NeedsLine`: a clause of the class by its numbers. `AgainstLine`:
-- the number of a conflicting class. `EndLine`: the numbers of class and member lines.
pub data KernelLine : Type 0 where
  HeadLine : ℕ → KernelLine
  ClassLine : ℕ → KernelLine
  MemberLine : List ℕ → List ℕ → KernelLine
  HeldLine : KernelLine
  NeedsLine : List ℕ → KernelLine
  AgainstLine : ℕ → KernelLine
  EndLine : ℕ → ℕ → KernelLine

-- a text and the line feed that ends its line
abbrev pub with_feed : List ℕ → List ℕ
with_feed text = text ++ 10 ∷ []

-- a number after a space, in decimal digits and without leading zeros
abbrev pub behind_space : ℕ → List ℕ
behind_space n = 32 ∷ decimal n

-- the bytes of a line
unfoldable pub line_text : KernelLine → List ℕ
line_text (HeadLine format) = with_feed (codes "coinst-kernel" ++ behind_space format)
line_text (ClassLine n) = with_feed (codes "class" ++ behind_space n)
line_text (MemberLine name version) = with_feed (codes "member " ++ name ++ 32 ∷ version)
line_text HeldLine = with_feed (codes "held")
line_text (NeedsLine clause) = with_feed (codes "needs" ++ flat_map behind_space clause)
line_text (AgainstLine m) = with_feed (codes "against" ++ behind_space m)
line_text (EndLine classes members) =
    with_feed (codes "end" ++ behind_space classes ++ behind_space members)
