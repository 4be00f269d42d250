-- for the bodies of this crate alone
-- The words of a line: its first, and what follows the space after it.
use Rattle.std.specs.Prelude.{◌≡◌, ℕ, ◌<◌, Bool, true, not, ◌==◌, List, [], ◌∷◌, ◌++◌, codes}
use Rattle.std.specs.{Prelude.{Option, Some, None}, Fmt.{decimal}, List.{flat_map, list_all}}
use Rattle.listed.specs.Lists.{In}
use Rattle.kernel_text.specs.declared.content.LineContent.{LineContent}
use Rattle.kernel_text.specs.declared.content.LineContent.TheVariants.{Head, Class, Member, Held}
use Rattle.kernel_text.specs.declared.content.LineContent.TheVariants.{Needs, Against, End}
use Rattle.kernel_text.specs.KernelLines.{KernelLine, HeadLine, ClassLine, MemberLine, HeldLine}
use Rattle.kernel_text.specs.KernelLines.{NeedsLine, AgainstLine, EndLine, behind_space, line_text}
use Rattle.kernel_text.specs.Reading.{IsFormat, IsNamed, number_limit}

-- after a word there is nothing, or a space and the rest
abbrev pub behind_word : Option (List ℕ) → List ℕ
behind_word None = []
behind_word (Some rest) = 32 ∷ rest

-- a text without a space
abbrev pub is_word : List ℕ → Bool
is_word text = list_all (λ c. not (c == 32)) text

-- the text is its first word and the rest
pub record IsCut (text first : List ℕ) (rest : Option (List ℕ)) : Type 0 where
  pub whole : text ≡ first ++ behind_word rest
  pub word : is_word first ≡ true

-- the first word of a line
abbrev pub first_word : KernelLine → List ℕ
first_word (HeadLine format) = codes "coinst-kernel"
first_word (ClassLine n) = codes "class"
first_word (MemberLine name version) = codes "member"
first_word HeldLine = codes "held"
first_word (NeedsLine clause) = codes "needs"
first_word (AgainstLine m) = codes "against"
first_word (EndLine classes members) = codes "end"

-- numbers, with a space between them
abbrev pub numbers_text : List ℕ → Option (List ℕ)
numbers_text [] = None
numbers_text (x ∷ xs) = Some (decimal x ++ flat_map behind_space xs)

abbrev pub other_words : KernelLine → Option (List ℕ)
other_words (HeadLine format) = Some (decimal format)
other_words (ClassLine n) = Some (decimal n)
other_words (MemberLine name version) = Some (name ++ 32 ∷ version)
other_words HeldLine = None
other_words (NeedsLine clause) = numbers_text clause
other_words (AgainstLine m) = Some (decimal m)
other_words (EndLine classes members) = Some (decimal classes ++ 32 ∷ decimal members)

-- its format is one of the two, its numbers are below the limit, and its name and its version are
-- such
abbrev pub IsWellFormed : KernelLine → Type 0
IsWellFormed (HeadLine format) = IsFormat format
IsWellFormed (ClassLine n) = n < number_limit
IsWellFormed (MemberLine name version) = IsNamed name version
IsWellFormed HeldLine = Unit {0}
IsWellFormed (NeedsLine clause) = (l : ℕ) → In l clause → l < number_limit
IsWellFormed (AgainstLine m) = m < number_limit
IsWellFormed (EndLine classes members) = (classes < number_limit) × (members < number_limit)

-- what was read of a line
abbrev pub line_of_content : LineContent → KernelLine
line_of_content (Head format) = HeadLine format
line_of_content (Class n) = ClassLine n
line_of_content (Member name version) = MemberLine name version
line_of_content Held = HeldLine
line_of_content (Needs clause) = NeedsLine clause
line_of_content (Against m) = AgainstLine m
line_of_content (End classes members) = EndLine classes members

-- the words are those of the line that was read, or of none
abbrev pub WordsAreRead : List ℕ → Option (List ℕ) → Option LineContent → Type 0
WordsAreRead word rest (Some content) =
    (word ≡ first_word (line_of_content content)) × (rest ≡ other_words (line_of_content content))
    × IsWellFormed (line_of_content content)
WordsAreRead word rest None = (line : KernelLine) → word ≡ first_word line →
    rest ≡ other_words line → IsWellFormed line → ⊥

-- the whole line is that of what was read, or of nothing
abbrev pub LineIsRead : List ℕ → Option LineContent → Type 0
LineIsRead text (Some content) =
    (text ≡ line_text (line_of_content content)) × IsWellFormed (line_of_content content)
LineIsRead text None = (line : KernelLine) → text ≡ line_text line → IsWellFormed line → ⊥

-- the numbers after the first word, or that something else follows it
abbrev pub NumbersRead : Option (List ℕ) → Option (List ℕ) → Type 0
NumbersRead rest (Some clause) =
    (rest ≡ numbers_text clause) × ((l : ℕ) → In l clause → l < number_limit)
NumbersRead rest None = (clause : List ℕ) → rest ≡ numbers_text clause →
    ((l : ℕ) → In l clause → l < number_limit) → ⊥
