-- The words of a line, and the lines of a kernel text that they may be of: one of each kind.
use Rattle.std.specs.Prelude.{ℕ, ◌==◌, ◌||◌, Bool, List, [], ◌∷◌, drop, get_or, map, if◌then◌else◌}
use Rattle.std.specs.List.{onto_first}
use Rattle.deb_version.specs.Order.{number}
use Rattle.kernel_text.specs.KernelLines.{KernelLine, HeadLine, ClassLine, MemberLine, HeldLine}
use Rattle.kernel_text.specs.KernelLines.{NeedsLine, AgainstLine, EndLine}

-- the words of a line, each up to the space or the line feed after it
abbrev pub ends_word : ℕ → Bool
ends_word b = b == 32 || b == 10

abbrev pub words_of : List ℕ → List (List ℕ)
words_of [] = []
words_of (b ∷ bs) = if ends_word b then [] ∷ words_of bs else onto_first b (words_of bs)

abbrev pub word_at : List (List ℕ) → ℕ → List ℕ
word_at words n = get_or words n []

-- a line of each kind
abbrev pub by_words : List (List ℕ) → List KernelLine
by_words words =
    HeadLine (number (word_at words 1)) ∷ (ClassLine (number (word_at words 1))
    ∷ (MemberLine (word_at words 1) (word_at words 2) ∷ (NeedsLine (map number (drop 1 words))
    ∷ (AgainstLine (number (word_at words 1))
    ∷ (EndLine (number (word_at words 1)) (number (word_at words 2)) ∷ (HeldLine ∷ []))))))
