-- Two kinds of lines of a kernel text, those with a clause and those with a conflict, and how many
-- there are of each.
use Rattle.std.specs.{Prelude.{◌≡◌, ℕ, Bool, true, false, List, length}, List.{count_by, sum_by}}
use Rattle.row_book.specs.{Numbers.{numbers}, Repository.{Repository, clauses_of}}
use Rattle.kernel_text.specs.KernelLines.{KernelLine, HeadLine, ClassLine, MemberLine, HeldLine}
use Rattle.kernel_text.specs.KernelLines.{NeedsLine, AgainstLine, EndLine}
use Rattle.kernel_text.specs.KernelText.{greater_conflicts, kernel_lines}
use Rattle.kernel_text.specs.declared.member.Member.{Member}

-- a line with a clause, and one with a conflict
abbrev pub is_needs_line : KernelLine → Bool
is_needs_line (HeadLine format) = false
is_needs_line (ClassLine class) = false
is_needs_line (MemberLine name version) = false
is_needs_line HeldLine = false
is_needs_line (NeedsLine clause) = true
is_needs_line (AgainstLine class) = false
is_needs_line (EndLine classes members) = false

abbrev pub is_against_line : KernelLine → Bool
is_against_line (HeadLine format) = false
is_against_line (ClassLine class) = false
is_against_line (MemberLine name version) = false
is_against_line HeldLine = false
is_against_line (NeedsLine clause) = false
is_against_line (AgainstLine class) = true
is_against_line (EndLine classes members) = false

-- a clause has a line for each class that has it, and a conflict has one line, with its lesser
-- class
pub record AreCounted (format : ℕ) (R : Repository) (members : List Member)
    (held : List ℕ) : Type 0 where
  pub clauses : count_by is_needs_line (kernel_lines format R members held)
      ≡ sum_by (λ n. length (clauses_of R n)) (numbers (length R.clauses) 0)
  pub conflicts : count_by is_against_line (kernel_lines format R members held)
      ≡ sum_by (λ n. length (greater_conflicts R n)) (numbers (length R.clauses) 0)

abbrev pub LinesAreCounted : Type 0
LinesAreCounted = (format : ℕ) (R : Repository) (members : List Member) (held : List ℕ) →
    AreCounted format R members held
