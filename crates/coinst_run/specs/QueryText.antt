-- The texts of a query: its reports, and the line of a goal that names no package.
use Rattle.std.specs.Prelude.{ℕ, List, [], ◌++◌, codes, if◌then◌else◌, Option, Some, None}
use Rattle.std.specs.{Fmt.{decimal}, List.{flat_map}}
use Rattle.relation_fields.specs.declared.packages.PackageFacts.{PackageFacts}
use Rattle.repo_model.specs.{declared.goals.Goal.{Goal}, Stanzas.{stanza_at}}
use Rattle.search_terms.specs.declared.literals.Literal.{Literal}
use Rattle.coinst_run.specs.Lines.{counted_line, line_of_text, pair_text}

-- a package that is installed
abbrev pub install_line : PackageFacts → List ℕ
install_line facts = pair_text (codes "install") facts.name facts.version

-- yes, and the packages with these numbers
unfoldable pub yes_text : List PackageFacts → List ℕ → List ℕ
yes_text packages numbers =
    line_of_text (codes "yes") ++ flat_map (λ n. install_line (stanza_at packages n)) numbers

-- a class that holds, or one that does not, after a space
abbrev pub literal_text : Literal → List ℕ
literal_text l = (if l.positive then codes " +" else codes " -") ++ decimal l.class

-- an entry of a log
abbrev pub log_line : List Literal → List ℕ
log_line entry = line_of_text (codes "log" ++ flat_map literal_text entry)

-- no, and the log that shows it
unfoldable pub no_text : List (List Literal) → List ℕ
no_text log = line_of_text (codes "no") ++ flat_map log_line log

-- undecided within the budget
unfoldable pub undecided_text : ℕ → List ℕ
undecided_text budget = counted_line (codes "undecided ") budget

-- after a name, the version that a goal asks for
abbrev pub version_word : Option (List ℕ) → List ℕ
version_word None = []
version_word (Some version) = codes "=" ++ version

-- the word of a goal
abbrev pub goal_word : Goal → List ℕ
goal_word goal = goal.name ++ version_word goal.version

-- the goal of the number, counted from 1, names no package
unfoldable pub unknown_line : ℕ → Goal → List ℕ
unknown_line number goal =
    line_of_text (codes "goal " ++ decimal number ++ codes " is unknown: " ++ goal_word goal)
