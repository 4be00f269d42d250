-- What is printed for questions: an installation, classes, a log, or that the budget was spent.
use Rattle.std.specs.{Prelude.{ℕ, List, ◌++◌, codes, if◌then◌else◌}, Fmt.{decimal}, List.{flat_map}}
use Rattle.coinst_words.specs.Usage.{Text}
use Rattle.kernel_text.specs.KernelLines.{behind_space, with_feed}
use Rattle.relation_fields.specs.declared.packages.PackageFacts.{PackageFacts}
use Rattle.repo_model.specs.Stanzas.{stanza_at}
use Rattle.search_terms.specs.declared.literals.Literal.{Literal}

-- yes, and the packages with these numbers, each with its name and version
abbrev pub printed_installation : List PackageFacts → List ℕ → Text
printed_installation stanzas set =
    with_feed (codes "yes")
    ++ flat_map (λ n. with_feed (codes "install " ++ (stanza_at stanzas n).name
    ++ codes " " ++ (stanza_at stanzas n).version)) set

-- yes, and these classes
abbrev pub printed_classes : List ℕ → Text
printed_classes classes =
    with_feed (codes "yes") ++ flat_map (λ k. with_feed (codes "class" ++ behind_space k)) classes

-- an entry of a log: its classes, each after `+`, or after `-` if it is not there
abbrev pub printed_entry : List Literal → Text
printed_entry entry = with_feed (codes "log"
    ++ flat_map (λ l. (if l.positive then codes " +" else codes " -") ++ decimal l.class) entry)

-- no, and the log
abbrev pub printed_no : List (List Literal) → Text
printed_no log = with_feed (codes "no") ++ flat_map printed_entry log

-- undecided, and the budget
abbrev pub printed_undecided : ℕ → Text
printed_undecided budget = with_feed (codes "undecided" ++ behind_space budget)
