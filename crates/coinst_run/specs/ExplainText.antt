-- The texts of an explanation.
use Rattle.std.specs.Prelude.{ℕ, Bool, List, ◌++◌, codes, length, if◌then◌else◌, Option, Some, None}
use Rattle.std.specs.List.{flat_map}
use Rattle.explain_core.specs.{Core.{goal_numbered}, declared.explanation.Clash.{Clash}}
use Rattle.explain_core.specs.declared.explanation.Mark.{Mark}
use Rattle.relation_fields.specs.declared.packages.PackageFacts.{PackageFacts}
use Rattle.repo_model.specs.{Stanzas.{stanza_at}, declared.goals.Goal.{Goal}}
use Rattle.coinst_run.specs.Lines.{end_text, line_of_text, pair_text, versioned_text}
use Rattle.coinst_run.specs.QueryText.{goal_word}

-- the goals can be met together
unfoldable pub yes_line : List ℕ
yes_line = line_of_text (codes "yes")

-- a goal that matters, or a goal for which it is open whether it does
abbrev pub goal_text : Bool → Goal → List ℕ
goal_text unsettled goal =
    line_of_text ((if unsettled then codes "goal-open " else codes "goal ") ++ goal_word goal)

abbrev pub goal_line : List Goal → Mark → List ℕ
goal_line goals m = goal_text m.unsettled (goal_numbered goals m.goal)

abbrev pub package_text : PackageFacts → List ℕ
package_text facts = versioned_text facts.name facts.version

-- two packages whose conflict matters, or for which it is open whether it does
abbrev pub clash_text : Bool → PackageFacts → PackageFacts → List ℕ
clash_text unsettled first second =
    pair_text (if unsettled then codes "clash-open" else codes "clash")
    (package_text first) (package_text second)

abbrev pub clash_line : List PackageFacts → Clash → List ℕ
clash_line packages c =
    clash_text c.unsettled (stanza_at packages c.first) (stanza_at packages c.second)

-- the conflicts that matter, or that they are open as a whole
abbrev pub clashes_text : List PackageFacts → Option (List Clash) → List ℕ
clashes_text packages None = line_of_text (codes "clashes-open")
clashes_text packages (Some clashes) = flat_map (clash_line packages) clashes

-- how many conflicts are printed
abbrev pub clash_count : Option (List Clash) → ℕ
clash_count None = 0
clash_count (Some clashes) = length clashes

-- the goals, the conflicts, and how many of each
unfoldable pub core_text : List PackageFacts → List Goal → List Mark → Option (List Clash) → List ℕ
core_text packages goals marks clashes = flat_map (goal_line goals) marks
    ++ clashes_text packages clashes ++ end_text (length marks) (clash_count clashes)
