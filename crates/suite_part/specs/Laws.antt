-- What is known of some packages of an index from what is known of all.
use Rattle.std.specs.{Prelude.{◌≡◌, Bool, List}, List.{items_where_true}}
use Rattle.relation_fields.specs.declared.packages.Home.{Home}
use Rattle.relation_fields.specs.declared.packages.PackageFacts.{PackageFacts}
use Rattle.repo_model.specs.{Goals.{packages_named}, declared.goals.Goal.{Goal}}
use Rattle.repo_model.specs.Repository.{suite_repository}
use Rattle.row_book.specs.Parts.{chosen_in, part}

-- the repository of some packages is that part of the repository of all
abbrev pub PartIsExact : Home → List PackageFacts → List Bool → Type 0
PartIsExact home stanzas flags = suite_repository home (items_where_true flags stanzas)
    ≡ part flags (suite_repository home stanzas)

-- among some packages a goal names those that it names among all
abbrev pub NamesArePart : List PackageFacts → List Bool → Type 0
NamesArePart stanzas flags = (goal : Goal) → packages_named (items_where_true flags stanzas) goal
    ≡ chosen_in flags (packages_named stanzas goal)
