-- What a dpkg status file says of an installed system, and what is printed of it.
use Rattle.suite_compare.specs.Indexes.{SearchedIndex}
use Rattle.std.specs.Prelude.{◌≡◌, ℕ, ◌<◌, ◌≤◌, ◌⊎◌, ◌-◌, Bool, true, false, not, ◌&&◌, ◌||◌, List}
use Rattle.std.specs.Prelude.{[], ◌∷◌, ◌++◌, codes, filter, length, unwrap_or, if◌then◌else◌}
use Rattle.std.specs.{Fmt.{decimal}, List.{flat_map, list_any}, Option.{option_map_or}}
use Rattle.std.specs.Str.{bytes_eq}
use Rattle.coinst_words.specs.Usage.{Text}
use Rattle.kernel_text.specs.KernelLines.{with_feed}
use Rattle.listed.specs.Lists.{In}
use Rattle.relation_fields.specs.declared.packages.Home.{Home}
use Rattle.relation_fields.specs.declared.packages.PackageFacts.{PackageFacts}
use Rattle.relation_fields.specs.declared.relations.Atom.{Atom}
use Rattle.repo_model.specs.{Repository.{in_conflict}, Stanzas.{Met, stanza_at, HealthyStanzas}}
use Rattle.status_check.specs.Installed.{says_installed, words}
use Rattle.status_check.specs.declared.report.OwnState.{OwnState}
use Rattle.status_check.specs.declared.report.OwnState.TheVariants.{Healthy, Unhit, Clash}
use Rattle.claims.specs.{Control.{field_value}, Explained.{printed_package}, Goals.{all_stanzas}}
use Rattle.claims.specs.Index.{is_one_package}

-- the group is of an installed package: the third of the three words of its status is `installed`
abbrev pub is_installed_group : List Text → Bool
is_installed_group group =
    says_installed (words (unwrap_or (field_value (codes "status") group) []))

-- it has an architecture other than `all` and that of the index
abbrev pub is_elsewhere_group : Home → List Text → Bool
is_elsewhere_group home group = option_map_or
    (λ a. not (bytes_eq a (codes "all") || option_map_or (bytes_eq a) home.name false))
    (field_value (codes "architecture") group) false

-- an installed package is foreign, or one of the own
abbrev pub is_foreign_group : Home → List Text → Bool
is_foreign_group home group = is_installed_group group && is_elsewhere_group home group

abbrev pub is_own_group : Home → List Text → Bool
is_own_group home group = is_installed_group group && not (is_elsewhere_group home group)

-- the index has the package: one of the same name, and a version that compares as equal
abbrev pub has_package : SearchedIndex → PackageFacts → Bool
has_package s own =
    list_any (λ it. is_one_package it.name it.version own.name own.version) s.stanzas

-- the word of a goal for it
abbrev pub goal_word_of : PackageFacts → Text
goal_word_of own = own.name ++ 61 ∷ own.version

-- each need of the own package is met by one of them
abbrev pub HasItsNeeds : Home → List PackageFacts → ℕ → Type 0
HasItsNeeds home own n = (element : List Atom) → In element (stanza_at own n).needs →
    Met home own (all_stanzas own) element

-- Whether the own packages stand together: they are a healthy set. Or this is the first of them
-- with a need that none of them meets. Or each need is met, and these are the first two of them in
-- conflict.
abbrev pub IsOwnState : Home → List PackageFacts → OwnState → Type 0
IsOwnState home own Healthy = HealthyStanzas home own (all_stanzas own)
IsOwnState home own (Unhit n) =
    (n < length own) × ((m : ℕ) → m < n → HasItsNeeds home own m) × (¬ (HasItsNeeds home own n))
IsOwnState home own (Clash m n) = (m < n) × (n < length own) × (in_conflict home own m n ≡ true)
    × ((k : ℕ) → k < length own → HasItsNeeds home own k)
    × ((a b : ℕ) → a < b → b < length own → in_conflict home own a b ≡ true →
    (m < a) ⊎ ((m ≡ a) × (n ≤ b)))

abbrev pub printed_state : List PackageFacts → OwnState → Text
printed_state own Healthy = with_feed (codes "self healthy")
printed_state own (Unhit n) = with_feed (codes "self unhit " ++ printed_package (stanza_at own n))
printed_state own (Clash m n) = with_feed (codes "self clash " ++ printed_package (stanza_at own m)
    ++ codes " " ++ printed_package (stanza_at own n))

-- each own package and whether the index has it, the number of foreign ones, whether the own ones
-- stand together, and what the index says
abbrev pub printed_system : SearchedIndex → List PackageFacts → ℕ → OwnState → Text → Text
printed_system s own foreign state suite =
    flat_map (λ it. with_feed ((if has_package s it then codes "have " else codes "lack ")
    ++ printed_package it)) own
    ++ with_feed (codes "foreign " ++ decimal foreign) ++ printed_state own state
    ++ with_feed (codes "suite " ++ suite)
    ++ with_feed (codes "end " ++ decimal (length (filter (has_package s) own))
    ++ codes " " ++ decimal (length own - length (filter (has_package s) own)))

-- the status of a report: 1 if the own packages do not stand together, and else that of the index's
-- answer
abbrev pub system_status : OwnState → ℕ → ℕ
system_status Healthy answer = answer
system_status (Unhit n) answer = 1
system_status (Clash m n) answer = 1
