-- Plans: which names differ between two indexes, and the mixes of the two.
use Rattle.suite_compare.specs.{Indexes.{SearchedIndex}, Listing.{is_broken}}
use Rattle.std.specs.Prelude.{◌≡◌, ℕ, ◌==◌, if◌then◌else◌, not, List, [], ◌++◌, ◌-◌, codes, filter}
use Rattle.std.specs.{Prelude.{length, unwrap_or}, Fmt.{decimal}, List.{AllZip, flat_map, list_any}}
use Rattle.std.specs.Str.{bytes_eq}
use Rattle.coinst_words.specs.Usage.{Text}
use Rattle.kernel_text.specs.KernelLines.{with_feed}
use Rattle.migrate_plan.specs.{Mix.{is_taken}, Plan.{taken_in}, declared.plan.PlanLine.{PlanLine}}
use Rattle.migrate_plan.specs.declared.plan.PlanLine.TheVariants.{Take, LeftLimit, LeftLine}
use Rattle.claims.specs.{Control.{field_value, stanza_groups}, Index.{IndexSays, SaysTheSame}}
use Rattle.claims.specs.Printed.{printed_line}

-- the packages of the name are not the same in both indexes, one after the other
abbrev pub Differs : SearchedIndex → SearchedIndex → Text → Type 0
Differs old new name = ¬ (AllZip SaysTheSame (filter (λ s. bytes_eq name s.name) old.stanzas)
    (filter (λ s. bytes_eq name s.name) new.stanzas))

-- the name that a group gives its package
abbrev pub group_name : List Text → Text
group_name group = unwrap_or (field_value (codes "package") group) []

-- A mix of two indexes by the names that are taken: the groups of the older one that give others,
-- and then those of the newer one that give these. It is an index too, and is searched as the older
-- one.
pub record IsMix (old new : SearchedIndex) (taken : List Text) (mix : SearchedIndex) : Type 0 where
  pub groups : stanza_groups mix.text
      ≡ filter (λ g. not (is_taken taken (group_name g))) (stanza_groups old.text)
      ++ filter (λ g. is_taken taken (group_name g)) (stanza_groups new.text)
  pub index : IndexSays mix.text mix.home mix.stanzas
  pub searched : (mix.limit ≡ old.limit) × (mix.hold ≡ old.hold) × (mix.budget ≡ old.budget)

-- A name that is taken. One that is left, since the mix with it passes the clause limit. And one
-- that is left for the first line of its comparison.
abbrev pub printed_step : PlanLine → Text
printed_step (Take name) = with_feed (codes "take " ++ name)
printed_step (LeftLimit name) = with_feed (codes "left " ++ name ++ codes " limit")
printed_step (LeftLine name line) = codes "left " ++ name ++ codes " " ++ printed_line line

-- the lines, and the last one with the numbers of names that are taken and that are left
abbrev pub printed_plan : List PlanLine → Text
printed_plan lines =
    flat_map printed_step lines
    ++ with_feed (codes "end " ++ decimal (length (taken_in lines))
    ++ codes " " ++ decimal (length lines - length (taken_in lines)))

-- the status of a line: 0 if its name is taken, 1 if it is left for a broken line, or else 8
abbrev pub line_status : PlanLine → ℕ
line_status (Take name) = 0
line_status (LeftLimit name) = 8
line_status (LeftLine name line) = if is_broken line then 1 else 8

-- the status of a plan: 1 if a line has this one, or else 8 if a name is left, or else 0
abbrev pub plan_status : List PlanLine → ℕ
plan_status lines =
    if list_any (λ l. line_status l == 1) lines then 1
    else (if list_any (λ l. not (line_status l == 0)) lines then 8 else 0)
