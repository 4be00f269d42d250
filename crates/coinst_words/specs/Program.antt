-- for the bodies of this crate alone
-- The commands in the form that `clap` takes.
use Rattle.std.specs.Prelude.{◌≡◌, true, false, List, [], ◌∷◌, ◌++◌, map, Some, codes}
use Rattle.clap.specs.{Walk.{Rule}, Simple.{Shape, App, new_rule, new_shape, shape_of}}
use Rattle.clap.specs.declared.builder.command.Command.{Command}
use Rattle.clap.specs.declared.builder.command.Command.TheViews.{out-Command as fields_of}
use Rattle.clap.specs.declared.builder.action.ArgAction.TheVariants.{Set, Append, SetTrue}
use Rattle.coinst_words.specs.Usage.{Text, Usage}

abbrev pub flag_rule : Text → Rule
flag_rule name = record (new_rule name) { long = Some name; action = Some SetTrue }

abbrev pub valued_rule : Text → Rule
valued_rule name = record (new_rule name) { long = Some name; action = Some Set }

abbrev pub words_rule : Rule
words_rule = record (new_rule (codes "words")) { action = Some Append }

abbrev pub rules_of_usage : Usage → List Rule
rules_of_usage u = map flag_rule u.flags ++ (map valued_rule u.valued ++ words_rule ∷ [])

abbrev pub shape_of_usage : Usage → Shape
shape_of_usage u = record (new_shape u.name) { rules = rules_of_usage u }

-- the program with these commands; it takes no first word for its own name, and the help and
-- version forms are off
abbrev pub bare_app : List Usage → App
bare_app usages = record {
  top = record (new_shape (codes "coinst")) {
    no_binary_name = true;
    disable_help_flag = true;
    disable_help_subcommand = true;
    disable_version_flag = true;
    subcommand_required = true;
  };
  subs = map shape_of_usage usages;
}

abbrev pub app_of_usages : List Usage → App
app_of_usages usages =
    record (bare_app usages) { top = record (bare_app usages).top { is_leaf = false } }

-- the command has this name and these options, and takes other words
abbrev pub IsCommand : Text → List Text → List Text → Command → Type 0
IsCommand name flags valued c =
    (shape_of c ≡ shape_of_usage (record { name = name; flags = flags; valued = valued }))
    × ((fields_of c).has_globals ≡ false)
