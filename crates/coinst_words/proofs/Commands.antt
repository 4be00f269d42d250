-- Commands that are put together argument by argument.
use Rattle.std.proofs.Common.{◌≡◌, ◌∙◌, ℕ, ◌<◌, ◌+◌, ◌||◌, false, sym, ap, ap₂, subst, List, [], ◌∷◌, ◌++◌, map, take, drop, append_assoc, ◌≤◌, append-nil}
use Rattle.std.proofs.{Common.{get_or, length}, lemmas.List.{at_drop_all, at_drop_more, map-append, take_all, take_more}}
use Rattle.std.specs.Borrow.{Bor}
use Rattle.clap.specs.{Walk.{Rule, rule_of}, Built.{AddsArg}, Simple.{App, Shape, app_of, new_shape, with_rule, with_subcommand}}
use Rattle.clap.specs.{declared.builder.arg.Arg.{Arg}, declared.builder.command.Command.{Command}, declared.builder.command.Command.TheViews.{out-Command}}
use Rattle.coinst_words.specs.{Jobs.{usages}, Usage.{Text, Usage}}
use Rattle.coinst_words.specs.Program.{IsCommand, app_of_usages, bare_app, flag_rule, shape_of_usage, valued_rule, words_rule}

-- the command has this name and these arguments, and nothing else
pub record IsBuilt (name : Text) (rules : List Rule) (c : Command) : Type 0 where
  pub app : app_of c ≡ record { top = record (new_shape name) { rules = rules }; subs = [] }
  pub globals : (out-Command c).has_globals ≡ false

pub added : (name : Text) (rules : List Rule) (old : Command) (a : Arg) (new : Command) (r : Rule) → AddsArg old a new → rule_of a ≡ r → a.global ≡ false → IsBuilt name rules old
    → IsBuilt name (rules ++ r ∷ []) new
added name rules old a new r adds rule local is = record {
  app = adds.shape local ∙ ap₂ with_rule is.app rule;
  globals = adds.globals ∙ ap₂ (λ x y. x || y) is.globals local;
}

abbrev now : Bor Text → Text
now s = s.now

taken : (make : Text → Rule) (xs : List (Bor Text)) (i : ℕ) (d : Bor Text) → i < length xs → map make (map now (take (i + 1) xs)) ≡ map make (map now (take i xs)) ++ make (get_or xs i d).now ∷ []
taken make xs i d lt = ap (λ ys. map make (map now ys)) (take_more xs i d lt) ∙ ap (map make) (map-append now (take i xs) (get_or xs i d ∷ [])) ∙ map-append make (map now (take i xs)) ((get_or xs i d).now ∷ [])

-- one more option of a list
pub added_next : (make : Text → Rule) (name : Text) (before : List Rule) (xs : List (Bor Text)) (i : ℕ) (d : Bor Text) (old : Command) (a : Arg) (new : Command) → i < length xs → AddsArg old a new
    → rule_of a ≡ make (get_or xs i d).now → a.global ≡ false → IsBuilt name (before ++ map make (map now (take i xs))) old → IsBuilt name (before ++ map make (map now (take (i + 1) xs))) new
added_next make name before xs i d old a new lt adds rule local is =
    subst (λ (rs : List Rule). IsBuilt name rs new) (append_assoc before (map make (map now (take i xs))) (make (get_or xs i d).now ∷ []) ∙ ap (λ rs. before ++ rs) (sym (taken make xs i d lt)))
    (added name (before ++ map make (map now (take i xs))) old a new (make (get_or xs i d).now) adds rule local is)

pub taken_all : (name : Text) (flags valued : List (Bor Text)) (i : ℕ) (c : Command) → length valued ≤ i
    → IsBuilt name (map flag_rule (map now flags) ++ map valued_rule (map now (take i valued))) c → IsBuilt name (map flag_rule (map now flags) ++ map valued_rule (map now valued)) c
taken_all name flags valued i c past is = subst (λ (vs : List (Bor Text)). IsBuilt name (map flag_rule (map now flags) ++ map valued_rule (map now vs)) c) (take_all i valued past) is

-- the command, with the words that are no options
pub finished : (name : Text) (flags valued : List Text) (old : Command) (a : Arg) (new : Command) → AddsArg old a new → rule_of a ≡ words_rule → a.global ≡ false
    → IsBuilt name (map flag_rule flags ++ map valued_rule valued) old → IsCommand name flags valued new
finished name flags valued old a new adds rule local is =
    let all = added name (map flag_rule flags ++ map valued_rule valued) old a new words_rule adds rule local is in
    (ap (λ (x : App). x.top) all.app ∙ ap (λ rs. record (new_shape name) { rules = rs }) (append_assoc (map flag_rule flags) (map valued_rule valued) (words_rule ∷ [])), all.globals)

pub flags_all : (name : Text) (flags : List (Bor Text)) (i : ℕ) (c : Command) → length flags ≤ i → IsBuilt name (map flag_rule (map now (take i flags))) c → IsBuilt name (map flag_rule (map now flags) ++ []) c
flags_all name flags i c past is = subst (λ (rs : List Rule). IsBuilt name rs c) (ap (λ fs. map flag_rule (map now fs)) (take_all i flags past) ∙ sym (append-nil (map flag_rule (map now flags)))) is

-- a program with more commands, one after another
pub with_usages : App → List Usage → App
with_usages app [] = app
with_usages app (u ∷ us) = with_usages (with_subcommand app (shape_of_usage u)) us

-- the first of the commands that are left is added
pub one_more : {A : Type 0} (usage : A → Usage) (all : List A) (i : ℕ) (d : A) (old new goal : App) → i < length all → new ≡ with_subcommand old (shape_of_usage (usage (get_or all i d)))
    → with_usages old (map usage (drop i all)) ≡ goal → with_usages new (map usage (drop (i + 1) all)) ≡ goal
unfolding with_usages
one_more usage all i d old new goal lt adds is =
    ap (λ (a : App). with_usages a (map usage (drop (i + 1) all))) adds ∙ sym (at_drop_more (λ us. with_usages old (map usage us)) all i d lt) ∙ is

-- all commands are those of the program
pub all_given : (app : App) → app ≡ bare_app [] → with_usages app usages ≡ app_of_usages usages
unfolding with_usages
all_given app is = ap (λ (a : App). with_usages a usages) is

-- no command is left
pub all_left : {A : Type 0} (usage : A → Usage) (all : List A) (i : ℕ) (app goal : App) → length all ≤ i → with_usages app (map usage (drop i all)) ≡ goal → app ≡ goal
unfolding with_usages
all_left usage all i app goal past is = sym (at_drop_all (λ us. with_usages app (map usage us)) all i past) ∙ is
