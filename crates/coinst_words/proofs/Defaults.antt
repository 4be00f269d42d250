-- What is behind the words: defaults and the last checks.
use Rattle.std.proofs.Common.{◌≡◌, ◌∙◌, ◌&&◌, ◌||◌, Bool, cond, true, false, refl, sym, ap, codes, List, [], ◌∷◌, ◌++◌, map, Option, Some, None, not, is_some}
use Rattle.std.specs.{List.{list_any, fold}, Option.{option_map, unwrap_or}, Str.{bytes_eq}}
use Rattle.listed.proofs.Lists.{same_bytes}
use Rattle.clap.specs.{Kinds.{Kinds, or_else}, Faults.{default_fault, defaults_fault, check_fault}, Takes.{is_given}}
use Rattle.clap.specs.Walk.{Row, Rule, all_of, has_row, more_values, reading_by, with_default, with_values}
use Rattle.clap.specs.declared.parser.matches.ValueSource.TheVariants.{DefaultValue}
use Rattle.coinst_words.specs.{Usage.{Said, Text, Usage, is_among, value_of}, Parsed.{HoldSaid}}
use Rattle.coinst_words.proofs.{Rules.{flag_built, rules_built, valued_built, words_built}, RowsSaid.{Looks, alone, all_of-end, at_missing, has_row-values}}
use Rattle.coinst_words.proofs.Walks.{leaf}

fold_append : (rules more : List Rule) (rows : List Row) → fold with_default rows (rules ++ more) ≡ fold with_default (fold with_default rows rules) more
fold_append [] more rows = refl
fold_append (a ∷ rules) more rows = fold_append rules more (with_default rows a)

same_both : {X : Type 0} (b : Bool) (x : X) → cond b x x ≡ x
same_both true x = refl
same_both false x = refl

no_defaults : (names : List Text) (rows : List Row) → fold with_default rows (map valued_built names ++ words_built ∷ []) ≡ rows
no_defaults [] rows = same_both (has_row (codes "words") rows) rows
no_defaults (n ∷ names) rows = ap (λ rs. fold with_default rs (map valued_built names ++ words_built ∷ [])) (same_both (has_row n rows) rows) ∙ no_defaults names rows

abbrev or_no : Option (List Text) → List Text
or_no o = unwrap_or o (codes "false" ∷ [])

abbrev default_new : Text → Row
default_new f = record { id = f; values = codes "false" ∷ []; count = None; source = Some DefaultValue; reading = reading_by (flag_built f) }

default_row : (f name : Text) (rows : List Row) → all_of name (with_default rows (flag_built f)) ≡ cond (bytes_eq f name) (Some (or_no (all_of name rows))) (all_of name rows)
default_row f name rows = go (has_row f rows) refl (bytes_eq f name) refl
  where
    had : (o : Option (List Text)) → is_some o ≡ true → o ≡ Some (or_no o)
    had None e = cc
    had (Some x) e = refl

    end_case : (o : Option (List Text)) (d : Bool) → cond (is_some o) o (cond d (Some (codes "false" ∷ [])) None) ≡ cond d (Some (or_no o)) o
    end_case None true = refl
    end_case None false = refl
    end_case (Some x) true = refl
    end_case (Some x) false = refl

    go : (b : Bool) → has_row f rows ≡ b → (d : Bool) → bytes_eq f name ≡ d → all_of name (with_default rows (flag_built f)) ≡ cond (bytes_eq f name) (Some (or_no (all_of name rows))) (all_of name rows)
    go true e true d =
        let same : f ≡ name = same_bytes f name d in
        let some : is_some (all_of name rows) ≡ true = sym (has_row-values name rows) ∙ ap (λ n. has_row n rows) (sym same) ∙ e in
        rw (e, d) (had (all_of name rows) some)
    go true e false d = rw (e, d) refl
    go false e b d =
        ap (λ t. all_of name (cond t rows (with_values f (reading_by (flag_built f)) DefaultValue (codes "false" ∷ []) rows))) e
        ∙ ap (all_of name) (at_missing f (more_values DefaultValue (codes "false" ∷ [])) (default_new f ∷ []) rows e) ∙ all_of-end name rows (default_new f)
        ∙ ap (λ t. cond t (all_of name rows) (cond (bytes_eq f name) (Some (codes "false" ∷ [])) None)) (has_row-values name rows)
        ∙ end_case (all_of name rows) (bytes_eq f name)

fold_flags : (names : List Text) (rows : List Row) (name : Text)
    → all_of name (fold with_default rows (map flag_built names)) ≡ cond (is_among names name) (Some (or_no (all_of name rows))) (all_of name rows)
fold_flags [] rows name = refl
fold_flags (f ∷ names) rows name =
    fold_flags names (with_default rows (flag_built f)) name ∙ ap (λ o. cond (is_among names name) (Some (or_no o)) o) (default_row f name rows)
    ∙ go (bytes_eq f name) (is_among names name)
  where
    go : (b d : Bool) → cond d (Some (or_no (cond b (Some (or_no (all_of name rows))) (all_of name rows)))) (cond b (Some (or_no (all_of name rows))) (all_of name rows))
        ≡ cond (b || d) (Some (or_no (all_of name rows))) (all_of name rows)
    go true true = refl
    go true false = refl
    go false true = refl
    go false false = refl

finished_row : (u : Usage) (rows : List Row) (name : Text)
    → all_of name (fold with_default rows (rules_built u)) ≡ cond (is_among u.flags name) (Some (or_no (all_of name rows))) (all_of name rows)
finished_row u rows name = ap (all_of name) (fold_append (map flag_built u.flags) (map valued_built u.valued ++ words_built ∷ []) rows ∙ no_defaults u.valued _) ∙ fold_flags u.flags rows name

pub ends_with : (u : Usage) → is_among u.flags (codes "words") ≡ false → (rows : List Row) (said : Said) → Looks rows said → HoldSaid u (fold with_default rows (rules_built u)) said
ends_with u good rows said looks = record {
  valued = λ name plain none. finished_row u rows name ∙ ap (λ b. cond b (Some (or_no (all_of name rows))) (all_of name rows)) none ∙ looks.options name plain;
  flags = λ name plain some. finished_row u rows name ∙ ap (λ b. cond b (Some (or_no (all_of name rows))) (all_of name rows)) some ∙ ap (λ o. Some (or_no o)) (looks.options name plain) ∙ ap Some (go (value_of name said.given));
  ordinary = finished_row u rows (codes "words") ∙ ap (λ b. cond b (Some (or_no (all_of (codes "words") rows))) (all_of (codes "words") rows)) good ∙ looks.ordinary;
}
  where
    go : (o : Option Text) → or_no (option_map alone o) ≡ unwrap_or o (codes "false") ∷ []
    go None = refl
    go (Some v) = refl

-- ---- no default is a fault, and nothing is required

flag_default : (n : Text) (rows : List Row) → default_fault rows (flag_built n) ≡ []
flag_default n rows = go (has_row n rows)
  where
    go : (b : Bool) → cond (b || false) [] (Rattle.clap.specs.Faults.given_default_fault (flag_built n) (codes "false" ∷ [])) ≡ []
    go true = refl
    go false = refl

or_true : (b : Bool) → (b || true) ≡ true
or_true true = refl
or_true false = refl

valued_default : (n : Text) (rows : List Row) → default_fault rows (valued_built n) ≡ []
valued_default n rows = ap (λ b. cond b [] (Rattle.clap.specs.Faults.given_default_fault (valued_built n) [])) (or_true (has_row n rows))

words_default : (rows : List Row) → default_fault rows words_built ≡ []
words_default rows = ap (λ b. cond b [] (Rattle.clap.specs.Faults.given_default_fault words_built [])) (or_true (has_row (codes "words") rows))

valued_defaults : (names : List Text) (rows : List Row) → defaults_fault rows (map valued_built names ++ words_built ∷ []) ≡ []
unfolding defaults_fault
valued_defaults [] rows = ap (λ k. or_else k []) (words_default rows)
valued_defaults (n ∷ names) rows = ap (λ k. or_else k (defaults_fault (with_default rows (valued_built n)) (map valued_built names ++ words_built ∷ []))) (valued_default n rows) ∙ valued_defaults names _

flag_defaults : (names : List Text) (more : List Rule) (rows : List Row) → ((rs : List Row) → defaults_fault rs more ≡ []) → defaults_fault rows (map flag_built names ++ more) ≡ []
unfolding defaults_fault
flag_defaults [] more rows none = none rows
flag_defaults (n ∷ names) more rows none = ap (λ k. or_else k (defaults_fault (with_default rows (flag_built n)) (map flag_built names ++ more))) (flag_default n rows) ∙ flag_defaults names more _ none

pub defaults_pass : (u : Usage) (rows : List Row) → defaults_fault rows (rules_built u) ≡ []
defaults_pass u rows = flag_defaults u.flags (map valued_built u.valued ++ words_built ∷ []) rows (valued_defaults u.valued)

none_required : (make : Text → Rule) → ((n : Text) → (make n).required ≡ false) → (names : List Text) (more : List Rule) (rows : List Row)
    → list_any (λ a. a.required && not (is_given a.id rows)) (map make names ++ more) ≡ list_any (λ a. a.required && not (is_given a.id rows)) more
none_required make none [] more rows = refl
none_required make none (n ∷ names) more rows = ap (λ b. (b && not (is_given (make n).id rows)) || list_any (λ a. a.required && not (is_given a.id rows)) (map make names ++ more)) (none n) ∙ none_required make none names more rows

pub checks_pass : (u : Usage) (rows : List Row) → check_fault (leaf u) rows false ≡ []
checks_pass u rows = ap (Rattle.clap.specs.Kinds.check_kinds false false)
    (none_required flag_built (λ n. refl) u.flags (map valued_built u.valued ++ words_built ∷ []) rows ∙ none_required valued_built (λ n. refl) u.valued (words_built ∷ []) rows)
