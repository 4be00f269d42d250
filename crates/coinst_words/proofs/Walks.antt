-- What `clap` makes of the words of a usage, word by word.
use Rattle.std.proofs.Common.{◌≡◌, ℕ, Bool, cond, true, false, refl, sym, ap, subst, codes, List, [], ◌∷◌, Option, Some, None, suc, length}
use Rattle.std.specs.{List.{list_all, list_any, find, fold}, Option.{option_map, unwrap_or}, Prelude.{slice_get, option_and_then}, Str.{bytes_eq, chars}}
use Rattle.clap.specs.{Lexer.{long_of, short_of}, Kinds.{Kinds}}
use Rattle.clap.specs.Faults.{bundle_fault, bundle_step_fault, flag_word_fault, flags_fault, long_fault, other_fault, react_fault, settle_fault, short_fault}
use Rattle.clap.specs.Faults.{word_fault}
use Rattle.clap.specs.Walk.{Held, Row, Rule, Step, Waiting, Walk, after_flag, after_step, arg_by_id, arg_by_index, arg_by_long, arg_by_short, idle, long_met}
use Rattle.clap.specs.Walk.{long_word, next, option, option_word, plain_word, positional, positional_held, reacted, settled, settled_rows, subcommand_met}
use Rattle.clap.specs.{Walk.{to_positional, trailing, value, walked, word_met, subcommand_or_other, used}, Simple.{Shape, built_leaf, inherited}}
use Rattle.coinst_words.specs.Usage.{Meaning, Text, Usage, asks, dashed_or_plain, ends, flag, gives, is_among, long_or_other, meaning_of, option_meaning, plain}
use Rattle.coinst_words.specs.{Usage.{refused}, Program.{app_of_usages, shape_of_usage}}
use Rattle.coinst_words.proofs.Rules.{flag_built, found_by_long, found_by_short, rules_built, rules_filled, valued_built}

-- the command of a usage, built under the command above it
abbrev pub leaf_built : Usage → Shape
leaf_built u = built_leaf (inherited (app_of_usages []).top (shape_of_usage u))

abbrev pub leaf : Usage → Shape
leaf u = record (leaf_built u) { rules = rules_built u }

pub leaf_is : (u : Usage) → leaf_built u ≡ leaf u
leaf_is u = ap (λ rs. record (leaf_built u) { rules = rs }) (rules_filled u)

-- a hyphen and letters that spell a character
abbrev pub Spells : Text → Type 0
Spells word = (letters : Text) → short_of word ≡ Some letters → (k : ℕ) × (c : ℕ) × (length letters ≡ suc k) × (slice_get (chars letters) 0 ≡ Some c)

abbrev pub held : List Row → Option (Text × List Text) → Held
held rows pending = record { rows = rows; pending = pending; skip = 0 }

abbrev pub walk_at : List Row → Option (Text × List Text) → Waiting → Bool → Walk
walk_at rows pending waiting is_trailing = record {
  held = held rows pending;
  waiting = waiting;
  position = 1;
  is_trailing = is_trailing;
  stopped = None;
}

module _ (u : Usage) (rows : List Row) (pending : Option (Text × List Text)) (waiting : Waiting) (word : Text) where
  abbrev pub h : Held
  h = held rows pending

  abbrev pub c : List Rule
  c = rules_built u

  -- what a word that is no `--` and no refused one comes to
  abbrev pub IsMet : Meaning → Held × Step → Kinds → Type 0
  IsMet ends met fault = (met ≡ (h, trailing 1)) × (fault ≡ [])
  IsMet (flag n) met fault = (met ≡ (reacted c (flag_built n) [] h, next idle)) × (fault ≡ react_fault c false (flag_built n) [] h)
  IsMet (gives n v) met fault = (met ≡ (reacted c (valued_built n) (v ∷ []) h, next idle)) × (fault ≡ react_fault c false (valued_built n) (v ∷ []) h)
  IsMet (asks n) met fault = (met ≡ (record (settled c h) { pending = Some (n, []) }, next (option n))) × (fault ≡ settle_fault c false h)
  IsMet plain met fault = (met ≡ plain_word c waiting word h) × (fault ≡ [])
  IsMet refused met fault = fault ≡ [] → ⊥

  abbrev long_by : Option Rule → Option Text → Held × Step
  long_by o v = after_flag c waiting word (long_met c o v h).0 (long_met c o v h).1

  long_case : (name : Text) (v : Option Text) → IsMet (option_meaning u name v) (long_word c waiting word name v h) (long_fault c false (arg_by_long c name) v h)
  long_case name None =
      subst (λ (o : Option Rule). IsMet (option_meaning u name None) (long_by o None) (long_fault c false o None h)) (sym (found_by_long u name)) (go (is_among u.flags name) (is_among u.valued name))
    where
      go : (f g : Bool) → IsMet (cond f (flag name) (cond g (asks name) refused)) (long_by (cond f (Some (flag_built name)) (cond g (Some (valued_built name)) None)) None)
          (long_fault c false (cond f (Some (flag_built name)) (cond g (Some (valued_built name)) None)) None h)
      go true g = (refl, refl)
      go false true = (refl, refl)
      go false false = λ e. cc
  long_case name (Some v) =
      subst (λ (o : Option Rule). IsMet (option_meaning u name (Some v)) (long_by o (Some v)) (long_fault c false o (Some v) h)) (sym (found_by_long u name)) (go (is_among u.flags name) (is_among u.valued name))
    where
      go : (f g : Bool) → IsMet (cond f refused (cond g (gives name v) refused)) (long_by (cond f (Some (flag_built name)) (cond g (Some (valued_built name)) None)) (Some v))
          (long_fault c false (cond f (Some (flag_built name)) (cond g (Some (valued_built name)) None)) (Some v) h)
      go true g = λ e. cc
      go false true = (refl, refl)
      go false false = λ e. cc

  letters_fault : (letters : Text) (k : ℕ) (x : ℕ) → length letters ≡ suc k → slice_get (chars letters) 0 ≡ Some x → bundle_fault c false letters h ≡ [] → ⊥
  unfolding flags_fault
  letters_fault letters k x long first none =
      let at : flags_fault c false (suc k) letters 0 h ≡ [] = subst (λ n. flags_fault c false n letters 0 h ≡ []) long none in
      let first_at = subst (λ (o : Option ℕ). bundle_step_fault c false o letters 0 h (flags_fault c false k) ≡ []) first at in
      let bad = subst (λ (o : Option Rule). short_fault c false o (Rattle.std.specs.Prelude.drop (length (Rattle.std.specs.Prelude.encode_utf8 x)) letters) h (flags_fault c false k (Rattle.std.specs.Prelude.drop (length (Rattle.std.specs.Prelude.encode_utf8 x)) letters) 0) ≡ []) (found_by_short u x) first_at in
      cc

  short_case : (o : Option Text) → short_of word ≡ o → Spells word → IsMet (dashed_or_plain o) (Rattle.clap.specs.Walk.short_or_plain c waiting word o h) (Rattle.std.specs.Option.option_map_or (λ letters. bundle_fault c false letters h) o [])
  short_case None e spells = (refl, refl)
  short_case (Some letters) e spells = λ none. let s = spells letters e in letters_fault letters s.0 s.1 s.2 s.3 none

  long_or_short : (o : Option (Text × Option Text)) → long_of word ≡ o → Spells word
      → IsMet (long_or_other u word o) (Rattle.clap.specs.Walk.long_or_other c waiting word o h) (flag_word_fault c false o word h)
  long_or_short None e spells = short_case (short_of word) refl spells
  long_or_short (Some p) e spells = long_case p.0 p.1

  no_name : (w : Waiting) → subcommand_met [] w word ≡ None
  no_name idle = refl
  no_name (option n) = refl
  no_name positional = refl

  pub met : Spells word → IsMet (meaning_of u word) (word_met c [] false waiting 1 word h) (word_fault (leaf u) [] false waiting word h)
  met spells = subst (λ (o : Option Text). IsMet (meaning_of u word) (subcommand_or_other c o waiting 1 word h) (other_fault (leaf u) o word h)) (sym (no_name waiting)) (go (bytes_eq word (codes "--")))
    where
      go : (b : Bool) → IsMet (cond b ends (long_or_other u word (long_of word))) (cond b (h, trailing 1) (Rattle.clap.specs.Walk.long_or_other c waiting word (long_of word) h)) (cond b [] (flag_word_fault c false (long_of word) word h))
      go true = (refl, refl)
      go false = long_or_short (long_of word) refl spells
