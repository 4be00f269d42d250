-- `clap` takes the words of a program exactly where they are said, and enters the command with what was said.
use Rattle.std.proofs.Common.{◌≡◌, ◌∙◌, ◌&&◌, ◌||◌, ℕ, Bool, cond, true, false, refl, sym, ap, ap₂, subst, codes, List, [], ◌∷◌, ◌++◌, map, Option, Some, None}
use Rattle.std.proofs.Common.{is_some, suc, length}
use Rattle.std.specs.{List.{find, fold}, Option.{option_map, option_map_or}, Prelude.{slice_get}, Str.{bytes_eq, chars}}
use Rattle.listed.proofs.Lists.{same_bytes}
use Rattle.clap.specs.{Lexer.{long_of, short_of}, Kinds.{Kinds, or_else}}
use Rattle.clap.specs.Faults.{built_fault, bundle_fault, bundle_step_fault, check_fault, defaults_fault, entered_fault, fault_of, flag_word_fault, flags_fault}
use Rattle.clap.specs.Faults.{level_fault, other_fault, settle_fault, step_fault, turn_fault, walk_fault}
use Rattle.clap.specs.Walk.{Held, Names, Row, Rule, Step, Walk, after_step, answers_to, idle, long_or_other, short_or_plain, subcommand_or_other, trailing}
use Rattle.clap.specs.Walk.{arg_by_short, finished, nothing_held, rows_after, settled, settled_rows, walk, walk_from, walked, with_default}
use Rattle.clap.specs.{Simple.{App, Shape, built, entered, label_of, names_of, rows_at, subcommand_of}, declared.error.kind.ErrorKind.{ErrorKind}}
use Rattle.clap.specs.declared.error.kind.ErrorKind.TheVariants as kind
use Rattle.clap.proofs.WalkLemmas.{walk_stopped}
use Rattle.coinst_words.specs.{Usage.{Said, Text, Usage, nothing_said, read, said_by, said_of}, Program.{app_of_usages}, Parsed.{HoldSaid}}
use Rattle.coinst_words.proofs.{Rules.{rules_built}, Walks.{Spells, leaf, leaf_is}, Reading.{Agrees, AllSpell, IsGood, end_rows, goes, left_none, total}}
use Rattle.coinst_words.proofs.Defaults.{checks_pass, defaults_pass, ends_with}

-- ---- one command

some_fault : (k : ErrorKind) (ks : Kinds) → k ∷ ks ≡ [] → ⊥
some_fault k ks e = cc

or_assoc : (a b c : Kinds) → or_else (or_else a b) c ≡ or_else a (or_else b c)
or_assoc [] b c = refl
or_assoc (k ∷ ks) b c = refl

or_nil : (a : Kinds) → or_else a [] ≡ a
or_nil [] = refl
or_nil (k ∷ ks) = refl

module _ (u : Usage) (good : IsGood u) where
  abbrev after : Walk → List Text → Walk
  after w ws = fold (walked (rules_built u) []) w ws

  total_parts : (ws : List Text) (w : Walk) → total u good w ws ≡ or_else (walk_fault (leaf u) [] w ws) (settle_fault (rules_built u) false (after w ws).held)
  unfolding total walk_fault
  total_parts [] w = refl
  total_parts (x ∷ xs) w =
      ap (or_else (turn_fault (leaf u) [] w x)) (total_parts xs (walked (rules_built u) [] w x))
      ∙ sym (or_assoc (turn_fault (leaf u) [] w x) (walk_fault (leaf u) [] (walked (rules_built u) [] w x) xs) (settle_fault (rules_built u) false (after (walked (rules_built u) [] w x) xs).held))

  end_is : (ws : List Text) (w : Walk) → end_rows u good w ws ≡ settled_rows (rules_built u) (after w ws).held.pending (after w ws).held.rows
  unfolding end_rows
  end_is [] w = refl
  end_is (x ∷ xs) w = end_is xs (walked (rules_built u) [] w x)

  abbrev begin : Walk
  begin = walk_from nothing_held

  abbrev sub_fault : List Text → Kinds
  sub_fault ws = level_fault (leaf u) [] nothing_held ws false []

  sub_fault_is : (ws : List Text) → sub_fault ws ≡ total u good begin ws
  sub_fault_is ws =
      ap (λ k. or_else (walk_fault (leaf u) [] begin ws) (or_else (settle_fault (rules_built u) false (after begin ws).held) k))
      (ap₂ or_else (defaults_pass u (settled_rows (rules_built u) (after begin ws).held.pending (after begin ws).held.rows)) (checks_pass u (finished (rules_built u) (after begin ws).held)))
      ∙ ap (or_else (walk_fault (leaf u) [] begin ws)) (or_nil (settle_fault (rules_built u) false (after begin ws).held))
      ∙ sym (total_parts ws begin)

  abbrev SubAgrees : Option Said → Kinds → List Row → Type 0
  SubAgrees None k rows = k ≡ [] → ⊥
  SubAgrees (Some said) k rows = (k ≡ []) × HoldSaid u rows said

  sub_agrees : (ws : List Text) → AllSpell ws → SubAgrees (read u nothing_said None ws) (sub_fault ws) (rows_after (rules_built u) [] ws)
  unfolding Rattle.coinst_words.proofs.Reading.Stands
  sub_agrees ws all = go (read u nothing_said None ws) (goes u good ws all nothing_said None [] None Rattle.clap.specs.Walk.idle (refl, record { options = λ name plain. refl; ordinary = refl }, refl))
    where
      go : (s : Option Said) → Agrees u good s (total u good begin ws) (end_rows u good begin ws) → SubAgrees s (sub_fault ws) (rows_after (rules_built u) [] ws)
      go None bad = λ e. bad (sym (sub_fault_is ws) ∙ e)
      go (Some said) fine = (sub_fault_is ws ∙ fine.0, subst (λ (rs : List Row). HoldSaid u (fold with_default rs (rules_built u)) said) (end_is ws begin) (ends_with u good.flags (end_rows u good begin ws) said fine.1))

-- ---- the program

abbrev top_built : Shape
top_built = (built (app_of_usages [])).top

abbrev app_built : List Usage → App
app_built us = record { top = top_built; subs = map leaf us }

built_is : (us : List Usage) → built (app_of_usages us) ≡ app_built us
built_is us = ap (λ s. record { top = top_built; subs = s }) (go us)
  where
    go : (vs : List Usage) → (built (app_of_usages vs)).subs ≡ map leaf vs
    go [] = refl
    go (u ∷ vs) = ap₂ (λ s rest. s ∷ rest) (leaf_is u) (go vs)

label_found : (us : List Usage) (x : Text) → find (answers_to x) (map label_of (map leaf us)) ≡ option_map (λ u. (u.name, [])) (find (λ u. bytes_eq u.name x) us)
label_found [] x = refl
label_found (u ∷ us) x = go (bytes_eq u.name x) (label_found us x)
  where
    go : (b : Bool) → find (answers_to x) (map label_of (map leaf us)) ≡ option_map (λ v. (v.name, [])) (find (λ v. bytes_eq v.name x) us)
        → cond (b || false) (Some (u.name, [])) (find (answers_to x) (map label_of (map leaf us))) ≡ option_map (λ v. (v.name, [])) (cond b (Some u) (find (λ v. bytes_eq v.name x) us))
    go true e = refl
    go false e = e

leaf_found : (us : List Usage) (x : Text) → find (λ s. answers_to x (label_of s)) (map leaf us) ≡ option_map leaf (find (λ u. bytes_eq u.name x) us)
leaf_found [] x = refl
leaf_found (u ∷ us) x = go (bytes_eq u.name x) (leaf_found us x)
  where
    go : (b : Bool) → find (λ s. answers_to x (label_of s)) (map leaf us) ≡ option_map leaf (find (λ v. bytes_eq v.name x) us)
        → cond (b || false) (Some (leaf u)) (find (λ s. answers_to x (label_of s)) (map leaf us)) ≡ option_map leaf (cond b (Some u) (find (λ v. bytes_eq v.name x) us))
    go true e = refl
    go false e = e

-- each usage is good
abbrev pub AllGood : List Usage → Type 0
AllGood [] = Unit {0}
AllGood (u ∷ us) = IsGood u × AllGood us

found_good : (us : List Usage) → AllGood us → (x : Text) (u : Usage) → find (λ v. bytes_eq v.name x) us ≡ Some u → IsGood u × (u.name ≡ x)
found_good [] all x u e = cc
found_good (v ∷ us) all x u e = go (bytes_eq v.name x) refl (found_good us all.1 x u)
  where
    go : (b : Bool) → bytes_eq v.name x ≡ b → (find (λ w. bytes_eq w.name x) us ≡ Some u → IsGood u × (u.name ≡ x)) → IsGood u × (u.name ≡ x)
    go true d rest =
        let same : Some v ≡ Some u = rw d at e in
        let is : v ≡ u = cc in
        (subst (λ (w : Usage). IsGood w) is all.0, ap (λ (w : Usage). w.name) (sym is) ∙ same_bytes v.name x d)
    go false d rest = let later : find (λ w. bytes_eq w.name x) us ≡ Some u = rw d at e in rest later

-- ---- the first word

-- what the walk's end and the walk's faults come to
abbrev ending : List Usage → Walk → Kinds → Kinds
ending us w k = or_else k (or_else (entered_fault (app_built us) w.stopped)
    (or_else (settle_fault [] false w.held) (or_else (defaults_fault (settled [] w.held).rows []) (check_fault top_built (finished [] w.held) (is_some (entered (app_built us) w.stopped))))))

abbrev names_in : List Usage → Names
names_in us = names_of (app_built us)

abbrev start : Walk
start = walk_from nothing_held

fault_is : (us : List Usage) (words : List Text) → fault_of (app_of_usages us) words ≡ ending us (walk [] (names_in us) nothing_held words) (walk_fault top_built (names_in us) start words)
fault_is us words = ap (λ a. built_fault a nothing_held words) (built_is us)

sub_is : (us : List Usage) (words : List Text) → subcommand_of (app_of_usages us) words ≡ entered (app_built us) (walk [] (names_in us) nothing_held words).stopped
sub_is us words = ap (λ a. entered a (walk a.top.rules (names_of a) nothing_held words).stopped) (built_is us)

-- behind the command's name no word is a fault
stopped_fault : (names : Names) (w : Walk) (p : Text × List Text) (ws : List Text) → walk_fault top_built names (record w { stopped = Some p }) ws ≡ []
unfolding walk_fault walked
stopped_fault names w p [] = refl
stopped_fault names w p (x ∷ xs) = stopped_fault names w (p.0, p.1 ++ x ∷ []) xs

module _ (us : List Usage) (x : Text) (rest : List Text) where
  abbrev names : Names
  names = names_in us

  abbrev first_is : Option (Text × List Text) → Walk × Kinds
  first_is o = (walked [] names start x, turn_fault top_built names start x)

  and_false : (b : Bool) → (b && false) ≡ false
  and_false true = refl
  and_false false = refl

  name_met : (n : Text) → find (answers_to x) names ≡ Some (n, []) → (walked [] names start x ≡ record start { stopped = Some (n, []) }) × (turn_fault top_built names start x ≡ [])
  unfolding walked
  name_met n e = (rw e refl, rw e (ap (λ b. or_else (cond b (kind.DisplayHelp ∷ kind.InvalidSubcommand ∷ []) []) []) (and_false (bytes_eq n (codes "help")))))

  walk_is : (n : Text) → find (answers_to x) names ≡ Some (n, []) → walk [] names nothing_held (x ∷ rest) ≡ record start { stopped = Some (n, rest) }
  walk_is n e = ap (λ w. fold (walked [] names) w rest) (name_met n e).0 ∙ sym (walk_stopped [] names start n [] rest)

  walk_fault_is : (n : Text) → find (answers_to x) names ≡ Some (n, []) → walk_fault top_built names start (x ∷ rest) ≡ []
  unfolding walk_fault
  walk_fault_is n e = ap₂ (λ k w. or_else k (walk_fault top_built names w rest)) (name_met n e).1 (name_met n e).0 ∙ stopped_fault names start (n, []) rest

  -- a first word that is no command's name
  letters_fault : (letters : Text) (k c : ℕ) → length letters ≡ suc k → slice_get (chars letters) 0 ≡ Some c → bundle_fault [] false letters nothing_held ≡ [] → ⊥
  unfolding flags_fault
  letters_fault letters k c long first none =
      let at : flags_fault [] false (suc k) letters 0 nothing_held ≡ [] = subst (λ n. flags_fault [] false n letters 0 nothing_held ≡ []) long none in
      let first_at = subst (λ (o : Option ℕ). bundle_step_fault [] false o letters 0 nothing_held (flags_fault [] false k) ≡ []) first at in
      cc

  abbrev fault_by_name : Option Text → Kinds
  fault_by_name n = or_else (other_fault top_built n x nothing_held) (step_fault top_built 1 (subcommand_or_other [] n idle 1 x nothing_held).0 (subcommand_or_other [] n idle 1 x nothing_held).1)

  abbrev met_by_end : Bool → Held × Step
  met_by_end b = cond b (nothing_held, trailing 1) (long_or_other [] idle x (long_of x) nothing_held)

  abbrev fault_by_end : Bool → Kinds
  fault_by_end b = or_else (cond b [] (flag_word_fault [] false (long_of x) x nothing_held)) (step_fault top_built 1 (met_by_end b).0 (met_by_end b).1)

  abbrev fault_by_long : Option (Text × Option Text) → Kinds
  fault_by_long o = or_else (flag_word_fault [] false o x nothing_held) (step_fault top_built 1 (long_or_other [] idle x o nothing_held).0 (long_or_other [] idle x o nothing_held).1)

  abbrev fault_by_short : Option Text → Kinds
  fault_by_short o = or_else (option_map_or (λ letters. bundle_fault [] false letters nothing_held) o []) (step_fault top_built 1 (short_or_plain [] idle x o nothing_held).0 (short_or_plain [] idle x o nothing_held).1)

  module _ (e : find (answers_to x) names ≡ None) where
    turn_is : turn_fault top_built names start x ≡ fault_by_end (bytes_eq x (codes "--"))
    turn_is = ap (λ (o : Option (Text × List Text)). fault_by_name (option_map (λ s. s.0) o)) e

    after_is : walked [] names start x ≡ after_step [] x start (met_by_end (bytes_eq x (codes "--"))).0 (met_by_end (bytes_eq x (codes "--"))).1
    unfolding walked
    after_is = ap (λ (o : Option (Text × List Text)). after_step [] x start (subcommand_or_other [] (option_map (λ s. s.0) o) idle 1 x nothing_held).0 (subcommand_or_other [] (option_map (λ s. s.0) o) idle 1 x nothing_held).1) e

    by_short : Spells x → (o : Option Text) → short_of x ≡ o → fault_by_short o ≡ [] → ⊥
    by_short spells (Some letters) d nil = let s = spells letters d in letters_fault letters s.0 s.1 s.2 s.3 (left_none _ _ nil)
    by_short spells None d nil = cc

    by_long : Spells x → (o : Option (Text × Option Text)) → fault_by_long o ≡ [] → ⊥
    by_long spells (Some p) nil = cc
    by_long spells None nil = by_short spells (short_of x) refl nil

    -- a word behind a first `--`
    trailing_fault : (w : Walk) (y : Text) (ys : List Text) → w ≡ record start { is_trailing = true } → walk_fault top_built names w (y ∷ ys) ≡ [] → ⊥
    unfolding walk_fault walked
    trailing_fault w y ys d nil =
        some_fault kind.UnknownArgument (kind.InvalidSubcommand ∷ []) (left_none (kind.UnknownArgument ∷ kind.InvalidSubcommand ∷ []) (walk_fault top_built names (walked [] names (record start { is_trailing = true }) y) ys) (subst (λ (v : Walk). walk_fault top_built names v (y ∷ ys) ≡ []) d nil))

    no_command : Spells x → ending us (walk [] names nothing_held (x ∷ rest)) (walk_fault top_built names start (x ∷ rest)) ≡ [] → ⊥
    unfolding walk_fault defaults_fault
    no_command spells nil = go (bytes_eq x (codes "--")) refl
      where
        first : or_else (turn_fault top_built names start x) (walk_fault top_built names (walked [] names start x) rest) ≡ []
        first = left_none _ _ nil

        behind : (ws : List Text) → rest ≡ ws → walked [] names start x ≡ record start { is_trailing = true } → or_else (turn_fault top_built names start x) (walk_fault top_built names (walked [] names start x) ws) ≡ []
            → ending us (fold (walked [] names) (walked [] names start x) ws) [] ≡ [] → turn_fault top_built names start x ≡ [] → ⊥
        behind [] same w all last t =
            some_fault kind.MissingSubcommand [] (subst (λ (v : Walk). ending us v [] ≡ []) w last)
        behind (y ∷ ys) same w all last t = trailing_fault (walked [] names start x) y ys w (sym (ap (λ k. or_else k (walk_fault top_built names (walked [] names start x) (y ∷ ys))) t) ∙ all)

        go : (b : Bool) → bytes_eq x (codes "--") ≡ b → ⊥
        go false d = by_long spells (long_of x) (sym (turn_is ∙ ap fault_by_end d) ∙ left_none _ _ first)
        go true d =
            behind rest refl (after_is ∙ ap (λ b. after_step [] x start (met_by_end b).0 (met_by_end b).1) d) first
            (sym (ap (ending us (walk [] names nothing_held (x ∷ rest))) first) ∙ nil) (turn_is ∙ ap fault_by_end d)

-- ---- the result

abbrev pub TopAgrees : Option (Usage × Said) → Kinds → Option (Text × List Row) → Type 0
TopAgrees None k sub = k ≡ [] → ⊥
TopAgrees (Some p) k sub = (rows : List Row) × (k ≡ []) × (sub ≡ Some (p.0.name, rows)) × HoldSaid p.0 rows p.1

missing_name : (us : List Usage) → ending us (walk [] (names_in us) nothing_held []) (walk_fault top_built (names_in us) start []) ≡ [] → ⊥
unfolding walk_fault defaults_fault
missing_name us nil = some_fault kind.MissingSubcommand [] nil

entered_found : (us : List Usage) (x : Text) (rest : List Text) (u : Usage) → find (λ v. bytes_eq v.name x) us ≡ Some u → u.name ≡ x → entered (app_built us) (Some (u.name, rest)) ≡ Some (u.name, rows_after (rules_built u) [] rest)
entered_found us x rest u e is =
    ap (λ n. option_map (λ s. rows_at s rest) (find (λ s. answers_to n (label_of s)) (map leaf us))) is
    ∙ ap (option_map (λ s. rows_at s rest)) (leaf_found us x ∙ ap (option_map leaf) e)

entered_fault_is : (us : List Usage) (x : Text) (rest : List Text) (u : Usage) → find (λ v. bytes_eq v.name x) us ≡ Some u → u.name ≡ x
    → entered_fault (app_built us) (Some (u.name, rest)) ≡ level_fault (leaf u) [] nothing_held rest false []
entered_fault_is us x rest u e is =
    ap (λ n. option_map_or (λ s. level_fault s [] nothing_held rest false []) (find (λ s. answers_to n (label_of s)) (map leaf us)) []) is
    ∙ ap (λ o. option_map_or (λ s. level_fault s [] nothing_held rest false []) o []) (leaf_found us x ∙ ap (option_map leaf) e)

ending_found : (us : List Usage) (x : Text) (rest : List Text) (u : Usage) → find (λ v. bytes_eq v.name x) us ≡ Some u → u.name ≡ x
    → ending us (record start { stopped = Some (u.name, rest) }) [] ≡ level_fault (leaf u) [] nothing_held rest false []
unfolding defaults_fault
ending_found us x rest u e is =
    ap (λ o. or_else (entered_fault (app_built us) (Some (u.name, rest))) (check_fault top_built [] (is_some o))) (entered_found us x rest u e is)
    ∙ or_nil (entered_fault (app_built us) (Some (u.name, rest))) ∙ entered_fault_is us x rest u e is

pub top_agrees : (us : List Usage) → AllGood us → (words : List Text) → AllSpell words → TopAgrees (said_of us words) (fault_of (app_of_usages us) words) (subcommand_of (app_of_usages us) words)
top_agrees us good [] all = λ nil. missing_name us (sym (fault_is us []) ∙ nil)
top_agrees us good (x ∷ rest) all = go (find (λ v. bytes_eq v.name x) us) refl
  where
    go : (o : Option Usage) → find (λ v. bytes_eq v.name x) us ≡ o → TopAgrees (said_by o rest) (fault_of (app_of_usages us) (x ∷ rest)) (subcommand_of (app_of_usages us) (x ∷ rest))
    go None e = λ nil. no_command us x rest (label_found us x ∙ ap (option_map (λ u. (u.name, []))) e) all.0 (sym (fault_is us (x ∷ rest)) ∙ nil)
    go (Some u) e = by_read (read u nothing_said None rest) (sub_agrees u fits.0 rest all.1)
      where
        fits : IsGood u × (u.name ≡ x)
        fits = found_good us good x u e

        met : find (answers_to x) (names_in us) ≡ Some (u.name, [])
        met = label_found us x ∙ ap (option_map (λ v. (v.name, []))) e

        faults : fault_of (app_of_usages us) (x ∷ rest) ≡ level_fault (leaf u) [] nothing_held rest false []
        faults = fault_is us (x ∷ rest) ∙ ap₂ (ending us) (walk_is us x rest u.name met) (walk_fault_is us x rest u.name met) ∙ ending_found us x rest u e fits.1

        sub : subcommand_of (app_of_usages us) (x ∷ rest) ≡ Some (u.name, rows_after (rules_built u) [] rest)
        sub = sub_is us (x ∷ rest) ∙ ap (λ w. entered (app_built us) w.stopped) (walk_is us x rest u.name met) ∙ entered_found us x rest u e fits.1

        by_read : (s : Option Said) → SubAgrees u fits.0 s (level_fault (leaf u) [] nothing_held rest false []) (rows_after (rules_built u) [] rest)
            → TopAgrees (option_map (λ said. (u, said)) s) (fault_of (app_of_usages us) (x ∷ rest)) (subcommand_of (app_of_usages us) (x ∷ rest))
        by_read None bad = λ nil. bad (sym faults ∙ nil)
        by_read (Some said) fine = (rows_after (rules_built u) [] rest, faults ∙ fine.0, sub, fine.1)
