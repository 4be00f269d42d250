-- `clap` takes the words of a usage exactly where they are read, and its rows are what was read.
use Rattle.std.proofs.Common.{◌≡◌, ◌⊎◌, inl, inr, ◌∙◌, ◌&&◌, Bool, cond, true, false, refl, sym, ap, ap₂, subst, codes, List, [], ◌∷◌, ◌++◌, Option, Some, None}
use Rattle.std.proofs.Common.{is_some, append_assoc, append-nil}
use Rattle.std.specs.{Option.{option_map, option_map_or}, Prelude.{option_and_then, nat_lt}, Str.{bytes_eq}}
use Rattle.listed.proofs.Lists.{same_bytes}
use Rattle.clap.specs.{Kinds.{Kinds, or_else}, Faults.{positional_fault, react_fault, settle_fault, step_fault, turn_fault, use_fault, word_fault}}
use Rattle.clap.specs.Walk.{Held, Row, Rule, Step, Waiting, Walk, after_step, arg_by_id, idle, is_pending, next, option, option_word, plain_word, positional}
use Rattle.clap.specs.Walk.{reacted, settled, settled_rows, to_positional, trailing, value, walked, word_met, used, used_by_id, has_row, pushed}
use Rattle.coinst_words.specs.Usage.{Meaning, Said, Text, Usage, asks, dashed_or_plain, ends, flag, give, gives, is_among, long_or_other, meaning_of}
use Rattle.coinst_words.specs.Usage.{option_meaning, plain, read, read_word, refused, say, value_of}
use Rattle.coinst_words.proofs.Rules.{flag_built, found_by_id, found_by_index, rules_built, valued_built, words_built}
use Rattle.coinst_words.proofs.{RowsSaid.{Looks, eq_self, gave, has_row-values, said_word, set_appends}, Walks.{Spells, held, leaf, walk_at, IsMet, met}}

-- no option is called as the other words are
pub record IsGood (u : Usage) : Type 0 where
  pub flags : is_among u.flags (codes "words") ≡ false
  pub valued : is_among u.valued (codes "words") ≡ false

abbrev pub is_option : Waiting → Bool
is_option (option n) = true
is_option _ = false

abbrev pub AllSpell : List Text → Type 0
AllSpell [] = Unit {0}
AllSpell (x ∷ xs) = Spells x × AllSpell xs

pub left_none : (a b : Kinds) → or_else a b ≡ [] → a ≡ []
left_none [] b e = refl
left_none (k ∷ ks) b e = e

module _ (u : Usage) (good : IsGood u) where
  abbrev rules : List Rule
  rules = rules_built u

  -- the faults of the words from w on, and of what is pending behind them
  unfoldable pub total : Walk → List Text → Kinds
  total w [] = settle_fault rules false w.held
  total w (x ∷ xs) = or_else (turn_fault (leaf u) [] w x) (total (walked rules [] w x) xs)

  unfoldable pub end_rows : Walk → List Text → List Row
  end_rows w [] = settled_rows rules w.held.pending w.held.rows
  end_rows w (x ∷ xs) = end_rows (walked rules [] w x) xs

  abbrev pub Agrees : Option Said → Kinds → List Row → Type 0
  Agrees None faults rows = faults ≡ [] → ⊥
  Agrees (Some said) faults rows = (faults ≡ []) × Looks rows said

  -- ---- what is known of the names

  not_words : (names : List Text) (n : Text) → is_among names (codes "words") ≡ false → is_among names n ≡ true → bytes_eq n (codes "words") ≡ false
  not_words names n none has = go (bytes_eq n (codes "words")) refl
    where
      go : (b : Bool) → bytes_eq n (codes "words") ≡ b → bytes_eq n (codes "words") ≡ false
      go true e = let bad : true ≡ false = sym has ∙ ap (is_among names) (same_bytes n (codes "words") e) ∙ none in cc
      go false e = e

  abbrev IsValued : Text → Type 0
  IsValued n = (is_among u.flags n ≡ false) × (is_among u.valued n ≡ true)

  abbrev Known : Meaning → Type 0
  Known (flag n) = is_among u.flags n ≡ true
  Known (gives n v) = IsValued n
  Known (asks n) = IsValued n
  Known _ = Unit {0}

  known : (word : Text) → Known (meaning_of u word)
  known word = at (bytes_eq word (codes "--"))
    where
      named : (n : Text) (v : Option Text) → Known (option_meaning u n v)
      named n None = go (is_among u.flags n) refl (is_among u.valued n) refl
        where
          go : (f : Bool) → is_among u.flags n ≡ f → (g : Bool) → is_among u.valued n ≡ g → Known (cond f (flag n) (cond g (asks n) refused))
          go true e g d = e
          go false e true d = (e, d)
          go false e false d = tt
      named n (Some v) = go (is_among u.flags n) refl (is_among u.valued n) refl
        where
          go : (f : Bool) → is_among u.flags n ≡ f → (g : Bool) → is_among u.valued n ≡ g → Known (cond f refused (cond g (gives n v) refused))
          go true e g d = tt
          go false e true d = (e, d)
          go false e false d = tt

      short : (o : Option Text) → Known (dashed_or_plain o)
      short None = tt
      short (Some x) = tt

      long : (o : Option (Text × Option Text)) → Known (long_or_other u word o)
      long None = short (Rattle.clap.specs.Lexer.short_of word)
      long (Some p) = named p.0 p.1

      at : (b : Bool) → Known (cond b ends (long_or_other u word (Rattle.clap.specs.Lexer.long_of word)))
      at true = tt
      at false = long (Rattle.clap.specs.Lexer.long_of word)

  valued_found : (n : Text) → IsValued n → arg_by_id rules n ≡ Some (valued_built n)
  valued_found n k = found_by_id u n ∙ rw (k.0, k.1) refl

  words_found : arg_by_id rules (codes "words") ≡ Some words_built
  words_found = found_by_id u (codes "words") ∙ rw (good.flags, good.valued) refl

  -- ---- uses

  flag_use : (n : Text) (rows : List Row) (b : Bool) → has_row n rows ≡ b → use_fault false (flag_built n) [] rows ≡ cond b (Rattle.clap.specs.declared.error.kind.ErrorKind.TheVariants.ArgumentConflict ∷ []) []
  flag_use n rows true e = rw e refl
  flag_use n rows false e = rw e refl

  valued_use : (n v : Text) (rows : List Row) (b : Bool) → has_row n rows ≡ b → use_fault false (valued_built n) (v ∷ []) rows ≡ cond b (Rattle.clap.specs.declared.error.kind.ErrorKind.TheVariants.ArgumentConflict ∷ []) []
  valued_use n v rows true e = rw e refl
  valued_use n v rows false e = rw e refl

  -- a pending option with no value is a fault
  waits_fault : (n : Text) (rows : List Row) → IsValued n → settle_fault rules false (held rows (Some (n, []))) ≡ [] → ⊥
  waits_fault n rows k none =
      let bad = subst (λ (o : Option Rule). option_map_or (λ a. use_fault false a [] rows) o [] ≡ []) (valued_found n k) none in
      cc

  given_row : (n : Text) (rows : List Row) (said : Said) → bytes_eq n (codes "words") ≡ false → Looks rows said → has_row n rows ≡ is_some (value_of n said.given)
  given_row n rows said other looks = has_row-values n rows ∙ ap (λ o. is_some o) (looks.options n other) ∙ go (value_of n said.given)
    where
      go : (o : Option Text) → is_some (option_map (λ v. v ∷ []) o) ≡ is_some o
      go None = refl
      go (Some v) = refl

  -- ---- a word that goes to the other words

  settle_words : (w : Text) (rows : List Row) → settle_fault rules false (held rows (Some (codes "words", w ∷ []))) ≡ []
  settle_words w rows = subst (λ (o : Option Rule). option_map_or (λ a. use_fault false a (w ∷ []) rows) o [] ≡ []) (sym words_found) refl

  word_rows : (w : Text) (rows : List Row) (said : Said) → Looks rows said → Looks (settled_rows rules (Some (codes "words", w ∷ [])) rows) (say (w ∷ []) said)
  word_rows w rows said looks =
      subst (λ (o : Option Rule). Looks (used_by_id o (w ∷ []) rows) (say (w ∷ []) said)) (sym words_found) (said_word w _ rows said looks)

  and_false : (b : Bool) → (b && false) ≡ false
  and_false true = refl
  and_false false = refl

  module _ (rows : List Row) (pending : Option (Text × List Text)) (waiting : Waiting) (tr : Bool) (x : Text) where
    abbrev here : Held
    here = held rows pending

    value_fault : step_fault (leaf u) 1 here value ≡ settle_fault rules false here
    value_fault = subst (λ (o : Option Rule). option_map_or (λ a. positional_fault rules false a here) o (Rattle.clap.specs.Faults.stray_fault (leaf u)) ≡ settle_fault rules false here) (sym (found_by_index u))
        (ap (λ b. cond b [] (settle_fault rules false here)) (and_false (is_pending words_built pending)))

    after_value : after_step rules x (walk_at rows pending waiting tr) here value ≡ walk_at (settled_rows rules pending rows) (Some (codes "words", x ∷ [])) positional tr
    after_value = subst (λ (o : Option Rule). to_positional rules o x (walk_at rows pending waiting tr) here ≡ walk_at (settled_rows rules pending rows) (Some (codes "words", x ∷ [])) positional tr) (sym (found_by_index u))
        (go tr ∙ ap (λ (b : Bool). record (walk_at rows pending positional tr) { held = pushed (codes "words") x (cond b here (settled rules here)) }) (and_false (is_pending words_built pending)))
      where
        go : (t : Bool) → to_positional rules (Some words_built) x (walk_at rows pending waiting t) here
            ≡ record (walk_at rows pending positional t) { held = pushed (codes "words") x (cond (is_pending words_built pending && false) here (settled rules here)) }
        go true = refl
        go false = refl

  -- ---- one word and those behind it

  module _ (rows : List Row) (pending : Option (Text × List Text)) (waiting : Waiting) (x : Text) (xs : List Text) where
    abbrev faults_by : Held × Step → Kinds → Kinds
    faults_by m k = or_else (or_else k (step_fault (leaf u) 1 m.0 m.1)) (total (after_step rules x (walk_at rows pending waiting false) m.0 m.1) xs)

    abbrev rows_by : Held × Step → List Row
    rows_by m = end_rows (after_step rules x (walk_at rows pending waiting false) m.0 m.1) xs

    abbrev first_met : Held × Step
    first_met = word_met rules [] false waiting 1 x (held rows pending)

    abbrev first_fault : Kinds
    first_fault = word_fault (leaf u) [] false waiting x (held rows pending)

    faults_are : total (walk_at rows pending waiting false) (x ∷ xs) ≡ faults_by first_met first_fault
    unfolding total walked
    faults_are = refl

    rows_are : end_rows (walk_at rows pending waiting false) (x ∷ xs) ≡ rows_by first_met
    unfolding end_rows walked
    rows_are = refl

    by : (s : Option Said) (m n : Held × Step) (k l : Kinds) → m ≡ n → k ≡ l → Agrees s (faults_by n l) (rows_by n) → Agrees s (faults_by m k) (rows_by m)
    by s m n k l e d a = subst (λ (y : Held × Step). Agrees s (faults_by y k) (rows_by y)) (sym e) (subst (λ (j : Kinds). Agrees s (faults_by n j) (rows_by n)) (sym d) a)

    by_fault : (m : Held × Step) (k : Kinds) → (k ≡ [] → ⊥) → faults_by m k ≡ [] → ⊥
    by_fault m k bad none = bad (left_none k (step_fault (leaf u) 1 m.0 m.1) (left_none (or_else k (step_fault (leaf u) 1 m.0 m.1)) _ none))

    to_words : total (walk_at rows pending waiting true) (x ∷ xs) ≡ or_else (step_fault (leaf u) 1 (held rows pending) value) (total (after_step rules x (walk_at rows pending waiting true) (held rows pending) value) xs)
    unfolding total walked
    to_words = refl

    to_words_rows : end_rows (walk_at rows pending waiting true) (x ∷ xs) ≡ end_rows (after_step rules x (walk_at rows pending waiting true) (held rows pending) value) xs
    unfolding end_rows walked
    to_words_rows = refl

  plain_here : (rows : List Row) (pending : Option (Text × List Text)) (waiting : Waiting) (x : Text) → is_option waiting ≡ false → plain_word rules waiting x (held rows pending) ≡ (held rows pending, value)
  plain_here rows pending idle x e = refl
  plain_here rows pending positional x e = refl
  plain_here rows pending (option n) x e = cc

  -- ---- faults that no more words take away

  abbrev IsStuck : Bool → Waiting → Type 0
  IsStuck tr waiting = (tr ≡ true) ⊎ (is_option waiting ≡ false)

  doom : (ws : List Text) → AllSpell ws → (rows : List Row) (pending : Option (Text × List Text)) (waiting : Waiting) (tr : Bool)
      → (settle_fault rules false (held rows pending) ≡ [] → ⊥) → IsStuck tr waiting → total (walk_at rows pending waiting tr) ws ≡ [] → ⊥
  unfolding total
  doom [] all rows pending waiting tr bad stuck none = bad none
  doom (x ∷ xs) all rows pending waiting true bad stuck none =
      bad (sym (value_fault rows pending waiting true x) ∙ left_none _ _ (sym (to_words rows pending waiting x xs) ∙ none))
  doom (x ∷ xs) all rows pending waiting false bad stuck none =
      step (doom xs all.1 rows pending waiting true bad (inl refl)) (meaning_of u x) _ _ (met u rows pending waiting x all.0) (sym (faults_are rows pending waiting x xs) ∙ none)
    where
      idle_now : is_option waiting ≡ false
      idle_now = elim stuck [ inl e ↦ cc | inr e ↦ e ]

      step : (total (walk_at rows pending waiting true) xs ≡ [] → ⊥) → (m : Meaning) (y : Held × Step) (k : Kinds) → IsMet u rows pending waiting x m y k → faults_by rows pending waiting x xs y k ≡ [] → ⊥
      step later ends y k is nil = later (subst (λ (z : Held × Step). faults_by rows pending waiting x xs z [] ≡ []) is.0 (subst (λ (j : Kinds). faults_by rows pending waiting x xs y j ≡ []) is.1 nil))
      step later (flag n) y k is nil = by_fault rows pending waiting x xs y k (λ e. bad (left_none _ _ (sym is.1 ∙ e))) nil
      step later (gives n v) y k is nil = by_fault rows pending waiting x xs y k (λ e. bad (left_none _ _ (sym is.1 ∙ e))) nil
      step later (asks n) y k is nil = by_fault rows pending waiting x xs y k (λ e. bad (sym is.1 ∙ e)) nil
      step later plain y k is nil =
          let at : faults_by rows pending waiting x xs (held rows pending, value) [] ≡ [] =
          subst (λ (z : Held × Step). faults_by rows pending waiting x xs z [] ≡ []) (is.0 ∙ plain_here rows pending waiting x idle_now) (subst (λ (j : Kinds). faults_by rows pending waiting x xs y j ≡ []) is.1 nil) in
          bad (sym (value_fault rows pending waiting false x) ∙ left_none _ _ at)
      step later refused y k is nil = by_fault rows pending waiting x xs y k is nil

  -- ---- the words after `--`

  trail : (ws : List Text) (said : Said) (rows : List Row) (pending : Option (Text × List Text)) (waiting : Waiting) → settle_fault rules false (held rows pending) ≡ []
      → Looks (settled_rows rules pending rows) said → Agrees (Some (say ws said)) (total (walk_at rows pending waiting true) ws) (end_rows (walk_at rows pending waiting true) ws)
  unfolding total end_rows
  trail [] said rows pending waiting fine looks = (fine, subst (λ (ws : List Text). Looks (settled_rows rules pending rows) (record said { ordinary = ws })) (sym (append-nil said.ordinary)) looks)
  trail (x ∷ xs) said rows pending waiting fine looks =
      let next_rows = settled_rows rules pending rows in
      let rest = trail xs (say (x ∷ []) said) next_rows (Some (codes "words", x ∷ [])) positional (settle_words x next_rows) (word_rows x next_rows said looks) in
      let moved = subst (λ (w : Walk). Agrees (Some (say xs (say (x ∷ []) said))) (total w xs) (end_rows w xs)) (sym (after_value rows pending waiting true x)) rest in (
        to_words rows pending waiting x xs ∙ ap (λ k. or_else k (total (after_step rules x (walk_at rows pending waiting true) (held rows pending) value) xs)) (value_fault rows pending waiting true x ∙ fine) ∙ moved.0,
        subst (λ (rs : List Row). Looks rs (say (x ∷ xs) said)) (sym (to_words_rows rows pending waiting x xs)) (subst (λ (ws : List Text). Looks (end_rows (after_step rules x (walk_at rows pending waiting true) (held rows pending) value) xs) (record said { ordinary = ws })) (append_assoc said.ordinary (x ∷ []) xs) moved.1),
      )

  -- ---- all the words

  -- what stands between two words: a value is waited for, or not
  unfoldable pub Stands : Said → Option Text → List Row → Option (Text × List Text) → Waiting → Type 0
  Stands said None rows pending waiting = (settle_fault rules false (held rows pending) ≡ []) × Looks (settled_rows rules pending rows) said × (is_option waiting ≡ false)
  Stands said (Some n) rows pending waiting = (pending ≡ Some (n, [])) × (waiting ≡ option n) × Looks rows said × IsValued n

  abbrev pub Goes : List Text → Type 0
  Goes ws = (said : Said) (o : Option Text) (rows : List Row) (pending : Option (Text × List Text)) (waiting : Waiting) → Stands said o rows pending waiting
      → Agrees (read u said o ws) (total (walk_at rows pending waiting false) ws) (end_rows (walk_at rows pending waiting false) ws)

  conflict : Kinds
  conflict = Rattle.clap.specs.declared.error.kind.ErrorKind.TheVariants.ArgumentConflict ∷ []

  -- a use of an option at once, by `--name` or `--name=value`
  at_once : (xs : List Text) → Goes xs → (x : Text) (said : Said) (rows : List Row) (pending : Option (Text × List Text)) (waiting : Waiting) (a : Rule) (values : List Text) (n v : Text)
      → settle_fault rules false (held rows pending) ≡ [] → Looks (settled_rows rules pending rows) said → bytes_eq n (codes "words") ≡ false
      → ((b : Bool) → has_row n (settled_rows rules pending rows) ≡ b → use_fault false a values (settled_rows rules pending rows) ≡ cond b (Rattle.clap.specs.declared.error.kind.ErrorKind.TheVariants.ArgumentConflict ∷ []) [])
      → (has_row n (settled_rows rules pending rows) ≡ false → Looks (used a values (settled_rows rules pending rows)) (record said { given = said.given ++ (n, v) ∷ [] }))
      → (y : Held × Step) (k : Kinds) → y ≡ (reacted rules a values (held rows pending), next idle) → k ≡ react_fault rules false a values (held rows pending)
      → Agrees (option_and_then (λ s. read u s None xs) (give n v said)) (faults_by rows pending waiting x xs y k) (rows_by rows pending waiting x xs y)
  unfolding Stands
  at_once xs go x said rows pending waiting a values n v fine looks other fault after y k met_is fault_is =
      by rows pending waiting x xs (option_and_then (λ s. read u s None xs) (give n v said)) y (reacted rules a values (held rows pending), next idle) k (react_fault rules false a values (held rows pending)) met_is fault_is
      (pick (is_some (value_of n said.given)) refl)
    where
      has : has_row n (settled_rows rules pending rows) ≡ is_some (value_of n said.given)
      has = given_row n (settled_rows rules pending rows) said other looks

      use_is : react_fault rules false a values (held rows pending) ≡ use_fault false a values (settled_rows rules pending rows)
      use_is = ap (λ j. or_else j (use_fault false a values (settled_rows rules pending rows))) fine

      pick : (b : Bool) → is_some (value_of n said.given) ≡ b
          → Agrees (option_and_then (λ s. read u s None xs) (cond (is_some (value_of n said.given)) None (Some (record said { given = said.given ++ (n, v) ∷ [] }))))
          (faults_by rows pending waiting x xs (reacted rules a values (held rows pending), next idle) (react_fault rules false a values (held rows pending)))
          (rows_by rows pending waiting x xs (reacted rules a values (held rows pending), next idle))
      pick true e = rw e (by_fault rows pending waiting x xs (reacted rules a values (held rows pending), next idle) (react_fault rules false a values (held rows pending)) (λ nil. let bad = sym nil ∙ use_is ∙ fault true (has ∙ e) in cc))
      pick false e =
          let quiet : react_fault rules false a values (held rows pending) ≡ [] = use_is ∙ fault false (has ∙ e) in
          let rest = go (record said { given = said.given ++ (n, v) ∷ [] }) None (used a values (settled_rows rules pending rows)) None idle (refl, after (has ∙ e), refl) in
          rw e (subst (λ (j : Kinds). Agrees (read u (record said { given = said.given ++ (n, v) ∷ [] }) None xs)
          (faults_by rows pending waiting x xs (reacted rules a values (held rows pending), next idle) j) (rows_by rows pending waiting x xs (reacted rules a values (held rows pending), next idle))) (sym quiet) rest)

  flag_after : (n : Text) (rows : List Row) (said : Said) → bytes_eq n (codes "words") ≡ false → Looks rows said → has_row n rows ≡ false
      → Looks (used (flag_built n) [] rows) (record said { given = said.given ++ (n, codes "true") ∷ [] })
  flag_after n rows said other looks none = gave n (codes "true") _ rows _ said other looks (set_appends n _ (codes "true" ∷ []) rows none)

  valued_after : (n v : Text) (rows : List Row) (said : Said) → bytes_eq n (codes "words") ≡ false → Looks rows said → has_row n rows ≡ false
      → Looks (used (valued_built n) (v ∷ []) rows) (record said { given = said.given ++ (n, v) ∷ [] })
  valued_after n v rows said other looks none = gave n v _ rows _ said other looks (set_appends n _ (v ∷ []) rows none)

  module _ (x : Text) (xs : List Text) (go : Goes xs) (all : AllSpell xs) (said : Said) (rows : List Row) (pending : Option (Text × List Text)) (waiting : Waiting) where
    -- the next word, where no value is waited for
    free : settle_fault rules false (held rows pending) ≡ [] → Looks (settled_rows rules pending rows) said → is_option waiting ≡ false
        → (m : Meaning) → Known m → (y : Held × Step) (k : Kinds) → IsMet u rows pending waiting x m y k
        → Agrees (read_word u m x said None xs (λ s w. read u s w xs)) (faults_by rows pending waiting x xs y k) (rows_by rows pending waiting x xs y)
    unfolding Stands
    free fine looks idle_now ends kn y k is =
        by rows pending waiting x xs (Some (say xs said)) y (held rows pending, trailing 1) k [] is.0 is.1 (trail xs said rows pending waiting fine looks)
    free fine looks idle_now (flag n) kn y k is =
        let other = not_words u.flags n good.flags kn in
        at_once xs go x said rows pending waiting (flag_built n) [] n (codes "true") fine looks other (flag_use n (settled_rows rules pending rows))
        (flag_after n (settled_rows rules pending rows) said other looks) y k is.0 is.1
    free fine looks idle_now (gives n v) kn y k is =
        let other = not_words u.valued n good.valued kn.1 in
        at_once xs go x said rows pending waiting (valued_built n) (v ∷ []) n v fine looks other (valued_use n v (settled_rows rules pending rows))
        (valued_after n v (settled_rows rules pending rows) said other looks) y k is.0 is.1
    free fine looks idle_now (asks n) kn y k is =
        by rows pending waiting x xs (read u said (Some n) xs) y (record (settled rules (held rows pending)) { pending = Some (n, []) }, next (option n)) k [] is.0 (is.1 ∙ fine)
        (go said (Some n) (settled_rows rules pending rows) (Some (n, [])) (option n) (refl, refl, looks, kn))
    free fine looks idle_now plain kn y k is =
        by rows pending waiting x xs (read u (say (x ∷ []) said) None xs) y (held rows pending, value) k [] (is.0 ∙ plain_here rows pending waiting x idle_now) is.1 (
        let next_rows = settled_rows rules pending rows in
        let rest = go (say (x ∷ []) said) None next_rows (Some (codes "words", x ∷ [])) positional (settle_words x next_rows, word_rows x next_rows said looks, refl) in
        let moved = subst (λ (w : Walk). Agrees (read u (say (x ∷ []) said) None xs) (total w xs) (end_rows w xs)) (sym (after_value rows pending waiting false x)) rest in
        subst (λ (j : Kinds). Agrees (read u (say (x ∷ []) said) None xs) (or_else j (total (after_step rules x (walk_at rows pending waiting false) (held rows pending) value) xs)) (end_rows (after_step rules x (walk_at rows pending waiting false) (held rows pending) value) xs))
        (sym (value_fault rows pending waiting false x ∙ fine)) moved)
    free fine looks idle_now refused kn y k is = by_fault rows pending waiting x xs y k is

    -- the next word, where the option n waits for its value
    waits : (n : Text) → pending ≡ Some (n, []) → waiting ≡ option n → Looks rows said → IsValued n
        → (m : Meaning) → (y : Held × Step) (k : Kinds) → IsMet u rows pending waiting x m y k
        → Agrees (read_word u m x said (Some n) xs (λ s w. read u s w xs)) (faults_by rows pending waiting x xs y k) (rows_by rows pending waiting x xs y)
    unfolding Stands
    waits n held_is waits_is looks kn m y k is = by_meaning m is
      where
        bad : settle_fault rules false (held rows pending) ≡ [] → ⊥
        bad e = waits_fault n rows kn (subst (λ (p : Option (Text × List Text)). settle_fault rules false (held rows p) ≡ []) held_is e)

        other : bytes_eq n (codes "words") ≡ false
        other = not_words u.valued n good.valued kn.1

        -- the word is the value
        taken : plain_word rules waiting x (held rows pending) ≡ (held rows (Some (n, x ∷ [])), next idle)
        taken = ap₂ (λ (w : Waiting) (p : Option (Text × List Text)). plain_word rules w x (held rows p)) waits_is held_is
            ∙ ap (λ (o : Option Rule). ((option_word o n x (held rows (Some (n, [])))).0, next (option_word o n x (held rows (Some (n, [])))).1)) (valued_found n kn)
            ∙ ap (λ (b : Bool). (held rows (Some (n, x ∷ [])), next (cond (nat_lt (cond b 1 0) 1) (option n) idle))) (eq_self n)

        settle_is : settle_fault rules false (held rows (Some (n, x ∷ []))) ≡ use_fault false (valued_built n) (x ∷ []) rows
        settle_is = ap (λ (o : Option Rule). option_map_or (λ a. use_fault false a (x ∷ []) rows) o []) (valued_found n kn)

        rows_after : settled_rows rules (Some (n, x ∷ [])) rows ≡ used (valued_built n) (x ∷ []) rows
        rows_after = ap (λ (o : Option Rule). used_by_id o (x ∷ []) rows) (valued_found n kn)

        pick : (b : Bool) → is_some (value_of n said.given) ≡ b → has_row n rows ≡ b
            → Agrees (option_and_then (λ s. read u s None xs) (cond (is_some (value_of n said.given)) None (Some (record said { given = said.given ++ (n, x) ∷ [] }))))
            (total (walk_at rows (Some (n, x ∷ [])) idle false) xs) (end_rows (walk_at rows (Some (n, x ∷ [])) idle false) xs)
        pick true e has = rw e (doom xs all rows (Some (n, x ∷ [])) idle false (λ nil. let no_fault = sym nil ∙ settle_is ∙ valued_use n x rows true has in cc) (inr refl))
        pick false e has = rw e (go (record said { given = said.given ++ (n, x) ∷ [] }) None rows (Some (n, x ∷ [])) idle
            (settle_is ∙ valued_use n x rows false has, subst (λ (rs : List Row). Looks rs (record said { given = said.given ++ (n, x) ∷ [] })) (sym rows_after) (valued_after n x rows said other looks has), refl))

        by_meaning : (m : Meaning) → IsMet u rows pending waiting x m y k
            → Agrees (read_word u m x said (Some n) xs (λ s w. read u s w xs)) (faults_by rows pending waiting x xs y k) (rows_by rows pending waiting x xs y)
        by_meaning ends met_is = λ nil. doom xs all rows pending waiting true bad (inl refl)
            (subst (λ (z : Held × Step). faults_by rows pending waiting x xs z [] ≡ []) met_is.0 (subst (λ (j : Kinds). faults_by rows pending waiting x xs y j ≡ []) met_is.1 nil))
        by_meaning (flag f) met_is = by_fault rows pending waiting x xs y k (λ e. bad (left_none _ _ (sym met_is.1 ∙ e)))
        by_meaning (gives f v) met_is = by_fault rows pending waiting x xs y k (λ e. bad (left_none _ _ (sym met_is.1 ∙ e)))
        by_meaning (asks f) met_is = by_fault rows pending waiting x xs y k (λ e. bad (sym met_is.1 ∙ e))
        by_meaning plain met_is = by rows pending waiting x xs (option_and_then (λ s. read u s None xs) (give n x said)) y (held rows (Some (n, x ∷ [])), next idle) k [] (met_is.0 ∙ taken) met_is.1
            (pick (is_some (value_of n said.given)) refl (given_row n rows said other looks))
        by_meaning refused met_is = by_fault rows pending waiting x xs y k met_is

  pub goes : (ws : List Text) → AllSpell ws → Goes ws
  unfolding read total end_rows Stands
  goes [] all said None rows pending waiting st = (st.0, st.1)
  goes [] all said (Some n) rows pending waiting st = λ e. waits_fault n rows st.3 (subst (λ (p : Option (Text × List Text)). settle_fault rules false (held rows p) ≡ []) st.0 e)
  goes (x ∷ xs) all said o rows pending waiting st =
      subst (λ (j : Kinds). Agrees (read u said o (x ∷ xs)) j (end_rows (walk_at rows pending waiting false) (x ∷ xs))) (sym (faults_are rows pending waiting x xs))
      (subst (λ (rs : List Row). Agrees (read u said o (x ∷ xs)) (faults_by rows pending waiting x xs (first_met rows pending waiting x xs) (first_fault rows pending waiting x xs)) rs) (sym (rows_are rows pending waiting x xs))
      (step (goes xs all.1) o st))
    where
      step : Goes xs → (p : Option Text) → Stands said p rows pending waiting
          → Agrees (read u said p (x ∷ xs)) (faults_by rows pending waiting x xs (first_met rows pending waiting x xs) (first_fault rows pending waiting x xs)) (rows_by rows pending waiting x xs (first_met rows pending waiting x xs))
      step go None s = free x xs go all.1 said rows pending waiting s.0 s.1 s.2 (meaning_of u x) (known x) _ _ (met u rows pending waiting x all.0)
      step go (Some n) s = waits x xs go all.1 said rows pending waiting n s.0 s.1 s.2 s.3 (meaning_of u x) _ _ (met u rows pending waiting x all.0)
