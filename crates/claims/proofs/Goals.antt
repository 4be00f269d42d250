-- A goal that is read of a word names what the word names.
use Rattle.std.proofs.Common.{◌≡◌, ℕ, zero, suc, ◌<◌, Bool, true, false, cond, ◌&&◌, ◌||◌, eqb-true, length, slice_index_or, arith, List, [], ◌∷◌, ◌++◌, Option}
use Rattle.std.proofs.{Common.{Some, None, refl, sym, ap, ap₂, subst, ◌∙◌, inl, inr}, lemmas.Bool.{and_from, and_parts}, lemmas.List.{append-nil}}
use Rattle.std.proofs.lemmas.Slice.Eq.{bytes_eq-Decides}
use Rattle.std.specs.{Prelude.{codes, option_and_then, option_map}, List.{AllZip, list_all, list_any, before_first, after_first}, Option.{option_map_or}}
use Rattle.std.specs.{Ordering.{is_eq}, Str.{bytes_eq}}
use Rattle.coinst_words.specs.{Usage.{Text}, Words.{goals_of}}
use Rattle.deb_version.specs.{Grammar.{is_version}, Names.{is_name, is_name_byte, has_first}, Order.{version_order}}
use Rattle.listed.specs.Lists.{In, here, there}
use Rattle.listed.proofs.Lists.{In_cases, In_none, same_bytes}
use Rattle.repo_model.specs.{declared.goals.Goal.{Goal}, Goals.{any_version, one_version, goal_of, goal_of_name, goal_of_parts, is_equals}}
use Rattle.stanza_reader.proofs.LineLemmas.{cut_here, cut_later}
use Rattle.claims.specs.Goals.{NamesPackage}

-- a name has no equals sign
no_sign_byte : (c : ℕ) → is_name_byte c ≡ true → is_equals c ≡ false
no_sign_byte c e = go (is_equals c) refl
  where
    go : (b : Bool) → is_equals c ≡ b → b ≡ false
    go false at = refl
    go true at = let is : c ≡ 61 = eqb-true c 61 at in let no : is_name_byte 61 ≡ true = subst (λ d. is_name_byte d ≡ true) is e in absurd (let wrong : ⊥ = cc in wrong)

no_sign : (name : Text) → list_all is_name_byte name ≡ true → list_any is_equals name ≡ false
no_sign [] e = refl
no_sign (c ∷ name) e = let p = and_parts (is_name_byte c) (list_all is_name_byte name) e in ap₂ (λ a b. a || b) (no_sign_byte c p.0) (no_sign name p.1)

name_unsigned : (name : Text) → is_name name ≡ true → list_any is_equals name ≡ false
name_unsigned name e = no_sign name (and_parts (has_first name) (list_all is_name_byte name) e).1

-- a text with an equals sign behind another without one
record IsCutThere (front behind : Text) : Type 0 where
  some : list_any is_equals (front ++ 61 ∷ behind) ≡ true
  before : before_first is_equals (front ++ 61 ∷ behind) ≡ front
  after : after_first is_equals (front ++ 61 ∷ behind) ≡ behind

cut_there : (front behind : Text) → list_any is_equals front ≡ false → IsCutThere front behind
cut_there [] behind e = let at = cut_here is_equals 61 behind refl in record { some = refl; before = at.0; after = at.1 }
cut_there (c ∷ front) behind e = go (is_equals c) refl e (cut_there front behind)
  where
    go : (b : Bool) → is_equals c ≡ b → (b || list_any is_equals front) ≡ false → (list_any is_equals front ≡ false → IsCutThere front behind) → IsCutThere (c ∷ front) behind
    go true at none more = absurd (let wrong : ⊥ = cc in wrong)
    go false at none more =
        let later = cut_later is_equals c (front ++ 61 ∷ behind) at in
        let rest = more none in
        record { some = rw at rest.some; before = later.0 ∙ ap (λ t. c ∷ t) rest.before; after = later.1 ∙ rest.after }

-- a text with an equals sign is its two parts
parts_of : (word : Text) → list_any is_equals word ≡ true → word ≡ before_first is_equals word ++ 61 ∷ after_first is_equals word
parts_of [] e = absurd (let no : ⊥ = cc in no)
parts_of (c ∷ word) e = go (is_equals c) refl e (parts_of word)
  where
    go : (b : Bool) → is_equals c ≡ b → (b || list_any is_equals word) ≡ true → (list_any is_equals word ≡ true → word ≡ before_first is_equals word ++ 61 ∷ after_first is_equals word) → c ∷ word ≡ before_first is_equals (c ∷ word) ++ 61 ∷ after_first is_equals (c ∷ word)
    go true at some more = let cut = cut_here is_equals c word at in ap (λ d. d ∷ word) (eqb-true c 61 at) ∙ sym (ap₂ (λ s t. s ++ 61 ∷ t) cut.0 cut.1)
    go false at some more = let cut = cut_later is_equals c word at in ap (λ t. c ∷ t) (more some) ∙ sym (ap₂ (λ s t. s ++ 61 ∷ t) cut.0 cut.1)

-- whether a goal names a package of this name and version
abbrev pub is_meant : Goal → Text → Text → Bool
is_meant goal name version = bytes_eq goal.name name && option_map_or (λ wanted. is_eq (version_order version wanted)) goal.version true

same_name : (name : Text) → bytes_eq name name ≡ true
same_name name = (bytes_eq-Decides name name).1 refl

of_name : (word name version : Text) (goal : Goal) → goal_of_name word ≡ Some goal → is_meant goal name version ≡ true → NamesPackage word name version
of_name word name version goal e m = go (is_name word) e
  where
    go : (b : Bool) → cond b (Some (any_version word)) None ≡ Some goal → NamesPackage word name version
    go false h = absurd (let no : ⊥ = cc in no)
    go true h =
        let is : any_version word ≡ goal = cc in
        let told : is_meant (any_version word) name version ≡ true = subst (λ g. is_meant g name version ≡ true) (sym is) m in
        inl (same_bytes word name (and_parts (bytes_eq word name) true told).0)

of_parts : (first second name version : Text) (goal : Goal) → goal_of_parts first second ≡ Some goal → is_meant goal name version ≡ true → NamesPackage (first ++ 61 ∷ second) name version
of_parts first second name version goal e m = go (is_name first && is_version second) refl e
  where
    go : (b : Bool) → (is_name first && is_version second) ≡ b → cond b (Some (one_version first second)) None ≡ Some goal → NamesPackage (first ++ 61 ∷ second) name version
    go false at h = absurd (let no : ⊥ = cc in no)
    go true at h =
        let is : one_version first second ≡ goal = cc in
        let told : is_meant (one_version first second) name version ≡ true = subst (λ g. is_meant g name version ≡ true) (sym is) m in
        let both = and_parts (bytes_eq first name) (is_eq (version_order version second)) told in
        inr (second, ap (λ t. t ++ 61 ∷ second) (same_bytes first name both.0), (and_parts (is_name first) (is_version second) at).1, both.1)

pub names_from : (word name version : Text) (goal : Goal) → goal_of word ≡ Some goal → is_meant goal name version ≡ true → NamesPackage word name version
unfolding goal_of
names_from word name version goal e m = go (list_any is_equals word) refl e
  where
    go : (b : Bool) → list_any is_equals word ≡ b → cond b (goal_of_parts (before_first is_equals word) (after_first is_equals word)) (goal_of_name word) ≡ Some goal → NamesPackage word name version
    go true at h =
        subst (λ w. NamesPackage w name version) (sym (parts_of word at)) (of_parts (before_first is_equals word) (after_first is_equals word) name version goal h m)
    go false at h = of_name word name version goal h m

-- a name is a goal
pub goal_named : (name : Text) → is_name name ≡ true → goal_of name ≡ Some (any_version name)
unfolding goal_of
goal_named name named = rw (name_unsigned name named, named) refl

pub names_to : (word name version : Text) (goal : Goal) → is_name name ≡ true → goal_of word ≡ Some goal → NamesPackage word name version → is_meant goal name version ≡ true
unfolding goal_of
names_to word name version goal named e (inl same) =
    let here : goal_of name ≡ Some goal = subst (λ w. goal_of w ≡ Some goal) same e in
    let goal_is : any_version name ≡ goal = cc (sym (goal_named name named) ∙ here) in
    subst (λ g. is_meant g name version ≡ true) goal_is (and_from (bytes_eq name name) true (same_name name) refl)
names_to word name version goal named e (inr w) =
    let here : goal_of (name ++ 61 ∷ w.0) ≡ Some goal = subst (λ v. goal_of v ≡ Some goal) w.1 e in
    let cut = cut_there name w.0 (name_unsigned name named) in
    let is : goal_of (name ++ 61 ∷ w.0) ≡ Some (one_version name w.0) = rw (cut.some, cut.before, cut.after, named, w.2) refl in
    let goal_is : one_version name w.0 ≡ goal = cc (sym is ∙ here) in
    subst (λ g. is_meant g name version ≡ true) goal_is (and_from (bytes_eq name name) (is_eq (version_order version w.0)) (same_name name) w.3)

-- the goals of words, side by side
abbrev pub AreGoals : List Text → List Goal → Type 0
AreGoals words goals = AllZip (λ word goal. goal_of word ≡ Some goal) words goals

pub goals_read : (words : List Text) (goals : List Goal) → goals_of words ≡ Some goals → AreGoals words goals
unfolding goals_of
goals_read [] [] e = tt
goals_read [] (g ∷ gs) e = absurd (let no : ⊥ = cc in no)
goals_read (w ∷ ws) goals e = go (goal_of w) refl (goals_of ws) refl goals e (goals_read ws)
  where
    go : (first : Option Goal) → goal_of w ≡ first → (rest : Option (List Goal)) → goals_of ws ≡ rest → (goals : List Goal)
        → option_and_then (λ goal. option_map (λ gs. goal ∷ gs) rest) first ≡ Some goals → ((gs : List Goal) → goals_of ws ≡ Some gs → AreGoals ws gs) → AreGoals (w ∷ ws) goals
    go None a rest b gs h later = absurd (let no : ⊥ = cc in no)
    go (Some g) a None b gs h later = absurd (let no : ⊥ = cc in no)
    go (Some g) a (Some more) b [] h later = absurd (let no : ⊥ = cc in no)
    go (Some g) a (Some more) b (x ∷ xs) h later =
        let first : g ≡ x = cc in
        let rest : more ≡ xs = cc in
        (a ∙ ap Some first, later xs (b ∙ ap Some rest))

-- a word has its goal, and a goal its word
pub goal_for : (words : List Text) (goals : List Goal) → AreGoals words goals → (word : Text) → In word words → (goal : Goal) × In goal goals × (goal_of word ≡ Some goal)
goal_for [] goals z word i = absurd (In_none i)
goal_for (w ∷ ws) [] z word i = absurd z
goal_for (w ∷ ws) (g ∷ gs) z word i = elim (In_cases i) [
  | inl same ↦ (g, here, subst (λ v. goal_of v ≡ Some g) (sym same) z.0)
  | inr j ↦ let more = goal_for ws gs z.1 word j in (more.0, there more.1, more.2)
]

pub word_for : (words : List Text) (goals : List Goal) → AreGoals words goals → (goal : Goal) → In goal goals → (word : Text) × In word words × (goal_of word ≡ Some goal)
word_for [] [] z goal i = absurd (In_none i)
word_for [] (g ∷ gs) z goal i = absurd z
word_for (w ∷ ws) [] z goal i = absurd z
word_for (w ∷ ws) (g ∷ gs) z goal i = elim (In_cases i) [
  | inl same ↦ (w, here, z.0 ∙ ap Some (sym same))
  | inr j ↦ let more = word_for ws gs z.1 goal j in (more.0, there more.1, more.2)
]

-- the word of a goal is the one that it was read of
pub word_is : (word : Text) (goal : Goal) → goal_of word ≡ Some goal → goal.name ++ option_map_or (λ version. codes "=" ++ version) goal.version [] ≡ word
unfolding goal_of
word_is word goal e = go (list_any is_equals word) refl e
  where
    plain : (b : Bool) → cond b (Some (any_version word)) None ≡ Some goal → goal.name ++ option_map_or (λ version. codes "=" ++ version) goal.version [] ≡ word
    plain false h = absurd (let no : ⊥ = cc in no)
    plain true h =
        let is : any_version word ≡ goal = cc in
        subst (λ (g : Goal). g.name ++ option_map_or (λ version. codes "=" ++ version) g.version [] ≡ word) is (append-nil word)

    cut : list_any is_equals word ≡ true → (b : Bool) → cond b (Some (one_version (before_first is_equals word) (after_first is_equals word))) None ≡ Some goal
        → goal.name ++ option_map_or (λ version. codes "=" ++ version) goal.version [] ≡ word
    cut at false h = absurd (let no : ⊥ = cc in no)
    cut at true h =
        let is : one_version (before_first is_equals word) (after_first is_equals word) ≡ goal = cc in
        subst (λ (g : Goal). g.name ++ option_map_or (λ version. codes "=" ++ version) g.version [] ≡ word) is (sym (parts_of word at))

    go : (b : Bool) → list_any is_equals word ≡ b → cond b (goal_of_parts (before_first is_equals word) (after_first is_equals word)) (goal_of_name word) ≡ Some goal
        → goal.name ++ option_map_or (λ version. codes "=" ++ version) goal.version [] ≡ word
    go true at h = cut at (is_name (before_first is_equals word) && is_version (after_first is_equals word)) h
    go false at h = plain (is_name word) h

-- goals and words in one place
pub word_at : (words : List Text) (goals : List Goal) (d : Goal) → AreGoals words goals → (i : ℕ) → i < length goals → (goal_of (slice_index_or words i []) ≡ Some (slice_index_or goals i d)) × In (slice_index_or words i []) words
word_at [] [] d z i l = absurd (omega arith)
word_at [] (g ∷ gs) d z i l = absurd z
word_at (w ∷ ws) [] d z i l = absurd z
word_at (w ∷ ws) (g ∷ gs) d z zero l = (z.0, here)
word_at (w ∷ ws) (g ∷ gs) d z (suc i) l = let more = word_at ws gs d z.1 i (omega arith) in (more.0, there more.1)

-- a name, an equals sign and a version are a goal
pub goal_cut : (name version : Text) → is_name name ≡ true → is_version version ≡ true → goal_of (name ++ 61 ∷ version) ≡ Some (one_version name version)
unfolding goal_of
goal_cut name version named versioned = let cut = cut_there name version (name_unsigned name named) in rw (cut.some, cut.before, cut.after, named, versioned) refl
