-- The lines of a sample suite's index.
use Rattle.std.proofs.Common.{◌≡◌, ◌∙◌, ℕ, Bool, true, false, not, refl, ap, List, [], ◌∷◌, ◌++◌, map, codes, append_assoc, Option, Some, None, arith}
use Rattle.std.proofs.lemmas.Bool.{and_parts, not-true, ne_eqb}
use Rattle.std.specs.{Prelude.{⊤}, List.{AllByRecursion, flat_map}}
use Rattle.stanza_reader.specs.Lines.{is_line_feed, lines}
use Rattle.sample_suite.specs.declared.package.SamplePackage.{SamplePackage}
use Rattle.sample_suite.specs.SampleText.{conflicts_lines, depends_lines, element_text, joined_by, with_feeds, needs_text, package_name, stanza_lines}
use Rattle.sample_suite.specs.SampleText.{stanza_text}
use Rattle.sample_suite.proofs.Names.{IsSmall, free_both, is_free, name_free}

abbrev is_clean : List ℕ → Bool
is_clean text = is_free is_line_feed text

one_line : (line rest : List ℕ) → is_clean line ≡ true → lines ((line ++ 10 ∷ []) ++ rest) ≡ line ∷ lines rest
one_line [] rest h = refl
one_line (b ∷ bs) rest h =
    let w : (not (is_line_feed b) ≡ true) × (is_clean bs ≡ true) = and_parts (not (is_line_feed b)) (is_clean bs) h in
    let e : is_line_feed b ≡ false = not-true (is_line_feed b) w.0 in
    rw (e, one_line bs rest w.1) refl

abbrev AllClean : List (List ℕ) → Type 0
AllClean all = AllByRecursion (λ line. is_clean line ≡ true) all

some_lines : (all : List (List ℕ)) (rest : List ℕ) → AllClean all → lines (with_feeds all ++ rest) ≡ all ++ lines rest
some_lines [] rest h = refl
some_lines (line ∷ more) rest h =
    ap lines (append_assoc (line ++ 10 ∷ []) (with_feeds more) rest) ∙ one_line line (with_feeds more ++ rest) h.0 ∙ ap (λ ls. line ∷ ls) (some_lines more rest h.1)

-- ---- the texts of a stanza have no line feed

clean_name : (n : ℕ) → IsSmall n → is_clean (package_name n) ≡ true
clean_name n small = name_free is_line_feed refl (λ c low high. ne_eqb c 10 (λ e. omega arith)) n small

-- a text made of texts and a separator, none of which has a byte of the kind
pub joined_free : (p : ℕ → Bool) (separator : List ℕ) → is_free p separator ≡ true → (all : List (List ℕ)) → AllByRecursion (λ text. is_free p text ≡ true) all → is_free p (joined_by separator all) ≡ true
joined_free p separator s [] h = refl
joined_free p separator s (text ∷ more) h = free_both p text (flat_map (λ other. separator ++ other) more) h.0 (go more h.1)
  where
    go : (more : List (List ℕ)) → AllByRecursion (λ text. is_free p text ≡ true) more → is_free p (flat_map (λ other. separator ++ other) more) ≡ true
    go [] h = refl
    go (other ∷ more) h = free_both p (separator ++ other) (flat_map (λ other. separator ++ other) more) (free_both p separator other s h.0) (go more h.1)

pub names_free : (p : ℕ → Bool) → ((n : ℕ) → IsSmall n → is_free p (package_name n) ≡ true) → (numbers : List ℕ) → AllByRecursion IsSmall numbers → AllByRecursion (λ text. is_free p text ≡ true) (map package_name numbers)
names_free p name [] h = tt
names_free p name (n ∷ numbers) h = (name n h.0, names_free p name numbers h.1)

-- an element is small where its numbers are
abbrev pub AreSmall : List (List ℕ) → Type 0
AreSmall elements = AllByRecursion (AllByRecursion IsSmall) elements

pub element_free : (p : ℕ → Bool) → is_free p (codes " | ") ≡ true → ((n : ℕ) → IsSmall n → is_free p (package_name n) ≡ true) → (alternatives : List ℕ) → AllByRecursion IsSmall alternatives → is_free p (element_text alternatives) ≡ true
element_free p bar name alternatives h = joined_free p (codes " | ") bar (map package_name alternatives) (names_free p name alternatives h)

clean_elements : (elements : List (List ℕ)) → AreSmall elements → AllClean (map element_text elements)
clean_elements [] h = tt
clean_elements (element ∷ more) h = (element_free is_line_feed refl clean_name element h.0, clean_elements more h.1)

clean_depends : (elements : List (List ℕ)) → AreSmall elements → AllClean (depends_lines elements)
clean_depends [] h = tt
clean_depends (element ∷ more) h =
    (free_both is_line_feed (codes "Depends: ") (needs_text (element ∷ more)) refl (joined_free is_line_feed (codes ", ") refl (map element_text (element ∷ more)) (clean_elements (element ∷ more) h)), tt)

-- the number of a conflict is small
abbrev pub IsSmallConflict : Option ℕ → Type 0
IsSmallConflict None = ⊤
IsSmallConflict (Some conflict) = IsSmall conflict

clean_conflicts : (conflict : Option ℕ) → IsSmallConflict conflict → AllClean (conflicts_lines conflict)
clean_conflicts None h = tt
clean_conflicts (Some conflict) h = (free_both is_line_feed (codes "Conflicts: ") (package_name conflict) refl (clean_name conflict h), tt)

all_append : {X : Type 0} (P : X → Type 0) (xs ys : List X) → AllByRecursion P xs → AllByRecursion P ys → AllByRecursion P (xs ++ ys)
all_append P [] ys h k = k
all_append P (x ∷ xs) ys h k = (h.0, all_append P xs ys h.1 k)

-- the lines of a text that begins with a stanza
pub stanza_cut : (n : ℕ) (p : SamplePackage) (rest : List ℕ) → IsSmall n → AreSmall p.needs → IsSmallConflict p.conflict → lines (stanza_text n p ++ rest) ≡ stanza_lines n p ++ ([] ∷ lines rest)
stanza_cut n p rest small needs conflict =
    ap lines (append_assoc (with_feeds (stanza_lines n p)) (10 ∷ []) rest)
    ∙ some_lines (stanza_lines n p) (10 ∷ rest) (
      free_both is_line_feed (codes "Package: ") (package_name n) refl (clean_name n small),
      (refl, all_append (λ line. is_clean line ≡ true) (depends_lines p.needs) (conflicts_lines p.conflict) (clean_depends p.needs needs) (clean_conflicts p.conflict conflict)),
    )
