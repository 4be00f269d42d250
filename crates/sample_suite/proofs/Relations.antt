-- The relation fields of a sample suite are in the grammar.
use Rattle.std.proofs.Common.{◌≡◌, ◌∙◌, ◌≤◌, ◌+◌, ◌==◌, ◌&&◌, ℕ, Bool, true, false, not, refl, sym, ap, subst, List, [], ◌∷◌, ◌++◌, map, length, codes}
use Rattle.std.proofs.{Common.{append_assoc, append-nil, Option, Some, None, arith}, lemmas.Bool.{and_parts, not-true, ne_eqb}}
use Rattle.std.proofs.{lemmas.Iterator.Adapters.{position_from-zero}, Math.Bool.{and-false}}
use Rattle.std.specs.{List.{AllByRecursion, AllZip, flat_map, onto_first, position, position_from, slice_split}, Option.{is_none, option_map}}
use Rattle.relation_fields.specs.{declared.relations.Atom.{Atom}, Fields.{elements, first_outside, is_outside}, Grammar.{alternatives_of, atom_of}}
use Rattle.relation_fields.specs.{Spelling.{SpellsAtom}, Texts.{is_white}}
use Rattle.relation_fields.proofs.{Parts.{atom_of_parts}, Readings.{alternatives_read, atom_read}}
use Rattle.sample_suite.specs.SampleText.{element_text, joined_by, needs_text, package_name}
use Rattle.sample_suite.proofs.{Names.{IsSmall, free_both, is_free, name_free, name_named}, SampleLines.{AreSmall, element_free}, Values.{AreFilled}}

-- ---- pieces

piece : (p : ℕ → Bool) (xs : List ℕ) (c : ℕ) (ys : List ℕ) → is_free p xs ≡ true → p c ≡ true → slice_split p (xs ++ c ∷ ys) ≡ xs ∷ slice_split p ys
piece p [] c ys h at = rw at refl
piece p (x ∷ xs) c ys h at =
    let w : (not (p x) ≡ true) × (is_free p xs ≡ true) = and_parts (not (p x)) (is_free p xs) h in
    let e : p x ≡ false = not-true (p x) w.0 in
    rw e (ap (onto_first x) (piece p xs c ys w.1 at))

last_piece : (p : ℕ → Bool) (xs : List ℕ) → is_free p xs ≡ true → slice_split p xs ≡ xs ∷ []
last_piece p [] h = refl
last_piece p (x ∷ xs) h =
    let w : (not (p x) ≡ true) × (is_free p xs ≡ true) = and_parts (not (p x)) (is_free p xs) h in
    let e : p x ≡ false = not-true (p x) w.0 in
    rw e (ap (onto_first x) (last_piece p xs w.1))

-- the pieces of texts with a separator between them: what stands before the separator's byte goes with the text before it,
-- and what stands behind it with the text behind it
abbrev joined_pieces : List ℕ → List ℕ → List ℕ → List ℕ → List (List ℕ) → List (List ℕ)
joined_pieces left right front text [] = (front ++ text) ∷ []
joined_pieces left right front text (other ∷ more) = ((front ++ text) ++ left) ∷ joined_pieces left right right other more

abbrev AllFree : (ℕ → Bool) → List (List ℕ) → Type 0
AllFree p texts = AllByRecursion (λ text. is_free p text ≡ true) texts

module _ (p : ℕ → Bool) (left : List ℕ) (c : ℕ) (right : List ℕ) (at : p c ≡ true) (l : is_free p left ≡ true) (r : is_free p right ≡ true) where
  abbrev separator : List ℕ
  separator = left ++ c ∷ right

  cut : (front text : List ℕ) (more : List (List ℕ)) → is_free p front ≡ true → is_free p text ≡ true → AllFree p more →
      slice_split p (front ++ joined_by separator (text ∷ more)) ≡ joined_pieces left right front text more
  cut front text [] f t h = ap (λ xs. slice_split p (front ++ xs)) (append-nil text) ∙ last_piece p (front ++ text) (free_both p front text f t)
  cut front text (other ∷ more) f t h =
      let behind = flat_map (λ x. separator ++ x) more in
      let one : ((left ++ c ∷ right) ++ other) ++ behind ≡ left ++ c ∷ (right ++ (other ++ behind)) =
      append_assoc (left ++ c ∷ right) other behind ∙ append_assoc left (c ∷ right) (other ++ behind) in
      let two : front ++ (text ++ (left ++ c ∷ (right ++ (other ++ behind)))) ≡ ((front ++ text) ++ left) ++ c ∷ (right ++ (other ++ behind)) =
      sym (append_assoc (front ++ text) left (c ∷ (right ++ (other ++ behind))) ∙ append_assoc front text (left ++ c ∷ (right ++ (other ++ behind)))) in
      ap (λ xs. slice_split p (front ++ (text ++ xs))) one ∙ ap (slice_split p) two
      ∙ piece p ((front ++ text) ++ left) c (right ++ (other ++ behind)) (free_both p (front ++ text) left (free_both p front text f t) l) at
      ∙ ap (λ xs. ((front ++ text) ++ left) ∷ xs) (cut right other more r h.0 h.1)

-- ---- alternatives

abbrev is_bar : ℕ → Bool
is_bar c = c == 124

abbrev is_comma : ℕ → Bool
is_comma c = c == 44

bar_fails : (c : ℕ) → 48 ≤ c → c ≤ 57 → is_bar c ≡ false
bar_fails c low high = ne_eqb c 124 (λ e. omega arith)

comma_fails : (c : ℕ) → 48 ≤ c → c ≤ 57 → is_comma c ≡ false
comma_fails c low high = ne_eqb c 44 (λ e. omega arith)

abbrev named : ℕ → Atom
named n = record { name = package_name n; qualifier = None; bound = None }

-- a name with white space around it is an atom
padded : (front back : List ℕ) (n : ℕ) → is_white front ≡ true → is_white back ≡ true → IsSmall n → SpellsAtom ((front ++ package_name n) ++ back) (named n)
padded front back n f b small = atom_of_parts ((front ++ package_name n) ++ back) (named n) (record {
  front = front;
  qualifier = [];
  middle = back;
  restriction = [];
  back = [];
  white_front = f;
  white_middle = b;
  white_back = refl;
  named = name_named n small;
  qualified = refl;
  restricted = refl;
  joined = append_assoc front (package_name n) back ∙ ap (λ xs. front ++ (package_name n ++ xs)) (sym (append-nil back));
})

padded_front : (front : List ℕ) (n : ℕ) → is_white front ≡ true → IsSmall n → SpellsAtom (front ++ package_name n) (named n)
padded_front front n f small = subst (λ xs. SpellsAtom xs (named n)) (append-nil (front ++ package_name n)) (padded front [] n f refl small)

spelled : (front : List ℕ) (n : ℕ) (numbers : List ℕ) → is_white front ≡ true → IsSmall n → AllByRecursion IsSmall numbers →
    AllZip SpellsAtom (joined_pieces (codes " ") (codes " ") front (package_name n) (map package_name numbers)) (map named (n ∷ numbers))
spelled front n [] f small h = (padded_front front n f small, tt)
spelled front n (m ∷ numbers) f small h = (padded front (codes " ") n f refl small, spelled (codes " ") m numbers refl h.0 h.1)

all_free : (p : ℕ → Bool) → ((n : ℕ) → IsSmall n → is_free p (package_name n) ≡ true) → (numbers : List ℕ) → AllByRecursion IsSmall numbers → AllFree p (map package_name numbers)
all_free p name [] h = tt
all_free p name (n ∷ numbers) h = (name n h.0, all_free p name numbers h.1)

element_said : (front : List ℕ) → is_white front ≡ true → is_free is_bar front ≡ true → (n : ℕ) (numbers : List ℕ) → IsSmall n → AllByRecursion IsSmall numbers → alternatives_of (front ++ element_text (n ∷ numbers)) ≡ Some (map named (n ∷ numbers))
element_said front white free n numbers small h =
    (alternatives_read (front ++ element_text (n ∷ numbers)) (map named (n ∷ numbers))).1
    (subst (λ xs. AllZip SpellsAtom xs (map named (n ∷ numbers)))
    (sym (cut is_bar (codes " ") 124 (codes " ") refl refl refl front (package_name n) (map package_name numbers) free (name_free is_bar refl bar_fails n small) (all_free is_bar (name_free is_bar refl bar_fails) numbers h)))
    (spelled front n numbers white small h))

-- ---- elements

none_outside : (p : List ℕ → Bool) (i : ℕ) (all : List (List ℕ)) → AllByRecursion (λ element. p element ≡ false) all → position_from p i all ≡ None
none_outside p i [] h = refl
none_outside p i (x ∷ xs) h = rw h.0 (none_outside p (i + 1) xs h.1)

nowhere : (p : List ℕ → Bool) (all : List (List ℕ)) → AllByRecursion (λ element. p element ≡ false) all → position p all ≡ None
nowhere p all h = position_from-zero p all ∙ none_outside p 0 all h

said_inside : {X : Type 0} (one : List ℕ → Option X) (element : List ℕ) (x : X) → one element ≡ Some x → is_outside one element ≡ false
said_inside one element x e = ap (λ o. not (is_white element) && is_none o) e ∙ and-false (not (is_white element))

element_inside : (front : List ℕ) → is_white front ≡ true → is_free is_bar front ≡ true → (alternatives : List ℕ) → AllByRecursion IsSmall alternatives → 1 ≤ length alternatives → is_outside alternatives_of (front ++ element_text alternatives) ≡ false
element_inside front white free [] h some = absurd (omega arith)
element_inside front white free (n ∷ numbers) h some =
    said_inside alternatives_of (front ++ element_text (n ∷ numbers)) (map named (n ∷ numbers)) (element_said front white free n numbers h.0 h.1)

elements_inside : (front : List ℕ) → is_white front ≡ true → is_free is_bar front ≡ true → (element : List ℕ) (more : List (List ℕ)) → AreSmall (element ∷ more) → AreFilled (element ∷ more) →
    AllByRecursion (λ text. is_outside alternatives_of text ≡ false) (joined_pieces [] (codes " ") front (element_text element) (map element_text more))
elements_inside front white free element [] h some = (element_inside front white free element h.0 some.0, tt)
elements_inside front white free element (other ∷ more) h some = (
  subst (λ xs. is_outside alternatives_of xs ≡ false) (sym (append-nil (front ++ element_text element))) (element_inside front white free element h.0 some.0),
  elements_inside (codes " ") refl refl other more h.1 some.1,
)

comma_free : (alternatives : List ℕ) → AllByRecursion IsSmall alternatives → is_free is_comma (element_text alternatives) ≡ true
comma_free alternatives h = element_free is_comma refl (name_free is_comma refl comma_fails) alternatives h

commas_free : (elements : List (List ℕ)) → AreSmall elements → AllFree is_comma (map element_text elements)
commas_free [] h = tt
commas_free (element ∷ more) h = (comma_free element h.0, commas_free more h.1)

-- a field of elements has none outside the grammar
pub needs_said : (element : List ℕ) (more : List (List ℕ)) → AreSmall (element ∷ more) → AreFilled (element ∷ more) → first_outside alternatives_of (needs_text (element ∷ more)) ≡ None
unfolding first_outside
needs_said element more h some =
    let parts : elements (needs_text (element ∷ more)) ≡ joined_pieces [] (codes " ") [] (element_text element) (map element_text more) =
    cut is_comma [] 44 (codes " ") refl refl refl [] (element_text element) (map element_text more) refl (comma_free element h.0) (commas_free more h.1) in
    ap (option_map (λ place. place + 1)) (ap (position (is_outside alternatives_of)) parts
    ∙ nowhere (is_outside alternatives_of) (joined_pieces [] (codes " ") [] (element_text element) (map element_text more)) (elements_inside [] refl refl element more h some))

-- nor has a field of one name
pub name_said : (n : ℕ) → IsSmall n → first_outside atom_of (package_name n) ≡ None
unfolding first_outside
name_said n small =
    let parts : elements (package_name n) ≡ package_name n ∷ [] = last_piece is_comma (package_name n) (name_free is_comma refl comma_fails n small) in
    ap (option_map (λ place. place + 1)) (ap (position (is_outside atom_of)) parts
    ∙ nowhere (is_outside atom_of) (package_name n ∷ []) (said_inside atom_of (package_name n) (named n) (atom_read (package_name n) (named n) (padded_front [] n refl small)), tt))
