-- Atoms, alternatives and provides are read as they are written.
use Rattle.std.proofs.Common.{◌≡◌, ℕ, Bool, true, false, cond, not, ◌&&◌, ◌==◌, List, [], ◌∷◌, ◌++◌, Option, Some, None, take, drop, reverse, refl, sym, ap}
use Rattle.std.proofs.{Common.{◌∙◌, subst}, lemmas.Bool.{and_parts, and_from, false≢true}, lemmas.Option.{none-some, same_Some}}
use Rattle.std.proofs.lemmas.List.{take-append-drop, reverse-append}
use Rattle.std.specs.{List.{list_all, prefix_len, take_while, filter_map, cons_option, AllZip}, Option.{is_some, option_map, option_map_or, option_and_then}}
use Rattle.deb_version.specs.Names.{is_name, is_name_byte, has_first}
use Rattle.relation_fields.specs.{declared.relations.Op.{Op}, declared.relations.Op.TheVariants.{Earlier, EarlierEqual, Exactly, LaterEqual, Later}}
use Rattle.relation_fields.specs.{declared.relations.Bound.{Bound}, declared.relations.Atom.{Atom}, declared.relations.Provide.{Provide}}
use Rattle.relation_fields.specs.Texts.{is_white_byte, trim_start, trim_both, behind_byte, is_architecture_byte, pieces}
use Rattle.relation_fields.specs.Grammar.{restriction_of, begins_architecture, is_architecture, name_at, behind_name, qualifier_at, behind_qualifier, atom_at}
use Rattle.relation_fields.specs.Grammar.{atom_of, alternatives_of, version_at, provide_at, provide_of}
use Rattle.relation_fields.specs.Spelling.{SpellsRestriction, SpellsQualifier, SpellsAtom, SpellsAlternatives, SpellsProvide, Reads}
use Rattle.relation_fields.proofs.Fronts.{stops, front_passes, front_taken, front_left, trim_start-white, trim_start-stops, trim_start-joined, trim_both-around}
use Rattle.relation_fields.proofs.{Fronts.{trim_both-in}, Bytes.{stops-append, name_no_space}, Ends.{behind_byte-cons, behind_byte-stops, begins}}
use Rattle.relation_fields.proofs.Parts.{atom_apart, atom_of_parts, restriction_apart}
use Rattle.relation_fields.proofs.Bounds.{bind_some, map_some, white_stops, restriction_read, restriction_spelled}

name_begins : (name rest : List ℕ) → is_name name ≡ true → stops is_white_byte (name ++ rest) ≡ true
name_begins [] rest named = absurd (false≢true named)
name_begins (x ∷ name) rest named =
    let bytes = and_parts (has_first (x ∷ name)) (list_all is_name_byte (x ∷ name)) named in
    ap not (name_no_space x ((and_parts (is_name_byte x) (list_all is_name_byte name) bytes.1).0))

-- a qualifier begins with a colon, and a restriction with a parenthesis; it ends with one
qualifier_begins : (p : ℕ → Bool) → p 58 ≡ false → (text : List ℕ) (qualifier : Option (List ℕ)) → SpellsQualifier text qualifier → stops p text ≡ true
qualifier_begins p at text None e = ap (stops p) e
qualifier_begins p at text (Some qualifier) e = ap (stops p) e.0 ∙ ap not at

restriction_begins : (p : ℕ → Bool) → p 40 ≡ false → (text : List ℕ) (bound : Option Bound) → SpellsRestriction text bound → stops p text ≡ true
restriction_begins p at text None e = ap (stops p) e
restriction_begins p at text (Some bound) s = ap (stops p) (restriction_apart text bound s).joined ∙ ap not at

restriction_ends : (text : List ℕ) (bound : Option Bound) → SpellsRestriction text bound → stops is_white_byte (reverse text) ≡ true
restriction_ends text None e = ap (λ t. stops is_white_byte (reverse t)) e
restriction_ends text (Some bound) spelled =
    let s = restriction_apart text bound spelled in
    ap (λ t. stops is_white_byte (reverse t)) s.joined ∙ ap (stops is_white_byte) (reverse-append (40 ∷ s.inside) (41 ∷ []))

qualifier_test : (text : List ℕ) (qualifier : Option (List ℕ)) → SpellsQualifier text qualifier → option_map_or is_architecture qualifier true ≡ true
qualifier_test text None e = refl
qualifier_test text (Some qualifier) e = e.1

qualifier_read : (text : List ℕ) (qualifier : Option (List ℕ)) (tail : List ℕ) → SpellsQualifier text qualifier → stops (λ x. x == 58) tail ≡ true → stops is_architecture_byte tail ≡ true
    → (qualifier_at (text ++ tail) ≡ qualifier) × (behind_qualifier (text ++ tail) ≡ tail)
unfolding qualifier_at behind_qualifier
qualifier_read text None tail e colon stop =
    let none = behind_byte-stops 58 tail colon in (
      ap (λ t. qualifier_at (t ++ tail)) e ∙ ap (option_map (take_while is_architecture_byte)) none,
      ap (λ t. behind_qualifier (t ++ tail)) e ∙ ap (λ o. option_map_or (λ behind. drop (prefix_len is_architecture_byte behind) behind) o tail) none,
    )
qualifier_read text (Some name) tail e colon stop =
    let found = behind_byte-cons 58 (name ++ tail) in
    let bytes = (and_parts (begins_architecture name) (list_all is_architecture_byte name) e.1).1 in (
      ap (λ t. qualifier_at (t ++ tail)) e.0 ∙ ap (option_map (take_while is_architecture_byte)) found ∙ ap (λ t. Some t) (front_taken is_architecture_byte name tail bytes stop),
      ap (λ t. behind_qualifier (t ++ tail)) e.0 ∙ ap (λ o. option_map_or (λ behind. drop (prefix_len is_architecture_byte behind) behind) o (58 ∷ (name ++ tail))) found
          ∙ front_left is_architecture_byte name tail bytes stop,
    )

-- a text is a qualifier, where one stands there, and what stands behind it
record IsQualified (text : List ℕ) : Type 0 where
  qualifier : List ℕ
  spelled : SpellsQualifier qualifier (qualifier_at text)
  joined : text ≡ qualifier ++ behind_qualifier text

qualified-by : (text : List ℕ) (found : Option (List ℕ)) → behind_byte 58 text ≡ found → option_map_or is_architecture (qualifier_at text) true ≡ true → IsQualified text
unfolding qualifier_at behind_qualifier
qualified-by text None e test =
    let at : qualifier_at text ≡ None = ap (option_map (take_while is_architecture_byte)) e in
    record {
      qualifier = [];
      spelled = subst (SpellsQualifier []) (sym at) refl;
      joined = sym (ap (λ o. option_map_or (λ behind. drop (prefix_len is_architecture_byte behind) behind) o text) e);
    }
qualified-by text (Some behind) e test =
    let n = prefix_len is_architecture_byte behind in
    let at : qualifier_at text ≡ Some (take n behind) = ap (option_map (take_while is_architecture_byte)) e in
    let rest : behind_qualifier text ≡ drop n behind = ap (λ o. option_map_or (λ behind. drop (prefix_len is_architecture_byte behind) behind) o text) e in
    record {
      qualifier = 58 ∷ take n behind;
      spelled = subst (SpellsQualifier (58 ∷ take n behind)) (sym at) (refl, ap (λ o. option_map_or is_architecture o true) (sym at) ∙ test);
      joined = begins 58 text behind e ∙ ap (λ t. 58 ∷ t) (sym (take-append-drop n behind)) ∙ ap (λ t. (58 ∷ take n behind) ++ t) (sym rest);
    }

pub atom_read : (text : List ℕ) (atom : Atom) → SpellsAtom text atom → atom_of text ≡ Some atom
unfolding atom_of name_at behind_name
atom_read text atom spelled =
    let s = atom_apart text atom spelled in
    let tail = s.middle ++ (s.restriction ++ s.back) in
    let rest = s.qualifier ++ tail in
    let stop : (p : ℕ → Bool) → p 32 ≡ false → p 9 ≡ false → p 10 ≡ false → p 40 ≡ false → stops p tail ≡ true = λ p a b d open_at.
    stops-append p s.middle (s.restriction ++ s.back) (white_stops p a b d s.middle s.white_middle)
    (stops-append p s.restriction s.back (restriction_begins p open_at s.restriction atom.bound s.restricted) (white_stops p a b d s.back s.white_back)) in
    let front : trim_start text ≡ atom.name ++ rest =
    ap trim_start s.joined ∙ trim_start-white s.front (atom.name ++ rest) s.white_front ∙ trim_start-stops (atom.name ++ rest) (name_begins atom.name rest s.named) in
    let bytes = (and_parts (has_first atom.name) (list_all is_name_byte atom.name) s.named).1 in
    let stop_name : stops is_name_byte rest ≡ true =
    stops-append is_name_byte s.qualifier tail (qualifier_begins is_name_byte refl s.qualifier atom.qualifier s.qualified) (stop is_name_byte refl refl refl refl) in
    let name : take (prefix_len is_name_byte (atom.name ++ rest)) (atom.name ++ rest) ≡ atom.name = front_taken is_name_byte atom.name rest bytes stop_name in
    let behind : drop (prefix_len is_name_byte (atom.name ++ rest)) (atom.name ++ rest) ≡ rest = front_left is_name_byte atom.name rest bytes stop_name in
    let qualifier = qualifier_read s.qualifier atom.qualifier tail s.qualified (stop (λ x. x == 58) refl refl refl refl) (stop is_architecture_byte refl refl refl refl) in
    let trim : trim_both tail ≡ s.restriction =
    trim_both-around s.middle s.restriction s.back s.white_middle s.white_back
    (restriction_begins is_white_byte refl s.restriction atom.bound s.restricted) (restriction_ends s.restriction atom.bound s.restricted) in
    let tests = and_from (is_name atom.name) (option_map_or is_architecture atom.qualifier true) s.named (qualifier_test s.qualifier atom.qualifier s.qualified) in
    rw (front, name, behind, qualifier.0, qualifier.1, trim, restriction_read s.restriction atom.bound s.restricted, tests) refl

guarded : {A : Type 0} (b : Bool) (o : Option A) (y : A) → cond b o None ≡ Some y → (b ≡ true) × (o ≡ Some y)
guarded true o y e = (refl, e)
guarded false o y e = absurd (none-some y e)

pub atom_spelled : (text : List ℕ) (atom : Atom) → atom_of text ≡ Some atom → SpellsAtom text atom
unfolding atom_of name_at behind_name
atom_spelled text atom e =
    let front = trim_start text in
    let n = prefix_len is_name_byte front in
    let name = take n front in
    let behind = drop n front in
    let rest = behind_qualifier behind in
    let made = guarded (is_name name && option_map_or is_architecture (qualifier_at behind) true) (option_map (atom_at name (qualifier_at behind)) (restriction_of (trim_both rest))) atom e in
    let tests = and_parts (is_name name) (option_map_or is_architecture (qualifier_at behind) true) made.0 in
    let bound = map_some (atom_at name (qualifier_at behind)) (restriction_of (trim_both rest)) atom made.1 in
    let qualifier = qualified-by behind (behind_byte 58 behind) refl tests.1 in
    let around = trim_both-in rest in
    subst (SpellsAtom text) bound.2 (atom_of_parts text (atom_at name (qualifier_at behind) bound.0) (record {
      front = take (prefix_len is_white_byte text) text;
      qualifier = qualifier.qualifier;
      middle = around.front;
      restriction = trim_both rest;
      back = around.back;
      white_front = front_passes is_white_byte text;
      white_middle = around.white_front;
      white_back = around.white_back;
      named = tests.0;
      qualified = qualifier.spelled;
      restricted = restriction_spelled (trim_both rest) bound.0 bound.1;
      joined = trim_start-joined text ∙ ap (λ t. take (prefix_len is_white_byte text) text ++ t)
          (sym (take-append-drop n front) ∙ ap (λ t. name ++ t) (qualifier.joined ∙ ap (λ t. qualifier.qualifier ++ t) around.joined));
    }))

pub atoms_read : Reads atom_of SpellsAtom
atoms_read text atom = (atom_spelled text atom, atom_read text atom)

module _ {X : Type 0} (one : List ℕ → Option X) (Spells : List ℕ → X → Type 0) (reads : Reads one Spells) where
  each_tested : (texts : List (List ℕ)) (xs : List X) → AllZip Spells texts xs → list_all (λ text. is_some (one text)) texts ≡ true
  each_tested [] [] each = refl
  each_tested [] (x ∷ xs) each = absurd each
  each_tested (text ∷ texts) [] each = absurd each
  each_tested (text ∷ texts) (x ∷ xs) each =
      and_from (is_some (one text)) (list_all (λ text. is_some (one text)) texts) (ap is_some ((reads text x).1 each.0)) (each_tested texts xs each.1)

  each_found : (texts : List (List ℕ)) (xs : List X) → AllZip Spells texts xs → filter_map one texts ≡ xs
  each_found [] [] each = refl
  each_found [] (x ∷ xs) each = absurd each
  each_found (text ∷ texts) [] each = absurd each
  each_found (text ∷ texts) (x ∷ xs) each = ap (λ o. cons_option o (filter_map one texts)) ((reads text x).1 each.0) ∙ ap (λ ys. x ∷ ys) (each_found texts xs each.1)

  first_spelled : (text : List ℕ) (texts : List (List ℕ)) (found : Option X) → one text ≡ found → is_some found ≡ true → AllZip Spells texts (filter_map one texts) → AllZip Spells (text ∷ texts) (cons_option found (filter_map one texts))
  first_spelled text texts None e test each = absurd (false≢true test)
  first_spelled text texts (Some x) e test each = ((reads text x).0 e, each)

  each_spelled : (texts : List (List ℕ)) → list_all (λ text. is_some (one text)) texts ≡ true → AllZip Spells texts (filter_map one texts)
  each_spelled [] tests = tt
  each_spelled (text ∷ texts) tests =
      let parts = and_parts (is_some (one text)) (list_all (λ text. is_some (one text)) texts) tests in
      first_spelled text texts (one text) refl parts.0 (each_spelled texts parts.1)

pub alternatives_read : Reads alternatives_of SpellsAlternatives
unfolding alternatives_of
alternatives_read text atoms =
    let texts = pieces 124 text in
    let tests = list_all (λ piece. is_some (atom_of piece)) texts in (
      (λ e.
          let made = guarded tests (Some (filter_map atom_of texts)) atoms e in
          subst (AllZip SpellsAtom texts) (same_Some (filter_map atom_of texts) atoms made.1) (each_spelled atom_of SpellsAtom atoms_read texts made.0)),
      (λ each.
          let test = each_tested atom_of SpellsAtom atoms_read texts atoms each in
          rw test (ap (λ xs. Some xs) (each_found atom_of SpellsAtom atoms_read texts atoms each))),
    )

-- the bound of a provide, if it has one: its operator is `=`
abbrev exactly_at : Option (List ℕ) → Option Bound
exactly_at version = option_map (λ v. record { op = Exactly; version = v }) version

provide_made : (name : List ℕ) (qualifier : Option (List ℕ)) (version : Option (List ℕ))
    → provide_at (record { name = name; qualifier = qualifier; bound = exactly_at version }) (exactly_at version) ≡ Some (record { name = name; qualifier = qualifier; version = version })
provide_made name qualifier None = refl
provide_made name qualifier (Some version) = refl

-- the atom that a provide is written as
abbrev atom_from : Provide → Atom
atom_from provide = record { name = provide.name; qualifier = provide.qualifier; bound = exactly_at provide.version }

exactly_made : (name : List ℕ) (qualifier : Option (List ℕ)) (op : Op) (version : List ℕ) (provide : Provide)
    → version_at (record { name = name; qualifier = qualifier; bound = Some (record { op = op; version = version }) }) (record { op = op; version = version }) op ≡ Some provide
    → atom_at name qualifier (Some (record { op = op; version = version })) ≡ atom_from provide
exactly_made name qualifier Exactly version provide e = ap atom_from (same_Some (record { name = name; qualifier = qualifier; version = Some version }) provide e)
exactly_made name qualifier Earlier version provide e = absurd (none-some provide e)
exactly_made name qualifier EarlierEqual version provide e = absurd (none-some provide e)
exactly_made name qualifier LaterEqual version provide e = absurd (none-some provide e)
exactly_made name qualifier Later version provide e = absurd (none-some provide e)

atom_made : (name : List ℕ) (qualifier : Option (List ℕ)) (bound : Option Bound) (provide : Provide) → provide_at (atom_at name qualifier bound) bound ≡ Some provide → atom_at name qualifier bound ≡ atom_from provide
atom_made name qualifier None provide e = ap atom_from (same_Some (record { name = name; qualifier = qualifier; version = None }) provide e)
atom_made name qualifier (Some bound) provide e = exactly_made name qualifier bound.op bound.version provide e

pub provides_read : Reads provide_of SpellsProvide
unfolding provide_of
provides_read text provide = (
  (λ e.
      let made = bind_some (λ (atom : Atom). provide_at atom atom.bound) (atom_of text) provide e in
      let atom = made.0 in
      subst (SpellsAtom text) (atom_made atom.name atom.qualifier atom.bound provide made.2) (atom_spelled text atom made.1)),
  (λ s. ap (option_and_then (λ (atom : Atom). provide_at atom atom.bound)) (atom_read text (atom_from provide) s) ∙ provide_made provide.name provide.qualifier provide.version),
)
