-- A relation, taken apart as it is read.
use Rattle.std.proofs.{Common.{◌≡◌, ℕ, true, List, [], ◌∷◌, ◌++◌, Option, Some, None, refl, sym, ap, ◌∙◌}, lemmas.Bool.{and_parts, and_from}}
use Rattle.std.proofs.{lemmas.List.{append_assoc}, lemmas.List.Folds.{list_all-append}}
use Rattle.std.specs.List.{list_all}
use Rattle.deb_version.specs.{Names.{is_name}, Grammar.{is_version}}
use Rattle.relation_fields.specs.{Spelling.{SpellsOp, SpellsQualifier, SpellsRestriction, SpellsAtom}, Texts.{is_white, is_white_byte}}
use Rattle.relation_fields.specs.{declared.relations.Bound.{Bound}, declared.relations.Atom.{Atom}}

-- an operator and a version, with white space around each
pub record BoundParts (text : List ℕ) (bound : Bound) : Type 0 where
  pub front : List ℕ
  pub operator : List ℕ
  pub middle : List ℕ
  pub back : List ℕ
  pub white_front : is_white front ≡ true
  pub white_middle : is_white middle ≡ true
  pub white_back : is_white back ≡ true
  pub op : SpellsOp operator bound.op
  pub version : is_version bound.version ≡ true
  pub joined : text ≡ front ++ (operator ++ (middle ++ (bound.version ++ back)))

-- they stand in parentheses: 40 and 41
pub record RestrictionParts (text : List ℕ) (bound : Bound) : Type 0 where
  pub inside : List ℕ
  pub spelled : BoundParts inside bound
  pub joined : text ≡ 40 ∷ (inside ++ 41 ∷ [])

pub record AtomParts (text : List ℕ) (atom : Atom) : Type 0 where
  pub front : List ℕ
  pub qualifier : List ℕ
  pub middle : List ℕ
  pub restriction : List ℕ
  pub back : List ℕ
  pub white_front : is_white front ≡ true
  pub white_middle : is_white middle ≡ true
  pub white_back : is_white back ≡ true
  pub named : is_name atom.name ≡ true
  pub qualified : SpellsQualifier qualifier atom.qualifier
  pub restricted : SpellsRestriction restriction atom.bound
  pub joined : text ≡ front ++ (atom.name ++ (qualifier ++ (middle ++ (restriction ++ back))))

-- three texts of white space, and the three joined
white_parts : (a b c : List ℕ) → is_white (a ++ (b ++ c)) ≡ true → (is_white a ≡ true) × (is_white b ≡ true) × (is_white c ≡ true)
white_parts a b c w =
    let all = and_parts (list_all is_white_byte a) (list_all is_white_byte (b ++ c)) (sym (list_all-append is_white_byte a (b ++ c)) ∙ w) in
    let more = and_parts (list_all is_white_byte b) (list_all is_white_byte c) (sym (list_all-append is_white_byte b c) ∙ all.1) in
    (all.0, more.0, more.1)

white_joined : (a b c : List ℕ) → is_white a ≡ true → is_white b ≡ true → is_white c ≡ true → is_white (a ++ (b ++ c)) ≡ true
white_joined a b c first second third =
    list_all-append is_white_byte a (b ++ c)
    ∙ and_from (list_all is_white_byte a) (list_all is_white_byte (b ++ c)) first (list_all-append is_white_byte b c ∙ and_from (list_all is_white_byte b) (list_all is_white_byte c) second third)

-- five texts before an end
joined_end : (a b c d e end : List ℕ) → (a ++ (b ++ (c ++ (d ++ e)))) ++ end ≡ a ++ (b ++ (c ++ (d ++ (e ++ end))))
joined_end a b c d e end = simp append_assoc

pub restriction_apart : (text : List ℕ) (bound : Bound) → SpellsRestriction text (Some bound) → RestrictionParts text bound
restriction_apart text bound s =
    let white = white_parts s.0 s.2 s.3 s.4 in
    record {
      inside = s.0 ++ (s.1 ++ (s.2 ++ (bound.version ++ s.3)));
      spelled = record { front = s.0; operator = s.1; middle = s.2; back = s.3; white_front = white.0; white_middle = white.1; white_back = white.2; op = s.5; version = s.6; joined = refl };
      joined = s.7 ∙ ap (λ t. 40 ∷ t) (sym (joined_end s.0 s.1 s.2 bound.version s.3 (41 ∷ [])));
    }

pub restriction_of_parts : (text : List ℕ) (bound : Bound) → RestrictionParts text bound → SpellsRestriction text (Some bound)
restriction_of_parts text bound s =
    let i = s.spelled in (
      i.front,
      i.operator,
      i.middle,
      i.back,
      white_joined i.front i.middle i.back i.white_front i.white_middle i.white_back,
      i.op,
      i.version,
      s.joined ∙ ap (λ t. 40 ∷ (t ++ 41 ∷ [])) i.joined ∙ ap (λ t. 40 ∷ t) (joined_end i.front i.operator i.middle bound.version i.back (41 ∷ [])),
    )

pub atom_apart : (text : List ℕ) (atom : Atom) → SpellsAtom text atom → AtomParts text atom
atom_apart text atom s =
    let white = white_parts s.0 s.2 s.4 s.5 in
    record {
      front = s.0;
      qualifier = s.1;
      middle = s.2;
      restriction = s.3;
      back = s.4;
      white_front = white.0;
      white_middle = white.1;
      white_back = white.2;
      named = s.6;
      qualified = s.7;
      restricted = s.8;
      joined = s.9;
    }

pub atom_of_parts : (text : List ℕ) (atom : Atom) → AtomParts text atom → SpellsAtom text atom
atom_of_parts text atom s = (
  s.front,
  s.qualifier,
  s.middle,
  s.restriction,
  s.back,
  white_joined s.front s.middle s.back s.white_front s.white_middle s.white_back,
  s.named,
  s.qualified,
  s.restricted,
  s.joined,
)
