-- How relations are written: Debian Policy 7.1, without its architecture and profile restrictions,
-- and with the two deprecated operators `<` and `>`. Each relation says of a text that it is one
-- way of writing a value.
use Rattle.std.specs.Prelude.{◌≡◌, ◌<◌, ◌+◌, true, false, ◌⊎◌, ◌↔◌, ℕ, Option, Some, None, List, []}
use Rattle.std.specs.{Prelude.{◌∷◌, ◌++◌, length, slice_index_or, codes}, List.{AllZip}}
use Rattle.std.specs.Option.{option_map}
use Rattle.deb_version.specs.{Names.{is_name}, Grammar.{is_version}}
use Rattle.relation_fields.specs.declared.relations.Op.{Op}
use Rattle.relation_fields.specs.declared.relations.Op.TheVariants.{Earlier, EarlierEqual, Exactly}
use Rattle.relation_fields.specs.declared.relations.Op.TheVariants.{LaterEqual, Later}
use Rattle.relation_fields.specs.{declared.relations.Bound.{Bound}, declared.relations.Atom.{Atom}}
use Rattle.relation_fields.specs.{declared.relations.Provide.{Provide}, Texts.{is_white, pieces}}
use Rattle.relation_fields.specs.{Grammar.{is_architecture}, Fields.{elements, written}}

-- the ways of writing an operator, with the old `<` and `>`
abbrev pub SpellsOp : List ℕ → Op → Type 0
SpellsOp text Earlier = text ≡ codes "<<"
SpellsOp text EarlierEqual = (text ≡ codes "<=") ⊎ (text ≡ codes "<")
SpellsOp text Exactly = text ≡ codes "="
SpellsOp text LaterEqual = (text ≡ codes ">=") ⊎ (text ≡ codes ">")
SpellsOp text Later = text ≡ codes ">>"

-- A restriction, or nothing: an operator and a version in parentheses. There may be white space
-- around each.
abbrev pub SpellsRestriction : List ℕ → Option Bound → Type 0
SpellsRestriction text None = text ≡ []
SpellsRestriction text (Some bound) = (front operator middle back : List ℕ)
    × (is_white (front ++ (middle ++ back)) ≡ true)
    × SpellsOp operator bound.op × (is_version bound.version ≡ true)
    × (text ≡ codes "("
    ++ (front ++ (operator ++ (middle ++ (bound.version ++ (back ++ codes ")"))))))

-- a qualifier is the name of an architecture after a colon: 58
abbrev pub SpellsQualifier : List ℕ → Option (List ℕ) → Type 0
SpellsQualifier text None = text ≡ []
SpellsQualifier text (Some qualifier) = (text ≡ 58 ∷ qualifier) × (is_architecture qualifier ≡ true)

-- A package name, then optionally a qualifier that follows it at once, then optionally a
-- restriction. There may be white space before the name, after the name and its qualifier, and
-- after the restriction.
abbrev pub SpellsAtom : List ℕ → Atom → Type 0
SpellsAtom text atom = (front qualifier middle restriction back : List ℕ)
    × (is_white (front ++ (middle ++ back)) ≡ true) × (is_name atom.name ≡ true)
    × SpellsQualifier qualifier atom.qualifier × SpellsRestriction restriction atom.bound
    × (text ≡ front ++ (atom.name ++ (qualifier ++ (middle ++ (restriction ++ back)))))

-- the pieces between the bars, 124, are the atoms
abbrev pub SpellsAlternatives : List ℕ → List Atom → Type 0
SpellsAlternatives text atoms = AllZip SpellsAtom (pieces 124 text) atoms

-- an atom whose operator, if it has one, is `=`
abbrev pub SpellsProvide : List ℕ → Provide → Type 0
SpellsProvide text provide = SpellsAtom text (record {
  name = provide.name;
  qualifier = provide.qualifier;
  bound = option_map (λ version. record { op = Exactly; version = version }) provide.version;
})

-- each element of a field that is not white space alone is one way of writing its value, in order
abbrev pub SpellsEach : {X : Type 0} → (List ℕ → X → Type 0) → List ℕ → List X → Type 0
SpellsEach Spells value said = AllZip Spells (written value) said

-- The element of that number, from 1, is not white space alone and is no way of writing anything.
-- Each element before it is white space alone or one way of writing something.
pub record IsFirstFaultyElement {X : Type 0} (Spells : List ℕ → X → Type 0) (value : List ℕ)
    (number : ℕ) : Type 0 where
  pub place : ℕ
  pub numbered : number ≡ place + 1
  pub within : place < length (elements value)
  pub filled : is_white (slice_index_or (elements value) place []) ≡ false
  pub unspelled : (x : X) → Spells (slice_index_or (elements value) place []) x → ⊥
  pub before : (k : ℕ) → k < place → (is_white (slice_index_or (elements value) k []) ≡ true)
      ⊎ ((x : X) × Spells (slice_index_or (elements value) k []) x)

-- what is read of a text is what the text is one way of writing
abbrev pub Reads : {X : Type 0} → (List ℕ → Option X) → (List ℕ → X → Type 0) → Type 0
Reads {X} one Spells = (text : List ℕ) (x : X) → (one text ≡ Some x) ↔ Spells text x
