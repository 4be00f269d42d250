-- What the rows of a walk say of the options and the other words.
use Rattle.std.proofs.Common.{◌≡◌, ◌∙◌, Bool, cond, true, false, refl, sym, ap, subst, codes, List, [], ◌∷◌, ◌++◌, Option, Some, None, is_some, append-nil}
use Rattle.std.proofs.lemmas.Slice.Eq.{bytes_eq-Decides}
use Rattle.std.specs.{Option.{option_map, unwrap_or}, Str.{bytes_eq}}
use Rattle.listed.proofs.Lists.{same_bytes}
use Rattle.clap.specs.{Walk.{Row, all_of, at_row, has_row, more_values, with_values, without}, declared.builder.value_parser.Reading.{Reading}}
use Rattle.clap.specs.declared.parser.matches.ValueSource.TheVariants.{CommandLine}
use Rattle.coinst_words.specs.{Usage.{Said, Text, say, value_of}, Parsed.{row_values}}

-- the rows have what was said
pub record Looks (rows : List Row) (said : Said) : Type 0 where
  pub options : (name : Text) → bytes_eq name (codes "words") ≡ false → all_of name rows ≡ option_map (λ v. v ∷ []) (value_of name said.given)
  pub ordinary : all_of (codes "words") rows ≡ row_values said.ordinary

-- ---- rows

pub eq_self : (x : Text) → bytes_eq x x ≡ true
eq_self x = (bytes_eq-Decides x x).1 refl

abbrev is_row : Text → Row → Bool
is_row id r = bytes_eq r.id id

pub has_row-values : (id : Text) (rows : List Row) → has_row id rows ≡ is_some (all_of id rows)
has_row-values id [] = refl
has_row-values id (r ∷ rows) = go (bytes_eq r.id id) refl (has_row-values id rows)
  where
    go : (b : Bool) → bytes_eq r.id id ≡ b → has_row id rows ≡ is_some (all_of id rows) → has_row id (r ∷ rows) ≡ is_some (all_of id (r ∷ rows))
    go true e rest = rw e refl
    go false e rest = rw e rest

-- where no row has the id, the change comes to the end
pub at_missing : (id : Text) (change : Row → List Row) (missing rows : List Row) → has_row id rows ≡ false → at_row id change missing rows ≡ rows ++ missing
at_missing id change missing [] none = refl
at_missing id change missing (r ∷ rows) none = go (bytes_eq r.id id) refl (at_missing id change missing rows)
  where
    go : (b : Bool) → bytes_eq r.id id ≡ b → (has_row id rows ≡ false → at_row id change missing rows ≡ rows ++ missing) → at_row id change missing (r ∷ rows) ≡ (r ∷ rows) ++ missing
    go true e rest = let bad : true ≡ false = rw e at none in cc
    go false e rest = let less : has_row id rows ≡ false = rw e at none in rw e (ap (λ rs. r ∷ rs) (rest less))

-- a row at the end is seen where no earlier one has its id
pub all_of-end : (id : Text) (rows : List Row) (r : Row) → all_of id (rows ++ r ∷ []) ≡ cond (has_row id rows) (all_of id rows) (cond (bytes_eq r.id id) (Some r.values) None)
all_of-end id [] r = go (bytes_eq r.id id) refl
  where
    go : (b : Bool) → bytes_eq r.id id ≡ b → all_of id (r ∷ []) ≡ cond (bytes_eq r.id id) (Some r.values) None
    go true e = rw e refl
    go false e = rw e refl
all_of-end id (x ∷ rows) r = go (bytes_eq x.id id) refl (all_of-end id rows r)
  where
    go : (b : Bool) → bytes_eq x.id id ≡ b → all_of id (rows ++ r ∷ []) ≡ cond (has_row id rows) (all_of id rows) (cond (bytes_eq r.id id) (Some r.values) None)
        → all_of id ((x ∷ rows) ++ r ∷ []) ≡ cond (has_row id (x ∷ rows)) (all_of id (x ∷ rows)) (cond (bytes_eq r.id id) (Some r.values) None)
    go true e rest = rw e refl
    go false e rest = rw e rest

-- ---- the use of an option

abbrev pub new_row : Text → Reading → List Text → Row
new_row id how values = record { id = id; values = values; count = None; source = Some CommandLine; reading = how }

pub set_appends : (id : Text) (how : Reading) (values : List Text) (rows : List Row) → has_row id rows ≡ false
    → with_values id how CommandLine values (without id rows) ≡ rows ++ new_row id how values ∷ []
set_appends id how values rows none =
    ap (with_values id how CommandLine values) (at_missing id (λ r. []) [] rows none ∙ append-nil rows)
    ∙ at_missing id (more_values CommandLine values) (new_row id how values ∷ []) rows none

pub value_of-end : (name n v : Text) (given : List (Text × Text))
    → value_of name (given ++ (n, v) ∷ []) ≡ cond (is_some (value_of name given)) (value_of name given) (cond (bytes_eq n name) (Some v) None)
value_of-end name n v [] = go (bytes_eq n name) refl
  where
    go : (b : Bool) → bytes_eq n name ≡ b → value_of name ((n, v) ∷ []) ≡ cond (bytes_eq n name) (Some v) None
    go true e = rw e refl
    go false e = rw e refl
value_of-end name n v (p ∷ given) = go (bytes_eq p.0 name) refl (value_of-end name n v given)
  where
    go : (b : Bool) → bytes_eq p.0 name ≡ b
        → value_of name (given ++ (n, v) ∷ []) ≡ cond (is_some (value_of name given)) (value_of name given) (cond (bytes_eq n name) (Some v) None)
        → value_of name ((p ∷ given) ++ (n, v) ∷ []) ≡ cond (is_some (value_of name (p ∷ given))) (value_of name (p ∷ given)) (cond (bytes_eq n name) (Some v) None)
    go true e rest = rw e refl
    go false e rest = rw e rest

or_none : {X : Type 0} (a : Option X) → cond (is_some a) a None ≡ a
or_none (Some x) = refl
or_none None = refl

abbrev pub alone : Text → List Text
alone v = v ∷ []

-- after a first use of an option with this value, the rows have it too
pub gave : (n v : Text) (how : Reading) (rows after : List Row) (said : Said) → bytes_eq n (codes "words") ≡ false → Looks rows said
    → after ≡ rows ++ new_row n how (v ∷ []) ∷ [] → Looks after (record said { given = said.given ++ (n, v) ∷ [] })
gave n v how rows after said other looks is = record {
  options = λ name plain. ap (all_of name) is ∙ all_of-end name rows (new_row n how (v ∷ [])) ∙ ap (λ b. cond b (all_of name rows) (cond (bytes_eq n name) (Some (v ∷ [])) None)) (has_row-values name rows)
      ∙ ap (λ o. cond (is_some o) o (cond (bytes_eq n name) (Some (v ∷ [])) None)) (looks.options name plain) ∙ option name (value_of name said.given) (bytes_eq n name)
      ∙ sym (ap (option_map alone) (value_of-end name n v said.given));
  ordinary = ap (all_of (codes "words")) is ∙ all_of-end (codes "words") rows (new_row n how (v ∷ [])) ∙ ap (λ b. cond b (all_of (codes "words") rows) (cond (bytes_eq n (codes "words")) (Some (v ∷ [])) None)) (has_row-values (codes "words") rows)
      ∙ ap (λ b. cond (is_some (all_of (codes "words") rows)) (all_of (codes "words") rows) (cond b (Some (v ∷ [])) None)) other ∙ or_none (all_of (codes "words") rows) ∙ looks.ordinary;
}
  where
    option : (name : Text) (o : Option Text) (b : Bool)
        → cond (is_some (option_map alone o)) (option_map alone o) (cond b (Some (v ∷ [])) None) ≡ option_map alone (cond (is_some o) o (cond b (Some v) None))
    option name (Some x) b = refl
    option name None true = refl
    option name None false = refl

-- ---- one more ordinary word

ne_sym : (x y : Text) → bytes_eq x y ≡ false → bytes_eq y x ≡ false
ne_sym x y ne = go (bytes_eq y x) refl
  where
    go : (b : Bool) → bytes_eq y x ≡ b → bytes_eq y x ≡ false
    go true e = let bad : true ≡ false = sym (subst (λ z. bytes_eq x z ≡ true) (sym (same_bytes y x e)) (eq_self x)) ∙ ne in cc
    go false e = e

module _ (w : Text) (how : Reading) where
  abbrev more : List Row → List Row
  more rows = with_values (codes "words") how CommandLine (w ∷ []) rows

  more_other : (name : Text) → bytes_eq name (codes "words") ≡ false → (rows : List Row) → all_of name (more rows) ≡ all_of name rows
  more_other name other [] =
      let miss : bytes_eq (codes "words") name ≡ false = ne_sym name (codes "words") other in
      rw miss refl
  more_other name other (r ∷ rows) = go (bytes_eq r.id (codes "words")) refl (bytes_eq r.id name) refl (more_other name other rows)
    where
      go : (b : Bool) → bytes_eq r.id (codes "words") ≡ b → (d : Bool) → bytes_eq r.id name ≡ d → all_of name (more rows) ≡ all_of name rows → all_of name (more (r ∷ rows)) ≡ all_of name (r ∷ rows)
      go true e true f rest = let bad : true ≡ false = sym e ∙ ap (λ x. bytes_eq x (codes "words")) (same_bytes r.id name f) ∙ other in cc
      go true e false f rest = rw (e, f) refl
      go false e true f rest = rw (e, f) refl
      go false e false f rest = rw (e, f) rest

  more_words : (rows : List Row) → all_of (codes "words") (more rows) ≡ Some (unwrap_or (all_of (codes "words") rows) [] ++ w ∷ [])
  more_words [] = refl
  more_words (r ∷ rows) = go (bytes_eq r.id (codes "words")) refl (more_words rows)
    where
      go : (b : Bool) → bytes_eq r.id (codes "words") ≡ b → all_of (codes "words") (more rows) ≡ Some (unwrap_or (all_of (codes "words") rows) [] ++ w ∷ [])
          → all_of (codes "words") (more (r ∷ rows)) ≡ Some (unwrap_or (all_of (codes "words") (r ∷ rows)) [] ++ w ∷ [])
      go true e rest = rw e (rw e refl)
      go false e rest = rw e (rw e rest)

  row_values-end : (xs : List Text) → Some (unwrap_or (row_values xs) [] ++ w ∷ []) ≡ row_values (xs ++ w ∷ [])
  row_values-end [] = refl
  row_values-end (x ∷ xs) = refl

  pub said_word : (rows : List Row) (said : Said) → Looks rows said → Looks (more rows) (say (w ∷ []) said)
  said_word rows said looks = record {
    options = λ name plain. more_other name plain rows ∙ looks.options name plain;
    ordinary = more_words rows ∙ ap (λ o. Some (unwrap_or o [] ++ w ∷ [])) looks.ordinary ∙ row_values-end said.ordinary;
  }
