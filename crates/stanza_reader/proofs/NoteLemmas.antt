-- The names of a stanza's field lines, noted one by one.
use Rattle.std.proofs.{Common.{◌≡◌, ℕ, Bool, true, false, cond, ◌||◌, List, ◌∷◌, ◌++◌, refl, ap, sym, ◌∙◌}, lemmas.List.Folds.{list_any-append}}
use Rattle.std.proofs.lemmas.Map.Text.{is_eq-slice_cmp}
use Rattle.std.specs.{BTreeMap.{is_at}, BTreeSet.{BTreeSet, contains, Updates}, List.{list_any}, Str.{bytes_eq}, declared.vec.Vec.{Vec}}
use Rattle.stanza_reader.specs.{Fields.{is_same_name, lowered}, Note.{HasNames, Holds, by_text, names_in}, Stanzas.{has_name}, declared.note.Names.{Names}}

either : (a b : Bool) → cond a true b ≡ (a || b)
either true true = refl
either true false = refl
either false b = refl

in_turn : (a b c : Bool) → (a || (b || c)) ≡ (b || (a || c))
in_turn true true c = refl
in_turn true false c = refl
in_turn false true c = refl
in_turn false false c = refl

-- a name between others is one of them as it is at their front
pub in_front : (front back : List (List ℕ)) (name q : List ℕ) → has_name (front ++ name ∷ back) q ≡ has_name (name ∷ (front ++ back)) q
in_front front back name q =
    list_any-append (λ other. is_same_name other q) front (name ∷ back)
    ∙ in_turn (has_name front q) (is_same_name name q) (has_name back q)
    ∙ ap (λ t. is_same_name name q || t) (sym (list_any-append (λ other. is_same_name other q) front back))

-- one more name in the set
pub set_more : {A : Type 0} (set more : BTreeSet (Vec ℕ A)) (others : List (List ℕ)) (key : Vec ℕ A) (name : List ℕ) → HasNames set others → key.items ≡ lowered name → Updates by_text set more key true → HasNames more (name ∷ others)
set_more set more others key name held is updates r =
    let same : is_at (by_text key) r ≡ bytes_eq (lowered name) r.items = is_eq-slice_cmp key.items r.items ∙ ap (λ text. bytes_eq text r.items) is in
    updates.0 r ∙ rw (same, held r) (either (bytes_eq (lowered name) r.items) (list_any (λ other. bytes_eq (lowered other) r.items) others))

-- whether the set has a name in lower case is whether one of its names is this one
pub name_is_there : {A : Type 0} (set : BTreeSet (Vec ℕ A)) (others : List (List ℕ)) (key : Vec ℕ A) (name : List ℕ) → HasNames set others → key.items ≡ lowered name
    → contains by_text set key ≡ has_name others name
name_is_there set others key name held is = held key ∙ ap (λ text. list_any (λ other. bytes_eq (lowered other) text) others) is

in_second : (a b : Bool) → a ≡ false → (a || b) ≡ b
in_second true b h = cc
in_second false b h = refl

-- a name that is not compared one by one is one of the names where it is one of those in the set
pub left_to_set : (names : Names) (before : List (List ℕ)) (name : List ℕ) (held : Holds names before) → has_name (names_in names.few.items) name ≡ false → has_name before name ≡ has_name held.others name
left_to_set names before name held absent =
    sym (held.same name) ∙ list_any-append (λ other. is_same_name other name) (names_in names.few.items) held.others ∙ in_second _ _ absent
