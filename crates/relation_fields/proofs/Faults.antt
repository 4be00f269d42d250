-- What a whole field says, and its first fault, by how its elements are written.
use Rattle.std.proofs.Common.{◌≡◌, ℕ, ◌+◌, ◌≤◌, nat_lt, Bool, true, false, cond, not, inl, inr, List, [], ◌∷◌, Option, Some, None, Result, Ok, Err, length}
use Rattle.std.proofs.Common.{get_or, refl, sym, ◌∙◌, subst, arith}
use Rattle.std.proofs.{lemmas.Bool.{and_parts, and_cases, not-true, not-false, not_from_false, false≢true, ltb-false}, lemmas.Option.{none-some}}
use Rattle.std.proofs.{lemmas.List.Quantifiers.{position-Some}, lemmas.List.Sums.{fails_before_first, list_all-from_AllPass}}
use Rattle.std.specs.{Prelude.{IfOk, OnOk, IfErr}, List.{list_all, position, position_or_len, filter, filter_map, AllZip}, Option.{is_none, option_map}}
use Rattle.relation_fields.specs.{declared.fields.RelationError.{RelationError}, declared.fields.RelationError.TheVariants.{Shape, Memory}, Texts.{is_white}}
use Rattle.relation_fields.specs.{Fields.{elements, is_outside, first_outside, said_in}, Spelling.{SpellsEach, IsFirstFaultyElement, Reads}}
use Rattle.relation_fields.specs.Refusals.{OnFaultyElement}
use Rattle.relation_fields.proofs.Bounds.{map_some}

some_found : {X : Type 0} (o : Option X) → is_none o ≡ false → (x : X) × (o ≡ Some x)
some_found None test = absurd (false≢true (sym test))
some_found (Some x) test = (x, refl)

none_found : {X : Type 0} (o : Option X) → is_none o ≡ true → o ≡ None
none_found None test = refl
none_found (Some x) test = absurd (false≢true test)

left_out : (b : Bool) (n : ℕ) → option_map (λ place. place + 1) (cond b (Some n) None) ≡ None → b ≡ false
left_out true n e = absurd (none-some (n + 1) (sym e))
left_out false n e = refl

-- no place passes, so each element fails
nowhere : {X : Type 0} (p : X → Bool) (xs : List X) → option_map (λ place. place + 1) (position p xs) ≡ None → list_all (λ x. not (p x)) xs ≡ true
nowhere p xs none =
    let past : length xs ≤ position_or_len p xs = ltb-false (position_or_len p xs) (length xs) (left_out (nat_lt (position_or_len p xs) (length xs)) (position_or_len p xs) none) in
    list_all-from_AllPass (λ x. not (p x)) xs (λ k d within. not_from_false (p (get_or xs k d)) (fails_before_first p xs k d (omega arith)))

module _ {X : Type 0} (one : List ℕ → Option X) (Spells : List ℕ → X → Type 0) (reads : Reads one Spells) where
  -- an element that is white space alone is skipped, and any other says what it is one way of writing
  next_said : (element : List ℕ) (rest : List (List ℕ)) (white : Bool) (found : Option X) → is_white element ≡ white → one element ≡ found → not (is_outside one element) ≡ true
      → AllZip Spells (filter (λ e. not (is_white e)) rest) (filter_map one (filter (λ e. not (is_white e)) rest))
      → AllZip Spells (filter (λ e. not (is_white e)) (element ∷ rest)) (filter_map one (filter (λ e. not (is_white e)) (element ∷ rest)))
  next_said element rest true found white e inside each = rw white each
  next_said element rest false None white e inside each = absurd (false≢true (rw (white, e) at inside))
  next_said element rest false (Some x) white e inside each = rw (white, e) ((reads element x).0 e, each)

  all_said : (es : List (List ℕ)) → list_all (λ element. not (is_outside one element)) es ≡ true → AllZip Spells (filter (λ e. not (is_white e)) es) (filter_map one (filter (λ e. not (is_white e)) es))
  all_said [] inside = tt
  all_said (element ∷ es) inside =
      let parts = and_parts (not (is_outside one element)) (list_all (λ element. not (is_outside one element)) es) inside in
      next_said element es (is_white element) (one element) refl refl parts.0 (all_said es parts.1)

  pub field_said : (value : List ℕ) → first_outside one value ≡ None → SpellsEach Spells value (said_in one value)
  unfolding first_outside said_in
  field_said value none = all_said (elements value) (nowhere (is_outside one) (elements value) none)

  field_fault : (value : List ℕ) (number : ℕ) → first_outside one value ≡ Some number → IsFirstFaultyElement Spells value number
  unfolding first_outside
  field_fault value number e =
      let es = elements value in
      let found = map_some (λ place. place + 1) (position (is_outside one) es) number e in
      let place = found.0 in
      let at = position-Some (is_outside one) es place [] found.1 in
      let element = get_or es place [] in
      let parts = and_parts (not (is_white element)) (is_none (one element)) at.1 in
      record {
        place = place;
        numbered = sym found.2;
        within = at.0;
        filled = not-true (is_white element) parts.0;
        unspelled = λ x spelled. none-some x (sym (none_found (one element) parts.1) ∙ (reads element x).1 spelled);
        before = λ k early.
            let earlier = get_or es k [] in
            elim (and_cases (not (is_white earlier)) (is_none (one earlier)) (at.2 k early)) [
              | inl white ↦ inl (not-false (is_white earlier) white)
              | inr some ↦ let x = some_found (one earlier) some in inr (x.0, (reads earlier x.0).0 x.1)
            ];
      }

  -- the same of what a parser answers
  pub spelled_from : (value : List ℕ) (result : Result (List X) RelationError) → IfOk result (λ said. said ≡ said_in one value) → OnOk result (first_outside one value ≡ None) → IfOk result (SpellsEach Spells value)
  spelled_from value (Ok said) is none = subst (SpellsEach Spells value) (sym is) (field_said value none)
  spelled_from value (Err e) is none = tt

  pub fault_from : (value : List ℕ) (fault : RelationError) → OnFaultyElement (λ element. first_outside one value ≡ Some element) fault → OnFaultyElement (IsFirstFaultyElement Spells value) fault
  fault_from value (Shape element) fault = field_fault value element fault
  fault_from value Memory fault = tt

  pub refused_from : (value : List ℕ) (result : Result (List X) RelationError) → IfErr result (OnFaultyElement (λ element. first_outside one value ≡ Some element)) → IfErr result (OnFaultyElement (IsFirstFaultyElement Spells value))
  refused_from value (Ok said) fault = tt
  refused_from value (Err e) fault = fault_from value e fault
