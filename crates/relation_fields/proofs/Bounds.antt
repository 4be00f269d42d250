-- Restrictions are read as they are written.
use Rattle.std.proofs.Common.{◌≡◌, ℕ, Bool, true, false, cond, ◌⊎◌, inl, inr, List, [], ◌∷◌, ◌++◌, Option, Some, None, take, drop, reverse, refl, sym, ap, ◌∙◌}
use Rattle.std.proofs.{Common.{subst}, lemmas.Option.{none-some, same_Some, cond_some}, lemmas.Slice.Eq.{bytes_eq-Decides}, lemmas.List.{take-append-drop}}
use Rattle.std.specs.{Prelude.{codes}, List.{list_all, prefix_len}, Option.{option_map, option_and_then}, Str.{bytes_eq}}
use Rattle.listed.proofs.Lists.{same_bytes}
use Rattle.deb_version.specs.Grammar.{is_version, is_upstream_byte}
use Rattle.relation_fields.specs.{declared.relations.Op.{Op}, declared.relations.Op.TheVariants.{Earlier, EarlierEqual, Exactly, LaterEqual, Later}}
use Rattle.relation_fields.specs.declared.relations.Bound.{Bound}
use Rattle.relation_fields.specs.Texts.{is_white_byte, is_white, trim_start, trim_both, behind_byte, before_byte, is_operator_byte}
use Rattle.relation_fields.specs.{Grammar.{op_of, bound_at, bound_of, in_parentheses, restriction_of}, Spelling.{SpellsOp, SpellsRestriction}}
use Rattle.relation_fields.proofs.Parts.{BoundParts, restriction_apart, restriction_of_parts}
use Rattle.relation_fields.proofs.Fronts.{stops, front_passes, front_taken, front_left, list_all-reverse, trim_start-white, trim_start-stops, trim_start-joined}
use Rattle.relation_fields.proofs.Fronts.{trim_both-around, trim_both-in}
use Rattle.relation_fields.proofs.Bytes.{stops-from_all, stops-append, fails_at_space, version_no_space, version_no_operator, version_bytes}
use Rattle.relation_fields.proofs.Ends.{behind_byte-cons, before_byte-push, begins, ends}

pub bind_some : {A B : Type 0} (f : A → Option B) (o : Option A) (y : B) → option_and_then f o ≡ Some y → (x : A) × (o ≡ Some x) × (f x ≡ Some y)
bind_some f None y e = absurd (none-some y e)
bind_some f (Some x) y e = (x, refl, e)

pub map_some : {A B : Type 0} (f : A → B) (o : Option A) (y : B) → option_map f o ≡ Some y → (x : A) × (o ≡ Some x) × (f x ≡ y)
map_some f None y e = absurd (none-some y e)
map_some f (Some x) y e = (x, refl, same_Some (f x) y e)

chosen : {A : Type 0} (b : Bool) (x y z : A) → cond b x y ≡ z → ((b ≡ true) × (x ≡ z)) ⊎ ((b ≡ false) × (y ≡ z))
chosen true x y z e = inl (refl, e)
chosen false x y z e = inr (refl, e)

pub op_read : (text : List ℕ) (op : Op) → SpellsOp text op → op_of text ≡ Some op
unfolding op_of
op_read text Earlier e = ap op_of e
op_read text EarlierEqual (inl e) = ap op_of e
op_read text EarlierEqual (inr e) = ap op_of e
op_read text Exactly e = ap op_of e
op_read text LaterEqual (inl e) = ap op_of e
op_read text LaterEqual (inr e) = ap op_of e
op_read text Later e = ap op_of e

-- the op that is read, where the text is one way of writing another that is the same
written : (text : List ℕ) (x op : Op) → Some x ≡ Some op → SpellsOp text x → SpellsOp text op
written text x op e spelled = subst (SpellsOp text) (same_Some x op e) spelled

pub op_spelled : (text : List ℕ) (op : Op) → op_of text ≡ Some op → SpellsOp text op
unfolding op_of
op_spelled text op e =
    elim (chosen (bytes_eq text (codes "<<")) _ _ _ e) [
      | inl h ↦ written text Earlier op h.1 (same_bytes text (codes "<<") h.0)
      | inr h ↦ elim (chosen (bytes_eq text (codes "<=")) _ _ _ h.1) [
        | inl h ↦ written text EarlierEqual op h.1 (inl (same_bytes text (codes "<=") h.0))
        | inr h ↦ elim (chosen (bytes_eq text (codes "=")) _ _ _ h.1) [
          | inl h ↦ written text Exactly op h.1 (same_bytes text (codes "=") h.0)
          | inr h ↦ elim (chosen (bytes_eq text (codes ">=")) _ _ _ h.1) [
            | inl h ↦ written text LaterEqual op h.1 (inl (same_bytes text (codes ">=") h.0))
            | inr h ↦ elim (chosen (bytes_eq text (codes ">>")) _ _ _ h.1) [
              | inl h ↦ written text Later op h.1 (same_bytes text (codes ">>") h.0)
              | inr h ↦ elim (chosen (bytes_eq text (codes "<")) _ _ _ h.1) [
                | inl h ↦ written text EarlierEqual op h.1 (inr (same_bytes text (codes "<") h.0))
                | inr h ↦ elim (chosen (bytes_eq text (codes ">")) _ _ _ h.1) [
                  | inl h ↦ written text LaterEqual op h.1 (inr (same_bytes text (codes ">") h.0))
                  | inr h ↦ absurd (none-some op h.1)
                ]
              ]
            ]
          ]
        ]
      ]
    ]

op_begins : (text : List ℕ) (op : Op) (rest : List ℕ) → SpellsOp text op → stops is_white_byte (text ++ rest) ≡ true
op_begins text Earlier rest e = ap (λ t. stops is_white_byte (t ++ rest)) e
op_begins text EarlierEqual rest (inl e) = ap (λ t. stops is_white_byte (t ++ rest)) e
op_begins text EarlierEqual rest (inr e) = ap (λ t. stops is_white_byte (t ++ rest)) e
op_begins text Exactly rest e = ap (λ t. stops is_white_byte (t ++ rest)) e
op_begins text LaterEqual rest (inl e) = ap (λ t. stops is_white_byte (t ++ rest)) e
op_begins text LaterEqual rest (inr e) = ap (λ t. stops is_white_byte (t ++ rest)) e
op_begins text Later rest e = ap (λ t. stops is_white_byte (t ++ rest)) e

op_bytes : (text : List ℕ) (op : Op) → SpellsOp text op → list_all is_operator_byte text ≡ true
op_bytes text Earlier e = ap (list_all is_operator_byte) e
op_bytes text EarlierEqual (inl e) = ap (list_all is_operator_byte) e
op_bytes text EarlierEqual (inr e) = ap (list_all is_operator_byte) e
op_bytes text Exactly e = ap (list_all is_operator_byte) e
op_bytes text LaterEqual (inl e) = ap (list_all is_operator_byte) e
op_bytes text LaterEqual (inr e) = ap (list_all is_operator_byte) e
op_bytes text Later e = ap (list_all is_operator_byte) e

-- white space stops each test that fails at a space, a tab and an LF
pub white_stops : (p : ℕ → Bool) → p 32 ≡ false → p 9 ≡ false → p 10 ≡ false → (text : List ℕ) → is_white text ≡ true → stops p text ≡ true
white_stops p a b d text white = stops-from_all p is_white_byte (fails_at_space p a b d) text white

bound_read : (text : List ℕ) (bound : Bound) → BoundParts text bound → bound_of text ≡ Some bound
unfolding bound_of
bound_read text bound s =
    let version = bound.version in
    let rest = s.middle ++ (version ++ s.back) in
    let bytes = version_bytes version s.version in
    let inside : trim_start text ≡ s.operator ++ rest =
    ap trim_start s.joined ∙ trim_start-white s.front (s.operator ++ rest) s.white_front ∙ trim_start-stops (s.operator ++ rest) (op_begins s.operator bound.op rest s.op) in
    let stop : stops is_operator_byte rest ≡ true =
    stops-append is_operator_byte s.middle (version ++ s.back) (white_stops is_operator_byte refl refl refl s.middle s.white_middle)
    (stops-append is_operator_byte version s.back (stops-from_all is_operator_byte is_upstream_byte version_no_operator version bytes) (white_stops is_operator_byte refl refl refl s.back s.white_back)) in
    let operator : take (prefix_len is_operator_byte (s.operator ++ rest)) (s.operator ++ rest) ≡ s.operator = front_taken is_operator_byte s.operator rest (op_bytes s.operator bound.op s.op) stop in
    let behind : drop (prefix_len is_operator_byte (s.operator ++ rest)) (s.operator ++ rest) ≡ rest = front_left is_operator_byte s.operator rest (op_bytes s.operator bound.op s.op) stop in
    let ending : stops is_white_byte (reverse version) ≡ true =
    stops-from_all is_white_byte is_upstream_byte version_no_space (reverse version) (list_all-reverse is_upstream_byte version ∙ bytes) in
    let trim : trim_both rest ≡ version =
    trim_both-around s.middle version s.back s.white_middle s.white_back (stops-from_all is_white_byte is_upstream_byte version_no_space version bytes) ending in
    rw (inside, operator, behind, trim, op_read s.operator bound.op s.op, s.version) refl

bound_spelled : (text : List ℕ) (bound : Bound) → bound_of text ≡ Some bound → BoundParts text bound
unfolding bound_of
bound_spelled text bound e =
    let inside = trim_start text in
    let n = prefix_len is_operator_byte inside in
    let behind = drop n inside in
    let op = bind_some (bound_at (trim_both behind)) (op_of (take n inside)) bound e in
    let made = cond_some (is_version (trim_both behind)) (record { op = op.0; version = trim_both behind }) bound op.2 in
    let around = trim_both-in behind in
    subst (BoundParts text) made.1 (record {
      front = take (prefix_len is_white_byte text) text;
      operator = take n inside;
      middle = around.front;
      back = around.back;
      white_front = front_passes is_white_byte text;
      white_middle = around.white_front;
      white_back = around.white_back;
      op = op_spelled (take n inside) op.0 op.1;
      version = made.0;
      joined = trim_start-joined text ∙ ap (λ t. take (prefix_len is_white_byte text) text ++ t) (sym (take-append-drop n inside) ∙ ap (λ t. take n inside ++ t) around.joined);
    })

pub restriction_read : (text : List ℕ) (bound : Option Bound) → SpellsRestriction text bound → restriction_of text ≡ Some bound
unfolding restriction_of
restriction_read text None e = ap restriction_of e
restriction_read text (Some bound) spelled =
    let s = restriction_apart text bound spelled in
    ap restriction_of s.joined
    ∙ ap (λ o. option_map Some (option_and_then bound_of (option_and_then (before_byte 41) o))) (behind_byte-cons 40 (s.inside ++ 41 ∷ []))
    ∙ ap (λ o. option_map Some (option_and_then bound_of o)) (before_byte-push 41 s.inside)
    ∙ ap (option_map Some) (bound_read s.inside bound s.spelled)

pub restriction_spelled : (text : List ℕ) (bound : Option Bound) → restriction_of text ≡ Some bound → SpellsRestriction text bound
unfolding restriction_of
restriction_spelled [] bound e = subst (SpellsRestriction []) (same_Some None bound e) refl
restriction_spelled (c ∷ text) bound e =
    let made = map_some Some (option_and_then bound_of (in_parentheses (c ∷ text))) bound e in
    let found = bind_some bound_of (in_parentheses (c ∷ text)) made.0 made.1 in
    let opened = bind_some (before_byte 41) (behind_byte 40 (c ∷ text)) found.0 found.1 in
    subst (SpellsRestriction (c ∷ text)) made.2 (restriction_of_parts (c ∷ text) made.0 (record {
      inside = found.0;
      spelled = bound_spelled found.0 made.0 found.2;
      joined = begins 40 (c ∷ text) opened.0 opened.1 ∙ ap (λ t. 40 ∷ t) (ends 41 opened.0 found.0 opened.2);
    }))
