-- One pass over the lines of a group: what was found so far, and what is left.
use Rattle.std.proofs.Common.{◌≡◌, ℕ, false, List, [], ◌∷◌, ◌++◌, Option, Some, None, refl, ap, sym, ◌∙◌, subst, append_assoc}
use Rattle.std.specs.{List.{cons_option}, Option.{option_or}}
use Rattle.stanza_reader.specs.{Lines.{Line, is_blank, is_continuation}, Fields.{name_of}, Note.{Holds, IsNoted, LeadsTo}}
use Rattle.stanza_reader.specs.Stanzas.{behind_group, first_group, line_fault, first_line_fault, kept_field, kept_fields, repeat_fault}
use Rattle.stanza_reader.specs.{declared.fault.StanzaFault.{StanzaFault}, declared.note.Names.{Names}, declared.stanza.RawField.{RawField}}

pub behind_more : (all more whole : List Line) (line : Line) → all ≡ line ∷ more → is_blank line.text ≡ false → behind_group all ≡ whole → behind_group more ≡ whole
behind_more all more whole line first full held =
    let here : behind_group all ≡ behind_group more = rw (first, full) refl in
    sym here ∙ held

group_more : (all more : List Line) (line : Line) → all ≡ line ∷ more → is_blank line.text ≡ false → first_group all ≡ line ∷ first_group more
group_more all more line first full = rw (first, full) refl

pub shape_more : (all more : List Line) (line : Line) (whole : Option StanzaFault) → all ≡ line ∷ more → is_blank line.text ≡ false → line_fault line ≡ None
    → first_line_fault (first_group all) ≡ whole → first_line_fault (first_group more) ≡ whole
shape_more all more line whole first full none held =
    let here : first_line_fault (first_group all) ≡ first_line_fault (first_group more) =
    ap first_line_fault (group_more all more line first full) ∙ ap (λ fault. option_or fault (first_line_fault (first_group more))) none in
    sym here ∙ held

pub fields_more : (all more : List Line) (line : Line) (fields new whole : List RawField) (field : RawField) → all ≡ line ∷ more → is_blank line.text ≡ false → is_continuation line.text ≡ false
    → kept_field line (first_group more) ≡ Some field → new ≡ fields ++ field ∷ [] → fields ++ kept_fields (first_group all) ≡ whole → new ++ kept_fields (first_group more) ≡ whole
fields_more all more line fields new whole field first full plain kept joined held =
    let line_first : kept_fields (line ∷ first_group more) ≡ cons_option (kept_field line (first_group more)) (kept_fields (first_group more)) = rw plain refl in
    let here : kept_fields (first_group all) ≡ field ∷ kept_fields (first_group more) =
    ap kept_fields (group_more all more line first full) ∙ line_first ∙ ap (λ one. cons_option one (kept_fields (first_group more))) kept in
    let same : new ++ kept_fields (first_group more) ≡ fields ++ kept_fields (first_group all) = rw (joined, here) (simp append_assoc) in
    same ∙ held

-- a field that is not kept
pub fields_past : (all more : List Line) (line : Line) (fields whole : List RawField) → all ≡ line ∷ more → is_blank line.text ≡ false → is_continuation line.text ≡ false → kept_field line (first_group more) ≡ None
    → fields ++ kept_fields (first_group all) ≡ whole → fields ++ kept_fields (first_group more) ≡ whole
fields_past all more line fields whole first full plain none held =
    let line_first : kept_fields (line ∷ first_group more) ≡ cons_option (kept_field line (first_group more)) (kept_fields (first_group more)) = rw plain refl in
    let here : kept_fields (first_group all) ≡ kept_fields (first_group more) =
    ap kept_fields (group_more all more line first full) ∙ line_first ∙ ap (λ one. cons_option one (kept_fields (first_group more))) none in
    ap (λ rest. fields ++ rest) (sym here) ∙ held

-- before the first line no name is held
pub repeat_first : (names : Names) (left : List Line) → Holds names [] → names.repeat ≡ None → LeadsTo names left (repeat_fault [] left)
repeat_first names left held none = record { before = []; held = λ _. held; found = ap (λ found. option_or found (repeat_fault [] left)) none }

-- a field line is noted, and what is left leads to the same repeated name
pub repeat_more : (old new : Names) (all more : List Line) (number : ℕ) (text name : List ℕ) (fault : Option StanzaFault) → all ≡ record { number = number; text = text } ∷ more → is_blank text ≡ false
    → is_continuation text ≡ false → name_of text ≡ name → IsNoted old new name number → LeadsTo old (first_group all) fault → LeadsTo new (first_group more) fault
repeat_more old new all more number text name fault first full plain is noted held =
    noted text (first_group more) fault is plain (subst (λ group. LeadsTo old group fault) (group_more all more record { number = number; text = text } first full) held)

option_or-none : (fault : Option StanzaFault) → option_or fault None ≡ fault
option_or-none (Some fault) = refl
option_or-none None = refl

-- no line is left
pub repeat_none : (names : Names) (left : List Line) (fault : Option StanzaFault) → left ≡ [] → LeadsTo names left fault → names.repeat ≡ fault
repeat_none names left fault none held =
    sym (option_or-none names.repeat) ∙ ap (λ lines. option_or names.repeat (repeat_fault held.before lines)) (sym none) ∙ held.found
