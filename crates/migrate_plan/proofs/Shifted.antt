-- A text whose lines are counted on from a greater number reads as the same stanzas, with their lines counted on likewise.
use Rattle.std.proofs.Common.{◌≡◌, ℕ, ◌+◌, Bool, true, false, cond, List, [], ◌∷◌, ◌++◌, Option, Some, None, Result, Ok, map, refl, ap, ◌∙◌, arith}
use Rattle.std.specs.{Prelude.{filter, not, if◌then◌else◌}, List.{list_any, slice_split, onto_first, cons_option}, Option.{option_map, option_or}}
use Rattle.stanza_reader.specs.{Close.{readings_from}, Fields.{behind_colon, continued, is_field_name, kind_of, name_of, trimmed}}
use Rattle.stanza_reader.specs.Lines.{Line, is_continuation, lines, numbered}
use Rattle.stanza_reader.specs.Stanzas.{first_line_fault, group_shape_fault, groups, has_line, has_name, is_blank_line, kept_field, kept_fields, line_fault}
use Rattle.stanza_reader.specs.{Stanzas.{repeat_fault, stanza_of, texts, unless_fault}, declared.fault.StanzaFault.{StanzaFault}}
use Rattle.stanza_reader.specs.{declared.fault.StanzaFault.TheVariants.{NoColon, BadName, LoneContinuation, Repeated}, declared.stanza.FieldKind.{FieldKind}}
use Rattle.stanza_reader.specs.{declared.stanza.RawField.{RawField}, declared.stanza.RawStanza.{RawStanza}}
use Rattle.deb_version.specs.Grammar.{is_colon}

abbrev pub later_line : ℕ → Line → Line
later_line more line = record { number = line.number + more; text = line.text }

abbrev pub later_field : ℕ → RawField → RawField
later_field more field = record { kind = field.kind; line = field.line + more; value = field.value }

abbrev pub later_stanza : ℕ → RawStanza → RawStanza
later_stanza more stanza = record { line = stanza.line + more; fields = map (later_field more) stanza.fields }

numbered_later : (more n : ℕ) (all : List (List ℕ)) → numbered (n + more) all ≡ map (later_line more) (numbered n all)
numbered_later more n [] = refl
numbered_later more n (line ∷ rest) =
    let next : n + more + 1 ≡ n + 1 + more = omega arith in
    ap (λ others. record { number = n + more; text = line } ∷ others) (ap (λ k. numbered k rest) next ∙ numbered_later more (n + 1) rest)

onto_later : (more : ℕ) (line : Line) (parts : List (List Line)) → onto_first (later_line more line) (map (map (later_line more)) parts) ≡ map (map (later_line more)) (onto_first line parts)
onto_later more line [] = refl
onto_later more line (part ∷ parts) = refl

split_step : (more : ℕ) (line : Line) (parts : List (List Line)) (blank : Bool) →
    cond blank ([] ∷ map (map (later_line more)) parts) (onto_first (later_line more line) (map (map (later_line more)) parts)) ≡ map (map (later_line more)) (cond blank ([] ∷ parts) (onto_first line parts))
split_step more line parts true = refl
split_step more line parts false = onto_later more line parts

split_later : (more : ℕ) (all : List Line) → slice_split is_blank_line (map (later_line more) all) ≡ map (map (later_line more)) (slice_split is_blank_line all)
split_later more [] = refl
split_later more (line ∷ rest) =
    ap (λ parts. cond (is_blank_line line) ([] ∷ parts) (onto_first (later_line more line) parts)) (split_later more rest)
    ∙ split_step more line (slice_split is_blank_line rest) (is_blank_line line)

full_later : (more : ℕ) (parts : List (List Line)) → filter has_line (map (map (later_line more)) parts) ≡ map (map (later_line more)) (filter has_line parts)
full_later more [] = refl
full_later more ([] ∷ parts) = full_later more parts
full_later more ((line ∷ part) ∷ parts) = ap (λ others. map (later_line more) (line ∷ part) ∷ others) (full_later more parts)

groups_later : (more : ℕ) (all : List Line) → groups (map (later_line more) all) ≡ map (map (later_line more)) (groups all)
unfolding groups
groups_later more all = ap (filter has_line) (split_later more all) ∙ full_later more (slice_split is_blank_line all)

-- where one check finds no fault, another finds none, and so do both with what follows them
pub none_parts : {A : Type 0} (there more : Option A) → option_or there more ≡ None → (there ≡ None) × (more ≡ None)
none_parts None more e = (refl, e)
none_parts (Some fault) more e = cc

none_both : {A : Type 0} (there more : Option A) → there ≡ None → more ≡ None → option_or there more ≡ None
none_both there more none h = ap (λ found. option_or found more) none ∙ h

three_tests : (a b c : Bool) (x y x' y' : StanzaFault) → (if a then None else if b then Some x else if c then Some y else None) ≡ None
    → (if a then None else if b then Some x' else if c then Some y' else None) ≡ None
three_tests true b c x y x' y' e = refl
three_tests false true c x y x' y' e = cc
three_tests false false true x y x' y' e = cc
three_tests false false false x y x' y' e = refl

line_fine : (more : ℕ) (line : Line) → line_fault line ≡ None → line_fault (later_line more line) ≡ None
line_fine more line e =
    three_tests (is_continuation line.text) (not (list_any is_colon line.text)) (not (is_field_name (name_of line.text)))
    (NoColon line.number) (BadName line.number) (NoColon (line.number + more)) (BadName (line.number + more)) e

lines_fine : (more : ℕ) (all : List Line) → first_line_fault all ≡ None → first_line_fault (map (later_line more) all) ≡ None
lines_fine more [] e = refl
lines_fine more (line ∷ rest) e =
    let both = none_parts (line_fault line) (first_line_fault rest) e in
    none_both (line_fault (later_line more line)) (first_line_fault (map (later_line more) rest)) (line_fine more line both.0) (lines_fine more rest both.1)

shape_test : (b : Bool) (x x' : StanzaFault) (one other : Option StanzaFault) → (one ≡ None → other ≡ None) → (if b then Some x else one) ≡ None → (if b then Some x' else other) ≡ None
shape_test true x x' one other step e = cc
shape_test false x x' one other step e = step e

shape_fine : (more : ℕ) (group : List Line) → group_shape_fault group ≡ None → group_shape_fault (map (later_line more) group) ≡ None
shape_fine more [] e = refl
shape_fine more (line ∷ rest) e = shape_test (is_continuation line.text) (LoneContinuation line.number) (LoneContinuation (line.number + more)) (first_line_fault (line ∷ rest)) (first_line_fault (map (later_line more) (line ∷ rest))) (lines_fine more (line ∷ rest)) e

repeat_test : (a b : Bool) (x x' : StanzaFault) (one other two more : Option StanzaFault) → (one ≡ None → other ≡ None) → (two ≡ None → more ≡ None)
    → (if a then one else if b then Some x else two) ≡ None → (if a then other else if b then Some x' else more) ≡ None
repeat_test true b x x' one other two more first second e = first e
repeat_test false true x x' one other two more first second e = cc
repeat_test false false x x' one other two more first second e = second e

repeat_fine : (more : ℕ) (before : List (List ℕ)) (group : List Line) → repeat_fault before group ≡ None → repeat_fault before (map (later_line more) group) ≡ None
repeat_fine more before [] e = refl
repeat_fine more before (line ∷ rest) e =
    repeat_test (is_continuation line.text) (has_name before (name_of line.text)) (Repeated line.number) (Repeated (line.number + more))
    (repeat_fault before rest) (repeat_fault before (map (later_line more) rest))
    (repeat_fault (name_of line.text ∷ before) rest) (repeat_fault (name_of line.text ∷ before) (map (later_line more) rest))
    (repeat_fine more before rest) (repeat_fine more (name_of line.text ∷ before) rest) e

texts_later : (more : ℕ) (all : List Line) → texts (map (later_line more) all) ≡ texts all
texts_later more [] = refl
texts_later more (line ∷ rest) = ap (λ others. line.text ∷ others) (texts_later more rest)

kept_by : (more : ℕ) (line : ℕ) (value : List ℕ) (kind : Option FieldKind) →
    option_map (λ kind. record { kind = kind; line = line + more; value = value }) kind ≡ option_map (later_field more) (option_map (λ kind. record { kind = kind; line = line; value = value }) kind)
kept_by more line value None = refl
kept_by more line value (Some kind) = refl

kept_later : (more : ℕ) (line : Line) (rest : List Line) → kept_field (later_line more line) (map (later_line more) rest) ≡ option_map (later_field more) (kept_field line rest)
kept_later more line rest =
    ap (λ behind. option_map (λ kind. record { kind = kind; line = line.number + more; value = trimmed (behind_colon line.text ++ continued behind) }) (kind_of (name_of line.text))) (texts_later more rest)
    ∙ kept_by more line.number (trimmed (behind_colon line.text ++ continued (texts rest))) (kind_of (name_of line.text))

cons_later : (more : ℕ) (field : Option RawField) (fields : List RawField) → cons_option (option_map (later_field more) field) (map (later_field more) fields) ≡ map (later_field more) (cons_option field fields)
cons_later more None fields = refl
cons_later more (Some field) fields = refl

fields_test : (more : ℕ) (b : Bool) (one two : List RawField) (other others : List RawField) → other ≡ map (later_field more) one → others ≡ map (later_field more) two
    → (if b then other else others) ≡ map (later_field more) (if b then one else two)
fields_test more true one two other others first second = first
fields_test more false one two other others first second = second

fields_later : (more : ℕ) (group : List Line) → kept_fields (map (later_line more) group) ≡ map (later_field more) (kept_fields group)
fields_later more [] = refl
fields_later more (line ∷ rest) =
    fields_test more (is_continuation line.text) (kept_fields rest) (cons_option (kept_field line rest) (kept_fields rest))
    (kept_fields (map (later_line more) rest)) (cons_option (kept_field (later_line more line) (map (later_line more) rest)) (kept_fields (map (later_line more) rest)))
    (fields_later more rest)
    (ap (λ field. cons_option field (kept_fields (map (later_line more) rest))) (kept_later more line rest) ∙ ap (cons_option (option_map (later_field more) (kept_field line rest))) (fields_later more rest)
    ∙ cons_later more (kept_field line rest) (kept_fields rest))

no_fault : (found : Option StanzaFault) (made stanza : RawStanza) → unless_fault found made ≡ Ok stanza → (found ≡ None) × (made ≡ stanza)
no_fault None made stanza e = (refl, cc)
no_fault (Some fault) made stanza e = cc

abbrev pub ok_of : RawStanza → Result RawStanza StanzaFault
ok_of stanza = Ok stanza

abbrev stanza_with : ℕ → List RawField → RawStanza
stanza_with line fields = record { line = line; fields = fields }

-- a group with a line that reads as a stanza
stanza_later : (more : ℕ) (line : Line) (rest : List Line) (stanza : RawStanza) → stanza_of (line ∷ rest) ≡ ok_of stanza → stanza_of (map (later_line more) (line ∷ rest)) ≡ ok_of (later_stanza more stanza)
unfolding stanza_of
stanza_later more line rest stanza e =
    let group : List Line = line ∷ rest in
    let fine = no_fault (option_or (group_shape_fault group) (repeat_fault [] group)) (stanza_with line.number (kept_fields group)) stanza e in
    let both = none_parts (group_shape_fault group) (repeat_fault [] group) fine.0 in
    let none : option_or (group_shape_fault (map (later_line more) group)) (repeat_fault [] (map (later_line more) group)) ≡ None =
    none_both (group_shape_fault (map (later_line more) group)) (repeat_fault [] (map (later_line more) group)) (shape_fine more group both.0) (repeat_fine more [] group both.1) in
    ap (λ found. unless_fault found (stanza_with (line.number + more) (kept_fields (map (later_line more) group)))) none
    ∙ ap (λ fields. ok_of (stanza_with (line.number + more) fields)) (fields_later more group)
    ∙ ap (λ s. ok_of (later_stanza more s)) fine.1

cons_parts : {A : Type 0} (x y : A) (xs ys : List A) → x ∷ xs ≡ y ∷ ys → (x ≡ y) × (xs ≡ ys)
cons_parts x y xs ys e = (cc, cc)

-- groups that have a line each and read as stanzas
each_later : (more : ℕ) (all : List (List Line)) (stanzas : List RawStanza) → map stanza_of (filter has_line all) ≡ map ok_of stanzas
    → map stanza_of (map (map (later_line more)) (filter has_line all)) ≡ map ok_of (map (later_stanza more) stanzas)
each_later more [] [] e = refl
each_later more [] (stanza ∷ stanzas) e = cc
each_later more ([] ∷ all) stanzas e = each_later more all stanzas e
each_later more ((line ∷ rest) ∷ all) [] e = cc
each_later more ((line ∷ rest) ∷ all) (stanza ∷ stanzas) e =
    let parts = cons_parts (stanza_of (line ∷ rest)) (ok_of stanza) (map stanza_of (filter has_line all)) (map ok_of stanzas) e in
    ap (λ s. s ∷ map stanza_of (map (map (later_line more)) (filter has_line all))) (stanza_later more line rest stanza parts.0)
    ∙ ap (λ others. ok_of (later_stanza more stanza) ∷ others) (each_later more all stanzas parts.1)

-- a text that reads as stanzas, with its lines counted on
pub readings_later : (more n : ℕ) (text : List ℕ) (stanzas : List RawStanza) → readings_from n text ≡ map ok_of stanzas → readings_from (n + more) text ≡ map ok_of (map (later_stanza more) stanzas)
unfolding readings_from groups
readings_later more n text stanzas e =
    ap (λ all. map stanza_of (groups all)) (numbered_later more n (lines text))
    ∙ ap (map stanza_of) (groups_later more (numbered n (lines text)))
    ∙ each_later more (slice_split is_blank_line (numbered n (lines text))) stanzas e
