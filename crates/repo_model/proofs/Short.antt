-- No value of a field is longer than the text that it stands in.
use Rattle.std.proofs.Common.{◌≡◌, ℕ, suc, ◌+◌, ◌≤◌, Bool, true, false, cond, List, [], ◌∷◌, ◌++◌, length, drop, map, Option, Some, None, Result, Ok, inl, inr}
use Rattle.std.proofs.{Common.{ap, sym, subst, arith}, lemmas.List.{length-append, length-drop}}
use Rattle.std.specs.{Prelude.{if◌then◌else◌}, List.{AllByRecursion, slice_split, onto_first, after_first, position_or_len, cons_option, filter}}
use Rattle.std.specs.Option.{option_map, option_or}
use Rattle.stanza_reader.proofs.{BlankLemmas.{good, good_readings}, CloseLemmas.{texts_numbered}}
use Rattle.listed.specs.Lists.{In}
use Rattle.listed.proofs.Lists.{In_cases, In_none}
use Rattle.deb_version.specs.Grammar.{is_colon}
use Rattle.stanza_reader.specs.Lines.{Line, is_line_feed, is_continuation, lines, numbered}
use Rattle.stanza_reader.specs.Fields.{is_edge, name_of, behind_colon, kind_of, trimmed_start, trimmed_end, before_trimmed, trimmed, continued}
use Rattle.stanza_reader.specs.Places.{lines_at}
use Rattle.stanza_reader.specs.Stanzas.{readings, stanzas, is_blank_line, has_line, groups, group_shape_fault, repeat_fault, first_number, texts, kept_field}
use Rattle.stanza_reader.specs.{Stanzas.{kept_fields, unless_fault, stanza_of}, Reading.{readings_at}, declared.place.Place.{Place}}
use Rattle.stanza_reader.specs.{declared.stanza.FieldKind.{FieldKind}, declared.stanza.RawField.{RawField}, declared.stanza.RawStanza.{RawStanza}}
use Rattle.stanza_reader.specs.declared.fault.StanzaFault.{StanzaFault}
use Rattle.repo_model.specs.{Fields.{IsShort, HasShortValues}, Limits.{most_bytes}}

-- the bytes of some texts, each with a line feed
abbrev size : List (List ℕ) → ℕ
size [] = 0
size (line ∷ more) = length line + 1 + size more

abbrev size_of : List Line → ℕ
size_of all = size (texts all)

-- what is trimmed is no longer
start_shorter : (text : List ℕ) → length (trimmed_start text) ≤ length text
start_shorter [] = omega arith
start_shorter (b ∷ bs) = by (is_edge b) (start_shorter bs)
  where
    by : (t : Bool) → length (trimmed_start bs) ≤ length bs → length (if t then trimmed_start bs else b ∷ bs) ≤ suc (length bs)
    by true h = omega arith
    by false h = omega arith

before_shorter : (b : ℕ) (text : List ℕ) → length (before_trimmed b text) ≤ suc (length text)
before_shorter b [] = by (is_edge b)
  where
    by : (t : Bool) → length (if t then [] else b ∷ []) ≤ 1
    by true = omega arith
    by false = omega arith
before_shorter b (c ∷ cs) = omega arith

end_shorter : (text : List ℕ) → length (trimmed_end text) ≤ length text
end_shorter [] = omega arith
end_shorter (b ∷ bs) = let h = end_shorter bs in let k = before_shorter b (trimmed_end bs) in omega arith

trimmed_shorter : (text : List ℕ) → length (trimmed text) ≤ length text
trimmed_shorter text = let h = start_shorter (trimmed_end text) in let k = end_shorter text in omega arith

behind_shorter : (p : ℕ → Bool) (text : List ℕ) → length (after_first p text) ≤ length text
behind_shorter p text = omega (arith, length-drop (position_or_len p text + 1) text)

continued_shorter : (all : List (List ℕ)) → length (continued all) ≤ size all
continued_shorter [] = omega arith
continued_shorter (line ∷ more) = by (is_continuation line) (continued_shorter more)
  where
    by : (t : Bool) → length (continued more) ≤ size more → length (if t then (10 ∷ line) ++ continued more else []) ≤ length line + 1 + size more
    by true h = omega (arith, length-append (10 ∷ line) (continued more))
    by false h = omega arith

-- a field with the lines of its stanza
abbrev Fits : ℕ → RawField → Type 0
Fits n field = length field.value + 1 ≤ n

abbrev FitEach : ℕ → List RawField → Type 0
FitEach n fields = AllByRecursion (Fits n) fields

fit_more : (m n : ℕ) (fields : List RawField) → m ≤ n → FitEach m fields → FitEach n fields
fit_more m n [] h all = tt
fit_more m n (field ∷ fields) h all = let first = all.0 in (omega arith, fit_more m n fields h all.1)

value_fits : (line : Line) (more : List Line) → length (trimmed (behind_colon line.text ++ continued (texts more))) + 1 ≤ size_of (line ∷ more)
value_fits line more =
    let a = trimmed_shorter (behind_colon line.text ++ continued (texts more)) in
    let b = behind_shorter is_colon line.text in
    let c = continued_shorter (texts more) in
    omega (arith, length-append (behind_colon line.text) (continued (texts more)))

field_fits : (line : Line) (more : List Line) (kind : Option FieldKind) (fields : List RawField) → FitEach (size_of (line ∷ more)) fields
    → FitEach (size_of (line ∷ more))
    (cons_option (option_map (λ k. record { kind = k; line = line.number; value = trimmed (behind_colon line.text ++ continued (texts more)) }) kind) fields)
field_fits line more None fields h = h
field_fits line more (Some kind) fields h = (value_fits line more, h)

fields_fit : (group : List Line) → FitEach (size_of group) (kept_fields group)
fields_fit [] = tt
fields_fit (line ∷ more) = by (is_continuation line.text) (fit_more (size_of more) (size_of (line ∷ more)) (kept_fields more) (omega arith) (fields_fit more))
  where
    by : (t : Bool) → FitEach (size_of (line ∷ more)) (kept_fields more)
        → FitEach (size_of (line ∷ more)) (if t then kept_fields more else cons_option (kept_field line more) (kept_fields more))
    by true h = h
    by false h = field_fits line more (kind_of (name_of line.text)) (kept_fields more) h

-- the lines of a text have its bytes, and one line feed more at most
text_size : (text : List ℕ) → size (lines text) ≤ length text + 1
text_size [] = omega arith
text_size (b ∷ bs) = by (is_line_feed b) (lines bs) (text_size bs)
  where
    by : (t : Bool) (more : List (List ℕ)) → size more ≤ length bs + 1 → size (if t then [] ∷ more else onto_first b more) ≤ suc (length bs) + 1
    by true more h = omega arith
    by false [] h = omega arith
    by false (line ∷ more) h = omega arith

-- a part of some lines has no more bytes
abbrev PartsFit : ℕ → List (List Line) → Type 0
PartsFit n parts = AllByRecursion (λ part. size_of part ≤ n) parts

parts_more : (m n : ℕ) (parts : List (List Line)) → m ≤ n → PartsFit m parts → PartsFit n parts
parts_more m n [] h all = tt
parts_more m n (part ∷ parts) h all = let first = all.0 in (omega arith, parts_more m n parts h all.1)

onto_fits : (line : Line) (n : ℕ) (parts : List (List Line)) → PartsFit n parts → PartsFit (length line.text + 1 + n) (onto_first line parts)
onto_fits line n [] all = (omega arith, tt)
onto_fits line n (part ∷ parts) all = let first = all.0 in (omega arith, parts_more n (length line.text + 1 + n) parts (omega arith) all.1)

split_fits : (p : Line → Bool) (all : List Line) → PartsFit (size_of all) (slice_split p all)
split_fits p [] = (omega arith, tt)
split_fits p (line ∷ more) = by (p line) (split_fits p more)
  where
    by : (t : Bool) → PartsFit (size_of more) (slice_split p more) → PartsFit (size_of (line ∷ more)) (cond t ([] ∷ slice_split p more) (onto_first line (slice_split p more)))
    by true h = (omega arith, parts_more (size_of more) (size_of (line ∷ more)) (slice_split p more) (omega arith) h)
    by false h = onto_fits line (size_of more) (slice_split p more) h

filter_fits : (p : List Line → Bool) (n : ℕ) (parts : List (List Line)) → PartsFit n parts → PartsFit n (filter p parts)
filter_fits p n [] all = tt
filter_fits p n (part ∷ parts) all = by (p part) (filter_fits p n parts all.1)
  where
    by : (t : Bool) → PartsFit n (filter p parts) → PartsFit n (cond t (part ∷ filter p parts) (filter p parts))
    by true h = (all.0, h)
    by false h = h

groups_fit : (all : List Line) → PartsFit (size_of all) (groups all)
unfolding groups
groups_fit all = filter_fits has_line (size_of all) (slice_split is_blank_line all) (split_fits is_blank_line all)

-- a stanza is one of the groups
stanza_fits : (fault : Option StanzaFault) (group : List Line) (line : ℕ) (stanza : RawStanza)
    → unless_fault fault (record { line = line; fields = kept_fields group }) ≡ Ok stanza → FitEach (size_of group) stanza.fields
stanza_fits None group line stanza e =
    let same : record { line = line; fields = kept_fields group } ≡ stanza = cc in
    subst (λ (s : RawStanza). FitEach (size_of group) s.fields) same (fields_fit group)
stanza_fits (Some fault) group line stanza e = cc

first_fits : (n : ℕ) (parts : List (List Line)) (stanza : RawStanza) (more : List (Result RawStanza StanzaFault)) → PartsFit n parts → map stanza_of parts ≡ Ok stanza ∷ more
    → FitEach n stanza.fields
unfolding stanza_of
first_fits n [] stanza more fit e = cc
first_fits n (group ∷ parts) stanza more fit e =
    let own : stanza_of group ≡ Ok stanza = cc in
    fit_more (size_of group) n stanza.fields fit.0 (stanza_fits (option_or (group_shape_fault group) (repeat_fault [] group)) group (first_number group) stanza own)

shorter : (n : ℕ) (fields : List RawField) → n ≤ 1073741825 → FitEach n fields → AllByRecursion IsShort fields
shorter n [] h fit = tt
shorter n (field ∷ fields) h fit = let first = fit.0 in (omega arith, shorter n fields h fit.1)

pub values_short : (bytes : List ℕ) (at : Place) (stanza : RawStanza) (more : List (Result RawStanza StanzaFault)) → length bytes ≤ most_bytes
    → readings_at bytes at ≡ Ok stanza ∷ more → HasShortValues stanza
unfolding readings_at
values_short bytes at stanza more few next =
    let size : size_of (lines_at bytes at) ≤ length (drop at.offset bytes) + 1 = rw (texts_numbered at.line (lines (drop at.offset bytes))) (text_size (drop at.offset bytes)) in
    shorter (size_of (lines_at bytes at)) stanza.fields (omega (arith, length-drop at.offset bytes))
    (first_fits (size_of (lines_at bytes at)) (groups (lines_at bytes at)) stanza more (groups_fit (lines_at bytes at)) next)

-- so it is with each stanza of a text
each_short : (n : ℕ) (parts : List (List Line)) (all : List RawStanza) → n ≤ 1073741825 → PartsFit n parts → map stanza_of parts ≡ map good all
    → (stanza : RawStanza) → In stanza all → HasShortValues stanza
each_short n parts [] h fit e stanza i = absurd (In_none i)
each_short n [] (first ∷ all) h fit e stanza i = absurd (let never : ⊥ = cc in never)
each_short n (group ∷ parts) (first ∷ all) h fit e stanza i =
    let more : map stanza_of parts ≡ map good all = cc in
    elim (In_cases i) [
      | inl is ↦ subst HasShortValues (sym is) (shorter n first.fields h (first_fits n (group ∷ parts) first (map good all) fit e))
      | inr j ↦ each_short n parts all h fit.1 more stanza j
    ]

pub stanzas_short : (text : List ℕ) (all : List RawStanza) → length text ≤ most_bytes → stanzas text ≡ Ok all → (stanza : RawStanza) → In stanza all → HasShortValues stanza
unfolding readings
stanzas_short text all few e =
    let numbers : List Line = numbered 1 (lines text) in
    let size : size_of numbers ≤ length text + 1 = rw (texts_numbered 1 (lines text)) (text_size text) in
    each_short (size_of numbers) (groups numbers) all (omega arith) (groups_fit numbers) (good_readings (readings text) all e)
