-- Groups of lines and their fields, as they are read.
use Rattle.std.proofs.Common.{◌≡◌, ◌≢◌, ℕ, Bool, true, false, not, ◌&&◌, ◌||◌, cond, List, [], ◌∷◌, ◌++◌, Option, Some, None, Ok, length, refl, sym, ap, ◌∙◌}
use Rattle.std.proofs.{Common.{subst, inl, inr, ◌⊎◌, arith, map, filter}, lemmas.Bool.{and_from}, lemmas.Bool.Decides.{nat_tests}}
use Rattle.std.proofs.{lemmas.List.Folds.{list_any-append}, lemmas.Slice.Eq.{bytes_eq-Decides}}
use Rattle.std.specs.{Prelude.{nat_lt, slice_index_or}, List.{list_any, slice_split, onto_first, before_first, after_first}, Option.{option_or}}
use Rattle.deb_version.specs.Grammar.{is_colon}
use Rattle.listed.specs.{Lists.{In, here, there}, Texts.{trim_both, trim_start}}
use Rattle.listed.proofs.Lists.{In_cases, In_none, any_none}
use Rattle.stanza_reader.specs.Fields.{continued, is_field_name, lowered, name_of, is_edge, is_same_name, trimmed, trimmed_start, trimmed_end, before_trimmed}
use Rattle.stanza_reader.specs.Lines.{Line, lines, numbered, is_blank, is_continuation, is_line_feed}
use Rattle.stanza_reader.specs.Stanzas as reader
use Rattle.stanza_reader.specs.Stanzas.{texts, is_blank_line, has_line, line_fault, first_line_fault, group_shape_fault, repeat_fault, has_name, kept_fields}
use Rattle.stanza_reader.specs.{Stanzas.{first_number, unless_fault, stanza_of}, declared.stanza.RawStanza.{RawStanza}}
use Rattle.stanza_reader.specs.{declared.fault.StanzaFault.{StanzaFault}, declared.fault.StanzaFault.TheVariants.{NoColon, BadName, LoneContinuation, Repeated}}
use Rattle.stanza_reader.proofs.{CloseLemmas.{texts_numbered}, LineLemmas.{cut_here, cut_later}, ValueLemmas.{trimmed_front, trimmed_back}}
use Rattle.coinst_words.specs.Usage.{Text}
use Rattle.claims.specs.Control.{stanza_groups, fields, name_key, AreDistinct, IsStanza}

-- a list that is cut has a first piece
pub first_piece : {X : Type 0} (p : X → Bool) (xs : List X) → (part : List X) × (parts : List (List X)) × (slice_split p xs ≡ part ∷ parts)
first_piece p [] = ([], [], refl)
first_piece {X} p (x ∷ xs) = go (p x) refl (first_piece p xs)
  where
    go : (b : Bool) → p x ≡ b → (part : List X) × (parts : List (List X)) × (slice_split p xs ≡ part ∷ parts) → (part : List X) × (parts : List (List X)) × (slice_split p (x ∷ xs) ≡ part ∷ parts)
    go true e more = ([], slice_split p xs, rw e refl)
    go false e more = (x ∷ more.0, more.1, rw (e, more.2) refl)

-- one more item, at which it is cut
cut_last : {X : Type 0} (p : X → Bool) (xs : List X) (y : X) → p y ≡ true → slice_split p (xs ++ y ∷ []) ≡ slice_split p xs ++ [] ∷ []
cut_last p [] y e = rw e refl
cut_last p (x ∷ xs) y e = go (p x) refl (cut_last p xs y e)
  where
    go : (b : Bool) → p x ≡ b → slice_split p (xs ++ y ∷ []) ≡ slice_split p xs ++ [] ∷ [] → slice_split p ((x ∷ xs) ++ y ∷ []) ≡ slice_split p (x ∷ xs) ++ [] ∷ []
    go true at more = rw at (ap (λ rest. [] ∷ rest) more)
    go false at more = let piece = first_piece p xs in rw at (ap (onto_first x) more ∙ rw piece.2 refl)

abbrev is_group : List Text → Bool
is_group group = nat_lt 0 (length group)

filter_last : (gs : List (List Text)) → filter is_group (gs ++ [] ∷ []) ≡ filter is_group gs
filter_last [] = refl
filter_last (g ∷ gs) = ap (λ more. cond (is_group g) (g ∷ more) more) (filter_last gs)

-- the lines, or the lines and an empty one
either_lines : (text : Text) → (slice_split is_line_feed text ≡ lines text) ⊎ (slice_split is_line_feed text ≡ lines text ++ [] ∷ [])
either_lines [] = inr refl
either_lines (b ∷ bs) = go (is_line_feed b) refl (either_lines bs)
  where
    longer : (pieces : List Text) → pieces ≡ slice_split is_line_feed bs → (all : List Text) → lines bs ≡ all → pieces ≡ all ++ [] ∷ [] → (onto_first b pieces ≡ onto_first b all) ⊎ (onto_first b pieces ≡ onto_first b all ++ [] ∷ [])
    longer pieces is [] same e = inl (ap (onto_first b) e)
    longer pieces is (l ∷ ls) same e = inr (ap (onto_first b) e)

    go : (t : Bool) → is_line_feed b ≡ t → (slice_split is_line_feed bs ≡ lines bs) ⊎ (slice_split is_line_feed bs ≡ lines bs ++ [] ∷ [])
        → (slice_split is_line_feed (b ∷ bs) ≡ lines (b ∷ bs)) ⊎ (slice_split is_line_feed (b ∷ bs) ≡ lines (b ∷ bs) ++ [] ∷ [])
    go true e (inl same) = inl (rw e (ap (λ more. [] ∷ more) same))
    go true e (inr more) = inr (rw e (ap (λ more. [] ∷ more) more))
    go false e (inl same) = inl (rw e (ap (onto_first b) same))
    go false e (inr more) = rw e (longer (slice_split is_line_feed bs) refl (lines bs) refl more)

groups_by_lines : (text : Text) → stanza_groups text ≡ filter is_group (slice_split is_blank (lines text))
unfolding stanza_groups
groups_by_lines text =
    elim (either_lines text) [
      | inl same ↦ ap (λ all. filter is_group (slice_split is_blank all)) same
      | inr more ↦ ap (λ all. filter is_group (slice_split is_blank all)) more ∙ ap (filter is_group) (cut_last is_blank (lines text) [] refl) ∙ filter_last (slice_split is_blank (lines text))
    ]

-- numbered lines are cut as their texts are
texts_onto : (line : Line) (parts : List (List Line)) → map texts (onto_first line parts) ≡ onto_first line.text (map texts parts)
texts_onto line [] = refl
texts_onto line (part ∷ parts) = refl

texts_cut : (all : List Line) → map texts (slice_split is_blank_line all) ≡ slice_split is_blank (texts all)
texts_cut [] = refl
texts_cut (line ∷ all) = go (is_blank line.text) refl (texts_cut all)
  where
    go : (b : Bool) → is_blank line.text ≡ b → map texts (slice_split is_blank_line all) ≡ slice_split is_blank (texts all) → map texts (slice_split is_blank_line (line ∷ all)) ≡ slice_split is_blank (texts (line ∷ all))
    go true e more = rw e (ap (λ rest. [] ∷ rest) more)
    go false e more = rw e (texts_onto line (slice_split is_blank_line all) ∙ ap (onto_first line.text) more)

has_texts : (group : List Line) → has_line group ≡ is_group (texts group)
has_texts [] = refl
has_texts (line ∷ more) = let long : nat_lt 0 (length (texts (line ∷ more))) ≡ true = grind (arith, nat_tests) in sym long

texts_groups : (parts : List (List Line)) → map texts (filter has_line parts) ≡ filter is_group (map texts parts)
texts_groups [] = refl
texts_groups (part ∷ parts) = rw (← has_texts part) (go (has_line part) (texts_groups parts))
  where
    go : (b : Bool) → map texts (filter has_line parts) ≡ filter is_group (map texts parts)
        → map texts (cond b (part ∷ filter has_line parts) (filter has_line parts)) ≡ cond b (texts part ∷ filter is_group (map texts parts)) (filter is_group (map texts parts))
    go true e = ap (λ more. texts part ∷ more) e
    go false e = e

pub groups_are_theirs : (text : Text) → map texts (reader.groups (numbered 1 (lines text))) ≡ stanza_groups text
unfolding reader.groups
groups_are_theirs text =
    texts_groups (slice_split is_blank_line (numbered 1 (lines text)))
    ∙ ap (filter is_group) (texts_cut (numbered 1 (lines text)) ∙ ap (slice_split is_blank) (texts_numbered 1 (lines text)))
    ∙ sym (groups_by_lines text)

-- a text with more behind it is cut at the same place
pub cut_append : {X : Type 0} (p : X → Bool) (xs ys : List X) → list_any p xs ≡ true → (before_first p (xs ++ ys) ≡ before_first p xs) × (after_first p (xs ++ ys) ≡ after_first p xs ++ ys)
cut_append p [] ys e = cc
cut_append p (x ∷ xs) ys e = go (p x) refl e (cut_append p xs ys)
  where
    go : (b : Bool) → p x ≡ b → (b || list_any p xs) ≡ true → (list_any p xs ≡ true → (before_first p (xs ++ ys) ≡ before_first p xs) × (after_first p (xs ++ ys) ≡ after_first p xs ++ ys)) → (before_first p ((x ∷ xs) ++ ys) ≡ before_first p (x ∷ xs)) × (after_first p ((x ∷ xs) ++ ys) ≡ after_first p (x ∷ xs) ++ ys)
    go true at some later =
        let one = cut_here p x xs at in
        let more = cut_here p x (xs ++ ys) at in
        (more.0 ∙ sym one.0, more.1 ∙ ap (λ t. t ++ ys) (sym one.1))
    go false at some later =
        let one = cut_later p x xs at in
        let more = cut_later p x (xs ++ ys) at in
        let rest = later some in
        (more.0 ∙ ap (λ t. x ∷ t) rest.0 ∙ sym one.0, more.1 ∙ rest.1 ∙ ap (λ t. t ++ ys) (sym one.1))

-- the bytes at both ends are dropped in either order
edges : (b : ℕ) (kept : Text) → is_edge b ≡ false → trimmed_start (before_trimmed b kept) ≡ before_trimmed b kept
edges b [] e = rw e (rw e refl)
edges b (c ∷ cs) e = rw e refl

dropped : (b : ℕ) (kept : Text) → is_edge b ≡ true → trimmed_start (before_trimmed b kept) ≡ trimmed_start kept
dropped b [] e = rw e refl
dropped b (c ∷ cs) e = rw e refl

either_order : (text : Text) → trimmed_start (trimmed_end text) ≡ trimmed_end (trimmed_start text)
either_order [] = refl
either_order (b ∷ bs) = go (is_edge b) refl (either_order bs)
  where
    go : (t : Bool) → is_edge b ≡ t → trimmed_start (trimmed_end bs) ≡ trimmed_end (trimmed_start bs) → trimmed_start (trimmed_end (b ∷ bs)) ≡ trimmed_end (trimmed_start (b ∷ bs))
    go true e more = dropped b (trimmed_end bs) e ∙ more ∙ ap trimmed_end (let same : trimmed_start bs ≡ trimmed_start (b ∷ bs) = rw e refl in same)
    go false e more = edges b (trimmed_end bs) e ∙ ap trimmed_end (let same : b ∷ bs ≡ trimmed_start (b ∷ bs) = rw e refl in same)

pub trimmed_both : (text : Text) → trimmed text ≡ trim_both text
unfolding trim_both
trimmed_both text = either_order text ∙ ap trimmed_end (sym (trimmed_front text)) ∙ sym (trimmed_back (trim_start text))

-- where the shape of a line has no fault, it has a colon and a name
pub none_of : (first second : Option StanzaFault) → option_or first second ≡ None → (first ≡ None) × (second ≡ None)
none_of None second e = (refl, e)
none_of (Some fault) second e = cc

pub record IsShaped (line : Text) : Type 0 where
  pub colon : list_any is_colon line ≡ true
  pub name : is_field_name (name_of line) ≡ true

pub shaped : (line : Line) → line_fault line ≡ None → is_continuation line.text ≡ false → IsShaped line.text
shaped line e starts = go (list_any is_colon line.text) refl (is_field_name (name_of line.text)) refl (subst (λ b. cond b None (cond (not (list_any is_colon line.text)) (Some (NoColon line.number)) (cond (not (is_field_name (name_of line.text))) (Some (BadName line.number)) None)) ≡ None) starts e)
  where
    go : (c : Bool) → list_any is_colon line.text ≡ c → (n : Bool) → is_field_name (name_of line.text) ≡ n
        → cond (not c) (Some (NoColon line.number)) (cond (not n) (Some (BadName line.number)) None) ≡ None → IsShaped line.text
    go true at true named h = record { colon = at; name = named }
    go true at false named h = cc
    go false at n named h = cc

-- a field with its continuation lines has the name of its line
pub name_whole : (line more : Text) → list_any is_colon line ≡ true → name_of (line ++ more) ≡ name_of line
name_whole line more e = (cut_append is_colon line more e).0

named_whole : (line more : Text) → IsShaped line → (list_any is_colon (line ++ more) && is_field_name (name_of (line ++ more))) ≡ true
named_whole line more s =
    and_from (list_any is_colon (line ++ more)) (is_field_name (name_of (line ++ more)))
    (list_any-append is_colon line more ∙ ap (λ b. b || list_any is_colon more) s.colon)
    (ap is_field_name (name_whole line more s.colon) ∙ s.name)

-- what is known of the fields of a group's lines behind some names
record Walked (before : List Text) (group : List Text) : Type 0 where
  named : (field : Text) → In field (fields group) → (list_any is_colon field && is_field_name (name_of field)) ≡ true
  once : AreDistinct (map name_key (fields group))
  new : (key : Text) → In key (map name_key (fields group)) → (name : Text) → In name before → lowered name ≢ key

differs : (names : List Text) (name : Text) → has_name names name ≡ false → (other : Text) → In other names → lowered other ≢ lowered name
differs names name e other i same =
    let no : is_same_name other name ≡ false = any_none (λ o. is_same_name o name) names e other i in
    let yes : is_same_name other name ≡ true = (bytes_eq-Decides (lowered other) (lowered name)).1 same in
    absurd (let never : true ≡ false = sym yes ∙ no in cc)

walked_field : (before : List Text) (line more : Text) (rest : List Text) → IsShaped line → has_name before (name_of line) ≡ false → Walked (name_of line ∷ before) rest
    → (all : List Text) → fields all ≡ (line ++ more) ∷ fields rest → Walked before all
walked_field before line more rest s new w all is =
    let key : name_key (line ++ more) ≡ lowered (name_of line) = ap lowered (name_whole line more s.colon) in
    let first : (name : Text) → In name before → lowered name ≢ name_key (line ++ more) = λ name i same. differs before (name_of line) new name i (same ∙ key) in
    let keys : map name_key (fields all) ≡ name_key (line ++ more) ∷ map name_key (fields rest) = ap (map name_key) is in
    record {
      named = λ field i. elim (In_cases (subst (In field) is i)) [
        | inl same ↦ subst (λ f. (list_any is_colon f && is_field_name (name_of f)) ≡ true) (sym same) (named_whole line more s)
        | inr j ↦ w.named field j
      ];
      once = subst AreDistinct (sym keys) ((λ u i same. w.new u i (name_of line) here (sym key ∙ same)), w.once);
      new = λ k i name j. elim (In_cases (subst (In k) keys i)) [
        | inl same ↦ λ e. first name j (e ∙ same)
        | inr l ↦ w.new k l name (there j)
      ];
    }

walked_on : (before : List Text) (line : Text) (rest all : List Text) → Walked before rest → fields all ≡ fields rest → Walked before all
walked_on before line rest all w is = record {
  named = λ field i. w.named field (subst (In field) is i);
  once = subst (λ fs. AreDistinct (map name_key fs)) (sym is) w.once;
  new = λ k i. w.new k (subst (λ fs. In k (map name_key fs)) is i);
}

walk : (before : List Text) (group : List Line) → first_line_fault group ≡ None → repeat_fault before group ≡ None → Walked before (texts group)
walk before [] shape once = record { named = λ field i. absurd (In_none i); once = tt; new = λ k i. absurd (In_none i) }
walk before (line ∷ more) shape once = go (is_continuation line.text) refl (λ names. walk names more)
  where
    both : (line_fault line ≡ None) × (first_line_fault more ≡ None)
    both = none_of (line_fault line) (first_line_fault more) shape

    new_name : (b : Bool) → has_name before (name_of line.text) ≡ b → cond b (Some (Repeated line.number)) (repeat_fault (name_of line.text ∷ before) more) ≡ None
        → (has_name before (name_of line.text) ≡ false) × (repeat_fault (name_of line.text ∷ before) more ≡ None)
    new_name true at h = cc
    new_name false at h = (at, h)

    go : (b : Bool) → is_continuation line.text ≡ b → ((names : List Text) → first_line_fault more ≡ None → repeat_fault names more ≡ None → Walked names (texts more)) → Walked before (texts (line ∷ more))
    go true e later =
        walked_on before line.text (texts more) (texts (line ∷ more)) (later before both.1 (let left : repeat_fault before (line ∷ more) ≡ repeat_fault before more = rw e refl in sym left ∙ once)) (rw e refl)
    go false e later =
        let left : repeat_fault before (line ∷ more) ≡ cond (has_name before (name_of line.text)) (Some (Repeated line.number)) (repeat_fault (name_of line.text ∷ before) more) = rw e refl in
        let new = new_name (has_name before (name_of line.text)) refl (sym left ∙ once) in
        walked_field before line.text (continued (texts more)) (texts more) (shaped line both.0 e) new.0 (later (name_of line.text ∷ before) both.1 new.1) (texts (line ∷ more)) (rw e refl)

-- a group that is read as a stanza is one
pub record IsRead (group : List Line) (it : RawStanza) : Type 0 where
  pub stanza : IsStanza (texts group)
  pub shape : first_line_fault group ≡ None
  pub kept : it.fields ≡ kept_fields group

shape_parts : (group : List Line) → group_shape_fault group ≡ None → (is_continuation (slice_index_or (texts group) 0 []) ≡ false) × (first_line_fault group ≡ None)
shape_parts [] e = (refl, refl)
shape_parts (line ∷ more) e = go (is_continuation line.text) refl e
  where
    go : (b : Bool) → is_continuation line.text ≡ b → cond b (Some (LoneContinuation line.number)) (first_line_fault (line ∷ more)) ≡ None → (is_continuation line.text ≡ false) × (first_line_fault (line ∷ more) ≡ None)
    go true at h = cc
    go false at h = (at, h)

made : (fault : Option StanzaFault) (stanza it : RawStanza) → unless_fault fault stanza ≡ Ok it → (fault ≡ None) × (stanza ≡ it)
made None stanza it e = (refl, cc)
made (Some fault) stanza it e = cc

pub group_is_read : (group : List Line) (stanza : RawStanza) → stanza_of group ≡ Ok stanza → IsRead group stanza
unfolding stanza_of
group_is_read group stanza e =
    let it : RawStanza = record { line = first_number group; fields = kept_fields group } in
    let done = made (option_or (group_shape_fault group) (repeat_fault [] group)) it stanza e in
    let none = none_of (group_shape_fault group) (repeat_fault [] group) done.0 in
    let shape = shape_parts group none.0 in
    let w = walk [] group shape.1 none.1 in
    record {
      stanza = record { first = shape.0; named = w.named; once = w.once };
      shape = shape.1;
      kept = ap (λ (s : RawStanza). s.fields) (sym done.1);
    }
