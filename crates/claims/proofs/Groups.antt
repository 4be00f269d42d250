-- The groups of two texts one behind the other, and of a text in which the lines of some groups are made empty.
use Rattle.std.proofs.Common.{◌≡◌, Bool, true, false, cond, List, [], ◌∷◌, ◌++◌, filter, length, map, refl, sym, ap, ◌∙◌, append_assoc}
use Rattle.std.specs.{Prelude.{codes, nat_lt, unwrap_or}, List.{slice_split, onto_first}}
use Rattle.coinst_words.specs.Usage.{Text}
use Rattle.relation_fields.specs.{declared.packages.Home.{Home}, declared.packages.PackageFacts.{PackageFacts}}
use Rattle.stanza_reader.specs.{Blanking.{blanked, picked, whole_lines}, Lines.{is_blank, is_line_feed, lines, numbered}, Stanzas.{groups, texts}}
use Rattle.stanza_reader.specs.Stanzas as reader
use Rattle.claims.specs.{Control.{field_value, stanza_groups}, Index.{Says}}
use Rattle.stanza_reader.proofs.BlankLemmas.{are_lines, concat_whole, map_picked, picks}
use Rattle.claims.proofs.Control.{groups_are_theirs, first_piece}

onto_join : {X : Type 0} (x : X) (parts more : List (List X)) (part : List X) (rest : List (List X)) → parts ≡ part ∷ rest → onto_first x (parts ++ more) ≡ onto_first x parts ++ more
onto_join x parts more part rest e = rw e refl

-- cut at an item, what stands before it and what stands behind it are cut by themselves
split_join : {X : Type 0} (p : X → Bool) (xs : List X) (y : X) (ys : List X) → p y ≡ true → slice_split p (xs ++ y ∷ ys) ≡ slice_split p xs ++ slice_split p ys
split_join p [] y ys e = rw e refl
split_join p (x ∷ xs) y ys e = go (p x) refl (split_join p xs y ys e)
  where
    go : (b : Bool) → p x ≡ b → slice_split p (xs ++ y ∷ ys) ≡ slice_split p xs ++ slice_split p ys → slice_split p ((x ∷ xs) ++ y ∷ ys) ≡ slice_split p (x ∷ xs) ++ slice_split p ys
    go true at more = rw at (ap (λ rest. [] ∷ rest) more)
    go false at more =
        let piece = first_piece p xs in
        let left : slice_split p ((x ∷ xs) ++ y ∷ ys) ≡ onto_first x (slice_split p (xs ++ y ∷ ys)) = rw at refl in
        let right : slice_split p (x ∷ xs) ≡ onto_first x (slice_split p xs) = rw at refl in
        left ∙ ap (onto_first x) more ∙ onto_join x (slice_split p xs) (slice_split p ys) piece.0 piece.1 piece.2 ∙ ap (λ parts. parts ++ slice_split p ys) (sym right)

filter_join : {A : Type 0} (p : A → Bool) (xs ys : List A) → filter p (xs ++ ys) ≡ filter p xs ++ filter p ys
filter_join p [] ys = refl
filter_join p (x ∷ xs) ys = go (p x) (filter_join p xs ys)
  where
    go : (b : Bool) → filter p (xs ++ ys) ≡ filter p xs ++ filter p ys → cond b (x ∷ filter p (xs ++ ys)) (filter p (xs ++ ys)) ≡ cond b (x ∷ filter p xs) (filter p xs) ++ filter p ys
    go true e = ap (λ more. x ∷ more) e
    go false e = e

-- the groups of two texts with an empty line between them
pub groups_join : (front back : Text) → stanza_groups ((front ++ (10 ∷ (10 ∷ []))) ++ back) ≡ stanza_groups front ++ stanza_groups back
unfolding stanza_groups
groups_join front back =
    let whole : (front ++ (10 ∷ (10 ∷ []))) ++ back ≡ front ++ 10 ∷ (10 ∷ back) = append_assoc front (10 ∷ (10 ∷ [])) back in
    let cut : slice_split is_line_feed (front ++ 10 ∷ (10 ∷ back)) ≡ slice_split is_line_feed front ++ ([] ∷ slice_split is_line_feed back) = split_join is_line_feed front 10 (10 ∷ back) refl in
    let parts : slice_split is_blank (slice_split is_line_feed ((front ++ (10 ∷ (10 ∷ []))) ++ back)) ≡ slice_split is_blank (slice_split is_line_feed front) ++ slice_split is_blank (slice_split is_line_feed back)
    = ap (λ t. slice_split is_blank (slice_split is_line_feed t)) whole ∙ ap (slice_split is_blank) cut ∙ split_join is_blank (slice_split is_line_feed front) [] (slice_split is_line_feed back) refl in
    ap (filter (λ group. nat_lt 0 (length group))) parts
    ∙ filter_join (λ group. nat_lt 0 (length group)) (slice_split is_blank (slice_split is_line_feed front)) (slice_split is_blank (slice_split is_line_feed back))

-- the groups of a text in which the lines of those whose flags are down are made empty
pub groups_picked : (flags : List Bool) (text : Text) → stanza_groups (blanked flags text) ≡ picked flags (stanza_groups text)
unfolding blanked
groups_picked flags text =
    sym (groups_are_theirs (blanked flags text))
    ∙ ap (map texts) (picks 1 flags (whole_lines text) (are_lines text) ∙ ap (λ bytes. picked flags (groups (numbered 1 (lines bytes)))) (concat_whole text))
    ∙ map_picked texts flags (groups (numbered 1 (lines text)))
    ∙ ap (picked flags) (groups_are_theirs text)

-- flags by a test of groups
pub picked_by : (test : List Text → Bool) (all : List (List Text)) → picked (map test all) all ≡ filter test all
picked_by test [] = refl
picked_by test (g ∷ gs) = go (test g) (picked_by test gs)
  where
    go : (b : Bool) → picked (map test gs) gs ≡ filter test gs → cond b (g ∷ picked (map test gs) gs) (picked (map test gs) gs) ≡ cond b (g ∷ filter test gs) (filter test gs)
    go true e = ap (λ more. g ∷ more) e
    go false e = e

-- the name of a group
pub name_of_group : (home : Home) (group : List Text) (facts : PackageFacts) → Says home group facts → unwrap_or (field_value (codes "package") group) [] ≡ facts.name
name_of_group home group facts s = ap (λ found. unwrap_or found []) s.name.0
