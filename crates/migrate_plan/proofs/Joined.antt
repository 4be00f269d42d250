-- A text behind which two line feeds stand: it is closed, and reads as it did.
use Rattle.std.proofs.Common.{◌≡◌, ℕ, ◌+◌, Bool, true, false, cond, List, [], ◌∷◌, ◌++◌, length, map, refl, ap, sym, ◌∙◌, ◌⊎◌, inl, inr, arith, append_assoc}
use Rattle.std.proofs.{lemmas.List.{append-nil}, lemmas.List.Elements.{filter-append}, lemmas.List.Splits.{length-slice_split}}
use Rattle.std.specs.{Prelude.{count_by, filter, if◌then◌else◌}, List.{onto_first, slice_split}}
use Rattle.stanza_reader.specs.{Close.{ends_blank, readings_from, IsClosed}, Lines.{Line, is_blank, is_line_feed, lines, numbered}}
use Rattle.stanza_reader.specs.Stanzas.{groups, has_line, is_blank_line, stanza_of}
use Rattle.stanza_reader.proofs.PartLemmas.{blank_last, ended_last, lines_parts}

-- a line feed behind a text gives it one more line, which is empty, or ends its last one
feed_end : (text : List ℕ) → (lines (text ++ 10 ∷ []) ≡ lines text) ⊎ (lines (text ++ 10 ∷ []) ≡ lines text ++ [] ∷ [])
feed_end [] = inr refl
feed_end (b ∷ bs) = by (is_line_feed b) (lines bs) (lines (bs ++ 10 ∷ [])) (feed_end bs)
  where
    by : (t : Bool) (one two : List (List ℕ)) → (two ≡ one) ⊎ (two ≡ one ++ [] ∷ [])
        → ((if t then [] ∷ two else onto_first b two) ≡ (if t then [] ∷ one else onto_first b one)) ⊎ ((if t then [] ∷ two else onto_first b two) ≡ (if t then [] ∷ one else onto_first b one) ++ [] ∷ [])
    by true one two (inl e) = inl (ap (λ rest. [] ∷ rest) e)
    by true one two (inr e) = inr (ap (λ rest. [] ∷ rest) e)
    by false one two (inl e) = inl (ap (onto_first b) e)
    by false [] two (inr e) = inl (ap (onto_first b) e)
    by false (line ∷ rest) two (inr e) = inr (ap (onto_first b) e)

onto_end : (line : Line) (parts : List (List Line)) (n : ℕ) → length parts ≡ n + 1 → onto_first line (parts ++ [] ∷ []) ≡ onto_first line parts ++ [] ∷ []
onto_end line [] n e = let long : 0 ≡ n + 1 = e in absurd (omega arith)
onto_end line (part ∷ parts) n e = refl

split_end : (n : ℕ) (all : List (List ℕ)) → slice_split is_blank_line (numbered n (all ++ [] ∷ [])) ≡ slice_split is_blank_line (numbered n all) ++ [] ∷ []
split_end n [] = refl
split_end n (line ∷ rest) =
    let parts : List (List Line) = slice_split is_blank_line (numbered (n + 1) rest) in
    ap (λ more. cond (is_blank line) ([] ∷ more) (onto_first (record { number = n; text = line }) more)) (split_end (n + 1) rest)
    ∙ by (is_blank line) parts (count_by is_blank_line (numbered (n + 1) rest)) (length-slice_split is_blank_line (numbered (n + 1) rest))
  where
    by : (t : Bool) (parts : List (List Line)) (k : ℕ) → length parts ≡ k + 1 → cond t ([] ∷ (parts ++ [] ∷ [])) (onto_first (record { number = n; text = line }) (parts ++ [] ∷ []))
        ≡ cond t ([] ∷ parts) (onto_first (record { number = n; text = line }) parts) ++ [] ∷ []
    by true parts k long = refl
    by false parts k long = onto_end (record { number = n; text = line }) parts k long

-- an empty line at the end is of no group
groups_end : (n : ℕ) (all : List (List ℕ)) → groups (numbered n (all ++ [] ∷ [])) ≡ groups (numbered n all)
unfolding groups
groups_end n all =
    ap (filter has_line) (split_end n all) ∙ filter-append has_line (slice_split is_blank_line (numbered n all)) ([] ∷ []) ∙ append-nil (filter has_line (slice_split is_blank_line (numbered n all)))

two_feeds : (text : List ℕ) → lines (text ++ (10 ∷ (10 ∷ []))) ≡ lines (text ++ 10 ∷ []) ++ [] ∷ []
two_feeds text = ap lines (sym (append_assoc text (10 ∷ []) (10 ∷ []))) ∙ lines_parts (text ++ 10 ∷ []) (10 ∷ []) (ended_last text 10 [])

pub two_feeds_close : (text : List ℕ) → IsClosed (text ++ (10 ∷ (10 ∷ [])))
two_feeds_close text = record {
  ended = ended_last text 10 (10 ∷ []);
  blank = ap ends_blank (two_feeds text) ∙ blank_last (lines (text ++ 10 ∷ [])) [] [];
}

pub two_feeds_read : (n : ℕ) (text : List ℕ) → readings_from n (text ++ (10 ∷ (10 ∷ []))) ≡ readings_from n text
unfolding readings_from
two_feeds_read n text =
    ap (λ all. map stanza_of (groups (numbered n all))) (two_feeds text) ∙ ap (map stanza_of) (groups_end n (lines (text ++ 10 ∷ [])))
    ∙ elim (feed_end text) [
      | inl e ↦ ap (λ all. map stanza_of (groups (numbered n all))) e
      | inr e ↦ ap (λ all. map stanza_of (groups (numbered n all))) e ∙ ap (map stanza_of) (groups_end n (lines text))
    ]
