-- The longest front of a text whose bytes pass a test, and texts without white space at their ends.
use Rattle.std.proofs.Common.{◌≡◌, ℕ, ◌+◌, ◌-◌, Bool, true, not, List, [], ◌∷◌, ◌++◌, length, take, drop, reverse, refl, sym, ap, ◌∙◌, arith}
use Rattle.std.proofs.{lemmas.Grind.{common_steps}, lemmas.Bool.{and_parts, and_from}}
use Rattle.std.proofs.lemmas.List.{append-nil, length-append, reverse-append, reverse-reverse, take-append-drop, take-append-le, length-reverse, length-drop}
use Rattle.std.proofs.{lemmas.List.Folds.{list_all-append}, lemmas.List.Sums.{list_all-from_AllPass, prefix_len_passes}, Math.Nat.{sub-zero}}
use Rattle.std.proofs.Math.Seq.{take-append_seam, drop-append_seam, drop-append-add, take-length}
use Rattle.std.specs.List.{list_all, prefix_len, suffix_len}
use Rattle.relation_fields.specs.Texts.{is_white_byte, is_white, trim_start, trim_end, trim_both}

-- the text is empty, or its first byte fails
abbrev pub stops : (ℕ → Bool) → List ℕ → Bool
stops p [] = true
stops p (x ∷ xs) = not (p x)

pub prefix_len-passed : (p : ℕ → Bool) (xs ys : List ℕ) → list_all p xs ≡ true → prefix_len p (xs ++ ys) ≡ length xs + prefix_len p ys
prefix_len-passed p [] ys all = omega arith
prefix_len-passed p (x ∷ xs) ys all =
    let parts = and_parts (p x) (list_all p xs) all in
    grind (arith, common_steps, parts.0, prefix_len-passed p xs ys parts.1)

pub prefix_len-stops : (p : ℕ → Bool) (ys : List ℕ) → stops p ys ≡ true → prefix_len p ys ≡ 0
prefix_len-stops p [] stop = refl
prefix_len-stops p (y ∷ ys) stop = grind (arith, common_steps)

-- a front that passes, before what stops
pub prefix_len-front : (p : ℕ → Bool) (xs ys : List ℕ) → list_all p xs ≡ true → stops p ys ≡ true → prefix_len p (xs ++ ys) ≡ length xs
prefix_len-front p xs ys all stop = omega (arith, prefix_len-passed p xs ys all, prefix_len-stops p ys stop)

pub front_taken : (p : ℕ → Bool) (xs ys : List ℕ) → list_all p xs ≡ true → stops p ys ≡ true → take (prefix_len p (xs ++ ys)) (xs ++ ys) ≡ xs
front_taken p xs ys all stop = rw (prefix_len-front p xs ys all stop) (take-append_seam xs ys)

pub front_left : (p : ℕ → Bool) (xs ys : List ℕ) → list_all p xs ≡ true → stops p ys ≡ true → drop (prefix_len p (xs ++ ys)) (xs ++ ys) ≡ ys
front_left p xs ys all stop = rw (prefix_len-front p xs ys all stop) (drop-append_seam xs ys)

-- the longest front that passes does pass
pub front_passes : (p : ℕ → Bool) (xs : List ℕ) → list_all p (take (prefix_len p xs) xs) ≡ true
front_passes p xs = list_all-from_AllPass p (take (prefix_len p xs) xs) (λ k d within. grind (arith, common_steps, prefix_len_passes p xs k d))

pub list_all-reverse : (p : ℕ → Bool) (xs : List ℕ) → list_all p (reverse xs) ≡ list_all p xs
list_all-reverse p [] = refl
list_all-reverse p (x ∷ xs) = grind (arith, common_steps, list_all-append, list_all-reverse p xs)

-- white space in front of a text, and behind it, is dropped
pub trim_start-white : (front text : List ℕ) → is_white front ≡ true → trim_start (front ++ text) ≡ trim_start text
unfolding trim_start
trim_start-white front text white = rw (prefix_len-passed is_white_byte front text white) (drop-append-add front text (prefix_len is_white_byte text))

pub trim_start-stops : (text : List ℕ) → stops is_white_byte text ≡ true → trim_start text ≡ text
unfolding trim_start
trim_start-stops text stop = rw (prefix_len-stops is_white_byte text stop) refl

pub trim_end-white : (text back : List ℕ) → is_white back ≡ true → trim_end (text ++ back) ≡ trim_end text
unfolding trim_end
trim_end-white text back white =
    let white_back : list_all is_white_byte (reverse back) ≡ true = list_all-reverse is_white_byte back ∙ white in
    let more : suffix_len is_white_byte (text ++ back) ≡ length back + suffix_len is_white_byte text =
    ap (prefix_len is_white_byte) (reverse-append text back) ∙ grind (arith, common_steps, prefix_len-passed is_white_byte (reverse back) (reverse text) white_back) in
    let len = length-append text back in
    let cut : length (text ++ back) - suffix_len is_white_byte (text ++ back) ≡ length text - suffix_len is_white_byte text = omega arith in
    rw cut (take-append-le (length text - suffix_len is_white_byte text) text back (omega arith))

pub trim_end-stops : (text : List ℕ) → stops is_white_byte (reverse text) ≡ true → trim_end text ≡ text
unfolding trim_end
trim_end-stops text stop = rw (prefix_len-stops is_white_byte (reverse text) stop, sub-zero) (take-length text)

pub trim_both-white : (text : List ℕ) → is_white text ≡ true → trim_both text ≡ []
unfolding trim_both trim_end
trim_both-white text white =
    ap trim_end (ap trim_start (sym (append-nil text)) ∙ trim_start-white text [] white ∙ trim_start-stops [] refl)

-- a text in white space that has none at its own ends
pub trim_both-around : (front text back : List ℕ) → is_white front ≡ true → is_white back ≡ true → stops is_white_byte text ≡ true → stops is_white_byte (reverse text) ≡ true → trim_both (front ++ (text ++ back)) ≡ text
unfolding trim_both
trim_both-around front [] back white_front white_back begins ends = trim_both-white (front ++ back) (list_all-append is_white_byte front back ∙ and_from (is_white front) (is_white back) white_front white_back)
trim_both-around front (x ∷ text) back white_front white_back begins ends =
    ap trim_end (trim_start-white front (x ∷ (text ++ back)) white_front ∙ trim_start-stops (x ∷ (text ++ back)) begins) ∙ trim_end-white (x ∷ text) back white_back ∙ trim_end-stops (x ∷ text) ends

-- a text is what is left of it, with white space around
pub record IsIn (inner text : List ℕ) : Type 0 where
  pub front : List ℕ
  pub back : List ℕ
  pub white_front : is_white front ≡ true
  pub white_back : is_white back ≡ true
  pub joined : text ≡ front ++ (inner ++ back)

pub trim_start-joined : (text : List ℕ) → text ≡ take (prefix_len is_white_byte text) text ++ trim_start text
unfolding trim_start
trim_start-joined text = sym (take-append-drop (prefix_len is_white_byte text) text)

-- the last bytes of a text, and those before them, as fronts of the text from its end
pub end_dropped : (xs : List ℕ) (n : ℕ) → drop (length xs - n) xs ≡ reverse (take n (reverse xs))
end_dropped xs n =
    let back = take n (reverse xs) in
    let front = drop n (reverse xs) in
    let cut : xs ≡ reverse front ++ reverse back = sym (reverse-reverse xs) ∙ ap reverse (sym (take-append-drop n (reverse xs))) ∙ reverse-append back front in
    let len : length (reverse front) ≡ length xs - n = omega (arith, length-reverse front, length-drop n (reverse xs), length-reverse xs) in
    ap (λ t. drop (length xs - n) t) cut ∙ ap (λ m. drop m (reverse front ++ reverse back)) (sym len) ∙ drop-append_seam (reverse front) (reverse back)

pub end_taken : (xs : List ℕ) (n : ℕ) → take (length xs - n) xs ≡ reverse (drop n (reverse xs))
end_taken xs n =
    let back = take n (reverse xs) in
    let front = drop n (reverse xs) in
    let cut : xs ≡ reverse front ++ reverse back = sym (reverse-reverse xs) ∙ ap reverse (sym (take-append-drop n (reverse xs))) ∙ reverse-append back front in
    let len : length (reverse front) ≡ length xs - n = omega (arith, length-reverse front, length-drop n (reverse xs), length-reverse xs) in
    ap (λ t. take (length xs - n) t) cut ∙ ap (λ m. take m (reverse front ++ reverse back)) (sym len) ∙ take-append_seam (reverse front) (reverse back)

white_end : (text : List ℕ) → is_white (drop (length text - suffix_len is_white_byte text) text) ≡ true
white_end text =
    ap is_white (end_dropped text (suffix_len is_white_byte text)) ∙ list_all-reverse is_white_byte (take (prefix_len is_white_byte (reverse text)) (reverse text)) ∙ front_passes is_white_byte (reverse text)

pub trim_both-in : (text : List ℕ) → IsIn (trim_both text) text
unfolding trim_both trim_end
trim_both-in text =
    let rest = trim_start text in
    record {
      front = take (prefix_len is_white_byte text) text;
      back = drop (length rest - suffix_len is_white_byte rest) rest;
      white_front = front_passes is_white_byte text;
      white_back = white_end rest;
      joined = trim_start-joined text ∙ ap (λ r. take (prefix_len is_white_byte text) text ++ r) (sym (take-append-drop (length rest - suffix_len is_white_byte rest) rest));
    }
