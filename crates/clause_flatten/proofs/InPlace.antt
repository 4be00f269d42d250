-- A list that is filtered in place: what stays is written over its front, one item after another.
use Rattle.std.proofs.Common.{◌≡◌, ℕ, ◌<◌, ◌≤◌, ◌+◌, List, [], ◌∷◌, ◌++◌, ap, sym, ◌∙◌, arith, drop, take, length, get_or, slice_set}
use Rattle.std.proofs.lemmas.List.{drop-set-lt, drop_more, get_or-drop, length-set, take_more_set}

-- from a place on the list is as it was, and its first items, so many as are kept, are those that stay
module _ (old now : List ℕ) (kept place id : ℕ) (few : kept ≤ place) (size : length now ≡ length old) (left : drop place now ≡ drop place old) (below : place < length now) where
  pub below_old : place < length old
  below_old = omega (arith, size, below)

  -- the item at the place is the one that was there
  pub item_old : id ≡ get_or now place id → id ≡ get_or old place id
  item_old is =
      let same : place + 0 ≡ place = omega arith in
      is ∙ sym (ap (λ j. get_or now j id) same) ∙ sym (get_or-drop place now 0 id) ∙ ap (λ l. get_or l 0 id) left ∙ get_or-drop place old 0 id ∙ ap (λ j. get_or old j id) same

  pub left_behind : drop (place + 1) now ≡ drop (place + 1) old
  left_behind = ap (drop 1) (sym (drop_more now place 0 below) ∙ left ∙ drop_more old place 0 below_old)

  pub left_after : drop (place + 1) (slice_set now kept id) ≡ drop (place + 1) old
  left_after = drop-set-lt (place + 1) now kept id (omega (arith, few)) ∙ left_behind

  pub taken_after : take (kept + 1) (slice_set now kept id) ≡ take kept now ++ id ∷ []
  taken_after = take_more_set now kept id (omega (arith, few, below))

  pub size_after : length (slice_set now kept id) ≡ length old
  size_after = length-set now kept id ∙ size
