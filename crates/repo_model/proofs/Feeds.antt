-- The last line feed of a part of a text, as a search of that part tells it.
use Rattle.std.proofs.Common.{◌≡◌, ℕ, ◌+◌, ◌-◌, ◌<◌, ◌≤◌, Some, None, List, length, take, drop, get_or, sym, ap, ◌∙◌, length-drop, arith}
use Rattle.std.proofs.{lemmas.Bool.{false_from_ne_true}, lemmas.List.{get_or-drop, get_or-take, length-take-le}}
use Rattle.memchr.specs.Find.{IsLastByte, is_byte}
use Rattle.stanza_reader.specs.Lines.{is_line_feed}
use Rattle.repo_model.specs.Backward.{IsLastFeed, NoFeed}

module _ (text : List ℕ) (from end : ℕ) (order : from ≤ end) (whole : end ≤ length text) where
  abbrev part : List ℕ
  part = take (end - from) (drop from text)

  size : length part ≡ end - from
  size = length-take-le (end - from) (drop from text) (omega (arith, order, whole, length-drop from text))

  byte : (k : ℕ) → k < end - from → get_or part k 0 ≡ get_or text (from + k) 0
  byte k l = get_or-take (end - from) (drop from text) k 0 l ∙ get_or-drop from text k 0

  -- the byte at a place of the part stands so far behind its beginning
  there_too : (k : ℕ) → from ≤ k → k < end → get_or part (k - from) 0 ≡ get_or text k 0
  there_too k l u =
      let e : from + (k - from) ≡ k = omega (arith, l) in
      byte (k - from) (omega (arith, l, u)) ∙ ap (λ i. get_or text i 0) e

  pub feed_missed : IsLastByte (is_byte 10) part None → NoFeed text from end
  feed_missed h = λ k l u.
      false_from_ne_true (is_line_feed (get_or text k 0)) (λ yes. h (k - from) (omega arith) (omega (arith, size, l, u)) (ap is_line_feed (there_too k l u) ∙ yes))

  pub feed_found : (place : ℕ) → IsLastByte (is_byte 10) part (Some place) → IsLastFeed text from end (from + place)
  feed_found place h =
      let high : place < end - from = omega (arith, size, h.0.high) in
      record {
        low = omega arith;
        high = omega (arith, high, order);
        feed = ap is_line_feed (sym (byte place high)) ∙ h.1;
        last = λ k l u.
            false_from_ne_true (is_line_feed (get_or text k 0))
            (λ yes. h.0.after (k - from) (omega (arith, l)) (omega (arith, size, l, u)) (ap is_line_feed (there_too k (omega (arith, l)) u) ∙ yes));
      }
