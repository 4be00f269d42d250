-- for the bodies of this crate alone
-- Lists that lie in one list, each from a start to an end.
use Rattle.std.specs.Prelude.{ℕ, ◌≤◌, ◌-◌, List, [], ◌∷◌, map, take, drop}

-- the items from the start of a span to its end
abbrev pub part : {A : Type 0} → List A → ℕ × ℕ → List A
part items span = take (span.1 - span.0) (drop span.0 items)

abbrev pub parts : {A : Type 0} → List A → List (ℕ × ℕ) → List (List A)
parts items spans = map (part items) spans

-- each span ends within a length, and not before its start
abbrev pub SpansFit : ℕ → List (ℕ × ℕ) → Type 0
SpansFit n [] = Unit {0}
SpansFit n (span ∷ spans) = (span.0 ≤ span.1) × (span.1 ≤ n) × SpansFit n spans
