-- When a relation field is refused.
use Rattle.std.specs.Prelude.{⊤, ℕ}
use Rattle.relation_fields.specs.declared.fields.RelationError.{RelationError}
use Rattle.relation_fields.specs.declared.fields.RelationError.TheVariants.{Shape, Memory}

-- the fact of the element, if one was refused for its shape
abbrev pub OnFaultyElement : (ℕ → Type 0) → RelationError → Type 0
OnFaultyElement P (Shape element) = P element
OnFaultyElement P Memory = ⊤
