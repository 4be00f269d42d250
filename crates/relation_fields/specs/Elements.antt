-- The elements of many packages; equal ones are kept once.
use Rattle.std.specs.Prelude.{ℕ, ◌<◌, ◌^◌, List, length, vec_len, vec_capacity}
use Rattle.relation_fields.specs.declared.relations.Atom.{Atom}
use Rattle.relation_fields.specs.{declared.shared.SharedElements.{SharedElements}, Shared.{marked}}

-- the elements in their order
abbrev pub elements_of : SharedElements → List (List Atom)
elements_of shared = marked shared.distinct.items shared.marks.items

-- one more element needs no memory
pub record HasRoom (shared : SharedElements) : Type 0 where
  pub few : length shared.distinct.items < 2 ^ 32
  pub distinct : vec_len shared.distinct < vec_capacity shared.distinct
  pub marks : vec_len shared.marks < vec_capacity shared.marks
