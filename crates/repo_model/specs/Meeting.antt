-- for the bodies of this crate alone
-- The packages that meet an atom.
use Rattle.std.specs.Prelude.{ℕ, List}
use Rattle.relation_fields.specs.{Meeting.{meets}, declared.packages.Home.{Home}}
use Rattle.relation_fields.specs.declared.packages.PackageFacts.{PackageFacts}
use Rattle.relation_fields.specs.declared.relations.Atom.{Atom}
use Rattle.package_register.specs.Numbers.{numbers_where}

-- the numbers of the packages that meet the atom, ascending
abbrev pub meeting : Home → List PackageFacts → Atom → List ℕ
meeting home packages atom = numbers_where (λ facts. meets atom facts home) packages
