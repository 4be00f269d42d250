-- When a version is refused.
use Rattle.std.specs.Prelude.{⊤}
use Rattle.deb_version.specs.declared.versions.VersionError.{VersionError}
use Rattle.deb_version.specs.declared.versions.VersionError.TheVariants.{Shape, Memory}

-- the fact, if the text was refused for its shape
abbrev pub OnShape : Type 0 → VersionError → Type 0
OnShape P Shape = P
OnShape P Memory = ⊤
