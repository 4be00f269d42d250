-- When a package meets an atom: Debian Policy 7.1, and 7.5 on provides: a provide without a version
-- meets no atom with a restriction. Some qualifiers are ignored in every field, and any other
-- matches nothing. That is this repository's own choice, for an index of one architecture.
use Rattle.std.specs.Prelude.{ℕ, Bool, true, false, ◌&&◌, ◌||◌, Option, List, codes}
use Rattle.std.specs.{List.{list_any}, Option.{option_map_or}, Str.{bytes_eq}}
use Rattle.std.specs.declared.cmp.Ordering.{Ordering}
use Rattle.std.specs.Ordering.{is_lt, is_le, is_eq, is_ge, is_gt}
use Rattle.deb_version.specs.Order.{version_order}
use Rattle.relation_fields.specs.declared.relations.Op.{Op}
use Rattle.relation_fields.specs.declared.relations.Op.TheVariants.{Earlier, EarlierEqual, Exactly}
use Rattle.relation_fields.specs.declared.relations.Op.TheVariants.{LaterEqual, Later}
use Rattle.relation_fields.specs.{declared.relations.Bound.{Bound}, declared.relations.Atom.{Atom}}
use Rattle.relation_fields.specs.declared.relations.Provide.{Provide}
use Rattle.relation_fields.specs.declared.packages.Home.{Home}
use Rattle.relation_fields.specs.declared.packages.PackageFacts.{PackageFacts}

-- what each operator wants of the order of a version and the restriction's version
abbrev pub wants : Op → Ordering → Bool
wants Earlier order = is_lt order
wants EarlierEqual order = is_le order
wants Exactly order = is_eq order
wants LaterEqual order = is_ge order
wants Later order = is_gt order

-- the version fits the restriction
abbrev pub fits : List ℕ → Bound → Bool
fits version bound = wants bound.op (version_order version bound.version)

-- the three qualifiers that are ignored whatever the home is
abbrev pub is_always_ignored : List ℕ → Bool
is_always_ignored written = bytes_eq written (codes "any") || bytes_eq written (codes "native")
    || bytes_eq written (codes "all")

-- the name of the home, if it has one
abbrev pub is_home : List ℕ → Home → Bool
is_home written home = option_map_or (bytes_eq written) home.name false

-- A missing qualifier is ignored, and so are these three and the name of the home. With any other
-- the atom or provide matches nothing.
abbrev pub is_ignored : Option (List ℕ) → Home → Bool
is_ignored qualifier home =
    option_map_or (λ written. is_always_ignored written || is_home written home) qualifier true

-- the package's own name is the atom's, and its version fits the restriction if there is one
abbrev pub is_met_by_name : Atom → PackageFacts → Bool
is_met_by_name atom facts =
    bytes_eq atom.name facts.name && option_map_or (fits facts.version) atom.bound true

-- the version that is provided fits the restriction; a provide without a version fits none
abbrev pub fits_provided : Option (List ℕ) → Bound → Bool
fits_provided provided bound = option_map_or (λ version. fits version bound) provided false

-- the provide is of the atom's name, and what it provides fits the atom's restriction if there is
-- one
abbrev pub is_provided_by : Atom → Home → Provide → Bool
is_provided_by atom home provide =
    is_ignored provide.qualifier home && (bytes_eq atom.name provide.name
    && option_map_or (fits_provided provide.version) atom.bound true)

-- by its own name, or by one of its provides
unfoldable pub meets : Atom → PackageFacts → Home → Bool
meets atom facts home = is_ignored atom.qualifier home
    && (is_met_by_name atom facts || list_any (is_provided_by atom home) facts.provides)
