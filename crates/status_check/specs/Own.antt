-- The own packages of a dpkg status file, which are installed and not foreign to the home of an
-- index, and the fault of the file.
use Rattle.std.specs.{Prelude.{ℕ, List, Option, map, count_by}, Option.{option_map, option_or}}
use Rattle.std.specs.Result.{result_err}
use Rattle.stanza_reader.specs.{Blanking.{blanked}, Stanzas.{stanzas}}
use Rattle.relation_fields.specs.declared.packages.Home.{Home}
use Rattle.relation_fields.specs.declared.packages.PackageFacts.{PackageFacts}
use Rattle.repo_model.specs.FirstFault.{first_fault, stanzas_of}
use Rattle.repo_model.specs.declared.fault.IndexFault.{IndexFault}
use Rattle.repo_model.specs.declared.fault.IndexFault.TheVariants.{Stanza}
use Rattle.suite_compare.specs.Refusals.{home_in, packages_in}
use Rattle.status_check.specs.Installed.{is_foreign, is_own}

-- the file, in which each line of each stanza that is not installed, or is foreign, is made empty,
-- so that lines keep their numbers
unfoldable pub own_stanzas_text : Home → List ℕ → List ℕ
own_stanzas_text home file = blanked (map (is_own home) (stanzas_of file)) file

-- the first fault in the lines of the whole file, installed or not
abbrev pub file_fault : List ℕ → Option IndexFault
file_fault file = option_map Stanza (result_err (stanzas file))

-- the fault of the file: the first in the lines of the whole file, and else the first fault of the
-- own packages as an index
abbrev pub status_fault : Home → List ℕ → Option IndexFault
status_fault home file = option_or (file_fault file) (first_fault (own_stanzas_text home file))

-- the own packages, in the order of the file
abbrev pub own_packages : Home → List ℕ → List PackageFacts
own_packages home file = packages_in (own_stanzas_text home file)

-- their common architecture; it is missing if each of them is of `all`, whatever the home of the
-- index is
abbrev pub own_home : Home → List ℕ → Home
own_home home file = home_in (own_stanzas_text home file)

-- how many installed stanzas are foreign
abbrev pub foreign_count : Home → List ℕ → ℕ
foreign_count home file = count_by (is_foreign home) (stanzas_of file)
