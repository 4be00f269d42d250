-- The classes of a printed kernel that the stanzas of its index are in.
use Rattle.std.specs.{Prelude.{◌≡◌, ℕ, ◌<◌, ◌↔◌, Bool, true, ◌&&◌, List, length}, List.{list_any}}
use Rattle.std.specs.Str.{bytes_eq}
use Rattle.kernel_text.specs.{KernelText.{members_of}, declared.member.Member.{Member}}
use Rattle.relation_fields.specs.declared.packages.PackageFacts.{PackageFacts}
use Rattle.repo_model.specs.{Repository.{packages_of}, Stanzas.{stanza_at}}
use Rattle.row_book.specs.Sets.{NumSet}

-- the class has a member line of the stanza
abbrev pub is_in_class : List Member → PackageFacts → ℕ → Bool
is_in_class members s n =
    list_any (λ m. bytes_eq m.name s.name && bytes_eq m.version s.version) (members_of members n)

-- the classes of a set of stanzas: those with a member line of one of them
abbrev pub classes_of : List PackageFacts → List Member → NumSet → NumSet
classes_of stanzas members S n =
    list_any (λ i. S i && is_in_class members (stanza_at stanzas i) n) (packages_of stanzas)

-- the class is below the number of classes, and it and no other has a member line of the stanza
abbrev pub IsItsClass : ℕ → List Member → PackageFacts → ℕ → Type 0
IsItsClass classes members s k =
    (k < classes) × ((n : ℕ) → (is_in_class members s n ≡ true) ↔ (n ≡ k))

-- the member is one of the stanzas
abbrev pub IsOneOf : List PackageFacts → Member → Type 0
IsOneOf stanzas m = (n : ℕ) × (n < length stanzas) × ((stanza_at stanzas n).name ≡ m.name)
    × ((stanza_at stanzas n).version ≡ m.version)
