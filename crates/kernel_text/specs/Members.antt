-- The members of a kernel's classes: the packages of an index, class by class.
use Rattle.std.specs.{Prelude.{ℕ, List, [], ◌∷◌}, List.{flat_map}}
use Rattle.relation_fields.specs.declared.packages.PackageFacts.{PackageFacts}
use Rattle.row_book.specs.Numbers.{numbers}
use Rattle.package_register.specs.Registers.{IsRegisterOf, IsRegisterOf-prop}
use Rattle.package_register.specs.declared.register.Register.{Register}
use Rattle.kernel_text.specs.{declared.member.Member.{Member}, KernelText.{members_of}}

-- a package as a member of a class
abbrev pub member_in : ℕ → PackageFacts → Member
member_in class facts = record { class = class; name = facts.name; version = facts.version }

-- each package as a member of its class, in file order
abbrev pub file_members : List PackageFacts → List ℕ → List Member
file_members (facts ∷ packages) (class ∷ class_of) =
    member_in class facts ∷ file_members packages class_of
file_members packages class_of = []

-- the members of the classes, class by class, and in file order within a class
unfoldable pub kernel_members : List PackageFacts → List ℕ → ℕ → List Member
kernel_members packages class_of classes =
    flat_map (members_of (file_members packages class_of)) (numbers classes 0)

-- each member is found by its name and its version
abbrev pub IsMemberRegister : List Member → Register → Type 0
IsMemberRegister members register = IsRegisterOf (λ m. m.name) (λ m. m.version) members register

-- This fact has one proof at most, so that a stored kernel may keep it.
pub IsMemberRegister-prop : (members : List Member) (register : Register) →
    IsProp (IsMemberRegister members register)
IsMemberRegister-prop members register =
    IsRegisterOf-prop (λ m. m.name) (λ m. m.version) members register
