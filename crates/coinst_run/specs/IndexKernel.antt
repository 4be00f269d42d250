-- The kernel of an index: that of its repository at a clause limit, with hold or without, with the
-- packages of each class as its members.
use Rattle.std.specs.Prelude.{ℕ, Bool, List, length, map}
use Rattle.kernel_text.specs.{KernelJson.{kernel_json}, KernelText.{format_of, kernel_text}}
use Rattle.kernel_text.specs.{Members.{kernel_members}, declared.member.Member.{Member}}
use Rattle.relation_fields.specs.declared.packages.Home.{Home}
use Rattle.relation_fields.specs.declared.packages.PackageFacts.{PackageFacts}
use Rattle.repo_model.specs.Repository.{suite_repository}
use Rattle.row_book.specs.{Flattening.{packages}, Repository.{Repository}}
use Rattle.row_book.specs.Rounds.{kernel, kernel_class, kernel_held}

-- a repository of classes, for each package its class, whether classes may be held, and those that
-- are
pub record ClassedKernel : Type 0 where
  pub repository : Repository
  pub class_of : List ℕ
  pub hold : Bool
  pub held : List ℕ

-- the kernel of a repository
unfoldable pub classed_kernel : ℕ → Bool → Repository → ClassedKernel
classed_kernel limit hold R =
    record {
      repository = kernel limit hold R;
      class_of = map (kernel_class limit hold R) (packages R);
      hold = hold;
      held = kernel_held limit hold R;
    }

unfoldable pub index_kernel : ℕ → Bool → Home → List PackageFacts → ClassedKernel
index_kernel limit hold home packages = classed_kernel limit hold (suite_repository home packages)

-- the members of its classes
abbrev pub members_for : List PackageFacts → ClassedKernel → List Member
members_for packages made = kernel_members packages made.class_of (length made.repository.clauses)

-- its text, in format 2 if classes may be held, else in format 1
abbrev pub text_for : List PackageFacts → ClassedKernel → List ℕ
text_for packages made =
    kernel_text (format_of made.hold) made.repository (members_for packages made) made.held

-- and its JSON
abbrev pub json_for : List PackageFacts → ClassedKernel → List ℕ
json_for packages made =
    kernel_json (format_of made.hold) made.repository (members_for packages made) made.held
