-- What shows that goals cannot be met in a kernel text, and that a search for them is too long. It
-- is said of the text and the words of the goals.
use Rattle.std.specs.{Prelude.{◌≡◌, ℕ, ◌<◌, Bool, ◌↔◌, List, []}, List.{AllZip}}
use Rattle.coinst_words.specs.Usage.{Text}
use Rattle.kernel_text.specs.{KernelReads.{KernelReads}, declared.member.Member.{Member}}
use Rattle.listed.specs.Lists.{Ascending, In}
use Rattle.row_book.specs.{Repository.{Repository}, Sets.{NumSet, Is}}
use Rattle.search_terms.specs.{declared.literals.Literal.{Literal}, Derives.{Derives}, Form.{form}}
use Rattle.claims.specs.{Goals.{NamesPackage}, Search.{Searched}}

-- the classes with a member that the goal names, ascending
abbrev pub AreClassesFor : List Member → Text → List ℕ → Type 0
AreClassesFor members goal classes = Ascending classes
    × ((k : ℕ) → In k classes
    ↔ ((m : Member) × In m members × (m.class ≡ k) × NamesPackage goal m.name m.version))

-- What goals and a kernel text ask together, as sentences of signed classes. For each goal one of
-- its classes is to be there; and then come the needs and conflicts of the kernel.
pub record AreAsked (kernel : Text) (goals : List Text)
    (formula : List (List Literal)) : Type 0 where
  pub format : ℕ
  pub repository : Repository
  pub members : List Member
  pub held : List ℕ
  pub reads : KernelReads kernel format repository members held
  pub wanted : List (List ℕ)
  pub each : AllZip (AreClassesFor members) goals wanted
  pub says : formula ≡ form repository wanted

-- the log derives the empty entry from what is asked: each of its entries follows by unit steps,
-- and the last one is empty
abbrev pub Refutes : Text → List Text → List (List Literal) → Type 0
Refutes kernel goals log =
    (formula : List (List Literal)) × AreAsked kernel goals formula × Derives formula log

-- more leaves than the budget fail in the search for what is asked
abbrev pub IsTooLong : Text → List Text → ℕ → Type 0
IsTooLong kernel goals budget = (formula : List (List Literal)) × AreAsked kernel goals formula
    × ((found : Bool) × (leaves : ℕ) × Searched formula [] found leaves × (budget < leaves))

-- the set has a class with a member for each goal
abbrev pub HasClassOfEach : List Member → NumSet → List Text → Type 0
HasClassOfEach members set goals = (goal : Text) → In goal goals →
    (m : Member) × In m members × Is set m.class × NamesPackage goal m.name m.version
