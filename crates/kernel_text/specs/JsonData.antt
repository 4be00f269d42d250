-- for the bodies of this crate alone
-- The JSON of a kernel as data of `serde_json`, over the packages of an index and a table of their
-- numbers by class.
use Rattle.std.specs.Prelude.{ℕ, Bool, List, [], ◌∷◌, map, codes, Option, Some, None, if◌then◌else◌}
use Rattle.relation_fields.specs.declared.packages.PackageFacts.{PackageFacts}
use Rattle.row_book.specs.{Book.{listed_for}, Numbers.{numbers}, Flags.{flag}}
use Rattle.row_book.specs.Repository.{Repository, clauses_of}
use Rattle.repo_model.specs.Stanzas.{stanza_at}
use Rattle.serde_json.specs.Data.{Data, Members, array, boolean, member, no_members, number, object}
use Rattle.serde_json.specs.{Data.{put, string, unsigned}, View.{items_of}}
use Rattle.kernel_text.specs.KernelText.{format_of, greater_conflicts}

abbrev pub number_data : ℕ → Data
number_data n = number (unsigned n)

abbrev pub list_data : List Data → Data
list_data ds = array (items_of ds)

abbrev pub numbers_data : List ℕ → Data
numbers_data ns = list_data (map number_data ns)

abbrev pub package_data : PackageFacts → Data
package_data facts = list_data (string facts.name ∷ (string facts.version ∷ []))

abbrev pub packages_data : List PackageFacts → List ℕ → Data
packages_data packages members = list_data (map (λ i. package_data (stanza_at packages i)) members)

abbrev pub clauses_data : List (List ℕ) → Data
clauses_data clauses = list_data (map numbers_data clauses)

-- whether the class is held, before other members, if it is said
abbrev pub with_mark : Option Bool → Members → Members
with_mark None rest = rest
with_mark (Some held) rest = member (codes "held") (boolean held) rest

-- whether the class is held, added to the members that are there, if it is said
abbrev pub with_told : Option Bool → Members → Members
with_told None members = members
with_told (Some held) members = put (codes "held") (boolean held) members

abbrev pub class_data : List ℕ → Option Bool → List PackageFacts → List ℕ → List (List ℕ) → Data
class_data conflicts mark packages members clauses =
    object
    (member (codes "against") (numbers_data conflicts) (with_mark mark (member (codes "members")
    (packages_data packages members) (member (codes "needs") (clauses_data clauses) no_members))))

-- by flags, if classes may be held
abbrev pub mark_of_class : Bool → List Bool → ℕ → Option Bool
mark_of_class hold flags n = if hold then Some (flag flags n) else None

abbrev pub data_of_class : Repository → List PackageFacts → List (List ℕ) → Option Bool → ℕ → Data
data_of_class R packages table mark n =
    class_data (greater_conflicts R n) mark packages (listed_for table n) (clauses_of R n)

abbrev pub kernel_data : Bool → Repository → List PackageFacts → List (List ℕ) →
    List Bool → ℕ → Data
kernel_data hold R packages table flags size =
    object
    (member (codes "classes") (list_data (map (λ n.
    data_of_class R packages table (mark_of_class hold flags n) n) (numbers size 0)))
    (member (codes "format") (number (unsigned (format_of hold))) no_members))
