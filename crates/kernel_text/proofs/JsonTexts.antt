-- What `serde_json` writes for a kernel.
use Rattle.std.proofs.Common.{append-nil, filter, ltb, ◌≡◌, ◌≢◌, ℕ, zero, suc, ◌+◌, ◌/◌, ◌%◌, ◌<◌, ◌≤◌, Bool, true, false, cond, ◌||◌, ◌==◌, eqb-true, List, []}
use Rattle.std.proofs.Common.{◌∷◌, ◌++◌, length, map, Option, Some, None, take, get_or, inl, inr, refl, sym, ap, ap₂, ◌∙◌, subst, append_assoc, codes, arith}
use Rattle.std.proofs.lemmas.Bool.{and_parts, false_from_ne_true, false≢true, le-ltb, leb-true, lt-ltb, ltb-true, or_cases}
use Rattle.std.proofs.{lemmas.List.{map-append, take_more}, lemmas.List.Elements.{filter-append}}
use Rattle.std.specs.{Prelude.{nat_lt, nat_le}, Char.{digit_char, is_ascii_alphanumeric}, Int.{is_in_range}, Fmt.{decimal}, List.{list_all}, Str.{IsAscii}}
use Rattle.std.specs.{declared.alloc.Global.{Global}, declared.vec.Vec.{Vec}}
use Rattle.deb_version.specs.{Grammar.{is_upstream_byte, is_version}, Names.{has_first, is_name, is_name_byte}}
use Rattle.json.specs.Print.{escape, escape_byte, escape_letter, quoted}
use Rattle.relation_fields.proofs.Bytes.{version_bytes}
use Rattle.relation_fields.specs.declared.packages.PackageFacts.{PackageFacts}
use Rattle.repo_model.specs.{Stanzas.{stanza_at}, Facts.{AreNamedPackages}}
use Rattle.row_book.specs.{Book.{listed_for}, Numbers.{numbers}, Repository.{Repository, clauses_of}}
use Rattle.listed.specs.Lists.{In, here, there}
use Rattle.row_book.proofs.Numbers.{numbers_parts, numbers_more}
use Rattle.serde_json.specs.{Data.{Data, Members, array, boolean, no_members, object, put, string}, View.{items_of, view}}
use Rattle.serde_json.specs.{Written.{compact_text, has_float, items_have_float, items_text}, declared.value.Value.{Value}}
use Rattle.serde_json.specs.declared.value.Value.TheVariants.{Array}
use Rattle.serde_json.proofs.Views.{view-Array}
use Rattle.kernel_text.specs.declared.member.Member.{Member}
use Rattle.kernel_text.specs.JsonData.{class_data, clauses_data, data_of_class, kernel_data, list_data, mark_of_class, number_data, numbers_data, package_data}
use Rattle.kernel_text.specs.JsonData.{packages_data, with_told}
use Rattle.kernel_text.specs.KernelJson.{behind_commas, class_json, held_mark, kernel_json, list_json, member_json, numbers_json, object_json, package_json}
use Rattle.kernel_text.specs.{KernelJson.{quoted_text}, KernelLines.{KernelLine, MemberLine}}
use Rattle.kernel_text.specs.{KernelText.{format_of, greater_conflicts, line_of_member, members_of}, Members.{kernel_members}}
use Rattle.kernel_text.specs.Writing.{IsByClass, NumbersPackages, TellHeld, line_of_package}
use Rattle.kernel_text.proofs.Written.{members_are}

-- lists
behind : (ds : List Data) → items_text true (items_of ds) ≡ behind_commas (map compact_text ds) ++ codes "]"
behind [] = refl
behind (d ∷ ds) = ap (λ t. 44 ∷ (compact_text d ++ t)) (behind ds) ∙ ap (λ t. 44 ∷ t) (sym (append_assoc (compact_text d) (behind_commas (map compact_text ds)) (codes "]")))

list_is : (ds : List Data) → compact_text (list_data ds) ≡ list_json (map compact_text ds)
list_is [] = refl
list_is (d ∷ ds) = ap (λ t. 91 ∷ (compact_text d ++ t)) (behind ds) ∙ ap (λ t. 91 ∷ t) (sym (append_assoc (compact_text d) (behind_commas (map compact_text ds)) (codes "]")))

pub array_is : (v : Vec Value Global) (ds : List Data) → map view v.items ≡ ds → view (Array v) ≡ list_data ds
array_is v ds so_far = view-Array v ∙ ap (λ xs. array (items_of xs)) so_far

pub one_value : {X : Type 0} (f : X → Data) (xs : List X) (i : ℕ) (d : X) (old new : List Value) (v : Value) → i < length xs → map view old ≡ map f (take i xs) → view v ≡ f (get_or xs i d) →
    new ≡ old ++ v ∷ [] → map view new ≡ map f (take (i + 1) xs)
one_value f xs i d old new v l so_far is pushed =
    ap (map view) pushed ∙ map-append view old (v ∷ []) ∙ ap₂ (λ ds e. ds ++ e ∷ []) so_far is
    ∙ sym (ap (map f) (take_more xs i d l) ∙ map-append f (take i xs) (get_or xs i d ∷ []))

-- one more number of a list, by whether it is greater
more_greater : (n : ℕ) (xs : List ℕ) (i : ℕ) → i < length xs → filter (λ m. ltb n m) (take (i + 1) xs) ≡ filter (λ m. ltb n m) (take i xs) ++ cond (ltb n (get_or xs i 0)) (get_or xs i 0 ∷ []) []
more_greater n xs i l = ap (filter (λ m. ltb n m)) (take_more xs i 0 l) ∙ filter-append (λ m. ltb n m) (take i xs) (get_or xs i 0 ∷ [])

pub one_greater : (n : ℕ) (xs : List ℕ) (i : ℕ) (old new : List Value) (v : Value) → i < length xs → map view old ≡ map number_data (filter (λ m. ltb n m) (take i xs)) → n < get_or xs i 0 → view v ≡ number_data (get_or xs i 0) →
    new ≡ old ++ v ∷ [] → map view new ≡ map number_data (filter (λ m. ltb n m) (take (i + 1) xs))
one_greater n xs i old new v l so_far greater is pushed =
    let more : filter (λ m. ltb n m) (take (i + 1) xs) ≡ filter (λ m. ltb n m) (take i xs) ++ get_or xs i 0 ∷ [] =
    more_greater n xs i l ∙ ap (λ b. filter (λ m. ltb n m) (take i xs) ++ cond b (get_or xs i 0 ∷ []) []) (lt-ltb n (get_or xs i 0) greater) in
    ap (map view) pushed ∙ map-append view old (v ∷ []) ∙ ap₂ (λ ds e. ds ++ e ∷ []) so_far is
    ∙ sym (ap (map number_data) more ∙ map-append number_data (filter (λ m. ltb n m) (take i xs)) (get_or xs i 0 ∷ []))

pub not_greater : (n : ℕ) (xs : List ℕ) (i : ℕ) → i < length xs → get_or xs i 0 ≤ n → map number_data (filter (λ m. ltb n m) (take i xs)) ≡ map number_data (filter (λ m. ltb n m) (take (i + 1) xs))
not_greater n xs i l least =
    ap (map number_data)
    (sym (more_greater n xs i l ∙ ap (λ b. filter (λ m. ltb n m) (take i xs) ++ cond b (get_or xs i 0 ∷ []) []) (le-ltb n (get_or xs i 0) least) ∙ append-nil (filter (λ m. ltb n m) (take i xs))))

pub no_values : (f : ℕ → Data) (items : List Value) → items ≡ [] → map view items ≡ map f (numbers 0 0)
unfolding numbers
no_values f items none = ap (map view) none

pub one_class_value : (f : ℕ → Data) (n : ℕ) (old new : List Value) (v : Value) → map view old ≡ map f (numbers n 0) → view v ≡ f n → new ≡ old ++ v ∷ [] → map view new ≡ map f (numbers (n + 1) 0)
one_class_value f n old new v so_far is pushed =
    ap (map view) pushed ∙ map-append view old (v ∷ []) ∙ ap₂ (λ ds e. ds ++ e ∷ []) so_far is
    ∙ sym (ap (map f) (numbers_more n) ∙ map-append f (numbers n 0) (n ∷ []))

-- the members of a class, put one after another into an empty object
pub class_made : (conflicts : List ℕ) (mark : Option Bool) (packages : List PackageFacts) (members : List ℕ) (clauses : List (List ℕ)) (none first told third all : Members) → none ≡ no_members →
    first ≡ put (codes "against") (numbers_data conflicts) none → told ≡ with_told mark first → third ≡ put (codes "members") (packages_data packages members) told → all ≡ put (codes "needs") (clauses_data clauses) third →
    object all ≡ class_data conflicts mark packages members clauses
class_made conflicts None packages members clauses none first told third all a b c d e =
    ap object (e ∙ ap (put (codes "needs") (clauses_data clauses)) (d ∙ ap (put (codes "members") (packages_data packages members)) (c ∙ b ∙ ap (put (codes "against") (numbers_data conflicts)) a)))
class_made conflicts (Some held) packages members clauses none first told third all a b c d e =
    ap object
    (e
    ∙ ap (put (codes "needs") (clauses_data clauses))
    (d ∙ ap (put (codes "members") (packages_data packages members)) (c ∙ ap (put (codes "held") (boolean held)) (b ∙ ap (put (codes "against") (numbers_data conflicts)) a))))

-- bytes that stand for themselves
record IsPlainByte (x : ℕ) : Type 0 where
  low : 35 ≤ x
  high : x < 128
  other : x ≢ 92

between : (a b x : ℕ) → is_in_range a b x ≡ true → (a ≤ x) × (x ≤ b)
between a b x e = let h : (nat_le a x ≡ true) × (nat_le x b ≡ true) = and_parts (nat_le a x) (nat_le x b) e in (leb-true a x h.0, leb-true x b h.1)

letter : (x : ℕ) → is_ascii_alphanumeric x ≡ true → (35 ≤ x) × (x < 128)
letter x e = elim (or_cases (is_in_range 48 57 x || is_in_range 65 90 x) (is_in_range 97 122 x) e) [
  | inl front ↦ elim (or_cases (is_in_range 48 57 x) (is_in_range 65 90 x) front) [
    | inl d ↦ let r : (48 ≤ x) × (x ≤ 57) = between 48 57 x d in (omega arith, omega arith)
    | inr d ↦ let r : (65 ≤ x) × (x ≤ 90) = between 65 90 x d in (omega arith, omega arith)
  ]
  | inr d ↦ let r : (97 ≤ x) × (x ≤ 122) = between 97 122 x d in (omega arith, omega arith)
]

one_byte : (x k : ℕ) → 35 ≤ k → k < 128 → (x == k) ≡ true → (35 ≤ x) × (x < 128)
one_byte x k l h e = let is : x ≡ k = eqb-true x k e in (omega arith, omega arith)

name_byte : (x : ℕ) → is_name_byte x ≡ true → (35 ≤ x) × (x < 128)
name_byte x e = elim (or_cases (is_ascii_alphanumeric x) (((x == 43 || x == 45) || x == 46) || x == 95) e) [
  | inl l ↦ letter x l
  | inr o ↦ elim (or_cases ((x == 43 || x == 45) || x == 46) (x == 95) o) [
    | inl p ↦ elim (or_cases (x == 43 || x == 45) (x == 46) p) [
      | inl q ↦ elim (or_cases (x == 43) (x == 45) q) [
        | inl r ↦ one_byte x 43 (omega arith) (omega arith) r
        | inr r ↦ one_byte x 45 (omega arith) (omega arith) r
      ]
      | inr q ↦ one_byte x 46 (omega arith) (omega arith) q
    ]
    | inr p ↦ one_byte x 95 (omega arith) (omega arith) p
  ]
]

version_byte : (x : ℕ) → is_upstream_byte x ≡ true → (35 ≤ x) × (x < 128)
version_byte x e = elim (or_cases (is_ascii_alphanumeric x || ((x == 43 || x == 46) || x == 126)) (x == 45 || x == 58) e) [
  | inl l ↦ elim (or_cases (is_ascii_alphanumeric x) ((x == 43 || x == 46) || x == 126) l) [
    | inl m ↦ letter x m
    | inr o ↦ elim (or_cases (x == 43 || x == 46) (x == 126) o) [
      | inl q ↦ elim (or_cases (x == 43) (x == 46) q) [
        | inl r ↦ one_byte x 43 (omega arith) (omega arith) r
        | inr r ↦ one_byte x 46 (omega arith) (omega arith) r
      ]
      | inr q ↦ one_byte x 126 (omega arith) (omega arith) q
    ]
  ]
  | inr o ↦ elim (or_cases (x == 45) (x == 58) o) [
    | inl r ↦ one_byte x 45 (omega arith) (omega arith) r
    | inr r ↦ one_byte x 58 (omega arith) (omega arith) r
  ]
]

abbrev ArePlain : List ℕ → Type 0
ArePlain [] = Unit {0}
ArePlain (x ∷ xs) = IsPlainByte x × ArePlain xs

name_bytes : (text : List ℕ) → list_all is_name_byte text ≡ true → ArePlain text
name_bytes [] h = tt
name_bytes (x ∷ xs) h =
    let w : (is_name_byte x ≡ true) × (list_all is_name_byte xs ≡ true) = and_parts (is_name_byte x) (list_all is_name_byte xs) h in
    let r : (35 ≤ x) × (x < 128) = name_byte x w.0 in
    (record { low = r.0; high = r.1; other = λ e. false≢true (subst (λ z. is_name_byte z ≡ true) e w.0) }, name_bytes xs w.1)

version_all : (text : List ℕ) → list_all is_upstream_byte text ≡ true → ArePlain text
version_all [] h = tt
version_all (x ∷ xs) h =
    let w : (is_upstream_byte x ≡ true) × (list_all is_upstream_byte xs ≡ true) = and_parts (is_upstream_byte x) (list_all is_upstream_byte xs) h in
    let r : (35 ≤ x) × (x < 128) = version_byte x w.0 in
    (record { low = r.0; high = r.1; other = λ e. false≢true (subst (λ z. is_upstream_byte z ≡ true) e w.0) }, version_all xs w.1)

plain_name : (text : List ℕ) → is_name text ≡ true → ArePlain text
plain_name text h = name_bytes text (and_parts (has_first text) (list_all is_name_byte text) h).1

plain_version : (text : List ℕ) → is_version text ≡ true → ArePlain text
plain_version text h = version_all text (version_bytes text h)

ascii : (text : List ℕ) → ArePlain text → (i : ℕ) → get_or text i 0 < 128
ascii [] p i = omega arith
ascii (x ∷ xs) p zero = p.0.high
ascii (x ∷ xs) p (suc i) = ascii xs p.1 i

pub ascii_name : (text : List ℕ) → is_name text ≡ true → IsAscii text
ascii_name text h = ascii text (plain_name text h)

pub ascii_version : (text : List ℕ) → is_version text ≡ true → IsAscii text
ascii_version text h = ascii text (plain_version text h)

not_equal : (x k : ℕ) → x ≢ k → (x == k) ≡ false
not_equal x k ne = false_from_ne_true (x == k) (λ e. ne (eqb-true x k e))

not_below : (x : ℕ) → 35 ≤ x → nat_lt x 32 ≡ false
not_below x h = false_from_ne_true (nat_lt x 32) (λ e. let l : x < 32 = ltb-true x 32 e in omega arith)

plain_letter : (x : ℕ) → IsPlainByte x → escape_letter x ≡ 0
plain_letter x p =
    let h : 35 ≤ x = p.low in
    let a : (x == 34) ≡ false = not_equal x 34 (λ e. omega arith) in
    let b : (x == 92) ≡ false = not_equal x 92 p.other in
    let c : (x == 8) ≡ false = not_equal x 8 (λ e. omega arith) in
    let d : (x == 12) ≡ false = not_equal x 12 (λ e. omega arith) in
    let f : (x == 10) ≡ false = not_equal x 10 (λ e. omega arith) in
    let g : (x == 13) ≡ false = not_equal x 13 (λ e. omega arith) in
    let k : (x == 9) ≡ false = not_equal x 9 (λ e. omega arith) in
    rw (a, b, c, d, f, g, k) refl

plain_byte : (x : ℕ) → IsPlainByte x → escape_byte x ≡ x ∷ []
unfolding escape_byte
plain_byte x p =
    let none : escape_letter x ≡ 0 = plain_letter x p in
    let high : nat_lt x 32 ≡ false = not_below x p.low in
    ap (λ k. cond (nat_lt 0 k) (92 ∷ k ∷ []) (cond (nat_lt x 32) (92 ∷ 117 ∷ 48 ∷ 48 ∷ digit_char (x / 16) ∷ digit_char (x % 16) ∷ []) (x ∷ []))) none
    ∙ ap (λ b. cond b (92 ∷ 117 ∷ 48 ∷ 48 ∷ digit_char (x / 16) ∷ digit_char (x % 16) ∷ []) (x ∷ [])) high

plain_escape : (text : List ℕ) → ArePlain text → escape text ≡ text
plain_escape [] p = refl
plain_escape (x ∷ xs) p = ap₂ (λ a b. a ++ b) (plain_byte x p.0) (plain_escape xs p.1)

plain_quote : (text : List ℕ) → ArePlain text → quoted text ≡ quoted_text text
plain_quote text p = ap (λ t. 34 ∷ (t ++ 34 ∷ [])) (plain_escape text p)

-- the parts
map_of : {X Y : Type 0} (f : X → Y) (g : Y → List ℕ) (h : X → List ℕ) (xs : List X) → ((x : X) → In x xs → g (f x) ≡ h x) → map g (map f xs) ≡ map h xs
map_of f g h [] same = refl
map_of f g h (x ∷ xs) same = ap₂ (λ a b. a ∷ b) (same x here) (map_of f g h xs (λ y i. same y (there i)))

numbers_are : (ns : List ℕ) → compact_text (numbers_data ns) ≡ numbers_json ns
numbers_are ns = list_is (map number_data ns) ∙ ap list_json (map_of number_data compact_text decimal ns (λ n i. refl))

clauses_are : (cs : List (List ℕ)) → compact_text (clauses_data cs) ≡ list_json (map numbers_json cs)
clauses_are cs = list_is (map numbers_data cs) ∙ ap list_json (map_of numbers_data compact_text numbers_json cs (λ c i. numbers_are c))

package_is : (facts : PackageFacts) → is_name facts.name ≡ true → is_version facts.version ≡ true → compact_text (package_data facts) ≡ package_json facts.name facts.version
package_is facts name version =
    list_is (string facts.name ∷ (string facts.version ∷ []))
    ∙ ap₂ (λ a b. list_json (a ∷ (b ∷ []))) (plain_quote facts.name (plain_name facts.name name)) (plain_quote facts.version (plain_version facts.version version))

-- the text of a member by its line
of_line : KernelLine → List ℕ
of_line (MemberLine name version) = package_json name version
of_line line = []

by_lines : (ms : List Member) → map member_json ms ≡ map of_line (map line_of_member ms)
unfolding of_line
by_lines [] = refl
by_lines (m ∷ ms) = ap (λ ts. member_json m ∷ ts) (by_lines ms)

packages_are : (packages : List PackageFacts) (members : List ℕ) → ((i : ℕ) → In i members → (is_name (stanza_at packages i).name ≡ true) × (is_version (stanza_at packages i).version ≡ true)) →
    compact_text (packages_data packages members) ≡ list_json (map of_line (map (λ i. line_of_package (stanza_at packages i)) members))
unfolding of_line
packages_are packages members named =
    list_is (map (λ i. package_data (stanza_at packages i)) members)
    ∙ ap list_json (map_of (λ i. package_data (stanza_at packages i)) compact_text (λ i. of_line (line_of_package (stanza_at packages i))) members
    (λ i j. let w = named i j in package_is (stanza_at packages i) w.0 w.1)
    ∙ sym (map_of (λ i. line_of_package (stanza_at packages i)) of_line (λ i. of_line (line_of_package (stanza_at packages i))) members (λ i j. refl)))

object_is : (conflicts : List ℕ) (mark : Option Bool) (packages : List PackageFacts) (members : List ℕ) (clauses : List (List ℕ)) →
    compact_text (class_data conflicts mark packages members clauses)
    ≡ object_json (compact_text (numbers_data conflicts)) mark (compact_text (packages_data packages members)) (compact_text (clauses_data clauses))
unfolding escape_byte
object_is conflicts None packages members clauses = refl
object_is conflicts (Some true) packages members clauses = refl
object_is conflicts (Some false) packages members clauses = refl

-- what is told of a class, by its flag
mark_is : (hold : Bool) (flags : List Bool) (held : List ℕ) (size n : ℕ) → TellHeld flags held size → n < size → mark_of_class hold flags n ≡ held_mark (format_of hold) held n
mark_is true flags held size n told l = ap Some (told.each n l)
mark_is false flags held size n told l = refl

at_packages : (packages : List PackageFacts) → AreNamedPackages packages → (i : ℕ) → i < length packages → (is_name (stanza_at packages i).name ≡ true) × (is_version (stanza_at packages i).version ≡ true)
at_packages packages named i l = named (stanza_at packages i) (in_at packages i l)
  where
    in_at : (xs : List PackageFacts) (i : ℕ) → i < length xs → In (stanza_at xs i) xs
    in_at [] i l = absurd (omega arith)
    in_at (x ∷ xs) zero l = here
    in_at (x ∷ xs) (suc i) l = there (in_at xs i (omega arith))

module _ (R : Repository) (packages : List PackageFacts) (class_of : List ℕ) (size : ℕ) (each : length class_of ≡ length packages)
    (inside : (class : ℕ) → In class class_of → class < size) (table : List (List ℕ)) (by_class : IsByClass class_of (length class_of) size table)
    (members : NumbersPackages table packages) (named : AreNamedPackages packages) where
  class_is : (hold : Bool) (flags : List Bool) (held : List ℕ) → TellHeld flags held size → (n : ℕ) → n < size →
      compact_text (data_of_class R packages table (mark_of_class hold flags n) n) ≡ class_json (format_of hold) R (kernel_members packages class_of size) held n
  unfolding class_json
  class_is hold flags held told n l =
      let mark : Option Bool = mark_of_class hold flags n in
      object_is (greater_conflicts R n) mark packages (listed_for table n) (clauses_of R n)
      ∙ ap₂ (λ a c. object_json a mark (compact_text (packages_data packages (listed_for table n))) c) (numbers_are (greater_conflicts R n)) (clauses_are (clauses_of R n))
      ∙ ap₂ (λ m b. object_json (numbers_json (greater_conflicts R n)) m b (list_json (map numbers_json (clauses_of R n)))) (mark_is hold flags held size n told l)
      (packages_are packages (listed_for table n) (λ i j. at_packages packages named i (members n i j))
      ∙ ap (λ ls. list_json (map of_line ls)) (sym (members_are R packages class_of size each inside table by_class n l))
      ∙ ap list_json (sym (by_lines (members_of (kernel_members packages class_of size) n))))

  pub document_is : (hold : Bool) (flags : List Bool) (held : List ℕ) → TellHeld flags held size → size ≡ length R.clauses →
      compact_text (kernel_data hold R packages table flags size) ++ codes "\n" ≡ kernel_json (format_of hold) R (kernel_members packages class_of size) held
  unfolding kernel_json escape_byte
  document_is hold flags held told count =
      let f : ℕ = format_of hold in
      ap (λ t. (codes "{\"classes\":" ++ (t ++ (codes ",\"format\":" ++ (decimal f ++ codes "}")))) ++ codes "\n")
      (list_is (map (λ n. data_of_class R packages table (mark_of_class hold flags n) n) (numbers size 0))
      ∙ ap list_json (map_of (λ n. data_of_class R packages table (mark_of_class hold flags n) n) compact_text (class_json f R (kernel_members packages class_of size) held) (numbers size 0)
      (λ n i. let b : (0 ≤ n) × (n < 0 + size) = numbers_parts size 0 n i in class_is hold flags held told n (omega arith)))
      ∙ ap (λ k. list_json (map (class_json f R (kernel_members packages class_of size) held) (numbers k 0))) count)

-- no number is a fraction
no_floats : {X : Type 0} (f : X → Data) → ((x : X) → has_float (f x) ≡ false) → (xs : List X) → items_have_float (items_of (map f xs)) ≡ false
no_floats f none [] = refl
no_floats f none (x ∷ xs) = rw (none x) (no_floats f none xs)

no_float_parts : (conflicts : List ℕ) (packages : List PackageFacts) (members : List ℕ) (clauses : List (List ℕ)) →
    (items_have_float (items_of (map number_data conflicts)) || (items_have_float (items_of (map (λ i. package_data (stanza_at packages i)) members)) || (items_have_float (items_of (map numbers_data clauses)) || false))) ≡ false
no_float_parts conflicts packages members clauses =
    ap (λ a. a || (items_have_float (items_of (map (λ i. package_data (stanza_at packages i)) members)) || (items_have_float (items_of (map numbers_data clauses)) || false))) (no_floats number_data (λ n. refl) conflicts)
    ∙ ap₂ (λ a b. a || (b || false)) (no_floats (λ i. package_data (stanza_at packages i)) (λ i. refl) members) (no_floats numbers_data (λ d. no_floats number_data (λ n. refl) d) clauses)

no_float_class : (conflicts : List ℕ) (mark : Option Bool) (packages : List PackageFacts) (members : List ℕ) (clauses : List (List ℕ)) → has_float (class_data conflicts mark packages members clauses) ≡ false
no_float_class conflicts None packages members clauses = no_float_parts conflicts packages members clauses
no_float_class conflicts (Some held) packages members clauses = no_float_parts conflicts packages members clauses

pub no_float : (hold : Bool) (R : Repository) (packages : List PackageFacts) (table : List (List ℕ)) (flags : List Bool) (size : ℕ) → has_float (kernel_data hold R packages table flags size) ≡ false
no_float hold R packages table flags size =
    ap (λ a. a || false) (no_floats (λ n. data_of_class R packages table (mark_of_class hold flags n) n)
    (λ n. no_float_class (greater_conflicts R n) (mark_of_class hold flags n) packages (listed_for table n) (clauses_of R n)) (numbers size 0))
