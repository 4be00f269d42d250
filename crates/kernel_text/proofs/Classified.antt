-- The packages of an index, class by class, are the members of a kernel that the format can write.
use Rattle.std.proofs.Common.{◌≡◌, ◌≢◌, ℕ, zero, suc, ◌+◌, ◌<◌, ◌≤◌, Bool, true, false, ◌&&◌, eqb, List, [], ◌∷◌, ◌++◌, length, filter, inl, inr, refl, sym, ap}
use Rattle.std.proofs.{Common.{ap₂, ◌∙◌, subst, eq-eqb, eqb-true, arith, length-append}, lemmas.Bool.{cases_eq, ne_eqb}, lemmas.List.{append-nil}}
use Rattle.std.proofs.{lemmas.List.Elements.{filter-append}, lemmas.Slice.Eq.{bytes_eq-Decides}}
use Rattle.std.specs.{List.{flat_map}, Ordering.{is_eq, ordering_reverse}, Str.{bytes_eq}, declared.cmp.Ordering.{Ordering}}
use Rattle.std.specs.declared.cmp.Ordering.TheVariants.{Less, Equal, Greater}
use Rattle.repo_model.specs.Limits.{most_packages}
use Rattle.listed.proofs.Lists.{In_flat_cases, flat_same, filled, In_cases, In_none, In_append_cases, filter_cases, filter_from}
use Rattle.deb_version.specs.Order.{version_order}
use Rattle.deb_version.proofs.TotalOrder.{version_total}
use Rattle.relation_fields.specs.declared.packages.PackageFacts.{PackageFacts}
use Rattle.repo_model.proofs.Accepted as index
use Rattle.row_book.specs.{Numbers.{numbers}, Repository.{Repository}}
use Rattle.listed.specs.Lists.{In, here, there}
use Rattle.row_book.proofs.Numbers.{numbers_parts}
use Rattle.kernel_text.specs.{declared.member.Member.{Member}, KernelText.{AreSingle, IsWritable, members_of}, Laws.{IsKernelOf, KernelsAreWritable}}
use Rattle.kernel_text.specs.{Members.{file_members, kernel_members, member_in}, Reading.{IsNamed, is_same_member, number_limit}}
use Rattle.kernel_text.proofs.Blocks.{filter_all, filter_none}

-- of the members of a class those of one class: all or none
own_members : (ms : List Member) (n : ℕ) → members_of (members_of ms n) n ≡ members_of ms n
own_members ms n = filter_all (λ (m : Member). m.class) n (members_of ms n) (λ m i. eqb-true m.class n (filter_cases (λ (o : Member). eqb o.class n) ms m i).1)

other_members : (ms : List Member) (k n : ℕ) → k ≢ n → members_of (members_of ms k) n ≡ []
other_members ms k n ne =
    filter_none (λ (m : Member). m.class) n (members_of ms k) (λ m i e. ne (sym (eqb-true m.class k (filter_cases (λ (o : Member). eqb o.class k) ms m i).1) ∙ e))

-- the members of the classes from k on
abbrev pub by_classes : List Member → ℕ → ℕ → List Member
by_classes ms j k = flat_map (members_of ms) (numbers j k)

members_append : (xs ys : List Member) (n : ℕ) → members_of (xs ++ ys) n ≡ members_of xs n ++ members_of ys n
members_append xs ys n = filter-append (λ (m : Member). eqb m.class n) xs ys

none_of_class : (ms : List Member) (j k n : ℕ) → n < k → members_of (by_classes ms j k) n ≡ []
unfolding numbers
none_of_class ms zero k n l = refl
none_of_class ms (suc j) k n l =
    members_append (members_of ms k) (by_classes ms j (suc k)) n
    ∙ ap₂ (λ xs ys. xs ++ ys) (other_members ms k n (λ e. absurd (omega (arith, e)))) (none_of_class ms j (suc k) n (omega arith))

pub all_of_class : (ms : List Member) (j k n : ℕ) → k ≤ n → n < k + j → members_of (by_classes ms j k) n ≡ members_of ms n
unfolding numbers
all_of_class ms zero k n l u = absurd (omega arith)
all_of_class ms (suc j) k n l u =
    members_append (members_of ms k) (by_classes ms j (suc k)) n
    ∙ elim (cases_eq k n) [
      | inl e ↦
          ap₂ (λ xs ys. xs ++ ys) (subst (λ m. members_of (members_of ms k) m ≡ members_of ms m) e (own_members ms k)) (none_of_class ms j (suc k) n (omega (arith, e)))
          ∙ append-nil (members_of ms n)
      | inr ne ↦ ap₂ (λ xs ys. xs ++ ys) (other_members ms k n ne) (all_of_class ms j (suc k) n (omega (arith, ne)) (omega arith))
    ]

-- class by class the members are as many as in file order
none_counted : (m : Member) (ms : List Member) (j k : ℕ) → m.class < k → by_classes (m ∷ ms) j k ≡ by_classes ms j k
unfolding numbers
none_counted m ms zero k l = refl
none_counted m ms (suc j) k l = rw (ne_eqb m.class k (λ e. absurd (omega (arith, e)))) (ap (λ xs. members_of ms k ++ xs) (none_counted m ms j (suc k) (omega arith)))

one_counted : (m : Member) (ms : List Member) (j k : ℕ) → k ≤ m.class → m.class < k + j → length (by_classes (m ∷ ms) j k) ≡ suc (length (by_classes ms j k))
unfolding numbers
one_counted m ms zero k l u = absurd (omega arith)
one_counted m ms (suc j) k l u =
    elim (cases_eq m.class k) [
      | inl e ↦ rw (eq-eqb m.class k e) (ap (λ xs. suc (length (members_of ms k ++ xs))) (none_counted m ms j (suc k) (omega (arith, e))))
      | inr ne ↦
          rw (ne_eqb m.class k ne)
          (length-append (members_of ms k) (by_classes (m ∷ ms) j (suc k)) ∙ ap (λ n. length (members_of ms k) + n) (one_counted m ms j (suc k) (omega (arith, ne)) (omega arith))
          ∙ added (length (members_of ms k)) (length (by_classes ms j (suc k))) ∙ ap suc (sym (length-append (members_of ms k) (by_classes ms j (suc k)))))
    ]
  where
    added : (a b : ℕ) → a + suc b ≡ suc (a + b)
    added a b = omega arith

none_at_all : (j k : ℕ) → by_classes [] j k ≡ []
unfolding numbers
none_at_all zero k = refl
none_at_all (suc j) k = none_at_all j (suc k)

pub all_counted : (ms : List Member) (size : ℕ) → ((m : Member) → In m ms → m.class < size) → length (by_classes ms size 0) ≡ length ms
all_counted [] size h = ap length (none_at_all size 0)
all_counted (m ∷ ms) size h =
    let l : m.class < size = h m here in
    one_counted m ms size 0 (omega arith) (omega arith) ∙ ap suc (all_counted ms size (λ o i. h o (there i)))

-- a package is the same as another either way round
same_either_way : (m o : Member) → is_same_member m o ≡ is_same_member o m
same_either_way m o =
    ap₂ (λ x y. x && y) (texts m.name o.name (bytes_eq m.name o.name) (bytes_eq o.name m.name) refl refl)
    (ap is_eq (version_total.antisymm m.version o.version) ∙ turned (version_order o.version m.version))
  where
    turned : (o : Ordering) → is_eq (ordering_reverse o) ≡ is_eq o
    turned Less = refl
    turned Equal = refl
    turned Greater = refl

    texts : (a b : List ℕ) (p q : Bool) → bytes_eq a b ≡ p → bytes_eq b a ≡ q → p ≡ q
    texts a b true true e f = refl
    texts a b false false e f = refl
    texts a b true false e f = sym ((bytes_eq-Decides b a).1 (sym ((bytes_eq-Decides a b).0 e))) ∙ f
    texts a b false true e f = sym e ∙ (bytes_eq-Decides a b).1 (sym ((bytes_eq-Decides b a).0 f))

-- members of two classes are two packages
two_classes : (ms : List Member) → AreSingle ms → (x y : Member) → In x ms → In y ms → x.class ≢ y.class → is_same_member y x ≡ false
two_classes [] s x y i j ne = absurd (In_none i)
two_classes (m ∷ ms) s x y i j ne =
    elim (In_cases i) [
      | inl e ↦ elim (In_cases j) [
        | inl f ↦ absurd (ne (ap (λ (o : Member). o.class) (e ∙ sym f)))
        | inr k ↦ subst (λ o. is_same_member y o ≡ false) (sym e) (s.0 y k)
      ]
      | inr k ↦ elim (In_cases j) [
        | inl f ↦ subst (λ o. is_same_member o x ≡ false) (sym f) (same_either_way m x ∙ s.0 x k)
        | inr l ↦ two_classes ms s.1 x y k l ne
      ]
    ]

single_filter : (p : Member → Bool) (ms : List Member) → AreSingle ms → AreSingle (filter p ms)
single_filter p [] s = tt
single_filter p (m ∷ ms) s = by_test (p m) refl (single_filter p ms s.1)
  where
    by_test : (t : Bool) → p m ≡ t → AreSingle (filter p ms) → AreSingle (filter p (m ∷ ms))
    by_test true e more = rw e ((λ o i. s.0 o (filter_cases p ms o i).0), more)
    by_test false e more = rw e more

single_append : (xs ys : List Member) → AreSingle xs → AreSingle ys → ((x y : Member) → In x xs → In y ys → is_same_member y x ≡ false) → AreSingle (xs ++ ys)
single_append [] ys s t h = t
single_append (x ∷ xs) ys s t h = (
  (λ o i. elim (In_append_cases xs ys o i) [ inl j ↦ s.0 o j | inr j ↦ h x o here j ]),
  single_append xs ys s.1 t (λ a b i j. h a b (there i) j),
)

-- a member of the classes from k on
pub record IsFrom (ms : List Member) (k : ℕ) (m : Member) : Type 0 where
  pub inside : In m ms
  pub above : k ≤ m.class

pub member_from : (ms : List Member) (j k : ℕ) (m : Member) → In m (by_classes ms j k) → IsFrom ms k m
member_from ms j k m i =
    let w : (n : ℕ) × In n (numbers j k) × In m (members_of ms n) = In_flat_cases (members_of ms) (numbers j k) m i in
    let v : In m ms × (eqb m.class w.0 ≡ true) = filter_cases (λ (o : Member). eqb o.class w.0) ms m w.2 in
    let e : m.class ≡ w.0 = eqb-true m.class w.0 v.1 in
    let b : k ≤ w.0 = (numbers_parts j k w.0 w.1).0 in
    record { inside = v.0; above = omega arith }

single_by_classes : (ms : List Member) → AreSingle ms → (j k : ℕ) → AreSingle (by_classes ms j k)
unfolding numbers
single_by_classes ms s zero k = tt
single_by_classes ms s (suc j) k =
    single_append (members_of ms k) (by_classes ms j (suc k)) (single_filter (λ m. eqb m.class k) ms s) (single_by_classes ms s j (suc k))
    (λ x y i l.
    let v : In x ms × (eqb x.class k ≡ true) = filter_cases (λ (o : Member). eqb o.class k) ms x i in
    let w : IsFrom ms (suc k) y = member_from ms j (suc k) y l in
    let e : x.class ≡ k = eqb-true x.class k v.1 in
    let b : suc k ≤ y.class = w.above in
    two_classes ms s x y v.0 w.inside (λ f. absurd (omega (arith, e, b, f))))

-- the members in file order
pub length_file : (packages : List PackageFacts) (class_of : List ℕ) → length class_of ≡ length packages → length (file_members packages class_of) ≡ length packages
length_file [] class_of e = refl
length_file (facts ∷ packages) [] e = absurd (omega (arith, e))
length_file (facts ∷ packages) (c ∷ class_of) e = ap suc (length_file packages class_of (omega (arith, e)))

-- a member is of a class of the list, and has the name and the version of a package
pub record IsMemberOf (packages : List PackageFacts) (class_of : List ℕ) (m : Member) : Type 0 where
  pub class : In m.class class_of
  pub facts : PackageFacts
  pub inside : In facts packages
  pub is : m ≡ member_in m.class facts

pub file_member : (packages : List PackageFacts) (class_of : List ℕ) (m : Member) → In m (file_members packages class_of) → IsMemberOf packages class_of m
file_member [] class_of m i = absurd (In_none i)
file_member (facts ∷ packages) [] m i = absurd (In_none i)
file_member (facts ∷ packages) (c ∷ class_of) m i =
    elim (In_cases i) [
      | inl e ↦
          let own : m.class ≡ c = ap (λ (o : Member). o.class) e in
          record { class = subst (λ k. In k (c ∷ class_of)) (sym own) here; facts = facts; inside = here; is = e ∙ ap (λ k. member_in k facts) (sym own) }
      | inr j ↦ let w : IsMemberOf packages class_of m = file_member packages class_of m j in record { class = there w.class; facts = w.facts; inside = there w.inside; is = w.is }
    ]

-- each class of the list has a member
class_member : (packages : List PackageFacts) (class_of : List ℕ) → length class_of ≡ length packages → (c : ℕ) → In c class_of → (m : Member) × In m (file_members packages class_of) × (m.class ≡ c)
class_member [] [] e c i = absurd (In_none i)
class_member [] (d ∷ class_of) e c i = absurd (omega (arith, e))
class_member (facts ∷ packages) [] e c i = absurd (In_none i)
class_member (facts ∷ packages) (d ∷ class_of) e c i =
    elim (In_cases i) [
      | inl f ↦ (member_in d facts, here, sym f)
      | inr j ↦ let w : (m : Member) × In m (file_members packages class_of) × (m.class ≡ c) = class_member packages class_of (omega (arith, e)) c j in (w.0, there w.1, w.2)
    ]

file_single : (packages : List PackageFacts) (class_of : List ℕ) → index.AreSingle packages → AreSingle (file_members packages class_of)
file_single [] class_of s = tt
file_single (facts ∷ packages) [] s = tt
file_single (facts ∷ packages) (c ∷ class_of) s = (
  (λ o i.
      let w : IsMemberOf packages class_of o = file_member packages class_of o i in
      subst (λ m. is_same_member m (member_in c facts) ≡ false) (sym w.is) (s.0 w.facts w.inside)),
  file_single packages class_of s.1,
)

module _ (format : ℕ) (R : Repository) (packages : List PackageFacts) (class_of held : List ℕ) (kernel : IsKernelOf format R packages class_of held) where
  abbrev size : ℕ
  size = length R.clauses

  abbrev ms : List Member
  ms = file_members packages class_of

  members_are : (n : ℕ) → n < size → members_of (by_classes ms size 0) n ≡ members_of ms n
  members_are n l = all_of_class ms size 0 n (omega arith) (omega arith)

  by_class : by_classes ms size 0 ≡ flat_map (members_of (by_classes ms size 0)) (numbers size 0)
  by_class =
      flat_same (members_of ms) (members_of (by_classes ms size 0)) (numbers size 0)
      (λ n i. let b : (0 ≤ n) × (n < 0 + size) = numbers_parts size 0 n i in sym (members_are n (omega arith)))

  populated : (n : ℕ) → n < size → 0 < length (members_of (by_classes ms size 0) n)
  populated n l =
      let w : (m : Member) × In m ms × (m.class ≡ n) = class_member packages class_of kernel.each n (kernel.populated n l) in
      subst (λ xs. 0 < length xs) (sym (members_are n l)) (filled (members_of ms n) w.0 (filter_from (λ (m : Member). eqb m.class n) ms w.0 w.1 (eq-eqb w.0.class n w.2)))

  few_members : length (by_classes ms size 0) < number_limit
  unfolding number_limit
  few_members =
      let few : length packages ≤ most_packages = kernel.accepted.few in
      let counted : length (by_classes ms size 0) ≡ length ms = all_counted ms size (λ m i. kernel.inside m.class (file_member packages class_of m i).class) in
      let read : length ms ≡ length packages = length_file packages class_of kernel.each in
      omega arith

  named : (m : Member) → In m (by_classes ms size 0) → IsNamed m.name m.version
  named m i =
      let w : IsMemberOf packages class_of m = file_member packages class_of m (member_from ms size 0 m i).inside in
      let own = kernel.accepted.named w.facts w.inside in
      subst (λ (o : Member). IsNamed o.name o.version) (sym w.is) (own.name, own.version)

  writable : IsWritable format R (kernel_members packages class_of size) held
  unfolding kernel_members
  writable = record {
    few_classes = kernel.few_classes;
    few_members = few_members;
    by_class = by_class;
    populated = populated;
    named = named;
    single = single_by_classes ms (file_single packages class_of kernel.accepted.single) size 0;
    order = kernel.order;
    apart = kernel.apart;
    sound = kernel.sound;
    fits = kernel.fits;
  }

pub kernels_are_writable : KernelsAreWritable
kernels_are_writable format R packages class_of held kernel = writable format R packages class_of held kernel
