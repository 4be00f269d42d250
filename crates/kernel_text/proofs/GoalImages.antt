-- The classes that goals name, goal by goal.
use Rattle.std.proofs.Common.{◌≡◌, ℕ, zero, suc, ◌+◌, ◌<◌, Bool, true, false, not, ◌&&◌, ◌==◌, eqb, eqb-true, eq-eqb, List, [], ◌∷◌, ◌++◌, length, map, filter}
use Rattle.std.proofs.{Common.{take, drop, get_or, Option, Some, None, inl, inr, refl, sym, ap, ap₂, ◌∙◌, subst, cond, zero-add, arith}, Math.Bool.{and-true}}
use Rattle.std.proofs.{Math.Seq.{drop-cons}, lemmas.Bool.{and_from, and_parts, false≢true, false_from_ne_true, not_from_false}}
use Rattle.std.proofs.lemmas.List.{map-append, take_more}
use Rattle.std.specs.{Prelude.{◌↔◌, slice_get}, Option.{option_map_or}, List.{list_any, position_from}, Ordering.{is_eq}, Str.{bytes_eq}}
use Rattle.deb_version.specs.Order.{version_order}
use Rattle.listed.specs.Lists.{Ascending, Inside, In, has, here, there}
use Rattle.row_book.specs.Numbers.{numbers}
use Rattle.listed.proofs.{Bools.{same_bool}, Lists.{In_cases, In_map, In_map_cases, In_has, In_none, any_cases, any_from, filter_cases, filter_from, has_In}}
use Rattle.listed.proofs.Orders.{ascending_filter, ascending_same}
use Rattle.row_book.proofs.Numbers.{numbers_ascending, numbers_from as number_in}
use Rattle.repo_model.specs.declared.goals.Goal.{Goal}
use Rattle.package_register.specs.{Numbers.{if_so, numbers_from, numbers_where, passes_at}, Registers.{has_name, is_version_of}}
use Rattle.package_register.proofs.Numbered.{numbered_pass, numbers_from-cons, passing_numbered}
use Rattle.kernel_text.specs.{declared.member.Member.{Member}, Images.{class_at, image_of, is_named_by, is_named_in, is_unknown, names_in_class, unknown_goal}}

-- items by their numbers
pub got_in : {X : Type 0} (items : List X) (i : ℕ) (x : X) → slice_get items i ≡ Some x → In x items
got_in [] i x e = absurd (let f : ⊥ = cc in f)
got_in (y ∷ items) zero x e = let same : x ≡ y = cc in subst (λ z. In x (z ∷ items)) same here
got_in (y ∷ items) (suc i) x e = there (got_in items i x e)

pub in_got : {X : Type 0} (items : List X) (x : X) → In x items → (i : ℕ) × (slice_get items i ≡ Some x)
in_got [] x j = absurd (In_none j)
in_got (y ∷ items) x j =
    elim (In_cases j) [
      | inl e ↦ (0, ap (λ z. Some z) (sym e))
      | inr k ↦ let w : (i : ℕ) × (slice_get items i ≡ Some x) = in_got items x k in (suc w.0, w.1)
    ]

-- the classes are those with a package that the goal names
abbrev pub AreClasses : List Member → Goal → List ℕ → Type 0
AreClasses members goal classes = (n : ℕ) → has classes n ≡ names_in_class members goal n

module _ (members : List Member) (goal : Goal) where
  member_at : (i : ℕ) → passes_at (is_named_by goal) members i ≡ true → (m : Member) × In m members × (is_named_by goal m ≡ true) × (class_at members i ≡ m.class)
  member_at i = by (slice_get members i) refl
    where
      by : (found : Option Member) → slice_get members i ≡ found → option_map_or (is_named_by goal) found false ≡ true → (m : Member) × In m members × (is_named_by goal m ≡ true) × (class_at members i ≡ m.class)
      by None e h = absurd (false≢true h)
      by (Some m) e h = (m, got_in members i m e, h, ap (λ found. option_map_or (λ m. m.class) found 0) e)

  -- as the classes of the members that it names are
  pub classes_named : (classes : List ℕ) → classes ≡ map (class_at members) (numbers_where (is_named_by goal) members) → AreClasses members goal classes
  classes_named classes are n =
      let all = numbers_where (is_named_by goal) members in
      let to : has (map (class_at members) all) n ≡ true → names_in_class members goal n ≡ true = λ h.
      let w : (k : ℕ) × In k all × (n ≡ class_at members k) = In_map_cases (class_at members) all n (has_In (map (class_at members) all) n h) in
      let p : (i : ℕ) × (w.0 ≡ 0 + i) × (passes_at (is_named_by goal) members i ≡ true) = numbered_pass (is_named_by goal) 0 members w.0 w.1 in
      let m : (m : Member) × In m members × (is_named_by goal m ≡ true) × (class_at members p.0 ≡ m.class) = member_at p.0 p.2 in
      let class : n ≡ m.0.class = w.2 ∙ ap (class_at members) (p.1 ∙ zero-add p.0) ∙ m.3 in
      any_from (is_named_in goal n) members m.0 m.1 (and_from (eqb n m.0.class) (is_named_by goal m.0) (eq-eqb n m.0.class class) m.2) in
      let back : names_in_class members goal n ≡ true → has (map (class_at members) all) n ≡ true = λ h.
      let w : (m : Member) × In m members × (is_named_in goal n m ≡ true) = any_cases (is_named_in goal n) members h in
      let at : (i : ℕ) × (slice_get members i ≡ Some w.0) = in_got members w.0 w.1 in
      let passes : passes_at (is_named_by goal) members at.0 ≡ true = ap (λ found. option_map_or (is_named_by goal) found false) at.1 ∙ (and_parts _ _ w.2).1 in
      let i : In at.0 all = subst (λ k. In k all) (zero-add at.0) (passing_numbered (is_named_by goal) 0 members at.0 passes) in
      let class : class_at members at.0 ≡ n = ap (λ found. option_map_or (λ m. m.class) found 0) at.1 ∙ sym (eqb-true n w.0.class (and_parts _ _ w.2).0) in
      In_has (subst (λ k. In k (map (class_at members) all)) class (In_map (class_at members) all at.0 i)) in
      ap (λ cs. has cs n) are ∙ same_bool _ _ to back

-- as the tests are the same, so are the numbers
numbers_same : {X : Type 0} (p q : X → Bool) → ((x : X) → p x ≡ q x) → (n : ℕ) (xs : List X) → numbers_from n p xs ≡ numbers_from n q xs
numbers_same p q same n [] = refl
numbers_same p q same n (x ∷ xs) = numbers_from-cons p n x xs ∙ ap₂ (λ b ns. if_so b n ++ ns) (same x) (numbers_same p q same (n + 1) xs) ∙ sym (numbers_from-cons q n x xs)

-- the members that a goal names, by whether it asks for a version
module _ (members : List Member) (goal : Goal) (name : List ℕ) (is : name ≡ goal.name) where
  pub of_version : (version : List ℕ) → goal.version ≡ Some version → numbers_where (is_version_of (λ m. m.name) (λ m. m.version) name version) members ≡ numbers_where (is_named_by goal) members
  of_version version asked =
      numbers_same (is_version_of (λ m. m.name) (λ m. m.version) name version) (is_named_by goal)
      (λ m. ap (λ n. bytes_eq n m.name && is_eq (version_order m.version version)) is
      ∙ ap (λ v. bytes_eq goal.name m.name && option_map_or (λ w. is_eq (version_order m.version w)) v true) (sym asked)) 0 members

  pub of_any : goal.version ≡ None → numbers_where (has_name (λ m. m.name) name) members ≡ numbers_where (is_named_by goal) members
  of_any asked =
      numbers_same (has_name (λ m. m.name) name) (is_named_by goal)
      (λ m. ap (λ n. bytes_eq n m.name) is ∙ sym (and-true (bytes_eq goal.name m.name))
      ∙ ap (λ v. bytes_eq goal.name m.name && option_map_or (λ w. is_eq (version_order m.version w)) v true) (sym asked)) 0 members

-- in their order, each once, they are the image
pub image_is : (members : List Member) (size : ℕ) (goal : Goal) (classes image : List ℕ) → ((m : Member) → In m members → m.class < size) → AreClasses members goal classes → Ascending image →
    ((n : ℕ) → In n image ↔ In n classes) → image ≡ image_of members size goal
unfolding image_of
image_is members size goal classes image inside are ascending same =
    let all = filter (names_in_class members goal) (numbers size 0) in
    let to : Inside image all = λ n i.
    let h : names_in_class members goal n ≡ true = sym (are n) ∙ In_has ((same n).0 i) in
    let w : (m : Member) × In m members × (is_named_in goal n m ≡ true) = any_cases (is_named_in goal n) members h in
    let e : n ≡ w.0.class = eqb-true n w.0.class (and_parts _ _ w.2).0 in
    let l : w.0.class < size = inside w.0 w.1 in
    filter_from (names_in_class members goal) (numbers size 0) n (number_in size 0 n (omega arith) (omega (arith, e, l))) h in
    let back : Inside all image = λ n i. (same n).1 (has_In classes n (are n ∙ (filter_cases (names_in_class members goal) (numbers size 0) n i).1)) in
    ascending_same image all ascending (ascending_filter (names_in_class members goal) (numbers size 0) (numbers_ascending size 0)) to back

pub some_there : (xs : List ℕ) → (length xs == 0) ≡ false → 0 < length xs
some_there [] e = absurd (false≢true (sym e))
some_there (x ∷ xs) e = omega arith

-- goal by goal
module _ (members : List Member) (size : ℕ) (inside : (m : Member) → In m members → m.class < size) where
  pub image_ascending : (goal : Goal) → Ascending (image_of members size goal)
  unfolding image_of
  image_ascending goal = ascending_filter (names_in_class members goal) (numbers size 0) (numbers_ascending size 0)

  -- a goal names a package exactly where it has a class
  named_image : (goal : Goal) → list_any (is_named_by goal) members ≡ true → image_of members size goal ≡ [] → ⊥
  unfolding image_of
  named_image goal some none =
      let w : (m : Member) × In m members × (is_named_by goal m ≡ true) = any_cases (is_named_by goal) members some in
      let l : w.0.class < size = inside w.0 w.1 in
      let has : names_in_class members goal w.0.class ≡ true =
      any_from (λ (x : Member). eqb w.0.class x.class && is_named_by goal x) members w.0 w.1 (and_from (eqb w.0.class w.0.class) (is_named_by goal w.0) (eq-eqb w.0.class w.0.class refl) w.2) in
      let i : In w.0.class (image_of members size goal) = filter_from (names_in_class members goal) (numbers size 0) w.0.class (number_in size 0 w.0.class (omega arith) (omega arith)) has in
      In_none (subst (λ xs. In w.0.class xs) none i)

  pub no_image : (goal : Goal) → image_of members size goal ≡ [] → is_unknown members goal ≡ true
  no_image goal none = not_from_false (list_any (is_named_by goal) members) (false_from_ne_true (list_any (is_named_by goal) members) (λ some. named_image goal some none))

  image_named : (goal : Goal) (n : ℕ) → In n (image_of members size goal) → list_any (is_named_by goal) members ≡ true
  unfolding image_of
  image_named goal n i =
      let has : names_in_class members goal n ≡ true = (filter_cases (names_in_class members goal) (numbers size 0) n i).1 in
      let w : (m : Member) × In m members × ((eqb n m.class && is_named_by goal m) ≡ true) = any_cases (λ (x : Member). eqb n x.class && is_named_by goal x) members has in
      any_from (is_named_by goal) members w.0 w.1 (and_parts (eqb n w.0.class) (is_named_by goal w.0) w.2).1

  pub some_image : (goal : Goal) → 0 < length (image_of members size goal) → is_unknown members goal ≡ false
  some_image goal some = by (image_of members size goal) refl
    where
      by : (image : List ℕ) → image_of members size goal ≡ image → is_unknown members goal ≡ false
      by [] e = absurd (let l : length (image_of members size goal) ≡ 0 = ap length e in omega arith)
      by (n ∷ ns) e = ap not (image_named goal n (subst (λ xs. In n xs) (sym e) here))

-- the first unknown goal is not among those that were looked at
abbrev pub IsAhead : List Member → List Goal → ℕ → Type 0
IsAhead members goals place = unknown_goal members goals ≡ position_from (is_unknown members) (place + 1) (drop place goals)

at_front : (goals : List Goal) (i : ℕ) (g : Goal) → i < length goals → g ≡ get_or goals i g → drop i goals ≡ g ∷ drop (i + 1) goals
at_front goals i g l is = drop-cons goals i g l ∙ ap₂ (λ x n. x ∷ drop n goals) (sym is) (let e : suc i ≡ i + 1 = omega arith in e)

module _ (members : List Member) (goals : List Goal) (i : ℕ) (g : Goal) (l : i < length goals) (is : g ≡ get_or goals i g) (ahead : IsAhead members goals i) where
  opened : unknown_goal members goals ≡ cond (is_unknown members g) (Some (i + 1)) (position_from (is_unknown members) (i + 1 + 1) (drop (i + 1) goals))
  opened = ahead ∙ ap (position_from (is_unknown members) (i + 1)) (at_front goals i g l is)

  pub known_goal : is_unknown members g ≡ false → IsAhead members goals (i + 1)
  known_goal e = opened ∙ ap (λ b. cond b (Some (i + 1)) (position_from (is_unknown members) (i + 1 + 1) (drop (i + 1) goals))) e

  pub found_unknown : is_unknown members g ≡ true → unknown_goal members goals ≡ Some (i + 1)
  found_unknown e = opened ∙ ap (λ b. cond b (Some (i + 1)) (position_from (is_unknown members) (i + 1 + 1) (drop (i + 1) goals))) e

pub one_image : (members : List Member) (size : ℕ) (goals : List Goal) (i : ℕ) (g : Goal) (needs new : List (List ℕ)) (image : List ℕ) → i < length goals → g ≡ get_or goals i g →
    needs ≡ map (image_of members size) (take i goals) → image ≡ image_of members size g → new ≡ needs ++ image ∷ [] → new ≡ map (image_of members size) (take (i + 1) goals)
one_image members size goals i g needs new image l is sofar made pushed =
    pushed ∙ ap₂ (λ xs x. xs ++ x ∷ []) sofar (made ∙ ap (image_of members size) is)
    ∙ sym (ap (map (image_of members size)) (take_more goals i g l) ∙ map-append (image_of members size) (take i goals) (get_or goals i g ∷ []))
