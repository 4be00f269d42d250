-- Which sets of classes of a kernel serve goals, and which goals are known.
use Rattle.std.proofs.Common.{◌≡◌, ℕ, ◌+◌, ◌<◌, ◌≤◌, Bool, true, false, ◌&&◌, eqb, eqb-true, eq-eqb, List, [], ◌∷◌, length, Some, None, inl, inr, refl, sym}
use Rattle.std.proofs.{Common.{subst, arith, map}, lemmas.Bool.{and_from, and_parts, both_ways, cases_Bool}}
use Rattle.std.specs.List.{list_any, position_from}
use Rattle.listed.proofs.Lists.{In_flat_cases, In_cases, In_map, In_map_cases, In_none, any_cases, any_from, filter_cases, filter_from}
use Rattle.kernel_text.specs.{declared.member.Member.{Member}, Images.{image_of, is_named_by, is_unknown, names_in_class, unknown_goal}}
use Rattle.kernel_text.specs.{KernelReads.{KernelContent}, KernelText.{IsWritable, members_of}, Serving.{HasClassFor, ImagesServe, ServesStored, images_in}}
use Rattle.repo_model.specs.declared.goals.Goal.{Goal}
use Rattle.row_book.specs.{Numbers.{numbers}, Repository.{Healthy}, Sets.{Hit, HitsAll, Is, NumSet}, Needs.{NeedsFit}}
use Rattle.listed.specs.Lists.{In}
use Rattle.row_book.proofs.Numbers.{numbers_from, numbers_parts}

-- where no goal is unknown, each names a package
named_one : (members : List Member) (goal : Goal) → is_unknown members goal ≡ false → (m : Member) × In m members × (is_named_by goal m ≡ true)
named_one members goal e = elim (cases_Bool (list_any (is_named_by goal) members)) [
  | inl t ↦ any_cases (is_named_by goal) members t
  | inr f ↦ absurd (both_ways (is_unknown members goal) e (rw f refl))
]

pub all_named : (members : List Member) (number : ℕ) (goals : List Goal) → position_from (is_unknown members) number goals ≡ None → (goal : Goal) → In goal goals → (m : Member) × In m members × (is_named_by goal m ≡ true)
all_named members number [] e goal i = absurd (In_none i)
all_named members number (g ∷ gs) e goal i = elim (cases_Bool (is_unknown members g)) [
  | inl t ↦ absurd (cc (rw t at e))
  | inr f ↦ elim (In_cases i) [
    | inl same ↦ named_one members goal (subst (λ k. is_unknown members k ≡ false) (sym same) f)
    | inr later ↦ all_named members (number + 1) gs (rw f at e) goal later
  ]
]

-- the classes that goals name are classes
pub images_fit : (members : List Member) (size : ℕ) (goals : List Goal) → NeedsFit size (map (image_of members size) goals)
unfolding image_of
images_fit members size goals c i n j =
    let w : (g : Goal) × In g goals × (c ≡ image_of members size g) = In_map_cases (image_of members size) goals c i in
    let k : In n (numbers size 0) = (filter_cases (names_in_class members w.0) (numbers size 0) n (subst (λ xs. In n xs) w.2 j)).0 in
    let b : (0 ≤ n) × (n < 0 + size) = numbers_parts size 0 n k in
    omega arith

-- the number of an unknown goal is one of a goal
unknown_within : (p : Goal → Bool) (n k : ℕ) (goals : List Goal) → position_from p n goals ≡ Some k → (n ≤ k) × (k < n + length goals)
unknown_within p n k [] e = absurd (cc e)
unknown_within p n k (g ∷ gs) e = elim (cases_Bool (p g)) [
  | inl t ↦ let same : n ≡ k = cc (rw t at e) in (omega (arith, same), omega (arith, same))
  | inr f ↦ let w : (n + 1 ≤ k) × (k < n + 1 + length gs) = unknown_within p (n + 1) k gs (rw f at e) in (omega (arith, w.0), omega (arith, w.1))
]

pub unknown_counted : (members : List Member) (goals : List Goal) (number : ℕ) → unknown_goal members goals ≡ Some number → (0 < number) × (number ≤ length goals)
unknown_counted members goals number e = let w = unknown_within (is_unknown members) 1 number goals e in (omega (arith, w.0), omega (arith, w.1))

-- a kernel that the format can write
module _ (kernel : KernelContent) (writable : IsWritable kernel.format kernel.repository kernel.members kernel.held) (goals : List Goal) where
  abbrev size : ℕ
  size = length kernel.repository.clauses

  abbrev images : List (List ℕ)
  images = images_in kernel goals

  member_inside : (m : Member) → In m kernel.members → m.class < size
  member_inside m i =
      let w : (k : ℕ) × In k (numbers size 0) × In m (members_of kernel.members k) = In_flat_cases (members_of kernel.members) (numbers size 0) m (subst (λ ms. In m ms) writable.by_class i) in
      let same : m.class ≡ w.0 = eqb-true m.class w.0 (filter_cases (λ (o : Member). eqb o.class w.0) kernel.members m w.2).1 in
      let p : (0 ≤ w.0) × (w.0 < 0 + size) = numbers_parts size 0 w.0 w.1 in
      omega (arith, same, p.1)

  -- a set has a class for a goal exactly where it hits the classes that the goal names
  class_for : (I : NumSet) (goal : Goal) → Hit (Is I) (image_of kernel.members size goal) → HasClassFor kernel.members I goal
  unfolding image_of
  class_for I goal h =
      let named : names_in_class kernel.members goal h.by ≡ true = (filter_cases (names_in_class kernel.members goal) (numbers size 0) h.by h.inside).1 in
      let w : (m : Member) × In m kernel.members × ((eqb h.by m.class && is_named_by goal m) ≡ true) = any_cases (λ (m : Member). eqb h.by m.class && is_named_by goal m) kernel.members named in
      let p : (eqb h.by w.0.class ≡ true) × (is_named_by goal w.0 ≡ true) = and_parts (eqb h.by w.0.class) (is_named_by goal w.0) w.2 in
      record { by = w.0; listed = w.1; named = p.1; alive = subst (Is I) (eqb-true h.by w.0.class p.0) h.alive }

  hit_for : (I : NumSet) (goal : Goal) → HasClassFor kernel.members I goal → Hit (Is I) (image_of kernel.members size goal)
  unfolding image_of
  hit_for I goal h =
      let l : h.by.class < size = member_inside h.by h.listed in
      record {
        by = h.by.class;
        inside =
            filter_from (names_in_class kernel.members goal) (numbers size 0) h.by.class (numbers_from size 0 h.by.class (omega arith) (omega arith))
            (any_from (λ (m : Member). eqb h.by.class m.class && is_named_by goal m) kernel.members h.by h.listed (and_from (eqb h.by.class h.by.class) (is_named_by goal h.by) (eq-eqb h.by.class h.by.class refl) h.named));
        alive = h.alive;
      }

  serves_from : (I : NumSet) → Healthy kernel.repository I → HitsAll I images → ServesStored kernel goals I
  serves_from I healthy hits = record {
    healthy = healthy;
    each = λ goal i. class_for I goal (hits (image_of kernel.members size goal) (In_map (image_of kernel.members size) goals goal i));
  }

  hits_from : (I : NumSet) → ServesStored kernel goals I → HitsAll I images
  hits_from I s c i =
      let g = In_map_cases (image_of kernel.members size) goals c i in
      subst (λ d. Hit (Is I) d) (sym g.2) (hit_for I g.0 (s.each g.0 g.1))

pub images_serve : ImagesServe
images_serve kernel writable goals I healthy = ((λ s. hits_from kernel writable goals I s), (λ hits. serves_from kernel writable goals I healthy hits))
