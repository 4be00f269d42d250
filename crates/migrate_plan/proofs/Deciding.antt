-- The tests of what packages say decide whether it is equal.
use Rattle.std.proofs.{Common.{◌≡◌, ℕ, Bool, true, List, Option, Some, None, refl, ap, ◌∙◌}, lemmas.Bool.{and_from, and_parts, false≢true}}
use Rattle.std.proofs.{lemmas.Bool.Decides.{Decides-eqb}, lemmas.Slice.Eq.{bytes_eq-Decides}}
use Rattle.std.specs.{Prelude.{◌&&◌, ◌==◌}, Bool.{Decides}, Cmp.Lexicographic.{pointwise, pointwise_decides}, Option.{option_eq}, Str.{bytes_eq}}
use Rattle.relation_fields.specs.{declared.relations.Atom.{Atom}, declared.relations.Bound.{Bound}, declared.relations.Op.{Op}}
use Rattle.relation_fields.specs.{declared.relations.Op.TheVariants.{Earlier, EarlierEqual, Exactly, LaterEqual, Later}, declared.relations.Provide.{Provide}}
use Rattle.migrate_plan.specs.{Differing.{is_same_atom, is_same_bound, is_same_provide, op_place, says_same}, Laws.{TestIsEquality}}

op_same : (a b : Op) → (op_place a == op_place b) ≡ true → a ≡ b
op_same Earlier Earlier h = refl
op_same EarlierEqual EarlierEqual h = refl
op_same Exactly Exactly h = refl
op_same LaterEqual LaterEqual h = refl
op_same Later Later h = refl
op_same a b h = absurd (false≢true h)

op_decides : (a b : Op) → Decides (op_place a == op_place b) (a ≡ b)
op_decides a b = (op_same a b, λ e. (Decides-eqb (op_place a) (op_place b)).1 (ap op_place e))

option_decides : {A : Type 0} (E : A → A → Bool) → ((a b : A) → Decides (E a b) (a ≡ b)) → (x y : Option A) → Decides (option_eq E x y) (x ≡ y)
option_decides E decides None None = (λ h. refl, λ e. refl)
option_decides E decides None (Some y) = (λ h. absurd (false≢true h), λ e. cc)
option_decides E decides (Some x) None = (λ h. absurd (false≢true h), λ e. cc)
option_decides E decides (Some x) (Some y) = (λ h. ap Some ((decides x y).0 h), λ e. let same : x ≡ y = cc in (decides x y).1 same)

bound_decides : (x y : Bound) → Decides (is_same_bound x y) (x ≡ y)
bound_decides x y = (
  (λ h.
      let parts = and_parts (op_place x.op == op_place y.op) (bytes_eq x.version y.version) h in
      let first : x ≡ record { op = y.op; version = x.version } = ap (λ op. record { op = op; version = x.version }) (op_same x.op y.op parts.0) in
      first ∙ ap (λ version. record { op = y.op; version = version }) ((bytes_eq-Decides x.version y.version).0 parts.1)),
  (λ e. and_from (op_place x.op == op_place y.op) (bytes_eq x.version y.version) ((op_decides x.op y.op).1 (ap (λ b. b.op) e)) ((bytes_eq-Decides x.version y.version).1 (ap (λ b. b.version) e))),
)

qualifier_decides : (x y : Option (List ℕ)) → Decides (option_eq bytes_eq x y) (x ≡ y)
qualifier_decides = option_decides bytes_eq bytes_eq-Decides

atom_decides : (x y : Atom) → Decides (is_same_atom x y) (x ≡ y)
atom_decides x y = (
  (λ h.
      let parts = and_parts (bytes_eq x.name y.name) (option_eq bytes_eq x.qualifier y.qualifier && option_eq is_same_bound x.bound y.bound) h in
      let rest = and_parts (option_eq bytes_eq x.qualifier y.qualifier) (option_eq is_same_bound x.bound y.bound) parts.1 in
      let first : x ≡ record { name = y.name; qualifier = x.qualifier; bound = x.bound } = ap (λ name. record { name = name; qualifier = x.qualifier; bound = x.bound }) ((bytes_eq-Decides x.name y.name).0 parts.0) in
      let second : record { name = y.name; qualifier = x.qualifier; bound = x.bound } ≡ record { name = y.name; qualifier = y.qualifier; bound = x.bound } =
      ap (λ qualifier. record { name = y.name; qualifier = qualifier; bound = x.bound }) ((qualifier_decides x.qualifier y.qualifier).0 rest.0) in
      first ∙ second ∙ ap (λ bound. record { name = y.name; qualifier = y.qualifier; bound = bound }) ((option_decides is_same_bound bound_decides x.bound y.bound).0 rest.1)),
  (λ e.
      and_from (bytes_eq x.name y.name) (option_eq bytes_eq x.qualifier y.qualifier && option_eq is_same_bound x.bound y.bound) ((bytes_eq-Decides x.name y.name).1 (ap (λ a. a.name) e))
      (and_from (option_eq bytes_eq x.qualifier y.qualifier) (option_eq is_same_bound x.bound y.bound) ((qualifier_decides x.qualifier y.qualifier).1 (ap (λ a. a.qualifier) e))
      ((option_decides is_same_bound bound_decides x.bound y.bound).1 (ap (λ a. a.bound) e)))),
)

provide_decides : (x y : Provide) → Decides (is_same_provide x y) (x ≡ y)
provide_decides x y = (
  (λ h.
      let parts = and_parts (bytes_eq x.name y.name) (option_eq bytes_eq x.qualifier y.qualifier && option_eq bytes_eq x.version y.version) h in
      let rest = and_parts (option_eq bytes_eq x.qualifier y.qualifier) (option_eq bytes_eq x.version y.version) parts.1 in
      let first : x ≡ record { name = y.name; qualifier = x.qualifier; version = x.version } = ap (λ name. record { name = name; qualifier = x.qualifier; version = x.version }) ((bytes_eq-Decides x.name y.name).0 parts.0) in
      let second : record { name = y.name; qualifier = x.qualifier; version = x.version } ≡ record { name = y.name; qualifier = y.qualifier; version = x.version } =
      ap (λ qualifier. record { name = y.name; qualifier = qualifier; version = x.version }) ((qualifier_decides x.qualifier y.qualifier).0 rest.0) in
      first ∙ second ∙ ap (λ version. record { name = y.name; qualifier = y.qualifier; version = version }) ((qualifier_decides x.version y.version).0 rest.1)),
  (λ e.
      and_from (bytes_eq x.name y.name) (option_eq bytes_eq x.qualifier y.qualifier && option_eq bytes_eq x.version y.version) ((bytes_eq-Decides x.name y.name).1 (ap (λ a. a.name) e))
      (and_from (option_eq bytes_eq x.qualifier y.qualifier) (option_eq bytes_eq x.version y.version) ((qualifier_decides x.qualifier y.qualifier).1 (ap (λ a. a.qualifier) e))
      ((qualifier_decides x.version y.version).1 (ap (λ a. a.version) e)))),
)

pub test_is_equality : TestIsEquality
unfolding says_same
test_is_equality one other =
    let needs = pointwise_decides (pointwise_decides atom_decides) one.needs other.needs in
    let against = pointwise_decides atom_decides one.against other.against in
    let provides = pointwise_decides provide_decides one.provides other.provides in (
      (λ h.
          let a = and_parts (bytes_eq one.version other.version) (pointwise (pointwise is_same_atom) one.needs other.needs && (pointwise is_same_atom one.against other.against && pointwise is_same_provide one.provides other.provides)) h in
          let b = and_parts (pointwise (pointwise is_same_atom) one.needs other.needs) (pointwise is_same_atom one.against other.against && pointwise is_same_provide one.provides other.provides) a.1 in
          let d = and_parts (pointwise is_same_atom one.against other.against) (pointwise is_same_provide one.provides other.provides) b.1 in
          record { version = (bytes_eq-Decides one.version other.version).0 a.0; needs = needs.0 b.0; against = against.0 d.0; provides = provides.0 d.1 }),
      (λ s.
          and_from (bytes_eq one.version other.version) (pointwise (pointwise is_same_atom) one.needs other.needs && (pointwise is_same_atom one.against other.against && pointwise is_same_provide one.provides other.provides))
          ((bytes_eq-Decides one.version other.version).1 s.version)
          (and_from (pointwise (pointwise is_same_atom) one.needs other.needs) (pointwise is_same_atom one.against other.against && pointwise is_same_provide one.provides other.provides) (needs.1 s.needs)
          (and_from (pointwise is_same_atom one.against other.against) (pointwise is_same_provide one.provides other.provides) (against.1 s.against) (provides.1 s.provides)))),
    )
