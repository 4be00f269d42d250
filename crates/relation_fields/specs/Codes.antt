-- Codes of atoms. By them an equation between lists of atoms is shown to have one proof at most.
use Rattle.std.specs.Prelude.{◌≡◌, ℕ, Bool, true, false, List, Option, Some, None, refl}
use Rattle.std.specs.Coded.{Coded, Coded-set, code_by, coded_list, coded_option, coded_bool}
use Rattle.std.specs.Coded.{coded_ℕ, coded×}
use Rattle.relation_fields.specs.declared.relations.Op.{Op}
use Rattle.relation_fields.specs.declared.relations.Op.TheVariants.{Earlier, EarlierEqual, Exactly}
use Rattle.relation_fields.specs.declared.relations.Op.TheVariants.{LaterEqual, Later}
use Rattle.relation_fields.specs.{declared.relations.Bound.{Bound}, declared.relations.Atom.{Atom}}

abbrev op_to : Op → Option (Option (Option Bool))
op_to Earlier = None
op_to EarlierEqual = Some None
op_to Exactly = Some (Some None)
op_to LaterEqual = Some (Some (Some false))
op_to Later = Some (Some (Some true))

abbrev op_from : Option (Option (Option Bool)) → Op
op_from None = Earlier
op_from (Some None) = EarlierEqual
op_from (Some (Some None)) = Exactly
op_from (Some (Some (Some false))) = LaterEqual
op_from (Some (Some (Some true))) = Later

op_back : (op : Op) → op_from (op_to op) ≡ op
op_back Earlier = refl
op_back EarlierEqual = refl
op_back Exactly = refl
op_back LaterEqual = refl
op_back Later = refl

abbrev op_code : Coded Op
op_code = code_by (Option (Option (Option Bool)))
    (coded_option (coded_option (coded_option coded_bool))) op_to op_from op_back

abbrev bound_code : Coded Bound
bound_code = code_by (Op × List ℕ) (coded× op_code (coded_list coded_ℕ)) (λ b. (
  b.op,
  b.version,
)) (λ p. record { op = p.0; version = p.1 }) (λ _. refl)

abbrev atom_code : Coded Atom
atom_code =
    code_by (List ℕ × (Option (List ℕ) × Option Bound)) (coded× (coded_list coded_ℕ)
    (coded× (coded_option (coded_list coded_ℕ)) (coded_option bound_code)))
    (λ a. (a.name, (a.qualifier, a.bound))) (λ p.
    record { name = p.0; qualifier = p.1.0; bound = p.1.1 }) (λ _. refl)

pub elements-prop : (one other : List (List Atom)) → IsProp (one ≡ other)
elements-prop one other = Coded-set (coded_list (coded_list atom_code)) one other
