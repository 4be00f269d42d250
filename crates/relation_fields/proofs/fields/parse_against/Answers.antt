use Rattle.std.proofs.{Common.{◌∙◌, sym, subst}, lemmas.Result.{err_from_is_err_and}}
use Rattle.relation_fields.specs.{Grammar.{atom_of}, Spelling.{SpellsEach, SpellsAtom}}
use Rattle.relation_fields.proofs.{Readings.{atoms_read}, Faults.{field_said, fault_from}}
use Rattle.relation_fields.proofs.fields.parse_against.Goals as goal

pub returns-in_err-atoms-clause-fault : goal.returns-in_err-atoms-clause-fault
returns-in_err-atoms-clause-fault c =
    let p = err_from_is_err_and c.from_residual.result c.from_residual.ensures.1 in
    rw (p.1, p.2) (fault_from atom_of SpellsAtom atoms_read c.args.value.now _ c.in_err-atoms.ensures.shape)

pub returns-clause-spelled : goal.returns-clause-spelled
returns-clause-spelled c =
    let value = c.args.value.now in
    subst (SpellsEach SpellsAtom value) (sym (c.in_ok-of.ensures ∙ c.in_ok-atoms.ensures.said)) (field_said atom_of SpellsAtom atoms_read value c.in_ok-atoms.ensures.accepted)
