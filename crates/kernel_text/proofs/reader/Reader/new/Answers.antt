use Rattle.std.proofs.Common.{ap, map, refl, subst, sym}
use Rattle.package_register.proofs.Registered.{none_registered}
use Rattle.kernel_text.specs.{declared.member.Member.{Member}, Members.{IsMemberRegister}, Reader.{entry_of}}
use Rattle.kernel_text.proofs.reader.Reader.new.Goals as goal

pub returns : goal.returns
returns c = record {
  last = refl;
  previous = λ clause e. absurd (cc e);
  of_format = refl;
  classes = refl;
  members = c.new.ensures;
  known = subst (λ members. IsMemberRegister members c.new-2.result) (sym c.new.ensures) (none_registered (λ (m : Member). m.name) (λ m. m.version) c.new-2.result);
  held = c.new-3.ensures;
  clauses = ap (map entry_of) c.new-4.ensures;
  conflicts = c.new-5.ensures;
}
