use Rattle.std.proofs.Common.{ℕ, [], ◌∷◌, ◌++◌, ◌-◌, refl, sym, ap, ap₂, ◌∙◌, subst}
use Rattle.kernel_text.specs.{declared.member.Member.{Member}, Members.{IsMemberRegister}, KernelLines.{MemberLine}, Reader.{Enters, IsNew}}
use Rattle.kernel_text.specs.Reading.{kind_of_last, may_add_member}
use Rattle.kernel_text.proofs.{Allowed.{allowed_told, not_allowed, so}, Membership.{other_line}}
use Rattle.kernel_text.proofs.reader.Reader.take_member.Goals as goal

-- the register is that of the members
pub enter-requires : goal.enter-requires
enter-requires c = subst (λ members. IsMemberRegister members c.args.self.now.register) (sym c.as_slice-members.ensures) c.requires.holds.1.known

-- the package is a member before
pub returns-then-not-is_new : goal.returns-then-not-is_new
returns-then-not-is_new c t h = not_allowed t (MemberLine c.args.name c.args.version) (λ a.
    let m : Member = record { class = c.this_class-class.result; name = c.args.name; version = c.args.version } in
    let entered = subst (λ members. Enters members m c.enter.new.register c.in_ok-is_new.is_new) c.as_slice-members.ensures c.in_ok-is_new.ensures in
    subst (Enters c.args.self.now.members m c.enter.new.register) c.if-not-is_new.true entered (subst (IsNew m) (sym h.members) a.2))

-- it is none of them, and stands behind them now
pub returns : goal.returns
returns c t h =
    let m : Member = record { class = c.this_class-class.result; name = c.args.name; version = c.args.version } in
    let entered = subst (λ members. Enters members m c.enter.new.register c.in_ok-is_new.is_new) c.as_slice-members.ensures c.in_ok-is_new.ensures in
    let new = subst (Enters c.args.self.now.members m c.enter.new.register) c.if-not-is_new.false entered in
    let named : Member → ℕ → Member = λ o k. record { class = k; name = o.name; version = o.version } in (
      (allowed_told t (MemberLine c.args.name c.args.version)).1 (
        (so (may_add_member (kind_of_last t.last))).0 (ap may_add_member (sym h.last) ∙ sym c.if-not-may_add_member.ensures),
        c.requires.named,
        subst (IsNew m) h.members new.0,
      ),
      record {
        last = refl;
        previous = λ clause e. absurd (other_line c.args.name c.args.version clause e);
        of_format = h.of_format;
        classes = h.classes;
        members = c.in_ok-push.ensures.ok ∙ ap₂ (λ ms k. ms ++ named m k ∷ []) h.members (c.this_class-class.ensures ∙ ap (λ n. n - 1) h.classes);
        known = subst (λ members. IsMemberRegister members c.enter.new.register) (sym c.in_ok-push.ensures.ok) new.1;
        held = h.held;
        clauses = h.clauses;
        conflicts = h.conflicts;
      },
    )
