use Rattle.std.proofs.{Common.{◌≡◌, ◌∙◌, List, ℕ, arith, length, subst, sym}, lemmas.Grind.{common_steps}}
use Rattle.package_register.specs.{Numbers.{numbers_where}, Registers.{is_version_of}}
use Rattle.kernel_text.specs.declared.member.Member.{Member}
use Rattle.kernel_text.proofs.Membership.{new_member, old_member}
use Rattle.kernel_text.proofs.reader.enter.Goals as goal

pub returns-then-not-is_empty : goal.returns-then-not-is_empty
returns-then-not-is_empty c =
    let members = c.args.members.now in
    let m = c.args.member.now in
    let found = subst (λ (name : List ℕ). c.in_ok-found.found.items ≡ numbers_where (is_version_of (λ (x : Member). x.name) (λ x. x.version) name m.version) members) c.as_slice-name.ensures c.in_ok-found.ensures in
    old_member members m c.as_slice-same.result.now (c.as_slice-same.ensures.value ∙ found) (sym c.is_empty.ensures ∙ c.if-not-is_empty.true)

pub returns : goal.returns
returns c =
    let members = c.args.members.now in
    let m = c.args.member.now in
    let found = subst (λ (name : List ℕ). c.in_ok-found.found.items ≡ numbers_where (is_version_of (λ (x : Member). x.name) (λ x. x.version) name m.version) members) c.as_slice-name.ensures c.in_ok-found.ensures in
    let is = c.in-Ok.ensures.1 in
    let number : c.in-Ok.number ≡ length members = grind (arith, common_steps, is) in (
      new_member members m c.as_slice-same.result.now (c.as_slice-same.ensures.value ∙ found) (sym c.is_empty.ensures ∙ c.if-not-is_empty.false),
      c.in_ok-add.ensures members c.requires number,
    )
