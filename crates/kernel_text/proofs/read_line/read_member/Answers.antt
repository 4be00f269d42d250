use Rattle.std.proofs.{Common.{◌≡◌, false, sym, ap, ◌∙◌}, lemmas.Bool.{both_ways}, lemmas.Option.{same_Some}}
use Rattle.std.specs.Option.{option_copied}
use Rattle.deb_version.specs.{Grammar.{is_version}, Names.{is_name}}
use Rattle.kernel_text.proofs.LineWords.{no_member}
use Rattle.kernel_text.proofs.read_line.read_member.Goals as goal

pub returns-then-not-is_package_name : goal.returns-then-not-is_package_name
returns-then-not-is_package_name c word e =
    no_member word c.args.rest.now c.cut_at_space.result.0.now (option_copied c.cut_at_space.result.1) e c.cut_at_space.ensures
    (λ version same named. both_ways (is_name c.cut_at_space.result.0.now) (sym c.if-not-is_package_name.ensures) named.0)

pub returns-in_default-2 : goal.returns-in_default-2
returns-in_default-2 c word e =
    let text = c.in-Some.version.now in
    let other : is_version text ≡ false = rw c.in_default-2.is at c.in_ok-version.ensures in
    no_member word c.args.rest.now c.cut_at_space.result.0.now (option_copied c.cut_at_space.result.1) e c.cut_at_space.ensures
    (λ version same named. both_ways (is_version text) other (ap is_version (same_Some text version (sym (ap option_copied c.in-Some.is) ∙ same)) ∙ named.1))
