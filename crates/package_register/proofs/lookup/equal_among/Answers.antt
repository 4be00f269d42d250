use Rattle.std.proofs.Common.{List, ℕ, ◌∙◌}
use Rattle.package_register.specs.{Numbers.{passes_at}, Registers.{is_version_of}}
use Rattle.package_register.proofs.Numbered.{passing_both}
use Rattle.package_register.proofs.lookup.equal_among.Goals as goal

pub returns : goal.returns
returns g c =
    let name : List ℕ = c.args.name.now in
    let version : List ℕ = c.args.version.now in
    passing_both (passes_at (is_version_of g.T.Named.name_of g.T.Named.version_of name version) c.args.items.now) c.args.candidates.first.now c.args.candidates.others.now
    _ _ _ c.in_ok-extend_from_slice.ensures.items c.in_ok-found.ensures (c.as_slice.ensures.value ∙ c.in_ok-more.ensures)
