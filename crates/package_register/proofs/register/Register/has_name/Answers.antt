use Rattle.std.proofs.Common.{List, ℕ, ◌∙◌, ap}
use Rattle.std.specs.List.{list_any}
use Rattle.package_register.specs.{Numbers.{passes_at}, Registers.{has_name, numbers_named}}
use Rattle.package_register.proofs.{Numbered.{any_among}, Registered.{named_all}}
use Rattle.package_register.proofs.register.Register.has_name.Goals as goal

pub returns : goal.returns
returns g c =
    let name : List ℕ = c.args.name.now in
    c.is_any_named.ensures ∙ ap (list_any (passes_at (has_name g.T.Named.name_of name) c.args.items.now)) c.bearers-numbers.ensures
    ∙ any_among (has_name g.T.Named.name_of name) c.args.items.now (numbers_named c.args.self.now name)
    (named_all g.T.Named.name_of g.T.Named.version_of c.args.items.now c.args.self.now c.requires name)
