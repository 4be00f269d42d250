use Rattle.std.proofs.Common.{List, ℕ, ◌∙◌, ap, filter}
use Rattle.package_register.specs.{Numbers.{passes_at}, Registers.{has_name, numbers_named}}
use Rattle.package_register.proofs.{Numbered.{found_among}, Registered.{named_all}}
use Rattle.package_register.proofs.register.Register.named.Goals as goal

pub returns : goal.returns
returns g c =
    let name : List ℕ = c.args.name.now in
    found_among (has_name g.T.Named.name_of name) c.args.items.now (numbers_named c.args.self.now name) c.in_ok-found.found.items c.sort_once.new.numbers.items
    (named_all g.T.Named.name_of g.T.Named.version_of c.args.items.now c.args.self.now c.requires name)
    (c.in_ok-found.ensures ∙ ap (filter (passes_at (has_name g.T.Named.name_of name) c.args.items.now)) c.bearers-numbers.ensures)
    c.sort_once.ensures.ascending c.sort_once.ensures.same
