use Rattle.std.proofs.Common.{List, ℕ, ◌∙◌, ◌++◌, inl, refl, sym}
use Rattle.package_register.specs.Registers.{is_version_of, numbers_named}
use Rattle.package_register.proofs.{Numbered.{found_among, found_none}, Registered.{versioned_all}}
use Rattle.package_register.proofs.register.Register.versioned.Goals as goal
use Rattle.listed.proofs.Lists.{none_listed}

pub returns-then-is_empty : goal.returns-then-is_empty
returns-then-is_empty g c =
    let name : List ℕ = c.args.name.now in
    let version : List ℕ = c.args.version.now in
    let numbers : List ℕ = numbers_named c.args.self.now name in
    found_none (is_version_of g.T.Named.name_of g.T.Named.version_of name version) c.args.items.now numbers c.new.result.items
    (versioned_all g.T.Named.name_of g.T.Named.version_of c.args.items.now c.args.self.now c.requires name version numbers (inl refl))
    (sym c.bearers.ensures ∙ none_listed c.bearers.result.now (sym c.is_empty.ensures ∙ c.if-is_empty.true)) c.new.ensures.items

pub returns : goal.returns
returns g c =
    let name : List ℕ = c.args.name.now in
    let version : List ℕ = c.args.version.now in
    let numbers : List ℕ = c.in_ok-candidates.candidates.first.now ++ c.in_ok-candidates.candidates.others.now in
    found_among (is_version_of g.T.Named.name_of g.T.Named.version_of name version) c.args.items.now numbers c.in_ok-found.found.items c.sort_once.new.numbers.items
    (versioned_all g.T.Named.name_of g.T.Named.version_of c.args.items.now c.args.self.now c.requires name version numbers c.in_ok-candidates.ensures)
    c.in_ok-found.ensures
    c.sort_once.ensures.ascending c.sort_once.ensures.same
