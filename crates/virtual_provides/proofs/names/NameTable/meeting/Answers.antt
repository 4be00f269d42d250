use Rattle.std.proofs.Common.{List, ℕ, ◌++◌}
use Rattle.relation_fields.specs.Meeting.{meets}
use Rattle.package_register.proofs.Numbered.{found_among}
use Rattle.virtual_provides.proofs.Meeting.{all_met}
use Rattle.virtual_provides.proofs.names.NameTable.meeting.Goals as goal

pub returns : goal.returns
returns c =
    let numbers : List ℕ = c.in_ok-candidates.candidates.first.now ++ c.in_ok-candidates.candidates.others.now in
    found_among (λ facts. meets c.args.atom.now facts c.args.home.now) c.args.packages.now numbers c.in_ok-found.found.items c.sort_once.new.numbers.items
    (all_met c.args.packages.now c.args.self.now c.requires c.args.atom.now c.args.home.now numbers c.in_ok-candidates.ensures)
    c.in_ok-found.ensures
    c.sort_once.ensures.ascending c.sort_once.ensures.same
