use Rattle.std.proofs.Common.{◌∙◌, ◌++◌, ap, filter, refl}
use Rattle.relation_fields.specs.Meeting.{meets}
use Rattle.package_register.specs.Numbers.{passes_at}
use Rattle.package_register.proofs.Numbered.{passing_both}
use Rattle.virtual_provides.proofs.names.met_among.Goals as goal

pub returns : goal.returns
returns c =
    let test = passes_at (λ facts. meets c.args.atom.now facts c.args.home.now) c.args.packages.now in
    passing_both test c.args.candidates.first.now c.args.candidates.others.now c.put_met.new.found.items _ c.put_met-2.new.found.items
    c.in_ok-put_met-2.ensures (c.in_ok-put_met.ensures ∙ ap (λ z. z ++ filter test c.args.candidates.first.now) c.new-found.ensures.items) refl
