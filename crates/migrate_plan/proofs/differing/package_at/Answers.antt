use Rattle.std.proofs.{Common.{◌∙◌, ◌<◌, get_or, length}, lemmas.List.{get_or_default}}
use Rattle.listed.proofs.Lists.{In_at}
use Rattle.repo_model.specs.Stanzas.{no_stanza}
use Rattle.migrate_plan.proofs.differing.package_at.Goals as goal

pub bounds-packages-numbers : goal.bounds-packages-numbers
bounds-packages-numbers c = c.requires.numbers (get_or c.args.numbers.now c.args.place 0) (In_at c.args.numbers.now c.args.place 0 c.requires.place)

pub returns : goal.returns
returns c =
    let n = get_or c.args.numbers.now c.args.place 0 in
    let inside : n < length c.args.packages.now = c.requires.numbers n (In_at c.args.numbers.now c.args.place 0 c.requires.place) in
    c.index-packages-numbers.is ∙ get_or_default c.args.packages.now n c.index-packages-numbers.result no_stanza inside
