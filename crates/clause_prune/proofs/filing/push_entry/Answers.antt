use Rattle.clause_prune.proofs.Files.{entry_gained, entry_there}
use Rattle.clause_prune.proofs.filing.push_entry.Goals as goal

pub returns-clause-there : goal.returns-clause-there
returns-clause-there c =
    entry_there c.args.lists.now c.args.place c.args.entry c.push.new.self c.index-lists-place.result c.requires c.in_ok-push.ensures.items

pub returns-clause-gains : goal.returns-clause-gains
returns-clause-gains c =
    entry_gained c.args.lists.now c.args.place c.args.entry c.push.new.self c.index-lists-place.result c.requires c.in_ok-push.ensures.items
