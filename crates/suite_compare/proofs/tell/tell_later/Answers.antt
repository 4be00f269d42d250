use Rattle.listed.proofs.Lists.{In_at}
use Rattle.suite_compare.proofs.tell.tell_later.Goals as goal

pub name_at-second-requires : goal.name_at-second-requires
name_at-second-requires c = rw c.as_slice-others.ensures (c.requires.within _ (In_at c.args.partners.now.told c.loop-other.other-index 0 (rw c.as_slice-others.ensures at c.loop-other-test.true)))
