use Rattle.class_merge.proofs.Groups.{list_within}
use Rattle.class_merge.proofs.grouping.put_key.Goals as goal

pub put_flagged-requires : goal.put_flagged-requires
put_flagged-requires c = list_within c.args.masked.now c.requires.mask c.args.number _ c.as_slice.result.now c.requires.number c.as_slice.ensures
