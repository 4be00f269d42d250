use Rattle.clause_families.proofs.Members.{sorted_order, sorted_same}
use Rattle.clause_families.proofs.family.put_in_order.Goals as goal

pub returns : goal.returns
returns c = record {
  in_order = sorted_order c.args.family.now.items c.sort_unstable.new.self.items c.dedup.new.self.items c.sort_unstable.ensures.sorted c.dedup.ensures.filtered;
  same = sorted_same c.args.family.now.items c.sort_unstable.new.self.items c.dedup.new.self.items c.sort_unstable.ensures.permutation c.dedup.ensures.filtered;
}
