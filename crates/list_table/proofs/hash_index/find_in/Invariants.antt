use Rattle.std.proofs.Common.{◌<◌, length}
use Rattle.list_table.specs.Index.{home, Reaches}
use Rattle.list_table.proofs.Index.{Passed}
use Rattle.list_table.proofs.hash_index.find_in.Given as goal

abbrev pub invariant-loop : goal.invariant-loop
invariant-loop g l = record {
  start : home (g.T.Item.hash_of l.items) (length l.places) < length l.places;
  reached : Reaches (length l.places) (home (g.T.Item.hash_of l.items) (length l.places)) l.counter l.place;
  passed : Passed l.places l.lists l.items (g.T.Item.hash_of l.items) (home (g.T.Item.hash_of l.items) (length l.places)) l.counter;
}
