use Rattle.std.proofs.Common.{◌<◌, length}
use Rattle.list_table.specs.Index.{home, Reaches, NoneFreeBefore}
use Rattle.list_table.proofs.hash_index.free_place.Given as goal

abbrev pub invariant-loop : goal.invariant-loop
invariant-loop l = record {
  start : home l.hash (length l.places) < length l.places;
  reached : Reaches (length l.places) (home l.hash (length l.places)) l.counter l.place;
  filled : NoneFreeBefore l.places (home l.hash (length l.places)) l.counter;
}
