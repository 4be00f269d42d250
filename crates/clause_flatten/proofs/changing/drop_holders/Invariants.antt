use Rattle.std.proofs.Common.{◌≡◌, ◌≤◌, ℕ, drop, length, take}
use Rattle.clause_pool.specs.{Interned.{clauses_at}, Clauses.{apart_from}}
use Rattle.listed.specs.Lists.{In}
use Rattle.clause_flatten.proofs.changing.drop_holders.Given as goal

abbrev pub invariant-loop-place : goal.invariant-loop-place
invariant-loop-place l = record {
  size : length l.ids.items ≡ length l.initial.ids.items;
  few : l.kept ≤ l.place;
  left : drop l.place l.ids.items ≡ drop l.place l.initial.ids.items;
  made : clauses_at l.pool (take l.kept l.ids.items) ≡ apart_from l.number (take l.place (clauses_at l.pool l.initial.ids.items));
  part : (id : ℕ) → In id (take l.kept l.ids.items) → In id l.initial.ids.items;
}
