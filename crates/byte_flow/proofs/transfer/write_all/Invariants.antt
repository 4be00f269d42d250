use Rattle.std.proofs.Common.{◌≡◌, ℕ, ◌+◌, ◌≤◌, List, ◌++◌, length, Option}
use Rattle.std.specs.Io.KnownBytes.{Appends}
use Rattle.byte_flow.specs.Transfer.{Sent}
use Rattle.byte_flow.proofs.transfer.write_all.Given as goal

-- a front of the bytes was taken, and the rest is left
pub record HasSent (old new : Option (List ℕ)) (bytes rest : List ℕ) : Type 0 where
  pub front : List ℕ
  pub whole : bytes ≡ front ++ rest
  pub taken : Appends old new front

abbrev pub invariant-loop-rest : goal.invariant-loop-rest
invariant-loop-rest g l = record {
  sent : HasSent (g.S.Sink.model.taken l.fn.sink) (g.S.Sink.model.taken l.sink) l.bytes l.rest;
  later : g.S.Sink.model.faults l.fn.sink ≤ g.S.Sink.model.faults l.sink;
  room : g.S.Sink.model.room l.fn.sink + length l.rest ≤ g.S.Sink.model.room l.sink + length l.bytes;
  calls : Sent g.S.Sink.model l.fn.sink l.bytes l.sink l.rest;
}

abbrev pub decreases-loop-rest : goal.decreases-loop-rest
decreases-loop-rest g l = length l.rest
