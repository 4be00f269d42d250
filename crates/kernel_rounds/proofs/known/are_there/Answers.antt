use Rattle.std.proofs.lemmas.Bool.{OnTrue_at, OnTrue_from}
use Rattle.kernel_rounds.proofs.known.are_there.Goals as goal

pub is_of-requires-clause-known : goal.is_of-requires-clause-known
is_of-requires-clause-known c = (c.requires.earlier c.in-Some.rounds c.in-Some.is).first

pub returns-in-Some : goal.returns-in-Some
returns-in-Some c = OnTrue_from c.is_of.result _ (λ true. (c.in-Some.rounds, c.in-Some.is, OnTrue_at true c.is_of.ensures))
