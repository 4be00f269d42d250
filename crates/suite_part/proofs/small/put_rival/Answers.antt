use Rattle.std.proofs.Common.{refl}
use Rattle.suite_part.proofs.Rivals.{one_up}
use Rattle.suite_part.proofs.small.put_rival.Goals as goal

pub bounds-apart-rival : goal.bounds-apart-rival
bounds-apart-rival c = c.requires.numbers c.in-Some.rival (c.in-Some.ensures.some c.in-Some.rival refl).0

pub returns-in-Some-clause-one : goal.returns-in-Some-clause-one
returns-in-Some-clause-one c = λ n i u.
    let its = (c.in-Some.ensures.some c.in-Some.rival refl).0 in
    one_up c.args.apart.now c.in-Some.rival (c.requires.numbers c.in-Some.rival its) c.args.packages.now its
