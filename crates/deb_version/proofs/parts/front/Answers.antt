use Rattle.std.proofs.Common.{◌≡◌, ap, length, arith}
use Rattle.deb_version.proofs.PieceSteps.{digits_front, shorter-behind_front, behind_front}
use Rattle.deb_version.proofs.parts.front.Goals as goal

pub returns-clause-all : goal.returns-clause-all
returns-clause-all c = digits_front _ _ _ c.split_at-2.ensures.front c.digits_len.ensures.is

pub returns-clause-shorter : goal.returns-clause-shorter
returns-clause-shorter c = λ some.
    let rest : c.split_at-2.result.1.now ≡ behind_front c.args.part.now = cc in
    let shorter = shorter-behind_front c.args.part.now some in
    omega (arith, ap length rest, shorter)
