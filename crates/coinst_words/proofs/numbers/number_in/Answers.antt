use Rattle.std.proofs.Common.{rules}
use Rattle.coinst_words.proofs.Digits.{too_large}
use Rattle.coinst_words.proofs.numbers.number_in.Goals as goal

pub returns-in_default-clause-number : goal.returns-in_default-clause-number
returns-in_default-clause-number c = too_large c.args.word.now (search rules) c.args.least c.args.most c.ranges.most.fits c.in_default.ensures.value.0
