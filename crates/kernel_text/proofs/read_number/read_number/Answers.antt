use Rattle.std.proofs.{Common.{◌≡◌, ◌<◌, ◌≤◌, sym, ap, ◌∙◌, arith}, lemmas.Bool.{both_ways}}
use Rattle.std.specs.Fmt.{decimal}
use Rattle.deb_version.specs.Order.{number}
use Rattle.kernel_text.specs.{Numbers.{is_numeral}, Reading.{number_limit}}
use Rattle.kernel_text.proofs.Numerals.{decimal_numeral, numeral_decimal, value_decimal}
use Rattle.kernel_text.proofs.read_number.read_number.Goals as goal

pub returns-then-not-is_numeral : goal.returns-then-not-is_numeral
returns-then-not-is_numeral c n e l = both_ways (is_numeral c.args.text.now) (sym c.if-not-is_numeral.ensures) (ap is_numeral e ∙ decimal_numeral n l)

pub returns-then-value-ge4294967295 : goal.returns-then-value-ge4294967295
unfolding number_limit
returns-then-value-ge4294967295 c n e l =
    let same : number c.args.text.now ≡ n = ap number e ∙ value_decimal n l in
    let value : c.value_of-value.result ≡ number c.args.text.now = c.value_of-value.ensures in
    let much : 4294967295 ≤ c.value_of-value.result = c.if-value-ge4294967295.true in
    omega arith

pub returns : goal.returns
unfolding number_limit
returns c =
    let value : c.value_of-value.result ≡ number c.args.text.now = c.value_of-value.ensures in
    let little : c.value_of-value.result < 4294967295 = c.if-value-ge4294967295.false in
    let low : number c.args.text.now < number_limit = omega arith in
    (numeral_decimal c.args.text.now (sym c.if-not-is_numeral.ensures) low ∙ ap decimal (sym value), little)
