-- The line of an own package, by its number.
use Rattle.std.proofs.{Common.{◌≡◌, ℕ, ◌<◌, List, length, get_or, refl}, lemmas.List.{get_or_read_under}}
use Rattle.status_check.specs.declared.report.HaveLine.{HaveLine}
use Rattle.coinst_run.specs.SystemText.{line_at, no_line}

pub line_read : (lines : List HaveLine) (n : ℕ) (line : HaveLine) → n < length lines → line ≡ get_or lines n line → line ≡ line_at lines n
line_read lines n line inside is = get_or_read_under lines n (length lines) line no_line is inside refl
