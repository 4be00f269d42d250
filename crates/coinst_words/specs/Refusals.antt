-- Facts by the cause of a refusal.
use Rattle.std.specs.Prelude.{⊤}
use Rattle.coinst_words.specs.declared.error.WordError.{WordError}
use Rattle.coinst_words.specs.declared.error.WordError.TheVariants.{NotACommand, Memory}

-- a fact for words that are no command
abbrev pub OnNotACommand : Type 0 → WordError → Type 0
OnNotACommand P NotACommand = P
OnNotACommand P Memory = ⊤
