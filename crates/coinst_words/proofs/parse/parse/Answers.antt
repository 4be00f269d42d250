use Rattle.std.proofs.Common.{map, string_bytes}
use Rattle.coinst_words.proofs.{Letters.{words_spell}, Parsing.{enters, on_refusal, refused}}
use Rattle.coinst_words.proofs.parse.parse.Goals as goal

pub returns-in-Ok-clause-said : goal.returns-in-Ok-clause-said
returns-in-Ok-clause-said c =
    enters _ c.in_ok-program.ensures (map string_bytes c.args.words.now) (words_spell c.args.words.now) c.in-Ok.matches c.in-Ok.ensures.matches c.in-Ok.ensures.kinds

pub returns-in-Err-clause-refusal : goal.returns-in-Err-clause-refusal
returns-in-Err-clause-refusal c =
    on_refusal _ _ c.refusal.result (refused _ c.in_ok-program.ensures (map string_bytes c.args.words.now) (words_spell c.args.words.now) c.in-Err.error c.in-Err.ensures.kinds) c.refusal.ensures
