use Rattle.std.proofs.{Common.{◌∙◌, ap}, lemmas.Str.{IsUtf8-from_ascii}}
use Rattle.serde_json.specs.Data.{string}
use Rattle.kernel_text.proofs.write_json.text_value.Goals as goal

-- ASCII is UTF-8
pub returns : goal.returns
returns c = c.from.ensures ∙ ap string (c.in_ok-text.ensures.ok (IsUtf8-from_ascii c.args.text.now c.requires))
