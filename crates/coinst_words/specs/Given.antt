-- for the bodies of this crate alone
-- What the program's options say.
use Rattle.std.specs.Prelude.{option_map}
use Rattle.coinst_words.specs.declared.jobs.Options.{Options as Found}
use Rattle.coinst_words.specs.Jobs.{Options}

abbrev pub options_of : Found → Options
options_of o = record {
  kernel = option_map (λ s. s.now) o.kernel;
  budget = option_map (λ s. s.now) o.budget;
  clause_limit = option_map (λ s. s.now) o.clause_limit;
  json = o.json;
  hold = o.hold;
}
