-- The commands: what words each takes, the job that they ask for, and its settings.
use Rattle.std.specs.Prelude.{ℕ, Bool, false, true, List, [], ◌∷◌, Option, Some, None, codes}
use Rattle.std.specs.{Prelude.{if◌then◌else◌, option_and_then, option_map}, Str.{bytes_eq}}
use Rattle.coinst_words.specs.declared.job.Job.{Job}
use Rattle.coinst_words.specs.declared.job.Job.TheVariants.{Kernel, Query, StoredQuery, Compare}
use Rattle.coinst_words.specs.declared.job.Job.TheVariants.{Explain, Status, Migrate, Sample}
use Rattle.coinst_words.specs.declared.job.Settings.{Settings}
use Rattle.coinst_words.specs.Usage.{Said, Text, Usage, said_of, value_of}
use Rattle.coinst_words.specs.Words.{IsBetween, IsBudget, IsClauseLimit, budget_of, clause_limit_of}
use Rattle.coinst_words.specs.Words.{count_of, index_and_goals, is_on, is_path, seed_of}
use Rattle.coinst_words.specs.Words.{some_goals_of, two_paths}
use Rattle.repo_model.specs.Limits.{most_packages}

-- `kernel [--json] [--clause-limit N] [--hold] INDEX`
abbrev pub kernel_usage : Usage
kernel_usage = record {
  name = codes "kernel";
  flags = codes "json" ∷ codes "hold" ∷ [];
  valued = codes "clause-limit" ∷ [];
}

-- `query [--budget N] [--clause-limit N] [--hold] INDEX GOAL..`, or `query --kernel FILE [--budget
-- N] GOAL..`
abbrev pub query_usage : Usage
query_usage = record {
  name = codes "query";
  flags = codes "hold" ∷ [];
  valued = codes "budget" ∷ codes "clause-limit" ∷ codes "kernel" ∷ [];
}

-- `compare [--budget N] [--clause-limit N] [--hold] OLD NEW`
abbrev pub compare_usage : Usage
compare_usage = record {
  name = codes "compare";
  flags = codes "hold" ∷ [];
  valued = codes "budget" ∷ codes "clause-limit" ∷ [];
}

-- `explain [--budget N] [--clause-limit N] [--hold] INDEX GOAL..`
abbrev pub explain_usage : Usage
explain_usage = record {
  name = codes "explain";
  flags = codes "hold" ∷ [];
  valued = codes "budget" ∷ codes "clause-limit" ∷ [];
}

-- `status [--budget N] [--clause-limit N] [--hold] FILE INDEX`
abbrev pub status_usage : Usage
status_usage = record {
  name = codes "status";
  flags = codes "hold" ∷ [];
  valued = codes "budget" ∷ codes "clause-limit" ∷ [];
}

-- `migrate [--budget N] [--clause-limit N] [--hold] OLD NEW`
abbrev pub migrate_usage : Usage
migrate_usage = record {
  name = codes "migrate";
  flags = codes "hold" ∷ [];
  valued = codes "budget" ∷ codes "clause-limit" ∷ [];
}

-- `sample SEED COUNT`
abbrev pub sample_usage : Usage
sample_usage = record { name = codes "sample"; flags = []; valued = [] }

abbrev pub usages : List Usage
usages = kernel_usage ∷ query_usage ∷ compare_usage ∷ explain_usage ∷ status_usage
    ∷ migrate_usage ∷ sample_usage ∷ []

-- what the options say, before their numbers are read
pub record Options : Type 0 where
  pub kernel : Option Text
  pub budget : Option Text
  pub clause_limit : Option Text
  pub json : Bool
  pub hold : Bool

-- a command's options by their names; an option that the command does not take was not given
abbrev pub options_by : (Text → Option Text) → Options
options_by value = record {
  kernel = value (codes "kernel");
  budget = value (codes "budget");
  clause_limit = value (codes "clause-limit");
  json = is_on (value (codes "json"));
  hold = is_on (value (codes "hold"));
}

-- the settings of a job by its options
abbrev pub settings_by : Options → Option Settings
settings_by options =
    option_and_then (λ budget. option_map (λ limit. record {
      budget = budget;
      clause_limit = limit;
      hold = options.hold;
    }) (clause_limit_of options.clause_limit)) (budget_of options.budget)

-- the job of each command, by its options and by the ordinary words
abbrev pub kernel_job : Options → List Text → Option Job
kernel_job options (index ∷ []) = if is_path index then option_map (λ s.
    Kernel index options.json s.clause_limit s.hold) (settings_by options) else None
kernel_job options _ = None

abbrev pub compare_job : Options → List Text → Option Job
compare_job options words = option_and_then (λ p. option_map (λ s.
    Compare p.0 p.1 s.budget s.clause_limit s.hold) (settings_by options)) (two_paths words)

abbrev pub status_job : Options → List Text → Option Job
status_job options words = option_and_then (λ p. option_map (λ s.
    Status p.0 p.1 s.budget s.clause_limit s.hold) (settings_by options)) (two_paths words)

abbrev pub migrate_job : Options → List Text → Option Job
migrate_job options words = option_and_then (λ p. option_map (λ s.
    Migrate p.0 p.1 s.budget s.clause_limit s.hold) (settings_by options)) (two_paths words)

abbrev pub explain_job : Options → List Text → Option Job
explain_job options words = option_and_then (λ p. option_map (λ s.
    Explain p.0 p.1 s.budget s.clause_limit s.hold) (settings_by options)) (index_and_goals words)

abbrev pub sample_job : List Text → Option Job
sample_job (seed ∷ count ∷ []) =
    option_and_then (λ s. option_map (λ n. Sample s n) (count_of count)) (seed_of seed)
sample_job _ = None

-- a query with an index
abbrev pub index_query : Options → List Text → Option Job
index_query options words = option_and_then (λ p. option_map (λ s.
    Query p.0 p.1 s.budget s.clause_limit s.hold) (settings_by options)) (index_and_goals words)

-- a query with a stored kernel takes no clause limit and no `--hold`, and all ordinary words are
-- goals
abbrev pub stored_query : Text → Option Text → Option Text → Bool → List Text → Option Job
stored_query kernel budget (Some limit) hold words = None
stored_query kernel budget None true words = None
stored_query kernel budget None false words = if is_path kernel then option_and_then (λ b.
    option_map (λ goals. StoredQuery kernel goals b) (some_goals_of words)) (budget_of budget)
    else None

abbrev pub query_by : Option Text → Options → List Text → Option Job
query_by None options words = index_query options words
query_by (Some kernel) options words =
    stored_query kernel options.budget options.clause_limit options.hold words

abbrev pub query_job : Options → List Text → Option Job
query_job options words = query_by options.kernel options words

-- the job of the command with a name
abbrev pub job_named : Text → Options → List Text → Option Job
job_named name options words =
    if bytes_eq name (codes "kernel") then kernel_job options words
    else (if bytes_eq name (codes "query") then query_job options words
    else (if bytes_eq name (codes "compare") then compare_job options words
    else (if bytes_eq name (codes "explain") then explain_job options words
    else (if bytes_eq name (codes "status") then status_job options words
    else (if bytes_eq name (codes "migrate") then migrate_job options words
    else (if bytes_eq name (codes "sample") then sample_job words else None))))))

abbrev pub job_of_said : Usage × Said → Option Job
job_of_said p = job_named p.0.name (options_by (λ name. value_of name p.1.given)) p.1.ordinary

-- the job of the words
abbrev pub job_of : List Text → Option Job
job_of words = option_and_then job_of_said (said_of usages words)

-- the limits that the numbers of a job keep
abbrev pub IsInLimits : Job → Type 0
IsInLimits (Kernel index json limit hold) = IsClauseLimit limit
IsInLimits (Query index goals budget limit hold) = IsBudget budget × IsClauseLimit limit
IsInLimits (StoredQuery kernel goals budget) = IsBudget budget
IsInLimits (Compare old new budget limit hold) = IsBudget budget × IsClauseLimit limit
IsInLimits (Explain index goals budget limit hold) = IsBudget budget × IsClauseLimit limit
IsInLimits (Status file index budget limit hold) = IsBudget budget × IsClauseLimit limit
IsInLimits (Migrate old new budget limit hold) = IsBudget budget × IsClauseLimit limit
IsInLimits (Sample seed count) = IsBetween 1 most_packages count

-- the settings of a job: its budget, its clause limit, and whether packages are held; each is the
-- default if the job has none
abbrev pub settings_of : Job → Settings
settings_of (Kernel index json limit hold) =
    record { budget = 10000; clause_limit = limit; hold = hold }
settings_of (Query index goals budget limit hold) =
    record { budget = budget; clause_limit = limit; hold = hold }
settings_of (StoredQuery kernel goals budget) =
    record { budget = budget; clause_limit = 65536; hold = false }
settings_of (Compare old new budget limit hold) =
    record { budget = budget; clause_limit = limit; hold = hold }
settings_of (Explain index goals budget limit hold) =
    record { budget = budget; clause_limit = limit; hold = hold }
settings_of (Status file index budget limit hold) =
    record { budget = budget; clause_limit = limit; hold = hold }
settings_of (Migrate old new budget limit hold) =
    record { budget = budget; clause_limit = limit; hold = hold }
settings_of (Sample seed count) = record { budget = 10000; clause_limit = 65536; hold = false }

-- settings within the limits of a job
abbrev pub AreInLimits : Settings → Type 0
AreInLimits settings = IsBudget settings.budget × IsClauseLimit settings.clause_limit
