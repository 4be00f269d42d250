-- Which jobs the words of the commands that search ask for.
use Rattle.std.proofs.Common.{◌≡◌, ℕ, ◌≤◌, Bool, true, false, cond, ◌&&◌, List, [], ◌∷◌, ◌++◌, Option, Some, None, length, refl, sym, ap, ◌∙◌, subst}
use Rattle.std.proofs.{Common.{append_assoc}, lemmas.List.{append-nil}}
use Rattle.std.specs.{Prelude.{codes, get_or, unwrap_or, option_and_then, option_map, ◌==◌}, Fmt.{decimal}, Str.{bytes_eq}}
use Rattle.clap.specs.Lexer.{long_of, long_of_rest, short_of, short_of_rest, strip_byte}
use Rattle.coinst_words.specs.Usage.{Usage, Said, dashed_or_plain, ends, flag, long_or_other, asks, plain, nothing_said, meaning_of, value_of, give, read_word}
use Rattle.coinst_words.specs.{Usage.{read, Text}, Words.{is_path, clause_limit_of, budget_of, two_paths, index_and_goals, some_goals_of, goals_of}}
use Rattle.coinst_words.specs.Jobs.{Options, query_usage, explain_usage, status_usage, migrate_usage, settings_by, query_by, job_of, job_of_said}
use Rattle.coinst_words.specs.{declared.job.Job.{Job}, declared.job.Settings.{Settings}}
use Rattle.coinst_words.specs.declared.job.Job.TheVariants.{Query, StoredQuery, Explain, Status, Migrate}
use Rattle.listed.specs.Lists.{here, there}
use Rattle.repo_model.specs.declared.goals.Goal.{Goal}
use Rattle.claims.specs.Words.{AreOrdinary, asking_words, number_words, stored_words}
use Rattle.claims.proofs.{Goals.{AreGoals, goals_read}, Words.{Asked, asked, kept, number_told, options_in, said_with, short_words, two_said, word_waits}}

-- an ordinary word is a plain one
plain_word : (u : Usage) (word : Text) → (get_or word 0 0 == 45) ≡ false → meaning_of u word ≡ plain
plain_word u [] e = refl
plain_word u (b ∷ bs) e =
    let stripped : strip_byte 45 (b ∷ bs) ≡ None = ap (λ t. cond t (Some bs) None) e in
    let long : long_of (b ∷ bs) ≡ None = ap (λ o. option_and_then long_of_rest (option_and_then (strip_byte 45) o)) stripped in
    let short : short_of (b ∷ bs) ≡ None = ap (λ o. option_and_then short_of_rest o) stripped in
    let other : bytes_eq (b ∷ bs) (codes "--") ≡ false = rw e refl in
    ap (λ t. cond t ends (long_or_other u (b ∷ bs) (long_of (b ∷ bs)))) other ∙ ap (λ found. long_or_other u (b ∷ bs) found) long ∙ ap dashed_or_plain short

read_plain : (u : Usage) (given : List (Text × Text)) (front words : List Text) → AreOrdinary words → read u (said_with given front) None words ≡ Some (said_with given (front ++ words))
unfolding read
read_plain u given front [] o = ap (λ t. Some (said_with given t)) (sym (append-nil front))
read_plain u given front (w ∷ words) o =
    ap (λ m. read_word u m w (said_with given front) None words (λ s x. read u s x words)) (plain_word u w (o w here))
    ∙ read_plain u given (front ++ w ∷ []) words (λ v i. o v (there i))
    ∙ ap (λ t. Some (said_with given t)) (append_assoc front (w ∷ []) words)

-- what is given by the words of an option with a number
abbrev number_given : Text → Option ℕ → List (Text × Text)
number_given name None = []
number_given name (Some n) = (name, decimal n) ∷ []

number_read : (u : Usage) (option name : Text) → meaning_of u option ≡ asks name → (n : Option ℕ) (given : List (Text × Text)) → value_of name given ≡ None → (rest : List Text) (r : Said)
    → read u (said_with given []) None (number_words option n ++ rest) ≡ Some r → read u (said_with (given ++ number_given name n) []) None rest ≡ Some r
unfolding read
number_read u option name is None given fresh rest r e = subst (λ g. read u (said_with g []) None rest ≡ Some r) (sym (append-nil given)) e
number_read u option name is (Some n) given fresh rest r e =
    let waiting : read u (said_with given []) (Some name) (decimal n ∷ rest) ≡ Some r
    = sym (ap (λ m. read_word u m option (said_with given []) None (decimal n ∷ rest) (λ s w. read u s w (decimal n ∷ rest))) is) ∙ e in
    let taken : option_and_then (λ s. read u s None rest) (give name (decimal n) (said_with given [])) ≡ Some r = word_waits u (decimal n) (said_with given []) name rest r waiting in
    rw fresh at taken

hold_read : (u : Usage) → meaning_of u (codes "--hold") ≡ flag (codes "hold") → (hold : Bool) (given : List (Text × Text)) → value_of (codes "hold") given ≡ None → (rest : List Text) (r : Said)
    → read u (said_with given []) None (cond hold (codes "--hold" ∷ []) [] ++ rest) ≡ Some r → read u (said_with (given ++ cond hold ((codes "hold", codes "true") ∷ []) []) []) None rest ≡ Some r
unfolding read
hold_read u is false given fresh rest r e = subst (λ g. read u (said_with g []) None rest ≡ Some r) (sym (append-nil given)) e
hold_read u is true given fresh rest r e =
    let taken : option_and_then (λ s. read u s None rest) (give (codes "hold") (codes "true") (said_with given [])) ≡ Some r
    = sym (ap (λ m. read_word u m (codes "--hold") (said_with given []) None rest (λ s w. read u s w rest)) is) ∙ e in
    rw fresh at taken

-- all that the options give
abbrev given_by : Option ℕ → Option ℕ → Bool → List (Text × Text)
given_by budget limit hold = (number_given (codes "budget") budget ++ number_given (codes "clause-limit") limit) ++ cond hold ((codes "hold", codes "true") ∷ []) []

no_limit : (budget : Option ℕ) → value_of (codes "clause-limit") (number_given (codes "budget") budget) ≡ None
no_limit None = refl
no_limit (Some b) = refl

no_hold : (budget limit : Option ℕ) → value_of (codes "hold") (number_given (codes "budget") budget ++ number_given (codes "clause-limit") limit) ≡ None
no_hold None None = refl
no_hold None (Some n) = refl
no_hold (Some b) None = refl
no_hold (Some b) (Some n) = refl

settings_are : (budget limit : Option ℕ) (hold : Bool) → settings_by (options_in (given_by budget limit hold)) ≡ kept (budget_of (option_map decimal budget)) (clause_limit_of (option_map decimal limit)) hold
settings_are None None false = refl
settings_are None None true = refl
settings_are None (Some n) false = refl
settings_are None (Some n) true = refl
settings_are (Some b) None false = refl
settings_are (Some b) None true = refl
settings_are (Some b) (Some n) false = refl
settings_are (Some b) (Some n) true = refl

-- a command with these three options
record Searches (u : Usage) : Type 0 where
  budget_is : meaning_of u (codes "--budget") ≡ asks (codes "budget")
  limit_is : meaning_of u (codes "--clause-limit") ≡ asks (codes "clause-limit")
  hold_is : meaning_of u (codes "--hold") ≡ flag (codes "hold")

-- its options are read
options_read : (u : Usage) → Searches u → (budget limit : Option ℕ) (hold : Bool) (words : List Text) (r : Said)
    → read u nothing_said None (number_words (codes "--budget") budget ++ (number_words (codes "--clause-limit") limit ++ (cond hold (codes "--hold" ∷ []) [] ++ words))) ≡ Some r
    → read u (said_with (given_by budget limit hold) []) None words ≡ Some r
options_read u s budget limit hold words r e =
    let first = number_read u (codes "--budget") (codes "budget") s.budget_is budget [] refl (number_words (codes "--clause-limit") limit ++ (cond hold (codes "--hold" ∷ []) [] ++ words)) r e in
    let second = number_read u (codes "--clause-limit") (codes "clause-limit") s.limit_is limit (number_given (codes "budget") budget) (no_limit budget) (cond hold (codes "--hold" ∷ []) [] ++ words) r first in
    hold_read u s.hold_is hold (number_given (codes "budget") budget ++ number_given (codes "clause-limit") limit) (no_hold budget limit) words r second

-- and then its ordinary words
said_is : (u : Usage) → Searches u → (budget limit : Option ℕ) (hold : Bool) (words : List Text) → AreOrdinary words → (r : Said)
    → read u nothing_said None (number_words (codes "--budget") budget ++ (number_words (codes "--clause-limit") limit ++ (cond hold (codes "--hold" ∷ []) [] ++ words))) ≡ Some r
    → said_with (given_by budget limit hold) words ≡ r
said_is u s budget limit hold words o r e =
    let third = options_read u s budget limit hold words r e in
    let all = read_plain u (given_by budget limit hold) [] words o in
    let is : said_with (given_by budget limit hold) words ≡ r = cc (sym all ∙ third) in is

-- what is kept to, where something is
kept_is : (budget limit : Option ℕ) (hold : Bool) (it : Settings) → unwrap_or budget 10000 ≤ 1000000 → unwrap_or limit 65536 ≤ 1000000
    → kept (budget_of (option_map decimal budget)) (clause_limit_of (option_map decimal limit)) hold ≡ Some it → it ≡ record { budget = unwrap_or budget 10000; clause_limit = unwrap_or limit 65536; hold = hold }
kept_is budget limit hold it low small e = go (budget_of (option_map decimal budget)) refl (clause_limit_of (option_map decimal limit)) refl e
  where
    go : (x : Option ℕ) → budget_of (option_map decimal budget) ≡ x → (y : Option ℕ) → clause_limit_of (option_map decimal limit) ≡ y → kept x y hold ≡ Some it
        → it ≡ record { budget = unwrap_or budget 10000; clause_limit = unwrap_or limit 65536; hold = hold }
    go None f y g h = absurd (let no : ⊥ = cc in no)
    go (Some b) f None g h = absurd (let no : ⊥ = cc in no)
    go (Some b) f (Some n) g h =
        let is : record { budget = b; clause_limit = n; hold = hold } ≡ it = cc in
        sym is
        ∙ ap (λ (k : ℕ). record { budget = k; clause_limit = n; hold = hold }) (number_told 1000000 10000 budget b low f)
        ∙ ap (λ (k : ℕ). record { budget = unwrap_or budget 10000; clause_limit = k; hold = hold }) (number_told 1000000 65536 limit n small g)

goals_some : (words : List Text) (goals : List Goal) → some_goals_of words ≡ Some goals → goals_of words ≡ Some goals
goals_some [] goals e = absurd (let no : ⊥ = cc in no)
goals_some (w ∷ words) goals e = e

module _ (budget limit : Option ℕ) (hold : Bool) (low : unwrap_or budget 10000 ≤ 1000000) (small : unwrap_or limit 65536 ≤ 1000000) where
  abbrev found : Option Settings
  found = kept (budget_of (option_map decimal budget)) (clause_limit_of (option_map decimal limit)) hold

  -- a job of an index and goals
  index_made : (make : Text → List Goal → ℕ → ℕ → Bool → Job) (path : Text) (goals : List Text) (job : Job)
      → option_and_then (λ (p : Text × List Goal). option_map (λ (s : Settings). make p.0 p.1 s.budget s.clause_limit s.hold) found) (index_and_goals (path ∷ goals)) ≡ Some job
      → (gs : List Goal) × AreGoals goals gs × (job ≡ make path gs (unwrap_or budget 10000) (unwrap_or limit 65536) hold)
  index_made make path goals job e = go (is_path path) (some_goals_of goals) refl found refl e
    where
      go : (t : Bool) (x : Option (List Goal)) → some_goals_of goals ≡ x → (y : Option Settings) → found ≡ y
          → option_and_then (λ (p : Text × List Goal). option_map (λ (s : Settings). make p.0 p.1 s.budget s.clause_limit s.hold) y) (cond t (option_map (λ gs. (path, gs)) x) None) ≡ Some job
          → (gs : List Goal) × AreGoals goals gs × (job ≡ make path gs (unwrap_or budget 10000) (unwrap_or limit 65536) hold)
      go false x f y g h = absurd (let no : ⊥ = cc in no)
      go true None f y g h = absurd (let no : ⊥ = cc in no)
      go true (Some gs) f None g h = absurd (let no : ⊥ = cc in no)
      go true (Some gs) f (Some it) g h =
          let is : make path gs it.budget it.clause_limit it.hold ≡ job = cc in
          (gs, goals_read goals gs (goals_some goals gs f), sym is ∙ ap (λ (s : Settings). make path gs s.budget s.clause_limit s.hold) (kept_is budget limit hold it low small g))

  -- and one of two paths
  paths_made : (make : Text → Text → ℕ → ℕ → Bool → Job) (first second : Text) (job : Job)
      → option_and_then (λ (p : Text × Text). option_map (λ (s : Settings). make p.0 p.1 s.budget s.clause_limit s.hold) found) (two_paths (first ∷ second ∷ [])) ≡ Some job
      → job ≡ make first second (unwrap_or budget 10000) (unwrap_or limit 65536) hold
  paths_made make first second job e = go (is_path first && is_path second) found refl e
    where
      go : (t : Bool) (y : Option Settings) → found ≡ y
          → option_and_then (λ (p : Text × Text). option_map (λ (s : Settings). make p.0 p.1 s.budget s.clause_limit s.hold) y) (cond t (Some (first, second)) None) ≡ Some job
          → job ≡ make first second (unwrap_or budget 10000) (unwrap_or limit 65536) hold
      go false y g h = absurd (let no : ⊥ = cc in no)
      go true None g h = absurd (let no : ⊥ = cc in no)
      go true (Some it) g h =
          let is : make first second it.budget it.clause_limit it.hold ≡ job = cc in
          sym is ∙ ap (λ (s : Settings). make first second s.budget s.clause_limit s.hold) (kept_is budget limit hold it low small g)

  -- the job of what is said
  job_said : (u : Usage) → Searches u → (words : List Text) → AreOrdinary words → (job : Job) → Asked u (number_words (codes "--budget") budget ++ (number_words (codes "--clause-limit") limit ++ (cond hold (codes "--hold" ∷ []) [] ++ words))) job
      → job_of_said (u, said_with (given_by budget limit hold) words) ≡ Some job
  job_said u s words o job a = subst (λ r. job_of_said (u, r) ≡ Some job) (sym (said_is u s budget limit hold words o a.said a.read_as)) a.asks_for

  -- two words, one of which may look like an option: with fewer than two ordinary ones there is no job
  pair_said : (u : Usage) → Searches u → (first second : Text) (job : Job)
      (a : Asked u (number_words (codes "--budget") budget ++ (number_words (codes "--clause-limit") limit ++ (cond hold (codes "--hold" ∷ []) [] ++ (first ∷ second ∷ [])))) job)
      → (length a.said.ordinary ≤ 1 → ⊥) → job_of_said (u, said_with (given_by budget limit hold) (first ∷ second ∷ [])) ≡ Some job
  pair_said u s first second job a few =
      subst (λ r. job_of_said (u, r) ≡ Some job) (sym (two_said u (given_by budget limit hold) first second a.said few (options_read u s budget limit hold (first ∷ second ∷ []) a.said a.read_as))) a.asks_for

  no_pair : (make : Text → Text → ℕ → ℕ → Bool → Job) (options : Options) (words : List Text) (job : Job) → length words ≤ 1
      → option_and_then (λ (p : Text × Text). option_map (λ (s : Settings). make p.0 p.1 s.budget s.clause_limit s.hold) (settings_by options)) (two_paths words) ≡ Some job → ⊥
  no_pair make options words job l e =
      let none : option_and_then (λ (p : Text × Text). option_map (λ (s : Settings). make p.0 p.1 s.budget s.clause_limit s.hold) (settings_by options)) (two_paths words) ≡ None
      = ap (option_and_then (λ (p : Text × Text). option_map (λ (s : Settings). make p.0 p.1 s.budget s.clause_limit s.hold) (settings_by options))) (short_words words l) in
      let no : ⊥ = cc (sym none ∙ e) in no

  no_kernel : value_of (codes "kernel") (given_by budget limit hold) ≡ None
  no_kernel = go budget limit hold
    where
      go : (b l : Option ℕ) (h : Bool) → value_of (codes "kernel") (given_by b l h) ≡ None
      go None None false = refl
      go None None true = refl
      go None (Some n) false = refl
      go None (Some n) true = refl
      go (Some b) None false = refl
      go (Some b) None true = refl
      go (Some b) (Some n) false = refl
      go (Some b) (Some n) true = refl

  pub query_words_ask : (path : Text) (goals : List Text) (job : Job) → AreOrdinary (path ∷ goals) → job_of (asking_words (codes "query") budget limit hold (path ∷ goals)) ≡ Some job
      → (gs : List Goal) × AreGoals goals gs × (job ≡ Query path gs (unwrap_or budget 10000) (unwrap_or limit 65536) hold)
  query_words_ask path goals job o e =
      let said = job_said query_usage record { budget_is = refl; limit_is = refl; hold_is = refl } (path ∷ goals) o job (asked query_usage _ job e) in
      let by : query_by None (options_in (given_by budget limit hold)) (path ∷ goals) ≡ Some job
      = subst (λ k. query_by k (options_in (given_by budget limit hold)) (path ∷ goals) ≡ Some job) no_kernel said in
      index_made Query path goals job
      (subst (λ settings. option_and_then (λ (p : Text × List Goal). option_map (λ (s : Settings). Query p.0 p.1 s.budget s.clause_limit s.hold) settings) (index_and_goals (path ∷ goals)) ≡ Some job) (settings_are budget limit hold) by)

  pub explain_words_ask : (path : Text) (goals : List Text) (job : Job) → AreOrdinary (path ∷ goals) → job_of (asking_words (codes "explain") budget limit hold (path ∷ goals)) ≡ Some job
      → (gs : List Goal) × AreGoals goals gs × (job ≡ Explain path gs (unwrap_or budget 10000) (unwrap_or limit 65536) hold)
  explain_words_ask path goals job o e =
      let said = job_said explain_usage record { budget_is = refl; limit_is = refl; hold_is = refl } (path ∷ goals) o job (asked explain_usage _ job e) in
      index_made Explain path goals job
      (subst (λ settings. option_and_then (λ (p : Text × List Goal). option_map (λ (s : Settings). Explain p.0 p.1 s.budget s.clause_limit s.hold) settings) (index_and_goals (path ∷ goals)) ≡ Some job) (settings_are budget limit hold) said)

  pub status_words_ask : (file index : Text) (job : Job) → job_of (asking_words (codes "status") budget limit hold (file ∷ index ∷ [])) ≡ Some job
      → job ≡ Status file index (unwrap_or budget 10000) (unwrap_or limit 65536) hold
  status_words_ask file index job e =
      let a = asked status_usage _ job e in
      let said = pair_said status_usage record { budget_is = refl; limit_is = refl; hold_is = refl } file index job a (λ l. no_pair Status (options_in a.said.given) a.said.ordinary job l a.asks_for) in
      paths_made Status file index job
      (subst (λ settings. option_and_then (λ (p : Text × Text). option_map (λ (s : Settings). Status p.0 p.1 s.budget s.clause_limit s.hold) settings) (two_paths (file ∷ index ∷ [])) ≡ Some job) (settings_are budget limit hold) said)

  pub migrate_words_ask : (old new : Text) (job : Job) → job_of (asking_words (codes "migrate") budget limit hold (old ∷ new ∷ [])) ≡ Some job
      → job ≡ Migrate old new (unwrap_or budget 10000) (unwrap_or limit 65536) hold
  migrate_words_ask old new job e =
      let a = asked migrate_usage _ job e in
      let said = pair_said migrate_usage record { budget_is = refl; limit_is = refl; hold_is = refl } old new job a (λ l. no_pair Migrate (options_in a.said.given) a.said.ordinary job l a.asks_for) in
      paths_made Migrate old new job
      (subst (λ settings. option_and_then (λ (p : Text × Text). option_map (λ (s : Settings). Migrate p.0 p.1 s.budget s.clause_limit s.hold) settings) (two_paths (old ∷ new ∷ [])) ≡ Some job) (settings_are budget limit hold) said)

-- a query of a stored kernel
stored_made : (kernel : Text) (budget : Option ℕ) (goals : List Text) (job : Job) → unwrap_or budget 10000 ≤ 1000000
    → cond (is_path kernel) (option_and_then (λ b. option_map (λ gs. StoredQuery kernel gs b) (some_goals_of goals)) (budget_of (option_map decimal budget))) None ≡ Some job
    → (gs : List Goal) × AreGoals goals gs × (job ≡ StoredQuery kernel gs (unwrap_or budget 10000))
stored_made kernel budget goals job low e = go (is_path kernel) (budget_of (option_map decimal budget)) refl (some_goals_of goals) refl e
  where
    go : (t : Bool) (x : Option ℕ) → budget_of (option_map decimal budget) ≡ x → (y : Option (List Goal)) → some_goals_of goals ≡ y
        → cond t (option_and_then (λ b. option_map (λ gs. StoredQuery kernel gs b) y) x) None ≡ Some job → (gs : List Goal) × AreGoals goals gs × (job ≡ StoredQuery kernel gs (unwrap_or budget 10000))
    go false x f y g h = absurd (let no : ⊥ = cc in no)
    go true None f y g h = absurd (let no : ⊥ = cc in no)
    go true (Some b) f None g h = absurd (let no : ⊥ = cc in no)
    go true (Some b) f (Some gs) g h =
        let is : StoredQuery kernel gs b ≡ job = cc in
        (gs, goals_read goals gs (goals_some goals gs g), sym is ∙ ap (λ k. StoredQuery kernel gs k) (number_told 1000000 10000 budget b low f))

pub stored_words_ask : (budget : Option ℕ) (kernel : Text) (goals : List Text) (job : Job) → unwrap_or budget 10000 ≤ 1000000 → AreOrdinary goals → job_of (stored_words budget kernel goals) ≡ Some job
    → (gs : List Goal) × AreGoals goals gs × (job ≡ StoredQuery kernel gs (unwrap_or budget 10000))
unfolding read
stored_words_ask budget kernel goals job low o e =
    let a = asked query_usage (codes "--kernel" ∷ kernel ∷ (number_words (codes "--budget") budget ++ goals)) job e in
    let given : List (Text × Text) = (codes "kernel", kernel) ∷ [] in
    let w : read query_usage (said_with given []) None (number_words (codes "--budget") budget ++ goals) ≡ Some a.said
    = word_waits query_usage kernel nothing_said (codes "kernel") (number_words (codes "--budget") budget ++ goals) a.said a.read_as in
    let b = number_read query_usage (codes "--budget") (codes "budget") refl budget given refl goals a.said w in
    let all = read_plain query_usage (given ++ number_given (codes "budget") budget) [] goals o in
    let is : said_with (given ++ number_given (codes "budget") budget) goals ≡ a.said = cc (sym all ∙ b) in
    let wanted : job_of_said (query_usage, said_with (given ++ number_given (codes "budget") budget) goals) ≡ Some job = subst (λ r. job_of_said (query_usage, r) ≡ Some job) (sym is) a.asks_for in
    stored_made kernel budget goals job low (by budget wanted)
  where
    by : (b : Option ℕ) → job_of_said (query_usage, said_with ((codes "kernel", kernel) ∷ number_given (codes "budget") b) goals) ≡ Some job
        → cond (is_path kernel) (option_and_then (λ k. option_map (λ gs. StoredQuery kernel gs k) (some_goals_of goals)) (budget_of (option_map decimal b))) None ≡ Some job
    by None h = h
    by (Some b) h = h
