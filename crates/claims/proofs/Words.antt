-- Which jobs the words of the two commands ask for.
use Rattle.std.proofs.Common.{◌≡◌, ℕ, ◌+◌, ◌^◌, ◌<◌, ◌≤◌, Bool, true, false, cond, ◌&&◌, List, [], ◌∷◌, ◌++◌, Option, Some, None, length, refl, sym, ap, ◌∙◌}
use Rattle.std.proofs.{Common.{subst, inl, inr, ◌⊎◌, arith, length-append, lit<}, lemmas.Fmt.{decimal_is_IsNumeral}}
use Rattle.std.specs.{Prelude.{codes, is_some, unwrap_or, option_and_then, option_map}, Fmt.{decimal, digits}, Str.Parse.{digits_value}}
use Rattle.coinst_words.specs.Usage.{Usage, Said, Meaning, ends, flag, gives, asks, plain, refused, nothing_said, meaning_of, value_of, give, say, read_word}
use Rattle.coinst_words.specs.{Usage.{read, Text}, Words.{is_path, is_number, is_within, number_or, clause_limit_of, budget_of, two_paths}}
use Rattle.coinst_words.specs.Jobs.{Options, kernel_usage, compare_usage, options_by, settings_by, kernel_job, compare_job, job_of_said}
use Rattle.coinst_words.specs.{declared.job.Job.{Job}, declared.job.Settings.{Settings}, declared.job.Job.TheVariants.{Kernel, Compare}}
use Rattle.claims.specs.Laws.{KernelWordsAsk, CompareWordsAsk, WordsAreTaken}

-- what is read behind a word has no more ordinary words than there are
abbrev Few : Said → List Text → (Said → Option Text → Option Said) → Type 0
Few r rest next = (s : Said) (w : Option Text) → next s w ≡ Some r → length r.ordinary ≤ length s.ordinary + length rest

given_few : (name value : Text) (said : Said) (rest : List Text) (next : Said → Option Text → Option Said) (r : Said) → Few r rest next → option_and_then (λ s. next s None) (give name value said) ≡ Some r
    → length r.ordinary ≤ length said.ordinary + length rest
given_few name value said rest next r few = go (is_some (value_of name said.given))
  where
    go : (b : Bool) → option_and_then (λ s. next s None) (cond b None (Some (record said { given = said.given ++ (name, value) ∷ [] }))) ≡ Some r → length r.ordinary ≤ length said.ordinary + length rest
    go true e = absurd (let no : ⊥ = cc in no)
    go false e = few (record said { given = said.given ++ (name, value) ∷ [] }) None e

-- a word is an ordinary one, or the ordinary words are no more than those behind it
step : (u : Usage) (m : Meaning) (word : Text) (said : Said) (rest : List Text) (next : Said → Option Text → Option Said) (r : Said) → Few r rest next → read_word u m word said None rest next ≡ Some r
    → (next (say (word ∷ []) said) None ≡ Some r) ⊎ (length r.ordinary ≤ length said.ordinary + length rest)
step u plain word said rest next r few e = inl e
step u ends word said rest next r few e =
    let is : say rest said ≡ r = cc in
    let long : length (say rest said).ordinary ≡ length said.ordinary + length rest = length-append said.ordinary rest in
    inr (subst (λ (s : Said). length s.ordinary ≤ length said.ordinary + length rest) is (omega (arith, long)))
step u (flag name) word said rest next r few e = inr (given_few name (codes "true") said rest next r few e)
step u (gives name value) word said rest next r few e = inr (given_few name value said rest next r few e)
step u (asks name) word said rest next r few e = inr (few said (Some name) e)
step u refused word said rest next r few e = absurd (let no : ⊥ = cc in no)

-- the value of an option that waits is a plain word
waits : (u : Usage) (m : Meaning) (word : Text) (said : Said) (name : Text) (rest : List Text) (next : Said → Option Text → Option Said) (r : Said) → read_word u m word said (Some name) rest next ≡ Some r
    → option_and_then (λ s. next s None) (give name word said) ≡ Some r
waits u plain word said name rest next r e = e
waits u ends word said name rest next r e = absurd (let no : ⊥ = cc in no)
waits u (flag f) word said name rest next r e = absurd (let no : ⊥ = cc in no)
waits u (gives f value) word said name rest next r e = absurd (let no : ⊥ = cc in no)
waits u (asks f) word said name rest next r e = absurd (let no : ⊥ = cc in no)
waits u refused word said name rest next r e = absurd (let no : ⊥ = cc in no)

few_read : (u : Usage) (words : List Text) (r : Said) → Few r words (λ s w. read u s w words)
unfolding read
few_read u [] r s None e = let is : s ≡ r = cc in subst (λ (t : Said). length t.ordinary ≤ length s.ordinary + 0) is (omega arith)
few_read u [] r s (Some name) e = absurd (let no : ⊥ = cc in no)
few_read u (word ∷ rest) r s None e =
    elim (step u (meaning_of u word) word s rest (λ s w. read u s w rest) r (few_read u rest r) e) [
      | inl next ↦
          let more : length r.ordinary ≤ length (s.ordinary ++ word ∷ []) + length rest = few_read u rest r (say (word ∷ []) s) None next in
          omega (arith, more, length-append s.ordinary (word ∷ []))
      | inr few ↦ omega (arith, few)
    ]
few_read u (word ∷ rest) r s (Some name) e =
    let less : length r.ordinary ≤ length s.ordinary + length rest = given_few name word s rest (λ s w. read u s w rest) r (few_read u rest r) (waits u (meaning_of u word) word s name rest (λ s w. read u s w rest) r e) in
    omega (arith, less)

-- an ordinary word, as `step` has it of what is read
word_step : (u : Usage) (word : Text) (said : Said) (rest : List Text) (r : Said) → read u said None (word ∷ rest) ≡ Some r
    → (read u (say (word ∷ []) said) None rest ≡ Some r) ⊎ (length r.ordinary ≤ length said.ordinary + length rest)
unfolding read
word_step u word said rest r e = step u (meaning_of u word) word said rest (λ s w. read u s w rest) r (few_read u rest r) e

pub word_waits : (u : Usage) (word : Text) (said : Said) (name : Text) (rest : List Text) (r : Said) → read u said (Some name) (word ∷ rest) ≡ Some r → option_and_then (λ s. read u s None rest) (give name word said) ≡ Some r
unfolding read
word_waits u word said name rest r e = waits u (meaning_of u word) word said name rest (λ s w. read u s w rest) r e

-- the words said first
abbrev pub said_with : List (Text × Text) → List Text → Said
said_with given words = record { given = given; ordinary = words }

read_all : (u : Usage) (s r : Said) → read u s None [] ≡ Some r → s ≡ r
unfolding read
read_all u s r e = cc

-- the job of what is read behind a command's name
pub record Asked (u : Usage) (words : List Text) (job : Job) : Type 0 where
  pub said : Said
  pub read_as : read u nothing_said None words ≡ Some said
  pub asks_for : job_of_said (u, said) ≡ Some job

pub asked : (u : Usage) (words : List Text) (job : Job) → option_and_then job_of_said (option_map (λ said. (u, said)) (read u nothing_said None words)) ≡ Some job → Asked u words job
asked u words job e = go (read u nothing_said None words) refl e
  where
    go : (found : Option Said) → read u nothing_said None words ≡ found → option_and_then job_of_said (option_map (λ said. (u, said)) found) ≡ Some job → Asked u words job
    go None at h = absurd (let no : ⊥ = cc in no)
    go (Some said) at h = record { said = said; read_as = at; asks_for = h }

-- the options that were given
abbrev pub options_in : List (Text × Text) → Options
options_in given = options_by (λ name. value_of name given)

no_words : (options : Options) (words : List Text) → length words ≤ 0 → kernel_job options words ≡ None
no_words options [] l = refl
no_words options (w ∷ words) l = absurd (omega arith)

kernel_tail : (given : List (Text × Text)) (path : Text) (r : Said) (job : Job) → read kernel_usage (said_with given []) None (path ∷ []) ≡ Some r → job_of_said (kernel_usage, r) ≡ Some job
    → kernel_job (options_in given) (path ∷ []) ≡ Some job
kernel_tail given path r job e wanted =
    elim (word_step kernel_usage path (said_with given []) [] r e) [
      | inl last ↦
          let is : say (path ∷ []) (said_with given []) ≡ r = read_all kernel_usage (say (path ∷ []) (said_with given [])) r last in
          subst (λ (s : Said). kernel_job (options_in s.given) s.ordinary ≡ Some job) (sym is) wanted
      | inr none ↦
          let nothing : kernel_job (options_in r.given) r.ordinary ≡ None = no_words (options_in r.given) r.ordinary (omega (arith, none)) in
          absurd (let no : ⊥ = cc (sym nothing ∙ wanted) in no)
    ]

-- the number of an option
pub number_told : (most default : ℕ) (limit : Option ℕ) (n : ℕ) → unwrap_or limit default ≤ 1000000 → number_or 1 most default (option_map decimal limit) ≡ Some n → n ≡ unwrap_or limit default
number_told most default None n low e = let is : default ≡ n = cc in sym is
number_told most default (Some m) n low e =
    let value : digits_value 10 (decimal m) ≡ m = (decimal_is_IsNumeral m (let top : 1000000 < 2 ^ 64 = lit< tt in omega (arith, top, low))).1 in
    go (is_number (decimal m) && is_within 1 most (digits_value 10 (decimal m))) value e
  where
    go : (b : Bool) → digits_value 10 (decimal m) ≡ m → cond b (Some (digits_value 10 (decimal m))) None ≡ Some n → n ≡ m
    go true value e = let is : digits_value 10 (decimal m) ≡ n = cc in sym is ∙ value
    go false value e = absurd (let no : ⊥ = cc in no)

-- what is kept to by these numbers
abbrev pub kept : Option ℕ → Option ℕ → Bool → Option Settings
kept budget limit hold = option_and_then (λ b. option_map (λ n. record { budget = b; clause_limit = n; hold = hold }) limit) budget

kernel_made : (path : Text) (json hold : Bool) (found : Option ℕ) (n : ℕ) (job : Job) → ((m : ℕ) → found ≡ Some m → m ≡ n)
    → cond (is_path path) (option_map (λ (s : Settings). Kernel path json s.clause_limit s.hold) (kept (Some 10000) found hold)) None ≡ Some job → job ≡ Kernel path json n hold
kernel_made path json hold found n job told e = go (is_path path) found refl e
  where
    go : (b : Bool) (it : Option ℕ) → found ≡ it → cond b (option_map (λ (s : Settings). Kernel path json s.clause_limit s.hold) (kept (Some 10000) it hold)) None ≡ Some job → job ≡ Kernel path json n hold
    go false it at h = absurd (let no : ⊥ = cc in no)
    go true None at h = absurd (let no : ⊥ = cc in no)
    go true (Some m) at h = let is : Kernel path json m hold ≡ job = cc in sym is ∙ ap (λ k. Kernel path json k hold) (told m at)

pub kernel_words_ask : KernelWordsAsk
unfolding read
kernel_words_ask None false path job low e =
    let a = asked kernel_usage (path ∷ []) job e in
    kernel_made path false false (clause_limit_of None) 65536 job (λ m h. number_told 1000000 65536 None m low h) (kernel_tail [] path a.said job a.read_as a.asks_for)
kernel_words_ask None true path job low e =
    let a = asked kernel_usage (codes "--hold" ∷ path ∷ []) job e in
    kernel_made path false true (clause_limit_of None) 65536 job (λ m h. number_told 1000000 65536 None m low h) (kernel_tail ((codes "hold", codes "true") ∷ []) path a.said job a.read_as a.asks_for)
kernel_words_ask (Some n) false path job low e =
    let a = asked kernel_usage (codes "--clause-limit" ∷ decimal n ∷ path ∷ []) job e in
    let w = word_waits kernel_usage (decimal n) nothing_said (codes "clause-limit") (path ∷ []) a.said a.read_as in
    kernel_made path false false (clause_limit_of (Some (decimal n))) n job (λ m h. number_told 1000000 65536 (Some n) m low h) (kernel_tail ((codes "clause-limit", decimal n) ∷ []) path a.said job w a.asks_for)
kernel_words_ask (Some n) true path job low e =
    let a = asked kernel_usage (codes "--clause-limit" ∷ decimal n ∷ codes "--hold" ∷ path ∷ []) job e in
    let w = word_waits kernel_usage (decimal n) nothing_said (codes "clause-limit") (codes "--hold" ∷ path ∷ []) a.said a.read_as in
    kernel_made path false true (clause_limit_of (Some (decimal n))) n job (λ m h. number_told 1000000 65536 (Some n) m low h) (kernel_tail ((codes "clause-limit", decimal n) ∷ (codes "hold", codes "true") ∷ []) path a.said job w a.asks_for)

pub short_words : (words : List Text) → length words ≤ 1 → two_paths words ≡ None
short_words [] l = refl
short_words (w ∷ []) l = refl
short_words (w ∷ v ∷ words) l = absurd (omega arith)

-- two words that are not fewer when they are read are the two that are said
pub two_said : (u : Usage) (given : List (Text × Text)) (first second : Text) (r : Said) → (length r.ordinary ≤ 1 → ⊥) → read u (said_with given []) None (first ∷ second ∷ []) ≡ Some r → said_with given (first ∷ second ∷ []) ≡ r
two_said u given first second r few e =
    elim (word_step u first (said_with given []) (second ∷ []) r e) [
      | inl next ↦ elim (word_step u second (said_with given (first ∷ [])) [] r next) [
        | inl last ↦ read_all u (said_with given (first ∷ second ∷ [])) r last
        | inr one ↦ absurd (few (omega (arith, one)))
      ]
      | inr one ↦ absurd (few (omega (arith, one)))
    ]

too_few : (options : Options) (words : List Text) (job : Job) → length words ≤ 1 → compare_job options words ≡ Some job → ⊥
too_few options words job l e =
    let none : compare_job options words ≡ None = ap (option_and_then (λ p. option_map (λ s. Compare p.0 p.1 s.budget s.clause_limit s.hold) (settings_by options))) (short_words words l) in
    let no : ⊥ = cc (sym none ∙ e) in no

compare_tail : (given : List (Text × Text)) (old new : Text) (r : Said) (job : Job) → read compare_usage (said_with given []) None (old ∷ new ∷ []) ≡ Some r → job_of_said (compare_usage, r) ≡ Some job
    → compare_job (options_in given) (old ∷ new ∷ []) ≡ Some job
compare_tail given old new r job e wanted =
    subst (λ (s : Said). compare_job (options_in s.given) s.ordinary ≡ Some job) (sym (two_said compare_usage given old new r (λ l. too_few (options_in r.given) r.ordinary job l wanted) e)) wanted

compare_made : (old new : Text) (hold : Bool) (budget limit : Option ℕ) (b n : ℕ) (job : Job) → ((m : ℕ) → budget ≡ Some m → m ≡ b) → ((m : ℕ) → limit ≡ Some m → m ≡ n)
    → option_and_then (λ (p : Text × Text). option_map (λ (s : Settings). Compare p.0 p.1 s.budget s.clause_limit s.hold) (kept budget limit hold)) (two_paths (old ∷ new ∷ [])) ≡ Some job → job ≡ Compare old new b n hold
compare_made old new hold budget limit b n job told_budget told_limit e = go (is_path old && is_path new) budget refl limit refl e
  where
    go : (t : Bool) (x : Option ℕ) → budget ≡ x → (y : Option ℕ) → limit ≡ y
        → option_and_then (λ (p : Text × Text). option_map (λ (s : Settings). Compare p.0 p.1 s.budget s.clause_limit s.hold) (kept x y hold)) (cond t (Some (old, new)) None) ≡ Some job → job ≡ Compare old new b n hold
    go false x f y g h = absurd (let no : ⊥ = cc in no)
    go true None f y g h = absurd (let no : ⊥ = cc in no)
    go true (Some k) f None g h = absurd (let no : ⊥ = cc in no)
    go true (Some k) f (Some m) g h = let is : Compare old new k m hold ≡ job = cc in sym is ∙ ap (λ i. Compare old new i m hold) (told_budget k f) ∙ ap (λ i. Compare old new b i hold) (told_limit m g)

pub compare_words_ask : CompareWordsAsk
unfolding read
compare_words_ask None None false old new job low small e =
    let a = asked compare_usage (old ∷ new ∷ []) job e in
    compare_made old new false (budget_of None) (clause_limit_of None) 10000 65536 job (λ m h. number_told 1000000 10000 None m low h) (λ m h. number_told 1000000 65536 None m small h)
    (compare_tail [] old new a.said job a.read_as a.asks_for)
compare_words_ask None None true old new job low small e =
    let a = asked compare_usage (codes "--hold" ∷ old ∷ new ∷ []) job e in
    compare_made old new true (budget_of None) (clause_limit_of None) 10000 65536 job (λ m h. number_told 1000000 10000 None m low h) (λ m h. number_told 1000000 65536 None m small h)
    (compare_tail ((codes "hold", codes "true") ∷ []) old new a.said job a.read_as a.asks_for)
compare_words_ask None (Some n) false old new job low small e =
    let a = asked compare_usage (codes "--clause-limit" ∷ decimal n ∷ old ∷ new ∷ []) job e in
    let w = word_waits compare_usage (decimal n) nothing_said (codes "clause-limit") (old ∷ new ∷ []) a.said a.read_as in
    compare_made old new false (budget_of None) (clause_limit_of (Some (decimal n))) 10000 n job (λ m h. number_told 1000000 10000 None m low h) (λ m h. number_told 1000000 65536 (Some n) m small h)
    (compare_tail ((codes "clause-limit", decimal n) ∷ []) old new a.said job w a.asks_for)
compare_words_ask None (Some n) true old new job low small e =
    let a = asked compare_usage (codes "--clause-limit" ∷ decimal n ∷ codes "--hold" ∷ old ∷ new ∷ []) job e in
    let w = word_waits compare_usage (decimal n) nothing_said (codes "clause-limit") (codes "--hold" ∷ old ∷ new ∷ []) a.said a.read_as in
    compare_made old new true (budget_of None) (clause_limit_of (Some (decimal n))) 10000 n job (λ m h. number_told 1000000 10000 None m low h) (λ m h. number_told 1000000 65536 (Some n) m small h)
    (compare_tail ((codes "clause-limit", decimal n) ∷ (codes "hold", codes "true") ∷ []) old new a.said job w a.asks_for)
compare_words_ask (Some b) None false old new job low small e =
    let a = asked compare_usage (codes "--budget" ∷ decimal b ∷ old ∷ new ∷ []) job e in
    let v = word_waits compare_usage (decimal b) nothing_said (codes "budget") (old ∷ new ∷ []) a.said a.read_as in
    compare_made old new false (budget_of (Some (decimal b))) (clause_limit_of None) b 65536 job (λ m h. number_told 1000000 10000 (Some b) m low h) (λ m h. number_told 1000000 65536 None m small h)
    (compare_tail ((codes "budget", decimal b) ∷ []) old new a.said job v a.asks_for)
compare_words_ask (Some b) None true old new job low small e =
    let a = asked compare_usage (codes "--budget" ∷ decimal b ∷ codes "--hold" ∷ old ∷ new ∷ []) job e in
    let v = word_waits compare_usage (decimal b) nothing_said (codes "budget") (codes "--hold" ∷ old ∷ new ∷ []) a.said a.read_as in
    compare_made old new true (budget_of (Some (decimal b))) (clause_limit_of None) b 65536 job (λ m h. number_told 1000000 10000 (Some b) m low h) (λ m h. number_told 1000000 65536 None m small h)
    (compare_tail ((codes "budget", decimal b) ∷ (codes "hold", codes "true") ∷ []) old new a.said job v a.asks_for)
compare_words_ask (Some b) (Some n) false old new job low small e =
    let a = asked compare_usage (codes "--budget" ∷ decimal b ∷ codes "--clause-limit" ∷ decimal n ∷ old ∷ new ∷ []) job e in
    let v = word_waits compare_usage (decimal b) nothing_said (codes "budget") (codes "--clause-limit" ∷ decimal n ∷ old ∷ new ∷ []) a.said a.read_as in
    let w = word_waits compare_usage (decimal n) (said_with ((codes "budget", decimal b) ∷ []) []) (codes "clause-limit") (old ∷ new ∷ []) a.said v in
    compare_made old new false (budget_of (Some (decimal b))) (clause_limit_of (Some (decimal n))) b n job (λ m h. number_told 1000000 10000 (Some b) m low h) (λ m h. number_told 1000000 65536 (Some n) m small h)
    (compare_tail ((codes "budget", decimal b) ∷ (codes "clause-limit", decimal n) ∷ []) old new a.said job w a.asks_for)
compare_words_ask (Some b) (Some n) true old new job low small e =
    let a = asked compare_usage (codes "--budget" ∷ decimal b ∷ codes "--clause-limit" ∷ decimal n ∷ codes "--hold" ∷ old ∷ new ∷ []) job e in
    let v = word_waits compare_usage (decimal b) nothing_said (codes "budget") (codes "--clause-limit" ∷ decimal n ∷ codes "--hold" ∷ old ∷ new ∷ []) a.said a.read_as in
    let w = word_waits compare_usage (decimal n) (said_with ((codes "budget", decimal b) ∷ []) []) (codes "clause-limit") (codes "--hold" ∷ old ∷ new ∷ []) a.said v in
    compare_made old new true (budget_of (Some (decimal b))) (clause_limit_of (Some (decimal n))) b n job (λ m h. number_told 1000000 10000 (Some b) m low h) (λ m h. number_told 1000000 65536 (Some n) m small h)
    (compare_tail ((codes "budget", decimal b) ∷ (codes "clause-limit", decimal n) ∷ (codes "hold", codes "true") ∷ []) old new a.said job w a.asks_for)

pub words_are_taken : WordsAreTaken
unfolding read digits
words_are_taken = record { kernel = refl; kernel_with_options = refl; compare = refl; compare_with_options = refl }
