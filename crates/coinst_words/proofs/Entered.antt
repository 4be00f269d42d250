-- From the matches of a command to the job of the words.
use Rattle.std.proofs.Common.{◌≡◌, ◌∙◌, ◌&&◌, Bool, true, false, not, refl, sym, ap, ap₂, subst, codes, List, [], ◌∷◌, Option, Some, None}
use Rattle.std.proofs.lemmas.Bool.{and_parts}
use Rattle.std.specs.{List.{find, list_all}, Option.{option_map, unwrap_or}, Prelude.{option_and_then, slice_get, Box}, Str.{bytes_eq}, Box.{box_value}}
use Rattle.clap.specs.{Matches.{found_of, first_value, matched_of, raw_values, subcommand_name_of}, Simple.{subcommand_rows, subcommand_rows_of}}
use Rattle.clap.specs.{declared.parser.matches.SubCommand.{SubCommand}, Walk.{Row, all_of, first_of, rows_of}, declared.parser.matches.ArgMatches.{ArgMatches}}
use Rattle.clap.specs.{declared.parser.matches.ArgMatches.TheViews.{out-ArgMatches, out-SubCommand}, declared.parser.matches.Found.{Found}}
use Rattle.clap.proofs.WalkLemmas.{first_value-rows, raw_values-rows}
use Rattle.coinst_words.specs.{Parsed.{HoldSaid, Enters, row_values, words_in}, Jobs.{job_named, job_of, job_of_said, options_by, usages}, Words.{is_on}}
use Rattle.coinst_words.specs.{Usage.{Said, Text, Usage, is_among, nothing_said, read, said_by, said_of, value_of}, declared.job.Job.{Job}}

-- the options that have a value are no flags
has_valued : Usage → Bool
has_valued u = not (is_among u.flags (codes "kernel")) && (not (is_among u.flags (codes "budget")) && not (is_among u.flags (codes "clause-limit")))

not_true : (b : Bool) → not b ≡ true → b ≡ false
not_true false e = refl
not_true true e = cc

-- ---- what the getters read

first_is : (name : Text) (rows : List Row) → first_of name rows ≡ option_and_then (λ vs. slice_get vs 0) (all_of name rows)
first_is name rows = go (find (λ r. bytes_eq r.id name) rows)
  where
    go : (o : Option Row) → option_and_then (λ (r : Row). slice_get r.values 0) o ≡ option_and_then (λ vs. slice_get vs 0) (option_map (λ (r : Row). r.values) o)
    go None = refl
    go (Some r) = refl

module _ (u : Usage) (said : Said) (f : Found) (ends : HoldSaid u (rows_of f) said) where
  value_is : (name : Text) → bytes_eq name (codes "words") ≡ false → is_among u.flags name ≡ false → value_of name said.given ≡ first_value f name
  value_is name plain none =
      sym (first_value-rows f name ∙ first_is name (rows_of f) ∙ ap (option_and_then (λ vs. slice_get vs 0)) (ends.valued name plain none) ∙ go (value_of name said.given))
    where
      go : (o : Option Text) → option_and_then (λ vs. slice_get vs 0) (option_map (λ v. v ∷ []) o) ≡ o
      go None = refl
      go (Some v) = refl

  flag_is : (name : Text) → bytes_eq name (codes "words") ≡ false → is_among u.flags name ≡ true → is_on (value_of name said.given) ≡ is_on (first_value f name)
  flag_is name plain some =
      sym (ap is_on (first_value-rows f name ∙ first_is name (rows_of f) ∙ ap (option_and_then (λ vs. slice_get vs 0)) (ends.flags name plain some)) ∙ go (value_of name said.given))
    where
      go : (o : Option Text) → is_on (Some (unwrap_or o (codes "false"))) ≡ is_on o
      go None = refl
      go (Some v) = refl

  words_are : said.ordinary ≡ words_in f
  words_are = sym (ap (λ o. unwrap_or o []) (raw_values-rows f (codes "words") ∙ ends.ordinary) ∙ go said.ordinary)
    where
      go : (xs : List Text) → unwrap_or (row_values xs) [] ≡ xs
      go [] = refl
      go (x ∷ xs) = refl

  on_is : (name : Text) → bytes_eq name (codes "words") ≡ false → is_on (value_of name said.given) ≡ is_on (first_value f name)
  on_is name plain = go (is_among u.flags name) refl
    where
      go : (b : Bool) → is_among u.flags name ≡ b → is_on (value_of name said.given) ≡ is_on (first_value f name)
      go true e = flag_is name plain e
      go false e = ap is_on (value_is name plain e)

  options_are : has_valued u ≡ true → options_by (λ n. value_of n said.given) ≡ options_by (first_value f)
  unfolding has_valued
  options_are plain =
      let kernel = value_is (codes "kernel") refl (not_true _ (and_parts _ _ plain).0) in
      let budget = value_is (codes "budget") refl (not_true _ (and_parts _ _ (and_parts _ _ plain).1).0) in
      let limit = value_is (codes "clause-limit") refl (not_true _ (and_parts _ _ (and_parts _ _ plain).1).1) in
      let json = on_is (codes "json") refl in
      let hold = on_is (codes "hold") refl in
      cc

-- ---- the job of each command

-- the options that have a value have one in each command
all_valued : list_all has_valued usages ≡ true
unfolding has_valued
all_valued = refl

found_valued : (us : List Usage) → list_all has_valued us ≡ true → (x : Text) (u : Usage) → find (λ v. bytes_eq v.name x) us ≡ Some u → has_valued u ≡ true
found_valued [] all x u e = cc
found_valued (v ∷ us) all x u e = go (bytes_eq v.name x) refl (found_valued us (and_parts _ _ all).1 x u)
  where
    go : (b : Bool) → bytes_eq v.name x ≡ b → (find (λ w. bytes_eq w.name x) us ≡ Some u → has_valued u ≡ true) → has_valued u ≡ true
    go true d rest =
        let same : Some v ≡ Some u = rw d at e in
        let is : v ≡ u = cc in
        ap has_valued (sym is) ∙ (and_parts _ _ all).0
    go false d rest = let later : find (λ w. bytes_eq w.name x) us ≡ Some u = rw d at e in rest later

said_valued : (ws : List Text) (p : Usage × Said) → said_of usages ws ≡ Some p → has_valued p.0 ≡ true
said_valued [] p e = cc
said_valued (x ∷ rest) p e = go (find (λ v. bytes_eq v.name x) usages) refl e
  where
    go : (o : Option Usage) → find (λ v. bytes_eq v.name x) usages ≡ o → said_by o rest ≡ Some p → has_valued p.0 ≡ true
    go None d h = cc
    go (Some u) d h = by (read u nothing_said None rest) h
      where
        by : (s : Option Said) → option_map (λ said. (u, said)) s ≡ Some p → has_valued p.0 ≡ true
        by None h = cc
        by (Some said) h = subst (λ (w : Usage). has_valued w ≡ true) (ap (λ (o : Option (Usage × Said)). (unwrap_or o (u, said)).0) h) (found_valued usages all_valued x u d)

-- what was said gives the job that the getters give
same_job : (u : Usage) (said : Said) (f : Found) → HoldSaid u (rows_of f) said → has_valued u ≡ true
    → job_named u.name (options_by (λ n. value_of n said.given)) said.ordinary ≡ job_named u.name (options_by (first_value f)) (words_in f)
same_job u said f ends plain = ap₂ (job_named u.name) (options_are u said f ends plain) (words_are u said f ends)

-- ---- the command that was entered

name_of : {Z : Type 0} (o : Option (Box SubCommand Z)) → option_map (λ b. (out-SubCommand (box_value b)).name.now) o ≡ option_map (λ (p : Text × List Row). p.0) (subcommand_rows o)
name_of None = refl
name_of (Some b) = refl

name_by_rows : (m : ArgMatches) → subcommand_name_of m ≡ option_map (λ (p : Text × List Row). p.0) (subcommand_rows_of m)
name_by_rows m = name_of (out-ArgMatches m).subcommand

pub job_is : (ws : List Text) (m : ArgMatches) (name : Text) (given : ArgMatches) → Enters (said_of usages ws) m → Some name ≡ subcommand_name_of m → Some (rows_of (found_of given)) ≡ option_map (λ p. p.1) (subcommand_rows_of m)
    → job_named name (options_by (first_value (found_of given))) (words_in (found_of given)) ≡ job_of ws
job_is ws m name given enters name_is rows_is = go (said_of usages ws) refl enters
  where
    go : (o : Option (Usage × Said)) → said_of usages ws ≡ o → Enters o m → job_named name (options_by (first_value (found_of given))) (words_in (found_of given)) ≡ job_of ws
    go None e bad = absurd bad
    go (Some p) e in_it =
        let same_name : name ≡ p.0.name = ap (λ o. unwrap_or o name) (name_is ∙ name_by_rows m ∙ ap (option_map (λ (q : Text × List Row). q.0)) in_it.1) in
        let same_rows : rows_of (found_of given) ≡ in_it.0 = ap (λ o. unwrap_or o (rows_of (found_of given))) (rows_is ∙ ap (option_map (λ (q : Text × List Row). q.1)) in_it.1) in
        let ends : HoldSaid p.0 (rows_of (found_of given)) p.1 = subst (λ (rs : List Row). HoldSaid p.0 rs p.1) (sym same_rows) in_it.2 in
        ap (λ n. job_named n (options_by (first_value (found_of given))) (words_in (found_of given))) same_name ∙ sym (same_job p.0 p.1 (found_of given) ends (said_valued ws p e))
        ∙ sym (ap (option_and_then job_of_said) e)

-- where no command was entered the words give no job
pub no_job : (ws : List Text) (m : ArgMatches) → Enters (said_of usages ws) m → None ≡ subcommand_name_of m → job_of ws ≡ None
no_job ws m enters none = go (said_of usages ws) enters
  where
    go : (o : Option (Usage × Said)) → Enters o m → job_of ws ≡ None
    go None bad = absurd bad
    go (Some p) in_it = let is : None ≡ Some p.0.name = none ∙ name_by_rows m ∙ ap (option_map (λ (q : Text × List Row). q.0)) in_it.1 in cc
