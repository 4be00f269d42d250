-- From what `clap` promises of a parse to what the words say.
use Rattle.std.proofs.Common.{◌≡◌, inl, inr, ◌∙◌, Bool, true, not, ◌&&◌, codes, refl, sym, ap, subst, List, [], ◌∷◌, Option, Some, None}
use Rattle.std.proofs.lemmas.Bool.{and_parts, not-true}
use Rattle.clap.specs.{Kinds.{HasKind, Kinds}, Faults.{fault_of, is_simple_and_free}, Simple.{App, HasMatchesOf, is_simple, subcommand_of, subcommand_rows_of}}
use Rattle.clap.specs.{Values.{kind_of}, declared.error.Error.{Error}}
use Rattle.clap.specs.declared.error.kind.ErrorKind.TheVariants as kind
use Rattle.clap.specs.declared.parser.matches.ArgMatches.{ArgMatches}
use Rattle.coinst_words.specs.declared.error.WordError.{WordError}
use Rattle.coinst_words.specs.declared.error.WordError.TheVariants as words
use Rattle.coinst_words.specs.{Refusals.{OnNotACommand}, Parsed.{Enters}, Jobs.{usages}, Usage.{Said, Text, Usage, is_among, said_of}, Program.{app_of_usages}}
use Rattle.coinst_words.proofs.{Reading.{AllSpell}, Apps.{AllGood, TopAgrees, top_agrees}}

-- no option of a command is named as its other words are
abbrev are_good : List Usage → Bool
are_good [] = true
are_good (u ∷ us) = (not (is_among u.flags (codes "words")) && not (is_among u.valued (codes "words"))) && are_good us

good_from : (us : List Usage) → are_good us ≡ true → AllGood us
good_from [] e = tt
good_from (u ∷ us) e =
    let flags : Bool = is_among u.flags (codes "words") in
    let valued : Bool = is_among u.valued (codes "words") in
    let w = and_parts (not flags && not valued) (are_good us) e in
    let v = and_parts (not flags) (not valued) w.0 in (record { flags = not-true flags v.0; valued = not-true valued v.1 }, good_from us w.1)

good_usages : AllGood usages
good_usages = good_from usages refl

simple_usages : is_simple (app_of_usages usages) ≡ true
simple_usages = refl

free_usages : is_simple_and_free (app_of_usages usages) ≡ true
free_usages = refl

module _ (a : App) (is : a ≡ app_of_usages usages) (ws : List Text) (all : AllSpell ws) where
  agrees : TopAgrees (said_of usages ws) (fault_of (app_of_usages usages) ws) (subcommand_of (app_of_usages usages) ws)
  agrees = top_agrees usages good_usages ws all

  pub enters : (m : ArgMatches) → HasMatchesOf a ws m → (is_simple_and_free a ≡ true → fault_of a ws ≡ []) → Enters (said_of usages ws) m
  enters m has faults = go (said_of usages ws) agrees
    where
      no_fault : fault_of (app_of_usages usages) ws ≡ []
      no_fault = ap (λ b. fault_of b ws) (sym is) ∙ faults (ap is_simple_and_free is ∙ free_usages)

      sub : subcommand_rows_of m ≡ subcommand_of (app_of_usages usages) ws
      sub = (has (ap is_simple is ∙ simple_usages)).1 ∙ ap (λ b. subcommand_of b ws) is

      go : (o : Option (Usage × Said)) → TopAgrees o (fault_of (app_of_usages usages) ws) (subcommand_of (app_of_usages usages) ws) → Enters o m
      go None bad = bad no_fault
      go (Some p) fine = (fine.0, sub ∙ fine.2, fine.3)

  pub refused : (e : Error) → (is_simple_and_free a ≡ true → HasKind (fault_of a ws) e) → (kind_of e ≡ kind.OutOfMemory → ⊥) → said_of usages ws ≡ None
  refused e kinds other = go (said_of usages ws) agrees
    where
      some : HasKind (fault_of (app_of_usages usages) ws) e
      some = subst (λ (b : App). HasKind (fault_of b ws) e) is (kinds (ap is_simple_and_free is ∙ free_usages))

      go : (o : Option (Usage × Said)) → TopAgrees o (fault_of (app_of_usages usages) ws) (subcommand_of (app_of_usages usages) ws) → o ≡ None
      go None bad = refl
      go (Some p) fine = absurd (elim (subst (λ (k : Kinds). HasKind k e) fine.1 some) [ inl h ↦ other h | inr h ↦ h ])

pub on_refusal : (P Q : Type 0) (e : WordError) → (P → Q) → OnNotACommand P e → OnNotACommand Q e
on_refusal P Q words.NotACommand f p = f p
on_refusal P Q words.Memory f p = p
