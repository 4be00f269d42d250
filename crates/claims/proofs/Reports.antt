-- Reports on an empty index of which the sentences are true.
use Rattle.std.proofs.Common.{◌≡◌, ℕ, ◌<◌, true, false, List, [], ◌∷◌, None, eqb, length, ltb-true, refl, sym, ap, ap₂, subst, ◌∙◌, arith, inl, inr}
use Rattle.std.specs.{Prelude.{codes, ltb}, Fmt.{digits}, List.{AllZip}}
use Rattle.coinst_words.specs.Usage.{Text}
use Rattle.suite_compare.specs.Indexes.{SearchedIndex, searched}
use Rattle.kernel_text.specs.{KernelText.{kernel_text, members_of}, declared.member.Member.{Member}}
use Rattle.kernel_text.proofs.StoredReading.{one_reading}
use Rattle.listed.specs.Lists.{In, has, here}
use Rattle.listed.proofs.Lists.{In_none, filter_cases}
use Rattle.relation_fields.specs.declared.packages.PackageFacts.{PackageFacts}
use Rattle.repo_model.specs.{FirstFault.{first_fault}, Stanzas.{HealthyStanzas}}
use Rattle.row_book.specs.Repository.{Healthy}
use Rattle.search_terms.specs.{declared.literals.Literal.{Literal}, Closure.{InClosure}, Form.{form}}
use Rattle.status_check.specs.declared.report.OwnState.TheVariants.{Healthy as Standing}
use Rattle.suite_compare.specs.Refusals.{home_in, packages_in}
use Rattle.claims.specs.{Certificates.{AreClassesFor, IsTooLong}, Control.{stanza_groups}, Index.{GroupsSay, SaysTheSame}}
use Rattle.claims.specs.Laws.{TrueReports, empty_index, kernel_printed, no_classes, no_home, no_packages, no_repository, as_read}
use Rattle.claims.specs.{Search.{Searched, SplitsOn, found}, Settled.{IsKernelText, IsPastBudget}, Sentences.{IsFaithfulPlan, IsFaithfulSystem, suite_yes}}
use Rattle.claims.specs.Sentences.IsFaithfulAnswer.{yes as answer_yes}
use Rattle.claims.specs.Sentences.IsFaithfulStoredAnswer.{yes as classes_yes}
use Rattle.claims.specs.Sentences.IsFaithfulExplanation.{yes as yes_printed}
use Rattle.claims.proofs.{Acceptance.{indexes_are_accepted}, Empty.{it_stands, no_middle, nothing_said}, Index.{indexes_are_one, indexes_are_read}}
use Rattle.claims.proofs.{KernelTexts.{people}, KernelsAreOne.{kernel_texts_are_one}, PrintedKernels.{kernel_texts_are_there}, Search.{searches_are_one}}
use Rattle.claims.proofs.Wrong.{empty_groups, meets_none, nothing}

fine : first_fault [] ≡ None
fine = indexes_are_accepted [] no_home [] nothing_said (omega arith)

abbrev index : SearchedIndex
index = searched [] 10000 65536 false

nothing_behind : {A B : Type 0} (R : A → B → Type 0) (xs : List A) → AllZip R xs [] → xs ≡ []
nothing_behind R [] z = refl
nothing_behind R (x ∷ xs) z = absurd z

empty_is : as_read index ≡ empty_index
empty_is =
    let one = indexes_are_one [] (home_in []) no_home (packages_in []) [] (indexes_are_read [] fine) nothing_said in
    ap₂ (λ home (stanzas : List PackageFacts). record { text = []; home = home; stanzas = stanzas; limit = 65536; hold = false; budget = 10000 }) one.0 (nothing_behind SaysTheSame (packages_in []) one.1)

-- its kernel has no classes
first_of : (members : List Member) → 0 < length members → (m : Member) × In m members
first_of [] l = absurd (omega arith)
first_of (m ∷ members) l = (m, here)

no_items : {A : Type 0} (xs : List A) → ¬ (0 < length xs) → xs ≡ []
no_items [] l = refl
no_items (x ∷ xs) l = absurd (l (omega arith))

module _ (text : Text) (k : IsKernelText empty_index text) where
  no_member : (m : Member) → In m k.members → ⊥
  no_member m i = let at = people empty_index text k m i in let low : at.0 < 0 = at.1 in omega (arith, low)

  clauses_none : k.repository.clauses ≡ []
  clauses_none = no_items k.repository.clauses (λ l. (let w = first_of (members_of k.members 0) (k.reads.writable.populated 0 l) in no_member w.0 (filter_cases (λ (o : Member). eqb o.class 0) k.members w.0 w.1).0))

  conflicts_none : k.repository.conflicts ≡ []
  conflicts_none = no_items k.repository.conflicts (λ l. (let few = k.reads.writable.sound.count in let none : length k.repository.clauses ≡ 0 = ap length clauses_none in omega (arith, few, none, l)))

  repository_none : k.repository ≡ no_repository
  repository_none = ap₂ (λ c d. record { clauses = c; conflicts = d }) clauses_none conflicts_none

  members_none : k.members ≡ []
  members_none = no_items k.members (λ l. (let w = first_of k.members l in no_member w.0 w.1))

  text_none : text ≡ no_classes
  text_none =
      k.reads.lines
      ∙ ap (λ held. kernel_text 1 k.repository k.members held) (k.reads.writable.fits.none_in_first refl)
      ∙ ap₂ (λ r ms. kernel_text 1 r ms []) repository_none members_none
      ∙ sym it_stands.lines

settled : IsKernelText empty_index no_classes
settled =
    let text : Text = kernel_printed index.limit index.hold (home_in []) (packages_in []) in
    let k : IsKernelText empty_index text = subst (λ s. IsKernelText s text) empty_is (kernel_texts_are_there index fine) in
    subst (IsKernelText empty_index) (text_none text k) k

-- a search for nothing finds it at once
not_closed : (l : Literal) → ¬ (InClosure [] [] l)
not_closed l c = let wrong : false ≡ true = c (λ m. false) (λ k d low. absurd (omega (arith, low))) (record { steps = λ k d low. absurd (omega (arith, low)) }) in let no : ⊥ = cc in no

splits_on_none : SplitsOn [] [] None
splits_on_none = (
  (λ c. elim c [ inl w ↦ not_closed w.0 w.1 | inr w ↦ absurd (let low : w.0 < 0 = w.2 in omega (arith, low)) ]),
  ((λ l. false), (λ l. ((λ e. absurd (let no : ⊥ = cc in no)), (λ c. absurd (not_closed l c)))), refl),
)

in_time_of_classes : ¬ (IsTooLong no_classes [] 10000)
in_time_of_classes long =
    let asked = long.1 in
    let once : asked.repository ≡ no_repository = (one_reading no_classes asked.format 1 asked.repository no_repository asked.members [] asked.held [] asked.reads it_stands).1 in
    let lists : asked.wanted ≡ [] = nothing (AreClassesFor asked.members) asked.wanted asked.each in
    let is : long.0 ≡ [] = asked.says ∙ ap₂ (λ r w. form r w) once lists in
    let there : Searched [] [] long.2.0 long.2.1 = subst (λ f. Searched f [] long.2.0 long.2.1) is long.2.2 in
    let few : long.2.1 ≡ 0 = (searches_are_one [] [] long.2.0 true long.2.1 0 there (found splits_on_none)).1 in
    let past : 10000 < long.2.1 = long.2.3 in
    omega (arith, few, past)

in_time : ¬ (IsPastBudget empty_index [])
in_time past = in_time_of_classes (subst (λ text. IsTooLong text [] 10000) (kernel_texts_are_one empty_index past.0 no_classes past.1 settled) past.2)

-- a machine without packages
nothing_own : GroupsSay [] no_home []
nothing_own = record { each = tt; single = λ m n less l. absurd (let low : n < 0 = l in omega (arith, low)); local = λ a e. absurd (let no : ⊥ = cc in no) }

no_number : (n : ℕ) → ltb n 0 ≡ true → ⊥
no_number n e = let low : n < 0 = ltb-true n 0 e in omega (arith, low)

system : IsFaithfulSystem empty_index [] 0 no_packages
unfolding stanza_groups digits
system = record {
  groups = λ group i. absurd (In_none (subst (In group) empty_groups i));
  home = no_home;
  own = [];
  own_say = nothing_own;
  state = Standing;
  state_is = record {
    numbers = λ n i. absurd (no_number n i);
    needs = λ n i. absurd (no_number n i);
    conflicts = λ m n i. absurd (no_number m i);
    names = λ m n i. absurd (no_number m i);
  };
  answer = 0;
  suite = codes "yes";
  answer_is = suite_yes in_time (meets_none empty_index);
  status_is = refl;
  bytes_are = refl;
}

plan : IsFaithfulPlan empty_index empty_index []
plan = record {
  older = nothing_said;
  newer = nothing_said;
  order = tt;
  names = λ name. ((λ i. absurd (In_none i)), (λ d. absurd (d tt)));
  each = λ front back l e. absurd (no_middle front back l e);
  last = λ some. absurd (some refl);
}

none_healthy : Healthy no_repository (has [])
none_healthy = record { packages = λ n i. absurd (let no : ⊥ = cc in no); abundance = λ n i. absurd (let no : ⊥ = cc in no); peace = λ m n i. absurd (let no : ⊥ = cc in no) }

healthy_none : HealthyStanzas no_home [] (has [])
healthy_none = record {
  numbers = λ n i. absurd (let no : ⊥ = cc in no);
  needs = λ n i. absurd (let no : ⊥ = cc in no);
  conflicts = λ m n i. absurd (let no : ⊥ = cc in no);
  names = λ m n i. absurd (let no : ⊥ = cc in no);
}

pub true_reports : TrueReports
true_reports = record {
  settled = settled;
  answer = answer_yes refl [] refl in_time tt healthy_none (λ goal i. absurd (In_none i));
  answer_of_classes = classes_yes refl [] refl in_time_of_classes tt none_healthy (λ goal i. absurd (In_none i)) (λ index k. meets_none index);
  explanation = yes_printed refl refl in_time (meets_none empty_index);
  system = system;
  plan = plan;
}
