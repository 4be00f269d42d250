-- The two sentences of empty indexes, and a kernel text that is not that of its index.
use Rattle.suite_compare.specs.{Indexes.{HasPackageOf}, Listing.{IsAsked, names_of}, declared.report.ReportLine.{ReportLine}}
use Rattle.suite_compare.specs.declared.report.ReportLine.TheVariants.{Broken1, Broken2, Open1, Open2}
use Rattle.std.proofs.Common.{◌≡◌, ℕ, ◌+◌, ◌<◌, false, List, [], ◌∷◌, ◌++◌, length, refl, ap, inl, arith, lit<}
use Rattle.std.specs.{Fmt.{digits}, List.{AllZip}}
use Rattle.coinst_words.specs.Usage.{Text}
use Rattle.kernel_text.specs.{Reading.{number_limit}, KernelLines.{line_text}, KernelReads.{KernelReads}, KernelText.{kernel_lines, kernel_text}}
use Rattle.listed.proofs.Lists.{In_none}
use Rattle.relation_fields.specs.declared.packages.PackageFacts.{PackageFacts}
use Rattle.repo_model.specs.Stanzas.{stanza_at, CoinstStanzas}
use Rattle.row_book.specs.{Numbers.{numbers}, Repository.{Coinst}, Sets.{Is, NumSet}}
use Rattle.claims.specs.{Classes.{classes_of, IsItsClass}, Control.{stanza_groups}, Index.{IndexSays, Says}, Settled.{Found}}
use Rattle.claims.specs.{Laws.{a_package, empty_index, no_classes, no_home, no_lines, no_repository, EmptyIndexes}, Printed.{printed_comparison}}
use Rattle.claims.specs.Sentences.{IsFaithfulList, IsFaithfulKernel}
use Rattle.kernel_text.proofs.StoredReading.{one_reading}

pub nothing_said : IndexSays [] no_home []
unfolding stanza_groups
nothing_said = record { each = tt; single = λ m n less l. absurd (let low : n < 0 = l in omega (arith, low)); local = λ a e. absurd (let no : ⊥ = cc in no) }

pub it_stands : KernelReads no_classes 1 no_repository [] []
unfolding digits number_limit numbers kernel_text kernel_lines line_text
it_stands = record {
  writable = record {
    few_classes = lit< tt;
    few_members = lit< tt;
    by_class = refl;
    populated = λ n l. absurd (let low : n < 0 = l in omega (arith, low));
    named = λ m i. absurd (In_none i);
    single = tt;
    order = λ n. tt;
    apart = λ n c i. absurd (In_none i);
    sound = record {
      clauses = λ n c i. absurd (In_none i);
      count = refl;
      conflicts = record { ascending = λ n. tt; either_way = λ n m e. absurd (let no : ⊥ = cc in no); apart = λ n. refl };
    };
    fits = record { known = inl refl; ascending = tt; inside = λ n i. absurd (In_none i); none_in_first = λ e. refl };
  };
  lines = refl;
}

pub no_middle : {A : Type 0} (front back : List A) (x : A) → [] ≡ front ++ x ∷ back → ⊥
no_middle [] back x e = cc
no_middle (y ∷ front) back x e = cc

together : (S : NumSet) → ((n : ℕ) → Is S n → n < 0) → CoinstStanzas no_home [] S
together S inside = record {
  whole = S;
  healthy = record {
    numbers = inside;
    needs = λ n i element j. absurd (let low : n < 0 = inside n i in omega (arith, low));
    conflicts = λ m n i j d atom k. absurd (let low : m < 0 = inside m i in omega (arith, low));
    names = λ m n i j d. absurd (let low : m < 0 = inside m i in omega (arith, low));
  };
  contains = λ n i. i;
}

together_there : (S : NumSet) → Coinst no_repository (classes_of [] [] S)
together_there S = record {
  whole = λ n. false;
  healthy = record { packages = λ n i. absurd (let no : ⊥ = cc in no); abundance = λ n i. absurd (let no : ⊥ = cc in no); peace = λ m n i j. absurd (let no : ⊥ = cc in no) };
  contains = λ n i. i;
}

kernel_of_none : IsFaithfulKernel [] no_classes
kernel_of_none = record {
  home = no_home;
  stanzas = [];
  index = nothing_said;
  format = 1;
  repository = no_repository;
  members = [];
  held = [];
  reads = it_stands;
  no_other_reading = one_reading no_classes;
  members_are_packages = λ m i. absurd (In_none i);
  each_in_one_class = λ i l. absurd (let low : i < 0 = l in omega (arith, low));
  same_together = λ S inside. ((λ c. together_there S), (λ c. together S inside));
}

-- a stanza has no class in a text without one
not_there : (k : IsFaithfulKernel a_package no_classes) (stanzas : List PackageFacts) → AllZip (Says k.home) (stanza_groups a_package) stanzas →
    ((i : ℕ) → i < length stanzas → (c : ℕ) × IsItsClass (length k.repository.clauses) k.members (stanza_at stanzas i) c) → ⊥
unfolding stanza_groups
not_there k [] z s = z
not_there k (facts ∷ more) z s =
    let class = s 0 (omega arith) in
    let none : k.repository ≡ no_repository = (k.no_other_reading k.format 1 k.repository no_repository k.members [] k.held [] k.reads it_stands).1 in
    let low : class.0 < length k.repository.clauses = (class.1).0 in
    let zero : length k.repository.clauses ≡ 0 = ap (λ R. length R.clauses) none in
    omega (arith, low, zero)

has_none : (a : Text) → HasPackageOf empty_index a → ⊥
has_none a h = let low : h.0 < 0 = h.1 in omega (arith, low)

none_asked : (l : ReportLine) → IsAsked Found empty_index empty_index (names_of l) → ⊥
none_asked (Broken1 a) t = has_none a t.0
none_asked (Open1 a) t = has_none a t.0
none_asked (Broken2 a b) t = has_none a t.1.0
none_asked (Open2 a b) t = has_none a t.1.0

comparison_of_none : IsFaithfulList empty_index empty_index []
comparison_of_none = record {
  older = nothing_said;
  newer = nothing_said;
  lists = record {
    broken = λ l e. ((λ i. absurd (In_none i)), (λ t. absurd (none_asked l t.0)));
    undecided = λ l e. ((λ i. absurd (In_none i)), (λ t. absurd (none_asked l t.0)));
    order = tt;
  };
}

lines_of_none : printed_comparison [] ≡ no_lines
unfolding digits printed_comparison
lines_of_none = refl

pub empty_indexes : EmptyIndexes
empty_indexes = record { kernel = kernel_of_none; comparison = comparison_of_none; printed = lines_of_none; wrong = λ k. not_there k k.stanzas k.index.each k.each_in_one_class }
