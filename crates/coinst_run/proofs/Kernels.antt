-- The stages of the kernel of an index, by what the calls below answer.
use Rattle.std.proofs.Common.{◌≡◌, ℕ, ◌+◌, ◌<◌, ◌≤◌, Bool, false, List, ◌++◌, length, map, Option, Some, None, Ok, Err, sym, ap, ap₂, subst, ◌∙◌, arith}
use Rattle.std.proofs.lemmas.List.{length-map}
use Rattle.clause_pool.specs.Interned.{row_at}
use Rattle.relation_fields.specs.{declared.packages.Home.{Home}, declared.packages.PackageFacts.{PackageFacts}}
use Rattle.repo_model.proofs.{Packages.{length_clauses}, Standing.{not_memory}}
pub use Rattle.repo_model.proofs.SoundSuite.{suite_sound}
use Rattle.repo_model.specs.{Facts.{facts_of}, FirstFault.{first_fault, home_of, stanzas_of}, Refusals.{Refuses, is_memory}, Repository.{suite_repository}}
use Rattle.repo_model.specs.declared.fault.IndexFault.{IndexFault}
use Rattle.suite_compare.specs.{Refusals.{PassesLimit}, declared.view.SuiteView.{SuiteView}}
use Rattle.row_book.specs.{Flattening.{packages}, Repository.{Repository}, Rounds.{PassedRound, kernel, kernel_class, round_count}, Book.{repository_of}}
use Rattle.listed.specs.Lists.{In}
use Rattle.listed.proofs.Lists.{In_map_cases}
use Rattle.row_book.proofs.Numbers.{length_numbers, numbers_parts}
use Rattle.kernel_text.specs.{KernelJson.{kernel_json}, KernelText.{format_of, kernel_text}, Members.{kernel_members}}
use Rattle.coinst_run.specs.{declared.answer.Cause.{Cause}, declared.answer.Cause.TheVariants.{ClauseLimit}, Answer.{refused}, Faults.{fault_cause}}
use Rattle.coinst_run.specs.{Index.{Index, by_fault, checked_index}, IndexKernel.{ClassedKernel, classed_kernel, index_kernel, json_for, text_for}}
use Rattle.coinst_run.specs.{Kernel.{FitsSuite, by_limit, classed_in, kernel_of}, Lines.{about, fault_line, limit_line, row_text, stage_text}}
use Rattle.kernel_rounds.proofs.Classes.{class_within}

-- the packages that were read are those of the text
pub index_accepted : (path text : List ℕ) (home : Home) (packages : List PackageFacts) → first_fault text ≡ None → packages ≡ map facts_of (stanzas_of text) → home.name ≡ home_of (stanzas_of text) →
    let index : Index = record { home = home; packages = packages } in checked_index path text ≡ Ok index
index_accepted path text home packages accepted said at =
    let index : Home → List PackageFacts → Index = λ h ps. record { home = h; packages = ps } in
    ap (by_fault path text) accepted
    ∙ ap (λ n. let h : Home = record { name = n } in Ok (index h (map facts_of (stanzas_of text)))) (sym at)
    ∙ ap (λ ps. Ok (index home ps)) (sym said)

-- a fault of the text is the answer
pub index_faulty : (fault : IndexFault) (path text : List ℕ) (there : Option IndexFault) (cause : Cause) → Refuses fault there → is_memory fault ≡ false → cause ≡ fault_cause fault →
    by_fault path text there ≡ Err (refused cause (fault_line path fault))
index_faulty fault path text there cause refuses known is =
    let found : there ≡ Some fault = not_memory fault refuses known in
    ap (by_fault path text) found ∙ ap (λ c. Err (refused c (fault_line path fault))) (sym is)

-- a suite that passed the limit, with its line
pub passed_told : (path : List ℕ) (limit : ℕ) (hold : Bool) (index : Index) (passed : PassedRound) (name version words : List ℕ) → PassesLimit index.home index.packages limit hold passed name version →
    words ≡ stage_text limit passed.number passed.gone ++ row_text name version passed.count → kernel_of path limit hold index ≡ Err (refused ClauseLimit (about path words))
unfolding limit_line
passed_told path limit hold index passed name version words w made =
    ap (by_limit path limit hold index) w.there
    ∙ ap (λ x. Err (refused ClauseLimit (about path x))) (sym (made ∙ ap₂ (λ n v. stage_text limit passed.number passed.gone ++ row_text n v passed.count) w.name_is w.version_is))

-- the kernel of a view is that of its index, and has a class for each package
module _ (v : SuiteView) where
  abbrev R : Repository
  R = suite_repository v.suite.home v.suite.packages

  pub view_kernel : classed_in v.pool v.kernel ≡ index_kernel v.limit v.kernel.hold v.suite.home v.suite.packages
  unfolding index_kernel classed_kernel
  view_kernel =
      let all : Repository → List ℕ → List ℕ → ClassedKernel = λ r c ns. record { repository = r; class_of = c; hold = v.kernel.hold; held = ns } in
      let is = v.of_suite.kernel_is in
      ap₂ (λ r c. all r c v.kernel.held) is.book.repository is.class_of ∙ ap (all (kernel v.limit v.kernel.hold R) (map (kernel_class v.limit v.kernel.hold R) (packages R))) is.held

  pub view_fits : FitsSuite v.pool v.suite.packages v.kernel
  view_fits =
      let is = v.of_suite.kernel_is in
      record {
        sound = is.book.sound;
        each = ap length is.class_of ∙ length_numbers (kernel_class v.limit v.kernel.hold R) (length R.clauses) 0 ∙ length_clauses v.suite.home v.suite.packages;
        inside = λ class i.
            let w : (p : ℕ) × In p (packages R) × (class ≡ kernel_class v.limit v.kernel.hold R p) = In_map_cases (kernel_class v.limit v.kernel.hold R) (packages R) class (subst (λ cs. In class cs) is.class_of i) in
            let p : (0 ≤ w.0) × (w.0 < 0 + length R.clauses) = numbers_parts (length R.clauses) 0 w.0 w.1 in
            let l : kernel_class v.limit v.kernel.hold R w.0 < length (kernel v.limit v.kernel.hold R).clauses =
            class_within v.limit v.kernel.hold (round_count v.limit v.kernel.hold R) R (suite_sound v.suite.home v.suite.packages) w.0 (omega (arith, p.1)) in
            subst (λ n. class < n) (ap (λ S. length S.clauses) (sym is.book.repository) ∙ length-map v.kernel.book.rows (row_at v.pool)) (subst (λ k. k < length (kernel v.limit v.kernel.hold R).clauses) (sym w.2) l);
      }

  -- what is written of it is what is printed of the index
  pub view_text : kernel_text (format_of v.kernel.hold) (repository_of v.pool v.kernel.book) (kernel_members v.suite.packages v.kernel.class_of (length v.kernel.book.rows)) v.kernel.held
      ≡ text_for v.suite.packages (index_kernel v.limit v.kernel.hold v.suite.home v.suite.packages)
  view_text =
      ap (λ n. kernel_text (format_of v.kernel.hold) (repository_of v.pool v.kernel.book) (kernel_members v.suite.packages v.kernel.class_of n) v.kernel.held) (sym (length-map v.kernel.book.rows (row_at v.pool)))
      ∙ ap (text_for v.suite.packages) view_kernel

  pub view_json : kernel_json (format_of v.kernel.hold) (repository_of v.pool v.kernel.book) (kernel_members v.suite.packages v.kernel.class_of (length v.kernel.book.rows)) v.kernel.held
      ≡ json_for v.suite.packages (index_kernel v.limit v.kernel.hold v.suite.home v.suite.packages)
  view_json =
      ap (λ n. kernel_json (format_of v.kernel.hold) (repository_of v.pool v.kernel.book) (kernel_members v.suite.packages v.kernel.class_of n) v.kernel.held) (sym (length-map v.kernel.book.rows (row_at v.pool)))
      ∙ ap (json_for v.suite.packages) view_kernel
