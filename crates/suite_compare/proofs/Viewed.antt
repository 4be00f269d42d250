-- The view of a suite, from its book and the kernel that was extracted of it.
use Rattle.std.proofs.Common.{◌≡◌, ℕ, ◌<◌, Bool, List, length, Option, Some, sym, ap, subst, ◌∙◌}
use Rattle.clause_pool.specs.Interned.{Interned, IsPool}
use Rattle.kernel_rounds.{specs.Extracting.{IsExtracted}, specs.declared.extraction.Kernel.{Kernel}, proofs.Classes.{limit_inside}}
use Rattle.relation_fields.{specs.declared.packages.Home.{Home}, specs.declared.packages.PackageFacts.{PackageFacts}}
use Rattle.repo_model.{specs.FirstFault.{home_of, stanzas_of}, specs.Repository.{suite_repository}, proofs.Packages.{length_clauses}, proofs.SoundSuite.{suite_sound}}
use Rattle.row_book.{specs.Book.{repository_of, Sound}, specs.Flattening.{packages}, specs.Rounds.{PassedRound, limit_at}, specs.declared.book.Book.{Book}, proofs.Books.{repository_kept, sound_kept}}
use Rattle.suite_compare.{specs.Refusals.{home_in, packages_in, RefusesSuite}, specs.declared.refusals.LimitError.{LimitError}, specs.Views.{HoldsKernelOf, IsViewOf}}

-- the book stays what it is while the kernel is extracted
pub view_made : (old new : Interned) (home : Home) (stanzas : List PackageFacts) (book : Book) (made : Kernel) (limit : ℕ) (hold : Bool) → IsPool old →
    repository_of old book ≡ suite_repository home stanzas → Sound old book → made.hold ≡ hold → IsExtracted (repository_of old book) limit hold old new made.book made.class_of made.held made.trail.steps
    → IsViewOf new home stanzas book made limit
view_made old new home stanzas book made limit hold pool is sound told given = record {
  book_is = record { repository = repository_kept old new pool given.kept book sound ∙ is; sound = sound_kept old new pool given.kept book sound };
  kernel_is = subst (HoldsKernelOf new made limit) is record {
    book = record { repository = extracted.is; sound = extracted.sound };
    class_of = extracted.class_of;
    held = extracted.held;
    steps = extracted.steps;
    books = extracted.books;
  };
}
  where
    extracted : IsExtracted (repository_of old book) limit made.hold old new made.book made.class_of made.held made.trail.steps
    extracted = subst (λ h. IsExtracted (repository_of old book) limit h old new made.book made.class_of made.held made.trail.steps) (sym told) given

-- the package that is told is one of the suite's
pub passed_inside : (old : Interned) (home : Home) (stanzas : List PackageFacts) (book : Book) (limit : ℕ) (hold : Bool) (w : PassedRound) → repository_of old book ≡ suite_repository home stanzas →
    limit_at limit hold (repository_of old book) ≡ Some w → w.over < length stanzas
passed_inside old home stanzas book limit hold w is passes =
    subst (λ size. w.over < size) (length_clauses home stanzas) (limit_inside limit hold (suite_repository home stanzas) (suite_sound home stanzas) w (sym (ap (limit_at limit hold) is) ∙ passes))

-- the same limit, by equal numbers
pub limit_told : (told : Option PassedRound) (r g p n r' g' p' n' : ℕ) → told ≡ Some (record { number = r; gone = g; over = p; count = n }) → r ≡ r' → g ≡ g' → p ≡ p' → n ≡ n' →
    told ≡ Some (record { number = r'; gone = g'; over = p'; count = n' })
limit_told told r g p n r' g' p' n' e a b c d = cc

-- a refusal of the suite is one of the index that it was read from
pub refusal_of_index : (text : List ℕ) (limit : ℕ) (hold : Bool) (home : Home) (stanzas : List PackageFacts) (error : LimitError) → stanzas ≡ packages_in text → home.name ≡ home_of (stanzas_of text) →
    RefusesSuite home stanzas limit hold error → RefusesSuite (home_in text) (packages_in text) limit hold error
refusal_of_index text limit hold home stanzas error packages named refused =
    let at_home : home ≡ home_in text = ap (λ n. let h : Home = record { name = n } in h) named in
    subst (λ h. RefusesSuite h (packages_in text) limit hold error) at_home (subst (λ ps. RefusesSuite home ps limit hold error) packages refused)
