-- How many lines of each kind the text of a kernel has.
use Rattle.std.proofs.{Common.{◌≡◌, ◌∙◌, ◌+◌, ℕ, refl, sym, ap, ap₂, List, [], ◌∷◌, length, filter, ltb, arith}, lemmas.List.Sums.{sum_by-append}}
use Rattle.std.proofs.lemmas.List.{length-map}
use Rattle.std.specs.List.{count_by, sum_by}
use Rattle.row_book.proofs.Numbers.{numbers_more}
use Rattle.clause_pool.specs.Interned.{Interned, row_at}
use Rattle.kernel_rounds.specs.declared.extraction.Kernel.{Kernel}
use Rattle.relation_fields.specs.declared.packages.PackageFacts.{PackageFacts}
use Rattle.row_book.specs.{Book.{listed_for, repository_of}, Numbers.{numbers}, Repository.{clauses_of}}
use Rattle.coinst_run.specs.{IndexKernel.{members_for}, Kernel.{classed_in}, Lines.{size_line}, Sample.{size_report}}
use Rattle.kernel_text.specs.{KernelText.{format_of, greater_conflicts, kernel_lines}, LineKinds.{is_against_line, is_needs_line}}
use Rattle.kernel_text.proofs.LineCounts.{lines_are_counted}

-- ---- sums over the classes so far

no_numbers : numbers 0 0 ≡ []
unfolding numbers
no_numbers = refl

pub sum_none : (f : ℕ → ℕ) → 0 ≡ sum_by f (numbers 0 0)
sum_none f = ap (sum_by f) (sym no_numbers)

-- one more class
pub sum_more : (f : ℕ → ℕ) (n before one new : ℕ) → before ≡ sum_by f (numbers n 0) → one ≡ f n → new ≡ one + before → new ≡ sum_by f (numbers (n + 1) 0)
sum_more f n before one new sofar is added =
    let last = sum_by-append f (numbers n 0) (n ∷ []) in
    let all = ap (sum_by f) (numbers_more n) in
    let single : sum_by f (n ∷ []) ≡ f n = omega arith in
    omega (arith, sofar, is, added, last, all, single)

-- ---- the line

pub size_told : (stanzas : List PackageFacts) (pool : Interned) (made : Kernel) (packages classes clauses conflicts : ℕ) (line : List ℕ) → packages ≡ length stanzas → classes ≡ length made.book.rows
    → clauses ≡ sum_by (λ n. length (clauses_of (repository_of pool made.book) n)) (numbers (length made.book.rows) 0)
    → conflicts ≡ sum_by (λ n. length (filter (λ m. ltb n m) (listed_for made.book.conflicts n))) (numbers (length made.book.rows) 0)
    → line ≡ size_line packages classes clauses conflicts → line ≡ size_report stanzas (classed_in pool made)
unfolding size_report
size_told stanzas pool made packages classes clauses conflicts line a b c d e =
    let R = repository_of pool made.book in
    let members = members_for stanzas (classed_in pool made) in
    let format = format_of made.hold in
    let counted = lines_are_counted format R members made.held in
    let size : length R.clauses ≡ length made.book.rows = length-map made.book.rows (row_at pool) in
    let needs : clauses ≡ count_by is_needs_line (kernel_lines format R members made.held) =
    c ∙ ap (λ n. sum_by (λ n. length (clauses_of R n)) (numbers n 0)) (sym size) ∙ sym counted.clauses in
    let against : conflicts ≡ count_by is_against_line (kernel_lines format R members made.held) =
    d ∙ ap (λ n. sum_by (λ n. length (greater_conflicts R n)) (numbers n 0)) (sym size) ∙ sym counted.conflicts in
    e ∙ ap₂ (λ p q. size_line p q clauses conflicts) a (b ∙ sym size) ∙ ap₂ (λ p q. size_line (length stanzas) (length R.clauses) p q) needs against
