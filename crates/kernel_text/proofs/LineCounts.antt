-- How many lines of each kind the text of a kernel has.
use Rattle.std.proofs.{Common.{◌≡◌, ◌+◌, ℕ, Bool, true, false, cond, refl, ap, List, [], ◌∷◌, ◌++◌, map, length, arith}, lemmas.List.Sums.{sum_by-append}}
use Rattle.std.specs.List.{count_by, flat_map, sum_by}
use Rattle.kernel_text.specs.KernelLines.{KernelLine, HeadLine, ClassLine, HeldLine, NeedsLine, AgainstLine, EndLine}
use Rattle.kernel_text.specs.KernelText.{class_lines, greater_conflicts, held_lines, kernel_lines, line_of_member, members_of}
use Rattle.kernel_text.specs.{declared.member.Member.{Member}, LineKinds.{LinesAreCounted, is_against_line, is_needs_line}}
use Rattle.row_book.specs.{Numbers.{numbers}, Repository.{Repository, clauses_of}}
use Rattle.listed.specs.Lists.{has}

sum_first : {X : Type 0} (f : X → ℕ) (x : X) (xs : List X) → sum_by f (x ∷ xs) ≡ f x + sum_by f xs
sum_first f x xs = let h : sum_by f (x ∷ xs) ≡ sum_by f (x ∷ []) + sum_by f xs = sum_by-append f (x ∷ []) xs in let one : sum_by f (x ∷ []) ≡ f x = omega arith in omega (arith, h, one)

-- lines of one kind
module _ {X : Type 0} (p : KernelLine → Bool) (line : X → KernelLine) where
  none_of_kind : ((x : X) → p (line x) ≡ false) → (xs : List X) → count_by p (map line xs) ≡ 0
  none_of_kind other [] = refl
  none_of_kind other (x ∷ xs) =
      let e = ap {B = ℕ} (λ b. cond b 1 0) (other x) in
      let h = none_of_kind other xs in
      let first = sum_first (λ l. cond (p l) 1 0) (line x) (map line xs) in omega (arith, first, e, h)

  all_of_kind : ((x : X) → p (line x) ≡ true) → (xs : List X) → count_by p (map line xs) ≡ length xs
  all_of_kind same [] = refl
  all_of_kind same (x ∷ xs) =
      let e = ap {B = ℕ} (λ b. cond b 1 0) (same x) in
      let h = all_of_kind same xs in
      let first = sum_first (λ l. cond (p l) 1 0) (line x) (map line xs) in omega (arith, first, e, h)

-- the line of a held class
held_uncounted : (p : KernelLine → Bool) → p HeldLine ≡ false → (held : Bool) → count_by p (held_lines held) ≡ 0
held_uncounted p other false = refl
held_uncounted p other true = let e = ap {B = ℕ} (λ b. cond b 1 0) other in let first = sum_first (λ l. cond (p l) 1 0) HeldLine [] in omega (arith, first, e)

-- the lines of all classes
module _ (p : KernelLine → Bool) (format : ℕ) (head : p (HeadLine format) ≡ false) (end : (c m : ℕ) → p (EndLine c m) ≡ false) (f : ℕ → ℕ) (R : Repository) (members : List Member) (held : List ℕ)
    (each : (n : ℕ) → count_by p (class_lines R members held n) ≡ f n) where
  of_classes : (ns : List ℕ) → count_by p (flat_map (class_lines R members held) ns) ≡ sum_by f ns
  of_classes [] = refl
  of_classes (n ∷ ns) =
      let one = each n in
      let h = of_classes ns in
      let both = sum_by-append (λ l. cond (p l) 1 0) (class_lines R members held n) (flat_map (class_lines R members held) ns) in
      let first = sum_first f n ns in omega (arith, one, h, both, first)

  of_text : count_by p (kernel_lines format R members held) ≡ sum_by f (numbers (length R.clauses) 0)
  unfolding kernel_lines
  of_text =
      let body = flat_map (class_lines R members held) (numbers (length R.clauses) 0) in
      let last = EndLine (length R.clauses) (length members) in
      let first = sum_first (λ l. cond (p l) 1 0) (HeadLine format) (body ++ last ∷ []) in
      let both = sum_by-append (λ l. cond (p l) 1 0) body (last ∷ []) in
      let a = ap {B = ℕ} (λ b. cond b 1 0) head in
      let b = ap {B = ℕ} (λ b. cond b 1 0) (end (length R.clauses) (length members)) in
      let h = of_classes (numbers (length R.clauses) 0) in
      omega (arith, first, both, a, b, h)

module _ (format : ℕ) (R : Repository) (members : List Member) (held : List ℕ) where
  class_needs : (n : ℕ) → count_by is_needs_line (class_lines R members held n) ≡ length (clauses_of R n)
  unfolding class_lines
  class_needs n =
      let first = sum_first (λ l. cond (is_needs_line l) 1 0) (ClassLine n) (map line_of_member (members_of members n) ++ (held_lines (has held n) ++ (map NeedsLine (clauses_of R n) ++ map AgainstLine (greater_conflicts R n)))) in
      let one = sum_by-append (λ l. cond (is_needs_line l) 1 0) (map line_of_member (members_of members n)) (held_lines (has held n) ++ (map NeedsLine (clauses_of R n) ++ map AgainstLine (greater_conflicts R n))) in
      let kept = sum_by-append (λ l. cond (is_needs_line l) 1 0) (held_lines (has held n)) (map NeedsLine (clauses_of R n) ++ map AgainstLine (greater_conflicts R n)) in
      let none = held_uncounted is_needs_line refl (has held n) in
      let two = sum_by-append (λ l. cond (is_needs_line l) 1 0) (map NeedsLine (clauses_of R n)) (map AgainstLine (greater_conflicts R n)) in
      let a = none_of_kind is_needs_line line_of_member (λ m. refl) (members_of members n) in
      let b = all_of_kind is_needs_line NeedsLine (λ c. refl) (clauses_of R n) in
      let c = none_of_kind is_needs_line AgainstLine (λ m. refl) (greater_conflicts R n) in
      omega (arith, first, one, kept, none, two, a, b, c)

  class_against : (n : ℕ) → count_by is_against_line (class_lines R members held n) ≡ length (greater_conflicts R n)
  unfolding class_lines
  class_against n =
      let first = sum_first (λ l. cond (is_against_line l) 1 0) (ClassLine n) (map line_of_member (members_of members n) ++ (held_lines (has held n) ++ (map NeedsLine (clauses_of R n) ++ map AgainstLine (greater_conflicts R n)))) in
      let one = sum_by-append (λ l. cond (is_against_line l) 1 0) (map line_of_member (members_of members n)) (held_lines (has held n) ++ (map NeedsLine (clauses_of R n) ++ map AgainstLine (greater_conflicts R n))) in
      let kept = sum_by-append (λ l. cond (is_against_line l) 1 0) (held_lines (has held n)) (map NeedsLine (clauses_of R n) ++ map AgainstLine (greater_conflicts R n)) in
      let none = held_uncounted is_against_line refl (has held n) in
      let two = sum_by-append (λ l. cond (is_against_line l) 1 0) (map NeedsLine (clauses_of R n)) (map AgainstLine (greater_conflicts R n)) in
      let a = none_of_kind is_against_line line_of_member (λ m. refl) (members_of members n) in
      let b = none_of_kind is_against_line NeedsLine (λ c. refl) (clauses_of R n) in
      let c = all_of_kind is_against_line AgainstLine (λ m. refl) (greater_conflicts R n) in
      omega (arith, first, one, kept, none, two, a, b, c)

pub lines_are_counted : LinesAreCounted
lines_are_counted format R members held = record {
  clauses = of_text is_needs_line format refl (λ c m. refl) (λ n. length (clauses_of R n)) R members held (class_needs format R members held);
  conflicts = of_text is_against_line format refl (λ c m. refl) (λ n. length (greater_conflicts R n)) R members held (class_against format R members held);
}
