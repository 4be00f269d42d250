-- The text of a kernel is read as that kernel.
use Rattle.std.proofs.Common.{◌≡◌, ℕ, ◌<◌, Bool, List, [], ◌∷◌, Some, length, filter, inl, inr, refl, sym, ap, ap₂, ◌∙◌, subst, zero-add, eqb, eqb-true, ltb}
use Rattle.std.proofs.{Common.{true, false, arith}, lemmas.Bool.{ltb-true}}
use Rattle.std.specs.List.{flat_map}
use Rattle.listed.proofs.{Lists.{In_flat_cases, In_has, has_In, In_map_cases, In_none, filter_cases, filter_from}, Orders.{ascending_filter, ascending_same}}
use Rattle.row_book.specs.{Numbers.{numbers}, Repository.{Repository, clauses_of, conflicts_of}}
use Rattle.listed.specs.Lists.{In, has}
use Rattle.row_book.proofs.{Books.{in_listed}, Numbers.{numbers_ascending, numbers_from}}
use Rattle.kernel_text.specs.{declared.member.Member.{Member}, KernelLines.{KernelLine, HeadLine, EndLine, lines_of, line_text}}
use Rattle.kernel_text.specs.KernelText.{AreSingle, IsWritable, class_lines, kernel_lines, kernel_text}
use Rattle.kernel_text.specs.Reading.{Reading, ClassClause, empty_reading, number_limit, repository_of_reading}
use Rattle.kernel_text.proofs.{Allowed.{IsRead, LinesGive}, LineCuts.{with_lines, AreAllowed, text_gives}}
use Rattle.kernel_text.proofs.Printed.{Blocks, IsBlock, all_blocks, allowed_append, clause_entry, clause_entries, held_of, pairs_of, reading_at, with_append}
use Rattle.kernel_text.proofs.Retold.{clauses_retold, conflicts_retold, high_low}

marks_filter : (held xs : List ℕ) → flat_map (held_of held) xs ≡ filter (has held) xs
marks_filter held [] = refl
marks_filter held (x ∷ xs) = by (has held x) refl (marks_filter held xs)
  where
    by : (b : Bool) → has held x ≡ b → flat_map (held_of held) xs ≡ filter (has held) xs → flat_map (held_of held) (x ∷ xs) ≡ filter (has held) (x ∷ xs)
    by true e more = rw e (ap (λ ys. x ∷ ys) more)
    by false e more = rw e more

module _ (f : ℕ) (R : Repository) (members : List Member) (held : List ℕ) (kernel : IsWritable f R members held) where
  abbrev size : ℕ
  size = length R.clauses

  -- a conflict is with a class, since it stands the other way round as well
  conflict_low : (m n : ℕ) → In n (conflicts_of R m) → n < size
  conflict_low m n i =
      let listed : n < length R.conflicts = in_listed R.conflicts n m (has_In (conflicts_of R n) m (kernel.sound.conflicts.either_way m n (In_has i))) in
      subst (λ k. n < k) kernel.sound.count listed

  abbrev last_line : KernelLine
  last_line = EndLine size (length members)

  abbrev reading : Reading
  reading = reading_at f held (Some last_line) size members (flat_map (clause_entries R) (numbers size 0)) (flat_map (pairs_of R) (numbers size 0))

  -- only format 2 has held classes
  in_second : (n : ℕ) → has held n ≡ true → f ≡ 2
  in_second n h = elim kernel.fits.known [
    | inl e ↦ absurd (In_none (subst (λ xs. In n xs) (kernel.fits.none_in_first e) (has_In held n h)))
    | inr e ↦ e
  ]

  -- the held classes, one by one
  held_again : flat_map (held_of held) (numbers size 0) ≡ held
  held_again =
      marks_filter held (numbers size 0)
      ∙ ascending_same (filter (has held) (numbers size 0)) held (ascending_filter (has held) (numbers size 0) (numbers_ascending size 0)) kernel.fits.ascending
      (λ n i. has_In held n (filter_cases (has held) (numbers size 0) n i).1)
      (λ n i. filter_from (has held) (numbers size 0) n (let l : n < size = kernel.fits.inside n i in numbers_from size 0 n (omega arith) (omega arith)) (In_has i))

  blocks : (n : ℕ) → n < size → IsBlock f R members held n
  blocks n l =
      let few : size < number_limit = kernel.few_classes in
      record {
        low = omega arith;
        populated = kernel.populated n l;
        each = λ m i.
            let w : In m members × (eqb m.class n ≡ true) = filter_cases (λ (m : Member). eqb m.class n) members m i in
            (eqb-true m.class n w.1, kernel.named m w.0);
        marked = in_second n;
        order = kernel.order n;
        clauses = λ c i. record {
          ascending = (kernel.sound.clauses n c i).0;
          apart = kernel.apart n c i;
          low = λ l j. let b : l < size = (kernel.sound.clauses n c i).1 l j in omega arith;
        };
        up = ascending_filter (λ m. ltb n m) (conflicts_of R n) (kernel.sound.conflicts.ascending n);
        conflicts = λ m i.
            let w : In m (conflicts_of R n) × (ltb n m ≡ true) = filter_cases (λ m. ltb n m) (conflicts_of R n) m i in
            let b : m < size = conflict_low n m w.0 in
            (ltb-true n m w.1, omega arith);
      }

  whole : Blocks f [] R members held size 0 size (Some (HeadLine f)) [] [] []
  whole = all_blocks f [] R members held size 0 size (Some (HeadLine f)) [] [] [] (zero-add size) blocks tt (subst AreSingle kernel.by_class kernel.single)

  abbrev inner : List KernelLine
  inner = flat_map (class_lines R members held) (numbers size 0)

  abbrev begun : Reading
  begun = reading_at f [] (Some (HeadLine f)) 0 [] [] []

  lines_allowed : AreAllowed empty_reading (kernel_lines f R members held)
  unfolding kernel_lines
  lines_allowed = (
    (refl, kernel.fits.known),
    allowed_append begun inner (last_line ∷ []) whole.allowed
        (subst (λ t. AreAllowed t (last_line ∷ [])) (sym whole.reading) ((whole.ends, kernel.few_classes, kernel.few_members), tt)),
  )

  lines_reading : with_lines empty_reading (kernel_lines f R members held) ≡ reading
  unfolding kernel_lines
  lines_reading =
      with_append begun inner (last_line ∷ []) ∙ ap (λ t. with_lines t (last_line ∷ [])) whole.reading
      ∙ ap₂ (λ hs ms. reading_at f hs (Some last_line) size ms (flat_map (clause_entries R) (numbers size 0)) (flat_map (pairs_of R) (numbers size 0))) held_again (sym kernel.by_class)

  text_reading : LinesGive empty_reading (lines_of (kernel_text f R members held)) reading
  unfolding kernel_text
  text_reading = subst (λ t. LinesGive empty_reading (lines_of (flat_map line_text (kernel_lines f R members held))) t) lines_reading (text_gives empty_reading (kernel_lines f R members held) lines_allowed)

  entry_low : (entry : ClassClause) → In entry reading.clauses → (l : ℕ) → In l entry.clause → l < size
  entry_low entry i l j =
      let w : (n : ℕ) × In n (numbers size 0) × In entry (clause_entries R n) = In_flat_cases (clause_entries R) (numbers size 0) entry i in
      let v : (c : List ℕ) × In c (clauses_of R w.0) × (entry ≡ clause_entry w.0 c) = In_map_cases (clause_entry w.0) (clauses_of R w.0) entry w.2 in
      (kernel.sound.clauses w.0 v.0 v.1).1 l (subst (λ (x : ClassClause). In l x.clause) v.2 j)

  repository_is : R ≡ repository_of_reading reading
  unfolding repository_of_reading
  repository_is =
      let made : List (List (List ℕ)) → List (List ℕ) → Repository = λ cs xs. record { clauses = cs; conflicts = xs } in
      ap₂ made (clauses_retold R) (conflicts_retold R size kernel.sound.count kernel.sound.conflicts conflict_low)

  pub printed_reads : IsRead (kernel_text f R members held) f R members held
  printed_reads = record {
    reading = reading;
    given = text_reading;
    ended = refl;
    in_range = record { clauses = entry_low; conflicts = high_low R size kernel.sound.count kernel.sound.conflicts conflict_low };
    of_format = refl;
    repository = repository_is;
    member_list = refl;
    held_list = refl;
  }
