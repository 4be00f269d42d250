-- A kernel that is read is one that the format can write.
use Rattle.std.proofs.Common.{◌≡◌, ℕ, zero, suc, ◌+◌, ◌<◌, ◌≤◌, false, List, [], ◌∷◌, ◌++◌, length, filter, eqb, get_or, inl, inr, sym, ap, ◌∙◌, subst}
use Rattle.std.proofs.{Common.{zero-add, arith}, lemmas.Bool.{cases_lt}, lemmas.List.{get_or_past}}
use Rattle.std.specs.List.{flat_map}
use Rattle.clause_pool.specs.Lists.{InOrder}
use Rattle.row_book.specs.{Numbers.{numbers}, Repository.{Repository, clauses_of}, Sound.{SoundClauses}}
use Rattle.listed.specs.Lists.{In, here, there}
use Rattle.row_book.proofs.{Books.{in_listed}, Numbers.{at_numbers}, Pairs.{length_pairs, pairs_conflict}}
use Rattle.listed.proofs.Lists.{In_none, In_cases, In_append_cases, In_map_cases, filter_cases}
use Rattle.kernel_text.specs.declared.member.Member.{Member}
use Rattle.kernel_text.specs.{KernelLines.{KernelLine, HeadLine, ClassLine, MemberLine, HeldLine, NeedsLine, AgainstLine, EndLine}, Reader.{IsInRange, IsNew}}
use Rattle.kernel_text.specs.KernelText.{AreSingle, IsWritable, members_of}
use Rattle.kernel_text.specs.Reading.{Reading, ClassClause, IsFormat, IsNamed, clauses_of_class, is_same_member, member_of_line, number_limit}
use Rattle.kernel_text.specs.Reading.{repository_of_reading, with_line}
use Rattle.kernel_text.proofs.{Allowed.{IsAllowed, IsClauseOf}, LineCuts.{AreAllowed, with_lines}}
use Rattle.kernel_text.proofs.Blocks.{R_read, by_blocks, clause_entries_in, clauses_are, fit_at, held_ascending, held_bounds, held_in, keyed_members}
use Rattle.kernel_text.proofs.Blocks.{members_in, none_held, picked, reading_of_blocks, rising, size_is}
use Rattle.kernel_text.proofs.ClassLines.{ArePopulated, Block, FitBlocks, HeldInSecond, empty, over_blocks}

-- each allowed member line is of a new member, so none names the package of an earlier one
single_more : (ms : List Member) (m : Member) → AreSingle ms → IsNew m ms → AreSingle (ms ++ m ∷ [])
single_more [] m s new = ((λ o i. absurd (In_none i)), tt)
single_more (x ∷ ms) m s new = (
  (λ o i.
      elim (In_append_cases ms (m ∷ []) o i) [
        | inl j ↦ s.0 o j
        | inr j ↦ elim (In_cases j) [
          | inl e ↦ subst (λ z. is_same_member z x ≡ false) (sym e) (new x here)
          | inr k ↦ absurd (In_none k)
        ]
      ]),
  single_more ms m s.1 (λ o i. new o (there i)),
)

single_line : (t : Reading) (l : KernelLine) → IsAllowed t l → AreSingle t.members → AreSingle (with_line t l).members
single_line t (HeadLine format) a s = s
single_line t (ClassLine n) a s = s
single_line t (MemberLine name version) a s = single_more t.members (member_of_line t name version) s a.2
single_line t HeldLine a s = s
single_line t (NeedsLine clause) a s = s
single_line t (AgainstLine m) a s = s
single_line t (EndLine classes members) a s = s

pub single_lines : (t : Reading) (ls : List KernelLine) → AreAllowed t ls → AreSingle t.members → AreSingle (with_lines t ls).members
single_lines t [] a s = s
single_lines t (l ∷ ls) a s = single_lines (with_line t l) ls a.1 (single_line t l a.0 s)

populated_at : (bs : List Block) (i : ℕ) → ArePopulated bs → i < length bs → 0 < length (get_or bs i empty).members
populated_at [] i h l = absurd (omega arith)
populated_at (b ∷ bs) zero h l = h.0
populated_at (b ∷ bs) (suc i) h l = populated_at bs i h.1 (omega arith)

named_in : (k : ℕ) (bs : List Block) → FitBlocks k bs → (m : Member) → In m (over_blocks members_in k bs) → IsNamed m.name m.version
named_in k [] fit m i = absurd (In_none i)
named_in k (b ∷ bs) fit m i =
    elim (In_append_cases b.members (over_blocks members_in (suc k) bs) m i) [ inl j ↦ fit.0.named m j | inr j ↦ named_in (suc k) bs fit.1 m j ]

module _ (f : ℕ) (bs : List Block) (fit : FitBlocks 0 bs) (populated : ArePopulated bs) (range : IsInRange (reading_of_blocks f bs)) where
  abbrev size : ℕ
  size = length bs

  abbrev all_members : List Member
  all_members = over_blocks members_in 0 bs

  abbrev all_clauses : List ClassClause
  all_clauses = over_blocks clause_entries_in 0 bs

  abbrev R : Repository
  R = R_read bs fit range.conflicts

  -- the number of classes, either way
  size_of : length R.clauses ≡ size
  size_of = size_is bs fit range.conflicts

  members_are : (n : ℕ) → n < size → members_of all_members n ≡ (get_or bs n empty).members
  members_are n l = picked (λ (m : Member). m.class) members_in 0 bs n n l (zero-add n) (keyed_members 0 bs fit)

  order : (n : ℕ) → InOrder (clauses_of R n)
  order n =
      elim (cases_lt n size) [
        | inl l ↦ subst InOrder (sym (clauses_are bs fit range.conflicts n l)) (fit_at 0 bs n n fit l (zero-add n)).order
        | inr g ↦ subst InOrder (sym (get_or_past R.clauses n [] (omega (arith, size_of)))) tt
      ]

  inside : (n : ℕ) (c : List ℕ) → In c (clauses_of R n) → n < size
  inside n c i = subst (λ k. n < k) size_of (in_listed R.clauses n c i)

  of_class : (n : ℕ) (c : List ℕ) → In c (clauses_of R n) → IsClauseOf n c
  of_class n c i =
      let l : n < size = inside n c i in
      (fit_at 0 bs n n fit l (zero-add n)).clauses c (subst (λ cs. In c cs) (clauses_are bs fit range.conflicts n l) i)

  -- a clause of a class stands among all, so its numbers are of classes
  in_range : (n : ℕ) (c : List ℕ) → In c (clauses_of R n) → (m : ℕ) → In m c → m < size
  in_range n c i m j =
      let l : n < size = inside n c i in
      let own : clauses_of R n ≡ clauses_of_class all_clauses n = at_numbers (clauses_of_class all_clauses) [] size 0 n l ∙ ap (clauses_of_class all_clauses) (zero-add n) in
      let w : (entry : ClassClause) × In entry (filter (λ entry. eqb entry.class n) all_clauses) × (c ≡ entry.clause) =
      In_map_cases (λ (entry : ClassClause). entry.clause) (filter (λ entry. eqb entry.class n) all_clauses) c (subst (λ cs. In c cs) own i) in
      range.clauses w.0 (filter_cases (λ (entry : ClassClause). eqb entry.class n) all_clauses w.0 w.1).0 m (subst (λ d. In m d) w.2 j)

  sound : SoundClauses R
  sound n c i = ((of_class n c i).ascending, λ m j. subst (λ k. m < k) (sym size_of) (in_range n c i m j))

  by_class : all_members ≡ flat_map (members_of all_members) (numbers (length R.clauses) 0)
  by_class =
      sym (by_blocks members_in (members_of all_members) 0 bs (λ i n l e.
      let same : i ≡ n = omega (arith, e) in
      subst (λ k. members_of all_members k ≡ (get_or bs i empty).members) same (members_are i l)))
      ∙ ap (λ k. flat_map (members_of all_members) (numbers k 0)) (sym size_of)

  pub writable : IsFormat f → HeldInSecond f bs → size < number_limit → length all_members < number_limit → AreSingle all_members →
      IsWritable f (repository_of_reading (reading_of_blocks f bs)) all_members (over_blocks held_in 0 bs)
  unfolding repository_of_reading
  writable known held few_classes few_members single = record {
    few_classes = subst (λ k. k < number_limit) (sym size_of) few_classes;
    few_members = few_members;
    by_class = by_class;
    populated = λ n l.
        let m : n < size = subst (λ k. n < k) size_of l in
        subst (λ ms. 0 < length ms) (sym (members_are n m)) (populated_at bs n populated m);
    named = named_in 0 bs fit;
    single = single;
    order = order;
    apart = λ n c i. (of_class n c i).apart;
    sound = record {
      clauses = sound;
      count = length_pairs (reading_of_blocks f bs).conflicts size ∙ sym size_of;
      conflicts = pairs_conflict (reading_of_blocks f bs).conflicts size (record { ordered = rising 0 bs fit; below = range.conflicts });
    };
    fits = record {
      known = known;
      ascending = held_ascending 0 bs;
      inside = λ n i. let w : (0 ≤ n) × (n < 0 + size) = held_bounds 0 bs n i in omega (arith, size_of);
      none_in_first = λ e. none_held f 0 bs e held;
    };
  }
