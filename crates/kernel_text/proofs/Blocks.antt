-- What the blocks of classes say, one behind the other, and that they are the lines of the kernel that they say.
use Rattle.std.proofs.Common.{◌≡◌, ◌≢◌, ℕ, zero, suc, ◌+◌, ◌<◌, ◌≤◌, Bool, true, false, ◌&&◌, eqb, ltb, List, [], ◌∷◌, ◌++◌, ◌⊎◌, Option, Some, length, map}
use Rattle.std.proofs.Common.{filter, get_or, inl, inr, refl, sym, ap, ap₂, ◌∙◌, subst, add-one, zero-add, eq-eqb, arith}
use Rattle.std.proofs.{lemmas.Bool.{and_from, false_from_ne_true, or_left, lt-ltb, ltb-true, ne_eqb}, lemmas.List.{append-nil}}
use Rattle.std.proofs.lemmas.List.Elements.{filter-append}
use Rattle.std.specs.List.{flat_map}
use Rattle.row_book.specs.{Book.{are_paired, lists_of_pairs}, Numbers.{numbers}, Repository.{Repository, clauses_of, conflicts_of}, declared.pair.Pair.{Pair}}
use Rattle.listed.specs.Lists.{Ascending, In, has, here, there}
use Rattle.listed.proofs.Lists.{In_cases, In_has, In_none, In_map, In_map_cases, In_append_cases, any_from, filter_from, filter_cases, has_In}
use Rattle.listed.proofs.Orders.{ascending_same, ascending_filter}
use Rattle.row_book.proofs.{Numbers.{numbers_from, numbers_ascending, length_numbers, at_numbers}, Pairs.{is_of, paired_cases}}
use Rattle.kernel_text.specs.{declared.member.Member.{Member}, KernelLines.{KernelLine, HeadLine, ClassLine, NeedsLine, AgainstLine, EndLine}}
use Rattle.kernel_text.specs.Reading.{clauses_of_class, Reading, ClassClause}
use Rattle.kernel_text.specs.KernelText.{class_lines, greater_conflicts, held_lines, kernel_lines, line_of_member}
use Rattle.kernel_text.proofs.LineCuts.{with_lines}
use Rattle.kernel_text.proofs.Printed.{reading_at, clause_entry, held_entries, pair_of, last_of, with_append, members_reading, held_reading, clauses_reading}
use Rattle.kernel_text.proofs.Printed.{conflicts_reading, held_last, clauses_last, conflicts_last, regrouped}
use Rattle.kernel_text.proofs.ClassLines.{Block, FitBlock, FitBlocks, HeldInSecond, block_lines, empty, over_blocks}

-- what blocks tell
abbrev pub NotEnd : Option KernelLine → Type 0
NotEnd (Some (EndLine classes members)) = ⊥
NotEnd last = Unit {0}

members_kept : (ms : List Member) (last : Option KernelLine) → NotEnd last → NotEnd (last_of last (map line_of_member ms))
members_kept [] last h = h
members_kept (m ∷ ms) last h = members_kept ms (Some (line_of_member m)) tt

abbrev pub members_in : ℕ → Block → List Member
members_in n b = b.members

abbrev pub held_in : ℕ → Block → List ℕ
held_in n b = held_entries b.held n

abbrev pub clause_entries_in : ℕ → Block → List ClassClause
clause_entries_in n b = map (clause_entry n) b.clauses

abbrev pub pairs_in : ℕ → Block → List Pair
pairs_in n b = map (pair_of n) b.conflicts

abbrev pub block_end : ℕ → Block → Option KernelLine
block_end n b = last_of (last_of (last_of (last_of (Some (ClassLine n)) (map line_of_member b.members)) (held_lines b.held)) (map NeedsLine b.clauses)) (map AgainstLine b.conflicts)

block_reading : (f : ℕ) (hs : List ℕ) (n : ℕ) (b : Block) (last : Option KernelLine) (ms : List Member) (ns : List ClassClause) (ps : List Pair) → FitBlock n b →
    with_lines (reading_at f hs last n ms ns ps) (block_lines n b) ≡ reading_at f (hs ++ held_in n b) (block_end n b) (suc n) (ms ++ members_in n b) (ns ++ clause_entries_in n b) (ps ++ pairs_in n b)
block_reading f hs n b last ms ns ps fit =
    let p : List KernelLine = map line_of_member b.members in
    let h : List KernelLine = held_lines b.held in
    let q : List KernelLine = map NeedsLine b.clauses in
    let r : List KernelLine = map AgainstLine b.conflicts in
    let one : Option KernelLine = last_of (Some (ClassLine n)) p in
    let two : Option KernelLine = last_of one h in
    with_append (reading_at f hs (Some (ClassLine n)) (n + 1) ms ns ps) p (h ++ (q ++ r))
    ∙ ap (λ t. with_lines t (h ++ (q ++ r))) (members_reading f hs n (Some (ClassLine n)) b.members ms ns ps fit.members)
    ∙ with_append (reading_at f hs one (n + 1) (ms ++ b.members) ns ps) h (q ++ r)
    ∙ ap (λ t. with_lines t (q ++ r)) (held_reading f hs n one b.held (ms ++ b.members) ns ps)
    ∙ with_append (reading_at f (hs ++ held_in n b) two (n + 1) (ms ++ b.members) ns ps) q r
    ∙ ap (λ t. with_lines t r) (clauses_reading f (hs ++ held_in n b) n two b.clauses (ms ++ b.members) ns ps)
    ∙ conflicts_reading f (hs ++ held_in n b) n (last_of two q) b.conflicts (ms ++ b.members) (ns ++ clause_entries_in n b) ps
    ∙ ap (λ k. reading_at f (hs ++ held_in n b) (block_end n b) k (ms ++ members_in n b) (ns ++ clause_entries_in n b) (ps ++ pairs_in n b)) (add-one n)

pub record BlocksRead (f : ℕ) (hs : List ℕ) (k : ℕ) (bs : List Block) (N : ℕ) (last : Option KernelLine) (ms : List Member) (ns : List ClassClause) (ps : List Pair) : Type 0 where
  pub final : Option KernelLine
  pub goes_on : NotEnd final
  pub reading : with_lines (reading_at f hs last k ms ns ps) (over_blocks block_lines k bs)
      ≡ reading_at f (hs ++ over_blocks held_in k bs) final N (ms ++ over_blocks members_in k bs) (ns ++ over_blocks clause_entries_in k bs) (ps ++ over_blocks pairs_in k bs)

pub blocks_reading : (f : ℕ) (hs : List ℕ) (k : ℕ) (bs : List Block) (N : ℕ) (last : Option KernelLine) (ms : List Member) (ns : List ClassClause) (ps : List Pair) → FitBlocks k bs → k + length bs ≡ N →
    NotEnd last → BlocksRead f hs k bs N last ms ns ps
blocks_reading f hs k [] N last ms ns ps fit e h =
    let same : k ≡ N = omega (arith, e) in
    record {
      final = last;
      goes_on = h;
      reading = ap (λ n. reading_at f hs last n ms ns ps) same ∙ ap (λ xs. reading_at f hs last N xs ns ps) (sym (append-nil ms))
          ∙ ap (λ xs. reading_at f hs last N (ms ++ []) xs ps) (sym (append-nil ns)) ∙ ap (λ xs. reading_at f hs last N (ms ++ []) (ns ++ []) xs) (sym (append-nil ps))
          ∙ ap (λ xs. reading_at f xs last N (ms ++ []) (ns ++ []) (ps ++ [])) (sym (append-nil hs));
    }
blocks_reading f hs k (b ∷ bs) N last ms ns ps fit e h =
    let ends : NotEnd (block_end k b) =
    conflicts_last NotEnd (λ m. tt) b.conflicts (last_of (last_of (last_of (Some (ClassLine k)) (map line_of_member b.members)) (held_lines b.held)) (map NeedsLine b.clauses))
    (clauses_last NotEnd (λ c. tt) b.clauses (last_of (last_of (Some (ClassLine k)) (map line_of_member b.members)) (held_lines b.held))
    (held_last NotEnd tt b.held (last_of (Some (ClassLine k)) (map line_of_member b.members)) (members_kept b.members (Some (ClassLine k)) tt))) in
    let more : BlocksRead f (hs ++ held_in k b) (suc k) bs N (block_end k b) (ms ++ members_in k b) (ns ++ clause_entries_in k b) (ps ++ pairs_in k b) =
    blocks_reading f (hs ++ held_in k b) (suc k) bs N (block_end k b) (ms ++ members_in k b) (ns ++ clause_entries_in k b) (ps ++ pairs_in k b) fit.1 (omega (arith, e)) ends in
    record {
      final = more.final;
      goes_on = more.goes_on;
      reading = with_append (reading_at f hs last k ms ns ps) (block_lines k b) (over_blocks block_lines (suc k) bs)
          ∙ ap (λ t. with_lines t (over_blocks block_lines (suc k) bs)) (block_reading f hs k b last ms ns ps fit.0) ∙ more.reading
          ∙ regrouped f more.final N hs (held_in k b) (over_blocks held_in (suc k) bs) ms (members_in k b) (over_blocks members_in (suc k) bs)
          ns (clause_entries_in k b) (over_blocks clause_entries_in (suc k) bs) ps (pairs_in k b) (over_blocks pairs_in (suc k) bs);
    }

-- the items of one block among those of all, by their class
pub filter_all : {A : Type 0} (key : A → ℕ) (n : ℕ) (xs : List A) → ((x : A) → In x xs → key x ≡ n) → filter (λ x. eqb (key x) n) xs ≡ xs
filter_all key n [] h = refl
filter_all key n (x ∷ xs) h = rw (eq-eqb (key x) n (h x here)) (ap (λ ys. x ∷ ys) (filter_all key n xs (λ y i. h y (there i))))

pub filter_none : {A : Type 0} (key : A → ℕ) (n : ℕ) (xs : List A) → ((x : A) → In x xs → key x ≢ n) → filter (λ x. eqb (key x) n) xs ≡ []
filter_none key n [] h = refl
filter_none key n (x ∷ xs) h = rw (ne_eqb (key x) n (h x here)) (filter_none key n xs (λ y i. h y (there i)))

abbrev pub Keyed : {A : Type 0} → (A → ℕ) → (ℕ → Block → List A) → ℕ → List Block → Type 0
Keyed {A} key f k [] = Unit {0}
Keyed {A} key f k (b ∷ bs) = ((x : A) → In x (f k b) → key x ≡ k) × Keyed key f (suc k) bs

picked_none : {A : Type 0} (key : A → ℕ) (f : ℕ → Block → List A) (k : ℕ) (bs : List Block) (n : ℕ) → n < k → Keyed key f k bs → filter (λ x. eqb (key x) n) (over_blocks f k bs) ≡ []
picked_none key f k [] n l h = refl
picked_none key f k (b ∷ bs) n l h =
    filter-append (λ x. eqb (key x) n) (f k b) (over_blocks f (suc k) bs)
    ∙ ap₂ (λ xs ys. xs ++ ys) (filter_none key n (f k b) (λ x i e. let g : key x ≡ k = h.0 x i in absurd (omega (arith, g, e)))) (picked_none key f (suc k) bs n (omega arith) h.1)

pub picked : {A : Type 0} (key : A → ℕ) (f : ℕ → Block → List A) (k : ℕ) (bs : List Block) (i n : ℕ) → i < length bs → k + i ≡ n → Keyed key f k bs →
    filter (λ x. eqb (key x) n) (over_blocks f k bs) ≡ f n (get_or bs i empty)
picked key f k [] i n l e h = absurd (omega arith)
picked key f k (b ∷ bs) zero n l e h =
    let same : k ≡ n = omega (arith, e) in
    filter-append (λ x. eqb (key x) n) (f k b) (over_blocks f (suc k) bs)
    ∙ ap₂ (λ xs ys. xs ++ ys) (filter_all key n (f k b) (λ x i. h.0 x i ∙ same)) (picked_none key f (suc k) bs n (omega (arith, same)) h.1)
    ∙ append-nil (f k b) ∙ ap (λ m. f m b) same
picked key f k (b ∷ bs) (suc i) n l e h =
    filter-append (λ x. eqb (key x) n) (f k b) (over_blocks f (suc k) bs)
    ∙ ap₂ (λ xs ys. xs ++ ys) (filter_none key n (f k b) (λ x j g. let same : key x ≡ k = h.0 x j in absurd (omega (arith, same, g, e)))) (picked key f (suc k) bs i n (omega arith) (omega (arith, e)) h.1)

pub keyed_members : (k : ℕ) (bs : List Block) → FitBlocks k bs → Keyed (λ (m : Member). m.class) members_in k bs
keyed_members k [] fit = tt
keyed_members k (b ∷ bs) fit = (fit.0.members, keyed_members (suc k) bs fit.1)

pub keyed_clauses : (k : ℕ) (bs : List Block) → Keyed (λ (entry : ClassClause). entry.class) clause_entries_in k bs
keyed_clauses k [] = tt
keyed_clauses k (b ∷ bs) =
    ((λ x i. let w : (c : List ℕ) × In c b.clauses × (x ≡ clause_entry k c) = In_map_cases (clause_entry k) b.clauses x i in ap (λ (y : ClassClause). y.class) w.2), keyed_clauses (suc k) bs)

keyed_pairs : (k : ℕ) (bs : List Block) → Keyed (λ (pair : Pair). pair.low) pairs_in k bs
keyed_pairs k [] = tt
keyed_pairs k (b ∷ bs) =
    ((λ x i. let w : (m : ℕ) × In m b.conflicts × (x ≡ pair_of k m) = In_map_cases (pair_of k) b.conflicts x i in ap (λ (y : Pair). y.low) w.2), keyed_pairs (suc k) bs)

held_key : (h : Bool) (k n : ℕ) → In n (held_entries h k) → n ≡ k
held_key true k n i = elim (In_cases i) [ inl e ↦ e | inr nothing ↦ absurd (In_none nothing) ]
held_key false k n i = absurd (In_none i)

keyed_held : (k : ℕ) (bs : List Block) → Keyed (λ (n : ℕ). n) held_in k bs
keyed_held k [] = tt
keyed_held k (b ∷ bs) = ((λ n i. held_key b.held k n i), keyed_held (suc k) bs)

-- the held classes of blocks are ascending numbers of these
pub held_bounds : (k : ℕ) (bs : List Block) (n : ℕ) → In n (over_blocks held_in k bs) → (k ≤ n) × (n < k + length bs)
held_bounds k [] n i = absurd (In_none i)
held_bounds k (b ∷ bs) n i =
    elim (In_append_cases (held_in k b) (over_blocks held_in (suc k) bs) n i) [
      | inl j ↦ let e : n ≡ k = held_key b.held k n j in (omega (arith, e), omega (arith, e))
      | inr j ↦ let w : (suc k ≤ n) × (n < suc k + length bs) = held_bounds (suc k) bs n j in (omega arith, omega arith)
    ]

one_ahead : (h : Bool) (k : ℕ) (xs : List ℕ) → ((n : ℕ) → In n xs → k < n) → Ascending xs → Ascending (held_entries h k ++ xs)
one_ahead true k xs above up = (above, up)
one_ahead false k xs above up = up

pub held_ascending : (k : ℕ) (bs : List Block) → Ascending (over_blocks held_in k bs)
held_ascending k [] = tt
held_ascending k (b ∷ bs) =
    one_ahead b.held k (over_blocks held_in (suc k) bs) (λ n i. let w : (suc k ≤ n) × (n < suc k + length bs) = held_bounds (suc k) bs n i in omega arith) (held_ascending (suc k) bs)

-- in format 1 there are none
none_ahead : (f k : ℕ) (h : Bool) (xs : List ℕ) → f ≡ 1 → (h ≡ true → f ≡ 2) → xs ≡ [] → held_entries h k ++ xs ≡ []
none_ahead f k true xs e second none = absurd (let g : f ≡ 2 = second refl in omega (arith, e, g))
none_ahead f k false xs e second none = none

pub none_held : (f k : ℕ) (bs : List Block) → f ≡ 1 → HeldInSecond f bs → over_blocks held_in k bs ≡ []
none_held f k [] e held = refl
none_held f k (b ∷ bs) e held = none_ahead f k b.held (over_blocks held_in (suc k) bs) e held.0 (none_held f (suc k) bs e held.1)

has_own : (xs : List ℕ) (n : ℕ) (h : Bool) → filter (λ x. eqb x n) xs ≡ held_entries h n → has xs n ≡ h
has_own xs n true e = In_has (filter_cases (λ x. eqb x n) xs n (subst (λ ys. In n ys) (sym e) here)).0
has_own xs n false e = false_from_ne_true (has xs n) (λ h. In_none (subst (λ ys. In n ys) e (filter_from (λ x. eqb x n) xs n (has_In xs n h) (eq-eqb n n refl))))

pub rising : (k : ℕ) (bs : List Block) → FitBlocks k bs → (pair : Pair) → In pair (over_blocks pairs_in k bs) → pair.low < pair.high
rising k [] fit pair i = absurd (In_none i)
rising k (b ∷ bs) fit pair i =
    elim (In_append_cases (pairs_in k b) (over_blocks pairs_in (suc k) bs) pair i) [
      | inl j ↦ let w : (m : ℕ) × In m b.conflicts × (pair ≡ pair_of k m) = In_map_cases (pair_of k) b.conflicts pair j in
          subst (λ (x : Pair). x.low < x.high) (sym w.2) (fit.0.above w.0 w.1)
      | inr j ↦ rising (suc k) bs fit.1 pair j
    ]

pub fit_at : (k : ℕ) (bs : List Block) (i n : ℕ) → FitBlocks k bs → i < length bs → k + i ≡ n → FitBlock n (get_or bs i empty)
fit_at k [] i n fit l e = absurd (omega arith)
fit_at k (b ∷ bs) zero n fit l e = let same : k ≡ n = omega (arith, e) in subst (λ m. FitBlock m b) same fit.0
fit_at k (b ∷ bs) (suc i) n fit l e = fit_at (suc k) bs i n fit.1 (omega arith) (omega (arith, e))

numbers_of : (n : ℕ) (cs : List (List ℕ)) → map (λ (entry : ClassClause). entry.clause) (map (clause_entry n) cs) ≡ cs
numbers_of n [] = refl
numbers_of n (c ∷ cs) = ap (λ xs. c ∷ xs) (numbers_of n cs)

pub by_blocks : {A : Type 0} (g : ℕ → Block → List A) (f : ℕ → List A) (k : ℕ) (bs : List Block) → ((i n : ℕ) → i < length bs → k + i ≡ n → f n ≡ g n (get_or bs i empty)) →
    flat_map f (numbers (length bs) k) ≡ over_blocks g k bs
unfolding numbers
by_blocks g f k [] h = refl
by_blocks g f k (b ∷ bs) h =
    ap₂ (λ xs ys. xs ++ ys) (h 0 k (omega arith) (omega arith)) (by_blocks g f (suc k) bs (λ i n l e. h (suc i) n (omega arith) (omega (arith, e))))

-- what blocks and the end line say
abbrev pub reading_of_blocks : ℕ → List Block → Reading
reading_of_blocks f bs =
    reading_at f (over_blocks held_in 0 bs) (Some (EndLine (length bs) (length (over_blocks members_in 0 bs)))) (length bs) (over_blocks members_in 0 bs) (over_blocks clause_entries_in 0 bs) (over_blocks pairs_in 0 bs)

module _ (bs : List Block) (fit : FitBlocks 0 bs) (low : (pair : Pair) → In pair (over_blocks pairs_in 0 bs) → pair.high < length bs) where
  abbrev size : ℕ
  size = length bs

  abbrev member_list : List Member
  member_list = over_blocks members_in 0 bs

  abbrev held_list : List ℕ
  held_list = over_blocks held_in 0 bs

  abbrev clauses : List ClassClause
  clauses = over_blocks clause_entries_in 0 bs

  abbrev pairs : List Pair
  pairs = over_blocks pairs_in 0 bs

  abbrev pub R_read : Repository
  R_read = record { clauses = map (clauses_of_class clauses) (numbers size 0); conflicts = lists_of_pairs pairs size }

  pub clauses_are : (n : ℕ) → n < size → clauses_of R_read n ≡ (get_or bs n empty).clauses
  clauses_are n l =
      at_numbers (clauses_of_class clauses) [] size 0 n l ∙ ap (clauses_of_class clauses) (zero-add n)
      ∙ ap (map (λ (entry : ClassClause). entry.clause)) (picked (λ (entry : ClassClause). entry.class) clause_entries_in 0 bs n n l (zero-add n) (keyed_clauses 0 bs))
      ∙ numbers_of n (get_or bs n empty).clauses

  conflicts_are : (n : ℕ) → n < size → conflicts_of R_read n ≡ filter (are_paired pairs n) (numbers size 0)
  unfolding lists_of_pairs
  conflicts_are n l =
      at_numbers (λ p. filter (are_paired pairs p) (numbers size 0)) [] size 0 n l ∙ ap (λ p. filter (are_paired pairs p) (numbers size 0)) (zero-add n)

  own_pairs : (n : ℕ) → n < size → filter (λ (pair : Pair). eqb pair.low n) pairs ≡ map (pair_of n) (get_or bs n empty).conflicts
  own_pairs n l = picked (λ (pair : Pair). pair.low) pairs_in 0 bs n n l (zero-add n) (keyed_pairs 0 bs)

  greater_are : (n : ℕ) → n < size → greater_conflicts R_read n ≡ (get_or bs n empty).conflicts
  greater_are n l =
      let b : Block = get_or bs n empty in
      let mine : FitBlock n b = fit_at 0 bs n n fit l (zero-add n) in
      let listed : List ℕ = filter (are_paired pairs n) (numbers size 0) in
      ap (filter (λ m. ltb n m)) (conflicts_are n l)
      ∙ ascending_same (filter (λ m. ltb n m) listed) b.conflicts
      (ascending_filter (λ m. ltb n m) listed (ascending_filter (are_paired pairs n) (numbers size 0) (numbers_ascending size 0))) mine.up
      (λ q i. away q (filter_cases (λ m. ltb n m) listed q i))
      (λ q i. home q i)
    where
      away : (q : ℕ) → In q (filter (are_paired pairs n) (numbers size 0)) × (ltb n q ≡ true) → In q (get_or bs n empty).conflicts
      away q h =
          let less : n < q = ltb-true n q h.1 in
          let w : (pair : Pair) × In pair pairs × (((pair.low ≡ n) × (pair.high ≡ q)) ⊎ ((pair.low ≡ q) × (pair.high ≡ n))) =
          paired_cases pairs n q (filter_cases (are_paired pairs n) (numbers size 0) q h.0).1 in
          let up : w.0.low < w.0.high = rising 0 bs fit w.0 w.1 in
          elim w.2 [
            | inl e ↦
                let i : In w.0 (map (pair_of n) (get_or bs n empty).conflicts) = subst (λ xs. In w.0 xs) (own_pairs n l) (filter_from (λ (pair : Pair). eqb pair.low n) pairs w.0 w.1 (eq-eqb w.0.low n e.0)) in
                let v : (m : ℕ) × In m (get_or bs n empty).conflicts × (w.0 ≡ pair_of n m) = In_map_cases (pair_of n) (get_or bs n empty).conflicts w.0 i in
                subst (λ k. In k (get_or bs n empty).conflicts) (sym (ap (λ (x : Pair). x.high) v.2) ∙ e.1) v.1
            | inr e ↦ absurd (let a : w.0.low ≡ q = e.0 in let c : w.0.high ≡ n = e.1 in omega arith)
          ]

      home : (q : ℕ) → In q (get_or bs n empty).conflicts → In q (filter (λ m. ltb n m) (filter (are_paired pairs n) (numbers size 0)))
      home q i =
          let mine : FitBlock n (get_or bs n empty) = fit_at 0 bs n n fit l (zero-add n) in
          let less : n < q = mine.above q i in
          let j : In (pair_of n q) pairs = (filter_cases (λ (pair : Pair). eqb pair.low n) pairs (pair_of n q) (subst (λ xs. In (pair_of n q) xs) (sym (own_pairs n l)) (In_map (pair_of n) (get_or bs n empty).conflicts q i))).0 in
          let below : q < size = low (pair_of n q) j in
          filter_from (λ m. ltb n m) (filter (are_paired pairs n) (numbers size 0)) q
          (filter_from (are_paired pairs n) (numbers size 0) q (numbers_from size 0 q (omega arith) (omega arith))
          (any_from (is_of n q) pairs (pair_of n q) j (or_left (eqb n n && eqb q q) (eqb n q && eqb q n) (and_from (eqb n n) (eqb q q) (eq-eqb n n refl) (eq-eqb q q refl)))))
          (lt-ltb n q less)

  held_is : (n : ℕ) → n < size → has held_list n ≡ (get_or bs n empty).held
  held_is n l = has_own held_list n (get_or bs n empty).held (picked (λ (k : ℕ). k) held_in 0 bs n n l (zero-add n) (keyed_held 0 bs))

  class_is : (i n : ℕ) → i < size → 0 + i ≡ n → class_lines R_read member_list held_list n ≡ block_lines n (get_or bs i empty)
  unfolding class_lines
  class_is i n l e =
      let same : n ≡ i = omega (arith, e) in
      let inside : n < size = omega (arith, same) in
      let b : Block = get_or bs n empty in
      ap₂ (λ ms h. ClassLine n ∷ (map line_of_member ms ++ (held_lines h ++ (map NeedsLine (clauses_of R_read n) ++ map AgainstLine (greater_conflicts R_read n)))))
      (picked (λ (m : Member). m.class) members_in 0 bs n n inside (zero-add n) (keyed_members 0 bs fit)) (held_is n inside)
      ∙ ap₂ (λ cs xs. ClassLine n ∷ (map line_of_member b.members ++ (held_lines b.held ++ (map NeedsLine cs ++ map AgainstLine xs)))) (clauses_are n inside) (greater_are n inside)
      ∙ ap (λ k. block_lines n (get_or bs k empty)) same

  pub size_is : length R_read.clauses ≡ size
  size_is = length_numbers (clauses_of_class clauses) size 0

  pub lines_are : (f : ℕ) → kernel_lines f R_read member_list held_list ≡ HeadLine f ∷ (over_blocks block_lines 0 bs ++ EndLine size (length member_list) ∷ [])
  unfolding kernel_lines
  lines_are f =
      ap (λ n. HeadLine f ∷ (flat_map (class_lines R_read member_list held_list) (numbers n 0) ++ EndLine n (length member_list) ∷ [])) size_is
      ∙ ap (λ xs. HeadLine f ∷ (xs ++ EndLine size (length member_list) ∷ [])) (by_blocks block_lines (class_lines R_read member_list held_list) 0 bs class_is)
