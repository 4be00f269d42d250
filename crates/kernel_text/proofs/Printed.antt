-- The lines of a kernel are allowed, one behind the other, and what they tell.
use Rattle.std.proofs.Common.{◌≡◌, ℕ, zero, suc, ◌+◌, ◌-◌, ◌<◌, Bool, true, false, List, [], ◌∷◌, ◌++◌, Option, Some, length, map, inl, inr, refl, sym, ap, ◌∙◌}
use Rattle.std.proofs.{Common.{subst, append_assoc, add-one, arith}, lemmas.List.{append-nil}}
use Rattle.std.specs.List.{flat_map}
use Rattle.listed.specs.Lists.{Ascending, In, has, here, there}
use Rattle.clause_pool.specs.Lists.{InOrder}
use Rattle.row_book.specs.{Numbers.{numbers}, Repository.{Repository, clauses_of}, declared.pair.Pair.{Pair}}
use Rattle.listed.proofs.Lists.{In_cases, In_append_right}
use Rattle.kernel_text.specs.{declared.member.Member.{Member}, KernelLines.{KernelLine, ClassLine, MemberLine, HeldLine, NeedsLine, AgainstLine}}
use Rattle.kernel_text.specs.KernelText.{AreSingle, class_lines, greater_conflicts, held_lines, line_of_member, members_of}
use Rattle.kernel_text.specs.Reading.{Reading, ClassClause, with_line, number_limit, is_same_member, IsNamed}
use Rattle.kernel_text.proofs.{Allowed.{IsClauseOf, MayBegin, MayAddMember, MayAddClause, MayAddConflict, MayAddHeld}, LineCuts.{with_lines, AreAllowed}}

-- of a format, with held classes
abbrev pub reading_at : ℕ → List ℕ → Option KernelLine → ℕ → List Member → List ClassClause → List Pair → Reading
reading_at f hs last k ms ns ps = record { last = last; format = f; classes = k; members = ms; held = hs; clauses = ns; conflicts = ps }

abbrev pub clause_entry : ℕ → List ℕ → ClassClause
clause_entry n c = record { class = n; clause = c }

abbrev pub pair_of : ℕ → ℕ → Pair
pair_of n m = record { low = n; high = m }

-- the class, where it is held
abbrev pub held_entries : Bool → ℕ → List ℕ
held_entries true n = n ∷ []
held_entries false n = []

abbrev pub held_of : List ℕ → ℕ → List ℕ
held_of held n = held_entries (has held n) n

abbrev pub clause_entries : Repository → ℕ → List ClassClause
clause_entries R n = map (clause_entry n) (clauses_of R n)

abbrev pub pairs_of : Repository → ℕ → List Pair
pairs_of R n = map (pair_of n) (greater_conflicts R n)

pub with_append : (t : Reading) (xs ys : List KernelLine) → with_lines t (xs ++ ys) ≡ with_lines (with_lines t xs) ys
with_append t [] ys = refl
with_append t (x ∷ xs) ys = with_append (with_line t x) xs ys

pub allowed_append : (t : Reading) (xs ys : List KernelLine) → AreAllowed t xs → AreAllowed (with_lines t xs) ys → AreAllowed t (xs ++ ys)
allowed_append t [] ys a b = b
allowed_append t (x ∷ xs) ys a b = (a.0, allowed_append (with_line t x) xs ys a.1 b)

-- the last line
abbrev pub last_of : Option KernelLine → List KernelLine → Option KernelLine
last_of last [] = last
last_of last (l ∷ ls) = last_of (Some l) ls

back : (n : ℕ) → n + 1 - 1 ≡ n
back n = omega arith

-- members
is_read : (n : ℕ) (m : Member) → m.class ≡ n → record { class = n + 1 - 1; name = m.name; version = m.version } ≡ m
is_read n m e =
    let named : ℕ → Member = λ k. record { class = k; name = m.name; version = m.version } in
    ap named (back n ∙ sym e)

-- behind some items and one more
single_new : (xs : List Member) (m : Member) (ys : List Member) → AreSingle (xs ++ m ∷ ys) → (o : Member) → In o xs → is_same_member m o ≡ false
single_new [] m ys d o i = elim i [ ]
single_new (x ∷ xs) m ys d o i =
    elim (In_cases i) [
      | inl e ↦ subst (λ z. is_same_member m z ≡ false) (sym e) (d.0 m (In_append_right xs (m ∷ ys) m here))
      | inr j ↦ single_new xs m ys d.1 o j
    ]

members_allowed : (f : ℕ) (hs : List ℕ) (n : ℕ) (last : Option KernelLine) (ms earlier later : List Member) (ns : List ClassClause) (ps : List Pair) →
    MayAddMember last → ((m : Member) → In m ms → (m.class ≡ n) × IsNamed m.name m.version) → AreSingle (earlier ++ (ms ++ later)) →
    AreAllowed (reading_at f hs last (n + 1) earlier ns ps) (map line_of_member ms)
members_allowed f hs n last [] earlier later ns ps may each d = tt
members_allowed f hs n last (m ∷ ms) earlier later ns ps may each d =
    let w : (m.class ≡ n) × IsNamed m.name m.version = each m here in (
      (may, w.1, single_new earlier m (ms ++ later) d),
      subst (λ x. AreAllowed (reading_at f hs (Some (line_of_member m)) (n + 1) (earlier ++ x ∷ []) ns ps) (map line_of_member ms)) (sym (is_read n m w.0))
          (members_allowed f hs n (Some (line_of_member m)) ms (earlier ++ m ∷ []) later ns ps tt (λ o i. each o (there i))
          (subst AreSingle (sym (append_assoc earlier (m ∷ []) (ms ++ later))) d)),
    )

pub members_reading : (f : ℕ) (hs : List ℕ) (n : ℕ) (last : Option KernelLine) (ms earlier : List Member) (ns : List ClassClause) (ps : List Pair) → ((m : Member) → In m ms → m.class ≡ n) →
    with_lines (reading_at f hs last (n + 1) earlier ns ps) (map line_of_member ms) ≡ reading_at f hs (last_of last (map line_of_member ms)) (n + 1) (earlier ++ ms) ns ps
members_reading f hs n last [] earlier ns ps each = ap (λ xs. reading_at f hs last (n + 1) xs ns ps) (sym (append-nil earlier))
members_reading f hs n last (m ∷ ms) earlier ns ps each =
    ap (λ x. with_lines (reading_at f hs (Some (line_of_member m)) (n + 1) (earlier ++ x ∷ []) ns ps) (map line_of_member ms)) (is_read n m (each m here))
    ∙ members_reading f hs n (Some (line_of_member m)) ms (earlier ++ m ∷ []) ns ps (λ o i. each o (there i))
    ∙ ap (λ xs. reading_at f hs (last_of (Some (line_of_member m)) (map line_of_member ms)) (n + 1) xs ns ps) (append_assoc earlier (m ∷ []) ms)

members_last : (P : Option KernelLine → Type 0) → ((name version : List ℕ) → P (Some (MemberLine name version))) → (ms : List Member) (last : Option KernelLine) → 0 < length ms → P (last_of last (map line_of_member ms))
members_last P h [] last l = absurd (omega arith)
members_last P h (m ∷ []) last l = h m.name m.version
members_last P h (m ∷ (o ∷ ms)) last l = members_last P h (o ∷ ms) (Some (line_of_member m)) (omega arith)

-- what was said before, in a block, and behind it
pub regrouped : (f : ℕ) (last : Option KernelLine) (k : ℕ) (a b c : List ℕ) (ms ns os : List Member) (cs ds es : List ClassClause) (ps qs rs : List Pair) →
    reading_at f ((a ++ b) ++ c) last k ((ms ++ ns) ++ os) ((cs ++ ds) ++ es) ((ps ++ qs) ++ rs) ≡ reading_at f (a ++ (b ++ c)) last k (ms ++ (ns ++ os)) (cs ++ (ds ++ es)) (ps ++ (qs ++ rs))
regrouped f last k a b c ms ns os cs ds es ps qs rs =
    ap (λ xs. reading_at f xs last k ((ms ++ ns) ++ os) ((cs ++ ds) ++ es) ((ps ++ qs) ++ rs)) (append_assoc a b c)
    ∙ ap (λ xs. reading_at f (a ++ (b ++ c)) last k xs ((cs ++ ds) ++ es) ((ps ++ qs) ++ rs)) (append_assoc ms ns os)
    ∙ ap (λ xs. reading_at f (a ++ (b ++ c)) last k (ms ++ (ns ++ os)) xs ((ps ++ qs) ++ rs)) (append_assoc cs ds es)
    ∙ ap (λ xs. reading_at f (a ++ (b ++ c)) last k (ms ++ (ns ++ os)) (cs ++ (ds ++ es)) xs) (append_assoc ps qs rs)

-- whether the class is held
held_allowed : (f : ℕ) (hs : List ℕ) (n : ℕ) (last : Option KernelLine) (h : Bool) (ms : List Member) (ns : List ClassClause) (ps : List Pair) →
    MayAddHeld last → (h ≡ true → f ≡ 2) → AreAllowed (reading_at f hs last (n + 1) ms ns ps) (held_lines h)
held_allowed f hs n last true ms ns ps may second = ((may, second refl), tt)
held_allowed f hs n last false ms ns ps may second = tt

pub held_reading : (f : ℕ) (hs : List ℕ) (n : ℕ) (last : Option KernelLine) (h : Bool) (ms : List Member) (ns : List ClassClause) (ps : List Pair) →
    with_lines (reading_at f hs last (n + 1) ms ns ps) (held_lines h) ≡ reading_at f (hs ++ held_entries h n) (last_of last (held_lines h)) (n + 1) ms ns ps
held_reading f hs n last true ms ns ps = ap (λ k. reading_at f (hs ++ k ∷ []) (Some HeldLine) (n + 1) ms ns ps) (back n)
held_reading f hs n last false ms ns ps = ap (λ xs. reading_at f xs last (n + 1) ms ns ps) (sym (append-nil hs))

pub held_last : (P : Option KernelLine → Type 0) → P (Some HeldLine) → (h : Bool) (last : Option KernelLine) → P last → P (last_of last (held_lines h))
held_last P own true last p = own
held_last P own false last p = p

-- clauses
clauses_allowed : (f : ℕ) (hs : List ℕ) (n : ℕ) (last : Option KernelLine) (cs : List (List ℕ)) (ms : List Member) (ns : List ClassClause) (ps : List Pair) →
    ((c : List ℕ) → In c cs → MayAddClause last c) → InOrder cs → ((c : List ℕ) → In c cs → IsClauseOf n c) → AreAllowed (reading_at f hs last (n + 1) ms ns ps) (map NeedsLine cs)
clauses_allowed f hs n last [] ms ns ps may order each = tt
clauses_allowed f hs n last (c ∷ cs) ms ns ps may order each = (
  (may c here, subst (λ k. IsClauseOf k c) (sym (back n)) (each c here)),
  clauses_allowed f hs n (Some (NeedsLine c)) cs ms (ns ++ clause_entry (n + 1 - 1) c ∷ []) ps order.0 order.1 (λ d i. each d (there i)),
)

pub clauses_reading : (f : ℕ) (hs : List ℕ) (n : ℕ) (last : Option KernelLine) (cs : List (List ℕ)) (ms : List Member) (ns : List ClassClause) (ps : List Pair) →
    with_lines (reading_at f hs last (n + 1) ms ns ps) (map NeedsLine cs) ≡ reading_at f hs (last_of last (map NeedsLine cs)) (n + 1) ms (ns ++ map (clause_entry n) cs) ps
clauses_reading f hs n last [] ms ns ps = ap (λ xs. reading_at f hs last (n + 1) ms xs ps) (sym (append-nil ns))
clauses_reading f hs n last (c ∷ cs) ms ns ps =
    ap (λ k. with_lines (reading_at f hs (Some (NeedsLine c)) (n + 1) ms (ns ++ clause_entry k c ∷ []) ps) (map NeedsLine cs)) (back n)
    ∙ clauses_reading f hs n (Some (NeedsLine c)) cs ms (ns ++ clause_entry n c ∷ []) ps
    ∙ ap (λ xs. reading_at f hs (last_of (Some (NeedsLine c)) (map NeedsLine cs)) (n + 1) ms xs ps) (append_assoc ns (clause_entry n c ∷ []) (map (clause_entry n) cs))

pub clauses_last : (P : Option KernelLine → Type 0) → ((c : List ℕ) → P (Some (NeedsLine c))) → (cs : List (List ℕ)) (last : Option KernelLine) → P last → P (last_of last (map NeedsLine cs))
clauses_last P h [] last p = p
clauses_last P h (c ∷ cs) last p = clauses_last P h cs (Some (NeedsLine c)) (h c)

-- conflicts
conflicts_allowed : (f : ℕ) (hs : List ℕ) (n : ℕ) (last : Option KernelLine) (xs : List ℕ) (ms : List Member) (ns : List ClassClause) (ps : List Pair) →
    ((m : ℕ) → In m xs → MayAddConflict last m) → Ascending xs → ((m : ℕ) → In m xs → (n < m) × (m < number_limit)) → AreAllowed (reading_at f hs last (n + 1) ms ns ps) (map AgainstLine xs)
conflicts_allowed f hs n last [] ms ns ps may up each = tt
conflicts_allowed f hs n last (x ∷ xs) ms ns ps may up each =
    let w : (n < x) × (x < number_limit) = each x here in (
      (may x here, subst (λ k. k < x) (sym (back n)) w.0, w.1),
      conflicts_allowed f hs n (Some (AgainstLine x)) xs ms ns (ps ++ pair_of (n + 1 - 1) x ∷ []) up.0 up.1 (λ m i. each m (there i)),
    )

pub conflicts_reading : (f : ℕ) (hs : List ℕ) (n : ℕ) (last : Option KernelLine) (xs : List ℕ) (ms : List Member) (ns : List ClassClause) (ps : List Pair) →
    with_lines (reading_at f hs last (n + 1) ms ns ps) (map AgainstLine xs) ≡ reading_at f hs (last_of last (map AgainstLine xs)) (n + 1) ms ns (ps ++ map (pair_of n) xs)
conflicts_reading f hs n last [] ms ns ps = ap (λ xs. reading_at f hs last (n + 1) ms ns xs) (sym (append-nil ps))
conflicts_reading f hs n last (x ∷ xs) ms ns ps =
    ap (λ k. with_lines (reading_at f hs (Some (AgainstLine x)) (n + 1) ms ns (ps ++ pair_of k x ∷ [])) (map AgainstLine xs)) (back n)
    ∙ conflicts_reading f hs n (Some (AgainstLine x)) xs ms ns (ps ++ pair_of n x ∷ [])
    ∙ ap (λ ys. reading_at f hs (last_of (Some (AgainstLine x)) (map AgainstLine xs)) (n + 1) ms ns ys) (append_assoc ps (pair_of n x ∷ []) (map (pair_of n) xs))

pub conflicts_last : (P : Option KernelLine → Type 0) → ((m : ℕ) → P (Some (AgainstLine m))) → (xs : List ℕ) (last : Option KernelLine) → P last → P (last_of last (map AgainstLine xs))
conflicts_last P h [] last p = p
conflicts_last P h (x ∷ xs) last p = conflicts_last P h xs (Some (AgainstLine x)) (h x)

-- what the block of a class asks for
pub record IsBlock (f : ℕ) (R : Repository) (members : List Member) (held : List ℕ) (n : ℕ) : Type 0 where
  pub low : n < number_limit
  pub populated : 0 < length (members_of members n)
  pub each : (m : Member) → In m (members_of members n) → (m.class ≡ n) × IsNamed m.name m.version
  pub marked : has held n ≡ true → f ≡ 2
  pub order : InOrder (clauses_of R n)
  pub clauses : (c : List ℕ) → In c (clauses_of R n) → IsClauseOf n c
  pub up : Ascending (greater_conflicts R n)
  pub conflicts : (m : ℕ) → In m (greater_conflicts R n) → (n < m) × (m < number_limit)

module _ (f : ℕ) (hs : List ℕ) (R : Repository) (members : List Member) (held : List ℕ) (n : ℕ) (last : Option KernelLine) (earlier : List Member) (ns : List ClassClause) (ps : List Pair)
    (block : IsBlock f R members held n) where
  ms : List Member
  ms = members_of members n

  member_lines : List KernelLine
  member_lines = map line_of_member ms

  mark_lines : List KernelLine
  mark_lines = held_lines (has held n)

  clause_lines : List KernelLine
  clause_lines = map NeedsLine (clauses_of R n)

  conflict_lines : List KernelLine
  conflict_lines = map AgainstLine (greater_conflicts R n)

  begun : Option KernelLine
  begun = last_of (Some (ClassLine n)) member_lines

  marked : Option KernelLine
  marked = last_of begun mark_lines

  -- the held classes with this one
  abbrev now : List ℕ
  now = hs ++ held_of held n

  first : with_lines (reading_at f hs (Some (ClassLine n)) (n + 1) earlier ns ps) member_lines ≡ reading_at f hs begun (n + 1) (earlier ++ ms) ns ps
  unfolding ms member_lines begun
  first = members_reading f hs n (Some (ClassLine n)) ms earlier ns ps (λ m i. (block.each m i).0)

  second : with_lines (reading_at f hs begun (n + 1) (earlier ++ ms) ns ps) mark_lines ≡ reading_at f now marked (n + 1) (earlier ++ ms) ns ps
  unfolding mark_lines marked
  second = held_reading f hs n begun (has held n) (earlier ++ ms) ns ps

  third : with_lines (reading_at f now marked (n + 1) (earlier ++ ms) ns ps) clause_lines ≡ reading_at f now (last_of marked clause_lines) (n + 1) (earlier ++ ms) (ns ++ clause_entries R n) ps
  unfolding ms clause_lines
  third = clauses_reading f now n marked (clauses_of R n) (earlier ++ ms) ns ps

  fourth : with_lines (reading_at f now (last_of marked clause_lines) (n + 1) (earlier ++ ms) (ns ++ clause_entries R n) ps) conflict_lines
      ≡ reading_at f now (last_of (last_of marked clause_lines) conflict_lines) (n + 1) (earlier ++ ms) (ns ++ clause_entries R n) (ps ++ pairs_of R n)
  unfolding ms conflict_lines
  fourth = conflicts_reading f now n (last_of marked clause_lines) (greater_conflicts R n) (earlier ++ ms) (ns ++ clause_entries R n) ps

  -- the line that a block ends with
  abbrev block_last : Option KernelLine
  block_last = last_of (last_of marked clause_lines) conflict_lines

  block_reading : with_lines (reading_at f hs last n earlier ns ps) (class_lines R members held n)
      ≡ reading_at f now block_last (n + 1) (earlier ++ members_of members n) (ns ++ clause_entries R n) (ps ++ pairs_of R n)
  unfolding class_lines ms member_lines mark_lines clause_lines conflict_lines begun marked
  block_reading =
      with_append (reading_at f hs (Some (ClassLine n)) (n + 1) earlier ns ps) member_lines (mark_lines ++ (clause_lines ++ conflict_lines))
      ∙ ap (λ t. with_lines t (mark_lines ++ (clause_lines ++ conflict_lines))) first
      ∙ with_append (reading_at f hs begun (n + 1) (earlier ++ ms) ns ps) mark_lines (clause_lines ++ conflict_lines)
      ∙ ap (λ t. with_lines t (clause_lines ++ conflict_lines)) second
      ∙ with_append (reading_at f now marked (n + 1) (earlier ++ ms) ns ps) clause_lines conflict_lines
      ∙ ap (λ t. with_lines t conflict_lines) third
      ∙ fourth

  -- what holds of a member line and of the held line holds of the last one before the clauses
  behind_members : (P : Option KernelLine → Type 0) → ((name version : List ℕ) → P (Some (MemberLine name version))) → P (Some HeldLine) → P marked
  unfolding ms member_lines mark_lines begun marked
  behind_members P h own = held_last P own (has held n) begun (members_last P h ms (Some (ClassLine n)) block.populated)

  clauses_may : AreAllowed (reading_at f now marked (n + 1) (earlier ++ ms) ns ps) clause_lines
  unfolding clause_lines
  clauses_may = clauses_allowed f now n marked (clauses_of R n) (earlier ++ ms) ns ps (λ c i. behind_members (λ l. MayAddClause l c) (λ a v. tt) tt) block.order block.clauses

  conflicts_may : AreAllowed (reading_at f now (last_of marked clause_lines) (n + 1) (earlier ++ ms) (ns ++ clause_entries R n) ps) conflict_lines
  unfolding clause_lines conflict_lines
  conflicts_may =
      conflicts_allowed f now n (last_of marked clause_lines) (greater_conflicts R n) (earlier ++ ms) (ns ++ clause_entries R n) ps
      (λ m i. clauses_last (λ l. MayAddConflict l m) (λ c. tt) (clauses_of R n) marked (behind_members (λ l. MayAddConflict l m) (λ a v. tt) tt)) block.up block.conflicts

  block_allowed : (later : List Member) → MayBegin last → AreSingle (earlier ++ (members_of members n ++ later)) → AreAllowed (reading_at f hs last n earlier ns ps) (class_lines R members held n)
  unfolding class_lines ms member_lines mark_lines clause_lines conflict_lines begun
  block_allowed later may single = (
    (may, refl, block.low),
    allowed_append (reading_at f hs (Some (ClassLine n)) (n + 1) earlier ns ps) member_lines (mark_lines ++ (clause_lines ++ conflict_lines))
        (members_allowed f hs n (Some (ClassLine n)) ms earlier later ns ps tt block.each single)
        (subst (λ t. AreAllowed t (mark_lines ++ (clause_lines ++ conflict_lines))) (sym first)
        (allowed_append (reading_at f hs begun (n + 1) (earlier ++ ms) ns ps) mark_lines (clause_lines ++ conflict_lines)
        (held_allowed f hs n begun (has held n) (earlier ++ ms) ns ps (members_last MayAddHeld (λ a v. tt) ms (Some (ClassLine n)) block.populated) block.marked)
        (subst (λ t. AreAllowed t (clause_lines ++ conflict_lines)) (sym second)
        (allowed_append (reading_at f now marked (n + 1) (earlier ++ ms) ns ps) clause_lines conflict_lines clauses_may
        (subst (λ t. AreAllowed t conflict_lines) (sym third) conflicts_may))))),
  )

  block_ends : MayBegin block_last
  unfolding clause_lines conflict_lines
  block_ends =
      conflicts_last MayBegin (λ m. tt) (greater_conflicts R n) (last_of marked clause_lines)
      (clauses_last MayBegin (λ c. tt) (clauses_of R n) marked (behind_members MayBegin (λ a v. tt) tt))

-- the blocks of classes, one behind the other
pub record Blocks (f : ℕ) (hs : List ℕ) (R : Repository) (members : List Member) (held : List ℕ) (j k N : ℕ) (last : Option KernelLine) (earlier : List Member) (ns : List ClassClause) (ps : List Pair) : Type 0 where
  pub allowed : AreAllowed (reading_at f hs last k earlier ns ps) (flat_map (class_lines R members held) (numbers j k))
  pub final : Option KernelLine
  pub ends : MayBegin final
  pub reading : with_lines (reading_at f hs last k earlier ns ps) (flat_map (class_lines R members held) (numbers j k)) ≡
      reading_at f (hs ++ flat_map (held_of held) (numbers j k)) final N (earlier ++ flat_map (members_of members) (numbers j k)) (ns ++ flat_map (clause_entries R) (numbers j k))
      (ps ++ flat_map (pairs_of R) (numbers j k))

pub all_blocks : (f : ℕ) (hs : List ℕ) (R : Repository) (members : List Member) (held : List ℕ) (j k N : ℕ) (last : Option KernelLine) (earlier : List Member) (ns : List ClassClause) (ps : List Pair) →
    k + j ≡ N → ((n : ℕ) → n < N → IsBlock f R members held n) → MayBegin last → AreSingle (earlier ++ flat_map (members_of members) (numbers j k)) →
    Blocks f hs R members held j k N last earlier ns ps
unfolding numbers
all_blocks f hs R members held zero k N last earlier ns ps e blocks may single =
    let same : k ≡ N = omega (arith, e) in
    record {
      allowed = tt;
      final = last;
      ends = may;
      reading = ap (λ n. reading_at f hs last n earlier ns ps) same ∙ ap (λ xs. reading_at f hs last N xs ns ps) (sym (append-nil earlier))
          ∙ ap (λ xs. reading_at f hs last N (earlier ++ []) xs ps) (sym (append-nil ns)) ∙ ap (λ xs. reading_at f hs last N (earlier ++ []) (ns ++ []) xs) (sym (append-nil ps))
          ∙ ap (λ xs. reading_at f xs last N (earlier ++ []) (ns ++ []) (ps ++ [])) (sym (append-nil hs));
    }
all_blocks f hs R members held (suc j) k N last earlier ns ps e blocks may single =
    let block : IsBlock f R members held k = blocks k (omega (arith, e)) in
    let ms : List Member = earlier ++ members_of members k in
    let marks : List ℕ = hs ++ held_of held k in
    let rest : List ℕ = numbers j (suc k) in
    let here_last : Option KernelLine = block_last f hs R members held k last earlier ns ps block in
    let one : with_lines (reading_at f hs last k earlier ns ps) (class_lines R members held k) ≡ reading_at f marks here_last (suc k) ms (ns ++ clause_entries R k) (ps ++ pairs_of R k)
    = block_reading f hs R members held k last earlier ns ps block ∙ ap (λ n. reading_at f marks here_last n ms (ns ++ clause_entries R k) (ps ++ pairs_of R k)) (add-one k) in
    let more : Blocks f marks R members held j (suc k) N here_last ms (ns ++ clause_entries R k) (ps ++ pairs_of R k) =
    all_blocks f marks R members held j (suc k) N here_last ms (ns ++ clause_entries R k) (ps ++ pairs_of R k) (omega (arith, e)) blocks
    (block_ends f hs R members held k last earlier ns ps block)
    (subst AreSingle (sym (append_assoc earlier (members_of members k) (flat_map (members_of members) rest))) single) in
    record {
      allowed = allowed_append (reading_at f hs last k earlier ns ps) (class_lines R members held k) (flat_map (class_lines R members held) rest)
          (block_allowed f hs R members held k last earlier ns ps block (flat_map (members_of members) rest) may single)
          (subst (λ t. AreAllowed t (flat_map (class_lines R members held) rest)) (sym one) more.allowed);
      final = more.final;
      ends = more.ends;
      reading = with_append (reading_at f hs last k earlier ns ps) (class_lines R members held k) (flat_map (class_lines R members held) rest)
          ∙ ap (λ t. with_lines t (flat_map (class_lines R members held) rest)) one ∙ more.reading
          ∙ regrouped f more.final N hs (held_of held k) (flat_map (held_of held) rest) earlier (members_of members k) (flat_map (members_of members) rest)
          ns (clause_entries R k) (flat_map (clause_entries R) rest) ps (pairs_of R k) (flat_map (pairs_of R) rest);
    }
