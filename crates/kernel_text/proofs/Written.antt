-- What the writer puts together: the packages of each class, the blocks of classes, and the whole text.
use Rattle.std.proofs.Common.{◌≡◌, ℕ, zero, suc, ◌+◌, ◌<◌, ◌≤◌, Bool, true, false, eqb, ltb, List, [], ◌∷◌, ◌++◌, length, take, drop, map, filter, get_or, set}
use Rattle.std.proofs.{Common.{inl, inr, refl, sym, ap, ap₂, ◌∙◌, subst, zero-add, eq-eqb, append_assoc, arith}, Math.ListN.{length-set}, Math.Seq.{drop-cons}}
use Rattle.std.proofs.{lemmas.Bool.{cases_eq, cases_lt}, lemmas.Grind.{flat_map-append}}
use Rattle.std.proofs.{lemmas.List.{append-nil, flat_map_more, get_or_past, get_or-set_same, get_or-set_other, take_more}, lemmas.List.Elements.{filter-append}}
use Rattle.std.proofs.lemmas.List.Folds.{flat_map-map}
use Rattle.std.specs.List.{flat_map}
use Rattle.listed.proofs.Lists.{flat_same, In_none, filter_cases}
use Rattle.relation_fields.specs.declared.packages.PackageFacts.{PackageFacts}
use Rattle.repo_model.specs.Stanzas.{stanza_at, no_stanza}
use Rattle.row_book.specs.{Book.{listed_for}, Numbers.{numbers}, Flags.{flag}, Repository.{Repository, clauses_of, conflicts_of}}
use Rattle.listed.specs.Lists.{In, has}
use Rattle.row_book.proofs.Numbers.{numbers_parts, numbers_more}
use Rattle.kernel_text.specs.{declared.member.Member.{Member}, KernelLines.{KernelLine, HeadLine, ClassLine, NeedsLine, AgainstLine, EndLine, line_text}}
use Rattle.kernel_text.specs.KernelText.{class_lines, greater_conflicts, held_lines, kernel_lines, kernel_text, line_of_member, members_of}
use Rattle.kernel_text.specs.Members.{file_members, kernel_members}
use Rattle.kernel_text.specs.Writing.{IsByClass, NumbersPackages, TellHeld, block_text, line_of_package, lines_text, numbers_of_class}
use Rattle.kernel_text.proofs.Classified.{all_counted, all_of_class, file_member, length_file}

-- lists of classes: at first empty, and then with one more package
pub none_taken : (class_of : List ℕ) (size : ℕ) (table : List (List ℕ)) → length table ≡ size → ((n : ℕ) → listed_for table n ≡ []) → IsByClass class_of 0 size table
unfolding numbers
none_taken class_of size table count empty = record { count = count; each = λ n l. empty n }

pub one_taken : (class_of : List ℕ) (i size : ℕ) (table new : List (List ℕ)) (c : ℕ) → c ≡ get_or class_of i 0 → c < size →
    IsByClass class_of i size table → new ≡ set table c (listed_for table c ++ i ∷ []) → IsByClass class_of (i + 1) size new
one_taken class_of i size table new c class inside before made = record {
  count = ap length made ∙ length-set table c (listed_for table c ++ i ∷ []) ∙ before.count;
  each = λ n l.
      ap (λ t. listed_for t n) made ∙ elim (cases_eq n c) [
        | inl e ↦ subst (λ m. listed_for (set table c (listed_for table c ++ i ∷ [])) m ≡ numbers_of_class class_of (i + 1) m) (sym e)
            (get_or-set_same table c (listed_for table c ++ i ∷ []) [] (let count : length table ≡ size = before.count in omega arith)
            ∙ ap (λ xs. xs ++ i ∷ []) (before.each c inside) ∙ sym (more c ∙ ap (λ xs. numbers_of_class class_of i c ++ xs) (kept c (sym class))))
        | inr ne ↦
            get_or-set_other table c n (listed_for table c ++ i ∷ []) [] ne ∙ before.each n l
            ∙ sym (more n ∙ ap (λ xs. numbers_of_class class_of i n ++ xs) (dropped n (λ f. ne (sym f ∙ sym class))) ∙ append-nil (numbers_of_class class_of i n))
      ];
}
  where
    more : (n : ℕ) → numbers_of_class class_of (i + 1) n ≡ numbers_of_class class_of i n ++ filter (λ k. eqb (get_or class_of k 0) n) (i ∷ [])
    more n = ap (filter (λ k. eqb (get_or class_of k 0) n)) (numbers_more i) ∙ filter-append (λ k. eqb (get_or class_of k 0) n) (numbers i 0) (i ∷ [])

    kept : (n : ℕ) → get_or class_of i 0 ≡ n → filter (λ k. eqb (get_or class_of k 0) n) (i ∷ []) ≡ i ∷ []
    kept n e = rw (eq-eqb (get_or class_of i 0) n e) refl

    dropped : (n : ℕ) → (get_or class_of i 0 ≡ n → ⊥) → filter (λ k. eqb (get_or class_of k 0) n) (i ∷ []) ≡ []
    dropped n ne = rw (other (get_or class_of i 0) n ne) refl
      where
        other : (a b : ℕ) → (a ≡ b → ⊥) → eqb a b ≡ false
        other a b f = grind arith

pub of_packages : (class_of : List ℕ) (size : ℕ) (table : List (List ℕ)) (packages : List PackageFacts) → length class_of ≡ length packages →
    IsByClass class_of (length class_of) size table → NumbersPackages table packages
of_packages class_of size table packages each by_class n i j =
    elim (cases_lt n size) [
      | inl l ↦
          let w = filter_cases (λ k. eqb (get_or class_of k 0) n) (numbers (length class_of) 0) i (subst (λ xs. In i xs) (by_class.each n l) j) in
          let b : (0 ≤ i) × (i < 0 + length class_of) = numbers_parts (length class_of) 0 i w.0 in
          omega (arith, each)
      | inr g ↦ absurd (In_none (subst (λ xs. In i xs) (get_or_past table n [] (let count : length table ≡ size = by_class.count in omega arith)) j))
    ]

-- one more element, with its line or its block
pub more_text : {A : Type 0} (f : A → List ℕ) (xs : List A) (i : ℕ) (d : A) (start out new : List ℕ) → i < length xs →
    out ≡ start ++ flat_map f (take i xs) → new ≡ out ++ f (get_or xs i d) → new ≡ start ++ flat_map f (take (i + 1) xs)
more_text f xs i d start out new l sofar pushed =
    pushed ∙ ap (λ t. t ++ f (get_or xs i d)) sofar ∙ flat_map_more f start (take i xs) (get_or xs i d) ∙ ap (λ ys. start ++ flat_map f ys) (sym (take_more xs i d l))

pub no_blocks : (f : ℕ → List ℕ) (start : List ℕ) → start ≡ start ++ flat_map f (numbers 0 0)
unfolding numbers
no_blocks f start = sym (append-nil start)

pub more_blocks : (f : ℕ → List ℕ) (n : ℕ) (start out new : List ℕ) → out ≡ start ++ flat_map f (numbers n 0) → new ≡ out ++ f n → new ≡ start ++ flat_map f (numbers (n + 1) 0)
more_blocks f n start out new sofar pushed =
    pushed ∙ ap (λ t. t ++ f n) sofar ∙ flat_map_more f start (numbers n 0) n ∙ ap (λ xs. start ++ flat_map f xs) (sym (numbers_more n))

-- the parts of a block, one behind the other
five : (s a b h c d : List ℕ) → ((((s ++ a) ++ b) ++ h) ++ c) ++ d ≡ s ++ (a ++ (b ++ (h ++ (c ++ d))))
five s a b h c d = simp append_assoc

pub block_parts : (R : Repository) (packages : List PackageFacts) (table : List (List ℕ)) (held : Bool) (n : ℕ) (start first second marked third fourth : List ℕ) (members : List ℕ) (clauses : List (List ℕ)) (conflicts : List ℕ) →
    members ≡ listed_for table n → clauses ≡ clauses_of R n → conflicts ≡ conflicts_of R n →
    first ≡ start ++ line_text (ClassLine n) → second ≡ first ++ lines_text (λ i. line_of_package (stanza_at packages i)) members → marked ≡ second ++ flat_map line_text (held_lines held) →
    third ≡ marked ++ lines_text NeedsLine clauses → fourth ≡ third ++ lines_text AgainstLine (filter (λ m. ltb n m) conflicts) → fourth ≡ start ++ block_text R packages table held n
unfolding block_text
block_parts R packages table held n start first second marked third fourth members clauses conflicts m c f e g l h k =
    let A : List ℕ = line_text (ClassLine n) in
    let B : List ℕ = lines_text (λ i. line_of_package (stanza_at packages i)) (listed_for table n) in
    let H : List ℕ = flat_map line_text (held_lines held) in
    let C : List ℕ = lines_text NeedsLine (clauses_of R n) in
    let D : List ℕ = lines_text AgainstLine (greater_conflicts R n) in
    let second_is : second ≡ (start ++ A) ++ B = g ∙ ap₂ (λ t is. t ++ lines_text (λ i. line_of_package (stanza_at packages i)) is) e m in
    let marked_is : marked ≡ ((start ++ A) ++ B) ++ H = l ∙ ap (λ t. t ++ H) second_is in
    let third_is : third ≡ (((start ++ A) ++ B) ++ H) ++ C = h ∙ ap₂ (λ t cs. t ++ lines_text NeedsLine cs) marked_is c in
    k ∙ ap₂ (λ t xs. t ++ lines_text AgainstLine (filter (λ m. ltb n m) xs)) third_is f ∙ five start A B H C D

-- the lines of the packages of a class are those of its members
nothing_left : {A : Type 0} (xs : List A) (k : ℕ) → length xs ≤ k → drop k xs ≡ []
nothing_left [] zero l = refl
nothing_left [] (suc k) l = refl
nothing_left (x ∷ xs) zero l = absurd (omega arith)
nothing_left (x ∷ xs) (suc k) l = nothing_left xs k (omega arith)

lines_from : (packages : List PackageFacts) (class_of : List ℕ) (n j k : ℕ) → k + j ≡ length packages → length class_of ≡ length packages →
    map line_of_member (members_of (file_members (drop k packages) (drop k class_of)) n) ≡ map (λ i. line_of_package (stanza_at packages i)) (filter (λ i. eqb (get_or class_of i 0) n) (numbers j k))
unfolding numbers
lines_from packages class_of n zero k e each = ap (λ ps. map line_of_member (members_of (file_members ps (drop k class_of)) n)) (nothing_left packages k (omega (arith, e)))
lines_from packages class_of n (suc j) k e each =
    ap₂ (λ ps cs. map line_of_member (members_of (file_members ps cs) n)) (drop-cons packages k no_stanza (omega (arith, e))) (drop-cons class_of k 0 (omega (arith, e, each)))
    ∙ by_test (eqb (get_or class_of k 0) n) refl (lines_from packages class_of n j (suc k) (omega (arith, e)) each)
  where
    by_test : (t : Bool) → eqb (get_or class_of k 0) n ≡ t →
        map line_of_member (members_of (file_members (drop (suc k) packages) (drop (suc k) class_of)) n) ≡ map (λ i. line_of_package (stanza_at packages i)) (filter (λ i. eqb (get_or class_of i 0) n) (numbers j (suc k))) →
        map line_of_member (members_of (file_members (stanza_at packages k ∷ drop (suc k) packages) (get_or class_of k 0 ∷ drop (suc k) class_of)) n)
        ≡ map (λ i. line_of_package (stanza_at packages i)) (filter (λ i. eqb (get_or class_of i 0) n) (k ∷ numbers j (suc k)))
    by_test true t more = rw t (ap (λ ls. line_of_package (stanza_at packages k) ∷ ls) more)
    by_test false t more = rw t more

flat_flat : {X A B : Type 0} (g : A → List B) (f : X → List A) (xs : List X) → flat_map g (flat_map f xs) ≡ flat_map (λ x. flat_map g (f x)) xs
flat_flat g f [] = refl
flat_flat g f (x ∷ xs) = flat_map-append g (f x) (flat_map f xs) ∙ ap (λ ys. flat_map g (f x) ++ ys) (flat_flat g f xs)

module _ (R : Repository) (packages : List PackageFacts) (class_of : List ℕ) (size : ℕ) (each : length class_of ≡ length packages)
    (inside : (class : ℕ) → In class class_of → class < size) (table : List (List ℕ)) (by_class : IsByClass class_of (length class_of) size table) where
  abbrev K : List Member
  K = kernel_members packages class_of size

  pub members_are : (n : ℕ) → n < size → map line_of_member (members_of K n) ≡ map (λ i. line_of_package (stanza_at packages i)) (listed_for table n)
  unfolding kernel_members
  members_are n l =
      ap (map line_of_member) (all_of_class (file_members packages class_of) size 0 n (omega arith) (omega arith))
      ∙ lines_from packages class_of n (length packages) 0 (zero-add (length packages)) each
      ∙ ap (λ count. map (λ i. line_of_package (stanza_at packages i)) (filter (λ i. eqb (get_or class_of i 0) n) (numbers count 0))) (sym each)
      ∙ ap (map (λ i. line_of_package (stanza_at packages i))) (sym (by_class.each n l))

  block_is : (held : List ℕ) (h : Bool) (n : ℕ) → n < size → h ≡ has held n → block_text R packages table h n ≡ flat_map line_text (class_lines R K held n)
  unfolding block_text class_lines
  block_is held h n l same =
      let X : List KernelLine = map line_of_member (members_of K n) in
      let H : List KernelLine = held_lines (has held n) in
      let Y : List KernelLine = map NeedsLine (clauses_of R n) in
      let Z : List KernelLine = map AgainstLine (greater_conflicts R n) in
      let first : flat_map line_text X ≡ lines_text (λ i. line_of_package (stanza_at packages i)) (listed_for table n) =
      ap (flat_map line_text) (members_are n l) ∙ flat_map-map line_text (λ i. line_of_package (stanza_at packages i)) (listed_for table n) in
      let second : flat_map line_text Y ≡ lines_text NeedsLine (clauses_of R n) = flat_map-map line_text NeedsLine (clauses_of R n) in
      let third : flat_map line_text Z ≡ lines_text AgainstLine (greater_conflicts R n) = flat_map-map line_text AgainstLine (greater_conflicts R n) in
      let marks : flat_map line_text H ≡ flat_map line_text (held_lines h) = ap (λ b. flat_map line_text (held_lines b)) (sym same) in
      ap (λ t. line_text (ClassLine n) ++ t)
      (sym (flat_map-append line_text X (H ++ (Y ++ Z))
      ∙ ap₂ (λ x y. x ++ y) first (flat_map-append line_text H (Y ++ Z) ∙ ap₂ (λ x y. x ++ y) marks (flat_map-append line_text Y Z ∙ ap₂ (λ x y. x ++ y) second third))))

  members_counted : length K ≡ length packages
  unfolding kernel_members
  members_counted =
      all_counted (file_members packages class_of) size (λ m i. inside m.class (file_member packages class_of m i).class) ∙ length_file packages class_of each

  pub whole : (f : ℕ) (held : List ℕ) (flags : List Bool) → TellHeld flags held size → (first second third fourth : List ℕ) → size ≡ length R.clauses → first ≡ [] →
      second ≡ first ++ line_text (HeadLine f) → third ≡ second ++ flat_map (λ n. block_text R packages table (flag flags n) n) (numbers size 0) →
      fourth ≡ third ++ line_text (EndLine size (length packages)) → fourth ≡ kernel_text f R K held
  unfolding kernel_text kernel_lines
  whole f held flags told first second third fourth count e h c t =
      let head : List ℕ = line_text (HeadLine f) in
      let inner : List KernelLine = flat_map (class_lines R K held) (numbers size 0) in
      let blocks : flat_map (λ n. block_text R packages table (flag flags n) n) (numbers size 0) ≡ flat_map line_text inner =
      flat_same (λ n. block_text R packages table (flag flags n) n) (λ n. flat_map line_text (class_lines R K held n)) (numbers size 0)
      (λ n i. let b : (0 ≤ n) × (n < 0 + size) = numbers_parts size 0 n i in block_is held (flag flags n) n (omega arith) (told.each n (omega arith)))
      ∙ sym (flat_flat line_text (class_lines R K held) (numbers size 0)) in
      let last : KernelLine = EndLine size (length packages) in
      let so_far : third ≡ head ++ flat_map line_text inner = c ∙ ap₂ (λ x y. x ++ y) (h ∙ ap (λ x. x ++ head) e) blocks in
      t ∙ ap (λ x. x ++ line_text last) so_far ∙ append_assoc head (flat_map line_text inner) (line_text last)
      ∙ ap (λ x. head ++ x)
      (ap (λ x. flat_map line_text inner ++ x) (sym (append-nil (line_text last))) ∙ sym (flat_map-append line_text inner (last ∷ [])))
      ∙ ap₂ (λ n m. head ++ flat_map line_text (flat_map (class_lines R K held) (numbers n 0) ++ EndLine n m ∷ [])) count (sym members_counted)

-- an element of a table, as it is lent
pub list_is : (table : List (List ℕ)) (n : ℕ) (xs : List ℕ) → n < length table → xs ≡ get_or table n xs → xs ≡ listed_for table n
list_is [] n xs l e = absurd (omega arith)
list_is (y ∷ ys) zero xs l e = e
list_is (y ∷ ys) (suc n) xs l e = list_is ys n xs (omega arith) e
