-- A text is read as a kernel exactly where the format can write the kernel and the text is the one written for it.
use Rattle.std.proofs.Common.{◌≡◌, ℕ, ◌<◌, Bool, true, false, ◌==◌, List, [], ◌∷◌, ◌++◌, Option, Some, length, map, refl, sym, ap, ap₂, ◌∙◌, subst, zero-add}
use Rattle.std.specs.List.{flat_map, onto_first}
use Rattle.row_book.specs.Repository.{Repository}
use Rattle.kernel_text.specs.declared.member.Member.{Member}
use Rattle.kernel_text.specs.KernelLines.{KernelLine, HeadLine, ClassLine, MemberLine, HeldLine, NeedsLine, AgainstLine, EndLine, lines_of, line_text}
use Rattle.kernel_text.specs.{Reader.{IsInRange}, KernelText.{AreSingle, IsWritable, held_lines, kernel_lines, kernel_text, line_of_member}}
use Rattle.kernel_text.specs.{Laws.{ReadIsWritten}, Reading.{IsFormat, Reading, empty_reading, number_limit, repository_of_reading, with_line}}
use Rattle.kernel_text.proofs.Allowed.{IsEnded, IsRead, LinesGive, some_none}
use Rattle.kernel_text.proofs.Blocks.{BlocksRead, NotEnd, blocks_reading, clause_entries_in, held_in, lines_are, members_in, pairs_in, reading_of_blocks}
use Rattle.kernel_text.proofs.{LineCuts.{with_lines, AreAllowed}, Printed.{reading_at, with_append}}
use Rattle.kernel_text.proofs.{ClassLines.{ArePopulated, Block, FitBlocks, HeldInSecond, block_lines, over_blocks}, Shape.{IsOfEnd, IsTail, Shaped, shape}}
use Rattle.kernel_text.proofs.Writable.{single_lines, writable}

-- a text is its lines
onto_flat : (b : ℕ) (xs : List (List ℕ)) → flat_map (λ (x : List ℕ). x) (onto_first b xs) ≡ b ∷ flat_map (λ (x : List ℕ). x) xs
onto_flat b [] = refl
onto_flat b (x ∷ xs) = refl

lines_whole : (text : List ℕ) → flat_map (λ (x : List ℕ). x) (lines_of text) ≡ text
lines_whole [] = refl
lines_whole (b ∷ bs) = by_test (b == 10) refl (lines_whole bs)
  where
    by_test : (t : Bool) → (b == 10) ≡ t → flat_map (λ (x : List ℕ). x) (lines_of bs) ≡ bs → flat_map (λ (x : List ℕ). x) (lines_of (b ∷ bs)) ≡ b ∷ bs
    by_test true e more = rw e (ap (λ xs. b ∷ xs) more)
    by_test false e more = rw e (onto_flat b (lines_of bs) ∙ ap (λ xs. b ∷ xs) more)

flat_texts : (ls : List KernelLine) → flat_map (λ (x : List ℕ). x) (map line_text ls) ≡ flat_map line_text ls
flat_texts [] = refl
flat_texts (l ∷ ls) = ap (λ xs. line_text l ++ xs) (flat_texts ls)

-- what the cut lines say
record AsLines (t : Reading) (cut : List (List ℕ)) (u : Reading) : Type 0 where
  says : List KernelLine
  spells : cut ≡ map line_text says
  allowed : AreAllowed t says
  reading : with_lines t says ≡ u

as_lines : (t : Reading) (cut : List (List ℕ)) (u : Reading) → LinesGive t cut u → AsLines t cut u
as_lines t [] u h = record { says = []; spells = refl; allowed = tt; reading = h }
as_lines t (line ∷ more) u h =
    let w : AsLines (with_line t h.0) more u = as_lines (with_line t h.0) more u h.3 in
    record { says = h.0 ∷ w.says; spells = ap₂ (λ x xs. x ∷ xs) h.1 w.spells; allowed = (h.2, w.allowed); reading = w.reading }

allowed_behind : (t : Reading) (xs ys : List KernelLine) → AreAllowed t (xs ++ ys) → AreAllowed (with_lines t xs) ys
allowed_behind t [] ys a = a
allowed_behind t (x ∷ xs) ys a = allowed_behind (with_line t x) xs ys a.1

-- the numbers of the end line
end_classes : Option KernelLine → ℕ
end_classes (Some (EndLine c d)) = c
end_classes last = 0

end_members : Option KernelLine → ℕ
end_members (Some (EndLine c d)) = d
end_members last = 0

-- behind the first line
abbrev begun : ℕ → Reading
begun f = reading_at f [] (Some (HeadLine f)) 0 [] [] []

-- the lines are those of blocks and their end line
record InBlocks (ls : List KernelLine) (u : Reading) : Type 0 where
  format : ℕ
  known : IsFormat format
  blocks : List Block
  held : HeldInSecond format blocks
  fit : FitBlocks 0 blocks
  populated : ArePopulated blocks
  few_classes : length blocks < number_limit
  few_members : length (over_blocks members_in 0 blocks) < number_limit
  reading : reading_of_blocks format blocks ≡ u
  same_lines : ls ≡ HeadLine format ∷ (over_blocks block_lines 0 blocks ++ EndLine (length blocks) (length (over_blocks members_in 0 blocks)) ∷ [])

-- what the blocks say before the end line
abbrev reading_before : ℕ → List Block → Option KernelLine → Reading
reading_before f bs last = reading_at f (over_blocks held_in 0 bs) last (length bs) (over_blocks members_in 0 bs) (over_blocks clause_entries_in 0 bs) (over_blocks pairs_in 0 bs)

finish : (f : ℕ) (ls : List KernelLine) (bs : List Block) (final : Option KernelLine) (u : Reading) (tail : List KernelLine) → IsFormat f → HeldInSecond f bs → FitBlocks 0 bs → ArePopulated bs → NotEnd final → IsTail tail →
    ls ≡ over_blocks block_lines 0 bs ++ tail → AreAllowed (reading_before f bs final) tail → with_lines (reading_before f bs final) tail ≡ u → IsEnded u → InBlocks (HeadLine f ∷ ls) u
unfolding end_classes end_members
finish f ls bs final u [] known held fit populated goes_on is_tail same_lines a e ended = absurd (subst NotEnd (ap (λ (t : Reading). t.last) e ∙ ended) goes_on)
finish f ls bs final u (EndLine c d ∷ []) known held fit populated goes_on is_tail same_lines a e ended =
    let ended_so : IsEnded (reading_before f bs (Some (EndLine c d))) = subst IsEnded (sym e) ended in
    let classes : c ≡ length bs = ap end_classes ended_so in
    let members : d ≡ length (over_blocks members_in 0 bs) = ap end_members ended_so in
    record {
      format = f;
      known = known;
      blocks = bs;
      held = held;
      fit = fit;
      populated = populated;
      few_classes = subst (λ k. k < number_limit) classes a.0.1;
      few_members = subst (λ k. k < number_limit) members a.0.2;
      reading = ap₂ (λ x y. reading_before f bs (Some (EndLine x y))) (sym classes) (sym members) ∙ e;
      same_lines = ap (λ xs. HeadLine f ∷ xs) same_lines ∙ ap₂ (λ x y. HeadLine f ∷ (over_blocks block_lines 0 bs ++ EndLine x y ∷ [])) classes members;
    }
finish f ls bs final u tail known held fit populated goes_on is_tail same_lines a e ended = absurd is_tail

in_blocks : (ls : List KernelLine) (u : Reading) → AreAllowed empty_reading ls → with_lines empty_reading ls ≡ u → IsEnded u → InBlocks ls u
in_blocks [] u a e ended = absurd (some_none (EndLine u.classes (length u.members)) (sym ended ∙ ap (λ (t : Reading). t.last) (sym e)))
in_blocks (ClassLine n ∷ ls) u a e ended = absurd a.0.0
in_blocks (MemberLine name version ∷ ls) u a e ended = absurd a.0.0
in_blocks (HeldLine ∷ ls) u a e ended = absurd a.0.0
in_blocks (NeedsLine clause ∷ ls) u a e ended = absurd a.0.0
in_blocks (AgainstLine m ∷ ls) u a e ended = absurd a.0.0
in_blocks (EndLine c d ∷ ls) u a e ended = absurd a.0.0
in_blocks (HeadLine f ∷ ls) u a e ended =
    let ends : IsOfEnd (with_lines (begun f) ls).last = subst (λ (t : Reading). IsOfEnd t.last) (sym e) (subst IsOfEnd (sym ended) tt) in
    let s : Shaped (begun f) ls = shape (begun f) ls (λ h. some_none (HeadLine f) h) a.1 ends in
    let inner : List KernelLine = over_blocks block_lines 0 s.blocks in
    let same_lines : ls ≡ inner ++ s.tail =
    s.same_lines
    ∙ ap₂ (λ ms h. map line_of_member ms ++ (held_lines h ++ (map NeedsLine s.now.clauses ++ (map AgainstLine s.now.conflicts ++ (inner ++ s.tail))))) (s.no_members_left (λ h. h)) (s.no_held_left tt)
    ∙ ap₂ (λ cs xs. map NeedsLine cs ++ (map AgainstLine xs ++ (inner ++ s.tail))) (s.no_clauses_left tt) (s.no_conflicts_left tt) in
    let b : BlocksRead f [] 0 s.blocks (length s.blocks) (Some (HeadLine f)) [] [] [] = blocks_reading f [] 0 s.blocks (length s.blocks) (Some (HeadLine f)) [] [] [] s.fit (zero-add (length s.blocks)) tt in
    let tail_allowed : AreAllowed (reading_before f s.blocks b.final) s.tail =
    subst (λ t. AreAllowed t s.tail) b.reading (allowed_behind (begun f) inner s.tail (subst (AreAllowed (begun f)) same_lines a.1)) in
    finish f ls s.blocks b.final u s.tail a.0.1 s.held s.fit s.populated b.goes_on s.is_tail same_lines tail_allowed
    (ap (λ t. with_lines t s.tail) (sym b.reading) ∙ sym (with_append (begun f) inner s.tail) ∙ ap (with_lines (begun f)) (sym same_lines) ∙ e)
    ended

-- what is read is writable, and its lines are those that are written
record IsWrittenBy (ls : List KernelLine) (u : Reading) : Type 0 where
  writable : IsWritable u.format (repository_of_reading u) u.members u.held
  same_lines : ls ≡ kernel_lines u.format (repository_of_reading u) u.members u.held

blocks_written : (f : ℕ) (bs : List Block) → IsFormat f → HeldInSecond f bs → FitBlocks 0 bs → ArePopulated bs → length bs < number_limit → length (over_blocks members_in 0 bs) < number_limit →
    IsInRange (reading_of_blocks f bs) → AreSingle (over_blocks members_in 0 bs) →
    IsWrittenBy (HeadLine f ∷ (over_blocks block_lines 0 bs ++ EndLine (length bs) (length (over_blocks members_in 0 bs)) ∷ [])) (reading_of_blocks f bs)
unfolding repository_of_reading
blocks_written f bs known held fit populated few_classes few_members range single = record {
  writable = writable f bs fit populated range known held few_classes few_members single;
  same_lines = sym (lines_are bs fit range.conflicts f);
}

lines_written : (ls : List KernelLine) (u : Reading) → AreAllowed empty_reading ls → with_lines empty_reading ls ≡ u → IsEnded u → IsInRange u → IsWrittenBy ls u
lines_written ls u a e ended range =
    let b : InBlocks ls u = in_blocks ls u a e ended in
    let single : AreSingle u.members = subst (λ (t : Reading). AreSingle t.members) e (single_lines empty_reading ls a tt) in
    subst (λ (t : Reading). IsWrittenBy ls t) b.reading
    (subst (λ xs. IsWrittenBy xs (reading_of_blocks b.format b.blocks)) (sym b.same_lines)
    (blocks_written b.format b.blocks b.known b.held b.fit b.populated b.few_classes b.few_members (subst IsInRange (sym b.reading) range)
    (subst (λ (t : Reading). AreSingle t.members) (sym b.reading) single)))

-- what holds of a reading's parts holds of their equals
of_equals : (P : ℕ → Repository → List Member → List ℕ → Type 0) (f g : ℕ) (R S : Repository) (ms ns : List Member) (hs is : List ℕ) → f ≡ g → R ≡ S → ms ≡ ns → hs ≡ is → P g S ns is → P f R ms hs
of_equals P f g R S ms ns hs is a b c d p =
    subst (λ k. P k R ms hs) (sym a) (subst (λ T. P g T ms hs) (sym b) (subst (λ os. P g S os hs) (sym c) (subst (λ js. P g S ns js) (sym d) p)))

pub written : (text : List ℕ) (format : ℕ) (R : Repository) (members : List Member) (held : List ℕ) → IsRead text format R members held →
    IsWritable format R members held × (text ≡ kernel_text format R members held)
unfolding kernel_text
written text format R members held k =
    let w : AsLines empty_reading (lines_of text) k.reading = as_lines empty_reading (lines_of text) k.reading k.given in
    let b : IsWrittenBy w.says k.reading = lines_written w.says k.reading w.allowed w.reading k.ended k.in_range in
    let same : text ≡ flat_map line_text w.says = sym (lines_whole text) ∙ ap (flat_map (λ (x : List ℕ). x)) w.spells ∙ flat_texts w.says in
    of_equals (λ f S ms hs. IsWritable f S ms hs × (text ≡ flat_map line_text (kernel_lines f S ms hs))) format k.reading.format R (repository_of_reading k.reading) members k.reading.members held k.reading.held
    k.of_format k.repository k.member_list k.held_list (b.writable, same ∙ ap (flat_map line_text) b.same_lines)

pub read_is_written : ReadIsWritten
read_is_written text format R members held = ((λ k. (k.writable, k.lines)), (λ w. record { writable = w.0; lines = w.1 }))
