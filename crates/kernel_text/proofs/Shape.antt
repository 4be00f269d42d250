-- Lines that are allowed one behind the other, up to an end line, are the blocks of classes and that end line.
use Rattle.std.proofs.Common.{◌≡◌, ℕ, ◌+◌, ◌-◌, ◌<◌, true, false, List, [], ◌∷◌, ◌++◌, Option, Some, None, length, map, inl, inr, refl, sym, ap, ap₂, ◌∙◌}
use Rattle.std.proofs.{Common.{subst, append_assoc, add-one, arith}, lemmas.Bool.{false≢true}}
use Rattle.clause_pool.specs.Lists.{Before}
use Rattle.listed.specs.Lists.{In}
use Rattle.listed.proofs.Lists.{In_cases, In_none}
use Rattle.clause_pool.proofs.Order.{before_trans}
use Rattle.kernel_text.specs.declared.member.Member.{Member}
use Rattle.kernel_text.specs.KernelLines.{KernelLine, HeadLine, ClassLine, MemberLine, HeldLine, NeedsLine, AgainstLine, EndLine}
use Rattle.kernel_text.specs.{KernelText.{held_lines, line_of_member}, Reading.{Reading, IsNamed, with_line, this_class, member_of_line}}
use Rattle.kernel_text.proofs.Allowed.{IsAllowed, IsClauseOf, MayBegin, MayAddMember, MayAddClause, MayAddConflict, MayAddHeld, some_none}
use Rattle.kernel_text.proofs.ClassLines.{ArePopulated, Block, FitBlock, FitBlocks, HeldInSecond, block_lines, empty, empty_fits, over_blocks}
use Rattle.kernel_text.proofs.LineCuts.{AreAllowed, with_lines}

abbrev pub IsTail : List KernelLine → Type 0
IsTail [] = Unit {0}
IsTail (EndLine classes members ∷ []) = Unit {0}
IsTail ls = ⊥

-- what the last line says of the next ones: a conflict is greater, a clause comes behind
abbrev Above : Option KernelLine → ℕ → Type 0
Above (Some (AgainstLine k)) m = k < m
Above last m = Unit {0}

abbrev Behind : Option KernelLine → List ℕ → Type 0
Behind (Some (NeedsLine d)) c = Before d c
Behind last c = Unit {0}

-- that this block is held is not to come, nor a clause of it, or nothing of it
abbrev PastHeld : Option KernelLine → Type 0
PastHeld (Some HeldLine) = Unit {0}
PastHeld (Some (NeedsLine clause)) = Unit {0}
PastHeld (Some (AgainstLine k)) = Unit {0}
PastHeld (Some (HeadLine f)) = Unit {0}
PastHeld last = ⊥

abbrev PastClauses : Option KernelLine → Type 0
PastClauses (Some (AgainstLine k)) = Unit {0}
PastClauses (Some (HeadLine f)) = Unit {0}
PastClauses last = ⊥

abbrev PastAll : Option KernelLine → Type 0
PastAll (Some (HeadLine f)) = Unit {0}
PastAll last = ⊥

-- the kind of the last line
abbrev IsOfClass : Option KernelLine → Type 0
IsOfClass (Some (ClassLine n)) = Unit {0}
IsOfClass last = ⊥

abbrev pub IsOfEnd : Option KernelLine → Type 0
IsOfEnd (Some (EndLine classes members)) = Unit {0}
IsOfEnd last = ⊥

-- what is left of a block, and the blocks behind it
pub record Shaped (t : Reading) (ls : List KernelLine) : Type 0 where
  pub now : Block
  pub blocks : List Block
  pub tail : List KernelLine
  pub is_tail : IsTail tail
  pub fit_now : FitBlock (this_class t) now
  pub fit : FitBlocks t.classes blocks
  pub held_now : now.held ≡ true → t.format ≡ 2
  pub held : HeldInSecond t.format blocks
  pub populated_now : IsOfClass t.last → 0 < length now.members
  pub populated : ArePopulated blocks
  pub same_lines : ls ≡ map line_of_member now.members ++ (held_lines now.held ++ (map NeedsLine now.clauses ++ (map AgainstLine now.conflicts ++ (over_blocks block_lines t.classes blocks ++ tail))))
  pub no_members_left : (MayAddMember t.last → ⊥) → now.members ≡ []
  pub no_held_left : PastHeld t.last → now.held ≡ false
  pub no_clauses_left : PastClauses t.last → now.clauses ≡ []
  pub no_conflicts_left : PastAll t.last → now.conflicts ≡ []
  pub later_clauses : (c : List ℕ) → In c now.clauses → Behind t.last c
  pub later : (m : ℕ) → In m now.conflicts → Above t.last m

-- nothing is allowed behind the end line
nothing_behind : (t : Reading) (classes members : ℕ) (ls : List KernelLine) → t.last ≡ Some (EndLine classes members) → AreAllowed t ls → ls ≡ []
nothing_behind t classes members [] e a = refl
nothing_behind t classes members (l ∷ ls) e a = absurd (none l a.0)
  where
    none : (l : KernelLine) → IsAllowed t l → ⊥
    none (HeadLine f) b = some_none (EndLine classes members) (sym e ∙ b.0)
    none (ClassLine n) b = subst MayBegin e b.0
    none (MemberLine name version) b = subst MayAddMember e b.0
    none HeldLine b = subst MayAddHeld e b.0
    none (NeedsLine clause) b = subst (λ o. MayAddClause o clause) e b.0
    none (AgainstLine m) b = subst (λ o. MayAddConflict o m) e b.0
    none (EndLine c m) b = subst MayBegin e b.0

-- what may stand behind a last line, and what that says of it
above_next : (last : Option KernelLine) (m o : ℕ) → MayAddConflict last m → m < o → Above last o
above_next (Some (AgainstLine k)) m o a l = omega (arith, a)
above_next last m o a l = tt

above_first : (last : Option KernelLine) (m : ℕ) → MayAddConflict last m → Above last m
above_first (Some (AgainstLine k)) m a = a
above_first last m a = tt

above_member : (last : Option KernelLine) (m : ℕ) → MayAddMember last → Above last m
above_member (Some (AgainstLine k)) m a = absurd a
above_member last m a = tt

above_clause : (last : Option KernelLine) (m : ℕ) (clause : List ℕ) → MayAddClause last clause → Above last m
above_clause (Some (AgainstLine k)) m clause a = absurd a
above_clause last m clause a = tt

behind_first : (last : Option KernelLine) (c : List ℕ) → MayAddClause last c → Behind last c
behind_first (Some (NeedsLine d)) c a = a
behind_first last c a = tt

behind_next : (last : Option KernelLine) (c d : List ℕ) → MayAddClause last c → Before c d → Behind last d
behind_next (Some (NeedsLine b)) c d a l = before_trans b c d a l
behind_next last c d a l = tt

behind_member : (last : Option KernelLine) (c : List ℕ) → MayAddMember last → Behind last c
behind_member (Some (NeedsLine d)) c a = absurd a
behind_member last c a = tt

-- the line of a held class stands behind that of a member
behind_a_member : (P : Option KernelLine → Type 0) → ((name version : List ℕ) → P (Some (MemberLine name version))) → (last : Option KernelLine) → MayAddHeld last → P last
behind_a_member P h (Some (MemberLine name version)) a = h name version
behind_a_member P h last a = absurd a

member_before_held : (last : Option KernelLine) → MayAddMember last → PastHeld last → ⊥
member_before_held (Some (MemberLine name version)) a p = p
member_before_held (Some (ClassLine n)) a p = p
member_before_held last a p = a

member_first : (last : Option KernelLine) → MayAddMember last → PastClauses last → ⊥
member_first (Some (HeadLine f)) a p = a
member_first (Some (AgainstLine k)) a p = a
member_first last a p = p

member_first_of_all : (last : Option KernelLine) → MayAddMember last → PastAll last → ⊥
member_first_of_all (Some (HeadLine f)) a p = a
member_first_of_all last a p = p

clause_first : (last : Option KernelLine) (clause : List ℕ) → MayAddClause last clause → PastClauses last → ⊥
clause_first (Some (HeadLine f)) clause a p = a
clause_first (Some (AgainstLine k)) clause a p = a
clause_first last clause a p = p

clause_first_of_all : (last : Option KernelLine) (clause : List ℕ) → MayAddClause last clause → PastAll last → ⊥
clause_first_of_all (Some (HeadLine f)) clause a p = a
clause_first_of_all last clause a p = p

conflict_first_of_all : (last : Option KernelLine) (m : ℕ) → MayAddConflict last m → PastAll last → ⊥
conflict_first_of_all (Some (HeadLine f)) m a p = a
conflict_first_of_all last m a p = p

-- behind a class line a member is next
begin_not_yet : (last : Option KernelLine) → MayBegin last → IsOfClass last → ⊥
begin_not_yet (Some (ClassLine n)) a p = a
begin_not_yet last a p = p

clause_not_yet : (last : Option KernelLine) (clause : List ℕ) → MayAddClause last clause → IsOfClass last → ⊥
clause_not_yet (Some (ClassLine n)) clause a p = a
clause_not_yet last clause a p = p

conflict_not_yet : (last : Option KernelLine) (m : ℕ) → MayAddConflict last m → IsOfClass last → ⊥
conflict_not_yet (Some (ClassLine n)) m a p = a
conflict_not_yet last m a p = p

end_not_yet : (last : Option KernelLine) → IsOfEnd last → IsOfClass last → ⊥
end_not_yet (Some (ClassLine n)) a p = a
end_not_yet last a p = p

parts : (p h q r xs ys : List KernelLine) → p ++ (h ++ (q ++ (r ++ (xs ++ ys)))) ≡ ((p ++ (h ++ (q ++ r))) ++ xs) ++ ys
parts p h q r xs ys = simp append_assoc

pub shape : (t : Reading) (ls : List KernelLine) → (t.last ≡ None → ⊥) → AreAllowed t ls → IsOfEnd (with_lines t ls).last → Shaped t ls
shape t [] begun a ends = record {
  now = empty;
  blocks = [];
  tail = [];
  is_tail = tt;
  fit_now = empty_fits (this_class t);
  fit = tt;
  held_now = λ h. absurd (false≢true h);
  held = tt;
  populated_now = λ h. absurd (end_not_yet t.last ends h);
  populated = tt;
  same_lines = refl;
  no_members_left = λ h. refl;
  no_held_left = λ h. refl;
  no_clauses_left = λ h. refl;
  no_conflicts_left = λ h. refl;
  later_clauses = λ c i. absurd (In_none i);
  later = λ m i. absurd (In_none i);
}
shape t (HeadLine f ∷ ls) begun a ends = absurd (begun a.0.0)
shape t (EndLine classes members ∷ ls) begun a ends =
    let none : ls ≡ [] = nothing_behind (with_line t (EndLine classes members)) classes members ls refl a.1 in
    record {
      now = empty;
      blocks = [];
      tail = EndLine classes members ∷ [];
      is_tail = tt;
      fit_now = empty_fits (this_class t);
      fit = tt;
      held_now = λ h. absurd (false≢true h);
      held = tt;
      populated_now = λ h. absurd (begin_not_yet t.last a.0.0 h);
      populated = tt;
      same_lines = ap (λ xs. EndLine classes members ∷ xs) none;
      no_members_left = λ h. refl;
      no_held_left = λ h. refl;
      no_clauses_left = λ h. refl;
      no_conflicts_left = λ h. refl;
      later_clauses = λ c i. absurd (In_none i);
      later = λ m i. absurd (In_none i);
    }
shape t (ClassLine n ∷ ls) begun a ends =
    let s : Shaped (with_line t (ClassLine n)) ls = shape (with_line t (ClassLine n)) ls (λ e. absurd (some_none (ClassLine n) e)) a.1 ends in
    let back : t.classes + 1 - 1 ≡ t.classes = omega arith in
    record {
      now = empty;
      blocks = s.now ∷ s.blocks;
      tail = s.tail;
      is_tail = s.is_tail;
      fit_now = empty_fits (this_class t);
      fit = (subst (λ k. FitBlock k s.now) back s.fit_now, subst (λ k. FitBlocks k s.blocks) (add-one t.classes) s.fit);
      held_now = λ h. absurd (false≢true h);
      held = (s.held_now, s.held);
      populated_now = λ h. absurd (begin_not_yet t.last a.0.0 h);
      populated = (s.populated_now tt, s.populated);
      same_lines = ap₂ (λ k xs. ClassLine k ∷ xs) a.0.1 (s.same_lines ∙ regrouped s.now (over_blocks block_lines (t.classes + 1) s.blocks) s.tail)
          ∙ ap (λ k. (block_lines t.classes s.now ++ over_blocks block_lines k s.blocks) ++ s.tail) (add-one t.classes);
      no_members_left = λ h. refl;
      no_held_left = λ h. refl;
      no_clauses_left = λ h. refl;
      no_conflicts_left = λ h. refl;
      later_clauses = λ c i. absurd (In_none i);
      later = λ m i. absurd (In_none i);
    }
  where
    regrouped : (b : Block) (xs ys : List KernelLine) →
        map line_of_member b.members ++ (held_lines b.held ++ (map NeedsLine b.clauses ++ (map AgainstLine b.conflicts ++ (xs ++ ys))))
        ≡ ((map line_of_member b.members ++ (held_lines b.held ++ (map NeedsLine b.clauses ++ map AgainstLine b.conflicts))) ++ xs) ++ ys
    regrouped b xs ys = parts (map line_of_member b.members) (held_lines b.held) (map NeedsLine b.clauses) (map AgainstLine b.conflicts) xs ys
shape t (MemberLine name version ∷ ls) begun a ends =
    let s : Shaped (with_line t (MemberLine name version)) ls = shape (with_line t (MemberLine name version)) ls (λ e. some_none (MemberLine name version) e) a.1 ends in
    record {
      now = record { members = member_of_line t name version ∷ s.now.members; held = s.now.held; clauses = s.now.clauses; conflicts = s.now.conflicts };
      blocks = s.blocks;
      tail = s.tail;
      is_tail = s.is_tail;
      fit_now = record {
        members = λ m i. elim (In_cases i) [ inl e ↦ ap (λ (x : Member). x.class) e | inr j ↦ s.fit_now.members m j ];
        named = λ m i. elim (In_cases i) [ inl e ↦ subst (λ (x : Member). IsNamed x.name x.version) (sym e) a.0.1 | inr j ↦ s.fit_now.named m j ];
        order = s.fit_now.order;
        clauses = s.fit_now.clauses;
        up = s.fit_now.up;
        above = s.fit_now.above;
      };
      fit = s.fit;
      held_now = s.held_now;
      held = s.held;
      populated_now = λ h. omega arith;
      populated = s.populated;
      same_lines = ap (λ xs. MemberLine name version ∷ xs) s.same_lines;
      no_members_left = λ h. absurd (h a.0.0);
      no_held_left = λ h. absurd (member_before_held t.last a.0.0 h);
      no_clauses_left = λ h. absurd (member_first t.last a.0.0 h);
      no_conflicts_left = λ h. absurd (member_first_of_all t.last a.0.0 h);
      later_clauses = λ c i. behind_member t.last c a.0.0;
      later = λ m i. above_member t.last m a.0.0;
    }
shape t (HeldLine ∷ ls) begun a ends =
    let s : Shaped (with_line t HeldLine) ls = shape (with_line t HeldLine) ls (λ e. some_none HeldLine e) a.1 ends in
    let rest : List KernelLine = map NeedsLine s.now.clauses ++ (map AgainstLine s.now.conflicts ++ (over_blocks block_lines t.classes s.blocks ++ s.tail)) in
    record {
      now = record { members = []; held = true; clauses = s.now.clauses; conflicts = s.now.conflicts };
      blocks = s.blocks;
      tail = s.tail;
      is_tail = s.is_tail;
      fit_now = record {
        members = λ m i. absurd (In_none i);
        named = λ m i. absurd (In_none i);
        order = s.fit_now.order;
        clauses = s.fit_now.clauses;
        up = s.fit_now.up;
        above = s.fit_now.above;
      };
      fit = s.fit;
      held_now = λ h. a.0.1;
      held = s.held;
      populated_now = λ h. absurd (behind_a_member (λ o. IsOfClass o → ⊥) (λ name version p. p) t.last a.0.0 h);
      populated = s.populated;
      same_lines = ap (λ xs. HeldLine ∷ xs) (s.same_lines ∙ ap₂ (λ ms h. map line_of_member ms ++ (held_lines h ++ rest)) (s.no_members_left (λ h. h)) (s.no_held_left tt));
      no_members_left = λ h. refl;
      no_held_left = λ h. absurd (behind_a_member (λ o. PastHeld o → ⊥) (λ name version p. p) t.last a.0.0 h);
      no_clauses_left = λ h. absurd (behind_a_member (λ o. PastClauses o → ⊥) (λ name version p. p) t.last a.0.0 h);
      no_conflicts_left = λ h. absurd (behind_a_member (λ o. PastAll o → ⊥) (λ name version p. p) t.last a.0.0 h);
      later_clauses = λ c i. behind_a_member (λ o. Behind o c) (λ name version. tt) t.last a.0.0;
      later = λ m i. behind_a_member (λ o. Above o m) (λ name version. tt) t.last a.0.0;
    }
shape t (NeedsLine clause ∷ ls) begun a ends =
    let s : Shaped (with_line t (NeedsLine clause)) ls = shape (with_line t (NeedsLine clause)) ls (λ e. some_none (NeedsLine clause) e) a.1 ends in
    let rest : List KernelLine = map NeedsLine s.now.clauses ++ (map AgainstLine s.now.conflicts ++ (over_blocks block_lines t.classes s.blocks ++ s.tail)) in
    record {
      now = record { members = []; held = false; clauses = clause ∷ s.now.clauses; conflicts = s.now.conflicts };
      blocks = s.blocks;
      tail = s.tail;
      is_tail = s.is_tail;
      fit_now = record {
        members = λ m i. absurd (In_none i);
        named = λ m i. absurd (In_none i);
        order = (s.later_clauses, s.fit_now.order);
        clauses = λ c i. elim (In_cases i) [ inl e ↦ subst (IsClauseOf (this_class t)) (sym e) a.0.1 | inr j ↦ s.fit_now.clauses c j ];
        up = s.fit_now.up;
        above = s.fit_now.above;
      };
      fit = s.fit;
      held_now = λ h. absurd (false≢true h);
      held = s.held;
      populated_now = λ h. absurd (clause_not_yet t.last clause a.0.0 h);
      populated = s.populated;
      same_lines = ap (λ xs. NeedsLine clause ∷ xs) (s.same_lines ∙ ap₂ (λ ms h. map line_of_member ms ++ (held_lines h ++ rest)) (s.no_members_left (λ h. h)) (s.no_held_left tt));
      no_members_left = λ h. refl;
      no_held_left = λ h. refl;
      no_clauses_left = λ h. absurd (clause_first t.last clause a.0.0 h);
      no_conflicts_left = λ h. absurd (clause_first_of_all t.last clause a.0.0 h);
      later_clauses = λ c i. elim (In_cases i) [ inl e ↦ subst (Behind t.last) (sym e) (behind_first t.last clause a.0.0) | inr j ↦ behind_next t.last clause c a.0.0 (s.later_clauses c j) ];
      later = λ m i. above_clause t.last m clause a.0.0;
    }
shape t (AgainstLine m ∷ ls) begun a ends =
    let s : Shaped (with_line t (AgainstLine m)) ls = shape (with_line t (AgainstLine m)) ls (λ e. some_none (AgainstLine m) e) a.1 ends in
    let rest : List KernelLine = map AgainstLine s.now.conflicts ++ (over_blocks block_lines t.classes s.blocks ++ s.tail) in
    record {
      now = record { members = []; held = false; clauses = []; conflicts = m ∷ s.now.conflicts };
      blocks = s.blocks;
      tail = s.tail;
      is_tail = s.is_tail;
      fit_now = record {
        members = λ m i. absurd (In_none i);
        named = λ m i. absurd (In_none i);
        order = tt;
        clauses = λ c i. absurd (In_none i);
        up = (s.later, s.fit_now.up);
        above = λ o i. elim (In_cases i) [ inl e ↦ subst (λ k. this_class t < k) (sym e) a.0.1 | inr j ↦ s.fit_now.above o j ];
      };
      fit = s.fit;
      held_now = λ h. absurd (false≢true h);
      held = s.held;
      populated_now = λ h. absurd (conflict_not_yet t.last m a.0.0 h);
      populated = s.populated;
      same_lines = ap (λ xs. AgainstLine m ∷ xs) (s.same_lines ∙ ap₂ (λ ms h. map line_of_member ms ++ (held_lines h ++ (map NeedsLine s.now.clauses ++ rest))) (s.no_members_left (λ h. h)) (s.no_held_left tt)
          ∙ ap (λ cs. map NeedsLine cs ++ rest) (s.no_clauses_left tt));
      no_members_left = λ h. refl;
      no_held_left = λ h. refl;
      no_clauses_left = λ h. refl;
      no_conflicts_left = λ h. absurd (conflict_first_of_all t.last m a.0.0 h);
      later_clauses = λ c i. absurd (In_none i);
      later = λ o i. elim (In_cases i) [ inl e ↦ subst (λ k. Above t.last k) (sym e) (above_first t.last m a.0.0) | inr j ↦ above_next t.last m o a.0.0 (s.later o j) ];
    }
