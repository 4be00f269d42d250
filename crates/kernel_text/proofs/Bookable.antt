-- What a text of a kernel says can be booked.
use Rattle.std.proofs.Common.{◌≡◌, ℕ, ◌<◌, List, [], ◌∷◌, ◌++◌, Option, Some, length, inl, inr, refl, sym, ap, ◌∙◌, subst, zero-add, arith}
use Rattle.listed.specs.Lists.{Ascending, In}
use Rattle.clause_pool.specs.Lists.{InOrder}
use Rattle.row_book.specs.{Repository.{clauses_of}, declared.pair.Pair.{Pair}}
use Rattle.listed.proofs.Lists.{In_append_cases, In_cases, In_none}
use Rattle.row_book.proofs.Numbers.{at_numbers, length_numbers}
use Rattle.kernel_text.specs.{declared.member.Member.{Member}, Booking.{IsBookable}}
use Rattle.kernel_text.specs.KernelLines.{KernelLine, HeadLine, ClassLine, MemberLine, HeldLine, NeedsLine, AgainstLine, EndLine, lines_of}
use Rattle.kernel_text.specs.{Reader.{IsInRange}, KernelText.{IsWritable}}
use Rattle.kernel_text.specs.Reading.{ClassClause, Reading, clauses_of_class, empty_reading, number_limit, repository_of_reading, this_class, with_line}
use Rattle.kernel_text.proofs.{Allowed.{IsAllowed, IsEnded, IsRead, LinesGive, MayAddClause, MayAddConflict, MayAddHeld, MayAddMember}, ReadIsWritten.{written}}

-- the last line stands in the block of a class
abbrev InBlock : Option KernelLine → Type 0
InBlock (Some (ClassLine n)) = Unit {0}
InBlock (Some (MemberLine name version)) = Unit {0}
InBlock (Some HeldLine) = Unit {0}
InBlock (Some (NeedsLine clause)) = Unit {0}
InBlock (Some (AgainstLine m)) = Unit {0}
InBlock last = ⊥

member_in_block : (o : Option KernelLine) → MayAddMember o → InBlock o
member_in_block (Some (ClassLine n)) a = tt
member_in_block (Some (MemberLine name version)) a = tt
member_in_block last a = absurd a

held_in_block : (o : Option KernelLine) → MayAddHeld o → InBlock o
held_in_block (Some (MemberLine name version)) a = tt
held_in_block last a = absurd a

clause_in_block : (o : Option KernelLine) (clause : List ℕ) → MayAddClause o clause → InBlock o
clause_in_block (Some (MemberLine name version)) clause a = tt
clause_in_block (Some HeldLine) clause a = tt
clause_in_block (Some (NeedsLine c)) clause a = tt
clause_in_block last clause a = absurd a

conflict_in_block : (o : Option KernelLine) (m : ℕ) → MayAddConflict o m → InBlock o
conflict_in_block (Some (MemberLine name version)) m a = tt
conflict_in_block (Some HeldLine) m a = tt
conflict_in_block (Some (NeedsLine c)) m a = tt
conflict_in_block (Some (AgainstLine k)) m a = tt
conflict_in_block last m a = absurd a

-- members, clauses and conflicts are of classes that have begun
pub record IsOrderly (t : Reading) : Type 0 where
  pub begun : InBlock t.last → 0 < t.classes
  pub members : (m : Member) → In m t.members → m.class < t.classes
  pub clauses : (entry : ClassClause) → In entry t.clauses → entry.class < t.classes
  pub ascending : (entry : ClassClause) → In entry t.clauses → Ascending entry.clause
  pub rising : (pair : Pair) → In pair t.conflicts → pair.low < pair.high

-- what holds of those so far and of the one more
one_more : {A : Type 0} (P : A → Type 0) (xs : List A) (y : A) → ((x : A) → In x xs → P x) → P y → (x : A) → In x (xs ++ y ∷ []) → P x
one_more P xs y h p x i = elim (In_append_cases xs (y ∷ []) x i) [
  | inl old ↦ h x old
  | inr new ↦ elim (In_cases new) [ inl e ↦ subst P (sym e) p | inr nothing ↦ absurd (In_none nothing) ]
]

orderly_line : (t : Reading) (l : KernelLine) → IsAllowed t l → IsOrderly t → IsOrderly (with_line t l)
orderly_line t (HeadLine format) a o = record { begun = λ b. absurd b; members = o.members; clauses = o.clauses; ascending = o.ascending; rising = o.rising }
orderly_line t (ClassLine n) a o = record {
  begun = λ b. omega arith;
  members = λ m i. let l : m.class < t.classes = o.members m i in omega arith;
  clauses = λ entry i. let l : entry.class < t.classes = o.clauses entry i in omega arith;
  ascending = o.ascending;
  rising = o.rising;
}
orderly_line t (MemberLine name version) a o =
    let some : 0 < t.classes = o.begun (member_in_block t.last a.0) in
    let last : this_class t < t.classes = omega arith in
    record {
      begun = λ b. some;
      members = one_more (λ (m : Member). m.class < t.classes) t.members _ o.members last;
      clauses = o.clauses;
      ascending = o.ascending;
      rising = o.rising;
    }
orderly_line t HeldLine a o = record {
  begun = λ b. o.begun (held_in_block t.last a.0);
  members = o.members;
  clauses = o.clauses;
  ascending = o.ascending;
  rising = o.rising;
}
orderly_line t (NeedsLine clause) a o =
    let some : 0 < t.classes = o.begun (clause_in_block t.last clause a.0) in
    let last : this_class t < t.classes = omega arith in
    record {
      begun = λ b. some;
      members = o.members;
      clauses = one_more (λ (entry : ClassClause). entry.class < t.classes) t.clauses _ o.clauses last;
      ascending = one_more (λ (entry : ClassClause). Ascending entry.clause) t.clauses _ o.ascending a.1.ascending;
      rising = o.rising;
    }
orderly_line t (AgainstLine m) a o = record {
  begun = λ b. o.begun (conflict_in_block t.last m a.0);
  members = o.members;
  clauses = o.clauses;
  ascending = o.ascending;
  rising = one_more (λ (pair : Pair). pair.low < pair.high) t.conflicts _ o.rising a.1;
}
orderly_line t (EndLine c d) a o = record { begun = λ b. absurd b; members = o.members; clauses = o.clauses; ascending = o.ascending; rising = o.rising }

orderly_lines : (t : Reading) (ls : List (List ℕ)) (u : Reading) → LinesGive t ls u → IsOrderly t → IsOrderly u
orderly_lines t [] u h o = subst IsOrderly h o
orderly_lines t (line ∷ more) u h o = orderly_lines (with_line t h.0) more u h.3 (orderly_line t h.0 h.2 o)

pub orderly : (text : List ℕ) (t : Reading) → LinesGive empty_reading (lines_of text) t → IsOrderly t
orderly text t given =
    orderly_lines empty_reading (lines_of text) t given (record {
      begun = λ b. absurd b;
      members = λ m i. absurd (In_none i);
      clauses = λ entry i. absurd (In_none i);
      ascending = λ entry i. absurd (In_none i);
      rising = λ pair i. absurd (In_none i);
    })

module _ (text : List ℕ) (t : Reading) (given : LinesGive empty_reading (lines_of text) t) (ended : IsEnded t) (range : IsInRange t) where
  pub reads : IsRead text t.format (repository_of_reading t) t.members t.held
  reads = record { reading = t; given = given; ended = ended; in_range = range; of_format = refl; repository = refl; member_list = refl; held_list = refl }

  writable : IsWritable t.format (repository_of_reading t) t.members t.held
  writable = (written text t.format (repository_of_reading t) t.members t.held reads).0

  size : length (repository_of_reading t).clauses ≡ t.classes
  unfolding repository_of_reading
  size = length_numbers (clauses_of_class t.clauses) t.classes 0

  own : (n : ℕ) → n < t.classes → clauses_of (repository_of_reading t) n ≡ clauses_of_class t.clauses n
  unfolding repository_of_reading
  own n l = at_numbers (clauses_of_class t.clauses) [] t.classes 0 n l ∙ ap (clauses_of_class t.clauses) (zero-add n)

  pub bookable : IsBookable t
  bookable =
      let o : IsOrderly t = orderly text t given in
      record {
        few = subst (λ n. n < number_limit) size writable.few_classes;
        of_classes = o.clauses;
        ascending = o.ascending;
        in_order = λ n l. subst InOrder (own n l) (writable.order n);
        numbers = range.clauses;
        conflicts = record { ordered = o.rising; below = range.conflicts };
      }
