-- A line that is written piece by piece.
use Rattle.std.proofs.Common.{◌≡◌, ℕ, ◌<◌, ◌≤◌, ◌+◌, List, [], ◌∷◌, ◌++◌, length, take, drop, get_or, Option, Some, None, refl, sym, ap, ◌∙◌, inl, inr, subst}
use Rattle.std.proofs.{Common.{arith, add-one, append_assoc, append-nil, drop-cons, take_all}, Math.Seq.{take-append-add}}
use Rattle.std.proofs.{lemmas.List.{drop_all, take-append-le, take-append-drop, take_more}, lemmas.List.Concat.{flat_map-append}}
use Rattle.std.specs.{Borrow.{Bor}, Io.KnownBytes.{Appends}, List.{flat_map}}
use Rattle.byte_flow.specs.{Flow.{Rose}, Models.{SinkModel}, Transfer.{LastWriteFailed, Sent, begun, sent_on}}
use Rattle.coinst_run.specs.Delivers.{Offered, Tells, not_begun, offered_on}

-- a line from its pieces
abbrev pub line_of : List (Bor (List ℕ)) → List ℕ
line_of pieces = flat_map (λ p. p.now) pieces

-- the first pieces are taken, and the others are left
pub record HasTold {E : Type 0} (N : SinkModel E) (old new : E) (pieces : List (Bor (List ℕ))) (i : ℕ) : Type 0 where
  pub later : N.faults old ≤ N.faults new
  pub told : Appends (N.taken old) (N.taken new) (line_of (take i pieces))
  pub calls : Offered N old (line_of pieces) new (line_of (drop i pieces))

pub appends_none : (old : Option (List ℕ)) → Appends old old []
appends_none None = tt
appends_none (Some xs) = nothing xs
  where
    nothing : (ys : List ℕ) → ys ≡ ys ++ []
    nothing [] = refl
    nothing (y ∷ ys) = ap (λ zs. y ∷ zs) (nothing ys)

appends_both : (a b c : Option (List ℕ)) (xs ys : List ℕ) → Appends a b xs → Appends b c ys → Appends a c (xs ++ ys)
appends_both None b c xs ys h k = tt
appends_both (Some us) None c xs ys h k = absurd h
appends_both (Some us) (Some vs) None xs ys h k = absurd k
appends_both (Some us) (Some vs) (Some ws) xs ys h k = k ∙ ap (λ zs. zs ++ ys) h ∙ append_assoc us xs ys

module _ {E : Type 0} (N : SinkModel E) where
  -- a piece that is sent
  offered_piece : {old mid : E} {line : List ℕ} (piece left : List ℕ) {new : E} {rest : List ℕ} → Offered N old line mid (piece ++ left) → Sent N mid piece new rest → Offered N old line new (rest ++ left)
  offered_piece piece left o begun = o
  offered_piece piece left o (sent_on {left = part} sent last some) = offered_on part left (offered_piece piece left o sent) last some

  pub told_none : (sink : E) (pieces : List (Bor (List ℕ))) → HasTold N sink sink pieces 0
  told_none sink pieces = record { later = omega arith; told = appends_none (N.taken sink); calls = not_begun }

  -- the pieces up to one, that one and the others
  pieces_left : (pieces : List (Bor (List ℕ))) (i : ℕ) (d : Bor (List ℕ)) → i < length pieces → line_of (drop i pieces) ≡ (get_or pieces i d).now ++ line_of (drop (i + 1) pieces)
  pieces_left pieces i d inside = rw add-one (ap line_of (drop-cons pieces i d inside))

  pieces_taken : (pieces : List (Bor (List ℕ))) (i : ℕ) (d : Bor (List ℕ)) → i < length pieces → line_of (take (i + 1) pieces) ≡ line_of (take i pieces) ++ (get_or pieces i d).now
  pieces_taken pieces i d inside =
      let piece : Bor (List ℕ) = get_or pieces i d in
      ap line_of (take_more pieces i d inside) ∙ flat_map-append (λ (p : Bor (List ℕ)). p.now) (take i pieces) (piece ∷ []) ∙ ap (λ t. line_of (take i pieces) ++ t) (append-nil piece.now)

  -- one more piece
  pub told_more : (old mid new : E) (pieces : List (Bor (List ℕ))) (i : ℕ) (d : Bor (List ℕ)) → i < length pieces → HasTold N old mid pieces i →
      Appends (N.taken mid) (N.taken new) (get_or pieces i d).now → N.faults mid ≤ N.faults new → Sent N mid (get_or pieces i d).now new [] → HasTold N old new pieces (i + 1)
  told_more old mid new pieces i d inside told took later sent =
      let before : N.faults old ≤ N.faults mid = told.later in
      record {
        later = omega arith;
        told = subst (Appends (N.taken old) (N.taken new)) (sym (pieces_taken pieces i d inside)) (appends_both (N.taken old) (N.taken mid) (N.taken new) (line_of (take i pieces)) (get_or pieces i d).now told.told took);
        calls = offered_piece (get_or pieces i d).now (line_of (drop (i + 1) pieces)) (subst (Offered N old (line_of pieces) mid) (pieces_left pieces i d inside) told.calls) sent;
      }

  -- all pieces
  pub told_whole : (old new : E) (pieces : List (Bor (List ℕ))) (i : ℕ) → length pieces ≤ i → HasTold N old new pieces i → Tells N old new (line_of pieces)
  told_whole old new pieces i all told = record {
    took = inl (subst (λ ps. Appends (N.taken old) (N.taken new) (line_of ps)) (take_all i pieces all) told.told);
    calls = inl (subst (λ ps. Offered N old (line_of pieces) new (line_of ps)) (drop_all i pieces all) told.calls);
  }

  -- a piece that is cut leaves a front of the line
  pub told_front : (old mid new : E) (pieces : List (Bor (List ℕ))) (i n : ℕ) (d : Bor (List ℕ)) → i < length pieces → HasTold N old mid pieces i →
      n < length (get_or pieces i d).now → Appends (N.taken mid) (N.taken new) (take n (get_or pieces i d).now) → Rose (N.faults mid) (N.faults new) →
      LastWriteFailed N mid (get_or pieces i d).now new → Tells N old new (line_of pieces)
  told_front old mid new pieces i n d inside told short took rose failed =
      let later : N.faults old ≤ N.faults mid = told.later in
      let front : List ℕ = line_of (take i pieces) in
      let piece : List ℕ = (get_or pieces i d).now in
      let rest : List ℕ = line_of (drop (i + 1) pieces) in
      let all : line_of pieces ≡ front ++ (piece ++ rest) =
      ap line_of (sym (take-append-drop i pieces)) ∙ flat_map-append (λ (p : Bor (List ℕ)). p.now) (take i pieces) (drop i pieces) ∙ ap (λ t. front ++ t) (pieces_left pieces i d inside) in
      let cut : take (length front + n) (line_of pieces) ≡ front ++ take n piece =
      ap (take (length front + n)) all ∙ take-append-add front (piece ++ rest) n ∙ ap (λ t. front ++ t) (take-append-le n piece rest (omega arith)) in
      let grown : Rose (N.faults old) (N.faults new) = omega arith in
      record {
        took = inr (grown, (length front + n, subst (Appends (N.taken old) (N.taken new)) (sym cut) (appends_both (N.taken old) (N.taken mid) (N.taken new) front (take n piece) told.told took)));
        calls = inr record {
          before = failed.before;
          front = failed.left;
          left = rest;
          some = failed.some;
          offered = offered_piece piece rest (subst (Offered N old (line_of pieces) mid) (pieces_left pieces i d inside) told.calls) failed.sent;
          last = failed.last;
        };
      }

  -- another spelling of the line
  pub tells_same : (old new : E) (line other : List ℕ) → line ≡ other → Tells N old new line → Tells N old new other
  tells_same old new line other same told = subst (Tells N old new) same told

-- a line about a path, by its pieces
pub about_path : (path between text end : List ℕ) → path ++ (between ++ (text ++ end)) ≡ path ++ between ++ text ++ end
about_path path between text end = sym (append_assoc (path ++ between) text end ∙ append_assoc path between (text ++ end))
