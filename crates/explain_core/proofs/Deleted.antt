-- What is left when items are left out one by one.
use Rattle.std.proofs.Common.{◌≡◌, Bool, true, false, List, [], ◌∷◌, ◌++◌, ◌⊎◌, inl, inr, refl, sym, ap, ◌∙◌, subst, append_assoc}
use Rattle.std.proofs.lemmas.List.{append-nil, map-append}
use Rattle.listed.specs.Lists.{In, here, there}
use Rattle.listed.proofs.Lists.{In_cases, In_none, In_append_cases, In_append_left, In_append_right}
use Rattle.clause_solver.specs.{declared.outcomes.Verdict.{Verdict}, declared.outcomes.Verdict.TheVariants.{Yes, No, Spent}}
use Rattle.explain_core.specs.Deletion.{KeptItem, kept, is_no, items_of, kept_by, kept_behind, kept_of}

-- the items that stay with one more
items_more : {X : Type 0} (before : List (KeptItem X)) (x : X) (b : Bool) (after : List X) → items_of (before ++ kept x b ∷ []) ++ after ≡ items_of before ++ x ∷ after
items_more before x b after = ap (λ l. l ++ after) (map-append (λ k. k.item) before (kept x b ∷ [])) ∙ append_assoc (items_of before) (x ∷ []) after

-- a block each item of which has the verdict no, whatever of the block is still behind it, is left out
pub block_left_out : {X : Type 0} (f : List X → Verdict) (before : List (KeptItem X)) (block after : List X) → ((front : List X) → ((x : X) → In x front → In x block) → f (items_of before ++ (front ++ after)) ≡ No)
    → kept_behind f before (block ++ after) ≡ kept_behind f before after
unfolding kept_behind
block_left_out f before [] after h = refl
block_left_out f before (x ∷ block) after h =
    ap (λ v. kept_behind f (before ++ kept_by x v) (block ++ after)) (h block (λ y i. there i)) ∙ ap (λ b. kept_behind f b (block ++ after)) (append-nil before)
    ∙ block_left_out f before block after (λ front within. h front (λ y i. there (within y i)))

pub no_is : (v : Verdict) → is_no v ≡ true → v ≡ No
no_is No e = refl
no_is Yes e = absurd (cc e)
no_is Spent e = absurd (cc e)

-- where all have the verdict no, what is left has it
pub left_no : {X : Type 0} (f : List X → Verdict) (before : List (KeptItem X)) (after : List X) → f (items_of before ++ after) ≡ No → f (items_of (kept_behind f before after)) ≡ No
unfolding kept_behind
left_no f before [] h = ap f (sym (append-nil (items_of before))) ∙ h
left_no f before (x ∷ after) h = left_no f (before ++ kept_by x (f (items_of before ++ after))) after (by (f (items_of before ++ after)) refl)
  where
    by : (v : Verdict) → f (items_of before ++ after) ≡ v → f (items_of (before ++ kept_by x v) ++ after) ≡ No
    by No e = ap (λ l. f (items_of l ++ after)) (append-nil before) ∙ e
    by Yes e = ap f (items_more before x false after) ∙ h
    by Spent e = ap f (items_more before x true after) ∙ h

-- a list of such items with the verdict yes that has all of the others
pub record Suffice {X : Type 0} (P : X → Type 0) (f : List X → Verdict) (others : List X) : Type 0 where
  pub all : List X
  pub yes : f all ≡ Yes
  pub has : (x : X) → In x others → In x all
  pub each : (x : X) → In x all → P x

-- without any one item that stays and is not open, the others and those behind are within a list with the verdict yes
abbrev AreNeeded : {X : Type 0} → (X → Type 0) → (List X → Verdict) → List (KeptItem X) → List X → Type 0
AreNeeded {X = X} P f stay after = (pre post : List (KeptItem X)) (k : KeptItem X) → stay ≡ pre ++ k ∷ post → k.unsettled ≡ false → Suffice P f (items_of (pre ++ post) ++ after)

abbrev AreSuch : {X : Type 0} → (X → Type 0) → List (KeptItem X) → List X → Type 0
AreSuch {X = X} P stay after = (x : X) → In x (items_of stay ++ after) → P x

-- an item of a list with one more behind is that one, or one of the list
record IsBefore {A : Type 0} (before : List A) (y : A) (pre : List A) (k : A) (post : List A) : Type 0 where
  pub rest : List A
  pub behind : post ≡ rest ++ y ∷ []
  pub is : before ≡ pre ++ k ∷ rest

record IsLast {A : Type 0} (before : List A) (y : A) (pre : List A) (k : A) (post : List A) : Type 0 where
  pub none : post ≡ []
  pub is : before ≡ pre
  pub same : y ≡ k

last_or_before : {A : Type 0} (before : List A) (y : A) (pre : List A) (k : A) (post : List A) → before ++ y ∷ [] ≡ pre ++ k ∷ post → IsLast before y pre k post ⊎ IsBefore before y pre k post
last_or_before [] y [] k post e = inl record { none = cc; is = refl; same = cc }
last_or_before [] y (p ∷ []) k post e = absurd (cc)
last_or_before [] y (p ∷ (q ∷ pre)) k post e = absurd (cc)
last_or_before (b ∷ before) y [] k post e = inr record { rest = before; behind = cc; is = cc }
last_or_before (b ∷ before) y (p ∷ pre) k post e = let tails : before ++ y ∷ [] ≡ pre ++ k ∷ post = cc in let heads : b ≡ p = cc in elim (last_or_before before y pre k post tails) [
  | inl w ↦ inl record { none = w.none; is = ap (λ l. b ∷ l) w.is ∙ ap (λ h. h ∷ pre) heads; same = w.same }
  | inr w ↦ inr record { rest = w.rest; behind = w.behind; is = ap (λ l. b ∷ l) w.is ∙ ap (λ h. h ∷ (pre ++ k ∷ w.rest)) heads }
]

-- fewer others
suffice_less : {X : Type 0} (P : X → Type 0) (f : List X → Verdict) (more fewer : List X) → ((x : X) → In x fewer → In x more) → Suffice P f more → Suffice P f fewer
suffice_less P f more fewer h w = record { all = w.all; yes = w.yes; has = λ x i. w.has x (h x i); each = w.each }

one_less : {X : Type 0} (front after : List X) (x y : X) → In y (front ++ after) → In y (front ++ x ∷ after)
one_less front after x y i = elim (In_append_cases front after y i) [
  | inl a ↦ In_append_left front (x ∷ after) y a
  | inr b ↦ In_append_right front (x ∷ after) y (there b)
]

such_more : {X : Type 0} (P : X → Type 0) (before : List (KeptItem X)) (x : X) (after : List X) (v : Verdict) → AreSuch P before (x ∷ after) → AreSuch P (before ++ kept_by x v) after
such_more P before x after No such y i = such y (one_less (items_of before) after x y (subst (λ l. In y (items_of l ++ after)) (append-nil before) i))
such_more P before x after Yes such y i = such y (subst (λ l. In y l) (items_more before x false after) i)
such_more P before x after Spent such y i = such y (subst (λ l. In y l) (items_more before x true after) i)

module _ {X : Type 0} (P : X → Type 0) (f : List X → Verdict) (before : List (KeptItem X)) (x : X) (after : List X) (such : AreSuch P before (x ∷ after)) (needs : AreNeeded P f before (x ∷ after)) where
  behind : (b : Bool) (pre post : List (KeptItem X)) (k : KeptItem X) → IsBefore before (kept x b) pre k post → k.unsettled ≡ false → Suffice P f (items_of (pre ++ post) ++ after)
  behind b pre post k w u =
      let old : Suffice P f (items_of (pre ++ w.rest) ++ x ∷ after) = needs pre w.rest k w.is u in
      subst (λ l. Suffice P f l)
      (sym (ap (λ p. items_of (pre ++ p) ++ after) w.behind ∙ ap (λ l. items_of l ++ after) (sym (append_assoc pre w.rest (kept x b ∷ []))) ∙ items_more (pre ++ w.rest) x b after)) old

  needed_more : (v : Verdict) → f (items_of before ++ after) ≡ v → AreNeeded P f (before ++ kept_by x v) after
  needed_more No e pre post k d u = suffice_less P f (items_of (pre ++ post) ++ x ∷ after) (items_of (pre ++ post) ++ after) (one_less (items_of (pre ++ post)) after x)
      (needs pre post k (sym (append-nil before) ∙ d) u)
  needed_more Yes e pre post k d u = elim (last_or_before before (kept x false) pre k post d) [
    | inl w ↦ record {
      all = items_of before ++ after;
      yes = e;
      has = λ y i. subst (λ l. In y (items_of l ++ after)) (ap (λ p. pre ++ p) w.none ∙ append-nil pre ∙ sym w.is) i;
      each = λ y i. such y (one_less (items_of before) after x y i);
    }
    | inr w ↦ behind false pre post k w u
  ]
  needed_more Spent e pre post k d u = elim (last_or_before before (kept x true) pre k post d) [
    | inl w ↦ absurd (let t : true ≡ k.unsettled = ap (λ z. z.unsettled) w.same in cc (t, u))
    | inr w ↦ behind true pre post k w u
  ]

needed_left : {X : Type 0} (P : X → Type 0) (f : List X → Verdict) (before : List (KeptItem X)) (after : List X) → AreSuch P before after → AreNeeded P f before after → AreNeeded P f (kept_behind f before after) []
unfolding kept_behind
needed_left P f before [] such needs = needs
needed_left P f before (x ∷ after) such needs =
    needed_left P f (before ++ kept_by x (f (items_of before ++ after))) after (such_more P before x after (f (items_of before ++ after)) such)
    (needed_more P f before x after such needs (f (items_of before ++ after)) refl)

nothing_needed : {X : Type 0} (P : X → Type 0) (f : List X → Verdict) (items : List X) → AreNeeded P f [] items
nothing_needed P f items [] post k e u = absurd (cc)
nothing_needed P f items (p ∷ pre) post k e u = absurd (cc)

-- so it is of what is left in the end
pub kept_needed : {X : Type 0} (P : X → Type 0) (f : List X → Verdict) (items : List X) (pre post : List (KeptItem X)) (k : KeptItem X) → ((x : X) → In x items → P x) →
    kept_of f items ≡ pre ++ k ∷ post → k.unsettled ≡ false → Suffice P f (items_of (pre ++ post))
kept_needed P f items pre post k such d u =
    subst (λ l. Suffice P f l) (append-nil (items_of (pre ++ post))) (needed_left P f [] items such (nothing_needed P f items) pre post k d u)

pub kept_no : {X : Type 0} (f : List X → Verdict) (items : List X) → f items ≡ No → f (items_of (kept_of f items)) ≡ No
kept_no f items h = left_no f [] items h

-- what is left was there
pub kept_from : {X : Type 0} (f : List X → Verdict) (before : List (KeptItem X)) (after : List X) (k : KeptItem X) → In k (kept_behind f before after) → In k before ⊎ In k.item after
unfolding kept_behind
kept_from f before [] k i = inl i
kept_from {X = X} f before (x ∷ after) k i = elim (kept_from f (before ++ kept_by x (f (items_of before ++ after))) after k i) [
  | inl a ↦ elim (In_append_cases before (kept_by x (f (items_of before ++ after))) k a) [
    | inl b ↦ inl b
    | inr b ↦ inr (by (f (items_of before ++ after)) b)
  ]
  | inr a ↦ inr (there a)
]
  where
    one : (b : Bool) → In k (kept x b ∷ []) → In k.item (x ∷ after)
    one b j = elim (In_cases j) [
      | inl e ↦ subst (λ y. In y (x ∷ after)) (sym (ap (λ z. z.item) e)) here
      | inr j ↦ absurd (In_none j)
    ]

    by : (v : Verdict) → In k (kept_by x v) → In k.item (x ∷ after)
    by No j = absurd (In_none j)
    by Yes j = one false j
    by Spent j = one true j

pub kept_all : {X : Type 0} (f : List X → Verdict) (items : List X) (k : KeptItem X) → In k (kept_of f items) → In k.item items
kept_all f items k i = elim (kept_from f [] items k i) [
  | inl a ↦ absurd (In_none a)
  | inr b ↦ b
]
