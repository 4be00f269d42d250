-- Chains of entries that grow.
use Rattle.std.proofs.Common.{◌≡◌, ℕ, zero, suc, ◌+◌, ◌-◌, ◌<◌, ◌≤◌, List, [], ◌∷◌, ◌++◌, length, get_or, set, map, replicate, refl, ap, sym, ◌∙◌, arith, inl}
use Rattle.std.proofs.{Common.{inr}, lemmas.Bool.{cases_eq}}
use Rattle.std.proofs.lemmas.List.{append_assoc, append-nil, length_push, length-map, length-replicate, map-set, get_or_append_left, get_or-map}
use Rattle.std.proofs.{lemmas.List.{get_or-set_same, get_or-set_other}, lemmas.Grind.{get_or_default_zero}, Math.Seq.{get_or-append_seam}}
use Rattle.row_book.specs.Book.{listed_for}
use Rattle.install_lift.specs.{Chains.{entry_at, chain, chains_of, Falls, AreChains}, declared.user_table.Entry.{Entry}}

-- a chain is the same among more entries, and at any bound that is large enough
chain_same : (f g : ℕ) (es more : List Entry) (h : ℕ) → Falls es → ((k : ℕ) → k < length es → entry_at more k ≡ entry_at es k) → h ≤ f → h ≤ g → h ≤ length es → chain f more h ≡ chain g es h
unfolding chain
chain_same zero zero es more zero falls same a b c = refl
chain_same zero (suc g) es more zero falls same a b c = refl
chain_same (suc f) zero es more zero falls same a b c = refl
chain_same (suc f) (suc g) es more zero falls same a b c = refl
chain_same zero g es more (suc k) falls same a b c = absurd (omega (arith, a))
chain_same (suc f) zero es more (suc k) falls same a b c = absurd (omega (arith, b))
chain_same (suc f) (suc g) es more (suc k) falls same a b c =
    let lt : k < length es = omega (arith, c) in
    let le = falls k lt in
    rw (same k lt) (ap (λ t. (entry_at es k).user ∷ t) (chain_same f g es more (entry_at es k).before falls same (omega (arith, le, a)) (omega (arith, le, b)) (omega (arith, le, lt))))

-- one entry of a chain
chain_suc : (f : ℕ) (es : List Entry) (k : ℕ) → Falls es → k < f → k < length es → chain f es (suc k) ≡ (entry_at es k).user ∷ chain f es (entry_at es k).before
unfolding chain
chain_suc zero es k falls a b = absurd (omega (arith, a))
chain_suc (suc f) es k falls a b =
    let le = falls k b in
    ap (λ t. (entry_at es k).user ∷ t) (chain_same f (suc f) es es (entry_at es k).before falls (λ j lt. refl) (omega (arith, le, a)) (omega (arith, le, a)) (omega (arith, le, b)))

pub chain_step : (es : List Entry) (h : ℕ) → Falls es → 0 < h → h ≤ length es → ((entry_at es (h - 1)).before < h) × (chain (length es) es h ≡ (entry_at es (h - 1)).user ∷ chain (length es) es (entry_at es (h - 1)).before)
chain_step es zero falls lt le = absurd (omega (arith, lt))
chain_step es (suc k) falls lt le =
    let less : suc k - 1 ≡ k = omega arith in
    let below : k < length es = omega (arith, le) in
    let fall = falls k below in
    rw less ((let at : (entry_at es k).before < suc k = omega (arith, fall) in at), chain_suc (length es) es k falls below below)

chain_ends : (f : ℕ) (es : List Entry) → chain f es 0 ≡ []
unfolding chain
chain_ends zero es = refl
chain_ends (suc f) es = refl

map_same : {B : Type 0} (f g : ℕ → B) (xs : List ℕ) → ((k : ℕ) → f (get_or xs k 0) ≡ g (get_or xs k 0)) → map f xs ≡ map g xs
map_same f g [] h = refl
map_same f g (x ∷ xs) h = let first : f x ≡ g x = h 0 in rw first (ap (λ t. g x ∷ t) (map_same f g xs (λ k. h (suc k))))

map-none : (heads : List ℕ) → map (chain 0 []) heads ≡ replicate (length heads) []
unfolding chain
map-none [] = refl
map-none (h ∷ heads) = ap (λ t. [] ∷ t) (map-none heads)

pub put_falls : (heads now : List ℕ) (es new : List Entry) (n : ℕ) (e : Entry) → AreChains heads es → n < length heads → e.before ≡ get_or heads n e.before → new ≡ es ++ e ∷ [] → now ≡ set heads n (length new) → AreChains now new
put_falls heads now es new n e chains lt is f g =
    let long : length new ≡ length es + 1 = ap length f ∙ length_push es e in
    let head : e.before ≡ get_or heads n 0 = is ∙ get_or_default_zero heads n e.before lt in
    let from : e.before ≤ length es = rw head (chains.begin n) in
    record {
      falls = λ k klt. elim (cases_eq k (length es)) [
        | inl last ↦ rw (f, last, get_or-append_seam es e [] (record { user = 0; before = 0 })) from
        | inr ne ↦ let below : k < length es = omega (arith, klt, long, ne) in rw (f, get_or_append_left es (e ∷ []) (record { user = 0; before = 0 }) k below) (chains.falls k below)
      ];
      begin = λ m. elim (cases_eq m n) [
        | inl same_one ↦ rw (g, same_one, get_or-set_same heads n (length new) 0 lt) (omega arith)
        | inr ne ↦ let le = chains.begin m in rw (g, get_or-set_other heads n m (length new) 0 ne) (omega (arith, le, long))
      ];
    }

pub put_chains : (heads now : List ℕ) (es new : List Entry) (n : ℕ) (e : Entry) → AreChains heads es → n < length heads → e.before ≡ get_or heads n e.before → new ≡ es ++ e ∷ [] → now ≡ set heads n (length new)
    → chains_of now new ≡ set (chains_of heads es) n (e.user ∷ listed_for (chains_of heads es) n)
unfolding chains_of
put_chains heads now es new n e chains lt is f g =
    let first : e.before ≡ get_or heads n 0 = is ∙ get_or_default_zero heads n e.before lt in
    let more : length new ≡ length es + 1 = ap length f ∙ length_push es e in
    let long : length new ≡ suc (length es) = omega (arith, more) in
    let last : entry_at new (length es) ≡ e = ap (λ xs. entry_at xs (length es)) f ∙ get_or-append_seam es e [] (record { user = 0; before = 0 }) in
    let falls = (put_falls heads now es new n e chains lt is f g).falls in
    let same : (k : ℕ) → k < length es → entry_at new k ≡ entry_at es k = λ k klt. ap (λ xs. entry_at xs k) f ∙ get_or_append_left es (e ∷ []) (record { user = 0; before = 0 }) k klt in
    let old : (h : ℕ) → h ≤ length es → chain (length new) new h ≡ chain (length es) es h =
    λ h le. chain_same (length new) (length es) es new h chains.falls same (omega (arith, le, long)) le le
    in
    let rest : map (chain (length new) new) heads ≡ map (chain (length es) es) heads = map_same (chain (length new) new) (chain (length es) es) heads (λ k. old (get_or heads k 0) (chains.begin k)) in
    let head : chain (length new) new (length new) ≡ e.user ∷ get_or (map (chain (length es) es) heads) n [] =
    ap (chain (length new) new) long ∙ chain_suc (length new) new (length es) falls (omega (arith, long)) (omega (arith, long))
    ∙ ap (λ x. x.user ∷ chain (length new) new x.before) last
    ∙ ap (λ t. e.user ∷ t) (old e.before (rw first (chains.begin n)) ∙ ap (chain (length es) es) first ∙ sym (get_or-map (chain (length es) es) heads n 0 [] lt))
    in
    ap (map (chain (length new) new)) g ∙ map-set (chain (length new) new) heads n (length new) ∙ ap (λ t. set t n (chain (length new) new (length new))) rest ∙ ap (set (map (chain (length es) es) heads) n) head

-- a turn of the walk
pub walked : (es : List Entry) (items now all : List ℕ) (h : ℕ) → Falls es → 0 < h → h ≤ length es → now ≡ items ++ (entry_at es (h - 1)).user ∷ [] → items ++ chain (length es) es h ≡ all → now ++ chain (length es) es (entry_at es (h - 1)).before ≡ all
walked es items now all h falls lt le f inv =
    let e = entry_at es (h - 1) in
    ap (λ t. t ++ chain (length es) es e.before) f ∙ append_assoc items (e.user ∷ []) (chain (length es) es e.before) ∙ ap (λ t. items ++ t) (sym (chain_step es h falls lt le).1) ∙ inv

pub walked_all : (es : List Entry) (items all : List ℕ) (h : ℕ) → h ≤ 0 → items ++ chain (length es) es h ≡ all → items ≡ all
walked_all es items all h le inv =
    let none : h ≡ 0 = omega (arith, le) in
    sym (append-nil items) ∙ ap (λ t. items ++ t) (sym (ap (chain (length es) es) none ∙ chain_ends (length es) es)) ∙ inv

-- no entry yet
pub no_chains : (heads : List ℕ) (es : List Entry) (n : ℕ) → heads ≡ replicate n 0 → es ≡ [] → chains_of heads es ≡ replicate n []
unfolding chains_of
no_chains heads es n e f = ap (λ xs. map (chain (length xs) xs) heads) f ∙ map-none heads ∙ ap (λ k. replicate k []) (ap length e ∙ length-replicate n 0)

pub length_chains : (heads : List ℕ) (es : List Entry) → length (chains_of heads es) ≡ length heads
unfolding chains_of
length_chains heads es = length-map heads (chain (length es) es)

pub chain_at : (heads : List ℕ) (es : List Entry) (n head : ℕ) → n < length heads → head ≡ get_or heads n head → listed_for (chains_of heads es) n ≡ chain (length es) es head
unfolding chains_of
chain_at heads es n head lt e = get_or-map (chain (length es) es) heads n 0 [] lt ∙ ap (chain (length es) es) (sym (e ∙ get_or_default_zero heads n head lt))

pub begins_within : (heads : List ℕ) (es : List Entry) (n head : ℕ) → AreChains heads es → n < length heads → head ≡ get_or heads n head → head ≤ length es
begins_within heads es n head chains lt e = let first : head ≡ get_or heads n 0 = e ∙ get_or_default_zero heads n head lt in rw first (chains.begin n)
