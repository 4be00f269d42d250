-- The index of a sample suite, written stanza by stanza as its packages are drawn.
use Rattle.std.proofs.Common.{◌≡◌, ◌∙◌, ◌<◌, ◌≤◌, ◌+◌, ◌-◌, ℕ, refl, sym, ap, List, [], ◌∷◌, ◌++◌, append-nil, append_assoc, arith}
use Rattle.sample_suite.specs.{declared.package.SamplePackage.{SamplePackage}, Drawing.{draw_package, draws}}
use Rattle.sample_suite.specs.SampleText.{sample_text, stanza_text, stanzas_text}
use Rattle.sample_suite.proofs.DrawSteps.{draws_first, draws_none, one_left}

pub no_stanza : (n : ℕ) → stanzas_text n [] ≡ []
unfolding stanzas_text
no_stanza n = refl

pub first_stanza : (n : ℕ) (p : SamplePackage) (more : List SamplePackage) → stanzas_text n (p ∷ more) ≡ stanza_text n p ++ stanzas_text (n + 1) more
unfolding stanzas_text
first_stanza n p more = refl

-- the stanzas of the packages from a number on, drawn from a state
abbrev pub text_left : ℕ → ℕ → ℕ → List ℕ
text_left count n state = stanzas_text n (draws (draw_package count) (count - n) state).value

pub text_begun : (seed count : ℕ) (text : List ℕ) → text ≡ [] → sample_text seed count ≡ text ++ text_left count 0 seed
unfolding sample_text
text_begun seed count text is =
    let whole : count ≡ count - 0 = omega arith in
    ap (λ k. stanzas_text 0 (draws (draw_package count) k seed).value) whole ∙ ap (λ t. t ++ text_left count 0 seed) (sym is)

pub text_more : (count n state : ℕ) (whole text new : List ℕ) → n < count → whole ≡ text ++ text_left count n state → new ≡ text ++ stanza_text n (draw_package count state).value
    → whole ≡ new ++ text_left count (n + 1) (draw_package count state).state
text_more count n state whole text new lt sofar pushed =
    let p = (draw_package count state).value in
    let rest = text_left count (n + 1) (draw_package count state).state in
    sofar ∙ ap (λ k. text ++ stanzas_text n (draws (draw_package count) k state).value) (one_left count n lt)
    ∙ ap (λ d. text ++ stanzas_text n d.value) (draws_first (draw_package count) (count - (n + 1)) state)
    ∙ ap (λ t. text ++ t) (first_stanza n p (draws (draw_package count) (count - (n + 1)) (draw_package count state).state).value)
    ∙ sym (append_assoc text (stanza_text n p) rest) ∙ ap (λ t. t ++ rest) (sym pushed)

pub text_whole : (count n state : ℕ) (whole text : List ℕ) → count ≤ n → whole ≡ text ++ text_left count n state → text ≡ whole
text_whole count n state whole text past sofar =
    let none : count - n ≡ 0 = omega arith in
    sym (sofar ∙ ap (λ k. text ++ stanzas_text n (draws (draw_package count) k state).value) none ∙ ap (λ d. text ++ stanzas_text n d.value) (draws_none (draw_package count) state)
    ∙ ap (λ t. text ++ t) (no_stanza n) ∙ append-nil text)
