-- Where a text is cut: at the first element that passes, and at the last.
use Rattle.std.proofs.Common.{◌≡◌, ℕ, ◌+◌, ◌-◌, ◌<◌, Bool, true, false, cond, not, nat_lt, List, [], ◌∷◌, Option, Some, None, length, take, drop, reverse, refl}
use Rattle.std.proofs.{Common.{sym, ap, ◌∙◌, arith}, lemmas.Grind.{common_steps}, lemmas.List.Folds.{list_any-append}, lemmas.Bool.{lt-ltb, le-ltb, and_parts}}
use Rattle.std.proofs.lemmas.Option.{cond_some}
use Rattle.std.specs.{Prelude.{unwrap_or}, Char.{is_ascii_digit}, List.{list_all, list_any, position, position_or_len, suffix_len}}
use Rattle.listed.proofs.{Lists.{any_by_first}, Bools.{left_out}}
use Rattle.deb_version.specs.Grammar.{is_colon, is_hyphen, epoch_of, behind_epoch, upstream_in, revision_in, upstream_of, revision_of, are_parts, is_version}
use Rattle.deb_version.specs.Order.{or_zero}

list_any-reverse : (p : ℕ → Bool) → (xs : List ℕ) → list_any p (reverse xs) ≡ list_any p xs
list_any-reverse p [] = refl
list_any-reverse p (x ∷ xs) = grind (arith, common_steps, list_any-append, list_any-reverse p xs)

-- and where the last that does
list_any-by_last : (p : ℕ → Bool) → (xs : List ℕ) → list_any p xs ≡ nat_lt (suffix_len (λ x. not (p x)) xs) (length xs)
list_any-by_last p xs = grind (arith, common_steps, any_by_first p (reverse xs), list_any-reverse p xs)

pub epoch_found : (text : List ℕ) (place : ℕ) → Some place ≡ position is_colon text → Some (take place text) ≡ epoch_of text
unfolding epoch_of
epoch_found text place h =
    let e = cond_some _ _ place (sym h) in
    let any : list_any is_colon text ≡ true = any_by_first is_colon text ∙ e.0 in
    rw any (ap (λ n. Some (take n text)) (sym e.1))

pub rest_found : (text : List ℕ) (place : ℕ) → Some place ≡ position is_colon text → drop (place + 1) text ≡ behind_epoch text
unfolding behind_epoch
rest_found text place h =
    let e = cond_some _ _ place (sym h) in
    let any : list_any is_colon text ≡ true = any_by_first is_colon text ∙ e.0 in
    rw any (ap (λ n. drop (n + 1) text) (sym e.1))

pub epoch_missing : (text : List ℕ) → position is_colon text ≡ None → None ≡ epoch_of text
unfolding epoch_of
epoch_missing text h =
    let any : list_any is_colon text ≡ false = any_by_first is_colon text ∙ left_out _ _ h in
    rw any

pub rest_whole : (text : List ℕ) → position is_colon text ≡ None → text ≡ behind_epoch text
unfolding behind_epoch
rest_whole text h =
    let any : list_any is_colon text ≡ false = any_by_first is_colon text ∙ left_out _ _ h in
    rw any

-- `tail` bytes stand behind the last hyphen
pub upstream_whole : (rest : List ℕ) → suffix_len (λ c. not (is_hyphen c)) rest ≡ length rest → rest ≡ upstream_in rest
unfolding upstream_in
upstream_whole rest h =
    let any : list_any is_hyphen rest ≡ false = list_any-by_last is_hyphen rest ∙ le-ltb _ _ (omega arith) in
    rw any

pub revision_missing : (rest : List ℕ) → suffix_len (λ c. not (is_hyphen c)) rest ≡ length rest → None ≡ revision_in rest
unfolding revision_in
revision_missing rest h =
    let any : list_any is_hyphen rest ≡ false = list_any-by_last is_hyphen rest ∙ le-ltb _ _ (omega arith) in
    rw any

pub upstream_found : (rest : List ℕ) (tail : ℕ) → tail ≡ suffix_len (λ c. not (is_hyphen c)) rest → tail < length rest → take (length rest - tail - 1) rest ≡ upstream_in rest
unfolding upstream_in
upstream_found rest tail e h =
    let any : list_any is_hyphen rest ≡ true = list_any-by_last is_hyphen rest ∙ lt-ltb _ _ (omega arith) in
    rw any (ap (λ n. take (length rest - n - 1) rest) e)

pub revision_found : (rest : List ℕ) (tail place : ℕ) → tail ≡ suffix_len (λ c. not (is_hyphen c)) rest → tail < length rest → place ≡ length rest - tail → Some (drop place rest) ≡ revision_in rest
unfolding revision_in
revision_found rest tail place e h p =
    let any : list_any is_hyphen rest ≡ true = list_any-by_last is_hyphen rest ∙ lt-ltb _ _ (omega arith) in
    rw any (ap (λ n. Some (drop n rest)) (p ∙ ap (λ n. length rest - n) e))

-- the epoch of a version, or the zero in its place, has digits alone
parts_digits : (epoch : Option (List ℕ)) (upstream : List ℕ) (revision : Option (List ℕ)) → are_parts epoch upstream revision ≡ true → list_all is_ascii_digit (unwrap_or epoch or_zero) ≡ true
parts_digits None upstream revision h = refl
parts_digits (Some e) upstream revision h = (and_parts _ _ (and_parts _ _ (and_parts _ _ h).0).0).1

pub epoch_digits : (text digits : List ℕ) (epoch : Option (List ℕ)) → is_version text ≡ true → epoch ≡ epoch_of text → digits ≡ unwrap_or epoch or_zero → list_all is_ascii_digit digits ≡ true
unfolding is_version
epoch_digits text digits epoch h e d =
    ap (λ (xs : List ℕ). list_all is_ascii_digit xs) (d ∙ ap (λ (o : Option (List ℕ)). unwrap_or o or_zero) e) ∙ parts_digits (epoch_of text) (upstream_of text) (revision_of text) h
