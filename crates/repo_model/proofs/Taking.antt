-- The name that is taken out of the fields of a stanza.
use Rattle.std.proofs.Common.{◌≡◌, ℕ, ◌<◌, Bool, List, [], Option, Some, None, length, get_or, find, sym, ap, ◌∙◌, refl, arith}
use Rattle.std.proofs.{lemmas.Bool.{ltb-false, ltb-true}, lemmas.List.Folds.{find_at}, lemmas.Option.{cond_some, slice_get_past, slice_get_read}}
use Rattle.std.specs.{Prelude.{slice_get}, List.{position, position_or_len}, Option.{option_map_or}}
use Rattle.listed.proofs.Bools.{left_out}
use Rattle.stanza_reader.specs.{declared.stanza.FieldKind.TheVariants.{Package}, declared.stanza.RawField.{RawField}}
use Rattle.repo_model.specs.Fields.{is_kind, value_among}

module _ {X : Type 0} (test : X → Bool) (all : List X) where
  first_within : (place : ℕ) → Some place ≡ position test all → place < length all
  first_within place h =
      let e = cond_some _ _ place (sym h) in
      let below = ltb-true (position_or_len test all) (length all) e.0 in
      omega (arith, below, e.1)

  -- the item at the first place that passes is the one that is found
  first_taken : (place : ℕ) (item : X) → Some place ≡ position test all → item ≡ get_or all place item → find test all ≡ Some item
  first_taken place item h at =
      let e = cond_some _ _ place (sym h) in
      find_at test all ∙ ap (slice_get all) e.1 ∙ slice_get_read all (length all) place item refl (first_within place h) at

  none_taken : None ≡ position test all → find test all ≡ None
  none_taken h = find_at test all ∙ slice_get_past all (position_or_len test all) (ltb-false (position_or_len test all) (length all) (left_out _ _ (sym h)))

abbrev names : RawField → Bool
names field = is_kind Package field.kind

abbrev value_found : Option RawField → List ℕ
value_found found = option_map_or (λ (field : RawField). field.value) found []

-- the value of the field that is taken out at the first place is the name
pub name_taken : (fields slice items : List RawField) (place : ℕ) (field : RawField) → items ≡ fields → slice ≡ items → Some place ≡ position names slice → field ≡ get_or items place field
    → field.value ≡ value_among Package fields
name_taken fields slice items place field are lent h at =
    sym (ap value_found (first_taken names fields place field (h ∙ ap (position names) (lent ∙ are)) (at ∙ ap (λ all. get_or all place field) are)))

-- and where there is no place, no name is there
pub name_missing : (fields slice items : List RawField) → items ≡ fields → slice ≡ items → None ≡ position names slice → [] ≡ value_among Package fields
name_missing fields slice items are lent h = sym (ap value_found (none_taken names fields (h ∙ ap (position names) (lent ∙ are))))
