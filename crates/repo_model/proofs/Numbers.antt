-- Loops over the numbers of stanzas.
use Rattle.std.proofs.Common.{◌≡◌, ℕ, zero, suc, ◌<◌, ◌+◌, Bool, true, false, cond, List, [], ◌∷◌, ◌++◌, length, get_or, map, filter, refl, sym, ap, ◌∙◌}
use Rattle.std.proofs.{Common.{add-one, zero-add, arith}, lemmas.List.{append-nil, get_or_default}, lemmas.List.FromFn.{map-range_with_len_more}}
use Rattle.std.specs.List.{range_with_len}
use Rattle.listed.proofs.Numbers.{range_more}
use Rattle.relation_fields.specs.declared.packages.PackageFacts.{PackageFacts}
use Rattle.repo_model.specs.Stanzas.{no_stanza, stanza_at}

pub same_stanza : (stanzas : List PackageFacts) (n : ℕ) (s : PackageFacts) → n < length stanzas → s ≡ get_or stanzas n s → s ≡ stanza_at stanzas n
same_stanza stanzas n s inside is = is ∙ get_or_default stanzas n s no_stanza inside
