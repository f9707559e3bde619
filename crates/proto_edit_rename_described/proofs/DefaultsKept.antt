-- A default that is one of its enum's values is one after a rename.
use Rattle.std.proofs.Common.{◌≡◌, map, sym, ap, subst, ◌∙◌, inl, inr, Contains, bytes_eq}
use Rattle.proto_base.proofs.Lists.{any_from, any_to, contains_map, from_map, same_from_word, word_from_same}
use Rattle.proto_edit_rename_described.specs.DefaultsKept.{DefaultsStayValues}

pub defaults_stay_values : DefaultsStayValues
defaults_stay_values text now values token to word after kept apart turned other is =
    let found = any_to (bytes_eq word) (map text values) is in
    let v = from_map text values found.0 found.1 in
    let same : word ≡ text v.0 = word_from_same word found.0 found.2 ∙ sym v.2 in
    let there : after ≡ now v.0 = elim (kept v.0 v.1) [
      | inl k ↦ turned (subst (Contains values) k.0 v.1) (same ∙ ap text k.0) ∙ sym k.1
      | inr k ↦ other (λ h. k.0 (apart v.0 v.1 h.0 (sym same ∙ h.1))) ∙ same ∙ sym k.1
    ] in
    any_from (bytes_eq after) (map now values) (now v.0) (contains_map now values v.0 v.1) (same_from_word after (now v.0) there)
