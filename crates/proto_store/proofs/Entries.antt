-- The entries of a map from paths to bytes, as files.
use Rattle.std.proofs.Common.{◌≡◌, ℕ, Bool, true, false, cond, List, [], ◌∷◌, ◌++◌, map, None, Some, refl, sym, ap, ◌∙◌, reverse, String, option_map, Global, string_bytes, string_cmp, nat_cmp, bytes_eq, BTreeMap}
use Rattle.proto_base.proofs.Common.{Vec, AllByRecursion, IsStrictlySortedBy, slice_cmp, lookup, set_value, UpdatesBy, get_by_text, is_at, Less, btree_map_updates_text, is_eq-slice_cmp, map-append, reverse-append, All-map, AreInLanguage, FileOf, file_of_as, files_of_as, paths_of}
use Rattle.proto_store.specs.Common.{AreInPathOrder, bytes_at, with_bytes, files_in}
use Rattle.proto_store.proofs.PathOrder.{same_text}
use Rattle.proto_store.proofs.Replaced.{with_bytes-absent}
use Rattle.proto_base.specs.declared.profile.Profile.{Profile}

-- of either language
module _ (p : Profile) where
  above_each : (key : String Global) (entries : List (String Global × Vec ℕ))
      → AllByRecursion (λ k. string_cmp key k ≡ Less) (map (λ e. e.0) entries)
      → AllByRecursion (λ q. slice_cmp nat_cmp (string_bytes key) q ≡ Less) (paths_of (files_of_as p entries))
  above_each key [] h = tt
  above_each key (e ∷ entries) h = (h.0, above_each key entries h.1)

  -- entries in the order of their keys are files in path order
  pub entries_in_order : (entries : List (String Global × Vec ℕ)) → IsStrictlySortedBy string_cmp (map (λ e. e.0) entries) → AreInPathOrder (files_of_as p entries)
  unfolding IsStrictlySortedBy
  entries_in_order [] h = tt
  entries_in_order (e ∷ entries) h = (above_each e.0 entries h.0, entries_in_order entries h.1)

  pub paths_of_keys : (entries : List (String Global × Vec ℕ)) → paths_of (files_of_as p entries) ≡ map string_bytes (map (λ e. e.0) entries)
  paths_of_keys [] = refl
  paths_of_keys (e ∷ entries) = ap (λ l. string_bytes e.0 ∷ l) (paths_of_keys entries)

  -- a look-up by the bytes of a key finds what stands at that path
  pub bytes_of_lookup : (path : List ℕ) (entries : List (String Global × Vec ℕ))
      → bytes_at path (files_of_as p entries) ≡ option_map (λ v. v.items) (lookup (is_at (λ k. slice_cmp nat_cmp path (string_bytes k))) entries)
  bytes_of_lookup path [] = refl
  bytes_of_lookup path (e ∷ entries) =
      ap (λ b. cond b (Some e.1.items) (bytes_at path (files_of_as p entries))) (sym (is_eq-slice_cmp path (string_bytes e.0)))
      ∙ go (bytes_of_lookup path entries) (is_at (λ k. slice_cmp nat_cmp path (string_bytes k)) e.0)
    where
      go : bytes_at path (files_of_as p entries) ≡ option_map (λ v. v.items) (lookup (is_at (λ k. slice_cmp nat_cmp path (string_bytes k))) entries)
          → (b : Bool) → cond b (Some e.1.items) (bytes_at path (files_of_as p entries)) ≡ option_map (λ v. v.items) (cond b (Some e.1) (lookup (is_at (λ k. slice_cmp nat_cmp path (string_bytes k))) entries))
      go others true = refl
      go others false = others

  -- after an insertion the path has the new bytes, and each other path what it had
  pub bytes_after_insert : (path : List ℕ) (key : String Global) (value : Vec ℕ) (old new : BTreeMap (String Global) (Vec ℕ))
      → UpdatesBy string_cmp (string_cmp key) old new (Some value)
      → bytes_at path (files_in p new) ≡ cond (bytes_eq path (string_bytes key)) (Some value.items) (bytes_at path (files_in p old))
  bytes_after_insert path key value old new updates =
      bytes_of_lookup path new.entries
      ∙ ap (option_map (λ v. v.items)) (btree_map_updates_text (string_bytes key) old new (Some value) updates path)
      ∙ ap (λ b. option_map (λ v. v.items) (cond b (Some value) (get_by_text old path))) (same_text (string_bytes key) path)
      ∙ go (bytes_eq path (string_bytes key))
    where
      go : (b : Bool) → option_map (λ v. v.items) (cond b (Some value) (get_by_text old path)) ≡ cond b (Some value.items) (bytes_at path (files_in p old))
      go true = refl
      go false = sym (bytes_of_lookup path old.entries)

  -- the latest file of a list comes first in its reverse
  pub latest : (path : List ℕ) (entries : List (String Global × Vec ℕ)) (entry : String Global × Vec ℕ)
      → bytes_at path (reverse (files_of_as p (entries ++ entry ∷ []))) ≡ cond (bytes_eq path (string_bytes entry.0)) (Some entry.1.items) (bytes_at path (reverse (files_of_as p entries)))
  latest path entries entry =
      ap (λ l. bytes_at path (reverse l)) (map-append (file_of_as p) entries (entry ∷ []))
      ∙ ap (bytes_at path) (reverse-append (files_of_as p entries) (file_of_as p entry ∷ []))

  -- what is set by the bytes of a key is what is put at that path
  pub files_after_set : (path : List ℕ) (value : Vec ℕ) (entries : List (String Global × Vec ℕ))
      → files_of_as p (set_value (is_at (λ k. slice_cmp nat_cmp path (string_bytes k))) entries value) ≡ with_bytes path value.items (files_of_as p entries)
  files_after_set path value [] = refl
  files_after_set path value (e ∷ entries) =
      go (files_after_set path value entries) (is_at (λ k. slice_cmp nat_cmp path (string_bytes k)) e.0)
      ∙ ap (λ b. cond b (record { path = string_bytes e.0; bytes = value.items; profile = p } ∷ files_of_as p entries) (file_of_as p e ∷ with_bytes path value.items (files_of_as p entries)))
      (is_eq-slice_cmp path (string_bytes e.0))
    where
      go : files_of_as p (set_value (is_at (λ k. slice_cmp nat_cmp path (string_bytes k))) entries value) ≡ with_bytes path value.items (files_of_as p entries)
          → (b : Bool) → files_of_as p (cond b ((e.0, value) ∷ entries) (e ∷ set_value (is_at (λ k. slice_cmp nat_cmp path (string_bytes k))) entries value))
          ≡ cond b (record { path = string_bytes e.0; bytes = value.items; profile = p } ∷ files_of_as p entries) (file_of_as p e ∷ with_bytes path value.items (files_of_as p entries))
      go others true = refl
      go others false = ap (λ l. file_of_as p e ∷ l) others

  -- a key that is not found changes no file
  pub files_without : (path bytes : List ℕ) (entries : List (String Global × Vec ℕ)) → lookup (is_at (λ k. slice_cmp nat_cmp path (string_bytes k))) entries ≡ None
      → files_of_as p entries ≡ with_bytes path bytes (files_of_as p entries)
  files_without path bytes entries none = sym (with_bytes-absent path bytes (files_of_as p entries) (bytes_of_lookup path entries ∙ ap (option_map (λ v. v.items)) none))

  -- what is given in a language is of it
  pub given_in : (entries : List (String Global × Vec ℕ)) → AreInLanguage p (files_of_as p entries)
  given_in entries = All-map (λ (f : FileOf). f.profile ≡ p) (file_of_as p) entries (λ k d l. refl)
