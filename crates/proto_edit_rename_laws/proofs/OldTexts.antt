-- Each word that a rename changes is the old name (for the crates above).
use Rattle.std.proofs.Common.{◌≡◌, ℕ, Bool, true, false, ◌&&◌, if◌then◌else◌, List, flat_map, Option, Some, None, refl, sym, ap, inl, inr, Contains}
use Rattle.proto_base.proofs.Common.{list_any, Contains-append_cases, contains_cases, word_from_same}
use Rattle.proto_names_rules.proofs.Common.{target, At, name_from_same, last_parts}
use Rattle.proto_names_imports.specs.Links.{text_of, link_skeleton}
use Rattle.proto_edit_rename_laws.specs.Common.{OldTextsAreNames, means_value, renamed_defaults, type_meaning, change_at, front_of, renamed_places, same_at, standing, name_map}
use Rattle.proto_edit_rename_laws.proofs.DefaultTokens.{default_of_file}
use Rattle.proto_edit_rename_laws.proofs.Places.{from_flat_map, listed_is_there, stands_at}

pub both_hold : (a b : Bool) → (a && b) ≡ true → (a ≡ true) × (b ≡ true)
both_hold true true e = (refl, refl)
both_hold true false e = absurd cc
both_hold false b e = absurd cc

-- a word that means the value is the old one
pub old_word : (enum : Option (List (List ℕ))) (old : List ℕ) (type : Option (List (List ℕ))) (word : List ℕ) → means_value enum old type word ≡ true → word ≡ old
old_word None old type word h = absurd cc
old_word (Some e) old None word h = absurd cc
old_word (Some e) old (Some m) word h = word_from_same word old (both_hold _ _ h).1

-- the new word comes where a place is
pub changed_to : (places : List At) (to : List ℕ) (a : At) (w : List ℕ) → change_at places to a ≡ Some w → (w ≡ to) × Contains places a
changed_to places to a w h = by (list_any (same_at a) places) refl h
  where
    by : (b : Bool) → list_any (same_at a) places ≡ b → (if b then Some to else None) ≡ Some w → (w ≡ to) × Contains places a
    by true q e = (sym cc, listed_is_there a places q)
    by false q e = absurd cc

pub old_texts : OldTextsAreNames
old_texts files reads t to a w h =
    let places = renamed_places (text_of files reads) (link_skeleton files reads) (name_map files reads t to) t.token (renamed_defaults files reads t.enum (name_map files reads t to).old) in
    let c = changed_to places to a w h in
    (c.0, by c.1)
  where
    by : Contains (renamed_places (text_of files reads) (link_skeleton files reads) (name_map files reads t to) t.token (renamed_defaults files reads t.enum (name_map files reads t to).old)) a → text_of files reads a ≡ text_of files reads t.token
    by c = elim (contains_cases t.token a _ c) [
      | inl e ↦ ap (text_of files reads) (sym e)
      | inr d ↦ elim (Contains-append_cases (flat_map (standing (text_of files reads) (link_skeleton files reads) (name_map files reads t to)) (link_skeleton files reads).used) (renamed_defaults files reads t.enum (name_map files reads t to).old) a d) [
        | inl u ↦
            let u0 = from_flat_map (standing (text_of files reads) (link_skeleton files reads) (name_map files reads t to)) (link_skeleton files reads).used a u in
            let s = stands_at (name_map files reads t to) (text_of files reads) (front_of (text_of files reads) (link_skeleton files reads) u0.0) u0.0.tokens a u0.2 in
            let same = name_from_same _ (target (name_map files reads t to)) s.same in
            (last_parts _ (name_map files reads t to).parent (text_of files reads a) (name_map files reads t to).old same).1
        | inr u ↦ let d = (default_of_file files reads t.enum (name_map files reads t to).old 0 reads a u).3 in old_word t.enum (name_map files reads t to).old (type_meaning files reads a.file d.f.kind) (text_of files reads a) d.means
      ]
    ]
