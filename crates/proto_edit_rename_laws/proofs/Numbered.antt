-- The defaults of files that are walked by their numbers, and what a type means by the first token of its reference.
use Rattle.std.proofs.Common.{◌≡◌, ℕ, suc, Option, List, [], ◌∷◌, ◌++◌, flat_map, map, refl}
use Rattle.proto_tree.specs.References.{first_of}
use Rattle.proto_tree.specs.declared.tree.Reference.{Reference}
use Rattle.proto_files.specs.FilesRead.{ReadOf}
use Rattle.proto_files.specs.GivenFiles.{FileOf}
use Rattle.proto_names_rules.specs.Grown.{at}
use Rattle.proto_resolved.specs.SceneOf.{name_meant}
use Rattle.proto_edit_rules.specs.Rename.{defaults_from, fields_of_file, meaning_from, renamed_default, renamed_defaults}

module _ (files : List FileOf) (reads : List ReadOf) (enum : Option (List (List ℕ))) (old : List ℕ) where
  defaults_in_all : renamed_defaults files reads enum old ≡ defaults_from files reads enum old 0 reads
  defaults_in_all = refl

  no_defaults : (n : ℕ) → defaults_from files reads enum old n [] ≡ []
  no_defaults n = refl

  defaults_by_first : (n : ℕ) (r : ReadOf) (rs : List ReadOf)
      → defaults_from files reads enum old n (r ∷ rs) ≡ map (at n) (flat_map (renamed_default files reads enum old n) (fields_of_file r.tree)) ++ defaults_from files reads enum old (suc n) rs
  defaults_by_first n r rs = refl

meant_by_first : (files : List FileOf) (reads : List ReadOf) (file : ℕ) (r : Reference) → name_meant files reads file r ≡ meaning_from files reads file (first_of r.dot r.words)
meant_by_first files reads file r = refl
