-- What is not changed of a field, or of an extension, whose default is a number or a truth value.
use Rattle.std.specs.Prelude.{◌≡◌, ℕ, ◌<◌, List, length, Some, None}
use Rattle.std.specs.List.{Contains}
use Rattle.proto_base.specs.Texts.{Text}
use Rattle.proto_tree.specs.declared.tree.FieldType.TheVariants as field_type
use Rattle.proto_files.specs.GivenFiles.{FileOf}
use Rattle.proto_files.specs.FilesRead.{ReadOf, read_at}
use Rattle.proto_names_rules.specs.Grown.{At, at}
use Rattle.proto_names_imports.specs.Links.{link_skeleton}
use Rattle.proto_ast.specs.Parts.{BlockOf, FieldOf, blocks_in}
use Rattle.proto_edit_rules.specs.Rename.{fields_of_block, renamed_defaults, Target, name_map, renamed_words}
use Rattle.proto_edit_rename_laws.specs.Places.{Names, Uses}
use Rattle.proto_edit_rename_described.specs.Allowed.{IsAllowedRename}

-- Labels and scalar types of messages' fields and of extensions are not changed.
abbrev pub LabelsAndScalarsStay : Type 0
LabelsAndScalarsStay = (files : List FileOf) (reads : List ReadOf) (name to : Text) (t : Target)
    → IsAllowedRename files reads name to t
    → (file : ℕ) (b : BlockOf) (f : FieldOf)
    → file < length files
    → Contains (blocks_in (read_at reads file).tree) b
    → Contains (fields_of_block b.header b.within) f
    → ((i : ℕ) → f.label ≡ Some i → renamed_words files reads t to (at file i) ≡ None)
    × ((i : ℕ) → f.kind ≡ field_type.Scalar i → renamed_words files reads t to (at file i) ≡ None)

-- A token that is no name, no word of a reference and no default of the value's is not changed.
abbrev pub OtherTokensStay : Type 0
OtherTokensStay = (files : List FileOf) (reads : List ReadOf) (name to : Text) (t : Target)
    → IsAllowedRename files reads name to t
    → (i : At)
    → (Names (link_skeleton files reads) i → ⊥)
    → (Uses (link_skeleton files reads) i → ⊥)
    → (Contains (renamed_defaults files reads t.enum (name_map files reads t to).old) i → ⊥)
    → renamed_words files reads t to i ≡ None
