-- A default of an enum's field is one of the enum's values after a rename.
use Rattle.std.specs.Prelude.{◌≡◌, ℕ, ◌<◌, true, List, if◌then◌else◌, length, Some, None}
use Rattle.proto_base.specs.Texts.{Text}
use Rattle.proto_tree.specs.declared.tree.Reference.{Reference}
use Rattle.proto_tree.specs.References.{first_of}
use Rattle.proto_files.specs.GivenFiles.{FileOf}
use Rattle.proto_files.specs.FilesRead.{ReadOf}
use Rattle.proto_names_rules.specs.Grown.{at}
use Rattle.proto_names_imports.specs.Links.{text_of}
use Rattle.proto_ast.specs.Scenes.{enum_meant}
use Rattle.proto_desc_checks.specs.FieldFlaws.{is_value_of}
use Rattle.proto_edit_rename_laws.specs.SceneOf.{scene_of}
use Rattle.proto_edit_rules.specs.Rename.{means_value, meaning_from, Target, renamed_words}
use Rattle.proto_edit_rename_laws.specs.Rewording.{AreReworded}
use Rattle.proto_edit_rename_described.specs.Allowed.{IsAllowedRename}

-- The word of the default, changed where it means the value, is a value of the enum
-- afterwards where it was one before.
abbrev pub EnumDefaultsFit : Type 0
EnumDefaultsFit =
    (files : List FileOf) (reads : List ReadOf) (name to : Text) (t : Target)
    (after : List FileOf) (seen : List ReadOf)
    → IsAllowedRename files reads name to t
    → AreReworded (renamed_words files reads t to) files reads after seen
    → (file w : ℕ) (r : Reference)
    → file < length files
    → text_of after seen (at file w) ≡
    (if means_value t.enum (text_of files reads t.token)
    (meaning_from files reads file (first_of r.dot r.words)) (text_of files reads (at file w))
    then to
    else text_of files reads (at file w))
    → is_value_of (enum_meant (scene_of None files reads file) r)
    (Some (text_of files reads (at file w))) ≡ true
    → is_value_of (enum_meant (scene_of None after seen file) r)
    (Some (text_of after seen (at file w))) ≡ true
