-- The names of a renamed scene are the old ones, turned below what they stand in, and each
-- reference means what it meant, under the name map.
use Rattle.std.specs.Prelude.{◌≡◌, ℕ, ◌<◌, Bool, List, length, None}
use Rattle.std.specs.List.{Contains}
use Rattle.proto_base.specs.Texts.{Text}
use Rattle.proto_case.specs.Camel.{entry_name}
use Rattle.proto_tree.specs.declared.tree.Reference.{Reference}
use Rattle.proto_files.specs.GivenFiles.{FileOf}
use Rattle.proto_files.specs.FilesRead.{ReadOf, read_at}
use Rattle.proto_names_rules.specs.Grown.{At}
use Rattle.proto_names_rules.specs.Skeleton.{Source, Declared, spell, name_of, renaming_of}
use Rattle.proto_names_rules.specs.Tree.{Placed, file_placed}
use Rattle.proto_names_outline.specs.FromTree.{items_in}
use Rattle.proto_names_imports.specs.Links.{text_of}
use Rattle.proto_ast.specs.Scenes.{text, meant_by}
use Rattle.proto_edit_rename_laws.specs.SceneOf.{scene_of}
use Rattle.proto_edit_rename_laws.specs.Scenes.{IsRename}
use Rattle.proto_edit_rules.specs.Rename.{NewWords, word_under}
use Rattle.proto_edit_rename_described.specs.Turns.{IsUnder}

-- the last word of each declared name is turned below the rest
abbrev pub NamesTurn : Type 0
NamesTurn =
    (files : List FileOf) (reads : List ReadOf) (c : NewWords) (after : List FileOf)
    (seen : List ReadOf) (token : At) (above : List (Source At)) (aim : Declared At) (is_map : Bool)
    (to : Text)
    → IsRename files reads c after seen token above aim is_map to
    → (file : ℕ)
    → file < length files
    → (p : Placed)
    → Contains (file_placed (items_in (read_at reads file).tree)) p
    → spell (text (scene_of None after seen file)) entry_name p.last
    ≡ word_under (renaming_of (text_of files reads) entry_name token above is_map to)
    (name_of (text (scene_of None files reads file)) entry_name p.above)
    (spell (text (scene_of None files reads file)) entry_name p.last)

-- each reference means what it meant, under the name map
abbrev pub MeaningsTurn : Type 0
MeaningsTurn =
    (files : List FileOf) (reads : List ReadOf) (c : NewWords) (after : List FileOf)
    (seen : List ReadOf) (token : At) (above : List (Source At)) (aim : Declared At) (is_map : Bool)
    (to : Text)
    → IsRename files reads c after seen token above aim is_map to
    → (file : ℕ)
    → file < length files
    → (r : Reference)
    → IsUnder (renaming_of (text_of files reads) entry_name token above is_map to)
    (meant_by (scene_of None files reads file) r) (meant_by (scene_of None after seen file) r)
