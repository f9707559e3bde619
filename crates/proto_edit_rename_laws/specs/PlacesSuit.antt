-- The new word suits each place where a rename puts it.
use Rattle.std.specs.Prelude.{◌≡◌, true, List}
use Rattle.proto_base.specs.Texts.{Text}
use Rattle.proto_text.specs.declared.class.Class.TheVariants.{Letter}
use Rattle.proto_text.specs.Pieces.{IsRun}
use Rattle.proto_files.specs.GivenFiles.{FileOf}
use Rattle.proto_files.specs.FilesRead.{ReadOf}
use Rattle.proto_names_rules.specs.Linked.{IsLinked}
use Rattle.proto_names_imports.specs.Links.{names_of_files}
use Rattle.proto_edit_rules.specs.Rename.{is_keyword_of, Target, IsNamed, renamed_words}
use Rattle.proto_edit_rename_laws.specs.Rewording.{SuitFiles}
use Rattle.proto_edit_rename_laws.specs.Roles.{HasWants}

-- a word that is none of the keywords that its kind may not have
abbrev pub PlacesSuit : Type 0
PlacesSuit = (files : List FileOf) (reads : List ReadOf) (name to : Text) (t : Target)
    → IsLinked (names_of_files files reads)
    → IsNamed files reads name t
    → HasWants files reads t to
    → IsRun Letter to
    → (is_keyword_of t.aim.kind to ≡ true → ⊥)
    → SuitFiles (renamed_words files reads t to) reads
