-- What a rename leaves of custom options: no token of a path or of a value gets a new word.
use Rattle.std.specs.List.{Contains}
use Rattle.std.specs.Prelude.{◌≡◌, ℕ, List, None}
use Rattle.proto_base.specs.Texts.{Text}
use Rattle.proto_custom_options.specs.CustomOptions.{CustomOf, custom_tokens, customs_in}
use Rattle.proto_files.specs.Faults.{HasNoFault}
use Rattle.proto_files.specs.FilesRead.{ReadOf, AreRead, read_at}
use Rattle.proto_files.specs.GivenFiles.{FileOf}
use Rattle.proto_names_imports.specs.Links.{LinkFaults}
use Rattle.proto_names_rules.specs.Grown.{at}
use Rattle.proto_edit_rules.specs.OptionViews.{texts_at}
use Rattle.proto_edit_rules.specs.Rename.{IsNamed, Target, renamed_words}
use Rattle.proto_edit_rename_laws.specs.Rewording.{AreReworded}

-- A token of the path or of the value of an option is not changed.
abbrev pub OptionTokensStay : Type 0
OptionTokensStay = (files : List FileOf) (reads : List ReadOf) (name to : Text) (t : Target)
    → AreRead files reads
    → HasNoFault (LinkFaults files)
    → IsNamed files reads name t
    → (file : ℕ) (c : CustomOf) (i : ℕ)
    → Contains (customs_in (read_at reads file).tree) c
    → Contains (custom_tokens c.custom) i
    → renamed_words files reads t to (at file i) ≡ None

-- So an option of the files afterwards is one of the files before, with the same texts.
abbrev pub OptionTextsStay : Type 0
OptionTextsStay =
    (files : List FileOf) (reads : List ReadOf) (name to : Text) (t : Target)
    (after : List FileOf) (seen : List ReadOf)
    → AreRead files reads
    → HasNoFault (LinkFaults files)
    → IsNamed files reads name t
    → AreReworded (renamed_words files reads t to) files reads after seen
    → (file : ℕ) (c : CustomOf)
    → Contains (customs_in (read_at seen file).tree) c
    → Contains (customs_in (read_at reads file).tree) c
    × (texts_at after seen file (custom_tokens c.custom)
    ≡ texts_at files reads file (custom_tokens c.custom))
