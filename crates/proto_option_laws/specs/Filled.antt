-- The types that a value of an option may fill, by the files that declare them.
use Rattle.std.specs.List.{Contains}
use Rattle.std.specs.Prelude.{◌≡◌, ◌≢◌, ℕ, false, List, Some}
use Rattle.proto_ast.specs.Options.{is_one_of}
use Rattle.proto_base.specs.Texts.{Text}
use Rattle.proto_custom_options.specs.CustomOptions.{CustomOf, custom_words, customs_in}
use Rattle.proto_desc.specs.Checked.{described}
use Rattle.proto_descriptors.specs.Descriptors.{FieldDesc}
use Rattle.proto_edit_rules.specs.OptionViews.{IsExtensionOf, IsFilled, texts_at}
use Rattle.proto_edit_rules.specs.Options.{IsOptionWord}
use Rattle.proto_files.specs.Faults.{HasNoFault}
use Rattle.proto_files.specs.FilesRead.{AreRead, ReadOf, read_at}
use Rattle.proto_files.specs.GivenFiles.{FileOf}
use Rattle.proto_names_imports.specs.Links.{LinkFaults, link_skeleton}
use Rattle.proto_names_rules.specs.Grown.{At}
use Rattle.proto_names_rules.specs.Names.{Name}
use Rattle.proto_names_rules.specs.Skeleton.{Declared}
use Rattle.proto_names_rules.specs.declared.kind.Kind.TheVariants.{Package}
use Rattle.proto_option_laws.specs.Declared.{HasName, IsDeclaredExtension, IsReached}
use Rattle.proto_resolved.specs.SceneOf.{name_meant}

-- The file of the extension leads to the file of each type that may be filled.
abbrev pub FilledAreReached : Type 0
FilledAreReached =
    (files : List FileOf) (reads : List ReadOf)
    → AreRead files reads
    → HasNoFault (LinkFaults files)
    → (these : List Text) (extension : Name) (x : FieldDesc)
    → (d : IsDeclaredExtension files reads extension x)
    → (name : Name)
    → IsFilled these (described files reads) x name
    → IsReached files reads d.d.file name

-- So, where no word of an option may be one of these words of what such a file declares, none of
-- these is one of the option's.
abbrev pub FilledAreUnaffected : Type 0
FilledAreUnaffected =
    (files : List FileOf) (reads : List ReadOf)
    → AreRead files reads
    → HasNoFault (LinkFaults files)
    → (file : ℕ) (c : CustomOf)
    → Contains (customs_in (read_at reads file).tree) c
    → (extension : Name) (x : FieldDesc)
    → name_meant files reads file c.custom.name ≡ Some extension
    → IsExtensionOf (described files reads) extension x
    → (name : Name)
    → IsFilled (texts_at files reads file (custom_words c.custom)) (described files reads) x name
    → (d : Declared At)
    → Contains (link_skeleton files reads).declared d
    → HasName files reads d name
    → d.kind ≢ Package
    → (words : List Text)
    → ((a : At) → IsOptionWord files reads d.file words a → ⊥)
    → (w : Text)
    → Contains words w
    → is_one_of (texts_at files reads file (custom_words c.custom)) w ≡ false
