-- The name that stands at a token: the one whose rename changes the token.
use Rattle.std.specs.Prelude.{◌≡◌, ◌↔◌, ◌⊎◌, List, [], flat_map, Option, Some}
use Rattle.std.specs.List.{Contains}
use Rattle.proto_base.specs.Texts.{Text}
use Rattle.proto_files.specs.FilesRead.{AreRead, ReadOf}
use Rattle.proto_files.specs.GivenFiles.{FileOf}
use Rattle.proto_names_rules.specs.Grown.{At, at}
use Rattle.proto_names_imports.specs.Links.{link_skeleton, text_of}
use Rattle.proto_edit_rules.specs.Rename.{IsNamed, Target, name_map, renamed_defaults, renamed_words, standing}
use Rattle.proto_names_at.specs.declared.place.Place.{Place}

-- the token stands for the name: a rename of the name changes it, whatever the new word is
abbrev pub StandsFor : List FileOf → List ReadOf → At → Text → Type 0
StandsFor files reads a name = (t : Target) × IsNamed files reads name t
    × ((to : Text) → renamed_words files reads t to a ≡ Some to)

-- what is found is the one name of which this holds; nothing, where it holds of none
abbrev pub IsOnlyName : List FileOf → (List ReadOf → Text → Type 0) → Option Text → Type 0
IsOnlyName files Holds found = (reads : List ReadOf)
    → AreRead files reads
    → (name : Text)
    → (found ≡ Some name) ↔ Holds reads name

-- the name that stands at the token
abbrev pub IsNameAt : List FileOf → At → Option Text → Type 0
IsNameAt files a found = IsOnlyName files (λ reads. StandsFor files reads a) found

-- ---- the three ways to stand for a name

-- the token declares what has the name
abbrev pub DeclaresName : List FileOf → List ReadOf → At → Text → Type 0
DeclaresName files reads a name = (t : Target) × IsNamed files reads name t × (t.token ≡ a)

-- it is the word of a reference that stands for what has the name
abbrev pub RefersToName : List FileOf → List ReadOf → At → Text → Type 0
RefersToName files reads a name = (t : Target) × IsNamed files reads name t
    × Contains (flat_map (standing (text_of files reads) (link_skeleton files reads)
    (name_map files reads t [])) (link_skeleton files reads).used) a

-- it is a default that means the value of the name
abbrev pub DefaultsToName : List FileOf → List ReadOf → At → Text → Type 0
DefaultsToName files reads a name = (t : Target) × IsNamed files reads name t
    × Contains (renamed_defaults files reads t.enum (text_of files reads t.token)) a

-- it is one of these two
abbrev pub UsesName : List FileOf → List ReadOf → At → Text → Type 0
UsesName files reads a name = RefersToName files reads a name ⊎ DefaultsToName files reads a name

-- something that may be renamed has the name
abbrev pub HasTarget : List FileOf → List ReadOf → Text → Type 0
HasTarget files reads name = (t : Target) × IsNamed files reads name t

-- a token of a file
abbrev pub at_place : Place → At
at_place p = at p.file p.token
