-- The first reference that a rename captures.
use Rattle.std.specs.Prelude.{◌≡◌, ℕ, ◌<◌, Bool, if◌then◌else◌, List, [], ◌∷◌, Option, Some, None}
use Rattle.std.specs.List.{Contains}
use Rattle.proto_base.specs.Texts.{Text, or_nothing}
use Rattle.proto_files.specs.Faults.{HasNoFault}
use Rattle.proto_files.specs.FilesRead.{ReadOf, AreRead}
use Rattle.proto_files.specs.GivenFiles.{FileOf}
use Rattle.proto_names_imports.specs.Links.{LinkFaults, names_of_files, text_of}
use Rattle.proto_names_outline.specs.declared.listing.Listed.{Listed}
use Rattle.proto_names_outline.specs.declared.listing.Use.{Use}
use Rattle.proto_names_rules.specs.Edits.{Collides}
use Rattle.proto_names_rules.specs.Grown.{at, used_in}
use Rattle.proto_names_rules.specs.Joined.{IsPlain, joined}
use Rattle.proto_names_rules.specs.Edits.{target}
use Rattle.proto_names_rules.specs.Skeleton.{Used}
use Rattle.proto_names_imports.specs.Links.{uses_of}
use Rattle.proto_names.specs.Linking.{LinkOf, name_text}
use Rattle.proto_names.specs.Linking.{RefId}
use Rattle.proto_names.specs.Linking.{Meant}
use Rattle.proto_edit_rules.specs.Rename.{Captures, StandsBefore, Target, IsNamed, name_map}
use Rattle.proto_edit_captures.specs.Capturing.{captures_use}
use Rattle.proto_edit_captures.specs.NewTexts.{NewTexts, texts_by}

-- nothing is captured; or this is, and nothing that stands before it
abbrev pub IsFirstCaptured : List FileOf → List ReadOf → Target → Text → Option RefId → Type 0
IsFirstCaptured files reads t to None = (u : Used _) → Captures files reads t to u → ⊥
IsFirstCaptured files reads t to (Some id) = (u : Used _)
    × Captures files reads t to u
    × (u.first ≡ at id.file id.token)
    × ((v : Used _) → Captures files reads t to v → StandsBefore v.first u.first → ⊥)

-- the same among the references of one file
abbrev pub IsFirstIn : List FileOf → List ReadOf → Target → Text → ℕ → Option ℕ → Type 0
IsFirstIn files reads t to file None = (u : Used ℕ)
    → Contains (uses_of reads file) u
    → Captures files reads t to (used_in file u)
    → ⊥
IsFirstIn files reads t to file (Some token) = (u : Used ℕ)
    × Contains (uses_of reads file) u
    × Captures files reads t to (used_in file u)
    × (u.first ≡ token)
    × ((v : Used ℕ) → Contains (uses_of reads file) v → v.first < token
    → Captures files reads t to (used_in file v) → ⊥)

-- a rename of a target that these linked files have, to a word, without collision
pub record IsRenameOf
    (files : List FileOf) (reads : List ReadOf) (t : Target) (to : Text) : Type 0 where
  pub read : AreRead files reads
  pub clean : HasNoFault (LinkFaults files)
  pub name : Text
  pub named : IsNamed files reads name t
  pub word : IsPlain to
  pub free : Collides (name_map files reads t to) (names_of_files files reads) → ⊥

-- these are its names
abbrev pub AreNewNames : List FileOf → List ReadOf → Target → Text → NewTexts → Type 0
AreNewNames files reads t to n = n ≡ texts_by (joined (target (name_map files reads t to)))
    (text_of files reads t.token) t.is_map to

-- of a reference, by what the link says that it means
abbrev pub captures_by : LinkOf → ℕ → NewTexts → (ℕ → Text) → List Listed → Use → Meant → Bool
captures_by l file n text declared u m =
    captures_use l file n text declared u (or_nothing (name_text l m.row))

-- the token of the first that passes
abbrev pub first_passing : (Use → Meant → Bool) → List Use → List Meant → Option ℕ
first_passing test [] ms = None
first_passing test (u ∷ us) [] = None
first_passing test (u ∷ us) (m ∷ ms) = if test u m then Some m.token else first_passing test us ms
