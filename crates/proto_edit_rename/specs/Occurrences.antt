-- The tokens that stand for a name, file by file: those that a rename of it changes.
use Rattle.std.specs.Prelude.{◌≡◌, ℕ, ◌<◌, false, ◌==◌, if◌then◌else◌, List, [], ◌∷◌, length, Option, Some, None}
use Rattle.std.specs.Global.{Vec}
use Rattle.std.specs.List.{All, AllPairs, Contains}
use Rattle.proto_base.specs.Texts.{Text}
use Rattle.proto_files.specs.FilesRead.{ReadOf, AreRead}
use Rattle.proto_files.specs.GivenFiles.{FileOf}
use Rattle.proto_names_imports.specs.Links.{names_of_files}
use Rattle.proto_names_rules.specs.Joined.{joined}
use Rattle.proto_names_rules.specs.Names.{Symbol}
use Rattle.proto_edit_rules.specs.Rename.{Target, IsNamed, may_rename, renamed_words}
use Rattle.proto_edit_captures.specs.FoundTargets.{IsFoundTarget}
use Rattle.proto_edit_captures.specs.declared.rename_target.RenameTarget.{RenameTarget}
use Rattle.proto_edit_rename.specs.Changes.{ArePlacesIn}
use Rattle.proto_edit_rename.specs.MadeChanges.{PutsAt}
use Rattle.proto_edit_rename.specs.declared.file_occurrences.FileOccurrences.{FileOccurrences}

-- the tokens of the file among these; none where they have none of it
abbrev pub tokens_in : List FileOccurrences → ℕ → List ℕ
tokens_in [] file = []
tokens_in (o ∷ os) file = if o.file == file then o.tokens.items else tokens_in os file

-- of so many files, those with tokens that a rename of the target changes, in order, each with these
-- tokens in order: there the new word comes, whatever it is, and no other token changes
pub record AreOccurrences
    (files : List FileOf) (reads : List ReadOf) (t : Target) (count : ℕ)
    (found : List FileOccurrences) : Type 0 where
  pub in_order : AllPairs (λ o p. o.file < p.file) found
  pub within : All (λ o. o.file < count) found
  pub some : All (λ o. 0 < length o.tokens.items) found
  pub rising : All (λ o. AllPairs (λ i j. i < j) o.tokens.items) found
  pub changed : (file : ℕ) → file < count → (to : Text)
      → PutsAt (renamed_words files reads t to) file (tokens_in found file) to

-- no symbol that may be renamed has the name
abbrev pub HasNoTarget : List FileOf → Text → Type 0
HasNoTarget files name = (reads : List ReadOf)
    → AreRead files reads
    → (s : Symbol)
    → Contains (names_of_files files reads).symbols s
    → joined s.name ≡ name
    → may_rename s.kind ≡ false

-- nothing, where the name is none that may be renamed; else the tokens for what it names
abbrev pub AreOccurrencesOfName : List FileOf → Text → Option (Vec FileOccurrences) → Type 0
AreOccurrencesOfName files name None = HasNoTarget files name
AreOccurrencesOfName files name (Some found) = (reads : List ReadOf)
    → AreRead files reads
    → (t : Target)
    × IsNamed files reads name t
    × AreOccurrences files reads t (length files) found.items

-- ---- as they are found

-- the same of what was aimed at
abbrev pub AreOccurrencesOf : List FileOf → RenameTarget → ℕ → List FileOccurrences → Type 0
AreOccurrencesOf files aim count found = (reads : List ReadOf)
    → AreRead files reads
    → (t : Target)
    → IsFoundTarget files reads aim t
    → AreOccurrences files reads t count found

-- the tokens of one file, in order, or none
abbrev pub AreOccurrencesIn : List FileOf → RenameTarget → ℕ → Option FileOccurrences → Type 0
AreOccurrencesIn files aim file None = ArePlacesIn files aim file []
AreOccurrencesIn files aim file (Some o) = (o.file ≡ file)
    × (0 < length o.tokens.items)
    × AllPairs (λ i j. i < j) o.tokens.items
    × ArePlacesIn files aim file o.tokens.items
