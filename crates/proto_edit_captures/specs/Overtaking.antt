-- The first reference of a file that is overtaken where the file sees more: by the
-- names of the workspace, and by texts.
use Rattle.std.specs.Prelude.{◌≡◌, ◌↔◌, ℕ, ◌-◌, ◌<◌, length, Bool, true, false, not, ◌&&◌, if◌then◌else◌, List, [], ◌∷◌, map, get_or, Option, Some, None, is_some, slice_index_or}
use Rattle.std.specs.List.{Contains}
use Rattle.proto_base.specs.Texts.{Text, or_nothing}
use Rattle.proto_case.specs.Camel.{entry_name}
use Rattle.proto_files.specs.FilesRead.{ReadOf, AreRead, read_at}
use Rattle.proto_files.specs.GivenFiles.{FileOf}
use Rattle.proto_names_imports.specs.Links.{names_of_files, text_of}
use Rattle.proto_names_outline.specs.FromTree.{items_in}
use Rattle.proto_names_outline.specs.Listing.{path_at, read}
use Rattle.proto_names_outline.specs.declared.listing.Listed.{Listed}
use Rattle.proto_names_outline.specs.declared.listing.Use.{Use}
use Rattle.proto_names_rules.specs.Edits.{IsOvertaken, with_imports}
use Rattle.proto_names_rules.specs.Forest.{under}
use Rattle.proto_names_rules.specs.Grown.{at}
use Rattle.proto_names_rules.specs.Linked.{is_package}
use Rattle.proto_names_rules.specs.Marks.{MarksSeen}
use Rattle.proto_names_rules.specs.Names.{Workspace}
use Rattle.proto_names_rules.specs.declared.wants.Wants.{Wants}
use Rattle.proto_names_rules.specs.Skeleton.{Used, name_of}
use Rattle.proto_names_rules.specs.Tree.{package_of}
use Rattle.proto_names_imports.specs.Links.{uses_of}
use Rattle.proto_names.specs.Linking.{LinkOf, NameOf, name_with, name_text}
use Rattle.proto_names.specs.Linking.{Meant}
use Rattle.proto_names_imports.specs.Links.{used_named}
use Rattle.proto_edit_captures.specs.Capturing.{bytes_before, fit_of, shown_from}
use Rattle.proto_names_rules.specs.Joined.{below}
use Rattle.proto_edit_captures.specs.ShownTexts.{first_fits}
use Rattle.proto_edit_captures.specs.declared.scope.Fit.{Fit}

-- ---- by names

-- a reference of the file that has a hit deeper among other imports
abbrev pub Overtakes : List FileOf → List ReadOf → Workspace → ℕ → Used ℕ → Type 0
Overtakes files reads v file u = Contains (uses_of reads file) u
    × IsOvertaken (names_of_files files reads) v (used_named (text_of files reads) file u)

-- no reference of the file is overtaken; or this is, by its first
-- token, and none that stands before it
abbrev pub IsFirstOvertaken : List FileOf → List ReadOf → Workspace → ℕ → Option ℕ → Type 0
IsFirstOvertaken files reads v file None = (u : Used ℕ) → Overtakes files reads v file u → ⊥
IsFirstOvertaken files reads v file (Some token) = (u : Used ℕ)
    × Overtakes files reads v file u
    × (u.first ≡ token)
    × ((x : Used ℕ) → Overtakes files reads v file x → x.first < token → ⊥)

-- the names with other imports, by which the file sees what is marked
pub record SeesMarked
    (files : List FileOf) (reads : List ReadOf) (v : Workspace) (file : ℕ) (marks : List Bool)
    : Type 0 where
  pub imports : v ≡ with_imports (names_of_files files reads) v.imports
  pub seen : MarksSeen v file marks

-- ---- by texts

-- whether the file at this place is marked
abbrev pub is_marked : List Bool → ℕ → Bool
is_marked marks file = slice_index_or marks file false

-- the fronts that go on from this one, as text
abbrev pub fronts_from : Text → List Text → List Text
fronts_from front [] = []
fronts_from front (w ∷ ws) = under front w ∷ fronts_from (under front w) ws

-- the package of a file with its fronts, as text
abbrev pub package_texts : List FileOf → List ReadOf → ℕ → List Text
package_texts files reads file = fronts_from []
    (map (λ i. text_of files reads (at file i)) (package_of (items_in (read_at reads file).tree)))

-- it is the package of a marked file, or a front of that
abbrev pub IsPackageSeen : List FileOf → List ReadOf → List Bool → Text → Type 0
IsPackageSeen files reads marks text = (file : ℕ)
    × (file < length files)
    × (is_marked marks file ≡ true)
    × Contains (package_texts files reads file) text

-- a test for packages that are seen
abbrev pub TellsPackages : List FileOf → List Bool → (Text → Bool) → Type 0
TellsPackages files marks packages = (reads : List ReadOf)
    → AreRead files reads
    → (text : Text)
    → (packages text ≡ true) ↔ IsPackageSeen files reads marks text

-- the name's file is marked, or it is a package that is seen
abbrev pub sees_name : List Bool → (Text → Bool) → NameOf → Bool
sees_name marks packages n =
    if is_package n.kind then packages n.text else is_marked marks (get_or n.files 0 0)

-- whether a name is there, of a kind that fits a first word, and is seen
abbrev pub fits_seen : List Bool → (Text → Bool) → Fit → Option NameOf → Bool
fits_seen marks packages fit None = false
fits_seen marks packages fit (Some n) = first_fits fit n.kind && sees_name marks packages n

-- a name with this text fits, and is seen
abbrev pub sees_text : LinkOf → List Bool → (Text → Bool) → Fit → Text → Bool
sees_text l marks packages fit text =
    fits_seen marks packages fit (name_with l text)

-- in a front of the scope that is longer than that of the hit, something that fits by what the
-- reference wants is seen under the first word
abbrev pub overtakes_words : LinkOf → List Bool → (Text → Bool) → Wants → List Text → Text
    → List Text → Text → Bool
overtakes_words l marks packages what scope first rest meaning =
    shown_from (λ front. sees_text l marks packages (fit_of what rest) (below front first))
    (bytes_before (length meaning) rest - length first) [] scope

-- of a reference of a file, in its scope among what the file declares
abbrev pub overtakes_use : LinkOf → List Bool → (Text → Bool) → (ℕ → Text) → List Listed → Use
    → Text → Bool
overtakes_use l marks packages text declared u meaning = not (is_some u.reference.now.dot)
    && overtakes_words l marks packages u.wants
    (name_of text entry_name (path_at (read declared) u.scope))
    (text u.reference.now.words.first) (map (λ b. text b.item) u.reference.now.words.rest) meaning

-- by what the link says that it means
abbrev pub overtakes_by : LinkOf → List Bool → (Text → Bool) → (ℕ → Text) → List Listed → Use
    → Meant → Bool
overtakes_by l marks packages text declared u m =
    overtakes_use l marks packages text declared u (or_nothing (name_text l m.row))
