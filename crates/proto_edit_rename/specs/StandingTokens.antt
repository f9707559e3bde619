-- The tokens of a file's references that stand for what a rename aims at.
use Rattle.std.specs.Prelude.{◌↔◌, ℕ, ◌+◌, Bool, ◌||◌, ◌==◌, if◌then◌else◌, List, [], ◌∷◌, ◌++◌, length, flat_map, Option, Some, None, is_some, option_to_list}
use Rattle.std.specs.List.{Contains}
use Rattle.std.specs.Option.{option_and_then}
use Rattle.proto_base.specs.Ascii as ascii
use Rattle.proto_base.specs.Texts.{Text}
use Rattle.proto_tree.specs.References.{dotted}
use Rattle.proto_files.specs.GivenFiles.{FileOf}
use Rattle.proto_files.specs.FilesRead.{ReadOf, AreRead}
use Rattle.proto_names_outline.specs.declared.listing.Use.{Use}
use Rattle.proto_names_rules.specs.declared.kind.Kind.{Kind}
use Rattle.proto_names_rules.specs.Grown.{at}
use Rattle.proto_names_rules.specs.Names.{is_extension, is_outer}
use Rattle.proto_names_imports.specs.Links.{text_of, link_skeleton}
use Rattle.proto_names.specs.Linking.{LinkOf, name_text}
use Rattle.proto_names.specs.Linking.{Meant}
use Rattle.proto_edit_rules.specs.Rename.{standing, Target, name_map}
use Rattle.proto_edit_captures.specs.FoundTargets.{IsFoundTarget}
use Rattle.proto_edit_captures.specs.declared.rename_target.RenameTarget.{RenameTarget}

-- These tokens of the file, and no others of it, stand for the target in
-- references, whatever its new name is.
abbrev pub IsStandingIn : List FileOf → RenameTarget → ℕ → List ℕ → Type 0
IsStandingIn files aim file found = (reads : List ReadOf)
    → AreRead files reads
    → (t : Target)
    → IsFoundTarget files reads aim t
    → (to : Text) (i : ℕ)
    → Contains found i
    ↔ Contains (flat_map (standing (text_of files reads) (link_skeleton files reads)
    (name_map files reads t to)) (link_skeleton files reads).used) (at file i)

-- a reference may mean a symbol of this kind, or what stands in it
abbrev pub may_be_referred : Kind → Bool
may_be_referred kind = is_outer kind || is_extension kind

-- ---- full names by their texts

-- how many points a text has
abbrev pub points : Text → ℕ
points [] = 0
points (b ∷ rest) = if b == ascii.dot then 1 + points rest else points rest

-- what stands behind a front in a text; none where the text begins otherwise
abbrev pub behind : Text → Text → Option Text
behind [] text = Some text
behind (c ∷ front) [] = None
behind (c ∷ front) (b ∷ text) = if b == c then behind front text else None

-- how many words stand behind a name: a point before each; none
-- where its last word only begins here
abbrev pub words_in : Text → Option ℕ
words_in [] = Some 0
words_in (b ∷ rest) = if b == ascii.dot then Some (points (b ∷ rest)) else None

-- how many words a name has behind this front; none where it is not
-- the front and does not go on from it
abbrev pub words_behind : Text → Text → Option ℕ
words_behind front name = option_and_then words_in (behind front name)

-- how many words the name in this row of a link has behind this one
abbrev pub words_after : LinkOf → Text → ℕ → Option ℕ
words_after l name row = option_and_then (words_behind name) (name_text l row)

-- the name in this row is this one, or goes on from it
abbrev pub goes_on : LinkOf → Text → ℕ → Bool
goes_on l name row = is_some (words_after l name row)

-- ---- tokens by the words behind them

-- the element with so many behind it
abbrev pub from_end : ℕ → List ℕ → Option ℕ
from_end n [] = None
from_end n (t ∷ ts) = if length ts == n then Some t else from_end n ts

-- the word of a reference that stands for the name, where the reference means what has this text
abbrev pub counted : Text → List ℕ → Option Text → Option ℕ
counted name tokens text =
    option_and_then (λ n. from_end n tokens) (option_and_then (words_behind name) text)

-- those of many references, one by one with what they mean
abbrev pub standing_tokens : LinkOf → Text → List Use → List Meant → List ℕ
standing_tokens l name [] ms = []
standing_tokens l name (u ∷ us) [] = []
standing_tokens l name (u ∷ us) (m ∷ ms) = option_to_list
    (counted name (dotted u.reference.now.words) (name_text l m.row))
    ++ standing_tokens l name us ms
