-- The change of a file that puts a word at some of its tokens.
use Rattle.std.specs.Prelude.{◌≡◌, ℕ, ◌+◌, ◌-◌, ◌<◌, ◌≤◌, Bool, true, if◌then◌else◌, List, [], ◌∷◌, ◌++◌, map, Option, Some, None, slice_set, option_to_list}
use Rattle.std.specs.List.{Contains}
use Rattle.proto_base.specs.Texts.{Text}
use Rattle.proto_text.specs.declared.lexer.Token.{Token}
use Rattle.proto_text.specs.Edits.{Edit}
use Rattle.proto_text.specs.SourceFacts.{text_at}
use Rattle.proto_files.specs.GivenFiles.{FileOf, file_at}
use Rattle.proto_files.specs.FilesRead.{ReadOf, AreRead}
use Rattle.proto_names_rules.specs.Grown.{at}
use Rattle.proto_edit_entries.specs.Entries.{change_of}
use Rattle.proto_edit_entries.specs.declared.entry.Change.{Change}
use Rattle.proto_edit_rules.specs.Rename.{splices_in, IsRewordedTooLong, change_by, NewWords}
use Rattle.proto_edit_rename.specs.declared.changing.RewordFault.{RewordFault}
use Rattle.proto_edit_rename.specs.declared.changing.RewordFault.TheVariants.{TooLarge, NoMemory}

-- in this file the word comes at these tokens, and no other token changes
pub record PutsAt (c : NewWords) (file : ℕ) (places : List ℕ) (to : Text) : Type 0 where
  pub placed : (i : ℕ) → Contains places i → c (at file i) ≡ Some to
  pub others : (i : ℕ) → (Contains places i → ⊥) → c (at file i) ≡ None

-- what is found is the change that the new words make of the file, or none where there is none,
-- and the file does not get too long
pub record IsFileChange
    (files : List FileOf) (reads : List ReadOf) (c : NewWords) (file : ℕ) (found : Option Change)
    : Type 0 where
  pub change : map change_of (option_to_list found)
      ≡ change_by (file_at files file) (splices_in c files reads file)
  pub short : IsRewordedTooLong c files reads file → ⊥

-- the same of each reading and each change of words that puts the word at these tokens
abbrev pub IsChangeAt : List FileOf → ℕ → List ℕ → Text → Option Change → Type 0
IsChangeAt files file places to found = (reads : List ReadOf)
    → AreRead files reads
    → (c : NewWords)
    → PutsAt c file places to
    → IsFileChange files reads c file found

-- it gets too long, or memory is wanting
abbrev pub IsRewordFault : List FileOf → ℕ → List ℕ → Text → RewordFault → Type 0
IsRewordFault files file places to TooLarge = (reads : List ReadOf)
    → AreRead files reads
    → (c : NewWords)
    → PutsAt c file places to
    → IsRewordedTooLong c files reads file
IsRewordFault files file places to NoMemory = Unit {0}

-- ---- how it is made

-- with these marks set, of those that there are
abbrev pub marked_from : List Bool → List ℕ → List Bool
marked_from marks [] = marks
marked_from marks (p ∷ places) = marked_from (slice_set marks p true) places

-- the tokens that are marked
abbrev pub marked_tokens : List Token → List Bool → List Token
marked_tokens [] marks = []
marked_tokens (t ∷ ts) [] = []
marked_tokens (t ∷ ts) (m ∷ marks) = (if m then t ∷ [] else []) ++ marked_tokens ts marks

-- the word in place of a token
abbrev pub word_put : Text → Text → Token → Edit
word_put text to t = record { at = t.span.start; old = text_at text t.span; new = to }

-- Tokens from one byte on, each with a byte or more, no two over one
-- another, and none past another byte.
abbrev pub StandInOrder : ℕ → ℕ → List Token → Type 0
StandInOrder from to [] = from ≤ to
StandInOrder from to (t ∷ ts) = (from ≤ t.span.start)
    × (t.span.start < t.span.end)
    × StandInOrder t.span.end to ts

-- how many bytes tokens have
abbrev pub bytes_in : List Token → ℕ
bytes_in [] = 0
bytes_in (t ∷ ts) = (t.span.end - t.span.start) + bytes_in ts
