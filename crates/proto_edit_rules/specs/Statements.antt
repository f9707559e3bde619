-- What the edits of statements share: where a statement stands, one splice of one file, and lists
-- with one element less or more.
use Rattle.std.specs.Prelude.{ℕ, List, [], ◌∷◌, suc, ◌+◌, ◌-◌, length, ◌<◌, ◌≡◌, Some, None, Bool, if◌then◌else◌, take, drop, ◌++◌, zero}
use Rattle.proto_base.specs.Texts.{Text, text_limit, Path}
use Rattle.proto_edit_entries.specs.Entries.{ChangeOf}
use Rattle.proto_files.specs.FilesRead.{ReadOf, read_at}
use Rattle.proto_files.specs.GivenFiles.{FileOf, file_at, paths_of}
use Rattle.proto_names_rules.specs.Faults.{file_with_path}
use Rattle.proto_text.specs.Edits.{Edit, new_len, old_len}
use Rattle.proto_text.specs.Segments.{end_before, bytes_between}
use Rattle.proto_text.specs.Texts.{offset_at, words}
use Rattle.proto_text.specs.declared.lexer.Token.{Token}
use Rattle.proto_tree.specs.Flat.{Mark, flat_statement}
use Rattle.proto_tree.specs.Tree.{Tree, Leaf, Block}
use Rattle.proto_tree.specs.declared.piece.Header.{Header}
use Rattle.proto_tree.specs.declared.piece.Statement.{Statement}

-- ---- where a statement stands

-- a statement right in a list of items
pub data StandsIn (s : Statement) : Tree → Type 0 where
  First : (rest : Tree) → StandsIn s (Leaf s rest)
  AfterLeaf : (x : Statement) (rest : Tree) → StandsIn s rest → StandsIn s (Leaf x rest)
  AfterBlock : (h : Header) (i : ℕ) (within : Tree) (j : ℕ) (rest : Tree)
      → StandsIn s rest → StandsIn s (Block h i within j rest)

-- the index of the first token of some marks; 0 where there are none
abbrev pub first_index : List Mark → ℕ
first_index [] = 0
first_index (m ∷ ms) = m.at

-- the index of the last token of some marks; 0 where there are none
abbrev pub last_index : List Mark → ℕ
last_index [] = 0
last_index (m ∷ []) = m.at
last_index (m ∷ n ∷ ms) = last_index (n ∷ ms)

-- the index of the first token of a statement
abbrev pub first_token : Statement → ℕ
first_token s = first_index (flat_statement s)

-- the index of the token behind a statement
abbrev pub next_token : Statement → ℕ
next_token s = suc (last_index (flat_statement s))

-- the offset at which a statement begins
abbrev pub begins : List Token → Statement → ℕ
begins tokens s = offset_at tokens (first_token s)

-- the offset at which a statement ends, behind its `;`
abbrev pub ends : List Token → Statement → ℕ
ends tokens s = end_before tokens (next_token s)

-- replaces the text from one offset up to another
abbrev pub splice : Text → ℕ → ℕ → Text → Edit
splice text from to new = record { at = from; old = bytes_between text from to; new = new }

-- ---- one splice of one file

-- the text of a token of a file
abbrev pub word_of_token : List FileOf → List ReadOf → ℕ → ℕ → Text
word_of_token files reads file token =
    words (file_at files file).bytes (read_at reads file).tokens token

-- the change of a file by its splices; none where there are none
abbrev pub change_by : FileOf → List Edit → List ChangeOf
change_by f [] = []
change_by f (s ∷ es) = record {
  path = f.path;
  before = length f.bytes;
  after = (length f.bytes + new_len (s ∷ es)) - old_len (s ∷ es);
  splices = s ∷ es;
} ∷ []

-- its change by one splice
abbrev pub one_change : FileOf → Edit → List ChangeOf
one_change f e = change_by f (e ∷ [])

-- the length of a file with a splice
abbrev pub length_with : FileOf → Edit → ℕ
length_with f e = (length f.bytes + new_len (e ∷ [])) - old_len (e ∷ [])

-- With the splice the file would be longer than one may be.
abbrev pub IsTooLong : FileOf → Edit → Type 0
IsTooLong f e = text_limit + length e.old < length f.bytes + length e.new

-- ---- files by their paths

-- the file at this place has this path
abbrev pub IsPlaceOf : List FileOf → Path → ℕ → Type 0
IsPlaceOf files path k = file_with_path (paths_of files) path ≡ Some k

-- No file has this path.
abbrev pub IsNoFile : List FileOf → Path → Type 0
IsNoFile files path = file_with_path (paths_of files) path ≡ None

-- ---- trees by their files

-- the tree of the file at this place
abbrev pub tree_at : List ReadOf → ℕ → Tree
tree_at reads k = (read_at reads k).tree

-- ---- lists

-- how many elements stand before the first that is so
abbrev pub places_before : {A : Type 0} → (A → Bool) → List A → ℕ
places_before is_so [] = 0
places_before is_so (x ∷ xs) = if is_so x then 0 else suc (places_before is_so xs)

-- the element at a place, as a list of one, or of none past the end
abbrev pub at_place : {A : Type 0} → ℕ → List A → List A
at_place n xs = take 1 (drop n xs)

-- all elements but that
abbrev pub without_place : {A : Type 0} → ℕ → List A → List A
without_place n xs = take n xs ++ drop (suc n) xs

-- with more, at this place
abbrev pub with_more : {A : Type 0} → ℕ → List A → List A → List A
with_more n more xs = take n xs ++ (more ++ drop n xs)

-- with another element at a place
abbrev pub changed_at : {A : Type 0} → ℕ → (A → A) → List A → List A
changed_at n f [] = []
changed_at zero f (x ∷ xs) = f x ∷ xs
changed_at (suc n) f (x ∷ xs) = x ∷ changed_at n f xs
