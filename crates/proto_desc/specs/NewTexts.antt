-- Other texts for files, each at the place of its file: as they are given, with their tokens, and
-- with their trees; and the files with them.
use Rattle.std.specs.Prelude.{ℕ, List, [], ◌∷◌, slice_set}
use Rattle.proto_desc.specs.declared.texts.GivenText.{GivenText}
use Rattle.proto_desc.specs.declared.texts.LexedText.{LexedText}
use Rattle.proto_desc.specs.declared.texts.ReadText.{ReadText}
use Rattle.proto_base.specs.Texts.{Text}
use Rattle.proto_files.specs.GivenFiles.{FileOf, file_at}
use Rattle.proto_files.specs.ReadFaults.{AreFileTokens, IsGrammarFault, IsTextFault}
use Rattle.proto_files.specs.Reading.{HasNone}
use Rattle.proto_tree.specs.File.{tree_of_file}
use Rattle.proto_tree.specs.Reads.{ReadsIn}

-- a text for the file at a place, counted from 0
pub record TextAt : Type 0 where
  pub place : ℕ
  pub text : Text

-- texts, each with its place
abbrev pub texts_at : List ℕ → List Text → List TextAt
texts_at [] texts = []
texts_at (p ∷ ps) [] = []
texts_at (p ∷ ps) (t ∷ ts) = record { place = p; text = t } ∷ texts_at ps ts

-- a text of which nothing is read yet
abbrev pub given_text : GivenText → TextAt
given_text t = record { place = t.place; text = t.bytes.items }

-- a text with its tokens
abbrev pub lexed_text : LexedText → TextAt
lexed_text t = record { place = t.place; text = t.source }

-- a text with its tree
abbrev pub read_text : ReadText → TextAt
read_text t = record { place = t.place; text = t.source }

-- the file at the place of a text, with this text, of the same language
abbrev pub file_with : List FileOf → TextAt → FileOf
file_with files t = record (file_at files t.place) { bytes = t.text }

-- the files with this text
abbrev pub with_text : List FileOf → TextAt → List FileOf
with_text files t = slice_set files t.place (file_with files t)

-- the files with these texts, one after the other
abbrev pub with_all : List FileOf → List TextAt → List FileOf
with_all files [] = files
with_all files (t ∷ ts) = with_all (with_text files t) ts

-- the files with what stood there before, the last of which is put back first
abbrev pub with_old : List TextAt → List FileOf → List FileOf
with_old [] files = files
with_old (t ∷ ts) files = with_text (with_old ts files) t

-- the tokens are those of the text in the language of its file, and it has no fault
pub record IsLexedText (files : List FileOf) (t : LexedText) : Type 0 where
  pub tokens_are : AreFileTokens (file_with files (lexed_text t)) t.tokens.items
  pub no_fault : HasNone IsTextFault (file_with files (lexed_text t))

-- the tokens are those of the text, and spell the tree in the language of its file
abbrev pub IsReadText : List FileOf → ReadText → Type 0
IsReadText files t =
    ReadsIn (file_at files t.place).profile t.source t.tokens.items (tree_of_file t.tree)

-- so they are, and the text has no fault of the grammar
pub record IsParsedText (files : List FileOf) (t : ReadText) : Type 0 where
  pub reads : IsReadText files t
  pub no_fault : HasNone IsGrammarFault (file_with files (read_text t))
