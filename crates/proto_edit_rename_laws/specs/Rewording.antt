-- Other words at tokens of many files: the files with them, and what is read of these.
use Rattle.std.specs.Prelude.{◌≡◌, ℕ, ◌<◌, List, length, map, None}
use Rattle.proto_text.specs.Texts.{IsReworded, or_word}
use Rattle.proto_tree.specs.Laws.{Suits, PutsWords}
use Rattle.proto_tree.specs.Tree.{flat}
use Rattle.proto_files.specs.GivenFiles.{FileOf, file_at, paths_of}
use Rattle.proto_files.specs.FilesRead.{ReadOf, AreRead, read_at}
use Rattle.proto_names_rules.specs.Grown.{At}
use Rattle.proto_names_imports.specs.Links.{text_of, link_skeleton}
use Rattle.proto_edit_rules.specs.Rename.{NewWords, words_of_file}

-- each new word is one that its place wants
abbrev pub SuitFiles : NewWords → List ReadOf → Type 0
SuitFiles c reads = (k : ℕ)
    → k < length reads
    → Suits (words_of_file c k) (flat (read_at reads k).tree) × PutsWords (words_of_file c k)

-- the files with the new words: each has its path and its language, the words changed, and the very
-- same tree
pub record AreReworded
    (c : NewWords) (files : List FileOf) (reads : List ReadOf) (after : List FileOf)
    (seen : List ReadOf) : Type 0 where
  pub paths : paths_of after ≡ paths_of files
  pub profiles : map (λ f. f.profile) after ≡ map (λ f. f.profile) files
  pub trees : map (λ r. r.tree) seen ≡ map (λ r. r.tree) reads
  pub words : (k : ℕ)
      → k < length files
      → IsReworded (file_at files k).bytes (read_at reads k).tokens (words_of_file c k)
      (file_at after k).bytes (read_at seen k).tokens
  pub read : AreRead after seen

-- Words that suit their places can be put, in all files.
abbrev pub FilesAreReworded : Type 0
FilesAreReworded = (c : NewWords) (files : List FileOf) (reads : List ReadOf)
    → AreRead files reads
    → SuitFiles c reads
    → (after : List FileOf) × (seen : List ReadOf) × AreReworded c files reads after seen

-- The texts are the old ones but for the change.
abbrev pub TextsAreChanged : Type 0
TextsAreChanged =
    (c : NewWords) (files : List FileOf) (reads : List ReadOf) (after : List FileOf)
    (seen : List ReadOf)
    → AreRead files reads
    → AreReworded c files reads after seen
    → (a : At)
    → a.file < length files
    → a.token < length (read_at reads a.file).tokens
    → text_of after seen a ≡ or_word (c a) (text_of files reads a)

-- A token that is not changed has its text, also where it is none of the file's.
abbrev pub OtherTextsStay : Type 0
OtherTextsStay =
    (c : NewWords) (files : List FileOf) (reads : List ReadOf) (after : List FileOf)
    (seen : List ReadOf)
    → AreRead files reads
    → AreReworded c files reads after seen
    → (a : At)
    → a.file < length files
    → c a ≡ None
    → text_of after seen a ≡ text_of files reads a

-- What the files declare, import and use is the same.
abbrev pub SkeletonsStay : Type 0
SkeletonsStay =
    (c : NewWords) (files : List FileOf) (reads : List ReadOf) (after : List FileOf)
    (seen : List ReadOf)
    → AreRead files reads
    → SuitFiles c reads
    → AreReworded c files reads after seen
    → link_skeleton after seen ≡ link_skeleton files reads
