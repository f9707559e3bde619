-- What is read of the files: their heads.
use Rattle.std.specs.Prelude.{◌≡◌, ℕ, suc, Bool, true, false, List, [], ◌∷◌, ◌++◌, codes}
use Rattle.proto_base.specs.Texts.{Path, Text}
use Rattle.proto_text.specs.declared.lexer.Token.{Token}
use Rattle.proto_text.specs.Texts.{offset_at}
use Rattle.proto_tree.specs.Tree.{Tree}
use Rattle.proto_files.specs.GivenFiles.{FileOf, file_at}
use Rattle.proto_names_rules.specs.Tree.{package_of}
use Rattle.proto_names_outline.specs.FromTree.{items_in}
use Rattle.proto_files.specs.FilesRead.{ReadOf, read_at}
use Rattle.proto_ast.specs.Parts.{syntax_texts_in}
use Rattle.proto_lint_names.specs.Readings.{package_words, LintFile, read_of_file}
use Rattle.proto_lint.specs.Packages.{Head}

-- a path ends in `.proto`
abbrev pub IsProtoPath : Path → Type 0
IsProtoPath path = (front : Text) × (path ≡ front ++ codes ".proto")

-- where the first of these tokens begins, and 0 for none
abbrev pub first_offset : List Token → List ℕ → ℕ
first_offset tokens [] = 0
first_offset tokens (t ∷ ts) = offset_at tokens t

-- there is one of these tokens
abbrev pub is_there : List ℕ → Bool
is_there [] = false
is_there (t ∷ ts) = true

-- the head of a file at a path, by what is read of it
abbrev pub head_of : Path → LintFile → Tree → Head
head_of path r tree = record {
  path = path;
  words = package_words r tree;
  offset = first_offset r.tokens (package_of (items_in tree));
  has_syntax = is_there (syntax_texts_in tree);
}

-- the head of a file of the workspace, by its number
abbrev pub head_of_file : List FileOf → List ReadOf → ℕ → Head
head_of_file files reads file =
    head_of (file_at files file).path (read_of_file files reads file) (read_at reads file).tree

-- the heads of the files from this number on
abbrev pub heads_from : List FileOf → List ReadOf → ℕ → List ReadOf → List Head
heads_from files reads file [] = []
heads_from files reads file (r ∷ rs) =
    head_of_file files reads file ∷ heads_from files reads (suc file) rs

-- the heads of all files, in order
abbrev pub heads : List FileOf → List ReadOf → List Head
heads files reads = heads_from files reads 0 reads
