-- What the rules read of a file.
use Rattle.std.specs.Prelude.{ℕ, ◌==◌, List, [], map, find, get_or}
use Rattle.std.specs.Option.{option_and_then}
use Rattle.proto_base.specs.Texts.{Text, or_nothing}
use Rattle.proto_text.specs.declared.lexer.Token.{Token}
use Rattle.proto_text.specs.Texts.{word_at}
use Rattle.proto_text.specs.Tokens.{Lexeme, lexeme_at}
use Rattle.proto_tree.specs.Tree.{Tree}
use Rattle.proto_files.specs.GivenFiles.{FileOf, file_at}
use Rattle.proto_names_rules.specs.Tree.{package_of}
use Rattle.proto_names_outline.specs.FromTree.{items_in}
use Rattle.proto_files.specs.FilesRead.{ReadOf, read_at}
use Rattle.proto_names.specs.LinkOfFiles.{TextMeant, meant_by_link, meant_by_use}
use Rattle.proto_names.specs.FileReferences.{uses_of}
use Rattle.proto_lint_names.specs.declared.reading.LintFile.{LintFile as Read}

-- a file as the rules read it: its tokens, these with their texts, and what its references mean
pub record LintFile : Type 0 where
  pub tokens : List Token
  pub lexemes : List Lexeme
  pub means : List TextMeant

-- the text of a token by its index, and nothing where there is none
abbrev pub word_in : LintFile → ℕ → Text
word_in r token = word_at r.lexemes token

-- the full name that the reference with this first token means, and nothing where it means none
abbrev pub meant_name : LintFile → ℕ → Text
meant_name r token =
    or_nothing (option_and_then (λ m. m.text) (find (λ m. m.token == token) r.means))

-- the words of a file's package, none without one
abbrev pub package_words : LintFile → Tree → List Text
package_words r tree = map (word_in r) (package_of (items_in tree))

-- ---- what is read of the files

-- what is read of a file, by its number
abbrev pub read_of_file : List FileOf → List ReadOf → ℕ → LintFile
read_of_file files reads file = record {
  tokens = (read_at reads file).tokens;
  lexemes = map (lexeme_at (file_at files file).bytes) (read_at reads file).tokens;
  means = map (meant_by_use files reads file) (uses_of reads file);
}

-- ---- the same in code

-- what a reading of the code says of its file
abbrev pub reading_of : Read → LintFile
reading_of r = record {
  tokens = r.tokens.now;
  lexemes = r.words;
  means = map (meant_by_link r.link.now) (get_or r.link.now.meant r.file []);
}
