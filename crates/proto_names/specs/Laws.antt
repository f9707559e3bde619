-- Laws of links, for the layers above: what sees a name, and what words references have.
use Rattle.std.specs.Prelude.{◌≡◌, ◌↔◌, ℕ, ◌<◌, true, List, length, map}
use Rattle.std.specs.List.{Contains}
use Rattle.proto_base.specs.Texts.{Text}
use Rattle.proto_text.specs.Texts.{words}
use Rattle.proto_text.specs.Tokens.{AreTokens}
use Rattle.proto_text.specs.declared.lexer.Token.{Token}
use Rattle.proto_tree.specs.References.{dotted}
use Rattle.proto_tree.specs.declared.tree.Reference.{Reference}
use Rattle.proto_files.specs.FilesRead.{ReadOf, AreRead}
use Rattle.proto_files.specs.GivenFiles.{FileOf, file_at}
use Rattle.proto_names_rules.specs.Joined.{joined, ArePlain}
use Rattle.proto_names_rules.specs.Names.{Sees, Symbol, Workspace, shows}
use Rattle.proto_names_rules.specs.Skeleton.{Used}
use Rattle.proto_names_imports.specs.Links.{names_of_files}
use Rattle.proto_names.specs.FileReferences.{uses_of}
use Rattle.proto_names.specs.LinkOfFiles.{IsLinkOf}
use Rattle.proto_names.specs.Linking.{LinkOf, is_visible}

-- the file sees a symbol whose full name is this text
pub record SeesName (w : Workspace) (file : ℕ) (text : Text) : Type 0 where
  pub symbol : Symbol
  pub declared : Contains w.symbols symbol
  pub name : joined symbol.name ≡ text
  pub seen : Sees w.imports file symbol.file

-- in a link of files, a text is visible from a file exactly where the file sees a symbol with this
-- full name
abbrev pub VisibleIsSeen : Type 0
VisibleIsSeen =
    (files : List FileOf) (reads : List ReadOf) (l : LinkOf)
    → IsLinkOf files l → AreRead files reads
    → (file : ℕ) → file < length files → (text : List ℕ)
    → (is_visible l file text ≡ true) ↔ SeesName (names_of_files files reads) file text

-- in a link of files, a name of plain words is visible from a file exactly where the workspace of
-- the files shows it to that file
abbrev pub VisibleIsShown : Type 0
VisibleIsShown =
    (files : List FileOf) (reads : List ReadOf) (l : LinkOf)
    → IsLinkOf files l → AreRead files reads
    → (file : ℕ) → file < length files → (name : List (List ℕ)) → ArePlain name
    → is_visible l file (joined name) ≡ shows (names_of_files files reads) file (λ k. true) name

-- where a file that is read refers to something by the words of a reference, these are words in
-- each list of the file's tokens: none is empty, and none holds a dot
abbrev pub UsesAreWords : Type 0
UsesAreWords =
    (files : List FileOf) (reads : List ReadOf) → AreRead files reads
    → (file : ℕ) → file < length files
    → (u : Used ℕ) → Contains (uses_of reads file) u → (r : Reference) → dotted r.words ≡ u.tokens
    → (tokens : List Token) → AreTokens (file_at files file).bytes tokens
    → ArePlain (map (words (file_at files file).bytes tokens) (dotted r.words))
