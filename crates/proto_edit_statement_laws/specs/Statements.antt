-- The statements that edits put in: their text, their tokens, and their trees.
use Rattle.std.specs.Prelude.{ℕ, ◌+◌, List, [], ◌∷◌, codes, None}
use Rattle.std.specs.Fmt.{decimal}
use Rattle.proto_text.specs.declared.kind.TokenKind.{TokenKind}
use Rattle.proto_text.specs.declared.kind.TokenKind.TheVariants.{Word, Number, Text, Punctuation}
use Rattle.proto_text.specs.Segments.{quoted}
use Rattle.proto_text.specs.Tokens.{Lexeme}
use Rattle.proto_tree.specs.declared.piece.Statement.TheVariants as statement
use Rattle.proto_tree.specs.declared.tree.ReservedList.TheVariants as reserved_list
use Rattle.proto_tree.specs.Tree.{Tree, End, Leaf}

-- a token of this kind with this text
abbrev pub token_of_text : TokenKind → List ℕ → Lexeme
token_of_text kind text = record { kind = kind; text = text }

-- the token `;`
abbrev pub semicolon_token : Lexeme
semicolon_token = token_of_text Punctuation (codes ";")

-- ---- a number and a name that are reserved

-- the tokens of `reserved N; reserved "name";`
abbrev pub reservation_tokens : ℕ → List ℕ → List Lexeme
reservation_tokens number name =
    token_of_text Word (codes "reserved") ∷ token_of_text Number (decimal number) ∷ semicolon_token
    ∷ token_of_text Word (codes "reserved") ∷ token_of_text Text (quoted name) ∷ semicolon_token
    ∷ []

-- the two statements, whose tokens begin with this index
abbrev pub reservation : ℕ → Tree
reservation i =
    Leaf (statement.Reserved (record {
      keyword = i;
      list = reserved_list.Ranges
          (record { first = record { first = i + 1; up_to = None }; rest = [] });
      semicolon = i + 2;
    }))
    (Leaf (statement.Reserved (record {
      keyword = i + 3;
      list = reserved_list.Names (record { first = i + 4; rest = [] });
      semicolon = i + 5;
    })) End)

-- ---- an import

-- the tokens of `import "PATH";`
abbrev pub import_tokens : List ℕ → List Lexeme
import_tokens path =
    token_of_text Word (codes "import") ∷ token_of_text Text (quoted path) ∷ semicolon_token ∷ []

-- the statement, whose tokens begin with this index
abbrev pub import_tree : ℕ → Tree
import_tree i =
    Leaf (statement.Import (record { keyword = i; modifier = None; path = i + 1; semicolon = i + 2 }))
    End
