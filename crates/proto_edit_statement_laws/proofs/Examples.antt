-- The definitions on small schemas, computed.
use Rattle.std.proofs.Common.{◌≡◌, ℕ, suc, List, [], ◌∷◌, ◌++◌, Some, None, codes, refl, decimal}
use Rattle.proto_text.specs.declared.kind.TokenKind.{TokenKind}
use Rattle.proto_text.specs.declared.kind.TokenKind.TheVariants.{Word, Number, Text, Punctuation}
use Rattle.proto_text.specs.declared.lexer.Token.{Token}
use Rattle.proto_tree.specs.declared.piece.Header.TheVariants as header
use Rattle.proto_tree.specs.declared.piece.Statement.{Statement}
use Rattle.proto_tree.specs.declared.piece.Statement.TheVariants as statement
use Rattle.proto_tree.specs.declared.tree.FieldType.TheVariants as field_type
use Rattle.proto_tree.specs.declared.tree.Import.{Import}
use Rattle.proto_tree.specs.Tree.{Tree, End, Leaf, Block}
use Rattle.proto_ast.specs.Numbers.{number_value}
use Rattle.proto_edit_statement_laws.proofs.Common.{deletion, added_text, addition, drop_of, import_place, reservation_text}

abbrev tok : TokenKind → ℕ → ℕ → Token
tok kind start end = record { kind = kind; span = record { start = start; end = end } }

-- ---- reservations

reservation_row : (n : ℕ) → reservation_text n (codes "a") ≡ codes "reserved " ++ (decimal n ++ codes "; reserved \"a\";")
reservation_row n = refl

hexadecimal_row : number_value (codes "0x10") ≡ 16
hexadecimal_row = refl

octal_row : number_value (codes "010") ≡ 8
octal_row = refl

-- a member of a oneof: what stands behind it moves up, through the brace
abbrev oneof_text : List ℕ
oneof_text = codes "syntax = \"proto3\"; message M { oneof o { string a = 1; int32 b = 2; } }"

abbrev oneof_tokens : List Token
oneof_tokens = tok Word 0 6 ∷ tok Punctuation 7 8 ∷ tok Text 9 17 ∷ tok Punctuation 17 18 ∷ tok Word 19 26 ∷ tok Word 27 28 ∷ tok Punctuation 29 30 ∷ tok Word 31 36 ∷ tok Word 37 38 ∷ tok Punctuation 39 40 ∷ tok Word 41 47 ∷ tok Word 48 49 ∷ tok Punctuation 50 51 ∷ tok Number 52 53 ∷ tok Punctuation 53 54 ∷ tok Word 55 60 ∷ tok Word 61 62 ∷ tok Punctuation 63 64 ∷ tok Number 65 66 ∷ tok Punctuation 66 67 ∷ tok Punctuation 68 69 ∷ tok Punctuation 70 71 ∷ []

abbrev member : Statement
member = statement.Field (record { label = None; kind = field_type.Scalar 10; name = 11; equals = 12; number = 13; settings = None; semicolon = 14 })

oneof_row : deletion oneof_text oneof_tokens member (Some 20) 1 (codes "a") ≡ record { at = 41; old = codes "string a = 1; int32 b = 2; }"; new = codes " int32 b = 2; } " ++ reservation_text 1 (codes "a") }
oneof_row = refl

-- right in a message
abbrev message_text : List ℕ
message_text = codes "message M { optional int32 a = 0x10; }"

abbrev message_tokens : List Token
message_tokens = tok Word 0 7 ∷ tok Word 8 9 ∷ tok Punctuation 10 11 ∷ tok Word 12 20 ∷ tok Word 21 26 ∷ tok Word 27 28 ∷ tok Punctuation 29 30 ∷ tok Number 31 35 ∷ tok Punctuation 35 36 ∷ tok Punctuation 37 38 ∷ []

abbrev labelled : Statement
labelled = statement.Field (record { label = Some 3; kind = field_type.Scalar 4; name = 5; equals = 6; number = 7; settings = None; semicolon = 8 })

message_row : deletion message_text message_tokens labelled None 16 (codes "a") ≡ record { at = 12; old = codes "optional int32 a = 0x10;"; new = reservation_text 16 (codes "a") }
message_row = refl

-- ---- imports

first_line : added_text 0 (codes "b.proto") ≡ codes "import \"b.proto\";\n"
first_line = refl

further_line : (n : ℕ) → added_text (suc n) (codes "b.proto") ≡ codes "\nimport \"b.proto\";"
further_line n = refl

nothing_row : import_place End ≡ 0
nothing_row = refl

-- behind an import in the middle of the file, and not behind its package
abbrev middle_text : List ℕ
middle_text = codes "package p; message M {} import \"c.proto\"; message N {}"

abbrev middle_tokens : List Token
middle_tokens = tok Word 0 7 ∷ tok Word 8 9 ∷ tok Punctuation 9 10 ∷ tok Word 11 18 ∷ tok Word 19 20 ∷ tok Punctuation 21 22 ∷ tok Punctuation 22 23 ∷ tok Word 24 30 ∷ tok Text 31 40 ∷ tok Punctuation 40 41 ∷ tok Word 42 49 ∷ tok Word 50 51 ∷ tok Punctuation 52 53 ∷ tok Punctuation 53 54 ∷ []

abbrev middle : Import
middle = record { keyword = 7; modifier = None; path = 8; semicolon = 9 }

abbrev middle_tree : Tree
middle_tree =
    Leaf (statement.Package (record { keyword = 0; name = record { first = 1; rest = [] }; semicolon = 2 }))
    (Block (header.Message (record { keyword = 3; name = 4 })) 5 End 6 (Leaf (statement.Import middle) (Block (header.Message (record { keyword = 10; name = 11 })) 12 End 13 End)))

added_row : addition middle_text middle_tokens middle_tree (codes "b.proto") ≡ record { at = 41; old = []; new = codes "\nimport \"b.proto\";" }
added_row = refl

dropped_row : drop_of middle_text middle_tokens middle ≡ record { at = 24; old = codes "import \"c.proto\";"; new = [] }
dropped_row = refl
