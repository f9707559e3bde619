-- What is read of a file: the texts of its tokens, the values of its strings, its numbers, its
-- language and version, and what its references mean.
use Rattle.std.specs.Prelude.{ℕ, ℤ, pos, Bool, false, List, [], find, Option, Some, None, codes, ◌==◌, min, slice_get}
use Rattle.std.specs.List.{list_any}
use Rattle.std.specs.Option.{option_and_then}
use Rattle.std.specs.Str.{bytes_eq}
use Rattle.proto_base.specs.Texts.{Text}
use Rattle.proto_base.specs.declared.profile.Profile.{Profile}
use Rattle.proto_text.specs.Texts.{word_at}
use Rattle.proto_text.specs.Values.{value_of}
use Rattle.proto_text.specs.declared.kind.TokenKind.{TokenKind}
use Rattle.proto_text.specs.declared.kind.TokenKind.TheVariants as token_kind
use Rattle.proto_text.specs.Tokens.{Lexeme}
use Rattle.proto_tree.specs.declared.tree.Signed.{Signed}
use Rattle.proto_tree.specs.declared.tree.Reference.{Reference}
use Rattle.proto_tree.specs.declared.piece.Statement.{Statement}
use Rattle.proto_tree.specs.declared.piece.Statement.TheVariants as statement
use Rattle.proto_tree.specs.Tree.{Tree}
use Rattle.proto_tree.specs.References.{first_of}
use Rattle.proto_ast.specs.Numbers.{number_value, signed_by}
use Rattle.proto_ast.specs.Parts.{statements}

-- what is read of an enum: whether its file is proto3, whether it has a first value that is not 0,
-- and the names of its values
pub record EnumOf : Type 0 where
  pub is_proto3 : Bool
  pub starts_past_zero : Bool
  pub values : List Text

-- what a reference means, by its first token: a full name, joined by dots, and the enum of that
-- name, if it is one
pub record MeantOf : Type 0 where
  pub token : ℕ
  pub name : Text
  pub enum : Option EnumOf

-- A file as it is read. Where there is a cap, a number past it counts as the cap.
pub record Scene : Type 0 where
  pub lexemes : List Lexeme
  pub cap : Option ℕ
  pub profile : Profile
  pub is_proto3 : Bool
  pub means : List MeantOf

-- the same file, with its numbers as they are
abbrev pub uncapped : Scene → Scene
uncapped scene = record scene { cap = None }

-- the text of the token with an index
abbrev pub text : Scene → ℕ → Text
text scene token = word_at scene.lexemes token

-- the value of a token of this kind: that of a string, if it has one; else nothing
abbrev pub value_or_none : TokenKind → Option Text → Text
value_or_none token_kind.Text (Some v) = v
value_or_none token_kind.Text None = []
value_or_none token_kind.Word v = []
value_or_none token_kind.Number v = []
value_or_none token_kind.Punctuation v = []

-- the value of a string token; nothing for another token
abbrev pub string_of : Option Lexeme → Text
string_of None = []
string_of (Some l) = value_or_none l.kind (value_of l.text)

-- the value of the string token with an index among the tokens of a file
abbrev pub value_in : List Lexeme → ℕ → Text
value_in lexemes token = string_of (slice_get lexemes token)

-- the value of the string token with an index; nothing for another token
abbrev pub value : Scene → ℕ → Text
value scene token = value_in scene.lexemes token

-- a number, or the cap where there is one and the number is past it
abbrev pub up_to_cap : Option ℕ → ℕ → ℕ
up_to_cap None n = n
up_to_cap (Some cap) n = min cap n

-- what the text of a number token stands for
abbrev pub number_in_text : Scene → Text → ℕ
number_in_text scene w = up_to_cap scene.cap (number_value w)

-- ---- what a scene says

-- what a number token stands for
abbrev pub number_at : Scene → ℕ → ℤ
number_at scene token = pos (number_in_text scene (text scene token))

-- what a number with its sign stands for
abbrev pub signed_value : Scene → Signed → ℤ
signed_value scene s = signed_by (number_in_text scene) (text scene) s

-- what the reference means
abbrev pub meant_by : Scene → Reference → Option MeantOf
meant_by scene r = find (λ m. m.token == first_of r.dot r.words) scene.means

-- the enum that it means, if it means one
abbrev pub enum_meant : Scene → Reference → Option EnumOf
enum_meant scene r = option_and_then (λ m. m.enum) (meant_by scene r)

-- ---- the version of a file

-- whether a statement says that the file is proto3
abbrev pub is_proto3_statement : (ℕ → Text) → Statement → Bool
is_proto3_statement value (statement.Syntax s) = bytes_eq (value s.text) (codes "proto3")
is_proto3_statement value _ = false

-- whether a file is proto3; one without a syntax statement is proto2
abbrev pub is_proto3 : (ℕ → Text) → Tree → Bool
is_proto3 value tree = list_any (is_proto3_statement value) (statements tree)
