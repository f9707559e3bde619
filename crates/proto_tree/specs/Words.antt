-- The class of a token by its kind and its text: the listed words, the punctuation, and the strings
-- that name an edition of the language.
use Rattle.std.specs.Prelude.{ℕ, suc, Bool, ◌==◌, ◌||◌, List, [], ◌∷◌, length, codes, if◌then◌else◌, not}
use Rattle.std.specs.Str.{bytes_eq}
use Rattle.proto_text.specs.declared.kind.TokenKind.{TokenKind}
use Rattle.proto_text.specs.declared.kind.TokenKind.TheVariants.{Word, Number, Text, Punctuation}
use Rattle.proto_text.specs.Values.{says}
use Rattle.proto_text.specs.Tokens.{Lexeme}
use Rattle.proto_base.specs.declared.profile.Profile.{Profile}
use Rattle.proto_base.specs.declared.profile.Profile.TheVariants as profile
use Rattle.proto_tree.specs.declared.class.Class.{Class}
use Rattle.proto_tree.specs.declared.class.Class.TheVariants as class
use Rattle.proto_tree.specs.declared.class.Expected.TheVariants as want
use Rattle.proto_tree.specs.declared.class.Lexeme.{Lexeme as Classed}
use Rattle.proto_tree.specs.Classes.{fits}

-- a word and its class
pub record Listed : Type 0 where
  pub word : List ℕ
  pub class : Class

-- the word w, which is of the class c
abbrev pub row : List ℕ → Class → Listed
row w c = record { word = w; class = c }

-- the class that a list has of a word, and another one where the list lacks the word
abbrev pub class_in : List Listed → Class → List ℕ → Class
class_in [] other w = other
class_in (k ∷ ks) other w = if bytes_eq w k.word then k.class else class_in ks other w

-- the rows with words of a length
abbrev pub of_length : ℕ → List Listed → List Listed
of_length n [] = []
of_length n (k ∷ ks) = if length k.word == n then k ∷ of_length n ks else of_length n ks

-- the listed words
abbrev pub listed : List Listed
listed =
    row (codes "syntax") class.Syntax
    ∷ row (codes "import") class.Import
    ∷ row (codes "weak") class.Weak
    ∷ row (codes "public") class.Public
    ∷ row (codes "package") class.Package
    ∷ row (codes "option") class.Option
    ∷ row (codes "message") class.Message
    ∷ row (codes "enum") class.Enum
    ∷ row (codes "service") class.Service
    ∷ row (codes "rpc") class.Rpc
    ∷ row (codes "returns") class.Returns
    ∷ row (codes "stream") class.Stream
    ∷ row (codes "oneof") class.Oneof
    ∷ row (codes "map") class.Map
    ∷ row (codes "reserved") class.Reserved
    ∷ row (codes "extensions") class.Extensions
    ∷ row (codes "extend") class.Extend
    ∷ row (codes "group") class.OtherListed
    ∷ row (codes "optional") class.Optional
    ∷ row (codes "required") class.Required
    ∷ row (codes "repeated") class.Repeated
    ∷ row (codes "to") class.To
    ∷ row (codes "max") class.Max
    ∷ row (codes "double") class.Scalar
    ∷ row (codes "float") class.Scalar
    ∷ row (codes "int32") class.Scalar
    ∷ row (codes "int64") class.Scalar
    ∷ row (codes "uint32") class.Scalar
    ∷ row (codes "uint64") class.Scalar
    ∷ row (codes "sint32") class.Scalar
    ∷ row (codes "sint64") class.Scalar
    ∷ row (codes "fixed32") class.Scalar
    ∷ row (codes "fixed64") class.Scalar
    ∷ row (codes "sfixed32") class.Scalar
    ∷ row (codes "sfixed64") class.Scalar
    ∷ row (codes "bool") class.Scalar
    ∷ row (codes "string") class.Scalar
    ∷ row (codes "bytes") class.Scalar
    ∷ []

-- the punctuation
abbrev pub marks : List Listed
marks =
    row (codes "{") class.Open
    ∷ row (codes "}") class.Close
    ∷ row (codes "[") class.LeftBracket
    ∷ row (codes "]") class.RightBracket
    ∷ row (codes "(") class.LeftParenthesis
    ∷ row (codes ")") class.RightParenthesis
    ∷ row (codes "<") class.Less
    ∷ row (codes ">") class.Greater
    ∷ row (codes ";") class.Semicolon
    ∷ row (codes ",") class.Comma
    ∷ row (codes "=") class.Equals
    ∷ row (codes ".") class.Dot
    ∷ row (codes "-") class.Minus
    ∷ row (codes ":") class.Colon
    ∷ []

-- a string whose value is `proto2` or `proto3`, or another one
abbrev pub text_class : List ℕ → Class
text_class w =
    if says w (codes "proto2") || says w (codes "proto3") then class.ProtoText else class.OtherText

-- the class of a token by its kind and its text
abbrev pub class_by : TokenKind → List ℕ → Class
class_by Word w = class_in listed class.Name w
class_by Number w = class.Number
class_by Text w = text_class w
class_by Punctuation w = class_in marks class.Other w

-- a word that may not begin a reference without a leading dot
abbrev pub is_listed : List ℕ → Bool
is_listed w = not (fits (want.One class.Name) (class_by Word w))

-- the class of a token in a language: as written a `(` may stand before the name of an option, too,
-- and `weak` behind `import`
abbrev pub class_as : Profile → Class → Class
class_as profile.Core c = c
class_as profile.AsWritten class.LeftParenthesis = class.NameParenthesis
class_as profile.AsWritten class.Weak = class.ImportWeak
class_as profile.AsWritten c = c

-- the tokens from the n-th on as the grammar of the language sees them
abbrev pub classes_in : Profile → ℕ → List Lexeme → List Classed
classes_in p n [] = []
classes_in p n (l ∷ ls) =
    record { class = class_as p (class_by l.kind l.text); at = n } ∷ classes_in p (suc n) ls

-- the same in the core language
abbrev pub classes : ℕ → List Lexeme → List Classed
classes n ls = classes_in profile.Core n ls
