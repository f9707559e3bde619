-- Reading from the left: each part of the grammar as a function of the tokens.
use Rattle.std.specs.Prelude.{◌≡◌, ℕ, zero, suc, length, Bool, true, false, List, [], ◌∷◌, Option, Some, None, Result, Ok, Err, option_and_then, if◌then◌else◌}
use Rattle.proto_tree.specs.declared.class.Class.{Class}
use Rattle.proto_tree.specs.declared.class.Class.TheVariants as class
use Rattle.proto_tree.specs.declared.class.Expected.{Expected}
use Rattle.proto_tree.specs.declared.class.Expected.TheVariants as want
use Rattle.proto_tree.specs.declared.class.Lexeme.{Lexeme}
use Rattle.proto_tree.specs.declared.reading.Stop.{Stop}
use Rattle.proto_tree.specs.declared.reading.Stop.TheVariants as stop
use Rattle.proto_tree.specs.declared.tree.Behind.{Behind}
use Rattle.proto_tree.specs.declared.tree.Separated.{Separated}
use Rattle.proto_tree.specs.declared.tree.Reference.{Reference}
use Rattle.proto_tree.specs.declared.tree.FieldType.{FieldType}
use Rattle.proto_tree.specs.declared.tree.FieldType.TheVariants as field_type
use Rattle.proto_tree.specs.declared.tree.Signed.{Signed}
use Rattle.proto_tree.specs.declared.tree.Joined.{Joined}
use Rattle.proto_tree.specs.declared.tree.Constant.{Constant}
use Rattle.proto_tree.specs.declared.tree.Constant.TheVariants as constant
use Rattle.proto_tree.specs.declared.tree.Atom.{Atom}
use Rattle.proto_tree.specs.declared.tree.Atom.TheVariants as atom
use Rattle.proto_tree.specs.declared.tree.Aggregate.{Aggregate}
use Rattle.proto_tree.specs.declared.tree.Custom.{Custom}
use Rattle.proto_tree.specs.declared.tree.Plain.{Plain}
use Rattle.proto_tree.specs.declared.tree.CustomValue.{CustomValue}
use Rattle.proto_tree.specs.declared.tree.CustomValue.TheVariants as custom_value
use Rattle.proto_tree.specs.declared.tree.Setting.TheVariants as setting
use Rattle.proto_tree.specs.declared.tree.Setting.{Setting}
use Rattle.proto_tree.specs.declared.tree.Settings.{Settings}
use Rattle.proto_tree.specs.declared.tree.Syntax.{Syntax}
use Rattle.proto_tree.specs.declared.tree.Import.{Import}
use Rattle.proto_tree.specs.declared.tree.Package.{Package}
use Rattle.proto_tree.specs.declared.tree.Option_.{Option_}
use Rattle.proto_tree.specs.declared.tree.Field.{Field}
use Rattle.proto_tree.specs.declared.tree.MapField.{MapField}
use Rattle.proto_tree.specs.declared.tree.RangeEnd.{RangeEnd}
use Rattle.proto_tree.specs.declared.tree.RangeEnd.TheVariants as range_end
use Rattle.proto_tree.specs.declared.tree.UpTo.{UpTo}
use Rattle.proto_tree.specs.declared.tree.Range.{Range}
use Rattle.proto_tree.specs.declared.tree.ReservedList.{ReservedList}
use Rattle.proto_tree.specs.declared.tree.ReservedList.TheVariants as reserved_list
use Rattle.proto_tree.specs.declared.tree.Reserved.{Reserved}
use Rattle.proto_tree.specs.declared.tree.Extensions.{Extensions}
use Rattle.proto_tree.specs.declared.tree.Value.{Value}
use Rattle.proto_tree.specs.declared.tree.MethodType.{MethodType}
use Rattle.proto_tree.specs.declared.tree.Modifier.{Modifier}
use Rattle.proto_tree.specs.declared.tree.Modifier.TheVariants as modifier
use Rattle.proto_tree.specs.declared.tree.Signature.{Signature}
use Rattle.proto_tree.specs.declared.piece.Statement.{Statement}
use Rattle.proto_tree.specs.declared.piece.Statement.TheVariants as statement
use Rattle.proto_tree.specs.declared.piece.Heading.{Heading}
use Rattle.proto_tree.specs.declared.piece.Extending.{Extending}
use Rattle.proto_tree.specs.declared.piece.Header.{Header}
use Rattle.proto_tree.specs.declared.piece.Header.TheVariants as header
use Rattle.proto_tree.specs.declared.piece.Ending.{Ending}
use Rattle.proto_tree.specs.declared.piece.Ending.TheVariants as ending
use Rattle.proto_tree.specs.declared.piece.Piece.{Piece}
use Rattle.proto_tree.specs.declared.piece.Piece.TheVariants as piece
use Rattle.proto_tree.specs.Classes.{fits}
use Rattle.proto_tree.specs.Flat.{fewer, other_expected}

-- a value and the tokens after it
abbrev pub Read : Type 0 → Type 0
Read A = Option (A × List Lexeme)

-- a way of reading: of tokens it makes a value and leaves the others, or fails
abbrev pub Reader : Type 0 → Type 0
Reader A = List Lexeme → Read A

-- what a function gave is what reading gives, unless memory ran out
abbrev pub Fails : {A : Type 0} → Stop → Option A → Type 0
Fails stop.Memory read = Unit {0}
Fails stop.Syntax read = read ≡ None

-- the same of what a function gave, which is seen as a value of the definitions
abbrev pub Gives : {X A : Type 0} → (X → A) → Result X Stop → Option A → Type 0
Gives view (Ok x) read = read ≡ Some (view x)
Gives view (Err e) read = Fails e read

-- one token
unfoldable pub token : Expected → Reader ℕ
token w [] = None
token w (l ∷ rest) = if fits w l.class then Some (l.at, rest) else None

infixr 5 ◌then◌
-- one part and another behind it
abbrev pub ◌then◌ : {A B : Type 0} → Reader A → Reader B → Reader (A × B)
(p then q) s = option_and_then (λ x. option_and_then (λ y. Some ((x.0, y.0), y.1)) (q x.1)) (p s)

-- a part, of which something is made
abbrev pub made : {A B : Type 0} → (A → B) → Reader A → Reader B
made f p s = option_and_then (λ x. Some (f x.0, x.1)) (p s)

-- whether the first token is what is wanted
abbrev pub starts : Expected → List Lexeme → Bool
starts w [] = false
starts w (l ∷ rest) = fits w l.class

-- one way or another, by the first token
abbrev pub either : {A : Type 0} → Expected → Reader A → Reader A → Reader A
either w p q s = if starts w s then p s else q s

-- a part that may be left out
abbrev pub maybe : {A : Type 0} → Expected → Reader A → Reader (Option A)
maybe w p s = if starts w s then made Some p s else Some (None, s)

-- any number of times, as long as the next token is what is wanted
abbrev pub up_to : {A : Type 0} → ℕ → Expected → Reader A → Reader (List A)
up_to zero w p s = Some ([], s)
up_to (suc n) w p s =
    if starts w s
    then option_and_then (λ x. option_and_then (λ y. Some (x.0 ∷ y.0, y.1)) (up_to n w p x.1)) (p s)
    else Some ([], s)

-- the same, as often as the tokens last
unfoldable pub many : {A : Type 0} → Expected → Reader A → Reader (List A)
many w p s = up_to (length s) w p s

-- a token of this class
abbrev pub one_token : Class → Reader ℕ
one_token c = token (want.One c)

-- a token of a class, where there is one
abbrev pub maybe_token : Expected → Reader (Option ℕ)
maybe_token w = maybe w (token w)

-- reads a separator of this class, and the item behind it
unfoldable pub behind_at : {A : Type 0} → Class → Reader A → Reader (Behind A)
behind_at c p = made (λ x. record { separator = x.0; item = x.1 }) (one_token c then p)

-- items with separators between them, of which the first is read in its own way
unfoldable pub from_at : {A : Type 0} → Class → Reader A → Reader A → Reader (Separated A)
from_at c first p = made (λ x. record { first = x.0; rest = x.1 })
    (first then many (want.One c) (behind_at c p))

-- reads one or more items, with a separator of this class between each two
abbrev pub separated_at : {A : Type 0} → Class → Reader A → Reader (Separated A)
separated_at c p = from_at c p p

-- ---- names and types

-- reads one or more words, with a dot between each two
abbrev pub dotted_at : Reader (Separated ℕ)
dotted_at = separated_at class.Dot (token want.Word)

-- reads the name of a package: words that name it, with a dot between each two
abbrev pub package_name_at : Reader (Separated ℕ)
package_name_at = separated_at class.Dot (token want.Name)

-- reads a reference without a leading dot: its first word is not a listed one
abbrev pub named_at : Reader (Separated ℕ)
named_at = from_at class.Dot (one_token class.Name) (token want.Word)

-- reads a reference: words joined by dots, with a dot before them where it is absolute
unfoldable pub reference_at : Reader Reference
reference_at = either (want.One class.Dot)
    (made (λ x. record { dot = Some x.0; words = x.1 }) (one_token class.Dot then dotted_at))
    (made (λ x. record { dot = None; words = x }) named_at)

-- reads the type of a field: the word of a scalar type, or a reference
unfoldable pub type_at : Reader FieldType
type_at = either (want.One class.Scalar)
    (made field_type.Scalar (one_token class.Scalar))
    (made field_type.Reference reference_at)

-- ---- options

-- reads a number, with a `-` before it where there is one
unfoldable pub signed_at : Reader Signed
signed_at = made (λ x. record { minus = x.0; number = x.1 })
    (maybe_token (want.One class.Minus) then one_token class.Number)

-- reads one or more strings, one behind another, which join to one text
unfoldable pub joined_at : Reader Joined
joined_at = made (λ x. record { first = x.0; rest = x.1 })
    (token want.Text then many want.Text (token want.Text))

-- one atom more before those that are read
abbrev pub put_atom : Atom → Read (List Atom × ℕ) → Read (List Atom × ℕ)
put_atom a read = option_and_then (λ x. Some ((a ∷ x.0.0, x.0.1), x.1)) read

-- at a closing brace the value ends, or an inner brace is closed
abbrev pub at_close : ℕ → ℕ → List Lexeme → Read (List Atom × ℕ) → Read (List Atom × ℕ)
at_close zero i rest more = Some (([], i), rest)
at_close (suc n) i rest more = put_atom (atom.Close i) more

-- reads what stands between the braces of a value, from where n inner braces are open, behind a `:`
-- or not, and the brace that ends it
abbrev pub within_at : Bool → ℕ → Reader (List Atom × ℕ)
within_at colon n [] = None
within_at colon n (l ∷ s) =
    if fits (want.One class.Close) l.class
    then at_close n l.at s (within_at false (fewer n) s)
    else (if fits (want.One class.Open) l.class
    then put_atom (atom.Open l.at) (within_at false (suc n) s)
    else (if fits (want.One class.Colon) l.class
    then put_atom (atom.Colon l.at) (within_at true n s)
    else (if fits want.OptionName l.class
    then put_atom (atom.Word l.at) (within_at false n s)
    else (if fits (other_expected colon) l.class
    then put_atom (atom.Other l.at) (within_at false n s)
    else None))))

-- reads a value in braces
unfoldable pub aggregate_at : Reader Aggregate
aggregate_at = made (λ x. record { «open» = x.0; atoms = x.1.0; close = x.1.1 })
    (one_token class.Open then within_at false 0)

-- reads the value of an option: a word, strings, or a number that may have a `-`
unfoldable pub constant_at : Reader Constant
constant_at = either want.Constant (made constant.Word (token want.Constant))
    (either want.Text (made constant.Text joined_at) (made constant.Number signed_at))

-- reads the value of a custom option
unfoldable pub custom_value_at : Reader CustomValue
custom_value_at = either (want.One class.Open)
    (made custom_value.Aggregate aggregate_at)
    (made custom_value.Constant constant_at)

-- reads the name of an extension: words joined by dots, with a dot before them where it is absolute
abbrev pub extension_name_at : Reader Reference
extension_name_at = made (λ x. record { dot = x.0; words = x.1 })
    (maybe_token (want.One class.Dot) then dotted_at)

-- reads in parentheses the name of an extension, words behind it, `=` and a value
unfoldable pub custom_at : Reader Custom
custom_at = made
    (λ x. record {
      «open» = x.0;
      name = x.1.0;
      close = x.1.1.0;
      path = x.1.1.1.0;
      equals = x.1.1.1.1.0;
      value = x.1.1.1.1.1;
    })
    (one_token class.NameParenthesis
    then extension_name_at
    then one_token class.RightParenthesis
    then many (want.One class.Dot) (behind_at class.Dot (token want.OptionName))
    then one_token class.Equals
    then custom_value_at)

-- reads a name, `=` and a value
unfoldable pub plain_at : Reader Plain
plain_at = made (λ x. record { name = x.0; equals = x.1.0; value = x.1.1 })
    (token want.OptionName then one_token class.Equals then constant_at)

-- reads an option that is set
unfoldable pub setting_at : Reader Setting
setting_at = either (want.One class.NameParenthesis)
    (made setting.Custom custom_at)
    (made setting.Plain plain_at)

-- reads settings: one or more between brackets, with a comma between each two
unfoldable pub settings_at : Reader Settings
settings_at = made (λ x. record { «open» = x.0; list = x.1.0; close = x.1.1 })
    (one_token class.LeftBracket
    then separated_at class.Comma setting_at
    then one_token class.RightBracket)

-- reads settings, where there is a bracket to begin them
abbrev pub maybe_settings : Reader (Option Settings)
maybe_settings = maybe (want.One class.LeftBracket) settings_at

-- reads an option: `option`, what it sets, and `;`
unfoldable pub option_at : Reader Option_
option_at = made (λ x. record { keyword = x.0; setting = x.1.0; semicolon = x.1.1 })
    (one_token class.Option then setting_at then one_token class.Semicolon)

-- ---- statements of a file

-- reads the syntax statement: `syntax`, `=`, a string that says `proto2` or `proto3`, and `;`
unfoldable pub syntax_at : Reader Syntax
syntax_at = made
    (λ x. record { keyword = x.0; equals = x.1.0; text = x.1.1.0; semicolon = x.1.1.1 })
    (one_token class.Syntax
    then one_token class.Equals
    then one_token class.ProtoText
    then one_token class.Semicolon)

-- reads what stands behind `import`: `public`, or `weak` where it may
unfoldable pub modifier_at : Reader Modifier
modifier_at = either (want.One class.Public)
    (made modifier.Public (one_token class.Public))
    (made modifier.Weak (one_token class.ImportWeak))

-- reads an import: `import`, `public` or `weak` where it is there, the string of a path, and `;`
unfoldable pub import_at : Reader Import
import_at = made
    (λ x. record { keyword = x.0; modifier = x.1.0; path = x.1.1.0; semicolon = x.1.1.1 })
    (one_token class.Import
    then maybe want.Modifier modifier_at
    then token want.Text
    then one_token class.Semicolon)

-- reads a package statement: `package`, words joined by dots, and `;`
unfoldable pub package_at : Reader Package
package_at = made (λ x. record { keyword = x.0; name = x.1.0; semicolon = x.1.1 })
    (one_token class.Package then package_name_at then one_token class.Semicolon)

-- ---- statements of a message

-- reads a field: its label where it has one, type, name, `=`, number, settings if any, and `;`
unfoldable pub field_at : Reader Field
field_at = made
    (λ x. record {
      label = x.0;
      kind = x.1.0;
      name = x.1.1.0;
      equals = x.1.1.1.0;
      number = x.1.1.1.1.0;
      settings = x.1.1.1.1.1.0;
      semicolon = x.1.1.1.1.1.1;
    })
    (maybe_token want.Label
    then type_at
    then token want.Name
    then one_token class.Equals
    then one_token class.Number
    then maybe_settings
    then one_token class.Semicolon)

-- the name, the number and the settings of a map field
abbrev pub numbered_at : Reader (ℕ × (ℕ × (ℕ × (Option Settings × ℕ))))
numbered_at =
    token want.Name
    then one_token class.Equals
    then one_token class.Number
    then maybe_settings
    then one_token class.Semicolon

-- reads a map field: `map`, `<`, a scalar type, `,`, a type, `>`, and what a field has from its
-- name on
unfoldable pub map_field_at : Reader MapField
map_field_at = made
    (λ x. record {
      keyword = x.0;
      «open» = x.1.0;
      key = x.1.1.0;
      comma = x.1.1.1.0;
      value = x.1.1.1.1.0;
      close = x.1.1.1.1.1.0;
      name = x.1.1.1.1.1.1.0;
      equals = x.1.1.1.1.1.1.1.0;
      number = x.1.1.1.1.1.1.1.1.0;
      settings = x.1.1.1.1.1.1.1.1.1.0;
      semicolon = x.1.1.1.1.1.1.1.1.1.1;
    })
    (one_token class.Map
    then one_token class.Less
    then one_token class.Scalar
    then one_token class.Comma
    then type_at
    then one_token class.Greater
    then numbered_at)

-- reads the end of a range: `max`, or a number
unfoldable pub range_end_at : {N : Type 0} → Reader N → Reader (RangeEnd N)
range_end_at n = either (want.One class.Max)
    (made range_end.Max (one_token class.Max))
    (made range_end.Number n)

-- reads `to` and the end of a range
unfoldable pub up_to_at : {N : Type 0} → Reader N → Reader (UpTo N)
up_to_at n = made (λ x. record { to = x.0; end = x.1 }) (one_token class.To then range_end_at n)

-- reads a range: a number, and `to` and an end where they are there
unfoldable pub range_at : {N : Type 0} → Reader N → Reader (Range N)
range_at n = made (λ x. record { first = x.0; up_to = x.1 })
    (n then maybe (want.One class.To) (up_to_at n))

-- reads one or more ranges, with a comma between each two
abbrev pub ranges_at : {N : Type 0} → Reader N → Reader (Separated (Range N))
ranges_at n = separated_at class.Comma (range_at n)

-- reads what is reserved: strings that say names, or ranges, with a comma between each two
unfoldable pub reserved_list_at : {N : Type 0} → Reader N → Reader (ReservedList N)
reserved_list_at n = either want.Text
    (made reserved_list.Names (separated_at class.Comma (token want.Text)))
    (made reserved_list.Ranges (ranges_at n))

-- reads a `reserved` statement: `reserved`, names or ranges, and `;`
unfoldable pub reserved_at : {N : Type 0} → Reader N → Reader (Reserved N)
reserved_at n = made (λ x. record { keyword = x.0; list = x.1.0; semicolon = x.1.1 })
    (one_token class.Reserved then reserved_list_at n then one_token class.Semicolon)

-- reads an `extensions` statement: `extensions`, ranges of numbers, and `;`
unfoldable pub extensions_at : Reader Extensions
extensions_at = made (λ x. record { keyword = x.0; ranges = x.1.0; semicolon = x.1.1 })
    (one_token class.Extensions
    then ranges_at (one_token class.Number)
    then one_token class.Semicolon)

-- ---- statements of an enum and of a service

-- reads a value of an enum: its name, `=`, its number, settings if any, and `;`
unfoldable pub value_at : Reader Value
value_at = made
    (λ x. record {
      name = x.0;
      equals = x.1.0;
      number = x.1.1.0;
      settings = x.1.1.1.0;
      semicolon = x.1.1.1.1;
    })
    (token want.ValueName
    then one_token class.Equals
    then signed_at
    then maybe_settings
    then one_token class.Semicolon)

-- reads the input or output of a method: a reference in parentheses, which may stream
unfoldable pub method_type_at : Reader MethodType
method_type_at = made
    (λ x. record { «open» = x.0; stream = x.1.0; reference = x.1.1.0; close = x.1.1.1 })
    (token want.Parenthesis
    then maybe_token (want.One class.Stream)
    then reference_at
    then one_token class.RightParenthesis)

-- reads what a method begins with: `rpc`, its name, its input, `returns` and its output
unfoldable pub signature_at : Reader Signature
signature_at = made
    (λ x. record {
      keyword = x.0;
      name = x.1.0;
      input = x.1.1.0;
      returns = x.1.1.1.0;
      output = x.1.1.1.1;
    })
    (one_token class.Rpc
    then token want.Name
    then method_type_at
    then one_token class.Returns
    then method_type_at)

-- reads what a signature is followed by: a `;`, or the brace of a block
unfoldable pub ending_at : Reader Ending
ending_at = either (want.One class.Semicolon)
    (made ending.Semicolon (one_token class.Semicolon))
    (made ending.Open (one_token class.Open))

-- a method that `;` ends is a statement, and one with a brace begins a block
abbrev pub method_piece : Signature → Ending → Piece
method_piece s (ending.Semicolon i) = piece.Statement (statement.Method s i)
method_piece s (ending.Open i) = piece.Open (header.Method s) i

-- reads a method: its signature, and the `;` or the brace behind it
unfoldable pub method_at : Reader Piece
method_at = made (λ x. method_piece x.0 x.1) (signature_at then ending_at)

-- ---- pieces

-- a keyword, a name and a brace
abbrev pub heading_at : Class → Reader (Heading × ℕ)
heading_at c = made (λ x. (record { keyword = x.0; name = x.1.0 }, x.1.1))
    (one_token c then token want.Name then one_token class.Open)

-- reads the beginning of a block by its keyword: a keyword, a name and a brace
abbrev pub block_start : (Heading → Header) → Class → Reader Piece
block_start make c = made (λ x. piece.Open (make x.0) x.1) (heading_at c)

-- `extend`, what it extends and a brace
abbrev pub extend_at : Reader (Extending × ℕ)
extend_at = made (λ x. (record { keyword = x.0; extendee = x.1.0 }, x.1.1))
    (one_token class.Extend then reference_at then one_token class.Open)

-- reads the beginning of an `extend` block
unfoldable pub extending_at : Reader Piece
extending_at = made (λ x. piece.Open (header.Extend x.0) x.1) extend_at

-- what the keyword of a block makes of its heading
abbrev pub header_of : Class → Heading → Header
header_of class.Message h = header.Message h
header_of class.Oneof h = header.Oneof h
header_of class.Enum h = header.Enum h
header_of _ h = header.Service h

-- reads a piece that is a statement
abbrev pub stated : {A : Type 0} → (A → Statement) → Reader A → Reader Piece
stated make p = made (λ x. piece.Statement (make x)) p

-- reads the brace that ends a block
abbrev pub close_at : Reader Piece
close_at = made piece.Close (one_token class.Close)

-- reads a lone `;`
abbrev pub empty_at : Reader Piece
empty_at = stated statement.Empty (one_token class.Semicolon)

-- one way where the first token is of the class, and the other elsewhere
abbrev pub on : Class → Reader Piece → Reader Piece → Reader Piece
on c p q = either (want.One c) p q

-- what may stand in an enum, whose values may have any name but two
unfoldable pub enum_piece_at : Reader Piece
enum_piece_at =
    on class.Close close_at (on class.Semicolon empty_at
    (on class.Option (stated statement.Option option_at)
    (on class.Reserved (stated statement.EnumReserved (reserved_at signed_at))
    (stated statement.Value value_at))))

-- what may stand elsewhere
unfoldable pub inner_piece_at : Reader Piece
inner_piece_at =
    on class.Close close_at (on class.Semicolon empty_at
    (on class.Message (block_start header.Message class.Message)
    (on class.Oneof (block_start header.Oneof class.Oneof)
    (on class.Enum (block_start header.Enum class.Enum)
    (on class.Service (block_start header.Service class.Service)
    (on class.Syntax (stated statement.Syntax syntax_at)
    (on class.Import (stated statement.Import import_at)
    (on class.Package (stated statement.Package package_at)
    (on class.Option (stated statement.Option option_at)
    (on class.Map (stated statement.MapField map_field_at)
    (on class.Reserved (stated statement.Reserved (reserved_at (one_token class.Number)))
    (on class.Extensions (stated statement.Extensions extensions_at)
    (on class.Rpc method_at
    (on class.Extend extending_at
    (stated statement.Field field_at)))))))))))))))
