-- What the grammar knows of a token, and what it may want at a place.
use Rattle.std.specs.Prelude.{ℕ, Bool, true, false, not, ◌==◌}
use Rattle.proto_tree.specs.declared.class.Class.{Class}
use Rattle.proto_tree.specs.declared.class.Class.TheVariants as class
use Rattle.proto_tree.specs.declared.class.Expected.{Expected}
use Rattle.proto_tree.specs.declared.class.Expected.TheVariants as want

-- each class has a number of its own
abbrev pub code : Class → ℕ
code class.Syntax = 0
code class.Import = 1
code class.Public = 2
code class.Package = 3
code class.Option = 4
code class.Message = 5
code class.Enum = 6
code class.Service = 7
code class.Rpc = 8
code class.Returns = 9
code class.Stream = 10
code class.Oneof = 11
code class.Map = 12
code class.Reserved = 13
code class.Extensions = 14
code class.Extend = 15
code class.Optional = 16
code class.Required = 17
code class.Repeated = 18
code class.To = 19
code class.Max = 20
code class.Scalar = 21
code class.OtherListed = 22
code class.Name = 23
code class.Number = 24
code class.ProtoText = 25
code class.OtherText = 26
code class.Open = 27
code class.Close = 28
code class.LeftBracket = 29
code class.RightBracket = 30
code class.LeftParenthesis = 31
code class.RightParenthesis = 32
code class.Less = 33
code class.Greater = 34
code class.Semicolon = 35
code class.Comma = 36
code class.Equals = 37
code class.Dot = 38
code class.Minus = 39
code class.Colon = 40
code class.NameParenthesis = 41
code class.Other = 42
code class.Weak = 43
code class.ImportWeak = 44

-- a word, whether listed or not
abbrev pub is_word : Class → Bool
is_word class.Number = false
is_word class.ProtoText = false
is_word class.OtherText = false
is_word class.Open = false
is_word class.Close = false
is_word class.LeftBracket = false
is_word class.RightBracket = false
is_word class.LeftParenthesis = false
is_word class.RightParenthesis = false
is_word class.Less = false
is_word class.Greater = false
is_word class.Semicolon = false
is_word class.Comma = false
is_word class.Equals = false
is_word class.Dot = false
is_word class.Minus = false
is_word class.Colon = false
is_word class.NameParenthesis = false
is_word class.Other = false
is_word _ = true

-- a word that may name an enum value
abbrev pub is_value_name : Class → Bool
is_value_name class.Option = false
is_value_name class.Reserved = false
is_value_name c = is_word c

-- a label of a field: `optional`, `required` or `repeated`
abbrev pub is_label : Class → Bool
is_label class.Optional = true
is_label class.Required = true
is_label class.Repeated = true
is_label _ = false

-- a string, whatever it says
abbrev pub is_text : Class → Bool
is_text class.ProtoText = true
is_text class.OtherText = true
is_text _ = false

-- `(`, of either class
abbrev pub is_parenthesis : Class → Bool
is_parenthesis class.LeftParenthesis = true
is_parenthesis class.NameParenthesis = true
is_parenthesis _ = false

-- what may stand behind `import`: `public`, or `weak` where it may
abbrev pub is_modifier : Class → Bool
is_modifier class.Public = true
is_modifier class.ImportWeak = true
is_modifier _ = false

-- a token of a value in braces that is no word, no brace and no `:`, as it may stand behind a `:`
abbrev pub is_element : Class → Bool
is_element class.Open = false
is_element class.Close = false
is_element class.Colon = false
is_element c = not (is_word c)

-- the same elsewhere: no `[` either
abbrev pub is_atom : Class → Bool
is_atom class.LeftBracket = false
is_atom c = is_element c

-- whether a token of this class is what is wanted
abbrev pub fits : Expected → Class → Bool
fits (want.One wanted) c = code wanted == code c
fits want.Word c = is_word c
fits want.Name c = is_word c
fits want.OptionName c = is_word c
fits want.Constant c = is_word c
fits want.ValueName c = is_value_name c
fits want.Label c = is_label c
fits want.Text c = is_text c
fits want.Atom c = is_atom c
fits want.Element c = is_element c
fits want.Nothing c = false
fits want.Parenthesis c = is_parenthesis c
fits want.Modifier c = is_modifier c

-- a brace, `{` or `}`
abbrev pub is_brace : Class → Bool
is_brace class.Open = true
is_brace class.Close = true
is_brace _ = false
