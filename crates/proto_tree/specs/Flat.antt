-- The tokens of each part of a tree, in order: what each place wants, and the index that the tree
-- holds there. This is the grammar.
use Rattle.std.specs.Prelude.{◌≡◌, ℕ, zero, suc, Bool, true, false, List, [], ◌∷◌, ◌++◌, Option, Some, None}
use Rattle.proto_tree.specs.declared.class.Class.{Class}
use Rattle.proto_tree.specs.declared.class.Class.TheVariants as class
use Rattle.proto_tree.specs.declared.class.Expected.{Expected}
use Rattle.proto_tree.specs.declared.class.Expected.TheVariants as want
use Rattle.proto_tree.specs.declared.class.Lexeme.{Lexeme}
use Rattle.proto_tree.specs.declared.tree.Behind.{Behind}
use Rattle.proto_tree.specs.declared.tree.Separated.{Separated}
use Rattle.proto_tree.specs.declared.tree.Reference.{Reference}
use Rattle.proto_tree.specs.declared.tree.FieldType.{FieldType}
use Rattle.proto_tree.specs.declared.tree.FieldType.TheVariants as field_type
use Rattle.proto_tree.specs.declared.tree.Signed.{Signed}
use Rattle.proto_tree.specs.declared.tree.Joined.{Joined}
use Rattle.proto_tree.specs.declared.tree.Constant.{Constant}
use Rattle.proto_tree.specs.declared.tree.Constant.TheVariants as constant
use Rattle.proto_tree.specs.declared.tree.Atom.{Atom}
use Rattle.proto_tree.specs.declared.tree.Atom.TheVariants as atom
use Rattle.proto_tree.specs.declared.tree.Aggregate.{Aggregate}
use Rattle.proto_tree.specs.declared.tree.Custom.{Custom}
use Rattle.proto_tree.specs.declared.tree.Plain.{Plain}
use Rattle.proto_tree.specs.declared.tree.CustomValue.{CustomValue}
use Rattle.proto_tree.specs.declared.tree.CustomValue.TheVariants as custom_value
use Rattle.proto_tree.specs.declared.tree.Setting.TheVariants as setting
use Rattle.proto_tree.specs.declared.tree.Setting.{Setting}
use Rattle.proto_tree.specs.declared.tree.Settings.{Settings}
use Rattle.proto_tree.specs.declared.tree.Syntax.{Syntax}
use Rattle.proto_tree.specs.declared.tree.Import.{Import}
use Rattle.proto_tree.specs.declared.tree.Package.{Package}
use Rattle.proto_tree.specs.declared.tree.Option_.{Option_}
use Rattle.proto_tree.specs.declared.tree.Field.{Field}
use Rattle.proto_tree.specs.declared.tree.MapField.{MapField}
use Rattle.proto_tree.specs.declared.tree.RangeEnd.{RangeEnd}
use Rattle.proto_tree.specs.declared.tree.RangeEnd.TheVariants as range_end
use Rattle.proto_tree.specs.declared.tree.UpTo.{UpTo}
use Rattle.proto_tree.specs.declared.tree.Range.{Range}
use Rattle.proto_tree.specs.declared.tree.ReservedList.{ReservedList}
use Rattle.proto_tree.specs.declared.tree.ReservedList.TheVariants as reserved_list
use Rattle.proto_tree.specs.declared.tree.Reserved.{Reserved}
use Rattle.proto_tree.specs.declared.tree.Extensions.{Extensions}
use Rattle.proto_tree.specs.declared.tree.Value.{Value}
use Rattle.proto_tree.specs.declared.tree.MethodType.{MethodType}
use Rattle.proto_tree.specs.declared.tree.Modifier.{Modifier}
use Rattle.proto_tree.specs.declared.tree.Modifier.TheVariants as modifier
use Rattle.proto_tree.specs.declared.tree.Signature.{Signature}
use Rattle.proto_tree.specs.declared.piece.Statement.{Statement}
use Rattle.proto_tree.specs.declared.piece.Statement.TheVariants as statement
use Rattle.proto_tree.specs.declared.piece.Heading.{Heading}
use Rattle.proto_tree.specs.declared.piece.Extending.{Extending}
use Rattle.proto_tree.specs.declared.piece.Header.{Header}
use Rattle.proto_tree.specs.declared.piece.Header.TheVariants as header
use Rattle.proto_tree.specs.declared.piece.Piece.{Piece}
use Rattle.proto_tree.specs.declared.piece.Piece.TheVariants as piece
use Rattle.proto_tree.specs.Classes.{fits}

-- a place of a tree: what it wants of its token, and the index of the token that it holds
pub record Mark : Type 0 where
  pub want : Expected
  pub at : ℕ

-- the place that wants this and holds the token of this index
abbrev pub mark : Expected → ℕ → Mark
mark w i = record { want = w; at = i }

-- a part that is one token, which is what is wanted
abbrev pub only : Expected → ℕ → List Mark
only w i = mark w i ∷ []

-- a part that is one token, of this class
abbrev pub one : Class → ℕ → List Mark
one c i = only (want.One c) i

-- any word, a listed one too
abbrev pub word : ℕ → List Mark
word i = only want.Word i

-- a word that names what is declared: any word, a listed one too
abbrev pub name : ℕ → List Mark
name i = only want.Name i

-- any string
abbrev pub text_mark : ℕ → List Mark
text_mark i = only want.Text i

-- the tokens are those of the marks: each is what is wanted, and has the index that the tree holds
abbrev pub Fit : List Mark → List Lexeme → Type 0
Fit [] [] = Unit {0}
Fit [] (l ∷ ls) = ⊥
Fit (m ∷ ms) [] = ⊥
Fit (m ∷ ms) (l ∷ ls) = (fits m.want l.class ≡ true) × (l.at ≡ m.at) × Fit ms ls

-- a part that may be left out
abbrev pub flat_option : {A : Type 0} → (A → List Mark) → Option A → List Mark
flat_option flat None = []
flat_option flat (Some x) = flat x

-- one after another
abbrev pub flat_all : {A : Type 0} → (A → List Mark) → List A → List Mark
flat_all flat [] = []
flat_all flat (x ∷ xs) = flat x ++ flat_all flat xs

-- a separator of this class, and the item behind it
abbrev pub flat_behind : {A : Type 0} → Class → (A → List Mark) → Behind A → List Mark
flat_behind c flat b = one c b.separator ++ flat b.item

-- the first item may want something else than the others
abbrev pub flat_from :
    {A : Type 0} → Class → (A → List Mark) → (A → List Mark) → Separated A → List Mark
flat_from c first flat s = first s.first ++ flat_all (flat_behind c flat) s.rest

-- one or more items, with a separator of this class between each two
abbrev pub flat_separated : {A : Type 0} → Class → (A → List Mark) → Separated A → List Mark
flat_separated c flat s = flat_from c flat flat s

-- ---- names and types

-- one or more words, with a dot between each two
abbrev pub flat_dotted : Separated ℕ → List Mark
flat_dotted d = flat_separated class.Dot word d

-- after a dot any word, else one that isn't listed
abbrev pub flat_words : Option ℕ → Separated ℕ → List Mark
flat_words None d = flat_from class.Dot (one class.Name) word d
flat_words (Some i) d = one class.Dot i ++ flat_dotted d

-- a reference: words joined by dots, with a dot before them where it is absolute
abbrev pub flat_reference : Reference → List Mark
flat_reference r = flat_words r.dot r.words

-- the type of a field: the word of a scalar type, or a reference
abbrev pub flat_type : FieldType → List Mark
flat_type (field_type.Scalar i) = one class.Scalar i
flat_type (field_type.Reference r) = flat_reference r

-- ---- options

-- a number without a sign
abbrev pub flat_number : ℕ → List Mark
flat_number i = one class.Number i

-- a number, with a `-` before it where there is one
abbrev pub flat_signed : Signed → List Mark
flat_signed n = flat_option (one class.Minus) n.minus ++ one class.Number n.number

-- one or more strings, one behind another, which join to one text
abbrev pub flat_joined : Joined → List Mark
flat_joined t = text_mark t.first ++ flat_all text_mark t.rest

-- what ends a value in braces while n of its inner braces are open: its brace, where none is open
abbrev pub last_expected : ℕ → Expected
last_expected zero = want.One class.Close
last_expected (suc n) = want.Nothing

-- what closes an inner brace while n are open: a brace, where one is open
abbrev pub inner_expected : ℕ → Expected
inner_expected zero = want.Nothing
inner_expected (suc n) = want.One class.Close

-- one open brace less
abbrev pub fewer : ℕ → ℕ
fewer zero = zero
fewer (suc n) = n

-- a token that is no word, no brace and no `:`: behind a `:` it may be a `[`, elsewhere not
abbrev pub other_expected : Bool → Expected
other_expected true = want.Element
other_expected false = want.Atom

-- what stands between the braces of a value, from where n inner braces are open, behind a `:` or
-- not, and the brace that ends it; tokens with a brace too many or too few are of no such value
abbrev pub flat_within : Bool → ℕ → List Atom → ℕ → List Mark
flat_within colon n [] j = only (last_expected n) j
flat_within colon n (atom.Open i ∷ rest) j = one class.Open i ++ flat_within false (suc n) rest j
flat_within colon n (atom.Close i ∷ rest) j =
    only (inner_expected n) i ++ flat_within false (fewer n) rest j
flat_within colon n (atom.Colon i ∷ rest) j = one class.Colon i ++ flat_within true n rest j
flat_within colon n (atom.Word i ∷ rest) j = only want.OptionName i ++ flat_within false n rest j
flat_within colon n (atom.Other i ∷ rest) j =
    only (other_expected colon) i ++ flat_within false n rest j

-- a value in braces: `{`, its tokens, and the `}` that ends it
abbrev pub flat_aggregate : Aggregate → List Mark
flat_aggregate a = one class.Open a.«open» ++ flat_within false 0 a.atoms a.close

-- the value of an option: a word, a number that may have a `-`, or strings
abbrev pub flat_constant : Constant → List Mark
flat_constant (constant.Word i) = only want.Constant i
flat_constant (constant.Number n) = flat_signed n
flat_constant (constant.Text t) = flat_joined t

-- the name of an extension: words joined by dots, listed ones too, with a dot before them where it
-- is absolute
abbrev pub flat_extension_name : Reference → List Mark
flat_extension_name r = flat_option (one class.Dot) r.dot ++ flat_dotted r.words

-- the value of a custom option: one of any option, or a value in braces
abbrev pub flat_custom_value : CustomValue → List Mark
flat_custom_value (custom_value.Constant c) = flat_constant c
flat_custom_value (custom_value.Aggregate a) = flat_aggregate a

-- a custom option that is set: the name of an extension in parentheses, behind it words that each
-- have a dot before them, `=` and a value
abbrev pub flat_custom : Custom → List Mark
flat_custom c =
    one class.NameParenthesis c.«open»
    ++ (flat_extension_name c.name
    ++ (one class.RightParenthesis c.close
    ++ (flat_all (flat_behind class.Dot (only want.OptionName)) c.path
    ++ (one class.Equals c.equals ++ flat_custom_value c.value))))

-- an option that is set by its word: the word, `=` and a value
abbrev pub flat_plain : Plain → List Mark
flat_plain p = only want.OptionName p.name ++ (one class.Equals p.equals ++ flat_constant p.value)

-- an option that is set, by its word or by the name of an extension
abbrev pub flat_setting : Setting → List Mark
flat_setting (setting.Plain p) = flat_plain p
flat_setting (setting.Custom c) = flat_custom c

-- settings: one or more between brackets, with a comma between each two
abbrev pub flat_settings : Settings → List Mark
flat_settings s =
    one class.LeftBracket s.open
    ++ (flat_separated class.Comma flat_setting s.list ++ one class.RightBracket s.close)

-- an option: `option`, what it sets, and `;`
abbrev pub flat_option_statement : Option_ → List Mark
flat_option_statement o =
    one class.Option o.keyword ++ (flat_setting o.setting ++ one class.Semicolon o.semicolon)

-- ---- statements of a file

-- the syntax statement: `syntax`, `=`, a string that says `proto2` or `proto3`, and `;`
abbrev pub flat_syntax : Syntax → List Mark
flat_syntax s =
    one class.Syntax s.keyword
    ++ (one class.Equals s.equals
    ++ (one class.ProtoText s.text ++ one class.Semicolon s.semicolon))

-- what stands behind `import`
abbrev pub flat_modifier : Modifier → List Mark
flat_modifier (modifier.Public i) = one class.Public i
flat_modifier (modifier.Weak i) = one class.ImportWeak i

-- an import: `import`, `public` or `weak` where it is there, the string of a path, and `;`
abbrev pub flat_import : Import → List Mark
flat_import i =
    one class.Import i.keyword
    ++ (flat_option flat_modifier i.modifier
    ++ (text_mark i.path ++ one class.Semicolon i.semicolon))

-- a package statement: `package`, words joined by dots, and `;`
abbrev pub flat_package : Package → List Mark
flat_package p =
    one class.Package p.keyword
    ++ (flat_separated class.Dot name p.name ++ one class.Semicolon p.semicolon)

-- ---- statements of a message

-- a field: its label where it has one, type, name, `=`, number, settings if any, and `;`
abbrev pub flat_field : Field → List Mark
flat_field f =
    flat_option (only want.Label) f.label
    ++ (flat_type f.kind
    ++ (name f.name
    ++ (one class.Equals f.equals
    ++ (one class.Number f.number
    ++ (flat_option flat_settings f.settings ++ one class.Semicolon f.semicolon)))))

-- a map field: `map`, `<`, a scalar type, `,`, a type and `>`, and then as a field from its name on
abbrev pub flat_map_field : MapField → List Mark
flat_map_field f =
    one class.Map f.keyword
    ++ (one class.Less f.open
    ++ (one class.Scalar f.key
    ++ (one class.Comma f.comma
    ++ (flat_type f.value
    ++ (one class.Greater f.close
    ++ (name f.name
    ++ (one class.Equals f.equals
    ++ (one class.Number f.number
    ++ (flat_option flat_settings f.settings ++ one class.Semicolon f.semicolon)))))))))

-- the end of a range: a number, or `max`
abbrev pub flat_range_end : {N : Type 0} → (N → List Mark) → RangeEnd N → List Mark
flat_range_end flat (range_end.Number n) = flat n
flat_range_end flat (range_end.Max i) = one class.Max i

-- what may stand behind the first number of a range: `to` and the end of the range
abbrev pub flat_up_to : {N : Type 0} → (N → List Mark) → UpTo N → List Mark
flat_up_to flat u = one class.To u.to ++ flat_range_end flat u.end

-- a range: a number, and `to` and an end where they are there
abbrev pub flat_range : {N : Type 0} → (N → List Mark) → Range N → List Mark
flat_range flat r = flat r.first ++ flat_option (flat_up_to flat) r.up_to

-- one or more ranges, with a comma between each two
abbrev pub flat_ranges : {N : Type 0} → (N → List Mark) → Separated (Range N) → List Mark
flat_ranges flat r = flat_separated class.Comma (flat_range flat) r

-- what is reserved: strings that say names, or ranges, with a comma between each two
abbrev pub flat_reserved_list : {N : Type 0} → (N → List Mark) → ReservedList N → List Mark
flat_reserved_list flat (reserved_list.Names names) = flat_separated class.Comma text_mark names
flat_reserved_list flat (reserved_list.Ranges ranges) = flat_ranges flat ranges

-- a `reserved` statement: `reserved`, names or ranges, and `;`
abbrev pub flat_reserved : {N : Type 0} → (N → List Mark) → Reserved N → List Mark
flat_reserved flat r =
    one class.Reserved r.keyword
    ++ (flat_reserved_list flat r.list ++ one class.Semicolon r.semicolon)

-- an `extensions` statement: `extensions`, ranges of numbers, and `;`
abbrev pub flat_extensions : Extensions → List Mark
flat_extensions e =
    one class.Extensions e.keyword
    ++ (flat_ranges flat_number e.ranges ++ one class.Semicolon e.semicolon)

-- ---- statements of an enum and of a service

-- a value of an enum: its name, `=`, a number that may have a `-`, settings if any, and `;`
abbrev pub flat_value : Value → List Mark
flat_value v =
    only want.ValueName v.name
    ++ (one class.Equals v.equals
    ++ (flat_signed v.number
    ++ (flat_option flat_settings v.settings ++ one class.Semicolon v.semicolon)))

-- the input or output of a method: a reference in parentheses, behind `stream` where it streams
abbrev pub flat_method_type : MethodType → List Mark
flat_method_type t =
    only want.Parenthesis t.open
    ++ (flat_option (one class.Stream) t.stream
    ++ (flat_reference t.reference ++ one class.RightParenthesis t.close))

-- what a method begins with: `rpc`, its name, its input, `returns` and its output
abbrev pub flat_signature : Signature → List Mark
flat_signature s =
    one class.Rpc s.keyword
    ++ (name s.name
    ++ (flat_method_type s.input
    ++ (one class.Returns s.returns ++ flat_method_type s.output)))

-- ---- pieces

-- a statement: what ends with `;`, also a method that has no block, and a lone `;`
abbrev pub flat_statement : Statement → List Mark
flat_statement (statement.Syntax s) = flat_syntax s
flat_statement (statement.Import i) = flat_import i
flat_statement (statement.Package p) = flat_package p
flat_statement (statement.Option o) = flat_option_statement o
flat_statement (statement.Field f) = flat_field f
flat_statement (statement.MapField f) = flat_map_field f
flat_statement (statement.Reserved r) = flat_reserved flat_number r
flat_statement (statement.Extensions e) = flat_extensions e
flat_statement (statement.Value v) = flat_value v
flat_statement (statement.EnumReserved r) = flat_reserved flat_signed r
flat_statement (statement.Method s i) = flat_signature s ++ one class.Semicolon i
flat_statement (statement.Empty i) = one class.Semicolon i

-- the keyword of a block and its name
abbrev pub flat_heading : Class → Heading → List Mark
flat_heading c h = one c h.keyword ++ name h.name

-- the beginning of an `extend` block: the keyword, and a reference to the message that it extends
abbrev pub flat_extending : Extending → List Mark
flat_extending e = one class.Extend e.keyword ++ flat_reference e.extendee

-- what stands before the `{` of a block: a keyword and a name, a method's signature, or `extend` with
-- a reference
abbrev pub flat_header : Header → List Mark
flat_header (header.Message h) = flat_heading class.Message h
flat_header (header.Oneof h) = flat_heading class.Oneof h
flat_header (header.Enum h) = flat_heading class.Enum h
flat_header (header.Service h) = flat_heading class.Service h
flat_header (header.Method s) = flat_signature s
flat_header (header.Extend e) = flat_extending e

-- a statement, or what begins or ends a block
abbrev pub flat_piece : Piece → List Mark
flat_piece (piece.Statement s) = flat_statement s
flat_piece (piece.Open h i) = flat_header h ++ one class.Open i
flat_piece (piece.Close i) = one class.Close i
