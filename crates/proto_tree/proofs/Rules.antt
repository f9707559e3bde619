-- Each reader reads exactly what is flattened.
use Rattle.std.proofs.Common.{◌≡◌, ℕ, Bool, true, false, List, ◌++◌, Option, Some, None, refl, subst, ◌⊎◌, inl, inr}
use Rattle.proto_tree.specs.Common.{Class, Separated, FieldType, CustomValue, Setting, flat_behind, flat_extension_name, flat_custom, flat_custom_value, flat_plain, behind_at, extension_name_at, custom_at, custom_value_at, plain_at, Constant, Signed, RangeEnd, ReservedList, Settings, fits, is_brace, Mark, only, one, word, name, text_mark, flat_from, flat_separated, flat_dotted, flat_reference, flat_type, flat_number, flat_signed, flat_joined, flat_constant, flat_setting, flat_settings, flat_option, flat_option_statement, flat_syntax, flat_import, flat_package, flat_field, flat_map_field, flat_range_end, flat_up_to, flat_range, flat_ranges, flat_reserved_list, flat_reserved, flat_extensions, flat_value, flat_method_type, flat_signature, Reader, ◌then◌, made, token, either, dotted_at, named_at, package_name_at, reference_at, type_at, signed_at, joined_at, constant_at, setting_at, settings_at, option_at, syntax_at, import_at, package_at, field_at, map_field_at, range_end_at, up_to_at, range_at, ranges_at, reserved_list_at, reserved_at, extensions_at, value_at, method_type_at, signature_at, maybe_settings, numbered_at, flat_modifier, modifier_at}
use Rattle.proto_tree.specs.declared.class.Class.TheVariants as class
use Rattle.proto_tree.specs.declared.class.Expected.TheVariants as want
use Rattle.proto_tree.specs.declared.tree.Reference.{Reference}
use Rattle.proto_tree.specs.declared.tree.FieldType.TheVariants as field_type
use Rattle.proto_tree.specs.declared.tree.Modifier.{Modifier}
use Rattle.proto_tree.specs.declared.tree.Modifier.TheVariants as modifier
use Rattle.proto_tree.specs.declared.tree.Constant.TheVariants as constant
use Rattle.proto_tree.specs.declared.tree.CustomValue.TheVariants as custom_value
use Rattle.proto_tree.specs.declared.tree.Setting.TheVariants as setting
use Rattle.proto_tree.proofs.Values.{aggregate-exact}
use Rattle.proto_tree.specs.declared.tree.Joined.{Joined}
use Rattle.proto_tree.specs.declared.tree.RangeEnd.TheVariants as range_end
use Rattle.proto_tree.specs.declared.tree.ReservedList.TheVariants as reserved_list
use Rattle.proto_tree.proofs.Exact.{IsExact, never, any_of, next, or_next, token_then, renamed, one_of, if_any, all, tok, apart, IsMade, Left, Right, after_token, from-exact, separated-exact, made_either}

abbrev is : Class → Class → Bool
is c = fits (want.One c)

the : (c : Class) → apart (fits (want.One c)) is_brace ≡ true → IsExact is_brace true (is c) never (one c) (token (want.One c))
the c e = tok (want.One c) e

a_word : IsExact is_brace true (fits want.Word) never word (token want.Word)
a_word = tok want.Word refl

a_name : IsExact is_brace true (fits want.Name) never name (token want.Name)
a_name = tok want.Name refl

an_option_name : IsExact is_brace true (fits want.OptionName) never (only want.OptionName) (token want.OptionName)
an_option_name = tok want.OptionName refl

a_constant : IsExact is_brace true (fits want.Constant) never (only want.Constant) (token want.Constant)
a_constant = tok want.Constant refl

a_text : IsExact is_brace true (fits want.Text) never text_mark (token want.Text)
a_text = tok want.Text refl

the_semicolon : IsExact is_brace true (is class.Semicolon) never (one class.Semicolon) (token (want.One class.Semicolon))
the_semicolon = the class.Semicolon refl

-- ---- names and types

abbrev pub dots : Class → Bool
dots = any_of (is class.Dot) never

dotted-exact : IsExact is_brace true (fits want.Word) dots flat_dotted dotted_at
dotted-exact = separated-exact class.Dot refl refl a_word

package_name-exact : IsExact is_brace true (fits want.Name) dots (flat_separated class.Dot name) package_name_at
package_name-exact = separated-exact class.Dot refl refl a_name

named-exact : IsExact is_brace true (is class.Name) dots (flat_from class.Dot (one class.Name) word) named_at
named-exact = from-exact class.Dot refl (the class.Name refl) a_word refl (after_token false (is class.Dot) dots)

abbrev with_dot : ℕ × Separated ℕ → Reference
with_dot x = record { dot = Some x.0; words = x.1 }

abbrev with_none : Separated ℕ → Reference
with_none x = record { dot = None; words = x }

reference_made : (dot : Option ℕ) (words : Separated ℕ) → IsMade with_dot with_none (record { dot = dot; words = words })
reference_made (Some i) words = Left (i, words)
reference_made None words = Right words

abbrev pub starts_reference : Class → Bool
starts_reference = any_of (is class.Dot) (is class.Name)

pub reference-exact : IsExact is_brace true starts_reference (any_of dots dots) flat_reference reference_at
unfolding reference_at
reference-exact = one_of (want.One class.Dot) flat_reference with_dot with_none (λ r. reference_made r.dot r.words) (token_then (the class.Dot refl) dotted-exact) named-exact refl refl

type_made : (t : FieldType) → IsMade field_type.Scalar field_type.Reference t
type_made (field_type.Scalar i) = Left i
type_made (field_type.Reference r) = Right r

abbrev pub starts_type : Class → Bool
starts_type = any_of (is class.Scalar) starts_reference

abbrev pub after_type : Class → Bool
after_type = any_of never (any_of dots dots)

type-exact : IsExact is_brace true starts_type after_type flat_type type_at
unfolding type_at
type-exact = one_of (want.One class.Scalar) flat_type field_type.Scalar field_type.Reference type_made (the class.Scalar refl) reference-exact refl refl

-- ---- options

abbrev pub starts_signed : Class → Bool
starts_signed = any_of (is class.Minus) (is class.Number)

a_number : IsExact is_brace true (is class.Number) never flat_number (token (want.One class.Number))
a_number = the class.Number refl

signed-exact : IsExact is_brace true starts_signed never flat_signed signed_at
unfolding signed_at
signed-exact = renamed flat_signed (λ x. record { minus = x.0; number = x.1 }) (λ n. (n.minus, n.number)) (λ n. refl) (or_next (if_any (want.One class.Minus) (the class.Minus refl) refl) (the class.Number refl) refl)

abbrev more_text : Class → Bool
more_text = any_of (fits want.Text) never

joined-exact : IsExact is_brace true (fits want.Text) more_text flat_joined joined_at
unfolding joined_at
joined-exact = renamed flat_joined (λ x. record { first = x.0; rest = x.1 }) (λ t. (t.first, t.rest)) (λ t. refl) (token_then a_text (all want.Text a_text refl refl))

abbrev text_or_number : Joined ⊎ Signed → Constant
text_or_number (inl t) = constant.Text t
text_or_number (inr n) = constant.Number n

abbrev flat_either : Joined ⊎ Signed → List Mark
flat_either x = flat_constant (text_or_number x)

sum_made : (x : Joined ⊎ Signed) → IsMade inl inr x
sum_made (inl t) = Left t
sum_made (inr n) = Right n

constant_made : (x : Constant) → IsMade constant.Word text_or_number x
constant_made (constant.Word i) = Left i
constant_made (constant.Text t) = Right (inl t)
constant_made (constant.Number n) = Right (inr n)

abbrev pub starts_constant : Class → Bool
starts_constant = any_of (fits want.Constant) (any_of (fits want.Text) starts_signed)

abbrev pub after_constant : Class → Bool
after_constant = any_of never (any_of more_text never)

text_or_number-exact : IsExact is_brace true (any_of (fits want.Text) starts_signed) (any_of more_text never) flat_either (either want.Text (made inl joined_at) (made inr signed_at))
text_or_number-exact = one_of want.Text flat_either inl inr sum_made joined-exact signed-exact refl refl

constant-exact : IsExact is_brace true starts_constant after_constant flat_constant constant_at
unfolding constant_at
constant-exact =
    subst (λ r. IsExact is_brace true starts_constant after_constant flat_constant (either want.Constant (made constant.Word (token want.Constant)) r)) (made_either text_or_number inl inr want.Text joined_at signed_at)
    (one_of want.Constant flat_constant constant.Word text_or_number constant_made a_constant text_or_number-exact refl refl)

extension_name-exact : IsExact is_brace true (any_of (is class.Dot) (fits want.Word)) dots flat_extension_name extension_name_at
extension_name-exact = renamed flat_extension_name (λ x. record { dot = x.0; words = x.1 }) (λ r. (r.dot, r.words)) (λ r. refl) (or_next (if_any (want.One class.Dot) (the class.Dot refl) refl) dotted-exact refl)

path_word-exact : IsExact is_brace true (is class.Dot) never (flat_behind class.Dot (only want.OptionName)) (behind_at class.Dot (token want.OptionName))
unfolding behind_at
path_word-exact = renamed (flat_behind class.Dot (only want.OptionName)) (λ x. record { separator = x.0; item = x.1 }) (λ b. (b.separator, b.item)) (λ b. refl) (token_then (the class.Dot refl) an_option_name)

custom_value_made : (x : CustomValue) → IsMade custom_value.Aggregate custom_value.Constant x
custom_value_made (custom_value.Aggregate a) = Left a
custom_value_made (custom_value.Constant c) = Right c

custom_value-exact : IsExact is_brace true (any_of (is class.Open) starts_constant) (any_of never after_constant) flat_custom_value custom_value_at
unfolding custom_value_at
custom_value-exact = one_of (want.One class.Open) flat_custom_value custom_value.Aggregate custom_value.Constant custom_value_made aggregate-exact constant-exact refl refl

custom-exact : IsExact is_brace true (is class.NameParenthesis) (any_of never after_constant) flat_custom custom_at
unfolding custom_at
custom-exact = renamed flat_custom (λ x. record { «open» = x.0; name = x.1.0; close = x.1.1.0; path = x.1.1.1.0; equals = x.1.1.1.1.0; value = x.1.1.1.1.1 }) (λ c. (c.«open», (c.name, (c.close, (c.path, (c.equals, c.value)))))) (λ c. refl)
    (token_then (the class.NameParenthesis refl) (next extension_name-exact (token_then (the class.RightParenthesis refl) (or_next (all (want.One class.Dot) path_word-exact refl refl) (token_then (the class.Equals refl) custom_value-exact) refl)) refl))

plain-exact : IsExact is_brace true (fits want.OptionName) after_constant flat_plain plain_at
unfolding plain_at
plain-exact = renamed flat_plain (λ x. record { name = x.0; equals = x.1.0; value = x.1.1 }) (λ s. (s.name, (s.equals, s.value))) (λ s. refl) (token_then an_option_name (token_then (the class.Equals refl) constant-exact))

setting_made : (x : Setting) → IsMade setting.Custom setting.Plain x
setting_made (setting.Custom c) = Left c
setting_made (setting.Plain p) = Right p

setting-exact : IsExact is_brace true (any_of (is class.NameParenthesis) (fits want.OptionName)) (any_of (any_of never after_constant) after_constant) flat_setting setting_at
unfolding setting_at
setting-exact = one_of (want.One class.NameParenthesis) flat_setting setting.Custom setting.Plain setting_made custom-exact plain-exact refl refl

settings-exact : IsExact is_brace true (is class.LeftBracket) never flat_settings settings_at
unfolding settings_at
settings-exact = renamed flat_settings (λ x. record { «open» = x.0; list = x.1.0; close = x.1.1 }) (λ s. (s.«open», (s.list, s.close))) (λ s. refl)
    (token_then (the class.LeftBracket refl) (next (separated-exact class.Comma refl refl setting-exact) (the class.RightBracket refl) refl))

pub option-exact : IsExact is_brace true (is class.Option) never flat_option_statement option_at
unfolding option_at
option-exact = renamed flat_option_statement (λ x. record { keyword = x.0; setting = x.1.0; semicolon = x.1.1 }) (λ o. (o.keyword, (o.setting, o.semicolon))) (λ o. refl)
    (token_then (the class.Option refl) (next setting-exact the_semicolon refl))

-- ---- statements of a file

pub syntax-exact : IsExact is_brace true (is class.Syntax) never flat_syntax syntax_at
unfolding syntax_at
syntax-exact = renamed flat_syntax
    (λ x. record { keyword = x.0; equals = x.1.0; text = x.1.1.0; semicolon = x.1.1.1 }) (λ f. (f.keyword, (f.equals, (f.text, f.semicolon)))) (λ f. refl)
    (token_then (the class.Syntax refl) (token_then (the class.Equals refl) (token_then (the class.ProtoText refl) the_semicolon)))

modifier_made : (x : Modifier) → IsMade modifier.Public modifier.Weak x
modifier_made (modifier.Public i) = Left i
modifier_made (modifier.Weak i) = Right i

modifier-exact : IsExact is_brace true (any_of (is class.Public) (is class.ImportWeak)) (any_of never never) flat_modifier modifier_at
unfolding modifier_at
modifier-exact = one_of (want.One class.Public) flat_modifier modifier.Public modifier.Weak modifier_made (the class.Public refl) (the class.ImportWeak refl) refl refl

pub import-exact : IsExact is_brace true (is class.Import) never flat_import import_at
unfolding import_at
import-exact = renamed flat_import
    (λ x. record { keyword = x.0; modifier = x.1.0; path = x.1.1.0; semicolon = x.1.1.1 }) (λ f. (f.keyword, (f.modifier, (f.path, f.semicolon)))) (λ f. refl)
    (token_then (the class.Import refl) (or_next (if_any want.Modifier modifier-exact refl) (token_then a_text the_semicolon) refl))

pub package-exact : IsExact is_brace true (is class.Package) never flat_package package_at
unfolding package_at
package-exact = renamed flat_package
    (λ x. record { keyword = x.0; name = x.1.0; semicolon = x.1.1 }) (λ f. (f.keyword, (f.name, f.semicolon))) (λ f. refl)
    (token_then (the class.Package refl) (next package_name-exact the_semicolon refl))

-- ---- statements of a message

abbrev flat_ended : Option Settings × ℕ → List Mark
flat_ended x = flat_option flat_settings x.0 ++ one class.Semicolon x.1

abbrev starts_ended : Class → Bool
starts_ended = any_of (is class.LeftBracket) (is class.Semicolon)

ended-exact : IsExact is_brace true starts_ended never flat_ended (maybe_settings then token (want.One class.Semicolon))
ended-exact = or_next (if_any (want.One class.LeftBracket) settings-exact refl) the_semicolon refl

abbrev flat_numbered : ℕ × (ℕ × (ℕ × (Option Settings × ℕ))) → List Mark
flat_numbered x = name x.0 ++ (one class.Equals x.1.0 ++ (one class.Number x.1.1.0 ++ flat_ended x.1.1.1))

numbered-exact : IsExact is_brace true (fits want.Name) never flat_numbered numbered_at
numbered-exact = token_then a_name (token_then (the class.Equals refl) (token_then a_number ended-exact))

abbrev pub starts_field : Class → Bool
starts_field = any_of (fits want.Label) starts_type

pub field-exact : IsExact is_brace true starts_field never flat_field field_at
unfolding field_at
field-exact = renamed flat_field
    (λ x. record { label = x.0; kind = x.1.0; name = x.1.1.0; equals = x.1.1.1.0; number = x.1.1.1.1.0; settings = x.1.1.1.1.1.0; semicolon = x.1.1.1.1.1.1 })
    (λ f. (f.label, (f.kind, (f.name, (f.equals, (f.number, (f.settings, f.semicolon))))))) (λ f. refl)
    (or_next (if_any want.Label (tok want.Label refl) refl) (next type-exact numbered-exact refl) refl)

pub map_field-exact : IsExact is_brace true (is class.Map) never flat_map_field map_field_at
unfolding map_field_at
map_field-exact = renamed flat_map_field
    (λ x. record {
      keyword = x.0;
      «open» = x.1.0;
      key = x.1.1.0;
      comma = x.1.1.1.0;
      value = x.1.1.1.1.0;
      close = x.1.1.1.1.1.0;
      name = x.1.1.1.1.1.1.0;
      equals = x.1.1.1.1.1.1.1.0;
      number = x.1.1.1.1.1.1.1.1.0;
      settings = x.1.1.1.1.1.1.1.1.1.0;
      semicolon = x.1.1.1.1.1.1.1.1.1.1;
    })
    (λ f. (f.keyword, (f.«open», (f.key, (f.comma, (f.value, (f.close, (f.name, (f.equals, (f.number, (f.settings, f.semicolon))))))))))) (λ f. refl)
    (token_then (the class.Map refl) (token_then (the class.Less refl) (token_then (the class.Scalar refl) (token_then (the class.Comma refl) (next type-exact (token_then (the class.Greater refl) numbered-exact) refl)))))

-- ranges of numbers that n reads
module _ {N : Type 0} {first : Class → Bool} {flat_n : N → List Mark} {n : Reader N} (h : IsExact is_brace true first never flat_n n) (no_max : apart first (is class.Max) ≡ true) (no_text : apart first (fits want.Text) ≡ true) where
  range_end_made : (e : RangeEnd N) → IsMade range_end.Max range_end.Number e
  range_end_made (range_end.Max i) = Left i
  range_end_made (range_end.Number i) = Right i

  range_end-exact : IsExact is_brace true (any_of (is class.Max) first) (any_of never never) (flat_range_end flat_n) (range_end_at n)
  unfolding range_end_at
  range_end-exact = one_of (want.One class.Max) (flat_range_end flat_n) range_end.Max range_end.Number range_end_made (the class.Max refl) h refl no_max

  up_to-exact : IsExact is_brace true (is class.To) (any_of never never) (flat_up_to flat_n) (up_to_at n)
  unfolding up_to_at
  up_to-exact = renamed (flat_up_to flat_n) (λ x. record { to = x.0; end = x.1 }) (λ u. (u.to, u.end)) (λ u. refl) (token_then (the class.To refl) range_end-exact)

  range-exact : IsExact is_brace true first (any_of (is class.To) (any_of never never)) (flat_range flat_n) (range_at n)
  unfolding range_at
  range-exact = renamed (flat_range flat_n) (λ x. record { first = x.0; up_to = x.1 }) (λ r. (r.first, r.up_to)) (λ r. refl) (token_then h (if_any (want.One class.To) up_to-exact refl))

  ranges-exact : IsExact is_brace true first (any_of (is class.Comma) (any_of (is class.To) (any_of never never))) (flat_ranges flat_n) (ranges_at n)
  ranges-exact = separated-exact class.Comma refl refl range-exact

  reserved_list_made : (l : ReservedList N) → IsMade reserved_list.Names reserved_list.Ranges l
  reserved_list_made (reserved_list.Names t) = Left t
  reserved_list_made (reserved_list.Ranges r) = Right r

  reserved_list-exact : IsExact is_brace true (any_of (fits want.Text) first) (any_of (any_of (is class.Comma) never) (any_of (is class.Comma) (any_of (is class.To) (any_of never never)))) (flat_reserved_list flat_n) (reserved_list_at n)
  unfolding reserved_list_at
  reserved_list-exact = one_of want.Text (flat_reserved_list flat_n) reserved_list.Names reserved_list.Ranges reserved_list_made (separated-exact class.Comma refl refl a_text) ranges-exact refl no_text

  pub reserved_with : IsExact is_brace true (is class.Reserved) never (flat_reserved flat_n) (reserved_at n)
  unfolding reserved_at
  reserved_with = renamed (flat_reserved flat_n) (λ x. record { keyword = x.0; list = x.1.0; semicolon = x.1.1 }) (λ r. (r.keyword, (r.list, r.semicolon))) (λ r. refl)
      (token_then (the class.Reserved refl) (next reserved_list-exact the_semicolon refl))

pub reserved-exact : IsExact is_brace true (is class.Reserved) never (flat_reserved flat_number) (reserved_at (token (want.One class.Number)))
reserved-exact = reserved_with a_number refl refl

pub extensions-exact : IsExact is_brace true (is class.Extensions) never flat_extensions extensions_at
unfolding extensions_at
extensions-exact = renamed flat_extensions (λ x. record { keyword = x.0; ranges = x.1.0; semicolon = x.1.1 }) (λ r. (r.keyword, (r.ranges, r.semicolon))) (λ r. refl)
    (token_then (the class.Extensions refl) (next (ranges-exact a_number refl refl) the_semicolon refl))

-- ---- statements of an enum and of a service

pub enum_reserved-exact : IsExact is_brace true (is class.Reserved) never (flat_reserved flat_signed) (reserved_at signed_at)
enum_reserved-exact = reserved_with signed-exact refl refl

pub value-exact : IsExact is_brace true (fits want.ValueName) never flat_value value_at
unfolding value_at
value-exact = renamed flat_value
    (λ x. record { name = x.0; equals = x.1.0; number = x.1.1.0; settings = x.1.1.1.0; semicolon = x.1.1.1.1 }) (λ v. (v.name, (v.equals, (v.number, (v.settings, v.semicolon))))) (λ v. refl)
    (token_then (tok want.ValueName refl) (token_then (the class.Equals refl) (token_then signed-exact ended-exact)))

method_type-exact : IsExact is_brace true (fits want.Parenthesis) never flat_method_type method_type_at
unfolding method_type_at
method_type-exact = renamed flat_method_type
    (λ x. record { «open» = x.0; stream = x.1.0; reference = x.1.1.0; close = x.1.1.1 }) (λ t. (t.«open», (t.stream, (t.reference, t.close)))) (λ t. refl)
    (token_then (tok want.Parenthesis refl) (or_next (if_any (want.One class.Stream) (the class.Stream refl) refl) (next reference-exact (the class.RightParenthesis refl) refl) refl))

pub signature-exact : IsExact is_brace true (is class.Rpc) never flat_signature signature_at
unfolding signature_at
signature-exact = renamed flat_signature
    (λ x. record { keyword = x.0; name = x.1.0; input = x.1.1.0; returns = x.1.1.1.0; output = x.1.1.1.1 }) (λ s. (s.keyword, (s.name, (s.input, (s.returns, s.output))))) (λ s. refl)
    (token_then (the class.Rpc refl) (token_then a_name (token_then method_type-exact (token_then (the class.Returns refl) method_type-exact))))
