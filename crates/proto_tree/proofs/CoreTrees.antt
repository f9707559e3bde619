-- What is read in the core language is read as written (for the crates above).
use Rattle.std.proofs.Common.{◌≡◌, ℕ, zero, suc, ◌+◌, ◌≤◌, Bool, true, false, not, ◌==◌, eqb-true, ◌||◌, ◌&&◌, cond, List, [], ◌∷◌, ◌++◌, length, take, map, codes, bytes_eq, Option, Some, None, refl, sym, ap, subst, ◌∙◌, arith, inl, inr}
use Rattle.std.specs.List.{Contains}
use Rattle.proto_base.proofs.Common.{contains_cases}
use Rattle.proto_base.specs.declared.profile.Profile.TheVariants as profile
use Rattle.proto_text.specs.declared.kind.TokenKind.{TokenKind}
use Rattle.proto_text.specs.declared.kind.TokenKind.TheVariants.{Word, Number, Text, Punctuation}
use Rattle.proto_text.proofs.Common.{Lexeme, colon_lexeme, lexeme_at, says, tokens_are_written, tokens_without_colon}
use Rattle.proto_tree.specs.Common.{Class, Expected, Atom, CustomValue, Settings, code, fits, Fit, Mark, flat_all, flat_behind, flat_constant, flat_custom, flat_custom_value, flat_dotted, flat_extension_name, flat_extensions, flat_field, flat_from, flat_header, flat_heading, flat_import, flat_joined, flat_map_field, flat_method_type, flat_number, flat_option, flat_option_statement, flat_package, flat_range, flat_range_end, flat_ranges, flat_reference, flat_reserved, flat_reserved_list, flat_separated, flat_setting, flat_settings, flat_signature, flat_signed, flat_statement, flat_syntax, flat_type, flat_up_to, flat_value, flat_within, flat_words, inner_expected, last_expected, other_expected, fewer, only, open_after, open_from, IsShallow, Tree, End, Leaf, Block, flat, Listed, class_in, listed, marks, class_by, class_as, classes, classes_in, any_for, is_for, CoreTreesArePlain, CoreTreesAreWritten, TreesHaveTokens, one, word, name, text_mark, Custom, CoreTreesHaveNoWeakImport, flat_modifier}
use Rattle.proto_tree.specs.declared.class.Class.TheVariants as class
use Rattle.proto_tree.specs.declared.class.Expected.TheVariants as want
use Rattle.proto_tree.specs.declared.piece.Header.TheVariants as header
use Rattle.proto_tree.specs.declared.piece.Statement.TheVariants as statement
use Rattle.proto_tree.specs.declared.tree.Atom.TheVariants as atom
use Rattle.proto_tree.specs.declared.tree.Constant.TheVariants as constant
use Rattle.proto_tree.specs.declared.tree.CustomValue.TheVariants as custom_value
use Rattle.proto_tree.specs.declared.tree.FieldType.TheVariants as field_type
use Rattle.proto_tree.specs.declared.tree.Modifier.TheVariants as modifier
use Rattle.proto_tree.specs.declared.tree.RangeEnd.TheVariants as range_end
use Rattle.proto_tree.specs.declared.tree.ReservedList.TheVariants as reserved_list
use Rattle.proto_tree.specs.declared.tree.Setting.TheVariants as setting

-- ---- what the places of a tree want

-- a place that wants a token alone whose class is another as written: a `(`, or `weak`
abbrev pub is_changed : Expected → Bool
is_changed w = is_for class.LeftParenthesis w || is_for class.Weak w

-- one of the places does
abbrev pub any_changed : List Mark → Bool
any_changed [] = false
any_changed (m ∷ ms) = is_changed m.want || any_changed ms

-- no place wants such a token alone, and one that wants a `:` is of a custom option
pub record IsCore (ms : List Mark) : Type 0 where
  pub unchanged : any_changed ms ≡ false
  colon : any_for class.NameParenthesis ms ≡ false → any_for class.Colon ms ≡ false

true_not_false : true ≡ false → ⊥
true_not_false e = cc

false_not_true : false ≡ true → ⊥
false_not_true e = cc

or_assoc : (a b c : Bool) → (a || b) || c ≡ a || (b || c)
or_assoc true b c = refl
or_assoc false b c = refl

any_append : (c : Class) (a b : List Mark) → any_for c (a ++ b) ≡ any_for c a || any_for c b
any_append c [] b = refl
any_append c (m ∷ a) b = ap (λ (x : Bool). is_for c m.want || x) (any_append c a b) ∙ sym (or_assoc (is_for c m.want) (any_for c a) (any_for c b))

changed_append : (a b : List Mark) → any_changed (a ++ b) ≡ any_changed a || any_changed b
changed_append [] b = refl
changed_append (m ∷ a) b = ap (λ (x : Bool). is_changed m.want || x) (changed_append a b) ∙ sym (or_assoc (is_changed m.want) (any_changed a) (any_changed b))

both_false : (a b : Bool) → a ≡ false → b ≡ false → a || b ≡ false
both_false false b e f = f
both_false true b e f = absurd (true_not_false e)

pub first_false : (a b : Bool) → a || b ≡ false → a ≡ false
first_false false b e = refl
first_false true b e = absurd (true_not_false e)

pub second_false : (a b : Bool) → a || b ≡ false → b ≡ false
second_false false b e = e
second_false true b e = absurd (true_not_false e)

then : (a b : List Mark) → IsCore a → IsCore b → IsCore (a ++ b)
then a b x y = record {
  unchanged = changed_append a b ∙ both_false (any_changed a) (any_changed b) x.unchanged y.unchanged;
  colon = λ e.
      let none : any_for class.NameParenthesis a || any_for class.NameParenthesis b ≡ false = sym (any_append class.NameParenthesis a b) ∙ e in
      any_append class.Colon a b ∙ both_false (any_for class.Colon a) (any_for class.Colon b)
      (x.colon (first_false (any_for class.NameParenthesis a) (any_for class.NameParenthesis b) none))
      (y.colon (second_false (any_for class.NameParenthesis a) (any_for class.NameParenthesis b) none));
}

-- a place that wants neither
abbrev is_new : Expected → Bool
is_new w = is_changed w || is_for class.Colon w

or_none : (a : Bool) → a ≡ false → a || false ≡ false
or_none false e = refl
or_none true e = absurd (true_not_false e)

plain : (w : Expected) (i : ℕ) → is_new w ≡ false → IsCore (only w i)
plain w i e = record {
  unchanged = or_none (is_changed w) (first_false (is_changed w) (is_for class.Colon w) e);
  colon = λ h. or_none (is_for class.Colon w) (second_false (is_changed w) (is_for class.Colon w) e);
}

none : IsCore []
none = record { unchanged = refl; colon = λ e. refl }

abbrev AreCore : {A : Type 0} → (A → List Mark) → Type 0
AreCore {A = A} f = (x : A) → IsCore (f x)

maybe_core : {A : Type 0} (f : A → List Mark) → AreCore f → AreCore (flat_option f)
maybe_core f h None = none
maybe_core f h (Some x) = h x

all_core : {A : Type 0} (f : A → List Mark) → AreCore f → AreCore (flat_all f)
all_core f h [] = none
all_core f h (x ∷ xs) = then (f x) (flat_all f xs) (h x) (all_core f h xs)

behind_core : {A : Type 0} (c : Class) (f : A → List Mark) → is_new (want.One c) ≡ false → AreCore f → AreCore (flat_behind c f)
behind_core c f e h b = then (only (want.One c) b.separator) (f b.item) (plain (want.One c) b.separator e) (h b.item)

from_core : {A : Type 0} (c : Class) (first f : A → List Mark) → is_new (want.One c) ≡ false → AreCore first → AreCore f → AreCore (flat_from c first f)
from_core c first f e g h s = then (first s.first) (flat_all (flat_behind c f) s.rest) (g s.first) (all_core (flat_behind c f) (behind_core c f e h) s.rest)

-- ---- names, types and options

token : (w : Expected) → is_new w ≡ false → AreCore (only w)
token w e i = plain w i e

dotted_core : AreCore flat_dotted
dotted_core d = from_core class.Dot word word refl (token want.Word refl) (token want.Word refl) d

words_core : (dot : Option ℕ) → AreCore (flat_words dot)
words_core None d = from_core class.Dot (one class.Name) word refl (token (want.One class.Name) refl) (token want.Word refl) d
words_core (Some i) d = then (one class.Dot i) (flat_dotted d) (plain (want.One class.Dot) i refl) (dotted_core d)

reference_core : AreCore flat_reference
reference_core r = words_core r.dot r.words

type_core : AreCore flat_type
type_core (field_type.Scalar i) = plain (want.One class.Scalar) i refl
type_core (field_type.Reference r) = reference_core r

number_core : AreCore flat_number
number_core = token (want.One class.Number) refl

signed_core : AreCore flat_signed
signed_core n = then (flat_option (one class.Minus) n.minus) (one class.Number n.number) (maybe_core (one class.Minus) (token (want.One class.Minus) refl) n.minus) (plain (want.One class.Number) n.number refl)

joined_core : AreCore flat_joined
joined_core t = then (text_mark t.first) (flat_all text_mark t.rest) (plain want.Text t.first refl) (all_core text_mark (token want.Text refl) t.rest)

constant_core : AreCore flat_constant
constant_core (constant.Word i) = plain want.Constant i refl
constant_core (constant.Number n) = signed_core n
constant_core (constant.Text t) = joined_core t

-- no place wants such a token alone
abbrev HasNone : List Mark → Type 0
HasNone ms = any_changed ms ≡ false

none_then : (a b : List Mark) → HasNone a → HasNone b → HasNone (a ++ b)
none_then a b x y = changed_append a b ∙ both_false (any_changed a) (any_changed b) x y

none_last : (n j : ℕ) → HasNone (only (last_expected n) j)
none_last zero j = refl
none_last (suc n) j = refl

none_inner : (n j : ℕ) → HasNone (only (inner_expected n) j)
none_inner zero j = refl
none_inner (suc n) j = refl

none_other : (colon : Bool) (j : ℕ) → HasNone (only (other_expected colon) j)
none_other true j = refl
none_other false j = refl

none_within : (colon : Bool) (n : ℕ) (atoms : List Atom) (j : ℕ) → HasNone (flat_within colon n atoms j)
none_within colon n [] j = none_last n j
none_within colon n (atom.Open i ∷ rest) j = none_then (one class.Open i) (flat_within false (suc n) rest j) refl (none_within false (suc n) rest j)
none_within colon n (atom.Close i ∷ rest) j = none_then (only (inner_expected n) i) (flat_within false (fewer n) rest j) (none_inner n i) (none_within false (fewer n) rest j)
none_within colon n (atom.Colon i ∷ rest) j = none_then (one class.Colon i) (flat_within true n rest j) refl (none_within true n rest j)
none_within colon n (atom.Word i ∷ rest) j = none_then (only want.OptionName i) (flat_within false n rest j) refl (none_within false n rest j)
none_within colon n (atom.Other i ∷ rest) j = none_then (only (other_expected colon) i) (flat_within false n rest j) (none_other colon i) (none_within false n rest j)

none_value : (v : CustomValue) → HasNone (flat_custom_value v)
none_value (custom_value.Constant c) = (constant_core c).unchanged
none_value (custom_value.Aggregate a) = none_then (one class.Open a.«open») (flat_within false 0 a.atoms a.close) refl (none_within false 0 a.atoms a.close)

extension_name_core : AreCore flat_extension_name
extension_name_core r = then (flat_option (one class.Dot) r.dot) (flat_dotted r.words) (maybe_core (one class.Dot) (token (want.One class.Dot) refl) r.dot) (dotted_core r.words)

plain_custom : (c : Custom) → HasNone (flat_custom c)
plain_custom c =
    let path : List Mark = flat_all (flat_behind class.Dot (only want.OptionName)) c.path in
    let value : List Mark = one class.Equals c.equals ++ flat_custom_value c.value in
    none_then (one class.NameParenthesis c.«open») (flat_extension_name c.name ++ (one class.RightParenthesis c.close ++ (path ++ value))) refl
    (none_then (flat_extension_name c.name) (one class.RightParenthesis c.close ++ (path ++ value)) (extension_name_core c.name).unchanged
    (none_then (one class.RightParenthesis c.close) (path ++ value) refl
    (none_then path value (all_core (flat_behind class.Dot (only want.OptionName)) (behind_core class.Dot (only want.OptionName) refl (token want.OptionName refl)) c.path).unchanged
    (none_then (one class.Equals c.equals) (flat_custom_value c.value) refl (none_value c.value)))))

-- it has a place for the `(` of an extension's name
custom_has : (c : Custom) → any_for class.NameParenthesis (flat_custom c) ≡ false → any_for class.Colon (flat_custom c) ≡ false
custom_has c e = absurd (true_not_false e)

custom_core : AreCore flat_custom
custom_core c = record { unchanged = plain_custom c; colon = custom_has c }

setting_core : AreCore flat_setting
setting_core (setting.Plain p) =
    then (only want.OptionName p.name) (one class.Equals p.equals ++ flat_constant p.value) (plain want.OptionName p.name refl)
    (then (one class.Equals p.equals) (flat_constant p.value) (plain (want.One class.Equals) p.equals refl) (constant_core p.value))
setting_core (setting.Custom c) = custom_core c

settings_core : AreCore flat_settings
settings_core s =
    then (one class.LeftBracket s.«open») (flat_separated class.Comma flat_setting s.list ++ one class.RightBracket s.close) (plain (want.One class.LeftBracket) s.«open» refl)
    (then (flat_separated class.Comma flat_setting s.list) (one class.RightBracket s.close) (from_core class.Comma flat_setting flat_setting refl setting_core setting_core s.list) (plain (want.One class.RightBracket) s.close refl))

-- ---- statements

option_core : AreCore flat_option_statement
option_core o =
    then (one class.Option o.keyword) (flat_setting o.setting ++ one class.Semicolon o.semicolon) (plain (want.One class.Option) o.keyword refl)
    (then (flat_setting o.setting) (one class.Semicolon o.semicolon) (setting_core o.setting) (plain (want.One class.Semicolon) o.semicolon refl))

modifier_core : AreCore flat_modifier
modifier_core (modifier.Public i) = plain (want.One class.Public) i refl
modifier_core (modifier.Weak i) = plain (want.One class.ImportWeak) i refl

import_core : AreCore flat_import
import_core i =
    then (one class.Import i.keyword) (flat_option flat_modifier i.modifier ++ (text_mark i.path ++ one class.Semicolon i.semicolon)) (plain (want.One class.Import) i.keyword refl)
    (then (flat_option flat_modifier i.modifier) (text_mark i.path ++ one class.Semicolon i.semicolon) (maybe_core flat_modifier modifier_core i.modifier)
    (then (text_mark i.path) (one class.Semicolon i.semicolon) (plain want.Text i.path refl) (plain (want.One class.Semicolon) i.semicolon refl)))

syntax_core : AreCore flat_syntax
syntax_core s = record { unchanged = refl; colon = λ e. refl }

package_core : AreCore flat_package
package_core p =
    then (one class.Package p.keyword) (flat_separated class.Dot name p.name ++ one class.Semicolon p.semicolon) (plain (want.One class.Package) p.keyword refl)
    (then (flat_separated class.Dot name p.name) (one class.Semicolon p.semicolon) (from_core class.Dot name name refl (token want.Name refl) (token want.Name refl) p.name) (plain (want.One class.Semicolon) p.semicolon refl))

-- from the settings on
abbrev end_of : Option Settings → ℕ → List Mark
end_of s i = flat_option flat_settings s ++ one class.Semicolon i

end_core : (s : Option Settings) (i : ℕ) → IsCore (end_of s i)
end_core s i = then (flat_option flat_settings s) (one class.Semicolon i) (maybe_core flat_settings settings_core s) (plain (want.One class.Semicolon) i refl)

-- from the name of a field on
abbrev tail_of : ℕ → ℕ → ℕ → Option Settings → ℕ → List Mark
tail_of n e k s i = name n ++ (one class.Equals e ++ (one class.Number k ++ end_of s i))

tail_core : (n e k : ℕ) (s : Option Settings) (i : ℕ) → IsCore (tail_of n e k s i)
tail_core n e k s i =
    then (name n) (one class.Equals e ++ (one class.Number k ++ end_of s i)) (plain want.Name n refl)
    (then (one class.Equals e) (one class.Number k ++ end_of s i) (plain (want.One class.Equals) e refl)
    (then (one class.Number k) (end_of s i) (plain (want.One class.Number) k refl) (end_core s i)))

field_core : AreCore flat_field
field_core f =
    let tail : List Mark = tail_of f.name f.equals f.number f.settings f.semicolon in
    then (flat_option (only want.Label) f.label) (flat_type f.kind ++ tail) (maybe_core (only want.Label) (token want.Label refl) f.label)
    (then (flat_type f.kind) tail (type_core f.kind) (tail_core f.name f.equals f.number f.settings f.semicolon))

map_field_core : AreCore flat_map_field
map_field_core f =
    let tail : List Mark = tail_of f.name f.equals f.number f.settings f.semicolon in
    then (one class.Map f.keyword) (one class.Less f.«open» ++ (one class.Scalar f.key ++ (one class.Comma f.comma ++ (flat_type f.value ++ (one class.Greater f.close ++ tail))))) (plain (want.One class.Map) f.keyword refl)
    (then (one class.Less f.«open») (one class.Scalar f.key ++ (one class.Comma f.comma ++ (flat_type f.value ++ (one class.Greater f.close ++ tail)))) (plain (want.One class.Less) f.«open» refl)
    (then (one class.Scalar f.key) (one class.Comma f.comma ++ (flat_type f.value ++ (one class.Greater f.close ++ tail))) (plain (want.One class.Scalar) f.key refl)
    (then (one class.Comma f.comma) (flat_type f.value ++ (one class.Greater f.close ++ tail)) (plain (want.One class.Comma) f.comma refl)
    (then (flat_type f.value) (one class.Greater f.close ++ tail) (type_core f.value)
    (then (one class.Greater f.close) tail (plain (want.One class.Greater) f.close refl) (tail_core f.name f.equals f.number f.settings f.semicolon))))))

range_end_core : {N : Type 0} (f : N → List Mark) → AreCore f → AreCore (flat_range_end f)
range_end_core f h (range_end.Number n) = h n
range_end_core f h (range_end.Max i) = plain (want.One class.Max) i refl

up_to_core : {N : Type 0} (f : N → List Mark) → AreCore f → AreCore (flat_up_to f)
up_to_core f h u = then (one class.To u.to) (flat_range_end f u.end) (plain (want.One class.To) u.to refl) (range_end_core f h u.end)

range_core : {N : Type 0} (f : N → List Mark) → AreCore f → AreCore (flat_range f)
range_core f h r = then (f r.first) (flat_option (flat_up_to f) r.up_to) (h r.first) (maybe_core (flat_up_to f) (up_to_core f h) r.up_to)

ranges_core : {N : Type 0} (f : N → List Mark) → AreCore f → AreCore (flat_ranges f)
ranges_core f h r = from_core class.Comma (flat_range f) (flat_range f) refl (range_core f h) (range_core f h) r

reserved_list_core : {N : Type 0} (f : N → List Mark) → AreCore f → AreCore (flat_reserved_list f)
reserved_list_core f h (reserved_list.Names names) = from_core class.Comma text_mark text_mark refl (token want.Text refl) (token want.Text refl) names
reserved_list_core f h (reserved_list.Ranges ranges) = ranges_core f h ranges

reserved_core : {N : Type 0} (f : N → List Mark) → AreCore f → AreCore (flat_reserved f)
reserved_core f h r =
    then (one class.Reserved r.keyword) (flat_reserved_list f r.list ++ one class.Semicolon r.semicolon) (plain (want.One class.Reserved) r.keyword refl)
    (then (flat_reserved_list f r.list) (one class.Semicolon r.semicolon) (reserved_list_core f h r.list) (plain (want.One class.Semicolon) r.semicolon refl))

extensions_core : AreCore flat_extensions
extensions_core e =
    then (one class.Extensions e.keyword) (flat_ranges flat_number e.ranges ++ one class.Semicolon e.semicolon) (plain (want.One class.Extensions) e.keyword refl)
    (then (flat_ranges flat_number e.ranges) (one class.Semicolon e.semicolon) (ranges_core flat_number number_core e.ranges) (plain (want.One class.Semicolon) e.semicolon refl))

value_core : AreCore flat_value
value_core v =
    then (only want.ValueName v.name) (one class.Equals v.equals ++ (flat_signed v.number ++ end_of v.settings v.semicolon)) (plain want.ValueName v.name refl)
    (then (one class.Equals v.equals) (flat_signed v.number ++ end_of v.settings v.semicolon) (plain (want.One class.Equals) v.equals refl)
    (then (flat_signed v.number) (end_of v.settings v.semicolon) (signed_core v.number) (end_core v.settings v.semicolon)))

method_type_core : AreCore flat_method_type
method_type_core t =
    then (only want.Parenthesis t.«open») (flat_option (one class.Stream) t.stream ++ (flat_reference t.reference ++ one class.RightParenthesis t.close)) (plain want.Parenthesis t.«open» refl)
    (then (flat_option (one class.Stream) t.stream) (flat_reference t.reference ++ one class.RightParenthesis t.close) (maybe_core (one class.Stream) (token (want.One class.Stream) refl) t.stream)
    (then (flat_reference t.reference) (one class.RightParenthesis t.close) (reference_core t.reference) (plain (want.One class.RightParenthesis) t.close refl)))

signature_core : AreCore flat_signature
signature_core s =
    then (one class.Rpc s.keyword) (name s.name ++ (flat_method_type s.input ++ (one class.Returns s.returns ++ flat_method_type s.output))) (plain (want.One class.Rpc) s.keyword refl)
    (then (name s.name) (flat_method_type s.input ++ (one class.Returns s.returns ++ flat_method_type s.output)) (plain want.Name s.name refl)
    (then (flat_method_type s.input) (one class.Returns s.returns ++ flat_method_type s.output) (method_type_core s.input)
    (then (one class.Returns s.returns) (flat_method_type s.output) (plain (want.One class.Returns) s.returns refl) (method_type_core s.output))))

statement_core : AreCore flat_statement
statement_core (statement.Syntax s) = syntax_core s
statement_core (statement.Import i) = import_core i
statement_core (statement.Package p) = package_core p
statement_core (statement.Option o) = option_core o
statement_core (statement.Field f) = field_core f
statement_core (statement.MapField f) = map_field_core f
statement_core (statement.Reserved r) = reserved_core flat_number number_core r
statement_core (statement.Extensions e) = extensions_core e
statement_core (statement.Value v) = value_core v
statement_core (statement.EnumReserved r) = reserved_core flat_signed signed_core r
statement_core (statement.Method s i) = then (flat_signature s) (one class.Semicolon i) (signature_core s) (plain (want.One class.Semicolon) i refl)
statement_core (statement.Empty i) = plain (want.One class.Semicolon) i refl

heading_core : (c : Class) → is_new (want.One c) ≡ false → AreCore (flat_heading c)
heading_core c e h = then (only (want.One c) h.keyword) (name h.name) (plain (want.One c) h.keyword e) (plain want.Name h.name refl)

header_core : AreCore flat_header
header_core (header.Message h) = heading_core class.Message refl h
header_core (header.Oneof h) = heading_core class.Oneof refl h
header_core (header.Enum h) = heading_core class.Enum refl h
header_core (header.Service h) = heading_core class.Service refl h
header_core (header.Method s) = signature_core s
header_core (header.Extend e) = then (one class.Extend e.keyword) (flat_reference e.extendee) (plain (want.One class.Extend) e.keyword refl) (reference_core e.extendee)

pub tree_core : (t : Tree) → IsCore (flat t)
tree_core End = none
tree_core (Leaf s rest) = then (flat_statement s) (flat rest) (statement_core s) (tree_core rest)
tree_core (Block h i within j rest) =
    then (flat_header h ++ one class.Open i) (flat within ++ (one class.Close j ++ flat rest))
    (then (flat_header h) (one class.Open i) (header_core h) (plain (want.One class.Open) i refl))
    (then (flat within) (one class.Close j ++ flat rest) (tree_core within)
    (then (one class.Close j) (flat rest) (plain (want.One class.Close) j refl) (tree_core rest)))

-- ---- no class of the core language is that of an option's `(`, or that of `weak` behind `import`

abbrev all_rows : (Class → Bool) → List Listed → Bool
all_rows p [] = true
all_rows p (k ∷ ks) = p k.class && all_rows p ks

first_true : (a b : Bool) → a && b ≡ true → a ≡ true
first_true true b e = refl
first_true false b e = absurd (false_not_true e)

second_true : (a b : Bool) → a && b ≡ true → b ≡ true
second_true true b e = e
second_true false b e = absurd (false_not_true e)

either_row : (p : Class → Bool) (b : Bool) (c d : Class) → p c ≡ true → p d ≡ true → p (cond b c d) ≡ true
either_row p true c d e f = e
either_row p false c d e f = f

row_holds : (p : Class → Bool) (ks : List Listed) (c : Class) (w : List ℕ) → all_rows p ks ≡ true → p c ≡ true → p (class_in ks c w) ≡ true
row_holds p [] c w h e = e
row_holds p (k ∷ ks) c w h e = either_row p (bytes_eq w k.word) k.class (class_in ks c w) (first_true (p k.class) (all_rows p ks) h) (row_holds p ks c w (second_true (p k.class) (all_rows p ks) h) e)

abbrev is_other : Class → Class → Bool
is_other x c = not (code c == code x)

either_text : (p : Class → Bool) (b : Bool) → p class.ProtoText ≡ true → p class.OtherText ≡ true → p (cond b class.ProtoText class.OtherText) ≡ true
either_text p true e f = e
either_text p false e f = f

-- a test of each class that a token may have
abbrev AllOf : (Class → Bool) → Type 0
AllOf p = (all_rows p listed ≡ true) × (all_rows p marks ≡ true) × (p class.Name ≡ true) × (p class.Number ≡ true) × (p class.ProtoText ≡ true) × (p class.OtherText ≡ true) × (p class.Other ≡ true)

class_holds : (p : Class → Bool) → AllOf p → (k : TokenKind) (w : List ℕ) → p (class_by k w) ≡ true
class_holds p h Word w = row_holds p listed class.Name w h.0 h.2
class_holds p h Number w = h.3
class_holds p h Text w = either_text p (says w (codes "proto2") || says w (codes "proto3")) h.4 h.5
class_holds p h Punctuation w = row_holds p marks class.Other w h.1 h.6

not_true : (b : Bool) → not b ≡ true → b ≡ false
not_true false e = refl
not_true true e = absurd (false_not_true e)

other_place : (x : Class) (w : Expected) (c : Class) → fits w c ≡ true → is_other x c ≡ true → is_for x w ≡ false
other_place x (want.One d) c e h = subst (λ (n : ℕ). (n == code x) ≡ false) (sym (eqb-true (code d) (code c) e)) (not_true (code c == code x) h)
other_place x want.Word c e h = refl
other_place x want.Name c e h = refl
other_place x want.OptionName c e h = refl
other_place x want.Constant c e h = refl
other_place x want.ValueName c e h = refl
other_place x want.Label c e h = refl
other_place x want.Text c e h = refl
other_place x want.Atom c e h = refl
other_place x want.Element c e h = refl
other_place x want.Nothing c e h = refl
other_place x want.Parenthesis c e h = refl
other_place x want.Modifier c e h = refl

no_place : (x : Class) → AllOf (is_other x) → (n : ℕ) (ms : List Mark) (ls : List Lexeme) → Fit ms (classes n ls) → any_for x ms ≡ false
no_place x a n [] ls h = refl
no_place x a n (m ∷ ms) [] h = absurd h
no_place x a n (m ∷ ms) (l ∷ ls) h = both_false (is_for x m.want) (any_for x ms) (other_place x m.want (class_by l.kind l.text) h.0 (class_holds (is_other x) a l.kind l.text)) (no_place x a (suc n) ms ls h.2)

pub core_trees_are_plain : CoreTreesArePlain
core_trees_are_plain text tokens t r = no_place class.NameParenthesis (refl, refl, refl, refl, refl, refl, refl) 0 (flat t) (map (lexeme_at text) tokens) r.spells.fits

pub core_trees_have_no_weak_import : CoreTreesHaveNoWeakImport
core_trees_have_no_weak_import text tokens t r = no_place class.ImportWeak (refl, refl, refl, refl, refl, refl, refl) 0 (flat t) (map (lexeme_at text) tokens) r.spells.fits

-- ---- no token is a `:`

colon_place : (w : Expected) → fits w class.Colon ≡ true → is_for class.Colon w ≡ false → ⊥
colon_place (want.One d) e h = true_not_false (sym e ∙ h)
colon_place _ e h = false_not_true e

no_colon : (n : ℕ) (ms : List Mark) (ls : List Lexeme) → Fit ms (classes n ls) → any_for class.Colon ms ≡ false → Contains ls colon_lexeme → ⊥
no_colon n [] [] h e c = absurd (omega (arith, c.1))
no_colon n [] (l ∷ ls) h e c = h
no_colon n (m ∷ ms) [] h e c = h
no_colon n (m ∷ ms) (l ∷ ls) h e c = elim (contains_cases l colon_lexeme ls c) [
  | inl here ↦ colon_place m.want (subst (λ (x : Lexeme). fits m.want (class_by x.kind x.text) ≡ true) here h.0) (first_false (is_for class.Colon m.want) (any_for class.Colon ms) e)
  | inr later ↦ no_colon (suc n) ms ls h.2 (second_false (is_for class.Colon m.want) (any_for class.Colon ms) e) later
]

pub trees_have_tokens : TreesHaveTokens
trees_have_tokens profile.AsWritten text tokens t r = tokens_are_written text tokens r.tokens_are
trees_have_tokens profile.Core text tokens t r = tokens_without_colon text tokens r.tokens_are
    (no_colon 0 (flat t) (map (lexeme_at text) tokens) r.spells.fits ((tree_core t).colon (core_trees_are_plain text tokens t r)))

-- ---- read as written

parenthesis_fits : (w : Expected) → is_for class.LeftParenthesis w ≡ false → fits w class.LeftParenthesis ≡ true → fits w class.NameParenthesis ≡ true
parenthesis_fits (want.One d) e h = absurd (true_not_false (sym h ∙ e))
parenthesis_fits want.Atom e h = refl
parenthesis_fits want.Element e h = refl
parenthesis_fits want.Parenthesis e h = refl
parenthesis_fits _ e h = absurd (false_not_true h)

weak_fits : (w : Expected) → is_for class.Weak w ≡ false → fits w class.Weak ≡ true → fits w class.ImportWeak ≡ true
weak_fits (want.One d) e h = absurd (true_not_false (sym h ∙ e))
weak_fits want.Word e h = refl
weak_fits want.Name e h = refl
weak_fits want.OptionName e h = refl
weak_fits want.Constant e h = refl
weak_fits want.ValueName e h = refl
weak_fits _ e h = absurd (false_not_true h)

pub still_fits : (w : Expected) (c : Class) → is_changed w ≡ false → fits w c ≡ true → fits w (class_as profile.AsWritten c) ≡ true
still_fits w class.LeftParenthesis e h = parenthesis_fits w (first_false (is_for class.LeftParenthesis w) (is_for class.Weak w) e) h
still_fits w class.Weak e h = weak_fits w (second_false (is_for class.LeftParenthesis w) (is_for class.Weak w) e) h
still_fits w _ e h = h

fits_as_written : (n : ℕ) (ms : List Mark) (ls : List Lexeme) → Fit ms (classes n ls) → any_changed ms ≡ false → Fit ms (classes_in profile.AsWritten n ls)
fits_as_written n [] [] h e = tt
fits_as_written n [] (l ∷ ls) h e = h
fits_as_written n (m ∷ ms) [] h e = h
fits_as_written n (m ∷ ms) (l ∷ ls) h e = (
  still_fits m.want (class_by l.kind l.text) (first_false (is_changed m.want) (any_changed ms) e) h.0,
  h.1,
  fits_as_written (suc n) ms ls h.2 (second_false (is_changed m.want) (any_changed ms) e),
)

opens_as_much : (d : ℕ) (c : Class) → open_after d (class_as profile.AsWritten c) ≡ open_after d c
opens_as_much d class.LeftParenthesis = refl
opens_as_much d _ = refl

as_deep : (n d k : ℕ) (ls : List Lexeme) → open_from d (take k (classes_in profile.AsWritten n ls)) ≡ open_from d (take k (classes n ls))
as_deep n d zero ls = refl
as_deep n d (suc k) [] = refl
as_deep n d (suc k) (l ∷ ls) = ap (λ (x : ℕ). open_from x (take k (classes_in profile.AsWritten (suc n) ls))) (opens_as_much d (class_by l.kind l.text)) ∙ as_deep (suc n) (open_after d (class_by l.kind l.text)) k ls

as_long : (n : ℕ) (ls : List Lexeme) → length (classes_in profile.AsWritten n ls) ≡ length (classes n ls)
as_long n [] = refl
as_long n (l ∷ ls) = ap suc (as_long (suc n) ls)

as_shallow : (ls : List Lexeme) → IsShallow (classes 0 ls) → IsShallow (classes_in profile.AsWritten 0 ls)
as_shallow ls s k le = subst (λ (x : ℕ). x ≤ 32) (sym (as_deep 0 0 k ls)) (s k (omega (arith, le, as_long 0 ls)))

pub core_trees_are_written : CoreTreesAreWritten
core_trees_are_written text tokens t r =
    let ls = map (lexeme_at text) tokens in
    record {
      tokens_are = r.tokens_are;
      spells = record { well_formed = r.spells.well_formed; fits = fits_as_written 0 (flat t) ls r.spells.fits (tree_core t).unchanged };
      shallow = as_shallow ls r.shallow;
    }
