-- A place that wants a value's name is that of an enum's value, in a block of the tree.
use Rattle.std.proofs.Common.{◌≡◌, ℕ, zero, suc, Bool, true, false, List, [], ◌∷◌, ◌++◌, ◌⊎◌, Option, Some, None, refl, sym, ap, ◌∙◌, inl, inr, arith, Contains}
use Rattle.proto_base.proofs.Common.{Contains-append_left, Contains-append_right, Contains-append_cases, contains_cases, contains_head, contains_later}
use Rattle.proto_tree.specs.declared.class.Class.{Class}
use Rattle.proto_tree.specs.declared.class.Class.TheVariants as class
use Rattle.proto_tree.specs.declared.class.Expected.{Expected}
use Rattle.proto_tree.specs.declared.class.Expected.TheVariants as want
use Rattle.proto_tree.specs.declared.context.Context.{Context}
use Rattle.proto_tree.specs.declared.context.Context.TheVariants as context
use Rattle.proto_tree.specs.declared.piece.Header.{Header}
use Rattle.proto_tree.specs.declared.piece.Header.TheVariants as header
use Rattle.proto_tree.specs.declared.piece.Statement.{Statement}
use Rattle.proto_tree.specs.declared.piece.Statement.TheVariants as statement
use Rattle.proto_tree.specs.declared.tree.Behind.{Behind}
use Rattle.proto_tree.specs.declared.tree.Constant.{Constant}
use Rattle.proto_tree.specs.declared.tree.Constant.TheVariants as constant
use Rattle.proto_tree.specs.declared.tree.Field.{Field}
use Rattle.proto_tree.specs.declared.tree.FieldType.{FieldType}
use Rattle.proto_tree.specs.declared.tree.FieldType.TheVariants as field_type
use Rattle.proto_tree.specs.declared.tree.MapField.{MapField}
use Rattle.proto_tree.specs.declared.tree.MethodType.{MethodType}
use Rattle.proto_tree.specs.declared.tree.Modifier.{Modifier}
use Rattle.proto_tree.specs.declared.tree.Modifier.TheVariants as modifier
use Rattle.proto_tree.specs.declared.tree.Range.{Range}
use Rattle.proto_tree.specs.declared.tree.RangeEnd.{RangeEnd}
use Rattle.proto_tree.specs.declared.tree.RangeEnd.TheVariants as range_end
use Rattle.proto_tree.specs.declared.tree.Reserved.{Reserved}
use Rattle.proto_tree.specs.declared.tree.ReservedList.{ReservedList}
use Rattle.proto_tree.specs.declared.tree.ReservedList.TheVariants as reserved_list
use Rattle.proto_tree.specs.declared.tree.Separated.{Separated}
use Rattle.proto_tree.specs.declared.tree.Setting.{Setting}
use Rattle.proto_tree.specs.declared.tree.Setting.TheVariants as setting
use Rattle.proto_tree.specs.declared.tree.Atom.{Atom}
use Rattle.proto_tree.specs.declared.tree.Atom.TheVariants as atom
use Rattle.proto_tree.specs.declared.tree.Custom.{Custom}
use Rattle.proto_tree.specs.declared.tree.CustomValue.{CustomValue}
use Rattle.proto_tree.specs.declared.tree.CustomValue.TheVariants as custom_value
use Rattle.proto_tree.specs.declared.tree.Settings.{Settings}
use Rattle.proto_tree.specs.declared.tree.Signature.{Signature}
use Rattle.proto_tree.specs.declared.tree.Signed.{Signed}
use Rattle.proto_tree.specs.declared.tree.UpTo.{UpTo}
use Rattle.proto_tree.specs.declared.tree.Value.{Value}
use Rattle.proto_tree.proofs.Common.{IsOuter, Mark, mark, name, one as one_mark, only, text_mark, word, flat_all, flat_behind, flat_constant, flat_dotted, flat_field, flat_from, flat_header, flat_map_field, flat_method_type, flat_number, flat_option, flat_range, flat_range_end, flat_reference, flat_reserved, flat_reserved_list, flat_separated, flat_setting, flat_settings, flat_signature, flat_signed, flat_statement, flat_type, flat_up_to, flat_words, Tree, End, Leaf, Block, IsWellFormed, after, allows, flat, header_kind, statement_kind, last_outer, flat_modifier}
use Rattle.proto_ast.specs.Parts.{BlockOf, blocks_in, statement_values, values_in}
use Rattle.proto_desc_checks_laws.proofs.Outermost.{no_value}
use Rattle.proto_tree.specs.Flat.{flat_custom, flat_custom_value, flat_extension_name, flat_within, fewer, inner_expected, last_expected, other_expected}

-- ---- marks that want something else

abbrev is_value_name : Expected → Bool
is_value_name want.ValueName = true
is_value_name _ = false

abbrev No : List Mark → Type 0
No [] = Unit {0}
No (m ∷ ms) = (is_value_name m.want ≡ false) × No ms

both : (xs ys : List Mark) → No xs → No ys → No (xs ++ ys)
both [] ys h k = k
both (x ∷ xs) ys h k = (h.0, both xs ys h.1 k)

differ : true ≡ false → ⊥
differ h = cc

none_of : (ms : List Mark) → No ms → (m : Mark) → Contains ms m → m.want ≡ want.ValueName → ⊥
none_of [] h m c e = omega (arith, c.1)
none_of (x ∷ ms) h m c e = elim (contains_cases x m ms c) [
  | inl q ↦ differ (sym (ap is_value_name (ap (λ (z : Mark). z.want) q ∙ e)) ∙ h.0)
  | inr d ↦ none_of ms h.1 m d e
]

one_no : (c : Class) (i : ℕ) → No (one_mark c i)
one_no c i = (refl, tt)

option_no : {A : Type 0} (view : A → List Mark) → ((x : A) → No (view x)) → (o : Option A) → No (flat_option view o)
option_no view h None = tt
option_no view h (Some x) = h x

all_no : {A : Type 0} (view : A → List Mark) → ((x : A) → No (view x)) → (xs : List A) → No (flat_all view xs)
all_no view h [] = tt
all_no view h (x ∷ xs) = both (view x) (flat_all view xs) (h x) (all_no view h xs)

from_no : {A : Type 0} (c : Class) (first view : A → List Mark) → ((x : A) → No (first x)) → ((x : A) → No (view x)) → (s : Separated A) → No (flat_from c first view s)
from_no {A} c first view f h s = both (first s.first) (flat_all (flat_behind c view) s.rest) (f s.first) (all_no (flat_behind c view) behind s.rest)
  where
    behind : (b : Behind A) → No (flat_behind c view b)
    behind b = (refl, h b.item)

separated_no : {A : Type 0} (c : Class) (view : A → List Mark) → ((x : A) → No (view x)) → (s : Separated A) → No (flat_separated c view s)
separated_no c view h s = from_no c view view h h s

words_no : (o : Option ℕ) (d : Separated ℕ) → No (flat_words o d)
words_no None d = from_no class.Dot (one_mark class.Name) word (λ i. (refl, tt)) (λ i. (refl, tt)) d
words_no (Some i) d = (refl, separated_no class.Dot word (λ i. (refl, tt)) d)

type_no : (t : FieldType) → No (flat_type t)
type_no (field_type.Scalar i) = (refl, tt)
type_no (field_type.Reference r) = words_no r.dot r.words

signed_no : (n : Signed) → No (flat_signed n)
signed_no n = both (flat_option (one_mark class.Minus) n.minus) (one_mark class.Number n.number) (option_no (one_mark class.Minus) (one_no class.Minus) n.minus) (refl, tt)

constant_no : (c : Constant) → No (flat_constant c)
constant_no (constant.Word i) = (refl, tt)
constant_no (constant.Number n) = signed_no n
constant_no (constant.Text t) = (refl, all_no text_mark (λ i. (refl, tt)) t.rest)

-- a custom option
inner_no : (n i : ℕ) → No (only (inner_expected n) i)
inner_no zero i = (refl, tt)
inner_no (suc n) i = (refl, tt)

last_no : (n i : ℕ) → No (only (last_expected n) i)
last_no zero i = (refl, tt)
last_no (suc n) i = (refl, tt)

other_no : (colon : Bool) (i : ℕ) → No (only (other_expected colon) i)
other_no true i = (refl, tt)
other_no false i = (refl, tt)

within_no : (colon : Bool) (n : ℕ) (atoms : List Atom) (j : ℕ) → No (flat_within colon n atoms j)
within_no colon n [] j = last_no n j
within_no colon n (atom.Open i ∷ rest) j = (refl, within_no false (suc n) rest j)
within_no colon n (atom.Close i ∷ rest) j = both (only (inner_expected n) i) (flat_within false (fewer n) rest j) (inner_no n i) (within_no false (fewer n) rest j)
within_no colon n (atom.Colon i ∷ rest) j = (refl, within_no true n rest j)
within_no colon n (atom.Word i ∷ rest) j = (refl, within_no false n rest j)
within_no colon n (atom.Other i ∷ rest) j = both (only (other_expected colon) i) (flat_within false n rest j) (other_no colon i) (within_no false n rest j)

custom_value_no : (v : CustomValue) → No (flat_custom_value v)
custom_value_no (custom_value.Constant c) = constant_no c
custom_value_no (custom_value.Aggregate a) = (refl, within_no false 0 a.atoms a.close)

custom_no : (c : Custom) → No (flat_custom c)
custom_no c =
    let path : List Mark = flat_all (flat_behind class.Dot (only want.OptionName)) c.path in
    let value : List Mark = one_mark class.Equals c.equals ++ flat_custom_value c.value in (
      refl,
      both (flat_extension_name c.name) (one_mark class.RightParenthesis c.close ++ (path ++ value))
          (both (flat_option (one_mark class.Dot) c.name.dot) (flat_dotted c.name.words) (option_no (one_mark class.Dot) (one_no class.Dot) c.name.dot) (separated_no class.Dot word (λ i. (refl, tt)) c.name.words))
          (refl, both path value (all_no (flat_behind class.Dot (only want.OptionName)) (λ b. (refl, (refl, tt))) c.path) (refl, custom_value_no c.value)),
    )

setting_no : (s : Setting) → No (flat_setting s)
setting_no (setting.Plain p) = (refl, (refl, constant_no p.value))
setting_no (setting.Custom c) = custom_no c

settings_no : (s : Settings) → No (flat_settings s)
settings_no s = (refl, both (flat_separated class.Comma flat_setting s.list) (one_mark class.RightBracket s.close) (separated_no class.Comma flat_setting setting_no s.list) (refl, tt))

ended_no : (o : Option Settings) (i : ℕ) → No (flat_option flat_settings o ++ one_mark class.Semicolon i)
ended_no o i = both (flat_option flat_settings o) (one_mark class.Semicolon i) (option_no flat_settings settings_no o) (refl, tt)

field_no : (f : Field) → No (flat_field f)
field_no f =
    let named : List Mark = name f.name ++ (one_mark class.Equals f.equals ++ (one_mark class.Number f.number ++ (flat_option flat_settings f.settings ++ one_mark class.Semicolon f.semicolon))) in
    both (flat_option (only want.Label) f.label) (flat_type f.kind ++ named) (option_no (only want.Label) (λ i. (refl, tt)) f.label)
    (both (flat_type f.kind) named (type_no f.kind) (refl, (refl, (refl, ended_no f.settings f.semicolon))))

map_field_no : (f : MapField) → No (flat_map_field f)
map_field_no f =
    let named : List Mark = name f.name ++ (one_mark class.Equals f.equals ++ (one_mark class.Number f.number ++ (flat_option flat_settings f.settings ++ one_mark class.Semicolon f.semicolon))) in
    (refl, (refl, (refl, (refl, both (flat_type f.value) (one_mark class.Greater f.close ++ named) (type_no f.value) (refl, (refl, (refl, (refl, ended_no f.settings f.semicolon))))))))

range_no : {N : Type 0} (view : N → List Mark) → ((n : N) → No (view n)) → (r : Range N) → No (flat_range view r)
range_no {N} view h r = both (view r.first) (flat_option (flat_up_to view) r.up_to) (h r.first) (option_no (flat_up_to view) up_to r.up_to)
  where
    end : (e : RangeEnd N) → No (flat_range_end view e)
    end (range_end.Number n) = h n
    end (range_end.Max i) = (refl, tt)

    up_to : (u : UpTo N) → No (flat_up_to view u)
    up_to u = (refl, end u.end)

reserved_no : {N : Type 0} (view : N → List Mark) → ((n : N) → No (view n)) → (r : Reserved N) → No (flat_reserved view r)
reserved_no {N} view h r = (refl, both (flat_reserved_list view r.list) (one_mark class.Semicolon r.semicolon) (listed r.list) (refl, tt))
  where
    listed : (l : ReservedList N) → No (flat_reserved_list view l)
    listed (reserved_list.Names names) = separated_no class.Comma text_mark (λ i. (refl, tt)) names
    listed (reserved_list.Ranges ranges) = separated_no class.Comma (flat_range view) (range_no view h) ranges

method_type_no : (t : MethodType) → No (flat_method_type t)
method_type_no t = (
  refl,
  both (flat_option (one_mark class.Stream) t.stream) (flat_reference t.reference ++ one_mark class.RightParenthesis t.close) (option_no (one_mark class.Stream) (one_no class.Stream) t.stream)
      (both (flat_reference t.reference) (one_mark class.RightParenthesis t.close) (words_no t.reference.dot t.reference.words) (refl, tt)),
)

signature_no : (s : Signature) → No (flat_signature s)
signature_no s =
    (refl, (refl, both (flat_method_type s.input) (one_mark class.Returns s.returns ++ flat_method_type s.output) (method_type_no s.input) (refl, method_type_no s.output)))

header_no : (h : Header) → No (flat_header h)
header_no (header.Method s) = signature_no s
header_no (header.Extend e) = (refl, words_no e.extendee.dot e.extendee.words)
header_no _ = (refl, (refl, tt))

-- ---- marks of values

abbrev HasValueName : List Value → ℕ → Type 0
HasValueName vs i = (v : Value) × Contains vs v × (v.name ≡ i)

modifier_no : (x : Modifier) → No (flat_modifier x)
modifier_no (modifier.Public i) = (refl, tt)
modifier_no (modifier.Weak i) = (refl, tt)

in_statement : (s : Statement) (m : Mark) → Contains (flat_statement s) m → m.want ≡ want.ValueName → HasValueName (statement_values s) m.at
in_statement (statement.Value v) m c e =
    let behind : List Mark = one_mark class.Equals v.equals ++ (flat_signed v.number ++ (flat_option flat_settings v.settings ++ one_mark class.Semicolon v.semicolon)) in
    elim (contains_cases (mark want.ValueName v.name) m behind c) [
      | inl q ↦ (v, contains_head v [], ap (λ (z : Mark). z.at) q)
      | inr d ↦
          let ends : List Mark = flat_option flat_settings v.settings ++ one_mark class.Semicolon v.semicolon in
          let none : No (one_mark class.Equals v.equals ++ (flat_signed v.number ++ ends)) = (refl, both (flat_signed v.number) ends (signed_no v.number) (ended_no v.settings v.semicolon)) in
          absurd (none_of behind none m d e)
    ]
in_statement (statement.Syntax s) m c e = absurd (none_of (flat_statement (statement.Syntax s)) (refl, (refl, (refl, (refl, tt)))) m c e)
in_statement (statement.Import i) m c e =
    let public : List Mark = flat_option flat_modifier i.modifier in
    let path : List Mark = text_mark i.path ++ one_mark class.Semicolon i.semicolon in
    absurd (none_of (flat_statement (statement.Import i)) (refl, both public path (option_no flat_modifier modifier_no i.modifier) (refl, (refl, tt))) m c e)
in_statement (statement.Package p) m c e =
    absurd (none_of (flat_statement (statement.Package p)) (refl, both (flat_separated class.Dot name p.name) (one_mark class.Semicolon p.semicolon) (separated_no class.Dot name (λ i. (refl, tt)) p.name) (refl, tt)) m c e)
in_statement (statement.Option o) m c e =
    absurd (none_of (flat_statement (statement.Option o)) (refl, both (flat_setting o.setting) (one_mark class.Semicolon o.semicolon) (setting_no o.setting) (refl, tt)) m c e)
in_statement (statement.Field f) m c e = absurd (none_of (flat_statement (statement.Field f)) (field_no f) m c e)
in_statement (statement.MapField f) m c e = absurd (none_of (flat_statement (statement.MapField f)) (map_field_no f) m c e)
in_statement (statement.Reserved r) m c e = absurd (none_of (flat_statement (statement.Reserved r)) (reserved_no flat_number (one_no class.Number) r) m c e)
in_statement (statement.Extensions x) m c e =
    let ranges : List Mark = flat_separated class.Comma (flat_range flat_number) x.ranges in
    let none : No (flat_separated class.Comma (flat_range flat_number) x.ranges) = separated_no class.Comma (flat_range flat_number) (range_no flat_number (one_no class.Number)) x.ranges in
    absurd (none_of (flat_statement (statement.Extensions x)) (refl, both ranges (one_mark class.Semicolon x.semicolon) none (refl, tt)) m c e)
in_statement (statement.EnumReserved r) m c e = absurd (none_of (flat_statement (statement.EnumReserved r)) (reserved_no flat_signed signed_no r) m c e)
in_statement (statement.Method s i) m c e = absurd (none_of (flat_statement (statement.Method s i)) (both (flat_signature s) (one_mark class.Semicolon i) (signature_no s) (refl, tt)) m c e)
in_statement (statement.Empty i) m c e = absurd (none_of (flat_statement (statement.Empty i)) (refl, tt) m c e)

-- a value in a block of the tree has this name token
abbrev pub HasBlockValue : Tree → ℕ → Type 0
HasBlockValue t i = (b : BlockOf) × Contains (blocks_in t) b × HasValueName (values_in b.within) i

in_tree : (t : Tree) (m : Mark) → Contains (flat t) m → m.want ≡ want.ValueName → HasValueName (values_in t) m.at ⊎ HasBlockValue t m.at
in_tree End m c e = absurd (omega (arith, c.1))
in_tree (Leaf s rest) m c e = elim (Contains-append_cases (flat_statement s) (flat rest) m c) [
  | inl d ↦ let v = in_statement s m d e in inl (v.0, Contains-append_left (statement_values s) (values_in rest) v.0 v.1, v.2)
  | inr d ↦ elim (in_tree rest m d e) [
    | inl v ↦ inl (v.0, Contains-append_right (statement_values s) (values_in rest) v.0 v.1, v.2)
    | inr x ↦ inr x
  ]
]
in_tree (Block h i within j rest) m c e =
    let block : BlockOf = record { header = h; within = within } in
    let begin : List Mark = flat_header h ++ one_mark class.Open i in
    elim (Contains-append_cases begin (flat within ++ (one_mark class.Close j ++ flat rest)) m c) [
      | inl d ↦ absurd (none_of begin (both (flat_header h) (one_mark class.Open i) (header_no h) (refl, tt)) m d e)
      | inr d ↦ elim (Contains-append_cases (flat within) (one_mark class.Close j ++ flat rest) m d) [
        | inl f ↦ elim (in_tree within m f e) [
          | inl v ↦ inr (block, contains_head block (blocks_in within ++ blocks_in rest), v)
          | inr x ↦ inr (x.0, contains_later block x.0 (blocks_in within ++ blocks_in rest) (Contains-append_left (blocks_in within) (blocks_in rest) x.0 x.1), x.2)
        ]
        | inr f ↦ elim (contains_cases (mark (want.One class.Close) j) m (flat rest) f) [
          | inl q ↦ absurd (differ (sym (ap is_value_name (ap (λ (z : Mark). z.want) q ∙ e))))
          | inr g ↦ elim (in_tree rest m g e) [
            | inl v ↦ inl v
            | inr x ↦ inr (x.0, contains_later block x.0 (blocks_in within ++ blocks_in rest) (Contains-append_right (blocks_in within) (blocks_in rest) x.0 x.1), x.2)
          ]
        ]
      ]
    ]

-- ---- no value stands outermost

none_outermost : (c : Context) → IsOuter c → (t : Tree) → IsWellFormed c t → (i : ℕ) → HasValueName (values_in t) i → ⊥
none_outermost c o End w i v = omega (arith, v.1.1)
none_outermost c o (Leaf s rest) w i v = elim (Contains-append_cases (statement_values s) (values_in rest) v.0 v.1) [
  | inl d ↦ outer_statement s w.0 d
  | inr d ↦ none_outermost (after c (statement_kind s)) (last_outer (Leaf s End) c o) rest w.1 i (v.0, d, v.2)
]
  where
    outer_statement : (s : Statement) → allows c (statement_kind s) ≡ true → Contains (statement_values s) v.0 → ⊥
    outer_statement (statement.Value x) h d = no_value c o h
    outer_statement _ h d = omega (arith, d.1)
none_outermost c o (Block h j within k rest) w i v = none_outermost (after c (header_kind h)) (last_outer (Block h j within k End) c o) rest w.2 i v

-- a token where a value's name is wanted names a value of a block
pub value_of_mark : (t : Tree) → IsWellFormed context.Start t → (m : Mark) → Contains (flat t) m → m.want ≡ want.ValueName → HasBlockValue t m.at
value_of_mark t w m c e = elim (in_tree t m c e) [
  | inl v ↦ absurd (none_outermost context.Start refl t w m.at v)
  | inr x ↦ x
]
