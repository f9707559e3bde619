-- The words of the names of options stand where the grammar wants any word (for the crates above).
use Rattle.std.proofs.Common.{◌≡◌, ◌≢◌, ℕ, ◌+◌, ◌⊎◌, true, List, [], ◌∷◌, ◌++◌, map, flat_map, Option, Some, None, refl, sym, ap, subst, ◌∙◌, inl, inr, arith, Contains}
use Rattle.proto_base.proofs.Common.{Contains-append_left, Contains-append_right, Contains-append_cases, contains_cases, contains_head, contains_later, from_map}
use Rattle.proto_files.proofs.Common.{FileOf, ReadOf, read_at}
use Rattle.proto_tree.specs.declared.class.Class.TheVariants as class
use Rattle.proto_tree.specs.declared.class.Expected.TheVariants as want
use Rattle.proto_tree.specs.declared.piece.Header.{Header}
use Rattle.proto_tree.specs.declared.piece.Header.TheVariants as header
use Rattle.proto_tree.specs.declared.piece.Statement.{Statement}
use Rattle.proto_tree.specs.declared.piece.Statement.TheVariants as statement
use Rattle.proto_tree.specs.declared.tree.Behind.{Behind}
use Rattle.proto_tree.specs.declared.tree.Custom.{Custom}
use Rattle.proto_tree.specs.declared.tree.FieldType.{FieldType}
use Rattle.proto_tree.specs.declared.tree.FieldType.TheVariants as field_type
use Rattle.proto_tree.specs.declared.tree.Reference.{Reference}
use Rattle.proto_tree.specs.declared.tree.Separated.{Separated}
use Rattle.proto_tree.specs.declared.tree.Setting.{Setting}
use Rattle.proto_tree.specs.declared.tree.Setting.TheVariants as setting
use Rattle.proto_tree.specs.declared.tree.Settings.{Settings}
use Rattle.proto_tree.specs.declared.tree.Signature.{Signature}
use Rattle.proto_tree.specs.Flat.{flat_custom, flat_custom_value, flat_extension_name}
use Rattle.proto_tree.proofs.Common.{Mark, mark, only, one, word, name, flat_all, flat_behind, flat_option, flat_type, flat_setting, flat_settings, flat_dotted, flat_signed, flat_statement, flat_header, Tree, End, Leaf, Block, flat, dotted}
use Rattle.proto_names_rules.specs.declared.kind.Kind.{Kind}
use Rattle.proto_names_rules.specs.declared.wants.Wants.{Wants}
use Rattle.proto_names_rules.specs.declared.wants.Wants.TheVariants as wants
use Rattle.proto_names_rules.proofs.Common.{At, at, Source, Token, Used, is_type, may_resolve_to, package_of}
use Rattle.proto_names_outline.specs.FromTree.{block_uses, flat_uses, header_uses, item_uses, items_in, member_uses, option_uses, setting_uses, settings_uses, signature_uses, statement_uses, type_uses, used_as}
use Rattle.proto_names_imports.specs.Links.{link_skeleton}
use Rattle.proto_edit_rename_laws.proofs.Inside.{used_by_file}

-- each word of each reference that wants an extension stands among the marks, where any word may
abbrev AnyWords : List Mark → List (Used ℕ) → Type 0
AnyWords ms us = (u : Used ℕ) → Contains us u → u.wants ≡ wants.Extension → (i : ℕ) → Contains u.tokens i → Contains ms (mark want.Word i)

none : (ms : List Mark) → AnyWords ms []
none ms u c e i t = absurd (omega (arith, c.1))

both : (ms : List Mark) (us vs : List (Used ℕ)) → AnyWords ms us → AnyWords ms vs → AnyWords ms (us ++ vs)
both ms us vs a b u c e i t = elim (Contains-append_cases us vs u c) [ inl x ↦ a u x e i t | inr y ↦ b u y e i t ]

left : (ms ns : List Mark) (us : List (Used ℕ)) → AnyWords ms us → AnyWords (ms ++ ns) us
left ms ns us a u c e i t = Contains-append_left ms ns (mark want.Word i) (a u c e i t)

right : (ms ns : List Mark) (us : List (Used ℕ)) → AnyWords ns us → AnyWords (ms ++ ns) us
right ms ns us a u c e i t = Contains-append_right ms ns (mark want.Word i) (a u c e i t)

-- ---- references that want no extension

other : (ms : List Mark) (scope : List (Source ℕ)) (what : Wants) (r : Reference) (us : List (Used ℕ)) → what ≢ wants.Extension → AnyWords ms us → AnyWords ms (used_as scope what r ∷ us)
other ms scope what r us differ rest u c e i t = elim (contains_cases (used_as scope what r) u us c) [
  | inl same ↦ absurd (differ (ap (λ (z : Used ℕ). z.wants) same ∙ e))
  | inr later ↦ rest u later e i t
]

type_differs : wants.Type ≡ wants.Extension → ⊥
type_differs e = cc

message_differs : wants.Message ≡ wants.Extension → ⊥
message_differs e = cc

type_any : (ms : List Mark) (scope : List (Source ℕ)) (t : FieldType) → AnyWords ms (type_uses scope t)
type_any ms scope (field_type.Scalar i) = none ms
type_any ms scope (field_type.Reference r) = other ms scope wants.Type r [] type_differs (none ms)

signature_any : (ms : List Mark) (scope : List (Source ℕ)) (s : Signature) → AnyWords ms (signature_uses scope s)
signature_any ms scope s = other ms scope wants.Message s.input.reference (used_as scope wants.Message s.output.reference ∷ []) message_differs (other ms scope wants.Message s.output.reference [] message_differs (none ms))

header_any : (ms : List Mark) (scope : List (Source ℕ)) (h : Header) → AnyWords ms (header_uses scope h)
header_any ms scope (header.Method s) = signature_any ms scope s
header_any ms scope (header.Extend e) = other ms scope wants.Message e.extendee [] message_differs (none ms)
header_any ms scope (header.Message h) = none ms
header_any ms scope (header.Oneof h) = none ms
header_any ms scope (header.Enum h) = none ms
header_any ms scope (header.Service h) = none ms

-- ---- names of options

behind_any : (bs : List (Behind ℕ)) (i : ℕ) → Contains (map (λ b. b.item) bs) i → Contains (flat_all (flat_behind class.Dot word) bs) (mark want.Word i)
behind_any [] i c = absurd (omega (arith, c.1))
behind_any (b ∷ bs) i c =
    let m = mark want.Word i in
    let more = flat_all (flat_behind class.Dot word) bs in
    contains_later (mark (want.One class.Dot) b.separator) m (mark want.Word b.item ∷ more) (elim (contains_cases b.item i (map (λ b. b.item) bs) c) [
      | inl e ↦ subst (λ (z : ℕ). Contains (mark want.Word b.item ∷ more) (mark want.Word z)) e (contains_head (mark want.Word b.item) more)
      | inr d ↦ contains_later (mark want.Word b.item) m more (behind_any bs i d)
    ])

dotted_any : (d : Separated ℕ) (i : ℕ) → Contains (dotted d) i → Contains (flat_dotted d) (mark want.Word i)
dotted_any d i c =
    let more = flat_all (flat_behind class.Dot word) d.rest in
    elim (contains_cases d.first i (map (λ b. b.item) d.rest) c) [
      | inl e ↦ subst (λ (z : ℕ). Contains (mark want.Word d.first ∷ more) (mark want.Word z)) e (contains_head (mark want.Word d.first) more)
      | inr r ↦ contains_later (mark want.Word d.first) (mark want.Word i) more (behind_any d.rest i r)
    ]

named_any : (scope : List (Source ℕ)) (r : Reference) → AnyWords (flat_extension_name r) (used_as scope wants.Extension r ∷ [])
named_any scope r u c e i t = elim (contains_cases (used_as scope wants.Extension r) u [] c) [
  | inl same ↦ Contains-append_right (flat_option (one class.Dot) r.dot) (flat_dotted r.words) (mark want.Word i) (dotted_any r.words i (subst (λ (z : Used ℕ). Contains z.tokens i) (sym same) t))
  | inr later ↦ absurd (omega (arith, later.1))
]

custom_any : (scope : List (Source ℕ)) (c : Custom) → AnyWords (flat_custom c) (used_as scope wants.Extension c.name ∷ [])
custom_any scope c =
    let used = used_as scope wants.Extension c.name ∷ [] in
    let behind = one class.RightParenthesis c.close ++ (flat_all (flat_behind class.Dot (only want.OptionName)) c.path ++ (one class.Equals c.equals ++ flat_custom_value c.value)) in
    right (one class.NameParenthesis c.«open») (flat_extension_name c.name ++ behind) used (left (flat_extension_name c.name) behind used (named_any scope c.name))

setting_any : (scope : List (Source ℕ)) (s : Setting) → AnyWords (flat_setting s) (setting_uses scope s)
setting_any scope (setting.Plain p) = none (flat_setting (setting.Plain p))
setting_any scope (setting.Custom c) = custom_any scope c

settings_behind : (scope : List (Source ℕ)) (bs : List (Behind Setting)) → AnyWords (flat_all (flat_behind class.Comma flat_setting) bs) (flat_map (λ b. setting_uses scope b.item) bs)
settings_behind scope [] = none []
settings_behind scope (b ∷ bs) =
    let first = flat_behind class.Comma flat_setting b in
    let more = flat_all (flat_behind class.Comma flat_setting) bs in
    let used = setting_uses scope b.item in
    let rest = flat_map (λ b. setting_uses scope b.item) bs in
    both (first ++ more) used rest (left first more used (right (one class.Comma b.separator) (flat_setting b.item) used (setting_any scope b.item))) (right first more rest (settings_behind scope bs))

settings_any : (scope : List (Source ℕ)) (o : Option Settings) → AnyWords (flat_option flat_settings o) (settings_uses scope o)
settings_any scope None = none []
settings_any scope (Some s) =
    let first = flat_setting s.list.first in
    let more = flat_all (flat_behind class.Comma flat_setting) s.list.rest in
    let last = one class.RightBracket s.close in
    let used = setting_uses scope s.list.first in
    let rest = flat_map (λ b. setting_uses scope b.item) s.list.rest in
    right (one class.LeftBracket s.«open») ((first ++ more) ++ last) (used ++ rest) (left (first ++ more) last (used ++ rest)
    (both (first ++ more) used rest (left first more used (setting_any scope s.list.first)) (right first more rest (settings_behind scope s.list.rest))))

-- what a statement ends with
ended_any : (scope : List (Source ℕ)) (o : Option Settings) (i : ℕ) → AnyWords (flat_option flat_settings o ++ one class.Semicolon i) (settings_uses scope o)
ended_any scope o i = left (flat_option flat_settings o) (one class.Semicolon i) (settings_uses scope o) (settings_any scope o)

-- ---- statements

option_any : (scope : List (Source ℕ)) (s : Statement) → AnyWords (flat_statement s) (option_uses scope s)
option_any scope (statement.Option o) =
    let used = setting_uses scope o.setting in
    right (one class.Option o.keyword) (flat_setting o.setting ++ one class.Semicolon o.semicolon) used (left (flat_setting o.setting) (one class.Semicolon o.semicolon) used (setting_any scope o.setting))
option_any scope (statement.Syntax s) = none (flat_statement (statement.Syntax s))
option_any scope (statement.Import s) = none (flat_statement (statement.Import s))
option_any scope (statement.Package s) = none (flat_statement (statement.Package s))
option_any scope (statement.Field s) = none (flat_statement (statement.Field s))
option_any scope (statement.MapField s) = none (flat_statement (statement.MapField s))
option_any scope (statement.Reserved s) = none (flat_statement (statement.Reserved s))
option_any scope (statement.Extensions s) = none (flat_statement (statement.Extensions s))
option_any scope (statement.Value s) = none (flat_statement (statement.Value s))
option_any scope (statement.EnumReserved s) = none (flat_statement (statement.EnumReserved s))
option_any scope (statement.Method s end) = none (flat_statement (statement.Method s end))
option_any scope (statement.Empty i) = none (flat_statement (statement.Empty i))

statement_any : (around scope : List (Source ℕ)) (s : Statement) → AnyWords (flat_statement s) (statement_uses around scope s)
statement_any around scope (statement.Field f) =
    let used = settings_uses scope f.settings in
    let label = flat_option (only want.Label) f.label in
    let ends = flat_option flat_settings f.settings ++ one class.Semicolon f.semicolon in
    let tail = name f.name ++ (one class.Equals f.equals ++ (one class.Number f.number ++ ends)) in
    both (flat_statement (statement.Field f)) (type_uses scope f.kind) used (type_any (flat_statement (statement.Field f)) scope f.kind)
    (right label (flat_type f.kind ++ tail) used (right (flat_type f.kind) tail used
    (right (name f.name) (one class.Equals f.equals ++ (one class.Number f.number ++ ends)) used (right (one class.Equals f.equals) (one class.Number f.number ++ ends) used
    (right (one class.Number f.number) ends used (ended_any scope f.settings f.semicolon))))))
statement_any around scope (statement.MapField f) =
    let used = settings_uses scope f.settings in
    let ends = flat_option flat_settings f.settings ++ one class.Semicolon f.semicolon in
    let tail = name f.name ++ (one class.Equals f.equals ++ (one class.Number f.number ++ ends)) in
    let start = one class.Map f.keyword ++ (one class.Less f.«open» ++ (one class.Scalar f.key ++ one class.Comma f.comma)) in
    both (flat_statement (statement.MapField f)) (type_uses scope f.value) used (type_any (flat_statement (statement.MapField f)) scope f.value)
    (right start (flat_type f.value ++ (one class.Greater f.close ++ tail)) used (right (flat_type f.value) (one class.Greater f.close ++ tail) used (right (one class.Greater f.close) tail used
    (right (name f.name) (one class.Equals f.equals ++ (one class.Number f.number ++ ends)) used (right (one class.Equals f.equals) (one class.Number f.number ++ ends) used
    (right (one class.Number f.number) ends used (ended_any scope f.settings f.semicolon)))))))
statement_any around scope (statement.Value v) =
    let used = settings_uses scope v.settings in
    let ends = flat_option flat_settings v.settings ++ one class.Semicolon v.semicolon in
    right (only want.ValueName v.name) (one class.Equals v.equals ++ (flat_signed v.number ++ ends)) used (right (one class.Equals v.equals) (flat_signed v.number ++ ends) used
    (right (flat_signed v.number) ends used (ended_any scope v.settings v.semicolon)))
statement_any around scope (statement.Method s end) = signature_any (flat_statement (statement.Method s end)) scope s
statement_any around scope (statement.Option o) = option_any around (statement.Option o)
statement_any around scope (statement.Syntax s) = none (flat_statement (statement.Syntax s))
statement_any around scope (statement.Import s) = none (flat_statement (statement.Import s))
statement_any around scope (statement.Package s) = none (flat_statement (statement.Package s))
statement_any around scope (statement.Reserved s) = none (flat_statement (statement.Reserved s))
statement_any around scope (statement.Extensions s) = none (flat_statement (statement.Extensions s))
statement_any around scope (statement.EnumReserved s) = none (flat_statement (statement.EnumReserved s))
statement_any around scope (statement.Empty i) = none (flat_statement (statement.Empty i))

-- ---- trees

leaf_any : (s : Statement) (rest : Tree) (us vs : List (Used ℕ)) → AnyWords (flat_statement s) us → AnyWords (flat rest) vs → AnyWords (flat (Leaf s rest)) (us ++ vs)
leaf_any s rest us vs a b = both (flat (Leaf s rest)) us vs (left (flat_statement s) (flat rest) us a) (right (flat_statement s) (flat rest) vs b)

-- behind a block
past_any : (h : Header) (i : ℕ) (within : Tree) (j : ℕ) (rest : Tree) (us : List (Used ℕ)) → AnyWords (flat rest) us → AnyWords (flat (Block h i within j rest)) us
past_any h i within j rest us a =
    right (flat_header h ++ one class.Open i) (flat within ++ (one class.Close j ++ flat rest)) us
    (right (flat within) (one class.Close j ++ flat rest) us (right (one class.Close j) (flat rest) us a))

-- in a block, and behind it
block_any : (h : Header) (i : ℕ) (within : Tree) (j : ℕ) (rest : Tree) (us vs : List (Used ℕ)) → AnyWords (flat within) us → AnyWords (flat rest) vs → AnyWords (flat (Block h i within j rest)) (us ++ vs)
block_any h i within j rest us vs a b =
    both (flat (Block h i within j rest)) us vs
    (right (flat_header h ++ one class.Open i) (flat within ++ (one class.Close j ++ flat rest)) us (left (flat within) (one class.Close j ++ flat rest) us a))
    (past_any h i within j rest vs b)

flat_any : (t : Tree) (around scope : List (Source ℕ)) → AnyWords (flat t) (flat_uses around scope t)
flat_any End around scope = none []
flat_any (Leaf s rest) around scope = leaf_any s rest (statement_uses around scope s) (flat_uses around scope rest) (statement_any around scope s) (flat_any rest around scope)
flat_any (Block h i within j rest) around scope =
    let all = flat (Block h i within j rest) in
    both all (header_uses scope h) (flat_uses scope scope within ++ flat_uses around scope rest) (header_any all scope h)
    (block_any h i within j rest (flat_uses scope scope within) (flat_uses around scope rest) (flat_any within scope scope) (flat_any rest around scope))

extend_any : (scope : List (Source ℕ)) (h : Header) (within : Tree) → AnyWords (flat within) (header_uses scope h ++ flat_uses scope scope within)
extend_any scope h within = both (flat within) (header_uses scope h) (flat_uses scope scope within) (header_any (flat within) scope h) (flat_any within scope scope)

member_any : (t : Tree) (around scope : List (Source ℕ)) → AnyWords (flat t) (member_uses around scope t)
member_any End around scope = none []
member_any (Leaf s rest) around scope = leaf_any s rest (statement_uses around scope s) (member_uses around scope rest) (statement_any around scope s) (member_any rest around scope)
member_any (Block (header.Service h) i within j rest) around scope = past_any (header.Service h) i within j rest (member_uses around scope rest) (member_any rest around scope)
member_any (Block (header.Message h) i within j rest) around scope =
    block_any (header.Message h) i within j rest (member_uses scope (scope ++ Token h.name ∷ []) within) (member_uses around scope rest) (member_any within scope (scope ++ Token h.name ∷ [])) (member_any rest around scope)
member_any (Block (header.Oneof h) i within j rest) around scope = block_any (header.Oneof h) i within j rest (flat_uses scope scope within) (member_uses around scope rest) (flat_any within scope scope) (member_any rest around scope)
member_any (Block (header.Enum h) i within j rest) around scope = block_any (header.Enum h) i within j rest (flat_uses scope scope within) (member_uses around scope rest) (flat_any within scope scope) (member_any rest around scope)
member_any (Block (header.Method s) i within j rest) around scope = past_any (header.Method s) i within j rest (member_uses around scope rest) (member_any rest around scope)
member_any (Block (header.Extend e) i within j rest) around scope =
    block_any (header.Extend e) i within j rest (block_uses scope (header.Extend e) [] within) (member_uses around scope rest) (extend_any scope (header.Extend e) within) (member_any rest around scope)

item_any : (t : Tree) (scope : List (Source ℕ)) → AnyWords (flat t) (item_uses scope t)
item_any End scope = none []
item_any (Leaf s rest) scope = leaf_any s rest (option_uses scope s) (item_uses scope rest) (option_any scope s) (item_any rest scope)
item_any (Block (header.Oneof h) i within j rest) scope = past_any (header.Oneof h) i within j rest (item_uses scope rest) (item_any rest scope)
item_any (Block (header.Message h) i within j rest) scope =
    block_any (header.Message h) i within j rest (member_uses scope (scope ++ Token h.name ∷ []) within) (item_uses scope rest) (member_any within scope (scope ++ Token h.name ∷ [])) (item_any rest scope)
item_any (Block (header.Enum h) i within j rest) scope = block_any (header.Enum h) i within j rest (flat_uses scope scope within) (item_uses scope rest) (flat_any within scope scope) (item_any rest scope)
item_any (Block (header.Service h) i within j rest) scope =
    block_any (header.Service h) i within j rest (flat_uses scope (scope ++ Token h.name ∷ []) within) (item_uses scope rest) (flat_any within scope (scope ++ Token h.name ∷ [])) (item_any rest scope)
item_any (Block (header.Method s) i within j rest) scope = past_any (header.Method s) i within j rest (item_uses scope rest) (item_any rest scope)
item_any (Block (header.Extend e) i within j rest) scope =
    block_any (header.Extend e) i within j rest (block_uses scope (header.Extend e) [] within) (item_uses scope rest) (extend_any scope (header.Extend e) within) (item_any rest scope)

-- ---- files

-- a word of the name of an option stands in its file where any word may
pub option_words : (files : List FileOf) (reads : List ReadOf) (u : Used At) → Contains (link_skeleton files reads).used u → u.wants ≡ wants.Extension → (i : At) → Contains u.tokens i → Contains (flat (read_at reads i.file).tree) (mark want.Word i.token)
option_words files reads u cu e i ci =
    let o = used_by_file 0 reads u cu in
    let t = from_map (at (0 + o.k)) o.v.tokens i (subst (λ (z : Used At). Contains z.tokens i) (sym o.is) ci) in
    let zero_is : o.k ≡ 0 + o.k = omega arith in
    let tree = (read_at reads o.k).tree in
    subst (λ (z : At). Contains (flat (read_at reads z.file).tree) (mark want.Word z.token)) (ap (λ m. at m t.0) zero_is ∙ t.2)
    (item_any tree (map (λ t. Token t) (package_of (items_in tree))) o.v o.within (ap (λ (z : Used At). z.wants) o.is ∙ e) t.0 t.1)

-- ---- by what a reference wants

-- it is the name of an option, or the type of something
pub names_option_or_type : (what : Wants) → (what ≡ wants.Extension) ⊎ (what ≢ wants.Extension)
names_option_or_type wants.Type = inr type_differs
names_option_or_type wants.Message = inr message_differs
names_option_or_type wants.Extension = inl refl

-- what it may mean is a type, where it wants no extension
pub type_wanted : (what : Wants) → what ≢ wants.Extension → (k : Kind) → may_resolve_to what k ≡ true → is_type k ≡ true
type_wanted wants.Type other k h = h
type_wanted wants.Message other k h = h
type_wanted wants.Extension other k h = absurd (other refl)
