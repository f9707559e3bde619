-- In the core language no reference names an option.
use Rattle.std.proofs.Common.{◌≡◌, ℕ, Bool, true, false, List, [], ◌∷◌, ◌++◌, map, flat_map, Option, Some, None, refl, sym, ap, ap₂, subst, ◌∙◌, true≢false, append-nil}
use Rattle.proto_tree.specs.declared.class.Class.TheVariants as class
use Rattle.proto_tree.specs.declared.context.Context.{Context}
use Rattle.proto_tree.specs.declared.context.Context.TheVariants as context
use Rattle.proto_tree.specs.declared.context.Kind.{Kind}
use Rattle.proto_tree.specs.declared.context.Kind.TheVariants as kind
use Rattle.proto_tree.specs.declared.piece.Header.{Header}
use Rattle.proto_tree.specs.declared.piece.Header.TheVariants as header
use Rattle.proto_tree.specs.declared.piece.Statement.{Statement}
use Rattle.proto_tree.specs.declared.piece.Statement.TheVariants as statement
use Rattle.proto_tree.specs.declared.tree.Behind.{Behind}
use Rattle.proto_tree.specs.declared.tree.Field.{Field}
use Rattle.proto_tree.specs.declared.tree.FieldType.{FieldType}
use Rattle.proto_tree.specs.declared.tree.MapField.{MapField}
use Rattle.proto_tree.specs.declared.tree.Setting.{Setting}
use Rattle.proto_tree.specs.declared.tree.Setting.TheVariants as setting
use Rattle.proto_tree.specs.declared.tree.Settings.{Settings}
use Rattle.proto_tree.specs.Laws.{any_for, is_for}
use Rattle.proto_tree.proofs.Common.{Mark, Tree, End, Leaf, Block, IsWellFormed, after, allows, core_trees_are_plain, field_kind, flat, flat_all, flat_behind, flat_field, flat_header, flat_map_field, flat_option, flat_setting, flat_settings, flat_signed, flat_statement, flat_type, header_kind, name, one, only, statement_kind}
use Rattle.proto_tree.proofs.CoreTrees.{first_false, second_false}
use Rattle.proto_tree.specs.declared.class.Expected.TheVariants as want
use Rattle.proto_names_rules.proofs.Common.{Source, Token, Used, package_of}
use Rattle.proto_names_outline.specs.Core.{CoreUsesStay, core_flat_uses, core_item_uses, core_member_uses, core_statement_uses}
use Rattle.proto_names_outline.specs.Common.{flat_uses, header_uses, item_uses, items_in, member_uses, option_uses, setting_uses, settings_uses, statement_uses, type_uses}

-- no place wants the `(` before the name of an option
abbrev HasNoName : List Mark → Type 0
HasNoName [] = Unit {0}
HasNoName (m ∷ ms) = (is_for class.NameParenthesis m.want ≡ false) × HasNoName ms

each : (ms : List Mark) → any_for class.NameParenthesis ms ≡ false → HasNoName ms
each [] e = tt
each (m ∷ ms) e = (first_false (is_for class.NameParenthesis m.want) (any_for class.NameParenthesis ms) e, each ms (second_false (is_for class.NameParenthesis m.want) (any_for class.NameParenthesis ms) e))

left : (xs ys : List Mark) → HasNoName (xs ++ ys) → HasNoName xs
left [] ys h = tt
left (x ∷ xs) ys h = (h.0, left xs ys h.1)

right : (xs ys : List Mark) → HasNoName (xs ++ ys) → HasNoName ys
right [] ys h = h
right (x ∷ xs) ys h = right xs ys h.1

-- what stands between the braces, and what behind them
within_block : (h : Header) (i : ℕ) (within : Tree) (j : ℕ) (rest : Tree) → HasNoName (flat (Block h i within j rest)) → HasNoName (flat within) × HasNoName (flat rest)
within_block h i within j rest e =
    let behind = right (flat_header h ++ one class.Open i) (flat within ++ (one class.Close j ++ flat rest)) e in
    (left (flat within) (one class.Close j ++ flat rest) behind, right (one class.Close j) (flat rest) (right (flat within) (one class.Close j ++ flat rest) behind))

-- ---- settings

setting_none : (scope : List (Source ℕ)) (s : Setting) → HasNoName (flat_setting s) → setting_uses scope s ≡ []
setting_none scope (setting.Plain p) h = refl
setting_none scope (setting.Custom c) h = absurd (true≢false h.0)

settings_none : (scope : List (Source ℕ)) (o : Option Settings) → HasNoName (flat_option flat_settings o) → settings_uses scope o ≡ []
settings_none scope None h = refl
settings_none scope (Some s) h =
    let first = flat_setting s.list.first in
    let more = flat_all (flat_behind class.Comma flat_setting) s.list.rest in
    let listed = left (first ++ more) (one class.RightBracket s.close) h.1 in
    ap₂ (λ (x y : List (Used ℕ)). x ++ y) (setting_none scope s.list.first (left first more listed)) (behind s.list.rest (right first more listed))
  where
    behind : (bs : List (Behind Setting)) → HasNoName (flat_all (flat_behind class.Comma flat_setting) bs) → flat_map (λ b. setting_uses scope b.item) bs ≡ []
    behind [] e = refl
    behind (b ∷ bs) e =
        let rest = flat_all (flat_behind class.Comma flat_setting) bs in
        ap₂ (λ (x y : List (Used ℕ)). x ++ y) (setting_none scope b.item (left (flat_setting b.item) rest e.1)) (behind bs (right (flat_setting b.item) rest e.1))

typed_alone : (scope : List (Source ℕ)) (t : FieldType) (o : Option Settings) → HasNoName (flat_option flat_settings o) → type_uses scope t ++ settings_uses scope o ≡ type_uses scope t
typed_alone scope t o h = ap (λ (us : List (Used ℕ)). type_uses scope t ++ us) (settings_none scope o h) ∙ append-nil (type_uses scope t)

-- ---- statements

option_none : (scope : List (Source ℕ)) (s : Statement) → HasNoName (flat_statement s) → option_uses scope s ≡ []
option_none scope (statement.Option o) h = setting_none scope o.setting (left (flat_setting o.setting) (one class.Semicolon o.semicolon) h.1)
option_none scope _ h = refl

field_settings : (f : Field) → HasNoName (flat_field f) → HasNoName (flat_option flat_settings f.settings)
field_settings f h =
    let last = one class.Semicolon f.semicolon in
    let tail = name f.name ++ (one class.Equals f.equals ++ (one class.Number f.number ++ (flat_option flat_settings f.settings ++ last))) in
    let behind = right (flat_type f.kind) tail (right (flat_option (only want.Label) f.label) (flat_type f.kind ++ tail) h) in
    left (flat_option flat_settings f.settings) last behind.1.1.1

map_settings : (f : MapField) → HasNoName (flat_map_field f) → HasNoName (flat_option flat_settings f.settings)
map_settings f h =
    let last = one class.Semicolon f.semicolon in
    let tail = one class.Greater f.close ++ (name f.name ++ (one class.Equals f.equals ++ (one class.Number f.number ++ (flat_option flat_settings f.settings ++ last)))) in
    left (flat_option flat_settings f.settings) last (right (flat_type f.value) tail h.1.1.1.1).1.1.1.1

statement_same : (around scope : List (Source ℕ)) (s : Statement) → HasNoName (flat_statement s) → statement_uses around scope s ≡ core_statement_uses scope s
statement_same around scope (statement.Field f) h = typed_alone scope f.kind f.settings (field_settings f h)
statement_same around scope (statement.MapField f) h = typed_alone scope f.value f.settings (map_settings f h)
statement_same around scope (statement.Value v) h =
    let last = one class.Semicolon v.semicolon in
    settings_none scope v.settings (left (flat_option flat_settings v.settings) last (right (flat_signed v.number) (flat_option flat_settings v.settings ++ last) h.1.1))
statement_same around scope (statement.Option o) h = option_none around (statement.Option o) h
statement_same around scope _ h = refl

-- ---- blocks that have no references

-- a statement that refers to nothing
abbrev is_still : Kind → Bool
is_still kind.Field = false
is_still kind.LabeledField = false
is_still kind.MapField = false
is_still kind.Method = false
is_still kind.OpenMessage = false
is_still kind.OpenOneof = false
is_still kind.OpenEnum = false
is_still kind.OpenService = false
is_still kind.OpenMethod = false
is_still kind.OpenExtend = false
is_still _ = true

no_field : (o : Option ℕ) → is_still (field_kind o) ≡ true → ⊥
no_field None e = true≢false (sym e)
no_field (Some i) e = true≢false (sym e)

still_statement : (scope : List (Source ℕ)) (s : Statement) → is_still (statement_kind s) ≡ true → core_statement_uses scope s ≡ []
still_statement scope (statement.Field f) e = absurd (no_field f.label e)
still_statement scope (statement.MapField f) e = absurd (true≢false (sym e))
still_statement scope (statement.Method s end) e = absurd (true≢false (sym e))
still_statement scope _ e = refl

no_block : (h : Header) → is_still (header_kind h) ≡ true → ⊥
no_block (header.Message h) e = true≢false (sym e)
no_block (header.Oneof h) e = true≢false (sym e)
no_block (header.Enum h) e = true≢false (sym e)
no_block (header.Service h) e = true≢false (sym e)
no_block (header.Method s) e = true≢false (sym e)
no_block (header.Extend x) e = true≢false (sym e)

-- what may stand there refers to nothing, and the same may stand behind it
abbrev IsStill : Context → Type 0
IsStill c = (k : Kind) → allows c k ≡ true → (after c k ≡ c) × (is_still k ≡ true)

still_enum : IsStill context.Enum
still_enum kind.Value e = (refl, refl)
still_enum kind.Option e = (refl, refl)
still_enum kind.CustomOption e = (refl, refl)
still_enum kind.EnumReserved e = (refl, refl)
still_enum kind.Empty e = (refl, refl)
still_enum kind.Close e = (refl, refl)
still_enum _ e = absurd (true≢false (sym e))

still_method : IsStill context.Method
still_method kind.Option e = (refl, refl)
still_method kind.CustomOption e = (refl, refl)
still_method kind.Empty e = (refl, refl)
still_method kind.Close e = (refl, refl)
still_method _ e = absurd (true≢false (sym e))

still_uses : (c : Context) → IsStill c → (t : Tree) (around scope : List (Source ℕ)) → IsWellFormed c t → HasNoName (flat t) → flat_uses around scope t ≡ []
still_uses c still End around scope w h = refl
still_uses c still (Leaf s rest) around scope w h =
    let here = still (statement_kind s) w.0 in
    ap₂ (λ (x y : List (Used ℕ)). x ++ y) (statement_same around scope s (left (flat_statement s) (flat rest) h) ∙ still_statement scope s here.1)
    (still_uses c still rest around scope (subst (λ k. IsWellFormed k rest) here.0 w.1) (right (flat_statement s) (flat rest) h))
still_uses c still (Block g i within j rest) around scope w h = absurd (no_block g (still (header_kind g) w.0).1)

-- ---- blocks that have the references of their statements alone

-- the beginning of a block that is no method's
abbrev is_nested : Kind → Bool
is_nested kind.OpenMessage = true
is_nested kind.OpenOneof = true
is_nested kind.OpenEnum = true
is_nested kind.OpenService = true
is_nested kind.OpenExtend = true
is_nested _ = false

abbrev IsFlat : Context → Type 0
IsFlat c = (k : Kind) → allows c k ≡ true → (after c k ≡ c) × (is_nested k ≡ false)

flat_oneof : IsFlat context.Oneof
flat_oneof kind.Field e = (refl, refl)
flat_oneof kind.CustomOption e = (refl, refl)
flat_oneof kind.Close e = (refl, refl)
flat_oneof _ e = absurd (true≢false (sym e))

flat_service : IsFlat context.Service
flat_service kind.Method e = (refl, refl)
flat_service kind.OpenMethod e = (refl, refl)
flat_service kind.Option e = (refl, refl)
flat_service kind.CustomOption e = (refl, refl)
flat_service kind.Empty e = (refl, refl)
flat_service kind.Close e = (refl, refl)
flat_service _ e = absurd (true≢false (sym e))

flat_extend : IsFlat context.Extend
flat_extend kind.Field e = (refl, refl)
flat_extend kind.LabeledField e = (refl, refl)
flat_extend kind.Close e = (refl, refl)
flat_extend _ e = absurd (true≢false (sym e))

flat_same : (c : Context) → IsFlat c → (t : Tree) (around scope : List (Source ℕ)) → IsWellFormed c t → HasNoName (flat t) → flat_uses around scope t ≡ core_flat_uses scope t
flat_same c plain End around scope w h = refl
flat_same c plain (Leaf s rest) around scope w h =
    ap₂ (λ (x y : List (Used ℕ)). x ++ y) (statement_same around scope s (left (flat_statement s) (flat rest) h))
    (flat_same c plain rest around scope (subst (λ k. IsWellFormed k rest) (plain (statement_kind s) w.0).0 w.1) (right (flat_statement s) (flat rest) h))
flat_same c plain (Block (header.Method s) i within j rest) around scope w h =
    let parts = within_block (header.Method s) i within j rest h in
    ap₂ (λ (x y : List (Used ℕ)). header_uses scope (header.Method s) ++ (x ++ y)) (still_uses context.Method still_method within scope scope w.1 parts.0)
    (flat_same c plain rest around scope (subst (λ k. IsWellFormed k rest) (plain kind.OpenMethod w.0).0 w.2) parts.1)
flat_same c plain (Block (header.Message g) i within j rest) around scope w h = absurd (true≢false (plain kind.OpenMessage w.0).1)
flat_same c plain (Block (header.Oneof g) i within j rest) around scope w h = absurd (true≢false (plain kind.OpenOneof w.0).1)
flat_same c plain (Block (header.Enum g) i within j rest) around scope w h = absurd (true≢false (plain kind.OpenEnum w.0).1)
flat_same c plain (Block (header.Service g) i within j rest) around scope w h = absurd (true≢false (plain kind.OpenService w.0).1)
flat_same c plain (Block (header.Extend x) i within j rest) around scope w h = absurd (true≢false (plain kind.OpenExtend w.0).1)

-- ---- messages and files

members_same : (t : Tree) (around scope : List (Source ℕ)) → IsWellFormed context.Message t → HasNoName (flat t) → member_uses around scope t ≡ core_member_uses scope t
members_same End around scope w h = refl
members_same (Leaf s rest) around scope w h =
    ap₂ (λ (x y : List (Used ℕ)). x ++ y) (statement_same around scope s (left (flat_statement s) (flat rest) h)) (members_same rest around scope w.1 (right (flat_statement s) (flat rest) h))
members_same (Block (header.Message g) i within j rest) around scope w h =
    let parts = within_block (header.Message g) i within j rest h in
    ap₂ (λ (x y : List (Used ℕ)). x ++ y) (members_same within scope (scope ++ Token g.name ∷ []) w.1 parts.0) (members_same rest around scope w.2 parts.1)
members_same (Block (header.Oneof g) i within j rest) around scope w h =
    let parts = within_block (header.Oneof g) i within j rest h in
    ap₂ (λ (x y : List (Used ℕ)). x ++ y) (flat_same context.Oneof flat_oneof within scope scope w.1 parts.0) (members_same rest around scope w.2 parts.1)
members_same (Block (header.Enum g) i within j rest) around scope w h =
    let parts = within_block (header.Enum g) i within j rest h in
    ap₂ (λ (x y : List (Used ℕ)). x ++ y) (still_uses context.Enum still_enum within scope scope w.1 parts.0) (members_same rest around scope w.2 parts.1)
members_same (Block (header.Extend e) i within j rest) around scope w h =
    let parts = within_block (header.Extend e) i within j rest h in
    ap₂ (λ (x y : List (Used ℕ)). (header_uses scope (header.Extend e) ++ x) ++ y) (flat_same context.Extend flat_extend within scope scope w.1 parts.0) (members_same rest around scope w.2 parts.1)
members_same (Block (header.Service g) i within j rest) around scope w h = absurd (true≢false (sym w.0))
members_same (Block (header.Method s) i within j rest) around scope w h = absurd (true≢false (sym w.0))

items_same : (c : Context) (t : Tree) (scope : List (Source ℕ)) → IsWellFormed c t → HasNoName (flat t) → item_uses scope t ≡ core_item_uses scope t
items_same c End scope w h = refl
items_same c (Leaf s rest) scope w h =
    ap₂ (λ (x y : List (Used ℕ)). x ++ y) (option_none scope s (left (flat_statement s) (flat rest) h)) (items_same (after c (statement_kind s)) rest scope w.1 (right (flat_statement s) (flat rest) h))
items_same c (Block (header.Message g) i within j rest) scope w h =
    let parts = within_block (header.Message g) i within j rest h in
    ap₂ (λ (x y : List (Used ℕ)). x ++ y) (members_same within scope (scope ++ Token g.name ∷ []) w.1 parts.0) (items_same (after c kind.OpenMessage) rest scope w.2 parts.1)
items_same c (Block (header.Enum g) i within j rest) scope w h =
    let parts = within_block (header.Enum g) i within j rest h in
    ap₂ (λ (x y : List (Used ℕ)). x ++ y) (still_uses context.Enum still_enum within scope scope w.1 parts.0) (items_same (after c kind.OpenEnum) rest scope w.2 parts.1)
items_same c (Block (header.Service g) i within j rest) scope w h =
    let parts = within_block (header.Service g) i within j rest h in
    ap₂ (λ (x y : List (Used ℕ)). x ++ y) (flat_same context.Service flat_service within scope (scope ++ Token g.name ∷ []) w.1 parts.0) (items_same (after c kind.OpenService) rest scope w.2 parts.1)
items_same c (Block (header.Extend e) i within j rest) scope w h =
    let parts = within_block (header.Extend e) i within j rest h in
    ap₂ (λ (x y : List (Used ℕ)). (header_uses scope (header.Extend e) ++ x) ++ y) (flat_same context.Extend flat_extend within scope scope w.1 parts.0) (items_same (after c kind.OpenExtend) rest scope w.2 parts.1)
items_same c (Block (header.Oneof g) i within j rest) scope w h = items_same (after c kind.OpenOneof) rest scope w.2 (within_block (header.Oneof g) i within j rest h).1
items_same c (Block (header.Method s) i within j rest) scope w h = items_same (after c kind.OpenMethod) rest scope w.2 (within_block (header.Method s) i within j rest h).1

pub core_uses_stay : CoreUsesStay
core_uses_stay text tokens t r = items_same context.Start t (map (λ i. Token i) (package_of (items_in t))) r.spells.well_formed (each (flat t) (core_trees_are_plain text tokens t r))
