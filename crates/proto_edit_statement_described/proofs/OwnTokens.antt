-- The tokens of a field's statement: its name and the first of each of its references are among them, and something stands before them.
use Rattle.std.proofs.Common.{◌≡◌, ◌≢◌, inl, inr, ℕ, suc, ◌-◌, ◌<◌, ◌==◌, false, Option, Some, None, List, [], ◌∷◌, ◌++◌, length, drop, map, flat_map, refl, sym, ap, subst, arith, length-take, length-drop, Contains, ne_eqb}
use Rattle.proto_base.proofs.Common.{length-map, Contains-append_cases, Contains-append_left, Contains-append_right, contains_cases, contains_head}
use Rattle.proto_text.specs.declared.lexer.Token.{Token}
use Rattle.proto_text.specs.Tokens.{Lexeme, lexeme_at}
use Rattle.proto_tree.specs.declared.class.Class.TheVariants as class
use Rattle.proto_tree.specs.declared.class.Expected.TheVariants as want
use Rattle.proto_tree.specs.declared.piece.Statement.{Statement}
use Rattle.proto_tree.specs.declared.tree.Behind.{Behind}
use Rattle.proto_tree.specs.declared.tree.FieldType.{FieldType}
use Rattle.proto_tree.specs.declared.tree.FieldType.TheVariants as field_type
use Rattle.proto_tree.specs.declared.tree.Separated.{Separated}
use Rattle.proto_tree.specs.declared.tree.Setting.{Setting}
use Rattle.proto_tree.specs.declared.tree.Setting.TheVariants as setting
use Rattle.proto_tree.specs.declared.tree.Settings.{Settings}
use Rattle.proto_tree.specs.Flat.{flat_custom, flat_custom_value, flat_extension_name}
use Rattle.proto_tree.proofs.Common.{Mark, flat_all, flat_behind, flat_dotted, flat_option, flat_setting, flat_settings, flat_statement, flat_type, flat_words, mark, one, only, word, ReadsIn, first_of, Tree, numbered_at, trees_are_numbered_in}
use Rattle.proto_names_rules.specs.declared.wants.Wants.TheVariants as wants
use Rattle.proto_names_rules.specs.Skeleton.{Source, Used}
use Rattle.proto_names_outline.specs.FromTree.{setting_uses, settings_uses, statement_uses, type_uses, used_as}
use Rattle.proto_edit_statement_laws.proofs.Common.{IsFieldOf, StandsAt, InMessage, InOneof, Deeper, PastLeaf, PastBlock, first_token, next_token, own, reservation_place, found, some_marks, name_mark, before_field, closed, close_at, through}
use Rattle.proto_edit_statement_described.proofs.Common.{OfMap, Plain, WrittenField, written_name, written_number, statement_of, new_tokens_are_own}
use Rattle.proto_edit_statement_described.specs.Trees.{to_old}
use Rattle.proto_base.specs.declared.profile.Profile.{Profile}

-- ---- something stands before the statement

some_before : {s : Statement} {o : Option ℕ} (t : Tree) (h : StandsAt s o t) → 0 < before_field h
some_before _ (InMessage h i within j rest at) = omega arith
some_before _ (InOneof h i within j rest at) = omega arith
some_before _ (Deeper o h i within j rest at) = omega arith
some_before _ (PastLeaf o x rest at) = let some = some_marks x in omega (arith, some)
some_before _ (PastBlock o h i within j rest at) = let some = some_before rest at in omega (arith, some)

-- ---- the marks of a statement

is_written : (w : WrittenField) → IsFieldOf (statement_of w) (written_name w) (written_number w)
is_written (Plain f) = (refl, refl)
is_written (OfMap f) = (refl, refl)

-- a mark of the statement at a token
abbrev HasMark : List Mark → ℕ → Type 0
HasMark ms i = (m : Mark) × Contains ms m × (m.at ≡ i)

left_mark : (xs ys : List Mark) (i : ℕ) → HasMark xs i → HasMark (xs ++ ys) i
left_mark xs ys i m = (m.0, Contains-append_left xs ys m.0 m.1, m.2)

right_mark : (xs ys : List Mark) (i : ℕ) → HasMark ys i → HasMark (xs ++ ys) i
right_mark xs ys i m = (m.0, Contains-append_right xs ys m.0 m.1, m.2)

words_mark : (o : Option ℕ) (d : Separated ℕ) → HasMark (flat_words o d) (first_of o d)
words_mark None d = (mark (want.One class.Name) d.first, contains_head (mark (want.One class.Name) d.first) (flat_all (flat_behind class.Dot word) d.rest), refl)
words_mark (Some i) d = (mark (want.One class.Dot) i, contains_head (mark (want.One class.Dot) i) (flat_dotted d), refl)

-- of the name of an extension
extension_mark : (o : Option ℕ) (d : Separated ℕ) → HasMark (flat_option (one class.Dot) o ++ flat_dotted d) (first_of o d)
extension_mark None d = (mark want.Word d.first, contains_head (mark want.Word d.first) (flat_all (flat_behind class.Dot word) d.rest), refl)
extension_mark (Some i) d = (mark (want.One class.Dot) i, contains_head (mark (want.One class.Dot) i) (flat_dotted d), refl)

type_mark : (scope : List (Source ℕ)) (k : FieldType) (u : Used ℕ) → Contains (type_uses scope k) u → HasMark (flat_type k) u.first
type_mark scope (field_type.Scalar i) u c = absurd (omega (arith, c.1))
type_mark scope (field_type.Reference r) u c = elim (contains_cases (used_as scope wants.Type r) u [] c) [
  | inl e ↦ subst (HasMark (flat_words r.dot r.words)) (ap (λ (z : Used ℕ). z.first) e) (words_mark r.dot r.words)
  | inr d ↦ absurd (omega (arith, d.1))
]

setting_mark : (scope : List (Source ℕ)) (s : Setting) (u : Used ℕ) → Contains (setting_uses scope s) u → HasMark (flat_setting s) u.first
setting_mark scope (setting.Plain p) u c = absurd (omega (arith, c.1))
setting_mark scope (setting.Custom x) u c = elim (contains_cases (used_as scope wants.Extension x.name) u [] c) [
  | inl e ↦ (
      let name : List Mark = flat_extension_name x.name in
      let tail : List Mark = one class.RightParenthesis x.close ++ (flat_all (flat_behind class.Dot (only want.OptionName)) x.path ++ (one class.Equals x.equals ++ flat_custom_value x.value)) in
      let first = first_of x.name.dot x.name.words in
      subst (HasMark (flat_custom x)) (ap (λ (z : Used ℕ). z.first) e)
      (right_mark (one class.NameParenthesis x.«open») (name ++ tail) first (left_mark name tail first (extension_mark x.name.dot x.name.words))))
  | inr d ↦ absurd (omega (arith, d.1))
]

behind_mark : (scope : List (Source ℕ)) (bs : List (Behind Setting)) (u : Used ℕ) → Contains (flat_map (λ b. setting_uses scope b.item) bs) u → HasMark (flat_all (flat_behind class.Comma flat_setting) bs) u.first
behind_mark scope [] u c = absurd (omega (arith, c.1))
behind_mark scope (b ∷ bs) u c =
    let head : List Mark = flat_behind class.Comma flat_setting b in
    let more : List Mark = flat_all (flat_behind class.Comma flat_setting) bs in
    elim (Contains-append_cases (setting_uses scope b.item) (flat_map (λ b. setting_uses scope b.item) bs) u c) [
      | inl here ↦ left_mark head more u.first (right_mark (one class.Comma b.separator) (flat_setting b.item) u.first (setting_mark scope b.item u here))
      | inr there ↦ right_mark head more u.first (behind_mark scope bs u there)
    ]

settings_mark : (scope : List (Source ℕ)) (o : Option Settings) (u : Used ℕ) → Contains (settings_uses scope o) u → HasMark (flat_option flat_settings o) u.first
settings_mark scope None u c = absurd (omega (arith, c.1))
settings_mark scope (Some s) u c =
    let head : List Mark = flat_setting s.list.first in
    let more : List Mark = flat_all (flat_behind class.Comma flat_setting) s.list.rest in
    let last : List Mark = one class.RightBracket s.close in
    let among : HasMark (head ++ more) u.first = elim (Contains-append_cases (setting_uses scope s.list.first) (flat_map (λ b. setting_uses scope b.item) s.list.rest) u c) [
      | inl here ↦ left_mark head more u.first (setting_mark scope s.list.first u here)
      | inr there ↦ right_mark head more u.first (behind_mark scope s.list.rest u there)
    ] in
    right_mark (one class.LeftBracket s.«open») ((head ++ more) ++ last) u.first (left_mark (head ++ more) last u.first among)

-- in settings, before the semicolon
settings_last : (scope : List (Source ℕ)) (o : Option Settings) (semicolon : ℕ) (u : Used ℕ) → Contains (settings_uses scope o) u → HasMark (flat_option flat_settings o ++ one class.Semicolon semicolon) u.first
settings_last scope o semicolon u c = left_mark (flat_option flat_settings o) (one class.Semicolon semicolon) u.first (settings_mark scope o u c)

use_mark : (around scope : List (Source ℕ)) (w : WrittenField) (u : Used ℕ) → Contains (statement_uses around scope (statement_of w)) u → HasMark (flat_statement (statement_of w)) u.first
use_mark around scope (Plain f) u c =
    let label : List Mark = flat_option (only want.Label) f.label in
    let kind : List Mark = flat_type f.kind in
    let front : List Mark = mark want.Name f.name ∷ mark (want.One class.Equals) f.equals ∷ mark (want.One class.Number) f.number ∷ [] in
    let last : List Mark = flat_option flat_settings f.settings ++ one class.Semicolon f.semicolon in
    right_mark label (kind ++ (front ++ last)) u.first
    (elim (Contains-append_cases (type_uses scope f.kind) (settings_uses scope f.settings) u c) [
      | inl t ↦ left_mark kind (front ++ last) u.first (type_mark scope f.kind u t)
      | inr s ↦ right_mark kind (front ++ last) u.first (right_mark front last u.first (settings_last scope f.settings f.semicolon u s))
    ])
use_mark around scope (OfMap f) u c =
    let head : List Mark = mark (want.One class.Map) f.keyword ∷ mark (want.One class.Less) f.«open» ∷ mark (want.One class.Scalar) f.key ∷ mark (want.One class.Comma) f.comma ∷ [] in
    let kind : List Mark = flat_type f.value in
    let front : List Mark = mark (want.One class.Greater) f.close ∷ mark want.Name f.name ∷ mark (want.One class.Equals) f.equals ∷ mark (want.One class.Number) f.number ∷ [] in
    let last : List Mark = flat_option flat_settings f.settings ++ one class.Semicolon f.semicolon in
    right_mark head (kind ++ (front ++ last)) u.first
    (elim (Contains-append_cases (type_uses scope f.value) (settings_uses scope f.settings) u c) [
      | inl t ↦ left_mark kind (front ++ last) u.first (type_mark scope f.value u t)
      | inr s ↦ right_mark kind (front ++ last) u.first (right_mark front last u.first (settings_last scope f.settings f.semicolon u s))
    ])

-- ---- where they stand

module _ (profile : Profile) (text : List ℕ) (tokens : List Token) (t : Tree) (w : WrittenField) (o : Option ℕ) (reads : ReadsIn profile text tokens t) (stands : StandsAt (statement_of w) o t) where
  own_long : length (own (statement_of w) (map (lexeme_at text) tokens)) ≡ length (flat_statement (statement_of w))
  own_long =
      let s : Statement = statement_of w in
      let fd = found profile text tokens t s reads stands in
      let next = fd.next in
      let inside = fd.within in
      let whole : List Lexeme = map (lexeme_at text) tokens in
      omega (arith, length-take (next_token s - first_token s) (drop (first_token s) whole), length-drop (first_token s) whole, length-map tokens (lexeme_at text), inside, next)

  -- a token of the statement is none of the others
  mark_apart : (i : ℕ) → HasMark (flat_statement (statement_of w)) i → (j : ℕ) → to_old text tokens (statement_of w) j ≢ i
  mark_apart i m j e =
      let s : Statement = statement_of w in
      let fd = found profile text tokens t s reads stands in
      let at = numbered_at (first_token s) (flat_statement s) m.0 fd.marks m.1 in
      let below = m.1.1 in
      let is = m.2 in
      let long = own_long in
      new_tokens_are_own (first_token s) (length (own s (map (lexeme_at text) tokens))) i j (omega (arith, at, is)) (omega (arith, at, is, below, long)) e

  pub name_apart : (j : ℕ) → (to_old text tokens (statement_of w) j == written_name w) ≡ false
  name_apart j = ne_eqb (to_old text tokens (statement_of w) j) (written_name w) (mark_apart (written_name w) (mark want.Name (written_name w), name_mark (statement_of w) (written_name w) (written_number w) (is_written w), refl) j)

  pub use_apart : (around scope : List (Source ℕ)) (u : Used ℕ) → Contains (statement_uses around scope (statement_of w)) u → (j : ℕ) → u.first ≢ to_old text tokens (statement_of w) j
  use_apart around scope u c j e = mark_apart u.first (use_mark around scope w u c) j (sym e)

  pub first_stays : 0 < first_token (statement_of w)
  first_stays =
      let fd = found profile text tokens t (statement_of w) reads stands in
      let at = fd.at in
      let some = some_before t stands in
      omega (arith, at, some)

-- the reservation is not put in first either
pub reserved_behind : (profile : Profile) (text : List ℕ) (tokens : List Token) (t : Tree) (s : Statement) (o : Option ℕ) → ReadsIn profile text tokens t → (h : StandsAt s o t) → 0 < reservation_place s o
reserved_behind profile text tokens t s None reads h =
    let fd = found profile text tokens t s reads h in
    let at = fd.at in
    let some = some_before t h in
    omega (arith, at, some)
reserved_behind profile text tokens t s (Some close) reads h =
    let fd = found profile text tokens t s reads h in
    let at = fd.at in
    let next = fd.next in
    let some = some_before t h in
    let c = closed t h in
    let less = c.1 in
    let closes : suc close ≡ through h = close_at t close (through h) (trees_are_numbered_in profile t (map (lexeme_at text) tokens) reads.spells) c.0 in
    omega (arith, at, next, some, less, closes)
