-- What sentences and options read besides names stands at tokens of other roles (for the crates above).
use Rattle.std.proofs.Common.{◌≡◌, ◌⊎◌, ℕ, suc, Bool, true, false, List, [], ◌∷◌, ◌++◌, map, flat_map, Option, Some, None, codes, refl, sym, ap, subst, ◌∙◌, inl, inr, arith, if◌then◌else◌, option_to_list, Contains, bytes_eq}
use Rattle.proto_base.proofs.Common.{AllByRecursion, All-contains, All-from_recursion, contains_head, contains_later}
use Rattle.proto_text.specs.Tokens.{Lexeme}
use Rattle.proto_tree.specs.declared.class.Class.{Class}
use Rattle.proto_tree.specs.declared.class.Class.TheVariants as class
use Rattle.proto_tree.specs.declared.class.Expected.TheVariants as want
use Rattle.proto_tree.specs.declared.piece.Header.{Header}
use Rattle.proto_tree.specs.declared.piece.Header.TheVariants as header
use Rattle.proto_tree.specs.declared.piece.Statement.{Statement}
use Rattle.proto_tree.specs.declared.piece.Statement.TheVariants as statement
use Rattle.proto_tree.specs.declared.tree.Behind.{Behind}
use Rattle.proto_tree.specs.declared.tree.Constant.{Constant}
use Rattle.proto_tree.specs.declared.tree.Constant.TheVariants as constant
use Rattle.proto_tree.specs.declared.tree.Field.{Field}
use Rattle.proto_tree.specs.declared.tree.FieldType.{FieldType}
use Rattle.proto_tree.specs.declared.tree.FieldType.TheVariants as field_type
use Rattle.proto_tree.specs.declared.tree.MapField.{MapField}
use Rattle.proto_tree.specs.declared.tree.Range.{Range}
use Rattle.proto_tree.specs.declared.tree.RangeEnd.{RangeEnd}
use Rattle.proto_tree.specs.declared.tree.RangeEnd.TheVariants as range_end
use Rattle.proto_tree.specs.declared.tree.ReservedList.{ReservedList}
use Rattle.proto_tree.specs.declared.tree.ReservedList.TheVariants as reserved_list
use Rattle.proto_tree.specs.declared.tree.Separated.{Separated}
use Rattle.proto_tree.specs.declared.tree.Setting.{Setting}
use Rattle.proto_tree.specs.declared.tree.Settings.{Settings}
use Rattle.proto_tree.specs.declared.tree.Signed.{Signed}
use Rattle.proto_tree.specs.declared.tree.UpTo.{UpTo}
use Rattle.proto_tree.specs.declared.tree.Value.{Value}
use Rattle.proto_tree.proofs.Common.{Mark, mark, flat_all, flat_behind, flat_constant, flat_header, flat_number, flat_option, flat_range, flat_range_end, flat_reserved_list, flat_separated, flat_setting, flat_settings, flat_signed, flat_statement, flat_type, flat_up_to, name as name_mark, one as one_mark, only, Numbered, HasRole, Role, is_number, is_other, is_scalar, is_value, labels, names, names_option, refers, role_of, Tree, End, Leaf, Block, Spells, flat, classes_in, trees_are_numbered_in, roles_are_one_in}
use Rattle.proto_ast.proofs.Common.{is_named, FieldOf, OptionOf, BlockOf, blocks_in, closed_ranges, enum_ranges, fields_from, fields_in, map_field, options_in, setting_options, plain_field, ranges_of, separated, settings_of, statement_fields, statement_options, statement_values, statements, values_in, Scene, text}
use Rattle.proto_desc_checks.proofs.FlawTokens.{both, flattened}
use Rattle.proto_desc_checks_laws.specs.Renamed.{asked_tokens, block_tokens, constant_tokens, end_tokens, field_tokens, header_tokens, option_tokens, range_tokens, scalar_tokens, up_to_tokens, value_tokens}
use Rattle.proto_desc_checks_laws.specs.Roles.{AskedTokensHaveRoles, DefaultsAreNotAsked, FieldOptionsHaveRoles, IsOtherValue, NamesAreNotAsked, ValueHasRole, ValueNumbersAreNumbers, is_asked, is_of_declarations}
use Rattle.proto_tree.specs.declared.tree.Setting.TheVariants as setting
use Rattle.proto_base.specs.declared.profile.Profile.{Profile}

-- ---- lists

one_of : {A : Type 0} (P : A → Type 0) (xs : List A) (x : A) → AllByRecursion P xs → Contains xs x → P x
one_of P xs x all c = All-contains P xs x (All-from_recursion P xs all) c

module _ (tree : Tree) where
  -- marks of the tree, numbered from here on
  abbrev From : ℕ → List Mark → Type 0
  From n [] = Unit {0}
  From n (m ∷ ms) = (m.at ≡ n) × Contains (flat tree) m × From (suc n) ms

  from_left : (n : ℕ) (xs ys : List Mark) → From n (xs ++ ys) → From n xs
  from_left n [] ys h = tt
  from_left n (x ∷ xs) ys h = (h.0, h.1, from_left (suc n) xs ys h.2)

  from_right : (n : ℕ) (xs ys : List Mark) → From n (xs ++ ys) → (k : ℕ) × From k ys
  from_right n [] ys h = (n, h)
  from_right n (x ∷ xs) ys h = from_right (suc n) xs ys h.2

  -- a stretch of the tree
  abbrev Run : List Mark → Type 0
  Run ms = (n : ℕ) × From n ms

  left : (xs ys : List Mark) → Run (xs ++ ys) → Run xs
  left xs ys h = (h.0, from_left h.0 xs ys h.1)

  right : (xs ys : List Mark) → Run (xs ++ ys) → Run ys
  right xs ys h = from_right h.0 xs ys h.1

  tail : (m : Mark) (ms : List Mark) → Run (m ∷ ms) → Run ms
  tail m ms h = (suc h.0, h.1.2)

  stands : (m : Mark) (ms : List Mark) → Run (m ∷ ms) → HasRole tree (role_of m.want) m.at
  stands m ms h = (m, h.1.1, refl, refl)

  -- ---- the tokens of parts

  behind_has : {A : Type 0} (c : Class) (view : A → List Mark) (bs : List (Behind A)) → Run (flat_all (flat_behind c view) bs) → AllByRecursion (λ a. Run (view a)) (map (λ b. b.item) bs)
  behind_has c view [] h = tt
  behind_has c view (b ∷ bs) h = (
    tail (mark (want.One c) b.separator) (view b.item) (left (flat_behind c view b) (flat_all (flat_behind c view) bs) h),
    behind_has c view bs (right (flat_behind c view b) (flat_all (flat_behind c view) bs) h),
  )

  separated_has : {A : Type 0} (c : Class) (view : A → List Mark) (s : Separated A) → Run (flat_separated c view s) → AllByRecursion (λ a. Run (view a)) (separated s)
  separated_has c view s h = (left (view s.first) (flat_all (flat_behind c view) s.rest) h, behind_has c view s.rest (right (view s.first) (flat_all (flat_behind c view) s.rest) h))

  number_has : (i : ℕ) → Run (flat_number i) → HasRole tree is_number i
  number_has i h = stands (mark (want.One class.Number) i) [] h

  signed_has : (n : Signed) → Run (flat_signed n) → HasRole tree is_number n.number
  signed_has n h = number_has n.number (right (flat_option (one_mark class.Minus) n.minus) (flat_number n.number) h)

  -- ---- options

  abbrev OptionHas : OptionOf → Type 0
  OptionHas o = HasRole tree names_option o.name × ValueHasRole tree o.name o.value

  value_has : (name equals : ℕ) (v : Constant) → Run (mark want.OptionName name ∷ mark (want.One class.Equals) equals ∷ flat_constant v) → ValueHasRole tree name v
  value_has name equals (constant.Word w) h = ((mark want.Constant w, h.1.2.2.1, refl, refl), omega (arith, h.1.0, h.1.2.2.0))
  value_has name equals (constant.Number n) h =
      let behind : Run (mark (want.One class.Equals) equals ∷ flat_signed n) = tail (mark want.OptionName name) (mark (want.One class.Equals) equals ∷ flat_signed n) h in
      signed_has n (tail (mark (want.One class.Equals) equals) (flat_signed n) behind)
  value_has name equals (constant.Text j) h = tt

  setting_has : (s : Setting) → Run (flat_setting s) → AllByRecursion OptionHas (setting_options s)
  setting_has (setting.Plain p) h = ((stands (mark want.OptionName p.name) (one_mark class.Equals p.equals ++ flat_constant p.value) h, value_has p.name p.equals p.value h), tt)
  setting_has (setting.Custom c) h = tt

  settings_has : (o : Option Settings) → Run (flat_option flat_settings o) → AllByRecursion OptionHas (settings_of o)
  settings_has None h = tt
  settings_has (Some s) h =
      let list : List Mark = flat_separated class.Comma flat_setting s.list in
      let behind = tail (mark (want.One class.LeftBracket) s.open) (list ++ one_mark class.RightBracket s.close) h in
      flattened (λ x. Run (flat_setting x)) OptionHas setting_options setting_has (separated s.list)
      (separated_has class.Comma flat_setting s.list (left list (one_mark class.RightBracket s.close) behind))

  option_has : (s : Statement) → Run (flat_statement s) → AllByRecursion OptionHas (statement_options s)
  option_has (statement.Option o) h =
      let behind = tail (mark (want.One class.Option) o.keyword) (flat_setting o.setting ++ one_mark class.Semicolon o.semicolon) h in
      setting_has o.setting (left (flat_setting o.setting) (one_mark class.Semicolon o.semicolon) behind)
  option_has _ h = tt

  -- ---- fields

  abbrev Labels : List ℕ → Type 0
  Labels ts = AllByRecursion (HasRole tree labels) ts

  abbrev Scalars : List ℕ → Type 0
  Scalars ts = AllByRecursion (HasRole tree is_scalar) ts

  abbrev Numbers : List ℕ → Type 0
  Numbers ts = AllByRecursion (HasRole tree is_number) ts

  record FieldHas (f : FieldOf) : Type 0 where
    of_label : Labels (option_to_list f.label)
    of_key : Scalars (option_to_list f.map_key)
    of_kind : Scalars (scalar_tokens f.kind)
    of_number : HasRole tree is_number f.number
    of_options : AllByRecursion OptionHas f.options

  label_has : (o : Option ℕ) → Run (flat_option (only want.Label) o) → Labels (option_to_list o)
  label_has None h = tt
  label_has (Some t) h = (stands (mark want.Label t) [] h, tt)

  kind_has : (t : FieldType) → Run (flat_type t) → Scalars (scalar_tokens t)
  kind_has (field_type.Scalar t) h = (stands (mark (want.One class.Scalar) t) [] h, tt)
  kind_has (field_type.Reference r) h = tt

  -- what stands from the name of a field on
  ends_have : (name equals number : ℕ) (settings : Option Settings) (semicolon : ℕ)
      → Run (mark want.Name name ∷ mark (want.One class.Equals) equals ∷ mark (want.One class.Number) number ∷ (flat_option flat_settings settings ++ one_mark class.Semicolon semicolon))
      → HasRole tree is_number number × AllByRecursion OptionHas (settings_of settings)
  ends_have name equals number settings semicolon h =
      let ends : List Mark = flat_option flat_settings settings ++ one_mark class.Semicolon semicolon in
      let valued = tail (mark want.Name name) (mark (want.One class.Equals) equals ∷ mark (want.One class.Number) number ∷ ends) h in
      let numbered = tail (mark (want.One class.Equals) equals) (mark (want.One class.Number) number ∷ ends) valued in
      let set = tail (mark (want.One class.Number) number) ends numbered in
      (stands (mark (want.One class.Number) number) ends numbered, settings_has settings (left (flat_option flat_settings settings) (one_mark class.Semicolon semicolon) set))

  plain_has : (oneof : Option ℕ) (f : Field) → Run (flat_statement (statement.Field f)) → FieldHas (plain_field oneof f)
  plain_has oneof f h =
      let label : List Mark = flat_option (only want.Label) f.label in
      let later : List Mark = name_mark f.name ++ (one_mark class.Equals f.equals ++ (one_mark class.Number f.number ++ (flat_option flat_settings f.settings ++ one_mark class.Semicolon f.semicolon))) in
      let behind = right label (flat_type f.kind ++ later) h in
      let ends = ends_have f.name f.equals f.number f.settings f.semicolon (right (flat_type f.kind) later behind) in
      record {
        of_label = label_has f.label (left label (flat_type f.kind ++ later) h);
        of_key = tt;
        of_kind = kind_has f.kind (left (flat_type f.kind) later behind);
        of_number = ends.0;
        of_options = ends.1;
      }

  map_has : (f : MapField) → Run (flat_statement (statement.MapField f)) → FieldHas (map_field f)
  map_has f h =
      let ends : List Mark = name_mark f.name ++ (one_mark class.Equals f.equals ++ (one_mark class.Number f.number ++ (flat_option flat_settings f.settings ++ one_mark class.Semicolon f.semicolon))) in
      let later : List Mark = one_mark class.Greater f.close ++ ends in
      let opened = tail (mark (want.One class.Map) f.keyword) (mark (want.One class.Less) f.open ∷ mark (want.One class.Scalar) f.key ∷ mark (want.One class.Comma) f.comma ∷ (flat_type f.value ++ later)) h in
      let keyed = tail (mark (want.One class.Less) f.open) (mark (want.One class.Scalar) f.key ∷ mark (want.One class.Comma) f.comma ∷ (flat_type f.value ++ later)) opened in
      let parted = tail (mark (want.One class.Scalar) f.key) (mark (want.One class.Comma) f.comma ∷ (flat_type f.value ++ later)) keyed in
      let typed = tail (mark (want.One class.Comma) f.comma) (flat_type f.value ++ later) parted in
      let named = tail (mark (want.One class.Greater) f.close) ends (right (flat_type f.value) later typed) in
      let last = ends_have f.name f.equals f.number f.settings f.semicolon named in
      record {
        of_label = tt;
        of_key = (stands (mark (want.One class.Scalar) f.key) (mark (want.One class.Comma) f.comma ∷ (flat_type f.value ++ later)) keyed, tt);
        of_kind = kind_has f.value (left (flat_type f.value) later typed);
        of_number = last.0;
        of_options = last.1;
      }

  fields_have : (oneof : Option ℕ) (s : Statement) → Run (flat_statement s) → AllByRecursion FieldHas (statement_fields oneof s)
  fields_have oneof (statement.Field f) h = (plain_has oneof f h, tt)
  fields_have oneof (statement.MapField f) h = (map_has f h, tt)
  fields_have oneof _ h = tt

  -- ---- values and ranges

  abbrev ValueHas : Value → Type 0
  ValueHas v = HasRole tree is_number v.number.number × AllByRecursion OptionHas (settings_of v.settings)

  values_have : (s : Statement) → Run (flat_statement s) → AllByRecursion ValueHas (statement_values s)
  values_have (statement.Value v) h =
      let settings : List Mark = flat_option flat_settings v.settings in
      let ends : List Mark = settings ++ one_mark class.Semicolon v.semicolon in
      let valued = tail (mark want.ValueName v.name) (mark (want.One class.Equals) v.equals ∷ (flat_signed v.number ++ ends)) h in
      let numbered = tail (mark (want.One class.Equals) v.equals) (flat_signed v.number ++ ends) valued in
      ((signed_has v.number (left (flat_signed v.number) ends numbered), settings_has v.settings (left settings (one_mark class.Semicolon v.semicolon) (right (flat_signed v.number) ends numbered))), tt)
  values_have _ h = tt

  module _ {N : Type 0} (view : N → List Mark) (token : N → ℕ) (each : (n : N) → Run (view n) → HasRole tree is_number (token n)) where
    end_has : (e : RangeEnd N) → Run (flat_range_end view e) → Numbers (end_tokens token e)
    end_has (range_end.Number n) h = (each n h, tt)
    end_has (range_end.Max i) h = tt

    up_to_has : (u : Option (UpTo N)) → Run (flat_option (flat_up_to view) u) → Numbers (up_to_tokens token u)
    up_to_has None h = tt
    up_to_has (Some u) h = end_has u.end (tail (mark (want.One class.To) u.to) (flat_range_end view u.end) h)

    range_has : (r : Range N) → Run (flat_range view r) → Numbers (range_tokens token r)
    range_has r h = (each r.first (left (view r.first) (flat_option (flat_up_to view) r.up_to) h), up_to_has r.up_to (right (view r.first) (flat_option (flat_up_to view) r.up_to) h))

    ranges_have : (s : Separated (Range N)) → Run (flat_separated class.Comma (flat_range view) s) → AllByRecursion (λ r. Numbers (range_tokens token r)) (separated s)
    ranges_have s h = alls (separated s) (separated_has class.Comma (flat_range view) s h)
      where
        alls : (rs : List (Range N)) → AllByRecursion (λ r. Run (flat_range view r)) rs → AllByRecursion (λ r. Numbers (range_tokens token r)) rs
        alls [] m = tt
        alls (r ∷ rs) m = (range_has r m.0, alls rs m.1)

    list_has : (l : ReservedList N) → Run (flat_reserved_list view l) → AllByRecursion (λ r. Numbers (range_tokens token r)) (ranges_of l)
    list_has (reserved_list.Names ns) h = tt
    list_has (reserved_list.Ranges rs) h = ranges_have rs h

  abbrev RangeHas : Range ℕ → Type 0
  RangeHas r = Numbers (range_tokens (λ t. t) r)

  abbrev SignedHas : Range Signed → Type 0
  SignedHas r = Numbers (range_tokens (λ (s : Signed). s.number) r)

  closed_have : (s : Statement) → Run (flat_statement s) → AllByRecursion RangeHas (closed_ranges s)
  closed_have (statement.Reserved r) h =
      let list : List Mark = flat_reserved_list flat_number r.list in
      let behind = tail (mark (want.One class.Reserved) r.keyword) (list ++ one_mark class.Semicolon r.semicolon) h in
      both RangeHas (ranges_of r.list) [] (list_has flat_number (λ t. t) number_has r.list (left list (one_mark class.Semicolon r.semicolon) behind)) tt
  closed_have (statement.Extensions e) h =
      let list : List Mark = flat_separated class.Comma (flat_range flat_number) e.ranges in
      let behind = tail (mark (want.One class.Extensions) e.keyword) (list ++ one_mark class.Semicolon e.semicolon) h in
      ranges_have flat_number (λ t. t) number_has e.ranges (left list (one_mark class.Semicolon e.semicolon) behind)
  closed_have _ h = tt

  enum_ranges_have : (s : Statement) → Run (flat_statement s) → AllByRecursion SignedHas (enum_ranges s)
  enum_ranges_have (statement.EnumReserved r) h =
      let list : List Mark = flat_reserved_list flat_signed r.list in
      let behind = tail (mark (want.One class.Reserved) r.keyword) (list ++ one_mark class.Semicolon r.semicolon) h in
      list_has flat_signed (λ (s : Signed). s.number) signed_has r.list (left list (one_mark class.Semicolon r.semicolon) behind)
  enum_ranges_have _ h = tt

  -- ---- the parts of a tree

  within_run : (h : Header) (i : ℕ) (within : Tree) (j : ℕ) (rest : Tree) → Run (flat (Block h i within j rest)) → Run (flat within)
  within_run h i within j rest r =
      let begin : List Mark = flat_header h ++ one_mark class.Open i in
      let behind : List Mark = flat within ++ (one_mark class.Close j ++ flat rest) in
      left (flat within) (one_mark class.Close j ++ flat rest) (right begin behind r)

  rest_run : (h : Header) (i : ℕ) (within : Tree) (j : ℕ) (rest : Tree) → Run (flat (Block h i within j rest)) → Run (flat rest)
  rest_run h i within j rest r =
      let begin : List Mark = flat_header h ++ one_mark class.Open i in
      let behind : List Mark = flat within ++ (one_mark class.Close j ++ flat rest) in
      tail (mark (want.One class.Close) j) (flat rest) (right (flat within) (one_mark class.Close j ++ flat rest) (right begin behind r))

  statements_run : (t : Tree) → Run (flat t) → AllByRecursion (λ s. Run (flat_statement s)) (statements t)
  statements_run End r = tt
  statements_run (Leaf s rest) r = (left (flat_statement s) (flat rest) r, statements_run rest (right (flat_statement s) (flat rest) r))
  statements_run (Block h i within j rest) r = statements_run rest (rest_run h i within j rest r)

  abbrev BlockRun : BlockOf → Type 0
  BlockRun b = Run (flat b.within)

  blocks_run : (t : Tree) → Run (flat t) → AllByRecursion BlockRun (blocks_in t)
  blocks_run End r = tt
  blocks_run (Leaf s rest) r = blocks_run rest (right (flat_statement s) (flat rest) r)
  blocks_run (Block h i within j rest) r =
      let inner = within_run h i within j rest r in
      (inner, both BlockRun (blocks_in within) (blocks_in rest) (blocks_run within inner) (blocks_run rest (rest_run h i within j rest r)))

  parts_have : {A : Type 0} (P : A → Type 0) (part : Statement → List A) → ((s : Statement) → Run (flat_statement s) → AllByRecursion P (part s)) → (t : Tree) → Run (flat t) → AllByRecursion P (flat_map part (statements t))
  parts_have P part h t r = flattened (λ s. Run (flat_statement s)) P part h (statements t) (statements_run t r)

  all_fields_have : (n : ℕ) (t : Tree) → Run (flat t) → AllByRecursion FieldHas (fields_from n t)
  all_fields_have n End r = tt
  all_fields_have n (Leaf s rest) r =
      both FieldHas (statement_fields None s) (fields_from n rest) (fields_have None s (left (flat_statement s) (flat rest) r)) (all_fields_have n rest (right (flat_statement s) (flat rest) r))
  all_fields_have n (Block (header.Oneof h) i within j rest) r =
      both FieldHas (flat_map (statement_fields (Some n)) (statements within)) (fields_from (suc n) rest)
      (parts_have FieldHas (statement_fields (Some n)) (fields_have (Some n)) within (within_run (header.Oneof h) i within j rest r))
      (all_fields_have (suc n) rest (rest_run (header.Oneof h) i within j rest r))
  all_fields_have n (Block whole i within j rest) r = all_fields_have n rest (rest_run whole i within j rest r)

  -- ---- what sentences ask

  module _ (scene : Scene) where
    abbrev Asked : ℕ → Type 0
    Asked t = ((role : Role) × (is_asked role ≡ true) × HasRole tree role t) ⊎ IsOtherValue scene tree t

    abbrev AreAsked : List ℕ → Type 0
    AreAsked ts = AllByRecursion Asked ts

    of_role : (role : Role) → is_asked role ≡ true → (ts : List ℕ) → AllByRecursion (HasRole tree role) ts → AreAsked ts
    of_role role a [] h = tt
    of_role role a (t ∷ ts) h = (inl (role, a, h.0), of_role role a ts h.1)

    word_asked : (o : OptionOf) → HasRole tree names_option o.name → is_named (text scene) (codes "default") o ≡ false → (v : Constant) → ValueHasRole tree o.name v → AreAsked (constant_tokens v)
    word_asked o n e (constant.Word w) h = (inr (record { option = o; name = n; value = h.0; behind = h.1; no_default = e }), tt)
    word_asked o n e (constant.Number x) h = tt
    word_asked o n e (constant.Text j) h = tt

    option_asked : (o : OptionOf) → OptionHas o → AreAsked (option_tokens scene o)
    option_asked o h = (inl (names_option, refl, h.0), by (is_named (text scene) (codes "default") o) refl)
      where
        by : (b : Bool) → is_named (text scene) (codes "default") o ≡ b → AreAsked (if b then [] else constant_tokens o.value)
        by true e = tt
        by false e = word_asked o h.0 e o.value h.1

    options_asked : (os : List OptionOf) → AllByRecursion OptionHas os → AreAsked (flat_map (option_tokens scene) os)
    options_asked os h = flattened OptionHas Asked (option_tokens scene) option_asked os h

    field_asked : (f : FieldOf) → FieldHas f → AreAsked (field_tokens scene f)
    field_asked f h =
        let options : List ℕ = flat_map (option_tokens scene) f.options in
        both Asked (option_to_list f.label) (option_to_list f.map_key ++ (scalar_tokens f.kind ++ f.number ∷ options)) (of_role labels refl (option_to_list f.label) h.of_label)
        (both Asked (option_to_list f.map_key) (scalar_tokens f.kind ++ f.number ∷ options) (of_role is_scalar refl (option_to_list f.map_key) h.of_key)
        (both Asked (scalar_tokens f.kind) (f.number ∷ options) (of_role is_scalar refl (scalar_tokens f.kind) h.of_kind) (inl (is_number, refl, h.of_number), options_asked f.options h.of_options)))

    value_asked : (v : Value) → ValueHas v → AreAsked (value_tokens scene v)
    value_asked v h = (inl (is_number, refl, h.0), options_asked (settings_of v.settings) h.1)

    header_asked : (h : Header) (within : Tree) → Run (flat within) → AreAsked (header_tokens scene h within)
    header_asked (header.Message h) within r =
        let fs : List FieldOf = fields_in within in
        let rs : List (Range ℕ) = flat_map closed_ranges (statements within) in
        both Asked (flat_map (field_tokens scene) fs) (flat_map (range_tokens (λ t. t)) rs)
        (flattened FieldHas Asked (field_tokens scene) field_asked fs (all_fields_have 0 within r))
        (flattened RangeHas Asked (range_tokens (λ t. t)) (λ x. of_role is_number refl (range_tokens (λ t. t) x)) rs (parts_have RangeHas closed_ranges closed_have within r))
    header_asked (header.Enum h) within r =
        let vs : List Value = values_in within in
        let rs : List (Range Signed) = flat_map enum_ranges (statements within) in
        both Asked (flat_map (value_tokens scene) vs) (flat_map (range_tokens (λ (s : Signed). s.number)) rs)
        (flattened ValueHas Asked (value_tokens scene) value_asked vs (parts_have ValueHas statement_values values_have within r))
        (flattened SignedHas Asked (range_tokens (λ (s : Signed). s.number)) (λ x. of_role is_number refl (range_tokens (λ (s : Signed). s.number) x)) rs (parts_have SignedHas enum_ranges enum_ranges_have within r))
    header_asked (header.Extend e) within r = flattened FieldHas Asked (field_tokens scene) field_asked (fields_in within) (all_fields_have 0 within r)
    header_asked whole within r = tt

    block_asked : (b : BlockOf) → BlockRun b → AreAsked (block_tokens scene b)
    block_asked b r =
        both Asked (header_tokens scene b.header b.within) (flat_map (option_tokens scene) (options_in b.within)) (header_asked b.header b.within r)
        (options_asked (options_in b.within) (parts_have OptionHas statement_options option_has b.within r))

    tree_asked : Run (flat tree) → AreAsked (asked_tokens scene tree)
    tree_asked r =
        both Asked (flat_map (option_tokens scene) (options_in tree)) (flat_map (block_tokens scene) (blocks_in tree)) (options_asked (options_in tree) (parts_have OptionHas statement_options option_has tree r))
        (flattened BlockRun Asked (block_tokens scene) block_asked (blocks_in tree) (blocks_run tree r))

-- ---- a tree that was read

from_numbered : (tree : Tree) (n : ℕ) (ms : List Mark) → Numbered n ms → ((m : Mark) → Contains ms m → Contains (flat tree) m) → From tree n ms
from_numbered tree n [] num f = tt
from_numbered tree n (m ∷ ms) num f = (num.0, f m (contains_head m ms), from_numbered tree (suc n) ms num.1 (λ x c. f x (contains_later m x ms c)))

whole : (profile : Profile) (tree : Tree) (ls : List Lexeme) → Spells tree (classes_in profile 0 ls) → Run tree (flat tree)
whole profile tree ls spells = (0, from_numbered tree 0 (flat tree) (trees_are_numbered_in profile tree ls spells) (λ m c. c))

pub field_options_have_roles : FieldOptionsHaveRoles
field_options_have_roles profile tree ls spells b f o cb cf co =
    let block = one_of (BlockRun tree) (blocks_in tree) b (blocks_run tree tree (whole profile tree ls spells)) cb in
    let field = one_of (FieldHas tree) (fields_in b.within) f (all_fields_have tree 0 b.within block) cf in
    one_of (OptionHas tree) f.options o field.of_options co

pub value_numbers_are_numbers : ValueNumbersAreNumbers
value_numbers_are_numbers profile tree ls spells b v cb cv =
    let block = one_of (BlockRun tree) (blocks_in tree) b (blocks_run tree tree (whole profile tree ls spells)) cb in
    (one_of (ValueHas tree) (values_in b.within) v (parts_have tree (ValueHas tree) statement_values (values_have tree) b.within block) cv).0

pub asked_tokens_have_roles : AskedTokensHaveRoles
asked_tokens_have_roles profile scene tree ls spells token c = one_of (Asked tree scene) (asked_tokens scene tree) token (tree_asked tree scene (whole profile tree ls spells)) c

differ : false ≡ true → ⊥
differ e = cc

pub names_are_not_asked : NamesAreNotAsked
names_are_not_asked profile scene tree ls spells role token is has c = elim (asked_tokens_have_roles profile scene tree ls spells token c) [
  | inl a ↦ other role is (subst (λ r. is_asked r ≡ true) (roles_are_one_in profile tree ls a.0 role token spells a.2 has) a.1)
  | inr v ↦ no_value (subst (λ r. is_of_declarations r ≡ true) (roles_are_one_in profile tree ls role is_value token spells has v.value) is)
]
  where
    other : (r : Role) → is_of_declarations r ≡ true → is_asked r ≡ true → ⊥
    other names a b = differ b
    other refers a b = differ b
    other names_option a b = differ a
    other is_value a b = differ a
    other labels a b = differ a
    other is_scalar a b = differ a
    other is_number a b = differ a
    other is_other a b = differ a

    no_value : is_of_declarations is_value ≡ true → ⊥
    no_value e = differ e

pub defaults_are_not_asked : DefaultsAreNotAsked
defaults_are_not_asked profile scene tree ls spells b f o cb cf co named word is c =
    let has : ValueHasRole tree o.name (constant.Word word) = subst (λ v. ValueHasRole tree o.name v) is (field_options_have_roles profile tree ls spells b f o cb cf co).1 in
    elim (asked_tokens_have_roles profile scene tree ls spells word c) [
      | inl a ↦ no_value (subst (λ r. is_asked r ≡ true) (roles_are_one_in profile tree ls a.0 is_value word spells a.2 has.0) a.1)
      | inr v ↦
          let same : v.option.name ≡ o.name = omega (arith, v.behind, has.1) in
          differ (sym v.no_default ∙ ap (λ i. bytes_eq (text scene i) (codes "default")) same ∙ named)
    ]
  where
    no_value : is_asked is_value ≡ true → ⊥
    no_value e = differ e
