-- A moved tree has the moved marks (for the crates above).
use Rattle.std.proofs.Common.{◌≡◌, ℕ, suc, Bool, true, false, List, [], ◌∷◌, ◌++◌, map, Option, Some, None, refl, sym, ap, subst, ◌∙◌}
use Rattle.proto_tree.specs.Common.{Class, Expected, Separated, FieldType, Atom, CustomValue, Setting, flat_aggregate, flat_within, flat_extension_name, flat_custom, flat_custom_value, flat_plain, fewer, inner_expected, other_expected, move_atom, move_aggregate, move_custom, move_custom_value, move_plain, Constant, Settings, RangeEnd, ReservedList, Statement, Header, Context, Mark, only, one, flat_option, flat_all, flat_behind, flat_from, flat_separated, flat_dotted, flat_words, flat_reference, flat_type, flat_signed, flat_joined, flat_constant, flat_setting, flat_settings, flat_option_statement, flat_syntax, flat_import, flat_package, flat_field, flat_map_field, flat_range_end, flat_up_to, flat_range, flat_ranges, flat_reserved_list, flat_reserved, flat_extensions, flat_value, flat_method_type, flat_signature, flat_statement, flat_extending, flat_header, Tree, End, Leaf, Block, flat, field_kind, option_kind, statement_kind, header_kind, allows, after, inside, IsWellFormed, Move, move_extending, move_option, move_behind, move_separated, move_reference, move_type, move_signed, move_joined, move_constant, move_setting, move_settings, move_option_statement, move_syntax, move_import, move_package, move_field, move_map_field, move_range_end, move_up_to, move_range, move_reserved_list, move_reserved, move_extensions, move_value, move_method_type, move_signature, move_statement, move_header, move_tree, shift, flat_modifier, move_modifier}
use Rattle.proto_tree.specs.declared.class.Class.TheVariants as class
use Rattle.proto_tree.specs.declared.class.Expected.TheVariants as want
use Rattle.proto_tree.specs.declared.tree.FieldType.TheVariants as field_type
use Rattle.proto_tree.specs.declared.tree.Modifier.{Modifier}
use Rattle.proto_tree.specs.declared.tree.Modifier.TheVariants as modifier
use Rattle.proto_tree.specs.declared.tree.Constant.TheVariants as constant
use Rattle.proto_tree.specs.declared.tree.Atom.TheVariants as atom
use Rattle.proto_tree.specs.declared.tree.CustomValue.TheVariants as custom_value
use Rattle.proto_tree.specs.declared.tree.Setting.TheVariants as setting
use Rattle.proto_tree.specs.declared.tree.RangeEnd.TheVariants as range_end
use Rattle.proto_tree.specs.declared.tree.ReservedList.TheVariants as reserved_list
use Rattle.proto_tree.specs.declared.piece.Statement.TheVariants as statement
use Rattle.proto_tree.specs.declared.piece.Header.TheVariants as header

module _ (g : Move) where
  record IsMoved {A : Type 0} (flat : A → List Mark) (f : A → A) : Type 0 where
    law : (x : A) → flat (f x) ≡ map (shift g) (flat x)

  pub shift_append : (a b : List Mark) → map (shift g) (a ++ b) ≡ map (shift g) a ++ map (shift g) b
  shift_append [] b = refl
  shift_append (m ∷ a) b = ap (λ (ms : List Mark). shift g m ∷ ms) (shift_append a b)

  both : (a b u v : List Mark) → u ≡ map (shift g) a → v ≡ map (shift g) b → u ++ v ≡ map (shift g) (a ++ b)
  both a b u v e f = ap (λ (ms : List Mark). ms ++ v) e ∙ ap (λ (ms : List Mark). map (shift g) a ++ ms) f ∙ sym (shift_append a b)

  then_moved : {A B : Type 0} {flat_p : A → List Mark} {flat_q : B → List Mark} {f : A → A} {h : B → B} → IsMoved flat_p f → IsMoved flat_q h → IsMoved (λ (x : A × B). flat_p x.0 ++ flat_q x.1) (λ x. (f x.0, h x.1))
  then_moved {flat_p = flat_p} {flat_q = flat_q} {f = f} {h = h} p q = record { law = λ x. both (flat_p x.0) (flat_q x.1) (flat_p (f x.0)) (flat_q (h x.1)) (p.law x.0) (q.law x.1) }

  seen_moved : {A B : Type 0} {flat_a : A → List Mark} {f : A → A} (flat : B → List Mark) (h : B → B) (view : B → A) → ((b : B) → flat_a (view b) ≡ flat b) → ((b : B) → f (view b) ≡ view (h b)) → IsMoved flat_a f → IsMoved flat h
  seen_moved {flat_a = flat_a} flat h view same moves m = record { law = λ b. sym (same (h b)) ∙ ap flat_a (sym (moves b)) ∙ m.law (view b) ∙ ap (map (shift g)) (same b) }

  tok : (w : Expected) → IsMoved (only w) g
  tok w = record { law = λ i. refl }

  the : (c : Class) → IsMoved (one c) g
  the c = tok (want.One c)

  maybe : {A : Type 0} {flat : A → List Mark} {f : A → A} → IsMoved flat f → IsMoved (flat_option flat) (move_option f)
  maybe {A = A} {flat = flat} {f = f} m = record { law = by }
    where
      by : (o : Option A) → flat_option flat (move_option f o) ≡ map (shift g) (flat_option flat o)
      by None = refl
      by (Some x) = m.law x

  all_law : {A : Type 0} (flat : A → List Mark) (f : A → A) → IsMoved flat f → (xs : List A) → flat_all flat (map f xs) ≡ map (shift g) (flat_all flat xs)
  all_law flat f m [] = refl
  all_law flat f m (x ∷ xs) = both (flat x) (flat_all flat xs) (flat (f x)) (flat_all flat (map f xs)) (m.law x) (all_law flat f m xs)

  all : {A : Type 0} {flat : A → List Mark} {f : A → A} → IsMoved flat f → IsMoved (flat_all flat) (map f)
  all {flat = flat} {f = f} m = record { law = all_law flat f m }

  behind : {A : Type 0} (c : Class) {flat : A → List Mark} {f : A → A} → IsMoved flat f → IsMoved (flat_behind c flat) (move_behind g f)
  behind c {flat = flat} {f = f} m = seen_moved (flat_behind c flat) (move_behind g f) (λ b. (b.separator, b.item)) (λ b. refl) (λ b. refl) (then_moved (the c) m)

  from : {A : Type 0} (c : Class) {first flat : A → List Mark} {f : A → A} → IsMoved first f → IsMoved flat f → IsMoved (flat_from c first flat) (move_separated g f)
  from c {first = first} {flat = flat} {f = f} p m = seen_moved (flat_from c first flat) (move_separated g f) (λ s. (s.first, s.rest)) (λ s. refl) (λ s. refl) (then_moved p (all (behind c m)))

  dotted : IsMoved flat_dotted (move_separated g g)
  dotted = from class.Dot (tok want.Word) (tok want.Word)

  package_name : IsMoved (flat_separated class.Dot (only want.Name)) (move_separated g g)
  package_name = from class.Dot (tok want.Name) (tok want.Name)

  words_law : (dot : Option ℕ) (words : Separated ℕ) → flat_words (move_option g dot) (move_separated g g words) ≡ map (shift g) (flat_words dot words)
  words_law None words = (from class.Dot (the class.Name) (tok want.Word)).law words
  words_law (Some i) words = both (one class.Dot i) (flat_dotted words) (one class.Dot (g i)) (flat_dotted (move_separated g g words)) refl (dotted.law words)

  reference : IsMoved flat_reference (move_reference g)
  reference = record { law = λ r. words_law r.dot r.words }

  type_law : (t : FieldType) → flat_type (move_type g t) ≡ map (shift g) (flat_type t)
  type_law (field_type.Scalar i) = refl
  type_law (field_type.Reference r) = reference.law r

  type : IsMoved flat_type (move_type g)
  type = record { law = type_law }

  signed : IsMoved flat_signed (move_signed g)
  signed = seen_moved flat_signed (move_signed g) (λ n. (n.minus, n.number)) (λ n. refl) (λ n. refl) (then_moved (maybe (the class.Minus)) (the class.Number))

  joined : IsMoved flat_joined (move_joined g)
  joined = seen_moved flat_joined (move_joined g) (λ t. (t.first, t.rest)) (λ t. refl) (λ t. refl) (then_moved (tok want.Text) (all (tok want.Text)))

  within_law : (colon : Bool) (n : ℕ) (atoms : List Atom) (j : ℕ) → flat_within colon n (map (move_atom g) atoms) (g j) ≡ map (shift g) (flat_within colon n atoms j)
  within_law colon n [] j = refl
  within_law colon n (atom.Open i ∷ rest) j = ap (λ (ms : List Mark). one class.Open (g i) ++ ms) (within_law false (suc n) rest j)
  within_law colon n (atom.Close i ∷ rest) j = ap (λ (ms : List Mark). only (inner_expected n) (g i) ++ ms) (within_law false (fewer n) rest j)
  within_law colon n (atom.Colon i ∷ rest) j = ap (λ (ms : List Mark). one class.Colon (g i) ++ ms) (within_law true n rest j)
  within_law colon n (atom.Word i ∷ rest) j = ap (λ (ms : List Mark). only want.OptionName (g i) ++ ms) (within_law false n rest j)
  within_law colon n (atom.Other i ∷ rest) j = ap (λ (ms : List Mark). only (other_expected colon) (g i) ++ ms) (within_law false n rest j)

  aggregate : IsMoved flat_aggregate (move_aggregate g)
  aggregate = record { law = λ a. ap (λ (ms : List Mark). one class.Open (g a.«open») ++ ms) (within_law false 0 a.atoms a.close) }

  extension_name : IsMoved flat_extension_name (move_reference g)
  extension_name = seen_moved flat_extension_name (move_reference g) (λ r. (r.dot, r.words)) (λ r. refl) (λ r. refl) (then_moved (maybe (the class.Dot)) dotted)

  constant_law : (x : Constant) → flat_constant (move_constant g x) ≡ map (shift g) (flat_constant x)
  constant_law (constant.Word i) = refl
  constant_law (constant.Number n) = signed.law n
  constant_law (constant.Text t) = joined.law t

  value_of : IsMoved flat_constant (move_constant g)
  value_of = record { law = constant_law }

  custom_value_law : (x : CustomValue) → flat_custom_value (move_custom_value g x) ≡ map (shift g) (flat_custom_value x)
  custom_value_law (custom_value.Constant c) = constant_law c
  custom_value_law (custom_value.Aggregate a) = aggregate.law a

  custom_value_moved : IsMoved flat_custom_value (move_custom_value g)
  custom_value_moved = record { law = custom_value_law }

  custom : IsMoved flat_custom (move_custom g)
  custom = seen_moved flat_custom (move_custom g) (λ c. (c.«open», (c.name, (c.close, (c.path, (c.equals, c.value)))))) (λ c. refl) (λ c. refl)
      (then_moved (the class.NameParenthesis) (then_moved extension_name (then_moved (the class.RightParenthesis) (then_moved (all (behind class.Dot (tok want.OptionName))) (then_moved (the class.Equals) custom_value_moved)))))

  plain : IsMoved flat_plain (move_plain g)
  plain = seen_moved flat_plain (move_plain g) (λ p. (p.name, (p.equals, p.value))) (λ p. refl) (λ p. refl) (then_moved (tok want.OptionName) (then_moved (the class.Equals) value_of))

  setting_law : (x : Setting) → flat_setting (move_setting g x) ≡ map (shift g) (flat_setting x)
  setting_law (setting.Plain p) = plain.law p
  setting_law (setting.Custom c) = custom.law c

  setting_moved : IsMoved flat_setting (move_setting g)
  setting_moved = record { law = setting_law }

  settings : IsMoved flat_settings (move_settings g)
  settings = seen_moved flat_settings (move_settings g) (λ s. (s.«open», (s.list, s.close))) (λ s. refl) (λ s. refl) (then_moved (the class.LeftBracket) (then_moved (from class.Comma setting_moved setting_moved) (the class.RightBracket)))

  option_statement : IsMoved flat_option_statement (move_option_statement g)
  option_statement = seen_moved flat_option_statement (move_option_statement g) (λ o. (o.keyword, (o.setting, o.semicolon))) (λ o. refl) (λ o. refl)
      (then_moved (the class.Option) (then_moved setting_moved (the class.Semicolon)))

  syntax_statement : IsMoved flat_syntax (move_syntax g)
  syntax_statement = record { law = λ s. refl }

  modifier_law : (x : Modifier) → flat_modifier (move_modifier g x) ≡ map (shift g) (flat_modifier x)
  modifier_law (modifier.Public i) = refl
  modifier_law (modifier.Weak i) = refl

  modifier_moved : IsMoved flat_modifier (move_modifier g)
  modifier_moved = record { law = modifier_law }

  import_statement : IsMoved flat_import (move_import g)
  import_statement = seen_moved flat_import (move_import g) (λ i. (i.keyword, (i.modifier, (i.path, i.semicolon)))) (λ i. refl) (λ i. refl)
      (then_moved (the class.Import) (then_moved (maybe modifier_moved) (then_moved (tok want.Text) (the class.Semicolon))))

  package_statement : IsMoved flat_package (move_package g)
  package_statement = seen_moved flat_package (move_package g) (λ p. (p.keyword, (p.name, p.semicolon))) (λ p. refl) (λ p. refl) (then_moved (the class.Package) (then_moved package_name (the class.Semicolon)))

  ended : IsMoved (λ (x : Option Settings × ℕ). flat_option flat_settings x.0 ++ one class.Semicolon x.1) (λ x. (move_option (move_settings g) x.0, g x.1))
  ended = then_moved (maybe settings) (the class.Semicolon)

  field : IsMoved flat_field (move_field g)
  field = seen_moved flat_field (move_field g) (λ f. (f.label, (f.kind, (f.name, (f.equals, (f.number, (f.settings, f.semicolon))))))) (λ f. refl) (λ f. refl)
      (then_moved (maybe (tok want.Label)) (then_moved type (then_moved (tok want.Name) (then_moved (the class.Equals) (then_moved (the class.Number) ended)))))

  map_field : IsMoved flat_map_field (move_map_field g)
  map_field = seen_moved flat_map_field (move_map_field g)
      (λ f. (f.keyword, (f.«open», (f.key, (f.comma, (f.value, (f.close, (f.name, (f.equals, (f.number, (f.settings, f.semicolon))))))))))) (λ f. refl) (λ f. refl)
      (then_moved (the class.Map) (then_moved (the class.Less) (then_moved (the class.Scalar) (then_moved (the class.Comma) (then_moved type (then_moved (the class.Greater)
      (then_moved (tok want.Name) (then_moved (the class.Equals) (then_moved (the class.Number) ended)))))))))

  module _ {N : Type 0} {flat_n : N → List Mark} {f : N → N} (n : IsMoved flat_n f) where
    range_end_law : (e : RangeEnd N) → flat_range_end flat_n (move_range_end g f e) ≡ map (shift g) (flat_range_end flat_n e)
    range_end_law (range_end.Number x) = n.law x
    range_end_law (range_end.Max i) = refl

    range_end_moved : IsMoved (flat_range_end flat_n) (move_range_end g f)
    range_end_moved = record { law = range_end_law }

    up_to_moved : IsMoved (flat_up_to flat_n) (move_up_to g f)
    up_to_moved = seen_moved (flat_up_to flat_n) (move_up_to g f) (λ u. (u.to, u.end)) (λ u. refl) (λ u. refl) (then_moved (the class.To) range_end_moved)

    range_moved : IsMoved (flat_range flat_n) (move_range g f)
    range_moved = seen_moved (flat_range flat_n) (move_range g f) (λ r. (r.first, r.up_to)) (λ r. refl) (λ r. refl) (then_moved n (maybe up_to_moved))

    ranges_moved : IsMoved (flat_ranges flat_n) (move_separated g (move_range g f))
    ranges_moved = from class.Comma range_moved range_moved

    reserved_list_law : (l : ReservedList N) → flat_reserved_list flat_n (move_reserved_list g f l) ≡ map (shift g) (flat_reserved_list flat_n l)
    reserved_list_law (reserved_list.Names names) = (from class.Comma (tok want.Text) (tok want.Text)).law names
    reserved_list_law (reserved_list.Ranges ranges) = ranges_moved.law ranges

    reserved_list_moved : IsMoved (flat_reserved_list flat_n) (move_reserved_list g f)
    reserved_list_moved = record { law = reserved_list_law }

    reserved_moved : IsMoved (flat_reserved flat_n) (move_reserved g f)
    reserved_moved = seen_moved (flat_reserved flat_n) (move_reserved g f) (λ r. (r.keyword, (r.list, r.semicolon))) (λ r. refl) (λ r. refl) (then_moved (the class.Reserved) (then_moved reserved_list_moved (the class.Semicolon)))

  extensions : IsMoved flat_extensions (move_extensions g)
  extensions = seen_moved flat_extensions (move_extensions g) (λ e. (e.keyword, (e.ranges, e.semicolon))) (λ e. refl) (λ e. refl) (then_moved (the class.Extensions) (then_moved (ranges_moved (the class.Number)) (the class.Semicolon)))

  value : IsMoved flat_value (move_value g)
  value = seen_moved flat_value (move_value g) (λ v. (v.name, (v.equals, (v.number, (v.settings, v.semicolon))))) (λ v. refl) (λ v. refl) (then_moved (tok want.ValueName) (then_moved (the class.Equals) (then_moved signed ended)))

  method_type : IsMoved flat_method_type (move_method_type g)
  method_type = seen_moved flat_method_type (move_method_type g) (λ t. (t.«open», (t.stream, (t.reference, t.close)))) (λ t. refl) (λ t. refl)
      (then_moved (tok want.Parenthesis) (then_moved (maybe (the class.Stream)) (then_moved reference (the class.RightParenthesis))))

  signature : IsMoved flat_signature (move_signature g)
  signature = seen_moved flat_signature (move_signature g) (λ s. (s.keyword, (s.name, (s.input, (s.returns, s.output))))) (λ s. refl) (λ s. refl)
      (then_moved (the class.Rpc) (then_moved (tok want.Name) (then_moved method_type (then_moved (the class.Returns) method_type))))

  extending : IsMoved flat_extending (move_extending g)
  extending = seen_moved flat_extending (move_extending g) (λ e. (e.keyword, e.extendee)) (λ e. refl) (λ e. refl) (then_moved (the class.Extend) reference)

  statement_law : (s : Statement) → flat_statement (move_statement g s) ≡ map (shift g) (flat_statement s)
  statement_law (statement.Syntax s) = syntax_statement.law s
  statement_law (statement.Import i) = import_statement.law i
  statement_law (statement.Package p) = package_statement.law p
  statement_law (statement.Option o) = option_statement.law o
  statement_law (statement.Field f) = field.law f
  statement_law (statement.MapField f) = map_field.law f
  statement_law (statement.Reserved r) = (reserved_moved (the class.Number)).law r
  statement_law (statement.Extensions e) = extensions.law e
  statement_law (statement.Value v) = value.law v
  statement_law (statement.EnumReserved r) = (reserved_moved signed).law r
  statement_law (statement.Method s i) = both (flat_signature s) (one class.Semicolon i) (flat_signature (move_signature g s)) (one class.Semicolon (g i)) (signature.law s) refl
  statement_law (statement.Empty i) = refl

  header_law : (h : Header) → flat_header (move_header g h) ≡ map (shift g) (flat_header h)
  header_law (header.Message h) = refl
  header_law (header.Oneof h) = refl
  header_law (header.Enum h) = refl
  header_law (header.Service h) = refl
  header_law (header.Method s) = signature.law s
  header_law (header.Extend e) = extending.law e

  pub flat_moved : (t : Tree) → flat (move_tree g t) ≡ map (shift g) (flat t)
  flat_moved End = refl
  flat_moved (Leaf s rest) = both (flat_statement s) (flat rest) (flat_statement (move_statement g s)) (flat (move_tree g rest)) (statement_law s) (flat_moved rest)
  flat_moved (Block h i within j rest) =
      both (flat_header h ++ one class.Open i) (flat within ++ (one class.Close j ++ flat rest)) (flat_header (move_header g h) ++ one class.Open (g i)) (flat (move_tree g within) ++ (one class.Close (g j) ++ flat (move_tree g rest)))
      (both (flat_header h) (one class.Open i) (flat_header (move_header g h)) (one class.Open (g i)) (header_law h) refl)
      (both (flat within) (one class.Close j ++ flat rest) (flat (move_tree g within)) (one class.Close (g j) ++ flat (move_tree g rest)) (flat_moved within)
      (both (one class.Close j) (flat rest) (one class.Close (g j)) (flat (move_tree g rest)) refl (flat_moved rest)))

  -- ---- what stands where is the same

  label_kind : (o : Option ℕ) → field_kind (move_option g o) ≡ field_kind o
  label_kind None = refl
  label_kind (Some i) = refl

  option_moved : (s : Setting) → option_kind (move_setting g s) ≡ option_kind s
  option_moved (setting.Plain p) = refl
  option_moved (setting.Custom c) = refl

  pub kind_moved : (s : Statement) → statement_kind (move_statement g s) ≡ statement_kind s
  kind_moved (statement.Syntax s) = refl
  kind_moved (statement.Import i) = refl
  kind_moved (statement.Package p) = refl
  kind_moved (statement.Option o) = option_moved o.setting
  kind_moved (statement.Field f) = label_kind f.label
  kind_moved whole = refl

  pub header_kind_moved : (h : Header) → header_kind (move_header g h) ≡ header_kind h
  header_kind_moved (header.Message h) = refl
  header_kind_moved whole = refl

  pub inside_moved : (h : Header) → inside (move_header g h) ≡ inside h
  inside_moved (header.Message h) = refl
  inside_moved whole = refl

  pub well_formed_moved : (c : Context) (t : Tree) → IsWellFormed c t → IsWellFormed c (move_tree g t)
  well_formed_moved c End h = tt
  well_formed_moved c (Leaf s rest) h =
      let e = kind_moved s in
      (ap (allows c) e ∙ h.0, subst (λ k. IsWellFormed (after c k) (move_tree g rest)) (sym e) (well_formed_moved (after c (statement_kind s)) rest h.1))
  well_formed_moved c (Block k i within j rest) h =
      let e = header_kind_moved k in (
        ap (allows c) e ∙ h.0,
        subst (λ d. IsWellFormed d (move_tree g within)) (sym (inside_moved k)) (well_formed_moved (inside k) within h.1),
        subst (λ d. IsWellFormed (after c d) (move_tree g rest)) (sym e) (well_formed_moved (after c (header_kind k)) rest h.2),
      )
