-- What a tree declares turns as its names do, and all else stays: message by message, enum by enum, service by service, `extend` block by `extend` block.
use Rattle.std.proofs.Common.{◌≡◌, ℕ, suc, Bool, true, false, List, [], ◌∷◌, ◌++◌, map, flat_map, Option, Some, None, is_some, codes, refl, sym, ◌∙◌, ap, subst, inl, inr, arith, Contains}
use Rattle.proto_base.proofs.Common.{Contains-append_cases, Contains-append_left, Contains-append_right, cond-false, contains_cases, contains_head, contains_later, contains_map}
use Rattle.proto_case.specs.Camel.{entry_name}
use Rattle.proto_tree.specs.declared.context.Context.{Context}
use Rattle.proto_tree.specs.declared.piece.Header.{Header}
use Rattle.proto_tree.specs.declared.piece.Heading.{Heading}
use Rattle.proto_tree.specs.declared.piece.Extending.{Extending}
use Rattle.proto_tree.specs.declared.tree.Constant.{Constant}
use Rattle.proto_tree.specs.declared.tree.MapField.{MapField}
use Rattle.proto_tree.specs.declared.tree.Value.{Value as EnumValue}
use Rattle.proto_tree.proofs.Common.{Tree, End, Leaf, Block, IsWellFormed, after, statement_kind, IsOuter, dotted, last_outer}
use Rattle.proto_tree.specs.declared.context.Kind.TheVariants as kind
use Rattle.proto_tree.specs.declared.context.Context.TheVariants as context
use Rattle.proto_tree.specs.declared.piece.Header.TheVariants as header
use Rattle.proto_tree.specs.declared.piece.Statement.TheVariants as statement
use Rattle.proto_names_rules.proofs.Common.{Renaming, ArePlain, Source, Token, EntryOf, Given, spell, Placed, all_placed, enum, extend, field, file_placed, items_placed, key_word, map_field, message, oneof, package_of, place, placed, prefixes, service, value_word, map_append}
use Rattle.proto_names_rules.specs.declared.kind.Kind.{Kind as NameKind}
use Rattle.proto_names_rules.specs.declared.kind.Kind.TheVariants.{Message, Entry, Enum, Service, Field, EntryField, Oneof, Value, Method, Extension}
use Rattle.proto_names_outline.specs.FromTree.{block_names, field_names, items_in, members_in, method_names, no_names, picked, value_names}
use Rattle.proto_ast.proofs.Common.{value_named, BlockOf, FieldOf, blocks_in, fields_from, fields_in, map_field as field_of_map, options_in, plain_field, statement_fields, statements, values_in, Scene, text, value}
use Rattle.proto_desc_checks_laws.proofs.Common.{DifferInNames, asked_tokens, block_tokens, field_tokens, header_tokens, option_tokens, oneof_field}
use Rattle.proto_desc_checks_laws.proofs.Outermost.{no_map_field, no_oneof}
use Rattle.proto_desc_build.specs.Described.{default_text, field_type_name, is_map, type_name_of}
use Rattle.proto_edit_rules.specs.Rename.{fields_of_block}
use Rattle.proto_edit_rename_laws.proofs.Places.{to_flat_map}
use Rattle.proto_edit_rename_described.specs.Common.{Taken, dotted_text as behind_dots, mapped_default, EntryTurns, EnumTurns, ExtensionTurns, FieldTurns, MessageTurns, MethodsTurn, Turned, Turns, full, is_target, written_json}
use Rattle.proto_edit_rename_described.proofs.FileStays.{enum_options_stay, enum_reserved_stays, extensions_stay, field_stays, field_tokens_kept, key_type_stays, message_options_stay, method_options_stay, reserved_stays, service_options_stay, value_number_stays, value_options_stay, value_tokens_kept, value_type_stays}

no : false ≡ true → ⊥
no h = cc

abbrev pub block_with : Header → Tree → BlockOf
block_with h within = record { header = h; within = within }

-- ---- what is declared of fields and values

value_declared : (t : Tree) (v : EnumValue) → Contains (values_in t) v → Contains (picked value_names no_names t) v.name
value_declared End v c = absurd (omega (arith, c.1))
value_declared (Leaf (statement.Value u) rest) v c = elim (contains_cases u v (values_in rest) c) [
  | inl q ↦ subst (λ (z : EnumValue). Contains (u.name ∷ picked value_names no_names rest) z.name) q (contains_head u.name (picked value_names no_names rest))
  | inr d ↦ contains_later u.name v.name (picked value_names no_names rest) (value_declared rest v d)
]
value_declared (Leaf _ rest) v c = value_declared rest v c
value_declared (Block h opens within closes rest) v c = value_declared rest v c

-- a field is declared, and a map field's entry
abbrev Placing : List (Source ℕ) → List Placed → FieldOf → Type 0
Placing path ps f = Contains ps (place path (Token f.name) Field) × (is_some f.map_key ≡ true → Contains ps (place path (EntryOf f.name) Entry))

placing_behind : (path : List (Source ℕ)) (ps qs : List Placed) (f : FieldOf) → Placing path qs f → Placing path (ps ++ qs) f
placing_behind path ps qs f r = (Contains-append_right ps qs (place path (Token f.name) Field) r.0, λ h. Contains-append_right ps qs (place path (EntryOf f.name) Entry) (r.1 h))

field_declared : (path : List (Source ℕ)) (n : ℕ) (t : Tree) → IsWellFormed context.Message t → (f : FieldOf) → Contains (fields_from n t) f → Placing path (all_placed path (members_in t)) f
field_declared path n End w f c = absurd (omega (arith, c.1))
field_declared path n (Leaf (statement.Field g) rest) w f c = elim (contains_cases (plain_field None g) f (fields_from n rest) c) [
  | inl q ↦ subst (λ z. Placing path (placed path (field g.name) ++ all_placed path (members_in rest)) z) q (contains_head (place path (Token g.name) Field) (all_placed path (members_in rest)), λ h. absurd (no h))
  | inr d ↦ placing_behind path (placed path (field g.name)) (all_placed path (members_in rest)) f (field_declared path n rest w.1 f d)
]
field_declared path n (Leaf (statement.MapField g) rest) w f c = elim (contains_cases (field_of_map g) f (fields_from n rest) c) [
  | inl q ↦
      let ps = placed path (map_field g.name) ++ all_placed path (members_in rest) in
      subst (λ z. Placing path (placed path (map_field g.name) ++ all_placed path (members_in rest)) z) q ((0, omega arith, refl), λ h. (1, omega arith, refl))
  | inr d ↦ placing_behind path (placed path (map_field g.name)) (all_placed path (members_in rest)) f (field_declared path n rest w.1 f d)
]
field_declared path n (Leaf _ rest) w f c = field_declared path n rest w.1 f c
field_declared path n (Block (header.Oneof h) opens within closes rest) w f c = elim (Contains-append_cases (flat_map (statement_fields (Some n)) (statements within)) (fields_from (suc n) rest) f c) [
  | inl d ↦
      let r = oneof_field (Some n) within w.1 f d in
      let fs = picked field_names no_names within in (
        Contains-append_left (placed path (oneof h.name fs)) (all_placed path (members_in rest)) (place path (Token f.name) Field)
            (contains_later (place path (Token h.name) Oneof) (place path (Token f.name) Field) (map (λ i. place path (Token i) Field) fs) (contains_map (λ i. place path (Token i) Field) fs f.name r.0)),
        λ h. absurd (no (sym (ap (λ (z : Option ℕ). is_some z) r.1) ∙ h)),
      )
  | inr d ↦ placing_behind path (placed path (oneof h.name (picked field_names no_names within))) (all_placed path (members_in rest)) f (field_declared path (suc n) rest w.2 f d)
]
field_declared path n (Block (header.Message h) opens within closes rest) w f c =
    placing_behind path (placed path (message h.name (members_in within))) (all_placed path (members_in rest)) f (field_declared path n rest w.2 f c)
field_declared path n (Block (header.Enum h) opens within closes rest) w f c =
    placing_behind path (placed path (enum h.name (picked value_names no_names within))) (all_placed path (members_in rest)) f (field_declared path n rest w.2 f c)
field_declared path n (Block (header.Extend g) opens within closes rest) w f c =
    placing_behind path (placed path (extend (picked field_names no_names within))) (all_placed path (members_in rest)) f (field_declared path n rest w.2 f c)
field_declared path n (Block whole opens within closes rest) w f c = field_declared path n rest w.2 f c

-- an extension is declared, and is no map field
extension_declared : (n : ℕ) (t : Tree) → IsWellFormed context.Extend t → (f : FieldOf) → Contains (fields_from n t) f → Contains (picked field_names no_names t) f.name × (is_map f ≡ false)
extension_declared n End w f c = absurd (omega (arith, c.1))
extension_declared n (Leaf (statement.Field g) rest) w f c = elim (contains_cases (plain_field None g) f (fields_from n rest) c) [
  | inl q ↦ subst (λ (z : FieldOf). Contains (g.name ∷ picked field_names no_names rest) z.name × (is_map z ≡ false)) q (contains_head g.name (picked field_names no_names rest), refl)
  | inr d ↦ (let r = extension_declared n rest w.1 f d in (contains_later g.name f.name (picked field_names no_names rest) r.0, r.1))
]
extension_declared n (Leaf (statement.MapField g) rest) w f c = absurd (no w.0)
extension_declared n (Leaf _ rest) w f c = extension_declared n rest w.1 f c
extension_declared n (Block (header.Oneof h) opens within closes rest) w f c = absurd (no w.0)
extension_declared n (Block whole opens within closes rest) w f c = extension_declared n rest w.2 f c

-- a map field is one of the fields
map_field_there : (n : ℕ) (t : Tree) (f : MapField) → Contains (statements t) (statement.MapField f) → Contains (fields_from n t) (field_of_map f)
map_field_there n End f c = absurd (omega (arith, c.1))
map_field_there n (Leaf s rest) f c = elim (contains_cases s (statement.MapField f) (statements rest) c) [
  | inl q ↦ subst (λ z. Contains (statement_fields None z ++ fields_from n rest) (field_of_map f)) (sym q) (contains_head (field_of_map f) (fields_from n rest))
  | inr d ↦ Contains-append_right (statement_fields None s) (fields_from n rest) (field_of_map f) (map_field_there n rest f d)
]
map_field_there n (Block (header.Oneof h) opens within closes rest) f c =
    Contains-append_right (flat_map (statement_fields (Some n)) (statements within)) (fields_from (suc n) rest) (field_of_map f) (map_field_there (suc n) rest f c)
map_field_there n (Block whole opens within closes rest) f c = map_field_there n rest f c

-- ---- the walk

-- what names, the JSON names and the defaults of a field have to do with a rename
pub record FieldNames (e : Renaming) (taken : Taken) (a b : Scene) (path : List (Source ℕ)) (f : FieldOf) : Type 0 where
  pub other : is_target e taken a b path (text a f.name) ≡ false → text b f.name ≡ text a f.name
  pub json : is_target e taken a b path (text a f.name) ≡ true → is_some (written_json e taken a b a f) ≡ taken.written
  pub default : (above : List ℕ) (c : Constant) → value_named (text a) (codes "default") f.options ≡ Some c → default_text b c ≡ mapped_default e taken (field_type_name a above f) (default_text a c)

module _ (e : Renaming) (taken : Taken) (named : ℕ → Bool) (a b : Scene) (differ : DifferInNames named a b) (strings : (t : ℕ) → value b t ≡ value a t)
    (root : Tree) (asked : (t : ℕ) → Contains (asked_tokens a root) t → named t ≡ false)
    (names : (p : Placed) → Contains (file_placed (items_in root)) p → Turned e taken a b p.above p.last)
    (plain : (p : Placed) → Contains (file_placed (items_in root)) p → ArePlain (full e taken a b (p.above ++ p.last ∷ [])))
    (no_given : (path : List (Source ℕ)) (w : List ℕ) → Contains (file_placed (items_in root)) (place path (Given w) EntryField) → is_target e taken a b path w ≡ false)
    (fields : (path : List (Source ℕ)) (h : Header) (within : Tree) (f : FieldOf) (k : NameKind) → Contains (blocks_in root) (block_with h within) → Contains (fields_of_block h within) f
    → Contains (file_placed (items_in root)) (place path (Token f.name) k) → FieldNames e taken a b path f) where
  abbrev Inside : List Placed → Type 0
  Inside ps = (p : Placed) → Contains ps p → Contains (file_placed (items_in root)) p

  fore : (ps qs : List Placed) → Inside (ps ++ qs) → Inside ps
  fore ps qs i p c = i p (Contains-append_left ps qs p c)

  aft : (ps qs : List Placed) → Inside (ps ++ qs) → Inside qs
  aft ps qs i p c = i p (Contains-append_right ps qs p c)

  abbrev InRoot : Tree → Type 0
  InRoot t = (x : BlockOf) → Contains (blocks_in t) x → Contains (blocks_in root) x

  module _ (h : Header) (opens : ℕ) (within : Tree) (closes : ℕ) (rest : Tree) (r : InRoot (Block h opens within closes rest)) where
    block_there : Contains (blocks_in root) (block_with h within)
    block_there = r (block_with h within) (contains_head (block_with h within) (blocks_in within ++ blocks_in rest))

    within_there : InRoot within
    within_there x c = r x (contains_later (block_with h within) x (blocks_in within ++ blocks_in rest) (Contains-append_left (blocks_in within) (blocks_in rest) x c))

    rest_there : InRoot rest
    rest_there x c = r x (contains_later (block_with h within) x (blocks_in within ++ blocks_in rest) (Contains-append_right (blocks_in within) (blocks_in rest) x c))

  module _ (h : Header) (within : Tree) (cb : Contains (blocks_in root) (block_with h within)) where
    block_kept : (t : ℕ) → Contains (block_tokens a (block_with h within)) t → named t ≡ false
    block_kept t ct = asked t (Contains-append_right (flat_map (option_tokens a) (options_in root)) (flat_map (block_tokens a) (blocks_in root)) t (to_flat_map (block_tokens a) (blocks_in root) (block_with h within) t cb ct))

    header_kept : (t : ℕ) → Contains (header_tokens a h within) t → named t ≡ false
    header_kept t ct = block_kept t (Contains-append_left (header_tokens a h within) (flat_map (option_tokens a) (options_in within)) t ct)

    options_kept : (t : ℕ) → Contains (flat_map (option_tokens a) (options_in within)) t → named t ≡ false
    options_kept t ct = block_kept t (Contains-append_right (header_tokens a h within) (flat_map (option_tokens a) (options_in within)) t ct)

  -- ---- fields and map fields

  field_turns : (path : List (Source ℕ)) (h : Heading) (within : Tree) → IsWellFormed context.Message within → Contains (blocks_in root) (block_with (header.Message h) within) → Inside (all_placed path (members_in within))
      → (f : FieldOf) → Contains (fields_in within) f → FieldTurns e taken a b path f
  field_turns path h within w cb i f cf =
      let d = field_declared path 0 within w f cf in
      let there = i (place path (Token f.name) Field) d.0 in
      let n = fields path (header.Message h) within f Field cb cf there in
      record {
        name = names (place path (Token f.name) Field) there;
        other = n.other;
        json = n.json;
        default = n.default (behind_dots (full e taken a b path));
        entry = λ q. (
            let entry = i (place path (EntryOf f.name) Entry) (d.1 q) in
            (names (place path (EntryOf f.name) Entry) entry, subst ArePlain (map_append (spell (text a) entry_name) path (EntryOf f.name ∷ [])) (plain (place path (EntryOf f.name) Entry) entry)));
        stays = field_stays e taken named a b differ strings f (field_tokens_kept e taken named a b differ strings within (header_kept (header.Message h) within cb) f cf);
      }

  entry_turns : (path : List (Source ℕ)) (f : MapField) → Inside (placed path (map_field f.name)) → ((t : ℕ) → Contains (field_tokens a (field_of_map f)) t → named t ≡ false) → EntryTurns e taken a b path f
  entry_turns path f i k =
      let inner = path ++ EntryOf f.name ∷ [] in
      let key = i (place inner (Given key_word) EntryField) (2, omega arith, refl) in
      let item = i (place inner (Given value_word) EntryField) (3, omega arith, refl) in
      record {
        name = names (place path (EntryOf f.name) Entry) (i (place path (EntryOf f.name) Entry) (1, omega arith, refl));
        key = sym (names (place inner (Given key_word) EntryField) key);
        value = sym (names (place inner (Given value_word) EntryField) item);
        no_key = no_given inner key_word key;
        no_value = no_given inner value_word item;
        key_type = key_type_stays e taken named a b differ strings f k;
        value_type = value_type_stays e taken named a b differ strings f k;
      }

  -- ---- extensions

  extensions_turn : (path : List (Source ℕ)) (g : Extending) (within : Tree) → IsWellFormed context.Extend within → Contains (blocks_in root) (block_with (header.Extend g) within) → Inside (placed path (extend (picked field_names no_names within)))
      → (f : FieldOf) → Contains (fields_in within) f → ExtensionTurns e taken a b path f
  extensions_turn path g within w cb i f cf =
      let d = extension_declared 0 within w f cf in
      let there = i (place path (Token f.name) Extension) (contains_map (λ t. place path (Token t) Extension) (picked field_names no_names within) f.name d.0) in
      let n = fields path (header.Extend g) within f Extension cb cf there in
      record {
        name = names (place path (Token f.name) Extension) there;
        default = λ c q. n.default [] c q ∙ ap (λ z. mapped_default e taken z (default_text a c)) (cond-false (is_map f) _ (type_name_of a f.kind) d.1);
        no_map = d.1;
        stays = field_stays e taken named a b differ strings f (λ t ct. header_kept (header.Extend g) within cb t (to_flat_map (field_tokens a) (fields_in within) f t cf ct));
      }

  -- ---- enums

  enum_turns : (path : List (Source ℕ)) (h : Heading) (within : Tree) → Contains (blocks_in root) (block_with (header.Enum h) within) → Inside (placed path (enum h.name (picked value_names no_names within))) → EnumTurns e taken a b path within
  enum_turns path h within cb i =
      let vs = picked value_names no_names within in
      let k = header_kept (header.Enum h) within cb in
      record {
        values = λ v cv. (
            let there =
            i (place path (Token v.name) Value) (contains_later (place path (Token h.name) Enum) (place path (Token v.name) Value) (map (λ i. place path (Token i) Value) vs) (contains_map (λ i. place path (Token i) Value) vs v.name (value_declared within v cv))) in
            let kv = value_tokens_kept e taken named a b differ strings within k v cv in
            record {
              name = names (place path (Token v.name) Value) there;
              number = value_number_stays e taken named a b differ strings v kv;
              options = value_options_stay e taken named a b differ strings v kv;
            });
        reserved = enum_reserved_stays e taken named a b differ strings within k;
        options = enum_options_stay e taken named a b differ strings (options_in within) (options_kept (header.Enum h) within cb);
      }

  -- ---- services

  methods_turn : (path : List (Source ℕ)) (t : Tree) → ((i : ℕ) → Contains (picked method_names block_names t) i → Contains (file_placed (items_in root)) (place path (Token i) Method)) → InRoot t → MethodsTurn e taken a b path t
  methods_turn path End m r = tt
  methods_turn path (Leaf (statement.Method s j) rest) m r = (
    record { name = names (place path (Token s.name) Method) (m s.name (contains_head s.name (picked method_names block_names rest))); options_stay = refl },
    methods_turn path rest (λ i c. m i (contains_later s.name i (picked method_names block_names rest) c)) r,
  )
  methods_turn path (Leaf _ rest) m r = methods_turn path rest m r
  methods_turn path (Block (header.Method s) opens within closes rest) m r = (
    record {
      name = names (place path (Token s.name) Method) (m s.name (contains_head s.name (picked method_names block_names rest)));
      options_stay = method_options_stay e taken named a b differ strings (options_in within) (options_kept (header.Method s) within (block_there (header.Method s) opens within closes rest r));
    },
    methods_turn path rest (λ i c. m i (contains_later s.name i (picked method_names block_names rest) c)) (rest_there (header.Method s) opens within closes rest r),
  )
  methods_turn path (Block whole opens within closes rest) m r = methods_turn path rest m (rest_there whole opens within closes rest r)

  -- ---- messages

  message_turns : (path : List (Source ℕ)) (h : Heading) (within : Tree) → IsWellFormed context.Message within → Contains (blocks_in root) (block_with (header.Message h) within) → Inside (all_placed path (members_in within)) → MessageTurns e taken a b path within
  message_turns path h within w cb i =
      let k = header_kept (header.Message h) within cb in
      record {
        fields = field_turns path h within w cb i;
        extensions = extensions_stay e taken named a b differ strings within k;
        reserved = reserved_stays e taken named a b differ strings within k;
        options = message_options_stay e taken named a b differ strings (options_in within) (options_kept (header.Message h) within cb);
      }

  -- the tokens of the map fields right in a message
  map_fields_kept : (h : Heading) (within : Tree) → Contains (blocks_in root) (block_with (header.Message h) within) → (f : MapField) → Contains (statements within) (statement.MapField f) → (t : ℕ) → Contains (field_tokens a (field_of_map f)) t → named t ≡ false
  map_fields_kept h within cb f c = field_tokens_kept e taken named a b differ strings within (header_kept (header.Message h) within cb) (field_of_map f) (map_field_there 0 within f c)

  members_turn : (path : List (Source ℕ)) (t : Tree) → IsWellFormed context.Message t → Inside (all_placed path (members_in t)) → InRoot t
      → ((f : MapField) → Contains (statements t) (statement.MapField f) → (x : ℕ) → Contains (field_tokens a (field_of_map f)) x → named x ≡ false) → Turns e taken a b path t
  members_turn path End w i r k = tt
  members_turn path (Leaf (statement.MapField f) rest) w i r k = (
    entry_turns path f (fore (placed path (map_field f.name)) (all_placed path (members_in rest)) i) (k f (contains_head (statement.MapField f) (statements rest))),
    members_turn path rest w.1 (aft (placed path (map_field f.name)) (all_placed path (members_in rest)) i) r (λ g c. k g (contains_later (statement.MapField f) (statement.MapField g) (statements rest) c)),
  )
  members_turn path (Leaf (statement.Field f) rest) w i r k =
      members_turn path rest w.1 (aft (placed path (field f.name)) (all_placed path (members_in rest)) i) r (λ g c. k g (contains_later (statement.Field f) (statement.MapField g) (statements rest) c))
  members_turn path (Leaf s rest) w i r k = members_turn path rest w.1 i r (λ g c. k g (contains_later s (statement.MapField g) (statements rest) c))
  members_turn path (Block (header.Message h) opens within closes rest) w i r k =
      let below = path ++ Token h.name ∷ [] in
      let mine = placed path (message h.name (members_in within)) in
      let cb = block_there (header.Message h) opens within closes rest r in
      let inner : Inside (all_placed (path ++ Token h.name ∷ []) (members_in within)) =
      λ p c. i p (Contains-append_left (placed path (message h.name (members_in within))) (all_placed path (members_in rest)) p (contains_later (place path (Token h.name) Message) p (all_placed (path ++ Token h.name ∷ []) (members_in within)) c)) in (
        names (place path (Token h.name) Message) (i (place path (Token h.name) Message) (0, omega arith, refl)),
        message_turns below h within w.1 cb inner,
        members_turn below within w.1 inner (within_there (header.Message h) opens within closes rest r) (map_fields_kept h within cb),
        members_turn path rest w.2 (aft mine (all_placed path (members_in rest)) i) (rest_there (header.Message h) opens within closes rest r) k,
      )
  members_turn path (Block (header.Oneof h) opens within closes rest) w i r k = (
    names (place path (Token h.name) Oneof) (i (place path (Token h.name) Oneof) (0, omega arith, refl)),
    members_turn path rest w.2 (aft (placed path (oneof h.name (picked field_names no_names within))) (all_placed path (members_in rest)) i) (rest_there (header.Oneof h) opens within closes rest r) k,
  )
  members_turn path (Block (header.Enum h) opens within closes rest) w i r k =
      let mine = placed path (enum h.name (picked value_names no_names within)) in (
        names (place path (Token h.name) Enum) (i (place path (Token h.name) Enum) (0, omega arith, refl)),
        enum_turns path h within (block_there (header.Enum h) opens within closes rest r) (fore mine (all_placed path (members_in rest)) i),
        members_turn path rest w.2 (aft mine (all_placed path (members_in rest)) i) (rest_there (header.Enum h) opens within closes rest r) k,
      )
  members_turn path (Block (header.Service h) opens within closes rest) w i r k = absurd (no w.0)
  members_turn path (Block (header.Extend g) opens within closes rest) w i r k =
      let mine = placed path (extend (picked field_names no_names within)) in (
        extensions_turn path g within w.1 (block_there (header.Extend g) opens within closes rest r) (fore mine (all_placed path (members_in rest)) i),
        members_turn path rest w.2 (aft mine (all_placed path (members_in rest)) i) (rest_there (header.Extend g) opens within closes rest r) k,
      )
  members_turn path (Block (header.Method s) opens within closes rest) w i r k = members_turn path rest w.2 i (rest_there (header.Method s) opens within closes rest r) k

  -- ---- the items of a file

  items_turn : (path : List (Source ℕ)) (c : Context) → IsOuter c → (t : Tree) → IsWellFormed c t → Inside (items_placed path (items_in t)) → InRoot t → Turns e taken a b path t
  items_turn path c o End w i r = tt
  items_turn path c o (Leaf (statement.MapField f) rest) w i r = absurd (no_map_field c o w.0)
  items_turn path c o (Leaf (statement.Package p) rest) w i r =
      items_turn path (after c kind.Package) (last_outer (Leaf (statement.Package p) End) c o) rest w.1 (aft (prefixes [] (dotted p.name)) (items_placed path (items_in rest)) i) r
  items_turn path c o (Leaf s rest) w i r = items_turn path (after c (statement_kind s)) (last_outer (Leaf s End) c o) rest w.1 i r
  items_turn path c o (Block (header.Message h) opens within closes rest) w i r =
      let below = path ++ Token h.name ∷ [] in
      let mine = placed path (message h.name (members_in within)) in
      let cb = block_there (header.Message h) opens within closes rest r in
      let inner : Inside (all_placed (path ++ Token h.name ∷ []) (members_in within)) =
      λ p d. i p (Contains-append_left (placed path (message h.name (members_in within))) (items_placed path (items_in rest)) p (contains_later (place path (Token h.name) Message) p (all_placed (path ++ Token h.name ∷ []) (members_in within)) d)) in (
        names (place path (Token h.name) Message) (i (place path (Token h.name) Message) (0, omega arith, refl)),
        message_turns below h within w.1 cb inner,
        members_turn below within w.1 inner (within_there (header.Message h) opens within closes rest r) (map_fields_kept h within cb),
        items_turn path (after c kind.OpenMessage) (last_outer (Block (header.Message h) opens within closes End) c o) rest w.2 (aft mine (items_placed path (items_in rest)) i) (rest_there (header.Message h) opens within closes rest r),
      )
  items_turn path c o (Block (header.Oneof h) opens within closes rest) w i r = absurd (no_oneof c o w.0)
  items_turn path c o (Block (header.Enum h) opens within closes rest) w i r =
      let mine = placed path (enum h.name (picked value_names no_names within)) in (
        names (place path (Token h.name) Enum) (i (place path (Token h.name) Enum) (0, omega arith, refl)),
        enum_turns path h within (block_there (header.Enum h) opens within closes rest r) (fore mine (items_placed path (items_in rest)) i),
        items_turn path (after c kind.OpenEnum) (last_outer (Block (header.Enum h) opens within closes End) c o) rest w.2 (aft mine (items_placed path (items_in rest)) i) (rest_there (header.Enum h) opens within closes rest r),
      )
  items_turn path c o (Block (header.Service h) opens within closes rest) w i r =
      let below = path ++ Token h.name ∷ [] in
      let ms = picked method_names block_names within in
      let mine = placed path (service h.name (picked method_names block_names within)) in (
        names (place path (Token h.name) Service) (i (place path (Token h.name) Service) (0, omega arith, refl)),
        methods_turn below within (λ j d. i (place below (Token j) Method) (Contains-append_left mine (items_placed path (items_in rest)) (place below (Token j) Method)
            (contains_later (place path (Token h.name) Service) (place below (Token j) Method) (map (λ x. place below (Token x) Method) ms) (contains_map (λ x. place below (Token x) Method) ms j d)))) (within_there (header.Service h) opens within closes rest r),
        service_options_stay e taken named a b differ strings within (options_kept (header.Service h) within (block_there (header.Service h) opens within closes rest r)),
        items_turn path (after c kind.OpenService) (last_outer (Block (header.Service h) opens within closes End) c o) rest w.2 (aft mine (items_placed path (items_in rest)) i) (rest_there (header.Service h) opens within closes rest r),
      )
  items_turn path c o (Block (header.Extend g) opens within closes rest) w i r =
      let mine = placed path (extend (picked field_names no_names within)) in (
        extensions_turn path g within w.1 (block_there (header.Extend g) opens within closes rest r) (fore mine (items_placed path (items_in rest)) i),
        items_turn path (after c kind.OpenExtend) (last_outer (Block (header.Extend g) opens within closes End) c o) rest w.2 (aft mine (items_placed path (items_in rest)) i) (rest_there (header.Extend g) opens within closes rest r),
      )
  items_turn path c o (Block (header.Method s) opens within closes rest) w i r = items_turn path (after c kind.OpenMethod) (last_outer (Block (header.Method s) opens within closes End) c o) rest w.2 i (rest_there (header.Method s) opens within closes rest r)

  pub tree_turns : IsWellFormed context.Start root → Turns e taken a b (map (λ t. Token t) (package_of (items_in root))) root
  tree_turns w = items_turn (map (λ t. Token t) (package_of (items_in root))) context.Start refl root w (λ p c. c) (λ x c. c)
