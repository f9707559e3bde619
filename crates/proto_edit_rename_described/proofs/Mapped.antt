-- The descriptor of a renamed scene is the old one under the name map (for the crates above).
use Rattle.std.proofs.Common.{◌≡◌, ◌≢◌, ℕ, ◌==◌, Bool, true, false, not, ◌&&◌, ◌||◌, if◌then◌else◌, List, [], ◌∷◌, ◌++◌, map, Option, Some, None, option_map, is_some, codes, refl, sym, ◌∙◌, ap, ap₂, subst, append_assoc, length, arith, Contains, bytes_eq, append-nil}
use Rattle.proto_base.proofs.Common.{list_any, cond-true, cond-false, or_nothing, same_from_word}
use Rattle.proto_case.specs.Camel.{entry_name}
use Rattle.proto_tree.specs.declared.tree.Constant.{Constant}
use Rattle.proto_tree.specs.declared.tree.FieldType.{FieldType as WrittenType}
use Rattle.proto_tree.specs.declared.tree.MapField.{MapField}
use Rattle.proto_tree.specs.declared.tree.Reference.{Reference}
use Rattle.proto_tree.specs.declared.tree.Signature.{Signature}
use Rattle.proto_tree.specs.declared.tree.Value.{Value}
use Rattle.proto_tree.specs.Tree.{Tree, End, Leaf, Block}
use Rattle.proto_tree.specs.declared.piece.Header.TheVariants as header
use Rattle.proto_tree.specs.declared.piece.Statement.TheVariants as statement
use Rattle.proto_tree.specs.declared.tree.FieldType.TheVariants as written_type
use Rattle.proto_names_rules.proofs.Common.{Renaming, ren, target, turned, turned_by, joined, ArePlain, same_name, Source, Token, EntryOf, spell, key_word, value_word, package_of, map_agree, map_map, map_append, last_parts, turn_below-more, turn_below-nil, turn_below-length, name_from_same, same_from_name}
use Rattle.proto_names_outline.specs.FromTree.{Wanted, items_in, imports_in}
use Rattle.proto_ast.proofs.Common.{value_named, FieldOf, OptionOf, fields_in, values_in, reserved_names_in, options_in, MeantOf, Scene, text, value, meant_by, json_word, json_name_of, written_or}
use Rattle.proto_descriptors.specs.Descriptors.{EnumDesc, FieldDesc, MessageDesc, Messages, NoMessages, Message, MethodDesc}
use Rattle.proto_descriptors.specs.declared.file.Syntax.TheVariants as syntax
use Rattle.proto_desc_build.specs.Described.{absolute, below, default_text, entry_described, entry_field, enum_described, enums_described, extension_described, extensions_described, field_described, field_type_name, file_described, is_map, message_described, messages_described, method_described, methods_described, oneof_names, package_named, package_prefix, scalar_type, services_described, type_name_of, type_of, type_text, value_described}
use Rattle.proto_edit_rename_described.specs.Common.{Taken, behind_first, dotted_text, mapped_default, mapped_enum, mapped_field, mapped_json, mapped_message, mapped_messages, mapped_method, mapped_name, mapped_service, mapped_value, parts, put_first, word_under, words_of, DescriptorsAreMapped, EntryTurns, EnumTurns, ExtensionTurns, FieldTurns, IsUnder, MessageTurns, MethodTurns, MethodsTurn, Turned, Turns, ValueTurns, full, is_target, written_json}

-- ---- names as text

neither : (b d : Bool) → (b || d) ≡ false → (b ≡ false) × (d ≡ false)
neither false d e = (refl, e)
neither true d e = absurd cc

parts_word : (w : List ℕ) (ws : List (List ℕ)) → list_any (λ b. b == 46) w ≡ false → parts (dotted_text ws) ≡ [] ∷ ws → parts (w ++ dotted_text ws) ≡ w ∷ ws
parts_word [] ws h e = e
parts_word (b ∷ bs) ws h e =
    let n = neither (b == 46) (list_any (λ b. b == 46) bs) h in
    cond-false (b == 46) ([] ∷ parts (bs ++ dotted_text ws)) (put_first b (parts (bs ++ dotted_text ws))) n.0 ∙ ap (put_first b) (parts_word bs ws n.1 e)

parts_dotted : (x : List (List ℕ)) → ArePlain x → parts (dotted_text x) ≡ [] ∷ x
parts_dotted [] p = refl
parts_dotted (w ∷ ws) p = ap (λ l. [] ∷ l) (parts_word w ws p.0.0 (parts_dotted ws p.1))

pub words_of_dotted : (x : List (List ℕ)) → ArePlain x → words_of (dotted_text x) ≡ x
words_of_dotted x p = ap behind_first (parts_dotted x p)

pub dotted_more : (x : List (List ℕ)) (w : List ℕ) → dotted_text (x ++ w ∷ []) ≡ dotted_text x ++ 46 ∷ w
dotted_more [] w = append-nil (46 ∷ w)
dotted_more (v ∷ x) w = ap (λ l. (46 ∷ v) ++ l) (dotted_more x w) ∙ sym (append_assoc (46 ∷ v) (dotted_text x) (46 ∷ w))

pub joined_dotted : (x : List (List ℕ)) → x ≢ [] → absolute (joined x) ≡ dotted_text x
joined_dotted [] h = absurd (h refl)
joined_dotted (w ∷ []) h = sym (append-nil (46 ∷ w))
joined_dotted (w ∷ v ∷ rest) h = ap (λ l. (46 ∷ w) ++ l) (joined_dotted (v ∷ rest) (λ z. not_empty z))
  where
    not_empty : v ∷ rest ≡ [] → ⊥
    not_empty z = cc

package_dotted : (s : Scene) (ts : List ℕ) → package_prefix (package_named s ts) ≡ dotted_text (map (text s) ts)
package_dotted s [] = refl
package_dotted s (t ∷ ts) = joined_dotted (map (text s) (t ∷ ts)) (λ z. not_empty z)
  where
    not_empty : map (text s) (t ∷ ts) ≡ [] → ⊥
    not_empty z = cc

pub ren_more : (e : Renaming) (x : List (List ℕ)) (w : List ℕ) → ren e (x ++ w ∷ []) ≡ ren e x ++ word_under e x w ∷ []
ren_more e x w = turn_below-more e.parent (turned e) x w

pub mapped_dotted : (e : Renaming) (x : List (List ℕ)) → ArePlain x → mapped_name e (dotted_text x) ≡ dotted_text (ren e x)
mapped_dotted e x p = ap (λ z. dotted_text (ren e z)) (words_of_dotted x p)

module _ (e : Renaming) (taken : Taken) (a b : Scene) (strings : (t : ℕ) → value b t ≡ value a t) (means : (r : Reference) → IsUnder e (meant_by a r) (meant_by b r)) where
  -- ---- types

  under : (o p : Option MeantOf) → IsUnder e o p → option_map (λ (m : MeantOf). absolute m.name) p ≡ option_map (mapped_name e) (option_map (λ (m : MeantOf). absolute m.name) o)
  under None None h = refl
  under None (Some n) h = absurd h
  under (Some m) None h = absurd h
  under (Some m) (Some n) h =
      let old : absolute m.name ≡ dotted_text h.0 = ap absolute h.3 ∙ joined_dotted h.0 h.2 in
      let new : absolute n.name ≡ dotted_text (ren e h.0) = ap absolute h.4 ∙ joined_dotted (ren e h.0) (some_name h.0 h.2) in
      ap Some (new ∙ sym (ap (mapped_name e) old ∙ mapped_dotted e h.0 h.1))
    where
      some_name : (x : List (List ℕ)) → x ≢ [] → ren e x ≢ []
      some_name [] h z = h refl
      some_name (w ∷ ws) h z = absurd (omega (arith, ap length z, turn_below-length e.parent (turned e) (w ∷ ws)))

  type_name_after : (t : WrittenType) → type_name_of b t ≡ option_map (mapped_name e) (type_name_of a t)
  type_name_after (written_type.Scalar t) = refl
  type_name_after (written_type.Reference r) = under (meant_by a r) (meant_by b r) (means r)

  type_text_after : (r : Reference) → type_text b r ≡ mapped_name e (type_text a r)
  type_text_after r = by (meant_by a r) (meant_by b r) (under (meant_by a r) (meant_by b r) (means r))
    where
      nothing : dotted_text (ren e []) ≡ []
      nothing = ap dotted_text (turn_below-nil e.parent (turned e))

      by : (o p : Option MeantOf) → option_map (λ (m : MeantOf). absolute m.name) p ≡ option_map (mapped_name e) (option_map (λ (m : MeantOf). absolute m.name) o)
          → or_nothing (option_map (λ (m : MeantOf). absolute m.name) p) ≡ mapped_name e (or_nothing (option_map (λ (m : MeantOf). absolute m.name) o))
      by None p h = ap or_nothing h ∙ sym nothing
      by (Some m) p h = ap or_nothing h

  reserved_names_after : (ts : List ℕ) → map (value b) ts ≡ map (value a) ts
  reserved_names_after [] = refl
  reserved_names_after (t ∷ ts) = ap₂ (λ (w : List ℕ) (ws : List (List ℕ)). w ∷ ws) (strings t) (reserved_names_after ts)

  -- ---- what stands at a path, which is spelled x, as the texts fa and fb

  module _ (path : List (Source ℕ)) (x : List (List ℕ)) (fa fb : List ℕ) (ex : full e taken a b path ≡ x) (ea : fa ≡ dotted_text x) (eb : fb ≡ dotted_text (ren e x)) where
    here : (s : Source ℕ) → Turned e taken a b path s → spell (text b) entry_name s ≡ word_under e x (spell (text a) entry_name s)
    here s h = h ∙ ap (λ z. word_under e z (spell (text a) entry_name s)) ex

    below_a : (w : List ℕ) → below fa w ≡ dotted_text (x ++ w ∷ [])
    below_a w = ap (λ z. z ++ 46 ∷ w) ea ∙ sym (dotted_more x w)

    below_b : (v w : List ℕ) → v ≡ word_under e x w → below fb v ≡ dotted_text (ren e (x ++ w ∷ []))
    below_b v w h = ap₂ (λ (y z : List ℕ). y ++ 46 ∷ z) eb h ∙ sym (dotted_more (ren e x) (word_under e x w)) ∙ ap dotted_text (sym (ren_more e x w))

    path_more : (s : Source ℕ) → full e taken a b (path ++ s ∷ []) ≡ x ++ spell (text a) entry_name s ∷ []
    path_more s = map_append (spell (text a) entry_name) path (s ∷ []) ∙ ap (λ z. z ++ spell (text a) entry_name s ∷ []) ex

    -- ---- fields

    module _ (f : FieldOf) (t : FieldTurns e taken a b path f) where
      field_type_after : field_type_name b fb f ≡ option_map (mapped_name e) (field_type_name a fa f)
      field_type_after = by (is_map f) refl
        where
          by : (m : Bool) → is_map f ≡ m → (if m then Some (below fb (entry_name (text b f.name))) else type_name_of b f.kind) ≡ option_map (mapped_name e) (if m then Some (below fa (entry_name (text a f.name))) else type_name_of a f.kind)
          by false q = type_name_after f.kind
          by true q =
              let entry = t.entry q in
              let w = entry_name (text a f.name) in
              let plain : ArePlain (x ++ w ∷ []) = subst (λ z. ArePlain (z ++ w ∷ [])) ex entry.1 in
              ap Some (below_b (entry_name (text b f.name)) w (here (EntryOf f.name) entry.0) ∙ sym (ap (mapped_name e) (below_a w) ∙ mapped_dotted e (x ++ w ∷ []) plain))

      default_after : option_map (default_text b) (value_named (text b) (codes "default") f.options) ≡ option_map (mapped_default e taken (field_type_name a fa f)) (option_map (default_text a) (value_named (text a) (codes "default") f.options))
      default_after = ap (option_map (default_text b)) t.stays.default ∙ by (value_named (text a) (codes "default") f.options) refl
        where
          by : (o : Option Constant) → value_named (text a) (codes "default") f.options ≡ o → option_map (default_text b) o ≡ option_map (mapped_default e taken (field_type_name a fa f)) (option_map (default_text a) o)
          by None q = refl
          by (Some c) q = ap Some (t.default c q ∙ ap (λ z. mapped_default e taken (field_type_name a z f) (default_text a c)) (sym (ea ∙ ap dotted_text (sym ex))))

      json_after : json_name_of b f ≡ mapped_json e taken x (text a f.name) (json_name_of a f)
      json_after = ap (λ j. written_or j (text b f.name)) t.stays.json ∙ by (written_json e taken a b a f) refl (same_name (x ++ text a f.name ∷ []) (target e)) refl
        where
          at_target : {v : Bool} → same_name (x ++ text a f.name ∷ []) (target e) ≡ v → is_target e taken a b path (text a f.name) ≡ v
          at_target h = ap (λ z. same_name (z ++ text a f.name ∷ []) (target e)) ex ∙ h

          renamed : same_name (x ++ text a f.name ∷ []) (target e) ≡ true → text b f.name ≡ e.new
          renamed h =
              let p = last_parts x e.parent (text a f.name) e.old (name_from_same (x ++ text a f.name ∷ []) (target e) h) in
              here (Token f.name) t.name
              ∙ cond-true (same_name x e.parent) (turned e (text a f.name)) (text a f.name) (same_from_name x e.parent p.0)
              ∙ cond-true (bytes_eq (text a f.name) e.old) e.new (turned_by e.entry (text a f.name)) (same_from_word (text a f.name) e.old p.1)

          by : (j : Option (List ℕ)) → written_json e taken a b a f ≡ j → (v : Bool) → same_name (x ++ text a f.name ∷ []) (target e) ≡ v
              → written_or j (text b f.name) ≡ (if v && not taken.written then json_word e.new else written_or j (text a f.name))
          by j q false h = ap (written_or j) (t.other (at_target h))
          by None q true h =
              let w : false ≡ taken.written = ap is_some (sym q) ∙ t.json (at_target h) in
              ap json_word (renamed h) ∙ ap (λ z. if not z then json_word e.new else json_word (text a f.name)) w
          by (Some j) q true h =
              let w : true ≡ taken.written = ap is_some (sym q) ∙ t.json (at_target h) in
              ap (λ z. if not z then json_word e.new else j) w

      field_after : field_described b fb f ≡ mapped_field e taken x (field_described a fa f)
      field_after = λ i. record {
        name = here (Token f.name) t.name i;
        number = t.stays.number i;
        label = t.stays.label i;
        field_type = t.stays.kind i;
        type_name = field_type_after i;
        extendee = None;
        default_value = default_after i;
        oneof_index = f.oneof;
        json_name = Some (json_after i);
        proto3_optional = t.stays.optional i;
        options = t.stays.options i;
      }

    fields_after : (fs : List FieldOf) → ((f : FieldOf) → Contains fs f → FieldTurns e taken a b path f) → map (field_described b fb) fs ≡ map (mapped_field e taken x) (map (field_described a fa) fs)
    fields_after fs h = map_agree (field_described b fb) (λ f. mapped_field e taken x (field_described a fa f)) fs (λ f c. field_after f (h f c)) ∙ sym (map_map (field_described a fa) (mapped_field e taken x) fs)

    -- ---- extensions (as fields, but for the type's name, the extendee, the default and the JSON name, each with a proof of its own)

    module _ (r : Reference) (f : FieldOf) (t : ExtensionTurns e taken a b path f) where
      no_map_after : field_type_name b [] f ≡ option_map (mapped_name e) (field_type_name a [] f)
      no_map_after =
          cond-false (is_map f) (Some (below [] (entry_name (text b f.name)))) (type_name_of b f.kind) t.no_map
          ∙ type_name_after f.kind
          ∙ ap (option_map (mapped_name e)) (sym (cond-false (is_map f) (Some (below [] (entry_name (text a f.name)))) (type_name_of a f.kind) t.no_map))

      word_after : option_map (default_text b) (value_named (text b) (codes "default") f.options) ≡ option_map (mapped_default e taken (field_type_name a [] f)) (option_map (default_text a) (value_named (text a) (codes "default") f.options))
      word_after = ap (option_map (default_text b)) t.stays.default ∙ by (value_named (text a) (codes "default") f.options) refl
        where
          by : (o : Option Constant) → value_named (text a) (codes "default") f.options ≡ o → option_map (default_text b) o ≡ option_map (mapped_default e taken (field_type_name a [] f)) (option_map (default_text a) o)
          by None q = refl
          by (Some c) q = ap Some (t.default c q ∙ ap (λ z. mapped_default e taken z (default_text a c)) (sym (cond-false (is_map f) (Some (below [] (entry_name (text a f.name)))) (type_name_of a f.kind) t.no_map)))

      extension_after : extension_described b r f ≡ mapped_field e taken x (extension_described a r f)
      extension_after = λ i. record {
        name = here (Token f.name) t.name i;
        number = t.stays.number i;
        label = t.stays.label i;
        field_type = t.stays.kind i;
        type_name = no_map_after i;
        extendee = Some (type_text_after r i);
        default_value = word_after i;
        oneof_index = f.oneof;
        json_name = None;
        proto3_optional = t.stays.optional i;
        options = t.stays.options i;
      }

    extensions_after : (tree : Tree) → Turns e taken a b path tree → extensions_described b tree ≡ map (mapped_field e taken x) (extensions_described a tree)
    extensions_after End t = refl
    extensions_after (Leaf (statement.MapField f) rest) t = extensions_after rest t.1
    extensions_after (Leaf s rest) t = extensions_after rest t
    extensions_after (Block (header.Extend g) opens within closes rest) t =
        let fs = fields_in within in
        ap₂ (λ (ds es : List FieldDesc). ds ++ es)
        (map_agree (extension_described b g.extendee) (λ f. mapped_field e taken x (extension_described a g.extendee f)) fs (λ f c. extension_after g.extendee f (t.0 f c)) ∙ sym (map_map (extension_described a g.extendee) (mapped_field e taken x) fs))
        (extensions_after rest t.1)
        ∙ sym (map_append (mapped_field e taken x) (map (extension_described a g.extendee) fs) (extensions_described a rest))
    extensions_after (Block (header.Message h) opens within closes rest) t = extensions_after rest t.3
    extensions_after (Block (header.Oneof h) opens within closes rest) t = extensions_after rest t.1
    extensions_after (Block (header.Enum h) opens within closes rest) t = extensions_after rest t.2
    extensions_after (Block (header.Service h) opens within closes rest) t = extensions_after rest t.3
    extensions_after (Block (header.Method s) opens within closes rest) t = extensions_after rest t

    -- ---- enums and oneofs

    value_after : (v : Value) → ValueTurns e taken a b path v → value_described b v ≡ mapped_value e x (value_described a v)
    value_after v t = λ i. record { name = here (Token v.name) t.name i; number = t.number i; options = t.options i }

    enum_after : (name : ℕ) (within : Tree) → Turned e taken a b path (Token name) → EnumTurns e taken a b path within → enum_described b name within ≡ mapped_enum e x (enum_described a name within)
    enum_after name within n t =
        let values : map (value_described b) (values_in within) ≡ map (mapped_value e x) (map (value_described a) (values_in within)) =
        map_agree (value_described b) (λ v. mapped_value e x (value_described a v)) (values_in within) (λ v c. value_after v (t.values v c)) ∙ sym (map_map (value_described a) (mapped_value e x) (values_in within)) in
        λ i. record {
          name = here (Token name) n i;
          value = values i;
          reserved_range = t.reserved i;
          reserved_name = reserved_names_after (reserved_names_in within) i;
          options = t.options i;
        }

    enums_after : (tree : Tree) → Turns e taken a b path tree → enums_described b tree ≡ map (mapped_enum e x) (enums_described a tree)
    enums_after End t = refl
    enums_after (Leaf (statement.MapField f) rest) t = enums_after rest t.1
    enums_after (Leaf s rest) t = enums_after rest t
    enums_after (Block (header.Enum h) opens within closes rest) t = ap₂ (λ (d : EnumDesc) (ds : List EnumDesc). d ∷ ds) (enum_after h.name within t.0 t.1) (enums_after rest t.2)
    enums_after (Block (header.Message h) opens within closes rest) t = enums_after rest t.3
    enums_after (Block (header.Oneof h) opens within closes rest) t = enums_after rest t.1
    enums_after (Block (header.Service h) opens within closes rest) t = enums_after rest t.3
    enums_after (Block (header.Method s) opens within closes rest) t = enums_after rest t
    enums_after (Block (header.Extend g) opens within closes rest) t = enums_after rest t.1

    oneofs_after : (tree : Tree) → Turns e taken a b path tree → oneof_names b tree ≡ map (word_under e x) (oneof_names a tree)
    oneofs_after End t = refl
    oneofs_after (Leaf (statement.MapField f) rest) t = oneofs_after rest t.1
    oneofs_after (Leaf s rest) t = oneofs_after rest t
    oneofs_after (Block (header.Oneof h) opens within closes rest) t = ap₂ (λ (w : List ℕ) (ws : List (List ℕ)). w ∷ ws) (here (Token h.name) t.0) (oneofs_after rest t.1)
    oneofs_after (Block (header.Message h) opens within closes rest) t = oneofs_after rest t.3
    oneofs_after (Block (header.Enum h) opens within closes rest) t = oneofs_after rest t.2
    oneofs_after (Block (header.Service h) opens within closes rest) t = oneofs_after rest t.3
    oneofs_after (Block (header.Method s) opens within closes rest) t = oneofs_after rest t
    oneofs_after (Block (header.Extend g) opens within closes rest) t = oneofs_after rest t.1

    -- ---- methods

    method_after : (s : Signature) (options : List OptionOf) → MethodTurns e taken a b path s options → method_described b s options ≡ mapped_method e x (method_described a s options)
    method_after s options t = λ i. record (method_described b s options) {
      name = here (Token s.name) t.name i;
      input_type = type_text_after s.input.reference i;
      output_type = type_text_after s.output.reference i;
      options = t.options_stay i;
    }

    methods_after : (tree : Tree) → MethodsTurn e taken a b path tree → methods_described b tree ≡ map (mapped_method e x) (methods_described a tree)
    methods_after End t = refl
    methods_after (Leaf (statement.Method s i) rest) t = ap₂ (λ (d : MethodDesc) (ds : List MethodDesc). d ∷ ds) (method_after s [] t.0) (methods_after rest t.1)
    methods_after (Leaf s rest) t = methods_after rest t
    methods_after (Block (header.Method s) opens within closes rest) t = ap₂ (λ (d : MethodDesc) (ds : List MethodDesc). d ∷ ds) (method_after s (options_in within) t.0) (methods_after rest t.1)
    methods_after (Block h opens within closes rest) t = methods_after rest t

    -- ---- the entry of a map field

    module _ (f : MapField) (t : EntryTurns e taken a b path f) where
      abbrev inner : List (List ℕ)
      inner = x ++ entry_name (text a f.name) ∷ []

      inner_is : full e taken a b (path ++ EntryOf f.name ∷ []) ≡ inner
      inner_is = path_more (EntryOf f.name)

      json_same : (w : List ℕ) → is_target e taken a b (path ++ EntryOf f.name ∷ []) w ≡ false → w ≡ (if same_name (inner ++ w ∷ []) (target e) && not taken.written then json_word e.new else w)
      json_same w h =
          let other : same_name (inner ++ w ∷ []) (target e) ≡ false = ap (λ z. same_name (z ++ w ∷ []) (target e)) (sym inner_is) ∙ h in
          sym (ap (λ v. if v && not taken.written then json_word e.new else w) other)

      key_after : entry_field key_word 1 (scalar_type (text b f.key)) None ≡ mapped_field e taken inner (entry_field key_word 1 (scalar_type (text a f.key)) None)
      key_after = λ i. record (entry_field key_word 1 (t.key_type i) None) { name = (sym t.key ∙ ap (λ z. word_under e z key_word) inner_is) i; json_name = Some (json_same key_word t.no_key i) }

      item_after : entry_field value_word 2 (type_of b f.value) (type_name_of b f.value) ≡ mapped_field e taken inner (entry_field value_word 2 (type_of a f.value) (type_name_of a f.value))
      item_after = λ i. record (entry_field value_word 2 (t.value_type i) (type_name_after f.value i)) { name = (sym t.value ∙ ap (λ z. word_under e z value_word) inner_is) i; json_name = Some (json_same value_word t.no_value i) }

      entry_after : entry_described b f ≡ mapped_message e taken x inner (entry_described a f)
      entry_after = λ i. record (entry_described a f) { name = here (EntryOf f.name) t.name i; field = key_after i ∷ item_after i ∷ [] }

  -- ---- messages

  message_after : (path : List (Source ℕ)) (x : List (List ℕ)) (fa fb : List ℕ) → full e taken a b path ≡ x → fa ≡ dotted_text x → fb ≡ dotted_text (ren e x)
      → (above : List (List ℕ)) (name : ℕ) (within : Tree) → text b name ≡ word_under e above (text a name) → MessageTurns e taken a b path within → Turns e taken a b path within
      → message_described b fb name within ≡ mapped_message e taken above x (message_described a fa name within)
  message_after path x fa fb ex ea eb above name within n m t =
      λ i. record {
        name = n i;
        field = fields_after path x fa fb ex ea eb (fields_in within) m.fields i;
        extension = extensions_after path x fa fb ex ea eb within t i;
        enum_type = enums_after path x fa fb ex ea eb within t i;
        extension_range = m.extensions i;
        oneof_decl = oneofs_after path x fa fb ex ea eb within t i;
        reserved_range = m.reserved i;
        reserved_name = reserved_names_after (reserved_names_in within) i;
        options = m.options i;
      }

  messages_after : (tree : Tree) (path : List (Source ℕ)) (x : List (List ℕ)) (fa fb : List ℕ) → full e taken a b path ≡ x → fa ≡ dotted_text x → fb ≡ dotted_text (ren e x) → Turns e taken a b path tree
      → messages_described b fb tree ≡ mapped_messages e taken x (messages_described a fa tree)
  messages_after End path x fa fb ex ea eb t = refl
  messages_after (Leaf (statement.MapField f) rest) path x fa fb ex ea eb t =
      ap₂ (λ (m : MessageDesc) (r : Messages). Message m NoMessages r) (entry_after path x fa fb ex ea eb f t.0) (messages_after rest path x fa fb ex ea eb t.1)
  messages_after (Leaf s rest) path x fa fb ex ea eb t = messages_after rest path x fa fb ex ea eb t
  messages_after (Block (header.Message h) opens within closes rest) path x fa fb ex ea eb t =
      let w = text a h.name in
      let n = here path x fa fb ex ea eb (Token h.name) t.0 in
      let px = path_more path x fa fb ex ea eb (Token h.name) in
      let pa = below_a path x fa fb ex ea eb w in
      let pb = below_b path x fa fb ex ea eb (text b h.name) w n in
      λ i. Message
      (message_after (path ++ Token h.name ∷ []) (x ++ w ∷ []) (below fa w) (below fb (text b h.name)) px pa pb x h.name within n t.1 t.2 i)
      (messages_after within (path ++ Token h.name ∷ []) (x ++ w ∷ []) (below fa w) (below fb (text b h.name)) px pa pb t.2 i)
      (messages_after rest path x fa fb ex ea eb t.3 i)
  messages_after (Block (header.Oneof h) opens within closes rest) path x fa fb ex ea eb t = messages_after rest path x fa fb ex ea eb t.1
  messages_after (Block (header.Enum h) opens within closes rest) path x fa fb ex ea eb t = messages_after rest path x fa fb ex ea eb t.2
  messages_after (Block (header.Service h) opens within closes rest) path x fa fb ex ea eb t = messages_after rest path x fa fb ex ea eb t.3
  messages_after (Block (header.Method s) opens within closes rest) path x fa fb ex ea eb t = messages_after rest path x fa fb ex ea eb t
  messages_after (Block (header.Extend g) opens within closes rest) path x fa fb ex ea eb t = messages_after rest path x fa fb ex ea eb t.1

  services_after : (tree : Tree) (path : List (Source ℕ)) (x : List (List ℕ)) (fa fb : List ℕ) → full e taken a b path ≡ x → fa ≡ dotted_text x → fb ≡ dotted_text (ren e x) → Turns e taken a b path tree
      → services_described b tree ≡ map (mapped_service e x) (services_described a tree)
  services_after End path x fa fb ex ea eb t = refl
  services_after (Leaf (statement.MapField f) rest) path x fa fb ex ea eb t = services_after rest path x fa fb ex ea eb t.1
  services_after (Leaf s rest) path x fa fb ex ea eb t = services_after rest path x fa fb ex ea eb t
  services_after (Block (header.Service h) opens within closes rest) path x fa fb ex ea eb t =
      let w = text a h.name in
      let n = here path x fa fb ex ea eb (Token h.name) t.0 in
      let px = path_more path x fa fb ex ea eb (Token h.name) in
      let pa = below_a path x fa fb ex ea eb w in
      let pb = below_b path x fa fb ex ea eb (text b h.name) w n in
      let methods = methods_after (path ++ Token h.name ∷ []) (x ++ w ∷ []) (below fa w) (below fb (text b h.name)) px pa pb within t.1 in
      λ i. record { name = n i; method = methods i; options = record { deprecated = t.2 i } } ∷ services_after rest path x fa fb ex ea eb t.3 i
  services_after (Block (header.Message h) opens within closes rest) path x fa fb ex ea eb t = services_after rest path x fa fb ex ea eb t.3
  services_after (Block (header.Oneof h) opens within closes rest) path x fa fb ex ea eb t = services_after rest path x fa fb ex ea eb t.1
  services_after (Block (header.Enum h) opens within closes rest) path x fa fb ex ea eb t = services_after rest path x fa fb ex ea eb t.2
  services_after (Block (header.Method s) opens within closes rest) path x fa fb ex ea eb t = services_after rest path x fa fb ex ea eb t
  services_after (Block (header.Extend g) opens within closes rest) path x fa fb ex ea eb t = services_after rest path x fa fb ex ea eb t.1

  -- ---- a file

  dependencies_after : (ws : List Wanted) → map (λ (w : Wanted). value b w.path) ws ≡ map (λ (w : Wanted). value a w.path) ws
  dependencies_after [] = refl
  dependencies_after (w ∷ ws) = ap₂ (λ (v : List ℕ) (vs : List (List ℕ)). v ∷ vs) (strings w.path) (dependencies_after ws)

package_same : (a b : Scene) (ts : List ℕ) → map (text b) ts ≡ map (text a) ts → package_named b ts ≡ package_named a ts
package_same a b [] h = refl
package_same a b (t ∷ ts) h = ap (λ ws. Some (joined ws)) h

spelled_tokens : (a : Scene) (ts : List ℕ) → map (spell (text a) entry_name) (map (λ t. Token t) ts) ≡ map (text a) ts
spelled_tokens a ts = map_map (λ t. Token t) (spell (text a) entry_name) ts

pub descriptors_are_mapped : DescriptorsAreMapped
descriptors_are_mapped e taken a b path tree t =
    let ts = package_of (items_in tree) in
    let x = map (text a) ts in
    let fa = package_prefix (package_named a ts) in
    let fb = package_prefix (package_named b ts) in
    let named : package_named b ts ≡ package_named a ts = package_same a b ts t.named in
    let ea : fa ≡ dotted_text x = package_dotted a ts in
    let eb : fb ≡ dotted_text (ren e x) = ap package_prefix named ∙ ea ∙ ap dotted_text (sym t.kept) in
    let ex : full e taken a b (map (λ t. Token t) ts) ≡ x = spelled_tokens a ts in
    let above : words_of fa ≡ x = ap words_of ea ∙ words_of_dotted x t.plain in
    let ms = messages_after e taken a b t.strings t.means tree (map (λ t. Token t) ts) x fa fb ex ea eb t.names in
    let es = enums_after e taken a b t.strings t.means (map (λ t. Token t) ts) x fa fb ex ea eb tree t.names in
    let xs = extensions_after e taken a b t.strings t.means (map (λ t. Token t) ts) x fa fb ex ea eb tree t.names in
    let ss = services_after e taken a b t.strings t.means tree (map (λ t. Token t) ts) x fa fb ex ea eb t.names in
    λ i. record (file_described b path tree) {
      «package» = named i;
      dependency = dependencies_after e taken a b t.strings t.means (imports_in tree) i;
      message_type = (ms ∙ ap (λ z. mapped_messages e taken z (messages_described a fa tree)) (sym above)) i;
      enum_type = (es ∙ ap (λ z. map (mapped_enum e z) (enums_described a tree)) (sym above)) i;
      service = (ss ∙ ap (λ z. map (mapped_service e z) (services_described a tree)) (sym above)) i;
      extension = (xs ∙ ap (λ z. map (mapped_field e taken z) (extensions_described a tree)) (sym above)) i;
      options = t.options i;
      syntax = if t.version i then syntax.Proto3 else syntax.Proto2;
    }
