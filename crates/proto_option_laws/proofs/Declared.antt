-- What descriptors have is declared, file by file and message by message (for the crates above).
use Rattle.std.proofs.Common.{◌≡◌, ℕ, suc, ◌+◌, ◌<◌, Bool, true, false, if◌then◌else◌, List, [], ◌∷◌, ◌++◌, length, map, Some, None, refl, sym, ◌∙◌, ap, subst, inl, inr, arith, Contains}
use Rattle.proto_base.proofs.Common.{Contains-append_cases, cond-false, contains_cases, from_map, none-some, same_Some}
use Rattle.proto_ast.proofs.Common.{FieldOf, Scene, blocks_in, fields_in, text, values_in}
use Rattle.proto_case.specs.Camel.{entry_name}
use Rattle.proto_desc.specs.Checked.{described}
use Rattle.proto_desc_build.specs.Described.{below, entry_described, entry_field, enum_described, enums_described, extension_described, extensions_described, field_described, file_described, is_map, message_described, messages_described, package_named, package_prefix, scalar_type, type_name_of, type_of, value_described}
use Rattle.proto_desc_checks_laws.proofs.Common.{IsDeclared, blocks_are_declared}
use Rattle.proto_descriptors.specs.Descriptors.{EnumDesc, FieldDesc, FileDesc, MessageDesc}
use Rattle.proto_edit_rename_described.proofs.Mapped.{dotted_more, joined_dotted, words_of_dotted}
use Rattle.proto_edit_rename_laws.proofs.Common.{files_are_woven, lexemes_of, scene_of}
use Rattle.proto_edit_rename_laws.proofs.TokenRoles.{placed_declared}
use Rattle.proto_edit_rules.specs.OptionViews.{IsEnumOf, IsExtensionOf, IsMessageBelow, IsMessageOf, package_words}
use Rattle.proto_edit_rules.specs.Rename.{dotted_text, words_of}
use Rattle.proto_files.proofs.Common.{AreRead, FileOf, HasNoFault, ReadOf, file_at, read_at}
use Rattle.proto_names_imports.proofs.Common.{LinkFaults, link_skeleton, name_in, text_of}
use Rattle.proto_names_outline.specs.FromTree.{items_in}
use Rattle.proto_names_rules.proofs.Common.{ArePlain, At, Declared, EntryOf, Given, Placed, Source, Token, at, declared_of, file_placed, key_word, map_append, map_field, map_map, name_of, package_of, package_within, place, placed, prefix_whole, prefixes, shifted_declared, shifted_source, spell, stop, value_word}
use Rattle.proto_names_rules.specs.Grown.{numbered}
use Rattle.proto_names_rules.specs.Names.{Name}
use Rattle.proto_names_rules.specs.declared.kind.Kind.{Kind}
use Rattle.proto_names_rules.specs.declared.kind.Kind.TheVariants.{Package, Message, Entry, Enum, Field, EntryField, Value, Extension}
use Rattle.proto_option_laws.proofs.Below.{Stands, from_below}
use Rattle.proto_option_laws.proofs.Here.{AreHere, IsExtensionHere, block_with, tree_here}
use Rattle.proto_option_laws.proofs.Types.{plain, type_reached}
use Rattle.proto_option_laws.specs.Declared.{HasName, IsDeclaredEnum, IsDeclaredExtension, IsDeclaredField, IsDeclaredMessage, IsDeclaredValue, TypeIsReached}
use Rattle.proto_tree.proofs.Common.{Block, End, Leaf, Tree}
use Rattle.proto_tree.specs.declared.piece.Header.{Header}
use Rattle.proto_tree.specs.declared.piece.Header.TheVariants as header
use Rattle.proto_tree.specs.declared.piece.Heading.{Heading}
use Rattle.proto_tree.specs.declared.piece.Statement.TheVariants as statement
use Rattle.proto_tree.specs.declared.tree.MapField.{MapField}
use Rattle.proto_tree.specs.declared.tree.Reference.{Reference}

message_no_package : Message ≡ Package → ⊥
message_no_package e = cc

entry_no_package : Entry ≡ Package → ⊥
entry_no_package e = cc

enum_no_package : Enum ≡ Package → ⊥
enum_no_package e = cc

package_dotted : (s : Scene) (ts : List ℕ) → package_prefix (package_named s ts) ≡ dotted_text (map (text s) ts)
package_dotted s [] = refl
package_dotted s (t ∷ ts) = joined_dotted (map (text s) (t ∷ ts)) (λ z. not_empty z)
  where
    not_empty : map (text s) (t ∷ ts) ≡ [] → ⊥
    not_empty z = cc

numbered_there : (n : ℕ) (rs : List ReadOf) (p : ℕ × ReadOf) → Contains (numbered n rs) p → (k : ℕ) × (k < length rs) × (p.0 ≡ n + k) × (p.1 ≡ read_at rs k)
numbered_there n [] p c = absurd (omega (arith, c.1))
numbered_there n (x ∷ rs) p c = elim (contains_cases (n, x) p (numbered (suc n) rs) c) [
  | inl q ↦ (
      let zero_is : n ≡ n + 0 = omega arith in
      let number : n ≡ p.0 = ap (λ (z : ℕ × ReadOf). z.0) q in
      let read : x ≡ p.1 = ap (λ (z : ℕ × ReadOf). z.1) q in
      (0, omega arith, sym number ∙ zero_is, sym read))
  | inr d ↦ (
      let r = numbered_there (suc n) rs p d in
      let more : suc n + r.0 ≡ n + suc r.0 = omega arith in
      (suc r.0, omega (arith, r.1), r.2 ∙ more, r.3))
]

module _ (files : List FileOf) (reads : List ReadOf) (r : AreRead files reads) (ok : HasNoFault (LinkFaults files)) where
  module _ (file : ℕ) (l : file < length files) where
    abbrev scene : Scene
    scene = scene_of None files reads file

    abbrev root : Tree
    root = (read_at reads file).tree

    abbrev declared : Placed → Declared At
    declared p = shifted_declared (at file) (declared_of file p)

    abbrev Here : Placed → Type 0
    Here p = Contains (file_placed (items_in (read_at reads file).tree)) p

    abbrev spelled : List (Source ℕ) → Name
    spelled path = name_of (text (scene_of None files reads file)) entry_name path

    -- ---- names

    there : (p : Placed) → Here p → Contains (link_skeleton files reads).declared (declared p)
    there p c = placed_declared files reads r file (omega (arith, l, r.same)) p c

    more : (path : List (Source ℕ)) (x : Name) (s : Source ℕ) → spelled path ≡ x → spelled (path ++ s ∷ []) ≡ x ++ spell (text scene) entry_name s ∷ []
    more path x s e = map_append (spell (text scene) entry_name) path (s ∷ []) ∙ ap (λ z. z ++ spell (text scene) entry_name s ∷ []) e

    named : (p : Placed) (x : Name) → spelled p.above ≡ x → HasName files reads (declared p) (x ++ spell (text scene) entry_name p.last ∷ [])
    named p x e = name_in (text_of files reads) file (p.above ++ p.last ∷ []) ∙ more p.above x p.last e

    -- places of one token have one name above
    same_above : (path other : List (Source ℕ)) (i : ℕ) (k j : Kind) → Here (place path (Token i) k) → Here (place other (Token i) j) → spelled other ≡ spelled path
    same_above path other i k j c d =
        let p = place path (Token i) k in
        let q = place other (Token i) j in
        let above : map (shifted_source (at file)) other ≡ map (shifted_source (at file)) path =
        (files_are_woven files reads r).tokens (declared q) (declared p) (there q d) (there p c) (map (shifted_source (at file)) other) (map (shifted_source (at file)) path) (at file i)
        (map_append (shifted_source (at file)) other (Token i ∷ [])) (map_append (shifted_source (at file)) path (Token i ∷ [])) in
        sym (name_in (text_of files reads) file other) ∙ ap (name_of (text_of files reads) entry_name) above ∙ name_in (text_of files reads) file path

    below_is : (x : Name) (full w : List ℕ) → full ≡ dotted_text x → below full w ≡ dotted_text (x ++ w ∷ [])
    below_is x full w e = ap (λ z. z ++ 46 ∷ w) e ∙ sym (dotted_more x w)

    -- what the laws of blocks say of a block
    block_is : (h : Header) (within : Tree) → Contains (blocks_in root) (block_with h within) → IsDeclared (file_placed (items_in root)) h within
    block_is h within c = blocks_are_declared (file_at files file).profile root (lexemes_of files reads file) (r.trees file l).spells (block_with h within) c

    -- ---- fields

    entry_reached : (path : List (Source ℕ)) (x : Name) (full : List ℕ) → spelled path ≡ x → full ≡ dotted_text x → (name : ℕ) → Here (place path (EntryOf name) Entry)
        → TypeIsReached files reads file (Some (below full (entry_name (text scene name))))
    entry_reached path x full ex ef name c next h =
        let p = place path (EntryOf name) Entry in
        let w = entry_name (text scene name) in
        let n : HasName files reads (declared p) (x ++ w ∷ []) = named p x ex in
        let plain_name : ArePlain (x ++ w ∷ []) = subst ArePlain n (plain files reads r (declared p) (there p c)) in
        let words : words_of (below full w) ≡ x ++ w ∷ [] = ap words_of (below_is x full w ef) ∙ words_of_dotted (x ++ w ∷ []) plain_name in
        let same : words_of (below full w) ≡ next = same_Some (words_of (below full w)) next h in
        record { d = declared p; within = there p c; name_is = n ∙ sym words ∙ same; no_package = entry_no_package; leads = stop }

    field_here : (path : List (Source ℕ)) (x : Name) (full : List ℕ) → spelled path ≡ x → full ≡ dotted_text x → (f : FieldOf) → Here (place path (Token f.name) Field) → (is_map f ≡ true → Here (place path (EntryOf f.name) Entry))
        → IsDeclaredField files reads file x (field_described scene full f)
    field_here path x full ex ef f c entry = record {
      d = declared (place path (Token f.name) Field);
      within = there (place path (Token f.name) Field) c;
      name_is = named (place path (Token f.name) Field) x ex;
      file_is = refl;
      kind = inl refl;
      type = by (is_map f) refl;
    }
      where
        by : (b : Bool) → is_map f ≡ b → TypeIsReached files reads file (if b then Some (below full (entry_name (text scene f.name))) else type_name_of scene f.kind)
        by true q = entry_reached path x full ex ef f.name (entry q)
        by false q = type_reached files reads r ok file l f.kind

    -- the entry of a map field
    entry_here : (path : List (Source ℕ)) (x : Name) → spelled path ≡ x → (f : MapField) → ((p : Placed) → Contains (placed path (map_field f.name)) p → Here p)
        → IsDeclaredMessage files reads (x ++ entry_name (text scene f.name) ∷ []) (entry_described scene f)
    entry_here path x ex f i = record {
      d = declared (place path (EntryOf f.name) Entry);
      within = there (place path (EntryOf f.name) Entry) (i (place path (EntryOf f.name) Entry) (1, omega arith, refl));
      name_is = named (place path (EntryOf f.name) Entry) x ex;
      no_package = entry_no_package;
      fields = λ g c. elim (contains_cases key g (item ∷ []) c) [
        | inl q ↦ subst (IsDeclaredField files reads file whole) q key_here
        | inr d ↦ elim (contains_cases item g [] d) [
          | inl q ↦ subst (IsDeclaredField files reads file whole) q item_here
          | inr z ↦ absurd (omega (arith, z.1))
        ]
      ];
      enums = λ e c. absurd (omega (arith, c.1));
      extensions = λ e c. absurd (omega (arith, c.1));
    }
      where
        inner : List (Source ℕ)
        inner = path ++ EntryOf f.name ∷ []

        whole : Name
        whole = x ++ entry_name (text scene f.name) ∷ []

        key : FieldDesc
        key = entry_field key_word 1 (scalar_type (text scene f.key)) None

        item : FieldDesc
        item = entry_field value_word 2 (type_of scene f.value) (type_name_of scene f.value)

        key_here : IsDeclaredField files reads file whole key
        key_here = record {
          d = declared (place inner (Given key_word) EntryField);
          within = there (place inner (Given key_word) EntryField) (i (place inner (Given key_word) EntryField) (2, omega arith, refl));
          name_is = named (place inner (Given key_word) EntryField) whole (more path x (EntryOf f.name) ex);
          file_is = refl;
          kind = inr refl;
          type = λ n h. absurd (none-some n h);
        }

        item_here : IsDeclaredField files reads file whole item
        item_here = record {
          d = declared (place inner (Given value_word) EntryField);
          within = there (place inner (Given value_word) EntryField) (i (place inner (Given value_word) EntryField) (3, omega arith, refl));
          name_is = named (place inner (Given value_word) EntryField) whole (more path x (EntryOf f.name) ex);
          file_is = refl;
          kind = inr refl;
          type = type_reached files reads r ok file l f.value;
        }

    -- ---- enums

    enum_here : (path : List (Source ℕ)) (x : Name) → spelled path ≡ x → (h : Heading) (within : Tree) → Here (place path (Token h.name) Enum) → Contains (blocks_in root) (block_with (header.Enum h) within)
        → IsDeclaredEnum files reads x (enum_described scene h.name within)
    enum_here path x ex h within c b =
        let own = block_is (header.Enum h) within b in
        let eo : spelled own.0 ≡ x = same_above path own.0 h.name Enum Enum c own.1 ∙ ex in
        record {
          d = declared (place path (Token h.name) Enum);
          within = there (place path (Token h.name) Enum) c;
          name_is = named (place path (Token h.name) Enum) x ex;
          no_package = enum_no_package;
          values = λ v cv. (
              let o = from_map (value_described scene) (values_in within) v cv in
              let p = place own.0 (Token o.0.name) Value in
              subst (IsDeclaredValue files reads file x) o.2 (record { d = declared p; within = there p (own.2 o.0 o.1); name_is = named p x eo; file_is = refl; kind = refl }));
        }

    enum_in : (path : List (Source ℕ)) (x : Name) → spelled path ≡ x → (t : Tree) → AreHere root path t → (e : EnumDesc) → Contains (enums_described scene t) e → IsDeclaredEnum files reads x e
    enum_in path x ex End a e c = absurd (omega (arith, c.1))
    enum_in path x ex (Leaf (statement.MapField f) rest) a e c = enum_in path x ex rest a.1 e c
    enum_in path x ex (Leaf s rest) a e c = enum_in path x ex rest a e c
    enum_in path x ex (Block (header.Enum h) opens within closes rest) a e c = elim (contains_cases (enum_described scene h.name within) e (enums_described scene rest) c) [
      | inl q ↦ subst (IsDeclaredEnum files reads x) q (enum_here path x ex h within a.0 a.1)
      | inr d ↦ enum_in path x ex rest a.2 e d
    ]
    enum_in path x ex (Block (header.Message h) opens within closes rest) a e c = enum_in path x ex rest a.3 e c
    enum_in path x ex (Block (header.Extend y) opens within closes rest) a e c = enum_in path x ex rest a.1 e c
    enum_in path x ex (Block (header.Oneof h) opens within closes rest) a e c = enum_in path x ex rest a e c
    enum_in path x ex (Block (header.Service h) opens within closes rest) a e c = enum_in path x ex rest a e c
    enum_in path x ex (Block (header.Method h) opens within closes rest) a e c = enum_in path x ex rest a e c

    -- ---- extensions

    extension_here : (path : List (Source ℕ)) (x : Name) → spelled path ≡ x → (of : Reference) (f : FieldOf) → IsExtensionHere root path f
        → IsDeclaredExtension files reads (x ++ text scene f.name ∷ []) (extension_described scene of f)
    extension_here path x ex of f h = record {
      d = declared (place path (Token f.name) Extension);
      within = there (place path (Token f.name) Extension) h.0;
      name_is = named (place path (Token f.name) Extension) x ex;
      kind = refl;
      type = subst (TypeIsReached files reads file) (sym (cond-false (is_map f) (Some (below [] (entry_name (text scene f.name)))) (type_name_of scene f.kind) h.1)) (type_reached files reads r ok file l f.kind);
    }

    extension_in : (path : List (Source ℕ)) (x : Name) → spelled path ≡ x → (t : Tree) → AreHere root path t → (y : FieldDesc) → Contains (extensions_described scene t) y → IsDeclaredExtension files reads (x ++ y.name ∷ []) y
    extension_in path x ex End a y c = absurd (omega (arith, c.1))
    extension_in path x ex (Leaf (statement.MapField f) rest) a y c = extension_in path x ex rest a.1 y c
    extension_in path x ex (Leaf s rest) a y c = extension_in path x ex rest a y c
    extension_in path x ex (Block (header.Extend e) opens within closes rest) a y c = elim (Contains-append_cases (map (extension_described scene e.extendee) (fields_in within)) (extensions_described scene rest) y c) [
      | inl d ↦ (
          let o = from_map (extension_described scene e.extendee) (fields_in within) y d in
          subst (λ (z : FieldDesc). IsDeclaredExtension files reads (x ++ z.name ∷ []) z) o.2 (extension_here path x ex e.extendee o.0 (a.0 o.0 o.1)))
      | inr d ↦ extension_in path x ex rest a.1 y d
    ]
    extension_in path x ex (Block (header.Message h) opens within closes rest) a y c = extension_in path x ex rest a.3 y c
    extension_in path x ex (Block (header.Enum h) opens within closes rest) a y c = extension_in path x ex rest a.2 y c
    extension_in path x ex (Block (header.Oneof h) opens within closes rest) a y c = extension_in path x ex rest a y c
    extension_in path x ex (Block (header.Service h) opens within closes rest) a y c = extension_in path x ex rest a y c
    extension_in path x ex (Block (header.Method h) opens within closes rest) a y c = extension_in path x ex rest a y c

    -- ---- messages

    message_here : (path : List (Source ℕ)) (x : Name) (full : List ℕ) → spelled path ≡ x → full ≡ dotted_text x → (h : Heading) (within : Tree) → Here (place path (Token h.name) Message) → Contains (blocks_in root) (block_with (header.Message h) within)
        → AreHere root (path ++ Token h.name ∷ []) within → IsDeclaredMessage files reads (x ++ text scene h.name ∷ []) (message_described scene (below full (text scene h.name)) h.name within)
    message_here path x full ex ef h within c b a =
        let own = block_is (header.Message h) within b in
        let eo : spelled own.0 ≡ x = same_above path own.0 h.name Message Message c own.1 ∙ ex in
        let mine = more path x (Token h.name) ex in
        let whole = x ++ text scene h.name ∷ [] in
        let inner = below full (text scene h.name) in
        record {
          d = declared (place path (Token h.name) Message);
          within = there (place path (Token h.name) Message) c;
          name_is = named (place path (Token h.name) Message) x ex;
          no_package = message_no_package;
          fields = λ g cg. (
              let o = from_map (field_described scene (below full (text scene h.name))) (fields_in within) g cg in
              let k = own.2 o.0 o.1 in
              subst (IsDeclaredField files reads file (x ++ text scene h.name ∷ [])) o.2
              (field_here (own.0 ++ Token h.name ∷ []) (x ++ text scene h.name ∷ []) (below full (text scene h.name)) (more own.0 x (Token h.name) eo) (below_is x full (text scene h.name) ef) o.0 k.0 k.1));
          enums = λ e ce. enum_in (path ++ Token h.name ∷ []) (x ++ text scene h.name ∷ []) mine within a e ce;
          extensions = λ y cy. extension_in (path ++ Token h.name ∷ []) (x ++ text scene h.name ∷ []) mine within a y cy;
        }

    -- a message is declared, in this file
    abbrev Found : Name → MessageDesc → Type 0
    Found name m = (k : IsDeclaredMessage files reads name m) × (k.d.file ≡ file)

    found_as : (name next : Name) (m n : MessageDesc) → next ≡ name → n ≡ m → Found name m → Found next n
    found_as name next m n e q k = subst (λ z. Found z n) (sym e) (subst (Found name) (sym q) k)

    message_in : (t : Tree) (path : List (Source ℕ)) (x : Name) (full : List ℕ) → spelled path ≡ x → full ≡ dotted_text x → AreHere root path t → (name : Name) (m : MessageDesc) → Stands x (messages_described scene full t) name m → Found name m
    unfolding entry_here message_here
    message_in End path x full ex ef a name m s = absurd s
    message_in (Leaf (statement.MapField f) rest) path x full ex ef a name m s = elim s [
      | inl q ↦ found_as (x ++ entry_name (text scene f.name) ∷ []) name (entry_described scene f) m q.0 q.1 (entry_here path x ex f a.0, refl)
      | inr (inl z) ↦ absurd z
      | inr (inr z) ↦ message_in rest path x full ex ef a.1 name m z
    ]
    message_in (Leaf s rest) path x full ex ef a name m z = message_in rest path x full ex ef a name m z
    message_in (Block (header.Message h) opens within closes rest) path x full ex ef a name m s = elim s [
      | inl q ↦ found_as (x ++ text scene h.name ∷ []) name (message_described scene (below full (text scene h.name)) h.name within) m q.0 q.1 (message_here path x full ex ef h within a.0 a.1 a.2, refl)
      | inr (inl z) ↦ message_in within (path ++ Token h.name ∷ []) (x ++ text scene h.name ∷ []) (below full (text scene h.name)) (more path x (Token h.name) ex) (below_is x full (text scene h.name) ef) a.2 name m z
      | inr (inr z) ↦ message_in rest path x full ex ef a.3 name m z
    ]
    message_in (Block (header.Enum h) opens within closes rest) path x full ex ef a name m z = message_in rest path x full ex ef a.2 name m z
    message_in (Block (header.Extend y) opens within closes rest) path x full ex ef a name m z = message_in rest path x full ex ef a.1 name m z
    message_in (Block (header.Oneof h) opens within closes rest) path x full ex ef a name m z = message_in rest path x full ex ef a name m z
    message_in (Block (header.Service h) opens within closes rest) path x full ex ef a name m z = message_in rest path x full ex ef a name m z
    message_in (Block (header.Method h) opens within closes rest) path x full ex ef a name m z = message_in rest path x full ex ef a name m z

    -- ---- the file

    abbrev mine : FileDesc
    mine = file_described (scene_of None files reads file) (file_at files file).path (read_at reads file).tree

    abbrev words : List ℕ
    words = package_of (items_in (read_at reads file).tree)

    pub package_plain : ArePlain (map (λ t. text_of files reads (at file t)) (package_of (items_in (read_at reads file).tree)))
    package_plain = by words refl
      where
        by : (ts : List ℕ) → words ≡ ts → ArePlain (map (text scene) ts)
        by [] q = tt
        by (i ∷ is) q =
            let u = prefix_whole i is [] in
            let cu : Here u.0 = package_within (items_in root) (map (λ t. Token t) words) u.0 (subst (λ z. Contains (prefixes [] z) u.0) (sym q) u.1) in
            let old : name_of (text_of files reads) entry_name (declared u.0).path ≡ map (text scene) (i ∷ is) =
            name_in (text_of files reads) file (u.0.above ++ u.0.last ∷ []) ∙ ap (name_of (text scene) entry_name) (sym u.2) ∙ map_map (λ t. Token t) (spell (text scene) entry_name) (i ∷ is) in
            subst ArePlain old (plain files reads r (declared u.0) (there u.0 cu))

    -- the words of its package
    pub package_is : package_words (file_described (scene_of None files reads file) (file_at files file).path (read_at reads file).tree) ≡ map (λ t. text_of files reads (at file t)) (package_of (items_in (read_at reads file).tree))
    package_is = ap words_of (package_dotted scene words) ∙ words_of_dotted (map (text scene) words) package_plain

    path_is : spelled (map (λ t. Token t) words) ≡ package_words mine
    path_is = map_map (λ t. Token t) (spell (text scene) entry_name) words ∙ sym package_is

    here : AreHere root (map (λ t. Token t) words) root
    here = tree_here root (r.trees file l).spells.well_formed

    pub messages_of_file_are_declared : (name : Name) (m : MessageDesc) → IsMessageBelow (package_words mine) mine.message_type name m → (k : IsDeclaredMessage files reads name m) × (k.d.file ≡ file)
    messages_of_file_are_declared name m b =
        message_in root (map (λ t. Token t) words) (package_words mine) (package_prefix (package_named scene words)) path_is (package_dotted scene words ∙ ap dotted_text (sym package_is)) here name m
        (from_below (package_words mine) mine.message_type name m b)

    pub enums_of_file_are_declared : (e : EnumDesc) → Contains mine.enum_type e → IsDeclaredEnum files reads (package_words mine) e
    enums_of_file_are_declared e c = enum_in (map (λ t. Token t) words) (package_words mine) path_is root here e c

    pub extensions_of_file_are_declared : (x : FieldDesc) → Contains mine.extension x → IsDeclaredExtension files reads (package_words mine ++ x.name ∷ []) x
    extensions_of_file_are_declared x c = extension_in (map (λ t. Token t) words) (package_words mine) path_is root here x c

  -- ---- all files

  -- the file that a descriptor is of
  pub described_by : (f : FileDesc) → Contains (described files reads) f → (k : ℕ) × (k < length files) × (f ≡ file_described (scene_of None files reads k) (file_at files k).path (read_at reads k).tree)
  described_by f c =
      let g : ℕ → ReadOf → FileDesc = λ k x. file_described (scene_of None files reads k) (file_at files k).path x.tree in
      let o = from_map (λ (p : ℕ × ReadOf). file_described (scene_of None files reads p.0) (file_at files p.0).path p.1.tree) (numbered 0 reads) f c in
      let t = numbered_there 0 reads o.0 o.1 in
      let zero_is : 0 + t.0 ≡ t.0 = omega arith in
      (t.0, omega (arith, t.1, r.same), sym o.2 ∙ ap (λ k. g k o.0.1) (t.2 ∙ zero_is) ∙ ap (g t.0) t.3)

  pub messages_are_declared : (name : Name) (m : MessageDesc) → IsMessageOf (described files reads) name m → IsDeclaredMessage files reads name m
  messages_are_declared name m is =
      let o = described_by is.file is.within in
      (messages_of_file_are_declared o.0 o.1 name m (subst (λ (z : FileDesc). IsMessageBelow (package_words z) z.message_type name m) o.2 is.below)).0

  pub enums_are_declared : (name : Name) (e : EnumDesc) → IsEnumOf (described files reads) name e → (above : Name) × (name ≡ above ++ e.name ∷ []) × IsDeclaredEnum files reads above e
  enums_are_declared _ _ (IsEnumOf.in_file d e cd ce) =
      let o = described_by d cd in
      (package_words d, refl, subst (λ (z : FileDesc). IsDeclaredEnum files reads (package_words z) e) (sym o.2) (enums_of_file_are_declared o.0 o.1 e (subst (λ (z : FileDesc). Contains z.enum_type e) o.2 ce)))
  enums_are_declared _ _ (IsEnumOf.in_message name m e is ce) = (name, refl, (messages_are_declared name m is).enums e ce)

  pub extensions_are_declared : (name : Name) (x : FieldDesc) → IsExtensionOf (described files reads) name x → IsDeclaredExtension files reads name x
  extensions_are_declared _ _ (IsExtensionOf.in_file d x cd cx) =
      let o = described_by d cd in
      subst (λ (z : FileDesc). IsDeclaredExtension files reads (package_words z ++ x.name ∷ []) x) (sym o.2) (extensions_of_file_are_declared o.0 o.1 x (subst (λ (z : FileDesc). Contains z.extension x) o.2 cx))
  extensions_are_declared _ _ (IsExtensionOf.in_message name m x is cx) = (messages_are_declared name m is).extensions x cx
