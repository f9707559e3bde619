-- What stands right in a message or a file, of trees that stand one behind another (for the crates above).
use Rattle.std.proofs.Common.{◌≡◌, ℕ, ◌+◌, ◌<◌, ◌≤◌, List, [], ◌∷◌, ◌++◌, length, get_or, take, drop, refl, sym, ap, ◌∙◌, map, append_assoc, Option, option_to_list, append-nil}
use Rattle.std.proofs.lemmas.List.{at_drop_more, at_drop_all, map-append, take_more}
use Rattle.proto_base.proofs.Turns.{pushed_more}
use Rattle.proto_tree.specs.declared.piece.Statement.TheVariants as statement
use Rattle.proto_tree.specs.declared.piece.Header.TheVariants as header
use Rattle.proto_tree.proofs.Common.{trees, Tree, End, Leaf, Block, joined_trees}
use Rattle.proto_ast.proofs.Common.{Scene, text, fields_in, options_in}
use Rattle.proto_desc_build.specs.Described.{below, enum_described, enums_described, extension_described, extensions_described, oneof_names, entry_described, message_described, messages_described, method_described, methods_described, service_described, services_described}
use Rattle.proto_descriptors.proofs.Common.{MessageTree, message_desc, message_step, descriptor_tree, messages_desc, EnumDesc, MessageDesc, Messages, NoMessages, Message, MethodDesc, ServiceDesc}
use Rattle.proto_descriptors.specs.Descriptors.{FieldDesc}
use Rattle.proto_descriptors.specs.declared.message.MessageDescriptor.{MessageDescriptor}
use Rattle.proto_descriptors.specs.declared.message.MessageDescriptor.TheOpen.{MessageDescriptor-F}
use Rattle.proto_descriptors.specs.declared.message.MessageDescriptor.TheFolds.{fold-roll-MessageDescriptor}
use Rattle.proto_descriptors.specs.declared.message.MessageDescriptor.TheViews.{roll-MessageDescriptor}

pub enums_joined : (scene : Scene) (t u : Tree) → enums_described scene (joined_trees t u) ≡ enums_described scene t ++ enums_described scene u
enums_joined scene End u = refl
enums_joined scene (Leaf s rest) u = enums_joined scene rest u
enums_joined scene (Block (header.Enum h) i within j rest) u = ap (λ (ds : List EnumDesc). enum_described scene h.name within ∷ ds) (enums_joined scene rest u)
enums_joined scene (Block whole i within j rest) u = enums_joined scene rest u

pub extensions_joined : (scene : Scene) (t u : Tree) → extensions_described scene (joined_trees t u) ≡ extensions_described scene t ++ extensions_described scene u
extensions_joined scene End u = refl
extensions_joined scene (Leaf s rest) u = extensions_joined scene rest u
extensions_joined scene (Block (header.Extend e) i within j rest) u =
    let own : List FieldDesc = map (extension_described scene e.extendee) (fields_in within) in
    ap (λ (ds : List FieldDesc). own ++ ds) (extensions_joined scene rest u) ∙ sym (append_assoc own (extensions_described scene rest) (extensions_described scene u))
extensions_joined scene (Block whole i within j rest) u = extensions_joined scene rest u

pub oneofs_joined : (scene : Scene) (t u : Tree) → oneof_names scene (joined_trees t u) ≡ oneof_names scene t ++ oneof_names scene u
oneofs_joined scene End u = refl
oneofs_joined scene (Leaf s rest) u = oneofs_joined scene rest u
oneofs_joined scene (Block (header.Oneof h) i within j rest) u = ap (λ (names : List (List ℕ)). text scene h.name ∷ names) (oneofs_joined scene rest u)
oneofs_joined scene (Block whole i within j rest) u = oneofs_joined scene rest u

pub methods_joined : (scene : Scene) (t u : Tree) → methods_described scene (joined_trees t u) ≡ methods_described scene t ++ methods_described scene u
methods_joined scene End u = refl
methods_joined scene (Leaf (statement.Method s i) rest) u = ap (λ (ds : List MethodDesc). method_described scene s [] ∷ ds) (methods_joined scene rest u)
methods_joined scene (Leaf s rest) u = methods_joined scene rest u
methods_joined scene (Block (header.Method s) i within j rest) u = ap (λ (ds : List MethodDesc). method_described scene s (options_in within) ∷ ds) (methods_joined scene rest u)
methods_joined scene (Block whole i within j rest) u = methods_joined scene rest u

pub services_joined : (scene : Scene) (t u : Tree) → services_described scene (joined_trees t u) ≡ services_described scene t ++ services_described scene u
services_joined scene End u = refl
services_joined scene (Leaf s rest) u = services_joined scene rest u
services_joined scene (Block (header.Service h) i within j rest) u = ap (λ (ds : List ServiceDesc). service_described scene h.name within ∷ ds) (services_joined scene rest u)
services_joined scene (Block whole i within j rest) u = services_joined scene rest u

-- what is described of items, with one item more
pub described_turn : {A D : Type 0} (described : Tree → List D) (view : A → Tree) → ((t u : Tree) → described (joined_trees t u) ≡ described t ++ described u)
    → (items : List A) (i : ℕ) (x : A) (found next whole : List D) → i < length items → x ≡ get_or items i x → next ≡ found ++ described (view x)
    → found ++ described (trees view (drop i items)) ≡ whole → next ++ described (trees view (drop (i + 1) items)) ≡ whole
described_turn described view law items i x found next whole l e new before =
    let rest = trees view (drop (i + 1) items) in
    ap (λ (ds : List _). ds ++ described rest) new
    ∙ append_assoc found (described (view x)) (described rest)
    ∙ ap (λ (ds : List _). found ++ ds) (sym (law (view x) rest) ∙ ap (λ y. described (joined_trees (view y) rest)) e ∙ sym (at_drop_more (λ xs. described (trees view xs)) items i x l))
    ∙ before

-- there is no item more
pub described_none : {A D : Type 0} (described : Tree → List D) (view : A → Tree) → described End ≡ [] → (items : List A) (i : ℕ) (found whole : List D)
    → length items ≤ i → found ++ described (trees view (drop i items)) ≡ whole → found ≡ whole
described_none described view none items i found whole l before =
    sym (append-nil found) ∙ ap (λ (ds : List _). found ++ ds) (sym none ∙ sym (at_drop_all (λ xs. described (trees view xs)) items i l)) ∙ before

-- what is made of each item, with one item more
pub mapped_turn : {A B D : Type 0} (read : D → B) (described : A → B) (items : List A) (i : ℕ) (x y : A) (found next : List D) (d : D) → i < length items → x ≡ get_or items i y → next ≡ found ++ d ∷ []
    → read d ≡ described x → map read found ≡ map described (take i items) → map read next ≡ map described (take (i + 1) items)
mapped_turn read described items i x y found next d l e new is before =
    ap (map read) new ∙ map-append read found (d ∷ []) ∙ ap (λ (b : _). map read found ++ b ∷ []) (is ∙ ap described e) ∙ ap (λ (bs : List _). bs ++ described (get_or items i y) ∷ []) before
    ∙ sym (ap (map described) (take_more items i y l) ∙ map-append described (take i items) (get_or items i y ∷ []))

-- the same behind what was made before
pub mapped_behind : {A B D : Type 0} (read : D → B) (described : A → B) (before : List B) (items : List A) (i : ℕ) (x y : A) (found next : List D) (d : D) → i < length items → x ≡ get_or items i y → next ≡ found ++ d ∷ []
    → read d ≡ described x → map read found ≡ before ++ map described (take i items) → map read next ≡ before ++ map described (take (i + 1) items)
mapped_behind read described before items i x y found next d l e new is same =
    pushed_more described before items i x y (map read found) (map read next) l e (ap (map read) new ∙ map-append read found (d ∷ []) ∙ ap (λ (b : _). map read found ++ b ∷ []) is) same

-- the same where what is made is kept as it is
pub pushed_turn : {A D : Type 0} (made : A → D) (items : List A) (i : ℕ) (x : A) (found next : List D) (d : D) → i < length items → next ≡ found ++ d ∷ []
    → d ≡ made (get_or items i x) → found ≡ map made (take i items) → next ≡ map made (take (i + 1) items)
pushed_turn made items i x found next d l new is before =
    new ∙ ap (λ (y : _). found ++ y ∷ []) is ∙ ap (λ (ys : List _). ys ++ made (get_or items i x) ∷ []) before
    ∙ sym (ap (map made) (take_more items i x l) ∙ map-append made (take i items) (get_or items i x ∷ []))

-- ---- messages

abbrev pub messages_then : Messages → Messages → Messages
messages_then NoMessages others = others
messages_then (Message m nested rest) others = Message m nested (messages_then rest others)

pub messages_joined : (scene : Scene) (full : List ℕ) (t u : Tree) → messages_described scene full (joined_trees t u) ≡ messages_then (messages_described scene full t) (messages_described scene full u)
messages_joined scene full End u = refl
messages_joined scene full (Leaf (statement.MapField f) rest) u = ap (λ ms. Message (entry_described scene f) NoMessages ms) (messages_joined scene full rest u)
messages_joined scene full (Leaf s rest) u = messages_joined scene full rest u
messages_joined scene full (Block (header.Message h) i within j rest) u =
    ap (λ ms. Message (message_described scene (below full (text scene h.name)) h.name within) (messages_described scene (below full (text scene h.name)) within) ms) (messages_joined scene full rest u)
messages_joined scene full (Block whole i within j rest) u = messages_joined scene full rest u

pub and_then_assoc : (a b c : Messages) → messages_then (messages_then a b) c ≡ messages_then a (messages_then b c)
and_then_assoc NoMessages b c = refl
and_then_assoc (Message m nested rest) b c = ap (λ ms. Message m nested ms) (and_then_assoc rest b c)

pub and_then_none : (ms : Messages) → messages_then ms NoMessages ≡ ms
and_then_none NoMessages = refl
and_then_none (Message m nested rest) = ap (λ ms. Message m nested ms) (and_then_none rest)

pub desc_append : (a b : List MessageDescriptor) → messages_desc (a ++ b) ≡ messages_then (messages_desc a) (messages_desc b)
desc_append [] b = refl
desc_append (d ∷ a) b = ap (λ ms. Message (descriptor_tree d).message (descriptor_tree d).nested_type ms) (desc_append a b)

-- the next item gives one descriptor or none
pub described_more : {A : Type 0} (view : A → Tree) (scene : Scene) (full : List ℕ) (items : List A) (i : ℕ) (x : A) (ds : List MessageDescriptor) (o : Option MessageDescriptor) (whole : Messages)
    → i < length items → x ≡ get_or items i x → messages_desc (option_to_list o) ≡ messages_described scene full (view x)
    → messages_then (messages_desc ds) (messages_described scene full (trees view (drop i items))) ≡ whole
    → messages_then (messages_desc (ds ++ option_to_list o)) (messages_described scene full (trees view (drop (i + 1) items))) ≡ whole
described_more view scene full items i x ds o whole l e m before =
    let next = trees view (drop (i + 1) items) in
    ap (λ ms. messages_then ms (messages_described scene full next)) (desc_append ds (option_to_list o) ∙ ap (messages_then (messages_desc ds)) m)
    ∙ and_then_assoc (messages_desc ds) (messages_described scene full (view x)) (messages_described scene full next)
    ∙ ap (messages_then (messages_desc ds)) (sym (messages_joined scene full (view x) next) ∙ ap (λ y. messages_described scene full (joined_trees (view y) next)) e ∙ sym (at_drop_more (λ xs. messages_described scene full (trees view xs)) items i x l))
    ∙ before

-- there is no next item
pub described_all : {A : Type 0} (view : A → Tree) (scene : Scene) (full : List ℕ) (items : List A) (i : ℕ) (ds : List MessageDescriptor) (whole : Messages)
    → length items ≤ i → messages_then (messages_desc ds) (messages_described scene full (trees view (drop i items))) ≡ whole → messages_desc ds ≡ whole
described_all view scene full items i ds whole l before =
    sym (and_then_none (messages_desc ds)) ∙ ap (messages_then (messages_desc ds)) (sym (at_drop_all (λ xs. messages_described scene full (trees view xs)) items i l)) ∙ before

-- a message's own part and those nested in it
pub level_of : (m : MessageDescriptor-F MessageDescriptor) → descriptor_tree (roll-MessageDescriptor m) ≡ record { message = message_desc m; nested_type = messages_desc m.nested_type.items }
level_of m = fold-roll-MessageDescriptor MessageTree message_step m

pub same_parts : (a b : MessageDesc) → a.name ≡ b.name → a.field ≡ b.field → a.extension ≡ b.extension → a.enum_type ≡ b.enum_type → a.extension_range ≡ b.extension_range → a.oneof_decl ≡ b.oneof_decl → a.reserved_range ≡ b.reserved_range → a.reserved_name ≡ b.reserved_name → a.options ≡ b.options → a ≡ b
same_parts a b n f d e x o r w s = λ i. record {
  name = n i;
  field = f i;
  extension = d i;
  enum_type = e i;
  extension_range = x i;
  oneof_decl = o i;
  reserved_range = r i;
  reserved_name = w i;
  options = s i;
}
