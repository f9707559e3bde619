-- What a tree declares, uses and imports where its tokens are moved (for the crates above).
use Rattle.std.proofs.Common.{◌≡◌, ℕ, List, [], ◌∷◌, ◌++◌, map, flat_map, Option, Some, None, is_some, refl, sym, ◌∙◌, ap, ap₂}
use Rattle.proto_tree.specs.declared.piece.Header.{Header}
use Rattle.proto_tree.specs.declared.piece.Header.TheVariants as header
use Rattle.proto_tree.specs.declared.piece.Statement.{Statement}
use Rattle.proto_tree.specs.declared.piece.Statement.TheVariants as statement
use Rattle.proto_tree.specs.declared.tree.Behind.{Behind}
use Rattle.proto_tree.specs.declared.tree.FieldType.{FieldType}
use Rattle.proto_tree.specs.declared.tree.FieldType.TheVariants as field_type
use Rattle.proto_tree.specs.declared.tree.Reference.{Reference}
use Rattle.proto_tree.specs.declared.tree.Separated.{Separated}
use Rattle.proto_tree.specs.declared.tree.Setting.{Setting}
use Rattle.proto_tree.specs.declared.tree.Setting.TheVariants as setting
use Rattle.proto_tree.specs.declared.tree.Settings.{Settings}
use Rattle.proto_tree.specs.declared.tree.Signature.{Signature}
use Rattle.proto_tree.proofs.Common.{Move, move_behind, move_header, move_option, move_reference, move_separated, move_setting, move_settings, move_signature, move_statement, move_tree, move_type, dotted, first_of, Tree, End, Leaf, Block}
use Rattle.proto_names_rules.specs.declared.kind.Kind.{Kind}
use Rattle.proto_names_rules.specs.declared.kind.Kind.TheVariants as kind
use Rattle.proto_names_rules.specs.declared.wants.Wants.{Wants}
use Rattle.proto_names_rules.specs.declared.wants.Wants.TheVariants as wants
use Rattle.proto_names_rules.proofs.Common.{Source, Token, EntryOf, Given, Used, shifted_source, shifted_used, Items, Members, Placed, all_placed, beside, extend, items_placed, key_word, map_field, package_of, packaged, place, placed, prefixes, value_word, map_append, map_map}
use Rattle.proto_names_outline.proofs.Common.{add_statement, block_names, block_uses, field_names, file_block, flat_uses, header_uses, item_uses, items_in, member_uses, members_in, method_names, no_names, option_uses, picked, scope_in, setting_uses, settings_uses, signature_uses, statement_uses, type_uses, used_as, value_names, dotted_moved, imports_moved, package_moved}
use Rattle.proto_edit_rename_laws.specs.Imports.{without_imports}
use Rattle.proto_edit_statement_laws.specs.Trees.{ImportsMoveNames, MovesNames, TreesMoveImports, TreesMoveNames, move_placed}

-- the references in a block of a file or of a message
abbrev pub inner_uses : List (Source ℕ) → Header → Tree → List (Used ℕ)
inner_uses scope h within = block_uses scope h (member_uses scope (scope_in scope h) within) within

module _ (g : Move) where
  abbrev pub path_of : List (Source ℕ) → List (Source ℕ)
  path_of path = map (shifted_source g) path

  pub path_more : (path : List (Source ℕ)) (s : Source ℕ) → path_of (path ++ s ∷ []) ≡ path_of path ++ shifted_source g s ∷ []
  path_more path s = map_append (shifted_source g) path (s ∷ [])

  -- ---- names that are picked

  pub field_names_moved : (s : Statement) → field_names (move_statement g s) ≡ map g (field_names s)
  field_names_moved (statement.Field f) = refl
  field_names_moved _ = refl

  pub value_names_moved : (s : Statement) → value_names (move_statement g s) ≡ map g (value_names s)
  value_names_moved (statement.Value f) = refl
  value_names_moved _ = refl

  pub method_names_moved : (s : Statement) → method_names (move_statement g s) ≡ map g (method_names s)
  method_names_moved (statement.Method f i) = refl
  method_names_moved _ = refl

  pub no_names_moved : (h : Header) → no_names (move_header g h) ≡ map g (no_names h)
  no_names_moved h = refl

  pub block_names_moved : (h : Header) → block_names (move_header g h) ≡ map g (block_names h)
  block_names_moved (header.Method s) = refl
  block_names_moved _ = refl

  pub picked_moved : (of_leaf : Statement → List ℕ) (of_block : Header → List ℕ) → ((s : Statement) → of_leaf (move_statement g s) ≡ map g (of_leaf s)) → ((h : Header) → of_block (move_header g h) ≡ map g (of_block h)) → (x : Tree) → picked of_leaf of_block (move_tree g x) ≡ map g (picked of_leaf of_block x)
  picked_moved f b e h End = refl
  picked_moved f b e h (Leaf s rest) = ap₂ (λ y z. y ++ z) (e s) (picked_moved f b e h rest) ∙ sym (map_append g (f s) (picked f b rest))
  picked_moved f b e h (Block k i within j rest) = ap₂ (λ y z. y ++ z) (h k) (picked_moved f b e h rest) ∙ sym (map_append g (b k) (picked f b rest))

  pub fields_picked : (x : Tree) → picked field_names no_names (move_tree g x) ≡ map g (picked field_names no_names x)
  fields_picked = picked_moved field_names no_names field_names_moved no_names_moved

  pub values_picked : (x : Tree) → picked value_names no_names (move_tree g x) ≡ map g (picked value_names no_names x)
  values_picked = picked_moved value_names no_names value_names_moved no_names_moved

  pub methods_picked : (x : Tree) → picked method_names block_names (move_tree g x) ≡ map g (picked method_names block_names x)
  methods_picked = picked_moved method_names block_names method_names_moved block_names_moved

  -- ---- placed

  placed_each : (path : List (Source ℕ)) (inner : Kind) (ts : List ℕ) → map (λ i. place (path_of path) (Token i) inner) (map g ts) ≡ map (move_placed g) (map (λ i. place path (Token i) inner) ts)
  placed_each path inner [] = refl
  placed_each path inner (t ∷ ts) = ap (λ (z : List Placed). place (path_of path) (Token (g t)) inner ∷ z) (placed_each path inner ts)

  pub beside_moved : (path : List (Source ℕ)) (t : ℕ) (outer inner : Kind) (ts us : List ℕ) → us ≡ map g ts → beside (path_of path) (g t) outer inner us ≡ map (move_placed g) (beside path t outer inner ts)
  beside_moved path t outer inner ts us e = ap (λ (z : List Placed). place (path_of path) (Token (g t)) outer ∷ z) (ap (map (λ i. place (path_of path) (Token i) inner)) e ∙ placed_each path inner ts)

  pub extensions_moved : (path : List (Source ℕ)) (x : Tree) → placed (path_of path) (extend (picked field_names no_names (move_tree g x))) ≡ map (move_placed g) (placed path (extend (picked field_names no_names x)))
  extensions_moved path x = ap (map (λ i. place (path_of path) (Token i) kind.Extension)) (fields_picked x) ∙ placed_each path kind.Extension (picked field_names no_names x)

  entry_moved : (path : List (Source ℕ)) (t : ℕ) → placed (path_of path) (map_field (g t)) ≡ map (move_placed g) (placed path (map_field t))
  entry_moved path t = ap (λ (p : List (Source ℕ)). place (path_of path) (Token (g t)) kind.Field ∷ place (path_of path) (EntryOf (g t)) kind.Entry ∷ place p (Given key_word) kind.EntryField ∷ place p (Given value_word) kind.EntryField ∷ []) (sym (path_more path (EntryOf t)))

  pub statement_placed : (path : List (Source ℕ)) (s : Statement) (ms ns : Members) → all_placed (path_of path) ns ≡ map (move_placed g) (all_placed path ms) → all_placed (path_of path) (add_statement (move_statement g s) ns) ≡ map (move_placed g) (all_placed path (add_statement s ms))
  statement_placed path (statement.Field f) ms ns e = ap (λ (z : List Placed). place (path_of path) (Token (g f.name)) kind.Field ∷ z) e
  statement_placed path (statement.MapField f) ms ns e = ap₂ (λ (y z : List Placed). y ++ z) (entry_moved path f.name) e ∙ sym (map_append (move_placed g) (placed path (map_field f.name)) (all_placed path ms))
  statement_placed path _ ms ns e = e

  pub members_moved : (path : List (Source ℕ)) (x : Tree) → all_placed (path_of path) (members_in (move_tree g x)) ≡ map (move_placed g) (all_placed path (members_in x))
  members_moved path End = refl
  members_moved path (Leaf s rest) = statement_placed path s (members_in rest) (members_in (move_tree g rest)) (members_moved path rest)
  members_moved path (Block (header.Message h) i within j rest) =
      ap₂ (λ (y z : List Placed). (place (path_of path) (Token (g h.name)) kind.Message ∷ y) ++ z)
      (ap (λ p. all_placed p (members_in (move_tree g within))) (sym (path_more path (Token h.name))) ∙ members_moved (path ++ Token h.name ∷ []) within) (members_moved path rest)
      ∙ sym (map_append (move_placed g) (place path (Token h.name) kind.Message ∷ all_placed (path ++ Token h.name ∷ []) (members_in within)) (all_placed path (members_in rest)))
  members_moved path (Block (header.Oneof h) i within j rest) =
      ap₂ (λ (y z : List Placed). y ++ z) (beside_moved path h.name kind.Oneof kind.Field (picked field_names no_names within) _ (fields_picked within)) (members_moved path rest)
      ∙ sym (map_append (move_placed g) (beside path h.name kind.Oneof kind.Field (picked field_names no_names within)) (all_placed path (members_in rest)))
  members_moved path (Block (header.Enum h) i within j rest) =
      ap₂ (λ (y z : List Placed). y ++ z) (beside_moved path h.name kind.Enum kind.Value (picked value_names no_names within) _ (values_picked within)) (members_moved path rest)
      ∙ sym (map_append (move_placed g) (beside path h.name kind.Enum kind.Value (picked value_names no_names within)) (all_placed path (members_in rest)))
  members_moved path (Block (header.Extend e) i within j rest) =
      ap₂ (λ (y z : List Placed). y ++ z) (extensions_moved path within) (members_moved path rest)
      ∙ sym (map_append (move_placed g) (placed path (extend (picked field_names no_names within))) (all_placed path (members_in rest)))
  members_moved path (Block whole i within j rest) = members_moved path rest

  -- ---- uses

  some_moved : (o : Option ℕ) → is_some (move_option g o) ≡ is_some o
  some_moved None = refl
  some_moved (Some i) = refl

  first_moved : (o : Option ℕ) (w : Separated ℕ) → first_of (move_option g o) (move_separated g g w) ≡ g (first_of o w)
  first_moved None w = refl
  first_moved (Some i) w = refl

  used_moved : (scope : List (Source ℕ)) (what : Wants) (r : Reference) → used_as (path_of scope) what (move_reference g r) ≡ shifted_used g (used_as scope what r)
  used_moved scope what r = λ i. record {
    file = 0;
    scope = path_of scope;
    is_absolute = some_moved r.dot i;
    wants = what;
    first = first_moved r.dot r.words i;
    tokens = dotted_moved g r.words i;
  }

  type_moved : (scope : List (Source ℕ)) (t : FieldType) → type_uses (path_of scope) (move_type g t) ≡ map (shifted_used g) (type_uses scope t)
  type_moved scope (field_type.Scalar t) = refl
  type_moved scope (field_type.Reference r) = ap (λ (z : Used ℕ). z ∷ []) (used_moved scope wants.Type r)

  signature_moved : (scope : List (Source ℕ)) (s : Signature) → signature_uses (path_of scope) (move_signature g s) ≡ map (shifted_used g) (signature_uses scope s)
  signature_moved scope s = ap₂ (λ (y z : Used ℕ). y ∷ z ∷ []) (used_moved scope wants.Message s.input.reference) (used_moved scope wants.Message s.output.reference)

  pub both_moved : (a b c d : List (Used ℕ)) → c ≡ map (shifted_used g) a → d ≡ map (shifted_used g) b → c ++ d ≡ map (shifted_used g) (a ++ b)
  both_moved a b c d e f = ap₂ (λ (y z : List (Used ℕ)). y ++ z) e f ∙ sym (map_append (shifted_used g) a b)

  setting_moved : (scope : List (Source ℕ)) (s : Setting) → setting_uses (path_of scope) (move_setting g s) ≡ map (shifted_used g) (setting_uses scope s)
  setting_moved scope (setting.Plain p) = refl
  setting_moved scope (setting.Custom c) = ap (λ (z : Used ℕ). z ∷ []) (used_moved scope wants.Extension c.name)

  behind_moved : (scope : List (Source ℕ)) (bs : List (Behind Setting)) → flat_map (λ b. setting_uses (path_of scope) b.item) (map (move_behind g (move_setting g)) bs) ≡ map (shifted_used g) (flat_map (λ b. setting_uses scope b.item) bs)
  behind_moved scope [] = refl
  behind_moved scope (b ∷ bs) = both_moved (setting_uses scope b.item) (flat_map (λ b. setting_uses scope b.item) bs) _ _ (setting_moved scope b.item) (behind_moved scope bs)

  settings_moved : (scope : List (Source ℕ)) (o : Option Settings) → settings_uses (path_of scope) (move_option (move_settings g) o) ≡ map (shifted_used g) (settings_uses scope o)
  settings_moved scope None = refl
  settings_moved scope (Some s) = both_moved (setting_uses scope s.list.first) (flat_map (λ b. setting_uses scope b.item) s.list.rest) _ _ (setting_moved scope s.list.first) (behind_moved scope s.list.rest)

  pub option_moved : (scope : List (Source ℕ)) (s : Statement) → option_uses (path_of scope) (move_statement g s) ≡ map (shifted_used g) (option_uses scope s)
  option_moved scope (statement.Option o) = setting_moved scope o.setting
  option_moved scope _ = refl

  pub statement_moved : (around scope : List (Source ℕ)) (s : Statement) → statement_uses (path_of around) (path_of scope) (move_statement g s) ≡ map (shifted_used g) (statement_uses around scope s)
  statement_moved around scope (statement.Field f) = both_moved (type_uses scope f.kind) (settings_uses scope f.settings) _ _ (type_moved scope f.kind) (settings_moved scope f.settings)
  statement_moved around scope (statement.MapField f) = both_moved (type_uses scope f.value) (settings_uses scope f.settings) _ _ (type_moved scope f.value) (settings_moved scope f.settings)
  statement_moved around scope (statement.Value v) = settings_moved scope v.settings
  statement_moved around scope (statement.Method s i) = signature_moved scope s
  statement_moved around scope (statement.Option o) = setting_moved around o.setting
  statement_moved around scope _ = refl

  header_moved : (scope : List (Source ℕ)) (h : Header) → header_uses (path_of scope) (move_header g h) ≡ map (shifted_used g) (header_uses scope h)
  header_moved scope (header.Method s) = signature_moved scope s
  header_moved scope (header.Extend e) = ap (λ (z : Used ℕ). z ∷ []) (used_moved scope wants.Message e.extendee)
  header_moved scope _ = refl

  pub flat_uses_moved : (around scope : List (Source ℕ)) (x : Tree) → flat_uses (path_of around) (path_of scope) (move_tree g x) ≡ map (shifted_used g) (flat_uses around scope x)
  flat_uses_moved around scope End = refl
  flat_uses_moved around scope (Leaf s rest) = both_moved (statement_uses around scope s) (flat_uses around scope rest) _ _ (statement_moved around scope s) (flat_uses_moved around scope rest)
  flat_uses_moved around scope (Block h i within j rest) =
      both_moved (header_uses scope h) (flat_uses scope scope within ++ flat_uses around scope rest) _ _ (header_moved scope h)
      (both_moved (flat_uses scope scope within) (flat_uses around scope rest) _ _ (flat_uses_moved scope scope within) (flat_uses_moved around scope rest))

  scope_moved : (scope : List (Source ℕ)) (h : Header) → scope_in (path_of scope) (move_header g h) ≡ path_of (scope_in scope h)
  scope_moved scope (header.Message h) = sym (path_more scope (Token h.name))
  scope_moved scope _ = refl

  block_moved : (scope : List (Source ℕ)) (h : Header) (inner inner' : List (Used ℕ)) (x : Tree) → inner' ≡ map (shifted_used g) inner → block_uses (path_of scope) (move_header g h) inner' (move_tree g x) ≡ map (shifted_used g) (block_uses scope h inner x)
  block_moved scope (header.Message h) inner inner' x e = e
  block_moved scope (header.Oneof h) inner inner' x e = flat_uses_moved scope scope x
  block_moved scope (header.Enum h) inner inner' x e = flat_uses_moved scope scope x
  block_moved scope (header.Service h) inner inner' x e = ap (λ p. flat_uses (path_of scope) p (move_tree g x)) (sym (path_more scope (Token h.name))) ∙ flat_uses_moved scope (scope ++ Token h.name ∷ []) x
  block_moved scope (header.Extend e) inner inner' x same = both_moved (header_uses scope (header.Extend e)) (flat_uses scope scope x) _ _ (header_moved scope (header.Extend e)) (flat_uses_moved scope scope x)
  block_moved scope (header.Method s) inner inner' x e = refl

  -- in a block, where the references in its members are moved
  inner_by : (scope : List (Source ℕ)) (h : Header) (x : Tree) → ((around within : List (Source ℕ)) → member_uses (path_of around) (path_of within) (move_tree g x) ≡ map (shifted_used g) (member_uses around within x))
      → inner_uses (path_of scope) (move_header g h) (move_tree g x) ≡ map (shifted_used g) (inner_uses scope h x)
  inner_by scope h x members =
      block_moved scope h (member_uses scope (scope_in scope h) x) (member_uses (path_of scope) (scope_in (path_of scope) (move_header g h)) (move_tree g x)) x
      (ap (λ p. member_uses (path_of scope) p (move_tree g x)) (scope_moved scope h) ∙ members scope (scope_in scope h))

  pub member_uses_moved : (around scope : List (Source ℕ)) (x : Tree) → member_uses (path_of around) (path_of scope) (move_tree g x) ≡ map (shifted_used g) (member_uses around scope x)
  member_uses_moved around scope End = refl
  member_uses_moved around scope (Leaf s rest) = both_moved (statement_uses around scope s) (member_uses around scope rest) _ _ (statement_moved around scope s) (member_uses_moved around scope rest)
  member_uses_moved around scope (Block (header.Service h) i within j rest) = member_uses_moved around scope rest
  member_uses_moved around scope (Block h i within j rest) = both_moved (inner_uses scope h within) (member_uses around scope rest) _ _ (inner_by scope h within (λ a b. member_uses_moved a b within)) (member_uses_moved around scope rest)

  pub inner_moved : (scope : List (Source ℕ)) (h : Header) (x : Tree) → inner_uses (path_of scope) (move_header g h) (move_tree g x) ≡ map (shifted_used g) (inner_uses scope h x)
  inner_moved scope h x = inner_by scope h x (λ a b. member_uses_moved a b x)

  pub item_uses_moved : (scope : List (Source ℕ)) (x : Tree) → item_uses (path_of scope) (move_tree g x) ≡ map (shifted_used g) (item_uses scope x)
  item_uses_moved scope End = refl
  item_uses_moved scope (Leaf s rest) = both_moved (option_uses scope s) (item_uses scope rest) _ _ (option_moved scope s) (item_uses_moved scope rest)
  item_uses_moved scope (Block (header.Oneof h) i within j rest) = item_uses_moved scope rest
  item_uses_moved scope (Block h i within j rest) = both_moved (inner_uses scope h within) (item_uses scope rest) _ _ (inner_moved scope h within) (item_uses_moved scope rest)

  -- ---- the items of a file

  pub prefixes_moved : (path : List (Source ℕ)) (ts : List ℕ) → prefixes (path_of path) (map g ts) ≡ map (move_placed g) (prefixes path ts)
  prefixes_moved path [] = refl
  prefixes_moved path (t ∷ ts) = ap (λ (z : List Placed). place (path_of path) (Token (g t)) kind.Package ∷ z) (ap (λ p. prefixes p (map g ts)) (sym (path_more path (Token t))) ∙ prefixes_moved (path ++ Token t ∷ []) ts)

  -- ---- what the items of a file place

  both_placed : (a b c e : List Placed) → c ≡ map (move_placed g) a → e ≡ map (move_placed g) b → c ++ e ≡ map (move_placed g) (a ++ b)
  both_placed a b c e p q = ap₂ (λ (y z : List Placed). y ++ z) p q ∙ sym (map_append (move_placed g) a b)

  pub methods_placed : (path : List (Source ℕ)) (h : ℕ) (ts us : List ℕ) → us ≡ map g ts → map (λ i. place (path_of path ++ Token (g h) ∷ []) (Token i) kind.Method) us ≡ map (move_placed g) (map (λ i. place (path ++ Token h ∷ []) (Token i) kind.Method) ts)
  methods_placed path h ts us e = ap (map (λ i. place (path_of path ++ Token (g h) ∷ []) (Token i) kind.Method)) e ∙ go ts
    where
      go : (is : List ℕ) → map (λ i. place (path_of path ++ Token (g h) ∷ []) (Token i) kind.Method) (map g is) ≡ map (move_placed g) (map (λ i. place (path ++ Token h ∷ []) (Token i) kind.Method) is)
      go [] = refl
      go (i ∷ is) = ap₂ (λ (p : List (Source ℕ)) (z : List Placed). place p (Token (g i)) kind.Method ∷ z) (sym (path_more path (Token h))) (go is)

  pub items_moved : (path : List (Source ℕ)) (x : Tree) → items_placed (path_of path) (items_in (move_tree g x)) ≡ map (move_placed g) (items_placed path (items_in x))
  items_moved path End = refl
  items_moved path (Leaf (statement.Package p) rest) = both_placed (prefixes [] (dotted p.name)) (items_placed path (items_in rest)) _ _ (ap (prefixes []) (dotted_moved g p.name) ∙ prefixes_moved [] (dotted p.name)) (items_moved path rest)
  items_moved path (Leaf _ rest) = items_moved path rest
  items_moved path (Block (header.Message h) i within j rest) =
      both_placed (place path (Token h.name) kind.Message ∷ all_placed (path ++ Token h.name ∷ []) (members_in within)) (items_placed path (items_in rest)) _ _
      (ap (λ (z : List Placed). place (path_of path) (Token (g h.name)) kind.Message ∷ z) (ap (λ p. all_placed p (members_in (move_tree g within))) (sym (path_more path (Token h.name))) ∙ members_moved (path ++ Token h.name ∷ []) within)) (items_moved path rest)
  items_moved path (Block (header.Enum h) i within j rest) =
      both_placed (beside path h.name kind.Enum kind.Value (picked value_names no_names within)) (items_placed path (items_in rest)) _ _ (beside_moved path h.name kind.Enum kind.Value (picked value_names no_names within) _ (values_picked within)) (items_moved path rest)
  items_moved path (Block (header.Service h) i within j rest) =
      both_placed (place path (Token h.name) kind.Service ∷ map (λ i. place (path ++ Token h.name ∷ []) (Token i) kind.Method) (picked method_names block_names within)) (items_placed path (items_in rest)) _ _
      (ap (λ (z : List Placed). place (path_of path) (Token (g h.name)) kind.Service ∷ z) (methods_placed path h.name (picked method_names block_names within) _ (methods_picked within))) (items_moved path rest)
  items_moved path (Block (header.Extend e) i within j rest) = both_placed (placed path (extend (picked field_names no_names within))) (items_placed path (items_in rest)) _ _ (extensions_moved path within) (items_moved path rest)
  items_moved path (Block whole i within j rest) = items_moved path rest

-- ---- imports

pub trees_move_imports : TreesMoveImports
trees_move_imports = imports_moved

-- ---- without imports

items_without : (t : Tree) → items_in (without_imports t) ≡ items_in t
items_without End = refl
items_without (Leaf (statement.Package p) rest) = ap (λ (z : Items). packaged (dotted p.name) z) (items_without rest)
items_without (Leaf _ rest) = items_without rest
items_without (Block h i within j rest) = ap (file_block h within) (items_without rest)

uses_without : (scope : List (Source ℕ)) (t : Tree) → item_uses scope (without_imports t) ≡ item_uses scope t
uses_without scope End = refl
uses_without scope (Leaf (statement.Import i) rest) = uses_without scope rest
uses_without scope (Leaf s rest) = ap (λ (z : List (Used ℕ)). option_uses scope s ++ z) (uses_without scope rest)
uses_without scope (Block (header.Oneof h) i within j rest) = uses_without scope rest
uses_without scope (Block h i within j rest) = ap (λ (z : List (Used ℕ)). inner_uses scope h within ++ z) (uses_without scope rest)

tokens_moved : (g : Move) (ts : List ℕ) → map (λ i. Token i) (map g ts) ≡ path_of g (map (λ i. Token i) ts)
tokens_moved g ts = map_map g (λ i. Token i) ts ∙ sym (map_map (λ i. Token i) (shifted_source g) ts)

-- what moved items and uses are, below a moved package
pub moved_names : (g : Move) (s t : Tree) → package_of (items_in t) ≡ map g (package_of (items_in s))
    → ((path : List (Source ℕ)) → items_placed (path_of g path) (items_in t) ≡ map (move_placed g) (items_placed path (items_in s)))
    → ((path : List (Source ℕ)) → item_uses (path_of g path) t ≡ map (shifted_used g) (item_uses path s)) → MovesNames g s t
moved_names g s t same items uses =
    let path : List (Source ℕ) = map (λ i. Token i) (package_of (items_in s)) in
    let here : map (λ i. Token i) (package_of (items_in t)) ≡ path_of g path = ap (map (λ i. Token i)) same ∙ tokens_moved g (package_of (items_in s)) in
    record { placed = ap (λ p. items_placed p (items_in t)) here ∙ items path; used = ap (λ p. item_uses p t) here ∙ uses path }

pub trees_move_names : TreesMoveNames
trees_move_names g t = moved_names g t (move_tree g t) (package_moved g t) (λ path. items_moved g path t) (λ path. item_uses_moved g path t)

pub imports_move_names : ImportsMoveNames
imports_move_names g s t e =
    let items : items_in t ≡ items_in (move_tree g (without_imports s)) = sym (items_without t) ∙ ap items_in e in
    moved_names g s t
    (ap package_of items ∙ package_moved g (without_imports s) ∙ ap (λ (z : Items). map g (package_of z)) (items_without s))
    (λ path. ap (items_placed (path_of g path)) items ∙ items_moved g path (without_imports s) ∙ ap (λ (z : Items). map (move_placed g) (items_placed path z)) (items_without s))
    (λ path. sym (uses_without (path_of g path) t) ∙ ap (item_uses (path_of g path)) e ∙ item_uses_moved g path (without_imports s) ∙ ap (map (shifted_used g)) (uses_without path s))
