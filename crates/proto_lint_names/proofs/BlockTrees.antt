-- What is found in the blocks of trees that stand one behind another, and of one block.
use Rattle.std.proofs.Common.{◌≡◌, ℕ, List, [], ◌∷◌, ◌++◌, flat_map, refl, sym, ap, ◌∙◌, append_assoc, append-nil}
use Rattle.std.proofs.lemmas.Grind.{flat_map-append}
use Rattle.proto_tree.specs.declared.piece.Header.{Header}
use Rattle.proto_tree.specs.declared.piece.Header.TheVariants as header
use Rattle.proto_tree.specs.declared.tree.Block.{Block as Braced}
use Rattle.proto_tree.specs.declared.tree.EnumItem.{EnumItem}
use Rattle.proto_tree.specs.declared.tree.EnumItem.TheVariants as enum_item
use Rattle.proto_tree.specs.declared.tree.Extend.{Extend}
use Rattle.proto_tree.specs.declared.tree.OneofItem.{OneofItem}
use Rattle.proto_tree.specs.declared.tree.Member.{Member}
use Rattle.proto_tree.specs.declared.tree.MethodEnd.{MethodEnd}
use Rattle.proto_tree.specs.declared.tree.MethodEnd.TheVariants as method_end
use Rattle.proto_tree.specs.declared.tree.MethodItem.{MethodItem}
use Rattle.proto_tree.specs.declared.tree.MethodItem.TheVariants as method_item
use Rattle.proto_tree.specs.declared.tree.ServiceItem.{ServiceItem}
use Rattle.proto_tree.specs.declared.tree.ServiceItem.TheVariants as service_item
use Rattle.proto_tree.specs.declared.tree.Signature.{Signature}
use Rattle.proto_tree.specs.File.{extend_tree, extension_tree, oneof_item_tree}
use Rattle.proto_tree.proofs.Common.{enum_item_tree, enum_tree, member_tree, message_tree, method_by, method_item_tree, oneof_tree, service_item_tree, service_tree, trees, Tree, End, Leaf, Block, joined_trees}
use Rattle.proto_names_rules.specs.Forest.{under}
use Rattle.proto_lint_names.proofs.Common.{Found, LintFile, reading_of, word_in}
use Rattle.proto_lint_names.specs.RulesCommon.{Walk, Scoped, scoped_blocks, scope_within, block_finds, walk_finds}
use Rattle.proto_lint_names.specs.Methods.{methods_finds}
use Rattle.proto_lint_names.specs.NameRules.{enum_finds, message_finds, oneof_finds, service_finds}
use Rattle.proto_tree.specs.declared.tree.OneofItem.TheVariants as oneof_item

pub blocks_joined : (r : LintFile) (scope : List ℕ) (t u : Tree) → scoped_blocks r scope (joined_trees t u) ≡ scoped_blocks r scope t ++ scoped_blocks r scope u
blocks_joined r scope End u = refl
blocks_joined r scope (Leaf s rest) u = blocks_joined r scope rest u
blocks_joined r scope (Block h i within j rest) u =
    let b : Scoped = record { scope = scope; header = h; within = within } in
    let inner = scoped_blocks r (scope_within r scope h) within in
    ap (λ (bs : List Scoped). b ∷ (inner ++ bs)) (blocks_joined r scope rest u) ∙ ap (λ (bs : List Scoped). b ∷ bs) (sym (append_assoc inner (scoped_blocks r scope rest) (scoped_blocks r scope u)))

module _ (w : Walk) where
  abbrev r : LintFile
  r = reading_of w.reading.now

  abbrev one : Scoped → List Found
  one b = block_finds w.rules.now.chosen r w.messages.now b.scope b.header b.within

  finds_joined : (scope : List ℕ) (t u : Tree) → walk_finds w scope (joined_trees t u) ≡ walk_finds w scope t ++ walk_finds w scope u
  finds_joined scope t u = ap (flat_map one) (blocks_joined r scope t u) ∙ flat_map-append one (scoped_blocks r scope t) (scoped_blocks r scope u)

  -- item by item
  pub finds_of_items : {A : Type 0} (view : A → Tree) (scope : List ℕ) (x : A) (xs : List A) → walk_finds w scope (trees view (x ∷ xs)) ≡ walk_finds w scope (view x) ++ walk_finds w scope (trees view xs)
  finds_of_items view scope x xs = finds_joined scope (view x) (trees view xs)

  -- one block: its own, and those in it
  finds_of_block : (scope : List ℕ) (h : Header) (i : ℕ) (within : Tree) (j : ℕ)
      → walk_finds w scope (Block h i within j End) ≡ block_finds w.rules.now.chosen r w.messages.now scope h within ++ walk_finds w (scope_within r scope h) within
  finds_of_block scope h i within j =
      ap (λ (bs : List Scoped). block_finds w.rules.now.chosen r w.messages.now scope h within ++ flat_map one bs) (append-nil (scoped_blocks r (scope_within r scope h) within))

  -- one with nothing found in it
  finds_of_flat : (scope : List ℕ) (h : Header) (i : ℕ) (within : Tree) (j : ℕ) → walk_finds w (scope_within r scope h) within ≡ []
      → walk_finds w scope (Block h i within j End) ≡ block_finds w.rules.now.chosen r w.messages.now scope h within
  finds_of_flat scope h i within j e =
      let own = block_finds w.rules.now.chosen r w.messages.now scope h within in
      finds_of_block scope h i within j ∙ ap (λ (fs : List Found). own ++ fs) e ∙ append-nil own

  no_finds : {A : Type 0} (view : A → Tree) (scope : List ℕ) → ((x : A) → walk_finds w scope (view x) ≡ []) → (xs : List A) → walk_finds w scope (trees view xs) ≡ []
  no_finds view scope none [] = refl
  no_finds view scope none (x ∷ xs) = finds_joined scope (view x) (trees view xs) ∙ ap (λ (fs : List Found). fs ++ walk_finds w scope (trees view xs)) (none x) ∙ no_finds view scope none xs

  none_in_enum : (scope : List ℕ) (item : EnumItem) → walk_finds w scope (enum_item_tree item) ≡ []
  none_in_enum scope (enum_item.Value v) = refl
  none_in_enum scope (enum_item.Option o) = refl
  none_in_enum scope (enum_item.Reserved x) = refl
  none_in_enum scope (enum_item.Empty i) = refl

  none_in_oneof : (scope : List ℕ) (item : OneofItem) → walk_finds w scope (oneof_item_tree item) ≡ []
  none_in_oneof scope (oneof_item.Field f) = refl
  none_in_oneof scope (oneof_item.Option o) = refl

  none_in_method : (scope : List ℕ) (item : MethodItem) → walk_finds w scope (method_item_tree item) ≡ []
  none_in_method scope (method_item.Option o) = refl
  none_in_method scope (method_item.Empty i) = refl

  none_in_end : (scope : List ℕ) (s : Signature) (end : MethodEnd) → walk_finds w scope (method_by s end) ≡ []
  none_in_end scope s (method_end.Semicolon i) = refl
  none_in_end scope s (method_end.Block i items j) = finds_of_flat scope (header.Method s) i (trees method_item_tree items.items) j (no_finds method_item_tree scope (none_in_method scope) items.items)

  none_in_service : (scope : List ℕ) (item : ServiceItem) → walk_finds w scope (service_item_tree item) ≡ []
  none_in_service scope (service_item.Method m) = none_in_end scope m.signature m.end
  none_in_service scope (service_item.Option o) = refl
  none_in_service scope (service_item.Empty i) = refl

  -- ---- what stands in a message or a file

  pub finds_of_message : (scope : List ℕ) (m : Braced Member) → walk_finds w scope (message_tree m)
      ≡ message_finds w.rules.now.chosen r scope m.name (trees member_tree m.members.items) ++ walk_finds w (under scope (word_in r m.name)) (trees member_tree m.members.items)
  finds_of_message scope m = finds_of_block scope (header.Message (record { keyword = m.keyword; name = m.name })) m.open (trees member_tree m.members.items) m.close

  pub finds_of_oneof : (scope : List ℕ) (o : Braced OneofItem) → walk_finds w scope (oneof_tree o) ≡ oneof_finds w.rules.now.chosen r scope o.name
  finds_of_oneof scope o =
      finds_of_flat scope (header.Oneof (record { keyword = o.keyword; name = o.name })) o.open (trees oneof_item_tree o.members.items) o.close (no_finds oneof_item_tree scope (none_in_oneof scope) o.members.items)

  pub finds_of_extend : (scope : List ℕ) (e : Extend) → walk_finds w scope (extend_tree e) ≡ []
  finds_of_extend scope e =
      finds_of_flat scope (header.Extend (record { keyword = e.keyword; extendee = e.extendee })) e.open (trees extension_tree e.fields.items) e.close (no_finds extension_tree scope (λ x. refl) e.fields.items)

  pub finds_of_enum : (scope : List ℕ) (e : Braced EnumItem) → walk_finds w scope (enum_tree e) ≡ enum_finds w.rules.now.chosen r scope e.name (trees enum_item_tree e.members.items)
  finds_of_enum scope e =
      finds_of_flat scope (header.Enum (record { keyword = e.keyword; name = e.name })) e.open (trees enum_item_tree e.members.items) e.close (no_finds enum_item_tree scope (none_in_enum scope) e.members.items)

  pub finds_of_service : (scope : List ℕ) (s : Braced ServiceItem) → walk_finds w scope (service_tree s)
      ≡ service_finds w.rules.now.chosen r scope s.name ++ methods_finds w.rules.now.chosen r w.messages.now scope s.name (trees service_item_tree s.members.items)
  finds_of_service scope s =
      let inner = under scope (word_in r s.name) in
      finds_of_flat scope (header.Service (record { keyword = s.keyword; name = s.name })) s.open (trees service_item_tree s.members.items) s.close (no_finds service_item_tree inner (none_in_service inner) s.members.items)
