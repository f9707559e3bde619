-- The blocks of items that stand one behind another, and those of them whose header is wanted (for the crates above).
use Rattle.std.proofs.Common.{◌≡◌, ℕ, ◌+◌, ◌<◌, Bool, false, cond, List, [], ◌∷◌, ◌++◌, length, get_or, drop, refl, ap, ◌∙◌, filter, append-nil}
use Rattle.proto_base.proofs.Common.{filter-append, listed_turn}
use Rattle.proto_tree.specs.declared.piece.Header.{Header}
use Rattle.proto_tree.specs.declared.piece.Header.TheVariants as header
use Rattle.proto_tree.specs.declared.tree.EnumItem.{EnumItem}
use Rattle.proto_tree.specs.declared.tree.EnumItem.TheVariants as enum_item
use Rattle.proto_tree.specs.declared.tree.MethodEnd.{MethodEnd}
use Rattle.proto_tree.specs.declared.tree.MethodEnd.TheVariants as method_end
use Rattle.proto_tree.specs.declared.tree.MethodItem.{MethodItem}
use Rattle.proto_tree.specs.declared.tree.MethodItem.TheVariants as method_item
use Rattle.proto_tree.specs.declared.tree.OneofItem.{OneofItem}
use Rattle.proto_tree.specs.declared.tree.OneofItem.TheVariants as oneof_item
use Rattle.proto_tree.specs.declared.tree.ServiceItem.{ServiceItem}
use Rattle.proto_tree.specs.declared.tree.ServiceItem.TheVariants as service_item
use Rattle.proto_tree.specs.declared.tree.Signature.{Signature}
use Rattle.proto_tree.proofs.Common.{enum_item_tree, method_by, method_item_tree, service_item_tree, trees, Tree, joined_trees, oneof_item_tree}
use Rattle.proto_ast.specs.Parts.{BlockOf, blocks_in}
use Rattle.proto_ast.proofs.JoinedTrees.{blocks_joined}

-- items with no block in them
pub no_blocks : {A : Type 0} (view : A → Tree) → ((x : A) → blocks_in (view x) ≡ []) → (xs : List A) → blocks_in (trees view xs) ≡ []
no_blocks view none [] = refl
no_blocks view none (x ∷ xs) = blocks_joined (view x) (trees view xs) ∙ ap (λ (bs : List BlockOf). bs ++ blocks_in (trees view xs)) (none x) ∙ no_blocks view none xs

pub no_block_in_enum : (item : EnumItem) → blocks_in (enum_item_tree item) ≡ []
no_block_in_enum (enum_item.Value v) = refl
no_block_in_enum _ = refl

pub no_block_in_method : (item : MethodItem) → blocks_in (method_item_tree item) ≡ []
no_block_in_method (method_item.Option o) = refl
no_block_in_method _ = refl

pub no_block_in_oneof : (item : OneofItem) → blocks_in (oneof_item_tree item) ≡ []
no_block_in_oneof (oneof_item.Field f) = refl
no_block_in_oneof (oneof_item.Option o) = refl

-- the blocks whose header is wanted
module _ (wanted : Header → Bool) where
  abbrev wanted_in : Tree → List BlockOf
  wanted_in tree = filter (λ b. wanted b.header) (blocks_in tree)

  wanted_joined : (t u : Tree) → wanted_in (joined_trees t u) ≡ wanted_in t ++ wanted_in u
  wanted_joined t u = ap (filter (λ b. wanted b.header)) (blocks_joined t u) ∙ filter-append (λ b. wanted b.header) (blocks_in t) (blocks_in u)

  -- those of one element more
  pub wanted_turn : {X : Type 0} (tree : X → Tree) (xs : List X) (i : ℕ) (x : X) (found next whole : List BlockOf) → i < length xs → x ≡ get_or xs i x
      → next ≡ found ++ wanted_in (tree x) → found ++ wanted_in (trees tree (drop i xs)) ≡ whole
      → next ++ wanted_in (trees tree (drop (i + 1) xs)) ≡ whole
  wanted_turn tree xs i x found next whole lt is new before =
      listed_turn (λ ys. wanted_in (trees tree ys)) (λ y. wanted_in (tree y)) (λ y ys. wanted_joined (tree y) (trees tree ys)) xs i x x found next whole lt is new before

  -- what stands between braces, with nothing behind them
  pub wanted_within : (t : Tree) → filter (λ b. wanted b.header) (blocks_in t ++ []) ≡ wanted_in t
  wanted_within t = ap (filter (λ b. wanted b.header)) (append-nil (blocks_in t))

  pub none_within : {A : Type 0} (view : A → Tree) → ((x : A) → blocks_in (view x) ≡ []) → (xs : List A) → filter (λ b. wanted b.header) (blocks_in (trees view xs) ++ []) ≡ []
  none_within view none xs = ap (λ (bs : List BlockOf). filter (λ b. wanted b.header) (bs ++ [])) (no_blocks view none xs)

  -- where no method is wanted, no block of a service is
  pub no_method_within : ((s : Signature) → wanted (header.Method s) ≡ false) → (xs : List ServiceItem) → filter (λ b. wanted b.header) (blocks_in (trees service_item_tree xs) ++ []) ≡ []
  no_method_within none items = wanted_within (trees service_item_tree items) ∙ in_items items
    where
      in_method : (s : Signature) (e : MethodEnd) → wanted_in (method_by s e) ≡ []
      in_method s (method_end.Semicolon i) = refl
      in_method s (method_end.Block i within j) =
          let method : BlockOf = record { header = header.Method s; within = trees method_item_tree within.items } in
          let inner : List BlockOf = filter (λ b. wanted b.header) (blocks_in (trees method_item_tree within.items) ++ []) in
          ap (λ (b : Bool). cond b (method ∷ inner) inner) (none s) ∙ none_within method_item_tree no_block_in_method within.items

      in_item : (x : ServiceItem) → wanted_in (service_item_tree x) ≡ []
      in_item (service_item.Method m) = in_method m.signature m.end
      in_item _ = refl

      in_items : (xs : List ServiceItem) → wanted_in (trees service_item_tree xs) ≡ []
      in_items [] = refl
      in_items (x ∷ xs) = wanted_joined (service_item_tree x) (trees service_item_tree xs) ∙ ap (λ (bs : List BlockOf). bs ++ wanted_in (trees service_item_tree xs)) (in_item x) ∙ in_items xs
