-- The blocks of trees that stand one behind another.
use Rattle.std.proofs.Common.{◌≡◌, ℕ, List, [], ◌∷◌, ◌++◌, flat_map, refl, ap, ◌∙◌, append-nil}
use Rattle.proto_base.proofs.Common.{flat_map-append}
use Rattle.proto_tree.specs.declared.tree.Extension.{Extension}
use Rattle.proto_tree.specs.declared.tree.OneofItem.{OneofItem}
use Rattle.proto_tree.specs.declared.tree.EnumItem.{EnumItem}
use Rattle.proto_tree.specs.declared.tree.MethodItem.{MethodItem}
use Rattle.proto_tree.specs.declared.piece.Header.{Header}
use Rattle.proto_tree.specs.File.{extension_tree}
use Rattle.proto_tree.proofs.Common.{Tree, End, Block, joined_trees, trees, oneof_item_tree, enum_item_tree, method_item_tree}
use Rattle.proto_ast.proofs.Common.{BlockOf, blocks_in, Scene, no_block_in_enum, no_block_in_method, no_blocks, blocks_joined, no_block_in_oneof}
use Rattle.proto_desc_numbers.specs.declared.flaw.Flaw.{Flaw}
use Rattle.proto_desc_checks.specs.FileFlaws.{block_flaws, flaws_in_blocks}

flaws_joined : (scene : Scene) (t u : Tree) → flaws_in_blocks scene (joined_trees t u) ≡ flaws_in_blocks scene t ++ flaws_in_blocks scene u
flaws_joined scene t u =
    ap (flat_map (λ b. block_flaws scene b.header b.within)) (blocks_joined t u) ∙ flat_map-append (λ b. block_flaws scene b.header b.within) (blocks_in t) (blocks_in u)

-- item by item
pub flaws_of_trees : {A : Type 0} (view : A → Tree) (scene : Scene) (xs : List A) → flaws_in_blocks scene (trees view xs) ≡ flat_map (λ x. flaws_in_blocks scene (view x)) xs
flaws_of_trees view scene [] = refl
flaws_of_trees view scene (x ∷ xs) =
    flaws_joined scene (view x) (trees view xs) ∙ ap (λ (fs : List Flaw). flaws_in_blocks scene (view x) ++ fs) (flaws_of_trees view scene xs)

-- one block: its own, and those in it
pub flaws_of_block : (scene : Scene) (h : Header) (i : ℕ) (within : Tree) (j : ℕ) → flaws_in_blocks scene (Block h i within j End) ≡ block_flaws scene h within ++ flaws_in_blocks scene within
flaws_of_block scene h i within j =
    ap (λ (bs : List BlockOf). block_flaws scene h within ++ flat_map (λ b. block_flaws scene b.header b.within) bs) (append-nil (blocks_in within))

-- a block with no other in it
flaws_of_flat : (scene : Scene) (h : Header) (i : ℕ) (within : Tree) (j : ℕ) → blocks_in within ≡ [] → flaws_in_blocks scene (Block h i within j End) ≡ block_flaws scene h within
flaws_of_flat scene h i within j e =
    flaws_of_block scene h i within j
    ∙ ap (λ (bs : List BlockOf). block_flaws scene h within ++ flat_map (λ b. block_flaws scene b.header b.within) bs) e
    ∙ append-nil (block_flaws scene h within)

pub flaws_of_enum : (scene : Scene) (h : Header) (i : ℕ) (items : List EnumItem) (j : ℕ) → flaws_in_blocks scene (Block h i (trees enum_item_tree items) j End) ≡ block_flaws scene h (trees enum_item_tree items)
flaws_of_enum scene h i items j = flaws_of_flat scene h i (trees enum_item_tree items) j (no_blocks enum_item_tree no_block_in_enum items)

pub flaws_of_method : (scene : Scene) (h : Header) (i : ℕ) (items : List MethodItem) (j : ℕ) → flaws_in_blocks scene (Block h i (trees method_item_tree items) j End) ≡ block_flaws scene h (trees method_item_tree items)
flaws_of_method scene h i items j = flaws_of_flat scene h i (trees method_item_tree items) j (no_blocks method_item_tree no_block_in_method items)

pub flaws_of_oneof : (scene : Scene) (h : Header) (i : ℕ) (items : List OneofItem) (j : ℕ) → flaws_in_blocks scene (Block h i (trees oneof_item_tree items) j End) ≡ block_flaws scene h (trees oneof_item_tree items)
flaws_of_oneof scene h i items j = flaws_of_flat scene h i (trees oneof_item_tree items) j (no_blocks oneof_item_tree no_block_in_oneof items)

pub flaws_of_extend : (scene : Scene) (h : Header) (i : ℕ) (extensions : List Extension) (j : ℕ) → flaws_in_blocks scene (Block h i (trees extension_tree extensions) j End) ≡ block_flaws scene h (trees extension_tree extensions)
flaws_of_extend scene h i extensions j = flaws_of_flat scene h i (trees extension_tree extensions) j (no_blocks extension_tree (λ x. refl) extensions)
