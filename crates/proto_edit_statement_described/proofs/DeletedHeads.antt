-- The package and the imports of a tree without a field (for the crates above).
use Rattle.std.proofs.Common.{◌≡◌, map}
use Rattle.proto_tree.proofs.Common.{Move, move_tree, Tree}
use Rattle.proto_names_rules.specs.Tree.{package_of}
use Rattle.proto_names_outline.proofs.Common.{imports_in, items_in, move_wanted, block_package, imports_moved, leaf_imports, leaf_package, package_moved}
use Rattle.proto_edit_statement_described.specs.Deletions.{BehindBlock, BehindLeaf, Deeper, InMessage, IsDeletedIn, Reservation, WrittenField}

pub packages_less : (g k : Move) (w : WrittenField) (r : Reservation) (x t u : Tree) → IsDeletedIn g k w r x t u → (package_of (items_in t) ≡ map g (package_of (items_in x))) × (package_of (items_in u) ≡ map k (package_of (items_in x)))
packages_less g k w r _ _ _ (InMessage h i x t u j rest sw) = (package_moved g rest, package_moved k rest)
packages_less g k w r _ _ _ (Deeper h i x t u j rest sw) = (package_moved g rest, package_moved k rest)
packages_less g k w r _ _ _ (BehindLeaf a x t u sw) = let v = packages_less g k w r x t u sw in (leaf_package g a x t v.0, leaf_package k a x u v.1)
packages_less g k w r _ _ _ (BehindBlock h i within j x t u sw) =
    let v = packages_less g k w r x t u sw in
    (block_package g h i within (move_tree g within) j x t v.0, block_package k h i within (move_tree k within) j x u v.1)

pub imports_less : (g k : Move) (w : WrittenField) (r : Reservation) (x t u : Tree) → IsDeletedIn g k w r x t u → (imports_in t ≡ map (move_wanted g) (imports_in x)) × (imports_in u ≡ map (move_wanted k) (imports_in x))
imports_less g k w r _ _ _ (InMessage h i x t u j rest sw) = (imports_moved g rest, imports_moved k rest)
imports_less g k w r _ _ _ (Deeper h i x t u j rest sw) = (imports_moved g rest, imports_moved k rest)
imports_less g k w r _ _ _ (BehindLeaf a x t u sw) = let v = imports_less g k w r x t u sw in (leaf_imports g a x t v.0, leaf_imports k a x u v.1)
imports_less g k w r _ _ _ (BehindBlock h i within j x t u sw) = imports_less g k w r x t u sw
