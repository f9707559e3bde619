-- A tree into which an import is put is, without its imports, the old one, moved.
use Rattle.std.proofs.Common.{◌≡◌, refl, ap}
use Rattle.proto_tree.specs.declared.context.Context.{Context}
use Rattle.proto_tree.specs.declared.context.Context.TheVariants as context
use Rattle.proto_tree.specs.declared.piece.Statement.{Statement}
use Rattle.proto_tree.specs.declared.piece.Statement.TheVariants as statement
use Rattle.proto_tree.specs.declared.tree.Import.{Import}
use Rattle.proto_tree.proofs.Common.{Move, move_header, move_statement, move_tree, Tree, End, Leaf, Block, statement_kind, header_kind, after, inside, inside_inner}
use Rattle.proto_desc_checks_laws.specs.Imports.{without_imports}
use Rattle.proto_edit_statement_laws.proofs.Common.{IsExchanged, Here, Later, Inside, Behind, none_inside}

-- ---- without imports

module _ (g : Move) where
  leaf_apart : (s : Statement) (x y : Tree) → without_imports y ≡ move_tree g (without_imports x) → without_imports (Leaf (move_statement g s) y) ≡ move_tree g (without_imports (Leaf s x))
  leaf_apart (statement.Import i) x y e = e
  leaf_apart s x y e = ap (λ (z : Tree). Leaf (move_statement g s) z) e

  tree_apart : (t : Tree) → without_imports (move_tree g t) ≡ move_tree g (without_imports t)
  tree_apart End = refl
  tree_apart (Leaf s rest) = leaf_apart s rest (move_tree g rest) (tree_apart rest)
  tree_apart (Block h i within j rest) = ap (λ (z : Tree). Block (move_header g h) (g i) (move_tree g within) (g j) z) (tree_apart rest)

  apart_from : (i : Import) (c : Context) (t u : Tree) → IsExchanged g End (Leaf (statement.Import i) End) c t u → without_imports u ≡ move_tree g (without_imports t)
  apart_from i _ t u (Here c rest fine on) = tree_apart rest
  apart_from i _ t u (Later c s x y r) = leaf_apart s x y (apart_from i (after c (statement_kind s)) x y r)
  apart_from i _ t u (Inside c k n x y j rest r) = absurd (none_inside g i (inside k) x y (inside_inner k) r)
  apart_from i _ t u (Behind c k n within j x y r) = ap (λ (z : Tree). Block (move_header g k) (g n) (move_tree g within) (g j) z) (apart_from i (after c (header_kind k)) x y r)

pub imports_are_apart : (g : Move) (i : Import) (t u : Tree) → IsExchanged g End (Leaf (statement.Import i) End) context.Start t u → without_imports u ≡ move_tree g (without_imports t)
imports_are_apart g i t u r = apart_from g i context.Start t u r
