-- What is told of trees, one behind another.
use Rattle.std.proofs.Common.{◌≡◌, List, ◌∷◌, ◌++◌, map, flat_map, refl, sym, ap, ◌∙◌, append_assoc}
use Rattle.proto_base.proofs.Common.{flat_map-append, map-append}
use Rattle.proto_tree.specs.declared.piece.Statement.{Statement}
use Rattle.proto_tree.specs.declared.tree.Signature.{Signature}
use Rattle.proto_tree.proofs.Common.{trees, Tree, End, Leaf, Block, joined_trees}
use Rattle.proto_ast.proofs.Common.{statements, statements_joined}
use Rattle.proto_lint_names.specs.Methods.{header_signatures, signatures_in, statement_signatures}

signatures_joined : (t u : Tree) → signatures_in (joined_trees t u) ≡ signatures_in t ++ signatures_in u
signatures_joined End u = refl
signatures_joined (Leaf s rest) u =
    ap (λ (ss : List Signature). statement_signatures s ++ ss) (signatures_joined rest u) ∙ sym (append_assoc (statement_signatures s) (signatures_in rest) (signatures_in u))
signatures_joined (Block h i within j rest) u =
    ap (λ (ss : List Signature). header_signatures h ++ ss) (signatures_joined rest u) ∙ sym (append_assoc (header_signatures h) (signatures_in rest) (signatures_in u))

pub of_signatures : {X C : Type 0} (view : X → Tree) (part : Signature → List C) (x : X) (xs : List X)
    → flat_map part (signatures_in (trees view (x ∷ xs))) ≡ flat_map part (signatures_in (view x)) ++ flat_map part (signatures_in (trees view xs))
of_signatures view part x xs = ap (flat_map part) (signatures_joined (view x) (trees view xs)) ∙ flat_map-append part (signatures_in (view x)) (signatures_in (trees view xs))

pub placed_of_statements : {X B C : Type 0} (view : X → Tree) (place : B → C) (part : Statement → List B) (x : X) (xs : List X)
    → map place (flat_map part (statements (trees view (x ∷ xs)))) ≡ map place (flat_map part (statements (view x))) ++ map place (flat_map part (statements (trees view xs)))
placed_of_statements view place part x xs =
    ap (λ (ss : List Statement). map place (flat_map part ss)) (statements_joined (view x) (trees view xs))
    ∙ ap (map place) (flat_map-append part (statements (view x)) (statements (trees view xs))) ∙ map-append place (flat_map part (statements (view x))) (flat_map part (statements (trees view xs)))
