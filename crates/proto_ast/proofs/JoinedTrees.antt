-- The statements and the blocks of trees that stand one behind another (for the crates above).
use Rattle.std.proofs.Common.{◌≡◌, List, ◌∷◌, ◌++◌, refl, sym, ap, ◌∙◌, append_assoc}
use Rattle.proto_tree.specs.Tree.{Tree, End, Leaf, Block, joined_trees}
use Rattle.proto_ast.specs.Parts.{BlockOf, blocks_in, statements}

pub statements_joined : (t u : Tree) → statements (joined_trees t u) ≡ statements t ++ statements u
statements_joined End u = refl
statements_joined (Leaf s rest) u = ap (λ ss. s ∷ ss) (statements_joined rest u)
statements_joined (Block h i within j rest) u = statements_joined rest u

pub blocks_joined : (t u : Tree) → blocks_in (joined_trees t u) ≡ blocks_in t ++ blocks_in u
blocks_joined End u = refl
blocks_joined (Leaf s rest) u = blocks_joined rest u
blocks_joined (Block h i within j rest) u =
    ap (λ (bs : List BlockOf). record { header = h; within = within } ∷ (blocks_in within ++ bs)) (blocks_joined rest u)
    ∙ ap (λ (bs : List BlockOf). record { header = h; within = within } ∷ bs) (sym (append_assoc (blocks_in within) (blocks_in rest) (blocks_in u)))
