-- The custom options of trees that stand one behind another.
use Rattle.std.proofs.Common.{◌≡◌, ℕ, ◌+◌, ◌<◌, ◌≤◌, List, ◌++◌, length, get_or, drop, refl, sym, ap, ◌∙◌, append_assoc}
use Rattle.proto_base.proofs.Turns.{all_listed, listed_turn}
use Rattle.proto_base.specs.Texts.{Text}
use Rattle.proto_tree.proofs.Common.{Tree, End, Leaf, Block, joined_trees, trees}
use Rattle.proto_custom_options.specs.CustomOptions.{CustomOf, customs_below, options_of_block, statement_customs}

pub customs_joined : (message : Text) (t u : Tree) → customs_below message (joined_trees t u) ≡ customs_below message t ++ customs_below message u
customs_joined message End u = refl
customs_joined message (Leaf s rest) u =
    let here : List CustomOf = statement_customs message s in
    ap (λ (cs : List CustomOf). here ++ cs) (customs_joined message rest u) ∙ sym (append_assoc here (customs_below message rest) (customs_below message u))
customs_joined message (Block h i within j rest) u =
    let here : List CustomOf = customs_below (options_of_block h) within in
    ap (λ (cs : List CustomOf). here ++ cs) (customs_joined message rest u) ∙ sym (append_assoc here (customs_below message rest) (customs_below message u))

-- the custom options of one element more
pub customs_turn : {X : Type 0} (message : Text) (tree : X → Tree) (xs : List X) (i : ℕ) (x : X) (found next whole : List CustomOf) → i < length xs → x ≡ get_or xs i x
    → next ≡ found ++ customs_below message (tree x) → found ++ customs_below message (trees tree (drop i xs)) ≡ whole
    → next ++ customs_below message (trees tree (drop (i + 1) xs)) ≡ whole
customs_turn message tree xs i x found next whole lt is new before =
    listed_turn (λ ys. customs_below message (trees tree ys)) (λ y. customs_below message (tree y)) (λ y ys. customs_joined message (tree y) (trees tree ys)) xs i x x found next whole lt is new before

-- and of all
pub all_customs : {X : Type 0} (message : Text) (tree : X → Tree) (xs : List X) (i : ℕ) (found whole : List CustomOf) → length xs ≤ i
    → found ++ customs_below message (trees tree (drop i xs)) ≡ whole → found ≡ whole
all_customs message tree = all_listed (λ ys. customs_below message (trees tree ys)) refl
