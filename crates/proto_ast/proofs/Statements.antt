-- The parts of trees that stand one behind another.
use Rattle.std.proofs.Common.{◌≡◌, ℕ, suc, ◌+◌, ◌<◌, ◌≤◌, ◌||◌, Bool, true, false, cond, List, [], ◌∷◌, ◌++◌, length, get_or, drop, map, None, Some, refl, sym, ap, ◌∙◌, append_assoc, drop-cons, add-one, arith, find, flat_map}
use Rattle.proto_base.proofs.Common.{list_any, flat_map-append, drop_more, map-append, list_any-append, all_listed, listed_turn}
use Rattle.proto_tree.specs.declared.piece.Statement.{Statement}
use Rattle.proto_tree.specs.declared.piece.Header.TheVariants as header
use Rattle.proto_tree.specs.declared.tree.Item.{Item}
use Rattle.proto_tree.specs.declared.tree.Member.{Member}
use Rattle.proto_tree.proofs.Common.{item_tree, member_tree, trees, Tree, End, Leaf, Block, joined_trees}
use Rattle.proto_ast.specs.Common.{FieldOf, statements, fields_from, statement_fields, oneof_count, is_proto3, is_proto3_statement}
use Rattle.proto_ast.proofs.JoinedTrees.{statements_joined}

pub parts_joined : {A : Type 0} (part : Statement → List A) (t u : Tree) → flat_map part (statements (joined_trees t u)) ≡ flat_map part (statements t) ++ flat_map part (statements u)
parts_joined part t u = ap (flat_map part) (statements_joined t u) ∙ flat_map-append part (statements t) (statements u)

-- the parts of one element more
pub parts_turn : {X A : Type 0} (part : Statement → List A) (tree : X → Tree) (xs : List X) (i : ℕ) (x : X) (found next whole : List A) → i < length xs → x ≡ get_or xs i x
    → next ≡ found ++ flat_map part (statements (tree x)) → found ++ flat_map part (statements (trees tree (drop i xs))) ≡ whole
    → next ++ flat_map part (statements (trees tree (drop (i + 1) xs))) ≡ whole
parts_turn part tree xs i x found next whole lt is new before =
    listed_turn (λ ys. flat_map part (statements (trees tree ys))) (λ y. flat_map part (statements (tree y))) (λ y ys. parts_joined part (tree y) (trees tree ys)) xs i x x found next whole lt is new before

-- and of all
pub all_parts : {X A : Type 0} (part : Statement → List A) (tree : X → Tree) (xs : List X) (i : ℕ) (found whole : List A) → length xs ≤ i
    → found ++ flat_map part (statements (trees tree (drop i xs))) ≡ whole → found ≡ whole
all_parts part tree = all_listed (λ ys. flat_map part (statements (trees tree ys))) refl

-- what is read of a list with one element more
pub pushed : {X A : Type 0} (read : X → A) (xs ys : List X) (x : X) → ys ≡ xs ++ x ∷ [] → map read ys ≡ map read xs ++ read x ∷ []
pushed read xs ys x is = ap (map read) is ∙ map-append read xs (x ∷ [])

-- with one element more, and what is behind it
pub pushed_before : {X A : Type 0} (read : X → A) (xs ys : List X) (x : X) (behind rest : List A) → ys ≡ xs ++ x ∷ [] → behind ≡ rest → map read ys ++ behind ≡ map read xs ++ (read x ∷ rest)
pushed_before read xs ys x behind rest is same =
    ap (λ ps. ps ++ behind) (pushed read xs ys x is) ∙ append_assoc (map read xs) (read x ∷ []) behind ∙ ap (λ ps. map read xs ++ (read x ∷ ps)) same

pub fields_joined : (n : ℕ) (t u : Tree) → fields_from n (joined_trees t u) ≡ fields_from n t ++ fields_from (n + oneof_count t) u
fields_joined n End u = ap (λ (k : ℕ). fields_from k u) (omega arith)
fields_joined n (Leaf s rest) u = ap (λ fs. statement_fields None s ++ fs) (fields_joined n rest u) ∙ sym (append_assoc (statement_fields None s) (fields_from n rest) (fields_from (n + oneof_count rest) u))
fields_joined n (Block (header.Oneof h) i within j rest) u =
    let here : List FieldOf = flat_map (statement_fields (Some n)) (statements within) in
    ap (λ fs. here ++ fs) (fields_joined (suc n) rest u) ∙ sym (append_assoc here (fields_from (suc n) rest) (fields_from (suc n + oneof_count rest) u))
    ∙ ap (λ (k : ℕ). (here ++ fields_from (suc n) rest) ++ fields_from k u) (omega arith)
fields_joined n (Block whole i within j rest) u = fields_joined n rest u

-- the fields of one member more
pub fields_turn : (ms : List Member) (i n k : ℕ) (m : Member) (found next whole : List FieldOf) → i < length ms → m ≡ get_or ms i m → k ≡ oneof_count (member_tree m)
    → next ≡ found ++ fields_from n (member_tree m) → found ++ fields_from n (trees member_tree (drop i ms)) ≡ whole
    → next ++ fields_from (n + k) (trees member_tree (drop (i + 1) ms)) ≡ whole
fields_turn ms i n k m found next whole lt is count new before =
    let rest : Tree = trees member_tree (drop (i + 1) ms) in
    let parted : drop i ms ≡ m ∷ drop (i + 1) ms = drop-cons ms i m lt ∙ ap (λ (x : Member). x ∷ drop (suc i) ms) (sym is) ∙ ap (λ (j : ℕ). m ∷ drop j ms) (sym (add-one i)) in
    ap (λ fs. fs ++ fields_from (n + k) rest) new ∙ append_assoc found (fields_from n (member_tree m)) (fields_from (n + k) rest)
    ∙ ap (λ (j : ℕ). found ++ (fields_from n (member_tree m) ++ fields_from (n + j) rest)) count
    ∙ ap (λ fs. found ++ fs) (sym (fields_joined n (member_tree m) rest))
    ∙ ap (λ (xs : List Member). found ++ fields_from n (trees member_tree xs)) (sym parted) ∙ before

pub is_proto3_joined : (value : ℕ → List ℕ) (t u : Tree) → is_proto3 value (joined_trees t u) ≡ is_proto3 value t || is_proto3 value u
is_proto3_joined value t u = ap (list_any (is_proto3_statement value)) (statements_joined t u) ∙ list_any-append (is_proto3_statement value) (statements t) (statements u)

-- whether a file is proto3, by what is left of it and by the next of its items
module _ (value : ℕ → List ℕ) (items : List Item) (i : ℕ) (item : Item) (lt : i < length items) (is : item ≡ get_or items i item) where
  abbrev rest : Tree
  rest = trees item_tree (drop (i + 1) items)

  next_proto3 : is_proto3 value (trees item_tree (drop i items)) ≡ is_proto3 value (item_tree item) || is_proto3 value rest
  next_proto3 = ap (λ (ys : List Item). is_proto3 value (trees item_tree ys)) (drop_more items i item lt ∙ ap (λ (y : Item). y ∷ drop (i + 1) items) (sym is)) ∙ is_proto3_joined value (item_tree item) rest

  pub not_proto3_here : is_proto3 value (item_tree item) ≡ false → is_proto3 value rest ≡ is_proto3 value (trees item_tree (drop i items))
  not_proto3_here e = sym (next_proto3 ∙ ap (λ b. b || is_proto3 value rest) e)

  pub proto3_here : is_proto3 value (item_tree item) ≡ true → true ≡ is_proto3 value (trees item_tree (drop i items))
  proto3_here e = sym (next_proto3 ∙ ap (λ b. b || is_proto3 value rest) e)

-- what is found in what is left of a list, by its next element
module _ {X Y : Type 0} (test : Y → Bool) (view : X → Y) (xs : List X) (i : ℕ) (x : X) (lt : i < length xs) (is : x ≡ get_or xs i x) where
  next_found : find test (map view (drop i xs)) ≡ cond (test (view x)) (Some (view x)) (find test (map view (drop (i + 1) xs)))
  next_found = ap (λ (ys : List X). find test (map view ys)) (drop_more xs i x lt ∙ ap (λ (y : X). y ∷ drop (i + 1) xs) (sym is))

  pub not_found_here : test (view x) ≡ false → find test (map view (drop i xs)) ≡ find test (map view (drop (i + 1) xs))
  not_found_here e = next_found ∙ ap (λ b. cond b (Some (view x)) (find test (map view (drop (i + 1) xs)))) e

  pub found_here : test (view x) ≡ true → find test (map view (drop i xs)) ≡ Some (view x)
  found_here e = next_found ∙ ap (λ b. cond b (Some (view x)) (find test (map view (drop (i + 1) xs)))) e
