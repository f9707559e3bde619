-- What trees that stand one behind another declare and use.
use Rattle.std.proofs.Common.{◌≡◌, ℕ, List, [], ◌∷◌, ◌++◌, refl, sym, ap, ◌∙◌, append_assoc}
use Rattle.proto_tree.specs.declared.piece.Statement.{Statement}
use Rattle.proto_tree.specs.declared.piece.Statement.TheVariants as statement
use Rattle.proto_tree.specs.declared.piece.Header.{Header}
use Rattle.proto_tree.specs.declared.piece.Header.TheVariants as header
use Rattle.proto_tree.specs.Tree.{Tree, End, Leaf, Block, joined_trees}
use Rattle.proto_names_rules.proofs.Common.{Source, Used, Member, field, map_field, oneof, message, enum, service, extend, Members, member, Items, item, Placed, placed, all_placed, package_of}
use Rattle.proto_names_outline.specs.Common.{items_below, field_names, value_names, method_names, no_names, block_names, picked, members_in, statement_imports, imports_in, file_block, items_in, option_uses, statement_uses, header_uses, flat_uses, block_uses, scope_in, member_uses, item_uses}

pub imports_joined : (t u : Tree) → imports_in (joined_trees t u) ≡ imports_in t ++ imports_in u
imports_joined End u = refl
imports_joined (Leaf s rest) u = ap (λ ws. statement_imports s ++ ws) (imports_joined rest u) ∙ sym (append_assoc (statement_imports s) (imports_in rest) (imports_in u))
imports_joined (Block h i within j rest) u = imports_joined rest u

block_package : (h : Header) (within : Tree) (is : Items) → package_of (file_block h within is) ≡ package_of is
block_package (header.Message h) within is = refl
block_package whole within is = refl

-- a package further on
pub package_behind : (t u : Tree) → package_of (items_in t) ≡ [] → package_of (items_in (joined_trees t u)) ≡ package_of (items_in u)
package_behind End u e = refl
package_behind (Leaf (statement.Package p) rest) u e = cc
package_behind (Leaf s rest) u e = package_behind rest u e
package_behind (Block h i within j rest) u e =
    block_package h within (items_in (joined_trees rest u)) ∙ package_behind rest u (sym (block_package h within (items_in rest)) ∙ e)

-- a package that stands here
pub package_here : (t u : Tree) (x : ℕ) (xs : List ℕ) → package_of (items_in t) ≡ x ∷ xs → package_of (items_in (joined_trees t u)) ≡ x ∷ xs
package_here End u x xs e = cc
package_here (Leaf (statement.Package p) rest) u x xs e = e
package_here (Leaf s rest) u x xs e = package_here rest u x xs e
package_here (Block h i within j rest) u x xs e =
    block_package h within (items_in (joined_trees rest u)) ∙ package_here rest u x xs (sym (block_package h within (items_in rest)) ∙ e)

-- ---- declarations

pub picked_joined : (of_leaf : Statement → List ℕ) (of_block : Header → List ℕ) (t u : Tree) → picked of_leaf of_block (joined_trees t u) ≡ picked of_leaf of_block t ++ picked of_leaf of_block u
picked_joined p g End u = refl
picked_joined p g (Leaf s rest) u = ap (λ ns. p s ++ ns) (picked_joined p g rest u) ∙ sym (append_assoc (p s) (picked p g rest) (picked p g u))
picked_joined p g (Block h i within j rest) u = ap (λ ns. g h ++ ns) (picked_joined p g rest u) ∙ sym (append_assoc (g h) (picked p g rest) (picked p g u))

-- one member more, in front
front_placed : (path : List (Source ℕ)) (m : Member) (ms : Members) (a b : List Placed) → all_placed path ms ≡ a ++ b → all_placed path (member m ms) ≡ (placed path m ++ a) ++ b
front_placed path m ms a b e = ap (λ ps. placed path m ++ ps) e ∙ sym (append_assoc (placed path m) a b)

pub members_joined : (path : List (Source ℕ)) (t u : Tree) → all_placed path (members_in (joined_trees t u)) ≡ all_placed path (members_in t) ++ all_placed path (members_in u)
members_joined path End u = refl
members_joined path (Leaf (statement.Field f) rest) u = front_placed path (field f.name) (members_in (joined_trees rest u)) (all_placed path (members_in rest)) (all_placed path (members_in u)) (members_joined path rest u)
members_joined path (Leaf (statement.MapField f) rest) u = front_placed path (map_field f.name) (members_in (joined_trees rest u)) (all_placed path (members_in rest)) (all_placed path (members_in u)) (members_joined path rest u)
members_joined path (Leaf s rest) u = members_joined path rest u
members_joined path (Block (header.Message h) i within j rest) u = front_placed path (message h.name (members_in within)) (members_in (joined_trees rest u)) (all_placed path (members_in rest)) (all_placed path (members_in u)) (members_joined path rest u)
members_joined path (Block (header.Oneof h) i within j rest) u = front_placed path (oneof h.name (picked field_names no_names within)) (members_in (joined_trees rest u)) (all_placed path (members_in rest)) (all_placed path (members_in u)) (members_joined path rest u)
members_joined path (Block (header.Enum h) i within j rest) u = front_placed path (enum h.name (picked value_names no_names within)) (members_in (joined_trees rest u)) (all_placed path (members_in rest)) (all_placed path (members_in u)) (members_joined path rest u)
members_joined path (Block (header.Extend e) i within j rest) u = front_placed path (extend (picked field_names no_names within)) (members_in (joined_trees rest u)) (all_placed path (members_in rest)) (all_placed path (members_in u)) (members_joined path rest u)
members_joined path (Block whole i within j rest) u = members_joined path rest u

front_below : (path : List (Source ℕ)) (m : Member) (is : Items) (a b : List Placed) → items_below path is ≡ a ++ b → items_below path (item m is) ≡ (placed path m ++ a) ++ b
front_below path m is a b e = ap (λ ps. placed path m ++ ps) e ∙ sym (append_assoc (placed path m) a b)

pub items_joined : (path : List (Source ℕ)) (t u : Tree) → items_below path (items_in (joined_trees t u)) ≡ items_below path (items_in t) ++ items_below path (items_in u)
items_joined path End u = refl
items_joined path (Leaf (statement.Package p) rest) u = items_joined path rest u
items_joined path (Leaf s rest) u = items_joined path rest u
items_joined path (Block (header.Message h) i within j rest) u = front_below path (message h.name (members_in within)) (items_in (joined_trees rest u)) (items_below path (items_in rest)) (items_below path (items_in u)) (items_joined path rest u)
items_joined path (Block (header.Enum h) i within j rest) u = front_below path (enum h.name (picked value_names no_names within)) (items_in (joined_trees rest u)) (items_below path (items_in rest)) (items_below path (items_in u)) (items_joined path rest u)
items_joined path (Block (header.Service h) i within j rest) u = front_below path (service h.name (picked method_names block_names within)) (items_in (joined_trees rest u)) (items_below path (items_in rest)) (items_below path (items_in u)) (items_joined path rest u)
items_joined path (Block (header.Extend e) i within j rest) u = front_below path (extend (picked field_names no_names within)) (items_in (joined_trees rest u)) (items_below path (items_in rest)) (items_below path (items_in u)) (items_joined path rest u)
items_joined path (Block whole i within j rest) u = items_joined path rest u

-- ---- references

front_used : (x y a b : List (Used ℕ)) → y ≡ a ++ b → x ++ y ≡ (x ++ a) ++ b
front_used x y a b e = ap (λ us. x ++ us) e ∙ sym (append_assoc x a b)

pub flat_joined : (around path : List (Source ℕ)) (t u : Tree) → flat_uses around path (joined_trees t u) ≡ flat_uses around path t ++ flat_uses around path u
flat_joined around path End u = refl
flat_joined around path (Leaf s rest) u = front_used (statement_uses around path s) (flat_uses around path (joined_trees rest u)) (flat_uses around path rest) (flat_uses around path u) (flat_joined around path rest u)
flat_joined around path (Block h i within j rest) u =
    let inner = flat_uses path path within in
    front_used (header_uses path h) (inner ++ flat_uses around path (joined_trees rest u)) (inner ++ flat_uses around path rest) (flat_uses around path u)
    (front_used inner (flat_uses around path (joined_trees rest u)) (flat_uses around path rest) (flat_uses around path u) (flat_joined around path rest u))

abbrev of_block : List (Source ℕ) → Header → Tree → List (Used ℕ)
of_block path h within = block_uses path h (member_uses path (scope_in path h) within) within

pub member_uses_joined : (around path : List (Source ℕ)) (t u : Tree) → member_uses around path (joined_trees t u) ≡ member_uses around path t ++ member_uses around path u
member_uses_joined around path End u = refl
member_uses_joined around path (Leaf s rest) u = front_used (statement_uses around path s) (member_uses around path (joined_trees rest u)) (member_uses around path rest) (member_uses around path u) (member_uses_joined around path rest u)
member_uses_joined around path (Block (header.Service h) i within j rest) u = member_uses_joined around path rest u
member_uses_joined around path (Block (header.Message h) i within j rest) u = front_used (of_block path (header.Message h) within) (member_uses around path (joined_trees rest u)) (member_uses around path rest) (member_uses around path u) (member_uses_joined around path rest u)
member_uses_joined around path (Block (header.Oneof h) i within j rest) u = front_used (of_block path (header.Oneof h) within) (member_uses around path (joined_trees rest u)) (member_uses around path rest) (member_uses around path u) (member_uses_joined around path rest u)
member_uses_joined around path (Block (header.Enum h) i within j rest) u = front_used (of_block path (header.Enum h) within) (member_uses around path (joined_trees rest u)) (member_uses around path rest) (member_uses around path u) (member_uses_joined around path rest u)
member_uses_joined around path (Block (header.Extend e) i within j rest) u = front_used (of_block path (header.Extend e) within) (member_uses around path (joined_trees rest u)) (member_uses around path rest) (member_uses around path u) (member_uses_joined around path rest u)
member_uses_joined around path (Block whole i within j rest) u = member_uses_joined around path rest u

pub item_uses_joined : (path : List (Source ℕ)) (t u : Tree) → item_uses path (joined_trees t u) ≡ item_uses path t ++ item_uses path u
item_uses_joined path End u = refl
item_uses_joined path (Leaf s rest) u = front_used (option_uses path s) (item_uses path (joined_trees rest u)) (item_uses path rest) (item_uses path u) (item_uses_joined path rest u)
item_uses_joined path (Block (header.Oneof h) i within j rest) u = item_uses_joined path rest u
item_uses_joined path (Block (header.Message h) i within j rest) u = front_used (of_block path (header.Message h) within) (item_uses path (joined_trees rest u)) (item_uses path rest) (item_uses path u) (item_uses_joined path rest u)
item_uses_joined path (Block (header.Enum h) i within j rest) u = front_used (of_block path (header.Enum h) within) (item_uses path (joined_trees rest u)) (item_uses path rest) (item_uses path u) (item_uses_joined path rest u)
item_uses_joined path (Block (header.Service h) i within j rest) u = front_used (of_block path (header.Service h) within) (item_uses path (joined_trees rest u)) (item_uses path rest) (item_uses path u) (item_uses_joined path rest u)
item_uses_joined path (Block (header.Extend e) i within j rest) u = front_used (of_block path (header.Extend e) within) (item_uses path (joined_trees rest u)) (item_uses path rest) (item_uses path u) (item_uses_joined path rest u)
item_uses_joined path (Block whole i within j rest) u = item_uses_joined path rest u
