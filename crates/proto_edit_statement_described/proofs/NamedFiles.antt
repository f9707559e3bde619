-- What the three trees of a deletion declare, use and import, as trees of a file.
use Rattle.std.proofs.Common.{◌≡◌, ℕ, List, [], ◌∷◌, ◌++◌, map, refl, sym, ◌∙◌, ap, Contains, append-nil}
use Rattle.proto_tree.specs.declared.piece.Header.{Header}
use Rattle.proto_tree.specs.declared.piece.Header.TheVariants as header
use Rattle.proto_tree.specs.declared.piece.Heading.{Heading}
use Rattle.proto_tree.specs.declared.piece.Statement.{Statement}
use Rattle.proto_tree.specs.declared.piece.Statement.TheVariants as statement
use Rattle.proto_tree.proofs.Common.{Move, move_header, move_separated, move_statement, move_tree, dotted, Tree, End, Leaf, Block}
use Rattle.proto_names_rules.specs.declared.kind.Kind.TheVariants as kind
use Rattle.proto_names_rules.proofs.Common.{Source, Token, Used, shifted_source, shifted_used, Placed, all_placed, beside, extend, items_placed, package_of, place, placed, prefixes, map_map}
use Rattle.proto_names_outline.proofs.Common.{file_names, statement_uses, block_names, field_names, item_uses, items_in, member_uses, members_in, method_names, no_names, option_uses, picked, value_names, dotted_moved}
use Rattle.proto_edit_statement_laws.proofs.NamesCommon.{MayGoAt, HasMore, IsAny, move_placed, both_moved, inner_moved, inner_uses, item_uses_moved, items_moved, moved_names, option_moved, path_more, path_of, prefixes_moved}
use Rattle.proto_edit_statement_described.specs.Deletions.{BehindBlock, BehindLeaf, Deeper, InMessage, IsDeletedIn, Reservation, WrittenField, statement_of}
use Rattle.proto_edit_statement_described.proofs.DeletedHeads.{imports_less, packages_less}
use Rattle.proto_edit_statement_described.specs.NamedTrees.{TreesAreNamed}
use Rattle.proto_edit_statement_described.proofs.NamedTrees.{InMembers, before_more, behind_more, both_placed, deeper_in, message_new, message_old, message_used, more_as, right_in}

-- ---- what one item of a file declares

-- the items of one, and those behind it
record OneItem (h : Move) (path : List (Source ℕ)) (item : Tree → Tree) (moved : Tree → Tree) : Type 0 where
  here : List Placed
  there : List Placed
  same : there ≡ map (move_placed h) here
  first : (x : Tree) → items_placed path (items_in (item x)) ≡ here ++ items_placed path (items_in x)
  then : (t : Tree) → items_placed (path_of h path) (items_in (moved t)) ≡ there ++ items_placed (path_of h path) (items_in t)

leaf_item : (h : Move) (path : List (Source ℕ)) (a : Statement) → OneItem h path (λ x. Leaf a x) (λ t. Leaf (move_statement h a) t)
leaf_item h path (statement.Package p) = record {
  here = prefixes [] (dotted p.name);
  there = prefixes [] (dotted (move_separated h h p.name));
  same = ap (prefixes []) (dotted_moved h p.name) ∙ prefixes_moved h [] (dotted p.name);
  first = λ x. refl;
  then = λ t. refl;
}
leaf_item h path _ = record { here = []; there = []; same = refl; first = λ x. refl; then = λ t. refl }

block_split : (path : List (Source ℕ)) (y : Header) (i : ℕ) (within : Tree) (j : ℕ) (x : Tree) → items_placed path (items_in (Block y i within j x)) ≡ items_placed path (items_in (Block y i within j End)) ++ items_placed path (items_in x)
block_split path (header.Message y) i within j x = ap (λ (z : List Placed). z ++ items_placed path (items_in x)) (sym (append-nil (place path (Token y.name) kind.Message ∷ all_placed (path ++ Token y.name ∷ []) (members_in within))))
block_split path (header.Enum y) i within j x = ap (λ (z : List Placed). z ++ items_placed path (items_in x)) (sym (append-nil (beside path y.name kind.Enum kind.Value (picked value_names no_names within))))
block_split path (header.Service y) i within j x =
    ap (λ (z : List Placed). z ++ items_placed path (items_in x)) (sym (append-nil (place path (Token y.name) kind.Service ∷ map (λ m. place (path ++ Token y.name ∷ []) (Token m) kind.Method) (picked method_names block_names within))))
block_split path (header.Extend e) i within j x = ap (λ (z : List Placed). z ++ items_placed path (items_in x)) (sym (append-nil (placed path (extend (picked field_names no_names within)))))
block_split path whole i within j x = refl

block_item : (h : Move) (path : List (Source ℕ)) (y : Header) (i : ℕ) (within : Tree) (j : ℕ) → OneItem h path (λ x. Block y i within j x) (λ t. Block (move_header h y) (h i) (move_tree h within) (h j) t)
block_item h path y i within j = record {
  here = items_placed path (items_in (Block y i within j End));
  there = items_placed (path_of h path) (items_in (Block (move_header h y) (h i) (move_tree h within) (h j) End));
  same = items_moved h path (Block y i within j End);
  first = λ x. block_split path y i within j x;
  then = λ t. block_split (path_of h path) (move_header h y) (h i) (move_tree h within) (h j) t;
}

module _ (g : Move) where
  past_item : (path : List (Source ℕ)) (item moved : Tree → Tree) → OneItem g path item moved → (x t : Tree) → HasMore MayGoAt (map (move_placed g) (items_placed path (items_in x))) (items_placed (path_of g path) (items_in t))
      → HasMore MayGoAt (map (move_placed g) (items_placed path (items_in (item x)))) (items_placed (path_of g path) (items_in (moved t)))
  past_item path item moved o x t m =
      more_as (move_placed g) MayGoAt (ap (map (move_placed g)) (o.first x)) (o.then t) (behind_more (move_placed g) MayGoAt (items_placed path (items_in x)) (items_placed (path_of g path) (items_in t)) o.here o.there o.same m)

  same_item : (path : List (Source ℕ)) (item moved : Tree → Tree) → OneItem g path item moved → (x t : Tree) → items_placed (path_of g path) (items_in t) ≡ map (move_placed g) (items_placed path (items_in x))
      → items_placed (path_of g path) (items_in (moved t)) ≡ map (move_placed g) (items_placed path (items_in (item x)))
  same_item path item moved o x t e = o.then t ∙ both_placed g o.here (items_placed path (items_in x)) o.there (items_placed (path_of g path) (items_in t)) o.same e ∙ ap (map (move_placed g)) (sym (o.first x))

  uses_past_item : (P : Used ℕ → Type 0) (scope : List (Source ℕ)) (h : Header) (i : ℕ) (within : Tree) (j : ℕ) (x t : Tree) → HasMore P (map (shifted_used g) (item_uses scope x)) (item_uses (path_of g scope) t)
      → HasMore P (map (shifted_used g) (item_uses scope (Block h i within j x))) (item_uses (path_of g scope) (Block (move_header g h) (g i) (move_tree g within) (g j) t))
  uses_past_item P scope (header.Oneof h) i within j x t m = m
  uses_past_item P scope h i within j x t m =
      behind_more (shifted_used g) P (item_uses scope x) (item_uses (path_of g scope) t) (inner_uses scope h within) (inner_uses (path_of g scope) (move_header g h) (move_tree g within)) (inner_moved g scope h within) m

  uses_same_item : (scope : List (Source ℕ)) (h : Header) (i : ℕ) (within : Tree) (j : ℕ) (x t : Tree) → item_uses (path_of g scope) t ≡ map (shifted_used g) (item_uses scope x)
      → item_uses (path_of g scope) (Block (move_header g h) (g i) (move_tree g within) (g j) t) ≡ map (shifted_used g) (item_uses scope (Block h i within j x))
  uses_same_item scope (header.Oneof h) i within j x t m = m
  uses_same_item scope h i within j x t m = both_moved g (inner_uses scope h within) (item_uses scope x) _ _ (inner_moved g scope h within) m

-- ---- the three trees

module _ (g k : Move) (w : WrittenField) (r : Reservation) (P : Used ℕ → Type 0) (so : (around scope : List (Source ℕ)) (u : Used ℕ) → Contains (statement_uses around scope (statement_of w)) u → P u) where
  record InItems (path : List (Source ℕ)) (x t u : Tree) : Type 0 where
    old : HasMore MayGoAt (map (move_placed g) (items_placed path (items_in x))) (items_placed (path_of g path) (items_in t))
    new : items_placed (path_of k path) (items_in u) ≡ map (move_placed k) (items_placed path (items_in x))
    old_used : HasMore P (map (shifted_used g) (item_uses path x)) (item_uses (path_of g path) t)
    new_used : item_uses (path_of k path) u ≡ map (shifted_used k) (item_uses path x)

  message_item : (path : List (Source ℕ)) (h : Heading) (i : ℕ) (x t u : Tree) (j : ℕ) (rest : Tree) → InMembers g k w r P so path (path ++ Token h.name ∷ []) x t u
      → InItems path (Block (header.Message h) i x j rest) (Block (move_header g (header.Message h)) (g i) t (g j) (move_tree g rest)) (Block (move_header k (header.Message h)) (k i) u (k j) (move_tree k rest))
  message_item path h i x t u j rest v = record {
    old = before_more (move_placed g) MayGoAt (place path (Token h.name) kind.Message ∷ all_placed (path ++ Token h.name ∷ []) (members_in x)) _ (items_placed path (items_in rest)) (items_placed (path_of g path) (items_in (move_tree g rest))) (items_moved g path rest) (message_old g k w r P so path h.name x t u v);
    new = both_placed k (place path (Token h.name) kind.Message ∷ all_placed (path ++ Token h.name ∷ []) (members_in x)) (items_placed path (items_in rest)) _ _ (message_new g k w r P so path h.name x t u v) (items_moved k path rest);
    old_used = before_more (shifted_used g) P (member_uses path (path ++ Token h.name ∷ []) x) _ (item_uses path rest) (item_uses (path_of g path) (move_tree g rest)) (item_uses_moved g path rest) (message_used g k w r P so path h.name x t u v);
    new_used = both_moved k (member_uses path (path ++ Token h.name ∷ []) x) (item_uses path rest) _ _ (ap (λ p. member_uses (path_of k path) p u) (sym (path_more k path (Token h.name))) ∙ v.new_used) (item_uses_moved k path rest);
  }

  in_items : (path : List (Source ℕ)) (x t u : Tree) → IsDeletedIn g k w r x t u → InItems path x t u
  in_items path _ _ _ (InMessage h i x t u j rest sw) = message_item path h i x t u j rest (right_in g k w r P so path (path ++ Token h.name ∷ []) x t u sw)
  in_items path _ _ _ (Deeper h i x t u j rest sw) = message_item path h i x t u j rest (deeper_in g k w r P so path (path ++ Token h.name ∷ []) x t u sw)
  in_items path _ _ _ (BehindLeaf a x t u sw) =
      let v = in_items path x t u sw in
      record {
        old = past_item g path (λ z. Leaf a z) (λ z. Leaf (move_statement g a) z) (leaf_item g path a) x t v.old;
        new = same_item k path (λ z. Leaf a z) (λ z. Leaf (move_statement k a) z) (leaf_item k path a) x u v.new;
        old_used = behind_more (shifted_used g) P (item_uses path x) _ (option_uses path a) (option_uses (path_of g path) (move_statement g a)) (option_moved g path a) v.old_used;
        new_used = both_moved k (option_uses path a) (item_uses path x) _ _ (option_moved k path a) v.new_used;
      }
  in_items path _ _ _ (BehindBlock h i within j x t u sw) =
      let v = in_items path x t u sw in
      record {
        old = past_item g path (λ z. Block h i within j z) (λ z. Block (move_header g h) (g i) (move_tree g within) (g j) z) (block_item g path h i within j) x t v.old;
        new = same_item k path (λ z. Block h i within j z) (λ z. Block (move_header k h) (k i) (move_tree k within) (k j) z) (block_item k path h i within j) x u v.new;
        old_used = uses_past_item g P path h i within j x t v.old_used;
        new_used = uses_same_item k path h i within j x u v.new_used;
      }

tokens_moved : (g : Move) (ts : List ℕ) → map (λ i. Token i) (map g ts) ≡ path_of g (map (λ i. Token i) ts)
tokens_moved g ts = map_map g (λ i. Token i) ts ∙ sym (map_map (λ i. Token i) (shifted_source g) ts)

-- what the old tree uses more is what the field uses
pub used_more : (g k : Move) (w : WrittenField) (r : Reservation) (P : Used ℕ → Type 0) → ((around scope : List (Source ℕ)) (u : Used ℕ) → Contains (statement_uses around scope (statement_of w)) u → P u) → (x t u : Tree) → IsDeletedIn g k w r x t u
    → HasMore P (map (shifted_used g) (file_names x).used) (file_names t).used
used_more g k w r P so x t u sw =
    let here : map (λ i. Token i) (package_of (items_in t)) ≡ path_of g (map (λ i. Token i) (package_of (items_in x))) = ap (map (λ i. Token i)) (packages_less g k w r x t u sw).0 ∙ tokens_moved g (package_of (items_in x)) in
    more_as (shifted_used g) P refl (ap (λ p. item_uses p t) here) (in_items g k w r P so (map (λ i. Token i) (package_of (items_in x))) x t u sw).old_used

any_use : (w : WrittenField) (around scope : List (Source ℕ)) (u : Used ℕ) → Contains (statement_uses around scope (statement_of w)) u → IsAny u
any_use w around scope u c = tt

pub trees_are_named : TreesAreNamed
trees_are_named g k w r x t u sw =
    let path : List (Source ℕ) = map (λ i. Token i) (package_of (items_in x)) in
    let ps = packages_less g k w r x t u sw in
    let is = imports_less g k w r x t u sw in
    let v = in_items g k w r IsAny (any_use w) path x t u sw in
    let here : map (λ i. Token i) (package_of (items_in t)) ≡ path_of g path = ap (map (λ i. Token i)) ps.0 ∙ tokens_moved g (package_of (items_in x)) in
    record {
      more = record {
        placed = more_as (move_placed g) MayGoAt refl (ap (λ p. items_placed p (items_in t)) here) v.old;
        used = used_more g k w r IsAny (any_use w) x t u sw;
        imports = is.0;
      };
      same = moved_names k x u ps.1 (λ p. (in_items g k w r IsAny (any_use w) p x t u sw).new) (λ p. (in_items g k w r IsAny (any_use w) p x t u sw).new_used);
      imports = is.1;
    }
