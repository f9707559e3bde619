-- What the three trees of a deletion declare, use and import.
use Rattle.std.proofs.Common.{◌≡◌, ℕ, List, [], ◌∷◌, ◌++◌, map, refl, sym, ◌∙◌, ap, ap₂, subst, append_assoc, inl, inr, arith, Contains}
use Rattle.proto_base.proofs.Common.{AllByRecursion, contains_cases}
use Rattle.proto_tree.specs.declared.piece.Header.{Header}
use Rattle.proto_tree.specs.declared.piece.Header.TheVariants as header
use Rattle.proto_tree.specs.declared.piece.Heading.{Heading}
use Rattle.proto_tree.specs.declared.piece.Statement.{Statement}
use Rattle.proto_tree.specs.declared.piece.Statement.TheVariants as statement
use Rattle.proto_tree.specs.declared.tree.Field.{Field}
use Rattle.proto_tree.proofs.Common.{Move, move_header, move_statement, move_tree, Tree, End, Leaf, Block}
use Rattle.proto_names_rules.specs.declared.kind.Kind.TheVariants as kind
use Rattle.proto_names_rules.proofs.Common.{Source, Token, Used, shifted_used, Placed, all_placed, beside, extend, map_field, place, placed, map_append}
use Rattle.proto_names_outline.specs.FromTree.{field_names, flat_uses, member_uses, members_in, no_names, picked, statement_uses, value_names}
use Rattle.proto_edit_statement_laws.proofs.NamesCommon.{MayGoAt, HasMore, move_placed, more_back, more_front, both_moved, field_names_moved, fields_picked, flat_uses_moved, inner_moved, inner_uses, member_uses_moved, members_moved, path_more, path_of, statement_moved}
use Rattle.proto_edit_statement_described.specs.Deletions.{AtField, AtOneof, BehindBlock, BehindLeaf, Deeper, Found, FurtherOn, InMessage, IsAmong, IsDeletedIn, IsDeletedRight, OfMap, PastBlock, PastLeaf, Plain, Reservation, WrittenField, statement_of}

-- ---- moved lists with more in them

module _ {A : Type 0} (m : A → A) (P : A → Type 0) where
  pub more_as : {xs ys xs' ys' : List A} → xs ≡ xs' → ys ≡ ys' → HasMore P xs' ys' → HasMore P xs ys
  more_as e f h = record { front = h.front; more = h.more; back = h.back; was = e ∙ h.was; is = f ∙ h.is; so = h.so }

  first_more : (new xs ys : List A) → ((x : A) → Contains new x → P x) → ys ≡ map m xs → HasMore P (map m xs) (new ++ ys)
  first_more new xs ys so e = record { front = []; more = new; back = map m xs; was = refl; is = ap (λ z. new ++ z) e; so = so }

  pub behind_more : (xs ys ls ks : List A) → ks ≡ map m ls → HasMore P (map m xs) ys → HasMore P (map m (ls ++ xs)) (ks ++ ys)
  behind_more xs ys ls ks e h = more_as (map_append m ls xs ∙ ap (λ z. z ++ map m xs) (sym e)) refl (more_front P (map m xs) ys h ks)

  pub before_more : (xs ys ls ks : List A) → ks ≡ map m ls → HasMore P (map m xs) ys → HasMore P (map m (xs ++ ls)) (ys ++ ks)
  before_more xs ys ls ks e h = more_as (map_append m xs ls ∙ ap (λ z. map m xs ++ z) (sym e)) refl (more_back P (map m xs) ys h ks)

each : {A : Type 0} (P : A → Type 0) (xs : List A) → AllByRecursion P xs → (x : A) → Contains xs x → P x
each P [] h x c = absurd (omega (arith, c.1))
each P (y ∷ ys) h x c = elim (contains_cases y x ys c) [
  | inl e ↦ subst P e h.0
  | inr d ↦ each P ys h.1 x d
]

-- ---- what one item adds

-- what the field declares
abbrev added : List (Source ℕ) → WrittenField → List Placed
added path (Plain f) = place path (Token f.name) kind.Field ∷ []
added path (OfMap f) = placed path (map_field f.name)

added_may : (path : List (Source ℕ)) (w : WrittenField) → (p : Placed) → Contains (added path w) p → MayGoAt p
added_may path (Plain f) = each MayGoAt (added path (Plain f)) (refl, tt)
added_may path (OfMap f) = each MayGoAt (added path (OfMap f)) (refl, (refl, (refl, (refl, tt))))

added_first : (path : List (Source ℕ)) (w : WrittenField) (rest : Tree) → all_placed path (members_in (Leaf (statement_of w) rest)) ≡ added path w ++ all_placed path (members_in rest)
added_first path (Plain f) rest = refl
added_first path (OfMap f) rest = refl

-- an item of a message, and those behind it
leaf_first : (path : List (Source ℕ)) (s : Statement) (rest : Tree) → all_placed path (members_in (Leaf s rest)) ≡ all_placed path (members_in (Leaf s End)) ++ all_placed path (members_in rest)
leaf_first path (statement.Field f) rest = refl
leaf_first path (statement.MapField f) rest = refl
leaf_first path _ rest = refl

block_first : (path : List (Source ℕ)) (h : Header) (i : ℕ) (within : Tree) (j : ℕ) (rest : Tree) → all_placed path (members_in (Block h i within j rest)) ≡ all_placed path (members_in (Block h i within j End)) ++ all_placed path (members_in rest)
block_first path (header.Message h) i within j rest = ap (λ (z : List Placed). place path (Token h.name) kind.Message ∷ z) (sym (append_assoc (all_placed (path ++ Token h.name ∷ []) (members_in within)) [] (all_placed path (members_in rest))))
block_first path (header.Oneof h) i within j rest = sym (append_assoc (beside path h.name kind.Oneof kind.Field (picked field_names no_names within)) [] (all_placed path (members_in rest)))
block_first path (header.Enum h) i within j rest = sym (append_assoc (beside path h.name kind.Enum kind.Value (picked value_names no_names within)) [] (all_placed path (members_in rest)))
block_first path (header.Extend e) i within j rest = sym (append_assoc (placed path (extend (picked field_names no_names within))) [] (all_placed path (members_in rest)))
block_first path whole i within j rest = refl

-- ---- behind an item

module _ (g : Move) where
  pub both_placed : (a b c e : List Placed) → c ≡ map (move_placed g) a → e ≡ map (move_placed g) b → c ++ e ≡ map (move_placed g) (a ++ b)
  both_placed a b c e p q = ap₂ (λ (y z : List Placed). y ++ z) p q ∙ sym (map_append (move_placed g) a b)

  past_leaf : (path : List (Source ℕ)) (a : Statement) (x t : Tree) → HasMore MayGoAt (map (move_placed g) (all_placed path (members_in x))) (all_placed (path_of g path) (members_in t))
      → HasMore MayGoAt (map (move_placed g) (all_placed path (members_in (Leaf a x)))) (all_placed (path_of g path) (members_in (Leaf (move_statement g a) t)))
  past_leaf path a x t h =
      more_as (move_placed g) MayGoAt (ap (map (move_placed g)) (leaf_first path a x)) (leaf_first (path_of g path) (move_statement g a) t)
      (behind_more (move_placed g) MayGoAt (all_placed path (members_in x)) (all_placed (path_of g path) (members_in t)) (all_placed path (members_in (Leaf a End))) (all_placed (path_of g path) (members_in (Leaf (move_statement g a) End))) (members_moved g path (Leaf a End)) h)

  past_block : (path : List (Source ℕ)) (h : Header) (i : ℕ) (within : Tree) (j : ℕ) (x t : Tree) → HasMore MayGoAt (map (move_placed g) (all_placed path (members_in x))) (all_placed (path_of g path) (members_in t))
      → HasMore MayGoAt (map (move_placed g) (all_placed path (members_in (Block h i within j x)))) (all_placed (path_of g path) (members_in (Block (move_header g h) (g i) (move_tree g within) (g j) t)))
  past_block path h i within j x t m =
      more_as (move_placed g) MayGoAt (ap (map (move_placed g)) (block_first path h i within j x)) (block_first (path_of g path) (move_header g h) (g i) (move_tree g within) (g j) t)
      (behind_more (move_placed g) MayGoAt (all_placed path (members_in x)) (all_placed (path_of g path) (members_in t)) (all_placed path (members_in (Block h i within j End))) (all_placed (path_of g path) (members_in (Block (move_header g h) (g i) (move_tree g within) (g j) End))) (members_moved g path (Block h i within j End)) m)

  same_leaf : (path : List (Source ℕ)) (a : Statement) (x t : Tree) → all_placed (path_of g path) (members_in t) ≡ map (move_placed g) (all_placed path (members_in x))
      → all_placed (path_of g path) (members_in (Leaf (move_statement g a) t)) ≡ map (move_placed g) (all_placed path (members_in (Leaf a x)))
  same_leaf path a x t e =
      leaf_first (path_of g path) (move_statement g a) t
      ∙ both_placed (all_placed path (members_in (Leaf a End))) (all_placed path (members_in x)) (all_placed (path_of g path) (members_in (Leaf (move_statement g a) End))) (all_placed (path_of g path) (members_in t)) (members_moved g path (Leaf a End)) e
      ∙ ap (map (move_placed g)) (sym (leaf_first path a x))

  same_block : (path : List (Source ℕ)) (h : Header) (i : ℕ) (within : Tree) (j : ℕ) (x t : Tree) → all_placed (path_of g path) (members_in t) ≡ map (move_placed g) (all_placed path (members_in x))
      → all_placed (path_of g path) (members_in (Block (move_header g h) (g i) (move_tree g within) (g j) t)) ≡ map (move_placed g) (all_placed path (members_in (Block h i within j x)))
  same_block path h i within j x t e =
      block_first (path_of g path) (move_header g h) (g i) (move_tree g within) (g j) t
      ∙ both_placed (all_placed path (members_in (Block h i within j End))) (all_placed path (members_in x)) (all_placed (path_of g path) (members_in (Block (move_header g h) (g i) (move_tree g within) (g j) End))) (all_placed (path_of g path) (members_in t)) (members_moved g path (Block h i within j End)) e
      ∙ ap (map (move_placed g)) (sym (block_first path h i within j x))

  uses_past_block : (P : Used ℕ → Type 0) (around scope : List (Source ℕ)) (h : Header) (i : ℕ) (within : Tree) (j : ℕ) (x t : Tree) → HasMore P (map (shifted_used g) (member_uses around scope x)) (member_uses (path_of g around) (path_of g scope) t)
      → HasMore P (map (shifted_used g) (member_uses around scope (Block h i within j x))) (member_uses (path_of g around) (path_of g scope) (Block (move_header g h) (g i) (move_tree g within) (g j) t))
  uses_past_block P around scope (header.Service h) i within j x t m = m
  uses_past_block P around scope h i within j x t m =
      behind_more (shifted_used g) P (member_uses around scope x) (member_uses (path_of g around) (path_of g scope) t) (inner_uses scope h within) (inner_uses (path_of g scope) (move_header g h) (move_tree g within)) (inner_moved g scope h within) m

  uses_same_block : (around scope : List (Source ℕ)) (h : Header) (i : ℕ) (within : Tree) (j : ℕ) (x t : Tree) → member_uses (path_of g around) (path_of g scope) t ≡ map (shifted_used g) (member_uses around scope x)
      → member_uses (path_of g around) (path_of g scope) (Block (move_header g h) (g i) (move_tree g within) (g j) t) ≡ map (shifted_used g) (member_uses around scope (Block h i within j x))
  uses_same_block around scope (header.Service h) i within j x t m = m
  uses_same_block around scope h i within j x t m = both_moved g (inner_uses scope h within) (member_uses around scope x) _ _ (inner_moved g scope h within) m

  -- ---- among the fields of a oneof

  abbrev field_in : List (Source ℕ) → ℕ → Placed
  field_in path i = place path (Token i) kind.Field

  fields_placed : (path : List (Source ℕ)) (ts : List ℕ) → map (field_in (path_of g path)) (map g ts) ≡ map (move_placed g) (map (field_in path) ts)
  fields_placed path [] = refl
  fields_placed path (t ∷ ts) = ap (λ (z : List Placed). place (path_of g path) (Token (g t)) kind.Field ∷ z) (fields_placed path ts)

  among_placed : (path : List (Source ℕ)) (f : Field) (x t : Tree) → IsAmong g f x t
      → HasMore MayGoAt (map (move_placed g) (map (field_in path) (picked field_names no_names x))) (map (field_in (path_of g path)) (picked field_names no_names t))
  among_placed path f _ _ (Found rest) =
      first_more (move_placed g) MayGoAt (field_in (path_of g path) f.name ∷ []) (map (field_in path) (picked field_names no_names rest)) _ (each MayGoAt (field_in (path_of g path) f.name ∷ []) (refl, tt))
      (ap (map (field_in (path_of g path))) (fields_picked g rest) ∙ fields_placed path (picked field_names no_names rest))
  among_placed path f _ _ (FurtherOn a x t h) =
      more_as (move_placed g) MayGoAt (ap (map (move_placed g)) (map_append (field_in path) (field_names a) (picked field_names no_names x))) (map_append (field_in (path_of g path)) (field_names (move_statement g a)) (picked field_names no_names t))
      (behind_more (move_placed g) MayGoAt (map (field_in path) (picked field_names no_names x)) _ (map (field_in path) (field_names a)) (map (field_in (path_of g path)) (field_names (move_statement g a)))
      (ap (map (field_in (path_of g path))) (field_names_moved g a) ∙ fields_placed path (field_names a)) (among_placed path f x t h))

  among_uses : (P : Used ℕ → Type 0) (around scope : List (Source ℕ)) (f : Field) (x t : Tree) → ((u : Used ℕ) → Contains (statement_uses (path_of g around) (path_of g scope) (statement.Field f)) u → P u) → IsAmong g f x t
      → HasMore P (map (shifted_used g) (flat_uses around scope x)) (flat_uses (path_of g around) (path_of g scope) t)
  among_uses P around scope f _ _ so (Found rest) =
      let new : List (Used ℕ) = statement_uses (path_of g around) (path_of g scope) (statement.Field f) in
      first_more (shifted_used g) P new (flat_uses around scope rest) (flat_uses (path_of g around) (path_of g scope) (move_tree g rest)) so (flat_uses_moved g around scope rest)
  among_uses P around scope f _ _ so (FurtherOn a x t h) =
      behind_more (shifted_used g) P (flat_uses around scope x) _ (statement_uses around scope a) (statement_uses (path_of g around) (path_of g scope) (move_statement g a)) (statement_moved g around scope a) (among_uses P around scope f x t so h)

-- ---- in a message

module _ (g k : Move) (w : WrittenField) (r : Reservation) (P : Used ℕ → Type 0) (so : (around scope : List (Source ℕ)) (u : Used ℕ) → Contains (statement_uses around scope (statement_of w)) u → P u) where
  old_members : (path : List (Source ℕ)) (x t u : Tree) → IsDeletedRight g k w r x t u → HasMore MayGoAt (map (move_placed g) (all_placed path (members_in x))) (all_placed (path_of g path) (members_in t))
  old_members path _ _ _ (AtField rest) =
      more_as (move_placed g) MayGoAt refl (added_first (path_of g path) w (move_tree g rest))
      (first_more (move_placed g) MayGoAt (added (path_of g path) w) (all_placed path (members_in rest)) (all_placed (path_of g path) (members_in (move_tree g rest))) (added_may (path_of g path) w) (members_moved g path rest))
  old_members path _ _ _ (AtOneof h f i x t j rest is some at) =
      before_more (move_placed g) MayGoAt (beside path h.name kind.Oneof kind.Field (picked field_names no_names x)) _ (all_placed path (members_in rest)) (all_placed (path_of g path) (members_in (move_tree g rest))) (members_moved g path rest)
      (behind_more (move_placed g) MayGoAt (map (field_in g path) (picked field_names no_names x)) _ (place path (Token h.name) kind.Oneof ∷ []) (place (path_of g path) (Token (g h.name)) kind.Oneof ∷ []) refl (among_placed g path f x t at))
  old_members path _ _ _ (PastLeaf a x t u sw) = past_leaf g path a x t (old_members path x t u sw)
  old_members path _ _ _ (PastBlock h i within j x t u sw) = past_block g path h i within j x t (old_members path x t u sw)

  new_members : (path : List (Source ℕ)) (x t u : Tree) → IsDeletedRight g k w r x t u → all_placed (path_of k path) (members_in u) ≡ map (move_placed k) (all_placed path (members_in x))
  new_members path _ _ _ (AtField rest) = members_moved k path rest
  new_members path _ _ _ (AtOneof h f i x t j rest is some at) = members_moved k path (Block (header.Oneof h) i x j rest)
  new_members path _ _ _ (PastLeaf a x t u sw) = same_leaf k path a x u (new_members path x t u sw)
  new_members path _ _ _ (PastBlock h i within j x t u sw) = same_block k path h i within j x u (new_members path x t u sw)

  old_uses : (around scope : List (Source ℕ)) (x t u : Tree) → IsDeletedRight g k w r x t u → HasMore P (map (shifted_used g) (member_uses around scope x)) (member_uses (path_of g around) (path_of g scope) t)
  old_uses around scope _ _ _ (AtField rest) =
      let new : List (Used ℕ) = statement_uses (path_of g around) (path_of g scope) (statement_of w) in
      first_more (shifted_used g) P new (member_uses around scope rest) (member_uses (path_of g around) (path_of g scope) (move_tree g rest)) (so (path_of g around) (path_of g scope)) (member_uses_moved g around scope rest)
  old_uses around scope _ _ _ (AtOneof h f i x t j rest is some at) =
      before_more (shifted_used g) P (flat_uses scope scope x) _ (member_uses around scope rest) (member_uses (path_of g around) (path_of g scope) (move_tree g rest)) (member_uses_moved g around scope rest)
      (among_uses g P scope scope f x t (subst (λ v. (u : Used ℕ) → Contains (statement_uses (path_of g scope) (path_of g scope) (statement_of v)) u → P u) is (so (path_of g scope) (path_of g scope))) at)
  old_uses around scope _ _ _ (PastLeaf a x t u sw) =
      behind_more (shifted_used g) P (member_uses around scope x) _ (statement_uses around scope a) (statement_uses (path_of g around) (path_of g scope) (move_statement g a)) (statement_moved g around scope a) (old_uses around scope x t u sw)
  old_uses around scope _ _ _ (PastBlock h i within j x t u sw) = uses_past_block g P around scope h i within j x t (old_uses around scope x t u sw)

  new_uses : (around scope : List (Source ℕ)) (x t u : Tree) → IsDeletedRight g k w r x t u → member_uses (path_of k around) (path_of k scope) u ≡ map (shifted_used k) (member_uses around scope x)
  new_uses around scope _ _ _ (AtField rest) = member_uses_moved k around scope rest
  new_uses around scope _ _ _ (AtOneof h f i x t j rest is some at) = member_uses_moved k around scope (Block (header.Oneof h) i x j rest)
  new_uses around scope _ _ _ (PastLeaf a x t u sw) = both_moved k (statement_uses around scope a) (member_uses around scope x) _ _ (statement_moved k around scope a) (new_uses around scope x t u sw)
  new_uses around scope _ _ _ (PastBlock h i within j x t u sw) = uses_same_block k around scope h i within j x u (new_uses around scope x t u sw)

  -- among the items of a message, at any depth
  pub record InMembers (around path : List (Source ℕ)) (x t u : Tree) : Type 0 where
    pub old : HasMore MayGoAt (map (move_placed g) (all_placed path (members_in x))) (all_placed (path_of g path) (members_in t))
    pub new : all_placed (path_of k path) (members_in u) ≡ map (move_placed k) (all_placed path (members_in x))
    pub old_used : HasMore P (map (shifted_used g) (member_uses around path x)) (member_uses (path_of g around) (path_of g path) t)
    pub new_used : member_uses (path_of k around) (path_of k path) u ≡ map (shifted_used k) (member_uses around path x)

  pub right_in : (around path : List (Source ℕ)) (x t u : Tree) → IsDeletedRight g k w r x t u → InMembers around path x t u
  right_in around path x t u sw = record { old = old_members path x t u sw; new = new_members path x t u sw; old_used = old_uses around path x t u sw; new_used = new_uses around path x t u sw }

  -- a message with these items: itself, and what it uses
  pub message_old : (path : List (Source ℕ)) (h : ℕ) (x t u : Tree) → InMembers path (path ++ Token h ∷ []) x t u
      → HasMore MayGoAt (map (move_placed g) (place path (Token h) kind.Message ∷ all_placed (path ++ Token h ∷ []) (members_in x))) (place (path_of g path) (Token (g h)) kind.Message ∷ all_placed (path_of g path ++ Token (g h) ∷ []) (members_in t))
  message_old path h x t u v =
      behind_more (move_placed g) MayGoAt (all_placed (path ++ Token h ∷ []) (members_in x)) _ (place path (Token h) kind.Message ∷ []) (place (path_of g path) (Token (g h)) kind.Message ∷ []) refl
      (more_as (move_placed g) MayGoAt refl (ap (λ p. all_placed p (members_in t)) (sym (path_more g path (Token h)))) v.old)

  pub message_new : (path : List (Source ℕ)) (h : ℕ) (x t u : Tree) → InMembers path (path ++ Token h ∷ []) x t u
      → place (path_of k path) (Token (k h)) kind.Message ∷ all_placed (path_of k path ++ Token (k h) ∷ []) (members_in u) ≡ map (move_placed k) (place path (Token h) kind.Message ∷ all_placed (path ++ Token h ∷ []) (members_in x))
  message_new path h x t u v = ap (λ (z : List Placed). place (path_of k path) (Token (k h)) kind.Message ∷ z) (ap (λ p. all_placed p (members_in u)) (sym (path_more k path (Token h))) ∙ v.new)

  pub message_used : (path : List (Source ℕ)) (h : ℕ) (x t u : Tree) → InMembers path (path ++ Token h ∷ []) x t u
      → HasMore P (map (shifted_used g) (member_uses path (path ++ Token h ∷ []) x)) (member_uses (path_of g path) (path_of g path ++ Token (g h) ∷ []) t)
  message_used path h x t u v = more_as (shifted_used g) P refl (ap (λ p. member_uses (path_of g path) p t) (sym (path_more g path (Token h)))) v.old_used

  in_message : (around path : List (Source ℕ)) (h : Heading) (i : ℕ) (x t u : Tree) (j : ℕ) (rest : Tree) → InMembers path (path ++ Token h.name ∷ []) x t u
      → InMembers around path (Block (header.Message h) i x j rest) (Block (move_header g (header.Message h)) (g i) t (g j) (move_tree g rest)) (Block (move_header k (header.Message h)) (k i) u (k j) (move_tree k rest))
  in_message around path h i x t u j rest v = record {
    old = before_more (move_placed g) MayGoAt (place path (Token h.name) kind.Message ∷ all_placed (path ++ Token h.name ∷ []) (members_in x)) _ (all_placed path (members_in rest)) (all_placed (path_of g path) (members_in (move_tree g rest))) (members_moved g path rest) (message_old path h.name x t u v);
    new = both_placed k (place path (Token h.name) kind.Message ∷ all_placed (path ++ Token h.name ∷ []) (members_in x)) (all_placed path (members_in rest)) _ _ (message_new path h.name x t u v) (members_moved k path rest);
    old_used = before_more (shifted_used g) P (member_uses path (path ++ Token h.name ∷ []) x) _ (member_uses around path rest) (member_uses (path_of g around) (path_of g path) (move_tree g rest)) (member_uses_moved g around path rest) (message_used path h.name x t u v);
    new_used = both_moved k (member_uses path (path ++ Token h.name ∷ []) x) (member_uses around path rest) _ _ (ap (λ p. member_uses (path_of k path) p u) (sym (path_more k path (Token h.name))) ∙ v.new_used) (member_uses_moved k around path rest);
  }

  pub deeper_in : (around path : List (Source ℕ)) (x t u : Tree) → IsDeletedIn g k w r x t u → InMembers around path x t u
  deeper_in around path _ _ _ (InMessage h i x t u j rest sw) = in_message around path h i x t u j rest (right_in path (path ++ Token h.name ∷ []) x t u sw)
  deeper_in around path _ _ _ (Deeper h i x t u j rest sw) = in_message around path h i x t u j rest (deeper_in path (path ++ Token h.name ∷ []) x t u sw)
  deeper_in around path _ _ _ (BehindLeaf a x t u sw) =
      let v = deeper_in around path x t u sw in
      record {
        old = past_leaf g path a x t v.old;
        new = same_leaf k path a x u v.new;
        old_used = behind_more (shifted_used g) P (member_uses around path x) _ (statement_uses around path a) (statement_uses (path_of g around) (path_of g path) (move_statement g a)) (statement_moved g around path a) v.old_used;
        new_used = both_moved k (statement_uses around path a) (member_uses around path x) _ _ (statement_moved k around path a) v.new_used;
      }
  deeper_in around path _ _ _ (BehindBlock h i within j x t u sw) =
      let v = deeper_in around path x t u sw in
      record {
        old = past_block g path h i within j x t v.old;
        new = same_block k path h i within j x u v.new;
        old_used = uses_past_block g P around path h i within j x t v.old_used;
        new_used = uses_same_block k around path h i within j x u v.new_used;
      }
