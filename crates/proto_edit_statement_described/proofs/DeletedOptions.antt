-- The options of a tree from which a field goes: each was there (for the crates above).
use Rattle.std.proofs.Common.{◌≡◌, ℕ, inl, inr, List, [], ◌++◌, refl, sym, ◌∙◌, subst, Contains, append-nil, codes}
use Rattle.proto_base.proofs.Common.{Contains-append_cases, Contains-append_left, Contains-append_right, contains_map, from_map}
use Rattle.proto_base.specs.Texts.{Text}
use Rattle.proto_custom_options.specs.CustomOptions.{CustomOf, customs_below, options_of_block, statement_customs}
use Rattle.proto_tree.specs.declared.piece.Header.{Header}
use Rattle.proto_tree.specs.declared.piece.Statement.{Statement}
use Rattle.proto_tree.specs.declared.piece.Statement.TheVariants as statement
use Rattle.proto_tree.specs.declared.tree.Field.{Field}
use Rattle.proto_tree.proofs.Common.{Move, move_header, move_statement, move_tree, Tree, End, Leaf, Block}
use Rattle.proto_edit_statement_described.specs.Deletions.{AtField, AtOneof, BehindBlock, BehindLeaf, Deeper, Found, FurtherOn, InMessage, IsAmong, IsDeletedIn, IsDeletedRight, PastBlock, PastLeaf, Reservation, WrittenField, statement_of}
use Rattle.proto_edit_statement_laws.proofs.OptionsMoved.{below_moved}
use Rattle.proto_edit_statement_laws.specs.Options.{move_custom_of}

-- the option is one of these, its tokens moved back by the one map and on by the other
pub record IsOneOf (g k : Move) (cs : List CustomOf) (d : CustomOf) : Type 0 where
  pub middle : CustomOf
  pub was : Contains cs (move_custom_of g middle)
  pub is : d ≡ move_custom_of k middle

module _ (g k : Move) where
  of_more : (cs more : List CustomOf) (d : CustomOf) → ((c : CustomOf) → Contains cs c → Contains more c) → IsOneOf g k cs d → IsOneOf g k more d
  of_more cs more d f o = record { middle = o.middle; was = f (move_custom_of g o.middle) o.was; is = o.is }

  of_both : (es bs cs ds : List CustomOf) (d : CustomOf) → (Contains es d → IsOneOf g k cs d) → (Contains bs d → IsOneOf g k ds d) → Contains (es ++ bs) d → IsOneOf g k (cs ++ ds) d
  of_both es bs cs ds d f h c = elim (Contains-append_cases es bs d c) [
    | inl a ↦ of_more cs (cs ++ ds) d (λ z q. Contains-append_left cs ds z q) (f a)
    | inr b ↦ of_more ds (cs ++ ds) d (λ z q. Contains-append_right cs ds z q) (h b)
  ]

  -- of a tree that is moved
  of_moved : (message : Text) (y : Tree) (d : CustomOf) → Contains (customs_below message (move_tree k y)) d → IsOneOf g k (customs_below message (move_tree g y)) d
  of_moved message y d c =
      let m = from_map (move_custom_of k) (customs_below message y) d (subst (λ cs. Contains cs d) (below_moved k message y) c) in
      record { middle = m.0; was = subst (λ cs. Contains cs (move_custom_of g m.0)) (sym (below_moved g message y)) (contains_map (move_custom_of g) (customs_below message y) m.0 m.1); is = sym m.2 }

  -- of what stands before: one moved item
  of_front : (message : Text) (y : Tree) (es cs : List CustomOf) (d : CustomOf) → customs_below message (move_tree k y) ≡ es ++ [] → customs_below message (move_tree g y) ≡ cs ++ [] → Contains es d → IsOneOf g k cs d
  of_front message y es cs d e f c =
      subst (λ (z : List CustomOf). IsOneOf g k z d) (f ∙ append-nil cs)
      (of_moved message y d (subst (λ z. Contains z d) (sym (append-nil es) ∙ sym e) c))

  -- ---- where the field goes

  -- with the field among its fields, a oneof has all that it has without
  among : (f : Field) (message : Text) (x t : Tree) → IsAmong g f x t → (c : CustomOf) → Contains (customs_below message (move_tree g x)) c → Contains (customs_below message t) c
  among f message _ _ (Found rest) c h = Contains-append_right (statement_customs message (statement.Field f)) (customs_below message (move_tree g rest)) c h
  among f message _ _ (FurtherOn a x t is) c h = elim (Contains-append_cases (statement_customs message (move_statement g a)) (customs_below message (move_tree g x)) c h) [
    | inl own ↦ Contains-append_left (statement_customs message (move_statement g a)) (customs_below message t) c own
    | inr later ↦ Contains-append_right (statement_customs message (move_statement g a)) (customs_below message t) c (among f message x t is c later)
  ]

  module _ (w : WrittenField) (r : Reservation) where
    behind_leaf : (message : Text) (a : Statement) (t u : Tree) (d : CustomOf) → (Contains (customs_below message u) d → IsOneOf g k (customs_below message t) d) → Contains (customs_below message (Leaf (move_statement k a) u)) d → IsOneOf g k (customs_below message (Leaf (move_statement g a) t)) d
    behind_leaf message a t u d later c =
        of_both (statement_customs message (move_statement k a)) (customs_below message u) (statement_customs message (move_statement g a)) (customs_below message t) d
        (of_front message (Leaf a End) (statement_customs message (move_statement k a)) (statement_customs message (move_statement g a)) d refl refl) later c

    behind_block : (message : Text) (h : Header) (i : ℕ) (inner : Tree) (j : ℕ) (t u : Tree) (d : CustomOf) → (Contains (customs_below message u) d → IsOneOf g k (customs_below message t) d)
        → Contains (customs_below message (Block (move_header k h) (k i) (move_tree k inner) (k j) u)) d → IsOneOf g k (customs_below message (Block (move_header g h) (g i) (move_tree g inner) (g j) t)) d
    behind_block message h i inner j t u d later c =
        let es = customs_below (options_of_block (move_header k h)) (move_tree k inner) in
        let cs = customs_below (options_of_block (move_header g h)) (move_tree g inner) in
        of_both es (customs_below message u) cs (customs_below message t) d (of_front message (Block h i inner j End) es cs d refl refl) later c

    of_right : (message : Text) (x t u : Tree) → IsDeletedRight g k w r x t u → (d : CustomOf) → Contains (customs_below message u) d → IsOneOf g k (customs_below message t) d
    of_right message _ _ _ (AtField rest) d c =
        let own = statement_customs message (statement_of w) in
        of_more (customs_below message (move_tree g rest)) (own ++ customs_below message (move_tree g rest)) d (λ z q. Contains-append_right own (customs_below message (move_tree g rest)) z q) (of_moved message rest d c)
    of_right message _ _ _ (AtOneof h f i x t j rest same some at) d c =
        of_both (customs_below (codes "OneofOptions") (move_tree k x)) (customs_below message (move_tree k rest)) (customs_below (codes "OneofOptions") t) (customs_below message (move_tree g rest)) d
        (λ q. of_more (customs_below (codes "OneofOptions") (move_tree g x)) (customs_below (codes "OneofOptions") t) d (among f (codes "OneofOptions") x t at) (of_moved (codes "OneofOptions") x d q)) (of_moved message rest d) c
    of_right message _ _ _ (PastLeaf a x t u sw) d c = behind_leaf message a t u d (of_right message x t u sw d) c
    of_right message _ _ _ (PastBlock h i inner j x t u sw) d c = behind_block message h i inner j t u d (of_right message x t u sw d) c

    -- of the whole tree
    pub of_tree : (message : Text) (x t u : Tree) → IsDeletedIn g k w r x t u → (d : CustomOf) → Contains (customs_below message u) d → IsOneOf g k (customs_below message t) d
    of_tree message _ _ _ (InMessage h i x t u j rest sw) d c =
        of_both (customs_below (codes "MessageOptions") u) (customs_below message (move_tree k rest)) (customs_below (codes "MessageOptions") t) (customs_below message (move_tree g rest)) d
        (of_right (codes "MessageOptions") x t u sw d) (of_moved message rest d) c
    of_tree message _ _ _ (Deeper h i x t u j rest sw) d c =
        of_both (customs_below (codes "MessageOptions") u) (customs_below message (move_tree k rest)) (customs_below (codes "MessageOptions") t) (customs_below message (move_tree g rest)) d
        (of_tree (codes "MessageOptions") x t u sw d) (of_moved message rest d) c
    of_tree message _ _ _ (BehindLeaf a x t u sw) d c = behind_leaf message a t u d (of_tree message x t u sw d) c
    of_tree message _ _ _ (BehindBlock h i inner j x t u sw) d c = behind_block message h i inner j t u d (of_tree message x t u sw d) c
