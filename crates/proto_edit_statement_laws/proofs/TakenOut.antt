-- A statement that is taken out of a message or a oneof, and items that come in its place, or behind the oneof (for the crates above).
use Rattle.std.proofs.Common.{◌≡◌, ℕ, suc, ◌+◌, ◌<◌, ◌≤◌, true, Option, Some, None, List, ◌++◌, length, map, refl, sym, ap, ap₂, subst, ◌∙◌, arith, append_assoc, length-append}
use Rattle.std.proofs.lemmas.List.{length-map}
use Rattle.proto_tree.specs.declared.class.Class.TheVariants as class
use Rattle.proto_tree.specs.declared.context.Context.{Context}
use Rattle.proto_tree.specs.declared.context.Context.TheVariants as context
use Rattle.proto_tree.specs.declared.context.Kind.TheVariants as kind
use Rattle.proto_tree.specs.declared.piece.Header.{Header}
use Rattle.proto_tree.specs.declared.piece.Header.TheVariants as header
use Rattle.proto_tree.specs.declared.piece.Statement.{Statement}
use Rattle.proto_tree.proofs.Common.{Mark, one, flat_header, flat_statement, Numbered, Move, move_header, move_statement, move_tree, shift, Tree, End, Leaf, Block, flat, statement_kind, header_kind, allows, after, IsWellFormed, last_of, joined_trees, numbered_append, flat-joined, after_inner, header_kind_moved, kind_moved}
use Rattle.proto_edit_statement_laws.specs.Common.{StandsAt, InMessage, InOneof, Deeper, PastLeaf, PastBlock, StandsIn, First, AfterLeaf, AfterBlock, IsExchanged, Here, Later, Inside, Behind, before}
use Rattle.proto_edit_statement_laws.proofs.Endings.{nothing_behind}
use Rattle.proto_edit_statement_laws.proofs.Exchanged.{around}
use Rattle.proto_edit_statement_laws.proofs.Reversed.{header_long, statement_long, tree_long}

-- ---- where it stands

-- how many tokens stand before the statement
abbrev pub before_it : {s : Statement} {t : Tree} → StandsIn s t → ℕ
before_it (First rest) = 0
before_it (AfterLeaf x rest h) = length (flat_statement x) + before_it h
before_it (AfterBlock k i within j rest h) = length (flat (Block k i within j End)) + before_it h

abbrev pub before_field : {s : Statement} {o : Option ℕ} {t : Tree} → StandsAt s o t → ℕ
before_field (InMessage h i within j rest at) = length (flat_header (header.Message h) ++ one class.Open i) + before_it at
before_field (InOneof h i within j rest at) = length (flat_header (header.Oneof h) ++ one class.Open i) + before_it at
before_field (Deeper o h i within j rest at) = length (flat_header (header.Message h) ++ one class.Open i) + before_field at
before_field (PastLeaf o x rest at) = length (flat_statement x) + before_field at
before_field (PastBlock o h i within j rest at) = length (flat (Block h i within j End)) + before_field at

-- and through the statement, or through its oneof
abbrev pub through : {s : Statement} {o : Option ℕ} {t : Tree} → StandsAt s o t → ℕ
through {s} (InMessage h i within j rest at) = length (flat_header (header.Message h) ++ one class.Open i) + (before_it at + length (flat_statement s))
through (InOneof h i within j rest at) = length (flat (Block (header.Oneof h) i within j End))
through (Deeper o h i within j rest at) = length (flat_header (header.Message h) ++ one class.Open i) + through at
through (PastLeaf o x rest at) = length (flat_statement x) + through at
through (PastBlock o h i within j rest at) = length (flat (Block h i within j End)) + through at

-- ---- lengths

pub block_long : (k : Header) (i : ℕ) (within : Tree) (j : ℕ) (rest : Tree) → length (flat (Block k i within j rest)) ≡ length (flat_header k ++ one class.Open i) + (length (flat within) + (1 + length (flat rest)))
block_long k i within j rest =
    length-append (flat_header k ++ one class.Open i) (flat within ++ (one class.Close j ++ flat rest))
    ∙ ap (λ (n : ℕ). length (flat_header k ++ one class.Open i) + n) (length-append (flat within) (one class.Close j ++ flat rest) ∙ ap (λ (n : ℕ). length (flat within) + n) (length-append (one class.Close j) (flat rest)))

pub leaf_long : (s : Statement) → length (flat (Leaf s End)) ≡ length (flat_statement s)
leaf_long s = ap (λ (x : List Mark). length x) (nothing_behind (flat_statement s))

pub exchanged_long : (g : Move) (a b : Tree) (c : Context) (t u : Tree) → IsExchanged g a b c t u → length (flat u) + length (flat a) ≡ length (flat t) + length (flat b)
exchanged_long g a b c t u r =
    let s = around g a b c t u r in
    let x = ap (λ (m : List Mark). length m) s.old ∙ length-append s.front (flat a ++ s.back) ∙ ap (λ (n : ℕ). length s.front + n) (length-append (flat a) s.back) in
    let y = ap (λ (m : List Mark). length m) s.new ∙ length-append (map (shift g) s.front) (flat b ++ map (shift g) s.back) ∙ ap₂ (λ (m n : ℕ). m + n) (length-map s.front (shift g)) (length-append (flat b) (map (shift g) s.back) ∙ ap (λ (n : ℕ). length (flat b) + n) (length-map s.back (shift g))) in
    omega (arith, x, y)

-- ---- the tree without the statement, and with b

-- a oneof stands in a message
oneof_in : (c : Context) → allows c kind.OpenOneof ≡ true → after c kind.OpenOneof ≡ context.Message
oneof_in context.Message e = refl
oneof_in _ e = absurd cc

-- the statement is taken out where n tokens stand before it, and b put in
pub record IsTakenOut (g k : Move) (s : Statement) (b : Tree) (c d : Context) (t : Tree) (n p : ℕ) : Type 0 where
  pub middle : Tree
  pub taken : IsExchanged g (Leaf s End) End c t middle
  pub taken_at : before taken ≡ n
  pub tree : Tree
  pub put : IsExchanged k End b d middle tree
  pub put_at : before put + length (flat_statement s) ≡ p

module _ (g k : Move) (s : Statement) where
  -- among items of a context that none of them changes, with b in place of the statement
  among : (b : Tree) (c d : Context) (t : Tree) → d ≡ c → allows c kind.Close ≡ true → IsWellFormed c b → last_of c b ≡ c → (h : StandsIn s t) → IsTakenOut g k s b c d t (before_it h) (before_it h + length (flat_statement s))
  among b c d _ e inner fine stays (First rest) = record {
    middle = move_tree g rest;
    taken = Here c rest tt (λ w. subst (λ x. IsWellFormed x rest) (after_inner c (statement_kind s) inner) w);
    taken_at = refl;
    tree = joined_trees b (move_tree k (move_tree g rest));
    put = Here d (move_tree g rest) (subst (λ x. IsWellFormed x b) (sym e) fine) (λ w. subst (λ x. IsWellFormed x (move_tree g rest)) (e ∙ sym stays ∙ ap (λ x. last_of x b) (sym e)) w);
    put_at = refl;
  }
  among b c d _ e inner fine stays (AfterLeaf x rest h) =
      let same = after_inner c (statement_kind x) inner in
      let v = among b (after c (statement_kind x)) (after d (statement_kind (move_statement g x))) rest (ap₂ after e (kind_moved g x)) (ap (λ y. allows y kind.Close) same ∙ inner)
      (subst (λ y. IsWellFormed y b) (sym same) fine) (ap (λ y. last_of y b) same ∙ stays ∙ sym same) h in
      record {
        middle = Leaf (move_statement g x) v.middle;
        taken = Later c x rest v.middle v.taken;
        taken_at = ap (λ (n : ℕ). length (flat_statement x) + n) v.taken_at;
        tree = Leaf (move_statement k (move_statement g x)) v.tree;
        put = Later d (move_statement g x) v.middle v.tree v.put;
        put_at = (let q = v.put_at in omega (arith, q, statement_long g x));
      }
  among b c d _ e inner fine stays (AfterBlock x i within j rest h) =
      let same = after_inner c (header_kind x) inner in
      let v = among b (after c (header_kind x)) (after d (header_kind (move_header g x))) rest (ap₂ after e (header_kind_moved g x)) (ap (λ y. allows y kind.Close) same ∙ inner)
      (subst (λ y. IsWellFormed y b) (sym same) fine) (ap (λ y. last_of y b) same ∙ stays ∙ sym same) h in
      record {
        middle = Block (move_header g x) (g i) (move_tree g within) (g j) v.middle;
        taken = Behind c x i within j rest v.middle v.taken;
        taken_at = ap (λ (n : ℕ). length (flat (Block x i within j End)) + n) v.taken_at;
        tree = Block (move_header k (move_header g x)) (k (g i)) (move_tree k (move_tree g within)) (k (g j)) v.tree;
        put = Behind d (move_header g x) (g i) (move_tree g within) (g j) v.middle v.tree v.put;
        put_at = (let q = v.put_at in omega (arith, q, tree_long g (Block x i within j End)));
      }

  module _ (b : Tree) (fine : IsWellFormed context.Message b) (stays : last_of context.Message b ≡ context.Message) where
    pub take_out : (c d : Context) (t : Tree) {o : Option ℕ} → d ≡ c → IsWellFormed c t → (h : StandsAt s o t) → IsTakenOut g k s b c d t (before_field h) (through h)
    take_out c d _ e w (InMessage h i within j rest at) =
        let v = among b context.Message context.Message within refl refl fine stays at in
        let x : Header = header.Message h in
        record {
          middle = Block (move_header g x) (g i) v.middle (g j) (move_tree g rest);
          taken = Inside c x i within v.middle j rest v.taken;
          taken_at = ap (λ (n : ℕ). length (flat_header (header.Message h) ++ one class.Open i) + n) v.taken_at;
          tree = Block (move_header k (move_header g x)) (k (g i)) v.tree (k (g j)) (move_tree k (move_tree g rest));
          put = Inside d (move_header g x) (g i) v.middle v.tree (g j) (move_tree g rest) v.put;
          put_at = (let q = v.put_at in omega (arith, q));
        }
    take_out c d _ e w (InOneof h i within j rest at) =
        let v = among End context.Oneof context.Oneof within refl refl tt refl at in
        let x : Header = header.Oneof h in
        let in_message = oneof_in d (ap (λ y. allows y kind.OpenOneof) e ∙ w.0) in
        let long = exchanged_long g (Leaf s End) End context.Oneof within v.middle v.taken in
        record {
          middle = Block (move_header g x) (g i) v.middle (g j) (move_tree g rest);
          taken = Inside c x i within v.middle j rest v.taken;
          taken_at = ap (λ (n : ℕ). length (flat_header (header.Oneof h) ++ one class.Open i) + n) v.taken_at;
          tree = Block (move_header k (move_header g x)) (k (g i)) (move_tree k v.middle) (k (g j)) (joined_trees b (move_tree k (move_tree g rest)));
          put = Behind d (move_header g x) (g i) v.middle (g j) (move_tree g rest) (joined_trees b (move_tree k (move_tree g rest)))
              (Here (after d kind.OpenOneof) (move_tree g rest) (subst (λ y. IsWellFormed y b) (sym in_message) fine)
              (λ y. subst (λ z. IsWellFormed z (move_tree g rest)) (in_message ∙ sym (ap (λ z. last_of z b) in_message ∙ stays)) y));
          put_at = omega (arith, long, leaf_long s, block_long (move_header g x) (g i) v.middle (g j) End, block_long x i within j End);
        }
    take_out c d _ e w (Deeper _ h i within j rest at) =
        let x : Header = header.Message h in
        let v = take_out context.Message context.Message within refl w.1 at in
        record {
          middle = Block (move_header g x) (g i) v.middle (g j) (move_tree g rest);
          taken = Inside c x i within v.middle j rest v.taken;
          taken_at = ap (λ (n : ℕ). length (flat_header (header.Message h) ++ one class.Open i) + n) v.taken_at;
          tree = Block (move_header k (move_header g x)) (k (g i)) v.tree (k (g j)) (move_tree k (move_tree g rest));
          put = Inside d (move_header g x) (g i) v.middle v.tree (g j) (move_tree g rest) v.put;
          put_at = (let q = v.put_at in omega (arith, q, header_long g x i));
        }
    take_out c d _ e w (PastLeaf _ x rest at) =
        let v = take_out (after c (statement_kind x)) (after d (statement_kind (move_statement g x))) rest (ap₂ after e (kind_moved g x)) w.1 at in
        record {
          middle = Leaf (move_statement g x) v.middle;
          taken = Later c x rest v.middle v.taken;
          taken_at = ap (λ (n : ℕ). length (flat_statement x) + n) v.taken_at;
          tree = Leaf (move_statement k (move_statement g x)) v.tree;
          put = Later d (move_statement g x) v.middle v.tree v.put;
          put_at = (let q = v.put_at in omega (arith, q, statement_long g x));
        }
    take_out c d _ e w (PastBlock _ x i within j rest at) =
        let v = take_out (after c (header_kind x)) (after d (header_kind (move_header g x))) rest (ap₂ after e (header_kind_moved g x)) w.2 at in
        record {
          middle = Block (move_header g x) (g i) (move_tree g within) (g j) v.middle;
          taken = Behind c x i within j rest v.middle v.taken;
          taken_at = ap (λ (n : ℕ). length (flat (Block x i within j End)) + n) v.taken_at;
          tree = Block (move_header k (move_header g x)) (k (g i)) (move_tree k (move_tree g within)) (k (g j)) v.tree;
          put = Behind d (move_header g x) (g i) (move_tree g within) (g j) v.middle v.tree v.put;
          put_at = (let q = v.put_at in omega (arith, q, tree_long g (Block x i within j End)));
        }

-- ---- the index of what stands behind

pub through_message : {s : Statement} {o : Option ℕ} (t : Tree) → o ≡ None → (h : StandsAt s o t) → through h ≡ before_field h + length (flat_statement s)
through_message {s} _ e (InMessage h i within j rest at) = omega arith
through_message {s} _ e (InOneof h i within j rest at) = absurd cc
through_message {s} _ e (Deeper _ h i within j rest at) = let r = through_message within e at in omega (arith, r)
through_message {s} _ e (PastLeaf _ x rest at) = let r = through_message rest e at in omega (arith, r)
through_message {s} _ e (PastBlock _ x i within j rest at) = let r = through_message rest e at in omega (arith, r)

pub stands_within : {s : Statement} (t : Tree) (h : StandsIn s t) → before_it h + length (flat_statement s) ≤ length (flat t)
stands_within {s} _ (First rest) = omega (arith, length-append (flat_statement s) (flat rest))
stands_within {s} _ (AfterLeaf x rest h) = let r = stands_within rest h in omega (arith, r, length-append (flat_statement x) (flat rest))
stands_within {s} _ (AfterBlock x i within j rest h) = let r = stands_within rest h in omega (arith, r, block_long x i within j rest, block_long x i within j End)

-- the mark of the oneof's brace is the last of those
pub record IsClosed (t : Tree) (j n : ℕ) : Type 0 where
  pub front : List Mark
  pub back : List Mark
  pub parts : flat t ≡ front ++ (one class.Close j ++ back)
  pub long : suc (length front) ≡ n

pub closed : {s : Statement} {j : ℕ} (t : Tree) (h : StandsAt s (Some j) t) → IsClosed t j (through h) × (before_field h + length (flat_statement s) < through h)
closed {j = j} _ (InOneof h i within _ rest at) =
    let head : List Mark = flat_header (header.Oneof h) ++ one class.Open i in
    let r = stands_within within at in (
      record {
        front = head ++ flat within;
        back = flat rest;
        parts = sym (append_assoc head (flat within) (one class.Close j ++ flat rest));
        long = omega (arith, length-append head (flat within), block_long (header.Oneof h) i within j End);
      },
      omega (arith, r, block_long (header.Oneof h) i within j End),
    )
closed {j = j} _ (Deeper _ h i within y rest at) =
    let head : List Mark = flat_header (header.Message h) ++ one class.Open i in
    let tail : List Mark = one class.Close y ++ flat rest in
    let both = closed within at in
    let r = both.0 in
    let inner = r.long in
    let less = both.1 in (
      record {
        front = head ++ r.front;
        back = r.back ++ tail;
        parts = ap (λ (z : List Mark). head ++ (z ++ tail)) r.parts ∙ ap (λ (z : List Mark). head ++ z) (append_assoc r.front (one class.Close j ++ r.back) tail) ∙ sym (append_assoc head r.front (one class.Close j ++ (r.back ++ tail)));
        long = omega (arith, length-append head r.front, inner);
      },
      omega (arith, less),
    )
closed {j = j} _ (PastLeaf _ x rest at) =
    let both = closed rest at in
    let r = both.0 in
    let inner = r.long in
    let less = both.1 in (
      record {
        front = flat_statement x ++ r.front;
        back = r.back;
        parts = ap (λ (z : List Mark). flat_statement x ++ z) r.parts ∙ sym (append_assoc (flat_statement x) r.front (one class.Close j ++ r.back));
        long = omega (arith, length-append (flat_statement x) r.front, inner);
      },
      omega (arith, less),
    )
closed {j = j} _ (PastBlock _ x i within y rest at) =
    let head : List Mark = flat (Block x i within y End) in
    let both = closed rest at in
    let r = both.0 in
    let inner = r.long in
    let less = both.1 in (
      record {
        front = head ++ r.front;
        back = r.back;
        parts = flat-joined (Block x i within y End) rest ∙ ap (λ (z : List Mark). head ++ z) r.parts ∙ sym (append_assoc head r.front (one class.Close j ++ r.back));
        long = omega (arith, length-append head r.front, inner);
      },
      omega (arith, less),
    )

-- marks that are numbered from 0 have their index as their place
pub close_at : (t : Tree) (j n : ℕ) → Numbered 0 (flat t) → IsClosed t j n → suc j ≡ n
close_at t j n num c =
    let p = numbered_append 0 c.front (one class.Close j ++ c.back) (subst (Numbered 0) c.parts num) in
    let is = p.1.0 in
    let long = c.long in
    omega (arith, is, long)
