-- One tree without the field and without the reservation, and from it both others.
use Rattle.std.proofs.Common.{◌≡◌, ◌⊎◌, inl, inr, ℕ, suc, ◌+◌, ◌-◌, true, false, Option, Some, None, List, [], ◌∷◌, ◌++◌, length, take, drop, map, refl, sym, ap, ap₂, subst, ◌∙◌, arith, length-take, length-drop, take-append-drop}
use Rattle.proto_base.proofs.Common.{length-map, Contains-append_left, Contains-append_right, contains_head, contains_later}
use Rattle.proto_text.specs.declared.lexer.Token.{Token}
use Rattle.proto_text.proofs.Common.{moved, Lexeme, lexeme_at}
use Rattle.proto_tree.specs.declared.class.Class.TheVariants as class
use Rattle.proto_tree.specs.declared.context.Context.{Context}
use Rattle.proto_tree.specs.declared.context.Context.TheVariants as context
use Rattle.proto_tree.specs.declared.context.Kind.{Kind}
use Rattle.proto_tree.specs.declared.context.Kind.TheVariants as kind
use Rattle.proto_tree.specs.declared.piece.Header.{Header}
use Rattle.proto_tree.specs.declared.piece.Header.TheVariants as header
use Rattle.proto_tree.specs.declared.piece.Heading.{Heading}
use Rattle.proto_tree.specs.declared.piece.Statement.{Statement}
use Rattle.proto_tree.specs.declared.piece.Statement.TheVariants as statement
use Rattle.proto_tree.specs.declared.tree.Field.{Field}
use Rattle.proto_tree.specs.declared.tree.MapField.{MapField}
use Rattle.proto_tree.proofs.Common.{Fit, one, flat_header, flat_statement, Move, move_header, move_heading, move_statement, move_tree, ReadsIn, Tree, End, Leaf, Block, flat, statement_kind, header_kind, allows, after, IsWellFormed, joined_trees, Spells, classes_in, one_tree, trees_are_numbered_in, header_kind_moved, kind_moved}
use Rattle.proto_ast.specs.Parts.{BlockOf, FieldOf, blocks_in, fields_in}
use Rattle.proto_desc_checks.specs.FileFlaws.{is_empty}
use Rattle.proto_edit_statement_laws.proofs.Common.{StandsAt, InMessage as StandsInMessage, InOneof as StandsInOneof, Deeper as StandsDeeper, PastLeaf as StandsPastLeaf, PastBlock as StandsPastBlock, StandsIn, First, AfterLeaf, AfterBlock, first_token, next_token, own, reservation_place, without, IsExchanged, Here, Later, Inside, Behind, before, MovesBy, reservation, reservation_tokens, around, cut_around, statements_are_exchanged, found, moved_moves_by, moves_in, reservation_fits, before_field, before_it, block_long, closed, close_at, leaf_long, through, through_message}
use Rattle.proto_edit_statement_laws.proofs.Reversed.{statement_long, tree_long}
use Rattle.proto_edit_statement_laws.proofs.Deletions.{in_parts}
use Rattle.proto_edit_statement_laws.proofs.TakenOut.{exchanged_long}
use Rattle.proto_edit_statement_described.specs.Deletions.{AtField, AtOneof, BehindBlock, BehindLeaf, Deeper, Found, FurtherOn, InMessage, IsAmong, IsDeletedIn, IsDeletedRight, OfMap, PastBlock, PastLeaf, Plain, Reservation, WrittenField, written_name, reserved, statement_of}
use Rattle.proto_edit_statement_described.specs.Trees.{HasFellows, TreesAreDeleted, reservation_at, to_new, to_old}
use Rattle.proto_desc_checks_laws.proofs.MovedParts.{empty_kept, fields_moved, move_field_of}
use Rattle.proto_base.specs.declared.profile.Profile.{Profile}

-- ---- contexts

not_message : (k : Kind) → (after context.Start k ≡ context.Message → ⊥) × (after context.File k ≡ context.Message → ⊥)
not_message kind.Package = (λ h. start_no h, λ h. start_no h)
  where
    start_no : context.Packaged ≡ context.Message → ⊥
    start_no h = cc
not_message _ = (λ h. file_no h, λ h. file_no h)
  where
    file_no : context.File ≡ context.Message → ⊥
    file_no h = cc

pub was_message : (e : Context) (k : Kind) → after e k ≡ context.Message → e ≡ context.Message
was_message context.Message k h = refl
was_message context.Start k h = absurd ((not_message k).0 h)
was_message context.File k h = absurd ((not_message k).1 h)
was_message _ k h = absurd cc

-- a oneof stands in a message alone
pub in_oneof : (c : Context) → allows c kind.OpenOneof ≡ true → c ≡ context.Message
in_oneof context.Message h = refl
in_oneof _ h = absurd cc

-- and has no block
no_block : (k : Header) → allows context.Oneof (header_kind k) ≡ true → ⊥
no_block (header.Message h) e = cc
no_block whole e = cc

-- and no map field
no_map : (f : MapField) (t : Tree) → StandsIn (statement.MapField f) t → IsWellFormed context.Oneof t → ⊥
no_map f _ (First rest) w = refused w.0
  where
    refused : allows context.Oneof (statement_kind (statement.MapField f)) ≡ true → ⊥
    refused e = cc
no_map f _ (AfterLeaf a rest h) w = no_map f rest h w.1
no_map f _ (AfterBlock k i within j rest h) w = no_map f rest h w.2

may_stand : (w : WrittenField) → allows context.Message (statement_kind (statement_of w)) ≡ true
may_stand (Plain f) = labeled f.label
  where
    labeled : (o : Option ℕ) → allows context.Message (Rattle.proto_tree.specs.Tree.field_kind o) ≡ true
    labeled None = refl
    labeled (Some i) = refl
may_stand (OfMap f) = refl

-- ---- right in a oneof

module _ (d g : Move) where
  record InFellows (w : WrittenField) (f : Field) (t : Tree) (n : ℕ) : Type 0 where
    x : Tree
    some : (map (λ (y : FieldOf). y.name) (fields_in t) ≡ f.name ∷ [] → ⊥) → is_empty (fields_in x) ≡ false
    taken : IsExchanged d (Leaf (statement_of w) End) End context.Oneof t x
    taken_at : before taken ≡ n
    old : Tree
    back : IsExchanged g End (Leaf (statement_of w) End) context.Oneof x old
    back_at : before back ≡ n
    among : IsAmong g f x old

  fellow_behind : (f : Field) (rest : Tree) → (map (λ (y : FieldOf). y.name) (fields_in (Leaf (statement.Field f) rest)) ≡ f.name ∷ [] → ⊥) → is_empty (fields_in (move_tree d rest)) ≡ false
  fellow_behind f rest more = ap is_empty (fields_moved d 0 rest) ∙ empty_kept (move_field_of d) (fields_in rest) ∙ not_nil (fields_in rest) more
    where
      not_nil : (fs : List FieldOf) → (f.name ∷ map (λ (y : FieldOf). y.name) fs ≡ f.name ∷ [] → ⊥) → is_empty fs ≡ false
      not_nil [] m = absurd (m refl)
      not_nil (y ∷ fs) m = refl

  -- one statement more is a field, or there are as many fields as before
  one_more : (f : Field) (a : Statement) (rest x : Tree) → ((map (λ (y : FieldOf). y.name) (fields_in rest) ≡ f.name ∷ [] → ⊥) → is_empty (fields_in x) ≡ false)
      → (map (λ (y : FieldOf). y.name) (fields_in (Leaf a rest)) ≡ f.name ∷ [] → ⊥) → is_empty (fields_in (Leaf (move_statement d a) x)) ≡ false
  one_more f (statement.Field b) rest x some more = refl
  one_more f (statement.MapField b) rest x some more = refl
  one_more f _ rest x some more = some more

  in_fellows : (f : Field) (t : Tree) (h : StandsIn (statement.Field f) t) → IsWellFormed context.Oneof t → InFellows (Plain f) f t (before_it h)
  in_fellows f _ (First rest) w = record {
    x = move_tree d rest;
    some = λ more. fellow_behind f rest more;
    taken = Here context.Oneof rest tt (λ z. z);
    taken_at = refl;
    old = Leaf (statement.Field f) (move_tree g (move_tree d rest));
    back = Here context.Oneof (move_tree d rest) (w.0, tt) (λ z. z);
    back_at = refl;
    among = Found (move_tree d rest);
  }
  in_fellows f _ (AfterLeaf a rest h) w =
      let v = in_fellows f rest h w.1 in
      record {
        x = Leaf (move_statement d a) v.x;
        some = λ more. one_more f a rest v.x v.some more;
        taken = Later context.Oneof a rest v.x v.taken;
        taken_at = ap (λ (n : ℕ). length (flat_statement a) + n) v.taken_at;
        old = Leaf (move_statement g (move_statement d a)) v.old;
        back = Later context.Oneof (move_statement d a) v.x v.old v.back;
        back_at = ap₂ (λ (m n : ℕ). m + n) (statement_long d a) v.back_at;
        among = FurtherOn (move_statement d a) v.x v.old v.among;
      }
  in_fellows f _ (AfterBlock k i within j rest h) w = absurd (no_block k w.0)

  -- its field is a plain one
  plain_in : (w : WrittenField) (t : Tree) (h : StandsIn (statement_of w) t) → IsWellFormed context.Oneof t → (f : Field) × (w ≡ Plain f) × InFellows w f t (before_it h)
  plain_in (Plain f) t h wf = (f, refl, in_fellows f t h wf)
  plain_in (OfMap f) t h wf = absurd (no_map f t h wf)

-- ---- right in a message

module _ (d g k : Move) (w : WrittenField) (r : Reservation) where
  record InMembers (t : Tree) (n : ℕ) : Type 0 where
    x : Tree
    taken : IsExchanged d (Leaf (statement_of w) End) End context.Message t x
    taken_at : before taken ≡ n
    old : Tree
    back : IsExchanged g End (Leaf (statement_of w) End) context.Message x old
    back_at : before back ≡ n
    new : Tree
    put : IsExchanged k End (reserved r) context.Message x new
    put_at : before put ≡ n
    deleted : IsDeletedRight g k w r x old new

  in_members : (t : Tree) (h : StandsIn (statement_of w) t) → InMembers t (before_it h)
  in_members _ (First rest) = record {
    x = move_tree d rest;
    taken = Here context.Message rest tt (λ z. z);
    taken_at = refl;
    old = Leaf (statement_of w) (move_tree g (move_tree d rest));
    back = Here context.Message (move_tree d rest) (may_stand w, tt) (λ z. z);
    back_at = refl;
    new = joined_trees (reserved r) (move_tree k (move_tree d rest));
    put = Here context.Message (move_tree d rest) (refl, (refl, tt)) (λ z. z);
    put_at = refl;
    deleted = AtField (move_tree d rest);
  }
  in_members _ (AfterLeaf a rest h) =
      let v = in_members rest h in
      record {
        x = Leaf (move_statement d a) v.x;
        taken = Later context.Message a rest v.x v.taken;
        taken_at = ap (λ (n : ℕ). length (flat_statement a) + n) v.taken_at;
        old = Leaf (move_statement g (move_statement d a)) v.old;
        back = Later context.Message (move_statement d a) v.x v.old v.back;
        back_at = ap₂ (λ (m n : ℕ). m + n) (statement_long d a) v.back_at;
        new = Leaf (move_statement k (move_statement d a)) v.new;
        put = Later context.Message (move_statement d a) v.x v.new v.put;
        put_at = ap₂ (λ (m n : ℕ). m + n) (statement_long d a) v.put_at;
        deleted = PastLeaf (move_statement d a) v.x v.old v.new v.deleted;
      }
  in_members _ (AfterBlock y i within j rest h) =
      let v = in_members rest h in
      record {
        x = Block (move_header d y) (d i) (move_tree d within) (d j) v.x;
        taken = Behind context.Message y i within j rest v.x v.taken;
        taken_at = ap (λ (n : ℕ). length (flat (Block y i within j End)) + n) v.taken_at;
        old = Block (move_header g (move_header d y)) (g (d i)) (move_tree g (move_tree d within)) (g (d j)) v.old;
        back = Behind context.Message (move_header d y) (d i) (move_tree d within) (d j) v.x v.old v.back;
        back_at = ap₂ (λ (m n : ℕ). m + n) (tree_long d (Block y i within j End)) v.back_at;
        new = Block (move_header k (move_header d y)) (k (d i)) (move_tree k (move_tree d within)) (k (d j)) v.new;
        put = Behind context.Message (move_header d y) (d i) (move_tree d within) (d j) v.x v.new v.put;
        put_at = ap₂ (λ (m n : ℕ). m + n) (tree_long d (Block y i within j End)) v.put_at;
        deleted = PastBlock (move_header d y) (d i) (move_tree d within) (d j) v.x v.old v.new v.deleted;
      }

  -- ---- in a tree

  -- among these items, which are those of a message, or further in
  abbrev Deleted : Context → Tree → Tree → Tree → Type 0
  Deleted e x old new = ((e ≡ context.Message) × IsDeletedRight g k w r x old new) ⊎ IsDeletedIn g k w r x old new

  record InTree (c e : Context) (t : Tree) (n p : ℕ) : Type 0 where
    x : Tree
    taken : IsExchanged d (Leaf (statement_of w) End) End c t x
    taken_at : before taken ≡ n
    old : Tree
    back : IsExchanged g End (Leaf (statement_of w) End) e x old
    back_at : before back ≡ n
    new : Tree
    put : IsExchanged k End (reserved r) e x new
    put_at : before put + length (flat_statement (statement_of w)) ≡ p
    deleted : ((e ≡ context.Message) × IsDeletedRight g k w r x old new) ⊎ IsDeletedIn g k w r x old new

  -- what stands in a message stands deeper
  deeper : (h : Heading) (i : ℕ) (x old new : Tree) (j : ℕ) (rest : Tree) → Deleted context.Message x old new
      → IsDeletedIn g k w r (Block (header.Message h) i x j rest) (Block (move_header g (header.Message h)) (g i) old (g j) (move_tree g rest)) (Block (move_header k (header.Message h)) (k i) new (k j) (move_tree k rest))
  deeper h i x old new j rest (inl v) = InMessage h i x old new j rest v.1
  deeper h i x old new j rest (inr v) = Deeper h i x old new j rest v

  -- the tree within a block, and the one behind it, have the fellows too
  fellows_within : (token : ℕ) (y : Header) (i : ℕ) (within : Tree) (j : ℕ) (rest : Tree) → HasFellows (Block y i within j rest) token → HasFellows within token
  fellows_within token y i within j rest f h b c = f h b (contains_later (let z : BlockOf = record { header = y; within = within } in z) b (blocks_in within ++ blocks_in rest) (Contains-append_left (blocks_in within) (blocks_in rest) b c))

  fellows_behind : (token : ℕ) (y : Header) (i : ℕ) (within : Tree) (j : ℕ) (rest : Tree) → HasFellows (Block y i within j rest) token → HasFellows rest token
  fellows_behind token y i within j rest f h b c = f h b (contains_later (let z : BlockOf = record { header = y; within = within } in z) b (blocks_in within ++ blocks_in rest) (Contains-append_right (blocks_in within) (blocks_in rest) b c))

  fellow : (token : ℕ) (h : Heading) (i : ℕ) (within : Tree) (j : ℕ) (rest : Tree) → HasFellows (Block (header.Oneof h) i within j rest) token → map (λ (y : FieldOf). y.name) (fields_in within) ≡ token ∷ [] → ⊥
  fellow token h i within j rest f = f h (record { header = header.Oneof h; within = within }) (contains_head (let z : BlockOf = record { header = header.Oneof h; within = within } in z) (blocks_in within ++ blocks_in rest)) refl

  in_tree : (c e : Context) (t : Tree) (o : Option ℕ) → e ≡ c → IsWellFormed c t → HasFellows t (written_name w) → (h : StandsAt (statement_of w) o t) → InTree c e t (before_field h) (through h)
  in_tree c e _ _ same wf fs (StandsInMessage h i within j rest at) =
      let v = in_members within at in
      let y : Header = header.Message (move_heading d h) in
      record {
        x = Block y (d i) v.x (d j) (move_tree d rest);
        taken = Inside c (header.Message h) i within v.x j rest v.taken;
        taken_at = ap (λ (n : ℕ). length (flat_header (header.Message h) ++ one class.Open i) + n) v.taken_at;
        old = Block (move_header g y) (g (d i)) v.old (g (d j)) (move_tree g (move_tree d rest));
        back = Inside e y (d i) v.x v.old (d j) (move_tree d rest) v.back;
        back_at = ap (λ (n : ℕ). length (flat_header (header.Message h) ++ one class.Open i) + n) v.back_at;
        new = Block (move_header k y) (k (d i)) v.new (k (d j)) (move_tree k (move_tree d rest));
        put = Inside e y (d i) v.x v.new (d j) (move_tree d rest) v.put;
        put_at = (let q = v.put_at in omega (arith, q));
        deleted = inr (InMessage (move_heading d h) (d i) v.x v.old v.new (d j) (move_tree d rest) v.deleted);
      }
  in_tree c e _ _ same wf fs (StandsInOneof h i within j rest at) =
      let found = plain_in d g w within at wf.1 in
      let f = found.0 in
      let v = found.2 in
      let y : Header = header.Oneof (move_heading d h) in
      let is : e ≡ context.Message = same ∙ in_oneof c wf.0 in
      let long = exchanged_long d (Leaf (statement_of w) End) End context.Oneof within v.x v.taken in
      let named : written_name w ≡ f.name = ap written_name found.1 in
      record {
        x = Block y (d i) v.x (d j) (move_tree d rest);
        taken = Inside c (header.Oneof h) i within v.x j rest v.taken;
        taken_at = ap (λ (n : ℕ). length (flat_header (header.Oneof h) ++ one class.Open i) + n) v.taken_at;
        old = Block (move_header g y) (g (d i)) v.old (g (d j)) (move_tree g (move_tree d rest));
        back = Inside e y (d i) v.x v.old (d j) (move_tree d rest) v.back;
        back_at = ap (λ (n : ℕ). length (flat_header (header.Oneof h) ++ one class.Open i) + n) v.back_at;
        new = Block (move_header k y) (k (d i)) (move_tree k v.x) (k (d j)) (joined_trees (reserved r) (move_tree k (move_tree d rest)));
        put = Behind e y (d i) v.x (d j) (move_tree d rest) (joined_trees (reserved r) (move_tree k (move_tree d rest)))
            (Here (after e kind.OpenOneof) (move_tree d rest) (subst (λ z. IsWellFormed z (reserved r)) (sym (in_message e is)) (refl, (refl, tt))) (λ z. subst (λ z. IsWellFormed z (move_tree d rest)) (in_message e is ∙ sym (ap (λ z. Rattle.proto_tree.specs.Tree.last_of z (reserved r)) (in_message e is))) z));
        put_at = omega (arith, long, leaf_long (statement_of w), block_long y (d i) v.x (d j) End, block_long (header.Oneof h) i within j End);
        deleted = inl (is, AtOneof (move_heading d h) f (d i) v.x v.old (d j) (move_tree d rest) found.1 (v.some (λ alone. fellow (written_name w) h i within j rest fs (alone ∙ ap (λ (n : ℕ). n ∷ []) (sym named)))) v.among);
      }
    where
      in_message : (e : Context) → e ≡ context.Message → after e kind.OpenOneof ≡ context.Message
      in_message e is = ap (λ z. after z kind.OpenOneof) is
  in_tree c e _ o same wf fs (StandsDeeper _ h i within j rest at) =
      let v = in_tree context.Message context.Message within o refl wf.1 (fellows_within (written_name w) (header.Message h) i within j rest fs) at in
      let y : Header = header.Message (move_heading d h) in
      record {
        x = Block y (d i) v.x (d j) (move_tree d rest);
        taken = Inside c (header.Message h) i within v.x j rest v.taken;
        taken_at = ap (λ (n : ℕ). length (flat_header (header.Message h) ++ one class.Open i) + n) v.taken_at;
        old = Block (move_header g y) (g (d i)) v.old (g (d j)) (move_tree g (move_tree d rest));
        back = Inside e y (d i) v.x v.old (d j) (move_tree d rest) v.back;
        back_at = ap (λ (n : ℕ). length (flat_header (header.Message h) ++ one class.Open i) + n) v.back_at;
        new = Block (move_header k y) (k (d i)) v.new (k (d j)) (move_tree k (move_tree d rest));
        put = Inside e y (d i) v.x v.new (d j) (move_tree d rest) v.put;
        put_at = (let q = v.put_at in omega (arith, q));
        deleted = inr (deeper (move_heading d h) (d i) v.x v.old v.new (d j) (move_tree d rest) v.deleted);
      }
  in_tree c e _ o same wf fs (StandsPastLeaf _ a rest at) =
      let v = in_tree (after c (statement_kind a)) (after e (statement_kind (move_statement d a))) rest o (ap₂ after same (kind_moved d a)) wf.1 fs at in
      record {
        x = Leaf (move_statement d a) v.x;
        taken = Later c a rest v.x v.taken;
        taken_at = ap (λ (n : ℕ). length (flat_statement a) + n) v.taken_at;
        old = Leaf (move_statement g (move_statement d a)) v.old;
        back = Later e (move_statement d a) v.x v.old v.back;
        back_at = ap₂ (λ (m n : ℕ). m + n) (statement_long d a) v.back_at;
        new = Leaf (move_statement k (move_statement d a)) v.new;
        put = Later e (move_statement d a) v.x v.new v.put;
        put_at = (let q = v.put_at in omega (arith, q, statement_long d a));
        deleted = elim v.deleted [
          | inl x ↦ inl (was_message e (statement_kind (move_statement d a)) x.0, PastLeaf (move_statement d a) v.x v.old v.new x.1)
          | inr x ↦ inr (BehindLeaf (move_statement d a) v.x v.old v.new x)
        ];
      }
  in_tree c e _ o same wf fs (StandsPastBlock _ y i within j rest at) =
      let v = in_tree (after c (header_kind y)) (after e (header_kind (move_header d y))) rest o (ap₂ after same (header_kind_moved d y)) wf.2 (fellows_behind (written_name w) y i within j rest fs) at in
      record {
        x = Block (move_header d y) (d i) (move_tree d within) (d j) v.x;
        taken = Behind c y i within j rest v.x v.taken;
        taken_at = ap (λ (n : ℕ). length (flat (Block y i within j End)) + n) v.taken_at;
        old = Block (move_header g (move_header d y)) (g (d i)) (move_tree g (move_tree d within)) (g (d j)) v.old;
        back = Behind e (move_header d y) (d i) (move_tree d within) (d j) v.x v.old v.back;
        back_at = ap₂ (λ (m n : ℕ). m + n) (tree_long d (Block y i within j End)) v.back_at;
        new = Block (move_header k (move_header d y)) (k (d i)) (move_tree k (move_tree d within)) (k (d j)) v.new;
        put = Behind e (move_header d y) (d i) (move_tree d within) (d j) v.x v.new v.put;
        put_at = (let q = v.put_at in omega (arith, q, tree_long d (Block y i within j End)));
        deleted = elim v.deleted [
          | inl x ↦ inl (was_message e (header_kind (move_header d y)) x.0, PastBlock (move_header d y) (d i) (move_tree d within) (d j) v.x v.old v.new x.1)
          | inr x ↦ inr (BehindBlock (move_header d y) (d i) (move_tree d within) (d j) v.x v.old v.new x)
        ];
      }

-- ---- the place of the reservation

-- where it is put in, by what stands before it
put_place : (profile : Profile) (text : List ℕ) (tokens : List Token) (t : Tree) (s : Statement) (o : Option ℕ) → ReadsIn profile text tokens t → (h : StandsAt s o t) → (n : ℕ) → n + length (flat_statement s) ≡ through h → n ≡ reservation_place s o
put_place profile text tokens t s None reads h n e =
    let fd = found profile text tokens t s reads h in
    let at = fd.at in
    omega (arith, e, through_message t refl h, at)
put_place profile text tokens t s (Some close) reads h n e =
    let fd = found profile text tokens t s reads h in
    let next = fd.next in
    let closes : suc close ≡ through h = close_at t close (through h) (trees_are_numbered_in profile t (map (lexeme_at text) tokens) reads.spells) (closed t h).0 in
    omega (arith, e, closes, next)

start_no : context.Start ≡ context.Message → ⊥
start_no h = cc

-- ---- the law

pub trees_are_deleted : TreesAreDeleted
trees_are_deleted profile text tokens t w o number name result after u reads fellows stands dl =
    let s : Statement = statement_of w in
    let whole : List Lexeme = map (lexeme_at text) tokens in
    let f : ℕ = first_token s in
    let q : ℕ = next_token s in
    let p : ℕ = reservation_place s o in
    let n : ℕ = length (flat_statement s) in
    let fd = found profile text tokens t s reads stands in
    let next = fd.next in
    let inside = fd.within in
    let as_many = length-map tokens (lexeme_at text) in
    let front : List Lexeme = take f whole in
    let mine : List Lexeme = own s whole in
    let back : List Lexeme = drop q whole in
    let less : List Lexeme = without s whole in
    let res : List Lexeme = reservation_tokens number name in
    let g : Move = to_old text tokens s in
    let k : Move = to_new s o in
    let d : Move = moved f (f + n) 0 in
    let v = in_tree d g k w (reservation_at p) context.Start context.Start t o refl reads.spells.well_formed fellows stands in
    let front_long : length front ≡ f = omega (arith, length-take f whole, as_many, inside, next) in
    let mine_long : length mine ≡ n = omega (arith, length-take (q - f) (drop f whole), length-drop f whole, as_many, inside, next) in
    let parts : whole ≡ front ++ (mine ++ back) = in_parts f q whole (omega (arith, next)) in
    let spells = subst (λ (x : List Lexeme). Spells t (classes_in profile 0 x)) parts reads.spells in
    let taken_at : before v.taken ≡ f = v.taken_at ∙ fd.at in
    let back_at : before v.back ≡ f = v.back_at ∙ fd.at in
    let put_at : before v.put ≡ p = put_place profile text tokens t s o reads stands (before v.put) v.put_at in
    let ar = around d (Leaf s End) End context.Start t v.x v.taken in
    let c = cut_around profile t ar.front (flat (Leaf s End)) ar.back front mine back (ar.long ∙ taken_at ∙ sym front_long) (leaf_long s ∙ sym mine_long) ar.old spells.fits in
    let by_d : MovesBy d (length front) (length mine) 0 = subst (λ (x : ℕ). MovesBy d x (length mine) 0) (sym front_long) (subst (λ (x : ℕ). MovesBy d f x 0) (sym mine_long) (moved_moves_by f n 0)) in
    let by_g : MovesBy g (length front) 0 (length mine) = subst (λ (x : ℕ). MovesBy g x 0 (length mine)) (sym front_long) (moves_in f (length mine)) in
    let x_spells = statements_are_exchanged profile d (Leaf s End) End t v.x v.taken front mine [] back (taken_at ∙ sym front_long) (leaf_long s ∙ sym mine_long) tt by_d spells in
    let old_spells = statements_are_exchanged profile g End (Leaf s End) v.x v.old v.back front [] mine back (back_at ∙ sym front_long) refl c.old_fits by_g x_spells in
    let within = dl.new.within in
    let put_long : length (take p less) ≡ p = omega (arith, length-take p less, within) in
    let by_k : MovesBy k (length (take p less)) 0 6 = subst (λ (x : ℕ). MovesBy k x 0 6) (sym put_long) (moves_in p 6) in
    let x_parts = subst (λ (x : List Lexeme). Spells v.x (classes_in profile 0 x)) (sym (take-append-drop p less)) x_spells in
    let new_spells = statements_are_exchanged profile k End (reservation p) v.x v.new v.put (take p less) [] res (drop p less) (put_at ∙ sym put_long) refl
    (subst (λ (x : ℕ). Fit (flat (reservation p)) (classes_in profile x res)) (sym put_long) (reservation_fits profile p number name)) by_k x_parts in
    let x_is : v.x ≡ dl.middle = one_tree v.x dl.middle (classes_in profile 0 less) x_spells dl.old.before_spells in
    let old_is : v.old ≡ t = one_tree v.old t (classes_in profile 0 (front ++ (mine ++ back))) old_spells spells in
    let new_is : v.new ≡ u = one_tree v.new u (classes_in profile 0 (take p less ++ (res ++ drop p less))) new_spells (subst (λ (x : List Lexeme). Spells u (classes_in profile 0 x)) dl.new.tokens dl.new.after_spells) in
    let is : IsDeletedIn g k w (reservation_at p) v.x v.old v.new = elim v.deleted [ inl x ↦ absurd (start_no x.0) | inr x ↦ x ] in
    subst (λ (x : Tree). IsDeletedIn g k w (reservation_at p) x t u) x_is
    (subst (λ (y : Tree). IsDeletedIn g k w (reservation_at p) v.x y u) old_is
    (subst (λ (z : Tree). IsDeletedIn g k w (reservation_at p) v.x v.old z) new_is is))
