-- The parts of a tree with a field put in, and of one with a reservation put in.
use Rattle.std.proofs.Common.{◌≡◌, ℕ, suc, List, [], ◌∷◌, ◌++◌, map, flat_map, Option, Some, None, refl, sym, ◌∙◌, ap, ap₂, subst, append_assoc}
use Rattle.proto_base.proofs.Common.{map-append, flat_map-append}
use Rattle.proto_tree.specs.declared.piece.Header.TheVariants as header
use Rattle.proto_tree.specs.declared.piece.Statement.{Statement}
use Rattle.proto_tree.specs.declared.tree.Field.{Field}
use Rattle.proto_tree.proofs.Common.{Move, move_statement, move_tree, Tree, End, Leaf, Block, joined_trees}
use Rattle.proto_ast.specs.Parts.{FieldOf, closed_ranges, extension_ranges, extension_words, fields_from, plain_field, reserved_names, reserved_ranges, statement_fields, statement_options, statements}
use Rattle.proto_desc_checks_laws.proofs.MovedParts.{fields_moved, move_field_of, statement_fields_moved}
use Rattle.proto_edit_statement_described.specs.Deletions.{Deeper, AtField, AtOneof, BehindBlock, BehindLeaf, Found, FurtherOn, InMessage, IsAmong, IsDeletedIn, IsDeletedRight, PastBlock, PastLeaf, Plain, OfMap, Reservation, WrittenField, written_field, written_name, written_number, reserved, statement_of}

-- ---- lists with something put in

-- ys is xs, moved, with what is new at some place
pub record IsWith {A : Type 0} (m : A → A) (new xs ys : List A) : Type 0 where
  pub front : List A
  pub back : List A
  pub all : xs ≡ front ++ back
  pub is : ys ≡ map m front ++ (new ++ map m back)

-- nothing
pub nothing_with : {A : Type 0} (m : A → A) (xs ys : List A) → IsWith m [] xs ys → ys ≡ map m xs
nothing_with m xs ys h = h.is ∙ sym (map-append m h.front h.back) ∙ ap (map m) (sym h.all)

-- behind others
pub behind_with : {A : Type 0} (m : A → A) (new xs ys : List A) (ls ks : List A) → ks ≡ map m ls → IsWith m new xs ys → IsWith m new (ls ++ xs) (ks ++ ys)
behind_with m new xs ys ls ks e h = record {
  front = ls ++ h.front;
  back = h.back;
  all = ap (λ z. ls ++ z) h.all ∙ sym (append_assoc ls h.front h.back);
  is = ap₂ (λ k z. k ++ z) e h.is ∙ sym (append_assoc (map m ls) (map m h.front) (new ++ map m h.back)) ∙ ap (λ z. z ++ (new ++ map m h.back)) (sym (map-append m ls h.front));
}

-- before others
pub before_with : {A : Type 0} (m : A → A) (new xs ys : List A) (ls ks : List A) → ks ≡ map m ls → IsWith m new xs ys → IsWith m new (xs ++ ls) (ys ++ ks)
before_with m new xs ys ls ks e h = record {
  front = h.front;
  back = h.back ++ ls;
  all = ap (λ z. z ++ ls) h.all ∙ append_assoc h.front h.back ls;
  is = ap₂ (λ z k. z ++ k) h.is e ∙ append_assoc (map m h.front) (new ++ map m h.back) (map m ls) ∙ ap (λ z. map m h.front ++ z) (append_assoc new (map m h.back) (map m ls) ∙ ap (λ z. new ++ z) (sym (map-append m h.back ls)));
}

-- ---- what is read of statements

-- a reader of statements that moves with them
pub record IsReader {X : Type 0} (g : Move) (m : X → X) (f : Statement → List X) : Type 0 where
  pub moves : (a : Statement) → f (move_statement g a) ≡ map m (f a)

read_moved : {X : Type 0} (g : Move) (m : X → X) (f : Statement → List X) → IsReader g m f → (x : Tree) → flat_map f (statements (move_tree g x)) ≡ map m (flat_map f (statements x))
read_moved g m f r End = refl
read_moved g m f r (Leaf a rest) = ap₂ (λ y z. y ++ z) (r.moves a) (read_moved g m f r rest) ∙ sym (map-append m (f a) (flat_map f (statements rest)))
read_moved g m f r (Block h i within j rest) = read_moved g m f r rest

-- ---- the field

pub declares_one : (o : Option ℕ) (w : WrittenField) → statement_fields o (statement_of w) ≡ written_field o w ∷ []
declares_one o (Plain f) = refl
declares_one o (OfMap f) = refl

pub named_one : (o : Option ℕ) (w : WrittenField) → (written_field o w).name ≡ written_name w
named_one o (Plain f) = refl
named_one o (OfMap f) = refl

pub numbered_one : (o : Option ℕ) (w : WrittenField) → (written_field o w).number ≡ written_number w
numbered_one o (Plain f) = refl
numbered_one o (OfMap f) = refl

-- its statement says nothing else
pub no_ranges : (w : WrittenField) → (reserved_ranges (statement_of w) ≡ []) × (extension_ranges (statement_of w) ≡ []) × (closed_ranges (statement_of w) ≡ [])
no_ranges (Plain f) = (refl, refl, refl)
no_ranges (OfMap f) = (refl, refl, refl)

pub no_words : (w : WrittenField) → (reserved_names (statement_of w) ≡ []) × (extension_words (statement_of w) ≡ []) × (statement_options (statement_of w) ≡ [])
no_words (Plain f) = (refl, refl, refl)
no_words (OfMap f) = (refl, refl, refl)

module _ (g k : Move) (aim : WrittenField) (res : Reservation) where
  -- of the field's statement nothing is read
  pub old_read : {X : Type 0} (m : X → X) (f : Statement → List X) → IsReader g m f → f (statement_of aim) ≡ [] → (x t u : Tree) → IsDeletedRight g k aim res x t u → flat_map f (statements t) ≡ map m (flat_map f (statements x))
  old_read m f r none _ _ _ (AtField rest) = ap (λ z. z ++ flat_map f (statements (move_tree g rest))) none ∙ read_moved g m f r rest
  old_read m f r none _ _ _ (AtOneof h fd i x t j rest same some at) = read_moved g m f r rest
  old_read m f r none _ _ _ (PastLeaf a x t u h) = ap₂ (λ y z. y ++ z) (r.moves a) (old_read m f r none x t u h) ∙ sym (map-append m (f a) (flat_map f (statements x)))
  old_read m f r none _ _ _ (PastBlock h i within j x t u sw) = old_read m f r none x t u sw

  here : {X : Type 0} (m : X → X) (f : Statement → List X) → IsReader k m f → (rest : Tree) → IsWith m (flat_map f (statements (reserved res))) (flat_map f (statements rest)) (flat_map f (statements (joined_trees (reserved res) (move_tree k rest))))
  here {X} m f r rest = record {
    front = [];
    back = flat_map f (statements rest);
    all = refl;
    is = flat_map-append f (statements (reserved res)) (statements (move_tree k rest)) ∙ ap (λ (z : List X). flat_map f (statements (reserved res)) ++ z) (read_moved k m f r rest);
  }

  -- and what is read of the reservation comes in
  pub new_read : {X : Type 0} (m : X → X) (f : Statement → List X) → IsReader k m f → (x t u : Tree) → IsDeletedRight g k aim res x t u → IsWith m (flat_map f (statements (reserved res))) (flat_map f (statements x)) (flat_map f (statements u))
  new_read m f r _ _ _ (AtField rest) = here m f r rest
  new_read m f r _ _ _ (AtOneof h fd i x t j rest same some at) = here m f r rest
  new_read m f r _ _ _ (PastLeaf a x t u h) = behind_with m _ _ _ (f a) (f (move_statement k a)) (r.moves a) (new_read m f r x t u h)
  new_read m f r _ _ _ (PastBlock h i within j x t u sw) = new_read m f r x t u sw

  among_fields : (n : ℕ) (fd : Field) (x t : Tree) → IsAmong g fd x t → IsWith (move_field_of g) (plain_field (Some n) fd ∷ []) (flat_map (statement_fields (Some n)) (statements x)) (flat_map (statement_fields (Some n)) (statements t))
  among_fields n fd _ _ (Found rest) = record {
    front = [];
    back = flat_map (statement_fields (Some n)) (statements rest);
    all = refl;
    is = ap (λ (z : List FieldOf). plain_field (Some n) fd ∷ z) (read_moved g (move_field_of g) (statement_fields (Some n)) (record { moves = statement_fields_moved g (Some n) }) rest);
  }
  among_fields n fd _ _ (FurtherOn a x t h) =
      behind_with (move_field_of g) _ _ _ (statement_fields (Some n) a) (statement_fields (Some n) (move_statement g a)) (statement_fields_moved g (Some n) a) (among_fields n fd x t h)

  -- the field comes in among the fields, in a oneof or in none
  pub old_fields : (n : ℕ) (x t u : Tree) → IsDeletedRight g k aim res x t u → (o : Option ℕ) × IsWith (move_field_of g) (written_field o aim ∷ []) (fields_from n x) (fields_from n t)
  old_fields n _ _ _ (AtField rest) = (None, record { front = []; back = fields_from n rest; all = refl; is = ap₂ (λ (y z : List FieldOf). y ++ z) (declares_one None aim) (fields_moved g n rest) })
  old_fields n _ _ _ (AtOneof h fd i x t j rest same some at) = (
    Some n,
    subst (λ (w : WrittenField). IsWith (move_field_of g) (written_field (Some n) w ∷ []) (flat_map (statement_fields (Some n)) (statements x) ++ fields_from (suc n) rest) (flat_map (statement_fields (Some n)) (statements t) ++ fields_from (suc n) (move_tree g rest))) (sym same)
        (before_with (move_field_of g) _ _ _ (fields_from (suc n) rest) (fields_from (suc n) (move_tree g rest)) (fields_moved g (suc n) rest) (among_fields n fd x t at)),
  )
  old_fields n _ _ _ (PastLeaf a x t u h) =
      let r = old_fields n x t u h in
      (r.0, behind_with (move_field_of g) _ _ _ (statement_fields None a) (statement_fields None (move_statement g a)) (statement_fields_moved g None a) r.1)
  old_fields n _ _ _ (PastBlock (header.Oneof h) i within j x t u sw) =
      let r = old_fields (suc n) x t u sw in
      (r.0, behind_with (move_field_of g) _ _ _ (flat_map (statement_fields (Some n)) (statements within)) (flat_map (statement_fields (Some n)) (statements (move_tree g within))) (read_moved g (move_field_of g) (statement_fields (Some n)) (record { moves = statement_fields_moved g (Some n) }) within) r.1)
  old_fields n _ _ _ (PastBlock whole i within j x t u sw) = old_fields n x t u sw

  pub new_fields : (n : ℕ) (x t u : Tree) → IsDeletedRight g k aim res x t u → fields_from n u ≡ map (move_field_of k) (fields_from n x)
  new_fields n _ _ _ (AtField rest) = fields_moved k n rest
  new_fields n _ _ _ (AtOneof h fd i x t j rest same some at) =
      ap₂ (λ y z. y ++ z) (read_moved k (move_field_of k) (statement_fields (Some n)) (record { moves = statement_fields_moved k (Some n) }) x) (fields_moved k (suc n) rest)
      ∙ sym (map-append (move_field_of k) (flat_map (statement_fields (Some n)) (statements x)) (fields_from (suc n) rest))
  new_fields n _ _ _ (PastLeaf a x t u h) = ap₂ (λ y z. y ++ z) (statement_fields_moved k None a) (new_fields n x t u h) ∙ sym (map-append (move_field_of k) (statement_fields None a) (fields_from n x))
  new_fields n _ _ _ (PastBlock (header.Oneof h) i within j x t u sw) =
      ap₂ (λ y z. y ++ z) (read_moved k (move_field_of k) (statement_fields (Some n)) (record { moves = statement_fields_moved k (Some n) }) within) (new_fields (suc n) x t u sw)
      ∙ sym (map-append (move_field_of k) (flat_map (statement_fields (Some n)) (statements within)) (fields_from (suc n) x))
  new_fields n _ _ _ (PastBlock whole i within j x t u sw) = new_fields n x t u sw

  -- ---- further out nothing is seen of it

  pub outer_statements : (x t u : Tree) → IsDeletedIn g k aim res x t u → (statements t ≡ statements (move_tree g x)) × (statements u ≡ statements (move_tree k x))
  outer_statements _ _ _ (InMessage h i x t u j rest sw) = (refl, refl)
  outer_statements _ _ _ (Deeper h i x t u j rest sw) = (refl, refl)
  outer_statements _ _ _ (BehindLeaf a x t u sw) = let r = outer_statements x t u sw in (ap (λ (z : List Statement). move_statement g a ∷ z) r.0, ap (λ (z : List Statement). move_statement k a ∷ z) r.1)
  outer_statements _ _ _ (BehindBlock h i within j x t u sw) = outer_statements x t u sw

  pub outer_fields : (n : ℕ) (x t u : Tree) → IsDeletedIn g k aim res x t u → (fields_from n t ≡ fields_from n (move_tree g x)) × (fields_from n u ≡ fields_from n (move_tree k x))
  outer_fields n _ _ _ (InMessage h i x t u j rest sw) = (refl, refl)
  outer_fields n _ _ _ (Deeper h i x t u j rest sw) = (refl, refl)
  outer_fields n _ _ _ (BehindLeaf a x t u sw) = let r = outer_fields n x t u sw in (ap (λ z. statement_fields None (move_statement g a) ++ z) r.0, ap (λ z. statement_fields None (move_statement k a) ++ z) r.1)
  outer_fields n _ _ _ (BehindBlock (header.Oneof h) i within j x t u sw) =
      let r = outer_fields (suc n) x t u sw in
      (ap (λ z. flat_map (statement_fields (Some n)) (statements (move_tree g within)) ++ z) r.0, ap (λ z. flat_map (statement_fields (Some n)) (statements (move_tree k within)) ++ z) r.1)
  outer_fields n _ _ _ (BehindBlock whole i within j x t u sw) = outer_fields n x t u sw
