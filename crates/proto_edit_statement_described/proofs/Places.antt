-- Places in lists, and the place of the field in the old tree.
use Rattle.std.proofs.Common.{◌≡◌, ℕ, suc, ◌==◌, Bool, true, false, ◌||◌, List, [], ◌∷◌, ◌++◌, length, map, flat_map, None, refl, sym, ◌∙◌, ap, ap₂, eq-eqb}
use Rattle.proto_base.proofs.Common.{list_any, cond-false, cond-true, list_any-append}
use Rattle.proto_tree.specs.declared.piece.Header.TheVariants as header
use Rattle.proto_tree.specs.declared.piece.Statement.{Statement}
use Rattle.proto_tree.specs.declared.tree.Field.{Field}
use Rattle.proto_tree.proofs.Common.{Move, move_statement, move_tree, Tree}
use Rattle.proto_ast.specs.Parts.{FieldOf, fields_in, statement_fields, statements}
use Rattle.proto_desc_checks_laws.proofs.MovedParts.{fields_moved, flat_map_moved, move_field_of, statement_fields_moved, statements_moved}
use Rattle.proto_edit_statement_described.specs.Common.{AtField, AtOneof, Found, FurtherOn, IsAmong, IsDeletedRight, OfMap, PastBlock, PastLeaf, Plain, Reservation, WrittenField, written_name, reserved, statement_of, at_place, places_before, with_more, without_place, declare, is_its, is_named_at, statements_before}

-- ---- lists

pub place_is : {A : Type 0} (p : A → Bool) (front : List A) (x : A) (back : List A) → list_any p front ≡ false → p x ≡ true → places_before p (front ++ x ∷ back) ≡ length front
place_is p [] x back none is = cond-true (p x) 0 (suc (places_before p back)) is
place_is p (y ∷ front) x back none is =
    let s = neither (p y) (list_any p front) none in
    cond-false (p y) 0 (suc (places_before p (front ++ x ∷ back))) s.0 ∙ ap suc (place_is p front x back s.1 is)
  where
    neither : (b c : Bool) → (b || c) ≡ false → (b ≡ false) × (c ≡ false)
    neither true c e = absurd cc
    neither false c e = (refl, e)

pub at_is : {A : Type 0} (front : List A) (x : A) (back : List A) → at_place (length front) (front ++ x ∷ back) ≡ x ∷ []
at_is [] x back = refl
at_is (y ∷ front) x back = at_is front x back

pub without_is : {A : Type 0} (front : List A) (x : A) (back : List A) → without_place (length front) (front ++ x ∷ back) ≡ front ++ back
without_is [] x back = refl
without_is {A} (y ∷ front) x back = ap (λ (z : List A). y ∷ z) (without_is front x back)

pub with_is : {A : Type 0} (front more back : List A) → with_more (length front) more (front ++ back) ≡ front ++ (more ++ back)
with_is [] more back = refl
with_is {A} (y ∷ front) more back = ap (λ (z : List A). y ∷ z) (with_is front more back)

-- ---- names that are moved are not the field's

is_itself : (n : ℕ) → (n == n) ≡ true
is_itself n = eq-eqb n n refl

pub some_behind : {A : Type 0} (p : A → Bool) (xs ys : List A) → list_any p ys ≡ true → list_any p (xs ++ ys) ≡ true
some_behind p xs ys e = list_any-append p xs ys ∙ ap (λ b. list_any p xs || b) e ∙ either (list_any p xs)
  where
    either : (b : Bool) → (b || true) ≡ true
    either true = refl
    either false = refl

pub declares_itself : (w : WrittenField) → declare (written_name w) (statement_of w ∷ []) ≡ true
declares_itself (Plain f) = ap (λ b. b || false) (is_itself f.name)
declares_itself (OfMap f) = ap (λ b. b || false) (is_itself f.name)

module _ (g : Move) (token : ℕ) (fresh : (i : ℕ) → (g i == token) ≡ false) where
  pub none_moved : (fs : List FieldOf) → list_any (is_named_at token) (map (move_field_of g) fs) ≡ false
  none_moved [] = refl
  none_moved (f ∷ fs) = ap₂ (λ b c. b || c) (fresh f.name) (none_moved fs)

  pub none_declared : (ss : List Statement) → declare token (map (move_statement g) ss) ≡ false
  none_declared ss = ap (list_any (is_named_at token)) (flat_map_moved (move_statement g) (move_field_of g) (statement_fields None) (statement_fields None) (statement_fields_moved g None) ss) ∙ none_moved (flat_map (statement_fields None) ss)

  pub none_in : (x : Tree) → is_its token (move_tree g x) ≡ false
  none_in x = ap (list_any (is_named_at token)) (fields_moved g 0 x) ∙ none_moved (fields_in x)

  none_right : (x : Tree) → declare token (statements (move_tree g x)) ≡ false
  none_right x = ap (declare token) (statements_moved g x) ∙ none_declared (statements x)

  among_declares : (f : Field) (x t : Tree) → IsAmong g f x t → declare f.name (statements t) ≡ true
  among_declares f _ _ (Found rest) = ap (λ b. b || list_any (is_named_at f.name) (flat_map (statement_fields None) (statements (move_tree g rest)))) (is_itself f.name)
  among_declares f _ _ (FurtherOn a x t h) = some_behind (is_named_at f.name) (statement_fields None (move_statement g a)) (flat_map (statement_fields None) (statements t)) (among_declares f x t h)

  -- The statements of the three trees, parted at the place.
  pub record IsParted (k : Move) (res : Reservation) (x t u : Tree) : Type 0 where
    pub front : List Statement
    pub back : List Statement
    pub all : statements x ≡ front ++ back
    pub before : statements_before token t ≡ map (move_statement g) front
    pub new : statements u ≡ map (move_statement k) front ++ (statements (reserved res) ++ map (move_statement k) back)

  pub parted : (k : Move) (res : Reservation) (aim : WrittenField) → written_name aim ≡ token → (x t u : Tree) → IsDeletedRight g k aim res x t u → IsParted k res x t u
  parted k res aim is _ _ _ (AtField rest) = record {
    front = [];
    back = statements rest;
    all = refl;
    before = cond-true (declare token (statement_of aim ∷ [])) [] (statement_of aim ∷ statements_before token (move_tree g rest)) (ap (λ n. declare n (statement_of aim ∷ [])) (sym is) ∙ declares_itself aim);
    new = ap (λ (ss : List Statement). statements (reserved res) ++ ss) (statements_moved k rest);
  }
  parted k res aim is _ _ _ (AtOneof h f i x t j rest same some at) = record {
    front = [];
    back = statements rest;
    all = refl;
    before = cond-true (declare token (statements t)) [] (statements_before token (move_tree g rest)) (ap (λ n. declare n (statements t)) (sym is ∙ ap written_name same) ∙ among_declares f x t at);
    new = ap (λ (ss : List Statement). statements (reserved res) ++ ss) (statements_moved k rest);
  }
  parted k res aim is _ _ _ (PastLeaf a x t u sw) =
      let p = parted k res aim is x t u sw in
      record {
        front = a ∷ p.front;
        back = p.back;
        all = ap (λ (ss : List Statement). a ∷ ss) p.all;
        before = cond-false (declare token (move_statement g a ∷ [])) [] (move_statement g a ∷ statements_before token t) (none_declared (a ∷ [])) ∙ ap (λ (ss : List Statement). move_statement g a ∷ ss) p.before;
        new = ap (λ (ss : List Statement). move_statement k a ∷ ss) p.new;
      }
  parted k res aim is _ _ _ (PastBlock (header.Oneof h) i within j x t u sw) =
      let p = parted k res aim is x t u sw in
      record {
        front = p.front;
        back = p.back;
        all = p.all;
        before = cond-false (declare token (statements (move_tree g within))) [] (statements_before token t) (none_right within) ∙ p.before;
        new = p.new;
      }
  parted k res aim is _ _ _ (PastBlock whole i within j x t u sw) = let p = parted k res aim is x t u sw in record { front = p.front; back = p.back; all = p.all; before = p.before; new = p.new }
