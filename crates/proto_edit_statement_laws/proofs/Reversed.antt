-- What was put, read backwards (for the crates above).
use Rattle.std.proofs.Common.{◌≡◌, ℕ, ◌+◌, List, ◌++◌, length, refl, sym, ap, ap₂, subst, ◌∙◌}
use Rattle.std.proofs.lemmas.List.{length-map}
use Rattle.proto_tree.specs.declared.class.Class.TheVariants as class
use Rattle.proto_tree.specs.declared.context.Context.{Context}
use Rattle.proto_tree.specs.declared.context.Context.TheVariants as context
use Rattle.proto_tree.proofs.Common.{Mark, one, flat_statement, flat_header, Move, shift, move_header, move_statement, move_tree, Tree, End, Leaf, Block, flat, statement_kind, header_kind, after, inside, IsWellFormed, last_of, joined_trees, one_tree, flat_moved, well_formed_moved, kind_moved, header_kind_moved, inside_moved, classes_in, behind_fine}
use Rattle.proto_edit_statement_laws.specs.Exchanges.{IsExchanged, Here, Later, Inside, Behind, before, ExchangesAreReversed}
use Rattle.proto_edit_statement_laws.proofs.Endings.{nothing_behind}
use Rattle.proto_edit_statement_laws.proofs.Exchanged.{around, cut_around, header_moved, statements_are_exchanged}

record IsBack (back : Move) (a b : Tree) (c : Context) (u : Tree) (n : ℕ) : Type 0 where
  tree : Tree
  put : IsExchanged back b a c u tree
  same : before put ≡ n

front_fine : (a rest : Tree) (c : Context) → IsWellFormed c (joined_trees a rest) → IsWellFormed c a
front_fine End rest c h = tt
front_fine (Leaf s a) rest c h = (h.0, front_fine a rest (after c (statement_kind s)) h.1)
front_fine (Block k i within j a) rest c h = (h.0, h.1, front_fine a rest (after c (header_kind k)) h.2)

pub tree_long : (g : Move) (t : Tree) → length (flat (move_tree g t)) ≡ length (flat t)
tree_long g t = ap (λ (x : List Mark). length x) (flat_moved g t) ∙ length-map (flat t) (shift g)

pub statement_long : (g : Move) (s : Rattle.proto_tree.specs.declared.piece.Statement.Statement) → length (flat_statement (move_statement g s)) ≡ length (flat_statement s)
statement_long g s = ap (λ (x : List Mark). length x) (sym (nothing_behind (flat_statement (move_statement g s)))) ∙ tree_long g (Leaf s End) ∙ ap (λ (x : List Mark). length x) (nothing_behind (flat_statement s))

pub header_long : (g : Move) (k : Rattle.proto_tree.specs.declared.piece.Header.Header) (i : ℕ) → length (flat_header (move_header g k) ++ one class.Open (g i)) ≡ length (flat_header k ++ one class.Open i)
header_long g k i = ap (λ (x : List Mark). length x) (header_moved g k i) ∙ length-map (flat_header k ++ one class.Open i) (shift g)

backwards : (g back : Move) (a b : Tree) (c : Context) (t u : Tree) (r : IsExchanged g a b c t u) → IsWellFormed c t → (d : Context) → d ≡ c → IsBack back a b d u (before r)
backwards g back a b _ t u (Here c rest fine on) h d e = record {
  tree = joined_trees a (move_tree back (move_tree g rest));
  put = Here d (move_tree g rest) (subst (λ (x : Context). IsWellFormed x a) (sym e) (front_fine a rest c h)) (λ k. well_formed_moved g (last_of d a) rest (subst (λ (x : Context). IsWellFormed (last_of x a) rest) (sym e) (behind_fine a rest c h)));
  same = refl;
}
backwards g back a b _ t u (Later c s x y r) h d e =
    let v = backwards g back a b (after c (statement_kind s)) x y r h.1 (after d (statement_kind (move_statement g s))) (ap₂ after e (kind_moved g s)) in
    record {
      tree = Leaf (move_statement back (move_statement g s)) v.tree;
      put = Later d (move_statement g s) y v.tree v.put;
      same = ap₂ (λ (m n : ℕ). m + n) (statement_long g s) v.same;
    }
backwards g back a b _ t u (Inside c k i x y j rest r) h d e =
    let v = backwards g back a b (inside k) x y r h.1 (inside (move_header g k)) (inside_moved g k) in
    record {
      tree = Block (move_header back (move_header g k)) (back (g i)) v.tree (back (g j)) (move_tree back (move_tree g rest));
      put = Inside d (move_header g k) (g i) y v.tree (g j) (move_tree g rest) v.put;
      same = ap₂ (λ (m n : ℕ). m + n) (header_long g k i) v.same;
    }
backwards g back a b _ t u (Behind c k i within j x y r) h d e =
    let v = backwards g back a b (after c (header_kind k)) x y r h.2 (after d (header_kind (move_header g k))) (ap₂ after e (header_kind_moved g k)) in
    record {
      tree = Block (move_header back (move_header g k)) (back (g i)) (move_tree back (move_tree g within)) (back (g j)) v.tree;
      put = Behind d (move_header g k) (g i) (move_tree g within) (g j) y v.tree v.put;
      same = ap₂ (λ (m n : ℕ). m + n) (tree_long g (Block k i within j End)) v.same;
    }

pub exchanges_are_reversed : ExchangesAreReversed
exchanges_are_reversed profile g back a b t u r front old new rest at len_a len_b by spells_t spells_u =
    let v = backwards g back a b context.Start t u r spells_t.well_formed context.Start refl in
    let s = around g a b context.Start t u r in
    let c = cut_around profile t s.front (flat a) s.back front old rest (s.long ∙ at) len_a s.old spells_t.fits in
    let again = statements_are_exchanged profile back b a u v.tree v.put front new old rest (v.same ∙ at) len_b c.old_fits by spells_u in
    let same : v.tree ≡ t = one_tree v.tree t (classes_in profile 0 (front ++ (old ++ rest))) again spells_t in
    go v.tree same v.put v.same
  where
    go : (x : Tree) → x ≡ t → (p : IsExchanged back b a context.Start u x) → before p ≡ before r → (v : IsExchanged back b a context.Start u t) × (before v ≡ before r)
    go x e p q = moved t (sym e)
      where
        moved : (y : Tree) → y ≡ x → (v : IsExchanged back b a context.Start u y) × (before v ≡ before r)
        moved y f = subst (λ (z : Tree). (v : IsExchanged back b a context.Start u z) × (before v ≡ before r)) (sym f) (p, q)
