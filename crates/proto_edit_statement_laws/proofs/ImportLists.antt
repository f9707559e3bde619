-- The imports of a tree into which an import is put (for the crates above).
use Rattle.std.proofs.Common.{◌≡◌, true, None, List, [], ◌++◌, map, refl, sym, ap, ap₂, ◌∙◌, append_assoc}
use Rattle.std.proofs.lemmas.List.{map-append}
use Rattle.proto_tree.specs.declared.context.Context.{Context}
use Rattle.proto_tree.specs.declared.context.Context.TheVariants as context
use Rattle.proto_tree.specs.declared.context.Kind.{Kind}
use Rattle.proto_tree.specs.declared.context.Kind.TheVariants as kind
use Rattle.proto_tree.specs.declared.piece.Statement.{Statement}
use Rattle.proto_tree.specs.declared.piece.Statement.TheVariants as statement
use Rattle.proto_tree.specs.declared.tree.Import.{Import}
use Rattle.proto_tree.proofs.Common.{Move, move_statement, Tree, End, Leaf, Block, statement_kind, header_kind, allows, after, inside, joined_trees, after_inner, inside_inner}
use Rattle.proto_names_outline.proofs.Common.{Wanted, imports_in, statement_imports, move_wanted, imports_moved, statement_imports_moved}
use Rattle.proto_edit_statement_laws.specs.Common.{IsExchanged, Here, Later, Inside, Behind, HasImportStatement, ImportsComeIn, behind_import}
use Rattle.proto_edit_statement_laws.proofs.LastOf.{last_by, last_option, or_none, some_is_not_none}

-- ---- imports of trees one behind the other

pub imports_behind : (b t : Tree) → imports_in (joined_trees b t) ≡ imports_in b ++ imports_in t
imports_behind End t = refl
imports_behind (Leaf s b) t = ap (λ (x : List Wanted). statement_imports s ++ x) (imports_behind b t) ∙ sym (append_assoc (statement_imports s) (imports_in b) (imports_in t))
imports_behind (Block k i within j b) t = imports_behind b t

-- one statement more before
pub leaf_all : (s : Statement) (whole front tail : List Wanted) → whole ≡ front ++ tail → statement_imports s ++ whole ≡ (statement_imports s ++ front) ++ tail
leaf_all s whole front tail e = ap (λ (x : List Wanted). statement_imports s ++ x) e ∙ sym (append_assoc (statement_imports s) front tail)

pub leaf_now : (g : Move) (s : Statement) (whole front tail : List Wanted) → whole ≡ map (move_wanted g) front ++ tail → statement_imports (move_statement g s) ++ whole ≡ map (move_wanted g) (statement_imports s ++ front) ++ tail
leaf_now g s whole front tail e =
    ap₂ (λ (x y : List Wanted). x ++ y) (statement_imports_moved g s) e ∙ sym (append_assoc (map (move_wanted g) (statement_imports s)) (map (move_wanted g) front) tail)
    ∙ ap (λ (x : List Wanted). x ++ tail) (sym (map-append (move_wanted g) (statement_imports s) front))

-- where none is looked for, there is none
pub no_imports : (t : Tree) → last_by behind_import t ≡ None → imports_in t ≡ []
no_imports End e = refl
no_imports (Leaf s rest) e = let p = or_none (last_by behind_import rest) (last_option (behind_import s)) e in ap₂ (λ (x y : List Wanted). x ++ y) (no_import s p.1) (no_imports rest p.0)
  where
    no_import : (s : Statement) → last_option (behind_import s) ≡ None → statement_imports s ≡ []
    no_import (statement.Import i) e = absurd (some_is_not_none _ e)
    no_import _ e = refl
no_imports (Block k i within j rest) e = no_imports rest e

-- ---- no import stands in a block

no_import_in : (c : Context) → allows c kind.Close ≡ true → allows c kind.Import ≡ true → ⊥
no_import_in context.Start h e = cc
no_import_in _ h e = cc

stays_inner : (c : Context) (k : Kind) → allows c kind.Close ≡ true → allows (after c k) kind.Close ≡ true
stays_inner c k h = ap (λ d. allows d kind.Close) (after_inner c k h) ∙ h

pub none_inside : (g : Move) (i : Import) (c : Context) (t u : Tree) → allows c kind.Close ≡ true → IsExchanged g End (Leaf (statement.Import i) End) c t u → ⊥
none_inside g i _ t u h (Here c rest fine on) = no_import_in c h fine.0
none_inside g i _ t u h (Later c s x y r) = none_inside g i (after c (statement_kind s)) x y (stays_inner c (statement_kind s) h) r
none_inside g i _ t u h (Inside c k n x y j rest r) = none_inside g i (inside k) x y (inside_inner k) r
none_inside g i _ t u h (Behind c k n within j x y r) = none_inside g i (after c (header_kind k)) x y (stays_inner c (header_kind k) h) r

come_in : (g : Move) (i : Import) (c : Context) (t u : Tree) → IsExchanged g End (Leaf (statement.Import i) End) c t u → HasImportStatement g i t u
come_in g i _ t u (Here c rest fine on) = record { front = []; back = imports_in rest; was = refl; is = ap (λ (x : List Wanted). statement_imports (statement.Import i) ++ x) (imports_moved g rest) }
come_in g i _ t u (Later c s x y r) =
    let v = come_in g i (after c (statement_kind s)) x y r in
    record {
      front = statement_imports s ++ v.front;
      back = v.back;
      was = leaf_all s (imports_in x) v.front v.back v.was;
      is = leaf_now g s (imports_in y) v.front (statement_imports (statement.Import i) ++ map (move_wanted g) v.back) v.is;
    }
come_in g i _ t u (Inside c k n x y j rest r) = absurd (none_inside g i (inside k) x y (inside_inner k) r)
come_in g i _ t u (Behind c k n within j x y r) =
    let v = come_in g i (after c (header_kind k)) x y r in
    record { front = v.front; back = v.back; was = v.was; is = v.is }

pub imports_come_in : ImportsComeIn
imports_come_in g i t u r = come_in g i context.Start t u r
