-- Where an added import is put: the search for its place.
use Rattle.std.proofs.Common.{◌≡◌, ℕ, suc, ◌+◌, Option, Some, None, List, [], ◌∷◌, ◌++◌, length, map, refl, sym, ap, ap₂, subst, ◌∙◌, arith, append_assoc, append-nil}
use Rattle.proto_tree.specs.declared.class.Class.TheVariants as class
use Rattle.proto_tree.specs.declared.class.Expected.TheVariants as want
use Rattle.proto_tree.specs.declared.context.Context.{Context}
use Rattle.proto_tree.specs.declared.context.Context.TheVariants as context
use Rattle.proto_tree.specs.declared.piece.Statement.{Statement}
use Rattle.proto_tree.specs.declared.piece.Statement.TheVariants as statement
use Rattle.proto_tree.specs.declared.tree.Import.{Import}
use Rattle.proto_tree.specs.declared.tree.Modifier.{Modifier}
use Rattle.proto_tree.specs.declared.tree.Modifier.TheVariants as modifier
use Rattle.proto_tree.specs.declared.tree.Package.{Package}
use Rattle.proto_tree.proofs.Common.{Mark, mark, name, one, flat_separated, flat_statement, Numbered, Move, move_header, move_statement, move_tree, Tree, End, Leaf, Block, flat, statement_kind, header_kind, after, IsWellFormed, last_of, joined_trees, numbered_append, flat-joined}
use Rattle.proto_names_outline.proofs.Common.{Wanted, imports_in, statement_imports, move_wanted, imports_moved}
use Rattle.proto_edit_statement_laws.specs.Common.{last_index, IsExchanged, Here, Later, Behind, before, behind_import, behind_package, behind_syntax, import_place}
use Rattle.proto_edit_statement_laws.proofs.FileContexts.{IsOuter, IsSettled, file_from_start, outer, settled}
use Rattle.proto_edit_statement_laws.proofs.ImportLists.{imports_behind, leaf_all, leaf_now, no_imports}
use Rattle.proto_edit_statement_laws.proofs.LastOf.{last_by, last_option, or_else, or_start, place_is, some_is_not_none}
use Rattle.proto_edit_statement_laws.proofs.Marks.{numbered_last, some_marks}

-- the tree with b put in at a place of the outermost items, where n tokens stand before all, and the imports before and behind it
pub record IsThere (g : Move) (b : Tree) (c : Context) (t : Tree) (n p : ℕ) : Type 0 where
  pub tree : Tree
  pub put : IsExchanged g End b c t tree
  pub at : n + before put ≡ p
  pub front : List Wanted
  pub rest : Tree
  pub all : imports_in t ≡ front ++ imports_in rest
  pub now : imports_in tree ≡ map (move_wanted g) front ++ (imports_in b ++ map (move_wanted g) (imports_in rest))

-- behind the place there is nothing of what the search looks for
record IsLast (g : Move) (b : Tree) (f : Statement → List ℕ) (c : Context) (t : Tree) (n p : ℕ) : Type 0 where
  there : IsThere g b c t n p
  none : last_by f there.rest ≡ None

-- what the search looks for ends at the index that it tells
abbrev Tells : (Statement → List ℕ) → Type 0
Tells f = (s : Statement) (n p : ℕ) → Numbered n (flat_statement s) → last_option (f s) ≡ Some p → p ≡ n + length (flat_statement s)

some_same : (x y : ℕ) → Some x ≡ Some y → x ≡ y
some_same x y e = cc

module _ (g : Move) (b : Tree) (imports : (c : Context) → IsSettled c → IsWellFormed c b × (last_of c b ≡ c)) (f : Statement → List ℕ) (tells : Tells f) where
  behind_last : (c : Context) (t : Tree) (n p : ℕ) → IsOuter c → Numbered n (flat t) → last_by f t ≡ Some p → IsLast g b f c t n p
  behind_last c End n p o num e = absurd (some_is_not_none p (sym e))
  behind_last c (Leaf s rest) n p o num e =
      let nums = numbered_append n (flat_statement s) (flat rest) num in
      go (last_by f rest) refl e nums (λ is. behind_last (after c (statement_kind s)) rest (n + length (flat_statement s)) p (outer (after c (statement_kind s)) (settled c (statement_kind s) o)) nums.1 is)
    where
      go : (found : Option ℕ) → last_by f rest ≡ found → or_else found (last_option (f s)) ≡ Some p → Numbered n (flat_statement s) × Numbered (n + length (flat_statement s)) (flat rest)
          → (last_by f rest ≡ Some p → IsLast g b f (after c (statement_kind s)) rest (n + length (flat_statement s)) p) → IsLast g b f c (Leaf s rest) n p
      go (Some q) was is nums further =
          let w = further (was ∙ is) in
          let v = w.there in
          record {
            there = record {
              tree = Leaf (move_statement g s) v.tree;
              put = Later c s rest v.tree v.put;
              at = let e = v.at in omega (arith, e);
              front = statement_imports s ++ v.front;
              rest = v.rest;
              all = leaf_all s (imports_in rest) v.front (imports_in v.rest) v.all;
              now = leaf_now g s (imports_in v.tree) v.front (imports_in b ++ map (move_wanted g) (imports_in v.rest)) v.now;
            };
            none = w.none;
          }
      go None was is nums further =
          let h = imports (after c (statement_kind s)) (settled c (statement_kind s) o) in
          record {
            there = record {
              tree = Leaf (move_statement g s) (joined_trees b (move_tree g rest));
              put = Later c s rest (joined_trees b (move_tree g rest)) (Here (after c (statement_kind s)) rest h.0 (λ w. subst (λ d. IsWellFormed d rest) (sym h.1) w));
              at = omega (arith, tells s n p nums.0 is);
              front = statement_imports s;
              rest = rest;
              all = refl;
              now = leaf_now g s (imports_in (joined_trees b (move_tree g rest))) [] (imports_in b ++ map (move_wanted g) (imports_in rest)) (imports_behind b (move_tree g rest) ∙ ap (λ (x : List Wanted). imports_in b ++ x) (imports_moved g rest)) ∙ ap (λ (x : List Wanted). map (move_wanted g) x ++ (imports_in b ++ map (move_wanted g) (imports_in rest))) (append-nil (statement_imports s));
            };
            none = was;
          }
  behind_last c (Block k i within j rest) n p o num e =
      let parts = numbered_append n (flat (Block k i within j End)) (flat rest) (subst (Numbered n) (flat-joined (Block k i within j End) rest) num) in
      let w = behind_last (after c (header_kind k)) rest (n + length (flat (Block k i within j End))) p (outer (after c (header_kind k)) (settled c (header_kind k) o)) parts.1 e in
      let v = w.there in
      record {
        there = record {
          tree = Block (move_header g k) (g i) (move_tree g within) (g j) v.tree;
          put = Behind c k i within j rest v.tree v.put;
          at = let e = v.at in omega (arith, e);
          front = v.front;
          rest = v.rest;
          all = v.all;
          now = v.now;
        };
        none = w.none;
      }

-- the last index of marks that end with a semicolon
last_of_end : (x : List Mark) (m : Mark) → last_index (x ++ m ∷ []) ≡ m.at
last_of_end [] m = refl
last_of_end (a ∷ []) m = refl
last_of_end (a ∷ b ∷ x) m = last_of_end (b ∷ x) m

package_last : (p : Package) → last_index (flat_statement (statement.Package p)) ≡ p.semicolon
package_last p = ap last_index (sym (append_assoc (one class.Package p.keyword) (flat_separated class.Dot name p.name) (one class.Semicolon p.semicolon))) ∙ last_of_end (one class.Package p.keyword ++ flat_separated class.Dot name p.name) (mark (want.One class.Semicolon) p.semicolon)

pub import_last : (i : Import) → last_index (flat_statement (statement.Import i)) ≡ i.semicolon
import_last i = by i.modifier
  where
    by : (o : Option Modifier) → last_index (flat_statement (statement.Import (record { keyword = i.keyword; modifier = o; path = i.path; semicolon = i.semicolon }))) ≡ i.semicolon
    by None = refl
    by (Some (modifier.Public k)) = refl
    by (Some (modifier.Weak k)) = refl

import_tells : Tells behind_import
import_tells (statement.Import i) n p num e = sym (some_same (suc i.semicolon) p e) ∙ ap suc (sym (import_last i)) ∙ numbered_last n (flat_statement (statement.Import i)) num (some_marks (statement.Import i))
import_tells _ n p num e = absurd (some_is_not_none p (sym e))

package_tells : Tells behind_package
package_tells (statement.Package i) n p num e = sym (some_same (suc i.semicolon) p e) ∙ ap suc (sym (package_last i)) ∙ numbered_last n (flat_statement (statement.Package i)) num (some_marks (statement.Package i))
package_tells _ n p num e = absurd (some_is_not_none p (sym e))

syntax_tells : Tells behind_syntax
syntax_tells (statement.Syntax i) n p num e = sym (some_same (suc i.semicolon) p e) ∙ numbered_last n (flat_statement (statement.Syntax i)) num (some_marks (statement.Syntax i))
syntax_tells _ n p num e = absurd (some_is_not_none p (sym e))

-- ---- the place

nil_parts : (xs ys : List Wanted) → xs ++ ys ≡ [] → (xs ≡ []) × (ys ≡ [])
nil_parts [] ys e = (refl, e)
nil_parts (x ∷ xs) ys e = absurd cc

-- put in there, as the last import
pub record IsPlacedAt (g : Move) (b t : Tree) (p : ℕ) : Type 0 where
  pub there : IsThere g b context.Start t 0 p
  pub last : imports_in there.tree ≡ map (move_wanted g) (imports_in t) ++ imports_in b

-- where it is put
pub place_of_import : (g : Move) (b : Tree) (t : Tree) → IsWellFormed context.Start t → Numbered 0 (flat t) → ((c : Context) → IsSettled c → IsWellFormed c b × (last_of c b ≡ c)) → IsWellFormed context.Start b → last_of context.Start b ≡ context.File
    → IsPlacedAt g b t (import_place t)
place_of_import g b t fine num imports at_start ends = subst (IsPlacedAt g b t) (sym (place_is t)) (by_import (last_by behind_import t) refl)
  where
    nowhere : last_by behind_syntax t ≡ None → IsThere g b context.Start t 0 0
    nowhere e = record {
      tree = joined_trees b (move_tree g t);
      put = Here context.Start t at_start (λ w. subst (λ c. IsWellFormed c t) (sym ends) (file_from_start t e w));
      at = refl;
      front = [];
      rest = t;
      all = refl;
      now = imports_behind b (move_tree g t) ∙ ap (λ (x : List Wanted). imports_in b ++ x) (imports_moved g t);
    }

    by_syntax : (found : Option ℕ) → last_by behind_syntax t ≡ found → IsThere g b context.Start t 0 (or_start found 0)
    by_syntax (Some p) e = (behind_last g b imports behind_syntax syntax_tells context.Start t 0 p tt num e).there
    by_syntax None e = nowhere e

    by_package : (found : Option ℕ) → last_by behind_package t ≡ found → IsThere g b context.Start t 0 (or_start (or_else found (last_by behind_syntax t)) 0)
    by_package (Some p) e = (behind_last g b imports behind_package package_tells context.Start t 0 p tt num e).there
    by_package None e = by_syntax (last_by behind_syntax t) refl

    -- where there is none, none is behind
    sole : (p : ℕ) → last_by behind_import t ≡ None → (v : IsThere g b context.Start t 0 p) → imports_in v.tree ≡ map (move_wanted g) (imports_in t) ++ imports_in b
    sole p e v =
        let none = nil_parts v.front (imports_in v.rest) (sym v.all ∙ no_imports t e) in
        v.now ∙ ap₂ (λ (x y : List Wanted). map (move_wanted g) x ++ (imports_in b ++ map (move_wanted g) y)) none.0 none.1 ∙ append-nil (imports_in b) ∙ ap (λ (x : List Wanted). map (move_wanted g) x ++ imports_in b) (sym (no_imports t e))

    by_import : (found : Option ℕ) → last_by behind_import t ≡ found → IsPlacedAt g b t (or_start (or_else found (or_else (last_by behind_package t) (last_by behind_syntax t))) 0)
    by_import (Some p) e =
        let w = behind_last g b imports behind_import import_tells context.Start t 0 p tt num e in
        let v = w.there in
        let behind = no_imports v.rest w.none in
        record {
          there = v;
          last = v.now ∙ ap (λ (y : List Wanted). map (move_wanted g) v.front ++ (imports_in b ++ map (move_wanted g) y)) behind ∙ ap (λ (y : List Wanted). map (move_wanted g) v.front ++ y) (append-nil (imports_in b))
              ∙ ap (λ (y : List Wanted). map (move_wanted g) y ++ imports_in b) (sym (append-nil v.front) ∙ ap (λ (y : List Wanted). v.front ++ y) (sym behind) ∙ sym v.all);
        }
    by_import None e =
        let v = by_package (last_by behind_package t) refl in
        record { there = v; last = sole (or_start (or_else (last_by behind_package t) (last_by behind_syntax t)) 0) e v }
