-- The package and the imports of a tree whose tokens are moved (for the crates above).
use Rattle.std.proofs.Common.{◌≡◌, ℕ, Option, Some, None, List, [], ◌∷◌, ◌++◌, map, refl, sym, ◌∙◌, ap₂}
use Rattle.std.proofs.lemmas.List.{map-append}
use Rattle.proto_tree.specs.declared.piece.Header.{Header}
use Rattle.proto_tree.specs.declared.piece.Header.TheVariants as header
use Rattle.proto_tree.specs.declared.piece.Statement.{Statement}
use Rattle.proto_tree.specs.declared.piece.Statement.TheVariants as statement
use Rattle.proto_tree.specs.declared.tree.Behind.{Behind}
use Rattle.proto_tree.specs.declared.tree.Modifier.{Modifier}
use Rattle.proto_tree.specs.declared.tree.Modifier.TheVariants as modifier
use Rattle.proto_tree.specs.Modifiers.{is_public, is_weak}
use Rattle.proto_tree.specs.declared.tree.Separated.{Separated}
use Rattle.proto_tree.proofs.Common.{Move, move_behind, move_header, move_option, move_separated, move_statement, move_tree, dotted, Tree, End, Leaf, Block, move_modifier}
use Rattle.proto_names_rules.specs.Tree.{package_of}
use Rattle.proto_names_outline.specs.FromTree.{Wanted, imports_in, items_in, statement_imports}
use Rattle.proto_names_outline.specs.Moved.{move_wanted}

-- ---- the package

pub dotted_moved : (g : Move) (d : Separated ℕ) → dotted (move_separated g g d) ≡ map g (dotted d)
dotted_moved g d = λ k. g d.first ∷ go d.rest k
  where
    go : (xs : List (Behind ℕ)) → map (λ x. x.item) (map (move_behind g g) xs) ≡ map g (map (λ x. x.item) xs)
    go [] = refl
    go (x ∷ xs) = λ k. g x.item ∷ go xs k

-- one statement more before
pub leaf_package : (g : Move) (s : Statement) (x t : Tree) → package_of (items_in t) ≡ map g (package_of (items_in x)) → package_of (items_in (Leaf (move_statement g s) t)) ≡ map g (package_of (items_in (Leaf s x)))
leaf_package g (statement.Package p) x t e = dotted_moved g p.name
leaf_package g _ x t e = e

-- one block more before, whatever stands in it
pub block_package : (g : Move) (h : Header) (i : ℕ) (within other : Tree) (j : ℕ) (x t : Tree) → package_of (items_in t) ≡ map g (package_of (items_in x)) → package_of (items_in (Block (move_header g h) (g i) other (g j) t)) ≡ map g (package_of (items_in (Block h i within j x)))
block_package g (header.Message h) i within other j x t e = e
block_package g whole i within other j x t e = e

pub package_moved : (g : Move) (x : Tree) → package_of (items_in (move_tree g x)) ≡ map g (package_of (items_in x))
package_moved g End = refl
package_moved g (Leaf s rest) = leaf_package g s rest (move_tree g rest) (package_moved g rest)
package_moved g (Block h i within j rest) = block_package g h i within (move_tree g within) j rest (move_tree g rest) (package_moved g rest)

-- ---- the imports

pub statement_imports_moved : (g : Move) (s : Statement) → statement_imports (move_statement g s) ≡ map (move_wanted g) (statement_imports s)
statement_imports_moved g (statement.Import i) = λ k. record { path = g i.path; is_public = public_kept i.modifier k; is_weak = weak_kept i.modifier k } ∷ []
  where
    public_kept : (o : Option Modifier) → is_public (move_option (move_modifier g) o) ≡ is_public o
    public_kept None = refl
    public_kept (Some (modifier.Public t)) = refl
    public_kept (Some (modifier.Weak t)) = refl

    weak_kept : (o : Option Modifier) → is_weak (move_option (move_modifier g) o) ≡ is_weak o
    weak_kept None = refl
    weak_kept (Some (modifier.Public t)) = refl
    weak_kept (Some (modifier.Weak t)) = refl
statement_imports_moved g _ = refl

-- one statement more before
pub leaf_imports : (g : Move) (s : Statement) (x t : Tree) → imports_in t ≡ map (move_wanted g) (imports_in x) → imports_in (Leaf (move_statement g s) t) ≡ map (move_wanted g) (imports_in (Leaf s x))
leaf_imports g s x t e = ap₂ (λ (y z : List Wanted). y ++ z) (statement_imports_moved g s) e ∙ sym (map-append (move_wanted g) (statement_imports s) (imports_in x))

pub imports_moved : (g : Move) (x : Tree) → imports_in (move_tree g x) ≡ map (move_wanted g) (imports_in x)
imports_moved g End = refl
imports_moved g (Leaf s rest) = leaf_imports g s rest (move_tree g rest) (imports_moved g rest)
imports_moved g (Block h i within j rest) = imports_moved g rest
