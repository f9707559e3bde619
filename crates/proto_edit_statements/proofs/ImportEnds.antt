-- The last `;` of each kind in trees that stand one behind another, and the place that they give.
use Rattle.std.proofs.Common.{◌≡◌, ℕ, suc, List, [], ◌∷◌, ◌++◌, Option, Some, None, refl, ap, ◌∙◌, flat_map}
use Rattle.proto_ast.specs.Parts.{statements}
use Rattle.proto_edit_rules.specs.AddImport.{behind_import, behind_package, behind_syntax, import_place, last_from}
use Rattle.proto_edit_statements.specs.declared.import_places.LastEnds.{LastEnds}
use Rattle.proto_edit_statements.specs.Common.{or_else, behind_all, ends_in, ends_of, place_behind, with_statement}
use Rattle.proto_tree.specs.declared.piece.Statement.TheVariants as statement
use Rattle.proto_tree.specs.Tree.{Tree, End, Leaf, Block, joined_trees}

pub ends_joined : (e : LastEnds) (t u : Tree) → ends_in e (joined_trees t u) ≡ ends_in (ends_in e t) u
ends_joined e End u = refl
ends_joined e (Leaf s rest) u = ends_joined (with_statement e s) rest u
ends_joined e (Block h i within j rest) u = ends_joined e rest u

-- the last of each list, by what they follow on
last_append : (n : ℕ) (xs ys : List ℕ) → last_from n (xs ++ ys) ≡ last_from (last_from n xs) ys
last_append n [] ys = refl
last_append n (x ∷ xs) ys = last_append x xs ys

-- the `;` that is told, or what it follows on
abbrev or_place : Option ℕ → ℕ → ℕ
or_place None n = n
or_place (Some i) n = suc i

syntax_is : (n : ℕ) (e : LastEnds) (t : Tree) → last_from (or_place e.syntax n) (flat_map behind_syntax (statements t)) ≡ or_place (ends_in e t).syntax n
syntax_is n e End = refl
syntax_is n e (Leaf (statement.Syntax s) rest) = syntax_is n (with_statement e (statement.Syntax s)) rest
syntax_is n e (Leaf whole rest) = syntax_is n (with_statement e whole) rest
syntax_is n e (Block h i within j rest) = syntax_is n e rest

package_is : (n : ℕ) (e : LastEnds) (t : Tree) → last_from (or_place e.packaged n) (flat_map behind_package (statements t)) ≡ or_place (ends_in e t).packaged n
package_is n e End = refl
package_is n e (Leaf (statement.Syntax s) rest) = package_is n (with_statement e (statement.Syntax s)) rest
package_is n e (Leaf whole rest) = package_is n (with_statement e whole) rest
package_is n e (Block h i within j rest) = package_is n e rest

import_is : (n : ℕ) (e : LastEnds) (t : Tree) → last_from (or_place e.import n) (flat_map behind_import (statements t)) ≡ or_place (ends_in e t).import n
import_is n e End = refl
import_is n e (Leaf (statement.Syntax s) rest) = import_is n (with_statement e (statement.Syntax s)) rest
import_is n e (Leaf whole rest) = import_is n (with_statement e whole) rest
import_is n e (Block h i within j rest) = import_is n e rest

chosen : (import packaged syntax : Option ℕ) → or_place import (or_place packaged (or_place syntax 0)) ≡ place_behind (or_else (or_else import packaged) syntax)
chosen (Some i) packaged syntax = refl
chosen None (Some i) syntax = refl
chosen None None (Some i) = refl
chosen None None None = refl

-- the place of an added import
pub place_is : (t : Tree) → import_place t ≡ place_behind (behind_all (ends_of t))
place_is t =
    let none : LastEnds = record { syntax = None; packaged = None; import = None } in
    let S = flat_map behind_syntax (statements t) in
    let P = flat_map behind_package (statements t) in
    let I = flat_map behind_import (statements t) in
    let e = ends_of t in
    last_append 0 S (P ++ I) ∙ last_append (last_from 0 S) P I
    ∙ ap (λ n. last_from (last_from n P) I) (syntax_is 0 none t)
    ∙ ap (λ n. last_from n I) (package_is (or_place e.syntax 0) none t)
    ∙ import_is (or_place e.packaged (or_place e.syntax 0)) none t
    ∙ chosen e.import e.packaged e.syntax
