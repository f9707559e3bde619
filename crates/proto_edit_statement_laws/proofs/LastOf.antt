-- The last of what is looked for in a file, statement by statement.
use Rattle.std.proofs.Common.{◌≡◌, ℕ, Option, Some, None, List, [], ◌∷◌, ◌++◌, refl, sym, ap, ap₂, ◌∙◌, flat_map}
use Rattle.std.proofs.lemmas.List.Concat.{flat_map-cons}
use Rattle.proto_tree.specs.declared.piece.Statement.{Statement}
use Rattle.proto_tree.specs.Tree.{Tree, End, Leaf, Block}
use Rattle.proto_ast.specs.Parts.{statements}
use Rattle.proto_edit_rules.specs.AddImport.{behind_import, behind_package, behind_syntax, import_place, last_from}

abbrev pub or_else : Option ℕ → Option ℕ → Option ℕ
or_else None other = other
or_else (Some i) other = Some i

abbrev pub or_start : Option ℕ → ℕ → ℕ
or_start None n = n
or_start (Some i) n = i

abbrev pub last_option : List ℕ → Option ℕ
last_option [] = None
last_option (x ∷ xs) = Some (last_from x xs)

-- the last that a statement right in the tree gives
abbrev pub last_by : (Statement → List ℕ) → Tree → Option ℕ
last_by f End = None
last_by f (Leaf s rest) = or_else (last_by f rest) (last_option (f s))
last_by f (Block h i within j rest) = last_by f rest

pub some_is_not_none : {A : Type 0} (x : A) → Some x ≡ None → ⊥
some_is_not_none x e = cc

pub or_none : (a b : Option ℕ) → or_else a b ≡ None → (a ≡ None) × (b ≡ None)
or_none None b e = (refl, e)
or_none (Some i) b e = absurd (some_is_not_none i e)

or_same : (a b c : Option ℕ) → or_else (or_else a b) c ≡ or_else a (or_else b c)
or_same None b c = refl
or_same (Some i) b c = refl

or_empty : (a : Option ℕ) → or_else a None ≡ a
or_empty None = refl
or_empty (Some i) = refl

from_option : (n : ℕ) (xs : List ℕ) → last_from n xs ≡ or_start (last_option xs) n
from_option n [] = refl
from_option n (x ∷ xs) = refl

from_two : (n : ℕ) (xs ys : List ℕ) → last_from n (xs ++ ys) ≡ or_start (last_option ys) (last_from n xs)
from_two n [] ys = from_option n ys
from_two n (x ∷ xs) ys = from_two x xs ys

option_two : (xs ys : List ℕ) → last_option (xs ++ ys) ≡ or_else (last_option ys) (last_option xs)
option_two [] ys = sym (or_empty (last_option ys))
option_two (x ∷ xs) ys = ap Some (from_two x xs ys) ∙ some_or (last_option ys) (last_from x xs)
  where
    some_or : (o : Option ℕ) (n : ℕ) → Some (or_start o n) ≡ or_else o (Some n)
    some_or None n = refl
    some_or (Some i) n = refl

by_list : (f : Statement → List ℕ) (t : Tree) → last_option (flat_map f (statements t)) ≡ last_by f t
by_list f End = refl
by_list f (Leaf s rest) = ap last_option (flat_map-cons f s (statements rest)) ∙ option_two (f s) (flat_map f (statements rest)) ∙ ap (λ (o : Option ℕ). or_else o (last_option (f s))) (by_list f rest)
by_list f (Block h i within j rest) = by_list f rest

-- the place of an added import
pub place_is : (t : Tree) → import_place t ≡ or_start (or_else (last_by behind_import t) (or_else (last_by behind_package t) (last_by behind_syntax t))) 0
place_is t =
    let a : List ℕ = flat_map behind_syntax (statements t) in
    let b : List ℕ = flat_map behind_package (statements t) in
    let c : List ℕ = flat_map behind_import (statements t) in
    from_option 0 (a ++ (b ++ c))
    ∙ ap (λ (o : Option ℕ). or_start o 0) (option_two a (b ++ c) ∙ ap (λ (o : Option ℕ). or_else o (last_option a)) (option_two b c) ∙ or_same (last_option c) (last_option b) (last_option a)
    ∙ ap₂ (λ (o p : Option ℕ). or_else o p) (by_list behind_import t) (ap₂ (λ (o p : Option ℕ). or_else o p) (by_list behind_package t) (by_list behind_syntax t)))
