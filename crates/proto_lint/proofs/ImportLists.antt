-- The import statements of trees.
use Rattle.std.proofs.Common.{◌≡◌, ℕ, ◌+◌, ◌<◌, List, [], ◌∷◌, ◌++◌, Bor, length, get_or, map, take, refl, sym, ◌∙◌, ap, subst, Contains, flat_map, append-nil}
use Rattle.proto_base.proofs.Common.{flat_map-append, map-append, contains_map}
use Rattle.proto_text.specs.declared.lexer.Token.{Token}
use Rattle.proto_text.proofs.Common.{IsString, words}
use Rattle.proto_tree.specs.declared.piece.Statement.{Statement}
use Rattle.proto_tree.specs.Modifiers.{is_public, is_weak}
use Rattle.proto_tree.specs.declared.piece.Statement.TheVariants as statement
use Rattle.proto_tree.specs.declared.tree.Import.{Import}
use Rattle.proto_tree.proofs.Common.{Tree, End, Leaf, Block, joined_trees, ReadsIn}
use Rattle.proto_names_outline.proofs.Common.{Wanted, imports_are_strings}
use Rattle.proto_names_outline.specs.FromTree as names
use Rattle.proto_names_imports.proofs.Turned.{take_more}
use Rattle.proto_ast.proofs.Common.{statements, statements_joined}
use Rattle.proto_lint.specs.Imports.{import_statements_in, statement_import}
use Rattle.proto_base.specs.declared.profile.Profile.{Profile}

pub imports_joined : (t u : Tree) → import_statements_in (joined_trees t u) ≡ import_statements_in t ++ import_statements_in u
imports_joined t u = ap (flat_map statement_import) (statements_joined t u) ∙ flat_map-append statement_import (statements t) (statements u)

-- an import as the names have it
abbrev wanted_as : Import → Wanted
wanted_as i = record { path = i.path; is_public = is_public i.modifier; is_weak = is_weak i.modifier }

same_statement : (s : Statement) → names.statement_imports s ≡ map wanted_as (statement_import s)
same_statement (statement.Syntax x) = refl
same_statement whole = refl

same_imports : (t : Tree) → names.imports_in t ≡ map wanted_as (import_statements_in t)
same_imports End = refl
same_imports (Leaf s rest) =
    ap (λ ws. ws ++ names.imports_in rest) (same_statement s) ∙ ap (λ ws. map wanted_as (statement_import s) ++ ws) (same_imports rest)
    ∙ sym (map-append wanted_as (statement_import s) (import_statements_in rest))
same_imports (Block h i within j rest) = same_imports rest

-- they name files by strings
pub paths_are_strings : (profile : Profile) (text : List ℕ) (tokens : List Token) (tree : Tree) → ReadsIn profile text tokens tree → (i : Import) → Contains (import_statements_in tree) i → IsString (words text tokens i.path)
paths_are_strings profile text tokens tree reads i c = imports_are_strings profile text tokens tree reads (wanted_as i) (subst (λ (ws : List Wanted). Contains ws (wanted_as i)) (sym (same_imports tree)) (contains_map wanted_as (import_statements_in tree) i c))

-- what is found of one import more
pub finds_more : {A : Type 0} (finds : Import → List A) (xs : List (Bor Import)) (i : ℕ) (d : Bor Import) → i < length xs
    → flat_map finds (map (λ x. x.now) (take (i + 1) xs)) ≡ flat_map finds (map (λ x. x.now) (take i xs)) ++ finds (get_or xs i d).now
finds_more finds xs i d l =
    ap (λ (ys : List (Bor Import)). flat_map finds (map (λ x. x.now) ys)) (take_more xs i d l)
    ∙ ap (flat_map finds) (map-append (λ x. x.now) (take i xs) (get_or xs i d ∷ []))
    ∙ flat_map-append finds (map (λ x. x.now) (take i xs)) ((get_or xs i d).now ∷ [])
    ∙ ap (λ zs. flat_map finds (map (λ x. x.now) (take i xs)) ++ zs) (append-nil (finds (get_or xs i d).now))
