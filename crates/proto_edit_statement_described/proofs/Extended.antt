-- What the extension at a token extends, by what the blocks of its file say, and where its tokens are moved.
use Rattle.std.proofs.Common.{◌≡◌, ℕ, ◌==◌, Bool, true, false, ◌&&◌, List, [], ◌∷◌, ◌++◌, flat_map, find, is_some, Option, Some, None, option_and_then, refl, ap, ap₂, ◌∙◌, if◌then◌else◌}
use Rattle.proto_base.proofs.Common.{list_any}
use Rattle.proto_tree.specs.declared.piece.Header.{Header}
use Rattle.proto_tree.specs.declared.piece.Header.TheVariants as header
use Rattle.proto_tree.specs.declared.tree.Reference.{Reference}
use Rattle.proto_tree.proofs.Common.{Move, Tree, move_header, move_reference, move_tree}
use Rattle.proto_files.proofs.Common.{FileOf, ReadOf}
use Rattle.proto_names_rules.specs.Grown.{at}
use Rattle.proto_ast.proofs.Common.{BlockOf, FieldOf, blocks_in, fields_in}
use Rattle.proto_desc_checks_laws.proofs.Common.{any_kept, fields_moved, move_field_of}
use Rattle.proto_desc_extensions.specs.Extensions.{extended_at, extendee_in, has_extension_at, name_meant}
use Rattle.proto_edit_rules.specs.Statements.{tree_at}
use Rattle.proto_edit_statement_described.proofs.SaidBlocks.{IsMovedSaying, IsOfExtends, block_with, listed}

-- the full name that a reference means, if it means one
abbrev pub Meant : Type 0
Meant = Reference → Option (List (List ℕ))

-- what a block extends, if the extension at the token is one of it
abbrev pub extends_at : Meant → ℕ → BlockOf → List (Option (List (List ℕ)))
extends_at name token b = if has_extension_at token b then option_and_then name (extendee_in b.header) ∷ [] else []

abbrev pub first_said : {A : Type 0} → List (Option A) → Option A
first_said [] = None
first_said (o ∷ os) = o

-- what is found is what is said first
found_said : {A B : Type 0} (p : A → Bool) (f : A → Option B) (xs : List A) → option_and_then f (find p xs) ≡ first_said (flat_map (λ x. if p x then f x ∷ [] else []) xs)
found_said p f [] = refl
found_said {A} {B} p f (x ∷ xs) = by (p x) (found_said p f xs)
  where
    by : (b : Bool) → option_and_then f (find p xs) ≡ first_said (flat_map (λ y. if p y then f y ∷ [] else []) xs)
        → option_and_then f (if b then Some x else find p xs) ≡ first_said ((if b then f x ∷ [] else []) ++ flat_map (λ y. if p y then f y ∷ [] else []) xs)
    by true e = refl
    by false e = e

pub extended_said : (files : List FileOf) (reads : List ReadOf) (k i : ℕ) → extended_at files reads (at k i) ≡ first_said (listed (extends_at (name_meant files reads k) i) (tree_at reads k))
extended_said files reads k i = found_said (has_extension_at i) (λ (b : BlockOf). option_and_then (name_meant files reads k) (extendee_in b.header)) (blocks_in (tree_at reads k))

of_extends : (name : Meant) (i : ℕ) → IsOfExtends (extends_at name i)
of_extends name i h t e = ap (λ (o : Option Reference). if is_some o && list_any (λ (f : FieldOf). f.name == i) (fields_in t) then option_and_then name o ∷ [] else []) e

-- where moved references mean the same names
module _ (g : Move) (tests : (i j : ℕ) → (g i == g j) ≡ (i == j)) (was now : Meant) (same : (r : Reference) → now (move_reference g r) ≡ was r) where
  extendee_moved : (h : Header) → option_and_then now (extendee_in (move_header g h)) ≡ option_and_then was (extendee_in h)
  extendee_moved (header.Extend e) = same e.extendee
  extendee_moved whole = refl

  extend_moved : (h : Header) → is_some (extendee_in (move_header g h)) ≡ is_some (extendee_in h)
  extend_moved (header.Extend e) = refl
  extend_moved whole = refl

  has_moved : (i : ℕ) (h : Header) (t : Tree) → has_extension_at (g i) (block_with (move_header g h) (move_tree g t)) ≡ has_extension_at i (block_with h t)
  has_moved i h t =
      ap₂ (λ (a b : Bool). a && b) (extend_moved h)
      (ap (list_any (λ (f : FieldOf). f.name == g i)) (fields_moved g 0 t)
      ∙ any_kept (move_field_of g) (λ (f : FieldOf). f.name == i) (λ (f : FieldOf). f.name == g i) (λ f. tests f.name i) (fields_in t))

  pub extends_moved : (i : ℕ) → IsMovedSaying g (extends_at was i) (extends_at now (g i))
  extends_moved i = record {
    of_old = of_extends was i;
    of_new = of_extends now (g i);
    same = λ h t. ap₂ (λ (b : Bool) (o : Option (List (List ℕ))). if b then o ∷ [] else []) (has_moved i h t) (extendee_moved h);
  }
