-- What the blocks that may hold fields or values say of all blocks of a tree (for the crates above).
use Rattle.std.proofs.Common.{◌≡◌, Bool, true, false, cond, List, [], ◌∷◌, ◌++◌, flat_map, filter, find, Option, Some, None, refl, sym, ap, ◌∙◌, true≢false}
use Rattle.proto_base.proofs.Common.{find-append, option_or}
use Rattle.proto_tree.specs.declared.piece.Header.{Header}
use Rattle.proto_tree.specs.declared.piece.Header.TheVariants as header
use Rattle.proto_tree.specs.declared.piece.Heading.{Heading}
use Rattle.proto_tree.specs.declared.tree.Signature.{Signature}
use Rattle.proto_tree.specs.Tree.{Tree}
use Rattle.proto_ast.proofs.Common.{BlockOf, blocks_in}
use Rattle.proto_resolved.specs.Blocks.{holders_in, may_hold}

-- ---- finding among them

turn : {A : Type 0} (p q : A → Bool) (x : A) (xs : List A) → (p x ≡ true → q x ≡ true) → find p (filter q xs) ≡ find p xs → (b : Bool) → q x ≡ b → (c : Bool) → p x ≡ c → find p (cond b (x ∷ filter q xs) (filter q xs)) ≡ cond c (Some x) (find p xs)
turn p q x xs h on true e true f = ap (λ (z : Bool). cond z (Some x) (find p (filter q xs))) f
turn p q x xs h on true e false f = ap (λ (z : Bool). cond z (Some x) (find p (filter q xs))) f ∙ on
turn p q x xs h on false e true f = let t : q x ≡ true = h f in absurd (cc)
turn p q x xs h on false e false f = on

find_filter : {A : Type 0} (p q : A → Bool) → ((x : A) → p x ≡ true → q x ≡ true) → (xs : List A) → find p (filter q xs) ≡ find p xs
find_filter p q h [] = refl
find_filter p q h (x ∷ xs) = turn p q x xs (h x) (find_filter p q h xs) (q x) refl (p x) refl

-- a header that passes is of one of them, if none of a service or of a method passes
passes : (p : Header → Bool) → ((h : Heading) → p (header.Service h) ≡ false) → ((s : Signature) → p (header.Method s) ≡ false) → (h : Header) → p h ≡ true → may_hold h ≡ true
passes p service method (header.Message h) e = refl
passes p service method (header.Oneof h) e = refl
passes p service method (header.Enum h) e = refl
passes p service method (header.Service h) e = absurd (true≢false (sym e ∙ service h))
passes p service method (header.Method s) e = absurd (true≢false (sym e ∙ method s))
passes p service method (header.Extend x) e = refl

-- so it is found among them as among all blocks
pub found_in_holders : (p : Header → Bool) → ((h : Heading) → p (header.Service h) ≡ false) → ((s : Signature) → p (header.Method s) ≡ false) → (tree : Tree) → find (λ b. p b.header) (holders_in tree) ≡ find (λ b. p b.header) (blocks_in tree)
found_in_holders p service method tree = find_filter (λ b. p b.header) (λ b. may_hold b.header) (λ b. passes p service method b.header) (blocks_in tree)

pub or_none : {A : Type 0} (o : Option A) → o ≡ option_or o None
or_none None = refl
or_none (Some x) = refl

-- one that does not pass changes nothing of what is found before it
pub found_before : {A : Type 0} (p : A → Bool) (xs : List A) (x : A) → find p (x ∷ []) ≡ None → find p xs ≡ find p (xs ++ x ∷ [])
found_before p xs x none = or_none (find p xs) ∙ ap (λ (o : Option _). option_or (find p xs) o) (sym none) ∙ sym (find-append p xs (x ∷ []))

-- ---- what each of them gives

flat_filter : {X Y : Type 0} (p : X → Bool) (f : X → List Y) → ((x : X) → p x ≡ false → f x ≡ []) → (xs : List X) → flat_map f (filter p xs) ≡ flat_map f xs
flat_filter p f h [] = refl
flat_filter {X} {Y} p f h (x ∷ xs) = go (p x) refl (flat_filter p f h xs)
  where
    go : (b : Bool) → p x ≡ b → flat_map f (filter p xs) ≡ flat_map f xs → flat_map f (cond b (x ∷ filter p xs) (filter p xs)) ≡ f x ++ flat_map f xs
    go true e more = ap (λ ys. f x ++ ys) more
    go false e more = more ∙ ap (λ (ys : List Y). ys ++ flat_map f xs) (sym (h x e))

-- what no other block gives, they give as all blocks do
pub given_by_holders : {Y : Type 0} (f : BlockOf → List Y) → ((b : BlockOf) → may_hold b.header ≡ false → f b ≡ []) → (tree : Tree) → flat_map f (holders_in tree) ≡ flat_map f (blocks_in tree)
given_by_holders f h tree = flat_filter (λ b. may_hold b.header) f h (blocks_in tree)
