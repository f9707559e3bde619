-- The scopes of a tree's references are declared.
use Rattle.std.proofs.Common.{◌≡◌, ◌≢◌, List, [], ◌∷◌, ◌++◌, length, map, refl, sym, ◌∙◌, ap, arith, append_assoc, length-append, Contains, append-nil}
use Rattle.proto_base.proofs.Common.{contains_map}
use Rattle.proto_names_rules.proofs.Common.{Declared, IsWoven, Skeleton, Source, name_of, spell, symbol_of}
use Rattle.proto_names_rules.specs.Beginnings.{ScopesAreDeclared}

-- a list whose elements are mapped to two lists in order is two lists
parted : {X Y : Type 0} (f : X → Y) (front back : List Y) (path : List X) → map f path ≡ front ++ back → (a : List X) × (b : List X) × (path ≡ a ++ b) × (map f a ≡ front)
parted f [] back path e = ([], path, refl, refl)
parted f (y ∷ front) back [] e = absurd (omega (arith, ap length e))
parted {X = X} {Y = Y} f (y ∷ front) back (x ∷ path) e =
    let r = parted f front back path (ap rest_of e) in
    (x ∷ r.0, r.1, ap (λ (z : List X). x ∷ z) r.2, ap (λ (z : List Y). f x ∷ z) r.3 ∙ ap (λ (z : Y). z ∷ front) (ap (first_of y) e))
  where
    rest_of : List Y → List Y
    rest_of [] = []
    rest_of (z ∷ zs) = zs

    first_of : Y → List Y → Y
    first_of d [] = d
    first_of d (z ∷ zs) = z

not_empty : {X : Type 0} (a : List X) (x : X) → a ++ x ∷ [] ≢ []
not_empty [] x e = omega (arith, ap length e)
not_empty (y ∷ a) x e = omega (arith, ap length e)

-- each front of a declared path is declared
front_declared : {X : Type 0} (k : Skeleton X) → IsWoven k → (b a : List (Source X)) → a ≢ [] → (s : Declared X) → Contains k.declared s → s.path ≡ a ++ b → (u : Declared X) × Contains k.declared u × (u.path ≡ a)
front_declared k is [] a some s c e = (s, c, e ∙ append-nil a)
front_declared k is (x ∷ b) a some s c e =
    let u = front_declared k is b (a ++ x ∷ []) (not_empty a x) s c (e ∙ sym (append_assoc a (x ∷ []) b)) in
    is.fronts u.0 u.1 a x u.2 some

pub scopes_are_declared : {X : Type 0} → ScopesAreDeclared X
scopes_are_declared text entry k is u c front back e long =
    let p = parted (spell text entry) front back u.scope (sym e) in
    let some : p.0 ≢ [] = λ none. omega (arith, long, ap length (sym p.3), ap (λ z. length (map (spell text entry) z)) none) in
    let scope : u.scope ≢ [] = λ none. omega (arith, long, length-append front back, ap length e, ap (λ z. length (map (spell text entry) z)) none) in
    let s = is.scopes u c scope in
    let d = front_declared k is p.1 p.0 some s.0 s.1 (s.2 ∙ p.2) in
    (symbol_of text entry d.0, contains_map (symbol_of text entry) k.declared d.0 d.1, ap (name_of text entry) d.2 ∙ p.3)
