-- Fields whose names have digests of their own have names of their own.
use Rattle.std.proofs.Common.{◌≡◌, ℕ, Bool, true, false, not, ◌==◌, List, [], ◌∷◌, ◌++◌, map, refl, sym, ap, ◌∙◌, if◌then◌else◌, bytes_eq, eq-eqb}
use Rattle.proto_base.proofs.Common.{list_any, map-append, or_parts, false_from_ne_true, false≢true, bytes_eq-Decides, not-true}
use Rattle.proto_base.specs.declared.fault.FaultKind.{FaultKind}
use Rattle.proto_ast.proofs.Common.{FieldOf, Scene, json_name_of, name_digest}
use Rattle.proto_desc_numbers.proofs.Common.{after_earlier, earlier, false_or, flaw_if, marked}
use Rattle.proto_desc_checks.specs.FileFlaws.{json_clashes}
use Rattle.proto_desc_checks.proofs.OptionNames.{earlier_map}

-- where equal elements are mapped to equal ones, and none of these repeats, no element repeats
none_before : {A B : Type 0} (f : A → B) (so : A → A → Bool) (eq : B → B → Bool) → ((x y : A) → so x y ≡ true → eq (f x) (f y) ≡ true)
    → (x : A) (front : List A) → list_any (λ p. eq p (f x)) (map f front) ≡ false → list_any (λ p. so p x) front ≡ false
none_before f so eq kept x [] e = refl
none_before f so eq kept x (p ∷ ps) e =
    let q = or_parts (eq (f p) (f x)) (list_any (λ p. eq p (f x)) (map f ps)) e in
    false_or (so p x) (list_any (λ p. so p x) ps) (false_from_ne_true (so p x) (λ is. false≢true (sym q.0 ∙ kept p x is))) (none_before f so eq kept x ps q.1)

none_repeats : {A B : Type 0} (f : A → B) (so : A → A → Bool) (eq : B → B → Bool) → ((x y : A) → so x y ≡ true → eq (f x) (f y) ≡ true)
    → (front xs : List A) → list_any (λ (b : Bool). b) (earlier eq (map f front) (map f xs)) ≡ false → list_any (λ (b : Bool). b) (earlier so front xs) ≡ false
none_repeats f so eq kept front [] e = refl
none_repeats f so eq kept front (x ∷ xs) e =
    let q = or_parts (list_any (λ p. eq p (f x)) (map f front)) (list_any (λ (b : Bool). b) (earlier eq (map f front ++ f x ∷ []) (map f xs))) e in
    false_or (list_any (λ p. so p x) front) (list_any (λ (b : Bool). b) (earlier so (front ++ x ∷ []) xs))
    (none_before f so eq kept x front q.0)
    (none_repeats f so eq kept (front ++ x ∷ []) xs (ap (λ (ys : List _). list_any (λ (b : Bool). b) (earlier eq ys (map f xs))) (map-append f front (x ∷ [])) ∙ q.1))

none_marked : (kind : FaultKind) (tokens : List ℕ) (flags : List Bool) → list_any (λ (b : Bool). b) flags ≡ false → marked kind tokens flags ≡ []
none_marked kind [] flags e = refl
none_marked kind (t ∷ ts) [] e = refl
none_marked kind (t ∷ ts) (b ∷ bs) e =
    let q = or_parts b (list_any (λ (b : Bool). b) bs) e in
    ap (λ (c : Bool). flaw_if c kind t ++ marked kind ts bs) q.0 ∙ none_marked kind ts bs q.1

-- names whose digests do not repeat do not clash
pub no_clash : (scene : Scene) (fs : List FieldOf) (digests : List ℕ) (apart : Bool) → digests ≡ map (λ f. name_digest (json_name_of scene f)) fs
    → apart ≡ not (list_any (λ (b : Bool). b) (after_earlier (λ a b. a == b) digests)) → apart ≡ true → json_clashes scene fs ≡ []
no_clash scene fs digests apart are is yes_apart =
    let digest : FieldOf → ℕ = λ f. name_digest (json_name_of scene f) in
    let so : FieldOf → FieldOf → Bool = λ f g. bytes_eq (json_name_of scene f) (json_name_of scene g) in
    let none : list_any (λ (b : Bool). b) (after_earlier (λ a b. a == b) digests) ≡ false = not-true _ (sym is ∙ yes_apart) in
    let names = none_repeats digest so (λ a b. a == b) (λ f g h. eq-eqb (digest f) (digest g) (ap name_digest ((bytes_eq-Decides (json_name_of scene f) (json_name_of scene g)).0 h))) [] fs
    (ap (λ (ds : List ℕ). list_any (λ (b : Bool). b) (after_earlier (λ a b. a == b) ds)) (sym are) ∙ none) in
    let texts = ap (list_any (λ (b : Bool). b)) (sym (earlier_map (json_name_of scene) bytes_eq [] fs)) ∙ names in
    go scene.is_proto3 (none_marked _ (map (λ f. f.name) fs) _ texts)
  where
    go : {A : Type 0} {xs : List A} (b : Bool) → xs ≡ [] → (if b then xs else []) ≡ []
    go true e = e
    go false e = refl
