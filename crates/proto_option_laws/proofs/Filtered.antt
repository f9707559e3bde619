-- What passes a test, before and after a map (for the crates above).
use Rattle.std.proofs.Common.{◌≡◌, Bool, true, false, cond, List, [], ◌∷◌, map, refl, ◌∙◌, ap, ap₂, Contains, filter}
use Rattle.proto_base.proofs.Common.{contains_head, contains_later}

-- where what f makes of an element passes just if the element passes, and then looks the same, what passes looks the same
pub filtered : {X Y : Type 0} (p q : X → Bool) (f : X → X) (g h : X → Y) (xs : List X) → ((x : X) → Contains xs x → (p (f x) ≡ q x) × (q x ≡ true → g (f x) ≡ h x)) → map g (filter p (map f xs)) ≡ map h (filter q xs)
filtered p q f g h [] a = refl
filtered {X} {Y} p q f g h (x ∷ xs) a =
    ap (λ b. map g (cond b (f x ∷ filter p (map f xs)) (filter p (map f xs)))) head.0 ∙ by (q x) refl (filtered p q f g h xs (λ y c. a y (contains_later x y xs c)))
  where
    head : (p (f x) ≡ q x) × (q x ≡ true → g (f x) ≡ h x)
    head = a x (contains_head x xs)

    by : (b : Bool) → q x ≡ b → map g (filter p (map f xs)) ≡ map h (filter q xs) → map g (cond b (f x ∷ filter p (map f xs)) (filter p (map f xs))) ≡ map h (cond b (x ∷ filter q xs) (filter q xs))
    by true t rest = ap₂ (λ (y : Y) (ys : List Y). y ∷ ys) (head.1 t) rest
    by false t rest = rest
