-- Lists with something more in them.
use Rattle.std.specs.Prelude.{◌≡◌, List, ◌∷◌, ◌++◌}
use Rattle.std.specs.List.{Contains}

-- The second list is the first with elements more at one place, each of which is so.
pub record HasMore {A : Type 0} (IsSo : A → Type 0) (xs ys : List A) : Type 0 where
  pub front : List A
  pub more : List A
  pub back : List A
  pub was : xs ≡ front ++ back
  pub is : ys ≡ front ++ (more ++ back)
  pub so : (x : A) → Contains more x → IsSo x

-- The second list is the first with this one element more.
pub record HasOneMore {A : Type 0} (x : A) (xs ys : List A) : Type 0 where
  pub front : List A
  pub back : List A
  pub was : xs ≡ front ++ back
  pub is : ys ≡ front ++ x ∷ back

-- of whatever kind
abbrev pub IsAny : {A : Type 0} → A → Type 0
IsAny x = Unit {0}
