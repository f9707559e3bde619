-- What is reached by steps along lists of numbers.
use Rattle.std.specs.Prelude.{◌≡◌, ◌⊎◌, ℕ, ◌+◌, ◌*◌, ◌≤◌, Bool, true, false, if◌then◌else◌, List, [], ◌∷◌, length, get_or}
use Rattle.std.specs.List.{Contains}

-- from a number along its list, any number of steps
pub data Walks (next : List (List ℕ)) : ℕ → ℕ → Type 0 where
  stays : {f : ℕ} → Walks next f f
  goes : {f g : ℕ} (h : ℕ) → Contains (get_or next f []) h → Walks next h g → Walks next f g

-- how many are false
abbrev pub unseen : List Bool → ℕ
unseen [] = 0
unseen (b ∷ bs) = (if b then 0 else 1) + unseen bs

-- the number has a mark
abbrev pub IsMarked : List Bool → ℕ → Type 0
IsMarked seen g = get_or seen g false ≡ true

-- the numbers of a list are marked, and those that were not marked before wait
pub record Visits (next : List ℕ) (seen : List Bool) (todo : List ℕ) (seen' : List Bool)
    (todo' : List ℕ) : Type 0 where
  pub sized : length seen' ≡ length seen
  pub kept : (g : ℕ) → IsMarked seen g → IsMarked seen' g
  pub marked : (g : ℕ) → Contains next g → IsMarked seen' g
  pub only : (g : ℕ) → IsMarked seen' g → IsMarked seen g ⊎ Contains next g
  pub waits : (g : ℕ) → IsMarked seen' g → IsMarked seen g ⊎ Contains todo' g
  pub stay : (g : ℕ) → Contains todo g → Contains todo' g
  pub from : (g : ℕ) → Contains todo' g → Contains todo g ⊎ IsMarked seen' g
  pub fresh : (g : ℕ) → Contains todo' g → Contains todo g ⊎ (get_or seen g false ≡ false)
  pub work : 2 * unseen seen' + length todo' ≤ 2 * unseen seen + length todo
