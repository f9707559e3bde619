-- A log of changes of a list, and the list without them.
use Rattle.std.specs.Prelude.{◌≡◌, ℕ, ◌<◌, ◌≤◌, List, [], ◌∷◌, ◌++◌, get_or, length, slice_set, take}
use Rattle.std.specs.List.{All}
use Rattle.proto_base.specs.declared.changes.Change.{Change}

-- the list as it was before the changes of the log, the last of which is rolled back first
abbrev pub undone : {T : Type 0} → List (Change T) → List T → List T
undone [] items = items
undone (c ∷ log) items = slice_set (undone log items) c.place c.was

-- the log has one change more: of this place of the list, with what stood there
pub record IsNoted {T : Type 0} (old new : List (Change T)) (items : List T) (place : ℕ)
    : Type 0 where
  pub was : T
  pub stood : was ≡ get_or items place was
  pub behind : new ≡ old ++ record { place = place; was = was } ∷ []

-- each change is one of a place among so many
abbrev pub AreWithin : {T : Type 0} → ℕ → List (Change T) → Type 0
AreWithin count log = All (λ c. c.place < count) log

-- elements that were added at the end since make no difference to the first ones, as they were
abbrev pub AddedAreCut : Type 0 → Type 0
AddedAreCut T =
    (log : List (Change T)) (items added : List T) (count : ℕ) → count ≤ length items
    → take count (undone log (items ++ added)) ≡ take count (undone log items)

-- the list with these values at these places, one after another
abbrev pub with_values : {T : Type 0} → List T → List ℕ → List T → List T
with_values items [] values = items
with_values items (place ∷ places) [] = items
with_values items (place ∷ places) (v ∷ values) = with_values (slice_set items place v) places values
