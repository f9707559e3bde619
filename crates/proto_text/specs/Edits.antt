-- Edits of a text, as a list of what stands where and what comes in its place: the replaced text of
-- this product.
use Rattle.std.specs.Prelude.{◌≡◌, ℕ, ◌+◌, ◌-◌, ◌≤◌, List, [], ◌∷◌, ◌++◌, length}
use Rattle.proto_base.specs.Texts.{Text, text_limit}

-- an edit: what stands at an offset, in bytes from 0, and what comes in its place
pub record Edit : Type 0 where
  pub at : ℕ
  pub old : Text
  pub new : Text

-- the text, which begins at from, is kept, then old at its place, then after
abbrev pub IsCut : Text → ℕ → ℕ → Text → Text → Text → Type 0
IsCut text from at old kept after = (text ≡ kept ++ (old ++ after)) × (from + length kept ≡ at)

-- New is text with each old text replaced; text begins at the offset from.
abbrev pub Puts : ℕ → Text → List Edit → Text → Type 0
Puts from text [] new = new ≡ text
Puts from text (e ∷ es) new =
    (kept rest more : List ℕ) × IsCut text from e.at e.old kept rest
    × (new ≡ kept ++ (e.new ++ more)) × Puts (e.at + length e.old) rest es more

-- the edit that leads back, where the text from offset `from` on became the new text from `to` on
abbrev pub inverse_of : ℕ → ℕ → Edit → Edit
inverse_of to from e = record { at = to + (e.at - from); old = e.new; new = e.old }

-- the edits that lead back; text began at from, and the new text at to
abbrev pub inverse_from : ℕ → ℕ → List Edit → List Edit
inverse_from to from [] = []
inverse_from to from (e ∷ es) =
    inverse_of to from e
    ∷ inverse_from ((to + (e.at - from)) + length e.new) (e.at + length e.old) es

-- Each edit begins where the one before ends, or later, and none ends past 1,048,576 bytes, in the
-- text or the new text.
abbrev pub AreShort : ℕ → ℕ → List Edit → Type 0
AreShort to from [] = Unit {0}
AreShort to from (e ∷ es) =
    (from ≤ e.at) × (e.at + length e.old ≤ text_limit)
    × ((to + (e.at - from)) + length e.new ≤ text_limit)
    × AreShort ((to + (e.at - from)) + length e.new) (e.at + length e.old) es

-- What edits put is put back by those that lead back.
abbrev pub InverseLeadsBack : Type 0
InverseLeadsBack =
    (text new : List ℕ) (es : List Edit) → Puts 0 text es new
    → Puts 0 new (inverse_from 0 0 es) text

-- Edits put one text.
abbrev pub EditsPutOnce : Type 0
EditsPutOnce =
    (text a b : List ℕ) (es : List Edit) → Puts 0 text es a → Puts 0 text es b → a ≡ b

-- how many bytes the old texts have
abbrev pub old_len : List Edit → ℕ
old_len [] = 0
old_len (e ∷ es) = length e.old + old_len es

-- how many bytes the new texts have
abbrev pub new_len : List Edit → ℕ
new_len [] = 0
new_len (e ∷ es) = length e.new + new_len es

-- A put takes the old texts from the length, and adds the new ones.
abbrev pub PutsLength : Type 0
PutsLength =
    (text new : List ℕ) (es : List Edit) → Puts 0 text es new
    → length new + old_len es ≡ length text + new_len es
