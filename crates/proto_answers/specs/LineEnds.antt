-- Line ends of a text, and edits of it of which every editor makes the same.
use Rattle.std.specs.Prelude.{◌≡◌, ◌≢◌, ◌⊎◌, ℕ, ◌+◌, List, slice_get, Some}
use Rattle.std.specs.List.{All, AllByRecursion}
use Rattle.proto_base.specs.Ascii as ascii
use Rattle.proto_base.specs.Texts.{Text}
use Rattle.proto_text.specs.Edits.{Edit}
use Rattle.proto_positions.specs.TextEdits.{HavePositions}

-- at this offset a carriage return stands alone: no line feed follows it
pub record IsLoneReturn (text : Text) (offset : ℕ) : Type 0 where
  pub here : slice_get text offset ≡ Some ascii.carriage_return
  pub alone : slice_get text (offset + 1) ≡ Some ascii.line_feed → ⊥

-- at some offset one stands alone
abbrev pub HasLoneReturn : Text → Type 0
HasLoneReturn text = (offset : ℕ) × IsLoneReturn text offset

-- no carriage return
abbrev pub HasNoReturn : Text → Type 0
HasNoReturn text = All (λ b. b ≢ ascii.carriage_return) text

-- neither a carriage return nor a line feed
abbrev pub HasNoLineEnd : Text → Type 0
HasNoLineEnd text = All (λ b. (b ≢ ascii.carriage_return) × (b ≢ ascii.line_feed)) text

-- no new text brings a line end into a text that has a carriage return
abbrev pub HasNoMixedEnds : Text → List Edit → Type 0
HasNoMixedEnds text edits = HasNoReturn text ⊎ All (λ d. HasNoLineEnd d.new) edits

-- All editors make the same of these edits of the text. They differ on the lines of a text with a
-- lone carriage return, have no position within a line end or a character, and put line ends of
-- their own into a text that has a carriage return.
pub record SuitEditors (text : Text) (edits : List Edit) : Type 0 where
  pub lines : HasLoneReturn text → ⊥
  pub positions : AllByRecursion (HavePositions text) edits
  pub ends : HasNoMixedEnds text edits
