-- A collision in short: a new name is taken.
use Rattle.std.specs.Prelude.{◌≡◌, ◌⊎◌, ◌↔◌, Bool, false, ◌||◌, List, [], ◌∷◌, ◌++◌, Option, Some, None}
use Rattle.std.specs.List.{Contains}
use Rattle.std.specs.Str.{bytes_eq}
use Rattle.proto_base.specs.Texts.{Text}
use Rattle.proto_names_rules.specs.Edits.{Renaming, Collides, in_domain}
use Rattle.proto_names_rules.specs.Linked.{IsLinked, IsRenaming}
use Rattle.proto_names_rules.specs.Names.{Symbol, Workspace}
use Rattle.proto_names.specs.Linking.{LinkOf}
use Rattle.proto_edit_captures.specs.Looked.{HasText}

-- a symbol that keeps its name has this one
pub record IsTakenName (e : Renaming) (w : Workspace) (name : List Text) : Type 0 where
  pub symbol : Symbol
  pub within : Contains w.symbols symbol
  pub name_is : symbol.name ≡ name
  pub stays : in_domain e name ≡ false

-- the new name is taken, or that of the new entry
abbrev pub IsNewNameTaken : Renaming → Workspace → Type 0
IsNewNameTaken e w = IsTakenName e w (e.parent ++ e.new ∷ [])
    ⊎ ((p : Text × Text) × (e.entry ≡ Some p) × IsTakenName e w (e.parent ++ p.1 ∷ []))

-- In linked files a rename collides exactly where one of these is taken:
-- what stands below stands in them.
abbrev pub CollisionsAreNewNames : Type 0
CollisionsAreNewNames = (e : Renaming) (w : Workspace)
    → IsLinked w
    → IsRenaming e w
    → Collides e w ↔ IsNewNameTaken e w

-- ---- as texts

-- the text is there, and is the word
abbrev pub is_this_word : Option Text → Text → Bool
is_this_word None word = false
is_this_word (Some text) word = bytes_eq word text

-- the word is freed: that of the target, or of its old entry
abbrev pub is_freed : Text → Option Text → Text → Bool
is_freed own entry word = bytes_eq word own || is_this_word entry word

-- a name that is not freed has this text: a front, and a word behind it
abbrev pub IsTakenText : LinkOf → Text → Text → Option Text → Text → Type 0
IsTakenText l front own entry word = (is_freed own entry word ≡ false) × HasText l (front ++ word)

-- one of the two is taken
abbrev pub IsOneTaken : LinkOf → Text → Text → Option Text → Text → Option Text
    → Type 0
IsOneTaken l front own entry to None = IsTakenText l front own entry to
IsOneTaken l front own entry to (Some new) = IsTakenText l front own entry to
    ⊎ IsTakenText l front own entry new
