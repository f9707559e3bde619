-- Marks of the files that a file sees.
use Rattle.std.specs.Prelude.{◌≡◌, ℕ, Bool, false, List, get_or}
use Rattle.proto_names_rules.specs.Names.{Workspace, sees}

-- a file is marked just if this file sees it
abbrev pub MarksSeen : Workspace → ℕ → List Bool → Type 0
MarksSeen w file seen = (g : ℕ) → get_or seen g false ≡ sees w file g
