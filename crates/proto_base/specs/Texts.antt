-- What definitions call a text, and a path.
use Rattle.std.specs.Prelude.{ℕ, List, [], Option, Some, None}

-- A text: its bytes, first to last.
abbrev pub Text : Type 0
Text = List ℕ

-- A path of a file, with `/` between its parts.
abbrev pub Path : Type 0
Path = Text

-- a text that may be given, and nothing where it is not
abbrev pub or_nothing : Option Text → Text
or_nothing None = []
or_nothing (Some text) = text

-- the most bytes that a file may have
abbrev pub text_limit : ℕ
text_limit = 1048576
