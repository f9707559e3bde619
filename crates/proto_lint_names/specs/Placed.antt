-- Names at their tokens, and findings at their places.
use Rattle.std.specs.Prelude.{ℕ, Bool, true, false, if◌then◌else◌, List, [], ◌∷◌, map, Option, Some, None}
use Rattle.std.specs.Path.{rsplit_once}
use Rattle.proto_base.specs.Texts.{Text}
use Rattle.proto_names_rules.specs.Forest.{under}
use Rattle.proto_text.specs.Texts.{offset_at}
use Rattle.proto_lint_rules.specs.declared.rule.Rule.{Rule}
use Rattle.proto_lint_names.specs.Readings.{LintFile, word_in}
use Rattle.proto_lint_rules.specs.Rules.{is_chosen}

-- a name, and the token that it is told of
pub record NamedToken : Type 0 where
  pub token : ℕ
  pub name : Text

-- a finding of a file: its offset, its rule, and the name that is printed
pub record Found : Type 0 where
  pub offset : ℕ
  pub rule : Rule
  pub name : Text

-- a name at a token, unless it passes
abbrev pub unless : Bool → ℕ → Text → List NamedToken
unless true token name = []
unless false token name = record { token = token; name = name } ∷ []

-- a name right in a scope, at its own token, unless its word passes
abbrev pub unless_word : LintFile → (Text → Bool) → Text → ℕ → List NamedToken
unless_word r passes scope token =
    unless (passes (word_in r token)) token (under scope (word_in r token))

-- what a rule finds at a name: its finding where the name's token begins
abbrev pub found_at : LintFile → Rule → NamedToken → Found
found_at r rule n = record { offset = offset_at r.tokens n.token; rule = rule; name = n.name }

-- what a rule finds at some names, if it is one of those chosen
abbrev pub found_by : List Bool → LintFile → Rule → List NamedToken → List Found
found_by rules r rule names = if is_chosen rules rule then map (found_at r rule) names else []

-- ---- parts of names and paths

-- the first of two texts, and nothing where there are none
abbrev pub front_or : Option (Text × Text) → Text
front_or None = []
front_or (Some p) = p.0

-- the second of two texts, and the whole where there are none
abbrev pub back_or : Option (Text × Text) → Text → Text
back_or None whole = whole
back_or (Some p) whole = p.1

-- what stands before the last such character of a text, or nothing
abbrev pub before_last : ℕ → Text → Text
before_last c name = front_or (rsplit_once c name)

-- what stands behind the last such character of a text, or all of it
abbrev pub behind_last : ℕ → Text → Text
behind_last c name = back_or (rsplit_once c name) name
