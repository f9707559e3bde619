-- Laws of the definitions.
use Rattle.std.specs.Prelude.{◌≡◌}
use Rattle.std.specs.Cmp.Lexicographic.{slice_cmp}
use Rattle.std.specs.Ordering.{nat_cmp}
use Rattle.proto_lint_rules.specs.declared.rule.Rule.{Rule}
use Rattle.proto_lint_rules.specs.Rules.{identifier, number}

-- The order of rules is that of the bytes of their identifiers.
abbrev pub IdentifiersRise : Type 0
IdentifiersRise = (r s : Rule)
    → nat_cmp (number r) (number s) ≡ slice_cmp nat_cmp (identifier r) (identifier s)
