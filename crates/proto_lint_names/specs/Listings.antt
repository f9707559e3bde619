-- Findings, and their listing.
use Rattle.std.specs.Prelude.{◌≡◌, ◌↔◌, ℕ, List, AllPairs}
use Rattle.proto_base.specs.Texts.{Path, Text}
use Rattle.std.specs.List.{Contains}
use Rattle.std.specs.Ordering.{nat_cmp, ordering_then}
use Rattle.std.specs.Cmp.Lexicographic.{slice_cmp}
use Rattle.std.specs.declared.cmp.Ordering.{Ordering}
use Rattle.std.specs.declared.cmp.Ordering.TheVariants.{Less}
use Rattle.proto_lint_rules.specs.declared.rule.Rule.{Rule}
use Rattle.proto_lint_names.specs.Placed.{Found}
use Rattle.proto_lint_rules.specs.Rules.{identifier}

-- a finding of a workspace: the path of its file, its offset, its rule, and the name that is
-- printed
pub record FindingOf : Type 0 where
  pub path : Path
  pub offset : ℕ
  pub rule : Rule
  pub name : Text

-- a finding of the file at a path
abbrev pub found_in : Path → Found → FindingOf
found_in path f = record { path = path; offset = f.offset; rule = f.rule; name = f.name }

-- the order of findings: by path, offset, the rule's identifier, and name, each by its bytes
abbrev pub finding_cmp : FindingOf → FindingOf → Ordering
finding_cmp f g =
    ordering_then (slice_cmp nat_cmp f.path g.path)
    (ordering_then (nat_cmp f.offset g.offset)
    (ordering_then (slice_cmp nat_cmp (identifier f.rule) (identifier g.rule))
    (slice_cmp nat_cmp f.name g.name)))

-- a listing of findings has each of them once, in order
pub record IsListingOf (all listed : List FindingOf) : Type 0 where
  pub ordered : AllPairs (λ f g. finding_cmp f g ≡ Less) listed
  pub same : (f : FindingOf) → Contains listed f ↔ Contains all f
