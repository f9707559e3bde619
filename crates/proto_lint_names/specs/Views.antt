-- What the findings of the code say, as the plain records of the definitions.
use Rattle.std.specs.Prelude.{string_bytes}
use Rattle.proto_lint_names.specs.declared.finding.Finding.{Finding}
use Rattle.proto_lint_names.specs.declared.found.Found.{Found as FoundAt}
use Rattle.proto_lint_names.specs.Listings.{FindingOf}
use Rattle.proto_lint_names.specs.Placed.{Found}

-- what a finding of one file says
abbrev pub found_of : FoundAt → Found
found_of f = record { offset = f.offset; rule = f.rule; name = string_bytes f.name }

-- what a finding of a workspace says
abbrev pub finding_of : Finding → FindingOf
finding_of f = record {
  path = string_bytes f.path;
  offset = f.offset;
  rule = f.rule;
  name = string_bytes f.name;
}
