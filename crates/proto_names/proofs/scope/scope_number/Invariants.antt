use Rattle.std.proofs.Common.{◌≡◌, ◌≤◌, ℕ, List, length, IsUtf8}
use Rattle.proto_names_rules.specs.Joined.{joined, ArePlain}
use Rattle.proto_names.proofs.Scopes.{IsInScope}
use Rattle.proto_names.proofs.scope.scope_number.Given as goal

abbrev pub invariant-loop-word : goal.invariant-loop-word
invariant-loop-word l = record {
  within : l.number ≤ length l.table.rows.items;
  words : (path : List (List ℕ)) → ArePlain path → l.scope ≡ joined path → IsInScope l.table path l.number l.rest;
  utf8 : IsUtf8 l.rest;
}

abbrev pub decreases-loop-word : goal.decreases-loop-word
decreases-loop-word l = length l.rest
