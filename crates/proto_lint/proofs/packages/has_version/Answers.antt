use Rattle.std.proofs.Common.{rules}
use Rattle.proto_lint.proofs.packages.has_version.Goals as goal

pub returns-else-not-has_package : goal.returns-else-not-has_package
returns-else-not-has_package c = search rules
