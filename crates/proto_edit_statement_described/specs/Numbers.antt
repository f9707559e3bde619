-- A number in decimal is read as itself.
use Rattle.std.specs.Prelude.{◌≡◌, ℕ, ◌<◌, ◌^◌}
use Rattle.std.specs.Fmt.{decimal}
use Rattle.proto_ast.specs.Numbers.{number_value}

-- A number below 2^64 that is written in decimal is read as itself.
abbrev pub DecimalsAreNumbers : Type 0
DecimalsAreNumbers = (n : ℕ) → n < 2 ^ 64 → number_value (decimal n) ≡ n
