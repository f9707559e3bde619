use Rattle.std.proofs.Common.{◌≡◌}
use Rattle.std.specs.Char.{is_ascii_lowercase}
use Rattle.proto_case.proofs.Snakes.{front, front_then, front_else, snake_then, snake_else, no_snake}
use Rattle.proto_case.proofs.cases.is_lower_snake.Goals.{then-is_ascii_lowercase, else-is_ascii_lowercase}
use Rattle.proto_case.proofs.cases.is_lower_snake.Goals as goal

pub returns-then-has_lower_snake_bytes : goal.returns-then-has_lower_snake_bytes
returns-then-has_lower_snake_bytes c =
    let bytes = c.as_bytes.result.now in
    let value : c.if-is_ascii_lowercase.value ≡ front is_ascii_lowercase bytes = elim c.if-is_ascii_lowercase.branch [
      | then-is_ascii_lowercase w ↦ front_then is_ascii_lowercase bytes _ _ _ c.is_ascii_lowercase.ensures.value w.if-is_ascii_lowercase.true w.value-is w.has_lower_snake_bytes.ensures
      | else-is_ascii_lowercase w ↦ front_else is_ascii_lowercase bytes _ _ c.is_ascii_lowercase.ensures.value w.if-is_ascii_lowercase.false w.value-is
    ] in
    snake_then is_ascii_lowercase bytes c.args.name.now c.if-is_ascii_lowercase.value c.are_apart.result c.as_bytes.ensures.value c.in-len1-up.len_at_least value c.if-has_lower_snake_bytes.true (rw c.as_bytes-then-has_lower_snake_bytes.ensures.value at c.are_apart.ensures)

pub returns-else-has_lower_snake_bytes : goal.returns-else-has_lower_snake_bytes
returns-else-has_lower_snake_bytes c =
    let bytes = c.as_bytes.result.now in
    let value : c.if-is_ascii_lowercase.value ≡ front is_ascii_lowercase bytes = elim c.if-is_ascii_lowercase.branch [
      | then-is_ascii_lowercase w ↦ front_then is_ascii_lowercase bytes _ _ _ c.is_ascii_lowercase.ensures.value w.if-is_ascii_lowercase.true w.value-is w.has_lower_snake_bytes.ensures
      | else-is_ascii_lowercase w ↦ front_else is_ascii_lowercase bytes _ _ c.is_ascii_lowercase.ensures.value w.if-is_ascii_lowercase.false w.value-is
    ] in
    snake_else is_ascii_lowercase bytes c.args.name.now c.if-is_ascii_lowercase.value c.as_bytes.ensures.value c.in-len1-up.len_at_least value c.if-has_lower_snake_bytes.false

pub returns-in-empty : goal.returns-in-empty
returns-in-empty c = no_snake is_ascii_lowercase c.as_bytes.result.now c.args.name.now c.as_bytes.ensures.value c.in-empty.len_below
