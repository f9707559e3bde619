use Rattle.std.proofs.Common.{◌≡◌}
use Rattle.std.specs.Char.{is_ascii_uppercase}
use Rattle.proto_case.proofs.Snakes.{front, front_then, front_else, snake_then, snake_else, no_snake}
use Rattle.proto_case.proofs.cases.is_upper_snake.Goals.{then-is_ascii_uppercase, else-is_ascii_uppercase}
use Rattle.proto_case.proofs.cases.is_upper_snake.Goals as goal

pub returns-then-has_upper_snake_bytes : goal.returns-then-has_upper_snake_bytes
returns-then-has_upper_snake_bytes c =
    let bytes = c.as_bytes.result.now in
    let value : c.if-is_ascii_uppercase.value ≡ front is_ascii_uppercase bytes = elim c.if-is_ascii_uppercase.branch [
      | then-is_ascii_uppercase w ↦ front_then is_ascii_uppercase bytes _ _ _ c.is_ascii_uppercase.ensures.value w.if-is_ascii_uppercase.true w.value-is w.has_upper_snake_bytes.ensures
      | else-is_ascii_uppercase w ↦ front_else is_ascii_uppercase bytes _ _ c.is_ascii_uppercase.ensures.value w.if-is_ascii_uppercase.false w.value-is
    ] in
    snake_then is_ascii_uppercase bytes c.args.name.now c.if-is_ascii_uppercase.value c.are_apart.result c.as_bytes.ensures.value c.in-len1-up.len_at_least value c.if-has_upper_snake_bytes.true (rw c.as_bytes-then-has_upper_snake_bytes.ensures.value at c.are_apart.ensures)

pub returns-else-has_upper_snake_bytes : goal.returns-else-has_upper_snake_bytes
returns-else-has_upper_snake_bytes c =
    let bytes = c.as_bytes.result.now in
    let value : c.if-is_ascii_uppercase.value ≡ front is_ascii_uppercase bytes = elim c.if-is_ascii_uppercase.branch [
      | then-is_ascii_uppercase w ↦ front_then is_ascii_uppercase bytes _ _ _ c.is_ascii_uppercase.ensures.value w.if-is_ascii_uppercase.true w.value-is w.has_upper_snake_bytes.ensures
      | else-is_ascii_uppercase w ↦ front_else is_ascii_uppercase bytes _ _ c.is_ascii_uppercase.ensures.value w.if-is_ascii_uppercase.false w.value-is
    ] in
    snake_else is_ascii_uppercase bytes c.args.name.now c.if-is_ascii_uppercase.value c.as_bytes.ensures.value c.in-len1-up.len_at_least value c.if-has_upper_snake_bytes.false

pub returns-in-empty : goal.returns-in-empty
returns-in-empty c = no_snake is_ascii_uppercase c.as_bytes.result.now c.args.name.now c.as_bytes.ensures.value c.in-empty.len_below
