-- How far a cursor can have come.
use Rattle.std.proofs.Common.{◌≡◌, ◌≤◌, ◌+◌, ◌==◌, ℕ, List, take, length, min, arith, length-take}
use Rattle.std.proofs.lemmas.List.Sums.{count_by-le-length, suffix_len-le-length}
use Rattle.proto_text.specs.Lines.{line_behind, column_behind}
use Rattle.proto_text.specs.Pieces.{is_in_line}

taken : (k : ℕ) (text : List ℕ) → length (take k text) ≤ k
taken k text = let e : length (take k text) ≡ min k (length text) = length-take k text in omega (arith, e)

pub few_lines : (text : List ℕ) (k : ℕ) → line_behind (take k text) ≤ 1 + k
few_lines text k =
    let short = taken k text in
    let few = count_by-le-length (λ b. b == 10) (take k text) in
    omega (arith, short, few)

pub few_columns : (text : List ℕ) (k : ℕ) → column_behind (take k text) ≤ 1 + k
few_columns text k =
    let short = taken k text in
    let few = suffix_len-le-length is_in_line (take k text) in
    omega (arith, short, few)
