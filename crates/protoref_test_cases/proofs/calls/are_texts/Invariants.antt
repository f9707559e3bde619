use Rattle.std.proofs.Common.{◌≡◌, length, map, drop}
use Rattle.std.specs.Cmp.Lexicographic.{pointwise}
use Rattle.protoref_test_cases.specs.Rows.{is_file, row_file}
use Rattle.protoref_test_cases.proofs.calls.are_texts.Given as goal

-- The files and rows before the place are the same, so the others decide.
abbrev pub invariant-loop-place : goal.invariant-loop-place
invariant-loop-place l = (length l.workspace ≡ length l.texts)
    × (pointwise is_file l.workspace (map (λ t. row_file t.0.now t.1.now) l.texts)
    ≡ pointwise is_file (drop l.place l.workspace) (drop l.place (map (λ t. row_file t.0.now t.1.now) l.texts)))
