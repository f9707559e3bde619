-- The words of a command line, seen as texts.
use Rattle.std.proofs.Common.{◌≡◌, ◌<◌, List, [], ◌∷◌, length, get_or, map, String, Global, string_bytes, bytes_eq, codes, sym, ap, arith}
use Rattle.protoref_serve.specs.Arguments.{is_as_written}

-- the word behind the program's name
pub asks : (ws : List (String Global)) (w : String Global) → 1 < length ws → w ≡ get_or ws 1 w → is_as_written (map string_bytes ws) ≡ bytes_eq (string_bytes w) (codes "--as-written")
asks [] w lt e = absurd (omega (arith, lt))
asks (a ∷ []) w lt e = absurd (omega (arith, lt))
asks (a ∷ b ∷ ws) w lt e = ap (λ (x : String Global). bytes_eq (string_bytes x) (codes "--as-written")) (sym e)
