-- The language that the first word behind the program's name asks for.
use Rattle.std.proofs.Common.{◌≡◌, ◌<◌, ◌≤◌, Bool, true, false, cond, List, [], ◌∷◌, length, get_or, drop, map, codes, bytes_eq, refl, ap, arith, String, Global, string_bytes}
use Rattle.proto_base.specs.Texts.{Text}
use Rattle.proto_base.specs.declared.profile.Profile.{Profile}
use Rattle.proto_base.specs.declared.profile.Profile.TheVariants.{AsWritten, Core}
use Rattle.protoref_arguments.specs.Languages.{asked_in}

-- by whether the first of the words asks for the language as written
abbrev by_first : Text → List Text → Bool → Profile × List Text
by_first word words asks = cond {A = Profile × List Text} asks (AsWritten, words) (Core, word ∷ words)

pub asks_as_written : (words : List (String Global)) (d : String Global) → 1 < length words → bytes_eq (string_bytes (get_or words 1 d)) (codes "--as-written") ≡ true
    → asked_in (drop 1 (map string_bytes words)) ≡ (AsWritten, drop 1 (map string_bytes (drop 1 words)))
asks_as_written [] d l is = absurd (omega (arith, l))
asks_as_written (a ∷ []) d l is = absurd (omega (arith, l))
asks_as_written (a ∷ b ∷ words) d l is = ap (by_first (string_bytes b) (map string_bytes words)) is

pub asks_no_language : (words : List (String Global)) (d : String Global) → (1 < length words → bytes_eq (string_bytes (get_or words 1 d)) (codes "--as-written") ≡ false)
    → asked_in (drop 1 (map string_bytes words)) ≡ (Core, drop 1 (map string_bytes words))
asks_no_language [] d other = refl
asks_no_language (a ∷ []) d other = refl
asks_no_language (a ∷ b ∷ words) d other = ap (by_first (string_bytes b) (map string_bytes words)) (other (omega arith))

-- no word stands behind the program's name
pub asks_nothing : (words : List (String Global)) → length words ≤ 1 → asked_in (drop 1 (map string_bytes words)) ≡ (Core, drop 1 (map string_bytes words))
asks_nothing [] few = refl
asks_nothing (a ∷ []) few = refl
asks_nothing (a ∷ b ∷ words) few = absurd (omega (arith, few))
