-- A workspace path stands in quotes as it is (for the crates above).
use Rattle.std.proofs.Common.{◌≡◌, ℕ, ◌<◌, ◌≤◌, true, false, eqb, List, [], ◌∷◌, ◌++◌, refl, sym, ap, subst, ◌∙◌, inl, inr, arith, IsAscii, IsUtf8, eqb-true}
use Rattle.proto_base.proofs.Common.{join_with_byte, list_all, and_parts, both_ways, cases_lt, false_from_ne_true, nat_tests, list_all-from_AllPass, IsUtf8-from_ascii, IsAscii-cons, IsAscii-nil}
use Rattle.proto_text.proofs.Common.{EachByte, is_plain}
use Rattle.proto_files.specs.WorkspacePaths.{IsWorkspacePath, is_path_byte, is_path_part}

apart_from : (b n : ℕ) → is_path_byte n ≡ false → is_path_byte b ≡ true → eqb b n ≡ false
apart_from b n e h = false_from_ne_true (eqb b n) (λ t. both_ways (is_path_byte n) e (ap is_path_byte (sym (eqb-true b n t)) ∙ h))

plain : (b : ℕ) → is_path_byte b ≡ true → is_plain b ≡ true
plain b h = rw (apart_from b 34 refl h, apart_from b 39 refl h, apart_from b 92 refl h, apart_from b 10 refl h, apart_from b 0 refl h) refl

high_is_none : (b : ℕ) → 128 ≤ b → is_path_byte b ≡ false
high_is_none b h = grind (arith, nat_tests)

ascii : (b : ℕ) → is_path_byte b ≡ true → b < 128
ascii b h = elim (cases_lt b 128) [
  | inl lt ↦ lt
  | inr ge ↦ absurd (both_ways (is_path_byte b) (high_is_none b ge) h)
]

-- what is said of a byte
abbrev IsGood : ℕ → Type 0
IsGood b = (is_plain b ≡ true) × (b < 128)

abbrev AreGood : List ℕ → Type 0
AreGood [] = Unit {0}
AreGood (b ∷ bytes) = IsGood b × AreGood bytes

good_part : (bytes : List ℕ) → list_all is_path_byte bytes ≡ true → AreGood bytes
good_part [] h = tt
good_part (b ∷ bytes) h = let p = and_parts (is_path_byte b) (list_all is_path_byte bytes) h in ((plain b p.0, ascii b p.0), good_part bytes p.1)

good_join : (a b : List ℕ) → AreGood a → AreGood b → AreGood (a ++ b)
good_join [] b h k = k
good_join (x ∷ a) b h k = (h.0, good_join a b h.1 k)

part_bytes : (part : List ℕ) → is_path_part part ≡ true → list_all is_path_byte part ≡ true
part_bytes part h = (and_parts _ (list_all is_path_byte part) h).1

good_parts : (parts : List (List ℕ)) → list_all is_path_part parts ≡ true → AreGood (join_with_byte 47 parts)
good_parts [] h = tt
good_parts (x ∷ []) h = good_part x (part_bytes x (and_parts (is_path_part x) true h).0)
good_parts (x ∷ y ∷ parts) h =
    let p = and_parts (is_path_part x) (list_all is_path_part (y ∷ parts)) h in
    good_join x (47 ∷ join_with_byte 47 (y ∷ parts)) (good_part x (part_bytes x p.0)) ((refl, omega arith), good_parts (y ∷ parts) p.1)

each : (bytes : List ℕ) → AreGood bytes → EachByte is_plain bytes
each [] h = tt
each (b ∷ bytes) h = (h.0.0, each bytes h.1)

all_ascii : (bytes : List ℕ) → AreGood bytes → IsAscii bytes
all_ascii [] h = IsAscii-nil
all_ascii (b ∷ bytes) h = IsAscii-cons b bytes h.0.1 (all_ascii bytes h.1)

pub paths_are_plain : (path : List ℕ) → IsWorkspacePath path → EachByte is_plain path × IsUtf8 path
paths_are_plain path is =
    let good = subst AreGood (sym is.parted.1) (good_parts is.parted.0 (list_all-from_AllPass is_path_part is.parted.0 is.parted.2)) in
    (each path good, IsUtf8-from_ascii path (all_ascii path good))
