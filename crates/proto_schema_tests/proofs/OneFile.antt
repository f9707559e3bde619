-- Files of which one gets another text.
use Rattle.std.proofs.Common.{◌≡◌, ◌≢◌, ℕ, zero, suc, List, [], ◌∷◌, refl, sym, ap, slice_set, get_or-set_other}
use Rattle.proto_files.specs.GivenFiles.{FileOf, file_at, paths_of}
use Rattle.proto_files.specs.GivenFiles.{no_file}

-- their paths stay
pub paths_stay : (files : List FileOf) (place : ℕ) (f : FileOf) → f.path ≡ (file_at files place).path → paths_of files ≡ paths_of (slice_set files place f)
paths_stay [] place f same = refl
paths_stay (a ∷ files) zero f same = ap (λ (p : List ℕ). p ∷ paths_of files) (sym same)
paths_stay (a ∷ files) (suc place) f same = ap (λ (ps : List (List ℕ)). a.path ∷ ps) (paths_stay files place f same)

-- its language stays
pub language_stays : (files : List FileOf) (place : ℕ) (f : FileOf) → f.profile ≡ (file_at files place).profile → (file_at (slice_set files place f) place).profile ≡ (file_at files place).profile
language_stays [] place f same = refl
language_stays (a ∷ files) zero f same = same
language_stays (a ∷ files) (suc place) f same = language_stays files place f same

-- and so do the others
pub others_stay : (files : List FileOf) (place : ℕ) (f : FileOf) (file : ℕ) → file ≢ place → file_at files file ≡ file_at (slice_set files place f) file
others_stay files place f file other = sym (get_or-set_other files place file f no_file other)
