-- Files that the client sees.
use Rattle.std.proofs.Common.{◌≡◌, ◌<◌, ℕ, List, Contains, String, Global, get_or, length, string_bytes, sym, ap, ◌∙◌, subst}
use Rattle.proto_base.proofs.Common.{FileOf, Path, Text, Vec, contains_map}
use Rattle.proto_base.specs.GivenFiles.{file_of_as, files_of_as}
use Rattle.proto_base.specs.declared.profile.Profile.{Profile}

abbrev made : Path → Text → Profile → FileOf
made path bytes profile = record { path = path; bytes = bytes; profile = profile }

-- one of them, by its path and its bytes
pub seen_there : (l : Profile) (xs : List (String Global × Vec ℕ)) (i : ℕ) (x : String Global × Vec ℕ) (f : FileOf) → i < length xs → x ≡ get_or xs i x → f.path ≡ string_bytes x.0 → f.bytes ≡ x.1.items → f.profile ≡ l → Contains (files_of_as l xs) f
seen_there l xs i x f lt at path bytes profile =
    let is : f ≡ file_of_as l x =
    ap (λ (p : Path). made p f.bytes f.profile) path
    ∙ (ap (λ (b : Text). made (string_bytes x.0) b f.profile) bytes
    ∙ ap (λ (p : Profile). made (string_bytes x.0) x.1.items p) profile) in
    subst (Contains (files_of_as l xs)) (sym is) (contains_map (file_of_as l) xs x (i, lt, sym at))
