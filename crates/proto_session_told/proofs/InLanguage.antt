-- The texts of files, in each language.
use Rattle.std.proofs.Common.{◌≡◌, ℕ, List, [], ◌∷◌, Option, Some, String, Global, if◌then◌else◌, string_bytes, bytes_eq, refl, ap}
use Rattle.std.specs.Option.{unwrap_or}
use Rattle.proto_base.proofs.Common.{Path, Text, Vec}
use Rattle.proto_base.specs.GivenFiles.{files_of, files_of_as}
use Rattle.proto_base.specs.declared.profile.Profile.{Profile}
use Rattle.proto_store.specs.Stores.{bytes_at}

bytes_in : (p : Profile) (path : Path) (given : List (String Global × Vec ℕ)) → bytes_at path (files_of given) ≡ bytes_at path (files_of_as p given)
bytes_in p path [] = refl
bytes_in p path (x ∷ given) = ap (λ (o : Option Text). if bytes_eq path (string_bytes x.0) then Some x.1.items else o) (bytes_in p path given)

-- the text of a file is the same in each
pub text_in : (p : Profile) (path : Path) (given : List (String Global × Vec ℕ)) → unwrap_or (bytes_at path (files_of given)) [] ≡ unwrap_or (bytes_at path (files_of_as p given)) []
text_in p path given = ap (λ (o : Option Text). unwrap_or o []) (bytes_in p path given)
