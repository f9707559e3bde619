-- Files that are given, in each language.
use Rattle.std.proofs.Common.{◌≡◌, ℕ, Bool, true, false, cond, List, [], ◌∷◌, map, Option, Some, None, option_map, String, Global, if◌then◌else◌, string_bytes, bytes_eq, refl, sym, ap, subst, ◌∙◌}
use Rattle.std.specs.List.{find}
use Rattle.std.specs.Option.{unwrap_or}
use Rattle.proto_base.proofs.Common.{Path, Text, Vec}
use Rattle.proto_base.specs.GivenFiles.{file_of, file_of_as, files_of, files_of_as}
use Rattle.proto_base.specs.declared.profile.Profile.{Profile}
use Rattle.proto_files.specs.Faults.{FaultAt}
use Rattle.proto_store.specs.Stores.{bytes_at}
use Rattle.protoref_output.specs.FaultLines.{IsLineAndColumn}
use Rattle.proto_text.specs.Lines.{column_at, line_at}
use Rattle.proto_session_files.proofs.InLanguage.{all_with, with_profile}
use Rattle.proto_session_replies.specs.Symbols.{has_path}

abbrev Given : Type 0
Given = String Global × Vec ℕ

-- one file is the same in each
pub one_in : (p : Profile) (given : List Given) (x : Given) → files_of given ≡ file_of x ∷ [] → files_of_as p given ≡ file_of_as p x ∷ []
one_in p given x e = all_with p given ∙ ap (map (with_profile p)) e

-- ---- the line and the column of a fault

bytes_in : (p : Profile) (path : Path) (given : List Given) → bytes_at path (files_of given) ≡ bytes_at path (files_of_as p given)
bytes_in p path [] = refl
bytes_in p path (x ∷ given) = ap (λ (o : Option Text). if bytes_eq path (string_bytes x.0) then Some x.1.items else o) (bytes_in p path given)

pub place_in : (p : Profile) (given : List Given) (x : FaultAt) (line column : ℕ) → IsLineAndColumn (files_of given) x line column → IsLineAndColumn (files_of_as p given) x line column
place_in p given x line column is =
    subst (λ (o : Option Text). (line ≡ line_at (unwrap_or o []) x.offset) × (column ≡ column_at (unwrap_or o []) x.offset)) (bytes_in p x.path given) is

-- ---- the file at a path

find_in : (p : Profile) (path : Path) (given : List Given) → find (has_path path) (files_of_as p given) ≡ option_map (with_profile p) (find (has_path path) (files_of given))
find_in p path [] = refl
find_in p path (x ∷ given) = go (find_in p path given) (bytes_eq (string_bytes x.0) path)
  where
    go : find (has_path path) (files_of_as p given) ≡ option_map (with_profile p) (find (has_path path) (files_of given)) → (b : Bool) → cond b (Some (file_of_as p x)) (find (has_path path) (files_of_as p given)) ≡ option_map (with_profile p) (cond b (Some (file_of x)) (find (has_path path) (files_of given)))
    go rest true = refl
    go rest false = rest

-- the file that is found is found in each
pub found_in : (p : Profile) (path : Path) (given : List Given) (x : Given) → Some (file_of x) ≡ find (has_path path) (files_of given) → find (has_path path) (files_of_as p given) ≡ Some (file_of_as p x)
found_in p path given x e = find_in p path given ∙ ap (option_map (with_profile p)) (sym e)

pub none_in : (p : Profile) (path : Path) (given : List Given) → None ≡ find (has_path path) (files_of given) → find (has_path path) (files_of_as p given) ≡ None
none_in p path given e = find_in p path given ∙ ap (option_map (with_profile p)) (sym e)
