-- Named files as files of a workspace.
use Rattle.std.proofs.Common.{◌≡◌, ℕ, zero, suc, ◌<◌, ◌≤◌, Bool, List, [], ◌∷◌, length, map, get_or, refl, sym, ap, ◌∙◌, subst, inl, inr, arith, AllPairs, String, Global, string_bytes, is_lt, IsSortedBy}
use Rattle.proto_base.specs.declared.profile.Profile.{Profile}
use Rattle.proto_base.proofs.Common.{Vec, IsStrictWeakOrder, false≢true, nat_list_cmp_total, sorted_far, ranks_by}
use Rattle.proto_files.specs.Common.{NamedFile, path_cmp, IsBefore, IsInPathOrder, IsWorkspacePath, FileOf, paths_of, file_of_as, files_of_as, AreWorkspaceFiles, named_files, named_paths}
use Rattle.proto_files.proofs.Members.{Member, All-from_members, member_at}
use Rattle.proto_files.proofs.PathOrder.{PathsRise}
use Rattle.proto_files.proofs.PathWalk.{Passed}

pub paths_of-named_files : (files : List NamedFile) → paths_of (named_files files) ≡ named_paths files
paths_of-named_files [] = refl
paths_of-named_files (f ∷ files) = ap (λ rest. string_bytes f.path ∷ rest) (paths_of-named_files files)

-- a pair that is given in a language, by names
abbrev pub name_pair : Profile → String Global × Vec ℕ → NamedFile
name_pair p given = record { path = given.0; bytes = given.1; profile = p }

pub named_files-map : (p : Profile) (given : List (String Global × Vec ℕ)) → named_files (map (name_pair p) given) ≡ files_of_as p given
named_files-map p [] = refl
named_files-map p (g ∷ given) = ap (λ rest. file_of_as p g ∷ rest) (named_files-map p given)

pub length-named_paths : (files : List NamedFile) → length (named_paths files) ≡ length files
length-named_paths [] = refl
length-named_paths (f ∷ files) = ap suc (length-named_paths files)

pub get_or-named_paths : (files : List NamedFile) (k : ℕ) (d : NamedFile) (e : List ℕ) → k < length files → get_or (named_paths files) k e ≡ string_bytes (get_or files k d).path
get_or-named_paths [] k d e h = absurd (omega arith)
get_or-named_paths (f ∷ files) zero d e h = refl
get_or-named_paths (f ∷ files) (suc k) d e h = get_or-named_paths files k d e (omega arith)

-- where no file is before one that it stands behind, the paths are in order
abbrev pub NoneBefore : List NamedFile → Type 0
NoneBefore files = AllPairs (λ f g. IsBefore (string_bytes g.path) (string_bytes f.path) → ⊥) files

named_member : (files : List NamedFile) (q : List ℕ) → Member q (named_paths files) → (k : ℕ) × (k < length files) × ((d : NamedFile) → string_bytes (get_or files k d).path ≡ q)
named_member [] q m = absurd m
named_member (f ∷ files) q (inl e) = (0, omega arith, λ d. e)
named_member (f ∷ files) q (inr m) =
    let rest : (k : ℕ) × (k < length files) × ((d : NamedFile) → string_bytes (get_or files k d).path ≡ q) = named_member files q m in
    (suc rest.0, omega (arith, rest.1), rest.2)

pub in_path_order : (files : List NamedFile) → NoneBefore files → IsInPathOrder (named_paths files)
in_path_order [] h = tt
in_path_order (f ∷ files) h = (
  All-from_members (λ q. IsBefore q (string_bytes f.path) → ⊥) (named_paths files)
      (λ q m before. let at = named_member files q m in h 0 (suc at.0) f (omega arith) (omega (arith, at.1)) (subst (λ (x : List ℕ). IsBefore x (string_bytes f.path)) (sym (at.2 f)) before)),
  in_path_order files (λ i j d lt within. h (suc i) (suc j) d (omega arith) (omega arith)),
)

abbrev name_of : NamedFile → List ℕ
name_of f = string_bytes f.path

abbrev pub is_named_before : NamedFile → NamedFile → Bool
is_named_before f g = is_lt (path_cmp (string_bytes f.path) (string_bytes g.path))

pub named_before_ranks : IsStrictWeakOrder is_named_before
named_before_ranks = ranks_by nat_list_cmp_total name_of

-- what a sort by paths leaves
pub in_order_from_sort : (files : List NamedFile) → IsSortedBy is_named_before files → IsInPathOrder (named_paths files)
in_order_from_sort files sorted =
    in_path_order files (λ i j d lt within before.
    false≢true (sym (sorted_far is_named_before named_before_ranks files sorted i j d (omega arith) within) ∙ ap is_lt before))

-- paths that were passed are those of a workspace's files
member_path : (files : List FileOf) (f : FileOf) → Member f files → Member f.path (paths_of files)
member_path [] f m = absurd m
member_path (g ∷ files) f (inl e) = inl (ap (λ (x : FileOf). x.path) e)
member_path (g ∷ files) f (inr m) = inr (member_path files f m)

length-paths_of : (files : List FileOf) → length (paths_of files) ≡ length files
length-paths_of [] = refl
length-paths_of (f ∷ files) = ap suc (length-paths_of files)

ordered_from_rises : (files : List FileOf) → PathsRise (paths_of files) → AllPairs (λ f g. IsBefore f.path g.path) files
ordered_from_rises [] h i j d lt within = absurd (omega arith)
ordered_from_rises (f ∷ files) h i zero d lt within = absurd (omega arith)
ordered_from_rises (f ∷ files) h zero (suc j) d lt within = h.0 (get_or files j d).path (member_path files (get_or files j d) (member_at files j d (omega arith)))
ordered_from_rises (f ∷ files) h (suc i) (suc j) d lt within = ordered_from_rises files h.1 i j d (omega arith) (omega arith)

pub workspace_files : (limit : ℕ) (files : List FileOf) → limit ≤ 4096 → Passed limit (paths_of files) [] → AreWorkspaceFiles files
workspace_files limit files small h =
    record {
      few = omega (arith, h.few, length-paths_of files);
      named = All-from_members (λ f. IsWorkspacePath f.path) files (λ f m. h.named f.path (member_path files f m));
      ordered = ordered_from_rises files h.rises;
    }
