-- The descriptors of files that are walked by their numbers.
use Rattle.std.proofs.Common.{◌≡◌, ℕ, suc, List, [], ◌∷◌, None, refl}
use Rattle.proto_files.specs.FilesRead.{ReadOf}
use Rattle.proto_files.specs.GivenFiles.{FileOf, file_at}
use Rattle.proto_desc_build.specs.Described.{file_described}
use Rattle.proto_resolved.specs.SceneOf.{scene_of}
use Rattle.proto_desc.specs.Checked.{described, described_from}

described_in_all : (files : List FileOf) (reads : List ReadOf) → described files reads ≡ described_from files reads 0 reads
described_in_all files reads = refl

none_described : (files : List FileOf) (reads : List ReadOf) (n : ℕ) → described_from files reads n [] ≡ []
none_described files reads n = refl

described_by_first : (files : List FileOf) (reads : List ReadOf) (n : ℕ) (r : ReadOf) (rs : List ReadOf)
    → described_from files reads n (r ∷ rs) ≡ file_described (scene_of None files reads n) (file_at files n).path r.tree ∷ described_from files reads (suc n) rs
described_by_first files reads n r rs = refl
