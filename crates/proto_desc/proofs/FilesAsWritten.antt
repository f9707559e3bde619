-- Files that compile in the core language compile as written, with the same descriptors.
use Rattle.std.proofs.Common.{◌≡◌, ℕ, suc, ◌<◌, List, [], ◌∷◌, length, map, None, refl, sym, ap, subst, ◌∙◌, arith, Contains}
use Rattle.proto_base.proofs.Common.{get_or-map, length-map}
use Rattle.proto_tree.specs.Tree.{Tree}
use Rattle.proto_files.proofs.Common.{AreRead, FileOf, HasNoFault, ReadOf, core_files_stay_clean, file_at}
use Rattle.proto_files.specs.GivenFiles.{no_file}
use Rattle.proto_files.specs.Laws.{AreCore, as_written}
use Rattle.proto_names_imports.proofs.FilesAsWritten.{core_files_link, path_same, read_alike}
use Rattle.proto_desc_numbers.specs.declared.flaw.Flaw.{Flaw}
use Rattle.proto_resolved.specs.SceneOf.{scene_of}
use Rattle.proto_resolved.proofs.ScenesAsWritten.{scene_same}
use Rattle.proto_desc_extensions.proofs.FlawsAsWritten.{all_less}
use Rattle.proto_desc_build.specs.Described.{file_described}
use Rattle.proto_desc_build.proofs.WrittenDescriptors.{descriptors_ask_no_language}
use Rattle.proto_desc.specs.AsWritten.{CoreFilesAreDescribed, CoreFilesCompile}
use Rattle.proto_desc.specs.Checked.{CheckFaults, described, described_from, fault_of_flaw, flaws_of, of_flaw}
use Rattle.proto_desc.specs.Whole.{of_read, of_link, of_check}

module _ (files : List FileOf) (reads : List ReadOf) where
  abbrev after : List FileOf
  after = map as_written files

  -- ---- checks

  module _ (core : AreCore files) (are : AreRead files reads) where
    flaw_stays : (k : ℕ) → k < length files → (f : Flaw) → Contains (flaws_of after reads k) f → Contains (flaws_of files reads k) f
    flaw_stays k lt f c = (all_less files reads k (ap (λ (g : FileOf). g.profile) (get_or-map as_written files k no_file no_file lt)) (core k no_file lt)).within f c

    checks_stay : HasNoFault (CheckFaults files) → HasNoFault (CheckFaults after)
    checks_stay clean y (of_flaw others k f r within c) =
        let lt : k < length files = omega (arith, within, length-map files as_written) in
        clean (fault_of_flaw files reads k f)
        (of_flaw reads k f are lt (flaw_stays k lt f (subst (λ (q : List ReadOf). Contains (flaws_of after q k) f) (read_alike files reads core are others r) c)))

  -- ---- descriptors

  one_described : (k : ℕ) (tree : Tree) → file_described (scene_of None after reads k) (file_at after k).path tree ≡ file_described (scene_of None files reads k) (file_at files k).path tree
  one_described k tree =
      (λ i. file_described (scene_same files reads None k i) (path_same files k i) tree)
      ∙ descriptors_ask_no_language (file_at after k).profile (scene_of None files reads k) (file_at files k).path tree

  all_described : (k : ℕ) (rs : List ReadOf) → described_from after reads k rs ≡ described_from files reads k rs
  all_described k [] = refl
  all_described k (r ∷ rs) = λ i. one_described k r.tree i ∷ all_described (suc k) rs i

pub core_files_compile : CoreFilesCompile
core_files_compile files reads core are clean y (of_read x h) = core_files_stay_clean files reads core are (λ z r. clean z (of_read z r)) x h
core_files_compile files reads core are clean y (of_link x h) = core_files_link files reads core are (λ z r. clean z (of_link z r)) x h
core_files_compile files reads core are clean y (of_check x h) = checks_stay files reads core are (λ z r. clean z (of_check z r)) x h

pub core_files_are_described : CoreFilesAreDescribed
core_files_are_described files reads ds core are d others r =
    d reads are ∙ sym (all_described files reads 0 reads)
    ∙ ap (λ (q : List ReadOf). described (map as_written files) q) (sym (read_alike files reads core are others r))
