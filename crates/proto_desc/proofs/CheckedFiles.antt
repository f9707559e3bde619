-- What holds of a file as the code reads it holds of it as it is read, with its numbers as they are.
use Rattle.std.proofs.Common.{◌≡◌, ℕ, suc, ◌+◌, ◌<◌, List, [], ◌∷◌, ◌++◌, length, get_or, map, Option, Some, None, refl, sym, ap, subst, ◌∙◌, arith, Contains}
use Rattle.proto_base.proofs.Common.{Vec, contains_head}
use Rattle.proto_tree.specs.Tree.{Tree}
use Rattle.proto_files.proofs.Common.{FileOf, file_at, Each, ReadOf, AreRead, read_at, IsTreeOf, same_tree}
use Rattle.proto_ast.proofs.Common.{past, Scene}
use Rattle.proto_desc_checks.specs.FileFlaws.{file_flaws}
use Rattle.proto_desc_checks.proofs.CappedFlaws as capped
use Rattle.proto_desc_numbers.specs.Flaws.{IsLeastOfFlaws}
use Rattle.proto_desc_numbers.specs.declared.flaw.Flaw.{Flaw}
use Rattle.proto_desc_extensions.specs.Extensions.{workspace_flaws}
use Rattle.proto_desc_extensions.specs.Listed.{AreWorkspaceFlaws}
use Rattle.proto_desc_extensions.proofs.CappedExtensions.{caps_keep_the_least}
use Rattle.proto_desc_build.proofs.CappedDescriptors.{caps_keep_the_descriptor}
use Rattle.proto_desc.specs.Common.{AreOfWorkspace, described_from, flaws_of, IsFaultOf, IsLeastFlawError}
use Rattle.proto_resolved.specs.Scenes.{IsSceneOf}
use Rattle.proto_base.specs.declared.fault.SchemaFault.{SchemaFault}
use Rattle.proto_base.specs.declared.fault.SchemaFault.TheVariants.{Schema, NoMemory}
use Rattle.proto_desc_build.specs.Described.{file_described}
use Rattle.proto_descriptors.proofs.Common.{FileDesc, file_desc}
use Rattle.proto_resolved.specs.SceneOf.{scene_of}
use Rattle.proto_descriptors.specs.declared.file.FileDescriptor.{FileDescriptor}

-- the descriptor of the file with this number, by its tree
abbrev pub described_at : List FileOf → List ReadOf → ℕ → Tree → FileDesc
described_at files reads k tree = file_described (scene_of None files reads k) (file_at files k).path tree

pub nothing_there : {A : Type 0} (xs : List A) → ((x : A) → Contains xs x → ⊥) → xs ≡ []
nothing_there [] none = refl
nothing_there (x ∷ xs) none = absurd (none x (contains_head x xs))

module _ (files : List FileOf) (file : ℕ) (within : file < length files) (scene : Scene) (is : IsSceneOf files file scene) (tree : Tree) (of_file : IsTreeOf (file_at files file) tree) (reads : List ReadOf) (are : AreRead files reads) where
  pub least_of_file : (flaws : List Flaw) → AreOfWorkspace files file flaws → (o : Option Flaw) → IsLeastOfFlaws (Contains (file_flaws scene tree ++ flaws)) o → IsLeastOfFlaws (Contains (flaws_of files reads file)) o
  least_of_file flaws others o least =
      caps_keep_the_least files reads file o
      (subst (λ (s : Scene). IsLeastOfFlaws (Contains (file_flaws s (read_at reads file).tree ++ workspace_flaws (Some past) files reads file)) o) (is reads are)
      (subst (λ (fs : List Flaw). IsLeastOfFlaws (Contains (file_flaws scene (read_at reads file).tree ++ fs)) o) (others reads are)
      (subst (λ (t : Tree). IsLeastOfFlaws (Contains (file_flaws scene t ++ flaws)) o) (sym (same_tree files reads file tree are within of_file)) least)))

  -- nothing is wrong with the file alone
  pub none_of_file : file_flaws scene tree ≡ [] → file_flaws (scene_of None files reads file) (read_at reads file).tree ≡ []
  none_of_file none =
      let empty : file_flaws (scene_of (Some past) files reads file) (read_at reads file).tree ≡ [] =
      ap (λ (s : Scene). file_flaws s (read_at reads file).tree) (sym (is reads are)) ∙ ap (λ (t : Tree). file_flaws scene t) (same_tree files reads file tree are within of_file) ∙ none in
      nothing_there (file_flaws (scene_of None files reads file) (read_at reads file).tree)
      (capped.caps_keep_the_least (scene_of (Some past) files reads file) (read_at reads file).tree None refl (λ f c. (
      let d : Contains [] f = subst (λ (fs : List Flaw). Contains fs f) empty c in
      omega (arith, d.1))))

  pub described_of_file : file_described scene (file_at files file).path tree ≡ described_at files reads file (read_at reads file).tree
  described_of_file =
      ap (λ (t : Tree). file_described scene (file_at files file).path t) (sym (same_tree files reads file tree are within of_file))
      ∙ ap (λ (s : Scene). file_described s (file_at files file).path (read_at reads file).tree) (is reads are)
      ∙ caps_keep_the_descriptor (scene_of (Some past) files reads file) (file_at files file).path (read_at reads file).tree refl

module _ {A : Type 0} (desc : A → FileDesc) where
  described_all : (files : List FileOf) (reads : List ReadOf) (n : ℕ) (ds : List A) (rs : List ReadOf) → length ds ≡ length rs
      → Each (λ k d. desc d ≡ described_at files reads (n + k) (read_at rs k).tree) ds → map desc ds ≡ described_from files reads n rs
  described_all files reads n [] [] e h = refl
  described_all files reads n [] (r ∷ rs) e h = absurd (omega (arith, e))
  described_all files reads n (d ∷ ds) [] e h = absurd (omega (arith, e))
  described_all files reads n (d ∷ ds) (r ∷ rs) e h =
      let now : desc d ≡ described_at files reads n r.tree = subst (λ (m : ℕ). desc d ≡ described_at files reads m r.tree) (omega arith) (h 0 d (omega arith)) in
      let later : Each (λ k x. desc x ≡ described_at files reads (suc n + k) (read_at rs k).tree) ds =
      λ (k : ℕ) (x : A) (l : k < length ds). subst (λ (m : ℕ). desc (get_or ds k x) ≡ described_at files reads m (read_at rs k).tree) (omega arith) (h (suc k) x (omega (arith, l))) in
      ap (λ (z : FileDesc). z ∷ map desc ds) now ∙ ap (λ (zs : List FileDesc). described_at files reads n r.tree ∷ zs) (described_all files reads (suc n) ds rs (omega (arith, e)) later)

  pub each_described : (files : List FileOf) (reads : List ReadOf) (ds : List A) → length ds ≡ length reads → Each (λ k d. desc d ≡ described_at files reads k (read_at reads k).tree) ds → map desc ds ≡ described_from files reads 0 reads
  each_described files reads ds e h =
      described_all files reads 0 ds reads e (λ (k : ℕ) (d : A) l. subst (λ (m : ℕ). desc (get_or ds k d) ≡ described_at files reads m (read_at reads k).tree) (omega arith) (h k d l))

abbrev pub all_described : (files : List FileOf) (reads : List ReadOf) (ds : List FileDescriptor) → length ds ≡ length reads → Each (λ k d. file_desc d ≡ described_at files reads k (read_at reads k).tree) ds → map file_desc ds ≡ described_from files reads 0 reads
all_described = each_described file_desc

same_list : (ds : List FileDesc) → map (λ d. d) ds ≡ ds
same_list [] = refl
same_list (d ∷ ds) = ap (λ (zs : List FileDesc). d ∷ zs) (same_list ds)

-- the same of descriptors that are told
pub all_told : (files : List FileOf) (reads : List ReadOf) (ds : List FileDesc) → length ds ≡ length reads → Each (λ k d. d ≡ described_at files reads k (read_at reads k).tree) ds → ds ≡ described_from files reads 0 reads
all_told files reads ds e h = sym (same_list ds) ∙ each_described (λ d. d) files reads ds e h

-- what is answered for a file with a flaw
pub file_error : (files : List FileOf) (file : ℕ) (f : Flaw) (e : SchemaFault) → IsFaultOf files file f e → ((reads : List ReadOf) → AreRead files reads → IsLeastOfFlaws (Contains (flaws_of files reads file)) (Some f)) → IsLeastFlawError files file e
file_error files file f (Schema fault) is least = record { flaw = f; fault = is; least = least }
file_error files file f NoMemory is least = tt

-- the flaws given for a file are those that its workspace decides
pub flaws_at : (files : List FileOf) (given : List (Vec Flaw)) (file : ℕ) → file < length files → AreWorkspaceFlaws files given → (flaws : Vec Flaw) → flaws ≡ get_or given file flaws → (listed : List Flaw) → listed ≡ flaws.items → AreOfWorkspace files file listed
flaws_at files given file l h flaws is listed same = λ reads are.
    (same ∙ ap (λ (v : Vec Flaw). v.items) is ∙ h.each reads are file flaws (omega (arith, l, h.len)))
