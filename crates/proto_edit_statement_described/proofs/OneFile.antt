-- Files of which one is read otherwise: the checks of all, and their descriptors (for the crates above).
use Rattle.std.proofs.Common.{◌≡◌, ◌≢◌, ℕ, zero, suc, ◌+◌, ◌<◌, List, [], ◌∷◌, length, map, None, refl, sym, ap, ap₂, subst, ◌∙◌, inl, inr, arith, Contains}
use Rattle.proto_base.proofs.Common.{Contains-append_cases, Contains-append_left, Contains-append_right, cases_eq, contains_head}
use Rattle.proto_tree.specs.Tree.{Tree}
use Rattle.proto_files.proofs.Common.{HasNoFault, AreRead, ReadOf, read_at, FileOf, file_at, read_once}
use Rattle.proto_ast.specs.Scenes.{Scene}
use Rattle.proto_desc_numbers.specs.declared.flaw.Flaw.{Flaw}
use Rattle.proto_desc_checks.specs.FileFlaws.{file_flaws}
use Rattle.proto_desc_checks_laws.proofs.Common.{reindexed_flaw, imports_move_flaws}
use Rattle.proto_desc_build.specs.Described.{file_described}
use Rattle.proto_descriptors.specs.Descriptors.{FileDesc}
use Rattle.proto_desc_extensions.specs.Extensions.{workspace_flaws}
use Rattle.proto_desc.specs.Checked.{CheckFaults, described_from, fault_of_flaw, flaws_of, of_flaw}
use Rattle.proto_edit_statement_described.specs.Files.{AdditionsLeaveNoFault, AdditionsMapDescriptors, DeletionsPassTheChecks, DeletionsMapDescriptors, DropsLeaveNoFault, DropsMapDescriptors, OthersStay, scene_at}
use Rattle.proto_edit_rules.specs.Statements.{tree_at}
use Rattle.proto_edit_statement_described.specs.Common.{with_dependency, without_dependency, changed_at, mapped_deletion}
use Rattle.proto_edit_statement_described.proofs.DeletedDescriptors.{deletions_are_mapped}
use Rattle.proto_edit_statement_described.proofs.DeletedFlaws.{deletions_bring_no_flaw, map_nil}
use Rattle.proto_edit_statement_described.proofs.FieldNames.{field_names_differ}
use Rattle.proto_edit_statement_described.proofs.MovedImports.{additions_are_mapped, drops_are_mapped}
use Rattle.proto_edit_statement_described.proofs.SameExtensions.{no_flaw_of_extensions}

-- ---- flaws

no_flaws : (fs : List Flaw) → ((f : Flaw) → Contains fs f → ⊥) → fs ≡ []
no_flaws [] h = refl
no_flaws (f ∷ fs) h = absurd (h f (contains_head f fs))

module _ (files : List FileOf) (reads : List ReadOf) (after : List FileOf) (seen : List ReadOf) (place : ℕ) (o : OthersStay files reads after seen place) where
  pub old_flaws : HasNoFault (CheckFaults files) → file_flaws (scene_at files reads place) (tree_at reads place) ≡ []
  old_flaws clean = no_flaws (file_flaws (scene_at files reads place) (tree_at reads place)) (λ f h. clean (fault_of_flaw files reads place f) (of_flaw reads place f o.read o.within (Contains-append_left (file_flaws (scene_at files reads place) (tree_at reads place)) _ f h)))

  -- no flaw that the workspace decides
  old_extensions : HasNoFault (CheckFaults files) → (k : ℕ) → k < length files → workspace_flaws None files reads k ≡ []
  old_extensions clean k l =
      let alone : List Flaw = file_flaws (scene_at files reads k) (tree_at reads k) in
      no_flaws (workspace_flaws None files reads k) (λ f h. clean (fault_of_flaw files reads k f) (of_flaw reads k f o.read l (Contains-append_right alone (workspace_flaws None files reads k) f h)))

  -- where the file has no flaw, there is no fault
  pub no_fault : HasNoFault (CheckFaults files) → file_flaws (scene_at after seen place) (tree_at seen place) ≡ [] → HasNoFault (CheckFaults after)
  no_fault clean none x (of_flaw others k f are l h) =
      let here : Contains (flaws_of after seen k) f = subst (λ (rs : List ReadOf). Contains (flaws_of after rs k) f) (read_once after others seen are o.seen_are) h in
      let there : k < length files = omega (arith, l, o.count) in
      elim (Contains-append_cases (file_flaws (scene_at after seen k) (tree_at seen k)) (workspace_flaws None after seen k) f here) [
        | inl alone ↦ elim (cases_eq k place) [
          | inl e ↦ nothing_in f (ap (λ m. file_flaws (scene_at after seen m) (tree_at seen m)) e ∙ none) alone
          | inr n ↦
              let same : file_flaws (scene_at after seen k) (tree_at seen k) ≡ file_flaws (scene_at files reads k) (tree_at reads k) = ap₂ file_flaws (o.scenes k n) (o.trees k n) in
              clean (fault_of_flaw files reads k f) (of_flaw reads k f o.read there (Contains-append_left (file_flaws (scene_at files reads k) (tree_at reads k)) (workspace_flaws None files reads k) f (subst (λ (fs : List Flaw). Contains fs f) same alone)))
        ]
        | inr joint ↦ nothing_in f (no_flaw_of_extensions files reads after seen o.extensions k (old_extensions clean k there)) joint
      ]
    where
      nothing_in : {P : Type 0} {fs : List Flaw} (f : Flaw) → fs ≡ [] → Contains fs f → P
      nothing_in f e c = let d = subst (λ (fs : List Flaw). Contains fs f) e c in absurd (omega (arith, d.1))

-- ---- descriptors

-- the descriptor of a file of which this is read
abbrev descriptor : List FileOf → List ReadOf → ℕ → ReadOf → FileDesc
descriptor files reads k r = file_described (scene_at files reads k) (file_at files k).path r.tree

module _ (files : List FileOf) (reads : List ReadOf) (after : List FileOf) (seen : List ReadOf) where
  one_behind : (n k : ℕ) → n + suc k ≡ suc n + k
  one_behind n k = omega arith

  all_same : (n : ℕ) (rs ss : List ReadOf) → length ss ≡ length rs → ((k : ℕ) → k < length rs → descriptor after seen (n + k) (read_at ss k) ≡ descriptor files reads (n + k) (read_at rs k))
      → described_from after seen n ss ≡ described_from files reads n rs
  all_same n [] [] e h = refl
  all_same n [] (s ∷ ss) e h = absurd (omega (arith, e))
  all_same n (r ∷ rs) [] e h = absurd (omega (arith, e))
  all_same n (r ∷ rs) (s ∷ ss) e h =
      let zero_is : n + 0 ≡ n = omega arith in
      ap₂ (λ (d : FileDesc) (ds : List FileDesc). d ∷ ds) (subst (λ m. descriptor after seen m s ≡ descriptor files reads m r) zero_is (h 0 (omega arith)))
      (all_same (suc n) rs ss (omega (arith, e)) (λ k l. subst (λ m. descriptor after seen m (read_at ss k) ≡ descriptor files reads m (read_at rs k)) (one_behind n k) (h (suc k) (omega (arith, l)))))

  one_changed : (f : FileDesc → FileDesc) (place n : ℕ) (rs ss : List ReadOf) → length ss ≡ length rs
      → (place < length rs → descriptor after seen (n + place) (read_at ss place) ≡ f (descriptor files reads (n + place) (read_at rs place)))
      → ((k : ℕ) → k ≢ place → k < length rs → descriptor after seen (n + k) (read_at ss k) ≡ descriptor files reads (n + k) (read_at rs k))
      → described_from after seen n ss ≡ changed_at place f (described_from files reads n rs)
  one_changed f place n [] [] e own others = refl
  one_changed f place n [] (s ∷ ss) e own others = absurd (omega (arith, e))
  one_changed f place n (r ∷ rs) [] e own others = absurd (omega (arith, e))
  one_changed f zero n (r ∷ rs) (s ∷ ss) e own others =
      let zero_is : n + 0 ≡ n = omega arith in
      ap₂ (λ (d : FileDesc) (ds : List FileDesc). d ∷ ds) (subst (λ m. descriptor after seen m s ≡ f (descriptor files reads m r)) zero_is (own (omega arith)))
      (all_same (suc n) rs ss (omega (arith, e)) (λ k l. subst (λ m. descriptor after seen m (read_at ss k) ≡ descriptor files reads m (read_at rs k)) (one_behind n k) (others (suc k) (λ z. absurd (omega (arith, z))) (omega (arith, l)))))
  one_changed f (suc place) n (r ∷ rs) (s ∷ ss) e own others =
      let zero_is : n + 0 ≡ n = omega arith in
      ap₂ (λ (d : FileDesc) (ds : List FileDesc). d ∷ ds) (subst (λ m. descriptor after seen m s ≡ descriptor files reads m r) zero_is (others 0 (λ z. absurd (omega (arith, z))) (omega arith)))
      (one_changed f place (suc n) rs ss (omega (arith, e))
      (λ l. subst (λ m. descriptor after seen m (read_at ss place) ≡ f (descriptor files reads m (read_at rs place))) (one_behind n place) (own (omega (arith, l))))
      (λ k d l. subst (λ m. descriptor after seen m (read_at ss k) ≡ descriptor files reads m (read_at rs k)) (one_behind n k) (others (suc k) (λ z. d (omega (arith, z))) (omega (arith, l)))))

  module _ (place : ℕ) (o : OthersStay files reads after seen place) (f : FileDesc → FileDesc)
      (own : file_described (scene_at after seen place) (file_at files place).path (tree_at seen place) ≡ f (file_described (scene_at files reads place) (file_at files place).path (tree_at reads place))) where
    at_zero : (k : ℕ) → k ≡ 0 + k
    at_zero k = omega arith

    its_own : descriptor after seen place (read_at seen place) ≡ f (descriptor files reads place (read_at reads place))
    its_own = ap (λ p. file_described (scene_at after seen place) p (tree_at seen place)) (o.paths place) ∙ own

    the_others : (k : ℕ) → k ≢ place → descriptor after seen k (read_at seen k) ≡ descriptor files reads k (read_at reads k)
    the_others k n =
        ap₂ (λ (s : Scene) (t : Tree). file_described s (file_at after k).path t) (o.scenes k n) (o.trees k n)
        ∙ ap (λ p. file_described (scene_at files reads k) p (tree_at reads k)) (o.paths k)

    pub all_described : (ds new : List FileDesc) → ((rs : List ReadOf) → AreRead files rs → ds ≡ described_from files rs 0 rs) → ((rs : List ReadOf) → AreRead after rs → new ≡ described_from after rs 0 rs)
        → new ≡ changed_at place f ds
    all_described ds new was is =
        is seen o.seen_are
        ∙ one_changed f place 0 reads seen (o.seen_are.same ∙ o.count ∙ sym o.read.same)
        (λ l. subst (λ m. descriptor after seen m (read_at seen place) ≡ f (descriptor files reads m (read_at reads place))) (at_zero place) its_own)
        (λ k n l. subst (λ m. descriptor after seen m (read_at seen k) ≡ descriptor files reads m (read_at reads k)) (at_zero k) (the_others k n))
        ∙ ap (changed_at place f) (sym (was reads o.read))

-- ---- the laws

pub deletions_leave_no_fault : DeletionsPassTheChecks
deletions_leave_no_fault files reads after seen place token d linked clean =
    no_fault files reads after seen place d.others clean
    (deletions_bring_no_flaw d.to_old d.to_new d.middle (scene_at files reads place) (scene_at after seen place) d.field d.reservation d.without (tree_at reads place) (tree_at seen place)
    d.old.same d.new.same d.says d.trees d.fresh (field_names_differ files reads d.others.read linked place d.others.within) (old_flaws files reads after seen place d.others clean))

pub deletions_map_descriptors : DeletionsMapDescriptors
deletions_map_descriptors files reads after seen place token d ds new was is =
    all_described files reads after seen place d.others (mapped_deletion token (tree_at reads place))
    (subst (λ t. file_described (scene_at after seen place) (file_at files place).path (tree_at seen place) ≡ mapped_deletion t (tree_at reads place) (file_described (scene_at files reads place) (file_at files place).path (tree_at reads place))) d.named
    (deletions_are_mapped d.to_old d.to_new d.middle (scene_at files reads place) (scene_at after seen place) (file_at files place).path d.field d.reservation d.without (tree_at reads place) (tree_at seen place)
    d.old d.new d.says d.trees d.fresh)) ds new was is

pub additions_leave_no_fault : AdditionsLeaveNoFault
additions_leave_no_fault files reads after seen place path a clean =
    no_fault files reads after seen place a.others clean
    (imports_move_flaws a.move (scene_at files reads place) (scene_at after seen place) (tree_at reads place) (tree_at seen place) a.scenes.same a.trees.others
    ∙ ap (map (reindexed_flaw a.move)) (old_flaws files reads after seen place a.others clean))

pub additions_map_descriptors : AdditionsMapDescriptors
additions_map_descriptors files reads after seen place path a ds new was is =
    all_described files reads after seen place a.others (with_dependency path)
    (additions_are_mapped a.move (scene_at files reads place) (scene_at after seen place) (file_at files place).path a.wanted (tree_at reads place) (tree_at seen place) a.scenes a.trees a.last a.private a.strong
    ∙ ap (λ p. with_dependency p (file_described (scene_at files reads place) (file_at files place).path (tree_at reads place))) a.says) ds new was is

pub drops_leave_no_fault : DropsLeaveNoFault
drops_leave_no_fault files reads after seen place path d clean =
    no_fault files reads after seen place d.others clean
    (map_nil (reindexed_flaw d.move) (file_flaws (scene_at after seen place) (tree_at seen place))
    (sym (imports_move_flaws d.move (scene_at after seen place) (scene_at files reads place) (tree_at seen place) (tree_at reads place) d.scenes.same d.trees.others)
    ∙ old_flaws files reads after seen place d.others clean))

pub drops_map_descriptors : DropsMapDescriptors
drops_map_descriptors files reads after seen place path d ds new was is =
    all_described files reads after seen place d.others (without_dependency path)
    (drops_are_mapped d.move (scene_at after seen place) (scene_at files reads place) (file_at files place).path d.wanted (tree_at seen place) (tree_at reads place) d.scenes d.trees d.first
    ∙ ap (λ p. without_dependency p (file_described (scene_at files reads place) (file_at files place).path (tree_at reads place))) d.says) ds new was is
