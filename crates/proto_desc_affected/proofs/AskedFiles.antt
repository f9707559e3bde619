-- The files of a set among so many, and what is known of those that were asked.
use Rattle.std.proofs.Common.{◌≡◌, ℕ, ◌<◌, ◌||◌, ◌&&◌, Bool, true, false, not, List, All, Contains, length, get_or, replicate, sym, ◌∙◌, ap, ap₂, refl, subst, arith}
use Rattle.std.proofs.lemmas.Bool.{false_from_ne_true, false≢true}
use Rattle.std.proofs.lemmas.List.{get_or-replicate, length-replicate}
use Rattle.std.proofs.lemmas.List.Elements.{All-weaker}
use Rattle.proto_file_sets.specs.FileSets.{IsIn, files_in, is_in_or_new}
use Rattle.proto_file_sets.proofs.Members.{file_is_listed, files_are_in, files_below}
use Rattle.proto_files.specs.GivenFiles.{FileOf}
use Rattle.proto_files.specs.FilesRead.{ReadOf, read_at}
use Rattle.proto_names_affected.specs.Marking.{IsMarked, MarksStay}
use Rattle.proto_names.specs.Linking.{LinkOf}
use Rattle.proto_desc_extensions.specs.Extends.{has_extend}
use Rattle.proto_desc_affected.specs.Checked.{FileSummaryOf, IsKeptStill, nothing_kept}

-- ---- the files of a set among so many

seen_alone : (seen : Bool) → (false || seen && not false) ≡ seen
seen_alone true = refl
seen_alone false = refl

module _ (set blank none among : List Bool) (count : ℕ) (is_blank : blank ≡ replicate count false) (is_none : none ≡ replicate 0 false) (long : length among ≡ length blank) (new : (file : ℕ) → file < length blank → get_or among file false ≡ is_in_or_new blank set none file) where
  blank_count : length blank ≡ count
  blank_count = ap length is_blank ∙ length-replicate count false

  as_many : length among ≡ count
  as_many = long ∙ blank_count

  same : (file : ℕ) → file < count → get_or among file false ≡ get_or set file false
  same file l =
      new file (omega (arith, l, blank_count))
      ∙ ap₂ (λ (bs ns : List Bool). get_or bs file false || get_or set file false && not (get_or ns file false)) is_blank is_none
      ∙ ap (λ b. b || get_or set file false && not false) (get_or-replicate count file false false l)
      ∙ seen_alone (get_or set file false)

  module _ (listed : List ℕ) (is : listed ≡ files_in among) where
    pub are_within : All (λ file. file < count) listed
    are_within = subst (λ (n : ℕ). All (λ file. file < n) listed) as_many (subst (All (λ file. file < length among)) (sym is) (files_below among))

    pub are_marked : All (IsMarked set) listed
    are_marked k d l = sym (same (get_or listed k d) (are_within k d l)) ∙ subst (All (IsIn among)) (sym is) (files_are_in among) k d l

    pub is_listed : (file : ℕ) → file < count → IsMarked set file → Contains listed file
    is_listed file l marked = subst (λ (files : List ℕ). Contains files file) (sym is) (file_is_listed among file (omega (arith, l, as_many)) (same file l ∙ marked))

-- ---- files that were asked

module _ (places : List ℕ) (files : List FileOf) (l : LinkOf) (ks : List FileSummaryOf) where
  -- a file that is not marked is as it was
  abbrev pub IsAsked : List Bool → ℕ → Type 0
  IsAsked marks file = get_or marks file false ≡ false → IsKeptStill places files l ks file

  -- so it is where more are marked
  pub asked_stay : (old new : List Bool) → MarksStay old new → (asked : List ℕ) → All (IsAsked old) asked → All (IsAsked new) asked
  asked_stay old new stay = All-weaker (IsAsked old) (IsAsked new) (λ file h off. h (false_from_ne_true (get_or old file false) (λ on. false≢true (sym off ∙ stay.set file on))))

-- a file has no `extend` block, and had none
abbrev pub HasNoExtend : List ReadOf → List FileSummaryOf → ℕ → Type 0
HasNoExtend reads ks file = ((get_or ks file nothing_kept).has_extend ≡ false) × (has_extend (read_at reads file).tree ≡ false)
