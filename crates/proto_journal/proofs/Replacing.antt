-- Replacing the files of which there is a change, one after the other.
use Rattle.std.proofs.Common.{arith, ◌≡◌, ◌⊎◌, inl, inr, ℕ, suc, ◌+◌, ◌<◌, List, [], ◌∷◌, length, drop, Option, Result, Ok, Err, refl, sym, ap, ◌∙◌, subst, OnErr, OnOk, option_map}
use Rattle.proto_base.proofs.Common.{drop_more}
use Rattle.proto_files.specs.GivenFiles.{FileOf, file_at, paths_of}
use Rattle.proto_edit_entries.specs.Entries.{ChangeOf}
use Rattle.proto_store.specs.Stores.{Held, HoldsFiles, IsListed, with_bytes, with_file, languages_of}
use Rattle.proto_journal.specs.Written.{AreBetween, DifferBy, IsHalfReplaced, IsFileReplaced, with_these_files}
use Rattle.proto_journal.proofs.Between.{IsOrdered, all_after, as_long, between_up_to, listed_step, replaced_step, same_step, up_to}
use Rattle.proto_journal.proofs.Holdings.{file_replaced, files_already, files_between, listed_among}
use Rattle.proto_files.specs.GivenFiles.{no_file}

-- a fact that holds of an answer
pub on_ok : {T E : Type 0} (r : Result T E) (P Q : Type 0) → (P → Q) → OnOk r P → OnOk r Q
on_ok (Ok x) P Q f p = f p
on_ok (Err e) P Q f p = tt

pub on_err : {T E : Type 0} (r : Result T E) (P Q : Type 0) → (P → Q) → OnErr r P → OnErr r Q
on_err (Ok x) P Q f p = tt
on_err (Err e) P Q f p = f p

-- no file is replaced yet
pub none_replaced : (h now : Option Held) (before after : List FileOf) (i : ℕ) → HoldsFiles h before → i ≡ 0 → now ≡ h → now ≡ option_map (with_these_files (up_to i after before)) h
none_replaced h now before after i e z n =
    n ∙ sym (files_already h before e) ∙ ap (λ (k : ℕ). option_map (with_these_files (up_to k after before)) h) (sym z)

-- all are
pub all_replaced : (h now : Option Held) (before after : List FileOf) (i : ℕ) → paths_of after ≡ paths_of before → i ≡ length after
    → now ≡ option_map (with_these_files (up_to i after before)) h → now ≡ option_map (with_these_files after) h
all_replaced h now before after i p e n =
    n ∙ ap (λ (k : ℕ). option_map (with_these_files (up_to k after before)) h) e ∙ ap (λ (files : List FileOf). option_map (with_these_files files) h) (all_after after before p)

-- whatever the answer is
pub err_of : {T E : Type 0} (r : Result T E) (P : Type 0) → P → OnErr r P
err_of (Ok x) P p = tt
err_of (Err e) P p = p

-- a file, told by its path and its bytes
pub as_told : (old new : Option Held) (path bytes : List ℕ) (to : FileOf) → path ≡ to.path → bytes ≡ to.bytes → new ≡ option_map (with_file path bytes) old → new ≡ option_map (with_file to.path to.bytes) old
as_told old new path bytes to p b n = n ∙ ap (λ (z : List ℕ). option_map (with_file z bytes) old) p ∙ ap (λ (z : List ℕ). option_map (with_file to.path z) old) b

pub half_told : (old new : Option Held) (path bytes : List ℕ) (to : FileOf) → path ≡ to.path → bytes ≡ to.bytes → (new ≡ old) ⊎ (new ≡ option_map (with_file path bytes) old) → IsHalfReplaced to old new
half_told old new path bytes to p b c = elim c [
  | inl same ↦ inl same
  | inr n ↦ inr (as_told old new path bytes to p b n)
]

-- ---- the changes that are left

-- a file has its bytes of afterwards: they were written, or it had them
abbrev pub HasNew : FileOf → FileOf → Option Held → Option Held → Type 0
HasNew from to old new = (new ≡ option_map (with_file to.path to.bytes) old) ⊎ ((from.bytes ≡ to.bytes) × (new ≡ old))

-- the first of the files is as after, and the others differ by the changes that are left
first_replaced : (cs rest : List ChangeOf) (f g : FileOf) (fs gs : List FileOf) (old new : Option Held) → DifferBy cs (f ∷ fs) (g ∷ gs) → IsFileReplaced f g cs rest old new
    → DifferBy rest fs gs × HasNew f g old new
first_replaced [] rest f g fs gs old new d r = (subst (λ (z : List ChangeOf). DifferBy z fs gs) (sym r.0) d.1, inr (ap (λ (z : FileOf). z.bytes) (sym d.0), r.1))
first_replaced (c ∷ cs) rest f g fs gs old new (inl d) (inl r) = (subst (λ (z : List ChangeOf). DifferBy z fs gs) (sym r.1) d.3, inl r.2)
first_replaced (c ∷ cs) rest f g fs gs old new (inl d) (inr r) = absurd (r.0 d.0)
first_replaced (c ∷ cs) rest f g fs gs old new (inr d) (inl r) = absurd (d.0 r.0)
first_replaced (c ∷ cs) rest f g fs gs old new (inr d) (inr r) =
    (subst (λ (z : List ChangeOf). DifferBy z fs gs) (sym r.1) d.2, inr (ap (λ (z : FileOf). z.bytes) (sym d.1), r.2))

-- the same of the file at a place, and of those behind it
pub next_left : (before after : List FileOf) (i : ℕ) (cs rest : List ChangeOf) (old new : Option Held) → paths_of after ≡ paths_of before → i < length after
    → DifferBy cs (drop i before) (drop i after) → IsFileReplaced (file_at before i) (file_at after i) cs rest old new
    → DifferBy rest (drop (i + 1) before) (drop (i + 1) after) × HasNew (file_at before i) (file_at after i) old new
next_left before after i cs rest old new p lt d r =
    let none : FileOf = no_file in
    let long : length after ≡ length before = as_long after before p in
    let was : drop i before ≡ file_at before i ∷ drop (i + 1) before = drop_more before i none (omega (arith, long, lt)) in
    let is : drop i after ≡ file_at after i ∷ drop (i + 1) after = drop_more after i none lt in
    first_replaced cs rest (file_at before i) (file_at after i) (drop (i + 1) before) (drop (i + 1) after) old new
    (subst (λ (z : List FileOf). DifferBy cs (file_at before i ∷ drop (i + 1) before) z) is (subst (λ (z : List FileOf). DifferBy cs z (drop i after)) was d)) r

-- files that differ by changes have the same paths
pub same_paths : (cs : List ChangeOf) (fs gs : List FileOf) → DifferBy cs fs gs → paths_of gs ≡ paths_of fs
same_paths cs [] [] d = refl
same_paths cs [] (g ∷ gs) d = absurd d
same_paths cs (f ∷ fs) [] d = absurd d
same_paths [] (f ∷ fs) (g ∷ gs) d = let rest : paths_of gs ≡ paths_of fs = same_paths [] fs gs d.1 in λ j. (d.0 j).path ∷ rest j
same_paths (c ∷ cs) (f ∷ fs) (g ∷ gs) (inl d) = let rest : paths_of gs ≡ paths_of fs = same_paths cs fs gs d.3 in λ j. d.1 j ∷ rest j
same_paths (c ∷ cs) (f ∷ fs) (g ∷ gs) (inr d) = let rest : paths_of gs ≡ paths_of fs = same_paths (c ∷ cs) fs gs d.2 in λ j. (d.1 j).path ∷ rest j

-- and the same languages
pub same_languages : (cs : List ChangeOf) (fs gs : List FileOf) → DifferBy cs fs gs → languages_of gs ≡ languages_of fs
same_languages cs [] [] d = refl
same_languages cs [] (g ∷ gs) d = absurd d
same_languages cs (f ∷ fs) [] d = absurd d
same_languages [] (f ∷ fs) (g ∷ gs) d = let rest : languages_of gs ≡ languages_of fs = same_languages [] fs gs d.1 in λ j. (d.0 j).profile ∷ rest j
same_languages (c ∷ cs) (f ∷ fs) (g ∷ gs) (inl d) = let rest : languages_of gs ≡ languages_of fs = same_languages cs fs gs d.3 in λ j. d.2 j ∷ rest j
same_languages (c ∷ cs) (f ∷ fs) (g ∷ gs) (inr d) = let rest : languages_of gs ≡ languages_of fs = same_languages (c ∷ cs) fs gs d.2 in λ j. (d.1 j).profile ∷ rest j

-- ---- one file more

module _ (h : Option Held) (before after : List FileOf) (i : ℕ) (lt : i < length after) (p : paths_of after ≡ paths_of before) (q : languages_of after ≡ languages_of before) where
  one_more : i + 1 ≡ suc i
  one_more = omega arith

  pub next_listed : (mid : Option Held) → mid ≡ option_map (with_these_files (up_to i after before)) h → IsListed mid (file_at after i).path
  next_listed mid m =
      subst (λ (z : Option Held). IsListed z (file_at after i).path) (sym m) (listed_among h (up_to i after before) (file_at after i).path (listed_step i after before lt p))

  -- a file that has the same bytes stays
  next_same : (mid : Option Held) → mid ≡ option_map (with_these_files (up_to i after before)) h → (file_at before i).bytes ≡ (file_at after i).bytes
      → mid ≡ option_map (with_these_files (up_to (i + 1) after before)) h
  next_same mid m same =
      let step : up_to (i + 1) after before ≡ up_to i after before = ap (λ (k : ℕ). up_to k after before) one_more ∙ same_step i after before lt p q same in
      m ∙ ap (λ (files : List FileOf). option_map (with_these_files files) h) (sym step)

  module _ (ordered : IsOrdered after) where
    next_written : (mid now : Option Held) → mid ≡ option_map (with_these_files (up_to i after before)) h → now ≡ option_map (with_file (file_at after i).path (file_at after i).bytes) mid
        → now ≡ option_map (with_these_files (up_to (i + 1) after before)) h
    next_written mid now m n =
        let name : List ℕ = (file_at after i).path in
        let text : List ℕ = (file_at after i).bytes in
        let step : with_bytes name text (up_to i after before) ≡ up_to (i + 1) after before = replaced_step i after before lt p q ordered ∙ ap (λ (k : ℕ). up_to k after before) (sym one_more) in
        n ∙ ap (option_map (with_file name text)) m ∙ file_replaced h name text (up_to i after before) ∙ ap (λ (files : List FileOf). option_map (with_these_files files) h) step

    pub next_replaced : (mid now : Option Held) → mid ≡ option_map (with_these_files (up_to i after before)) h → HasNew (file_at before i) (file_at after i) mid now
        → now ≡ option_map (with_these_files (up_to (i + 1) after before)) h
    next_replaced mid now m r = elim r [
      | inl n ↦ next_written mid now m n
      | inr s ↦ s.1 ∙ next_same mid m s.0
    ]

    -- a write that fails leaves the file as before or as after
    pub next_cut : (mid now : Option Held) → mid ≡ option_map (with_these_files (up_to i after before)) h → IsHalfReplaced (file_at after i) mid now → AreBetween before after h now
    next_cut mid now m c = elim c [
      | inl same ↦ subst (λ (z : Option Held). AreBetween before after h z) (sym (same ∙ m)) (files_between h before after (up_to i after before) (between_up_to i after before p q))
      | inr there ↦ subst (λ (z : Option Held). AreBetween before after h z) (sym (next_written mid now m there))
          (files_between h before after (up_to (i + 1) after before) (between_up_to (i + 1) after before p q))
    ]
