-- What a store holds after writes, told by what it held before them.
use Rattle.std.proofs.Common.{◌≡◌, ◌⊎◌, inl, inr, ℕ, List, Option, Some, None, refl, sym, ap, ◌∙◌, subst, IsSome, option_map}
use Rattle.proto_files.specs.GivenFiles.{FileOf, paths_of}
use Rattle.proto_store.specs.Stores.{Held, HoldsFiles, IsListed, bytes_at, with_bytes, with_file, with_journal, languages_of}
use Rattle.proto_journal_records.specs.Torn.{IsBetween}
use Rattle.proto_journal.specs.Written.{AreBetween, Passes, held, with_these_files}
use Rattle.proto_journal.proofs.Between.{between_as_after, between_as_before}

-- ---- files

pub files_already : (h : Option Held) (files : List FileOf) → HoldsFiles h files → option_map (with_these_files files) h ≡ h
files_already None files e = refl
files_already (Some there) files e = ap (λ (fs : List FileOf). Some (with_these_files fs there)) e

pub file_replaced : (h : Option Held) (path bytes : List ℕ) (files : List FileOf)
    → option_map (with_file path bytes) (option_map (with_these_files files) h) ≡ option_map (with_these_files (with_bytes path bytes files)) h
file_replaced None path bytes files = refl
file_replaced (Some there) path bytes files = refl

pub listed_among : (h : Option Held) (files : List FileOf) (path : List ℕ) → IsSome (bytes_at path files) → IsListed (option_map (with_these_files files) h) path
listed_among None files path l = tt
listed_among (Some there) files path l = l

pub files_between : (h : Option Held) (before after files : List FileOf) → IsBetween before after files → AreBetween before after h (option_map (with_these_files files) h)
files_between None before after files b = tt
files_between (Some there) before after files b = (refl, b)

-- ---- the journal, the files, and the journal again

pub files_stay : (h : Option Held) (first : List ℕ) (files : List FileOf) → HoldsFiles h files → HoldsFiles (option_map (with_journal first) h) files
files_stay None first files e = tt
files_stay (Some there) first files e = e

pub all_written : (h : Option Held) (first last : List ℕ) (after : List FileOf)
    → option_map (with_journal last) (option_map (with_these_files after) (option_map (with_journal first) h)) ≡ option_map (λ there. held after last) h
all_written None first last after = refl
all_written (Some there) first last after = refl

module _ (before after : List FileOf) (first last : List ℕ) where
  begun : (h : Option Held) → HoldsFiles h before → Passes before after first last h (option_map (with_journal first) h)
  begun None e = inr (inl tt)
  begun (Some there) e = inr (inl (refl, between_as_before before after there.files (sym e)))

  -- the first write failed
  pub cut_first : (h now : Option Held) → HoldsFiles h before → (now ≡ h) ⊎ (now ≡ option_map (with_journal first) h) → Passes before after first last h now
  cut_first h now e c = elim c [
    | inl same ↦ inl same
    | inr there ↦ subst (λ (z : Option Held). Passes before after first last h z) (sym there) (begun h e)
  ]

  cut_between : (h now : Option Held) → AreBetween before after (option_map (with_journal first) h) now → Passes before after first last h now
  cut_between None None b = inr (inl tt)
  cut_between None (Some now) b = absurd b
  cut_between (Some then) None b = absurd b
  cut_between (Some then) (Some now) b = inr (inl b)

  -- a write of a file failed
  pub cut_files : (h mid now : Option Held) → mid ≡ option_map (with_journal first) h → AreBetween before after mid now → Passes before after first last h now
  cut_files h mid now e b = cut_between h now (subst (λ (z : Option Held). AreBetween before after z now) e b)

  full : (h : Option Held) → paths_of after ≡ paths_of before → languages_of after ≡ languages_of before → Passes before after first last h (option_map (with_these_files after) (option_map (with_journal first) h))
  full None p q = inr (inl tt)
  full (Some then) p q = inr (inl (refl, between_as_after before after after p q refl))

  -- the last write failed
  pub cut_last : (h mid late now : Option Held) → paths_of after ≡ paths_of before → languages_of after ≡ languages_of before → mid ≡ option_map (with_journal first) h → late ≡ option_map (with_these_files after) mid
      → (now ≡ late) ⊎ (now ≡ option_map (with_journal last) late) → Passes before after first last h now
  cut_last h mid late now p q m l c =
      let here : late ≡ option_map (with_these_files after) (option_map (with_journal first) h) = l ∙ ap (option_map (with_these_files after)) m in
      elim c [
        | inl same ↦ subst (λ (z : Option Held). Passes before after first last h z) (sym (same ∙ here)) (full h p q)
        | inr there ↦ inr (inr (there ∙ ap (option_map (with_journal last)) here ∙ all_written h first last after))
      ]

  -- no write failed
  pub went_through : (h mid late now : Option Held) → mid ≡ option_map (with_journal first) h → late ≡ option_map (with_these_files after) mid
      → now ≡ option_map (with_journal last) late → now ≡ option_map (λ there. held after last) h
  went_through h mid late now m l n = n ∙ ap (option_map (with_journal last)) (l ∙ ap (option_map (with_these_files after)) m) ∙ all_written h first last after

-- ---- the same, of other names

pub passes_from : (was before will after : List FileOf) (first last : List ℕ) (mid old now : Option Held) → was ≡ before → will ≡ after → mid ≡ old
    → Passes was will first last mid now → Passes before after first last old now
passes_from was before will after first last mid old now b a m p =
    subst (λ (z : Option Held). Passes before after first last z now) m
    (subst (λ (z : List FileOf). Passes before z first last mid now) a (subst (λ (z : List FileOf). Passes z will first last mid now) b p))

pub through_from : (will after : List FileOf) (last : List ℕ) (mid old now : Option Held) → will ≡ after → mid ≡ old → now ≡ option_map (λ there. held will last) mid → now ≡ option_map (λ there. held after last) old
through_from will after last mid old now a m n =
    n ∙ ap (λ (z : List FileOf). option_map (λ there. held z last) mid) a ∙ ap (option_map (λ there. held after last)) m
