-- Laws of the files that a client sees, for the layers above.
use Rattle.std.specs.Prelude.{◌≡◌, ◌↔◌, ◌⊎◌, ℕ, false, List, [], ◌∷◌}
use Rattle.std.specs.List.{Contains}
use Rattle.proto_base.specs.GivenFiles.{AreInLanguage, FileOf}
use Rattle.proto_base.specs.Texts.{Path}
use Rattle.proto_base.specs.declared.profile.Profile.{Profile}
use Rattle.proto_files.specs.WorkspacePaths.{IsBefore}
use Rattle.proto_session_files.specs.Views.{OpenOf, closed, is_open, open_file, seen_over, with_open, with_version}

-- files in the order of their paths, which are apart
abbrev pub AreInOrder : List FileOf → Type 0
AreInOrder [] = Unit {0}
AreInOrder (f ∷ fs) = ((g : FileOf) → Contains fs g → IsBefore f.path g.path) × AreInOrder fs

-- no two texts are open at one path
abbrev pub AreApart : List OpenOf → Type 0
AreApart [] = Unit {0}
AreApart (o ∷ os) = (is_open o.path os ≡ false) × AreApart os

-- the file is an open text, read in the language
abbrev pub IsOpenFile : Profile → List OpenOf → FileOf → Type 0
IsOpenFile p opened f = (o : OpenOf) × Contains opened o × (open_file p o ≡ f)

-- The client sees the open texts, and of a folder the files at whose paths none is open, in the
-- order of their paths, all in one language.
pub record OpenTextsAreSeen : Type 0 where
  pub in_order : (p : Profile) (disk : List FileOf) (opened : List OpenOf) → AreInOrder disk
      → AreInOrder (seen_over p disk opened)
  pub seen : (p : Profile) (disk : List FileOf) (opened : List OpenOf) (f : FileOf)
      → AreInOrder disk → AreApart opened → Contains (seen_over p disk opened) f
      ↔ (IsOpenFile p opened f ⊎ (Contains disk f × (is_open f.path opened ≡ false)))
  pub in_language : (p : Profile) (disk : List FileOf) (opened : List OpenOf)
      → AreInLanguage p disk → AreInLanguage p (seen_over p disk opened)

-- However texts are opened, changed and closed, no two are open at one path.
pub record OpenTextsStayApart : Type 0 where
  pub with_one : (o : OpenOf) (opened : List OpenOf) → AreApart opened
      → AreApart (with_open o opened)
  pub with_another : (path : Path) (version : ℕ) (opened : List OpenOf) → AreApart opened
      → AreApart (with_version path version opened)
  pub without : (path : Path) (opened : List OpenOf) → AreApart opened
      → AreApart (closed path opened)
