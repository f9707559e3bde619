-- What a link, and what is made of it, were before some files were edited.
use Rattle.std.specs.Prelude.{◌≡◌, ℕ, Bool, List, length, Option, IfSome}
use Rattle.proto_files.specs.Faults.{HasNoFault}
use Rattle.proto_files.specs.FilesRead.{AreRead, ReadOf}
use Rattle.proto_files.specs.GivenFiles.{FileOf}
use Rattle.proto_names_imports.specs.Links.{LinkFaults}
use Rattle.proto_names.specs.LinkOfFiles.{IsLinkOf}
use Rattle.proto_names.specs.Linking.{LinkOf}
use Rattle.proto_names.specs.Referring.{word_key}
use Rattle.proto_names_update.specs.Edited.{AreSameBut}
use Rattle.proto_names_update.specs.Relinked.{HasToLook, IsCleanLink}

-- the marks tell which of these files have to be re-resolved, where they were those before but
-- at these places
pub record HaveToLook (places : List ℕ) (before files : List FileOf) (marks : List Bool)
    : Type 0 where
  pub count : length marks ≡ length files
  pub look : (was reads : List ReadOf) → AreRead before was → AreRead files reads
      → HasToLook word_key places before was files reads marks

-- of whatever files this was the link, if these are the same but at these places, the marks tell
-- which of these have to be re-resolved
abbrev pub TellWhatToLook : List ℕ → List FileOf → LinkOf → List Bool → Type 0
TellWhatToLook places files l marks =
    (before : List FileOf) → IsCleanLink IsLinkOf before l → AreSameBut places before files
    → HaveToLook places before files marks

-- it was made of files that are read and have no fault of imports, names and references, which had
-- other bytes at these places; where marks are told, they tell which of the files have to be looked
-- at again
pub record WasMadeOf {M : Type 0} (IsMade : List FileOf → M → Type 0) (files : List FileOf)
    (places : List ℕ) (told : Option (List Bool)) (m : M) : Type 0 where
  pub before : List FileOf
  pub clean : HasNoFault (LinkFaults before)
  pub reads : List ReadOf
  pub read : AreRead before reads
  pub made : IsMade before m
  pub same : AreSameBut places before files
  pub look : IfSome told (HaveToLook places before files)

-- it was the link of files without these faults, which had other bytes at these places, and this
-- was made of the same files
pub record WereLinkAndMade {M : Type 0} (IsMade : List FileOf → M → Type 0) (files : List FileOf)
    (places : List ℕ) (l : LinkOf) (m : M) : Type 0 where
  pub before : List FileOf
  pub link : IsCleanLink IsLinkOf before l
  pub made : IsMade before m
  pub same : AreSameBut places before files
