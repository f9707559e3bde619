-- The laws of entries: what their changes put into files, and the way back.
use Rattle.std.specs.Prelude.{◌≡◌, ℕ, ◌+◌, ◌≤◌, List, length}
use Rattle.proto_text.specs.Edits.{Edit, AreShort, Puts}
use Rattle.proto_base.specs.Texts.{Text, text_limit}
use Rattle.proto_files.specs.GivenFiles.{FileOf, AreWorkspaceFiles}
use Rattle.proto_edit_entries.specs.Entries.{ChangeOf, inverted, AreRising, IsEntry}
use Rattle.proto_edit_entries.specs.Putting.{IsPut, AreShortFiles, ArePut}

-- What is put is one.
abbrev pub PutsOnce : Type 0
PutsOnce = (w a b : List FileOf) (cs : List ChangeOf) → IsPut w cs a → IsPut w cs b → a ≡ b

-- What is put in the order of the paths is put by the paths.
abbrev pub WalksPut : Type 0
WalksPut =
    (w after : List FileOf) (cs : List ChangeOf) → AreWorkspaceFiles w → AreRising cs
    → ArePut w cs after → IsPut w cs after

-- And what is put by the paths is put in their order, where no file gets too long.
abbrev pub PutsAreWalked : Type 0
PutsAreWalked =
    (w after : List FileOf) (cs : List ChangeOf) → AreWorkspaceFiles w → AreRising cs
    → AreShortFiles after → IsPut w cs after → ArePut w cs after

-- Files stay files of a workspace.
abbrev pub PutsKeepPaths : Type 0
PutsKeepPaths =
    (w after : List FileOf) (cs : List ChangeOf) → AreWorkspaceFiles w
    → IsPut w cs after → AreWorkspaceFiles after

-- From what an entry put, its changes turned round lead back.
abbrev pub EntriesLeadBack : Type 0
EntriesLeadBack =
    (w after : List FileOf) (cs : List ChangeOf) → IsEntry cs
    → IsPut w cs after → IsPut after (inverted cs) w

-- Splices that put a text lie in order, and so do those that lead back, where both texts are short;
-- they begin at these bytes.
abbrev pub PutsAreShort : Type 0
PutsAreShort =
    (to from : ℕ) (text new : Text) (es : List Edit) → Puts from text es new
    → from + length text ≤ text_limit → to + length new ≤ text_limit → AreShort to from es
