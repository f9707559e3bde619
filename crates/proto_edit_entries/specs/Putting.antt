-- How files are changed: each by the splices of its path; and how files and changes are gone
-- through together, both in the order of their paths.
use Rattle.std.specs.Prelude.{◌≡◌, ◌≢◌, ℕ, ◌<◌, ◌≤◌, ◌⊎◌, List, [], ◌∷◌, length, slice_set, All, AllPairs, Option, Some, None}
use Rattle.std.specs.Global.{Vec}
use Rattle.std.specs.List.{Contains}
use Rattle.proto_text.specs.Edits.{Puts}
use Rattle.proto_base.specs.Texts.{Text, text_limit}
use Rattle.proto_files.specs.GivenFiles.{FileOf, file_at}
use Rattle.proto_edit_entries.specs.Entries.{ChangeOf}

-- ---- by the paths

-- a file is changed by the splices of its path, and stays where there are none; its language stays
pub record PutsFile (cs : List ChangeOf) (f g : FileOf) : Type 0 where
  pub path : g.path ≡ f.path
  pub profile : g.profile ≡ f.profile
  pub changed : (c : ChangeOf) → Contains cs c → c.path ≡ f.path
      → (length f.bytes ≡ c.before) × Puts 0 f.bytes c.splices g.bytes
  pub kept : ((c : ChangeOf) → Contains cs c → c.path ≢ f.path) → g.bytes ≡ f.bytes

-- each file is changed, or stays, and none is left out
abbrev pub EachPuts : List ChangeOf → List FileOf → List FileOf → Type 0
EachPuts cs [] [] = Unit {0}
EachPuts cs [] (g ∷ gs) = ⊥
EachPuts cs (f ∷ fs) [] = ⊥
EachPuts cs (f ∷ fs) (g ∷ gs) = PutsFile cs f g × EachPuts cs fs gs

-- the files with the changes, each of which is of a file that is there
pub record IsPut (w : List FileOf) (cs : List ChangeOf) (after : List FileOf) : Type 0 where
  pub each : EachPuts cs w after
  pub there : (c : ChangeOf) → Contains cs c → (f : FileOf) × Contains w f × (f.path ≡ c.path)

-- no file is longer than one may be
abbrev pub AreShortFiles : List FileOf → Type 0
AreShortFiles after = (g : FileOf) → Contains after g → length g.bytes ≤ text_limit

-- ---- in order

-- the text with a change: it was as before the change, and is then no longer than a file may be
pub record HasChange (text : Text) (c : ChangeOf) (new : Text) : Type 0 where
  pub before : length text ≡ c.before
  pub puts : Puts 0 text c.splices new
  pub short : length new ≤ text_limit

-- this is the text with the change, or there is none
abbrev pub IsChangedText : Text → ChangeOf → Option (Vec ℕ) → Type 0
IsChangedText text c (Some new) = HasChange text c new.items
IsChangedText text c None = (new : Text) → HasChange text c new → ⊥

-- what becomes of a file, and which changes are left behind it: it has the first change, where that
-- is of its path, or stays; its language stays
abbrev pub IsNext : FileOf → List ChangeOf → FileOf → List ChangeOf → Type 0
IsNext f [] g rest = (g ≡ f) × (rest ≡ [])
IsNext f (c ∷ cs) g rest =
    ((c.path ≡ f.path) × (g.path ≡ f.path) × HasChange f.bytes c g.bytes × (rest ≡ cs)
    × (g.profile ≡ f.profile))
    ⊎ ((c.path ≢ f.path) × (g ≡ f) × (rest ≡ c ∷ cs))

-- the files after all the changes
abbrev pub ArePut : List FileOf → List ChangeOf → List FileOf → Type 0
ArePut [] cs after = (cs ≡ []) × (after ≡ [])
ArePut (f ∷ fs) cs [] = ⊥
ArePut (f ∷ fs) cs (g ∷ gs) = (rest : List ChangeOf) × IsNext f cs g rest × ArePut fs rest gs

-- ---- at their places

-- the files with these texts at these places, of the paths and the languages that they have
abbrev pub with_texts : List FileOf → List ℕ → List Text → List FileOf
with_texts files [] texts = files
with_texts files (p ∷ ps) [] = files
with_texts files (p ∷ ps) (t ∷ ts) =
    with_texts (slice_set files p (record (file_at files p) { bytes = t })) ps ts

-- these are the places of the files that are changed, and their texts with the changes
pub record AreChangedTexts
    (files : List FileOf) (cs : List ChangeOf) (places : List ℕ) (texts : List Text) : Type 0 where
  pub within : All (λ place. place < length files) places
  pub rising : AllPairs (λ a b. a < b) places
  pub paired : length texts ≡ length places
  pub counted : length places ≡ length cs
  pub put : ArePut files cs (with_texts files places texts)

-- this is the place of the changed file, with its text with the change
pub record IsChangedFile
    (files : List FileOf) (c : ChangeOf) (place : ℕ) (new : Text) : Type 0 where
  pub within : place < length files
  pub path : (file_at files place).path ≡ c.path
  pub changed : HasChange (file_at files place).bytes c new

-- no file of the change has a text with it
abbrev pub HasNoChangedFile : List FileOf → ChangeOf → Type 0
HasNoChangedFile files c = (f : FileOf) (new : Text)
    → Contains files f
    → f.path ≡ c.path
    → HasChange f.bytes c new
    → ⊥
