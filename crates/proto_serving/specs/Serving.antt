-- A run of a machine over a stream: the contents of the stream's frames are taken one after
-- another, and each reply is written as a frame.
use Rattle.std.specs.Prelude.{◌≡◌, ◌⊎◌, ℕ, ◌-◌, ◌^◌, ◌≤◌, Bool, false, true, List, [], ◌∷◌, ◌++◌, length, flat_map, map, Option, ⊤}
use Rattle.std.specs.Io.KnownBytes.{Appends}
use Rattle.std.specs.Global.{Vec}
use Rattle.proto_base.specs.Texts.{Text}
use Rattle.proto_frames.specs.Frames.{Fails, frame, frame_or_end}
use Rattle.proto_frames.specs.Grammar.{IsFrame}
use Rattle.proto_frames.specs.Writing.{AppendsBeginning}
use Rattle.proto_serving.specs.declared.fault.ServeFault.{ServeFault}
use Rattle.proto_serving.specs.declared.fault.ServeFault.TheVariants.{Frame, Take, Write, TooMany}
use Rattle.proto_serving.specs.declared.fault.TakeFault.{TakeFault}
use Rattle.proto_serving.specs.declared.fault.TakeFault.TheVariants.{NoMemory, Refused}

-- the bytes begin with a frame whose content has at most `cap` bytes
pub record HasFrame (cap : ℕ) (bytes : Text) : Type 0 where
  pub text : Text
  pub content : Text
  pub rest : Text
  pub is_frame : IsFrame text content
  pub short : length content ≤ cap
  pub first : bytes ≡ text ++ rest

-- the bytes begin with these
pub record HasPrefix (prefix bytes : Text) : Type 0 where
  pub rest : Text
  pub whole : bytes ≡ prefix ++ rest

-- what is taken at one turn: a content, and whether another frame was waiting behind it
pub record Turn : Type 0 where
  pub content : Text
  pub is_followed : Bool

-- The stream is frames with these contents, each of at most `cap` bytes, and then the rest. A turn
-- says that another frame is waiting only where one follows.
abbrev pub IsStream : ℕ → Text → List Turn → Text → Type 0
IsStream cap bytes [] rest = bytes ≡ rest
IsStream cap bytes (t ∷ ts) rest =
    (text : Text) × (more : Text) × IsFrame text t.content × (length t.content ≤ cap)
    × (bytes ≡ text ++ more) × (t.is_followed ≡ true → HasFrame cap more)
    × IsStream cap more ts rest

-- A machine may take these turns one after another, none once it is done, and answer each with
-- these replies.
abbrev pub Run : {M : Type 0} → (M → Text → Bool → List Text → M → Type 0) → (M → Bool) → M → List Turn → List (List Text) → M → Type 0
Run steps is_done old [] [] new = new ≡ old
Run {M} steps is_done old (t ∷ ts) (r ∷ rs) new =
    (is_done old ≡ false) × (mid : M) × steps old t.content t.is_followed r mid
    × Run steps is_done mid ts rs new
Run steps is_done old [] (r ∷ rs) new = ⊥
Run steps is_done old (t ∷ ts) [] new = ⊥

-- the frames of all replies
abbrev pub replies_text : List (List Text) → Text
replies_text rs = flat_map (λ r. flat_map frame r) rs

-- the texts of replies
abbrev pub texts : List (Vec ℕ) → List Text
texts vs = map (λ v. v.items) vs

-- what was taken of the stream, and what the machine made of it
pub record Ran {M : Type 0} (steps : M → Text → Bool → List Text → M → Type 0) (is_done : M → Bool) (cap : ℕ) (bytes : Text) (old new : M) (turns : List Turn) (replies : List (List Text)) (rest : Text) : Type 0 where
  pub stream : IsStream cap bytes turns rest
  pub run : Run steps is_done old turns replies new

-- what a whole run leaves: all replies are written, and the machine has ended, or the stream has
pub record Served {M : Type 0} (steps : M → Text → Bool → List Text → M → Type 0) (is_done : M → Bool) (cap : ℕ) (bytes : Text) (old new : M) (held now : Option Text) : Type 0 where
  pub turns : List Turn
  pub replies : List (List Text)
  pub rest : Text
  pub ran : Ran steps is_done cap bytes old new turns replies rest
  pub written : Appends held now (replies_text replies)
  pub ended : (is_done new ≡ true) ⊎ (rest ≡ [])

-- A message was not taken: it stands at the front, and the machine refuses it, unless it was out of
-- memory.
abbrev pub IsUntaken : {M : Type 0} → (M → Text → Type 0) → ℕ → M → Text → TakeFault → Type 0
IsUntaken refuses cap new rest NoMemory = HasFrame cap rest
IsUntaken refuses cap new rest Refused = (frame : HasFrame cap rest) × refuses new frame.content

-- Why a run ended: the machine takes more, and the rest of the stream has this fault, or begins
-- with a message that was not taken; or there were too many turns. Of a write nothing more is said.
abbrev pub IsReason : {M : Type 0} → (M → Text → Type 0) → (M → Bool) → ℕ → M → List Turn → Text → ServeFault → Type 0
IsReason refuses is_done cap new turns rest (Frame fault) =
    (is_done new ≡ false) × Fails fault (frame_or_end cap rest)
IsReason refuses is_done cap new turns rest (Take fault) =
    (is_done new ≡ false) × IsUntaken refuses cap new rest fault
IsReason refuses is_done cap new turns rest (Write fault) = ⊤
IsReason refuses is_done cap new turns rest TooMany = length turns ≡ 2 ^ 64 - 1

-- the replies of all turns are written but those of the last one, of which a prefix is written
abbrev pub IsCutShort : Option Text → Option Text → List (List Text) → Type 0
IsCutShort held now replies =
    (before : List (List Text)) × (last : List Text) × (mid : Option Text)
    × (replies ≡ before ++ (last ∷ []))
    × Appends held mid (replies_text before) × AppendsBeginning mid now (flat_map frame last)

-- what is written in a run that ended early: all replies, unless a write failed
abbrev pub IsWritten : ServeFault → Option Text → Option Text → List (List Text) → Type 0
IsWritten (Frame fault) held now replies = Appends held now (replies_text replies)
IsWritten (Take fault) held now replies = Appends held now (replies_text replies)
IsWritten (Write fault) held now replies = IsCutShort held now replies
IsWritten TooMany held now replies = Appends held now (replies_text replies)

-- what a run leaves that ended early
pub record Failed {M : Type 0} (steps : M → Text → Bool → List Text → M → Type 0) (refuses : M → Text → Type 0) (is_done : M → Bool) (cap : ℕ) (fault : ServeFault) (bytes : Text) (old new : M) (held now : Option Text) : Type 0 where
  pub turns : List Turn
  pub replies : List (List Text)
  pub rest : Text
  pub ran : Ran steps is_done cap bytes old new turns replies rest
  pub written : IsWritten fault held now replies
  pub reason : IsReason refuses is_done cap new turns rest fault
