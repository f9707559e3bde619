-- A store in memory: what it holds, and the call at which it fails.
use Rattle.std.specs.Prelude.{◌≡◌, ◌⊎◌, ℕ, ◌+◌, ◌-◌, ◌≤◌, nat_le, List, reverse, String, Option, None, Some, Result, MatchResult, IsTrue, is_err, if◌then◌else◌}
use Rattle.std.specs.Global.{Vec, Global}
use Rattle.std.specs.BTreeMap.{BTreeMap}
use Rattle.proto_base.specs.Texts.{Path}
use Rattle.proto_base.specs.GivenFiles.{FileOf, files_of_as}
use Rattle.proto_base.specs.declared.profile.Profile.{Profile}
use Rattle.proto_store.specs.Stores.{Held, bytes_at}
use Rattle.proto_store.specs.declared.memory.PlannedFailure.{PlannedFailure}
use Rattle.proto_store.specs.declared.memory.Turn.{Turn}
use Rattle.proto_store.specs.declared.memory.Turn.TheVariants.{Works, Fails, Lands}

-- the files of a language that a map from paths to bytes stands for, in the order of their paths
abbrev pub files_in : Profile → BTreeMap (String Global) (Vec ℕ) → List FileOf
files_in p files = files_of_as p files.entries

-- what it holds, the language of its files, how many calls have failed, and the failure that is to
-- come
pub record MemoryOf : Type 0 where
  pub held : Held
  pub profile : Profile
  pub failures : ℕ
  pub planned : Option PlannedFailure

-- each path has the bytes that were given last for it
abbrev pub KeepsLatest : Option Held → List FileOf → Type 0
KeepsLatest None given = Unit {0}
KeepsLatest (Some held) given =
    (path : Path) → bytes_at path held.files ≡ bytes_at path (reverse given)

-- the next call is to fail
abbrev pub IsDue : Option PlannedFailure → Type 0
IsDue None = ⊥
IsDue (Some failure) = failure.calls ≤ 1

-- the next call is to fail, and if it is a replace, with the new bytes in place
abbrev pub IsDueToLand : Option PlannedFailure → Type 0
IsDueToLand None = ⊥
IsDueToLand (Some failure) = (failure.calls ≤ 1) × IsTrue failure.lands

-- what the next call does
abbrev pub IsTurn : Option PlannedFailure → Turn → Type 0
IsTurn planned Works = IsDue planned → ⊥
IsTurn planned Fails = IsDue planned × (IsDueToLand planned → ⊥)
IsTurn planned Lands = IsDueToLand planned

-- a failure is one call nearer after each call, and over with the one that fails
abbrev pub one_call_later : Option PlannedFailure → Option PlannedFailure
one_call_later None = None
one_call_later (Some failure) =
    if nat_le failure.calls 1 then None else Some (record failure { calls = failure.calls - 1 })

-- a call leaves the store with this; if it failed it is counted
abbrev pub after_call : {T E : Type 0} → Held → MemoryOf → Result T E → MemoryOf
after_call held s result = record {
  held = held;
  profile = s.profile;
  failures = if is_err result then s.failures + 1 else s.failures;
  planned = one_call_later s.planned;
}

-- a replace leaves the store with the new bytes; where it fails,
-- with the old ones, or with the new if it was to fail so
abbrev pub Replaces : {T E : Type 0} → Held → MemoryOf → MemoryOf → Result T E → Type 0
Replaces replaced old new result = MatchResult result
    (λ _. new ≡ after_call replaced old result)
    (λ _. (new ≡ after_call old.held old result)
    ⊎ (IsDueToLand old.planned × (new ≡ after_call replaced old result)))
