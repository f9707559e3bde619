-- When a reference means in a second workspace what it means in a first, as where some files are
-- edited and the reference's own file is not.
use Rattle.std.specs.Prelude.{◌≡◌, ◌≢◌, ◌<◌, ℕ, Bool, true, false, not, List, [], ◌∷◌, ◌++◌, length, take, Some, None}
use Rattle.std.specs.List.{Contains, AllPairs}
use Rattle.proto_names_rules.specs.Linked.{AreApart, IsNested}
use Rattle.proto_names_rules.specs.Names.{Kind, Name, Reference, Symbol, Wants, Word, Workspace, fits_at_first, is_outer, may_resolve_to, meaning, sees}
use Rattle.proto_names_rules.specs.declared.kind.Kind.TheVariants.{Package, Message, Entry, Enum, Service, Field, EntryField, Oneof, Value, Method, Extension}
use Rattle.proto_names_rules.specs.declared.wants.Wants.TheVariants as wants

-- a symbol of this name which the reference's file sees, and which fits at its first word
abbrev pub HasFitting : Workspace → Reference → Name → Type 0
HasFitting w r name =
    (s : Symbol) × Contains w.symbols s × (s.name ≡ name)
    × (fits_at_first r.wants r.words s.kind ≡ true) × (sees w r.file s.file ≡ true)

-- the type or extension with this name, which the reference means in the first workspace, is
-- declared in the second by the same file with the same kind, and its file still sees that; and no
-- symbol that its file sees there is of a new name which its first word might stand for, below a
-- front of its scope
pub record IsKeptReference (w v : Workspace) (r : Reference) (m : Name) : Type 0 where
  pub declared : (s : Symbol) → Contains w.symbols s → s.name ≡ m
      → may_resolve_to r.wants s.kind ≡ true → Contains v.symbols s
  pub seen : (s : Symbol) → Contains w.symbols s → s.name ≡ m
      → may_resolve_to r.wants s.kind ≡ true → sees w r.file s.file ≡ true
      → sees v r.file s.file ≡ true
  pub none_new : (s : Symbol) (front back : Name) → Contains v.symbols s
      → sees v r.file s.file ≡ true → front ++ back ≡ r.scope → s.name ≡ front ++ take 1 r.words
      → fits_at_first r.wants r.words s.kind ≡ true → HasFitting w r s.name

-- then it means the same
abbrev pub MeaningsAreKept : Type 0
MeaningsAreKept =
    (w v : Workspace) → IsNested v.symbols → (r : Reference) (m : Name)
    → meaning w r ≡ Some m → IsKeptReference w v r m → meaning v r ≡ Some m

-- the reference is flawless: it means what it wants, which is no generated entry, and no enum where
-- it wants a message
pub record IsFlawless (w : Workspace) (r : Reference) : Type 0 where
  pub resolved : meaning w r ≢ None
  pub no_entry : (s : Symbol) → Contains w.symbols s → meaning w r ≡ Some s.name → s.kind ≢ Entry
  pub right_kind : (s : Symbol) → Contains w.symbols s → meaning w r ≡ Some s.name
      → r.wants ≡ wants.Message → s.kind ≢ Enum

-- and it is flawless in the second workspace, if it is in the first
abbrev pub FlawlessStay : Type 0
FlawlessStay =
    (w v : Workspace) → IsNested v.symbols → AllPairs AreApart v.symbols
    → (r : Reference) (m : Name) → meaning w r ≡ Some m → IsKeptReference w v r m
    → IsFlawless w r → IsFlawless v r

-- ---- where files at some places are edited

-- of all files but those at these places the symbols are the same in both workspaces, and the
-- second has no reference that the first has not
pub record DifferAt (places : List ℕ) (w v : Workspace) : Type 0 where
  pub stay : (s : Symbol) → Contains w.symbols s → (Contains places s.file → ⊥)
      → Contains v.symbols s
  pub none_new : (s : Symbol) → Contains v.symbols s → (Contains places s.file → ⊥)
      → Contains w.symbols s
  pub references : (r : Reference) → Contains v.references r → (Contains places r.file → ⊥)
      → Contains w.references r

-- this file declares a symbol of the same name and kind
abbrev pub Declares : Workspace → ℕ → Symbol → Type 0
Declares w file s =
    (u : Symbol) × Contains w.symbols u × (u.name ≡ s.name) × (u.kind ≡ s.kind) × (u.file ≡ file)

-- the reference's file still sees what it meant; if that is of a file at these places, it
-- is declared there still; of these files no symbol is new that its first word might stand for,
-- below a front of its scope; and of files that its file sees and did not see, each such symbol is
-- one that its own file, which is at none of these places, declares too
pub record IsUnaffected (places : List ℕ) (w v : Workspace) (r : Reference) (m : Name)
    : Type 0 where
  pub not_hidden : (s : Symbol) → Contains w.symbols s → s.name ≡ m
      → may_resolve_to r.wants s.kind ≡ true → sees w r.file s.file ≡ true
      → sees v r.file s.file ≡ true
  pub none_shown : (s : Symbol) (front back : Name) → Contains v.symbols s
      → sees v r.file s.file ≡ true → sees w r.file s.file ≡ false
      → front ++ back ≡ r.scope → s.name ≡ front ++ take 1 r.words
      → fits_at_first r.wants r.words s.kind ≡ true
      → Declares v r.file s × (Contains places r.file → ⊥)
  pub not_gone : (s : Symbol) → Contains w.symbols s → Contains places s.file → s.name ≡ m
      → may_resolve_to r.wants s.kind ≡ true → Contains v.symbols s
  pub none_came : (s : Symbol) (front back : Name) → Contains v.symbols s
      → Contains places s.file → front ++ back ≡ r.scope → s.name ≡ front ++ take 1 r.words
      → fits_at_first r.wants r.words s.kind ≡ true → Contains w.symbols s

-- an unaffected reference is kept
abbrev pub UnaffectedAreKept : Type 0
UnaffectedAreKept =
    (places : List ℕ) (w v : Workspace) → DifferAt places w v → (r : Reference) (m : Name)
    → IsUnaffected places w v r m → IsKeptReference w v r m

-- what may fit at the first word of a reference, however many words follow: of a reference to a
-- type what may hold names or be meant, of an option's name any symbol
abbrev pub may_fit : Wants → Kind → Bool
may_fit wants.Type = is_outer
may_fit wants.Message = is_outer
may_fit wants.Extension = λ k. true

-- the same by a key of each word, which is one number for one word: of files at these places no
-- symbol that may fit is new, below a front of its scope, whose last word has the key of the
-- reference's first word; and of files that are newly seen there is no such one which its own file
-- does not declare too
pub record IsUnaffectedByKeys (key : Word → ℕ) (places : List ℕ) (w v : Workspace) (r : Reference)
    (m : Name) : Type 0 where
  pub not_hidden : (s : Symbol) → Contains w.symbols s → s.name ≡ m
      → may_resolve_to r.wants s.kind ≡ true → sees w r.file s.file ≡ true
      → sees v r.file s.file ≡ true
  pub none_shown : (s : Symbol) (front back : Name) (last first : Word) (rest : List Word)
      → Contains v.symbols s → sees v r.file s.file ≡ true → sees w r.file s.file ≡ false
      → may_fit r.wants s.kind ≡ true → front ++ back ≡ r.scope → s.name ≡ front ++ last ∷ []
      → r.words ≡ first ∷ rest → key last ≡ key first
      → Declares v r.file s × (Contains places r.file → ⊥)
  pub not_gone : (s : Symbol) → Contains w.symbols s → Contains places s.file → s.name ≡ m
      → may_resolve_to r.wants s.kind ≡ true → Contains v.symbols s
  pub none_came : (s : Symbol) (front back : Name) (last first : Word) (rest : List Word)
      → Contains v.symbols s → Contains places s.file → may_fit r.wants s.kind ≡ true
      → front ++ back ≡ r.scope → s.name ≡ front ++ last ∷ [] → r.words ≡ first ∷ rest
      → key last ≡ key first → Contains w.symbols s

-- keys tell which references are unaffected
abbrev pub KeysTell : Type 0
KeysTell =
    (key : Word → ℕ) (places : List ℕ) (w v : Workspace) (r : Reference) (m : Name)
    → IsUnaffectedByKeys key places w v r m → IsUnaffected places w v r m

-- of files at these places the symbols whose kinds pass the test are the same in both workspaces:
-- those of other kinds may differ
pub record DifferInLeaves (stays : Kind → Bool) (places : List ℕ) (w v : Workspace) : Type 0 where
  pub stay : (s : Symbol) → Contains w.symbols s → Contains places s.file
      → stays s.kind ≡ true → Contains v.symbols s
  pub none_new : (s : Symbol) → Contains v.symbols s → Contains places s.file
      → stays s.kind ≡ true → Contains w.symbols s

-- then each reference is unaffected whose file sees what it saw, where what may fit at its first
-- word stays: of one to a type fields, fields of entries, oneofs, values, methods and extensions
-- may differ
abbrev pub LeavesSpareAll : Type 0
LeavesSpareAll =
    (places : List ℕ) (w v : Workspace) (r : Reference) (m : Name)
    → DifferInLeaves (may_fit r.wants) places w v
    → ((g : ℕ) → sees v r.file g ≡ sees w r.file g)
    → IsUnaffected places w v r m

-- a kind that stands in a message or in a service alone, and that no reference means
abbrev pub is_inner : Kind → Bool
is_inner Package = false
is_inner Message = false
is_inner Entry = false
is_inner Enum = false
is_inner Service = false
is_inner Field = true
is_inner EntryField = true
is_inner Oneof = true
is_inner Value = false
is_inner Method = true
is_inner Extension = false

-- the scope of a reference, if it has one, is a symbol of its file
abbrev pub HasOwnScope : Workspace → Reference → Type 0
HasOwnScope w r =
    0 < length r.scope
    → (u : Symbol) × Contains w.symbols u × (u.name ≡ r.scope) × (u.file ≡ r.file)

-- what is inner stands right in a symbol of its file that is no package
abbrev pub InnerStandWithin : List Symbol → Type 0
InnerStandWithin symbols =
    (t : Symbol) → Contains symbols t → is_inner t.kind ≡ true
    → (a : Name) (p : Word) → t.name ≡ a ++ p ∷ []
    → (0 < length a) × (u : Symbol) × Contains symbols u × (u.name ≡ a) × (u.file ≡ t.file)
    × (u.kind ≢ Package)

-- where inner kinds alone differ, each reference of any other file is unaffected that sees what it
-- saw: no scope of it lies in a message or a service of another file
abbrev pub InnerSpareOthers : Type 0
InnerSpareOthers =
    (places : List ℕ) (w v : Workspace) → DifferInLeaves (λ k. not (is_inner k)) places w v
    → IsNested v.symbols → InnerStandWithin v.symbols → AllPairs AreApart v.symbols
    → (r : Reference) (m : Name) → HasOwnScope v r → (Contains places r.file → ⊥)
    → ((g : ℕ) → sees v r.file g ≡ sees w r.file g)
    → IsUnaffected places w v r m
