-- Names, what a file sees, and what a reference means.
use Rattle.std.specs.Prelude.{◌≡◌, ℕ, zero, suc, Bool, true, false, ◌&&◌, ◌||◌, ◌==◌, if◌then◌else◌, List, [], ◌∷◌, ◌++◌, length, take, Option, Some, None}
use Rattle.std.specs.List.{list_any, Contains}
use Rattle.std.specs.Str.{bytes_eq}
use Rattle.std.specs.Cmp.Lexicographic.{pointwise}
pub use Rattle.proto_names_rules.specs.declared.kind.Kind.{Kind}
pub use Rattle.proto_names_rules.specs.declared.kind.Kind.TheVariants.{Package, Message, Entry, Enum, Service, Field, EntryField, Oneof, Value, Method, Extension}
pub use Rattle.proto_names_rules.specs.declared.wants.Wants.{Wants}
use Rattle.proto_names_rules.specs.declared.wants.Wants.TheVariants as wants

-- a word of a name: its bytes
abbrev pub Word : Type 0
Word = List ℕ

-- a full name, outermost word first
abbrev pub Name : Type 0
Name = List (List ℕ)

-- two full names have the same words, byte for byte
abbrev pub same_name : Name → Name → Bool
same_name = pointwise bytes_eq

-- what a reference to a type may mean: a message, also a generated one, or an enum
abbrev pub is_type : Kind → Bool
is_type Message = true
is_type Entry = true
is_type Enum = true
is_type Package = false
is_type Service = false
is_type Field = false
is_type EntryField = false
is_type Oneof = false
is_type Value = false
is_type Method = false
is_type Extension = false

-- what the first word of a longer reference may stand for: a package, a message, also a generated
-- one, an enum or a service
abbrev pub is_outer : Kind → Bool
is_outer Package = true
is_outer Message = true
is_outer Entry = true
is_outer Enum = true
is_outer Service = true
is_outer Field = false
is_outer EntryField = false
is_outer Oneof = false
is_outer Value = false
is_outer Method = false
is_outer Extension = false

-- an extension
abbrev pub is_extension : Kind → Bool
is_extension Package = false
is_extension Message = false
is_extension Entry = false
is_extension Enum = false
is_extension Service = false
is_extension Field = false
is_extension EntryField = false
is_extension Oneof = false
is_extension Value = false
is_extension Method = false
is_extension Extension = true

-- what a reference may mean, by what it wants (an enum where a message is wanted is a fault)
abbrev pub may_resolve_to : Wants → Kind → Bool
may_resolve_to wants.Type = is_type
may_resolve_to wants.Message = is_type
may_resolve_to wants.Extension = is_extension

-- a declaration: its full name, its kind, and the number of its file, from 0; a package is listed
-- with each of its prefixes, once for each file that has it
pub record Symbol : Type 0 where
  pub name : Name
  pub kind : Kind
  pub file : ℕ

-- an import of one file by another, both by number; a public one passes on what it imports
pub record Import : Type 0 where
  pub from : ℕ
  pub to : ℕ
  pub is_public : Bool

-- the words of a reference, with the full name of the message or service around it, or else of the
-- package; an absolute one begins with a dot; the request and the response of a method, and what an
-- `extend` block extends, want a message, the name of a custom option wants an extension, and all
-- others want a type
pub record Reference : Type 0 where
  pub file : ℕ
  pub scope : Name
  pub is_absolute : Bool
  pub wants : Wants
  pub words : List Word

-- the number of files, and what all of them declare, import and refer to
pub record Workspace : Type 0 where
  pub files : ℕ
  pub symbols : List Symbol
  pub imports : List Import
  pub references : List Reference

-- g is reached from f by public imports
pub data Reaches (imports : List Import) : ℕ → ℕ → Type 0 where
  here : {f : ℕ} → Reaches imports f f
  along : {f g : ℕ} (i : Import) → Contains imports i → i.from ≡ f → i.is_public ≡ true
      → Reaches imports i.to g → Reaches imports f g

-- f sees itself, its direct imports, and what is reached from these by public imports
pub data Sees (imports : List Import) : ℕ → ℕ → Type 0 where
  itself : {f : ℕ} → Sees imports f f
  by_import : {f g : ℕ} (i : Import) → Contains imports i → i.from ≡ f → Reaches imports i.to g
      → Sees imports f g

-- g is reached from f by at most n public imports, as a test
abbrev pub reaches : List Import → ℕ → ℕ → ℕ → Bool
reaches imports zero f g = f == g
reaches imports (suc n) f g =
    (f == g) || list_any (λ i. (i.from == f) && i.is_public && reaches imports n i.to g) imports

-- f sees g, as a test: a chain that passes no file twice has no more imports than there are files
abbrev pub sees : Workspace → ℕ → ℕ → Bool
sees w f g = (f == g) || list_any (λ i. (i.from == f) && reaches w.imports w.files i.to g) w.imports

-- from file f a symbol is visible that has the full name and whose kind passes the test
abbrev pub shows : Workspace → ℕ → (Kind → Bool) → Name → Bool
shows w f good x = list_any (λ s. same_name s.name x && (good s.kind && sees w f s.file)) w.symbols

-- what fits at the word of a reference of one word, by what it wants: a type, or any symbol, where
-- an extension is wanted
abbrev pub fits_alone : Wants → Kind → Bool
fits_alone wants.Type = is_type
fits_alone wants.Message = is_type
fits_alone wants.Extension = λ k. true

-- what fits at the first word of a reference to a type: a type, where it is the only word, and else
-- an outer kind
abbrev pub fits_a_type : List Word → Kind → Bool
fits_a_type [] k = false
fits_a_type (p ∷ []) k = is_type k
fits_a_type (p ∷ q ∷ rest) k = is_outer k

-- what fits at the first word of an option's name: any symbol, where it is the only word, and else
-- an outer kind
abbrev pub fits_an_option : List Word → Kind → Bool
fits_an_option [] k = false
fits_an_option (p ∷ []) k = true
fits_an_option (p ∷ q ∷ rest) k = is_outer k

-- what fits at a reference's first word, by what it wants
abbrev pub fits_at_first : Wants → List Word → Kind → Bool
fits_at_first wants.Type = fits_a_type
fits_at_first wants.Message = fits_a_type
fits_at_first wants.Extension = fits_an_option

-- the greatest number up to the bound that passes
abbrev pub greatest : (ℕ → Bool) → ℕ → Option ℕ
greatest t zero = if t 0 then Some 0 else None
greatest t (suc k) = if t (suc k) then Some (suc k) else greatest t k

-- right below its scope's first k words a visible symbol that fits has the reference's first word
abbrev pub hits_at : Workspace → Reference → ℕ → Bool
hits_at w r k =
    shows w r.file (fits_at_first r.wants r.words) (take k r.scope ++ take 1 r.words)

-- of how many words the longest front of the scope is at which the reference hits: the innermost
-- scope decides; none for an absolute reference, or where it hits nowhere
abbrev pub hit : Workspace → Reference → Option ℕ
hit w r = if r.is_absolute then None else greatest (hits_at w r) (length r.scope)

-- the front of the scope before the words, at a hit; nothing without a hit
abbrev pub front_at : Reference → Option ℕ → Name
front_at r None = []
front_at r (Some k) = take k r.scope

-- the name, where what passes the test is visible under it from this file
abbrev pub visible_as : Workspace → ℕ → (Kind → Bool) → Name → Option Name
visible_as w f good m = if shows w f good m then Some m else None

-- what the words mean below the front of a hit; without a hit an absolute reference means what its
-- words name, and any other nothing
abbrev pub meaning_at : Workspace → Reference → Option ℕ → Option Name
meaning_at w r None =
    if r.is_absolute then visible_as w r.file (may_resolve_to r.wants) r.words else None
meaning_at w r (Some k) =
    visible_as w r.file (may_resolve_to r.wants) (take k r.scope ++ r.words)

-- the full name of the type, or the extension, that the reference means: at the innermost scope
-- that has its first word, all its words name a visible one, or it means nothing, and no outer
-- scope is tried
abbrev pub meaning : Workspace → Reference → Option Name
meaning w r = meaning_at w r (hit w r)
