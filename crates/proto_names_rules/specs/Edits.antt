-- The name map of a rename, and when it is refused.
use Rattle.std.specs.Prelude.{◌⊎◌, ◌≡◌, ℕ, zero, suc, nat_lt, ◌<◌, ◌≤◌, Bool, true, false, ◌&&◌, ◌||◌, not, if◌then◌else◌, List, [], ◌∷◌, ◌++◌, length, take, map, Option, Some, None}
use Rattle.std.specs.List.{list_any, Contains, filter}
use Rattle.std.specs.Str.{bytes_eq}
use Rattle.proto_names_rules.specs.Names.{Kind, Symbol, Import, Reference, Workspace, Word, Name, same_name, fits_at_first, sees, hit, front_at, hits_at, meaning}

-- right below the parent the old word becomes the new one, and with a map field's its entry's word
pub record Renaming : Type 0 where
  pub parent : Name
  pub old : Word
  pub new : Word
  pub entry : Option (Word × Word)

-- the full name of what is renamed
abbrev pub target : Renaming → Name
target e = e.parent ++ e.old ∷ []

-- the word right below the parent, by the entry alone: its new word for its old one
abbrev pub turned_by : Option (Word × Word) → Word → Word
turned_by None word = word
turned_by (Some p) word = if bytes_eq word p.0 then p.1 else word

-- what a word right below the parent becomes: the new one for the old one, and so of the entry
abbrev pub turned : Renaming → Word → Word
turned e word = if bytes_eq word e.old then e.new else turned_by e.entry word

-- the word is the entry's old one
abbrev pub moves_by : Option (Word × Word) → Word → Bool
moves_by None word = false
moves_by (Some p) word = bytes_eq word p.0

-- right below the parent this word is renamed: it is the old one, or the entry's old one
abbrev pub moves : Renaming → Word → Bool
moves e word = bytes_eq word e.old || moves_by e.entry word

-- below the parent the first word is turned; all other names stay
abbrev pub turn_below : Name → (Word → Word) → Name → Name
turn_below [] turn [] = []
turn_below [] turn (x ∷ xs) = turn x ∷ xs
turn_below (p ∷ ps) turn [] = []
turn_below (p ∷ ps) turn (x ∷ xs) = x ∷ (if bytes_eq x p then turn_below ps turn xs else xs)

-- the name map: what a full name is after the rename
abbrev pub ren : Renaming → Name → Name
ren e x = turn_below e.parent (turned e) x

-- the name is longer than the parent, begins with it, and its next word passes the test
abbrev pub is_below : Name → (Word → Bool) → Name → Bool
is_below [] test [] = false
is_below [] test (x ∷ xs) = test x
is_below (p ∷ ps) test [] = false
is_below (p ∷ ps) test (x ∷ xs) = bytes_eq x p && is_below ps test xs

-- the name is in the domain of the name map: it is what is renamed, or its entry, or is in these
abbrev pub in_domain : Renaming → Name → Bool
in_domain e x = is_below e.parent (moves e) x

-- the words of a reference behind a front: each stands for the front that ends with it, and the one
-- that stands for the target becomes the new word
abbrev pub rewritten : Renaming → Name → List Word → List Word
rewritten e front [] = []
rewritten e front (p ∷ rest) =
    (if same_name (front ++ p ∷ []) (target e) then e.new else p)
    ∷ rewritten e (front ++ p ∷ []) rest

-- the declaration under its new full name
abbrev pub renamed_symbol : Renaming → Symbol → Symbol
renamed_symbol e s = record { name = ren e s.name; kind = s.kind; file = s.file }

-- a reference with this hit, rewritten
abbrev pub renamed_at : Renaming → Reference → Option ℕ → Reference
renamed_at e r h = record {
  file = r.file;
  scope = ren e r.scope;
  is_absolute = r.is_absolute;
  wants = r.wants;
  words = rewritten e (front_at r h) r.words;
}

-- the reference, rewritten by its hit before the rename
abbrev pub renamed_reference : Renaming → Workspace → Reference → Reference
renamed_reference e w r = renamed_at e r (hit w r)

-- the workspace after the rename: names are mapped and references rewritten; imports stay
abbrev pub renamed : Renaming → Workspace → Workspace
renamed e w = record {
  files = w.files;
  symbols = map (renamed_symbol e) w.symbols;
  imports = w.imports;
  references = map (renamed_reference e w) w.references;
}

-- the new name of a symbol in the domain is that of a symbol outside it
abbrev pub Collides : Renaming → Workspace → Type 0
Collides e w =
    (s t : Symbol) × Contains w.symbols s × Contains w.symbols t
    × (in_domain e s.name ≡ true) × (in_domain e t.name ≡ false) × (ren e s.name ≡ t.name)

-- from file f a symbol is visible whose new name is this and whose kind passes the test
abbrev pub shows_mapped : Renaming → Workspace → ℕ → (Kind → Bool) → Name → Bool
shows_mapped e w f good x =
    list_any (λ s. same_name (ren e s.name) x && (good s.kind && sees w f s.file)) w.symbols

-- the rewritten reference has a hit at a scope deeper than its hit now
abbrev pub IsCaptured : Renaming → Workspace → Reference → Type 0
IsCaptured e w r =
    (k j : ℕ) × (hit w r ≡ Some k) × (k < j) × (j ≤ length r.scope)
    × (shows_mapped e w r.file (fits_at_first r.wants r.words)
    (ren e (take j r.scope) ++ take 1 (rewritten e (take k r.scope) r.words))
    ≡ true)

-- the full name of the renamed map field's entry, as it is right below this parent
abbrev pub is_entry_by : Name → Option (Word × Word) → Name → Bool
is_entry_by parent None x = false
is_entry_by parent (Some p) x = same_name x (parent ++ p.0 ∷ [])

-- the full name, before the rename, of the renamed map field's entry
abbrev pub is_entry : Renaming → Name → Bool
is_entry e x = is_entry_by e.parent e.entry x

-- no front of the name, and not all of it, is that entry
abbrev pub IsClear : Renaming → Name → Type 0
IsClear e m = (front back : Name) → front ++ back ≡ m → is_entry e front ≡ false

-- the same workspace with these imports instead of its own
abbrev pub with_imports : Workspace → List Import → Workspace
with_imports w imports = record w { imports = imports }

-- an import, not a public one, of the second file by the first
abbrev pub import_of : ℕ → ℕ → Import
import_of file path = record { from = file; to = path; is_public = false }

-- the imports of the workspace, all kept, and none besides but this one, wherever it stands
pub record IsAddition (w : Workspace) (imports : List Import) (file path : ℕ) : Type 0 where
  pub kept : (i : Import) → Contains w.imports i → Contains imports i
  pub only : (i : Import) → Contains imports i
      → Contains w.imports i ⊎ (import_of file path ≡ i)

-- the reference hits in the second workspace at a deeper scope than in the first
abbrev pub IsOvertaken : Workspace → Workspace → Reference → Type 0
IsOvertaken w v r =
    (k j : ℕ) × (hit w r ≡ Some k) × (k < j) × (j ≤ length r.scope) × (hits_at v r j ≡ true)

-- what the reference means is in a file that isn't seen from there in the second workspace
abbrev pub IsNeeded : Workspace → Workspace → Reference → Type 0
IsNeeded w v r =
    (s : Symbol) × Contains w.symbols s
    × (meaning w r ≡ Some s.name) × (sees v r.file s.file ≡ false)

-- without the field, its entry, and what is in that; the references are those of what is left
abbrev pub deleted : Renaming → Workspace → List Reference → Workspace
deleted e w references = record {
  files = w.files;
  symbols = filter (λ s. not (in_domain e s.name)) w.symbols;
  imports = w.imports;
  references = references;
}

-- some number above k and up to the bound passes
abbrev pub any_above : (ℕ → Bool) → ℕ → ℕ → Bool
any_above t k zero = false
any_above t k (suc n) = (nat_lt k (suc n) && t (suc n)) || any_above t k n

-- the reference with this hit is captured, as a test; without a hit it never is
abbrev pub captured_from : Renaming → Workspace → Reference → Option ℕ → Bool
captured_from e w r None = false
captured_from e w r (Some k) =
    any_above
    (λ j. shows_mapped e w r.file (fits_at_first r.wants r.words)
    (ren e (take j r.scope) ++ take 1 (rewritten e (take k r.scope) r.words)))
    k (length r.scope)

-- `IsCaptured` as a test
abbrev pub is_captured : Renaming → Workspace → Reference → Bool
is_captured e w r = captured_from e w r (hit w r)

-- the symbol is in the domain, and its new name is that of a symbol outside it
abbrev pub collides_with : Renaming → Workspace → Symbol → Bool
collides_with e w s =
    in_domain e s.name
    && list_any (λ t. not (in_domain e t.name) && same_name (ren e s.name) t.name) w.symbols

-- `Collides` as a test
abbrev pub collides : Renaming → Workspace → Bool
collides e w = list_any (collides_with e w) w.symbols
