-- The names of a workspace as its tokens spell them: an edit of words changes the spelling alone.
-- A token is of any type `X`: its index in one file, or its file and index among many.
use Rattle.std.specs.Prelude.{◌⊎◌, ◌≡◌, ◌≢◌, ℕ, Bool, true, false, if◌then◌else◌, List, [], ◌∷◌, ◌++◌, map, Some, None}
use Rattle.std.specs.List.{Contains}
use Rattle.proto_names_rules.specs.Names.{Kind, Package, Entry, Symbol, Import, Reference, Wants, Workspace, Word, Name, meaning, hit, front_at}
use Rattle.proto_names_rules.specs.Edits.{Renaming, rewritten}
use Rattle.proto_base.specs.Texts.{Text}

-- where a word comes from: it is a token's text, the entry name made of it, or given
pub data Source (X : Type 0) : Type 0 where
  Token : (token : X) → Source X
  EntryOf : (token : X) → Source X
  Given : (word : Word) → Source X

-- a declaration, by the sources of its full name
pub record Declared (X : Type 0) : Type 0 where
  pub path : List (Source X)
  pub kind : Kind
  pub file : ℕ

-- a reference: its first token, which is the dot of an absolute one, and those of its words
pub record Used (X : Type 0) : Type 0 where
  pub file : ℕ
  pub scope : List (Source X)
  pub is_absolute : Bool
  pub wants : Wants
  pub first : X
  pub tokens : List X

-- a workspace by its tokens: the number of files, and what they declare, import and refer to
pub record Skeleton (X : Type 0) : Type 0 where
  pub files : ℕ
  pub declared : List (Declared X)
  pub imports : List Import
  pub used : List (Used X)

-- the word that a source spells, by the texts of tokens and the entry name of a field's word
abbrev pub spell : {X : Type 0} → (X → Text) → (Word → Word) → Source X → Word
spell text entry (Token i) = text i
spell text entry (EntryOf i) = entry (text i)
spell text entry (Given w) = w

-- the full name that a path of sources spells
abbrev pub name_of : {X : Type 0} → (X → Text) → (Word → Word) → List (Source X) → Name
name_of text entry path = map (spell text entry) path

-- the symbol that a declaration spells
abbrev pub symbol_of : {X : Type 0} → (X → Text) → (Word → Word) → Declared X → Symbol
symbol_of text entry d =
    record { name = name_of text entry d.path; kind = d.kind; file = d.file }

-- the reference that its scope and the tokens of its words spell
abbrev pub reference_of : {X : Type 0} → (X → Text) → (Word → Word) → Used X → Reference
reference_of text entry u = record {
  file = u.file;
  scope = name_of text entry u.scope;
  is_absolute = u.is_absolute;
  wants = u.wants;
  words = map text u.tokens;
}

-- the workspace that the tokens spell
abbrev pub workspace_of : {X : Type 0} → (X → Text) → (Word → Word) → Skeleton X → Workspace
workspace_of text entry k = record {
  files = k.files;
  symbols = map (symbol_of text entry) k.declared;
  imports = k.imports;
  references = map (reference_of text entry) k.used;
}

-- what trees give: fronts of declared names and scopes are declared, and a token declares one
-- symbol, and perhaps the entry beside it
pub record IsWoven {X : Type 0} (k : Skeleton X) : Type 0 where
  pub fronts : (s : Declared X) → Contains k.declared s
      → (a : List (Source X)) (x : Source X) → s.path ≡ a ++ x ∷ [] → a ≢ []
      → (u : Declared X) × Contains k.declared u × (u.path ≡ a)
  pub tokens : (s t : Declared X) → Contains k.declared s → Contains k.declared t
      → (a b : List (Source X)) (d : X) → s.path ≡ a ++ Token d ∷ []
      → t.path ≡ b ++ Token d ∷ [] → a ≡ b
  pub entries : (s t : Declared X) → Contains k.declared s → Contains k.declared t
      → (a b : List (Source X)) (d : X) → s.path ≡ a ++ EntryOf d ∷ []
      → t.path ≡ b ++ Token d ∷ [] → a ≡ b
  pub scopes : (u : Used X) → Contains k.used u → u.scope ≢ []
      → (s : Declared X) × Contains k.declared s × (s.path ≡ u.scope)

-- the symbol that the token declares right below a path, and that is no package and no entry
pub record IsAim {X : Type 0} (k : Skeleton X) (token : X) (above : List (Source X))
    (aim : Declared X) : Type 0 where
  pub within : Contains k.declared aim
  pub path : aim.path ≡ above ++ Token token ∷ []
  pub no_package : aim.kind ≢ Package
  pub no_entry : aim.kind ≢ Entry

-- whether an entry made of the token is declared beside that symbol, as a map field's is
abbrev pub IsAimEntry : {X : Type 0} → Skeleton X → X → List (Source X) → Bool → Type 0
IsAimEntry {X} k token above true =
    (s : Declared X) × Contains k.declared s
    × (s.path ≡ above ++ EntryOf token ∷ []) × (s.kind ≡ Entry)
IsAimEntry {X} k token above false =
    (s : Declared X) → Contains k.declared s → s.path ≢ above ++ EntryOf token ∷ []

-- the rename of what the token declares below a path to this word; a map field's entry goes along
abbrev pub renaming_of : {X : Type 0} → (X → Text) → (Word → Word)
    → X → List (Source X) → Bool → Word → Renaming
renaming_of text entry token above is_map to = record {
  parent = name_of text entry above;
  old = text token;
  new = to;
  entry = if is_map then Some (entry (text token), entry to) else None;
}

-- the spelling after the edit: the declaring token has the new word, the other tokens that declare
-- something stay, and the words of each reference are rewritten
pub record IsRespelled {X : Type 0} (text text_after : X → Text) (entry : Word → Word)
    (k : Skeleton X) (token : X) (e : Renaming) : Type 0 where
  pub aim : text_after token ≡ e.new
  pub others : (s : Declared X) → Contains k.declared s
      → (a : List (Source X)) (i : X) → (s.path ≡ a ++ Token i ∷ [])
      → (i ≡ token) ⊎ ((i ≢ token) × (text_after i ≡ text i))
  pub other_entries : (s : Declared X) → Contains k.declared s
      → (a : List (Source X)) (i : X) → (s.path ≡ a ++ EntryOf i ∷ [])
      → (i ≡ token) ⊎ ((i ≢ token) × (text_after i ≡ text i))
  pub words : (u : Used X) → Contains k.used u → map text_after u.tokens
      ≡ rewritten e
      (front_at (reference_of text entry u)
      (hit (workspace_of text entry k) (reference_of text entry u)))
      (map text u.tokens)

-- the reference means the declaration, as the words are spelled
abbrev pub MeansDeclaration : {X : Type 0} → (X → Text) → (Word → Word)
    → Skeleton X → Used X → Declared X → Type 0
MeansDeclaration text entry k u d =
    meaning (workspace_of text entry k) (reference_of text entry u)
    ≡ Some (name_of text entry d.path)

-- the same with its tokens numbered anew, as where tokens come in before them
abbrev pub shifted_source : {X Y : Type 0} → (X → Y) → Source X → Source Y
shifted_source f (Token i) = Token (f i)
shifted_source f (EntryOf i) = EntryOf (f i)
shifted_source f (Given w) = Given w

-- a declaration with its tokens numbered anew
abbrev pub shifted_declared : {X Y : Type 0} → (X → Y) → Declared X → Declared Y
shifted_declared f d = record { path = map (shifted_source f) d.path; kind = d.kind; file = d.file }

-- a reference with its tokens numbered anew
abbrev pub shifted_used : {X Y : Type 0} → (X → Y) → Used X → Used Y
shifted_used f u = record {
  file = u.file;
  scope = map (shifted_source f) u.scope;
  is_absolute = u.is_absolute;
  wants = u.wants;
  first = f u.first;
  tokens = map f u.tokens;
}

-- a workspace with its tokens numbered anew, and with these imports instead of its own
abbrev pub shifted : {X Y : Type 0} → (X → Y) → List Import → Skeleton X → Skeleton Y
shifted f imports k = record {
  files = k.files;
  declared = map (shifted_declared f) k.declared;
  imports = imports;
  used = map (shifted_used f) k.used;
}
