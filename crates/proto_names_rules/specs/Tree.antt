-- What a tree declares, by the indices of its tokens: each symbol of the language beside or below
-- the others.
use Rattle.std.specs.Prelude.{◌≡◌, ℕ, ◌+◌, ◌<◌, ◌≤◌, List, [], ◌∷◌, ◌++◌, map, codes, Option, Some, None}
use Rattle.std.specs.List.{All}
use Rattle.proto_names_rules.specs.Names.{Kind, Package, Message, Entry, Enum, Service, Field, EntryField, Oneof, Value, Method, Extension}
use Rattle.proto_names_rules.specs.Skeleton.{Source, Token, EntryOf, Given}
use Rattle.proto_base.specs.Texts.{Text}

-- the declarations of a tree, by the tokens of their names
mutual
  -- a oneof has its fields, a message its members, an enum its values, a service its methods, and an
  -- `extend`, which has no name itself, its fields
  pub data Member : Type 0 where
    field : (token : ℕ) → Member
    map_field : (token : ℕ) → Member
    oneof : (token : ℕ) → List ℕ → Member
    message : (token : ℕ) → Members → Member
    enum : (token : ℕ) → List ℕ → Member
    service : (token : ℕ) → List ℕ → Member
    extend : List ℕ → Member

  -- the declarations right in a message, or in a file, in order
  pub data Members : Type 0 where
    no_members : Members
    member : Member → Members → Members

-- a file's declarations, and its package by the tokens of its words
pub data Items : Type 0 where
  no_items : Items
  packaged : List ℕ → Items → Items
  item : Member → Items → Items

-- a declaration: the path above it, and its own word
pub record Placed : Type 0 where
  pub above : List (Source ℕ)
  pub last : Source ℕ
  pub kind : Kind

-- the declaration of this kind with this word right below the path
abbrev pub place : List (Source ℕ) → Source ℕ → Kind → Placed
place above last kind = record { above = above; last = last; kind = kind }

-- `key`, the name of the first field of a map field's entry
abbrev pub key_word : Text
key_word = codes "key"

-- `value`, the name of its second field
abbrev pub value_word : Text
value_word = codes "value"

-- one symbol, and others beside it: the values of an enum, the fields of a oneof
abbrev pub beside : List (Source ℕ) → ℕ → Kind → Kind → List ℕ → List Placed
beside path t outer inner ts =
    place path (Token t) outer ∷ map (λ i. place path (Token i) inner) ts

-- what is declared below a path
abbrev mutual
  -- by one declaration: itself, all that is in it, and of a map field its entry with two fields
  pub placed : List (Source ℕ) → Member → List Placed
  placed path (field t) = place path (Token t) Field ∷ []
  placed path (map_field t) =
      place path (Token t) Field
      ∷ place path (EntryOf t) Entry
      ∷ place (path ++ EntryOf t ∷ []) (Given key_word) EntryField
      ∷ place (path ++ EntryOf t ∷ []) (Given value_word) EntryField
      ∷ []
  placed path (oneof t fs) = beside path t Oneof Field fs
  placed path (message t ms) =
      place path (Token t) Message ∷ all_placed (path ++ Token t ∷ []) ms
  placed path (enum t vs) = beside path t Enum Value vs
  placed path (service t ms) =
      place path (Token t) Service
      ∷ map (λ i. place (path ++ Token t ∷ []) (Token i) Method) ms
  placed path (extend ts) = map (λ i. place path (Token i) Extension) ts

  -- by declarations, in order
  pub all_placed : List (Source ℕ) → Members → List Placed
  all_placed path no_members = []
  all_placed path (member m ms) = placed path m ++ all_placed path ms

-- a package and its prefixes, below a path
abbrev pub prefixes : List (Source ℕ) → List ℕ → List Placed
prefixes path [] = []
prefixes path (t ∷ ts) = place path (Token t) Package ∷ prefixes (path ++ Token t ∷ []) ts

-- the tokens of the package's words (there is one package at most)
abbrev pub package_of : Items → List ℕ
package_of no_items = []
package_of (packaged ts rest) = ts
package_of (item m rest) = package_of rest

-- what items declare: the package and its prefixes outermost, and all else below the path
abbrev pub items_placed : List (Source ℕ) → Items → List Placed
items_placed path no_items = []
items_placed path (packaged ts rest) = prefixes [] ts ++ items_placed path rest
items_placed path (item m rest) = placed path m ++ items_placed path rest

-- what a file declares, below its package
abbrev pub file_placed : Items → List Placed
file_placed items = items_placed (map (λ t. Token t) (package_of items)) items

-- the tokens of a tree that was read from the tokens lo to hi
abbrev mutual
  -- a declaration's own token comes before those of what is in it, and all are from lo on below hi
  pub Spans : ℕ → ℕ → Member → Type 0
  Spans lo hi (field t) = (lo ≤ t) × (t < hi)
  Spans lo hi (map_field t) = (lo ≤ t) × (t < hi)
  Spans lo hi (oneof t fs) = (lo ≤ t) × (t < hi) × All (λ i. (t < i) × (i < hi)) fs
  Spans lo hi (message t ms) = (lo ≤ t) × AllSpan (t + 1) hi ms
  Spans lo hi (enum t vs) = (lo ≤ t) × (t < hi) × All (λ v. (t < v) × (v < hi)) vs
  Spans lo hi (service t ms) = (lo ≤ t) × (t < hi) × All (λ i. (t < i) × (i < hi)) ms
  Spans lo hi (extend ts) = All (λ i. (lo ≤ i) × (i < hi)) ts

  -- of declarations in order, each ends before the next begins
  pub AllSpan : ℕ → ℕ → Members → Type 0
  AllSpan lo hi no_members = lo ≤ hi
  AllSpan lo hi (member m ms) =
      (mid : ℕ) × (mid ≤ hi) × (lo ≤ mid) × Spans lo mid m × AllSpan mid hi ms

-- the tokens are in rising order, from lo on below hi
abbrev pub Rises : ℕ → ℕ → List ℕ → Type 0
Rises lo hi [] = lo ≤ hi
Rises lo hi (t ∷ ts) = (lo ≤ t) × (t < hi) × Rises (t + 1) hi ts

-- the same of a file's declarations, which have one package at most
abbrev pub ItemsSpan : ℕ → ℕ → Items → Type 0
ItemsSpan lo hi no_items = lo ≤ hi
ItemsSpan lo hi (packaged ts rest) =
    (mid : ℕ) × (mid ≤ hi) × Rises lo mid ts × ItemsSpan mid hi rest × (package_of rest ≡ [])
ItemsSpan lo hi (item m rest) =
    (mid : ℕ) × (mid ≤ hi) × (lo ≤ mid) × Spans lo mid m × ItemsSpan mid hi rest

-- the token that a word comes from; none of a given word
abbrev pub token_of : Source ℕ → Option ℕ
token_of (Token t) = Some t
token_of (EntryOf t) = Some t
token_of (Given w) = None
