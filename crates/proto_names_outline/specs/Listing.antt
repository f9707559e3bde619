-- What the lists of one file say: its imports, its declarations and its references.
use Rattle.std.specs.Prelude.{◌≡◌, ℕ, ◌+◌, ◌<◌, ◌≤◌, List, [], ◌∷◌, ◌++◌, length, get_or, map, Option, Some, None}
use Rattle.std.specs.List.{All}
use Rattle.proto_names_outline.specs.FromTree.{Wanted, used_as}
use Rattle.proto_case.specs.Camel.{entry_name}
use Rattle.proto_names_rules.specs.Grown.{At, used_in}
use Rattle.proto_names_rules.specs.Names.{Reference}
use Rattle.proto_names_rules.specs.Skeleton.{Source, Token, EntryOf, Given, Used, reference_of}
use Rattle.proto_names_rules.specs.Tree.{Placed, place, placed, prefixes, key_word, value_word, Items, no_items, packaged, item, package_of, token_of}
use Rattle.proto_names_outline.specs.declared.listing.Above.{Above}
use Rattle.proto_names_outline.specs.declared.listing.Above.TheVariants.{Outermost, Below}
use Rattle.proto_names_outline.specs.declared.listing.LastWord.{LastWord}
use Rattle.proto_names_outline.specs.declared.listing.LastWord.TheVariants.{Text, EntryName, Key, Value}
use Rattle.proto_names_outline.specs.declared.listing.Listed.{Listed}
use Rattle.proto_names_outline.specs.declared.listing.Use.{Use}
use Rattle.proto_names_outline.specs.declared.listing.Listing.{Listing}
use Rattle.proto_names_outline.specs.declared.wanted.Wanted.{Wanted as WantedAt}

-- an import as listed: the token of its path, and whether it is public or weak
abbrev pub wanted_of : WantedAt → Wanted
wanted_of w = record { path = w.path; is_public = w.is_public; is_weak = w.is_weak }

-- the import as a list, if there is one
abbrev pub wanted_if : Option WantedAt → List Wanted
wanted_if None = []
wanted_if (Some w) = wanted_of w ∷ []

-- ---- declarations

-- the last word of a path: a token's text, the entry's name made of it, or `key` or `value`
abbrev pub source_of : LastWord → ℕ → Source ℕ
source_of Text t = Token t
source_of EntryName t = EntryOf t
source_of Key t = Given key_word
source_of Value t = Given value_word

-- the whole path of a declaration, its own word last
abbrev pub whole : Placed → List (Source ℕ)
whole p = p.above ++ p.last ∷ []

-- the first one, where there is one
abbrev pub later : Option ℕ → Option ℕ → Option ℕ
later (Some t) o = Some t
later None o = o

-- the last token on a path
abbrev pub last_token : List (Source ℕ) → Option ℕ
last_token [] = None
last_token (s ∷ rest) = later (last_token rest) (token_of s)

-- the path of the declaration with this index
abbrev pub path_of : List Placed → ℕ → List (Source ℕ)
path_of declared k = get_or (map whole declared) k []

-- the path of what stands right above: none for what is outermost
abbrev pub path_at : List Placed → Above → List (Source ℕ)
path_at declared Outermost = []
path_at declared (Below k) = path_of declared k

-- an entry as a declaration below this path
abbrev pub seen : List (Source ℕ) → Listed → Placed
seen path e = place path (source_of e.word e.token) e.kind

-- the entries as declarations, each below one of those before it
abbrev pub read_on : List Placed → List Listed → List Placed
read_on before [] = before
read_on before (e ∷ es) = read_on (before ++ seen (path_at before e.above) e ∷ []) es

-- all the entries as declarations
abbrev pub read : List Listed → List Placed
read es = read_on [] es

-- how many entries there are before one that stands here
abbrev pub needs : Above → ℕ
needs Outermost = 0
needs (Below k) = k + 1

-- what a file declares below its package
abbrev pub items_below : List (Source ℕ) → Items → List Placed
items_below path no_items = []
items_below path (packaged ts rest) = items_below path rest
items_below path (item m rest) = placed path m ++ items_below path rest

-- what a file declares, its package first
abbrev pub package_first : Items → List Placed
package_first items =
    prefixes [] (package_of items)
    ++ items_below (map (λ t. Token t) (package_of items)) items

-- ---- references

-- a use as listed: its scope is the path of what stands right above it
abbrev pub used_by : List Placed → Use → Used ℕ
used_by declared u = used_as (path_at declared u.scope) u.wants u.reference.now

-- the references of a file as its lists say them
abbrev pub uses_in : Listing → List (Used ℕ)
uses_in l = map (used_by (read l.declared.items)) l.used.items

-- each entry stands behind the one right above it, its token is the last of its path, and each
-- reference stands below an entry or below nothing
pub record IsSound (l : Listing) : Type 0 where
  pub ordered : (k : ℕ) (d : Listed) → k < length l.declared.items
      → needs (get_or l.declared.items k d).above ≤ k
  pub tokens : map (λ e. Some e.token) l.declared.items
      ≡ map (λ p. last_token (whole p)) (read l.declared.items)
  pub scopes : All (λ u. needs u.scope ≤ length l.declared.items) l.used.items

-- the new entries and references are these, below the path
pub record Adds (old new : Listing) (above : Above)
    (placed : List (Source ℕ) → List Placed) (uses : List (Source ℕ) → List (Used ℕ)) : Type 0 where
  pub grown : length old.declared.items ≤ length new.declared.items
  pub sound : IsSound old → IsSound new
  pub declared : read new.declared.items
      ≡ read old.declared.items ++ placed (path_at (read old.declared.items) above)
  pub used : IsSound old → uses_in new
      ≡ uses_in old ++ uses (path_at (read old.declared.items) above)

-- a reference of a file by its words
abbrev pub used_named : (At → List ℕ) → ℕ → Used ℕ → Reference
used_named text file u = reference_of text entry_name (used_in file u)
