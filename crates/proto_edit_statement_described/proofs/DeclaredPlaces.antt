-- Each declaration has a token, so it keeps its place where tokens are moved (for the crates above).
use Rattle.std.proofs.Common.{◌≡◌, ℕ, ◌+◌, List, [], ◌∷◌, ◌++◌, map, refl, subst, inl, inr, arith, Contains}
use Rattle.proto_base.proofs.Lists.{contains_cases}
use Rattle.proto_files.specs.FilesRead.{ReadOf, read_at}
use Rattle.proto_names_rules.specs.declared.kind.Kind.{Kind}
use Rattle.proto_names_rules.specs.declared.kind.Kind.TheVariants.{Extension, Field, Method, Value}
use Rattle.proto_names_rules.proofs.Common.{place_from, place_of, At, all_declared, at, Declared, EntryOf, Given, Source, Token, shifted_declared, shifted_source, Items, Member, Members, Placed, all_placed, enum, extend, field, file_placed, item, items_placed, key_word, map_field, member, message, no_items, no_members, oneof, package_of, packaged, place, placed, prefixes, service, value_word}
use Rattle.proto_names_outline.specs.FromTree.{items_in}
use Rattle.proto_names_imports.specs.Links.{names_in}
use Rattle.proto_edit_statement_laws.proofs.Declarations.{declared_by}

-- ---- paths with a token

abbrev pub HasToken : {X : Type 0} → List (Source X) → Type 0
HasToken [] = ⊥
HasToken (Token t ∷ rest) = Unit {0}
HasToken (EntryOf t ∷ rest) = Unit {0}
HasToken (Given w ∷ rest) = HasToken rest

has_behind : (a b : List (Source ℕ)) → HasToken b → HasToken (a ++ b)
has_behind [] b h = h
has_behind (Token t ∷ a) b h = tt
has_behind (EntryOf t ∷ a) b h = tt
has_behind (Given w ∷ a) b h = has_behind a b h

has_before : (a b : List (Source ℕ)) → HasToken a → HasToken (a ++ b)
has_before [] b h = absurd h
has_before (Token t ∷ a) b h = tt
has_before (EntryOf t ∷ a) b h = tt
has_before (Given w ∷ a) b h = has_before a b h

has_shifted : {Y : Type 0} (f : ℕ → Y) (path : List (Source ℕ)) → HasToken path → HasToken (map (shifted_source f) path)
has_shifted f [] h = absurd h
has_shifted f (Token t ∷ rest) h = tt
has_shifted f (EntryOf t ∷ rest) h = tt
has_shifted f (Given w ∷ rest) h = has_shifted f rest h

-- ---- all that a file declares

abbrev AllHave : List Placed → Type 0
AllHave [] = Unit {0}
AllHave (p ∷ ps) = HasToken (p.above ++ p.last ∷ []) × AllHave ps

have_append : (ps qs : List Placed) → AllHave ps → AllHave qs → AllHave (ps ++ qs)
have_append [] qs h k = k
have_append (p ∷ ps) qs h k = (h.0, have_append ps qs h.1 k)

have_token : (path : List (Source ℕ)) (t : ℕ) → HasToken (path ++ Token t ∷ [])
have_token path t = has_behind path (Token t ∷ []) tt

have_tokens : (path : List (Source ℕ)) (kind : Kind) (ts : List ℕ) → AllHave (map (λ i. place path (Token i) kind) ts)
have_tokens path kind [] = tt
have_tokens path kind (t ∷ ts) = (have_token path t, have_tokens path kind ts)

have_given : (path : List (Source ℕ)) (t : ℕ) (word : List ℕ) → HasToken ((path ++ EntryOf t ∷ []) ++ Given word ∷ [])
have_given path t word = has_before (path ++ EntryOf t ∷ []) (Given word ∷ []) (has_behind path (EntryOf t ∷ []) tt)

mutual
  have_of : (m : Member) (path : List (Source ℕ)) → AllHave (placed path m)
  have_of (field t) path = (have_token path t, tt)
  have_of (map_field t) path = (have_token path t, (has_behind path (EntryOf t ∷ []) tt, (have_given path t key_word, (have_given path t value_word, tt))))
  have_of (oneof t fs) path = (have_token path t, have_tokens path Field fs)
  have_of (message t ms) path = (have_token path t, have_in ms (path ++ Token t ∷ []))
  have_of (enum t vs) path = (have_token path t, have_tokens path Value vs)
  have_of (service t ms) path = (have_token path t, have_tokens (path ++ Token t ∷ []) Method ms)
  have_of (extend ts) path = have_tokens path Extension ts

  have_in : (ms : Members) (path : List (Source ℕ)) → AllHave (all_placed path ms)
  have_in no_members path = tt
  have_in (member m ms) path = have_append (placed path m) (all_placed path ms) (have_of m path) (have_in ms path)

have_prefixes : (path : List (Source ℕ)) (ts : List ℕ) → AllHave (prefixes path ts)
have_prefixes path [] = tt
have_prefixes path (t ∷ ts) = (have_token path t, have_prefixes (path ++ Token t ∷ []) ts)

have_items : (path : List (Source ℕ)) (is : Items) → AllHave (items_placed path is)
have_items path no_items = tt
have_items path (packaged ts rest) = have_append (prefixes [] ts) (items_placed path rest) (have_prefixes [] ts) (have_items path rest)
have_items path (item m rest) = have_append (placed path m) (items_placed path rest) (have_of m path) (have_items path rest)

have_at : (ps : List Placed) → AllHave ps → (p : Placed) → Contains ps p → HasToken (p.above ++ p.last ∷ [])
have_at [] h p c = absurd (omega (arith, c.1))
have_at (q ∷ ps) h p c = elim (contains_cases q p ps c) [ inl e ↦ subst (λ (z : Placed). HasToken (z.above ++ z.last ∷ [])) e h.0 | inr d ↦ have_at ps h.1 p d ]

placed_have : (is : Items) (p : Placed) → Contains (file_placed is) p → HasToken (p.above ++ p.last ∷ [])
placed_have is p c = have_at (file_placed is) (have_items (map (λ t. Token t) (package_of is)) is) p c

pub declared_have : (n : ℕ) (rs : List ReadOf) (d : Declared At) → Contains (all_declared n (map names_in rs)) d → HasToken d.path
declared_have n rs d c =
    let o = declared_by n rs d c in
    subst (λ (z : Declared At). HasToken z.path) o.is (has_shifted (at (n + o.k)) (o.p.above ++ o.p.last ∷ []) (placed_have (items_in (read_at rs o.k).tree) o.p o.within))

-- ---- their places

place_shifted : (f : At → At) (x : At) (path : List (Source At)) → place_from (f x) (map (shifted_source f) path) ≡ f (place_from x path)
place_shifted f x [] = refl
place_shifted f x (Token t ∷ rest) = place_shifted f t rest
place_shifted f x (EntryOf t ∷ rest) = place_shifted f t rest
place_shifted f x (Given w ∷ rest) = place_shifted f x rest

-- wherever it begins
place_anywhere : (f : At → At) (x y : At) (path : List (Source At)) → HasToken path → place_from y (map (shifted_source f) path) ≡ f (place_from x path)
place_anywhere f x y [] h = absurd h
place_anywhere f x y (Token t ∷ rest) h = place_shifted f t rest
place_anywhere f x y (EntryOf t ∷ rest) h = place_shifted f t rest
place_anywhere f x y (Given w ∷ rest) h = place_anywhere f x y rest h

pub place_moved : (f : At → At) (n : ℕ) (rs : List ReadOf) (d : Declared At) → Contains (all_declared n (map names_in rs)) d → place_of (shifted_declared f d) ≡ f (place_of d)
place_moved f n rs d c = place_anywhere f (at d.file 0) (at d.file 0) d.path (declared_have n rs d c)
