-- What a tree that was read imports, declares and refers to stands at tokens that are there (for the crates above).
use Rattle.std.proofs.Common.{◌≡◌, ℕ, suc, ◌+◌, ◌<◌, ◌≤◌, List, [], ◌∷◌, ◌++◌, length, map, Option, Some, None, refl, ap, subst, ◌∙◌, arith, Contains}
use Rattle.proto_base.proofs.Common.{AllByRecursion, All-contains, All-from_recursion}
use Rattle.proto_text.specs.declared.lexer.Token.{Token as TextToken}
use Rattle.proto_text.proofs.Common.{lexeme_at, length_map}
use Rattle.proto_tree.specs.declared.class.Class.TheVariants as class
use Rattle.proto_tree.specs.declared.class.Expected.{Expected}
use Rattle.proto_tree.specs.declared.class.Expected.TheVariants as want
use Rattle.proto_tree.proofs.Common.{Mark, Numbered, Tree, flat, ReadsIn, trees_are_numbered_in}
use Rattle.proto_tree.proofs.MarkLaws.{fit_length_in}
use Rattle.proto_names_rules.proofs.Common.{Source, Token, EntryOf, Given, Used, Member, field, map_field, oneof, message, enum, service, extend, Members, no_members, member, Items, no_items, packaged, item, Placed, place, placed, all_placed, prefixes, items_placed, package_of, file_placed, key_word, value_word, place_from, rising_each}
use Rattle.proto_names_rules.specs.declared.kind.Kind.{Kind}
use Rattle.proto_names_outline.specs.Common.{Wanted, imports_in, items_in, file_names, whole, last_token, later}
use Rattle.proto_names_outline.proofs.Growing.{token_last, entry_last, given_last}
use Rattle.proto_names_outline.proofs.MarkedTokens.{Are, Known}
use Rattle.proto_names_outline.proofs.MarkedNames.{declared_worded}
use Rattle.proto_names_outline.proofs.MarkedUses.{Uses, items_rise, imports_rise, words_past}
use Rattle.proto_names_outline.proofs.PackageFirst.{same_declared}
use Rattle.proto_names_outline.proofs.ReadTrees.{tree_span}
use Rattle.proto_base.specs.declared.profile.Profile.{Profile}

-- ---- the token that a declaration stands at

abbrev pub or_at : ℕ → Option ℕ → ℕ
or_at x None = x
or_at x (Some t) = t

or_later : (x t : ℕ) (o : Option ℕ) → or_at t o ≡ or_at x (later o (Some t))
or_later x t None = refl
or_later x t (Some u) = refl

or_none : (x : ℕ) (o : Option ℕ) → or_at x o ≡ or_at x (later o None)
or_none x None = refl
or_none x (Some u) = refl

pub place_is : (x : ℕ) (path : List (Source ℕ)) → place_from x path ≡ or_at x (last_token path)
place_is x [] = refl
place_is x (Token t ∷ rest) = place_is t rest ∙ or_later x t (last_token rest)
place_is x (EntryOf t ∷ rest) = place_is t rest ∙ or_later x t (last_token rest)
place_is x (Given w ∷ rest) = place_is x rest ∙ or_none x (last_token rest)

-- a token stands on the path
abbrev HasLast : Placed → Type 0
HasLast p = (t : ℕ) × (last_token (whole p) ≡ Some t)

both : {X : Type 0} (P : X → Type 0) (xs ys : List X) → AllByRecursion P xs → AllByRecursion P ys → AllByRecursion P (xs ++ ys)
both P [] ys a b = b
both P (x ∷ xs) ys a b = (a.0, both P xs ys a.1 b)

tokens_last : (path : List (Source ℕ)) (kind : Kind) (ts : List ℕ) → AllByRecursion HasLast (map (λ i. place path (Token i) kind) ts)
tokens_last path kind [] = tt
tokens_last path kind (t ∷ ts) = ((t, token_last path t), tokens_last path kind ts)

mutual
  placed_last : (path : List (Source ℕ)) (m : Member) → AllByRecursion HasLast (placed path m)
  placed_last path (field t) = ((t, token_last path t), tt)
  placed_last path (map_field t) = (
    (t, token_last path t),
    ((t, entry_last path t), ((t, given_last (path ++ EntryOf t ∷ []) path t key_word refl), ((t, given_last (path ++ EntryOf t ∷ []) path t value_word refl), tt))),
  )
  placed_last path (oneof t fs) = ((t, token_last path t), tokens_last path _ fs)
  placed_last path (message t ms) = ((t, token_last path t), members_last (path ++ Token t ∷ []) ms)
  placed_last path (enum t vs) = ((t, token_last path t), tokens_last path _ vs)
  placed_last path (extend ts) = tokens_last path _ ts
  placed_last path (service t ms) = ((t, token_last path t), tokens_last (path ++ Token t ∷ []) _ ms)

  members_last : (path : List (Source ℕ)) (ms : Members) → AllByRecursion HasLast (all_placed path ms)
  members_last path no_members = tt
  members_last path (member m ms) = both HasLast (placed path m) (all_placed path ms) (placed_last path m) (members_last path ms)

prefixes_last : (path : List (Source ℕ)) (ts : List ℕ) → AllByRecursion HasLast (prefixes path ts)
prefixes_last path [] = tt
prefixes_last path (t ∷ ts) = ((t, token_last path t), prefixes_last (path ++ Token t ∷ []) ts)

items_last : (path : List (Source ℕ)) (is : Items) → AllByRecursion HasLast (items_placed path is)
items_last path no_items = tt
items_last path (packaged ts rest) = both HasLast (prefixes [] ts) (items_placed path rest) (prefixes_last [] ts) (items_last path rest)
items_last path (item m rest) = both HasLast (placed path m) (items_placed path rest) (placed_last path m) (items_last path rest)

has_last : (is : Items) (p : Placed) → Contains (file_placed is) p → HasLast p
has_last is p c = All-contains HasLast (file_placed is) p (All-from_recursion HasLast (file_placed is) (items_last (map (λ t. Token t) (package_of is)) is)) c

-- ---- a tree that was read

module _ (profile : Profile) (text : List ℕ) (tokens : List TextToken) (tree : Tree) (reads : ReadsIn profile text tokens tree) where
  abbrev Here : ℕ → Type 0
  Here i = i < length tokens

  known : (w : Expected) (i : ℕ) → Here i → Known Here Here Here w i
  known (want.One class.Name) i l = l
  known want.Word i l = l
  known want.Name i l = l
  known want.ValueName i l = l
  known want.Text i l = l
  known _ i l = tt

  as_long : length (flat tree) ≡ length tokens
  as_long = fit_length_in profile 0 (flat tree) (map (lexeme_at text) tokens) reads.spells.fits ∙ length_map (lexeme_at text) tokens

  are_marked : (n : ℕ) (ms : List Mark) → Numbered n ms → n + length ms ≤ length tokens → Are Here Here Here n ms
  are_marked n [] num le = tt
  are_marked n (m ∷ ms) num le =
      let e : suc n ≡ n + 1 = omega arith in
      (num.0, known m.want m.at (omega (arith, num.0, le)), subst (λ (k : ℕ). Are Here Here Here k ms) e (are_marked (suc n) ms num.1 (omega (arith, le))))

  are : Are Here Here Here 0 (flat tree)
  are = are_marked 0 (flat tree) (trees_are_numbered_in profile tree (map (lexeme_at text) tokens) reads.spells) (omega (arith, as_long))

  pub import_here : (w : Wanted) → Contains (imports_in tree) w → w.path < length tokens
  import_here = rising_each (λ w. w.path) (λ w. Here w.path) (imports_in tree) 0 (length (flat tree)) (imports_rise Here Here Here tree 0 (length (flat tree)) are (omega arith))

  first_below : (us : List (Used ℕ)) (lo hi : ℕ) → Uses Here Here Here lo hi us → AllByRecursion (λ u. u.first < hi) us
  first_below [] lo hi r = tt
  first_below (u ∷ us) lo hi r = let w = words_past Here Here Here u.tokens u.first r.0 r.4 r.3 in (omega (arith, w, r.2), first_below us r.0 hi r.6)

  pub use_here : (u : Used ℕ) → Contains (file_names tree).used u → u.first < length tokens
  use_here u c =
      let us = (file_names tree).used in
      let hi = length (flat tree) in
      let below = first_below us 0 hi (items_rise Here Here Here tree (map (λ t. Token t) (package_of (items_in tree))) 0 hi are (omega arith)) in
      omega (arith, as_long, All-contains (λ u. u.first < hi) us u (All-from_recursion (λ u. u.first < hi) us below) c)

  pub name_here : (p : Placed) → Contains (file_placed (items_in tree)) p → place_from 0 (whole p) < length tokens
  name_here p c =
      let span = tree_span profile text tokens tree reads in
      let last = has_last (items_in tree) p c in
      let at : place_from 0 (whole p) ≡ last.0 = place_is 0 (whole p) ∙ ap (or_at 0) last.1 in
      let here : last.0 < length tokens = declared_worded Here Here Here tree 0 are p ((same_declared (items_in tree) span.0 span.1 span.2 p).1 c) last.0 last.1 in
      omega (arith, at, here)
