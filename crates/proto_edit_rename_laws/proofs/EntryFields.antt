-- An entry stands beside its field, and what an entry holds is named by the token of that field.
use Rattle.std.proofs.Common.{◌≡◌, ℕ, List, [], ◌∷◌, ◌++◌, map, refl, arith, Contains}
use Rattle.proto_base.proofs.Common.{AllByRecursion, All-contains, All-from_recursion, Contains-append_left, Contains-append_right, contains_later}
use Rattle.proto_names_rules.specs.declared.kind.Kind.{Kind}
use Rattle.proto_names_rules.specs.declared.kind.Kind.TheVariants.{Message, Field, Value, Method, Extension}
use Rattle.proto_names_rules.proofs.Common.{Source, Token, EntryOf, Given, Member, field, map_field, oneof, message, enum, service, extend, Members, no_members, member, Items, no_items, packaged, item, package_of, Placed, place, placed, all_placed, prefixes, items_placed, file_placed}

-- where the name ends with no token, the field that it is of
abbrev pub HasField : List Placed → List (Source ℕ) → Source ℕ → Type 0
HasField declared above (Token t) = Unit {0}
HasField declared above (EntryOf t) = Contains declared (place above (Token t) Field)
HasField declared above (Given w) = (path : List (Source ℕ)) × (t : ℕ) × (above ≡ path ++ EntryOf t ∷ []) × Contains declared (place path (Token t) Field)

module _ (declared : List Placed) where
  abbrev Inside : List Placed → Type 0
  Inside ps = (p : Placed) → Contains ps p → Contains declared p

  abbrev Has : Placed → Type 0
  Has p = HasField declared p.above p.last

  abbrev Have : List Placed → Type 0
  Have ps = AllByRecursion Has ps

  have_append : (ps qs : List Placed) → Have ps → Have qs → Have (ps ++ qs)
  have_append [] qs h k = k
  have_append (p ∷ ps) qs h k = (h.0, have_append ps qs h.1 k)

  have_tokens : (path : List (Source ℕ)) (kind : Kind) (ts : List ℕ) → Have (map (λ i. place path (Token i) kind) ts)
  have_tokens path kind [] = tt
  have_tokens path kind (t ∷ ts) = (tt, have_tokens path kind ts)

  fore : (ps qs : List Placed) → Inside (ps ++ qs) → Inside ps
  fore ps qs i p c = i p (Contains-append_left ps qs p c)

  aft : (ps qs : List Placed) → Inside (ps ++ qs) → Inside qs
  aft ps qs i p c = i p (Contains-append_right ps qs p c)

  mutual
    have_of : (m : Member) (path : List (Source ℕ)) → Inside (placed path m) → Have (placed path m)
    have_of (field t) path i = (tt, tt)
    have_of (map_field t) path i =
        let here = i (place path (Token t) Field) (0, omega arith, refl) in
        (tt, (here, ((path, t, refl, here), ((path, t, refl, here), tt))))
    have_of (oneof t fs) path i = (tt, have_tokens path Field fs)
    have_of (message t ms) path i = (tt, have_in ms (path ++ Token t ∷ []) (λ p c. i p (contains_later (place path (Token t) Message) p (all_placed (path ++ Token t ∷ []) ms) c)))
    have_of (enum t vs) path i = (tt, have_tokens path Value vs)
    have_of (service t ms) path i = (tt, have_tokens (path ++ Token t ∷ []) Method ms)
    have_of (extend ts) path i = have_tokens path Extension ts

    have_in : (ms : Members) (path : List (Source ℕ)) → Inside (all_placed path ms) → Have (all_placed path ms)
    have_in no_members path i = tt
    have_in (member m ms) path i = have_append (placed path m) (all_placed path ms) (have_of m path (fore (placed path m) (all_placed path ms) i)) (have_in ms path (aft (placed path m) (all_placed path ms) i))

  have_prefixes : (path : List (Source ℕ)) (ts : List ℕ) → Have (prefixes path ts)
  have_prefixes path [] = tt
  have_prefixes path (t ∷ ts) = (tt, have_prefixes (path ++ Token t ∷ []) ts)

  have_items : (is : Items) (path : List (Source ℕ)) → Inside (items_placed path is) → Have (items_placed path is)
  have_items no_items path i = tt
  have_items (packaged ts rest) path i = have_append (prefixes [] ts) (items_placed path rest) (have_prefixes [] ts) (have_items rest path (aft (prefixes [] ts) (items_placed path rest) i))
  have_items (item m rest) path i = have_append (placed path m) (items_placed path rest) (have_of m path (fore (placed path m) (items_placed path rest) i)) (have_items rest path (aft (placed path m) (items_placed path rest) i))

pub has_field : (is : Items) (p : Placed) → Contains (file_placed is) p → HasField (file_placed is) p.above p.last
has_field is p c =
    let all = have_items (file_placed is) is (map (λ t. Token t) (package_of is)) (λ q d. d) in
    All-contains (Has (file_placed is)) (file_placed is) p (All-from_recursion (Has (file_placed is)) (file_placed is) all) c
