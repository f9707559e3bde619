-- The faults of names are the same where each file's package comes first, and names alone say them (for the crates above).
use Rattle.std.proofs.Common.{◌≡◌, ◌≢◌, ◌↔◌, ℕ, suc, Bool, true, not, List, [], ◌∷◌, ◌++◌, map, refl, sym, ◌∙◌, ap, subst, inl, inr, Contains, filter}
use Rattle.proto_base.proofs.Common.{cases_Bool, contains_map, from_map}
use Rattle.proto_names_rules.specs.declared.kind.Kind.TheVariants.{Package}
use Rattle.proto_names_rules.proofs.Common.{Symbol, Source, Token, EntryOf, Given, Declared, name_of, symbol_of, shifted_source, shifted_declared, is_package, Placed, file_placed, FileNames, At, at, declared_of, file_declared, all_declared, Fault, fault, NameFault, place_from, place_of, Follows, follows_after, after_follows, follows_first, follows_second, follows_map, map_follows, follows_kept, kept_follows, package_from, package_or}
use Rattle.proto_case.specs.Camel.{entry_name}
use Rattle.proto_names_outline.specs.Listing.{package_first, whole}
use Rattle.proto_names_rules.specs.Faults as declared
use Rattle.proto_names_table.specs.Spelled as named
use Rattle.proto_names_table.specs.Spelled.{Named, ClashFault, symbol_named}
use Rattle.proto_names_table.specs.Naming.{AreSpans, named_as, tree_named}
use Rattle.proto_names_table.proofs.Gathered.{gathered, gathered_map, is_other, same_gathered, same_others}

-- ---- the declarations of the skeleton by their names

abbrev pub as_named : (At → List ℕ) → Declared At → Named
as_named text d = record { name = name_of text entry_name d.path; kind = d.kind; place = place_of d }

abbrev declares : ℕ → Placed → Declared At
declares n p = shifted_declared (at n) (declared_of n p)

abbrev names : (At → List ℕ) → ℕ → Placed → Named
names text n p = named_as n (λ i. text (at n i)) p

name_in : (text : At → List ℕ) (n : ℕ) (path : List (Source ℕ))
    → name_of text entry_name (map (shifted_source (at n)) path) ≡ name_of (λ i. text (at n i)) entry_name path
name_in text n [] = refl
name_in text n (Token t ∷ rest) = ap (λ (ws : List (List ℕ)). text (at n t) ∷ ws) (name_in text n rest)
name_in text n (EntryOf t ∷ rest) = ap (λ (ws : List (List ℕ)). entry_name (text (at n t)) ∷ ws) (name_in text n rest)
name_in text n (Given w ∷ rest) = ap (λ (ws : List (List ℕ)). w ∷ ws) (name_in text n rest)

place_in : (n x : ℕ) (path : List (Source ℕ)) → place_from (at n x) (map (shifted_source (at n)) path) ≡ at n (place_from x path)
place_in n x [] = refl
place_in n x (Token t ∷ rest) = place_in n t rest
place_in n x (EntryOf t ∷ rest) = place_in n t rest
place_in n x (Given w ∷ rest) = place_in n x rest

names_are : (text : At → List ℕ) (n : ℕ) (p : Placed) → as_named text (declares n p) ≡ names text n p
names_are text n p = λ i. record { name = name_in text n (whole p) i; kind = p.kind; place = place_in n 0 (whole p) i }

symbols_are : (text : At → List ℕ) (n : ℕ) (p : Placed) → symbol_of text entry_name (declares n p) ≡ symbol_named (names text n p)
symbols_are text n p = ap (λ (x : List (List ℕ)). let s : Symbol = record { name = x; kind = p.kind; file = n } in s) (name_in text n (whole p))

all_gathered : (n : ℕ) (fs : List FileNames) → all_declared n fs ≡ gathered file_placed declares n fs
all_gathered n [] = refl
all_gathered n (f ∷ fs) = ap (λ (ds : List (Declared At)). file_declared n f ++ ds) (all_gathered (suc n) fs)

tree_gathered : (text : At → List ℕ) (n : ℕ) (fs : List FileNames) → tree_named text n fs ≡ gathered package_first (names text) n fs
tree_gathered text n [] = refl
tree_gathered text n (f ∷ fs) = ap (λ (ds : List Named). map (names text n) (package_first f.items) ++ ds) (tree_gathered text (suc n) fs)

-- the skeleton's declarations by their names
declared_names : (text : At → List ℕ) (fs : List FileNames) → map (as_named text) (all_declared 0 fs) ≡ gathered file_placed (names text) 0 fs
declared_names text fs = ap (map (as_named text)) (all_gathered 0 fs) ∙ gathered_map file_placed (as_named text) declares (names text) (names_are text) 0 fs

-- ---- symbols

pub same_symbols : (text : At → List ℕ) (fs : List FileNames) → AreSpans fs
    → (s : Symbol) → Contains (map symbol_named (tree_named text 0 fs)) s ↔ Contains (map (symbol_of text entry_name) (all_declared 0 fs)) s
same_symbols text fs spans s =
    let symbol = λ (n : ℕ) (p : Placed). symbol_named (names text n p) in
    let one = ap (map symbol_named) (tree_gathered text 0 fs) ∙ gathered_map package_first symbol_named (names text) symbol (λ n p. refl) 0 fs in
    let other = ap (map (symbol_of text entry_name)) (all_gathered 0 fs) ∙ gathered_map file_placed (symbol_of text entry_name) declares symbol (symbols_are text) 0 fs in
    let same = same_gathered symbol 0 fs spans s in (
      λ c. subst (λ (ss : List Symbol). Contains ss s) (sym other) (same.0 (subst (λ (ss : List Symbol). Contains ss s) one c)),
      λ c. subst (λ (ss : List Symbol). Contains ss s) (sym one) (same.1 (subst (λ (ss : List Symbol). Contains ss s) other c)),
    )

-- a declaration by its name is one of those with each file's package first
pub declared_is_named : (text : At → List ℕ) (fs : List FileNames) → AreSpans fs
    → (d : Declared At) → Contains (all_declared 0 fs) d → Contains (tree_named text 0 fs) (as_named text d)
declared_is_named text fs spans d c =
    let there = subst (λ (ds : List Named). Contains ds (as_named text d)) (declared_names text fs) (contains_map (as_named text) (all_declared 0 fs) d c) in
    subst (λ (ds : List Named). Contains ds (as_named text d)) (sym (tree_gathered text 0 fs)) ((same_gathered (names text) 0 fs spans (as_named text d)).1 there)

-- ---- faults

abbrev SameName : Named → Named → Type 0
SameName x y = x.name ≡ y.name

abbrev SamePath : (At → List ℕ) → Declared At → Declared At → Type 0
SamePath text x y = name_of text entry_name x.path ≡ name_of text entry_name y.path

-- a fault of names takes only the names and the places
to_clash : (text : At → List ℕ) (ds : List (Declared At)) (f : Fault) → NameFault text ds f → ClashFault (map (as_named text) ds) f
to_clash text ds f (declared.earlier d a other) =
    let r = follows_after (SamePath text) ds d a in
    named.earlier (as_named text d) (after_follows SameName (map (as_named text) ds) (as_named text r.0) (as_named text d) (follows_map (as_named text) ds r.0 d r.1) r.2) other
to_clash text ds f (declared.of_package d e cd ce other package_kind same) =
    named.of_package (as_named text d) (as_named text e) (contains_map (as_named text) ds d cd) (contains_map (as_named text) ds e ce) other package_kind same

from_clash : (text : At → List ℕ) (ds : List (Declared At)) (f : Fault) → ClashFault (map (as_named text) ds) f → NameFault text ds f
from_clash text ds f (named.earlier d a other) =
    let r = follows_after SameName (map (as_named text) ds) d a in
    let s = map_follows (as_named text) ds r.0 d r.1 in
    let same : SamePath text s.0 s.1 = ap (λ (z : Named). z.name) s.3 ∙ r.2 ∙ ap (λ (z : Named). z.name) (sym s.4) in
    subst (λ (z : Named). NameFault text ds (fault z.place 13)) s.4 (declared.earlier s.1 (after_follows (SamePath text) ds s.0 s.1 s.2 same) (λ e. other (ap (λ (z : Named). z.kind) (sym s.4) ∙ e)))
from_clash text ds f (named.of_package d e cd ce other package_kind same) =
    let x = from_map (as_named text) ds d cd in
    let y = from_map (as_named text) ds e ce in
    subst (λ (z : Named). NameFault text ds (fault z.place 13)) x.2
    (declared.of_package x.0 y.0 x.1 y.1 (λ e. other (ap (λ (z : Named). z.kind) (sym x.2) ∙ e)) (ap (λ (z : Named). z.kind) y.2 ∙ package_kind)
    (ap (λ (z : Named). z.name) x.2 ∙ same ∙ ap (λ (z : Named). z.name) (sym y.2)))

abbrev stays : Named → Bool
stays d = is_other d.kind

stays_from : (d : Named) → d.kind ≢ Package → stays d ≡ true
stays_from d other = elim (cases_Bool (is_package d.kind)) [
  | inl h ↦ absurd (other (package_from d.kind h))
  | inr h ↦ ap not h
]

-- a name that clashes does so in each list with the same members, where all but packages come in the same order
clash_moves : (ds es : List Named) → ((d : Named) → Contains ds d → Contains es d) → filter stays ds ≡ filter stays es
    → (f : Fault) → ClashFault ds f → ClashFault es f
clash_moves ds es same order f (named.earlier d a other) =
    let r = follows_after SameName ds d a in
    elim (package_or r.0.kind) [
      | inl package_kind ↦ named.of_package d r.0 (same d (follows_second ds r.0 d r.1)) (same r.0 (follows_first ds r.0 d r.1)) other package_kind (sym r.2)
      | inr plain ↦
          let kept : Follows (filter stays ds) r.0 d = follows_kept stays ds r.0 d r.1 (stays_from r.0 plain) (stays_from d other) in
          named.earlier d (after_follows SameName es r.0 d (kept_follows stays es r.0 d (subst (λ (zs : List Named). Follows zs r.0 d) order kept)) r.2) other
    ]
clash_moves ds es same order f (named.of_package d e cd ce other package_kind name) = named.of_package d e (same d cd) (same e ce) other package_kind name

pub clashes_are_faults : (text : At → List ℕ) (fs : List FileNames) → AreSpans fs
    → (f : Fault) → ClashFault (tree_named text 0 fs) f ↔ NameFault text (all_declared 0 fs) f
clashes_are_faults text fs spans f =
    let one = gathered package_first (names text) 0 fs in
    let other = gathered file_placed (names text) 0 fs in
    let order : filter stays one ≡ filter stays other = same_others stays (names text) (λ n p. refl) 0 fs in (
      λ c.
          from_clash text (all_declared 0 fs) f (subst (λ (ds : List Named). ClashFault ds f) (sym (declared_names text fs))
          (clash_moves one other (λ d. (same_gathered (names text) 0 fs spans d).0) order f (subst (λ (ds : List Named). ClashFault ds f) (tree_gathered text 0 fs) c))),
      λ c.
          subst (λ (ds : List Named). ClashFault ds f) (sym (tree_gathered text 0 fs))
          (clash_moves other one (λ d. (same_gathered (names text) 0 fs spans d).1) (sym order) f (subst (λ (ds : List Named). ClashFault ds f) (declared_names text fs) (to_clash text (all_declared 0 fs) f c))),
    )
