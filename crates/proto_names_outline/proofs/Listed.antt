-- What the items of a block add to a list.
use Rattle.std.proofs.Common.{◌≡◌, ℕ, List, [], ◌∷◌, ◌++◌, length, map, refl, sym, ap, ◌∙◌, arith, Some, subst, append-nil}
use Rattle.std.proofs.lemmas.List.{map-append}
use Rattle.proto_tree.specs.declared.tree.Signature.{Signature}
use Rattle.proto_tree.specs.declared.tree.MethodEnd.{MethodEnd}
use Rattle.proto_tree.specs.declared.tree.MethodEnd.TheVariants as method_end
use Rattle.proto_tree.specs.declared.piece.Statement.{Statement}
use Rattle.proto_tree.specs.declared.piece.Header.{Header}
use Rattle.proto_tree.proofs.Common.{Tree, joined_trees, method_by}
use Rattle.proto_names_rules.specs.declared.kind.Kind.{Kind}
use Rattle.proto_names_rules.specs.declared.kind.Kind.TheVariants.{Field, Value, Method, Extension}
use Rattle.proto_names_rules.proofs.Common.{Source, Token, Used, Placed, place, all_placed, package_of, prefixes}
use Rattle.proto_names_outline.specs.Common.{field_names, value_names, method_names, no_names, block_names, picked, members_in, items_in, flat_uses, member_uses, item_uses, file_names, Above, Outermost, Listed, Listing, Adds, IsSound, items_below, package_first, path_at, read, used_by, uses_in, last_token, whole}
use Rattle.proto_names_outline.proofs.Behind.{picked_joined, members_joined, items_joined, flat_joined, member_uses_joined, item_uses_joined}
use Rattle.proto_names_outline.proofs.Growing.{IsParted}

-- the names of a block's items, side by side
abbrev names_placed : Kind → (Statement → List ℕ) → (Header → List ℕ) → List (Source ℕ) → Tree → List Placed
names_placed kind of_leaf of_block path t = map (λ i. place path (Token i) kind) (picked of_leaf of_block t)

names_joined : (kind : Kind) (of_leaf : Statement → List ℕ) (of_block : Header → List ℕ) (path : List (Source ℕ)) (s t : Tree)
    → names_placed kind of_leaf of_block path (joined_trees s t) ≡ names_placed kind of_leaf of_block path s ++ names_placed kind of_leaf of_block path t
names_joined kind p g path s t = ap (map (λ i. place path (Token i) kind)) (picked_joined p g s t) ∙ map-append (λ i. place path (Token i) kind) (picked p g s) (picked p g t)

abbrev pub fields_placed : List (Source ℕ) → Tree → List Placed
fields_placed = names_placed Field field_names no_names

abbrev pub extensions_placed : List (Source ℕ) → Tree → List Placed
extensions_placed = names_placed Extension field_names no_names

abbrev pub values_placed : List (Source ℕ) → Tree → List Placed
values_placed = names_placed Value value_names no_names

abbrev pub methods_placed : List (Source ℕ) → Tree → List Placed
methods_placed = names_placed Method method_names block_names

abbrev pub members_placed : List (Source ℕ) → Tree → List Placed
members_placed path t = all_placed path (members_in t)

abbrev pub items_placed : List (Source ℕ) → Tree → List Placed
items_placed path t = items_below path (items_in t)

-- the references of a block's items, where those of its options stand in the scope of the others
abbrev pub inner_uses : List (Source ℕ) → Tree → List (Used ℕ)
inner_uses path t = flat_uses path path t

abbrev pub none_placed : List (Source ℕ) → Tree → List Placed
none_placed path t = []

pub fields_parted : IsParted fields_placed inner_uses
fields_parted = record { no_placed = λ path. refl; no_used = λ path. refl; placed = names_joined Field field_names no_names; used = λ path. flat_joined path path }

pub extensions_parted : IsParted extensions_placed inner_uses
extensions_parted = record { no_placed = λ path. refl; no_used = λ path. refl; placed = names_joined Extension field_names no_names; used = λ path. flat_joined path path }

pub values_parted : IsParted values_placed inner_uses
values_parted = record { no_placed = λ path. refl; no_used = λ path. refl; placed = names_joined Value value_names no_names; used = λ path. flat_joined path path }

pub methods_parted : (around : List (Source ℕ)) → IsParted methods_placed (flat_uses around)
methods_parted around = record { no_placed = λ path. refl; no_used = λ path. refl; placed = names_joined Method method_names block_names; used = flat_joined around }

-- items that declare nothing
pub none_parted : IsParted none_placed inner_uses
none_parted = record { no_placed = λ path. refl; no_used = λ path. refl; placed = λ path s t. refl; used = λ path. flat_joined path path }

pub members_parted : (around : List (Source ℕ)) → IsParted members_placed (member_uses around)
members_parted around = record { no_placed = λ path. refl; no_used = λ path. refl; placed = members_joined; used = member_uses_joined around }

pub items_parted : IsParted items_placed item_uses
items_parted = record { no_placed = λ path. refl; no_used = λ path. refl; placed = items_joined; used = item_uses_joined }

-- a method, whatever ends it
pub method_placed : (s : Signature) (end : MethodEnd) (path : List (Source ℕ)) → methods_placed path (method_by s end) ≡ place path (Token s.name) Method ∷ []
method_placed s (method_end.Semicolon i) path = refl
method_placed s (method_end.Block i items j) path = refl

-- its references, whatever stands around the service
pub method_alike : (s : Signature) (end : MethodEnd) (around path : List (Source ℕ)) → flat_uses path path (method_by s end) ≡ flat_uses around path (method_by s end)
method_alike s (method_end.Semicolon i) around path = refl
method_alike s (method_end.Block i items j) around path = refl

-- ---- a file

empty_sound : (l : Listing) → l.declared.items ≡ [] → l.used.items ≡ [] → IsSound l
empty_sound l d u = record {
  ordered = λ k x b. absurd (omega (arith, b, ap length d));
  tokens = subst (λ (es : List Listed). map (λ e. Some e.token) es ≡ map (λ p. last_token (whole p)) (read es)) (sym d) refl;
  scopes = λ k x b. absurd (omega (arith, b, ap length u));
}

pub record IsListed (l : Listing) (t : Tree) : Type 0 where
  pub sound : IsSound l
  pub declared : read l.declared.items ≡ package_first (items_in t)
  pub used : uses_in l ≡ (file_names t).used

pub file_listed : {new mid final : Listing} {above : Above} (words : List ℕ) (t : Tree) → new.declared.items ≡ [] → new.used.items ≡ [] → words ≡ package_of (items_in t)
    → Adds new mid Outermost (λ path. prefixes path words) (λ path. []) → path_at (read mid.declared.items) above ≡ map (λ i. Token i) words
    → Adds mid final above (λ path. items_placed path t) (λ path. item_uses path t) → IsListed final t
file_listed {new = new} {mid = mid} {final = final} {above = above} words t d u e a p b =
    let is = items_in t in
    let path : path_at (read mid.declared.items) above ≡ map (λ i. Token i) (package_of is) = p ∙ ap (map (λ i. Token i)) e in
    let sound = empty_sound new d u in
    record {
      sound = b.sound (a.sound sound);
      declared =
          b.declared
          ∙ ap (λ (x : List (Source ℕ)). read mid.declared.items ++ items_below x is) path
          ∙ ap (λ (ds : List Placed). ds ++ items_below (map (λ i. Token i) (package_of is)) is) (a.declared ∙ ap (λ (es : List Listed). read es ++ prefixes [] words) d ∙ ap (prefixes []) e);
      used =
          b.used (a.sound sound)
          ∙ ap (λ (x : List (Source ℕ)). uses_in mid ++ item_uses x t) path
          ∙ ap (λ (us : List (Used ℕ)). us ++ item_uses (map (λ i. Token i) (package_of is)) t) (a.used sound ∙ append-nil (uses_in new) ∙ ap (map (used_by (read new.declared.items))) u);
    }
