-- The extensions of a file as its blocks say them, what each extends, and where that leaves them their numbers (for the crates above).
use Rattle.std.proofs.Common.{◌≡◌, ℕ, ℤ, ◌==◌, Bool, true, false, List, [], ◌∷◌, ◌++◌, map, flat_map, find, Option, Some, None, option_map, option_and_then, refl, sym, ap, ap₂, ◌∙◌, inl, inr, arith, if◌then◌else◌, Contains}
use Rattle.proto_base.proofs.Common.{Contains-append_cases, contains_head, contains_later, from_map, list_any, map-append, none-some}
use Rattle.proto_tree.specs.declared.piece.Header.{Header}
use Rattle.proto_tree.specs.declared.piece.Header.TheVariants as header
use Rattle.proto_tree.specs.declared.tree.Range.{Range}
use Rattle.proto_tree.specs.declared.tree.Reference.{Reference}
use Rattle.proto_tree.proofs.Common.{Move, Tree, first_of, move_header, move_range, move_reference, move_tree}
use Rattle.proto_files.proofs.Common.{FileOf, ReadOf}
use Rattle.proto_names_rules.specs.Faults.{place_of}
use Rattle.proto_names_rules.proofs.Common.{At, Declared, Used, at}
use Rattle.proto_names_outline.specs.FromTree.{file_names}
use Rattle.proto_names_imports.specs.Links.{uses_of}
use Rattle.proto_ast.proofs.Common.{BlockOf, FieldOf, Scene, blocks_in, extension_ranges, fields_in, statements}
use Rattle.proto_desc_numbers.proofs.Common.{is_inside, number_of_field, range_of}
use Rattle.proto_desc_checks_laws.proofs.Common.{IsMoved, any_kept, extension_ranges_moved, fields_moved, given_moved, maps_moved, move_field_of, move_range_at, number_moved, range_moved}
use Rattle.proto_desc.specs.SceneOf.{declared_as, meaning_of}
use Rattle.proto_desc_extensions.specs.Extensions.{ExtensionOf, block_extensions, extended_at, extendee_in, extensions_in, extensions_of, has_extension_at, is_extendable, is_message_at, name_meant, ranges_at_place, ranges_within}
use Rattle.proto_edit_statement_described.specs.Deletions.{IsDeletedIn, IsDeletedRight, Reservation, WrittenField}
use Rattle.proto_edit_statement_described.specs.Extensions.{Saying, saying_of}
use Rattle.proto_edit_statement_described.specs.Files.{scene_at}
use Rattle.proto_edit_rules.specs.Statements.{tree_at}
use Rattle.proto_edit_statement_described.proofs.SaidBlocks.{IsMovedSaying, IsOfExtends, block_with}
use Rattle.proto_edit_statement_described.proofs.Parts.{new_read, no_ranges, nothing_with, old_read, outer_statements}

-- ---- what a block says

-- the fields of a block as extensions of what has this name, if there is one
abbrev pub said_by : Scene → Option (List (List ℕ)) → Tree → List Saying
said_by scene o within = map saying_of (extensions_of scene o within)

-- the same of any block, where references mean these names
abbrev pub block_says : Scene → (Reference → Option (List (List ℕ))) → BlockOf → List Saying
block_says scene name b = said_by scene (option_and_then name (extendee_in b.header)) b.within

pub extensions_said : (files : List FileOf) (reads : List ReadOf) (k : ℕ) → map saying_of (extensions_in None files reads k) ≡ flat_map (block_says (scene_at files reads k) (name_meant files reads k)) (blocks_in (tree_at reads k))
extensions_said files reads k = go (blocks_in (tree_at reads k))
  where
    go : (bs : List BlockOf) → map saying_of (flat_map (block_extensions None files reads k) bs) ≡ flat_map (block_says (scene_at files reads k) (name_meant files reads k)) bs
    go [] = refl
    go (b ∷ bs) =
        map-append saying_of (block_extensions None files reads k b) (flat_map (block_extensions None files reads k) bs)
        ∙ ap (λ (z : List Saying). map saying_of (block_extensions None files reads k b) ++ z) (go bs)

of_extends : (scene : Scene) (name : Reference → Option (List (List ℕ))) → IsOfExtends (block_says scene name)
of_extends scene name h t e = ap (λ (o : Option Reference). said_by scene (option_and_then name o) t) e

-- ---- moved blocks

-- where moved references mean the same names
module _ (g : Move) (a b : Scene) (is : IsMoved g a b) (was now : Reference → Option (List (List ℕ))) (same : (r : Reference) → now (move_reference g r) ≡ was r) where
  abbrev extension_by : Scene → List (List ℕ) → FieldOf → ExtensionOf
  extension_by scene name f = record { number = number_of_field scene f; extendee = name }

  fields_said : (name : List (List ℕ)) (fs : List FieldOf) → map saying_of (map (extension_by b name) (map (move_field_of g) fs)) ≡ map saying_of (map (extension_by a name) fs)
  fields_said name [] = refl
  fields_said name (f ∷ fs) =
      ap₂ (λ (n : ℤ) (z : List Saying). (let s : Saying = record { number = n; extendee = name } in s) ∷ z) (number_moved g a b is f.number) (fields_said name fs)

  said_moved : (o : Option (List (List ℕ))) (within : Tree) → said_by b o (move_tree g within) ≡ said_by a o within
  said_moved None within = refl
  said_moved (Some name) within = ap (λ (fs : List FieldOf). map saying_of (map (extension_by b name) fs)) (fields_moved g 0 within) ∙ fields_said name (fields_in within)

  block_said : (h : Header) (within : Tree) → block_says b now (block_with (move_header g h) (move_tree g within)) ≡ block_says a was (block_with h within)
  block_said (header.Extend e) within = ap (λ (o : Option (List (List ℕ))). said_by b o (move_tree g within)) (same e.extendee) ∙ said_moved (was e.extendee) within
  block_said whole within = refl

  pub says_moved : IsMovedSaying g (block_says a was) (block_says b now)
  says_moved = record { of_old = of_extends a was; of_new = of_extends b now; same = block_said }

-- ---- a file that is left

pub found_same : {X : Type 0} (p : Used ℕ → Bool) (f h : Used ℕ → Option X) (us : List (Used ℕ)) → ((u : Used ℕ) → Contains us u → f u ≡ h u) → option_and_then f (find p us) ≡ option_and_then h (find p us)
found_same p f h [] e = refl
found_same p f h (u ∷ us) e = by (p u) (found_same p f h us (λ v c. e v (contains_later u v us c)))
  where
    by : (b : Bool) → option_and_then f (find p us) ≡ option_and_then h (find p us) → option_and_then f (if b then Some u else find p us) ≡ option_and_then h (if b then Some u else find p us)
    by true later = e u (contains_head u us)
    by false later = later

module _ (files : List FileOf) (reads : List ReadOf) (after : List FileOf) (seen : List ReadOf) (k : ℕ) (tree : tree_at seen k ≡ tree_at reads k) (scene : scene_at after seen k ≡ scene_at files reads k)
    (means : (u : Used ℕ) → Contains (uses_of reads k) u → meaning_of after seen k u ≡ meaning_of files reads k u) where
  pub name_left : (r : Reference) → name_meant after seen k r ≡ name_meant files reads k r
  name_left r =
      ap (λ (t : Tree). option_and_then (meaning_of after seen k) (find (λ (u : Used ℕ). u.first == first_of r.dot r.words) (file_names t).used)) tree
      ∙ found_same (λ (u : Used ℕ). u.first == first_of r.dot r.words) (meaning_of after seen k) (meaning_of files reads k) (uses_of reads k) means

  names_left : (o : Option Reference) → option_and_then (name_meant after seen k) o ≡ option_and_then (name_meant files reads k) o
  names_left None = refl
  names_left (Some r) = name_left r

  pub extensions_left : extensions_in None after seen k ≡ extensions_in None files reads k
  extensions_left = ap (λ (t : Tree). flat_map (block_extensions None after seen k) (blocks_in t)) tree ∙ go (blocks_in (tree_at reads k))
    where
      go : (bs : List BlockOf) → flat_map (block_extensions None after seen k) bs ≡ flat_map (block_extensions None files reads k) bs
      go [] = refl
      go (b ∷ bs) =
          ap₂ (λ (y z : List ExtensionOf). y ++ z)
          (ap (λ (s : Scene). extensions_of s (option_and_then (name_meant after seen k) (extendee_in b.header)) b.within) scene
          ∙ ap (λ (o : Option (List (List ℕ))). extensions_of (scene_at files reads k) o b.within) (names_left (extendee_in b.header)))
          (go bs)

  -- what the extension at a token extends
  pub extended_left : (i : ℕ) → extended_at after seen (at k i) ≡ extended_at files reads (at k i)
  extended_left i =
      ap (λ (t : Tree). option_and_then (λ (b : BlockOf). option_and_then (name_meant after seen k) (extendee_in b.header)) (find (has_extension_at i) (blocks_in t))) tree
      ∙ by (find (has_extension_at i) (blocks_in (tree_at reads k)))
    where
      by : (o : Option BlockOf) → option_and_then (λ (b : BlockOf). option_and_then (name_meant after seen k) (extendee_in b.header)) o ≡ option_and_then (λ (b : BlockOf). option_and_then (name_meant files reads k) (extendee_in b.header)) o
      by None = refl
      by (Some b) = names_left (extendee_in b.header)

-- ---- what an extension extends is what a reference of its file means

in_flat : {A B : Type 0} (f : A → List B) (xs : List A) (y : B) → Contains (flat_map f xs) y → (x : A) × Contains (f x) y
in_flat f [] y c = absurd (omega (arith, c.1))
in_flat f (x ∷ xs) y c = elim (Contains-append_cases (f x) (flat_map f xs) y c) [
  | inl here ↦ (x, here)
  | inr later ↦ in_flat f xs y later
]

found_there : {X : Type 0} (p : Used ℕ → Bool) (f : Used ℕ → Option X) (us : List (Used ℕ)) (x : X) → option_and_then f (find p us) ≡ Some x → (u : Used ℕ) × Contains us u × (f u ≡ Some x)
found_there p f [] x e = absurd (none-some x e)
found_there {X} p f (u ∷ us) x e = by (p u) e (λ h. found_there p f us x h)
  where
    by : (b : Bool) → option_and_then f (if b then Some u else find p us) ≡ Some x → (option_and_then f (find p us) ≡ Some x → (v : Used ℕ) × Contains us v × (f v ≡ Some x)) → (v : Used ℕ) × Contains (u ∷ us) v × (f v ≡ Some x)
    by true e later = (u, contains_head u us, e)
    by false e later = let r = later e in (r.0, contains_later u r.0 us r.1, r.2)

-- what a reference means is what one of those that its file uses means
pub name_is_used : (files : List FileOf) (reads : List ReadOf) (k : ℕ) (r : Reference) (m : List (List ℕ)) → name_meant files reads k r ≡ Some m → (u : Used ℕ) × Contains (uses_of reads k) u × (meaning_of files reads k u ≡ Some m)
name_is_used files reads k r m e = found_there (λ (u : Used ℕ). u.first == first_of r.dot r.words) (meaning_of files reads k) (uses_of reads k) m e

pub extendee_is_used : (files : List FileOf) (reads : List ReadOf) (k : ℕ) (e : ExtensionOf) → Contains (extensions_in None files reads k) e → (u : Used ℕ) × Contains (uses_of reads k) u × (meaning_of files reads k u ≡ Some e.extendee)
extendee_is_used files reads k e c =
    let r = in_flat (block_extensions None files reads k) (blocks_in (tree_at reads k)) e c in
    by (extendee_in r.0.header) (named (option_and_then (name_meant files reads k) (extendee_in r.0.header)) r.0.within r.1)
  where
    named : (o : Option (List (List ℕ))) (within : Tree) → Contains (extensions_of (scene_at files reads k) o within) e → o ≡ Some e.extendee
    named None within c = absurd (omega (arith, c.1))
    named (Some name) within c =
        let f = from_map (λ (f : FieldOf). let x : ExtensionOf = record { number = number_of_field (scene_at files reads k) f; extendee = name } in x) (fields_in within) e c in
        ap (λ (x : ExtensionOf). Some x.extendee) f.2

    by : (o : Option Reference) → option_and_then (name_meant files reads k) o ≡ Some e.extendee → (u : Used ℕ) × Contains (uses_of reads k) u × (meaning_of files reads k u ≡ Some e.extendee)
    by None h = absurd (none-some e.extendee h)
    by (Some r) h = name_is_used files reads k r e.extendee h

-- ---- where messages leave numbers to extensions

-- the statements of a message leave the number to extensions
abbrev pub leaves : Scene → ℤ → Tree → Bool
leaves scene n within = list_any (is_inside n) (map (range_of scene) (flat_map extension_ranges (statements within)))

-- whether the message whose name is at this place does so, if there is one
abbrev pub left_at : List FileOf → List ReadOf → ℤ → At → Option Bool
left_at files reads n a = option_map (λ (b : BlockOf). leaves (scene_at files reads a.file) n b.within) (find (λ (b : BlockOf). is_message_at a.token b.header) (blocks_in (tree_at reads a.file)))

-- in a file that is left
pub left_there : (files : List FileOf) (reads : List ReadOf) (after : List FileOf) (seen : List ReadOf) (k : ℕ) → scene_at after seen k ≡ scene_at files reads k → tree_at seen k ≡ tree_at reads k
    → (n : ℤ) (i : ℕ) → left_at after seen n (at k i) ≡ left_at files reads n (at k i)
left_there files reads after seen k scene tree n i =
    ap₂ (λ (s : Scene) (t : Tree). option_map (λ (b : BlockOf). leaves s n b.within) (find (λ (b : BlockOf). is_message_at i b.header) (blocks_in t))) scene tree

-- whether the message with this full name does so, if there is one
abbrev pub left_named : List FileOf → List ReadOf → ℤ → List (List ℕ) → Option Bool
left_named files reads n name = option_and_then (λ (d : Declared At). left_at files reads n (place_of d)) (declared_as files reads name)

abbrev is_so : Option Bool → Bool
is_so None = false
is_so (Some b) = b

extendable_is : (files : List FileOf) (reads : List ReadOf) (e : ExtensionOf) → is_extendable None files reads e ≡ is_so (left_named files reads e.number.number e.extendee)
extendable_is files reads e = by (declared_as files reads e.extendee)
  where
    within : (scene : Scene) (o : Option BlockOf) → list_any (is_inside e.number.number) (ranges_within scene o) ≡ is_so (option_map (λ (b : BlockOf). leaves scene e.number.number b.within) o)
    within scene None = refl
    within scene (Some b) = refl

    by : (o : Option (Declared At)) → list_any (is_inside e.number.number) (ranges_at_place None files reads (option_map place_of o)) ≡ is_so (option_and_then (λ (d : Declared At). left_at files reads e.number.number (place_of d)) o)
    by None = refl
    by (Some d) = let a : At = place_of d in within (scene_at files reads a.file) (find (λ (b : BlockOf). is_message_at a.token b.header) (blocks_in (tree_at reads a.file)))

-- what extends the same is left its number in the same way
pub extendable_same : (files : List FileOf) (reads : List ReadOf) (after : List FileOf) (seen : List ReadOf) (e : ExtensionOf)
    → left_named after seen e.number.number e.extendee ≡ left_named files reads e.number.number e.extendee → is_extendable None after seen e ≡ is_extendable None files reads e
extendable_same files reads after seen e same = extendable_is after seen e ∙ ap is_so same ∙ sym (extendable_is files reads e)

-- ---- the same ranges

-- a message is found by its moved token
pub message_moved : (g : Move) → ((i j : ℕ) → (g i == g j) ≡ (i == j)) → (i : ℕ) (h : Header) → is_message_at (g i) (move_header g h) ≡ is_message_at i h
message_moved g same i (header.Message h) = same h.name i
message_moved g same i whole = refl

module _ (g : Move) (a b : Scene) (is : IsMoved g a b) (n : ℤ) where
  ranges_leave : (rs qs : List (Range ℕ)) → qs ≡ map (move_range g g) rs → list_any (is_inside n) (map (range_of b) qs) ≡ list_any (is_inside n) (map (range_of a) rs)
  ranges_leave rs qs e =
      ap (λ (z : List (Range ℕ)). list_any (is_inside n) (map (range_of b) z)) e
      ∙ ap (list_any (is_inside n)) (maps_moved (move_range g g) (move_range_at g) (range_of a) (range_of b) (range_moved g a b is) rs)
      ∙ any_kept (move_range_at g) (is_inside n) (is_inside n) (λ r. refl) (map (range_of a) rs)

  pub moved_leaves : (x : Tree) → leaves b n (move_tree g x) ≡ leaves a n x
  moved_leaves x = ranges_leave (flat_map extension_ranges (statements x)) (flat_map extension_ranges (statements (move_tree g x))) (given_moved g (move_range g g) extension_ranges (extension_ranges_moved g) x)

-- so it is in a message that loses a field, and around it
module _ (g k : Move) (middle old new : Scene) (is_old : IsMoved g middle old) (is_new : IsMoved k middle new) (w : WrittenField) (r : Reservation) (n : ℤ) where
  abbrev pub LeaveTheSame : Tree → Tree → Tree → Type 0
  LeaveTheSame x t u = (leaves old n t ≡ leaves middle n x) × (leaves new n u ≡ leaves middle n x)

  pub right_leave : (x t u : Tree) → IsDeletedRight g k w r x t u → LeaveTheSame x t u
  right_leave x t u sw =
      let es = old_read g k w r (move_range g g) extension_ranges (record { moves = extension_ranges_moved g }) (no_ranges w).1 x t u sw in
      let ds = nothing_with (move_range k k) _ _ (new_read g k w r (move_range k k) extension_ranges (record { moves = extension_ranges_moved k }) x t u sw) in (
        ranges_leave g middle old is_old n (flat_map extension_ranges (statements x)) (flat_map extension_ranges (statements t)) es,
        ranges_leave k middle new is_new n (flat_map extension_ranges (statements x)) (flat_map extension_ranges (statements u)) ds,
      )

  pub deep_leave : (x t u : Tree) → IsDeletedIn g k w r x t u → LeaveTheSame x t u
  deep_leave x t u sw =
      let ss = outer_statements g k w r x t u sw in (
        ap (λ z. list_any (is_inside n) (map (range_of old) (flat_map extension_ranges z))) ss.0 ∙ moved_leaves g middle old is_old n x,
        ap (λ z. list_any (is_inside n) (map (range_of new) (flat_map extension_ranges z))) ss.1 ∙ moved_leaves k middle new is_new n x,
      )
