-- A rename gives no extension and no custom option a flaw that its workspace decides: numbers and ranges stay, what is extended goes under the name map, and options messages stay (for the crates above).
use Rattle.std.proofs.Common.{option_to_list, ◌≡◌, ℕ, ◌<◌, ◌≤◌, ◌==◌, Bool, true, false, not, List, [], ◌∷◌, ◌++◌, length, map, flat_map, find, Option, Some, None, option_map, option_and_then, is_some, refl, sym, ap, ap₂, subst, ◌∙◌, inl, inr, arith, Contains}
use Rattle.proto_base.proofs.Common.{Contains-append_left, Contains-append_right, both_ways, cases_Bool, cases_lt, contains_head, contains_later, contains_map, false_from_ne_true, from_map, list_any, map-append, none-some, same_Some}
use Rattle.proto_base.specs.declared.fault.FaultKind.TheVariants as kind
use Rattle.proto_base.specs.declared.profile.Profile.{Profile}
use Rattle.proto_base.specs.declared.profile.Profile.TheVariants as profile
use Rattle.proto_case.proofs.Common.{entry_name, entry_differs}
use Rattle.proto_tree.specs.declared.piece.Header.{Header}
use Rattle.proto_tree.specs.declared.piece.Header.TheVariants as header
use Rattle.proto_tree.specs.declared.tree.Reference.{Reference}
use Rattle.proto_tree.proofs.Common.{Tree, End, first_of}
use Rattle.proto_files.proofs.Common.{FileOf, ReadOf, file_at, read_at}
use Rattle.proto_files.specs.GivenFiles.{no_file}
use Rattle.proto_custom_options.specs.CustomOptions.{CustomOf, customs_in}
use Rattle.proto_names_rules.proofs.Common.{Renaming, ren, target, place_of, At, at, Workspace, Symbol, same_name, Declared, Source, Used, reference_of, renaming_of, name_from_same, same_from_name, aim_renaming, has_meaning, map_agree, map_map, meant, ren_apart}
use Rattle.proto_names_imports.proofs.Common.{link_skeleton, names_of_files, text_of, used_named, uses_of}
use Rattle.proto_ast.proofs.Common.{BlockOf, FieldOf, blocks_in, closed_ranges, extension_ranges, fields_in, options_in, reserved_ranges, statements, Scene, value}
use Rattle.proto_desc_numbers.proofs.Common.{flaw_if, is_inside, number_of_field, range_of}
use Rattle.proto_ast.specs.declared.ranges.RangeAt.{RangeAt}
use Rattle.proto_desc_numbers.specs.declared.flaw.Flaw.{Flaw}
use Rattle.proto_desc_checks_laws.specs.Renamed.{DifferInNames, asked_tokens, block_tokens, field_tokens, header_tokens, message_tokens, option_tokens, scalar_tokens}
use Rattle.proto_desc_extensions.specs.Common.{ExtensionOf, block_extensions, custom_flaws, extended_at, extended_by, extendee_in, extendee_meant, extensions_in, extensions_of, has_extension_at, is_an_option, is_message_at, is_the_message, name_meant, not_an_option, option_extends, extension_ranges_at, ranges_at_place, ranges_named, ranges_within, workspace_flaws}
use Rattle.proto_desc_extensions.proofs.MovedExtensions.{AreMoved, moved_extension, moved_flaw, workspace_moved}
use Rattle.proto_edit_rules.specs.Options.{HasWritten, is_fixed}
use Rattle.proto_edit_rules.specs.Rename.{NewWords}
use Rattle.proto_edit_rename_laws.specs.Scenes.{IsRename}
use Rattle.proto_edit_rename_laws.proofs.Common.{at_same, declared_as, meaning_of, scene_of, declared_stays, find_there, from_flat_map, meaning_after, scenes_are_apart, to_flat_map, trees_at, used_here, uses_stay, values_stay}
use Rattle.proto_edit_rename_laws.proofs.Scenes.{index_past}
use Rattle.proto_edit_rename_described.specs.Common.{Taken}
use Rattle.proto_edit_rename_described.proofs.FileStays.{closed_stays, number_stays}
use Rattle.proto_edit_rename_described.proofs.OptionMessages.{core_has_none, message_known}
use Rattle.proto_edit_rename_described.proofs.OptionsStay.{extends_plain, file_there, message_stays}

-- part by part
flat_turned : {A B : Type 0} (f g : A → List B) (m : B → B) (xs : List A) → ((x : A) → Contains xs x → f x ≡ map m (g x)) → flat_map f xs ≡ map m (flat_map g xs)
flat_turned f g m [] h = refl
flat_turned {A} {B} f g m (x ∷ xs) h = ap₂ (λ (l r : List B). l ++ r) (h x (contains_head x xs)) (flat_turned f g m xs (λ y c. h y (contains_later x y xs c))) ∙ sym (map-append m (g x) (flat_map g xs))

same_flaws : (fs : List Flaw) → map (moved_flaw (λ i. i)) fs ≡ fs
same_flaws [] = refl
same_flaws (f ∷ fs) = ap (λ (gs : List Flaw). f ∷ gs) (same_flaws fs)

-- the flaw of a custom option, if it has one
abbrev option_flaw : List FileOf → List ReadOf → ℕ → CustomOf → List Flaw
option_flaw files reads file o = flaw_if (not (is_an_option files reads file o)) kind.NotAnOption (first_of o.custom.name.dot o.custom.name.words)

-- a field as an extension of what has the name
abbrev extension_by : Scene → List (List ℕ) → FieldOf → ExtensionOf
extension_by s m y = record { number = number_of_field s y; extendee = m }

-- what is asked of a message is asked of its block
of_message : (s : Scene) (t : ℕ) (h : Header) (within : Tree) → is_message_at t h ≡ true → (i : ℕ) → Contains (message_tokens s within) i → Contains (header_tokens s h within) i
of_message s t (header.Message h) within q i c = c
of_message s t whole within q i c = absurd cc

number_asked : (s : Scene) (y : FieldOf) → Contains (field_tokens s y) y.number
number_asked s y =
    let numbered = y.number ∷ flat_map (option_tokens s) y.options in
    Contains-append_right (option_to_list y.label) (option_to_list y.map_key ++ (scalar_tokens y.kind ++ numbered)) y.number
    (Contains-append_right (option_to_list y.map_key) (scalar_tokens y.kind ++ numbered) y.number
    (Contains-append_right (scalar_tokens y.kind) numbered y.number (contains_head y.number (flat_map (option_tokens s) y.options))))

module _ (files : List FileOf) (reads : List ReadOf) (c : NewWords) (after : List FileOf) (seen : List ReadOf) (token : At) (above : List (Source At)) (aim : Declared At) (is_map : Bool) (to : List ℕ)
    (r : IsRename files reads c after seen token above aim is_map to)
    (asked : (f : ℕ) → f < length files → (i : ℕ) → Contains (asked_tokens (scene_of None files reads f) (read_at reads f).tree) i → is_some (c (at f i)) ≡ false)
    (free : HasWritten files → (is_fixed (target (renaming_of (text_of files reads) entry_name token above is_map to)) ≡ false) × (is_fixed ((renaming_of (text_of files reads) entry_name token above is_map to).parent ++ to ∷ []) ≡ false)) where
  abbrev e : Renaming
  e = renaming_of (text_of files reads) entry_name token above is_map to

  abbrev w : Workspace
  w = names_of_files files reads

  -- of no matter for numbers
  abbrev taken : Taken
  taken = record { written = false; enum = None }

  abbrev turned : ExtensionOf → ExtensionOf
  turned x = moved_extension (λ i. i) (ren e) x

  -- ---- a file

  module _ (f : ℕ) (l : f < length files) where
    abbrev a : Scene
    a = scene_of None files reads f

    abbrev b : Scene
    b = scene_of None after seen f

    abbrev tree : Tree
    tree = (read_at reads f).tree

    differ : DifferInNames (λ i. is_some (c (at f i))) (scene_of None files reads f) (scene_of None after seen f)
    differ = scenes_are_apart files reads c after seen token above aim is_map to r f l

    strings : (i : ℕ) → value (scene_of None after seen f) i ≡ value (scene_of None files reads f) i
    strings i = sym (values_stay files reads c after seen token above aim is_map to r f l i)

    block_kept : (x : BlockOf) → Contains (blocks_in (read_at reads f).tree) x → (i : ℕ) → Contains (header_tokens (scene_of None files reads f) x.header x.within) i → is_some (c (at f i)) ≡ false
    block_kept x cx i ci =
        let block = Contains-append_left (header_tokens a x.header x.within) (flat_map (option_tokens a) (options_in x.within)) i ci in
        asked f l i (Contains-append_right (flat_map (option_tokens a) (options_in tree)) (flat_map (block_tokens a) (blocks_in tree)) i (to_flat_map (block_tokens a) (blocks_in tree) x i cx block))

    -- ---- ranges

    ranges_stay : (t : ℕ) (x : BlockOf) → Contains (blocks_in (read_at reads f).tree) x → is_message_at t x.header ≡ true → ranges_within (scene_of None after seen f) (Some x) ≡ ranges_within (scene_of None files reads f) (Some x)
    ranges_stay t x cx q =
        map_agree (range_of b) (range_of a) (flat_map extension_ranges (statements x.within)) (λ z cz. (
        let s = from_flat_map extension_ranges (statements x.within) z cz in
        closed_stays e taken (λ i. is_some (c (at f i))) a b differ strings x.within (λ i ci. block_kept x cx i (of_message a t x.header x.within q i ci)) z
        (to_flat_map closed_ranges (statements x.within) s.0 z s.1 (Contains-append_right (reserved_ranges s.0) (extension_ranges s.0) z s.2))))

    within_stays : (t : ℕ) (o : Option BlockOf) → find (λ (x : BlockOf). is_message_at t x.header) (blocks_in (read_at reads f).tree) ≡ o → ranges_within (scene_of None after seen f) o ≡ ranges_within (scene_of None files reads f) o
    within_stays t None q = refl
    within_stays t (Some x) q = let there = find_there (λ (x : BlockOf). is_message_at t x.header) (blocks_in tree) x q in ranges_stay t x there.0 there.1

    -- ---- what is extended

    use_means : (u : Used ℕ) → Contains (uses_of reads f) u → (m : List (List ℕ)) × (meaning_of files reads f u ≡ Some m) × (s : Symbol) × Contains (names_of_files files reads).symbols s × (s.name ≡ m)
    use_means u cu =
        let used = contains_map (reference_of (text_of files reads) entry_name) (link_skeleton files reads).used _ (used_here files reads c after seen token above aim is_map to r f l u cu) in
        let m = has_meaning (meaning_of files reads f u) (r.linked.resolved (used_named (text_of files reads) f u) used) in
        let s = meant (names_of_files files reads) (used_named (text_of files reads) f u) m.0 m.1 in
        (m.0, m.1, s.0, s.1, s.2)

    module _ (x : Reference) where
      name_symbol : (m : List (List ℕ)) → name_meant files reads f x ≡ Some m → (s : Symbol) × Contains (names_of_files files reads).symbols s × (s.name ≡ m)
      name_symbol m h = by (find (λ (u : Used ℕ). u.first == first_of x.dot x.words) (uses_of reads f)) refl h
        where
          by : (o : Option (Used ℕ)) → find (λ (u : Used ℕ). u.first == first_of x.dot x.words) (uses_of reads f) ≡ o → option_and_then (meaning_of files reads f) o ≡ Some m → (s : Symbol) × Contains (names_of_files files reads).symbols s × (s.name ≡ m)
          by None q g = absurd (none-some m g)
          by (Some u) q g =
              let n = use_means u (find_there (λ (u : Used ℕ). u.first == first_of x.dot x.words) (uses_of reads f) u q).0 in
              (n.2, n.3, n.4 ∙ same_Some n.0 m (sym n.1 ∙ g))

      name_turned : name_meant after seen f x ≡ option_map (ren e) (name_meant files reads f x)
      name_turned =
          ap (λ us. option_and_then (meaning_of after seen f) (find (λ (u : Used ℕ). u.first == first_of x.dot x.words) us)) (uses_stay files reads c after seen token above aim is_map to r f)
          ∙ by (find (λ (u : Used ℕ). u.first == first_of x.dot x.words) (uses_of reads f)) refl
        where
          by : (o : Option (Used ℕ)) → find (λ (u : Used ℕ). u.first == first_of x.dot x.words) (uses_of reads f) ≡ o → option_and_then (meaning_of after seen f) o ≡ option_map (ren e) (option_and_then (meaning_of files reads f) o)
          by None q = refl
          by (Some u) q =
              let cu = (find_there (λ (u : Used ℕ). u.first == first_of x.dot x.words) (uses_of reads f) u q).0 in
              let m = use_means u cu in
              meaning_after files reads c after seen token above aim is_map to r f l u cu m.0 m.1 ∙ sym (ap (option_map (ren e)) m.1)

    extendee_turned : (o : Option BlockOf) → option_and_then (extendee_meant after seen f) o ≡ option_map (ren e) (option_and_then (extendee_meant files reads f) o)
    extendee_turned None = refl
    extendee_turned (Some x) = by (extendee_in x.header)
      where
        by : (o : Option Reference) → option_and_then (name_meant after seen f) o ≡ option_map (ren e) (option_and_then (name_meant files reads f) o)
        by None = refl
        by (Some y) = name_turned y

    -- ---- extensions

    fields_turned : (within : Tree) → ((i : ℕ) → Contains (flat_map (field_tokens (scene_of None files reads f)) (fields_in within)) i → is_some (c (at f i)) ≡ false) → (o : Option (List (List ℕ)))
        → extensions_of (scene_of None after seen f) (option_map (ren e) o) within ≡ map turned (extensions_of (scene_of None files reads f) o within)
    fields_turned within kept None = refl
    fields_turned within kept (Some m) =
        map_agree (extension_by b (ren e m)) (λ y. turned (extension_by a m y)) (fields_in within) (λ y cy. (
        let n = number_stays e taken (λ i. is_some (c (at f i))) a b differ strings y.number (kept y.number (to_flat_map (field_tokens a) (fields_in within) y y.number cy (number_asked a y))) in
        λ i. record { number = record { token = y.number; number = n i }; extendee = ren e m }))
        ∙ sym (map_map (extension_by a m) turned (fields_in within))

    block_turned : (x : BlockOf) → Contains (blocks_in (read_at reads f).tree) x → block_extensions None after seen f x ≡ map turned (block_extensions None files reads f x)
    block_turned x cx = by x.header (block_kept x cx)
      where
        by : (h : Header) → ((i : ℕ) → Contains (header_tokens (scene_of None files reads f) h x.within) i → is_some (c (at f i)) ≡ false)
            → extensions_of (scene_of None after seen f) (option_and_then (name_meant after seen f) (extendee_in h)) x.within ≡ map turned (extensions_of (scene_of None files reads f) (option_and_then (name_meant files reads f) (extendee_in h)) x.within)
        by (header.Extend g) kept = ap (λ o. extensions_of b o x.within) (name_turned g.extendee) ∙ fields_turned x.within kept (name_meant files reads f g.extendee)
        by whole kept = refl

    extensions_turned : extensions_in None after seen f ≡ map turned (extensions_in None files reads f)
    extensions_turned =
        ap (λ t. flat_map (block_extensions None after seen f) (blocks_in t)) (trees_at files reads c after seen token above aim is_map to r f)
        ∙ flat_turned (block_extensions None after seen f) (block_extensions None files reads f) turned (blocks_in tree) block_turned

    -- what an extension extends is a symbol
    extended : (x : ExtensionOf) → Contains (extensions_in None files reads f) x → (s : Symbol) × Contains (names_of_files files reads).symbols s × (s.name ≡ x.extendee)
    extended x cx = let d = from_flat_map (block_extensions None files reads f) (blocks_in tree) x cx in by d.0.header d.0.within d.2
      where
        by : (h : Header) (within : Tree) → Contains (extensions_of (scene_of None files reads f) (option_and_then (name_meant files reads f) (extendee_in h)) within) x → (s : Symbol) × Contains (names_of_files files reads).symbols s × (s.name ≡ x.extendee)
        by (header.Extend g) within d = go (name_meant files reads f g.extendee) refl d
          where
            go : (o : Option (List (List ℕ))) → name_meant files reads f g.extendee ≡ o → Contains (extensions_of (scene_of None files reads f) o within) x → (s : Symbol) × Contains (names_of_files files reads).symbols s × (s.name ≡ x.extendee)
            go None q d = absurd (omega (arith, d.1))
            go (Some m) q d =
                let y = from_map (extension_by a m) (fields_in within) x d in
                let s = name_symbol g.extendee m q in
                (s.0, s.1, s.2 ∙ ap (λ (z : ExtensionOf). z.extendee) y.2)
        by whole within d = absurd (omega (arith, d.1))

  -- ---- ranges by names

  no_tree : (f : ℕ) → length files ≤ f → (read_at reads f).tree ≡ End
  no_tree f l =
      let none : read_at reads f ≡ (let x : ReadOf = record { tokens = []; tree = End } in x) = index_past reads (record { tokens = []; tree = End }) f (omega (arith, l, r.read.same)) in
      ap (λ (x : ReadOf). x.tree) none

  ranges_at_stay : (p : At) → extension_ranges_at None after seen p ≡ extension_ranges_at None files reads p
  ranges_at_stay p = elim (cases_lt p.file (length files)) [
    | inl l ↦ ap new (trees_at files reads c after seen token above aim is_map to r p.file) ∙ within_stays p.file l p.token (find (λ (x : BlockOf). is_message_at p.token x.header) (blocks_in (read_at reads p.file).tree)) refl
    | inr l ↦ let tree = no_tree p.file l in ap new (trees_at files reads c after seen token above aim is_map to r p.file ∙ tree) ∙ sym (ap old tree)
  ]
    where
      new : Tree → List RangeAt
      new t = ranges_within (scene_of None after seen p.file) (find (λ (x : BlockOf). is_message_at p.token x.header) (blocks_in t))

      old : Tree → List RangeAt
      old t = ranges_within (scene_of None files reads p.file) (find (λ (x : BlockOf). is_message_at p.token x.header) (blocks_in t))

  ranges_named_stay : (s : Symbol) → Contains (names_of_files files reads).symbols s → ranges_named None after seen (ren e s.name) ≡ ranges_named None files reads s.name
  ranges_named_stay s cs = ap (λ o. ranges_at_place None after seen (option_map place_of o)) (sym (declared_stays files reads c after seen token above aim is_map to r s cs)) ∙ by (declared_as files reads s.name)
    where
      by : (o : Option (Declared At)) → ranges_at_place None after seen (option_map place_of o) ≡ ranges_at_place None files reads (option_map place_of o)
      by None = refl
      by (Some d) = ranges_at_stay (place_of d)

  -- ---- custom options

  extended_turned : (p : At) → extended_at after seen p ≡ option_map (ren e) (extended_at files reads p)
  extended_turned p = elim (cases_lt p.file (length files)) [
    | inl l ↦ ap new (trees_at files reads c after seen token above aim is_map to r p.file) ∙ extendee_turned p.file l (find (has_extension_at p.token) (blocks_in (read_at reads p.file).tree))
    | inr l ↦ let tree = no_tree p.file l in ap new (trees_at files reads c after seen token above aim is_map to r p.file ∙ tree) ∙ sym (ap old tree)
  ]
    where
      new : Tree → Option (List (List ℕ))
      new t = option_and_then (extendee_meant after seen p.file) (find (has_extension_at p.token) (blocks_in t))

      old : Tree → Option (List (List ℕ))
      old t = option_map (ren e) (option_and_then (extendee_meant files reads p.file) (find (has_extension_at p.token) (blocks_in t)))

  extended_by_turned : (s : Symbol) → Contains (names_of_files files reads).symbols s → extended_by after seen (ren e s.name) ≡ option_map (ren e) (extended_by files reads s.name)
  extended_by_turned s cs = ap (option_and_then (λ (d : Declared At). extended_at after seen (place_of d))) (sym (declared_stays files reads c after seen token above aim is_map to r s cs)) ∙ by (declared_as files reads s.name)
    where
      by : (o : Option (Declared At)) → option_and_then (λ (d : Declared At). extended_at after seen (place_of d)) o ≡ option_map (ren e) (option_and_then (λ (d : Declared At). extended_at files reads (place_of d)) o)
      by None = refl
      by (Some d) = extended_turned (place_of d)

  -- what the extension extends that an option's name means
  option_turned : (f : ℕ) → f < length files → (x : Reference) → option_extends after seen f x ≡ option_map (ren e) (option_extends files reads f x)
  option_turned f l x = ap (option_and_then (extended_by after seen)) (name_turned f l x) ∙ by (name_meant files reads f x) refl
    where
      by : (o : Option (List (List ℕ))) → name_meant files reads f x ≡ o → option_and_then (extended_by after seen) (option_map (ren e) o) ≡ option_map (ren e) (option_and_then (extended_by files reads) o)
      by None q = refl
      by (Some m) q = let s = name_symbol f l x m q in subst (λ n. extended_by after seen (ren e n) ≡ option_map (ren e) (extended_by files reads n)) s.2 (extended_by_turned s.0 s.1)

  option_stays : (f : ℕ) → f < length files → (o : CustomOf) → Contains (customs_in (read_at reads f).tree) o → is_an_option after seen f o ≡ is_an_option files reads f o
  option_stays f l o co = by (file_at files f).profile refl
    where
      by : (p : Profile) → (file_at files f).profile ≡ p → is_an_option after seen f o ≡ is_an_option files reads f o
      by profile.Core q = absurd (core_has_none files reads r.read f l q o co)
      by profile.AsWritten q =
          let apart = free (file_at files f, file_there files f l, q) in
          let turned_is = option_turned f l o.custom.name in
          ap (is_the_message o.message) turned_is
          ∙ message_stays e is_map refl apart.0 apart.1 o.message (message_known (read_at reads f).tree o co) (option_extends files reads f o.custom.name)
          (λ n h. (extends_plain files reads r.read f o.custom.name n h, extends_plain after seen r.reworded.read f o.custom.name (ren e n) (turned_is ∙ ap (option_map (ren e)) h)))

  customs_stay : (f : ℕ) → f < length files → custom_flaws after seen f ≡ map (moved_flaw (λ i. i)) (custom_flaws files reads f)
  customs_stay f l =
      ap (λ (t : Tree). not_an_option after seen f (customs_in t)) (trees_at files reads c after seen token above aim is_map to r f)
      ∙ flat_turned (option_flaw after seen f) (option_flaw files reads f) (moved_flaw (λ i. i)) (customs_in (read_at reads f).tree) (λ o co.
      ap (λ (b : Bool). flaw_if (not b) kind.NotAnOption (first_of o.custom.name.dot o.custom.name.words)) (option_stays f l o co)
      ∙ sym (same_flaws (option_flaw files reads f o)))

  -- ---- two names of symbols

  names_apart : (s t : Symbol) → Contains (names_of_files files reads).symbols s → Contains (names_of_files files reads).symbols t → same_name (ren e s.name) (ren e t.name) ≡ same_name s.name t.name
  names_apart s t cs ct = elim (cases_Bool (same_name s.name t.name)) [
    | inl y ↦ same_from_name (ren e s.name) (ren e t.name) (ap (ren e) (name_from_same s.name t.name y)) ∙ sym y
    | inr n ↦
        let renaming = aim_renaming (text_of files reads) (text_of after seen) entry_name (link_skeleton files reads) token above aim is_map to r.linked r.woven r.is r.entry r.respelled entry_differs in
        false_from_ne_true (same_name (ren e s.name) (ren e t.name)) (λ h. both_ways (same_name s.name t.name) n (same_from_name s.name t.name (ren_apart e w renaming r.free.no_collision s t cs ct (name_from_same (ren e s.name) (ren e t.name) h)))) ∙ sym n
  ]

  -- ---- all files

  are_turned : AreMoved files reads after seen (λ k i. i) (ren e)
  are_turned = record {
    profiles = λ k l. at_same (λ (g : FileOf). g.profile) after files no_file k r.reworded.profiles;
    extensions = λ k l. extensions_turned k l;
    ranges = λ x p. (
        let s = extended p.file p.within x p.there in
        ap (list_any (is_inside x.number.number)) (subst (λ n. ranges_named None after seen (ren e n) ≡ ranges_named None files reads n) s.2 (ranges_named_stay s.0 s.1)));
    apart = λ d x p q. (
        let s = extended p.file p.within d p.there in
        let t = extended q.file q.within x q.there in
        subst (λ n. same_name (ren e n) (ren e x.extendee) ≡ same_name n x.extendee) s.2 (subst (λ m. same_name (ren e s.0.name) (ren e m) ≡ same_name s.0.name m) t.2 (names_apart s.0 t.0 s.1 t.1)));
    options = λ k l. customs_stay k l;
  }

  pub workspace_stays : (f : ℕ) → f < length files → workspace_flaws None after seen f ≡ workspace_flaws None files reads f
  workspace_stays f l = workspace_moved files reads after seen (λ k i. i) (ren e) are_turned f l ∙ same_flaws (workspace_flaws None files reads f)
