-- What is wrong with the extensions of an unaffected file stays, where all files that have some are
-- unaffected; and its custom options are right, where they were.
use Rattle.std.proofs.Common.{◌≡◌, ℕ, zero, suc, ◌<◌, Bool, true, false, not, ◌==◌, List, [], ◌∷◌, ◌++◌, length, map, flat_map, find, Option, Some, None, option_map, option_and_then, refl, sym, ap, ap₂, subst, ◌∙◌, inl, inr, ◌⊎◌, arith, pos, true≢false, Contains}
use Rattle.proto_base.proofs.Common.{any_from, contains_head, contains_later, from_map, get_or_past, list_any, none-some, same_Some, slice_get_cases}
use Rattle.proto_base.specs.declared.fault.FaultKind.TheVariants as kind
use Rattle.proto_text.proofs.Common.{word_at}
use Rattle.proto_tree.specs.References.{first_of}
use Rattle.proto_tree.specs.Tree.{Tree, End}
use Rattle.proto_tree.specs.declared.piece.Header.{Header}
use Rattle.proto_tree.specs.declared.piece.Header.TheVariants as header
use Rattle.proto_tree.specs.declared.tree.Range.{Range}
use Rattle.proto_tree.specs.declared.tree.Reference.{Reference}
use Rattle.proto_files.proofs.Common.{FileOf, ReadOf, file_at, read_at}
use Rattle.proto_names_rules.proofs.Common.{At, Declared, Used, place_of}
use Rattle.proto_names.specs.Links.{names_in, uses_of}
use Rattle.proto_ast.proofs.Common.{BlockOf, FieldOf, blocks_in, extension_ranges, fields_in, number_at, number_value, statements}
use Rattle.proto_ast.specs.declared.ranges.RangeAt.{RangeAt}
use Rattle.proto_desc_numbers.proofs.Common.{end_of, flaw_if, is_inside, most_field, number_of_field}
use Rattle.proto_desc_numbers.specs.declared.flaw.Flaw.{Flaw}
use Rattle.proto_desc_checks.specs.FileFlaws.{file_flaws}
use Rattle.proto_desc_checks.proofs.KnownNames.{flat_map_same}
use Rattle.proto_custom_options.specs.CustomOptions.{CustomOf, customs_in}
use Rattle.proto_resolved.specs.SceneOf.{declared_as, meaning_of, scene_of}
use Rattle.proto_desc_extensions.specs.Common.{ExtensionOf, all_flaws, block_extensions, custom_flaws, extended_at, extended_by, extendee_in, extendee_meant, extension_ranges_at, extensions_before, extensions_in, extensions_of, has_extend, has_extension_at, is_an_option, is_extend, is_extendable, is_message_at, is_the_message, name_meant, not_an_option, not_extendable, number_flaws, option_extends, ranges_at_place, ranges_within, repeated_extensions, taken_before, workspace_flaws}
use Rattle.proto_desc_extensions.proofs.WrittenExtensions.{from_flat_map}
use Rattle.proto_desc_affected.specs.Extended.{ExtendsAreUnaffected, HasNoExtend, UnaffectedFilesStayFlawless, UnaffectedFlawsOfFilesStay}
use Rattle.proto_desc_affected.specs.Unaffected.{AreSoundlyEdited, IsUnaffectedFile, StoodElsewhere}
use Rattle.proto_desc_affected.proofs.Declared.{found_passes}
use Rattle.proto_desc_affected.proofs.SameScenes.{extensions_same, flaws_same}
use Rattle.proto_desc_affected.proofs.Scenes.{name_left, reading, scene_stays}
use Rattle.proto_desc_affected.proofs.Unedited.{as_many, same_file, same_lexemes, same_reading}

-- ---- a tree without extensions

-- no extension stands in it
none_extend : (cap : Option ℕ) (files : List FileOf) (reads : List ReadOf) (file : ℕ) → has_extend (read_at reads file).tree ≡ false → extensions_in cap files reads file ≡ []
none_extend cap files reads file none = go (extensions_in cap files reads file) (λ e c. c)
  where
    no_block : (h : Header) (within : Tree) (e : ExtensionOf) → is_extend h ≡ false → Contains (extensions_of (scene_of cap files reads file) (option_and_then (name_meant files reads file) (extendee_in h)) within) e → ⊥
    no_block (header.Extend x) within e t c = true≢false t
    no_block whole within e t c = omega (arith, c.1)

    go : (es : List ExtensionOf) → ((e : ExtensionOf) → Contains es e → Contains (extensions_in cap files reads file) e) → es ≡ []
    go [] h = refl
    go (e ∷ es) h =
        let b = from_flat_map (block_extensions cap files reads file) (blocks_in (read_at reads file).tree) e (h e (contains_head e es)) in
        absurd (by b.0 b.1 b.2 (is_extend b.0.header) refl)
      where
        by : (b : BlockOf) → Contains (blocks_in (read_at reads file).tree) b → Contains (block_extensions cap files reads file b) e → (t : Bool) → is_extend b.header ≡ t → ⊥
        by b there c true t = true≢false (sym (any_from (λ (x : BlockOf). is_extend x.header) (blocks_in (read_at reads file).tree) b there t) ∙ none)
        by b there c false t = no_block b.header b.within e t c

-- ---- what an extension extends is what a reference of its file means

found_by : {X : Type 0} (p : Used ℕ → Bool) (f : Used ℕ → Option X) (us : List (Used ℕ)) (x : X) → option_and_then f (find p us) ≡ Some x → (u : Used ℕ) × Contains us u × (f u ≡ Some x)
found_by {X} p f us x e = by (find p us) refl e
  where
    by : (o : Option (Used ℕ)) → find p us ≡ o → option_and_then f o ≡ Some x → (u : Used ℕ) × Contains us u × (f u ≡ Some x)
    by None h e = absurd (none-some x e)
    by (Some u) h e = (u, (found_passes p us u h).0, e)

extension_meant : (cap : Option ℕ) (files : List FileOf) (reads : List ReadOf) (file : ℕ) (e : ExtensionOf) → Contains (extensions_in cap files reads file) e → (u : Used ℕ) × Contains (uses_of reads file) u × (meaning_of files reads file u ≡ Some e.extendee)
extension_meant cap files reads file e c =
    let b = from_flat_map (block_extensions cap files reads file) (blocks_in (read_at reads file).tree) e c in
    of_reference (extendee_in b.0.header) (named (option_and_then (name_meant files reads file) (extendee_in b.0.header)) b.0.within b.2)
  where
    named : (o : Option (List (List ℕ))) (within : Tree) → Contains (extensions_of (scene_of cap files reads file) o within) e → o ≡ Some e.extendee
    named None within c = absurd (omega (arith, c.1))
    named (Some name) within c =
        let f = from_map (λ (y : FieldOf). let x : ExtensionOf = record { number = number_of_field (scene_of cap files reads file) y; extendee = name } in x) (fields_in within) e c in
        ap (λ (x : ExtensionOf). Some x.extendee) f.2

    of_reference : (o : Option Reference) → option_and_then (name_meant files reads file) o ≡ Some e.extendee → (u : Used ℕ) × Contains (uses_of reads file) u × (meaning_of files reads file u ≡ Some e.extendee)
    of_reference None h = absurd (none-some e.extendee h)
    of_reference (Some r) h = found_by (λ (u : Used ℕ). u.first == first_of r.dot r.words) (meaning_of files reads file) (uses_of reads file) e.extendee h

found_same : {X : Type 0} (p : Used ℕ → Bool) (f h : Used ℕ → Option X) (us : List (Used ℕ)) → ((u : Used ℕ) → Contains us u → f u ≡ h u) → option_and_then f (find p us) ≡ option_and_then h (find p us)
found_same p f h us same = by (find p us) refl
  where
    by : (o : Option (Used ℕ)) → find p us ≡ o → option_and_then f o ≡ option_and_then h o
    by None e = refl
    by (Some u) e = same u (found_passes p us u e).0

-- what is behind an option that has a value
and_then_parts : {A B : Type 0} (f : A → Option B) (o : Option A) (b : B) → option_and_then f o ≡ Some b → (a : A) × (o ≡ Some a) × (f a ≡ Some b)
and_then_parts f None b e = absurd (none-some b e)
and_then_parts f (Some a) b e = (a, refl, e)

extends_something : (h : Header) (r : Reference) → extendee_in h ≡ Some r → is_extend h ≡ true
extends_something (header.Extend x) r e = refl
extends_something (header.Message x) r e = absurd (none-some r e)
extends_something (header.Oneof x) r e = absurd (none-some r e)
extends_something (header.Enum x) r e = absurd (none-some r e)
extends_something (header.Service x) r e = absurd (none-some r e)
extends_something (header.Method x) r e = absurd (none-some r e)

-- ---- no flaw

none_in_parts : (xs ys : List Flaw) → xs ++ ys ≡ [] → (xs ≡ []) × (ys ≡ [])
none_in_parts [] ys e = (refl, e)
none_in_parts (x ∷ xs) ys e = absurd (cc)

no_flaw_if : (b : Bool) (token : ℕ) → flaw_if (not b) kind.NotAnOption token ≡ [] → b ≡ true
no_flaw_if true token e = refl
no_flaw_if false token e = absurd (cc)

-- ---- numbers outside ranges

same_outside : (before : List FileOf) (was : List ReadOf) (files : List FileOf) (reads : List ReadOf) (es : List ExtensionOf) → ((e : ExtensionOf) → Contains es e → is_extendable None files reads e ≡ is_extendable None before was e) → not_extendable None files reads es ≡ not_extendable None before was es
same_outside before was files reads [] same = refl
same_outside before was files reads (e ∷ es) same =
    ap₂ (λ (b : Bool) (x : List Flaw). flaw_if (not b) kind.NotExtendable e.number.token ++ x) (same e (contains_head e es))
    (same_outside before was files reads es (λ x c. same x (contains_later e x es c)))

module _ (places : List ℕ) (before : List FileOf) (was : List ReadOf) (files : List FileOf) (reads : List ReadOf) (are : AreSoundlyEdited places before was files reads) where
  -- ---- ranges of a file that is not edited

  module _ (a : At) (within : a.file < length files) (left : Contains places a.file → ⊥) where
    numbers_stay : number_at (scene_of None files reads a.file) ≡ number_at (scene_of None before was a.file)
    numbers_stay = λ i token. pos (number_value (word_at (same_lexemes places before was files reads are.edited a.file within left i) token))

    ranges_stay : (o : Option BlockOf) → ranges_within (scene_of None files reads a.file) o ≡ ranges_within (scene_of None before was a.file) o
    ranges_stay None = refl
    ranges_stay (Some b) = λ i. map (λ (r : Range ℕ). let x : RangeAt = record { token = r.first; first = numbers_stay i r.first; last = end_of most_field (numbers_stay i) r.first r.up_to } in x) (flat_map extension_ranges (statements b.within))

    ranges_left : extension_ranges_at None files reads a ≡ extension_ranges_at None before was a
    ranges_left =
        ranges_stay (find (λ b. is_message_at a.token b.header) (blocks_in (read_at reads a.file).tree))
        ∙ ap (λ (r : ReadOf). ranges_within (scene_of None before was a.file) (find (λ b. is_message_at a.token b.header) (blocks_in r.tree))) (same_reading places before was files reads are.edited a.file within left)

  -- ---- extensions of an unaffected file

  module _ (file : ℕ) (unaffected : IsUnaffectedFile places before was files reads file) where
    name_stays : (r : Reference) → name_meant files reads file r ≡ name_meant before was file r
    name_stays r =
        found_same (λ (u : Used ℕ). u.first == first_of r.dot r.words) (meaning_of files reads file) (meaning_of before was file) (uses_of reads file) unaffected.means
        ∙ ap (λ (x : ReadOf). option_and_then (meaning_of before was file) (find (λ (u : Used ℕ). u.first == first_of r.dot r.words) (names_in x).used)) (reading places before was files reads are file unaffected)

    extensions_stay : (cap : Option ℕ) → extensions_in cap files reads file ≡ extensions_in cap before was file
    extensions_stay cap =
        let named : BlockOf → Option (List (List ℕ)) = λ b. option_and_then (name_meant files reads file) (extendee_in b.header) in
        flat_map_same (block_extensions cap files reads file) (λ (b : BlockOf). extensions_of (scene_of cap before was file) (named b) b.within)
        (λ b. extensions_same (scene_of cap files reads file) (scene_of cap before was file) (scene_stays places before was files reads are file unaffected cap) (named b) b.within) (blocks_in (read_at reads file).tree)
        ∙ (λ i. flat_map (λ (b : BlockOf). extensions_of (scene_of cap before was file) (option_and_then (λ r. name_stays r i) (extendee_in b.header)) b.within) (blocks_in (reading places before was files reads are file unaffected i).tree))

    file_flaws_stay : (cap : Option ℕ) → file_flaws (scene_of cap files reads file) (read_at reads file).tree ≡ file_flaws (scene_of cap before was file) (read_at was file).tree
    file_flaws_stay cap =
        flaws_same (scene_of cap files reads file) (scene_of cap before was file) (scene_stays places before was files reads are file unaffected cap) (read_at reads file).tree
        ∙ ap (λ (r : ReadOf). file_flaws (scene_of cap before was file) r.tree) (reading places before was files reads are file unaffected)

  -- what an extension of an unaffected file extends is what it extended
  extended_stays : (a : At) → IsUnaffectedFile places before was files reads a.file → extended_at files reads a ≡ extended_at before was a
  extended_stays a unaffected = λ i.
      option_and_then (λ (b : BlockOf). option_and_then (λ (r : Reference). name_stays a.file unaffected r i) (extendee_in b.header))
      (find (has_extension_at a.token) (blocks_in (reading places before was files reads are a.file unaffected i).tree))

  module _ (extends : ExtendsAreUnaffected places before was files reads) where
    each_stays : (k : ℕ) → k < length files → extensions_in None files reads k ≡ extensions_in None before was k
    each_stays k l = by (extends.unaffected k l)
      where
        by : IsUnaffectedFile places before was files reads k ⊎ HasNoExtend was reads k → extensions_in None files reads k ≡ extensions_in None before was k
        by (inl unaffected) = extensions_stay k unaffected None
        by (inr none) = none_extend None files reads k none.1 ∙ sym (none_extend None before was k none.0)

    before_stays : (k : ℕ) → k < suc (length files) → extensions_before None files reads k ≡ extensions_before None before was k
    before_stays zero l = refl
    before_stays (suc k) l = ap₂ (λ (x y : List ExtensionOf). x ++ y) (before_stays k (omega (arith, l))) (each_stays k (omega (arith, l)))

    taken_stays : (file : ℕ) → IsUnaffectedFile places before was files reads file
        → taken_before (file_at files file).profile (extensions_before None files reads file) ≡ taken_before (file_at before file).profile (extensions_before None before was file)
    taken_stays file unaffected =
        ap₂ (λ (f : FileOf) (es : List ExtensionOf). taken_before f.profile es) (same_file places before was files reads are.edited file unaffected.within unaffected.left)
        (before_stays file (omega (arith, unaffected.within)))

    -- what an extension of an unaffected file extends stood in a file that is not edited
    extendee_elsewhere : (file : ℕ) → IsUnaffectedFile places before was files reads file → (e : ExtensionOf) → Contains (extensions_in None files reads file) e → (u : Used ℕ) → Contains (uses_of reads file) u → meaning_of files reads file u ≡ Some e.extendee → StoodElsewhere places before was e.extendee
    extendee_elsewhere file unaffected e c u there means = elim (extends.elsewhere file unaffected) [
      | inl none ↦ (let n : Contains [] e = subst (λ (es : List ExtensionOf). Contains es e) (none_extend None files reads file none) c in absurd (omega (arith, n.1)))
      | inr refers ↦ refers u e.extendee there means
    ]

    -- so the message leaves numbers to extensions as it did
    extendable_stays : (file : ℕ) → IsUnaffectedFile places before was files reads file → (e : ExtensionOf) → Contains (extensions_in None files reads file) e → is_extendable None files reads e ≡ is_extendable None before was e
    extendable_stays file unaffected e c =
        let u = extension_meant None files reads file e c in
        let x = name_left places before was files reads are file u.0 e.extendee (sym (unaffected.means u.0 u.1) ∙ u.2) (extendee_elsewhere file unaffected e c u.0 u.1 u.2) in
        let inside : List RangeAt → Bool = list_any (is_inside e.number.number) in
        ap (λ (o : Option (Declared At)). inside (ranges_at_place None files reads (option_map place_of o))) x.found_now
        ∙ ap inside (ranges_left (place_of x.declared) x.within x.left)
        ∙ sym (ap (λ (o : Option (Declared At)). inside (ranges_at_place None before was (option_map place_of o))) x.found_before)

    number_flaws_stay : (file : ℕ) → IsUnaffectedFile places before was files reads file → number_flaws None files reads file ≡ number_flaws None before was file
    number_flaws_stay file unaffected =
        ap₂ (λ (x y : List Flaw). x ++ y)
        (same_outside before was files reads (extensions_in None files reads file) (extendable_stays file unaffected)
        ∙ ap (not_extendable None before was) (extensions_stay file unaffected None))
        (ap₂ repeated_extensions (taken_stays file unaffected) (extensions_stay file unaffected None))

    -- ---- custom options of an unaffected file

    -- an extension that extended something stood in a file that is unaffected
    extending_unaffected : (a : At) (x : List (List ℕ)) → extended_at before was a ≡ Some x → IsUnaffectedFile places before was files reads a.file
    extending_unaffected a x e =
        elim (slice_get_cases was a.file).1 [
          | inl s ↦ by (extends.unaffected a.file (omega (arith, s.1, are.edited.were_read.same, as_many places before was files reads are.edited)))
          | inr s ↦ absurd (none-some x (sym (ap (λ (r : ReadOf). option_and_then (extendee_meant before was a.file) (find (has_extension_at a.token) (blocks_in r.tree))) (get_or_past was a.file (record { tokens = []; tree = End }) s.0)) ∙ e))
        ]
      where
        has_one : has_extend (read_at was a.file).tree ≡ true
        has_one =
            let b = and_then_parts (extendee_meant before was a.file) (find (has_extension_at a.token) (blocks_in (read_at was a.file).tree)) x e in
            let r = and_then_parts (name_meant before was a.file) (extendee_in b.0.header) x b.2 in
            any_from (λ (y : BlockOf). is_extend y.header) (blocks_in (read_at was a.file).tree) b.0
            (found_passes (has_extension_at a.token) (blocks_in (read_at was a.file).tree) b.0 b.1).0 (extends_something b.0.header r.0 r.1)

        by : IsUnaffectedFile places before was files reads a.file ⊎ HasNoExtend was reads a.file → IsUnaffectedFile places before was files reads a.file
        by (inl unaffected) = unaffected
        by (inr none) = absurd (true≢false (sym has_one ∙ none.0))

    option_extends_stays : (file : ℕ) → IsUnaffectedFile places before was files reads file → (r : Reference) (x : List (List ℕ)) → option_extends before was file r ≡ Some x → option_extends files reads file r ≡ Some x
    option_extends_stays file unaffected r x e =
        let n = and_then_parts (extended_by before was) (name_meant before was file r) x e in
        let d = and_then_parts (λ (d : Declared At). extended_at before was (place_of d)) (declared_as before was n.0) x n.2 in
        let declaring : IsUnaffectedFile places before was files reads (place_of d.0).file = extending_unaffected (place_of d.0) x d.2 in
        let u = found_by (λ (u : Used ℕ). u.first == first_of r.dot r.words) (meaning_of before was file) (uses_of was file) n.0 n.1 in
        let elsewhere : StoodElsewhere places before was n.0 = λ d' found c. declaring.left (subst (λ (y : Declared At). Contains places (place_of y).file) (same_Some d' d.0 (sym found ∙ d.1)) c) in
        let left = name_left places before was files reads are file u.0 n.0 u.2 elsewhere in
        let same : left.declared ≡ d.0 = same_Some left.declared d.0 (sym left.found_before ∙ d.1) in
        ap (option_and_then (extended_by files reads)) (name_stays file unaffected r ∙ n.1)
        ∙ ap (option_and_then (λ (y : Declared At). extended_at files reads (place_of y))) left.found_now
        ∙ ap (λ (y : Declared At). extended_at files reads (place_of y)) same
        ∙ extended_stays (place_of d.0) declaring
        ∙ d.2

    option_stays : (file : ℕ) → IsUnaffectedFile places before was files reads file → (c : CustomOf) → is_an_option before was file c ≡ true → is_an_option files reads file c ≡ true
    option_stays file unaffected c e = go (option_extends before was file c.custom.name) refl e
      where
        go : (o : Option (List (List ℕ))) → option_extends before was file c.custom.name ≡ o → is_the_message c.message o ≡ true → is_an_option files reads file c ≡ true
        go None is t = absurd (true≢false (sym t))
        go (Some x) is t = ap (is_the_message c.message) (option_extends_stays file unaffected c.custom.name x is) ∙ t

    options_stay : (file : ℕ) → IsUnaffectedFile places before was files reads file → (cs : List CustomOf) → not_an_option before was file cs ≡ [] → not_an_option files reads file cs ≡ []
    options_stay file unaffected [] e = refl
    options_stay file unaffected (c ∷ cs) e =
        let token : ℕ = first_of c.custom.name.dot c.custom.name.words in
        let parts = none_in_parts (flaw_if (not (is_an_option before was file c)) kind.NotAnOption token) (not_an_option before was file cs) e in
        let right : is_an_option files reads file c ≡ true = option_stays file unaffected c (no_flaw_if (is_an_option before was file c) token parts.0) in
        ap (λ (b : Bool). flaw_if (not b) kind.NotAnOption token ++ not_an_option files reads file cs) right
        ∙ options_stay file unaffected cs parts.1

    flawless_stays : (file : ℕ) → IsUnaffectedFile places before was files reads file → all_flaws None before was file ≡ [] → all_flaws None files reads file ≡ []
    flawless_stays file unaffected e =
        let own = none_in_parts (file_flaws (scene_of None before was file) (read_at was file).tree) (workspace_flaws None before was file) e in
        let others = none_in_parts (number_flaws None before was file) (custom_flaws before was file) own.1 in
        let right : custom_flaws files reads file ≡ [] =
        options_stay file unaffected (customs_in (read_at reads file).tree) (ap (λ (r : ReadOf). not_an_option before was file (customs_in r.tree)) (reading places before was files reads are file unaffected) ∙ others.1) in
        ap₂ (λ (x y : List Flaw). x ++ y) (file_flaws_stay file unaffected None ∙ own.0)
        (ap₂ (λ (x y : List Flaw). x ++ y) (number_flaws_stay file unaffected ∙ others.0) right)

pub unaffected_flaws_of_files_stay : UnaffectedFlawsOfFilesStay
unaffected_flaws_of_files_stay places before was files reads are file unaffected cap = file_flaws_stay places before was files reads are file unaffected cap

pub unaffected_files_stay_flawless : UnaffectedFilesStayFlawless
unaffected_files_stay_flawless places before was files reads are extends file unaffected none = flawless_stays places before was files reads are extends file unaffected none
