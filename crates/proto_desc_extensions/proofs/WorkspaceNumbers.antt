-- The flaws of a file's extensions as they are told are those of the definition: names are told apart by their texts.
use Rattle.std.proofs.Common.{◌≡◌, ℕ, zero, suc, Bool, not, ◌&&◌, ◌||◌, List, [], ◌∷◌, ◌++◌, map, flat_map, Option, Some, None, option_and_then, refl, sym, ap, subst, ◌∙◌, bytes_eq, int_eq, find, ◌==◌}
use Rattle.proto_base.proofs.Common.{AllByRecursion, bytes_eq-Decides, list_any, map-append}
use Rattle.proto_base.specs.declared.fault.FaultKind.TheVariants as kind
use Rattle.proto_base.specs.declared.profile.Profile.{Profile}
use Rattle.proto_base.specs.declared.profile.Profile.TheVariants as language
use Rattle.proto_tree.specs.References.{first_of}
use Rattle.proto_tree.specs.declared.tree.Reference.{Reference}
use Rattle.proto_files.proofs.Common.{FileOf, ReadOf, file_at, read_at}
use Rattle.proto_names_rules.proofs.Common.{ArePlain, joined, joined_apart, meant, name_from_same, same_from_name, same_name, Used}
use Rattle.proto_names.specs.Links.{names_of_files, text_of, uses_of, used_named}
use Rattle.proto_names.proofs.Common.{IsLinkRead, LinkOf}
use Rattle.proto_ast.proofs.Common.{BlockOf, FieldOf, blocks_in, fields_in, past, Scene}
use Rattle.proto_desc_numbers.specs.declared.flaw.Flaw.{Flaw}
use Rattle.proto_desc_numbers.proofs.Common.{earlier, flaw_if, marked, number_of_field}
use Rattle.proto_desc_numbers.proofs.CappedRanges.{agree}
use Rattle.proto_desc_checks.proofs.FlawTokens.{both}
use Rattle.proto_resolved.specs.SceneOf.{meaning_of, scene_of}
use Rattle.indexmap.specs.IndexSet.{IndexSet}
use Rattle.proto_desc_extensions.specs.Common.{ExtensionOf, HasSeen, Key, Told, again, are_one, are_same, block_extensions, extendee_in, extensions_before, extensions_in, extensions_of, is_extendable, name_meant, not_extendable, outside_ranges, repeated_extensions, taken_before, told, number_flaws}

abbrev pub HasPlainName : ExtensionOf → Type 0
HasPlainName e = ArePlain e.extendee

-- plain names are told apart by their texts
same_text : (a b : List (List ℕ)) → ArePlain a → ArePlain b → bytes_eq (joined a) (joined b) ≡ same_name a b
same_text a b p q =
    agree (bytes_eq (joined a) (joined b)) (same_name a b)
    (λ e. same_from_name a b (joined_apart a b p q ((bytes_eq-Decides (joined a) (joined b)).0 e)))
    (λ e. (bytes_eq-Decides (joined a) (joined b)).1 (ap joined (name_from_same a b e)))

module _ (files : List FileOf) (reads : List ReadOf) where
  abbrev T : ExtensionOf → Told
  T = told files reads

  outside_told : (es : List ExtensionOf) → outside_ranges (map T es) ≡ not_extendable (Some past) files reads es
  outside_told [] = refl
  outside_told (e ∷ es) = ap (λ (fs : List Flaw). flaw_if (not (is_extendable (Some past) files reads e)) kind.NotExtendable e.number.token ++ fs) (outside_told es)

  one_told : (before : List ExtensionOf) (e : ExtensionOf) → AllByRecursion HasPlainName before → HasPlainName e → list_any (λ p. are_one p (T e)) (map T before) ≡ list_any (λ p. are_same p e) before
  one_told [] e h k = refl
  one_told (b ∷ before) e h k =
      ap (λ (t : Bool). (t && int_eq b.number.number e.number.number) || list_any (λ p. are_one p (T e)) (map T before)) (same_text b.extendee e.extendee h.0 k)
      ∙ ap (λ (t : Bool). are_same b e || t) (one_told before e h.1 k)

  earlier_told : (before es : List ExtensionOf) → AllByRecursion HasPlainName before → AllByRecursion HasPlainName es → earlier are_one (map T before) (map T es) ≡ earlier are_same before es
  earlier_told before [] h k = refl
  earlier_told before (e ∷ es) h k =
      ap (λ (t : Bool). t ∷ earlier are_one (map T before ++ T e ∷ []) (map T es)) (one_told before e h k.0)
      ∙ ap (λ (flags : List Bool). list_any (λ p. are_same p e) before ∷ flags)
      (ap (λ (ts : List Told). earlier are_one ts (map T es)) (sym (map-append T before (e ∷ []))) ∙ earlier_told (before ++ e ∷ []) es (both HasPlainName before (e ∷ []) h (k.0, tt)) k.1)

  tokens_told : (es : List ExtensionOf) → map (λ t. t.number.token) (map T es) ≡ map (λ e. e.number.token) es
  tokens_told [] = refl
  tokens_told (e ∷ es) = ap (λ (ts : List ℕ). e.number.token ∷ ts) (tokens_told es)

  again_told : (before es : List ExtensionOf) → AllByRecursion HasPlainName before → AllByRecursion HasPlainName es → again (map T before) (map T es) ≡ repeated_extensions before es
  again_told before es h k =
      ap (λ (ts : List ℕ). marked kind.DuplicateExtension ts (earlier are_one (map T before) (map T es))) (tokens_told es)
      ∙ ap (marked kind.DuplicateExtension (map (λ (e : ExtensionOf). e.number.token) es)) (earlier_told before es h k)

  -- those that are taken before
  taken_told : (p : Profile) (before : List ExtensionOf) → taken_before p (map T before) ≡ map T (taken_before p before)
  taken_told language.Core before = refl
  taken_told language.AsWritten before = refl

  taken_plain : (p : Profile) (before : List ExtensionOf) → AllByRecursion HasPlainName before → AllByRecursion HasPlainName (taken_before p before)
  taken_plain language.Core before h = h
  taken_plain language.AsWritten before h = tt

  -- ---- names that are meant are plain

  module _ (l : LinkOf) (link : IsLinkRead files reads l) where
    pub plain_name : (file : ℕ) (u : Option (Used ℕ)) (name : List (List ℕ)) → option_and_then (meaning_of files reads file) u ≡ Some name → ArePlain name
    plain_name file None name e = absurd (cc)
    plain_name file (Some u) name e =
        let t = meant (names_of_files files reads) (used_named (text_of files reads) file u) name e in
        subst ArePlain t.2 (link.by.names.plain t.0 t.1)

    plain_fields : (scene : Scene) (name : List (List ℕ)) (fs : List FieldOf) → ArePlain name → AllByRecursion HasPlainName (map (λ f. record { number = number_of_field scene f; extendee = name }) fs)
    plain_fields scene name [] h = tt
    plain_fields scene name (f ∷ fs) h = (h, plain_fields scene name fs h)

    plain_block : (file : ℕ) (b : BlockOf) → AllByRecursion HasPlainName (block_extensions (Some past) files reads file b)
    plain_block file b = go (extendee_in b.header)
      where
        by : (o : Option (List (List ℕ))) → ((name : List (List ℕ)) → o ≡ Some name → ArePlain name) → AllByRecursion HasPlainName (extensions_of (scene_of (Some past) files reads file) o b.within)
        by None h = tt
        by (Some name) h = plain_fields (scene_of (Some past) files reads file) name (fields_in b.within) (h name refl)

        go : (r : Option Reference) → AllByRecursion HasPlainName (extensions_of (scene_of (Some past) files reads file) (option_and_then (name_meant files reads file) r) b.within)
        go None = tt
        go (Some r) = by (name_meant files reads file r) (plain_name file (find (λ u. u.first == first_of r.dot r.words) (uses_of reads file)))

    plain_blocks : (file : ℕ) (bs : List BlockOf) → AllByRecursion HasPlainName (flat_map (block_extensions (Some past) files reads file) bs)
    plain_blocks file [] = tt
    plain_blocks file (b ∷ bs) = both HasPlainName (block_extensions (Some past) files reads file b) (flat_map (block_extensions (Some past) files reads file) bs) (plain_block file b) (plain_blocks file bs)

    plain_before : (file : ℕ) → AllByRecursion HasPlainName (extensions_before (Some past) files reads file)
    plain_before zero = tt
    plain_before (suc file) = both HasPlainName (extensions_before (Some past) files reads file) (extensions_in (Some past) files reads file) (plain_before file) (plain_blocks file (blocks_in (read_at reads file).tree))

    -- what is found in a file is what is wrong with it
    pub flaws_told : (file : ℕ) (p : Profile) → p ≡ (file_at files file).profile → (es : List Told) → es ≡ map T (extensions_in (Some past) files reads file)
        → outside_ranges es ++ again (taken_before p (map T (extensions_before (Some past) files reads file))) es ≡ number_flaws (Some past) files reads file
    flaws_told file p q es is =
        let own : List ExtensionOf = extensions_in (Some past) files reads file in
        let before : List ExtensionOf = extensions_before (Some past) files reads file in
        let profile : Profile = (file_at files file).profile in
        ap (λ (r : Profile). outside_ranges es ++ again (taken_before r (map T before)) es) q
        ∙ ap (λ (ts : List Told). outside_ranges ts ++ again (taken_before profile (map T before)) ts) is
        ∙ ap (λ (fs : List Flaw). fs ++ again (taken_before profile (map T before)) (map T own)) (outside_told own)
        ∙ ap (λ (ts : List Told). not_extendable (Some past) files reads own ++ again ts (map T own)) (taken_told profile before)
        ∙ ap (λ (fs : List Flaw). not_extendable (Some past) files reads own ++ fs)
        (again_told (taken_before profile before) own (taken_plain profile before (plain_before file)) (plain_blocks file (blocks_in (read_at reads file).tree)))

  pub before_more : (file next : ℕ) → next ≡ suc file → (es : List Told) → es ≡ map T (extensions_in (Some past) files reads file)
      → map T (extensions_before (Some past) files reads file) ++ es ≡ map T (extensions_before (Some past) files reads next)
  before_more file next n es is =
      ap (λ (ts : List Told). map T (extensions_before (Some past) files reads file) ++ ts) is
      ∙ sym (map-append T (extensions_before (Some past) files reads file) (extensions_in (Some past) files reads file))
      ∙ ap (λ (k : ℕ). map T (extensions_before (Some past) files reads k)) (sym n)

  -- what is seen behind the file is seen before the next
  pub seen_more : {S : Type 0} (file next : ℕ) → next ≡ suc file → (es : List Told) → es ≡ map T (extensions_in (Some past) files reads file) → (seen : IndexSet Key S)
      → HasSeen seen (map T (extensions_before (Some past) files reads file) ++ es) → HasSeen seen (map T (extensions_before (Some past) files reads next))
  seen_more file next n es is seen h = subst (HasSeen seen) (before_more file next n es is) h
