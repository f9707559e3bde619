-- What is wrong with a file of a workspace as written is wrong with it in the core language, too (for the crates above).
use Rattle.std.proofs.Common.{◌≡◌, ℕ, Bool, true, false, not, ◌||◌, ◌==◌, List, [], ◌∷◌, ◌++◌, map, flat_map, Option, Some, None, option_and_then, option_map, refl, sym, ap, subst, ◌∙◌, true≢false, find}
use Rattle.proto_base.proofs.Common.{list_any, list_any-append}
use Rattle.proto_base.specs.Texts.{Text}
use Rattle.proto_base.specs.declared.fault.FaultKind.TheVariants as kind
use Rattle.proto_base.specs.declared.profile.Profile.{Profile}
use Rattle.proto_base.specs.declared.profile.Profile.TheVariants as language
use Rattle.proto_tree.specs.References.{first_of}
use Rattle.proto_tree.specs.Tree.{Tree}
use Rattle.proto_tree.specs.declared.tree.Reference.{Reference}
use Rattle.proto_files.proofs.Common.{FileOf, ReadOf, file_at, read_at}
use Rattle.proto_files.specs.Laws.{as_written}
use Rattle.proto_names_rules.proofs.Common.{At, Declared, Used, place_of}
use Rattle.proto_names.specs.Links.{uses_of}
use Rattle.proto_ast.proofs.Common.{BlockOf, Scene, blocks_in}
use Rattle.proto_custom_options.specs.CustomOptions.{CustomOf, customs_in}
use Rattle.proto_desc_numbers.specs.declared.flaw.Flaw.{Flaw}
use Rattle.proto_desc_numbers.proofs.Common.{earlier, flaw_if, is_inside, marked}
use Rattle.proto_desc_checks.specs.FileFlaws.{file_flaws}
use Rattle.proto_desc_checks.specs.Written.{in_language}
use Rattle.proto_desc_checks.proofs.WrittenFlaws.{Within, file_less, join, one_if, same}
use Rattle.proto_resolved.specs.SceneOf.{declared_as, scene_of}
use Rattle.proto_resolved.proofs.ScenesAsWritten.{declared_same, meaning_same, scene_same}
use Rattle.proto_desc_extensions.specs.Common.{ExtensionOf, all_flaws, are_same, block_extensions, extended_at, extended_by, extendee_in, extensions_before, extensions_in, extensions_of, has_extension_at, is_message_at, is_the_message, name_meant, not_extendable, option_extends, custom_flaws, ranges_at_place, ranges_named, ranges_within, repeated_extensions, taken_before, number_flaws}

-- ---- what is found again among fewer is found again among more

or_more : (a b c : Bool) → (a ≡ true → b ≡ true) → (a || c) ≡ true → (b || c) ≡ true
or_more true b c h m = ap (λ (z : Bool). z || c) (h refl)
or_more false true c h m = refl
or_more false false c h m = m

again_less : (ts : List ℕ) (es few more : List ExtensionOf) → ((e : ExtensionOf) → list_any (λ p. are_same p e) few ≡ true → list_any (λ p. are_same p e) more ≡ true)
    → Within (marked kind.DuplicateExtension ts (earlier are_same few es)) (marked kind.DuplicateExtension ts (earlier are_same more es))
again_less [] es few more h = same
again_less (t ∷ ts) [] few more h = same
again_less (t ∷ ts) (e ∷ es) few more h =
    join (one_if (list_any (λ p. are_same p e) few) (list_any (λ p. are_same p e) more) kind.DuplicateExtension t (h e))
    (again_less ts es (few ++ e ∷ []) (more ++ e ∷ []) one_more)
  where
    one_more : (x : ExtensionOf) → list_any (λ p. are_same p x) (few ++ e ∷ []) ≡ true → list_any (λ p. are_same p x) (more ++ e ∷ []) ≡ true
    one_more x m =
        list_any-append (λ p. are_same p x) more (e ∷ [])
        ∙ or_more (list_any (λ p. are_same p x) few) (list_any (λ p. are_same p x) more) (list_any (λ p. are_same p x) (e ∷ [])) (h x)
        (sym (list_any-append (λ p. are_same p x) few (e ∷ [])) ∙ m)

module _ (files : List FileOf) (reads : List ReadOf) where
  abbrev after : List FileOf
  after = map as_written files

  abbrev was : ℕ → Scene
  was k = scene_of None files reads k

  -- ---- the extensions are the same

  extends_same : (k : ℕ) (r : Reference) → name_meant after reads k r ≡ name_meant files reads k r
  extends_same k r = λ i. option_and_then (λ (u : Used ℕ). meaning_same files reads k u i) (find (λ (u : Used ℕ). u.first == first_of r.dot r.words) (uses_of reads k))

  -- the name of what a block extends
  abbrev extended : ℕ → BlockOf → Option (List Text)
  extended k b = option_and_then (name_meant files reads k) (extendee_in b.header)

  extended_same : (k : ℕ) (b : BlockOf) → option_and_then (name_meant after reads k) (extendee_in b.header) ≡ extended k b
  extended_same k b = λ i. option_and_then (λ (r : Reference). extends_same k r i) (extendee_in b.header)

  in_any_language : (p : Profile) (scene : Scene) (name : Option (List Text)) (within : Tree) → extensions_of (in_language p scene) name within ≡ extensions_of scene name within
  in_any_language p scene None within = refl
  in_any_language p scene (Some name) within = refl

  block_same : (k : ℕ) (b : BlockOf) → block_extensions None after reads k b ≡ block_extensions None files reads k b
  block_same k b =
      ap (λ (name : Option (List Text)). extensions_of (scene_of None after reads k) name b.within) (extended_same k b)
      ∙ ap (λ (scene : Scene). extensions_of scene (extended k b) b.within) (scene_same files reads None k)
      ∙ in_any_language (file_at after k).profile (was k) (extended k b) b.within

  extensions_same : (k : ℕ) → extensions_in None after reads k ≡ extensions_in None files reads k
  extensions_same k = λ i. flat_map (λ (b : BlockOf). block_same k b i) (blocks_in (read_at reads k).tree)

  -- ---- the ranges are the same

  ranges_in_any : (p : Profile) (scene : Scene) (o : Option BlockOf) → ranges_within (in_language p scene) o ≡ ranges_within scene o
  ranges_in_any p scene None = refl
  ranges_in_any p scene (Some b) = refl

  ranges_at_same : (o : Option At) → ranges_at_place None after reads o ≡ ranges_at_place None files reads o
  ranges_at_same None = refl
  ranges_at_same (Some a) =
      let found : Option BlockOf = find (λ (b : BlockOf). is_message_at a.token b.header) (blocks_in (read_at reads a.file).tree) in
      ap (λ (scene : Scene). ranges_within scene found) (scene_same files reads None a.file)
      ∙ ranges_in_any (file_at after a.file).profile (was a.file) found

  ranges_same : (name : List Text) → ranges_named None after reads name ≡ ranges_named None files reads name
  ranges_same name =
      ap (λ (o : Option (Declared At)). ranges_at_place None after reads (option_map place_of o)) (declared_same files reads name)
      ∙ ranges_at_same (option_map place_of (declared_as files reads name))

  outside_same : (es : List ExtensionOf) → not_extendable None after reads es ≡ not_extendable None files reads es
  outside_same es = λ i. flat_map (λ (e : ExtensionOf). flaw_if (not (list_any (is_inside e.number.number) (ranges_same e.extendee i))) kind.NotExtendable e.number.token) es

  -- ---- the options are the same

  extended_at_same : (a : At) → extended_at after reads a ≡ extended_at files reads a
  extended_at_same a = λ i. option_and_then (λ (b : BlockOf). extended_same a.file b i) (find (has_extension_at a.token) (blocks_in (read_at reads a.file).tree))

  extended_by_same : (name : List Text) → extended_by after reads name ≡ extended_by files reads name
  extended_by_same name =
      ap (option_and_then (λ (d : Declared At). extended_at after reads (place_of d))) (declared_same files reads name)
      ∙ (λ i. option_and_then (λ (d : Declared At). extended_at_same (place_of d) i) (declared_as files reads name))

  option_extends_same : (k : ℕ) (r : Reference) → option_extends after reads k r ≡ option_extends files reads k r
  option_extends_same k r =
      ap (option_and_then (extended_by after reads)) (extends_same k r)
      ∙ (λ i. option_and_then (λ (name : List Text). extended_by_same name i) (name_meant files reads k r))

  options_same : (k : ℕ) → custom_flaws after reads k ≡ custom_flaws files reads k
  options_same k = λ i. flat_map (λ (c : CustomOf). flaw_if (not (is_the_message c.message (option_extends_same k c.custom.name i))) kind.NotAnOption (first_of c.custom.name.dot c.custom.name.words)) (customs_in (read_at reads k).tree)

  -- ---- what is wrong with a file

  module _ (k : ℕ) (now : (file_at after k).profile ≡ language.AsWritten) where
    abbrev own : List ExtensionOf
    own = extensions_in None files reads k

    abbrev tree : Tree
    tree = (read_at reads k).tree

    numbers_now : number_flaws None after reads k ≡ not_extendable None files reads own ++ repeated_extensions [] own
    numbers_now =
        ap (λ (p : Profile). not_extendable None after reads (extensions_in None after reads k) ++ repeated_extensions (taken_before p (extensions_before None after reads k)) (extensions_in None after reads k)) now
        ∙ ap (λ (es : List ExtensionOf). not_extendable None after reads es ++ repeated_extensions [] es) (extensions_same k)
        ∙ ap (λ (fs : List Flaw). fs ++ repeated_extensions [] own) (outside_same own)

    numbers_less : Within (number_flaws None after reads k) (number_flaws None files reads k)
    numbers_less =
        subst (λ (fs : List Flaw). Within fs (number_flaws None files reads k)) (sym numbers_now)
        (join (same {xs = not_extendable None files reads own})
        (again_less (map (λ (e : ExtensionOf). e.number.token) own) own [] (taken_before (file_at files k).profile (extensions_before None files reads k)) (λ e m. absurd (true≢false (sym m)))))

    pub all_less : (file_at files k).profile ≡ language.Core → Within (all_flaws None after reads k) (all_flaws None files reads k)
    all_less core =
        join own_less (subst (λ (fs : List Flaw). Within (number_flaws None after reads k ++ fs) (number_flaws None files reads k ++ custom_flaws files reads k)) (sym (options_same k)) (join numbers_less (same {xs = custom_flaws files reads k})))
      where
        scene_now : scene_of None after reads k ≡ in_language language.AsWritten (was k)
        scene_now = scene_same files reads None k ∙ ap (λ (p : Profile). in_language p (was k)) now

        scene_was : was k ≡ in_language language.Core (was k)
        scene_was = ap (λ (p : Profile). in_language p (was k)) core

        own_less : Within (file_flaws (scene_of None after reads k) tree) (file_flaws (was k) tree)
        own_less =
            subst (λ (scene : Scene). Within (file_flaws (scene_of None after reads k) tree) (file_flaws scene tree)) (sym scene_was)
            (subst (λ (scene : Scene). Within (file_flaws scene tree) (file_flaws (in_language language.Core (was k)) tree)) (sym scene_now) (file_less (was k) tree))
