-- The extensions of a file, block by block, as they are told.
use Rattle.std.proofs.Common.{◌≡◌, ℕ, ◌+◌, ◌<◌, false, List, [], ◌∷◌, ◌++◌, length, get_or, take, map, flat_map, Option, Some, None, option_and_then, refl, sym, ap, ◌∙◌, true≢false}
use Rattle.proto_base.proofs.Common.{flat_map_more, map-append, take_more}
use Rattle.proto_tree.specs.declared.piece.Header.{Header}
use Rattle.proto_tree.specs.declared.piece.Header.TheVariants as header
use Rattle.proto_tree.specs.declared.tree.Extend.{Extend}
use Rattle.proto_tree.specs.File.{extension_tree, trees}
use Rattle.proto_tree.specs.Tree.{Tree}
use Rattle.proto_files.proofs.Common.{FileOf, ReadOf}
use Rattle.proto_names_rules.specs.Joined.{joined}
use Rattle.proto_ast.proofs.Common.{BlockOf, FieldOf, blocks_in, fields_in, past, Scene}
use Rattle.proto_ast.specs.declared.ranges.RangeAt.{RangeAt}
use Rattle.proto_desc_numbers.specs.RangeIndex.{IsRangeIndexOf}
use Rattle.proto_desc_numbers.proofs.Common.{number_of_field}
use Rattle.proto_resolved.specs.SceneOf.{scene_of}
use Rattle.proto_resolved.specs.Blocks.{block_of, extend_block, holders_in, may_hold}
use Rattle.proto_resolved.specs.declared.blocks.BlockAt.{BlockAt}
use Rattle.proto_resolved.proofs.Holders.{given_by_holders}
use Rattle.proto_desc_extensions.specs.Common.{Extendee, ExtensionAt, ExtensionOf, IsExtendee, Told, block_extensions, extendee_in, extensions_of, name_meant, ranges_named, told, told_by, told_number}

module _ (files : List FileOf) (reads : List ReadOf) where
  told_fields : (scene : Scene) (name : List (List ℕ)) (fs : List FieldOf)
      → map (told files reads) (map (λ f. record { number = number_of_field scene f; extendee = name }) fs) ≡ map (told_number (joined name) (ranges_named (Some past) files reads name)) (map (number_of_field scene) fs)
  told_fields scene name [] = refl
  told_fields scene name (f ∷ fs) = ap (λ (ts : List Told). told_number (joined name) (ranges_named (Some past) files reads name) (number_of_field scene f) ∷ ts) (told_fields scene name fs)

  -- the fields of an `extend` block whose extendee means this name
  pub told_block : (file : ℕ) (b : BlockOf) (name : List (List ℕ)) → option_and_then (name_meant files reads file) (extendee_in b.header) ≡ Some name
      → map (told files reads) (block_extensions (Some past) files reads file b) ≡ map (told_number (joined name) (ranges_named (Some past) files reads name)) (map (number_of_field (scene_of (Some past) files reads file)) (fields_in b.within))
  told_block file b name e =
      ap (λ (o : Option (List (List ℕ))). map (told files reads) (extensions_of (scene_of (Some past) files reads file) o b.within)) e
      ∙ told_fields (scene_of (Some past) files reads file) name (fields_in b.within)

  -- a block without such an extendee has none
  pub none_told : (file : ℕ) (b : BlockOf) → option_and_then (name_meant files reads file) (extendee_in b.header) ≡ None → map (told files reads) (block_extensions (Some past) files reads file b) ≡ []
  none_told file b e = ap (λ (o : Option (List (List ℕ))). map (told files reads) (extensions_of (scene_of (Some past) files reads file) o b.within)) e

  -- an `extend` block whose fields were added
  pub pushed_block : (file : ℕ) (extend : Extend) (x : Extendee) (scene : Scene) → scene ≡ scene_of (Some past) files reads file → IsExtendee files reads file extend.extendee (Some x) → (b : BlockAt) → block_of b ≡ extend_block extend → (old new : List Told)
      → ((ranges : List RangeAt) → IsRangeIndexOf ranges x.ranges.now → new ≡ old ++ map (told_number x.name.now ranges) (map (number_of_field scene) (fields_in (trees extension_tree extend.fields.items))))
      → new ≡ old ++ map (told files reads) (block_extensions (Some past) files reads file (block_of b))
  pushed_block file extend x scene is e b block old new pushed =
      let ranges : List RangeAt = ranges_named (Some past) files reads e.0 in
      let fs : List FieldOf = fields_in (trees extension_tree extend.fields.items) in
      pushed ranges e.3
      ∙ ap (λ (t : List ℕ). old ++ map (told_number t ranges) (map (number_of_field scene) fs)) e.2
      ∙ ap (λ (s : Scene). old ++ map (told_number (joined e.0) ranges) (map (number_of_field s) fs)) is
      ∙ ap (λ (ts : List Told). old ++ ts) (sym (told_block file (extend_block extend) e.0 e.1))
      ∙ ap (λ (y : BlockOf). old ++ map (told files reads) (block_extensions (Some past) files reads file y)) (sym block)

  -- ---- all blocks

  pub told_turn : (file : ℕ) (blocks : List BlockAt) (i : ℕ) (b : BlockAt) (found next : List ExtensionAt) → i < length blocks → b ≡ get_or blocks i b
      → map told_by found ≡ map (told files reads) (flat_map (block_extensions (Some past) files reads file) (map block_of (take i blocks)))
      → map told_by next ≡ map told_by found ++ map (told files reads) (block_extensions (Some past) files reads file (block_of b))
      → map told_by next ≡ map (told files reads) (flat_map (block_extensions (Some past) files reads file) (map block_of (take (i + 1) blocks)))
  told_turn file blocks i b found next l is before new =
      let E : BlockOf → List ExtensionOf = block_extensions (Some past) files reads file in
      let front : List BlockOf = map block_of (take i blocks) in
      let more : map block_of (take (i + 1) blocks) ≡ front ++ block_of b ∷ [] =
      ap (map block_of) (take_more blocks i b l) ∙ map-append block_of (take i blocks) (get_or blocks i b ∷ []) ∙ ap (λ (x : BlockAt). front ++ block_of x ∷ []) (sym is) in
      new
      ∙ ap (λ (ts : List Told). ts ++ map (told files reads) (E (block_of b))) before
      ∙ sym (map-append (told files reads) (flat_map E front) (E (block_of b)))
      ∙ ap (map (told files reads)) (flat_map_more E [] front (block_of b))
      ∙ ap (λ (bs : List BlockOf). map (told files reads) (flat_map E bs)) (sym more)

  no_holder : (file : ℕ) (b : BlockOf) → may_hold b.header ≡ false → block_extensions (Some past) files reads file b ≡ []
  no_holder file b e = ap (λ (o : Option (List (List ℕ))). extensions_of (scene_of (Some past) files reads file) o b.within) (none b.header e)
    where
      none : (h : Header) → may_hold h ≡ false → option_and_then (name_meant files reads file) (extendee_in h) ≡ None
      none (header.Extend x) t = absurd (true≢false t)
      none whole t = refl

  -- the blocks that are listed have all extensions
  pub from_holders : (file : ℕ) (tree : Tree) → flat_map (block_extensions (Some past) files reads file) (holders_in tree) ≡ flat_map (block_extensions (Some past) files reads file) (blocks_in tree)
  from_holders file = given_by_holders (block_extensions (Some past) files reads file) (no_holder file)
