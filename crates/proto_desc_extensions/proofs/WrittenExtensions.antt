-- The extensions of a file as they are written, whatever cap their numbers have: each stands in an `extend` block of the file.
use Rattle.std.proofs.Common.{◌≡◌, ℕ, zero, suc, ℤ, not, List, [], ◌∷◌, ◌++◌, map, flat_map, Option, Some, None, option_and_then, refl, sym, ◌∙◌, ap, subst, arith, Contains, false}
use Rattle.proto_base.proofs.Common.{Contains-append_left, Contains-append_right, from_map, map-append}
use Rattle.proto_base.specs.declared.fault.FaultKind.TheVariants as kind
use Rattle.proto_base.specs.declared.profile.Profile.{Profile}
use Rattle.proto_base.specs.declared.profile.Profile.TheVariants as language
pub use Rattle.proto_base.proofs.Common.{from_flat_map}
use Rattle.proto_tree.specs.declared.piece.Header.{Header}
use Rattle.proto_tree.specs.declared.piece.Header.TheVariants as header
use Rattle.proto_tree.specs.Tree.{Tree}
use Rattle.proto_files.proofs.Common.{FileOf, ReadOf, file_at, read_at}
use Rattle.proto_ast.proofs.Common.{BlockOf, FieldOf, blocks_in, fields_in, number_at, options_in, Scene, meant_by}
use Rattle.proto_ast.specs.declared.options.Element.TheVariants as element
use Rattle.proto_desc_numbers.specs.declared.flaw.Flaw.{Flaw}
use Rattle.proto_desc_numbers.proofs.Common.{earlier, flaw, flaw_if, is_field_number, marked, number_of_field, outside}
use Rattle.proto_desc_numbers.proofs.CappedCovers.{contains_flat}
use Rattle.proto_desc_numbers.proofs.CappedRanges.{outside_here}
use Rattle.proto_desc_checks.proofs.Common.{bars_extend, block_flaws, extend_flaws, file_flaws, flaws_in_blocks, flaws_of_extension, option_flaws}
use Rattle.proto_resolved.specs.SceneOf.{scene_of}
use Rattle.proto_desc_extensions.specs.Common.{ExtensionOf, are_same, block_extensions, extendee_in, extensions_before, extensions_in, extensions_of, is_extendable, name_meant, not_extendable, repeated_extensions, taken_before, number_flaws}

-- an extension as it is written: where its number stands, and the name of what it extends
pub record Written : Type 0 where
  pub file : ℕ
  pub token : ℕ
  pub extendee : List (List ℕ)

module _ (files : List FileOf) (reads : List ReadOf) where
  abbrev pub scene : Option ℕ → ℕ → Scene
  scene cap file = scene_of cap files reads file

  abbrev pub written_number : Option ℕ → Written → ℤ
  written_number cap w = number_at (scene cap w.file) w.token

  abbrev pub as_extension : Option ℕ → Written → ExtensionOf
  as_extension cap w = record { number = record { token = w.token; number = written_number cap w }; extendee = w.extendee }

  abbrev written_as : ℕ → List (List ℕ) → FieldOf → Written
  written_as file name f = record { file = file; token = f.number; extendee = name }

  abbrev written_of : ℕ → Option (List (List ℕ)) → Tree → List Written
  written_of file None within = []
  written_of file (Some name) within = map (written_as file name) (fields_in within)

  abbrev extendee_by : ℕ → Header → Option (List (List ℕ))
  extendee_by file h = option_and_then (name_meant files reads file) (extendee_in h)

  abbrev pub written_block : ℕ → BlockOf → List Written
  written_block file b = written_of file (extendee_by file b.header) b.within

  abbrev pub written_in : ℕ → List Written
  written_in file = flat_map (written_block file) (blocks_in (read_at reads file).tree)

  abbrev pub written_before : ℕ → List Written
  written_before zero = []
  written_before (suc file) = written_before file ++ written_in file

  -- those whose numbers the extensions of the file may not have
  abbrev pub written_taken : ℕ → List Written
  written_taken file = taken_before (file_at files file).profile (written_before file)

  module _ (cap : Option ℕ) where
    fields_written : (file : ℕ) (name : List (List ℕ)) (fs : List FieldOf) → map (λ f. record { number = number_of_field (scene cap file) f; extendee = name }) fs ≡ map (as_extension cap) (map (written_as file name) fs)
    fields_written file name [] = refl
    fields_written file name (f ∷ fs) = ap (λ (es : List ExtensionOf). as_extension cap (written_as file name f) ∷ es) (fields_written file name fs)

    of_written : (file : ℕ) (o : Option (List (List ℕ))) (within : Tree) → extensions_of (scene cap file) o within ≡ map (as_extension cap) (written_of file o within)
    of_written file None within = refl
    of_written file (Some name) within = fields_written file name (fields_in within)

    blocks_written : (file : ℕ) (bs : List BlockOf) → flat_map (block_extensions cap files reads file) bs ≡ map (as_extension cap) (flat_map (written_block file) bs)
    blocks_written file [] = refl
    blocks_written file (b ∷ bs) =
        ap (λ (es : List ExtensionOf). es ++ flat_map (block_extensions cap files reads file) bs) (of_written file (extendee_by file b.header) b.within)
        ∙ ap (λ (es : List ExtensionOf). map (as_extension cap) (written_block file b) ++ es) (blocks_written file bs)
        ∙ sym (map-append (as_extension cap) (written_block file b) (flat_map (written_block file) bs))

    in_written : (file : ℕ) → extensions_in cap files reads file ≡ map (as_extension cap) (written_in file)
    in_written file = blocks_written file (blocks_in (read_at reads file).tree)

    before_written : (file : ℕ) → extensions_before cap files reads file ≡ map (as_extension cap) (written_before file)
    before_written zero = refl
    before_written (suc file) =
        ap (λ (es : List ExtensionOf). es ++ extensions_in cap files reads file) (before_written file)
        ∙ ap (λ (es : List ExtensionOf). map (as_extension cap) (written_before file) ++ es) (in_written file)
        ∙ sym (map-append (as_extension cap) (written_before file) (written_in file))

    taken_written : (file : ℕ) → taken_before (file_at files file).profile (extensions_before cap files reads file) ≡ map (as_extension cap) (written_taken file)
    taken_written file = by (file_at files file).profile
      where
        by : (p : Profile) → taken_before p (extensions_before cap files reads file) ≡ map (as_extension cap) (taken_before p (written_before file))
        by language.Core = before_written file
        by language.AsWritten = refl

    tokens_written : (ws : List Written) → map (λ e. e.number.token) (map (as_extension cap) ws) ≡ map (λ w. w.token) ws
    tokens_written [] = refl
    tokens_written (w ∷ ws) = ap (λ (ts : List ℕ). w.token ∷ ts) (tokens_written ws)

    abbrev pub outside_of : Written → List Flaw
    outside_of w = flaw_if (not (is_extendable cap files reads (as_extension cap w))) kind.NotExtendable w.token

    outside_written : (ws : List Written) → not_extendable cap files reads (map (as_extension cap) ws) ≡ flat_map outside_of ws
    outside_written [] = refl
    outside_written (w ∷ ws) = ap (λ (fs : List Flaw). outside_of w ++ fs) (outside_written ws)

    abbrev pub again_of : ℕ → List Flaw
    again_of file = marked kind.DuplicateExtension (map (λ w. w.token) (written_in file)) (earlier are_same (map (as_extension cap) (written_taken file)) (map (as_extension cap) (written_in file)))

    pub flaws_written : (file : ℕ) → number_flaws cap files reads file ≡ flat_map outside_of (written_in file) ++ again_of file
    flaws_written file =
        let taken : List ExtensionOf = taken_before (file_at files file).profile (extensions_before cap files reads file) in
        ap (λ (es : List ExtensionOf). not_extendable cap files reads es ++ repeated_extensions taken es) (in_written file)
        ∙ ap (λ (fs : List Flaw). fs ++ repeated_extensions taken (map (as_extension cap) (written_in file))) (outside_written (written_in file))
        ∙ ap (λ (es : List ExtensionOf). flat_map outside_of (written_in file) ++ repeated_extensions es (map (as_extension cap) (written_in file))) (taken_written file)
        ∙ ap (λ (ts : List ℕ). flat_map outside_of (written_in file) ++ marked kind.DuplicateExtension ts (earlier are_same (map (as_extension cap) (written_taken file)) (map (as_extension cap) (written_in file)))) (tokens_written (written_in file))

  -- ---- in the file alone

  module _ (d : Option ℕ) (file : ℕ) where
    abbrev outsides : Tree → List Flaw
    outsides within = outside is_field_number (map (number_of_field (scene d file)) (fields_in within))

    abbrev others : Tree → List Flaw
    others within = flat_map (flaws_of_extension (scene d file)) (fields_in within)

    -- a number outside its limits is a flaw of the file alone
    in_extend : (h : Header) (within : Tree) (w : Written) → Contains (written_of file (extendee_by file h) within) w → is_field_number (written_number d w) ≡ false → Contains (block_flaws (scene d file) h within) (flaw kind.NumberRange w.token)
    in_extend (header.Extend x) within w c e = by (extendee_by file (header.Extend x)) c
      where
        by : (o : Option (List (List ℕ))) → Contains (written_of file o within) w → Contains (extend_flaws (scene d file) x.keyword x.extendee within) (flaw kind.NumberRange w.token)
        by None c = absurd (omega (arith, c.1))
        by (Some name) c =
            let f = from_map (written_as file name) (fields_in within) w c in
            let limit : is_field_number (number_at (scene d file) f.0.number) ≡ false = ap (λ (x : Written). is_field_number (written_number d x)) f.2 ∙ e in
            let here : Contains (outsides within) (flaw kind.NumberRange f.0.number) =
            outside_here is_field_number (λ (y : FieldOf). y.number) (λ y. number_at (scene d file) y.number) (fields_in within) f.0 f.1 limit in
            Contains-append_right (flaw_if (bars_extend (scene d file).profile (scene d file).is_proto3 (meant_by (scene d file) x.extendee)) kind.NotInProto3 x.keyword) (outsides within ++ others within) (flaw kind.NumberRange w.token)
            (Contains-append_left (outsides within) (others within) (flaw kind.NumberRange w.token) (subst (λ (y : Written). Contains (outsides within) (flaw kind.NumberRange y.token)) f.2 here))
    in_extend whole within w c e = absurd (omega (arith, c.1))

    pub wrong_there : (w : Written) → Contains (written_in file) w → is_field_number (written_number d w) ≡ false → Contains (file_flaws (scene d file) (read_at reads file).tree) (flaw kind.NumberRange w.token)
    wrong_there w h e =
        let tree : Tree = (read_at reads file).tree in
        let b = from_flat_map (written_block file) (blocks_in tree) w h in
        Contains-append_right (option_flaws (scene d file) element.File (options_in tree)) (flaws_in_blocks (scene d file) tree) (flaw kind.NumberRange w.token)
        (contains_flat (λ (x : BlockOf). block_flaws (scene d file) x.header x.within) (blocks_in tree) b.0 (flaw kind.NumberRange w.token) b.1 (in_extend b.0.header b.0.within w b.2 e))
