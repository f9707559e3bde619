-- What is wrong with the files of a workspace, with one cap and another: the least flaw is the same (for the crates above).
use Rattle.std.proofs.Common.{◌≡◌, ◌⊎◌, ℕ, ◌<◌, ℤ, pos, Bool, true, false, not, ◌&&◌, ◌||◌, List, [], ◌∷◌, ◌++◌, map, flat_map, Option, Some, None, option_map, refl, sym, ◌∙◌, ap, subst, inl, inr, arith, Contains, find, int_eq}
use Rattle.proto_base.proofs.Common.{Contains-append_left, cases_Bool, contains_head, contains_later, list_any, kind_number, or_cases, or_right}
use Rattle.proto_base.specs.declared.fault.FaultKind.{FaultKind}
use Rattle.proto_base.specs.declared.fault.FaultKind.TheVariants as kind
use Rattle.proto_tree.specs.declared.tree.Range.{Range}
use Rattle.proto_files.proofs.Common.{FileOf, ReadOf, read_at}
use Rattle.proto_names_rules.proofs.Common.{At, place_of, same_name}
use Rattle.proto_ast.proofs.Common.{BlockOf, blocks_in, extension_ranges, number_at, past, Scene, statements}
use Rattle.proto_desc_numbers.specs.declared.flaw.Flaw.{Flaw}
use Rattle.proto_desc_numbers.proofs.Common.{Alike, AlikeCaps, alike_at, alike_end, caps_back, field_limit, flaw, is_field_number, is_inside, is_near, most_field, past_or_none, end_of}
use Rattle.proto_desc_numbers.proofs.CappedNumbers.{numbers_same}
use Rattle.proto_desc_numbers.proofs.CappedCovers.{Beneath, Covered, covered_equal, covered_if, covered_join, covered_more, least_kept, marked_from}
use Rattle.proto_desc_numbers.proofs.CappedRanges.{inside_same, number_same}
use Rattle.proto_desc_checks.proofs.Common.{file_flaws}
use Rattle.proto_desc_checks.proofs.CappedFlaws.{covered_file}
use Rattle.proto_resolved.specs.SceneOf.{declared_as, scene_of}
use Rattle.proto_desc_extensions.specs.Capped.{CapsKeepTheLeastOfFile}
use Rattle.proto_desc_extensions.specs.Common.{ExtensionOf, all_flaws, are_same, is_extendable, is_message_at, number_flaws, custom_flaws, ranges_at_place, ranges_named, ranges_within, workspace_flaws}
use Rattle.proto_desc_extensions.proofs.WrittenExtensions.{Written, again_of, as_extension, flaws_written, outside_of, written_in, written_number, written_taken, wrong_there}

module _ (files : List FileOf) (reads : List ReadOf) where
  abbrev scene : Option ℕ → ℕ → Scene
  scene cap file = scene_of cap files reads file

  abbrev number : Option ℕ → Written → ℤ
  number cap w = written_number files reads cap w

  abbrev ext : Option ℕ → Written → ExtensionOf
  ext cap w = as_extension files reads cap w

  -- ---- one cap and another

  module _ (c d : Option ℕ) (caps : AlikeCaps c d) where
    number_alike : (w : Written) → Alike (number c w) (number d w)
    number_alike w = alike_at (scene None w.file) c d caps w.token

    same_number : (w : Written) → is_field_number (number c w) ≡ true → number c w ≡ number d w
    same_number w e = number_same is_field_number field_limit (λ (x : Written). x.token) (number c) (number d) number_alike w e

    -- the ranges hold the same of the numbers that are near
    within_same : (file : ℕ) (o : Option BlockOf) (n : ℤ) → is_near n ≡ true → list_any (is_inside n) (ranges_within (scene c file) o) ≡ list_any (is_inside n) (ranges_within (scene d file) o)
    within_same file None n near = refl
    within_same file (Some b) n near =
        inside_same (pos 1) most_field refl refl (λ (r : Range ℕ). r.first)
        (λ r. number_at (scene c file) r.first) (λ r. end_of most_field (number_at (scene c file)) r.first r.up_to) (λ r. number_at (scene d file) r.first) (λ r. end_of most_field (number_at (scene d file)) r.first r.up_to)
        (λ r. alike_at (scene None file) c d caps r.first) (λ r. alike_end most_field (number_at (scene c file)) (number_at (scene d file)) (alike_at (scene None file) c d caps) r.first r.up_to)
        n near (flat_map extension_ranges (statements b.within))

    place_same : (o : Option At) (n : ℤ) → is_near n ≡ true → list_any (is_inside n) (ranges_at_place c files reads o) ≡ list_any (is_inside n) (ranges_at_place d files reads o)
    place_same None n near = refl
    place_same (Some a) n near = within_same a.file (find (λ b. is_message_at a.token b.header) (blocks_in (read_at reads a.file).tree)) n near

    same_extendable : (w : Written) → is_field_number (number c w) ≡ true → is_extendable c files reads (ext c w) ≡ is_extendable d files reads (ext d w)
    same_extendable w e =
        place_same (option_map place_of (declared_as files reads w.extendee)) (number c w) (field_limit.near (number c w) e)
        ∙ ap (λ (n : ℤ). list_any (is_inside n) (ranges_named d files reads w.extendee)) (same_number w e)

    module _ (file : ℕ) where
      abbrev zs : List Flaw
      zs = all_flaws d files reads file

      abbrev own : List Flaw
      own = file_flaws (scene d file) (read_at reads file).tree

      -- a number outside its limits is a flaw of the file alone
      limited : (w : Written) → Contains (written_in files reads file) w → is_field_number (number c w) ≡ false → Contains zs (flaw kind.NumberRange w.token)
      limited w h e =
          Contains-append_left own (workspace_flaws d files reads file) (flaw kind.NumberRange w.token)
          (wrong_there files reads d file w h (sym (field_limit.same (number c w) (number d w) (number_alike w)) ∙ e))

      beneath : (k : FaultKind) → kind_number kind.NumberRange < kind_number k → (w : Written) → Contains (written_in files reads file) w → is_field_number (number c w) ≡ false → Beneath zs (flaw k w.token)
      beneath k l w h e = (flaw kind.NumberRange w.token, limited w h e, refl, l)

      -- ---- numbers that are not left to extensions

      still_outside : (w : Written) → Contains (written_in files reads file) w → not (is_extendable c files reads (ext c w)) ≡ true → (not (is_extendable d files reads (ext d w)) ≡ true) ⊎ Beneath zs (flaw kind.NotExtendable w.token)
      still_outside w h e = elim (cases_Bool (is_field_number (number c w))) [
        | inl t ↦ inl (ap not (sym (same_extendable w t)) ∙ e)
        | inr f ↦ inr (beneath kind.NotExtendable (omega arith) w h f)
      ]

      covered_outside : (ws : List Written) → ((w : Written) → Contains ws w → Contains (written_in files reads file) w) → Covered zs (flat_map (outside_of files reads c) ws) (flat_map (outside_of files reads d) ws)
      covered_outside [] within = covered_equal zs [] [] refl
      covered_outside (w ∷ ws) within =
          covered_join zs (outside_of files reads c w) (outside_of files reads d w) (flat_map (outside_of files reads c) ws) (flat_map (outside_of files reads d) ws)
          (covered_if zs kind.NotExtendable w.token (not (is_extendable c files reads (ext c w))) (not (is_extendable d files reads (ext d w))) (still_outside w (within w (contains_head w ws))))
          (covered_outside ws (λ x h. within x (contains_later w x ws h)))

      -- ---- numbers that are given again

      same_still : (a b : Written) → is_field_number (number c b) ≡ true → are_same (ext c a) (ext c b) ≡ true → are_same (ext d a) (ext d b) ≡ true
      same_still a b t e = go (same_name a.extendee b.extendee) refl e
        where
          go : (s : Bool) → same_name a.extendee b.extendee ≡ s → (s && int_eq (number c a) (number c b)) ≡ true → (same_name a.extendee b.extendee && int_eq (number d a) (number d b)) ≡ true
          go true n h =
              let first : number c a ≡ number d a = same_number a (ap is_field_number (numbers_same (number c a) (number c b) h) ∙ t) in
              ap (λ (s : Bool). s && int_eq (number d a) (number d b)) n
              ∙ ap (λ (x : ℤ). int_eq x (number d b)) (sym first) ∙ ap (λ (x : ℤ). int_eq (number c a) x) (sym (same_number b t)) ∙ h
          go false n h = absurd (cc)

      still_same : (a b : Written) → Contains (written_in files reads file) b → are_same (ext c a) (ext c b) ≡ true → (are_same (ext d a) (ext d b) ≡ true) ⊎ Beneath zs (flaw kind.DuplicateExtension b.token)
      still_same a b h e = elim (cases_Bool (is_field_number (number c b))) [
        | inl t ↦ inl (same_still a b t e)
        | inr f ↦ inr (beneath kind.DuplicateExtension (omega arith) b h f)
      ]

      any_still : (b : Written) → is_field_number (number c b) ≡ true → (ws : List Written) → list_any (λ p. are_same p (ext c b)) (map (ext c) ws) ≡ true → list_any (λ p. are_same p (ext d b)) (map (ext d) ws) ≡ true
      any_still b t [] e = e
      any_still b t (w ∷ ws) e = elim (or_cases (are_same (ext c w) (ext c b)) (list_any (λ p. are_same p (ext c b)) (map (ext c) ws)) e) [
        | inl here ↦ ap (λ (s : Bool). s || list_any (λ p. are_same p (ext d b)) (map (ext d) ws)) (same_still w b t here)
        | inr later ↦ or_right (are_same (ext d w) (ext d b)) (list_any (λ p. are_same p (ext d b)) (map (ext d) ws)) (any_still b t ws later)
      ]

      covered_again : Covered zs (again_of files reads c file) (again_of files reads d file)
      covered_again =
          marked_from zs are_same kind.DuplicateExtension (λ (w : Written). w.token) (ext c) (ext d) (written_in files reads file) still_same (written_in files reads file) (λ w h. h)
          (map (ext c) (written_taken files reads file)) (map (ext d) (written_taken files reads file))
          (λ b h e. elim (cases_Bool (is_field_number (number c b))) [
            | inl t ↦ inl (any_still b t (written_taken files reads file) e)
            | inr f ↦ inr (beneath kind.DuplicateExtension (omega arith) b h f)
          ])

      pub covered_all : Covered zs (all_flaws c files reads file) zs
      covered_all =
          covered_join zs (file_flaws (scene c file) (read_at reads file).tree) own (workspace_flaws c files reads file) (workspace_flaws d files reads file)
          (covered_more own zs (file_flaws (scene c file) (read_at reads file).tree) own (Contains-append_left own (workspace_flaws d files reads file)) (covered_file (scene None file) c d caps (read_at reads file).tree))
          (covered_join zs (number_flaws c files reads file) (number_flaws d files reads file) (custom_flaws files reads file) (custom_flaws files reads file)
          (subst (λ (fs : List Flaw). Covered zs fs (number_flaws d files reads file)) (sym (flaws_written files reads c file))
          (subst (λ (fs : List Flaw). Covered zs (flat_map (outside_of files reads c) (written_in files reads file) ++ again_of files reads c file) fs) (sym (flaws_written files reads d file))
          (covered_join zs (flat_map (outside_of files reads c) (written_in files reads file)) (flat_map (outside_of files reads d) (written_in files reads file)) (again_of files reads c file) (again_of files reads d file) (covered_outside (written_in files reads file) (λ w h. h)) covered_again)))
          (covered_equal zs (custom_flaws files reads file) (custom_flaws files reads file) refl))

pub caps_keep_the_least : CapsKeepTheLeastOfFile
caps_keep_the_least files reads file r h =
    let caps = past_or_none (Some past) refl in
    least_kept (all_flaws (Some past) files reads file) (all_flaws None files reads file) (covered_all files reads (Some past) None caps file) (covered_all files reads None (Some past) (caps_back (Some past) None caps) file) r h
