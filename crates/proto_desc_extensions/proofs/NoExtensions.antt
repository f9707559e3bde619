-- Files without an `extend` block have no flaw of extensions.
use Rattle.std.proofs.Common.{◌≡◌, ℕ, ◌+◌, ◌<◌, Bool, true, false, ◌||◌, List, [], ◌∷◌, ◌++◌, length, get_or, drop, map, flat_map, replicate, Option, Some, None, option_and_then, refl, sym, ap, ◌∙◌, arith, true≢false}
use Rattle.std.proofs.lemmas.List.{get_or-replicate, length-replicate}
use Rattle.std.proofs.lemmas.List.Folds.{list_any_at}
use Rattle.proto_base.proofs.Common.{drop_more, get_or-map, length-map, list_any}
use Rattle.proto_tree.specs.declared.piece.Header.{Header}
use Rattle.proto_tree.specs.declared.piece.Header.TheVariants as header
use Rattle.proto_tree.specs.Tree.{Tree, End}
use Rattle.proto_files.proofs.Common.{AreRead, FileOf, IsTreeOf, ReadOf, file_at, read_at, same_tree}
use Rattle.std.specs.Global.{Vec}
use Rattle.proto_desc_numbers.specs.declared.flaw.Flaw.{Flaw}
use Rattle.proto_ast.proofs.Common.{BlockOf, blocks_in, past}
use Rattle.proto_resolved.specs.SceneOf.{scene_of}
use Rattle.proto_desc_extensions.specs.Common.{AreNumberFlaws, ExtensionOf, block_extensions, extendee_in, extensions_before, extensions_of, has_extend, is_extend, name_meant, not_extendable, repeated_extensions, some_has_extend, taken_before, number_flaws}

module _ (cap : Option ℕ) (files : List FileOf) (reads : List ReadOf) (file : ℕ) where
  E : BlockOf → List ExtensionOf
  E = block_extensions cap files reads file

  not_asked : (b : BlockOf) → is_extend b.header ≡ false → block_extensions cap files reads file b ≡ []
  not_asked b e = ap (λ (o : Option (List (List ℕ))). extensions_of (scene_of cap files reads file) o b.within) (none b.header e)
    where
      none : (h : Header) → is_extend h ≡ false → option_and_then (name_meant files reads file) (extendee_in h) ≡ None
      none (header.Extend x) t = absurd (true≢false t)
      none whole t = refl

  none_of : (bs : List BlockOf) → list_any (λ b. is_extend b.header) bs ≡ false → flat_map (block_extensions cap files reads file) bs ≡ []
  none_of [] e = refl
  none_of (b ∷ bs) e =
      let parts = neither (is_extend b.header) (list_any (λ c. is_extend c.header) bs) e in
      ap (λ (es : List ExtensionOf). es ++ flat_map (block_extensions cap files reads file) bs) (not_asked b parts.0) ∙ none_of bs parts.1
    where
      neither : (a c : Bool) → (a || c) ≡ false → (a ≡ false) × (c ≡ false)
      neither true c t = absurd (true≢false t)
      neither false c t = (refl, t)

  pub no_flaw : has_extend (read_at reads file).tree ≡ false → number_flaws cap files reads file ≡ []
  no_flaw e =
      ap (λ (es : List ExtensionOf). not_extendable cap files reads es ++ repeated_extensions (taken_before (file_at files file).profile (extensions_before cap files reads file)) es) (none_of (blocks_in (read_at reads file).tree) e)

-- ---- all files

-- the trees of a list from this file on: its own, and those behind it
front_read : (reads : List ReadOf) (file : ℕ) → file < length reads → some_has_extend (drop file reads) ≡ (has_extend (read_at reads file).tree || some_has_extend (drop (file + 1) reads))
front_read reads file l = ap some_has_extend (drop_more reads file (record { tokens = []; tree = End }) l)

pub found_there : (files : List FileOf) (file : ℕ) → file < length files → (tree : Tree) → IsTreeOf (file_at files file) tree → (reads : List ReadOf) → AreRead files reads → has_extend tree ≡ true → some_has_extend (drop file reads) ≡ true
found_there files file l tree of_file reads are e =
    front_read reads file (omega (arith, l, are.same))
    ∙ ap (λ (t : Tree). has_extend t || some_has_extend (drop (file + 1) reads)) (same_tree files reads file tree are l of_file)
    ∙ ap (λ (b : Bool). b || some_has_extend (drop (file + 1) reads)) e

pub turn_without : (files : List FileOf) (file : ℕ) → file < length files → (tree : Tree) → IsTreeOf (file_at files file) tree → (reads : List ReadOf) → AreRead files reads → has_extend tree ≡ false → some_has_extend (drop file reads) ≡ some_has_extend (drop (file + 1) reads)
turn_without files file l tree of_file reads are e =
    front_read reads file (omega (arith, l, are.same))
    ∙ ap (λ (t : Tree). has_extend t || some_has_extend (drop (file + 1) reads)) (same_tree files reads file tree are l of_file)
    ∙ ap (λ (b : Bool). b || some_has_extend (drop (file + 1) reads)) e

-- where no file has one, empty lists are the flaws of all files
pub none_wrong : (files : List FileOf) (found : List (Vec Flaw)) → map (λ v. v.items) found ≡ replicate (length files) [] → ((reads : List ReadOf) → AreRead files reads → false ≡ some_has_extend reads) → AreNumberFlaws files found
none_wrong files found empty none =
    let n : length found ≡ length files = sym (length-map found (λ (v : Vec Flaw). v.items)) ∙ ap length empty ∙ length-replicate (length files) [] in
    record {
      len = n;
      each = λ reads are k d l.
          let within : k < length files = omega (arith, l, n) in
          sym (get_or-map (λ (v : Vec Flaw). v.items) found k d d.items l)
          ∙ ap (λ (ls : List (List Flaw)). get_or ls k d.items) empty
          ∙ get_or-replicate (length files) k [] d.items within
          ∙ sym (no_flaw (Some past) files reads k (not_there reads k (omega (arith, within, are.same)) (sym (none reads are))));
    }
  where
    not_there : (reads : List ReadOf) (k : ℕ) → k < length reads → some_has_extend reads ≡ false → has_extend (read_at reads k).tree ≡ false
    not_there reads k l e = go (has_extend (read_at reads k).tree) refl
      where
        go : (b : Bool) → has_extend (read_at reads k).tree ≡ b → has_extend (read_at reads k).tree ≡ false
        go false is = is
        go true is = absurd (true≢false (sym (list_any_at (λ (r : ReadOf). has_extend r.tree) reads k (record { tokens = []; tree = End }) l is) ∙ e))
