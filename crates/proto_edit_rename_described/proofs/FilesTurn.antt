-- Each file of an allowed rename turns, and its descriptor goes under the name map (for the crates above).
use Rattle.std.proofs.Common.{◌≡◌, ◌≢◌, ℕ, suc, ◌+◌, ◌<◌, ◌==◌, Bool, true, false, not, ◌&&◌, if◌then◌else◌, List, [], ◌∷◌, ◌++◌, length, map, flat_map, find, Option, Some, None, option_map, option_and_then, is_some, is_none, codes, refl, sym, ◌∙◌, ap, ap₂, subst, inl, inr, arith, Contains, bytes_eq}
use Rattle.std.proofs.lemmas.Bool.{and_parts, not-false}
use Rattle.proto_base.specs.declared.fault.FaultKind.TheVariants as fault
use Rattle.proto_base.proofs.Common.{signed_decimal, cond-false, false_from_ne_true, All-contains, Contains-append_left, same_Some, contains_map, from_map}
use Rattle.proto_case.proofs.Common.{entry_name, entry_differs}
use Rattle.proto_text.specs.Tokens.{lexeme_at}
use Rattle.proto_tree.specs.declared.piece.Header.{Header}
use Rattle.proto_tree.specs.declared.tree.Constant.{Constant}
use Rattle.proto_tree.specs.declared.tree.FieldType.{FieldType}
use Rattle.proto_tree.specs.declared.tree.Reference.{Reference}
use Rattle.proto_tree.proofs.Common.{Tree, first_of}
use Rattle.proto_tree.specs.declared.piece.Header.TheVariants as header
use Rattle.proto_tree.specs.declared.tree.Constant.TheVariants as constant
use Rattle.proto_tree.specs.declared.tree.FieldType.TheVariants as field_type
use Rattle.proto_files.proofs.Common.{FileOf, file_at, ReadOf, read_at}
use Rattle.proto_names_rules.specs.declared.kind.Kind.{Kind}
use Rattle.proto_names_rules.specs.declared.kind.Kind.TheVariants.{EntryField}
use Rattle.proto_names_rules.proofs.Common.{Renaming, ren, target, turned, At, at, declared_of, joined, ArePlain, Symbol, same_name, Declared, Given, Source, Token, Used, name_of, reference_of, shifted_declared, shifted_source, spell, symbol_of, Placed, file_placed, package_of, place, prefixes, name_from_same, same_from_name, aim_renaming, map_append, map_map, name_after, one_declared, package_within, prefix_whole, turn_below-nil, has_meaning, meant, package_stays, snoc_parts}
use Rattle.proto_names_outline.specs.FromTree.{items_in}
use Rattle.proto_names_imports.proofs.Common.{link_skeleton, names_in, names_of_files, text_of, used_named, uses_of, name_in, names_are_plain}
use Rattle.proto_ast.proofs.Common.{is_named, text_option, value_named, BlockOf, FieldOf, OptionOf, blocks_in, fields_in, options_in, EnumOf, MeantOf, Scene, enum_meant, meant_by, text, value, has_label}
use Rattle.proto_ast.specs.declared.options.Element.{Element}
use Rattle.proto_ast.specs.declared.options.Element.TheVariants as element
use Rattle.proto_desc_numbers.proofs.Common.{flaw_if, is_field_number, number_of_field, outside}
use Rattle.proto_desc_checks.proofs.Common.{bars_extend, default_flaws, field_flaws, flaws_of_extension, is_default_of, is_value_of, may_default, option_flaws, misfit_flaws, proto3_defaults, required_extensions, type_flaws, wrong_default, block_flaws, flaws_in_blocks}
use Rattle.proto_desc_checks_laws.proofs.Common.{names_are_of_one_field, DifferInNames, asked_tokens, block_tokens, option_tokens}
use Rattle.proto_desc_build.specs.Described.{absolute, default_number, default_text, field_type_name, file_described, is_map, type_name_of}
use Rattle.proto_edit_rename_laws.proofs.Common.{meaning_of, meant_as, scene_of, fields_of_block, meaning_from, means_value, HasDefaultRoles, AreReworded, IsRename, Target, may_rename, name_map, renamed_words, other_texts_stay, at_same, find_agree, find_there, scenes_are_apart, used_here, values_stay}
use Rattle.proto_edit_rename_laws.proofs.DefaultTokens.{of_block}
use Rattle.proto_desc.specs.Checked.{described_from}
use Rattle.proto_edit_rename_described.specs.Common.{IsAllowedRename, Taken, is_name_of, mapped, mapped_default, mapped_file, words_of, WritesJson, of_another, of_field, FileTurns, is_target, written_json}
use Rattle.proto_edit_rename_described.specs.FilesTurn.{AllAreMapped, FilesTurn, RenamesAreMapped}
use Rattle.proto_edit_rename_described.proofs.Allowed.{allowed_roles, clean, empty_each, is_rename}
use Rattle.proto_edit_rename_described.proofs.DefaultWords.{fields_have_roles}
use Rattle.proto_edit_rename_described.proofs.EnumDefaults.{found_in_map, meant_token}
use Rattle.proto_edit_rename_described.proofs.FileStays.{file_options_stay, signed_stays, values_agree}
use Rattle.proto_edit_rename_described.proofs.Mapped.{descriptors_are_mapped, joined_dotted, words_of_dotted}
use Rattle.proto_edit_rename_described.proofs.NamesKept.{empty_parts, none_flawed}
use Rattle.proto_edit_rename_described.proofs.ScenesTurn.{meanings_are_turned, named_some, names_are_turned, some_path, there}
use Rattle.proto_edit_rename_described.proofs.TreeTurns.{FieldNames, block_with, tree_turns}
use Rattle.proto_edit_rename_described.proofs.WrittenJson.{writes_json}
use Rattle.proto_files.specs.GivenFiles.{no_file}

-- ---- lists, tests and tokens

no : false ≡ true → ⊥
no h = cc

none_is : (o : Option ℕ) → is_none o ≡ true → is_some o ≡ false
none_is None h = refl
none_is (Some x) h = absurd cc

same_token : (i j : At) → ◌≡◌ {A = Source At} (Token i) (Token j) → i ≡ j
same_token i j h = cc

last_token_is : (a b : List (Source At)) (i j : At) → a ++ Token i ∷ [] ≡ b ++ Token j ∷ [] → i ≡ j
last_token_is a b i j h = same_token i j (snoc_parts a b (Token i) (Token j) h).1

no_value : (o : Option EnumOf) → is_value_of o None ≡ true → ⊥
no_value None h = cc
no_value (Some e) h = cc

none_named : (o : Option (List (List ℕ))) → is_name_of o None ≡ false
none_named None = refl
none_named (Some n) = refl

-- a default of no named type stays
mapped_none : (e : Renaming) (taken : Taken) (word : List ℕ) → mapped_default e taken None word ≡ word
mapped_none e taken word = ap (λ v. if v && bytes_eq word e.old then e.new else word) (none_named taken.enum)

-- whether a default means the value, by its type's full name
means_named : (enum : Option (List (List ℕ))) (old word m : List ℕ) (x : List (List ℕ)) → words_of m ≡ x → means_value enum old (Some x) word ≡ (is_name_of enum (Some m) && bytes_eq word old)
means_named None old word m x h = refl
means_named (Some n) old word m x h = ap (λ z. same_name z n && bytes_eq word old) (sym h)

means_none : (enum : Option (List (List ℕ))) (old word : List ℕ) → means_value enum old None word ≡ (is_name_of enum None && bytes_eq word old)
means_none None old word = refl
means_none (Some n) old word = refl

module _ (files : List FileOf) (reads : List ReadOf) (name to : List ℕ) (t : Target) (after : List FileOf) (seen : List ReadOf)
    (al : IsAllowedRename files reads name to t) (w : AreReworded (renamed_words files reads t to) files reads after seen)
    (written : Bool) (writes : WritesJson files reads t written) where
  abbrev e : Renaming
  e = name_map files reads t to

  abbrev taken : Taken
  taken = record { written = written; enum = t.enum }

  abbrev c : At → Option (List ℕ)
  c = renamed_words files reads t to

  is : IsRename files reads (renamed_words files reads t to) after seen t.token t.above t.aim t.is_map to
  is = is_rename files reads name to t after seen al w

  aim_name : name_of (text_of files reads) entry_name t.aim.path ≡ target (name_map files reads t to)
  aim_name = ap (name_of (text_of files reads) entry_name) is.is.path ∙ map_append (spell (text_of files reads) entry_name) t.above (Token t.token ∷ [])

  module _ (file : ℕ) (l : file < length files) where
    abbrev a : Scene
    a = scene_of None files reads file

    abbrev b : Scene
    b = scene_of None after seen file

    abbrev tree : Tree
    tree = (read_at reads file).tree

    abbrev shift : Source ℕ → Source At
    shift = shifted_source (at file)

    abbrev declared : Placed → Declared At
    declared p = shifted_declared (at file) (declared_of file p)

    strings : (i : ℕ) → value (scene_of None after seen file) i ≡ value (scene_of None files reads file) i
    strings i = sym (values_stay files reads c after seen t.token t.above t.aim t.is_map to is file l i)

    differ : DifferInNames (λ i. is_some (renamed_words files reads t to (at file i))) (scene_of None files reads file) (scene_of None after seen file)
    differ = scenes_are_apart files reads c after seen t.token t.above t.aim t.is_map to is file l

    asked : (i : ℕ) → Contains (asked_tokens (scene_of None files reads file) (read_at reads file).tree) i → is_some (renamed_words files reads t to (at file i)) ≡ false
    asked i ci = All-contains (λ i. is_some (c (at file i)) ≡ false) (asked_tokens a tree) i ((allowed_roles files reads name to t al).tokens.asked file l) ci

    stays : (i : ℕ) → renamed_words files reads t to (at file i) ≡ None → text (scene_of None after seen file) i ≡ text (scene_of None files reads file) i
    stays i h = other_texts_stay c files reads after seen al.read w (at file i) l h

    -- ---- names

    declared_there : (p : Placed) → Contains (file_placed (items_in (read_at reads file).tree)) p → Contains (link_skeleton files reads).declared (shifted_declared (at file) (declared_of file p))
    declared_there p cp = there files reads c after seen t.token t.above t.aim t.is_map to is file l p cp

    name_is : (p : Placed) → name_of (text_of files reads) entry_name (map (shifted_source (at file)) (p.above ++ p.last ∷ [])) ≡ name_of (text (scene_of None files reads file)) entry_name (p.above ++ p.last ∷ [])
    name_is p = name_in (text_of files reads) file (p.above ++ p.last ∷ [])

    plain : (p : Placed) → Contains (file_placed (items_in (read_at reads file).tree)) p → ArePlain (name_of (text (scene_of None files reads file)) entry_name (p.above ++ p.last ∷ []))
    plain p cp = subst ArePlain (name_is p) (names_are_plain files reads al.read (symbol_of (text_of files reads) entry_name (declared p)) (contains_map (symbol_of (text_of files reads) entry_name) (link_skeleton files reads).declared (declared p) (declared_there p cp)))

    -- what has the target's name is the target
    at_target : (p : Placed) → Contains (file_placed (items_in (read_at reads file).tree)) p → same_name (name_of (text (scene_of None files reads file)) entry_name (p.above ++ p.last ∷ [])) (target (name_map files reads t to)) ≡ true
        → shifted_declared (at file) (declared_of file p) ≡ t.aim
    at_target p cp h =
        let n : name_of (text_of files reads) entry_name (declared p).path ≡ name_of (text_of files reads) entry_name t.aim.path =
        name_is p ∙ name_from_same (name_of (text a) entry_name (p.above ++ p.last ∷ [])) (target e) h ∙ sym aim_name in
        elim (one_declared (text_of files reads) (text_of after seen) entry_name (link_skeleton files reads) t.token t.above t.aim t.is_map to is.linked is.woven is.is is.entry is.respelled entry_differs (declared p) t.aim (declared_there p cp) is.is.within n) [
          | inl q ↦ q
          | inr k ↦ absurd (is.is.no_package k.1)
        ]

    -- `key` and `value` are not
    no_given : (path : List (Source ℕ)) (v : List ℕ) → Contains (file_placed (items_in (read_at reads file).tree)) (place path (Given v) EntryField)
        → is_target (name_map files reads t to) taken (scene_of None files reads file) (scene_of None after seen file) path v ≡ false
    no_given path v cp =
        false_from_ne_true (is_target e taken a b path v) (λ h. (
        let q = at_target (place path (Given v) EntryField) cp (ap (λ z. same_name z (target e)) (map_append (spell (text a) entry_name) path (Given v ∷ [])) ∙ h) in
        let k : EntryField ≡ t.aim.kind = ap (λ (d : Declared At). d.kind) q in
        no (ap may_rename k ∙ al.named.kind)))

    -- ---- what references mean

    use_means : (u : Used ℕ) → Contains (uses_of reads file) u → (m : List (List ℕ)) × (meaning_of files reads file u ≡ Some m) × ArePlain m × (m ≢ [])
    use_means u cu =
        let used = contains_map (reference_of (text_of files reads) entry_name) (link_skeleton files reads).used _ (used_here files reads c after seen t.token t.above t.aim t.is_map to is file l u cu) in
        let m = has_meaning (meaning_of files reads file u) (is.linked.resolved (used_named (text_of files reads) file u) used) in
        let s = meant (names_of_files files reads) (used_named (text_of files reads) file u) m.0 m.1 in
        let d = from_map (symbol_of (text_of files reads) entry_name) (link_skeleton files reads).declared s.0 s.1 in
        let called : name_of (text_of files reads) entry_name d.0.path ≡ m.0 = ap (λ (z : Symbol). z.name) d.2 ∙ s.2 in (
          m.0,
          m.1,
          subst ArePlain s.2 (names_are_plain files reads al.read s.0 s.1),
          λ z. named_some (text_of files reads) d.0.path (some_path 0 (map names_in reads) d.0 d.1) (called ∙ z),
        )

    -- the test of a default, by the descriptor's type name
    means_same : (r : Reference) (word : List ℕ)
        → means_value t.enum (text_of files reads t.token) (meaning_from files reads file (first_of r.dot r.words)) word
        ≡ (is_name_of t.enum (type_name_of (scene_of None files reads file) (field_type.Reference r)) && bytes_eq word (text_of files reads t.token))
    means_same r word =
        by (find (λ (u : Used ℕ). u.first == first) (uses_of reads file)) refl
        ∙ ap (λ z. is_name_of t.enum (option_map (λ (m : MeantOf). absolute m.name) z) && bytes_eq word (text_of files reads t.token)) (sym meant_is)
      where
        first : ℕ
        first = first_of r.dot r.words

        f : Used ℕ → MeantOf
        f u = meant_as files reads u.first (meaning_of files reads file u)

        meant_is : meant_by (scene_of None files reads file) r ≡ option_map f (find (λ (u : Used ℕ). u.first == first) (uses_of reads file))
        meant_is =
            found_in_map (λ (m : MeantOf). m.token == first) f (uses_of reads file)
            ∙ ap (option_map f) (find_agree (λ u. (f u).token == first) (λ (u : Used ℕ). u.first == first) (uses_of reads file) (λ u d. ap (λ n. n == first) (meant_token files reads u.first (meaning_of files reads file u))))

        by : (o : Option (Used ℕ)) → find (λ (u : Used ℕ). u.first == first) (uses_of reads file) ≡ o
            → means_value t.enum (text_of files reads t.token) (option_and_then (meaning_of files reads file) (find (λ (u : Used ℕ). u.first == first) (uses_of reads file))) word
            ≡ (is_name_of t.enum (option_map (λ (m : MeantOf). absolute m.name) (option_map f (find (λ (u : Used ℕ). u.first == first) (uses_of reads file)))) && bytes_eq word (text_of files reads t.token))
        by None q =
            ap (λ z. means_value t.enum (text_of files reads t.token) (option_and_then (meaning_of files reads file) z) word) q
            ∙ means_none t.enum (text_of files reads t.token) word
            ∙ ap (λ z. is_name_of t.enum (option_map (λ (m : MeantOf). absolute m.name) (option_map f z)) && bytes_eq word (text_of files reads t.token)) (sym q)
        by (Some u) q =
            let m = use_means u (find_there (λ (u : Used ℕ). u.first == first) (uses_of reads file) u q).0 in
            let called : absolute (f u).name ≡ absolute (joined m.0) = ap (λ o. absolute (meant_as files reads u.first o).name) m.1 in
            let words : words_of (absolute (joined m.0)) ≡ m.0 = ap words_of (joined_dotted m.0 m.3) ∙ words_of_dotted m.0 m.2 in
            ap (λ z. means_value t.enum (text_of files reads t.token) (option_and_then (meaning_of files reads file) z) word) q
            ∙ ap (λ z. means_value t.enum (text_of files reads t.token) z word) m.1
            ∙ means_named t.enum (text_of files reads t.token) word (absolute (joined m.0)) m.0 words
            ∙ ap (λ z. is_name_of t.enum (Some z) && bytes_eq word (text_of files reads t.token)) (sym called)
            ∙ ap (λ z. is_name_of t.enum (option_map (λ (m : MeantOf). absolute m.name) (option_map f z)) && bytes_eq word (text_of files reads t.token)) (sym q)

    -- ---- fields of messages, and extensions

    module _ (path : List (Source ℕ)) (h : Header) (within : Tree) (f : FieldOf) (k : Kind) (cb : Contains (blocks_in (read_at reads file).tree) (block_with h within)) (cf : Contains (fields_of_block h within) f)
        (cp : Contains (file_placed (items_in (read_at reads file).tree)) (place path (Token f.name) k)) where
      path_is : map (shifted_source (at file)) (path ++ Token f.name ∷ []) ≡ map (shifted_source (at file)) path ++ Token (at file f.name) ∷ []
      path_is = map_append (shifted_source (at file)) path (Token f.name ∷ [])

      token_is : is_target (name_map files reads t to) taken (scene_of None files reads file) (scene_of None after seen file) path (text (scene_of None files reads file) f.name) ≡ true → at file f.name ≡ t.token
      token_is h =
          let q = at_target (place path (Token f.name) k) cp (ap (λ z. same_name z (target e)) (map_append (spell (text a) entry_name) path (Token f.name ∷ [])) ∙ h) in
          last_token_is (map shift path) t.above (at file f.name) t.token (sym path_is ∙ ap (λ (d : Declared At). d.path) q ∙ is.is.path)

      other_stays : is_target (name_map files reads t to) taken (scene_of None files reads file) (scene_of None after seen file) path (text (scene_of None files reads file) f.name) ≡ false
          → text (scene_of None after seen file) f.name ≡ text (scene_of None files reads file) f.name
      other_stays h = elim (is.respelled.others (declared (place path (Token f.name) k)) (declared_there (place path (Token f.name) k) cp) (map shift path) (at file f.name) path_is) [
        | inl q ↦
            let above : map shift path ≡ t.above =
            is.woven.tokens (declared (place path (Token f.name) k)) t.aim (declared_there (place path (Token f.name) k) cp) is.is.within (map shift path) t.above t.token (path_is ∙ ap (λ i. map shift path ++ Token i ∷ []) q) is.is.path in
            let named : name_of (text a) entry_name path ≡ e.parent = sym (name_in (text_of files reads) file path) ∙ ap (name_of (text_of files reads) entry_name) above in
            let whole : name_of (text a) entry_name path ++ text a f.name ∷ [] ≡ target e = ap₂ (λ (x : List (List ℕ)) (y : List ℕ). x ++ y ∷ []) named (ap (text_of files reads) q) in
            absurd (no (sym h ∙ same_from_name (name_of (text a) entry_name path ++ text a f.name ∷ []) (target e) whole))
        | inr o ↦ o.1
      ]

      abbrev json_at : ℕ → List OptionOf → Bool
      json_at k os = is_some (text_option (text (scene_of None files reads k)) (value (scene_of None files reads k)) (codes "json_name") os)

      json_is : (v : Bool) → WritesJson files reads t v → at file f.name ≡ t.token → is_some (written_json (name_map files reads t to) taken (scene_of None files reads file) (scene_of None after seen file) (scene_of None files reads file) f) ≡ v
      json_is v (of_field d g i) q =
          let same_file : file ≡ t.token.file = ap (λ (x : At). x.file) q in
          let same_name : f.name ≡ g.name = ap (λ (x : At). x.token) q ∙ sym i.name in
          let options : f.options ≡ g.options = (names_are_of_one_field (file_at files file).profile tree (map (lexeme_at (file_at files file).bytes) (read_at reads file).tokens) (al.read.trees file l).spells (block_with h within) d f g cb (subst (λ n. Contains (blocks_in (read_at reads n).tree) d) (sym same_file) i.block) (of_block h within f cf) i.field same_name).options in
          ap₂ json_at same_file options
      json_is v (of_another none) q =
          let same_file : file ≡ t.token.file = ap (λ (x : At). x.file) q in
          absurd (none (block_with h within) f (record { block = subst (λ n. Contains (blocks_in (read_at reads n).tree) (block_with h within)) same_file cb; field = of_block h within f cf; name = ap (λ (x : At). x.token) q }))

      -- ---- defaults

      block_clean : (g : Header) → Contains (blocks_in (read_at reads file).tree) (block_with g within) → block_flaws (scene_of None files reads file) g within ≡ []
      block_clean g cg =
          let all = (empty_parts (option_flaws a element.File (options_in tree)) (flaws_in_blocks a tree) (clean files reads name to t after seen al w file l)).1 in
          empty_each (λ (x : BlockOf). block_flaws a x.header x.within) (blocks_in tree) all (block_with g within) cg

      field_clean : (on : Element) × (field_flaws (scene_of None files reads file) on f ≡ [])
      field_clean = by h cb cf
        where
          by : (g : Header) → Contains (blocks_in (read_at reads file).tree) (block_with g within) → Contains (fields_of_block g within) f → (on : Element) × (field_flaws (scene_of None files reads file) on f ≡ [])
          by (header.Message x) cg c = (element.Field, empty_each (field_flaws a element.Field) (fields_in within) (empty_parts (flat_map (field_flaws a element.Field) (fields_in within)) _ (block_clean (header.Message x) cg)).0 f c)
          by (header.Extend x) cg c =
              let numbers = outside is_field_number (map (number_of_field a) (fields_in within)) in
              let behind = (empty_parts (flaw_if (bars_extend a.profile a.is_proto3 (meant_by a x.extendee)) fault.NotInProto3 x.keyword) (numbers ++ flat_map (flaws_of_extension a) (fields_in within)) (block_clean (header.Extend x) cg)).1 in
              let each = (empty_parts numbers (flat_map (flaws_of_extension a) (fields_in within)) behind).1 in
              (element.Extension, (empty_parts (required_extensions a f.label) (field_flaws a element.Extension f) (empty_each (flaws_of_extension a) (fields_in within) each f c)).1)
          by whole cg c = absurd (omega (arith, c.1))

      default_clean : (default_flaws (scene_of None files reads file) f ≡ []) × (proto3_defaults (scene_of None files reads file) f ≡ [])
      default_clean =
          let on = field_clean.0 in
          let p = (empty_parts (type_flaws a f) (option_flaws a on f.options ++ (misfit_flaws a f ++ (default_flaws a f ++ proto3_defaults a f))) field_clean.1).1 in
          let q = (empty_parts (option_flaws a on f.options) (misfit_flaws a f ++ (default_flaws a f ++ proto3_defaults a f)) p).1 in
          let r = (empty_parts (misfit_flaws a f) (default_flaws a f ++ proto3_defaults a f) q).1 in
          empty_parts (default_flaws a f) (proto3_defaults a f) r

      field_roles : HasDefaultRoles (renamed_words files reads t to) (text_of files reads) (text_of after seen) (meaning_from files reads file) t.enum (text_of files reads t.token) to file f
      field_roles = (fields_have_roles files reads name to t after seen al w).defaults file (block_with h within) f l cb cf

      -- by the field's type, where it is no map
      default_by : (o : OptionOf) → Contains f.options o → is_named (text (scene_of None files reads file)) (codes "default") o ≡ true → (k : FieldType) → f.kind ≡ k → (x : Constant) → o.value ≡ x → is_default_of (scene_of None files reads file) k x ≡ true
          → default_text (scene_of None after seen file) x ≡ mapped_default (name_map files reads t to) taken (type_name_of (scene_of None files reads file) k) (default_text (scene_of None files reads file) x)
      default_by o co n (field_type.Scalar i) qk (constant.Number m) qc fits =
          ap (λ z. signed_decimal (default_number z)) (signed_stays e taken (λ i. is_some (c (at file i))) a b differ strings m (ap (λ (z : Option (List ℕ)). is_some z) (field_roles.number o m co qc)))
          ∙ sym (mapped_none e taken (default_text a (constant.Number m)))
      default_by o co n (field_type.Scalar i) qk (constant.Word v) qc fits = stays v (field_roles.word o i v co qk qc) ∙ sym (mapped_none e taken (text a v))
      default_by o co n (field_type.Scalar i) qk (constant.Text j) qc fits = values_agree (value b) (value a) strings (j.first ∷ j.rest) ∙ sym (mapped_none e taken (default_text a (constant.Text j)))
      default_by o co n (field_type.Reference r) qk (constant.Number m) qc fits = absurd (no_value (enum_meant a r) fits)
      default_by o co n (field_type.Reference r) qk (constant.Text j) qc fits = absurd (no_value (enum_meant a r) fits)
      default_by o co n (field_type.Reference r) qk (constant.Word v) qc fits =
          field_roles.enum_word o r v co qk qc n ∙ ap (λ z. if z then to else text a v) (means_same r (text a v))

      default_at : (full : List ℕ) (o : OptionOf) → find (is_named (text (scene_of None files reads file)) (codes "default")) f.options ≡ Some o
          → default_text (scene_of None after seen file) o.value ≡ mapped_default (name_map files reads t to) taken (field_type_name (scene_of None files reads file) full f) (default_text (scene_of None files reads file) o.value)
      default_at full o q =
          let found = find_there (is_named (text a) (codes "default")) f.options o q in
          let flawless = none_flawed (a.is_proto3 && is_named (text a) (codes "default") o) _ o.name (empty_each (λ (o : OptionOf). _) f.options default_clean.1 o found.0) in
          let version : a.is_proto3 ≡ false = false_from_ne_true a.is_proto3 (λ z. no (sym flawless ∙ ap₂ (λ x y. x && y) z found.1)) in
          let wrong : wrong_default a f (find (is_named (text a) (codes "default")) f.options) ≡ [] = ap (λ v. if v then [] else wrong_default a f (find (is_named (text a) (codes "default")) f.options)) (sym version) ∙ default_clean.0 in
          let may = not-false (may_default a f o) (none_flawed (not (may_default a f o)) _ o.name (ap (wrong_default a f) (sym q) ∙ wrong)) in
          let p = and_parts (not (has_label a (codes "repeated") f)) (is_none f.map_key && is_default_of a f.kind o.value) may in
          let u = and_parts (is_none f.map_key) (is_default_of a f.kind o.value) p.1 in
          let type : field_type_name a full f ≡ type_name_of a f.kind = cond-false (is_map f) _ (type_name_of a f.kind) (none_is f.map_key u.0) in
          default_by o found.0 found.1 f.kind refl o.value refl u.1 ∙ ap (λ z. mapped_default e taken z (default_text a o.value)) (sym type)

      default_is : (full : List ℕ) (x : Constant) → value_named (text (scene_of None files reads file)) (codes "default") f.options ≡ Some x
          → default_text (scene_of None after seen file) x ≡ mapped_default (name_map files reads t to) taken (field_type_name (scene_of None files reads file) full f) (default_text (scene_of None files reads file) x)
      default_is full x h = by (find (is_named (text a) (codes "default")) f.options) refl h
        where
          none_some : {A : Type 0} (y : A) → ◌≡◌ {A = Option A} None (Some y) → ⊥
          none_some y z = cc

          by : (o : Option OptionOf) → find (is_named (text a) (codes "default")) f.options ≡ o → option_map (λ (o : OptionOf). o.value) (find (is_named (text a) (codes "default")) f.options) ≡ Some x
              → default_text b x ≡ mapped_default e taken (field_type_name a full f) (default_text a x)
          by None q z = absurd (none_some x (sym (ap (option_map (λ (o : OptionOf). o.value)) q) ∙ z))
          by (Some o) q z =
              let value_is : o.value ≡ x = same_Some o.value x (sym (ap (option_map (λ (o : OptionOf). o.value)) q) ∙ z) in
              subst (λ v. default_text b v ≡ mapped_default e taken (field_type_name a full f) (default_text a v)) value_is (default_at full o q)

      field_names : FieldNames (name_map files reads t to) taken (scene_of None files reads file) (scene_of None after seen file) path f
      field_names = record { other = other_stays; json = λ q. json_is written writes (token_is q); default = default_is }

    -- ---- the package

    abbrev own : List ℕ → List (List ℕ)
    own ts = map (text (scene_of None files reads file)) ts

    package_turns : (ts : List ℕ) → package_of (items_in (read_at reads file).tree) ≡ ts
        → (map (text (scene_of None after seen file)) ts ≡ map (text (scene_of None files reads file)) ts) × ArePlain (map (text (scene_of None files reads file)) ts) × (ren (name_map files reads t to) (map (text (scene_of None files reads file)) ts) ≡ map (text (scene_of None files reads file)) ts)
    package_turns [] q = (refl, tt, turn_below-nil e.parent (turned e))
    package_turns (i ∷ is') q =
        let u = prefix_whole i is' [] in
        let cu : Contains (file_placed (items_in tree)) u.0 = package_within (items_in tree) (map (λ x. Token x) (package_of (items_in tree))) u.0 (subst (λ z. Contains (prefixes [] z) u.0) (sym q) u.1) in
        let d = declared u.0 in
        let cd = declared_there u.0 cu in
        let old : name_of (text_of files reads) entry_name d.path ≡ map (text a) (i ∷ is') = name_is u.0 ∙ ap (name_of (text a) entry_name) (sym u.2) ∙ map_map (λ x. Token x) (spell (text a) entry_name) (i ∷ is') in
        let new : name_of (text_of after seen) entry_name d.path ≡ map (text b) (i ∷ is') = name_in (text_of after seen) file (u.0.above ++ u.0.last ∷ []) ∙ ap (name_of (text b) entry_name) (sym u.2) ∙ map_map (λ x. Token x) (spell (text b) entry_name) (i ∷ is') in
        let renaming = aim_renaming (text_of files reads) (text_of after seen) entry_name (link_skeleton files reads) t.token t.above t.aim t.is_map to is.linked is.woven is.is is.entry is.respelled entry_differs in
        let kept = package_stays e (names_of_files files reads) is.linked renaming (symbol_of (text_of files reads) entry_name d) (contains_map (symbol_of (text_of files reads) entry_name) (link_skeleton files reads).declared d cd) u.3 in
        let turned_name = name_after (text_of files reads) (text_of after seen) entry_name (link_skeleton files reads) t.token t.above t.aim t.is_map to is.linked is.woven is.is is.entry is.respelled entry_differs d cd in (
          sym new ∙ turned_name ∙ kept ∙ old,
          subst ArePlain (sym (name_is u.0) ∙ old) (plain u.0 cu),
          subst (λ z. ren e z ≡ z) old kept,
        )

    -- ---- all of it

    file_turns : FileTurns (name_map files reads t to) taken (scene_of None files reads file) (scene_of None after seen file) (read_at reads file).tree
    file_turns =
        let pk = package_turns (package_of (items_in tree)) refl in
        record {
          version = sym differ.version;
          strings = strings;
          means = meanings_are_turned files reads c after seen t.token t.above t.aim t.is_map to is file l;
          named = pk.0;
          plain = pk.1;
          kept = pk.2;
          options = file_options_stay e taken (λ i. is_some (c (at file i))) a b differ strings (options_in tree) (λ i ci. asked i (Contains-append_left (flat_map (option_tokens a) (options_in tree)) (flat_map (block_tokens a) (blocks_in tree)) i ci));
          names = tree_turns e taken (λ i. is_some (c (at file i))) a b differ strings tree asked (names_are_turned files reads c after seen t.token t.above t.aim t.is_map to is file l) plain no_given field_names (is.read.trees file l).spells.well_formed;
        }

pub files_turn : FilesTurn
files_turn files reads name to t after seen al w written writes file l = file_turns files reads name to t after seen al w written writes file l

-- ---- the descriptors of all files

file_paths : (after files : List FileOf) (k : ℕ) → map (λ (f : FileOf). f.path) after ≡ map (λ (f : FileOf). f.path) files → (file_at after k).path ≡ (file_at files k).path
file_paths after files k h = at_same (λ (f : FileOf). f.path) after files no_file k h

each_described : (e : Renaming) (taken : Taken) (files after : List FileOf) (reads seen : List ReadOf) (n : ℕ) (rs ss : List ReadOf) → map (λ (r : ReadOf). r.tree) ss ≡ map (λ (r : ReadOf). r.tree) rs
    → ((k : ℕ) → k < length rs → file_described (scene_of None after seen (n + k)) (file_at after (n + k)).path (read_at rs k).tree ≡ mapped_file e taken (file_described (scene_of None files reads (n + k)) (file_at files (n + k)).path (read_at rs k).tree))
    → described_from after seen n ss ≡ map (mapped_file e taken) (described_from files reads n rs)
each_described e taken files after reads seen n [] [] h each = refl
each_described e taken files after reads seen n [] (s ∷ ss) h each = absurd cc
each_described e taken files after reads seen n (r ∷ rs) [] h each = absurd cc
each_described e taken files after reads seen n (r ∷ rs) (s ∷ ss) h each =
    let head : s.tree ≡ r.tree = cc in
    let tail : map (λ (r : ReadOf). r.tree) ss ≡ map (λ (r : ReadOf). r.tree) rs = cc in
    let zero_is : n + 0 ≡ n = omega arith in
    let first = subst (λ m. file_described (scene_of None after seen m) (file_at after m).path r.tree ≡ mapped_file e taken (file_described (scene_of None files reads m) (file_at files m).path r.tree)) zero_is (each 0 (omega arith)) in
    ap₂ (λ d ds. d ∷ ds) (ap (file_described (scene_of None after seen n) (file_at after n).path) head ∙ first)
    (each_described e taken files after reads seen (suc n) rs ss tail (λ k l.
    let more : n + suc k ≡ suc n + k = omega arith in
    subst (λ m. file_described (scene_of None after seen m) (file_at after m).path (read_at rs k).tree ≡ mapped_file e taken (file_described (scene_of None files reads m) (file_at files m).path (read_at rs k).tree)) more (each (suc k) (omega (arith, l)))))

pub all_are_mapped : AllAreMapped
all_are_mapped files reads name to t after seen al w written writes =
    let e = name_map files reads t to in
    let taken : Taken = record { written = written; enum = t.enum } in
    each_described (name_map files reads t to) (record { written = written; enum = t.enum }) files after reads seen 0 reads seen w.trees (λ k l.
    let lf : k < length files = omega (arith, l, al.read.same) in
    let none : k ≡ 0 + k = omega arith in
    let mine : file_described (scene_of None after seen k) (file_at after k).path (read_at reads k).tree ≡ mapped_file e taken (file_described (scene_of None files reads k) (file_at files k).path (read_at reads k).tree) =
    ap (λ p. file_described (scene_of None after seen k) p (read_at reads k).tree) (file_paths after files k w.paths)
    ∙ descriptors_are_mapped e taken (scene_of None files reads k) (scene_of None after seen k) (file_at files k).path (read_at reads k).tree (files_turn files reads name to t after seen al w written writes k lf) in
    subst (λ m. file_described (scene_of None after seen m) (file_at after m).path (read_at reads k).tree ≡ mapped_file e taken (file_described (scene_of None files reads m) (file_at files m).path (read_at reads k).tree)) none mine)

pub renames_are_mapped : RenamesAreMapped
renames_are_mapped files reads name to t after seen al w ds new old later =
    let j = writes_json files reads t in
    (j.0, j.1, later seen w.read ∙ all_are_mapped files reads name to t after seen al w j.0 j.1 ∙ ap (mapped (name_map files reads t to) (record { written = j.0; enum = t.enum })) (sym (old reads al.read)))
