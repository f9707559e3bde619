-- An admissible rename of files without a fault leaves files without one (for the crates above).
use Rattle.std.proofs.Common.{◌≡◌, ◌≢◌, ℕ, ◌<◌, ◌==◌, true, false, ◌||◌, ◌⊎◌, if◌then◌else◌, List, [], ◌∷◌, ◌++◌, length, map, flat_map, find, Option, None, is_some, option_map, refl, sym, ap, ap₂, subst, ◌∙◌, inl, inr, arith, codes, option_and_then, Contains, filter, eq-eqb, ne_eqb, bytes_eq}
use Rattle.proto_base.proofs.Common.{All-contains, Contains-append_left, Contains-append_right, cases_Bool, cases_eq, cond-true, cond-false, contains_cases, contains_head, contains_later, contains_map, fails_from, from_map, or_parts}
use Rattle.proto_case.specs.Camel.{entry_name}
use Rattle.proto_text.proofs.Common.{is_run, run_is, length_map, or_word}
use Rattle.proto_tree.specs.declared.piece.Header.{Header}
use Rattle.proto_tree.specs.Tree.{Tree}
use Rattle.proto_tree.specs.declared.piece.Header.TheVariants as header
use Rattle.proto_files.proofs.Common.{HasNoFault, FileOf, ReadOf, file_at, read_at, read_once}
use Rattle.proto_names_rules.proofs.Common.{IsCaptured, At, Used, at, has_meaning, joined, reference_of, ren, used_in}
use Rattle.proto_names_rules.specs.Edits.{target}
use Rattle.proto_names_rules.specs.declared.kind.Kind.TheVariants.{Package, Entry}
use Rattle.proto_names_imports.specs.Links.{LinkFaults, text_of, link_skeleton, names_of_files}
use Rattle.proto_names_imports.proofs.Common.{used_named, uses_of}
use Rattle.proto_custom_options.specs.CustomOptions.{is_options_message}
use Rattle.proto_tree.specs.References.{first_of}
use Rattle.proto_ast.proofs.Common.{is_named, value_named, text_of_constant as text_value, BlockOf, FieldOf, OptionOf, blocks_in, fields_in, reserved_names_in, values_in, MeantOf, Scene, meant_by, text, value, json_name_of, json_word}
use Rattle.proto_desc_numbers.specs.declared.flaw.Flaw.{Flaw}
use Rattle.proto_desc_checks.proofs.Common.{default_flaws, file_flaws, is_of_options, json_clashes, name_flaws}
use Rattle.proto_desc_extensions.specs.Common.{workspace_flaws}
use Rattle.proto_desc_checks_laws.proofs.Common.{asked_tokens, flaws_of_block, is_of_names, flaws_of_names, no_flaw_comes_in}
use Rattle.proto_desc_checks_laws.proofs.RenamedFlaws.{names_decide_three_kinds}
use Rattle.proto_desc_checks_laws.specs.Renamed.{OptionsMessagesStay}
use Rattle.proto_edit_rules.specs.Options.{HasWritten, is_fixed}
use Rattle.proto_edit_rules.specs.Rename.{fixed_name}
use Rattle.proto_edit_rename_laws.proofs.Common.{has_json_names, meaning_of, meant_as, scene_of, collision, captured, name_reserved, json_clash, keyword_name, not_an_identifier, fields_of_block, AreReworded, SuitFiles, Names, Uses, TokensHaveRenameRoles, IsRename, Target, may_rename, name_map, renamed_words, places_are_suited, tokens_are_inside, files_are_linked, files_are_woven, no_link_fault, other_texts_stay, texts_are_changed, places_respelled, find_agree, meaning_after, scenes_are_apart, trees_at, used_here, uses_stay, values_stay, version_stays}
use Rattle.proto_desc.specs.Checked.{CheckFaults, of_flaw, fault_of_flaw, flaws_of}
use Rattle.proto_edit_rename_laws.proofs.TokenRoles.{tokens_have_roles}
use Rattle.proto_edit_rename_described.specs.Allowed.{DefaultsFit, IsAllowedRename}
use Rattle.proto_edit_rename_described.specs.NamesKept.{AreKept, written}
use Rattle.proto_edit_rename_described.proofs.ExtensionsStay.{workspace_stays}
use Rattle.proto_edit_rename_described.proofs.NamesKept.{empty_parts, json_names_stay, reserved_names_stay}
use Rattle.proto_edit_rename_described.proofs.FileStays.{option_agrees}
use Rattle.proto_edit_rename_described.proofs.OptionsStay.{file_there, meant_stay, names_stay, plain_meaning}

none_listed : (fs : List Flaw) → ((f : Flaw) → Contains fs f → ⊥) → fs ≡ []
none_listed [] h = refl
none_listed (f ∷ fs) h = absurd (h f (contains_head f fs))

-- each part of an empty list is empty
pub empty_each : {A : Type 0} (f : A → List Flaw) (xs : List A) → flat_map f xs ≡ [] → (x : A) → Contains xs x → f x ≡ []
empty_each f [] e x c = absurd (omega (arith, c.1))
empty_each f (y ∷ xs) e x c =
    let p = empty_parts (f y) (flat_map f xs) e in
    elim (contains_cases y x xs c) [
      | inl q ↦ subst (λ z. f z ≡ []) q p.0
      | inr d ↦ empty_each f xs p.1 x d
    ]

all_empty : {A : Type 0} (f : A → List Flaw) (xs : List A) → ((x : A) → Contains xs x → f x ≡ []) → flat_map f xs ≡ []
all_empty f [] h = refl
all_empty f (x ∷ xs) h = ap₂ (λ (l m : List Flaw). l ++ m) (h x (contains_head x xs)) (all_empty f xs (λ y c. h y (contains_later x y xs c)))

may_is_no_package : (k : _) → may_rename k ≡ true → (k ≢ Package) × (k ≢ Entry)
may_is_no_package k h = ((λ e. differ (sym h ∙ ap may_rename e)), λ e. differ (sym h ∙ ap may_rename e))
  where
    differ : true ≡ false → ⊥
    differ z = cc

-- the tokens have their roles
pub allowed_roles : (files : List FileOf) (reads : List ReadOf) (name to : List ℕ) (t : Target) → IsAllowedRename files reads name to t → TokensHaveRenameRoles files reads t to
allowed_roles files reads name to t a = tokens_have_roles files reads name to t a.read a.link a.named

-- The new word suits its places, since neither case 3 nor case 4 refuses it.
pub words_suit : (files : List FileOf) (reads : List ReadOf) (name to : List ℕ) (t : Target) → IsAllowedRename files reads name to t → SuitFiles (renamed_words files reads t to) reads
words_suit files reads name to t a =
    places_are_suited files reads name to t (files_are_linked files reads a.read a.link) a.named (allowed_roles files reads name to t a).tokens.wants (run_is to word) (λ h. a.admissible 4 (keyword_name t a.named h))
  where
    word : is_run to ≡ true
    word = elim (cases_Bool (is_run to)) [ inl y ↦ y | inr n ↦ absurd (a.admissible 3 (not_an_identifier n)) ]

module _ (files : List FileOf) (reads : List ReadOf) (name to : List ℕ) (t : Target) (after : List FileOf) (seen : List ReadOf)
    (a : IsAllowedRename files reads name to t) (w : AreReworded (renamed_words files reads t to) files reads after seen) where
  abbrev c : At → Option (List ℕ)
  c = renamed_words files reads t to

  texts : (i : At) → Names (link_skeleton files reads) i ⊎ Uses (link_skeleton files reads) i → text_of after seen i ≡ or_word (c i) (text_of files reads i)
  texts i role = let l = tokens_are_inside files reads a.read i role in texts_are_changed c files reads after seen a.read w i l.0 l.1

  pub is_rename : IsRename files reads (renamed_words files reads t to) after seen t.token t.above t.aim t.is_map to
  is_rename =
      let linked = files_are_linked files reads a.read a.link in
      let kinds = may_is_no_package t.aim.kind a.named.kind in
      record {
        read = a.read;
        suits = words_suit files reads name to t a;
        reworded = w;
        linked = linked;
        woven = files_are_woven files reads a.read;
        is = record { within = a.named.within; path = a.named.path; no_package = kinds.0; no_entry = kinds.1 };
        entry = a.named.entry;
        respelled = places_respelled (text_of files reads) (text_of after seen) (link_skeleton files reads) t.token t.above t.aim t.is_map to _ (record { within = a.named.within; path = a.named.path; no_package = kinds.0; no_entry = kinds.1 }) (allowed_roles files reads name to t a).tokens.apart texts;
        free = record {
          no_collision = λ h. a.admissible 6 (collision t a.named h);
          no_capture = λ r cr h. (
              let u = from_map (reference_of (text_of files reads) entry_name) (link_skeleton files reads).used r cr in
              a.admissible 7 (captured t u.0 a.named (record { used = u.1; captured = subst (λ x. IsCaptured (name_map files reads t to) (names_of_files files reads) x) (sym u.2) h })));
        };
        numbers = (allowed_roles files reads name to t a).tokens.numbers;
      }

  pub same_length : length after ≡ length files
  same_length = sym (length_map (λ (g : FileOf). g.path) after) ∙ ap length w.paths ∙ length_map (λ (g : FileOf). g.path) files

  -- what case 20 leaves
  free_names : HasWritten files → (is_fixed (target (name_map files reads t to)) ≡ false) × (is_fixed ((name_map files reads t to).parent ++ to ∷ []) ≡ false)
  free_names h =
      or_parts (is_fixed (target (name_map files reads t to))) (is_fixed ((name_map files reads t to).parent ++ to ∷ []))
      (fails_from (is_fixed (target (name_map files reads t to)) || is_fixed ((name_map files reads t to).parent ++ to ∷ [])) (λ e. a.admissible 20 (fixed_name t a.named (h, e))))

  -- ---- the flaws of a file

  module _ (file : ℕ) (l : file < length files) where
    abbrev old : Scene
    old = scene_of None files reads file

    abbrev new : Scene
    new = scene_of None after seen file

    abbrev tree : Tree
    tree = (read_at reads file).tree

    pub clean : file_flaws old tree ≡ []
    clean = none_listed (file_flaws old tree) (λ f h. a.checks (fault_of_flaw files reads file f) (of_flaw reads file f a.read l (Contains-append_left (file_flaws old tree) _ f h)))

    -- the renamed token in this file, or one past all
    abbrev here : ℕ
    here = if file == t.token.file then t.token.token else length (read_at reads file).tokens

    strings : (i : ℕ) → value old i ≡ value new i
    strings = values_stay files reads c after seen t.token t.above t.aim t.is_map to is_rename file l

    -- a token that names a declaration: the renamed one, or another
    named_at : (i : ℕ) → Names (link_skeleton files reads) (at file i) → (at file i ≡ t.token) ⊎ ((at file i ≢ t.token) × (text_of after seen (at file i) ≡ text_of files reads (at file i)))
    named_at i (s, cs, (above, inl path)) = is_rename.respelled.others s cs above (at file i) path
    named_at i (s, cs, (above, inr path)) = is_rename.respelled.other_entries s cs above (at file i) path

    kept : (ts : List ℕ) → ((i : ℕ) → Contains ts i → Names (link_skeleton files reads) (at file i)) → AreKept old new here to ts
    kept ts names i ci = elim (named_at i (names i ci)) [
      | inl e ↦
          let f : file ≡ t.token.file = ap (λ (x : At). x.file) e in
          let k : here ≡ t.token.token = cond-true (file == t.token.file) t.token.token (length (read_at reads file).tokens) (eq-eqb file t.token.file f) in
          inl (ap (λ (x : At). x.token) e ∙ sym k, ap (text_of after seen) e ∙ is_rename.respelled.aim)
      | inr o ↦ inr (apart i (names i ci) o.0, o.1)
    ]
      where
        apart : (i : ℕ) → Names (link_skeleton files reads) (at file i) → at file i ≢ t.token → i ≢ here
        apart i role ne q = elim (cases_eq file t.token.file) [
          | inl f ↦
              let k : here ≡ t.token.token = cond-true (file == t.token.file) t.token.token (length (read_at reads file).tokens) (eq-eqb file t.token.file f) in
              ne (ap₂ (λ (x y : ℕ). at x y) f (q ∙ k))
          | inr f ↦
              let k : here ≡ length (read_at reads file).tokens = cond-false (file == t.token.file) t.token.token (length (read_at reads file).tokens) (ne_eqb file t.token.file f) in
              let m = (tokens_are_inside files reads a.read (at file i) (inl role)).1 in
              absurd (omega (arith, q, k, m))
        ]

    -- the token is here only in its own file
    own : Names (link_skeleton files reads) (at file here) → (file ≡ t.token.file) × (here ≡ t.token.token)
    own role = elim (cases_eq file t.token.file) [
      | inl f ↦ (f, cond-true (file == t.token.file) t.token.token (length (read_at reads file).tokens) (eq-eqb file t.token.file f))
      | inr f ↦
          let k : here ≡ length (read_at reads file).tokens = cond-false (file == t.token.file) t.token.token (length (read_at reads file).tokens) (ne_eqb file t.token.file f) in
          let m = (tokens_are_inside files reads a.read (at file here) (inl role)).1 in
          absurd (omega (arith, k, m))
    ]

    module _ (b : BlockOf) (cb : Contains (blocks_in (read_at reads file).tree) b) where
      abbrev names : List ℕ
      names = map (λ (f : FieldOf). f.name) (fields_in b.within)

      field_roles : (i : ℕ) → Contains names i → Names (link_skeleton files reads) (at file i)
      field_roles i ci = let f = from_map (λ (f : FieldOf). f.name) (fields_in b.within) i ci in subst (λ z. Names (link_skeleton files reads) (at file z)) f.2 ((allowed_roles files reads name to t a).tokens.field_names file b f.0 l cb f.1)

      -- case 8
      reserved_at : (f : ℕ) → f ≡ t.token.file → Contains (blocks_in (read_at reads f).tree) b → (Contains (map (λ (x : FieldOf). x.name) (fields_in b.within)) t.token.token ⊎ Contains (map (λ v. v.name) (values_in b.within)) t.token.token)
          → Contains (map (value (scene_of None files reads f)) (reserved_names_in b.within)) to → ⊥
      reserved_at f e block there word =
          a.admissible 8 (name_reserved t a.named (b, subst (λ z. Contains (blocks_in (read_at reads z).tree) b) e block, there, subst (λ z. Contains (map (value (scene_of None files reads z)) (reserved_names_in b.within)) to) e word))

      -- case 9
      clash_at : has_json_names b.header ≡ true → (f : ℕ) → f ≡ t.token.file → Contains (blocks_in (read_at reads f).tree) b → (x other : FieldOf) → Contains (fields_in b.within) x → x.name ≡ t.token.token → Contains (fields_in b.within) other → other.name ≢ x.name
          → (scene_of None files reads f).is_proto3 ≡ true → written (scene_of None files reads f) x ≡ None → json_word to ≡ json_name_of (scene_of None files reads f) other → ⊥
      clash_at json f e block x other cx n co ne p3 none same =
          a.admissible 9 (json_clash t a.named (record {
            b = b;
            f = x;
            other = other;
            field = record { block = subst (λ z. Contains (blocks_in (read_at reads z).tree) b) e block; field = cx; name = n };
            has_names = json;
            beside = co;
            differs = ne;
            proto3 = subst (λ z. (scene_of None files reads z).is_proto3 ≡ true) e p3;
            unwritten = subst (λ z. written (scene_of None files reads z) x ≡ None) e none;
            same = subst (λ z. json_word to ≡ json_name_of (scene_of None files reads z) other) e same;
          }))

      written_stays : (f : FieldOf) → Contains (fields_in b.within) f → written old f ≡ written new f
      written_stays f cf =
          let same : value_named (text old) (codes "json_name") f.options ≡ value_named (text new) (codes "json_name") f.options =
          ap (option_map (λ (o : OptionOf). o.value)) (find_agree (is_named (text old) (codes "json_name")) (is_named (text new) (codes "json_name")) f.options (λ o co.
          ap (λ v. bytes_eq v (codes "json_name")) (sym (other_texts_stay c files reads after seen a.read w (at file o.name) l ((allowed_roles files reads name to t a).tokens.option_names file b f o cb cf co))))) in
          ap (option_and_then (text_value (value old))) same ∙ option_agrees (value old) (value new) strings (value_named (text new) (codes "json_name") f.options)

      message_clean : has_json_names b.header ≡ true → ((f : FieldOf) → Contains (fields_in b.within) f → default_flaws new f ≡ [])
          → flat_map (default_flaws old) (fields_in b.within) ++ (name_flaws old (reserved_names_in b.within) (map (λ (f : FieldOf). f.name) (fields_in b.within)) ++ json_clashes old (fields_in b.within)) ≡ []
          → flat_map (default_flaws new) (fields_in b.within) ++ (name_flaws new (reserved_names_in b.within) (map (λ (f : FieldOf). f.name) (fields_in b.within)) ++ json_clashes new (fields_in b.within)) ≡ []
      message_clean json defaults e =
          let p = empty_parts (flat_map (default_flaws old) (fields_in b.within)) (name_flaws old (reserved_names_in b.within) (map (λ (f : FieldOf). f.name) (fields_in b.within)) ++ json_clashes old (fields_in b.within)) e in
          let q = empty_parts (name_flaws old (reserved_names_in b.within) (map (λ (f : FieldOf). f.name) (fields_in b.within))) (json_clashes old (fields_in b.within)) p.1 in
          let ks = kept (map (λ (f : FieldOf). f.name) (fields_in b.within)) field_roles in
          ap₂ (λ (x y : List Flaw). x ++ y) (all_empty (default_flaws new) (fields_in b.within) defaults)
          (ap₂ (λ (x y : List Flaw). x ++ y)
          (reserved_names_stay old new here to (reserved_names_in b.within) (map (λ (f : FieldOf). f.name) (fields_in b.within)) strings ks
          (λ is word. let o = own (field_roles here is) in reserved_at file o.0 cb (inl (subst (λ z. Contains (map (λ (f : FieldOf). f.name) (fields_in b.within)) z) o.1 is)) word) q.0)
          (json_names_stay old new here to (fields_in b.within) (version_stays files reads c after seen t.token t.above t.aim t.is_map to is_rename file l) written_stays ks ((allowed_roles files reads name to t a).tokens.fields file b cb)
          (λ f other cf n co ne p3 none same. (
          let role = subst (λ z. Names (link_skeleton files reads) (at file z)) n ((allowed_roles files reads name to t a).tokens.field_names file b f l cb cf) in
          let o = own role in
          clash_at json file o.0 cb f other cf (n ∙ o.1) co ne p3 none same)) q.1))

      enum_clean : name_flaws old (reserved_names_in b.within) (map (λ v. v.name) (values_in b.within)) ≡ [] → name_flaws new (reserved_names_in b.within) (map (λ v. v.name) (values_in b.within)) ≡ []
      enum_clean e =
          reserved_names_stay old new here to (reserved_names_in b.within) (map (λ v. v.name) (values_in b.within)) strings (kept (map (λ v. v.name) (values_in b.within)) ((allowed_roles files reads name to t a).tokens.value_names file b l cb))
          (λ is word. let o = own ((allowed_roles files reads name to t a).tokens.value_names file b l cb here is) in reserved_at file o.0 cb (inr (subst (λ z. Contains (map (λ v. v.name) (values_in b.within)) z) o.1 is)) word) e

      block_clean : (h : Header) → b.header ≡ h → ((f : FieldOf) → Contains (fields_of_block h b.within) f → default_flaws new f ≡ []) → flaws_of_block old h b.within ≡ [] → flaws_of_block new h b.within ≡ []
      block_clean (header.Message h) is defaults e = message_clean (ap has_json_names is) defaults e
      block_clean (header.Enum h) is defaults e = enum_clean e
      block_clean (header.Extend x) is defaults e = all_empty (default_flaws new) (fields_in b.within) defaults
      block_clean whole is defaults e = refl

    options_stay : OptionsMessagesStay old new
    options_stay written r =
        let free = free_names (file_at files file, file_there files file l, written) in
        subst (λ us. is_of_options (meant_by old r) ≡ is_of_options (find (λ (m : MeantOf). m.token == first_of r.dot r.words) (map (λ u. meant_as after seen u.first (meaning_of after seen file u)) us))) (sym (uses_stay files reads c after seen t.token t.above t.aim t.is_map to is_rename file))
        (meant_stay (uses_of reads file) (λ u. meant_as files reads u.first (meaning_of files reads file u)) (λ u. meant_as after seen u.first (meaning_of after seen file u)) (first_of r.dot r.words) (each free))
      where
        each : (is_fixed (target (name_map files reads t to)) ≡ false) × (is_fixed ((name_map files reads t to).parent ++ to ∷ []) ≡ false) → (u : Used ℕ) → Contains (uses_of reads file) u
            → ((meant_as files reads u.first (meaning_of files reads file u)).token ≡ (meant_as after seen u.first (meaning_of after seen file u)).token)
            × (is_options_message (meant_as files reads u.first (meaning_of files reads file u)).name ≡ is_options_message (meant_as after seen u.first (meaning_of after seen file u)).name)
        each free u cu =
            let cr = contains_map (reference_of (text_of files reads) entry_name) (link_skeleton files reads).used (used_in file u) (used_here files reads c after seen t.token t.above t.aim t.is_map to is_rename file l u cu) in
            let m = has_meaning (meaning_of files reads file u) (is_rename.linked.resolved (used_named (text_of files reads) file u) cr) in
            let later = meaning_after files reads c after seen t.token t.above t.aim t.is_map to is_rename file l u cu m.0 m.1 in
            subst (λ o. ((meant_as files reads u.first o).token ≡ (meant_as after seen u.first (meaning_of after seen file u)).token) × (is_options_message (meant_as files reads u.first o).name ≡ is_options_message (meant_as after seen u.first (meaning_of after seen file u)).name)) (sym m.1)
            (subst (λ o. (u.first ≡ (meant_as after seen u.first o).token) × (is_options_message (joined m.0) ≡ is_options_message (meant_as after seen u.first o).name)) (sym later)
            (refl, names_stay (name_map files reads t to) t.is_map refl free.0 free.1 m.0 (plain_meaning files reads a.read file u m.0 m.1) (plain_meaning after seen w.read file u (ren (name_map files reads t to) m.0) later)))

    file_clean : DefaultsFit after seen → file_flaws new tree ≡ []
    file_clean fit =
        let differ = scenes_are_apart files reads c after seen t.token t.above t.aim t.is_map to is_rename file l in
        let same = names_decide_three_kinds (λ i. is_some (c (at file i))) old new tree differ options_stay ((allowed_roles files reads name to t a).tokens.asked file l) in
        let none : flat_map (λ (x : BlockOf). flaws_of_block old x.header x.within) (blocks_in tree) ≡ [] = sym (flaws_of_names old tree) ∙ ap (filter (λ (f : Flaw). is_of_names f.kind)) clean in
        no_flaw_comes_in old new tree clean same (λ x cx.
        block_clean x cx x.header refl (λ f cf. fit file x f (omega (arith, l, same_length)) (subst (λ z. Contains (blocks_in z) x) (sym (trees_at files reads c after seen t.token t.above t.aim t.is_map to is_rename file)) cx) cf)
        (empty_each (λ (x : BlockOf). flaws_of_block old x.header x.within) (blocks_in tree) none x cx))

  -- no number of an extension is wrong
  numbers_clean : (file : ℕ) → file < length files → workspace_flaws None after seen file ≡ []
  numbers_clean file l =
      workspace_stays files reads c after seen t.token t.above t.aim t.is_map to is_rename (λ f m i ci. All-contains (λ i. is_some (c (at f i)) ≡ false) (asked_tokens (scene_of None files reads f) (read_at reads f).tree) i ((allowed_roles files reads name to t a).tokens.asked f m) ci) free_names file l
      ∙ none_listed (workspace_flaws None files reads file) (λ f h. a.checks (fault_of_flaw files reads file f) (of_flaw reads file f a.read l (Contains-append_right (file_flaws (scene_of None files reads file) (read_at reads file).tree) (workspace_flaws None files reads file) f h)))

  checks_clean : DefaultsFit after seen → HasNoFault (CheckFaults after)
  checks_clean fit x (of_flaw others file f are l h) =
      let same : others ≡ seen = read_once after others seen are w.read in
      let inside : file < length files = omega (arith, l, same_length) in
      let there : Contains (flaws_of after seen file) f = subst (λ rs. Contains (flaws_of after rs file) f) same h in
      let tree_is = trees_at files reads c after seen t.token t.above t.aim t.is_map to is_rename file in
      let alone = ap (file_flaws (scene_of None after seen file)) tree_is ∙ file_clean file inside fit in
      let empty : flaws_of after seen file ≡ [] = ap₂ (λ (x y : List Flaw). x ++ y) alone (numbers_clean file inside) in
      let none = subst (λ fs. Contains fs f) empty there in
      absurd (omega (arith, none.1))

-- no fault comes in where the defaults fit
pub no_fault_beside_defaults : (files : List FileOf) (reads : List ReadOf) (name to : List ℕ) (t : Target) (after : List FileOf) (seen : List ReadOf)
    → IsAllowedRename files reads name to t → AreReworded (renamed_words files reads t to) files reads after seen → DefaultsFit after seen → HasNoFault (LinkFaults after) × HasNoFault (CheckFaults after)
no_fault_beside_defaults files reads name to t after seen a w fit = (
  no_link_fault files reads (renamed_words files reads t to) after seen t.token t.above t.aim t.is_map to (is_rename files reads name to t after seen a w) a.link,
  checks_clean files reads name to t after seen a w fit,
)
