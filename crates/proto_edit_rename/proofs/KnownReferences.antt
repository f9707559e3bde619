-- What a reference means knows of it: it is among the references to that name, which its file declares.
use Rattle.std.proofs.Common.{◌≡◌, ◌≢◌, ℕ, ◌+◌, ◌<◌, Bool, true, filter, is_some, List, [], ◌∷◌, ◌++◌, length, get_or, map, option_map, Option, Some, None, refl, sym, ap, subst, ◌∙◌, inl, inr, arith, length-append, Contains, append-nil, true≢false}
use Rattle.proto_base.proofs.Common.{from_map, contains_map, same_from_word}
use Rattle.proto_base.proofs.Lists.{contains_filter}
use Rattle.proto_case.specs.Camel.{entry_name}
use Rattle.proto_files.proofs.Common.{HasNoFault, FileOf, file_at, ReadOf, AreRead, read_at}
use Rattle.proto_names_outline.proofs.Common.{items_in, package_first, same_declared, tree_span, whole}
use Rattle.proto_names_rules.proofs.Common.{Renaming, target, At, at, used_in, ArePlain, joined, IsLinked, Workspace, Symbol, meaning, Source, Token, Skeleton, Used, Placed, name_of, place_from, reference_of, spell, symbol_of, declared_of, shifted_declared, map_append, has_meaning, meant, front_or_same, one_symbol}
use Rattle.proto_names_rules.specs.declared.kind.Kind.{Kind}
use Rattle.proto_names_rules.specs.declared.kind.Kind.TheVariants.{Package, Entry, EntryField}
use Rattle.proto_names_imports.proofs.Common.{LinkFaults, link_skeleton, names_of_files, text_of, used_named, uses_of, name_in, names_are_plain}
use Rattle.proto_names.proofs.Common.{use_there, IsLinkRead, TextMeant, meant_by_link, meant_by_use, LinkOf, name_text}
use Rattle.proto_names.specs.Common.{declared_names}
use Rattle.proto_names.specs.LinkOfFiles.{has_text, reference_id}
use Rattle.proto_names.specs.Linking.{RefId}
use Rattle.proto_names.specs.Linking.{Meant}
use Rattle.proto_edit_rename_laws.proofs.Common.{Target, IsNamed, may_rename, name_map, files_are_linked, place_last}
use Rattle.proto_edit_rename_laws.proofs.Declarations.{declared_by, ends_with_token, is_written}
use Rattle.proto_edit_rename.specs.StandingTokens.{words_behind}
use Rattle.proto_edit_rename.proofs.NameTexts.{is_behind}
use Rattle.proto_edit_captures.proofs.ByTexts.{named_at}

written : (k : Kind) → may_rename k ≡ true → is_written k ≡ true
written Entry h = absurd (true≢false (sym h))
written EntryField h = absurd (true≢false (sym h))
written whole h = refl

no_package : (k : Kind) → may_rename k ≡ true → k ≢ Package
no_package k h e = true≢false (sym h ∙ ap may_rename e)

module _ (files : List FileOf) (reads : List ReadOf) (are : AreRead files reads) (clean : HasNoFault (LinkFaults files)) (l : LinkOf) (link : IsLinkRead files reads l) where
  abbrev text : At → List ℕ
  text = text_of files reads

  abbrev k : Skeleton At
  k = link_skeleton files reads

  abbrev w : Workspace
  w = names_of_files files reads

  linked : IsLinked w
  linked = files_are_linked files reads are clean

  one_row : (i j : ℕ) (t : List ℕ) → name_text l i ≡ Some t → name_text l j ≡ Some t → i ≡ j
  one_row i j t h q =
      let m = named_at l i t h in
      let n = named_at l j t q in
      link.by.names.once i j m.0 n.0 m.1 n.1 (m.2 ∙ sym n.2)

  -- ---- a symbol is among what its file declares

  symbol_declared : (s : Symbol) → Contains w.symbols s → (s.file < length files) × Contains (declared_names files reads s.file) s.name
  symbol_declared s cs =
      let d = from_map (symbol_of text entry_name) k.declared s cs in
      let o = declared_by 0 reads d.0 d.1 in
      let n : 0 + o.k ≡ o.k = omega arith in
      let is : symbol_of text entry_name (shifted_declared (at o.k) (declared_of o.k o.p)) ≡ s =
      ap (symbol_of text entry_name) (subst (λ (m : ℕ). shifted_declared (at m) (declared_of m o.p) ≡ d.0) n o.is) ∙ d.2 in
      let same = are.same in
      let last = o.inside in
      let inside : o.k < length files = omega (arith, last, same) in
      let tree = (read_at reads o.k).tree in
      let span = tree_span (file_at files o.k).profile (file_at files o.k).bytes (read_at reads o.k).tokens tree (are.trees o.k inside) in
      let listed = (same_declared (items_in tree) span.0 span.1 span.2 o.p).1 o.within in
      let there : Contains (declared_names files reads o.k) (name_of (λ i. text (at o.k i)) entry_name (whole o.p)) = contains_map (λ (p : Placed). name_of (λ i. text (at o.k i)) entry_name (whole p)) (package_first (items_in tree)) o.p listed in
      let name : name_of (λ i. text (at o.k i)) entry_name (whole o.p) ≡ s.name = sym (name_in text o.k (whole o.p)) ∙ ap (λ (z : Symbol). z.name) is in
      let file : o.k ≡ s.file = ap (λ (z : Symbol). z.file) is in (
        subst (λ (m : ℕ). m < length files) file inside,
        subst (λ (m : ℕ). Contains (declared_names files reads m) s.name) file (subst (Contains (declared_names files reads o.k)) name there),
      )

  -- so its row is among the rows of its file
  pub row_declared : (s : Symbol) → Contains w.symbols s → (row : ℕ) → name_text l row ≡ Some (joined s.name) → Contains (get_or l.rows s.file []) row
  row_declared s cs row said =
      let d = symbol_declared s cs in
      let f : List (List ℕ) → Option (List ℕ) = λ name. Some (joined name) in
      let there = contains_map f (declared_names files reads s.file) s.name d.1 in
      let r = from_map (name_text l) (get_or l.rows s.file []) (Some (joined s.name)) (subst (λ (z : List (Option (List ℕ))). Contains z (Some (joined s.name))) (sym (link.declares s.file d.0)) there) in
      subst (Contains (get_or l.rows s.file [])) (one_row r.0 row (joined s.name) r.2 said) r.1

  -- ---- a reference is among those to what it means

  module _ (file : ℕ) (within : file < length files) where
    used_there : (u : Used ℕ) → Contains (uses_of reads file) u → Contains k.used (used_in file u)
    used_there u c =
        let same = are.same in
        let none : 0 + file ≡ file = omega arith in
        subst (λ (n : ℕ). Contains k.used (used_in n u)) none (use_there 0 reads file u (omega (arith, same, within)) c)

    -- what is known of a reference of the file
    pub record IsKnown (m : Meant) : Type 0 where
      pub s : Symbol
      pub symbol : Contains w.symbols s
      pub said : name_text l m.row ≡ Some (joined s.name)
      pub listed : Contains (get_or l.references m.row []) (record { file = file; token = m.token })

    pub known : (m : Meant) → Contains (get_or l.meant file []) m → IsKnown m
    known m c =
        let said = (link.means file within).texts in
        let there = subst (λ (z : List TextMeant). Contains z (meant_by_link l m)) said (contains_map (meant_by_link l) (get_or l.meant file []) m c) in
        let u = from_map (meant_by_use files reads file) (uses_of reads file) (meant_by_link l m) there in
        let r = used_named text file u.0 in
        let cu = used_there u.0 u.1 in
        let x = has_meaning (meaning w r) (linked.resolved r (contains_map (reference_of text entry_name) k.used (used_in file u.0) cu)) in
        let s = meant w r x.0 x.1 in
        let row : name_text l m.row ≡ Some (joined x.0) = sym (ap (λ (z : TextMeant). z.text) u.2) ∙ ap (option_map joined) x.1 in
        let n = named_at l m.row (joined x.0) row in
        let test : has_text n.0.text (meaning w r) ≡ true = ap (has_text n.0.text) x.1 ∙ same_from_word (joined x.0) n.0.text (sym n.2) in
        let passes : Used At → Bool = λ v. has_text n.0.text (meaning w (reference_of text entry_name v)) in
        let kept = contains_map reference_id (filter passes k.used) (used_in file u.0) (contains_filter passes k.used (used_in file u.0) cu test) in
        let token : u.0.first ≡ m.token = ap (λ (z : TextMeant). z.token) u.2 in
        let id : ℕ → RefId = λ t. record { file = file; token = t } in
        record {
          s = s.0;
          symbol = s.1;
          said = row ∙ ap (λ (z : List (List ℕ)). Some (joined z)) (sym s.2);
          listed = subst (λ (rs : List RefId). Contains rs (id m.token)) (sym (link.by.references m.row n.0 n.1)) (subst (λ (t : ℕ). Contains (map reference_id (filter passes k.used)) (id t)) token kept);
        }

  -- ---- what goes on from a name stands in its file

  module _ (name : List ℕ) (t : Target) (named : IsNamed files reads name t) where
    abbrev e : Renaming
    e = name_map files reads t []

    aim_name : name_of text entry_name t.aim.path ≡ target e
    aim_name = ap (name_of text entry_name) named.path ∙ map_append (spell text entry_name) t.above (Token t.token ∷ [])

    aim_there : Contains w.symbols (symbol_of text entry_name t.aim)
    aim_there = contains_map (symbol_of text entry_name) k.declared t.aim named.within

    target_plain : ArePlain (target e)
    target_plain = subst ArePlain aim_name (names_are_plain files reads are (symbol_of text entry_name t.aim) aim_there)

    target_text : name ≡ joined (target e)
    target_text = sym named.name_is ∙ ap joined aim_name

    target_some : target e ≢ []
    target_some z = let n = ap length z in let m = length-append e.parent (e.old ∷ []) in omega (arith, n, m)

    -- a target's token is one of the file that declares it
    aim_file : t.aim.file ≡ t.token.file
    aim_file =
        let o = ends_with_token 0 reads t.aim named.within (written t.aim.kind named.kind) in
        let last : at t.aim.file o.1 ≡ t.token = sym (place_last t.token o.0 (at t.aim.file o.1)) ∙ ap (λ (p : List (Source At)). place_from t.token p) (sym o.2 ∙ named.path) ∙ place_last t.token t.above t.token in
        ap (λ (a : At). a.file) last

    same_file : (s : Symbol) → Contains w.symbols s → s.name ≡ target e → s.file ≡ t.aim.file
    same_file s cs n = elim (one_symbol w.symbols linked.unique s (symbol_of text entry_name t.aim) cs aim_there (n ∙ sym aim_name)) [
      | inl same ↦ ap (λ (z : Symbol). z.file) same
      | inr both ↦ absurd (no_package t.aim.kind named.kind both.1)
    ]

    pub going_on : (s : Symbol) → Contains w.symbols s → is_some (words_behind name (joined s.name)) ≡ true → s.file ≡ t.token.file
    going_on s cs h = by (words_behind name (joined s.name)) refl h
      where
        by : (o : Option ℕ) → words_behind name (joined s.name) ≡ o → is_some o ≡ true → s.file ≡ t.token.file
        by None q h = absurd (true≢false (sym h))
        by (Some n) q h =
            let b = is_behind (target e) s.name n target_some target_plain (names_are_plain files reads are s cs) (ap (λ (z : List ℕ). words_behind z (joined s.name)) (sym target_text) ∙ q) in
            elim (front_or_same w.symbols linked.nested (target e) b.0 s cs b.1 (omega (arith, length-append e.parent (e.old ∷ [])))) [
              | inl none ↦ same_file s cs (b.1 ∙ ap (λ (z : List (List ℕ)). target e ++ z) none ∙ append-nil (target e)) ∙ aim_file
              | inr front ↦ sym front.file ∙ same_file front.it front.within front.name ∙ aim_file
            ]
