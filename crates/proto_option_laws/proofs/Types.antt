-- What a reference means stands in a file to which its own leads (for the crates above).
use Rattle.std.proofs.Common.{◌≡◌, ◌≢◌, ℕ, ◌+◌, ◌<◌, ◌==◌, ◌&&◌, List, map, find, Option, Some, None, option_map, refl, sym, ◌∙◌, ap, subst, inl, inr, arith, Contains, eqb-true, length, [], true}
use Rattle.proto_base.proofs.Common.{and_parts, any_to, contains_map, found_in_map, from_map, list_any, none-some, or_cases, same_Some}
use Rattle.proto_ast.proofs.Common.{MeantOf, meant_by}
use Rattle.proto_case.specs.Camel.{entry_name}
use Rattle.proto_desc_build.specs.Described.{absolute, type_name_of}
use Rattle.proto_edit_rename_described.proofs.EnumDefaults.{meant_token}
use Rattle.proto_edit_rename_described.proofs.Mapped.{joined_dotted, words_of_dotted}
use Rattle.proto_edit_rename_described.proofs.ScenesTurn.{named_some, some_path}
use Rattle.proto_edit_rename_laws.proofs.Common.{files_are_linked, find_agree, find_there, meaning_of, meant_as, scene_of}
use Rattle.proto_edit_rules.specs.Rename.{words_of}
use Rattle.proto_files.proofs.Common.{AreRead, FileOf, HasNoFault, ReadOf}
use Rattle.proto_names_imports.proofs.Common.{LinkFaults, link_imports, link_skeleton, names_are_plain, names_in, names_of_files, text_of, use_in, used_named, uses_of}
use Rattle.proto_names_rules.proofs.Common.{ArePlain, At, Declared, Import, IsLinked, Leads, Reaches, Symbol, Used, Workspace, along, has_meaning, here, joined, meant, name_of, onward, reaches, reaches_only, sees, stop, symbol_of, used_in, wanted_no_package, reference_of}
use Rattle.proto_names_rules.specs.Names.{Name}
use Rattle.proto_option_laws.specs.Declared.{IsReached, TypeIsReached}
use Rattle.proto_tree.specs.References.{first_of}
use Rattle.proto_tree.specs.declared.tree.FieldType.{FieldType}
use Rattle.proto_tree.specs.declared.tree.FieldType.TheVariants as field_type

-- ---- what is seen is led to

reached_leads : (imports : List Import) {f g : ℕ} → Reaches imports f g → Leads imports f g
reached_leads imports here = stop
reached_leads imports (along i c e p r) = onward i c e (reached_leads imports r)

seen_leads : (w : Workspace) (f g : ℕ) → sees w f g ≡ true → Leads w.imports f g
seen_leads w f g h = elim (or_cases (f == g) (list_any (λ (i : Import). (i.from == f) && reaches w.imports w.files i.to g) w.imports) h) [
  | inl same ↦ subst (Leads w.imports f) (eqb-true f g same) stop
  | inr q ↦ (
      let x = any_to (λ (i : Import). (i.from == f) && reaches w.imports w.files i.to g) w.imports q in
      let p = and_parts (x.0.from == f) (reaches w.imports w.files x.0.to g) x.2 in
      onward x.0 x.1 (eqb-true x.0.from f p.0) (reached_leads w.imports (reaches_only w.imports w.files x.0.to g p.1)))
]

-- from file to file
pub leads_on : (imports : List Import) {f g h : ℕ} → Leads imports f g → Leads imports g h → Leads imports f h
leads_on imports stop l = l
leads_on imports (onward i c e k) l = onward i c e (leads_on imports k l)

-- each name that is declared is plain
pub plain : (files : List FileOf) (reads : List ReadOf) → AreRead files reads → (d : Declared At) → Contains (link_skeleton files reads).declared d → ArePlain (name_of (text_of files reads) entry_name d.path)
plain files reads r d c = names_are_plain files reads r (symbol_of (text_of files reads) entry_name d) (contains_map (symbol_of (text_of files reads) entry_name) (link_skeleton files reads).declared d c)

module _ (files : List FileOf) (reads : List ReadOf) (r : AreRead files reads) (ok : HasNoFault (LinkFaults files)) where
  pub linked : IsLinked (names_of_files files reads)
  linked = files_are_linked files reads r ok

  module _ (file : ℕ) (l : file < length files) where
    -- what a use means
    use_reached : (u : Used ℕ) → Contains (uses_of reads file) u → (m : Name) × (meaning_of files reads file u ≡ Some m) × ArePlain m × (m ≢ []) × IsReached files reads file m
    use_reached u cu =
        let zero_is : 0 + file ≡ file = omega arith in
        let used : Contains (link_skeleton files reads).used (used_in file u) = subst (λ n. Contains (link_skeleton files reads).used (used_in n u)) zero_is (use_in 0 file reads u (omega (arith, l, r.same)) cu) in
        let mine = contains_map (reference_of (text_of files reads) entry_name) (link_skeleton files reads).used (used_in file u) used in
        let m = has_meaning (meaning_of files reads file u) (linked.resolved (used_named (text_of files reads) file u) mine) in
        let s = meant (names_of_files files reads) (used_named (text_of files reads) file u) m.0 m.1 in
        let d = from_map (symbol_of (text_of files reads) entry_name) (link_skeleton files reads).declared s.0 s.1 in
        let called : name_of (text_of files reads) entry_name d.0.path ≡ m.0 = ap (λ (z : Symbol). z.name) d.2 ∙ s.2 in
        let of_file : s.0.file ≡ d.0.file = sym (ap (λ (z : Symbol). z.file) d.2) in (
          m.0,
          m.1,
          subst ArePlain s.2 (names_are_plain files reads r s.0 s.1),
          λ z. named_some (text_of files reads) d.0.path (some_path 0 (map names_in reads) d.0 d.1) (called ∙ z),
          record {
            d = d.0;
            within = d.1;
            name_is = called;
            no_package = λ k. wanted_no_package u.wants s.0.kind s.3 (sym (ap (λ (z : Symbol). z.kind) d.2) ∙ k);
            leads = subst (Leads (link_imports files reads) file) of_file (seen_leads (names_of_files files reads) file s.0.file s.4);
          },
        )

    -- the type of a field
    pub type_reached : (t : FieldType) → TypeIsReached files reads file (type_name_of (scene_of None files reads file) t)
    type_reached (field_type.Scalar t) name h = absurd (none-some name h)
    type_reached (field_type.Reference x) name h = by (find (λ (u : Used ℕ). u.first == first_of x.dot x.words) (uses_of reads file)) refl (ap (λ o. option_map words_of (option_map (λ (m : MeantOf). absolute m.name) o)) (sym meant_is) ∙ h)
      where
        f : Used ℕ → MeantOf
        f u = meant_as files reads u.first (meaning_of files reads file u)

        meant_is : meant_by (scene_of None files reads file) x ≡ option_map f (find (λ (u : Used ℕ). u.first == first_of x.dot x.words) (uses_of reads file))
        meant_is =
            found_in_map (λ (m : MeantOf). m.token == first_of x.dot x.words) f (uses_of reads file)
            ∙ ap (option_map f) (find_agree (λ u. (f u).token == first_of x.dot x.words) (λ (u : Used ℕ). u.first == first_of x.dot x.words) (uses_of reads file) (λ u d. ap (λ n. n == first_of x.dot x.words) (meant_token files reads u.first (meaning_of files reads file u))))

        by : (o : Option (Used ℕ)) → find (λ (u : Used ℕ). u.first == first_of x.dot x.words) (uses_of reads file) ≡ o
            → option_map words_of (option_map (λ (m : MeantOf). absolute m.name) (option_map f (find (λ (u : Used ℕ). u.first == first_of x.dot x.words) (uses_of reads file)))) ≡ Some name → IsReached files reads file name
        by None q z = absurd (none-some name (sym (ap (λ o. option_map words_of (option_map (λ (m : MeantOf). absolute m.name) (option_map f o))) q) ∙ z))
        by (Some u) q z =
            let m = use_reached u (find_there (λ (u : Used ℕ). u.first == first_of x.dot x.words) (uses_of reads file) u q).0 in
            let called : absolute (f u).name ≡ absolute (joined m.0) = ap (λ o. absolute (meant_as files reads u.first o).name) m.1 in
            let words : words_of (absolute (f u).name) ≡ m.0 = ap words_of called ∙ ap words_of (joined_dotted m.0 m.3) ∙ words_of_dotted m.0 m.2 in
            let same : words_of (absolute (f u).name) ≡ name = same_Some (words_of (absolute (f u).name)) name (sym (ap (λ o. option_map words_of (option_map (λ (m : MeantOf). absolute m.name) (option_map f o))) q) ∙ z) in
            subst (IsReached files reads file) (sym words ∙ same) m.4
