-- No default is wrong after a rename (for the crates above).
use Rattle.std.proofs.Common.{◌≡◌, ℕ, ◌<◌, pos, neg_ℤ, Bool, true, false, not, ◌&&◌, if◌then◌else◌, List, [], length, find, flat_map, Option, Some, None, is_some, is_none, codes, refl, sym, ap, ap₂, subst, ◌∙◌, arith, Contains, filter, bytes_eq}
use Rattle.std.proofs.lemmas.Bool.{and_parts, not-false}
use Rattle.proto_tree.specs.declared.tree.Constant.{Constant}
use Rattle.proto_tree.specs.declared.tree.FieldType.{FieldType}
use Rattle.proto_tree.specs.declared.piece.Header.{Header}
use Rattle.proto_tree.specs.Tree.{Tree}
use Rattle.proto_tree.specs.declared.piece.Header.TheVariants as header
use Rattle.proto_tree.specs.declared.tree.Constant.TheVariants as constant
use Rattle.proto_tree.specs.declared.tree.FieldType.TheVariants as field_type
use Rattle.proto_files.proofs.Common.{FileOf, ReadOf, read_at}
use Rattle.proto_names_rules.specs.Grown.{at}
use Rattle.proto_names_imports.specs.Links.{text_of}
use Rattle.proto_ast.proofs.Common.{number_value, is_named, truth_named, BlockOf, FieldOf, OptionOf, blocks_in, fields_in, EnumOf, Scene, enum_meant, signed_value, text, has_label, is_label_word}
use Rattle.proto_desc_numbers.specs.declared.flaw.Flaw.{Flaw}
use Rattle.proto_desc_checks.specs.FieldFlaws.{default_flaws, holds_number, is_default_of, is_value_of, may_default, wrong_default}
use Rattle.proto_desc_checks_laws.proofs.Common.{flaws_of_block, is_of_names, flaws_of_names}
use Rattle.proto_edit_rename_laws.proofs.Common.{scene_of, fields_of_block, meaning_from, HasDefaultRoles, AreReworded, Target, renamed_words, other_texts_stay, find_agree, find_there, trees_at, version_stays}
use Rattle.proto_edit_rename_laws.proofs.DefaultTokens.{of_block}
use Rattle.proto_edit_rename_described.specs.Common.{IsAllowedRename, RenamesLeaveNoFault, AllDefaultsFit}
use Rattle.proto_edit_rename_described.proofs.Allowed.{allowed_roles, clean, empty_each, is_rename, no_fault_beside_defaults, same_length}
use Rattle.proto_edit_rename_described.proofs.DefaultWords.{fields_have_roles}
use Rattle.proto_edit_rename_described.proofs.EnumDefaults.{enum_defaults_fit}
use Rattle.proto_edit_rename_described.proofs.NamesKept.{empty_parts, none_flawed, not_flawed}

no_value : (o : Option EnumOf) → is_value_of o None ≡ true → ⊥
no_value None h = cc
no_value (Some e) h = cc

module _ (files : List FileOf) (reads : List ReadOf) (name to : List ℕ) (t : Target) (after : List FileOf) (seen : List ReadOf)
    (a : IsAllowedRename files reads name to t) (w : AreReworded (renamed_words files reads t to) files reads after seen)
    (file : ℕ) (l : file < length files) (b : BlockOf) (f : FieldOf) (cb : Contains (blocks_in (read_at reads file).tree) b) (cf : Contains (fields_of_block b.header b.within) f) where
  abbrev old : Scene
  old = scene_of None files reads file

  abbrev new : Scene
  new = scene_of None after seen file

  roles : HasDefaultRoles (renamed_words files reads t to) (text_of files reads) (text_of after seen) (meaning_from files reads file) t.enum (text_of files reads t.token) to file f
  roles = (fields_have_roles files reads name to t after seen a w).defaults file b f l cb cf

  stays : (i : ℕ) → renamed_words files reads t to (at file i) ≡ None → text new i ≡ text old i
  stays i h = other_texts_stay (renamed_words files reads t to) files reads after seen a.read w (at file i) l h

  label_stays : (word : List ℕ) (o : Option ℕ) → f.label ≡ o → is_label_word new word o ≡ is_label_word old word o
  label_stays word None q = refl
  label_stays word (Some i) q = ap (λ v. bytes_eq v word) (stays i (roles.label i q))

  value_fits : (o : OptionOf) → Contains f.options o → is_named (text old) (codes "default") o ≡ true → (k : FieldType) → f.kind ≡ k → (c : Constant) → o.value ≡ c → is_default_of old k c ≡ true → is_default_of new k c ≡ true
  value_fits o co n (field_type.Scalar i) qk (constant.Number m) qc h =
      let e = stays m.number (roles.number o m co qc) in
      let signed : signed_value new m ≡ signed_value old m = ap (λ v. if is_some m.minus then neg_ℤ v else v) (ap (λ x. pos (number_value x)) e) in
      ap₂ holds_number (stays i (roles.scalar i qk)) signed ∙ h
  value_fits o co n (field_type.Scalar i) qk (constant.Word x) qc h =
      ap₂ (λ v u. bytes_eq v (codes "bool") && is_some (truth_named u)) (stays i (roles.scalar i qk)) (stays x (roles.word o i x co qk qc)) ∙ h
  value_fits o co n (field_type.Scalar i) qk (constant.Text j) qc h = ap (λ v. bytes_eq v (codes "string")) (stays i (roles.scalar i qk)) ∙ h
  value_fits o co n (field_type.Reference r) qk (constant.Number m) qc h = absurd (no_value (enum_meant old r) h)
  value_fits o co n (field_type.Reference r) qk (constant.Text j) qc h = absurd (no_value (enum_meant old r) h)
  value_fits o co n (field_type.Reference r) qk (constant.Word x) qc h = enum_defaults_fit files reads name to t after seen a w file x r l (roles.enum_word o r x co qk qc n) h

  found_fits : (o : Option OptionOf) → find (is_named (text old) (codes "default")) f.options ≡ o → wrong_default old f o ≡ [] → wrong_default new f o ≡ []
  found_fits None q h = refl
  found_fits (Some o) q h =
      let there = find_there (is_named (text old) (codes "default")) f.options o q in
      let may = not-false (may_default old f o) (none_flawed (not (may_default old f o)) _ o.name h) in
      let p = and_parts (not (has_label old (codes "repeated") f)) (is_none f.map_key && is_default_of old f.kind o.value) may in
      let u = and_parts (is_none f.map_key) (is_default_of old f.kind o.value) p.1 in
      let label : not (has_label new (codes "repeated") f) ≡ true = ap not (label_stays (codes "repeated") f.label refl) ∙ p.0 in
      let fits = value_fits o there.0 there.1 f.kind refl o.value refl u.1 in
      not_flawed (not (may_default new f o)) _ o.name (ap not (ap₂ (λ x y. x && y) label (ap₂ (λ x y. x && y) u.0 fits)))

  field_fits : default_flaws old f ≡ [] → default_flaws new f ≡ []
  field_fits h = by new.is_proto3 (sym (version_stays files reads (renamed_words files reads t to) after seen t.token t.above t.aim t.is_map to (is_rename files reads name to t after seen a w) file l))
    where
      by : (v : Bool) → v ≡ old.is_proto3 → (if v then [] else wrong_default new f (find (is_named (text new) (codes "default")) f.options)) ≡ []
      by true q = refl
      by false q =
          let before : wrong_default old f (find (is_named (text old) (codes "default")) f.options) ≡ [] = ap (λ v. if v then [] else wrong_default old f (find (is_named (text old) (codes "default")) f.options)) q ∙ h in
          let same : find (is_named (text new) (codes "default")) f.options ≡ find (is_named (text old) (codes "default")) f.options =
          find_agree (is_named (text new) (codes "default")) (is_named (text old) (codes "default")) f.options (λ o co. ap (λ v. bytes_eq v (codes "default")) (stays o.name ((allowed_roles files reads name to t a).tokens.option_names file b f o cb (of_block b.header b.within f cf) co))) in
          ap (wrong_default new f) same ∙ found_fits (find (is_named (text old) (codes "default")) f.options) refl before

-- where no name decides a flaw of a block, its defaults fit
clean_default : (s : Scene) (h : Header) (within : Tree) (f : FieldOf) → Contains (fields_of_block h within) f → flaws_of_block s h within ≡ [] → default_flaws s f ≡ []
clean_default s (header.Message h) within f cf e = empty_each (default_flaws s) (fields_in within) (empty_parts (flat_map (default_flaws s) (fields_in within)) _ e).0 f cf
clean_default s (header.Extend x) within f cf e = empty_each (default_flaws s) (fields_in within) e f cf
clean_default s whole within f cf e = absurd (omega (arith, cf.1))

pub all_defaults_fit : AllDefaultsFit
all_defaults_fit files reads name to t after seen a w file b f la cb cf =
    let l : file < length files = omega (arith, la, same_length files reads name to t after seen a w) in
    let c = renamed_words files reads t to in
    let tree = trees_at files reads c after seen t.token t.above t.aim t.is_map to (is_rename files reads name to t after seen a w) file in
    let block : Contains (blocks_in (read_at reads file).tree) b = subst (λ z. Contains (blocks_in z) b) tree cb in
    let old = scene_of None files reads file in
    let none : flat_map (λ (x : BlockOf). flaws_of_block old x.header x.within) (blocks_in (read_at reads file).tree) ≡ [] =
    sym (flaws_of_names old (read_at reads file).tree) ∙ ap (filter (λ (x : Flaw). is_of_names x.kind)) (clean files reads name to t after seen a w file l) in
    let mine : flaws_of_block old b.header b.within ≡ [] = empty_each (λ (x : BlockOf). flaws_of_block old x.header x.within) (blocks_in (read_at reads file).tree) none b block in
    field_fits files reads name to t after seen a w file l b f block cf (clean_default old b.header b.within f cf mine)

pub renames_leave_no_fault : RenamesLeaveNoFault
renames_leave_no_fault files reads name to t after seen a w = no_fault_beside_defaults files reads name to t after seen a w (all_defaults_fit files reads name to t after seen a w)
