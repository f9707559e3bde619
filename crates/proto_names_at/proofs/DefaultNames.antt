-- The value that a default means, by the type of its field.
use Rattle.std.proofs.Common.{◌≡◌, ◌↔◌, ℕ, ◌<◌, ◌==◌, true, List, [], length, get_or, find, Option, Some, None, option_map, option_and_then, refl, sym, ap, subst, ◌∙◌, arith, bytes_eq, true≢false}
use Rattle.proto_base.proofs.Common.{and_from, and_parts, none-some, same_Some, same_from_word, word_from_same}
use Rattle.proto_tree.specs.References.{first_of}
use Rattle.proto_tree.specs.declared.tree.FieldType.{FieldType}
use Rattle.proto_tree.specs.declared.tree.FieldType.TheVariants as field_type
use Rattle.proto_files.proofs.Common.{HasNoFault, FileOf, ReadOf, AreRead, read_at}
use Rattle.proto_names_rules.proofs.Common.{at, ArePlain, joined, meant, name_from_same, same_from_name, same_name}
use Rattle.proto_names_imports.proofs.Common.{LinkFaults, names_of_files, text_of, used_named, names_are_plain}
use Rattle.proto_names.proofs.Common.{IsLinkRead, LinkOf, NameOf, name_text}
use Rattle.proto_names.specs.Linking.{Meant}
use Rattle.proto_ast.specs.Parts.{FieldOf, blocks_in}
use Rattle.proto_resolved.proofs.MeantPlaces.{none_named, one_named}
use Rattle.proto_edit_rename_laws.proofs.Common.{IsNamed, Target, means_value, meaning_of, type_meaning}
use Rattle.proto_edit_rename_laws.proofs.TokenRoles.{tokens_have_roles}
use Rattle.proto_names_at.specs.Defaults.{first_field, row_of_type}
use Rattle.proto_names_at.specs.NamesAt.{DefaultsToName}
use Rattle.proto_names_at.proofs.DefaultFields.{default_field, default_option, field_default, field_found, no_field}

-- ---- what a type means

module _ (files : List FileOf) (reads : List ReadOf) (are : AreRead files reads) (l : LinkOf) (link : IsLinkRead files reads l) (file : ℕ) (within : file < length files) where
  -- the link's row has the name that a type means
  pub record TypeNamed (kind : FieldType) (row : ℕ) : Type 0 where
    pub name : List (List ℕ)
    pub means : type_meaning files reads file kind ≡ Some name
    pub said : name_text l row ≡ Some (joined name)
    pub plain : ArePlain name

  pub type_named : (kind : FieldType) (row : ℕ) → row_of_type l file kind ≡ Some row → TypeNamed kind row
  type_named (field_type.Scalar t) row e = absurd (none-some row e)
  type_named (field_type.Reference r) row e = by (find (λ (m : Meant). m.token == first_of r.dot r.words) (get_or l.meant file [])) refl e
    where
      by : (o : Option Meant) → find (λ (m : Meant). m.token == first_of r.dot r.words) (get_or l.meant file []) ≡ o → option_map (λ (m : Meant). m.row) o ≡ Some row → TypeNamed (field_type.Reference r) row
      by None q h = absurd (none-some row h)
      by (Some m) q h =
          let x = one_named files reads l link file (first_of r.dot r.words) within m q in
          let s = meant (names_of_files files reads) (used_named (text_of files reads) file x.reference) x.name x.means in
          let row_is : m.row ≡ row = same_Some m.row row h in
          record {
            name = x.name;
            means = ap (option_and_then (meaning_of files reads file)) x.is ∙ x.means;
            said = ap (name_text l) (sym row_is) ∙ ap (option_map (λ (n : NameOf). n.text)) x.there ∙ ap (λ (z : List ℕ). Some z) x.text;
            plain = subst ArePlain s.2 (names_are_plain files reads are s.0 s.1);
          }

  pub type_unnamed : (kind : FieldType) → row_of_type l file kind ≡ None → type_meaning files reads file kind ≡ None
  type_unnamed (field_type.Scalar t) e = refl
  type_unnamed (field_type.Reference r) e = by (find (λ (m : Meant). m.token == first_of r.dot r.words) (get_or l.meant file [])) refl e
    where
      by : (o : Option Meant) → find (λ (m : Meant). m.token == first_of r.dot r.words) (get_or l.meant file []) ≡ o → option_map (λ (m : Meant). m.row) o ≡ None → type_meaning files reads file (field_type.Reference r) ≡ None
      by None q h = ap (option_and_then (meaning_of files reads file)) (none_named files reads l link file (first_of r.dot r.words) within q)
      by (Some m) q h = absurd (none-some m.row (sym h))

-- ---- a word and a type that mean a value

means_none : (enum : Option (List (List ℕ))) (old word : List ℕ) → means_value enum old None word ≡ true → ⊥
means_none None old word h = true≢false (sym h)
means_none (Some e) old word h = true≢false (sym h)

means_parts : (enum : Option (List (List ℕ))) (old : List ℕ) (type : List (List ℕ)) (word : List ℕ) → means_value enum old (Some type) word ≡ true → (enum ≡ Some type) × (old ≡ word)
means_parts None old type word h = absurd (true≢false (sym h))
means_parts (Some e) old type word h =
    let p = and_parts (same_name type e) (bytes_eq word old) h in
    (ap (λ (z : List (List ℕ)). Some z) (sym (name_from_same type e p.0)), sym (word_from_same word old p.1))

means_so : (enum : Option (List (List ℕ))) (old : List ℕ) (type : List (List ℕ)) (word : List ℕ) → enum ≡ Some type → old ≡ word → means_value enum old (Some type) word ≡ true
means_so enum old type word e o =
    ap (λ (z : Option (List (List ℕ))). means_value z old (Some type) word) e
    ∙ and_from (same_name type type) (bytes_eq word old) (same_from_name type type refl) (same_from_word word old (sym o))

-- ---- the default at a token

module _ (files : List FileOf) (reads : List ReadOf) (are : AreRead files reads) (clean : HasNoFault (LinkFaults files)) (file : ℕ) (within : file < length files) (token : ℕ) where
  -- no field has it
  pub no_default : first_field (λ t. text_of files reads (at file t)) token (blocks_in (read_at reads file).tree) ≡ None → (name : List ℕ) → DefaultsToName files reads (at file token) name → ⊥
  no_default none name d =
      let x = default_field files reads d.0.enum (text_of files reads d.0.token) file token d.2 in
      no_field (λ t. text_of files reads (at file t)) token (blocks_in (read_at reads file).tree) none x.b x.f x.block x.field x.has

  module _ (f : FieldOf) (is : first_field (λ t. text_of files reads (at file t)) token (blocks_in (read_at reads file).tree) ≡ Some f) where
    -- what is asked of the one field, where the default means a value
    means_its : (name : List ℕ) (d : DefaultsToName files reads (at file token) name) → means_value d.0.enum (text_of files reads d.0.token) (type_meaning files reads file f.kind) (text_of files reads (at file token)) ≡ true
    means_its name d =
        let x = field_found (λ t. text_of files reads (at file t)) token (blocks_in (read_at reads file).tree) f is in
        let o = default_option (λ t. text_of files reads (at file t)) token f x.has in
        ((tokens_have_roles files reads name [] d.0 are clean d.1).defaults file x.b f within x.block x.field).own o.o token o.option o.value d.2

    -- its type means nothing
    pub no_type : type_meaning files reads file f.kind ≡ None → (name : List ℕ) → DefaultsToName files reads (at file token) name → ⊥
    no_type none name d =
        means_none d.0.enum (text_of files reads d.0.token) (text_of files reads (at file token))
        (subst (λ (o : Option (List (List ℕ))). means_value d.0.enum (text_of files reads d.0.token) o (text_of files reads (at file token)) ≡ true) none (means_its name d))

    -- its type means an enum
    pub default_named : (enum : List (List ℕ)) → type_meaning files reads file f.kind ≡ Some enum → (name : List ℕ) → ((t : Target) × IsNamed files reads name t × (t.enum ≡ Some enum) × (text_of files reads t.token ≡ text_of files reads (at file token))) ↔ DefaultsToName files reads (at file token) name
    default_named enum type name = (
      λ v.
          let x = field_found (λ t. text_of files reads (at file t)) token (blocks_in (read_at reads file).tree) f is in
          let same = are.same in
          let means : means_value v.0.enum (text_of files reads v.0.token) (type_meaning files reads file f.kind) (text_of files reads (at file token)) ≡ true =
          subst (λ (o : Option (List (List ℕ))). means_value v.0.enum (text_of files reads v.0.token) o (text_of files reads (at file token)) ≡ true) (sym type) (means_so v.0.enum (text_of files reads v.0.token) enum (text_of files reads (at file token)) v.2 v.3) in
          (v.0, v.1, field_default files reads v.0.enum (text_of files reads v.0.token) file token (record { inside = omega (arith, same, within); b = x.b; block = x.block; f = f; field = x.field; has = x.has; means = means })),
      λ d.
          let p = means_parts d.0.enum (text_of files reads d.0.token) enum (text_of files reads (at file token))
          (subst (λ (o : Option (List (List ℕ))). means_value d.0.enum (text_of files reads d.0.token) o (text_of files reads (at file token)) ≡ true) type (means_its name d)) in
          (d.0, d.1, p.0, p.1),
    )

-- ---- for the answers

kind_none : (o : Option FieldOf) → None ≡ option_map (λ (f : FieldOf). f.kind) o → o ≡ None
kind_none None e = refl
kind_none (Some f) e = absurd (none-some f.kind e)

kind_some : (o : Option FieldOf) (kind : FieldType) → Some kind ≡ option_map (λ (f : FieldOf). f.kind) o → (f : FieldOf) × (o ≡ Some f) × (f.kind ≡ kind)
kind_some None kind e = absurd (none-some kind (sym e))
kind_some (Some f) kind e = (f, refl, sym (same_Some kind f.kind e))

module _ (files : List FileOf) (reads : List ReadOf) (are : AreRead files reads) (clean : HasNoFault (LinkFaults files)) (l : LinkOf) (link : IsLinkRead files reads l) (file : ℕ) (within : file < length files) (token : ℕ) where
  -- no field has the default
  pub without_field : None ≡ option_map (λ (f : FieldOf). f.kind) (first_field (λ t. text_of files reads (at file t)) token (blocks_in (read_at reads file).tree)) → (name : List ℕ) → ◌≡◌ {A = Option (List ℕ)} None (Some name) ↔ DefaultsToName files reads (at file token) name
  without_field none name = (
    λ e. absurd (none-some name e),
    λ d. absurd (no_default files reads are clean file within token (kind_none (first_field (λ t. text_of files reads (at file t)) token (blocks_in (read_at reads file).tree)) none) name d),
  )

  module _ (kind : FieldType) (some : Some kind ≡ option_map (λ (f : FieldOf). f.kind) (first_field (λ t. text_of files reads (at file t)) token (blocks_in (read_at reads file).tree))) where
    -- its type means nothing
    pub without_type : None ≡ row_of_type l file kind → (name : List ℕ) → ◌≡◌ {A = Option (List ℕ)} None (Some name) ↔ DefaultsToName files reads (at file token) name
    without_type none name =
        let f = kind_some (first_field (λ t. text_of files reads (at file t)) token (blocks_in (read_at reads file).tree)) kind some in
        let type : type_meaning files reads file f.0.kind ≡ None = ap (type_meaning files reads file) f.2 ∙ type_unnamed files reads are l link file within kind (sym none) in (
          λ e. absurd (none-some name e),
          λ d. absurd (no_type files reads are clean file within token f.0 f.1 type name d),
        )

    -- the default means a value of what its type means, if it is one
    pub with_type : (row : ℕ) → Some row ≡ row_of_type l file kind → (word : List ℕ) → word ≡ text_of files reads (at file token) → (found : Option (List ℕ))
        → ((enum : List (List ℕ)) → ArePlain enum → name_text l row ≡ Some (joined enum) → (name : List ℕ) → (found ≡ Some name) ↔ ((t : Target) × IsNamed files reads name t × (t.enum ≡ Some enum) × (text_of files reads t.token ≡ word)))
        → (name : List ℕ) → (found ≡ Some name) ↔ DefaultsToName files reads (at file token) name
    with_type row is word word_is found values name =
        let f = kind_some (first_field (λ t. text_of files reads (at file t)) token (blocks_in (read_at reads file).tree)) kind some in
        let x = type_named files reads are l link file within kind row (sym is) in
        let type : type_meaning files reads file f.0.kind ≡ Some x.name = ap (type_meaning files reads file) f.2 ∙ x.means in
        let value = values x.name x.plain x.said name in
        let default = default_named files reads are clean file within token f.0 f.1 x.name type name in (
          λ e. (let v = value.0 e in default.0 (v.0, v.1, v.2, v.3 ∙ word_is)),
          λ d. (let v = default.1 d in value.1 (v.0, v.1, v.2, v.3 ∙ sym word_is)),
        )
