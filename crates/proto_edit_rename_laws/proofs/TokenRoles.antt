-- The tokens of linked files have the roles that a rename wants of them (for the crates above).
use Rattle.std.proofs.Common.{◌≡◌, ℕ, zero, suc, ◌+◌, ◌<◌, true, false, ◌⊎◌, List, [], ◌∷◌, ◌++◌, length, get_or, find, map, flat_map, Option, Some, None, is_some, refl, sym, ap, ap₂, subst, ◌∙◌, inl, inr, arith, Contains, eq-eqb}
use Rattle.proto_base.proofs.Common.{Contains-append_cases, Contains-append_right, Contains-get_or, same_Some, contains_cases, contains_head, from_map}
use Rattle.proto_case.specs.Camel.{entry_name}
use Rattle.proto_text.proofs.OneEdit.{length_map}
use Rattle.proto_tree.specs.declared.class.Class.{Class}
use Rattle.proto_tree.specs.declared.class.Class.TheVariants as class
use Rattle.proto_tree.specs.declared.class.Expected.{Expected}
use Rattle.proto_tree.specs.declared.class.Expected.TheVariants as want
use Rattle.proto_tree.specs.declared.piece.Header.{Header}
use Rattle.proto_tree.specs.declared.piece.Header.TheVariants as header
use Rattle.proto_tree.specs.declared.tree.Constant.TheVariants as constant
use Rattle.proto_tree.specs.declared.tree.FieldType.{FieldType}
use Rattle.proto_tree.specs.declared.tree.Value.{Value as ValueParts}
use Rattle.proto_tree.proofs.Common.{Mark, mark, HasRole, Role, is_number, is_value, names, names_option, refers, role_of, Tree, End, Spells, flat, classes_in, one_mark_in, roles_are_one_in}
use Rattle.proto_files.proofs.Common.{ReadOf, AreRead, read_at, FileOf, file_at}
use Rattle.proto_names_rules.specs.declared.kind.Kind.{Kind}
use Rattle.proto_names_rules.specs.declared.kind.Kind.TheVariants as kind
use Rattle.proto_names_rules.proofs.Common.{place_from, place_of, At, at, declared_of, used_in, IsLinked, Source, Token, EntryOf, Given, Declared, Used, name_of, shifted_declared, shifted_source, spell, Placed, file_placed, place, map_append, snoc_parts}
use Rattle.proto_names_outline.specs.FromTree.{file_names, items_in}
use Rattle.proto_names_outline.proofs.Roles.{declared_tokens_are_names, tokens_are_used_once, used_tokens_refer}
use Rattle.proto_names_imports.specs.Links.{link_skeleton, names_in, names_of_files, text_of}
use Rattle.proto_ast.specs.Parts.{BlockOf, FieldOf, OptionOf, blocks_in, fields_in, values_in}
use Rattle.proto_desc_checks_laws.proofs.Common.{IsDeclared, asked_tokens, blocks_are_declared, fields_are_declared, values_are_declared, options_are_of_one_field}
use Rattle.proto_desc_checks_laws.specs.Roles.{ValueHasRole}
use Rattle.proto_desc_checks_laws.proofs.FieldOrder.{field_names_rise}
use Rattle.proto_desc_checks_laws.proofs.Roles.{defaults_are_not_asked, field_options_have_roles, names_are_not_asked, value_numbers_are_numbers}
use Rattle.proto_edit_rename_laws.proofs.Common.{is_enum_at, lexemes_of, scene_of, means_value, renamed_defaults, type_meaning, Names, Uses, front_of, renamed_places, standing, RolesAreApart, HasDefaultWords, HasEnumRoles, HasRoles, HasWants, HasEnum, HasValue, IsEnumOf, IsNamed, Target, may_rename, name_map, renamed_words, IsDeclaredBy, declared_by, declared_there, path_of_declared, name_of_file, used_by_file, word_of_file, files_are_linked, files_are_woven, enum_name, one_declaration, one_enum, place_last, from_flat_map, stands_at, find_there, index_map}
use Rattle.proto_edit_rename_laws.proofs.DefaultTokens.{IsDefaultOf, default_of_file, of_block}
use Rattle.proto_edit_rename_laws.proofs.EntryFields.{HasField, has_field}
use Rattle.proto_edit_rename_laws.proofs.OldTexts.{changed_to}
use Rattle.proto_edit_rename_laws.proofs.OptionWords.{option_words}
use Rattle.proto_edit_rename_laws.specs.TokenRoles.{AllTokensHaveRoles}
use Rattle.proto_edit_rename_laws.proofs.ValueMarks.{value_of_mark}

-- ---- lists

-- the parts of a mapped list
parts_of_map : {A B : Type 0} (f : A → B) (es : List A) (xs ys : List B) (b : B) → map f es ≡ xs ++ b ∷ ys → (before : List A) × (a : A) × (behind : List A) × (es ≡ before ++ a ∷ behind) × (map f before ≡ xs) × (f a ≡ b)
parts_of_map f [] [] ys b e = absurd cc
parts_of_map f [] (x ∷ xs) ys b e = absurd cc
parts_of_map {A} {B} f (a ∷ es) [] ys b e = ([], a, es, refl, refl, head e)
  where
    head : f a ∷ map f es ≡ b ∷ ys → f a ≡ b
    head q = cc
parts_of_map {A} {B} f (a ∷ es) (x ∷ xs) ys b e =
    let r = parts_of_map f es xs ys b (tail e) in
    (a ∷ r.0, r.1, r.2, ap (λ z. a ∷ z) r.3, ap₂ (λ (z : B) (zs : List B). z ∷ zs) (head e) r.4, r.5)
  where
    tail : f a ∷ map f es ≡ x ∷ (xs ++ b ∷ ys) → map f es ≡ xs ++ b ∷ ys
    tail q = cc

    head : f a ∷ map f es ≡ x ∷ (xs ++ b ∷ ys) → f a ≡ x
    head q = cc

-- a file past the last has nothing
pub there : {A : Type 0} (part : Tree → List A) → part End ≡ [] → (rs : List ReadOf) (k : ℕ) (x : A) → Contains (part (read_at rs k).tree) x → k < length rs
there part none [] k x c = let d = subst (λ xs. Contains xs x) none c in absurd (omega (arith, d.1))
there part none (r ∷ rs) zero x c = omega arith
there part none (r ∷ rs) (suc k) x c = let m = there part none rs k x c in omega (arith, m)

-- ---- places that end with no token

pub place_of_entry : (x : At) (above : List (Source At)) (i : At) → place_from x (above ++ EntryOf i ∷ []) ≡ i
place_of_entry x [] i = refl
place_of_entry x (Token t ∷ above) i = place_of_entry t above i
place_of_entry x (EntryOf t ∷ above) i = place_of_entry t above i
place_of_entry x (Given w ∷ above) i = place_of_entry x above i

place_of_given : (x : At) (above : List (Source At)) (w : List ℕ) → place_from x (above ++ Given w ∷ []) ≡ place_from x above
place_of_given x [] w = refl
place_of_given x (Token t ∷ above) w = place_of_given t above w
place_of_given x (EntryOf t ∷ above) w = place_of_given t above w
place_of_given x (Given v ∷ above) w = place_of_given x above w

-- ---- what a place wants, by the role of its token

-- a place that wants one class is none of a name or a value
no_class : (c : Class) → (role_of (want.One c) ≡ names → ⊥) × (role_of (want.One c) ≡ is_value → ⊥)
no_class class.Name = ((λ e. cc), λ e. cc)
no_class class.Scalar = ((λ e. cc), λ e. cc)
no_class class.Number = ((λ e. cc), λ e. cc)
no_class _ = ((λ e. cc), λ e. cc)

named_wants : (w : Expected) → role_of w ≡ names → (w ≡ want.Name) ⊎ (w ≡ want.ValueName)
named_wants want.Name e = inl refl
named_wants want.ValueName e = inr refl
named_wants (want.One c) e = absurd ((no_class c).0 e)
named_wants _ e = absurd cc

used_wants : (w : Expected) → role_of w ≡ refers → (w ≡ want.Word) ⊎ (w ≡ want.One class.Name)
used_wants want.Word e = inl refl
used_wants (want.One class.Name) e = inr refl
used_wants _ e = absurd cc

value_wants : (w : Expected) → role_of w ≡ is_value → w ≡ want.Constant
value_wants want.Constant e = refl
value_wants (want.One c) e = absurd ((no_class c).1 e)
value_wants _ e = absurd cc

no_name_refers : ◌≡◌ {A = Role} names refers → ⊥
no_name_refers e = cc

no_name_value : ◌≡◌ {A = Role} names is_value → ⊥
no_name_value e = cc

no_use_value : ◌≡◌ {A = Role} refers is_value → ⊥
no_use_value e = cc

-- a role of no name, word of a reference or value
pub record IsOther (role : Role) : Type 0 where
  pub no_name : role ≡ names → ⊥
  pub no_use : role ≡ refers → ⊥
  pub no_value : role ≡ is_value → ⊥

pub number_is_other : IsOther is_number
number_is_other = record { no_name = λ e. cc; no_use = λ e. cc; no_value = λ e. cc }

pub option_is_other : IsOther names_option
option_is_other = record { no_name = λ e. cc; no_use = λ e. cc; no_value = λ e. cc }

-- ---- tokens that a rename does not change

pub other_token_stays : (files : List FileOf) (reads : List ReadOf) (t : Target) (to : List ℕ) → Names (link_skeleton files reads) t.token → (i : At)
    → (Names (link_skeleton files reads) i → ⊥) → (Uses (link_skeleton files reads) i → ⊥) → (Contains (renamed_defaults files reads t.enum (name_map files reads t to).old) i → ⊥) → renamed_words files reads t to i ≡ None
other_token_stays files reads t to named i no_name no_use no_default = by (renamed_words files reads t to i) refl
  where
    placed : Contains (renamed_places (text_of files reads) (link_skeleton files reads) (name_map files reads t to) t.token (renamed_defaults files reads t.enum (name_map files reads t to).old)) i → ⊥
    placed c =
        let used : List At = flat_map (standing (text_of files reads) (link_skeleton files reads) (name_map files reads t to)) (link_skeleton files reads).used in
        let defaults : List At = renamed_defaults files reads t.enum (name_map files reads t to).old in
        elim (contains_cases t.token i (used ++ defaults) c) [
          | inl e ↦ no_name (subst (Names (link_skeleton files reads)) e named)
          | inr d ↦ elim (Contains-append_cases used defaults i d) [
            | inl u ↦ (
                let x = from_flat_map (standing (text_of files reads) (link_skeleton files reads) (name_map files reads t to)) (link_skeleton files reads).used i u in
                let s = stands_at (name_map files reads t to) (text_of files reads) (front_of (text_of files reads) (link_skeleton files reads) x.0) x.0.tokens i x.2 in
                no_use (x.0, x.1, subst (λ z. Contains z i) (sym s.parts) (Contains-append_right s.before (i ∷ s.behind) i (contains_head i s.behind))))
            | inr u ↦ no_default u
          ]
        ]

    by : (o : Option (List ℕ)) → renamed_words files reads t to i ≡ o → renamed_words files reads t to i ≡ None
    by None q = q
    by (Some w) q = absurd (placed (changed_to (renamed_places (text_of files reads) (link_skeleton files reads) (name_map files reads t to) t.token (renamed_defaults files reads t.enum (name_map files reads t to).old)) to i w q).1)

module _ (files : List FileOf) (reads : List ReadOf) (r : AreRead files reads) where
  -- ---- the roles of tokens

  abbrev RoleAt : Role → At → Type 0
  RoleAt role i = HasRole (read_at reads i.file).tree role i.token

  pub spelled : (k : ℕ) → k < length reads → Spells (read_at reads k).tree (classes_in (file_at files k).profile 0 (lexemes_of files reads k))
  spelled k l = (r.trees k (omega (arith, l, r.same))).spells

  pub block_inside : (k : ℕ) (b : BlockOf) → Contains (blocks_in (read_at reads k).tree) b → k < length reads
  block_inside k b c = there blocks_in refl reads k b c

  mark_inside : (k : ℕ) (m : Mark) → Contains (flat (read_at reads k).tree) m → k < length reads
  mark_inside k m c = there flat refl reads k m c

  one_role : (i : At) (a b : Role) → RoleAt a i → RoleAt b i → a ≡ b
  one_role i a b x y = roles_are_one_in (file_at files i.file).profile (read_at reads i.file).tree (lexemes_of files reads i.file) a b i.token (spelled i.file (mark_inside i.file x.0 x.1)) x y

  pub name_role : (i : At) → Names (link_skeleton files reads) i → RoleAt names i
  name_role i n =
      let o = name_of_file files reads i n in
      declared_tokens_are_names (file_at files i.file).profile (read_at reads i.file).tree (lexemes_of files reads i.file) (spelled i.file o.inside) o.p o.within i.token o.last

  pub use_role : (i : At) → Uses (link_skeleton files reads) i → RoleAt refers i
  use_role i u =
      let o = word_of_file files reads i u in
      used_tokens_refer (file_at files i.file).profile (read_at reads i.file).tree (lexemes_of files reads i.file) (spelled i.file o.inside) o.v o.within i.token o.word

  module _ (enum : Option (List (List ℕ))) (old : List ℕ) where
    pub default_here : (i : At) → Contains (renamed_defaults files reads enum old) i → IsDefaultOf files reads enum old (read_at reads i.file).tree i
    default_here i c =
        let d = default_of_file files reads enum old 0 reads i c in
        let e : d.0 ≡ 0 + d.0 = omega arith in
        subst (λ k. IsDefaultOf files reads enum old (read_at reads k).tree i) (e ∙ d.2) d.3

    value_has : (k : ℕ) → k < length reads → (b : BlockOf) (f : FieldOf) (o : OptionOf) (w : ℕ) → Contains (blocks_in (read_at reads k).tree) b → Contains (fields_in b.within) f → Contains f.options o → o.value ≡ constant.Word w → HasRole (read_at reads k).tree is_value w × (o.name + 2 ≡ w)
    value_has k l b f o w cb cf co q = subst (λ v. ValueHasRole (read_at reads k).tree o.name v) q (field_options_have_roles (file_at files k).profile (read_at reads k).tree (lexemes_of files reads k) (spelled k l) b f o cb cf co).1

    pub default_role : (i : At) → Contains (renamed_defaults files reads enum old) i → RoleAt is_value i
    default_role i c = let d = default_here i c in (value_has i.file (block_inside i.file d.b d.block) d.b d.f d.o i.token d.block d.field d.option d.value).0

    -- ---- names, words of references and defaults are apart

    once : (u v : Used At) → Contains (link_skeleton files reads).used u → Contains (link_skeleton files reads).used v → (xs ys zs ws : List At) (i : At) → u.tokens ≡ xs ++ i ∷ ys → v.tokens ≡ zs ++ i ∷ ws → (u ≡ v) × (xs ≡ zs)
    once u v cu cv xs ys zs ws i eu ev =
        let a = used_by_file 0 reads u cu in
        let b = used_by_file 0 reads v cv in
        let x = parts_of_map (at (0 + a.k)) a.v.tokens xs ys i (ap (λ (z : Used At). z.tokens) a.is ∙ eu) in
        let y = parts_of_map (at (0 + b.k)) b.v.tokens zs ws i (ap (λ (z : Used At). z.tokens) b.is ∙ ev) in
        let same : at (0 + a.k) x.1 ≡ at (0 + b.k) y.1 = x.5 ∙ sym y.5 in
        let shifted : 0 + a.k ≡ 0 + b.k = ap (λ (z : At). z.file) same in
        let file : a.k ≡ b.k = omega (arith, shifted) in
        let token : x.1 ≡ y.1 = ap (λ (z : At). z.token) same in
        let cb : Contains (file_names (read_at reads a.k).tree).used b.v = subst (λ m. Contains (file_names (read_at reads m).tree).used b.v) (sym file) b.within in
        let one = tokens_are_used_once (file_at files a.k).profile (read_at reads a.k).tree (lexemes_of files reads a.k) (spelled a.k a.inside) a.v b.v a.within cb x.0 x.2 y.0 y.2 x.1 x.3 (y.3 ∙ ap (λ n. y.0 ++ n ∷ y.2) (sym token)) in
        (sym a.is ∙ ap₂ (λ (m : ℕ) (z : Used ℕ). used_in m z) shifted one.0 ∙ b.is, sym x.4 ∙ ap₂ (λ (m : ℕ) (z : List ℕ). map (at m) z) shifted one.1 ∙ y.4)

    tokens_apart : RolesAreApart (link_skeleton files reads) (renamed_defaults files reads enum old)
    tokens_apart = record {
      names_uses = λ i n u. no_name_refers (one_role i names refers (name_role i n) (use_role i u));
      names_defaults = λ i n d. no_name_value (one_role i names is_value (name_role i n) (default_role i d));
      uses_defaults = λ i u d. no_use_value (one_role i refers is_value (use_role i u) (default_role i d));
      once = once;
    }

  -- ---- what is declared in a file

  pub placed_declared : (k : ℕ) → k < length reads → (p : Placed) → Contains (file_placed (items_in (read_at reads k).tree)) p → Contains (link_skeleton files reads).declared (shifted_declared (at k) (declared_of k p))
  placed_declared k l p c =
      let zero_is : 0 + k ≡ k = omega arith in
      let all = length_map names_in reads in
      subst (λ m. Contains (link_skeleton files reads).declared (shifted_declared (at m) (declared_of m p))) zero_is
      (declared_there 0 (map names_in reads) k (names_in (read_at reads k)) p (omega (arith, l, all)) (index_map names_in reads (record { tokens = []; tree = End }) (names_in (read_at reads k)) k l) c)

  token_path : (k : ℕ) (path : List (Source ℕ)) (i : ℕ) (of : Kind) → (shifted_declared (at k) (declared_of k (place path (Token i) of))).path ≡ map (shifted_source (at k)) path ++ Token (at k i) ∷ []
  token_path k path i of = map_append (shifted_source (at k)) path (Token i ∷ [])

  placed_names : (k : ℕ) → k < length reads → (path : List (Source ℕ)) (i : ℕ) (of : Kind) → Contains (file_placed (items_in (read_at reads k).tree)) (place path (Token i) of) → Names (link_skeleton files reads) (at k i)
  placed_names k l path i of c =
      (shifted_declared (at k) (declared_of k (place path (Token i) of)), placed_declared k l (place path (Token i) of) c, (map (shifted_source (at k)) path, inl (token_path k path i of)))

  field_is_named : (k : ℕ) (b : BlockOf) (f : FieldOf) → Contains (blocks_in (read_at reads k).tree) b → Contains (fields_in b.within) f → Names (link_skeleton files reads) (at k f.name)
  field_is_named k b f cb cf =
      let l = block_inside k b cb in
      let d = fields_are_declared (file_at files k).profile (read_at reads k).tree (lexemes_of files reads k) (spelled k l) b f cb cf in
      elim d.1 [
        | inl x ↦ placed_names k l d.0 f.name kind.Field x.0
        | inr x ↦ placed_names k l d.0 f.name kind.Extension x.2
      ]

  value_is_named : (k : ℕ) (b : BlockOf) (i : ℕ) → Contains (blocks_in (read_at reads k).tree) b → Contains (map (λ (x : ValueParts). x.name) (values_in b.within)) i → Names (link_skeleton files reads) (at k i)
  value_is_named k b i cb ci =
      let l = block_inside k b cb in
      let v = from_map (λ (x : ValueParts). x.name) (values_in b.within) i ci in
      let d = values_are_declared (file_at files k).profile (read_at reads k).tree (lexemes_of files reads k) (spelled k l) b v.0 cb v.1 in
      subst (λ z. Names (link_skeleton files reads) (at k z)) v.2 (placed_names k l d.1 v.0.name kind.Value d.4)

  -- ---- linked files

  module _ (ok : IsLinked (names_of_files files reads)) where
    -- declarations of one token are one, or packages
    one_at : (s t : Declared At) → Contains (link_skeleton files reads).declared s → Contains (link_skeleton files reads).declared t → (a b : List (Source At)) (i : At) → s.path ≡ a ++ Token i ∷ [] → t.path ≡ b ++ Token i ∷ [] → (s ≡ t) ⊎ ((s.kind ≡ kind.Package) × (t.kind ≡ kind.Package))
    one_at s t cs ct a b i ps pt =
        let same = (files_are_woven files reads r).tokens s t cs ct a b i ps pt in
        one_declaration files reads r ok s t cs ct (ap (name_of (text_of files reads) entry_name) (ps ∙ ap (λ z. z ++ Token i ∷ []) same ∙ sym pt))

    -- the declaration with this token is of the kind that was placed
    kind_at : (k : ℕ) → k < length reads → (path : List (Source ℕ)) (i : ℕ) (of : Kind) → (of ≡ kind.Package → ⊥) → Contains (file_placed (items_in (read_at reads k).tree)) (place path (Token i) of)
        → (s : Declared At) → Contains (link_skeleton files reads).declared s → (a : List (Source At)) → s.path ≡ a ++ Token (at k i) ∷ [] → s ≡ shifted_declared (at k) (declared_of k (place path (Token i) of))
    kind_at k l path i of written c s cs a ps =
        let q : Declared At = shifted_declared (at k) (declared_of k (place path (Token i) of)) in
        elim (one_at s q cs (placed_declared k l (place path (Token i) of) c) a (map (shifted_source (at k)) path) (at k i) ps (token_path k path i of)) [
          | inl e ↦ e
          | inr p ↦ absurd (written p.1)
        ]

    value_kind : (k : ℕ) (b : BlockOf) (v : ValueParts) → Contains (blocks_in (read_at reads k).tree) b → Contains (values_in b.within) v → (s : Declared At) → Contains (link_skeleton files reads).declared s → (a : List (Source At)) → s.path ≡ a ++ Token (at k v.name) ∷ [] → s.kind ≡ kind.Value
    value_kind k b v cb cv s cs a ps =
        let l = block_inside k b cb in
        let d = values_are_declared (file_at files k).profile (read_at reads k).tree (lexemes_of files reads k) (spelled k l) b v cb cv in
        ap (λ (z : Declared At). z.kind) (kind_at k l d.1 v.name kind.Value (λ e. cc) d.4 s cs a ps)

    -- ---- the declaration of an enum's block

    -- a field whose name is an enum's is none
    no_field : (k : ℕ) → k < length reads → (path above : List (Source ℕ)) (i j : ℕ) → i ≡ j → Contains (file_placed (items_in (read_at reads k).tree)) (place path (Token i) kind.Enum) → Contains (file_placed (items_in (read_at reads k).tree)) (place above (Token j) kind.Field) → ⊥
    no_field k l path above i j e ce cf =
        let s : Declared At = shifted_declared (at k) (declared_of k (place above (Token j) kind.Field)) in
        let same = kind_at k l path i kind.Enum (λ q. cc) ce s (placed_declared k l (place above (Token j) kind.Field) cf) (map (shifted_source (at k)) above) (token_path k above j kind.Field ∙ ap (λ z. map (shifted_source (at k)) above ++ Token (at k z) ∷ []) (sym e)) in
        different (ap (λ (z : Declared At). z.kind) same)
      where
        different : kind.Field ≡ kind.Enum → ⊥
        different z = cc

    -- what stands at the name of an enum's block is the enum
    enum_at_place : (d : Declared At) → Contains (link_skeleton files reads).declared d → (k : ℕ) → k < length reads → (path : List (Source ℕ)) (i : ℕ) → Contains (file_placed (items_in (read_at reads k).tree)) (place path (Token i) kind.Enum)
        → place_of d ≡ at k i → d ≡ shifted_declared (at k) (declared_of k (place path (Token i) kind.Enum))
    enum_at_place d cd k l path i c e = by (declared_by 0 reads d cd)
      where
        by : IsDeclaredBy 0 reads d → d ≡ shifted_declared (at k) (declared_of k (place path (Token i) kind.Enum))
        by o = go o.p.last refl (has_field (items_in (read_at reads o.k).tree) o.p o.within)
          where
            field_there : (above : List (Source ℕ)) (t : ℕ) → at (0 + o.k) t ≡ at k i → Contains (file_placed (items_in (read_at reads o.k).tree)) (place above (Token t) kind.Field) → ⊥
            field_there above t here cf =
                let file : 0 + o.k ≡ k = ap (λ (z : At). z.file) here in
                let same : o.k ≡ k = omega (arith, file) in
                let token : t ≡ i = ap (λ (z : At). z.token) here in
                no_field k l path above i t (sym token) c (subst (λ m. Contains (file_placed (items_in (read_at reads m).tree)) (place above (Token t) kind.Field)) same cf)

            go : (s : Source ℕ) → o.p.last ≡ s → HasField (file_placed (items_in (read_at reads o.k).tree)) o.p.above s → d ≡ shifted_declared (at k) (declared_of k (place path (Token i) kind.Enum))
            go (Token t) q h =
                let above : List (Source At) = map (shifted_source (at (0 + o.k))) o.p.above in
                let d_path : d.path ≡ above ++ Token (at (0 + o.k) t) ∷ [] = path_of_declared 0 reads d o ∙ ap (λ z. above ++ shifted_source (at (0 + o.k)) z ∷ []) q in
                let here : at (0 + o.k) t ≡ at k i = sym (ap (place_from (at d.file 0)) d_path ∙ place_last (at d.file 0) above (at (0 + o.k) t)) ∙ e in
                kind_at k l path i kind.Enum (λ z. cc) c d cd above (d_path ∙ ap (λ z. above ++ Token z ∷ []) here)
            go (EntryOf t) q h =
                let above : List (Source At) = map (shifted_source (at (0 + o.k))) o.p.above in
                let d_path : d.path ≡ above ++ EntryOf (at (0 + o.k) t) ∷ [] = path_of_declared 0 reads d o ∙ ap (λ z. above ++ shifted_source (at (0 + o.k)) z ∷ []) q in
                let here : at (0 + o.k) t ≡ at k i = sym (ap (place_from (at d.file 0)) d_path ∙ place_of_entry (at d.file 0) above (at (0 + o.k) t)) ∙ e in
                absurd (field_there o.p.above t here h)
            go (Given w) q h =
                let above : List (Source At) = map (shifted_source (at (0 + o.k))) o.p.above in
                let entry : List (Source At) = map (shifted_source (at (0 + o.k))) h.0 ++ EntryOf (at (0 + o.k) h.1) ∷ [] in
                let parts : above ≡ entry = ap (map (shifted_source (at (0 + o.k)))) h.2 ∙ map_append (shifted_source (at (0 + o.k))) h.0 (EntryOf h.1 ∷ []) in
                let d_path : d.path ≡ entry ++ Given w ∷ [] = path_of_declared 0 reads d o ∙ ap (λ z. above ++ shifted_source (at (0 + o.k)) z ∷ []) q ∙ ap (λ z. z ++ Given w ∷ []) parts in
                let found = ap (place_from (at d.file 0)) d_path ∙ place_of_given (at d.file 0) entry w ∙ place_of_entry (at d.file 0) (map (shifted_source (at (0 + o.k))) h.0) (at (0 + o.k) h.1) in
                absurd (field_there h.0 h.1 (sym found ∙ e) h.3)

    -- ---- the target

    module _ (name to : List ℕ) (t : Target) (named : IsNamed files reads name t) where
      target_named : Names (link_skeleton files reads) t.token
      target_named = (t.aim, named.within, (t.above, inl named.path))

      aim_no_package : t.aim.kind ≡ kind.Package → ⊥
      aim_no_package e = different (sym (ap may_rename e) ∙ named.kind)
        where
          different : false ≡ true → ⊥
          different z = cc

      -- ---- what is not changed

      unchanged : (i : At) → (Names (link_skeleton files reads) i → ⊥) → (Uses (link_skeleton files reads) i → ⊥) → (Contains (renamed_defaults files reads t.enum (text_of files reads t.token)) i → ⊥) → renamed_words files reads t to i ≡ None
      unchanged i no_name no_use no_default = other_token_stays files reads t to target_named i no_name no_use no_default

      other_stays : (k i : ℕ) (role : Role) → IsOther role → HasRole (read_at reads k).tree role i → renamed_words files reads t to (at k i) ≡ None
      other_stays k i role other has =
          unchanged (at k i) (λ n. other.no_name (one_role (at k i) role names has (name_role (at k i) n))) (λ u. other.no_use (one_role (at k i) role refers has (use_role (at k i) u)))
          (λ d. other.no_value (one_role (at k i) role is_value has (default_role t.enum (text_of files reads t.token) (at k i) d)))

      asked_stays : (k i : ℕ) → Contains (asked_tokens (scene_of None files reads k) (read_at reads k).tree) i → k < length reads → renamed_words files reads t to (at k i) ≡ None
      asked_stays k i c l =
          let scene = scene_of None files reads k in
          let tree = (read_at reads k).tree in
          let spells = spelled k l in
          unchanged (at k i) (λ n. names_are_not_asked (file_at files k).profile scene tree (lexemes_of files reads k) spells names i refl (name_role (at k i) n) c) (λ u. names_are_not_asked (file_at files k).profile scene tree (lexemes_of files reads k) spells refers i refl (use_role (at k i) u) c)
          (λ x.
          let d = default_here t.enum (text_of files reads t.token) (at k i) x in
          defaults_are_not_asked (file_at files k).profile scene tree (lexemes_of files reads k) spells d.b d.f d.o d.block d.field d.option d.named i d.value c)

      -- ---- wants

      mark_at : (k : ℕ) (m : Mark) → Contains (flat (read_at reads k).tree) m → (role : Role) → HasRole (read_at reads k).tree role m.at → role_of m.want ≡ role
      mark_at k m c role has = ap (λ (x : Mark). role_of x.want) (one_mark_in (file_at files k).profile (read_at reads k).tree (lexemes_of files reads k) m has.0 (spelled k (mark_inside k m c)) c has.1 (sym has.2)) ∙ has.3

      name_wants : (k : ℕ) (m : Mark) → Contains (flat (read_at reads k).tree) m → at k m.at ≡ t.token → (m.want ≡ want.Name) ⊎ ((m.want ≡ want.ValueName) × (t.aim.kind ≡ kind.Value))
      name_wants k m c e = elim (named_wants m.want (mark_at k m c names (subst (RoleAt names) (sym e) (name_role t.token target_named)))) [
        | inl w ↦ inl w
        | inr w ↦
            let l = mark_inside k m c in
            let v = value_of_mark (read_at reads k).tree (spelled k l).well_formed m c w in
            let here : t.token ≡ at k v.2.0.name = sym e ∙ ap (at k) (sym v.2.2) in
            inr (w, value_kind k v.0 v.2.0 v.1 v.2.1 t.aim named.within t.above (named.path ∙ ap (λ z. t.above ++ Token z ∷ []) here))
      ]

      token_wants : HasWants files reads t to
      token_wants = record {
        name = name_wants;
        uses = λ k m c u. used_wants m.want (mark_at k m c refers (use_role (at k m.at) u));
        options = λ k m c u cu e ci. ap (λ (x : Mark). x.want) (one_mark_in (file_at files k).profile (read_at reads k).tree (lexemes_of files reads k) m (mark want.Word m.at) (spelled k (mark_inside k m c)) c (option_words files reads u cu e (at k m.at) ci) refl);
        defaults = λ k m c d. value_wants m.want (mark_at k m c is_value (default_role t.enum (text_of files reads t.token) (at k m.at) d));
      }

      -- ---- tokens besides values and defaults

      token_roles : HasRoles files reads t to
      token_roles = record {
        apart = tokens_apart t.enum (text_of files reads t.token);
        wants = token_wants;
        numbers = λ file b v cb cv. other_stays file v.number.number is_number number_is_other (value_numbers_are_numbers (file_at files file).profile (read_at reads file).tree (lexemes_of files reads file) (spelled file (block_inside file b cb)) b v cb cv);
        asked = λ file l k d lt.
            let i = get_or (asked_tokens (scene_of None files reads file) (read_at reads file).tree) k d in
            ap is_some (asked_stays file i (Contains-get_or (asked_tokens (scene_of None files reads file) (read_at reads file).tree) k d lt) (omega (arith, l, r.same)));
        fields = λ file b cb i j d below inside same.
            let rises = field_names_rise (file_at files file).profile (read_at reads file).tree (lexemes_of files reads file) (spelled file (block_inside file b cb)) b cb i j d below inside in
            absurd (omega (arith, same, rises));
        field_names = λ file b f l cb cf. field_is_named file b f cb cf;
        value_names = λ file b l cb i ci. value_is_named file b i cb ci;
        option_names = λ file b f o cb cf co. other_stays file o.name names_option option_is_other (field_options_have_roles (file_at files file).profile (read_at reads file).tree (lexemes_of files reads file) (spelled file (block_inside file b cb)) b f o cb cf co).0;
      }

      -- ---- enums

      -- what is found at the place of a declaration
      found_block : (d : Declared At) (v : ℕ) (has : HasValue files reads d v) → Contains (blocks_in (read_at reads (place_of d).file).tree) has.b × (is_enum_at (place_of d).token has.b.header ≡ true)
      found_block d v has = find_there (λ (x : BlockOf). is_enum_at (place_of d).token x.header) (blocks_in (read_at reads (place_of d).file).tree) has.b has.found

      value_names : (d : Declared At) (v : ℕ) → HasValue files reads d v → Names (link_skeleton files reads) (at (place_of d).file v)
      value_names d v has = value_is_named (place_of d).file has.b v (found_block d v has).0 has.within

      -- the declaration whose block has a value is the enum, in its file
      enum_declared : (d : Declared At) (v : ℕ) → HasValue files reads d v → (d.kind ≡ kind.Enum) × (d.file ≡ (place_of d).file)
      enum_declared d v has =
          let k = (place_of d).file in
          let found = found_block d v has in
          let l = block_inside (place_of d).file has.b found.0 in
          let x = from_map (λ (x : ValueParts). x.name) (values_in has.b.within) v has.within in
          let p = values_are_declared (file_at files (place_of d).file).profile (read_at reads (place_of d).file).tree (lexemes_of files reads (place_of d).file) (spelled (place_of d).file l) has.b x.0 found.0 x.1 in
          let n = enum_name (place_of d).token has.b.header found.1 in
          let its : n.0 ≡ p.0.name = n.2 p.0.name (subst (λ h. is_enum_at p.0.name h ≡ true) (sym p.2) (eq-eqb p.0.name p.0.name refl)) in
          let token : (place_of d).token ≡ p.0.name = sym n.1 ∙ its in
          let is = enum_at_place d has.declared (place_of d).file l p.1 p.0.name p.3 (ap (at (place_of d).file) token) in
          (ap (λ (z : Declared At). z.kind) is, ap (λ (z : Declared At). z.file) is)

      one_value : (d : Declared At) (v : ℕ) → HasValue files reads d v → at (place_of d).file v ≡ t.token → t.enum ≡ Some (name_of (text_of files reads) entry_name d.path)
      one_value d v has e = by t.enum refl named.enum_is
        where
          aim_kind : t.aim.kind ≡ kind.Value
          aim_kind =
              let x = from_map (λ (x : ValueParts). x.name) (values_in has.b.within) v has.within in
              let here : t.token ≡ at (place_of d).file x.0.name = sym e ∙ ap (at (place_of d).file) (sym x.2) in
              value_kind (place_of d).file has.b x.0 (found_block d v has).0 x.1 t.aim named.within t.above (named.path ∙ ap (λ z. t.above ++ Token z ∷ []) here)

          by : (o : Option (List (List ℕ))) → t.enum ≡ o → HasEnum files reads t.aim t.token o → o ≡ Some (name_of (text_of files reads) entry_name d.path)
          by None q h = absurd (h aim_kind)
          by (Some en) q h =
              let x : IsEnumOf files reads t.token en = h.1 in
              let file : (place_of d).file ≡ t.token.file = ap (λ (z : At). z.file) e in
              let token : v ≡ t.token.token = ap (λ (z : At). z.token) e in
              let is = enum_declared d v has in
              let found : find (λ (y : BlockOf). is_enum_at (place_of d).token y.header) (blocks_in (read_at reads t.token.file).tree) ≡ Some has.b =
              subst (λ m. find (λ (y : BlockOf). is_enum_at (place_of d).token y.header) (blocks_in (read_at reads m).tree) ≡ Some has.b) file has.found in
              let within = subst (λ n. Contains (map (λ (y : ValueParts). y.name) (values_in has.b.within)) n) token has.within in
              let same = one_enum files reads r ok t.token.file t.token.token d x.d has.b x.b (has.declared, is.0, is.1 ∙ file, found, within) (x.declared, x.kind, x.file_is, x.found, x.within) in
              ap (λ z. Some z) (sym x.name_is ∙ sym same)

      -- values of one block of one text are one
      values_one : (k : ℕ) (b : BlockOf) (v u : ValueParts) → Contains (blocks_in (read_at reads k).tree) b → Contains (values_in b.within) v → Contains (values_in b.within) u → text_of files reads (at k v.name) ≡ text_of files reads (at k u.name) → v.name ≡ u.name
      values_one k b v u cb cv cu same = by b.header (blocks_are_declared (file_at files k).profile (read_at reads k).tree (lexemes_of files reads k) (spelled k (block_inside k b cb)) b cb)
        where
          l : k < length reads
          l = block_inside k b cb

          none : {A : Type 0} (xs : List A) (x : A) → xs ≡ [] → Contains xs x → ⊥
          none xs x e c = let d = subst (λ z. Contains z x) e c in omega (arith, d.1)

          of_path : (path : List (Source ℕ)) → Contains (file_placed (items_in (read_at reads k).tree)) (place path (Token v.name) kind.Value) → Contains (file_placed (items_in (read_at reads k).tree)) (place path (Token u.name) kind.Value) → v.name ≡ u.name
          of_path path pv pu =
              let dv : Declared At = shifted_declared (at k) (declared_of k (place path (Token v.name) kind.Value)) in
              let du : Declared At = shifted_declared (at k) (declared_of k (place path (Token u.name) kind.Value)) in
              let above : List (Source At) = map (shifted_source (at k)) path in
              let vp = token_path k path v.name kind.Value in
              let up = token_path k path u.name kind.Value in
              let named_v = ap (name_of (text_of files reads) entry_name) vp ∙ map_append (spell (text_of files reads) entry_name) above (Token (at k v.name) ∷ []) in
              let named_u = ap (name_of (text_of files reads) entry_name) up ∙ map_append (spell (text_of files reads) entry_name) above (Token (at k u.name) ∷ []) in
              let names_same : name_of (text_of files reads) entry_name dv.path ≡ name_of (text_of files reads) entry_name du.path = named_v ∙ ap (λ (z : List ℕ). name_of (text_of files reads) entry_name above ++ z ∷ []) same ∙ sym named_u in
              elim (one_declaration files reads r ok dv du (placed_declared k l (place path (Token v.name) kind.Value) pv) (placed_declared k l (place path (Token u.name) kind.Value) pu) names_same) [
                | inl e ↦
                    let parts = snoc_parts above above (Token (at k v.name)) (Token (at k u.name)) (sym vp ∙ ap (λ (z : Declared At). z.path) e ∙ up) in
                    ap (λ (z : At). z.token) (same_token (at k v.name) (at k u.name) parts.1)
                | inr p ↦ absurd (different p.0)
              ]
            where
              same_token : (x y : At) → ◌≡◌ {A = Source At} (Token x) (Token y) → x ≡ y
              same_token x y e = cc

              different : kind.Value ≡ kind.Package → ⊥
              different z = cc

          by : (h : Header) → IsDeclared (file_placed (items_in (read_at reads k).tree)) h b.within → v.name ≡ u.name
          by (header.Enum h) d = of_path d.0 (d.2 v cv) (d.2 u cu)
          by (header.Extend x) d = absurd (none (values_in b.within) v d.2 cv)
          by whole d = absurd (none (values_in b.within) v d.3 cv)

      value_apart : (d : Declared At) (v : ℕ) → HasValue files reads d v → t.enum ≡ Some (name_of (text_of files reads) entry_name d.path) → text_of files reads (at (place_of d).file v) ≡ text_of files reads t.token → at (place_of d).file v ≡ t.token
      value_apart d v has en same = by t.enum en named.enum_is
        where
          -- the enum of the target is this one, and so is its block
          in_block : (x : Declared At) (b : BlockOf) → x ≡ d → x.file ≡ t.token.file → find (λ (y : BlockOf). is_enum_at (place_of x).token y.header) (blocks_in (read_at reads t.token.file).tree) ≡ Some b → Contains (map (λ (y : ValueParts). y.name) (values_in b.within)) t.token.token → at (place_of d).file v ≡ t.token
          in_block x b e file found within =
              let found_d : find (λ (y : BlockOf). is_enum_at (place_of d).token y.header) (blocks_in (read_at reads t.token.file).tree) ≡ Some b =
              subst (λ (z : Declared At). find (λ (y : BlockOf). is_enum_at (place_of z).token y.header) (blocks_in (read_at reads t.token.file).tree) ≡ Some b) e found in
              let k_is : (place_of d).file ≡ t.token.file = sym (enum_declared d v has).1 ∙ sym (ap (λ (z : Declared At). z.file) e) ∙ file in
              let found_k : find (λ (y : BlockOf). is_enum_at (place_of d).token y.header) (blocks_in (read_at reads (place_of d).file).tree) ≡ Some b =
              subst (λ m. find (λ (y : BlockOf). is_enum_at (place_of d).token y.header) (blocks_in (read_at reads m).tree) ≡ Some b) (sym k_is) found_d in
              let block : b ≡ has.b = same_Some b has.b (sym found_k ∙ has.found) in
              let mine = subst (λ (z : BlockOf). Contains (map (λ (y : ValueParts). y.name) (values_in z.within)) t.token.token) block within in
              let x = from_map (λ (y : ValueParts). y.name) (values_in has.b.within) v has.within in
              let u = from_map (λ (y : ValueParts). y.name) (values_in has.b.within) t.token.token mine in
              let here : at (place_of d).file t.token.token ≡ t.token = ap (λ m. at m t.token.token) k_is in
              let texts : text_of files reads (at (place_of d).file x.0.name) ≡ text_of files reads (at (place_of d).file u.0.name) =
              ap (λ n. text_of files reads (at (place_of d).file n)) x.2 ∙ same ∙ ap (text_of files reads) (sym here) ∙ ap (λ n. text_of files reads (at (place_of d).file n)) (sym u.2) in
              let one = values_one (place_of d).file has.b x.0 u.0 (found_block d v has).0 x.1 u.1 texts in
              ap (at (place_of d).file) (sym x.2 ∙ one ∙ u.2) ∙ here

          by : (o : Option (List (List ℕ))) → o ≡ Some (name_of (text_of files reads) entry_name d.path) → HasEnum files reads t.aim t.token o → at (place_of d).file v ≡ t.token
          by None q h = absurd cc
          by (Some z) q h =
              let x : IsEnumOf files reads t.token z = h.1 in
              let name_same : name_of (text_of files reads) entry_name x.d.path ≡ name_of (text_of files reads) entry_name d.path = x.name_is ∙ same_Some z (name_of (text_of files reads) entry_name d.path) q in
              elim (one_declaration files reads r ok x.d d x.declared has.declared name_same) [
                | inl e ↦ in_block x.d x.b e x.file_is x.found x.within
                | inr p ↦ absurd (different (sym x.kind ∙ p.0))
              ]
            where
              different : kind.Enum ≡ kind.Package → ⊥
              different e = cc

      enum_roles : HasEnumRoles files reads t
      enum_roles = record { names = value_names; one = one_value; apart = value_apart }

      -- ---- words of defaults

      default_words : (k : ℕ) (b : BlockOf) (f : FieldOf) → Contains (blocks_in (read_at reads k).tree) b → Contains (fields_in b.within) f → HasDefaultWords files reads t to k f
      default_words k b f cb cf = record {
        number = λ o n co q. other_stays k n.number is_number number_is_other (subst (λ v. ValueHasRole (read_at reads k).tree o.name v) q (option_roles o co).1);
        no_name = λ o w co q n. no_name_value (one_role (at k w) names is_value (name_role (at k w) n) (word_role o w co q).0);
        no_use = λ o w co q u. no_use_value (one_role (at k w) refers is_value (use_role (at k w) u) (word_role o w co q).0);
        own = own;
      }
        where
          l : k < length reads
          l = block_inside k b cb

          option_roles : (o : OptionOf) → Contains f.options o → HasRole (read_at reads k).tree names_option o.name × ValueHasRole (read_at reads k).tree o.name o.value
          option_roles o co = field_options_have_roles (file_at files k).profile (read_at reads k).tree (lexemes_of files reads k) (spelled k l) b f o cb cf co

          word_role : (o : OptionOf) (w : ℕ) → Contains f.options o → o.value ≡ constant.Word w → HasRole (read_at reads k).tree is_value w × (o.name + 2 ≡ w)
          word_role o w co q = subst (λ v. ValueHasRole (read_at reads k).tree o.name v) q (option_roles o co).1

          own : (o : OptionOf) (w : ℕ) → Contains f.options o → o.value ≡ constant.Word w → Contains (renamed_defaults files reads t.enum (text_of files reads t.token)) (at k w) → means_value t.enum (text_of files reads t.token) (type_meaning files reads k f.kind) (text_of files reads (at k w)) ≡ true
          own o w co q c =
              let d = default_here t.enum (text_of files reads t.token) (at k w) c in
              let mine = (word_role o w co q).1 in
              let its = (value_has t.enum (text_of files reads t.token) k l d.b d.f d.o w d.block d.field d.option d.value).1 in
              let one : o.name ≡ d.o.name = omega (arith, mine, its) in
              let same = options_are_of_one_field (file_at files k).profile (read_at reads k).tree (lexemes_of files reads k) (spelled k l) b d.b f d.f o d.o cb d.block cf d.field co d.option one in
              subst (λ (z : FieldType). means_value t.enum (text_of files reads t.token) (type_meaning files reads k z) (text_of files reads (at k w)) ≡ true) (sym same.kind) d.means

pub tokens_have_roles : AllTokensHaveRoles
tokens_have_roles files reads name to t r clean named =
    let ok = files_are_linked files reads r clean in
    record {
      tokens = token_roles files reads r ok name to t named;
      enums = enum_roles files reads r ok name to t named;
      defaults = λ file b f l cb cf. default_words files reads r ok name to t named file b f cb (of_block b.header b.within f cf);
    }
