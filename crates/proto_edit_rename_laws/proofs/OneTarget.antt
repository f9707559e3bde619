-- A name is that of one target (for the crates above).
use Rattle.std.proofs.Common.{◌≡◌, ℕ, zero, suc, ◌<◌, ◌⊎◌, Bool, true, false, List, [], ◌∷◌, ◌++◌, length, get_or, map, find, Option, Some, None, refl, sym, ap, ap₂, subst, ◌∙◌, inl, inr, arith, Contains, eqb-true}
use Rattle.proto_base.proofs.Common.{cases_order, get_or-map, length-map, get_or_default, contains_map, from_map}
use Rattle.proto_case.specs.Camel.{entry_name}
use Rattle.proto_text.specs.Tokens.{lexeme_at}
use Rattle.proto_tree.specs.declared.piece.Header.{Header}
use Rattle.proto_tree.specs.declared.tree.Value.{Value as ValueParts}
use Rattle.proto_tree.proofs.Common.{Numbered, flat, trees_are_numbered_in}
use Rattle.proto_tree.specs.declared.piece.Header.TheVariants as header
use Rattle.proto_files.proofs.Common.{FileOf, file_at, ReadOf, AreRead, read_at}
use Rattle.proto_names_rules.proofs.Common.{place_from, place_of, At, at, IsLinked, Source, Token, EntryOf, Given, Declared, IsAimEntry, name_of, symbol_of, snoc_parts, joined_apart}
use Rattle.proto_names_rules.specs.declared.kind.Kind.TheVariants.{Package, Enum}
use Rattle.proto_names_imports.proofs.Common.{link_skeleton, names_of_files, text_of, names_are_plain}
use Rattle.proto_ast.specs.Parts.{BlockOf, blocks_in, values_in}
use Rattle.proto_resolved.specs.SceneOf.{is_enum_at}
use Rattle.proto_edit_rename_laws.specs.Common.{TargetsAreOne, HasEnum, IsNamed, Target, may_rename}
use Rattle.proto_edit_rename_laws.proofs.Blocks.{one_block}
use Rattle.proto_edit_rename_laws.proofs.NoLinkFault.{files_are_linked, files_are_woven}
use Rattle.proto_edit_rename_laws.proofs.Declarations.{ends_with_token, is_written}
use Rattle.proto_edit_rename_laws.proofs.Scenes.{find_there}

-- the place of a path that ends with a token
pub place_last : (x : At) (above : List (Source At)) (i : At) → place_from x (above ++ Token i ∷ []) ≡ i
place_last x [] i = refl
place_last x (Token t ∷ above) i = place_last t above i
place_last x (EntryOf t ∷ above) i = place_last t above i
place_last x (Given w ∷ above) i = place_last x above i

-- the name of an enum's block
pub enum_name : (token : ℕ) (h : Header) → is_enum_at token h ≡ true → (n : ℕ) × (n ≡ token) × ((other : ℕ) → is_enum_at other h ≡ true → n ≡ other)
enum_name token (header.Enum h) e = (h.name, eqb-true h.name token e, λ other q. eqb-true h.name other q)
enum_name token whole e = absurd cc

module _ (files : List FileOf) (reads : List ReadOf) (r : AreRead files reads) (ok : IsLinked (names_of_files files reads)) where
  -- two declarations of one name are one, or packages
  pub one_declaration : (s t : Declared At) → Contains (link_skeleton files reads).declared s → Contains (link_skeleton files reads).declared t → name_of (text_of files reads) entry_name s.path ≡ name_of (text_of files reads) entry_name t.path → (s ≡ t) ⊎ ((s.kind ≡ Package) × (t.kind ≡ Package))
  one_declaration s t cs ct h = elim (cases_order cs.0 ct.0) [
    | inl same ↦ inl (sym cs.2 ∙ get_or_default (link_skeleton files reads).declared cs.0 s t cs.1 ∙ ap (λ i. get_or (link_skeleton files reads).declared i t) same ∙ ct.2)
    | inr (inl below) ↦ (let p = apart cs.0 ct.0 s t s below cs.1 ct.1 cs.2 (get_or_default (link_skeleton files reads).declared ct.0 s t ct.1 ∙ ct.2) h in inr (p.0, p.1))
    | inr (inr more) ↦ (let p = apart ct.0 cs.0 t s s more ct.1 cs.1 (get_or_default (link_skeleton files reads).declared ct.0 s t ct.1 ∙ ct.2) cs.2 (sym h) in inr (p.1, p.0))
  ]
    where
      apart : (i j : ℕ) (x y d : Declared At) → i < j → i < length (link_skeleton files reads).declared → j < length (link_skeleton files reads).declared → get_or (link_skeleton files reads).declared i d ≡ x → get_or (link_skeleton files reads).declared j d ≡ y
          → name_of (text_of files reads) entry_name x.path ≡ name_of (text_of files reads) entry_name y.path → (x.kind ≡ Package) × (y.kind ≡ Package)
      apart i j x y d below li lj ex ey h =
          let ds = (link_skeleton files reads).declared in
          let n = length-map ds (symbol_of (text_of files reads) entry_name) in
          let ei = get_or-map (symbol_of (text_of files reads) entry_name) ds i d (symbol_of (text_of files reads) entry_name d) li ∙ ap (symbol_of (text_of files reads) entry_name) ex in
          let ej = get_or-map (symbol_of (text_of files reads) entry_name) ds j d (symbol_of (text_of files reads) entry_name d) lj ∙ ap (symbol_of (text_of files reads) entry_name) ey in
          let lj' : j < length (map (symbol_of (text_of files reads) entry_name) ds) = omega (arith, n, lj) in
          let p = ok.unique i j (symbol_of (text_of files reads) entry_name d) below lj' (ap (λ z. z.name) ei ∙ h ∙ sym (ap (λ z. z.name) ej)) in
          (sym (ap (λ z. z.kind) ei) ∙ p.0, sym (ap (λ z. z.kind) ej) ∙ p.1)

  -- two enums with one value token have one name
  abbrev HasValueAt : ℕ → ℕ → Declared At → BlockOf → Type 0
  HasValueAt file v d b = Contains (link_skeleton files reads).declared d × (d.kind ≡ Enum) × (d.file ≡ file) × (find (λ (x : BlockOf). is_enum_at (place_of d).token x.header) (blocks_in (read_at reads file).tree) ≡ Some b) × Contains (map (λ (x : ValueParts). x.name) (values_in b.within)) v

  pub one_enum : (file v : ℕ) (d e : Declared At) (b c : BlockOf) → HasValueAt file v d b → HasValueAt file v e c → name_of (text_of files reads) entry_name d.path ≡ name_of (text_of files reads) entry_name e.path
  one_enum file v d e b c h k =
      let fb = find_there (λ (x : BlockOf). is_enum_at (place_of d).token x.header) (blocks_in (read_at reads file).tree) b h.3 in
      let fc = find_there (λ (x : BlockOf). is_enum_at (place_of e).token x.header) (blocks_in (read_at reads file).tree) c k.3 in
      let vb = from_map (λ (x : ValueParts). x.name) (values_in b.within) v h.4 in
      let vc = from_map (λ (x : ValueParts). x.name) (values_in c.within) v k.4 in
      let l : file < length files = (let m = inside reads file b fb.0 in let n = r.same in omega (arith, m, n)) in
      let numbered : Numbered 0 (flat (read_at reads file).tree) = trees_are_numbered_in (file_at files file).profile (read_at reads file).tree (map (lexeme_at (file_at files file).bytes) (read_at reads file).tokens) (r.trees file l).spells in
      let same : b ≡ c = one_block (read_at reads file).tree 0 b c vb.0 vc.0 numbered fb.0 fc.0 vb.1 vc.1 (vb.2 ∙ sym vc.2) in
      let n = enum_name (place_of d).token b.header fb.1 in
      let tokens : (place_of d).token ≡ (place_of e).token = sym n.1 ∙ n.2 (place_of e).token (subst (λ (z : BlockOf). is_enum_at (place_of e).token z.header ≡ true) (sym same) fc.1) in
      let pd = ends_with_token 0 reads d h.0 (ap is_written h.1) in
      let pe = ends_with_token 0 reads e k.0 (ap is_written k.1) in
      let id : place_of d ≡ at d.file pd.1 = ap (place_from (at d.file 0)) pd.2 ∙ place_last (at d.file 0) pd.0 (at d.file pd.1) in
      let ie : place_of e ≡ at e.file pe.1 = ap (place_from (at e.file 0)) pe.2 ∙ place_last (at e.file 0) pe.0 (at e.file pe.1) in
      let one : pd.1 ≡ pe.1 = sym (ap (λ (z : At). z.token) id) ∙ tokens ∙ ap (λ (z : At). z.token) ie in
      let place : at d.file pd.1 ≡ at e.file pe.1 = ap₂ (λ (x y : ℕ). at x y) (h.2 ∙ sym k.2) one in
      let above : pd.0 ≡ pe.0 = (files_are_woven files reads r).tokens d e h.0 k.0 pd.0 pe.0 (at e.file pe.1) (pd.2 ∙ ap (λ z. pd.0 ++ Token z ∷ []) place) pe.2 in
      ap (name_of (text_of files reads) entry_name) (pd.2 ∙ ap₂ (λ x y. x ++ Token y ∷ []) above place ∙ sym pe.2)
    where
      inside : (rs : List ReadOf) (k : ℕ) (b : BlockOf) → Contains (blocks_in (read_at rs k).tree) b → k < length rs
      inside [] k b c = absurd (omega (arith, c.1))
      inside (x ∷ rs) zero b c = omega arith
      inside (x ∷ rs) (suc k) b c = (let m = inside rs k b c in omega (arith, m))

  same_enum : (aim : Declared At) (token : At) (o p : Option (List (List ℕ))) → HasEnum files reads aim token o → HasEnum files reads aim token p → o ≡ p
  same_enum aim token None None h k = refl
  same_enum aim token None (Some e) h k = absurd (h k.0)
  same_enum aim token (Some e) None h k = absurd (k h.0)
  same_enum aim token (Some e) (Some f) h k =
      let x = h.1 in
      let y = k.1 in
      ap (λ z. Some z) (sym x.name_is ∙ one_enum token.file token.token x.d y.d x.b y.b (x.declared, x.kind, x.file_is, x.found, x.within) (y.declared, y.kind, y.file_is, y.found, y.within) ∙ y.name_is)

  same_map : (token : At) (above : List (Source At)) (b c : Bool) → IsAimEntry (link_skeleton files reads) token above b → IsAimEntry (link_skeleton files reads) token above c → b ≡ c
  same_map token above true true h k = refl
  same_map token above false false h k = refl
  same_map token above true false h k = absurd (k h.0 h.1 h.2)
  same_map token above false true h k = absurd (h k.0 k.1 k.2)

  one_target : (name : List ℕ) (t u : Target) → IsNamed files reads name t → IsNamed files reads name u → t ≡ u
  one_target name t u a b =
      let plain = λ (d : Declared At) (c : Contains (link_skeleton files reads).declared d). names_are_plain files reads r (symbol_of (text_of files reads) entry_name d) (contains_map (symbol_of (text_of files reads) entry_name) (link_skeleton files reads).declared d c) in
      let names : name_of (text_of files reads) entry_name t.aim.path ≡ name_of (text_of files reads) entry_name u.aim.path =
      joined_apart (name_of (text_of files reads) entry_name t.aim.path) (name_of (text_of files reads) entry_name u.aim.path) (plain t.aim a.within) (plain u.aim b.within) (a.name_is ∙ sym b.name_is) in
      elim (one_declaration t.aim u.aim a.within b.within names) [
        | inl aim ↦
            let parts = snoc_parts t.above u.above (Token t.token) (Token u.token) (sym a.path ∙ ap (λ (z : Declared At). z.path) aim ∙ b.path) in
            let token : t.token ≡ u.token = same_token t.token u.token parts.1 in
            let is_map : t.is_map ≡ u.is_map = same_map u.token u.above t.is_map u.is_map (subst (λ z. IsAimEntry (link_skeleton files reads) u.token z t.is_map) parts.0 (subst (λ z. IsAimEntry (link_skeleton files reads) z t.above t.is_map) token a.entry)) b.entry in
            let enum : t.enum ≡ u.enum = same_enum u.aim u.token t.enum u.enum (subst (λ z. HasEnum files reads z u.token t.enum) aim (subst (λ z. HasEnum files reads t.aim z t.enum) token a.enum_is)) b.enum_is in
            λ i. record { token = token i; above = parts.0 i; aim = aim i; is_map = is_map i; enum = enum i }
        | inr both ↦ absurd (is_package (ap may_rename (sym both.0) ∙ a.kind))
      ]
    where
      is_package : may_rename Package ≡ true → ⊥
      is_package e = cc

      same_token : (x y : At) → ◌≡◌ {A = Source At} (Token x) (Token y) → x ≡ y
      same_token x y e = cc

pub targets_are_one : TargetsAreOne
targets_are_one files reads name t u r clean a b = one_target files reads r (files_are_linked files reads r clean) name t u a b
