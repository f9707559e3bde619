-- What a link says of a name, as what the name aims at.
use Rattle.std.proofs.Common.{◌≡◌, ◌≢◌, ◌↔◌, ℕ, ◌+◌, Bool, true, false, List, [], ◌∷◌, ◌++◌, get_or, map, IsTrue, option_map, Some, refl, sym, ap, subst, ◌∙◌, inl, inr, Contains, true≢false}
use Rattle.proto_base.proofs.Common.{Contains-get_or, contains_map, from_map}
use Rattle.proto_case.specs.Camel.{entry_name}
use Rattle.proto_files.proofs.Common.{HasNoFault, ReadOf, AreRead, read_at, FileOf}
use Rattle.proto_names_rules.specs.declared.kind.Kind.{Kind}
use Rattle.proto_names_rules.specs.declared.kind.Kind.TheVariants.{Package, Entry, EntryField}
use Rattle.proto_names_rules.proofs.Common.{place_from, place_of, At, at, joined, Symbol, Source, Token, EntryOf, Given, Declared, IsAimEntry, name_of, shifted_source, spell, symbol_of, map_append, joined_apart, one_symbol}
use Rattle.proto_names_outline.specs.FromTree.{items_in}
use Rattle.proto_names_imports.proofs.Common.{LinkFaults, link_skeleton, names_of_files, text_of, names_are_plain}
use Rattle.proto_names.proofs.Common.{IsLinkOf, IsLinkRead, LinkOf, NameOf, name_at, name_text}
use Rattle.proto_edit_rename_laws.proofs.Common.{IsUnknown, RenameCase, unknown_target, kind_not_allowed, Target, IsNamed, may_rename, EndsAs, IsDeclaredBy, declared_by, path_of_declared, placed_ends, is_written, files_are_linked, files_are_woven, place_last, targets_are_there, IsInside, tokens_are_inside}
use Rattle.proto_edit_rename_laws.proofs.TokenRoles.{place_of_entry}
use Rattle.proto_edit_captures.specs.Common.{IsFoundTarget, IsNoTarget, IsNotAllowed, RenameTarget, HasDeclared, HasUnmoved, IsNotDeclared}
use Rattle.proto_edit_captures.specs.declared.rename_target.NoTarget.{NoTarget}
use Rattle.proto_edit_captures.specs.declared.rename_target.NoTarget.TheVariants as variant
use Rattle.proto_edit_captures.proofs.JoinedNames.{lead, joined_last}
use Rattle.proto_edit_captures.proofs.LookedUp.{same_test}

-- what is an entry ends so
entry_path : (reads : List ReadOf) (d : Declared At) → IsDeclaredBy 0 reads d → d.kind ≡ Entry → (above : List (Source At)) × (i : At) × (d.path ≡ above ++ EntryOf i ∷ [])
entry_path reads d o kind = by o.p.last refl (placed_ends (items_in (read_at reads o.k).tree) o.p o.within)
  where
    entry : o.p.kind ≡ Entry
    entry = ap (λ (z : Declared At). z.kind) o.is ∙ kind

    by : (s : Source ℕ) → o.p.last ≡ s → EndsAs o.p.last o.p.kind → (above : List (Source At)) × (i : At) × (d.path ≡ above ++ EntryOf i ∷ [])
    by (Token t) q h = absurd (not_written (sym (subst (λ (z : Source ℕ). EndsAs z o.p.kind) q h) ∙ ap is_written entry))
      where
        not_written : true ≡ false → ⊥
        not_written e = cc
    by (EntryOf t) q h = (
      map (shifted_source (at (0 + o.k))) o.p.above,
      at (0 + o.k) t,
      path_of_declared 0 reads d o ∙ ap (λ (z : Source ℕ). map (shifted_source (at (0 + o.k))) o.p.above ++ shifted_source (at (0 + o.k)) z ∷ []) q,
    )
    by (Given w) q h = absurd (not_field (sym (subst (λ (z : Source ℕ). EndsAs z o.p.kind) q h) ∙ entry))
      where
        not_field : EntryField ≡ Entry → ⊥
        not_field e = cc

pub may_not_package : (k : Kind) → may_rename k ≡ true → k ≢ Package
may_not_package k h e = no (ap may_rename (sym e) ∙ h)
  where
    no : false ≡ true → ⊥
    no e = cc

entry_no_package : (k : Kind) → k ≡ Entry → k ≢ Package
entry_no_package k h e = no (sym h ∙ e)
  where
    no : Entry ≡ Package → ⊥
    no e = cc

module _ (files : List FileOf) (reads : List ReadOf) (r : AreRead files reads) (clean : HasNoFault (LinkFaults files)) (l : LinkOf) (link : IsLinkRead files reads l) where
  -- a name of the link is that of a symbol
  pub symbol_at : (row : ℕ) (n : NameOf) → name_at l row ≡ Some n → (s : Symbol) × Contains (names_of_files files reads).symbols s × (joined s.name ≡ n.text) × (s.kind ≡ n.kind)
  symbol_at row n is =
      let s = link.by.names.only row (get_or n.files 0 0) n is (Contains-get_or n.files 0 0 (link.by.names.declared row n is)) in
      (s.0, s.1, s.2, s.3)

  -- two symbols of one text are of one kind
  one_kind : (s t : Symbol) → Contains (names_of_files files reads).symbols s → Contains (names_of_files files reads).symbols t → joined s.name ≡ joined t.name → s.kind ≡ t.kind
  one_kind s t cs ct e =
      let same = joined_apart s.name t.name (names_are_plain files reads r s cs) (names_are_plain files reads r t ct) e in
      elim (one_symbol (names_of_files files reads).symbols (files_are_linked files reads r clean).unique s t cs ct same) [
        | inl one ↦ ap (λ (z : Symbol). z.kind) one
        | inr both ↦ both.0 ∙ sym both.1
      ]

  symbol : Declared At → Symbol
  symbol d = symbol_of (text_of files reads) entry_name d

  -- the target of a declared name, at its token
  pub target_of : (name : List ℕ) (kind : Kind) (place : At) → HasDeclared l name kind place → may_rename kind ≡ true → (t : Target) × IsNamed files reads name t × (place ≡ t.token) × (kind ≡ t.aim.kind)
  unfolding symbol
  target_of name kind place h may =
      let s = symbol_at h.row h.found h.is in
      let named : joined s.0.name ≡ name = s.2 ∙ h.text_is in
      let s_kind : s.0.kind ≡ kind = s.3 ∙ h.kind_is in
      let t = targets_are_there files reads name [] r (known s.0 s.1 named) (allowed s.0 s.1 named (ap may_rename s_kind ∙ may)) in
      let ct = contains_map (symbol_of (text_of files reads) entry_name) (link_skeleton files reads).declared t.0.aim t.1.within in
      let at_place = link.by.places t.0.aim t.1.within (may_not_package t.0.aim.kind t.1.kind) h.row h.found h.is (h.text_is ∙ sym t.1.name_is) in
      let ends : place_of t.0.aim ≡ t.0.token = ap (place_from (at t.0.aim.file 0)) t.1.path ∙ place_last (at t.0.aim.file 0) t.0.above t.0.token in
      (t.0, t.1, sym h.place_is ∙ at_place ∙ ends, sym s_kind ∙ one_kind s.0 (symbol_of (text_of files reads) entry_name t.0.aim) s.1 ct (named ∙ sym t.1.name_is))
    where
      known : (s : Symbol) → Contains (names_of_files files reads).symbols s → joined s.name ≡ name → RenameCase files reads name [] 1 → ⊥
      known s cs named (unknown_target h) = h s cs named

      allowed : (s : Symbol) → Contains (names_of_files files reads).symbols s → joined s.name ≡ name → may_rename s.kind ≡ true → RenameCase files reads name [] 2 → ⊥
      allowed s cs named may (kind_not_allowed u cu u_named unmoved) = true≢false (sym may ∙ ap may_rename (one_kind s u cs cu (named ∙ sym u_named)) ∙ unmoved)

  -- the name as text
  pub spelled : (name : List ℕ) (t : Target) → IsNamed files reads name t → name ≡ lead (name_of (text_of files reads) entry_name t.above) ++ text_of files reads t.token
  spelled name t named =
      sym named.name_is ∙ ap (λ z. joined (name_of (text_of files reads) entry_name z)) named.path
      ∙ ap joined (map_append (spell (text_of files reads) entry_name) t.above (Token t.token ∷ []))
      ∙ joined_last (name_of (text_of files reads) entry_name t.above) (text_of files reads t.token)

  -- it has an entry exactly where the link has one of this text at its token
  pub entry_forth : (name : List ℕ) (t : Target) → IsNamed files reads name t → (text : List ℕ) → HasDeclared l text Entry t.token → t.is_map ≡ true
  entry_forth name t named text h = go t.is_map named.entry
    where
      go : (b : Bool) → IsAimEntry (link_skeleton files reads) t.token t.above b → b ≡ true
      go true e = refl
      go false e =
          let s = symbol_at h.row h.found h.is in
          let d = from_map (symbol_of (text_of files reads) entry_name) (link_skeleton files reads).declared s.0 s.1 in
          let kind : d.0.kind ≡ Entry = ap (λ (z : Symbol). z.kind) d.2 ∙ s.3 ∙ h.kind_is in
          let p = entry_path reads d.0 (declared_by 0 reads d.0 d.1) kind in
          let at_place = link.by.places d.0 d.1 (entry_no_package d.0.kind kind) h.row h.found h.is (sym s.2 ∙ sym (ap (λ (z : Symbol). joined z.name) d.2)) in
          let ends : place_of d.0 ≡ p.1 = ap (place_from (at d.0.file 0)) p.2 ∙ place_of_entry (at d.0.file 0) p.0 p.1 in
          let token : p.1 ≡ t.token = sym ends ∙ sym at_place ∙ h.place_is in
          let path : d.0.path ≡ p.0 ++ EntryOf t.token ∷ [] = p.2 ∙ ap (λ (z : At). p.0 ++ EntryOf z ∷ []) token in
          let above : p.0 ≡ t.above = (files_are_woven files reads r).entries d.0 t.aim d.1 named.within p.0 t.above t.token path named.path in
          absurd (e d.0 d.1 (path ∙ ap (λ (z : List (Source At)). z ++ EntryOf t.token ∷ []) above))

  pub entry_back : (name : List ℕ) (t : Target) → IsNamed files reads name t → t.is_map ≡ true → HasDeclared l (lead (name_of (text_of files reads) entry_name t.above) ++ entry_name (text_of files reads t.token)) Entry t.token
  entry_back name t named is =
      let e : IsAimEntry (link_skeleton files reads) t.token t.above true = subst (IsAimEntry (link_skeleton files reads) t.token t.above) is named.entry in
      let cs = contains_map (symbol_of (text_of files reads) entry_name) (link_skeleton files reads).declared e.0 e.1 in
      let n = link.by.names.there (symbol_of (text_of files reads) entry_name e.0) cs in
      let at_place = link.by.places e.0 e.1 (entry_no_package e.0.kind e.3) n.0 n.1 n.2 n.3 in
      let ends : place_of e.0 ≡ t.token = ap (place_from (at e.0.file 0)) e.2 ∙ place_of_entry (at e.0.file 0) t.above t.token in
      record {
        row = n.0;
        found = n.1;
        is = n.2;
        text_is = n.3 ∙ ap (λ z. joined (name_of (text_of files reads) entry_name z)) e.2
            ∙ ap joined (map_append (spell (text_of files reads) entry_name) t.above (EntryOf t.token ∷ []))
            ∙ joined_last (name_of (text_of files reads) entry_name t.above) (entry_name (text_of files reads t.token));
        kind_is = n.4 ∙ e.3;
        place_is = at_place ∙ ends;
      }

  -- a name of the link that may not be renamed is that of a symbol
  pub unmoved_symbol : (name : List ℕ) → HasUnmoved l name → IsNotAllowed files reads name
  unmoved_symbol name h =
      let s = symbol_at h.row h.found h.is in
      record { symbol = s.0; within = s.1; name_is = s.2 ∙ h.text_is; kind = ap may_rename s.3 ∙ h.kind_is }

  -- a name that the link has not is none of the files'
  pub unknown_symbol : (name : List ℕ) → ((row : ℕ) → name_text l row ≢ Some name) → IsUnknown files reads name
  unknown_symbol name none s cs e =
      let n = link.by.names.there s cs in
      none n.0 (ap (option_map (λ (z : NameOf). z.text)) n.2 ∙ ap (λ (z : List ℕ). Some z) (n.3 ∙ e))

  -- what was found is what the name aims at
  pub aimed_at : (a : RenameTarget) → HasDeclared l a.name.now a.kind (at a.file a.token) → may_rename a.kind ≡ true
      → ((front : List ℕ) → a.name.now ≡ front ++ text_of files reads (at a.file a.token) → IsTrue a.is_map ↔ HasDeclared l (front ++ entry_name (text_of files reads (at a.file a.token))) Entry (at a.file a.token))
      → (t : Target) × IsFoundTarget files reads a t
  aimed_at a h may test =
      let t = target_of a.name.now a.kind (at a.file a.token) h may in
      let named = t.1 in
      let lead_of = lead (name_of (text_of files reads) entry_name t.0.above) in
      let fronts : a.name.now ≡ lead_of ++ text_of files reads (at a.file a.token) = spelled a.name.now t.0 named ∙ ap (λ (z : At). lead_of ++ text_of files reads z) (sym t.2) in
      let tests = test lead_of fronts in
      let forth = λ (b : a.is_map ≡ true). entry_forth a.name.now t.0 named (lead_of ++ entry_name (text_of files reads (at a.file a.token))) (subst (HasDeclared l (lead_of ++ entry_name (text_of files reads (at a.file a.token))) Entry) t.2 (tests.0 b)) in
      let back = λ (b : t.0.is_map ≡ true). tests.1 (subst (λ (z : At). HasDeclared l (lead_of ++ entry_name (text_of files reads z)) Entry z) (sym t.2) (entry_back a.name.now t.0 named b)) in
      (t.0, record { named = named; token = t.2; kind = t.3; is_map = same_test a.is_map t.0.is_map forth back })

  -- its name is a front with its word behind it
  pub is_spelled : (name : List ℕ) (kind : Kind) (place : At) → HasDeclared l name kind place → may_rename kind ≡ true → IsInside files reads place × ((front : List ℕ) × (name ≡ front ++ text_of files reads place))
  is_spelled name kind place h may =
      let t = target_of name kind place h may in (
        subst (IsInside files reads) (sym t.2) (tokens_are_inside files reads r t.0.token (inl (t.0.aim, t.1.within, (t.0.above, inl t.1.path)))),
        (lead (name_of (text_of files reads) entry_name t.0.above), spelled name t.0 t.1 ∙ ap (λ (z : At). lead (name_of (text_of files reads) entry_name t.0.above) ++ text_of files reads z) (sym t.2)),
      )

  -- the same of what is aimed at
  pub spelled_aim : (a : RenameTarget) (t : Target) → IsFoundTarget files reads a t → a.name.now ≡ lead (name_of (text_of files reads) entry_name t.above) ++ text_of files reads (at a.file a.token)
  spelled_aim a t h = spelled a.name.now t h.named ∙ ap (λ (z : At). lead (name_of (text_of files reads) entry_name t.above) ++ text_of files reads z) (sym h.token)

-- why a link has no such declaration is why the name aims at nothing
pub no_target : (files : List FileOf) (l : LinkOf) → IsLinkOf files l → HasNoFault (LinkFaults files) → (name : List ℕ) (e : NoTarget) → IsNotDeclared l name e → IsNoTarget files name e
no_target files l link clean name variant.Unknown h = λ reads r. unknown_symbol files reads r clean l (link reads r) name h
no_target files l link clean name variant.NotAllowed h = λ reads r. unmoved_symbol files reads r clean l (link reads r) name h
no_target files l link clean name variant.NoMemory h = tt
