-- Only what a reference may mean, or what may hold that, has words in references.
use Rattle.std.proofs.Common.{◌≡◌, ◌≢◌, true, false, List, ℕ, Bool, ◌||◌, [], ◌∷◌, ◌++◌, map, flat_map, refl, sym, ap, ◌∙◌, inl, inr, arith, append_assoc, length-append, Contains, append-nil}
use Rattle.proto_base.proofs.Common.{both_ways, contains_map}
use Rattle.proto_case.specs.Camel.{entry_name}
use Rattle.proto_files.proofs.Common.{HasNoFault, FileOf, ReadOf, AreRead}
use Rattle.proto_names_rules.specs.declared.kind.Kind.{Kind}
use Rattle.proto_names_rules.specs.declared.kind.Kind.TheVariants.{Package, Message, Entry, Enum, Service, Field, EntryField, Oneof, Value, Method, Extension}
use Rattle.proto_names_rules.specs.Names.{is_extension}
use Rattle.proto_names_rules.specs.declared.wants.Wants.{Wants}
use Rattle.proto_names_rules.specs.declared.wants.Wants.TheVariants as wants
use Rattle.proto_names_rules.proofs.Common.{Renaming, target, At, IsLinked, Symbol, Workspace, is_outer, is_type, may_resolve_to, meaning, Token, Used, name_of, reference_of, spell, symbol_of, name_from_same, map_append, has_meaning, meant, front_or_same, one_symbol}
use Rattle.proto_names_imports.specs.Links.{LinkFaults, link_skeleton, names_of_files, text_of}
use Rattle.proto_edit_rename_laws.proofs.Common.{front_of as front_before, standing, Target, IsNamed, may_rename, name_map, files_are_linked, from_flat_map, stands_at, meaning_parts}
use Rattle.proto_edit_rename.specs.StandingTokens.{may_be_referred}

outer_referred : (k : Kind) → is_outer k ≡ true → may_be_referred k ≡ true
outer_referred k h = ap (λ (b : Bool). b || is_extension k) h

type_referred : (k : Kind) → is_type k ≡ true → may_be_referred k ≡ true
type_referred Message h = refl
type_referred Entry h = refl
type_referred Enum h = refl
type_referred Package h = absurd cc
type_referred Service h = absurd cc
type_referred Field h = absurd cc
type_referred EntryField h = absurd cc
type_referred Oneof h = absurd cc
type_referred Value h = absurd cc
type_referred Method h = absurd cc
type_referred Extension h = absurd cc

extension_referred : (k : Kind) → is_extension k ≡ true → may_be_referred k ≡ true
extension_referred Extension h = refl
extension_referred Message h = absurd cc
extension_referred Entry h = absurd cc
extension_referred Enum h = absurd cc
extension_referred Package h = absurd cc
extension_referred Service h = absurd cc
extension_referred Field h = absurd cc
extension_referred EntryField h = absurd cc
extension_referred Oneof h = absurd cc
extension_referred Value h = absurd cc
extension_referred Method h = absurd cc

wanted_referred : (what : Wants) (k : Kind) → may_resolve_to what k ≡ true → may_be_referred k ≡ true
wanted_referred wants.Type k h = type_referred k h
wanted_referred wants.Message k h = type_referred k h
wanted_referred wants.Extension k h = extension_referred k h

module _ (files : List FileOf) (reads : List ReadOf) (linked : IsLinked (names_of_files files reads)) (name to : List ℕ) (t : Target) (named : IsNamed files reads name t) where
  abbrev e : Renaming
  e = name_map files reads t to

  abbrev w : Workspace
  w = names_of_files files reads

  abbrev text : At → List ℕ
  text = text_of files reads

  abbrev aim_symbol : Symbol
  aim_symbol = symbol_of (text_of files reads) entry_name t.aim

  there : Contains w.symbols aim_symbol
  there = contains_map (symbol_of text entry_name) (link_skeleton files reads).declared t.aim named.within

  aim_name : aim_symbol.name ≡ target e
  aim_name = ap (name_of text entry_name) named.path ∙ map_append (spell text entry_name) t.above (Token t.token ∷ [])

  no_package : t.aim.kind ≢ Package
  no_package z = differ (sym named.kind ∙ ap may_rename z)
    where
      differ : true ≡ false → ⊥
      differ z = cc

  -- a front of what a reference may mean, or that itself
  referred : (s : Symbol) → Contains w.symbols s → may_be_referred s.kind ≡ true → (rest : List (List ℕ)) → s.name ≡ target e ++ rest → may_be_referred t.aim.kind ≡ true
  referred s cs may rest n = elim (front_or_same w.symbols linked.nested (target e) rest s cs n (omega (arith, length-append e.parent (e.old ∷ [])))) [
    | inl none ↦ elim (one_symbol w.symbols linked.unique s aim_symbol cs there (n ∙ ap (λ z. target e ++ z) none ∙ append-nil (target e) ∙ sym aim_name)) [
      | inl same ↦ sym (ap (λ (z : Symbol). may_be_referred z.kind) same) ∙ may
      | inr both ↦ absurd (no_package both.1)
    ]
    | inr front ↦ elim (one_symbol w.symbols linked.unique front.it aim_symbol front.within there (front.name ∙ sym aim_name)) [
      | inl same ↦ sym (ap (λ (z : Symbol). may_be_referred z.kind) same) ∙ outer_referred front.it.kind front.outer
      | inr both ↦ absurd (no_package both.1)
    ]
  ]

  stands_for_referred : (u : Used At) → Contains (link_skeleton files reads).used u → (i : At) → Contains (standing text (link_skeleton files reads) e u) i → may_be_referred t.aim.kind ≡ true
  stands_for_referred u cu i ci =
      let r = reference_of text entry_name u in
      let cr = contains_map (reference_of text entry_name) (link_skeleton files reads).used u cu in
      let m = has_meaning (meaning w r) (linked.resolved r cr) in
      let s = meant w r m.0 m.1 in
      let front = front_before text (link_skeleton files reads) u in
      let st = stands_at e text front u.tokens i ci in
      let words : map text u.tokens ≡ map text st.before ++ text i ∷ map text st.behind = ap (map text) st.parts ∙ map_append text st.before (i ∷ st.behind) in
      let is_target = name_from_same ((front ++ map text st.before) ++ text i ∷ []) (target e) st.same in
      let whole : s.0.name ≡ target e ++ map text st.behind =
      s.2 ∙ meaning_parts w r m.0 m.1 ∙ ap (λ z. front ++ z) words
      ∙ sym (append_assoc front (map text st.before) (text i ∷ map text st.behind))
      ∙ sym (append_assoc (front ++ map text st.before) (text i ∷ []) (map text st.behind))
      ∙ ap (λ z. z ++ map text st.behind) is_target in
      referred s.0 s.1 (wanted_referred u.wants s.0.kind s.3) (map text st.behind) whole

pub none_stands : (files : List FileOf) (reads : List ReadOf) → AreRead files reads → HasNoFault (LinkFaults files) → (name to : List ℕ) (t : Target) → IsNamed files reads name t → may_be_referred t.aim.kind ≡ false
    → (i : At) → Contains (flat_map (standing (text_of files reads) (link_skeleton files reads) (name_map files reads t to)) (link_skeleton files reads).used) i → ⊥
none_stands files reads are clean name to t named inner i c =
    let u = from_flat_map (standing (text_of files reads) (link_skeleton files reads) (name_map files reads t to)) (link_skeleton files reads).used i c in
    both_ways (may_be_referred t.aim.kind) inner (stands_for_referred files reads (files_are_linked files reads are clean) name to t named u.0 u.1 i u.2)
