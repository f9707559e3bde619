-- What a name aims at, and the token that declares it.
use Rattle.std.proofs.Common.{◌≡◌, ◌↔◌, ℕ, Bool, List, [], ◌∷◌, ◌++◌, IsTrue, sym, ap, ap₂, subst, ◌∙◌, inl, inr, Contains, true≢false}
use Rattle.proto_base.proofs.Common.{contains_map}
use Rattle.proto_case.specs.Camel.{entry_name}
use Rattle.proto_files.proofs.Common.{HasNoFault, FileOf, ReadOf, AreRead}
use Rattle.proto_names_rules.proofs.Common.{At, at, Symbol, Token, joined, name_of, joined_apart, one_symbol, symbol_of}
use Rattle.proto_names_imports.proofs.Common.{LinkFaults, link_skeleton, names_of_files, text_of, names_are_plain}
use Rattle.proto_edit_rename_laws.proofs.Common.{IsNamed, Target, may_rename, files_are_linked, files_are_woven, targets_are_one}
use Rattle.proto_edit_captures.specs.FoundTargets.{IsTargetOf, IsNoTarget}
use Rattle.proto_edit_captures.specs.declared.rename_target.RenameTarget.{RenameTarget}
use Rattle.proto_edit_captures.specs.declared.rename_target.NoTarget.TheVariants as no_target
use Rattle.proto_names_at.specs.NamesAt.{DeclaresName, HasTarget}

-- ---- a name that aims at nothing

pub target_symbol : (files : List FileOf) (reads : List ReadOf) (name : List ℕ) (t : Target) → IsNamed files reads name t → Contains (names_of_files files reads).symbols (symbol_of (text_of files reads) entry_name t.aim)
target_symbol files reads name t named = contains_map (symbol_of (text_of files reads) entry_name) (link_skeleton files reads).declared t.aim named.within

pub unknown_has_none : (files : List FileOf) (name : List ℕ) → IsNoTarget files name no_target.Unknown → (reads : List ReadOf) → AreRead files reads → HasTarget files reads name → ⊥
unknown_has_none files name h reads are t = h reads are (symbol_of (text_of files reads) entry_name t.0.aim) (target_symbol files reads name t.0 t.1) t.1.name_is

pub not_allowed_has_none : (files : List FileOf) → HasNoFault (LinkFaults files) → (name : List ℕ) → IsNoTarget files name no_target.NotAllowed → (reads : List ReadOf) → AreRead files reads → HasTarget files reads name → ⊥
not_allowed_has_none files clean name h reads are t =
    let m = h reads are in
    let s = symbol_of (text_of files reads) entry_name t.0.aim in
    let cs = target_symbol files reads name t.0 t.1 in
    let same = joined_apart s.name m.symbol.name (names_are_plain files reads are s cs) (names_are_plain files reads are m.symbol m.within) (t.1.name_is ∙ sym m.name_is) in
    elim (one_symbol (names_of_files files reads).symbols (files_are_linked files reads are clean).unique s m.symbol cs m.within same) [
      | inl one ↦ true≢false (sym t.1.kind ∙ ap (λ (z : Symbol). may_rename z.kind) one ∙ m.kind)
      | inr both ↦ true≢false (sym t.1.kind ∙ ap may_rename both.0)
    ]

-- ---- a name that aims at something

pub aimed_has_one : (files : List FileOf) (name : List ℕ) (a : RenameTarget) → IsTargetOf files a → a.name.now ≡ name → (reads : List ReadOf) → AreRead files reads → HasTarget files reads name
aimed_has_one files name a is named reads are = let t = is reads are in (t.0, subst (λ n. IsNamed files reads n t.0) named t.1.named)

pub declared_here : (files : List FileOf) → HasNoFault (LinkFaults files) → (name : List ℕ) (a : RenameTarget) → IsTargetOf files a → a.name.now ≡ name → (place : At) (b : Bool) → IsTrue b ↔ ((a.file ≡ place.file) × (a.token ≡ place.token)) → (reads : List ReadOf) → AreRead files reads → IsTrue b ↔ DeclaresName files reads place name
declared_here files clean name a is named place b test reads are =
    let t = is reads are in
    let mine : IsNamed files reads name t.0 = subst (λ n. IsNamed files reads n t.0) named t.1.named in (
      λ h. (let e = test.0 h in (t.0, mine, sym t.1.token ∙ ap₂ (λ (x y : ℕ). at x y) e.0 e.1)),
      λ d. (let e : at a.file a.token ≡ place = t.1.token ∙ ap (λ (z : Target). z.token) (targets_are_one files reads name t.0 d.0 are clean mine d.1) ∙ d.2 in
          test.1 (ap (λ (z : At). z.file) e, ap (λ (z : At). z.token) e)),
    )

-- ---- one token declares one name

pub one_declared : (files : List FileOf) (reads : List ReadOf) → AreRead files reads → (a : At) (m n : List ℕ) → DeclaresName files reads a m → DeclaresName files reads a n → m ≡ n
one_declared files reads are a m n x y =
    let above = (files_are_woven files reads are).tokens x.0.aim y.0.aim x.1.within y.1.within x.0.above y.0.above a (x.1.path ∙ last x.0 x.2) (y.1.path ∙ last y.0 y.2) in
    let path = x.1.path ∙ last x.0 x.2 ∙ ap (λ z. z ++ Token a ∷ []) above ∙ sym (y.1.path ∙ last y.0 y.2) in
    sym x.1.name_is ∙ ap (λ z. joined (name_of (text_of files reads) entry_name z)) path ∙ y.1.name_is
  where
    last : (t : Target) → t.token ≡ a → t.above ++ Token t.token ∷ [] ≡ t.above ++ Token a ∷ []
    last t e = ap (λ z. t.above ++ Token z ∷ []) e
