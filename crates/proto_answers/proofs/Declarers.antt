-- What has a name that may be renamed, and the token that declares it.
use Rattle.std.proofs.Common.{◌≡◌, List, ◌++◌, flat_map, sym, ap, subst, ◌∙◌, inl, inr, Contains, true≢false, Some, None}
use Rattle.std.specs.List.{list_any}
use Rattle.proto_base.proofs.Common.{Text, cond-true, contains_head, contains_map}
use Rattle.proto_case.specs.Camel.{entry_name}
use Rattle.proto_files.proofs.Common.{AreRead, FileOf, HasNoFault, ReadOf}
use Rattle.proto_names_rules.proofs.Common.{At, Symbol, at, joined_apart, one_symbol, symbol_of}
use Rattle.proto_names_imports.proofs.Common.{LinkFaults, link_skeleton, names_are_plain, names_of_files, text_of}
use Rattle.proto_edit_captures.specs.FoundTargets.{IsNoTarget, IsTargetOf}
use Rattle.proto_edit_captures.specs.declared.rename_target.NoTarget.TheVariants as no_target
use Rattle.proto_edit_captures.specs.declared.rename_target.RenameTarget.{RenameTarget}
use Rattle.proto_edit_rename.specs.Occurrences.{HasNoTarget}
use Rattle.proto_edit_rename_laws.proofs.Common.{IsNamed, Target, files_are_linked, listed, may_rename, name_map, renamed_defaults, renamed_places, same_at, standing, targets_are_one}
use Rattle.proto_names_at.specs.NamesAt.{DeclaresName, StandsFor}
use Rattle.proto_answers.specs.Declaring.{MayBeRenamed}

-- ---- a name that may be renamed has a target

symbol_there : (files : List FileOf) (reads : List ReadOf) (name : Text) (t : Target) → IsNamed files reads name t → Contains (names_of_files files reads).symbols (symbol_of (text_of files reads) entry_name t.aim)
symbol_there files reads name t named = contains_map (symbol_of (text_of files reads) entry_name) (link_skeleton files reads).declared t.aim named.within

pub not_unknown : (files : List FileOf) (name : Text) → MayBeRenamed files name → IsNoTarget files name no_target.Unknown → ⊥
not_unknown files name (reads, are, t) none =
    none reads are (symbol_of (text_of files reads) entry_name t.0.aim) (symbol_there files reads name t.0 t.1) t.1.name_is

pub not_forbidden : (files : List FileOf) → HasNoFault (LinkFaults files) → (name : Text) → MayBeRenamed files name → IsNoTarget files name no_target.NotAllowed → ⊥
not_forbidden files clean name (reads, are, t) none =
    let m = none reads are in
    let s = symbol_of (text_of files reads) entry_name t.0.aim in
    let cs = symbol_there files reads name t.0 t.1 in
    let same = joined_apart s.name m.symbol.name (names_are_plain files reads are s cs) (names_are_plain files reads are m.symbol m.within) (t.1.name_is ∙ sym m.name_is) in
    elim (one_symbol (names_of_files files reads).symbols (files_are_linked files reads are clean).unique s m.symbol cs m.within same) [
      | inl one ↦ true≢false (sym t.1.kind ∙ ap (λ (z : Symbol). may_rename z.kind) one ∙ m.kind)
      | inr both ↦ true≢false (sym t.1.kind ∙ ap may_rename both.0)
    ]

pub not_without : (files : List FileOf) (name : Text) → MayBeRenamed files name → HasNoTarget files name → ⊥
not_without files name (reads, are, t) none = true≢false (sym t.1.kind ∙ none reads are (symbol_of (text_of files reads) entry_name t.0.aim) (symbol_there files reads name t.0 t.1) t.1.name_is)

-- the token of the target declares it
pub target_declares : (files : List FileOf) (name : Text) (a : RenameTarget) → IsTargetOf files a → a.name.now ≡ name → (reads : List ReadOf) → AreRead files reads → DeclaresName files reads (at a.file a.token) name
target_declares files name a is named reads are = let t = is reads are in (t.0, subst (λ (n : Text). IsNamed files reads n t.0) named t.1.named, sym t.1.token)

-- ---- declaring tokens

module _ (files : List FileOf) (reads : List ReadOf) where
  abbrev others : Target → Text → List At
  others t to =
      flat_map (standing (text_of files reads) (link_skeleton files reads) (name_map files reads t to)) (link_skeleton files reads).used
      ++ renamed_defaults files reads t.enum (name_map files reads t to).old

  abbrev places : Target → Text → List At
  places t to = renamed_places (text_of files reads) (link_skeleton files reads) (name_map files reads t to) t.token (renamed_defaults files reads t.enum (name_map files reads t to).old)

  -- one that declares a name stands for it
  pub declaring_stands : (a : At) (name : Text) → DeclaresName files reads a name → StandsFor files reads a name
  declaring_stands a name (t, named, is) =
      (t, named, λ to. cond-true (list_any (same_at a) (places t to)) (Some to) None (listed a (places t to) (subst (Contains (places t to)) is (contains_head t.token (others t to)))))

  -- one token alone declares it
  pub one_declaring : AreRead files reads → HasNoFault (LinkFaults files) → (name : Text) (a b : At) → DeclaresName files reads a name → DeclaresName files reads b name → a ≡ b
  one_declaring are clean name a b x y = sym x.2 ∙ ap (λ (t : Target). t.token) (targets_are_one files reads name x.0 y.0 are clean x.1 y.1) ∙ y.2
