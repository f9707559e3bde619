-- The target of a name is what was aimed at.
use Rattle.std.proofs.Common.{◌≡◌, true, false, List, sym, ap, subst, ◌∙◌, inl, inr, Contains}
use Rattle.proto_case.specs.Camel.{entry_name}
use Rattle.proto_base.proofs.Lists.{contains_map}
use Rattle.proto_files.proofs.Common.{HasNoFault, ReadOf, AreRead, FileOf}
use Rattle.proto_names_rules.proofs.Common.{joined, Symbol, symbol_of, joined_apart, one_symbol}
use Rattle.proto_names_imports.proofs.Common.{LinkFaults, link_skeleton, names_of_files, text_of, names_are_plain}
use Rattle.proto_edit_rename_laws.proofs.Common.{Target, IsNamed, may_rename, files_are_linked, targets_are_one}
use Rattle.proto_edit_captures.specs.FoundTargets.{IsTargetOf, IsFoundTarget}
use Rattle.proto_edit_captures.specs.declared.rename_target.RenameTarget.{RenameTarget}

module _ (files : List FileOf) (reads : List ReadOf) (r : AreRead files reads) (clean : HasNoFault (LinkFaults files)) where
  pub aimed_one : (a : RenameTarget) → IsTargetOf files a → (t : Target) → IsNamed files reads a.name.now t → IsFoundTarget files reads a t
  aimed_one a aim t named = let u = aim reads r in subst (IsFoundTarget files reads a) (targets_are_one files reads a.name.now u.0 t r clean u.1.named named) u.1

  -- each symbol of the target's name may be renamed
  pub same_kind : (name : List _) (t : Target) → IsNamed files reads name t → (s : Symbol) → Contains (names_of_files files reads).symbols s → joined s.name ≡ name → may_rename s.kind ≡ true
  same_kind name t named s cs e =
      let u = symbol_of (text_of files reads) entry_name t.aim in
      let cu = contains_map (symbol_of (text_of files reads) entry_name) (link_skeleton files reads).declared t.aim named.within in
      let same = joined_apart s.name u.name (names_are_plain files reads r s cs) (names_are_plain files reads r u cu) (e ∙ sym named.name_is) in
      elim (one_symbol (names_of_files files reads).symbols (files_are_linked files reads r clean).unique s u cs cu same) [
        | inl one ↦ ap (λ (z : Symbol). may_rename z.kind) one ∙ named.kind
        | inr both ↦ absurd (differ (ap may_rename (sym both.1) ∙ named.kind))
      ]
    where
      differ : false ≡ true → ⊥
      differ z = cc
