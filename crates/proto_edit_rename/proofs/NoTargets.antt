-- What is answered of a name: that no symbol which may be renamed has it, or the tokens for its target.
use Rattle.std.proofs.Common.{◌≡◌, List, ℕ, length, Some, sym, ap, subst, ◌∙◌, inl, inr}
use Rattle.std.specs.Global.{Vec}
use Rattle.proto_files.proofs.Common.{HasNoFault, FileOf}
use Rattle.proto_names_imports.proofs.Common.{LinkFaults, names_of_files, names_are_plain}
use Rattle.proto_names_rules.proofs.Common.{Symbol, joined_apart, one_symbol}
use Rattle.proto_edit_rename_laws.proofs.Common.{IsNamed, may_rename, files_are_linked}
use Rattle.proto_edit_rename.specs.Common.{AreOccurrencesOf, AreOccurrencesOfName, HasNoTarget}
use Rattle.proto_edit_rename.specs.declared.file_occurrences.FileOccurrences.{FileOccurrences}
use Rattle.proto_edit_captures.specs.FoundTargets.{IsTargetOf, IsNoTarget}
use Rattle.proto_edit_captures.specs.declared.rename_target.RenameTarget.{RenameTarget}
use Rattle.proto_edit_captures.specs.declared.rename_target.NoTarget.TheVariants as no_target

pub none_has_it : (files : List FileOf) (name : List ℕ) → IsNoTarget files name no_target.Unknown → HasNoTarget files name
none_has_it files name h reads r s cs e = absurd (h reads r s cs e)

pub none_may_be_renamed : (files : List FileOf) → HasNoFault (LinkFaults files) → (name : List ℕ) → IsNoTarget files name no_target.NotAllowed → HasNoTarget files name
none_may_be_renamed files clean name h reads r s cs e =
    let m = h reads r in
    let same = joined_apart s.name m.symbol.name (names_are_plain files reads r s cs) (names_are_plain files reads r m.symbol m.within) (e ∙ sym m.name_is) in
    elim (one_symbol (names_of_files files reads).symbols (files_are_linked files reads r clean).unique s m.symbol cs m.within same) [
      | inl one ↦ ap (λ (z : Symbol). may_rename z.kind) one ∙ m.kind
      | inr both ↦ ap may_rename both.0
    ]

pub of_name : (files : List FileOf) (a : RenameTarget) (name : List ℕ) → IsTargetOf files a → a.name.now ≡ name → (found : Vec FileOccurrences) → AreOccurrencesOf files a (length files) found.items → AreOccurrencesOfName files name (Some found)
of_name files a name aim named found h reads r =
    let t = aim reads r in
    (t.0, subst (λ n. IsNamed files reads n t.0) named t.1.named, h reads r t.0 t.1)
