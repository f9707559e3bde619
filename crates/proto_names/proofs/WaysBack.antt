-- A link whose parts are as they were again, and one that was changed in place.
use Rattle.std.proofs.Common.{◌≡◌, ◌<◌, List, [], ◌∷◌, length, get_or, map, sym, ◌∙◌, ap, subst, arith, cond, take, All, AllPairs}
use Rattle.std.proofs.lemmas.List.{take_all}
use Rattle.proto_base.proofs.Common.{Vec, get_or-map, length-map}
use Rattle.proto_files.specs.FilesRead.{AreRead, ReadOf}
use Rattle.proto_files.specs.GivenFiles.{FileOf}
use Rattle.proto_base.specs.Undone.{undone}
use Rattle.proto_names_update.specs.NameLogs.{seen_of, undone_table}
use Rattle.proto_names.specs.Common.{LinkOf, Meant, name_of_row}
use Rattle.proto_names.specs.LinkOfFiles.{IsLinkOf}
use Rattle.proto_names.specs.Renewal.{DeclarationsBefore, ResolutionsBefore, undone_declarations, undone_resolutions}
use Rattle.proto_names.specs.declared.link_log.DeclarationLog.{DeclarationLog}
use Rattle.proto_names.specs.declared.link_log.ResolutionLog.{ResolutionLog}
use Rattle.proto_names.specs.declared.parts.Declarations.{Declarations}
use Rattle.proto_names.specs.declared.parts.Resolutions.{Resolutions}
use Rattle.proto_names_table.proofs.Alike.{through}
use Rattle.proto_names_table.specs.Tables.{IsUnchanged, row_of}
use Rattle.proto_names_table.specs.declared.table.Table.{Table}

-- in a link of files the references of each file stand by their first tokens
pub lists_rise : (files : List FileOf) (reads : List ReadOf) (l : LinkOf) → AreRead files reads → IsLinkOf files l → (meant : List (Vec Meant)) → map (λ v. v.items) meant ≡ l.meant → All (λ v. AllPairs (λ m n. m.token < n.token) v.items) meant
lists_rise files reads l are is meant same k d lk =
    let r = is reads are in
    let lf : k < length files = omega (arith, lk, length-map meant (λ v. v.items), ap length same, r.lists) in
    subst (AllPairs (λ m n. m.token < n.token)) (ap (λ (z : List (List Meant)). get_or z k []) (sym same) ∙ get_or-map (λ v. v.items) meant k d [] lk) (r.means k lf).rising

-- ---- a table that is unchanged

module _ (old new : Table) (unchanged : IsUnchanged old new) where
  pub names_unchanged : map name_of_row new.rows.items ≡ map name_of_row old.rows.items
  names_unchanged =
      through (λ s. record { text = s.0; kind = s.1.kind; files = cond s.4 (s.1.file ∷ s.3) []; token = s.1.token }) row_of new.rows.items
      ∙ ap (map (λ s. record { text = s.0; kind = s.1.kind; files = cond s.4 (s.1.file ∷ s.3) []; token = s.1.token })) unchanged.rows
      ∙ sym (through (λ s. record { text = s.0; kind = s.1.kind; files = cond s.4 (s.1.file ∷ s.3) []; token = s.1.token }) row_of old.rows.items)

  pub size_unchanged : length new.rows.items ≡ length old.rows.items
  size_unchanged = sym (length-map new.rows.items row_of) ∙ ap length unchanged.rows ∙ length-map old.rows.items row_of

-- ---- the parts without the changes of a log that began with none

module _ (first last : DeclarationLog) (was now : Declarations) (same : undone_declarations last now ≡ undone_declarations first was) where
  pub table_back : undone_table first.table was.table ≡ seen_of was.table → undone_table last.table now.table ≡ seen_of was.table
  table_back is = ap (λ (d : DeclarationsBefore). d.table) same ∙ is

  pub rows_back : first.rows.items ≡ [] → undone last.rows.items now.rows.items ≡ was.rows.items
  rows_back no_rows = ap (λ (d : DeclarationsBefore). d.rows) same ∙ ap (λ log. undone log was.rows.items) no_rows

module _ (first last : ResolutionLog) (was now : Resolutions) (same : undone_resolutions last now ≡ undone_resolutions first was) where
  pub meant_back : first.meant.items ≡ [] → undone last.meant.items now.meant.items ≡ was.meant.items
  meant_back no_meant = ap (λ (r : ResolutionsBefore). r.meant) same ∙ ap (λ log. undone log was.meant.items) no_meant

  pub references_back : first.references.items ≡ [] → first.count ≡ length was.references.items → take last.count (undone last.references.items now.references.items) ≡ was.references.items
  references_back no_references count =
      ap (λ (r : ResolutionsBefore). r.references) same ∙ ap (λ log. take first.count (undone log was.references.items)) no_references
      ∙ take_all first.count was.references.items (omega (arith, count))
