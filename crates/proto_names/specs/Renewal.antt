-- A link of its parts, and the parts as they were before the changes of a log.
use Rattle.std.specs.Prelude.{◌≡◌, ℕ, ◌<◌, ◌≤◌, Bool, List, length, map, take}
use Rattle.std.specs.Global.{Vec}
use Rattle.std.specs.List.{All}
use Rattle.proto_files.specs.FilesRead.{AreRead, ReadOf}
use Rattle.proto_files.specs.GivenFiles.{FileOf}
use Rattle.proto_names_imports.specs.declared.import.FileImport.{FileImport}
use Rattle.proto_base.specs.Undone.{AreWithin, undone, with_values}
use Rattle.proto_base.specs.declared.changes.Change.{Change}
use Rattle.proto_names_table.specs.declared.ids.Meant.{Meant}
use Rattle.proto_names_table.specs.declared.ids.RefId.{RefId}
use Rattle.proto_names_update.specs.NameLogs.{Fits, SeenTable, undone_table}
use Rattle.proto_names_update.specs.RenewedNames.{AreRenewed}
use Rattle.proto_names.specs.LinkOfFiles.{IsLinkOf}
use Rattle.proto_names.specs.Linking.{LinkOf, name_of_row}
use Rattle.proto_names.specs.Sight.{IsSightOf, StayBut}
use Rattle.proto_names.specs.declared.link_log.DeclarationLog.{DeclarationLog}
use Rattle.proto_names.specs.declared.link_log.ResolutionLog.{ResolutionLog}
use Rattle.proto_names.specs.declared.parts.Declarations.{Declarations}
use Rattle.proto_names.specs.declared.parts.Resolutions.{Resolutions}
use Rattle.proto_names_update.specs.Relinked.{WasLink}
use Rattle.proto_names_table.specs.declared.table.Table.{Table}

-- the link of these parts
abbrev pub link_of_parts : Table → List (Vec FileImport) → List (Vec ℕ) → List (List Bool)
    → List (Vec Meant) → List (Vec RefId) → LinkOf
link_of_parts t imports rows seen meant references = record {
  names = map name_of_row t.rows.items;
  imports = map (λ v. v.items) imports;
  rows = map (λ v. v.items) rows;
  seen = seen;
  meant = map (λ v. v.items) meant;
  references = map (λ v. v.items) references;
}

-- these declarations and resolutions, with the marks of what each file saw, are those of a link of
-- files of which these are the same but at these places; these are the marks of what each file sees
-- now, and all but those of these others are as they were
pub record IsSightRenewed (places : List ℕ) (files : List FileOf) (d : Declarations)
    (r : Resolutions) (saw seen : List (List Bool)) (others : List ℕ) : Type 0 where
  pub imports_before : List (Vec FileImport)
  pub link : WasLink IsLinkOf files places (link_of_parts d.table imports_before d.rows.items saw
      r.meant.items r.references.items)
  pub sight : (reads : List ReadOf) → AreRead files reads
      → IsSightOf files reads seen
  pub kept : StayBut others saw seen

-- the names of the files at these places are renewed in the table, and these are the rows of each
-- file's declarations before and now
pub record AreRowsRenewed (places : List ℕ) (files : List FileOf) (old new : Table)
    (before now : List (Vec ℕ)) : Type 0 where
  pub renewed : List (Vec ℕ)
  pub names : AreRenewed places files old new (map (λ v. v.items) before)
      (map (λ v. v.items) renewed)
  pub rows : now ≡ with_values before places renewed

-- what references mean is below so many rows, now and before these changes
pub record AreMeantBelow (count : ℕ) (log : List (Change (Vec Meant))) (meant : List (Vec Meant))
    : Type 0 where
  pub now : All (λ v. All (λ m. m.row < count) v.items) meant
  pub before : All (λ c. All (λ m. m.row < count) c.was.items) log

-- the log is one of these declarations: what it changed is there
pub record DeclarationsFit (log : DeclarationLog) (d : Declarations) : Type 0 where
  pub table : Fits log.table d.table
  pub rows : AreWithin (length d.rows.items) log.rows.items

-- the log is one of these resolutions: what it changed is there, and what there was
pub record ResolutionsFit (log : ResolutionLog) (r : Resolutions) : Type 0 where
  pub meant : AreWithin (length r.meant.items) log.meant.items
  pub references : AreWithin (length r.references.items) log.references.items
  pub count : log.count ≤ length r.references.items

-- declarations as they were when a log began
pub record DeclarationsBefore : Type 0 where
  pub table : SeenTable
  pub rows : List (Vec ℕ)

abbrev pub undone_declarations : DeclarationLog → Declarations → DeclarationsBefore
undone_declarations log d = record {
  table = undone_table log.table d.table;
  rows = undone log.rows.items d.rows.items;
}

-- resolutions as they were when a log began
pub record ResolutionsBefore : Type 0 where
  pub meant : List (Vec Meant)
  pub references : List (Vec RefId)

abbrev pub undone_resolutions : ResolutionLog → Resolutions → ResolutionsBefore
undone_resolutions log r = record {
  meant = undone log.meant.items r.meant.items;
  references = take log.count (undone log.references.items r.references.items);
}
