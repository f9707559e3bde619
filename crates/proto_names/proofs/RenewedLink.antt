-- A link that was changed in place, as far as its files were edited, is the link of the files that are there now.
use Rattle.std.proofs.Common.{◌≡◌, ℕ, ◌<◌, Bool, true, false, List, [], length, get_or, map, sym, ◌∙◌, ap, subst, inl, inr, arith, Contains}
use Rattle.proto_base.proofs.Common.{All-contains, Vec, cases_Bool, contains_map, length-map}
use Rattle.proto_files.proofs.Common.{FileOf, HasNoFault, ReadOf, read_once}
use Rattle.proto_names_imports.proofs.Common.{LinkFaults, link_skeleton, names_of_files, text_of}
use Rattle.proto_names_rules.specs.Kept.{IsFlawless}
use Rattle.proto_names_rules.proofs.Common.{IsLinked, Reference, Workspace}
use Rattle.proto_names.proofs.LinkMeanings.{is_meant_in}
use Rattle.proto_names.proofs.LinkParts.{is_link}
use Rattle.proto_names.proofs.NamesOfRows.{declared_by}
use Rattle.proto_names.proofs.RenewedMeanings.{file_means_the_same, flawless_from, reference_from}
use Rattle.proto_names.proofs.Unmeant.{no_references}
use Rattle.proto_names.specs.Common.{AreFileMeant, IsFaultless, IsLinkBy, IsLinkRead, LinkOf, Meant, all_meant, references_to, uses_of, word_key}
use Rattle.proto_names.specs.LinkOfFiles.{IsLinkOf, IsMeantIn}
use Rattle.proto_names.specs.Renewed.{AreMeantAgain, AreNamesRenewed, IsMadeOf, IsTableOf}
use Rattle.proto_names.specs.Sight.{IsSightOf}
use Rattle.proto_names_update.proofs.Clean.{linked, relinked_are_clean}
use Rattle.proto_names_update.proofs.Differing.{as_many}
use Rattle.proto_names_update.specs.Relinked.{HasToLook}
use Rattle.proto_names_table.proofs.Common.{used_named}
use Rattle.proto_names_table.specs.declared.table.Table.{Table}

module _ (places : List ℕ) (marks : List Bool) (before : List FileOf) (was : List ReadOf) (l : LinkOf) (old : Table) (rows_before : List (Vec ℕ)) (files : List FileOf) (reads : List ReadOf) (t : Table) (rows : List (Vec ℕ)) (meant : List (List Meant))
    (of : IsTableOf before was l old rows_before) (is : AreNamesRenewed places before was old files reads t rows) (seen : List (List Bool)) (sight : IsSightOf files reads seen) (look : HasToLook word_key places before was files reads marks) (again : AreMeantAgain marks t files reads l.meant meant) where
  abbrev w : Workspace
  w = names_of_files before was

  abbrev v : Workspace
  v = names_of_files files reads

  -- ---- no fault

  -- the references of marked files have none
  flawless : (r : Reference) → Contains v.references r → get_or marks r.file false ≡ true → IsFlawless v r
  flawless r c marked =
      let x = reference_from files reads r c in
      let own = again.marked r.file (omega (arith, x.there, is.edited.are_read.same)) marked in
      let named = used_named (text_of files reads) r.file in
      flawless_from v r (subst (IsFaultless v) x.is (All-contains (IsFaultless v) (map named (uses_of reads r.file)) (named x.use_of) own.faultless (contains_map named (uses_of reads r.file) x.use_of x.within)))

  pub renewed_are_clean : HasNoFault (LinkFaults files)
  renewed_are_clean = relinked_are_clean word_key places before was files reads marks is.edited of.clean look sight.sound is.apart flawless

  linked_now : IsLinked v
  linked_now = linked files reads is.edited.are_read renewed_are_clean

  -- ---- what each file's references mean

  means : (file : ℕ) → file < length files → AreFileMeant t files reads file (get_or meant file [])
  means file lf = elim (cases_Bool (get_or marks file false)) [
    | inl marked ↦ again.marked file lf marked
    | inr left ↦
        let lb : file < length before = omega (arith, lf, as_many places before was files reads is.edited) in
        subst (AreFileMeant t files reads file) (sym (again.others file lf left))
        (file_means_the_same places before was files reads marks is.edited look file lf left of.clean l old t of.names is.numbers linked_now (of.link.means file lb))
  ]

  -- ---- the link

  module _ (new : LinkOf) (made : IsMadeOf files reads t rows seen meant new) where
    by : IsLinkBy (text_of files reads) (link_skeleton files reads) new
    by = is_link files reads is.edited.are_read t is.table rows is.names seen meant new made.names made.sight sight.count again.count made.paired sight.between sight.marks means made.references

    meant_in : (file : ℕ) → file < length files → IsMeantIn files reads new file
    meant_in file lf =
        is_meant_in files reads t is.table new made.names is.names.index is.edited.are_read file lf
        (subst (λ (ms : List (List Meant)). AreFileMeant t files reads file (get_or ms file [])) made.meanings (means file lf))

    pub renewed_link : IsLinkRead files reads new
    renewed_link =
        let lists = ap length (sym made.meanings) ∙ again.count in
        record {
          by = by;
          imported = made.imports.count;
          imports = made.imports.same;
          listed = ap length (sym made.declared) ∙ length-map rows (λ v. v.items) ∙ is.listed;
          declares = declared_by files reads t new made.names rows is.names is.listed is.within made.declared;
          lists = lists;
          means = meant_in;
          unmeant = λ row none.
              made.references row
              ∙ ap (λ (ms : List (List Meant)). references_to row (all_meant 0 ms)) made.meanings
              ∙ no_references new row none (λ file lf. (meant_in file (omega (arith, lf, lists))).within);
        }

    -- files are read in one way
    pub renewed_link_of : IsLinkOf files new
    renewed_link_of others are = subst (λ (rs : List ReadOf). IsLinkRead files rs new) (sym (read_once files others reads are is.edited.are_read)) renewed_link
