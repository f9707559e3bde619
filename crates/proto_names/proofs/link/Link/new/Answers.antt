use Rattle.std.proofs.Common.{List, [], ℕ, ◌<◌, length, get_or, map, sym, ◌∙◌, ap, subst, ◌≡◌, arith}
use Rattle.proto_base.proofs.Common.{Vec, length-map, err_from_is_err_and}
use Rattle.proto_files.specs.FilesRead.{Each}
use Rattle.proto_names_outline.specs.declared.listing.Listing.{Listing}
use Rattle.proto_names.specs.Common.{AreFileMeant, LinkOf, all_meant, name_of_row, references_to, Meant}
use Rattle.proto_names_imports.proofs.Common.{all_imports, AreListings, no_fault}
use Rattle.proto_names.proofs.LinkMeanings.{all_tokens_rise, is_meant_in}
use Rattle.proto_names.proofs.LinkParts.{is_link}
use Rattle.proto_names.proofs.NamesOfRows.{declared_by}
use Rattle.proto_names.proofs.Unmeant.{no_references}
use Rattle.proto_names.specs.LinkOfFiles.{IsMeantIn}
use Rattle.proto_names.proofs.link.Link.new.Goals as goal

pub linked_names-requires-clause-listings : goal.linked_names-requires-clause-listings
linked_names-requires-clause-listings c = subst (AreListings c.args.files.now) (sym c.deref.ensures.value) c.in_ok-listings.ensures

pub linked_names-requires-clause-imports : goal.linked_names-requires-clause-imports
linked_names-requires-clause-imports c = λ reads are. (c.in_ok-graph.ensures.sight reads are).sound

pub linked_references-requires-clause-table : goal.linked_references-requires-clause-table
linked_references-requires-clause-table c = c.in_ok-declarations.ensures.table

pub linked_references-requires-clause-listings : goal.linked_references-requires-clause-listings
linked_references-requires-clause-listings c = subst (AreListings c.args.files.now) (sym c.deref-2.ensures.value) c.in_ok-listings.ensures

pub linked_references-requires-clause-sight : goal.linked_references-requires-clause-sight
linked_references-requires-clause-sight c = c.in_ok-graph.ensures.sight

pub linked_references-requires-clause-paired : goal.linked_references-requires-clause-paired
linked_references-requires-clause-paired c = c.in_ok-declarations.ensures.paired

pub linked_references-requires-clause-rows : goal.linked_references-requires-clause-rows
linked_references-requires-clause-rows c =
    subst (λ (ls : List Listing). Each (λ k (v : Vec ℕ). (d : Listing) → length v.items ≡ length (get_or ls k d).declared.items) c.in_ok-declarations.declarations.rows.items) (c.deref.ensures.value ∙ sym c.deref-2.ensures.value) c.in_ok-declarations.ensures.rows

pub linked_references-requires-clause-within : goal.linked_references-requires-clause-within
linked_references-requires-clause-within c = c.in_ok-declarations.ensures.within

pub linked_references-requires-clause-names : goal.linked_references-requires-clause-names
linked_references-requires-clause-names c = c.in_ok-declarations.ensures.names

pub linked_references-requires-clause-no_name_fault : goal.linked_references-requires-clause-no_name_fault
linked_references-requires-clause-no_name_fault c = c.in_ok-declarations.ensures.clean

pub from_parts-requires-clause-table : goal.from_parts-requires-clause-table
from_parts-requires-clause-table c = c.in_ok-declarations.ensures.table

pub from_parts-requires-clause-rising : goal.from_parts-requires-clause-rising
from_parts-requires-clause-rising c =
    let reads = c.are_read.ensures.0 in
    let are = c.are_read.ensures.1 in
    all_tokens_rise c.in_ok-declarations.declarations.table c.args.files.now reads are c.in_ok-resolutions.resolutions.meant.items c.in_ok-resolutions.ensures.len (c.in_ok-resolutions.ensures.meant reads are)

pub from_parts-requires-clause-paired : goal.from_parts-requires-clause-paired
from_parts-requires-clause-paired c = c.in_ok-resolutions.ensures.paired

pub from_parts-requires-clause-firsts : goal.from_parts-requires-clause-firsts
from_parts-requires-clause-firsts c = c.in_ok-resolutions.ensures.firsts

pub returns-clause-link : goal.returns-clause-link
returns-clause-link c = λ reads are.
    (let files = c.args.files.now in
    let graph = c.in_ok-graph.graph in
    let table = c.in_ok-declarations.declarations.table in
    let declared = c.in_ok-declarations.declarations.rows.items in
    let resolutions = c.in_ok-resolutions.resolutions in
    let link = c.from_parts.result in
    let meant = map (λ (v : Vec Meant). v.items) resolutions.meant.items in
    let sight = c.in_ok-graph.ensures.sight reads are in
    let listed = c.in_ok-graph.ensures.imports reads are in
    let known = c.in_ok-declarations.ensures.names reads are in
    let own = ap (λ (l : LinkOf). length l.references) c.from_parts.ensures in
    let names = ap (λ (l : LinkOf). length l.names) c.from_parts.ensures in
    let paired : length link.references ≡ length link.names = omega (arith, own, names, length-map resolutions.references.items (λ v. v.items), c.in_ok-resolutions.ensures.paired, length-map table.rows.items name_of_row) in
    let same = sym (ap (λ (l : LinkOf). l.names) c.from_parts.ensures) in
    let many = length-map resolutions.meant.items (λ v. v.items) ∙ c.in_ok-resolutions.ensures.len in
    let referred : (row : ℕ) → get_or link.references row [] ≡ references_to row (all_meant 0 meant) = λ row.
    ap (λ (l : LinkOf). get_or l.references row []) c.from_parts.ensures ∙ c.in_ok-resolutions.ensures.references row in
    let by = is_link files reads are table c.in_ok-declarations.ensures.table declared known
    graph.seen.items meant link same (sym (ap (λ (l : LinkOf). l.seen) c.from_parts.ensures))
    sight.count many paired sight.between sight.marks (c.in_ok-resolutions.ensures.meant reads are) referred in
    let imports = ap (λ (l : LinkOf). l.imports) c.from_parts.ensures in
    let rows = ap (λ (l : LinkOf). l.rows) c.from_parts.ensures in
    let kept = ap (λ (l : LinkOf). l.meant) c.from_parts.ensures in
    let lists = ap length kept ∙ many in
    let means : (file : ℕ) → file < length files → IsMeantIn files reads link file = λ file l.
    is_meant_in files reads table c.in_ok-declarations.ensures.table link same known.index are file l
    (subst (λ (vs : List (List Meant)). AreFileMeant table files reads file (get_or vs file [])) (sym kept) (c.in_ok-resolutions.ensures.meant reads are file l)) in
    record {
      by = by;
      imported = ap length imports ∙ listed.count;
      imports = ap (all_imports 0) imports ∙ listed.same;
      listed = ap length rows ∙ length-map declared (λ v. v.items) ∙ c.in_ok-declarations.ensures.paired;
      declares = declared_by files reads table link same declared known c.in_ok-declarations.ensures.paired c.in_ok-declarations.ensures.within (sym rows);
      lists = lists;
      means = means;
      unmeant = λ row none.
          referred row
          ∙ ap (λ (vs : List (List Meant)). references_to row (all_meant 0 vs)) (sym kept)
          ∙ no_references link row none (λ file l. (means file (omega (arith, l, lists))).within);
    })

pub returns-clause-clean : goal.returns-clause-clean
returns-clause-clean c =
    let reads = c.are_read.ensures.0 in
    let are = c.are_read.ensures.1 in
    no_fault c.args.files.now c.len-count.ensures.workspace reads are (c.in_ok-graph.ensures.sight reads are).sound (c.in_ok-declarations.ensures.clean reads are) (c.in_ok-resolutions.ensures.clean reads are)

pub returns-clause-read : goal.returns-clause-read
returns-clause-read c = c.are_read.ensures

pub returns-in_err-graph : goal.returns-in_err-graph
returns-in_err-graph c = let e = err_from_is_err_and c.from_residual.result c.from_residual.ensures.1 in rw (e.1, e.2) (record { link = tt; clean = tt; read = tt; fault = c.in_err-graph.ensures.fault })

pub returns-in_err-listings : goal.returns-in_err-listings
returns-in_err-listings c = let e = err_from_is_err_and c.from_residual-in_err-listings.result c.from_residual-in_err-listings.ensures.1 in rw (e.1, e.2) (record { link = tt; clean = tt; read = tt; fault = tt })

pub returns-in_err-declarations : goal.returns-in_err-declarations
returns-in_err-declarations c = let e = err_from_is_err_and c.from_residual-in_err-declarations.result c.from_residual-in_err-declarations.ensures.1 in rw (e.1, e.2) (record { link = tt; clean = tt; read = tt; fault = c.in_err-declarations.ensures.fault })

pub returns-in_err-resolutions : goal.returns-in_err-resolutions
returns-in_err-resolutions c = let e = err_from_is_err_and c.from_residual-in_err-resolutions.result c.from_residual-in_err-resolutions.ensures.1 in rw (e.1, e.2) (record { link = tt; clean = tt; read = tt; fault = c.in_err-resolutions.ensures.fault })
