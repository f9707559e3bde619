-- The parts of a link that was that of files before some were edited.
use Rattle.std.proofs.Common.{◌≡◌, ℕ, suc, ◌+◌, ◌<◌, Bool, List, [], ◌∷◌, length, get_or, map, refl, sym, ◌∙◌, ap, subst, inl, inr, arith, All, Contains}
use Rattle.proto_base.proofs.Common.{Contains-append_cases, Contains-get_or, Vec, from_filter, from_map, get_or-map, length-map}
use Rattle.proto_files.proofs.Common.{FileOf, ReadOf}
use Rattle.proto_names_imports.proofs.Common.{names_in}
use Rattle.proto_names_imports.specs.declared.import.FileImport.{FileImport}
use Rattle.proto_names_update.specs.NamesOfFiles.{WereNames}
use Rattle.proto_names_update.specs.NamesOfFiles.{AreNamesOf as AreListedNames}
use Rattle.proto_names_affected.specs.Referred.{all_meant_by, meant_row, references_to_row}
use Rattle.proto_names_affected.specs.Renewed.{AreReferencesOf}
use Rattle.proto_names.proofs.LinkTable.{rows_bounded, table_names}
use Rattle.proto_names.proofs.NamesThere.{text_to}
use Rattle.proto_names.proofs.ReferencesByRow.{references_by_row}
use Rattle.proto_names.proofs.ReferencesStand.{all_references_stand}
use Rattle.proto_names.specs.Common.{AreNamesOf, LinkOf, Meant, MeantBy, RefId, all_meant, meant_in_file, references_to}
use Rattle.proto_names.specs.LinkOfFiles.{IsLinkOf}
use Rattle.proto_names.specs.Renewal.{AreMeantBelow, link_of_parts}
use Rattle.proto_names.specs.Renewed.{IsTableOf}
use Rattle.proto_names.specs.Sight.{WasSight}
use Rattle.proto_names_update.proofs.Clean.{no_import, no_name}
use Rattle.proto_names_update.specs.Edited.{AreSameBut}
use Rattle.proto_names_update.specs.Relinked.{WasLink}
use Rattle.proto_names_table.proofs.Common.{IsTable}
use Rattle.proto_names_table.specs.declared.table.Table.{Table}

-- ---- the names of files, by lists of rows

pub to_lists : (files : List FileOf) (reads : List ReadOf) (t : Table) (rows : List (Vec ℕ)) → AreNamesOf files reads t rows → AreListedNames files reads t (map (λ v. v.items) rows)
to_lists files reads t rows of = record {
  index = of.index;
  plain = of.plain;
  counts = of.counts;
  named = of.named;
  declared = of.declared;
  tokens = λ d c other. (let x = of.tokens d c other in record { row = x.row; within = x.within; name = x.name; place = x.place });
}

pub from_lists : (files : List FileOf) (reads : List ReadOf) (t : Table) (rows : List (Vec ℕ)) → AreListedNames files reads t (map (λ v. v.items) rows) → AreNamesOf files reads t rows
from_lists files reads t rows of = record {
  index = of.index;
  plain = of.plain;
  counts = of.counts;
  named = of.named;
  declared = of.declared;
  tokens = λ d c other. (let x = of.tokens d c other in record { row = x.row; within = x.within; name = x.name; place = x.place });
}

-- ---- what references mean is of files that are there

file_there : (n : ℕ) (mss : List (List Meant)) (m : MeantBy) → Contains (all_meant n mss) m → m.reference.file < n + length mss
file_there n [] m c = absurd (omega (arith, c.1))
file_there n (ms ∷ mss) m c = elim (Contains-append_cases (map (meant_in_file n) ms) (all_meant (suc n) mss) m c) [
  | inl here ↦
      let x = from_map (meant_in_file n) ms m here in
      let e : n ≡ m.reference.file = ap (λ (z : MeantBy). z.reference.file) x.2 in
      omega (arith, e)
  | inr later ↦ omega (arith, file_there (suc n) mss m later)
]

reference_there : (row : ℕ) (mss : List (List Meant)) (r : RefId) → Contains (references_to row (all_meant 0 mss)) r → r.file < length mss
reference_there row mss r c =
    let x = from_map (λ (m : MeantBy). m.reference) _ r c in
    let y = from_filter _ (all_meant 0 mss) x.0 x.1 in
    let e : x.0.reference.file ≡ r.file = ap (λ (z : RefId). z.file) x.2 in
    omega (arith, file_there 0 mss x.0 y.0, e)

-- ---- the parts

module _ (files : List FileOf) (places : List ℕ) (t : Table) (imports : List (Vec FileImport)) (rows : List (Vec ℕ)) (seen : List (List Bool)) (meant : List (Vec Meant)) (references : List (Vec RefId))
    (table : IsTable t) (link_was : WasLink IsLinkOf files places (link_of_parts t imports rows seen meant references)) where
  abbrev pub parts : LinkOf
  parts = link_of_parts t imports rows seen meant references

  abbrev pub before : List FileOf
  before = link_was.0

  abbrev pub was : List ReadOf
  was = link_was.1.reads

  pub same_but : AreSameBut places before files
  same_but = link_was.2

  pub of_before : IsTableOf before was parts t rows
  of_before = record {
    link = link_was.1.link was link_was.1.read;
    clean = link_was.1.clean;
    table = table;
    names = refl;
    declared = refl;
  }

  pub many : length before ≡ length files
  many = sym (length-map before (λ (f : FileOf). f.path)) ∙ ap length same_but.paths ∙ length-map files (λ (f : FileOf). f.path)

  -- ---- how many there are

  pub rows_count : length rows ≡ length files
  rows_count = sym (length-map rows (λ v. v.items)) ∙ of_before.link.listed ∙ many

  pub meant_count : length meant ≡ length files
  meant_count = sym (length-map meant (λ v. v.items)) ∙ of_before.link.lists ∙ many

  -- ---- what is below the table's count

  pub rows_below : All (λ v. All (λ r. r < length t.rows.items) v.items) rows
  rows_below = rows_bounded before was link_was.1.read parts t rows of_before

  pub meant_below : All (λ v. All (λ m. m.row < length t.rows.items) v.items) meant
  meant_below k v lk j m lj =
      let own : get_or parts.meant k [] ≡ (get_or meant k v).items = get_or-map (λ (v : Vec Meant). v.items) meant k v [] lk in
      let n = (of_before.link.means k (omega (arith, lk, meant_count, many))).within j m (subst (λ (ms : List Meant). j < length ms) (sym own) lj) in
      subst (λ (ms : List Meant). (get_or ms j m).row < length t.rows.items) own (text_to t parts refl (get_or (get_or parts.meant k []) j m).row n.0 n.1).0

  pub are_meant_below : AreMeantBelow (length t.rows.items) [] meant
  are_meant_below = record { now = meant_below; before = λ k c l. absurd (omega (arith, l)) }

  -- ---- as the layers below have it

  pub were_names : WereNames places files t (map (λ v. v.items) rows)
  were_names = record {
    before = before;
    was = was;
    same = same_but;
    were_read = link_was.1.read;
    apart = no_name before was link_was.1.read link_was.1.clean;
    names = to_lists before was t rows (table_names before was link_was.1.read parts t rows of_before);
  }

  pub was_sight : WasSight places files (map (λ v. v.items) imports) seen
  was_sight = record {
    before = before;
    was = was;
    same = same_but;
    were_read = link_was.1.read;
    listed = record { count = of_before.link.imported; same = of_before.link.imports };
    sight = record {
      sound = no_import before was link_was.1.read link_was.1.clean;
      between = of_before.link.by.between;
      count = of_before.link.by.files ∙ length-map was names_in ∙ link_was.1.read.same;
      marks = λ file lf. of_before.link.by.seen file (omega (arith, lf, length-map was names_in, link_was.1.read.same));
    };
  }

  -- ---- the references to each name, as long as they are the same

  module _ (lists : List (Vec RefId)) (same : (row : ℕ) → get_or (map (λ v. v.items) lists) row [] ≡ get_or (map (λ v. v.items) references) row []) where
    referred : (row : ℕ) → get_or (map (λ (v : Vec RefId). v.items) lists) row [] ≡ references_to row (all_meant 0 parts.meant)
    referred row = same row ∙ all_references_stand before was link_was.1.read parts t rows of_before row

    pub are_references_of : (now : List (Vec Meant)) → now ≡ meant → AreReferencesOf (map (λ v. v.items) lists) (map (λ v. v.items) now)
    are_references_of now e row =
        referred row ∙ sym (references_by_row row parts.meant)
        ∙ ap (λ (ms : List (Vec Meant)). references_to_row row (all_meant_by meant_row 0 (map (λ v. v.items) ms))) (sym e)

    -- each is of a file
    pub references_within : All (λ v. All (λ r. r.file < length meant) v.items) lists
    references_within k v lk j r lj =
        let x = get_or (get_or lists k v).items j r in
        let own : (get_or lists k v).items ≡ references_to k (all_meant 0 parts.meant) =
        sym (get_or-map (λ (v : Vec RefId). v.items) lists k v [] lk) ∙ referred k in
        let c = subst (λ (rs : List RefId). Contains rs x) own (Contains-get_or (get_or lists k v).items j r lj) in
        omega (arith, reference_there k parts.meant x c, length-map meant (λ (v : Vec Meant). v.items))
