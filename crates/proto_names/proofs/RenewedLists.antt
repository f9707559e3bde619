-- What the references of a file mean, looked up again: its rows and marks among those of all files, and one change more in the lists and in the log.
use Rattle.std.proofs.Common.{◌≡◌, ◌≢◌, ℕ, ◌<◌, ◌==◌, ◌&&◌, ◌||◌, false, true, Bool, List, [], length, get_or, map, slice_set, refl, sym, ◌∙◌, ap, subst, inl, inr, arith, All}
use Rattle.std.proofs.lemmas.List.{length-set, get_or-set_same, get_or-set_other}
use Rattle.proto_base.proofs.Common.{All-push, All-set, Vec, both_ways, cases_lt, get_or-map, get_or_past, length-map, list_any, map-set}
use Rattle.std.proofs.lemmas.Bool.{eq-eqb}
use Rattle.proto_case.specs.Camel.{entry_name}
use Rattle.proto_names_rules.specs.Names.{reaches, sees}
use Rattle.proto_files.proofs.Common.{FileOf, ReadOf, read_at}
use Rattle.proto_names_imports.proofs.Common.{IsListing, names_of_files, text_of}
use Rattle.proto_base.specs.Undone.{IsNoted}
use Rattle.proto_base.specs.declared.changes.Change.{Change}
use Rattle.proto_names_outline.proofs.Common.{items_in, length-read, package_first, whole}
use Rattle.proto_names_outline.specs.declared.listing.Listing.{Listing}
use Rattle.proto_names_rules.proofs.Common.{at, name_of}
use Rattle.proto_names.specs.Common.{IsFileLinked, Meant, declared_names}
use Rattle.proto_names.specs.Renewal.{AreMeantBelow}
use Rattle.proto_names_table.specs.declared.table.Table.{Table}

-- ---- rows of one file, and what it sees

pub rows_at : (rows : List (Vec ℕ)) (file : ℕ) → file < length rows → (r : Vec ℕ) → r ≡ get_or rows file r → (own : List ℕ) → own ≡ r.items → get_or (map (λ v. v.items) rows) file [] ≡ own
rows_at rows file within r r_is own own_is = get_or-map (λ (v : Vec ℕ). v.items) rows file r [] within ∙ ap (λ (v : Vec ℕ). v.items) (sym r_is) ∙ sym own_is

module _ (t : Table) (seen : List (List Bool)) (rows : List (Vec ℕ)) (files : List FileOf) (reads : List ReadOf) (file : ℕ)
    (linked : IsFileLinked t (get_or seen file []) (get_or (map (λ v. v.items) rows) file []) files reads file) where
  pub linked_by : (marks : List Bool) → marks ≡ get_or seen file [] → (own : List ℕ) → get_or (map (λ v. v.items) rows) file [] ≡ own → IsFileLinked t marks own files reads file
  linked_by marks marks_are own own_is =
      subst (λ (z : List ℕ). IsFileLinked t marks z files reads file) own_is
      (subst (λ (z : List Bool). IsFileLinked t z (get_or (map (λ v. v.items) rows) file []) files reads file) (sym marks_are) linked)

  -- a file sees itself, so it has a list of the files that it sees
  pub sees_within : file < length seen
  sees_within = elim (cases_lt file (length seen)) [
    | inl l ↦ l
    | inr past ↦
        let w = names_of_files files reads in
        let itself : sees w file file ≡ true = ap (λ b. b || list_any (λ i. (i.from == file) && reaches w.imports w.files i.to file) w.imports) (eq-eqb file file refl) in
        absurd (both_ways (get_or (get_or seen file []) file false) (ap (λ (s : List Bool). get_or s file false) (get_or_past seen file [] (omega (arith, past)))) (linked.marks file ∙ itself))
  ]

  pub rows_listed : (own : List ℕ) → get_or (map (λ v. v.items) rows) file [] ≡ own → (l : Listing) → IsListing (read_at reads file) l → length own ≡ length l.declared.items
  rows_listed own own_is l is =
      let ps = package_first (items_in (read_at reads file).tree) in
      let names : length (declared_names files reads file) ≡ length ps = length-map ps (λ p. name_of (λ i. text_of files reads (at file i)) entry_name (whole p)) in
      ap length (sym own_is) ∙ sym linked.paired ∙ names ∙ ap length (sym is.declared) ∙ length-read l.declared.items

-- ---- one change more

module _ (old new : List (Change (Vec Meant))) (meant now : List (Vec Meant)) (file : ℕ) (own : Vec Meant) (within : file < length meant) (noted : IsNoted old new meant file) (is : now ≡ slice_set meant file own) where
  abbrev change : Change (Vec Meant)
  change = record { place = file; was = noted.was }

  pub below_more : (count : ℕ) → All (λ m. m.row < count) own.items → AreMeantBelow count old meant → AreMeantBelow count new now
  below_more count fits was = record {
    now = subst (All (λ (v : Vec Meant). All (λ m. m.row < count) v.items)) (sym is) (All-set (λ (v : Vec Meant). All (λ m. m.row < count) v.items) meant file own fits was.now);
    before = subst (All (λ (c : Change (Vec Meant)). All (λ m. m.row < count) c.was.items)) (sym noted.behind)
        (All-push (λ (c : Change (Vec Meant)). All (λ m. m.row < count) c.was.items) old change was.before
        (subst (λ (v : Vec Meant). All (λ m. m.row < count) v.items) (sym noted.stood) (was.now file noted.was within)));
  }

  pub own_there : get_or (map (λ v. v.items) now) file [] ≡ own.items
  own_there =
      ap (λ (z : List (Vec Meant)). get_or (map (λ v. v.items) z) file []) is
      ∙ get_or-map (λ (v : Vec Meant). v.items) (slice_set meant file own) file own [] (omega (arith, within, length-set meant file own))
      ∙ ap (λ (v : Vec Meant). v.items) (get_or-set_same meant file own own within)

  pub others_there : (other : ℕ) → other ≢ file → get_or (map (λ v. v.items) now) other [] ≡ get_or (map (λ v. v.items) meant) other []
  others_there other ne =
      ap (λ (z : List (Vec Meant)). get_or (map (λ v. v.items) z) other []) is
      ∙ ap (λ (z : List (List Meant)). get_or z other []) (map-set (λ (v : Vec Meant). v.items) meant file own)
      ∙ get_or-set_other (map (λ (v : Vec Meant). v.items) meant) file other own.items [] ne
