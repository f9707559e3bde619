-- References to names are of files that there are.
use Rattle.std.proofs.Common.{ℕ, suc, ◌+◌, ◌<◌, ◌==◌, List, [], ◌∷◌, length, get_or, map, sym, ◌∙◌, subst, arith, All, filter}
use Rattle.std.specs.Global.{Vec}
use Rattle.std.proofs.lemmas.List.{get_or-map, get_or_default, length-map}
use Rattle.std.proofs.lemmas.List.Elements.{All-append, All-filter, All-map, All-weaker}
use Rattle.proto_names_affected.specs.Referred.{MeantRow, all_meant_by, meant_row, references_to_row}
use Rattle.proto_names_table.specs.declared.ids.Meant.{Meant}
use Rattle.proto_names_table.specs.declared.ids.RefId.{RefId}
use Rattle.proto_names_affected.specs.Renewed.{AreReferencesOf}

-- those of all files from this number on
all_of_files : (n : ℕ) (mss : List (List Meant)) → All (λ m. m.reference.file < n + length mss) (all_meant_by meant_row n mss)
all_of_files n [] = λ k d l. absurd (omega (arith, l))
all_of_files n (ms ∷ mss) =
    All-append (λ (m : MeantRow). m.reference.file < n + length (ms ∷ mss)) (map (meant_row n) ms) (all_meant_by meant_row (suc n) mss)
    (All-map (λ (m : MeantRow). m.reference.file < n + length (ms ∷ mss)) (meant_row n) ms (λ k d l. omega arith))
    (All-weaker (λ (m : MeantRow). m.reference.file < suc n + length mss) (λ (m : MeantRow). m.reference.file < n + length (ms ∷ mss)) (λ m l. omega (arith, l)) (all_meant_by meant_row (suc n) mss) (all_of_files (suc n) mss))

-- those to the name of a row
row_of_files : (row : ℕ) (meant : List (List Meant)) → All (λ r. r.file < length meant) (references_to_row row (all_meant_by meant_row 0 meant))
row_of_files row meant =
    let all = all_meant_by meant_row 0 meant in
    All-map (λ (r : RefId). r.file < length meant) (λ (m : MeantRow). m.reference) (filter (λ (m : MeantRow). m.row == row) all)
    (All-filter (λ (m : MeantRow). m.row == row) (λ (m : MeantRow). m.reference.file < length meant) all
    (All-weaker (λ (m : MeantRow). m.reference.file < 0 + length meant) (λ (m : MeantRow). m.reference.file < length meant) (λ m l. omega (arith, l)) all (all_of_files 0 meant)))

pub references_of_files : (references : List (List RefId)) (meant : List (List Meant)) → AreReferencesOf references meant → All (λ rs. All (λ r. r.file < length meant) rs) references
references_of_files references meant h row d l =
    subst (All (λ (r : RefId). r.file < length meant)) (sym (h row) ∙ get_or_default references row [] d l) (row_of_files row meant)

-- the same of lists that are kept
pub kept_references_of_files : (references : List (Vec RefId)) (meant : List (Vec Meant)) → AreReferencesOf (map (λ v. v.items) references) (map (λ v. v.items) meant) → All (λ v. All (λ r. r.file < length meant) v.items) references
kept_references_of_files references meant h k d l =
    let listed : List (List RefId) = map (λ (v : Vec RefId). v.items) references in
    let lists : List (List Meant) = map (λ (v : Vec Meant). v.items) meant in
    let there : k < length listed = omega (arith, l, length-map references (λ (v : Vec RefId). v.items)) in
    subst (λ n. All (λ (r : RefId). r.file < n) (get_or references k d).items) (length-map meant (λ (v : Vec Meant). v.items))
    (subst (All (λ (r : RefId). r.file < length lists)) (get_or-map (λ (v : Vec RefId). v.items) references k d [] l) (references_of_files listed lists h k [] there))
