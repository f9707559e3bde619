-- Rows with the references that mean them: one row more, one reference more, one file more.
use Rattle.std.proofs.Common.{◌≡◌, ◌≢◌, ℕ, zero, suc, ◌+◌, ◌<◌, ◌==◌, Bool, false, cond, if◌then◌else◌, List, [], ◌∷◌, ◌++◌, length, get_or, map, take, slice_set, nat_eq, refl, sym, ◌∙◌, ap, subst, inl, inr, arith, All, filter, append-nil, append_assoc, get_or-set_same, get_or-set_other}
use Rattle.std.specs.List.{Contains, IsDistinct, list_any}
use Rattle.std.proofs.lemmas.Bool.{both_ways, cases_eq, cases_lt, eq-eqb, eqb-true, false_from_ne_true}
use Rattle.std.proofs.lemmas.List.{get_or_append_left, get_or_push, length_push, map-append}
use Rattle.std.proofs.lemmas.List.Elements.{All-push, All-weaker, Contains-append_left, Contains-get_or, filter-append}
use Rattle.std.proofs.lemmas.Map.Keys.{apart_from_distinct}
use Rattle.proto_base.proofs.Common.{any_from}
use Rattle.proto_names_affected.specs.Referred.{MeantRow, meant_row, references_to_row}
use Rattle.proto_names_table.specs.declared.ids.Meant.{Meant}
use Rattle.proto_names_table.specs.declared.ids.RefId.{RefId}
use Rattle.proto_names_affected.specs.Gathering.{AreGathered, Gathers, HasGathered, IsSound, marked_meant}
use Rattle.proto_names_affected.specs.declared.gathering.Gathered.{Gathered}

pub none_meant : (row : ℕ) (ms : List MeantRow) → All (λ m. m.row ≢ row) ms → references_to_row row ms ≡ []
none_meant row [] h = refl
none_meant row (m ∷ ms) h =
    ap (λ b. map (λ (x : MeantRow). x.reference) (cond b (m ∷ filter (λ (x : MeantRow). x.row == row) ms) (filter (λ (x : MeantRow). x.row == row) ms)))
    (false_from_ne_true (m.row == row) (λ q. h 0 m (omega arith) (eqb-true m.row row q)))
    ∙ none_meant row ms (λ k d l. h (suc k) d (omega (arith, l)))

pub references_more : (row : ℕ) (xs ys : List MeantRow) → references_to_row row (xs ++ ys) ≡ references_to_row row xs ++ references_to_row row ys
references_more row xs ys =
    ap (map (λ (m : MeantRow). m.reference)) (filter-append (λ (m : MeantRow). m.row == row) xs ys) ∙ map-append (λ (m : MeantRow). m.reference) (filter (λ (m : MeantRow). m.row == row) xs) (filter (λ (m : MeantRow). m.row == row) ys)

-- what is named is not a row that is not there
pub not_meant : (rows : List ℕ) (row : ℕ) (ms : List MeantRow) → (Contains rows row → ⊥) → All (λ m. Contains rows m.row) ms → references_to_row row ms ≡ []
not_meant rows row ms none named = none_meant row ms (All-weaker (λ (m : MeantRow). Contains rows m.row) (λ (m : MeantRow). m.row ≢ row) (λ m there e. none (subst (Contains rows) e there)) ms named)

pub not_there : (rows : List ℕ) (row : ℕ) → list_any (λ k. nat_eq row k) rows ≡ false → Contains rows row → ⊥
not_there rows row none there = both_ways (list_any (λ k. nat_eq row k) rows) none (any_from (λ k. nat_eq row k) rows row there (eq-eqb row row refl))

-- a new row, with no reference
pub row_added : (rows : List ℕ) (row : ℕ) (lists : List (List RefId)) (ms : List MeantRow) → (Contains rows row → ⊥) → length lists ≡ length rows → AreGathered rows lists ms → AreGathered (rows ++ row ∷ []) (lists ++ [] ∷ []) ms
row_added rows row lists ms none paired h = record {
  each = λ k l. elim (cases_lt k (length rows)) [
    | inl b ↦
        get_or_append_left lists ([] ∷ []) [] k (omega (arith, b, paired))
        ∙ h.each k b
        ∙ ap (λ q. references_to_row q ms) (sym (get_or_append_left rows (row ∷ []) 0 k b))
    | inr a ↦
        let last : length rows ≡ k = omega (arith, a, l, length_push rows row) in
        get_or_push lists [] [] k (omega (arith, last, paired))
        ∙ sym (not_meant rows row ms none h.named)
        ∙ ap (λ q. references_to_row q ms) (sym (get_or_push rows row 0 k last))
  ];
  named = All-weaker (λ (m : MeantRow). Contains rows m.row) (λ (m : MeantRow). Contains (rows ++ row ∷ []) m.row) (λ m there. Contains-append_left rows (row ∷ []) m.row there) ms h.named;
}

-- two places of distinct rows have two rows
pub rows_apart : (rows : List ℕ) (i j : ℕ) → IsDistinct nat_eq rows → i < length rows → j < length rows → i ≢ j → get_or rows i 0 ≢ get_or rows j 0
rows_apart rows i j distinct li lj ne e = elim (cases_lt i j) [
  | inl b ↦ both_ways (nat_eq (get_or rows i 0) (get_or rows j 0)) (apart_from_distinct nat_eq rows i j 0 distinct b lj) (eq-eqb (get_or rows i 0) (get_or rows j 0) e)
  | inr a ↦ both_ways (nat_eq (get_or rows j 0) (get_or rows i 0)) (apart_from_distinct nat_eq rows j i 0 distinct (omega (arith, a, ne)) li) (eq-eqb (get_or rows j 0) (get_or rows i 0) (sym e))
]

one_meant : (row q : ℕ) (reference : RefId) → row ≡ q → references_to_row q (record { reference = reference; row = row } ∷ []) ≡ reference ∷ []
one_meant row q reference e = ap (λ b. map (λ (x : MeantRow). x.reference) (cond b (record { reference = reference; row = row } ∷ []) [])) (eq-eqb row q e)

one_apart : (row q : ℕ) (reference : RefId) → row ≢ q → references_to_row q (record { reference = reference; row = row } ∷ []) ≡ []
one_apart row q reference ne = ap (λ b. map (λ (x : MeantRow). x.reference) (cond b (record { reference = reference; row = row } ∷ []) [])) (false_from_ne_true (row == q) (λ t. ne (eqb-true row q t)))

-- a reference more, behind those of its row
pub reference_added : (rows : List ℕ) (lists : List (List RefId)) (ms : List MeantRow) (place row : ℕ) (reference : RefId) → IsDistinct nat_eq rows → length lists ≡ length rows → place < length lists → get_or rows place 0 ≡ row → AreGathered rows lists ms
    → AreGathered rows (slice_set lists place (get_or lists place [] ++ reference ∷ [])) (ms ++ record { reference = reference; row = row } ∷ [])
reference_added rows lists ms place row reference distinct paired within is h =
    let m : MeantRow = record { reference = reference; row = row } in
    record {
      each = λ k l.
          (let rest = ap (λ z. z ++ references_to_row (get_or rows k 0) (m ∷ [])) (h.each k l) ∙ sym (references_more (get_or rows k 0) ms (m ∷ [])) in
          elim (cases_eq k place) [
            | inl e ↦
                ap (λ j. get_or (slice_set lists place (get_or lists place [] ++ reference ∷ [])) j []) e
                ∙ get_or-set_same lists place (get_or lists place [] ++ reference ∷ []) [] within
                ∙ ap (λ z. get_or lists place [] ++ z) (sym (one_meant row (get_or rows k 0) reference (sym is ∙ ap (λ j. get_or rows j 0) (sym e))))
                ∙ ap (λ j. get_or lists j [] ++ references_to_row (get_or rows k 0) (m ∷ [])) (sym e)
                ∙ rest
            | inr ne ↦
                get_or-set_other lists place k (get_or lists place [] ++ reference ∷ []) [] ne
                ∙ sym (append-nil (get_or lists k []))
                ∙ ap (λ z. get_or lists k [] ++ z) (sym (one_apart row (get_or rows k 0) reference (λ e. rows_apart rows k place distinct l (omega (arith, within, paired)) ne (sym e ∙ sym is))))
                ∙ rest
          ]);
      named = All-push (λ (x : MeantRow). Contains rows x.row) ms m h.named (subst (Contains rows) is (Contains-get_or rows place 0 (omega (arith, within, paired))));
    }

-- ---- what is gathered in turn

pub gathers_none : (g : Gathered) → IsSound g → Gathers g g []
gathers_none g sound = record {
  sound = sound;
  count = refl;
  rows = λ row there. there;
  gathered = λ ms h. subst (HasGathered g) (sym (append-nil ms)) h;
}

pub gathers_more : (a b c : Gathered) (xs ys : List MeantRow) → Gathers a b xs → Gathers b c ys → Gathers a c (xs ++ ys)
gathers_more a b c xs ys p q = record {
  sound = q.sound;
  count = q.count ∙ p.count;
  rows = λ row there. q.rows row (p.rows row there);
  gathered = λ ms h. subst (HasGathered c) (append_assoc ms xs ys) (q.gathered (ms ++ xs) (p.gathered ms h));
}

-- ---- the marked files

-- those of one file, if it is marked
abbrev pub if_marked : List Bool → ℕ → List Meant → List MeantRow
if_marked marks file ms = if get_or marks file false then map (meant_row file) ms else []

pub marked_more : (marks : List Bool) (n i : ℕ) (mss : List (List Meant)) → i < length mss → marked_meant marks n (take (suc i) mss) ≡ marked_meant marks n (take i mss) ++ if_marked marks (n + i) (get_or mss i [])
marked_more marks n i [] l = absurd (omega (arith, l))
marked_more marks n zero (ms ∷ rest) l =
    let e : n ≡ n + 0 = omega arith in
    append-nil (if_marked marks n ms) ∙ ap (λ k. if_marked marks k ms) e
marked_more marks n (suc i) (ms ∷ rest) l =
    let e : suc n + i ≡ n + suc i = omega arith in
    ap (λ z. if_marked marks n ms ++ z) (marked_more marks (suc n) i rest (omega (arith, l)) ∙ ap (λ k. marked_meant marks (suc n) (take i rest) ++ if_marked marks k (get_or rest i [])) e)
    ∙ sym (append_assoc (if_marked marks n ms) (marked_meant marks (suc n) (take i rest)) (if_marked marks (n + suc i) (get_or rest i [])))
