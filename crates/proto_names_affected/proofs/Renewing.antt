-- The lists of references once some are renewed, and what the marked files have of them.
use Rattle.std.proofs.Common.{◌≡◌, ◌⊎◌, ℕ, zero, suc, ◌+◌, ◌<◌, ◌≤◌, Bool, true, false, not, cond, if◌then◌else◌, List, [], ◌∷◌, ◌++◌, length, get_or, map, slice_set, refl, sym, ◌∙◌, ap, subst, inl, inr, arith, All, filter, length-append, length-set, get_or-set_same, get_or-set_other}
use Rattle.std.specs.Global.{Vec}
use Rattle.std.specs.List.{Contains}
use Rattle.std.proofs.lemmas.Bool.{both_ways, cases_Bool, cases_eq, cases_lt, cond-false, cond-true}
use Rattle.std.proofs.lemmas.List.{get_or_append_left, get_or_default, get_or-append-add, get_or-map, length-map, map-set, set_past}
use Rattle.proto_names_affected.specs.Merged.{ReferencesAreRising, is_of_marked_file}
use Rattle.proto_names_affected.specs.Referred.{IsOfFile, MarkedAreGathered, MeantRow, ReferencesRise, UnmarkedReferencesStay, all_meant_by, gathered, meant_row, references_to_row}
use Rattle.proto_base.specs.Undone.{undone}
use Rattle.proto_names_table.specs.declared.ids.Meant.{Meant}
use Rattle.proto_names_table.specs.declared.ids.RefId.{RefId}
use Rattle.proto_base.specs.declared.changes.Change.{Change}
use Rattle.proto_names_affected.specs.Gathering.{AreGathered, AreRowsNamed, marked_meant}
use Rattle.proto_names_affected.specs.Renewed.{AreReferencesOf, AreRenewed, IsWanted}
use Rattle.proto_names_affected.proofs.Rows.{if_marked, not_meant, references_more}

-- ---- one list more

-- each row is one of the first ones and has all its references, or it is none of them and has what it had
abbrev pub AreRenewedTo : ℕ → List Bool → List ℕ → List (List RefId) → List (List RefId) → List (List RefId) → Type 0
AreRenewedTo n marks rows lists old now =
    (row : ℕ) (all : List RefId) → IsWanted marks rows lists row (get_or old row []) all
    → (((k : ℕ) → k < n → get_or rows k 0 ≡ row → ⊥) × (get_or now row [] ≡ get_or old row [])) ⊎ (get_or now row [] ≡ all)

abbrev pub Unmarked : List Bool → List RefId → List RefId
Unmarked marks rs = filter (λ r. not (is_of_marked_file marks r)) rs

pub one_renewed : (n : ℕ) (marks : List Bool) (rows : List ℕ) (lists old now : List (List RefId)) (list : List RefId) → n < length rows → get_or rows n 0 < length now → AreRenewedTo n marks rows lists old now
    → ((all : List RefId) → ReferencesAreRising all → Unmarked marks all ≡ Unmarked marks (get_or now (get_or rows n 0) []) → filter (is_of_marked_file marks) all ≡ get_or lists n [] → list ≡ all)
    → AreRenewedTo (n + 1) marks rows lists old (slice_set now (get_or rows n 0) list)
one_renewed n marks rows lists old now list l within state exact row all w = elim (cases_eq row (get_or rows n 0)) [
  | inl e ↦
      let stay : Unmarked marks all ≡ Unmarked marks (get_or now (get_or rows n 0) []) = (elim (state row all w) [
        | inl a ↦ w.stay ∙ ap (Unmarked marks) (sym a.1) ∙ ap (λ q. Unmarked marks (get_or now q [])) e
        | inr is ↦ ap (Unmarked marks) (sym is) ∙ ap (λ q. Unmarked marks (get_or now q [])) e
      ]) in
      inr (ap (λ q. get_or (slice_set now (get_or rows n 0) list) q []) e ∙ get_or-set_same now (get_or rows n 0) list [] within ∙ exact all w.rising stay (w.fresh n l (sym e)))
  | inr ne ↦
      let other : get_or (slice_set now (get_or rows n 0) list) row [] ≡ get_or now row [] = get_or-set_other now (get_or rows n 0) row list [] ne in
      elim (state row all w) [
        | inl a ↦ inl (
          λ k b is. (elim (cases_lt k n) [
            | inl before ↦ a.0 k before is
            | inr past ↦
                let e : k ≡ n = omega (arith, b, past) in
                ne (sym is ∙ ap (λ i. get_or rows i 0) e)
          ]),
          other ∙ a.1,
        )
        | inr is ↦ inr (other ∙ is)
      ]
]

pub none_yet : (marks : List Bool) (rows : List ℕ) (lists old : List (List RefId)) → AreRenewedTo 0 marks rows lists old old
none_yet marks rows lists old row all w = inl ((λ k l is. absurd (omega (arith, l))), refl)

pub renewed_all : (n : ℕ) (marks : List Bool) (rows : List ℕ) (lists old now : List (List RefId)) → length rows ≤ n → AreRenewedTo n marks rows lists old now → AreRenewed marks rows lists old now
renewed_all n marks rows lists old now past h row all w = elim (h row all w) [
  | inl a ↦ inl ((λ there. a.0 there.0 (omega (arith, there.1, past)) (get_or_default rows there.0 0 row there.1 ∙ there.2)), a.1)
  | inr is ↦ inr is
]

-- ---- what passes a test, where nothing fails it

pub all_stay : {X : Type 0} (p : X → Bool) (xs : List X) → filter p xs ≡ [] → filter (λ x. not (p x)) xs ≡ xs
all_stay p [] h = refl
all_stay p (x ∷ xs) h = elim (cases_Bool (p x)) [
  | inl it ↦ let e = sym (cond-true (p x) (x ∷ filter p xs) (filter p xs) it) ∙ h in absurd (cc)
  | inr other ↦
      ap (λ b. cond (not b) (x ∷ filter (λ y. not (p y)) xs) (filter (λ y. not (p y)) xs)) other
      ∙ ap (λ ys. x ∷ ys) (all_stay p xs (sym (cond-false (p x) (x ∷ filter p xs) (filter p xs) other) ∙ h))
]

-- ---- the references of marked files

all_left : {X : Type 0} (P : X → Type 0) (xs ys : List X) → All P (xs ++ ys) → All P xs
all_left P xs ys h k d l = subst P (get_or_append_left xs ys d k l) (h k d (omega (arith, l, length-append xs ys)))

all_right : {X : Type 0} (P : X → Type 0) (xs ys : List X) → All P (xs ++ ys) → All P ys
all_right P xs ys h k d l = subst P (get_or-append-add xs ys k d) (h (length xs + k) d (omega (arith, l, length-append xs ys)))

pub from_marked : (marks : List Bool) (row n : ℕ) (mss : List (List Meant)) → references_to_row row (marked_meant marks n mss) ≡ gathered meant_row marks row n mss
from_marked marks row n [] = refl
from_marked marks row n (ms ∷ mss) =
    references_more row (if_marked marks n ms) (marked_meant marks (suc n) mss)
    ∙ ap (λ z. references_to_row row (if_marked marks n ms) ++ z) (from_marked marks row (suc n) mss)
    ∙ ap (λ z. z ++ gathered meant_row marks row (suc n) mss) (go (get_or marks n false))
  where
    go : (b : Bool) → references_to_row row (if b then map (meant_row n) ms else []) ≡ (if b then references_to_row row (map (meant_row n) ms) else [])
    go true = refl
    go false = refl

own_named : (rows : List ℕ) (file : ℕ) (ms : List Meant) → All (λ m. Contains rows m.row) (map (meant_row file) ms) → AreRowsNamed rows ms
own_named rows file ms h k d l = subst (λ (m : MeantRow). Contains rows m.row) (get_or-map (meant_row file) ms k d (meant_row file d) l) (h k (meant_row file d) (omega (arith, l, length-map ms (meant_row file))))

-- of each marked file what is meant is among the rows, where it is of all
pub each_named : (marks : List Bool) (rows : List ℕ) (n : ℕ) (mss : List (List Meant)) → All (λ m. Contains rows m.row) (marked_meant marks n mss) → (k : ℕ) → get_or marks (n + k) false ≡ true → AreRowsNamed rows (get_or mss k [])
each_named marks rows n [] h k it = λ j d l. absurd (omega (arith, l))
each_named marks rows n (ms ∷ mss) h zero it =
    let e : n + 0 ≡ n = omega arith in
    own_named rows n ms (subst (All (λ (m : MeantRow). Contains rows m.row)) (ap (λ b. if b then map (meant_row n) ms else []) (ap (λ k. get_or marks k false) (sym e) ∙ it)) (all_left (λ (m : MeantRow). Contains rows m.row) (if_marked marks n ms) (marked_meant marks (suc n) mss) h))
each_named marks rows n (ms ∷ mss) h (suc k) it =
    let e : suc n + k ≡ n + suc k = omega arith in
    each_named marks rows (suc n) mss (all_right (λ (m : MeantRow). Contains rows m.row) (if_marked marks n ms) (marked_meant marks (suc n) mss) h) k (ap (λ i. get_or marks i false) e ∙ it)

none_own : (rows : List ℕ) (row file : ℕ) (ms : List Meant) → (Contains rows row → ⊥) → AreRowsNamed rows ms → references_to_row row (map (meant_row file) ms) ≡ []
none_own rows row file ms none named = not_meant rows row (map (meant_row file) ms) none (λ k d l.
    (let j : k < length ms = omega (arith, l, length-map ms (meant_row file)) in
    let e : Meant = record { token = 0; first = 0; row = 0 } in
    subst (λ (m : MeantRow). Contains rows m.row) (sym (get_or-map (meant_row file) ms k e d j)) (named k e j)))

-- nothing is gathered for a row that no marked file means
pub none_gathered : (marks : List Bool) (rows : List ℕ) (row n : ℕ) (mss : List (List Meant)) → (Contains rows row → ⊥) → ((k : ℕ) → get_or marks (n + k) false ≡ true → AreRowsNamed rows (get_or mss k [])) → gathered meant_row marks row n mss ≡ []
none_gathered marks rows row n [] none named = refl
none_gathered marks rows row n (ms ∷ mss) none named =
    ap (λ z. z ++ gathered meant_row marks row (suc n) mss) here
    ∙ none_gathered marks rows row (suc n) mss none (λ k it. named (suc k) (ap (λ i. get_or marks i false) (step k) ∙ it))
  where
    step : (k : ℕ) → n + suc k ≡ suc n + k
    step k = omega arith

    here : (if get_or marks n false then references_to_row row (map (meant_row n) ms) else []) ≡ []
    here = elim (cases_Bool (get_or marks n false)) [
      | inl it ↦
          cond-true (get_or marks n false) (references_to_row row (map (meant_row n) ms)) [] it
          ∙ none_own rows row n ms none (named 0 (ap (λ i. get_or marks i false) (omega arith) ∙ it))
      | inr other ↦ cond-false (get_or marks n false) (references_to_row row (map (meant_row n) ms)) [] other
    ]

-- ---- the lists before the changes

pub length_before : (old : List (Change (Vec Meant))) (meant : List (Vec Meant)) → length (undone old meant) ≡ length meant
length_before [] meant = refl
length_before (c ∷ old) meant = length-set (undone old meant) c.place c.was ∙ length_before old meant

pub before_more : (c : Change (Vec Meant)) (old : List (Change (Vec Meant))) (meant : List (Vec Meant)) → map (λ (v : Vec Meant). v.items) (undone (c ∷ old) meant) ≡ slice_set (map (λ (v : Vec Meant). v.items) (undone old meant)) c.place c.was.items
before_more c old meant = map-set (λ (v : Vec Meant). v.items) (undone old meant) c.place c.was

-- of a file that is not marked the list was what it is
pub same_before : (marks : List Bool) (old : List (Change (Vec Meant))) (meant : List (Vec Meant)) → All (λ c. get_or marks c.place false ≡ true) old → (file : ℕ) → get_or marks file false ≡ false
    → get_or (map (λ v. v.items) (undone old meant)) file [] ≡ get_or (map (λ v. v.items) meant) file []
same_before marks [] meant h file other = refl
same_before marks (c ∷ old) meant h file other =
    ap (λ (z : List (List Meant)). get_or z file []) (before_more c old meant)
    ∙ get_or-set_other (map (λ (v : Vec Meant). v.items) (undone old meant)) c.place file c.was.items [] (λ e. both_ways (get_or marks file false) other (ap (λ k. get_or marks k false) e ∙ h 0 c (omega arith)))
    ∙ same_before marks old meant (λ k d l. h (suc k) d (omega (arith, l))) file other

one_before : (P : List Meant → Type 0) (xs : List (List Meant)) (place k : ℕ) (was : List Meant) → P (get_or xs k []) → P was → P (get_or (slice_set xs place was) k [])
one_before P xs place k was now had = elim (cases_eq k place) [
  | inl e ↦ elim (cases_lt place (length xs)) [
    | inl l ↦ subst (λ j. P (get_or (slice_set xs place was) j [])) (sym e) (subst P (sym (get_or-set_same xs place was [] l)) had)
    | inr past ↦ subst (λ (z : List (List Meant)). P (get_or z k [])) (sym (set_past xs place was past)) now
  ]
  | inr ne ↦ subst P (sym (get_or-set_other xs place k was [] ne)) now
]

-- what is known of the lists of marked files, and of those that they had, is known of those before
pub known_before : (P : List Meant → Type 0) (marks : List Bool) (old : List (Change (Vec Meant))) (meant : List (Vec Meant)) → All (λ c. P c.was.items) old → ((k : ℕ) → get_or marks k false ≡ true → P (get_or (map (λ v. v.items) meant) k []))
    → (k : ℕ) → get_or marks k false ≡ true → P (get_or (map (λ v. v.items) (undone old meant)) k [])
known_before P marks [] meant was now k it = now k it
known_before P marks (c ∷ old) meant was now k it =
    subst (λ (z : List (List Meant)). P (get_or z k [])) (sym (before_more c old meant))
    (one_before P (map (λ (v : Vec Meant). v.items) (undone old meant)) c.place k c.was.items (known_before P marks old meant (λ j d l. was (suc j) d (omega (arith, l))) now k it) (was 0 c (omega arith)))

-- ---- all lists

module _ (rise : ReferencesRise Meant) (stay : UnmarkedReferencesStay Meant) (marked : MarkedAreGathered Meant) (marks : List Bool) (rows : List ℕ) (lists : List (List RefId)) (before now : List (List Meant)) (len : length before ≡ length now)
    (same : (file : ℕ) → get_or marks file false ≡ false → get_or before file [] ≡ get_or now file []) (g : AreGathered rows lists (marked_meant marks 0 now)) where
  of_file : IsOfFile meant_row
  of_file file m = refl

  abbrev pub Expected : ℕ → List RefId
  Expected row = references_to_row row (all_meant_by meant_row 0 now)

  abbrev pub Was : ℕ → List RefId
  Was row = references_to_row row (all_meant_by meant_row 0 before)

  unmarked : (row : ℕ) → Unmarked marks (Expected row) ≡ Unmarked marks (Was row)
  unmarked row = stay meant_row of_file marks row before now len same

  pub is_wanted : (row : ℕ) (had : List RefId) → had ≡ Was row → IsWanted marks rows lists row had (Expected row)
  is_wanted row had e = record {
    rising = rise meant_row of_file row now;
    stay = unmarked row ∙ ap (Unmarked marks) (sym e);
    fresh = λ k l is. marked meant_row of_file marks row now ∙ sym (from_marked marks row 0 now) ∙ ap (λ q. references_to_row q (marked_meant marks 0 now)) (sym is) ∙ sym (g.each k l);
  }

  pub stays : (row : ℕ) → (Contains rows row → ⊥) → ((file : ℕ) → get_or marks file false ≡ true → AreRowsNamed rows (get_or before file [])) → Was row ≡ Expected row
  stays row none named =
      sym (all_stay (is_of_marked_file marks) (Was row) (marked meant_row of_file marks row before ∙ none_gathered marks rows row 0 before none (λ k it. named k (ap (λ i. get_or marks i false) (zero_more k) ∙ it))))
      ∙ sym (unmarked row)
      ∙ all_stay (is_of_marked_file marks) (Expected row) (marked meant_row of_file marks row now ∙ sym (from_marked marks row 0 now) ∙ not_meant rows row (marked_meant marks 0 now) none g.named)
    where
      zero_more : (k : ℕ) → k ≡ 0 + k
      zero_more k = omega arith

  pub all_renewed : (old new : List (List RefId)) → ((row : ℕ) → get_or old row [] ≡ Was row) → ((file : ℕ) → get_or marks file false ≡ true → AreRowsNamed rows (get_or before file [])) → AreRenewed marks rows lists old new → AreReferencesOf new now
  all_renewed old new had named renewed row = elim (renewed row (Expected row) (is_wanted row (get_or old row []) (had row))) [
    | inl a ↦ a.1 ∙ had row ∙ stays row a.0 named
    | inr is ↦ is
  ]
