-- What is gathered of the names of files, one row more; and when a file is kept in sight.
use Rattle.std.proofs.Common.{◌≡◌, ◌⊎◌, ℕ, ◌+◌, ◌<◌, ◌&&◌, Bool, true, false, not, List, [], ◌∷◌, ◌++◌, length, get_or, map, take, drop, nat_eq, sym, subst, inl, inr, arith, All, refl, take-append-drop}
use Rattle.std.specs.Global.{Vec}
use Rattle.std.specs.List.{Contains, list_all, list_any}
use Rattle.std.proofs.lemmas.Bool.{and_parts, both_ways, cases_Bool, cases_lt, cond-false, cond-true, eqb-true, not-true}
use Rattle.std.proofs.lemmas.List.{get_or_past, length-map}
use Rattle.std.proofs.lemmas.List.Elements.{All-nil, All-push, All-weaker, Contains-append_left, Contains-get_or, Contains-push}
use Rattle.std.proofs.lemmas.List.Folds.{list_all_at}
use Rattle.indexmap.proofs.CallerLemmas.{Contains-insert_key}
use Rattle.indexmap.specs.IndexSet.{insert_key}
use Rattle.proto_base.specs.Words.{word_key}
use Rattle.proto_names_table.specs.declared.ids.Meant.{Meant}
use Rattle.proto_names_affected.specs.Marking.{IsMarked, MarksStay, begins_so}
use Rattle.proto_names_affected.specs.Sight.{AreMoreGathered, HasLastWord, IsGathered, IsKeptInSight, IsNewlySeen, IsOwnOrApart, IsSightMarked, NoneBegins, is_seen_at}
use Rattle.proto_names_affected.proofs.KindRows.{key_stays, there_cases}
use Rattle.proto_names_affected.proofs.Marks.{none_begins}
use Rattle.proto_names_rules.specs.Joined.{joined, ArePlain}
use Rattle.proto_names_table.specs.Tables.{names_of}
use Rattle.proto_names_table.specs.declared.table.Table.{Table}

-- ---- names that are gathered

module _ (t : Table) where
  abbrev pub AreRows : List ℕ → Type 0
  AreRows rows = All (λ row. row < length t.rows.items) rows

  pub more_same : (packages keys : List ℕ) → AreRows packages → AreMoreGathered t packages keys packages keys
  more_same packages keys within = record { packages_stay = λ row c. c; keys_stay = λ key c. c; within = within }

  pub more_again : (p0 k0 p1 k1 p2 k2 : List ℕ) → AreMoreGathered t p0 k0 p1 k1 → AreMoreGathered t p1 k1 p2 k2 → AreMoreGathered t p0 k0 p2 k2
  more_again p0 k0 p1 k1 p2 k2 a b = record {
    packages_stay = λ row c. b.packages_stay row (a.packages_stay row c);
    keys_stay = λ key c. b.keys_stay key (a.keys_stay key c);
    within = b.within;
  }

  pub gathered_stays : (p0 k0 p1 k1 : List ℕ) → AreMoreGathered t p0 k0 p1 k1 → (row : ℕ) → IsGathered t p0 k0 row → IsGathered t p1 k1 row
  gathered_stays p0 k0 p1 k1 more row h outer top = elim (h outer top) [
    | inl there ↦ inl (more.packages_stay row there)
    | inr has ↦ inr (λ front word plain named. more.keys_stay (word_key word) (has front word plain named))
  ]

  rows_more : (rows : List ℕ) (row : ℕ) → AreRows rows → row < length t.rows.items → AreRows (insert_key nat_eq rows row)
  rows_more rows row h l = elim (cases_Bool (list_any (nat_eq row) rows)) [
    | inl it ↦ subst AreRows (sym (cond-true (list_any (nat_eq row) rows) rows (rows ++ row ∷ []) it)) h
    | inr other ↦ subst AreRows (sym (cond-false (list_any (nat_eq row) rows) rows (rows ++ row ∷ []) other)) (All-push (λ r. r < length t.rows.items) rows row h l)
  ]

  pub package_more : (p0 k p1 : List ℕ) (row : ℕ) → p1 ≡ insert_key nat_eq p0 row → row < length t.rows.items → AreRows p0 → AreMoreGathered t p0 k p1 k
  package_more p0 k p1 row e l within = record {
    packages_stay = λ r c. subst (λ (z : List ℕ). Contains z r) (sym e) (key_stays p0 row r c);
    keys_stay = λ key c. c;
    within = subst AreRows (sym e) (rows_more p0 row within l);
  }

  pub package_gathered : (p0 k p1 : List ℕ) (row : ℕ) → p1 ≡ insert_key nat_eq p0 row → IsGathered t p1 k row
  package_gathered p0 k p1 row e outer top = inl (subst (λ (z : List ℕ). Contains z row) (sym e) (Contains-insert_key nat_eq (λ x y h. eqb-true x y h) p0 row))

  pub key_more : (p k0 k1 : List ℕ) (key : ℕ) → k1 ≡ insert_key nat_eq k0 key → AreRows p → AreMoreGathered t p k0 p k1
  key_more p k0 k1 key e within = record {
    packages_stay = λ row c. c;
    keys_stay = λ x c. subst (λ (z : List ℕ). Contains z x) (sym e) (key_stays k0 key x c);
    within = within;
  }

  pub key_gathered : (p k0 k1 : List ℕ) (key row : ℕ) → k1 ≡ insert_key nat_eq k0 key
      → ((front : List (List ℕ)) (word : List ℕ) → ArePlain (front ++ word ∷ []) → get_or (names_of t) row [] ≡ joined (front ++ word ∷ []) → key ≡ word_key word) → IsGathered t p k1 row
  key_gathered p k0 k1 key row e is outer top = inr (λ front word plain named.
      subst (Contains k1) (is front word plain named) (subst (λ (z : List ℕ). Contains z key) (sym e) (Contains-insert_key nat_eq (λ x y h. eqb-true x y h) k0 key)))

  -- files past all rows declare nothing
  pub newly_gathered : (rows : List (Vec ℕ)) (marks before now : List Bool) (p k : List ℕ) → ((g : ℕ) → g < length rows → IsNewlySeen before now g → IsMarked marks g)
      → ((g : ℕ) → IsMarked marks g → All (IsGathered t p k) (get_or (map (λ v. v.items) rows) g [])) → (g : ℕ) → IsNewlySeen before now g → All (IsGathered t p k) (get_or (map (λ v. v.items) rows) g [])
  newly_gathered rows marks before now p k seen gathered g new = elim (cases_lt g (length rows)) [
    | inl l ↦ gathered g (seen g l new)
    | inr past ↦ subst (All (IsGathered t p k)) (sym (get_or_past (map (λ (v : Vec ℕ). v.items) rows) g [] (omega (arith, past, length-map rows (λ (v : Vec ℕ). v.items))))) (All-nil (IsGathered t p k))
  ]

-- ---- packages that are none of a file's own

-- the first rows of a list are rows of it
pub head_within : (rows : List ℕ) (k row : ℕ) → Contains (take k rows) row → Contains rows row
head_within rows k row c = subst (λ (z : List ℕ). Contains z row) (take-append-drop k rows) (Contains-append_left (take k rows) (drop k rows) row c)

-- each of these packages is one of the own, or among the rows, which are some of all
pub record AreForeign (packages own all rows : List ℕ) : Type 0 where
  pub each : (row : ℕ) → Contains packages row → Contains own row ⊎ Contains rows row
  pub only : All (Contains all) rows

pub foreign_none : (own all : List ℕ) → AreForeign [] own all []
foreign_none own all = record { each = λ row c. absurd (omega (arith, c.1)); only = All-nil (Contains all) }

pub foreign_more : (all own old new : List ℕ) (i : ℕ) → i < length all → (Contains own (get_or all i 0) × (new ≡ old)) ⊎ (new ≡ old ++ get_or all i 0 ∷ []) → AreForeign (take i all) own all old → AreForeign (take (i + 1) all) own all new
foreign_more all own old new i l has h = elim has [
  | inl a ↦ record {
    each = λ row c. elim (there_cases all i 0 (get_or all i 0) l refl row c) [
      | inl before ↦ subst (λ (z : List ℕ). Contains own row ⊎ Contains z row) (sym a.1) (h.each row before)
      | inr e ↦ inl (subst (Contains own) e a.0)
    ];
    only = subst (All (Contains all)) (sym a.1) h.only;
  }
  | inr put ↦ record {
    each = λ row c. elim (there_cases all i 0 (get_or all i 0) l refl row c) [
      | inl before ↦ elim (h.each row before) [
        | inl o ↦ inl o
        | inr there ↦ inr (subst (λ (z : List ℕ). Contains z row) (sym put) (Contains-append_left old (get_or all i 0 ∷ []) row there))
      ]
      | inr e ↦ inr (subst (Contains new) e (subst (λ (z : List ℕ). Contains z (get_or all i 0)) (sym put) (Contains-push old (get_or all i 0))))
    ];
    only = subst (All (Contains all)) (sym put) (All-push (Contains all) old (get_or all i 0) h.only (Contains-get_or all i 0 l));
  }
]

-- ---- a file that is kept in sight

all_pass : {X : Type 0} (p : X → Bool) (xs : List X) → list_all p xs ≡ true → All (λ x. p x ≡ true) xs
all_pass p xs h k d l = elim (cases_Bool (p (get_or xs k d))) [
  | inl passes ↦ passes
  | inr fails ↦ absurd (both_ways (list_all p xs) (list_all_at p xs k d l fails) h)
]

module _ (t : Table) (ms : List Meant) where
  apart : (keys : List ℕ) (row : ℕ) → HasLastWord t keys row → begins_so keys ms ≡ false → NoneBegins t ms row
  apart keys row has none front word plain named m there e = none_begins keys ms m none there (subst (Contains keys) (sym e) (has front word plain named))

  pub kept_in_sight : (rows : List (List ℕ)) (own : List ℕ) (before now : List Bool) (p k f : List ℕ) → (list_all (λ (m : Meant). is_seen_at t now m.row) ms && (not (begins_so k ms) && not (begins_so f ms))) ≡ true
      → ((row : ℕ) → Contains p row → Contains own row ⊎ HasLastWord t f row) → ((g : ℕ) → IsNewlySeen before now g → All (IsGathered t p k) (get_or rows g [])) → IsKeptInSight t rows own ms before now
  kept_in_sight rows own before now p k f told foreign gathered =
      let a = and_parts (list_all (λ (m : Meant). is_seen_at t now m.row) ms) (not (begins_so k ms) && not (begins_so f ms)) told in
      let b = and_parts (not (begins_so k ms)) (not (begins_so f ms)) a.1 in
      record {
        none_hidden = all_pass (λ (m : Meant). is_seen_at t now m.row) ms a.0;
        none_shown = λ g new. All-weaker (IsGathered t p k) (IsOwnOrApart t own ms) (λ row h outer top. elim (h outer top) [
          | inl there ↦ elim (foreign row there) [
            | inl o ↦ inl o
            | inr has ↦ inr (apart f row has (not-true (begins_so f ms) b.1))
          ]
          | inr has ↦ inr (apart k row has (not-true (begins_so k ms) b.0))
        ]) (get_or rows g []) (gathered g new);
      }

-- marks that are set stay set
pub sight_stays : (a b : List Bool) (t : Table) (rows : List (List ℕ)) (meant : List (List Meant)) (before now : List (List Bool)) → MarksStay a b → (file : ℕ) → IsSightMarked a t rows meant before now file → IsSightMarked b t rows meant before now file
sight_stays a b t rows meant before now stay file h = elim h [
  | inl marked ↦ inl (stay.set file marked)
  | inr kept ↦ inr kept
]
