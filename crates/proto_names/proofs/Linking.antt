-- The names of a link are those of its table.
use Rattle.std.proofs.Common.{◌≡◌, ◌≢◌, ◌⊎◌, ℕ, ◌<◌, ◌≤◌, Bool, true, false, ◌&&◌, ◌||◌, List, [], ◌∷◌, length, get_or, map, slice_get, Option, option_map, None, Some, refl, sym, ◌∙◌, ap, subst, inl, inr, arith, if◌then◌else◌, All, option_and_then, bytes_eq}
use Rattle.proto_base.proofs.Common.{Vec, list_any, cases_Bool, false_from_ne_true, both_ways, and_parts, and_from, get_or-map, get_or_default, get_or_past, length-map, list_any_at, slice_get_read, none-some, same_Some, any_to, any_map, word_from_same, same_from_word}
use Rattle.proto_names_rules.proofs.Common.{joined, ArePlain, is_package, Workspace, shows, MarksSeen, names_apart}
use Rattle.proto_names_table.proofs.Common.{IsIndexOf, is_seen, names_of, aboves_of, look, IsTable, shows_from, shows_to, pick}
use Rattle.proto_names.specs.Linking.{NameOf, LinkOf, declared_row, if_declared, name_at, name_of_row, name_text, sees_one, shows_text, is_visible}
use Rattle.proto_names.proofs.NamesThere as name_there
use Rattle.proto_names.proofs.NamesThere.{declared_from, has_files, name_is, some_text}
use Rattle.proto_names_table.specs.declared.table.Row.{Row}
use Rattle.proto_names_table.specs.declared.table.Table.{Table}

-- the list of the vector that stands at a place
pub inner_at : {X : Type 0} (all : List (Vec X)) (lists : List (List X)) → map (λ v. v.items) all ≡ lists → (vs : List (Vec X)) → vs ≡ all → (i : ℕ) → i < length vs
    → (v : Vec X) → v ≡ get_or vs i v → (xs : List X) → xs ≡ v.items → xs ≡ get_or lists i []
inner_at all lists same vs vs_are i within v v_is xs xs_are =
    xs_are ∙ ap (λ z. z.items) v_is ∙ sym (get_or-map (λ z. z.items) vs i v [] within) ∙ ap (λ (z : List (Vec _)). get_or (map (λ x. x.items) z) i []) vs_are ∙ ap (λ (z : List (List _)). get_or z i []) same

-- past the last vector there is none
pub inner_past : {X : Type 0} (all : List (Vec X)) (lists : List (List X)) → map (λ v. v.items) all ≡ lists → (vs : List (Vec X)) → vs ≡ all → (i : ℕ) → length vs ≤ i → [] ≡ get_or lists i []
inner_past all lists same vs vs_are i past =
    let n = length-map vs (λ z. z.items) in
    sym (get_or_past (map (λ z. z.items) vs) i [] (omega (arith, past, n))) ∙ ap (λ (z : List (Vec _)). get_or (map (λ x. x.items) z) i []) vs_are ∙ ap (λ (z : List (List _)). get_or z i []) same

-- what holds of each vector's list holds of the one at a place
pub inner_has : {X : Type 0} (P : List X → Type 0) (all : List (Vec X)) → All (λ v. P v.items) all → (vs : List (Vec X)) → vs ≡ all → (i : ℕ) → i < length vs
    → (v : Vec X) → v ≡ get_or vs i v → (xs : List X) → xs ≡ v.items → P xs
inner_has P all each vs vs_are i within v v_is xs xs_are = subst P (sym (xs_are ∙ ap (λ z. z.items) v_is)) (subst (All (λ v. P v.items)) (sym vs_are) each i v within)

module _ (rows : List Row) (names : List NameOf) (same : map name_of_row rows ≡ names) (given : List Row) (is : given ≡ rows) (row : ℕ) where
  -- what a name has is what its row says
  pub known : {A : Type 0} (f : NameOf → A) (found : Option Row) → found ≡ option_and_then declared_row (slice_get given row) → option_map (λ r. f (name_of_row r)) found ≡ option_map f (option_and_then if_declared (slice_get names row))
  known f found found_is =
      through found
      ∙ ap (λ o. option_map f (option_map name_of_row o)) found_is
      ∙ ap (λ (rs : List Row). option_map f (option_map name_of_row (option_and_then declared_row (slice_get rs row)))) is
      ∙ ap (option_map f) (sym (name_is rows names same row))
    where
      through : (o : Option Row) → option_map (λ r. f (name_of_row r)) o ≡ option_map f (option_map name_of_row o)
      through None = refl
      through (Some r) = refl

  -- the same of a name that is no package's
  pub own_known : (f : NameOf → ℕ) (found : Option Row) → found ≡ option_and_then (λ r. if is_package r.symbol.kind then None else Some r) (option_and_then declared_row (slice_get given row))
      → option_map (λ r. f (name_of_row r)) found ≡ option_and_then (λ n. if is_package n.kind then None else Some (f n)) (option_and_then if_declared (slice_get names row))
  own_known f found found_is =
      ap (option_map (λ r. f (name_of_row r))) found_is
      ∙ go (option_and_then declared_row (slice_get given row))
      ∙ ap (λ (rs : List Row). option_and_then (λ n. if is_package n.kind then None else Some (f n)) (option_map name_of_row (option_and_then declared_row (slice_get rs row)))) is
      ∙ ap (option_and_then (λ n. if is_package n.kind then None else Some (f n))) (sym (name_is rows names same row))
    where
      pick_own : (b : Bool) (r : Row) → option_map (λ r. f (name_of_row r)) (if b then None else Some r) ≡ (if b then None else Some (f (name_of_row r)))
      pick_own true r = refl
      pick_own false r = refl

      go : (o : Option Row) → option_map (λ r. f (name_of_row r)) (option_and_then (λ r. if is_package r.symbol.kind then None else Some r) o) ≡ option_and_then (λ n. if is_package n.kind then None else Some (f n)) (option_map name_of_row o)
      go None = refl
      go (Some r) = pick_own (is_package r.symbol.kind) r

-- a row that is declared, or none
pub row_known : (rows : List Row) (k : ℕ) (r : Row) → k < length rows → r ≡ get_or rows k r → (b : Bool) → b ≡ r.is_declared → (if b then Some r else None) ≡ option_and_then declared_row (slice_get rows k)
row_known rows k r within r_is b b_is =
    ap (λ b. if b then Some r else None) b_is ∙ sym (ap (option_and_then declared_row) (slice_get_read rows (length rows) k r refl within r_is))

-- a row that is found is declared
pub from_declared : (r : Row) (o : Option Row) → Some r ≡ option_and_then declared_row o → r.is_declared ≡ true
from_declared r None h = absurd (none-some r (sym h))
from_declared r (Some x) h = elim (cases_Bool x.is_declared) [
  | inl e ↦
      let same : r ≡ x = same_Some r x (h ∙ ap (λ b. if b then Some x else None) e) in
      ap (λ (z : Row). z.is_declared) same ∙ e
  | inr e ↦ absurd (none-some r (sym (h ∙ ap (λ b. if b then Some x else None) e)))
]

-- a row but for a package's, or none
pub unless_package : (r : Row) (o : Option Row) → Some r ≡ o → (b : Bool) → b ≡ is_package r.symbol.kind → (if b then None else Some r) ≡ option_and_then (λ r. if is_package r.symbol.kind then None else Some r) o
unless_package r o h b b_is = ap (λ b. if b then None else Some r) b_is ∙ ap (option_and_then (λ (r : Row). if is_package r.symbol.kind then None else Some r)) h

module _ (t : Table) (ok : IsTable t) where
  sized : length (names_of t) ≡ length t.rows.items
  sized = length-map t.rows.items (λ r. r.name)

  apart : (i j : ℕ) → i < length t.rows.items → j < length t.rows.items → get_or (names_of t) i [] ≡ get_or (names_of t) j [] → i ≡ j
  apart i j li lj e = names_apart (names_of t) (aboves_of t) (look t) ok.forest i j (omega (arith, li, sized)) (omega (arith, lj, sized)) e

  module _ (l : LinkOf) (same : map name_of_row t.rows.items ≡ l.names) where
    text_to : (row : ℕ) (text : List ℕ) → name_text l row ≡ Some text → (row < length t.rows.items) × (get_or (names_of t) row [] ≡ text)
    text_to row text h =
        let x = some_text (name_at l row) text h in
        let r = name_there.text_to t l same row x.0 x.1 in
        (r.0, r.1 ∙ x.2)

    pub text_none : (text : List ℕ) → ((k : ℕ) → k < length t.rows.items → get_or (names_of t) k [] ≢ text) → (row : ℕ) → name_text l row ≢ Some text
    text_none text none row h = let r = text_to row text h in none row r.0 r.1

    -- no name has the text of a row that no file declares
    pub text_forgotten : (text : List ℕ) (k : ℕ) (d : Row) → k < length t.rows.items → get_or (names_of t) k [] ≡ text → (get_or t.rows.items k d).is_declared ≡ false → (row : ℕ) → name_text l row ≢ Some text
    text_forgotten text k d lk e dead row h =
        let x = some_text (name_at l row) text h in
        let r = name_there.name_to t l same row x.0 x.1 in
        let here : row ≡ k = apart row k r.0 lk ((text_to row text h).1 ∙ sym e) in
        let own = get_or t.rows.items row d in
        let some : own.is_declared ≡ true = declared_from own (subst (λ (y : NameOf). 0 < length y.files) (sym (r.1 d)) (has_files l row x.0 x.1)) in
        both_ways own.is_declared (ap (λ i. (get_or t.rows.items i d).is_declared) here ∙ dead) some

    pub text_once : (i j : ℕ) (text : List ℕ) → name_text l i ≡ Some text → name_text l j ≡ Some text → i ≡ j
    text_once i j text hi hj = let a = text_to i text hi in let b = text_to j text hj in apart i j a.0 b.0 (a.1 ∙ sym b.1)

  module _ (seen : List Bool) (text : List ℕ) where
    test : Row → Bool
    test r = bytes_eq r.name text && is_seen seen r

    -- a row that passes has the text, and one of its files is marked
    passing : list_any test t.rows.items ≡ true → (k : ℕ) × (k < length t.rows.items) × (get_or (names_of t) k [] ≡ text) × ((d : Row) → is_seen seen (get_or t.rows.items k d) ≡ true)
    unfolding test
    passing h =
        let x = any_to test t.rows.items h in
        let p = and_parts (bytes_eq x.0.name text) (is_seen seen x.0) x.2 in
        let k = x.1.0 in (
          k,
          x.1.1,
          get_or-map (λ r. r.name) t.rows.items k x.0 [] x.1.1 ∙ ap (λ (r : Row). r.name) x.1.2 ∙ word_from_same x.0.name text p.0,
          λ d. ap (is_seen seen) (get_or_default t.rows.items k d x.0 x.1.1 ∙ x.1.2) ∙ p.1,
        )

    pub shows_row : (row : ℕ) (d : Row) → row < length t.rows.items → get_or (names_of t) row [] ≡ text → is_seen seen (get_or t.rows.items row d) ≡ shows_text seen text (map name_of_row t.rows.items)
    unfolding test
    shows_row row d lr e = sym (any_map (λ n. bytes_eq n.text text && sees_one seen n.files) name_of_row t.rows.items ∙ go (cases_Bool (is_seen seen (get_or t.rows.items row d))))
      where
        go : (is_seen seen (get_or t.rows.items row d) ≡ true) ⊎ (is_seen seen (get_or t.rows.items row d) ≡ false) → list_any test t.rows.items ≡ is_seen seen (get_or t.rows.items row d)
        go (inl h) =
            list_any_at test t.rows.items row d lr
            (and_from _ _ (same_from_word (get_or t.rows.items row d).name text (sym (get_or-map (λ r. r.name) t.rows.items row d [] lr) ∙ e)) h) ∙ sym h
        go (inr h) =
            false_from_ne_true (list_any test t.rows.items) (λ q.
            let p = passing q in
            let here : p.0 ≡ row = apart p.0 row p.1 lr (p.2 ∙ sym e) in
            both_ways (is_seen seen (get_or t.rows.items row d)) h (ap (λ i. is_seen seen (get_or t.rows.items i d)) (sym here) ∙ p.3 d)) ∙ sym h

    pub row_shown : shows_text seen text (map name_of_row t.rows.items) ≡ true → (k : ℕ) × (k < length t.rows.items) × (get_or (names_of t) k [] ≡ text) × ((d : Row) → is_seen seen (get_or t.rows.items k d) ≡ true)
    unfolding test
    row_shown h = passing (sym (any_map (λ n. bytes_eq n.text text && sees_one seen n.files) name_of_row t.rows.items) ∙ h)

    pub shows_none : ((k : ℕ) → k < length t.rows.items → get_or (names_of t) k [] ≢ text) → false ≡ shows_text seen text (map name_of_row t.rows.items)
    unfolding test
    shows_none none =
        sym (any_map (λ n. bytes_eq n.text text && sees_one seen n.files) name_of_row t.rows.items ∙ false_from_ne_true (list_any test t.rows.items) (λ q. let p = passing q in none p.0 p.1 p.2))

sees_nothing : (files : List ℕ) → sees_one [] files ≡ false
sees_nothing [] = refl
sees_nothing (f ∷ files) = sees_nothing files

and_false : (a b : Bool) → b ≡ false → (a && b) ≡ false
and_false true b h = h
and_false false b h = refl

-- where nothing is marked, nothing is shown
pub shows_nothing : (text : List ℕ) (names : List NameOf) → shows_text [] text names ≡ false
shows_nothing text [] = refl
shows_nothing text (n ∷ names) =
    ap (λ (b : Bool). b || shows_text [] text names) (and_false (bytes_eq n.text text) (sees_one [] n.files) (sees_nothing n.files)) ∙ shows_nothing text names

-- A link of the names of a workspace: a name is visible where the workspace shows it.
module _ (t : Table) (ok : IsTable t) (l : LinkOf) (same : map name_of_row t.rows.items ≡ l.names) (w : Workspace) (file : ℕ) (index : IsIndexOf t w.symbols) (marks : MarksSeen w file (get_or l.seen file [])) where
  abbrev seen : List Bool
  seen = get_or l.seen file []

  pub visible_is : (x : List (List ℕ)) → ArePlain x → is_visible l file (joined x) ≡ shows w file (λ k. true) x
  visible_is x px = ap (shows_text seen (joined x)) (sym same) ∙ go (cases_Bool (shows w file (λ k. true) x))
    where
      go : (shows w file (λ k. true) x ≡ true) ⊎ (shows w file (λ k. true) x ≡ false) → shows_text seen (joined x) (map name_of_row t.rows.items) ≡ shows w file (λ k. true) x
      go (inl h) =
          let r = shows_to t ok seen w file index marks (λ k. true) x h in
          let d = pick t.rows.items r.0 r.1 in
          sym (shows_row t ok seen (joined x) r.0 d r.1 r.2) ∙ r.3 d ∙ sym h
      go (inr h) =
          false_from_ne_true (shows_text seen (joined x) (map name_of_row t.rows.items)) (λ q.
          let r = row_shown t ok seen (joined x) q in
          both_ways (shows w file (λ k. true) x) h (shows_from t ok seen w file index marks (λ k. true) x px r.0 r.1 r.2 r.3)) ∙ sym h
