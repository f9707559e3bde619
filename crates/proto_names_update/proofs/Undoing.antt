-- A change more in the log, and the table without the changes.
use Rattle.std.proofs.Common.{◌≡◌, ◌≢◌, ℕ, ◌+◌, ◌<◌, ◌≤◌, Bool, true, List, [], ◌∷◌, ◌++◌, drop, length, get_or, map, refl, sym, ◌∙◌, ap, subst, arith, slice_set, take, length-append, length-set}
use Rattle.std.proofs.lemmas.List.{get_or-map, get_or_default, length-map, length-take, map-append, map-set, set-get_or, set-set, take-append-le, take-map, take-take, take_all}
use Rattle.std.proofs.lemmas.List.Elements.{All-push}
use Rattle.proto_base.specs.Undone.{AddedAreCut, AreWithin, undone}
use Rattle.proto_base.specs.declared.changes.Change.{Change}
use Rattle.proto_names_rules.specs.declared.kind.Kind.TheVariants.{Package}
use Rattle.proto_names_rules.proofs.Common.{get_front, get_last}
use Rattle.proto_names_table.specs.Common.{IsTable, IsUnchanged, TakesRow, free_row, new_row, row_of, shared_row, with_declaration}
use Rattle.proto_names_table.specs.declared.table.Row.{Row}
use Rattle.proto_names_table.specs.declared.table.Symbol.{Symbol as Declaration}
use Rattle.proto_names_table.specs.declared.table.Table.{Table}
use Rattle.proto_names_table.specs.Indexes.{IsFrontOf, keys_in}
use Rattle.proto_names_table.proofs.Alike.{through}
use Rattle.proto_names_table.proofs.Search.{pick}
use Rattle.proto_names_update.specs.NameLogs.{Fits, IsNoted, SeenTable, rest_of, seen_of, standing_of, undone_table}
use Rattle.proto_names_update.specs.declared.name_log.NameLog.{NameLog}
use Rattle.proto_names_update.specs.declared.name_log.Standing.{Standing}

-- ---- lists

pub undone_more : (log : List (Change Standing)) (items : List Standing) (c : Change Standing) → undone (log ++ c ∷ []) items ≡ undone log (slice_set items c.place c.was)
undone_more [] items c = refl
undone_more (d ∷ log) items c = ap (λ z. slice_set z d.place d.was) (undone_more log items c)

-- the log without its last change is of places of the list, and so is that change
pub all_but_last : (count : ℕ) (log whole : List (Change Standing)) (c : Change Standing) → whole ≡ log ++ c ∷ [] → AreWithin count whole → AreWithin count log × (c.place < count)
all_but_last count log whole c e h = (
  λ k d l. subst (λ (z : Change Standing). z.place < count) (get_front log (c ∷ []) k d l) (h' k d (omega (arith, l, size))),
  subst (λ (z : Change Standing). z.place < count) (get_last log c c) (h' (length log) c (omega (arith, size))),
)
  where
    size : length (log ++ c ∷ []) ≡ length log + 1
    size = length-append log (c ∷ [])

    h' : AreWithin count (log ++ c ∷ [])
    h' = subst (AreWithin count) e h

-- ---- the log

-- a change with what stood there is no change, and whatever stands there then
module _ (log new : NameLog) (t : Table) (row : ℕ) (r : Row) (rows : new.rows ≡ log.rows) (words : new.words ≡ log.words)
    (changes : new.changes.items ≡ log.changes.items ++ record { place = row; was = standing_of r } ∷ []) (l : row < length t.rows.items) (is : r ≡ get_or t.rows.items row r) where
  abbrev all : List Standing
  all = map standing_of t.rows.items

  undone_with : (xs : List Standing) → undone new.changes.items xs ≡ undone log.changes.items (slice_set xs row (standing_of r))
  undone_with xs = ap (λ z. undone z xs) changes ∙ undone_more log.changes.items xs (record { place = row; was = standing_of r })

  stood : slice_set all row (standing_of r) ≡ all
  stood =
      ap (slice_set all row) (ap standing_of is ∙ sym (get_or-map standing_of t.rows.items row r (standing_of r) l))
      ∙ set-get_or all row (standing_of r)

  pub note_noted : IsNoted new t row
  note_noted s = undone_with (slice_set all row s) ∙ ap (undone log.changes.items) (set-set all row s (standing_of r)) ∙ sym (undone_with all)

  pub note_undone : undone_table new t ≡ undone_table log t
  note_undone = λ i. record {
    standings = take (rows i) (p i);
    rests = take (rows i) (map rest_of t.rows.items);
    words = take (words i) t.below.words.keys;
    below = take (rows i) t.below.rows.keys;
  }
    where
      p : undone new.changes.items all ≡ undone log.changes.items all
      p = undone_with all ∙ ap (undone log.changes.items) stood

  pub note_fits : Fits log t → Fits new t
  note_fits fits = record {
    changes = subst (AreWithin (length t.rows.items)) (sym changes) (All-push (λ (c : Change Standing). c.place < length t.rows.items) log.changes.items (record { place = row; was = standing_of r }) fits.changes l);
    rows = omega (arith, fits.rows, rows);
    words = omega (arith, fits.words, words);
  }

-- ---- the table

-- a table is without the changes as another one was, by its parts
by_parts : (log : NameLog) (old new : Table) → take log.rows (undone log.changes.items (map standing_of new.rows.items)) ≡ take log.rows (undone log.changes.items (map standing_of old.rows.items))
    → take log.rows (map rest_of new.rows.items) ≡ take log.rows (map rest_of old.rows.items) → take log.words new.below.words.keys ≡ take log.words old.below.words.keys
    → take log.rows new.below.rows.keys ≡ take log.rows old.below.rows.keys → undone_table log new ≡ undone_table log old
by_parts log old new p q v w = λ i. record { standings = p i; rests = q i; words = v i; below = w i }

-- what a contract sees of a row
abbrev SeenRow : Type 0
SeenRow = List ℕ × Declaration × ℕ × List ℕ × Bool

module _ (old new : Table) (same : IsUnchanged old new) where
  standings_same : map standing_of new.rows.items ≡ map standing_of old.rows.items
  standings_same =
      let g = λ (s : SeenRow). let x : Standing = record { symbol = s.1; is_declared = s.4 } in x in
      through g row_of new.rows.items ∙ ap (map g) same.rows ∙ sym (through g row_of old.rows.items)

  rests_same : map rest_of new.rows.items ≡ map rest_of old.rows.items
  rests_same =
      let g = λ (s : SeenRow). let x : List ℕ × ℕ × List ℕ = (s.0, s.2, s.3) in x in
      through g row_of new.rows.items ∙ ap (map g) same.rows ∙ sym (through g row_of old.rows.items)

  size_same : length new.rows.items ≡ length old.rows.items
  size_same = sym (length-map new.rows.items row_of) ∙ ap length same.rows ∙ length-map old.rows.items row_of

  pub unchanged_undone : (log : NameLog) → undone_table log new ≡ undone_table log old
  unchanged_undone log = by_parts log old new (ap (λ z. take log.rows (undone log.changes.items z)) standings_same) (ap (take log.rows) rests_same)
      (ap (λ ks. take log.words ks.0) same.below) (ap (λ ks. take log.rows ks.1) same.below)

  pub unchanged_fits : (log : NameLog) → Fits log old → Fits log new
  unchanged_fits log fits = record {
    changes = subst (λ n. AreWithin n log.changes.items) (sym size_same) fits.changes;
    rows = omega (arith, fits.rows, size_same);
    words = omega (arith, fits.words, ap (λ ks. length ks.0) same.below);
  }

-- one row has another declaration, and the log has the one before
module _ (log : NameLog) (old new : Table) (row : ℕ) (r : Row) (symbol : Declaration) (flag : Bool) (l : row < length old.rows.items) (is : r ≡ get_or old.rows.items row r)
    (rows : new.rows.items ≡ slice_set old.rows.items row (with_declaration symbol flag r)) (below : new.below ≡ old.below) where
  abbrev other : Row
  other = with_declaration symbol flag r

  rests_stay : map rest_of new.rows.items ≡ map rest_of old.rows.items
  rests_stay =
      ap (map rest_of) rows
      ∙ map-set rest_of old.rows.items row other
      ∙ ap (slice_set (map rest_of old.rows.items) row) (ap rest_of is ∙ sym (get_or-map rest_of old.rows.items row r (rest_of r) l))
      ∙ set-get_or (map rest_of old.rows.items) row (rest_of r)

  pub size_stays : length new.rows.items ≡ length old.rows.items
  size_stays = ap length rows ∙ length-set old.rows.items row other

  pub set_undone : IsNoted log old row → undone_table log new ≡ undone_table log old
  set_undone noted =
      by_parts log old new (ap (take log.rows) (ap (undone log.changes.items) (ap (map standing_of) rows ∙ map-set standing_of old.rows.items row other) ∙ noted (standing_of other)))
      (ap (take log.rows) rests_stay) (ap (λ z. take log.words z.words.keys) below) (ap (λ z. take log.rows z.rows.keys) below)

  pub set_fits : Fits log old → Fits log new
  set_fits fits = record {
    changes = subst (λ n. AreWithin n log.changes.items) (sym size_stays) fits.changes;
    rows = omega (arith, fits.rows, size_stays);
    words = omega (arith, fits.words, ap (λ z. length z.words.keys) below);
  }

-- the first elements of a list that begins with another are the first of that
front_taken : {X : Type 0} (n : ℕ) (xs ys : List X) → n ≤ length xs → take (length xs) ys ≡ xs → take n ys ≡ take n xs
front_taken n xs ys l front = sym (take-take n (length xs) ys l) ∙ ap (take n) front

front_length : {X : Type 0} (xs ys : List X) → take (length xs) ys ≡ xs → length xs ≤ length ys
front_length xs ys front = let e = ap length front in let n = length-take (length xs) ys in omega (arith, e, n)

-- a row more
module _ (log : NameLog) (old new : Table) (r : Row) (fits : Fits log old) (ok : IsTable old) (rows : new.rows.items ≡ old.rows.items ++ r ∷ []) (front : IsFrontOf old.below new.below) where
  within : {X : Type 0} (f : Row → X) → log.rows ≤ length (map f old.rows.items)
  within f = omega (arith, fits.rows, length-map old.rows.items f)

  pub added_undone : AddedAreCut Standing → undone_table log new ≡ undone_table log old
  added_undone cut =
      by_parts log old new
      (ap (λ z. take log.rows (undone log.changes.items z)) (ap (map standing_of) rows ∙ map-append standing_of old.rows.items (r ∷ [])) ∙ cut log.changes.items (map standing_of old.rows.items) (standing_of r ∷ []) log.rows (within standing_of))
      (ap (take log.rows) (ap (map rest_of) rows ∙ map-append rest_of old.rows.items (r ∷ [])) ∙ take-append-le log.rows (map rest_of old.rows.items) (rest_of r ∷ []) (within rest_of))
      (front_taken log.words old.below.words.keys new.below.words.keys fits.words front.words)
      (front_taken log.rows old.below.rows.keys new.below.rows.keys (omega (arith, fits.rows, ok.sized)) front.rows)

  pub added_fits : Fits log new
  added_fits =
      let size : length new.rows.items ≡ length old.rows.items + 1 = ap length rows ∙ length-append old.rows.items (r ∷ []) in
      record {
        changes = λ k d l. omega (arith, fits.changes k d l, size);
        rows = omega (arith, fits.rows, size);
        words = omega (arith, fits.words, front_length old.below.words.keys new.below.words.keys front.words);
      }

-- a symbol more that is no package, in a row that the log has, if the table has it
module _ (log : NameLog) (old new : Table) (symbol : Declaration) (row : ℕ) (fits : Fits log old) (ok : IsTable old) (ne : symbol.kind ≢ Package) where
  pub takes_undone : AddedAreCut Standing → (row < length old.rows.items → IsNoted log old row) → TakesRow old new symbol row → undone_table log new ≡ undone_table log old
  takes_undone cut noted (new_row r at rows s m d front) = added_undone log old new r fits ok rows front cut
  takes_undone cut noted (free_row l dead rows below) =
      let r = pick old.rows.items row l in
      let own = get_or old.rows.items row r in
      set_undone log old new row own symbol true l (get_or_default old.rows.items row r own l) (rows r) below (noted l)
  takes_undone cut noted (shared_row was is l at kind k d n s a m f rows below) = absurd (ne kind)

  pub takes_fits : TakesRow old new symbol row → Fits log new
  takes_fits (new_row r at rows s m d front) = added_fits log old new r fits ok rows front
  takes_fits (free_row l dead rows below) =
      let r = pick old.rows.items row l in
      let own = get_or old.rows.items row r in
      set_fits log old new row own symbol true l (get_or_default old.rows.items row r own l) (rows r) below fits
  takes_fits (shared_row was is l at kind k d n s a m f rows below) = absurd (ne kind)

-- ---- the way back

module _ (old new : Table) (r : Row) (c : Change Standing) (l : c.place < length old.rows.items) (is : r ≡ get_or old.rows.items c.place r)
    (rows : new.rows.items ≡ slice_set old.rows.items c.place (with_declaration c.was.symbol c.was.is_declared r)) where
  abbrev own : Row
  own = with_declaration c.was.symbol c.was.is_declared r

  pub back_standings : map standing_of new.rows.items ≡ slice_set (map standing_of old.rows.items) c.place c.was
  back_standings = ap (map standing_of) rows ∙ map-set standing_of old.rows.items c.place own

  pub back_rests : map rest_of new.rows.items ≡ map rest_of old.rows.items
  back_rests =
      ap (map rest_of) rows
      ∙ map-set rest_of old.rows.items c.place own
      ∙ ap (slice_set (map rest_of old.rows.items) c.place) (ap rest_of is ∙ sym (get_or-map rest_of old.rows.items c.place r (rest_of r) l))
      ∙ set-get_or (map rest_of old.rows.items) c.place (rest_of r)

  pub back_size : length new.rows.items ≡ length old.rows.items
  back_size = ap length rows ∙ length-set old.rows.items c.place own

-- rows with the same parts are the same
rows_by_parts : (xs ys : List Row) → map standing_of xs ≡ map standing_of ys → map rest_of xs ≡ map rest_of ys → map row_of xs ≡ map row_of ys
rows_by_parts [] [] p q = refl
rows_by_parts [] (y ∷ ys) p q = absurd (omega (arith, ap length p))
rows_by_parts (x ∷ xs) [] p q = absurd (omega (arith, ap length p))
rows_by_parts (x ∷ xs) (y ∷ ys) p q =
    let s : standing_of x ≡ standing_of y = ap (λ z. get_or z 0 (standing_of x)) p in
    let r : rest_of x ≡ rest_of y = ap (λ z. get_or z 0 (rest_of x)) q in
    let first : row_of x ≡ row_of y = λ i. ((r i).0, (s i).symbol, (r i).1, (r i).2, (s i).is_declared) in
    let later : map row_of xs ≡ map row_of ys = rows_by_parts xs ys (ap (drop 1) p) (ap (drop 1) q) in
    λ i. first i ∷ later i

pub seen_unchanged : (was t : Table) → seen_of t ≡ seen_of was → IsUnchanged was t
seen_unchanged was t e = record {
  rows = rows_by_parts t.rows.items was.rows.items (ap (λ (s : SeenTable). s.standings) e) (ap (λ (s : SeenTable). s.rests) e);
  below = λ i. ((e i).words, (e i).below);
}

-- ---- the first and the last of a log

module _ (log : NameLog) (t : Table) (ok : IsTable t) (rows : log.rows ≡ length t.rows.items) (words : log.words ≡ length t.below.words.keys) (none : log.changes.items ≡ []) where
  pub new_undone : undone_table log t ≡ seen_of t
  new_undone = λ i. record { standings = standings i; rests = rests i; words = texts i; below = below i }
    where
      standings : take log.rows (undone log.changes.items (map standing_of t.rows.items)) ≡ map standing_of t.rows.items
      standings =
          ap (λ (z : List (Change Standing)). take log.rows (undone z (map standing_of t.rows.items))) none
          ∙ take_all log.rows (map standing_of t.rows.items) (let n = length-map t.rows.items standing_of in omega (arith, n, rows))

      rests : take log.rows (map rest_of t.rows.items) ≡ map rest_of t.rows.items
      rests = take_all log.rows (map rest_of t.rows.items) (let n = length-map t.rows.items rest_of in omega (arith, n, rows))

      texts : take log.words t.below.words.keys ≡ t.below.words.keys
      texts = take_all log.words t.below.words.keys (omega (arith, words))

      below : take log.rows t.below.rows.keys ≡ t.below.rows.keys
      below = take_all log.rows t.below.rows.keys (omega (arith, rows, ok.sized))

  pub new_fits : Fits log t
  new_fits = record {
    changes = λ k d l. absurd (omega (arith, l, ap length none));
    rows = omega (arith, rows);
    words = omega (arith, words);
  }

-- rows given back, and then cut
pub seen_back : (log : NameLog) (old mid new : Table) → map standing_of mid.rows.items ≡ undone log.changes.items (map standing_of old.rows.items) → map rest_of mid.rows.items ≡ map rest_of old.rows.items → mid.below ≡ old.below
    → new.rows.items ≡ take log.rows mid.rows.items → keys_in new.below ≡ (take log.words mid.below.words.keys, take log.rows mid.below.rows.keys) → seen_of new ≡ undone_table log old
seen_back log old mid new standings rests below rows keys = λ i. record { standings = p i; rests = q i; words = v i; below = w i }
  where
    p : map standing_of new.rows.items ≡ take log.rows (undone log.changes.items (map standing_of old.rows.items))
    p = ap (map standing_of) rows ∙ sym (take-map standing_of log.rows mid.rows.items) ∙ ap (take log.rows) standings

    q : map rest_of new.rows.items ≡ take log.rows (map rest_of old.rows.items)
    q = ap (map rest_of) rows ∙ sym (take-map rest_of log.rows mid.rows.items) ∙ ap (take log.rows) rests

    v : new.below.words.keys ≡ take log.words old.below.words.keys
    v = ap (λ ks. ks.0) keys ∙ ap (λ z. take log.words z.words.keys) below

    w : new.below.rows.keys ≡ take log.rows old.below.rows.keys
    w = ap (λ ks. ks.1) keys ∙ ap (λ z. take log.rows z.rows.keys) below
