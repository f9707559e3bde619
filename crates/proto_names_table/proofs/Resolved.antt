-- What is looked up in the table is what a reference means (for the crates above).
use Rattle.std.proofs.Common.{◌≡◌, ◌≢◌, ◌⊎◌, ℕ, zero, suc, ◌+◌, ◌<◌, ◌≤◌, Bool, true, false, ◌&&◌, List, [], ◌∷◌, ◌++◌, length, get_or, take, drop, map, Bor, Option, Some, None, refl, sym, ◌∙◌, ap, subst, inl, inr, arith, append_assoc, if◌then◌else◌, option_map, IfNone, ◌==◌, eqb-true}
use Rattle.proto_base.proofs.Common.{cases_Bool, cond-true, cond-false, both_ways, false_from_ne_true, and_parts, and_from, none-some, length-map, get_or_default, any_from, any_to}
use Rattle.proto_names_rules.specs.declared.kind.Kind.{Kind}
use Rattle.proto_names_rules.specs.declared.wants.Wants.{Wants}
use Rattle.proto_names_rules.specs.declared.wants.Wants.TheVariants as wants
use Rattle.proto_names_rules.proofs.Common.{Reference, Workspace, same_name, is_type, is_outer, fits_at_first, may_resolve_to, sees, shows, greatest, hits_at, hit, visible_as, meaning, meaning_at, joined, ArePlain, under, front, MarksSeen, same_from_name, greatest_is, joined_apart, names_apart, prefix_named, under_pointed, under_some, shown, hit_from}
use Rattle.proto_names_table.specs.Common.{Row, Table, names_of, aboves_of, look, IsTable, is_seen, fits_first, is_visible_as, passes, HitsAt, IsHit, files_of, IsIndexOf, under_all, IsAsked, IsWantedAt}
use Rattle.proto_names_table.proofs.Search.{joined_more, plain_take, pick}

plain_more : (x y : List (List ℕ)) → ArePlain x → ArePlain y → ArePlain (x ++ y)
plain_more [] y px py = py
plain_more (w ∷ x) y px py = (px.0, plain_more x y px.1 py)

pub joined_all : (x ws : List (List ℕ)) → ArePlain x → ArePlain ws → joined (x ++ ws) ≡ under_all (joined x) ws
joined_all x [] px pw = ap joined (append_nil x)
  where
    append_nil : (x : List (List ℕ)) → x ++ [] ≡ x
    append_nil [] = refl
    append_nil (v ∷ x) = ap (λ z. v ∷ z) (append_nil x)
joined_all x (w ∷ ws) px pw =
    ap joined (sym (append_assoc x (w ∷ []) ws))
    ∙ joined_all (x ++ w ∷ []) ws (plain_more x (w ∷ []) px (pw.0, tt)) pw.1
    ∙ ap (λ z. under_all z ws) (joined_more x w px)

module _ (t : Table) (ok : IsTable t) (seen : List Bool) (w : Workspace) (file : ℕ) (index : IsIndexOf t w.symbols) (marks : MarksSeen w file seen) where
  sized : length (names_of t) ≡ length t.rows.items
  sized = length-map t.rows.items (λ r. r.name)

  -- a name is shown exactly where its row passes
  pub shows_from : (good : Kind → Bool) (x : List (List ℕ)) → ArePlain x → (k : ℕ) → k < length t.rows.items → get_or (names_of t) k [] ≡ joined x → ((d : Row) → (good (get_or t.rows.items k d).symbol.kind && is_seen seen (get_or t.rows.items k d)) ≡ true) → shows w file good x ≡ true
  shows_from good x px k l name pass =
      let d = pick t.rows.items k l in
      let p = and_parts (good (get_or t.rows.items k d).symbol.kind) (is_seen seen (get_or t.rows.items k d)) (pass d) in
      let f = any_to (λ f. get_or seen f false) (files_of (get_or t.rows.items k d)) p.1 in
      let s = index.symbol k f.0 d l f.1 in
      let same : s.0.name ≡ x = joined_apart s.0.name x (index.plain s.0 s.1) px (s.2 ∙ name) in
      any_from (λ s. same_name s.name x && (good s.kind && sees w file s.file)) w.symbols s.0 s.1
      (and_from _ _ (same_from_name s.0.name x same) (and_from _ _ (ap good s.3 ∙ p.0) (ap (sees w file) s.4 ∙ sym (marks f.0) ∙ f.2)))

  pub shows_to : (good : Kind → Bool) (x : List (List ℕ)) → shows w file good x ≡ true → (k : ℕ) × (k < length t.rows.items) × (get_or (names_of t) k [] ≡ joined x) × ((d : Row) → (good (get_or t.rows.items k d).symbol.kind && is_seen seen (get_or t.rows.items k d)) ≡ true)
  shows_to good x h =
      let s = shown w file good x h in
      let r = index.row s.0 s.1 in (
        r.0,
        r.1,
        r.2 ∙ ap joined s.2,
        λ d. and_from _ _ (ap good (r.3 d).0 ∙ s.3) (any_from (λ f. get_or seen f false) (files_of (get_or t.rows.items r.0 d)) s.0.file (r.3 d).1 (marks s.0.file ∙ s.4)),
      )

  -- a name as what passes the test
  pub visible_row : (good : Kind → Bool) (m : List (List ℕ)) → ArePlain m → (k : ℕ) → k < length t.rows.items → get_or (names_of t) k [] ≡ joined m → (d : Row) → visible_as w file good m ≡ (if good (get_or t.rows.items k d).symbol.kind && is_seen seen (get_or t.rows.items k d) then Some m else None)
  visible_row good m pm k l name d = go (cases_Bool (shows w file good m))
    where
      go : (shows w file good m ≡ true) ⊎ (shows w file good m ≡ false) → visible_as w file good m ≡ (if good (get_or t.rows.items k d).symbol.kind && is_seen seen (get_or t.rows.items k d) then Some m else None)
      go (inl h) =
          let r = shows_to good m h in
          let same : r.0 ≡ k = names_apart (names_of t) (aboves_of t) (look t) ok.forest r.0 k (omega (arith, r.1, sized)) (omega (arith, l, sized)) (r.2 ∙ sym name) in
          let b : (good (get_or t.rows.items k d).symbol.kind && is_seen seen (get_or t.rows.items k d)) ≡ true = ap (λ i. good (get_or t.rows.items i d).symbol.kind && is_seen seen (get_or t.rows.items i d)) (sym same) ∙ r.3 d in
          cond-true (shows w file good m) (Some m) None h ∙ sym (cond-true (good (get_or t.rows.items k d).symbol.kind && is_seen seen (get_or t.rows.items k d)) (Some m) None b)
      go (inr h) =
          let b : (good (get_or t.rows.items k d).symbol.kind && is_seen seen (get_or t.rows.items k d)) ≡ false =
          false_from_ne_true (good (get_or t.rows.items k d).symbol.kind && is_seen seen (get_or t.rows.items k d)) (λ q. both_ways (shows w file good m) h (shows_from good m pm k l name (λ e. ap (λ z. good z.symbol.kind && is_seen seen z) (get_or_default t.rows.items k e d l) ∙ q))) in
          cond-false (shows w file good m) (Some m) None h ∙ sym (cond-false (good (get_or t.rows.items k d).symbol.kind && is_seen seen (get_or t.rows.items k d)) (Some m) None b)

pub is_empty_list : List (List ℕ) → Bool
is_empty_list [] = true
is_empty_list (x ∷ xs) = false

fits_is : (what : Wants) (first : List ℕ) (rest : List (List ℕ)) (b : Bool) → b ≡ is_empty_list rest → (k : Kind) → fits_at_first what (first ∷ rest) k ≡ fits_first what b k
unfolding is_empty_list
fits_is wants.Type first [] b e k = sym (cond-true b (is_type k) (is_outer k) e)
fits_is wants.Type first (x ∷ rest) b e k = sym (cond-false b (is_type k) (is_outer k) e)
fits_is wants.Message first [] b e k = sym (cond-true b (is_type k) (is_outer k) e)
fits_is wants.Message first (x ∷ rest) b e k = sym (cond-false b (is_type k) (is_outer k) e)
fits_is wants.Extension first [] b e k = sym (cond-true b true (is_outer k) e)
fits_is wants.Extension first (x ∷ rest) b e k = sym (cond-false b true (is_outer k) e)

module _ (t : Table) (ok : IsTable t) (seen : List Bool) (w : Workspace) (r : Reference) (index : IsIndexOf t w.symbols) (marks : MarksSeen w r.file seen)
    (first : List ℕ) (rest : List (List ℕ)) (b : Bool) (last : b ≡ is_empty_list rest) (words : r.words ≡ first ∷ rest) (scope_plain : ArePlain r.scope) (words_plain : ArePlain (first ∷ rest)) (relative : r.is_absolute ≡ false) (what : Wants) (wanted : r.wants ≡ what) where
  abbrev front_word : ℕ → List (List ℕ)
  front_word k = take k r.scope ++ first ∷ []

  front_plain : (k : ℕ) → ArePlain (front_word k)
  front_plain k = plain_more (take k r.scope) (first ∷ []) (plain_take r.scope k scope_plain) (words_plain.0, tt)

  name_is : (k : ℕ) → take k r.scope ++ take 1 r.words ≡ front_word k
  name_is k = ap (λ z. take k r.scope ++ take 1 z) words

  text_is : (k : ℕ) → joined (front_word k) ≡ under (joined (take k r.scope)) first
  text_is k = joined_more (take k r.scope) first (plain_take r.scope k scope_plain)

  -- what fits at the first word is what passes
  fits_here : (x : Row) → (fits_at_first r.wants r.words x.symbol.kind && is_seen seen x) ≡ passes seen what b x
  fits_here x = ap (λ g. g && is_seen seen x) (ap (λ z. fits_at_first z r.words x.symbol.kind) wanted ∙ ap (λ z. fits_at_first what z x.symbol.kind) words ∙ fits_is what first rest b last x.symbol.kind)

  hit_at : (k row : ℕ) → HitsAt t seen what b r.scope first k row → hits_at w r k ≡ true
  hit_at k row h =
      ap (shows w r.file (fits_at_first r.wants r.words)) (name_is k)
      ∙ shows_from t ok seen w r.file index marks (fits_at_first r.wants r.words) (front_word k) (front_plain k) row h.within (h.name ∙ sym (text_is k))
      (λ d. fits_here (get_or t.rows.items row d) ∙ h.passes_there d)

  at_hit : (k : ℕ) → hits_at w r k ≡ true → (row : ℕ) × HitsAt t seen what b r.scope first k row
  at_hit k h =
      let s = shows_to t ok seen w r.file index marks (fits_at_first r.wants r.words) (take k r.scope ++ take 1 r.words) h in (
        s.0,
        record { within = s.1; name = s.2 ∙ ap joined (name_is k) ∙ text_is k; passes_there = λ d. sym (fits_here (get_or t.rows.items s.0 d)) ∙ s.3 d },
      )

  pub hit_is : (row : ℕ) → (h : IsHit t seen what b r.scope first row) → hit w r ≡ Some h.words
  hit_is row h = hit_from w r h.words relative (record { within = h.within; passes = hit_at h.words row h.here; last = λ j a l. false_from_ne_true (hits_at w r j) (λ q. let x = at_hit j q in h.longest j x.0 a l x.1) })

  pub hit_none : ((k row : ℕ) → k ≤ length r.scope → HitsAt t seen what b r.scope first k row → ⊥) → hit w r ≡ None
  hit_none none = cond-false r.is_absolute None (greatest (hits_at w r) (length r.scope)) relative ∙ go (greatest (hits_at w r) (length r.scope)) refl
    where
      go : (o : Option ℕ) → greatest (hits_at w r) (length r.scope) ≡ o → greatest (hits_at w r) (length r.scope) ≡ None
      go None e = e
      go (Some k) e = let g = greatest_is (hits_at w r) (length r.scope) k e in let x = at_hit k g.passes in absurd (none k x.0 g.within x.1)

-- words below a name are a name only where the name is one
pub under_all_named : (t : Table) → IsTable t → (ws : List (List ℕ)) → ArePlain ws → (g : List ℕ) → g ≢ [] → (k : ℕ) → k < length t.rows.items → get_or (names_of t) k [] ≡ under_all g ws → (j : ℕ) × (j < length t.rows.items) × (get_or (names_of t) j [] ≡ g)
under_all_named t ok [] pw g ne k l e = (k, l, e)
under_all_named t ok (v ∷ ws) pw g ne k l e =
    let n = length-map t.rows.items (λ r. r.name) in
    let x = under_all_named t ok ws pw.1 (under g v) (under_some g v pw.0) k l e in
    let y = prefix_named (names_of t) (aboves_of t) (look t) ok.forest (suc x.0) x.0 (omega arith) (omega (arith, x.1, n)) g v (x.2 ∙ under_pointed g v ne) in
    (y.0, omega (arith, y.1, n), y.2)

-- what is wanted of a name by its text
module _ (t : Table) (ok : IsTable t) (seen : List Bool) (w : Workspace) (file : ℕ) (index : IsIndexOf t w.symbols) (marks : MarksSeen w file seen) (what : Wants) where
  pub wanted_text : (text : List ℕ) (o : Option ℕ) → IsWantedAt t seen what text o → (m : List (List ℕ)) → ArePlain m → text ≡ joined m → option_map (λ k. get_or (names_of t) k []) o ≡ option_map joined (visible_as w file (may_resolve_to what) m)
  wanted_text text (Some k) h m pm e =
      let d = pick t.rows.items k h.0 in
      ap Some (h.1 ∙ e)
      ∙ ap (option_map joined) (sym (visible_row t ok seen w file index marks (may_resolve_to what) m pm k h.0 (h.1 ∙ e) d ∙ cond-true (may_resolve_to what (get_or t.rows.items k d).symbol.kind && is_seen seen (get_or t.rows.items k d)) (Some m) None (h.2 d)))
  wanted_text text None h m pm e = ap (option_map joined) (sym (cond-false (shows w file (may_resolve_to what) m) (Some m) None (false_from_ne_true (shows w file (may_resolve_to what) m) (λ q.
      let r = shows_to t ok seen w file index marks (may_resolve_to what) m q in
      let d = pick t.rows.items r.0 r.1 in
      both_ways (may_resolve_to what (get_or t.rows.items r.0 d).symbol.kind && is_seen seen (get_or t.rows.items r.0 d)) (h r.0 d r.1 (r.2 ∙ sym e)) (r.3 d)))))

words_of : (base ws : List (List ℕ)) (first : List ℕ) → ArePlain base → ArePlain (first ∷ ws) → under_all (under (joined base) first) ws ≡ joined (base ++ first ∷ ws)
words_of base ws first pb pw =
    ap (λ z. under_all z ws) (sym (joined_more base first pb)) ∙ sym (joined_all (base ++ first ∷ []) ws (plain_more base (first ∷ []) pb (pw.0, tt)) pw.1) ∙ ap joined (append_assoc base (first ∷ []) ws)

pub absolute_is : (t : Table) → IsTable t → (seen : List Bool) (w : Workspace) (r : Reference) → IsIndexOf t w.symbols → MarksSeen w r.file seen → (first : List ℕ) (ws : List (List ℕ)) → ArePlain (first ∷ ws) → r.words ≡ first ∷ ws → r.is_absolute ≡ true → (what : Wants) → r.wants ≡ what
    → (o : Option ℕ) → IsWantedAt t seen what (under_all first ws) o → option_map (λ k. get_or (names_of t) k []) o ≡ option_map joined (meaning w r)
absolute_is t ok seen w r index marks first ws pw words abs what wanted o h =
    let m : meaning w r ≡ visible_as w r.file (may_resolve_to what) (first ∷ ws) =
    ap (meaning_at w r) (cond-true r.is_absolute None (greatest (hits_at w r) (length r.scope)) abs) ∙ cond-true r.is_absolute (visible_as w r.file (may_resolve_to r.wants) r.words) None abs
    ∙ ap (λ z. visible_as w r.file (may_resolve_to z) r.words) wanted ∙ ap (visible_as w r.file (may_resolve_to what)) words in
    wanted_text t ok seen w r.file index marks what (under_all first ws) o h (first ∷ ws) pw (words_of [] ws first tt pw) ∙ ap (option_map joined) (sym m)

-- a first word that is no name
pub absolute_none : (t : Table) → IsTable t → (first : List ℕ) (ws : List (List ℕ)) → ArePlain (first ∷ ws) → look t 0 first ≡ None → (seen : List Bool) (what : Wants) → IsWantedAt t seen what (under_all first ws) None
absolute_none t ok first ws pw none seen what = λ k d l e. (
    let n = length-map t.rows.items (λ r. r.name) in
    let x = under_all_named t ok ws pw.1 first (λ q. pw.0.1 q) k l e in
    absurd (none-some x.0 (sym none ∙ ok.forest.complete 0 first x.0 (omega arith) pw.0 (omega (arith, x.1, n)) x.2)))

module _ (t : Table) (ok : IsTable t) (seen : List Bool) (scope : ℕ) (w : Workspace) (r : Reference) (asked : IsAsked t seen scope w r)
    (first : List ℕ) (ws : List (List ℕ)) (b : Bool) (last : b ≡ is_empty_list ws) (pw : ArePlain (first ∷ ws)) (words : r.words ≡ first ∷ ws) (relative : r.is_absolute ≡ false) (what : Wants) (wanted : r.wants ≡ what) where
  pub relative_is : (start : ℕ) → IsHit t seen what b r.scope first start → (o : Option ℕ) → IsWantedAt t seen what (under_all (get_or (names_of t) start []) ws) o → option_map (λ k. get_or (names_of t) k []) o ≡ option_map joined (meaning w r)
  relative_is start hit' o h =
      let k = hit'.words in
      let m : meaning w r ≡ visible_as w r.file (may_resolve_to what) (take k r.scope ++ first ∷ ws) =
      ap (meaning_at w r) (hit_is t ok seen w r asked.index asked.marks first ws b last words asked.scope_plain pw relative what wanted start hit')
      ∙ ap (λ z. visible_as w r.file (may_resolve_to z) (take k r.scope ++ r.words)) wanted ∙ ap (λ z. visible_as w r.file (may_resolve_to what) (take k r.scope ++ z)) words in
      let pb = plain_take r.scope k asked.scope_plain in
      wanted_text t ok seen w r.file asked.index asked.marks what (under_all (get_or (names_of t) start []) ws) o h (take k r.scope ++ first ∷ ws) (plain_more (take k r.scope) (first ∷ ws) pb pw)
      (ap (λ z. under_all z ws) hit'.here.name ∙ words_of (take k r.scope) ws first pb pw) ∙ ap (option_map joined) (sym m)

  pub relative_none : ((k row : ℕ) → k ≤ length r.scope → HitsAt t seen what b r.scope first k row → ⊥) → None ≡ option_map joined (meaning w r)
  relative_none none =
      ap (option_map joined) (sym (ap (meaning_at w r) (hit_none t ok seen w r asked.index asked.marks first ws b last words asked.scope_plain pw relative what wanted none) ∙ cond-false r.is_absolute (visible_as w r.file (may_resolve_to r.wants) r.words) None relative))

pub empty_is : (ws : List (Bor (List ℕ))) → (length ws == 0) ≡ is_empty_list (map (λ w. w.now) ws)
unfolding is_empty_list
empty_is [] = refl
empty_is (x ∷ ws) = false_from_ne_true (length (x ∷ ws) == 0) (λ q. let e = eqb-true (length (x ∷ ws)) 0 q in absurd (omega (arith, e)))

-- one word of several
pub drop_words : (ws : List (Bor (List ℕ))) (i : ℕ) (d : Bor (List ℕ)) → i < length ws → drop i (map (λ w. w.now) ws) ≡ (get_or ws i d).now ∷ drop (i + 1) (map (λ w. w.now) ws)
drop_words [] i d l = absurd (omega (arith, l))
drop_words (x ∷ ws) zero d l = refl
drop_words (x ∷ ws) (suc i) d l =
    let e : suc i + 1 ≡ suc (i + 1) = omega arith in
    drop_words ws i d (omega (arith, l)) ∙ ap (λ k. (get_or ws i d).now ∷ drop k (map (λ w. w.now) (x ∷ ws))) (sym e)

plain_drop : (xs : List (List ℕ)) (k : ℕ) → ArePlain xs → ArePlain (drop k xs)
plain_drop xs zero p = p
plain_drop [] (suc k) p = tt
plain_drop (x ∷ xs) (suc k) p = plain_drop xs k p.1

-- a step of the words
pub record Step (t : Table) (row : ℕ) (v : List ℕ) (ws : List (List ℕ)) : Type 0 where
  pub found : (j : ℕ) → look t (row + 1) v ≡ Some j → (j < length t.rows.items) × (under_all (get_or (names_of t) j []) ws ≡ under_all (get_or (names_of t) row []) (v ∷ ws))
  pub missing : look t (row + 1) v ≡ None → (k : ℕ) → k < length t.rows.items → get_or (names_of t) k [] ≢ under_all (get_or (names_of t) row []) (v ∷ ws)

pub one_step : (t : Table) → IsTable t → (row : ℕ) → row < length t.rows.items → (v : List ℕ) (ws : List (List ℕ)) → ArePlain (v ∷ ws) → Step t row v ws
one_step t ok row l v ws pw =
    let n = length-map t.rows.items (λ r. r.name) in
    let e : row + 1 ≡ suc row = omega arith in
    let lr : row + 1 ≤ length (names_of t) = omega (arith, l, n) in
    let f : front (names_of t) (row + 1) ≡ get_or (names_of t) row [] = ap (front (names_of t)) e in
    record {
      found = λ j h. (let s = ok.forest.sound (row + 1) v j lr h in (omega (arith, s.0, n), ap (λ z. under_all z ws) (s.1 ∙ ap (λ z. under z v) f)));
      missing = λ h k lk q. (
          let x = under_all_named t ok ws pw.1 (under (get_or (names_of t) row []) v) (under_some (get_or (names_of t) row []) v pw.0) k lk q in
          none-some x.0 (sym h ∙ ok.forest.complete (row + 1) v x.0 lr pw.0 (omega (arith, x.1, n)) (x.2 ∙ ap (λ z. under z v) (sym f))));
    }

pub words_step : (t : Table) → IsTable t → (row : ℕ) → row < length t.rows.items → (ws : List (Bor (List ℕ))) (i : ℕ) (d : Bor (List ℕ)) → i < length ws → ArePlain (map (λ w. w.now) ws) → Step t row (get_or ws i d).now (drop (i + 1) (map (λ w. w.now) ws))
words_step t ok row l ws i d li pw = one_step t ok row l (get_or ws i d).now (drop (i + 1) (map (λ w. w.now) ws)) (subst ArePlain (drop_words ws i d li) (plain_drop (map (λ w. w.now) ws) i pw))

pub if_none : {A : Type 0} (o : Option A) (P : Type 0) → P → IfNone o P
if_none None P p = p
if_none (Some x) P p = tt

-- the row of a text is one
pub other_fails : (t : Table) → IsTable t → (seen : List Bool) (what : Wants) (row : ℕ) (x : Row) → row < length t.rows.items → x ≡ get_or t.rows.items row x → is_visible_as seen what x ≡ false
    → (k : ℕ) (d : Row) → k < length t.rows.items → get_or (names_of t) k [] ≡ get_or (names_of t) row [] → is_visible_as seen what (get_or t.rows.items k d) ≡ false
other_fails t ok seen what row x l is fails k d lk e =
    let n = length-map t.rows.items (λ r. r.name) in
    let same : k ≡ row = names_apart (names_of t) (aboves_of t) (look t) ok.forest k row (omega (arith, lk, n)) (omega (arith, l, n)) e in
    ap (λ i. is_visible_as seen what (get_or t.rows.items i d)) same ∙ ap (is_visible_as seen what) (get_or_default t.rows.items row d x l ∙ sym is) ∙ fails
