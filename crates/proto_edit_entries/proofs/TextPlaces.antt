-- Texts of changed files at their places: they are what is put, where the changes rise by their paths. (Public for the crates above.)
use Rattle.std.proofs.Common.{◌≡◌, ◌≢◌, ℕ, zero, suc, ◌+◌, ◌<◌, ◌≤◌, true, nat_lt, List, [], ◌∷◌, ◌++◌, length, get_or, map, take, take_all, slice_set, Some, None, position, bytes_eq, refl, sym, ap, subst, ◌∙◌, arith, inl, inr, Contains}
use Rattle.proto_base.proofs.Common.{Contains-get_or, Vec, cases_lt, cond-true, contains_cases, contains_head, contains_later, contains_map, get_or_default, get_or-map, length-map, map_more, map_push, nat_tests, none-some, position-Some, position_or_len, same_from_word, word_from_same, Text}
use Rattle.std.proofs.lemmas.List.Sums.{fails_before_first}
use Rattle.proto_files.proofs.Common.{FileOf, file_at, paths_of, IsBefore, never_before_itself, before_trans}
use Rattle.proto_edit_entries.specs.declared.entry.Change.{Change}
use Rattle.proto_edit_entries.specs.Entries.{change_of}
use Rattle.proto_edit_entries.specs.Common.{ChangeOf, AreRising, AreChangedTexts, ArePut, HasChange, HasNoChangedFile, IsChangedFile, IsNext, with_texts}
use Rattle.proto_edit_entries.proofs.Puts.{contains_none}
use Rattle.proto_edit_entries.proofs.Walks.{Ordered, ahead, behind, never, rises_from}
use Rattle.proto_files.specs.GivenFiles.{no_file}

-- ---- the files of some changes, in their order

abbrev pub AreChangedFiles : List FileOf → List ChangeOf → List ℕ → List Text → Type 0
AreChangedFiles files [] [] [] = Unit {0}
AreChangedFiles files (c ∷ cs) (p ∷ ps) (t ∷ ts) = IsChangedFile files c p t × AreChangedFiles files cs ps ts
AreChangedFiles files _ _ _ = ⊥

-- one more
pub changed_more : (files : List FileOf) (cs : List ChangeOf) (ps : List ℕ) (ts : List Text) (c : ChangeOf) (p : ℕ) (t : Text) → AreChangedFiles files cs ps ts → IsChangedFile files c p t → AreChangedFiles files (cs ++ c ∷ []) (ps ++ p ∷ []) (ts ++ t ∷ [])
changed_more files [] [] [] c p t h x = (x, tt)
changed_more files (d ∷ cs) (q ∷ ps) (u ∷ ts) c p t h x = (h.0, changed_more files cs ps ts c p t h.1 x)
changed_more files [] [] (u ∷ ts) c p t h x = absurd h
changed_more files [] (q ∷ ps) ts c p t h x = absurd h
changed_more files (d ∷ cs) [] ts c p t h x = absurd h
changed_more files (d ∷ cs) (q ∷ ps) [] c p t h x = absurd h

-- as many places as texts and changes
as_many_texts : (files : List FileOf) (cs : List ChangeOf) (ps : List ℕ) (ts : List Text) → AreChangedFiles files cs ps ts → length ts ≡ length ps
as_many_texts files [] [] [] h = refl
as_many_texts files (d ∷ cs) (q ∷ ps) (u ∷ ts) h = ap suc (as_many_texts files cs ps ts h.1)
as_many_texts files [] [] (u ∷ ts) h = absurd h
as_many_texts files [] (q ∷ ps) ts h = absurd h
as_many_texts files (d ∷ cs) [] ts h = absurd h
as_many_texts files (d ∷ cs) (q ∷ ps) [] h = absurd h

as_many_places : (files : List FileOf) (cs : List ChangeOf) (ps : List ℕ) (ts : List Text) → AreChangedFiles files cs ps ts → length ps ≡ length cs
as_many_places files [] [] [] h = refl
as_many_places files (d ∷ cs) (q ∷ ps) (u ∷ ts) h = ap suc (as_many_places files cs ps ts h.1)
as_many_places files [] [] (u ∷ ts) h = absurd h
as_many_places files [] (q ∷ ps) ts h = absurd h
as_many_places files (d ∷ cs) [] ts h = absurd h
as_many_places files (d ∷ cs) (q ∷ ps) [] h = absurd h

-- each place is one of a file
places_within : (files : List FileOf) (cs : List ChangeOf) (ps : List ℕ) (ts : List Text) → AreChangedFiles files cs ps ts → (k : ℕ) (d : ℕ) → k < length ps → get_or ps k d < length files
places_within files [] [] [] h k d lt = absurd (omega (arith, lt))
places_within files (c ∷ cs) (q ∷ ps) (u ∷ ts) h zero d lt = h.0.within
places_within files (c ∷ cs) (q ∷ ps) (u ∷ ts) h (suc k) d lt = places_within files cs ps ts h.1 k d (omega (arith, lt))
places_within files [] [] (u ∷ ts) h k d lt = absurd h
places_within files [] (q ∷ ps) ts h k d lt = absurd h
places_within files (c ∷ cs) [] ts h k d lt = absurd h
places_within files (c ∷ cs) (q ∷ ps) [] h k d lt = absurd h

-- ---- the places rise

module _ (files : List FileOf) (o : Ordered files) where
  -- as the paths of their files do
  place_before : (p q : ℕ) → p < length files → q < length files → IsBefore (file_at files p).path (file_at files q).path → p < q
  place_before p q lp lq b = elim (cases_lt p q) [
    | inl lt ↦ lt
    | inr le ↦ elim (cases_lt q p) [
      | inl lt ↦ absurd (never_before_itself (file_at files p).path (before_trans (file_at files p).path (file_at files q).path (file_at files p).path b (o q p no_file lt lp)))
      | inr ge ↦ absurd (never_before_itself (file_at files q).path (subst (λ (k : ℕ). IsBefore (file_at files k).path (file_at files q).path) (omega (arith, le, ge)) b))
    ]
  ]

  places_above : (c : ChangeOf) (p : ℕ) → p < length files → (file_at files p).path ≡ c.path → (cs : List ChangeOf) (ps : List ℕ) (ts : List Text) → AreChangedFiles files cs ps ts → ((d : ChangeOf) → Contains cs d → IsBefore c.path d.path) → (k : ℕ) (d : ℕ) → k < length ps → p < get_or ps k d
  places_above c p lp at [] [] [] h before k d lt = absurd (omega (arith, lt))
  places_above c p lp at (e ∷ cs) (q ∷ ps) (u ∷ ts) h before zero d lt =
      place_before p q lp h.0.within (subst (λ (z : List ℕ). IsBefore z (file_at files q).path) (sym at) (subst (λ (z : List ℕ). IsBefore c.path z) (sym h.0.path) (before e (contains_head e cs))))
  places_above c p lp at (e ∷ cs) (q ∷ ps) (u ∷ ts) h before (suc k) d lt = places_above c p lp at cs ps ts h.1 (λ x m. before x (contains_later e x cs m)) k d (omega (arith, lt))
  places_above c p lp at [] [] (u ∷ ts) h before k d lt = absurd h
  places_above c p lp at [] (q ∷ ps) ts h before k d lt = absurd h
  places_above c p lp at (e ∷ cs) [] ts h before k d lt = absurd h
  places_above c p lp at (e ∷ cs) (q ∷ ps) [] h before k d lt = absurd h

  places_rise : (cs : List ChangeOf) (ps : List ℕ) (ts : List Text) → AreRising cs → AreChangedFiles files cs ps ts → (i j : ℕ) (d : ℕ) → i < j → j < length ps → get_or ps i d < get_or ps j d
  places_rise [] [] [] r h i j d lt within = absurd (omega (arith, within))
  places_rise (c ∷ cs) (p ∷ ps) (t ∷ ts) r h i zero d lt within = absurd (omega (arith, lt))
  places_rise (c ∷ cs) (p ∷ ps) (t ∷ ts) r h zero (suc j) d lt within = places_above c p h.0.within h.0.path cs ps ts h.1 (rises_from c cs r) j d (omega (arith, within))
  places_rise (c ∷ cs) (p ∷ ps) (t ∷ ts) r h (suc i) (suc j) d lt within = places_rise cs ps ts r.1 h.1 i j d (omega (arith, lt)) (omega (arith, within))
  places_rise [] [] (u ∷ ts) r h i j d lt within = absurd h
  places_rise [] (q ∷ ps) ts r h i j d lt within = absurd h
  places_rise (e ∷ cs) [] ts r h i j d lt within = absurd h
  places_rise (e ∷ cs) (q ∷ ps) [] r h i j d lt within = absurd h

-- ---- one file in front

-- places behind the first one
lower : (ps : List ℕ) → ((k : ℕ) (d : ℕ) → k < length ps → 0 < get_or ps k d) → (qs : List ℕ) × (ps ≡ map suc qs)
lower [] above = ([], refl)
lower (zero ∷ ps) above = absurd (let none : 0 < 0 = above 0 0 (omega arith) in omega (arith, none))
lower (suc p ∷ ps) above = (let rest = lower ps (λ k d lt. above (suc k) d (omega (arith, lt))) in (p ∷ rest.0, ap (λ (z : List ℕ). suc p ∷ z) rest.1))

texts_behind : (f : FileOf) (files : List FileOf) (qs : List ℕ) (ts : List Text) → with_texts (f ∷ files) (map suc qs) ts ≡ f ∷ with_texts files qs ts
texts_behind f files [] ts = refl
texts_behind f files (q ∷ qs) [] = refl
texts_behind f files (q ∷ qs) (t ∷ ts) = texts_behind f (slice_set files q (record (file_at files q) { bytes = t })) qs ts

files_behind : (f : FileOf) (files : List FileOf) (cs : List ChangeOf) (qs : List ℕ) (ts : List Text) → AreChangedFiles (f ∷ files) cs (map suc qs) ts → AreChangedFiles files cs qs ts
files_behind f files [] [] [] h = tt
files_behind f files (c ∷ cs) (q ∷ qs) (t ∷ ts) h = (
  (let within = h.0.within in record { within = omega (arith, within); path = h.0.path; changed = h.0.changed }),
  files_behind f files cs qs ts h.1,
)
files_behind f files [] [] (u ∷ ts) h = absurd h
files_behind f files [] (q ∷ ps) ts h = absurd h
files_behind f files (c ∷ cs) [] ts h = absurd h
files_behind f files (c ∷ cs) (q ∷ ps) [] h = absurd h

-- ---- what is put

module _ (f : FileOf) (fs : List FileOf) (o : Ordered (f ∷ fs)) (again : (cs : List ChangeOf) (ps : List ℕ) (ts : List Text) → AreRising cs → AreChangedFiles fs cs ps ts → ArePut fs cs (with_texts fs ps ts)) where
  -- the first file stays
  stays : (cs : List ChangeOf) (ps : List ℕ) (ts : List Text) → AreRising cs → AreChangedFiles (f ∷ fs) cs ps ts → ((k : ℕ) (d : ℕ) → k < length ps → 0 < get_or ps k d) → IsNext f cs f cs → ArePut (f ∷ fs) cs (with_texts (f ∷ fs) ps ts)
  stays cs ps ts r h above next =
      let low = lower ps above in
      let moved = subst (λ (z : List ℕ). AreChangedFiles (f ∷ fs) cs z ts) low.1 h in
      subst (ArePut (f ∷ fs) cs) (sym (ap (λ (z : List ℕ). with_texts (f ∷ fs) z ts) low.1 ∙ texts_behind f fs low.0 ts))
      (cs, next, again cs low.0 ts r (files_behind f fs cs low.0 ts moved))

  -- or has the first change
  changes : (c : ChangeOf) (cs : List ChangeOf) (ps : List ℕ) (t : Text) (ts : List Text) → AreRising (c ∷ cs) → AreChangedFiles (f ∷ fs) (c ∷ cs) (zero ∷ ps) (t ∷ ts) → ArePut (f ∷ fs) (c ∷ cs) (with_texts (f ∷ fs) (zero ∷ ps) (t ∷ ts))
  changes c cs ps t ts r h =
      let g : FileOf = record f { bytes = t } in
      let low = lower ps (places_above (f ∷ fs) o c 0 h.0.within h.0.path cs ps ts h.1 (rises_from c cs r)) in
      let moved = subst (λ (z : List ℕ). AreChangedFiles (f ∷ fs) cs z ts) low.1 h.1 in
      subst (ArePut (f ∷ fs) (c ∷ cs)) (sym (ap (λ (z : List ℕ). with_texts (g ∷ fs) z ts) low.1 ∙ texts_behind g fs low.0 ts))
      (cs, inl (sym h.0.path, refl, h.0.changed, refl, refl), again cs low.0 ts r.1 (files_behind f fs cs low.0 ts moved))

pub texts_are_put : (files : List FileOf) (cs : List ChangeOf) (ps : List ℕ) (ts : List Text) → Ordered files → AreRising cs → AreChangedFiles files cs ps ts → ArePut files cs (with_texts files ps ts)
texts_are_put [] [] [] [] o r h = (refl, refl)
texts_are_put [] (c ∷ cs) (p ∷ ps) (t ∷ ts) o r h = absurd (let within = h.0.within in omega (arith, within))
texts_are_put (f ∷ fs) [] [] [] o r h = stays f fs o (λ ds qs us. texts_are_put fs ds qs us (behind f fs o)) [] [] [] r h (λ k d lt. absurd (omega (arith, lt))) (refl, refl)
texts_are_put (f ∷ fs) (c ∷ cs) (zero ∷ ps) (t ∷ ts) o r h = changes f fs o (λ ds qs us. texts_are_put fs ds qs us (behind f fs o)) c cs ps t ts r h
texts_are_put (f ∷ fs) (c ∷ cs) (suc p ∷ ps) (t ∷ ts) o r h = stays f fs o (λ ds qs us. texts_are_put fs ds qs us (behind f fs o)) (c ∷ cs) (suc p ∷ ps) (t ∷ ts) r h above (inr (apart, refl, refl))
  where
    apart : c.path ≢ f.path
    apart e = never f.path (file_at fs p).path f.path (ahead f fs o (file_at fs p) (Contains-get_or fs p no_file (let within = h.0.within in omega (arith, within)))) refl (h.0.path ∙ e)

    above : (k : ℕ) (d : ℕ) → k < length (suc p ∷ ps) → 0 < get_or (suc p ∷ ps) k d
    above zero d lt = omega arith
    above (suc k) d lt =
        let more = places_rise (f ∷ fs) o (c ∷ cs) (suc p ∷ ps) (t ∷ ts) r h 0 (suc k) d (omega arith) lt in
        omega (arith, more)
texts_are_put files [] [] (u ∷ ts) o r h = absurd h
texts_are_put files [] (q ∷ ps) ts o r h = absurd h
texts_are_put files (c ∷ cs) [] ts o r h = absurd h
texts_are_put files (c ∷ cs) (q ∷ ps) [] o r h = absurd h

pub texts_changed : (files : List FileOf) (cs : List ChangeOf) (ps : List ℕ) (ts : List Text) → Ordered files → AreRising cs → AreChangedFiles files cs ps ts → AreChangedTexts files cs ps ts
texts_changed files cs ps ts o r h = record {
  within = places_within files cs ps ts h;
  rising = places_rise files o cs ps ts r h;
  paired = as_many_texts files cs ps ts h;
  counted = as_many_places files cs ps ts h;
  put = texts_are_put files cs ps ts o r h;
}

-- ---- what cannot be put

-- each change that is put is put into a file
change_is_there : (files : List FileOf) (cs : List ChangeOf) (after : List FileOf) → ArePut files cs after → (c : ChangeOf) → Contains cs c → (f : FileOf) × (new : Text) × Contains files f × (f.path ≡ c.path) × HasChange f.bytes c new
change_is_there [] cs after h c k = absurd (contains_none c (subst (λ (z : List ChangeOf). Contains z c) h.0 k))
change_is_there (f ∷ fs) cs [] h c k = absurd h
change_is_there (f ∷ fs) [] (g ∷ gs) h c k = absurd (contains_none c k)
change_is_there (f ∷ fs) (d ∷ cs) (g ∷ gs) h c k = elim h.1 [
  | inl x ↦ elim (contains_cases d c cs k) [
    | inl same ↦ (f, g.bytes, contains_head f fs, sym x.0 ∙ ap (λ (z : ChangeOf). z.path) same, subst (λ (z : ChangeOf). HasChange f.bytes z g.bytes) same x.2)
    | inr later ↦ (let r = change_is_there fs h.0 gs h.2 c (subst (λ (z : List ChangeOf). Contains z c) (sym x.3) later) in (r.0, r.1, contains_later f r.0 fs r.2, r.3, r.4))
  ]
  | inr x ↦ (let r = change_is_there fs h.0 gs h.2 c (subst (λ (z : List ChangeOf). Contains z c) (sym x.2) k) in (r.0, r.1, contains_later f r.0 fs r.2, r.3, r.4))
]

pub no_texts_put : (files : List FileOf) (cs : List ChangeOf) (c : ChangeOf) → Contains cs c → HasNoChangedFile files c → (after : List FileOf) → ArePut files cs after → ⊥
no_texts_put files cs c k none after h = (let r = change_is_there files cs after h c k in none r.0 r.1 r.2 r.3 r.4)

-- no more files are changed than there are
pub few_changes : (files : List FileOf) (cs : List ChangeOf) (after : List FileOf) → ArePut files cs after → length cs ≤ length files
few_changes [] cs after h = (let none : length cs ≡ 0 = ap length h.0 in omega (arith, none))
few_changes (f ∷ fs) cs [] h = absurd h
few_changes (f ∷ fs) [] (g ∷ gs) h = omega arith
few_changes (f ∷ fs) (d ∷ cs) (g ∷ gs) h =
    let few = few_changes fs h.0 gs h.2 in
    elim h.1 [
      | inl x ↦ (let same : length h.0 ≡ length cs = ap length x.3 in omega (arith, few, same))
      | inr x ↦ (let same : length h.0 ≡ length (d ∷ cs) = ap length x.2 in omega (arith, few, same))
    ]

-- ---- the place of a path

module _ (files : List FileOf) (path : List ℕ) where
  pub file_found : (place : ℕ) → position (bytes_eq path) (paths_of files) ≡ Some place → (place < length files) × ((file_at files place).path ≡ path)
  file_found place e =
      let p = position-Some (bytes_eq path) (paths_of files) place [] e in
      let count = length-map files (λ f. f.path) in
      let within : place < length files = omega (arith, count, p.0) in
      (within, sym (word_from_same path (get_or (paths_of files) place []) p.1 ∙ get_or-map (λ f. f.path) files place no_file [] within))

  pub no_path : position (bytes_eq path) (paths_of files) ≡ None → (q : List ℕ) → Contains (paths_of files) q → path ≡ q → ⊥
  no_path e q k same = elim (cases_lt (position_or_len (bytes_eq path) (paths_of files)) (length (paths_of files))) [
    | inl lt ↦
        let n = position_or_len (bytes_eq path) (paths_of files) in
        let inside : nat_lt n (length (paths_of files)) ≡ true = grind (arith, nat_tests) in
        none-some n (sym e ∙ cond-true (nat_lt n (length (paths_of files))) (Some n) None inside)
    | inr le ↦
        let fails = fails_before_first (bytes_eq path) (paths_of files) k.0 q (omega (arith, le, k.1)) in
        let here = same_from_word path q same in
        let there = ap (bytes_eq path) k.2 in
        absurd (cc)
  ]

pub file_changed : (files : List FileOf) (c : ChangeOf) (place : ℕ) (text new : Text) → Some place ≡ position (bytes_eq c.path) (paths_of files) → text ≡ (file_at files place).bytes → HasChange text c new → IsChangedFile files c place new
file_changed files c place text new e same h =
    let found = file_found files c.path place (sym e) in
    record { within = found.0; path = found.1; changed = subst (λ (z : Text). HasChange z c new) same h }

-- no other file has its path
one_file : (files : List FileOf) (place : ℕ) (f : FileOf) → Ordered files → place < length files → Contains files f → f.path ≡ (file_at files place).path → f ≡ file_at files place
one_file files place f o lt k same = elim (cases_lt k.0 place) [
  | inl low ↦ absurd (never (get_or files k.0 f).path (get_or files place f).path f.path (o k.0 place f low lt) (ap (λ (z : FileOf). z.path) k.2) (ap (λ (z : FileOf). z.path) here ∙ sym same))
  | inr le ↦ elim (cases_lt place k.0) [
    | inl high ↦ absurd (never (get_or files place f).path (get_or files k.0 f).path f.path (o place k.0 f high k.1) (ap (λ (z : FileOf). z.path) here ∙ sym same) (ap (λ (z : FileOf). z.path) k.2))
    | inr ge ↦ (let at : k.0 ≡ place = omega (arith, le, ge) in sym k.2 ∙ ap (λ (n : ℕ). get_or files n f) at ∙ here)
  ]
]
  where
    here : get_or files place f ≡ file_at files place
    here = get_or_default files place f no_file lt

pub no_text_there : (files : List FileOf) (c : ChangeOf) (place : ℕ) (text : Text) → Ordered files → Some place ≡ position (bytes_eq c.path) (paths_of files) → text ≡ (file_at files place).bytes → ((new : Text) → HasChange text c new → ⊥) → HasNoChangedFile files c
no_text_there files c place text o e same none f new k at h =
    let found = file_found files c.path place (sym e) in
    let one = one_file files place f o found.0 k (at ∙ sym found.1) in
    none new (subst (λ (z : Text). HasChange z c new) (ap (λ (z : FileOf). z.bytes) one ∙ sym same) h)

pub no_file_there : (files : List FileOf) (c : ChangeOf) → None ≡ position (bytes_eq c.path) (paths_of files) → HasNoChangedFile files c
no_file_there files c e f new k at h = no_path files c.path (sym e) f.path (contains_map (λ (x : FileOf). x.path) files f k) (sym at)

-- ---- what the code goes through

pub changed_next : (files : List FileOf) (changes : List Change) (i : ℕ) (change : Change) (ps qs : List ℕ) (p : ℕ) (ts us : List (Vec ℕ)) (t : Vec ℕ) → i < length changes → change ≡ get_or changes i change
    → AreChangedFiles files (map change_of (take i changes)) ps (map (λ x. x.items) ts) → IsChangedFile files (change_of change) p t.items → qs ≡ ps ++ p ∷ [] → us ≡ ts ++ t ∷ []
    → AreChangedFiles files (map change_of (take (i + 1) changes)) qs (map (λ x. x.items) us)
changed_next files changes i change ps qs p ts us t lt is so_far here places texts =
    subst (λ (z : List ChangeOf). AreChangedFiles files z qs (map (λ x. x.items) us)) (ap (λ (z : Change). map change_of (take i changes) ++ change_of z ∷ []) is ∙ sym (map_more change_of changes i change lt))
    (subst (λ (z : List ℕ). AreChangedFiles files (map change_of (take i changes) ++ change_of change ∷ []) z (map (λ x. x.items) us)) (sym places)
    (subst (AreChangedFiles files (map change_of (take i changes) ++ change_of change ∷ []) (ps ++ p ∷ [])) (sym (ap (map (λ (x : Vec ℕ). x.items)) texts ∙ map_push (λ (x : Vec ℕ). x.items) ts t))
    (changed_more files (map change_of (take i changes)) ps (map (λ x. x.items) ts) (change_of change) p t.items so_far here)))

pub all_changed : (files : List FileOf) (changes : List Change) (i : ℕ) (ps : List ℕ) (ts : List Text) → length changes ≤ i → AreChangedFiles files (map change_of (take i changes)) ps ts → AreChangedFiles files (map change_of changes) ps ts
all_changed files changes i ps ts end h = subst (λ (z : List Change). AreChangedFiles files (map change_of z) ps ts) (take_all i changes end) h

pub nothing_at : (files : List FileOf) (changes : List Change) (i : ℕ) (change : Change) → i < length changes → change ≡ get_or changes i change → HasNoChangedFile files (change_of change) → (after : List FileOf) → ArePut files (map change_of changes) after → ⊥
nothing_at files changes i change lt is none = no_texts_put files (map change_of changes) (change_of change) (contains_map change_of changes change (i, lt, sym is)) none
