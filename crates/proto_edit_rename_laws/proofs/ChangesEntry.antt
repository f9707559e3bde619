-- The changes of a rename that no case refuses are an entry, and the files after it are texts (for the crates above).
use Rattle.std.proofs.Common.{◌≡◌, ◌≢◌, ℕ, zero, suc, ◌+◌, ◌<◌, ◌≤◌, List, [], ◌∷◌, ◌++◌, length, get_or, map, Option, Some, None, refl, sym, ap, subst, ◌∙◌, inl, inr, arith, length-append, flat_map, sum_by, All, AllPairs, Contains}
use Rattle.proto_base.proofs.Common.{list_any, cases_lt, cases_order, cond-true, All-contains_itself, Contains-append_cases, sum_by-cons, text_limit, contains_cases, contains_head, contains_later}
use Rattle.proto_text.specs.declared.lexer.Token.{Token}
use Rattle.proto_text.proofs.Common.{Edit, Puts, old_len, new_len, text_at, edit_if, token_edits, word_at, lexeme_at, puts_length, length_map}
use Rattle.proto_files.proofs.Common.{FileOf, AreWorkspaceFiles, file_at, IsBefore, IsWorkspacePath, ReadOf, read_at}
use Rattle.proto_names_rules.specs.Grown.{At, at}
use Rattle.proto_names_imports.specs.Links.{text_of, link_skeleton}
use Rattle.proto_edit_entries.specs.Entries.{AreRising, BeginsBefore, IsChange, IsMeasured, ChangeOf}
use Rattle.proto_edit_entries.proofs.ShortPuts.{puts_are_short}
use Rattle.proto_edit_rename_laws.specs.Common.{same_name, too_large, ChangesAreEntry, IsPutIn, TextsAfter, words_of_file, NewWords, renamed_defaults, change_at, same_at, standing, change_by, changes_from, spliced_length, Target, name_map, renamed_words}
use Rattle.proto_edit_rename_laws.proofs.ChangesPut.{edits_at, from_changes, is_by, to_changes}
use Rattle.proto_edit_rename_laws.proofs.OldTexts.{old_texts}
use Rattle.proto_edit_rename_laws.proofs.Places.{listed}

all_of : {X : Type 0} (P : X → Type 0) (xs : List X) → ((x : X) → Contains xs x → P x) → All P xs
all_of P xs h k d l = h (get_or xs k d) (All-contains_itself xs k d l)

-- ---- the edits of tokens

-- what holds of each changed token holds of each edit
each_edit : (text : List ℕ) (c : ℕ → Option (List ℕ)) (P : List ℕ → List ℕ → Type 0) (n : ℕ) (ts : List Token)
    → ((k : ℕ) (w : List ℕ) → k < length ts → c (n + k) ≡ Some w → P (word_at (map (lexeme_at text) ts) k) w)
    → (e : Edit) → Contains (token_edits text c n ts) e → P e.old e.new
each_edit text c P n [] h e ce = absurd (omega (arith, ce.1))
each_edit text c P n (t ∷ ts) h e ce = elim (Contains-append_cases (edit_if (c n) t.span.start (text_at text t.span)) (token_edits text c (suc n) ts) e ce) [
  | inl a ↦ by (c n) refl a
  | inr b ↦ each_edit text c P (suc n) ts (λ k w l q. h (suc k) w (omega (arith, l)) (ap c (omega arith) ∙ q)) e b
]
  where
    by : (o : Option (List ℕ)) → c n ≡ o → Contains (edit_if o t.span.start (text_at text t.span)) e → P e.old e.new
    by None q a = absurd (omega (arith, a.1))
    by (Some w) q a = elim (contains_cases _ e [] a) [
      | inl is ↦ subst (λ (x : Edit). P x.old x.new) is (h 0 w (omega arith) (ap c (omega arith) ∙ q))
      | inr d ↦ absurd (omega (arith, d.1))
    ]

-- a changed token is an edit
some_edit : (text : List ℕ) (c : ℕ → Option (List ℕ)) (n k : ℕ) (w : List ℕ) (ts : List Token) → k < length ts → c (n + k) ≡ Some w → token_edits text c n ts ≢ []
some_edit text c n k w [] l q e = absurd (omega (arith, l))
some_edit text c n zero w (t ∷ ts) l q e =
    let here : c n ≡ Some w = ap c (omega arith) ∙ q in
    let bad : edit_if (Some w) t.span.start (text_at text t.span) ++ token_edits text c (suc n) ts ≡ [] = ap (λ o. edit_if o t.span.start (text_at text t.span) ++ token_edits text c (suc n) ts) (sym here) ∙ e in
    absurd cc
some_edit text c n (suc k) w (t ∷ ts) l q e =
    let len = ap length e in
    let parts = length-append (edit_if (c n) t.span.start (text_at text t.span)) (token_edits text c (suc n) ts) in
    some_edit text c (suc n) k w ts (omega (arith, l)) (ap c (omega arith) ∙ q) (empty (token_edits text c (suc n) ts) (omega (arith, len, parts)))
  where
    empty : (es : List Edit) → length es ≡ 0 → es ≡ []
    empty [] h = refl
    empty (x ∷ es) h = absurd (omega (arith, h))

-- edits that put a text lie in it
lies_in : (from : ℕ) (text new : List ℕ) (es : List Edit) → Puts from text es new → (e : Edit) → Contains es e → e.at + length e.old ≤ from + length text
lies_in from text new [] p e c = absurd (omega (arith, c.1))
lies_in from text new (x ∷ es) p e c =
    let kept = p.0 in
    let rest = p.1 in
    let cut = p.3 in
    let l1 = ap length cut.0 in
    let l2 = length-append kept (x.old ++ rest) in
    let l3 = length-append x.old rest in
    let place = cut.1 in
    elim (contains_cases x e es c) [
      | inl is ↦ subst (λ (y : Edit). y.at + length y.old ≤ from + length text) is (omega (arith, l1, l2, l3, place))
      | inr d ↦ (let more = lies_in (x.at + length x.old) rest p.2 es p.5 e d in omega (arith, l1, l2, l3, place, more))
    ]

old_sum : (es : List Edit) → sum_by (λ (e : Edit). length e.old) es ≡ old_len es
old_sum [] = refl
old_sum (e ∷ es) = sum_by-cons (λ (e : Edit). length e.old) e es ∙ ap (λ n. length e.old + n) (old_sum es)

new_sum : (es : List Edit) → sum_by (λ (e : Edit). length e.new) es ≡ new_len es
new_sum [] = refl
new_sum (e ∷ es) = sum_by-cons (λ (e : Edit). length e.new) e es ∙ ap (λ n. length e.new + n) (new_sum es)

-- edits of one old word
module _ (old to : List ℕ) where
  abbrev AreOf : List Edit → Type 0
  AreOf es = (e : Edit) → Contains es e → (e.old ≡ old) × (e.new ≡ to)

  not_longer : (es : List Edit) → AreOf es → length to ≤ length old → new_len es ≤ old_len es
  not_longer [] h l = omega arith
  not_longer (e ∷ es) h l =
      let is = h e (contains_head e es) in
      let a = ap length is.0 in
      let b = ap length is.1 in
      let more = not_longer es (λ x c. h x (contains_later e x es c)) l in
      omega (arith, a, b, more, l)

  not_shorter : (es : List Edit) → AreOf es → length old ≤ length to → old_len es ≤ new_len es
  not_shorter [] h l = omega arith
  not_shorter (e ∷ es) h l =
      let is = h e (contains_head e es) in
      let a = ap length is.0 in
      let b = ap length is.1 in
      let more = not_shorter es (λ x c. h x (contains_later e x es c)) l in
      omega (arith, a, b, more, l)

  same_length : (e : Edit) (es : List Edit) → AreOf (e ∷ es) → new_len (e ∷ es) ≡ old_len (e ∷ es) → length old ≡ length to
  same_length e es h q =
      let is = h e (contains_head e es) in
      let a = ap length is.0 in
      let b = ap length is.1 in
      let rest : AreOf es = λ x c. h x (contains_later e x es c) in
      elim (cases_order (length old) (length to)) [
        | inl same ↦ same
        | inr (inl less) ↦ (let m = not_shorter es rest (omega (arith, less)) in absurd (omega (arith, a, b, q, m, less)))
        | inr (inr more) ↦ (let m = not_longer es rest (omega (arith, more)) in absurd (omega (arith, a, b, q, m, more)))
      ]

-- ---- rising paths

rising : (c : NewWords) (n : ℕ) (fs : List FileOf) (rs : List ReadOf) → AllPairs (λ f g. IsBefore f.path g.path) fs → AreRising (changes_from c n fs rs)
rising c n [] rs h = tt
rising c n (f ∷ fs) [] h = tt
rising c n (f ∷ fs) (r ∷ rs) h = by (token_edits f.bytes (words_of_file c n) 0 r.tokens) (rising c (suc n) fs rs (λ i j d p q. h (suc i) (suc j) d (omega (arith, p)) (omega (arith, q))))
  where
    index_is : (xs : List FileOf) (i : ℕ) → i < length xs → get_or xs i (file_at xs i) ≡ file_at xs i
    index_is [] i l = absurd (omega (arith, l))
    index_is (y ∷ xs) zero l = refl
    index_is (y ∷ xs) (suc i) l = index_is xs i (omega (arith, l))

    first : (x : ChangeOf) → x.path ≡ f.path → (cs : List ChangeOf) → changes_from c (suc n) fs rs ≡ cs → BeginsBefore x cs
    first x p [] q = tt
    first x p (d ∷ ds) q =
        let k = from_changes c (suc n) fs rs d (subst (λ z. Contains z d) (sym q) (contains_head d ds)) in
        let is = is_by (file_at fs k.0) (edits_at c (suc n) fs rs k.0) d k.2 in
        let below = k.1 in
        let before : IsBefore f.path (get_or fs k.0 (file_at fs k.0)).path = h 0 (suc k.0) (file_at fs k.0) (omega arith) (omega (arith, below)) in
        subst (λ z. IsBefore z d.path) (sym p) (subst (IsBefore f.path) (ap (λ (g : FileOf). g.path) (index_is fs k.0 k.1) ∙ sym is.path) before)

    by : (es : List Edit) → AreRising (changes_from c (suc n) fs rs) → AreRising (change_by f es ++ changes_from c (suc n) fs rs)
    by [] more = more
    by (s ∷ es) more = (first (record { path = f.path; before = length f.bytes; after = spliced_length (length f.bytes) (s ∷ es); splices = s ∷ es }) refl (changes_from c (suc n) fs rs) refl, more)

-- ---- the rename

module _ (files : List FileOf) (reads : List ReadOf) (name to : List ℕ) (t : Target) (after : List FileOf) (seen : List ReadOf) (a : IsPutIn files reads name to t after seen) where
  abbrev c : At → Option (List ℕ)
  c = renamed_words files reads t to

  abbrev edits : ℕ → List Edit
  edits k = token_edits (file_at files k).bytes (words_of_file (renamed_words files reads t to) k) 0 (read_at reads k).tokens

  put : (k : ℕ) → k < length files → Puts 0 (file_at files k).bytes (edits k) (file_at after k).bytes
  put k l = (a.reworded.words k l).put

  fits : (k : ℕ) → k < length files → length (file_at after k).bytes ≤ text_limit
  fits k l =
      let e = puts_length 0 (file_at files k).bytes (file_at after k).bytes (edits k) (put k l) in
      elim (cases_lt (text_limit + old_len (edits k)) (length (file_at files k).bytes + new_len (edits k))) [
        | inl big ↦ absurd (a.admissible 16 (too_large t k a.named l big))
        | inr small ↦ omega (arith, small, e)
      ]

  are_of : (k : ℕ) → (e : Edit) → Contains (edits k) e → (e.old ≡ text_of files reads t.token) × (e.new ≡ to)
  are_of k = each_edit (file_at files k).bytes (words_of_file (renamed_words files reads t to) k) (λ old new. (old ≡ text_of files reads t.token) × (new ≡ to)) 0 (read_at reads k).tokens
      (λ j w l q. (let o = old_texts files reads t to (at k j) w (ap (words_of_file (renamed_words files reads t to) k) (omega arith) ∙ q) in (o.1, o.0)))

  measured : (k : ℕ) → k < length files → (s : Edit) (es : List Edit) → edits k ≡ s ∷ es
      → IsMeasured (record { path = (file_at files k).path; before = length (file_at files k).bytes; after = spliced_length (length (file_at files k).bytes) (s ∷ es); splices = s ∷ es })
  measured k l s es q =
      let p : Puts 0 (file_at files k).bytes (s ∷ es) (file_at after k).bytes = subst (λ z. Puts 0 (file_at files k).bytes z (file_at after k).bytes) q (put k l) in
      let is : (e : Edit) → Contains (s ∷ es) e → (e.old ≡ text_of files reads t.token) × (e.new ≡ to) = subst (λ z. (e : Edit) → Contains z e → (e.old ≡ text_of files reads t.token) × (e.new ≡ to)) q (are_of k) in
      let short = (a.texts k l).short in
      let small = fits k l in
      let len = puts_length 0 (file_at files k).bytes (file_at after k).bytes (s ∷ es) p in
      let o = old_sum (s ∷ es) in
      let m = new_sum (s ∷ es) in
      record {
        before_fits = short;
        after_fits = omega (arith, small, len);
        some = λ e. absurd cc;
        ordered = puts_are_short 0 0 (file_at files k).bytes (file_at after k).bytes (s ∷ es) p (omega (arith, short)) (omega (arith, small));
        lengths = record {
          within = all_of (λ (e : Edit). e.at + length e.old ≤ length (file_at files k).bytes) (s ∷ es) (λ e ce. (let h = lies_in 0 (file_at files k).bytes (file_at after k).bytes (s ∷ es) p e ce in omega (arith, h)));
          lengths = omega (arith, len, o, m);
        };
        told_apart = λ h. (
            let even : new_len (s ∷ es) ≡ old_len (s ∷ es) = omega (arith, h, len) in
            let same = same_length (text_of files reads t.token) to s es is even in
            record {
              same_lengths = all_of (λ (e : Edit). length e.old ≡ length e.new) (s ∷ es) (λ e ce. (let i = is e ce in ap length i.0 ∙ same ∙ sym (ap length i.1)));
              differs = λ all. (
                  let i = is s (contains_head s es) in
                  let e : s.old ≡ s.new = all 0 s (omega arith) in
                  a.admissible 5 (same_name t a.named (sym i.0 ∙ e ∙ i.1)));
            });
      }

  change_is : (k : ℕ) → k < length files → IsWorkspacePath (file_at files k).path → (es : List Edit) → edits k ≡ es → (ch : ChangeOf) → Contains (change_by (file_at files k) es) ch → IsChange ch
  change_is k l path [] q ch h = absurd (omega (arith, h.1))
  change_is k l path (s ∷ es) q ch h = elim (contains_cases _ ch [] h) [
    | inl is ↦ subst IsChange is (record { path = path; measured = measured k l s es q })
    | inr d ↦ absurd (omega (arith, d.1))
  ]

  module _ (has : AreWorkspaceFiles files) where
    each : (ch : ChangeOf) → Contains (changes_from (renamed_words files reads t to) 0 files reads) ch → IsChange ch
    each ch h =
        let k = from_changes (renamed_words files reads t to) 0 files reads ch h in
        let e : 0 + k.0 ≡ k.0 = omega arith in
        let path : IsWorkspacePath (file_at files k.0).path = path_at files k.0 k.1 has.named in
        change_is k.0 k.1 path (edits k.0) refl ch (subst (λ m. Contains (change_by (file_at files k.0) (token_edits (file_at files k.0).bytes (words_of_file (renamed_words files reads t to) m) 0 (read_at reads k.0).tokens)) ch) e k.2)
      where
        path_at : (fs : List FileOf) (i : ℕ) → i < length fs → All (λ (f : FileOf). IsWorkspacePath f.path) fs → IsWorkspacePath (file_at fs i).path
        path_at [] i l h = absurd (omega (arith, l))
        path_at (f ∷ fs) zero l h = h 0 f l
        path_at (f ∷ fs) (suc i) l h = path_at fs i (omega (arith, l)) (λ j d m. h (suc j) d (omega (arith, m)))

    first_place : (others : List At) → change_at (t.token ∷ others) to t.token ≡ Some to
    first_place others = cond-true (list_any (same_at t.token) (t.token ∷ others)) (Some to) None (listed t.token (t.token ∷ others) (contains_head t.token others))

    some : t.token.file < length files → t.token.token < length (read_at reads t.token.file).tokens → changes_from (renamed_words files reads t to) 0 files reads ≢ []
    some l m none = by (edits t.token.file) refl
      where
        here : renamed_words files reads t to t.token ≡ Some to
        here = first_place (flat_map (standing (text_of files reads) (link_skeleton files reads) (name_map files reads t to)) (link_skeleton files reads).used ++ renamed_defaults files reads t.enum (name_map files reads t to).old)

        by : (es : List Edit) → edits t.token.file ≡ es → ⊥
        by [] q = some_edit (file_at files t.token.file).bytes (words_of_file (renamed_words files reads t to) t.token.file) 0 t.token.token to (read_at reads t.token.file).tokens m (ap (words_of_file (renamed_words files reads t to) t.token.file) (omega arith) ∙ here) q
        by (s ∷ es) q =
            let f = file_at files t.token.file in
            let ch : ChangeOf = record { path = f.path; before = length f.bytes; after = spliced_length (length f.bytes) (s ∷ es); splices = s ∷ es } in
            let e : t.token.file ≡ 0 + t.token.file = omega arith in
            let there = to_changes (renamed_words files reads t to) 0 files reads ch t.token.file l a.read.same
            (subst (λ i. Contains (change_by (file_at files t.token.file) (token_edits (file_at files t.token.file).bytes (words_of_file (renamed_words files reads t to) i) 0 (read_at reads t.token.file).tokens)) ch) e
            (subst (λ z. Contains (change_by (file_at files t.token.file) z) ch) (sym q) (contains_head ch []))) in
            let bad = subst (λ z. Contains z ch) none there in
            absurd (omega (arith, bad.1))

pub changes_are_entry : ChangesAreEntry
changes_are_entry files reads name to t after seen has a l m = record {
  some = some files reads name to t after seen a has l m;
  rising = rising (renamed_words files reads t to) 0 files reads has.ordered;
  each = all_of IsChange (changes_from (renamed_words files reads t to) 0 files reads) (each files reads name to t after seen a has);
}

pub texts_after : TextsAfter
texts_after files reads name to t after seen a k l =
    let same : length after ≡ length files = sym (length_map (λ (g : FileOf). g.path) after) ∙ ap length a.reworded.paths ∙ length_map (λ (g : FileOf). g.path) files in
    let inside : k < length files = omega (arith, l, same) in
    record { short = fits files reads name to t after seen a k inside; utf8 = (a.reworded.words k inside).utf8 (a.texts k inside).utf8 }
