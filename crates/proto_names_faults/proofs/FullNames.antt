-- The full names of declarations as text.
use Rattle.std.proofs.Common.{◌≡◌, ℕ, zero, suc, ◌+◌, ◌<◌, List, [], ◌∷◌, ◌++◌, append_assoc, length, get_or, map, take, drop, string_bytes, refl, sym, ◌∙◌, ap, subst, inl, inr, arith, All, Contains, take-append-drop, length-take-le}
use Rattle.std.specs.Cow.{cow_str_bytes}
use Rattle.std.proofs.Math.ListN.{get_or-map}
use Rattle.proto_base.proofs.Common.{All-contains, Contains-append_cases, Contains-append_left, Contains-get_or, cases_lt, contains_cases, contains_head, contains_later, get_or-map as get_or-map_within, get_or_past, length-map, map-append, Vec}
use Rattle.proto_names_rules.proofs.Common.{ArePlain, IsPlain, at, joined, map_map, under}
use Rattle.proto_names_imports.proofs.Common.{plain_join, take_more}
use Rattle.proto_names_outline.specs.declared.listing.Above.{Above}
use Rattle.proto_names_outline.specs.declared.listing.Above.TheVariants.{Below, Outermost}
use Rattle.proto_names_table.specs.Common.{AreSpelled, Named, all_named, name_above, named_by, named_in, named_on}
use Rattle.proto_names_table.specs.declared.spelled.Spelled.{Spelled}
use Rattle.proto_names_table.proofs.Common.{joined_more}
use Rattle.proto_names_table.proofs.Naming.{all_more, named_plain, named_length}
use Rattle.proto_names_faults.specs.Common.{NameAt, NamedText, name_at, shown, text_above}
use Rattle.proto_names_faults.proofs.Added.{one_more}

-- ---- names are plain

abbrev AllNamesPlain : List Named → Type 0
AllNamesPlain ds = (d : Named) → Contains ds d → ArePlain d.name

above_plain : (ds : List Named) → AllNamesPlain ds → (a : Above) → ArePlain (name_above ds a)
above_plain ds plain Outermost = tt
above_plain ds plain (Below k) = elim (cases_lt k (length (map (λ d. d.name) ds))) [
  | inl l ↦ named (map (λ d. d.name) ds) k l (λ x c. in_names ds x c plain)
  | inr past ↦ subst ArePlain (sym (get_or_past (map (λ d. d.name) ds) k [] past)) tt
]
  where
    named : (xs : List (List (List ℕ))) (i : ℕ) → i < length xs → ((x : List (List ℕ)) → Contains xs x → ArePlain x) → ArePlain (get_or xs i [])
    named xs i l h = h (get_or xs i []) (Contains-get_or xs i [] l)

    in_names : (es : List Named) (x : List (List ℕ)) → Contains (map (λ d. d.name) es) x → AllNamesPlain es → ArePlain x
    in_names [] x c h = absurd (omega (arith, c.1))
    in_names (e ∷ es) x c h = elim (contains_cases e.name x (map (λ d. d.name) es) c) [
      | inl same ↦ subst ArePlain same (h e (contains_head e es))
      | inr d ↦ in_names es x d (λ z m. h z (contains_later e z es m))
    ]

on_plain : (file : ℕ) (before : List Named) (ss : List Spelled) → AllNamesPlain before → ((s : Spelled) → Contains ss s → IsPlain (cow_str_bytes s.word)) → AllNamesPlain (named_on file before ss)
on_plain file before [] plain words = plain
on_plain file before (s ∷ ss) plain words =
    on_plain file (before ++ named_by file before s ∷ []) ss
    (λ d c. elim ((one_more before (named_by file before s) d).0 c) [
      | inl b ↦ plain d b
      | inr e ↦ subst (λ (z : Named). ArePlain z.name) e (plain_join (name_above before s.above) (cow_str_bytes s.word) (above_plain before plain s.above) (words s (contains_head s ss)))
    ])
    (λ t c. words t (contains_later s t ss c))

pub contains_taken : {X : Type 0} (xs : List X) (i : ℕ) (x : X) → Contains (take i xs) x → Contains xs x
contains_taken {X} xs i x c = subst (λ (ys : List X). Contains ys x) (take-append-drop i xs) (Contains-append_left (take i xs) (drop i xs) x c)

front_plain : (file : ℕ) (ss : List Spelled) (i : ℕ) → AreSpelled ss → AllNamesPlain (named_on file [] (take i ss))
front_plain file ss i ok =
    on_plain file [] (take i ss) (λ d c. absurd (omega (arith, c.1)))
    (λ s c. All-contains (λ z. IsPlain (cow_str_bytes z.word)) ss s ok.plain (contains_taken ss i s c))

pub all_plain : (n : ℕ) (fs : List (List Spelled)) → ((k : ℕ) → k < length fs → AreSpelled (get_or fs k [])) → (d : Named) → Contains (all_named n fs) d → ArePlain d.name
all_plain n [] ok d c = absurd (omega (arith, c.1))
all_plain n (f ∷ fs) ok d c = elim (Contains-append_cases (named_in n f) (all_named (suc n) fs) d c) [
  | inl a ↦ subst (λ (z : Named). ArePlain z.name) a.2 (named_plain n f a.0 d (ok 0 (omega arith)) (omega (arith, a.1, named_length n f)))
  | inr b ↦ all_plain (suc n) fs (λ k l. ok (suc k) (omega (arith, l))) d b
]

-- ---- one declaration more

on_snoc : (file : ℕ) (before : List Named) (ss : List Spelled) (s : Spelled) → named_on file before (ss ++ s ∷ []) ≡ named_on file before ss ++ named_by file (named_on file before ss) s ∷ []
on_snoc file before [] s = refl
on_snoc file before (t ∷ ss) s = on_snoc file (before ++ named_by file before t ∷ []) ss s

above_text : (xs : List NameAt) (ds : List Named) (a : Above) → xs ≡ map name_at ds → text_above xs a ≡ joined (name_above ds a)
above_text xs ds Outermost e = refl
above_text xs ds (Below k) e =
    ap (λ (ys : List NameAt). get_or (map (λ x. x.text) ys) k []) e
    ∙ ap (λ (ts : List (List ℕ)). get_or ts k []) (map_map name_at (λ x. x.text) ds ∙ sym (map_map (λ d. d.name) joined ds))
    ∙ get_or-map joined (map (λ d. d.name) ds) k []

text_turn : (file : ℕ) (ss : List Spelled) (i : ℕ) (s : Spelled) (own next : List NamedText) (n : NamedText) → AreSpelled ss → i < length ss → s ≡ get_or ss i s → map shown own ≡ map name_at (named_on file [] (take i ss)) → next ≡ own ++ n ∷ []
    → string_bytes n.text ≡ under (text_above (map shown own) s.above) (cow_str_bytes s.word) → n.kind ≡ s.kind → n.file ≡ file → n.token ≡ s.token → map shown next ≡ map name_at (named_on file [] (take (i + 1) ss))
text_turn file ss i s own next n ok l is before new text kind at_file token =
    let ds = named_on file [] (take i ss) in
    let more : take (i + 1) ss ≡ take i ss ++ s ∷ [] = take_more ss i s l ∙ ap (λ z. take i ss ++ z ∷ []) (sym is) in
    let name : string_bytes n.text ≡ joined (name_above ds s.above ++ cow_str_bytes s.word ∷ []) =
    text ∙ ap (λ t. under t (cow_str_bytes s.word)) (above_text (map shown own) ds s.above before)
    ∙ sym (joined_more (name_above ds s.above) (cow_str_bytes s.word) (above_plain ds (front_plain file ss i ok) s.above)) in
    let one : shown n ≡ name_at (named_by file ds s) = λ j. record { text = name j; kind = kind j; place = at (at_file j) (token j) } in
    ap (map shown) new ∙ map-append shown own (n ∷ []) ∙ ap (λ (xs : List NameAt). xs ++ shown n ∷ []) before ∙ ap (λ (x : NameAt). map name_at ds ++ x ∷ []) one
    ∙ sym (map-append name_at ds (named_by file ds s ∷ []))
    ∙ ap (map name_at) (sym (on_snoc file [] (take i ss) s) ∙ ap (named_on file []) (sym more))

-- the text of a declaration that is shown
pub text_at : (before : List NamedText) (k : ℕ) (d : NamedText) → k < length before → get_or (map (λ x. x.text) (map shown before)) k [] ≡ string_bytes (get_or before k d).text
text_at before k d l = ap (λ (ts : List (List ℕ)). get_or ts k []) (map_map shown (λ (x : NameAt). x.text) before) ∙ get_or-map_within (λ (n : NamedText). string_bytes n.text) before k d [] l

-- those that were added of the file
drop_shown : (n : ℕ) (xs : List NamedText) → map shown (drop n xs) ≡ drop n (map shown xs)
drop_shown zero xs = refl
drop_shown (suc n) [] = refl
drop_shown (suc n) (x ∷ xs) = drop_shown n xs

behind_front : (old : List NamedText) (more : List NameAt) → drop (length old) (map shown old ++ more) ≡ more
behind_front [] more = refl
behind_front (x ∷ old) more = behind_front old more

-- one declaration more, behind those of other files
pub texts_turn : (file : ℕ) (ss : List Spelled) (i : ℕ) (s : Spelled) (old all next own : List NamedText) (n : NamedText) → AreSpelled ss → i < length ss → s ≡ get_or ss i s → own ≡ drop (length old) all
    → map shown all ≡ map shown old ++ map name_at (named_on file [] (take i ss)) → next ≡ all ++ n ∷ []
    → string_bytes n.text ≡ under (text_above (map shown own) s.above) (cow_str_bytes s.word) → n.kind ≡ s.kind → n.file ≡ file → n.token ≡ s.token → map shown next ≡ map shown old ++ map name_at (named_on file [] (take (i + 1) ss))
texts_turn file ss i s old all next own n ok l is at_end before new text kind at_file token =
    let done = map name_at (named_on file [] (take i ss)) in
    let here : map shown own ≡ done = ap (map shown) at_end ∙ drop_shown (length old) all ∙ ap (drop (length old)) before ∙ behind_front old done in
    let turn : map shown (own ++ n ∷ []) ≡ map name_at (named_on file [] (take (i + 1) ss)) = text_turn file ss i s own (own ++ n ∷ []) n ok l is here refl text kind at_file token in
    ap (map shown) new ∙ map-append shown all (n ∷ []) ∙ ap (λ (xs : List NameAt). xs ++ shown n ∷ []) before ∙ append_assoc (map shown old) done (shown n ∷ [])
    ∙ ap (λ (xs : List NameAt). map shown old ++ xs) (ap (λ (xs : List NameAt). xs ++ shown n ∷ []) (sym here) ∙ sym (map-append shown own (n ∷ [])) ∙ turn)

-- the declarations of one file more
pub file_texts_turn : (fs : List (List Spelled)) (k : ℕ) (all next : List NamedText) → k < length fs → map shown all ≡ map name_at (all_named 0 (take k fs)) → map shown next ≡ map shown all ++ map name_at (named_in k (get_or fs k []))
    → map shown next ≡ map name_at (all_named 0 (take (k + 1) fs))
file_texts_turn fs k all next l before new =
    let n : 0 + length (take k fs) ≡ k = let q = length-take-le k fs (omega (arith, l)) in omega (arith, q) in
    new
    ∙ ap (λ (xs : List NameAt). xs ++ map name_at (named_in k (get_or fs k []))) before ∙ ap (λ (m : ℕ). map name_at (all_named 0 (take k fs)) ++ map name_at (named_in m (get_or fs k []))) (sym n)
    ∙ sym (map-append name_at (all_named 0 (take k fs)) (named_in (0 + length (take k fs)) (get_or fs k [])))
    ∙ ap (map name_at) (sym (all_more 0 (take k fs) (get_or fs k [])) ∙ ap (all_named 0) (sym (take_more fs k [] l)))

pub files_plain : (fs : List (Vec Spelled)) → All (λ v. AreSpelled v.items) fs → (d : Named) → Contains (all_named 0 (map (λ v. v.items) fs)) d → ArePlain d.name
files_plain fs ok = all_plain 0 (map (λ v. v.items) fs) each
  where
    one : (vs : List (Vec Spelled)) (k : ℕ) → k < length vs → Vec Spelled
    one [] k l = absurd (omega (arith, l))
    one (v ∷ vs) k l = v

    each : (k : ℕ) → k < length (map (λ v. v.items) fs) → AreSpelled (get_or (map (λ v. v.items) fs) k [])
    each k l =
        let m : k < length fs = omega (arith, l, length-map fs (λ v. v.items)) in
        let v = one fs k m in
        subst AreSpelled (sym (get_or-map_within (λ v. v.items) fs k v [] m)) (ok k v m)
