-- A field less: nothing that is meant, or stands before it, goes.
use Rattle.std.proofs.Common.{◌≡◌, ◌≢◌, ℕ, zero, suc, ◌<◌, Bool, true, false, ◌&&◌, not, cond, List, [], ◌∷◌, ◌++◌, length, get_or, take, Some, sym, ◌∙◌, ap, subst, inl, inr, ◌⊎◌, arith, append_assoc, length-append, Contains, AllPairs, filter, bytes_eq, true≢false, append-nil}
use Rattle.proto_base.proofs.Common.{false_from_ne_true, both_ways, and_parts, and_from, not_from_false, not-true, none-some, Contains-get_or, any_from, contains_filter, from_filter}
use Rattle.proto_names_rules.specs.Common.{Kind, Package, Entry, Field, Symbol, Reference, Workspace, same_name, Wants, fits_at_first, may_resolve_to, sees, shows, hits_at, meaning, meaning_at, Renaming, moves, is_below, in_domain, deleted, is_leaf, AreApart, IsLinked, EntryStands, IsDeletion}
use Rattle.proto_names_rules.proofs.Basics.{same_from_name}
use Rattle.proto_names_rules.proofs.Rename.{hit_relative, visible_is, first_and_rest}
use Rattle.proto_names_rules.proofs.Symbols.{wanted_no_entry_field, wanted_no_field, one_symbol, shown, front_or_same, below_split, moves_to}
use Rattle.proto_names_rules.proofs.Renamed.{has_meaning, meant}
use Rattle.proto_names_rules.proofs.Imports.{kept_means}

abbrev ByPairs : {X : Type 0} → (X → X → Type 0) → List X → Type 0
ByPairs R [] = Unit {0}
ByPairs {X} R (x ∷ xs) = ((y : X) → Contains xs y → R x y) × ByPairs R xs

by_pairs : {X : Type 0} (R : X → X → Type 0) (xs : List X) → AllPairs R xs → ByPairs R xs
by_pairs R [] h = tt
by_pairs R (x ∷ xs) h = (
  λ y c. subst (R x) c.2 (h 0 (suc c.0) y (omega arith) (omega (arith, c.1))),
  by_pairs R xs (λ i j d a b. h (suc i) (suc j) d (omega (arith, a)) (omega (arith, b))),
)

all_pairs : {X : Type 0} (R : X → X → Type 0) (xs : List X) → ByPairs R xs → AllPairs R xs
all_pairs R [] h i j d a b = absurd (omega (arith, b))
all_pairs R (x ∷ xs) h i zero d a b = absurd (omega (arith, a))
all_pairs R (x ∷ xs) h zero (suc j) d a b = h.0 (get_or xs j d) (Contains-get_or xs j d (omega (arith, b)))
all_pairs R (x ∷ xs) h (suc i) (suc j) d a b = all_pairs R xs h.1 i j d (omega (arith, a)) (omega (arith, b))

pairs_filter : {X : Type 0} (R : X → X → Type 0) (p : X → Bool) (xs : List X) → ByPairs R xs → ByPairs R (filter p xs)
pairs_filter R p [] h = tt
pairs_filter R p (x ∷ xs) h = go (p x) (pairs_filter R p xs h.1)
  where
    go : (b : Bool) → ByPairs R (filter p xs) → ByPairs R (cond b (x ∷ filter p xs) (filter p xs))
    go true t = (λ y c. h.0 y (from_filter p xs y c).0, t)
    go false t = t

-- what is below a name of the domain is in it
below_more : (ps : List (List ℕ)) (t : List ℕ → Bool) (x y : List (List ℕ)) → is_below ps t x ≡ true → is_below ps t (x ++ y) ≡ true
below_more [] t [] y h = absurd (true≢false (sym h))
below_more [] t (x ∷ xs) y h = h
below_more (p ∷ ps) t [] y h = absurd (true≢false (sym h))
below_more (p ∷ ps) t (x ∷ xs) y h =
    let q = and_parts (bytes_eq x p) (is_below ps t xs) h in
    and_from _ _ q.0 (below_more ps t xs y q.1)

-- no front of what may be meant and is no entry goes
stays_there : (what : Wants) (e : Renaming) (w : Workspace) → IsLinked w → IsDeletion e w → (t : Symbol) → Contains w.symbols t → may_resolve_to what t.kind ≡ true → t.kind ≢ Entry → (a b : List (List ℕ)) → a ++ b ≡ t.name → in_domain e a ≡ false
stays_there what e w ok del t ct ty ne a b h = false_from_ne_true (in_domain e a) (λ q.
    let d = below_split e.parent (moves e) a q in
    let v = d.0 in
    let front = e.parent ++ v ∷ [] in
    let long : 0 < length front = omega (arith, length-append e.parent (v ∷ [])) in
    let name : t.name ≡ front ++ (d.1 ++ b) = sym h ∙ ap (λ x. x ++ b) (d.2 ∙ sym (append_assoc e.parent (v ∷ []) d.1)) ∙ append_assoc front d.1 b in
    elim (moves_to e v d.3) [
      | inl x ↦ go del.target_is.0 del.target_is.1 (del.target_is.2 ∙ ap (λ z. e.parent ++ z ∷ []) (sym x.0)) (inl del.target_is.3) (d.1 ++ b) long name
      | inr x ↦ let s = subst (EntryStands w e) x.1 del.entry_is in go s.0 s.1 (s.2 ∙ ap (λ z. e.parent ++ z ∷ []) (sym x.2)) (inr s.3) (d.1 ++ b) long name
    ])
  where
    not_package : (k : Kind) → (k ≡ Field) ⊎ (k ≡ Entry) → k ≡ Package → ⊥
    not_package k x y = elim x [ inl z ↦ differ1 (sym z ∙ y) | inr z ↦ differ2 (sym z ∙ y) ]
      where
        differ1 : Field ≡ Package → ⊥
        differ1 h = cc

        differ2 : Entry ≡ Package → ⊥
        differ2 h = cc

    go : {front : List (List ℕ)} (s : Symbol) → Contains w.symbols s → s.name ≡ front → (s.kind ≡ Field) ⊎ (s.kind ≡ Entry) → (rest : List (List ℕ)) → 0 < length front → t.name ≡ front ++ rest → ⊥
    go {front} s cs n k rest long name = elim (front_or_same w.symbols ok.nested front rest t ct name long) [
      | inl none ↦ elim (one_symbol w.symbols ok.unique s t cs ct (n ∙ sym (name ∙ ap (λ x. front ++ x) none ∙ append-nil front))) [
        | inl same ↦ elim k [ inl z ↦ wanted_no_field what t.kind ty (sym (ap (λ y. y.kind) same) ∙ z) | inr z ↦ ne (sym (ap (λ y. y.kind) same) ∙ z) ]
        | inr both ↦ not_package s.kind k both.0
      ]
      | inr u ↦ elim (one_symbol w.symbols ok.unique s u.it cs u.within (n ∙ sym u.name)) [
        | inl same ↦ elim k [ inl z ↦ both_ways (is_leaf u.it.kind) u.not_leaf (ap is_leaf (sym (ap (λ y. y.kind) same) ∙ z)) | inr z ↦ wanted_no_entry_field what t.kind ty (u.entry (sym (ap (λ y. y.kind) same) ∙ z)) ]
        | inr both ↦ not_package s.kind k both.0
      ]
    ]

-- what is shown after it was shown before
shows_less : (e : Renaming) (w : Workspace) (refs : List Reference) (f : ℕ) (good : Kind → Bool) (x : List (List ℕ)) → shows (deleted e w refs) f good x ≡ true → shows w f good x ≡ true
shows_less e w refs f good x h =
    let s = shown (deleted e w refs) f good x h in
    any_from (λ s. same_name s.name x && (good s.kind && sees w f s.file)) w.symbols s.0 (from_filter (λ s. not (in_domain e s.name)) w.symbols s.0 s.1).0 (and_from _ _ (same_from_name s.0.name x s.2) (and_from _ _ s.3 s.4))

shows_still : (e : Renaming) (w : Workspace) (refs : List Reference) (f : ℕ) (good : Kind → Bool) (x : List (List ℕ)) → in_domain e x ≡ false → shows w f good x ≡ true → shows (deleted e w refs) f good x ≡ true
shows_still e w refs f good x out h =
    let s = shown w f good x h in
    any_from (λ s. same_name s.name x && (good s.kind && sees w f s.file)) (deleted e w refs).symbols s.0 (contains_filter (λ s. not (in_domain e s.name)) w.symbols s.0 s.1 (not_from_false (in_domain e s.0.name) (ap (in_domain e) s.2 ∙ out))) (and_from _ _ (same_from_name s.0.name x s.2) (and_from _ _ s.3 s.4))

-- Each reference that is left keeps its meaning.
pub deleted_means : (e : Renaming) (w : Workspace) → IsLinked w → IsDeletion e w → (refs : List Reference) (r : Reference) → Contains w.references r → (m : List (List ℕ)) → meaning w r ≡ Some m → meaning (deleted e w refs) r ≡ Some m
deleted_means e w ok del refs r cr m h =
    let t = meant w r m h in
    let ne = ok.no_entry r cr t.0 t.1 (h ∙ ap Some (sym t.2)) in
    let shown_m : shows w r.file (may_resolve_to r.wants) m ≡ true = any_from (λ s. same_name s.name m && (may_resolve_to r.wants s.kind && sees w r.file s.file)) w.symbols t.0 t.1 (and_from _ _ (same_from_name t.0.name m t.2) (and_from _ _ t.3 t.4)) in
    kept_means w (deleted e w refs) r m h
    (shows_still e w refs r.file (may_resolve_to r.wants) m (stays_there r.wants e w ok del t.0 t.1 t.3 ne m [] (append-nil m ∙ sym t.2)) shown_m)
    (λ k q.
    (let a = hit_relative w r k q in
    let y = visible_is w r.file (may_resolve_to r.wants) (take k r.scope ++ r.words) m (ap (meaning_at w r) (sym q) ∙ h) in
    let first = first_and_rest r.words in
    let whole : (take k r.scope ++ take 1 r.words) ++ first.0 ≡ t.0.name = append_assoc (take k r.scope) (take 1 r.words) first.0 ∙ ap (λ l. take k r.scope ++ l) first.1 ∙ y.1 ∙ sym t.2 in
    shows_still e w refs r.file (fits_at_first r.wants r.words) (take k r.scope ++ take 1 r.words) (stays_there r.wants e w ok del t.0 t.1 t.3 ne (take k r.scope ++ take 1 r.words) first.0 whole) a.1.passes))
    (λ k j q above below z.
    (let a = hit_relative w r k q in
    both_ways (hits_at w r j) (a.1.last j above below) (shows_less e w refs r.file (fits_at_first r.wants r.words) (take j r.scope ++ take 1 r.words) z)))

pub deleted_linked : (e : Renaming) (w : Workspace) → IsLinked w → IsDeletion e w → (refs : List Reference) → ((r : Reference) → Contains refs r → Contains w.references r) → IsLinked (deleted e w refs)
deleted_linked e w ok del refs sub = record {
  nested = λ t ct a p n l. (
      let c = from_filter (λ s. not (in_domain e s.name)) w.symbols t ct in
      let u = ok.nested t c.0 a p n l in
      let out : in_domain e u.0.name ≡ false = false_from_ne_true (in_domain e u.0.name) (λ q. both_ways (in_domain e t.name) (not-true (in_domain e t.name) c.1) (ap (in_domain e) n ∙ below_more e.parent (moves e) a (p ∷ []) (ap (in_domain e) (sym u.2) ∙ q))) in
      (u.0, contains_filter (λ s. not (in_domain e s.name)) w.symbols u.0 u.1 (not_from_false (in_domain e u.0.name) out), u.2, u.3, u.4));
  unique = all_pairs AreApart (filter (λ s. not (in_domain e s.name)) w.symbols) (pairs_filter AreApart (λ s. not (in_domain e s.name)) w.symbols (by_pairs AreApart w.symbols ok.unique));
  resolved = λ r c none. (let m = has_meaning (meaning w r) (ok.resolved r (sub r c)) in none-some m.0 (sym none ∙ deleted_means e w ok del refs r (sub r c) m.0 m.1));
  no_entry = λ r c s cs h. ok.no_entry r (sub r c) s (from_filter (λ s. not (in_domain e s.name)) w.symbols s cs).0 (before r c s h);
  right_kind = λ r c s cs h. ok.right_kind r (sub r c) s (from_filter (λ s. not (in_domain e s.name)) w.symbols s cs).0 (before r c s h);
}
  where
    before : (r : Reference) → Contains refs r → (s : Symbol) → meaning (deleted e w refs) r ≡ Some s.name → meaning w r ≡ Some s.name
    before r c s h = let m = has_meaning (meaning w r) (ok.resolved r (sub r c)) in m.1 ∙ sym (deleted_means e w ok del refs r (sub r c) m.0 m.1) ∙ h
