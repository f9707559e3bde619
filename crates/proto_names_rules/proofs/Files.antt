-- The names of many files nest, and their declarations are woven; a declaration and a reference by the file that they are from (for the crates above).
use Rattle.std.proofs.Common.{◌≡◌, ℕ, suc, ◌≤◌, List, [], ◌∷◌, ◌++◌, length, Some, refl, sym, ◌∙◌, ap, subst, inl, inr, ◌⊎◌, arith, map, Contains, All}
use Rattle.proto_base.proofs.Common.{Contains-append_left, Contains-append_right, Contains-append_cases, All-contains, contains_map, contains_head, contains_later, from_map}
use Rattle.proto_names_rules.specs.Common.{Import, holds, IsNested, Source, Token, EntryOf, Given, Declared, Used, spell, name_of, symbol_of, shifted_source, shifted_declared, IsWoven, Placed, file_placed, token_of, FileNames, IsGrown, At, at, declared_of, used_in, file_declared, file_used, all_declared, all_used, skeleton_of_files}
use Rattle.proto_names_rules.proofs.Ren.{last_parts}
use Rattle.proto_names_rules.proofs.Edited.{map_append}
use Rattle.proto_names_rules.proofs.Grown.{snoc_parts}
use Rattle.proto_names_rules.proofs.Items.{file_stands, file_one_place}

-- which file has a number
abbrev pub FileAt : ℕ → List FileNames → ℕ → FileNames → Type 0
FileAt n [] i f = ⊥
FileAt n (g ∷ gs) i f = ((n ≡ i) × (g ≡ f)) ⊎ FileAt (suc n) gs i f

file_from : (n : ℕ) (fs : List FileNames) (i : ℕ) (f : FileNames) → FileAt n fs i f → n ≤ i
file_from n [] i f h = absurd h
file_from n (g ∷ gs) i f (inl h) = omega (arith, h.0)
file_from n (g ∷ gs) i f (inr h) = omega (arith, file_from (suc n) gs i f h)

pub one_file : (n : ℕ) (fs : List FileNames) (i : ℕ) (f g : FileNames) → FileAt n fs i f → FileAt n fs i g → f ≡ g
one_file n [] i f g h k = absurd h
one_file n (x ∷ xs) i f g (inl h) (inl k) = sym h.1 ∙ k.1
one_file n (x ∷ xs) i f g (inl h) (inr k) = absurd (omega (arith, h.0, file_from (suc n) xs i g k))
one_file n (x ∷ xs) i f g (inr h) (inl k) = absurd (omega (arith, k.0, file_from (suc n) xs i f h))
one_file n (x ∷ xs) i f g (inr h) (inr k) = one_file (suc n) xs i f g h k

pub file_within : (n : ℕ) (fs : List FileNames) (i : ℕ) (f : FileNames) → FileAt n fs i f → Contains fs f
file_within n [] i f h = absurd h
file_within n (g ∷ gs) i f (inl h) = subst (λ z. Contains (g ∷ gs) z) h.1 (contains_head g gs)
file_within n (g ∷ gs) i f (inr h) = contains_later g f gs (file_within (suc n) gs i f h)

abbrev pub declares : ℕ → Placed → Declared At
declares i p = shifted_declared (at i) (declared_of i p)

-- the file that a declaration is from, and what it is there
pub record IsFrom (n : ℕ) (fs : List FileNames) (d : Declared At) : Type 0 where
  pub file : ℕ
  pub f : FileNames
  pub p : Placed
  pub there : FileAt n fs file f
  pub within : Contains (file_placed f.items) p
  pub is : declares file p ≡ d

pub declared_from : (n : ℕ) (fs : List FileNames) (d : Declared At) → Contains (all_declared n fs) d → IsFrom n fs d
declared_from n [] d c = absurd (omega (arith, c.1))
declared_from n (f ∷ fs) d c = elim (Contains-append_cases (file_declared n f) (all_declared (suc n) fs) d c) [
  | inl a ↦ let p = from_map (λ p. shifted_declared (at n) (declared_of n p)) (file_placed f.items) d a in record { file = n; f = f; p = p.0; there = inl (refl, refl); within = p.1; is = p.2 }
  | inr b ↦ let r = declared_from (suc n) fs d b in record { file = r.file; f = r.f; p = r.p; there = inr r.there; within = r.within; is = r.is }
]

pub declared_to : (n : ℕ) (fs : List FileNames) (i : ℕ) (f : FileNames) → FileAt n fs i f → (p : Placed) → Contains (file_placed f.items) p → Contains (all_declared n fs) (declares i p)
declared_to n [] i f h p c = absurd h
declared_to n (g ∷ gs) i f (inl h) p c =
    subst (λ k. Contains (file_declared n g ++ all_declared (suc n) gs) (declares k p)) h.0
    (Contains-append_left (file_declared n g) (all_declared (suc n) gs) (declares n p)
    (contains_map (λ p. shifted_declared (at n) (declared_of n p)) (file_placed g.items) p (subst (λ z. Contains (file_placed z.items) p) (sym h.1) c)))
declared_to n (g ∷ gs) i f (inr h) p c = Contains-append_right (file_declared n g) (all_declared (suc n) gs) (declares i p) (declared_to (suc n) gs i f h p c)

-- the file that a reference is from, and what it is there
pub record IsUsedFrom (n : ℕ) (fs : List FileNames) (u : Used At) : Type 0 where
  pub file : ℕ
  pub f : FileNames
  pub use_of : Used ℕ
  pub there : FileAt n fs file f
  pub within : Contains f.used use_of
  pub is : used_in file use_of ≡ u

pub used_from : (n : ℕ) (fs : List FileNames) (u : Used At) → Contains (all_used n fs) u → IsUsedFrom n fs u
used_from n [] u c = absurd (omega (arith, c.1))
used_from n (f ∷ fs) u c = elim (Contains-append_cases (file_used n f) (all_used (suc n) fs) u c) [
  | inl a ↦ let p = from_map (used_in n) f.used u a in record { file = n; f = f; use_of = p.0; there = inl (refl, refl); within = p.1; is = p.2 }
  | inr b ↦ let r = used_from (suc n) fs u b in record { file = r.file; f = r.f; use_of = r.use_of; there = inr r.there; within = r.within; is = r.is }
]

pub path_parts : (i : ℕ) (p : Placed) → (declares i p).path ≡ map (shifted_source (at i)) p.above ++ shifted_source (at i) p.last ∷ []
path_parts i p = map_append (shifted_source (at i)) p.above (p.last ∷ [])

-- Each name of more than one word stands right below another one of its file.
pub files_nested : (text : At → List ℕ) (entry : List ℕ → List ℕ) (imports : List Import) (fs : List FileNames) → IsNested (map (symbol_of text entry) (skeleton_of_files imports fs).declared)
files_nested text entry imports fs t ct a w h la =
    let d = from_map (symbol_of text entry) (all_declared 0 fs) t ct in
    let o = declared_from 0 fs d.0 d.1 in
    let s = shifted_source (at o.file) in
    let above = map (shifted_source (at o.file)) o.p.above in
    let last = shifted_source (at o.file) o.p.last in
    let name : name_of text entry above ++ spell text entry last ∷ [] ≡ a ++ w ∷ [] =
    sym (map_append (spell text entry) above (last ∷ [])) ∙ ap (name_of text entry) (sym (path_parts o.file o.p)) ∙ ap (λ z. name_of text entry z.path) o.is ∙ ap (λ z. z.name) d.2 ∙ h in
    let parts = last_parts (name_of text entry above) a (spell text entry last) w name in
    elim (file_stands o.f.items o.p o.within) [
      | inl none ↦ absurd (omega (arith, la, ap length (sym parts.0 ∙ ap (λ z. name_of text entry (map (shifted_source (at o.file)) z)) none)))
      | inr u ↦ (
        symbol_of text entry (declares o.file u.0),
        contains_map (symbol_of text entry) (all_declared 0 fs) (declares o.file u.0) (declared_to 0 fs o.file o.f o.there u.0 u.1),
        ap (λ z. name_of text entry (map (shifted_source (at o.file)) z)) (sym u.2) ∙ parts.0,
        ap (λ z. z.file) o.is ∙ ap (λ z. z.file) d.2,
        ap (holds u.0.kind) (sym (ap (λ z. z.kind) o.is ∙ ap (λ z. z.kind) d.2)) ∙ u.3,
      )
    ]

-- what a source of a file is, by the token of the whole
token_back : (i : ℕ) (s : Source ℕ) (d : At) → shifted_source (at i) s ≡ Token d → (i ≡ d.file) × (token_of s ≡ Some d.token)
token_back i (Token t) d h = let e : at i t ≡ d = cc in (ap (λ z. z.file) e, ap (λ z. Some z.token) e)
token_back i (EntryOf t) d h = cc
token_back i (Given w) d h = cc

entry_back : (i : ℕ) (s : Source ℕ) (d : At) → shifted_source (at i) s ≡ EntryOf d → (i ≡ d.file) × (token_of s ≡ Some d.token)
entry_back i (EntryOf t) d h = let e : at i t ≡ d = cc in (ap (λ z. z.file) e, ap (λ z. Some z.token) e)
entry_back i (Token t) d h = cc
entry_back i (Given w) d h = cc

-- Fronts are declared, and one token declares symbols right below one path.
pub files_woven : (imports : List Import) (fs : List FileNames) → All IsGrown fs → IsWoven (skeleton_of_files imports fs)
files_woven imports fs grown = record {
  fronts = λ s cs a x path ne. (
      let o = declared_from 0 fs s cs in
      let parts = snoc_parts (map (shifted_source (at o.file)) o.p.above) a (shifted_source (at o.file) o.p.last) x (sym (path_parts o.file o.p) ∙ ap (λ z. z.path) o.is ∙ path) in
      elim (file_stands o.f.items o.p o.within) [
        | inl none ↦ absurd (ne (sym parts.0 ∙ ap (map (shifted_source (at o.file))) none))
        | inr u ↦ (declares o.file u.0, declared_to 0 fs o.file o.f o.there u.0 u.1, ap (map (shifted_source (at o.file))) (sym u.2) ∙ parts.0)
      ]);
  tokens = λ s t cs ct a b d ps pt. one_path s t cs ct a b d (Token d) (Token d) ps pt (λ i x h. token_back i x d h) (λ i x h. token_back i x d h);
  entries = λ s t cs ct a b d ps pt. one_path s t cs ct a b d (EntryOf d) (Token d) ps pt (λ i x h. entry_back i x d h) (λ i x h. token_back i x d h);
  scopes = λ u cu ne. (
      let r = used_from 0 fs u cu in
      let scope : map (shifted_source (at r.file)) r.use_of.scope ≡ u.scope = ap (λ (z : Used At). z.scope) r.is in
      let g = All-contains IsGrown fs r.f grown (file_within 0 fs r.file r.f r.there) in
      let p = g.scopes r.use_of r.within (λ e. ne (sym scope ∙ ap (map (shifted_source (at r.file))) e)) in
      (declares r.file p.0, declared_to 0 fs r.file r.f r.there p.0 p.1, ap (map (shifted_source (at r.file))) p.2 ∙ scope));
}
  where
    one_path : (s t : Declared At) → Contains (all_declared 0 fs) s → Contains (all_declared 0 fs) t → (a b : List (Source At)) (d : At) (x y : Source At) → s.path ≡ a ++ x ∷ [] → t.path ≡ b ++ y ∷ []
        → ((i : ℕ) (z : Source ℕ) → shifted_source (at i) z ≡ x → (i ≡ d.file) × (token_of z ≡ Some d.token))
        → ((i : ℕ) (z : Source ℕ) → shifted_source (at i) z ≡ y → (i ≡ d.file) × (token_of z ≡ Some d.token)) → a ≡ b
    one_path s t cs ct a b d x y ps pt bx by =
        let o = declared_from 0 fs s cs in
        let q = declared_from 0 fs t ct in
        let pp = snoc_parts (map (shifted_source (at o.file)) o.p.above) a (shifted_source (at o.file) o.p.last) x (sym (path_parts o.file o.p) ∙ ap (λ z. z.path) o.is ∙ ps) in
        let qq = snoc_parts (map (shifted_source (at q.file)) q.p.above) b (shifted_source (at q.file) q.p.last) y (sym (path_parts q.file q.p) ∙ ap (λ z. z.path) q.is ∙ pt) in
        let ox = bx o.file o.p.last pp.1 in
        let qy = by q.file q.p.last qq.1 in
        let same : o.file ≡ q.file = ox.0 ∙ sym qy.0 in
        let f : o.f ≡ q.f = one_file 0 fs q.file o.f q.f (subst (λ i. FileAt 0 fs i o.f) same o.there) q.there in
        let g = All-contains IsGrown fs q.f grown (file_within 0 fs q.file q.f q.there) in
        let one : o.p.above ≡ q.p.above = file_one_place q.f.items g.low g.high d.token g.span o.p q.p (subst (λ z. Contains (file_placed z.items) o.p) f o.within) q.within ox.1 qy.1 in
        sym pp.0 ∙ ap (map (shifted_source (at o.file))) one ∙ ap (λ i. map (shifted_source (at i)) q.p.above) same ∙ qq.0
