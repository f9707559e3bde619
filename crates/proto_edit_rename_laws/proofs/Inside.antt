-- What files declare and use stands at tokens of theirs (for the crates above).
use Rattle.std.proofs.Common.{◌≡◌, ℕ, zero, suc, ◌+◌, ◌<◌, ◌≤◌, List, [], ◌∷◌, ◌++◌, length, map, Some, refl, sym, ap, subst, ◌∙◌, inl, inr, arith, Contains}
use Rattle.proto_base.proofs.Common.{cases_lt, Contains-append_cases, contains_cases, from_map}
use Rattle.proto_text.specs.declared.lexer.Token.{Token as TextToken}
use Rattle.proto_text.proofs.Common.{word_at, words, Lexeme, lexeme_at, length_map}
use Rattle.proto_files.proofs.Common.{ReadOf, read_at, FileOf, file_at}
use Rattle.proto_names_rules.proofs.Common.{At, at, all_used, file_used, used_in, IsPlain, ArePlain, Source, Token, EntryOf, Given, Declared, Used, shifted_source, Placed, file_placed, snoc_parts}
use Rattle.proto_names_outline.proofs.Common.{file_names, items_in, whole, last_token, token_last, entry_last, placed_plain, uses_plain}
use Rattle.proto_names_imports.specs.Links.{link_skeleton, names_in}
use Rattle.proto_edit_rename_laws.specs.Inside.{TargetsAreInside, TokensAreInside}
use Rattle.proto_edit_rename_laws.specs.Places.{Names, Uses}
use Rattle.proto_edit_rename_laws.proofs.Declarations.{IsDeclaredBy, declared_by, path_of_declared}

-- ---- a token with a word is there

word_past : (ls : List Lexeme) (i : ℕ) → length ls ≤ i → word_at ls i ≡ []
word_past [] i l = refl
word_past (x ∷ ls) zero l = absurd (omega (arith, l))
word_past (x ∷ ls) (suc i) l = word_past ls i (omega (arith, l))

pub plain_inside : (text : List ℕ) (tokens : List TextToken) (i : ℕ) → IsPlain (words text tokens i) → i < length tokens
plain_inside text tokens i p = elim (cases_lt i (length tokens)) [
  | inl l ↦ l
  | inr past ↦ (let n = length_map (lexeme_at text) tokens in absurd (p.1 (word_past (map (lexeme_at text) tokens) i (omega (arith, past, n)))))
]

each_plain : (text : ℕ → List ℕ) (ts : List ℕ) → ArePlain (map text ts) → (t : ℕ) → Contains ts t → IsPlain (text t)
each_plain text [] h t c = absurd (omega (arith, c.1))
each_plain text (x ∷ ts) h t c = elim (contains_cases x t ts c) [ inl e ↦ subst (λ z. IsPlain (text z)) e h.0 | inr d ↦ each_plain text ts h.1 t d ]

-- ---- references by their files

pub record IsUsedBy (n : ℕ) (rs : List ReadOf) (u : Used At) : Type 0 where
  pub k : ℕ
  pub inside : k < length rs
  pub v : Used ℕ
  pub within : Contains (file_names (read_at rs k).tree).used v
  pub is : used_in (n + k) v ≡ u

pub used_by_file : (n : ℕ) (rs : List ReadOf) (u : Used At) → Contains (all_used n (map names_in rs)) u → IsUsedBy n rs u
used_by_file n [] u c = absurd (omega (arith, c.1))
used_by_file n (r ∷ rs) u c = elim (Contains-append_cases (file_used n (names_in r)) (all_used (suc n) (map names_in rs)) u c) [
  | inl a ↦
      let v = from_map (used_in n) (file_names r.tree).used u a in
      let e : n ≡ n + 0 = omega arith in
      record { k = 0; inside = omega arith; v = v.0; within = v.1; is = subst (λ m. used_in m v.0 ≡ u) e v.2 }
  | inr b ↦
      let o = used_by_file (suc n) rs u b in
      let l = o.inside in
      let e : suc n + o.k ≡ n + suc o.k = omega arith in
      record { k = suc o.k; inside = omega (arith, l); v = o.v; within = o.within; is = subst (λ m. used_in m o.v ≡ u) e o.is }
]

-- ---- tokens by their files

-- the token names a declaration of its file, or the map field of an entry
pub record IsNameOf (reads : List ReadOf) (i : At) : Type 0 where
  pub inside : i.file < length reads
  pub p : Placed
  pub within : Contains (file_placed (items_in (read_at reads i.file).tree)) p
  pub last : last_token (whole p) ≡ Some i.token

-- the token is a word of a reference of its file
pub record IsWordOf (reads : List ReadOf) (i : At) : Type 0 where
  pub inside : i.file < length reads
  pub v : Used ℕ
  pub within : Contains (file_names (read_at reads i.file).tree).used v
  pub word : Contains v.tokens i.token

same_token : (i j : At) → ◌≡◌ {A = Source At} (Token i) (Token j) → i ≡ j
same_token i j e = cc

same_entry : (i j : At) → ◌≡◌ {A = Source At} (EntryOf i) (EntryOf j) → i ≡ j
same_entry i j e = cc

no_token : (i j : At) → ◌≡◌ {A = Source At} (EntryOf i) (Token j) → ⊥
no_token i j e = cc

no_entry : (i j : At) → ◌≡◌ {A = Source At} (Token i) (EntryOf j) → ⊥
no_entry i j e = cc

not_given : (w : List ℕ) (i : At) → ◌≡◌ {A = Source At} (Given w) (Token i) → ⊥
not_given w i e = cc

given_no_entry : (w : List ℕ) (i : At) → ◌≡◌ {A = Source At} (Given w) (EntryOf i) → ⊥
given_no_entry w i e = cc

module _ (reads : List ReadOf) where
  -- a declaration's last token, where it has this index
  named_here : (d : Declared At) (o : IsDeclaredBy 0 reads d) (t : ℕ) (i : At) → last_token (whole o.p) ≡ Some t → at (0 + o.k) t ≡ i → IsNameOf reads i
  named_here d o t i last e =
      let zero_is : o.k ≡ 0 + o.k = omega arith in
      subst (IsNameOf reads) (ap (λ m. at m t) zero_is ∙ e) (record { inside = o.inside; p = o.p; within = o.within; last = last })

  by_token : (d : Declared At) (o : IsDeclaredBy 0 reads d) (i : At) (s : Source ℕ) → o.p.last ≡ s → shifted_source (at (0 + o.k)) s ≡ Token i → IsNameOf reads i
  by_token d o i (Token t) q e = named_here d o t i (ap (λ z. last_token (o.p.above ++ z ∷ [])) q ∙ token_last o.p.above t) (same_token (at (0 + o.k) t) i e)
  by_token d o i (EntryOf t) q e = absurd (no_token (at (0 + o.k) t) i e)
  by_token d o i (Given w) q e = absurd (not_given w i e)

  by_entry : (d : Declared At) (o : IsDeclaredBy 0 reads d) (i : At) (s : Source ℕ) → o.p.last ≡ s → shifted_source (at (0 + o.k)) s ≡ EntryOf i → IsNameOf reads i
  by_entry d o i (Token t) q e = absurd (no_entry (at (0 + o.k) t) i e)
  by_entry d o i (EntryOf t) q e = named_here d o t i (ap (λ z. last_token (o.p.above ++ z ∷ [])) q ∙ entry_last o.p.above t) (same_entry (at (0 + o.k) t) i e)
  by_entry d o i (Given w) q e = absurd (given_no_entry w i e)

  last_of : (d : Declared At) (o : IsDeclaredBy 0 reads d) (above : List (Source At)) (x : Source At) → d.path ≡ above ++ x ∷ [] → shifted_source (at (0 + o.k)) o.p.last ≡ x
  last_of d o above x path = (snoc_parts (map (shifted_source (at (0 + o.k))) o.p.above) above (shifted_source (at (0 + o.k)) o.p.last) x (sym (path_of_declared 0 reads d o) ∙ path)).1

pub name_of_file : (files : List FileOf) (reads : List ReadOf) (i : At) → Names (link_skeleton files reads) i → IsNameOf reads i
name_of_file files reads i (d, cd, (above, inl path)) = let o = declared_by 0 reads d cd in by_token reads d o i o.p.last refl (last_of reads d o above (Token i) path)
name_of_file files reads i (d, cd, (above, inr path)) = let o = declared_by 0 reads d cd in by_entry reads d o i o.p.last refl (last_of reads d o above (EntryOf i) path)

pub word_of_file : (files : List FileOf) (reads : List ReadOf) (i : At) → Uses (link_skeleton files reads) i → IsWordOf reads i
word_of_file files reads i (u, cu, ci) =
    let o = used_by_file 0 reads u cu in
    let t = from_map (at (0 + o.k)) o.v.tokens i (subst (λ (z : Used At). Contains z.tokens i) (sym o.is) ci) in
    let zero_is : o.k ≡ 0 + o.k = omega arith in
    subst (IsWordOf reads) (ap (λ m. at m t.0) zero_is ∙ t.2) (record { inside = o.inside; v = o.v; within = o.within; word = t.1 })

pub tokens_are_inside : TokensAreInside
tokens_are_inside files reads r i (inl n) =
    let o = name_of_file files reads i n in
    let l : i.file < length files = (let k = o.inside in let same = r.same in omega (arith, k, same)) in
    (l, plain_inside (file_at files i.file).bytes (read_at reads i.file).tokens i.token (placed_plain (file_at files i.file).profile (file_at files i.file).bytes (read_at reads i.file).tokens (read_at reads i.file).tree (r.trees i.file l) o.p o.within i.token o.last))
tokens_are_inside files reads r i (inr u) =
    let o = word_of_file files reads i u in
    let l : i.file < length files = (let k = o.inside in let same = r.same in omega (arith, k, same)) in
    let plain = uses_plain (file_at files i.file).profile (file_at files i.file).bytes (read_at reads i.file).tokens (read_at reads i.file).tree (r.trees i.file l) o.v o.within in
    (l, plain_inside (file_at files i.file).bytes (read_at reads i.file).tokens i.token (each_plain (words (file_at files i.file).bytes (read_at reads i.file).tokens) o.v.tokens plain.0 i.token o.word))

pub targets_are_inside : TargetsAreInside
targets_are_inside files reads name t r named = tokens_are_inside files reads r t.token (inl (t.aim, named.within, (t.above, inl named.path)))
