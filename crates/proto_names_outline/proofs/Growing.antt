-- Lists of declarations and references, as they grow (for the crates above).
use Rattle.std.proofs.Common.{◌≡◌, ℕ, suc, ◌+◌, ◌<◌, ◌≤◌, List, [], ◌∷◌, ◌++◌, length, get_or, map, flat_map, refl, sym, ◌∙◌, ap, subst, arith, append_assoc, length-append, inl, inr, drop, Option, Some, All, append-nil}
use Rattle.proto_base.proofs.Common.{cases_lt, map-append, length-map, get_or_append_left, at_drop_more, at_drop_all}
use Rattle.std.proofs.Math.Seq.{get_or-append_seam}
use Rattle.proto_tree.proofs.Common.{Tree, End, joined_trees, trees}
use Rattle.proto_names_rules.specs.declared.kind.Kind.{Kind}
use Rattle.proto_names_outline.specs.Common.{used_as, Above, Outermost, Below, Listed, Listing, whole, path_of, path_at, seen, read_on, read, needs, used_by, uses_in, Adds, later, last_token}
use Rattle.proto_names_rules.proofs.Common.{Source, Token, EntryOf, Given, Used, Placed, place, token_of}
use Rattle.proto_names_outline.specs.declared.listing.Use.{Use}

-- ---- reading

read_on-push : (before : List Placed) (es : List Listed) (e : Listed) → read_on before (es ++ e ∷ []) ≡ read_on before es ++ seen (path_at (read_on before es) e.above) e ∷ []
read_on-push before [] e = refl
read_on-push before (x ∷ es) e = read_on-push (before ++ seen (path_at before x.above) x ∷ []) es e

length-read_on : (before : List Placed) (es : List Listed) → length (read_on before es) ≡ length before + length es
length-read_on before [] = omega arith
length-read_on before (x ∷ es) =
    let r = length-read_on (before ++ seen (path_at before x.above) x ∷ []) es in
    let l = length-append before (seen (path_at before x.above) x ∷ []) in
    omega (arith, r, l)

pub length-read : (es : List Listed) → length (read es) ≡ length es
length-read es = omega (arith, length-read_on [] es)

path_of-more : (ds more : List Placed) (k : ℕ) → k < length ds → path_of (ds ++ more) k ≡ path_of ds k
path_of-more ds more k l =
    ap (λ (ps : List (List (Source ℕ))). get_or ps k []) (map-append whole ds more)
    ∙ get_or_append_left (map whole ds) (map whole more) [] k (omega (arith, l, length-map ds whole))

path_at-more : (ds more : List Placed) (above : Above) → needs above ≤ length ds → path_at (ds ++ more) above ≡ path_at ds above
path_at-more ds more Outermost l = refl
path_at-more ds more (Below k) l = path_of-more ds more k (omega (arith, l))

path_of-last : (ds : List Placed) (d : Placed) (k : ℕ) → k ≡ length ds → path_of (ds ++ d ∷ []) k ≡ whole d
path_of-last ds d k e =
    ap (λ (ps : List (List (Source ℕ))). get_or ps k []) (map-append whole ds (d ∷ []))
    ∙ ap (λ n. get_or (map whole ds ++ whole d ∷ []) n []) (e ∙ sym (length-map ds whole))
    ∙ get_or-append_seam (map whole ds) (whole d) [] []

uses-more : (ds more : List Placed) (us : List Use) → All (λ u. needs u.scope ≤ length ds) us → map (used_by (ds ++ more)) us ≡ map (used_by ds) us
uses-more ds more [] a = refl
uses-more ds more (u ∷ us) a =
    let e : path_at (ds ++ more) u.scope ≡ path_at ds u.scope = path_at-more ds more u.scope (a 0 u (omega arith)) in
    ap (λ (path : List (Source ℕ)). used_as path u.wants u.reference.now ∷ map (used_by (ds ++ more)) us) e
    ∙ ap (λ (rest : List (Used ℕ)). used_by ds u ∷ rest) (uses-more ds more us (λ k d l. a (suc k) d (omega arith)))

-- ---- tokens

last_token-push : (path : List (Source ℕ)) (s : Source ℕ) → last_token (path ++ s ∷ []) ≡ later (token_of s) (last_token path)
last_token-push [] (Token t) = refl
last_token-push [] (EntryOf t) = refl
last_token-push [] (Given w) = refl
last_token-push (x ∷ rest) (Token t) = ap (λ (o : Option ℕ). later o (token_of x)) (last_token-push rest (Token t))
last_token-push (x ∷ rest) (EntryOf t) = ap (λ (o : Option ℕ). later o (token_of x)) (last_token-push rest (EntryOf t))
last_token-push (x ∷ rest) (Given w) = ap (λ (o : Option ℕ). later o (token_of x)) (last_token-push rest (Given w))

pub token_last : (path : List (Source ℕ)) (t : ℕ) → last_token (path ++ Token t ∷ []) ≡ Some t
token_last path t = last_token-push path (Token t)

pub entry_last : (path : List (Source ℕ)) (t : ℕ) → last_token (path ++ EntryOf t ∷ []) ≡ Some t
entry_last path t = last_token-push path (EntryOf t)

-- a given word below an entry
pub given_last : (path above : List (Source ℕ)) (t : ℕ) (word : List ℕ) → path ≡ above ++ EntryOf t ∷ [] → last_token (path ++ Given word ∷ []) ≡ Some t
given_last path above t word e = last_token-push path (Given word) ∙ ap last_token e ∙ entry_last above t

tokens_push : (es : List Listed) (e : Listed) (p : Placed) → map (λ x. Some x.token) es ≡ map (λ x. last_token (whole x)) (read es) → last_token (whole p) ≡ Some e.token
    → map (λ x. Some x.token) (es ++ e ∷ []) ≡ map (λ x. last_token (whole x)) (read es ++ p ∷ [])
tokens_push es e p h t =
    map-append (λ x. Some x.token) es (e ∷ [])
    ∙ ap (λ (os : List (Option ℕ)). os ++ Some e.token ∷ []) h
    ∙ ap (λ (o : Option ℕ). map (λ x. last_token (whole x)) (read es) ++ o ∷ []) (sym t)
    ∙ sym (map-append (λ x. last_token (whole x)) (read es) (p ∷ []))

-- ---- growing

-- the path above stays
pub stable : {old new : Listing} {above : Above} {placed : List (Source ℕ) → List Placed} {uses : List (Source ℕ) → List (Used ℕ)} → Adds old new above placed uses
    → (x : Above) → needs x ≤ length old.declared.items → path_at (read new.declared.items) x ≡ path_at (read old.declared.items) x
stable {old = old} {above = above} {placed = placed} a x l =
    ap (λ (ds : List Placed). path_at ds x) a.declared
    ∙ path_at-more (read old.declared.items) (placed (path_at (read old.declared.items) above)) x (omega (arith, l, length-read old.declared.items))

pub adds_none : (l : Listing) (above : Above) → Adds l l above (λ path. []) (λ path. [])
adds_none l above = record {
  grown = omega arith;
  sound = λ s. s;
  declared = sym (append-nil (read l.declared.items));
  used = λ s. sym (append-nil (uses_in l));
}

pub adds_as : {old new : Listing} {above : Above} {placed placed' : List (Source ℕ) → List Placed} {uses uses' : List (Source ℕ) → List (Used ℕ)}
    → Adds old new above placed uses → ((path : List (Source ℕ)) → placed path ≡ placed' path) → ((path : List (Source ℕ)) → uses path ≡ uses' path) → Adds old new above placed' uses'
adds_as {old = old} {above = above} a p u =
    let path = path_at (read old.declared.items) above in
    record {
      grown = a.grown;
      sound = a.sound;
      declared = a.declared ∙ ap (λ (ds : List Placed). read old.declared.items ++ ds) (p path);
      used = λ s. a.used s ∙ ap (λ (us : List (Used ℕ)). uses_in old ++ us) (u path);
    }

-- the same references, in the scope that these have
pub adds_used : {old new : Listing} {above : Above} {placed : List (Source ℕ) → List Placed} {uses uses' : List (Source ℕ) → List (Used ℕ)}
    → Adds old new above placed uses → uses (path_at (read old.declared.items) above) ≡ uses' (path_at (read old.declared.items) above) → Adds old new above placed uses'
adds_used {old = old} a u = record {
  grown = a.grown;
  sound = a.sound;
  declared = a.declared;
  used = λ s. a.used s ∙ ap (λ (us : List (Used ℕ)). uses_in old ++ us) u;
}

-- one after the other, below the same
pub adds_then : {old mid new : Listing} {above : Above} {p q : List (Source ℕ) → List Placed} {u v : List (Source ℕ) → List (Used ℕ)}
    → Adds old mid above p u → Adds mid new above q v → needs above ≤ length old.declared.items → Adds old new above (λ path. p path ++ q path) (λ path. u path ++ v path)
adds_then {old = old} {mid = mid} {new = new} {above = above} {p = p} {q = q} {u = u} {v = v} a b l =
    let path = path_at (read old.declared.items) above in
    let same = stable a above l in
    record {
      grown = omega (arith, a.grown, b.grown);
      sound = λ s. b.sound (a.sound s);
      declared =
          b.declared
          ∙ ap (λ (ds : List Placed). ds ++ q (path_at (read mid.declared.items) above)) a.declared
          ∙ ap (λ (x : List (Source ℕ)). (read old.declared.items ++ p path) ++ q x) same
          ∙ append_assoc (read old.declared.items) (p path) (q path);
      used = λ s.
          b.used (a.sound s)
          ∙ ap (λ (us : List (Used ℕ)). us ++ v (path_at (read mid.declared.items) above)) (a.used s)
          ∙ ap (λ (x : List (Source ℕ)). (uses_in old ++ u path) ++ v x) same
          ∙ append_assoc (uses_in old) (u path) (v path);
    }

-- the path of a new declaration
pub path_below : {old mid : Listing} {above : Above} {u : List (Source ℕ) → List (Used ℕ)} (last : Source ℕ) (kind : Kind) (n : ℕ)
    → Adds old mid above (λ path. place path last kind ∷ []) u → n ≡ length old.declared.items
    → path_of (read mid.declared.items) n ≡ path_at (read old.declared.items) above ++ last ∷ []
path_below {old = old} {above = above} last kind n a e =
    ap (λ (ds : List Placed). path_of ds n) a.declared
    ∙ path_of-last (read old.declared.items) (place (path_at (read old.declared.items) above) last kind) n (e ∙ sym (length-read old.declared.items))

-- a declaration, and others below it
pub adds_below : {old mid new : Listing} {above : Above} {q : List (Source ℕ) → List Placed} {v : List (Source ℕ) → List (Used ℕ)} (last : Source ℕ) (kind : Kind) (n : ℕ)
    → Adds old mid above (λ path. place path last kind ∷ []) (λ path. []) → n ≡ length old.declared.items → Adds mid new (Below n) q v
    → Adds old new above (λ path. place path last kind ∷ q (path ++ last ∷ [])) (λ path. v (path ++ last ∷ []))
adds_below {old = old} {mid = mid} {new = new} {above = above} {q = q} {v = v} last kind n a e b =
    let path = path_at (read old.declared.items) above in
    let same = path_below last kind n a e in
    record {
      grown = omega (arith, a.grown, b.grown);
      sound = λ s. b.sound (a.sound s);
      declared =
          b.declared
          ∙ ap (λ (ds : List Placed). ds ++ q (path_of (read mid.declared.items) n)) a.declared
          ∙ ap (λ (x : List (Source ℕ)). (read old.declared.items ++ place path last kind ∷ []) ++ q x) same
          ∙ append_assoc (read old.declared.items) (place path last kind ∷ []) (q (path ++ last ∷ []));
      used = λ s.
          b.used (a.sound s)
          ∙ ap (λ (us : List (Used ℕ)). us ++ v (path_of (read mid.declared.items) n)) (a.used s ∙ append-nil (uses_in old))
          ∙ ap (λ (x : List (Source ℕ)). uses_in old ++ v x) same;
    }

-- one entry more
pub adds_entry : {old new : Listing} (e : Listed) → new.declared.items ≡ old.declared.items ++ e ∷ [] → new.used.items ≡ old.used.items → needs e.above ≤ length old.declared.items
    → last_token (whole (seen (path_at (read old.declared.items) e.above) e)) ≡ Some e.token → Adds old new e.above (λ path. seen path e ∷ []) (λ path. [])
adds_entry {old = old} {new = new} e d u l t =
    let more = seen (path_at (read old.declared.items) e.above) e in
    let reads : read new.declared.items ≡ read old.declared.items ++ more ∷ [] = ap read d ∙ read_on-push [] old.declared.items e in
    let len : length new.declared.items ≡ length old.declared.items + 1 = omega (arith, ap length d, length-append old.declared.items (e ∷ [])) in
    record {
      grown = omega (arith, len);
      sound = λ s. record {
        ordered = subst (λ (es : List Listed). (k : ℕ) (x : Listed) → k < length es → needs (get_or es k x).above ≤ k) (sym d) (ordered_push old.declared.items e s.ordered l);
        tokens = ap (map (λ x. Some x.token)) d ∙ tokens_push old.declared.items e more s.tokens t ∙ sym (ap (map (λ x. last_token (whole x))) reads);
        scopes = subst (λ (us : List Use). All (λ u. needs u.scope ≤ length new.declared.items) us) (sym u) (λ k x b. omega (arith, s.scopes k x b, len));
      };
      declared = reads;
      used = λ s.
          ap (λ (us : List Use). map (used_by (read new.declared.items)) us) u
          ∙ ap (λ (ds : List Placed). map (used_by ds) old.used.items) reads
          ∙ uses-more (read old.declared.items) (more ∷ []) old.used.items (λ k x b. omega (arith, s.scopes k x b, length-read old.declared.items))
          ∙ sym (append-nil (uses_in old));
    }
  where
    ordered_push : (es : List Listed) (e : Listed) → ((k : ℕ) (x : Listed) → k < length es → needs (get_or es k x).above ≤ k) → needs e.above ≤ length es
        → (k : ℕ) (x : Listed) → k < length (es ++ e ∷ []) → needs (get_or (es ++ e ∷ []) k x).above ≤ k
    ordered_push es e h l k x b = elim (cases_lt k (length es)) [
      | inl within ↦ subst (λ (y : Listed). needs y.above ≤ k) (sym (get_or_append_left es (e ∷ []) x k within)) (h k x within)
      | inr beyond ↦
          let at : k ≡ length es = omega (arith, b, beyond, length-append es (e ∷ [])) in
          let same : get_or (es ++ e ∷ []) k x ≡ e = ap (λ n. get_or (es ++ e ∷ []) n x) at ∙ get_or-append_seam es e [] x in
          subst (λ (y : Listed). needs y.above ≤ k) (sym same) (omega (arith, l, at))
    ]

-- one reference more
pub adds_use : {old new : Listing} (u : Use) → new.declared.items ≡ old.declared.items → new.used.items ≡ old.used.items ++ u ∷ [] → needs u.scope ≤ length old.declared.items
    → Adds old new u.scope (λ path. []) (λ path. used_as path u.wants u.reference.now ∷ [])
adds_use {old = old} {new = new} u d e l =
    let len : length new.declared.items ≡ length old.declared.items = ap length d in
    record {
      grown = omega (arith, len);
      sound = λ s. record {
        ordered = subst (λ (es : List Listed). (k : ℕ) (x : Listed) → k < length es → needs (get_or es k x).above ≤ k) (sym d) s.ordered;
        tokens = subst (λ (es : List Listed). map (λ x. Some x.token) es ≡ map (λ x. last_token (whole x)) (read es)) (sym d) s.tokens;
        scopes = subst (λ (us : List Use). All (λ x. needs x.scope ≤ length new.declared.items) us) (sym e) (scopes_push (length new.declared.items) old.used.items u (λ k x b. omega (arith, s.scopes k x b, len)) (omega (arith, l, len)));
      };
      declared = ap read d ∙ sym (append-nil (read old.declared.items));
      used = λ s.
          ap (λ (us : List Use). map (used_by (read new.declared.items)) us) e
          ∙ ap (λ (es : List Listed). map (used_by (read es)) (old.used.items ++ u ∷ [])) d
          ∙ map-append (used_by (read old.declared.items)) old.used.items (u ∷ []);
    }
  where
    scopes_push : (n : ℕ) (us : List Use) (u : Use) → All (λ x. needs x.scope ≤ n) us → needs u.scope ≤ n → All (λ x. needs x.scope ≤ n) (us ++ u ∷ [])
    scopes_push n us u h l k x b = elim (cases_lt k (length us)) [
      | inl within ↦ subst (λ (y : Use). needs y.scope ≤ n) (sym (get_or_append_left us (u ∷ []) x k within)) (h k x within)
      | inr beyond ↦
          let at : k ≡ length us = omega (arith, b, beyond, length-append us (u ∷ [])) in
          let same : get_or (us ++ u ∷ []) k x ≡ u = ap (λ i. get_or (us ++ u ∷ []) i x) at ∙ get_or-append_seam us u [] x in
          subst (λ (y : Use). needs y.scope ≤ n) (sym same) l
    ]

-- what trees behind one another add, in parts
pub record IsParted (p : List (Source ℕ) → Tree → List Placed) (u : List (Source ℕ) → Tree → List (Used ℕ)) : Type 0 where
  pub no_placed : (path : List (Source ℕ)) → p path End ≡ []
  pub no_used : (path : List (Source ℕ)) → u path End ≡ []
  pub placed : (path : List (Source ℕ)) (s t : Tree) → p path (joined_trees s t) ≡ p path s ++ p path t
  pub used : (path : List (Source ℕ)) (s t : Tree) → u path (joined_trees s t) ≡ u path s ++ u path t

-- a turn of a loop over items
pub adds_turn : {A : Type 0} (view : A → Tree) (p : List (Source ℕ) → Tree → List Placed) (u : List (Source ℕ) → Tree → List (Used ℕ)) {old mid new : Listing} {above : Above}
    → IsParted p u → (items : List A) (i : ℕ) (x : A) → i < length items → x ≡ get_or items i x
    → Adds old mid above (λ path. p path (view x)) (λ path. u path (view x))
    → Adds mid new above (λ path. p path (trees view (drop (i + 1) items))) (λ path. u path (trees view (drop (i + 1) items)))
    → needs above ≤ length old.declared.items
    → Adds old new above (λ path. p path (trees view (drop i items))) (λ path. u path (trees view (drop i items)))
adds_turn view p u parts items i x l e a b n =
    let next = trees view (drop (i + 1) items) in
    adds_as (adds_then a b n)
    (λ path. sym (at_drop_more (λ xs. p path (trees view xs)) items i x l ∙ ap (λ y. p path (joined_trees (view y) next)) (sym e) ∙ parts.placed path (view x) next))
    (λ path. sym (at_drop_more (λ xs. u path (trees view xs)) items i x l ∙ ap (λ y. u path (joined_trees (view y) next)) (sym e) ∙ parts.used path (view x) next))

-- nothing is left
pub adds_end : {A : Type 0} (view : A → Tree) (p : List (Source ℕ) → Tree → List Placed) (u : List (Source ℕ) → Tree → List (Used ℕ))
    → IsParted p u → (items : List A) (i : ℕ) → length items ≤ i → (l : Listing) (above : Above)
    → Adds l l above (λ path. p path (trees view (drop i items))) (λ path. u path (trees view (drop i items)))
adds_end view p u parts items i e l above =
    adds_as (adds_none l above)
    (λ path. sym (at_drop_all (λ xs. p path (trees view xs)) items i e ∙ parts.no_placed path))
    (λ path. sym (at_drop_all (λ xs. u path (trees view xs)) items i e ∙ parts.no_used path))

-- a turn of a loop over items that refer and declare nothing
pub adds_each : {A : Type 0} (f : List (Source ℕ) → A → List (Used ℕ)) {old mid new : Listing} {above : Above} (items : List A) (i : ℕ) (x : A) → i < length items → x ≡ get_or items i x
    → Adds old mid above (λ path. []) (λ path. f path x) → Adds mid new above (λ path. []) (λ path. flat_map (f path) (drop (i + 1) items)) → needs above ≤ length old.declared.items
    → Adds old new above (λ path. []) (λ path. flat_map (f path) (drop i items))
adds_each f items i x l e a b n =
    adds_as (adds_then a b n) (λ path. refl)
    (λ path. sym (at_drop_more (flat_map (f path)) items i x l ∙ ap (λ y. f path y ++ flat_map (f path) (drop (i + 1) items)) (sym e)))

-- no such item is left
pub adds_each_end : {A : Type 0} (f : List (Source ℕ) → A → List (Used ℕ)) (items : List A) (i : ℕ) → length items ≤ i → (l : Listing) (above : Above)
    → Adds l l above (λ path. []) (λ path. flat_map (f path) (drop i items))
adds_each_end f items i e l above = adds_as (adds_none l above) (λ path. refl) (λ path. sym (at_drop_all (flat_map (f path)) items i e))
