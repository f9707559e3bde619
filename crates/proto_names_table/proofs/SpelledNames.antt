-- Declarations with their last words have the names that their paths spell (for the crates above).
use Rattle.std.proofs.Common.{◌≡◌, ◌≢◌, ℕ, zero, suc, ◌<◌, ◌≤◌, List, [], ◌∷◌, ◌++◌, length, get_or, map, refl, sym, ◌∙◌, ap, subst, arith, append_assoc, Option, Some, append-nil}
use Rattle.std.specs.Cow.{cow_str_bytes}
use Rattle.std.proofs.lemmas.List.{map-append, append_cancel_left, length-map, get_or-map}
use Rattle.proto_names_rules.specs.declared.kind.Kind.{Kind}
use Rattle.proto_names_rules.specs.declared.kind.Kind.TheVariants.{Package}
use Rattle.proto_case.specs.Camel.{entry_name}
use Rattle.proto_names_rules.proofs.Common.{place_from, at, IsPlain, name_of, spell, Placed}
use Rattle.proto_names_table.specs.LastWords.{AreListed, EntriesAreKept, last_word, named_as}
use Rattle.proto_names_outline.proofs.Common.{last_token, needs, path_at, read, read_on, seen, source_of, whole, or_at, place_is, entry_plain}
use Rattle.proto_names_table.specs.Common.{Named, AreSpelled, name_above, named_by, named_on, named_in, Spelled}
use Rattle.proto_names_outline.specs.declared.listing.Above.{Above}
use Rattle.proto_names_outline.specs.declared.listing.Above.TheVariants.{Outermost, Below}
use Rattle.proto_names_outline.specs.declared.listing.LastWord.{LastWord}
use Rattle.proto_names_outline.specs.declared.listing.LastWord.TheVariants.{Text, EntryName, Key, Value}
use Rattle.proto_names_outline.specs.declared.listing.Listed.{Listed}

last_plain : (text : ℕ → List ℕ) (w : LastWord) (t : ℕ) → IsPlain (text t) → IsPlain (spell text entry_name (source_of w t))
last_plain text Text t h = h
last_plain text EntryName t h = entry_plain (text t) h
last_plain text Key t h = (refl, λ e. cc)
last_plain text Value t h = (refl, λ e. cc)

-- ---- names

name_above_is : (file : ℕ) (text : ℕ → List ℕ) (ds : List Placed) (above : Above) → name_above (map (named_as file text) ds) above ≡ name_of text entry_name (path_at ds above)
name_above_is file text ds Outermost = refl
name_above_is file text [] (Below k) = refl
name_above_is file text (d ∷ ds) (Below zero) = refl
name_above_is file text (d ∷ ds) (Below (suc k)) = name_above_is file text ds (Below k)

-- what an entry and its declaration with a last word have in common
pub record Bare : Type 0 where
  pub above : Above
  pub word : List ℕ
  pub kind : Kind
  pub token : ℕ

abbrev pub bare : Spelled → Bare
bare s = record { above = s.above; word = cow_str_bytes s.word; kind = s.kind; token = s.token }

abbrev pub bare_of : (ℕ → List ℕ) → Listed → Bare
bare_of text e = record { above = e.above; word = last_word text e; kind = e.kind; token = e.token }

abbrev named_bare : ℕ → List Named → Bare → Named
named_bare file before b = record { name = name_above before b.above ++ b.word ∷ []; kind = b.kind; place = at file b.token }

named_by_is : (file : ℕ) (text : ℕ → List ℕ) (before : List Placed) (e : Listed) (s : Spelled) → bare s ≡ bare_of text e → last_token (whole (seen (path_at before e.above) e)) ≡ Some e.token
    → named_by file (map (named_as file text) before) s ≡ named_as file text (seen (path_at before e.above) e)
named_by_is file text before e s h t =
    let path = path_at before e.above in
    let last = source_of e.word e.token in
    let name : name_above (map (named_as file text) before) e.above ++ last_word text e ∷ [] ≡ name_of text entry_name (path ++ last ∷ []) =
    ap (λ (n : List (List ℕ)). n ++ last_word text e ∷ []) (name_above_is file text before e.above) ∙ sym (map-append (spell text entry_name) path (last ∷ [])) in
    let place : e.token ≡ place_from 0 (path ++ last ∷ []) = sym (place_is 0 (path ++ last ∷ []) ∙ ap (or_at 0) t) in
    let same : named_bare file (map (named_as file text) before) (bare_of text e) ≡ named_as file text (seen path e) = λ i. record { name = name i; kind = e.kind; place = at file (place i) } in
    ap (named_bare file (map (named_as file text) before)) h ∙ same

abbrev tail_token : Placed → Option ℕ
tail_token p = last_token (whole p)

pub read_on-front : (before : List Placed) (es : List Listed) → (rest : List Placed) × (read_on before es ≡ before ++ rest)
read_on-front before [] = ([], sym (append-nil before))
read_on-front before (e ∷ es) =
    let p = seen (path_at before e.above) e in
    let r = read_on-front (before ++ p ∷ []) es in
    (p ∷ r.0, r.1 ∙ append_assoc before (p ∷ []) r.0)

named_all : (file : ℕ) (text : ℕ → List ℕ) (before : List Placed) (es : List Listed) (ss : List Spelled) → map bare ss ≡ map (bare_of text) es
    → map tail_token (read_on before es) ≡ map tail_token before ++ map (λ e. Some e.token) es
    → named_on file (map (named_as file text) before) ss ≡ map (named_as file text) (read_on before es)
named_all file text before [] [] h t = refl
named_all file text before [] (s ∷ ss) h t = absurd (cc)
named_all file text before (e ∷ es) [] h t = absurd (cc)
named_all file text before (e ∷ es) (s ∷ ss) h t =
    let p = seen (path_at before e.above) e in
    let first : bare s ≡ bare_of text e = cc in
    let more : map bare ss ≡ map (bare_of text) es = cc in
    let front = read_on-front (before ++ p ∷ []) es in
    let tails : map tail_token before ++ tail_token p ∷ map tail_token front.0 ≡ map tail_token before ++ Some e.token ∷ map (λ x. Some x.token) es =
    sym (ap (map tail_token) (front.1 ∙ append_assoc before (p ∷ []) front.0) ∙ map-append tail_token before (p ∷ front.0)) ∙ t in
    let same = append_cancel_left (map tail_token before) (tail_token p ∷ map tail_token front.0) (Some e.token ∷ map (λ x. Some x.token) es) tails in
    let token : tail_token p ≡ Some e.token = cc in
    let rest : map tail_token (read_on (before ++ p ∷ []) es) ≡ map tail_token (before ++ p ∷ []) ++ map (λ x. Some x.token) es =
    t
    ∙ ap (λ (o : Option ℕ). map tail_token before ++ o ∷ map (λ x. Some x.token) es) (sym token)
    ∙ sym (ap (λ (os : List (Option ℕ)). os ++ map (λ x. Some x.token) es) (map-append tail_token before (p ∷ [])) ∙ append_assoc (map tail_token before) (tail_token p ∷ []) (map (λ x. Some x.token) es)) in
    ap (λ (d : Named). named_on file (map (named_as file text) before ++ d ∷ []) ss) (named_by_is file text before e s first token)
    ∙ ap (λ (ds : List Named). named_on file ds ss) (sym (map-append (named_as file text) before (p ∷ [])))
    ∙ named_all file text (before ++ p ∷ []) es ss more rest

pub names_are : (text : ℕ → List ℕ) (es : List Listed) (ss : List Spelled) → map bare ss ≡ map (bare_of text) es → map (λ e. Some e.token) es ≡ map (λ p. last_token (whole p)) (read es)
    → (file : ℕ) → named_in file ss ≡ map (named_as file text) (read es)
names_are text es ss h t file = named_all file text [] es ss h (sym t)

-- ---- what stays

pub kept : (text : ℕ → List ℕ) (es : List Listed) (ss : List Spelled) → map bare ss ≡ map (bare_of text) es → EntriesAreKept es ss
kept text [] [] h = record { aboves = refl; kinds = refl; tokens = refl }
kept text [] (s ∷ ss) h = absurd (cc)
kept text (e ∷ es) [] h = absurd (cc)
kept text (e ∷ es) (s ∷ ss) h =
    let first : bare s ≡ bare_of text e = cc in
    let more : map bare ss ≡ map (bare_of text) es = cc in
    let k = kept text es ss more in
    record {
      aboves = ap (λ b. b.above ∷ map (λ s. s.above) ss) first ∙ ap (λ xs. e.above ∷ xs) k.aboves;
      kinds = ap (λ b. b.kind ∷ map (λ s. s.kind) ss) first ∙ ap (λ xs. e.kind ∷ xs) k.kinds;
      tokens = ap (λ b. b.token ∷ map (λ s. s.token) ss) first ∙ ap (λ xs. e.token ∷ xs) k.tokens;
    }

-- an entry for no place
abbrev pub no_entry : Listed
no_entry = record { above = Outermost; word = Text; token = 0; kind = Package }

bare_at : (text : ℕ → List ℕ) (es : List Listed) (ss : List Spelled) → map bare ss ≡ map (bare_of text) es → (k : ℕ) (s : Spelled) → k < length ss
    → (k < length es) × (bare (get_or ss k s) ≡ bare_of text (get_or es k no_entry))
bare_at text es ss h k s l =
    let n : length ss ≡ length es = sym (length-map ss bare) ∙ ap length h ∙ length-map es (bare_of text) in
    let m : k < length es = omega arith in
    (m, sym (get_or-map bare ss k s (bare s) l) ∙ ap (λ bs. get_or bs k (bare s)) h ∙ get_or-map (bare_of text) es k no_entry (bare s) m)

pub well_spelled : (text : ℕ → List ℕ) (es : List Listed) (ss : List Spelled) → map bare ss ≡ map (bare_of text) es
    → ((k : ℕ) (d : Listed) → k < length es → needs (get_or es k d).above ≤ k) → AreListed text es → AreSpelled ss
well_spelled text es ss h ordered a = record {
  ordered = λ k s l.
      (let b = bare_at text es ss h k s l in
      subst (λ (x : Bare). needs x.above ≤ k) (sym b.1) (ordered k no_entry b.0));
  plain = λ k s l.
      (let b = bare_at text es ss h k s l in
      subst (λ (x : Bare). IsPlain x.word) (sym b.1) (last_plain text (get_or es k no_entry).word (get_or es k no_entry).token (a.plain k no_entry b.0)));
  packages = λ i j s l m.
      (let b = bare_at text es ss h i s (omega arith) in
      let c = bare_at text es ss h j s m in
      subst (λ (x : Bare). (get_or ss j s).kind ≡ Package → x.kind ≡ Package) (sym b.1)
      (subst (λ (y : Bare). y.kind ≡ Package → (get_or es i no_entry).kind ≡ Package) (sym c.1) (a.packages i j no_entry l c.0)));
  rising = λ i j s l m.
      (let b = bare_at text es ss h i s (omega arith) in
      let c = bare_at text es ss h j s m in
      subst (λ (x : Bare). x.kind ≢ Package → x.token ≤ (get_or ss j s).token) (sym b.1)
      (subst (λ (y : Bare). (get_or es i no_entry).kind ≢ Package → (get_or es i no_entry).token ≤ y.token) (sym c.1) (a.rising i j no_entry l c.0)));
}
