-- Files whose texts and grammar have no fault are texts, and are read (for the crates above).
use Rattle.std.proofs.Common.{◌≡◌, ℕ, zero, suc, ◌+◌, ◌-◌, ◌<◌, ◌≤◌, Bool, true, false, ◌⊎◌, List, [], ◌∷◌, ◌++◌, length, take, drop, get_or, Option, Some, None, Ok, Err, refl, sym, ap, subst, ◌∙◌, inl, inr, arith, append_assoc, length-append, Contains, IsUtf8, append-nil, drop_at}
use Rattle.std.specs.Str.{is_utf8}
use Rattle.proto_base.proofs.Common.{both_ways, cases_Bool, cases_lt, none-some, same_Some, IsUtf8-from_is_utf8, is_utf8-from_IsUtf8, text_limit, contains_head, contains_later}
use Rattle.proto_base.specs.declared.fault.FaultKind.{FaultKind}
use Rattle.proto_base.specs.declared.fault.FaultKind.TheVariants as kind
use Rattle.proto_text.specs.declared.fault.LexFault.{LexFault}
use Rattle.proto_text.specs.declared.fault.LexFault.TheVariants as lex
use Rattle.proto_text.specs.declared.kind.PieceKind.{PieceKind}
use Rattle.proto_text.specs.declared.kind.PieceKind.TheVariants.{Blank, LineComment, BlockComment, Solid}
use Rattle.proto_text.specs.declared.kind.TokenKind.TheVariants.{Word, Number, Text, Punctuation}
use Rattle.proto_text.specs.declared.lexer.Token.{Token}
use Rattle.proto_text.specs.First.{BeginsWith}
use Rattle.proto_text.proofs.Common.{IsFault, IsAllowed, AreTokens, AreTokensIn, IsFaultIn, may_begin, token_at, meaning_behind, meaning_again, meaning_sound}
use Rattle.proto_text.specs.Scan.{PieceFound, piece_at}
use Rattle.proto_text.proofs.Begins.{accept_other, accept_string, fault_sound, found_some, between_quotes, refuse_string}
use Rattle.proto_text.proofs.Sequence.{IsLexedUpTo, lexed_all, lexed_fault, lexed_more, lexed_none}
use Rattle.proto_tree.specs.declared.class.Class.{Class}
use Rattle.proto_tree.specs.declared.class.Class.TheVariants as class
use Rattle.proto_tree.specs.declared.class.Lexeme.{Lexeme}
use Rattle.proto_tree.specs.declared.context.Context.{Context}
use Rattle.proto_tree.specs.declared.context.Context.TheVariants as context
use Rattle.proto_tree.specs.declared.context.Kind.TheVariants as piece_kind
use Rattle.proto_tree.specs.declared.piece.Piece.{Piece}
use Rattle.proto_tree.specs.declared.piece.Piece.TheVariants as piece
use Rattle.proto_tree.proofs.Common.{Fit, flat_piece, IsShallow, IsTooDeep, open_after, open_in, ReadsIn, classed_in, place_at, Tree, Spells, allows, kind_of, last_of, Fit-join, same_pieces, stuck_no_tree, stuck_place, tree_of_walk, walk_of, laws, nested_walk, walk_append, flats, flats-append, last_outer, pieces}
use Rattle.proto_tree.specs.Walk.{IsStuck, Walk, moved_contexts, piece_in}
use Rattle.proto_tree.proofs.Depth.{before_more, now_more}
use Rattle.proto_files.proofs.Common.{HasNoFault, ReadOf, read_at, FileOf, file_at, IsGrammarFault, IsText, IsTextFault, ReadFaults}
use Rattle.proto_edit_rename_described.specs.CleanFiles.{CleanFilesAreRead}
use Rattle.proto_files.specs.ReadFaults.{AreFileTokens}
use Rattle.proto_base.specs.declared.profile.Profile.{Profile}

-- ---- a text has tokens, or a fault

allowed_or_not : (body : List ℕ) → IsAllowed body ⊎ (IsAllowed body → ⊥)
allowed_or_not body = by (meaning_behind 0 body) refl
  where
    by : (o : Option (List ℕ)) → meaning_behind 0 body ≡ o → IsAllowed body ⊎ (IsAllowed body → ⊥)
    by None q = inr (λ a. none-some a.0 (sym q ∙ meaning_again body a.0 a.1))
    by (Some values) q = elim (cases_Bool (is_utf8 values)) [
      | inl t ↦ inl (values, meaning_sound body values q, IsUtf8-from_is_utf8 values t)
      | inr f ↦ inr (λ a. both_ways (is_utf8 values) f (is_utf8-from_IsUtf8 values (subst IsUtf8 (sym (same_Some values a.0 (sym q ∙ meaning_again body a.0 a.1))) a.2)))
    ]

text_or_not : (kind : PieceKind) → (kind ≡ Solid Text) ⊎ (kind ≡ Solid Text → ⊥)
text_or_not (Solid Text) = inl refl
text_or_not (Solid Word) = inr (λ e. cc)
text_or_not (Solid Number) = inr (λ e. cc)
text_or_not (Solid Punctuation) = inr (λ e. cc)
text_or_not Blank = inr (λ e. cc)
text_or_not LineComment = inr (λ e. cc)
text_or_not BlockComment = inr (λ e. cc)

-- a piece of some bytes
record IsFirst (bytes : List ℕ) : Type 0 where
  kind : PieceKind
  n : ℕ
  some : 0 < n
  begins : BeginsWith kind bytes n

first_or_fault : (bytes : List ℕ) → 0 < length bytes → IsFirst bytes ⊎ ((f : LexFault) × IsFault f bytes)
first_or_fault bytes some = by (piece_at bytes) refl
  where
    by : (r : PieceFound) → piece_at bytes ≡ r → IsFirst bytes ⊎ ((f : LexFault) × IsFault f bytes)
    by (Err fault) q = inr (fault, fault_sound bytes fault some q)
    by (Ok found) q = elim (text_or_not found.0) [
      | inl text ↦ elim (allowed_or_not (between_quotes found.1 bytes)) [
        | inl a ↦ inl (record { kind = found.0; n = found.1; some = found_some bytes (Ok found) (sym q); begins = accept_string found.0 bytes found.1 text q a })
        | inr refused ↦ inr (lex.BadEscape, refuse_string found.0 bytes found.1 text q refused)
      ]
      | inr other ↦ inl (record { kind = found.0; n = found.1; some = found_some bytes (Ok found) (sym q); begins = accept_other found.0 bytes found.1 other q })
    ]

module _ (profile : Profile) (text : List ℕ) where
  abbrev Lexed : Type 0
  Lexed = ((ts : List Token) × AreTokensIn profile text ts) ⊎ ((offset : ℕ) × (f : LexFault) × IsFaultIn profile text offset f)

  shorter : (n : ℕ) (rest : List ℕ) (p : IsFirst rest) → length rest < suc n → length (drop p.n rest) < n
  shorter n rest p l =
      let b = p.begins in
      let some = p.some in
      let behind : drop p.n rest ≡ b.rest = ap (drop p.n) b.parts ∙ drop_at b.piece b.rest p.n (sym b.len) in
      omega (arith, l, some, b.len, ap length b.parts, length-append b.piece b.rest, ap length behind)

  lexed_on : (n : ℕ) (rest : List ℕ) (at : ℕ) (tokens : List Token) → length rest < n → IsLexedUpTo profile text rest at tokens → Lexed
  lexed_on zero rest at tokens l so_far = absurd (omega (arith, l))
  lexed_on (suc n) [] at tokens l so_far = inl (tokens, lexed_all profile text [] at tokens so_far refl)
  lexed_on (suc n) (b ∷ rest) at tokens l so_far = elim (cases_Bool (may_begin profile (b ∷ rest))) [
    | inl has ↦ elim (first_or_fault (b ∷ rest) (omega arith)) [
      | inl p ↦ lexed_on n (drop p.n (b ∷ rest)) (at + p.n) (tokens ++ token_at p.kind at p.n) (shorter n (b ∷ rest) p l) (lexed_more profile text (b ∷ rest) at tokens p.kind p.n so_far has p.begins)
      | inr f ↦ inr (at, f.0, lexed_fault profile text (b ∷ rest) at tokens f.0 so_far (inl f.1))
    ]
    | inr out ↦ inr (at, lex.BadChar, lexed_fault profile text (b ∷ rest) at tokens lex.BadChar so_far (inr (refl, out)))
  ]

  lexed : length text ≤ text_limit → Lexed
  lexed short = lexed_on (suc (length text)) text 0 [] (omega arith) (lexed_none profile text short)

-- ---- tokens have a tree, or no tree, or too many open braces

abbrev start : List Context
start = context.Start ∷ []

module _ (s : List Lexeme) where
  fits_open : (c : Class) (d : ℕ) → d ≤ 32 → 32 < open_after d c → open_after d c ≡ 33
  fits_open class.Open d l h = omega (arith, l, h)
  fits_open class.Close d l h = absurd (omega (arith, l, h))
  fits_open _ d l h = absurd (omega (arith, l, h))

  shallow_on : (n i : ℕ) → i + n ≡ length s → ((m : ℕ) → m ≤ i → open_in (take m s) ≤ 32) → IsShallow s ⊎ ((k : ℕ) × IsTooDeep s k)
  shallow_on zero i e before = inl (λ k l. before k (omega (arith, l, e)))
  shallow_on (suc n) i e before =
      let inside : i < length s = omega (arith, e) in
      let depth = open_in (take i s) in
      let now : open_in (take (i + 1) s) ≡ open_after (open_in (take i s)) (get_or s i (record { class = class.Syntax; at = 0 })).class =
      now_more s i (record { class = class.Syntax; at = 0 }) (open_in (take i s)) (open_after (open_in (take i s)) (get_or s i (record { class = class.Syntax; at = 0 })).class) inside refl refl in
      elim (cases_lt 32 (open_after (open_in (take i s)) (get_or s i (record { class = class.Syntax; at = 0 })).class)) [
        | inl deep ↦ inr (i, record { within = inside; before = before; deep = now ∙ fits_open (get_or s i (record { class = class.Syntax; at = 0 })).class (open_in (take i s)) (before i (omega arith)) deep })
        | inr small ↦ shallow_on n (i + 1) (omega (arith, e)) (before_more s i (open_after (open_in (take i s)) (get_or s i (record { class = class.Syntax; at = 0 })).class) before now small)
      ]

  shallow_or_deep : IsShallow s ⊎ ((k : ℕ) × IsTooDeep s k)
  shallow_or_deep = shallow_on (length s) 0 (omega arith) (λ m l. none m l)
    where
      none : (m : ℕ) → m ≤ 0 → open_in (take m s) ≤ 32
      none zero l = omega arith
      none (suc m) l = absurd (omega (arith, l))

  abbrev Answer : Type 0
  Answer = ((t : Tree) × Spells t s) ⊎ ((k : ℕ) × IsStuck start s k)

  -- the pieces of a front of the tokens
  record IsWalked (us : List Piece) (front rest : List Lexeme) (to : List Context) : Type 0 where
    parts : s ≡ front ++ rest
    fits : Fit (flats us) front
    walk : Walk start us to

  differ : true ≡ false → ⊥
  differ e = cc

  -- the outermost context has no brace to close
  outermost : (us : List Piece) (front rest : List Lexeme) (c : Context) → IsWalked us front rest (c ∷ []) → allows c piece_kind.Close ≡ false
  outermost us front rest c w =
      let t = tree_of_walk us c front w.walk w.fits in
      let v = walk_of t.0 front t.1 in
      let same = same_pieces us (pieces t.0) start (c ∷ []) (last_of context.Start t.0 ∷ []) front w.walk w.fits v.0 v.1 in
      ap (λ x. allows x piece_kind.Close) (head c (last_of context.Start t.0) same.1) ∙ last_outer t.0 context.Start refl
    where
      head : (x y : Context) → x ∷ [] ≡ y ∷ [] → x ≡ y
      head x y e = cc

  -- no piece is read
  stopped : (us : List Piece) (front rest : List Lexeme) (c : Context) (outer : List Context) → IsWalked us front rest (c ∷ outer) → piece_in c rest ≡ None → Answer
  stopped us front (x ∷ rest) c outer w none =
      inr (length (x ∷ rest), record { pieces = us; front = front; rest = x ∷ rest; context = c; outer = outer; parts = w.parts; count = refl; fits = w.fits; walk = w.walk; none = none; inner = λ e. absurd (not_empty e) })
    where
      not_empty : x ∷ rest ≡ [] → ⊥
      not_empty e = cc
  stopped us front [] c outer w none = by (allows c piece_kind.Close) refl outer refl
    where
      by : (b : Bool) → allows c piece_kind.Close ≡ b → (o : List Context) → outer ≡ o → Answer
      by true e o q = inr (0, record { pieces = us; front = front; rest = []; context = c; outer = outer; parts = w.parts; count = refl; fits = w.fits; walk = w.walk; none = none; inner = λ z. e })
      by false e [] q =
          let whole : front ≡ s = sym (w.parts ∙ append-nil front) in
          inl (tree_of_walk us c s (subst (λ z. Walk start us (c ∷ z)) q w.walk) (subst (Fit (flats us)) whole w.fits))
      by false e (d ∷ o) q =
          let nested = nested_walk us start (c ∷ d ∷ o) tt (subst (λ z. Walk start us (c ∷ z)) q w.walk) in
          absurd (differ (sym nested.0 ∙ e))

  -- a piece is read, and what is behind it is known
  abbrev Known : ℕ → Type 0
  Known n = (us : List Piece) (front rest : List Lexeme) (c : Context) (outer : List Context) → length rest < n → IsWalked us front rest (c ∷ outer) → Answer

  step : (n : ℕ) (us : List Piece) (front rest : List Lexeme) (c : Context) (outer : List Context) → length rest < suc n → IsWalked us front rest (c ∷ outer) → Known n → Answer
  step n us front rest c outer l w behind = by (piece_in c rest) refl
    where
      more : (u : Piece) (text r : List Lexeme) → allows c (kind_of u) ≡ true → rest ≡ text ++ r → Fit (flat_piece u) text → IsWalked (us ++ u ∷ []) (front ++ text) r (moved_contexts c u outer)
      more u text r ok e fit = record {
        parts = w.parts ∙ ap (λ (z : List Lexeme). front ++ z) e ∙ sym (append_assoc front text r);
        fits = subst (λ ms. Fit ms (front ++ text)) (sym (flats-append us (u ∷ []))) (Fit-join (flats us) (flats (u ∷ [])) front text w.fits (subst (λ ms. Fit ms text) (sym (append-nil (flat_piece u))) fit));
        walk = walk_append us (u ∷ []) start (c ∷ outer) (moved_contexts c u outer) w.walk (ok, refl);
      }

      -- a brace is closed only where one is open
      closes : (u : Piece) → allows c (kind_of u) ≡ true → moved_contexts c u outer ≡ [] → ⊥
      closes (piece.Close i) ok q = differ (sym ok ∙ outermost us front rest c (subst (λ z. IsWalked us front rest (c ∷ z)) q w))
      closes (piece.Statement s) ok q = cc
      closes (piece.Open h i) ok q = cc

      on : (u : Piece) (text r : List Lexeme) → allows c (kind_of u) ≡ true → rest ≡ text ++ r → Fit (flat_piece u) text → (to : List Context) → moved_contexts c u outer ≡ to → Answer
      on u text r ok e fit [] q = absurd (closes u ok q)
      on u text r ok e fit (d ∷ to) q =
          let solid = (laws c).solid u ok text fit in
          behind (us ++ u ∷ []) (front ++ text) r d to (omega (arith, l, solid, ap length e, length-append text r)) (subst (IsWalked (us ++ u ∷ []) (front ++ text) r) q (more u text r ok e fit))

      by : (o : Option (Piece × List Lexeme)) → piece_in c rest ≡ o → Answer
      by None q = stopped us front rest c outer w q
      by (Some found) q =
          let x = (laws c).sound rest found.0 found.1 q in
          on found.0 x.1 found.1 x.0 x.2 x.3 (moved_contexts c found.0 outer) refl

  walk_on : (n : ℕ) → Known n
  walk_on zero us front rest c outer l w = absurd (omega (arith, l))
  walk_on (suc n) us front rest c outer l w = step n us front rest c outer l w (walk_on n)

  tree_or_stuck : Answer
  tree_or_stuck = walk_on (suc (length s)) [] [] s context.Start [] (omega arith) (record { parts = refl; fits = tt; walk = refl })

-- ---- files

module _ (files : List FileOf) (clean : HasNoFault (ReadFaults files)) (f : FileOf) (c : Contains files f) where
  short : length f.bytes ≤ text_limit
  short = elim (cases_lt text_limit (length f.bytes)) [
    | inl lt ↦ absurd (clean (record { path = f.path; offset = 0; kind = kind.TooLarge }) (inl (f, c, refl, (refl, lt))))
    | inr le ↦ le
  ]

  utf8 : IsUtf8 f.bytes
  utf8 = elim (cases_Bool (is_utf8 f.bytes)) [
    | inl t ↦ IsUtf8-from_is_utf8 f.bytes t
    | inr t ↦ absurd (clean (record { path = f.path; offset = 0; kind = kind.NotUtf8 }) (inl (f, c, refl, (refl, short, λ h. both_ways (is_utf8 f.bytes) t (is_utf8-from_IsUtf8 f.bytes h)))))
  ]

  pub file_is_text : IsText f.bytes
  file_is_text = record { short = short; utf8 = utf8 }

  no_text_fault : (offset : ℕ) (k : FaultKind) → IsTextFault f offset k → ⊥
  no_text_fault offset k h = clean (record { path = f.path; offset = offset; kind = k }) (inl (f, c, refl, h))

  no_grammar_fault : (offset : ℕ) (k : FaultKind) → IsGrammarFault f offset k → ⊥
  no_grammar_fault offset k h = clean (record { path = f.path; offset = offset; kind = k }) (inr (f, c, refl, h))

  no_lex_fault : (offset : ℕ) (fault : LexFault) → IsFaultIn f.profile f.bytes offset fault → ⊥
  no_lex_fault offset lex.BadChar h = no_text_fault offset kind.BadChar (file_is_text, h)
  no_lex_fault offset lex.OpenComment h = no_text_fault offset kind.OpenComment (file_is_text, h)
  no_lex_fault offset lex.OpenString h = no_text_fault offset kind.OpenString (file_is_text, h)
  no_lex_fault offset lex.BadEscape h = no_text_fault offset kind.BadEscape (file_is_text, h)
  no_lex_fault offset lex.BadNumber h = no_text_fault offset kind.BadNumber (file_is_text, h)

  of_text : (tokens : List Token) → AreFileTokens f tokens → AreTokens f.bytes tokens
  of_text tokens are = (are.0, are.1.0, are.2)

  tree_read : (tokens : List Token) → AreFileTokens f tokens → IsShallow (classed_in f.profile f.bytes tokens) → (tree : Tree) × ReadsIn f.profile f.bytes tokens tree
  tree_read tokens are shallow = elim (tree_or_stuck (classed_in f.profile f.bytes tokens)) [
    | inl t ↦ (t.0, record { tokens_are = of_text tokens are; spells = t.1; shallow = shallow })
    | inr k ↦ (
        let ls = classed_in f.profile f.bytes tokens in
        absurd (no_grammar_fault (place_at f.bytes tokens (length ls - k.0)) kind.Syntax
        (tokens, are, record { shallow = shallow; no_tree = stuck_no_tree ls k.0 k.1; at = length ls - k.0; place = stuck_place ls k.0 k.1; offset_is = refl })))
  ]

  tokens_read : (tokens : List Token) → AreFileTokens f tokens → (tree : Tree) × ReadsIn f.profile f.bytes tokens tree
  tokens_read tokens are = elim (shallow_or_deep (classed_in f.profile f.bytes tokens)) [
    | inl shallow ↦ tree_read tokens are shallow
    | inr k ↦ absurd (no_grammar_fault (place_at f.bytes tokens k.0) kind.TooDeep (tokens, are, record { at = k.0; place = k.1; offset_is = refl }))
  ]

  file_read : (r : ReadOf) × ReadsIn f.profile f.bytes r.tokens r.tree
  file_read = elim (lexed f.profile f.bytes short) [
    | inl ts ↦ (let t = tokens_read ts.0 ts.1 in (record { tokens = ts.0; tree = t.0 }, t.1))
    | inr at ↦ absurd (no_lex_fault at.0 at.1 at.2)
  ]

all_read : (fs : List FileOf) → ((f : FileOf) → Contains fs f → (r : ReadOf) × ReadsIn f.profile f.bytes r.tokens r.tree)
    → (rs : List ReadOf) × (length rs ≡ length fs) × ((k : ℕ) → k < length fs → ReadsIn (file_at fs k).profile (file_at fs k).bytes (read_at rs k).tokens (read_at rs k).tree)
all_read [] h = ([], refl, λ k l. absurd (omega (arith, l)))
all_read (f ∷ fs) h =
    let first = h f (contains_head f fs) in
    let more = all_read fs (λ g c. h g (contains_later f g fs c)) in
    (first.0 ∷ more.0, ap suc more.1, each first.0 first.1 more.0 more.2)
  where
    each : (r : ReadOf) → ReadsIn f.profile f.bytes r.tokens r.tree → (rs : List ReadOf) → ((k : ℕ) → k < length fs → ReadsIn (file_at fs k).profile (file_at fs k).bytes (read_at rs k).tokens (read_at rs k).tree)
        → (k : ℕ) → k < length (f ∷ fs) → ReadsIn (file_at (f ∷ fs) k).profile (file_at (f ∷ fs) k).bytes (read_at (r ∷ rs) k).tokens (read_at (r ∷ rs) k).tree
    each r first rs more zero l = first
    each r first rs more (suc k) l = more k (omega (arith, l))

pub clean_files_are_read : CleanFilesAreRead
clean_files_are_read files clean =
    let all = all_read files (λ f c. file_read files clean f c) in
    (all.0, record { same = all.1; tokens = λ k l. (all.2 k l).tokens_are; trees = all.2 })
