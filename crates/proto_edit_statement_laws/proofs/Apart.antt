-- No field that is deleted is what comes in its place, told by its tokens.
use Rattle.std.proofs.Common.{◌≡◌, ◌≢◌, ℕ, suc, ◌+◌, ◌-◌, true, Option, Some, None, List, [], ◌∷◌, ◌++◌, length, take, drop, map, codes, refl, sym, ap, ap₂, subst, ◌∙◌, arith, length-append, append_assoc, length-take, length-drop, length-take-le}
use Rattle.std.proofs.lemmas.List.{length-map}
use Rattle.proto_text.specs.declared.kind.TokenKind.TheVariants.{Word, Punctuation}
use Rattle.proto_text.specs.declared.lexer.Token.{Token}
use Rattle.proto_text.proofs.Common.{Edit, Puts, moved, AreTokens, Lexeme, lexeme_at, one_token_list}
use Rattle.proto_tree.specs.declared.class.Class.TheVariants as class
use Rattle.proto_tree.specs.declared.class.Expected.TheVariants as want
use Rattle.proto_tree.specs.declared.context.Context.TheVariants as context
use Rattle.proto_tree.specs.declared.piece.Statement.{Statement}
use Rattle.proto_tree.specs.declared.piece.Statement.TheVariants as statement
use Rattle.proto_tree.specs.declared.tree.FieldType.{FieldType}
use Rattle.proto_tree.specs.declared.tree.FieldType.TheVariants as field_type
use Rattle.proto_tree.specs.declared.tree.Separated.{Separated}
use Rattle.proto_tree.proofs.Common.{fits, Mark, Fit, mark, only, flat_option, flat_type, flat_words, flat_statement, Move, shift, ReadsIn, Tree, End, Leaf, flat, class_by, classes_in, trees_are_numbered_in}
use Rattle.proto_edit_statement_laws.proofs.Common.{IsDeleted, IsFieldOf, StandsAt, deletion, first_token, next_token, own, without, reservation_tokens, semicolon_token, token_of_text, around, found, close_at, closed, through}
use Rattle.proto_tree.specs.Words.{class_as}
use Rattle.proto_base.specs.declared.profile.Profile.{Profile}
use Rattle.proto_base.specs.declared.profile.Profile.TheVariants.{AsWritten, Core}
use Rattle.proto_tree.specs.declared.class.Class.{Class}

-- ---- a text that is put as it was

same_text : (text result : List ℕ) (e : Edit) → Puts 0 text (e ∷ []) result → e.old ≡ e.new → result ≡ text
same_text text result e h same = h.4 ∙ ap₂ (λ (x y : List ℕ). h.0 ++ (x ++ y)) (sym same) h.5 ∙ sym h.3.0

-- so its tokens are those it had
pub same_tokens : (text result : List ℕ) (e : Edit) (tokens after : List Token) → AreTokens text tokens → AreTokens result after → Puts 0 text (e ∷ []) result → e.old ≡ e.new → map (lexeme_at text) tokens ≡ map (lexeme_at result) after
same_tokens text result e tokens after are were h same =
    let is = same_text text result e h same in
    ap₂ (λ (x : List ℕ) (y : List Token). map (lexeme_at x) y) (sym is) (sym (one_token_list text after tokens (subst (λ (x : List ℕ). AreTokens x after) is were) are))

-- ---- the token of a mark

-- the token that a mark is read of
record IsReadOf (profile : Profile) (m : Mark) (before : ℕ) (n : ℕ) (ls : List Lexeme) : Type 0 where
  token : Lexeme
  front : List Lexeme
  back : List Lexeme
  parts : ls ≡ front ++ (token ∷ back)
  long : length front ≡ before
  fit : fits m.want (class_as profile (class_by token.kind token.text)) ≡ true
  at : n + before ≡ m.at

read_of : (profile : Profile) (front : List Mark) (m : Mark) (back : List Mark) (n : ℕ) (ls : List Lexeme) → Fit (front ++ (m ∷ back)) (classes_in profile n ls) → IsReadOf profile m (length front) n ls
read_of profile [] m back n [] h = absurd h
read_of profile [] m back n (l ∷ ls) h = record { token = l; front = []; back = ls; parts = refl; long = refl; fit = h.0; at = omega (arith, h.1) }
read_of profile (k ∷ front) m back n [] h = absurd h
read_of profile (k ∷ front) m back n (l ∷ ls) h =
    let r = read_of profile front m back (suc n) ls h.2 in
    record { token = r.token; front = l ∷ r.front; back = r.back; parts = ap (λ (z : List Lexeme). l ∷ z) r.parts; long = ap suc r.long; fit = r.fit; at = omega (arith, r.at) }

same_at : (a : List Lexeme) (x : Lexeme) (b c : List Lexeme) (y : Lexeme) (d : List Lexeme) → a ++ (x ∷ b) ≡ c ++ (y ∷ d) → length a ≡ length c → x ≡ y
same_at [] x b [] y d e long = cc
same_at [] x b (k ∷ c) y d e long = absurd (omega (arith, long))
same_at (l ∷ a) x b [] y d e long = absurd (omega (arith, long))
same_at (l ∷ a) x b (k ∷ c) y d e long = let tail : a ++ (x ∷ b) ≡ c ++ (y ∷ d) = cc in same_at a x b c y d tail (omega (arith, long))

-- ---- how a field begins

-- the first mark of a field is no `reserved`
record BeginsApart (ms : List Mark) : Type 0 where
  first : Mark
  rest : List Mark
  parts : ms ≡ first ∷ rest
  apart : fits first.want class.Reserved ≡ true → ⊥

words_apart : (dot : Option ℕ) (words : Separated ℕ) (more : List Mark) → BeginsApart (flat_words dot words ++ more)
words_apart None words more = record { first = mark (want.One class.Name) words.first; rest = _; parts = refl; apart = λ h. cc }
words_apart (Some i) words more = record { first = mark (want.One class.Dot) i; rest = _; parts = refl; apart = λ h. cc }

field_apart : (label : Option ℕ) (k : FieldType) (more : List Mark) → BeginsApart (flat_option (only want.Label) label ++ (flat_type k ++ more))
field_apart (Some i) k more = record { first = mark want.Label i; rest = flat_type k ++ more; parts = refl; apart = λ h. cc }
field_apart None (field_type.Scalar i) more = record { first = mark (want.One class.Scalar) i; rest = more; parts = refl; apart = λ h. cc }
field_apart None (field_type.Reference r) more = words_apart r.dot r.words more

begins_apart : (s : Statement) (name number : ℕ) → IsFieldOf s name number → BeginsApart (flat_statement s)
begins_apart (statement.Field f) name number is = field_apart f.label f.kind _
begins_apart (statement.MapField f) name number is = record { first = mark (want.One class.Map) f.keyword; rest = _; parts = refl; apart = λ h. cc }
begins_apart whole name number is = absurd is

reserved_is : (profile : Profile) → class_as profile (class_by Word (codes "reserved")) ≡ class.Reserved
reserved_is AsWritten = refl
reserved_is Core = refl

-- ---- the two deletions

module _ (profile : Profile) (text : List ℕ) (tokens : List Token) (t : Tree) (s : Statement) (number : ℕ) (name result : List ℕ) (after : List Token) (u : Tree) (reads : ReadsIn profile text tokens t) where
  -- right in a message, the first token tells
  pub from_message : (field value : ℕ) → IsFieldOf s field value → IsDeleted profile text tokens t s None number name result after u → (deletion text tokens s None number name).old ≢ (deletion text tokens s None number name).new
  from_message field value is d e =
      let all : List Lexeme = map (lexeme_at text) tokens in
      let f : ℕ = first_token s in
      let ms : List Lexeme = without s all in
      let g : Move = moved f f (length (own s all)) in
      let same : all ≡ take f ms ++ (reservation_tokens number name ++ drop f ms) = same_tokens text result (deletion text tokens s None number name) tokens after reads.tokens_are d.reads.tokens_are d.put e ∙ d.new.tokens in
      let ar = around g End (Leaf s End) context.Start d.middle t d.old.tree in
      let b = begins_apart s field value is in
      let front : List Mark = map (shift g) ar.front in
      let rest : List Mark = (b.rest ++ []) ++ map (shift g) ar.back in
      let marks : flat t ≡ front ++ (b.first ∷ rest) = ar.new ∙ ap (λ (z : List Mark). front ++ ((z ++ []) ++ map (shift g) ar.back)) b.parts in
      let r = read_of profile front b.first rest 0 all (subst (λ (z : List Mark). Fit z (classes_in profile 0 all)) marks reads.spells.fits) in
      let place : length r.front ≡ length (take f ms) = r.long ∙ length-map ar.front (shift g) ∙ ar.long ∙ d.old.at ∙ sym (length-take-le f ms d.new.within) in
      let read : r.token ≡ token_of_text Word (codes "reserved") = same_at r.front r.token r.back (take f ms) (token_of_text Word (codes "reserved")) (drop 1 (reservation_tokens number name) ++ drop f ms) (sym r.parts ∙ same) place in
      b.apart (subst (λ (k : Class). fits b.first.want k ≡ true) (reserved_is profile) (subst (λ (x : Lexeme). fits b.first.want (class_as profile (class_by x.kind x.text)) ≡ true) read r.fit))

  -- in a oneof, the last one
  pub from_oneof : (close : ℕ) → StandsAt s (Some close) t → IsDeleted profile text tokens t s (Some close) number name result after u → (deletion text tokens s (Some close) number name).old ≢ (deletion text tokens s (Some close) number name).new
  from_oneof close stands d e =
      let all : List Lexeme = map (lexeme_at text) tokens in
      let f : ℕ = first_token s in
      let q : ℕ = next_token s in
      let ms : List Lexeme = without s all in
      let p : ℕ = suc close - (q - f) in
      let res : List Lexeme = reservation_tokens number name in
      let same : all ≡ take p ms ++ (res ++ drop p ms) = same_tokens text result (deletion text tokens s (Some close) number name) tokens after reads.tokens_are d.reads.tokens_are d.put e ∙ d.new.tokens in
      let fd = found profile text tokens t s reads stands in
      let next = fd.next in
      let at = fd.at in
      let within = fd.within in
      let cl = closed t stands in
      let c = cl.0 in
      let less = cl.1 in
      let long = c.long in
      let closes : suc close ≡ through stands = close_at t close (through stands) (trees_are_numbered_in profile t all reads.spells) c in
      let many : length all ≡ length tokens = length-map tokens (lexeme_at text) in
      let parts_long : length ms ≡ length (take f all) + length (drop q all) = length-append (take f all) (drop q all) in
      let six : length all ≡ 6 + length ms = length_of all p ms res same in
      let size : q - f ≡ 6 = omega (arith, six, parts_long, length-take f all, length-drop q all, many, within, next) in
      let r = read_of profile c.front (mark (want.One class.Close) close) c.back 0 all (subst (λ (z : List Mark). Fit z (classes_in profile 0 all)) c.parts reads.spells.fits) in
      let place : length r.front ≡ length (take p ms ++ take 5 res) = omega (arith, r.long, long, closes, less, at, next, size, length-append (take p ms) (take 5 res), length-take-le p ms d.new.within) in
      let regrouped : all ≡ (take p ms ++ take 5 res) ++ (semicolon_token ∷ drop p ms) = same ∙ sym (append_assoc (take p ms) (take 5 res) (semicolon_token ∷ drop p ms)) in
      let read : r.token ≡ semicolon_token = same_at r.front r.token r.back (take p ms ++ take 5 res) semicolon_token (drop p ms) (sym r.parts ∙ regrouped) place in
      no_close profile (subst (λ (x : Lexeme). fits (want.One class.Close) (class_as profile (class_by x.kind x.text)) ≡ true) read r.fit)
    where
      no_close : (profile : Profile) → fits (want.One class.Close) (class_as profile (class_by Punctuation (codes ";"))) ≡ true → ⊥
      no_close AsWritten h = cc
      no_close Core h = cc

      length_of : (all : List Lexeme) (p : ℕ) (ms res : List Lexeme) → all ≡ take p ms ++ (res ++ drop p ms) → length all ≡ length res + length ms
      length_of all p ms res e = omega (arith, ap (λ (z : List Lexeme). length z) e, length-append (take p ms) (res ++ drop p ms), length-append res (drop p ms), length-take p ms, length-drop p ms)
