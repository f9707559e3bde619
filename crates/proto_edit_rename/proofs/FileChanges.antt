-- The change of a file by the word at its marked tokens.
use Rattle.std.proofs.Common.{◌≡◌, ℕ, zero, suc, ◌+◌, ◌-◌, ◌*◌, ◌<◌, ◌≤◌, Bool, true, false, List, [], ◌∷◌, length, get_or, map, Some, None, refl, sym, ap, subst, ◌∙◌, inl, inr, arith, replicate, ◌==◌, Contains, string_bytes, eqb-true, eq-eqb}
use Rattle.proto_base.proofs.Common.{list_any, cases_Bool, both_ways, nil_from_length, text_limit, any_from, any_to}
use Rattle.proto_text.specs.declared.lexer.Token.{Token}
use Rattle.proto_text.proofs.Common.{new_len, old_len, token_edits, AreTokens, one_token_list}
use Rattle.proto_files.proofs.Common.{FileOf, file_at, ReadOf, AreRead, read_at}
use Rattle.proto_edit_entries.specs.Entries.{ChangeOf, change_of}
use Rattle.proto_edit_entries.specs.declared.entry.Change.{Change}
use Rattle.proto_edit_rename_laws.proofs.Common.{change_by, IsRewordedTooLong, splices_in, NewWords, words_of_file}
use Rattle.proto_edit_rename.specs.Common.{TooLarge, bytes_in, IsChangeAt, IsRewordFault, marked_from, marked_tokens, PutsAt, StandInOrder, word_put}
use Rattle.proto_edit_rename.proofs.PlacedWords.{edits_are, marked_length, marked_there, there_marked}
use Rattle.proto_edit_rename.proofs.TokensInOrder.{marked_in_order, put_new_len, put_old_len, tokens_in_order}

blank : (n i : ℕ) → get_or (replicate n false) i false ≡ false
blank zero i = refl
blank (suc n) zero = refl
blank (suc n) (suc i) = blank n i

as_many : (n : ℕ) → length (replicate n false) ≡ n
as_many zero = refl
as_many (suc n) = ap suc (as_many n)

-- the tokens at these places
abbrev pub chosen : List Token → List ℕ → List Token
chosen tokens places = marked_tokens tokens (marked_from (replicate (length tokens) false) places)

-- at no places none
pub none_chosen : (tokens : List Token) → chosen tokens [] ≡ []
none_chosen [] = refl
none_chosen (t ∷ ts) = none_chosen ts

pub marks_are_as_many : (tokens : List Token) (places : List ℕ) → length (marked_from (replicate (length tokens) false) places) ≡ length tokens
marks_are_as_many tokens places = marked_length (replicate (length tokens) false) places ∙ as_many (length tokens)

pub chosen_in_order : (bytes : List ℕ) (tokens : List Token) (places : List ℕ) → AreTokens bytes tokens → StandInOrder 0 (length bytes) (chosen tokens places)
chosen_in_order bytes tokens places are = marked_in_order 0 (length bytes) tokens (marked_from (replicate (length tokens) false) places) (tokens_in_order bytes tokens are)

same_change : (a b : ChangeOf) → a.path ≡ b.path → a.before ≡ b.before → a.after ≡ b.after → a.splices ≡ b.splices → a ≡ b
same_change a b p f t s = λ i. record { path = p i; before = f i; after = t i; splices = s i }

module _ (files : List FileOf) (file : ℕ) (within : file < length files) (tokens : List Token) (lexed : AreTokens (file_at files file).bytes tokens) (places to : List ℕ) where
  abbrev bytes : List ℕ
  bytes = (file_at files file).bytes

  abbrev marks : List Bool
  marks = marked_from (replicate (length tokens) false) places

  long : length (replicate (length tokens) false) ≡ length tokens
  long = as_many (length tokens)

  -- the splices of a change of words are the words at the marked tokens
  module _ (reads : List ReadOf) (are : AreRead files reads) (c : NewWords) (puts : PutsAt c file places to) where
    on : (i : ℕ) → i < length tokens → get_or marks i false ≡ true → words_of_file c file (0 + i) ≡ Some to
    on i l h = ap (words_of_file c file) {x = 0 + i} {y = i} (omega arith) ∙ elim (cases_Bool (list_any (λ p. p == i) places)) [
      | inl t ↦ (let r = any_to (λ p. p == i) places t in puts.placed i (subst (Contains places) (eqb-true r.0 i r.2) r.1))
      | inr f ↦ absurd (both_ways (get_or marks i false) (there_marked (replicate (length tokens) false) places i (blank (length tokens) i) (λ d. both_ways (list_any (λ p. p == i) places) f (any_from (λ p. p == i) places i d (eq-eqb i i refl)))) h)
    ]

    off : (i : ℕ) → i < length tokens → get_or marks i false ≡ false → words_of_file c file (0 + i) ≡ None
    off i l h = ap (words_of_file c file) {x = 0 + i} {y = i} (omega arith)
        ∙ puts.others i (λ d. both_ways (get_or marks i false) h (marked_there (replicate (length tokens) false) places i (omega (arith, l, long)) d))

    splices_are : splices_in c files reads file ≡ map (word_put bytes to) (chosen tokens places)
    splices_are =
        ap (λ (z : List Token). token_edits bytes (words_of_file c file) 0 z) (one_token_list bytes (read_at reads file).tokens tokens (are.tokens file within) lexed)
        ∙ edits_are bytes to (words_of_file c file) 0 tokens marks (marks_are_as_many tokens places) on off

    module _ (ts : List Token) (is : ts ≡ chosen tokens places) where
      splices : splices_in c files reads file ≡ map (word_put bytes to) ts
      splices = splices_are ∙ ap (map (word_put bytes to)) (sym is)

      order : StandInOrder 0 (length bytes) ts
      order = subst (StandInOrder 0 (length bytes)) (sym is) (chosen_in_order bytes tokens places lexed)

      old : old_len (splices_in c files reads file) ≡ bytes_in ts
      old = ap old_len splices ∙ put_old_len bytes to 0 ts order

      new : new_len (splices_in c files reads file) ≡ length ts * length to
      new = ap new_len splices ∙ put_new_len bytes to ts

      too_long : text_limit + bytes_in ts < length bytes + length ts * length to → IsRewordedTooLong c files reads file
      too_long h = let a = old in let b = new in omega (arith, a, b, h)

      not_too_long : length bytes + length ts * length to ≤ text_limit + bytes_in ts → IsRewordedTooLong c files reads file → ⊥
      not_too_long h k = let a = old in let b = new in omega (arith, a, b, h, k)

  -- ---- what is answered

  pub none_made : (ts : List Token) → ts ≡ chosen tokens places → length ts ≡ 0 → length bytes ≤ text_limit → IsChangeAt files file places to None
  none_made ts is none short = λ reads are c puts.
      (let empty : ts ≡ [] = nil_from_length ts none in
      record {
        change = sym (ap (change_by (file_at files file)) (splices reads are c puts ts is ∙ ap (map (word_put bytes to)) empty));
        short = not_too_long reads are c puts [] (sym empty ∙ is) (omega (arith, short));
      })

  pub too_large_made : (ts : List Token) → ts ≡ chosen tokens places → text_limit + bytes_in ts < length bytes + length ts * length to → IsRewordFault files file places to TooLarge
  too_large_made ts is h = λ reads are c puts. too_long reads are c puts ts is h

  one_change : (ts : List Token) → 0 < length ts → (x : ChangeOf) → x.path ≡ (file_at files file).path → x.before ≡ length bytes → x.after ≡ (length bytes + new_len (map (word_put bytes to) ts)) - old_len (map (word_put bytes to) ts) → x.splices ≡ map (word_put bytes to) ts
      → x ∷ [] ≡ change_by (file_at files file) (map (word_put bytes to) ts)
  one_change [] some x p f t s = absurd (omega (arith, some))
  one_change (t0 ∷ ts) some x p f t s =
      let es = map (word_put bytes to) (t0 ∷ ts) in
      let y : ChangeOf = record { path = (file_at files file).path; before = length bytes; after = (length bytes + new_len es) - old_len es; splices = es } in
      ap (λ (z : ChangeOf). z ∷ []) (same_change x y p f t s)

  pub one_made : (ts : List Token) → ts ≡ chosen tokens places → 0 < length ts → length bytes + length ts * length to ≤ text_limit + bytes_in ts
      → (x : Change) → string_bytes x.path ≡ (file_at files file).path → x.before ≡ length bytes → x.after ≡ (length bytes + length ts * length to) - bytes_in ts → x.splices ≡ map (word_put bytes to) ts → IsChangeAt files file places to (Some x)
  one_made ts is some fits x path before after made = λ reads are c puts.
      (let o = put_old_len bytes to 0 ts (subst (StandInOrder 0 (length bytes)) (sym is) (chosen_in_order bytes tokens places lexed)) in
      let n = put_new_len bytes to ts in
      record {
        change = one_change ts some (change_of x) path before (omega (arith, after, o, n)) made ∙ ap (change_by (file_at files file)) (sym (splices reads are c puts ts is));
        short = not_too_long reads are c puts ts is fits;
      })
