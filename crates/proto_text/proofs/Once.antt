-- A text has one list of tokens, and edits put one text (for the crates above).
use Rattle.std.proofs.Common.{◌≡◌, ℕ, ◌+◌, List, [], ◌∷◌, ◌++◌, length, refl, sym, ap, subst, ◌∙◌, arith, length-append}
use Rattle.proto_text.specs.Common.{Edit, Puts, old_len, new_len, Profile, OneTokenList, NoFaultWithTokens, NoFaultWithTokensIn, TokensOfText, TokensAreWritten}
use Rattle.proto_text.proofs.EditLaws.{cut}
use Rattle.proto_base.specs.declared.profile.Profile.TheVariants as profile
use Rattle.proto_text.proofs.Sequence.{all_allowed, only_tokens, no_fault}

pub one_token_list : OneTokenList
one_token_list text a b x y = only_tokens profile.AsWritten text a y.0 (x.0, (x.1, all_allowed x.0), x.2) (y.1, all_allowed y.0) ∙ sym y.2

pub no_fault_with_tokens_in : (p : Profile) → NoFaultWithTokensIn p
no_fault_with_tokens_in p text tokens offset fault are at = no_fault p text are.0 offset fault are.1 at

pub no_fault_with_tokens : NoFaultWithTokens
no_fault_with_tokens = no_fault_with_tokens_in profile.Core

-- tokens of a language are the tokens of the text
pub tokens_of_text : TokensOfText
tokens_of_text p text tokens h = (h.0, h.1.0, h.2)

pub tokens_are_written : TokensAreWritten
tokens_are_written text tokens h = (h.0, (h.1, all_allowed h.0), h.2)

pub puts_once : (from : ℕ) (text a b : List ℕ) (es : List Edit) → Puts from text es a → Puts from text es b → a ≡ b
puts_once from text a b [] p q = p ∙ sym q
puts_once from text a b (e ∷ es) p q =
    let same = cut p.0 (e.old ++ p.1) q.0 (e.old ++ q.1) (sym p.3.0 ∙ q.3.0) (omega (arith, p.3.1, q.3.1)) in
    let rest = cut e.old p.1 e.old q.1 same.1 refl in
    let more = puts_once (e.at + length e.old) p.1 p.2 q.2 es p.5 (subst (λ (z : List ℕ). Puts (e.at + length e.old) z es q.2) (sym rest.1) q.5) in
    p.4 ∙ ap (λ (z : List ℕ). z ++ (e.new ++ p.2)) same.0 ∙ ap (λ (z : List ℕ). q.0 ++ (e.new ++ z)) more ∙ sym q.4

-- the length after a put
pub puts_length : (from : ℕ) (text new : List ℕ) (es : List Edit) → Puts from text es new → length new + old_len es ≡ length text + new_len es
puts_length from text new [] p = let e = ap length p in omega (arith, e)
puts_length from text new (e ∷ es) p =
    let a = ap length p.3.0 ∙ length-append p.0 (e.old ++ p.1) ∙ ap (λ (x : ℕ). length p.0 + x) (length-append e.old p.1) in
    let b = ap length p.4 ∙ length-append p.0 (e.new ++ p.2) ∙ ap (λ (x : ℕ). length p.0 + x) (length-append e.new p.2) in
    let more = puts_length (e.at + length e.old) p.1 p.2 es p.5 in
    let old : old_len (e ∷ es) ≡ length e.old + old_len es = refl in
    let now : new_len (e ∷ es) ≡ length e.new + new_len es = refl in
    omega (arith, a, b, more, old, now)
