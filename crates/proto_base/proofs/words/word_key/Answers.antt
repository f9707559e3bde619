use Rattle.std.proofs.Common.{◌≡◌, ℕ, ◌+◌, get_or, refl, sym, ◌∙◌, ap, arith, take_all}
use Rattle.std.specs.Prelude.{◌*◌, ◌/◌, ◌^◌, ◌%◌}
use Rattle.std.proofs.Math.Nat.{add-mul-mod_self_right}
use Rattle.std.proofs.lemmas.List.Sums.{fold_more}
use Rattle.std.proofs.lemmas.Nat.{div-add-mod'}
use Rattle.proto_base.specs.Words.{word_key}
use Rattle.proto_base.proofs.words.word_key.Goals as goal

-- a sum of what is left of a number leaves what the sum of the number leaves
mod-add : (a b m : ℕ) → (a % m + b) % m ≡ (a + b) % m
mod-add a b m =
    let q = div-add-mod' a m in
    let whole : (a % m + b) + (a / m) * m ≡ a + b = omega arith in
    sym (add-mul-mod_self_right (a % m + b) (a / m) m) ∙ ap (λ k. k % m) whole

abbrev next : ℕ → ℕ → ℕ
next key byte = (key * 31 + byte) % 2 ^ 32

pub loop-byte-init : goal.loop-byte-init
unfolding word_key
loop-byte-init c = refl

pub loop-byte-preserved : goal.loop-byte-preserved
unfolding word_key
loop-byte-preserved c =
    let bytes = c.as_bytes-byte-items.result.now in
    mod-add (c.loop-byte.key * 31) c.from.result (2 ^ 32)
    ∙ ap (λ b. next c.loop-byte.key b) c.from.ensures
    ∙ ap (λ key. next key (get_or bytes c.loop-byte.byte-index 0)) c.loop-byte.invariant
    ∙ sym (fold_more next 0 bytes c.loop-byte.byte-index 0 c.loop-byte-test.true)

pub returns : goal.returns
returns c = c.loop-byte.invariant ∙ ap word_key (take_all c.loop-byte.byte-index c.as_bytes-byte-items.result.now c.loop-byte-test.false ∙ c.as_bytes-byte-items.ensures.value)
