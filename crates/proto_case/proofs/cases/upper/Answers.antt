use Rattle.std.proofs.Common.{◌≡◌, List, ℕ, [], ◌∷◌, ◌++◌, true, false, ap, sym, ◌∙◌, if◌then◌else◌, arith, string_bytes, append-nil}
use Rattle.proto_base.proofs.Common.{chars_rest, encode_ascii}
use lib.Utf8.{encode}
use Rattle.proto_case.specs.Cases.{begins_word, upper}
use Rattle.proto_case.proofs.Uppers.{letter_step}
use Rattle.proto_case.proofs.cases.upper.Goals.{then-begins_word+in_ok-push, else-begins_word}
use Rattle.proto_case.proofs.cases.upper.Goals as goal

pub loop-c-preserved : goal.loop-c-preserved
loop-c-preserved c =
    let begun = string_bytes c.loop-c.words in
    let begins = begins_word c.loop-c.before c.in-Some.c (chars_rest c.next.new.self) in
    let rest = ap (begins_word c.loop-c.before c.in-Some.c) c.as_str.ensures in
    let marked : string_bytes c.if-begins_word.words ≡ begun ++ (if begins then 95 ∷ [] else []) = elim c.if-begins_word.branch [
      | then-begins_word+in_ok-push w ↦
          let is : begins ≡ true = sym rest ∙ sym w.if-begins_word.ensures in
          rw (w.words-is, is) (w.in_ok-push.ensures.bytes ∙ ap (λ (bs : List ℕ). begun ++ bs) (encode_ascii 95 (omega arith)))
      | else-begins_word w ↦
          let is : begins ≡ false = sym rest ∙ sym w.if-begins_word.ensures in
          rw (w.words-is, is) (sym (append-nil begun))
    ] in
    letter_step c.loop-c.before c.in-Some.c (upper c.args.name.now) begun (chars_rest c.loop-c.chars) (chars_rest c.next.new.self) (string_bytes c.if-begins_word.words) (string_bytes c.push-in-Some.new.self)
    c.in-Some.ensures.steps.0 marked (c.in_ok-push-2.ensures.bytes ∙ ap (λ (b : ℕ). string_bytes c.if-begins_word.words ++ encode b) c.to_ascii_uppercase.ensures.value) c.loop-c.invariant
