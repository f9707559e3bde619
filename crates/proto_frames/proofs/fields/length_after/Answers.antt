use Rattle.std.proofs.Common.{◌≡◌, ◌-◌, ℕ, true, false, drop, take, take_all, length, length-drop, is_some, Option, Some, None, ap, sym, ◌∙◌, true≢false, arith}
use Rattle.proto_base.specs.Texts.{Text}
use Rattle.proto_frames.specs.Frames.{field, first_length, is_length, is_named, named_field, number, or_malformed}
use Rattle.proto_frames.specs.declared.fault.FrameFault.TheVariants.{Malformed}
use Rattle.std.specs.Prelude.{Err}
use Rattle.proto_frames.proofs.Lines.{cond_true}
use Rattle.proto_frames.proofs.fields.length_after.Goals as goal

-- the first field of the length says its number
first_field : (len : Option ℕ) (line : Text) (found : Option ℕ) → is_named line ≡ true → is_length line ≡ true → is_some len ≡ false → found ≡ number (take (length line - 16) (drop 16 line))
    → or_malformed found ≡ field len line
first_field None line found named long none is =
    let rest : length (drop 16 line) ≡ length line - 16 = length-drop 16 line in
    ap or_malformed (is ∙ ap number (take_all (length line - 16) (drop 16 line) (omega (arith, rest))))
    ∙ sym (cond_true (is_named line) (named_field None line) (Err Malformed) named ∙ cond_true (is_length line) (first_length None line) _ long)
first_field (Some n) line found named long none is = absurd (true≢false none)

pub returns-in-Some : goal.returns-in-Some
returns-in-Some c =
    ap or_malformed (sym c.in-Some.is)
    ∙ first_field c.args.len c.args.line.now c.number.result (sym c.if-not-is_named.ensures) (sym c.if-not-is_length.ensures.value) (sym c.if-is_some.ensures) c.number.ensures

pub returns-in-None : goal.returns-in-None
returns-in-None c =
    ap or_malformed (sym c.in-None.is)
    ∙ first_field c.args.len c.args.line.now c.number.result (sym c.if-not-is_named.ensures) (sym c.if-not-is_length.ensures.value) (sym c.if-is_some.ensures) c.number.ensures
