use Rattle.std.proofs.Common.{◌≡◌, ℕ, Some, ap, subst, ◌∙◌, inl}
use Rattle.proto_desc_affected.specs.Checked.{IsElsewhere}
use Rattle.proto_names.specs.Linking.{name_text}
use Rattle.proto_desc_affected.proofs.marks.is_meant_still.Goals as goal

pub returns-then-is_elsewhere : goal.returns-then-is_elsewhere
returns-then-is_elsewhere c = λ there places marked files ks still.
    (let l = c.args.link.now in
    record {
      text = subst (λ (row : ℕ). name_text l row ≡ Some c.deref.result.now) c.symbol-name.ensures (c.has_text.ensures c.if-has_text.true) ∙ ap Some c.deref.ensures;
      settled = inl (subst (IsElsewhere places l) c.symbol-name.ensures (c.is_elsewhere.ensures there places marked));
    })
