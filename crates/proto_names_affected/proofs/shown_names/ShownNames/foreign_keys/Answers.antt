use Rattle.std.proofs.Common.{ℕ, ◌<◌, length, sym, subst, inl, inr}
use Rattle.std.specs.List.{Contains}
use Rattle.std.proofs.lemmas.List.Elements.{All-contains, All-weaker}
use Rattle.std.proofs.lemmas.Result.{IfOk-weaker}
use Rattle.proto_names_affected.proofs.Sights.{AreRows}
use Rattle.proto_names_affected.proofs.shown_names.ShownNames.foreign_keys.Goals as goal

pub last_word_keys-requires-clause-within : goal.last_word_keys-requires-clause-within
last_word_keys-requires-clause-within c =
    let packages = c.args.self.now.packages.keys in
    let within = λ (row : ℕ). row < length c.args.table.now.rows.items in
    subst (AreRows c.args.table.now) (sym c.deref.ensures.value)
    (All-weaker (Contains packages) within (λ row there. All-contains within packages row c.requires.within there) c.in_ok-asked.asked.items c.in_ok-asked.ensures.only)

pub returns : goal.returns
returns c =
    IfOk-weaker c.last_word_keys.result _ _
    (λ keys has row there. elim (c.in_ok-asked.ensures.each row there) [
      | inl own ↦ inl (c.packages_of.ensures row own)
      | inr asked ↦ inr (λ front word plain named. has row front word (subst (λ rows. Contains rows row) (sym c.deref.ensures.value) asked) plain named)
    ])
    c.last_word_keys.ensures
