use Rattle.std.proofs.Common.{[], ◌∷◌, ◌++◌, slice_set, get_or, ◌∙◌, ap, sym, is_ok, if◌then◌else◌}
use Rattle.proto_base.specs.Undone.{undone}
use Rattle.proto_base.specs.declared.changes.Change.{Change}
use Rattle.proto_base.proofs.TakenBack.{changed_back}
use Rattle.proto_base.proofs.changes.change_at.Goals as goal

pub returns-clause-undone : goal.returns-clause-undone
returns-clause-undone g c =
    let xs = slice_set c.args.items.now.items c.args.place c.replace-was.new.dest in
    let noted : Change _ = record { place = c.args.place; was = c.replace-was.result } in
    ap (λ log. undone log xs)
    (c.push.ensures.items ∙ ap (λ r. if is_ok r then c.reserve.new.self.items ++ noted ∷ [] else c.reserve.new.self.items) c.unwrap.ensures ∙ ap (λ z. z ++ noted ∷ []) c.in_ok-reserve.ensures.items)
    ∙ changed_back c.args.log.now.items c.args.items.now.items c.args.place c.replace-was.new.dest c.replace-was.result
    (c.replace-was.ensures.value ∙ c.index_mut.ensures.value ∙ ap (λ d. get_or c.args.items.now.items c.args.place d) (sym c.replace-was.ensures.value))

pub returns-clause-noted : goal.returns-clause-noted
returns-clause-noted g c =
    let noted : Change _ = record { place = c.args.place; was = c.replace-was.result } in
    record {
      was = c.replace-was.result;
      stood = c.replace-was.ensures.value ∙ c.index_mut.ensures.value ∙ ap (λ d. get_or c.args.items.now.items c.args.place d) (sym c.replace-was.ensures.value);
      behind = c.push.ensures.items ∙ ap (λ r. if is_ok r then c.reserve.new.self.items ++ noted ∷ [] else c.reserve.new.self.items) c.unwrap.ensures ∙ ap (λ z. z ++ noted ∷ []) c.in_ok-reserve.ensures.items;
    }
