use Rattle.std.proofs.Common.{◌≡◌, List, [], map, length, refl, sym, ap, ◌∙◌, true≢false, eqb-true, eq-eqb}
use Rattle.proto_base.proofs.Common.{nil_from_length, on_ok_weaker}
use Rattle.proto_descriptors_json.proofs.Sending.{listed, list_absent, any_sent, map_some}
use Rattle.proto_descriptors_json.proofs.members.put_list.Goals as goal

pub returns : goal.returns
returns g c =
    let text = g.T.ToJson.text in
    let values = c.args.values.now in
    let some = λ (none : values ≡ []). true≢false (sym (c.is_empty.ensures ∙ eq-eqb _ 0 (ap length none)) ∙ c.if-is_empty.false) in
    on_ok_weaker c.end_seq.result (λ ends.
    any_sent c.args.key.now _ (map text values) (map_some text values some) c.in_ok-key.ensures c.in_ok-begin_seq.ensures c.in_ok-send_each.ensures ends)
    c.end_seq.ensures

pub returns-then-is_empty : goal.returns-then-is_empty
returns-then-is_empty g c =
    let none = nil_from_length c.args.values.now (eqb-true _ 0 (sym c.is_empty.ensures ∙ c.if-is_empty.true)) in
    listed (ap (λ (xs : List _). map g.T.ToJson.text xs) (sym none)) (list_absent c.args.key.now refl)
