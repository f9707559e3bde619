use Rattle.std.proofs.Common.{◌≡◌, ◌++◌, [], List, map, Result, Ok, Err, OnOk, sym, ap, ◌∙◌}
use Rattle.proto_base.proofs.Common.{IfOk-weaker}
use Rattle.proto_base.specs.declared.profile.Profile.{Profile}
use Rattle.proto_desc_extensions.specs.Common.{HasSeen, Told, again, outside_ranges, taken_before, told_by}
use Rattle.proto_desc_extensions.proofs.flaws.flaws_in.Goals as goal

on_ok : {T E P : Type 0} (r : Result T E) → P → OnOk r P
on_ok (Ok x) p = p
on_ok (Err e) p = tt

pub returns-in-Core-clause-flaws : goal.returns-in-Core-clause-flaws
returns-in-Core-clause-flaws c = λ before h.
    (let ts : List Told = map told_by c.args.extensions.now in
    c.in_ok-found.ensures.flaws before h
    ∙ ap (λ (p : Profile). outside_ranges ts ++ again (taken_before p before) ts) (sym c.in-Core.is))

pub returns-in-AsWritten-clause-flaws : goal.returns-in-AsWritten-clause-flaws
returns-in-AsWritten-clause-flaws c =
    let ts : List Told = map told_by c.args.extensions.now in
    IfOk-weaker c.own_flaws.result (λ found. found.items ≡ outside_ranges ts ++ again [] ts) (λ found. (before : List Told) → HasSeen c.args.seen.now before → found.items ≡ outside_ranges ts ++ again (taken_before c.args.profile before) ts)
    (λ found e before h. e ∙ ap (λ (p : Profile). outside_ranges ts ++ again (taken_before p before) ts) (sym c.in-AsWritten.is)) c.own_flaws.ensures

pub returns-in-AsWritten-clause-seen : goal.returns-in-AsWritten-clause-seen
returns-in-AsWritten-clause-seen c = on_ok c.own_flaws.result c.in_ok-found.ensures.seen
