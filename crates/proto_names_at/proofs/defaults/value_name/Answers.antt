use Rattle.std.proofs.Common.{ℕ, List, Bor, option_map, sym, ◌∙◌}
use Rattle.std.proofs.lemmas.Result.{IfOk-weaker}
use Rattle.proto_names_at.specs.NamesAt.{at_place}
use Rattle.proto_names_at.proofs.ValueNames.{inside, of_no_value, of_package, of_value}
use Rattle.proto_names_at.proofs.defaults.value_name.Goals as goal

pub returns-in_default : goal.returns-in_default
returns-in_default c = λ reads are enum plain said name.
    of_package c.args.linked.now.files reads are c.link.ensures.clean.clean c.args.linked.now.link (c.link.ensures.clean.link reads are) c.args.id.row enum plain said name (rw c.link.ensures.link at c.in_default.ensures.none) c.args.word.now

pub value_of_enum-requires : goal.value_of_enum-requires
value_of_enum-requires c =
    let e = (rw c.link.ensures.link at c.in-Some.ensures.some) in
    let reads = c.link.ensures.clean.reads in
    let are = c.link.ensures.clean.read in
    rw c.files.ensures.files (inside c.args.linked.now.files reads are c.link.ensures.clean.clean c.args.linked.now.link (c.link.ensures.clean.link reads are) c.args.id.row e.0 e.1 (at_place c.in-Some.place) e.3)

pub returns-in-Some-2 : goal.returns-in-Some-2
returns-in-Some-2 c =
    let e = (rw c.link.ensures.link at c.in-Some.ensures.some) in
    IfOk-weaker c.declared_name.result _ _ (λ found h. λ reads are enum plain said name.
    of_value c.args.linked.now.files reads are c.link.ensures.clean.clean c.args.linked.now.link (c.link.ensures.clean.link reads are) c.args.id.row enum plain said name e.0 e.1 e.2 (at_place c.in-Some.place) e.3 c.args.word.now
    c.in-Some-2.token (sym c.in-Some-2.is ∙ (rw c.files.ensures.files at c.in_ok-token.ensures) reads are) (option_map (λ (x : Bor (List ℕ)). x.now) found) (h reads are)) c.declared_name.ensures

pub returns-in-None : goal.returns-in-None
returns-in-None c =
    let e = (rw c.link.ensures.link at c.in-Some.ensures.some) in
    λ reads are enum plain said name.
    of_no_value c.args.linked.now.files reads are c.link.ensures.clean.clean c.args.linked.now.link (c.link.ensures.clean.link reads are) c.args.id.row enum plain said name e.0 e.1 e.2 (at_place c.in-Some.place) e.3 c.args.word.now
    (sym c.in-None.is ∙ (rw c.files.ensures.files at c.in_ok-token.ensures) reads are)
