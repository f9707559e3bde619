use Rattle.std.proofs.Common.{ℕ, List, Bor, option_map, sym, ap, ◌∙◌, true≢false}
use Rattle.proto_names_at.specs.NamesAt.{at_place}
use Rattle.proto_names_at.proofs.DeclaredNames.{its_text, no_text, not_its_text}
use Rattle.proto_names_at.proofs.NamedTargets.{declared_here}
use Rattle.proto_names_at.proofs.declared.if_declared.Goals as goal

pub returns-in_default : goal.returns-in_default
returns-in_default c = λ reads are n.
    (let said = λ (x : Bor (List ℕ)). x.now in
    no_text c.args.linked.now.files reads (at_place c.args.place) (option_map said c.args.name) n (ap (option_map said) c.in_default.is))

pub returns-then-is_at : goal.returns-then-is_at
returns-then-is_at c =
    let is = rw c.in-Some-2.is at c.in_ok-target.ensures.some in
    λ reads are n.
    (let said = λ (x : Bor (List ℕ)). x.now in
    let here = declared_here c.args.linked.now.files c.files.ensures.clean.clean c.in-Some.name.now c.in-Some-2.target is.0 is.1 (at_place c.args.place) c.is_at.result c.is_at.ensures reads are in
    its_text c.args.linked.now.files reads (at_place c.args.place) (option_map said c.args.name) n c.in-Some.name.now (ap (option_map said) c.in-Some.is) (here.0 c.if-is_at.true))

pub returns-else-is_at : goal.returns-else-is_at
returns-else-is_at c =
    let is = rw c.in-Some-2.is at c.in_ok-target.ensures.some in
    λ reads are n.
    (let said = λ (x : Bor (List ℕ)). x.now in
    let here = declared_here c.args.linked.now.files c.files.ensures.clean.clean c.in-Some.name.now c.in-Some-2.target is.0 is.1 (at_place c.args.place) c.is_at.result c.is_at.ensures reads are in
    not_its_text c.args.linked.now.files reads (at_place c.args.place) (option_map said c.args.name) n c.in-Some.name.now (ap (option_map said) c.in-Some.is) (λ d. true≢false (sym (here.1 d) ∙ c.if-is_at.false)))

pub returns-in-None : goal.returns-in-None
returns-in-None c =
    let never = rw c.in-None.is at c.in_ok-target.ensures.none in
    λ reads are n.
    (let said = λ (x : Bor (List ℕ)). x.now in
    not_its_text c.args.linked.now.files reads (at_place c.args.place) (option_map said c.args.name) n c.in-Some.name.now (ap (option_map said) c.in-Some.is) (λ d. never reads are (d.0, d.1)))
