use Rattle.std.proofs.Common.{◌≡◌, ◌↔◌, ℕ, List, Bor, Option, Some, option_map, ap, subst}
use Rattle.proto_names_at.specs.NamesAt.{RefersToName, at_place}
use Rattle.proto_names_at.proofs.NamedTargets.{aimed_has_one}
use Rattle.proto_names_at.proofs.ReferredNames.{none_referred, not_referred, one_referred}
use Rattle.proto_names_at.proofs.references.referred_name.Goals as goal

pub returns-in_default : goal.returns-in_default
returns-in_default c = λ reads are.
    (let said = λ (x : Bor (List ℕ)). x.now in
    none_referred c.args.linked.now.files reads (at_place c.args.place) (option_map said c.in_ok-name.field-0) (c.in_ok-name.ensures reads are) (ap (option_map said) c.in_default.is))

pub returns-in-Some-2 : goal.returns-in-Some-2
returns-in-Some-2 c =
    let aimed = rw c.in-Some-2.is at c.in_ok-target.ensures.some in
    λ reads are name.
    (let files = c.args.linked.now.files in
    let a = at_place c.args.place in
    let said = λ (x : Bor (List ℕ)). x.now in
    let is = ap (option_map said) c.in-Some.is in
    let has = aimed_has_one files c.in-Some.name.now c.in-Some-2.field-0 aimed.0 aimed.1 reads are in
    subst (λ (o : Option (List ℕ)). (o ≡ Some name) ↔ RefersToName files reads a name) is
    (one_referred files reads a (option_map said c.in_ok-name.field-0) (c.in_ok-name.ensures reads are) c.in-Some.name.now is has name))

pub returns-in-None : goal.returns-in-None
returns-in-None c =
    let never = rw c.in-None.is at c.in_ok-target.ensures.none in
    λ reads are.
    (let files = c.args.linked.now.files in
    let said = λ (x : Bor (List ℕ)). x.now in
    not_referred files reads (at_place c.args.place) (option_map said c.in_ok-name.field-0) (c.in_ok-name.ensures reads are) c.in-Some.name.now (ap (option_map said) c.in-Some.is) (never reads are))
