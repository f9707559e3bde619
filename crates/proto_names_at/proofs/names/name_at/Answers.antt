use Rattle.std.proofs.Common.{◌≡◌, ◌↔◌, ℕ, List, Option, Bor, Some, option_map, sym, ap, ◌∙◌, subst, arith}
use Rattle.proto_files.specs.GivenFiles.{FileOf}
use Rattle.proto_names_rules.specs.Grown.{at}
use Rattle.proto_names_at.specs.NamesAt.{IsNameAt, StandsFor}
use Rattle.proto_names_at.proofs.StandingNames.{none_outside}
use Rattle.proto_names_at.proofs.names.name_at.Goals as goal

pub returns-then-file-len : goal.returns-then-file-len
returns-then-file-len c = none_outside c.args.files.now c.args.file c.args.token (omega (arith, c.len.ensures.len, c.if-file-len.true))

pub returns-in_ok-to_string-in-Some : goal.returns-in_ok-to_string-in-Some
returns-in_ok-to_string-in-Some c = λ reads are name.
    (let place = at c.args.file c.args.token in
    let found = option_map (λ (x : Bor (List ℕ)). x.now) c.in_ok-name.field-0 in
    let stands : IsNameAt c.args.files.now place found = subst (λ (fs : List FileOf). IsNameAt fs place found) c.new-linked.ensures.files c.in_ok-name.ensures in
    let same = ap (option_map (λ (x : Bor (List ℕ)). x.now)) c.in-Some.is ∙ ap (λ (t : List ℕ). Some t) (sym c.in_ok-to_string-in-Some.ensures.ok) in
    subst (λ (o : Option (List ℕ)). (o ≡ Some name) ↔ StandsFor c.args.files.now reads place name) same (stands reads are name))

pub returns-in-None : goal.returns-in-None
returns-in-None c = λ reads are name.
    (let place = at c.args.file c.args.token in
    let found = option_map (λ (x : Bor (List ℕ)). x.now) c.in_ok-name.field-0 in
    let stands : IsNameAt c.args.files.now place found = subst (λ (fs : List FileOf). IsNameAt fs place found) c.new-linked.ensures.files c.in_ok-name.ensures in
    subst (λ (o : Option (List ℕ)). (o ≡ Some name) ↔ StandsFor c.args.files.now reads place name) (ap (option_map (λ (x : Bor (List ℕ)). x.now)) c.in-None.is) (stands reads are name))
