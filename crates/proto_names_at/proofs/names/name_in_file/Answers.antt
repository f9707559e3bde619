use Rattle.std.proofs.Common.{ℕ, List, Bor, option_map, sym, ◌∙◌, inl, inr}
use Rattle.std.proofs.lemmas.Result.{IfOk-weaker}
use Rattle.proto_names_at.specs.NamesAt.{DeclaresName, DefaultsToName, RefersToName, StandsFor, UsesName, at_place}
use Rattle.proto_names_at.proofs.DeclaredNames.{none_is, some_is}
use Rattle.proto_names_at.proofs.StandingNames.{declared_alone, first_way, from_declared, from_used, other_way, referred_alone, ways}
use Rattle.proto_names_at.proofs.names.name_in_file.Goals as goal

pub returns-then-is_some : goal.returns-then-is_some
returns-then-is_some c =
    let files = c.args.linked.now.files in
    let a = at_place c.args.place in
    let said = λ (x : Bor (List ℕ)). x.now in
    let declared = c.in_ok-declared.declared in
    let x = some_is said declared (sym c.is_some.ensures ∙ c.if-is_some.true) in
    first_way files (λ reads. DeclaresName files reads a) (λ reads. UsesName files reads a) (λ reads. StandsFor files reads a) (λ reads are. from_declared files reads a) (λ reads are. ways files reads a)
    (λ reads are. declared_alone files reads are c.files.ensures.clean.clean a) (option_map said declared) c.in_ok-declared.ensures x.0 x.1

pub returns-then-is_some-2 : goal.returns-then-is_some-2
returns-then-is_some-2 c =
    let files = c.args.linked.now.files in
    let a = at_place c.args.place in
    let said = λ (x : Bor (List ℕ)). x.now in
    let declared = c.in_ok-declared.declared in
    let found = c.in_ok-found.found in
    let x = some_is said found (sym c.is_some-2.ensures ∙ c.if-is_some-2.true) in
    other_way files (λ reads. DeclaresName files reads a) (λ reads. UsesName files reads a) (λ reads. StandsFor files reads a) (λ reads are. from_used files reads a) (λ reads are. ways files reads a)
    (option_map said declared) (option_map said found) c.in_ok-declared.ensures (none_is said declared (sym c.is_some.ensures ∙ c.if-is_some.false))
    (first_way files (λ reads. RefersToName files reads a) (λ reads. DefaultsToName files reads a) (λ reads. UsesName files reads a) (λ reads are name r. inl r) (λ reads are name u. u)
    (λ reads are. referred_alone files reads are c.files.ensures.clean.clean a) (option_map said found) c.in_ok-found.ensures x.0 x.1)

pub returns : goal.returns
returns c =
    let files = c.args.linked.now.files in
    let a = at_place c.args.place in
    let said = λ (x : Bor (List ℕ)). x.now in
    let declared = c.in_ok-declared.declared in
    let found = c.in_ok-found.found in
    IfOk-weaker c.default_name.result _ _
    (λ named h.
    other_way files (λ reads. DeclaresName files reads a) (λ reads. UsesName files reads a) (λ reads. StandsFor files reads a) (λ reads are. from_used files reads a) (λ reads are. ways files reads a)
    (option_map said declared) (option_map said named) c.in_ok-declared.ensures (none_is said declared (sym c.is_some.ensures ∙ c.if-is_some.false))
    (other_way files (λ reads. RefersToName files reads a) (λ reads. DefaultsToName files reads a) (λ reads. UsesName files reads a) (λ reads are name d. inr d) (λ reads are name u. u)
    (option_map said found) (option_map said named) c.in_ok-found.ensures (none_is said found (sym c.is_some-2.ensures ∙ c.if-is_some-2.false)) h))
    c.default_name.ensures
