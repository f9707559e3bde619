use Rattle.std.proofs.Common.{ℕ, List, Bor, option_map, sym, ap, ◌∙◌, arith}
use Rattle.proto_base.proofs.Common.{none-some}
use Rattle.proto_names_at.specs.DeclaredAt.{text_declared_at}
use Rattle.proto_names_at.proofs.DeclaredNames.{found_here, none_at_all, none_is, none_more, none_yet, some_is}
use Rattle.proto_names_at.proofs.declared.declared_name.Goals as goal

pub loop-index-init : goal.loop-index-init
loop-index-init c = none_yet c.args.linked.now.files c.args.linked.now.link c.declared_in-declared.result.rows.now c.args.place.file c.args.place.token

pub loop-index-preserved : goal.loop-index-preserved
loop-index-preserved c =
    let l = c.args.linked.now.link in
    let said = λ (x : Bor (List ℕ)). x.now in
    let name = option_map said c.text_declared_at-name.result in
    let found = c.in_ok-found.found in
    none_more c.args.linked.now.files l c.declared_in-declared.result.rows.now c.loop-index.index c.args.place.file c.args.place.token name (option_map said found) c.loop-index.invariant
    ((rw c.link-link.ensures.link at c.text_declared_at-name.ensures) ∙ ap (λ (r : ℕ). text_declared_at l r c.args.place.token) c.declared_symbol.ensures)
    c.in_ok-found.ensures
    (none_is said found (sym c.is_some.ensures ∙ c.if-is_some.false))

pub returns-then-is_some : goal.returns-then-is_some
returns-then-is_some c = λ reads are.
    (let said = λ (x : Bor (List ℕ)). x.now in
    let found = c.in_ok-found.found in
    let x = some_is said found (sym c.is_some.ensures ∙ c.if-is_some.true) in
    found_here c.args.linked.now.files reads are c.args.place.file c.args.place.token (option_map said c.text_declared_at-name.result) (option_map said found) (c.in_ok-found.ensures reads are) x.0 x.1)

pub returns : goal.returns
returns c = λ reads are n. (
  λ e. absurd (none-some n e),
  λ d. absurd (none_at_all c.args.linked.now.files c.args.linked.now.link c.link-link.ensures.clean.link c.declared_in-declared.result.rows.now c.loop-index.index c.args.place.file c.args.place.token (rw c.link-link.ensures.link at c.declared_in-declared.ensures.exact) (omega (arith, c.loop-index-test.false, c.len-index-end.ensures)) c.loop-index.invariant reads are n d),
)
