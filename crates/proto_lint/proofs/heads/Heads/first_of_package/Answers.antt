use Rattle.std.proofs.Common.{List, find, sym, ◌∙◌, ap, slice_get, option_and_then, bytes_eq}
use Rattle.proto_lint.proofs.HeadLists.{first_head, got_at}
use Rattle.proto_lint.specs.Packages.{Head, package_name}
use Rattle.proto_lint.proofs.heads.Heads.first_of_package.Goals as goal

pub returns-in-Some : goal.returns-in-Some
returns-in-Some c =
    let heads : List Head = c.self.inside.heads.items in
    let name = c.args.name.now in
    let got = got_at _ c.deref.result.now c.in-Some.place c.get.result c.get.ensures.lookup.1 c.get.ensures.lookup.3 in
    got ∙ ap (λ (hs : List Head). slice_get hs c.in-Some.place) c.deref.ensures.value
    ∙ ap (option_and_then (λ k. slice_get heads k)) (sym c.in-Some.is ∙ c.place_of.ensures ∙ c.self.invariant.1 name)
    ∙ first_head package_name name heads ∙ ap (find (λ g. bytes_eq (package_name g) name)) c.self.view_is

pub returns-in-None : goal.returns-in-None
returns-in-None c =
    let heads : List Head = c.self.inside.heads.items in
    let name = c.args.name.now in
    ap (option_and_then (λ k. slice_get heads k)) (sym c.in-None.is ∙ c.place_of.ensures ∙ c.self.invariant.1 name)
    ∙ first_head package_name name heads ∙ ap (find (λ g. bytes_eq (package_name g) name)) c.self.view_is
