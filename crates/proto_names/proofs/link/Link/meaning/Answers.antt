use Rattle.std.proofs.Common.{◌<◌, option_map, ◌∙◌, ap, AllPairs}
use Rattle.proto_names.specs.Linking.{row_at}
use Rattle.proto_names.proofs.Linking.{inner_at, inner_has, inner_past}
use Rattle.proto_names.proofs.link.Link.meaning.Goals as goal

pub row_of_token-requires : goal.row_of_token-requires
row_of_token-requires c =
    let look_up = c.in_ok-meant.ensures.lookup in
    inner_has (AllPairs (λ m n. m.token < n.token)) c.self.inside.parts.resolutions.meant.items c.self.invariant.2 c.deref.result.now c.deref.ensures.value c.args.file look_up.3.0 c.in_ok-meant.meant.now look_up.1 c.as_slice.result.now c.as_slice.ensures

pub returns : goal.returns
returns c =
    let look_up = c.in_ok-meant.ensures.lookup in
    c.in_ok-row.ensures
    ∙ ap (λ ms. row_at ms c.args.token)
    (inner_at c.self.inside.parts.resolutions.meant.items c.args.self.now.meant (ap (λ l. l.meant) c.self.view_is) c.deref.result.now c.deref.ensures.value c.args.file look_up.3.0 c.in_ok-meant.meant.now look_up.1 c.as_slice.result.now c.as_slice.ensures)

pub returns-in_err-row : goal.returns-in_err-row
returns-in_err-row c =
    let look_up = c.in_ok-meant.ensures.lookup in
    ap (option_map (λ id. id.row)) c.from_residual-in_err-row.ensures ∙ c.in_err-row.ensures
    ∙ ap (λ ms. row_at ms c.args.token)
    (inner_at c.self.inside.parts.resolutions.meant.items c.args.self.now.meant (ap (λ l. l.meant) c.self.view_is) c.deref.result.now c.deref.ensures.value c.args.file look_up.3.0 c.in_ok-meant.meant.now look_up.1 c.as_slice.result.now c.as_slice.ensures)

pub returns-in_err-meant : goal.returns-in_err-meant
returns-in_err-meant c =
    ap (option_map (λ id. id.row)) c.from_residual.ensures
    ∙ ap (λ ms. row_at ms c.args.token) (inner_past c.self.inside.parts.resolutions.meant.items c.args.self.now.meant (ap (λ l. l.meant) c.self.view_is) c.deref.result.now c.deref.ensures.value c.args.file c.in_err-meant.ensures.lookup.3)
