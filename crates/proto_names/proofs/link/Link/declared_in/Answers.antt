use Rattle.std.proofs.Common.{map, ◌∙◌, ap}
use Rattle.proto_names.specs.Linking.{name_text}
use Rattle.proto_names.proofs.Linking.{inner_at, inner_past}
use Rattle.proto_names.proofs.link.Link.declared_in.Goals as goal

pub returns-in-Some-clause-exact : goal.returns-in-Some-clause-exact
returns-in-Some-clause-exact c =
    let look_up = c.in-Some.ensures.lookup in
    inner_at c.self.inside.parts.declarations.rows.items c.args.self.now.rows (ap (λ l. l.rows) c.self.view_is) c.deref.result.now c.deref.ensures.value c.args.file look_up.3.0 c.in-Some.rows.now look_up.1 c.as_slice.result.now c.as_slice.ensures.value

pub returns-in-Some-clause-names : goal.returns-in-Some-clause-names
returns-in-Some-clause-names c = λ files reads link are within. (
    let look_up = c.in-Some.ensures.lookup in
    let exact = inner_at c.self.inside.parts.declarations.rows.items c.args.self.now.rows (ap (λ l. l.rows) c.self.view_is) c.deref.result.now c.deref.ensures.value c.args.file look_up.3.0 c.in-Some.rows.now look_up.1 c.as_slice.result.now c.as_slice.ensures.value in
    ap (map (name_text c.args.self.now)) exact ∙ (link reads are).declares c.args.file within)

pub returns-in-None-clause-exact : goal.returns-in-None-clause-exact
returns-in-None-clause-exact c =
    inner_past c.self.inside.parts.declarations.rows.items c.args.self.now.rows (ap (λ l. l.rows) c.self.view_is) c.deref.result.now c.deref.ensures.value c.args.file c.in-None.ensures.lookup.3

pub returns-in-None-clause-names : goal.returns-in-None-clause-names
returns-in-None-clause-names c = λ files reads link are within. (
    let exact = inner_past c.self.inside.parts.declarations.rows.items c.args.self.now.rows (ap (λ l. l.rows) c.self.view_is) c.deref.result.now c.deref.ensures.value c.args.file c.in-None.ensures.lookup.3 in
    ap (map (name_text c.args.self.now)) exact ∙ (link reads are).declares c.args.file within)
