use Rattle.std.proofs.Common.{[], get_or, option_map, refl, sym, ◌∙◌, ap, option_and_then}
use Rattle.std.proofs.lemmas.Option.{none-some}
use Rattle.proto_files.specs.GivenFiles.{file_at}
use Rattle.proto_names_rules.specs.Joined.{joined}
use Rattle.proto_names.specs.Linking.{name_text}
use Rattle.proto_names_table.specs.Tables.{names_of}
use Rattle.proto_names_imports.proofs.Common.{names_are_plain, names_of_files}
use Rattle.proto_names.specs.Scopes.{reference_in}
use Rattle.proto_names.proofs.LinkIndex.{link_index, seen_at, meant_in, none_meant}
use Rattle.proto_names.proofs.NamesThere.{text_there}
use Rattle.proto_names.proofs.link.Link.resolve.Goals as goal

pub returns-in_err-row-clause-meant : goal.returns-in_err-row-clause-meant
returns-in_err-row-clause-meant c = λ reads are path plain e. (
    let look_up = c.in_ok-seen.ensures.lookup in
    let marks = seen_at c.args.self.now c.self.inside.parts.graph.seen.items (ap (λ l. l.seen) c.self.view_is) c.deref.result.now c.deref.ensures.value c.args.file look_up.3.0 c.in_ok-seen.seen.now look_up.1 in
    let meant = meant_in c.self.inside.parts.declarations.table c.args.self.now (ap (λ l. l.names) c.self.view_is) c.args.files.now reads are c.args.file c.requires.file (c.requires.link reads are).by c.in_ok-seen.seen.now marks
    (file_at c.args.files.now c.args.file).bytes c.new-words.ensures.some.0 c.new-words.result c.new-words.ensures.some.2 refl c.new-words.ensures.some.1 c.args.scope.now c.args.reference.now c.row_in_scope.result c.row_in_scope.ensures.meant path plain e in
    ap (option_and_then (λ id. name_text c.args.self.now id.row)) c.from_residual-in_err-row.ensures ∙ ap (option_map (λ k. get_or (names_of c.self.inside.parts.declarations.table) k [])) (sym c.in_err-row.was) ∙ meant)

pub returns-clause-meant : goal.returns-clause-meant
returns-clause-meant c = λ reads are path plain e. (
    let look_up = c.in_ok-seen.ensures.lookup in
    let marks = seen_at c.args.self.now c.self.inside.parts.graph.seen.items (ap (λ l. l.seen) c.self.view_is) c.deref.result.now c.deref.ensures.value c.args.file look_up.3.0 c.in_ok-seen.seen.now look_up.1 in
    let meant = meant_in c.self.inside.parts.declarations.table c.args.self.now (ap (λ l. l.names) c.self.view_is) c.args.files.now reads are c.args.file c.requires.file (c.requires.link reads are).by c.in_ok-seen.seen.now marks
    (file_at c.args.files.now c.args.file).bytes c.new-words.ensures.some.0 c.new-words.result c.new-words.ensures.some.2 refl c.new-words.ensures.some.1 c.args.scope.now c.args.reference.now c.row_in_scope.result c.row_in_scope.ensures.meant path plain e in
    let told = ap (option_map (λ k. get_or (names_of c.self.inside.parts.declarations.table) k [])) (sym c.in_ok-row.was) ∙ meant in
    let w = names_of_files c.args.files.now reads in
    let index = link_index c.self.inside.parts.declarations.table c.args.self.now (ap (λ l. l.names) c.self.view_is) w (c.requires.link reads are).by.names (names_are_plain c.args.files.now reads are) in
    text_there c.self.inside.parts.declarations.table c.self.invariant.0 c.args.self.now (ap (λ l. l.names) c.self.view_is) w index (reference_in c.args.files.now reads c.args.file path c.args.reference.now) c.in_ok-row.row told
    ∙ told)

pub returns-in_err-row-clause-none : goal.returns-in_err-row-clause-none
returns-in_err-row-clause-none c = λ reads are path plain e. (
  λ h. none_meant _ (sym (ap (option_and_then (λ id. name_text c.args.self.now id.row)) c.from_residual-in_err-row.ensures) ∙ returns-in_err-row-clause-meant c reads are path plain e),
  λ h. c.from_residual-in_err-row.ensures,
)

pub returns-clause-none : goal.returns-clause-none
returns-clause-none c = λ reads are path plain e. (
  λ h. absurd (none-some _ (sym h)),
  λ h.
      let look_up = c.in_ok-seen.ensures.lookup in
      let marks = seen_at c.args.self.now c.self.inside.parts.graph.seen.items (ap (λ l. l.seen) c.self.view_is) c.deref.result.now c.deref.ensures.value c.args.file look_up.3.0 c.in_ok-seen.seen.now look_up.1 in
      let meant = meant_in c.self.inside.parts.declarations.table c.args.self.now (ap (λ l. l.names) c.self.view_is) c.args.files.now reads are c.args.file c.requires.file (c.requires.link reads are).by c.in_ok-seen.seen.now marks
      (file_at c.args.files.now c.args.file).bytes c.new-words.ensures.some.0 c.new-words.result c.new-words.ensures.some.2 refl c.new-words.ensures.some.1 c.args.scope.now c.args.reference.now c.row_in_scope.result c.row_in_scope.ensures.meant path plain e in
      let told = ap (option_map (λ k. get_or (names_of c.self.inside.parts.declarations.table) k [])) (sym c.in_ok-row.was) ∙ meant in
      absurd (none-some (get_or (names_of c.self.inside.parts.declarations.table) c.in_ok-row.row []) (sym (told ∙ ap (option_map joined) h))),
)
