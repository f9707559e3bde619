use Rattle.std.proofs.Common.{◌≡◌, ◌<◌, List, length, Some, refl, sym, ◌∙◌, ap, arith, subst, IsCharBoundary, IsUtf8}
use Rattle.proto_base.proofs.Common.{IfOk-weaker, IsCharBoundary-start}
use Rattle.proto_text.specs.declared.kind.TokenKind.TheVariants.{Word}
use Rattle.proto_text.specs.declared.lexer.Token.{Token}
use Rattle.proto_text.proofs.Common.{Edit, end_before, one_token_list}
use Rattle.proto_tree.specs.File.{tree_of_file}
use Rattle.proto_files.proofs.Common.{AreRead, ReadOf, read_at, file_at, same_tree}
use Rattle.proto_edit_rules.specs.Statements.{splice}
use Rattle.proto_edit_rules.specs.AddImport.{splice_of_addition}
use Rattle.proto_edit_statements.specs.Common.{behind_all, ends_of, place_behind, IsChangeOfAddition, IsSpliced}
use Rattle.proto_edit_statements.proofs.AddedPlace.{addition_is, empty_span, place_by, place_inside, place_of_some}
use Rattle.proto_edit_statements.proofs.MoreOrLess.{place_within}
use Rattle.proto_edit_statements.proofs.adding.change_of_file.Goals as goal
use Rattle.proto_edit_statements.proofs.adding.change_of_file.Goals.{in-Some, in-None}

pub bounds-tokens-token : goal.bounds-tokens-token
bounds-tokens-token c =
    let files = c.args.files.now in
    let file = c.args.paths.from in
    let within = place_within files c.args.paths.file.now file c.requires in
    let bytes = (file_at files file).bytes in
    let ts = c.tokens.result.now in
    let tree = tree_of_file c.tree.result.now in
    let inside = place_inside c.additions_are_read.ensures (file_at files file).profile bytes ts tree (c.tree.ensures ts c.tokens.ensures.tokens) in
    let place = place_by tree (Some c.in-Some.token) c.in-Some.ensures in
    omega (arith, inside, place)

pub splice_change-requires-clause-span : goal.splice_change-requires-clause-span
splice_change-requires-clause-span c =
    let files = c.args.files.now in
    let file = c.args.paths.from in
    let bytes = (file_at files file).bytes in
    let tree = tree_of_file c.tree.result.now in
    let d : Token = record { kind = Word; span = record { start = 0; end = 0 } } in
    elim c.match-end.branch [
      | in-Some w ↦
          let inside = place_inside c.additions_are_read.ensures (file_at files file).profile bytes w.tokens.result.now tree (c.tree.ensures w.tokens.result.now w.tokens.ensures.tokens) in
          let behind = place_by tree (Some w.in-Some.token) w.in-Some.ensures in
          let l : w.in-Some.token < length w.tokens.result.now = omega (arith, inside, behind) in
          empty_span bytes (record { start = c.match-end.at; end = c.match-end.at }) refl (subst (IsCharBoundary bytes) (sym w.at-is) (w.tokens.ensures.spans w.in-Some.token d l).ends)
      | in-None w ↦
          let utf8 = subst IsUtf8 (c.as_bytes.ensures.value ∙ c.source.ensures) c.as_bytes.ensures.utf8 in
          empty_span bytes (record { start = c.match-end.at; end = c.match-end.at }) refl (subst (IsCharBoundary bytes) (sym w.at-is) (IsCharBoundary-start bytes utf8))
    ]

pub returns : goal.returns
returns c =
    let files = c.args.files.now in
    let file = c.args.paths.from in
    let path = c.args.paths.path.now in
    let bytes = (file_at files file).bytes in
    let within = place_within files c.args.paths.file.now file c.requires in
    let tree = tree_of_file c.tree.result.now in
    let d : Token = record { kind = Word; span = record { start = 0; end = 0 } } in
    let by : c.match-end.end ≡ behind_all (ends_of tree) = elim c.match-end.branch [ in-Some w ↦ w.end-is ∙ sym w.in-Some.is ∙ c.end_before_import-end.ensures | in-None w ↦ w.end-is ∙ c.end_before_import-end.ensures ] in
    let e : Edit = splice bytes c.match-end.at c.match-end.at c.as_str.result.now in
    IfOk-weaker c.splice_change.result (IsSpliced (file_at files file) e) (λ o. (reads : List ReadOf) → AreRead files reads → IsChangeOfAddition files reads file path o)
    (λ o spliced reads are.
    (let rest = (read_at reads file).tokens in
    let place : c.match-end.at ≡ end_before rest (place_behind c.match-end.end) =
    elim c.match-end.branch [
      | in-Some w ↦
          let inside = place_inside c.additions_are_read.ensures (file_at files file).profile bytes w.tokens.result.now tree (c.tree.ensures w.tokens.result.now w.tokens.ensures.tokens) in
          let behind = place_by tree (Some w.in-Some.token) w.in-Some.ensures in
          let l : w.in-Some.token < length w.tokens.result.now = omega (arith, inside, behind) in
          place_of_some rest w.tokens.result.now (one_token_list bytes rest w.tokens.result.now (are.tokens file within) w.tokens.ensures.tokens) w.in-Some.token d c.match-end.at l w.at-is
          ∙ ap (λ o. end_before rest (place_behind o)) (sym w.end-is)
      | in-None w ↦ w.at-is ∙ ap (λ o. end_before rest (place_behind o)) (sym w.in-None.is ∙ sym w.end-is)
    ] in
    let same = same_tree files reads file tree are within c.tree.ensures in
    let is : e ≡ splice_of_addition files reads file path = addition_is files reads file path tree same c.match-end.end by c.match-end.at c.as_str.result.now place (c.as_str.ensures.value ∙ c.in_ok-text.ensures) in
    subst (λ (z : Edit). IsSpliced (file_at files file) z o) is spliced))
    c.splice_change.ensures
