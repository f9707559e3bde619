use Rattle.std.proofs.Common.{◌≡◌, ℕ, suc, List, [], length, get_or, refl, sym, ◌∙◌, ap, ap₂, arith, subst, ◌<◌, ◌≤◌}
use Rattle.proto_base.specs.Texts.{text_limit}
use Rattle.proto_text.specs.declared.kind.TokenKind.TheVariants.{Word}
use Rattle.proto_text.specs.declared.lexer.Token.{Token}
use Rattle.proto_text.proofs.Common.{Edit, end_before, offset_at, one_token_list}
use Rattle.proto_files.proofs.Common.{read_at, file_at}
use Rattle.proto_tree.specs.declared.piece.Statement.TheVariants as statement
use Rattle.proto_edit_rules.specs.Statements.{begins, ends, splice}
use Rattle.proto_edit_rules.specs.DropImport.{splice_of_drop}
use Rattle.proto_edit_statements.specs.Spliced.{IsSpliced}
use Rattle.proto_edit_statements.proofs.MoreOrLess.{place_within}
use Rattle.proto_edit_statements.proofs.Spliced.{changes_are, no_longer}
use Rattle.proto_edit_statements.proofs.StandsParts.{import_inside, import_last}
use Rattle.proto_edit_statements.proofs.TokenSpans.{end_is, offset_is, spans_tokens}
use Rattle.proto_edit_statements.proofs.dropping.changes_of_drop.Goals as goal

pub bounds-tokens-import : goal.bounds-tokens-import
bounds-tokens-import c =
    let files = c.args.files.now in
    let file = c.args.paths.from in
    let reads = c.are_read.ensures.0 in
    let are = c.are_read.ensures.1 in
    let within = place_within files c.args.paths.file.now file c.requires.file in
    let same = one_token_list (file_at files file).bytes (read_at reads file).tokens c.tokens-tokens.result.now (are.tokens file within) c.tokens-tokens.ensures.tokens in
    let long = ap (λ (z : List Token). length z) same in
    let x = import_inside (file_at files file).profile (file_at files file).bytes (read_at reads file).tokens (read_at reads file).tree c.args.import (are.trees file within) (c.requires.import reads are).stands in
    let a = x.0 in
    let b = x.1 in
    omega (arith, a, b, long)

pub bounds-tokens-import-2 : goal.bounds-tokens-import-2
bounds-tokens-import-2 c =
    let files = c.args.files.now in
    let file = c.args.paths.from in
    let reads = c.are_read.ensures.0 in
    let are = c.are_read.ensures.1 in
    let within = place_within files c.args.paths.file.now file c.requires.file in
    let same = one_token_list (file_at files file).bytes (read_at reads file).tokens c.tokens-tokens.result.now (are.tokens file within) c.tokens-tokens.ensures.tokens in
    let long = ap (λ (z : List Token). length z) same in
    let x = import_inside (file_at files file).profile (file_at files file).bytes (read_at reads file).tokens (read_at reads file).tree c.args.import (are.trees file within) (c.requires.import reads are).stands in
    let b = x.1 in
    omega (arith, b, long)

pub splice_change-requires-clause-span : goal.splice_change-requires-clause-span
splice_change-requires-clause-span c =
    let files = c.args.files.now in
    let file = c.args.paths.from in
    let reads = c.are_read.ensures.0 in
    let are = c.are_read.ensures.1 in
    let ts = c.tokens-tokens.result.now in
    let within = place_within files c.args.paths.file.now file c.requires.file in
    let same = one_token_list (file_at files file).bytes (read_at reads file).tokens ts (are.tokens file within) c.tokens-tokens.ensures.tokens in
    let x = import_inside (file_at files file).profile (file_at files file).bytes (read_at reads file).tokens (read_at reads file).tree c.args.import (are.trees file within) (c.requires.import reads are).stands in
    let l = subst (λ (z : List Token). c.args.import.semicolon < length z) same x.1 in
    spans_tokens (file_at files file).bytes ts c.tokens-tokens.ensures.tokens c.args.import.keyword c.args.import.semicolon (record { kind = Word; span = record { start = 0; end = 0 } }) x.0 l
    (record { start = (get_or ts c.args.import.keyword (record { kind = Word; span = record { start = 0; end = 0 } })).span.start; end = (get_or ts c.args.import.semicolon (record { kind = Word; span = record { start = 0; end = 0 } })).span.end }) refl refl

pub unreachable-requires : goal.unreachable-requires
unreachable-requires c =
    let files = c.args.files.now in
    let file = c.args.paths.from in
    let ts = c.tokens-tokens.result.now in
    let start = (get_or ts c.args.import.keyword (record { kind = Word; span = record { start = 0; end = 0 } })).span.start in
    let end = (get_or ts c.args.import.semicolon (record { kind = Word; span = record { start = 0; end = 0 } })).span.end in
    let e = splice (file_at files file).bytes start end [] in
    let short = subst (λ (z : List ℕ). length z ≤ text_limit) (c.as_bytes.ensures.value ∙ c.source.ensures) c.as_bytes.ensures.short in
    no_longer (file_at files file) e short refl (subst (IsSpliced (file_at files file) e) c.in-None.is c.in_ok-change.ensures)

pub returns-clause-ok : goal.returns-clause-ok
returns-clause-ok c =
    let files = c.args.files.now in
    let file = c.args.paths.from in
    let reads = c.are_read.ensures.0 in
    let are = c.are_read.ensures.1 in
    let ts = c.tokens-tokens.result.now in
    let bytes = (file_at files file).bytes in
    let i = c.args.import in
    let rest = (read_at reads file).tokens in
    let within = place_within files c.args.paths.file.now file c.requires.file in
    let same = one_token_list bytes rest ts (are.tokens file within) c.tokens-tokens.ensures.tokens in
    let stands = c.requires.import reads are in
    let x = import_inside (file_at files file).profile bytes rest (read_at reads file).tree i (are.trees file within) stands.stands in
    let l = subst (λ (z : List Token). i.semicolon < length z) same x.1 in
    let le = x.0 in
    let k : i.keyword < length ts = omega (arith, l, le) in
    let d : Token = record { kind = Word; span = record { start = 0; end = 0 } } in
    let first : (get_or ts i.keyword d).span.start ≡ begins rest (statement.Import i) = sym (offset_is ts i.keyword d k) ∙ ap (λ (z : List Token). offset_at z i.keyword) (sym same) in
    let last : (get_or ts i.semicolon d).span.end ≡ ends rest (statement.Import i) = sym (end_is ts i.semicolon d l) ∙ ap (λ (z : List Token). end_before z (suc i.semicolon)) (sym same) ∙ ap (end_before rest) (sym (import_last i)) in
    let e : Edit = splice bytes (get_or ts i.keyword d).span.start (get_or ts i.semicolon d).span.end [] in
    let is : e ≡ splice_of_drop files reads file i = ap₂ (λ (y z : ℕ). splice bytes y z []) first last in
    record {
      admissible = c.requires.free;
      changes = (reads, are, (file, i, c.requires.file, stands, changes_are (file_at files file) e (splice_of_drop files reads file i) c.in-Some.change c.in_ok-only-in-Some.field-0.items is (subst (IsSpliced (file_at files file) e) c.in-Some.is c.in_ok-change.ensures) c.in_ok-only-in-Some.ensures));
    }
