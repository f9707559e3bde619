use Rattle.std.proofs.Common.{◌≡◌, List, false, get_or, Some, refl, sym, ap, ◌∙◌, arith, string_bytes, subst, take_all}
use Rattle.proto_text.proofs.Common.{IsString, word_at, value_of}
use Rattle.proto_names_imports.specs.Written.{AreWritten}
use Rattle.proto_names_imports.specs.declared.import.WrittenImport.{WrittenImport}
use Rattle.proto_names_outline.specs.declared.wanted.Wanted.{Wanted}
use Rattle.proto_names_rules.proofs.Mapped.{map_more}
use Rattle.proto_names_imports.proofs.written.written_imports.Goals as goal

-- an import for no place
abbrev no_import : Wanted
no_import = record { path = 0; is_public = false; is_weak = false }

pub string_value-requires : goal.string_value-requires
string_value-requires c = subst IsString (sym c.get.ensures) (c.requires.strings c.loop-import.import-index no_import c.loop-import-test.true)

pub loop-import-preserved : goal.loop-import-preserved
loop-import-preserved c =
    let text = word_at c.args.words.now in
    let wanted = c.args.wanted.now in
    let i = c.loop-import.import-index in
    let w = get_or wanted i no_import in
    let ws = c.loop-import.written.items in
    let new : WrittenImport = record { token = w.path; path = c.in_ok-path.path; is_public = w.is_public } in
    let l = c.loop-import-test.true in
    let pushed = c.in_ok-push.ensures.items in
    let value : Some (string_bytes new.path) ≡ value_of (text w.path) = sym (ap value_of (sym c.get.ensures) ∙ c.in_ok-path.ensures.value) in
    record {
      tokens = map_more (λ x. x.path) (λ x. x.token) wanted i no_import ws c.push.new.self.items new l pushed c.loop-import.invariant.tokens refl;
      publics = map_more (λ x. x.is_public) (λ x. x.is_public) wanted i no_import ws c.push.new.self.items new l pushed c.loop-import.invariant.publics refl;
      paths = map_more (λ x. value_of (text x.path)) (λ x. Some (string_bytes x.path)) wanted i no_import ws c.push.new.self.items new l pushed c.loop-import.invariant.paths value;
    }

pub returns : goal.returns
returns c = subst (λ (ws : List Wanted). AreWritten (word_at c.args.words.now) ws c.loop-import.written.items) (take_all c.loop-import.import-index c.args.wanted.now (omega arith)) c.loop-import.invariant
