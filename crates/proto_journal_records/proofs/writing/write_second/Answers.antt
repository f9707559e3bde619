use Rattle.std.proofs.Common.{[], ◌∷◌, ◌++◌, codes, decimal, map}
use Rattle.json.specs.Token.{end_object, key, number, string}
use Rattle.serde_json.specs.Data.{array}
use Rattle.serde_json.specs.View.{items_of}
use Rattle.proto_journal_records.specs.Common.{change_data, record_data, state_name}
use Rattle.proto_journal_records.specs.DataTokens.{data_tokens}
use Rattle.proto_journal_records.proofs.DataTexts.{adds_both, adds_one, adds_then}
use Rattle.proto_journal_records.proofs.writing.write_second.Goals as goal

pub returns-clause-written : goal.returns-clause-written
unfolding record_data
returns-clause-written c =
    let front = adds_both (adds_one c.begin_object.ensures c.in_ok-begin_object.was) (adds_both (adds_one c.key.ensures c.in_ok-key.was) c.in_ok-write_edit.ensures) in
    adds_then c.write_rest.result c.write_rest.new.writer (key (codes "files") ∷ (data_tokens (array (items_of (map change_data c.args.parts.now.entry.now))) ++ key (codes "state") ∷ string (state_name c.args.parts.now.state) ∷ key (codes "version") ∷ number (decimal 2) ∷ end_object ∷ [])) front c.write_rest.ensures.written
