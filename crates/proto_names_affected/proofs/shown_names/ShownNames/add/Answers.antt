use Rattle.std.proofs.Common.{◌∙◌, ap}
use Rattle.proto_base.specs.Words.{word_key}
use Rattle.proto_names_affected.proofs.Sights.{key_gathered, package_gathered}
use Rattle.proto_names_affected.proofs.shown_names.ShownNames.add.Goals as goal

pub returns-then-is_package_at-clause-gathered : goal.returns-then-is_package_at-clause-gathered
returns-then-is_package_at-clause-gathered c = package_gathered c.args.table.now c.args.self.now.packages.keys c.args.self.now.keys.keys c.insert.new.self.keys c.args.row c.in_ok-insert.ensures.keys

pub returns-then-not-is_below_type-clause-gathered : goal.returns-then-not-is_below_type-clause-gathered
returns-then-not-is_below_type-clause-gathered c =
    key_gathered c.args.table.now c.args.self.now.packages.keys c.args.self.now.keys.keys c.insert-then-not-is_below_type.new.self.keys c.word_key.result c.args.row c.in_ok-insert-2.ensures.keys
    (λ front word plain named. c.word_key.ensures ∙ ap word_key (c.last_word.ensures front word plain named))
