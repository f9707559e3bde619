use Rattle.std.proofs.Common.{◌≡◌, true, length, slice_set, ap, sym, ◌∙◌, arith}
use Rattle.std.proofs.lemmas.List.{with_items_is, set_past}
use Rattle.proto_file_sets.specs.Words.{has_file, members}
use Rattle.proto_file_sets.proofs.FilesInWords.{length-members, members-inserted}
use Rattle.proto_file_sets.proofs.FileSet.insert_at.Goals as goal

pub returns-then-index-self : goal.returns-then-index-self
returns-then-index-self c =
    let words = c.self.inside.words in
    let count = c.self.inside.file_count in
    let new = c.set_bit.new.words in
    let old = c.deref_mut.ensures.value in
    let long : length new ≡ words.len = c.set_bit.ensures.count ∙ ap length old ∙ sym words.ok.0 in
    ap (members count) (with_items_is words new long)
    ∙ members-inserted count words.items new c.args.index c.if-index-self.true c.set_bit.ensures.set (λ other apart.
    c.set_bit.ensures.others other apart ∙ ap (λ ws. has_file ws other) old)
    ∙ ap (λ set. slice_set set c.args.index true) c.self.view_is

pub returns-else-index-self : goal.returns-else-index-self
returns-else-index-self c =
    let long : length c.args.self.now ≡ c.self.inside.file_count = ap length (sym c.self.view_is) ∙ length-members c.self.inside.file_count c.self.inside.words.items in
    sym (set_past c.args.self.now c.args.index true (omega (arith, long, c.if-index-self.false)))
