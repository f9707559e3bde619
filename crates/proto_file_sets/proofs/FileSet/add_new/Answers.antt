use Rattle.std.proofs.Common.{◌≡◌, ◌<◌, ◌/◌, List, Bool, false, not, ◌&&◌, ◌||◌, length, get_or, ap, ap₂, sym, ◌∙◌, arith}
use Rattle.std.specs.Vec.{with_items}
use Rattle.std.proofs.lemmas.List.{with_items_is}
use Rattle.std.proofs.lemmas.Bool.{or_left}
use Rattle.proto_file_sets.specs.Words.{has_file, members}
use Rattle.proto_file_sets.proofs.FilesInWords.{length-members, member, member_below}
use Rattle.proto_file_sets.proofs.Members.{in_within}
use Rattle.proto_file_sets.proofs.FileSet.add_new.Goals as goal

pub returns-clause-count : goal.returns-clause-count
returns-clause-count c =
    let count = c.self.inside.file_count in
    let words = c.self.inside.words in
    length-members count (with_items (with_items words c.add_new_bits.new.words) c.clear_spare.new.words).items ∙ sym (length-members count words.items) ∙ ap length c.self.view_is

pub returns-clause-files : goal.returns-clause-files
returns-clause-files c = λ file l.
    (let count = c.self.inside.file_count in
    let words = c.self.inside.words in
    let added = c.add_new_bits.new.words in
    let new = c.clear_spare.new.words in
    let long_added : length added ≡ words.len = c.add_new_bits.ensures.count ∙ ap length c.deref_mut.ensures.value ∙ sym words.ok.0 in
    let long_new : length new ≡ words.len = c.clear_spare.ensures.words.count ∙ sym c.self.invariant.count ∙ sym words.ok.0 in
    let below : file < count = omega (arith, l, ap length c.self.view_is, length-members count words.items) in
    let within : file / 64 < length c.deref_mut.result.now = omega (arith, below, ap length c.deref_mut.ensures.value, c.self.invariant.count) in
    let mine : has_file c.deref_mut.result.now file ≡ get_or c.args.self.now file false =
    ap (λ ws. has_file ws file) c.deref_mut.ensures.value ∙ sym (member count words.items file c.self.invariant) ∙ ap (λ (set : List Bool). get_or set file false) c.self.view_is
    in
    let seen : has_file c.deref.result.now file ≡ get_or c.args.seen.now file false =
    ap (λ ws. has_file ws file) c.deref.ensures.value
    ∙ sym (member c.seen.inside.file_count c.seen.inside.words.items file c.seen.invariant)
    ∙ ap (λ (set : List Bool). get_or set file false) c.seen.view_is
    in
    let before : has_file c.deref-2.result.now file ≡ get_or c.args.before.now file false =
    ap (λ ws. has_file ws file) c.deref-2.ensures.value
    ∙ sym (member c.before-2.inside.file_count c.before-2.inside.words.items file c.before-2.invariant)
    ∙ ap (λ (set : List Bool). get_or set file false) c.before-2.view_is
    in
    ap (λ ws. get_or (members count ws) file false) (with_items_is (with_items words added) new long_new)
    ∙ member_below count new file below
    ∙ c.clear_spare.ensures.files file below
    ∙ ap (λ ws. has_file ws file) (c.deref_mut-2.ensures.value ∙ with_items_is words added long_added)
    ∙ c.add_new_bits.ensures.files file within
    ∙ ap₂ (λ x y. x || y) mine (ap₂ (λ x y. x && not y) seen before))

pub returns-clause-kept : goal.returns-clause-kept
returns-clause-kept c = λ file is. returns-clause-files c file (in_within c.args.self.now file is) ∙ or_left (get_or c.args.self.now file false) (get_or c.args.seen.now file false && not (get_or c.args.before.now file false)) is
