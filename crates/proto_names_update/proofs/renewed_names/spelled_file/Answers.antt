use Rattle.std.proofs.Common.{◌≡◌, List, map, sym, subst}
use Rattle.proto_base.proofs.Common.{IfOk-weaker}
use Rattle.proto_files.proofs.Common.{AreRead, AreWordsAt, ReadOf, read_at}
use Rattle.proto_names_imports.specs.Links.{IsListing}
use Rattle.proto_names_outline.proofs.Common.{read}
use Rattle.proto_names_outline.specs.declared.listing.Listed.{Listed}
use Rattle.proto_names_table.specs.LastWords.{AreListed, named_as}
use Rattle.proto_names_table.specs.Spelled.{named_in}
use Rattle.proto_text.proofs.Common.{word_at}
use Rattle.proto_tree.specs.File.{tree_of_file}
use Rattle.proto_names_update.proofs.FileLists.{listed_at, listing_at, named_at}
use Rattle.proto_names_update.proofs.renewed_names.spelled_file.Goals.{After-spelled_names}
use Rattle.proto_names_update.proofs.renewed_names.spelled_file.Goals as goal

file_words : (c : After-spelled_names) → AreWordsAt c.args.files.now c.args.file c.new-words.ensures.some.0 c.new-words.result
file_words c = record { within = c.requires; tokens_are = c.new-words.ensures.some.1; words = c.new-words.ensures.some.2 }

listing_is : (c : After-spelled_names) (reads : List ReadOf) → AreRead c.args.files.now reads → IsListing (read_at reads c.args.file) c.in_ok-listing.listing
listing_is c reads are =
    listing_at c.args.files.now reads c.args.file (tree_of_file c.tree.result.now) c.in_ok-listing.listing are c.requires c.tree.ensures
    c.in_ok-listing.ensures.sound c.in_ok-listing.ensures.declared c.in_ok-listing.ensures.used

pub returns-clause-spelled : goal.returns-clause-spelled
returns-clause-spelled c =
    let at = (goal.at.returns-clause-spelled c).After-spelled_names in
    let reads = c.are_read.ensures.0 in
    let are = c.are_read.ensures.1 in
    let listed : AreListed (word_at c.new-words.result) c.deref.result.now =
    subst (λ (es : List Listed). AreListed (word_at c.new-words.result) es) (sym c.deref.ensures.value)
    (listed_at c.args.files.now c.args.file c.new-words.ensures.some.0 c.new-words.result (file_words at) reads are c.in_ok-listing.listing (listing_is at reads are)) in
    IfOk-weaker c.spelled_names.result _ _ (λ ss h. h listed) c.spelled_names.ensures.spelled

pub returns-clause-named : goal.returns-clause-named
returns-clause-named c =
    let at = (goal.at.returns-clause-named c).After-spelled_names in
    IfOk-weaker c.spelled_names.result _ _ (λ ss h reads are.
    named_at c.args.files.now c.args.file c.new-words.ensures.some.0 c.new-words.result (file_words at) reads are c.in_ok-listing.listing (listing_is at reads are) ss.items
    (subst (λ (es : List Listed). named_in c.args.file ss.items ≡ map (named_as c.args.file (word_at c.new-words.result)) (read es)) c.deref.ensures.value (h c.args.file))) c.spelled_names.ensures.names
