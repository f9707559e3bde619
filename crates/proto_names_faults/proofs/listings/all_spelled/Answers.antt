use Rattle.std.proofs.Common.{◌≡◌, ℕ, ◌≤◌, ◌<◌, List, length, get_or, map, Some, sym, subst, arith}
use Rattle.proto_text.specs.Texts.{word_at}
use Rattle.proto_names_outline.proofs.Common.{items_in, last_token, needs, package_first, read, whole}
use Rattle.proto_names_rules.specs.Grown.{at}
use Rattle.proto_names_table.proofs.Common.{AreListed, named_as, AreSpelled, named_in}
use Rattle.proto_files.proofs.Common.{ReadOf, AreRead, read_at, each_pushed, AreWordsAt}
use Rattle.proto_names_imports.specs.Links.{IsListing, text_of}
use Rattle.proto_names_outline.specs.declared.listing.Listed.{Listed}
use Rattle.proto_names_outline.specs.declared.listing.Listing.{Listing}
use Rattle.proto_names_faults.proofs.EachFile.{all_pushed, named_files}
use Rattle.proto_names_update.proofs.FileLists.{listed_at, named_at}
use Rattle.proto_names_faults.proofs.listings.all_spelled.Goals as goal

pub spelled_names-requires-clause-ordered : goal.spelled_names-requires-clause-ordered
spelled_names-requires-clause-ordered c =
    let within : c.loop-file.file < length c.args.listings.now = omega (arith, c.requires.0, c.loop-file-test.true, c.len-file-end.ensures.len) in
    let listing = c.requires.1 c.are_read.ensures.0 c.are_read.ensures.1 c.loop-file.file c.index-listings-file.result within in
    subst (λ (es : List Listed). (k : ℕ) (d : Listed) → k < length es → needs (get_or es k d).above ≤ k) (sym c.deref.ensures.value) listing.sound.ordered

pub spelled_names-requires-clause-tokens : goal.spelled_names-requires-clause-tokens
spelled_names-requires-clause-tokens c =
    let within : c.loop-file.file < length c.args.listings.now = omega (arith, c.requires.0, c.loop-file-test.true, c.len-file-end.ensures.len) in
    let listing = c.requires.1 c.are_read.ensures.0 c.are_read.ensures.1 c.loop-file.file c.index-listings-file.result within in
    subst (λ (es : List Listed). map (λ e. Some e.token) es ≡ map (λ p. last_token (whole p)) (read es)) (sym c.deref.ensures.value) listing.sound.tokens

pub loop-file-preserved : goal.loop-file-preserved
loop-file-preserved c =
    let files = c.args.files.now in
    let file = c.loop-file.file in
    let tokens = c.new-words.ensures.some.0 in
    let ls = c.new-words.result in
    let all = c.loop-file.all.items in
    let v = c.in_ok-spelled_names.field-0 in
    let l : Listing = get_or c.args.listings.now file c.index-listings-file.result in
    let n : length all ≡ file = c.loop-file.invariant.len in
    let within : file < length c.args.listings.now = omega (arith, c.requires.0, c.loop-file-test.true, c.len-file-end.ensures.len) in
    let listing : (reads : List ReadOf) → AreRead files reads → IsListing (read_at reads file) l = λ reads are. c.requires.1 reads are file c.index-listings-file.result within in
    let f : AreWordsAt files file tokens ls = record {
      within = omega (arith, c.loop-file-test.true, c.len-file-end.ensures.len);
      tokens_are = c.new-words.ensures.some.1;
      words = c.new-words.ensures.some.2;
    } in
    let spelled : AreListed (word_at ls) l.declared.items → AreSpelled v.items = subst (λ (es : List Listed). AreListed (word_at ls) es → AreSpelled v.items) c.deref.ensures.value c.in_ok-spelled_names.ensures.spelled in
    let named : named_in file v.items ≡ map (named_as file (word_at ls)) (read l.declared.items) =
    subst (λ (es : List Listed). named_in file v.items ≡ map (named_as file (word_at ls)) (read es)) c.deref.ensures.value (c.in_ok-spelled_names.ensures.names file) in
    record {
      len = omega (arith, n, c.in_ok-push.ensures.len, c.loop-file.all.ok.0, c.push.new.self.ok.0);
      spelled = all_pushed (λ x. AreSpelled x.items) all c.push.new.self.items v c.in_ok-push.ensures.items c.loop-file.invariant.spelled
          (spelled (listed_at files file tokens ls f c.are_read.ensures.0 c.are_read.ensures.1 l (listing c.are_read.ensures.0 c.are_read.ensures.1)));
      each = λ (reads : List ReadOf) are.
          each_pushed (λ k x. named_in k x.items ≡ map (named_as k (λ i. text_of files reads (at k i))) (package_first (items_in (read_at reads k).tree))) all c.push.new.self.items v file c.in_ok-push.ensures.items n
          (c.loop-file.invariant.each reads are) (named_at files file tokens ls f reads are l (listing reads are) v.items named);
    }

pub returns-clause-names : goal.returns-clause-names
returns-clause-names c = λ (reads : List ReadOf) are.
    named_files (λ v. v.items) (text_of c.args.files.now reads) c.loop-file.all.items reads
    (let n : length c.loop-file.all.items ≡ c.loop-file.file = c.loop-file.invariant.len in
    omega (arith, n, are.same, c.loop-file-test.false, c.len-file-end.ensures.len, c.loop-file.auto.file-end))
    (c.loop-file.invariant.each reads are)
