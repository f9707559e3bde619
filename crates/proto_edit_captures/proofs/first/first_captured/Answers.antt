use Rattle.std.proofs.Common.{◌<◌, ℕ, List, None, get_or, length, take, All, Contains, ap₂, sym, subst, ◌∙◌, inl, inr, arith, take_all}
use Rattle.std.proofs.lemmas.List.Elements.{All-contains, All-more}
use Rattle.proto_base.proofs.Common.{contains_or_not}
use Rattle.proto_files.specs.FilesRead.{ReadOf, AreRead}
use Rattle.proto_edit_rules.specs.Rename.{Target}
use Rattle.proto_edit_captures.specs.Common.{IsFirstIn, IsFoundTarget, has_to_be_asked, texts_of}
use Rattle.proto_edit_captures.proofs.AllFiles.{aim_inside, first_of_all, names_of_aim, none_in_all, nothing, rename_of}
use Rattle.proto_edit_captures.proofs.AskedFiles.{stands_before}
use Rattle.proto_edit_captures.proofs.FilesToAsk.{none_outside}
use Rattle.proto_edit_captures.proofs.first.first_captured.Goals as goal

pub new-own-requires : goal.new-own-requires
new-own-requires c = rw c.files-files.ensures.files (aim_inside c.args.linked.now.files c.args.target.now (c.files-files.ensures.clean.reads, c.files-files.ensures.clean.read) c.requires.target)

pub first_in_asked-requires-clause-file : goal.first_in_asked-requires-clause-file
first_in_asked-requires-clause-file c =
    omega (arith, subst (All (λ (f : ℕ). f < c.file_count.result)) (sym c.deref-file-items.ensures.value) c.in_ok-asked.ensures.within c.loop-file.file-index 0 c.loop-file-test.true, c.file_count.ensures.len)

pub returns-in-Some : goal.returns-in-Some
returns-in-Some c = λ reads are t aimed. (
    let files = c.args.linked.now.files in
    let aim = c.args.target.now in
    let to = c.args.to.now in
    let inside = aim_inside files aim (reads, are) c.requires.target in
    let r = rename_of files aim to reads are t aimed c.files-files.ensures.clean.clean c.requires.word (c.requires.free reads are t aimed) in
    let n = texts_of c.in_ok-names.names in
    let texts = names_of_aim files aim to reads are t aimed c.new-own.result n inside (rw c.files-files.ensures.files at c.new-own.ensures.words) c.in_ok-names.ensures in
    let items = c.deref-file-items.result.now in
    let i = c.loop-file.file-index in
    let file = get_or items i 0 in
    let same = c.deref-file-items.ensures.value in
    let below = subst (All (λ (f : ℕ). f < c.file_count.result)) (sym same) c.in_ok-asked.ensures.within i 0 c.loop-file-test.true in
    let within : file < length files = omega (arith, below, c.file_count.ensures.len) in
    let one = subst (IsFirstIn files reads t to file) c.in-Some.is (c.in_ok-token.ensures reads t to r texts) in
    let P = λ (k : ℕ). ((rs : List ReadOf) → AreRead files rs → (x : Target) → IsFoundTarget files rs aim x → IsFirstIn files rs x to k None) in
    first_of_all files reads are t to file c.in-Some.token
    (λ k lk. elim (contains_or_not items k) [
      | inl there ↦
          All-contains P (take i items) k c.loop-file.invariant
          (stands_before items (subst (λ (fs : List ℕ). (a b d : ℕ) → a < b → b < length fs → get_or fs a d < get_or fs b d) (sym same) c.in_ok-asked.ensures.rising) i k c.loop-file-test.true lk there) reads are t aimed
      | inr out ↦
          none_outside files reads t to r c.args.linked.now.link c.link.ensures.clean.link k (omega (arith, lk, within)) c.captures_begin_so.ensures c.visible_is_seen.ensures.shown n texts items
          (λ name asked. subst (λ (fs : List ℕ). Contains fs k) (sym same)
          (c.in_ok-asked.ensures.whole k name (omega (arith, lk, below))
          (ap₂ (λ ks l. has_to_be_asked ks l k name) c.new-keys.ensures c.link.ensures.link ∙ asked))) out
    ]) one)

pub loop-file-preserved : goal.loop-file-preserved
loop-file-preserved c =
    let files = c.args.linked.now.files in
    let aim = c.args.target.now in
    let to = c.args.to.now in
    let items = c.deref-file-items.result.now in
    let i = c.loop-file.file-index in
    let P = λ (k : ℕ). ((rs : List ReadOf) → AreRead files rs → (x : Target) → IsFoundTarget files rs aim x → IsFirstIn files rs x to k None) in
    All-more P items i 0 c.loop-file-test.true c.loop-file.invariant
    (λ reads are t aimed.
    let l = aim_inside files aim (reads, are) c.requires.target in
    let r = rename_of files aim to reads are t aimed c.files-files.ensures.clean.clean c.requires.word (c.requires.free reads are t aimed) in
    let texts = names_of_aim files aim to reads are t aimed c.new-own.result (texts_of c.in_ok-names.names) l (rw c.files-files.ensures.files at c.new-own.ensures.words) c.in_ok-names.ensures in
    subst (IsFirstIn files reads t to (get_or items i 0)) (nothing c.in_ok-token.field-0 c.in_default.not-Some) (c.in_ok-token.ensures reads t to r texts))

pub returns : goal.returns
returns c = λ reads are t aimed. (
    let files = c.args.linked.now.files in
    let aim = c.args.target.now in
    let to = c.args.to.now in
    let inside = aim_inside files aim (reads, are) c.requires.target in
    let r = rename_of files aim to reads are t aimed c.files-files.ensures.clean.clean c.requires.word (c.requires.free reads are t aimed) in
    let n = texts_of c.in_ok-names.names in
    let texts = names_of_aim files aim to reads are t aimed c.new-own.result n inside (rw c.files-files.ensures.files at c.new-own.ensures.words) c.in_ok-names.ensures in
    let items = c.deref-file-items.result.now in
    let same = c.deref-file-items.ensures.value in
    let P = λ (k : ℕ). ((rs : List ReadOf) → AreRead files rs → (x : Target) → IsFoundTarget files rs aim x → IsFirstIn files rs x to k None) in
    let whole = subst (All P) (take_all c.loop-file.file-index items c.loop-file-test.false) c.loop-file.invariant in
    none_in_all files reads are t to (λ k lk. elim (contains_or_not items k) [
      | inl there ↦ All-contains P items k whole there reads are t aimed
      | inr out ↦
          none_outside files reads t to r c.args.linked.now.link c.link.ensures.clean.link k lk c.captures_begin_so.ensures c.visible_is_seen.ensures.shown n texts items
          (λ name asked. subst (λ (fs : List ℕ). Contains fs k) (sym same)
          (c.in_ok-asked.ensures.whole k name (omega (arith, lk, c.file_count.ensures.len))
          (ap₂ (λ ks l. has_to_be_asked ks l k name) c.new-keys.ensures c.link.ensures.link ∙ asked))) out
    ]))
