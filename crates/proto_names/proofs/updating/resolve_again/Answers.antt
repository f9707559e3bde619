use Rattle.std.proofs.Common.{◌≡◌, ◌≢◌, ◌<◌, ℕ, true, false, List, [], length, get_or, map, take, sym, ◌∙◌, subst, inl, inr, arith, take_all, All}
use Rattle.std.specs.List.{Contains}
use Rattle.std.proofs.lemmas.Bool.{cases_eq}
use Rattle.std.proofs.lemmas.List.Elements.{All-contains, All-more, All-weaker}
use Rattle.proto_base.proofs.Common.{Vec, both_ways, length-map}
use Rattle.proto_base.specs.Undone.{AreWithin}
use Rattle.proto_file_sets.specs.FileSets.{IsIn}
use Rattle.proto_file_sets.proofs.Members.{file_is_listed, files_are_in, files_below, in_within}
use Rattle.proto_files.specs.FilesRead.{ReadOf}
use Rattle.proto_names.specs.Common.{AreFileMeant, Meant}
use Rattle.proto_names.proofs.updating.resolve_again.Goals as goal

pub resolve_file-requires-clause-file : goal.resolve_file-requires-clause-file
resolve_file-requires-clause-file c =
    let marks = c.args.affected.now in
    let below = subst (All (λ (f : ℕ). f < length marks)) (sym (c.deref-file-items.ensures.value ∙ c.in_ok-again.ensures)) (files_below marks) in
    omega (arith, below c.loop-file.file-index 0 c.loop-file-test.true, c.requires.sized)

pub resolve_file-requires-clause-linked : goal.resolve_file-requires-clause-linked
resolve_file-requires-clause-linked c = λ reads are.
    (let marks = c.args.affected.now in
    let file = get_or c.deref-file-items.result.now c.loop-file.file-index 0 in
    let below = subst (All (λ (f : ℕ). f < length marks)) (sym (c.deref-file-items.ensures.value ∙ c.in_ok-again.ensures)) (files_below marks) in
    let within : file < length c.args.resolver.files.now = omega (arith, below c.loop-file.file-index 0 c.loop-file-test.true, c.requires.sized) in
    c.requires.linked reads are file within)

pub returns-in_err-resolve_file-clause-within : goal.returns-in_err-resolve_file-clause-within
returns-in_err-resolve_file-clause-within c = λ h.
    (subst (λ (n : ℕ). AreWithin n c.resolve_file.new.log.items) c.loop-file.invariant.len
    (c.resolve_file.ensures.within (subst (λ (n : ℕ). AreWithin n c.loop-file.log.items) (sym c.loop-file.invariant.len) (c.loop-file.invariant.within h))))

pub returns-then-not-branch-clause-within : goal.returns-then-not-branch-clause-within
returns-then-not-branch-clause-within c = λ h.
    (subst (λ (n : ℕ). AreWithin n c.resolve_file.new.log.items) c.loop-file.invariant.len
    (c.resolve_file.ensures.within (subst (λ (n : ℕ). AreWithin n c.loop-file.log.items) (sym c.loop-file.invariant.len) (c.loop-file.invariant.within h))))

pub loop-file-preserved : goal.loop-file-preserved
loop-file-preserved c =
    let was = c.loop-file.invariant in
    let marks = c.args.affected.now in
    let items = c.deref-file-items.result.now in
    let i = c.loop-file.file-index in
    let file = get_or items i 0 in
    let on : IsIn marks file = subst (All (IsIn marks)) (sym (c.deref-file-items.ensures.value ∙ c.in_ok-again.ensures)) (files_are_in marks) i 0 c.loop-file-test.true in
    let apart : (k : ℕ) → get_or marks k false ≡ false → k ≢ file = λ k u e. (both_ways (get_or marks file false) (subst (λ (n : ℕ). get_or marks n false ≡ false) e u) on) in
    let P = λ (reads : List ReadOf) (ms : List (Vec Meant)) (k : ℕ). AreFileMeant c.args.resolver.declarations.now.table c.args.resolver.files.now reads k (get_or (map (λ v. v.items) ms) k []) in
    let before = c.loop-file.meant.items in
    let now = c.resolve_file.new.meant.items in
    record {
      undone = c.resolve_file.ensures.undone ∙ was.undone;
      within = λ h.
          (subst (λ (n : ℕ). AreWithin n c.resolve_file.new.log.items) was.len
          (c.resolve_file.ensures.within (subst (λ (n : ℕ). AreWithin n c.loop-file.log.items) (sym was.len) (was.within h))));
      len = c.resolve_file.ensures.len ∙ was.len;
      below = λ h. c.resolve_file.ensures.below (was.below h);
      meant = λ reads are.
          (let own : P reads now file = c.in_ok-resolve_file.ensures.meant c.if-not-branch.false reads are in
          All-more (P reads now) items i 0 c.loop-file-test.true
          (All-weaker (P reads before) (P reads now)
          (λ k h. elim (cases_eq k file) [
            | inl same ↦ subst (P reads now) (sym same) own
            | inr other ↦ subst (λ (ms : List Meant). AreFileMeant c.args.resolver.declarations.now.table c.args.resolver.files.now reads k ms) (sym (c.resolve_file.ensures.others k other)) h
          ]) (take i items) (was.meant reads are)) own);
      others = λ k u. c.resolve_file.ensures.others k (apart k u) ∙ was.others k u;
    }

pub returns-clause-meant : goal.returns-clause-meant
returns-clause-meant c = λ _ reads are.
    (let marks = c.args.affected.now in
    let items = c.deref-file-items.result.now in
    let P = λ (k : ℕ). AreFileMeant c.args.resolver.declarations.now.table c.args.resolver.files.now reads k (get_or (map (λ v. v.items) c.loop-file.meant.items) k []) in
    let whole = subst (All P) (take_all c.loop-file.file-index items c.loop-file-test.false) (c.loop-file.invariant.meant reads are) in
    record {
      count = length-map c.loop-file.meant.items (λ v. v.items) ∙ c.loop-file.invariant.len ∙ c.requires.meant;
      marked = λ file l m. All-contains P items file whole (subst (λ (fs : List ℕ). Contains fs file) (sym (c.deref-file-items.ensures.value ∙ c.in_ok-again.ensures)) (file_is_listed marks file (in_within marks file m) m));
      others = λ file l u. c.loop-file.invariant.others file u;
    })
