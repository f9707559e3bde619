use Rattle.std.proofs.Common.{◌≡◌, ◌↔◌, ℕ, List, [], get_or, length, flat_map, Result, Ok, Err, IfOk, sym, ap, subst, ◌∙◌, false, arith, Contains}
use Rattle.std.proofs.lemmas.List.{length-map}
use Rattle.std.specs.List.{list_any}
use Rattle.proto_tree.specs.File.{tree_of_file}
use Rattle.proto_files.specs.FilesRead.{AreRead, read_at}
use Rattle.proto_names_outline.specs.Listing.{read, used_by}
use Rattle.proto_names_outline.specs.declared.listing.Use.{Use}
use Rattle.proto_names_rules.proofs.Common.{at}
use Rattle.proto_names.specs.Linking.{Meant}
use Rattle.proto_names_imports.specs.Links.{text_of, link_skeleton}
use Rattle.proto_edit_rename_laws.proofs.Common.{standing, name_map}
use Rattle.proto_edit_rename.specs.StandingTokens.{goes_on, may_be_referred, standing_tokens}
use Rattle.proto_edit_rename.proofs.ReferredKinds.{none_stands}
use Rattle.proto_edit_rename.proofs.StandingUses.{counted_are_standing, none_goes_on, meant_are_as_many, uses_are}
use Rattle.proto_edit_rename.proofs.standing.standing_in.Goals as goal

if_ok : {A E : Type 0} (P Q : A → Type 0) → ((x : A) → P x → Q x) → (r : Result A E) → IfOk r P → IfOk r Q
if_ok P Q f (Ok x) h = f x h
if_ok P Q f (Err e) h = tt

pub returns-then-not-may_be_referred : goal.returns-then-not-may_be_referred
returns-then-not-may_be_referred c = λ reads are t aimed to i.
    (let files = c.args.linked.now.files in
    let inner : may_be_referred t.aim.kind ≡ false = ap may_be_referred (sym aimed.kind) ∙ sym c.may_be_referred.ensures ∙ c.if-not-may_be_referred.true in
    let nothing = c.new.ensures.items in (
      λ h. absurd (let none = subst (λ (z : List ℕ). Contains z i) nothing h in omega (arith, none.1)),
      λ h. absurd (none_stands files reads are c.files-files.ensures.clean.clean c.args.target.name.now to t aimed.named inner (at c.args.file i) h),
    ))

pub returns-then-not-one_goes_on : goal.returns-then-not-one_goes_on
returns-then-not-one_goes_on c = λ reads are t aimed to i.
    (let files = c.args.linked.now.files in
    let l = c.args.linked.now.link in
    let name = c.args.target.name.now in
    let none : list_any (λ m. goes_on l name m.row) (get_or l.meant c.args.file []) ≡ false =
    ap (list_any (λ (m : Meant). goes_on l name m.row)) (sym (rw c.link-link.ensures.link at c.meant_in-meant.ensures.exact)) ∙ sym (rw c.link-link.ensures.link at c.one_goes_on.ensures) ∙ c.if-not-one_goes_on.true in
    let nothing = c.new-then-not-one_goes_on.ensures.items in (
      λ h. absurd (let empty = subst (λ (z : List ℕ). Contains z i) nothing h in omega (arith, empty.1)),
      λ h. absurd (none_goes_on files reads are c.files-files.ensures.clean.clean l (c.files-files.ensures.clean.link reads are) name to t aimed.named c.args.file c.requires [] none i h),
    ))

pub standing_words-requires : goal.standing_words-requires
standing_words-requires c =
    let files = c.args.linked.now.files in
    let reads = c.files-files.ensures.clean.reads in
    let are : AreRead files reads = c.files-files.ensures.clean.read in
    let listing = c.in_ok-listing.listing in
    let used = c.in_ok-listing.ensures.used ∙ uses_are files reads are c.args.file c.requires (tree_of_file c.tree.result.now) ((rw c.files-files.ensures.files at c.tree.ensures) (read_at reads c.args.file).tokens (are.tokens c.args.file c.requires)) in
    ap length (rw c.link-link.ensures.link at c.meant_in-meant.ensures.exact)
    ∙ meant_are_as_many files reads c.args.linked.now.link (c.files-files.ensures.clean.link reads are) c.args.file c.requires
    ∙ sym (ap length used)
    ∙ length-map listing.used.items (used_by (read listing.declared.items))
    ∙ sym (ap length c.deref.ensures.value)

pub returns : goal.returns
returns c =
    let made = rw c.link-link.ensures.link at c.standing_words.ensures in
    if_ok _ _ (λ found h reads are t aimed to i.
    (let files = c.args.linked.now.files in
    let listing = c.in_ok-listing.listing in
    let used = c.in_ok-listing.ensures.used ∙ uses_are files reads are c.args.file c.requires (tree_of_file c.tree.result.now) ((rw c.files-files.ensures.files at c.tree.ensures) (read_at reads c.args.file).tokens (are.tokens c.args.file c.requires)) in
    let is = h ∙ ap (λ (z : List Use). standing_tokens c.args.linked.now.link c.args.target.name.now z c.meant_in-meant.result.now) c.deref.ensures.value ∙ ap (standing_tokens c.args.linked.now.link c.args.target.name.now listing.used.items) (rw c.link-link.ensures.link at c.meant_in-meant.ensures.exact) in
    subst (λ (z : List ℕ). Contains z i ↔ Contains (flat_map (standing (text_of files reads) (link_skeleton files reads) (name_map files reads t to)) (link_skeleton files reads).used) (at c.args.file i)) (sym is)
    (counted_are_standing files reads are c.files-files.ensures.clean.clean c.args.linked.now.link (c.files-files.ensures.clean.link reads are) c.args.target.name.now to t aimed.named c.args.file c.requires (read listing.declared.items) listing.used.items used i)))
    c.standing_words.result made
