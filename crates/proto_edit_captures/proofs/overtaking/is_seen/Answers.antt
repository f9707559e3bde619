use Rattle.std.proofs.Common.{sym, ◌∙◌}
use Rattle.std.specs.HashSet.{contains_text}
use Rattle.proto_edit_captures.proofs.SeenTexts.{of_file, of_package, sees_none, unfit}
use Rattle.proto_edit_captures.proofs.overtaking.is_seen.Goals as goal

pub returns-in_default : goal.returns-in_default
returns-in_default c = sees_none c.args.seen.now.link.now c.args.seen.now.files.now (contains_text c.args.seen.now.packages) c.args.fit c.args.name.now c.in_default.ensures.none

pub returns-then-not-fits : goal.returns-then-not-fits
returns-then-not-fits c =
    unfit c.args.seen.now.link.now c.args.seen.now.files.now (contains_text c.args.seen.now.packages) c.args.fit c.args.name.now c.in-Some.id.row c.in-Some.ensures.some c.in-Some.ensures.once c.in-Some-kind_of.kind
    (sym c.kind_of.ensures ∙ c.in-Some-kind_of.is) (sym c.fits.ensures ∙ c.if-not-fits.true)

pub returns-in-Some-file_of : goal.returns-in-Some-file_of
returns-in-Some-file_of c =
    c.contains.ensures
    ∙ of_file c.args.seen.now.link.now c.args.seen.now.files.now (contains_text c.args.seen.now.packages) c.args.fit c.args.name.now c.in-Some.id.row c.in-Some.ensures.some c.in-Some.ensures.once c.in-Some-kind_of.kind
    (sym c.kind_of.ensures ∙ c.in-Some-kind_of.is) (sym c.fits.ensures ∙ c.if-not-fits.false) c.in-Some-file_of.file (sym c.file_of.ensures.exact ∙ c.in-Some-file_of.is)

pub returns-in-None : goal.returns-in-None
returns-in-None c =
    c.contains-in-None.ensures
    ∙ of_package c.args.seen.now.link.now c.args.seen.now.files.now (contains_text c.args.seen.now.packages) c.args.fit c.args.name.now c.in-Some.id.row c.in-Some.ensures.some c.in-Some.ensures.once c.in-Some-kind_of.kind
    (sym c.kind_of.ensures ∙ c.in-Some-kind_of.is) (sym c.fits.ensures ∙ c.if-not-fits.false) (sym c.file_of.ensures.exact ∙ c.in-None.is)
