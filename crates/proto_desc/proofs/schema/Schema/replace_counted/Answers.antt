use Rattle.std.proofs.Common.{length, map, refl, ap, arith, inl, inr}
use Rattle.proto_edit_entries.specs.Putting.{with_texts}
use Rattle.proto_desc.specs.NewTexts.{read_text}
use Rattle.proto_desc.specs.Whole.FileFaults.{of_check, of_link}
use Rattle.proto_desc.proofs.Opened.{checking_error, linking_error, none_of_files}
use Rattle.proto_desc.proofs.ReplacedTexts.{put_clean, put_error, put_files}
use Rattle.proto_desc.proofs.SameBut.{length_stands, same_but}
use Rattle.proto_desc.proofs.schema.Schema.replace_counted.Goals as goal

pub replace_with-replaced-requires-clause-places : goal.replace_with-replaced-requires-clause-places
replace_with-replaced-requires-clause-places c = λ k d l.
    (let ts = map (λ t. t.items) c.args.texts.items in
    let is = put_files c.self.inside.files c.args.self.now c.put_texts.new.files c.args.places.now ts (map read_text c.in_ok-read.read.items) c.self.view_is c.in_ok-read.ensures.same c.in_ok-old.ensures.files in
    omega (arith, c.requires.places k d l, ap length is, length_stands c.args.self.now c.args.places.now ts))

pub replace_with-replaced-requires-clause-were : goal.replace_with-replaced-requires-clause-were
replace_with-replaced-requires-clause-were c =
    let ts = map (λ t. t.items) c.args.texts.items in
    let files = c.self.inside.files in
    let is = put_files files files c.put_texts.new.files c.args.places.now ts (map read_text c.in_ok-read.read.items) refl c.in_ok-read.ensures.same c.in_ok-old.ensures.files in
    record {
      before = files;
      link = record { link = c.self.invariant.1.0; clean = λ y h. c.self.invariant.0 y (of_link y h); reads = c.are_read.ensures.0; read = c.are_read.ensures.1 };
      made = (c.self.invariant.1.1, λ y h. c.self.invariant.0 y (of_check y h));
      same = same_but files c.args.places.now ts c.put_texts.new.files is;
    }

pub returns-in-Ok-clause-files : goal.returns-in-Ok-clause-files
returns-in-Ok-clause-files c =
    put_files c.self.inside.files c.args.self.now c.put_texts.new.files c.args.places.now (map (λ t. t.items) c.args.texts.items) (map read_text c.in_ok-read.read.items) c.self.view_is c.in_ok-read.ensures.same c.in_ok-old.ensures.files

pub returns-in-Ok-clause-clean : goal.returns-in-Ok-clause-clean
returns-in-Ok-clause-clean c =
    let ts = map (λ t. t.items) c.args.texts.items in
    let new = c.put_texts.new.files in
    let is = put_files c.self.inside.files c.args.self.now new c.args.places.now ts (map read_text c.in_ok-read.read.items) c.self.view_is c.in_ok-read.ensures.same c.in_ok-old.ensures.files in
    put_clean (with_texts c.args.self.now c.args.places.now ts) new is c.len-count.ensures.workspace c.len-count.ensures.clean
    (none_of_files new c.len-count.ensures.clean c.in-Ok.ensures.clean c.in-Ok.ensures.made.1)

pub returns-in-Err-clause-fault : goal.returns-in-Err-clause-fault
returns-in-Err-clause-fault c =
    let ts = map (λ t. t.items) c.args.texts.items in
    let new = c.put_texts.new.files in
    let fault = c.in-Err.fault in
    let is = put_files c.self.inside.files c.args.self.now new c.args.places.now ts (map read_text c.in_ok-read.read.items) c.self.view_is c.in_ok-read.ensures.same c.in_ok-old.ensures.files in
    put_error (with_texts c.args.self.now c.args.places.now ts) new fault is c.len-count.ensures.workspace c.len-count.ensures.clean (elim c.in-Err.ensures.fault [
      | inl link ↦ linking_error new fault c.len-count.ensures.clean link
      | inr made ↦ checking_error new fault c.len-count.ensures.clean made.0 made.1
    ])

pub invariant_of-self-in-Ok-1 : goal.invariant_of-self-in-Ok-1
invariant_of-self-in-Ok-1 c = (none_of_files c.put_texts.new.files c.len-count.ensures.clean c.in-Ok.ensures.clean c.in-Ok.ensures.made.1, (c.in-Ok.ensures.link, c.in-Ok.ensures.made.0))
