use Rattle.std.proofs.Common.{◌<◌, ◌∙◌, length, map, ap, arith, sym}
use Rattle.proto_base.proofs.Common.{map_push}
use Rattle.proto_desc.specs.NewTexts.{IsReadText, read_text, with_old}
use Rattle.proto_desc.specs.declared.texts.ReadText.{ReadText}
use Rattle.proto_desc.proofs.WithTexts.{all_but_last, length-with_text, profile_of_text, still_read, with_older}
use Rattle.proto_desc.proofs.put_texts.put_back.Goals as goal

pub put_text-requires-clause-place : goal.put_text-requires-clause-place
put_text-requires-clause-place c =
    let h = all_but_last (λ (t : ReadText). t.place < length c.args.files.now) c.loop-text.old.items c.pop.new.self.items c.in-Some.text c.in-Some.ensures.items c.loop-text.invariant.places in
    omega (arith, h.1, c.loop-text.invariant.len)

pub put_text-requires-clause-read : goal.put_text-requires-clause-read
put_text-requires-clause-read c =
    still_read c.args.files.now c.loop-text.files c.in-Some.text c.loop-text.invariant.languages
    (all_but_last (IsReadText c.args.files.now) c.loop-text.old.items c.pop.new.self.items c.in-Some.text c.in-Some.ensures.items c.loop-text.invariant.read).1

pub loop-text-preserved : goal.loop-text-preserved
loop-text-preserved c =
    let rest = c.pop.new.self.items in
    let text = c.in-Some.text in
    let whole = c.in-Some.ensures.items in
    let now = c.loop-text.files in
    record {
      back =
          ap (with_old (map read_text rest)) c.put_text.ensures.files
          ∙ sym (with_older (map read_text rest) (read_text text) now)
          ∙ ap (λ ts. with_old ts now) (sym (ap (map read_text) whole ∙ map_push read_text rest text))
          ∙ c.loop-text.invariant.back;
      len = ap length c.put_text.ensures.files ∙ length-with_text now (read_text text) ∙ c.loop-text.invariant.len;
      places = (all_but_last (λ (t : ReadText). t.place < length c.args.files.now) c.loop-text.old.items rest text whole c.loop-text.invariant.places).0;
      languages = λ k. profile_of_text now c.put_text.new.files (read_text text) k c.put_text.ensures.files ∙ c.loop-text.invariant.languages k;
      read = (all_but_last (IsReadText c.args.files.now) c.loop-text.old.items rest text whole c.loop-text.invariant.read).0;
    }
