use Rattle.std.proofs.Common.{◌≡◌, ◌+◌, ◌++◌, ◌∷◌, [], ◌∙◌, sym, refl, subst, List, ℕ, Option, Ok, flat_map, inl, inr, arith}
use Rattle.std.specs.Io.KnownBytes.{Appends}
use Rattle.std.proofs.KnownBytes.{Appends-trans}
use Rattle.std.specs.Global.{Vec}
use Rattle.proto_base.specs.Texts.{Text}
use Rattle.proto_frames.specs.Frames.{GivesFrame, frame, frame_or_end}
use Rattle.proto_frames.specs.Writing.{AppendsBeginning}
use Rattle.proto_serving.specs.Serving.{IsReason, Ran, Turn, replies_text, texts}
use Rattle.proto_serving.specs.declared.fault.ServeFault.TheVariants.{Take}
use Rattle.proto_serving.specs.declared.fault.TakeFault.TheVariants.{Refused}
use Rattle.proto_serving.proofs.Runs.{appends_none, at_end, ran_more, replies_more, turns_more, untaken}
use Rattle.proto_serving.proofs.serving.serve.Goals as goal

pub loop-turn-init : goal.loop-turn-init
loop-turn-init g c = λ bytes known. ([], [], bytes, record { stream = refl; run = refl }, known, appends_none (g.W.Write.contents c.args.writer.now), refl)

pub returns-then-is_done-clause-ok : goal.returns-then-is_done-clause-ok
returns-then-is_done-clause-ok g c = λ bytes known.
    let inv = c.loop-turn.invariant bytes known in
    record { turns = inv.0; replies = inv.1; rest = inv.2; ran = inv.3; written = inv.5; ended = inl (sym c.is_done.ensures ∙ c.if-is_done.true) }

pub returns-in-Ok-None-clause-ok : goal.returns-in-Ok-None-clause-ok
returns-in-Ok-None-clause-ok g c = λ bytes known.
    let inv = c.loop-turn.invariant bytes known in
    let read = subst (λ (o : Option (Vec ℕ)). GivesFrame (g.R.Read.remaining c.read_frame.new.reader) (Ok o) (frame_or_end c.args.cap inv.2)) c.in-Ok-None.field-0-is (c.in-Ok-None.ensures inv.2 inv.4) in
    record { turns = inv.0; replies = inv.1; rest = inv.2; ran = inv.3; written = inv.5; ended = inr (at_end c.args.cap inv.2 read.1) }

-- the stream gives no message
pub returns-in-Err-clause-err : goal.returns-in-Err-clause-err
returns-in-Err-clause-err g c = λ bytes known.
    let inv = c.loop-turn.invariant bytes known in
    record {
      turns = inv.0;
      replies = inv.1;
      rest = inv.2;
      ran = inv.3;
      written = inv.5;
      reason = (sym c.is_done.ensures ∙ c.if-is_done.false, c.in-Err.ensures inv.2 inv.4);
    }

-- the machine does not take the message
pub returns-in-Err-take-clause-err : goal.returns-in-Err-take-clause-err
returns-in-Err-take-clause-err g c = λ bytes known.
    let inv = c.loop-turn.invariant bytes known in
    let read = subst (λ (o : Option (Vec ℕ)). GivesFrame (g.R.Read.remaining c.read_frame.new.reader) (Ok o) (frame_or_end c.args.cap inv.2)) c.in-Ok-Some.field-0-is (c.in-Ok-Some.ensures inv.2 inv.4) in
    let refused = subst (λ (t : Text). c.in-Err-take.fault ≡ Refused → g.M.Machine.refuses c.loop-turn.machine t) c.as_slice.ensures.value c.in-Err-take.ensures.refused in
    let same = sym c.in-Err-take.ensures.err in
    record {
      turns = inv.0;
      replies = inv.1;
      rest = inv.2;
      ran = subst (λ (m : _). Ran g.M.Machine.steps g.M.Machine.done c.args.cap bytes c.args.machine.now m inv.0 inv.1 inv.2) same inv.3;
      written = inv.5;
      reason = subst (λ (m : _). IsReason g.M.Machine.refuses g.M.Machine.done c.args.cap m inv.0 inv.2 (Take c.in-Err-take.fault)) same
          (sym c.is_done.ensures ∙ c.if-is_done.false, untaken g.M.Machine.refuses c.args.cap c.loop-turn.machine inv.2 c.in-Ok-Some.content.items read.0 c.in-Err-take.fault read.2 refused);
    }

-- there are too many messages
pub returns-clause-err : goal.returns-clause-err
returns-clause-err g c = λ bytes known.
    let inv = c.loop-turn.invariant bytes known in
    record {
      turns = inv.0;
      replies = inv.1;
      rest = inv.2;
      ran = inv.3;
      written = inv.5;
      reason = omega (arith, inv.6);
    }

-- a reply is not written whole
pub returns-in-Err-write_all-clause-err : goal.returns-in-Err-write_all-clause-err
returns-in-Err-write_all-clause-err g c = λ bytes known.
    let inv = c.loop-turn.invariant bytes known in
    let turn : Turn = record { content = c.in-Ok-Some.content.items; is_followed = c.is_followed-is_followed.result } in
    let read = subst (λ (o : Option (Vec ℕ)). GivesFrame (g.R.Read.remaining c.read_frame.new.reader) (Ok o) (frame_or_end c.args.cap inv.2)) c.in-Ok-Some.field-0-is (c.in-Ok-Some.ensures inv.2 inv.4) in
    let step = subst (λ (t : Text). g.M.Machine.steps c.loop-turn.machine t c.is_followed-is_followed.result (texts c.in-Ok.replies.items) c.take.new.self) c.as_slice.ensures.value c.in-Ok.ensures.step in
    let cut = subst (λ (vs : List (Vec ℕ)). AppendsBeginning (g.W.Write.contents c.loop-turn.writer) (g.W.Write.contents c.write_all.new.writer) (flat_map frame (texts vs))) c.as_slice-in-loop-turn.ensures.value c.in-Err-write_all.ensures.err in
    record {
      turns = inv.0 ++ (turn ∷ []);
      replies = inv.1 ++ (texts c.in-Ok.replies.items ∷ []);
      rest = read.0;
      ran = ran_more g.M.Machine.steps g.M.Machine.done c.args.cap bytes c.args.machine.now c.loop-turn.machine c.take.new.self inv.0 inv.1 inv.2 turn read.0 (texts c.in-Ok.replies.items) inv.3 (sym c.is_done.ensures ∙ c.if-is_done.false) read.2 (c.is_followed-is_followed.ensures read.0 read.1) step;
      written = (inv.1, texts c.in-Ok.replies.items, g.W.Write.contents c.loop-turn.writer, refl, inv.5, cut);
      reason = tt;
    }

pub loop-turn-preserved : goal.loop-turn-preserved
loop-turn-preserved g c = λ bytes known.
    let inv = c.loop-turn.invariant bytes known in
    let turn : Turn = record { content = c.in-Ok-Some.content.items; is_followed = c.is_followed-is_followed.result } in
    let read = subst (λ (o : Option (Vec ℕ)). GivesFrame (g.R.Read.remaining c.read_frame.new.reader) (Ok o) (frame_or_end c.args.cap inv.2)) c.in-Ok-Some.field-0-is (c.in-Ok-Some.ensures inv.2 inv.4) in
    let step = subst (λ (t : Text). g.M.Machine.steps c.loop-turn.machine t c.is_followed-is_followed.result (texts c.in-Ok.replies.items) c.take.new.self) c.as_slice.ensures.value c.in-Ok.ensures.step in
    let wrote = subst (λ (vs : List (Vec ℕ)). Appends (g.W.Write.contents c.loop-turn.writer) (g.W.Write.contents c.write_all.new.writer) (flat_map frame (texts vs))) c.as_slice-in-loop-turn.ensures.value c.in_default.ensures.ok in (
      inv.0 ++ (turn ∷ []),
      inv.1 ++ (texts c.in-Ok.replies.items ∷ []),
      read.0,
      ran_more g.M.Machine.steps g.M.Machine.done c.args.cap bytes c.args.machine.now c.loop-turn.machine c.take.new.self inv.0 inv.1 inv.2 turn read.0 (texts c.in-Ok.replies.items) inv.3 (sym c.is_done.ensures ∙ c.if-is_done.false) read.2 (c.is_followed-is_followed.ensures read.0 read.1) step,
      read.1,
      subst (λ (t : Text). Appends (g.W.Write.contents c.args.writer.now) (g.W.Write.contents c.write_all.new.writer) t) (replies_more inv.1 (texts c.in-Ok.replies.items))
          (Appends-trans _ _ _ (replies_text inv.1) (flat_map frame (texts c.in-Ok.replies.items)) inv.5 wrote),
      turns_more inv.0 turn c.loop-turn._turn inv.6,
    )
