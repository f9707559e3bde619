-- Runs and streams, one message further.
use Rattle.std.proofs.Common.{◌≡◌, ℕ, Bool, false, true, ◌+◌, ◌<◌, ◌≤◌, List, [], ◌∷◌, ◌++◌, length, take, drop, flat_map, get_or, Option, Some, None, Result, Ok, refl, sym, ap, subst, ◌∙◌, append_assoc}
use Rattle.std.proofs.lemmas.List.{append-nil, length_push, take-append-drop, take_more, drop_more, map-append}
use Rattle.std.proofs.lemmas.List.Concat.{flat_map-cons}
use Rattle.std.proofs.lemmas.Grind.{flat_map-append}
use Rattle.std.specs.Io.KnownBytes.{Appends}
use Rattle.std.specs.Global.{Vec}
use Rattle.proto_base.specs.Texts.{Text}
use Rattle.proto_frames.specs.Frames.{frame, frame_at, frame_or_end, some_of}
use Rattle.proto_frames.specs.Grammar.{IsFrame}
use Rattle.proto_frames.specs.declared.fault.FrameFault.{FrameFault}
use Rattle.proto_frames.proofs.Grammar.{bind_ok, read_is_frame}
use Rattle.proto_serving.specs.Serving.{HasFrame, HasPrefix, IsStream, IsUntaken, Ran, Run, Turn, replies_text, texts}
use Rattle.proto_serving.specs.declared.fault.TakeFault.{TakeFault}
use Rattle.proto_serving.specs.declared.fault.TakeFault.TheVariants.{NoMemory, Refused}

-- nothing is appended
pub appends_none : (o : Option Text) → Appends o o []
appends_none None = tt
appends_none (Some xs) = sym (append-nil xs)

-- the frames of one reply
single : (x : Vec ℕ) → flat_map frame (texts (x ∷ [])) ≡ frame x.items
single x = flat_map-cons frame x.items [] ∙ append-nil (frame x.items)

-- the frames of the replies, one reply further
pub texts_more : (xs : List (Vec ℕ)) (i : ℕ) (x : Vec ℕ) → i < length xs → x ≡ get_or xs i x
    → flat_map frame (texts (take i xs)) ++ frame x.items ≡ flat_map frame (texts (take (i + 1) xs))
texts_more xs i x lt is =
    sym (ap (λ (vs : List (Vec ℕ)). flat_map frame (texts vs)) (take_more xs i x lt ∙ ap (λ (v : Vec ℕ). take i xs ++ (v ∷ [])) (sym is))
    ∙ ap (flat_map frame) (map-append (λ (v : Vec ℕ). v.items) (take i xs) (x ∷ []))
    ∙ flat_map-append frame (texts (take i xs)) (texts (x ∷ []))
    ∙ ap (λ (t : Text). flat_map frame (texts (take i xs)) ++ t) (single x))

-- the frames before a reply and a part of its frame are a prefix of all frames
pub beginning : (xs : List (Vec ℕ)) (i : ℕ) (x : Vec ℕ) (written rest : Text) → i < length xs → x ≡ get_or xs i x → frame x.items ≡ written ++ rest
    → flat_map frame (texts xs) ≡ (flat_map frame (texts (take i xs)) ++ written) ++ (rest ++ flat_map frame (texts (drop (i + 1) xs)))
beginning xs i x written rest lt is cut =
    let front : Text = flat_map frame (texts (take i xs)) in
    let tail : Text = flat_map frame (texts (drop (i + 1) xs)) in
    let left : drop i xs ≡ x ∷ drop (i + 1) xs = drop_more xs i x lt ∙ ap (λ (v : Vec ℕ). v ∷ drop (i + 1) xs) (sym is) in
    ap (λ (vs : List (Vec ℕ)). flat_map frame (texts vs)) (sym (take-append-drop i xs))
    ∙ ap (flat_map frame) (map-append (λ (v : Vec ℕ). v.items) (take i xs) (drop i xs))
    ∙ flat_map-append frame (texts (take i xs)) (texts (drop i xs))
    ∙ ap (λ (vs : List (Vec ℕ)). front ++ flat_map frame (texts vs)) left
    ∙ ap (λ (t : Text). front ++ t) (flat_map-cons frame x.items (texts (drop (i + 1) xs)) ∙ ap (λ (t : Text). t ++ tail) cut ∙ append_assoc written rest tail)
    ∙ sym (append_assoc front written (rest ++ tail))

-- the stream, one turn further
pub stream_more : (cap : ℕ) (bytes : Text) (ts : List Turn) (rest : Text) (t : Turn) (text more : Text) → IsStream cap bytes ts rest → IsFrame text t.content → length t.content ≤ cap
    → rest ≡ text ++ more → (t.is_followed ≡ true → HasFrame cap more) → IsStream cap bytes (ts ++ (t ∷ [])) more
stream_more cap bytes [] rest t text more so frame short is follows = (text, more, frame, short, so ∙ is, follows, refl)
stream_more cap bytes (d ∷ ds) rest t text more so frame short is follows =
    (so.0, so.1, so.2, so.3, so.4, so.5, stream_more cap so.1 ds rest t text more so.6 frame short is follows)

-- the machine's run, one turn further
pub run_more : {M : Type 0} (steps : M → Text → Bool → List Text → M → Type 0) (is_done : M → Bool) (old : M) (ts : List Turn) (rs : List (List Text)) (mid : M) (t : Turn) (r : List Text) (new : M)
    → Run steps is_done old ts rs mid → is_done mid ≡ false → steps mid t.content t.is_followed r new → Run steps is_done old (ts ++ (t ∷ [])) (rs ++ (r ∷ [])) new
run_more {M} steps is_done old [] [] mid t r new so takes step =
    (subst (λ (m : M). is_done m ≡ false) so takes, new, subst (λ (m : M). steps m t.content t.is_followed r new) so step, refl)
run_more steps is_done old [] (s ∷ rs) mid t r new so takes step = elim so [ ]
run_more steps is_done old (d ∷ ds) [] mid t r new so takes step = elim so [ ]
run_more steps is_done old (d ∷ ds) (s ∷ rs) mid t r new so takes step =
    (so.0, so.1, so.2, run_more steps is_done so.1 ds rs mid t r new so.3 takes step)

-- the frames of all replies, those of one turn further
pub replies_more : (rs : List (List Text)) (r : List Text) → replies_text rs ++ flat_map frame r ≡ replies_text (rs ++ (r ∷ []))
replies_more rs r =
    sym (flat_map-append (λ (x : List Text). flat_map frame x) rs (r ∷ [])
    ∙ ap (λ (t : Text). replies_text rs ++ t) (flat_map-cons (λ (x : List Text). flat_map frame x) r [] ∙ append-nil (flat_map frame r)))

-- a content and what follows it, read well
abbrev or_none : Option (Text × Text) → Result (Option (Text × Text)) FrameFault
or_none o = Ok o

-- the stream is at its end only where it has no bytes
pub at_end : (cap : ℕ) (bytes : Text) → frame_or_end cap bytes ≡ Ok None → bytes ≡ []
at_end cap [] is = refl
at_end cap (b ∷ bs) is =
    let q = bind_ok (frame_at cap (b ∷ bs)) (λ x. or_none (some_of x)) None is in
    absurd cc

-- what was read is one
same_frame : (a b : Text × Text) → or_none (some_of a) ≡ or_none (some_of b) → a ≡ b
same_frame a b is = cc

-- what was read is a frame
pub at_frame : (cap : ℕ) (bytes c rest : Text) → frame_or_end cap bytes ≡ Ok (Some (c, rest)) → (text : Text) × IsFrame text c × (bytes ≡ text ++ rest) × (length c ≤ cap)
at_frame cap [] c rest is = absurd cc
at_frame cap (b ∷ bs) c rest is =
    let q = bind_ok (frame_at cap (b ∷ bs)) (λ x. or_none (some_of x)) (some_of (c, rest)) is in
    let same : q.0 ≡ (c, rest) = same_frame q.0 (c, rest) q.2 in
    read_is_frame cap (b ∷ bs) c rest (q.1 ∙ ap ok same)
  where
    ok : Text × Text → Result (Text × Text) FrameFault
    ok x = Ok x

-- one turn further
pub ran_more : {M : Type 0} (steps : M → Text → Bool → List Text → M → Type 0) (is_done : M → Bool) (cap : ℕ) (bytes : Text) (old mid new : M) (ts : List Turn) (rs : List (List Text)) (rest : Text) (t : Turn) (more : Text) (r : List Text)
    → Ran steps is_done cap bytes old mid ts rs rest → is_done mid ≡ false → frame_or_end cap rest ≡ Ok (Some (t.content, more)) → (t.is_followed ≡ true → HasFrame cap more) → steps mid t.content t.is_followed r new
    → Ran steps is_done cap bytes old new (ts ++ (t ∷ [])) (rs ++ (r ∷ [])) more
ran_more steps is_done cap bytes old mid new ts rs rest t more r ran takes is follows step =
    let f = at_frame cap rest t.content more is in
    record {
      stream = stream_more cap bytes ts rest t f.0 more ran.stream f.1 f.3 f.2 follows;
      run = run_more steps is_done old ts rs mid t r new ran.run takes step;
    }

-- a frame at the front stays there, whatever follows
pub frame_before : (cap : ℕ) (prefix bytes : Text) → HasFrame cap prefix → HasPrefix prefix bytes → HasFrame cap bytes
frame_before cap prefix bytes has of = record {
  text = has.text;
  content = has.content;
  rest = has.rest ++ of.rest;
  is_frame = has.is_frame;
  short = has.short;
  first = of.whole ∙ ap (λ (t : Text). t ++ of.rest) has.first ∙ append_assoc has.text has.rest of.rest;
}

-- what is read of known bytes is a frame at their front
abbrev pub frame_read : (cap : ℕ) (bytes c rest : Text) → frame_or_end cap bytes ≡ Ok (Some (c, rest)) → HasFrame cap bytes
frame_read cap bytes c rest is =
    let f = at_frame cap bytes c rest is in
    record { text = f.0; content = c; rest = rest; is_frame = f.1; short = f.3; first = f.2 }

-- why a message was not taken
pub untaken : {M : Type 0} (refuses : M → Text → Type 0) (cap : ℕ) (old : M) (rest c more : Text) (fault : TakeFault) → frame_or_end cap rest ≡ Ok (Some (c, more))
    → (fault ≡ Refused → refuses old c) → IsUntaken refuses cap old rest fault
untaken refuses cap old rest c more NoMemory is so = frame_read cap rest c more is
untaken refuses cap old rest c more Refused is so = (frame_read cap rest c more is, so refl)

-- the text is the prefix and what follows it
pub prefix_of : (prefix rest : Text) → HasPrefix prefix (prefix ++ rest)
prefix_of prefix rest = record { rest = rest; whole = refl }

-- one turn more
pub turns_more : (ts : List Turn) (t : Turn) (n : ℕ) → length ts ≡ n → length (ts ++ (t ∷ [])) ≡ n + 1
turns_more ts t n is = length_push ts t ∙ ap (λ k. k + 1) is
