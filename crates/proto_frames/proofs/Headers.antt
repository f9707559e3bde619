-- A header, line by line, and a content after it.
use Rattle.std.proofs.Common.{◌≡◌, ℕ, suc, true, false, cond, [], ◌∷◌, length, Option, Some, None, Result, Ok, Err, refl, sym, ap, subst, ◌∙◌, arith}
use Rattle.std.specs.Option.{ok_or}
use Rattle.proto_base.specs.Texts.{Text}
use Rattle.proto_frames.specs.Frames.{◌>>=◌, Fails, Gives, content_at, field, frame_at, frame_or_end, header_at, is_no_byte, line_at, line_limit, lines_limit, length_found, some_of}
use Rattle.proto_frames.specs.declared.fault.FrameFault.{FrameFault}
use Rattle.proto_frames.specs.declared.fault.FrameFault.TheVariants.{Malformed, TooLong, Cut, Input, NoMemory}
use Rattle.proto_frames.proofs.Lines.{cond_true, cond_false}

abbrev pub Header : Type 0
Header = Result (ℕ × Text) FrameFault

-- a step that fails, fails
pub bind_fails : {A B : Type 0} (e : FrameFault) (r : Result A FrameFault) (f : A → Result B FrameFault) → Fails e r → Fails e (r >>= f)
bind_fails Input r f is = tt
bind_fails NoMemory r f is = tt
bind_fails {A} {B} Malformed r f is = ap (λ (r : Result A FrameFault). r >>= f) is
bind_fails {A} {B} TooLong r f is = ap (λ (r : Result A FrameFault). r >>= f) is
bind_fails {A} {B} Cut r f is = ap (λ (r : Result A FrameFault). r >>= f) is

-- a step that succeeds goes on
pub bind_goes : {A B : Type 0} (r : Result A FrameFault) (x : A) (f : A → Result B FrameFault) → r ≡ Ok x → (r >>= f) ≡ f x
bind_goes {A} r x f is = ap (λ (r : Result A FrameFault). r >>= f) is

pub fails_too : {Y : Type 0} (e : FrameFault) (a b : Result Y FrameFault) → a ≡ b → Fails e a → Fails e b
fails_too {Y} e a b is f = subst (λ (r : Result Y FrameFault). Fails e r) is f

pub at_line : (k less : ℕ) (len : Option ℕ) (rest : Text) (read : Header) → k ≡ suc less → header_at k len rest ≡ read
    → (line_at line_limit rest >>= λ x. cond (is_no_byte x.0) (length_found len x.1) (field len x.0 >>= λ more. header_at less more x.1)) ≡ read
unfolding header_at
at_line k less len rest read one is = subst (λ n. header_at n len rest ≡ read) one is

pub line_fails : (k less : ℕ) (len : Option ℕ) (rest : Text) (read : Header) (e : FrameFault) → k ≡ suc less → header_at k len rest ≡ read → Fails e (line_at line_limit rest) → Fails e read
line_fails k less len rest read e one is f =
    fails_too e _ _ (at_line k less len rest read one is) (bind_fails e (line_at line_limit rest) _ f)

pub none_left : (line : Text) → length line ≡ 0 → is_no_byte line ≡ true
none_left [] is = refl
none_left (b ∷ bs) is = absurd (omega arith)

pub some_left : (line : Text) → (length line ≡ 0 → ⊥) → is_no_byte line ≡ false
some_left [] is = absurd (is refl)
some_left (b ∷ bs) is = refl

pub header_ends : (k less : ℕ) (len : Option ℕ) (rest line more : Text) (read : Header) → k ≡ suc less → header_at k len rest ≡ read → line_at line_limit rest ≡ Ok (line, more) → length line ≡ 0
    → length_found len more ≡ read
header_ends k less len rest line more read one is read_line empty =
    sym (bind_goes (line_at line_limit rest) (line, more) (λ x. cond (is_no_byte x.0) (length_found len x.1) (field len x.0 >>= λ l. header_at less l x.1)) read_line
    ∙ cond_true (is_no_byte line) (length_found len more) (field len line >>= λ l. header_at less l more) (none_left line empty))
    ∙ at_line k less len rest read one is

pub field_read : (k less : ℕ) (len : Option ℕ) (rest line more : Text) (read : Header) → k ≡ suc less → header_at k len rest ≡ read → line_at line_limit rest ≡ Ok (line, more) → (length line ≡ 0 → ⊥)
    → (field len line >>= λ l. header_at less l more) ≡ read
field_read k less len rest line more read one is read_line some =
    sym (bind_goes (line_at line_limit rest) (line, more) (λ x. cond (is_no_byte x.0) (length_found len x.1) (field len x.0 >>= λ l. header_at less l x.1)) read_line
    ∙ cond_false (is_no_byte line) (length_found len more) (field len line >>= λ l. header_at less l more) (some_left line some))
    ∙ at_line k less len rest read one is

pub gives_found : (new : Option Text) (len : Option ℕ) (more : Text) (read : Header) → new ≡ Some more → length_found len more ≡ read → Gives (λ n. n) new (ok_or len Malformed) read
gives_found new None more read known is = sym is
gives_found new (Some n) more read known is = (more, known, sym is)

pub lines_spent : (k : ℕ) (len : Option ℕ) (rest : Text) (read : Header) → k ≡ 0 → header_at k len rest ≡ read → read ≡ Err Malformed
unfolding header_at
lines_spent k len rest read none is = sym (subst (λ n. header_at n len rest ≡ read) none is)

field_fails_with : (e : FrameFault) (len : Option ℕ) (line : Text) → Err e ≡ field len line → Fails e (field len line)
field_fails_with Input len line is = tt
field_fails_with NoMemory len line is = tt
field_fails_with Malformed len line is = sym is
field_fails_with TooLong len line is = sym is
field_fails_with Cut len line is = sym is

pub field_fails : (k less : ℕ) (len : Option ℕ) (rest line more : Text) (read : Header) (e : FrameFault) → k ≡ suc less → header_at k len rest ≡ read → line_at line_limit rest ≡ Ok (line, more)
    → (length line ≡ 0 → ⊥) → Err e ≡ field len line → Fails e read
field_fails k less len rest line more read e one is read_line some f =
    fails_too e _ _ (field_read k less len rest line more read one is read_line some) (bind_fails e (field len line) _ (field_fails_with e len line f))

pub next_line : (k less : ℕ) (len now : Option ℕ) (rest line more : Text) (read : Header) → k ≡ suc less → header_at k len rest ≡ read → line_at line_limit rest ≡ Ok (line, more)
    → (length line ≡ 0 → ⊥) → Ok now ≡ field len line → header_at less now more ≡ read
next_line k less len now rest line more read one is read_line some f =
    sym (bind_goes (field len line) now (λ l. header_at less l more) (sym f)) ∙ field_read k less len rest line more read one is read_line some

-- ---- a whole frame

pub not_end : (cap : ℕ) (bytes : Text) → (bytes ≡ [] → ⊥) → (frame_at cap bytes >>= λ x. Ok (some_of x)) ≡ frame_or_end cap bytes
not_end cap [] some = absurd (some refl)
not_end cap (b ∷ bs) some = refl

pub header_fails : (e : FrameFault) (cap : ℕ) (bytes : Text) → (bytes ≡ [] → ⊥) → Fails e (header_at lines_limit None bytes) → Fails e (frame_or_end cap bytes)
header_fails e cap bytes some f = fails_too e _ _ (not_end cap bytes some) (bind_fails e (frame_at cap bytes) _ (bind_fails e (header_at lines_limit None bytes) _ f))

pub content_fails : (e : FrameFault) (cap len : ℕ) (bytes rest : Text) → (bytes ≡ [] → ⊥) → header_at lines_limit None bytes ≡ Ok (len, rest) → Fails e (content_at cap len rest) → Fails e (frame_or_end cap bytes)
content_fails e cap len bytes rest some is f =
    fails_too e _ _ (not_end cap bytes some) (bind_fails e (frame_at cap bytes) _
    (fails_too e _ _ (sym (bind_goes (header_at lines_limit None bytes) (len, rest) (λ x. content_at cap x.0 x.1) is)) f))

pub content_read : (cap len : ℕ) (bytes rest content more : Text) → (bytes ≡ [] → ⊥) → header_at lines_limit None bytes ≡ Ok (len, rest) → content_at cap len rest ≡ Ok (content, more)
    → frame_or_end cap bytes ≡ Ok (Some (content, more))
content_read cap len bytes rest content more some is f =
    sym (not_end cap bytes some)
    ∙ bind_goes (frame_at cap bytes) (content, more) (λ x. Ok (some_of x)) (bind_goes (header_at lines_limit None bytes) (len, rest) (λ x. content_at cap x.0 x.1) is ∙ f)
