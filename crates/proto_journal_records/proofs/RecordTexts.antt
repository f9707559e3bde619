-- The text of a record reads back as its data, and is that of no other record, and of one version.
use Rattle.std.proofs.Common.{◌≡◌, ℕ, suc, ◌+◌, ◌^◌, ◌<◌, ◌≤◌, List, [], ◌∷◌, ◌++◌, map, length, codes, Bool, true, Some, nat_lt, ◌&&◌, refl, sym, ap, ◌∙◌, subst, arith, IsUtf8, length-append, take, get_or, All, false, Option, None, ◌||◌, ◌==◌, ◌⊎◌, inl, inr, ap₂, if◌then◌else◌}
use Rattle.proto_base.proofs.Common.{AllPass, list_all, join_with_byte, and_parts, nat_tests, append_cancel_right, map-append, take_more, All-head, All-tail, All-map, All-push, IsUtf8-append, IsUtf8-nil, IsUtf8-string_bytes, text_limit, false≢true}
use Rattle.json.specs.Json.{document}
use Rattle.json.specs.Print.{escape_byte, quoted}
use Rattle.json.proofs.Printed.Utf8.{IsUtf8-are_ascii, are_ascii}
use Rattle.serde_json.specs.Data.{Data, number, unsigned, array, member, no_members, depth, items_depth}
use Rattle.serde_json.specs.View.{items_of}
use Rattle.serde_json.specs.Read.{of_json}
use Rattle.serde_json.specs.Written.{compact_text, members_text, outline}
use Rattle.proto_text.specs.declared.splice.Splice.{Splice}
use Rattle.proto_edit_entries.specs.declared.entry.Change.{Change}
use Rattle.proto_text.proofs.Common.{Edit, edit_of, edits, EachByte, IsRun, is_run, run_is, extends_word, is_digit, is_identifier, is_letter, is_mark, is_space, class_of}
use Rattle.proto_files.specs.WorkspacePaths.{is_path_byte, is_path_part, IsWorkspacePath}
use Rattle.proto_edit_entries.proofs.Common.{ChangeOf, change_of, IsChange, Asked, rename, delete_field, add_import, drop_import, IsDotted, IsNotable}
use Rattle.proto_journal_records.specs.Common.{State, Open, Done, splice_data, change_data, record_data, record_text, state_name, IsTextual, AreTextual, IsRecord, done, opened, HasNoFeed, Version, First, Second, RecordOf, IsNoted, asked_data, edit_data}
use Rattle.proto_journal_records.proofs.Lines.{same_before_last}
use Rattle.proto_journal_records.proofs.CompactText.{IsSimple, AreSimple, document-compact_text, reads, utf8, no_feed}
use Rattle.proto_text.specs.declared.class.Class.TheVariants.{Space, Letter, Digit, Quote, Mark, Slash, Other}

-- ---- texts

textual : (s : Splice) → IsTextual (edit_of s)
textual s = record { old = IsUtf8-string_bytes s.old; new = IsUtf8-string_bytes s.new }

pub edits_textual : (ss : List Splice) → All IsTextual (edits ss)
edits_textual ss = All-map IsTextual edit_of ss (λ k d lt. textual (get_or ss k d))

-- one change more
pub textual_more : (cs : List Change) (i : ℕ) (c : Change) → i < length cs → c ≡ get_or cs i c → AreTextual (map change_of (take i cs)) → All IsTextual c.splices → AreTextual (map change_of (take (i + 1) cs))
textual_more cs i c lt is before here =
    let more : map change_of (take (i + 1) cs) ≡ map change_of (take i cs) ++ change_of c ∷ [] =
    ap (map change_of) (take_more cs i c lt ∙ ap (λ (x : Change). take i cs ++ x ∷ []) (sym is)) ∙ map-append change_of (take i cs) (c ∷ []) in
    subst AreTextual (sym more) (All-push (λ (x : ChangeOf). All IsTextual x.splices) (map change_of (take i cs)) (change_of c) before here)

ascii_byte : (b : ℕ) → is_path_byte b ≡ true → nat_lt b 128 ≡ true
ascii_byte b h = grind (arith, nat_tests)

both : (a b : Bool) → a ≡ true → b ≡ true → (a && b) ≡ true
both a b h k = cc

ascii_part : (part : List ℕ) → list_all is_path_byte part ≡ true → are_ascii part ≡ true
ascii_part [] h = refl
ascii_part (b ∷ part) h =
    let p = and_parts (is_path_byte b) (list_all is_path_byte part) h in
    both (nat_lt b 128) (are_ascii part) (ascii_byte b p.0) (ascii_part part p.1)

utf8_part : (part : List ℕ) → is_path_part part ≡ true → IsUtf8 part
utf8_part part h = IsUtf8-are_ascii part (ascii_part part (and_parts _ (list_all is_path_byte part) h).1)

utf8_joined : (byte : ℕ) (p : List ℕ → Bool) → IsUtf8 (byte ∷ []) → ((part : List ℕ) → p part ≡ true → IsUtf8 part) → (parts : List (List ℕ)) → AllPass p parts → IsUtf8 (join_with_byte byte parts)
utf8_joined byte p one each [] h = IsUtf8-nil
utf8_joined byte p one each (part ∷ []) h = each part (All-head (λ x. p x ≡ true) part [] h)
utf8_joined byte p one each (part ∷ next ∷ parts) h =
    IsUtf8-append part _ (each part (All-head (λ x. p x ≡ true) part (next ∷ parts) h))
    (IsUtf8-append (byte ∷ []) _ one (utf8_joined byte p one each (next ∷ parts) (All-tail (λ x. p x ≡ true) part (next ∷ parts) h)))

utf8_path : (path : List ℕ) → IsWorkspacePath path → IsUtf8 path
utf8_path path h = subst IsUtf8 (sym h.parted.1) (utf8_joined 47 is_path_part (IsUtf8-are_ascii (47 ∷ []) refl) utf8_part h.parted.0 h.parted.2)

-- ---- the words of an edit are texts

letter_ascii : (b : ℕ) → is_letter b ≡ true → nat_lt b 128 ≡ true
letter_ascii b h = grind (arith, nat_tests)

digit_ascii : (b : ℕ) → is_digit b ≡ true → nat_lt b 128 ≡ true
digit_ascii b h = grind (arith, nat_tests)

-- of the classes in their order, letters and digits alone extend a word
letter_or_digit : (s l d q m z : Bool)
    → extends_word (if s then Space else (if l then Letter else (if d then Digit else (if q then Quote else (if m then Mark else (if z then Slash else Other)))))) ≡ true
    → (l ≡ true) ⊎ (d ≡ true)
letter_or_digit true l d q m z e = absurd (false≢true e)
letter_or_digit false true d q m z e = inl refl
letter_or_digit false false true q m z e = inr refl
letter_or_digit false false false true m z e = absurd (false≢true e)
letter_or_digit false false false false true z e = absurd (false≢true e)
letter_or_digit false false false false false true e = absurd (false≢true e)
letter_or_digit false false false false false false e = absurd (false≢true e)

ascii_letter : (b : ℕ) → is_identifier b ≡ true → nat_lt b 128 ≡ true
unfolding class_of
ascii_letter b h = elim (letter_or_digit (is_space b) (is_letter b) (is_digit b) (b == 34 || b == 39) (is_mark b) (b == 47) h) [
  | inl l ↦ letter_ascii b l
  | inr d ↦ digit_ascii b d
]

ascii_letters : (bytes : List ℕ) → EachByte is_identifier bytes → are_ascii bytes ≡ true
ascii_letters [] h = refl
ascii_letters (b ∷ bytes) h = both (nat_lt b 128) (are_ascii bytes) (ascii_letter b h.0) (ascii_letters bytes h.1)

run_utf8 : (word : List ℕ) → IsRun Letter word → IsUtf8 word
run_utf8 [] h = absurd h
run_utf8 (b ∷ bytes) h = IsUtf8-are_ascii (b ∷ bytes) (ascii_letters (b ∷ bytes) (ap extends_word h.0, h.1))

utf8_word : (word : List ℕ) → is_run word ≡ true → IsUtf8 word
utf8_word word h = run_utf8 word (run_is word h)

utf8_name : (name : List ℕ) → IsDotted name → IsUtf8 name
utf8_name name h = subst IsUtf8 (sym h.parted.1) (utf8_joined 46 is_run (IsUtf8-are_ascii (46 ∷ []) refl) utf8_word h.parted.0 h.parted.2)

-- ---- the data is simple

splice_simple : (e : Edit) → e.at < 2 ^ 64 → IsTextual e → IsSimple (splice_data e)
unfolding splice_data
splice_simple e h t =
    ((tt, ((refl, tt), ((refl, (refl, tt)), tt))), (h, (t.new, (t.old, tt, IsUtf8-are_ascii _ refl), IsUtf8-are_ascii _ refl), IsUtf8-are_ascii _ refl))

splices_simple : (limit : ℕ) (es : List Edit) → limit ≤ text_limit → All (λ e. e.at + length e.old ≤ limit) es → All IsTextual es → AreSimple (items_of (map splice_data es))
splices_simple limit [] small within texts = tt
splices_simple limit (e ∷ es) small within texts =
    let here : e.at + length e.old ≤ limit = All-head (λ (x : Edit). x.at + length x.old ≤ limit) e es within in
    (splice_simple e (omega (arith, here)) (All-head IsTextual e es texts), splices_simple limit es small (All-tail (λ (x : Edit). x.at + length x.old ≤ limit) e es within) (All-tail IsTextual e es texts))

change_simple : (c : ChangeOf) → IsChange c → All IsTextual c.splices → IsSimple (change_data c)
unfolding change_data
change_simple c h texts =
    let before : c.before ≤ text_limit = h.measured.before_fits in
    let after : c.after ≤ text_limit = h.measured.after_fits in
    let splices = splices_simple c.before c.splices before h.measured.lengths.within texts in (
      (tt, ((refl, tt), ((refl, (refl, tt)), ((refl, (refl, (refl, tt))), tt)))),
      (omega arith, (omega arith, (utf8_path c.path h.path, (splices, tt, IsUtf8-are_ascii _ refl), IsUtf8-are_ascii _ refl), IsUtf8-are_ascii _ refl), IsUtf8-are_ascii _ refl),
    )

changes_simple : (cs : List ChangeOf) → All IsChange cs → AreTextual cs → AreSimple (items_of (map change_data cs))
changes_simple [] h texts = tt
changes_simple (c ∷ cs) h texts = (
  change_simple c (All-head IsChange c cs h) (All-head (λ (x : ChangeOf). All IsTextual x.splices) c cs texts),
  changes_simple cs (All-tail IsChange c cs h) (All-tail (λ (x : ChangeOf). All IsTextual x.splices) c cs texts),
)

utf8_state : (s : State) → IsUtf8 (state_name s)
utf8_state Open = IsUtf8-are_ascii _ refl
utf8_state Done = IsUtf8-are_ascii _ refl

asked_simple : (e : Asked) → IsNotable e → IsSimple (asked_data e)
unfolding asked_data
asked_simple (rename name to) h = (
  (tt, ((refl, tt), ((refl, (refl, tt)), tt))),
  (IsUtf8-are_ascii _ refl, (utf8_name name h.0, (utf8_word to h.1, tt, IsUtf8-are_ascii _ refl), IsUtf8-are_ascii _ refl), IsUtf8-are_ascii _ refl),
)
asked_simple (delete_field name) h = (
  (tt, ((refl, tt), tt)),
  (IsUtf8-are_ascii _ refl, (utf8_name name h, tt, IsUtf8-are_ascii _ refl), IsUtf8-are_ascii _ refl),
)
asked_simple (add_import file path) h = (
  (tt, ((refl, tt), ((refl, (refl, tt)), tt))),
  (utf8_path file h.0, (IsUtf8-are_ascii _ refl, (utf8_path path h.1, tt, IsUtf8-are_ascii _ refl), IsUtf8-are_ascii _ refl), IsUtf8-are_ascii _ refl),
)
asked_simple (drop_import file path) h = (
  (tt, ((refl, tt), ((refl, (refl, tt)), tt))),
  (utf8_path file h.0, (IsUtf8-are_ascii _ refl, (utf8_path path h.1, tt, IsUtf8-are_ascii _ refl), IsUtf8-are_ascii _ refl), IsUtf8-are_ascii _ refl),
)

edit_simple : (o : Option Asked) → IsNoted o → IsSimple (edit_data o)
unfolding edit_data
edit_simple None h = tt
edit_simple (Some e) h = asked_simple e h

pub record_simple : (v : Version) (r : RecordOf) → IsRecord v r → IsSimple (record_data v r)
unfolding record_data
record_simple First r h = (
  (tt, ((refl, tt), ((refl, (refl, tt)), tt))),
  (changes_simple r.entry h.entry.each h.texts, (utf8_state r.state, (omega arith, tt, IsUtf8-are_ascii _ refl), IsUtf8-are_ascii _ refl), IsUtf8-are_ascii _ refl),
)
record_simple Second r h = (
  (tt, ((refl, tt), ((refl, (refl, tt)), ((refl, (refl, (refl, tt))), tt)))),
  (edit_simple r.edit h.edit, (changes_simple r.entry h.entry.each h.texts, (utf8_state r.state, (omega arith, tt, IsUtf8-are_ascii _ refl), IsUtf8-are_ascii _ refl), IsUtf8-are_ascii _ refl), IsUtf8-are_ascii _ refl),
)

splices_depth : (es : List Edit) → items_depth (items_of (map splice_data es)) ≤ 1
unfolding splice_data
splices_depth [] = omega arith
splices_depth (e ∷ es) = omega (arith, splices_depth es)

change_depth : (c : ChangeOf) → depth (change_data c) ≤ 3
unfolding change_data
change_depth c = omega (arith, splices_depth c.splices)

changes_depth : (cs : List ChangeOf) → items_depth (items_of (map change_data cs)) ≤ 3
changes_depth [] = omega arith
changes_depth (c ∷ cs) = omega (arith, changes_depth cs, change_depth c)

asked_depth : (e : Asked) → depth (asked_data e) ≤ 3
unfolding asked_data
asked_depth (rename name to) = omega arith
asked_depth (delete_field name) = omega arith
asked_depth (add_import file path) = omega arith
asked_depth (drop_import file path) = omega arith

edit_depth : (o : Option Asked) → depth (edit_data o) ≤ 3
unfolding edit_data
edit_depth None = omega arith
edit_depth (Some e) = asked_depth e

record_depth : (v : Version) (r : RecordOf) → depth (record_data v r) ≤ 128
unfolding record_data
record_depth First r = omega (arith, changes_depth r.entry)
record_depth Second r = omega (arith, changes_depth r.entry, edit_depth r.edit)

pub reads_record : (v : Version) (r : RecordOf) → IsRecord v r → document (compact_text (record_data v r)) ≡ Some (outline (record_data v r))
reads_record v r h = document-compact_text (record_data v r) (record_simple v r h) (record_depth v r)

pub utf8_record : (v : Version) (r : RecordOf) → IsRecord v r → IsUtf8 (compact_text (record_data v r))
utf8_record v r h = utf8 (record_data v r) (record_simple v r h)

pub no_feed_record : (v : Version) (r : RecordOf) → IsRecord v r → HasNoFeed (compact_text (record_data v r))
no_feed_record v r h = no_feed (record_data v r) (record_simple v r h)

-- ---- a line that is the text of a record

last_of : (xs ys : List ℕ) (a b : ℕ) → xs ++ a ∷ [] ≡ ys ++ b ∷ [] → a ≡ b
last_of [] [] a b e = cc
last_of [] (y ∷ ys) a b e = absurd (omega (arith, ap length e, length-append ys (b ∷ [])))
last_of (x ∷ xs) [] a b e = absurd (omega (arith, ap length e, length-append xs (a ∷ [])))
last_of (x ∷ xs) (y ∷ ys) a b e = let tail : xs ++ a ∷ [] ≡ ys ++ b ∷ [] = cc in last_of xs ys a b tail

same_end : (xs ys : List ℕ) (a b : ℕ) → xs ++ a ∷ [] ≡ ys ++ b ∷ [] → (a ≡ b) × (xs ≡ ys)
same_end xs ys a b e = (last_of xs ys a b e, same_before_last xs ys a b e)

pub line_parts : (v : Version) (r : RecordOf) (bytes line : List ℕ) (last : ℕ) → bytes ≡ line ++ last ∷ [] → record_text v r ≡ bytes → (last ≡ 10) × (line ≡ compact_text (record_data v r))
unfolding record_text
line_parts v r bytes line last split e = same_end line (compact_text (record_data v r)) last 10 (sym split ∙ sym e)

pub text_some : (v : Version) (r : RecordOf) (bytes : List ℕ) → length bytes ≡ 0 → record_text v r ≡ bytes → ⊥
unfolding record_text
text_some v r bytes none e = omega (arith, none, ap length e, length-append (compact_text (record_data v r)) (10 ∷ []))

-- ---- data is that of one record

same_edit : (a b : Edit) → a.at ≡ b.at → a.old ≡ b.old → a.new ≡ b.new → a ≡ b
same_edit a b p q r = λ i. record { at = p i; old = q i; new = r i }

one_splice : (a b : Edit) → splice_data a ≡ splice_data b → a ≡ b
unfolding splice_data
one_splice a b e =
    let at : a.at ≡ b.at = cc in
    let new : a.new ≡ b.new = cc in
    let old : a.old ≡ b.old = cc in
    same_edit a b at old new

-- items that are made of a list are those of one list
one_list : {X : Type 0} (f : X → Data) → ((x y : X) → f x ≡ f y → x ≡ y) → (xs ys : List X) → items_of (map f xs) ≡ items_of (map f ys) → xs ≡ ys
one_list f one [] [] e = refl
one_list f one [] (y ∷ ys) e = cc
one_list f one (x ∷ xs) [] e = cc
one_list f one (x ∷ xs) (y ∷ ys) e =
    let head : f x ≡ f y = cc in
    let tail : items_of (map f xs) ≡ items_of (map f ys) = cc in
    ap (λ z. z ∷ xs) (one x y head) ∙ ap (λ zs. y ∷ zs) (one_list f one xs ys tail)

same_change : (a b : ChangeOf) → a.path ≡ b.path → a.before ≡ b.before → a.after ≡ b.after → a.splices ≡ b.splices → a ≡ b
same_change a b p q r s = λ i. record { path = p i; before = q i; after = r i; splices = s i }

one_change : (a b : ChangeOf) → change_data a ≡ change_data b → a ≡ b
unfolding change_data
one_change a b e =
    let after : a.after ≡ b.after = cc in
    let before : a.before ≡ b.before = cc in
    let path : a.path ≡ b.path = cc in
    let splices : items_of (map splice_data a.splices) ≡ items_of (map splice_data b.splices) = cc in
    same_change a b path before after (one_list splice_data one_splice a.splices b.splices splices)

one_state : (s t : State) → state_name s ≡ state_name t → s ≡ t
one_state Open Open e = refl
one_state Open Done e = let first : 111 ≡ 100 = ap (λ (l : List ℕ). get_or l 0 0) e in absurd (omega (arith, first))
one_state Done Open e = let first : 100 ≡ 111 = ap (λ (l : List ℕ). get_or l 0 0) e in absurd (omega (arith, first))
one_state Done Done e = refl

differ_key : codes "kind" ≡ codes "file" → ⊥
differ_key e = let first : 107 ≡ 102 = ap (λ (l : List ℕ). get_or l 0 0) e in omega (arith, first)

differ_imports : codes "add-import" ≡ codes "drop-import" → ⊥
differ_imports e = let first : 97 ≡ 100 = ap (λ (l : List ℕ). get_or l 0 0) e in omega (arith, first)

differ_names : codes "rename" ≡ codes "delete-field" → ⊥
differ_names e = let first : 114 ≡ 100 = ap (λ (l : List ℕ). get_or l 0 0) e in omega (arith, first)

one_asked : (a b : Asked) → asked_data a ≡ asked_data b → a ≡ b
unfolding asked_data
one_asked (rename n t) (rename m u) e =
    let name : n ≡ m = cc in
    let to : t ≡ u = cc in
    ap₂ (λ x y. rename x y) name to
one_asked (delete_field n) (delete_field m) e =
    let name : n ≡ m = cc in
    ap (λ x. delete_field x) name
one_asked (add_import f p) (add_import g q) e =
    let file : f ≡ g = cc in
    let path : p ≡ q = cc in
    ap₂ (λ x y. add_import x y) file path
one_asked (drop_import f p) (drop_import g q) e =
    let file : f ≡ g = cc in
    let path : p ≡ q = cc in
    ap₂ (λ x y. drop_import x y) file path
one_asked (rename n t) (delete_field m) e = let kind : codes "rename" ≡ codes "delete-field" = cc in absurd (differ_names kind)
one_asked (delete_field m) (rename n t) e = let kind : codes "delete-field" ≡ codes "rename" = cc in absurd (differ_names (sym kind))
one_asked (rename n t) (add_import g q) e = let key : codes "kind" ≡ codes "file" = cc in absurd (differ_key key)
one_asked (rename n t) (drop_import g q) e = let key : codes "kind" ≡ codes "file" = cc in absurd (differ_key key)
one_asked (add_import g q) (rename n t) e = let key : codes "file" ≡ codes "kind" = cc in absurd (differ_key (sym key))
one_asked (drop_import g q) (rename n t) e = let key : codes "file" ≡ codes "kind" = cc in absurd (differ_key (sym key))
one_asked (delete_field n) (add_import g q) e = let key : codes "kind" ≡ codes "file" = cc in absurd (differ_key key)
one_asked (delete_field n) (drop_import g q) e = let key : codes "kind" ≡ codes "file" = cc in absurd (differ_key key)
one_asked (add_import g q) (delete_field n) e = let key : codes "file" ≡ codes "kind" = cc in absurd (differ_key (sym key))
one_asked (drop_import g q) (delete_field n) e = let key : codes "file" ≡ codes "kind" = cc in absurd (differ_key (sym key))
one_asked (add_import f p) (drop_import g q) e = let kind : codes "add-import" ≡ codes "drop-import" = cc in absurd (differ_imports kind)
one_asked (drop_import f p) (add_import g q) e = let kind : codes "drop-import" ≡ codes "add-import" = cc in absurd (differ_imports (sym kind))

one_edit : (a b : Option Asked) → edit_data a ≡ edit_data b → a ≡ b
unfolding edit_data asked_data
one_edit None None e = refl
one_edit None (Some (rename n t)) e = cc
one_edit None (Some (delete_field n)) e = cc
one_edit None (Some (add_import f p)) e = cc
one_edit None (Some (drop_import f p)) e = cc
one_edit (Some (rename n t)) None e = cc
one_edit (Some (delete_field n)) None e = cc
one_edit (Some (add_import f p)) None e = cc
one_edit (Some (drop_import f p)) None e = cc
one_edit (Some a) (Some b) e = ap Some (one_asked a b e)

pub same_record : (r s : RecordOf) → r.state ≡ s.state → r.entry ≡ s.entry → r.edit ≡ s.edit → r ≡ s
same_record r s p q t = λ i. record { state = p i; entry = q i; edit = t i }

one_record : (v : Version) (r s : RecordOf) → IsRecord v r → IsRecord v s → record_data v r ≡ record_data v s → r ≡ s
unfolding record_data
one_record First r s h k e =
    let files : items_of (map change_data r.entry) ≡ items_of (map change_data s.entry) = cc in
    let state : state_name r.state ≡ state_name s.state = cc in
    same_record r s (one_state r.state s.state state) (one_list change_data one_change r.entry s.entry files) (h.edit ∙ sym k.edit)
one_record Second r s h k e =
    let files : items_of (map change_data r.entry) ≡ items_of (map change_data s.entry) = cc in
    let state : state_name r.state ≡ state_name s.state = cc in
    let edit : edit_data r.edit ≡ edit_data s.edit = cc in
    same_record r s (one_state r.state s.state state) (one_list change_data one_change r.entry s.entry files) (one_edit r.edit s.edit edit)

-- a text is that of one record in a version
pub text_of_one : (v : Version) (r s : RecordOf) → IsRecord v r → IsRecord v s → record_text v r ≡ record_text v s → r ≡ s
unfolding record_text
text_of_one v r s h k e =
    let texts = append_cancel_right (compact_text (record_data v r)) (compact_text (record_data v s)) (10 ∷ []) e in
    let documents : Some (outline (record_data v r)) ≡ Some (outline (record_data v s)) = sym (reads_record v r h) ∙ ap document texts ∙ reads_record v s k in
    let outlines : outline (record_data v r) ≡ outline (record_data v s) = cc in
    let both_data : Some (record_data v r) ≡ Some (record_data v s) = sym (reads (record_data v r) (record_simple v r h)) ∙ ap of_json outlines ∙ reads (record_data v s) (record_simple v s k) in
    let data' : record_data v r ≡ record_data v s = cc in
    one_record v r s h k data'

-- ---- the third byte of a text tells its version

abbrev pub third : Version → ℕ
third First = 102
third Second = 101

pub third_is : (v : Version) (r : RecordOf) (more : List ℕ) → get_or (record_text v r ++ more) 2 0 ≡ third v
unfolding record_text record_data escape_byte
third_is First r more = refl
third_is Second r more = refl

pub one_version : (v w : Version) → third v ≡ third w → v ≡ w
one_version First First e = refl
one_version First Second e = absurd (omega (arith, e))
one_version Second First e = absurd (omega (arith, e))
one_version Second Second e = refl

pub version_of_text : (v w : Version) (r s : RecordOf) (more others : List ℕ) → record_text v r ++ more ≡ record_text w s ++ others → v ≡ w
version_of_text v w r s more others e = one_version v w (sym (third_is v r more) ∙ ap (λ (l : List ℕ). get_or l 2 0) e ∙ third_is w s others)

pub first_told : (v : Version) (r : RecordOf) (bytes more : List ℕ) → bytes ≡ record_text v r ++ more → get_or bytes 2 0 ≡ 102 → First ≡ v
first_told v r bytes more e is = one_version First v (sym is ∙ ap (λ (l : List ℕ). get_or l 2 0) e ∙ third_is v r more)

pub second_told : (v : Version) (r : RecordOf) (bytes more : List ℕ) → bytes ≡ record_text v r ++ more → (get_or bytes 2 0 ≡ 102 → ⊥) → Second ≡ v
second_told First r bytes more e is = absurd (is (ap (λ (l : List ℕ). get_or l 2 0) e ∙ third_is First r more))
second_told Second r bytes more e is = refl

-- a text is that of one record, and of one version
pub texts_apart : (v w : Version) (r s : RecordOf) → IsRecord v r → IsRecord w s → record_text v r ≡ record_text w s → (v ≡ w) × (r ≡ s)
texts_apart v w r s h k e =
    let same : v ≡ w = version_of_text v w r s [] [] (ap (λ (t : List ℕ). t ++ []) e) in
    let there : IsRecord v s = subst (λ (x : Version). IsRecord x s) (sym same) k in
    (same, text_of_one v r s h there (e ∙ ap (λ (x : Version). record_text x s) (sym same)))

-- ---- a closed record is as long as an open one

longer : (xs ys zs : List ℕ) → length ys ≡ length zs → length (xs ++ ys) ≡ length (xs ++ zs)
longer xs ys zs e = omega (arith, length-append xs ys, length-append xs zs, e)

both_longer : (xs ys zs : List ℕ) → length xs ≡ length ys → length (xs ++ zs) ≡ length (ys ++ zs)
both_longer xs ys zs e = omega (arith, length-append xs zs, length-append ys zs, e)

names_long : length (quoted (codes "open")) ≡ length (quoted (codes "done"))
unfolding escape_byte
names_long = refl

-- what stands behind the changes, with the version's number
abbrev state_behind : ℕ → List ℕ → List ℕ
state_behind n name = quoted (codes "state") ++ 58 ∷ (quoted name ++ members_text true (member (codes "version") (number (unsigned n)) no_members))

states_long : (n : ℕ) → length (state_behind n (codes "open")) ≡ length (state_behind n (codes "done"))
states_long n =
    let version = members_text true (member (codes "version") (number (unsigned n)) no_members) in
    let states = both_longer (quoted (codes "open")) (quoted (codes "done")) version names_long in
    longer (quoted (codes "state")) (58 ∷ (quoted (codes "open") ++ version)) (58 ∷ (quoted (codes "done") ++ version)) (ap suc states)

-- the changes and what stands behind them
abbrev files_behind : ℕ → List ChangeOf → List ℕ → List ℕ
files_behind n entry name = quoted (codes "files") ++ 58 ∷ (compact_text (array (items_of (map change_data entry))) ++ 44 ∷ state_behind n name)

files_long : (n : ℕ) (entry : List ChangeOf) → length (files_behind n entry (codes "open")) ≡ length (files_behind n entry (codes "done"))
files_long n entry =
    let list = compact_text (array (items_of (map change_data entry))) in
    let lists = longer list (44 ∷ state_behind n (codes "open")) (44 ∷ state_behind n (codes "done")) (ap suc (states_long n)) in
    longer (quoted (codes "files")) (58 ∷ (list ++ 44 ∷ state_behind n (codes "open"))) (58 ∷ (list ++ 44 ∷ state_behind n (codes "done"))) (ap suc lists)

pub same_length : (v : Version) (edit : Option Asked) (entry : List ChangeOf) → length (record_text v (opened edit entry)) ≡ length (record_text v (done edit entry))
unfolding record_text record_data
same_length First edit entry =
    both_longer (compact_text (record_data First (opened edit entry))) (compact_text (record_data First (done edit entry))) (10 ∷ []) (ap suc (files_long 1 entry))
same_length Second edit entry =
    let told = compact_text (edit_data edit) in
    let behind = longer told (44 ∷ files_behind 2 entry (codes "open")) (44 ∷ files_behind 2 entry (codes "done")) (ap suc (files_long 2 entry)) in
    let whole = longer (quoted (codes "edit")) (58 ∷ (told ++ 44 ∷ files_behind 2 entry (codes "open"))) (58 ∷ (told ++ 44 ∷ files_behind 2 entry (codes "done"))) (ap suc behind) in
    both_longer (compact_text (record_data Second (opened edit entry))) (compact_text (record_data Second (done edit entry))) (10 ∷ []) (ap suc whole)
