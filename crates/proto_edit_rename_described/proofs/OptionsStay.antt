-- A rename that takes no name on the path of an options message leaves what each reference means such a message, or none, and what each extension extends that message.
use Rattle.std.proofs.Common.{◌≡◌, ◌≢◌, ℕ, zero, suc, ◌<◌, ◌==◌, Bool, true, false, ◌&&◌, if◌then◌else◌, cond, bytes_eq, List, [], ◌∷◌, ◌++◌, length, map, find, Option, Some, None, option_map, refl, sym, ap, subst, ◌∙◌, Contains, codes, inl, inr, arith, true≢false}
use Rattle.std.proofs.lemmas.Option.{option_and_then_some}
use Rattle.proto_base.proofs.Common.{any_from, any_to, both_ways, cases_Bool, cond-false, cond-true, contains_head, contains_later, fails_from, false_from_ne_true, from_map, list_any, same_from_word, word_from_same}
use Rattle.proto_case.specs.Camel.{camel_from, entry_name}
use Rattle.proto_tree.proofs.Common.{first_of}
use Rattle.proto_tree.specs.declared.tree.Reference.{Reference}
use Rattle.proto_files.proofs.Common.{AreRead, FileOf, ReadOf, file_at, read_at}
use Rattle.proto_custom_options.specs.CustomOptions.{is_options_message, options_messages, options_text, options_words}
use Rattle.proto_ast.proofs.Common.{MeantOf, blocks_in}
use Rattle.proto_desc_checks.proofs.Common.{is_of_options}
use Rattle.proto_desc_extensions.specs.Common.{extended_at, extended_by, extendee_in, extendee_meant, has_extension_at, is_the_message, name_meant, option_extends}
use Rattle.proto_names_rules.proofs.Common.{ArePlain, At, Declared, joined, meant, name_from_same, place_of, same_from_name, same_name}
use Rattle.proto_names_imports.proofs.Common.{names_are_plain, uses_of}
use Rattle.proto_names_imports.specs.Links.{names_of_files, text_of, used_named}
use Rattle.proto_names_rules.proofs.Joined.{joined_apart}
use Rattle.proto_names_rules.specs.Edits.{Renaming, ren, target, turn_below, turned, turned_by}
use Rattle.proto_names_rules.specs.Joined.{IsPlain}
use Rattle.proto_names_rules.specs.Skeleton.{Used}
use Rattle.proto_edit_rules.specs.Options.{are_on_a_path, is_fixed}
use Rattle.proto_edit_rename_laws.proofs.Common.{declared_as, meaning_of}
use Rattle.proto_edit_rename_described.proofs.OptionMessages.{is_known}

-- ---- names on no path with the target

second_false : (a b : Bool) → a ≡ true → a && b ≡ false → b ≡ false
second_false true b e h = h
second_false false b e h = absurd (true≢false (sym e))

first_false : (a : Bool) → a && true ≡ false → a ≡ false
first_false true h = h
first_false false h = refl

other_way : (v w : List ℕ) → bytes_eq v w ≡ false → bytes_eq w v ≡ false
other_way v w h = fails_from (bytes_eq w v) (λ e. both_ways (bytes_eq v w) h (same_from_word v w (sym (word_from_same w v e))))

-- where the target and the name are on no path
old_stays : (ps : List (List ℕ)) (turn : List ℕ → List ℕ) (old : List ℕ) (x : List (List ℕ)) → ((w : List ℕ) → Contains x w → bytes_eq w old ≡ false → turn w ≡ w)
    → are_on_a_path (ps ++ old ∷ []) x ≡ false → turn_below ps turn x ≡ x
old_stays [] turn old [] h e = refl
old_stays [] turn old (y ∷ ys) h e = ap (λ w. w ∷ ys) (h y (contains_head y ys) (other_way old y (first_false (bytes_eq old y) e)))
old_stays (p ∷ ps) turn old [] h e = refl
old_stays (p ∷ ps) turn old (y ∷ ys) h e = ap (λ (zs : List (List ℕ)). y ∷ zs) (by (bytes_eq y p) refl (λ f. old_stays ps turn old ys (λ w c. h w (contains_later y w ys c)) f))
  where
    by : (b : Bool) → bytes_eq y p ≡ b → (are_on_a_path (ps ++ old ∷ []) ys ≡ false → turn_below ps turn ys ≡ ys) → (if b then turn_below ps turn ys else ys) ≡ ys
    by false q stay = refl
    by true q stay = stay (second_false (bytes_eq p y) (are_on_a_path (ps ++ old ∷ []) ys) (same_from_word p y (sym (word_from_same y p q))) e)

-- where the target's new name and the new name are on no path
new_stays : (ps : List (List ℕ)) (turn : List ℕ → List ℕ) (old new : List ℕ) (x : List (List ℕ)) → turn old ≡ new → ((w : List ℕ) → Contains (turn_below ps turn x) (turn w) → bytes_eq w old ≡ false → turn w ≡ w)
    → are_on_a_path (ps ++ new ∷ []) (turn_below ps turn x) ≡ false → turn_below ps turn x ≡ x
new_stays [] turn old new [] t h e = refl
new_stays [] turn old new (y ∷ ys) t h e = ap (λ w. w ∷ ys) (by (bytes_eq y old) refl)
  where
    by : (b : Bool) → bytes_eq y old ≡ b → turn y ≡ y
    by false q = h y (contains_head (turn y) ys) q
    by true q = absurd (both_ways (bytes_eq new (turn y)) (first_false (bytes_eq new (turn y)) e) (same_from_word new (turn y) (sym (ap turn (word_from_same y old q) ∙ t))))
new_stays (p ∷ ps) turn old new [] t h e = refl
new_stays (p ∷ ps) turn old new (y ∷ ys) t h e = ap (λ (zs : List (List ℕ)). y ∷ zs) (by (bytes_eq y p) refl h e (λ k f. new_stays ps turn old new ys t k f))
  where
    by : (b : Bool) → bytes_eq y p ≡ b → ((w : List ℕ) → Contains (y ∷ (if b then turn_below ps turn ys else ys)) (turn w) → bytes_eq w old ≡ false → turn w ≡ w)
        → are_on_a_path (p ∷ (ps ++ new ∷ [])) (y ∷ (if b then turn_below ps turn ys else ys)) ≡ false
        → (((w : List ℕ) → Contains (turn_below ps turn ys) (turn w) → bytes_eq w old ≡ false → turn w ≡ w) → are_on_a_path (ps ++ new ∷ []) (turn_below ps turn ys) ≡ false → turn_below ps turn ys ≡ ys)
        → (if b then turn_below ps turn ys else ys) ≡ ys
    by false q k f stay = refl
    by true q k f stay =
        stay (λ w c. k w (contains_later y (turn w) (turn_below ps turn ys) c))
        (second_false (bytes_eq p y) (are_on_a_path (ps ++ new ∷ []) (turn_below ps turn ys)) (same_from_word p y (sym (word_from_same y p q))) f)

-- ---- words of options messages

-- the last byte is that of `Entry`
abbrev ends_so : List ℕ → Bool
ends_so [] = false
ends_so (b ∷ []) = b == 121
ends_so (b ∷ c ∷ bs) = ends_so (c ∷ bs)

behind_ends : (xs : List ℕ) → ends_so (xs ++ codes "Entry") ≡ true
behind_ends [] = refl
behind_ends (x ∷ []) = refl
behind_ends (x ∷ y ∷ xs) = behind_ends (y ∷ xs)

entry_ends : (word : List ℕ) → ends_so (entry_name word) ≡ true
entry_ends word = behind_ends (camel_from true word)

abbrev is_none : List ℕ → Bool
is_none [] = true
is_none (b ∷ bs) = false

none_is : (w : List ℕ) → is_none w ≡ false → w ≢ []
none_is w h e = true≢false (sym (ap is_none e) ∙ h)

-- what fails at each of the nine fails at one
fails_each : (p : List ℕ → Bool) → list_any p options_messages ≡ false → (m : List ℕ) → Contains options_messages m → p m ≡ false
fails_each p h m c = fails_from (p m) (λ e. both_ways (list_any p options_messages) h (any_from p options_messages m c e))

no_entry : (m : List ℕ) → Contains options_messages m → (w word : List ℕ) → Contains (options_words m) w → w ≢ entry_name word
no_entry m c w word cw e =
    both_ways (list_any ends_so (options_words m)) (fails_each (λ (n : List ℕ). list_any ends_so (options_words n)) refl m c) (any_from ends_so (options_words m) w cw (ap ends_so e ∙ entry_ends word))

plain_word : (m : List ℕ) → Contains options_messages m → IsPlain m
plain_word m c = (fails_each (λ (n : List ℕ). list_any (λ b. b == 46) n) refl m c, none_is m (fails_each is_none refl m c))

plain_options : (m : List ℕ) → Contains options_messages m → ArePlain (options_words m)
plain_options m c = ((refl, none_is (codes "google") refl), ((refl, none_is (codes "protobuf") refl), (plain_word m c, tt)))

options_named : (x : List (List ℕ)) → ArePlain x → is_options_message (joined x) ≡ true → (m : List ℕ) × Contains options_messages m × (x ≡ options_words m)
options_named x plain h =
    let y = any_to (bytes_eq (joined x)) (map options_text options_messages) h in
    let m = from_map options_text options_messages y.0 y.1 in
    (m.0, m.1, joined_apart x (options_words m.0) plain (plain_options m.0 m.1) (word_from_same (joined x) y.0 y.2 ∙ sym m.2))

-- no plain name has an empty word
unnamed : (x : List (List ℕ)) → ArePlain x → same_name x (options_words []) ≡ false
unnamed x plain = false_from_ne_true (same_name x (options_words [])) (λ h. (subst ArePlain (name_from_same x (options_words []) h) plain).1.1.0.1 refl)

-- ---- a rename

module _ (e : Renaming) (is_map : Bool) (entry : e.entry ≡ (if is_map then Some (entry_name e.old, entry_name e.new) else None))
    (old_free : is_fixed (target e) ≡ false) (new_free : is_fixed (e.parent ++ e.new ∷ []) ≡ false) where
  apart : (name : List (List ℕ)) → is_fixed name ≡ false → (m : List ℕ) → Contains options_messages m → are_on_a_path name (options_words m) ≡ false
  apart name h m c = fails_each (λ (n : List ℕ). are_on_a_path name (options_words n)) h m c

  turned_old : turned e e.old ≡ e.new
  turned_old = cond-true (bytes_eq e.old e.old) e.new (turned_by e.entry e.old) (same_from_word e.old e.old refl)

  by_entry : (w : List ℕ) → bytes_eq w e.old ≡ false → turned e w ≡ turned_by e.entry w
  by_entry w q = cond-false (bytes_eq w e.old) e.new (turned_by e.entry w) q

  -- a word that is no entry's
  kept_word : (w : List ℕ) → ((word : List ℕ) → w ≢ entry_name word) → bytes_eq w e.old ≡ false → turned e w ≡ w
  kept_word w other q = by_entry w q ∙ ap (λ o. turned_by o w) entry ∙ by is_map
    where
      by : (b : Bool) → turned_by (if b then Some (entry_name e.old, entry_name e.new) else None) w ≡ w
      by false = refl
      by true = cond-false (bytes_eq w (entry_name e.old)) (entry_name e.new) w (fails_from (bytes_eq w (entry_name e.old)) (λ s. other e.old (word_from_same w (entry_name e.old) s)))

  -- a word that does not become an entry's
  kept_to : (w : List ℕ) → ((word : List ℕ) → turned e w ≢ entry_name word) → bytes_eq w e.old ≡ false → turned e w ≡ w
  kept_to w other q = by_entry w q ∙ ap (λ o. turned_by o w) entry ∙ by is_map (by_entry w q ∙ ap (λ o. turned_by o w) entry)
    where
      by : (b : Bool) → turned e w ≡ turned_by (if b then Some (entry_name e.old, entry_name e.new) else None) w → turned_by (if b then Some (entry_name e.old, entry_name e.new) else None) w ≡ w
      by false is = refl
      by true is = of (bytes_eq w (entry_name e.old)) is
        where
          of : (d : Bool) → turned e w ≡ (if d then entry_name e.new else w) → (if d then entry_name e.new else w) ≡ w
          of true is = absurd (other e.new is)
          of false is = refl

  old_options_stay : (m : List ℕ) → Contains options_messages m → ren e (options_words m) ≡ options_words m
  old_options_stay m c = old_stays e.parent (turned e) e.old (options_words m) (λ w cw q. kept_word w (λ word. no_entry m c w word cw) q) (apart (target e) old_free m c)

  new_options_stay : (x : List (List ℕ)) (m : List ℕ) → Contains options_messages m → ren e x ≡ options_words m → ren e x ≡ x
  new_options_stay x m c is =
      new_stays e.parent (turned e) e.old e.new x turned_old
      (λ w cw q. kept_to w (λ word. no_entry m c (turned e w) word (subst (λ (z : List (List ℕ)). Contains z (turned e w)) is cw)) q)
      (ap (are_on_a_path (e.parent ++ e.new ∷ [])) is ∙ apart (e.parent ++ e.new ∷ []) new_free m c)

  -- a name is that of an options message where it was
  pub names_stay : (x : List (List ℕ)) → ArePlain x → ArePlain (ren e x) → is_options_message (joined x) ≡ is_options_message (joined (ren e x))
  names_stay x was now = elim (cases_Bool (is_options_message (joined x))) [
    | inl h ↦
        let n = options_named x was h in
        ap (λ (z : List (List ℕ)). is_options_message (joined z)) (sym (ap (ren e) n.2 ∙ old_options_stay n.0 n.1 ∙ sym n.2))
    | inr h ↦ elim (cases_Bool (is_options_message (joined (ren e x)))) [
      | inl k ↦
          let n = options_named (ren e x) now k in
          ap (λ (z : List (List ℕ)). is_options_message (joined z)) (sym (new_options_stay x n.0 n.1 n.2))
      | inr k ↦ h ∙ sym k
    ]
  ]

  -- a name is that of one of them where it was
  one_stays : (m : List ℕ) → Contains options_messages m → (x : List (List ℕ)) → same_name (ren e x) (options_words m) ≡ same_name x (options_words m)
  one_stays m c x = elim (cases_Bool (same_name x (options_words m))) [
    | inl h ↦ same_from_name (ren e x) (options_words m) (ap (ren e) (name_from_same x (options_words m) h) ∙ old_options_stay m c) ∙ sym h
    | inr h ↦ false_from_ne_true (same_name (ren e x) (options_words m)) (λ k. (
        let is = name_from_same (ren e x) (options_words m) k in
        both_ways (same_name x (options_words m)) h (same_from_name x (options_words m) (sym (new_options_stay x m c is) ∙ is)))) ∙ sym h
  ]

  -- what is extended is the options message of an element where it was
  pub message_stays : (m : List ℕ) → is_known m ≡ true → (o : Option (List (List ℕ))) → ((x : List (List ℕ)) → o ≡ Some x → ArePlain x × ArePlain (ren e x)) → is_the_message m (option_map (ren e) o) ≡ is_the_message m o
  message_stays m known None plain = refl
  message_stays [] known (Some x) plain = let p = plain x refl in unnamed (ren e x) p.1 ∙ sym (unnamed x p.0)
  message_stays (b ∷ bs) known (Some x) plain =
      let y = any_to (bytes_eq (b ∷ bs)) options_messages known in
      one_stays (b ∷ bs) (subst (Contains options_messages) (sym (word_from_same (b ∷ bs) y.0 y.2)) y.1) x

-- ---- what references mean

-- references at the same tokens mean options messages alike
pub meant_stay : (us : List (Used ℕ)) (f g : Used ℕ → MeantOf) (t : ℕ) → ((u : Used ℕ) → Contains us u → ((f u).token ≡ (g u).token) × (is_options_message (f u).name ≡ is_options_message (g u).name))
    → is_of_options (find (λ (m : MeantOf). m.token == t) (map f us)) ≡ is_of_options (find (λ (m : MeantOf). m.token == t) (map g us))
meant_stay [] f g t h = refl
meant_stay (u ∷ us) f g t h = by ((f u).token == t) ((g u).token == t) (ap (λ n. n == t) here.0) (meant_stay us f g t (λ x c. h x (contains_later u x us c)))
  where
    here : ((f u).token ≡ (g u).token) × (is_options_message (f u).name ≡ is_options_message (g u).name)
    here = h u (contains_head u us)

    by : (b d : Bool) → b ≡ d → is_of_options (find (λ (m : MeantOf). m.token == t) (map f us)) ≡ is_of_options (find (λ (m : MeantOf). m.token == t) (map g us))
        → is_of_options (cond b (Some (f u)) (find (λ (m : MeantOf). m.token == t) (map f us))) ≡ is_of_options (cond d (Some (g u)) (find (λ (m : MeantOf). m.token == t) (map g us)))
    by true true e rest = here.1
    by false false e rest = rest
    by true false e rest = absurd (true≢false e)
    by false true e rest = absurd (true≢false (sym e))

-- what is meant is of plain words
pub plain_meaning : (files : List FileOf) (reads : List ReadOf) → AreRead files reads → (file : ℕ) (u : Used ℕ) (name : List (List ℕ)) → meaning_of files reads file u ≡ Some name → ArePlain name
plain_meaning files reads read file u name means =
    let s = meant (names_of_files files reads) (used_named (text_of files reads) file u) name means in
    subst ArePlain s.2 (names_are_plain files reads read s.0 s.1)

-- so is what an extension extends
pub extends_plain : (files : List FileOf) (reads : List ReadOf) → AreRead files reads → (file : ℕ) (r : Reference) (name : List (List ℕ)) → option_extends files reads file r ≡ Some name → ArePlain name
extends_plain files reads are file r name h =
    option_and_then_some (extended_by files reads) (name_meant files reads file r) name h (λ x _ by_name.
    option_and_then_some (λ (d : Declared At). extended_at files reads (place_of d)) (declared_as files reads x) name by_name (λ d _ at_place. (
    let a : At = place_of d in
    option_and_then_some (extendee_meant files reads a.file) (find (has_extension_at a.token) (blocks_in (read_at reads a.file).tree)) name at_place (λ b _ of_block.
    option_and_then_some (name_meant files reads a.file) (extendee_in b.header) name of_block (λ s _ of_reference.
    option_and_then_some (meaning_of files reads a.file) (find (λ (u : Used ℕ). u.first == first_of s.dot s.words) (uses_of reads a.file)) name of_reference (λ u _ means.
    plain_meaning files reads are a.file u name means))))))

pub file_there : (files : List FileOf) (k : ℕ) → k < length files → Contains files (file_at files k)
file_there [] k inside = absurd (omega (arith, inside))
file_there (f ∷ fs) zero inside = (0, inside, refl)
file_there (f ∷ fs) (suc k) inside = let rest = file_there fs k (omega (arith, inside)) in (suc rest.0, omega (arith, rest.1), rest.2)
