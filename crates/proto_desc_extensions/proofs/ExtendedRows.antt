-- What extensions extend: the rows of a file have it as the definition has it.
use Rattle.std.proofs.Common.{◌≡◌, ℕ, ◌+◌, ◌<◌, ◌≤◌, Bool, true, false, ◌||◌, ◌&&◌, cond, List, [], ◌∷◌, ◌++◌, length, get_or, take, map, flat_map, Option, Some, None, option_map, option_and_then, refl, sym, ap, subst, ◌∙◌, arith, nat_eq, is_some, find, eqb-true, eq-eqb, ◌==◌, append_assoc, append-nil, true≢false}
use Rattle.proto_base.proofs.Common.{option_or, get_or_past, find-append, flat_map_more, map-append, none-some, same_Some, take_more, lookup, list_any}
use Rattle.indexmap.specs.IndexMap.{IndexMap, IsEmpty, get}
use Rattle.proto_tree.specs.declared.piece.Header.{Header}
use Rattle.proto_tree.specs.declared.piece.Header.TheVariants as header
use Rattle.proto_tree.specs.declared.tree.Reference.{Reference}
use Rattle.proto_tree.proofs.Common.{Tree, End}
use Rattle.proto_files.proofs.Common.{FileOf, ReadOf, AreRead, read_at}
use Rattle.proto_names_rules.proofs.Common.{At}
use Rattle.proto_ast.proofs.Common.{BlockOf, FieldOf, blocks_in, fields_in}
use Rattle.proto_ast.specs.Views.{field_of}
use Rattle.proto_ast.specs.declared.fields.FieldAt.{FieldAt}
use Rattle.proto_resolved.specs.Blocks.{block_of, holders_in, may_hold}
use Rattle.proto_resolved.specs.declared.blocks.BlockAt.{BlockAt}
use Rattle.proto_resolved.proofs.Holders.{given_by_holders, or_none}
use Rattle.proto_desc_extensions.specs.Common.{AreExtendedRows, AreRowsOfFiles, Extended, Extending, block_extending, extended_at, extended_row, extendee_in, extendee_meant, extending, extending_of, file_extending, first_extended, has_extension_at, meant_text, name_meant, told_text}

-- ---- one extension more

abbrev text_of : Extending → List ℕ
text_of e = e.extended

abbrev name_of_row : Extended → List ℕ
name_of_row x = x.name.now

map_or : {A B : Type 0} (f : A → B) (x y : Option A) → option_map f (option_or x y) ≡ option_or (option_map f x) (option_map f y)
map_or f None y = refl
map_or f (Some x) y = refl

first_more : (token : ℕ) (xs ys : List Extending) → first_extended token (xs ++ ys) ≡ option_or (first_extended token xs) (first_extended token ys)
first_more token xs ys =
    ap (option_map text_of) (find-append (λ e. e.token == token) xs ys)
    ∙ map_or text_of (find (λ e. e.token == token) xs) (find (λ e. e.token == token) ys)

-- what is there stays before more
there_stays : (r : Option Extended) (o more : Option (List ℕ)) → is_some r ≡ true → option_map name_of_row r ≡ o → o ≡ option_or o more
there_stays None o more has e = absurd (cc)
there_stays (Some x) o more has e = subst (λ (p : Option (List ℕ)). p ≡ option_or p more) e refl

not_there : (r : Option Extended) (o : Option (List ℕ)) → is_some r ≡ false → option_map name_of_row r ≡ o → None ≡ o
not_there None o lacks e = e
not_there (Some x) o lacks e = absurd (cc)

-- where its token has a row
pub row_kept : {S : Type 0} → (es : List Extending) (token : ℕ) (text : List ℕ) (rows : IndexMap ℕ Extended S) → is_some (get nat_eq rows token) ≡ true → AreExtendedRows es rows → AreExtendedRows (es ++ record { token = token; extended = text } ∷ []) rows
row_kept es token text rows has h q = by (token == q) refl ∙ sym (first_more q es (record { token = token; extended = text } ∷ []))
  where
    by : (b : Bool) → (token == q) ≡ b → option_map name_of_row (get nat_eq rows q) ≡ option_or (first_extended q es) (option_map text_of (cond b (Some (record { token = token; extended = text })) None))
    by false e = h q ∙ or_none (first_extended q es)
    by true e =
        h q ∙ there_stays (get nat_eq rows q) (first_extended q es) (Some text)
        (subst (λ (t : ℕ). is_some (get nat_eq rows t) ≡ true) (eqb-true token q e) has) (h q)

-- where it has none
pub row_added : {S : Type 0} → (es : List Extending) (token : ℕ) (rows more : IndexMap ℕ Extended S) (row : Extended) → is_some (get nat_eq rows token) ≡ false
    → ((q : ℕ) → get nat_eq more q ≡ cond (nat_eq token q) (Some row) (get nat_eq rows q)) → AreExtendedRows es rows → AreExtendedRows (es ++ record { token = token; extended = row.name.now } ∷ []) more
row_added es token rows more row lacks put h q =
    ap (option_map name_of_row) (put q) ∙ by (nat_eq token q) refl ∙ sym (first_more q es (record { token = token; extended = row.name.now } ∷ []))
  where
    by : (b : Bool) → nat_eq token q ≡ b → option_map name_of_row (cond b (Some row) (get nat_eq rows q)) ≡ option_or (first_extended q es) (option_map text_of (cond b (Some (record { token = token; extended = row.name.now })) None))
    by false e = h q ∙ or_none (first_extended q es)
    by true e =
        ap (λ (o : Option (List ℕ)). option_or o (Some row.name.now))
        (not_there (get nat_eq rows q) (first_extended q es) (subst (λ (t : ℕ). is_some (get nat_eq rows t) ≡ false) (eqb-true token q e) lacks) (h q))

pub no_rows : {S : Type 0} → (rows : IndexMap ℕ Extended S) → IsEmpty rows → AreExtendedRows [] rows
no_rows rows e token = ap (λ (es : List (ℕ × Extended)). option_map name_of_row (lookup (nat_eq token) es)) e

-- ---- fields and blocks

-- one field more
pub fields_turn : (text : List ℕ) (fields : List FieldAt) (i : ℕ) (d : FieldAt) → i < length fields → d ≡ get_or fields i d → (es : List Extending)
    → (es ++ map (extending text) (map field_of (take i fields))) ++ record { token = d.name; extended = text } ∷ [] ≡ es ++ map (extending text) (map field_of (take (i + 1) fields))
fields_turn text fields i d l is es =
    let front : List Extending = map (extending text) (map field_of (take i fields)) in
    append_assoc es front (record { token = d.name; extended = text } ∷ [])
    ∙ ap (λ (x : FieldAt). es ++ (front ++ record { token = x.name; extended = text } ∷ [])) is
    ∙ ap (λ (xs : List Extending). es ++ xs)
    (sym (ap (λ (xs : List FieldAt). map (extending text) (map field_of xs)) (take_more fields i d l)
    ∙ ap (map (extending text)) (map-append field_of (take i fields) (get_or fields i d ∷ []))
    ∙ map-append (extending text) (map field_of (take i fields)) (field_of (get_or fields i d) ∷ [])))

module _ (files : List FileOf) (reads : List ReadOf) (file : ℕ) where
  abbrev E : BlockOf → List Extending
  E = block_extending files reads file

  -- a block that extends nothing
  pub none_added : {S : Type 0} → (rows : IndexMap ℕ Extended S) (b : BlockAt) → extendee_in (block_of b).header ≡ None → (es : List Extending) → AreExtendedRows es rows → AreExtendedRows (es ++ E (block_of b)) rows
  none_added rows b none es h =
      subst (λ (xs : List Extending). AreExtendedRows xs rows)
      (sym (ap (λ (o : Option Reference). es ++ extending_of files reads file o (block_of b).within) none ∙ append-nil es)) h

  -- one block more
  pub blocks_turn : (blocks : List BlockAt) (i : ℕ) (b : BlockAt) → i < length blocks → b ≡ get_or blocks i b
      → flat_map E (map block_of (take i blocks)) ++ E (block_of b) ≡ flat_map E (map block_of (take (i + 1) blocks))
  blocks_turn blocks i b l is =
      let front : List BlockOf = map block_of (take i blocks) in
      flat_map_more E [] front (block_of b)
      ∙ ap (λ (x : BlockAt). flat_map E (front ++ block_of x ∷ [])) is
      ∙ ap (flat_map E) (sym (ap (map block_of) (take_more blocks i b l) ∙ map-append block_of (take i blocks) (get_or blocks i b ∷ [])))

  no_holder : (b : BlockOf) → may_hold b.header ≡ false → E b ≡ []
  no_holder b e = ap (λ (o : Option Reference). extending_of files reads file o b.within) (none b.header e)
    where
      none : (h : Header) → may_hold h ≡ false → extendee_in h ≡ None
      none (header.Extend x) t = absurd (true≢false t)
      none whole t = refl

  -- the blocks that are listed have all extensions
  pub from_holders : (tree : Tree) → flat_map E (holders_in tree) ≡ flat_map E (blocks_in tree)
  from_holders tree = given_by_holders E no_holder tree

  -- ---- the first extension at a token

  module _ (token : ℕ) where
    abbrev M : BlockOf → Option (List (List ℕ))
    M = extendee_meant files reads file

    abbrev has_it : List FieldOf → Bool
    has_it fs = list_any (λ f. f.name == token) fs

    found_in : (text : List ℕ) (fs : List FieldOf) → first_extended token (map (extending text) fs) ≡ cond (has_it fs) (Some text) None
    found_in text [] = refl
    found_in text (f ∷ fs) = go (f.name == token) (found_in text fs)
      where
        go : (b : Bool) → first_extended token (map (extending text) fs) ≡ cond (has_it fs) (Some text) None
            → option_map text_of (cond b (Some (extending text f)) (find (λ e. e.token == token) (map (extending text) fs))) ≡ cond (b || has_it fs) (Some text) None
        go true on = refl
        go false on = on

    -- a block, before what is found behind it
    block_first : (b : BlockOf) (behind : Option (List ℕ)) (later : Option BlockOf) → told_text behind ≡ meant_text (option_and_then M later)
        → told_text (option_or (first_extended token (E b)) behind) ≡ meant_text (option_and_then M (cond (has_extension_at token b) (Some b) later))
    block_first b behind later on = go (extendee_in b.header) refl
      where
        by : (r : Reference) → extendee_in b.header ≡ Some r → (c : Bool)
            → told_text (option_or (cond c (Some (meant_text (name_meant files reads file r))) None) behind) ≡ meant_text (option_and_then M (cond c (Some b) later))
        by r e true = ap (λ (p : Option Reference). meant_text (option_and_then (name_meant files reads file) p)) (sym e)
        by r e false = on

        go : (o : Option Reference) → extendee_in b.header ≡ o
            → told_text (option_or (first_extended token (extending_of files reads file o b.within)) behind) ≡ meant_text (option_and_then M (cond (is_some o && has_it (fields_in b.within)) (Some b) later))
        go None e = on
        go (Some r) e =
            ap (λ (x : Option (List ℕ)). told_text (option_or x behind)) (found_in (meant_text (name_meant files reads file r)) (fields_in b.within))
            ∙ by r e (has_it (fields_in b.within))

    first_found : (bs : List BlockOf) → told_text (first_extended token (flat_map E bs)) ≡ meant_text (option_and_then M (find (has_extension_at token) bs))
    first_found [] = refl
    first_found (b ∷ bs) =
        ap told_text (first_more token (E b) (flat_map E bs))
        ∙ block_first b (first_extended token (flat_map E bs)) (find (has_extension_at token) bs) (first_found bs)

    pub first_is : told_text (first_extended token (file_extending files reads file)) ≡ meant_text (option_and_then M (find (has_extension_at token) (blocks_in (read_at reads file).tree)))
    first_is = first_found (blocks_in (read_at reads file).tree)

-- ---- the rows of files

pub no_rows_of_files : {S R : Type 0} (files : List FileOf) (rows : IndexMap ℕ (IndexMap ℕ Extended R) S) → IsEmpty rows → AreRowsOfFiles files rows
no_rows_of_files {S} {R} files rows e file own is reads are = absurd (none-some own (sym (ap (λ (es : List (ℕ × IndexMap ℕ Extended R)). lookup (nat_eq file) es) e) ∙ is))

-- one file more has rows
module _ {S R : Type 0} (files : List FileOf) (file : ℕ) (rows more : IndexMap ℕ (IndexMap ℕ Extended R) S) (own : IndexMap ℕ Extended R)
    (put : (q : ℕ) → get nat_eq more q ≡ cond (nat_eq file q) (Some own) (get nat_eq rows q)) where
  now_at : (q : ℕ) (b : Bool) → nat_eq file q ≡ b → get nat_eq more q ≡ cond b (Some own) (get nat_eq rows q)
  now_at q b e = put q ∙ ap (λ (c : Bool). cond c (Some own) (get nat_eq rows q)) e

  pub rows_put : ((reads : List ReadOf) → AreRead files reads → AreExtendedRows (file_extending files reads file) own) → AreRowsOfFiles files rows → AreRowsOfFiles files more
  rows_put right h q x is reads are = go (nat_eq file q) refl
    where
      go : (b : Bool) → nat_eq file q ≡ b → AreExtendedRows (file_extending files reads q) x
      go true e =
          subst (λ (m : IndexMap ℕ Extended R). AreExtendedRows (file_extending files reads q) m) (same_Some own x (sym (now_at q true e) ∙ is))
          (subst (λ (k : ℕ). AreExtendedRows (file_extending files reads k) own) (eqb-true file q e) (right reads are))
      go false e = h q x (sym (now_at q false e) ∙ is) reads are

  pub rows_there : is_some (get nat_eq more file) ≡ true
  rows_there = ap is_some (now_at file true (eq-eqb file file refl))

-- what a file's rows have for a token
pub rows_told : {S R : Type 0} (files : List FileOf) (rows : IndexMap ℕ (IndexMap ℕ Extended R) S) → AreRowsOfFiles files rows → (a : At) → is_some (get nat_eq rows a.file) ≡ true
    → (reads : List ReadOf) → AreRead files reads → told_text (extended_row rows a) ≡ meant_text (extended_at files reads a)
rows_told {S} {R} files rows h a there reads are = go (get nat_eq rows a.file) refl
  where
    go : (o : Option (IndexMap ℕ Extended R)) → get nat_eq rows a.file ≡ o → told_text (extended_row rows a) ≡ meant_text (extended_at files reads a)
    go None e = absurd (true≢false (sym there ∙ ap is_some e))
    go (Some own) e =
        ap (λ (o : Option (IndexMap ℕ Extended R)). told_text (option_map name_of_row (option_and_then (λ (m : IndexMap ℕ Extended R). get nat_eq m a.token) o))) e
        ∙ ap told_text (h a.file own e reads are a.token)
        ∙ first_is files reads a.file a.token

-- behind the last file nothing is extended
pub past_told : (files : List FileOf) (reads : List ReadOf) → AreRead files reads → (a : At) → length files ≤ a.file → told_text None ≡ meant_text (extended_at files reads a)
past_told files reads are a past =
    ap (λ (r : ReadOf). meant_text (option_and_then (extendee_meant files reads a.file) (find (has_extension_at a.token) (blocks_in r.tree))))
    (sym (get_or_past reads a.file (record { tokens = []; tree = End }) (omega (arith, past, are.same))))
