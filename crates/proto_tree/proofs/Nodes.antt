-- Reading nodes one after another (for the crates above).
use Rattle.std.proofs.Common.{◌≡◌, ℕ, ◌+◌, ◌≤◌, true, false, List, [], ◌∷◌, ◌++◌, length, Some, None, refl, sym, ap, subst, ◌∙◌, append_assoc, arith, length-append, map, append-nil}
use Rattle.proto_tree.specs.declared.class.Class.TheVariants as class
use Rattle.proto_tree.specs.Common.{Lexeme, Statement, Signature, Heading, Extending, Header, Piece, Context, Kind, Mark, one, Fit, flat_statement, flat_header, flat_piece, Tree, End, Leaf, Block, flat, IsWellFormed, kind_of, statement_kind, header_kind, allows, after, inside, last_of, joined_trees, all_joined, moved_contexts, Walk, any_piece_in, piece_in, IsStuck, trees, item_tree, member_tree, member_layer, message_tree, oneof_tree, enum_tree, extend_tree, IsRead, IsItem, IsClose, FaultOf, IsBody, IsMet, IsOuter, IsItemOf, IsItemBefore}
use Rattle.proto_tree.specs.declared.piece.Header.TheVariants as header
use Rattle.proto_tree.specs.declared.piece.Piece.TheVariants as piece
use Rattle.proto_tree.specs.declared.context.Context.TheVariants as context
use Rattle.proto_tree.specs.declared.context.Kind.TheVariants as kind
use Rattle.proto_tree.specs.declared.tree.Block.{Block as Braced}
use Rattle.proto_tree.specs.declared.tree.EnumItem.{EnumItem}
use Rattle.proto_tree.specs.declared.tree.Extend.{Extend}
use Rattle.proto_tree.specs.declared.tree.Item.{Item}
use Rattle.proto_tree.specs.declared.tree.OneofItem.{OneofItem}
use Rattle.proto_tree.specs.declared.tree.Member.{Member}
use Rattle.proto_tree.specs.declared.tree.Member.TheOpen.{Member-F}
use Rattle.proto_tree.specs.declared.tree.Member.TheFolds.{fold-roll-Member}
use Rattle.proto_tree.specs.declared.tree.Member.TheVariants as member
use Rattle.proto_tree.specs.declared.blocks.Fault.{Fault}
use Rattle.proto_tree.specs.declared.blocks.Fault.TheVariants as fault
use Rattle.proto_tree.proofs.Exact.{Fit-join}
use Rattle.proto_tree.proofs.Walks.{pieces, flats, flats-append, flats-pieces, last_inner, last_outer, walk_tree}
use Rattle.proto_tree.proofs.Places.{laws, walk_append}

-- ---- trees one behind another

joined-end : (t : Tree) → joined_trees t End ≡ t
joined-end End = refl
joined-end (Leaf s rest) = ap (λ t. Leaf s t) (joined-end rest)
joined-end (Block h i within j rest) = ap (λ t. Block h i within j t) (joined-end rest)

joined-joined : (t u v : Tree) → joined_trees (joined_trees t u) v ≡ joined_trees t (joined_trees u v)
joined-joined End u v = refl
joined-joined (Leaf s rest) u v = ap (λ t. Leaf s t) (joined-joined rest u v)
joined-joined (Block h i within j rest) u v = ap (λ t. Block h i within j t) (joined-joined rest u v)

all_joined-push : (ts : List Tree) (t : Tree) → all_joined (ts ++ t ∷ []) ≡ joined_trees (all_joined ts) t
all_joined-push [] t = joined-end t
all_joined-push (u ∷ ts) t = ap (λ v. joined_trees u v) (all_joined-push ts t) ∙ sym (joined-joined u (all_joined ts) t)

map-push : {A : Type 0} (view : A → Tree) (xs : List A) (x : A) → map view (xs ++ x ∷ []) ≡ map view xs ++ view x ∷ []
map-push view [] x = refl
map-push view (y ∷ xs) x = ap (λ (ts : List Tree). view y ∷ ts) (map-push view xs x)

pub trees-push : {A : Type 0} (view : A → Tree) (xs : List A) (x : A) → trees view (xs ++ x ∷ []) ≡ joined_trees (trees view xs) (view x)
trees-push view xs x = ap all_joined (map-push view xs x) ∙ all_joined-push (map view xs) (view x)

pub flat-joined : (t u : Tree) → flat (joined_trees t u) ≡ flat t ++ flat u
flat-joined End u = refl
flat-joined (Leaf s rest) u = ap (λ ms. flat_statement s ++ ms) (flat-joined rest u) ∙ sym (append_assoc (flat_statement s) (flat rest) (flat u))
flat-joined (Block h i within j rest) u =
    let front : List Mark = flat_header h ++ one class.Open i in
    ap (λ ms. front ++ (flat within ++ (one class.Close j ++ ms))) (flat-joined rest u)
    ∙ ap (λ ms. front ++ ms) (sym (append_assoc (flat within) (one class.Close j ++ flat rest) (flat u)))
    ∙ sym (append_assoc front (flat within ++ (one class.Close j ++ flat rest)) (flat u))

pub joined-fine : (t u : Tree) (c : Context) → IsWellFormed c t → IsWellFormed (last_of c t) u → IsWellFormed c (joined_trees t u)
joined-fine End u c h k = k
joined-fine (Leaf s rest) u c h k = (h.0, joined-fine rest u (after c (statement_kind s)) h.1 k)
joined-fine (Block h i within j rest) u c w k = (w.0, w.1, joined-fine rest u (after c (header_kind h)) w.2 k)

last-joined : (t u : Tree) (c : Context) → last_of c (joined_trees t u) ≡ last_of (last_of c t) u
last-joined End u c = refl
last-joined (Leaf s rest) u c = last-joined rest u (after c (statement_kind s))
last-joined (Block h i within j rest) u c = last-joined rest u (after c (header_kind h))

pub read_on : {c d : Context} {tokens middle rest : List Lexeme} (t u : Tree) → IsRead c tokens t middle → last_of c t ≡ d → IsRead d middle u rest → IsRead c tokens (joined_trees t u) rest
read_on {c = c} {rest = rest} t u a e b = record {
  text = a.text ++ b.text;
  parts = a.parts ∙ ap (λ (s : List Lexeme). a.text ++ s) b.parts ∙ sym (append_assoc a.text b.text rest);
  fits = subst (λ ms. Fit ms (a.text ++ b.text)) (sym (flat-joined t u)) (Fit-join (flat t) (flat u) a.text b.text a.fits b.fits);
  well_formed = joined-fine t u c a.well_formed (subst (λ x. IsWellFormed x u) (sym e) b.well_formed);
}

pub read_none : (c : Context) (tokens : List Lexeme) → IsRead c tokens End tokens
read_none c tokens = record { text = []; parts = refl; fits = tt; well_formed = tt }

-- ---- where it goes wrong

walk_below : (us : List Piece) (from to below : List Context) → Walk from us to → Walk (from ++ below) us (to ++ below)
walk_below [] from to below w = ap (λ (x : List Context). x ++ below) w
walk_below (u ∷ us) [] to below w = absurd w
walk_below (u ∷ us) (c ∷ from) to below w = (w.0, subst (λ x. Walk x us (to ++ below)) (moved_below u c from) (walk_below us (moved_contexts c u from) to below w.1)) where
  moved_below : (u : Piece) (c : Context) (from : List Context) → moved_contexts c u from ++ below ≡ moved_contexts c u (from ++ below)
  moved_below (piece.Statement s) c from = refl
  moved_below (piece.Open h i) c from = refl
  moved_below (piece.Close i) c from = refl

-- what is stuck behind some pieces is stuck
stuck_behind : (us : List Piece) (from mid : List Context) (text tokens rest : List Lexeme) (k : ℕ) → Walk from us mid → Fit (flats us) text → tokens ≡ text ++ rest → IsStuck mid rest k → IsStuck from tokens k
stuck_behind us from mid text tokens rest k w fit parts h = record {
  pieces = us ++ h.pieces;
  front = text ++ h.front;
  rest = h.rest;
  context = h.context;
  outer = h.outer;
  parts = parts ∙ ap (λ (s : List Lexeme). text ++ s) h.parts ∙ sym (append_assoc text h.front h.rest);
  count = h.count;
  fits = subst (λ ms. Fit ms (text ++ h.front)) (sym (flats-append us h.pieces)) (Fit-join (flats us) (flats h.pieces) text h.front fit h.fits);
  walk = walk_append us h.pieces from mid (h.context ∷ h.outer) w h.walk;
  none = h.none;
  inner = h.inner;
}

stuck_below : (from below : List Context) (tokens : List Lexeme) (k : ℕ) → IsStuck from tokens k → IsStuck (from ++ below) tokens k
stuck_below from below tokens k h = record { pieces = h.pieces; front = h.front; rest = h.rest; context = h.context; outer = h.outer ++ below; parts = h.parts; count = h.count; fits = h.fits; walk = walk_below h.pieces from (h.context ∷ h.outer) below h.walk; none = h.none; inner = h.inner }

pub stuck_after : {c d : Context} {tokens rest : List Lexeme} {k : ℕ} (t : Tree) → IsRead c tokens t rest → last_of c t ≡ d → IsStuck (d ∷ []) rest k → IsStuck (c ∷ []) tokens k
stuck_after {c = c} {d = d} {tokens = tokens} {rest = rest} {k = k} t a e h =
    let w = walk_tree t c [] [] (last_of c t ∷ []) a.well_formed refl in
    let w' : Walk (c ∷ []) (pieces t) (d ∷ []) = subst (λ x. Walk (c ∷ []) (pieces t) (x ∷ [])) e (subst (λ us. Walk (c ∷ []) us (last_of c t ∷ [])) (append-nil (pieces t)) w) in
    stuck_behind (pieces t) (c ∷ []) (d ∷ []) a.text tokens rest k w' (subst (λ ms. Fit ms a.text) (sym (flats-pieces t)) a.fits) a.parts h

pub stuck_here : (c : Context) (tokens : List Lexeme) → piece_in c tokens ≡ None → (tokens ≡ [] → allows c kind.Close ≡ true) → IsStuck (c ∷ []) tokens (length tokens)
stuck_here c tokens none inner = record { pieces = []; front = []; rest = tokens; context = c; outer = []; parts = refl; count = refl; fits = tt; walk = refl; none = none; inner = inner }

pub stuck_inside : (c : Context) (h : Header) (i : ℕ) (tokens rest : List Lexeme) (k : ℕ) → piece_in c tokens ≡ Some (piece.Open h i, rest) → IsStuck (inside h ∷ []) rest k → IsStuck (c ∷ []) tokens k
stuck_inside c h i tokens rest k e s =
    let p = (laws c).sound tokens (piece.Open h i) rest e in
    let fit : Fit (flats (piece.Open h i ∷ [])) p.1 = subst (λ ms. Fit ms p.1) (sym (append-nil (flat_piece (piece.Open h i)))) p.3 in
    stuck_behind (piece.Open h i ∷ []) (c ∷ []) (inside h ∷ after c (header_kind h) ∷ []) p.1 tokens rest k (p.0, refl) fit p.2 (stuck_below (inside h ∷ []) (after c (header_kind h) ∷ []) rest k s)

-- ---- pieces, as the code meets them

met : (c : Context) (u : Piece) (tokens rest : List Lexeme) → IsMet c tokens u rest → allows c (kind_of u) ≡ true → piece_in c tokens ≡ Some (u, rest)
unfolding piece_in
met c u tokens rest e ok = rw (e, ok) refl

not_met : (c : Context) (u : Piece) (tokens rest : List Lexeme) → IsMet c tokens u rest → allows c (kind_of u) ≡ false → piece_in c tokens ≡ None
unfolding piece_in
not_met c u tokens rest e refused = rw (e, refused) refl

none_met : (c : Context) (tokens : List Lexeme) → any_piece_in c tokens ≡ None → piece_in c tokens ≡ None
unfolding piece_in
none_met c tokens e = rw e refl

pub stuck_none : (c : Context) (tokens : List Lexeme) → any_piece_in c tokens ≡ None → (tokens ≡ [] → allows c kind.Close ≡ true) → IsStuck (c ∷ []) tokens (length tokens)
stuck_none c tokens e inner = stuck_here c tokens (none_met c tokens e) inner

pub not_here : (c : Context) (u : Piece) (tokens rest : List Lexeme) → IsMet c tokens u rest → allows c (kind_of u) ≡ false → (tokens ≡ [] → allows c kind.Close ≡ true) → IsStuck (c ∷ []) tokens (length tokens)
not_here c u tokens rest e refused inner = stuck_here c tokens (not_met c u tokens rest e refused) inner

pub statement_item : {A : Type 0} (c : Context) (view : A → Tree) (s : Statement) (x : A) (tokens rest : List Lexeme) → IsMet c tokens (piece.Statement s) rest → IsItemOf c view s (Some x) → IsItem c tokens (view x) rest
statement_item c view s x tokens rest e is =
    let p = (laws c).sound tokens (piece.Statement s) rest (met c (piece.Statement s) tokens rest e is.0) in
    let fit : Fit (flat (Leaf s End)) p.1 = subst (λ ms. Fit ms p.1) (sym (append-nil (flat_statement s))) p.3 in
    record {
      read = subst (λ t. IsRead c tokens t rest) (sym is.1) (record { text = p.1; parts = p.2; fits = fit; well_formed = (p.0, tt) });
      shorter = omega (arith, (laws c).solid (piece.Statement s) p.0 p.1 p.3, ap length p.2, length-append p.1 rest);
    }

pub close_item : (c : Context) (j : ℕ) (tokens rest : List Lexeme) → IsMet c tokens (piece.Close j) rest → allows c kind.Close ≡ true → IsClose c tokens j rest
close_item c j tokens rest e may =
    let p = (laws c).sound tokens (piece.Close j) rest (met c (piece.Close j) tokens rest e may) in
    record { text = p.1; parts = p.2; fits = p.3; may = p.0 }

pub opening_shorter : (c : Context) (h : Header) (i : ℕ) (tokens rest : List Lexeme) → IsMet c tokens (piece.Open h i) rest → allows c (header_kind h) ≡ true → length rest + 1 ≤ length tokens
opening_shorter c h i tokens rest e ok =
    let p = (laws c).sound tokens (piece.Open h i) rest (met c (piece.Open h i) tokens rest e ok) in
    omega (arith, (laws c).solid (piece.Open h i) p.0 p.1 p.3, ap length p.2, length-append p.1 rest)

pub block_item : (c : Context) (h : Header) (i : ℕ) (t : Tree) (j : ℕ) (tokens middle rest : List Lexeme) → IsMet c tokens (piece.Open h i) middle → allows c (header_kind h) ≡ true → IsBody (inside h) middle t j rest → IsItem c tokens (Block h i t j End) rest
block_item c h i t j tokens middle rest e ok b =
    let p = (laws c).sound tokens (piece.Open h i) middle (met c (piece.Open h i) tokens middle e ok) in
    let text : List Lexeme = p.1 ++ (b.read.text ++ (b.close.text ++ [])) in
    let parts : tokens ≡ text ++ rest =
    p.2 ∙ ap (λ (s : List Lexeme). p.1 ++ s) (b.read.parts ∙ ap (λ (s : List Lexeme). b.read.text ++ s) (b.close.parts ∙ ap (λ (s : List Lexeme). s ++ rest) (sym (append-nil b.close.text))) ∙ sym (append_assoc b.read.text (b.close.text ++ []) rest)) ∙ sym (append_assoc p.1 (b.read.text ++ (b.close.text ++ [])) rest) in
    let fit : Fit (flat (Block h i t j End)) text = Fit-join (flat_header h ++ one class.Open i) (flat t ++ (one class.Close j ++ [])) p.1 (b.read.text ++ (b.close.text ++ [])) p.3
    (Fit-join (flat t) (one class.Close j ++ []) b.read.text (b.close.text ++ []) b.read.fits (Fit-join (one class.Close j) [] b.close.text [] b.close.fits tt)) in
    record {
      read = record { text = text; parts = parts; fits = fit; well_formed = (p.0, b.read.well_formed, tt) };
      shorter = omega (arith, (laws c).solid (piece.Open h i) p.0 p.1 p.3, ap length p.2, length-append p.1 middle, ap length b.read.parts, length-append b.read.text b.after, ap length b.close.parts, length-append b.close.text rest);
    }

pub fault_behind : {c : Context} {tokens rest : List Lexeme} (t : Tree) (f : Fault) → allows c kind.Close ≡ true → IsRead c tokens t rest → FaultOf c rest f → FaultOf c tokens f
fault_behind t fault.Memory e a h = tt
fault_behind {c = c} t (fault.Syntax k) e a h = stuck_after t a (last_inner t c e) h

pub fault_inside : (c : Context) (h : Header) (i : ℕ) (tokens rest : List Lexeme) (f : Fault) → IsMet c tokens (piece.Open h i) rest → allows c (header_kind h) ≡ true → FaultOf (inside h) rest f → FaultOf c tokens f
fault_inside c h i tokens rest fault.Memory e ok s = tt
fault_inside c h i tokens rest (fault.Syntax k) e ok s = stuck_inside c h i tokens rest k (met c (piece.Open h i) tokens rest e ok) s

pub read_push : {A : Type 0} {c : Context} {tokens middle rest : List Lexeme} (view : A → Tree) (xs ys : List A) (x : A) → allows c kind.Close ≡ true → IsRead c tokens (trees view xs) middle → IsItem c middle (view x) rest → ys ≡ xs ++ x ∷ [] → IsRead c tokens (trees view ys) rest
read_push {c = c} {tokens = tokens} {middle = middle} {rest = rest} view xs ys x e a b same =
    subst (λ t. IsRead c tokens t rest) (sym (ap (trees view) same ∙ trees-push view xs x)) (read_on (trees view xs) (view x) a (last_inner (trees view xs) c e) b.read)

-- ---- what stands in no block of a kind

pub no_other_in_service : (h : Header) → ((s : Signature) → h ≡ header.Method s → ⊥) → allows context.Service (header_kind h) ≡ false
no_other_in_service (header.Message h) e = refl
no_other_in_service (header.Oneof h) e = refl
no_other_in_service (header.Enum h) e = refl
no_other_in_service (header.Service h) e = refl
no_other_in_service (header.Method s) e = absurd (e s refl)
no_other_in_service (header.Extend x) e = refl

pub no_other_in_message : (h : Header) → ((x : Heading) → h ≡ header.Message x → ⊥) → ((x : Heading) → h ≡ header.Oneof x → ⊥) → ((x : Heading) → h ≡ header.Enum x → ⊥) → ((x : Extending) → h ≡ header.Extend x → ⊥) → allows context.Message (header_kind h) ≡ false
no_other_in_message (header.Message h) a b c d = absurd (a h refl)
no_other_in_message (header.Oneof h) a b c d = absurd (b h refl)
no_other_in_message (header.Enum h) a b c d = absurd (c h refl)
no_other_in_message (header.Extend x) a b c d = absurd (d x refl)
no_other_in_message whole a b c d = refl

-- ---- a file

pub fault_start : {c d : Context} {tokens rest : List Lexeme} (t : Tree) (f : Fault) → last_of c t ≡ d → IsRead c tokens t rest → FaultOf d rest f → FaultOf c tokens f
fault_start t fault.Memory e a h = tt
fault_start t (fault.Syntax k) e a h = stuck_after t a e h

pub file_push : {A : Type 0} {c d : Context} {tokens middle rest : List Lexeme} (view : A → Tree) (xs ys : List A) (x : A) → last_of c (trees view xs) ≡ d → IsRead c tokens (trees view xs) middle → IsItem d middle (view x) rest → ys ≡ xs ++ x ∷ [] → IsRead c tokens (trees view ys) rest
file_push {c = c} {tokens = tokens} {rest = rest} view xs ys x e a b same =
    subst (λ t. IsRead c tokens t rest) (sym (ap (trees view) same ∙ trees-push view xs x)) (read_on (trees view xs) (view x) a e b.read)

pub last_push : {A : Type 0} (c d f : Context) (view : A → Tree) (xs ys : List A) (x : A) → last_of c (trees view xs) ≡ d → last_of d (view x) ≡ f → ys ≡ xs ++ x ∷ [] → last_of c (trees view ys) ≡ f
last_push c d f view xs ys x e l same = ap (last_of c) (ap (trees view) same ∙ trees-push view xs x) ∙ last-joined (trees view xs) (view x) c ∙ ap (λ d. last_of d (view x)) e ∙ l

pub outer_stays : (c d : Context) (t : Tree) → last_of c t ≡ d → IsOuter c → IsOuter d
outer_stays c d t e o = ap (λ x. allows x kind.Close) (sym e) ∙ last_outer t c o

-- ---- a nested message

pub member_tree-Message : (m : Braced Member) → member_tree (member.Message m) ≡ message_tree m
member_tree-Message m = ap member_tree (sym (member.rolls-Message m)) ∙ fold-roll-Member Tree member_layer (Member-F.Message m)

pub member_tree-Oneof : (o : Braced OneofItem) → member_tree (member.Oneof o) ≡ oneof_tree o
member_tree-Oneof o = ap member_tree (sym (member.rolls-Oneof o)) ∙ fold-roll-Member Tree member_layer (Member-F.Oneof o)

pub member_tree-Enum : (e : Braced EnumItem) → member_tree (member.Enum e) ≡ enum_tree e
member_tree-Enum e = ap member_tree (sym (member.rolls-Enum e)) ∙ fold-roll-Member Tree member_layer (Member-F.Enum e)

pub member_tree-Extend : (e : Extend) → member_tree (member.Extend e) ≡ extend_tree e
member_tree-Extend e = ap member_tree (sym (member.rolls-Extend e)) ∙ fold-roll-Member Tree member_layer (Member-F.Extend e)

-- a block that was read, as a value
pub block_seen : (c : Context) (h : Header) (i : ℕ) (t u : Tree) (j : ℕ) (tokens middle rest : List Lexeme) → IsMet c tokens (piece.Open h i) middle → allows c (header_kind h) ≡ true → IsBody (inside h) middle t j rest → u ≡ Block h i t j End → IsItem c tokens u rest
block_seen c h i t u j tokens middle rest e ok b same = subst (λ v. IsItem c tokens v rest) (sym same) (block_item c h i t j tokens middle rest e ok b)

-- ---- an item of a file, as the code meets it

-- the piece was met, and may stand here
pub record IsAllowed (c : Context) (tokens : List Lexeme) (u : Piece) (rest : List Lexeme) (k : Kind) : Type 0 where
  pub met : IsMet c tokens u rest
  pub kind : k ≡ kind_of u
  pub allowed : true ≡ allows c k

fine : {c : Context} {tokens : List Lexeme} {u : Piece} {rest : List Lexeme} {k : Kind} → IsAllowed c tokens u rest k → allows c (kind_of u) ≡ true
fine {c = c} a = ap (allows c) (sym a.kind) ∙ sym a.allowed

at_piece : {c : Context} {tokens : List Lexeme} {u v : Piece} {rest : List Lexeme} {k : Kind} → u ≡ v → IsAllowed c tokens u rest k → IsAllowed c tokens v rest k
at_piece {c = c} {tokens = tokens} {rest = rest} {k = k} e a = subst (λ x. IsAllowed c tokens x rest k) e a

pub refused_here : (c : Context) (u : Piece) (tokens rest : List Lexeme) (k : Kind) → IsMet c tokens u rest → k ≡ kind_of u → false ≡ allows c k → (tokens ≡ [] → ⊥) → IsStuck (c ∷ []) tokens (length tokens)
refused_here c u tokens rest k met e f some = not_here c u tokens rest met (ap (allows c) (sym e) ∙ sym f) (λ z. absurd (some z))

pub file_statement : (c d : Context) (u : Piece) (s : Statement) (x : Item) (tokens rest : List Lexeme) (k : Kind) → IsAllowed c tokens u rest k → u ≡ piece.Statement s → IsItemOf context.Start item_tree s (Some x) → d ≡ after c k → IsItemBefore c tokens (item_tree x) d rest
file_statement c d u s x tokens rest k a e is same =
    let b = at_piece e a in
    record { item = statement_item c item_tree s x tokens rest b.met (fine b, is.1); last = ap (last_of c) is.1 ∙ ap (after c) (sym b.kind) ∙ sym same }

pub file_block : (c d : Context) (v : Piece) (h : Header) (i : ℕ) (t u : Tree) (j : ℕ) (tokens middle rest : List Lexeme) (k : Kind) → IsAllowed c tokens v middle k → v ≡ piece.Open h i → IsBody (inside h) middle t j rest → u ≡ Block h i t j End → d ≡ after c k → IsItemBefore c tokens u d rest
file_block c d v h i t u j tokens middle rest k a e body seen same =
    let b = at_piece e a in
    record { item = block_seen c h i t u j tokens middle rest b.met (fine b) body seen; last = ap (last_of c) seen ∙ ap (after c) (sym b.kind) ∙ sym same }

pub file_inside : (c : Context) (v : Piece) (h : Header) (i : ℕ) (tokens rest : List Lexeme) (k : Kind) (f : Fault) → IsAllowed c tokens v rest k → v ≡ piece.Open h i → FaultOf (inside h) rest f → FaultOf c tokens f
file_inside c v h i tokens rest k f a e g = let b = at_piece e a in fault_inside c h i tokens rest f b.met (fine b) g
