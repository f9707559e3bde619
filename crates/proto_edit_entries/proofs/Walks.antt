-- Files and changes gone through together: what is put so is what is put by the paths. (Public for the crates above.)
use Rattle.std.proofs.Common.{◌≡◌, ◌≢◌, ℕ, zero, suc, ◌+◌, ◌<◌, ◌≤◌, List, [], ◌∷◌, ◌++◌, ◌⊎◌, inl, inr, length, get_or, drop, refl, sym, ap, subst, ◌∙◌, append_assoc, arith, Bool, true, false, map, ◌==◌, AllPairs, String, Global, string_bytes, Contains}
use Rattle.proto_base.proofs.Common.{Vec, nat_tests, drop_more, map_push, text_limit, contains_head, contains_later, contains_cases}
use Rattle.proto_text.proofs.Common.{Puts, puts_once}
use Rattle.proto_files.proofs.Common.{FileOf, file_at, AreWorkspaceFiles, IsBefore, IsWorkspacePath, never_before_itself, before_trans, sides}
use Rattle.proto_edit_entries.specs.Common.{ChangeOf, AreRising, inverted, HasChange, IsNext, ArePut, PutsFile, EachPuts, IsPut, AreShortFiles, WalksPut, PutsAreWalked, PutsKeepPaths}
use Rattle.proto_edit_entries.proofs.Puts.{same_file, contains_none}
use Rattle.proto_files.specs.GivenFiles.{no_file}
use Rattle.proto_base.specs.declared.profile.Profile.{Profile}
use Rattle.proto_files.specs.GivenFiles.{file_of_as, files_of_as}

-- ---- the order of files and changes

abbrev pub Ordered : List FileOf → Type 0
Ordered fs = AllPairs (λ f g. IsBefore f.path g.path) fs

pub ahead : (f : FileOf) (fs : List FileOf) → Ordered (f ∷ fs) → (g : FileOf) → Contains fs g → IsBefore f.path g.path
ahead f fs o g k = subst (λ (x : FileOf). IsBefore f.path x.path) k.2 (o 0 (suc k.0) g (omega arith) (omega (arith, k.1)))

pub behind : (f : FileOf) (fs : List FileOf) → Ordered (f ∷ fs) → Ordered fs
behind f fs o i j d lt within = o (suc i) (suc j) d (omega arith) (omega arith)

pub rises_from : (c : ChangeOf) (cs : List ChangeOf) → AreRising (c ∷ cs) → (d : ChangeOf) → Contains cs d → IsBefore c.path d.path
rises_from c [] h d k = absurd (contains_none d k)
rises_from c (e ∷ cs) h d k = elim (contains_cases e d cs k) [
  | inl same ↦ subst (λ (z : ChangeOf). IsBefore c.path z.path) same h.0
  | inr later ↦ before_trans c.path e.path d.path h.0 (rises_from e cs h.1 d later)
]

pub rising_back : (cs : List ChangeOf) → AreRising cs → AreRising (inverted cs)
rising_back [] h = tt
rising_back (c ∷ []) h = (tt, tt)
rising_back (c ∷ d ∷ ds) h = (h.0, rising_back (d ∷ ds) h.1)

pub never : (p q r : List ℕ) → IsBefore p q → p ≡ r → q ≡ r → ⊥
never p q r lt a b = never_before_itself r (subst (λ (z : List ℕ). IsBefore z r) a (subst (λ (z : List ℕ). IsBefore p z) b lt))

same_or_not : (p q : List ℕ) → (p ≡ q) ⊎ (p ≢ q)
same_or_not p q = elim (sides p q) [
  | inl lt ↦ inr (λ e. never p q q lt e refl)
  | inr rest ↦ elim rest [
    | inl e ↦ inl e
    | inr gt ↦ inr (λ e. never q p q gt refl e)
  ]
]

-- ---- one change more, of no file behind

module _ (c : ChangeOf) (cs : List ChangeOf) where
  file_more : (f g : FileOf) → c.path ≢ f.path → PutsFile cs f g → PutsFile (c ∷ cs) f g
  file_more f g ne p = record {
    path = p.path;
    profile = p.profile;
    changed = λ d k q. (elim (contains_cases c d cs k) [
      | inl same ↦ absurd (ne (ap (λ (z : ChangeOf). z.path) same ∙ q))
      | inr k ↦ p.changed d k q
    ]);
    kept = λ none_is. p.kept (λ d k. none_is d (contains_later c d cs k));
  }

  file_less : (f g : FileOf) → c.path ≢ f.path → PutsFile (c ∷ cs) f g → PutsFile cs f g
  file_less f g ne p = record {
    path = p.path;
    profile = p.profile;
    changed = λ d k q. p.changed d (contains_later c d cs k) q;
    kept = λ none_is. p.kept (λ d k q. (elim (contains_cases c d cs k) [
      | inl same ↦ ne (ap (λ (z : ChangeOf). z.path) same ∙ q)
      | inr k ↦ none_is d k q
    ]));
  }

  each_more : (fs gs : List FileOf) → ((f : FileOf) → Contains fs f → c.path ≢ f.path) → EachPuts cs fs gs → EachPuts (c ∷ cs) fs gs
  each_more [] [] ne p = tt
  each_more [] (g ∷ gs) ne p = absurd p
  each_more (f ∷ fs) [] ne p = absurd p
  each_more (f ∷ fs) (g ∷ gs) ne p = (file_more f g (ne f (contains_head f fs)) p.0, each_more fs gs (λ h k. ne h (contains_later f h fs k)) p.1)

  each_less : (fs gs : List FileOf) → ((f : FileOf) → Contains fs f → c.path ≢ f.path) → EachPuts (c ∷ cs) fs gs → EachPuts cs fs gs
  each_less [] [] ne p = tt
  each_less [] (g ∷ gs) ne p = absurd p
  each_less (f ∷ fs) [] ne p = absurd p
  each_less (f ∷ fs) (g ∷ gs) ne p = (file_less f g (ne f (contains_head f fs)) p.0, each_less fs gs (λ h k. ne h (contains_later f h fs k)) p.1)

-- ---- from the walk to the paths

unchanged : (f g : FileOf) → g ≡ f → PutsFile [] f g
unchanged f g e = record { path = ap (λ (z : FileOf). z.path) e; profile = ap (λ (z : FileOf). z.profile) e; changed = λ c k p. absurd (contains_none c k); kept = λ ne. ap (λ (z : FileOf). z.bytes) e }

nothing_put : IsPut [] [] []
nothing_put = record { each = tt; there = λ c k. absurd (contains_none c k) }

-- the first change is of the first file
module _ (f g : FileOf) (fs gs : List FileOf) (c : ChangeOf) (cs : List ChangeOf) (o : Ordered (f ∷ fs)) (r : AreRising (c ∷ cs)) (at : c.path ≡ f.path) where
  apart : (h : FileOf) → Contains fs h → c.path ≢ h.path
  apart h k e = never f.path h.path h.path (ahead f fs o h k) (sym at ∙ e) refl

  taken : g.path ≡ f.path → HasChange f.bytes c g.bytes → g.profile ≡ f.profile → IsPut fs cs gs → IsPut (f ∷ fs) (c ∷ cs) (g ∷ gs)
  taken path put language rest = record {
    each = (
      record {
        path = path;
        profile = language;
        changed = λ d k p. (elim (contains_cases c d cs k) [
          | inl same ↦ subst (λ (z : ChangeOf). (length f.bytes ≡ z.before) × Puts 0 f.bytes z.splices g.bytes) same (put.before, put.puts)
          | inr k ↦ absurd (never c.path d.path f.path (rises_from c cs r d k) at p)
        ]);
        kept = λ ne. absurd (ne c (contains_head c cs) at);
      },
      each_more c cs fs gs apart rest.each,
    );
    there = λ d k. (elim (contains_cases c d cs k) [
      | inl same ↦ (f, contains_head f fs, sym at ∙ ap (λ (z : ChangeOf). z.path) same)
      | inr k ↦ (let t = rest.there d k in (t.0, contains_later f t.0 fs t.1, t.2))
    ]);
  }

  left_behind : IsPut (f ∷ fs) (c ∷ cs) (g ∷ gs) → IsPut fs cs gs
  left_behind p = record {
    each = each_less c cs fs gs apart p.each.1;
    there = λ d k. (
        let t = p.there d (contains_later c d cs k) in
        elim (contains_cases f t.0 fs t.1) [
          | inl same ↦ absurd (never c.path d.path d.path (rises_from c cs r d k) (at ∙ ap (λ (z : FileOf). z.path) same ∙ t.2) refl)
          | inr k ↦ (t.0, k, t.2)
        ]);
  }

-- the first change is of a file behind
module _ (f g : FileOf) (fs gs : List FileOf) (c : ChangeOf) (cs : List ChangeOf) (o : Ordered (f ∷ fs)) (r : AreRising (c ∷ cs)) where
  passed : g ≡ f → IsPut fs (c ∷ cs) gs → IsPut (f ∷ fs) (c ∷ cs) (g ∷ gs)
  passed same rest = record {
    each = (
      record {
        path = ap (λ (z : FileOf). z.path) same;
        profile = ap (λ (z : FileOf). z.profile) same;
        changed = λ d k p. absurd (let t = rest.there d k in never f.path t.0.path f.path (ahead f fs o t.0 t.1) refl (t.2 ∙ p));
        kept = λ ne. ap (λ (z : FileOf). z.bytes) same;
      },
      rest.each,
    );
    there = λ d k. (let t = rest.there d k in (t.0, contains_later f t.0 fs t.1, t.2));
  }

  module _ (p : IsPut (f ∷ fs) (c ∷ cs) (g ∷ gs)) (ne : c.path ≢ f.path) where
    before : IsBefore f.path c.path
    before =
        let t = p.there c (contains_head c cs) in
        elim (contains_cases f t.0 fs t.1) [
          | inl same ↦ absurd (ne (sym t.2 ∙ ap (λ (z : FileOf). z.path) (sym same)))
          | inr k ↦ subst (λ (z : List ℕ). IsBefore f.path z) t.2 (ahead f fs o t.0 k)
        ]

    not_here : (d : ChangeOf) → Contains (c ∷ cs) d → d.path ≢ f.path
    not_here d k e = elim (contains_cases c d cs k) [
      | inl same ↦ ne (ap (λ (z : ChangeOf). z.path) same ∙ e)
      | inr k ↦ never f.path d.path f.path (before_trans f.path c.path d.path before (rises_from c cs r d k)) refl e
    ]

    stays : g ≡ f
    stays = same_file g f p.each.0.path (p.each.0.kept not_here) p.each.0.profile

    all_behind : IsPut fs (c ∷ cs) gs
    all_behind = record {
      each = p.each.1;
      there = λ d k. (
          let t = p.there d k in
          elim (contains_cases f t.0 fs t.1) [
            | inl same ↦ absurd (not_here d k (sym t.2 ∙ ap (λ (z : FileOf). z.path) (sym same)))
            | inr k ↦ (t.0, k, t.2)
          ]);
    }

pub put_by_paths : (fs : List FileOf) (cs : List ChangeOf) (after : List FileOf) → Ordered fs → AreRising cs → ArePut fs cs after → IsPut fs cs after
put_by_paths [] cs after o r h = subst (λ (z : List ChangeOf). IsPut [] z after) (sym h.0) (subst (λ (z : List FileOf). IsPut [] [] z) (sym h.1) nothing_put)
put_by_paths (f ∷ fs) cs [] o r h = absurd h
put_by_paths (f ∷ fs) [] (g ∷ gs) o r h =
    let rest = put_by_paths fs [] gs (behind f fs o) tt (subst (λ (z : List ChangeOf). ArePut fs z gs) h.1.1 h.2) in
    record { each = (unchanged f g h.1.0, rest.each); there = λ c k. absurd (contains_none c k) }
put_by_paths (f ∷ fs) (c ∷ cs) (g ∷ gs) o r h = elim h.1 [
  | inl x ↦ taken f g fs gs c cs o r x.0 x.1 x.2 x.4 (put_by_paths fs cs gs (behind f fs o) r.1 (subst (λ (z : List ChangeOf). ArePut fs z gs) x.3 h.2))
  | inr x ↦ passed f g fs gs c cs o r x.1 (put_by_paths fs (c ∷ cs) gs (behind f fs o) r (subst (λ (z : List ChangeOf). ArePut fs z gs) x.2 h.2))
]

-- ---- and back, where no file is too large

pub put_in_order : (fs : List FileOf) (cs : List ChangeOf) (after : List FileOf) → Ordered fs → AreRising cs → AreShortFiles after → IsPut fs cs after → ArePut fs cs after
put_in_order [] [] [] o r short p = (refl, refl)
put_in_order [] (c ∷ cs) [] o r short p = absurd (let t = p.there c (contains_head c cs) in contains_none t.0 t.1)
put_in_order [] cs (g ∷ gs) o r short p = absurd p.each
put_in_order (f ∷ fs) cs [] o r short p = absurd p.each
put_in_order (f ∷ fs) [] (g ∷ gs) o r short p =
    let rest : IsPut fs [] gs = record { each = p.each.1; there = λ c k. absurd (contains_none c k) } in
    ([], (same_file g f p.each.0.path (p.each.0.kept (λ c k. absurd (contains_none c k))) p.each.0.profile, refl), put_in_order fs [] gs (behind f fs o) tt (λ h k. short h (contains_later g h gs k)) rest)
put_in_order (f ∷ fs) (c ∷ cs) (g ∷ gs) o r short p = elim (same_or_not c.path f.path) [
  | inl at ↦
      let put = p.each.0.changed c (contains_head c cs) at in (
        cs,
        inl (at, p.each.0.path, record { before = put.0; puts = put.1; short = short g (contains_head g gs) }, refl, p.each.0.profile),
        put_in_order fs cs gs (behind f fs o) r.1 (λ h k. short h (contains_later g h gs k)) (left_behind f g fs gs c cs o r at p),
      )
  | inr ne ↦ (
    c ∷ cs,
    inr (ne, stays f g fs gs c cs o r p ne, refl),
    put_in_order fs (c ∷ cs) gs (behind f fs o) r (λ h k. short h (contains_later g h gs k)) (all_behind f g fs gs c cs o r p ne),
  )
]

-- ---- the files after the changes are those of a workspace

paths_at : (cs : List ChangeOf) (fs gs : List FileOf) → EachPuts cs fs gs → (i : ℕ) (d : FileOf) → (get_or gs i d).path ≡ (get_or fs i d).path
paths_at cs [] [] p i d = refl
paths_at cs [] (g ∷ gs) p i d = absurd p
paths_at cs (f ∷ fs) [] p i d = absurd p
paths_at cs (f ∷ fs) (g ∷ gs) p zero d = p.0.path
paths_at cs (f ∷ fs) (g ∷ gs) p (suc i) d = paths_at cs fs gs p.1 i d

as_many : (cs : List ChangeOf) (fs gs : List FileOf) → EachPuts cs fs gs → length gs ≡ length fs
as_many cs [] [] p = refl
as_many cs [] (g ∷ gs) p = absurd p
as_many cs (f ∷ fs) [] p = absurd p
as_many cs (f ∷ fs) (g ∷ gs) p = ap suc (as_many cs fs gs p.1)

pub still_files : (cs : List ChangeOf) (fs gs : List FileOf) → AreWorkspaceFiles fs → EachPuts cs fs gs → AreWorkspaceFiles gs
still_files cs fs gs workspace p =
    let long = as_many cs fs gs p in
    let few = workspace.few in
    record {
      few = omega (arith, long, few);
      named = λ k d lt. subst IsWorkspacePath (sym (paths_at cs fs gs p k d)) (workspace.named k d (omega (arith, long, lt)));
      ordered = λ i j d lt within. (
          let at = workspace.ordered i j d lt (omega (arith, long, within)) in
          subst (λ (z : List ℕ). IsBefore z (get_or gs j d).path) (sym (paths_at cs fs gs p i d)) (subst (λ (z : List ℕ). IsBefore (get_or fs i d).path z) (sym (paths_at cs fs gs p j d)) at));
    }

-- ---- the same as laws

pub walks_put : WalksPut
walks_put w after cs workspace rising walk = put_by_paths w cs after workspace.ordered rising walk

pub puts_are_walked : PutsAreWalked
puts_are_walked w after cs workspace rising short put = put_in_order w cs after workspace.ordered rising short put

pub puts_keep_paths : PutsKeepPaths
puts_keep_paths w after cs workspace put = still_files cs w after workspace put.each

-- ---- the walk, file by file

pub next_once : (f : FileOf) (cs : List ChangeOf) (g h : FileOf) (rs ss : List ChangeOf) → IsNext f cs g rs → IsNext f cs h ss → (g ≡ h) × (rs ≡ ss)
next_once f [] g h rs ss x y = (x.0 ∙ sym y.0, x.1 ∙ sym y.1)
next_once f (c ∷ cs) g h rs ss (inl x) (inl y) = (same_file g h (x.1 ∙ sym y.1) (puts_once 0 f.bytes g.bytes h.bytes c.splices x.2.puts y.2.puts) (x.4 ∙ sym y.4), x.3 ∙ sym y.3)
next_once f (c ∷ cs) g h rs ss (inl x) (inr y) = absurd (y.0 x.0)
next_once f (c ∷ cs) g h rs ss (inr x) (inl y) = absurd (x.0 y.0)
next_once f (c ∷ cs) g h rs ss (inr x) (inr y) = (x.1 ∙ sym y.1, x.2 ∙ sym y.2)

-- the files up to a place are put, and these changes are left
pub record IsWalked (fs : List FileOf) (cs : List ChangeOf) (place : ℕ) (left : List ChangeOf) (given : List FileOf) : Type 0 where
  pub forth : (more : List FileOf) → ArePut (drop place fs) left more → ArePut fs cs (given ++ more)
  pub back : (after : List FileOf) → ArePut fs cs after → (more : List FileOf) × (after ≡ given ++ more) × ArePut (drop place fs) left more

split : (f : FileOf) (fs : List FileOf) (left : List ChangeOf) (more : List FileOf) → ArePut (f ∷ fs) left more → (g : FileOf) × (gs : List FileOf) × (rest : List ChangeOf) × (more ≡ g ∷ gs) × IsNext f left g rest × ArePut fs rest gs
split f fs left [] h = absurd h
split f fs left (g ∷ gs) h = (g, gs, h.0, refl, h.1, h.2)

module _ (fs : List FileOf) (cs : List ChangeOf) (place : ℕ) (left : List ChangeOf) (given : List FileOf) (lt : place < length fs) (so_far : IsWalked fs cs place left given) where
  here : drop place fs ≡ file_at fs place ∷ drop (place + 1) fs
  here = drop_more fs place no_file lt

  -- a file more
  pub walked_more : (g : FileOf) (rest : List ChangeOf) → IsNext (file_at fs place) left g rest → IsWalked fs cs (place + 1) rest (given ++ g ∷ [])
  walked_more g rest next = record {
    forth = λ more h. subst (ArePut fs cs) (sym (append_assoc given (g ∷ []) more)) (so_far.forth (g ∷ more) (subst (λ (z : List FileOf). ArePut z left (g ∷ more)) (sym here) (rest, next, h)));
    back = λ after h. (
        let p = so_far.back after h in
        let s = split (file_at fs place) (drop (place + 1) fs) left p.0 (subst (λ (z : List FileOf). ArePut z left p.0) here p.2) in
        let one = next_once (file_at fs place) left s.0 g s.2 rest s.4 next in (
          s.1,
          p.1 ∙ ap (λ (z : List FileOf). given ++ z) s.3 ∙ ap (λ (z : FileOf). given ++ z ∷ s.1) one.0 ∙ sym (append_assoc given (g ∷ []) s.1),
          subst (λ (z : List ChangeOf). ArePut (drop (place + 1) fs) z s.1) one.1 s.5,
        ));
  }

nothing_left : (fs : List FileOf) (place : ℕ) → length fs ≤ place → drop place fs ≡ []
nothing_left [] zero h = refl
nothing_left [] (suc k) h = refl
nothing_left (f ∷ fs) zero h = absurd (omega (arith, h))
nothing_left (f ∷ fs) (suc k) h = nothing_left fs k (omega (arith, h))

append_nothing : (fs : List FileOf) → fs ++ [] ≡ fs
append_nothing [] = refl
append_nothing (f ∷ fs) = ap (λ (z : List FileOf). f ∷ z) (append_nothing fs)

module _ (fs : List FileOf) (cs : List ChangeOf) (place : ℕ) (left : List ChangeOf) (given : List FileOf) (end : length fs ≤ place) (so_far : IsWalked fs cs place left given) where
  -- changes that are left are of no file
  pub walked_none : (left ≡ [] → ⊥) → (after : List FileOf) → ArePut fs cs after → ⊥
  walked_none some after put =
      let m = so_far.back after put in
      some (subst (λ (z : List FileOf). ArePut z left m.0) (nothing_left fs place end) m.2).0

  pub walked_all : left ≡ [] → ArePut fs cs given
  walked_all e = subst (ArePut fs cs) (append_nothing given) (so_far.forth [] (subst (λ (z : List FileOf). ArePut z left []) (sym (nothing_left fs place end)) (e, refl)))

-- ---- what the code goes through

-- a text that is too long is none
pub too_long : (text : List ℕ) (c : ChangeOf) → (big : List ℕ) × Puts 0 text c.splices big × (text_limit < length big) → (new : List ℕ) → HasChange text c new → ⊥
too_long text c big new h =
    let same = ap length (puts_once 0 text big.0 new c.splices big.1 h.puts) in
    let long = big.2 in
    let short = h.short in
    omega (arith, same, long, short)

true_not_false : true ≡ false → ⊥
true_not_false e = cc

cons_not_nil : {X : Type 0} (x : X) (xs : List X) → x ∷ xs ≡ [] → ⊥
cons_not_nil x xs e = cc

pub nothing_in : {X : Type 0} (xs : List X) (t : Bool) → t ≡ (length xs == 0) → t ≡ true → xs ≡ []
nothing_in [] t e h = refl
nothing_in (x ∷ xs) t e h = (let none_there : length (x ∷ xs) ≡ 0 = grind (arith, nat_tests) in absurd (omega (arith, none_there)))

pub something_in : {X Y : Type 0} (f : X → Y) (xs : List X) (t : Bool) → t ≡ (length xs == 0) → t ≡ false → map f xs ≡ [] → ⊥
something_in f [] t e h m = true_not_false (sym e ∙ h)
something_in f (x ∷ xs) t e h m = cons_not_nil (f x) (map f xs) m

pub walk_step : (p : Profile) (files : List FileOf) (cs left rest : List ChangeOf) (place : ℕ) (items news : List (String Global × Vec ℕ)) (path text : List ℕ) (name : String Global) (b : Vec ℕ)
    → place < length files → (file_at files place).profile ≡ p → IsWalked files cs place left (files_of_as p items) → path ≡ (file_at files place).path → text ≡ (file_at files place).bytes
    → IsNext (record { path = path; bytes = text; profile = p }) left (record { path = path; bytes = b.items; profile = p }) rest → string_bytes name ≡ path → news ≡ items ++ (name, b) ∷ []
    → IsWalked files cs (place + 1) rest (files_of_as p news)
walk_step p files cs left rest place items news path text name b lt language so_far path_is text_is next named is =
    let g : FileOf = record { path = path; bytes = b.items; profile = p } in
    let here = subst (λ (z : FileOf). IsNext z left g rest) (same_file (record { path = path; bytes = text; profile = p }) (file_at files place) path_is text_is (sym language)) next in
    let more = map_push (file_of_as p) items (name, b) in
    let added = ap (files_of_as p) is ∙ more ∙ ap (λ (z : List ℕ). files_of_as p items ++ record { path = z; bytes = b.items; profile = p } ∷ []) named in
    subst (IsWalked files cs (place + 1) rest) (sym added) (walked_more files cs place left (files_of_as p items) lt so_far g rest here)

-- nothing is put, where the next file has no text with the first change
pub walk_stuck : (p : Profile) (files : List FileOf) (cs left : List ChangeOf) (place : ℕ) (given : List FileOf) (path text : List ℕ) → place < length files → (file_at files place).profile ≡ p → IsWalked files cs place left given
    → path ≡ (file_at files place).path → text ≡ (file_at files place).bytes → ((g : FileOf) (rest : List ChangeOf) → IsNext (record { path = path; bytes = text; profile = p }) left g rest → ⊥) → (after : List FileOf) → ArePut files cs after → ⊥
walk_stuck p files cs left place given path text lt language so_far path_is text_is none after put =
    let m = so_far.back after put in
    let s = split (file_at files place) (drop (place + 1) files) left m.0 (subst (λ (z : List FileOf). ArePut z left m.0) (here files cs place left given lt so_far) m.2) in
    none s.0 s.2 (subst (λ (z : FileOf). IsNext z left s.0 s.2) (sym (same_file (record { path = path; bytes = text; profile = p }) (file_at files place) path_is text_is (sym language))) s.4)
