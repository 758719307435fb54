-- What is read are the blocks of a load.
use Rattle.std.proofs.Common.{◌≡◌, ◌⊎◌, inl, inr, ℕ, suc, ◌+◌, ◌-◌, ◌<◌, ◌≤◌, Bool, true, false, ◌&&◌, leb, cond, ◌==◌, List, [], ◌∷◌, ◌++◌, length, Option, Some, None, Result, Ok, Err, bytes_eq, refl, ap, subst, sym, ◌∙◌, arith, eqb-true, length-append}
use Rattle.std.specs.Bool.{⊤}
use Rattle.std.specs.Prelude.{codes}
use Rattle.std.specs.List.{AllByRecursion}
use Rattle.std.proofs.lemmas.Bool.{leb-true}
use Rattle.scene_model.specs.Field as read
use Rattle.scene_model.specs.Field.{Read, split_at, natural, in_range, number_in, out_of_range, BoundName, is_name, no_name, find_name, used, bound_at}
use Rattle.scene_model.specs.Grammar.{Field, field, is_skipped, on_last}
use Rattle.load_text.specs.Loads.{BlockLine, program_line, uniform_line, destroy_line, frame_line, Block}
use Rattle.load_text.specs.Text.{◌>>=◌, some_read, when, is_word, has_count, number, program_word, uniform_word, names_read, with_name, place_of, Stage, at_front, at_callers, at_first_block, in_block, at_end, Reading, nothing_read, with_one, with_line, front_after, callers_after, caller_after, done_after, between_after, program_after, uniform_after, destroy_after, frame_after, block_after, after_fields, after_line, is_complete, at_last_piece, read_pieces, load_of}
use Rattle.load_text.specs.Laws.{AscendFrom, AreBound, MayStand, IsBlock, AreBlocks, SayCallers, HasCallers, LoadLaw}

-- ---- steps that succeed

some_bind : {A B : Type 0} (o : Option A) (f : A → Option B) (y : B) → (o >>= f) ≡ Some y → (x : A) × (o ≡ Some x) × (f x ≡ Some y)
some_bind (Some x) f y e = (x, refl, e)
some_bind None f y e = absurd (cc e)

when_some : (b y : Bool) → when b ≡ Some y → b ≡ true
when_some true y e = refl
when_some false y e = absurd (cc e)

both : (a b : Bool) → (a && b) ≡ true → (a ≡ true) × (b ≡ true)
both true b h = (refl, h)
both false b h = absurd (cc h)

-- ---- numbers and names

in_bounds : (low high m n : ℕ) (b : Bool) → b ≡ (leb low m && leb m high) → some_read (cond b (Ok m) (Err out_of_range)) ≡ Some n → (low ≤ n) × (n ≤ high)
in_bounds low high m n true h e =
    let same : m ≡ n = cc e in
    let t = both (leb low m) (leb m high) (sym h) in
    (omega (arith, leb-true low m t.0, same), omega (arith, leb-true m high t.1, same))
in_bounds low high m n false h e = absurd (cc e)

number_bound : (low high : ℕ) (f : Field) (n : ℕ) → number low high f ≡ Some n → (low ≤ n) × (n ≤ high)
unfolding number
number_bound low high f n e = by (natural f) e
  where
    by : (r : Read ℕ) → some_read (read.◌>>=◌ r (in_range low high)) ≡ Some n → (low ≤ n) × (n ≤ high)
    by (Ok m) e = in_bounds low high m n (leb low m && leb m high) refl e
    by (Err c) e = absurd (cc e)

name_more : (names more : List BoundName) (f : Field) → with_name names f ≡ Some more → length more ≡ length names + 1
unfolding with_name
name_more names more f e = by (is_name f) (find_name 0 names f) e
  where
    by : (b : Bool) (o : Option (ℕ × Bool)) → names_read (cond b (bound_at names f false o) (Err no_name)) ≡ Some more → length more ≡ length names + 1
    by true None e = let same : names ++ record { text = f; by_uniform = false } ∷ [] ≡ more = cc e in ap length (sym same) ∙ length-append names (record { text = f; by_uniform = false } ∷ [])
    by true (Some found) e = absurd (cc e)
    by false o e = absurd (cc e)

find_below : (k : ℕ) (names : List BoundName) (f : Field) (r : ℕ × Bool) → find_name k names f ≡ Some r → r.0 < k + length names
find_below k [] f r e = absurd (cc e)
find_below k (b ∷ names) f r e = by (bytes_eq f b.text) e (find_below (k + 1) names f r)
  where
    by : (t : Bool) → cond t (Some (k, b.by_uniform)) (find_name (k + 1) names f) ≡ Some r → (find_name (k + 1) names f ≡ Some r → r.0 < k + 1 + length names) → r.0 < k + suc (length names)
    by true e later = let p : k ≡ r.0 = cc e in omega (arith, p)
    by false e later = omega (arith, later e)

place_below : (names : List BoundName) (f : Field) (n : ℕ) → place_of names f ≡ Some n → n < length names
unfolding place_of
place_below names f n e = by (is_name f) (find_name 0 names f) refl e
  where
    by : (b : Bool) (o : Option (ℕ × Bool)) → find_name 0 names f ≡ o → some_read (cond b (used o) (Err no_name)) ≡ Some n → n < length names
    by true None h e = absurd (cc e)
    by true (Some r) h e = let p : r.0 ≡ n = cc e in omega (arith, find_below 0 names f r h, p)
    by false o h e = absurd (cc e)

-- ---- lines of a block

-- how many create lines there are
abbrev creates_in : List BlockLine → ℕ
creates_in [] = 0
creates_in (program_line kind ∷ lines) = 1 + creates_in lines
creates_in (uniform_line name kind ∷ lines) = 1 + creates_in lines
creates_in (destroy_line n ∷ lines) = creates_in lines
creates_in (frame_line ∷ lines) = creates_in lines

creates_snoc : (lines : List BlockLine) (l : BlockLine) → creates_in (lines ++ l ∷ []) ≡ creates_in lines + creates_in (l ∷ [])
creates_snoc [] l = omega arith
creates_snoc (program_line kind ∷ lines) l = let r = creates_snoc lines l in omega (arith, r)
creates_snoc (uniform_line name kind ∷ lines) l = let r = creates_snoc lines l in omega (arith, r)
creates_snoc (destroy_line n ∷ lines) l = creates_snoc lines l
creates_snoc (frame_line ∷ lines) l = creates_snoc lines l

bound_snoc : (n m : ℕ) (lines : List BlockLine) (l : BlockLine) → m ≡ n + creates_in lines → AreBound n lines → AreBound m (l ∷ []) → AreBound n (lines ++ l ∷ [])
bound_snoc n m [] l e h is = let same : m ≡ n = omega (arith, e) in subst (λ (k : ℕ). AreBound k (l ∷ [])) same is
bound_snoc n m (program_line kind ∷ lines) l e h is = bound_snoc (n + 1) m lines l (omega (arith, e)) h is
bound_snoc n m (uniform_line name kind ∷ lines) l e h is = bound_snoc (n + 1) m lines l (omega (arith, e)) h is
bound_snoc n m (destroy_line k ∷ lines) l e h is = (h.0, bound_snoc n m lines l e h.1 is)
bound_snoc n m (frame_line ∷ lines) l e h is = bound_snoc n m lines l e h is

all_snoc : {A : Type 0} (P : A → Type 0) (xs : List A) (x : A) → AllByRecursion P xs → P x → AllByRecursion P (xs ++ x ∷ [])
all_snoc P [] x h is = (is, tt)
all_snoc P (y ∷ xs) x h is = (h.0, all_snoc P xs x h.1 is)

-- ---- blocks

on_last_snoc : {A : Type 0} (f : A → A) (front : List A) (x : A) → on_last f (front ++ x ∷ []) ≡ front ++ f x ∷ []
on_last_snoc f [] x = refl
on_last_snoc f (a ∷ []) x = refl
on_last_snoc f (a ∷ b ∷ front) x = ap (λ l. a ∷ l) (on_last_snoc f (b ∷ front) x)

ascend_snoc : (low count : ℕ) (front : List Block) (x y : Block) → AscendFrom low count (front ++ x ∷ []) → x.caller + 1 ≤ y.caller → y.caller < count → AscendFrom low count ((front ++ x ∷ []) ++ y ∷ [])
ascend_snoc low count [] x y h le lt = (h.0, h.1, (le, lt, tt))
ascend_snoc low count (a ∷ front) x y h le lt = (h.0, h.1, ascend_snoc (a.caller + 1) count front x y h.2 le lt)

ascend_again : (low count : ℕ) (front : List Block) (x y : Block) → y.caller ≡ x.caller → AscendFrom low count (front ++ x ∷ []) → AscendFrom low count (front ++ y ∷ [])
ascend_again low count [] x y e h = (omega (arith, h.0, e), omega (arith, h.1, e), tt)
ascend_again low count (a ∷ front) x y e h = (h.0, h.1, ascend_again (a.caller + 1) count front x y e h.2)

-- ---- what is kept at each stage

abbrev AreCallers : ℕ → Type 0
AreCallers n = (1 ≤ n) × (n ≤ 8)

abbrev the_block : ℕ → List BlockLine → Block
the_block caller lines = record { caller = caller; lines = lines }

-- the last block is a caller's, and the names are those of its create lines
record InBlock (caller : ℕ) (r : Reading) : Type 0 where
  pub front : List Block
  pub lines : List BlockLine
  pub blocks : r.blocks ≡ front ++ the_block caller lines ∷ []
  pub ascend : AscendFrom 0 r.callers (front ++ the_block caller lines ∷ [])
  pub each : AllByRecursion IsBlock front
  pub last : IsBlock (the_block caller lines)
  pub names : length r.names ≡ creates_in lines

abbrev KeptAt : Stage → Reading → Type 0
KeptAt at_front r = r.blocks ≡ []
KeptAt at_callers r = r.blocks ≡ []
KeptAt at_first_block r = AreCallers r.callers × (r.blocks ≡ [])
KeptAt (in_block caller) r = AreCallers r.callers × InBlock caller r
KeptAt at_end r = AreBlocks r.callers r.blocks

-- the number of callers was read
abbrev is_past : Stage → Bool
is_past at_front = false
is_past at_callers = false
is_past _ = true

-- from a stage on, behind a line
record Goes (s : Stage) (fs : List Field) (r q : Reading) : Type 0 where
  pub kept : KeptAt q.stage q
  pub past : is_past s ≡ true → (is_past q.stage ≡ true) × (q.callers ≡ r.callers)
  pub says : is_past s ≡ false → is_past q.stage ≡ true → SayCallers q.callers fs

front_goes : (r q : Reading) (fs : List Field) → KeptAt at_front r → front_after r fs ≡ Some q → Goes at_front fs r q
unfolding front_after
front_goes r q fs k e =
    let a = some_bind (when (is_word (codes "load") fs)) _ q e in
    let b = some_bind (has_count 2 fs) _ q a.2 in
    let n = some_bind (number 1 1 (field fs 1)) _ q b.2 in
    let same : record r { stage = at_callers } ≡ q = cc n.2 in
    subst (Goes at_front fs r) same (record { kept = k; past = λ h. absurd (cc h); says = λ h i. absurd (cc i) })

callers_goes : (r q : Reading) (fs : List Field) → KeptAt at_callers r → callers_after r fs ≡ Some q → Goes at_callers fs r q
unfolding callers_after
callers_goes r q fs k e =
    let a = some_bind (when (is_word (codes "callers") fs)) _ q e in
    let b = some_bind (has_count 2 fs) _ q a.2 in
    let n = some_bind (number 1 8 (field fs 1)) _ q b.2 in
    let same : record r { stage = at_first_block; callers = n.0 } ≡ q = cc n.2 in
    subst (Goes at_callers fs r) same (record {
      kept = (number_bound 1 8 (field fs 1) n.0 n.1, k);
      past = λ h. absurd (cc h);
      says = λ h i. (when_some (is_word (codes "callers") fs) a.0 a.1, n.1);
    })

-- where a block may begin
module _ (s : Stage) (low : ℕ) (r : Reading) (fs : List Field) (is : is_past s ≡ true) (some : AreCallers r.callers) (whole : AreBlocks r.callers r.blocks) (next : (c : ℕ) → low ≤ c → c < r.callers → AscendFrom 0 r.callers (r.blocks ++ the_block c [] ∷ [])) where
  never : is_past s ≡ false → ⊥
  never h = let both : true ≡ false = sym is ∙ h in cc both

  caller_goes : (q : Reading) → caller_after low r fs ≡ Some q → Goes s fs r q
  unfolding caller_after
  caller_goes q e =
      let a = some_bind (has_count 2 fs) _ q e in
      let n = some_bind (number low (r.callers - 1) (field fs 1)) _ q a.2 in
      let b = number_bound low (r.callers - 1) (field fs 1) n.0 n.1 in
      let same : record r { stage = in_block n.0; names = []; blocks = r.blocks ++ the_block n.0 [] ∷ [] } ≡ q = cc n.2 in
      subst (Goes s fs r) same (record {
        kept = (
          some,
          record {
            front = r.blocks;
            lines = [];
            blocks = refl;
            ascend = next n.0 b.0 (omega (arith, b.1, some.0));
            each = whole.each;
            last = record { bound = tt; frames = tt };
            names = refl;
          },
        );
        past = λ h. (refl, refl);
        says = λ h i. absurd (never h);
      })

  done_goes : (q : Reading) → done_after r fs ≡ Some q → Goes s fs r q
  unfolding done_after
  done_goes q e =
      let a = some_bind (has_count 1 fs) _ q e in
      let same : record r { stage = at_end } ≡ q = cc a.2 in
      subst (Goes s fs r) same (record { kept = whole; past = λ h. (refl, refl); says = λ h i. absurd (never h) })

  between_goes : (q : Reading) → between_after low r fs ≡ Some q → Goes s fs r q
  unfolding between_after
  between_goes q e = by (is_word (codes "caller") fs) (is_word (codes "done") fs) e
    where
      by : (b d : Bool) → cond b (caller_after low r fs) (cond d (done_after r fs) None) ≡ Some q → Goes s fs r q
      by true d e = caller_goes q e
      by false true e = done_goes q e
      by false false e = absurd (cc e)

first_goes : (r q : Reading) (fs : List Field) → KeptAt at_first_block r → between_after 0 r fs ≡ Some q → Goes at_first_block fs r q
first_goes r q fs k e = between_goes at_first_block 0 r fs refl k.0
    (record {
      some = k.0.0;
      most = k.0.1;
      ascend = subst (λ (bs : List Block). AscendFrom 0 r.callers bs) (sym k.1) tt;
      each = subst (λ (bs : List Block). AllByRecursion IsBlock bs) (sym k.1) tt;
    })
    (λ c low lt. subst (λ (bs : List Block). AscendFrom 0 r.callers (bs ++ the_block c [] ∷ [])) (sym k.1) (low, lt, tt))
    q e

-- in a block
module _ (caller : ℕ) (r : Reading) (fs : List Field) (at : r.stage ≡ in_block caller) (some : AreCallers r.callers) (k : InBlock caller r) where
  -- a line more
  line_goes : (names : List BoundName) (l : BlockLine) (q : Reading) → with_line l (record r { names = names }) ≡ q → AreBound (creates_in k.lines) (l ∷ []) → MayStand caller l → length names ≡ length r.names + creates_in (l ∷ []) → Goes (in_block caller) fs r q
  line_goes names l q same bound stands more = subst (Goes (in_block caller) fs r) same (record {
    kept = subst (λ (s : Stage). KeptAt s (with_line l (record r { names = names }))) (sym at) (
      some,
      record {
        front = k.front;
        lines = k.lines ++ l ∷ [];
        blocks = ap (on_last (with_one l)) k.blocks ∙ on_last_snoc (with_one l) k.front (the_block caller k.lines);
        ascend = ascend_again 0 r.callers k.front (the_block caller k.lines) (the_block caller (k.lines ++ l ∷ [])) refl k.ascend;
        each = k.each;
        last = record { bound = bound_snoc 0 (creates_in k.lines) k.lines l (omega arith) k.last.bound bound; frames = all_snoc (MayStand caller) k.lines l k.last.frames stands };
        names = more ∙ (ap (λ (n : ℕ). n + creates_in (l ∷ [])) k.names ∙ sym (creates_snoc k.lines l));
      },
    );
    past = λ h. (ap is_past at, refl);
    says = λ h i. absurd (cc h);
  })

  program_goes : (q : Reading) → program_after r fs ≡ Some q → Goes (in_block caller) fs r q
  unfolding program_after
  program_goes q e =
      let a = some_bind (has_count 3 fs) _ q e in
      let n = some_bind (with_name r.names (field fs 1)) _ q a.2 in
      let w = some_bind (program_word (field fs 2)) _ q n.2 in
      let same : with_line (program_line w.0) (record r { names = n.0 }) ≡ q = cc w.2 in
      line_goes n.0 (program_line w.0) q same tt tt (name_more r.names n.0 (field fs 1) n.1)

  uniform_goes : (q : Reading) → uniform_after r fs ≡ Some q → Goes (in_block caller) fs r q
  unfolding uniform_after
  uniform_goes q e =
      let a = some_bind (has_count 3 fs) _ q e in
      let n = some_bind (with_name r.names (field fs 1)) _ q a.2 in
      let w = some_bind (uniform_word (field fs 2)) _ q n.2 in
      let same : with_line (uniform_line (field fs 1) w.0) (record r { names = n.0 }) ≡ q = cc w.2 in
      line_goes n.0 (uniform_line (field fs 1) w.0) q same tt tt (name_more r.names n.0 (field fs 1) n.1)

  no_more : length r.names ≡ length r.names + 0
  no_more = omega arith

  destroy_goes : (q : Reading) → destroy_after r fs ≡ Some q → Goes (in_block caller) fs r q
  unfolding destroy_after
  destroy_goes q e =
      let a = some_bind (has_count 2 fs) _ q e in
      let n = some_bind (place_of r.names (field fs 1)) _ q a.2 in
      let same : with_line (destroy_line n.0) r ≡ q = cc n.2 in
      line_goes r.names (destroy_line n.0) q same (omega (arith, place_below r.names (field fs 1) n.0 n.1, k.names), tt) tt no_more

  frame_goes : (q : Reading) → frame_after caller r fs ≡ Some q → Goes (in_block caller) fs r q
  unfolding frame_after
  frame_goes q e =
      let a = some_bind (when (caller == 0)) _ q e in
      let b = some_bind (has_count 1 fs) _ q a.2 in
      let same : with_line frame_line r ≡ q = cc b.2 in
      line_goes r.names frame_line q same tt (eqb-true caller 0 (when_some (caller == 0) a.0 a.1)) no_more

  block_goes : (q : Reading) → block_after caller r fs ≡ Some q → Goes (in_block caller) fs r q
  unfolding block_after
  block_goes q e = by (is_word (codes "program") fs) (is_word (codes "uniform") fs) (is_word (codes "destroy") fs) (is_word (codes "frame") fs) e
    where
      behind : between_after (caller + 1) r fs ≡ Some q → Goes (in_block caller) fs r q
      behind e = between_goes (in_block caller) (caller + 1) r fs refl some
          (record {
            some = some.0;
            most = some.1;
            ascend = subst (λ (bs : List Block). AscendFrom 0 r.callers bs) (sym k.blocks) k.ascend;
            each = subst (λ (bs : List Block). AllByRecursion IsBlock bs) (sym k.blocks) (all_snoc IsBlock k.front (the_block caller k.lines) k.each k.last);
          })
          (λ c low lt. subst (λ (bs : List Block). AscendFrom 0 r.callers (bs ++ the_block c [] ∷ [])) (sym k.blocks) (ascend_snoc 0 r.callers k.front (the_block caller k.lines) (the_block c []) k.ascend low lt))
          q e

      by : (p u d f : Bool) → cond p (program_after r fs) (cond u (uniform_after r fs) (cond d (destroy_after r fs) (cond f (frame_after caller r fs) (between_after (caller + 1) r fs)))) ≡ Some q → Goes (in_block caller) fs r q
      by true u d f e = program_goes q e
      by false true d f e = uniform_goes q e
      by false false true f e = destroy_goes q e
      by false false false true e = frame_goes q e
      by false false false false e = behind e

-- ---- whole texts

fields_go : (s : Stage) (r q : Reading) (fs : List Field) → r.stage ≡ s → KeptAt s r → after_fields s r fs ≡ Some q → Goes s fs r q
fields_go at_front r q fs at k e = front_goes r q fs k e
fields_go at_callers r q fs at k e = callers_goes r q fs k e
fields_go at_first_block r q fs at k e = first_goes r q fs k e
fields_go (in_block caller) r q fs at k e = block_goes caller r fs at k.0 k.1 q e
fields_go at_end r q fs at k e = absurd (cc e)

-- the blocks that are read from a stage on
record Told (s : Stage) (r : Reading) (pieces : List (List ℕ)) (blocks : List Block) : Type 0 where
  pub count : ℕ
  pub are : AreBlocks count blocks
  pub known : is_past s ≡ true → count ≡ r.callers
  pub says : is_past s ≡ false → HasCallers count pieces

told_at : (n : ℕ) (s : Stage) (r : Reading) (piece : List ℕ) (blocks : List Block) → KeptAt s r → (is_complete s ≡ true → r.blocks ≡ blocks) → is_complete s ≡ true → Told s r (piece ∷ []) blocks
told_at n at_front r piece blocks k same is = absurd (cc is)
told_at n at_callers r piece blocks k same is = absurd (cc is)
told_at n at_first_block r piece blocks k same is = absurd (cc is)
told_at n (in_block caller) r piece blocks k same is = absurd (cc is)
told_at n at_end r piece blocks k same is = record {
  count = r.callers;
  are = subst (AreBlocks r.callers) (same is) k;
  known = λ h. refl;
  says = λ h. absurd (cc h);
}

-- a line that goes on, in front of what is told behind it
told_more : (s : Stage) (r q : Reading) (piece : List ℕ) (pieces : List (List ℕ)) (blocks : List Block) → Goes s (split_at 32 piece) r q → Told q.stage q pieces blocks → Told s r (piece ∷ pieces) blocks
told_more s r q piece pieces blocks g t = record {
  count = t.count;
  are = t.are;
  known = λ h. t.known (g.past h).0 ∙ (g.past h).1;
  says = λ h. by h (is_past q.stage) refl;
}
  where
    by : is_past s ≡ false → (b : Bool) → is_past q.stage ≡ b → HasCallers t.count (piece ∷ pieces)
    by h true p = inl (subst (λ (n : ℕ). SayCallers n (split_at 32 piece)) (sym (t.known p)) (g.says h p))
    by h false p = inr (t.says p)

-- a line that is passed over
told_skip : (s : Stage) (r : Reading) (piece : List ℕ) (pieces : List (List ℕ)) (blocks : List Block) → Told s r pieces blocks → Told s r (piece ∷ pieces) blocks
told_skip s r piece pieces blocks t = record { count = t.count; are = t.are; known = t.known; says = λ h. inr (t.says h) }

told : (n : ℕ) (s : Stage) (r : Reading) (pieces : List (List ℕ)) (blocks : List Block) → r.stage ≡ s → KeptAt s r → read_pieces n (Some r) pieces ≡ Ok blocks → Told s r pieces blocks
told n s r [] blocks at k e = absurd (cc e)
told n s r ([] ∷ []) blocks at k e = by (is_complete r.stage) refl e
  where
    by : (b : Bool) → is_complete r.stage ≡ b → cond b (Ok r.blocks) (Err n) ≡ Ok blocks → Told s r ([] ∷ []) blocks
    by true h e = let same : r.blocks ≡ blocks = cc e in told_at n s r [] blocks k (λ i. same) (ap is_complete (sym at) ∙ h)
    by false h e = absurd (cc e)
told n s r ((b ∷ bs) ∷ []) blocks at k e = absurd (cc e)
told n s r (p ∷ p2 ∷ rest) blocks at k e = by (is_skipped p) (told (n + 1) s r (p2 ∷ rest) blocks at k) (λ q kept is. told (n + 1) q.stage q (p2 ∷ rest) blocks refl kept is) e
  where
    goes_on : (o : Option Reading) → after_fields s r (split_at 32 p) ≡ o → ((q : Reading) → KeptAt q.stage q → read_pieces (n + 1) (Some q) (p2 ∷ rest) ≡ Ok blocks → Told q.stage q (p2 ∷ rest) blocks) → read_pieces (n + 1) o (p2 ∷ rest) ≡ Ok blocks → Told s r (p ∷ p2 ∷ rest) blocks
    goes_on None h later e = absurd (cc e)
    goes_on (Some q) h later e =
        let g = fields_go s r q (split_at 32 p) at k h in
        told_more s r q p (p2 ∷ rest) blocks g (later q g.kept e)

    by : (b : Bool) → (read_pieces (n + 1) (Some r) (p2 ∷ rest) ≡ Ok blocks → Told s r (p2 ∷ rest) blocks) → ((q : Reading) → KeptAt q.stage q → read_pieces (n + 1) (Some q) (p2 ∷ rest) ≡ Ok blocks → Told q.stage q (p2 ∷ rest) blocks) → read_pieces (n + 1) (cond b (Some r) (after_fields r.stage r (split_at 32 p))) (p2 ∷ rest) ≡ Ok blocks → Told s r (p ∷ p2 ∷ rest) blocks
    by true same later e = told_skip s r p (p2 ∷ rest) blocks (same e)
    by false same later e = goes_on (after_fields s r (split_at 32 p)) refl later (ap (λ (t : Stage). read_pieces (n + 1) (after_fields t r (split_at 32 p)) (p2 ∷ rest)) (sym at) ∙ e)

pub load_law : LoadLaw
load_law bytes blocks e =
    let t = told 1 at_front nothing_read (split_at 10 bytes) blocks refl refl e in
    (t.count, t.says refl, t.are)
