-- Lists of the frames of a scene, and their lines.
use Rattle.std.proofs.Common.{◌≡◌, ℕ, ◌+◌, ◌<◌, ◌≤◌, Bool, true, false, not, List, [], ◌∷◌, ◌++◌, map, length, take, drop, Some, refl, sym, ap, ◌∙◌, arith, slice_get, get_or}
use Rattle.std.proofs.lemmas.List.{length-map, map-append, take_all, append_assoc, append-nil, drop_more, drop_all, get_or-map}
use Rattle.std.specs.declared.vec.Vec.{Vec}
use Rattle.scene_model.specs.Scene.{Scene}
use Rattle.scene_model.specs.Fold.{FramePlan, plans}
use Rattle.scene_model.specs.Journal.{Entry, Journal}
use Rattle.shared_keys.specs.Lines.{shared_views, frame_lines, lines_from}
use Rattle.scene_progress.specs.Laws.{PlanCountLaw}
use Rattle.shared_keys.specs.declared.marks.SharedView.{SharedView}
use Rattle.shared_keys.specs.Marks.{shared_seen}
use Rattle.frame_record.specs.declared.frame.Frame.{Frame}
use Rattle.scene_playing.specs.Frames.{AreEnded}
use Rattle.scene_playing.specs.Given.{HasPlan, HavePlans}
use Rattle.shared_items.specs.declared.pairs.ItemPair.{ItemPair}
use Rattle.shared_items.specs.Items.{frame_pairs}
use Rattle.shared_items.specs.Lines.{paired_lines}
use Rattle.shared_items.specs.Seen.{pair_seen}
use Rattle.item_lines.specs.Items.{item_lines}
use Rattle.shares_running.specs.Lines.{pairs_from}
use Rattle.shares_running.specs.Listed.{lists_seen, pairs_seen, AreListedBy, lines_of}

-- ---- one frame more

-- the last of some frames has the plan of its place
record HasLast (ps : List FramePlan) (journal : Journal) (frames : List Frame) (f : Frame) : Type 0 where
  front : HavePlans ps journal frames
  plan : FramePlan
  entries : List Entry
  at : slice_get ps (length frames) ≡ Some plan
  has : HasPlan plan entries f
  firsts : take (length (frames ++ f ∷ [])) ps ≡ take (length frames) ps ++ plan ∷ []

last_of : (ps : List FramePlan) (journal : Journal) (frames : List Frame) (f : Frame) → HavePlans ps journal (frames ++ f ∷ []) → HasLast ps journal frames f
last_of [] journal [] f h = absurd h
last_of (p ∷ ps) [] [] f h = absurd h
last_of (p ∷ ps) (e ∷ journal) [] f h = record { front = tt; plan = p; entries = e; at = refl; has = h.0; firsts = refl }
last_of [] journal (g ∷ frames) f h = absurd h
last_of (p ∷ ps) [] (g ∷ frames) f h = absurd h
last_of (p ∷ ps) (e ∷ journal) (g ∷ frames) f h =
    let l = last_of ps journal frames f h.1 in
    record { front = (h.0, l.front); plan = l.plan; entries = l.entries; at = l.at; has = l.has; firsts = ap (λ xs. p ∷ xs) l.firsts }

-- a frame of which that is listed that is told of its plan is listed behind others
pub list_more : {A : Type 0} (tell : FramePlan → A) (lists more : List A) (found : A) (frames : List Frame) (f : Frame)
    → ((s : Scene) (k : ℕ) (p : FramePlan) (entries : List Entry) → slice_get (plans s) k ≡ Some p → HasPlan p entries f → found ≡ tell p)
    → more ≡ lists ++ found ∷ [] → AreListedBy tell lists frames → AreListedBy tell more (frames ++ f ∷ [])
list_more {A} tell lists more found frames f is one listed s journal h =
    let l = last_of (plans s) journal frames f h in
    one
    ∙ ap (λ (ls : List A). ls ++ found ∷ []) (listed s journal l.front)
    ∙ ap (λ (x : A). map tell (take (length frames) (plans s)) ++ x ∷ []) (is s (length frames) l.plan l.entries l.at l.has)
    ∙ sym (map-append tell (take (length frames) (plans s)) (l.plan ∷ []))
    ∙ ap (map tell) (sym l.firsts)

-- all frames are listed
pub list_all : {A : Type 0} (tell : FramePlan → A) (s : Scene) (lists : List A) (frames : List Frame) (journal : Journal) → AreListedBy tell lists frames → HavePlans (plans s) journal frames → length frames ≡ length (plans s) → lists ≡ map tell (plans s)
list_all tell s lists frames journal listed h all = listed s journal h ∙ ap (map tell) (take_all (length frames) (plans s) (omega (arith, all)))

-- ---- lines

pub lines_from_lists : (k : ℕ) (ps : List FramePlan) → lines_of k (map shared_views ps) ≡ lines_from k ps
lines_from_lists k [] = refl
lines_from_lists k (p ∷ ps) = ap (λ ls. frame_lines k (shared_views p) ++ ls) (lines_from_lists (k + 1) ps)

-- one frame more
pub lines_more : (lists : List (List (ℕ × (ℕ × ℕ)))) (n : ℕ) (views : List (ℕ × (ℕ × ℕ))) (old new all : List ℕ) → n < length lists → views ≡ get_or lists n views → new ≡ old ++ frame_lines n views
    → old ++ lines_of n (drop n lists) ≡ all → new ++ lines_of (n + 1) (drop (n + 1) lists) ≡ all
lines_more lists n views old new all lt is more so_far =
    ap (λ x. x ++ lines_of (n + 1) (drop (n + 1) lists)) more
    ∙ append_assoc old (frame_lines n views) (lines_of (n + 1) (drop (n + 1) lists))
    ∙ ap (λ x. old ++ x) (ap (λ v. lines_of n (v ∷ drop (n + 1) lists)) is ∙ sym (ap (lines_of n) (drop_more lists n views lt)))
    ∙ so_far

-- the lines of all frames
pub lines_all : (lists : List (List (ℕ × (ℕ × ℕ)))) (n : ℕ) (lines all : List ℕ) → length lists ≤ n → lines ++ lines_of n (drop n lists) ≡ all → lines ≡ all
lines_all lists n lines all le e = sym (append-nil lines) ∙ ap (λ x. lines ++ lines_of n x) (sym (drop_all n lists le)) ∙ e

-- the list at a place
pub seen_at : {A : Type 0} (lists : List (Vec SharedView A)) (n : ℕ) (x : Vec SharedView A) → n < length lists → x ≡ get_or lists n x → map shared_seen x.items ≡ get_or (lists_seen lists) n (map shared_seen x.items)
seen_at {A} lists n x lt is = ap (λ (v : Vec SharedView A). map shared_seen v.items) is ∙ sym (get_or-map (λ (v : Vec SharedView A). map shared_seen v.items) lists n x (map shared_seen x.items) lt)

is_true : (b : Bool) → not b ≡ false → b ≡ true
is_true true e = refl
is_true false e = absurd cc

-- all frames were given, so all are listed
pub list_given : {A : Type 0} (tell : FramePlan → A) (s : Scene) (lists : List A) (given : List Frame) (journal : Journal) (notes : List (ℕ × ℕ)) (is_whole : Bool)
    → AreListedBy tell lists given → AreEnded s given journal notes is_whole → not is_whole ≡ false → PlanCountLaw → lists ≡ map tell (plans s)
list_given tell s lists given journal notes is_whole listed ended whole law = list_all tell s lists given journal listed ended.gathered (ended.whole (is_true is_whole whole) ∙ sym (law s))

-- ---- lines of pairs

-- one frame more
pub pairs_more : (bytes : List ℕ) (s : Scene) (lists : List (List (ℕ × (Entry × Entry)))) (n : ℕ) (pairs : List (ℕ × (Entry × Entry))) (old new all : List ℕ) → n < length lists → pairs ≡ get_or lists n pairs → new ≡ old ++ paired_lines n (item_lines bytes s n) pairs
    → old ++ pairs_from bytes s n (drop n lists) ≡ all → new ++ pairs_from bytes s (n + 1) (drop (n + 1) lists) ≡ all
pairs_more bytes s lists n pairs old new all lt is more so_far =
    ap (λ x. x ++ pairs_from bytes s (n + 1) (drop (n + 1) lists)) more
    ∙ append_assoc old (paired_lines n (item_lines bytes s n) pairs) (pairs_from bytes s (n + 1) (drop (n + 1) lists))
    ∙ ap (λ x. old ++ x) (ap (λ v. pairs_from bytes s n (v ∷ drop (n + 1) lists)) is ∙ sym (ap (pairs_from bytes s n) (drop_more lists n pairs lt)))
    ∙ so_far

-- the lines of all frames
pub pairs_all : (bytes : List ℕ) (s : Scene) (lists : List (List (ℕ × (Entry × Entry)))) (n : ℕ) (lines all : List ℕ) → length lists ≤ n → lines ++ pairs_from bytes s n (drop n lists) ≡ all → lines ≡ all
pairs_all bytes s lists n lines all le e = sym (append-nil lines) ∙ ap (λ x. lines ++ pairs_from bytes s n x) (sym (drop_all n lists le)) ∙ e

-- the list at a place
pub pairs_at : {A : Type 0} (lists : List (Vec ItemPair A)) (n : ℕ) (x : Vec ItemPair A) → n < length lists → x ≡ get_or lists n x → map pair_seen x.items ≡ get_or (pairs_seen lists) n (map pair_seen x.items)
pairs_at {A} lists n x lt is = ap (λ (v : Vec ItemPair A). map pair_seen v.items) is ∙ sym (get_or-map (λ (v : Vec ItemPair A). map pair_seen v.items) lists n x (map pair_seen x.items) lt)

-- there are as many lists as frames of the scene
pub few_lists : {A : Type 0} (s : Scene) (lists : List (Vec ItemPair A)) → pairs_seen lists ≡ map frame_pairs (plans s) → PlanCountLaw → length s.frames ≤ 1024 → length lists ≤ 1024
few_lists {A} s lists is law few =
    let a = length-map lists (λ v. map pair_seen v.items) in
    let b = ap length is in
    let c = length-map (plans s) frame_pairs in
    let d = law s in
    omega (arith, a, b, c, d, few)
