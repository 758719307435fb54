-- Two neighbours of a frame's journal that may pass each other, and frames by two lawful journals.
use Rattle.std.proofs.Common.{◌≡◌, ℕ, Bool, true, false, not, ◌||◌, ◌&&◌, cond, ◌==◌, List, [], ◌∷◌, ◌++◌, filter, fold, length, Option, Some, None, refl, ap, sym, ◌∙◌, subst, arith, ◌*◌}
use Rattle.std.specs.List.{AllByRecursion, cons_option, list_any}
use Rattle.std.proofs.lemmas.List.{length-replicate}
use Rattle.gfx_model.specs.Raster.{no_color}
use Rattle.gfx_model.specs.Views.{View, Views, view_at, view_order}
use Rattle.gfx_model.specs.World.{World, Item, draw_item, touch_item, blit_item, UniformSet, set_uniform, is_blit, view_of_item, is_of_view, key_of_item, do_item, ordered, FrameContent, enter_view, entered_views, frame_step, first_world, begin_frame, on_surface, clear_surface}
use Rattle.scene_model.specs.Fold.{FramePlan, plans}
use Rattle.scene_model.specs.Journal.{Entry, Journal, IsLawfulFrame, AreLawful, item_of, frame_content, pictures_from, clashes, is_marked, is_nonempty, is_sequential}
use Rattle.scene_model.proofs.OneSource.{items_by}
use Rattle.scene_model.proofs.ViewOrder.{Fits}
use Rattle.scene_model.proofs.OrderLaws.{FitsPlan}
use Rattle.cover_laws.specs.Covered.{MayPass, IsHarmlessFrame}
use Rattle.cover_laws.specs.Laws.{AreHarmless, CoverLaw}
use Rattle.cover_laws.proofs.Swaps.{Blind, by_swaps, lawful_same}
use Rattle.cover_laws.proofs.Arranged.{Beside, same, swapped, filter_beside}
use Rattle.cover_laws.proofs.Drawing.{Meet, ordered_beside}
use Rattle.cover_laws.proofs.Worlds.{IsSized, IsWithin, within_self, within_sized, clear_within, items_within}
use Rattle.cover_laws.proofs.Passing.{items_pass}
use Rattle.scene_model.proofs.PlansFit.{all-plans-fit}

parts : (a b : Bool) → (a && b) ≡ true → (a ≡ true) × (b ≡ true)
parts true b e = (refl, e)
parts false b e = cc e

both : (a b : Bool) → a ≡ true → b ≡ true → (a && b) ≡ true
both true b e f = f
both false b e f = cc e

either : (a b : Bool) → b ≡ true → (a || b) ≡ true
either true b e = refl
either false b e = e

first-of : (a b : Bool) → a ≡ true → (a || b) ≡ true
first-of true b e = refl
first-of false b e = cc e

untrue : (b : Bool) → not b ≡ true → b ≡ false
untrue true e = cc e
untrue false e = refl

same_from_test : (m n : ℕ) → (m == n) ≡ true → m ≡ n
same_from_test m n e = grind (arith, e)

-- ---- two items of a view

-- where the two clash, they may pass each other
abbrev PassWhereClash : World → Views → Item → Item → Type 0
PassWhereClash w vs i j = view_of_item i ≡ view_of_item j → clashes vs i j ≡ true → MayPass w (view_at vs (view_of_item i)) i j

abbrev Passes : World → View → Item → Item → Type 0
Passes w view i j = (u : World) → IsWithin w u → do_item view (do_item view u i) j ≡ do_item view (do_item view u j) i

-- a touch without values does nothing
unmarked_idle : (view : View) (u : World) (i : Item) → is_blit i ≡ false → is_marked i ≡ false → do_item view u i ≡ u
unmarked_idle view u (draw_item d) b m = cc m
unmarked_idle view u (blit_item x) b m = cc b
unmarked_idle view u (touch_item t) b m = by t.values m
  where
    by : (values : List UniformSet) → is_nonempty values ≡ false → fold set_uniform u values ≡ u
    by [] e = refl
    by (x ∷ xs) e = cc e

clash_passes : (w : World) (vs : Views) (v : ℕ) (i j : Item) → PassWhereClash w vs i j → view_of_item i ≡ v → view_of_item j ≡ v → clashes vs i j ≡ true → Passes w (view_at vs v) i j
clash_passes w vs v i j pass ei ej clash u h = items_pass w u (view_at vs v) i j h (subst (λ (k : ℕ). MayPass w (view_at vs k) i j) ei (pass (ei ∙ sym ej) clash))

meet_passes : (w : World) (vs : Views) (v : ℕ) (i j : Item) → PassWhereClash w vs i j → Meet vs (is_of_view v) v i j → Passes w (view_at vs v) i j
meet_passes w vs v i j pass meet = by (is_marked i) (is_marked j) refl refl
  where
    bi : is_blit i ≡ false
    bi = untrue (is_blit i) (parts (not (is_blit i)) (is_of_view v i) meet.first).0

    bj : is_blit j ≡ false
    bj = untrue (is_blit j) (parts (not (is_blit j)) (is_of_view v j) meet.second).0

    ei : view_of_item i ≡ v
    ei = same_from_test (view_of_item i) v (parts (not (is_blit i)) (is_of_view v i) meet.first).1

    ej : view_of_item j ≡ v
    ej = same_from_test (view_of_item j) v (parts (not (is_blit j)) (is_of_view v j) meet.second).1

    by : (a b : Bool) → is_marked i ≡ a → is_marked j ≡ b → Passes w (view_at vs v) i j
    by false b e f u h = ap (λ z. do_item (view_at vs v) z j) (unmarked_idle (view_at vs v) u i bi e) ∙ sym (unmarked_idle (view_at vs v) (do_item (view_at vs v) u j) i bi e)
    by true false e f u h = unmarked_idle (view_at vs v) (do_item (view_at vs v) u i) j bj f ∙ ap (λ z. do_item (view_at vs v) z i) (sym (unmarked_idle (view_at vs v) u j bj f))
    by true true e f u h = clash_passes w vs v i j pass ei ej
        (either (is_blit i && is_blit j) _ (both (is_marked i && is_marked j) (is_sequential (view_at vs (view_of_item i)).mode || (key_of_item vs 0 i == key_of_item vs 0 j)) (both (is_marked i) (is_marked j) e f)
        (ap (λ k. is_sequential (view_at vs k).mode || (key_of_item vs 0 i == key_of_item vs 0 j)) ei ∙ meet.clash))) u h

-- ---- lists of items

fold-append : (view : View) (u : World) (xs ys : List Item) → fold (do_item view) u (xs ++ ys) ≡ fold (do_item view) (fold (do_item view) u xs) ys
fold-append view u [] ys = refl
fold-append view u (x ∷ xs) ys = fold-append view (do_item view u x) xs ys

fold_beside : {Q : Type 0} (w u : World) (view : View) (i j : Item) (xs ys : List Item) → IsWithin w u → (Q → Passes w view i j) → Beside Q i j xs ys → fold (do_item view) u xs ≡ fold (do_item view) u ys
fold_beside w u view i j xs ys h pass (same e) = ap (fold (do_item view) u) e
fold_beside w u view i j xs ys h pass (swapped before after e f q) =
    ap (fold (do_item view) u) e ∙ fold-append view u before (i ∷ j ∷ after)
    ∙ ap (λ z. fold (do_item view) z after) (pass q (fold (do_item view) u before) (items_within w u view before h))
    ∙ sym (ap (fold (do_item view) u) f ∙ fold-append view u before (j ∷ i ∷ after))

filter-filter : (p q : Item → Bool) (items : List Item) → filter p (filter q items) ≡ filter (λ i. q i && p i) items
filter-filter p q [] = refl
filter-filter p q (i ∷ items) = go (filter-filter p q items) (q i)
  where
    go : filter p (filter q items) ≡ filter (λ i. q i && p i) items → (b : Bool) → filter p (cond b (i ∷ filter q items) (filter q items)) ≡ cond (b && p i) (i ∷ filter (λ i. q i && p i) items) (filter (λ i. q i && p i) items)
    go rest true = ap (λ zs. cond (p i) (i ∷ zs) zs) rest
    go rest false = rest

filter-append : (p : Item → Bool) (xs ys : List Item) → filter p (xs ++ ys) ≡ filter p xs ++ filter p ys
filter-append p [] ys = refl
filter-append p (x ∷ xs) ys = go (filter-append p xs ys) (p x)
  where
    go : filter p (xs ++ ys) ≡ filter p xs ++ filter p ys → (b : Bool) → cond b (x ∷ filter p (xs ++ ys)) (filter p (xs ++ ys)) ≡ cond b (x ∷ filter p xs) (filter p xs) ++ filter p ys
    go rest true = ap (λ zs. x ∷ zs) rest
    go rest false = rest

-- ---- one view

view_swap : (w u : World) (vs : Views) (v : ℕ) (i j : Item) (xs ys : List Item) → IsWithin w u → PassWhereClash w vs i j → AllByRecursion Fits (xs ++ i ∷ j ∷ ys) → AllByRecursion Fits (xs ++ j ∷ i ∷ ys)
    → fold (do_item (view_at vs v)) u (filter (is_of_view v) (filter is_blit (xs ++ i ∷ j ∷ ys) ++ ordered vs (xs ++ i ∷ j ∷ ys)))
    ≡ fold (do_item (view_at vs v)) u (filter (is_of_view v) (filter is_blit (xs ++ j ∷ i ∷ ys) ++ ordered vs (xs ++ j ∷ i ∷ ys)))
view_swap w u vs v i j xs ys h pass fit other =
    steps (xs ++ i ∷ j ∷ ys)
    ∙ ap (λ z. fold (do_item view) z (filter (is_of_view v) (ordered vs (xs ++ i ∷ j ∷ ys)))) (fold_beside w u view i j _ _ h blits (filter_beside of_blits i j xs ys))
    ∙ fold_beside w (fold (do_item view) u (filter of_blits (xs ++ j ∷ i ∷ ys))) view i j _ _ (items_within w u view (filter of_blits (xs ++ j ∷ i ∷ ys)) h) (meet_passes w vs v i j pass)
    (ordered_beside vs (is_of_view v) v i j xs ys (λ k e. same_from_test (view_of_item k) v e) fit other)
    ∙ sym (steps (xs ++ j ∷ i ∷ ys))
  where
    view : View
    view = view_at vs v

    of_blits : Item → Bool
    of_blits k = is_blit k && is_of_view v k

    blits : (of_blits i ≡ true) × (of_blits j ≡ true) → Passes w view i j
    blits q =
        let a = parts (is_blit i) (is_of_view v i) q.0 in
        let b = parts (is_blit j) (is_of_view v j) q.1 in
        clash_passes w vs v i j pass (same_from_test (view_of_item i) v a.1) (same_from_test (view_of_item j) v b.1) (first-of (is_blit i && is_blit j) _ (both (is_blit i) (is_blit j) a.0 b.0))

    steps : (items : List Item) → fold (do_item view) u (filter (is_of_view v) (filter is_blit items ++ ordered vs items)) ≡ fold (do_item view) (fold (do_item view) u (filter of_blits items)) (filter (is_of_view v) (ordered vs items))
    steps items =
        ap (fold (do_item view) u) (filter-append (is_of_view v) (filter is_blit items) (ordered vs items) ∙ ap (λ zs. zs ++ filter (is_of_view v) (ordered vs items)) (filter-filter (is_of_view v) is_blit items))
        ∙ fold-append view u (filter of_blits items) (filter (is_of_view v) (ordered vs items))

-- ---- one frame

or_swap : (a b c : Bool) → (a || (b || c)) ≡ (b || (a || c))
or_swap true true c = refl
or_swap true false c = refl
or_swap false b c = refl

any_swap : (q : Item → Bool) (i j : Item) (xs ys : List Item) → list_any q (xs ++ i ∷ j ∷ ys) ≡ list_any q (xs ++ j ∷ i ∷ ys)
any_swap q i j [] ys = or_swap (q i) (q j) (list_any q ys)
any_swap q i j (x ∷ xs) ys = ap (λ b. q x || b) (any_swap q i j xs ys)

filter-same : (p q : ℕ → Bool) (xs : List ℕ) → ((x : ℕ) → p x ≡ q x) → filter p xs ≡ filter q xs
filter-same p q [] h = refl
filter-same p q (x ∷ xs) h = ap (λ b. cond b (x ∷ filter p xs) (filter p xs)) (h x) ∙ ap (λ zs. cond (q x) (x ∷ zs) zs) (filter-same p q xs h)

fold_views : (w u : World) (f g : World → ℕ → World) (vs : List ℕ) → IsWithin w u → ((z : World) (v : ℕ) → IsWithin w z → f z v ≡ g z v) → ((z : World) (v : ℕ) → IsWithin w z → IsWithin w (g z v)) → fold f u vs ≡ fold g u vs
fold_views w u f g [] h e keeps = refl
fold_views w u f g (v ∷ vs) h e keeps = ap (λ z. fold f z vs) (e u v h) ∙ fold_views w (g u v) f g vs (keeps u v h) e keeps

abbrev content : FramePlan → List Item → FrameContent
content p items = record { gone = p.gone; changes = p.changes; views = p.views; items = items }

frame_swap : (w : World) (p : FramePlan) (i j : Item) (xs ys : List Item) → IsSized w → PassWhereClash (begin_frame p.gone p.changes w) p.views i j → AllByRecursion Fits (xs ++ i ∷ j ∷ ys) → AllByRecursion Fits (xs ++ j ∷ i ∷ ys)
    → frame_step w (content p (xs ++ i ∷ j ∷ ys)) ≡ frame_step w (content p (xs ++ j ∷ i ∷ ys))
frame_swap w p i j xs ys sized pass fit other =
    fold_views begun begun (enter_view (content p one) (ordered p.views one)) (enter_view (content p two) (ordered p.views two)) (entered_views (content p one)) (within_self begun sized)
    (λ z v h. view_swap begun (on_surface z (view_at p.views v).target (clear_surface (view_at p.views v))) p.views v i j xs ys (clear_within begun z (view_at p.views v) h) pass fit other)
    (λ z v h. items_within begun (on_surface z (view_at p.views v).target (clear_surface (view_at p.views v))) (view_at p.views v) (filter (is_of_view v) (filter is_blit two ++ ordered p.views two)) (clear_within begun z (view_at p.views v) h))
    ∙ ap (fold (enter_view (content p two) (ordered p.views two)) begun) (filter-same (λ v. list_any (is_of_view v) one) (λ v. list_any (is_of_view v) two) (view_order p.views) (λ v. any_swap (is_of_view v) i j xs ys))
  where
    begun : World
    begun = begin_frame p.gone p.changes w

    one : List Item
    one = xs ++ i ∷ j ∷ ys

    two : List Item
    two = xs ++ j ∷ i ∷ ys

-- ---- the entries of a journal

fit-items : (p : FramePlan) (entries : List Entry) → FitsPlan p → AllByRecursion Fits (items_by p.encoders entries)
fit-items p [] f = tt
fit-items p (n ∷ entries) f = go (fit-items p entries f) (item_of p.encoders n) refl
  where
    go : AllByRecursion Fits (items_by p.encoders entries) → (o : Option Item) → item_of p.encoders n ≡ o → AllByRecursion Fits (cons_option o (items_by p.encoders entries))
    go rest None e = rest
    go rest (Some i) e = (f n i e, rest)

items-append : (p : FramePlan) (xs ys : List Entry) → items_by p.encoders (xs ++ ys) ≡ items_by p.encoders xs ++ items_by p.encoders ys
items-append p [] ys = refl
items-append p (n ∷ xs) ys = go (items-append p xs ys) (item_of p.encoders n)
  where
    go : items_by p.encoders (xs ++ ys) ≡ items_by p.encoders xs ++ items_by p.encoders ys → (o : Option Item) → cons_option o (items_by p.encoders (xs ++ ys)) ≡ cons_option o (items_by p.encoders xs) ++ items_by p.encoders ys
    go rest None = rest
    go rest (Some i) = ap (λ zs. i ∷ zs) rest

-- a frame does not see a swap of neighbours of different encoders
frame_blind : (w : World) (p : FramePlan) → IsSized w → IsHarmlessFrame (begin_frame p.gone p.changes w) p → FitsPlan p → Blind (λ entries. frame_step w (frame_content p entries))
frame_blind w p sized harmless fit before a b after apart = by (item_of p.encoders a) (item_of p.encoders b) refl refl
  where
    xs : List Item
    xs = items_by p.encoders before

    ys : List Item
    ys = items_by p.encoders after

    one : (oa ob : Option Item) → item_of p.encoders a ≡ oa → item_of p.encoders b ≡ ob → items_by p.encoders (before ++ a ∷ b ∷ after) ≡ xs ++ cons_option oa (cons_option ob ys)
    one oa ob ea eb = items-append p before (a ∷ b ∷ after) ∙ (λ k. xs ++ cons_option (ea k) (cons_option (eb k) ys))

    two : (oa ob : Option Item) → item_of p.encoders a ≡ oa → item_of p.encoders b ≡ ob → items_by p.encoders (before ++ b ∷ a ∷ after) ≡ xs ++ cons_option ob (cons_option oa ys)
    two oa ob ea eb = items-append p before (b ∷ a ∷ after) ∙ (λ k. xs ++ cons_option (eb k) (cons_option (ea k) ys))

    shared : (i j : Item) → item_of p.encoders a ≡ Some i → item_of p.encoders b ≡ Some j → PassWhereClash (begin_frame p.gone p.changes w) p.views i j
    shared i j ea eb e clash = harmless a b i j ea eb
        (both (not (a.encoder == b.encoder) && (view_of_item i == view_of_item j)) (clashes p.views i j) (both (not (a.encoder == b.encoder)) (view_of_item i == view_of_item j) (ap not apart) (self_test (view_of_item i) (view_of_item j) e)) clash)
      where
        self_test : (m n : ℕ) → m ≡ n → (m == n) ≡ true
        self_test m n e = grind (arith, e)

    by : (oa ob : Option Item) → item_of p.encoders a ≡ oa → item_of p.encoders b ≡ ob → frame_step w (frame_content p (before ++ a ∷ b ∷ after)) ≡ frame_step w (frame_content p (before ++ b ∷ a ∷ after))
    by None ob ea eb = ap (λ items. frame_step w (content p items)) (one None ob ea eb ∙ sym (two None ob ea eb))
    by (Some i) None ea eb = ap (λ items. frame_step w (content p items)) (one (Some i) None ea eb ∙ sym (two (Some i) None ea eb))
    by (Some i) (Some j) ea eb =
        ap (λ items. frame_step w (content p items)) (one (Some i) (Some j) ea eb)
        ∙ frame_swap w p i j xs ys sized (shared i j ea eb)
        (subst (AllByRecursion Fits) (one (Some i) (Some j) ea eb) (fit-items p (before ++ a ∷ b ∷ after) fit))
        (subst (AllByRecursion Fits) (two (Some i) (Some j) ea eb) (fit-items p (before ++ b ∷ a ∷ after) fit))
        ∙ ap (λ items. frame_step w (content p items)) (sym (two (Some i) (Some j) ea eb))

-- views that are entered keep to the worlds of the frame
pub views_within : (b : World) (f : FrameContent) (vs : List ℕ) (u : World) → IsWithin b u → IsWithin b (fold (enter_view f (ordered f.views f.items)) u vs)
views_within b f [] u h = h
views_within b f (v ∷ vs) u h =
    views_within b f vs (enter_view f (ordered f.views f.items) u v)
    (items_within b (on_surface u (view_at f.views v).target (clear_surface (view_at f.views v))) (view_at f.views v) (filter (is_of_view v) (filter is_blit f.items ++ ordered f.views f.items)) (clear_within b u (view_at f.views v) h))

-- a frame leaves no more colours than pixels
pub frame_sized : (w : World) (f : FrameContent) → IsSized w → IsSized (frame_step w f)
frame_sized w f sized =
    let begun : World = begin_frame f.gone f.changes w in
    within_sized begun (frame_step w f) (views_within begun f (entered_views f) begun (within_self begun sized))

frame_same : (w : World) (p : FramePlan) (xs ys : List Entry) → IsSized w → IsHarmlessFrame (begin_frame p.gone p.changes w) p → FitsPlan p → IsLawfulFrame p xs → IsLawfulFrame p ys → frame_step w (frame_content p xs) ≡ frame_step w (frame_content p ys)
frame_same w p xs ys sized harmless fit hx hy = by_swaps (λ entries. frame_step w (frame_content p entries)) (frame_blind w p sized harmless fit) [] xs ys (lawful_same p xs ys hx hy)

-- ---- all frames

pictures_same : (ps : List FramePlan) (j k : Journal) (w : World) → IsSized w → AreHarmless w ps j → AreLawful ps j → AreLawful ps k → length j ≡ length k → AllByRecursion FitsPlan ps → pictures_from w ps j ≡ pictures_from w ps k
pictures_same [] j k w sized harmless hj hk l fit = refl
pictures_same (p ∷ ps) [] [] w sized harmless hj hk l fit = refl
pictures_same (p ∷ ps) [] (ys ∷ k) w sized harmless hj hk l fit = cc l
pictures_same (p ∷ ps) (xs ∷ j) [] w sized harmless hj hk l fit = cc l
pictures_same (p ∷ ps) (xs ∷ j) (ys ∷ k) w sized harmless hj hk l fit =
    let step : frame_step w (frame_content p xs) ≡ frame_step w (frame_content p ys) = frame_same w p xs ys sized harmless.0 fit.0 hj.0 hk.0 in
    let shorter : length j ≡ length k = cc l in
    ap (λ zs. (frame_step w (frame_content p xs)).back.color ∷ zs) (pictures_same ps j k (frame_step w (frame_content p xs)) (frame_sized w (frame_content p xs) sized) harmless.1 hj.1 hk.1 shorter fit.1)
    ∙ ap (λ u. u.back.color ∷ pictures_from u ps k) step

pub cover-law : CoverLaw
cover-law s j k harmless hj hk = pictures_same (plans s) j k (first_world s.width s.height) (let long = length-replicate (s.width * s.height) no_color in omega (arith, long)) harmless hj.0 hk.0 (hj.1 ∙ sym hk.1) (all-plans-fit s)
