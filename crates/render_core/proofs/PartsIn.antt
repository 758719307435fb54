-- The parts of a frame's views, and the stores after some of them.
use Rattle.std.proofs.Common.{◌≡◌, ℕ, zero, suc, ◌≤◌, ◌<◌, ◌+◌, ◌-◌, Bool, true, cond, List, [], ◌∷◌, ◌++◌, map, filter, take, drop, length, refl, sym, ap, subst, ◌∙◌, arith}
use Rattle.std.specs.Prelude.{filter_map, fold}
use Rattle.std.specs.List.{list_any, AllByRecursion}
use Rattle.std.proofs.Math.Seq.{take-add}
use Rattle.std.proofs.lemmas.List.{take-append-drop, take_rest, take-map, drop-map, length-drop, length-map}
use Rattle.std.proofs.lemmas.List.Elements.{filter-append}
use Rattle.std.proofs.lemmas.List.Sums.{fold-append}
use Rattle.gfx_model.specs.Views.{View, view_at}
use Rattle.gfx_model.specs.World.{Blit, Item, blit_item, is_blit, is_of_view, clear_surface}
use Rattle.store_laws.specs.ByIndex.{Stores, FrameData, all_commanded, on_target, do_by_index, enter_by_index, entered_by_index, drawn_by_index}
use Rattle.frame_record.specs.declared.frame.Frame.{Frame}
use Rattle.frame_record.specs.declared.ordering.OrderedItem.{OrderedItem}
use Rattle.frame_record.specs.declared.placing.PlacedBlit.{PlacedBlit}
use Rattle.view_drawing.specs.Entries.{blit_of, items_of, blits_of}
use Rattle.view_drawing.specs.Passes.{Part, after_part, part_seen, IsPlain}
use Rattle.view_drawing.specs.declared.view_parts.ViewPart.{ViewPart}
use Rattle.view_drawing.proofs.PassLaws.{all_dropped, all_taken}
use Rattle.render_core.specs.Lists.{IsPart}
use Rattle.render_core.specs.Seen.{frame_seen}
use Rattle.render_core.specs.ViewParts.{part_of, parts_in, stores_within}
use Rattle.render_core.proofs.Parts.{blits_shown, blits_again}
use Rattle.render_core.proofs.Wants.{none_entered}

-- ---- a part

-- blits are those among themselves as items
blits_back : (bs : List Blit) → bs ≡ filter_map blit_of (map blit_item bs)
blits_back [] = refl
blits_back (b ∷ bs) = ap (λ xs. b ∷ xs) (blits_back bs)

-- a view with these blits and these draws and touches
abbrev listed : View → List Blit → List Item → Part
listed view blits items = record { view = view; blits = blits; items = items }

-- what is listed of a view is its part
part_listed : (f : Frame) (v : ℕ) (is_entered : Bool) (blits : List PlacedBlit) (items : List OrderedItem) (view : View) → IsPart f v is_entered blits items → view ≡ view_at f.views v
    → listed view (blits_of f blits) (items_of f items) ≡ part_of (frame_seen f) v
part_listed f v is_entered blits items view is same =
    let copied : blits_of f blits ≡ filter_map blit_of (filter (is_of_view v) (filter is_blit (frame_seen f).items)) = blits_back (blits_of f blits) ∙ ap (filter_map blit_of) is.copied in
    λ j. record { view = same j; blits = copied j; items = is.drawn j }

-- the parts of views that have an item, of which this is one
abbrev parts_at : FrameData → ℕ → List Part
parts_at f v = map (part_of f) (filter (λ n. list_any (is_of_view n) f.items) (v ∷ []))

by_item : (f : FrameData) (v : ℕ) (b c : Bool) → b ≡ list_any (is_of_view v) f.items → b ≡ c → map (part_of f) (cond c (v ∷ []) []) ≡ parts_at f v
by_item f v b c told is = ap (λ d. map (part_of f) (cond d (v ∷ []) [])) (sym is ∙ told)

-- a view that has an item is put behind the others
pub part_put : (f : Frame) (v : ℕ) (b : Bool) (blits : List PlacedBlit) (items : List OrderedItem) (view : View) (before : List Part) → IsPart f v b blits items → view ≡ view_at f.views v → b ≡ true
    → before ++ listed view (blits_of f blits) (items_of f items) ∷ [] ≡ before ++ parts_at (frame_seen f) v
part_put f v b blits items view before is same some =
    ap (λ p. before ++ p ∷ []) (part_listed f v b blits items view is same) ∙ ap (λ ps. before ++ ps) (by_item (frame_seen f) v b true is.entered some)

-- a part is entered as its view is
part_entered : (f : FrameData) (h : Stores) (v : ℕ) → after_part h (part_of f v) ≡ enter_by_index f.views f.items f.ordered h v
part_entered f h v =
    let view : View = view_at f.views v in
    let mine : List Item = filter (is_of_view v) (filter is_blit f.items) in
    ap (λ is. fold (do_by_index view) (on_target h view.target (clear_surface view)) (is ++ filter (is_of_view v) f.ordered)) (blits_shown mine ∙ blits_again (is_of_view v) f.items)
    ∙ ap (fold (do_by_index view) (on_target h view.target (clear_surface view))) (sym (filter-append (is_of_view v) (filter is_blit f.items) f.ordered))

parts_entered : (f : FrameData) (h : Stores) (vs : List ℕ) → fold after_part h (map (part_of f) vs) ≡ fold (enter_by_index f.views f.items f.ordered) h vs
parts_entered f h [] = refl
parts_entered f h (v ∷ vs) = parts_entered f (after_part h (part_of f v)) vs ∙ ap (λ g. fold (enter_by_index f.views f.items f.ordered) g vs) (part_entered f h v)

-- ---- some of them

-- the views before a later number are entered
pub within_more : (h : Stores) (f : FrameData) (e n : ℕ) (mid last : Stores) → e < n → mid ≡ stores_within h f e → last ≡ fold after_part mid (take (n - e) (drop e (parts_in f))) → last ≡ stores_within h f n
within_more h f e n mid last later before more =
    let first : Stores = all_commanded f.payloads h f.pre in
    let to : e + (n - e) ≡ n = omega (arith, later) in
    more ∙ ap (λ g. fold after_part g (take (n - e) (drop e (parts_in f)))) before
    ∙ sym (fold-append after_part first (take e (parts_in f)) (take (n - e) (drop e (parts_in f))))
    ∙ ap (fold after_part first) (sym (take-add e (n - e) (parts_in f)) ∙ ap (λ k. take k (parts_in f)) to)

-- all are
pub within_all : (h : Stores) (f : FrameData) (n : ℕ) (mid last : Stores) → mid ≡ stores_within h f n → last ≡ fold after_part mid (drop n (parts_in f)) → last ≡ drawn_by_index h f
within_all h f n mid last before rest =
    let first : Stores = all_commanded f.payloads h f.pre in
    rest ∙ ap (λ g. fold after_part g (drop n (parts_in f))) before
    ∙ sym (fold-append after_part first (take n (parts_in f)) (drop n (parts_in f)))
    ∙ ap (fold after_part first) (take-append-drop n (parts_in f))
    ∙ parts_entered f first (entered_by_index f)

-- ---- those that are left

abbrev no_part : List Part
no_part = []

drop_none : (n : ℕ) → drop n no_part ≡ no_part
drop_none zero = refl
drop_none (suc n) = refl

-- a frame without items has no part
pub no_parts : (f : FrameData) → f.items ≡ [] → parts_in f ≡ []
no_parts f none = ap (λ (items : List Item). map (part_of f) (filter (λ v. list_any (is_of_view v) items) f.sequence)) none ∙ ap (map (part_of f)) (none_entered f.sequence)

-- none is left where there is no item
pub nothing_left : (h : Stores) (f : FrameData) (n : ℕ) → f.items ≡ [] → h ≡ fold after_part h (drop n (parts_in f))
nothing_left h f n none = sym (ap (λ ps. fold after_part h (drop n ps)) (no_parts f none) ∙ ap (fold after_part h) (drop_none n))

pub all_entered : (f : FrameData) (n : ℕ) → n ≤ length (parts_in f) → f.items ≡ [] → n ≡ length (parts_in f)
all_entered f n many none =
    let zero_long : length (parts_in f) ≡ 0 = ap length (no_parts f none) in omega (arith, many, zero_long)

-- those behind so many have no blit among their draws and touches
pub rest_plain : (e : ℕ) (now parts : List ViewPart) → now ≡ parts → AllByRecursion IsPlain (map part_seen parts) → AllByRecursion IsPlain (map part_seen (take (length now - e) (drop e now)))
rest_plain e now parts same plain =
    let mine : AllByRecursion IsPlain (map part_seen now) = subst (λ (xs : List ViewPart). AllByRecursion IsPlain (map part_seen xs)) (sym same) plain in
    all_taken IsPlain part_seen (length now - e) (drop e now) (all_dropped IsPlain part_seen e now mine)

-- no more views are entered than there are
pub some_within : {X : Type 0} (part : X → Part) (xs : List X) (ps : List Part) (e k : ℕ) → map part xs ≡ ps → e ≤ length ps → k ≤ length (take (length xs - e) (drop e xs)) → e + k ≤ length ps
some_within part xs ps e k same within few =
    let left : length (take (length xs - e) (drop e xs)) ≡ length xs - e = ap length (take_rest xs e) ∙ length-drop e xs in
    let many : length xs ≡ length ps = sym (length-map xs part) ∙ ap length same in
    omega (arith, within, few, left, many)

-- those behind so many are entered
pub rest_entered : {X : Type 0} (part : X → Part) (xs : List X) (ps : List Part) (n : ℕ) (h last : Stores) → map part xs ≡ ps → last ≡ fold after_part h (map part (take (length xs - n) (drop n xs)))
    → last ≡ fold after_part h (drop n ps)
rest_entered part xs ps n h last same more =
    more ∙ ap (λ ys. fold after_part h (map part ys)) (take_rest xs n) ∙ ap (fold after_part h) (sym (drop-map part n xs) ∙ ap (drop n) same)

-- some of those behind so many
pub some_entered : {X : Type 0} (part : X → Part) (xs : List X) (ps : List Part) (e k : ℕ) (h last : Stores) → map part xs ≡ ps → last ≡ fold after_part h (map part (take k (take (length xs - e) (drop e xs))))
    → last ≡ fold after_part h (take ((e + k) - e) (drop e ps))
some_entered part xs ps e k h last same more =
    let so_many : k ≡ (e + k) - e = omega arith in
    more ∙ ap (λ ys. fold after_part h (map part (take k ys))) (take_rest xs e)
    ∙ ap (fold after_part h) (sym (take-map part k (drop e xs)) ∙ ap (take k) (sym (drop-map part e xs) ∙ ap (drop e) same) ∙ ap (λ j. take j (drop e ps)) so_many)
