-- The doers' deeds are those of the frame.
use Rattle.std.proofs.Common.{◌≡◌, ◌∙◌, ℕ, zero, suc, ◌+◌, Bool, true, false, cond, List, [], ◌∷◌, ◌++◌, map, filter, Option, Some, None, is_some, refl, sym, ap, subst, arith, eq-eqb, ne_eqb}
use Rattle.std.specs.Prelude.{◌||◌, filter_map, flat_map, option_map, option_and_then, unwrap_or, slice_get}
use Rattle.std.specs.List.{AllByRecursion, cons_option}
use Rattle.std.proofs.lemmas.List.Elements.{filter_map-append}
use Rattle.gfx_model.specs.Number.{map_from}
use Rattle.gfx_model.specs.Views.{View, view_at}
use Rattle.gfx_model.specs.World.{Item, is_blit, is_of_view, Numbered, numbered, ordered, entered_views}
use Rattle.gfx_model.specs.Frames.{Entry, Recorded, items_by, item_of_entry, draw_order, is_ordered}
use Rattle.gfx_model.proofs.FrameLaws.{ordered_items}
use Rattle.scene_model.specs.Fold.{Accepted, FramePlan}
use Rattle.scene_model.specs.Journal.{item_of, frame_content}
use Rattle.trace_laws.specs.Deeds.{Deed, clear_deed, item_deed, deeds_of_view}
use Rattle.trace_laws.specs.Doers.{item_doer, recorded_of, has_such, doers_of_view, deed_of, DoersLaw}

-- ---- the items of entries

numbered-item : (n o : ℕ) (items : List Item) → option_map (λ (i : Numbered). i.item) (slice_get (map_from (λ k i. record { number = k; item = i }) n items) o) ≡ slice_get items o
numbered-item n o [] = refl
numbered-item n zero (i ∷ items) = refl
numbered-item n (suc o) (i ∷ items) = numbered-item (n + 1) o items

abbrev recorded_from : ℕ → List Accepted → List Recorded
recorded_from k encoders = map_from (λ e a. record { encoder = e; items = numbered a.items }) k encoders

item-same : (k e o : ℕ) (encoders : List Accepted) → option_map (λ (i : Numbered). i.item) (slice_get (items_by (recorded_from k encoders) (k + e)) o) ≡ option_and_then (λ a. slice_get a.items o) (slice_get encoders e)
item-same k e o [] = refl
item-same k zero o (a ∷ encoders) =
    ap (λ b. option_map (λ (i : Numbered). i.item) (slice_get (cond b (numbered a.items) (items_by (recorded_from (k + 1) encoders) (k + 0))) o)) (eq-eqb k (k + 0) (omega arith)) ∙ numbered-item 0 o a.items
item-same k (suc e) o (a ∷ encoders) =
    ap (λ b. option_map (λ (i : Numbered). i.item) (slice_get (cond b (numbered a.items) (items_by (recorded_from (k + 1) encoders) (k + suc e))) o)) (ne_eqb k (k + suc e) (λ h. omega (arith, h)))
    ∙ ap (λ j. option_map (λ (i : Numbered). i.item) (slice_get (items_by (recorded_from (k + 1) encoders) j) o)) next
    ∙ item-same (k + 1) e o encoders
  where
    next : k + suc e ≡ k + 1 + e
    next = omega arith

pub entry-same : (encoders : List Accepted) (n : Entry) → item_of_entry (recorded_of encoders) n ≡ item_of encoders n
entry-same encoders n = ap (λ j. option_map (λ (i : Numbered). i.item) (slice_get (items_by (recorded_of encoders) j) n.ordinal)) start ∙ item-same 0 n.encoder n.ordinal encoders
  where
    start : n.encoder ≡ 0 + n.encoder
    start = omega arith

-- ---- those of a sort

such-items : (q : Item → Bool) (encoders : List Accepted) (ns : List Entry) → filter_map (item_of encoders) (filter (has_such q encoders) ns) ≡ filter q (filter_map (item_of encoders) ns)
such-items q encoders [] = refl
such-items q encoders (n ∷ ns) = go (item_of encoders n) refl (such-items q encoders ns)
  where
    more : List Entry
    more = filter (has_such q encoders) ns

    one : (i : Item) (b : Bool) → item_of encoders n ≡ Some i → filter_map (item_of encoders) more ≡ filter q (filter_map (item_of encoders) ns)
        → filter_map (item_of encoders) (cond b (n ∷ more) more) ≡ cond b (i ∷ filter q (filter_map (item_of encoders) ns)) (filter q (filter_map (item_of encoders) ns))
    one i true is h = ap (λ o. cons_option o (filter_map (item_of encoders) more)) is ∙ ap (λ (xs : List Item). i ∷ xs) h
    one i false is h = h

    go : (o : Option Item) → item_of encoders n ≡ o → filter_map (item_of encoders) more ≡ filter q (filter_map (item_of encoders) ns)
        → filter_map (item_of encoders) (cond (unwrap_or (option_map q (item_of encoders n)) false) (n ∷ more) more) ≡ filter q (cons_option (item_of encoders n) (filter_map (item_of encoders) ns))
    go None is h =
        ap (λ o. filter_map (item_of encoders) (cond (unwrap_or (option_map q o) false) (n ∷ more) more)) is ∙ h ∙ sym (ap (λ o. filter q (cons_option o (filter_map (item_of encoders) ns))) is)
    go (Some i) is h =
        ap (λ o. filter_map (item_of encoders) (cond (unwrap_or (option_map q o) false) (n ∷ more) more)) is ∙ one i (q i) is h ∙ sym (ap (λ o. filter q (cons_option o (filter_map (item_of encoders) ns))) is)

abbrev DoneSame : FramePlan → ℕ → List Entry → Type 0
DoneSame p v xs = map (deed_of p) (map (item_doer v) xs) ≡ map Some (map (item_deed (view_at p.views v)) (filter_map (item_of p.encoders) xs))

item-deeds : (p : FramePlan) (v : ℕ) (q : Item → Bool) (ns : List Entry)
    → map (deed_of p) (map (item_doer v) (filter (has_such q p.encoders) ns)) ≡ map Some (map (item_deed (view_at p.views v)) (filter_map (item_of p.encoders) (filter (has_such q p.encoders) ns)))
item-deeds p v q [] = refl
item-deeds p v q (n ∷ ns) = go (item_of p.encoders n) refl (item-deeds p v q ns)
  where
    view : View
    view = view_at p.views v

    more : List Entry
    more = filter (has_such q p.encoders) ns

    one : (i : Item) (b : Bool) → item_of p.encoders n ≡ Some i → DoneSame p v more → DoneSame p v (cond b (n ∷ more) more)
    one i true is h =
        ap (λ o. option_map (item_deed view) o ∷ map (deed_of p) (map (item_doer v) more)) is
        ∙ ap (λ (ds : List (Option Deed)). Some (item_deed view i) ∷ ds) h
        ∙ sym (ap (λ o. map Some (map (item_deed view) (cons_option o (filter_map (item_of p.encoders) more)))) is)
    one i false is h = h

    go : (o : Option Item) → item_of p.encoders n ≡ o → DoneSame p v more → DoneSame p v (cond (unwrap_or (option_map q (item_of p.encoders n)) false) (n ∷ more) more)
    go None is h = subst (λ o. DoneSame p v (cond (unwrap_or (option_map q o) false) (n ∷ more) more)) (sym is) h
    go (Some i) is h = subst (λ o. DoneSame p v (cond (unwrap_or (option_map q o) false) (n ∷ more) more)) (sym is) (one i (q i) is h)

map-more : {A B : Type 0} (f : A → B) (xs ys : List A) → map f (xs ++ ys) ≡ map f xs ++ map f ys
map-more f [] ys = refl
map-more f (x ∷ xs) ys = ap (λ zs. f x ∷ zs) (map-more f xs ys)

-- ---- a frame

view-doers : (p : FramePlan) (entries : List Entry) → filter_map (item_of p.encoders) (draw_order p.views (recorded_of p.encoders) entries) ≡ ordered p.views (filter_map (item_of p.encoders) entries)
    → (v : ℕ) → map (deed_of p) (doers_of_view p entries v) ≡ map Some (deeds_of_view (frame_content p entries) (ordered p.views (filter_map (item_of p.encoders) entries)) v)
view-doers p entries order v =
    let view : View = view_at p.views v in
    let all : List Entry = filter (has_such is_blit p.encoders) entries ++ draw_order p.views (recorded_of p.encoders) entries in
    let items : filter_map (item_of p.encoders) all ≡ filter is_blit (filter_map (item_of p.encoders) entries) ++ ordered p.views (filter_map (item_of p.encoders) entries) =
    filter_map-append (item_of p.encoders) (filter (has_such is_blit p.encoders) entries) (draw_order p.views (recorded_of p.encoders) entries)
    ∙ ap (λ (xs : List Item). xs ++ filter_map (item_of p.encoders) (draw_order p.views (recorded_of p.encoders) entries)) (such-items is_blit p.encoders entries)
    ∙ ap (λ (xs : List Item). filter is_blit (filter_map (item_of p.encoders) entries) ++ xs) order in
    ap (λ (ds : List (Option Deed)). Some (clear_deed view) ∷ ds)
    (item-deeds p v (is_of_view v) all
    ∙ ap (λ (xs : List Item). map Some (map (item_deed view) xs)) (such-items (is_of_view v) p.encoders all ∙ ap (filter (is_of_view v)) items))

views-doers : (p : FramePlan) (entries : List Entry) → filter_map (item_of p.encoders) (draw_order p.views (recorded_of p.encoders) entries) ≡ ordered p.views (filter_map (item_of p.encoders) entries)
    → (vs : List ℕ) → map (deed_of p) (flat_map (doers_of_view p entries) vs) ≡ map Some (flat_map (deeds_of_view (frame_content p entries) (ordered p.views (filter_map (item_of p.encoders) entries))) vs)
views-doers p entries order [] = refl
views-doers p entries order (v ∷ vs) =
    let own : List Deed = deeds_of_view (frame_content p entries) (ordered p.views (filter_map (item_of p.encoders) entries)) v in
    let rest : List Deed = flat_map (deeds_of_view (frame_content p entries) (ordered p.views (filter_map (item_of p.encoders) entries))) vs in
    map-more (deed_of p) (doers_of_view p entries v) (flat_map (doers_of_view p entries) vs)
    ∙ ap (λ (ds : List (Option Deed)). ds ++ map (deed_of p) (flat_map (doers_of_view p entries) vs)) (view-doers p entries order v)
    ∙ ap (λ (ds : List (Option Deed)). map Some own ++ ds) (views-doers p entries order vs)
    ∙ sym (map-more Some own rest)

pub doers-law : DoersLaw
doers-law p entries has fits =
    let rs : List Recorded = recorded_of p.encoders in
    let f : item_of_entry rs ≡ item_of p.encoders = λ i n. entry-same p.encoders n i in
    let order : filter_map (item_of_entry rs) (draw_order p.views rs entries) ≡ ordered p.views (filter_map (item_of_entry rs) entries) =
    ordered_items p.views rs entries (subst (λ (g : Entry → Option Item). AllByRecursion (λ n. is_some (g n) ≡ true) entries) (sym f) has)
    (subst (λ (g : Entry → Option Item). AllByRecursion (λ i. (is_blit i || is_ordered p.views i) ≡ true) (filter_map g entries)) (sym f) fits) in
    views-doers p entries (subst (λ (g : Entry → Option Item). filter_map g (draw_order p.views rs entries) ≡ ordered p.views (filter_map g entries)) f order) (entered_views (frame_content p entries))
