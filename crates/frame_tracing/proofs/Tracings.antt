-- Deeds that are traced one after another.
use Rattle.std.proofs.Common.{◌≡◌, ℕ, zero, suc, ◌+◌, ◌<◌, Bool, true, false, cond, List, [], ◌∷◌, ◌++◌, map, take, length, get_or, Option, Some, None, refl, sym, ap, subst, ◌∙◌, arith}
use Rattle.std.specs.Prelude.{if◌then◌else◌, fold, flat_map, filter_map, option_and_then}
use Rattle.std.specs.List.{AllByRecursion, cons_option}
use Rattle.std.proofs.lemmas.List.{take_more, map-append, append_assoc}
use Rattle.std.proofs.lemmas.List.Elements.{filter_map-append}
use Rattle.gfx_model.specs.Words.{Handle}
use Rattle.gfx_model.specs.Frames as model
use Rattle.gfx_model.specs.Frames.{item_of_entry}
use Rattle.gfx_model.specs.Views.{View}
use Rattle.gfx_model.specs.World.{Item, draw_item, touch_item, blit_item, is_blit, Draw, Paint, Surface}
use Rattle.store_model.specs.Slots.{at}
use Rattle.store_laws.specs.ByIndex.{Stores, with_buffers, with_values, vertices_at, indices_at, paint_at, textures_out, on_target, drawn_with, painted_at, do_by_index}
use Rattle.frame_record.specs.Placed.{items_in}
use Rattle.view_drawing.specs.Passes.{Part}
use Rattle.view_drawing.specs.Entries.{blit_of, blits_in}
use Rattle.trace_laws.proofs.Lists.{append-none, map-more, flat-more}
use Rattle.trace_laws.specs.Deeds.{Deed, clear_deed, item_deed}
use Rattle.trace_laws.specs.History as history
use Rattle.trace_laws.specs.History.{on_back}
use Rattle.trace_laws.specs.ByIndex.{stores_after, drawn_strokes_in, draw_strokes_in, item_strokes_in, clear_strokes_in, strokes_in, history_in}
use Rattle.frame_tracing.specs.Seen.{made_of}
use Rattle.frame_tracing.specs.Given.{given_strokes}
use Rattle.frame_tracing.specs.Tracing.{Follows, items_deeds, deeds_of_part, deeds_of_parts}

length-append : {A : Type 0} (xs ys : List A) → length (xs ++ ys) ≡ length xs + length ys
length-append [] ys = zero-plus (length ys)
  where
    zero-plus : (n : ℕ) → n ≡ 0 + n
    zero-plus n = omega arith
length-append (x ∷ xs) ys = let rest = length-append xs ys in omega (arith, rest)

fold-more : {A B : Type 0} (f : B → A → B) (b : B) (xs ys : List A) → fold f b (xs ++ ys) ≡ fold f (fold f b xs) ys
fold-more f b [] ys = refl
fold-more f b (x ∷ xs) ys = fold-more f (f b x) xs ys

-- ---- deeds in turn

history-append : (x y n : ℕ) (h : Stores) (ds es : List Deed) → history_in x y n h (ds ++ es) ≡ history_in x y n h ds ++ history_in x y (n + length ds) (fold stores_after h ds) es
history-append x y n h [] es = ap (λ k. history_in x y k h es) same
  where
    same : n ≡ n + 0
    same = omega arith
history-append x y n h (d ∷ ds) es =
    ap (λ (ms : List history.Made). map (made_of n) (strokes_in x y h d) ++ ms)
    (history-append x y (n + 1) (stores_after h d) ds es ∙ ap (λ k. history_in x y (n + 1) (stores_after h d) ds ++ history_in x y k (fold stores_after (stores_after h d) ds) es) same)
    ∙ sym (append_assoc (map (made_of n) (strokes_in x y h d)) (history_in x y (n + 1) (stores_after h d) ds) (history_in x y (n + suc (length ds)) (fold stores_after (stores_after h d) ds) es))
  where
    same : n + 1 + length ds ≡ n + suc (length ds)
    same = omega arith

pub follows-none : (x y : ℕ) (made : List history.Made) (n : ℕ) (h : Stores) → Follows x y made n h [] made n h
follows-none x y made n h = record { made_is = sym (append-none made); count_is = omega arith; stores_are = refl }

pub follows-more : (x y : ℕ) (made more most : List history.Made) (n m k : ℕ) (h g e : Stores) (ds es : List Deed) → Follows x y made n h ds more m g → Follows x y more m g es most k e → Follows x y made n h (ds ++ es) most k e
follows-more x y made more most n m k h g e ds es a b =
    let start : history_in x y m g es ≡ history_in x y (n + length ds) (fold stores_after h ds) es = ap (λ j. history_in x y j g es) a.count_is ∙ ap (λ u. history_in x y (n + length ds) u es) a.stores_are in
    let count : length (ds ++ es) ≡ length ds + length es = length-append ds es in
    record {
      made_is = b.made_is ∙ ap (λ (ms : List history.Made). ms ++ history_in x y m g es) a.made_is
          ∙ append_assoc made (history_in x y n h ds) (history_in x y m g es)
          ∙ ap (λ (ms : List history.Made). made ++ (history_in x y n h ds ++ ms)) start
          ∙ ap (λ (ms : List history.Made). made ++ ms) (sym (history-append x y n h ds es));
      count_is = omega (arith, a.count_is, b.count_is, count);
      stores_are = b.stores_are ∙ ap (λ u. fold stores_after u es) a.stores_are ∙ sym (fold-more stores_after h ds es);
    }

-- ---- a clear

pub clear-follows : (x y : ℕ) (made more : List history.Made) (n m : ℕ) (h g : Stores) (view : View)
    → more ≡ made ++ map (made_of n) (on_back view.target (clear_strokes_in h view x y)) → m ≡ n + 1 → g ≡ stores_after h (clear_deed view) → Follows x y made n h (clear_deed view ∷ []) more m g
clear-follows x y made more n m h g view a b c = record {
  made_is = a ∙ ap (λ (ms : List history.Made). made ++ ms) (sym (append-none (map (made_of n) (on_back view.target (clear_strokes_in h view x y)))));
  count_is = b;
  stores_are = c;
}

-- ---- an item

module _ (view : View) (d : Draw) (x y : ℕ) where
  by : Option Handle → Stores → List history.Stroke
  by t g = drawn_strokes_in g view d x y (paint_at g.buffers (textures_out t g.textures) d (at g.programs d.program.index))

  -- a draw on the back buffer leaves what it is drawn with
  drawn-same : (t : Option Handle) (p : Paint) (u : Stores) → on_back t (drawn_strokes_in (on_target u t (drawn_with view d (vertices_at u.buffers d.vertices) (indices_at u.buffers d.indices) p)) view d x y (paint_at (on_target u t (drawn_with view d (vertices_at u.buffers d.vertices) (indices_at u.buffers d.indices) p)).buffers (textures_out t (on_target u t (drawn_with view d (vertices_at u.buffers d.vertices) (indices_at u.buffers d.indices) p)).textures) d (at (on_target u t (drawn_with view d (vertices_at u.buffers d.vertices) (indices_at u.buffers d.indices) p)).programs d.program.index)))
      ≡ on_back t (drawn_strokes_in u view d x y (paint_at u.buffers (textures_out t u.textures) d (at u.programs d.program.index)))
  drawn-same (Some t) p u = refl
  drawn-same None p u = go (paint_at u.buffers u.textures d (at u.programs d.program.index))
    where
      go : (q : Option Paint) → drawn_strokes_in (on_target u None (drawn_with view d (vertices_at u.buffers d.vertices) (indices_at u.buffers d.indices) p)) view d x y q ≡ drawn_strokes_in u view d x y q
      go None = refl
      go (Some q) = refl

  painted-same : (o : Option Paint) (u : Stores) → on_back view.target (draw_strokes_in (painted_at view d o u) view d x y) ≡ on_back view.target (draw_strokes_in u view d x y)
  painted-same None u = refl
  painted-same (Some p) u = drawn-same view.target p u

given-same : (x y : ℕ) (h : Stores) (view : View) (i : Item) → is_blit i ≡ false → on_back view.target (given_strokes (do_by_index view h i) view x y (Some i)) ≡ on_back view.target (item_strokes_in h view x y i)
given-same x y h view (draw_item d) plain =
    let u : Stores = with_buffers h (with_values h.buffers d.values) in
    painted-same view d x y (paint_at u.buffers (textures_out view.target u.textures) d (at u.programs d.program.index)) u
given-same x y h view (touch_item t) plain = refl
given-same x y h view (blit_item b) plain = refl

no-strokes : (o : Option Handle) → on_back o [] ≡ []
no-strokes None = refl
no-strokes (Some h) = refl

pub item-follows : (x y : ℕ) (made more : List history.Made) (n m : ℕ) (h g : Stores) (view : View) (o : Option Item) → AllByRecursion (λ i. is_blit i ≡ false) (cons_option o [])
    → more ≡ made ++ map (made_of n) (on_back view.target (given_strokes g view x y o)) → m ≡ n + length (cons_option o []) → g ≡ fold (do_by_index view) h (cons_option o [])
    → Follows x y made n h (items_deeds view (cons_option o [])) more m g
item-follows x y made more n m h g view None plain a b c = record {
  made_is = a ∙ ap (λ (ss : List history.Stroke). made ++ map (made_of n) ss) (no-strokes view.target);
  count_is = b;
  stores_are = c;
}
item-follows x y made more n m h g view (Some i) plain a b c = record {
  made_is = a ∙ ap (λ u. made ++ map (made_of n) (on_back view.target (given_strokes u view x y (Some i)))) c
      ∙ ap (λ (ss : List history.Stroke). made ++ map (made_of n) ss) (given-same x y h view i plain.0)
      ∙ ap (λ (ms : List history.Made). made ++ ms) (sym (append-none (map (made_of n) (on_back view.target (item_strokes_in h view x y i)))));
  count_is = b;
  stores_are = c;
}

-- ---- entries in turn

module _ {X : Type 0} (rs : List model.Recorded) (entry : X → model.Entry) where
  items-more : (xs ys : List X) → items_in rs (map entry (xs ++ ys)) ≡ items_in rs (map entry xs) ++ items_in rs (map entry ys)
  items-more xs ys = ap (items_in rs) (map-more entry xs ys) ∙ filter_map-append (item_of_entry rs) (map entry xs) (map entry ys)

  pub items-deeds-more : (view : View) (xs : List X) (k : ℕ) (b : X) → k < length xs → get_or xs k b ≡ b
      → items_deeds view (items_in rs (map entry (take (k + 1) xs))) ≡ items_deeds view (items_in rs (map entry (take k xs))) ++ items_deeds view (items_in rs (map entry (b ∷ [])))
  items-deeds-more view xs k b h is =
      ap (λ ys. items_deeds view (items_in rs (map entry ys))) (take_more xs k b h ∙ ap (λ z. take k xs ++ z ∷ []) is)
      ∙ ap (items_deeds view) (items-more (take k xs) (b ∷ []))
      ∙ map-more (item_deed view) (items_in rs (map entry (take k xs))) (items_in rs (map entry (b ∷ [])))

  pub blits-deeds-more : (view : View) (xs : List X) (k : ℕ) (b : X) → k < length xs → get_or xs k b ≡ b
      → items_deeds view (map blit_item (blits_in rs (map entry (take (k + 1) xs)))) ≡ items_deeds view (map blit_item (blits_in rs (map entry (take k xs)))) ++ items_deeds view (map blit_item (blits_in rs (map entry (b ∷ []))))
  blits-deeds-more view xs k b h is =
      ap (λ ys. items_deeds view (map blit_item (blits_in rs (map entry ys)))) (take_more xs k b h ∙ ap (λ z. take k xs ++ z ∷ []) is)
      ∙ ap (λ is. items_deeds view (map blit_item (filter_map blit_of is))) (items-more (take k xs) (b ∷ []))
      ∙ ap (λ bs. items_deeds view (map blit_item bs)) (filter_map-append blit_of (items_in rs (map entry (take k xs))) (items_in rs (map entry (b ∷ []))))
      ∙ ap (items_deeds view) (map-more (λ x. blit_item x) (blits_in rs (map entry (take k xs))) (blits_in rs (map entry (b ∷ []))))
      ∙ map-more (item_deed view) (map (λ x. blit_item x) (blits_in rs (map entry (take k xs)))) (map (λ x. blit_item x) (blits_in rs (map entry (b ∷ []))))

  all-front : {A : Type 0} (P : A → Type 0) (xs ys : List A) → AllByRecursion P (xs ++ ys) → AllByRecursion P xs × AllByRecursion P ys
  all-front P [] ys a = (tt, a)
  all-front P (x ∷ xs) ys a = let rest = all-front P xs ys a.1 in ((a.0, rest.0), rest.1)

  pub plain-at : (P : Item → Type 0) (xs : List X) (k : ℕ) (b : X) → k < length xs → get_or xs k b ≡ b → AllByRecursion P (items_in rs (map entry xs)) → AllByRecursion P (items_in rs (map entry (b ∷ [])))
  plain-at P [] k b h is a = absurd (omega (arith, h))
  plain-at P (x ∷ xs) zero b h is a =
      let both : AllByRecursion P (items_in rs (map entry (x ∷ [])) ++ items_in rs (map entry xs)) = subst (AllByRecursion P) (items-more (x ∷ []) xs) a in
      subst (λ z. AllByRecursion P (items_in rs (map entry (z ∷ [])))) is (all-front P (items_in rs (map entry (x ∷ []))) (items_in rs (map entry xs)) both).0
  plain-at P (x ∷ xs) (suc k) b h is a =
      let both : AllByRecursion P (items_in rs (map entry (x ∷ [])) ++ items_in rs (map entry xs)) = subst (AllByRecursion P) (items-more (x ∷ []) xs) a in
      plain-at P xs k b (omega (arith, h)) is (all-front P (items_in rs (map entry (x ∷ []))) (items_in rs (map entry xs)) both).1

-- ---- parts in turn

pub parts-more : {X : Type 0} (seen : X → Part) (xs : List X) (k : ℕ) (b : X) → k < length xs → get_or xs k b ≡ b → deeds_of_parts (map seen (take (k + 1) xs)) ≡ deeds_of_parts (map seen (take k xs)) ++ deeds_of_part (seen b)
parts-more seen xs k b h is =
    ap (λ ys. deeds_of_parts (map seen ys)) (take_more xs k b h ∙ ap (λ z. take k xs ++ z ∷ []) is)
    ∙ ap deeds_of_parts (map-more seen (take k xs) (b ∷ []))
    ∙ flat-more deeds_of_part (map seen (take k xs)) (seen b ∷ [])
    ∙ ap (λ (ds : List Deed). deeds_of_parts (map seen (take k xs)) ++ ds) (append-none (deeds_of_part (seen b)))

pub all-at : {X : Type 0} {Y : Type 0} (P : Y → Type 0) (f : X → Y) (xs : List X) (k : ℕ) (b : X) → k < length xs → get_or xs k b ≡ b → AllByRecursion P (map f xs) → P (f b)
all-at P f [] k b h is a = absurd (omega (arith, h))
all-at P f (x ∷ xs) zero b h is a = subst (λ z. P (f z)) is a.0
all-at P f (x ∷ xs) (suc k) b h is a = all-at P f xs k b (omega (arith, h)) is a.1

-- strokes behind others
pub strokes-more : {S : Type 0} {T : Type 0} (f : S → T) (old : List T) (now next : List T) (xs : List S) (k : ℕ) (b : S) → k < length xs → get_or xs k b ≡ b → now ≡ old ++ map f (take k xs) → next ≡ now ++ f b ∷ [] → next ≡ old ++ map f (take (k + 1) xs)
strokes-more f old now next xs k b h is before after =
    after ∙ ap (λ ys. ys ++ f b ∷ []) before ∙ append_assoc old (map f (take k xs)) (f b ∷ [])
    ∙ ap (λ ys. old ++ ys) (sym (ap (map f) (take_more xs k b h ∙ ap (λ z. take k xs ++ z ∷ []) is) ∙ map-more f (take k xs) (b ∷ [])))

-- an element that is there does not depend on what is taken past the end
pub got-self : {A : Type 0} (xs : List A) (k : ℕ) (d : A) → k < length xs → get_or xs k (get_or xs k d) ≡ get_or xs k d
got-self [] k d h = absurd (omega (arith, h))
got-self (x ∷ xs) zero d h = refl
got-self (x ∷ xs) (suc k) d h = got-self xs k d (omega (arith, h))
