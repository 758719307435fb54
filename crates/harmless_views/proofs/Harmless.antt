-- A view that is judged is harmless.
use Rattle.std.proofs.Common.{◌≡◌, ◌∙◌, ℕ, zero, suc, ◌+◌, ◌<◌, inl, inr, ◌⊎◌, Bool, true, false, not, ◌&&◌, ◌==◌, List, [], ◌∷◌, map, filter_map, length, Option, Some, None, slice_get, refl, sym, ap, subst, arith}
use Rattle.std.specs.Prelude.{option_map, option_and_then}
use Rattle.std.specs.List.{list_any, AllByRecursion, cons_option, range_with_len}
use Rattle.gfx_model.specs.Words.{primitive_of}
use Rattle.gfx_model.specs.Vertex.{VertexRange, IndexRange, triangles_of}
use Rattle.gfx_model.specs.Raster.{view_rect, covers}
use Rattle.gfx_model.specs.Frames.{Entry, Recorded, item_of_entry, collected}
use Rattle.gfx_model.specs.Views.{View, Views, view_at, view_count}
use Rattle.gfx_model.specs.World.{World, Draw, Item, draw_item, touch_item, blit_item, view_of_item, is_in_cut, placed_facing, draw_vertices}
use Rattle.store_laws.specs.ByIndex.{Stores}
use Rattle.scene_model.specs.Fold.{Accepted, FramePlan}
use Rattle.scene_model.specs.Journal.{Tagged, tagged_from, item_of, share_key, clashes, IsLawfulFrame}
use Rattle.scene_model.proofs.RecordingLaws.{same_items}
use Rattle.scene_laws.specs.Gathered.{IsGathered}
use Rattle.scene_laws.proofs.Gathering.{are_recordings, has_frame}
use Rattle.shared_keys.specs.declared.marks.Mark.{Mark}
use Rattle.shared_keys.specs.declared.marks.SharedView.{SharedView}
use Rattle.shared_keys.specs.Marks.{shared_seen, is_one_key, mark_of, AreMarksOf, IsThere}
use Rattle.shared_keys.specs.Members.{In}
use Rattle.shared_keys.specs.Pairs.{Sharing, least_pair, sharing_views}
use Rattle.shared_keys.specs.Lines.{encoders_share, shared_views}
use Rattle.shared_items.proofs.Sharing.{view-shares}
use Rattle.shared_keys.proofs.Members.{any-of, of-any, self-member, member-has}
use Rattle.shared_keys.proofs.Order.{parts, both}
use Rattle.shared_keys.proofs.Clashes.{one-key-is, can-both, of-tagged, to-tagged, by-has-from, share-told, share-from, of-encoders, member-at, member-of-filter_map}
use Rattle.shared_keys.proofs.NoLine.{share-turned}
use Rattle.cover_laws.specs.Covered.{covers_pixel, AreApart, MayPass}
use Rattle.covered_rows.specs.declared.runs.Run.{Run}
use Rattle.covered_rows.specs.Apart as rows
use Rattle.covered_rows.specs.Covering.{HasRun}
use Rattle.bare_worlds.specs.Laws.{IsShapedIn}
use Rattle.bare_worlds.specs.Views.{IsHarmlessView}
use Rattle.harmless_views.specs.Covers.{covers_in, HasCovers}
use Rattle.harmless_views.specs.Checked.{are_clashing, is_clashing, IsCovered, Looked, Clashes, EntryThere, EntryChecked, AllThere, AllChecked, is_plain, ClashesAt, Stops, SomeStops, Overlap, Matters}
use Rattle.harmless_views.specs.Left.{IsJudged, AreLeft, AreShaped, IsNotHarmless}
use Rattle.harmless_views.specs.Seen.{looked_at, ViewJudged, ViewMatters}
use Rattle.harmless_views.proofs.Leaving.{left-by}

same_from_test : (m n : ℕ) → (m == n) ≡ true → m ≡ n
same_from_test m n e = grind (arith, e)

self-test : (m n : ℕ) → m ≡ n → (m == n) ≡ true
self-test m n e = grind (arith, e)

other : (b : Bool) → b ≡ true → not b ≡ true → ⊥
other b e f = cc (sym f ∙ ap not e)

not-true : (b : Bool) → (b ≡ true → ⊥) → b ≡ false
not-true true f = absurd (f refl)
not-true false f = refl

-- ---- covers

covers-same : (h : Stores) (w : World) (view : View) (d : Draw) (x y : ℕ) → IsShapedIn h w d → covers_pixel w view d x y ≡ covers_in h view d x y
covers-same h w view d x y s =
    sym (λ i. by (s.width i) (s.height i) (s.vertices i) (s.indices i))
  where
    by : (width height : ℕ) → Option VertexRange → Option IndexRange → Bool
    by width height vertices indices =
        let rect = view_rect view.rect width height in
        is_in_cut view rect d x y && list_any (λ f. covers f.triangle x y) (filter_map (placed_facing view rect d) (triangles_of (primitive_of d.state) (draw_vertices vertices indices)))

-- two draws of two encoders whose runs of one key do not meet cover no pixel in common
draws-apart : (rs : List Run) (h : Stores) (w : World) (view : View) (a b : Draw) (key other e f : ℕ) → rows.AreApart rs → key ≡ other → (e ≡ f → ⊥) → HasCovers rs key e h view a → HasCovers rs other f h view b
    → IsShapedIn h w a → IsShapedIn h w b → AreApart w view a b
draws-apart rs h w view a b key other e f apart one two ca cb sa sb x y wide high = not-true (covers_pixel w view a x y && covers_pixel w view b x y) (λ t.
    let both_cover = parts (covers_pixel w view a x y) (covers_pixel w view b x y) t in
    let inside : x < h.back.color.width = subst (λ (n : ℕ). x < n) (sym sa.width) wide in
    let above : y < h.back.color.height = subst (λ (n : ℕ). y < n) (sym sa.height) high in
    let p : HasRun rs key e x y = ca x y inside above (sym (covers-same h w view a x y sa) ∙ both_cover.0) in
    let q : HasRun rs other f x y = cb x y inside above (sym (covers-same h w view b x y sb) ∙ both_cover.1) in
    apart p.0 q.0 p.1 q.1 (p.2 ∙ one ∙ sym q.2) (p.4 ∙ sym q.4) (λ same. two (sym p.3 ∙ same ∙ q.3)) x p.5 q.5)

may-pass : (rs : List Run) (h : Stores) (w : World) (view : View) (i j : Item) (m n : Mark) → view.target ≡ None → rows.AreApart rs → m.key ≡ n.key → (m.encoder ≡ n.encoder → ⊥) → IsCovered rs h view m i → IsCovered rs h view n j
    → ((d : Draw) → (i ≡ draw_item d) ⊎ (j ≡ draw_item d) → IsShapedIn h w d) → MayPass w view i j
may-pass rs h w view (draw_item a) (draw_item b) m n target apart one two ca cb shaped =
    (ca.0, cb.0, target, draws-apart rs h w view a b m.key n.key m.encoder n.encoder apart one two ca.1 cb.1 (shaped a (inl refl)) (shaped b (inr refl)))
may-pass rs h w view (draw_item a) (touch_item t) m n target apart one two ca cb shaped = absurd cb
may-pass rs h w view (draw_item a) (blit_item b) m n target apart one two ca cb shaped = absurd cb
may-pass rs h w view (touch_item t) j m n target apart one two ca cb shaped = absurd ca
may-pass rs h w view (blit_item b) j m n target apart one two ca cb shaped = absurd ca

-- ---- entries

abbrev EncodersThere : FramePlan → Type 0
EncodersThere p = AllByRecursion (λ a. AllByRecursion (IsThere (view_count p.views)) a.items) p.encoders

one-same : {A : Type 0} (a b : Option A) → cons_option a [] ≡ cons_option b [] → a ≡ b
one-same None None is = refl
one-same None (Some b) is = absurd (cc is)
one-same (Some a) None is = absurd (cc is)
one-same {A} (Some a) (Some b) is = (let same : a ≡ b = cc is in ap Some same)

abbrev tag : ℕ → Item → Tagged
tag e i = record { encoder = e; item = i }

map-some : (e : ℕ) (o : Option Item) (t : Tagged) → option_map (λ i. tag e i) o ≡ Some t → (e ≡ t.encoder) × (o ≡ Some t.item)
map-some e None t is = absurd (cc is)
map-some e (Some i) t is = (let same : tag e i ≡ t = cc is in (ap (λ (u : Tagged). u.encoder) same, ap (λ (u : Tagged). Some u.item) same))

tagged-in : (encoders : List Accepted) (n : Entry) (i : Item) → item_of encoders n ≡ Some i → In {A = Tagged} (tag n.encoder i) (tagged_from 0 encoders)
tagged-in encoders n i is = go (slice_get encoders n.encoder) refl is
  where
    start : 0 + n.encoder ≡ n.encoder
    start = omega arith

    go : (o : Option Accepted) → slice_get encoders n.encoder ≡ o → option_and_then (λ a. slice_get a.items n.ordinal) o ≡ Some i → In {A = Tagged} (tag n.encoder i) (tagged_from 0 encoders)
    go None at e = absurd (cc e)
    go (Some a) at e = subst (λ (m : ℕ). In {A = Tagged} (tag m i) (tagged_from 0 encoders)) start (to-tagged 0 encoders n.encoder a i at (member-at a.items n.ordinal i e))

last-part : (a b : Bool) → (a && b) ≡ true → b ≡ true
last-part a b e = (parts a b e).1

module _ (p : FramePlan) (h : Stores) (w : World) (v : ℕ) (marks : List Mark) (rs : List Recorded) (entries : List Entry)
    (all : EncodersThere p) (lawful : IsLawfulFrame p entries) (gathered : IsGathered p rs) (are : AreMarksOf p marks) (shaped : AreShaped h p w) where
  abbrev k : Looked
  k = looked_at h p.views v marks

  recorded-same : (n : Entry) → item_of_entry rs n ≡ item_of p.encoders n
  recorded-same n = sym (one-same (item_of p.encoders n) (item_of_entry rs n) (same_items p rs (n ∷ []) (are_recordings p rs gathered)))

  -- an item of the frame is there
  item-there : (t : Tagged) → In t (tagged_from 0 p.encoders) → IsThere (view_count p.views) t.item
  item-there t i =
      let o = of-tagged 0 p.encoders t i in
      let fits : AllByRecursion (IsThere (view_count p.views)) o.accepted.items = member-has (λ a. AllByRecursion (IsThere (view_count p.views)) a.items) p.encoders o.accepted all (member-at p.encoders o.place o.accepted o.there) in
      member-has (IsThere (view_count p.views)) o.accepted.items t.item fits o.item

  -- it has an entry in the journal
  record HasEntry (t : Tagged) : Type 0 where
    entry : Entry
    there : In entry entries
    own : entry.encoder ≡ t.encoder
    item : item_of p.encoders entry ≡ Some t.item

  has-entry : (t : Tagged) → In t (tagged_from 0 p.encoders) → HasEntry t
  has-entry t i =
      let one = member-of-filter_map (λ (n : Entry). option_map (λ i. tag n.encoder i) (item_of p.encoders n)) entries t (by-has-from p entries t lawful (of-tagged 0 p.encoders t i)) in
      let told = map-some one.0.encoder (item_of p.encoders one.0) t one.2 in
      record { entry = one.0; there = one.1; own = told.0; item = told.1 }

  all-there : AllThere k rs entries
  all-there = self-member entries (EntryThere k rs) (λ n i j at. item-there (tag n.encoder j) (tagged-in p.encoders n j (sym (recorded-same n) ∙ at)))

  -- of two items that share a key the first is covered, where all entries are checked
  one-covered : (runs : List Run) → AllChecked k runs rs entries → (t u : Tagged) → In t (tagged_from 0 p.encoders) → In u (tagged_from 0 p.encoders) → view_of_item t.item ≡ v → share_key p.views t u ≡ true
      → IsCovered runs h (view_at p.views v) (mark_of p.views t) t.item
  one-covered runs checked t u i j view share =
      let told = share-told p.views t u share in
      let can = can-both p.views t.item u.item told.2 in
      let n = has-entry t i in
      let key : is_one_key (mark_of p.views t) (mark_of p.views u) ≡ true =
      one-key-is p.views t.encoder u.encoder t.item u.item can.0 can.1 ∙ both (view_of_item t.item == view_of_item u.item) (clashes p.views t.item u.item) told.1 told.2 in
      let clash : is_clashing marks (mark_of p.views t) ≡ true =
      any-of (are_clashing (mark_of p.views t)) marks (mark_of p.views u) (are.has u j can.1) (both (not (t.encoder == u.encoder)) (is_one_key (mark_of p.views t) (mark_of p.views u)) told.0 key) in
      let one = member-has (EntryChecked k runs rs) entries n.entry checked n.there in
      let does : Clashes k n.entry.encoder t.item = record { can = can.0; view = view; clash = ap (λ (e : ℕ). is_clashing marks (mark_of p.views (tag e t.item))) n.own ∙ clash } in
      let done = one t.item (recorded-same n.entry ∙ n.item) (item-there t i) does in
      subst (λ (e : ℕ). IsCovered runs h (view_at p.views v) (mark_of p.views (tag e t.item)) t.item) n.own done

  key-same : (m n : Mark) → is_one_key m n ≡ true → m.key ≡ n.key
  key-same m n e = same_from_test m.key n.key (last-part _ _ e)

  judged-harmless : IsJudged k rs entries → IsHarmlessView w p v
  judged-harmless judged m n i j at bt view share =
      let t : Tagged = tag m.encoder i in
      let u : Tagged = tag n.encoder j in
      let it = tagged-in p.encoders m i at in
      let iu = tagged-in p.encoders n j bt in
      let told = share-told p.views t u share in
      let can = can-both p.views i j told.2 in
      let runs : List Run = judged.1.0 in
      let checked = judged.1.1.0 in
      let same : view_of_item i ≡ view_of_item j = same_from_test (view_of_item i) (view_of_item j) told.1 in
      let first = one-covered runs checked t u it iu view share in
      let second = one-covered runs checked u t iu it (sym same ∙ view) (share-turned p.views t u share) in
      let key : is_one_key (mark_of p.views t) (mark_of p.views u) ≡ true =
      one-key-is p.views t.encoder u.encoder i j can.0 can.1 ∙ both (view_of_item i == view_of_item j) (clashes p.views i j) told.1 told.2 in
      may-pass runs h w (view_at p.views v) i j (mark_of p.views t) (mark_of p.views u) judged.0 judged.1.1.1 (key-same (mark_of p.views t) (mark_of p.views u) key)
      (λ e. other (m.encoder == n.encoder) (self-test m.encoder n.encoder e) told.0) first second
      (λ d which. elim which [
        | inl e ↦ shaped m d (at ∙ ap Some e)
        | inr e ↦ shaped n d (bt ∙ ap Some e)
      ])

  -- ---- the other direction

  -- what two items that share a key owe each other
  passes : IsHarmlessView w p v → (m n : Entry) (i j : Item) → item_of p.encoders m ≡ Some i → item_of p.encoders n ≡ Some j → view_of_item i ≡ v → share_key p.views (tag m.encoder i) (tag n.encoder j) ≡ true → MayPass w (view_at p.views v) i j
  passes harmless m n i j at bt view share = harmless m n i j at bt view share

  passes-onto : (view : View) (i j : Item) → MayPass w view i j → view.target ≡ None
  passes-onto view (draw_item a) (draw_item b) pass = pass.2
  passes-onto view (draw_item a) (touch_item t) pass = absurd pass
  passes-onto view (draw_item a) (blit_item b) pass = absurd pass
  passes-onto view (touch_item t) j pass = absurd pass
  passes-onto view (blit_item b) j pass = absurd pass

  passes-plain : (view : View) (i j : Item) → MayPass w view i j → is_plain i ≡ false → ⊥
  passes-plain view (draw_item a) (draw_item b) pass other_form = cc (sym other_form ∙ ap (λ vs. not (Rattle.scene_model.specs.Journal.is_nonempty vs)) pass.0)
  passes-plain view (draw_item a) (touch_item t) pass other_form = absurd pass
  passes-plain view (draw_item a) (blit_item b) pass other_form = absurd pass
  passes-plain view (touch_item t) j pass other_form = absurd pass
  passes-plain view (blit_item b) j pass other_form = absurd pass

  -- an entry's item that clashes shares a key with another
  record Sharer (n : Entry) (i : Item) : Type 0 where
    other_entry : Entry
    other_item : Item
    is : item_of p.encoders other_entry ≡ Some other_item
    share : share_key p.views (tag n.encoder i) (tag other_entry.encoder other_item) ≡ true

  sharer : (n : Entry) (i : Item) → ClashesAt k rs n i → Sharer n i
  sharer n i c =
      let one = of-any (are_clashing (mark_of p.views (tag n.encoder i))) marks c.own.clash in
      let two = parts (not (n.encoder == one.0.encoder)) (is_one_key (mark_of p.views (tag n.encoder i)) one.0) one.2 in
      let from = are.of one.0 one.1 in
      let u : Tagged = from.0 in
      let its = has-entry u from.1 in
      let differ : not (n.encoder == u.encoder) ≡ true = ap (λ (m : Mark). not (n.encoder == m.encoder)) (sym from.3) ∙ two.0 in
      let key : is_one_key (mark_of p.views (tag n.encoder i)) (mark_of p.views u) ≡ true = ap (is_one_key (mark_of p.views (tag n.encoder i))) (sym from.3) ∙ two.1 in
      let told = parts (view_of_item i == view_of_item u.item) (clashes p.views i u.item) (sym (one-key-is p.views n.encoder u.encoder i u.item c.own.can from.2) ∙ key) in
      let shares : share_key p.views (tag n.encoder i) (tag u.encoder u.item) ≡ true = share-from p.views (tag n.encoder i) u differ told.0 told.1 in
      record {
        other_entry = its.entry;
        other_item = u.item;
        is = its.item;
        share = ap (λ (e : ℕ). share_key p.views (tag n.encoder i) (tag e u.item)) its.own ∙ shares;
      }

  stopped : (n : Entry) → Stops k rs n → IsNotHarmless w p v
  stopped n (inl (i, (c, other_form))) harmless =
      let s = sharer n i c in
      passes-plain (view_at p.views v) i s.other_item (harmless n s.other_entry i s.other_item (sym (recorded-same n) ∙ c.at) s.is c.own.view s.share) other_form
  stopped n (inr (d, (c, lacks))) harmless = (shaped n d (sym (recorded-same n) ∙ c.at)).program lacks

  some-stopped : (ns : List Entry) → SomeStops k rs ns → IsNotHarmless w p v
  some-stopped [] stops = absurd stops
  some-stopped (n ∷ ns) (inl stops) = stopped n stops
  some-stopped (n ∷ ns) (inr stops) = some-stopped ns stops

  draws-clash : (e f : ℕ) (a b : Draw) → view_of_item (draw_item a) ≡ v → view_of_item (draw_item b) ≡ v → (mark_of p.views (tag e (draw_item a))).key ≡ (mark_of p.views (tag f (draw_item b))).key
      → is_one_key (mark_of p.views (tag e (draw_item a))) (mark_of p.views (tag f (draw_item b))) ≡ true
  draws-clash e f a b va vb key =
      both ((a.view == b.view) && true) ((mark_of p.views (tag e (draw_item a))).key == (mark_of p.views (tag f (draw_item b))).key) (both (a.view == b.view) true (self-test a.view b.view (va ∙ sym vb)) refl)
      (self-test (mark_of p.views (tag e (draw_item a))).key (mark_of p.views (tag f (draw_item b))).key key)

  apart-test : (m n : ℕ) → (m ≡ n → ⊥) → not (m == n) ≡ true
  apart-test m n differ = go (m == n) refl
    where
      go : (b : Bool) → (m == n) ≡ b → not b ≡ true
      go true e = absurd (differ (same_from_test m n e))
      go false e = refl

  passes-apart : (view : View) (a b : Draw) (x y : ℕ) → MayPass w view (draw_item a) (draw_item b) → x < w.back.color.width → y < w.back.color.height → covers_pixel w view a x y ≡ true → covers_pixel w view b x y ≡ true → ⊥
  passes-apart view a b x y pass wide high ca cb = cc (sym (both (covers_pixel w view a x y) (covers_pixel w view b x y) ca cb) ∙ pass.3 x y wide high)

  overlaps : Overlap k rs entries → IsHarmlessView w p v → ⊥
  overlaps o harmless =
      let view : View = view_at p.views v in
      let at = sym (recorded-same o.first) ∙ o.left.at in
      let bt = sym (recorded-same o.second) ∙ o.right.at in
      let sa = shaped o.first o.a at in
      let sb = shaped o.second o.b bt in
      let t : Tagged = tag o.first.encoder (draw_item o.a) in
      let u : Tagged = tag o.second.encoder (draw_item o.b) in
      let key = draws-clash o.first.encoder o.second.encoder o.a o.b o.left.own.view o.right.own.view o.key in
      let told = parts (view_of_item (draw_item o.a) == view_of_item (draw_item o.b)) (clashes p.views (draw_item o.a) (draw_item o.b)) (sym (one-key-is p.views o.first.encoder o.second.encoder (draw_item o.a) (draw_item o.b) refl refl) ∙ key) in
      let share : share_key p.views t u ≡ true = share-from p.views t u (apart-test o.first.encoder o.second.encoder o.apart) told.0 told.1 in
      let pass = harmless o.first o.second (draw_item o.a) (draw_item o.b) at bt o.left.own.view share in
      passes-apart view o.a o.b o.x o.y pass (subst (λ (n : ℕ). o.x < n) sa.width o.wide) (subst (λ (n : ℕ). o.y < n) sa.height o.high)
      (covers-same h w view o.a o.x o.y sa ∙ o.covers_left) (covers-same h w view o.b o.x o.y sb ∙ o.covers_right)

  -- a view in which two encoders share a key has two items that do
  pub matters-not : (x : ℕ × (ℕ × ℕ)) → In x (shared_views p) → x.0 ≡ v → Matters k rs entries → IsNotHarmless w p v
  matters-not x i is (inl target) harmless =
      let found = of-encoders p.views (tagged_from 0 p.encoders) x.0 x.1.0 x.1.1 (view-shares (encoders_share p.views (tagged_from 0 p.encoders)) (length p.encoders) (view_count p.views) x i) in
      let two = found.1.1 in
      let m = has-entry found.0 two.0 in
      let n = has-entry found.1.0 two.1 in
      let share : share_key p.views (tag m.entry.encoder found.0.item) (tag n.entry.encoder found.1.0.item) ≡ true = (λ j. share_key p.views (tag (m.own j) found.0.item) (tag (n.own j) found.1.0.item)) ∙ two.5 in
      target (passes-onto (view_at p.views v) found.0.item found.1.0.item (harmless m.entry n.entry found.0.item found.1.0.item m.item n.item (two.3 ∙ is) share))
  matters-not x i is (inr (inl stops)) harmless = some-stopped entries stops harmless
  matters-not x i is (inr (inr o)) harmless = overlaps o harmless

  pub judged-is : ViewJudged h p.views marks rs entries v → IsHarmlessView w p v
  judged-is = judged-harmless

  pub matters-is : (x : ℕ × (ℕ × ℕ)) → In x (shared_views p) → x.0 ≡ v → v < view_count p.views → ViewMatters h p.views marks rs entries v → IsNotHarmless w p v
  matters-is x i is low matters = matters-not x i is (matters low all-there)

-- ---- the views of a frame

-- a shared view is there
below-range : (low n m : ℕ) → In m (range_with_len low n) → m < low + n
below-range low zero m i = absurd i
below-range low (suc n) m (inl e) = omega (arith, e)
below-range low (suc n) m (inr i) = let b = below-range (low + 1) n m i in omega (arith, b)

view-of : (o : Option (ℕ × ℕ)) (n : ℕ) (x : ℕ × (ℕ × ℕ)) → option_map (λ (y : ℕ × ℕ). let z : ℕ × (ℕ × ℕ) = (n, y) in z) o ≡ Some x → n ≡ x.0
view-of None n x e = absurd (cc e)
view-of (Some y) n x e = go e
  where
    z : ℕ × (ℕ × ℕ)
    z = (n, y)

    go : Some z ≡ Some x → n ≡ x.0
    go e = let same : z ≡ x = cc e in ap (λ (q : ℕ × (ℕ × ℕ)). q.0) same

view-below : (share : Sharing) (encoders views : ℕ) (x : ℕ × (ℕ × ℕ)) → In x (sharing_views share encoders views) → x.0 < views
view-below share encoders views x i =
    let one = member-of-filter_map (λ v. option_map (λ (y : ℕ × ℕ). let z : ℕ × (ℕ × ℕ) = (v, y) in z) (least_pair share encoders v)) (range_with_len 0 views) x i in
    let same = view-of (least_pair share encoders one.0) one.0 x one.2 in
    let low = below-range 0 views one.0 one.1 in
    omega (arith, same, low)

pub views-left : (h : Stores) (vs : Views) (rs : List Recorded) (entries : List Entry) (p : FramePlan) (w : World) (marks : List Mark) (kept : List (ℕ × (ℕ × ℕ)))
    → EncodersThere p → entries ≡ collected rs → vs ≡ p.views → IsGathered p rs → AreMarksOf p marks → AreShaped h p w → AreLeft (ViewJudged h vs marks rs entries) (ViewMatters h vs marks rs entries) (shared_views p) kept
    → AreLeft (IsHarmlessView w p) (IsNotHarmless w p) (shared_views p) kept
views-left h vs rs entries p w marks kept all order views gathered are shaped left =
    let lawful : IsLawfulFrame p entries = subst (λ (ns : List Entry). IsLawfulFrame p ns) (sym order) (has_frame p rs gathered).lawful in
    left-by (ViewJudged h vs marks rs entries) (ViewMatters h vs marks rs entries) (IsHarmlessView w p) (IsNotHarmless w p) (shared_views p) kept
    (λ x i judged. judged-is p h w x.0 marks rs entries all lawful gathered are shaped (subst (λ (z : Views). ViewJudged h z marks rs entries x.0) views judged))
    (λ x i matters. matters-is p h w x.0 marks rs entries all lawful gathered are shaped x i refl (view-below (encoders_share p.views (tagged_from 0 p.encoders)) (length p.encoders) (view_count p.views) x i)
    (subst (λ (z : Views). ViewMatters h z marks rs entries x.0) views matters))
    left

-- the same views by other names
pub views-kept : (h : Stores) (vs : Views) (rs : List Recorded) (entries : List Entry) (marks own : List Mark) (views all : List SharedView) (shared kept : List (ℕ × (ℕ × ℕ))) → own ≡ marks → all ≡ views → map shared_seen views ≡ shared
    → AreLeft (ViewJudged h vs own rs entries) (ViewMatters h vs own rs entries) (map shared_seen all) kept → AreLeft (ViewJudged h vs marks rs entries) (ViewMatters h vs marks rs entries) shared kept
views-kept h vs rs entries marks own views all shared kept same found are left =
    subst (λ (ms : List Mark). AreLeft (ViewJudged h vs ms rs entries) (ViewMatters h vs ms rs entries) shared kept) same
    (subst (λ (xs : List (ℕ × (ℕ × ℕ))). AreLeft (ViewJudged h vs own rs entries) (ViewMatters h vs own rs entries) xs kept) (ap (map shared_seen) found ∙ are) left)
