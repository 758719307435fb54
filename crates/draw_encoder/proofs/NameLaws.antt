-- What was named stays named, and what a call asks of its handles stays true.
use Rattle.std.proofs.Common.{◌≡◌, ℕ, ◌<◌, inl, inr, Bool, true, false, if◌then◌else◌, List, [], ◌∷◌, ◌++◌, length, Option, Some, None, Result, Ok, Err, MatchResult, IsTrue, refl, ap, sym, ◌∙◌, subst, arith, length-append}
use Rattle.std.specs.List.{AllByRecursion}
use Rattle.schedule_model.proofs.Lists.{all-map, all-snoc, all-set, ascends-snoc}
use Rattle.gfx_model.specs.Number.{is_bit_set}
use Rattle.gfx_model.specs.Words.{Handle, program_kind, is_kind, place_of_handle, is_usable_in}
use Rattle.gfx_model.specs.Views.{IsViewCount}
use Rattle.gfx_model.specs.World.{VertexSet, no_vertices, stored_vertices, transient_vertices, IndexSet, no_indices, stored_indices, transient_indices, UniformSet, Item, draw_item, touch_item, blit_item}
use Rattle.gfx_model.specs.Recorder as calls
use Rattle.gfx_model.specs.Resources.{Refusal as ModelRefusal, first_refusal, or_refusal}
use Rattle.gfx_words.specs.declared.refusals.Refusal.{Refusal}
use Rattle.gfx_words.specs.declared.refusals.Refusal.TheVariants as refusals
use Rattle.hold_table.specs.Views.{SeatView, Asked, asks, drawn, HasAsked, IsNamedIn, HasNamed, IsWordSince}
use Rattle.draw_encoder.specs.Calls.{EncoderView, Answers}
use Rattle.draw_encoder.specs.Names.{FitsVertices, FitsIndices, FitsTexture, FitsUniform, FitsItem, FitsRecorder}
use Rattle.draw_encoder.specs.TapeViews.{TapeView, with_call, with_set, with_item, without}
use Rattle.draw_encoder.specs.Encoders.{IsOf}

-- ---- names

pub named_more : (frame : ℕ) (h : Handle) (asked more : List Asked) → IsNamedIn frame h asked → IsNamedIn frame h (asked ++ more)
named_more frame h [] more n = absurd n
named_more frame h (a ∷ rest) more (inl n) = inl n
named_more frame h (a ∷ rest) more (inr n) = inr (named_more frame h rest more n)

pub named_now : (frame : ℕ) (h : Handle) (asked : List Asked) (w : ℕ) → is_usable_in frame w h.serial ≡ true → IsNamedIn frame h (asked ++ record { place = place_of_handle h; word = w } ∷ [])
named_now frame h [] w usable = inl (refl, usable)
named_now frame h (a ∷ rest) w usable = inr (named_now frame h rest w usable)

-- ---- what fits one list of names fits a longer one

module _ (N M : Handle → Type 0) (more : (h : Handle) → N h → M h) where
  pub vertices_fit : (v : VertexSet) → FitsVertices N v → FitsVertices M v
  vertices_fit no_vertices f = tt
  vertices_fit (stored_vertices h first count) f = (more h f.0, f.1)
  vertices_fit (transient_vertices h bytes) f = (more h f.0, f.1)

  pub indices_fit : (v : IndexSet) → FitsIndices N v → FitsIndices M v
  indices_fit no_indices f = tt
  indices_fit (stored_indices h first count) f = (more h f.0, f.1)
  indices_fit (transient_indices bytes) f = tt

  pub texture_fits : (t : Option Handle) → FitsTexture N t → FitsTexture M t
  texture_fits None f = tt
  texture_fits (Some h) f = (more h f.0, f.1)

  pub uniforms_fit : (ss : List UniformSet) → AllByRecursion (FitsUniform N) ss → AllByRecursion (FitsUniform M) ss
  uniforms_fit = all-map (FitsUniform N) (FitsUniform M) (λ s f. (more s.uniform f.0, f.1))

  pub textures_fit : (ts : List (Option Handle)) → AllByRecursion (FitsTexture N) ts → AllByRecursion (FitsTexture M) ts
  textures_fit = all-map (FitsTexture N) (FitsTexture M) texture_fits

  pub item_fits : (views : ℕ) (i : Item) → FitsItem N views i → FitsItem M views i
  item_fits views (draw_item d) f = (f.0, (more d.program f.1.0, f.1.1), vertices_fit d.vertices f.2, indices_fit d.indices f.3, textures_fit d.textures f.4, uniforms_fit d.values f.5)
  item_fits views (touch_item t) f = (f.0, uniforms_fit t.values f.1)
  item_fits views (blit_item b) f = (f.0, more b.destination f.1, more b.source f.2, f.3, f.4)

  pub recorder_fits : (e : calls.Recorder) → FitsRecorder N e → FitsRecorder M e
  recorder_fits e f = record {
    vertices = vertices_fit e.current.vertices f.vertices;
    indices = indices_fit e.current.indices f.indices;
    textures = textures_fit e.current.textures f.textures;
    pending = uniforms_fit e.pending f.pending;
    items = all-map (FitsItem N e.view_count) (FitsItem M e.view_count) (item_fits e.view_count) e.items f.items;
  }

-- the seat asked once more
pub of_asks : (p w : ℕ) (v : SeatView) (t : TapeView) → IsOf v t → IsOf (asks p w v) t
of_asks p w v t o =
    let more : (h : Handle) → HasNamed v h → HasNamed (asks p w v) h = λ h n. named_more v.frame h v.asked (record { place = p; word = w } ∷ []) n in
    record {
      frame = o.frame;
      views = o.views;
      ascends = o.ascends;
      numbers = o.numbers;
      count = o.count;
      most = o.most;
      fits = recorder_fits (HasNamed v) (HasNamed (asks p w v)) more t.recorder o.fits;
      sets = uniforms_fit (HasNamed v) (HasNamed (asks p w v)) more t.sets o.sets;
    }

-- ---- calls

-- what an accepted call tells of its handles
abbrev pub FitsCall : (Handle → Type 0) → calls.Recorder → calls.EncoderCall → Type 0
FitsCall N e (calls.set_vertices h first count) = FitsVertices N (stored_vertices h first count)
FitsCall N e (calls.set_indices h first count) = FitsIndices N (stored_indices h first count)
FitsCall N e (calls.set_transient_vertices h bytes) = FitsVertices N (transient_vertices h bytes)
FitsCall N e (calls.set_texture stage t) = FitsTexture N t
FitsCall N e (calls.set_uniform h v) = FitsUniform N (record { uniform = h; value = v })
FitsCall N e (calls.submit v h depth flags) = (v < e.view_count) × N h × IsTrue (is_kind h.kind program_kind)
FitsCall N e (calls.touch v) = v < e.view_count
FitsCall N e (calls.blit b) = FitsItem N e.view_count (blit_item b)
FitsCall N e _ = Unit {0}

module _ (N : Handle → Type 0) where
  vertices_left : (b : Bool) (v : VertexSet) → FitsVertices N v → FitsVertices N (if b then no_vertices else v)
  vertices_left true v f = tt
  vertices_left false v f = f

  indices_left : (b : Bool) (v : IndexSet) → FitsIndices N v → FitsIndices N (if b then no_indices else v)
  indices_left true v f = tt
  indices_left false v f = f

  textures_left : (b : Bool) (ts : List (Option Handle)) → AllByRecursion (FitsTexture N) ts → AllByRecursion (FitsTexture N) (if b then (None ∷ None ∷ []) else ts)
  textures_left true ts f = (tt, (tt, tt))
  textures_left false ts f = f

  fits_recorded : (e : calls.Recorder) (i : Item) (flags : ℕ) → FitsRecorder N e → FitsItem N e.view_count i → FitsRecorder N (calls.recorded i flags e)
  fits_recorded e i flags f fits = record {
    vertices = vertices_left (is_bit_set flags 5) e.current.vertices f.vertices;
    indices = indices_left (is_bit_set flags 1) e.current.indices f.indices;
    textures = textures_left (is_bit_set flags 0) e.current.textures f.textures;
    pending = tt;
    items = all-snoc (FitsItem N e.view_count) e.items i f.items fits;
  }

  fits_discarded : (e : calls.Recorder) (flags : ℕ) → FitsRecorder N e → FitsRecorder N (calls.with_current (calls.discarded flags e.current) e)
  fits_discarded e flags f = record {
    vertices = vertices_left (is_bit_set flags 5) e.current.vertices f.vertices;
    indices = indices_left (is_bit_set flags 1) e.current.indices f.indices;
    textures = textures_left (is_bit_set flags 0) e.current.textures f.textures;
    pending = f.pending;
    items = f.items;
  }

  fits_after : (e : calls.Recorder) (c : calls.EncoderCall) → FitsRecorder N e → FitsCall N e c → FitsRecorder N (calls.after e c)
  fits_after e (calls.set_state word) f k = record { vertices = f.vertices; indices = f.indices; textures = f.textures; pending = f.pending; items = f.items }
  fits_after e (calls.set_stencil front back) f k = record { vertices = f.vertices; indices = f.indices; textures = f.textures; pending = f.pending; items = f.items }
  fits_after e (calls.set_scissor rect) f k = record { vertices = f.vertices; indices = f.indices; textures = f.textures; pending = f.pending; items = f.items }
  fits_after e (calls.set_transform model) f k = record { vertices = f.vertices; indices = f.indices; textures = f.textures; pending = f.pending; items = f.items }
  fits_after e (calls.set_vertices h first count) f k = record { vertices = k; indices = f.indices; textures = f.textures; pending = f.pending; items = f.items }
  fits_after e (calls.set_indices h first count) f k = record { vertices = f.vertices; indices = k; textures = f.textures; pending = f.pending; items = f.items }
  fits_after e (calls.set_transient_vertices h bytes) f k = record { vertices = k; indices = f.indices; textures = f.textures; pending = f.pending; items = f.items }
  fits_after e (calls.set_transient_indices bytes) f k = record { vertices = f.vertices; indices = tt; textures = f.textures; pending = f.pending; items = f.items }
  fits_after e (calls.set_texture stage t) f k = record { vertices = f.vertices; indices = f.indices; textures = all-set (FitsTexture N) e.current.textures stage t f.textures k; pending = f.pending; items = f.items }
  fits_after e (calls.set_uniform h v) f k = record { vertices = f.vertices; indices = f.indices; textures = f.textures; pending = all-snoc (FitsUniform N) e.pending (record { uniform = h; value = v }) f.pending k; items = f.items }
  fits_after e (calls.submit v h depth flags) f k = fits_recorded e (draw_item (calls.draw_of e v h depth)) flags f (k.0, (k.1, k.2), f.vertices, f.indices, f.textures, f.pending)
  fits_after e (calls.touch v) f k = fits_recorded e (touch_item (record { view = v; values = e.pending })) 255 f (k, f.pending)
  fits_after e (calls.blit b) f k = record { vertices = f.vertices; indices = f.indices; textures = f.textures; pending = f.pending; items = all-snoc (FitsItem N e.view_count) e.items (blit_item b) f.items k }

-- the frame, the number of views and the room stay
abbrev pub SameLimits : calls.Recorder → calls.Recorder → Type 0
SameLimits e d = (d.frame ≡ e.frame) × (d.view_count ≡ e.view_count) × (d.room ≡ e.room)

limits_after : (e : calls.Recorder) (c : calls.EncoderCall) → SameLimits e (calls.after e c)
limits_after e (calls.set_state word) = (refl, refl, refl)
limits_after e (calls.set_stencil front back) = (refl, refl, refl)
limits_after e (calls.set_scissor rect) = (refl, refl, refl)
limits_after e (calls.set_transform model) = (refl, refl, refl)
limits_after e (calls.set_vertices h first count) = (refl, refl, refl)
limits_after e (calls.set_indices h first count) = (refl, refl, refl)
limits_after e (calls.set_transient_vertices h bytes) = (refl, refl, refl)
limits_after e (calls.set_transient_indices bytes) = (refl, refl, refl)
limits_after e (calls.set_texture stage t) = (refl, refl, refl)
limits_after e (calls.set_uniform h v) = (refl, refl, refl)
limits_after e (calls.submit v h depth flags) = (refl, refl, refl)
limits_after e (calls.touch v) = (refl, refl, refl)
limits_after e (calls.blit b) = (refl, refl, refl)

-- an answered call leaves the number of views
views_by : (e d : calls.Recorder) (c : calls.EncoderCall) (o : Option ModelRefusal) → or_refusal (calls.after e c) o ≡ Ok d → d.view_count ≡ e.view_count
views_by e d c None is = let same : calls.after e c ≡ d = cc is in ap (λ r. r.view_count) (sym same) ∙ (limits_after e c).1
views_by e d c (Some r) is = cc is

pub views_stay : (old new : EncoderView) (c : calls.EncoderCall) (r : Result (Unit {0}) Refusal) → Answers old new c r → new.recorder.view_count ≡ old.recorder.view_count
views_stay old new c (Ok u) a = views_by old.recorder new.recorder c (first_refusal (calls.refusals old.recorder a.words c)) a.outcome.0
views_stay old new c (Err x) a = ap (λ e. e.view_count) a.outcome.1

module _ (v : SeatView) (t : TapeView) (o : IsOf v t) where
  pub of_call : (c : calls.EncoderCall) (u : TapeView) → u ≡ with_call c t → (calls.after t.recorder c).items ≡ t.recorder.items → FitsCall (HasNamed v) t.recorder c → IsOf v u
  of_call c u e same fits =
      let l = limits_after t.recorder c in
      subst (IsOf v) (sym e) (record {
        frame = l.0 ∙ o.frame;
        views = subst IsViewCount (sym l.1) o.views;
        ascends = o.ascends;
        numbers = o.numbers;
        count = o.count ∙ ap length (sym same);
        most = let r = ap (λ r. r.items) l.2 in let m = o.most in omega arith;
        fits = fits_after (HasNamed v) t.recorder c o.fits fits;
        sets = o.sets;
      })

  pub of_discard : (flags : ℕ) (u : TapeView) → u ≡ without flags t → IsOf v u
  of_discard flags u e = subst (IsOf v) (sym e) (record {
    frame = o.frame;
    views = o.views;
    ascends = o.ascends;
    numbers = o.numbers;
    count = o.count;
    most = o.most;
    fits = fits_discarded (HasNamed v) t.recorder flags o.fits;
    sets = o.sets;
  })

  pub of_set : (h : Handle) (x : UniformSet) (u : TapeView) → u ≡ with_set x (calls.set_uniform x.uniform x.value) t → FitsUniform (HasNamed v) x → IsOf v u
  of_set h x u e fits = subst (IsOf v) (sym e) (record {
    frame = o.frame;
    views = o.views;
    ascends = o.ascends;
    numbers = o.numbers;
    count = o.count;
    most = o.most;
    fits = fits_after (HasNamed v) t.recorder (calls.set_uniform x.uniform x.value) o.fits fits;
    sets = all-snoc (FitsUniform (HasNamed v)) t.sets x o.sets fits;
  })

  pub of_item : (n : ℕ) (c : calls.EncoderCall) (i : Item) (u : TapeView) (w : SeatView) → u ≡ with_item n c t → w ≡ drawn n v → AllByRecursion (λ m. m < n) v.numbers → (calls.after t.recorder c).items ≡ t.recorder.items ++ i ∷ [] → FitsCall (HasNamed v) t.recorder c → IsOf w u
  of_item n c i u w e f above same fits =
      let l = limits_after t.recorder c in
      let longer = length-append t.numbers (n ∷ []) in
      let more = ap length same ∙ length-append t.recorder.items (i ∷ []) in
      subst (λ (x : SeatView × TapeView). IsOf x.0 x.1) (λ j. (sym f j, sym e j)) (record {
        frame = l.0 ∙ o.frame;
        views = subst IsViewCount (sym l.1) o.views;
        ascends = ascends-snoc v.numbers n o.ascends above;
        numbers = ap (λ (ns : List ℕ). ns ++ n ∷ []) o.numbers;
        count = let c = o.count in omega arith;
        most = let r = ap (λ r. r.items) l.2 in let m = o.most in omega arith;
        fits = fits_after (HasNamed v) t.recorder c o.fits fits;
        sets = o.sets;
      })

-- ---- what a load tells an encoder

abbrev pub Told : EncoderView → SeatView → Handle → Result (Unit {0}) Refusal → Type 0
Told e new h r = (word : ℕ) × HasAsked e.seat new (place_of_handle h) word × MatchResult r
    (λ _. is_usable_in e.seat.frame word h.serial ≡ true)
    (λ x. (is_usable_in e.seat.frame word h.serial ≡ false) × (x ≡ refusals.Stale word))

abbrev pub Named : EncoderView → SeatView → Handle → Result (Unit {0}) Refusal → Type 0
Named e new h r = (word : ℕ) × HasAsked e.seat new (place_of_handle h) word × MatchResult r
    (λ _. (is_usable_in e.recorder.frame word h.serial ≡ true) × HasNamed new h)
    (λ x. (is_usable_in e.recorder.frame word h.serial ≡ false) × (x ≡ refusals.Stale word))

pub name_told : (e : EncoderView) (new : SeatView) (h : Handle) (r : Result (Unit {0}) Refusal) → e.recorder.frame ≡ e.seat.frame → Told e new h r → Named e new h r
name_told e new h (Ok u) f told = (
  told.0,
  told.1,
  (ap (λ (n : ℕ). is_usable_in n told.0 h.serial) f ∙ told.2, subst (λ (v : SeatView). HasNamed v h) (sym told.1.0) (named_now e.seat.frame h e.seat.asked told.0 told.2)),
)
name_told e new h (Err x) f told = (told.0, told.1, (ap (λ (n : ℕ). is_usable_in n told.0 h.serial) f ∙ told.2.0, told.2.1))

-- ---- a second load

-- a word of the same beginning, told to the seat after it asked once
pub named_again : (v w : SeatView) (p n q : ℕ) (u : SeatView) (m : ℕ) → w ≡ asks p n v → HasAsked w u q m → IsWordSince v q m
named_again v w p n q u m e told = subst (λ (x : SeatView). IsWordSince x q m) e told.1

-- what was named before is named still
pub still_named : (v w : SeatView) (p n : ℕ) (h : Handle) → w ≡ asks p n v → HasNamed v h → HasNamed w h
still_named v w p n h e named = subst (λ (x : SeatView). HasNamed x h) (sym e) (named_more v.frame h v.asked (record { place = p; word = n } ∷ []) named)

-- the test of a word by the frame of a recorder
abbrev pub is_usable_of : calls.Recorder → ℕ → Handle → Bool
is_usable_of e word h = is_usable_in e.frame word h.serial
