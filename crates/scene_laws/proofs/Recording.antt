-- The handles in what an encoder records are of things that are there.
use Rattle.std.proofs.Common.{◌≡◌, ℕ, zero, suc, ◌==◌, Bool, true, false, not, ◌&&◌, if◌then◌else◌, List, [], ◌∷◌, ◌++◌, map, fold, Option, Some, None, Ok, Err, refl, sym, ap, ◌∙◌, subst, option_map, slice_index_or, slice_set}
use Rattle.std.specs.List.{AllByRecursion}
use Rattle.std.specs.Option.{option_and_then}
use Rattle.std.proofs.lemmas.Option.{same_Some, none-some}
use Rattle.gfx_model.specs.Number.{is_bit_set}
use Rattle.gfx_model.specs.Words.{Kind, layout_kind, vertex_buffer_kind, index_buffer_kind, texture_kind, program_kind, uniform_kind, is_kind, Format, rgba8, is_rgba8, UniformValue, Info, Handle}
use Rattle.gfx_model.specs.World.{VertexSet, no_vertices, stored_vertices, transient_vertices, IndexSet, no_indices, stored_indices, transient_indices, UniformSet, Item, draw_item, touch_item, blit_item}
use Rattle.gfx_model.specs.Resources.{Refusal, first_refusal, or_refusal, Resources, word_of}
use Rattle.gfx_model.specs.Recorder.{Room, DrawState, Recorder, begun, plain_state, discarded, format_in, format_of, is_rgba8_option, same_formats, takes_value, EncoderCall, set_state, set_stencil, set_scissor, set_transform, set_vertices, set_indices, set_transient_vertices, set_transient_indices, set_texture, set_uniform, submit, touch, blit, refusals, asked, after, answer}
use Rattle.call_laws.specs.Context.{HasThere, HasVertices, HasIndices, HasTexture, HasValues, HasItem}
use Rattle.resource_laws.specs.Lawful.{IsLawful}
use Rattle.resource_laws.proofs.AttachLaws.{all_snoc, all_more}
use Rattle.resource_laws.proofs.CallLaws.{all_passed}
use Rattle.resource_laws.proofs.DeathLaws.{and_parts}
use Rattle.scene_model.specs.Scene.{Name, EncoderLine, state_line, stencil_line, scissor_line, transform_line, vertices_line, indices_line, transient_vertices_line, transient_indices_line, bind_line, set_line, submit_line, touch_line, blit_line, Block, SceneFrame, Scene, views_of}
use Rattle.scene_model.specs.Fold.{Progress, thing_named, option_named, blit_call, encoder_call, Recording, recording_after, after_encoder_call, after_encoder_line, lines_of, recording_of}
use Rattle.scene_laws.proofs.Moves.{Stays}
use Rattle.scene_laws.proofs.Accepting.{IsGiven, ThingsGiven}
use Rattle.scene_laws.proofs.Lines.{Known, GivenOption, thing_given, option_given, NamesGiven, all_set}
use Rattle.scene_laws.proofs.Usable.{kind_same, not_true, there_by}

-- ---- what an encoder has

-- all that an encoder has recorded names what is there
pub record HasRecorder (r : Resources) (e : Recorder) : Type 0 where
  pub frame : e.frame ≡ r.frame
  pub vertices : HasVertices r e.current.vertices
  pub indices : HasIndices r e.current.indices
  pub textures : AllByRecursion (HasTexture r) e.current.textures
  pub pending : HasValues r e.pending
  pub items : AllByRecursion (HasItem r) e.items

vertices_if : (r : Resources) (b : Bool) (v : VertexSet) → HasVertices r v → HasVertices r (if b then no_vertices else v)
vertices_if r true v h = tt
vertices_if r false v h = h

indices_if : (r : Resources) (b : Bool) (v : IndexSet) → HasIndices r v → HasIndices r (if b then no_indices else v)
indices_if r true v h = tt
indices_if r false v h = h

textures_if : (r : Resources) (b : Bool) (ts : List (Option Handle)) → AllByRecursion (HasTexture r) ts → AllByRecursion (HasTexture r) (if b then None ∷ None ∷ [] else ts)
textures_if r true ts h = (tt, (tt, tt))
textures_if r false ts h = h

-- ---- formats

colored : (f : Format) → is_rgba8 f ≡ true → f ≡ rgba8
colored rgba8 e = refl
colored Rattle.gfx_model.specs.Words.d24s8 e = absurd cc

some_colored : (o : Option Format) → is_rgba8_option o ≡ true → o ≡ Some rgba8
some_colored None e = absurd cc
some_colored (Some f) e = ap (λ (g : Format). Some g) (colored f e)

texture_by : (h : Handle) (f : Format) → format_of h ≡ Some f → is_kind h.kind texture_kind ≡ true
texture_by h f e = step (is_kind h.kind texture_kind) e
  where
    step : (b : Bool) → (if b then format_in h.info else None) ≡ Some f → b ≡ true
    step true q = refl
    step false q = absurd (none-some f q)

both_textures : (o p : Option Format) → same_formats o p ≡ true → ((f : Format) × (o ≡ Some f)) × ((g : Format) × (p ≡ Some g))
both_textures None p e = absurd cc
both_textures (Some f) None e = absurd cc
both_textures (Some f) (Some g) e = ((f, refl), (g, refl))

true_not : (b : Bool) → b ≡ true → not b ≡ false
true_not true e = refl
true_not false e = absurd cc

-- ---- calls

-- an encoder after a call without a handle, or after one whose handles are there
module _ (given : ℕ → Handle) (r : Resources) (l : IsLawful r) (things : ThingsGiven given r.things) (e : Recorder) (has : HasRecorder r e) where
  -- a handle of a kind whose word is usable in the encoder's frame
  there : (k : Kind) (h : Handle) → IsGiven given h → not (is_kind h.kind k) ≡ false → not (Rattle.gfx_model.specs.Words.is_usable_in e.frame (word_of r h) h.serial) ≡ false → HasThere r k h
  there k h own kind usable = there_by given r k h l things own kind (ap (λ n. not (Rattle.gfx_model.specs.Words.is_usable_in n (word_of r h) h.serial)) (sym has.frame) ∙ usable)

  with_texture : (stage : ℕ) (o : Option Handle) → HasTexture r o → HasRecorder r (after e (set_texture stage o))
  with_texture stage o h = record { frame = has.frame; vertices = has.vertices; indices = has.indices; textures = all_set (HasTexture r) e.current.textures stage o has.textures h; pending = has.pending; items = has.items }

  pub has_after : (c : EncoderCall) → AllByRecursion (IsGiven given) (asked c) → AllByRecursion (λ t. t.0 ≡ false) (refusals e (map (word_of r) (asked c)) c) → HasRecorder r (after e c)
  has_after (set_state word) own p = record { frame = has.frame; vertices = has.vertices; indices = has.indices; textures = has.textures; pending = has.pending; items = has.items }
  has_after (set_stencil front back) own p = record { frame = has.frame; vertices = has.vertices; indices = has.indices; textures = has.textures; pending = has.pending; items = has.items }
  has_after (set_scissor rect) own p = record { frame = has.frame; vertices = has.vertices; indices = has.indices; textures = has.textures; pending = has.pending; items = has.items }
  has_after (set_transform model) own p = record { frame = has.frame; vertices = has.vertices; indices = has.indices; textures = has.textures; pending = has.pending; items = has.items }
  has_after (set_vertices h first count) own p = record { frame = has.frame; vertices = there vertex_buffer_kind h own.0 p.0 p.1.0; indices = has.indices; textures = has.textures; pending = has.pending; items = has.items }
  has_after (set_indices h first count) own p = record { frame = has.frame; vertices = has.vertices; indices = there index_buffer_kind h own.0 p.0 p.1.0; textures = has.textures; pending = has.pending; items = has.items }
  has_after (set_transient_vertices h bytes) own p = record { frame = has.frame; vertices = there layout_kind h own.0 p.0 p.1.0; indices = has.indices; textures = has.textures; pending = has.pending; items = has.items }
  has_after (set_transient_indices bytes) own p = record { frame = has.frame; vertices = has.vertices; indices = tt; textures = has.textures; pending = has.pending; items = has.items }
  has_after (set_texture stage None) own p = with_texture stage None tt
  has_after (set_texture stage (Some h)) own p =
      let color : format_of h ≡ Some rgba8 = some_colored (format_of h) (not_true (is_rgba8_option (format_of h)) p.0) in
      with_texture stage (Some h) (there texture_kind h own.0 (true_not (is_kind h.kind texture_kind) (texture_by h rgba8 color)) p.1.0, color)
  has_after (set_uniform h v) own p =
      let kind : is_kind h.kind uniform_kind ≡ true = (and_parts (is_kind h.kind uniform_kind) (takes_value h.info v) (not_true (is_kind h.kind uniform_kind && takes_value h.info v) p.0)).0 in
      record {
        frame = has.frame;
        vertices = has.vertices;
        indices = has.indices;
        textures = has.textures;
        pending = all_snoc (λ (s : UniformSet). HasThere r uniform_kind s.uniform) e.pending (record { uniform = h; value = v }) has.pending (there uniform_kind h own.0 (true_not (is_kind h.kind uniform_kind) kind) p.1.0);
        items = has.items;
      }
  has_after (submit v h depth flags) own p =
      let program : HasThere r program_kind h = there program_kind h own.0 p.1.0 p.1.1.0 in
      record {
        frame = has.frame;
        vertices = vertices_if r (is_bit_set flags 5) e.current.vertices has.vertices;
        indices = indices_if r (is_bit_set flags 1) e.current.indices has.indices;
        textures = textures_if r (is_bit_set flags 0) e.current.textures has.textures;
        pending = tt;
        items = all_snoc (HasItem r) e.items (draw_item (Rattle.gfx_model.specs.Recorder.draw_of e v h depth)) has.items (program, has.pending, has.vertices, has.indices, has.textures);
      }
  has_after (touch v) own p = record {
    frame = has.frame;
    vertices = vertices_if r (is_bit_set 255 5) e.current.vertices has.vertices;
    indices = indices_if r (is_bit_set 255 1) e.current.indices has.indices;
    textures = textures_if r (is_bit_set 255 0) e.current.textures has.textures;
    pending = tt;
    items = all_snoc (HasItem r) e.items (touch_item (record { view = v; values = e.pending })) has.items has.pending;
  }
  has_after (blit b) own p =
      let formats = both_textures (format_of b.destination) (format_of b.source) (not_true (same_formats (format_of b.destination) (format_of b.source)) p.1.0) in
      let d : HasThere r texture_kind b.destination = there texture_kind b.destination own.0 (true_not (is_kind b.destination.kind texture_kind) (texture_by b.destination formats.0.0 formats.0.1)) p.1.1.0 in
      let s : HasThere r texture_kind b.source = there texture_kind b.source own.1.0 (true_not (is_kind b.source.kind texture_kind) (texture_by b.source formats.1.0 formats.1.1)) p.1.1.1.0 in
      record { frame = has.frame; vertices = has.vertices; indices = has.indices; textures = has.textures; pending = has.pending; items = all_snoc (HasItem r) e.items (blit_item b) has.items (d, s) }

-- ---- the handles that a line's call asks for

module _ (given : ℕ → Handle) (bs : Rattle.scene_model.specs.Fold.Bindings) (a : NamesGiven given bs) where
  abbrev AskedGiven : EncoderCall → Type 0
  AskedGiven c = AllByRecursion (IsGiven given) (asked c)

  plain : (c d : EncoderCall) → AskedGiven c → Some c ≡ Some d → AskedGiven d
  plain c d h e = subst AskedGiven (same_Some c d e) h

  by_name : (f : Handle → EncoderCall) → ((h : Handle) → IsGiven given h → AskedGiven (f h)) → (o : Option Handle) → ((h : Handle) → o ≡ Some h → IsGiven given h) → (c : EncoderCall) → option_map f o ≡ Some c → AskedGiven c
  by_name f g None own c e = absurd (none-some c e)
  by_name f g (Some h) own c e = plain (f h) c (g h (own h refl)) e

  one : (f : Handle → EncoderCall) → ((h : Handle) → IsGiven given h → AskedGiven (f h)) → (n : Name) (c : EncoderCall) → option_map f (thing_named bs n) ≡ Some c → AskedGiven c
  one f g n c e = by_name f g (thing_named bs n) (λ h. thing_given given bs n h a) c e

  bound : (stage : ℕ) (o : Option (Option Handle)) → ((d : Option Handle) → o ≡ Some d → GivenOption given d) → (c : EncoderCall) → option_map (set_texture stage) o ≡ Some c → AskedGiven c
  bound stage None own c e = absurd (none-some c e)
  bound stage (Some None) own c e = plain (set_texture stage None) c tt e
  bound stage (Some (Some h)) own c e = plain (set_texture stage (Some h)) c (own (Some h) refl, tt) e

  copied : (v dx dy sx sy w h : ℕ) (s : Name) (o : Option Handle) → ((d : Handle) → o ≡ Some d → IsGiven given d) → (c : EncoderCall) → option_and_then (λ dst. option_map (λ src. blit_call v dx dy sx sy w h dst src) (thing_named bs s)) o ≡ Some c → AskedGiven c
  copied v dx dy sx sy w h s None own c e = absurd (none-some c e)
  copied v dx dy sx sy w h s (Some d) own c e = one (λ src. blit_call v dx dy sx sy w h d src) (λ src given_src. (own d refl, (given_src, tt))) s c e

  pub asked_given : (line : EncoderLine) (c : EncoderCall) → encoder_call bs line ≡ Some c → AskedGiven c
  asked_given (state_line word) c e = plain (set_state word) c tt e
  asked_given (stencil_line front back) c e = plain (set_stencil front back) c tt e
  asked_given (scissor_line rect) c e = plain (set_scissor rect) c tt e
  asked_given (transform_line m) c e = plain (set_transform m) c tt e
  asked_given (vertices_line n first count) c e = one (λ h. set_vertices h first count) (λ h own. (own, tt)) n c e
  asked_given (indices_line n first count) c e = one (λ h. set_indices h first count) (λ h own. (own, tt)) n c e
  asked_given (transient_vertices_line n bytes) c e = one (λ h. set_transient_vertices h bytes) (λ h own. (own, tt)) n c e
  asked_given (transient_indices_line bytes) c e = plain (set_transient_indices bytes) c tt e
  asked_given (bind_line stage n) c e = bound stage (option_named bs n) (λ d. option_given given bs n d a) c e
  asked_given (set_line n v) c e = one (λ h. set_uniform h v) (λ h own. (own, tt)) n c e
  asked_given (submit_line v n depth flags) c e = one (λ h. submit v h depth flags) (λ h own. (own, tt)) n c e
  asked_given (touch_line v) c e = plain (touch v) c tt e
  asked_given (blit_line v d dx dy s sx sy w h) c e = copied v dx dy sx sy w h s (thing_named bs d) (λ x. thing_given given bs d x a) c e

-- ---- blocks

-- all that was recorded so far is there
abbrev pub HasRecording : Resources → Recording → Type 0
HasRecording r x = HasRecorder r x.recorder

module _ (given : ℕ → Handle) (p : Progress) (k : Known given p) where
  answered : (x : Recording) → HasRecording p.resources x → (c : EncoderCall) → AllByRecursion (IsGiven given) (asked c) → (o : Option Refusal) → first_refusal (refusals x.recorder (map (word_of p.resources) (asked c)) c) ≡ o
      → HasRecording p.resources (recording_after x (or_refusal (after x.recorder c) o))
  answered x has c own (Some refusal) e = has
  answered x has c own None e = has_after given p.resources k.lawful k.things x.recorder has c own (all_passed (refusals x.recorder (map (word_of p.resources) (asked c)) c) e)

  called : (x : Recording) → HasRecording p.resources x → (line : EncoderLine) (o : Option EncoderCall) → encoder_call p.bindings line ≡ o → HasRecording p.resources (after_encoder_call p.resources x o)
  called x has line None e = has
  called x has line (Some c) e = answered x has c (asked_given given p.bindings k.names line c e) (first_refusal (refusals x.recorder (map (word_of p.resources) (asked c)) c)) refl

  lines_have : (x : Recording) → HasRecording p.resources x → (lines : List EncoderLine) → HasRecording p.resources (fold (after_encoder_line p) x lines)
  lines_have x has [] = has
  lines_have x has (line ∷ rest) = lines_have (after_encoder_line p x line) (called x has line (encoder_call p.bindings line) refl) rest

  -- an encoder's items name what is there after the lines before the blocks
  pub block_has : (s : Scene) (number : ℕ) (f : SceneFrame) (e : ℕ) → number ≡ p.resources.frame → AllByRecursion (HasItem p.resources) (recording_of s number p f e).recorder.items
  block_has s number f e same =
      (lines_have (record { recorder = begun number (views_of s) s.room; dropped = 0 }) (record { frame = same; vertices = tt; indices = tt; textures = (tt, (tt, tt)); pending = tt; items = tt }) (lines_of e f.blocks)).items

-- ---- what is there stays there

module _ (r s : Resources) (stays : Stays r s) where
  vertices_stay : (v : VertexSet) → HasVertices r v → HasVertices s v
  vertices_stay no_vertices h = tt
  vertices_stay (stored_vertices b first count) h = stays vertex_buffer_kind b h
  vertices_stay (transient_vertices x bytes) h = stays layout_kind x h

  indices_stay : (v : IndexSet) → HasIndices r v → HasIndices s v
  indices_stay no_indices h = tt
  indices_stay (stored_indices b first count) h = stays index_buffer_kind b h
  indices_stay (transient_indices bytes) h = tt

  texture_stays : (o : Option Handle) → HasTexture r o → HasTexture s o
  texture_stays None h = tt
  texture_stays (Some t) h = (stays texture_kind t h.0, h.1)

  values_stay : (vs : List UniformSet) → HasValues r vs → HasValues s vs
  values_stay vs h = all_more (λ (v : UniformSet). HasThere r uniform_kind v.uniform) (λ (v : UniformSet). HasThere s uniform_kind v.uniform) (λ v q. stays uniform_kind v.uniform q) vs h

  pub item_stays : (i : Item) → HasItem r i → HasItem s i
  item_stays (draw_item d) h = (stays program_kind d.program h.0, values_stay d.values h.1, vertices_stay d.vertices h.2, indices_stay d.indices h.3, all_more (HasTexture r) (HasTexture s) texture_stays d.textures h.4)
  item_stays (touch_item t) h = values_stay t.values h
  item_stays (blit_item b) h = (stays texture_kind b.destination h.0, stays texture_kind b.source h.1)
