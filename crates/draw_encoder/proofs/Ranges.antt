-- What ranges say stays where bytes and values are added behind.
use Rattle.std.proofs.Common.{◌≡◌, ℕ, zero, suc, ◌+◌, ◌-◌, ◌≤◌, List, [], ◌∷◌, ◌++◌, take, drop, length, refl, ap, sym, ◌∙◌, subst, arith, length-append}
use Rattle.std.specs.List.{AllByRecursion}
use Rattle.std.proofs.lemmas.List.{map-append}
use Rattle.std.proofs.Math.Seq.{drop-append_seam}
use Rattle.schedule_model.proofs.Lists.{all-map, all-snoc}
use Rattle.gfx_model.specs.World as world
use Rattle.gfx_model.specs.Words.{Handle}
use Rattle.gfx_model.specs.Recorder as calls
use Rattle.gfx_words.specs.Seen.{value_seen}
use Rattle.gfx_words.specs.declared.rooms.Room.{Room}
use Rattle.draw_encoder.specs.declared.items.VertexSet.{VertexSet}
use Rattle.draw_encoder.specs.declared.items.VertexSet.TheVariants as vertices
use Rattle.draw_encoder.specs.declared.items.IndexSet.{IndexSet}
use Rattle.draw_encoder.specs.declared.items.IndexSet.TheVariants as indices
use Rattle.draw_encoder.specs.declared.items.UniformSet.{UniformSet}
use Rattle.draw_encoder.specs.declared.items.Item.{Item}
use Rattle.draw_encoder.specs.declared.items.Item.TheVariants as kinds
use Rattle.draw_encoder.specs.declared.states.DrawState.{DrawState}
use Rattle.draw_encoder.specs.Seen.{part, vertices_seen, indices_seen, uniform_seen, uniforms_seen, draw_seen, item_seen, items_seen, number_of, numbers_of, HasVerticesWithin, HasIndicesWithin, HasRangesWithin}
use Rattle.draw_encoder.specs.declared.items.DrawItem.{DrawItem}
use Rattle.draw_encoder.specs.States.{state_seen, drawn_with}
use Rattle.draw_encoder.specs.TapeViews.{with_call, with_set, with_item}
use Rattle.draw_encoder.specs.TapeLists.{tape_of, AreRanges}

-- ---- parts of a list

pub part_before : {A : Type 0} → (xs ys : List A) (at n : ℕ) → at + n ≤ length xs → part (xs ++ ys) at n ≡ part xs at n
part_before [] ys at zero h = refl
part_before [] ys at (suc n) h = absurd (omega arith)
part_before (x ∷ xs) ys zero zero h = refl
part_before {A} (x ∷ xs) ys zero (suc n) h = ap (λ (l : List A). x ∷ l) (part_before xs ys zero n (omega arith))
part_before (x ∷ xs) ys (suc at) n h = part_before xs ys at n (omega arith)

take_whole : {A : Type 0} → (xs : List A) → take (length xs) xs ≡ xs
take_whole [] = refl
take_whole {A} (x ∷ xs) = ap (λ (l : List A). x ∷ l) (take_whole xs)

pub part_new : {A : Type 0} → (xs ys : List A) → part (xs ++ ys) (length xs) (length ys) ≡ ys
part_new xs ys = ap (take (length ys)) (drop-append_seam xs ys) ∙ take_whole ys

pub drop_before : {A : Type 0} → (xs ys : List A) (at : ℕ) → at ≤ length xs → drop at (xs ++ ys) ≡ drop at xs ++ ys
drop_before xs ys zero h = refl
drop_before [] ys (suc at) h = absurd (omega arith)
drop_before (x ∷ xs) ys (suc at) h = drop_before xs ys at (omega arith)

pub part_rest : {A : Type 0} → (xs : List A) (at : ℕ) → at ≤ length xs → part xs at (length xs - at) ≡ drop at xs
part_rest xs zero h = ap (λ (n : ℕ). take n xs) (omega arith) ∙ take_whole xs
part_rest [] (suc at) h = absurd (omega arith)
part_rest (x ∷ xs) (suc at) h = ap (λ (n : ℕ). take n (drop at xs)) (omega arith) ∙ part_rest xs at (omega arith)

pub drop_whole : {A : Type 0} → (xs : List A) → drop (length xs) xs ≡ []
drop_whole [] = refl
drop_whole (x ∷ xs) = drop_whole xs

-- a longer list has the same parts where the other has them
abbrev pub Extends : {A : Type 0} → List A → List A → Type 0
Extends xs ys = (at n : ℕ) → at + n ≤ length xs → part ys at n ≡ part xs at n

pub extends_same : {A : Type 0} → (xs : List A) → Extends xs xs
extends_same xs at n h = refl

pub extends_by : {A : Type 0} → (xs more ys : List A) → ys ≡ xs ++ more → Extends xs ys
extends_by {A} xs more ys e at n h = ap (λ (l : List A). part l at n) e ∙ part_before xs more at n h

-- ---- what is seen with more bytes and values

vertices_more : (bytes all : List ℕ) → Extends bytes all → (v : VertexSet) → HasVerticesWithin (length bytes) v → vertices_seen all v ≡ vertices_seen bytes v
vertices_more bytes all e vertices.Unset h = refl
vertices_more bytes all e (vertices.Buffer buffer first count) h = refl
vertices_more bytes all e (vertices.Transient layout at count) h = ap (world.transient_vertices layout) (e at count h)

indices_more : (bytes all : List ℕ) → Extends bytes all → (v : IndexSet) → HasIndicesWithin (length bytes) v → indices_seen all v ≡ indices_seen bytes v
indices_more bytes all e indices.Unset h = refl
indices_more bytes all e (indices.Buffer buffer first count) h = refl
indices_more bytes all e (indices.Transient at count) h = ap world.transient_indices (e at count h)

item_more : (bytes all : List ℕ) (sets every : List UniformSet) → Extends bytes all → Extends sets every → (i : Item) → HasRangesWithin (length bytes) (length sets) i → item_seen all every i ≡ item_seen bytes sets i
item_more bytes all sets every e f (kinds.Draw d) h =
    let v = vertices_more bytes all e d.vertices h.0 in
    let x = indices_more bytes all e d.indices h.1 in
    let s = ap uniforms_seen (f d.values_at d.values h.2) in
    λ j. world.draw_item (record (draw_seen bytes sets d) { vertices = v j; indices = x j; values = s j })
item_more bytes all sets every e f (kinds.Touch t) h = let s = ap uniforms_seen (f t.values_at t.values h) in λ j. world.touch_item (record { view = t.view; values = s j })
item_more bytes all sets every e f (kinds.Blit b) h = refl

items_more : (bytes all : List ℕ) (sets every : List UniformSet) → Extends bytes all → Extends sets every → (items : List Item) → AllByRecursion (HasRangesWithin (length bytes) (length sets)) items
    → items_seen all every items ≡ items_seen bytes sets items
items_more bytes all sets every e f [] h = refl
items_more bytes all sets every e f (i ∷ is) h = λ j. item_more bytes all sets every e f i h.0 j ∷ items_more bytes all sets every e f is h.1 j

-- ---- ranges within longer lists

vertices_wider : (a b : ℕ) (v : VertexSet) → a ≤ b → HasVerticesWithin a v → HasVerticesWithin b v
vertices_wider a b vertices.Unset le h = tt
vertices_wider a b (vertices.Buffer buffer first count) le h = tt
vertices_wider a b (vertices.Transient layout at count) le h = omega arith

indices_wider : (a b : ℕ) (v : IndexSet) → a ≤ b → HasIndicesWithin a v → HasIndicesWithin b v
indices_wider a b indices.Unset le h = tt
indices_wider a b (indices.Buffer buffer first count) le h = tt
indices_wider a b (indices.Transient at count) le h = omega arith

item_wider : (a b m n : ℕ) → a ≤ b → m ≤ n → (i : Item) → HasRangesWithin a m i → HasRangesWithin b n i
item_wider a b m n le lf (kinds.Draw d) h = (vertices_wider a b d.vertices le h.0, indices_wider a b d.indices le h.1, (let k = h.2 in omega arith))
item_wider a b m n le lf (kinds.Touch t) h = omega arith
item_wider a b m n le lf (kinds.Blit t) h = tt

-- ---- the tape after a call

module _ (frame views : ℕ) (room : Room) (c : DrawState) (p : ℕ) (items : List Item) (bytes : List ℕ) (sets : List UniformSet) (r : AreRanges c p items bytes sets) where
  pub transient_vertices : (layout : Handle) (more all : List ℕ) (at count : ℕ) → all ≡ bytes ++ more → at ≡ length bytes → count ≡ length more
      → tape_of frame views room (record c { vertices = vertices.Transient layout at count }) p items all sets ≡ with_call (calls.set_transient_vertices layout more) (tape_of frame views room c p items bytes sets)
  transient_vertices layout more all at count e f g =
      let v = ap (world.transient_vertices layout) ((λ j. part (e j) (f j) (g j)) ∙ part_new bytes more) in
      let x = indices_more bytes all (extends_by bytes more all e) c.indices r.indices in
      let is = items_more bytes all sets sets (extends_by bytes more all e) (extends_same sets) items r.within in
      let n : length all ≡ length bytes + length more = ap length e ∙ length-append bytes more in
      let old = tape_of frame views room c p items bytes sets in
      λ j. record old { recorder = record old.recorder { current = record old.recorder.current { vertices = v j; indices = x j }; items = is j; used_bytes = n j } }

  pub transient_indices : (more all : List ℕ) (at count : ℕ) → all ≡ bytes ++ more → at ≡ length bytes → count ≡ length more
      → tape_of frame views room (record c { indices = indices.Transient at count }) p items all sets ≡ with_call (calls.set_transient_indices more) (tape_of frame views room c p items bytes sets)
  transient_indices more all at count e f g =
      let x = ap world.transient_indices ((λ j. part (e j) (f j) (g j)) ∙ part_new bytes more) in
      let v = vertices_more bytes all (extends_by bytes more all e) c.vertices r.vertices in
      let is = items_more bytes all sets sets (extends_by bytes more all e) (extends_same sets) items r.within in
      let n : length all ≡ length bytes + length more = ap length e ∙ length-append bytes more in
      let old = tape_of frame views room c p items bytes sets in
      λ j. record old { recorder = record old.recorder { current = record old.recorder.current { vertices = v j; indices = x j }; items = is j; used_bytes = n j } }

  pub value_set : (s : UniformSet) (every : List UniformSet) → every ≡ sets ++ s ∷ []
      → tape_of frame views room c p items bytes every ≡ with_set (uniform_seen s) (calls.set_uniform s.uniform (value_seen s.value)) (tape_of frame views room c p items bytes sets)
  value_set s every e =
      let left = ap (λ l. uniforms_seen (drop p l)) e ∙ ap uniforms_seen (drop_before sets (s ∷ []) p r.pending) ∙ map-append uniform_seen (drop p sets) (s ∷ []) in
      let is = items_more bytes bytes sets every (extends_same bytes) (extends_by sets (s ∷ []) every e) items r.within in
      let seen = ap uniforms_seen e ∙ map-append uniform_seen sets (s ∷ []) in
      let n : length every ≡ length sets + 1 = ap length e ∙ length-append sets (s ∷ []) in
      let old = tape_of frame views room c p items bytes sets in
      λ j. record old { recorder = record old.recorder { pending = left j; items = is j; used_uniforms = n j }; sets = seen j }

  -- ranges that stay

  pub more_bytes : (d : DrawState) (more all : List ℕ) → all ≡ bytes ++ more → HasVerticesWithin (length all) d.vertices → HasIndicesWithin (length all) d.indices → AreRanges d p items all sets
  more_bytes d more all e v x =
      let n : length all ≡ length bytes + length more = ap length e ∙ length-append bytes more in record {
        pending = r.pending;
        vertices = v;
        indices = x;
        within = all-map (HasRangesWithin (length bytes) (length sets)) (HasRangesWithin (length all) (length sets)) (item_wider (length bytes) (length all) (length sets) (length sets) (omega arith) (omega arith)) items r.within;
      }

  pub more_values : (s : UniformSet) (every : List UniformSet) → every ≡ sets ++ s ∷ [] → AreRanges c p items bytes every
  more_values s every e =
      let n : length every ≡ length sets + 1 = ap length e ∙ length-append sets (s ∷ []) in record {
        pending = (let l = r.pending in omega arith);
        vertices = r.vertices;
        indices = r.indices;
        within = all-map (HasRangesWithin (length bytes) (length sets)) (HasRangesWithin (length bytes) (length every)) (item_wider (length bytes) (length bytes) (length sets) (length every) (omega arith) (omega arith)) items r.within;
      }

  pub more_items : (d : DrawState) (q : ℕ) (i : Item) (many : List Item) → many ≡ items ++ i ∷ [] → q ≤ length sets → HasVerticesWithin (length bytes) d.vertices → HasIndicesWithin (length bytes) d.indices → HasRangesWithin (length bytes) (length sets) i → AreRanges d q many bytes sets
  more_items d q i many e le v x h = record {
    pending = le;
    vertices = v;
    indices = x;
    within = subst (AllByRecursion (HasRangesWithin (length bytes) (length sets))) (sym e) (all-snoc (HasRangesWithin (length bytes) (length sets)) items i r.within h);
  }

  pub wider_vertices : (more all : List ℕ) → all ≡ bytes ++ more → HasVerticesWithin (length all) c.vertices
  wider_vertices more all e = let n : length all ≡ length bytes + length more = ap length e ∙ length-append bytes more in vertices_wider (length bytes) (length all) c.vertices (omega arith) r.vertices

  pub wider_indices : (more all : List ℕ) → all ≡ bytes ++ more → HasIndicesWithin (length all) c.indices
  wider_indices more all e = let n : length all ≡ length bytes + length more = ap length e ∙ length-append bytes more in indices_wider (length bytes) (length all) c.indices (omega arith) r.indices

  -- an item is added, and the pending values are taken

  taken : (q : ℕ) → q ≡ length sets → uniforms_seen (part sets p (q - p)) ≡ uniforms_seen (drop p sets)
  taken q e = ap (λ (n : ℕ). uniforms_seen (part sets p (n - p))) e ∙ ap uniforms_seen (part_rest sets p r.pending)

  none_left : (q : ℕ) → q ≡ length sets → uniforms_seen (drop q sets) ≡ []
  none_left q e = ap (λ (n : ℕ). uniforms_seen (drop n sets)) e ∙ ap uniforms_seen (drop_whole sets)

  seen_added : (i : Item) (x : world.Item) (many : List Item) → many ≡ items ++ i ∷ [] → item_seen bytes sets i ≡ x → items_seen bytes sets many ≡ items_seen bytes sets items ++ x ∷ []
  seen_added i x many e is = ap (items_seen bytes sets) e ∙ map-append (item_seen bytes sets) items (i ∷ []) ∙ ap (λ y. items_seen bytes sets items ++ y ∷ []) is

  number_added : (i : Item) (n : ℕ) (many : List Item) → many ≡ items ++ i ∷ [] → number_of i ≡ n → numbers_of many ≡ numbers_of items ++ n ∷ []
  number_added i n many e is = ap numbers_of e ∙ map-append number_of items (i ∷ []) ∙ ap (λ (m : ℕ). numbers_of items ++ m ∷ []) is

  pub submitted : (d : DrawState) (n v : ℕ) (h : Handle) (depth flags q : ℕ) (i : DrawItem) (many : List Item) → many ≡ items ++ kinds.Draw i ∷ [] → i ≡ drawn_with c v n h depth p (q - p) → q ≡ length sets
      → ((bs : List ℕ) → state_seen bs d ≡ calls.discarded flags (state_seen bs c))
      → tape_of frame views room d q many bytes sets ≡ with_item n (calls.submit v h depth flags) (tape_of frame views room c p items bytes sets)
  submitted d n v h depth flags q i many e is q_is reset =
      let old = tape_of frame views room c p items bytes sets in
      let s = taken q q_is in
      let draw : item_seen bytes sets (kinds.Draw i) ≡ world.draw_item (calls.draw_of old.recorder v h depth) =
      ap (λ k. item_seen bytes sets (kinds.Draw k)) is ∙ (λ j. world.draw_item (record (calls.draw_of old.recorder v h depth) { values = s j })) in
      let now = reset bytes in
      let left = none_left q q_is in
      let all = seen_added (kinds.Draw i) (world.draw_item (calls.draw_of old.recorder v h depth)) many e draw in
      let numbers = number_added (kinds.Draw i) n many e (ap (λ k. k.number) is) in
      λ j. record old { recorder = record old.recorder { current = now j; pending = left j; items = all j }; numbers = numbers j }

  pub touched : (d : DrawState) (n v q : ℕ) (many : List Item) → many ≡ items ++ kinds.Touch (record { view = v; number = n; values_at = p; values = q - p }) ∷ [] → q ≡ length sets
      → ((bs : List ℕ) → state_seen bs d ≡ calls.discarded 255 (state_seen bs c))
      → tape_of frame views room d q many bytes sets ≡ with_item n (calls.touch v) (tape_of frame views room c p items bytes sets)
  touched d n v q many e q_is reset =
      let old = tape_of frame views room c p items bytes sets in
      let i = kinds.Touch (record { view = v; number = n; values_at = p; values = q - p }) in
      let s = taken q q_is in
      let now = reset bytes in
      let left = none_left q q_is in
      let all = seen_added i (world.touch_item (record { view = v; values = old.recorder.pending })) many e (λ j. world.touch_item (record { view = v; values = s j })) in
      let numbers = number_added i n many e refl in
      λ j. record old { recorder = record old.recorder { current = now j; pending = left j; items = all j }; numbers = numbers j }
