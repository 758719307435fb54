-- A bundle more is gathered.
use Rattle.std.proofs.Common.{◌≡◌, ℕ, ◌+◌, ◌<◌, ◌≤◌, List, [], ◌∷◌, ◌++◌, length, ap, ◌∙◌, sym, arith, subst, length-append, append-nil, slice_index_or, take}
use Rattle.std.proofs.lemmas.List.Concat.{flat_map-append}
use Rattle.std.proofs.lemmas.List.{take_more}
use Rattle.std.proofs.lemmas.List.Sums.{sum_by-append, sum_by-cons}
use Rattle.schedule_model.proofs.Lists.{all-map, all-snoc}
use Rattle.gfx_model.specs.Words.{Handle}
use Rattle.gfx_model.specs.World.{Item}
use Rattle.schedule_model.specs.Held.{count_of}
use Rattle.hold_table.specs.Views.{SeatView, without, more, joined_with, HasNamed}
use Rattle.hold_table.proofs.Keeps.{count_without, length_without}
use Rattle.hold_table.specs.declared.table.EncSeat.{EncSeat}
use Rattle.hold_table.specs.Seats.{enc_view}
use Rattle.draw_encoder.specs.declared.items.Recording.{Recording}
use Rattle.draw_encoder.specs.Seen.{numbers_of, uniforms_seen}
use Rattle.draw_encoder.specs.Names.{FitsItem}
use Rattle.draw_encoder.specs.Bundles.{items_of, BelongTogether}
use Rattle.draw_encoder.proofs.NameLaws.{item_fits, uniforms_fit}
use Rattle.frame_record.specs.Kept.{numbers_in}
use Rattle.atomic_table.specs.Seated.{TableId}
use Rattle.context_core.specs.Places.{IsUsable}
use Rattle.context_core.specs.States.{CoreState, CoreView, core_of}
use Rattle.context_core.specs.Ended.{Gathers}
use Rattle.context_core.specs.Gathered.{encoders_in, IsCollected, AreCollected, AreGathered, with_gathered, dropped_in}

pub numbers_snoc : (rs : List Recording) (r : Recording) → numbers_in (rs ++ r ∷ []) ≡ numbers_in rs ++ numbers_of r.items
numbers_snoc rs r = flat_map-append (λ x. numbers_of x.items) rs (r ∷ []) ∙ ap (λ l. numbers_in rs ++ l) (append-nil (numbers_of r.items))

pub encoders_snoc : (e : ℕ) (rs : List Recording) (r : Recording) → count_of e (encoders_in (rs ++ r ∷ [])) ≡ count_of e (encoders_in rs) + count_of e (r.encoder ∷ [])
encoders_snoc e [] r = omega arith
encoders_snoc e (x ∷ xs) r = let h = encoders_snoc e xs r in omega arith

-- ---- the bundle that was joined

pub collected_now : (admits : ℕ → ℕ → List Item → ℕ → Type 0) (views : ℕ) (v : SeatView) (r : Recording) (seat : EncSeat) → BelongTogether views r seat → (enc_view seat).frame ≡ v.frame
    → ((h : Handle) → HasNamed (enc_view seat) h → IsUsable v.frame v.places h) → admits r.encoder r.frame (items_of r) r.dropped → IsCollected admits views v.frame v.places r
collected_now admits views v r seat b e there a =
    let frame : r.frame ≡ v.frame = b.frame ∙ e in
    record {
      admitted = subst (λ f. admits r.encoder f (items_of r) r.dropped) frame a;
      frame_is = frame;
      few = b.few;
      ascends = b.ascends;
      within = b.within;
      items = all-map (FitsItem (HasNamed (enc_view seat)) views) (FitsItem (IsUsable v.frame v.places) views) (item_fits (HasNamed (enc_view seat)) (IsUsable v.frame v.places) there views) (items_of r) b.items;
      uniforms = uniforms_fit (HasNamed (enc_view seat)) (IsUsable v.frame v.places) there (uniforms_seen r.uniforms) b.uniforms;
    }

more_most : (ns : List ℕ) (n : ℕ) → more ns n ≤ n + 1
more_most [] n = omega arith
more_most (x ∷ xs) n = omega arith

module _ (admits : ℕ → ℕ → List Item → ℕ → Type 0) (views : ℕ) (v new : SeatView) (r : Recording) (seat : EncSeat) (is : new ≡ joined_with v (enc_view seat)) (b : BelongTogether views r seat) (frame : (enc_view seat).frame ≡ v.frame)
    (off : count_of (enc_view seat).encoder v.off ≡ 1) (named : (h : Handle) → HasNamed (enc_view seat) h → IsUsable v.frame v.places h) (admitted : admits r.encoder r.frame (items_of r) r.dropped)
    (apart : (n : ℕ) → count_of n new.numbers ≤ 1) (most : length new.numbers ≤ 65528) where
  pub gathered_more : (begun : ℕ) (rs : List Recording) → AreGathered admits views v begun rs → AreGathered admits views new begun (rs ++ r ∷ [])
  gathered_more begun rs g =
      let w = enc_view seat in
      let off_now : new.off ≡ without w.encoder v.off = ap (λ (x : SeatView). x.off) is in
      let shorter = length_without w.encoder v.off (omega arith) in
      record {
        count = (let a = ap length off_now in let c = g.count in let d = length-append rs (r ∷ []) in omega arith);
        once = (λ e.
            let a = encoders_snoc e rs r in
            let c = count_without e w.encoder v.off (omega arith) in
            let d = ap (count_of e) off_now in
            let f = ap (λ (x : ℕ). count_of e (x ∷ [])) b.encoder in
            let h = g.once e in omega arith);
        joined = (let a = ap (λ (x : SeatView). x.joined) is in let c = more_most w.numbers v.joined in let d = g.joined in let f = length-append rs (r ∷ []) in omega arith);
        numbers = ap (λ (x : SeatView). x.numbers) is ∙ (λ j. g.numbers j ++ sym b.numbers j) ∙ sym (numbers_snoc rs r);
        apart = apart;
        most = most;
        collected = subst (λ (x : SeatView). AreCollected admits views x.frame x.places (rs ++ r ∷ [])) (sym is)
            (all-snoc (IsCollected admits views v.frame v.places) rs r g.collected (collected_now admits views v r seat b frame named admitted));
      }

-- a join leaves all else as it was
pub same_joined : (old new : SeatView) (seat : EncSeat) → new ≡ joined_with old (enc_view seat) → new ≡ with_gathered new old
same_joined old new seat is = is ∙ (λ j. with_gathered (sym is j) old)

-- one encoder fewer is off
pub fewer_off : (old new : SeatView) (seat : EncSeat) → new ≡ joined_with old (enc_view seat) → count_of (enc_view seat).encoder old.off ≡ 1 → length new.off + 1 ≡ length old.off
fewer_off old new seat is off =
    let now = ap (λ (x : SeatView). length x.off) is in
    let shorter = length_without (enc_view seat).encoder old.off (omega (arith, off)) in
    omega (arith, now, shorter)

pub gathers_told : (t u : TableId) (v : CoreState) (s : SeatView) (rs : List Recording) (r : Recording) (seat : EncSeat) → s ≡ joined_with v.seat (enc_view seat) → rs ≡ v.gathered ++ r ∷ [] → count_of (enc_view seat).encoder v.seat.off ≡ 1
    → (old : CoreView) → core_of t v ≡ old → u ≡ old.table → Gathers r (enc_view seat) old (core_of u (record v { seat = s; gathered = rs }))
gathers_told t u v s rs r seat is kept off old e same = record {
  was_off = subst (λ (o : CoreView). count_of (enc_view seat).encoder o.state.seat.off ≡ 1) e off;
  fewer = subst (λ (o : CoreView). length s.off + 1 ≡ length o.state.seat.off) e (fewer_off v.seat s seat is off);
  after = (λ j. core_of (same j) (record v { seat = is j; gathered = kept j })) ∙ ap (λ (o : CoreView). core_of old.table (record o.state { seat = joined_with o.state.seat (enc_view seat); gathered = o.state.gathered ++ r ∷ [] })) e;
}

-- ---- the numbers that encoders ended with

pub dropped_more : (rs : List Recording) (i : ℕ) (r : Recording) → i < length rs → r ≡ slice_index_or rs i r → dropped_in (take (i + 1) rs) ≡ dropped_in (take i rs) + r.dropped
dropped_more rs i r lt e =
    let last = sum_by-cons (λ x. x.dropped) r [] in
    ap dropped_in (take_more rs i r lt ∙ (λ j. take i rs ++ sym e j ∷ []))
    ∙ sum_by-append (λ x. x.dropped) (take i rs) (r ∷ [])
    ∙ ap (λ n. dropped_in (take i rs) + n) (omega (arith, last))
