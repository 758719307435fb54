-- A context is shut down.
use Rattle.std.proofs.Common.{◌≡◌, ℕ, ◌≤◌, List, [], ◌∷◌, ◌++◌, length, Option, Some, None, refl, sym, ap, ◌∙◌, arith, append_assoc, append-nil}
use Rattle.gfx_model.specs.World.{Item}
use Rattle.hold_table.specs.Views.{SeatView}
use Rattle.frame_record.specs.declared.frame.Frame.{Frame}
use Rattle.frame_record.specs.declared.frame.RenderedFrame.{RenderedFrame}
use Rattle.frame_record.specs.Links.{frames_of, out_of}
use Rattle.std.proofs.lemmas.List.{drop_all}
use Rattle.gfx_context.specs.declared.report.BackNote.{BackNote}
use Rattle.context_core.specs.Gathered.{with_gathered}
use Rattle.gfx_context.specs.Kept.{AreOut}
use Rattle.gfx_context.specs.States.{ContextView}
use Rattle.gfx_context.specs.Ended.{Collects, notes_of, TakesNext, Closes}

module _ {L : Type 0} where
  -- what a step leaves
  pub record IsSame (a b : ContextView L) : Type 0 where
    pub given : b.given ≡ a.given
    pub seat : b.seat ≡ a.seat
    pub book : b.book ≡ a.book

  leaves : (note : Option BackNote) (a b : ContextView L) → TakesNext note a b → IsSame a b
  leaves None a b t = record { given = ap (λ (c : ContextView L). c.given) t.1; seat = ap (λ (c : ContextView L). c.seat) t.1; book = ap (λ (c : ContextView L). c.book) t.1 }
  leaves (Some n) a b t = record { given = ap (λ (c : ContextView L). c.given) t.2; seat = ap (λ (c : ContextView L). c.seat) t.2; book = ap (λ (c : ContextView L). c.book) t.2 }

  -- the frames that came back in some steps, after which none is out
  pub record HaveCome (a b : ContextView L) (notes : List (Option BackNote)) : Type 0 where
    pub came : List RenderedFrame
    pub back : b.back ≡ a.back ++ came
    pub many : length came ≡ a.out
    pub none : b.out ≡ 0
    pub notes_are : notes ≡ notes_of came

  same_out : (a b : ContextView L) → b ≡ a → a.out ≡ 0 → b.out ≡ 0
  same_out a b e z = ap (λ (c : ContextView L). c.out) e ∙ z

  same_back : (a b : ContextView L) → b ≡ a → b.back ≡ a.back
  same_back a b e = ap (λ (c : ContextView L). c.back) e

  three : (m n o : Option BackNote) (a b c d : ContextView L) → a.out ≤ 3 → TakesNext m a b → TakesNext n b c → TakesNext o c d → HaveCome a d (m ∷ n ∷ o ∷ [])
  three None None None a b c d le s t u =
      let bz = same_out a b s.1 s.0 in
      let cz = same_out b c t.1 bz in
      record { came = []; back = same_back c d u.1 ∙ same_back b c t.1 ∙ same_back a b s.1 ∙ sym (append-nil a.back); many = sym s.0; none = same_out c d u.1 cz; notes_are = refl }
  three None None (Some o) a b c d le s t u = absurd (let bz = same_out a b s.1 s.0 in let cz = same_out b c t.1 bz in let e = u.1 in omega (arith, cz, e))
  three None (Some n) o a b c d le s t u = absurd (let bz = same_out a b s.1 s.0 in let e = t.1 in omega (arith, bz, e))
  three (Some m) None None a b c d le s t u =
      let cz = same_out b c t.1 t.0 in
      record {
        came = s.0.rendered ∷ [];
        back = same_back c d u.1 ∙ same_back b c t.1 ∙ s.0.oldest.back;
        many = (let e = s.1 in let z = t.0 in omega (arith, e, z));
        none = same_out c d u.1 cz;
        notes_are = (λ j. Some (s.0.note j) ∷ None ∷ None ∷ []);
      }
  three (Some m) None (Some o) a b c d le s t u = absurd (let cz = same_out b c t.1 t.0 in let e = u.1 in omega (arith, cz, e))
  three (Some m) (Some n) None a b c d le s t u = record {
    came = s.0.rendered ∷ t.0.rendered ∷ [];
    back = same_back c d u.1 ∙ t.0.oldest.back ∙ ap (λ l. l ++ t.0.rendered ∷ []) s.0.oldest.back ∙ append_assoc a.back (s.0.rendered ∷ []) (t.0.rendered ∷ []);
    many = (let e = s.1 in let f = t.1 in let z = u.0 in omega (arith, e, f, z));
    none = same_out c d u.1 u.0;
    notes_are = (λ j. Some (s.0.note j) ∷ Some (t.0.note j) ∷ None ∷ []);
  }
  three (Some m) (Some n) (Some o) a b c d le s t u = record {
    came = s.0.rendered ∷ t.0.rendered ∷ u.0.rendered ∷ [];
    back = u.0.oldest.back ∙ ap (λ l. l ++ u.0.rendered ∷ []) (t.0.oldest.back ∙ ap (λ l. l ++ t.0.rendered ∷ []) s.0.oldest.back ∙ append_assoc a.back (s.0.rendered ∷ []) (t.0.rendered ∷ []))
        ∙ append_assoc a.back (s.0.rendered ∷ t.0.rendered ∷ []) (u.0.rendered ∷ []);
    many = (let e = s.1 in let f = t.1 in let h = u.1 in omega (arith, e, f, h, le));
    none = (let e = s.1 in let f = t.1 in let h = u.1 in omega (arith, e, f, h, le));
    notes_are = (λ j. Some (s.0.note j) ∷ Some (t.0.note j) ∷ Some (u.0.note j) ∷ []);
  }

  all_back : (admits : ℕ → ℕ → List Item → ℕ → Type 0) (views : ℕ) (v : ContextView L) → AreOut admits views v.seat.places v.seat.frame v.out v.given v.back → v.out ≡ 0 → v.given ≡ frames_of v.back
  all_back admits views v k z =
      let outs : out_of v.given v.back ≡ [] = drop_all (length v.back) v.given (let m = k.counted in omega (arith, m, z)) in
      k.prefix ∙ ap (λ l. frames_of v.back ++ l) outs ∙ append-nil (frames_of v.back)

  module _ (admits : ℕ → ℕ → List Item → ℕ → Type 0) (views : ℕ) (old a b c d v : ContextView L) (m n o : Option BackNote) (collects : Collects admits views old a) (most : a.out ≤ 3) (s : TakesNext m a b) (t : TakesNext n b c) (u : TakesNext o c d)
      (k : AreOut admits views v.seat.places v.seat.frame v.out v.given v.back) (is : v ≡ d) where
    come : HaveCome a d (m ∷ n ∷ o ∷ [])
    come = three m n o a b c d most s t u

    seat_same : d.seat ≡ a.seat
    seat_same = (leaves o c d u).seat ∙ (leaves n b c t).seat ∙ (leaves m a b s).seat

    closes_here : Closes old v.given v.back v.seat (m ∷ n ∷ o ∷ [])
    closes_here =
        let first = collects.same in
        let seat : v.seat ≡ a.seat = ap (λ (x : ContextView L). x.seat) is ∙ seat_same in
        record {
          came = come.came;
          given_is = ap (λ (x : ContextView L). x.given) is ∙ (leaves o c d u).given ∙ (leaves n b c t).given ∙ (leaves m a b s).given ∙ ap (λ (x : ContextView L). x.given) first;
          back_is = ap (λ (x : ContextView L). x.back) is ∙ come.back ∙ ap (λ (x : ContextView L). x.back ++ come.came) first;
          many = come.many ∙ ap (λ (x : ContextView L). x.out) first;
          unchanged = all_back admits views v k (ap (λ (x : ContextView L). x.out) is ∙ come.none);
          notes_are = come.notes_are;
          none_off = ap (λ (x : SeatView). x.off) seat ∙ collects.none_off;
          seat_is = seat ∙ collects.seat ∙ ap (λ (x : SeatView). with_gathered x old.seat) (sym seat);
        }

    pub closes_told : Closes old v.given v.back v.seat (m ∷ n ∷ o ∷ [])
    closes_told = closes_here

    pub latency_told : v.book.resources.latency ≡ old.book.resources.latency
    latency_told = ap (λ (x : ContextView L). x.book.resources.latency) is ∙ ap (λ b. b.resources.latency) ((leaves o c d u).book ∙ (leaves n b c t).book ∙ (leaves m a b s).book) ∙ ap (λ (x : ContextView L). x.book.resources.latency) collects.same

-- a context is closed when its bundles are collected
pub closes_collected : {L : Type 0} (admits : ℕ → ℕ → List Item → ℕ → Type 0) (views : ℕ) (old mid : ContextView L) (given : List Frame) (back : List RenderedFrame) (seat : SeatView) (notes : List (Option BackNote))
    → Collects admits views old mid → Closes mid given back seat notes → Closes old given back seat notes
closes_collected {L} admits views old mid given back seat notes collects closes = record {
  came = closes.came;
  given_is = closes.given_is ∙ ap (λ (x : ContextView L). x.given) collects.same;
  back_is = closes.back_is ∙ ap (λ (x : ContextView L). x.back ++ closes.came) collects.same;
  many = closes.many ∙ ap (λ (x : ContextView L). x.out) collects.same;
  unchanged = closes.unchanged;
  notes_are = closes.notes_are;
  none_off = closes.none_off;
  seat_is = closes.seat_is ∙ ap (with_gathered seat) collects.seat;
}
