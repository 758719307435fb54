-- What the frames that are out name stays in its place.
use Rattle.std.proofs.Common.{◌≡◌, ℕ, zero, suc, length, ◌+◌, ◌-◌, ◌<◌, ◌≤◌, List, [], ◌∷◌, ap, arith, map}
use Rattle.std.specs.List.{AllByRecursion, range_with_len}
use Rattle.gfx_model.specs.World.{Item}
use Rattle.schedule_model.specs.Machine.{Place}
use Rattle.frame_record.specs.declared.frame.Frame.{Frame}
use Rattle.frame_record.specs.declared.frame.RenderedFrame.{RenderedFrame}
use Rattle.frame_record.specs.Links.{out_of}
use Rattle.context_core.specs.Places.{Stays}
use Rattle.context_core.proofs.Stays.{all_stay, targets_stay}
use Rattle.gfx_context.specs.Kept.{KeepsNames, AreOut}

abbrev pub first_of : List ℕ → ℕ
first_of [] = 0
first_of (n ∷ ns) = n

abbrev pub rest_of : List ℕ → List ℕ
rest_of [] = []
rest_of (n ∷ ns) = ns

module _ (admits : ℕ → ℕ → List Item → ℕ → Type 0) (views : ℕ) where
  -- of frames whose numbers are those of a range
  pub frames_stay : (old new : List Place) (from count : ℕ) → ((n : ℕ) → from ≤ n → n < from + count → Stays n old new) → (fs : List Frame) → map (λ f. f.number) fs ≡ range_with_len from count
      → AllByRecursion (KeepsNames admits views old) fs → AllByRecursion (KeepsNames admits views new) fs
  frames_stay old new from count s [] e a = tt
  frames_stay old new from zero s (f ∷ fs) e a = absurd (let l = ap length e in omega arith)
  frames_stay old new from (suc count) s (f ∷ fs) e a =
      let first : f.number ≡ from = ap first_of e in
      let rest : map (λ f. f.number) fs ≡ range_with_len (from + 1) count = ap rest_of e in
      let stays : Stays f.number old new = s f.number (omega (arith, first)) (omega (arith, first)) in (
        record { recordings = all_stay admits views old new f.number stays f.recordings.items a.0.recordings; targets = targets_stay f.number old new stays f.views.settings a.0.targets },
        frames_stay old new (from + 1) count (λ n le lt. s n (omega (arith, le)) (omega (arith, lt))) fs rest a.1,
      )

  pub out_stays : (old places : List Place) (frame out : ℕ) (given : List Frame) (back : List RenderedFrame) → ((n : ℕ) → n < frame → frame ≤ n + out → Stays n old places) → AreOut admits views old frame out given back → AreOut admits views places frame out given back
  out_stays old places frame out given back s o = record {
    counted = o.counted;
    prefix = o.prefix;
    some = o.some;
    numbers = o.numbers;
    names = (let le = o.some in frames_stay old places (frame - out) out (λ n from below. s n (omega (arith, from, below, le)) (omega (arith, from, below, le))) (out_of given back) o.numbers o.names);
  }
