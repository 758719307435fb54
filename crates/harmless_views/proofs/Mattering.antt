-- Why a view is not harmless.
use Rattle.std.proofs.Common.{◌≡◌, ◌∙◌, ℕ, inl, inr, true, false, List, [], ◌∷◌, Option, Some, None, is_some, refl, sym, ap}
use Rattle.gfx_model.specs.Frames.{Entry, Recorded}
use Rattle.gfx_model.specs.World.{Draw, draw_item}
use Rattle.shared_keys.specs.Members.{In}
use Rattle.covered_rows.specs.declared.runs.Run.{Run}
use Rattle.covered_rows.specs.Apart.{HaveColumns, Meet, SomeMeet}
use Rattle.covered_rows.specs.Covering.{AddsOnly}
use Rattle.harmless_views.specs.Covers.{IsRunOf, covers_in}
use Rattle.harmless_views.specs.Checked.{Looked, own_mark, ClashesAt, IsSomeRun, Overlap, Matters}

-- the entry of a run
record From (k : Looked) (rs : List Recorded) (r : Run) : Type 0 where
  entry : Entry
  draw : Draw
  clashes : ClashesAt k rs entry (draw_item draw)
  run : IsRunOf (own_mark k entry.encoder (draw_item draw)).key entry.encoder k.stores k.view draw r

from-of : (k : Looked) (rs : List Recorded) (ns : List Entry) (r : Run) → IsSomeRun k rs ns r → From k rs r
from-of k rs [] r is = absurd is
from-of k rs (n ∷ ns) r (inl own) = record { entry = n; draw = own.0; clashes = own.1.0; run = own.1.1 }
from-of k rs (n ∷ ns) r (inr is) = from-of k rs ns r is

-- the runs of nothing but entries have columns
have-columns : (k : Looked) (rs : List Recorded) (ns : List Entry) (runs : List Run) → AddsOnly (IsSomeRun k rs ns) [] runs → HaveColumns runs
have-columns k rs ns runs adds r i = elim (adds r i) [
  | inl none ↦ absurd none
  | inr is ↦ (from-of k rs ns r is).run.some
]

own-of : (k : Looked) (rs : List Recorded) (ns : List Entry) (runs : List Run) (r : Run) → AddsOnly (IsSomeRun k rs ns) [] runs → In r runs → From k rs r
own-of k rs ns runs r adds i = elim (adds r i) [
  | inl none ↦ absurd none
  | inr is ↦ from-of k rs ns r is
]

overlap : (k : Looked) (rs : List Recorded) (ns : List Entry) (runs : List Run) → AddsOnly (IsSomeRun k rs ns) [] runs → SomeMeet runs → Overlap k rs ns
overlap k rs ns runs adds meet =
    let r : Run = meet.0 in
    let q : Run = meet.1.0 in
    let c : ℕ = meet.1.1.0 in
    let m : Meet runs r q c = meet.1.1.1 in
    let one = own-of k rs ns runs r adds m.0 in
    let two = own-of k rs ns runs q adds m.1 in
    let left = one.run.covered c m.5 in
    let right = two.run.covered c m.6 in
    record {
      first = one.entry;
      second = two.entry;
      a = one.draw;
      b = two.draw;
      left = one.clashes;
      right = two.clashes;
      key = sym one.run.key_is ∙ m.2 ∙ two.run.key_is;
      apart = λ e. m.4 (one.run.encoder_is ∙ e ∙ sym two.run.encoder_is);
      x = c;
      y = r.row;
      wide = left.0;
      high = one.run.low;
      covers_left = left.1;
      covers_right = ap (covers_in k.stores k.view two.draw c) m.3 ∙ right.1;
    }

-- where runs of nothing but entries meet, draws overlap
pub meet-matters : (k : Looked) (rs : List Recorded) (ns : List Entry) (runs : List Run) → AddsOnly (IsSomeRun k rs ns) [] runs → (HaveColumns runs → SomeMeet runs) → Matters k rs ns
meet-matters k rs ns runs adds meet = inr (inr (overlap k rs ns runs adds (meet (have-columns k rs ns runs adds))))

pub no-target : {A : Type 0} (o : Option A) → is_some o ≡ false → o ≡ None
no-target None e = refl
no-target (Some x) e = absurd (cc e)

-- a view that draws into a frame buffer
pub target-matters : (k : Looked) (rs : List Recorded) (ns : List Entry) → is_some k.view.target ≡ true → Matters k rs ns
target-matters k rs ns is = inl (λ none. clash (sym is ∙ ap is_some none))
  where
    clash : true ≡ false → ⊥
    clash e = cc e
