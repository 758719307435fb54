-- A view of a table.
use Rattle.std.proofs.Common.{◌≡◌, ℕ, List, sym, subst}
use Rattle.gfx_model.specs.Frames.{Entry, Recorded}
use Rattle.gfx_model.specs.Views.{View, Views, view_at}
use Rattle.store_laws.specs.ByIndex.{Stores}
use Rattle.shared_keys.specs.declared.marks.Mark.{Mark}
use Rattle.harmless_views.specs.Checked.{Looked, AllThere, Matters}
use Rattle.harmless_views.specs.Left.{IsJudged}
use Rattle.harmless_views.specs.Seen.{ViewJudged, ViewMatters}

-- what a view is looked at with
abbrev pub with_view : Stores → Views → List Mark → ℕ → View → Looked
with_view h vs marks v view = record { stores = h; views = vs; view = view; number = v; marks = marks }

pub judged-there : (h : Stores) (vs : Views) (marks : List Mark) (rs : List Recorded) (entries : List Entry) (v : ℕ) (view : View) → view ≡ view_at vs v → IsJudged (with_view h vs marks v view) rs entries → ViewJudged h vs marks rs entries v
judged-there h vs marks rs entries v view is judged = subst (λ (z : View). IsJudged (with_view h vs marks v z) rs entries) is judged

pub matters-there : (h : Stores) (vs : Views) (marks : List Mark) (rs : List Recorded) (entries : List Entry) (v : ℕ) (view : View) → view ≡ view_at vs v
    → (AllThere (with_view h vs marks v view) rs entries → Matters (with_view h vs marks v view) rs entries) → ViewMatters h vs marks rs entries v
matters-there h vs marks rs entries v view is matters low there =
    subst (λ (z : View). Matters (with_view h vs marks v z) rs entries) is (matters (subst (λ (z : View). AllThere (with_view h vs marks v z) rs entries) (sym is) there))
