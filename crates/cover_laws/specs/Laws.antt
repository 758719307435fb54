-- The law of covers.
use Rattle.std.specs.Prelude.{◌≡◌, ◌≤◌, List, [], ◌∷◌, map, length, ⊤}
use Rattle.gfx_model.specs.World.{World, begin_frame, frame_step, first_world}
use Rattle.scene_model.specs.Scene.{Scene}
use Rattle.scene_model.specs.Fold.{FramePlan, plans}
use Rattle.scene_model.specs.Journal.{Journal, IsLawful, frame_content, pictures}
use Rattle.cover_laws.specs.Covered.{IsHarmlessFrame}

-- each frame that a journal has is harmless in the world in which its items begin
abbrev pub AreHarmless : World → List FramePlan → Journal → Type 0
AreHarmless w [] j = ⊤
AreHarmless w (p ∷ ps) [] = ⊤
AreHarmless w (p ∷ ps) (entries ∷ rest) = IsHarmlessFrame (begin_frame p.gone p.changes w) p × AreHarmless (frame_step w (frame_content p entries)) ps rest

-- a scene by a journal: no two items of different encoders and equal keys cover a pixel in common
abbrev pub IsHarmless : Scene → Journal → Type 0
IsHarmless s j = AreHarmless (first_world s.width s.height) (plans s) j

-- where a scene is harmless by one lawful journal, each other lawful journal gives the same pictures
abbrev pub CoverLaw : Type 0
CoverLaw = (s : Scene) (j k : Journal) → IsHarmless s j → IsLawful s j → IsLawful s k → pictures s j ≡ pictures s k

-- items do not change what draws cover: where a scene is harmless by one journal, lawful or not, it is so by each other that is not longer
abbrev pub AnyJournalLaw : Type 0
AnyJournalLaw = (s : Scene) (j k : Journal) → length k ≤ length j → IsHarmless s j → IsHarmless s k

-- the journal by which each frame has no item
abbrev pub no_items : Scene → Journal
no_items s = map (λ p. []) (plans s)

-- so the worlds can be taken in which nothing is drawn: where a scene is harmless in these, any two lawful journals give the same pictures
abbrev pub BareLaw : Type 0
BareLaw = (s : Scene) (j k : Journal) → IsHarmless s (no_items s) → IsLawful s j → IsLawful s k → pictures s j ≡ pictures s k
