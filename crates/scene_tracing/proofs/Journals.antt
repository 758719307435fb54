-- The journal of a play that gave all frames is the one that was asked for.
use Rattle.std.proofs.Common.{◌≡◌, ℕ, Bool, true, List, length, take, Option, Some, None, refl, sym, ◌∙◌, arith}
use Rattle.std.proofs.lemmas.List.{length-map, take_all}
use Rattle.scene_model.specs.Scene.{Scene}
use Rattle.scene_model.specs.Fold.{FramePlan, plans}
use Rattle.scene_model.specs.Journal.{Journal, IsLawful, fault_place, serial_from, serial}
use Rattle.scene_model.proofs.FaultLaws.{fault-law}
use Rattle.scene_progress.specs.Laws.{LawfulCountLaw, PlanCountLaw}
use Rattle.frame_record.specs.declared.frame.Frame.{Frame}
use Rattle.scene_playing.specs.Frames.{AreEnded}
use Rattle.scene_playing.specs.Order.{Follows}
use Rattle.scene_tracing.specs.Asked.{journal_asked, IsLawfulOrder}

-- where all frames were given, the journal is lawful, and has one list for each
pub lawful-whole : (s : Scene) (given : List Frame) (j : Journal) (notes : List (ℕ × ℕ)) (is_whole : Bool) → LawfulCountLaw → is_whole ≡ true → AreEnded s given j notes is_whole → IsLawful s j
lawful-whole s given j notes is_whole law whole ended =
    let all = ended.whole whole in
    let few = ended.few.0 in
    let most = law s j ended.lawful in
    (ended.lawful, omega (arith, all, few, most))

of-order : (s : Scene) (j read : Journal) → fault_place (plans s) read ≡ None → j ≡ take (length j) read → IsLawful s j → j ≡ read
of-order s j read none front lawful =
    let given : IsLawful s read = (fault-law s read).0 none in
    let same : length read ≡ length j = given.1 ∙ sym lawful.1 in
    front ∙ take_all (length j) read (omega (arith, same))

of-serial : (s : Scene) (j : Journal) → PlanCountLaw → j ≡ take (length j) (serial s) → IsLawful s j → j ≡ serial s
of-serial s j many front lawful =
    let same : length (serial s) ≡ length j = length-map (plans s) (λ (p : FramePlan). serial_from 0 p.encoders) ∙ many s ∙ sym lawful.1 in
    front ∙ take_all (length j) (serial s) (omega (arith, same))

pub asked-journal : (s : Scene) (o : Option Journal) (j : Journal) → PlanCountLaw → IsLawful s j → IsLawfulOrder s o → Follows o j → (o ≡ None → Follows (Some (serial s)) j) → j ≡ journal_asked s o
asked-journal s None j many lawful order follows alone = of-serial s j many (alone refl) lawful
asked-journal s (Some read) j many lawful order follows alone = of-order s j read order follows lawful
