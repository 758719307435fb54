-- Journals that follow a given one.
use Rattle.std.proofs.Common.{◌≡◌, ℕ, List, [], length, take, Option, Some, None, refl, sym, ap, ◌∙◌, subst, arith}
use Rattle.std.proofs.lemmas.List.{length-map, take_all}
use Rattle.scene_model.specs.Scene.{Scene}
use Rattle.scene_model.specs.Fold.{FramePlan, plans}
use Rattle.scene_model.specs.Journal.{Journal, IsLawful, fault_place, serial_from, serial}
use Rattle.scene_model.proofs.FaultLaws.{fault-law}
use Rattle.scene_playing.specs.Order.{Follows}
use Rattle.scene_showing.specs.declared.showing.End.{End}
use Rattle.scene_showing.specs.declared.showing.End.TheVariants as ends
use Rattle.scene_showing.specs.Showing.{IsShowing}

-- no frame follows whatever was given
pub none_follow : (o : Option Journal) → Follows o []
none_follow None = tt
none_follow (Some read) = refl

-- where as many frames ended as the scene has, the journal is the given one
pub whole : (s : Scene) (journal read : Journal) → fault_place (plans s) read ≡ None → journal ≡ take (length journal) read → IsLawful s journal → journal ≡ read
whole s journal read none front lawful =
    let given : IsLawful s read = (fault-law s read).0 none in
    let same : length read ≡ length journal = given.1 ∙ sym lawful.1 in
    front ∙ take_all (length journal) read (omega (arith, same))

-- ---- on one thread

-- no frame is a front
pub none_front : (s : Scene) (journal : Journal) → journal ≡ [] → journal ≡ take (length journal) (serial s)
none_front s journal none = subst (λ (j : Journal). j ≡ take (length j) (serial s)) (sym none) refl

-- where all was shown, the journal is lawful
pub lawful_done : (e : End) (s : Scene) (journal : Journal) (old new : Option (List ℕ)) (f g : ℕ) → e ≡ ends.Done → IsShowing e s journal old new f g → IsLawful s journal
lawful_done e s journal old new f g done shown = (subst (λ (x : End). IsShowing x s journal old new f g) done shown).0

-- where as many frames ended as the scene has, the journal is that of one thread
pub whole_serial : (s : Scene) (journal : Journal) → length (plans s) ≡ length s.frames → journal ≡ take (length journal) (serial s) → IsLawful s journal → journal ≡ serial s
whole_serial s journal many front lawful =
    let same : length (serial s) ≡ length journal = length-map (plans s) (λ (p : FramePlan). serial_from 0 p.encoders) ∙ many ∙ sym lawful.1 in
    front ∙ take_all (length journal) (serial s) (omega (arith, same))
