-- Deeds that are traced one after another.
use Rattle.std.proofs.Common.{◌≡◌, ◌∙◌, ◌<◌, ◌≤◌, ℕ, ◌+◌, List, [], ◌∷◌, ◌++◌, map, length, drop, get_or, Option, Some, refl, sym, ap}
use Rattle.std.proofs.lemmas.List.{append_assoc}
use Rattle.gfx_model.specs.Words.{Handle}
use Rattle.store_laws.specs.ByIndex.{Stores}
use Rattle.trace_laws.specs.ByIndex.{stores_after}
use Rattle.trace_laws.specs.Deeds.{Deed}
use Rattle.trace_laws.proofs.Lists.{append-none}
use Rattle.frame_steps.specs.Doing.{stores_after_some}
use Rattle.frame_blame.proofs.Draws.{drop-next, drop-past}
use Rattle.target_laws.specs.Targets.{TargetMade}
use Rattle.target_laws.specs.ByIndex.{target_strokes_in, target_history_in}
use Rattle.target_tracing.specs.Seen.{target_made_of}
use Rattle.target_tracing.specs.Tracing.{strokes_of_some, history_of_these, Adds}

module _ (t : Handle) (x y : ℕ) where
  -- where each deed is there
  pub history-each : (n : ℕ) (h : Stores) (ds : List Deed) → history_of_these t x y n h (map Some ds) ≡ target_history_in t x y n h ds
  history-each n h [] = refl
  history-each n h (d ∷ ds) = ap (λ (ms : List TargetMade). map (target_made_of n) (target_strokes_in t x y h d) ++ ms) (history-each (n + 1) (stores_after h d) ds)

  module _ {D : Type 0} (deed : D → Option Deed) where
    pub trace-next : (ds : List D) (n : ℕ) (d : D) (h g : Stores) (now next all : List TargetMade) → n < length ds → get_or ds n d ≡ d
        → now ++ history_of_these t x y n h (map deed (drop n ds)) ≡ all → Adds t x y n h (deed d) now next g → next ++ history_of_these t x y (n + 1) g (map deed (drop (n + 1) ds)) ≡ all
    trace-next ds n d h g now next all lt is before adds =
        let o : Option Deed = deed d in
        let after : Stores = stores_after_some h o in
        let own : List TargetMade = map (target_made_of n) (strokes_of_some t x y h o) in
        let rest : List TargetMade = history_of_these t x y (n + 1) after (map deed (drop (n + 1) ds)) in
        ap (λ (ms : List TargetMade). ms ++ history_of_these t x y (n + 1) g (map deed (drop (n + 1) ds))) adds.made
        ∙ ap (λ u. (now ++ own) ++ history_of_these t x y (n + 1) u (map deed (drop (n + 1) ds))) adds.done
        ∙ append_assoc now own rest
        ∙ ap (λ es. now ++ history_of_these t x y n h (map deed es)) (sym (drop-next ds n d lt ∙ ap (λ e. e ∷ drop (n + 1) ds) is))
        ∙ before

    pub trace-past : (ds : List D) (n : ℕ) (h : Stores) (now all : List TargetMade) → length ds ≤ n → now ++ history_of_these t x y n h (map deed (drop n ds)) ≡ all → now ≡ all
    trace-past ds n h now all le before = sym (append-none now) ∙ ap (λ es. now ++ history_of_these t x y n h (map deed es)) (sym (drop-past ds n le)) ∙ before
