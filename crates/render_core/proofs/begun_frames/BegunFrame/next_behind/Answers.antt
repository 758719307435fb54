use Rattle.std.proofs.Common.{rules, ◌≡◌, ◌∙◌, length, sym, ap, subst}
use Rattle.frame_record.specs.declared.frame.Frame.{Frame}
use Rattle.render_stores.specs.Seen.{stores_seen}
use Rattle.render_core.specs.Begun.{IsWithin, held_seen}
use Rattle.render_core.specs.Needs.{NeedsMemory}
use Rattle.render_core.specs.Seen.{frame_seen}
use Rattle.render_core.specs.ViewParts.{parts_in}
use Rattle.render_core.specs.declared.stages.Stage.TheVariants as stages
use Rattle.render_core.proofs.Begins.{entered_draws, entered_stands, within_next}
use Rattle.render_core.proofs.begun_frames.BegunFrame.next_behind.Goals as goal

pub invariant_of-lent : goal.invariant_of-lent
invariant_of-lent g c =
    let s = c.self.inside in
    let first = stores_seen s.kept.opening.value.canvas.stores in
    let now = stores_seen s.stores in
    let stage : s.stage ≡ stages.Entered c.args.entered = search rules in
    let within : IsWithin first s.kept.frame s.desk.lists c.args.entered now = entered_stands s.stage c.args.entered first s.kept.frame s.desk.lists now stage c.self.invariant.stands in
    let begun = c.in-Begun in
    record {
      text = begun.ensures.same.1 ∙ c.self.invariant.text;
      skipped = sym (entered_draws s.stage c.args.entered stage) ∙ c.self.invariant.skipped;
      stands = within_next first s.kept.frame s.desk.lists c.begin_next.new.self.lists c.args.entered begun.entered now (held_seen c.of-pass.result.0)
          begun.ensures.same.0 within begun.ensures.next.0 begun.ensures.next.1.0 (c.of-pass.ensures ∙ begun.ensures.next.1.1);
    }

pub invariant_of-result-in-Stopped : goal.invariant_of-result-in-Stopped
invariant_of-result-in-Stopped g c =
    let s = c.self.inside in
    let stage : s.stage ≡ stages.Entered c.args.entered = search rules in
    record {
      text = c.in-Stopped.ensures.same.1 ∙ c.self.invariant.text;
      skipped = sym (entered_draws s.stage c.args.entered stage) ∙ c.self.invariant.skipped;
      stands = c.in-Stopped.ensures.next;
    }

pub returns-in-AllEntered-clause-none : goal.returns-in-AllEntered-clause-none
returns-in-AllEntered-clause-none g c =
    let opening : c.self.inside.kept.opening.value ≡ c.args.self.opening = search rules in
    let frame : c.self.inside.kept.frame ≡ c.args.self.frame = search rules in
    (opening, (frame, c.in-AllEntered.ensures.next.1 ∙ ap (λ (f : Frame). length (parts_in (frame_seen f))) frame))

pub returns-in-Stopped-clause-none : goal.returns-in-Stopped-clause-none
returns-in-Stopped-clause-none g c =
    let opening : c.self.inside.kept.opening.value ≡ c.args.self.opening = search rules in
    let frame : c.self.inside.kept.frame ≡ c.args.self.frame = search rules in
    (opening, (frame, subst NeedsMemory frame c.in-Stopped.ensures.next))
