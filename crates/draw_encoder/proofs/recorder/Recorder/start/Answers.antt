use Rattle.std.proofs.Common.{sym, refl, subst}
use Rattle.hold_table.specs.Seats.{enc_view}
use Rattle.schedule_model.specs.Held.{Ascends}
use Rattle.draw_encoder.specs.Seen.{room_seen}
use Rattle.draw_encoder.specs.TapeViews.{TapeView, new_tape}
use Rattle.draw_encoder.specs.Encoders.{IsOf}
use Rattle.draw_encoder.proofs.recorder.Recorder.start.Goals as goal

pub invariant_of-result : goal.invariant_of-result
invariant_of-result c =
    let r = c.requires in
    let new : IsOf (enc_view c.args.seat) (new_tape c.args.frame c.args.views (room_seen c.args.room)) = record {
      frame = r.whose.1;
      views = r.views;
      ascends = subst Ascends (sym r.fresh.0) tt;
      numbers = sym r.fresh.0;
      count = refl;
      most = r.room.1;
      fits = record { vertices = tt; indices = tt; textures = (tt, (tt, tt)); pending = tt; items = tt };
      sets = tt;
    } in
    (r.whose.0, subst (λ (t : TapeView). IsOf (enc_view c.args.seat) t) (sym c.in-Ok.ensures) new)
