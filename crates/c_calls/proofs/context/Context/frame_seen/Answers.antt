use Rattle.std.proofs.Common.{inl, inr, refl, arith}
use Rattle.c_calls.proofs.Frames.{delivered_told, enough_still}
use Rattle.c_calls.proofs.context.Context.frame_seen.Goals as goal

pub returns-then-buffer-most : goal.returns-then-buffer-most
returns-then-buffer-most c =
    let lt = c.if-buffer-most.true in
    let most = c.most.ensures in
    inl (refl, omega (arith, lt, most), refl, refl)

pub deliver-requires : goal.deliver-requires
deliver-requires c =
    let enough = c.if-buffer-most.false in
    let most = c.most.ensures in
    let m = c.in-Ok.ensures in
    enough_still m.1 c.in-Ok.dropped c.args.buffer.now c.args.buffer.now c.args.self.now m.0 c.make.new.self c.requires (omega (arith, enough, most)) m.3 m.4

pub returns-in-Err : goal.returns-in-Err
returns-in-Err c =
    let enough = c.if-buffer-most.false in
    let most = c.most.ensures in
    inr (omega (arith, enough, most), inl (c.in-Err.ensures, refl))

pub returns-in-Ok : goal.returns-in-Ok
returns-in-Ok c =
    let enough = c.if-buffer-most.false in
    let most = c.most.ensures in
    let m = c.in-Ok.ensures in
    delivered_told m.1 c.in-Ok.dropped c.args.buffer.now c.deliver.new.buffer c.args.self.now m.0 c.make.new.self c.requires (omega (arith, enough, most)) m.3 c.deliver.result (c.deliver.ensures m.1 m.0 m.2 m.4)
