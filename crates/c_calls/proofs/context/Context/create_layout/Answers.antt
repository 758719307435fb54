use Rattle.std.proofs.Common.{refl}
use Rattle.c_words.specs.Layouts.{parts_of}
use Rattle.c_calls.proofs.MadeLayouts.{layout_made, layout_refused}
use Rattle.c_calls.proofs.context.Context.create_layout.Goals as goal

pub returns-in-Ok : goal.returns-in-Ok
returns-in-Ok c = layout_made c.make_layout.result c.args.self.now c.make_layout.new.self (parts_of c.args.parts.now) c.in-Ok.layout c.in-Ok.ensures c.make_layout.ensures

pub returns-in-Err : goal.returns-in-Err
returns-in-Err c = layout_refused _ c.args.self.now _ (parts_of c.args.parts.now) c.in-Err.fault c.in-Err.ensures refl refl
