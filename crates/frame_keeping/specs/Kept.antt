-- What a link that keeps frames has.
use Rattle.std.specs.Prelude.{ℕ, List}
use Rattle.frame_record.specs.declared.frame.Frame.{Frame}
use Rattle.frame_record.specs.declared.frame.RenderedFrame.{RenderedFrame}
use Rattle.frame_keeping.specs.declared.keeping.KeepingLink.{KeepingLink}

-- the frames that were given, in order
abbrev pub given_by : KeepingLink → List Frame
given_by l = l.seat.me.0.given

-- the frames that came back, in order
abbrev pub back_by : KeepingLink → List RenderedFrame
back_by l = l.seat.me.0.back

-- how many frames can be out
abbrev pub latency_of : KeepingLink → ℕ
latency_of l = l.latency
