-- Payloads as the definitions see them.
pub use Rattle.cmd_buffer.specs.Payloads.{payloads_seen}
