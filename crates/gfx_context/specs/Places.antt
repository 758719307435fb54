-- Places of the hold table and things, as its core speaks of them.
pub use Rattle.context_core.specs.Places.{place_by, place_of, IsPlaced, IsUsable, Stays}
