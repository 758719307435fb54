-- What is known of the recordings that were collected, as its core speaks of them.
pub use Rattle.context_core.specs.Gathered.{AdmitsAll, encoders_in, dropped_in, once_below, IsCollected, AreCollected, AreGathered, with_gathered, AreOfFrame}
