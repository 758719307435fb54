-- What is found in states without contents.
pub use Rattle.context_core.proofs.Tied.{found_bare}
