-- Indices that take a new thing.
pub use Rattle.store_laws.specs.ByIndex.{is_free}
