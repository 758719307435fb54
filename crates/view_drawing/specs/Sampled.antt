-- The texels that a textured draw samples.
pub use Rattle.store_laws.specs.ByIndex.{sampled_in}
