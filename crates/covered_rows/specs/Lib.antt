pub mod Apart
pub mod Sweep
pub mod Covering
