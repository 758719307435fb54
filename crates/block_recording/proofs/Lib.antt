pub mod LineLaws
pub mod Folds
pub mod Ready
pub mod OnTheWay
pub mod Items
