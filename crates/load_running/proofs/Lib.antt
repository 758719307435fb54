pub mod Noting
pub mod LineLaws
pub mod JoinLaws
pub mod Ends
