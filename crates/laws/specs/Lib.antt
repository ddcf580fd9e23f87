pub mod Pick
pub mod Low
pub mod Over
