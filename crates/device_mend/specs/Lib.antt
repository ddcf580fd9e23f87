pub mod Mend
pub mod Exact
