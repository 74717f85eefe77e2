pub mod Table
pub mod State
