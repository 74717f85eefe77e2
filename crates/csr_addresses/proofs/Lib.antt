pub mod Find
pub mod Laws
