pub mod Arms
pub mod Laws
pub mod Size
pub mod Waits
pub mod Reasons
