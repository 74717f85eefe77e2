pub mod Gates
pub mod Count
